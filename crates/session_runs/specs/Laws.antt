-- What holds of touches, of points and of what lies between them.
use Rattle.std.specs.Prelude.{◌≡◌, ℕ, ◌+◌, List, [], ◌++◌, map, Option}
use Rattle.arn_base.specs.declared.disk.Disk.{Ghosts}
use Rattle.arn_base.specs.declared.records.Record.{Record}
use Rattle.guest_legs.specs.Legs.{Picked, input_of}
use Rattle.history_model.specs.Unplugged.{unplugged_in}
use Rattle.log_model.specs.Records.{named}
use Rattle.log_store.specs.Stores.{StoreState}
use Rattle.session_effects.specs.Standing.{Carries, IsOpen}
use Rattle.session_effects.specs.declared.halt.Halt.{Halt}
use Rattle.session_runs.specs.Turns.{Point}
use Rattle.session_runs.specs.Points.{Advances, Stops, Surroundings}
use Rattle.session_runs.specs.Touches.{Answering, Touch, TouchedBy, named_at, unplugs_in}

-- touches unplug what those unplug of which they are made
abbrev pub UnplugsFollow : Type 0
UnplugsFollow = (touches more : List Touch) → unplugs_in (touches ++ more) ≡ unplugs_in touches ++ unplugs_in more

-- records that name slices alone unplug nothing
abbrev pub SlicesUnplugNothing : Type 0
SlicesUnplugNothing = (entries : List Record) (slices : List Picked) → named entries ≡ map input_of slices → unplugged_in entries ≡ []

-- touches follow one another, with the slices of both
pub record TouchesFollow {A : Type 0} (who : Answering A) : Type 0 where
  pub touched :
      (touches more : List Touch) (slices others : List Picked) (old between new : A)
      → TouchedBy who touches slices old between → TouchedBy who more others between new → TouchedBy who (touches ++ more) (slices ++ others) old new
  pub unplugs : UnplugsFollow

module _ {D A : Type 0} (is_run : List Record → Type 0) (d : Ghosts D) (who : Answering A) where
  -- a session went on from one point to another by these slices, as the log names them, and by these touches
  pub record AdvancesBy (from to : Point) (u v : Surroundings A) (cost : ℕ) (old new : D) (s0 s1 : StoreState) (h0 h1 : Option (List ℕ)) (taken : List Picked) (made : List Touch) : Type 0 where
    pub advances : Advances who from to u v cost (Carries is_run d old new s0 s1 h0 h1)
    pub slices : named_at advances.touches advances.slices ≡ taken
    pub touches : advances.touches ≡ made

  -- it halted behind a point by these
  pub record StopsBy (from : Point) (u v : Surroundings A) (cost : ℕ) (old new : D) (history : List Record) (h0 h1 : Option (List ℕ)) (why : Halt) (taken : List Picked) (made : List Touch) : Type 0 where
    pub stops : Stops is_run d who old new history h0 h1 why from u v cost
    pub slices : named_at stops.touches stops.slices ++ named_at stops.lost_touches stops.lost ≡ taken
    pub touches : stops.touches ++ stops.lost_touches ≡ made

  -- nothing lies between a point and itself
  abbrev pub NothingAdvances : Type 0
  NothingAdvances = (at : Point) (now : Surroundings A) (disk : D) (store : StoreState) (held : Option (List ℕ)) → IsOpen d store disk → Advances who at at now now 0 (Carries is_run d disk disk store store held held)

  -- what lies between two points, and between the second and a third
  abbrev pub AdvancesFollow : Type 0
  AdvancesFollow =
      (a b c : Point) (u v w : Surroundings A) (cost more : ℕ) (old mid new : D) (s0 s1 s2 : StoreState) (h0 h1 h2 : Option (List ℕ))
      (p : Advances who a b u v cost (Carries is_run d old mid s0 s1 h0 h1)) (q : Advances who b c v w more (Carries is_run d mid new s1 s2 h1 h2))
      → AdvancesBy a c u w (cost + more) old new s0 s2 h0 h2 (named_at p.touches p.slices ++ named_at q.touches q.slices) (p.touches ++ q.touches)

  -- a session that goes on to a point and halts behind it halts behind where it began
  abbrev pub StopsBehind : Type 0
  StopsBehind =
      (a b : Point) (u v w : Surroundings A) (cost more : ℕ) (old mid new : D) (s0 s1 : StoreState) (h0 h1 h2 : Option (List ℕ)) (why : Halt)
      (p : Advances who a b u v cost (Carries is_run d old mid s0 s1 h0 h1)) (q : Stops is_run d who mid new s1.entries h1 h2 why b v w more)
      → StopsBy a u w (cost + more) old new s0.entries h0 h2 why (named_at p.touches p.slices ++ (named_at q.touches q.slices ++ named_at q.lost_touches q.lost)) (p.touches ++ (q.touches ++ q.lost_touches))

-- points follow one another, and so do the slices and touches between them
pub record PointsFollow {D A : Type 0} (is_run : List Record → Type 0) (d : Ghosts D) (who : Answering A) : Type 0 where
  pub nothing : NothingAdvances is_run d who
  pub advances : AdvancesFollow is_run d who
  pub stops : StopsBehind is_run d who
