-- Points of a session told in another way, and where nothing more is done.
use Rattle.std.proofs.Common.{◌≡◌, ◌⊎◌, inl, inr, ℕ, ◌+◌, ◌≤◌, ◌++◌, List, [], Option, Some, None, IfSome, option_map, slice_get, refl, sym, ap, ◌∙◌, subst, append_assoc, append-nil, arith}
use Rattle.std.proofs.lemmas.Grind.{flat_map-append}
use Rattle.arn_base.specs.declared.boxes.Choice.{Choice}
use Rattle.arn_base.specs.declared.disk.Disk.{Ghosts}
use Rattle.arn_base.specs.declared.records.Record.{Record}
use Rattle.log_model.specs.Records.{IsRun}
use Rattle.guest_legs.specs.Legs.{Ask, Picked, PickedBy, brought}
use Rattle.session_effects.specs.Carrying.{IsAtCommit, StopsBetween}
use Rattle.session_effects.specs.Effects.{Effect, committed, records_of}
use Rattle.session_effects.specs.Laws.{HaltsFollow}
use Rattle.session_effects.specs.declared.halt.Halt.{Halt}
use Rattle.session_runs.specs.Laws.{PointsFollow, TouchesFollow}
use Rattle.session_runs.specs.Points.{Advances, EndsWithin, IsSpent, Stops, Surroundings}
use Rattle.session_runs.specs.Touches.{Answering, Touch, named_at}
use Rattle.session_runs.specs.Turns.{Point, Turn, behind, finished}
use Rattle.session_text.specs.Gone.{GoneLaws}
use Rattle.session_text.proofs.TouchLemmas.{Keeps}

-- what holds of touches and of points that follow one another, of halts, and of which devices are there and which are gone
pub record Laws {D A : Type 0} (d : Ghosts D) (who : Answering A) : Type 0 where
  pub touches : TouchesFollow who
  pub points : PointsFollow IsRun d who
  pub halts : HaltsFollow IsRun d
  pub kept : Keeps who
  pub gone : GoneLaws

pub laws-of : {D A : Type 0} {d : Ghosts D} {who : Answering A} → TouchesFollow who → PointsFollow IsRun d who → HaltsFollow IsRun d → Keeps who → GoneLaws → Laws d who
laws-of touches points halts kept gone = record { touches = touches; points = points; halts = halts; kept = kept; gone = gone }

turn-of : (e e' : List Effect) (a a' : List Touch) (l : Option (List Picked)) → e ≡ e' → a ≡ a' → (let t : Turn = record { effects = e; touches = a; left = l } in t) ≡ (let t : Turn = record { effects = e'; touches = a'; left = l } in t)
turn-of e e' a a' l p q =
    ap (λ (x : List Effect). let t : Turn = record { effects = x; touches = a; left = l } in t) p ∙ ap (λ (x : List Touch). let t : Turn = record { effects = e'; touches = x; left = l } in t) q

pub behind-behind : (e e' : List Effect) (a a' : List Touch) (t : Turn) → behind e a (behind e' a' t) ≡ behind (e ++ e') (a ++ a') t
behind-behind e e' a a' t = turn-of _ _ _ _ _ (sym (append_assoc e e' t.effects)) (sym (append_assoc a a' t.touches))

-- nothing comes behind a turn
pub behind-finished : (t : Turn) (rest : List Picked) → t.left ≡ Some rest → behind t.effects t.touches (finished rest) ≡ t
behind-finished t rest is =
    turn-of _ _ _ _ _ (append-nil t.effects) (append-nil t.touches) ∙ ap (λ (l : Option (List Picked)). let s : Turn = record { effects = t.effects; touches = t.touches; left = l } in s) (sym is)

pub committed-append : (xs ys : List Effect) → committed (xs ++ ys) ≡ committed xs ++ committed ys
committed-append xs ys = flat_map-append records_of xs ys

-- the k-th slice is the k-th choice brought into range
abbrev IsPicked : Option Choice → List Ask → List Picked → ℕ → Type 0
IsPicked told asks slices k = IfSome told (λ choice. option_map (λ s. s.pick) (slice_get slices k) ≡ option_map (λ ask. brought ask choice) (slice_get asks k))

-- no choice was taken
pub PickedBy-none : (before after : ℕ → Option Choice) → ((k : ℕ) → after k ≡ before k) → PickedBy before after [] []
PickedBy-none before after same = record { many = refl; each = λ k. nothing (before k) k; later = λ k. same k ∙ ap before (omega arith) }
  where
    nothing : (o : Option Choice) (k : ℕ) → IsPicked o [] [] k
    nothing None k = tt
    nothing (Some choice) k = refl

-- the choices of slices, as they come in two ways
pub PickedBy-same : (before after now : ℕ → Option Choice) (asks : List Ask) (slices : List Picked) → ((k : ℕ) → now k ≡ after k) → PickedBy before after asks slices → PickedBy before now asks slices
PickedBy-same before after now asks slices same p = record { many = p.many; each = p.each; later = λ k. same k ∙ p.later k }

module _ {A : Type 0} (who : Answering A) where
  -- the points, and what was carried out, may be told in another way
  abbrev pub Advances-as : (a a' b b' : Point) (u v : Surroundings A) (cost : ℕ) (carried now : List Effect → Type 0) (p : Advances who a b u v cost carried) → ((rest : List Picked) → a' (named_at p.touches p.slices ++ rest) ≡ behind p.effects p.touches (b' rest)) → now p.effects → Advances who a' b' u v cost now
  Advances-as a a' b b' u v cost carried now p leads carries = record {
    slices = p.slices;
    touches = p.touches;
    effects = p.effects;
    leads = leads;
    names = p.names;
    unplugged = p.unplugged;
    begins = p.begins;
    carries = carries;
    picked = p.picked;
    in_range = p.in_range;
    touched = p.touched;
    executed = p.executed;
  }

pub without-along : (a a' : Point) (lost : List Picked) (done : List Effect) (taken : List Picked) → a' taken ≡ a taken → (lost ≡ []) ⊎ EndsWithin done (a taken) → (lost ≡ []) ⊎ EndsWithin done (a' taken)
without-along a a' lost done taken same (inl none) = inl none
without-along a a' lost done taken same (inr cut) = inr (subst (λ (t : Turn). EndsWithin done t) (sym same) cut)

pub no-commit : (entries : List Record) → IsAtCommit [] entries → ⊥
no-commit entries at = let e = at.is_commit in cc

module _ {D A : Type 0} (d : Ghosts D) (who : Answering A) where
  -- the point may be told in another way, it may have cost more, and the disk may have been another
  abbrev pub Stops-as : (a a' : Point) (u v : Surroundings A) (cost most : ℕ) (old mid new : D) (history : List Record) (h0 h1 : Option (List ℕ)) (why : Halt) → ((slices : List Picked) → a' slices ≡ a slices) → cost ≤ most → (q : Stops IsRun d who mid new history h0 h1 why a u v cost) → StopsBetween IsRun d old new history h0 h1 why q.done q.undone → Stops IsRun d who old new history h0 h1 why a' u v most
  Stops-as a a' u v cost most old mid new history h0 h1 why same dear q stopped = record {
    slices = q.slices;
    lost = q.lost;
    part = q.part;
    touches = q.touches;
    lost_touches = q.lost_touches;
    part_touches = q.part_touches;
    done = q.done;
    undone = q.undone;
    are_effects = ap (λ (t : Turn). t.effects) (same (named_at q.touches q.slices ++ named_at q.lost_touches q.lost)) ∙ q.are_effects;
    are_touches = ap (λ (t : Turn). t.touches) (same (named_at q.touches q.slices ++ (named_at q.lost_touches q.lost ++ q.part))) ∙ q.are_touches;
    stopped = stopped;
    names = q.names;
    unplugged = q.unplugged;
    begins = q.begins;
    names_lost = q.names_lost;
    unplugged_lost = q.unplugged_lost;
    without = without-along a a' q.lost q.done (named_at q.touches q.slices) (same (named_at q.touches q.slices)) q.without;
    spent = subst (λ (o : Option (List Picked)). IsSpent q.lost q.undone o) (sym (ap (λ (t : Turn). t.left) (same (named_at q.touches q.slices ++ named_at q.lost_touches q.lost)))) q.spent;
    many = q.many;
    picked = q.picked;
    in_range = q.in_range;
    touched = q.touched;
    one_part = q.one_part;
    by_memory = q.by_memory;
    unmade = q.unmade;
    executed = omega (arith, q.executed, dear);
  }

  abbrev pub Stops-along : (a a' : Point) (u v : Surroundings A) (cost : ℕ) (old new : D) (history : List Record) (h0 h1 : Option (List ℕ)) (why : Halt) → ((slices : List Picked) → a' slices ≡ a slices) → Stops IsRun d who old new history h0 h1 why a u v cost → Stops IsRun d who old new history h0 h1 why a' u v cost
  Stops-along a a' u v cost old new history h0 h1 why same q = Stops-as a a' u v cost cost old old new history h0 h1 why same (omega arith) q q.stopped

  abbrev pub Stops-dearer : (a : Point) (u v : Surroundings A) (cost most : ℕ) (old new : D) (history : List Record) (h0 h1 : Option (List ℕ)) (why : Halt) → cost ≤ most → Stops IsRun d who old new history h0 h1 why a u v cost → Stops IsRun d who old new history h0 h1 why a u v most
  Stops-dearer a u v cost most old new history h0 h1 why dear q = Stops-as a a u v cost most old old new history h0 h1 why (λ slices. refl) dear q q.stopped

  -- nothing more was to be done, and nothing was
  abbrev pub Stops-finished : (u v : Surroundings A) (cost : ℕ) (disk disk' : D) (history : List Record) (h0 h1 : Option (List ℕ)) (why : Halt) → disk' ≡ disk → h1 ≡ h0 → ((k : ℕ) → v.choices k ≡ u.choices k) → v.answers ≡ u.answers → v.steps ≤ u.steps + cost → StopsBetween IsRun d disk disk history h0 h0 why [] [] → Stops IsRun d who disk disk' history h0 h1 why finished u v cost
  Stops-finished u v cost disk disk' history h0 h1 why same_disk same_held choices answers cheap stopped = record {
    slices = [];
    lost = [];
    part = [];
    touches = [];
    lost_touches = [];
    part_touches = [];
    done = [];
    undone = [];
    are_effects = refl;
    are_touches = refl;
    stopped =
        subst (λ (x : D). StopsBetween IsRun d disk x history h0 h1 why [] []) (sym same_disk)
        (subst (λ (x : Option (List ℕ)). StopsBetween IsRun d disk disk history h0 x why [] []) (sym same_held) stopped);
    names = refl;
    unplugged = refl;
    begins = refl;
    names_lost = λ entries at. absurd (no-commit entries at);
    unplugged_lost = λ entries at. absurd (no-commit entries at);
    without = inl refl;
    spent = inr (refl, inr refl);
    many = refl;
    picked = PickedBy-none u.choices v.choices choices;
    in_range = tt;
    touched = (refl, answers);
    one_part = omega arith;
    by_memory = inl refl;
    unmade = inl refl;
    executed = omega (arith, cheap);
  }
