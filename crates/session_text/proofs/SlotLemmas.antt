-- What surrounds a machine, seen otherwise where devices answer.
use Rattle.std.proofs.Common.{◌≡◌, inl, inr, ℕ, ◌++◌, ◌&&◌, not, Bool, List, [], ◌∷◌, Option, Result, Ok, Err, OnOk, IfErr, sym, ap, ◌∙◌}
use Rattle.std.proofs.lemmas.Option.{IfSome_then}
use Rattle.arn_base.specs.declared.disk.Disk.{Ghosts}
use Rattle.arn_base.specs.declared.records.Record.{Record}
use Rattle.parts_model.specs.Replies.{Answered}
use Rattle.arn_commands.specs.Parts.{Part, text_parts, whole_parts}
use Rattle.log_model.specs.Records.{IsRun}
use Rattle.log_store.specs.Stores.{StoreState}
use Rattle.guest_devices.specs.Answers.{Asked}
use Rattle.guest_legs.specs.Legs.{Picked}
use Rattle.session_effects.specs.Effects as effects
use Rattle.session_effects.specs.declared.halt.Halt.{Halt}
use Rattle.session_runs.specs.Points.{Advances, Stops, Surroundings, around}
use Rattle.session_runs.specs.Touches.{Answering, Touch, AtSlice, AtUnplug, TouchedBy}
use Rattle.session_runs.specs.Turns.{Point}
use Rattle.session_runs.specs.Standing.{standpoint}
use Rattle.session_text.specs.Answered.{AnswersParts, AnswersTaken}
use Rattle.session_text.specs.CutOff.{BeginsText, FindsOut}
use Rattle.session_text.specs.Gone.{WereTouched, unplugs_it}
use Rattle.session_text.specs.Leaves.{Leaves, Scene}
use Rattle.session_commands.specs.Given.{Given}
use Rattle.session_text.specs.Begun.{BeginsOn, FindsOn, Standing, standing, store_of}
use Rattle.session_text.proofs.ReplyLemmas.{RepliesIn-seen, RepliesIn-stays}

-- what follows of a call that succeeded, of one that failed
pub OnOk-then : {T E P Q : Type 0} (r : Result T E) → OnOk r P → (P → Q) → OnOk r Q
OnOk-then (Ok t) p then = then p
OnOk-then (Err e) p then = tt

pub IfErr-then : {T E : Type 0} {P Q : E → Type 0} (r : Result T E) → IfErr r P → ((e : E) → P e → Q e) → IfErr r Q
IfErr-then (Ok t) p then = tt
IfErr-then (Err e) p then = then e p

-- those who answer for devices, seen otherwise
module _ {A B : Type 0} (here : A) (who : Answering A) (there : Answering B) (see : A → B) (answered : (a : A) (asked : Asked) (answer : Answered) (a' : A) → who.answers a asked answer a' → there.answers (see a) asked answer (see a')) (unplugged : (n : ℕ) (a a' : A) → who.unplugs n a a' → there.unplugs n (see a) (see a')) where
  pub TouchedBy-seen : (touches : List Touch) (slices : List Picked) (a a' : A) → TouchedBy who touches slices a a' → TouchedBy there touches slices (see a) (see a')
  TouchedBy-seen [] slices a a' p = (p.0, ap see p.1)
  TouchedBy-seen (AtUnplug n ∷ touches) slices a a' p = (see p.0, unplugged n a p.0 p.1, TouchedBy-seen touches slices p.0 a' p.2)
  TouchedBy-seen (AtSlice ask ∷ touches) [] a a' p = absurd p
  TouchedBy-seen (AtSlice ask ∷ touches) (s ∷ slices) a a' p = (
    see p.0,
    RepliesIn-seen who.answers there.answers see answered s.pick.count s.pick.pid ask.machine s.reply a p.0 p.1,
    TouchedBy-seen touches slices p.0 a' p.2,
  )

  -- the surroundings
  abbrev pub see_around : Surroundings A → Surroundings B
  see_around s = around s.choices (see s.answers) s.steps

  abbrev pub Advances-seen : (from to : Point) (u v : Surroundings A) (cost : ℕ) (carried : List effects.Effect → Type 0) → Advances who from to u v cost carried → Advances there from to (see_around u) (see_around v) cost carried
  Advances-seen from to u v cost carried p = record {
    slices = p.slices;
    touches = p.touches;
    effects = p.effects;
    leads = p.leads;
    names = p.names;
    unplugged = p.unplugged;
    begins = p.begins;
    carries = p.carries;
    picked = p.picked;
    in_range = p.in_range;
    touched = TouchedBy-seen p.touches p.slices u.answers v.answers p.touched;
    executed = p.executed;
  }

  abbrev pub Stops-seen : {D : Type 0} (d : Ghosts D) (disk disk' : D) (history : List Record) (held holds : Option (List ℕ)) (why : Halt) (from : Point) (u v : Surroundings A) (cost : ℕ) → Stops IsRun d who disk disk' history held holds why from u v cost → Stops IsRun d there disk disk' history held holds why from (see_around u) (see_around v) cost
  Stops-seen d disk disk' history held holds why from u v cost p = record {
    slices = p.slices;
    lost = p.lost;
    part = p.part;
    touches = p.touches;
    lost_touches = p.lost_touches;
    part_touches = p.part_touches;
    done = p.done;
    undone = p.undone;
    are_effects = p.are_effects;
    are_touches = p.are_touches;
    stopped = p.stopped;
    names = p.names;
    unplugged = p.unplugged;
    begins = p.begins;
    names_lost = p.names_lost;
    unplugged_lost = p.unplugged_lost;
    without = p.without;
    spent = p.spent;
    many = p.many;
    picked = p.picked;
    in_range = p.in_range;
    touched = TouchedBy-seen (p.touches ++ p.lost_touches) (p.slices ++ p.lost) u.answers v.answers p.touched;
    one_part = p.one_part;
    by_memory = p.by_memory;
    unmade = p.unmade;
    executed = p.executed;
  }

  -- what a session answered
  pub Answers-seen : (g : Given) (history : List Record) (parts : List Part) (u v : Surroundings A) (carried : List effects.Effect → Type 0) → AnswersParts who g history parts u v carried → AnswersParts there g history parts (see_around u) (see_around v) carried
  Answers-seen g history parts u v carried a = record {
    commands = a.commands;
    each_asks = a.each_asks;
    cost = a.cost;
    answered = Advances-seen _ _ u v a.cost carried a.answered;
    costs = a.costs;
    on_run = a.on_run;
    spared = a.spared;
  }

  pub Taken-seen : (g : Given) (history : List Record) (l l' : Option (List ℕ)) (parts : List ℕ → List Part) (u v : Surroundings A) (carried : List effects.Effect → Type 0) → AnswersTaken who g history l l' parts u v carried → AnswersTaken there g history l l' parts (see_around u) (see_around v) carried
  Taken-seen g history l l' parts u v carried a = record {
    taken = a.taken;
    is_taken = a.is_taken;
    answered = Answers-seen g history (parts a.taken) u v carried a.answered;
  }

  module _ {D : Type 0} (d : Ghosts D) (g : Given) (old new : Standing D A) (store store' : StoreState) (text : List ℕ) (left : Option (List ℕ)) where
    abbrev pub see_standing : Standing D A → Standing D B
    see_standing s = standing s.disk s.held (see_around s.around)

    -- where it ended before its text
    pub Begins-seen : (why : Halt) → BeginsText d who g (standpoint old.disk store old.held old.around) (standpoint new.disk store' new.held new.around) why text left → BeginsOn d there g store.entries (see_standing old) (see_standing new) why text left
    Begins-seen why b = record {
      is_begun = b.is_begun;
      answered = b.answered;
      next = b.next;
      one_at_most = b.one_at_most;
      each_asks = b.each_asks;
      cost = b.cost;
      halted = Stops-seen d old.disk new.disk store.entries old.held new.held why _ old.around new.around b.cost b.halted;
      costs = b.costs;
      on_run = b.on_run;
      begun_on_run = λ needed. elim (b.begun_on_run needed) [
        | inl run ↦ inl run
        | inr nothing ↦ inr (Stops-seen d old.disk new.disk store.entries old.held new.held why _ old.around new.around b.cost nothing)
      ];
    }

    pub Finds-seen : FindsOut d who g (standpoint old.disk store old.held old.around) (standpoint new.disk store' new.held new.around) text left → FindsOn d there g store.entries (see_standing old) (see_standing new) text left
    Finds-seen b = record {
      is_begun = b.is_begun;
      answered = b.answered;
      next = b.next;
      each_asks = b.each_asks;
      needless = b.needless;
      needs = b.needs;
      cost = b.cost;
      done = Advances-seen _ _ old.around new.around b.cost _ b.done;
      costs = b.costs;
    }

  -- all that it left
  abbrev pub see_scene : {D : Type 0} → Scene D A → Scene D B
  see_scene s = record { stands = standing s.stands.disk s.stands.held (see_around s.stands.around); left = s.left; source_faults = s.source_faults; sink_faults = s.sink_faults }

  pub Leaves-seen : {D : Type 0} (d : Ghosts D) (g : Given) (history : List Record) (r : Result (Unit {0}) Halt) (old new : Scene D A) → ((a : A) (device : ℕ) → there.filled (see a) device ≡ who.filled a device) → Leaves d who g history r old new → Leaves d there g history r (see_scene old) (see_scene new)
  Leaves-seen d g history r old new same p = record {
    read = p.read;
    answered = OnOk-then r p.answered (λ all. IfSome_then old.left all (λ text a. Answers-seen g history (text_parts text) old.stands.around new.stands.around _ a));
    short = p.short;
    stops = IfErr-then r p.stops (λ why all not_source not_long. IfSome_then old.left (all not_source not_long) (λ text b. Begins-seen d g old.stands new.stands (store_of history) (store_of history) text new.left why b));
    blames = p.blames;
    finds = λ at is. IfSome_then old.left (p.finds at is) (λ text b. Finds-seen d g old.stands new.stands (store_of history) (store_of history) text new.left b);
    early = p.early;
    long = p.long;
    taken = λ which. Taken-seen g history old.left new.left whole_parts old.stands.around new.stands.around _ (p.taken which);
    at_most = p.at_most;
    any_moment = p.any_moment;
    rests = p.rests;
    still_rests = p.still_rests;
    shuts = p.shuts;
    still_shuts = p.still_shuts;
    source = p.source;
    sink = p.sink;
    disk = p.disk;
    full = p.full;
    later = p.later;
    touched = record {
      were = record {
        touches = p.touched.were.touches;
        slices = p.touched.were.slices;
        touched = TouchedBy-seen p.touched.were.touches p.touched.were.slices old.stands.around.answers new.stands.around.answers p.touched.were.touched;
        filled = λ device.
            same new.stands.around.answers device
            ∙ p.touched.were.filled device
            ∙ ap (λ (b : Bool). b && not (unplugs_it p.touched.were.touches device)) (sym (same old.stands.around.answers device));
      };
      spared = p.touched.spared;
    };
  }

-- what stays the same of those who answer
module _ {A N : Type 0} (here : A) (who : Answering A) (name : A → N) (answered : (a : A) (asked : Asked) (answer : Answered) (a' : A) → who.answers a asked answer a' → name a' ≡ name a) (unplugged : (n : ℕ) (a a' : A) → who.unplugs n a a' → name a' ≡ name a) where
  touches-stay : (touches : List Touch) (slices : List Picked) (a a' : A) → TouchedBy who touches slices a a' → name a' ≡ name a
  touches-stay [] slices a a' p = ap name p.1
  touches-stay (AtUnplug n ∷ touches) slices a a' p = touches-stay touches slices p.0 a' p.2 ∙ unplugged n a p.0 p.1
  touches-stay (AtSlice ask ∷ touches) [] a a' p = absurd p
  touches-stay (AtSlice ask ∷ touches) (s ∷ slices) a a' p =
      touches-stay touches slices p.0 a' p.2 ∙ RepliesIn-stays who.answers name answered s.pick.count s.pick.pid ask.machine s.reply a p.0 p.1

  pub Touched-stays : (a a' : A) → WereTouched who a a' → name a' ≡ name a
  Touched-stays a a' t = touches-stay t.touches t.slices a a' t.touched
