-- What a session leaves, from what is known at each of its ends.
use Rattle.std.proofs.Common.{◌≡◌, ◌≢◌, ◌⊎◌, inl, inr, ◌+◌, ◌<◌, ◌≤◌, ◌^◌, ◌++◌, ℕ, List, [], length, drop, Option, None, Some, IfSome, arith, Result, Ok, Err, IsErrOf, Bool, true, false, refl, subst, sym, ap, append_assoc, ◌∷◌, ◌∙◌}
use Rattle.std.proofs.lemmas.Bool.{false≢true}
use Rattle.std.proofs.lemmas.Option.{IfSome_then}
use Rattle.arn_base.specs.declared.disk.Disk.{Ghosts}
use Rattle.arn_base.specs.declared.records.Differs.{Differs}
use Rattle.arn_base.specs.declared.records.Record.{Record}
use Rattle.arn_base.specs.Faults.{Rose}
use Rattle.arn_commands.specs.declared.command.Command.{Command}
use Rattle.arn_commands.specs.Parts.{Part, text_parts, whole_parts}
use Rattle.log_model.specs.Records.{IsRun}
use Rattle.log_store.specs.Stops.{GoesOn, LeavesOnly}
use Rattle.log_store.specs.Stores.{StoreState}
use Rattle.log_store.specs.declared.size.TheConstants.{MOST_LOG}
use Rattle.session_effects.specs.Carrying.{CarriesOut, HoldsMore, IsAtRest, IsShut, RestsMore}
use Rattle.session_effects.specs.declared.halt.Halt.{Halt}
use Rattle.session_effects.specs.declared.halt.Halt.TheVariants as halt
use Rattle.session_commands.specs.Answering.{IsHalted, IsNoRun}
use Rattle.guest_legs.specs.LegLaws.{all_named, as_named}
use Rattle.guest_legs.specs.Legs.{Ask, AreInRange, Picked}
use Rattle.history_model.specs.Unplugged.{unplugged_in}
use Rattle.session_runs.specs.Touches.{Answering, AtSlice, AtUnplug, Touch, asks_in, named_at}
use Rattle.session_runs.specs.Standing.{Standpoint, standpoint}
use Rattle.session_commands.specs.Given.{Given}
use Rattle.session_commands.specs.Lines.{needs_machine, turn}
use Rattle.session_text.specs.Answered.{AnswersParts, AnswersTaken, TookAtMost, TookFewer}
use Rattle.session_text.specs.Begun.{BeginsOn, FindsOn, Standing, store_of}
use Rattle.session_text.specs.CutOff.{BeginsText, FindsOut}
use Rattle.session_text.specs.Gone.{GoneBefore, WereSpared, WereTouched}
use Rattle.session_text.specs.Leaves.{Leaves, Scene}
use Rattle.session_text.proofs.CutLemmas.{stops-more}
use Rattle.session_text.proofs.GoneLemmas.{GoneBefore-append, turn-gone}
use Rattle.session_text.proofs.PointLemmas.{Laws}
use Rattle.session_text.proofs.Progress.{HaveAnswers, gone-behind, were-touched}
use Rattle.session_text.proofs.SlotLemmas.{Begins-seen, Finds-seen}
use Rattle.session_text.proofs.TouchLemmas.{and-true, spared-so, touched-many}

module _ {D A : Type 0} (d : Ghosts D) (who : Answering A) (g : Given) where
  -- the store over the disk doesn't matter where a session begins
  pub begins-on : (here : A) (old new : Standing D A) (store : StoreState) (why : Halt) (l left : Option (List ℕ)) → IfSome l (λ text. (s : StoreState) → BeginsText d who g (standpoint old.disk store old.held old.around) (standpoint new.disk s new.held new.around) why text left) → IfSome l (λ text. BeginsOn d who g store.entries old new why text left)
  begins-on here old new store why l left all =
      IfSome_then l all (λ text b. Begins-seen here who who (λ a. a) (λ a asked answer a' p. p) (λ n a a' p. p) d g old new store (store_of []) text left why (b (store_of [])))

  pub finds-on : (here : A) (old new : Standing D A) (store : StoreState) (l left : Option (List ℕ)) → IfSome l (λ text. (s : StoreState) → FindsOut d who g (standpoint old.disk store old.held old.around) (standpoint new.disk s new.held new.around) text left) → IfSome l (λ text. FindsOn d who g store.entries old new text left)
  finds-on here old new store l left all =
      IfSome_then l all (λ text b. Finds-seen here who who (λ a. a) (λ a asked answer a' p. p) (λ n a a' p. p) d g old new store (store_of []) text left (b (store_of [])))

-- who isn't touched is the same
pub untouched : {A : Type 0} (who : Answering A) (now : A) → WereTouched who now now
untouched who now = record { touches = []; slices = []; touched = (refl, refl); filled = λ device. sym (and-true (who.filled now device)) }

pub touched-none : {A : Type 0} (who : Answering A) (gone : List ℕ) (now : A) → WereSpared who gone now now
unfolding untouched
touched-none who gone now = record { were = untouched who now; spared = tt }

-- asks in range are so without others behind them
in-range-first : (asks more : List Ask) (slices others : List Picked) → length asks ≡ length slices → AreInRange (asks ++ more) (slices ++ others) → AreInRange asks slices
in-range-first [] more slices others many all = tt
in-range-first (a ∷ asks) more [] others many all = tt
in-range-first (a ∷ asks) more (s ∷ slices) others many all = (all.0, in-range-first asks more slices others (omega (arith, many)) all.1)

asks-append : (touches more : List Touch) → asks_in (touches ++ more) ≡ asks_in touches ++ asks_in more
asks-append [] more = refl
asks-append (AtSlice ask ∷ touches) more = ap (λ (x : List Ask). ask ∷ x) (asks-append touches more)
asks-append (AtUnplug n ∷ touches) more = asks-append touches more

all_named-append : (asks more : List Ask) (slices others : List Picked) → length asks ≡ length slices → all_named (asks ++ more) (slices ++ others) ≡ all_named asks slices ++ all_named more others
all_named-append [] more [] others many = refl
all_named-append (a ∷ asks) more (s ∷ slices) others many =
    ap (λ (x : List Picked). as_named a.machine s ∷ x) (all_named-append asks more slices others (omega (arith, many)))
all_named-append _ more _ others many = absurd (omega (arith, many))

module _ {D A : Type 0} {d : Ghosts D} {who : Answering A} {g : Given} where
  -- who answers was touched before a command and for it, and wasn't asked for what was gone
  pub touched-before : {parts : List Part} {is_there : Bool} {old new : Standpoint D A} (laws : Laws d who) → HaveAnswers d who g parts is_there old new → WereSpared who (unplugged_in old.store.entries) old.around.answers new.around.answers
  touched-before {parts = parts} {is_there = is_there} {old = old} {new = new} laws p = were-touched d who g laws old new parts is_there p

  -- a command that halted asks no device that is gone
  halted-gone : (laws : Laws d who) (is_there : Bool) (mid new : Standpoint D A) (command : Command) (why : Halt) (b : IsHalted d who g is_there why command mid new) → (needs_machine g mid.store.entries command ≡ true → IsRun mid.store.entries) → GoneBefore (unplugged_in mid.store.entries) (b.stops.touches ++ b.stops.lost_touches)
  halted-gone laws is_there mid new command why b on_run =
      let q = b.stops in
      let touches : List Touch = q.touches ++ q.lost_touches in
      let slices : List Picked = q.slices ++ q.lost in
      let many : length (asks_in touches) ≡ length slices = touched-many who touches slices mid.around.answers new.around.answers q.touched in
      let all : touches ++ q.part_touches ≡ q.touches ++ (q.lost_touches ++ q.part_touches) = append_assoc q.touches q.lost_touches q.part_touches in
      let in_range : AreInRange (asks_in touches ++ asks_in q.part_touches) (slices ++ q.part) =
      subst (λ (x : List Ask). AreInRange x (slices ++ q.part)) (ap asks_in (sym all) ∙ asks-append touches q.part_touches)
      (subst (AreInRange (asks_in (q.touches ++ (q.lost_touches ++ q.part_touches)))) (sym (append_assoc q.slices q.lost q.part)) q.in_range) in
      let taken : named_at touches slices ++ q.part ≡ named_at q.touches q.slices ++ (named_at q.lost_touches q.lost ++ q.part) =
      ap (λ (x : List Ask). all_named x slices ++ q.part) (asks-append q.touches q.lost_touches)
      ∙ ap (λ (x : List Picked). x ++ q.part) (all_named-append (asks_in q.touches) (asks_in q.lost_touches) q.slices q.lost q.many)
      ∙ append_assoc (named_at q.touches q.slices) (named_at q.lost_touches q.lost) q.part in
      turn-gone laws.gone g mid.store.entries touches q.part_touches slices q.part many (in-range-first (asks_in touches) (asks_in q.part_touches) slices q.part many in_range) command on_run
      (ap (λ (x : List Picked). (turn g mid.store.entries command x).touches) taken ∙ q.are_touches ∙ sym all)

  touched-behind : (laws : Laws d who) (parts : List Part) (is_there : Bool) (old mid new : Standpoint D A) (command : Command) (why : Halt) → HaveAnswers d who g parts is_there old mid → IsHalted d who g is_there why command mid new → (needs_machine g mid.store.entries command ≡ true → IsRun mid.store.entries) → WereSpared who (unplugged_in old.store.entries) old.around.answers new.around.answers
  touched-behind laws parts is_there old mid new command why p b on_run =
      let gone : List ℕ = unplugged_in old.store.entries in
      let stop = stops-more d who g laws old mid new parts is_there command why b.beside p b.stops in
      let others : List Touch = b.stops.touches ++ b.stops.lost_touches in
      spared-so who laws.kept gone (stop.stops.touches ++ stop.stops.lost_touches) (stop.stops.slices ++ stop.stops.lost) old.around.answers new.around.answers stop.stops.touched
      (subst (GoneBefore gone) (sym stop.touches)
      (GoneBefore-append gone p.answered.touches others p.gone (subst (λ (l : List ℕ). GoneBefore l others) (gone-behind d who g old mid parts is_there p) (halted-gone laws is_there mid new command why b on_run))))

  -- where no machine was made for it, no one was touched
  pub touched-halted : {parts : List Part} {is_there : Bool} {old mid new : Standpoint D A} {command : Command} {why : Halt} (laws : Laws d who) → HaveAnswers d who g parts is_there old mid → IsHalted d who g is_there why command mid new → WereSpared who (unplugged_in old.store.entries) old.around.answers new.around.answers
  touched-halted {parts = parts} {is_there = is_there} {old = old} {mid = mid} {new = new} {command = command} {why = why} laws p b =
      by (needs_machine g mid.store.entries command) refl
    where
      by : (needs : Bool) → needs_machine g mid.store.entries command ≡ needs → WereSpared who (unplugged_in old.store.entries) old.around.answers new.around.answers
      by false none = touched-behind laws parts is_there old mid new command why p b (λ needed. absurd (false≢true (sym none ∙ needed)))
      by true needed = elim (b.on_run needed) [
        | inl run ↦ touched-behind laws parts is_there old mid new command why p b (λ x. run)
        | inr none ↦ subst (λ (x : A). WereSpared who (unplugged_in old.store.entries) old.around.answers x) (sym none.untouched.answers) (touched-before laws p)
      ]

-- where nothing was taken, no more was than so much
pub untaken : (l : Option (List ℕ)) → TookAtMost (2 ^ 40) l l
untaken None = tt
untaken (Some text) = omega arith

module _ {D A : Type 0} (d : Ghosts D) (who : Answering A) (g : Given) (history : List Record) (old new : Scene D A) where
  -- what holds of both ends
  pub record Goes : Type 0 where
    pub at_most : TookAtMost (2 ^ 40) old.left new.left
    pub any_moment : IsAtRest d old.stands.disk history → LeavesOnly d.moment d.left_since old.stands.disk new.stands.disk (HoldsMore IsRun history)
    pub later : GoesOn d.image d.faults old.stands.disk new.stands.disk
    pub touched : WereSpared who (unplugged_in history) old.stands.around.answers new.stands.around.answers

  -- the text was answered to its end
  pub record Ends : Type 0 where
    pub goes : Goes
    pub read : IfSome old.left (λ text. new.left ≡ Some [])
    pub answered : IfSome old.left (λ text. AnswersParts who g history (text_parts text) old.stands.around new.stands.around (CarriesOut IsRun d old.stands.disk new.stands.disk history old.stands.held new.stands.held))
    pub short : IfSome old.left (λ text. length text < 2 ^ 40)
    pub rests : IsAtRest d old.stands.disk history → RestsMore d new.stands.disk history
    pub shuts : IsShut d old.stands.disk → IsShut d new.stands.disk

  -- it halted before
  pub record Halts (why : Halt) : Type 0 where
    pub goes : Goes
    pub stops : why ≢ halt.Source → why ≢ halt.Long → IfSome old.left (λ text. BeginsOn d who g history old.stands new.stands why text new.left)
    pub blames : (at : Differs) → why ≡ halt.Differs at → IsNoRun history at
    pub finds : (at : Differs) → why ≡ halt.Differs at → IfSome old.left (λ text. FindsOn d who g history old.stands new.stands text new.left)
    pub early : why ≡ halt.Source → TookFewer (2 ^ 40) old.left new.left
    pub long : why ≡ halt.Long → IfSome old.left (λ text. (2 ^ 40 ≤ length text) × (new.left ≡ Some (drop (2 ^ 40) text)))
    pub taken : (why ≡ halt.Source) ⊎ (why ≡ halt.Long) → AnswersTaken who g history old.left new.left whole_parts old.stands.around new.stands.around (CarriesOut IsRun d old.stands.disk new.stands.disk history old.stands.held new.stands.held)
    pub still_rests : why ≢ halt.Disk → why ≢ halt.NoMemory → IsAtRest d old.stands.disk history → RestsMore d new.stands.disk history
    pub still_shuts : why ≢ halt.Disk → why ≢ halt.NoMemory → IsShut d old.stands.disk → IsShut d new.stands.disk
    pub source : why ≡ halt.Source → Rose old.source_faults new.source_faults
    pub sink : why ≡ halt.Sink → Rose old.sink_faults new.sink_faults
    pub disk : why ≡ halt.Disk → Rose (d.faults old.stands.disk) (d.faults new.stands.disk)
    pub full : (log payload : ℕ) → why ≡ halt.Full log payload → MOST_LOG < log + 5 + payload

-- what an error of a result is
not-ok : (x : Unit {0}) (why : Halt) → IsErrOf (Ok x) why → ⊥
not-ok x why is = cc is

same-halt : (a b : Halt) → IsErrOf {T = Unit {0}} (Err a) b → a ≡ b
same-halt a b is = cc is

either-halt : (a : Halt) → IsErrOf {T = Unit {0}} (Err a) halt.Source ⊎ IsErrOf {T = Unit {0}} (Err a) halt.Long → (a ≡ halt.Source) ⊎ (a ≡ halt.Long)
either-halt a (inl is) = inl (same-halt a halt.Source is)
either-halt a (inr is) = inr (same-halt a halt.Long is)

never-taken : {P : Type 0} (x : Unit {0}) → IsErrOf (Ok x) halt.Source ⊎ IsErrOf (Ok x) halt.Long → P
never-taken x (inl is) = absurd (not-ok x halt.Source is)
never-taken x (inr is) = absurd (not-ok x halt.Long is)

module _ {D A : Type 0} {d : Ghosts D} {who : Answering A} {g : Given} {history : List Record} {old new : Scene D A} where
  pub leaves-done : (x : Unit {0}) → Ends d who g history old new → Leaves d who g history (Ok x) old new
  leaves-done x e = record {
    read = e.read;
    answered = e.answered;
    short = e.short;
    stops = tt;
    blames = λ at is. absurd (not-ok x (halt.Differs at) is);
    finds = λ at is. absurd (not-ok x (halt.Differs at) is);
    early = λ is. absurd (not-ok x halt.Source is);
    long = λ is. absurd (not-ok x halt.Long is);
    taken = λ which. never-taken x which;
    at_most = e.goes.at_most;
    any_moment = e.goes.any_moment;
    rests = e.rests;
    still_rests = tt;
    shuts = e.shuts;
    still_shuts = tt;
    source = λ is. absurd (not-ok x halt.Source is);
    sink = λ is. absurd (not-ok x halt.Sink is);
    disk = λ is. absurd (not-ok x halt.Disk is);
    full = λ log payload is. absurd (not-ok x (halt.Full log payload) is);
    later = e.goes.later;
    touched = e.goes.touched;
  }

  leaves-err : (why : Halt) → Halts d who g history old new why → Leaves d who g history (Err why) old new
  leaves-err why h = record {
    read = tt;
    answered = tt;
    short = tt;
    stops = h.stops;
    blames = λ at is. h.blames at (same-halt why (halt.Differs at) is);
    finds = λ at is. h.finds at (same-halt why (halt.Differs at) is);
    early = λ is. h.early (same-halt why halt.Source is);
    long = λ is. h.long (same-halt why halt.Long is);
    taken = λ which. h.taken (either-halt why which);
    at_most = h.goes.at_most;
    any_moment = h.goes.any_moment;
    rests = tt;
    still_rests = h.still_rests;
    shuts = tt;
    still_shuts = h.still_shuts;
    source = λ is. h.source (same-halt why halt.Source is);
    sink = λ is. h.sink (same-halt why halt.Sink is);
    disk = λ is. h.disk (same-halt why halt.Disk is);
    full = λ log payload is. h.full log payload (same-halt why (halt.Full log payload) is);
    later = h.goes.later;
    touched = h.goes.touched;
  }

  -- the result is this error
  pub leaves-halted : (r : Result (Unit {0}) Halt) (why : Halt) → r ≡ Err why → Halts d who g history old new why → Leaves d who g history r old new
  leaves-halted r why is h = subst (λ (x : Result (Unit {0}) Halt). Leaves d who g history x old new) (sym is) (leaves-err why h)

  -- whatever it is
  pub leaves-by : (r : Result (Unit {0}) Halt) → ((x : Unit {0}) → r ≡ Ok x → Ends d who g history old new) → ((why : Halt) → r ≡ Err why → Halts d who g history old new why) → Leaves d who g history r old new
  leaves-by (Ok x) ends halts = leaves-done x (ends x refl)
  leaves-by (Err why) ends halts = leaves-err why (halts why refl)
