-- A slice is the turn of its process.
use Rattle.std.proofs.Common.{◌≡◌, inl, inr, ℕ, zero, suc, ◌+◌, ◌<◌, ◌≤◌, ◌&&◌, ◌||◌, ◌++◌, Bool, true, false, cond, nat_lt, nat_le, List, [], ◌∷◌, Option, None, Some, IsSome, is_some, option_to_list, refl, sym, ap, subst, ◌∙◌, arith}
use Rattle.std.proofs.lemmas.Bool.{cond-true}
use Rattle.std.proofs.lemmas.Bool.Decides.{nat_tests}
use Rattle.arn_base.specs.declared.records.Record.{Record}
use Rattle.parts_model.specs.declared.limits.TheConstants.{MOST_SLICE}
use Rattle.parts_model.specs.Replies.{Answered}
use Rattle.acts_model.specs.Bodies.{View, seen}
use Rattle.arn_model.specs.Kernel.{Machine}
use Rattle.arn_model.specs.Parts.{TurnsHaveParts}
use Rattle.arn_model.specs.Run.{Slice, input_steps, instructions_in}
use Rattle.arn_model.specs.Step.{due_signal}
use Rattle.arn_model.specs.Turn.{has_due, is_possible, is_runnable, can_go_on, steps_of, turn}
use Rattle.log_model.specs.Records.{slice_records}
use Rattle.guest_bodies.specs.Shown.{IsLive}
use Rattle.guest_devices.specs.Answers.{Asked}
use Rattle.guest_calls.specs.State.{State, StandsFor}
use Rattle.guest_legs.specs.Pieces.{slice_of}
use Rattle.guest_machine.specs.Recorded.{IsReal, OfEach, Recorded, Runs}
use Rattle.guest_machine.specs.Slices.{Begun, CanTake, IsCut, RanSlice, Unbegun}
use Rattle.guest_machine.specs.Turns.{Takes, Took, TookPart, TookWhole, Turn, Turned}
use Rattle.guest_machine.specs.declared.turn.Taken.{Taken}
use Rattle.guest_machine.proofs.RunsLemmas.{Runs-none, Runs-one}
use Rattle.guest_machine.proofs.TurnLemmas.{lives, sees}
use Rattle.guest_machine.proofs.TurnParts.{turn-slice}

zero-possible : (able due : Bool) → due ≡ false → able && (nat_le 0 MOST_SLICE && (nat_lt 0 0 || due)) ≡ false
zero-possible true due quiet = grind (arith, nat_tests)
zero-possible false due quiet = refl

-- a slice of no instruction is a turn of none, also where no signal is due
zero-turn : (m : Machine) (pid : ℕ) (v : View) (reply : Option Answered) (o : Option ℕ) → seen m.bodies pid ≡ Some v → due_signal m pid v ≡ o → input_steps m (Slice pid 0 reply) ≡ steps_of (turn 0 pid reply m)
zero-turn m pid v reply None is due =
    let quiet : has_due m pid (seen m.bodies pid) ≡ false = ap (has_due m pid) is ∙ ap is_some due in
    let idle : is_possible m pid 0 ≡ false = zero-possible (is_runnable m pid) (has_due m pid (seen m.bodies pid)) quiet in
    let nothing : steps_of (turn 0 pid reply m) ≡ [] = rw (is, due) refl in
    ap (λ (b : Bool). cond b (steps_of (turn 0 pid reply m)) []) idle ∙ sym nothing
zero-turn m pid v reply (Some signal) is due = rw (is, due) refl

-- one of fewer instructions is possible, if it has some
fewer-possible : (able due : Bool) (count k : ℕ) → able && (nat_le count MOST_SLICE && (nat_lt 0 count || due)) ≡ true → k ≤ count → 0 < k → able && (nat_le k MOST_SLICE && (nat_lt 0 k || due)) ≡ true
fewer-possible true due count k possible few some = grind (arith, nat_tests)
fewer-possible false due count k possible few some = possible

pub can-turn : (m : Machine) (pid count k : ℕ) (v : View) (reply : Option Answered) → seen m.bodies pid ≡ Some v → CanTake m pid count → k ≤ count → input_steps m (Slice pid k reply) ≡ steps_of (turn k pid reply m)
can-turn m pid count zero v reply is can few = zero-turn m pid v reply (due_signal m pid v) is refl
can-turn m pid count (suc k) v reply is (inr none) few = absurd (omega (arith, none.0, few))
can-turn m pid count (suc k) v reply is (inl possible) few =
    cond-true (is_possible m pid (suc k)) (steps_of (turn (suc k) pid reply m)) [] (fewer-possible (is_runnable m pid) (has_due m pid (seen m.bodies pid)) count (suc k) possible few (omega arith))

-- a process that can go on lives
able-lives : (m : Machine) (pid : ℕ) (o : Option View) → can_go_on m pid o ≡ true → (v : View) × (o ≡ Some v)
able-lives m pid None able = absurd cc
able-lives m pid (Some v) able = (v, refl)

and-left : (a b : Bool) → a && b ≡ true → a ≡ true
and-left true b both = refl
and-left false b both = both

-- the process of a slice that may be taken lives
pub can-lives : (s : State) (pid count : ℕ) → IsReal s → OfEach s (λ m. CanTake m pid count) → IsLive s.guests pid
can-lives s pid count real can = by (can real.machine real.stands)
  where
    some-view : (o : Option View) → IsSome o → (v : View) × (o ≡ Some v)
    some-view None is = absurd cc
    some-view (Some v) is = (v, refl)

    by : CanTake real.machine pid count → IsLive s.guests pid
    by (inl possible) =
        let v = able-lives real.machine pid (seen real.machine.bodies pid) (and-left (is_runnable real.machine pid) (nat_le count MOST_SLICE && (nat_lt 0 count || has_due real.machine pid (seen real.machine.bodies pid))) possible) in
        lives s real.machine pid v.0 real.stands v.1
    by (inr none) =
        let v = some-view (seen real.machine.bodies pid) none.1 in
        lives s real.machine pid v.0 real.stands v.1

-- from a turn to the slice
Turned-Runs : TurnsHaveParts → (m : Machine) (pid k : ℕ) (reply : Option Answered) (t : Turn) (old new : Recorded) (out out' : List Record) → input_steps m (Slice pid k reply) ≡ steps_of (turn k pid reply m) → Turned m pid k reply t new.kernel → new.instructions ≡ old.instructions + t.ran
    → out' ≡ out ++ slice_of pid t.ran (option_to_list t.delivery ++ option_to_list t.last) → Runs m (Slice pid k reply ∷ []) old new out out'
Turned-Runs parts m pid k reply t old new out out' is turned counted recorded =
    let steps = steps_of (turn k pid reply m) in
    let same : slice_of pid t.ran (option_to_list t.delivery ++ option_to_list t.last) ≡ slice_records pid steps =
    ap (λ (n : ℕ). slice_of pid n (option_to_list t.delivery ++ option_to_list t.last)) (sym turned.ran)
    ∙ ap (slice_of pid (instructions_in steps)) (sym turned.told)
    ∙ sym (turn-slice parts k pid reply m) in
    Runs-one m (Slice pid k reply) steps old new out out' is turned.stands (omega (arith, counted, turned.ran)) (recorded ∙ ap (λ (entries : List Record). out ++ entries) same)

pub whole-slice : {A : Type 0} → TurnsHaveParts → (answers : A → Asked → Answered → A → Type 0) (asked asked' : A) (cut : Bool) (m : Machine) (pid count : ℕ) (t : Turn) (old new : Recorded) (out out' : List Record) → StandsFor old.kernel m → IsLive old.kernel.guests pid → CanTake m pid count → cut ≡ false
    → Took cut answers m pid count t asked asked' new.kernel → new.instructions ≡ old.instructions + t.ran → out' ≡ out ++ slice_of pid t.ran (option_to_list t.delivery ++ option_to_list t.last) → RanSlice answers m pid count asked asked' old new out out'
whole-slice parts answers asked asked' cut m pid count t old new out out' stands live can whole took counted recorded =
    let v = sees old.kernel m pid stands live in
    let w : TookWhole answers m pid count t asked asked' new.kernel = subst (λ (b : Bool). Took b answers m pid count t asked asked' new.kernel) whole took in
    record {
      reply = w.reply;
      runs = Turned-Runs parts m pid count w.reply t old new out out' (can-turn m pid count count v.0 w.reply v.1 can (omega arith)) w.turned counted recorded;
      replied = w.replied;
    }

part-of : {A : Type 0} (answers : A → Asked → Answered → A → Type 0) (asked asked' : A) (cut : Bool) (m : Machine) (pid count : ℕ) (t : Turn) (s : State) → cut ≡ true → Took cut answers m pid count t asked asked' s → TookPart m pid count t asked asked' s
part-of answers asked asked' cut m pid count t s is took = subst (λ (b : Bool). Took b answers m pid count t asked asked' s) is took

pub cut-slice : {A : Type 0} → TurnsHaveParts → (answers : A → Asked → Answered → A → Type 0) (asked asked' : A) (cut : Bool) (m : Machine) (pid count : ℕ) (t : Turn) (old new : Recorded) (out out' : List Record) → StandsFor old.kernel m → IsLive old.kernel.guests pid → CanTake m pid count → cut ≡ true
    → Took cut answers m pid count t asked asked' new.kernel → new.instructions ≡ old.instructions + t.ran → out' ≡ out ++ slice_of pid t.ran (option_to_list t.delivery ++ option_to_list t.last) → IsCut m pid count old new out out'
cut-slice parts answers asked asked' cut m pid count t old new out out' stands live can is took counted recorded =
    let v = sees old.kernel m pid stands live in
    let p = part-of answers asked asked' cut m pid count t new.kernel is took in
    record {
      inputs = Slice pid t.ran None ∷ [];
      part = Begun t.ran p.within;
      runs = Turned-Runs parts m pid t.ran None t old new out out' (can-turn m pid count t.ran v.0 None v.1 can (omega (arith, p.within))) p.turned counted recorded;
    }

-- and its devices weren't asked
pub cut-unasked : {A : Type 0} (answers : A → Asked → Answered → A → Type 0) (asked asked' : A) (taken : Taken) (pid count : ℕ) (old new : State) (out out' : List Record) → IsReal old → taken.cut ≡ true → OfEach old (λ m. Takes answers m pid count taken asked asked' new out out') → asked' ≡ asked
cut-unasked answers asked asked' taken pid count old new out out' real is takes =
    let t = takes real.machine real.stands in
    (part-of answers asked asked' taken.cut real.machine pid count t.parts new is t.took).unasked

-- nothing was done
pub unbegun : (m : Machine) (pid count : ℕ) (r : Recorded) (out : List Record) → StandsFor r.kernel m → IsCut m pid count r r out out
unbegun m pid count r out stands = record { inputs = []; part = Unbegun; runs = Runs-none m r out stands }

-- what stands behind the records of before stands behind the same records
kept-behind : (pid : ℕ) (t : Turn) (out out1 out' : List Record) → out1 ≡ out → out' ≡ out1 ++ slice_of pid t.ran (option_to_list t.delivery ++ option_to_list t.last) → out' ≡ out ++ slice_of pid t.ran (option_to_list t.delivery ++ option_to_list t.last)
kept-behind pid t out out1 out' same kept = kept ∙ ap (λ (entries : List Record). entries ++ slice_of pid t.ran (option_to_list t.delivery ++ option_to_list t.last)) same

-- the same of a whole machine
pub slice-whole : {A : Type 0} → TurnsHaveParts → (answers : A → Asked → Answered → A → Type 0) (asked asked' : A) (taken : Taken) (pid count : ℕ) (k : State) (i : ℕ) (old new : Recorded) (out out1 out' : List Record) → record { kernel = k; instructions = i } ≡ old → IsLive old.kernel.guests pid → OfEach old.kernel (λ m. CanTake m pid count) → taken.cut ≡ false
    → OfEach k (λ m. Takes answers m pid count taken asked asked' new.kernel out1 out') → new.instructions ≡ i + taken.ran → out1 ≡ out → OfEach old.kernel (λ m. RanSlice answers m pid count asked asked' old new out out')
slice-whole parts answers asked asked' taken pid count k i old new out out1 out' same live can whole takes counted before m stands =
    let stands' : StandsFor k m = subst (λ (r : Recorded). StandsFor r.kernel m) (sym same) stands in
    let t = takes m stands' in
    let ran : new.instructions ≡ i + t.parts.ran = omega (arith, counted, t.ran) in
    whole-slice parts answers asked asked' taken.cut m pid count t.parts old new out out' stands live (can m stands) whole t.took (ran ∙ ap (λ (r : Recorded). r.instructions + t.parts.ran) same) (kept-behind pid t.parts out out1 out' before t.kept)

pub slice-cut : {A : Type 0} → TurnsHaveParts → (answers : A → Asked → Answered → A → Type 0) (asked asked' : A) (taken : Taken) (pid count : ℕ) (k : State) (i : ℕ) (old new : Recorded) (out out1 out' : List Record) → record { kernel = k; instructions = i } ≡ old → IsLive old.kernel.guests pid → OfEach old.kernel (λ m. CanTake m pid count) → taken.cut ≡ true
    → OfEach k (λ m. Takes answers m pid count taken asked asked' new.kernel out1 out') → new.instructions ≡ i + taken.ran → out1 ≡ out → OfEach old.kernel (λ m. IsCut m pid count old new out out')
slice-cut parts answers asked asked' taken pid count k i old new out out1 out' same live can is takes counted before m stands =
    let stands' : StandsFor k m = subst (λ (r : Recorded). StandsFor r.kernel m) (sym same) stands in
    let t = takes m stands' in
    let ran : new.instructions ≡ i + t.parts.ran = omega (arith, counted, t.ran) in
    cut-slice parts answers asked asked' taken.cut m pid count t.parts old new out out' stands live (can m stands) is t.took (ran ∙ ap (λ (r : Recorded). r.instructions + t.parts.ran) same) (kept-behind pid t.parts out out1 out' before t.kept)

pub real-of : (k : State) (i : ℕ) (r : Recorded) → record { kernel = k; instructions = i } ≡ r → IsReal k → IsReal r.kernel
real-of k i r same real = subst (λ (x : Recorded). IsReal x.kernel) same real

-- a slice of some instructions of a process that can go on
able-possible : (able due : Bool) (count : ℕ) → able ≡ true → 0 < count → count ≤ MOST_SLICE → able && (nat_le count MOST_SLICE && (nat_lt 0 count || due)) ≡ true
able-possible true due count is some few = grind (arith, nat_tests)
able-possible false due count is some few = absurd cc

pub possible-all : (s : State) (pid : ℕ) (able : Bool) → OfEach s (λ m. able ≡ is_runnable m pid) → able ≡ true → (count : ℕ) → 0 < count → count ≤ MOST_SLICE → OfEach s (λ m. is_possible m pid count ≡ true)
possible-all s pid able tells is count some few m stands = able-possible (is_runnable m pid) (has_due m pid (seen m.bodies pid)) count (sym (tells m stands) ∙ is) some few
