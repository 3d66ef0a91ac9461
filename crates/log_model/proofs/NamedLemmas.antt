-- A slice that may run, as its records name it.
use Rattle.std.proofs.Common.{◌≡◌, ℕ, ◌<◌, true, List, [], ◌∷◌, length, Option, refl, sym, ap, subst, ◌∙◌, arith}
use Rattle.std.proofs.lemmas.Bool.{cond-true}
use Rattle.parts_model.specs.Replies.{Answered}
use Rattle.arn_model.specs.Kernel.{Machine}
use Rattle.arn_model.specs.Laws.{ReplyIsTold, RepliesAreTold}
use Rattle.arn_model.specs.Parts.{TurnsHaveParts}
use Rattle.arn_model.specs.Run.{Input, Slice, input_steps, machine_after}
use Rattle.arn_model.specs.Step.{Step}
use Rattle.arn_model.specs.Turn.{Turn, is_possible, steps_of, turn}
use Rattle.log_model.specs.Records.{event_records, slice_records, reply_behind, named}
use Rattle.log_model.specs.Laws.{NamesSlice, SlicesAreNamed, slice_named}
use Rattle.log_model.proofs.InputLemmas.{Repeats, turn-repeats, some-again}
use Rattle.log_model.proofs.SomeSteps.{slice-steps}
use Rattle.log_model.proofs.TurnLemmas.{turn-names-none, turn-reply}

-- the steps are some, so that they are named
some-named : (pid : ℕ) (steps : List Step) → 0 < length steps → named (event_records steps) ≡ [] → named (slice_records pid steps) ≡ slice_named pid steps ∷ []
some-named pid [] some none = absurd (omega (arith, some))
some-named pid (s ∷ steps) some none = ap (λ (inputs : List Input). slice_named pid (s ∷ steps) ∷ inputs) none

slice-named : TurnsHaveParts → (m : Machine) (pid count : ℕ) (reply : Option Answered) → ReplyIsTold count pid reply m → is_possible m pid count ≡ true → 0 < count → NamesSlice m pid count reply
slice-named parts m pid count reply told possible some =
    let steps = steps_of (turn count pid reply m) in
    let are : input_steps m (Slice pid count reply) ≡ steps = cond-true (is_possible m pid count) steps [] possible in
    let there : 0 < length steps = subst (λ (x : List Step). 0 < length x) are (slice-steps m pid count reply possible some) in
    let repeats : Repeats m pid steps = turn-repeats parts m pid count reply told possible steps refl in
    let behind = reply_behind (event_records steps) in
    record {
      some = slice-steps m pid count reply possible some;
      named =
          ap (λ (x : List Step). named (slice_records pid x)) are
          ∙ some-named pid steps there (turn-names-none parts count pid reply m)
          ∙ ap (λ (x : List Step). slice_named pid x ∷ []) (sym are);
      again = ap (λ (x : List Step). input_steps m (slice_named pid x)) are ∙ some-again m pid steps there repeats ∙ sym are;
      whole =
          ap (λ (x : List Step). input_steps m (Slice pid count (reply_behind (event_records x)))) are
          ∙ cond-true (is_possible m pid count) (steps_of (turn count pid behind m)) [] possible
          ∙ ap (λ (r : Option Answered). steps_of (turn count pid r m)) (turn-reply parts count pid reply m)
          ∙ ap (λ (x : Turn). steps_of x) told
          ∙ sym are;
    }

pub slices-named : TurnsHaveParts → RepliesAreTold → SlicesAreNamed
slices-named parts told inputs pid count reply possible some = slice-named parts (machine_after inputs) pid count reply (told inputs count pid reply) possible some
