-- The records tell which events have happened at a moment.
use Rattle.std.proofs.Common.{◌≡◌, ℕ, ◌+◌, List, [], ◌∷◌, length, map, refl, ap, arith}
use Rattle.std.proofs.lemmas.Bool.Decides.{nat_tests}
use Rattle.std.specs.List.{range_with_len}
use Rattle.std.proofs.lemmas.List.{length-map}
use Rattle.arn_base.specs.declared.records.Record.{Record}
use Rattle.arn_model.specs.Parts.{TurnsHaveParts}
use Rattle.arn_model.specs.Run.{Input, run, events_of, within}
use Rattle.history_model.specs.Moments.{events_until}
use Rattle.log_model.specs.Records.{records}
use Rattle.replay_laws.proofs.TellsUntil.{events-until, numbered}

numbers : (n : ℕ) (entries : List Record) → map (λ e. e.number) (numbered n entries) ≡ range_with_len n (length entries)
numbers n [] = refl
numbers n (e ∷ entries) = ap (λ (rest : List ℕ). n ∷ rest) (numbers (n + 1) entries)

pub events-told : TurnsHaveParts → (inputs : List Input) (moment : ℕ) → map (λ e. e.number) (events_until moment (records inputs)) ≡ range_with_len 0 (length (events_of (within moment (run inputs))))
events-told parts inputs moment = let until = events-until parts inputs moment in grind (arith, nat_tests, until, length-map, numbers)
