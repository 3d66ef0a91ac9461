-- How long the spellings of a log's records are, beside the log.
use Rattle.std.proofs.lemmas.Bool.Decides.{nat_tests}
use Rattle.std.proofs.Common.{◌≡◌, ℕ, ◌+◌, ◌-◌, ◌≤◌, ◌++◌, List, [], ◌∷◌, length, length-append, ap, ◌∙◌, arith}
use Rattle.std.proofs.lemmas.Grind.{flat_map-append}
use Rattle.arn_base.specs.declared.records.Record.{Record}
use Rattle.result_log.specs.Spelling.{spelling, counted}
use Rattle.log_store.specs.Log.{frames, records_of, spellings}
use Rattle.log_store.specs.Pieces.{IsFound}
use Rattle.log_store.proofs.Fields.{length-counted}

pub length-spellings : (first others : List Record) → length (spellings (first ++ others)) ≡ length (spellings first) + length (spellings others)
length-spellings first others = ap length (flat_map-append spelling first others) ∙ length-append (spellings first) (spellings others)

-- frames are longer than the spellings in them
length-frames : (commits : List (List Record)) → length (spellings (records_of commits)) ≤ length (frames commits)
length-frames [] = omega arith
length-frames (c ∷ commits) = grind (arith, nat_tests, length-frames commits, length-spellings c (records_of commits), length-counted (spellings c), length-append (counted (spellings c)) (frames commits))

-- what was found in bytes is spelled by no more than stands before the end
pub found-sized : (bytes : List ℕ) (entries : List Record) (end : List ℕ) → IsFound bytes entries end → length (spellings entries) ≤ length bytes - length end
found-sized bytes entries end h1 = grind (arith, nat_tests, length-append, length-frames)
