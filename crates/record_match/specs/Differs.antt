-- Where records first differ from others.
use Rattle.std.specs.Prelude.{◌≡◌, ◌≢◌, ℕ, Bool, List, [], take, Option, None, Some, slice_get}
use Rattle.arn_base.specs.declared.records.Record.{Record}
use Rattle.arn_base.specs.contracts.records.RecordPartialEq.TheImpl as record_eq
use Rattle.result_log.specs.Spelling.{spelling}
use Rattle.arn_base.specs.declared.records.Differs.{Differs}

-- whether two records are the same, as `==` says
unfoldable pub same_record : Record → Record → Bool
same_record a b = (record_eq.ghosts).eq a b

-- the spelling of a record, and no bytes where there is none
abbrev pub spelling_if : Option Record → List ℕ
spelling_if None = []
spelling_if (Some entry) = spelling entry

-- This is where two lists of records first differ: which record, which byte of its spelling, and this byte in both. There is none
-- where a record or its spelling has ended.
pub record IsFirstDifference (said found : List Record) (d : Differs) : Type 0 where
  pub same_before : take d.place said ≡ take d.place found
  pub differ : slice_get said d.place ≢ slice_get found d.place
  pub same_bytes : take d.at (spelling_if (slice_get said d.place)) ≡ take d.at (spelling_if (slice_get found d.place))
  pub said_byte : slice_get (spelling_if (slice_get said d.place)) d.at ≡ d.said
  pub found_byte : slice_get (spelling_if (slice_get found d.place)) d.at ≡ d.found
  pub bytes_differ : d.said ≢ d.found
