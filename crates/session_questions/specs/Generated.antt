-- What is told of the generator once its program has run: it is asked where the bytes of each write to the console come from, in order.
use Rattle.std.specs.Prelude.{ℕ, ◌+◌, if◌then◌else◌, List, [], ◌∷◌, ◌++◌, length, sum_by}
use Rattle.std.specs.List.{sum}
use Rattle.arn_base.specs.declared.records.Record.{Record}
use Rattle.rv64_model.specs.Carries.{operands}
use Rattle.rv64_model.specs.declared.linkage.Linkage.TheVariants.{Data}
use Rattle.acts_model.specs.Records.{is_event}
use Rattle.generator.specs.Sums.{gen_text, written, written_by}
use Rattle.query_model.specs.Answers.{event_pairs}
use Rattle.session_questions.specs.Asked.{event_cost, unless_refused}

-- a write to the console: its event, and how many bytes it wrote
pub record Write : Type 0 where
  pub event : ℕ
  pub len : ℕ

-- the write of an event, where it wrote at least one byte
abbrev pub write_of : ℕ → List ℕ → List Write
write_of event [] = []
write_of event (b ∷ bytes) = record { event = event; len = length (b ∷ bytes) } ∷ []

-- the writes of records whose events are numbered from here on
abbrev pub writes_from : ℕ → List Record → List Write
writes_from event [] = []
writes_from event (e ∷ entries) = if is_event e then write_of event (written_by e) ++ writes_from (event + 1) entries else writes_from event entries

abbrev pub writes : List Record → List Write
writes = writes_from 0

-- how many pairs say where the bytes of a write come from
abbrev pub pairs_of : List Record → Write → ℕ
pairs_of entries w = length (event_pairs (operands Data) entries w.event 0 w.len)

-- a text, unless one of these queries isn't answered by pairs: the first that isn't is told in its place
abbrev pub unless_one_refused : List Record → List Write → List ℕ → List ℕ
unless_one_refused entries [] text = text
unless_one_refused entries (w ∷ more) text = unless_refused entries w.event 0 w.len (unless_one_refused entries more text)

-- all bytes that were written are summed, and all pairs are counted
abbrev pub generated_text : List Record → ℕ → List ℕ
generated_text entries processes =
    unless_one_refused entries (writes entries) (gen_text processes (sum (written entries)) (sum_by (pairs_of entries) (writes entries)))

-- what these queries cost, if all are asked
abbrev pub writes_cost : List Record → List Write → ℕ
writes_cost entries asked = sum_by (λ w. event_cost entries w.event 0 w.len) asked

abbrev pub generated_cost : List Record → ℕ
generated_cost entries = writes_cost entries (writes entries)
