-- What is told of bytes that are asked for, beside an answer.
use Rattle.std.specs.Prelude.{ℕ, if◌then◌else◌, List, Option, Some, None}
use Rattle.arn_base.specs.declared.records.Record.{Record}
use Rattle.arn_lines.specs.declared.answer.Refusal.TheVariants.{NoPoint}
use Rattle.arn_lines.specs.Texts.{damaged_text, refusal_text}
use Rattle.history_model.specs.Alone.{Disagrees}
use Rattle.history_model.specs.Events.{event_at, is_range}
use Rattle.query_engine.specs.Asked.{ran_for}
use Rattle.query_model.specs.Answers.{event_disagreement}

-- where the records of a group that is asked disagree, that is said in the answer's place
abbrev pub unless_damaged : Option Disagrees → List ℕ → List ℕ
unless_damaged None text = text
unless_damaged (Some d) text = damaged_text d.event d.said d.found

-- so it is for bytes of an event, and those that aren't there are refused
abbrev pub unless_refused : List Record → ℕ → ℕ → ℕ → List ℕ → List ℕ
unless_refused entries event from len text =
    if is_range (event_at entries event) from len then unless_damaged (event_disagreement entries event) text else refusal_text NoPoint

-- the groups that are asked run again up to the event
abbrev pub event_cost : List Record → ℕ → ℕ → ℕ → ℕ
event_cost entries event from len = if is_range (event_at entries event) from len then ran_for entries event else 0
