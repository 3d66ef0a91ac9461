-- What is kept between questions.
use Rattle.std.specs.Prelude.{◌≡◌, List}
use Rattle.arn_base.specs.declared.records.Record.{Record}
use Rattle.history_index.specs.Indexes.{Indexes}
use Rattle.query_engine.specs.Engines.{HasSeen, keep_of}
use Rattle.session_questions.specs.declared.asking.Asking.{Asking}
use Rattle.session_questions.specs.declared.asking.TheConstants.{KEEP}

-- the index is that of these records, they begin with those of which the engine keeps relations, and it keeps so many
pub record Knows (asking : Asking) (entries : List Record) : Type 0 where
  pub indexed : Indexes asking.index entries
  pub seen : HasSeen entries asking.engine
  pub keeps : keep_of asking.engine ≡ KEEP
