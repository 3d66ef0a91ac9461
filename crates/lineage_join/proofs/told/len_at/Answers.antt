use Rattle.std.proofs.Common.{ℕ, Option, ap, ◌∙◌, option_map, unwrap_or}
use Rattle.acts_model.specs.Records.{event_len}
use Rattle.lineage_join.proofs.told.len_at.Goals as goal

pub returns : goal.returns
returns c = c.unwrap_or.ensures ∙ ap (λ (o : Option ℕ). unwrap_or o 0) (c.event_len.ensures c.args.entries.now c.requires.indexed ∙ ap (option_map event_len) c.requires.there)
