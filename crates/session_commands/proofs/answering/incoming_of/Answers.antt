use Rattle.session_commands.proofs.LineLemmas.{no-others}
use Rattle.session_commands.proofs.answering.incoming_of.Goals as goal

pub unreachable-requires : goal.unreachable-requires
unreachable-requires c = no-others c.args.line.now c.in_default.not-File c.in_default.not-Boot c.in_default.not-Type c.requires.asks_not c.requires.runs_not c.requires.unplugs_not
