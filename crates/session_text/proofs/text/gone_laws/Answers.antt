use Rattle.session_text.proofs.text.gone_laws.Goals as goal

pub returns : goal.returns
returns c = record { tell = c.records_tell_runs.ensures; records = c.records_append.ensures; runs = c.runs_append.ensures; legs = c.legs_as_named.ensures; slices = c.slices_unplug_nothing.ensures }
