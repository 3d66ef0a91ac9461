-- Instructions of a slice.
use Rattle.history_model.specs.Alone as alone
use Rattle.replay_steps.specs.declared.plain.Turn.{Turn}

-- the slice, as a group alone has it
abbrev pub slice_of : Turn → alone.Slice
slice_of turn = record { pid = turn.pid; ran = turn.ran; event = turn.event; end_event = turn.end_event }
