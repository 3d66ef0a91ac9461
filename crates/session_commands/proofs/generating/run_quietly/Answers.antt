use Rattle.session_commands.proofs.generating.run_quietly.Goals as goal

pub returns-clause-ready : goal.returns-clause-ready
returns-clause-ready g c = c.run_in_silence.ensures.ready

pub returns-clause-advances : goal.returns-clause-advances
returns-clause-advances g c = λ told processes. c.run_in_silence.ensures.advances told processes (g.K.Sink.holds c.args.outside.now.sink.now)

pub returns-clause-stops : goal.returns-clause-stops
returns-clause-stops g c = λ told processes. c.run_in_silence.ensures.stops told processes (g.K.Sink.holds c.args.outside.now.sink.now)

pub returns-clause-cause : goal.returns-clause-cause
returns-clause-cause g c = c.run_in_silence.ensures.cause

pub run_in_silence-requires-clause-open : goal.run_in_silence-requires-clause-open
run_in_silence-requires-clause-open g c = c.requires.«open»

pub run_in_silence-requires-clause-ready : goal.run_in_silence-requires-clause-ready
run_in_silence-requires-clause-ready g c = c.requires.ready
