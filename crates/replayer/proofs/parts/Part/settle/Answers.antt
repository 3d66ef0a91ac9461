use Rattle.replayer.proofs.parts.Part.settle.Goals as goal

pub returns-clause-err : goal.returns-clause-err
returns-clause-err g c own stands = c.run.ensures.err own c.args.self.now.turn.event stands
