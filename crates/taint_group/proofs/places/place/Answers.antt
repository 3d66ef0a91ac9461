use Rattle.taint_group.proofs.Placing.{places}
use Rattle.taint_group.proofs.places.place.Goals as goal

pub returns : goal.returns
returns c = places c.place_value.result c.args.pid c.args.member c.args.members.now.items c.place_value.new.values.items c.place_value.ensures.one c.place_value.ensures.others
