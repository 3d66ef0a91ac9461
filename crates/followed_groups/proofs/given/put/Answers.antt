use Rattle.followed_groups.proofs.Caches.{put-also}
use Rattle.followed_groups.proofs.given.put.Goals as goal

pub returns-clause-also : goal.returns-clause-also
returns-clause-also g c = put-also c.put.result c.args.cache.now c.put.new.self c.args.key c.args.value c.put.ensures.entries c.put.ensures.err
