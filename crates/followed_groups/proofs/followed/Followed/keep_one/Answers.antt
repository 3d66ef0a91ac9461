use Rattle.std.proofs.Common.{◌≡◌, List, ap, sym, subst}
use Rattle.arn_base.specs.declared.records.Record.{Record}
use Rattle.rv64_model.specs.declared.linkage.Linkage.{Linkage}
use Rattle.followed_groups.specs.Following.{Following}
use Rattle.followed_groups.specs.Relations.{IsRelation}
use Rattle.followed_groups.proofs.Caches.{also-of}
use Rattle.followed_groups.proofs.followed.Followed.keep_one.Goals as goal

pub returns-in-Some-clause-seen : goal.returns-in-Some-clause-seen
returns-in-Some-clause-seen c =
    let linkage = c.self.inside.linkage in
    let entries = c.args._entries.now in
    let same : linkage ≡ c.args.self.now.linkage = ap (λ (f : Following). f.linkage) c.self.view_is in
    also-of entries c.args.kept.now c.put.new.self linkage c.args.group c.in-Some.relation c.put.ensures.also c.requires.seen
    (subst (λ (l : Linkage). IsRelation l entries c.args.group c.in-Some.relation) (sym same)
    (subst (λ (es : List Record). IsRelation c.args.self.now.linkage es c.args.group c.in-Some.relation) c.requires.of c.in-Some.ensures.found))
