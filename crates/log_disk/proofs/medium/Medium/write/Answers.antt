use Rattle.log_disk.specs.Image.{image_bytes}
use Rattle.log_disk.specs.InMemory.{state_of}
use Rattle.log_disk.proofs.PastLemmas.{image_before-write, states_before-push}
use Rattle.log_disk.proofs.medium.Medium.write.Goals as goal

pub returns-clause-ok : goal.returns-clause-ok
returns-clause-ok c =
    let past = c.in_ok-before.before in
    let facts = c.in_ok-before.ensures in
    let old = c.args.self.now in
    let wrote = c.in_ok-overwrite.ensures.ok in
    let back = image_before-write (image_bytes old.image) (image_bytes c.overwrite.new.self) c.args.bytes.now past c.args.range.start c.min.result c.requires.in_range (cc) wrote facts.at facts.bytes facts.len in
    let states = states_before-push (state_of old).held (image_bytes c.overwrite.new.self) past old.past.items back facts.written facts.smallest facts.greatest in
    cc (states, wrote, c.in_ok-push.ensures.items, c.in_ok-push-2.ensures.items)
