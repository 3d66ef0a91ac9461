use Rattle.std.proofs.Common.{◌+◌, ap, refl, ◌∙◌}
use Rattle.guest_asm.specs.Assembled.{place_faults, places}
use Rattle.guest_asm.specs.Kept.{names_of, placed_at}
use Rattle.guest_asm.proofs.Naming.{knows_places}
use Rattle.guest_asm.proofs.Placing.{stands_more, takes_fault, takes_size}
use Rattle.guest_asm.proofs.places.Layout.place.Goals as goal

pub returns-clause-placed : goal.returns-clause-placed
returns-clause-placed c = λ names done i known so_far keeps.
    let offset = c.args.self.now.offset in
    let earlier = names_of (places done) in
    let takes = c.taken-taken.ensures.taken names earlier i.reading known (knows_places c.args.self.now.labels (places done) so_far.labels) keeps.reads in
    stands_more c.args.self.now (record { placed = c.push.new.self; labels = c.define.new.self; offset = offset + c.unwrap_or.result }) done
    (record { item = c.args.item; offset = offset; fault = c.err-fault.result }) (placed_at names earlier offset i) so_far
    c.in_ok-push.ensures.items
    (record {
      item = keeps;
      offset = refl;
      fault = c.err-fault.ensures.value ∙ takes_fault c.taken-taken.result i.reading (place_faults names earlier offset i.reading) takes;
    })
    (c.in_ok-define.ensures (places done) i.reading so_far.labels keeps.reads)

pub returns-clause-offset : goal.returns-clause-offset
returns-clause-offset c = λ names done i known so_far keeps.
    let earlier = names_of (places done) in
    let takes = c.taken-taken.ensures.taken names earlier i.reading known (knows_places c.args.self.now.labels (places done) so_far.labels) keeps.reads in
    ap (λ n. c.args.self.now.offset + n) (c.unwrap_or.ensures ∙ takes_size c.taken-taken.result i.reading (place_faults names earlier c.args.self.now.offset i.reading) takes)
