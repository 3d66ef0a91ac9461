use Rattle.std.proofs.Common.{◌≡◌, ◌∙◌, ℕ, Some, ap}
use Rattle.acts_model.specs.Bodies.{View}
use Rattle.acts_model.specs.Views.{argument}
use Rattle.arn_model.specs.Doing.{Request}
use Rattle.arn_model.specs.Kernel.{Machine}
use Rattle.arn_model.specs.Row.{is_waiting}
use Rattle.arn_model.specs.TransferCalls.{if_moving}
use Rattle.guest_bodies.specs.Shown.{seen_in}
use Rattle.guest_requests.specs.Tables.{Tables}
use Rattle.guest_requests.specs.Transfers.{file_read, moved_by, reading_at}
use Rattle.guest_requests.proofs.Ready.{reading_at-ready}
use Rattle.guest_requests.proofs.Seen.{at-seen, moves-on}
use Rattle.guest_requests.proofs.tables.Tables.reading_file.Goals as goal

pub returns-in-Ok-clause-reading : goal.returns-in-Ok-clause-reading
returns-in-Ok-clause-reading c m v is sees =
    let seen : seen_in c.self.inside.bodies.now c.args.pid ≡ Some v = ap (λ (t : Tables). seen_in t.guests c.args.pid) c.self.view_is ∙ sees in
    let moved : (goes_on : Request) → if_moving m v c.argument-at.result c.argument.result goes_on ≡ moved_by c.moving.result m goes_on =
    at-seen (seen_in c.self.inside.bodies.now c.args.pid) v (λ (w : View). (n : Machine) (goes_on : Request) → if_moving n w c.argument-at.result c.argument.result goes_on ≡ moved_by c.moving.result n goes_on) seen c.moving.ensures.moved m in
    let comes : file_read m v c.args.place ≡ reading_at m c.argument-at.result c.in-Ok.most c.args.place =
    moves-on m v c.argument-at.result c.argument.result c.in-Ok.most c.moving.result (λ (at n : ℕ). reading_at m at n c.args.place)
    (at-seen (seen_in c.self.inside.bodies.now c.args.pid) v (λ (w : View). c.argument-at.result ≡ argument w.body.cpu 1) seen c.argument-at.ensures)
    (at-seen (seen_in c.self.inside.bodies.now c.args.pid) v (λ (w : View). c.argument.result ≡ argument w.body.cpu 2) seen c.argument.ensures)
    moved c.in-Ok.is c.in-Ok.ensures.most.0 in
    (comes, ap is_waiting comes ∙ reading_at-ready m c.argument-at.result c.in-Ok.most c.args.place)
