use Rattle.std.proofs.Common.{rules, ◌≡◌, ◌∙◌, Some, ap, refl, false}
use Rattle.acts_model.specs.Views.{call_number, stands_at}
use Rattle.guest_bodies.specs.Shown.{seen_in}
use Rattle.guest_requests.specs.Standing.{can_wait}
use Rattle.guest_requests.specs.Tables.{Tables}
use Rattle.guest_requests.proofs.Rows.{request-ready, waits-ready}
use Rattle.guest_requests.proofs.Seen.{called}
use Rattle.guest_requests.proofs.tables.Tables.waits.Goals as goal

pub returns-then-not-can_wait : goal.returns-then-not-can_wait
returns-then-not-can_wait c m v is sees =
    let seen : seen_in c.self.inside.bodies.now c.args.pid ≡ Some v = ap (λ (t : Tables). seen_in t.guests c.args.pid) c.self.view_is ∙ sees in
    let number : call_number v.body.cpu ≡ c.call_number.result = called (seen_in c.self.inside.bodies.now c.args.pid) v c.call_number.result c.call_number.result seen c.call_number.ensures refl in
    let never : can_wait c.call_number.result ≡ false = search rules in
    waits-ready m c.args.pid v (stands_at v) (request-ready m c.args.pid v c.call_number.result number never)
