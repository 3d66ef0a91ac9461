use Rattle.std.proofs.Common.{◌≡◌, ◌∙◌, Some, ap, sym}
use Rattle.acts_model.specs.Bodies.{View}
use Rattle.acts_model.specs.Views.{stands_at}
use Rattle.guest_bodies.specs.Shown.{seen_in}
use Rattle.guest_requests.specs.Standing.{is_call}
use Rattle.guest_requests.specs.Tables.{Tables}
use Rattle.guest_requests.proofs.Rows.{waits-at-call, waits-not}
use Rattle.guest_requests.proofs.Seen.{at-seen}
use Rattle.guest_requests.proofs.tables.Tables.waits_there.Goals as goal

pub returns-then-is_at_call : goal.returns-then-is_at_call
returns-then-is_at_call c m v is sees =
    let seen : seen_in c.self.inside.bodies.now c.args.pid ≡ Some v = ap (λ (t : Tables). seen_in t.guests c.args.pid) c.self.view_is ∙ sees in
    let told : c.is_at_call.result ≡ is_call (stands_at v) = at-seen (seen_in c.self.inside.bodies.now c.args.pid) v (λ (w : View). c.is_at_call.result ≡ is_call (stands_at w)) seen c.is_at_call.ensures in
    waits-at-call m c.args.pid v (stands_at v) c.is_waiting.result (sym told ∙ c.if-is_at_call.true) (c.is_waiting.ensures m v is sees)

pub returns-else-is_at_call : goal.returns-else-is_at_call
returns-else-is_at_call c m v is sees =
    let seen : seen_in c.self.inside.bodies.now c.args.pid ≡ Some v = ap (λ (t : Tables). seen_in t.guests c.args.pid) c.self.view_is ∙ sees in
    let told : c.is_at_call.result ≡ is_call (stands_at v) = at-seen (seen_in c.self.inside.bodies.now c.args.pid) v (λ (w : View). c.is_at_call.result ≡ is_call (stands_at w)) seen c.is_at_call.ensures in
    c.if-is_at_call.false ∙ waits-not m c.args.pid v (stands_at v) (sym told ∙ c.if-is_at_call.false)
