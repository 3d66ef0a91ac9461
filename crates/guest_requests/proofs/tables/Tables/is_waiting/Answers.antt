use Rattle.std.proofs.Common.{Some, sym, ap, refl, arith, ◌∙◌, ◌≡◌}
use Rattle.arn_model.specs.Row.{is_waiting}
use Rattle.guest_bodies.specs.Shown.{seen_in}
use Rattle.guest_requests.specs.Tables.{Tables}
use Rattle.guest_requests.proofs.Ready.{accept-ready, accept-waits, reading-waits, reading-ready, wait-ready, wait-waits, writing-waits, writing-ready}
use Rattle.guest_requests.proofs.Rows.{ready-number, request-accept, request-read, request-ready, request-wait, request-write}
use Rattle.guest_requests.proofs.Seen.{called}
use Rattle.guest_requests.proofs.tables.Tables.is_waiting.Goals as goal

pub returns-in-Waits : goal.returns-in-Waits
returns-in-Waits c m v is sees =
    let seen : seen_in c.self.inside.bodies.now c.args.pid ≡ Some v = ap (λ (t : Tables). seen_in t.guests c.args.pid) c.self.view_is ∙ sees in
    reading-waits m c.args.pid v c.reading.result c.in-Waits.is (c.reading.ensures.reading m v is sees)
    ∙ sym (ap is_waiting (request-read m c.args.pid v (called (seen_in c.self.inside.bodies.now c.args.pid) v c.call_number.result 11 seen c.call_number.ensures c.in-11.is)))

pub returns-in_default-matches : goal.returns-in_default-matches
returns-in_default-matches c m v is sees =
    let seen : seen_in c.self.inside.bodies.now c.args.pid ≡ Some v = ap (λ (t : Tables). seen_in t.guests c.args.pid) c.self.view_is ∙ sees in
    reading-ready m c.args.pid v c.reading.result c.in_default-matches.not-Waits (c.reading.ensures.reading m v is sees)
    ∙ sym (ap is_waiting (request-read m c.args.pid v (called (seen_in c.self.inside.bodies.now c.args.pid) v c.call_number.result 11 seen c.call_number.ensures c.in-11.is)))

pub returns-in-Waits-matches : goal.returns-in-Waits-matches
returns-in-Waits-matches c m v is sees =
    let seen : seen_in c.self.inside.bodies.now c.args.pid ≡ Some v = ap (λ (t : Tables). seen_in t.guests c.args.pid) c.self.view_is ∙ sees in
    writing-waits m c.args.pid v c.writing.result c.in-Waits-matches.is (c.writing.ensures.writing m v is sees)
    ∙ sym (ap is_waiting (request-write m c.args.pid v (called (seen_in c.self.inside.bodies.now c.args.pid) v c.call_number.result 12 seen c.call_number.ensures c.in-12.is)))

pub returns-in_default-matches-2 : goal.returns-in_default-matches-2
returns-in_default-matches-2 c m v is sees =
    let seen : seen_in c.self.inside.bodies.now c.args.pid ≡ Some v = ap (λ (t : Tables). seen_in t.guests c.args.pid) c.self.view_is ∙ sees in
    writing-ready m c.args.pid v c.writing.result c.in_default-matches-2.not-Waits (c.writing.ensures.writing m v is sees)
    ∙ sym (ap is_waiting (request-write m c.args.pid v (called (seen_in c.self.inside.bodies.now c.args.pid) v c.call_number.result 12 seen c.call_number.ensures c.in-12.is)))

pub returns-in_default : goal.returns-in_default
returns-in_default c m v is sees =
    let seen : seen_in c.self.inside.bodies.now c.args.pid ≡ Some v = ap (λ (t : Tables). seen_in t.guests c.args.pid) c.self.view_is ∙ sees in
    sym (request-ready m c.args.pid v c.call_number.result (called (seen_in c.self.inside.bodies.now c.args.pid) v c.call_number.result c.call_number.result seen c.call_number.ensures refl)
    (ready-number c.call_number.result (λ (e : c.call_number.result ≡ 11). omega arith) (λ (e : c.call_number.result ≡ 12). omega arith) (λ (e : c.call_number.result ≡ 4). omega arith) (λ (e : c.call_number.result ≡ 20). omega arith)))

pub returns-in-Waits-matches-2 : goal.returns-in-Waits-matches-2
returns-in-Waits-matches-2 c m v is sees =
    let seen : seen_in c.self.inside.bodies.now c.args.pid ≡ Some v = ap (λ (t : Tables). seen_in t.guests c.args.pid) c.self.view_is ∙ sees in
    wait-waits m c.args.pid v c.waiting.result c.in-Waits-matches-2.is (c.waiting.ensures.waiting m v is sees)
    ∙ sym (ap is_waiting (request-wait m c.args.pid v (called (seen_in c.self.inside.bodies.now c.args.pid) v c.call_number.result 4 seen c.call_number.ensures c.in-4.is)))

pub returns-in_default-matches-3 : goal.returns-in_default-matches-3
returns-in_default-matches-3 c m v is sees =
    let seen : seen_in c.self.inside.bodies.now c.args.pid ≡ Some v = ap (λ (t : Tables). seen_in t.guests c.args.pid) c.self.view_is ∙ sees in
    wait-ready m c.args.pid v c.waiting.result c.in_default-matches-3.not-Waits (c.waiting.ensures.waiting m v is sees)
    ∙ sym (ap is_waiting (request-wait m c.args.pid v (called (seen_in c.self.inside.bodies.now c.args.pid) v c.call_number.result 4 seen c.call_number.ensures c.in-4.is)))

pub returns-in-Waits-matches-3 : goal.returns-in-Waits-matches-3
returns-in-Waits-matches-3 c m v is sees =
    let seen : seen_in c.self.inside.bodies.now c.args.pid ≡ Some v = ap (λ (t : Tables). seen_in t.guests c.args.pid) c.self.view_is ∙ sees in
    accept-waits m c.args.pid v c.accepting.result c.in-Waits-matches-3.is (c.accepting.ensures.accepting m v is sees)
    ∙ sym (ap is_waiting (request-accept m c.args.pid v (called (seen_in c.self.inside.bodies.now c.args.pid) v c.call_number.result 20 seen c.call_number.ensures c.in-20.is)))

pub returns-in_default-matches-4 : goal.returns-in_default-matches-4
returns-in_default-matches-4 c m v is sees =
    let seen : seen_in c.self.inside.bodies.now c.args.pid ≡ Some v = ap (λ (t : Tables). seen_in t.guests c.args.pid) c.self.view_is ∙ sees in
    accept-ready m c.args.pid v c.accepting.result c.in_default-matches-4.not-Waits (c.accepting.ensures.accepting m v is sees)
    ∙ sym (ap is_waiting (request-accept m c.args.pid v (called (seen_in c.self.inside.bodies.now c.args.pid) v c.call_number.result 20 seen c.call_number.ensures c.in-20.is)))
