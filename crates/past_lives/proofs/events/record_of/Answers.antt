use Rattle.std.proofs.Common.{◌≡◌, ◌-◌, ◌∙◌, Some, None, ap, sym, option_map, slice_get, arith}
use Rattle.history_index.specs.Lookups.{event_place}
use Rattle.past_lives.proofs.Places.{stands-there, nowhere}
use Rattle.past_lives.proofs.events.record_of.Goals as goal

pub returns : goal.returns
returns c =
    let entries = c.args.entries.now in
    let place : event_place entries c.args.event ≡ Some c.in_ok-place.place = sym (c.in_ok-place.ensures entries c.requires.indexed) in
    let there = stands-there entries 0 c.args.event c.in_ok-place.place place in
    let same : c.in_ok-place.place ≡ c.in_ok-place.place - 0 = omega arith in
    c.record_at.ensures ∙ (ap (slice_get entries) same ∙ there.1)

pub returns-in_err-place : goal.returns-in_err-place
returns-in_err-place c =
    let entries = c.args.entries.now in
    let none : event_place entries c.args.event ≡ None = sym (c.in_err-place.ensures entries c.requires.indexed) in
    ap (option_map (λ entry. entry.now)) c.from_residual.ensures ∙ sym (nowhere entries 0 c.args.event none)
