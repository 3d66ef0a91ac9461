use Rattle.std.proofs.Common.{◌-◌, ℕ, refl, subst, sym, ◌∙◌}
use Rattle.std.proofs.lemmas.List.{length-map}
use Rattle.std.proofs.lemmas.Result.{IfOk-from_err}
use Rattle.arn_base.specs.declared.errors.StoreError.TheVariants.{BadAddress}
use Rattle.guest_mem.specs.Pages.{AreOwn, contents, joined, Gains, Lacks, owned, page_bytes}
use Rattle.parts_model.specs.declared.limits.TheConstants.{WINDOW_START}
use Rattle.guest_mem.proofs.Exits.{is-err, not-whole, not-address, not-memory, ok-not-err, place-behind, is-whole}
use Rattle.guest_mem.proofs.Owned.{gains-none}
use Rattle.guest_mem.proofs.pages.own_at.Goals as goal

pub returns-in_err-place-clause-bytes : goal.returns-in_err-place-clause-bytes
returns-in_err-place-clause-bytes c = refl

pub returns-in_err-own-clause-bytes : goal.returns-in_err-own-clause-bytes
returns-in_err-own-clause-bytes c = c.own.ensures.bytes

pub returns-clause-bytes : goal.returns-clause-bytes
returns-clause-bytes c = c.own.ensures.bytes

pub place_of-requires : goal.place_of-requires
place_of-requires c = c.requires

pub returns-in_err-place-clause-bad_address : goal.returns-in_err-place-clause-bad_address
returns-in_err-place-clause-bad_address c =
    (λ bad. not-whole (joined (contents c.args.pages.now)) c.args.at c.args.len c.in_err-place.ensures.whole, λ none. is-err c.from_residual.result BadAddress c.from_residual.ensures.1)

pub returns-in_err-place-clause-lacks : goal.returns-in_err-place-clause-lacks
returns-in_err-place-clause-lacks c none = absurd (not-memory c.from_residual.result c.from_residual.ensures.1 none)

pub returns-in_err-place-clause-refused : goal.returns-in_err-place-clause-refused
returns-in_err-place-clause-refused c bad = refl

pub returns-in_err-place-clause-gains : goal.returns-in_err-place-clause-gains
returns-in_err-place-clause-gains c =
    gains-none (c.args.at - WINDOW_START) c.args.len (owned c.args.pages.now)

pub returns-in_err-place-clause-own : goal.returns-in_err-place-clause-own
returns-in_err-place-clause-own c = IfOk-from_err c.from_residual.result _ c.from_residual.ensures.0

pub own-requires-clause-count : goal.own-requires-clause-count
own-requires-clause-count c = sym (length-map c.args.pages.now page_bytes) ∙ c.requires.count

pub own-requires-clause-whole : goal.own-requires-clause-whole
own-requires-clause-whole c = c.in_ok-place.ensures.inside

pub returns-in_err-own-clause-bad_address : goal.returns-in_err-own-clause-bad_address
returns-in_err-own-clause-bad_address c =
    (λ bad. absurd (not-address c.from_residual-in_err-own.result c.from_residual-in_err-own.ensures.1 bad), λ none. absurd (is-whole (joined (contents c.args.pages.now)) c.args.at c.args.len c.in_ok-place.ensures.whole none))

pub returns-in_err-own-clause-lacks : goal.returns-in_err-own-clause-lacks
returns-in_err-own-clause-lacks c none =
    subst (λ (p : ℕ). Lacks p c.args.len (owned c.args.pages.now)) (place-behind c.args.at WINDOW_START c.in_ok-place.place c.in_ok-place.ensures.place) c.in_err-own.ensures.err

pub returns-in_err-own-clause-refused : goal.returns-in_err-own-clause-refused
returns-in_err-own-clause-refused c bad =
    absurd (not-address c.from_residual-in_err-own.result c.from_residual-in_err-own.ensures.1 bad)

pub returns-in_err-own-clause-gains : goal.returns-in_err-own-clause-gains
returns-in_err-own-clause-gains c =
    subst (λ (p : ℕ). Gains p c.args.len (owned c.args.pages.now) (owned c.own.new.pages)) (place-behind c.args.at WINDOW_START c.in_ok-place.place c.in_ok-place.ensures.place) c.own.ensures.gains

pub returns-in_err-own-clause-own : goal.returns-in_err-own-clause-own
returns-in_err-own-clause-own c = IfOk-from_err c.from_residual-in_err-own.result _ c.from_residual-in_err-own.ensures.0

pub returns-clause-bad_address : goal.returns-clause-bad_address
returns-clause-bad_address c =
    (λ bad. absurd (ok-not-err _ BadAddress bad), λ none. absurd (is-whole (joined (contents c.args.pages.now)) c.args.at c.args.len c.in_ok-place.ensures.whole none))

pub returns-clause-lacks : goal.returns-clause-lacks
returns-clause-lacks c none = absurd (ok-not-err _ _ none)

pub returns-clause-refused : goal.returns-clause-refused
returns-clause-refused c bad = absurd (ok-not-err _ _ bad)

pub returns-clause-gains : goal.returns-clause-gains
returns-clause-gains c =
    subst (λ (p : ℕ). Gains p c.args.len (owned c.args.pages.now) (owned c.own.new.pages)) (place-behind c.args.at WINDOW_START c.in_ok-place.place c.in_ok-place.ensures.place) c.own.ensures.gains

pub returns-clause-own : goal.returns-clause-own
returns-clause-own c =
    subst (λ (p : ℕ). AreOwn p c.args.len (owned c.own.new.pages)) (place-behind c.args.at WINDOW_START c.in_ok-place.place c.in_ok-place.ensures.place) c.in_ok-own.ensures.ok
