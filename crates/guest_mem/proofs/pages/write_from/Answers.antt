use Rattle.std.proofs.Common.{◌-◌, List, Bool, ℕ, ap, length, refl, subst, sym, ◌∙◌}
use Rattle.std.proofs.lemmas.List.{length-map}
use Rattle.std.proofs.lemmas.Result.{IfOk-from_err}
use Rattle.arn_base.specs.Disk.{overwrite}
use Rattle.arn_base.specs.declared.errors.StoreError.TheVariants.{BadAddress}
use Rattle.guest_mem.specs.Pages.{AreOwn, contents, ArePages, Gains, Lacks, joined, owned, page_bytes}
use Rattle.parts_model.specs.Memory.{private_window}
use Rattle.parts_model.specs.declared.limits.TheConstants.{WINDOW_START}
use Rattle.guest_mem.proofs.Exits.{err-at-exit, is-err, not-whole, not-address, not-memory, ok-not-err, place-behind, is-whole}
use Rattle.guest_mem.proofs.Owned.{gains-none}
use Rattle.guest_mem.proofs.pages.write_from.Goals as goal

pub place_of-requires : goal.place_of-requires
place_of-requires c = c.requires

pub returns-in_err-place-clause-pages : goal.returns-in_err-place-clause-pages
returns-in_err-place-clause-pages c = c.requires

pub returns-in_err-place-clause-ok : goal.returns-in_err-place-clause-ok
returns-in_err-place-clause-ok c = IfOk-from_err c.from_residual.result _ c.from_residual.ensures.0

pub returns-in_err-place-clause-bad_address : goal.returns-in_err-place-clause-bad_address
returns-in_err-place-clause-bad_address c =
    (λ bad. not-whole (joined (contents c.args.pages.now)) c.args.at (length c.args.bytes.now) c.in_err-place.ensures.whole, λ none. is-err c.from_residual.result BadAddress c.from_residual.ensures.1)

pub returns-in_err-place-clause-err : goal.returns-in_err-place-clause-err
returns-in_err-place-clause-err c = err-at-exit c.from_residual.result refl

pub returns-in_err-place-clause-lacks : goal.returns-in_err-place-clause-lacks
returns-in_err-place-clause-lacks c none = absurd (not-memory c.from_residual.result c.from_residual.ensures.1 none)

pub returns-in_err-place-clause-refused : goal.returns-in_err-place-clause-refused
returns-in_err-place-clause-refused c bad = refl

pub returns-in_err-place-clause-gains : goal.returns-in_err-place-clause-gains
returns-in_err-place-clause-gains c =
    gains-none (c.args.at - WINDOW_START) (length c.args.bytes.now) (owned c.args.pages.now)

pub returns-in_err-place-clause-own : goal.returns-in_err-place-clause-own
returns-in_err-place-clause-own c = IfOk-from_err c.from_residual.result _ c.from_residual.ensures.0

pub own-requires-clause-count : goal.own-requires-clause-count
own-requires-clause-count c = sym (length-map c.args.pages.now page_bytes) ∙ c.requires.count

pub own-requires-clause-whole : goal.own-requires-clause-whole
own-requires-clause-whole c = c.in_ok-place.ensures.inside

pub returns-in_err-own-clause-pages : goal.returns-in_err-own-clause-pages
returns-in_err-own-clause-pages c = subst ArePages (sym c.own.ensures.bytes) c.requires

pub returns-in_err-own-clause-ok : goal.returns-in_err-own-clause-ok
returns-in_err-own-clause-ok c = IfOk-from_err c.from_residual-in_err-own.result _ c.from_residual-in_err-own.ensures.0

pub returns-in_err-own-clause-bad_address : goal.returns-in_err-own-clause-bad_address
returns-in_err-own-clause-bad_address c =
    (λ bad. absurd (not-address c.from_residual-in_err-own.result c.from_residual-in_err-own.ensures.1 bad), λ none. absurd (is-whole (joined (contents c.args.pages.now)) c.args.at (length c.args.bytes.now) c.in_ok-place.ensures.whole none))

pub returns-in_err-own-clause-err : goal.returns-in_err-own-clause-err
returns-in_err-own-clause-err c = err-at-exit c.from_residual-in_err-own.result c.own.ensures.bytes

pub returns-in_err-own-clause-lacks : goal.returns-in_err-own-clause-lacks
returns-in_err-own-clause-lacks c none =
    subst (λ (p : ℕ). Lacks p (length c.args.bytes.now) (owned c.args.pages.now)) (place-behind c.args.at WINDOW_START c.in_ok-place.place c.in_ok-place.ensures.place) c.in_err-own.ensures.err

pub returns-in_err-own-clause-refused : goal.returns-in_err-own-clause-refused
returns-in_err-own-clause-refused c bad =
    absurd (not-address c.from_residual-in_err-own.result c.from_residual-in_err-own.ensures.1 bad)

pub returns-in_err-own-clause-gains : goal.returns-in_err-own-clause-gains
returns-in_err-own-clause-gains c =
    subst (λ (p : ℕ). Gains p (length c.args.bytes.now) (owned c.args.pages.now) (owned c.own.new.pages)) (place-behind c.args.at WINDOW_START c.in_ok-place.place c.in_ok-place.ensures.place) c.own.ensures.gains

pub returns-in_err-own-clause-own : goal.returns-in_err-own-clause-own
returns-in_err-own-clause-own c = IfOk-from_err c.from_residual-in_err-own.result _ c.from_residual-in_err-own.ensures.0

pub write-requires-clause-pages : goal.write-requires-clause-pages
write-requires-clause-pages c = subst ArePages (sym c.own.ensures.bytes) c.requires

pub write-requires-clause-whole : goal.write-requires-clause-whole
write-requires-clause-whole c = c.in_ok-place.ensures.inside

pub write-requires-clause-own : goal.write-requires-clause-own
write-requires-clause-own c = c.in_ok-own.ensures.ok

pub returns-clause-pages : goal.returns-clause-pages
returns-clause-pages c = c.write.ensures.pages

pub returns-clause-ok : goal.returns-clause-ok
returns-clause-ok c =
    ap (λ (l : List ℕ). private_window l)
    (c.write.ensures.bytes ∙ ap (λ (l : List (List ℕ)). overwrite (joined l) c.in_ok-place.place c.args.bytes.now) c.in_ok-own.ensures.bytes)
    ∙ sym (c.in_ok-place.ensures.written c.args.bytes.now refl)

pub returns-clause-bad_address : goal.returns-clause-bad_address
returns-clause-bad_address c =
    (λ bad. absurd (ok-not-err _ BadAddress bad), λ none. absurd (is-whole (joined (contents c.args.pages.now)) c.args.at (length c.args.bytes.now) c.in_ok-place.ensures.whole none))

pub returns-clause-err : goal.returns-clause-err
returns-clause-err c = tt

pub returns-clause-lacks : goal.returns-clause-lacks
returns-clause-lacks c none = absurd (ok-not-err _ _ none)

pub returns-clause-refused : goal.returns-clause-refused
returns-clause-refused c bad = absurd (ok-not-err _ _ bad)

pub returns-clause-gains : goal.returns-clause-gains
returns-clause-gains c =
    subst (λ (p : ℕ). Gains p (length c.args.bytes.now) (owned c.args.pages.now) (owned c.write.new.pages)) (place-behind c.args.at WINDOW_START c.in_ok-place.place c.in_ok-place.ensures.place)
    (subst (λ (o : List Bool). Gains c.in_ok-place.place (length c.args.bytes.now) (owned c.args.pages.now) o) (sym c.write.ensures.own) c.own.ensures.gains)

pub returns-clause-own : goal.returns-clause-own
returns-clause-own c =
    subst (λ (p : ℕ). AreOwn p (length c.args.bytes.now) (owned c.write.new.pages)) (place-behind c.args.at WINDOW_START c.in_ok-place.place c.in_ok-place.ensures.place)
    (subst (λ (o : List Bool). AreOwn c.in_ok-place.place (length c.args.bytes.now) o) (sym c.write.ensures.own) c.in_ok-own.ensures.ok)
