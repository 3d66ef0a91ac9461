use Rattle.std.proofs.Common.{◌≡◌, ◌↔◌, ◌+◌, ◌-◌, Bool, Err, IsNone, List, OnErr, OnOk, ℕ, ap, arith, is_some, refl, subst, sym, ◌∙◌}
use Rattle.arn_base.specs.Window.{bytes_at, bytes_of, with_bytes}
use Rattle.arn_base.specs.declared.errors.StoreError.TheVariants.{BadAddress, NoMemory}
use Rattle.guest_mem.specs.Pages.{AreOwn, Gains, Lacks, contents, joined, owned}
use Rattle.parts_model.specs.Memory.{private_window}
use Rattle.parts_model.specs.declared.limits.TheConstants.{WINDOW_START}
use Rattle.guest_mem.proofs.Exits.{address-not-memory, ok-not-err}
use Rattle.guest_mem.proofs.Owned.{gains-same}
use Rattle.guest_mem.proofs.Pieces.{length-pages}
use Rattle.guest_mem.proofs.Spelled.{length-bytes_of}
use Rattle.guest_mem.proofs.Windows.{missed, reached, written}
use Rattle.guest_mem.proofs.pages.store.Goals as goal

pub returns-then-store_near-clause-ok : goal.returns-then-store_near-clause-ok
returns-then-store_near-clause-ok c =
    let long = length-pages (contents c.args.pages.now) c.requires.pages in
    let whole = c.store_near.ensures.whole c.if-store_near.true in
    let lies : c.args.at ≡ WINDOW_START + c.offset-place.result = c.offset-place.ensures.near (omega arith) in
    let few = length-bytes_of c.args.len c.args.value in
    ap (λ (l : List ℕ). private_window l) (c.store_near.ensures.bytes c.if-store_near.true)
    ∙ sym (written (joined (contents c.args.pages.now)) (bytes_of c.args.len c.args.value) c.args.at c.offset-place.result lies (omega arith))

pub returns-then-store_near-clause-bad_address : goal.returns-then-store_near-clause-bad_address
returns-then-store_near-clause-bad_address c =
    let long = length-pages (contents c.args.pages.now) c.requires.pages in
    let whole = c.store_near.ensures.whole c.if-store_near.true in
    let lies : c.args.at ≡ WINDOW_START + c.offset-place.result = c.offset-place.ensures.near (omega arith) in
    let some = ap (λ o. is_some o) (reached (joined (contents c.args.pages.now)) c.args.at c.args.len c.offset-place.result lies (omega arith)) in
    (λ bad. absurd (cc), λ none. absurd (cc))

pub returns-then-store_near-clause-own : goal.returns-then-store_near-clause-own
returns-then-store_near-clause-own c =
    let whole = c.store_near.ensures.whole c.if-store_near.true in
    let lies : c.args.at ≡ WINDOW_START + c.offset-place.result = c.offset-place.ensures.near (omega arith) in
    let less : c.offset-place.result ≡ c.args.at - WINDOW_START = omega arith in
    subst (λ (own : List Bool). AreOwn (c.args.at - WINDOW_START) c.args.len own) (sym c.store_near.ensures.still)
    (subst (λ (p : ℕ). AreOwn p c.args.len (owned c.args.pages.now)) less (c.store_near.ensures.own c.if-store_near.true))

pub returns-then-place-ge-WINDOW_LEN-clause-bad_address : goal.returns-then-place-ge-WINDOW_LEN-clause-bad_address
returns-then-place-ge-WINDOW_LEN-clause-bad_address c =
    let long = length-pages (contents c.args.pages.now) c.requires.pages in
    let none = missed (joined (contents c.args.pages.now)) c.args.at c.args.len c.offset-place.result c.offset-place.ensures.behind (omega arith) c.requires.length in
    (λ bad. ap (λ o. is_some o) none, λ missing. refl)

pub store_near-requires-clause-length : goal.store_near-requires-clause-length
store_near-requires-clause-length c = c.requires.length

pub store_near-requires-clause-pages : goal.store_near-requires-clause-pages
store_near-requires-clause-pages c = c.requires.pages

pub returns-then-store_near-clause-pages : goal.returns-then-store_near-clause-pages
returns-then-store_near-clause-pages c = c.store_near.ensures.pages

pub returns-then-store_near-clause-err : goal.returns-then-store_near-clause-err
returns-then-store_near-clause-err c = tt

pub returns-then-store_near-clause-lacks : goal.returns-then-store_near-clause-lacks
returns-then-store_near-clause-lacks c none = absurd (ok-not-err _ _ none)

pub returns-then-store_near-clause-refused : goal.returns-then-store_near-clause-refused
returns-then-store_near-clause-refused c bad = c.store_near.ensures.still

pub returns-then-store_near-clause-gains : goal.returns-then-store_near-clause-gains
returns-then-store_near-clause-gains c = gains-same (c.args.at - WINDOW_START) c.args.len _ _ c.store_near.ensures.still

pub returns-then-place-ge-WINDOW_LEN-clause-pages : goal.returns-then-place-ge-WINDOW_LEN-clause-pages
returns-then-place-ge-WINDOW_LEN-clause-pages c = c.store_near.ensures.pages

pub returns-then-place-ge-WINDOW_LEN-clause-ok : goal.returns-then-place-ge-WINDOW_LEN-clause-ok
returns-then-place-ge-WINDOW_LEN-clause-ok c = tt

pub returns-then-place-ge-WINDOW_LEN-clause-err : goal.returns-then-place-ge-WINDOW_LEN-clause-err
returns-then-place-ge-WINDOW_LEN-clause-err c = c.store_near.ensures.no c.if-store_near.false

pub returns-then-place-ge-WINDOW_LEN-clause-lacks : goal.returns-then-place-ge-WINDOW_LEN-clause-lacks
returns-then-place-ge-WINDOW_LEN-clause-lacks c none = absurd (address-not-memory {T = Unit {0}} none)

pub returns-then-place-ge-WINDOW_LEN-clause-refused : goal.returns-then-place-ge-WINDOW_LEN-clause-refused
returns-then-place-ge-WINDOW_LEN-clause-refused c bad = c.store_near.ensures.still

pub returns-then-place-ge-WINDOW_LEN-clause-gains : goal.returns-then-place-ge-WINDOW_LEN-clause-gains
returns-then-place-ge-WINDOW_LEN-clause-gains c =
    gains-same (c.args.at - WINDOW_START) c.args.len _ _ c.store_near.ensures.still

pub returns-then-place-ge-WINDOW_LEN-clause-own : goal.returns-then-place-ge-WINDOW_LEN-clause-own
returns-then-place-ge-WINDOW_LEN-clause-own c = tt

pub store_far-requires-clause-length : goal.store_far-requires-clause-length
store_far-requires-clause-length c = c.requires.length

pub store_far-requires-clause-pages : goal.store_far-requires-clause-pages
store_far-requires-clause-pages c = c.store_near.ensures.pages

pub returns-clause-pages : goal.returns-clause-pages
returns-clause-pages c = c.store_far.ensures.pages

pub returns-clause-ok : goal.returns-clause-ok
returns-clause-ok c =
    subst (λ (l : List (List ℕ)). OnOk c.store_far.result (private_window (joined (contents c.store_far.new.pages)) ≡ with_bytes (private_window (joined l)) c.args.at (bytes_of c.args.len c.args.value)))
    (c.store_near.ensures.no c.if-store_near.false) c.store_far.ensures.ok

pub returns-clause-bad_address : goal.returns-clause-bad_address
returns-clause-bad_address c =
    subst (λ (l : List (List ℕ)). (c.store_far.result ≡ Err BadAddress) ↔ IsNone (bytes_at (private_window (joined l)) c.args.at c.args.len))
    (c.store_near.ensures.no c.if-store_near.false) c.store_far.ensures.bad_address

pub returns-clause-err : goal.returns-clause-err
returns-clause-err c =
    subst (λ (l : List (List ℕ)). OnErr c.store_far.result (contents c.store_far.new.pages ≡ l)) (c.store_near.ensures.no c.if-store_near.false) c.store_far.ensures.err

pub returns-clause-lacks : goal.returns-clause-lacks
returns-clause-lacks c =
    subst (λ (own : List Bool). c.store_far.result ≡ Err NoMemory → Lacks (c.args.at - WINDOW_START) c.args.len own) c.store_near.ensures.still c.store_far.ensures.lacks

pub returns-clause-refused : goal.returns-clause-refused
returns-clause-refused c =
    subst (λ (own : List Bool). c.store_far.result ≡ Err BadAddress → owned c.store_far.new.pages ≡ own) c.store_near.ensures.still c.store_far.ensures.refused

pub returns-clause-gains : goal.returns-clause-gains
returns-clause-gains c =
    subst (λ (own : List Bool). Gains (c.args.at - WINDOW_START) c.args.len own (owned c.store_far.new.pages)) c.store_near.ensures.still c.store_far.ensures.gains

pub returns-clause-own : goal.returns-clause-own
returns-clause-own c = c.store_far.ensures.own
