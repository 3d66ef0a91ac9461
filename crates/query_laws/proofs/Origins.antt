-- A stored origin is a byte that an event has.
use Rattle.std.proofs.lemmas.Grind.{common_steps}
use Rattle.std.proofs.Common.{◌≡◌, inl, inr, ℕ, zero, suc, ◌+◌, ◌-◌, ◌<◌, ◌≤◌, ◌==◌, ◌++◌, nat_lt, Bool, true, false, if◌then◌else◌, List, [], ◌∷◌, length, Option, Some, None, option_map, slice_get, refl, ap, subst, ◌∙◌, arith, append_assoc, Contains}
use Rattle.std.proofs.lemmas.Bool.Decides.{nat_tests}
use Rattle.std.specs.List.{list_all}
use Rattle.std.proofs.lemmas.Bool.{false≢true, and_parts, leb-true, ltb-true, not-false}
use Rattle.std.proofs.lemmas.List.Elements.{filter-append}
use Rattle.std.proofs.lemmas.Option.{none-some, same_Some, option_and_then_some}
use Rattle.arn_base.specs.declared.records.Give.{Give}
use Rattle.arn_base.specs.declared.records.Origin.{Origin}
use Rattle.arn_base.specs.declared.records.Record.{Record}
use Rattle.arn_base.specs.declared.records.Src.{Src}
use Rattle.acts_model.specs.Records.{event_len, give_of, is_event}
use Rattle.history_model.specs.Broken.{are_origins, broken_from, first_broken, is_origin, lies_in_event, misplaces_start, origins_len}
use Rattle.history_model.specs.Events.{events, event_at}
use Rattle.lineage_join.specs.Fits.{IsThere}
use Rattle.lineage_model.specs.Flow.{Byte}
use Rattle.lineage_model.specs.Joined.{origin_at, origin_of}
use Rattle.query_laws.proofs.Found.{follows}
use Rattle.query_laws.proofs.Lists.{none-in, head-or-tail, first-in, later-in, in-kept}

-- a stored origin lies in one of the pieces
pub record IsPiece (origins : List Origin) (src : Src) : Type 0 where
  pub piece : Origin
  pub has : Contains origins piece
  pub event : piece.event ≡ src.event
  pub low : piece.at ≤ src.at
  pub inside : src.at < piece.at + piece.len

pub origin-piece : (origins : List Origin) (k : ℕ) (src : Src) → origin_at origins k ≡ Some src → IsPiece origins src
origin-piece [] k src is = absurd (none-some src is)
origin-piece (o ∷ origins) k src is = by-test (nat_lt k o.len) refl is (origin-piece origins (k - o.len) src)
  where
    by-test : (b : Bool) → nat_lt k o.len ≡ b → (if b then Some (record { event = o.event; at = o.at + k }) else origin_at origins (k - o.len)) ≡ Some src → (origin_at origins (k - o.len) ≡ Some src → IsPiece origins src) → IsPiece (o ∷ origins) src
    by-test true t h rest =
        let e = same_Some (record { event = o.event; at = o.at + k }) src h in
        let low = ltb-true k o.len t in
        let at : o.at + k ≡ src.at = ap (λ (x : Src). x.at) e in
        record { piece = o; has = first-in o origins; event = ap (λ (x : Src). x.event) e; low = omega (arith, at); inside = omega (arith, low, at) }
    by-test false t h rest =
        let r = rest h in record { piece = r.piece; has = later-in o r.piece origins r.has; event = r.event; low = r.low; inside = r.inside }

all-in : {X : Type 0} (p : X → Bool) (xs : List X) (x : X) → list_all p xs ≡ true → Contains xs x → p x ≡ true
all-in p xs x h1 h2 = grind (arith, common_steps, nat_tests, none-in, and_parts, head-or-tail)

pub got-in : {X : Type 0} (xs : List X) (i : ℕ) (x : X) → slice_get xs i ≡ Some x → Contains xs x
got-in [] i x h = absurd (none-some x h)
got-in (y ∷ xs) zero x h = subst (λ (z : _). Contains (y ∷ xs) z) (same_Some y x h) (first-in y xs)
got-in (y ∷ xs) (suc i) x h = later-in y x xs (got-in xs i x h)

got-append : {X : Type 0} (xs ys : List X) (i : ℕ) (x : X) → slice_get xs i ≡ Some x → slice_get (xs ++ ys) i ≡ Some x
got-append [] ys i x h = absurd (none-some x h)
got-append (y ∷ xs) ys zero x h = h
got-append (y ∷ xs) ys (suc i) x h = got-append xs ys i x h

-- a record's origins name events before it
record IsBehind (all : List Record) (e : Record) : Type 0 where
  before : List Record
  rest : List Record
  whole : all ≡ before ++ rest
  origins : are_origins before (give_of e) ≡ true
  placed : misplaces_start e ≡ false

behind-some : (before rest : List Record) (e : Record) → broken_from before rest ≡ None → Contains rest e → IsBehind (before ++ rest) e
behind-some before [] e h has = absurd (none-in e has)
behind-some before (x ∷ rest) e h has =
    let next = follows before x rest h in
    elim (head-or-tail x e rest has) [
      | inl is ↦ record { before = before; rest = x ∷ rest; whole = refl; origins = subst (λ (z : Record). are_origins before (give_of z) ≡ true) is (not-false (are_origins before (give_of x)) next.0.origins); placed = subst (λ (z : Record). misplaces_start z ≡ false) is next.0.placed }
      | inr later ↦ subst (λ (es : List Record). IsBehind es e) (append_assoc before (x ∷ []) rest) (behind-some (before ++ x ∷ []) rest e next.1 later)
    ]

lies-there : (all before rest : List Record) (o : Origin) (at : ℕ) → all ≡ before ++ rest → at < o.at + o.len → (found : Option Record) → event_at before o.event ≡ found → lies_in_event o (option_map event_len found) ≡ true → IsThere (event_at all o.event) (Byte at)
lies-there all before rest o at h1 h2 found h3 h4 = grind (arith, nat_tests, and_parts, false≢true, filter-append, got-append, leb-true)

give-there : (all before rest : List Record) (o : Option Give) (give : Give) (src : Src) (k : ℕ) → all ≡ before ++ rest → are_origins before o ≡ true → o ≡ Some give → origin_at give.origins k ≡ Some src → IsThere (event_at all src.event) (Byte src.at)
give-there all before rest None give src k whole are is at = absurd (none-some give is)
give-there all before rest (Some other) give src k whole are is at =
    let parts = and_parts (list_all (is_origin before) other.origins) (origins_len other.origins == length other.bytes) are in
    let p = origin-piece other.origins k src (ap (λ (x : Give). origin_at x.origins k) (same_Some other give is) ∙ at) in
    let lies = all-in (is_origin before) other.origins p.piece parts.0 p.has in
    subst (λ (n : ℕ). IsThere (event_at all n) (Byte src.at)) p.event (lies-there all before rest p.piece src.at whole p.inside (event_at before p.piece.event) refl lies)

pub origin-there : (entries : List Record) → first_broken entries ≡ None → (event k : ℕ) (e : Record) → event_at entries event ≡ Some e → (src : Src) → origin_of e k ≡ Some src → IsThere (event_at entries src.event) (Byte src.at)
origin-there entries stands event k e at src is =
    let has = (in-kept is_event entries e (got-in (events entries) event e at)).0 in
    let b = behind-some [] entries e stands has in
    option_and_then_some (λ (give : Give). origin_at give.origins k) (give_of e) src is (λ give gives piece.
    give-there entries b.before b.rest (give_of e) give src k b.whole b.origins gives piece)

-- how a child begins stands with a fork that made one
pub is-placed : (entries : List Record) → first_broken entries ≡ None → (e : Record) → Contains entries e → misplaces_start e ≡ false
is-placed entries stands e has = (behind-some [] entries e stands has).placed
