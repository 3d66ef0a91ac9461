-- Ports by the places where they stand.
use Rattle.std.proofs.Common.{◌≡◌, ℕ, zero, suc, ◌+◌, ◌<◌, ◌≤◌, ◌==◌, nat_lt, not, Bool, true, false, cond, [], ◌∷◌, ◌++◌, length, get_or, set, Option, None, Some, is_some, Result, Ok, Err, OnOk, refl, sym, ap, subst, ◌∙◌, arith, true≢false, eq-eqb, eqb-true}
use Rattle.std.specs.Prelude.{option_and_then, slice_get, unwrap_or}
use Rattle.std.specs.List.{position, position_or_len, remove}
use Rattle.std.proofs.lemmas.Bool.{ltb-true, ltb-false}
use Rattle.parts_model.specs.Ports.{Port, Ports, can_connect, freed, has_place, is_in_use, oldest, port_at, with_port}
use Rattle.guest_sockets.specs.Sound.{AreApart}

-- the port has the number
abbrev pub has : ℕ → Port → Bool
has n p = p.number == n

some-inj : (q p : Port) → Some q ≡ Some p → q ≡ p
some-inj q p is = ap (λ (o : Option Port). unwrap_or o q) is

at-first : (n : ℕ) (ps : Ports) (i : ℕ) (e : Port) → i ≡ position_or_len (has n) ps → i < length ps → e ≡ get_or ps i e → (slice_get ps i ≡ Some e) × (e.number ≡ n)
at-first n [] i e first within read = absurd (omega arith)
at-first n (q ∷ ps) zero e first within read = by (q.number == n) refl first
  where
    by : (b : Bool) → (q.number == n) ≡ b → zero ≡ cond (not b) (1 + position_or_len (has n) ps) 0 → (Some q ≡ Some e) × (e.number ≡ n)
    by true is front = (ap (λ (p : Port). Some p) (sym read), ap (λ (p : Port). p.number) read ∙ eqb-true q.number n is)
    by false is front = absurd (omega (arith, front))
at-first n (q ∷ ps) (suc i) e first within read = by (q.number == n) first (λ rest. at-first n ps i e rest (omega arith) read)
  where
    by : (b : Bool) → suc i ≡ cond (not b) (1 + position_or_len (has n) ps) 0 → (i ≡ position_or_len (has n) ps → (slice_get ps i ≡ Some e) × (e.number ≡ n)) → (slice_get ps i ≡ Some e) × (e.number ≡ n)
    by true front rest = absurd (omega (arith, front))
    by false front rest = rest (omega (arith, front))

-- the port that stands at the found place
pub found-at : (n : ℕ) (ps : Ports) (i : ℕ) (e : Port) → position (has n) ps ≡ Some i → e ≡ get_or ps i e → (slice_get ps i ≡ Some e) × (e.number ≡ n)
found-at n ps i e found read = by (nat_lt (position_or_len (has n) ps) (length ps)) refl found
  where
    by : (b : Bool) → nat_lt (position_or_len (has n) ps) (length ps) ≡ b → cond b (Some (position_or_len (has n) ps)) None ≡ Some i → (slice_get ps i ≡ Some e) × (e.number ≡ n)
    by true is place =
        let first : position_or_len (has n) ps ≡ i = ap (λ (o : Option ℕ). unwrap_or o 0) place in
        let within = ltb-true (position_or_len (has n) ps) (length ps) is in
        at-first n ps i e (sym first) (omega (arith, first, within)) read
    by false is place = absurd (true≢false (sym (ap is_some place)))

absent : (n : ℕ) (ps : Ports) → length ps ≤ position_or_len (has n) ps → port_at ps n ≡ None
absent n [] past = refl
absent n (q ∷ ps) past = by (q.number == n) past (absent n ps)
  where
    by : (b : Bool) → suc (length ps) ≤ cond (not b) (1 + position_or_len (has n) ps) 0 → (length ps ≤ position_or_len (has n) ps → port_at ps n ≡ None) → cond b (Some q) (port_at ps n) ≡ None
    by true past' rest = absurd (omega (arith, past'))
    by false past' rest = rest (omega (arith, past'))

-- something listens where a place is found
taken : (n : ℕ) (ps : Ports) (i : ℕ) → position (has n) ps ≡ Some i → is_in_use ps n ≡ true
taken n ps i found = by (nat_lt (position_or_len (has n) ps) (length ps)) refl found
  where
    in_use : (all : Ports) → position_or_len (has n) all < length all → is_in_use all n ≡ true
    in_use [] within = absurd (omega arith)
    in_use (q ∷ all) within = either (q.number == n) within (in_use all)
      where
        either : (b : Bool) → cond (not b) (1 + position_or_len (has n) all) 0 < suc (length all) → (position_or_len (has n) all < length all → is_in_use all n ≡ true) → is_some (cond b (Some q) (port_at all n)) ≡ true
        either true front rest = refl
        either false front rest = rest (omega (arith, front))

    by : (b : Bool) → nat_lt (position_or_len (has n) ps) (length ps) ≡ b → cond b (Some (position_or_len (has n) ps)) None ≡ Some i → is_in_use ps n ≡ true
    by true is place = in_use ps (ltb-true (position_or_len (has n) ps) (length ps) is)
    by false is place = absurd (true≢false (sym (ap is_some place)))

-- no port is found where none is
pub not_found : (n : ℕ) (ps : Ports) → position (has n) ps ≡ None → port_at ps n ≡ None
not_found n ps none = by (nat_lt (position_or_len (has n) ps) (length ps)) refl none
  where
    by : (b : Bool) → nat_lt (position_or_len (has n) ps) (length ps) ≡ b → cond b (Some (position_or_len (has n) ps)) None ≡ None → port_at ps n ≡ None
    by true is place = absurd (true≢false (ap is_some place))
    by false is place = absent n ps (ltb-false (position_or_len (has n) ps) (length ps) is)

-- what stands at a place is the port of its number
pub port_at-at : (ps : Ports) (i : ℕ) (p : Port) (n : ℕ) → slice_get ps i ≡ Some p → p.number ≡ n → AreApart ps → port_at ps n ≡ Some p
port_at-at [] i p n is number apart = absurd (true≢false (sym (ap is_some is)))
port_at-at (q ∷ ps) zero p n is number apart =
    ap (λ (b : Bool). cond b (Some q) (port_at ps n)) (eq-eqb q.number n (ap (λ (r : Port). r.number) (some-inj q p is) ∙ number)) ∙ is
port_at-at (q ∷ ps) (suc i) p n is number apart = by (q.number == n) refl (port_at-at ps i p n is number apart.1)
  where
    by : (b : Bool) → (q.number == n) ≡ b → port_at ps n ≡ Some p → cond b (Some q) (port_at ps n) ≡ Some p
    by true same rest = absurd (true≢false (sym (ap is_some rest) ∙ ap (is_in_use ps) (sym (eqb-true q.number n same)) ∙ apart.0))
    by false other rest = rest

-- a port in front has another number
other_number : (q : Port) (ps : Ports) (i : ℕ) (p : Port) (n : ℕ) → slice_get ps i ≡ Some p → p.number ≡ n → AreApart (q ∷ ps) → (q.number == n) ≡ false
other_number q ps i p n is number apart = by (q.number == n) refl
  where
    by : (b : Bool) → (q.number == n) ≡ b → b ≡ false
    by true same = absurd (true≢false (sym (ap is_some (port_at-at ps i p n is number apart.1)) ∙ ap (is_in_use ps) (sym (eqb-true q.number n same)) ∙ apart.0))
    by false other = refl

not_in_front : (q : Port) (ps : Ports) (n : ℕ) → is_in_use (q ∷ ps) n ≡ false → ((q.number == n) ≡ false) × (is_in_use ps n ≡ false)
not_in_front q ps n free = by (q.number == n) free
  where
    by : (b : Bool) → is_some (cond b (Some q) (port_at ps n)) ≡ false → (b ≡ false) × (is_in_use ps n ≡ false)
    by true taken = absurd (true≢false taken)
    by false rest = (refl, rest)

with_port-absent : (ps : Ports) (n : ℕ) (change : Port → Port) → is_in_use ps n ≡ false → with_port ps n change ≡ ps
with_port-absent [] n change free = refl
with_port-absent (q ∷ ps) n change free =
    let both = not_in_front q ps n free in
    ap (λ (b : Bool). cond b (change q) q ∷ with_port ps n change) both.0
    ∙ ap (λ (rest : Ports). q ∷ rest) (with_port-absent ps n change both.1)

-- nothing changes where nothing listens
pub with_port-none : (ps : Ports) (n : ℕ) (change : Port → Port) → port_at ps n ≡ None → with_port ps n change ≡ ps
with_port-none ps n change none = with_port-absent ps n change (ap is_some none)

freed-absent : (ps : Ports) (n : ℕ) → is_in_use ps n ≡ false → freed ps n ≡ ps
freed-absent [] n free = refl
freed-absent (q ∷ ps) n free =
    let both = not_in_front q ps n free in
    ap (λ (b : Bool). cond (not b) (q ∷ freed ps n) (freed ps n)) both.0
    ∙ ap (λ (rest : Ports). q ∷ rest) (freed-absent ps n both.1)

-- nothing is freed where nothing listens
pub freed-none : (ps : Ports) (n : ℕ) → port_at ps n ≡ None → freed ps n ≡ ps
freed-none ps n none = freed-absent ps n (ap is_some none)

front : (q p : Port) (n : ℕ) → Some q ≡ Some p → p.number ≡ n → (q.number == n) ≡ true
front q p n is number = eq-eqb q.number n (ap (λ (r : Port). r.number) (some-inj q p is) ∙ number)

front_free : (q p : Port) (ps : Ports) (n : ℕ) → Some q ≡ Some p → p.number ≡ n → AreApart (q ∷ ps) → is_in_use ps n ≡ false
front_free q p ps n is number apart = ap (is_in_use ps) (sym (ap (λ (r : Port). r.number) (some-inj q p is) ∙ number)) ∙ apart.0

-- a change of the port at a place
pub with_port-at : (ps : Ports) (i : ℕ) (p : Port) (n : ℕ) (change : Port → Port) → slice_get ps i ≡ Some p → p.number ≡ n → AreApart ps → set ps i (change p) ≡ with_port ps n change
with_port-at [] i p n change is number apart = refl
with_port-at (q ∷ ps) zero p n change is number apart =
    ap (λ (r : Port). change r ∷ ps) (sym (some-inj q p is))
    ∙ ap (λ (rest : Ports). change q ∷ rest) (sym (with_port-absent ps n change (front_free q p ps n is number apart)))
    ∙ ap (λ (b : Bool). cond b (change q) q ∷ with_port ps n change) (sym (front q p n is number))
with_port-at (q ∷ ps) (suc i) p n change is number apart =
    ap (λ (rest : Ports). q ∷ rest) (with_port-at ps i p n change is number apart.1)
    ∙ ap (λ (b : Bool). cond b (change q) q ∷ with_port ps n change) (sym (other_number q ps i p n is number apart))

-- the ports without the one at a place
pub freed-at : (ps : Ports) (i : ℕ) (p : Port) (n : ℕ) → slice_get ps i ≡ Some p → p.number ≡ n → AreApart ps → remove ps i ≡ freed ps n
freed-at [] i p n is number apart = absurd (true≢false (sym (ap is_some is)))
freed-at (q ∷ ps) zero p n is number apart =
    sym (freed-absent ps n (front_free q p ps n is number apart))
    ∙ ap (λ (b : Bool). cond (not b) (q ∷ freed ps n) (freed ps n)) (sym (front q p n is number))
freed-at (q ∷ ps) (suc i) p n is number apart =
    ap (λ (rest : Ports). q ∷ rest) (freed-at ps i p n is number apart.1)
    ∙ ap (λ (b : Bool). cond (not b) (q ∷ freed ps n) (freed ps n)) (sym (other_number q ps i p n is number apart))

in_use-with_port : (ps : Ports) (n : ℕ) (change : Port → Port) (m : ℕ) → ((p : Port) → (change p).number ≡ p.number) → is_in_use (with_port ps n change) m ≡ is_in_use ps m
in_use-with_port [] n change m keeps = refl
in_use-with_port (q ∷ ps) n change m keeps = by (q.number == n) (in_use-with_port ps n change m keeps)
  where
    once : (r : Port) → r.number ≡ q.number → is_in_use (with_port ps n change) m ≡ is_in_use ps m → is_in_use (r ∷ with_port ps n change) m ≡ is_in_use (q ∷ ps) m
    once r same rest = ap (λ (k : ℕ). is_some (cond (k == m) (Some r) (port_at (with_port ps n change) m))) same ∙ either (q.number == m) rest
      where
        either : (b : Bool) → is_in_use (with_port ps n change) m ≡ is_in_use ps m → is_some (cond b (Some r) (port_at (with_port ps n change) m)) ≡ is_some (cond b (Some q) (port_at ps m))
        either true rest' = refl
        either false rest' = rest'

    by : (b : Bool) → is_in_use (with_port ps n change) m ≡ is_in_use ps m → is_in_use (cond b (change q) q ∷ with_port ps n change) m ≡ is_in_use (q ∷ ps) m
    by true rest = once (change q) (keeps q) rest
    by false rest = once q refl rest

pub AreApart-with_port : (ps : Ports) (n : ℕ) (change : Port → Port) → ((p : Port) → (change p).number ≡ p.number) → AreApart ps → AreApart (with_port ps n change)
AreApart-with_port [] n change keeps apart = tt
AreApart-with_port (q ∷ ps) n change keeps apart = (
  in_use-with_port ps n change _ keeps ∙ ap (is_in_use ps) (same (q.number == n)) ∙ apart.0,
  AreApart-with_port ps n change keeps apart.1,
)
  where
    same : (b : Bool) → (cond b (change q) q).number ≡ q.number
    same true = keeps q
    same false = refl

in_use-freed : (ps : Ports) (n m : ℕ) → is_in_use ps m ≡ false → is_in_use (freed ps n) m ≡ false
in_use-freed [] n m free = refl
in_use-freed (q ∷ ps) n m free = by (q.number == n) (not_in_front q ps m free) (in_use-freed ps n m)
  where
    by : (b : Bool) → ((q.number == m) ≡ false) × (is_in_use ps m ≡ false) → (is_in_use ps m ≡ false → is_in_use (freed ps n) m ≡ false) → is_in_use (cond (not b) (q ∷ freed ps n) (freed ps n)) m ≡ false
    by true both rest = rest both.1
    by false both rest = ap (λ (b : Bool). is_some (cond b (Some q) (port_at (freed ps n) m))) both.0 ∙ rest both.1

pub AreApart-freed : (ps : Ports) (n : ℕ) → AreApart ps → AreApart (freed ps n)
AreApart-freed [] n apart = tt
AreApart-freed (q ∷ ps) n apart = by (q.number == n) (AreApart-freed ps n apart.1)
  where
    by : (b : Bool) → AreApart (freed ps n) → AreApart (cond (not b) (q ∷ freed ps n) (freed ps n))
    by true rest = rest
    by false rest = (in_use-freed ps n q.number apart.0, rest)

in_use-push : (ps : Ports) (p : Port) (m : ℕ) → is_in_use ps m ≡ false → (p.number == m) ≡ false → is_in_use (ps ++ p ∷ []) m ≡ false
in_use-push [] p m free other = ap (λ (b : Bool). is_some (cond b (Some p) None)) other
in_use-push (q ∷ ps) p m free other =
    let both = not_in_front q ps m free in
    ap (λ (b : Bool). is_some (cond b (Some q) (port_at (ps ++ p ∷ []) m))) both.0 ∙ in_use-push ps p m both.1 other

swap : (a b : ℕ) → (a == b) ≡ false → (b == a) ≡ false
swap a b other = by (b == a) refl
  where
    by : (x : Bool) → (b == a) ≡ x → x ≡ false
    by true same = absurd (true≢false (sym (eq-eqb a b (sym (eqb-true b a same))) ∙ other))
    by false is = refl

-- one port more, of a number at which nothing listens
pub AreApart-push : (ps : Ports) (p : Port) → is_in_use ps p.number ≡ false → AreApart ps → AreApart (ps ++ p ∷ [])
AreApart-push [] p free apart = (refl, tt)
AreApart-push (q ∷ ps) p free apart =
    let both = not_in_front q ps p.number free in (
      in_use-push ps p q.number apart.0 (swap q.number p.number both.0),
      AreApart-push ps p both.1 apart.1,
    )

-- the port at the found place
module _ (now ps : Ports) (n i : ℕ) (e : Port) (seen : ps ≡ now) (found : position (has n) ps ≡ Some i) (read : e ≡ get_or ps i e) (apart : AreApart ps) where
  pub port-here : port_at now n ≡ Some e
  port-here =
      let at = found-at n ps i e found read in
      ap (λ (all : Ports). port_at all n) (sym seen) ∙ port_at-at ps i e n at.0 at.1 apart

  pub oldest-here : oldest now n ≡ slice_get e.waiting 0
  oldest-here = ap (λ (o : Option Port). option_and_then (λ p. slice_get p.waiting 0) o) port-here

  pub can_connect-here : can_connect now n ≡ has_place e
  can_connect-here = ap (λ (o : Option Port). is_some (option_and_then (λ p. cond (has_place p) (Some p) None) o)) port-here ∙ some_if (has_place e)
    where
      some_if : (b : Bool) → is_some (cond b (Some e) None) ≡ b
      some_if true = refl
      some_if false = refl

  pub changed-here : (change : Port → Port) (p : Port) → p ≡ change e → set ps i p ≡ with_port now n change
  changed-here change p same =
      let at = found-at n ps i e found read in
      ap (set ps i) same ∙ with_port-at ps i e n change at.0 at.1 apart ∙ ap (λ (all : Ports). with_port all n change) seen

  pub apart-here : (p : Port) → p.number ≡ e.number → AreApart (set ps i p)
  apart-here p same =
      let at = found-at n ps i e found read in
      let change : Port → Port = λ q. record q { waiting = p.waiting } in
      let is : p ≡ change e = ap (λ (k : ℕ). record { number = k; waiting = p.waiting }) same in
      subst AreApart (sym (ap (set ps i) is ∙ with_port-at ps i e n change at.0 at.1 apart)) (AreApart-with_port ps n change (λ q. refl) apart)

  pub freed-here : remove ps i ≡ freed now n
  freed-here =
      let at = found-at n ps i e found read in
      freed-at ps i e n at.0 at.1 apart ∙ ap (λ (all : Ports). freed all n) seen

  pub apart-freed : AreApart (remove ps i)
  apart-freed =
      let at = found-at n ps i e found read in
      subst AreApart (sym (freed-at ps i e n at.0 at.1 apart)) (AreApart-freed ps n apart)

pub none-here : (now ps : Ports) (n : ℕ) → ps ≡ now → position (has n) ps ≡ None → port_at now n ≡ None
none-here now ps n seen none = ap (λ (all : Ports). port_at all n) (sym seen) ∙ not_found n ps none

-- a place is found exactly where something listens
pub in_use-found : (now ps : Ports) (n : ℕ) → ps ≡ now → is_some (position (has n) ps) ≡ is_in_use now n
in_use-found now ps n seen = found_or_not ps ∙ ap (λ (all : Ports). is_in_use all n) seen
  where
    found_or_not : (all : Ports) → is_some (position (has n) all) ≡ is_in_use all n
    found_or_not all = by (position (has n) all) refl
      where
        by : (o : Option ℕ) → position (has n) all ≡ o → is_some o ≡ is_in_use all n
        by None is = sym (ap is_some (not_found n all is))
        by (Some i) is = sym (taken n all i is)

-- nothing listens, so nothing connects and nothing waits
pub can_connect-none : (ps : Ports) (n : ℕ) → port_at ps n ≡ None → can_connect ps n ≡ false
can_connect-none ps n none = ap (λ (o : Option Port). is_some (option_and_then (λ p. cond (has_place p) (Some p) None) o)) none

pub oldest-none : (ps : Ports) (n : ℕ) → port_at ps n ≡ None → oldest ps n ≡ None
oldest-none ps n none = ap (λ (o : Option Port). option_and_then (λ p. slice_get p.waiting 0) o) none

pub OnOk-map : {T E : Type 0} (r : Result T E) (P Q : Type 0) → (P → Q) → OnOk r P → OnOk r Q
OnOk-map (Ok v) P Q f h = f h
OnOk-map (Err e) P Q f h = tt
