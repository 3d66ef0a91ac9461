-- The first bytes of runs, and what is behind them.
use Rattle.std.proofs.Common.{◌≡◌, ℕ, zero, suc, ◌+◌, ◌-◌, ◌<◌, ◌≤◌, ◌==◌, ◌&&◌, ◌++◌, ◌∙◌, Bool, true, false, if◌then◌else◌, List, [], ◌∷◌, length, slice_index_or, take, drop, min, length-append, refl, sym, ap, arith, eq-eqb, eqb-true}
use Rattle.std.proofs.Math.Bool.{and-false}
use Rattle.std.proofs.Math.Nat.{min-zero, suc-min-suc, zero-min}
use Rattle.arn_base.specs.declared.records.Src.{Src}
use Rattle.arn_base.specs.declared.records.Origin.{Origin}
use Rattle.parts_model.specs.Tagged.{comes_before, one_origin, onto_origins, origins_of}
use Rattle.guest_pipes.specs.declared.runs.Run.{Run}
use Rattle.guest_pipes.specs.Runs.{AreRuns, places_from, places_of}

-- the first places of runs as origins
abbrev pub cut : ℕ → ℕ → List Run → List Origin
cut gone n [] = []
cut gone zero (r ∷ rs) = []
cut gone (suc n) (r ∷ rs) =
    record { event = r.event; at = gone; len = min (suc n) (r.len - gone) } ∷ cut 0 (suc n - min (suc n) (r.len - gone)) rs

pub cut-none : (gone : ℕ) (rs : List Run) → cut gone 0 rs ≡ []
cut-none gone [] = refl
cut-none gone (r ∷ rs) = refl

-- the first origin, if there is one, begins at an event's first byte
abbrev pub AtZero : List Origin → Type 0
AtZero [] = Unit {0}
AtZero (o ∷ os) = o.at ≡ 0

cut-zero : (n : ℕ) (rs : List Run) → AtZero (cut 0 n rs)
cut-zero n [] = tt
cut-zero zero (r ∷ rs) = tt
cut-zero (suc n) (r ∷ rs) = refl

-- no place comes before one at 0
never : (n : ℕ) → (n + 1 == 0) ≡ false
never n = by (n + 1 == 0) refl
  where
    by : (b : Bool) → (n + 1 == 0) ≡ b → (n + 1 == 0) ≡ false
    by true is = let none : n + 1 ≡ 0 = eqb-true (n + 1) 0 is in absurd (omega (arith, none))
    by false is = is

not-before : (p : Src) (o : Origin) → o.at ≡ 0 → comes_before p o ≡ false
not-before p o at =
    ap (λ (n : ℕ). (p.event == o.event) && (p.at + 1 == n)) at ∙ ap (λ (b : Bool). (p.event == o.event) && b) (never p.at) ∙ and-false (p.event == o.event)

onto-zero : (p : Src) (os : List Origin) → AtZero os → onto_origins p os ≡ one_origin p ∷ os
onto-zero p [] at = refl
onto-zero p (o ∷ os) at =
    ap (λ (b : Bool). if b then record { event = p.event; at = p.at; len = o.len + 1 } ∷ os else one_origin p ∷ o ∷ os) (not-before p o at)

-- the places of a run, and origins behind them that begin at 0
origins_of-run : (event at n : ℕ) (ps : List Src) → AtZero (origins_of ps) → origins_of (places_from event at (suc n) ++ ps) ≡ record { event = event; at = at; len = suc n } ∷ origins_of ps
origins_of-run event at zero ps zeros = onto-zero (record { event = event; at = at }) (origins_of ps) zeros
origins_of-run event at (suc n) ps zeros =
    let first : Src = record { event = event; at = at } in
    let run : Origin = record { event = event; at = at + 1; len = suc n } in
    let before : comes_before first run ≡ true = and-both (eq-eqb event event refl) (eq-eqb (at + 1) (at + 1) refl) in
    ap (onto_origins first) (origins_of-run event (at + 1) n ps zeros)
    ∙ ap (λ (x : Bool). if x then record { event = event; at = at; len = run.len + 1 } ∷ origins_of ps else one_origin first ∷ run ∷ origins_of ps) before
    ∙ ap (λ (k : ℕ). record { event = event; at = at; len = k } ∷ origins_of ps) (omega arith)
  where
    and-both : {a b : Bool} → a ≡ true → b ≡ true → a && b ≡ true
    and-both p q = rw (p, q) refl

first-run : (event at len : ℕ) (ps : List Src) (os : List Origin) → 0 < len → origins_of ps ≡ os → AtZero os → origins_of (places_from event at len ++ ps) ≡ record { event = event; at = at; len = len } ∷ os
first-run event at zero ps os some are zeros = absurd (omega (arith, some))
first-run event at (suc n) ps os some are zeros = rw (sym are) (origins_of-run event at n ps (rw are zeros))

pub length-places_from : (event at n : ℕ) → length (places_from event at n) ≡ n
length-places_from event at zero = refl
length-places_from event at (suc n) = ap (λ (k : ℕ). suc k) (length-places_from event (at + 1) n)

-- what is behind the first places of a run
drop-places_from : (event at gone n : ℕ) (rest : List Src) → gone ≤ n → drop gone (places_from event at n ++ rest) ≡ places_from event (at + gone) (n - gone) ++ rest
drop-places_from event at zero n rest within =
    ap (λ (k : ℕ). places_from event k n ++ rest) (omega arith) ∙ ap (λ (k : ℕ). places_from event (at + 0) k ++ rest) (omega arith)
drop-places_from event at (suc gone) zero rest within = absurd (omega (arith, within))
drop-places_from event at (suc gone) (suc n) rest within =
    drop-places_from event (at + 1) gone n rest (omega (arith, within))
    ∙ ap (λ (k : ℕ). places_from event k (n - gone) ++ rest) (omega arith)
    ∙ ap (λ (k : ℕ). places_from event (at + suc gone) k ++ rest) (omega arith)

drop-first : (event gone n : ℕ) (rest : List Src) → gone ≤ n → drop gone (places_from event 0 n ++ rest) ≡ places_from event gone (n - gone) ++ rest
drop-first event gone n rest within = drop-places_from event 0 gone n rest within ∙ ap (λ (k : ℕ). places_from event k (n - gone) ++ rest) (omega arith)

-- the first places of a run, and those behind it
take-places_from : (event at n len : ℕ) (rest : List Src) → take n (places_from event at len ++ rest) ≡ places_from event at (min n len) ++ take (n - min n len) rest
take-places_from event at zero len rest = rw (zero-min len) refl
take-places_from event at (suc n) zero rest =
    let all : suc n ≡ suc n - 0 = omega arith in
    rw (min-zero (suc n)) (ap (λ (k : ℕ). take k rest) all)
take-places_from event at (suc n) (suc len) rest =
    let fewer : suc n - suc (min n len) ≡ n - min n len = omega arith in
    rw (suc-min-suc n len, fewer) (ap (λ (ps : List Src). record { event = event; at = at } ∷ ps) (take-places_from event (at + 1) n len rest))

pub min-some : (n m : ℕ) → 0 < n → 0 < m → 0 < min n m
min-some zero m some more = absurd (omega (arith, some))
min-some (suc n) zero some more = absurd (omega (arith, more))
min-some (suc n) (suc m) some more = rw (suc-min-suc n m) (omega arith)

-- the first places of runs are those of their origins
pub origins_of-cut : (gone n : ℕ) (rs : List Run) → AreRuns gone rs → origins_of (take n (drop gone (places_of rs))) ≡ cut gone n rs
origins_of-cut gone zero [] runs = refl
origins_of-cut gone (suc n) [] runs = rw runs refl
origins_of-cut gone zero (r ∷ rs) runs = refl
origins_of-cut gone (suc n) (r ∷ rs) runs =
    let taken : ℕ = min (suc n) (r.len - gone) in
    ap (λ (ps : List Src). origins_of (take (suc n) ps)) (drop-first r.event gone r.len (places_of rs) (omega (arith, runs.0)))
    ∙ ap origins_of (take-places_from r.event gone (suc n) (r.len - gone) (places_of rs))
    ∙ first-run r.event gone taken (take (suc n - taken) (places_of rs)) (cut 0 (suc n - taken) rs) (min-some (suc n) (r.len - gone) (omega arith) (omega (arith, runs.0))) (origins_of-cut 0 (suc n - taken) rs runs.2) (cut-zero (suc n - taken) rs)

-- a whole run is gone
drop-whole : (event at n gone : ℕ) (rest : List Src) → n ≤ gone → drop (gone - n) rest ≡ drop gone (places_from event at n ++ rest)
drop-whole event at zero gone rest within = ap (λ (k : ℕ). drop k rest) (omega arith)
drop-whole event at (suc n) zero rest within = absurd (omega (arith, within))
drop-whole event at (suc n) (suc gone) rest within =
    ap (λ (k : ℕ). drop k rest) (omega arith) ∙ drop-whole event (at + 1) n gone rest (omega (arith, within))

pub drop-run : (r : Run) (rs : List Run) (gone : ℕ) → r.len ≤ gone → drop (gone - r.len) (places_of rs) ≡ drop gone (places_of (r ∷ rs))
drop-run r rs gone within = drop-whole r.event 0 r.len gone (places_of rs) within

-- the first run is gone
drop-nil : (n : ℕ) → drop {A = Src} n [] ≡ []
drop-nil zero = refl
drop-nil (suc n) = refl

popped-run : (r : Run) (rs : List Run) (gone n : ℕ) → n ≡ r.len → r.len ≤ gone → AreRuns 0 (r ∷ rs) → gone ≤ length (places_of (r ∷ rs)) → (drop (gone - n) (places_of rs) ≡ drop gone (places_of (r ∷ rs))) × AreRuns 0 rs × (gone - n ≤ length (places_of rs))
popped-run r rs gone n is within runs few =
    rw is (drop-run r rs gone within, runs.2, omega (arith, within, few, length-append (places_from r.event 0 r.len) (places_of rs), length-places_from r.event 0 r.len))

pub popped : (items next : List Run) (a b : Run) (gone : ℕ) → next ≡ drop 1 items → a ≡ slice_index_or items 0 a → b ≡ slice_index_or items 0 b → a.len ≤ gone → AreRuns 0 items → gone ≤ length (places_of items) → (drop (gone - b.len) (places_of next) ≡ drop gone (places_of items)) × AreRuns 0 next × (gone - b.len ≤ length (places_of next))
popped [] next a b gone rest isa isb within runs few = rw rest (drop-nil (gone - b.len) ∙ sym (drop-nil gone), refl, omega (arith, few))
popped (r ∷ rs) next a b gone rest isa isb within runs few =
    let first : a.len ≡ r.len = ap (λ (x : Run). x.len) isa in
    rw rest (popped-run r rs gone b.len (ap (λ (x : Run). x.len) isb) (omega (arith, within, first)) runs few)
