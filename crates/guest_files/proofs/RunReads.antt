-- Runs as they are read: between two places, as origins.
use Rattle.std.proofs.Common.{◌≡◌, ℕ, zero, suc, ◌+◌, ◌-◌, ◌<◌, ◌≤◌, ◌==◌, ◌&&◌, ◌++◌, ◌∙◌, min, Bool, true, false, if◌then◌else◌, nat_lt, List, [], ◌∷◌, take, drop, append-nil, refl, sym, ap, subst, arith, le-leb, ltb-true, ltb-false, lt-ltb, le-ltb, eqb-true, eq-eqb}
use Rattle.arn_base.specs.declared.records.Src.{Src}
use Rattle.arn_base.specs.declared.records.Origin.{Origin}
use Rattle.parts_model.specs.Tagged.{comes_before, one_origin, onto_origins, origins_of}
use Rattle.guest_files.specs.declared.runs.Run.{Run}
use Rattle.guest_files.specs.Runs.{AreRuns, HaveBetween, count_until, is_of_write, next_start, origins_between, run_at, source_at, source_in, sources_from}
use Rattle.guest_files.proofs.RunForms.{drop-run_at, run_at-first, run_at-holds, run_at-later}
use Rattle.guest_files.proofs.Sources.{drop-sources_from, sources_from-append, sources_from-same, take-sources_from}

-- the first origin, if there is one, doesn't go on with a run that ends in a place
abbrev pub EndsRun : Run → ℕ → List Origin → Type 0
EndsRun r place [] = Unit {0}
EndsRun r place (o ∷ os) = (r.event == o.event) && (place - r.base == o.at) ≡ false

-- the last place of a run in front of origins
onto-end : (r : Run) (a next : ℕ) (os : List Origin) → r.base ≤ a → next ≡ suc a → EndsRun r next os → onto_origins (source_in r a) os ≡ record { event = r.event; at = a - r.base; len = 1 } ∷ os
onto-end r a next [] base is ends = refl
onto-end r a next (o ∷ os) base is ends =
    let same : a - r.base + 1 ≡ next - r.base = omega (arith, base, is) in
    ap (λ (b : Bool). if b then record { event = r.event; at = a - r.base; len = o.len + 1 } ∷ os else one_origin (source_in r a) ∷ o ∷ os)
    (ap (λ (n : ℕ). (r.event == o.event) && (n == o.at)) same ∙ ends)

both : (a b : Bool) → a ≡ true → b ≡ true → a && b ≡ true
both a b p q = rw (p, q) refl

-- the places of a run in front of others
origins_of-run : (r : Run) (a n next : ℕ) (rest : List Src) → r.base ≤ a → next ≡ a + suc n → EndsRun r next (origins_of rest) → origins_of (sources_from (source_in r) a (suc n) ++ rest) ≡ record { event = r.event; at = a - r.base; len = suc n } ∷ origins_of rest
origins_of-run r a zero next rest base is ends = onto-end r a next (origins_of rest) base (omega (arith, is)) ends
origins_of-run r a (suc n) next rest base is ends =
    let run : Origin = record { event = r.event; at = a + 1 - r.base; len = suc n } in
    let here : a - r.base + 1 ≡ a + 1 - r.base = omega (arith, base) in
    let before : comes_before (source_in r a) run ≡ true = both (r.event == r.event) (a - r.base + 1 == a + 1 - r.base) (eq-eqb r.event r.event refl) (eq-eqb (a - r.base + 1) (a + 1 - r.base) here) in
    let more : suc n + 1 ≡ suc (suc n) = omega arith in
    ap (onto_origins (source_in r a)) (origins_of-run r (a + 1) n next rest (omega (arith, base)) (omega (arith, is)) ends)
    ∙ ap (λ (b : Bool). if b then record { event = r.event; at = a - r.base; len = run.len + 1 } ∷ origins_of rest else one_origin (source_in r a) ∷ run ∷ origins_of rest) before
    ∙ ap (λ (k : ℕ). record { event = r.event; at = a - r.base; len = k } ∷ origins_of rest) more

origins_of-some : (r : Run) (a n next : ℕ) (rest : List Src) → r.base ≤ a → 0 < n → next ≡ a + n → EndsRun r next (origins_of rest) → origins_of (sources_from (source_in r) a n ++ rest) ≡ record { event = r.event; at = a - r.base; len = n } ∷ origins_of rest
origins_of-some r a zero next rest base some is ends = absurd (omega (arith, some))
origins_of-some r a (suc n) next rest base some is ends = origins_of-run r a n next rest base is ends

-- a run goes on with the next one only where both are of one write
same-at : (event other a b place : ℕ) → a ≤ place → b ≤ place → (event == other) && (a == b) ≡ false → (event == other) && (place - a == place - b) ≡ false
same-at event other a b place below under ends =
    ap (λ (x : Bool). (event == other) && x) (by (a == b) (place - a == place - b) refl refl) ∙ ends
  where
    by : (x y : Bool) → (a == b) ≡ x → (place - a == place - b) ≡ y → (place - a == place - b) ≡ (a == b)
    by true true is are = are ∙ sym is
    by false false is are = are ∙ sym is
    by true false is are =
        let same : a ≡ b = eqb-true a b is in
        are ∙ sym are ∙ eq-eqb (place - a) (place - b) (ap (λ (n : ℕ). place - n) same) ∙ sym is
    by false true is are =
        let same : place - a ≡ place - b = eqb-true (place - a) (place - b) are in
        let equal : a ≡ b = omega (arith, same, below, under) in
        are ∙ sym (eq-eqb a b equal)

-- nothing is between a place and itself
pub origins_between-none : (rs : List Run) (place end : ℕ) → end ≤ place → origins_between rs place end ≡ []
origins_between-none [] place end none = refl
origins_between-none (r ∷ rs) place end none =
    ap (λ (b : Bool). if b then record { event = r.event; at = place - r.base; len = min end (next_start rs end) - place } ∷ origins_between rs (min end (next_start rs end)) end else []) (le-ltb place end none)

pub HaveBetween-none : (rs : List Run) (place end : ℕ) → end ≤ place → HaveBetween rs place end
HaveBetween-none [] place end none = none
HaveBetween-none (r ∷ rs) place end none = λ some. absurd (omega (arith, none, some))

-- the first run goes to the end
between-one : (r : Run) (rs : List Run) (place end : ℕ) → place < end → end ≤ next_start rs end → origins_between (r ∷ rs) place end ≡ record { event = r.event; at = place - r.base; len = end - place } ∷ []
between-one r rs place end some past =
    let stop : min end (next_start rs end) ≡ end = omega (arith, past) in
    ap (λ (b : Bool). if b then record { event = r.event; at = place - r.base; len = min end (next_start rs end) - place } ∷ origins_between rs (min end (next_start rs end)) end else []) (lt-ltb place end some)
    ∙ ap (λ (n : ℕ). record { event = r.event; at = place - r.base; len = n - place } ∷ origins_between rs n end) stop
    ∙ ap (λ (os : List Origin). record { event = r.event; at = place - r.base; len = end - place } ∷ os) (origins_between-none rs end end (omega arith))

-- or the next one goes on
between-more : (r s : Run) (rs : List Run) (place end : ℕ) → place < end → s.start < end → origins_between (r ∷ s ∷ rs) place end ≡ record { event = r.event; at = place - r.base; len = s.start - place } ∷ origins_between (s ∷ rs) s.start end
between-more r s rs place end some more =
    let stop : min end s.start ≡ s.start = omega (arith, more) in
    ap (λ (b : Bool). if b then record { event = r.event; at = place - r.base; len = min end s.start - place } ∷ origins_between (s ∷ rs) (min end s.start) end else []) (lt-ltb place end some)
    ∙ ap (λ (n : ℕ). record { event = r.event; at = place - r.base; len = n - place } ∷ origins_between (s ∷ rs) n end) stop

EndsRun-between : (r s : Run) (rs : List Run) (end : ℕ) → r.base ≤ s.start → s.base ≤ s.start → is_of_write r s ≡ false → s.start < end → EndsRun r s.start (origins_between (s ∷ rs) s.start end)
EndsRun-between r s rs end base other apart some =
    subst (λ (b : Bool). EndsRun r s.start (if b then record { event = s.event; at = s.start - s.base; len = min end (next_start rs end) - s.start } ∷ origins_between rs (min end (next_start rs end)) end else [])) (sym (lt-ltb s.start end some))
    (same-at r.event s.event r.base s.base s.start base other apart)

read-one : (r : Run) (rs : List Run) (place end : ℕ) → r.base ≤ place → place < end → end ≤ next_start rs end → origins_of (sources_from (λ n. source_in (run_at r rs n) n) place (end - place)) ≡ origins_between (r ∷ rs) place end
read-one r rs place end base some past =
    ap origins_of
    (sources_from-same (λ n. source_in (run_at r rs n) n) (source_in r) place place (end - place) (λ i below. ap (λ (h : Run). source_in h (place + i)) (run_at-first r rs (place + i) end (omega (arith, below, past))))
    ∙ sym (append-nil (sources_from (source_in r) place (end - place))))
    ∙ origins_of-some r place (end - place) end [] base (omega (arith, some)) (omega (arith, some)) tt
    ∙ sym (between-one r rs place end some past)

read-more : (r s : Run) (rs : List Run) (place end : ℕ) → r.base ≤ place → place < s.start → s.base ≤ s.start → is_of_write r s ≡ false → s.start < end → origins_of (sources_from (λ n. source_in (run_at s rs n) n) s.start (end - s.start)) ≡ origins_between (s ∷ rs) s.start end → origins_of (sources_from (λ n. source_in (run_at r (s ∷ rs) n) n) place (end - place)) ≡ origins_between (r ∷ s ∷ rs) place end
read-more r s rs place end base before other apart more rest =
    let f : ℕ → Src = λ n. source_in (run_at r (s ∷ rs) n) n in
    let g : ℕ → Src = λ n. source_in (run_at s rs n) n in
    let later : List Src = sources_from g s.start (end - s.start) in
    let split : end - place ≡ (s.start - place) + (end - s.start) = omega (arith, before, more) in
    let mid : place + (s.start - place) ≡ s.start = omega (arith, before) in
    let front : sources_from f place (s.start - place) ≡ sources_from (source_in r) place (s.start - place) = sources_from-same f (source_in r) place place (s.start - place) (λ i below. ap (λ (h : Run). source_in h (place + i)) (run_at-first r (s ∷ rs) (place + i) end (omega (arith, below)))) in
    let back : sources_from f s.start (end - s.start) ≡ later = sources_from-same f g s.start s.start (end - s.start) (λ i below. ap (λ (b : Bool). source_in (if b then run_at s rs (s.start + i) else r) (s.start + i)) (le-leb s.start (s.start + i) (omega arith))) in
    ap origins_of
    (ap (λ (n : ℕ). sources_from f place n) split
    ∙ sources_from-append f place (s.start - place) (end - s.start)
    ∙ ap (λ (n : ℕ). sources_from f place (s.start - place) ++ sources_from f n (end - s.start)) mid
    ∙ ap (λ (ss : List Src). sources_from f place (s.start - place) ++ ss) back
    ∙ ap (λ (ss : List Src). ss ++ later) front)
    ∙ origins_of-some r place (s.start - place) s.start later base (omega (arith, before)) (omega (arith, before)) (subst (EndsRun r s.start) (sym rest) (EndsRun-between r s rs end (omega (arith, base, before)) other apart more))
    ∙ ap (λ (os : List Origin). record { event = r.event; at = place - r.base; len = s.start - place } ∷ os) rest
    ∙ sym (between-more r s rs place end (omega (arith, before, more)) more)

read : (from : ℕ) (r : Run) (rs : List Run) (len place end : ℕ) → AreRuns from (r ∷ rs) len → from ≤ place → place < next_start rs len → place < end → end ≤ len → origins_of (sources_from (λ n. source_in (run_at r rs n) n) place (end - place)) ≡ origins_between (r ∷ rs) place end
read from r [] len place end runs above below some within = read-one r [] place end (omega (arith, runs.1, above)) some (omega arith)
read from r (s ∷ rs) len place end runs above below some within =
    by (nat_lt s.start end) refl (λ (more : s.start < end). read s.start s rs len s.start end runs.4 (omega arith) runs.4.2 more within)
  where
    by : (b : Bool) → nat_lt s.start end ≡ b → (s.start < end → origins_of (sources_from (λ n. source_in (run_at s rs n) n) s.start (end - s.start)) ≡ origins_between (s ∷ rs) s.start end) → origins_of (sources_from (λ n. source_in (run_at r (s ∷ rs) n) n) place (end - place)) ≡ origins_between (r ∷ s ∷ rs) place end
    by true is rest =
        let more = ltb-true s.start end is in
        read-more r s rs place end (omega (arith, runs.1, above)) below runs.4.1 runs.3 more (rest more)
    by false is rest = read-one r (s ∷ rs) place end (omega (arith, runs.1, above)) some (ltb-false s.start end is)

have : (from : ℕ) (r : Run) (rs : List Run) (len place end : ℕ) → AreRuns from (r ∷ rs) len → (place < end → (from ≤ place) × (place < next_start rs len)) → end ≤ len → HaveBetween (r ∷ rs) place end
have from r [] len place end runs there within =
    λ some. (omega (arith, runs.1, (there some).0), some, omega arith)
have from r (s ∷ rs) len place end runs there within =
    let rest = have s.start s rs len (min end s.start) end runs.4 (λ some. (omega (arith, some), omega (arith, some, runs.4.2))) within in
    λ some. (omega (arith, runs.1, (there some).0), (there some).1, rest)

-- what is read of runs from a place on
abbrev pub read_from : List Run → ℕ → List Run
read_from runs place = drop (count_until place runs - 1) runs

read_from-some : (r : Run) (rs : List Run) (end place : ℕ) → AreRuns 0 (r ∷ rs) end → read_from (r ∷ rs) place ≡ run_at r rs place ∷ drop (count_until place rs) rs
read_from-some r rs end place runs =
    let less : suc (count_until place rs) - 1 ≡ count_until place rs = omega arith in
    ap (λ (b : Bool). drop ((if b then suc (count_until place rs) else 0) - 1) (r ∷ rs)) (le-leb r.start place (omega (arith, runs.0)))
    ∙ ap (λ (n : ℕ). drop n (r ∷ rs)) less
    ∙ drop-run_at r rs place

pub read_from-have : (runs : List Run) (len place end : ℕ) → AreRuns 0 runs len → end ≤ len → HaveBetween (read_from runs place) place end
read_from-have [] len place end are within = omega (arith, are, within)
read_from-have (r ∷ rs) len place end are within =
    subst (λ (rest : List Run). HaveBetween rest place end) (sym (read_from-some r rs len place are)) (by (nat_lt place end) refl)
  where
    h : Run
    h = run_at r rs place

    by : (b : Bool) → nat_lt place end ≡ b → HaveBetween (h ∷ drop (count_until place rs) rs) place end
    by true is =
        let some = ltb-true place end is in
        let holds = run_at-holds 0 r rs len place are (omega arith) (omega (arith, some, within)) in
        have h.start h (drop (count_until place rs) rs) len place end holds.runs (λ some. (holds.begins, holds.ends)) within
    by false is = HaveBetween-none (h ∷ drop (count_until place rs) rs) place end (ltb-false place end is)

read_from-some_bytes : (r : Run) (rs : List Run) (len place count : ℕ) → AreRuns 0 (r ∷ rs) len → 0 < count → place + count ≤ len → origins_between (read_from (r ∷ rs) place) place (place + count) ≡ origins_of (sources_from (source_at (r ∷ rs)) place count)
read_from-some_bytes r rs len place count are some within =
    let h : Run = run_at r rs place in
    let ds : List Run = drop (count_until place rs) rs in
    let holds = run_at-holds 0 r rs len place are (omega arith) (omega (arith, some, within)) in
    let all : place + count - place ≡ count = omega arith in
    ap (λ (rest : List Run). origins_between rest place (place + count)) (read_from-some r rs len place are)
    ∙ sym (read h.start h ds len place (place + count) holds.runs holds.begins holds.ends (omega (arith, some)) within)
    ∙ ap (λ (n : ℕ). origins_of (sources_from (λ k. source_in (run_at h ds k) k) place n)) all
    ∙ ap origins_of (sources_from-same (λ k. source_in (run_at h ds k) k) (source_at (r ∷ rs)) place place count (λ i below. ap (λ (x : Run). source_in x (place + i)) (sym (run_at-later r rs place (place + i) (omega arith)))))

read_from-bytes : (runs : List Run) (len place count : ℕ) → AreRuns 0 runs len → place + count ≤ len → origins_between (read_from runs place) place (place + count) ≡ origins_of (sources_from (source_at runs) place count)
read_from-bytes runs len place zero are within = origins_between-none (read_from runs place) place (place + zero) (omega arith)
read_from-bytes [] len place (suc n) are within = absurd (omega (arith, are, within))
read_from-bytes (r ∷ rs) len place (suc n) are within = read_from-some_bytes r rs len place (suc n) are (omega arith) within

pub read_from-origins : (runs : List Run) (len place end : ℕ) → AreRuns 0 runs len → place ≤ end → end ≤ len → origins_between (read_from runs place) place end ≡ origins_of (take (end - place) (drop place (sources_from (source_at runs) 0 len)))
read_from-origins runs len place end are order within =
    let from : 0 + place ≡ place = omega arith in
    let stop : end ≡ place + (end - place) = omega (arith, order) in
    ap (λ (n : ℕ). origins_between (read_from runs place) place n) stop
    ∙ read_from-bytes runs len place (end - place) are (omega (arith, order, within))
    ∙ ap origins_of
    (sym
    (ap (take (end - place)) (drop-sources_from (source_at runs) 0 place len ∙ ap (λ (n : ℕ). sources_from (source_at runs) n (len - place)) from)
    ∙ take-sources_from (source_at runs) place (end - place) (len - place) (omega (arith, order, within))))
