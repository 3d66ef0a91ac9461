-- Runs around a place.
use Rattle.std.proofs.Common.{◌≡◌, ℕ, suc, ◌-◌, ◌<◌, ◌≤◌, ◌==◌, ◌&&◌, ◌++◌, ◌∙◌, max, Bool, true, false, if◌then◌else◌, nat_le, nat_lt, None, Some, List, [], ◌∷◌, get_or, take, drop, option_to_list, refl, sym, ap, subst, arith, leb-true, leb-false, ltb-true, ltb-false, le-leb, lt-ltb, eqb-true, ne_eqb}
use Rattle.std.proofs.lemmas.Bool.{lt-leb}
use Rattle.std.proofs.Math.Bool.{and-false}
use Rattle.arn_base.specs.declared.records.Src.{Src}
use Rattle.guest_files.specs.declared.runs.Run.{Run}
use Rattle.guest_files.specs.Runs.{AreRuns, EndsWrite, count_before, count_until, from_place, is_of_write, left_behind, next_start, run_at, source_at, source_in, unless_of_write, with_run}

pub is_of_write-both : (a b : Run) → is_of_write a b ≡ true → (a.event ≡ b.event) × (a.base ≡ b.base)
is_of_write-both a b is = by (a.event == b.event) (a.base == b.base) refl refl is
  where
    by : (x y : Bool) → (a.event == b.event) ≡ x → (a.base == b.base) ≡ y → x && y ≡ true → (a.event ≡ b.event) × (a.base ≡ b.base)
    by true true event base both = (eqb-true a.event b.event event, eqb-true a.base b.base base)
    by true false event base both = cc
    by false y event base both = cc

-- another place of writing
not-of_write : (a b : Run) → a.base < b.base → is_of_write a b ≡ false
not-of_write a b below =
    ap (λ (x : Bool). (a.event == b.event) && x) (ne_eqb a.base b.base (λ (same : a.base ≡ b.base). omega (arith, same, below))) ∙ and-false (a.event == b.event)

EndsWrite-same : (a b : Run) (rs : List Run) → a.event ≡ b.event → a.base ≡ b.base → EndsWrite a rs → EndsWrite b rs
EndsWrite-same a b [] event base ends = tt
EndsWrite-same a b (next ∷ rs) event base ends =
    ap (λ (n : ℕ). (n == next.event) && (b.base == next.base)) (sym event)
    ∙ ap (λ (n : ℕ). (a.event == next.event) && (n == next.base)) (sym base)
    ∙ ends

AreRuns-order : (from : ℕ) (rs : List Run) (end : ℕ) → AreRuns from rs end → from ≤ end
AreRuns-order from [] end runs = omega (arith, runs)
AreRuns-order from (r ∷ rs) end runs = omega (arith, runs.2, AreRuns-order (next_start rs end) rs end runs.4)

at-start : (from : ℕ) (r : Run) (rs : List Run) (end : ℕ) → AreRuns from (r ∷ rs) end → AreRuns r.start (r ∷ rs) end
at-start from r rs end runs = (refl, omega (arith, runs.0, runs.1), omega (arith, runs.0, runs.2), runs.3, runs.4)

-- where the run that a place is in begins, and those behind it
pub record Holds (r : Run) (rs : List Run) (place end : ℕ) : Type 0 where
  pub runs : AreRuns r.start (r ∷ rs) end
  pub begins : r.start ≤ place
  pub ends : place < next_start rs end

pub run_at-holds : (from : ℕ) (r : Run) (rs : List Run) (end place : ℕ) → AreRuns from (r ∷ rs) end → from ≤ place → place < end → Holds (run_at r rs place) (drop (count_until place rs) rs) place end
run_at-holds from r [] end place runs above below = record { runs = at-start from r [] end runs; begins = omega (arith, runs.0, above); ends = below }
run_at-holds from r (s ∷ rs) end place runs above below = by (nat_le s.start place) refl (λ (up_to : s.start ≤ place). run_at-holds s.start s rs end place runs.4 up_to below)
  where
    by : (b : Bool) → nat_le s.start place ≡ b → (s.start ≤ place → Holds (run_at s rs place) (drop (count_until place rs) rs) place end) → Holds (if b then run_at s rs place else r) (drop (if b then suc (count_until place rs) else 0) (s ∷ rs)) place end
    by true is rest = rest (leb-true s.start place is)
    by false is rest = record { runs = at-start from r (s ∷ rs) end runs; begins = omega (arith, runs.0, above); ends = leb-false s.start place is }

-- the runs in front of the one that a place is in no longer matter behind it
pub run_at-later : (r : Run) (rs : List Run) (place n : ℕ) → place ≤ n → run_at r rs n ≡ run_at (run_at r rs place) (drop (count_until place rs) rs) n
run_at-later r [] place n later = refl
run_at-later r (s ∷ rs) place n later = by (nat_le s.start place) refl (run_at-later s rs place n later)
  where
    by : (b : Bool) → nat_le s.start place ≡ b → run_at s rs n ≡ run_at (run_at s rs place) (drop (count_until place rs) rs) n → run_at r (s ∷ rs) n ≡ run_at (if b then run_at s rs place else r) (drop (if b then suc (count_until place rs) else 0) (s ∷ rs)) n
    by true is rest = ap (λ (b : Bool). if b then run_at s rs n else r) (le-leb s.start n (omega (arith, leb-true s.start place is, later))) ∙ rest
    by false is rest = refl

-- it is the last that begins up to the place
pub run_at-index : (r : Run) (rs : List Run) (place : ℕ) (d : Run) → get_or (r ∷ rs) (count_until place rs) d ≡ run_at r rs place
run_at-index r [] place d = refl
run_at-index r (s ∷ rs) place d = by (nat_le s.start place) (run_at-index s rs place d)
  where
    by : (b : Bool) → get_or (s ∷ rs) (count_until place rs) d ≡ run_at s rs place → get_or (r ∷ s ∷ rs) (if b then suc (count_until place rs) else 0) d ≡ (if b then run_at s rs place else r)
    by true rest = rest
    by false rest = refl

pub drop-run_at : (r : Run) (rs : List Run) (place : ℕ) → drop (count_until place rs) (r ∷ rs) ≡ run_at r rs place ∷ drop (count_until place rs) rs
drop-run_at r [] place = refl
drop-run_at r (s ∷ rs) place = by (nat_le s.start place) (drop-run_at s rs place)
  where
    by : (b : Bool) → drop (count_until place rs) (s ∷ rs) ≡ run_at s rs place ∷ drop (count_until place rs) rs → drop (if b then suc (count_until place rs) else 0) (r ∷ s ∷ rs) ≡ (if b then run_at s rs place else r) ∷ drop (if b then suc (count_until place rs) else 0) (s ∷ rs)
    by true rest = rest
    by false rest = refl

-- up to where the next one begins
pub run_at-first : (r : Run) (rs : List Run) (n end : ℕ) → n < next_start rs end → run_at r rs n ≡ r
run_at-first r [] n end below = refl
run_at-first r (s ∷ rs) n end below = ap (λ (b : Bool). if b then run_at s rs n else r) (lt-leb s.start n below)

-- runs of one write have the same in a place
source-same : (a b : Run) (n : ℕ) → a.event ≡ b.event → a.base ≡ b.base → source_in a n ≡ source_in b n
source-same a b n event base =
    ap (λ (e : ℕ). record { event = e; at = n - a.base }) event ∙ ap (λ (k : ℕ). record { event = b.event; at = n - k }) base

run_at-same : (a b : Run) (rs : List Run) (n : ℕ) → a.event ≡ b.event → a.base ≡ b.base → source_in (run_at a rs n) n ≡ source_in (run_at b rs n) n
run_at-same a b [] n event base = source-same a b n event base
run_at-same a b (s ∷ rs) n event base = by (nat_le s.start n)
  where
    by : (x : Bool) → source_in (if x then run_at s rs n else a) n ≡ source_in (if x then run_at s rs n else b) n
    by true = refl
    by false = source-same a b n event base

-- what is in front of a place
front-more : (from end place : ℕ) (r : Run) (rs : List Run) → AreRuns from (r ∷ rs) end → from < place → (next_start rs end ≤ place → AreRuns (next_start rs end) (take (count_before place rs) rs) place) → AreRuns from (r ∷ take (count_before place rs) rs) place
front-more from end place r [] runs below rest = (runs.0, runs.1, below, tt, refl)
front-more from end place r (s ∷ rs) runs below rest = by (nat_lt s.start place) refl
  where
    by : (b : Bool) → nat_lt s.start place ≡ b → AreRuns from (r ∷ take (if b then suc (count_before place rs) else 0) (s ∷ rs)) place
    by true is =
        let before = ltb-true s.start place is in
        let more = subst (λ (b : Bool). AreRuns s.start (take (if b then suc (count_before place rs) else 0) (s ∷ rs)) place) is (rest (omega (arith, before))) in
        (runs.0, runs.1, runs.2, runs.3, more)
    by false is = (runs.0, runs.1, below, tt, refl)

front-runs : (from : ℕ) (rs : List Run) (end place : ℕ) → AreRuns from rs end → from ≤ place → place ≤ end → AreRuns from (take (count_before place rs) rs) place
front-runs from [] end place runs above below = omega (arith, runs, above, below)
front-runs from (r ∷ rs) end place runs above below =
    by (nat_lt r.start place) refl (λ (up_to : next_start rs end ≤ place). front-runs (next_start rs end) rs end place runs.4 up_to below)
  where
    by : (b : Bool) → nat_lt r.start place ≡ b → (next_start rs end ≤ place → AreRuns (next_start rs end) (take (count_before place rs) rs) place) → AreRuns from (take (if b then suc (count_before place rs) else 0) (r ∷ rs)) place
    by true is rest = front-more from end place r rs runs (omega (arith, runs.0, ltb-true r.start place is)) rest
    by false is rest = omega (arith, runs.0, above, ltb-false r.start place is)

-- runs behind others, the first of them of a later write
append-runs : (from mid end : ℕ) (xs : List Run) (y : Run) (ys : List Run) → AreRuns from xs mid → AreRuns mid (y ∷ ys) end → y.base ≡ mid → AreRuns from (xs ++ y ∷ ys) end
append-runs from mid end [] y ys front back new = subst (λ (n : ℕ). AreRuns n (y ∷ ys) end) (sym front) back
append-runs from mid end (x ∷ []) y ys front back new = (front.0, front.1, omega (arith, front.2, back.0), not-of_write x y (omega (arith, front.1, front.2, new)), at-start mid y ys end back)
append-runs from mid end (x ∷ z ∷ zs) y ys front back new = (front.0, front.1, front.2, front.3, append-runs z.start mid end (z ∷ zs) y ys front.4 back new)

-- what is behind a new run
pub record Behind (new : Run) (back : List Run) (place end : ℕ) (source : ℕ → Src) : Type 0 where
  pub runs : AreRuns new.start (new ∷ back) (max end place)
  pub far : place ≤ next_start back (max end place)
  pub same : (n : ℕ) → place ≤ n → n < end → source_in (run_at new back n) n ≡ source n

-- nothing, where the new run goes to the end
none-behind : (new : Run) (place end : ℕ) (source : ℕ → Src) → new.base ≡ new.start → new.start < place → end ≤ place → Behind new [] place end source
none-behind new place end source whole order past = record {
  runs = (refl, omega (arith, whole), omega (arith, order), tt, refl);
  far = omega arith;
  same = λ n above below. absurd (omega (arith, above, below, past));
}

drop-all : (from : ℕ) (rs : List Run) (end place : ℕ) → AreRuns from rs end → end ≤ place → drop (count_until place rs) rs ≡ []
drop-all from [] end place runs past = refl
drop-all from (r ∷ rs) end place runs past =
    let order = AreRuns-order (next_start rs end) rs end runs.4 in
    ap (λ (b : Bool). drop (if b then suc (count_until place rs) else 0) (r ∷ rs)) (le-leb r.start place (omega (arith, runs.0, runs.2, order, past)))
    ∙ drop-all (next_start rs end) rs end place runs.4 past

-- the rest of a run, or nothing of it where the new one is of the same write
held-behind : (new h : Run) (ds : List Run) (place end : ℕ) (source : ℕ → Src) → new.base ≡ new.start → new.start < place → place < end → Holds h ds place end → ((n : ℕ) → place ≤ n → source_in (run_at h ds n) n ≡ source n) → Behind new (option_to_list (unless_of_write h new place) ++ ds) place end source
held-behind new h ds place end source whole order below holds same = by (is_of_write new h) refl
  where
    longer : end ≡ max end place
    longer = omega (arith, below)

    ends : place < next_start ds (max end place)
    ends = subst (λ (n : ℕ). place < next_start ds n) longer holds.ends

    rest : AreRuns (next_start ds (max end place)) ds (max end place)
    rest = subst (λ (n : ℕ). AreRuns (next_start ds n) ds n) longer holds.runs.4

    by : (b : Bool) → is_of_write new h ≡ b → Behind new (option_to_list (if b then None else Some (from_place h place)) ++ ds) place end source
    by true is =
        let both = is_of_write-both new h is in
        record {
          runs = (refl, omega (arith, whole), omega (arith, order, ends), EndsWrite-same h new ds (sym both.0) (sym both.1) holds.runs.3, rest);
          far = omega (arith, ends);
          same = λ n above below'. run_at-same new h ds n both.0 both.1 ∙ same n above;
        }
    by false is =
        let left = from_place h place in
        record {
          runs = (refl, omega (arith, whole), order, is, (refl, omega (arith, holds.runs.1, holds.begins), ends, EndsWrite-same h left ds refl refl holds.runs.3, rest));
          far = omega arith;
          same =
              λ n above below'.
              ap (λ (b : Bool). source_in (if b then run_at left ds n else new) n) (le-leb place n above) ∙ run_at-same left h ds n refl refl ∙ same n above;
        }

left-behind : (new : Run) (runs : List Run) (place end : ℕ) → AreRuns 0 runs end → new.base ≡ new.start → new.start < place → Behind new (option_to_list (left_behind runs new place end) ++ drop (count_until place runs) runs) place end (source_at runs)
left-behind new [] place end runs whole order = none-behind new place end (source_at []) whole order (omega (arith, runs))
left-behind new (r ∷ rs) place end runs whole order =
    let dropped : drop (count_until place (r ∷ rs)) (r ∷ rs) ≡ drop (count_until place rs) rs = ap (λ (b : Bool). drop (if b then suc (count_until place rs) else 0) (r ∷ rs)) (le-leb r.start place (omega (arith, runs.0))) in
    subst (λ (ds : List Run). Behind new (option_to_list (left_behind (r ∷ rs) new place end) ++ ds) place end (source_at (r ∷ rs))) (sym dropped) (by (nat_lt place end) refl)
  where
    by : (b : Bool) → nat_lt place end ≡ b → Behind new (option_to_list (if b then unless_of_write (run_at r rs place) new place else None) ++ drop (count_until place rs) rs) place end (source_at (r ∷ rs))
    by true is =
        let below = ltb-true place end is in
        held-behind new (run_at r rs place) (drop (count_until place rs) rs) place end (source_at (r ∷ rs)) whole order below (run_at-holds 0 r rs end place runs (omega arith) below) (λ n above. ap (λ (h : Run). source_in h n) (sym (run_at-later r rs place n above)))
    by false is =
        let past = ltb-false place end is in
        subst (λ (ds : List Run). Behind new ds place end (source_at (r ∷ rs))) (sym (drop-all (next_start rs end) rs end place runs.4 past)) (none-behind new place end (source_at (r ∷ rs)) whole order past)

-- the run that a place is in, by its number
pub left_behind-index : (runs : List Run) (new : Run) (place end count : ℕ) (d : Run) → AreRuns 0 runs end → place < end → count ≡ count_until place runs → unless_of_write (get_or runs (count - 1) d) new place ≡ left_behind runs new place end
left_behind-index [] new place end count d runs some is = absurd (omega (arith, runs, some))
left_behind-index (r ∷ rs) new place end count d runs some is =
    let here : count ≡ suc (count_until place rs) = is ∙ ap (λ (b : Bool). if b then suc (count_until place rs) else 0) (le-leb r.start place (omega (arith, runs.0))) in
    let number : count - 1 ≡ count_until place rs = omega (arith, here) in
    ap (λ (n : ℕ). unless_of_write (get_or (r ∷ rs) n d) new place) number
    ∙ ap (λ (h : Run). unless_of_write h new place) (run_at-index r rs place d)
    ∙ ap (λ (b : Bool). if b then unless_of_write (run_at r rs place) new place else None) (sym (lt-ltb place end some))

-- the runs in front of a new one stay
front-run : (r : Run) (rs : List Run) (new : Run) (back : List Run) (n : ℕ) → n < new.start → run_at r (take (count_before new.start rs) rs ++ new ∷ back) n ≡ run_at r rs n
front-run r [] new back n below = run_at-first r (new ∷ back) n 0 below
front-run r (s ∷ rs) new back n below = by (nat_lt s.start new.start) refl (front-run s rs new back n below)
  where
    by : (b : Bool) → nat_lt s.start new.start ≡ b → run_at s (take (count_before new.start rs) rs ++ new ∷ back) n ≡ run_at s rs n → run_at r (take (if b then suc (count_before new.start rs) else 0) (s ∷ rs) ++ new ∷ back) n ≡ run_at r (s ∷ rs) n
    by true is rest = ap (λ (h : Run). if nat_le s.start n then h else r) rest
    by false is rest = run_at-first r (new ∷ back) n 0 below ∙ sym (run_at-first r (s ∷ rs) n 0 (omega (arith, below, ltb-false s.start new.start is)))

past-front : (r : Run) (rs : List Run) (new : Run) (back : List Run) (n : ℕ) → new.start ≤ n → run_at r (take (count_before new.start rs) rs ++ new ∷ back) n ≡ run_at new back n
past-front r [] new back n above = ap (λ (b : Bool). if b then run_at new back n else r) (le-leb new.start n above)
past-front r (s ∷ rs) new back n above = by (nat_lt s.start new.start) refl (past-front s rs new back n above)
  where
    by : (b : Bool) → nat_lt s.start new.start ≡ b → run_at s (take (count_before new.start rs) rs ++ new ∷ back) n ≡ run_at new back n → run_at r (take (if b then suc (count_before new.start rs) else 0) (s ∷ rs) ++ new ∷ back) n ≡ run_at new back n
    by true is rest =
        ap (λ (b : Bool). if b then run_at s (take (count_before new.start rs) rs ++ new ∷ back) n else r) (le-leb s.start n (omega (arith, above, ltb-true s.start new.start is))) ∙ rest
    by false is rest = ap (λ (b : Bool). if b then run_at new back n else r) (le-leb new.start n above)

front-source : (rs : List Run) (new : Run) (back : List Run) (end n : ℕ) → AreRuns 0 rs end → new.start ≤ end → n < new.start → source_at (take (count_before new.start rs) rs ++ new ∷ back) n ≡ source_at rs n
front-source [] new back end n runs within below = absurd (omega (arith, runs, within, below))
front-source (r ∷ rs) new back end n runs within below =
    ap (λ (b : Bool). source_at (take (if b then suc (count_before new.start rs) else 0) (r ∷ rs) ++ new ∷ back) n) (lt-ltb r.start new.start (omega (arith, runs.0, below)))
    ∙ ap (λ (h : Run). source_in h n) (front-run r rs new back n below)

past-source : (rs : List Run) (new : Run) (back : List Run) (n : ℕ) → new.start ≤ n → source_at (take (count_before new.start rs) rs ++ new ∷ back) n ≡ source_in (run_at new back n) n
past-source [] new back n above = refl
past-source (r ∷ rs) new back n above = by (nat_lt r.start new.start)
  where
    by : (b : Bool) → source_at (take (if b then suc (count_before new.start rs) else 0) (r ∷ rs) ++ new ∷ back) n ≡ source_in (run_at new back n) n
    by true = ap (λ (h : Run). source_in h n) (past-front r rs new back n above)
    by false = refl

-- runs after a new one is laid over them
pub record Laid (old laid : List Run) (run : Run) (place end : ℕ) : Type 0 where
  pub runs : AreRuns 0 laid (max end place)
  pub front : (n : ℕ) → n < run.start → source_at laid n ≡ source_at old n
  pub new : (n : ℕ) → run.start ≤ n → n < place → source_at laid n ≡ source_in run n
  pub back : (n : ℕ) → place ≤ n → n < end → source_at laid n ≡ source_at old n

pub with_run-laid : (runs : List Run) (new : Run) (place end : ℕ) → AreRuns 0 runs end → new.base ≡ new.start → new.start < place → new.start ≤ end → Laid runs (with_run runs new place end) new place end
with_run-laid runs new place end are whole order within =
    let back : List Run = option_to_list (left_behind runs new place end) ++ drop (count_until place runs) runs in
    let behind = left-behind new runs place end are whole order in
    record {
      runs = append-runs 0 new.start (max end place) (take (count_before new.start runs) runs) new back (front-runs 0 runs end new.start are (omega arith) within) behind.runs whole;
      front = λ n below. front-source runs new back end n are within below;
      new =
          λ n above below.
          past-source runs new back n above
          ∙ ap (λ (h : Run). source_in h n) (run_at-first new back n (max end place) (omega (arith, below, behind.far)));
      back = λ n above below. past-source runs new back n (omega (arith, order, above)) ∙ behind.same n above below;
    }
