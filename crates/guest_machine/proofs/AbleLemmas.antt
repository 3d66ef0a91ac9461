-- Which processes of a list pass a test, one after the other.
use Rattle.std.proofs.Common.{◌≡◌, ℕ, zero, suc, ◌+◌, ◌<◌, ◌≤◌, ◌%◌, ◌++◌, min, max, IfSome, Bool, true, false, List, [], ◌∷◌, length, filter, get_or, take, drop, Option, None, Some, slice_get, refl, sym, ap, subst, ◌∙◌, arith, append-nil, length-append, take-append-drop}
use Rattle.std.proofs.Math.Seq.{take-length}
use Rattle.std.proofs.lemmas.List.{drop_more, take_more}
use Rattle.std.proofs.lemmas.List.Elements.{All-get_or, filter-append, filter_passes}
use Rattle.std.proofs.lemmas.Option.{get_or_from_slice_get, slice_get-get_or, slice_get_past, slice_get_within}
use Rattle.arn_base.specs.declared.boxes.Choice.{Choice}
use Rattle.arn_model.specs.declared.run_state.RunState.TheVariants.{CanGoOn}
use Rattle.arn_model.specs.Kernel.{Kernel, Machine}
use Rattle.arn_model.specs.Turn.{is_runnable, live, run_state, runnable, state_of}
use Rattle.parts_model.specs.Processes as table
use Rattle.guest_calls.specs.State.{State, StandsFor}
use Rattle.parts_model.specs.declared.limits.TheConstants.{MOST_SLICE}
use Rattle.guest_legs.specs.Legs.{ask, brought}
use Rattle.guest_machine.specs.Able.{first_of}
use Rattle.guest_machine.specs.Recorded.{IsReal, OfEach}
use Rattle.guest_machine.specs.declared.able.TheConstants.{MOST_KEPT}
use Rattle.guest_legs.specs.declared.leg.Pick.{Pick}

-- so many of the first i pass
abbrev pub Passed : (ℕ → Bool) → List ℕ → ℕ → ℕ → Type 0
Passed f xs i n = n ≡ length (filter f (take i xs))

-- the list is that of live processes
same-live : (s : State) (m : Machine) (xs : List ℕ) → StandsFor s m → xs ≡ table.live s.kernel.processes → filter (is_runnable m) xs ≡ runnable m
same-live s m xs stands is = ap (filter (is_runnable m)) (is ∙ ap (λ (k : Kernel). table.live k.processes) stands.kernel)

pub all-passed : (s : State) (xs : List ℕ) (n : ℕ) → xs ≡ table.live s.kernel.processes → OfEach s (λ m. Passed (is_runnable m) xs (length xs) n) → OfEach s (λ m. n ≡ length (runnable m))
all-passed s xs n is so_far m stands = so_far m stands ∙ ap (λ (ys : List ℕ). length (filter (is_runnable m) ys)) (take-length xs) ∙ ap length (same-live s m xs stands is)

behind-front : (front : List ℕ) (x : ℕ) (back : List ℕ) → slice_get (front ++ x ∷ back) (length front) ≡ Some x
behind-front [] x back = refl
behind-front (y ∷ front) x back = behind-front front x back

-- this one is found
found-at : (f : ℕ → Bool) (xs : List ℕ) (i x n : ℕ) → i < length xs → x ≡ get_or xs i 0 → f x ≡ true → Passed f xs i n → slice_get (filter f xs) n ≡ Some x
found-at f xs i x n within is does so_far =
    let split : xs ≡ take i xs ++ x ∷ drop (i + 1) xs = sym (take-append-drop i xs) ∙ ap (λ (ys : List ℕ). take i xs ++ ys) (drop_more xs i 0 within ∙ ap (λ (y : ℕ). y ∷ drop (i + 1) xs) (sym is)) in
    let passed : filter f xs ≡ filter f (take i xs) ++ x ∷ filter f (drop (i + 1) xs) = ap (filter f) split ∙ filter-append f (take i xs) (x ∷ drop (i + 1) xs) ∙ ap (λ (ys : List ℕ). filter f (take i xs) ++ ys) (one f x (drop (i + 1) xs) does) in
    ap (λ (ys : List ℕ). slice_get ys n) passed ∙ ap (slice_get (filter f (take i xs) ++ x ∷ filter f (drop (i + 1) xs))) so_far ∙ behind-front (filter f (take i xs)) x (filter f (drop (i + 1) xs))
  where
    one : (f : ℕ → Bool) (x : ℕ) (ys : List ℕ) → f x ≡ true → filter f (x ∷ ys) ≡ x ∷ filter f ys
    one f x ys at = rw at refl

pub found : (s : State) (xs : List ℕ) (i x n place : ℕ) (able : Bool) → i < length xs → x ≡ get_or xs i 0 → OfEach s (λ m. able ≡ is_runnable m x) → able ≡ true → OfEach s (λ m. Passed (is_runnable m) xs i n) → xs ≡ table.live s.kernel.processes → n ≡ place → OfEach s (λ m. Some x ≡ slice_get (runnable m) place)
found s xs i x n place able within is tells does so_far all at m stands =
    sym (found-at (is_runnable m) xs i x n within is (sym (tells m stands) ∙ does) (so_far m stands)) ∙ ap (slice_get (filter (is_runnable m) xs)) at ∙ ap (λ (ys : List ℕ). slice_get ys place) (same-live s m xs stands all)

-- none is
pub not-found : (s : State) (xs : List ℕ) (n place : ℕ) → xs ≡ table.live s.kernel.processes → OfEach s (λ m. Passed (is_runnable m) xs (length xs) n) → n ≤ place → OfEach s (λ m. None ≡ slice_get (runnable m) place)
not-found s xs n place is so_far few m stands = sym (slice_get_past (runnable m) place (omega (arith, all-passed s xs n is so_far m stands, few)))

-- what passes a test passes it
passing : (f : ℕ → Bool) (xs : List ℕ) (place x : ℕ) → slice_get (filter f xs) place ≡ Some x → f x ≡ true
passing f xs place x is =
    let ys = filter f xs in
    subst (λ (y : ℕ). f y ≡ true) (get_or_from_slice_get ys place x 0 is) (All-get_or (λ (y : ℕ). f y ≡ true) ys place 0 (slice_get_within ys place x is) (filter_passes f xs))

pub found-able : (s : State) (place pid : ℕ) → OfEach s (λ m. Some pid ≡ slice_get (runnable m) place) → OfEach s (λ m. is_runnable m pid ≡ true)
found-able s place pid is m stands = passing (is_runnable m) (live m) place pid (sym (is m stands))

some-able : (pids able : List ℕ) → CanGoOn ≡ state_of pids able → 0 < length able
some-able [] able is = absurd cc
some-able (p ∷ pids) [] is = absurd cc
some-able (p ∷ pids) (q ∷ able) is = omega arith

-- where the machine can go on, there is one
pub able-some : (s : State) (n : ℕ) → IsReal s → OfEach s (λ m. CanGoOn ≡ run_state m) → OfEach s (λ m. n ≡ length (runnable m)) → 0 < n
able-some s n real able counted =
    let m = real.machine in
    omega (arith, counted m real.stands, some-able (live m) (runnable m) (able m real.stands))

-- one at a place in range
pub able-there : (s : State) (n index : ℕ) → IsReal s → 0 < n → OfEach s (λ m. n ≡ length (runnable m)) → OfEach s (λ m. None ≡ slice_get (runnable m) (index % n)) → ⊥
able-there s n index real some counted none =
    let m = real.machine in
    let within : index % n < length (runnable m) = omega (arith, some, counted m real.stands) in
    some-none (none m real.stands ∙ slice_get-get_or (runnable m) (index % n) 0 within)
  where
    some-none : {x : ℕ} → None ≡ Some x → ⊥
    some-none is = cc

-- of kept ones one more
pub first-more : (n : ℕ) (xs ys : List ℕ) → take n (take n xs ++ ys) ≡ take n (xs ++ ys)
first-more zero xs ys = refl
first-more (suc n) [] ys = refl
first-more (suc n) (x ∷ xs) ys = ap (λ (zs : List ℕ). x ∷ zs) (first-more n xs ys)

-- a kept one
pub first-get : (n : ℕ) (xs : List ℕ) (place : ℕ) → place < n → slice_get (take n xs) place ≡ slice_get xs place
first-get zero xs place within = absurd (omega (arith, within))
first-get (suc n) [] place within = refl
first-get (suc n) (x ∷ xs) zero within = refl
first-get (suc n) (x ∷ xs) (suc place) within = first-get n xs place (omega (arith, within))

-- those that all have room
pub first-all : (n : ℕ) (xs : List ℕ) → length xs ≤ n → take n xs ≡ xs
first-all zero [] few = refl
first-all zero (x ∷ xs) few = absurd (omega (arith, few))
first-all (suc n) [] few = refl
first-all (suc n) (x ∷ xs) few = ap (λ (ys : List ℕ). x ∷ ys) (first-all n xs (omega (arith, few)))

-- what a scan has found among the first i
pub record IsScanned (s : State) (xs : List ℕ) (i n : ℕ) (first : List ℕ) : Type 0 where
  pub passed : OfEach s (λ m. Passed (is_runnable m) xs i n)
  pub kept : OfEach s (λ m. first ≡ first_of (filter (is_runnable m) (take i xs)))
  pub few : n ≤ i

filter-next : (f : ℕ → Bool) (xs : List ℕ) (i x : ℕ) → i < length xs → x ≡ get_or xs i 0 → filter f (take (i + 1) xs) ≡ filter f (take i xs) ++ filter f (x ∷ [])
filter-next f xs i x within is =
    ap (filter f) (take_more xs i 0 within ∙ ap (λ (y : ℕ). take i xs ++ y ∷ []) (sym is)) ∙ filter-append f (take i xs) (x ∷ [])

filter-one : (f : ℕ → Bool) (x : ℕ) → f x ≡ true → filter f (x ∷ []) ≡ x ∷ []
filter-one f x at = rw at refl

filter-none : (f : ℕ → Bool) (x : ℕ) → f x ≡ false → filter f (x ∷ []) ≡ []
filter-none f x at = rw at refl

module _ (s : State) (xs : List ℕ) (i n x : ℕ) (able : Bool) (first : List ℕ) (within : i < length xs) (is : x ≡ get_or xs i 0) (tells : OfEach s (λ m. able ≡ is_runnable m x)) (so_far : IsScanned s xs i n first) where
  -- one more that can go on
  pub scanned-some : able ≡ true → (n' : ℕ) (first' : List ℕ) → n' ≡ n + 1 → first' ≡ first_of (first ++ x ∷ []) → IsScanned s xs (i + 1) n' first'
  scanned-some does n' first' counted keeps =
      let next : OfEach s (λ m. filter (is_runnable m) (take (i + 1) xs) ≡ filter (is_runnable m) (take i xs) ++ x ∷ []) =
      λ m stands. filter-next (is_runnable m) xs i x within is ∙ ap (λ (ys : List ℕ). filter (is_runnable m) (take i xs) ++ ys) (filter-one (is_runnable m) x (sym (tells m stands) ∙ does)) in
      record {
        passed = λ m stands. omega (arith, counted, so_far.passed m stands, ap length (next m stands), length-append (filter (is_runnable m) (take i xs)) (x ∷ []));
        kept = λ m stands.
            keeps
            ∙ ap (λ (ys : List ℕ). first_of (ys ++ x ∷ [])) (so_far.kept m stands)
            ∙ first-more MOST_KEPT (filter (is_runnable m) (take i xs)) (x ∷ [])
            ∙ ap first_of (sym (next m stands));
        few = omega (arith, counted, so_far.few);
      }

  -- or that can't
  pub scanned-none : able ≡ false → (n' : ℕ) (first' : List ℕ) → n' ≡ n → first' ≡ first → IsScanned s xs (i + 1) n' first'
  scanned-none does n' first' counted keeps =
      let next : OfEach s (λ m. filter (is_runnable m) (take (i + 1) xs) ≡ filter (is_runnable m) (take i xs)) =
      λ m stands.
      filter-next (is_runnable m) xs i x within is
      ∙ ap (λ (ys : List ℕ). filter (is_runnable m) (take i xs) ++ ys) (filter-none (is_runnable m) x (sym (tells m stands) ∙ does))
      ∙ append-nil (filter (is_runnable m) (take i xs)) in
      record {
        passed = λ m stands. omega (arith, counted, so_far.passed m stands, ap length (next m stands));
        kept = λ m stands. keeps ∙ so_far.kept m stands ∙ ap first_of (sym (next m stands));
        few = omega (arith, counted, so_far.few);
      }

-- a choice brought into range
pub picked-by : (s : State) (told : Option Choice) (choice : Choice) (left able pid count : ℕ) → IfSome told (λ t. choice ≡ t) → OfEach s (λ m. able ≡ length (runnable m)) → OfEach s (λ m. Some pid ≡ slice_get (runnable m) (choice.index % able)) → count ≡ min (min (max choice.count 1) MOST_SLICE) left
    → OfEach s (λ m. IfSome told (λ t. record { pid = pid; count = count } ≡ brought (ask m left) t))
picked-by s None choice left able pid count is counted found few m stands = tt
picked-by s (Some t) choice left able pid count is counted found few m stands =
    let place : get_or (runnable m) (choice.index % length (runnable m)) 0 ≡ pid =
    get_or_from_slice_get (runnable m) (choice.index % length (runnable m)) pid 0 (ap (λ (n : ℕ). slice_get (runnable m) (choice.index % n)) (sym (counted m stands)) ∙ sym (found m stands)) in
    let one : record { pid = pid; count = count } ≡ brought (ask m left) choice = ap (λ (p : ℕ). pick p count) (sym place) ∙ ap (pick (get_or (runnable m) (choice.index % length (runnable m)) 0)) few in
    one ∙ ap (brought (ask m left)) is
  where
    pick : ℕ → ℕ → Pick
    pick p n = record { pid = p; count = n }
