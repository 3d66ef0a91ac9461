-- The handling of processes, as the kernel keeps it, and how they take signals.
use Rattle.std.proofs.Common.{◌≡◌, ◌≢◌, ℕ, zero, suc, ◌+◌, ◌<◌, ◌≤◌, List, [], ◌∷◌, ◌++◌, set, Option, None, Some, is_some, option_map, refl, sym, ap, ap₂, ◌∙◌, arith, add-one}
use Rattle.parts_model.specs.Numbered.{nth, nth_from_one, with_nth_from_one}
use Rattle.arn_model.specs.Kernel.{Handling, child_handling}
use Rattle.guest_bodies.specs.Follows.{KeepsWatches, Rewatches, SetsWatch}
use Rattle.guest_bodies.specs.Shown.{Guests, Shown, Watch, inherited, watch_in}
use Rattle.guest_requests.specs.Tables.{handling, handlings, handlings_from}

abbrev handling_in : Guests → ℕ → Option Handling
handling_in guests p = option_map handling (watch_in guests p)

nth-from : (first n : ℕ) (guests : Guests) (i p : ℕ) → p ≡ first + i → i < n → nth (handlings_from first n guests) i ≡ handling_in guests p
nth-from first zero guests i p is within = absurd (omega arith)
nth-from first (suc n) guests zero p is within = ap (handling_in guests) (omega (arith, is))
nth-from first (suc n) guests (suc i) p is within = nth-from (first + 1) n guests i p (omega (arith, is)) (omega arith)

-- those from a number on that take signals as before
same-from : (first n : ℕ) (old new : Guests) → ((q : ℕ) → first ≤ q → watch_in new q ≡ watch_in old q) → handlings_from first n new ≡ handlings_from first n old
same-from first zero old new same = refl
same-from first (suc n) old new same = ap₂ (λ (x : Option Handling) (xs : List (Option Handling)). x ∷ xs) (ap (option_map handling) (same first (omega arith))) (same-from (first + 1) n old new (λ q later. same q (omega arith)))

set-from : (first n : ℕ) (old new : Guests) (i p : ℕ) (x : Option Handling) → p ≡ first + i → handling_in new p ≡ x → ((q : ℕ) → q ≢ p → watch_in new q ≡ watch_in old q) → handlings_from first n new ≡ set (handlings_from first n old) i x
set-from first zero old new i p x is own kept = refl
set-from first (suc n) old new zero p x is own kept =
    ap₂ (λ (x : Option Handling) (xs : List (Option Handling)). x ∷ xs) (ap (handling_in new) (omega (arith, is)) ∙ own) (same-from (first + 1) n old new (λ q later. kept q (λ (e : q ≡ p). omega arith)))
set-from first (suc n) old new (suc i) p x is own kept =
    ap₂ (λ (x : Option Handling) (xs : List (Option Handling)). x ∷ xs) (ap (option_map handling) (kept first (λ (e : first ≡ p). omega arith))) (set-from (first + 1) n old new i p x (omega (arith, is)) own kept)

pub handlings-same : (made : ℕ) (old new : Guests) → KeepsWatches old new → handlings made new ≡ handlings made old
handlings-same made old new keeps = same-from 1 made old new (λ q later. keeps.kept q)

handlings-with : (made : ℕ) (old new : Guests) (pid : ℕ) (x : Option Handling) → handling_in new pid ≡ x → ((q : ℕ) → q ≢ pid → watch_in new q ≡ watch_in old q) → handlings made new ≡ with_nth_from_one (handlings made old) pid x
handlings-with made old new zero x own kept = same-from 1 made old new (λ q later. kept q (λ (e : q ≡ 0). omega arith))
handlings-with made old new (suc i) x own kept = set-from 1 made old new i (suc i) x (omega arith) own kept

pub handling-of : (made : ℕ) (guests : Guests) (pid : ℕ) → 0 < pid → pid < made + 1 → nth_from_one (handlings made guests) pid ≡ handling_in guests pid
handling-of made guests zero some within = absurd (omega arith)
handling-of made guests (suc i) some within = nth-from 1 made guests i (suc i) (omega arith) (omega arith)

-- a process lives no more
pub handlings-ended : (made : ℕ) (old new : Guests) (pid : ℕ) → SetsWatch pid None old new → handlings made new ≡ with_nth_from_one (handlings made old) pid None
handlings-ended made old new pid sets = handlings-with made old new pid None (ap (option_map handling) sets.own) sets.kept

changed : (change : Watch → Watch) (then : Handling → Handling) → ((w : Watch) → handling (change w) ≡ then (handling w)) → (o : Option Watch) → option_map handling (option_map change o) ≡ option_map then (option_map handling o)
changed change then is None = refl
changed change then is (Some w) = ap (λ (h : Handling). Some h) (is w)

-- one takes signals otherwise
pub handlings-rewatched : (made : ℕ) (old new : Guests) (pid : ℕ) (change : Watch → Watch) (then : Handling → Handling) → ((w : Watch) → handling (change w) ≡ then (handling w)) → 0 < pid → pid < made + 1 → watch_in new pid ≡ option_map change (watch_in old pid) → ((q : ℕ) → q ≢ pid → watch_in new q ≡ watch_in old q) → handlings made new ≡ with_nth_from_one (handlings made old) pid (option_map then (nth_from_one (handlings made old) pid))
handlings-rewatched made old new pid change then is some within own kept =
    handlings-with made old new pid (option_map then (nth_from_one (handlings made old) pid))
    (ap (option_map handling) own ∙ (changed change then is (watch_in old pid) ∙ ap (option_map then) (sym (handling-of made old pid some within)))) kept

pub handlings-changed : (made : ℕ) (old new : Guests) (pid : ℕ) (change : Watch → Watch) (then : Handling → Handling) → ((w : Watch) → handling (change w) ≡ then (handling w)) → 0 < pid → pid < made + 1 → Rewatches pid change old new → handlings made new ≡ with_nth_from_one (handlings made old) pid (option_map then (nth_from_one (handlings made old) pid))
handlings-changed made old new pid change then is some within rewatches =
    handlings-rewatched made old new pid change then is some within rewatches.own rewatches.kept

-- one more takes signals, as its parent does
added-from : (first n : ℕ) (old new : Guests) (p : ℕ) (x : Option Handling) → p ≡ first + n → handling_in new p ≡ x → ((q : ℕ) → q ≢ p → watch_in new q ≡ watch_in old q) → handlings_from first (suc n) new ≡ handlings_from first n old ++ x ∷ []
added-from first zero old new p x is own kept = ap (λ (h : Option Handling). h ∷ []) (ap (handling_in new) (omega (arith, is)) ∙ own)
added-from first (suc n) old new p x is own kept =
    ap₂ (λ (h : Option Handling) (hs : List (Option Handling)). h ∷ hs) (ap (option_map handling) (kept first (λ (e : first ≡ p). omega (arith, is, e))))
    (added-from (first + 1) n old new p x (omega (arith, is)) own kept)

pub handlings-forked : (made : ℕ) (old new : Guests) (pid child : ℕ) → child ≡ made + 1 → 0 < pid → pid < made + 1 → SetsWatch child (option_map inherited (watch_in old pid)) old new → handlings (made + 1) new ≡ handlings made old ++ option_map child_handling (nth_from_one (handlings made old) pid) ∷ []
handlings-forked made old new pid child next some within sets =
    ap (λ (n : ℕ). handlings n new) (add-one made)
    ∙ added-from 1 made old new child (option_map child_handling (nth_from_one (handlings made old) pid)) (omega (arith, next))
    (ap (option_map handling) sets.own ∙ (changed inherited child_handling (λ w. refl) (watch_in old pid) ∙ ap (option_map child_handling) (sym (handling-of made old pid some within)))) sets.kept

-- whether a process lives is seen by how it takes signals
watched : (o : Option Shown) → is_some o ≡ is_some (option_map (λ (s : Shown). s.watch) o)
watched None = refl
watched (Some s) = refl

pub live-watch : (guests : Guests) (p : ℕ) → is_some (nth guests p) ≡ is_some (watch_in guests p)
live-watch guests p = watched (nth guests p)

pub live-same : (old new : Guests) (p : ℕ) → watch_in new p ≡ watch_in old p → is_some (nth new p) ≡ is_some (nth old p)
live-same old new p same = live-watch new p ∙ (ap is_some same ∙ sym (live-watch old p))
