-- What a stop leaves while a frame is added behind a closed gate.
use Rattle.std.proofs.lemmas.Bool.Decides.{nat_tests}
use Rattle.std.proofs.Common.{◌≡◌, ℕ, ◌+◌, ◌-◌, ◌<◌, List, [], ◌∷◌, ◌++◌, length, drop, Option, Some, None, option_map, sym, ap, subst, append_assoc, length-append, length-take, length-drop, take-append-drop, arith, IfSome}
use Rattle.std.proofs.lemmas.List.{append-nil, take_at, drop_at, drop_more, take_all, drop_all}
use Rattle.arn_base.specs.Disk.{overwrite, Torn, Only}
use Rattle.log_store.specs.Pieces.{with_frame, IsTorn, IsUnopened, IsWritten}
use Rattle.log_store.specs.Stops.{LeavesOnly, NothingPending}
use Rattle.log_store.proofs.Moments.{joined, weaker}

pub length-closed : (front : List ℕ) (gate : ℕ) → length (front ++ gate ∷ []) ≡ length front + 1
length-closed front gate = omega (arith, length-append front (gate ∷ []))

-- the closed gate stands in each outcome of a write behind it
pub torn_behind : (front left : List ℕ) (len n : ℕ) → len ≡ length front + 1 → Torn len n (front ++ 0 ∷ []) left → IsUnopened front left
torn_behind front left len n is_len torn = grind (arith, take-append-drop len left, take_all len (front ++ 0 ∷ []) (omega (arith, length-closed front 0)), append_assoc front (0 ∷ []) (drop len left))

-- all but the gate stands in each outcome of a write over it
pub torn_gate : (front bytes left : List ℕ) (at : ℕ) → at ≡ length front → Torn at 1 (front ++ 0 ∷ bytes) left → IsWritten front bytes left
torn_gate front bytes left at is_at torn = grind (arith, append_assoc front (0 ∷ []) bytes, drop_at (front ++ 0 ∷ []) bytes (at + 1) (omega (arith, length-closed front 0)), drop_more left at 0 (omega (arith, torn.no_shorter, length-append front (0 ∷ bytes), is_at)), take-append-drop at left, take_at front (0 ∷ bytes) at (sym is_at))

-- the bytes after the first write
pub overwrite-behind : (front bytes : List ℕ) (len : ℕ) → len ≡ length front + 1 → overwrite (front ++ 0 ∷ []) len bytes ≡ front ++ 0 ∷ bytes
overwrite-behind front bytes len h1 = grind (arith, nat_tests, length-closed, take_all, drop_all, append-nil, append_assoc)

-- the bytes after both writes
pub with_frame-closed : (front bytes : List ℕ) → with_frame (front ++ 0 ∷ []) bytes ≡ front ++ 1 ∷ bytes
with_frame-closed front bytes =
    ap (λ (xs : List ℕ). xs ++ 1 ∷ bytes) (take_at front (0 ∷ []) (length (front ++ 0 ∷ []) - 1) (omega (arith, length-closed front 0)))

-- the same of any old bytes of this length
pub torn_first : (old bytes left : List ℕ) (len : ℕ) → length old ≡ len → Torn len (length bytes) old left → IsTorn old bytes left
torn_first old bytes left len h1 h2 = grind (arith, nat_tests, torn_behind, length-closed)

-- how long bytes are with others behind them
length-overwrite : (old bytes : List ℕ) (len : ℕ) → length old ≡ len → length (overwrite old len bytes) ≡ len + length bytes
length-overwrite old bytes len h1 = grind (arith, nat_tests, length-append, length-take, length-drop)

pub torn_second : (old bytes left : List ℕ) (len : ℕ) → 0 < len → length old ≡ len → Torn (len - 1) 1 (overwrite old len bytes) left → IsTorn old bytes left
torn_second old bytes left len h1 h2 h3 = grind (arith, nat_tests, length-closed, overwrite-behind, torn_gate, length-overwrite)

module _ {D : Type 0} (image : D → Option (List ℕ)) (may_leave : D → List ℕ → Type 0) (moment : D → ℕ) (left_since : D → ℕ → List ℕ → Type 0) where
  -- nothing is pending on a disk that tells these bytes
  pub only_told : (disk : D) (bytes : List ℕ) → image disk ≡ Some bytes → NothingPending image may_leave disk → Only bytes (may_leave disk)
  only_told disk bytes told pending = subst (λ o. IfSome o (λ b. Only b (may_leave disk))) told pending

  -- both writes, the first of them synced
  pub frame_moments : (o : Option (List ℕ)) (start mid end : D) (len : ℕ) (bytes : List ℕ) → 0 < len
      → image mid ≡ option_map (λ old. overwrite old len bytes) o → NothingPending image may_leave mid
      → ((old : List ℕ) → Only old (may_leave start) → LeavesOnly moment left_since start mid (Torn len (length bytes) old))
      → ((old : List ℕ) → Only old (may_leave mid) → LeavesOnly moment left_since mid end (Torn (len - 1) 1 old))
      → IfSome o (λ old. length old ≡ len)
      → IfSome o (λ old. Only old (may_leave start) → LeavesOnly moment left_since start end (IsTorn old bytes))
  frame_moments None start mid end len bytes some told pending first second long = tt
  frame_moments (Some old) start mid end len bytes some told pending first second long = λ only.
      let mid_bytes = overwrite old len bytes in
      let Behind : List ℕ → Type 0 = Torn len (length bytes) old in
      let Gate : List ℕ → Type 0 = Torn (len - 1) 1 mid_bytes in
      joined moment left_since start mid end Behind Gate (IsTorn old bytes) (first old only) (second mid_bytes (only_told mid mid_bytes told pending))
      (λ left torn. torn_first old bytes left len long torn) (λ left torn. torn_second old bytes left len some long torn)

-- the first write alone
pub first_moments : {D : Type 0} (may_leave : D → List ℕ → Type 0) (moment : D → ℕ) (left_since : D → ℕ → List ℕ → Type 0)
    (o : Option (List ℕ)) (start mid : D) (len : ℕ) (bytes : List ℕ)
    → ((old : List ℕ) → Only old (may_leave start) → LeavesOnly moment left_since start mid (Torn len (length bytes) old))
    → IfSome o (λ old. length old ≡ len)
    → IfSome o (λ old. Only old (may_leave start) → LeavesOnly moment left_since start mid (IsTorn old bytes))
first_moments may_leave moment left_since None start mid len bytes first long = tt
first_moments may_leave moment left_since (Some old) start mid len bytes first long = λ only.
    weaker moment left_since start mid (Torn len (length bytes) old) (IsTorn old bytes) (first old only) (λ left torn. torn_first old bytes left len long torn)
