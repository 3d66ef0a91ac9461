-- What is known of a disk where it tells its bytes.
use Rattle.std.proofs.lemmas.Bool.Decides.{nat_tests}
use Rattle.std.proofs.Common.{◌≡◌, ℕ, List, Option, Some, None, option_map, sym, subst, IfSome, arith}
use Rattle.arn_base.specs.Disk.{NoMore, Only}
use Rattle.log_store.specs.Stops.{IsOnlyRead, LeavesOnly, NothingPending}
use Rattle.log_store.proofs.Moments.{joined, weaker}

-- the bytes after a change that is known
pub told_after : (o after : Option (List ℕ)) (change : List ℕ → List ℕ) (P Q : List ℕ → Type 0) → after ≡ option_map change o → IfSome o P
    → ((old : List ℕ) → P old → Q (change old)) → IfSome after Q
told_after None after change P Q is p q = subst (λ t. IfSome t Q) (sym is) tt
told_after (Some old) after change P Q is p q = subst (λ t. IfSome t Q) (sym is) (q old p)

-- the same, where only bytes that have P change so
pub told_changed : (o after : Option (List ℕ)) (change : List ℕ → List ℕ) (P Q : List ℕ → Type 0) → after ≡ option_map change o
    → ((old : List ℕ) → P old → Q (change old)) → IfSome o (λ old. P old → IfSome after Q)
told_changed None after change P Q is q = tt
told_changed (Some old) after change P Q is q = λ p. subst (λ t. IfSome t Q) (sym is) (q old p)

-- what a stop leaves, said in other words
pub told_weaker : {D : Type 0} (may_leave : D → List ℕ → Type 0) (moment : D → ℕ) (left_since : D → ℕ → List ℕ → Type 0)
    (o : Option (List ℕ)) (start end : D) (P : List ℕ → Type 0) (Q : List ℕ → List ℕ → Type 0) (R : List ℕ → List ℕ → Type 0)
    → IfSome o P
    → IfSome o (λ old. Only old (may_leave start) → LeavesOnly moment left_since start end (Q old))
    → ((old left : List ℕ) → P old → Q old left → R old left)
    → IfSome o (λ old. Only old (may_leave start) → LeavesOnly moment left_since start end (R old))
told_weaker may_leave moment left_since o start end P Q R h1 h2 h3 = grind (arith, nat_tests, weaker)

-- the same, where it is said of any bytes that a stop may leave
pub told_weaker_any : {D : Type 0} (may_leave : D → List ℕ → Type 0) (moment : D → ℕ) (left_since : D → ℕ → List ℕ → Type 0)
    (o : Option (List ℕ)) (start end : D) (P : List ℕ → Type 0) (Q : List ℕ → List ℕ → Type 0) (R : List ℕ → List ℕ → Type 0)
    → IfSome o P
    → ((old : List ℕ) → Only old (may_leave start) → LeavesOnly moment left_since start end (Q old))
    → ((old left : List ℕ) → P old → Q old left → R old left)
    → IfSome o (λ old. Only old (may_leave start) → LeavesOnly moment left_since start end (R old))
told_weaker_any may_leave moment left_since o start end P Q R h1 h2 h3 = grind (arith, nat_tests, weaker)

-- what a stop leaves after calls that read, and then others
pub told_then : {D : Type 0} (may_leave : D → List ℕ → Type 0) (moment : D → ℕ) (left_since : D → ℕ → List ℕ → Type 0)
    (o now : Option (List ℕ)) (start mid end : D) (R : List ℕ → List ℕ → Type 0)
    → now ≡ o → NoMore (may_leave start) (may_leave mid)
    → LeavesOnly moment left_since start mid (may_leave start)
    → IfSome now (λ old. Only old (may_leave mid) → LeavesOnly moment left_since mid end (R old))
    → ((old left : List ℕ) → left ≡ old → R old left)
    → IfSome o (λ old. Only old (may_leave start) → LeavesOnly moment left_since start end (R old))
told_then may_leave moment left_since o now start mid end R h1 h2 h3 h4 h5 = grind (arith, nat_tests, joined)

-- what a stop leaves after calls that read
pub told_read : {D : Type 0} (may_leave : D → List ℕ → Type 0) (moment : D → ℕ) (left_since : D → ℕ → List ℕ → Type 0)
    (o : Option (List ℕ)) (start mid : D) (R : List ℕ → List ℕ → Type 0)
    → LeavesOnly moment left_since start mid (may_leave start)
    → ((old left : List ℕ) → left ≡ old → R old left)
    → IfSome o (λ old. Only old (may_leave start) → LeavesOnly moment left_since start mid (R old))
told_read may_leave moment left_since o start mid R h1 h2 = grind (arith, nat_tests, weaker)

-- the disk was read at most where what was read has P
pub told_unchanged : {D : Type 0} (image : D → Option (List ℕ)) (may_leave : D → List ℕ → Type 0) (moment : D → ℕ) (left_since : D → ℕ → List ℕ → Type 0)
    (o : Option (List ℕ)) (start mid end : D) (bytes : List ℕ) (P : List ℕ → Type 0)
    → IfSome o (λ told. told ≡ bytes)
    → IsOnlyRead image may_leave moment left_since start mid
    → (P bytes → end ≡ mid)
    → IfSome o (λ told. P told → IsOnlyRead image may_leave moment left_since start end)
told_unchanged image may_leave moment left_since o start mid end bytes P h1 h2 h3 = grind (arith, nat_tests)

-- what a stop leaves after one change that is known and durable, and then another
pub told_two : {D : Type 0} (image : D → Option (List ℕ)) (may_leave : D → List ℕ → Type 0) (moment : D → ℕ) (left_since : D → ℕ → List ℕ → Type 0)
    (o : Option (List ℕ)) (start mid end : D) (change : List ℕ → List ℕ) (R : List ℕ → List ℕ → Type 0)
    → image start ≡ o → image mid ≡ option_map change o
    → (NothingPending image may_leave start → NothingPending image may_leave mid)
    → IfSome o (λ old. Only old (may_leave start) → LeavesOnly moment left_since start mid (R old))
    → IfSome (image mid) (λ old. Only old (may_leave mid) → LeavesOnly moment left_since mid end (R old))
    → ((old left : List ℕ) → R (change old) left → R old left)
    → IfSome o (λ old. Only old (may_leave start) → LeavesOnly moment left_since start end (R old))
told_two image may_leave moment left_since o start mid end change R h1 h2 h3 h4 h5 h6 = grind (arith, nat_tests, joined)
