-- What a stop may leave after a commit that didn't end with Ok.
use Rattle.std.proofs.lemmas.Bool.Decides.{nat_tests}
use Rattle.std.proofs.Common.{◌≡◌, ℕ, ◌+◌, List, ◌++◌, length, take, drop, Option, Some, None, option_map, IfSome, ap, ◌∙◌, subst, append_assoc, arith, Result, Ok, Err, OnErr, append-nil, take_all}
use Rattle.arn_base.specs.Disk.{overwrite, NoLess}
use Rattle.log_store.specs.Stores.{StoreState, IsLeftBy, MayLeaveLog}
use Rattle.log_store.specs.Stops.{MayStayShut}
use Rattle.log_store.proofs.Logs.{closed-front, unopened_log}

-- what holds anyway holds after an error
pub OnErr-always : {T E P : Type 0} (r : Result T E) → P → OnErr r P
OnErr-always (Ok x) h = tt
OnErr-always (Err e) h = h

-- the old bytes stay where no outcome is lost
pub first_shut : (o : Option (List ℕ)) (was now : List ℕ → Type 0) → IfSome o was → NoLess was now → IfSome o (MayStayShut now)
first_shut o was now h1 h2 = grind (arith, nat_tests, append-nil)

-- and where the bytes behind them were written and synced before
pub second_shut : (o mid : Option (List ℕ)) (was now : List ℕ → Type 0) (len : ℕ) (bytes : List ℕ)
    → mid ≡ option_map (λ old. overwrite old len bytes) o → IfSome o (λ old. length old ≡ len)
    → IfSome mid was → NoLess was now → IfSome o (MayStayShut now)
second_shut None mid was now len bytes is_mid long stays kept = tt
second_shut (Some old) mid was now len bytes is_mid long stays kept =
    let behind = bytes ++ drop (len + length bytes) old in
    let whole : overwrite old len bytes ≡ old ++ behind =
    append_assoc (take len old) bytes (drop (len + length bytes) old) ∙ ap (λ (xs : List ℕ). xs ++ behind) (take_all len old (omega (arith, long))) in
    record { rest = behind; stays = subst now whole (kept (overwrite old len bytes) (subst (λ o. IfSome o was) is_mid stays)) }

-- a log that a store left stays one of the same records, with any bytes behind it
shut_log : (store : StoreState) (now : List ℕ → Type 0) (old : List ℕ) → IsLeftBy store old → MayStayShut now old → MayLeaveLog now store.entries
shut_log store now old h1 h2 = grind (arith, nat_tests, closed-front, append_assoc, unopened_log)

pub may_leave_log : (store : StoreState) (o : Option (List ℕ)) (now : List ℕ → Type 0) → IfSome o (IsLeftBy store) → IfSome o (MayStayShut now)
    → IfSome o (λ _. MayLeaveLog now store.entries)
may_leave_log store None now is_left shut = tt
may_leave_log store (Some old) now is_left shut = shut_log store now old is_left shut
