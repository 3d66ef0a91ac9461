-- Clauses on an `Option` or a `Result`.
use Rattle.std.specs.Result.{result_ok}
use Rattle.std.proofs.lemmas.Option.{same_Some}
use Rattle.std.proofs.Common.{sym, subst, ◌≡◌, Option, Some, None, Result, Ok, Err, MatchOption, MatchResult, IfSome, IfNone, is_some}

pub IfSome-from_match : {T : Type 0} (found : Option T) (P : Type 0) (Q : T → Type 0) → MatchOption found P Q → IfSome found Q
IfSome-from_match None P Q h = tt
IfSome-from_match (Some x) P Q h = h

pub IfNone-from_match : {T : Type 0} (found : Option T) (P : Type 0) (Q : T → Type 0) → MatchOption found P Q → IfNone found P
IfNone-from_match None P Q h = h
IfNone-from_match (Some x) P Q h = tt

-- what follows from what a clause says where there is no value
pub IfNone-weaker : {T P Q : Type 0} (found : Option T) → (P → Q) → IfNone found P → IfNone found Q
IfNone-weaker None f h = f h
IfNone-weaker (Some x) f h = tt

-- what `ok()` gave, by what is known of the `Result`
pub ok_at_some : {T E : Type 0} (r : Result T E) (P : T → Type 0) (Q : E → Type 0) (x : T)
    → MatchResult r P Q → Some x ≡ result_ok r → P x
ok_at_some (Ok y) P Q x h same = subst P (sym (same_Some x y same)) h
ok_at_some (Err e) P Q x h same = cc same

pub ok_at_none : {T E R : Type 0} (r : Result T E) (P : T → Type 0) (Q : E → Type 0)
    → MatchResult r P Q → None ≡ result_ok r → ((e : E) → Q e → R) → R
ok_at_none (Ok y) P Q h same then = cc same
ok_at_none (Err e) P Q h same then = then e h

-- what follows from what a clause says where there is no value to map
pub IfNone-mapped : {T U P Q : Type 0} (found : Option T) (mapped : Option U) → is_some mapped ≡ is_some found → (P → Q)
    → IfNone found P → IfNone mapped Q
IfNone-mapped None None same f h = f h
IfNone-mapped (Some x) (Some y) same f h = tt
IfNone-mapped _ _ same f h = cc same
