-- What the bytes of a log turn into while a frame is added.
use Rattle.std.proofs.lemmas.Bool.Decides.{nat_tests}
use Rattle.std.proofs.Common.{◌≡◌, ◌⊎◌, inl, ⊎_elim, ℕ, ◌+◌, ◌≤◌, Bool, List, [], ◌∷◌, ◌++◌, length, refl, sym, ◌∙◌, subst, append_assoc, length-append, arith, All}
use Rattle.std.proofs.lemmas.Bool.{cases_eq}
use Rattle.std.proofs.lemmas.List.{flat_map_more}
use Rattle.std.proofs.lemmas.List.Elements.{All-push}
use Rattle.arn_base.specs.declared.records.Record.{Record}
use Rattle.result_log.specs.Spelling.{counted}
use Rattle.log_store.specs.Stores.{StoreState, IsLeftBy, IsBeforeOrAfter}
use Rattle.log_store.specs.Log.{closed_log, log_name, spellings, frame, frames, records_of, IsCommit, IsEnd, IsLog, IsLogOf, IsClosedLog, IsClosedLogOf}
use Rattle.log_store.specs.Pieces.{with_frame, IsTorn, IsUnopened, IsWritten}
use Rattle.log_store.specs.declared.size.TheConstants.{MOST_LOG}
use Rattle.log_store.proofs.Adding.{length-closed, with_frame-closed}
use Rattle.log_store.proofs.Fields.{length-counted}

-- the bytes before the ending gate of a log
abbrev pub front_of : List (List Record) → List ℕ
front_of commits = log_name ++ frames commits

pub front-more : (commits : List (List Record)) (more : List Record) → front_of commits ++ frame more ≡ front_of (commits ++ more ∷ [])
front-more commits more = flat_map_more frame log_name commits more

pub records-more : (commits : List (List Record)) (more : List Record) → records_of commits ++ more ≡ records_of (commits ++ more ∷ [])
records-more commits more = flat_map_more (λ (commit : List Record). commit) [] commits more

-- frames and an end are a log of the commits
pub ends_log_of : (commits : List (List Record)) (bytes end : List ℕ) → All IsCommit commits → IsEnd end → bytes ≡ front_of commits ++ end
    → IsLogOf bytes commits
ends_log_of commits bytes end h1 h2 h3 = grind (arith, nat_tests, append_assoc)

-- and of their records
pub ends_log : (commits : List (List Record)) (bytes end : List ℕ) → All IsCommit commits → IsEnd end → bytes ≡ front_of commits ++ end
    → IsLog bytes (records_of commits)
ends_log commits bytes end are is_end e = record { commits = commits; is_log = ends_log_of commits bytes end are is_end e; are_records = refl }

-- behind a closed gate nothing counts
pub unopened_log : (commits : List (List Record)) (left : List ℕ) → All IsCommit commits → IsUnopened (front_of commits) left → IsLog left (records_of commits)
unopened_log commits left are unopened =
    ends_log commits left (0 ∷ unopened.rest) are (inl (λ is_open. omega (arith, is_open))) unopened.are_bytes

-- what a commit writes behind a closed gate
abbrev pub commit_bytes : List Record → List ℕ
commit_bytes more = counted (spellings more) ++ 0 ∷ []

-- a whole frame behind any gate counts or it doesn't
pub written_log : (commits : List (List Record)) (more : List Record) (left : List ℕ) → All IsCommit commits → IsCommit more
    → IsWritten (front_of commits) (commit_bytes more) left → IsLog left (records_of commits) ⊎ IsLog left (records_of commits ++ more)
written_log commits more left are is written = grind (arith, cases_eq written.gate 1, append_assoc (front_of commits) (frame more) (0 ∷ []), front-more commits more, All-push IsCommit commits more are is, records-more commits more)

-- the log that a store leaves ends with a closed gate
pub closed-front : (commits : List (List Record)) (bytes : List ℕ) → bytes ≡ closed_log commits → bytes ≡ front_of commits ++ 0 ∷ []
closed-front commits bytes e = e ∙ sym (append_assoc log_name (frames commits) (0 ∷ []))

-- what a stop in a commit leaves is a log of all or none of it
torn_log : (old left bytes : List ℕ) (entries more : List Record) → IsClosedLog old entries → IsCommit more → bytes ≡ commit_bytes more
    → IsTorn old bytes left → IsLog left entries ⊎ IsLog left (entries ++ more)
torn_log old left bytes entries more log is same torn =
    let whole = closed-front log.commits old log.is_closed.are_bytes in
    let P : List Record → Type 0 = λ rs. IsLog left rs ⊎ IsLog left (rs ++ more) in
    subst P (sym log.are_records) (⊎_elim
    (λ unopened. inl (unopened_log log.commits left log.is_closed.are_commits unopened))
    (λ written. written_log log.commits more left log.is_closed.are_commits is (subst (λ b. IsWritten (front_of log.commits) b left) same written))
    (torn.stands (front_of log.commits) whole))

-- how long the bytes of a commit are
pub length-commit : (more : List Record) → length (commit_bytes more) ≡ 5 + length (spellings more)
length-commit more = omega (arith, length-append (counted (spellings more)) (0 ∷ []), length-counted (spellings more))

-- and the log isn't too long
pub torn_left : (store : StoreState) (old left bytes : List ℕ) (more : List Record) → IsLeftBy store old → IsCommit more → bytes ≡ commit_bytes more
    → store.log_len + 5 + length (spellings more) ≤ MOST_LOG → IsTorn old bytes left → IsBeforeOrAfter store.entries more left
torn_left store old left bytes more is_left is same fits torn = grind (arith, torn_log old left bytes store.entries more is_left.is_log is same torn, length-commit more)

-- and then the log has one frame more
pub with_frame-adds : (commits : List (List Record)) (old bytes : List ℕ) (more : List Record) → IsClosedLogOf old commits → IsCommit more
    → bytes ≡ commit_bytes more → IsClosedLogOf (with_frame old bytes) (commits ++ more ∷ [])
with_frame-adds commits old bytes more closed is same = grind (arith, All-push IsCommit commits more closed.are_commits is, closed-front commits old closed.are_bytes, with_frame-closed (front_of commits) bytes, append_assoc (front_of commits) (frame more) (0 ∷ []), front-more commits more, append_assoc log_name (frames (commits ++ more ∷ [])) (0 ∷ []))

-- so that it is one of all
pub with_frame-log : (old bytes : List ℕ) (entries more : List Record) → IsClosedLog old entries → IsCommit more → bytes ≡ commit_bytes more
    → IsClosedLog (with_frame old bytes) (entries ++ more)
with_frame-log old bytes entries more log is same = grind (arith, with_frame-adds log.commits old bytes more log.is_closed is same, records-more log.commits more)

-- how long it is
pub length-with_frame : (old bytes : List ℕ) (entries : List Record) → IsClosedLog old entries → length (with_frame old bytes) ≡ length old + length bytes
length-with_frame old bytes entries log = grind (arith, closed-front log.commits old log.is_closed.are_bytes, length-closed (front_of log.commits) 0, with_frame-closed (front_of log.commits) bytes, length-append (front_of log.commits) (1 ∷ bytes))

pub with_frame-left : (store : StoreState) (usable : Bool) (old bytes : List ℕ) (more entries : List Record) (len : ℕ) → IsLeftBy store old → IsCommit more → bytes ≡ commit_bytes more
    → entries ≡ store.entries ++ more → len ≡ store.log_len + length bytes
    → IsLeftBy (record { entries = entries; log_len = len; usable = usable }) (with_frame old bytes)
with_frame-left store usable old bytes more entries len left is same added long = grind (arith, with_frame-log old bytes store.entries more left.is_log is same, length-with_frame old bytes store.entries left.is_log)
