-- The frames of a log, as far as they were read.
use Rattle.std.proofs.Common.{◌≡◌, ◌≢◌, ◌⊎◌, ℕ, ◌+◌, ◌-◌, List, [], ◌∷◌, ◌++◌, length, sym, ap, ◌∙◌, subst, append_assoc, length-append, arith, All}
use Rattle.std.proofs.lemmas.List.{flat_map_more}
use Rattle.std.proofs.lemmas.List.Elements.{All-push}
use Rattle.arn_base.specs.declared.records.Record.{Record}
use Rattle.log_store.specs.Log.{log_name, frame, frames, records_of, IsCommit}
use Rattle.log_store.specs.Pieces.{IsFrameRead}
use Rattle.log_store.specs.Refused.{IsBroken, IsCutShort, IsMisspelled}
use Rattle.log_store.proofs.Logs.{records-more}

-- the commits whose frames were read, and what is left
pub record IsWalked (bytes : List ℕ) (entries : List Record) (end : List ℕ) : Type 0 where
  pub commits : List (List Record)
  pub are_commits : All IsCommit commits
  pub are_bytes : bytes ≡ log_name ++ (frames commits ++ end)
  pub are_records : entries ≡ records_of commits
  pub is_some : end ≢ []

-- one frame more
frames-more : (commits : List (List Record)) (commit : List Record) (next : List ℕ) → frames commits ++ (frame commit ++ next) ≡ frames (commits ++ commit ∷ []) ++ next
frames-more commits commit next =
    sym (append_assoc (frames commits) (frame commit) next) ∙ ap (λ (xs : List ℕ). xs ++ next) (flat_map_more frame [] commits commit)

pub IsWalked-more : (bytes end behind next : List ℕ) (now new : List Record) → IsWalked bytes now end → end ≡ 1 ∷ behind → IsFrameRead behind now new next
    → IsWalked bytes new next
IsWalked-more bytes end behind next now new walked opened read = grind (arith, All-push IsCommit walked.commits read.commit walked.are_commits read.is_commit, frames-more walked.commits read.commit next, records-more walked.commits read.commit)

-- where what is left begins
pub walked_place : (bytes end : List ℕ) (entries : List Record) → (walked : IsWalked bytes entries end) → length bytes ≡ length log_name + length (frames walked.commits) + length end
walked_place bytes end entries walked =
    omega (arith, ap length walked.are_bytes ∙ length-append log_name (frames walked.commits ++ end), length-append (frames walked.commits) end)

pub IsWalked-bad : (bytes end behind : List ℕ) (entries : List Record) (gate at : ℕ) → IsWalked bytes entries end → end ≡ 1 ∷ behind → gate ≡ length bytes - length end
    → IsCutShort gate at behind ⊎ IsMisspelled gate at behind → IsBroken bytes at
IsWalked-bad bytes end behind entries gate at walked opened is_gate cause =
    let same : gate ≡ length log_name + length (frames walked.commits) = omega (arith, walked_place bytes end entries walked, is_gate) in
    record {
      commits = walked.commits;
      behind = behind;
      are_commits = walked.are_commits;
      are_bytes = walked.are_bytes ∙ ap (λ (xs : List ℕ). log_name ++ (frames walked.commits ++ xs)) opened;
      cause = subst (λ g. IsCutShort g at behind ⊎ IsMisspelled g at behind) same cause;
    }
