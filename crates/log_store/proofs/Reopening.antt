-- A log that was read, and what a stop leaves while it is opened.
use Rattle.std.proofs.lemmas.Bool.Decides.{nat_tests}
use Rattle.std.proofs.Common.{◌≡◌, ◌⊎◌, inl, inr, ℕ, ◌+◌, ◌-◌, ◌<◌, ◌≤◌, List, [], ◌∷◌, ◌++◌, length, take, drop, Option, refl, sym, ap, ◌∙◌, subst, append_assoc, length-append, take-append-drop, arith, IfSome, take_at, drop_at}
use Rattle.std.proofs.lemmas.List.Elements.{All-nil}
use Rattle.std.proofs.lemmas.Option.{IfSome_then}
use Rattle.arn_base.specs.declared.records.Record.{Record}
use Rattle.arn_base.specs.Disk.{Only}
use Rattle.log_store.specs.Causes.{IsCauseOf}
use Rattle.log_store.specs.Stores.{IsBeforeOrAfter, IsLeftBy, KeepsRecords, StoreState}
use Rattle.log_store.specs.Laws.{BadAreNone, CommitsReadOneWay, LogsReadOneWay}
use Rattle.log_store.specs.Log.{closed_log, log_name, frames, IsClosedLogOf, IsCommit, IsLog, IsLogOf}
use Rattle.log_store.specs.Pieces.{EndsWith, IsFound, IsLeft, IsReadErrorOf, IsSameFront}
use Rattle.log_store.specs.Refused.{IsNoLog}
use Rattle.log_store.specs.Stops.{LeavesOnly}
use Rattle.log_store.specs.declared.errors.OpenError.{OpenError}
use Rattle.log_store.specs.declared.errors.OpenError.TheVariants as opening
use Rattle.log_store.specs.declared.size.TheConstants.{MOST_LOG}
use Rattle.log_store.proofs.Adding.{length-closed}
use Rattle.log_store.proofs.Logs.{ends_log, ends_log_of, front_of}
use Rattle.log_store.proofs.Moments.{started}
use Rattle.log_store.proofs.OneWay.{closed_logs, short_named}
use Rattle.log_store.proofs.Told.{told_weaker}

-- a fresh log holds nothing
fresh_log : (bytes : List ℕ) → length bytes ≤ 9 → IsLog bytes []
fresh_log bytes short = record { commits = []; is_log = inl (short, refl); are_records = refl }

-- and is one
pub fresh_some : (bytes : List ℕ) → length bytes ≤ 9 → ¬ IsNoLog bytes
fresh_some bytes short is_none = is_none [] (fresh_log bytes short)

-- fresh logs hold no records
pub kept_fresh : LogsReadOneWay → (told left : List ℕ) → length told ≤ 9 → length left ≤ 9 → KeepsRecords told left
kept_fresh one told left short is_short = grind (arith, fresh_log told short, fresh_log left is_short, fresh_some told short)

module _ (bytes : List ℕ) (entries : List Record) (end : List ℕ) (found : IsFound bytes entries end) (gate : ℕ) (is_gate : gate ≡ length bytes - length end) where
  pub found-front : bytes ≡ front_of found.commits ++ end
  found-front = found.are_bytes ∙ sym (append_assoc log_name (frames found.commits) end)

  pub length-front : gate ≡ length (front_of found.commits)
  length-front =
      omega (arith, ap length found-front ∙ length-append (front_of found.commits) end, is_gate)

  take-front : (told : List ℕ) → told ≡ bytes → take gate told ≡ front_of found.commits
  take-front told same =
      ap (λ (b : List ℕ). take gate b) (same ∙ found-front) ∙ take_at (front_of found.commits) end gate (sym length-front)

  pub found_ends : (told : List ℕ) → told ≡ bytes → EndsWith gate end told
  found_ends told same =
      record {
        is_within = omega (arith, ap length (same ∙ found-front) ∙ length-append (front_of found.commits) end, length-front);
        are_bytes = ap (λ (b : List ℕ). drop gate b) (same ∙ found-front) ∙ drop_at (front_of found.commits) end gate (sym length-front);
      }

  pub found_log : IsLog bytes entries
  found_log = subst (IsLog bytes) (sym found.are_records) (ends_log found.commits bytes end found.are_commits found.is_end found-front)

  pub found_some : ¬ IsNoLog bytes
  found_some is_none = is_none entries found_log

  pub kept_found : LogsReadOneWay → (told left : List ℕ) → told ≡ bytes → IsSameFront gate told left → KeepsRecords told left
  kept_found one told left same kept = record {
    same = λ records log.
        let whole : left ≡ front_of found.commits ++ drop gate left =
        sym (take-append-drop gate left) ∙ ap (λ (xs : List ℕ). xs ++ drop gate left) (kept.front ∙ take-front told same) in
        let here = ends_log found.commits left (drop gate left) found.are_commits kept.is_end whole in
        subst (IsLog left) (sym (one bytes records entries (subst (λ b. IsLog b records) same log) found_log ∙ found.are_records)) here;
    none = λ is_none. absurd (found_some (subst IsNoLog same is_none));
    no_longer = omega (arith, kept.no_longer);
  }

  -- the commits of the log are those that were found
  pub found_same : CommitsReadOneWay → (commits : List (List Record)) → IsLogOf bytes commits → found.commits ≡ commits
  found_same one commits log = one bytes found.commits commits (ends_log_of found.commits bytes end found.are_commits found.is_end found-front) log

  -- closed, it ends behind these
  pub found_closes : CommitsReadOneWay → (commits : List (List Record)) → IsLogOf bytes commits → (told : List ℕ) → told ≡ bytes
      → IsClosedLogOf (take gate told ++ 0 ∷ []) commits
  found_closes one commits log told same = grind (arith, found_same one commits log, take-front told same, append_assoc log_name (frames found.commits) (0 ∷ []))

  pub found_length : CommitsReadOneWay → (commits : List (List Record)) → IsLogOf bytes commits → gate + 1 ≡ length (closed_log commits)
  found_length one commits log = cc (append_assoc log_name (frames found.commits) (0 ∷ []), length-closed (front_of found.commits) 0, length-front, found_same one commits log)

  pub found_left : (told : List ℕ) → told ≡ bytes → IsLeft entries (gate + 1) (take gate told ++ 0 ∷ [])
  found_left told h1 = grind (arith, nat_tests, take-front, append_assoc, length-closed, length-front)

-- no disk call was made
pub told_unmoved : {D : Type 0} (may_leave : D → List ℕ → Type 0) (moment : D → ℕ) (left_since : D → ℕ → List ℕ → Type 0)
    (o : Option (List ℕ)) (disk : D) (P : List ℕ → List ℕ → Type 0)
    → ((bytes : List ℕ) → left_since disk (moment disk) bytes → may_leave disk bytes)
    → ((old left : List ℕ) → left ≡ old → P old left)
    → IfSome o (λ old. Only old (may_leave disk) → LeavesOnly moment left_since disk disk (P old))
told_unmoved may_leave moment left_since o disk P h1 h2 = grind (arith, nat_tests, started)

pub kept_same : (old left : List ℕ) → left ≡ old → KeepsRecords old left
kept_same old left h1 = grind (arith, nat_tests)

-- why what was read is refused
pub bad_cause : BadAreNone → (bytes : List ℕ) → length bytes ≤ MOST_LOG → (error : OpenError) → IsReadErrorOf bytes error → IsCauseOf bytes error
bad_cause none bytes short (opening.TooLong len) bad = absurd bad
bad_cause none bytes short (opening.NotLog at) bad = (short, bad, none bytes at (inl bad))
bad_cause none bytes short (opening.Malformed at) bad = (short, bad, none bytes at (inr bad))
bad_cause none bytes short _ bad = tt

-- bytes that aren't too long leave the disk alone where they are no log
pub untouched_if : {D : Type 0} (bytes : List ℕ) (end mid : D) → length bytes ≤ MOST_LOG → (IsNoLog bytes → end ≡ mid)
    → IsNoLog bytes ⊎ (MOST_LOG < length bytes) → end ≡ mid
untouched_if bytes end mid short same (inl is_none) = same is_none
untouched_if bytes end mid short same (inr long) = absurd (omega (arith, short, long))

-- what holds of bytes holds of those that a disk tells, where it tells these
pub told_is : (o : Option (List ℕ)) (bytes : List ℕ) (P : List ℕ → Type 0) → IfSome o (λ told. told ≡ bytes) → P bytes → IfSome o P
told_is o bytes P told p = IfSome_then o told (λ is same. subst P (sym same) p)

-- a fresh log has no commits, and is closed so
pub fresh_none : (bytes : List ℕ) → length bytes ≤ 9 → (commits : List (List Record)) → IsLogOf bytes commits → commits ≡ []
fresh_none bytes short commits (inl fresh) = fresh.1
fresh_none bytes short commits (inr named) = short_named bytes commits short named

pub fresh_closes : (commits : List (List Record)) → commits ≡ [] → (new : List ℕ) → new ≡ log_name ++ 0 ∷ [] → IsClosedLogOf new commits
fresh_closes commits none new is = subst (IsClosedLogOf new) (sym none) (record { are_commits = All-nil IsCommit; are_bytes = is })

-- where nothing was done a stop leaves the log of before
still_left : (store : StoreState) (old left : List ℕ) (more : List Record) → store.log_len ≤ MOST_LOG → IsLeftBy store old → left ≡ old → IsBeforeOrAfter store.entries more left
still_left store old left more short is_left same = grind (arith, closed_logs)

pub told_still : {D : Type 0} (may_leave : D → List ℕ → Type 0) (moment : D → ℕ) (left_since : D → ℕ → List ℕ → Type 0)
    (o : Option (List ℕ)) (disk : D) (store : StoreState) (more : List Record)
    → ((bytes : List ℕ) → left_since disk (moment disk) bytes → may_leave disk bytes)
    → store.log_len ≤ MOST_LOG → IfSome o (IsLeftBy store)
    → IfSome o (λ old. Only old (may_leave disk) → LeavesOnly moment left_since disk disk (IsBeforeOrAfter store.entries more))
told_still may_leave moment left_since o disk store more h1 h2 h3 = grind (arith, nat_tests, told_weaker, told_unmoved, still_left)
