-- 32 bits count the processes of a history.
use Rattle.std.proofs.Common.{◌≡◌, inl, inr, ℕ, zero, suc, ◌+◌, ◌<◌, ◌≤◌, ◌^◌, ◌&&◌, nat_le, Bool, true, false, not, if◌then◌else◌, List, [], ◌∷◌, ◌++◌, length, max, Option, Some, None, is_some, refl, ap, sym, slice_get, ◌∙◌, arith, length-append}
use Rattle.std.specs.Option.{option_map_or}
use Rattle.std.proofs.lemmas.Bool.{true≢false, or_parts, and_right}
use Rattle.std.proofs.lemmas.Bool.Decides.{eqb_tells, nat_tests}
use Rattle.std.proofs.lemmas.Option.{none-some}
use Rattle.arn_base.specs.declared.records.Record.{Record}
use Rattle.arn_base.specs.declared.records.Record.TheVariants as entry
use Rattle.acts_model.specs.Records.{give_of}
use Rattle.history_index.specs.Indexes.{AreCountable, Indexes}
use Rattle.history_index.specs.Tables.{Tables}
use Rattle.history_model.specs.Broken.{child_in, greatest, greatest_from, greatest_after, misnumbers, cant_follow, comes_wrong, lacks_process, lacks_slice, are_origins, has_blocks_wrong, start_in, misplaces_start, broken_from}
use Rattle.history_model.specs.Groups.{group_of}
use Rattle.history_model.specs.Moments.{lives_at, segment_at}
use Rattle.past_lives.specs.Laws.{LivesHaveGroups}
use Rattle.past_lives.specs.Members.{is_member, is_memory_range, is_moment, is_present}
use Rattle.parts_model.specs.declared.limits.TheConstants.{MOST_ASKED}
use Rattle.replay_groups.specs.Groups.{group_at}

-- a record that can follow makes at most one process
made-one : (before : List Record) (child : Option ℕ) → misnumbers before child ≡ false → option_map_or (max (greatest before)) child (greatest before) ≤ greatest before + 1
made-one before (Some c) h =
    elim (eqb_tells c (greatest before + 1)) [ inl is ↦ omega (arith, is.1) | inr apart ↦ absurd (true≢false (rw apart.0 at h)) ]
made-one before None h = omega arith

after-one : (before : List Record) (e : Record) → misnumbers before (child_in e) ≡ false → greatest_after e (greatest before) ≤ greatest before + 1
after-one before (entry.Boot name give) h = omega arith
after-one before e h = made-one before (child_in e) h

last : (entries : List Record) (n : ℕ) (e : Record) → greatest_from n (entries ++ e ∷ []) ≡ greatest_after e (greatest_from n entries)
last [] n e = refl
last (x ∷ entries) n e = last entries (greatest_after x n) e

numbered : (before : List Record) (e : Record) → cant_follow before e ≡ false → misnumbers before (child_in e) ≡ false
numbered before e h =
    let slice = (or_parts (lacks_process before e) _ (or_parts (comes_wrong before e) _ h).1).1 in
    let blocks = (or_parts (not (are_origins before (give_of e))) _ (or_parts (lacks_slice before e) _ slice).1).1 in
    let number = (or_parts (has_blocks_wrong (start_in e)) _ blocks).1 in
    (or_parts (misnumbers before (child_in e)) (misplaces_start e) number).0

follows : (before : List Record) (e : Record) (entries : List Record) (b : Bool) → cant_follow before e ≡ b → (if b then Some (length before) else broken_from (before ++ e ∷ []) entries) ≡ None
    → (cant_follow before e ≡ false) × (broken_from (before ++ e ∷ []) entries ≡ None)
follows before e entries true is h = absurd (none-some (length before) (sym h))
follows before e entries false is h = (is, h)

few-from : (before entries : List Record) → broken_from before entries ≡ None → greatest before ≤ length before → greatest_from (greatest before) entries ≤ length before + length entries
few-from before [] h few = omega (arith, few)
few-from before (e ∷ entries) h few =
    let f = follows before e entries (cant_follow before e) refl h in
    let push : greatest (before ++ e ∷ []) ≡ greatest_after e (greatest before) = last before 0 e in
    let len : length (before ++ e ∷ []) ≡ length before + 1 = length-append before (e ∷ []) in
    let rest = few-from (before ++ e ∷ []) entries f.1 (omega (arith, push, after-one before e (numbered before e f.0), len, few)) in
    omega (arith, rw push at rest, len)

some-within : (groups : List ℕ) (i : ℕ) → is_some (slice_get groups i) ≡ true → i < length groups
some-within [] i h = absurd (true≢false (sym h))
some-within (g ∷ groups) zero h = omega arith
some-within (g ∷ groups) (suc i) h = omega (arith, some-within groups i h)

grouped-within : (groups : List ℕ) (pid : ℕ) → is_some (group_at groups pid) ≡ true → pid ≤ length groups
grouped-within groups zero h = omega arith
grouped-within groups (suc i) h = omega (arith, some-within groups i h)

-- who has a group is one of them
grouped-few : (t : Tables) (entries : List Record) (pid : ℕ) → AreCountable entries → Indexes t entries → is_some (group_of entries pid) ≡ true → pid < 2 ^ 32
grouped-few t entries pid countable i h =
    let all : greatest entries ≤ 0 + length entries = few-from [] entries i.stands (omega arith) in
    omega (arith, grouped-within t.families.groups pid (ap is_some (i.families.groups pid) ∙ h), i.families.processes, all, countable.few)

-- no process has a number that 32 bits don't count
pub far_process : (t : Tables) (entries : List Record) (moment pid : ℕ) → LivesHaveGroups → AreCountable entries → Indexes t entries → 2 ^ 32 ≤ pid → is_member entries moment pid ≡ false
far_process t entries moment pid law countable i far = by_test (lives_at entries moment pid) refl
  where
    by_test : (b : Bool) → lives_at entries moment pid ≡ b → (is_moment entries moment && b) ≡ false
    by_test true lives = absurd (omega (arith, far, grouped-few t entries pid countable i (law entries moment pid i.stands lives)))
    by_test false lives = and_right (is_moment entries moment) false refl

-- so it has no bytes
pub far_range : (t : Tables) (entries : List Record) (moment pid at len : ℕ) → LivesHaveGroups → AreCountable entries → Indexes t entries → 2 ^ 32 ≤ pid → is_memory_range entries moment pid at len ≡ false
far_range t entries moment pid at len law countable i far =
    ap (λ (b : Bool). b && (nat_le len MOST_ASKED && is_present (is_some (segment_at entries moment pid)) at len)) (far_process t entries moment pid law countable i far)

-- nor are so many asked for
pub long_range : (entries : List Record) (moment pid at len : ℕ) → 2 ^ 32 ≤ len → is_memory_range entries moment pid at len ≡ false
long_range entries moment pid at len long =
    let most : nat_le len MOST_ASKED ≡ false = grind (arith, nat_tests) in
    ap (λ (b : Bool). is_member entries moment pid && (b && is_present (is_some (segment_at entries moment pid)) at len)) most ∙ and_right (is_member entries moment pid) false refl
