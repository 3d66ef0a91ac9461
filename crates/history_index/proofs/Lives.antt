-- Who lives behind all records.
use Rattle.std.proofs.Common.{◌≡◌, ℕ, ◌+◌, ◌≤◌, nat_le, Bool, false, List, [], ◌∷◌, ◌++◌, refl, ap, sym, ◌∙◌, arith, le-leb}
use Rattle.arn_base.specs.declared.records.Record.{Record}
use Rattle.arn_base.specs.declared.records.Record.TheVariants as entry
use Rattle.acts_model.specs.Records.{life_told, lives_after}
use Rattle.history_model.specs.Moments.{total, Numbered, if_happened, events_from, lives_by, lives_at}

-- whether a process lives behind all records
live_from : List Record → ℕ → Bool → Bool
live_from [] pid before = before
live_from (e ∷ entries) pid before = live_from entries pid (lives_after (life_told e) pid before)

live-snoc : (entries : List Record) (e : Record) (pid : ℕ) (before : Bool) → live_from (entries ++ e ∷ []) pid before ≡ lives_after (life_told e) pid (live_from entries pid before)
unfolding live_from
live-snoc [] e pid before = refl
live-snoc (x ∷ entries) e pid before = live-snoc entries e pid (lives_after (life_told x) pid before)

happened : (k moment n : ℕ) (e : Record) (later : List Numbered) (pid : ℕ) (before : Bool) → k ≤ moment → lives_by (if_happened (nat_le k moment) n e later) pid before ≡ lives_by later pid (lives_after (life_told e) pid before)
happened k moment n e later pid before within = rw (le-leb k moment within) refl

all-happened : (moment begins ends n : ℕ) (entries : List Record) (pid : ℕ) (before : Bool) → begins ≤ ends → ends + total entries ≤ moment → lives_by (events_from moment begins ends n entries) pid before ≡ live_from entries pid before
unfolding live_from
all-happened moment begins ends n [] pid before begun within = refl
all-happened moment begins ends n (entry.Slice p ran ∷ entries) pid before begun within =
    all-happened moment ends (ends + ran) n entries pid before (omega arith) (omega arith)
all-happened moment begins ends n (entry.Signal p signal cut handler ∷ entries) pid before begun within =
    let e = entry.Signal p signal cut handler in
    happened begins moment n e (events_from moment begins ends (n + 1) entries) pid before (omega arith)
    ∙ all-happened moment begins ends (n + 1) entries pid (lives_after (life_told e) pid before) begun (omega arith)
all-happened moment begins ends n (e ∷ entries) pid before begun within =
    happened ends moment n e (events_from moment begins ends (n + 1) entries) pid before (omega arith)
    ∙ all-happened moment begins ends (n + 1) entries pid (lives_after (life_told e) pid before) begun (omega arith)

all-lives : (entries : List Record) (pid : ℕ) → lives_at entries (total entries) pid ≡ live_from entries pid false
all-lives entries pid = all-happened (total entries) 0 0 0 entries pid false (omega arith) (omega arith)

pub lives-snoc : (entries : List Record) (e : Record) (pid : ℕ) → lives_at (entries ++ e ∷ []) (total (entries ++ e ∷ [])) pid ≡ lives_after (life_told e) pid (lives_at entries (total entries) pid)
lives-snoc entries e pid =
    all-lives (entries ++ e ∷ []) pid ∙ live-snoc entries e pid false ∙ ap (lives_after (life_told e) pid) (sym (all-lives entries pid))
