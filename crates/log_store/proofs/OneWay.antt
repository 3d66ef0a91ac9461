-- The bytes of a log are read in one way.
use Rattle.std.proofs.lemmas.Bool.Decides.{nat_tests}
use Rattle.std.proofs.Common.{◌≡◌, ◌≢◌, ◌⊎◌, inl, inr, ℕ, ◌<◌, ◌≤◌, List, [], ◌∷◌, ◌++◌, length, drop, refl, sym, ap, ◌∙◌, append_assoc, length-append, arith, All, slice_get}
use Rattle.std.proofs.lemmas.List.{append_cancel_left, get_or_append_left}
use Rattle.std.proofs.lemmas.Option.{slice_get-get_or}
use Rattle.std.proofs.lemmas.List.Elements.{All-head, All-tail}
use Rattle.arn_base.specs.declared.records.Record.{Record}
use Rattle.result_log.specs.Laws.{SpelledOneWay}
use Rattle.result_log.specs.Spelling.{spelling, counted}
use Rattle.log_store.specs.Log.{log_name, spellings, frame, frames, records_of, IsClosedLog, IsCommit, IsEnd, IsLogOf, IsNamedLog, IsSpellable}
use Rattle.log_store.specs.Pieces.{IsFound}
use Rattle.log_store.specs.Laws.{ClosedHoldCommits, CommitsReadOneWay, LogsReadOneWay, ClosedAreLogs, BadAreNone}
use Rattle.log_store.specs.Refused.{BeginsNone, IsBroken, IsCutShort, IsMisnamed, IsMisspelled, IsNoLog}
use Rattle.log_store.proofs.Fields.{counted-same, length-counted, not_empty, Same}
use Rattle.log_store.proofs.ReadRecords.{spelling-long}

-- bytes that spell records spell no others
pub spellings-same : SpelledOneWay → (a b : List Record) → All IsSpellable a → All IsSpellable b → spellings a ≡ spellings b → a ≡ b
spellings-same one [] [] are_a are_b e = refl
spellings-same one [] (y ∷ b) are_a are_b e = grind (arith, nat_tests, spelling-long y, length-append (spelling y) (spellings b))
spellings-same one (x ∷ a) [] are_a are_b e = grind (arith, nat_tests, spelling-long x, length-append (spelling x) (spellings a))
spellings-same one (x ∷ a) (y ∷ b) are_a are_b e =
    let is_x = All-head IsSpellable x a are_a in
    let is_y = All-head IsSpellable y b are_b in
    let same = one x y (spellings a) (spellings b) is_x.0 is_x.1 is_y.0 is_y.1 e in
    let rest = spellings-same one a b (All-tail IsSpellable x a are_a) (All-tail IsSpellable y b are_b) same.1 in
    ap (λ (r : Record). r ∷ a) same.0 ∙ ap (λ (rs : List Record). y ∷ rs) rest

-- bytes that begin with the spellings of some records and then of none are no spellings
pub spellings-none : SpelledOneWay → (a b : List Record) (rest : List ℕ) → All IsSpellable a → All IsSpellable b → rest ≢ [] → BeginsNone rest
    → spellings a ++ rest ≡ spellings b → ⊥
spellings-none one [] [] rest are_a are_b some begins e = some e
spellings-none one [] (y ∷ b) rest are_a are_b some begins e = begins y (spellings b) (All-head IsSpellable y b are_b) e
spellings-none one (x ∷ a) [] rest are_a are_b some begins e = grind (arith, nat_tests, spelling-long x, length-append (spelling x ++ spellings a) rest, length-append (spelling x) (spellings a))
spellings-none one (x ∷ a) (y ∷ b) rest are_a are_b some begins e =
    let is_x = All-head IsSpellable x a are_a in
    let is_y = All-head IsSpellable y b are_b in
    let same = one x y (spellings a ++ rest) (spellings b) is_x.0 is_x.1 is_y.0 is_y.1 (sym (append_assoc (spelling x) (spellings a) rest) ∙ e) in
    spellings-none one a b rest (All-tail IsSpellable x a are_a) (All-tail IsSpellable y b are_b) some begins same.1

-- an end begins no frame
pub end_no_frame : (end : List ℕ) (commit : List Record) (rest : List ℕ) → IsEnd end → end ≢ frame commit ++ rest
end_no_frame end commit rest h1 = grind (arith, nat_tests, length-append, length-counted)

-- two frames at the front of the same bytes hold one commit
pub frame-same : SpelledOneWay → (a b : List Record) (s t : List ℕ) → IsCommit a → IsCommit b → frame a ++ s ≡ frame b ++ t → Same a b s t
frame-same h1 a b s t h2 h3 h4 = grind (arith, nat_tests, counted-same, spellings-same)

-- frames are read in one way, up to an end
pub frames-same : SpelledOneWay → (a b : List (List Record)) (end other : List ℕ) → All IsCommit a → All IsCommit b → IsEnd end → IsEnd other
    → frames a ++ end ≡ frames b ++ other → a ≡ b
frames-same one [] [] end other are_a are_b is is_other e = refl
frames-same one [] (y ∷ b) end other are_a are_b is is_other e = absurd (end_no_frame end y (frames b ++ other) is (e ∙ append_assoc (frame y) (frames b) other))
frames-same one (x ∷ a) [] end other are_a are_b is is_other e = grind (arith, nat_tests, end_no_frame other x (frames a ++ end) is_other, append_assoc (frame x) (frames a) end)
frames-same one (x ∷ a) (y ∷ b) end other are_a are_b is is_other e =
    let whole = sym (append_assoc (frame x) (frames a) end) ∙ e ∙ append_assoc (frame y) (frames b) other in
    let same = frame-same one x y (frames a ++ end) (frames b ++ other) (All-head IsCommit x a are_a) (All-head IsCommit y b are_b) whole in
    let rest = frames-same one a b end other (All-tail IsCommit x a are_a) (All-tail IsCommit y b are_b) is is_other same.back in
    ap (λ (c : List Record). c ∷ a) same.front ∙ ap (λ (cs : List (List Record)). y ∷ cs) rest

-- one byte holds no frame
no_commits : (commits : List (List Record)) (end behind : List ℕ) → IsEnd end → behind ≡ frames commits ++ end → length behind ≤ 1 → commits ≡ []
no_commits [] end behind is e le = refl
no_commits (c ∷ commits) end behind is e le = grind (arith, nat_tests, length-append (frame c ++ frames commits) end, length-append (frame c) (frames commits), length-counted (spellings c))

-- a log of at most nine bytes that has a name holds no commits
pub short_named : (bytes : List ℕ) (commits : List (List Record)) → length bytes ≤ 9 → IsNamedLog bytes commits → commits ≡ []
short_named bytes commits h1 h2 = grind (arith, nat_tests, no_commits, length-append)

pub named-same : SpelledOneWay → (bytes : List ℕ) (first second : List (List Record)) → IsNamedLog bytes first → IsNamedLog bytes second → first ≡ second
named-same h1 bytes first second h2 h3 = grind (arith, nat_tests, frames-same, append_cancel_left)

pub commits_one_way : SpelledOneWay → CommitsReadOneWay
commits_one_way one bytes first second (inl a) (inl b) = a.1 ∙ sym b.1
commits_one_way one bytes first second (inl a) (inr b) = a.1 ∙ sym (short_named bytes second a.0 b)
commits_one_way one bytes first second (inr a) (inl b) = short_named bytes first b.0 a ∙ sym b.1
commits_one_way one bytes first second (inr a) (inr b) = named-same one bytes first second a b

pub logs_one_way : SpelledOneWay → LogsReadOneWay
logs_one_way one bytes first second a b =
    a.are_records ∙ ap records_of (commits_one_way one bytes a.commits b.commits a.is_log b.is_log) ∙ sym b.are_records

pub closed_commits : ClosedHoldCommits
closed_commits = grind (arith, nat_tests)

pub closed_logs : ClosedAreLogs
closed_logs = grind (arith, nat_tests, closed_commits)

-- what a store left is read up to its last byte
pub closed_end : SpelledOneWay → (bytes : List ℕ) (entries records : List Record) (end : List ℕ) → IsFound bytes entries end → IsClosedLog bytes records
    → end ≡ 0 ∷ []
closed_end one bytes entries records end found log =
    let behind = append_cancel_left log_name (frames found.commits ++ end) (frames log.commits ++ 0 ∷ []) (sym found.are_bytes ∙ log.is_closed.are_bytes) in
    let same = frames-same one found.commits log.commits end (0 ∷ []) found.are_commits log.is_closed.are_commits found.is_end (inr refl) behind in
    append_cancel_left (frames log.commits) end (0 ∷ []) (ap (λ (cs : List (List Record)). frames cs ++ end) (sym same) ∙ behind)

-- something stands behind the open gate of a broken frame
has_more : (behind : List ℕ) (gate at : ℕ) → IsCutShort gate at behind ⊎ IsMisspelled gate at behind → behind ≢ []
has_more behind gate at h1 = grind (arith, nat_tests, length-append, length-counted)

-- behind the open gate of a broken frame stands no frame of a commit
pub no_frame : SpelledOneWay → (behind : List ℕ) (gate at : ℕ) → IsCutShort gate at behind ⊎ IsMisspelled gate at behind
    → (commit : List Record) (next : List ℕ) → IsCommit commit → next ≢ [] → behind ≢ counted (spellings commit) ++ next
no_frame h1 behind gate at h2 commit next h3 h4 = grind (arith, nat_tests, counted-same, spellings-none)

-- frames with a broken one behind them aren't frames and an end
pub broken_none : SpelledOneWay → (a b : List (List Record)) (behind end : List ℕ) (gate at : ℕ) → All IsCommit a → All IsCommit b → IsEnd end
    → IsCutShort gate at behind ⊎ IsMisspelled gate at behind → frames a ++ 1 ∷ behind ≡ frames b ++ end → ⊥
broken_none one [] [] behind end gate at are_a are_b is cause e = not_end behind end gate at is cause e
  where
    not_end : (behind end : List ℕ) (gate at : ℕ) → IsEnd end → IsCutShort gate at behind ⊎ IsMisspelled gate at behind → 1 ∷ behind ≡ end → ⊥
    not_end behind end gate at h1 h2 h3 = grind (arith, nat_tests, has_more)
broken_none one [] (y ∷ b) behind end gate at are_a are_b is cause e =
    no_frame one behind gate at cause y (frames b ++ end) (All-head IsCommit y b are_b) (frames-some b end is) (ap (drop 1) (e ∙ append_assoc (frame y) (frames b) end))
  where
    frames-some : (b : List (List Record)) (end : List ℕ) → IsEnd end → frames b ++ end ≢ []
    frames-some [] [] is none = is
    frames-some [] (g ∷ end) is none = absurd (cc none)
    frames-some (c ∷ b) end is none = absurd (cc none)
broken_none one (x ∷ a) [] behind end gate at are_a are_b is cause e =
    end_no_frame end x (frames a ++ 1 ∷ behind) is (sym e ∙ append_assoc (frame x) (frames a) (1 ∷ behind))
broken_none one (x ∷ a) (y ∷ b) behind end gate at are_a are_b is cause e =
    let whole = sym (append_assoc (frame x) (frames a) (1 ∷ behind)) ∙ e ∙ append_assoc (frame y) (frames b) end in
    let same = frame-same one x y (frames a ++ 1 ∷ behind) (frames b ++ end) (All-head IsCommit x a are_a) (All-head IsCommit y b are_b) whole in
    broken_none one a b behind end gate at (All-tail IsCommit x a are_a) (All-tail IsCommit y b are_b) is cause same.back

-- a broken log is longer than a fresh one
broken_long : (bytes : List ℕ) (at : ℕ) → IsBroken bytes at → 9 < length bytes
broken_long bytes at h1 = grind (arith, nat_tests, length-append, not_empty, has_more)

pub broken_no_log : SpelledOneWay → (bytes : List ℕ) (at : ℕ) → IsBroken bytes at → IsNoLog bytes
broken_no_log one bytes at broken records is = none_of is.commits is.is_log
  where
    none_of : (commits : List (List Record)) → ¬ IsLogOf bytes commits
    none_of commits (inl fresh) = let long = broken_long bytes at broken in let short = fresh.0 in omega (arith, long, short)
    none_of commits (inr named) =
        let log = named.are_frames in
        let behind = append_cancel_left log_name named.behind (frames broken.commits ++ 1 ∷ broken.behind) (sym named.is_named ∙ broken.are_bytes) in
        broken_none one broken.commits commits broken.behind log.end _ at broken.are_commits log.are_commits log.is_end broken.cause
        (sym behind ∙ log.are_bytes)

-- a log's name stands at its front
pub name_stands : (behind : List ℕ) (at : ℕ) → at < length log_name → slice_get (log_name ++ behind) at ≡ slice_get log_name at
name_stands behind at h1 = grind (arith, nat_tests, slice_get-get_or, length-append, get_or_append_left)

pub misnamed_no_log : (bytes : List ℕ) (at : ℕ) → IsMisnamed bytes at → IsNoLog bytes
misnamed_no_log bytes at h1 = grind (arith, nat_tests, name_stands)

pub bad_none : SpelledOneWay → BadAreNone
bad_none one bytes at (inl misnamed) = misnamed_no_log bytes at misnamed
bad_none one bytes at (inr broken) = broken_no_log one bytes at broken
