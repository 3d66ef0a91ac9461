-- Bytes that are no log show that at one place.
use Rattle.std.proofs.lemmas.Bool.Decides.{nat_tests}
use Rattle.std.proofs.Common.{◌≡◌, ◌≢◌, ◌⊎◌, inl, inr, ⊎_elim, ℕ, ◌+◌, ◌<◌, List, [], ◌∷◌, ◌++◌, length, get_or, drop, Some, refl, sym, ap, ◌∙◌, append_assoc, arith, All}
use Rattle.std.proofs.lemmas.Bool.{cases_order}
use Rattle.std.proofs.lemmas.List.{append_cancel_left, get_or-take}
use Rattle.std.proofs.lemmas.List.Elements.{All-head, All-tail}
use Rattle.std.proofs.lemmas.Option.{slice_get-get_or}
use Rattle.arn_base.specs.declared.records.Record.{Record}
use Rattle.result_log.specs.Laws.{SpelledOneWay}
use Rattle.result_log.specs.Spelling.{spelling}
use Rattle.log_store.specs.Laws.{BadAtOnePlace}
use Rattle.log_store.specs.Log.{log_name, spellings, frame, frames, IsCommit, IsSpellable}
use Rattle.log_store.specs.Refused.{BeginsNone, IsBroken, IsCutShort, IsMisnamed, IsMisspelled}
use Rattle.log_store.proofs.Fields.{counted-same, Same}
use Rattle.log_store.proofs.OneWay.{frame-same, name_stands, no_frame}

-- below the first byte that differs none differs
misnamed_first : (bytes : List ℕ) (at later : ℕ) → IsMisnamed bytes at → IsMisnamed bytes later → at < later → ⊥
misnamed_first bytes at later here there below =
    let within : at < length bytes = omega (arith, here.is_within, here.is_long) in
    here.differs
    (slice_get-get_or bytes at 0 within
    ∙ ap Some (sym (get_or-take later bytes at 0 below) ∙ ap (λ (xs : List ℕ). get_or xs at 0) there.are_same ∙ get_or-take later log_name at 0 below)
    ∙ sym (slice_get-get_or log_name at 0 here.is_within))

-- of records and then none, the records are the same
misspelled-same : SpelledOneWay → (a b : List Record) (s t : List ℕ) → All IsSpellable a → All IsSpellable b → BeginsNone s → BeginsNone t
    → spellings a ++ s ≡ spellings b ++ t → a ≡ b
misspelled-same one [] [] s t are_a are_b none_s none_t e = refl
misspelled-same one [] (y ∷ b) s t are_a are_b none_s none_t e = grind (arith, nat_tests, All-head IsSpellable y b are_b, append_assoc (spelling y) (spellings b) t)
misspelled-same one (x ∷ a) [] s t are_a are_b none_s none_t e = grind (arith, nat_tests, All-head IsSpellable x a are_a, append_assoc (spelling x) (spellings a) s)
misspelled-same one (x ∷ a) (y ∷ b) s t are_a are_b none_s none_t e =
    let is_x = All-head IsSpellable x a are_a in
    let is_y = All-head IsSpellable y b are_b in
    let whole = sym (append_assoc (spelling x) (spellings a) s) ∙ e ∙ append_assoc (spelling y) (spellings b) t in
    let same = one x y (spellings a ++ s) (spellings b ++ t) is_x.0 is_x.1 is_y.0 is_y.1 whole in
    let rest = misspelled-same one a b s t (All-tail IsSpellable x a are_a) (All-tail IsSpellable y b are_b) none_s none_t same.1 in
    ap (λ (r : Record). r ∷ a) same.0 ∙ ap (λ (rs : List Record). y ∷ rs) rest

-- a broken frame shows at one place
place-same : SpelledOneWay → (behind : List ℕ) (gate first second : ℕ) → IsCutShort gate first behind ⊎ IsMisspelled gate first behind
    → IsCutShort gate second behind ⊎ IsMisspelled gate second behind → first ≡ second
place-same one behind gate first second (inl a) (inl b) = a.is_at_gate ∙ sym b.is_at_gate
place-same one behind gate first second (inl a) (inr b) = absurd (a.holds_none b.payload b.next b.holds)
place-same one behind gate first second (inr a) (inl b) = absurd (b.holds_none a.payload a.next a.holds)
place-same one behind gate first second (inr a) (inr b) =
    let payload = counted-same a.payload b.payload a.next b.next a.holds.is_counted b.holds.is_counted (sym a.holds.are_bytes ∙ b.holds.are_bytes) in
    let records =
    misspelled-same one a.records b.records a.rest b.rest a.are_spellable b.are_spellable a.begins_none b.begins_none
    (sym a.are_bytes ∙ payload.front ∙ b.are_bytes) in
    a.is_place ∙ ap (λ (rs : List Record). gate + 5 + length (spellings rs)) records ∙ sym b.is_place

-- bytes follow the frames
frames-some : (commits : List (List Record)) (behind : List ℕ) → frames commits ++ 1 ∷ behind ≢ []
frames-some [] behind none = absurd (cc none)
frames-some (c ∷ commits) behind none = absurd (cc none)

-- a broken frame stands behind the same frames
broken-same : SpelledOneWay → (a b : List (List Record)) (s t : List ℕ) (gate_a at_a gate_b at_b : ℕ) → All IsCommit a → All IsCommit b
    → IsCutShort gate_a at_a s ⊎ IsMisspelled gate_a at_a s → IsCutShort gate_b at_b t ⊎ IsMisspelled gate_b at_b t
    → frames a ++ 1 ∷ s ≡ frames b ++ 1 ∷ t → Same a b s t
broken-same one [] [] s t gate_a at_a gate_b at_b are_a are_b cause_a cause_b e = record { front = refl; back = ap (drop 1) e }
broken-same one [] (y ∷ b) s t gate_a at_a gate_b at_b are_a are_b cause_a cause_b e = grind (arith, nat_tests, no_frame one s gate_a at_a cause_a y (frames b ++ 1 ∷ t) (All-head IsCommit y b are_b) (frames-some b t), append_assoc (frame y) (frames b) (1 ∷ t))
broken-same one (x ∷ a) [] s t gate_a at_a gate_b at_b are_a are_b cause_a cause_b e = grind (arith, nat_tests, no_frame one t gate_b at_b cause_b x (frames a ++ 1 ∷ s) (All-head IsCommit x a are_a) (frames-some a s), append_assoc (frame x) (frames a) (1 ∷ s))
broken-same one (x ∷ a) (y ∷ b) s t gate_a at_a gate_b at_b are_a are_b cause_a cause_b e =
    let whole = sym (append_assoc (frame x) (frames a) (1 ∷ s)) ∙ e ∙ append_assoc (frame y) (frames b) (1 ∷ t) in
    let same = frame-same one x y (frames a ++ 1 ∷ s) (frames b ++ 1 ∷ t) (All-head IsCommit x a are_a) (All-head IsCommit y b are_b) whole in
    let rest = broken-same one a b s t gate_a at_a gate_b at_b (All-tail IsCommit x a are_a) (All-tail IsCommit y b are_b) cause_a cause_b same.back in
    record { front = ap (λ (c : List Record). c ∷ a) same.front ∙ ap (λ (cs : List (List Record)). y ∷ cs) rest.front; back = rest.back }

-- why a frame is broken, behind other frames and other bytes that are the same
moved : (a b : List (List Record)) (s t : List ℕ) (at : ℕ) → Same a b s t
    → (let gate = length log_name + length (frames a) in IsCutShort gate at s ⊎ IsMisspelled gate at s)
    → (let gate = length log_name + length (frames b) in IsCutShort gate at t ⊎ IsMisspelled gate at t)
moved a b s t at h1 h2 = grind (arith, nat_tests)

broken_place : SpelledOneWay → (bytes : List ℕ) (first second : ℕ) → IsBroken bytes first → IsBroken bytes second → first ≡ second
broken_place one bytes first second a b =
    let behind = append_cancel_left log_name (frames a.commits ++ 1 ∷ a.behind) (frames b.commits ++ 1 ∷ b.behind) (sym a.are_bytes ∙ b.are_bytes) in
    let same = broken-same one a.commits b.commits a.behind b.behind _ first _ second a.are_commits b.are_commits a.cause b.cause behind in
    place-same one b.behind (length log_name + length (frames b.commits)) first second (moved a.commits b.commits a.behind b.behind first same a.cause) b.cause

-- a broken log has its name
misnamed_broken : (bytes : List ℕ) (first second : ℕ) → IsMisnamed bytes first → IsBroken bytes second → ⊥
misnamed_broken bytes first second h1 h2 = grind (arith, nat_tests, name_stands)

pub bad_one_place : SpelledOneWay → BadAtOnePlace
bad_one_place one bytes first second (inl a) (inl b) = elim (cases_order first second) [
  | inl same ↦ same
  | inr apart ↦ absurd (⊎_elim (misnamed_first bytes first second a b) (misnamed_first bytes second first b a) apart)
]
bad_one_place one bytes first second (inl a) (inr b) = absurd (misnamed_broken bytes first second a b)
bad_one_place one bytes first second (inr a) (inl b) = absurd (misnamed_broken bytes second first b a)
bad_one_place one bytes first second (inr a) (inr b) = broken_place one bytes first second a b
