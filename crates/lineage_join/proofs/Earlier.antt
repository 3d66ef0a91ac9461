-- Stored origins are of earlier events, where no record is broken.
use Rattle.std.proofs.Common.{◌≡◌, ℕ, zero, suc, ◌+◌, ◌-◌, ◌<◌, ◌==◌, ◌||◌, Bool, true, false, not, if◌then◌else◌, List, [], ◌∷◌, ◌++◌, length, filter, Option, Some, None, refl, ap, sym, ◌∙◌, arith, length-append, nat_lt, subst, slice_get, cond, option_map, option_and_then}
use Rattle.std.specs.List.{list_all}
use Rattle.std.proofs.lemmas.Bool.{true≢false, and_parts, not-false, or_parts}
use Rattle.std.proofs.lemmas.Option.{none-some, same_Some, slice_get_within}
use Rattle.std.proofs.lemmas.List.Elements.{filter-append}
use Rattle.arn_base.specs.declared.records.Give.{Give}
use Rattle.arn_base.specs.declared.records.Origin.{Origin}
use Rattle.arn_base.specs.declared.records.Record.{Record}
use Rattle.arn_base.specs.declared.records.Src.{Src}
use Rattle.acts_model.specs.Records.{event_len, give_of, is_event}
use Rattle.history_model.specs.Broken.{child_in, misnumbers, cant_follow, comes_wrong, lacks_process, lacks_slice, lies_in_event, is_origin, origins_len, are_origins, has_blocks_wrong, start_in, misplaces_start, broken_from, first_broken}
use Rattle.history_model.specs.Events.{events, event_at}
use Rattle.lineage_model.specs.Joined.{origin_at, origin_of}

-- stored origins are of events below n
abbrev pub AreEarlier : ℕ → Record → Type 0
AreEarlier n e = (k : ℕ) (src : Src) → origin_of e k ≡ Some src → src.event < n

abbrev rest-number : List Record → Record → Bool
rest-number before e = misnumbers before (child_in e) || misplaces_start e

abbrev rest-blocks : List Record → Record → Bool
rest-blocks before e = has_blocks_wrong (start_in e) || rest-number before e

abbrev rest-origins : List Record → Record → Bool
rest-origins before e = not (are_origins before (give_of e)) || rest-blocks before e

abbrev rest-slice : List Record → Record → Bool
rest-slice before e = lacks_slice before e || rest-origins before e

abbrev rest-process : List Record → Record → Bool
rest-process before e = lacks_process before e || rest-slice before e

has-origins : (before : List Record) (e : Record) → cant_follow before e ≡ false → are_origins before (give_of e) ≡ true
has-origins before e h =
    let process = (or_parts (comes_wrong before e) (rest-process before e) h).1 in
    let slice = (or_parts (lacks_process before e) (rest-slice before e) process).1 in
    let origins = (or_parts (lacks_slice before e) (rest-origins before e) slice).1 in
    not-false (are_origins before (give_of e)) (or_parts (not (are_origins before (give_of e))) (rest-blocks before e) origins).0

-- an origin lies in an event that is there
lies-below : (before : List Record) (o : Origin) (e : Option Record) → slice_get (events before) o.event ≡ e → lies_in_event o (option_map event_len e) ≡ true → o.event < length (events before)
lies-below before o None is h = absurd (true≢false (sym h))
lies-below before o (Some e) is h = slice_get_within (events before) o.event e is

origin-below : (before : List Record) (origins : List Origin) → list_all (is_origin before) origins ≡ true → (k : ℕ) (src : Src) → origin_at origins k ≡ Some src → src.event < length (events before)
origin-below before [] all k src is = absurd (none-some src is)
origin-below before (o ∷ origins) all k src is =
    let both = and_parts (is_origin before o) (list_all (is_origin before) origins) all in
    by_test (nat_lt k o.len) (lies-below before o (event_at before o.event) refl both.0) (origin-below before origins both.1 (k - o.len) src) is
  where
    by_test : (b : Bool) → o.event < length (events before) → (origin_at origins (k - o.len) ≡ Some src → src.event < length (events before)) → cond b (Some (record { event = o.event; at = o.at + k })) (origin_at origins (k - o.len)) ≡ Some src → src.event < length (events before)
    by_test true low next h = let same : o.event ≡ src.event = ap (λ (s : Src). s.event) (same_Some _ src h) in omega arith
    by_test false low next h = next h

give-below : (before : List Record) (give : Option Give) → are_origins before give ≡ true → (k : ℕ) (src : Src) → option_and_then (λ (g : Give). origin_at g.origins k) give ≡ Some src → src.event < length (events before)
give-below before None h k src is = absurd (none-some src is)
give-below before (Some give) h k src is = origin-below before give.origins (and_parts (list_all (is_origin before) give.origins) (origins_len give.origins == length give.bytes) h).0 k src is

module _ (before : List Record) (e : Record) (entries : List Record) where
  follows-by : (b : Bool) → cant_follow before e ≡ b → (if b then Some (length before) else broken_from (before ++ e ∷ []) entries) ≡ None → (b ≡ false) × (broken_from (before ++ e ∷ []) entries ≡ None)
  follows-by true is h = absurd (none-some (length before) (sym h))
  follows-by false is h = (refl, h)

  follows : broken_from before (e ∷ entries) ≡ None → (cant_follow before e ≡ false) × (broken_from (before ++ e ∷ []) entries ≡ None)
  follows h = follows-by (cant_follow before e) refl h

  count-next : (b : Bool) → is_event e ≡ b → length (events (before ++ e ∷ [])) ≡ length (events before) + (if b then 1 else 0)
  count-next b is = ap length (filter-append is_event before (e ∷ [])) ∙ (length-append (events before) (filter is_event (e ∷ [])) ∙ ap (λ (n : ℕ). length (events before) + n) (by_test (is_event e) b is))
    where
      by_test : (a b : Bool) → a ≡ b → length (cond a (e ∷ []) []) ≡ cond b 1 0
      by_test true false h = absurd (true≢false h)
      by_test false true h = absurd (true≢false (sym h))
      by_test _ _ h = refl

earlier-from : (before rest : List Record) → broken_from before rest ≡ None → (j : ℕ) (e : Record) → slice_get (events rest) j ≡ Some e → AreEarlier (length (events before) + j) e
earlier-from before [] h j e is = absurd (none-some e is)
earlier-from before (x ∷ rest) h j e is =
    let f = follows before x rest h in
    by_test f.0 (λ i k. earlier-from (before ++ x ∷ []) rest f.1 i e k) (is_event x) refl j is
  where
    here : cant_follow before x ≡ false → x ≡ e → AreEarlier (length (events before) + 0) e
    here f same = λ k src o. let low = give-below before (give_of e) (subst (λ (y : Record). are_origins before (give_of y) ≡ true) same (has-origins before x f)) k src o in omega arith

    by_test : cant_follow before x ≡ false → ((i : ℕ) → slice_get (events rest) i ≡ Some e → AreEarlier (length (events (before ++ x ∷ [])) + i) e) → (b : Bool) → is_event x ≡ b → (i : ℕ) → slice_get (cond b (x ∷ events rest) (events rest)) i ≡ Some e → AreEarlier (length (events before) + i) e
    by_test f later true t zero k = here f (same_Some x e k)
    by_test f later true t (suc i) k = λ m src o. let n = count-next before x rest true t in let low = later i k m src o in omega arith
    by_test f later false t i k = λ m src o. let n = count-next before x rest false t in let low = later i k m src o in omega arith

pub earlier : (entries : List Record) → first_broken entries ≡ None → (n : ℕ) (e : Record) → event_at entries n ≡ Some e → AreEarlier n e
earlier entries h n e is = λ k src o. let low = earlier-from [] entries h n e is k src o in omega arith
