-- Events are numbered in the order of their records.
use Rattle.std.proofs.Common.{◌≡◌, ℕ, zero, suc, ◌+◌, ◌<◌, ◌≤◌, Bool, true, false, cond, List, [], ◌∷◌, ◌++◌, Some, append_assoc, append-nil, arith, ap, get_or, length, refl, slice_get, sym, take, ◌∙◌, flat_map}
use Rattle.std.specs.List.{range_with_len}
use Rattle.arn_base.specs.declared.records.Record.{Record}
use Rattle.acts_model.specs.Records.{is_event}
use Rattle.history_model.specs.Events.{event_at, events, how_many}
use Rattle.session_reports.specs.Events.{event_text}
use Rattle.std.proofs.lemmas.List.Filters.{length-filter_more}

-- the number of the next event is that of all before it
pub event_at-next : (entries : List Record) (i : ℕ) (e : Record) → i < length entries → is_event (get_or entries i e) ≡ true → event_at entries (how_many (take i entries)) ≡ Some (get_or entries i e)
event_at-next [] i e lt test = absurd (omega (arith, lt))
event_at-next (x ∷ entries) zero e lt test = by_test (is_event x) test
  where
    by_test : (b : Bool) → b ≡ true → slice_get (cond b (x ∷ events entries) (events entries)) 0 ≡ Some x
    by_test true same = refl
    by_test false same = cc same
event_at-next (x ∷ entries) (suc i) e lt test = by_test (is_event x) (event_at-next entries i e (omega arith) test)
  where
    by_test : (b : Bool) → slice_get (events entries) (how_many (take i entries)) ≡ Some (get_or entries i e) → slice_get (cond b (x ∷ events entries) (events entries)) (length (cond b (x ∷ events (take i entries)) (events (take i entries)))) ≡ Some (get_or entries i e)
    by_test true next = next
    by_test false next = next

-- one more number
pub flat_map-numbered : {A : Type 0} (f : ℕ → List A) (a n m : ℕ) → a + n ≡ m → flat_map f (range_with_len a (suc n)) ≡ flat_map f (range_with_len a n) ++ f m
flat_map-numbered f a zero m same = append-nil (f a) ∙ ap f (omega (arith, same))
flat_map-numbered f a (suc n) m same =
    ap (λ xs. f a ++ xs) (flat_map-numbered f (a + 1) n m (omega (arith, same)))
    ∙ sym (append_assoc (f a) (flat_map f (range_with_len (a + 1) n)) (f m))

-- so many events are listed, which are all among the first records
pub record IsListed (entries : List Record) (i n : ℕ) (text : List ℕ) : Type 0 where
  pub few : n ≤ i
  pub count : n ≡ how_many (take i entries)
  pub lines : text ≡ flat_map (event_text entries) (range_with_len 0 n)

-- what comes next is an event
pub listed-event : (entries : List Record) (i : ℕ) (e : Record) (n m : ℕ) (before after : List ℕ) → i < length entries → e ≡ get_or entries i e → is_event e ≡ true
    → IsListed entries i n before → m ≡ n + 1 → (event_at entries n ≡ Some e → after ≡ before ++ event_text entries n) → IsListed entries (i + 1) m after
listed-event entries i e n m before after lt same test l more says =
    let tested : is_event (get_or entries i e) ≡ true = ap is_event (sym same) ∙ test in
    let there : event_at entries n ≡ Some e = ap (event_at entries) l.count ∙ event_at-next entries i e lt tested ∙ ap Some (sym same) in
    let next : suc n ≡ m = omega (arith, more) in
    let counted : how_many (take (i + 1) entries) ≡ how_many (take i entries) + 1 = length-filter_more is_event entries i e lt ∙ ap (λ (b : Bool). how_many (take i entries) + cond b 1 0) tested in
    record {
      few = omega (arith, l.few, more);
      count = more ∙ ap (λ (k : ℕ). k + 1) l.count ∙ sym counted;
      lines =
          says there ∙ ap (λ (xs : List ℕ). xs ++ event_text entries n) l.lines
          ∙ sym (flat_map-numbered (event_text entries) 0 n n (omega arith)) ∙ ap (λ (k : ℕ). flat_map (event_text entries) (range_with_len 0 k)) next;
    }

-- what comes next is a slice
pub listed-slice : (entries : List Record) (i : ℕ) (e : Record) (n m : ℕ) (before after : List ℕ) → i < length entries → e ≡ get_or entries i e → is_event e ≡ false
    → IsListed entries i n before → m ≡ n → after ≡ before → IsListed entries (i + 1) m after
listed-slice entries i e n m before after lt same test l more says =
    let tested : is_event (get_or entries i e) ≡ false = ap is_event (sym same) ∙ test in
    let counted : how_many (take (i + 1) entries) ≡ how_many (take i entries) + 0 = length-filter_more is_event entries i e lt ∙ ap (λ (b : Bool). how_many (take i entries) + cond b 1 0) tested in
    record {
      few = omega (arith, l.few, more);
      count = more ∙ l.count ∙ omega (arith, counted);
      lines = says ∙ l.lines ∙ ap (λ (k : ℕ). flat_map (event_text entries) (range_with_len 0 k)) (sym more);
    }
