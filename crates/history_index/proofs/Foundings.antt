-- The events by which groups begin, with one more.
use Rattle.std.proofs.Common.{◌≡◌, ◌≢◌, inl, inr, ℕ, zero, suc, ◌+◌, ◌==◌, ◌&&◌, Bool, true, false, if◌then◌else◌, cond, List, [], ◌∷◌, ◌++◌, length, position, Option, Some, None, refl, ap, sym, ◌∙◌, arith, add-zero}
use Rattle.std.specs.List.{position_from}
use Rattle.std.specs.Option.{option_or}
use Rattle.std.proofs.lemmas.Bool.Decides.{eqb_tells}
use Rattle.std.proofs.lemmas.Iterator.Adapters.{position_from-zero}
use Rattle.arn_base.specs.declared.records.Record.{Record}
use Rattle.parts_model.specs.Numbered.{nth}
use Rattle.history_model.specs.Events.{events, how_many}
use Rattle.history_index.specs.Lookups.{founds, founding_event}

first-or : (b : Bool) (i : ℕ) (p q : Option ℕ) → cond b (Some i) (option_or p q) ≡ option_or (cond b (Some i) p) q
first-or true i p q = refl
first-or false i p q = refl

-- the first of a list that goes on
position-snoc : {A : Type 0} (t : A → Bool) (i : ℕ) (xs : List A) (x : A) → position_from t i (xs ++ x ∷ []) ≡ option_or (position_from t i xs) (cond (t x) (Some (i + length xs)) None)
position-snoc t i [] x = rw add-zero refl
position-snoc t i (y ∷ xs) x =
    let same : i + 1 + length xs ≡ i + suc (length xs) = omega arith in
    ap (cond (t y) (Some i)) (position-snoc t (i + 1) xs x ∙ ap (λ (k : ℕ). option_or (position_from t (i + 1) xs) (cond (t x) (Some k) None)) same)
    ∙ first-or (t y) i (position_from t (i + 1) xs) (cond (t x) (Some (i + suc (length xs))) None)

pub founding-snoc : (entries : List Record) (e : Record) (group : ℕ) → events (entries ++ e ∷ []) ≡ events entries ++ e ∷ [] → founding_event (entries ++ e ∷ []) group ≡ option_or (founding_event entries group) (cond (founds group e) (Some (how_many entries)) None)
founding-snoc entries e group kept =
    ap (position (founds group)) kept
    ∙ position_from-zero (founds group) (events entries ++ e ∷ [])
    ∙ position-snoc (founds group) 0 (events entries) e
    ∙ ap (λ (k : ℕ). option_or (position_from (founds group) 0 (events entries)) (cond (founds group e) (Some k) None)) same
    ∙ ap (λ (o : Option ℕ). option_or o (cond (founds group e) (Some (how_many entries)) None)) (sym (position_from-zero (founds group) (events entries)))
  where
    same : 0 + length (events entries) ≡ how_many entries
    same = omega arith

or-none : (o : Option ℕ) → option_or o None ≡ o
or-none None = refl
or-none (Some n) = refl

-- an event by which none begins
pub founding-stays : (entries : List Record) (e : Record) (group : ℕ) → events (entries ++ e ∷ []) ≡ events entries ++ e ∷ [] → founds group e ≡ false → founding_event (entries ++ e ∷ []) group ≡ founding_event entries group
founding-stays entries e group kept not = founding-snoc entries e group kept ∙ rw not (or-none (founding_event entries group))

nth-last : (fs : List (Option ℕ)) (x : Option ℕ) (h : ℕ) → h ≡ length fs → nth (fs ++ x ∷ []) h ≡ x
nth-last [] x zero is = refl
nth-last (f ∷ fs) x (suc h) is = nth-last fs x h (omega arith)
nth-last _ x _ is = absurd (omega arith)

nth-past : (fs : List (Option ℕ)) (h : ℕ) → h ≡ length fs → nth fs h ≡ None
nth-past [] h is = refl
nth-past (f ∷ fs) zero is = absurd (omega arith)
nth-past (f ∷ fs) (suc h) is = nth-past fs h (omega arith)

nth-front : (fs : List (Option ℕ)) (x : Option ℕ) (h : ℕ) → h ≢ length fs → nth (fs ++ x ∷ []) h ≡ nth fs h
nth-front [] x zero differs = absurd (differs refl)
nth-front (f ∷ fs) x (suc h) differs = nth-front fs x h (λ e. differs (ap suc e))
nth-front _ x _ differs = refl

-- the next process, where it begins a group
pub founding-push : (fs : List (Option ℕ)) (n event group h : ℕ) (entries : List Record) (e : Record) → length fs ≡ n → event ≡ how_many entries → events (entries ++ e ∷ []) ≡ events entries ++ e ∷ [] → ((k : ℕ) → nth fs k ≡ founding_event entries k) → founds h e ≡ ((h == n) && (group == n))
    → nth (fs ++ (if group == n then Some event else None) ∷ []) h ≡ founding_event (entries ++ e ∷ []) h
founding-push fs n event group h entries e many is kept told first =
    elim (eqb_tells h n) [
      | inl k ↦
          nth-last fs (if group == n then Some event else None) h (k.1 ∙ sym many)
          ∙ ap (λ (m : ℕ). if group == n then Some m else None) is
          ∙ sym (
          founding-snoc entries e h kept
          ∙ ap (λ (o : Option ℕ). option_or o (cond (founds h e) (Some (how_many entries)) None)) (sym (told h) ∙ nth-past fs h (k.1 ∙ sym many))
          ∙ ap (λ (b : Bool). cond b (Some (how_many entries)) None) (first ∙ ap (λ (b : Bool). b && (group == n)) k.0))
      | inr k ↦
          nth-front fs (if group == n then Some event else None) h (λ same. k.1 (same ∙ many))
          ∙ told h
          ∙ sym (founding-stays entries e h kept (first ∙ ap (λ (b : Bool). b && (group == n)) k.0))
    ]
