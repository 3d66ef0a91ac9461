-- Pipes in order of number.
use Rattle.std.proofs.Common.{◌≡◌, ◌≢◌, ℕ, zero, suc, ◌+◌, ◌<◌, ◌≤◌, ◌==◌, Bool, true, false, cond, List, [], ◌∷◌, ◌++◌, length, get_or, set, take, Option, None, Some, IsSome, is_some, refl, sym, ap, ◌∙◌, arith, true≢false, eq-eqb, eqb-true, option_map}
use Rattle.std.proofs.lemmas.List.Sums.{sum_by-append, sum_by-set}
use Rattle.parts_model.specs.Numbered.{how_many, nth}
use Rattle.parts_model.specs.Pipes.{Pipe, Pipes}
use Rattle.guest_pipes.specs.declared.entries.Entry.{Entry}
use Rattle.guest_pipes.specs.Table.{HasNumber, numbered, listed_from}

-- what stands under a key
abbrev pub slot : List (Option Entry) → ℕ → Option Entry
slot slots key = get_or slots key None

-- the number stands under one key at most
abbrev pub Once : List (Option Entry) → ℕ → Type 0
Once slots n = (key other : ℕ) → HasNumber n (slot slots key) → HasNumber n (slot slots other) → key ≡ other

-- the pipe of an entry
abbrev pub pipe_of : Option Entry → Option Pipe
pipe_of o = option_map (λ e. e.pipe) o

Once-rest : (x : Option Entry) (slots : List (Option Entry)) (n : ℕ) → Once (x ∷ slots) n → Once slots n
Once-rest x slots n once = λ key other here there. let same : suc key ≡ suc other = once (suc key) (suc other) here there in omega (arith, same)

-- no entry has the number
pub numbered-none : (slots : List (Option Entry)) (n : ℕ) → ((key : ℕ) → HasNumber n (slot slots key) → ⊥) → numbered slots n ≡ None
numbered-none [] n never = refl
numbered-none (None ∷ slots) n never = numbered-none slots n (λ key. never (suc key))
numbered-none (Some e ∷ slots) n never = by (e.number == n) refl (numbered-none slots n (λ key. never (suc key)))
  where
    by : (b : Bool) → (e.number == n) ≡ b → numbered slots n ≡ None → cond b (Some e.pipe) (numbered slots n) ≡ None
    by true is rest = absurd (never 0 (eqb-true e.number n is))
    by false is rest = rest

-- one entry has it
pub numbered-at : (slots : List (Option Entry)) (key n : ℕ) → HasNumber n (slot slots key) → Once slots n → numbered slots n ≡ pipe_of (slot slots key)
numbered-at [] key n here once = absurd here
numbered-at (None ∷ slots) zero n here once = absurd here
numbered-at (Some e ∷ slots) zero n here once = rw (eq-eqb e.number n here) refl
numbered-at (None ∷ slots) (suc key) n here once = numbered-at slots key n here (Once-rest None slots n once)
numbered-at (Some e ∷ slots) (suc key) n here once = by (e.number == n) refl (numbered-at slots key n here (Once-rest (Some e) slots n once))
  where
    by : (b : Bool) → (e.number == n) ≡ b → numbered slots n ≡ pipe_of (slot slots key) → cond b (Some e.pipe) (numbered slots n) ≡ pipe_of (slot slots key)
    by true is rest = let same : zero ≡ suc key = once zero (suc key) (eqb-true e.number n is) here in absurd (omega (arith, same))
    by false is rest = rest

-- a pipe that is there has a key
pub key-of : (slots : List (Option Entry)) (n : ℕ) → IsSome (numbered slots n) → (key : ℕ) × HasNumber n (slot slots key)
key-of [] n there = absurd (true≢false (sym there))
key-of (None ∷ slots) n there = let found = key-of slots n there in (suc found.0, found.1)
key-of (Some e ∷ slots) n there = by (e.number == n) refl there (key-of slots n)
  where
    by : (b : Bool) → (e.number == n) ≡ b → IsSome (cond b (Some e.pipe) (numbered slots n)) → (IsSome (numbered slots n) → (key : ℕ) × HasNumber n (slot slots key)) → (key : ℕ) × HasNumber n (slot (Some e ∷ slots) key)
    by true is here rest = (0, eqb-true e.number n is)
    by false is here rest = let found = rest here in (suc found.0, found.1)

IsSome-of : (n : ℕ) (o : Option Entry) → HasNumber n o → pipe_of o ≡ None → ⊥
IsSome-of n None here is = here
IsSome-of n (Some e) here is = cc

-- where the same entry has a number, it has the same pipe
pub numbered-same : (old new : List (Option Entry)) (n : ℕ) → Once old n → Once new n → ((key : ℕ) → HasNumber n (slot old key) → slot new key ≡ slot old key) → ((key : ℕ) → HasNumber n (slot new key) → slot new key ≡ slot old key) → numbered new n ≡ numbered old n
numbered-same old new n once once' kept none = by (numbered old n) refl
  where
    by : (o : Option Pipe) → numbered old n ≡ o → numbered new n ≡ numbered old n
    by None is =
        numbered-none new n (λ key here.
        let was : HasNumber n (slot old key) = rw (← none key here) here in
        IsSome-of n (slot old key) was (sym (numbered-at old key n was once) ∙ is))
        ∙ sym is
    by (Some p) is =
        let found = key-of old n (ap is_some is) in
        let stays = kept found.0 found.1 in
        let here : HasNumber n (slot new found.0) = rw stays found.1 in
        numbered-at new found.0 n here once' ∙ ap pipe_of stays ∙ sym (numbered-at old found.0 n found.1 once)

pub length-listed_from : (slots : List (Option Entry)) (n count : ℕ) → length (listed_from slots n count) ≡ count
length-listed_from slots n zero = refl
length-listed_from slots n (suc count) = ap (λ (k : ℕ). suc k) (length-listed_from slots (n + 1) count)

pub nth-listed_from : (slots : List (Option Entry)) (n count i : ℕ) → i < count → nth (listed_from slots n count) i ≡ numbered slots (n + i)
nth-listed_from slots n zero i within = absurd (omega arith)
nth-listed_from slots n (suc count) zero within = ap (numbered slots) (omega arith)
nth-listed_from slots n (suc count) (suc i) within = nth-listed_from slots (n + 1) count i (omega arith) ∙ ap (numbered slots) (omega arith)

pub nth-listed_past : (slots : List (Option Entry)) (n count i : ℕ) → count ≤ i → nth (listed_from slots n count) i ≡ None
nth-listed_past slots n zero i past = refl
nth-listed_past slots n (suc count) zero past = absurd (omega arith)
nth-listed_past slots n (suc count) (suc i) past = nth-listed_past slots (n + 1) count i (omega arith)

pub listed_from-same : (old new : List (Option Entry)) (n count : ℕ) → ((m : ℕ) → n ≤ m → m < n + count → numbered new m ≡ numbered old m) → listed_from new n count ≡ listed_from old n count
listed_from-same old new n zero same = refl
listed_from-same old new n (suc count) same =
    ap (λ (p : Option Pipe). p ∷ listed_from new (n + 1) count) (same n (omega arith) (omega arith))
    ∙ ap (λ (ps : Pipes). numbered old n ∷ ps) (listed_from-same old new (n + 1) count (λ m above below. same m (omega (arith, above)) (omega (arith, below))))

-- another pipe of one number
pub listed_from-set : (old new : List (Option Entry)) (n count i : ℕ) → ((m : ℕ) → m ≢ n + i → numbered new m ≡ numbered old m) → listed_from new n count ≡ set (listed_from old n count) i (numbered new (n + i))
listed_from-set old new n zero i same = refl
listed_from-set old new n (suc count) zero same =
    ap (λ (k : ℕ). numbered new k ∷ listed_from new (n + 1) count) (omega arith)
    ∙ ap (λ (ps : Pipes). numbered new (n + 0) ∷ ps) (listed_from-same old new (n + 1) count (λ m above below. same m (λ is. absurd (omega (arith, above, is)))))
listed_from-set old new n (suc count) (suc i) same =
    ap (λ (p : Option Pipe). p ∷ listed_from new (n + 1) count) (same n (λ is. absurd (omega (arith, is))))
    ∙ ap (λ (ps : Pipes). numbered old n ∷ ps) (listed_from-set old new (n + 1) count i (λ m other. same m (λ is. other (omega (arith, is)))))
    ∙ ap (λ (k : ℕ). numbered old n ∷ set (listed_from old (n + 1) count) i (numbered new k)) (omega arith)

-- one number more
pub listed_from-push : (slots : List (Option Entry)) (n count : ℕ) → listed_from slots n (suc count) ≡ listed_from slots n count ++ numbered slots (n + count) ∷ []
listed_from-push slots n zero = ap (λ (k : ℕ). numbered slots k ∷ []) (omega arith)
listed_from-push slots n (suc count) =
    ap (λ (ps : Pipes). numbered slots n ∷ ps)
    (listed_from-push slots (n + 1) count ∙ ap (λ (k : ℕ). listed_from slots (n + 1) count ++ numbered slots k ∷ []) (omega arith))

pub take-listed_from : (slots : List (Option Entry)) (n count : ℕ) → listed_from slots n count ≡ take count (listed_from slots n (suc count))
take-listed_from slots n zero = refl
take-listed_from slots n (suc count) = ap (λ (ps : Pipes). numbered slots n ∷ ps) (take-listed_from slots (n + 1) count)

module _ {A : Type 0} where
  pub IsSome-within : (all : List (Option A)) (n : ℕ) → IsSome (get_or all n None) → n < length all
  IsSome-within [] n there = absurd (true≢false (sym there))
  IsSome-within (x ∷ all) zero there = omega arith
  IsSome-within (x ∷ all) (suc n) there = omega (arith, IsSome-within all n there)

  pub get_or-nth : (all : List (Option A)) (n : ℕ) → get_or all n None ≡ nth all n
  get_or-nth [] n = refl
  get_or-nth (x ∷ all) zero = refl
  get_or-nth (x ∷ all) (suc n) = get_or-nth all n

  one : Option A → ℕ
  one x = cond (is_some x) 1 0

  how_many-set : (all : List (Option A)) (n : ℕ) (v : Option A) → IsSome (get_or all n None) → how_many (set all n v) + 1 ≡ how_many all + cond (is_some v) 1 0
  unfolding one
  how_many-set all n v there =
      ap (λ (b : Bool). how_many (set all n v) + cond b 1 0) (sym there)
      ∙ sum_by-set one all n v None (IsSome-within all n there)

  pub how_many-set_some : (all : List (Option A)) (n : ℕ) (a : A) → IsSome (get_or all n None) → how_many (set all n (Some a)) ≡ how_many all
  how_many-set_some all n a there = omega (arith, how_many-set all n (Some a) there)

  pub how_many-set_none : (all : List (Option A)) (n : ℕ) → IsSome (get_or all n None) → how_many (set all n None) + 1 ≡ how_many all
  how_many-set_none all n there = omega (arith, how_many-set all n None there)

  pub how_many-push : (all : List (Option A)) (a : A) → how_many (all ++ Some a ∷ []) ≡ how_many all + 1
  unfolding one
  how_many-push all a = sum_by-append one all (Some a ∷ [])

  pub how_many-push_none : (all : List (Option A)) → how_many (all ++ None ∷ []) ≡ how_many all
  unfolding one
  how_many-push_none all = omega (arith, sum_by-append one all (None ∷ []))
