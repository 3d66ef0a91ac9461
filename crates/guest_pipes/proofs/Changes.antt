-- Pipes after the entry of one changes.
use Rattle.std.proofs.Common.{◌≡◌, ◌≢◌, ◌⊎◌, inl, inr, ℕ, zero, suc, ◌+◌, ◌<◌, ◌≤◌, ◌||◌, Bool, true, false, cond, List, [], ◌∷◌, ◌++◌, length, get_or, set, Option, None, Some, IsSome, is_some, Result, Ok, Err, OnOk, IfSome, IfNone, take, true≢false, refl, sym, ap, subst, ◌∙◌, arith, zero-add, add-one, option_and_then, option_map}
use Rattle.std.proofs.lemmas.Bool.{cases_eq, cases_lt}
use Rattle.slab.specs.Slab.{Slab, get, slab_len, with_value, Updates}
use Rattle.slab.proofs.SlabLemmas.{Updates-with_value}
use Rattle.parts_model.specs.Numbered.{how_many, nth}
use Rattle.parts_model.specs.Pipes.{End, Pipe, Pipes, end_closed, if_open, with_change, without_end}
use Rattle.guest_pipes.specs.declared.entries.Entry.{Entry}
use Rattle.guest_pipes.specs.Table.{HasNumber, IsSound, listed, numbered}
use Rattle.guest_pipes.proofs.Listed.{get_or-nth, how_many-push, how_many-push_none, how_many-set_none, how_many-set_some, length-listed_from, listed_from-push, listed_from-same, listed_from-set, nth-listed_from, nth-listed_past, numbered-at, numbered-none, numbered-same, pipe_of, take-listed_from}

-- an entry has one number
same_number : (n m : ℕ) (o : Option Entry) → HasNumber n o → HasNumber m o → m ≡ n
same_number n m None has has' = absurd has
same_number n m (Some e) has has' = sym has' ∙ has

-- what is listed under a number
pub nth-listed : (slots : List (Option Entry)) (made n : ℕ) → IsSound slots made → nth (listed slots made) n ≡ numbered slots n
nth-listed slots made n s =
    elim (cases_lt n made) [
      | inl within ↦ nth-listed_from slots 0 made n within ∙ ap (numbered slots) (zero-add n)
      | inr past ↦
          nth-listed_past slots 0 made n past
          ∙ sym (numbered-none slots n (λ key here. let given = s.given key n here in absurd (omega (arith, given, past))))
    ]

-- the pipe of an entry stands under its number
pub nth-at : (s : Slab Entry) (made key n : ℕ) (e : Entry) → get s key ≡ Some e → HasNumber n (get s key) → IsSound s.slots made → nth (listed s.slots made) n ≡ Some e.pipe
nth-at s made key n e is had sound = nth-listed s.slots made n sound ∙ numbered-at s.slots key n had (λ k o. sound.once k o n) ∙ ap pipe_of is

has_pipe : (n : ℕ) (o : Option Entry) → HasNumber n o → IsSome (pipe_of o)
has_pipe n None has = absurd has
has_pipe n (Some e) has = refl

-- a number that an entry has is that of a pipe that is there
pub nth-has : (s : Slab Entry) (made key n : ℕ) → HasNumber n (get s key) → IsSound s.slots made → IsSome (nth (listed s.slots made) n)
nth-has s made key n was sound =
    subst IsSome (sym (nth-listed s.slots made n sound ∙ numbered-at s.slots key n was (λ k o. sound.once k o n))) (has_pipe n (get s key) was)

module _ (s t : Slab Entry) (key : ℕ) (x : Option Entry) (updates : Updates s t key x) where
  -- a key other than the changed one keeps its numbers
  number-kept : (k n : ℕ) → k ≢ key → HasNumber n (get t k) → HasNumber n (get s k)
  number-kept k n differs here = subst (HasNumber n) (updates.others k differs) here

  number-here : (k n : ℕ) → k ≡ key → HasNumber n (get t k) → HasNumber n x
  number-here k n same here = subst (HasNumber n) (ap (get t) same ∙ updates.changed) here

  module _ (made n : ℕ) (was : HasNumber n (get s key)) (no_other : (m : ℕ) → HasNumber m x → m ≡ n) (sound : IsSound s.slots made) where
    number-back : (k m : ℕ) → HasNumber m (get t k) → HasNumber m (get s k)
    number-back k m here =
        elim (cases_eq k key) [
          | inl same ↦
              subst (λ (j : ℕ). HasNumber m (get s j)) (sym same) (subst (λ (i : ℕ). HasNumber i (get s key)) (sym (no_other m (number-here k m same here))) was)
          | inr differs ↦ number-kept k m differs here
        ]

    given-back : (k m : ℕ) → HasNumber m (get t k) → m < made
    given-back k m here = sound.given k m (number-back k m here)

    once-back : (k o m : ℕ) → HasNumber m (get t k) → HasNumber m (get t o) → k ≡ o
    once-back k o m here there = sound.once k o m (number-back k m here) (number-back o m there)

    pub numbered-other : (m : ℕ) → m ≢ n → numbered t.slots m ≡ numbered s.slots m
    numbered-other m other =
        let kept : (k : ℕ) → HasNumber m (get s k) → get t k ≡ get s k =
        λ k here. updates.others k (λ same. other (same_number n m (get s key) was (subst (λ (j : ℕ). HasNumber m (get s j)) same here))) in
        numbered-same s.slots t.slots m (λ k o. sound.once k o m) (λ k o. once-back k o m) kept (λ k here. kept k (number-back k m here))

    listed-set : listed t.slots made ≡ set (listed s.slots made) n (numbered t.slots n)
    listed-set =
        listed_from-set s.slots t.slots 0 made n (λ m other. numbered-other m (λ is. other (is ∙ sym (zero-add n))))
        ∙ ap (λ (i : ℕ). set (listed s.slots made) n (numbered t.slots i)) (zero-add n)

    was-listed : IsSome (get_or (listed s.slots made) n None)
    was-listed = subst IsSome (sym (get_or-nth (listed s.slots made) n)) (nth-has s made key n was sound)

-- another pipe under the same number
module _ (s : Slab Entry) (made key n : ℕ) (e e' : Entry) (is : get s key ≡ Some e) (had : HasNumber n (get s key)) (kept : e'.number ≡ e.number) (sound : IsSound s.slots made) where
  changes : Updates s (with_value s key e') key (Some e')
  changes = Updates-with_value s key e' (ap is_some is)

  number' : e'.number ≡ n
  number' = kept ∙ subst (HasNumber n) is had

  pub has_number : HasNumber n (get (with_value s key e') key)
  has_number = subst (HasNumber n) (sym changes.changed) number'

  only : (m : ℕ) → HasNumber m (Some e') → m ≡ n
  only m has = sym has ∙ number'

  numbered-now : numbered (with_value s key e').slots n ≡ Some e'.pipe
  numbered-now =
      numbered-at (with_value s key e').slots key n has_number (λ k o. once-back s (with_value s key e') key (Some e') changes made n had only sound k o n)
      ∙ ap pipe_of changes.changed

  pub listed-changed : listed (with_value s key e').slots made ≡ set (listed s.slots made) n (Some e'.pipe)
  listed-changed =
      listed-set s (with_value s key e') key (Some e') changes made n had only sound
      ∙ ap (set (listed s.slots made) n) numbered-now

  pub IsSound-changed : IsSound (with_value s key e').slots made
  IsSound-changed = record {
    given = given-back s (with_value s key e') key (Some e') changes made n had only sound;
    once = once-back s (with_value s key e') key (Some e') changes made n had only sound;
    counted =
        how_many-set_some s.slots key e' (ap is_some is)
        ∙ sound.counted
        ∙ sym (ap how_many listed-changed ∙ how_many-set_some (listed s.slots made) n e'.pipe (was-listed s (with_value s key e') key (Some e') changes made n had only sound));
  }

-- a pipe fewer
module _ (s t : Slab Entry) (made key n : ℕ) (updates : Updates s t key None) (fewer : slab_len t + 1 ≡ slab_len s) (was : HasNumber n (get s key)) (sound : IsSound s.slots made) where
  gone : (m : ℕ) → HasNumber m None → m ≡ n
  gone m has = absurd has

  pub numbered-gone : numbered t.slots n ≡ None
  numbered-gone =
      numbered-none t.slots n (λ k here.
      let same : k ≡ key = sound.once k key n (number-back s t key None updates made n was gone sound k n here) was in
      number-here s t key None updates k n same here)

  pub listed-removed : listed t.slots made ≡ set (listed s.slots made) n None
  listed-removed = listed-set s t key None updates made n was gone sound ∙ ap (set (listed s.slots made) n) numbered-gone

  pub IsSound-removed : IsSound t.slots made
  IsSound-removed =
      let now : how_many (listed t.slots made) ≡ how_many (set (listed s.slots made) n None) = ap how_many listed-removed in
      record {
        given = given-back s t key None updates made n was gone sound;
        once = once-back s t key None updates made n was gone sound;
        counted = omega (arith, fewer, sound.counted, how_many-set_none (listed s.slots made) n (was-listed s t key None updates made n was gone sound), now);
      }

-- a pipe more
module _ (s t : Slab Entry) (made key : ℕ) (e : Entry) (updates : Updates s t key (Some e)) (more : slab_len t ≡ slab_len s + 1) (vacant : get s key ≡ None) (next : e.number ≡ made) (sound : IsSound s.slots made) where
  not_vacant : (k m : ℕ) → HasNumber m (get s k) → k ≢ key
  not_vacant k m here = λ same. subst (HasNumber m) (ap (get s) same ∙ vacant) here

  given-more : (k m : ℕ) → HasNumber m (get t k) → m < made + 1
  given-more k m here =
      elim (cases_eq k key) [
        | inl same ↦ let is : e.number ≡ m = number-here s t key (Some e) updates k m same here in omega (arith, is, next)
        | inr differs ↦ let given = sound.given k m (number-kept s t key (Some e) updates k m differs here) in omega (arith, given)
      ]

  apart : (k o m : ℕ) → k ≡ key → o ≢ key → HasNumber m (get t k) → HasNumber m (get t o) → ⊥
  apart k o m same differs here there =
      let is : e.number ≡ m = number-here s t key (Some e) updates k m same here in
      absurd (omega (arith, is, next, sound.given o m (number-kept s t key (Some e) updates o m differs there)))

  once-more : (k o m : ℕ) → HasNumber m (get t k) → HasNumber m (get t o) → k ≡ o
  once-more k o m here there =
      elim (cases_eq k key) [
        | inl same ↦
            elim (cases_eq o key) [
              | inl same' ↦ same ∙ sym same'
              | inr differs' ↦ absurd (apart k o m same differs' here there)
            ]
        | inr differs ↦
            elim (cases_eq o key) [
              | inl same' ↦ absurd (apart o k m same' differs there here)
              | inr differs' ↦
                  sound.once k o m (number-kept s t key (Some e) updates k m differs here) (number-kept s t key (Some e) updates o m differs' there)
            ]
      ]

  numbered-before : (m : ℕ) → m < made → numbered t.slots m ≡ numbered s.slots m
  numbered-before m before =
      numbered-same s.slots t.slots m (λ k o. sound.once k o m) (λ k o. once-more k o m)
      (λ k here. updates.others k (not_vacant k m here))
      (λ k here. updates.others k (λ same. let is : e.number ≡ m = number-here s t key (Some e) updates k m same here in absurd (omega (arith, is, next, before))))

  has_next : HasNumber made (get t key)
  has_next = subst (HasNumber made) (sym updates.changed) next

  pub listed-made : listed t.slots (made + 1) ≡ listed s.slots made ++ Some e.pipe ∷ []
  listed-made =
      ap (listed t.slots) (add-one made)
      ∙ listed_from-push t.slots 0 made
      ∙ ap (λ (ps : Pipes). ps ++ numbered t.slots (0 + made) ∷ []) (listed_from-same s.slots t.slots 0 made (λ m above below. numbered-before m (omega (arith, below))))
      ∙ ap (λ (i : ℕ). listed s.slots made ++ numbered t.slots i ∷ []) (zero-add made)
      ∙ ap (λ (p : Option Pipe). listed s.slots made ++ p ∷ []) (numbered-at t.slots key made has_next (λ k o. once-more k o made) ∙ ap pipe_of updates.changed)

  pub IsSound-made : IsSound t.slots (made + 1)
  IsSound-made =
      let now : how_many (listed t.slots (made + 1)) ≡ how_many (listed s.slots made ++ Some e.pipe ∷ []) = ap how_many listed-made in
      record { given = given-more; once = once-more; counted = omega (arith, more, sound.counted, how_many-push (listed s.slots made) e.pipe, now) }

-- how many were made
pub length-listed : (slots : List (Option Entry)) (made : ℕ) → length (listed slots made) ≡ made
length-listed slots made = length-listed_from slots 0 made

-- one that isn't there is left out
pub set-none : (all : Pipes) (i : ℕ) → nth all i ≡ None → set all i None ≡ all
set-none [] i is = refl
set-none (x ∷ all) zero is = ap (λ (y : Option Pipe). y ∷ all) (sym is)
set-none (x ∷ all) (suc i) is = ap (λ (l : Pipes). x ∷ l) (set-none all i is)

-- a pipe is there exactly where its number is
pub there-numbered : (ps : Pipes) (slots : List (Option Entry)) (made n : ℕ) → listed slots made ≡ ps → IsSound slots made → IsSome (nth ps n) → IsSome (numbered slots n)
there-numbered ps slots made n seen sound there = subst IsSome (sym (ap (λ (all : Pipes). nth all n) seen) ∙ nth-listed slots made n sound) there

module _ (ps : Pipes) (s : Slab Entry) (made key n : ℕ) (e : Entry) (seen : listed s.slots made ≡ ps) (is : get s key ≡ Some e) (had : HasNumber n (get s key)) (sound : IsSound s.slots made) where
  pub found-at : nth ps n ≡ Some e.pipe
  found-at = sym (ap (λ (all : Pipes). nth all n) seen) ∙ nth-at s made key n e is had sound

  -- a fact of the pipe is one of what is found
  pub at-found : (P : Option Pipe → Type 0) → P (Some e.pipe) → P (nth ps n)
  at-found P holds = subst P (sym found-at) holds

  pub set-at : (p : Pipe) → listed (with_value s key (record { number = e.number; pipe = p })).slots made ≡ set ps n (Some p)
  set-at p =
      listed-changed s made key n e (record { number = e.number; pipe = p }) is had refl sound
      ∙ ap (λ (all : Pipes). set all n (Some p)) seen

  -- a change of the pipe
  pub changed-at : (change : Pipe → Pipe) (p : Pipe) → p ≡ change e.pipe → listed (with_value s key (record { number = e.number; pipe = p })).slots made ≡ with_change ps n change
  changed-at change p same =
      set-at p
      ∙ ap (λ (q : Pipe). set ps n (Some q)) same
      ∙ ap (λ (o : Option Pipe). set ps n (option_map change o)) (sym found-at)

  -- an end fewer
  pub closed-at : (new : Pipes) (end : End) (o : Option Pipe) → o ≡ without_end end e.pipe → new ≡ set ps n o → new ≡ end_closed ps n end
  closed-at new end o same is_set =
      is_set
      ∙ ap (λ (p : Option Pipe). set ps n p) same
      ∙ ap (λ (p : Option Pipe). set ps n (option_and_then (without_end end) p)) (sym found-at)

-- an end of a pipe that isn't there
pub end_closed-absent : (ps : Pipes) (n : ℕ) (end : End) → nth ps n ≡ None → ps ≡ end_closed ps n end
end_closed-absent ps n end none = sym (ap (λ (p : Option Pipe). set ps n (option_and_then (without_end end) p)) none ∙ set-none ps n none)

pub set-set : (all : Pipes) (n : ℕ) (p q : Option Pipe) → set (set all n p) n q ≡ set all n q
set-set [] n p q = refl
set-set (x ∷ all) zero p q = refl
set-set (x ∷ all) (suc n) p q = ap (λ (l : Pipes). x ∷ l) (set-set all n p q)

pub OnOk-map : {T E : Type 0} (r : Result T E) (P Q : Type 0) → (P → Q) → OnOk r P → OnOk r Q
OnOk-map (Ok v) P Q f h = f h
OnOk-map (Err e) P Q f h = tt

-- whether an end is open still
pub if_open-not : (p : Pipe) → p.has_reader || p.has_writer ≡ false → if_open p ≡ None
if_open-not p is = ap (λ (b : Bool). cond b (Some p) None) is

pub if_open-still : (p : Pipe) → p.has_reader || p.has_writer ≡ true → if_open p ≡ Some p
if_open-still p is = ap (λ (b : Bool). cond b (Some p) None) is

-- a key is found exactly where the pipe is there
pub found-there : (ps : Pipes) (s : Slab Entry) (made n : ℕ) → listed s.slots made ≡ ps → IsSound s.slots made → (o : Option ℕ) → IfSome o (λ key. HasNumber n (get s key)) → IfNone o (numbered s.slots n ≡ None) → is_some o ≡ is_some (nth ps n)
found-there ps s made n seen sound None found gone =
    sym (ap is_some (sym (ap (λ (all : Pipes). nth all n) seen) ∙ nth-listed s.slots made n sound ∙ gone))
found-there ps s made n seen sound (Some key) found gone =
    sym (ap (λ (all : Pipes). is_some (nth all n)) (sym seen) ∙ nth-has s made key n found sound)

-- the pipes without the last number, whose pipe is gone
module _ (slots : List (Option Entry)) (made m : ℕ) (is : made ≡ m + 1) (none : numbered slots m ≡ None) (sound : IsSound slots made) where
  pub listed-shorter : listed slots m ≡ take m (listed slots made)
  listed-shorter = take-listed_from slots 0 m ∙ ap (λ (k : ℕ). take m (listed slots k)) (sym (is ∙ add-one m))

  pub IsSound-shorter : IsSound slots m
  IsSound-shorter =
      let all : listed slots made ≡ listed slots m ++ None ∷ [] =
      ap (listed slots) (is ∙ add-one m) ∙ listed_from-push slots 0 m ∙ ap (λ (p : Option Pipe). listed slots m ++ p ∷ []) (ap (numbered slots) (zero-add m) ∙ none) in
      let now : how_many (listed slots made) ≡ how_many (listed slots m ++ None ∷ []) = ap how_many all in
      record {
        given = λ key n here. below key n here (cases_eq n m);
        once = sound.once;
        counted = omega (arith, sound.counted, now, how_many-push_none (listed slots m));
      }
    where
      below : (key n : ℕ) → HasNumber n (get_or slots key None) → (n ≡ m) ⊎ (n ≢ m) → n < m
      below key n here (inl same) =
          let has : HasNumber m (get_or slots key None) = subst (λ (k : ℕ). HasNumber k (get_or slots key None)) same here in
          absurd (true≢false (sym (has_pipe m (get_or slots key None) has) ∙ ap is_some (sym (numbered-at slots key m has (λ k o. sound.once k o m)) ∙ none)))
      below key n here (inr other) =
          strictly (cases_lt n m) (sound.given key n here)
        where
          strictly : (n < m) ⊎ (m ≤ n) → n < made → n < m
          strictly (inl less) before = less
          strictly (inr more) before = absurd (other (omega (arith, is, more, before)))

-- the pipes without the last, of which an entry was taken away
pub listed-taken : (s t : Slab Entry) (made m key : ℕ) (is : made ≡ m + 1) (updates : Updates s t key None) (was : HasNumber m (get s key)) (sound : IsSound s.slots made) → listed t.slots m ≡ take m (listed s.slots made)
listed-taken s t made m key is updates was sound =
    listed_from-same s.slots t.slots 0 m (λ n above below. numbered-other s t key None updates made m was (λ k has. absurd has) sound n (λ same. absurd (omega (arith, same, below))))
    ∙ take-listed_from s.slots 0 m ∙ ap (λ (k : ℕ). take m (listed s.slots k)) (sym (is ∙ add-one m))
