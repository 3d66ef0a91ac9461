-- The live processes of a list of processes.
use Rattle.std.proofs.lemmas.Grind.{common_steps}
use Rattle.std.proofs.lemmas.Bool.Decides.{nat_tests}
use Rattle.std.proofs.Common.{◌≡◌, ◌<◌, ◌≤◌, ◌-◌, ℕ, zero, suc, ◌+◌, false, List, [], ◌∷◌, length, filter, cond, Option, Some, None, is_some, refl, ap, sym, ◌∙◌, arith, Bool, true, ◌⊎◌, inl, inr}
use Rattle.std.specs.List.{range_with_len}
use Rattle.std.proofs.lemmas.Option.{slice_get_past}
use Rattle.std.proofs.lemmas.Bool.{false_from_ne_true, cases_Bool}
use Rattle.parts_model.specs.Numbered.{nth}
use Rattle.guest_bodies.specs.Shown.{Guests, IsLive}
use Rattle.arn_base.specs.declared.records.Record.{Record}
use Rattle.history_index.specs.Lookups.{members_of}
use Rattle.history_model.specs.Broken.{Nowhere, first_broken, greatest, Behind, behind_record, greatest_after, greatest_from}
use Rattle.history_model.specs.Groups.{group_of, Groups, groups_from, groups_told, is_number}
use Rattle.replayer.specs.Lives.{live_in}
use Rattle.replayer.specs.Parts.{LivesIn}
use Rattle.replayer.proofs.Own.{kept-all, same-test, told-above}
use Rattle.replayer.proofs.Sound.{sound, Sound, grows-all}

-- those with numbers from one on, so many
abbrev pub lives_from : Guests → ℕ → ℕ → List ℕ
lives_from guests a n = filter (λ p. is_some (nth guests p)) (range_with_len a n)

module _ (guests : Guests) where
  none-live : (a k : ℕ) → ((p : ℕ) → a ≤ p → IsLive guests p → ⊥) → lives_from guests a k ≡ []
  none-live a zero dead = refl
  none-live a (suc k) dead =
      let here : is_some (nth guests a) ≡ false = false_from_ne_true (is_some (nth guests a)) (dead a (omega arith)) in
      rw here (none-live (a + 1) k (λ p le live. dead p (omega arith) live))

  lives-cut : (a n k : ℕ) → ((p : ℕ) → a + n ≤ p → IsLive guests p → ⊥) → lives_from guests a (n + k) ≡ lives_from guests a n
  lives-cut a zero k dead =
      let same : zero + k ≡ k = omega arith in
      ap (lives_from guests a) same ∙ none-live a k (λ p le live. dead p (omega arith) live)
  lives-cut a (suc n) k dead =
      let same : suc n + k ≡ suc (n + k) = omega arith in
      let rest = lives-cut (a + 1) n k (λ p le live. dead p (omega arith) live) in
      ap (lives_from guests a) same ∙ ap (λ (ps : List ℕ). cond (is_some (nth guests a)) (a ∷ ps) ps) rest

  lives-within : (n m : ℕ) → n ≤ m → ((p : ℕ) → IsLive guests p → p < n) → lives_from guests 0 m ≡ lives_from guests 0 n
  lives-within n m le below =
      let same : m ≡ n + (m - n) = omega arith in
      ap (lives_from guests 0) same ∙ lives-cut 0 n (m - n) (λ p past live. let lt = below p live in omega arith)

  below-length : (p : ℕ) → IsLive guests p → p < length guests
  below-length p h1 = grind (arith, nat_tests, slice_get_past)

  -- all of them have numbers below one
  pub lives-below : (n : ℕ) → ((p : ℕ) → IsLive guests p → p < n) → lives_from guests 0 n ≡ live_in guests
  lives-below n h1 = grind (arith, nat_tests, lives-within, below-length)

-- those of which each passes another test too
filter-both : (live own : ℕ → Bool) (xs : List ℕ) → ((p : ℕ) → live p ≡ true → own p ≡ true) → filter live (filter own xs) ≡ filter live xs
filter-both live own [] passes = refl
filter-both live own (x ∷ xs) passes =
    let rest = filter-both live own xs passes in
    elim (cases_Bool (own x)) [
      | inl is ↦
          ap (λ (b : Bool). filter live (cond b (x ∷ filter own xs) (filter own xs))) is
          ∙ ap (λ (ys : List ℕ). cond (live x) (x ∷ ys) ys) rest
      | inr isnt ↦
          let dead : live x ≡ false = false_from_ne_true (live x) (λ is. absurd (let no : true ≡ false = sym (passes x is) ∙ isnt in cc)) in
          ap (λ (b : Bool). filter live (cond b (x ∷ filter own xs) (filter own xs))) isnt
          ∙ (rest ∙ sym (ap (λ (b : Bool). cond b (x ∷ filter live xs) (filter live xs)) dead))
    ]

-- a number that no process has is of no group
above-all : (entries : List Record) (b : Behind) (n : ℕ) (groups : Groups) (p : ℕ) → Sound b n entries → greatest_from n entries < p → groups_from entries groups p ≡ groups p
above-all [] b n groups p sound lt = refl
above-all (e ∷ entries) b n groups p sound lt =
    let up = grows-all entries (greatest_after e n) in
    above-all entries (behind_record b e) (greatest_after e n) (groups_told e groups) p sound.1 lt ∙ told-above b n e groups p sound.0 (omega (arith, up, lt))

none-some : (g : ℕ) (o : Option ℕ) → o ≡ None → o ≡ Some g → ⊥
none-some g o none some = let no : None ≡ Some g = sym none ∙ some in cc

split : (p n : ℕ) → (p ≤ n) ⊎ (n < p)
split p n = grind (arith, common_steps, nat_tests)

-- where the live processes are of a group, they are its members that live
module _ (entries : List Record) (g most : ℕ) (guests : Guests) (stands : first_broken entries ≡ None) (lives : LivesIn entries (Some g) most guests) where
  made : (p : ℕ) → IsLive guests p → p < greatest entries + 1
  made p live =
      elim (split p (greatest entries)) [
        | inl le ↦ omega (arith, le)
        | inr lt ↦ absurd (none-some g (group_of entries p) (above-all entries Nowhere 0 (λ q. None) p (sound entries stands) lt) (lives.member p live))
      ]

  no-zero : is_some (nth guests 0) ≡ false
  no-zero = false_from_ne_true (is_some (nth guests 0)) (λ live. none-some g (group_of entries 0) (kept-all entries Nowhere 0 (λ q. None) 0 (sound entries stands) (omega arith)) (lives.member 0 live))

  pub members-live : filter (λ p. is_some (nth guests p)) (members_of entries g) ≡ live_in guests
  members-live =
      let one : greatest entries + 1 ≡ suc (greatest entries) = omega arith in
      filter-both (λ p. is_some (nth guests p)) (λ p. is_number g (group_of entries p)) (range_with_len 1 (greatest entries)) (λ p live. ap (is_number g) (lives.member p live) ∙ same-test g g refl)
      ∙ (sym (ap (λ (b : Bool). cond b (0 ∷ lives_from guests 1 (greatest entries)) (lives_from guests 1 (greatest entries))) no-zero)
      ∙ (sym (ap (lives_from guests 0) one) ∙ lives-below guests (greatest entries + 1) made))
