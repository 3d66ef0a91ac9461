-- Which slots hold a device behind an answer, and behind an unplugging.
use Rattle.std.specs.Prelude.{◌≡◌, ◌≢◌, ◌⊎◌, ℕ, Bool, true, false, ◌&&◌, ◌==◌, not, List, Option, is_some, slice_get, option_and_then, refl}
use Rattle.std.proofs.Common.{sym, ap, ◌∙◌, subst, inl, inr}
use Rattle.std.proofs.lemmas.Bool.Decides.{eqb_tells}
use Rattle.arn_base.specs.Device.{DeviceReply, Room}
use Rattle.parts_model.specs.Replies.{Answered}
use Rattle.guest_devices.specs.Answers.{Asked, Here, Reads, Writes}
use Rattle.guest_devices.specs.Slots.{SlotAnswers, UnplugsSlot, is_filled}

elsewhere : {D : Type 0} (m n : ℕ) (old new : List (Option D)) → m ≢ n → ((k : ℕ) → k ≢ m → slice_get new k ≡ slice_get old k) → is_filled new n ≡ is_filled old n
elsewhere {D} m n old new other others = ap (λ (slot : Option (Option D)). is_some (option_and_then (λ s. s) slot)) (others n (λ is. other (sym is)))

at_or_else : {D : Type 0} (m n : ℕ) (old new : List (Option D)) → is_filled new m ≡ is_filled old m → ((k : ℕ) → k ≢ m → slice_get new k ≡ slice_get old k) → is_filled new n ≡ is_filled old n
at_or_else {D} m n old new stays others = cases (eqb_tells m n)
  where
    cases : (((m == n) ≡ true) × (m ≡ n)) ⊎ (((m == n) ≡ false) × (m ≢ n)) → is_filled new n ≡ is_filled old n
    cases (inl is) = subst (λ (k : ℕ). is_filled new k ≡ is_filled old k) is.1 stays
    cases (inr is) = elsewhere m n old new is.1 others

-- an answer leaves each slot filled that is, and no other
pub answers-filled : {D : Type 0} (replies : D → ℕ → Option DeviceReply) (room : D → Option Room) (took : D → Option (List ℕ)) (put_faults : D → ℕ → Option Bool)
    (asked : Asked) (answer : Answered) (old new : List (Option D)) → SlotAnswers replies room took put_faults asked answer old new → (n : ℕ) → is_filled new n ≡ is_filled old n
answers-filled {D} replies room took put_faults (Here m) answer old new h n = ap (λ (slots : List (Option D)). is_filled slots n) h.1
answers-filled replies room took put_faults (Reads m len) answer old new h n = at_or_else m n old new h.stays h.others
answers-filled replies room took put_faults (Writes m bytes) answer old new h n = at_or_else m n old new h.stays h.others

and-true : (a : Bool) → a ≡ (a && true)
and-true true = refl
and-true false = refl

and-false : (a : Bool) → false ≡ (a && false)
and-false true = refl
and-false false = refl

-- the slot that is unplugged is empty, and each other is filled as it was
pub unplugs-filled : {D : Type 0} (m : ℕ) (old new : List (Option D)) → UnplugsSlot m old new → (n : ℕ) → is_filled new n ≡ (is_filled old n && not (m == n))
unplugs-filled {D} m old new h n = cases (eqb_tells m n)
  where
    cases : (((m == n) ≡ true) × (m ≡ n)) ⊎ (((m == n) ≡ false) × (m ≢ n)) → is_filled new n ≡ (is_filled old n && not (m == n))
    cases (inl is) = subst (λ (k : ℕ). is_filled new k ≡ false) is.1 h.gone ∙ and-false (is_filled old n) ∙ ap (λ (b : Bool). is_filled old n && not b) (sym is.0)
    cases (inr is) = elsewhere m n old new is.1 h.others ∙ and-true (is_filled old n) ∙ ap (λ (b : Bool). is_filled old n && not b) (sym is.0)
