-- One slice that is picked, and what devices reply.
use Rattle.std.proofs.Common.{◌≡◌, ℕ, zero, suc, ◌+◌, ◌++◌, List, [], ◌∷◌, Option, Some, None, IfSome, option_map, slice_get, refl, sym, ap, ◌∙◌, subst, arith, zero-add}
use Rattle.arn_base.specs.declared.boxes.Choice.{Choice}
use Rattle.parts_model.specs.Replies.{Answered}
use Rattle.guest_devices.specs.Answers.{Asked}
use Rattle.guest_legs.specs.Legs.{Ask, Picked, PickedBy, brought}
use Rattle.guest_legs.specs.declared.leg.Pick.{Pick}
use Rattle.guest_machine.specs.Legs.{RepliedBy}
use Rattle.guest_machine.specs.Slices.{RepliesIn}

-- the k-th slice is the k-th choice brought into range
abbrev IsPicked : Option Choice → List Ask → List Picked → ℕ → Type 0
IsPicked told asks slices k = IfSome told (λ choice. option_map (λ s. s.pick) (slice_get slices k) ≡ option_map (λ ask. brought ask choice) (slice_get asks k))

pub PickedBy-none : (c : ℕ → Option Choice) → PickedBy c c [] []
PickedBy-none c = record { many = refl; each = λ k. nothing (c k) k; later = λ k. ap c (sym (zero-add k)) }
  where
    nothing : (o : Option Choice) (k : ℕ) → IsPicked o [] [] k
    nothing None k = tt
    nothing (Some choice) k = refl

pub PickedBy-one : (a b : ℕ → Option Choice) (ask : Ask) (s : Picked) → IfSome (a 0) (λ choice. s.pick ≡ brought ask choice) → ((k : ℕ) → b k ≡ a (k + 1)) → PickedBy a b (ask ∷ []) (s ∷ [])
PickedBy-one a b ask s is later = record { many = refl; each = λ k. each k; later = λ k. later k ∙ ap a (omega arith) }
  where
    first : (o : Option Choice) → IfSome o (λ choice. s.pick ≡ brought ask choice) → IsPicked o (ask ∷ []) (s ∷ []) 0
    first None h = tt
    first (Some choice) h = ap (λ (x : Pick). Some x) h

    past : (o : Option Choice) (k : ℕ) → IsPicked o (ask ∷ []) (s ∷ []) (suc k)
    past None k = tt
    past (Some choice) k = refl

    each : (k : ℕ) → IsPicked (a k) (ask ∷ []) (s ∷ []) k
    each zero = first (a 0) is
    each (suc k) = past (a (suc k)) k

-- replies that follow others
pub RepliedBy-append : {A : Type 0} (answers : A → Asked → Answered → A → Type 0) (old between new : A) (asks more : List Ask) (xs ys : List Picked) → RepliedBy answers asks xs old between → RepliedBy answers more ys between new → RepliedBy answers (asks ++ more) (xs ++ ys) old new
RepliedBy-append {A} answers old between new [] more xs ys p q =
    subst (λ (zs : List Picked). RepliedBy answers more (zs ++ ys) old new) (sym p.0) (subst (λ (a : A). RepliedBy answers more ys a new) p.1 q)
RepliedBy-append answers old between new (ask ∷ asks) more [] ys p q = absurd p
RepliedBy-append answers old between new (ask ∷ asks) more (x ∷ xs) ys p q =
    (p.0, p.1, RepliedBy-append answers p.0 between new asks more xs ys p.2 q)

pub RepliedBy-one : {A : Type 0} (answers : A → Asked → Answered → A → Type 0) (old new : A) (ask : Ask) (s : Picked) → RepliesIn answers s.pick.count s.pick.pid ask.machine s.reply old new → RepliedBy answers (ask ∷ []) (s ∷ []) old new
RepliedBy-one answers old new ask s replied = (new, replied, (refl, refl))
