-- Sets made of the operands' sets.
use Rattle.std.proofs.Common.{◌≡◌, ℕ, zero, suc, ◌<◌, List, [], ◌∷◌, ◌++◌, length, slice_index_or, map, flat_map, Contains, ap, sym, subst, ◌∙◌, inl, inr, refl, arith}
use Rattle.std.proofs.lemmas.Grind.{flat_map-append}
use Rattle.std.proofs.lemmas.List.{map-append}
use Rattle.std.proofs.lemmas.List.Elements.{Contains-append_left, Contains-append_right, Contains-append_cases}
use Rattle.rv64_model.specs.Carries.{Operand}
use Rattle.set_store.specs.declared.item.Item.{Item}
use Rattle.lineage_model.specs.Flow.{At, Location, Prior, operand_bytes}
use Rattle.lineage_model.specs.Tracking.{EventByte, gather}
use Rattle.taint_state.specs.Shown.{item_of}
use Rattle.taint_state.proofs.Result.{ResultsShow}

none_in : {X : Type 0} (x : X) → Contains [] x → ⊥
none_in x c = let below : c.0 < 0 = c.1 in omega arith

gather-prior : (given : At → List EventByte) (locations : Location → List EventByte) (ls : List Location) → gather given locations (map Prior ls) ≡ flat_map locations ls
gather-prior given locations [] = refl
gather-prior given locations (l ∷ ls) = ap (λ (rest : List EventByte). locations l ++ rest) (gather-prior given locations ls)

module _ (locations : Location → List EventByte) (lies : Operand → List Location) where
  abbrev one : Operand → List Item
  one operand = map item_of (flat_map locations (lies operand))

  abbrev all : List Operand → List Item
  all operands = map item_of (flat_map locations (flat_map lies operands))

  front : (operand : Operand) (operands : List Operand) → all (operand ∷ operands) ≡ one operand ++ all operands
  front operand operands =
      ap (λ (l : List EventByte). map item_of l) (flat_map-append locations (lies operand) (flat_map lies operands))
      ∙ map-append item_of (flat_map locations (lies operand)) (flat_map locations (flat_map lies operands))

  forth : (operands : List Operand) (item : Item) → Contains (all operands) item → (operand : Operand) × Contains operands operand × Contains (one operand) item
  forth [] item c = absurd (none_in item c)
  forth (x ∷ xs) item c = elim (Contains-append_cases (one x) (all xs) item (subst (λ l. Contains l item) (front x xs) c)) [
    | inl a ↦ (x, (0, omega arith, refl), a)
    | inr b ↦ (let found = forth xs item b in (found.0, (suc found.1.0, (let below : found.1.0 < length xs = found.1.1 in omega arith), found.1.2), found.2))
  ]

  back : (operands : List Operand) (k : ℕ) (operand : Operand) (item : Item) → k < length operands → slice_index_or operands k operand ≡ operand → Contains (one operand) item → Contains (all operands) item
  back [] k operand item h e c = absurd (omega arith)
  back (x ∷ xs) zero operand item h e c = subst (λ l. Contains l item) (sym (front x xs)) (Contains-append_left (one x) (all xs) item (subst (λ o. Contains (one o) item) (sym e) c))
  back (x ∷ xs) (suc k) operand item h e c = subst (λ l. Contains l item) (sym (front x xs)) (Contains-append_right (one x) (all xs) item (back xs k operand item (omega arith) e c))

pub results-show : ResultsShow
results-show = λ table pid instr place byte given locations old new number set show takes item.
    let lies = operand_bytes pid instr place in
    let same = ap (λ (l : List EventByte). map item_of l) (gather-prior given locations (flat_map lies (table instr byte))) in (
      λ h.
          let from = (takes.members item).0 h in
          subst (λ l. Contains l item) (sym same)
          (back locations lies (table instr byte) from.named.0 from.operand item from.named.1 from.named.2 ((show from.operand from.named item).0 from.member)),
      λ h.
          let found = forth locations lies (table instr byte) item (subst (λ l. Contains l item) same h) in
          (takes.members item).1 (record { operand = found.0; named = found.1; member = (show found.0 found.1 item).1 found.2 }),
    )
