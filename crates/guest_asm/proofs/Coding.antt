-- The bytes of statements that are made of instructions.
use Rattle.std.proofs.lemmas.Bool.Decides.{nat_tests}
use Rattle.std.proofs.Common.{◌≡◌, ◌++◌, ℕ, List, sym, subst, append_assoc, Bor, option_to_list, flat_map, arith}
use Rattle.std.proofs.lemmas.Grind.{flat_map-append}
use Rattle.guest_asm.specs.Meanings as meanings
use Rattle.guest_asm.specs.Meanings.{code, instructions}
use Rattle.guest_asm.specs.Encodable.{IsCodeOf, IsEncodable}
use Rattle.asm_text.specs.Seen.{Keeps}
use Rattle.asm_text.specs.Statements as says
use Rattle.guest_asm.specs.declared.encoding.Code.{Code}
use Rattle.asm_text.specs.declared.statement.Number.{Number}
use Rattle.asm_text.specs.declared.statement.Statement.{Statement}
use Rattle.asm_text.specs.declared.statement.Statement.TheVariants as kept

abbrev HasCode : says.Statement → ℕ → ℕ → Type 0
HasCode s from to = meanings.bytes s from to ≡ flat_map code (instructions s from to)

has_code : (k : Statement) (s : says.Statement) (from to : ℕ) → Keeps k s → ((x : Bor (List ℕ)) → k ≡ kept.Bytes x → ⊥) → ((x : Number) → k ≡ kept.Zeros x → ⊥) → HasCode s from to
has_code k s from to h1 h2 h3 = grind (arith, nat_tests)

pub pushed_code : (k : Statement) (s : says.Statement) (from to : ℕ) (old middle new : List ℕ) (c : Code) → Keeps k s →
    ((x : Bor (List ℕ)) → k ≡ kept.Bytes x → ⊥) → ((x : Number) → k ≡ kept.Zeros x → ⊥) → IsCodeOf c s from to →
    middle ≡ old ++ flat_map code (option_to_list c.first) → new ≡ middle ++ flat_map code (option_to_list c.second) → new ≡ old ++ meanings.bytes s from to
pushed_code k s from to old middle new c h1 h2 h3 h4 h5 h6 = grind (arith, nat_tests, has_code, flat_map-append, append_assoc)

pub code_of_address : (k : Statement) (rd : ℕ) (label : Bor (List ℕ)) (from to : ℕ) (c : Code) → k ≡ kept.Address rd label →
    ((name : List ℕ) (at : ℕ) → IsEncodable (says.Address rd name) at to → IsCodeOf c (says.Address rd name) at to) →
    (s : says.Statement) → Keeps k s → IsEncodable s from to → IsCodeOf c s from to
code_of_address k rd label from to c e told s h fits =
    let is : s ≡ says.Address rd label.now = subst (λ (k : Statement). Keeps k s) e h in
    subst (λ (s : says.Statement). IsCodeOf c s from to) (sym is) (told label.now from (subst (λ (s : says.Statement). IsEncodable s from to) is fits))
