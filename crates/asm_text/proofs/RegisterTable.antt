-- The table of registers.
use Rattle.std.proofs.Common.{◌≡◌, ℕ, ◌<◌, ◌↔◌, Bool, true, false, cond, List, [], ◌∷◌, Option, Some, None, IfSome, refl, sym, ap, ◌∙◌, arith, ltb-true, nat_lt, option_map, bytes_eq, IsSome}
use Rattle.std.specs.List.{find, list_all}
use Rattle.std.proofs.lemmas.Bool.{and_parts, false≢true}
use Rattle.asm_text.specs.Names.{Named, register_names, register_of}

-- what is found has what all have
find-all : (p test : Named → Bool) (names : List Named) (n : ℕ) → list_all p names ≡ true
    → option_map (λ m. m.number) (find test names) ≡ Some n → (m : Named) × (m.number ≡ n) × (p m ≡ true)
find-all p test [] n all e = cc e
find-all p test (m ∷ names) n all e =
    let both = and_parts (p m) (list_all p names) all in
    at (test m) both.0 (find-all p test names n both.1) e
  where
    at : (b : Bool) → p m ≡ true
        → (option_map (λ k. k.number) (find test names) ≡ Some n → (k : Named) × (k.number ≡ n) × (p k ≡ true))
        → option_map (λ k. k.number) (cond b (Some m) (find test names)) ≡ Some n → (k : Named) × (k.number ≡ n) × (p k ≡ true)
    at true here later f = (m, cc f, here)
    at false here later f = later f

-- there are 32 registers
pub register_of-below : (text : List ℕ) (n : ℕ) → register_of text ≡ Some n → n < 32
register_of-below text n e =
    let found = find-all (λ m. nat_lt m.number 32) (λ m. bytes_eq m.name text) register_names n refl e in
    omega (arith, found.1, ltb-true found.0.number 32 found.2)

-- a register is made of each such number
pub made-is : (made found : Option ℕ) (n : ℕ) → (IsSome made ↔ (n < 32)) → IfSome made (λ register. register ≡ n)
    → n < 32 → found ≡ Some n → made ≡ found
made-is None found n valid number below e = absurd (false≢true (valid.1 below))
made-is (Some register) found n valid number below e = ap Some number ∙ sym e
