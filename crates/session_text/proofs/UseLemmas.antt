-- Bytes of a source that are used one behind the other.
use Rattle.std.proofs.Common.{◌≡◌, ℕ, ◌++◌, List, [], Option, None, Some, option_map, refl, sym, ap, ◌∙◌, append_assoc, arith, length-append}
use Rattle.arn_commands.specs.Reader.{ReaderState, Uses}

come_more : (a b c : List ℕ) (l0 l1 l2 : Option (List ℕ)) (x y : List ℕ) → option_map (λ rest. a ++ rest) l0 ≡ option_map (λ rest. x ++ rest) (option_map (λ rest. b ++ rest) l1) → option_map (λ rest. b ++ rest) l1 ≡ option_map (λ rest. y ++ rest) (option_map (λ rest. c ++ rest) l2) → option_map (λ rest. a ++ rest) l0 ≡ option_map (λ rest. (x ++ y) ++ rest) (option_map (λ rest. c ++ rest) l2)
come_more a b c l0 l1 None x y p q = p ∙ ap (λ (o : Option (List ℕ)). option_map (λ rest. x ++ rest) o) q
come_more a b c l0 l1 (Some r) x y p q =
    p ∙ ap (λ (o : Option (List ℕ)). option_map (λ rest. x ++ rest) o) q ∙ ap (λ (z : List ℕ). Some z) (sym (append_assoc x y (c ++ r)))

-- bytes that are used behind others
pub Uses-append : (x y : List ℕ) (a b c : ReaderState) (l0 l1 l2 : Option (List ℕ)) → Uses x a b l0 l1 → Uses y b c l1 l2 → Uses (x ++ y) a c l0 l2
Uses-append x y a b c l0 l1 l2 p q = record {
  come = come_more a.ahead b.ahead c.ahead l0 l1 l2 x y p.come q.come;
  counted = omega (arith, p.counted, q.counted, length-append x y);
}

come_none : (a : List ℕ) (left : Option (List ℕ)) → option_map (λ rest. a ++ rest) left ≡ option_map (λ rest. [] ++ rest) (option_map (λ rest. a ++ rest) left)
come_none a None = refl
come_none a (Some rest) = refl

-- no bytes are used
pub Uses-none : (reader : ReaderState) (left : Option (List ℕ)) → Uses [] reader reader left left
Uses-none reader left = record { come = come_none reader.ahead left; counted = omega arith }
