-- What holds of bytes that were lent, and of those that came back.
use Rattle.std.proofs.Common.{◌≡◌, ◌++◌, List, ℕ, drop, length, subst, sym, take, ◌∙◌}
use Rattle.std.proofs.lemmas.List.{take_at}

pub lent : (P : List ℕ → List ℕ → Type 0) (old items new : List ℕ) (len : ℕ) (now : List ℕ) → old ≡ items → items ≡ now → length new ≡ length old → length old ≡ len → P old new → P now (take len (new ++ drop (length new) items))
lent P old items new len now was is same long holds =
    subst (λ (bytes : List ℕ). P now bytes) (sym (take_at new (drop (length new) items) len (same ∙ long)))
    (subst (λ (bytes : List ℕ). P bytes new) (was ∙ is) holds)
