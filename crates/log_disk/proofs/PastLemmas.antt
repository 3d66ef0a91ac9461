-- What was held before a change is found again.
use Rattle.std.proofs.Common.{◌≡◌, ℕ, ◌+◌, ◌-◌, ◌≤◌, min, List, [], ◌∷◌, ◌++◌, length, take, drop, reverse, refl, ap, arith}
use Rattle.std.proofs.lemmas.List.{same_lists, places, reverse-append}
use Rattle.arn_base.specs.Disk.{overwrite}
use Rattle.log_disk.specs.declared.past.Past.{Past}
use Rattle.log_disk.specs.Crash.{Held}
use Rattle.log_disk.specs.Past.{image_before, held_before, states_before}

-- the bytes that a write took away, put back
pub overwrite-overwrite : (image piece : List ℕ) (at to : ℕ) → at ≤ length image →
    to ≡ min (at + length piece) (length image) →
    take (length image) (overwrite (overwrite image at piece) at (take (to - at) (drop at image))) ≡ image
overwrite-overwrite image piece at to in_range is_end =
    same_lists _ _ (grind (arith, places)) (λ k d h. grind (arith, places))

-- what was held before the last change
same_held : (held : Held) (image : List ℕ) (past : Past) → image_before image past ≡ held.image →
    past.written.items ≡ held.written → past.smallest ≡ held.smallest → past.greatest ≡ held.greatest →
    held_before image past ≡ held
same_held held image past back written smallest greatest =
    rw (back, written, smallest, greatest) refl

-- what was held before the last change and those before it
pub states_before-push : (held : Held) (image : List ℕ) (past : Past) (older : List Past) →
    image_before image past ≡ held.image → past.written.items ≡ held.written →
    past.smallest ≡ held.smallest → past.greatest ≡ held.greatest →
    states_before image (reverse (older ++ past ∷ [])) ≡ held ∷ states_before held.image (reverse older)
states_before-push held image past older back written smallest greatest =
    rw (reverse-append older (past ∷ [])) (ap (λ (h : Held). h ∷ states_before h.image (reverse older)) (same_held held image past back written smallest greatest))

-- what was held before a write
pub image_before-write : (image new piece : List ℕ) (past : Past) (at to : ℕ) → at ≤ length image →
    to ≡ min (at + length piece) (length image) → new ≡ overwrite image at piece → past.at ≡ at →
    past.bytes.items ≡ take (to - at) (drop at image) → past.len ≡ length image →
    image_before new past ≡ image
image_before-write image new piece past at to in_range is_end wrote place kept len =
    rw (len, place, kept, wrote) (overwrite-overwrite image piece at to in_range is_end)
