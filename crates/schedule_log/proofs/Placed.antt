-- Spellings at a place of bytes.
use Rattle.std.proofs.Common.{◌≡◌, ℕ, ◌+◌, ◌-◌, List, ◌++◌, length, take, drop, slice_range, sym, ap, ◌∙◌, length-append, length-drop, arith}
use Rattle.std.proofs.Math.Nat.{add-sub_cancel_left}
use Rattle.std.proofs.Math.Seq.{take-append_seam, take-length}
use Rattle.std.proofs.lemmas.List.Folds.{drop_split}
use Rattle.schedule_log.specs.Laws.{FrontStands, StandsInFront}

-- the bytes from a place up to the end
to-end : (bytes : List ℕ) (at : ℕ) → slice_range bytes at (length bytes) ≡ drop at bytes
to-end bytes at = ap (λ n. take n (drop at bytes)) (sym (length-drop at bytes)) ∙ take-length (drop at bytes)

pub front-stands : FrontStands
front-stands bytes front rest at within e =
    let here : drop at bytes ≡ front ++ rest = sym (to-end bytes at) ∙ e in
    let long : length (drop at bytes) ≡ length front + length rest = ap length here ∙ length-append front rest in
    let next : length bytes - length rest ≡ at + length front = omega (arith, length-drop at bytes) in
    record {
      forward = omega arith;
      within = omega arith;
      is_spelled = rw (next, add-sub_cancel_left at (length front), here) (take-append_seam front rest);
    }

pub stands-in-front : StandsInFront
stands-in-front bytes front at next s =
    to-end bytes at ∙ drop_split bytes at next s.forward ∙ ap (λ xs. xs ++ drop next bytes) s.is_spelled
