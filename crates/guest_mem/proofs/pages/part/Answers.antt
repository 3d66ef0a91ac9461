use Rattle.std.proofs.Common.{◌≡◌, ◌+◌, ◌-◌, ◌<◌, ◌≤◌, Fits, w64, ℕ, ap, arith, drop, take, ◌∙◌}
use Rattle.std.proofs.lemmas.Result.{IfOk-from_err}
use Rattle.guest_mem.specs.Pages.{contents, joined}
use Rattle.parts_model.specs.declared.limits.TheConstants.{WINDOW_LEN}
use Rattle.guest_mem.proofs.Pieces.{part-more}
use Rattle.guest_mem.proofs.pages.part.Goals as goal

none-yet : (len : ℕ) → 0 ≤ len
none-yet len = omega arith

place-fits : (place len done : ℕ) → place + len ≤ WINDOW_LEN → done ≤ len → Fits w64 (place + done)
place-fits place len done whole few = omega arith

rest-whole : (place len done : ℕ) → place + len ≤ WINDOW_LEN → done ≤ len → place + done + (len - done) ≤ WINDOW_LEN
rest-whole place len done whole few = omega arith

some-rest : (len done : ℕ) → done < len → 0 < len - done
some-rest len done less = omega arith

more-few : (len done count : ℕ) → done ≤ len → count ≤ len - done → done + count ≤ len
more-few len done count few less = omega arith

more-fits : (len done count : ℕ) → len < 18446744073709551616 → done ≤ len → count ≤ len - done → Fits w64 (done + count)
more-fits len done count fits few less = omega arith

all-done : (len done : ℕ) → done ≤ len → len ≤ done → done ≡ len
all-done len done few all = omega arith

pub returns-in_err-bytes : goal.returns-in_err-bytes
returns-in_err-bytes c = IfOk-from_err c.from_residual.result _ c.from_residual.ensures.0

pub pieces-init : goal.pieces-init
pieces-init c = record { few = none-yet c.args.len; read = c.in_ok-bytes.ensures.items }

pub overflow_add-place : goal.overflow_add-place
overflow_add-place c = place-fits c.args.place c.args.len c.pieces.done c.requires.whole c.pieces.invariant.few

pub overflow_sub-len : goal.overflow_sub-len
overflow_sub-len c = c.pieces.invariant.few

pub add_piece-requires-clause-pages : goal.add_piece-requires-clause-pages
add_piece-requires-clause-pages c = c.requires.pages

pub add_piece-requires-clause-whole : goal.add_piece-requires-clause-whole
add_piece-requires-clause-whole c = rest-whole c.args.place c.args.len c.pieces.done c.requires.whole c.pieces.invariant.few

pub add_piece-requires-clause-some : goal.add_piece-requires-clause-some
add_piece-requires-clause-some c = some-rest c.args.len c.pieces.done c.pieces-test.true

pub returns-in_err-done : goal.returns-in_err-done
returns-in_err-done c = IfOk-from_err c.from_residual-in_err-done.result _ c.from_residual-in_err-done.ensures.0

pub overflow_add-done : goal.overflow_add-done
overflow_add-done c = more-fits c.args.len c.pieces.done c.in_ok-done.field-0 c.ranges.len.fits c.pieces.invariant.few c.in_ok-done.ensures.few

pub pieces-preserved : goal.pieces-preserved
pieces-preserved c = record {
  few = more-few c.args.len c.pieces.done c.in_ok-done.field-0 c.pieces.invariant.few c.in_ok-done.ensures.few;
  read =
      part-more (joined (contents c.args.pages.now)) c.pieces.bytes.items c.add_piece.new.bytes.items c.args.place c.pieces.done c.in_ok-done.field-0 c.pieces.invariant.read c.in_ok-done.ensures.read;
}

pub returns : goal.returns
returns c =
    c.pieces.invariant.read ∙ ap (λ (n : ℕ). take n (drop c.args.place (joined (contents c.args.pages.now)))) (all-done c.args.len c.pieces.done c.pieces.invariant.few c.pieces-test.false)
