use Rattle.std.proofs.Common.{◌≡◌, ◌∙◌, ℕ, List, Some, option_map, false, true, ap, sym, subst, arith}
use Rattle.parts_model.specs.Files.{file_bytes, find_file}
use Rattle.parts_model.specs.Image.{is_image}
use Rattle.parts_model.specs.Tagged.{given}
use Rattle.guest_calls.specs.Starts.{Begins}
use Rattle.guest_calls.specs.State.{State}
use Rattle.guest_calls.proofs.FromFile.{has-no-image, booted-from}
use Rattle.guest_calls.proofs.kernel.Kernel.boot.Goals as goal

pub returns-then-not-is_image-clause-not_image : goal.returns-then-not-is_image-clause-not_image
returns-then-not-is_image-clause-not_image c = λ e.
    let named : find_file c.args.self.now.kernel.files c.args.name.now ≡ Some c.in-Some.file = ap (λ (s : State). find_file s.kernel.files c.args.name.now) (sym c.self.view_is) ∙ (sym c.find_file.ensures.found ∙ c.in-Some.is) in
    let read : Some c.in-Ok.give ≡ option_map given (file_bytes c.args.self.now.kernel.files c.in-Some.file) = subst (λ (s : State). Some c.in-Ok.give ≡ option_map given (file_bytes s.kernel.files c.in-Some.file)) c.self.view_is c.in-Ok.ensures.given in
    let tested : c.is_image.result ≡ false = first_of (cc, grind arith) in
    let none : is_image c.in-Ok.give.bytes ≡ false = ap is_image (sym c.as_slice.ensures) ∙ (sym c.is_image.ensures ∙ tested) in
    has-no-image c.args.name.now c.in-Some.file c.in-Ok.give c.args.self.now named read none

pub returns-in-Ok-begin-clause-booted : goal.returns-in-Ok-begin-clause-booted
returns-in-Ok-begin-clause-booted c =
    let named : find_file c.args.self.now.kernel.files c.args.name.now ≡ Some c.in-Some.file = ap (λ (s : State). find_file s.kernel.files c.args.name.now) (sym c.self.view_is) ∙ (sym c.find_file.ensures.found ∙ c.in-Some.is) in
    let read : Some c.in-Ok.give ≡ option_map given (file_bytes c.args.self.now.kernel.files c.in-Some.file) = subst (λ (s : State). Some c.in-Ok.give ≡ option_map given (file_bytes s.kernel.files c.in-Some.file)) c.self.view_is c.in-Ok.ensures.given in
    let tested : c.is_image.result ≡ true = first_of (cc, grind arith) in
    let image : is_image c.in-Ok.give.bytes ≡ true = ap is_image (sym c.as_slice.ensures) ∙ (sym c.is_image.ensures ∙ tested) in
    booted-from c.args.name.now c.in-Some.file c.in-Ok.give c.args.self.now named c.begin.new.self read image
    (subst (λ (x : List ℕ). Begins x c.args.self.now c.begin.new.self) c.as_slice-2.ensures c.in-Ok-begin.ensures.begun)
