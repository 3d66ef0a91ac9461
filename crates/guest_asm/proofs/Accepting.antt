-- Images that are made of a text are accepted.
use Rattle.std.proofs.Common.{◌≡◌, ◌≤◌, ℕ, List, None, true, length, arith}
use Rattle.std.proofs.lemmas.Bool.Decides.{nat_tests}
use Rattle.arn_base.specs.Window.{bytes_of}
use Rattle.parts_model.specs.Image.{is_image}
use Rattle.guest_asm.specs.Assembled.{body, fault_of, image, image_of_text, placed}
use Rattle.guest_asm.specs.Meanings.{most_bytes}
use Rattle.guest_asm.proofs.Lengths.{length-body}

-- an image whose body fits the window is accepted
is_image-image : (body : List ℕ) → length body ≤ most_bytes → is_image (image body) ≡ true
unfolding bytes_of
is_image-image body short = grind (arith, nat_tests)

pub is_image-image_of_text : (text : List ℕ) → fault_of text ≡ None → is_image (image_of_text text) ≡ true
is_image-image_of_text text none = is_image-image (body (placed text)) (length-body text none)
