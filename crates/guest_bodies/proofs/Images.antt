-- What an image is, and the first window that it gives.
use Rattle.std.proofs.Common.{◌≡◌, ℕ, ◌+◌, ◌-◌, ◌≤◌, ◌++◌, ◌∙◌, ◌&&◌, Bool, bytes_eq, nat_le, if◌then◌else◌, true, List, length, take, Option, None, Some, ap, sym, arith, length-append}
use Rattle.std.proofs.lemmas.Bool.{and_parts, leb-true}
use Rattle.std.proofs.lemmas.Bool.Decides.{nat_tests}
use Rattle.std.proofs.lemmas.List.{take-replicate, drop-replicate, length-replicate, drop_all, append-nil}
use Rattle.arn_base.specs.Disk.{overwrite}
use Rattle.parts_model.specs.declared.limits.TheConstants.{WINDOW_START, WINDOW_END, WINDOW_LEN}
use Rattle.parts_model.specs.Image.{Image, can_enter, fits_window, header_len, image_name, image_of, is_image, read_as_image}
use Rattle.parts_model.specs.Memory.{zeros}
use Rattle.acts_model.specs.Views.{among_zeros}

overwrite-zeros : (len at : ℕ) (bytes : List ℕ) → at ≤ len → overwrite (zeros len) at bytes ≡ among_zeros len at bytes
unfolding zeros
overwrite-zeros len at bytes h1 = grind (arith, nat_tests, drop-replicate, take-replicate)

length-among_zeros : (len at : ℕ) (bytes : List ℕ) → at + length bytes ≤ len → length (among_zeros len at bytes) ≡ len
length-among_zeros len at bytes fits = grind (arith, length-append {A = ℕ}, length-replicate {A = ℕ})

-- bytes over the end of a list
over-end : (under block : List ℕ) (n m : ℕ) → length under ≡ n + length block → n ≡ m → overwrite under n block ≡ take m under ++ block
over-end under block n m h1 h2 = grind (arith, nat_tests, append-nil, drop_all)

-- a body over zeros, and a block over its end
pub first-window : (load : ℕ) (body block : List ℕ) → WINDOW_START ≤ load → load + length body ≤ WINDOW_END → length block ≤ WINDOW_LEN → overwrite (overwrite (zeros WINDOW_LEN) (load - WINDOW_START) body) (WINDOW_LEN - length block) block ≡ take (WINDOW_END - length block - WINDOW_START) (among_zeros WINDOW_LEN (load - WINDOW_START) body) ++ block
first-window load body block h1 h2 h3 = grind (arith, nat_tests, length-among_zeros, over-end, overwrite-zeros)

-- the image of a file is the file read as one
pub image-is : (file : List ℕ) (image : Image) → is_image file ≡ true → image_of file ≡ Some image → read_as_image file ≡ image
image-is file image h1 h2 = grind (arith, nat_tests)

-- a file that is an image holds one
pub no-image : {A : Type 0} (file : List ℕ) → is_image file ≡ true → image_of file ≡ None → A
no-image file is none =
    let some : image_of file ≡ Some (read_as_image file) = ap (λ (b : Bool). if b then Some (read_as_image file) else None) is in
    absurd (let same : ◌≡◌ {A = Option Image} None (Some (read_as_image file)) = sym none ∙ some in cc)

-- the body of an image lies in the window, behind the header
pub image-parts : (file : List ℕ) → is_image file ≡ true → (header_len ≤ length file) × (WINDOW_START ≤ (read_as_image file).load) × ((read_as_image file).load + length (read_as_image file).body ≤ WINDOW_END)
image-parts file is =
    let image = read_as_image file in
    let whole = and_parts (nat_le header_len (length file)) (bytes_eq (take 8 file) image_name && (can_enter image.entry && fits_window image)) is in
    let named = and_parts (bytes_eq (take 8 file) image_name) (can_enter image.entry && fits_window image) whole.1 in
    let fits = and_parts (can_enter image.entry) (fits_window image) named.1 in
    let both = and_parts (nat_le WINDOW_START image.load) (nat_le (image.load + length image.body) WINDOW_END) fits.1 in
    (leb-true header_len (length file) whole.0, leb-true WINDOW_START image.load both.0, leb-true (image.load + length image.body) WINDOW_END both.1)
