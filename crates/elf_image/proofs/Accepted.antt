-- What the cases of an accepted file say of its program headers.
use Rattle.std.proofs.Common.{◌≡◌, ℕ, ◌+◌, ◌<◌, nat_le, ◌&&◌, not, if◌then◌else◌, Bool, true, List, length, sym, ap, subst, ◌∙◌}
use Rattle.std.specs.List.{list_all, range_with_len}
use Rattle.std.proofs.lemmas.Bool.{and_parts, leb-true}
use Rattle.std.proofs.lemmas.List.Folds.{list_all-map}
use Rattle.parts_model.specs.declared.limits.TheConstants.{WINDOW_START, WINDOW_END}
use Rattle.elf_image.specs.declared.elf.Elf.{Elf}
use Rattle.elf_image.specs.declared.format.Header.{Header}
use Rattle.elf_image.specs.Elf.{count, header, is_loaded, is_linked, is_in_file, is_in_window, fits, is_static, is_long, has_ident, is_executable, has_sizes, has_table, has_headers, has_entry, is_elf}
use Rattle.elf_image.specs.Parsed.{read_elf, IsElfOf, IsWhole}
use Rattle.elf_image.proofs.Ranges.{all_between, all-begins, all-at}

-- the header of a number is one of a static file
abbrev pub is_static_at : List ℕ → ℕ → Bool
is_static_at file n = is_static (length file) (header file n)

pub headers-numbers : (file : List ℕ) → list_all (is_static_at file) (range_with_len 0 (count file)) ≡ has_headers file
headers-numbers file = sym (list_all-map (is_static (length file)) (header file) (range_with_len 0 (count file)))

module _ (file : List ℕ) (elf : Elf) (read : elf ≡ read_elf file) where
  pub headers-begin : all_between (is_static_at file) 0 elf.count ≡ has_headers file
  headers-begin =
      let same : elf.count ≡ count file = ap (λ (e : Elf). e.count) read in
      all-begins (is_static_at file) elf.count ∙ ap (λ (c : ℕ). list_all (is_static_at file) (range_with_len 0 c)) same ∙ headers-numbers file

-- what was answered of a header that was read is so of the file's
pub static-told : (file : List ℕ) (n : ℕ) (h : Header) (b r : Bool) → h ≡ header file n → r ≡ is_static (length file) h → r ≡ b → is_static_at file n ≡ b
static-told file n h b r read told is = sym (ap (is_static (length file)) read) ∙ sym told ∙ is

fits-whole : (len : ℕ) (h : Header) → fits len h ≡ true → IsWhole len h
fits-whole len h is =
    let parts = and_parts (nat_le h.file_len h.memory_len) (is_in_file len h && is_in_window h) is in
    let ranges = and_parts (is_in_file len h) (is_in_window h) parts.1 in
    let bounds = and_parts (nat_le WINDOW_START h.address) (nat_le (h.address + h.memory_len) WINDOW_END) ranges.1 in
    record {
      room = leb-true h.file_len h.memory_len parts.0;
      in_file = leb-true (h.offset + h.file_len) len ranges.0;
      above = leb-true WINDOW_START h.address bounds.0;
      below = leb-true (h.address + h.memory_len) WINDOW_END bounds.1;
    }

loaded-so : (loaded b : Bool) → loaded ≡ true → (if loaded then b else true) ≡ true → b ≡ true
loaded-so loaded b is h = let so : (if true then b else true) ≡ true = subst (λ (l : Bool). (if l then b else true) ≡ true) is h in so

static-whole : (len : ℕ) (h : Header) → is_static len h ≡ true → is_loaded h ≡ true → IsWhole len h
static-whole len h is loaded =
    let parts = and_parts (not (is_linked h)) (if is_loaded h then fits len h else true) is in
    fits-whole len h (loaded-so (is_loaded h) (fits len h) loaded parts.1)

-- the sixth of cases that all hold
sixth-of : (a b c d e f z : Bool) → (a && (b && (c && (d && (e && (f && z)))))) ≡ true → f ≡ true
sixth-of a b c d e f z all =
    let from_b = (and_parts a _ all).1 in
    let from_c = (and_parts b _ from_b).1 in
    let from_d = (and_parts c _ from_c).1 in
    let from_e = (and_parts d _ from_d).1 in
    let from_f = (and_parts e _ from_e).1 in
    (and_parts f _ from_f).0

module _ (file : List ℕ) (is : is_elf file ≡ true) where
  all-static : has_headers file ≡ true
  all-static = sixth-of (is_long file) (has_ident file) (is_executable file) (has_sizes file) (has_table file) (has_headers file) (has_entry file && true) is

  -- the ranges of what is loaded are whole
  pub elf-whole : (n : ℕ) → n < count file → is_loaded (header file n) ≡ true → IsWhole (length file) (header file n)
  elf-whole n below loaded =
      static-whole (length file) (header file n) (all-at (is_static_at file) n (count file) (headers-numbers file ∙ all-static) below) loaded

-- of the header that was read of an accepted file
module _ (file : List ℕ) (elf : Elf) (n : ℕ) (h : Header) (parsed : IsElfOf file elf) (read : h ≡ header file n) where
  pub part-whole : n < elf.count → is_loaded h ≡ true → IsWhole (length file) h
  part-whole below loaded =
      let same : elf.count ≡ count file = ap (λ (e : Elf). e.count) parsed.1 in
      let is : is_loaded (header file n) ≡ true = sym (ap is_loaded read) ∙ loaded in
      subst (IsWhole (length file)) (sym read) (elf-whole file parsed.0 n (subst (λ (c : ℕ). n < c) same below) is)
