-- A boot from a file, by what was read of it.
use Rattle.std.proofs.Common.{◌≡◌, ℕ, false, true, List, Option, None, Some, refl, sym, ap, ◌∙◌, subst}
use Rattle.std.specs.Prelude.{option_map}
use Rattle.std.proofs.lemmas.Option.{same_Some}
use Rattle.arn_base.specs.declared.records.Give.{Give}
use Rattle.parts_model.specs.declared.tagged.TaggedByte.{TaggedByte}
use Rattle.parts_model.specs.Files.{find_file, file_bytes}
use Rattle.parts_model.specs.Image.{is_image}
use Rattle.parts_model.specs.Tagged.{given}
use Rattle.guest_calls.specs.Starts.{Begins, BootedFrom, HasNoImage}
use Rattle.guest_calls.specs.State.{State}

module _ (name : List ℕ) (file : ℕ) (give : Give) (old : State) (named : find_file old.kernel.files name ≡ Some file) where
  without : (o : Option (List TaggedByte)) → file_bytes old.kernel.files file ≡ o → Some give ≡ option_map given o → is_image give.bytes ≡ false → HasNoImage name old
  without None is read none = cc
  without (Some held) is read none =
      record { file = file; held = held; named = named; bytes = is; no_image = ap (λ (g : Give). is_image g.bytes) (sym (same_Some give (given held) read)) ∙ none }

  pub has-no-image : Some give ≡ option_map given (file_bytes old.kernel.files file) → is_image give.bytes ≡ false → HasNoImage name old
  has-no-image read none = without (file_bytes old.kernel.files file) refl read none

  with_image : (new : State) (o : Option (List TaggedByte)) → file_bytes old.kernel.files file ≡ o → Some give ≡ option_map given o → is_image give.bytes ≡ true → Begins give.bytes old new → BootedFrom name give old new
  with_image new None is read image begins = cc
  with_image new (Some held) is read image begins =
      let same : give ≡ given held = same_Some give (given held) read in
      record {
        file = file;
        held = held;
        named = named;
        bytes = is;
        image = ap (λ (g : Give). is_image g.bytes) (sym same) ∙ image;
        gives = same;
        becomes = record { stands = (subst (λ (g : Give). Begins g.bytes old new) same begins).stands };
      }

  pub booted-from : (new : State) → Some give ≡ option_map given (file_bytes old.kernel.files file) → is_image give.bytes ≡ true → Begins give.bytes old new → BootedFrom name give old new
  booted-from new read image begins = with_image new (file_bytes old.kernel.files file) refl read image begins
