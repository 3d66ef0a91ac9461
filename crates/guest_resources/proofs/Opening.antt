-- Channels that are opened, and taken back.
use Rattle.std.proofs.Common.{◌≡◌, ℕ, ◌-◌, false, List, [], ◌∷◌, ◌++◌, length, take, Option, Some, IfSome, Result, OnOk, OnErr, refl, sym, ap, ◌∙◌, arith, subst, length-append}
use Rattle.std.proofs.Math.Seq.{take-append_seam}
use Rattle.parts_model.specs.declared.open.Description.{Description}
use Rattle.parts_model.specs.declared.open.Description.TheVariants.{Console, File}
use Rattle.parts_model.specs.Files.{Files}
use Rattle.parts_model.specs.Numbered.{nth}
use Rattle.arn_model.specs.Kernel.{Kernel, Opened, at_first, with_new}
use Rattle.guest_resources.specs.Resources.{Resources, Changes, EndsWithChannel, IsChannel, IsKnown, AreKnown, IsSound, is_of, one_if, holders_of, with_resources}
use Rattle.guest_resources.proofs.Changed.{by-result}
use Rattle.guest_resources.proofs.Sound.{known-add, holders-add}

abbrev opened_for_one : Description → Opened
opened_for_one what = record { what = what; descriptors = 1 }

abbrev and_opened : Resources → Description → Resources
and_opened r what = record r { descriptions = r.descriptions ++ Some (opened_for_one what) ∷ [] }

abbrev without_last : Resources → Resources
without_last r = record r { descriptions = take (length r.descriptions - 1) r.descriptions }

-- a channel is known, and holds no file
channel-known : (all : Files) (what : Description) → IsChannel what → IsKnown all what
channel-known all Console is = absurd is
channel-known all (File file position) is = absurd is
channel-known all _ is = tt

is_of-channel : (m : ℕ) (what : Description) → IsChannel what → is_of m what ≡ false
is_of-channel m Console is = absurd is
is_of-channel m (File file position) is = absurd is
is_of-channel m _ is = refl

holders_of-channel : (m : ℕ) (ds : List (Option Opened)) (what : Description) → IsChannel what → holders_of m (ds ++ Some (opened_for_one what) ∷ []) ≡ holders_of m ds
holders_of-channel m ds what is = omega (arith, holders-add m ds (Some (opened_for_one what)), ap one_if (is_of-channel m what is))

-- one more is open
pub channel-sound : {E : Type 0} (result : Result ℕ E) (r : Resources) (what : Description) (ds : List (Option Opened)) → IsChannel what → OnOk result (ds ≡ r.descriptions ++ Some (opened_for_one what) ∷ []) → OnErr result (ds ≡ r.descriptions) → IsSound r → IsSound (record r { descriptions = ds })
channel-sound result r what ds is opened same sound =
    by-result result (ds ≡ r.descriptions ++ Some (opened_for_one what) ∷ []) (ds ≡ r.descriptions) (IsSound (record r { descriptions = ds })) opened same
    (λ e. subst (λ (l : List (Option Opened)). IsSound (record r { descriptions = l })) (sym e) (record {
      known = known-add r.files r.descriptions (Some (opened_for_one what)) sound.known (channel-known r.files what is);
      held = λ m. subst (λ (n : ℕ). IfSome (nth r.files.all m) (λ f. f.holders ≡ n)) (sym (holders_of-channel m r.descriptions what is)) (sound.held m);
    }))
    (λ e. subst (λ (l : List (Option Opened)). IsSound (record r { descriptions = l })) (sym e) sound)

-- a list without its last
take-last : {A : Type 0} (l : List A) (x : A) → take (length (l ++ x ∷ []) - 1) (l ++ x ∷ []) ≡ l
take-last l x =
    let shorter : length (l ++ x ∷ []) - 1 ≡ length l = omega (arith, length-append l (x ∷ [])) in
    ap (λ (n : ℕ). take n (l ++ x ∷ [])) shorter ∙ take-append_seam l (x ∷ [])

known-before : (all : Files) (ds : List (Option Opened)) (x : Option Opened) → AreKnown all (ds ++ x ∷ []) → AreKnown all ds
known-before all [] x are = tt
known-before all (o ∷ ds) x are = (are.0, known-before all ds x are.1)

without-last : (ds before : List (Option Opened)) (x : Option Opened) → ds ≡ before ++ x ∷ [] → take (length ds - 1) ds ≡ before
without-last ds before x is = ap (λ (l : List (Option Opened)). take (length l - 1) l) is ∙ take-last before x

-- the last that is open, a channel, is taken back
pub taken_back-sound : (r : Resources) (ds : List (Option Opened)) → EndsWithChannel r.descriptions → ds ≡ take (length r.descriptions - 1) r.descriptions → IsSound r → IsSound (record r { descriptions = ds })
taken_back-sound r ds ends is sound =
    subst (λ (l : List (Option Opened)). IsSound (record r { descriptions = l })) (sym (is ∙ without-last r.descriptions ends.before (Some (opened_for_one ends.what)) ends.last)) (record {
      known = known-before r.files ends.before (Some (opened_for_one ends.what)) (subst (AreKnown r.files) ends.last sound.known);
      held =
          λ m. subst (λ (n : ℕ). IfSome (nth r.files.all m) (λ f. f.holders ≡ n)) (ap (holders_of m) ends.last ∙ holders_of-channel m ends.before ends.what ends.is_channel) (sound.held m);
    })

-- what a kernel has of them
abbrev resources_of : Kernel → Resources
resources_of k = record { files = k.files; descriptions = k.descriptions }

resources_of-with : (r new : Resources) (k : Kernel) → with_resources r k ≡ with_resources new k → r ≡ new
resources_of-with r new k same = ap resources_of same

-- one change behind the other
pub changes-then : (old mid new : Resources) (one other : Kernel → Kernel) → Changes old one mid → Changes mid other new → Changes old (λ k. other (one k)) new
changes-then old mid new one other first second = record { kernel = λ k. ap other (first.kernel k) ∙ second.kernel k }

-- one that was opened and taken back leaves what there was
pub opened-taken_back : (old mid again last : Resources) (what : Description) → Changes old (with_new what) mid → again ≡ mid → last ≡ without_last again → last ≡ old
opened-taken_back old mid again last what opened same is =
    is ∙ ap without_last (same ∙ sym (resources_of-with (and_opened old what) mid at_first.kernel (opened.kernel at_first.kernel)))
    ∙ ap (λ (l : List (Option Opened)). record old { descriptions = l }) (take-last old.descriptions (Some (opened_for_one what)))
