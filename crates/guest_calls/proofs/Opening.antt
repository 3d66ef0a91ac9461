-- What opens a file, and what moves in one.
use Rattle.std.proofs.Common.{◌≡◌, ℕ, ◌≤◌, Bool, false, cond, List, [], ◌∷◌, length, Option, None, Some, is_some, option_map, refl, sym, ap, ◌∙◌, arith, le-ltb}
use Rattle.std.specs.Prelude.{unwrap_or}
use Rattle.std.proofs.lemmas.Option.{same_Some}
use Rattle.arn_base.specs.declared.records.Extra.{Extra}
use Rattle.arn_base.specs.declared.records.Extra.TheVariants as extra
use Rattle.parts_model.specs.declared.open.Description.TheVariants.{File}
use Rattle.parts_model.specs.declared.refusals.TheConstants.{BAD_ARGUMENT, NAME_TAKEN, NO_DESCRIPTOR_ROOM, NO_ROOM}
use Rattle.parts_model.specs.declared.tagged.TaggedByte.{TaggedByte}
use Rattle.parts_model.specs.Files.{find_file, file_bytes, held, is_full, made, next_file, unnamed}
use Rattle.arn_model.specs.Doing.{Request, Does, refused, refuse, returning, returns, unless_refused}
use Rattle.arn_model.specs.FileCalls.{dup_opened, file_len, has_no_room, open_found, open_new, opened_as, seek_in, unlink_found}
use Rattle.arn_model.specs.Kernel.{Kernel, Machine, also_held, next_descriptor, placed, with_description, with_new}

-- a description that was opened has a descriptor
done-as : (m : Machine) (pid file n answer : ℕ) (path : List ℕ) (k : Kernel) (more : Extra) (mid : Kernel) → with_new (File file 0) (record k { files = held k.files file }) ≡ mid → next_descriptor m.kernel pid ≡ next_descriptor (with_new (File file 0) (record k { files = held k.files file })) pid → n ≡ length k.descriptions → answer ≡ next_descriptor mid pid → more ≡ extra.Name file path → opened_as m pid path file k ≡ Does (returning answer more (placed pid n mid))
done-as m pid file n answer path k more mid opens same number is named =
    ap (λ (a : ℕ). Does (returning a (extra.Name file path) (placed pid (length k.descriptions) (with_new (File file 0) (record k { files = held k.files file }))))) (same ∙ (ap (λ (q : Kernel). next_descriptor q pid) opens ∙ sym is))
    ∙ (ap (λ (q : Kernel). Does (returning answer (extra.Name file path) (placed pid (length k.descriptions) q))) opens
    ∙ (ap (λ (x : Extra). Does (returning answer x (placed pid (length k.descriptions) mid))) (sym named)
    ∙ ap (λ (i : ℕ). Does (returning answer more (placed pid i mid))) (sym number)))

pub found-is : (m : Machine) (pid file n answer : ℕ) (path : List ℕ) (more : Extra) (mid : Kernel) → find_file m.kernel.files path ≡ Some file → has_no_room m.kernel pid ≡ false → with_new (File file 0) (record m.kernel { files = held m.kernel.files file }) ≡ mid → n ≡ length m.kernel.descriptions → answer ≡ next_descriptor mid pid → more ≡ extra.Name file path → open_found m pid path (find_file m.kernel.files path) ≡ Does (returning answer more (placed pid n mid))
found-is m pid file n answer path more mid found room opens number is named =
    ap (open_found m pid path) found
    ∙ (ap (λ (t : Bool). cond t (refused NO_DESCRIPTOR_ROOM m.kernel) (opened_as m pid path file m.kernel)) room
    ∙ done-as m pid file n answer path m.kernel more mid opens refl number is named)

new-by : (k : Kernel) (goes_on : Request) (a b c : Bool) → a ≡ false → b ≡ false → c ≡ false → unless_refused k (refuse NAME_TAKEN a ∷ refuse NO_DESCRIPTOR_ROOM b ∷ refuse NO_ROOM c ∷ []) goes_on ≡ goes_on
new-by k goes_on a b c isa isb isc =
    ap (λ (t : Bool). cond t (refused NAME_TAKEN k) (unless_refused k (refuse NO_DESCRIPTOR_ROOM b ∷ refuse NO_ROOM c ∷ []) goes_on)) isa
    ∙ (ap (λ (t : Bool). cond t (refused NO_DESCRIPTOR_ROOM k) (unless_refused k (refuse NO_ROOM c ∷ []) goes_on)) isb
    ∙ ap (λ (t : Bool). cond t (refused NO_ROOM k) goes_on) isc)

pub new-is : (m : Machine) (pid file n answer : ℕ) (path : List ℕ) (more : Extra) (mid : Kernel) → is_some (find_file m.kernel.files path) ≡ false → has_no_room m.kernel pid ≡ false → is_full m.kernel.files ≡ false → with_new (File (next_file m.kernel.files) 0) (record m.kernel { files = held (made m.kernel.files path []) (next_file m.kernel.files) }) ≡ mid → file ≡ next_file m.kernel.files → n ≡ length m.kernel.descriptions → answer ≡ next_descriptor mid pid → more ≡ extra.Name file path → open_new m pid path ≡ Does (returning answer more (placed pid n mid))
new-is m pid file n answer path more mid free room few opens first number is named =
    new-by m.kernel (opened_as m pid path (next_file m.kernel.files) (record m.kernel { files = made m.kernel.files path [] })) (is_some (find_file m.kernel.files path)) (has_no_room m.kernel pid) (is_full m.kernel.files) free room few
    ∙ done-as m pid (next_file m.kernel.files) n answer path (record m.kernel { files = made m.kernel.files path [] }) more mid opens refl number is (named ∙ ap (λ (i : ℕ). extra.Name i path) first)

pub dup-is : (m : Machine) (pid number answer : ℕ) (mid : Kernel) → has_no_room m.kernel pid ≡ false → also_held number m.kernel ≡ mid → answer ≡ next_descriptor mid pid → dup_opened m pid (Some number) ≡ Does (returning answer extra.Nothing (placed pid number mid))
dup-is m pid number answer mid room holds is =
    ap (λ (t : Bool). cond t (refused NO_DESCRIPTOR_ROOM m.kernel) (returns (next_descriptor m.kernel pid) (placed pid number (also_held number m.kernel)))) room
    ∙ (ap (λ (a : ℕ). returns a (placed pid number (also_held number m.kernel))) (ap (λ (q : Kernel). next_descriptor q pid) holds ∙ sym is)
    ∙ ap (λ (q : Kernel). returns answer (placed pid number q)) holds)

len-of : (o : Option (List TaggedByte)) (n : ℕ) → Some n ≡ option_map length o → length (unwrap_or o []) ≡ n
len-of None n is = cc
len-of (Some held) n is = sym (same_Some n (length held) is)

pub seek-is : (m : Machine) (number file old position len : ℕ) (mid : Kernel) → Some len ≡ option_map length (file_bytes m.kernel.files file) → position ≤ len → with_description number (File file position) m.kernel ≡ mid → seek_in m number position (File file old) ≡ Does (returning position extra.Nothing mid)
seek-is m number file old position len mid long within moves =
    ap (λ (t : Bool). cond t (refused BAD_ARGUMENT m.kernel) (returns position (with_description number (File file position) m.kernel))) (le-ltb (file_len m.kernel file) position (omega (arith, len-of (file_bytes m.kernel.files file) len long, within)))
    ∙ ap (returns position) moves

pub unlink-is : (m : Machine) (file : ℕ) (path : List ℕ) → Some file ≡ find_file m.kernel.files path → unlink_found m path (find_file m.kernel.files path) ≡ Does (returning 0 (extra.Name file path) (record m.kernel { files = unnamed m.kernel.files path file }))
unlink-is m file path found = ap (unlink_found m path) (sym found)
