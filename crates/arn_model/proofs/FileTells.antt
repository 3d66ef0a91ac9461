-- What the calls on names and descriptors tell.
use Rattle.std.proofs.Common.{◌≡◌, ℕ, ◌<◌, ◌≤◌, List, [], ◌∷◌, length, refl, ◌∙◌, Option, Some, None, IfSome, Bool, false, ◌==◌, ◌||◌, not, if◌then◌else◌, arith, nat_lt, is_some, unwrap_or, ltb-false}
use Rattle.std.proofs.lemmas.Bool.Decides.{nat_tests}
use Rattle.std.proofs.lemmas.List.{length_push}
use Rattle.arn_base.specs.declared.records.Extra.TheVariants as extra
use Rattle.parts_model.specs.declared.calls.TheConstants.{OPEN, CLOSE, SEEK, DUP, UNLINK}
use Rattle.parts_model.specs.declared.open.Description.{Description}
use Rattle.parts_model.specs.declared.open.Description.TheVariants as description
use Rattle.parts_model.specs.declared.refusals.TheConstants.{NO_FILE, BAD_DESCRIPTOR, NO_ROOM, BAD_ADDRESS, NAME_TAKEN, BAD_ARGUMENT, NO_DESCRIPTOR_ROOM}
use Rattle.parts_model.specs.declared.tagged.TaggedByte.{TaggedByte}
use Rattle.parts_model.specs.Files.{find_file, file_bytes, is_full, made, next_file, unnamed, held}
use Rattle.acts_model.specs.Bodies.{View}
use Rattle.acts_model.specs.Records.{NoLife, Names, Unnames, NoName}
use Rattle.acts_model.specs.Views.{argument, can_reach}
use Rattle.arn_model.specs.Doing.{returns, refuse}
use Rattle.arn_model.specs.FileCalls.{has_no_room, opens_file, opened_as, open_found, open_new, open_row, unlink_found, unlink_row, file_len, seek_in, seek_what, seek_opened, seek_row, close_opened, close_row, dup_opened, dup_row}
use Rattle.arn_model.specs.Kernel.{Kernel, Machine, description_of, what_is, next_descriptor, placed, also_held, closes, with_description}
use Rattle.arn_model.specs.Paths.{isnt_path_len, path_of}
use Rattle.arn_model.specs.Sound.{FitsFiles, IsSound}
use Rattle.arn_model.proofs.Quiet.{Quiet, quiet-trans, quiet-files}
use Rattle.arn_model.proofs.Closing.{quiet-opens, quiet-placed, quiet-also_held, quiet-closes, quiet-with_description, held-quiet}
use Rattle.arn_model.proofs.Effects.{KernelTells, quiet-tells, tells-then}
use Rattle.arn_model.proofs.Naming.{found-names, made-tells, unnamed-tells}
use Rattle.arn_model.proofs.Calling.{At, RequestTells, done-named, done-plain, unless-refused, refused-tells}

starts-in : (o : Option (List TaggedByte)) → IfSome o (λ bytes. 0 ≤ length bytes)
starts-in None = tt
starts-in (Some bytes) = omega arith

-- a file that was made is opened at its beginning
quiet-opens_file : (pid file : ℕ) (k : Kernel) → file < length k.files.all → Quiet k (opens_file pid file k)
quiet-opens_file pid file k made =
    let k' = record k { files = held k.files file } in
    let q = held-quiet k.files file in
    let e = q.made in
    quiet-trans k k' (opens_file pid file k) (quiet-files k (held k.files file) q)
    (quiet-opens pid (description.File file 0) k' (λ s. record { made = omega arith; inside = starts-in (file_bytes k'.files file) }))

open-found-tells : (m : Machine) (pid : ℕ) (v : View) (path : List ℕ) → At m pid v OPEN → (o : Option ℕ) → find_file m.kernel.files path ≡ o → RequestTells m pid v OPEN (open_found m pid path o)
open-found-tells m pid v path at None e = refused-tells m pid v OPEN NO_FILE at refl refl
open-found-tells m pid v path at (Some file) e =
    unless-refused m pid v OPEN (refuse NO_DESCRIPTOR_ROOM (has_no_room m.kernel pid) ∷ []) (opened_as m pid path file m.kernel) at refl refl
    (λ none.
    done-named m pid v OPEN (next_descriptor m.kernel pid) (extra.Name file path) (Names path file) (opens_file pid file m.kernel) at
    (record { told = refl; length = refl; life = refl; put = refl; gives = refl }) refl
    (named (opens_file pid file m.kernel) (quiet-tells m.kernel m.events [] (opens_file pid file m.kernel) (quiet-opens_file pid file m.kernel (at.sound.named path file e)))))
  where
    named : (k : Kernel) → KernelTells m.kernel m.events [] None NoLife NoName None k → KernelTells m.kernel m.events [] None NoLife (Names path file) None k
    named k t = record { holds = t.holds; living = t.living; names = λ name. t.names name ∙ found-names m.kernel.files.names path file e name; kept = t.kept; last = t.last; writes = t.writes; sound = t.sound; grows = t.grows; few = t.few; unplugged = t.unplugged }

open-new-tells : (m : Machine) (pid : ℕ) (v : View) (path : List ℕ) → At m pid v OPEN → RequestTells m pid v OPEN (open_new m pid path)
open-new-tells m pid v path at =
    let file = next_file m.kernel.files in
    let k = record m.kernel { files = made m.kernel.files path [] } in
    unless-refused m pid v OPEN
    (refuse NAME_TAKEN (is_some (find_file m.kernel.files path))
    ∷ refuse NO_DESCRIPTOR_ROOM (has_no_room m.kernel pid)
    ∷ refuse NO_ROOM (is_full m.kernel.files)
    ∷ [])
    (opened_as m pid path file k)
    at refl refl
    (λ none.
    done-named m pid v OPEN (next_descriptor m.kernel pid) (extra.Name file path) (Names path file) (opens_file pid file k) at
    (record { told = refl; length = refl; life = refl; put = refl; gives = refl }) refl
    (tells-then m.kernel m.events [] None NoLife (Names path file) None k (opens_file pid file k)
    (made-tells m.kernel m.events path (free (find_file m.kernel.files path) none.0))
    (quiet-opens_file pid file k (let g = length_push m.kernel.files.all (Some (record { bytes = []; holders = 0 })) in omega arith))))
  where
    free : (o : Option ℕ) → is_some o ≡ false → o ≡ None
    free o h1 = grind (arith, nat_tests)

pub open-tells : (m : Machine) (pid : ℕ) (v : View) → At m pid v OPEN → RequestTells m pid v OPEN (open_row m pid v)
open-tells m pid v at =
    let place = argument v.body.cpu 0 in
    let len = argument v.body.cpu 1 in
    let mode = argument v.body.cpu 2 in
    let path = path_of v place len in
    unless-refused m pid v OPEN
    (refuse BAD_ARGUMENT (isnt_path_len len || nat_lt 1 mode) ∷ refuse BAD_ADDRESS (not (can_reach v place len)) ∷ [])
    (if mode == 0 then open_found m pid path (find_file m.kernel.files path) else open_new m pid path)
    at refl refl
    (λ none. by_mode path (mode == 0))
  where
    by_mode : (path : List ℕ) (b : Bool) → RequestTells m pid v OPEN (if b then open_found m pid path (find_file m.kernel.files path) else open_new m pid path)
    by_mode path b = grind (arith, nat_tests, open-found-tells, open-new-tells)

unlink-found-tells : (m : Machine) (pid : ℕ) (v : View) (path : List ℕ) → At m pid v UNLINK → (o : Option ℕ) → RequestTells m pid v UNLINK (unlink_found m path o)
unlink-found-tells m pid v path at None = refused-tells m pid v UNLINK NO_FILE at refl refl
unlink-found-tells m pid v path at (Some file) =
    let k = record m.kernel { files = unnamed m.kernel.files path file } in
    done-named m pid v UNLINK 0 (extra.Name file path) (Unnames path) k at
    (record { told = refl; length = refl; life = refl; put = refl; gives = refl }) refl
    (unnamed-tells m.kernel m.events path file)

pub unlink-tells : (m : Machine) (pid : ℕ) (v : View) → At m pid v UNLINK → RequestTells m pid v UNLINK (unlink_row m pid v)
unlink-tells m pid v at =
    let place = argument v.body.cpu 0 in
    let len = argument v.body.cpu 1 in
    let path = path_of v place len in
    unless-refused m pid v UNLINK
    (refuse BAD_ARGUMENT (isnt_path_len len) ∷ refuse BAD_ADDRESS (not (can_reach v place len)) ∷ [])
    (unlink_found m path (find_file m.kernel.files path))
    at refl refl
    (λ none. unlink-found-tells m pid v path at (find_file m.kernel.files path))

-- what a description is, where there is one
pub described : (k : Kernel) (n : ℕ) (what : Description) → what_is k n ≡ Some what → IsSound k → FitsFiles k.files what
described k n what h1 h2 = grind (arith, nat_tests)

within-len : (o : Option (List TaggedByte)) (position : ℕ) → nat_lt (length (unwrap_or o [])) position ≡ false → IfSome o (λ bytes. position ≤ length bytes)
within-len None position e = tt
within-len (Some bytes) position e = ltb-false (length bytes) position e

seek-in-tells : (m : Machine) (pid : ℕ) (v : View) (n position : ℕ) → At m pid v SEEK → (what : Description) → what_is m.kernel n ≡ Some what → RequestTells m pid v SEEK (seek_in m n position what)
seek-in-tells m pid v n position at (description.File file old) e =
    let k = with_description n (description.File file position) m.kernel in
    let lies = described m.kernel n (description.File file old) e at.sound in
    unless-refused m pid v SEEK (refuse BAD_ARGUMENT (nat_lt (file_len m.kernel file) position) ∷ []) (returns position k) at refl refl
    (λ none.
    done-plain m pid v SEEK position extra.Nothing k at (record { told = refl; length = refl; life = refl; put = refl; gives = refl }) refl
    (quiet-with_description n (description.File file position) m.kernel
    (λ s o f. record { made = lies.made; inside = within-len (file_bytes m.kernel.files file) position none.0 })))
seek-in-tells m pid v n position at _ e = refused-tells m pid v SEEK BAD_ARGUMENT at refl refl

seek-what-tells : (m : Machine) (pid : ℕ) (v : View) (n position : ℕ) → At m pid v SEEK → (o : Option Description) → what_is m.kernel n ≡ o → RequestTells m pid v SEEK (seek_what m n position o)
seek-what-tells m pid v n position at None e = refused-tells m pid v SEEK BAD_DESCRIPTOR at refl refl
seek-what-tells m pid v n position at (Some what) e = seek-in-tells m pid v n position at what e

seek-opened-tells : (m : Machine) (pid : ℕ) (v : View) (position : ℕ) → At m pid v SEEK → (o : Option ℕ) → RequestTells m pid v SEEK (seek_opened m position o)
seek-opened-tells m pid v position at None = refused-tells m pid v SEEK BAD_DESCRIPTOR at refl refl
seek-opened-tells m pid v position at (Some n) = seek-what-tells m pid v n position at (what_is m.kernel n) refl

pub seek-tells : (m : Machine) (pid : ℕ) (v : View) → At m pid v SEEK → RequestTells m pid v SEEK (seek_row m pid v)
seek-tells m pid v at = seek-opened-tells m pid v (argument v.body.cpu 1) at (description_of m.kernel pid (argument v.body.cpu 0))

close-opened-tells : (m : Machine) (pid : ℕ) (v : View) (fd : ℕ) → At m pid v CLOSE → (o : Option ℕ) → RequestTells m pid v CLOSE (close_opened m pid fd o)
close-opened-tells m pid v fd at None = refused-tells m pid v CLOSE BAD_DESCRIPTOR at refl refl
close-opened-tells m pid v fd at (Some n) =
    done-plain m pid v CLOSE 0 extra.Nothing (closes pid fd n m.kernel) at (record { told = refl; length = refl; life = refl; put = refl; gives = refl }) refl (quiet-closes pid fd n m.kernel)

pub close-tells : (m : Machine) (pid : ℕ) (v : View) → At m pid v CLOSE → RequestTells m pid v CLOSE (close_row m pid v)
close-tells m pid v at = close-opened-tells m pid v (argument v.body.cpu 0) at (description_of m.kernel pid (argument v.body.cpu 0))

dup-opened-tells : (m : Machine) (pid : ℕ) (v : View) → At m pid v DUP → (o : Option ℕ) → RequestTells m pid v DUP (dup_opened m pid o)
dup-opened-tells m pid v at None = refused-tells m pid v DUP BAD_DESCRIPTOR at refl refl
dup-opened-tells m pid v at (Some n) =
    let k = placed pid n (also_held n m.kernel) in
    unless-refused m pid v DUP (refuse NO_DESCRIPTOR_ROOM (has_no_room m.kernel pid) ∷ []) (returns (next_descriptor m.kernel pid) k) at refl refl
    (λ none.
    done-plain m pid v DUP (next_descriptor m.kernel pid) extra.Nothing k at (record { told = refl; length = refl; life = refl; put = refl; gives = refl }) refl
    (quiet-trans m.kernel (also_held n m.kernel) k (quiet-also_held n m.kernel) (quiet-placed pid n (also_held n m.kernel))))

pub dup-tells : (m : Machine) (pid : ℕ) (v : View) → At m pid v DUP → RequestTells m pid v DUP (dup_row m pid v)
dup-tells m pid v at = dup-opened-tells m pid v at (description_of m.kernel pid (argument v.body.cpu 0))
