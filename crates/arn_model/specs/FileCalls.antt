-- The calls on names and descriptors: open, unlink, seek, close, dup.
use Rattle.std.specs.Prelude.{ℕ, ◌==◌, nat_lt, ◌||◌, not, Bool, if◌then◌else◌, List, [], ◌∷◌, length, Option, Some, None, is_some, unwrap_or}
use Rattle.arn_base.specs.declared.records.Extra.TheVariants as extra
use Rattle.parts_model.specs.declared.open.Description.{Description}
use Rattle.parts_model.specs.declared.open.Description.TheVariants as description
use Rattle.parts_model.specs.declared.refusals.TheConstants.{NO_FILE, BAD_DESCRIPTOR, NO_ROOM, BAD_ADDRESS, NAME_TAKEN, BAD_ARGUMENT, NO_DESCRIPTOR_ROOM}
use Rattle.parts_model.specs.Files.{find_file, file_bytes, is_full, made, next_file, unnamed, held}
use Rattle.acts_model.specs.Bodies.{View}
use Rattle.acts_model.specs.Views.{argument, can_reach}
use Rattle.arn_model.specs.Doing.{Request, Does, returning, returns, refused, refuse, unless_refused}
use Rattle.arn_model.specs.Kernel.{Kernel, Machine, description_of, what_is, next_descriptor, room_for, placed, opens, also_held, closes, with_description}
use Rattle.arn_model.specs.Paths.{isnt_path_len, path_of}

-- the process has no free descriptor
abbrev pub has_no_room : Kernel → ℕ → Bool
has_no_room k pid = room_for k pid == 0

-- a file is open under a descriptor more, at its beginning
abbrev pub opens_file : ℕ → ℕ → Kernel → Kernel
opens_file pid file k = opens pid (description.File file 0) (record k { files = held k.files file })

-- the record names the file
abbrev pub opened_as : Machine → ℕ → List ℕ → ℕ → Kernel → Request
opened_as m pid path file k = Does (returning (next_descriptor m.kernel pid) (extra.Name file path) (opens_file pid file k))

-- a file that there is
abbrev pub open_found : Machine → ℕ → List ℕ → Option ℕ → Request
open_found m pid path None = refused NO_FILE m.kernel
open_found m pid path (Some file) =
    unless_refused m.kernel (refuse NO_DESCRIPTOR_ROOM (has_no_room m.kernel pid) ∷ []) (opened_as m pid path file m.kernel)

-- a new file
abbrev pub open_new : Machine → ℕ → List ℕ → Request
open_new m pid path =
    unless_refused m.kernel
    (refuse NAME_TAKEN (is_some (find_file m.kernel.files path))
    ∷ refuse NO_DESCRIPTOR_ROOM (has_no_room m.kernel pid)
    ∷ refuse NO_ROOM (is_full m.kernel.files)
    ∷ [])
    (opened_as m pid path (next_file m.kernel.files) (record m.kernel { files = made m.kernel.files path [] }))

-- open(path, length, mode): mode 0 opens a file, mode 1 makes one. The descriptor
abbrev pub open_row : Machine → ℕ → View → Request
open_row m pid v =
    let at = argument v.body.cpu 0 in
    let len = argument v.body.cpu 1 in
    let mode = argument v.body.cpu 2 in
    let path = path_of v at len in
    unless_refused m.kernel
    (refuse BAD_ARGUMENT (isnt_path_len len || nat_lt 1 mode) ∷ refuse BAD_ADDRESS (not (can_reach v at len)) ∷ [])
    (if mode == 0 then open_found m pid path (find_file m.kernel.files path) else open_new m pid path)

abbrev pub unlink_found : Machine → List ℕ → Option ℕ → Request
unlink_found m path None = refused NO_FILE m.kernel
unlink_found m path (Some file) = Does (returning 0 (extra.Name file path) (record m.kernel { files = unnamed m.kernel.files path file }))

-- unlink(path, length): the name goes, and descriptions keep the file
abbrev pub unlink_row : Machine → ℕ → View → Request
unlink_row m pid v =
    let at = argument v.body.cpu 0 in
    let len = argument v.body.cpu 1 in
    unless_refused m.kernel
    (refuse BAD_ARGUMENT (isnt_path_len len) ∷ refuse BAD_ADDRESS (not (can_reach v at len)) ∷ [])
    (unlink_found m (path_of v at len) (find_file m.kernel.files (path_of v at len)))

-- how many bytes a file has
abbrev pub file_len : Kernel → ℕ → ℕ
file_len k file = length (unwrap_or (file_bytes k.files file) [])

abbrev pub seek_in : Machine → ℕ → ℕ → Description → Request
seek_in m n position (description.File file old) =
    unless_refused m.kernel
    (refuse BAD_ARGUMENT (nat_lt (file_len m.kernel file) position) ∷ [])
    (returns position (with_description n (description.File file position) m.kernel))
seek_in m n position other = refused BAD_ARGUMENT m.kernel

abbrev pub seek_what : Machine → ℕ → ℕ → Option Description → Request
seek_what m n position None = refused BAD_DESCRIPTOR m.kernel
seek_what m n position (Some what) = seek_in m n position what

abbrev pub seek_opened : Machine → ℕ → Option ℕ → Request
seek_opened m position None = refused BAD_DESCRIPTOR m.kernel
seek_opened m position (Some n) = seek_what m n position (what_is m.kernel n)

-- seek(descriptor, position): the position, at most the file's length
abbrev pub seek_row : Machine → ℕ → View → Request
seek_row m pid v = seek_opened m (argument v.body.cpu 1) (description_of m.kernel pid (argument v.body.cpu 0))

abbrev pub close_opened : Machine → ℕ → ℕ → Option ℕ → Request
close_opened m pid fd None = refused BAD_DESCRIPTOR m.kernel
close_opened m pid fd (Some n) = returns 0 (closes pid fd n m.kernel)

-- close(descriptor)
abbrev pub close_row : Machine → ℕ → View → Request
close_row m pid v = close_opened m pid (argument v.body.cpu 0) (description_of m.kernel pid (argument v.body.cpu 0))

abbrev pub dup_opened : Machine → ℕ → Option ℕ → Request
dup_opened m pid None = refused BAD_DESCRIPTOR m.kernel
dup_opened m pid (Some n) =
    unless_refused m.kernel
    (refuse NO_DESCRIPTOR_ROOM (has_no_room m.kernel pid) ∷ [])
    (returns (next_descriptor m.kernel pid) (placed pid n (also_held n m.kernel)))

-- dup(descriptor): a descriptor of the same description
abbrev pub dup_row : Machine → ℕ → View → Request
dup_row m pid v = dup_opened m pid (description_of m.kernel pid (argument v.body.cpu 0))
