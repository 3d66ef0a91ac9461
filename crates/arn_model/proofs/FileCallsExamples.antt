-- The calls on names and descriptors at literal values.
use Rattle.std.proofs.Common.{◌≡◌, ℕ, [], ◌∷◌, ◌++◌, Option, Some, None, replicate, true, false, refl}
use Rattle.arn_base.specs.declared.records.Extra.{Extra}
use Rattle.arn_base.specs.declared.records.Extra.TheVariants as extra
use Rattle.parts_model.specs.declared.open.Description.TheVariants as description
use Rattle.parts_model.specs.Pipes.{Pipe}
use Rattle.acts_model.specs.Acts.{Returns}
use Rattle.acts_model.specs.Moved.{Nothing}
use Rattle.arn_model.specs.Doing.{Request, Does}
use Rattle.arn_model.specs.Kernel.{Kernel}
use Rattle.arn_model.specs.Row.{row}
use Rattle.arn_model.proofs.Literals.{minus, calling, alone, opening, files_held, kernel, kernel_with, crowded, at_event_5, results}

-- a call ends with a result, and its record holds this beside
results_with : ℕ → Extra → Kernel → Request
results_with result more k = Does (record { act = Returns result; extra = more; incoming = Nothing; outgoing = None; bytes = []; kernel = k })

-- open: file `a` under the lowest free descriptor, at its beginning
opens-found :
    row 9 (at_event_5 kernel) 1 (calling (0x10000 ∷ 1 ∷ 0 ∷ [])) ≡
    results_with 3 (extra.Name 0 (97 ∷ [])) (record (kernel_with (description.File 0 0)) { files = files_held 1 })
unfolding row results_with
opens-found = refl

-- where descriptor 1 is closed, that is the lowest
with_hole : Kernel
with_hole = record kernel { processes = alone (Some 0 ∷ None ∷ Some 0 ∷ []); descriptions = opening description.Console 2 ∷ [] }

open-edges :
    (row 9 (at_event_5 with_hole) 1 (calling (0x10000 ∷ 1 ∷ 0 ∷ [])) ≡
    results_with 1 (extra.Name 0 (97 ∷ []))
    (record kernel {
      processes = alone (Some 0 ∷ Some 1 ∷ Some 0 ∷ []);
      descriptions = opening description.Console 2 ∷ opening (description.File 0 0) 1 ∷ [];
      files = files_held 1;
    }))
    -- mode 1 makes file 1, named `ab`, which is empty
    × (row 9 (at_event_5 kernel) 1 (calling (0x10000 ∷ 2 ∷ 1 ∷ [])) ≡
    results_with 3 (extra.Name 1 (97 ∷ 98 ∷ []))
    (record (kernel_with (description.File 1 0)) {
      files =
          record {
            all = (files_held 0).all ++ Some (record { bytes = []; holders = 1 }) ∷ [];
            names = record { path = 97 ∷ []; file = 0 } ∷ record { path = 97 ∷ 98 ∷ []; file = 1 } ∷ [];
          };
    }))
    -- -22 before -14: a length of 0 or above 64, and a mode above 1, at no address
    × (row 9 (at_event_5 kernel) 1 (calling (0 ∷ 0 ∷ 0 ∷ [])) ≡ results (minus 22) kernel)
    × (row 9 (at_event_5 kernel) 1 (calling (0 ∷ 65 ∷ 0 ∷ [])) ≡ results (minus 22) kernel)
    × (row 9 (at_event_5 kernel) 1 (calling (0 ∷ 1 ∷ 2 ∷ [])) ≡ results (minus 22) kernel)
unfolding row results_with with_hole
open-edges = (refl, refl, refl, refl, refl)

-- -14 before -24: the range isn't whole in the window, in both modes
open-errors :
    (row 9 (at_event_5 (crowded kernel)) 1 (calling (0x10007 ∷ 2 ∷ 0 ∷ [])) ≡ results (minus 14) (crowded kernel))
    × (row 9 (at_event_5 (crowded kernel)) 1 (calling (0x10007 ∷ 2 ∷ 1 ∷ [])) ≡ results (minus 14) (crowded kernel))
    -- mode 0: -2 before -24
    × (row 9 (at_event_5 (crowded kernel)) 1 (calling (0x10000 ∷ 2 ∷ 0 ∷ [])) ≡ results (minus 2) (crowded kernel))
    × (row 9 (at_event_5 (crowded kernel)) 1 (calling (0x10000 ∷ 1 ∷ 0 ∷ [])) ≡ results (minus 24) (crowded kernel))
    -- mode 1: -17 before -24, -24 before -12, and -12 at 1,024 files
    × (row 9 (at_event_5 (crowded kernel)) 1 (calling (0x10000 ∷ 1 ∷ 1 ∷ [])) ≡ results (minus 17) (crowded kernel))
unfolding row
open-errors = (refl, refl, refl, refl, refl)

-- these are held, and one has a name
many_files : Kernel
many_files = record kernel { files = record (files_held 0) { all = replicate 1024 (Some (record { bytes = []; holders = 1 })) } }

make-errors :
    (row 9 (at_event_5 (crowded many_files)) 1 (calling (0x10000 ∷ 2 ∷ 1 ∷ [])) ≡ results (minus 24) (crowded many_files))
    × (row 9 (at_event_5 many_files) 1 (calling (0x10000 ∷ 2 ∷ 1 ∷ [])) ≡ results (minus 12) many_files)
    × (row 9 (at_event_5 many_files) 1 (calling (0x10000 ∷ 1 ∷ 1 ∷ [])) ≡ results (minus 17) many_files)
    -- close: one of three descriptors of the console; the last of a file
    × (row 10 (at_event_5 kernel) 1 (calling (1 ∷ [])) ≡
    results 0 (record kernel { processes = alone (Some 0 ∷ None ∷ Some 0 ∷ []); descriptions = opening description.Console 2 ∷ [] }))
unfolding row many_files
make-errors = (refl, refl, refl, refl)

held_file : Kernel
held_file = record (kernel_with (description.File 0 2)) { files = files_held 1 }

closes-file : row 10 (at_event_5 held_file) 1 (calling (3 ∷ [])) ≡ results 0 (record kernel { descriptions = opening description.Console 3 ∷ None ∷ [] })
unfolding row held_file
closes-file = refl

-- the last of a listener: its port is free, and what waits there loses the server's ends. The client reads pipe 1 and writes pipe 0
pipe_open : Option Pipe
pipe_open = Some (record { channel = record { taken = 0; queue = [] }; has_reader = true; has_writer = true })

listening : Kernel
listening =
    record (kernel_with (description.Listener 80)) {
      pipes = pipe_open ∷ pipe_open ∷ [];
      ports = record { number = 80; waiting = record { to_server = 0; to_client = 1 } ∷ [] } ∷ [];
    }

closes-listener :
    row 10 (at_event_5 listening) 1 (calling (3 ∷ [])) ≡
    results 0
    (record kernel {
      descriptions = opening description.Console 3 ∷ None ∷ [];
      pipes =
          Some (record { channel = record { taken = 0; queue = [] }; has_reader = false; has_writer = true })
          ∷ Some (record { channel = record { taken = 0; queue = [] }; has_reader = true; has_writer = false })
          ∷ [];
    })
unfolding row listening pipe_open
closes-listener = refl

-- the last of a connection, which reads pipe 0 and writes pipe 1
connection : Kernel
connection = record (kernel_with (description.Connection 0 1)) { pipes = pipe_open ∷ pipe_open ∷ [] }

close-and-seek :
    (row 10 (at_event_5 connection) 1 (calling (3 ∷ [])) ≡
    results 0
    (record kernel {
      descriptions = opening description.Console 3 ∷ None ∷ [];
      pipes =
          Some (record { channel = record { taken = 0; queue = [] }; has_reader = false; has_writer = true })
          ∷ Some (record { channel = record { taken = 0; queue = [] }; has_reader = true; has_writer = false })
          ∷ [];
    }))
    -- a descriptor that isn't open, and a number that none has
    × (row 10 (at_event_5 kernel) 1 (calling (3 ∷ [])) ≡ results (minus 9) kernel)
    × (row 10 (at_event_5 kernel) 1 (calling (16 ∷ [])) ≡ results (minus 9) kernel)
    -- seek: as far as the file's length
    × (row 13 (at_event_5 held_file) 1 (calling (3 ∷ 3 ∷ [])) ≡ results 3 (record held_file { descriptions = opening description.Console 3 ∷ opening (description.File 0 3) 1 ∷ [] }))
    × (row 13 (at_event_5 held_file) 1 (calling (3 ∷ 4 ∷ [])) ≡ results (minus 22) held_file)
    × (row 13 (at_event_5 kernel) 1 (calling (0 ∷ 0 ∷ [])) ≡ results (minus 22) kernel)
unfolding row connection pipe_open held_file
close-and-seek = (refl, refl, refl, refl, refl, refl)

-- -9 before -22
dup-and-unlink :
    (row 13 (at_event_5 kernel) 1 (calling (3 ∷ 4 ∷ [])) ≡ results (minus 9) kernel)
    -- dup: the same description
    × (row 14 (at_event_5 kernel) 1 (calling (1 ∷ [])) ≡
    results 3 (record kernel { processes = alone (Some 0 ∷ Some 0 ∷ Some 0 ∷ Some 0 ∷ []); descriptions = opening description.Console 4 ∷ [] }))
    -- -9 before -24
    × (row 14 (at_event_5 (crowded kernel)) 1 (calling (16 ∷ [])) ≡ results (minus 9) (crowded kernel))
    × (row 14 (at_event_5 (crowded kernel)) 1 (calling (1 ∷ [])) ≡ results (minus 24) (crowded kernel))
    -- unlink: the name goes, and a description keeps the file
    × (row 16 (at_event_5 held_file) 1 (calling (0x10000 ∷ 1 ∷ [])) ≡
    results_with 0 (extra.Name 0 (97 ∷ [])) (record held_file { files = record (files_held 1) { names = [] } }))
    × (row 16 (at_event_5 kernel) 1 (calling (0x10000 ∷ 1 ∷ [])) ≡
    results_with 0 (extra.Name 0 (97 ∷ [])) (record kernel { files = record { all = None ∷ []; names = [] } }))
unfolding row results_with held_file
dup-and-unlink = (refl, refl, refl, refl, refl, refl)

-- -22 before -14, then -2
unlink :
    (row 16 (at_event_5 kernel) 1 (calling (0 ∷ 0 ∷ [])) ≡ results (minus 22) kernel)
    × (row 16 (at_event_5 kernel) 1 (calling (0 ∷ 65 ∷ [])) ≡ results (minus 22) kernel)
    × (row 16 (at_event_5 kernel) 1 (calling (0x10007 ∷ 2 ∷ [])) ≡ results (minus 14) kernel)
    × (row 16 (at_event_5 kernel) 1 (calling (0x10000 ∷ 2 ∷ [])) ≡ results (minus 2) kernel)
unfolding row
unlink = (refl, refl, refl, refl)
