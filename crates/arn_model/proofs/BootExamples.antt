-- The boot at literal values.
use Rattle.std.proofs.Common.{◌≡◌, ℕ, List, [], ◌∷◌, ◌++◌, length, map, take, codes, Some, None, option_map, refl}
use Rattle.arn_base.specs.declared.records.Record.TheVariants as entry
use Rattle.acts_model.specs.Bodies.{seen, body_at, memory_at, put, remove}
use Rattle.acts_model.specs.Moved.{Outside, From, FileByte}
use Rattle.acts_model.specs.Transfers.{Arrives, Starts}
use Rattle.acts_model.specs.Views.{cpu_at}
use Rattle.rv64_model.specs.Registers.{with_register}
use Rattle.parts_model.specs.Tagged.{held_bytes}
use Rattle.arn_model.specs.Run.{Input, File, Boot, run, machine_after, events_of}
use Rattle.arn_model.proofs.Literals.{kernel}

-- an image of one word, in a file `b`
image : List ℕ
image = codes "ARNIMG01" ++ (0 ∷ 0 ∷ 1 ∷ 0 ∷ 0 ∷ 0 ∷ 0 ∷ 0 ∷ 0 ∷ 0 ∷ 1 ∷ 0 ∷ 0 ∷ 0 ∷ 0 ∷ 0 ∷ 0x73 ∷ 0 ∷ 0 ∷ 0 ∷ [])

booting : List Input
booting = File (98 ∷ []) image ∷ Boot (98 ∷ []) ∷ []

-- the record of the boot holds the image with its origins
boot-recorded :
    events_of (run booting) ≡
    record { number = 0; entry = entry.File (98 ∷ []) image }
    ∷ record {
      number = 1;
      entry = entry.Boot (98 ∷ []) (record { bytes = image; origins = record { event = 0; at = 0; len = 28 } ∷ [] });
    }
    ∷ []
unfolding booting image body_at memory_at put remove
boot-recorded = refl

-- its bytes come from the file, and are those of its event
boot-moves :
    (map (λ s. s.moved.inside.transfer) (run booting) ≡ Arrives 28 ∷ Starts 1 1 0x10000 28 None 0 ∷ [])
    × (map (λ s. s.moved.incoming) (run booting) ≡ Outside ∷ From (record { first = FileByte 0 0; len = 28 }) ∷ [])
    × (map (λ s. s.bytes) (run booting) ≡ image ∷ image ∷ [])
unfolding booting image body_at memory_at put remove
boot-moves = (refl, refl, refl)

-- process 1 stands at the entry. There is no argument block: x10 and x2 are the window's end, and x11 is 0
boot-begins :
    (option_map (λ v. v.body) (seen (machine_after booting).bodies 1) ≡
    Some (record { cpu = with_register (with_register (cpu_at 0x10000) 10 0x50000) 2 0x50000; slot = None; window = 1; segment = None }))
    -- its window has the image's body at the load address, and zeros
    × (option_map (λ v. length v.window) (seen (machine_after booting).bodies 1) ≡ Some 262144)
    × (option_map (λ v. take 6 v.window) (seen (machine_after booting).bodies 1) ≡ Some (0x73 ∷ 0 ∷ 0 ∷ 0 ∷ 0 ∷ 0 ∷ []))
unfolding booting image body_at memory_at put remove
boot-begins = (refl, refl, refl)

-- and the kernel has process 1 with its three descriptors on the console
boot-kernel :
    (machine_after booting).kernel ≡
    record kernel { files = record { all = Some (record { bytes = held_bytes 0 image; holders = 0 }) ∷ []; names = record { path = 98 ∷ []; file = 0 } ∷ [] } }
unfolding booting image body_at memory_at put remove
boot-kernel = refl
