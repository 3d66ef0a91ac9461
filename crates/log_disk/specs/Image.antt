-- The bytes of a disk in memory.
use Rattle.std.specs.Prelude.{ℕ, List}
use Rattle.log_disk.specs.declared.image.Image.{Image}
use Rattle.log_disk.specs.declared.image.Image.TheVariants.{Given, Own}

-- the bytes, whether they were handed in or copied
abbrev pub image_bytes : Image → List ℕ
image_bytes (Given bytes) = bytes
image_bytes (Own bytes) = bytes.items
