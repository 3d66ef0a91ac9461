-- The numbers of a window in which an image was started.
use Rattle.std.specs.Prelude.{◌≡◌, ℕ, ◌+◌, ◌-◌, ◌<◌, List, length, slice_index, option_map, unwrap_or}
use Rattle.parts_model.specs.declared.limits.TheConstants.{WINDOW_START}
use Rattle.parts_model.specs.Image.{header_len}
use Rattle.acts_model.specs.Moved.{within}
use Rattle.acts_model.specs.Views.{block_at}

-- how many bytes a private window has
abbrev pub window_len : ℕ
window_len = 262144

-- the number of the byte of an image's body at an address
abbrev pub body_number : ℕ → List ℕ → ℕ → ℕ
body_number load numbers at =
    unwrap_or (option_map (λ k. slice_index numbers (header_len + k)) (within load (length numbers - header_len) at)) 0

-- or of the argument block, which stands at the end
abbrev pub started_number : ℕ → List ℕ → (ℕ → ℕ) → ℕ → ℕ → ℕ
started_number load numbers block block_len at =
    unwrap_or (option_map block (within (block_at block_len) block_len at)) (body_number load numbers at)

-- each byte of the window has it
pub record IsStarted (load : ℕ) (numbers : List ℕ) (block : ℕ → ℕ) (block_len : ℕ) (window : List ℕ) : Type 0 where
  pub len : length window ≡ window_len
  pub bytes : (k : ℕ) → k < window_len → slice_index window k ≡ started_number load numbers block block_len (WINDOW_START + k)
