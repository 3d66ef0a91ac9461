-- What was put of a text.
use Rattle.std.specs.Prelude.{◌≡◌, ◌≢◌, ℕ, List, [], ◌++◌, Option, option_map}
use Rattle.session_effects.specs.declared.halt.Halt.{Halt}
use Rattle.session_effects.specs.declared.halt.Halt.TheVariants as halt

-- a beginning of the bytes was put, perhaps none or all of them; the others are left
pub record PutsFront (bytes : List ℕ) (held holds : Option (List ℕ)) : Type 0 where
  pub put : List ℕ
  pub left : List ℕ
  pub are_bytes : bytes ≡ put ++ left
  pub printed : holds ≡ option_map (λ before. before ++ put) held

-- a beginning of the bytes was put, but not all of them
pub record PutsLess (bytes : List ℕ) (held holds : Option (List ℕ)) : Type 0 where
  pub front : PutsFront bytes held holds
  pub some_left : front.left ≢ []

-- the sink failed, or there was no memory
abbrev pub StopsPut : Halt → List ℕ → Option (List ℕ) → Option (List ℕ) → Type 0
StopsPut halt.Sink text held holds = PutsLess text held holds
StopsPut halt.NoMemory text held holds = PutsFront text held holds
StopsPut halt.Source text held holds = ⊥
StopsPut halt.Long text held holds = ⊥
StopsPut halt.Disk text held holds = ⊥
StopsPut (halt.Full log payload) text held holds = ⊥
StopsPut (halt.Differs d) text held holds = ⊥
