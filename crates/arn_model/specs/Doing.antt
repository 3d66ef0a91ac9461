-- What the kernel decides of a call.
use Rattle.std.specs.Prelude.{ℕ, Bool, if◌then◌else◌, List, [], ◌∷◌, Option, None}
use Rattle.arn_base.specs.declared.records.Extra.{Extra}
use Rattle.arn_base.specs.declared.records.Extra.TheVariants as extra
use Rattle.acts_model.specs.Acts.{Act, Returns}
use Rattle.acts_model.specs.Moved.{Range, Incoming, Nothing}
use Rattle.acts_model.specs.Views.{error}
use Rattle.arn_model.specs.Kernel.{Kernel}

-- what a call does: the process's act, what the record holds beside the result, where received bytes come from, what given bytes become,
-- the bytes of the event, and the kernel afterwards
pub record Doing : Type 0 where
  pub act : Act
  pub extra : Extra
  pub incoming : Incoming
  pub outgoing : Option Range
  pub bytes : List ℕ
  pub kernel : Kernel

-- what a call asks a device: whether it is there, for so many bytes to an address, or to take so many from one
pub data Question : Type 0 where
  Here : (device : ℕ) → Question
  Reads : (device at len : ℕ) → Question
  Writes : (device at len : ℕ) → Question

-- what a call comes to: it isn't ready, it does this, or it asks first
pub data Request : Type 0 where
  Waits : Request
  Does : Doing → Request
  Asks : Question → Request

-- it ends with a result and moves no bytes
abbrev pub returning : ℕ → Extra → Kernel → Doing
returning result more k = record { act = Returns result; extra = more; incoming = Nothing; outgoing = None; bytes = []; kernel = k }

abbrev pub returns : ℕ → Kernel → Request
returns result k = Does (returning result extra.Nothing k)

-- it is refused with an error, and nothing else changes
abbrev pub refused : ℕ → Kernel → Request
refused number k = returns (error number) k

-- a refusal, and whether it applies
pub record Refusal : Type 0 where
  pub number : ℕ
  pub applies : Bool

abbrev pub refuse : ℕ → Bool → Refusal
refuse number applies = record { number = number; applies = applies }

-- Refusals are looked at from left to right: the first that applies is the result. Where none does, the call goes on.
abbrev pub unless_refused : Kernel → List Refusal → Request → Request
unless_refused k [] goes_on = goes_on
unless_refused k (r ∷ refusals) goes_on = if r.applies then refused r.number k else unless_refused k refusals goes_on
