-- Open descriptions as they are kept.
use Rattle.std.specs.Prelude.{ℕ, ◌-◌, ◌+◌, nat_lt, if◌then◌else◌, [], ◌∷◌, List, map, Option, Some, None, option_map, slice_set}
use Rattle.parts_model.specs.declared.open.Description.{Description}
use Rattle.parts_model.specs.declared.open.Description.TheVariants.{Console}
use Rattle.arn_model.specs.Kernel.{Opened, with_count}
use Rattle.guest_resources.specs.declared.descriptions.Opened as code

abbrev pub opened_of : code.Opened → Opened
opened_of o = record { what = o.what; descriptors = o.descriptors }

abbrev pub shown_all : List (Option code.Opened) → List (Option Opened)
shown_all all = map (option_map opened_of) all

-- one descriptor more stands for a description that is there
abbrev pub more : ℕ → Option Opened → List (Option Opened) → List (Option Opened)
more n None all = all
more n (Some o) all = slice_set all n (Some (with_count (λ c. c + 1) o))

-- one descriptor fewer: a description without any is gone
abbrev pub fewer : ℕ → Option Opened → List (Option Opened) → List (Option Opened)
fewer n None all = all
fewer n (Some o) all = if nat_lt 1 o.descriptors then slice_set all n (Some (with_count (λ c. c - 1) o)) else slice_set all n None

-- what it was, if it is gone
abbrev pub last_of : Option Opened → Option Description
last_of None = None
last_of (Some o) = if nat_lt 1 o.descriptors then None else Some o.what

-- what is open as process 1 begins: the console, for which three descriptors stand
abbrev pub first_descriptions : List (Option Opened)
first_descriptions = Some (record { what = Console; descriptors = 3 }) ∷ []
