-- What a line says.
use Rattle.std.specs.Prelude.{◌≡◌, ℕ, ◌<◌, ◌≤◌, ◌&&◌, if◌then◌else◌, List, [], ◌∷◌, ◌++◌, length, take, drop, Option, Some, None, bytes_eq, codes}
use Rattle.arn_lines.specs.declared.line.Line.{Line}
use Rattle.arn_lines.specs.declared.line.Line.TheVariants as line
use Rattle.arn_lines.specs.declared.line.LineReading.{LineReading}
use Rattle.arn_lines.specs.declared.line.LineReading.TheVariants.{PassedOver, TooLong, Unreadable, Says, Generates}
use Rattle.arn_lines.specs.declared.line.TheConstants.{MOST_GENERATED, MOST_LINE, MOST_RUN}
use Rattle.arn_lines.specs.Words.{is_name, IsName, IsBytes, IsNumber, space}
use Rattle.arn_lines.specs.Questions.{IsQuestion}

-- `file NAME HEX`
pub record IsFile (text name bytes : List ℕ) : Type 0 where
  pub hex : List ℕ
  pub is_name : IsName name
  pub is_bytes : IsBytes hex bytes
  pub is_text : text ≡ codes "file " ++ name ++ space ++ hex

-- `boot NAME`
pub record IsBoot (text name : List ℕ) : Type 0 where
  pub is_name : IsName name
  pub is_text : text ≡ codes "boot " ++ name

-- `type HEX`
pub record IsType (text bytes : List ℕ) : Type 0 where
  pub hex : List ℕ
  pub is_bytes : IsBytes hex bytes
  pub is_text : text ≡ codes "type " ++ hex

-- `run N`
pub record IsRun (text : List ℕ) (count : ℕ) : Type 0 where
  pub number : List ℕ
  pub is_number : IsNumber number count
  pub at_most : count ≤ MOST_RUN
  pub is_text : text ≡ codes "run " ++ number

-- `unplug N`
pub record IsUnplug (text : List ℕ) (device : ℕ) : Type 0 where
  pub number : List ℕ
  pub is_number : IsNumber number device
  pub is_text : text ≡ codes "unplug " ++ number

-- the name in a line `asm NAME`, which opens a block: the lines behind it, up to `end`, belong to it
abbrev pub block_name : List ℕ → Option (List ℕ)
block_name text = if bytes_eq (take 4 text) (codes "asm ") && is_name (drop 4 text) then Some (drop 4 text) else None

-- the grammar of the lines that stand by themselves: the text says this line
abbrev pub IsLine : List ℕ → Line → Type 0
IsLine text (line.File name bytes) = IsFile text name bytes
IsLine text (line.Boot name) = IsBoot text name
IsLine text (line.Type bytes) = IsType text bytes
IsLine text (line.Run count) = IsRun text count
IsLine text (line.Unplug device) = IsUnplug text device
IsLine text (line.Asks asked) = IsQuestion text asked

-- `gen SEED N`, which the generator answers with N processes
pub record IsGen (text : List ℕ) (seed processes : ℕ) : Type 0 where
  pub seed_word : List ℕ
  pub processes_word : List ℕ
  pub is_seed : IsNumber seed_word seed
  pub is_processes : IsNumber processes_word processes
  pub at_least : 1 ≤ processes
  pub at_most : processes ≤ MOST_GENERATED
  pub is_text : text ≡ codes "gen " ++ seed_word ++ space ++ processes_word

-- a line that is passed over: an empty one, and one that begins with `#`, whatever its length
abbrev pub IsPassedOver : List ℕ → Type 0
IsPassedOver [] = Unit {0}
IsPassedOver (c ∷ text) = c ≡ 35

-- a line that isn't passed over, and is too long, whatever it says
pub record IsTooLong (text : List ℕ) : Type 0 where
  pub not_passed_over : ¬ IsPassedOver text
  pub long : MOST_LINE < length text

-- a line that isn't passed over or too long, and is no line of the grammar
pub record IsUnreadable (text : List ℕ) : Type 0 where
  pub not_passed_over : ¬ IsPassedOver text
  pub not_long : length text ≤ MOST_LINE
  pub says_nothing : (l : Line) → ¬ IsLine text l
  pub generates_nothing : (seed processes : ℕ) → ¬ IsGen text seed processes

-- what a line is that stands by itself
abbrev pub Reads : List ℕ → LineReading → Type 0
Reads text PassedOver = IsPassedOver text
Reads text TooLong = IsTooLong text
Reads text Unreadable = IsUnreadable text
Reads text (Says l) = (length text ≤ MOST_LINE) × IsLine text l
Reads text (Generates seed processes) = (length text ≤ MOST_LINE) × IsGen text seed processes

-- two readings of one line are one
abbrev pub ReadsOneWay : Type 0
ReadsOneWay = (text : List ℕ) (a b : LineReading) → Reads text a → Reads text b → a ≡ b
