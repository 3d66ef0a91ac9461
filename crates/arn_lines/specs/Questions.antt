-- What a line asks that is a question about the history.
use Rattle.std.specs.Prelude.{◌≡◌, ℕ, List, [], ◌∷◌, ◌++◌, codes}
use Rattle.rv64_model.specs.declared.linkage.Linkage.{Linkage}
use Rattle.rv64_model.specs.declared.linkage.Linkage.TheVariants.{Copy, Data, Index}
use Rattle.arn_lines.specs.declared.line.Aspect.{Aspect}
use Rattle.arn_lines.specs.declared.line.Aspect.TheVariants as aspect
use Rattle.arn_lines.specs.declared.line.Question.{Question}
use Rattle.arn_lines.specs.declared.line.Question.TheVariants as question
use Rattle.arn_lines.specs.declared.line.Sought.{Sought}
use Rattle.arn_lines.specs.declared.line.Sought.TheVariants as sought
use Rattle.arn_lines.specs.Words.{IsName, IsNumber, space}

-- the word names the linkage
abbrev pub IsLinkage : List ℕ → Linkage → Type 0
IsLinkage word Copy = word ≡ codes "copy"
IsLinkage word Data = word ≡ codes "data"
IsLinkage word Index = word ≡ codes "index"

-- a number, one space, and the rest
pub record IsNumberAnd (text : List ℕ) (n : ℕ) (rest : List ℕ) : Type 0 where
  pub number : List ℕ
  pub is_number : IsNumber number n
  pub is_text : text ≡ number ++ space ++ rest

-- numbers behind one another, with one space between
abbrev pub AreNumbers : List ℕ → List ℕ → Type 0
AreNumbers text [] = ⊥
AreNumbers text (n ∷ []) = IsNumber text n
AreNumbers text (n ∷ m ∷ more) = (rest : List ℕ) × IsNumberAnd text n rest × AreNumbers rest (m ∷ more)

-- a keyword, and numbers behind it
pub record IsKeyed (text keyword : List ℕ) (values : List ℕ) : Type 0 where
  pub numbers : List ℕ
  pub are_numbers : AreNumbers numbers values
  pub is_text : text ≡ keyword ++ space ++ numbers

-- what is shown: `regs PID`, `mem PID ADDR LEN`, `file NAME` or `procs`
abbrev pub IsAspect : List ℕ → Aspect → Type 0
IsAspect text (aspect.Registers pid) = IsKeyed text (codes "regs") (pid ∷ [])
IsAspect text (aspect.Memory pid at len) = IsKeyed text (codes "mem") (pid ∷ at ∷ len ∷ [])
IsAspect text (aspect.File name) = IsName name × (text ≡ codes "file " ++ name)
IsAspect text aspect.Processes = text ≡ codes "procs"

-- `name M NAME FROM LEN`
pub record IsNamed (text : List ℕ) (moment : ℕ) (name : List ℕ) (from len : ℕ) : Type 0 where
  pub moment_text : List ℕ
  pub range : List ℕ
  pub is_moment : IsNumber moment_text moment
  pub is_name : IsName name
  pub is_range : AreNumbers range (from ∷ len ∷ [])
  pub is_text : text ≡ codes "name " ++ (moment_text ++ space ++ (name ++ space ++ range))

-- the bytes that are sought: `event E FROM LEN`, `mem M PID ADDR LEN`, `reg M PID R` or `name M NAME FROM LEN`
abbrev pub IsSought : List ℕ → Sought → Type 0
IsSought text (sought.Event event from len) = IsKeyed text (codes "event") (event ∷ from ∷ len ∷ [])
IsSought text (sought.Memory moment pid at len) = IsKeyed text (codes "mem") (moment ∷ pid ∷ at ∷ len ∷ [])
IsSought text (sought.Register moment pid register) = IsKeyed text (codes "reg") (moment ∷ pid ∷ register ∷ [])
IsSought text (sought.Name moment name from len) = IsNamed text moment name from len

-- `show M regs PID` and the like
pub record IsShow (text : List ℕ) (moment : ℕ) (shown : Aspect) : Type 0 where
  pub moment_text : List ℕ
  pub aspect_text : List ℕ
  pub is_moment : IsNumber moment_text moment
  pub is_aspect : IsAspect aspect_text shown
  pub is_text : text ≡ codes "show " ++ (moment_text ++ space ++ aspect_text)

-- `back LINKAGE event E FROM LEN` and the like
pub record IsBack (text : List ℕ) (linkage : Linkage) (bytes : Sought) : Type 0 where
  pub linkage_text : List ℕ
  pub sought_text : List ℕ
  pub is_linkage : IsLinkage linkage_text linkage
  pub is_sought : IsSought sought_text bytes
  pub is_text : text ≡ codes "back " ++ (linkage_text ++ space ++ sought_text)

-- `forth LINKAGE E FROM LEN`
pub record IsForth (text : List ℕ) (linkage : Linkage) (event from len : ℕ) : Type 0 where
  pub linkage_text : List ℕ
  pub numbers : List ℕ
  pub is_linkage : IsLinkage linkage_text linkage
  pub are_numbers : AreNumbers numbers (event ∷ from ∷ len ∷ [])
  pub is_text : text ≡ codes "forth " ++ (linkage_text ++ space ++ numbers)

-- a line that asks a question about the history
abbrev pub IsQuestion : List ℕ → Question → Type 0
IsQuestion text (question.Show moment shown) = IsShow text moment shown
IsQuestion text (question.Back linkage bytes) = IsBack text linkage bytes
IsQuestion text (question.Forth linkage event from len) = IsForth text linkage event from len
IsQuestion text question.Groups = text ≡ codes "groups"
IsQuestion text question.Events = text ≡ codes "events"
IsQuestion text question.Verify = text ≡ codes "verify"
