-- A line begins with one keyword, and reads one way: all that a line by itself has of its own.
use Rattle.std.proofs.Common.{◌≡◌, ℕ, ◌<◌, Bool, true, false, leb, ◌==◌, List, [], ◌∷◌, ◌++◌, length, get_or, drop, codes, inl, inr, refl, sym, ap, subst, ◌∙◌, arith, IfNone, if◌then◌else◌, leb-false}
use Rattle.std.specs.Bool.{then_some}
use Rattle.arn_lines.specs.declared.line.TheConstants.{MOST_RUN}
use Rattle.arn_lines.specs.declared.line.Line.{Line}
use Rattle.arn_lines.specs.declared.line.Line.TheVariants as line
use Rattle.arn_lines.specs.declared.line.Question.{Question}
use Rattle.arn_lines.specs.declared.line.Question.TheVariants as question
use Rattle.arn_lines.specs.Grammar.{IsBoot, IsFile, IsLine, IsRun, IsType, IsUnplug}
use Rattle.arn_lines.specs.Pieces.{IsFirstWord, SaysNothing}
use Rattle.arn_lines.specs.Questions.{IsQuestion}
use Rattle.arn_lines.specs.Words.{IsBytes, IsHex, IsName, IsNumber, space}
use Rattle.arn_lines.proofs.FirstWords.{IsFirstWord-same, no_space-IsName}
use Rattle.arn_lines.proofs.HexBytes.{IsHex-same}
use Rattle.arn_lines.proofs.Numbers.{IsNumber-same}
use Rattle.arn_lines.proofs.QuestionKinds.{IsQuestion-same}

-- which keyword a text begins with tells what kind of line it is
pub data LineKind : Type 0 where
  AtFile : LineKind
  AtBoot : LineKind
  AtType : LineKind
  AtRun : LineKind
  AtUnplug : LineKind
  AtQuestion : LineKind

abbrev pub line_kind : List ℕ → LineKind
line_kind text =
    if get_or text 0 0 == 102 then (if get_or text 1 0 == 105 then AtFile else AtQuestion)
    else if get_or text 0 0 == 98 then (if get_or text 1 0 == 111 then AtBoot else AtQuestion)
    else if get_or text 0 0 == 116 then AtType
    else if get_or text 0 0 == 114 then AtRun
    else if get_or text 0 0 == 117 then AtUnplug
    else AtQuestion

abbrev pub IsLineOf : LineKind → List ℕ → Line → Type 0
IsLineOf AtFile text l = (name : List ℕ) × (bytes : List ℕ) × (l ≡ line.File name bytes) × IsFile text name bytes
IsLineOf AtBoot text l = (name : List ℕ) × (l ≡ line.Boot name) × IsBoot text name
IsLineOf AtType text l = (bytes : List ℕ) × (l ≡ line.Type bytes) × IsType text bytes
IsLineOf AtRun text l = (count : ℕ) × (l ≡ line.Run count) × IsRun text count
IsLineOf AtUnplug text l = (device : ℕ) × (l ≡ line.Unplug device) × IsUnplug text device
IsLineOf AtQuestion text l = (q : Question) × (l ≡ line.Asks q) × IsQuestion text q

question-kind : (text : List ℕ) (q : Question) → IsQuestion text q → line_kind text ≡ AtQuestion
question-kind text question.Groups h = ap line_kind h
question-kind text question.Events h = ap line_kind h
question-kind text question.Verify h = ap line_kind h
question-kind text _ h = ap line_kind h.is_text

pub IsLine-kind : (text : List ℕ) (l : Line) → IsLine text l → IsLineOf (line_kind text) text l
IsLine-kind text (line.File name bytes) h =
    subst (λ xs. IsLineOf (line_kind xs) text (line.File name bytes)) (sym h.is_text) (name, bytes, refl, h)
IsLine-kind text (line.Boot name) h = subst (λ xs. IsLineOf (line_kind xs) text (line.Boot name)) (sym h.is_text) (name, refl, h)
IsLine-kind text (line.Type bytes) h = subst (λ xs. IsLineOf (line_kind xs) text (line.Type bytes)) (sym h.is_text) (bytes, refl, h)
IsLine-kind text (line.Run count) h = subst (λ xs. IsLineOf (line_kind xs) text (line.Run count)) (sym h.is_text) (count, refl, h)
IsLine-kind text (line.Unplug device) h =
    subst (λ xs. IsLineOf (line_kind xs) text (line.Unplug device)) (sym h.is_text) (device, refl, h)
IsLine-kind text (line.Asks q) h =
    subst (λ kind. IsLineOf kind text (line.Asks q)) (sym (question-kind text q h)) (q, refl, h)

pub no_file_line : (text : List ℕ) → ((name bytes : List ℕ) → ¬ IsFile (codes "file " ++ text) name bytes)
    → SaysNothing (codes "file " ++ text)
no_file_line text none l h =
    let file : IsLineOf AtFile (codes "file " ++ text) l = IsLine-kind (codes "file " ++ text) l h in
    none file.0 file.1 file.3

pub no_type_line : (text : List ℕ) → ((bytes : List ℕ) → ¬ IsBytes text bytes) → SaysNothing (codes "type " ++ text)
no_type_line text none l h =
    let typed : IsLineOf AtType (codes "type " ++ text) l = IsLine-kind (codes "type " ++ text) l h in
    let same : typed.2.hex ≡ text = sym (ap (drop 5) typed.2.is_text) in
    none typed.0 (rw same at typed.2.is_bytes)

pub no_run_line : (text : List ℕ) → ((count : ℕ) → ¬ IsRun (codes "run " ++ text) count) → SaysNothing (codes "run " ++ text)
no_run_line text none l h =
    let run : IsLineOf AtRun (codes "run " ++ text) l = IsLine-kind (codes "run " ++ text) l h in
    none run.0 run.2

pub no_unplug_line : (text : List ℕ) → ((device : ℕ) → ¬ IsNumber text device) → SaysNothing (codes "unplug " ++ text)
no_unplug_line text none l h =
    let unplug : IsLineOf AtUnplug (codes "unplug " ++ text) l = IsLine-kind (codes "unplug " ++ text) l h in
    let same : unplug.2.number ≡ text = sym (ap (drop 7) unplug.2.is_text) in
    none unplug.0 (rw same at unplug.2.is_number)

-- the words of a `file` line are those that its text splits into
pub IsFile-parts : (text word rest name bytes : List ℕ) → IsFirstWord text word rest → IsFile (codes "file " ++ text) name bytes
    → IsName word × IsBytes rest bytes
IsFile-parts text word rest name bytes first file =
    let same = IsFirstWord-same text word rest name file.hex first (no_space-IsName name file.is_name) (ap (drop 5) file.is_text) in
    (rw same.0 at file.is_name, rw same.1 at file.is_bytes)

pub IsRun-number : (text : List ℕ) (count : ℕ) → IsRun (codes "run " ++ text) count → IsNumber text count
IsRun-number text count run =
    let same : run.number ≡ text = sym (ap (drop 4) run.is_text) in
    rw same at run.is_number

pub no_run_above : (text : List ℕ) (n : ℕ) (fits : Bool) → IsNumber text n → fits ≡ leb n MOST_RUN
    → IfNone (then_some fits (line.Run n)) (SaysNothing (codes "run " ++ text))
no_run_above text n true number same = tt
no_run_above text n false number same =
    no_run_line text
    (λ count run.
    let count_is = IsNumber-same text n count number (IsRun-number text count run) in
    let above = leb-false n MOST_RUN (sym same) in
    absurd (omega (arith, run.at_most)))

-- `-` is no hex text
no_hex_dash : (bytes : List ℕ) → 0 < length bytes → ¬ IsHex (codes "-") bytes
no_hex_dash [] some h = absurd (omega arith)
no_hex_dash (b ∷ bytes) some h = h

IsBytes-same : (text a b : List ℕ) → IsBytes text a → IsBytes text b → a ≡ b
IsBytes-same text a b ha hb =
    elim ha [
      | inl hex ↦
          elim hb [
            | inl too ↦ IsHex-same text a b hex.1 too.1
            | inr dash ↦ absurd (no_hex_dash a hex.0 (rw dash.0 at hex.1))
          ]
      | inr dash ↦
          elim hb [
            | inl hex ↦ absurd (no_hex_dash b hex.0 (rw dash.0 at hex.1))
            | inr too ↦ dash.1 ∙ sym too.1
          ]
    ]

IsFile-same : (text name bytes other behind : List ℕ) → IsFile text name bytes → IsFile text other behind
    → (name ≡ other) × (bytes ≡ behind)
IsFile-same text name bytes other behind a b =
    let rest = name ++ space ++ a.hex in
    let first : IsFirstWord rest name a.hex = record { is_text = refl; no_space = no_space-IsName name a.is_name } in
    let same = IsFirstWord-same rest name a.hex other b.hex first (no_space-IsName other b.is_name) (ap (drop 5) (sym a.is_text ∙ b.is_text)) in
    (sym same.0, IsBytes-same a.hex bytes behind a.is_bytes (rw same.1 at b.is_bytes))

IsBoot-same : (text name other : List ℕ) → IsBoot text name → IsBoot text other → name ≡ other
IsBoot-same text name other a b = ap (drop 5) (sym a.is_text ∙ b.is_text)

IsType-same : (text bytes behind : List ℕ) → IsType text bytes → IsType text behind → bytes ≡ behind
IsType-same text bytes behind a b =
    let same : b.hex ≡ a.hex = ap (drop 5) (sym b.is_text ∙ a.is_text) in
    IsBytes-same a.hex bytes behind a.is_bytes (rw same at b.is_bytes)

IsRun-same : (text : List ℕ) (m n : ℕ) → IsRun text m → IsRun text n → m ≡ n
IsRun-same text m n a b =
    let same : b.number ≡ a.number = ap (drop 4) (sym b.is_text ∙ a.is_text) in
    IsNumber-same a.number m n a.is_number (rw same at b.is_number)

IsUnplug-same : (text : List ℕ) (m n : ℕ) → IsUnplug text m → IsUnplug text n → m ≡ n
IsUnplug-same text m n a b =
    let same : b.number ≡ a.number = ap (drop 7) (sym b.is_text ∙ a.is_text) in
    IsNumber-same a.number m n a.is_number (rw same at b.is_number)

IsLineOf-same : (kind : LineKind) (text : List ℕ) (a b : Line) → IsLineOf kind text a → IsLineOf kind text b → a ≡ b
IsLineOf-same AtFile text a b h k =
    let same = IsFile-same text h.0 h.1 k.0 k.1 h.3 k.3 in
    cc (h.2, k.2, same.0, same.1)
IsLineOf-same AtBoot text a b h k =
    cc (h.1, k.1, IsBoot-same text h.0 k.0 h.2 k.2)
IsLineOf-same AtType text a b h k =
    cc (h.1, k.1, IsType-same text h.0 k.0 h.2 k.2)
IsLineOf-same AtRun text a b h k =
    cc (h.1, k.1, IsRun-same text h.0 k.0 h.2 k.2)
IsLineOf-same AtUnplug text a b h k =
    cc (h.1, k.1, IsUnplug-same text h.0 k.0 h.2 k.2)
IsLineOf-same AtQuestion text a b h k =
    cc (h.1, k.1, IsQuestion-same text h.0 k.0 h.2 k.2)

pub IsLine-same : (text : List ℕ) (a b : Line) → IsLine text a → IsLine text b → a ≡ b
IsLine-same text a b h k = IsLineOf-same (line_kind text) text a b (IsLine-kind text a h) (IsLine-kind text b k)
