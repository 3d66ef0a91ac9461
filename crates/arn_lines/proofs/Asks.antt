-- A question begins with one keyword, and reads one way.
use Rattle.std.proofs.Common.{◌≡◌, ◌≢◌, ℕ, false, eq-eqb, ◌==◌, List, [], ◌∷◌, ◌++◌, get_or, drop, codes, refl, sym, ap, subst, ◌∙◌, if◌then◌else◌}
use Rattle.std.proofs.lemmas.Bool.{false≢true}
use Rattle.arn_lines.specs.declared.line.Aspect.{Aspect}
use Rattle.arn_lines.specs.declared.line.Aspect.TheVariants as aspect
use Rattle.arn_lines.specs.declared.line.Sought.{Sought}
use Rattle.arn_lines.specs.declared.line.Sought.TheVariants as sought
use Rattle.arn_lines.specs.Pieces.{IsFirstWord}
use Rattle.arn_lines.specs.Questions.{AreNumbers, IsAspect, IsKeyed, IsNamed, IsNumberAnd, IsSought}
use Rattle.arn_lines.specs.Words.{IsName, IsNumber, space}
use Rattle.arn_lines.proofs.FirstWords.{IsFirstWord-same, no_space-IsName}
use Rattle.arn_lines.proofs.Lists.{AreNumbers-same, IsKeyed-numbers, IsKeyed-same, IsNumberAnd-same}

-- two texts that differ at some place
pub apart : (xs ys : List ℕ) (i : ℕ) → (get_or xs i 0 == get_or ys i 0) ≡ false → xs ≢ ys
apart xs ys i differ e =
    false≢true (sym differ ∙ eq-eqb (get_or xs i 0) (get_or ys i 0) (ap (λ zs. get_or zs i 0) e))

-- which keyword a text begins with tells what kind of thing is shown
pub data AspectKind : Type 0 where
  AtRegisters : AspectKind
  AtMemory : AspectKind
  AtFile : AspectKind
  AtProcesses : AspectKind

abbrev pub aspect_kind : List ℕ → AspectKind
aspect_kind text =
    if get_or text 0 0 == 114 then AtRegisters else if get_or text 0 0 == 109 then AtMemory else if get_or text 0 0 == 102 then AtFile else AtProcesses

abbrev pub IsAspectOf : AspectKind → List ℕ → Aspect → Type 0
IsAspectOf AtRegisters text s = (pid : ℕ) × (s ≡ aspect.Registers pid) × IsKeyed text (codes "regs") (pid ∷ [])
IsAspectOf AtMemory text s =
    (pid : ℕ) × (at : ℕ) × (len : ℕ) × (s ≡ aspect.Memory pid at len) × IsKeyed text (codes "mem") (pid ∷ at ∷ len ∷ [])
IsAspectOf AtFile text s = (name : List ℕ) × (s ≡ aspect.File name) × IsName name × (text ≡ codes "file " ++ name)
IsAspectOf AtProcesses text s = (s ≡ aspect.Processes) × (text ≡ codes "procs")

pub IsAspect-kind : (text : List ℕ) (s : Aspect) → IsAspect text s → IsAspectOf (aspect_kind text) text s
IsAspect-kind text (aspect.Registers pid) h =
    subst (λ xs. IsAspectOf (aspect_kind xs) text (aspect.Registers pid)) (sym h.is_text) (pid, refl, h)
IsAspect-kind text (aspect.Memory pid at len) h =
    subst (λ xs. IsAspectOf (aspect_kind xs) text (aspect.Memory pid at len)) (sym h.is_text) (pid, at, len, refl, h)
IsAspect-kind text (aspect.File name) h =
    subst (λ xs. IsAspectOf (aspect_kind xs) text (aspect.File name)) (sym h.1) (name, refl, h.0, h.1)
IsAspect-kind text aspect.Processes h = subst (λ xs. IsAspectOf (aspect_kind xs) text aspect.Processes) (sym h) (refl, h)

IsAspectOf-same : (kind : AspectKind) (text : List ℕ) (a b : Aspect) → IsAspectOf kind text a → IsAspectOf kind text b → a ≡ b
IsAspectOf-same AtRegisters text a b h k =
    cc (h.1, k.1, IsKeyed-same text (codes "regs") (h.0 ∷ []) (k.0 ∷ []) refl h.2 k.2)
IsAspectOf-same AtMemory text a b h k =
    cc (h.3, k.3, IsKeyed-same text (codes "mem") (h.0 ∷ h.1 ∷ h.2 ∷ []) (k.0 ∷ k.1 ∷ k.2 ∷ []) refl h.4 k.4)
IsAspectOf-same AtFile text a b h k =
    let same : h.0 ≡ k.0 = ap (drop 5) (sym h.3 ∙ k.3) in
    cc (h.1, k.1, same)
IsAspectOf-same AtProcesses text a b h k = h.0 ∙ sym k.0

pub IsAspect-same : (text : List ℕ) (a b : Aspect) → IsAspect text a → IsAspect text b → a ≡ b
IsAspect-same text a b h k = IsAspectOf-same (aspect_kind text) text a b (IsAspect-kind text a h) (IsAspect-kind text b k)

-- the words of `name M NAME FROM LEN`
pub IsNamed-parts : (text rest word range behind : List ℕ) (m n : ℕ) (name : List ℕ) (from len : ℕ) → IsNumberAnd text m rest
    → IsFirstWord rest word range → IsNamed (codes "name " ++ text) n name from len
    → (m ≡ n) × (name ≡ word) × IsName word × AreNumbers range (from ∷ len ∷ [])
IsNamed-parts text rest word range behind m n name from len lead first named =
    let others = name ++ space ++ named.range in
    let front : IsNumberAnd text n others = record { number = named.moment_text; is_number = named.is_moment; is_text = ap (drop 5) named.is_text } in
    let moments = IsNumberAnd-same text m n rest others lead front in
    let same = IsFirstWord-same rest word range name named.range first (no_space-IsName name named.is_name) (sym moments.1) in
    (moments.0, same.0, rw same.0 at named.is_name, subst (λ xs. AreNumbers xs (from ∷ len ∷ [])) same.1 named.is_range)

-- which keyword a text begins with tells what kind of bytes is sought
pub data SoughtKind : Type 0 where
  AtEvent : SoughtKind
  InMemory : SoughtKind
  InRegister : SoughtKind
  AtName : SoughtKind

abbrev pub sought_kind : List ℕ → SoughtKind
sought_kind text =
    if get_or text 0 0 == 101 then AtEvent else if get_or text 0 0 == 109 then InMemory else if get_or text 0 0 == 114 then InRegister else AtName

abbrev pub IsSoughtOf : SoughtKind → List ℕ → Sought → Type 0
IsSoughtOf AtEvent text s =
    (event : ℕ) × (from : ℕ) × (len : ℕ) × (s ≡ sought.Event event from len) × IsKeyed text (codes "event") (event ∷ from ∷ len ∷ [])
IsSoughtOf InMemory text s =
    (moment : ℕ) × (pid : ℕ) × (at : ℕ) × (len : ℕ) × (s ≡ sought.Memory moment pid at len) × IsKeyed text (codes "mem") (moment ∷ pid ∷ at ∷ len ∷ [])
IsSoughtOf InRegister text s =
    (moment : ℕ) × (pid : ℕ) × (register : ℕ) × (s ≡ sought.Register moment pid register) × IsKeyed text (codes "reg") (moment ∷ pid ∷ register ∷ [])
IsSoughtOf AtName text s =
    (moment : ℕ) × (name : List ℕ) × (from : ℕ) × (len : ℕ) × (s ≡ sought.Name moment name from len) × IsNamed text moment name from len

pub IsSought-kind : (text : List ℕ) (s : Sought) → IsSought text s → IsSoughtOf (sought_kind text) text s
IsSought-kind text (sought.Event event from len) h =
    subst (λ xs. IsSoughtOf (sought_kind xs) text (sought.Event event from len)) (sym h.is_text) (event, from, len, refl, h)
IsSought-kind text (sought.Memory moment pid at len) h =
    subst (λ xs. IsSoughtOf (sought_kind xs) text (sought.Memory moment pid at len)) (sym h.is_text) (moment, pid, at, len, refl, h)
IsSought-kind text (sought.Register moment pid register) h =
    subst (λ xs. IsSoughtOf (sought_kind xs) text (sought.Register moment pid register)) (sym h.is_text) (moment, pid, register, refl, h)
IsSought-kind text (sought.Name moment name from len) h =
    subst (λ xs. IsSoughtOf (sought_kind xs) text (sought.Name moment name from len)) (sym h.is_text) (moment, name, from, len, refl, h)

IsNamed-same : (text : List ℕ) (m n : ℕ) (name other : List ℕ) (a b c d : ℕ) → IsNamed text m name a b → IsNamed text n other c d
    → (m ≡ n) × (other ≡ name) × (a ∷ b ∷ [] ≡ c ∷ d ∷ [])
IsNamed-same text m n name other a b c d h k =
    let rest = name ++ space ++ h.range in
    let said = h.moment_text ++ space ++ rest in
    let lead : IsNumberAnd said m rest = record { number = h.moment_text; is_number = h.is_moment; is_text = refl } in
    let first : IsFirstWord rest name h.range = record { is_text = refl; no_space = no_space-IsName name h.is_name } in
    let again : IsNamed (codes "name " ++ said) n other c d = subst (λ t. IsNamed t n other c d) h.is_text k in
    let parts = IsNamed-parts said rest name h.range [] m n other c d lead first again in
    (parts.0, parts.1, AreNumbers-same h.range (a ∷ b ∷ []) (c ∷ d ∷ []) refl h.is_range parts.3)

IsSoughtOf-same : (kind : SoughtKind) (text : List ℕ) (a b : Sought) → IsSoughtOf kind text a → IsSoughtOf kind text b → a ≡ b
IsSoughtOf-same AtEvent text a b h k =
    cc (h.3, k.3, IsKeyed-same text (codes "event") (h.0 ∷ h.1 ∷ h.2 ∷ []) (k.0 ∷ k.1 ∷ k.2 ∷ []) refl h.4 k.4)
IsSoughtOf-same InMemory text a b h k =
    cc (h.4, k.4, IsKeyed-same text (codes "mem") (h.0 ∷ h.1 ∷ h.2 ∷ h.3 ∷ []) (k.0 ∷ k.1 ∷ k.2 ∷ k.3 ∷ []) refl h.5 k.5)
IsSoughtOf-same InRegister text a b h k =
    cc (h.3, k.3, IsKeyed-same text (codes "reg") (h.0 ∷ h.1 ∷ h.2 ∷ []) (k.0 ∷ k.1 ∷ k.2 ∷ []) refl h.4 k.4)
IsSoughtOf-same AtName text a b h k =
    let same = IsNamed-same text h.0 k.0 h.1 k.1 h.2 h.3 k.2 k.3 h.5 k.5 in
    cc (h.4, k.4, same.0, same.1, same.2)

pub IsSought-same : (text : List ℕ) (a b : Sought) → IsSought text a → IsSought text b → a ≡ b
IsSought-same text a b h k = IsSoughtOf-same (sought_kind text) text a b (IsSought-kind text a h) (IsSought-kind text b k)

pub no_registers : (text : List ℕ) → ((pid : ℕ) → ¬ IsNumber text pid) → (s : Aspect) → ¬ IsAspect (codes "regs " ++ text) s
no_registers text none s h =
    let only : IsAspectOf AtRegisters (codes "regs " ++ text) s = IsAspect-kind (codes "regs " ++ text) s h in
    none only.0 (IsKeyed-numbers (codes "regs") text (only.0 ∷ []) only.2)

pub no_shown_memory : (text : List ℕ) → ((pid at len : ℕ) → ¬ AreNumbers text (pid ∷ at ∷ len ∷ []))
    → (s : Aspect) → ¬ IsAspect (codes "mem " ++ text) s
no_shown_memory text none s h =
    let only : IsAspectOf AtMemory (codes "mem " ++ text) s = IsAspect-kind (codes "mem " ++ text) s h in
    none only.0 only.1 only.2 (IsKeyed-numbers (codes "mem") text (only.0 ∷ only.1 ∷ only.2 ∷ []) only.4)

pub no_event : (text : List ℕ) → ((event from len : ℕ) → ¬ AreNumbers text (event ∷ from ∷ len ∷ []))
    → (s : Sought) → ¬ IsSought (codes "event " ++ text) s
no_event text none s h =
    let only : IsSoughtOf AtEvent (codes "event " ++ text) s = IsSought-kind (codes "event " ++ text) s h in
    none only.0 only.1 only.2 (IsKeyed-numbers (codes "event") text (only.0 ∷ only.1 ∷ only.2 ∷ []) only.4)

pub no_sought_memory : (text : List ℕ) → ((moment pid at len : ℕ) → ¬ AreNumbers text (moment ∷ pid ∷ at ∷ len ∷ []))
    → (s : Sought) → ¬ IsSought (codes "mem " ++ text) s
no_sought_memory text none s h =
    let only : IsSoughtOf InMemory (codes "mem " ++ text) s = IsSought-kind (codes "mem " ++ text) s h in
    none only.0 only.1 only.2 only.3 (IsKeyed-numbers (codes "mem") text (only.0 ∷ only.1 ∷ only.2 ∷ only.3 ∷ []) only.5)

pub no_register : (text : List ℕ) → ((moment pid register : ℕ) → ¬ AreNumbers text (moment ∷ pid ∷ register ∷ []))
    → (s : Sought) → ¬ IsSought (codes "reg " ++ text) s
no_register text none s h =
    let only : IsSoughtOf InRegister (codes "reg " ++ text) s = IsSought-kind (codes "reg " ++ text) s h in
    none only.0 only.1 only.2 (IsKeyed-numbers (codes "reg") text (only.0 ∷ only.1 ∷ only.2 ∷ []) only.4)

pub no_named : (text : List ℕ)
    → ((moment : ℕ) (name : List ℕ) (from len : ℕ) → ¬ IsNamed (codes "name " ++ text) moment name from len)
    → (s : Sought) → ¬ IsSought (codes "name " ++ text) s
no_named text none s h =
    let only : IsSoughtOf AtName (codes "name " ++ text) s = IsSought-kind (codes "name " ++ text) s h in
    none only.0 only.1 only.2 only.3 only.5

-- a text behind `name ` begins with the moment
pub IsNamed-moment : (text : List ℕ) (moment : ℕ) (name : List ℕ) (from len : ℕ) → IsNamed (codes "name " ++ text) moment name from len
    → (rest : List ℕ) × IsNumberAnd text moment rest × (range : List ℕ) × (rest ≡ name ++ space ++ range)
IsNamed-moment text moment name from len named =
    let said : text ≡ named.moment_text ++ space ++ (name ++ space ++ named.range) = ap (drop 5) named.is_text in (
      name ++ space ++ named.range,
      record { number = named.moment_text; is_number = named.is_moment; is_text = said },
      named.range,
      refl,
    )
