-- The first fault of a list, and of statements that are kept.
use Rattle.std.proofs.lemmas.Bool.Decides.{nat_tests}
use Rattle.std.proofs.Common.{◌≡◌, ◌++◌, ◌+◌, ◌<◌, ◌==◌, ℕ, List, [], ◌∷◌, Option, Some, None, Bool, true, false, if◌then◌else◌, refl, ap, ◌∙◌, map, length, drop, get_or, append_assoc, append-nil, not, eq-eqb, arith}
use Rattle.asm_text.specs.Statements as says
use Rattle.asm_text.specs.declared.fault.AsmKind.TheVariants.{Range}
use Rattle.std.specs.List.{AllZip, flat_map}
use Rattle.std.proofs.lemmas.List.{drop_more}
use Rattle.std.proofs.lemmas.Grind.{flat_map-append}
use Rattle.guest_asm.specs.Assembled.{Fault, Placed, address, fault_if, faults_of, is_in_range, first_fault, first_kind, kind_on, places}
use Rattle.guest_asm.specs.Checked.{added}
use Rattle.guest_asm.specs.First.{either, first_of}
use Rattle.guest_asm.specs.Kept.{KeepsPlaced}
use Rattle.asm_text.specs.Names.{Named}
use Rattle.guest_asm.specs.declared.places.Placed as kept_placed
use Rattle.asm_text.specs.declared.fault.AsmKind.{AsmKind}
use Rattle.guest_asm.proofs.Firsts.{first_assoc, first_of_append}

abbrev pub on_line : ℕ → AsmKind → Fault
on_line line kind = record { line = line; kind = kind }

abbrev with_first : AsmKind → Option AsmKind → AsmKind
with_first kind None = kind
with_first kind (Some other) = first_kind kind other

with_first_more : (b : Bool) (kind k : AsmKind) (o : Option AsmKind) →
    (if b then with_first (if b then first_kind kind k else kind) o else (if b then first_kind kind k else kind)) ≡ (if b then with_first kind (either (Some k) o) else kind)
with_first_more true kind k None = refl
with_first_more true kind k (Some j) = first_assoc kind k j
with_first_more false kind k o = refl

same_kind : (b : Bool) (kind : AsmKind) → kind ≡ (if b then kind else kind)
same_kind true kind = refl
same_kind false kind = refl

kinds_on : (l line : ℕ) (kind : AsmKind) (kinds : List AsmKind) → kind_on l kind (map (on_line line) kinds) ≡ (if line == l then with_first kind (first_of kinds) else kind)
kinds_on l line kind [] = same_kind (line == l) kind
kinds_on l line kind (k ∷ ks) = grind (arith, nat_tests, kinds_on l line (if line == l then first_kind kind k else kind) ks, with_first_more (line == l) kind k (first_of ks))

kind_on_append : (l : ℕ) (kind : AsmKind) (fs gs : List Fault) → kind_on l kind (fs ++ gs) ≡ kind_on l (kind_on l kind fs) gs
kind_on_append l kind [] gs = refl
kind_on_append l kind (f ∷ fs) gs = kind_on_append l (if f.line == l then first_kind kind f.kind else kind) fs gs

added_some : (b : Bool) (l : ℕ) (kind : AsmKind) (o : Option AsmKind) (line : ℕ) → b ≡ (line == l) →
    Some (on_line l (if b then with_first kind o else kind)) ≡ added (Some (on_line l kind)) line o
added_some b l kind o line h1 = grind (arith, nat_tests)

added_first : (line : ℕ) (k : AsmKind) (o : Option AsmKind) (b : Bool) → b ≡ true → Some (on_line line (if b then with_first k o else k)) ≡ added None line (either (Some k) o)
added_first line k o b h1 = grind (arith, nat_tests)

-- the fault that is told after one more statement
pub first_fault_more : (faults : List Fault) (line : ℕ) (kinds : List AsmKind) → first_fault (faults ++ map (on_line line) kinds) ≡ added (first_fault faults) line (first_of kinds)
first_fault_more [] line [] = refl
first_fault_more [] line (k ∷ ks) = ap (λ (kind : AsmKind). Some (on_line line kind)) (kinds_on line line k ks) ∙ added_first line k (first_of ks) (line == line) (eq-eqb line line refl)
first_fault_more (f ∷ faults) line kinds = grind (arith, nat_tests, kind_on_append f.line f.kind faults (map (on_line line) kinds), kinds_on f.line line (kind_on f.line f.kind faults) kinds, added_some (line == f.line) f.line (kind_on f.line f.kind faults) (first_of kinds) line refl)

-- the faults of one statement
abbrev pub faults_at : List Named → Placed → List Fault
faults_at named p = map (on_line p.line) (faults_of named p)

-- the statements that were gone through, and those that are left
pub record Through (kept : List kept_placed.Placed) (at : ℕ) (all : List Placed) : Type 0 where
  pub before : List Placed
  pub after : List Placed
  pub whole : before ++ after ≡ all
  pub keeps : AllZip KeepsPlaced (drop at kept) after

-- the next one, which is kept so
pub record Next (kept : List kept_placed.Placed) (at : ℕ) (k : kept_placed.Placed) (before after all : List Placed) : Type 0 where
  pub placed : Placed
  pub rest : List Placed
  pub is_next : after ≡ placed ∷ rest
  pub is_kept : KeepsPlaced k placed
  pub whole : (before ++ placed ∷ []) ++ rest ≡ all
  pub keeps : AllZip KeepsPlaced (drop (at + 1) kept) rest

next_of : (kept : List kept_placed.Placed) (at : ℕ) (k : kept_placed.Placed) (before after all : List Placed) → before ++ after ≡ all → AllZip KeepsPlaced (k ∷ drop (at + 1) kept) after → Next kept at k before after all
next_of kept at k before after all h1 h2 = grind (arith, nat_tests, append_assoc)

pub next : (kept : List kept_placed.Placed) (at : ℕ) (k : kept_placed.Placed) (all : List Placed) → at < length kept → k ≡ get_or kept at k → (t : Through kept at all) → Next kept at k t.before t.after all
next kept at k all h1 h2 t = grind (arith, nat_tests, next_of, drop_more)

-- the first fault of a statement that is read
pub fault_first : (named : List Named) (p : Placed) (s : says.Statement) (x y : Option AsmKind) → p.reading ≡ says.Says s →
    x ≡ first_of (fault_if (not (is_in_range named (address p) s)) Range) → y ≡ first_of p.faults → either x y ≡ first_of (faults_of named p)
fault_first named p s x y h1 h2 h3 = grind (arith, nat_tests, append-nil, first_of_append)

pub told_more : (named : List Named) (before : List Placed) (p : Placed) (found : Option Fault) (line : ℕ) (kind : Option AsmKind) → found ≡ first_fault (flat_map (faults_at named) before) →
    kind ≡ first_of (faults_of named p) → p.line ≡ line → added found line kind ≡ first_fault (flat_map (faults_at named) (before ++ p ∷ []))
told_more named before p found line kind h1 h2 h3 = grind (arith, nat_tests, flat_map-append, append-nil, first_fault_more)

-- the first fault of the statements so far is told
abbrev pub ToldSoFar : List kept_placed.Placed → ℕ → List Placed → Option Fault → Type 0
ToldSoFar kept at all found = (t : Through kept at all) × (found ≡ first_fault (flat_map (faults_at (places all)) t.before))
