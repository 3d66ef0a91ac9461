-- Which received bytes a step takes: those of transfers that receive, and no others.
use Rattle.std.proofs.Common.{ℕ, suc, ◌-◌, ◌<◌, List, [], ◌∷◌, map, Option, Some, None, IfSome, option_map, unwrap_or, Bool, true, false, ◌==◌, ◌&&◌, cond, arith, ltb-true}
use Rattle.std.proofs.lemmas.Bool.Decides.{nat_tests}
use Rattle.rv64_model.specs.Carries.{Table}
use Rattle.rv64_model.specs.Operands.{rd_of, stored_len}
use Rattle.rv64_isa.specs.declared.instruction.Instr.{Instr}
use Rattle.acts_model.specs.Transfers.{Place, Transfer, Arrives, Starts, Runs, Returns, Receives, Gives, Forks, Founds, Begins, Shares, Delivers, Leaves, Exits, Faults, Dies}
use Rattle.lineage_model.specs.Flow.{Location, Register, Slot, Memory, At, Byte, StartRegister, StartSlot, StartMemory, Dependence, Prior, flow, written, shown, when, offset, result_bytes, ran, result_only, received_byte, started_byte, copied, begun, or_else, saved, if_below}
use Rattle.lineage_laws.proofs.Sets.{EachReceived}

-- bytes with which a child begins have P
pub record EachStart (P : At → Type 0) : Type 0 where
  pub registers : (r i : ℕ) → P (StartRegister r i)
  pub slot : (r i : ℕ) → P (StartSlot r i)
  pub memory : (at : ℕ) → P (StartMemory at)

-- the received bytes that a transfer may take have P
abbrev pub Takes : (At → Type 0) → Transfer → Type 0
Takes P (Arrives len) = (k : ℕ) → k < len → P (Byte k)
Takes P (Starts pid made load len block block_len) = (k : ℕ) → P (Byte k)
Takes P (Receives pid place len) = (k : ℕ) → P (Byte k)
Takes P (Founds pid child from into) = EachStart P
Takes P (Begins pid made) = EachStart P
Takes P _ = Unit {0}

each-prior : (P : At → Type 0) (ls : List Location) → EachReceived P (map Prior ls)
each-prior P [] = tt
each-prior P (l ∷ ls) = (tt, each-prior P ls)

if-each : (P : At → Type 0) (b : Bool) (ds : List Dependence) → EachReceived P ds → EachReceived P (cond b ds [])
if-each P true ds h = h
if-each P false ds h = tt

unless-each : (P : At → Type 0) (b : Bool) (ds : List Dependence) → EachReceived P ds → EachReceived P (cond b [] ds)
unless-each P true ds h = tt
unless-each P false ds h = h

when-each : (P : At → Type 0) (b : Bool) (ds : List Dependence) → EachReceived P ds → IfSome (when b ds) (EachReceived P)
when-each P true ds h = h
when-each P false ds h = tt

map-each : (P : At → Type 0) (f : ℕ → List Dependence) → ((k : ℕ) → EachReceived P (f k)) → (o : Option ℕ) → IfSome (option_map f o) (EachReceived P)
map-each P f h None = tt
map-each P f h (Some k) = h k

or-each : (P : At → Type 0) (o p : Option (List Dependence)) → IfSome o (EachReceived P) → IfSome p (EachReceived P) → IfSome (or_else o p) (EachReceived P)
or-each P None p h k = k
or-each P (Some ds) p h k = h

unwrap-each : (P : At → Type 0) (ds : List Dependence) (o : Option (List Dependence)) → EachReceived P ds → IfSome o (EachReceived P) → EachReceived P (unwrap_or o ds)
unwrap-each P ds None h k = h
unwrap-each P ds (Some es) h k = k

result-each : (P : At → Type 0) (pid : ℕ) (l : Location) → IfSome (result_only pid l) (EachReceived P)
result-each P pid l = grind (arith, nat_tests, when-each)

ran-each : (P : At → Type 0) (table : Table) (pid : ℕ) (instr : Instr) (place : Option Place) (l : Location) → IfSome (ran table pid instr place l) (EachReceived P)
ran-each P table pid instr place (Register p (suc r) i) = when-each P ((p == pid) && (suc r == rd_of instr)) (result_bytes table pid instr place i) (each-prior P _)
ran-each P table pid instr place (Memory made at) = map-each P (result_bytes table pid instr place) (λ k. each-prior P _) (offset place (stored_len instr) made at)
ran-each P table pid instr place _ = tt

started-each : (P : At → Type 0) (load len : ℕ) (block : Option Place) (block_len at : ℕ) → ((k : ℕ) → P (Byte k)) → EachReceived P (started_byte load len block block_len at)
started-each P load len block block_len at h1 = grind (arith, nat_tests, each-prior, map-each, unwrap-each)

begun-each : (P : At → Type 0) (child into : ℕ) (l : Location) → EachStart P → IfSome (begun child into l) (EachReceived P)
begun-each P child into l h1 = grind (arith, nat_tests, unless-each, when-each)

copied-each : (P : At → Type 0) (pid child from into : ℕ) (l : Location) → IfSome (copied pid child from into l) (EachReceived P)
copied-each P pid child from into l = grind (arith, nat_tests, unless-each, when-each)

written-each : (P : At → Type 0) (table : Table) (t : Transfer) (l : Location) → Takes P t → IfSome (written table t l) (EachReceived P)
written-each P table (Arrives len) l h = tt
written-each P table (Starts pid made load len block block_len) (Register p r i) h = when-each P (p == pid) [] tt
written-each P table (Starts pid made load len block block_len) (Slot p r i) h = when-each P (p == pid) [] tt
written-each P table (Starts pid made load len block block_len) (Memory m at) h = when-each P (m == made) (started_byte load len block block_len at) (started-each P load len block block_len at h)
written-each P table (Runs pid instr place) l h = ran-each P table pid instr place l
written-each P table (Returns pid) l h = result-each P pid l
written-each P table (Receives pid place len) (Register p r i) h = or-each P (result_only pid (Register p r i)) None (result-each P pid (Register p r i)) tt
written-each P table (Receives pid place len) (Slot p r i) h = tt
written-each P table (Receives pid place len) (Memory made at) h = map-each P received_byte (λ k. (h k, tt)) (offset place len made at)
written-each P table (Gives pid place len) l h = result-each P pid l
written-each P table (Forks pid child from into) l h = or-each P (result_only pid l) (copied pid child from into l) (result-each P pid l) (copied-each P pid child from into l)
written-each P table (Founds pid child from into) l h = or-each P (result_only pid l) (begun child into l) (result-each P pid l) (begun-each P child into l h)
written-each P table (Begins pid made) l h = begun-each P pid made l h
written-each P table (Shares pid made) (Register p r i) h = or-each P (result_only pid (Register p r i)) None (result-each P pid (Register p r i)) tt
written-each P table (Shares pid made) (Slot p r i) h = tt
written-each P table (Shares pid made) (Memory m at) h = when-each P (m == made) [] tt
written-each P table (Delivers pid cut) (Register p r i) h = or-each P (result_only pid (Register p r i)) None (result-each P pid (Register p r i)) tt
written-each P table (Delivers pid cut) (Slot p r i) h = when-each P (p == pid) (saved pid cut r i) (unless-each P (cut && (r == 10)) (Prior (Register pid r i) ∷ []) (tt, tt))
written-each P table (Delivers pid cut) (Memory m at) h = tt
written-each P table (Leaves pid) (Register p r i) h = when-each P (p == pid) (Prior (Slot pid r i) ∷ []) (tt, tt)
written-each P table (Leaves pid) (Slot p r i) h = when-each P (p == pid) [] tt
written-each P table (Leaves pid) (Memory m at) h = tt
written-each P table (Exits pid) l h = tt
written-each P table (Faults pid) l h = tt
written-each P table (Dies pid) l h = tt

-- what a location takes
pub flow-each : (P : At → Type 0) (table : Table) (t : Transfer) (l : Location) → Takes P t → EachReceived P (flow table t l)
flow-each P table t l h = unwrap-each P (Prior l ∷ []) (written table t l) (tt, tt) (written-each P table t l h)

below-each : (P : At → Type 0) (k len : ℕ) → (k < len → P (Byte k)) → EachReceived P (if_below k len (received_byte k))
below-each P k len h1 = grind (arith, nat_tests, ltb-true)

-- what a byte of the step's event takes
pub shown-each : (P : At → Type 0) (t : Transfer) (at : At) → Takes P t → EachReceived P (shown t at)
shown-each P t at h1 = grind (arith, nat_tests, below-each, each-prior, if-each, unless-each)

-- a byte that isn't one of a start
abbrev pub IsByte : At → Type 0
IsByte (Byte k) = Unit {0}
IsByte other = ⊥

-- the bytes of an event take no start byte, and start bytes take none that is received
pub shown-bytes : (t : Transfer) (at : At) → EachReceived IsByte (shown t at)
shown-bytes t at = grind (arith, nat_tests, below-each, each-prior, if-each, unless-each)

abbrev pub IsStart : At → Type 0
IsStart (Byte k) = ⊥
IsStart other = Unit {0}

pub shown-prior : (P : At → Type 0) (t : Transfer) (at : At) → IsStart at → EachReceived P (shown t at)
shown-prior P t at h1 = grind (arith, nat_tests, unless-each)
