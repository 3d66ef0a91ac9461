-- Each location belongs to one group: a step writes locations of the group that acts or starts, from those of that group.
use Rattle.std.proofs.Common.{◌≡◌, ℕ, zero, suc, ◌+◌, ◌-◌, List, [], ◌∷◌, ◌++◌, map, flat_map, refl, ap, ap₂, ◌∙◌, sym, Option, Some, None, IfSome, option_map, option_and_then, unwrap_or, Bool, true, false, ◌==◌, ◌&&◌, cond, ◌⊎◌, inl, inr, arith, eqb-true}
use Rattle.std.proofs.lemmas.Bool.Decides.{nat_tests}
use Rattle.std.specs.List.{AllByRecursion}
use Rattle.rv64_isa.specs.declared.instruction.Instr.{Instr}
use Rattle.rv64_model.specs.Carries.{Table, Operand}
use Rattle.rv64_model.specs.Operands.{rd_of, stored_len}
use Rattle.acts_model.specs.Moved.{within}
use Rattle.acts_model.specs.Transfers.{Place, Transfer, Arrives, Starts, Runs, Returns, Receives, Gives, Forks, Founds, Begins, Shares, Delivers, Leaves, Exits, Faults, Dies}
use Rattle.history_model.specs.Groups.{Groups}
use Rattle.lineage_model.specs.Flow.{Location, Register, Slot, Memory, At, Dependence, Prior, Received, register_bytes, operand_bytes, written, shown, when, offset, bytes_at, result_bytes, ran, result_only, received_byte, started_byte, copied, begun, or_else, saved}
use Rattle.lineage_model.specs.Tracking.{EventByte, gather}
use Rattle.lineage_laws.proofs.Sets.{append-each}

-- the group of each memory
abbrev pub Memories : Type 0
Memories = ℕ → Option ℕ

-- the group of a location
abbrev pub owner : Groups → Memories → Location → Option ℕ
owner gs ms (Register p r i) = gs p
owner gs ms (Slot p r i) = gs p
owner gs ms (Memory made at) = ms made

-- the process that acts
abbrev pub actor_of : Transfer → Option ℕ
actor_of (Arrives len) = None
actor_of (Starts pid made load len block block_len) = Some pid
actor_of (Runs pid instr place) = Some pid
actor_of (Returns pid) = Some pid
actor_of (Receives pid place len) = Some pid
actor_of (Gives pid place len) = Some pid
actor_of (Forks pid child from into) = Some pid
actor_of (Founds pid child from into) = Some pid
actor_of (Begins pid made) = Some pid
actor_of (Shares pid made) = Some pid
actor_of (Delivers pid cut) = Some pid
actor_of (Leaves pid) = Some pid
actor_of (Exits pid) = Some pid
actor_of (Faults pid) = Some pid
actor_of (Dies pid) = Some pid

-- and its group
abbrev pub group_in : Groups → Transfer → Option ℕ
group_in gs t = option_and_then gs (actor_of t)

-- the place is in a memory of the group
abbrev pub PlaceIs : Memories → Option ℕ → Option Place → Type 0
PlaceIs ms g None = Unit {0}
PlaceIs ms g (Some place) = ms place.made ≡ g

-- a child that joins its parent's group
pub record Joining (gs : Groups) (ms : Memories) (pid child from into : ℕ) : Type 0 where
  pub process : gs child ≡ gs pid
  pub old : ms from ≡ gs pid
  pub new : ms into ≡ gs pid

-- and one that starts a group
pub record Founding (gs : Groups) (ms : Memories) (pid child from into : ℕ) : Type 0 where
  pub process : gs child ≡ Some child
  pub old : ms from ≡ gs pid
  pub new : ms into ≡ Some child
  pub other : gs pid ≡ Some child → ⊥

-- a step reaches memories of its own group alone
abbrev pub Lies : Groups → Memories → Transfer → Type 0
Lies gs ms (Starts pid made load len block block_len) = (ms made ≡ gs pid) × PlaceIs ms (gs pid) block
Lies gs ms (Runs pid instr place) = PlaceIs ms (gs pid) place
Lies gs ms (Receives pid place len) = PlaceIs ms (gs pid) place
Lies gs ms (Gives pid place len) = PlaceIs ms (gs pid) place
Lies gs ms (Forks pid child from into) = Joining gs ms pid child from into
Lies gs ms (Founds pid child from into) = Founding gs ms pid child from into
Lies gs ms (Begins pid made) = ⊥
Lies gs ms (Shares pid made) = ms made ≡ gs pid
Lies gs ms _ = Unit {0}

-- a location that is taken has Q
abbrev pub IfPrior : (Location → Type 0) → Dependence → Type 0
IfPrior Q (Prior l) = Q l
IfPrior Q (Received at) = Unit {0}

abbrev pub EachPrior : (Location → Type 0) → List Dependence → Type 0
EachPrior Q ds = AllByRecursion (IfPrior Q) ds

-- gathering goes by the locations that are taken
pub gather-same : (i : At → List EventByte) (a b : Location → List EventByte) (ds : List Dependence) → EachPrior (λ l. a l ≡ b l) ds → gather i a ds ≡ gather i b ds
gather-same i a b [] h = refl
gather-same i a b (Prior l ∷ ds) h = ap₂ ◌++◌ h.0 (gather-same i a b ds h.1)
gather-same i a b (Received at ∷ ds) h = ap (λ (xs : List EventByte). i at ++ xs) (gather-same i a b ds h.1)

pub prior-weaker : (P Q : Location → Type 0) → ((l : Location) → P l → Q l) → (ds : List Dependence) → EachPrior P ds → EachPrior Q ds
prior-weaker P Q f [] h = tt
prior-weaker P Q f (Prior l ∷ ds) h = (f l h.0, prior-weaker P Q f ds h.1)
prior-weaker P Q f (Received at ∷ ds) h = (tt, prior-weaker P Q f ds h.1)

prior-map : (Q : Location → Type 0) (ls : List Location) → AllByRecursion Q ls → EachPrior Q (map Prior ls)
prior-map Q [] h = tt
prior-map Q (l ∷ ls) h = (h.0, prior-map Q ls h.1)

each-flat : {A : Type 0} (Q : Location → Type 0) (f : A → List Location) → ((x : A) → AllByRecursion Q (f x)) → (xs : List A) → AllByRecursion Q (flat_map f xs)
each-flat Q f h [] = tt
each-flat Q f h (x ∷ xs) = append-each Q (f x) (flat_map f xs) (h x) (each-flat Q f h xs)

and-left : (b c : Bool) → (b && c) ≡ true → b ≡ true
and-left true c h = refl
and-left false c h = h

if-prior : (Q : Location → Type 0) (b : Bool) (ds : List Dependence) → EachPrior Q ds → EachPrior Q (cond b ds [])
if-prior Q true ds h = h
if-prior Q false ds h = tt

unless-prior : (Q : Location → Type 0) (b : Bool) (ds : List Dependence) → EachPrior Q ds → EachPrior Q (cond b [] ds)
unless-prior Q true ds h = tt
unless-prior Q false ds h = h

-- what is written where a test holds
when-some : (P : List Dependence → Type 0) (b : Bool) (ds : List Dependence) → (b ≡ true → P ds) → IfSome (when b ds) P
when-some P true ds h = h refl
when-some P false ds h = tt

map-some : (P : List Dependence → Type 0) (f : ℕ → List Dependence) (o : Option ℕ) → IfSome o (λ k. P (f k)) → IfSome (option_map f o) P
map-some P f None h = tt
map-some P f (Some k) h = h

or-some : (P : List Dependence → Type 0) (o p : Option (List Dependence)) → IfSome o P → IfSome p P → IfSome (or_else o p) P
or-some P None p h k = k
or-some P (Some ds) p h k = h

pub unwrap-prior : (Q : Location → Type 0) (ds : List Dependence) (o : Option (List Dependence)) → EachPrior Q ds → IfSome o (EachPrior Q) → EachPrior Q (unwrap_or o ds)
unwrap-prior Q ds None h k = h
unwrap-prior Q ds (Some es) h k = k

all-some : (P : ℕ → Type 0) → ((k : ℕ) → P k) → (o : Option ℕ) → IfSome o P
all-some P h None = tt
all-some P h (Some k) = h k

-- bytes of a register, and of a place
register-owned : (gs : Groups) (ms : Memories) (pid r i : ℕ) → AllByRecursion (λ x. owner gs ms x ≡ gs pid) (register_bytes pid r i)
register-owned gs ms pid zero i = tt
register-owned gs ms pid (suc r) i = (refl, tt)

place-owned : (gs : Groups) (ms : Memories) (g : Option ℕ) (place : Option Place) (k : ℕ) → PlaceIs ms g place → AllByRecursion (λ x. owner gs ms x ≡ g) (bytes_at place k)
place-owned gs ms g None k h = tt
place-owned gs ms g (Some place) k h = (h, tt)

operand-owned : (gs : Groups) (ms : Memories) (pid : ℕ) (instr : Instr) (place : Option Place) → PlaceIs ms (gs pid) place → (o : Operand) → AllByRecursion (λ x. owner gs ms x ≡ gs pid) (operand_bytes pid instr place o)
operand-owned gs ms pid instr place h1 o = grind (arith, nat_tests, place-owned, register-owned)

result-owned : (gs : Groups) (ms : Memories) (table : Table) (pid : ℕ) (instr : Instr) (place : Option Place) (i : ℕ) → PlaceIs ms (gs pid) place → EachPrior (λ x. owner gs ms x ≡ gs pid) (result_bytes table pid instr place i)
result-owned gs ms table pid instr place i h =
    prior-map (λ x. owner gs ms x ≡ gs pid) (flat_map (operand_bytes pid instr place) (table instr i))
    (each-flat (λ x. owner gs ms x ≡ gs pid) (operand_bytes pid instr place) (operand-owned gs ms pid instr place h) (table instr i))

-- what is taken from locations is taken from the group's
ran-priors : (gs : Groups) (ms : Memories) (table : Table) (pid : ℕ) (instr : Instr) (place : Option Place) (l : Location) → PlaceIs ms (gs pid) place → IfSome (ran table pid instr place l) (EachPrior (λ x. owner gs ms x ≡ gs pid))
ran-priors gs ms table pid instr place (Register p (suc r) i) h = when-some (EachPrior (λ x. owner gs ms x ≡ gs pid)) ((p == pid) && (suc r == rd_of instr)) (result_bytes table pid instr place i) (λ e. result-owned gs ms table pid instr place i h)
ran-priors gs ms table pid instr place (Memory made at) h = map-some (EachPrior (λ x. owner gs ms x ≡ gs pid)) (result_bytes table pid instr place) (offset place (stored_len instr) made at) (all-some _ (λ k. result-owned gs ms table pid instr place k h) (offset place (stored_len instr) made at))
ran-priors gs ms table pid instr place _ h = tt

result-priors : (Q : Location → Type 0) (pid : ℕ) (l : Location) → IfSome (result_only pid l) (EachPrior Q)
result-priors Q pid l = grind (arith, nat_tests, when-some)

pub begun-priors : (Q : Location → Type 0) (child into : ℕ) (l : Location) → IfSome (begun child into l) (EachPrior Q)
begun-priors Q child into l = grind (arith, nat_tests, unless-prior, when-some)

copied-priors : (gs : Groups) (ms : Memories) (pid child from into : ℕ) (l : Location) → ms from ≡ gs pid → IfSome (copied pid child from into l) (EachPrior (λ x. owner gs ms x ≡ gs pid))
copied-priors gs ms pid child from into l h1 = grind (arith, nat_tests, owner, unless-prior, when-some)

started-priors : (gs : Groups) (ms : Memories) (g : Option ℕ) (load len : ℕ) (block : Option Place) (block_len at : ℕ) → PlaceIs ms g block → EachPrior (λ x. owner gs ms x ≡ g) (started_byte load len block block_len at)
started-priors gs ms g load len block block_len at h1 = grind (arith, nat_tests, all-some, map-some, owner, place-owned, prior-map, unwrap-prior)

pub written-priors : (gs : Groups) (ms : Memories) (table : Table) (t : Transfer) (l : Location) → Lies gs ms t → IfSome (written table t l) (EachPrior (λ x. owner gs ms x ≡ group_in gs t))
written-priors gs ms table (Arrives len) l h = tt
written-priors gs ms table (Starts pid made load len block block_len) (Register p r i) h = when-some (EachPrior (λ x. owner gs ms x ≡ gs pid)) (p == pid) [] (λ e. tt)
written-priors gs ms table (Starts pid made load len block block_len) (Slot p r i) h = when-some (EachPrior (λ x. owner gs ms x ≡ gs pid)) (p == pid) [] (λ e. tt)
written-priors gs ms table (Starts pid made load len block block_len) (Memory m at) h = when-some (EachPrior (λ x. owner gs ms x ≡ gs pid)) (m == made) (started_byte load len block block_len at) (λ e. started-priors gs ms (gs pid) load len block block_len at h.1)
written-priors gs ms table (Runs pid instr place) l h = ran-priors gs ms table pid instr place l h
written-priors gs ms table (Returns pid) l h = result-priors (λ x. owner gs ms x ≡ gs pid) pid l
written-priors gs ms table (Receives pid place len) (Register p r i) h = or-some (EachPrior (λ x. owner gs ms x ≡ gs pid)) (result_only pid (Register p r i)) None (result-priors (λ x. owner gs ms x ≡ gs pid) pid (Register p r i)) tt
written-priors gs ms table (Receives pid place len) (Slot p r i) h = tt
written-priors gs ms table (Receives pid place len) (Memory made at) h = map-some (EachPrior (λ x. owner gs ms x ≡ gs pid)) received_byte (offset place len made at) (all-some _ (λ k. (tt, tt)) (offset place len made at))
written-priors gs ms table (Gives pid place len) l h = result-priors (λ x. owner gs ms x ≡ gs pid) pid l
written-priors gs ms table (Forks pid child from into) l h = or-some (EachPrior (λ x. owner gs ms x ≡ gs pid)) (result_only pid l) (copied pid child from into l) (result-priors (λ x. owner gs ms x ≡ gs pid) pid l) (copied-priors gs ms pid child from into l h.old)
written-priors gs ms table (Founds pid child from into) l h = or-some (EachPrior (λ x. owner gs ms x ≡ gs pid)) (result_only pid l) (begun child into l) (result-priors (λ x. owner gs ms x ≡ gs pid) pid l) (begun-priors (λ x. owner gs ms x ≡ gs pid) child into l)
written-priors gs ms table (Begins pid made) l h = absurd h
written-priors gs ms table (Shares pid made) (Register p r i) h = or-some (EachPrior (λ x. owner gs ms x ≡ gs pid)) (result_only pid (Register p r i)) None (result-priors (λ x. owner gs ms x ≡ gs pid) pid (Register p r i)) tt
written-priors gs ms table (Shares pid made) (Slot p r i) h = tt
written-priors gs ms table (Shares pid made) (Memory m at) h = when-some (EachPrior (λ x. owner gs ms x ≡ gs pid)) (m == made) [] (λ e. tt)
written-priors gs ms table (Delivers pid cut) (Register p r i) h = or-some (EachPrior (λ x. owner gs ms x ≡ gs pid)) (result_only pid (Register p r i)) None (result-priors (λ x. owner gs ms x ≡ gs pid) pid (Register p r i)) tt
written-priors gs ms table (Delivers pid cut) (Slot p r i) h = when-some (EachPrior (λ x. owner gs ms x ≡ gs pid)) (p == pid) (saved pid cut r i) (λ e. unless-prior (λ x. owner gs ms x ≡ gs pid) (cut && (r == 10)) (Prior (Register pid r i) ∷ []) (refl, tt))
written-priors gs ms table (Delivers pid cut) (Memory m at) h = tt
written-priors gs ms table (Leaves pid) (Register p r i) h = when-some (EachPrior (λ x. owner gs ms x ≡ gs pid)) (p == pid) (Prior (Slot pid r i) ∷ []) (λ e. (refl, tt))
written-priors gs ms table (Leaves pid) (Slot p r i) h = when-some (EachPrior (λ x. owner gs ms x ≡ gs pid)) (p == pid) [] (λ e. tt)
written-priors gs ms table (Leaves pid) (Memory m at) h = tt
written-priors gs ms table (Exits pid) l h = tt
written-priors gs ms table (Faults pid) l h = tt
written-priors gs ms table (Dies pid) l h = tt

-- an event takes from the group that makes it
pub shown-priors : (gs : Groups) (ms : Memories) (t : Transfer) (at : At) → Lies gs ms t → EachPrior (λ x. owner gs ms x ≡ group_in gs t) (shown t at)
shown-priors gs ms t at h1 = grind (arith, nat_tests, if-prior, owner, place-owned, prior-map, unless-prior)

-- what is written belongs to the group that acts, or to the one that starts
abbrev pub StartsIn : Groups → Memories → Transfer → Location → Type 0
StartsIn gs ms (Founds pid child from into) l = owner gs ms l ≡ Some child
StartsIn gs ms t l = ⊥

abbrev pub IsOwned : Groups → Memories → Transfer → Location → Type 0
IsOwned gs ms t l = (owner gs ms l ≡ group_in gs t) ⊎ StartsIn gs ms t l

pub result-mine : (gs : Groups) (ms : Memories) (pid : ℕ) (l : Location) → IfSome (result_only pid l) (λ ds. owner gs ms l ≡ gs pid)
result-mine gs ms pid l = grind (arith, nat_tests, and-left, eqb-true, when-some)

if-some : (o : Option ℕ) (b : Bool) (P : Type 0) → (b ≡ true → P) → IfSome (cond b o None) (λ k. P)
if-some o b P h1 = grind (arith, nat_tests)

offset-mine : (ms : Memories) (g : Option ℕ) (place : Option Place) (n made at : ℕ) → PlaceIs ms g place → IfSome (offset place n made at) (λ k. ms made ≡ g)
offset-mine ms g None n made at h = tt
offset-mine ms g (Some place) n made at h = if-some (within place.at n at) (place.made == made) (ms made ≡ g) (λ e. ap ms (sym (eqb-true place.made made e)) ∙ h)

ran-mine : (gs : Groups) (ms : Memories) (table : Table) (pid : ℕ) (instr : Instr) (place : Option Place) (l : Location) → PlaceIs ms (gs pid) place → IfSome (ran table pid instr place l) (λ ds. owner gs ms l ≡ gs pid)
ran-mine gs ms table pid instr place l h1 = grind (arith, nat_tests, and-left, eqb-true, map-some, offset-mine, when-some)

copied-mine : (gs : Groups) (ms : Memories) (pid child from into : ℕ) (l : Location) → Joining gs ms pid child from into → IfSome (copied pid child from into l) (λ ds. owner gs ms l ≡ gs pid)
copied-mine gs ms pid child from into l h1 = grind (arith, nat_tests, eqb-true, when-some)

begun-its : (gs : Groups) (ms : Memories) (child into : ℕ) (l : Location) → gs child ≡ Some child → ms into ≡ Some child → IfSome (begun child into l) (λ ds. owner gs ms l ≡ Some child)
begun-its gs ms child into l h1 h2 = grind (arith, nat_tests, eqb-true, when-some)

some-weaker : (P Q : List Dependence → Type 0) → ((ds : List Dependence) → P ds → Q ds) → (o : Option (List Dependence)) → IfSome o P → IfSome o Q
some-weaker P Q f None h = tt
some-weaker P Q f (Some ds) h = f ds h

pub written-mine : (gs : Groups) (ms : Memories) (table : Table) (t : Transfer) (l : Location) → Lies gs ms t → IfSome (written table t l) (λ ds. IsOwned gs ms t l)
written-mine gs ms table (Arrives len) l h = tt
written-mine gs ms table (Starts pid made load len block block_len) (Register p r i) h = when-some (λ ds. (gs p ≡ gs pid) ⊎ ⊥) (p == pid) [] (λ e. inl (ap gs (eqb-true p pid e)))
written-mine gs ms table (Starts pid made load len block block_len) (Slot p r i) h = when-some (λ ds. (gs p ≡ gs pid) ⊎ ⊥) (p == pid) [] (λ e. inl (ap gs (eqb-true p pid e)))
written-mine gs ms table (Starts pid made load len block block_len) (Memory m at) h = when-some (λ ds. (ms m ≡ gs pid) ⊎ ⊥) (m == made) (started_byte load len block block_len at) (λ e. inl (ap ms (eqb-true m made e) ∙ h.0))
written-mine gs ms table (Runs pid instr place) l h = some-weaker (λ ds. owner gs ms l ≡ gs pid) _ (λ ds k. inl k) (ran table pid instr place l) (ran-mine gs ms table pid instr place l h)
written-mine gs ms table (Returns pid) l h = some-weaker (λ ds. owner gs ms l ≡ gs pid) _ (λ ds k. inl k) (result_only pid l) (result-mine gs ms pid l)
written-mine gs ms table (Receives pid place len) (Register p r i) h = or-some (λ ds. (gs p ≡ gs pid) ⊎ ⊥) (result_only pid (Register p r i)) None (some-weaker (λ ds. gs p ≡ gs pid) _ (λ ds k. inl k) (result_only pid (Register p r i)) (result-mine gs ms pid (Register p r i))) tt
written-mine gs ms table (Receives pid place len) (Slot p r i) h = tt
written-mine gs ms table (Receives pid place len) (Memory made at) h = some-weaker (λ ds. ms made ≡ gs pid) (λ ds. (ms made ≡ gs pid) ⊎ ⊥) (λ ds k. inl k) (option_map received_byte (offset place len made at)) (map-some (λ ds. ms made ≡ gs pid) received_byte (offset place len made at) (offset-mine ms (gs pid) place len made at h))
written-mine gs ms table (Gives pid place len) l h = some-weaker (λ ds. owner gs ms l ≡ gs pid) _ (λ ds k. inl k) (result_only pid l) (result-mine gs ms pid l)
written-mine gs ms table (Forks pid child from into) l h = or-some (λ ds. (owner gs ms l ≡ gs pid) ⊎ ⊥) (result_only pid l) (copied pid child from into l) (some-weaker (λ ds. owner gs ms l ≡ gs pid) _ (λ ds k. inl k) (result_only pid l) (result-mine gs ms pid l)) (some-weaker (λ ds. owner gs ms l ≡ gs pid) _ (λ ds k. inl k) (copied pid child from into l) (copied-mine gs ms pid child from into l h))
written-mine gs ms table (Founds pid child from into) l h = or-some (λ ds. (owner gs ms l ≡ gs pid) ⊎ (owner gs ms l ≡ Some child)) (result_only pid l) (begun child into l) (some-weaker (λ ds. owner gs ms l ≡ gs pid) _ (λ ds k. inl k) (result_only pid l) (result-mine gs ms pid l)) (some-weaker (λ ds. owner gs ms l ≡ Some child) _ (λ ds k. inr k) (begun child into l) (begun-its gs ms child into l h.process h.new))
written-mine gs ms table (Begins pid made) l h = absurd h
written-mine gs ms table (Shares pid made) (Register p r i) h = or-some (λ ds. (gs p ≡ gs pid) ⊎ ⊥) (result_only pid (Register p r i)) None (some-weaker (λ ds. gs p ≡ gs pid) _ (λ ds k. inl k) (result_only pid (Register p r i)) (result-mine gs ms pid (Register p r i))) tt
written-mine gs ms table (Shares pid made) (Slot p r i) h = tt
written-mine gs ms table (Shares pid made) (Memory m at) h = when-some (λ ds. (ms m ≡ gs pid) ⊎ ⊥) (m == made) [] (λ e. inl (ap ms (eqb-true m made e) ∙ h))
written-mine gs ms table (Delivers pid cut) (Register p r i) h = or-some (λ ds. (gs p ≡ gs pid) ⊎ ⊥) (result_only pid (Register p r i)) None (some-weaker (λ ds. gs p ≡ gs pid) _ (λ ds k. inl k) (result_only pid (Register p r i)) (result-mine gs ms pid (Register p r i))) tt
written-mine gs ms table (Delivers pid cut) (Slot p r i) h = when-some (λ ds. (gs p ≡ gs pid) ⊎ ⊥) (p == pid) (saved pid cut r i) (λ e. inl (ap gs (eqb-true p pid e)))
written-mine gs ms table (Delivers pid cut) (Memory m at) h = tt
written-mine gs ms table (Leaves pid) (Register p r i) h = when-some (λ ds. (gs p ≡ gs pid) ⊎ ⊥) (p == pid) (Prior (Slot pid r i) ∷ []) (λ e. inl (ap gs (eqb-true p pid e)))
written-mine gs ms table (Leaves pid) (Slot p r i) h = when-some (λ ds. (gs p ≡ gs pid) ⊎ ⊥) (p == pid) [] (λ e. inl (ap gs (eqb-true p pid e)))
written-mine gs ms table (Leaves pid) (Memory m at) h = tt
written-mine gs ms table (Exits pid) l h = tt
written-mine gs ms table (Faults pid) l h = tt
written-mine gs ms table (Dies pid) l h = tt
