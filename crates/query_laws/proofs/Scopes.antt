-- Bytes that live members hold, and what each step takes of them.
use Rattle.std.proofs.lemmas.Grind.{common_steps}
use Rattle.std.proofs.Common.{◌≡◌, ◌⊎◌, inl, inr, ℕ, suc, ◌-◌, ◌<◌, ◌==◌, ◌&&◌, Bool, true, false, if◌then◌else◌, List, [], ◌∷◌, map, flat_map, Option, Some, None, IfSome, IsNone, option_map, unwrap_or, refl, ap, sym, subst, ◌∙◌, arith}
use Rattle.std.proofs.lemmas.Bool.Decides.{nat_tests}
use Rattle.std.specs.List.{AllByRecursion}
use Rattle.std.proofs.lemmas.Bool.{true≢false, and_parts, leb-true, ltb-true}
use Rattle.std.proofs.lemmas.Bool.Decides.{eqb_tells}
use Rattle.std.proofs.lemmas.Option.{none-some, same_Some}
use Rattle.rv64_isa.specs.declared.instruction.Instr.{Instr}
use Rattle.rv64_model.specs.Carries.{Table}
use Rattle.rv64_model.specs.Operands.{rd_of, stored_len}
use Rattle.acts_model.specs.Moved.{within}
use Rattle.acts_model.specs.Transfers.{Holds, Place, Transfer, Arrives, Starts, Runs, Returns, Receives, Gives, Forks, Founds, Begins, Shares, Delivers, Leaves, Exits, Faults, Dies}
use Rattle.lineage_model.specs.Flow.{Location, Register, Slot, Memory, At, Byte, StartRegister, StartSlot, StartMemory, Dependence, Prior, Received, bytes_at, flow, offset, operand_bytes, or_else, result_bytes, result_only, shown, shown_byte, started_byte, unless_result, when, if_below, saved}
use Rattle.taint_state.specs.Goes.{IsOwn, IsUnheld, IsUnheldBy}
use Rattle.taint_state.specs.Steps.{Holders, child_holds, holders_after, shared_holds, with_holder}

-- which bytes of registers, windows and segments are followed, and which bytes of results
pub record Scope : Type 1 where
  pub register : ℕ → ℕ → Type 0
  pub window : ℕ → Type 0
  pub segment : ℕ → Type 0
  pub result : ℕ → Type 0

-- what results come to is followed, and so is the status of an exit
pub record IsScope (s : Scope) : Type 0 where
  pub results : (r i : ℕ) → s.register r i → s.result i
  pub stores : (instr : Instr) (i : ℕ) → i < stored_len instr → s.result i
  pub status : s.register 10 0

-- a byte that a process holds
abbrev pub IsHeldBy : Scope → Holds → ℕ → Location → Type 0
IsHeldBy s hs pid (Register p r i) = (p ≡ pid) × s.register r i
IsHeldBy s hs pid (Slot p r i) = (p ≡ pid) × s.register r i
IsHeldBy s hs pid (Memory made at) = ((hs.window ≡ made) × s.window at) ⊎ ((hs.segment ≡ Some made) × s.segment at)

-- or some live member
abbrev pub IsHeld : Scope → Holders → Location → Type 0
IsHeld s h l = (p : ℕ) × (hs : Holds) × (h p ≡ Some hs) × IsHeldBy s hs p l

-- what a byte takes is held, or may be received
abbrev pub IsSource : Scope → Holders → (At → Type 0) → Dependence → Type 0
IsSource s h Q (Prior l) = IsHeld s h l
IsSource s h Q (Received at) = Q at

abbrev pub AreSources : Scope → Holders → (At → Type 0) → List Dependence → Type 0
AreSources s h Q ds = AllByRecursion (IsSource s h Q) ds

-- what a step receives
abbrev pub IsGot : Scope → Transfer → At → Type 0
IsGot s (Starts pid made load len block block_len) (Byte k) = k < len
IsGot s (Receives pid place len) (Byte k) = k < len
IsGot s (Begins pid made) (StartRegister r i) = s.register r i
IsGot s (Begins pid made) (StartSlot r i) = s.register r i
IsGot s (Begins pid made) (StartMemory at) = s.window at
IsGot s transfer at = ⊥

-- a byte of an event that is followed
abbrev pub InScope : Scope → At → Type 0
InScope s (Byte k) = Unit {0}
InScope s (StartRegister r i) = s.register r i
InScope s (StartSlot r i) = s.register r i
InScope s (StartMemory at) = s.window at

-- a byte that the step shows where it receives it
abbrev pub IsByte : At → Type 0
IsByte (Byte k) = Unit {0}
IsByte _ = ⊥

abbrev pub IsShownGot : Scope → Transfer → At → Type 0
IsShownGot s d at = IsGot s d at × IsByte at

-- all bytes of a range are held
abbrev pub RangeIsHeld : Scope → Holders → Option Place → ℕ → Type 0
RangeIsHeld s h place len = (k : ℕ) → k < len → AllByRecursion (IsHeld s h) (bytes_at place k)

-- what a step is of what members hold
abbrev pub IsTaking : Table → Scope → Holders → Transfer → Type 0
IsTaking table s h (Arrives len) = ⊥
IsTaking table s h (Runs pid instr place) = (i : ℕ) → s.result i → AllByRecursion (IsHeld s h) (flat_map (operand_bytes pid instr place) (table instr i))
IsTaking table s h (Starts pid made load len block block_len) = RangeIsHeld s h block block_len
IsTaking table s h (Gives pid place len) = RangeIsHeld s h place len
IsTaking table s h (Forks pid child from into) = (hs : Holds) × (h pid ≡ Some hs) × (hs.window ≡ from) × IsUnheld h into
IsTaking table s h (Founds pid child from into) = (hs : Holds) × (h pid ≡ Some hs) × (hs.window ≡ from) × IsUnheld h into × IsNone (h child)
IsTaking table s h (Begins pid made) = IsOwn h pid made
IsTaking table s h (Shares pid made) = (hs : Holds) × (h pid ≡ Some hs)
IsTaking table s h (Exits pid) = (hs : Holds) × (h pid ≡ Some hs)
IsTaking table s h other = Unit {0}

priors : (s : Scope) (h : Holders) (Q : At → Type 0) (ls : List Location) → AllByRecursion (IsHeld s h) ls → AreSources s h Q (map Prior ls)
priors s h Q [] a = tt
priors s h Q (l ∷ ls) a = (a.0, priors s h Q ls a.1)

-- a byte that isn't written
abbrev Or-self : Location → Option (List Dependence) → List Dependence
Or-self l o = unwrap_or o (Prior l ∷ [])

within-below : (a n b k : ℕ) → within a n b ≡ Some k → k < n
within-below a n b k h1 = grind (arith, nat_tests, and_parts, leb-true, ltb-true, none-some, same_Some)

offset-below : (place : Option Place) (n made at k : ℕ) → offset place n made at ≡ Some k → k < n
offset-below place n made at k h1 = grind (arith, nat_tests, none-some, within-below)

module _ (table : Table) (s : Scope) (is-scope : IsScope s) (h : Holders) where
  module _ (Q : At → Type 0) where
    -- one byte that stays
    self : (p : ℕ) (hs : Holds) (l : Location) → h p ≡ Some hs → IsHeldBy s hs p l → AreSources s h Q (Prior l ∷ [])
    self p hs l lives held = ((p, hs, lives, held), tt)

    either : (b : Bool) (l : Location) (ds : List Dependence) → (b ≡ true → AreSources s h Q ds) → (b ≡ false → AreSources s h Q (Prior l ∷ [])) → AreSources s h Q (Or-self l (when b ds))
    either true l ds hit miss = hit refl
    either false l ds hit miss = miss refl

    unless-result : (r : ℕ) (d : Dependence) → IsSource s h Q d → AreSources s h Q (unless_result r (d ∷ []))
    unless-result r d h1 = grind (arith, common_steps, nat_tests)

  same-number : (a b : ℕ) → a ≡ b → (a == b) ≡ true
  same-number a b e = elim (eqb_tells a b) [ inl is ↦ is.0 | inr apart ↦ absurd (apart.1 e) ]

  other-number : (a b : ℕ) → (a ≡ b → ⊥) → (a == b) ≡ false
  other-number a b e = elim (eqb_tells a b) [ inl is ↦ absurd (e is.1) | inr apart ↦ apart.0 ]

  -- what a live member holds after each step comes of what members held before it
  abbrev FlowIsHeld : Transfer → Type 0
  FlowIsHeld d = (p : ℕ) (hs : Holds) (l : Location) → holders_after d h p ≡ Some hs → IsHeldBy s hs p l → AreSources s h (IsGot s d) (flow table d l)

  quiet : (d : Transfer) → ((l : Location) → flow table d l ≡ Prior l ∷ []) → ((p : ℕ) (hs : Holds) → holders_after d h p ≡ Some hs → h p ≡ Some hs) → FlowIsHeld d
  quiet d keeps was p hs l lives held = subst (λ (ds : List Dependence). AreSources s h (IsGot s d) ds) (sym (keeps l)) (self (IsGot s d) p hs l (was p hs lives) held)

  gone : (pid p : ℕ) (hs : Holds) → with_holder pid None h p ≡ Some hs → h p ≡ Some hs
  gone pid p hs h1 = grind (arith, nat_tests, none-some)

  -- a call's result
  result-held : (Q : At → Type 0) (pid p : ℕ) (hs : Holds) (l : Location) → h p ≡ Some hs → IsHeldBy s hs p l → AreSources s h Q (Or-self l (result_only pid l))
  result-held Q pid p hs l h1 h2 = grind (arith, nat_tests)

  returns-held : (pid : ℕ) → FlowIsHeld (Returns pid)
  returns-held pid p hs l lives held = result-held (IsGot s (Returns pid)) pid p hs l lives held

  gives-held : (pid : ℕ) (place : Option Place) (len : ℕ) → FlowIsHeld (Gives pid place len)
  gives-held pid place len p hs l lives held = result-held (IsGot s (Gives pid place len)) pid p hs l lives held

  receives-held : (pid : ℕ) (place : Option Place) (len : ℕ) → FlowIsHeld (Receives pid place len)
  receives-held pid place len = grind (arith, nat_tests, offset-below, result-held)

  runs-held : (pid : ℕ) (instr : Instr) (place : Option Place) → IsTaking table s h (Runs pid instr place) → FlowIsHeld (Runs pid instr place)
  runs-held pid instr place takes p hs (Register q (suc r) i) lives held =
      let Q = IsGot s (Runs pid instr place) in
      either Q ((q == pid) && (suc r == rd_of instr)) (Register q (suc r) i) (result_bytes table pid instr place i)
      (λ hit. priors s h Q (flat_map (operand_bytes pid instr place) (table instr i)) (takes i (is-scope.results (suc r) i held.1)))
      (λ miss. self Q p hs (Register q (suc r) i) lives held)
  runs-held pid instr place takes p hs (Memory made at) lives held = by-offset (offset place (stored_len instr) made at) refl
    where
      by-offset : (o : Option ℕ) → offset place (stored_len instr) made at ≡ o → AreSources s h (IsGot s (Runs pid instr place)) (Or-self (Memory made at) (option_map (result_bytes table pid instr place) o))
      by-offset None e = self (IsGot s (Runs pid instr place)) p hs (Memory made at) lives held
      by-offset (Some k) e =
          priors s h (IsGot s (Runs pid instr place)) (flat_map (operand_bytes pid instr place) (table instr k)) (takes k (is-scope.stores instr k (offset-below place (stored_len instr) made at k e)))
  runs-held pid instr place takes p hs x lives held = self (IsGot s (Runs pid instr place)) p hs x lives held

  -- an image
  started-held : (pid made load len : ℕ) (block : Option Place) (block_len at : ℕ) → RangeIsHeld s h block block_len → AreSources s h (IsGot s (Starts pid made load len block block_len)) (started_byte load len block block_len at)
  started-held pid made load len block block_len at h1 = grind (arith, nat_tests, priors, within-below)

  -- a process that changes, and the others
  changes : (pid p : ℕ) (o : Option Holds) (hs : Holds) → with_holder pid o h p ≡ Some hs → ((p ≡ pid) × (o ≡ Some hs)) ⊎ ((p ≡ pid → ⊥) × (h p ≡ Some hs))
  changes pid p o hs h1 = grind (arith, nat_tests, eqb_tells)

  starts-held : (pid made load len : ℕ) (block : Option Place) (block_len : ℕ) → RangeIsHeld s h block block_len → FlowIsHeld (Starts pid made load len block block_len)
  starts-held pid made load len block block_len h1 = grind (arith, nat_tests, changes, none-some, same-number, same_Some, started-held, true≢false)

  -- a member holds no memory that is new
  unheld : (p made : ℕ) (hs : Holds) → h p ≡ Some hs → IfSome (h p) (IsUnheldBy made) → IsUnheldBy made hs
  unheld p made hs lives is = subst (λ (o : Option Holds). IfSome o (IsUnheldBy made)) lives is

  not-new : (p made m at : ℕ) (hs : Holds) → IsUnheldBy made hs → IsHeldBy s hs p (Memory m at) → (m == made) ≡ false
  not-new p made m at hs u (inl window) = other-number m made (λ e. u.window (window.0 ∙ e))
  not-new p made m at hs u (inr segment) = other-number m made (λ e. u.segment (segment.0 ∙ ap (λ (n : ℕ). Some n) e))

  by-number : (Q : At → Type 0) (b : Bool) (l : Location) (ds : List Dependence) → b ≡ true → AreSources s h Q ds → AreSources s h Q (Or-self l (when b ds))
  by-number Q b l ds is a = either Q b l ds (λ hit. a) (λ miss. absurd (true≢false (sym is ∙ miss)))

  -- what follows a result that isn't this register's
  behind-result : (Q : At → Type 0) (b : Bool) (l : Location) (o : Option (List Dependence)) → AreSources s h Q (Or-self l o) → AreSources s h Q (Or-self l (or_else (when b []) o))
  behind-result Q true l o a = tt
  behind-result Q false l o a = a

  child-is : (into : ℕ) (o : Option Holds) (parent hs : Holds) → o ≡ Some parent → child_holds into o ≡ Some hs → hs ≡ record { window = into; segment = parent.segment }
  child-is into None parent hs is e = absurd (none-some parent is)
  child-is into (Some x) parent hs is e = sym (same_Some (record { window = into; segment = x.segment }) hs e) ∙ ap (λ (y : Holds). record { window = into; segment = y.segment }) (same_Some x parent is)

  fork-child : (pid child from into p : ℕ) (parent : Holds) (l : Location) → h pid ≡ Some parent → parent.window ≡ from → IsUnheldBy into parent → p ≡ child
      → IsHeldBy s (record { window = into; segment = parent.segment }) p l → AreSources s h (IsGot s (Forks pid child from into)) (flow table (Forks pid child from into) l)
  fork-child pid child from into p parent l h1 h2 h3 h4 h5 = grind (arith, nat_tests, behind-result, by-number, same-number, unless-result, self, either, true≢false, not-new)

  fork-other : (pid child from into p : ℕ) (hs : Holds) (l : Location) → h p ≡ Some hs → IsUnheldBy into hs → (p ≡ child → ⊥) → IsHeldBy s hs p l
      → AreSources s h (IsGot s (Forks pid child from into)) (flow table (Forks pid child from into) l)
  fork-other pid child from into p hs (Register q r i) lives u other held =
      let Q = IsGot s (Forks pid child from into) in
      behind-result Q ((q == pid) && (r == 10)) (Register q r i) (when (q == child) (unless_result r (Prior (Register pid r i) ∷ [])))
      (either Q (q == child) (Register q r i) (unless_result r (Prior (Register pid r i) ∷ []))
      (λ hit. absurd (true≢false (sym hit ∙ other-number q child (λ e. other (sym held.0 ∙ e)))))
      (λ miss. self Q p hs (Register q r i) lives held))
  fork-other pid child from into p hs (Slot q r i) lives u other held =
      let Q = IsGot s (Forks pid child from into) in
      either Q (q == child) (Slot q r i) (Prior (Slot pid r i) ∷ [])
      (λ hit. absurd (true≢false (sym hit ∙ other-number q child (λ e. other (sym held.0 ∙ e)))))
      (λ miss. self Q p hs (Slot q r i) lives held)
  fork-other pid child from into p hs (Memory m at) lives u other held =
      let Q = IsGot s (Forks pid child from into) in
      either Q (m == into) (Memory m at) (Prior (Memory from at) ∷ [])
      (λ hit. absurd (true≢false (sym hit ∙ not-new p into m at hs u held)))
      (λ miss. self Q p hs (Memory m at) lives held)

  forks-held : (pid child from into : ℕ) → IsTaking table s h (Forks pid child from into) → FlowIsHeld (Forks pid child from into)
  forks-held pid child from into h1 = grind (arith, nat_tests, changes, child-is, fork-child, fork-other, unheld)

  -- a child that starts a group isn't a member
  alive-isnt : (child p : ℕ) (hs : Holds) → h p ≡ Some hs → IsNone (h child) → p ≡ child → ⊥
  alive-isnt child p hs h1 h2 h3 = grind (arith, nat_tests, none-some, true≢false)

  founds-held : (pid child from into : ℕ) → IsTaking table s h (Founds pid child from into) → FlowIsHeld (Founds pid child from into)
  founds-held pid child from into takes p hs (Register q r i) lives held =
      let Q = IsGot s (Founds pid child from into) in
      behind-result Q ((q == pid) && (r == 10)) (Register q r i) (when (q == child) (unless_result r (Received (StartRegister r i) ∷ [])))
      (either Q (q == child) (Register q r i) (unless_result r (Received (StartRegister r i) ∷ []))
      (λ hit. absurd (true≢false (sym hit ∙ other-number q child (λ e. alive-isnt child p hs lives takes.4 (sym held.0 ∙ e)))))
      (λ miss. self Q p hs (Register q r i) lives held))
  founds-held pid child from into takes p hs (Slot q r i) lives held =
      let Q = IsGot s (Founds pid child from into) in
      either Q (q == child) (Slot q r i) (Received (StartSlot r i) ∷ [])
      (λ hit. absurd (true≢false (sym hit ∙ other-number q child (λ e. alive-isnt child p hs lives takes.4 (sym held.0 ∙ e)))))
      (λ miss. self Q p hs (Slot q r i) lives held)
  founds-held pid child from into takes p hs (Memory m at) lives held =
      let Q = IsGot s (Founds pid child from into) in
      either Q (m == into) (Memory m at) (Received (StartMemory at) ∷ [])
      (λ hit. absurd (true≢false (sym hit ∙ not-new p into m at hs (unheld p into hs lives (takes.3 p)) held)))
      (λ miss. self Q p hs (Memory m at) lives held)

  -- the group's first process
  begins-held : (pid made : ℕ) → IsOwn h pid made → FlowIsHeld (Begins pid made)
  begins-held pid made h1 = grind (arith, nat_tests, by-number, changes, none-some, not-new, other-number, same-number)

  -- a fresh segment
  shared-is : (made : ℕ) (o : Option Holds) (own hs : Holds) → o ≡ Some own → shared_holds made o ≡ Some hs → hs ≡ record { window = own.window; segment = Some made }
  shared-is made None own hs is e = absurd (none-some own is)
  shared-is made (Some x) own hs is e = sym (same_Some (record { window = x.window; segment = Some made }) hs e) ∙ ap (λ (y : Holds). record { window = y.window; segment = Some made }) (same_Some x own is)

  shares-own : (pid made p : ℕ) (own : Holds) (l : Location) → h pid ≡ Some own → p ≡ pid → IsHeldBy s (record { window = own.window; segment = Some made }) p l
      → AreSources s h (IsGot s (Shares pid made)) (flow table (Shares pid made) l)
  shares-own pid made p own l h1 h2 h3 = grind (arith, common_steps, nat_tests, behind-result, self, either, by-number, same-number, same_Some)

  shares-held : (pid made : ℕ) → IsTaking table s h (Shares pid made) → FlowIsHeld (Shares pid made)
  shares-held pid made h1 = grind (arith, nat_tests, behind-result, changes, shared-is, shares-own)

  -- signals
  delivers-held : (pid : ℕ) (cut : Bool) → FlowIsHeld (Delivers pid cut)
  delivers-held pid cut p hs (Register q r i) lives held =
      let Q = IsGot s (Delivers pid cut) in
      behind-result Q ((q == pid) && (r == 10)) (Register q r i) None (self Q p hs (Register q r i) lives held)
  delivers-held pid cut p hs (Slot q r i) lives held =
      either (IsGot s (Delivers pid cut)) (q == pid) (Slot q r i) (saved pid cut r i) (λ hit. by-cut (cut && (r == 10)) (elim (eqb_tells q pid) [ inl is ↦ is.1 | inr apart ↦ absurd (true≢false (sym hit ∙ apart.0)) ])) (λ miss. self (IsGot s (Delivers pid cut)) p hs (Slot q r i) lives held)
    where
      by-cut : (b : Bool) → q ≡ pid → AreSources s h (IsGot s (Delivers pid cut)) (if b then [] else Prior (Register pid r i) ∷ [])
      by-cut true is = tt
      by-cut false is = self (IsGot s (Delivers pid cut)) p hs (Register pid r i) lives (sym is ∙ held.0, held.1)
  delivers-held pid cut p hs (Memory m at) lives held = self (IsGot s (Delivers pid cut)) p hs (Memory m at) lives held

  leaves-held : (pid : ℕ) → FlowIsHeld (Leaves pid)
  leaves-held pid p hs (Register q r i) lives held =
      either (IsGot s (Leaves pid)) (q == pid) (Register q r i) (Prior (Slot pid r i) ∷ [])
      (λ hit. self (IsGot s (Leaves pid)) p hs (Slot pid r i) lives (elim (eqb_tells q pid) [ inl is ↦ (sym is.1 ∙ held.0, held.1) | inr apart ↦ absurd (true≢false (sym hit ∙ apart.0)) ]))
      (λ miss. self (IsGot s (Leaves pid)) p hs (Register q r i) lives held)
  leaves-held pid p hs (Slot q r i) lives held =
      either (IsGot s (Leaves pid)) (q == pid) (Slot q r i) [] (λ hit. tt) (λ miss. self (IsGot s (Leaves pid)) p hs (Slot q r i) lives held)
  leaves-held pid p hs (Memory m at) lives held = self (IsGot s (Leaves pid)) p hs (Memory m at) lives held

  pub flow-held : (d : Transfer) → IsTaking table s h d → FlowIsHeld d
  flow-held (Arrives len) takes = absurd takes
  flow-held (Starts pid made load len block block_len) takes = starts-held pid made load len block block_len takes
  flow-held (Runs pid instr place) takes = runs-held pid instr place takes
  flow-held (Returns pid) takes = returns-held pid
  flow-held (Receives pid place len) takes = receives-held pid place len
  flow-held (Gives pid place len) takes = gives-held pid place len
  flow-held (Forks pid child from into) takes = forks-held pid child from into takes
  flow-held (Founds pid child from into) takes = founds-held pid child from into takes
  flow-held (Begins pid made) takes = begins-held pid made takes
  flow-held (Shares pid made) takes = shares-held pid made takes
  flow-held (Delivers pid cut) takes = delivers-held pid cut
  flow-held (Leaves pid) takes = leaves-held pid
  flow-held (Exits pid) takes = quiet (Exits pid) (λ l. refl) (gone pid)
  flow-held (Faults pid) takes = quiet (Faults pid) (λ l. refl) (gone pid)
  flow-held (Dies pid) takes = quiet (Dies pid) (λ l. refl) (gone pid)

  -- what a byte of the step's event takes
  below-held : (Q : At → Type 0) (k n : ℕ) (ds : List Dependence) → (k < n → AreSources s h Q ds) → AreSources s h Q (if_below k n ds)
  below-held Q k n ds h1 = grind (arith, nat_tests, ltb-true)

  byte-held : (d : Transfer) (k : ℕ) → IsTaking table s h d → AreSources s h (IsShownGot s d) (shown_byte d k)
  byte-held d k h1 = grind (arith, nat_tests, below-held, priors)

  register-held : (d : Transfer) (r i : ℕ) → IsTaking table s h d → s.register r i → AreSources s h (IsShownGot s d) (shown d (StartRegister r i))
  register-held d r i h1 h2 = grind (arith, nat_tests)

  slot-held : (d : Transfer) (r i : ℕ) → IsTaking table s h d → s.register r i → AreSources s h (IsShownGot s d) (shown d (StartSlot r i))
  slot-held d r i h1 h2 = grind (arith, nat_tests)

  memory-held : (d : Transfer) (at : ℕ) → IsTaking table s h d → s.window at → AreSources s h (IsShownGot s d) (shown d (StartMemory at))
  memory-held d at h1 h2 = grind (arith, nat_tests)

  pub shown-held : (d : Transfer) (at : At) → IsTaking table s h d → InScope s at → AreSources s h (IsShownGot s d) (shown d at)
  shown-held d at h1 h2 = grind (arith, nat_tests, byte-held, memory-held, register-held, slot-held)
