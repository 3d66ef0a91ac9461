-- At the bytes that events have, the items of groups alone are bytes that events have, under the operands of a linkage.
use Rattle.std.proofs.lemmas.Grind.{common_steps}
use Rattle.std.proofs.Common.{◌≡◌, ◌⊎◌, inl, inr, ℕ, zero, suc, ◌<◌, is_some, List, [], ◌∷◌, Option, Some, None, option_and_then, refl, ap, sym, subst, ◌∙◌, arith, All, IsTrue}
use Rattle.std.proofs.lemmas.Bool.Decides.{nat_tests}
use Rattle.std.specs.List.{AllByRecursion}
use Rattle.std.proofs.lemmas.List.Elements.{All-nil, All-cons, All-weaker}
use Rattle.std.proofs.lemmas.Option.{none-some}
use Rattle.arn_base.specs.declared.records.Record.{Record}
use Rattle.rv64_isa.specs.declared.instruction.Instr.{Instr}
use Rattle.rv64_model.specs.Carries.{Operand, Left, Right, Loaded, Address, operands}
use Rattle.rv64_model.specs.Operands.{rs1_of, rs2_of}
use Rattle.rv64_model.specs.declared.linkage.Linkage.{Linkage}
use Rattle.acts_model.specs.Transfers.{Holds, is_private, is_shared, memory_at, place_at}
use Rattle.history_model.specs.Alone as history
use Rattle.history_model.specs.Alone.{Own, Made, Makes, Fails}
use Rattle.history_model.specs.Broken.{first_broken}
use Rattle.history_model.specs.Events.{event_at, how_many}
use Rattle.history_model.specs.Exchanges.{founded}
use Rattle.history_model.specs.Groups.{event_group}
use Rattle.lineage_join.specs.Fits.{Fits, HasByte, IsThere}
use Rattle.lineage_model.specs.Flow.{At, Byte}
use Rattle.lineage_model.specs.Tracking.{EventByte, untracked}
use Rattle.query_model.specs.Sources.{items_in, items_at, tracked_of, tracked_at}
use Rattle.taint_flow.specs.Names.{loaded_len}
use Rattle.taint_laws.specs.Follows.{holders_from, none_heard, none_holds}
use Rattle.window_laws.specs.Blocks.{HasWholeBlocks}
use Rattle.taint_laws.specs.Laws.{FollowsHolders}
use Rattle.taint_state.specs.Lens.{ActsHaveLen}
use Rattle.taint_state.specs.Shown.{IsRegisterByte}
use Rattle.taint_state.specs.Steps.{IsWhole}
use Rattle.query_laws.specs.Fitting.{ItemsFit, ReachingIsOfBytes}
use Rattle.query_laws.specs.Received.{IsItem, IsReceivedBy, HasTaken}
use Rattle.query_laws.proofs.Alone.{Ends, alone-heard}
use Rattle.query_laws.proofs.Connected.{reached-same}
use Rattle.query_laws.proofs.Decoded.{FitsRun, ReadsRegisters}
use Rattle.query_laws.proofs.Heard.{State, last}
use Rattle.query_laws.proofs.Items.{IsShown, Keeps, all-keep}
use Rattle.query_laws.proofs.Operands.{AreBytes, linkage-bytes, stored-low}
use Rattle.query_laws.proofs.Origins.{origin-there}
use Rattle.query_laws.proofs.Scopes.{Scope, IsScope, InScope}
use Rattle.query_laws.proofs.Taking.{Allows, FromRegister, InWindow, OperandIn, step-takes}
use Rattle.query_laws.proofs.Telling.{tells-record}

abbrev IsLoaded : Instr → ℕ → Type 0
IsLoaded instr k = k < loaded_len instr

from-register : (r i : ℕ) → r < 32 → i < 8 → (f : Scope) → ((r i : ℕ) → IsRegisterByte r i → f.register r i) → FromRegister f r i
from-register zero i low byte f h = tt
from-register (suc r) i low byte f h = h (suc r) i (record { above = omega arith; below = low; byte = byte })

module _ (linkage : Linkage) where
  -- bytes of registers, of windows by private addresses, and of segments by shared ones
  abbrev pub real : Scope
  real = record { register = λ r i. IsRegisterByte r i; window = λ at. IsTrue (is_private at); segment = λ at. IsTrue (is_shared at); result = λ i. i < 8 }

  pub is-real : IsScope real
  is-real = grind (arith, nat_tests, stored-low)

  operands-in : (instr : Instr) → ReadsRegisters instr → (ops : List Operand) → AreBytes instr ops → AllByRecursion (OperandIn real IsLoaded instr) ops
  operands-in instr reads [] are = tt
  operands-in instr reads (Left i ∷ ops) are = (from-register (rs1_of instr) i reads.first are.0 real (λ r i is. is), operands-in instr reads ops are.1)
  operands-in instr reads (Right i ∷ ops) are = (from-register (rs2_of instr) i reads.second are.0 real (λ r i is. is), operands-in instr reads ops are.1)
  operands-in instr reads (Address i ∷ ops) are = (from-register (rs1_of instr) i reads.first are.0 real (λ r i is. is), operands-in instr reads ops are.1)
  operands-in instr reads (Loaded k ∷ ops) are = (are.0, operands-in instr reads ops are.1)

  in-window : (hs : Holds) (at len made : ℕ) → memory_at hs at ≡ Some made → IsWhole (place_at hs at) len → (k : ℕ) → k < len → InWindow real at k
  in-window hs at len made h1 h2 k h3 = grind (arith, nat_tests)

  allows-real : Allows (operands linkage) real ReadsRegisters IsLoaded
  allows-real = record {
    operands = λ instr reads i low. operands-in instr reads (operands linkage instr i) (linkage-bytes linkage instr i low);
    loads = λ instr hs at made memory whole k low. in-window hs at (loaded_len instr) made memory whole k low;
    ranges = λ hs at len made memory whole k low. in-window hs at len made memory whole k low;
  }

  module _ (entries : List Record) (g : ℕ) where
    -- a byte that is received is there
    there-by : (o : Option Record) (at : At) → (option_and_then founded o ≡ Some g → (e : Record) → o ≡ Some e → HasByte e at) → option_and_then founded o ≡ Some g → IsThere o at
    there-by None at h is = absurd (none-some g is)
    there-by (Some e) at h is = h is e refl

    taken-there : (k : ℕ) (o : Option Record) → HasTaken k o → IsThere o (Byte k)
    taken-there k None takes = takes
    taken-there k (Some e) takes = takes.inside

    pub named-there : (event : ℕ) (at : At) → IsReceivedBy entries g event at → InScope real at → IsThere (event_at entries event) at
    named-there event (Byte k) is in-scope = taken-there k (event_at entries event) is.1
    named-there event x is in-scope = there-by (event_at entries event) x (λ f e same. (ap is_some (sym (ap (option_and_then founded) same) ∙ f), in-scope)) is

    there-scope : (o : Option Record) (at : At) → IsThere o at → InScope real at
    there-scope o at h1 = grind (arith, common_steps, nat_tests)

    abbrev IsRealItem : ℕ → EventByte → Type 0
    IsRealItem event item = IsItem entries g event item × IsThere (event_at entries item.event) item.at

    as-items : (event : ℕ) (items : List EventByte) → AllByRecursion (IsShown (operands linkage) real is-real entries g event) items → All (IsRealItem event) items
    as-items event items h1 = grind (arith, common_steps, nat_tests, All-nil, All-cons, named-there)

    module _ (follows : FollowsHolders) (lens : ActsHaveLen) (moment : ℕ) (stands : first_broken entries ≡ None) (blocks : All HasWholeBlocks entries) where
      pub own-keeps : (own : Own) → history.alone entries g moment ≡ Makes own → Keeps (operands linkage) real is-real entries g (last 0 own.inside) (holders_from own.inside none_holds) (tracked_of (operands linkage) (Makes own))
      own-keeps own is =
          let f = follows entries g moment own stands blocks is in
          let heard = subst (λ (made : Made). Ends (λ (o : Own). (m : ℕ) × State entries g m o.inside) made) is (alone-heard entries g moment stands) in
          all-keep (operands linkage) real is-real entries g (λ i. FitsRun ReadsRegisters i.transfer) (tells-record lens)
          (λ h hearings i fits step possible. step-takes (operands linkage) real ReadsRegisters IsLoaded allows-real h hearings i step fits possible)
          0 none_holds none_heard own.inside untracked f.steps f.possible heard.1.heard heard.1.runs
          (record { locations = λ l held. tt; points = λ e a is. tt })

      own-items : (own : Own) → history.alone entries g moment ≡ Makes own → (event : ℕ) (at : At) → InScope real at → All (IsRealItem event) ((tracked_of (operands linkage) (Makes own)).points event at)
      own-items own is event at in-scope = as-items event ((tracked_of (operands linkage) (Makes own)).points event at) ((own-keeps own is).points event at in-scope)

      made-items : (made : Made) → history.alone entries g moment ≡ made → (event : ℕ) (at : At) → InScope real at → All (IsRealItem event) ((tracked_of (operands linkage) made).points event at)
      made-items (Makes own) is event at in-scope = own-items own is event at in-scope
      made-items (Fails disagrees) is event at in-scope = All-nil (IsRealItem event)

      pub real-items : (event : ℕ) (at : At) → IsThere (event_at entries event) at → All (IsRealItem event) ((tracked_at (operands linkage) entries moment g).points event at)
      real-items event at there = made-items (history.alone entries g moment) refl event at (there-scope (event_at entries event) at there)

  module _ (entries : List Record) (follows : FollowsHolders) (lens : ActsHaveLen) (moment : ℕ) (stands : first_broken entries ≡ None) (blocks : All HasWholeBlocks entries) where
    items-fit : (event : ℕ) (at : At) (o : Option ℕ) → IsThere (event_at entries event) at → All (Fits entries event) (items_in (operands linkage) entries moment event at o)
    items-fit event at o h1 = grind (arith, common_steps, nat_tests, All-nil, All-weaker, real-items)

    of-bytes : (event : ℕ) (at : At) (items : List EventByte) → (items ≡ []) ⊎ (IsThere (event_at entries event) at × (items ≡ items_at (operands linkage) entries moment event at)) → All (Fits entries event) items
    of-bytes event at items (inl none) = subst (λ (xs : List EventByte). All (Fits entries event) xs) (sym none) (All-nil (Fits entries event))
    of-bytes event at items (inr is) = subst (λ (xs : List EventByte). All (Fits entries event) xs) (sym is.1) (items-fit event at (event_group entries event) is.0)

pub fit : FollowsHolders → ActsHaveLen → ItemsFit
fit follows lens linkage entries moment items stands blocks are event at = of-bytes linkage entries follows lens moment stands blocks event at (items event at) (are event at)

pub reaching-bytes : FollowsHolders → ActsHaveLen → ReachingIsOfBytes
reaching-bytes follows lens linkage entries from moment items stands blocks groups agree event at asked there =
    reached-same entries from stands groups (λ event at. IsThere (event_at entries event) at) (origin-there entries stands) (operands linkage) moment
    (λ g event at there. real-items linkage entries g follows lens moment stands blocks event at there)
    items (λ event at asks. agree event at asks.0 asks.1) (how_many entries) event at (asked, there)
