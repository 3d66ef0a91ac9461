-- The items of a group alone are bytes that its events received, or with which it began.
use Rattle.std.proofs.lemmas.Grind.{common_steps}
use Rattle.std.proofs.Common.{◌≡◌, ℕ, zero, suc, List, [], ◌∷◌, None, refl, subst, arith, All}
use Rattle.std.proofs.lemmas.Bool.Decides.{nat_tests}
use Rattle.std.specs.List.{AllByRecursion}
use Rattle.std.proofs.lemmas.List.Elements.{All-nil, All-cons}
use Rattle.arn_base.specs.declared.records.Record.{Record}
use Rattle.rv64_isa.specs.declared.instruction.Instr.{Instr}
use Rattle.rv64_model.specs.Carries.{Operand, Left, Right, Loaded, Address, Table}
use Rattle.rv64_model.specs.Operands.{rs1_of, rs2_of}
use Rattle.acts_model.specs.Moved.{Inside}
use Rattle.acts_model.specs.Transfers.{Transfer}
use Rattle.history_model.specs.Alone as history
use Rattle.history_model.specs.Alone.{Own, Made, Makes, Fails}
use Rattle.history_model.specs.Broken.{first_broken}
use Rattle.lineage_model.specs.Flow.{At}
use Rattle.lineage_model.specs.Tracking.{EventByte, untracked}
use Rattle.query_model.specs.Sources.{tracked_of}
use Rattle.taint_laws.specs.Follows.{holders_from, none_heard, none_holds}
use Rattle.window_laws.specs.Blocks.{HasWholeBlocks}
use Rattle.taint_laws.specs.Laws.{FollowsHolders}
use Rattle.taint_state.specs.Lens.{ActsHaveLen}
use Rattle.query_laws.specs.Received.{IsItem, ItemsAreReceived}
use Rattle.query_laws.proofs.Alone.{Ends, alone-heard}
use Rattle.query_laws.proofs.Decoded.{FitsRun}
use Rattle.query_laws.proofs.Heard.{State, last}
use Rattle.query_laws.proofs.Items.{IsShown, Keeps, all-keep}
use Rattle.query_laws.proofs.Scopes.{Scope, IsScope, InScope}
use Rattle.query_laws.proofs.Taking.{Allows, FromRegister, OperandIn, step-takes}
use Rattle.query_laws.proofs.Telling.{tells-record}

-- all bytes are followed
module _ (table : Table) where
  abbrev whole : Scope
  whole = record { register = λ r i. Unit {0}; window = λ at. Unit {0}; segment = λ at. Unit {0}; result = λ i. Unit {0} }

  is-whole : IsScope whole
  is-whole = record { results = λ r i is. tt; stores = λ instr i low. tt; status = tt }

  abbrev AnyInstr : Instr → Type 0
  AnyInstr instr = Unit {0}

  abbrev AnyByte : Instr → ℕ → Type 0
  AnyByte instr k = Unit {0}

  from-any : (r i : ℕ) → FromRegister whole r i
  from-any zero i = tt
  from-any (suc r) i = tt

  any-operands : (instr : Instr) (operands : List Operand) → AllByRecursion (OperandIn whole AnyByte instr) operands
  any-operands instr [] = tt
  any-operands instr (Left i ∷ operands) = (from-any (rs1_of instr) i, any-operands instr operands)
  any-operands instr (Right i ∷ operands) = (from-any (rs2_of instr) i, any-operands instr operands)
  any-operands instr (Address i ∷ operands) = (from-any (rs1_of instr) i, any-operands instr operands)
  any-operands instr (Loaded k ∷ operands) = (tt, any-operands instr operands)

  allows-all : Allows table whole AnyInstr AnyByte
  allows-all = record {
    operands = λ instr fit i is. any-operands instr (table instr i);
    loads = λ instr hs at made memory is-there k is. record { private = λ p. tt; shared = λ p. tt };
    ranges = λ hs at len made memory is-there k low. record { private = λ p. tt; shared = λ p. tt };
  }

  fits-any : (d : Transfer) → FitsRun AnyInstr d
  fits-any d = grind (arith, nat_tests)

  any-runs : (list : List Inside) → AllByRecursion (λ i. FitsRun AnyInstr i.transfer) list
  any-runs [] = tt
  any-runs (i ∷ list) = (fits-any i.transfer, any-runs list)

  any-scope : (at : At) → InScope whole at
  any-scope at = grind (arith, nat_tests)

  module _ (entries : List Record) (g : ℕ) where
    as-items : (event : ℕ) (items : List EventByte) → AllByRecursion (IsShown table whole is-whole entries g event) items → All (IsItem entries g event) items
    as-items event items h1 = grind (arith, common_steps, nat_tests, All-nil, All-cons)

    module _ (follows : FollowsHolders) (lens : ActsHaveLen) (moment : ℕ) (stands : first_broken entries ≡ None) (blocks : All HasWholeBlocks entries) where
      own-keeps : (own : Own) → history.alone entries g moment ≡ Makes own → Keeps table whole is-whole entries g (last 0 own.inside) (holders_from own.inside none_holds) (tracked_of table (Makes own))
      own-keeps own is =
          let f = follows entries g moment own stands blocks is in
          let heard = subst (λ (made : Made). Ends (λ (o : Own). (m : ℕ) × State entries g m o.inside) made) is (alone-heard entries g moment stands) in
          all-keep table whole is-whole entries g (λ i. FitsRun AnyInstr i.transfer) (tells-record lens)
          (λ h hearings i fits step possible. step-takes table whole AnyInstr AnyByte allows-all h hearings i step fits possible)
          0 none_holds none_heard own.inside untracked f.steps f.possible heard.1.heard (any-runs own.inside)
          (record { locations = λ l held. tt; points = λ e a is. tt })

      own-items : (own : Own) → history.alone entries g moment ≡ Makes own → (event : ℕ) (at : At) → All (IsItem entries g event) ((tracked_of table (Makes own)).points event at)
      own-items own is event at = as-items event ((tracked_of table (Makes own)).points event at) ((own-keeps own is).points event at (any-scope at))

      made-items : (made : Made) → history.alone entries g moment ≡ made → (event : ℕ) (at : At) → All (IsItem entries g event) ((tracked_of table made).points event at)
      made-items (Makes own) is event at = own-items own is event at
      made-items (Fails disagrees) is event at = All-nil (IsItem entries g event)

pub received-items : FollowsHolders → ActsHaveLen → ItemsAreReceived
received-items follows lens table entries g moment stands blocks event at =
    made-items table entries g follows lens moment stands blocks (history.alone entries g moment) refl event at
