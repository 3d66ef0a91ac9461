-- A boot begins process 1 and then starts it: what the begin wrote, the start writes again.
use Rattle.std.proofs.Common.{◌≡◌, ℕ, ◌+◌, ◌-◌, ◌==◌, cond, Bool, true, false, List, [], ◌∷◌, Option, Some, None, unwrap_or, option_map, refl, append-nil, arith}
use Rattle.std.proofs.lemmas.Bool.Decides.{nat_tests}
use Rattle.arn_base.specs.declared.machine.Cpu.{Cpu}
use Rattle.arn_base.specs.declared.records.Record.{Record}
use Rattle.rv64_model.specs.Carries.{Table}
use Rattle.parts_model.specs.Image.{header_len}
use Rattle.acts_model.specs.Moved.{Inside, within}
use Rattle.acts_model.specs.Transfers.{Starts}
use Rattle.acts_model.specs.Views.{block_at}
use Rattle.lineage_model.specs.Flow.{Location, Register, Slot, Memory, At, Dependence, Prior, shown, when, block_byte, body_byte, received_byte, started_byte}
use Rattle.lineage_model.specs.Tracking.{EventByte, Tracked, alone_after, gather, items}
use Rattle.taint_state.specs.Goes.{begin_inside}

-- process 1 starts at an event, without a block
abbrev pub start_inside : ℕ → ℕ → ℕ → Record → Cpu → Inside
start_inside load len event e before =
    record { actor = Some 1; before = before; transfer = Starts 1 event load len None 0; event = Some (record { number = event; entry = e }) }

module _ (given : At → List EventByte) where
  -- what a start without a block takes is received
  body-same : (a b : Location → List EventByte) (o : Option ℕ) → gather given a (unwrap_or (option_map (λ k. received_byte (header_len + k)) o) []) ≡ gather given b (unwrap_or (option_map (λ k. received_byte (header_len + k)) o) [])
  body-same a b None = refl
  body-same a b (Some k) = refl

  block-same : (a b : Location → List EventByte) (load len at : ℕ) (o : Option ℕ)
      → gather given a (unwrap_or (option_map (block_byte None) o) (body_byte load len at)) ≡ gather given b (unwrap_or (option_map (block_byte None) o) (body_byte load len at))
  block-same a b load len at o = grind (arith, nat_tests, body-same)

  -- written, or kept
  written-same : (a b : Location → List EventByte) (l : Location) (ds : List Dependence) (test : Bool)
      → gather given a ds ≡ gather given b ds → (test ≡ false → a l ≡ b l)
      → gather given a (unwrap_or (when test ds) (Prior l ∷ [])) ≡ gather given b (unwrap_or (when test ds) (Prior l ∷ []))
  written-same a b l ds test h1 h2 = grind (arith, nat_tests)

  -- where nothing is written
  keeps : (a : Location → List EventByte) (l : Location) (ds : List Dependence) (test : Bool) → test ≡ false → gather given a (unwrap_or (when test ds) (Prior l ∷ [])) ≡ a l
  keeps a l ds true e = cc
  keeps a l ds false e = append-nil (a l)

  below-same : (a b : Location → List EventByte) (k : ℕ) (test : Bool) → gather given a (cond test (received_byte k) []) ≡ gather given b (cond test (received_byte k) [])
  below-same a b k true = refl
  below-same a b k false = refl

module _ (table : Table) (load len event : ℕ) (e : Record) (before : Cpu) (t : Tracked EventByte) where
  abbrev begun : Tracked EventByte
  begun = alone_after table (begin_inside 1 event e before) t

  abbrev given : At → List EventByte
  given = items (Some (record { number = event; entry = e }))

  locations-same : (l : Location) → (alone_after table (start_inside load len event e before) begun).locations l ≡ (alone_after table (start_inside load len event e before) t).locations l
  locations-same (Register p r i) = written-same given begun.locations t.locations (Register p r i) [] (p == 1) refl (λ no. keeps given t.locations (Register p r i) _ (p == 1) no)
  locations-same (Slot p r i) = written-same given begun.locations t.locations (Slot p r i) [] (p == 1) refl (λ no. keeps given t.locations (Slot p r i) _ (p == 1) no)
  locations-same (Memory m at) =
      written-same given begun.locations t.locations (Memory m at) (started_byte load len None 0 at) (m == event)
      (block-same given begun.locations t.locations load len at (within (block_at 0) 0 at))
      (λ no. keeps given t.locations (Memory m at) _ (m == event) no)

  shown-same : (at : At) → gather given begun.locations (shown (Starts 1 event load len None 0) at) ≡ gather given t.locations (shown (Starts 1 event load len None 0) at)
  shown-same at = grind (arith, nat_tests, begun, below-same, given)

  points-same : (n : ℕ) (at : At) → (alone_after table (start_inside load len event e before) begun).points n at ≡ (alone_after table (start_inside load len event e before) t).points n at
  points-same n at = grind (arith, nat_tests, begun, given, shown-same)

  pub begin-again : alone_after table (start_inside load len event e before) begun ≡ alone_after table (start_inside load len event e before) t
  begin-again = λ i. record { locations = λ l. locations-same l i; points = λ n at. points-same n at i }
