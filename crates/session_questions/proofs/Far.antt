-- Bytes that no process holds.
use Rattle.std.proofs.Common.{◌≡◌, ◌∙◌, ℕ, ◌≤◌, ◌^◌, ◌&&◌, nat_lt, Bool, true, false, cond, List, length, take, drop, Option, Some, None, option_and_then, refl, ap, arith}
use Rattle.std.proofs.lemmas.Bool.Decides.{nat_tests}
use Rattle.arn_base.specs.declared.records.Record.{Record}
use Rattle.history_index.specs.Indexes.{AreCountable, Indexes}
use Rattle.history_index.specs.Tables.{Tables}
use Rattle.past_lives.specs.Members.{is_member}
use Rattle.history_model.specs.Events.{lies_in}
use Rattle.parts_model.specs.declared.tagged.TaggedByte.{TaggedByte}
use Rattle.query_engine.specs.Asked.{in_file, in_memory, in_register}
use Rattle.query_model.specs.Names.{named_bytes, part_of, version_of}
use Rattle.followed_pairs.specs.States.{is_held}
use Rattle.session_reports.specs.Far.{FarIsNowhere}

neither-there : (b : Bool) → (b && false) ≡ false
neither-there true = refl
neither-there false = refl

-- no process has a number that 32 bits don't count
pub far_memory : (t : Tables) (entries : List Record) (moment pid at len : ℕ) → FarIsNowhere → AreCountable entries → Indexes t entries → 2 ^ 32 ≤ pid
    → is_held entries (in_memory moment pid at len) ≡ false
far_memory t entries moment pid at len law countable indexed far = (law t entries countable indexed).memory moment pid at len far

-- nor are so many bytes asked for
pub long_memory : (t : Tables) (entries : List Record) (moment pid at len : ℕ) → FarIsNowhere → AreCountable entries → Indexes t entries → 2 ^ 32 ≤ len
    → is_held entries (in_memory moment pid at len) ≡ false
long_memory t entries moment pid at len law countable indexed far = (law t entries countable indexed).long moment pid at len far

pub far_register : (t : Tables) (entries : List Record) (moment pid r : ℕ) → FarIsNowhere → AreCountable entries → Indexes t entries → 2 ^ 32 ≤ pid
    → is_held entries (in_register moment pid r) ≡ false
far_register t entries moment pid r law countable indexed far =
    ap (λ (b : Bool). b && nat_lt r 32) ((law t entries countable indexed).process moment pid far)

-- and there is no register of a number that 8 bits don't count
pub no_register : (entries : List Record) (moment pid r : ℕ) → 2 ^ 8 ≤ r → is_held entries (in_register moment pid r) ≡ false
no_register entries moment pid r far =
    let above : nat_lt r 32 ≡ false = grind (arith, nat_tests) in
    ap (λ (b : Bool). is_member entries moment pid && b) above ∙ neither-there (is_member entries moment pid)

-- nor are so many bytes of a file asked for
many-in : (len from asked : ℕ) → 2 ^ 32 ≤ asked → lies_in len from asked ≡ false
many-in len from asked far = grind (arith, nat_tests)

none-then : (o : Option (List TaggedByte)) (from len : ℕ) → 2 ^ 32 ≤ len → option_and_then (part_of from len) o ≡ None
none-then None from len far = refl
none-then (Some held) from len far = ap (λ (b : Bool). cond b (Some (take len (drop from held))) None) (many-in (length held) from len far)

pub many_bytes : (entries : List Record) (moment : ℕ) (name : List ℕ) (from len : ℕ) → 2 ^ 32 ≤ len → named_bytes entries (in_file moment name from len) ≡ None
many_bytes entries moment name from len far = none-then (version_of entries moment name) from len far
