-- An answer's pairs are joined of the items of connected groups alone.
use Rattle.std.proofs.Common.{◌≡◌, ℕ, nat_lt, ◌&&◌, true, List, [], ◌∷◌, Option, Some, None, IfSome, option_to_list, arith, All, Contains}
use Rattle.std.proofs.lemmas.Bool.Decides.{nat_tests}
use Rattle.std.proofs.lemmas.Bool.{false≢true, and_from, and_parts, lt-ltb, ltb-true}
use Rattle.arn_base.specs.declared.records.Record.{Record}
use Rattle.history_index.specs.Lookups.{groups_in}
use Rattle.history_model.specs.Broken.{first_broken}
use Rattle.history_model.specs.Exchanges.{Starting}
use Rattle.lineage_join.specs.Fits.{HasByte, IsThere}
use Rattle.lineage_model.specs.Flow.{At}
use Rattle.query_model.specs.Linked.{groups_back}
use Rattle.taint_state.specs.Shown.{IsRegisterByte}
use Rattle.query_laws.specs.Joined.{has_byte, is_register_byte, is_there}
use Rattle.query_laws.proofs.Asked.{connected}
use Rattle.query_laws.proofs.Lists.{first-in}

-- the test tells which bytes an event has
register-byte : (r i : ℕ) → is_register_byte r i ≡ true → IsRegisterByte r i
register-byte r i h1 = grind (arith, nat_tests, and_parts, ltb-true)

byte-register : (r i : ℕ) → IsRegisterByte r i → is_register_byte r i ≡ true
byte-register r i is =
    and_from (nat_lt 0 r) (nat_lt r 32 && nat_lt i 8) (lt-ltb 0 r is.above) (and_from (nat_lt r 32) (nat_lt i 8) (lt-ltb r 32 is.below) (lt-ltb i 8 is.byte))

byte-had : (e : Record) (at : At) → has_byte e at ≡ true → HasByte e at
byte-had e at h1 = grind (arith, nat_tests, and_parts, ltb-true, register-byte)

had-byte : (e : Record) (at : At) → HasByte e at → has_byte e at ≡ true
had-byte e at h1 = grind (arith, nat_tests, and_from, byte-register, lt-ltb)

pub found-there : (o : Option Record) (at : At) → is_there o at ≡ true → IsThere o at
found-there None at is = absurd (false≢true is)
found-there (Some e) at is = byte-had e at is

pub there-found : (o : Option Record) (at : At) → IsThere o at → is_there o at ≡ true
there-found None at is = absurd is
there-found (Some e) at is = had-byte e at is

-- the event's own group is asked
pub own-asked : (entries : List Record) (o : Option ℕ) → first_broken entries ≡ None → All (Contains (groups_in entries)) (option_to_list o) → IfSome o (Contains (groups_back entries (option_to_list o)))
own-asked entries None stands groups = tt
own-asked entries (Some g) stands groups = ((connected entries (g ∷ []) stands groups).members g).1 (Starting g (first-in g []))
