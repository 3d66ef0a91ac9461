-- The bytes of statements, one behind the other.
use Rattle.std.proofs.lemmas.Bool.Decides.{nat_tests}
use Rattle.std.proofs.Common.{◌≡◌, ◌++◌, ℕ, List, [], ◌∷◌, subst, append_assoc, append-nil, unwrap_or, arith}
use Rattle.std.specs.List.{flat_map, AllByRecursion}
use Rattle.std.proofs.lemmas.Grind.{flat_map-append}
use Rattle.guest_asm.specs.Assembled.{Placed, address, places, statement_bytes, target}
use Rattle.guest_asm.specs.Encodable.{IsEncodable}
use Rattle.guest_asm.specs.Meanings.{bytes}
use Rattle.asm_text.specs.Names.{Named}
use Rattle.guest_asm.specs.Sound.{IsSoundAt}
use Rattle.asm_text.specs.Statements as says
use Rattle.asm_text.specs.Statements.{reading}
use Rattle.guest_asm.specs.declared.places.Placed as kept_placed
use Rattle.guest_asm.proofs.FaultLists.{Next, Through}
use Rattle.guest_asm.proofs.Wording.{read_word}

pub encodable : (named : List Named) (p : Placed) (text : List ℕ) (s : says.Statement) (from to : ℕ) → p.reading ≡ reading text → p.reading ≡ says.Says s → IsSoundAt named p →
    from ≡ address p → to ≡ unwrap_or (target named s) 0 → IsEncodable s from to
encodable named p text s from to h1 h2 h3 h4 h5 = grind (arith, nat_tests, read_word)

pub statement_bytes_said : (named : List Named) (p : Placed) (s : says.Statement) (from to : ℕ) → p.reading ≡ says.Says s → from ≡ address p → to ≡ unwrap_or (target named s) 0 →
    bytes s from to ≡ statement_bytes named p
statement_bytes_said named p s from to h1 h2 h3 = grind (arith, nat_tests, append-nil)

-- what is left is sound
pub record SoundLeft (kept : List kept_placed.Placed) (at : ℕ) (all : List Placed) : Type 0 where
  pub through : Through kept at all
  pub sound : AllByRecursion (IsSoundAt (places all)) through.after

-- the bytes so far are pushed, and what is left is sound
pub record PushedSoFar (kept : List kept_placed.Placed) (at : ℕ) (all : List Placed) (old new : List ℕ) : Type 0 where
  pub through : Through kept at all
  pub sound : AllByRecursion (IsSoundAt (places all)) through.after
  pub bytes : new ≡ old ++ flat_map (statement_bytes (places all)) through.before

-- the next statement is sound, and so are the others
sound_next : (named : List Named) (after : List Placed) (p : Placed) (rest : List Placed) → after ≡ p ∷ rest → AllByRecursion (IsSoundAt named) after → IsSoundAt named p × AllByRecursion (IsSoundAt named) rest
sound_next named after p rest e h =
    let both = subst (AllByRecursion (IsSoundAt named)) e h in (both.0, both.1)

pub sound_here : (kept : List kept_placed.Placed) (at : ℕ) (k : kept_placed.Placed) (all after before : List Placed) → (n : Next kept at k before after all) → AllByRecursion (IsSoundAt (places all)) after → IsSoundAt (places all) n.placed
sound_here kept at k all after before n h = (sound_next (places all) after n.placed n.rest n.is_next h).0

pub sound_rest : (kept : List kept_placed.Placed) (at : ℕ) (k : kept_placed.Placed) (all after before : List Placed) → (n : Next kept at k before after all) → AllByRecursion (IsSoundAt (places all)) after → AllByRecursion (IsSoundAt (places all)) n.rest
sound_rest kept at k all after before n h = (sound_next (places all) after n.placed n.rest n.is_next h).1

pub bytes_more : (named : List Named) (before : List Placed) (p : Placed) (old middle new : List ℕ) → middle ≡ old ++ flat_map (statement_bytes named) before →
    new ≡ middle ++ statement_bytes named p → new ≡ old ++ flat_map (statement_bytes named) (before ++ p ∷ [])
bytes_more named before p old middle new h1 h2 = grind (arith, nat_tests, flat_map-append, append-nil, append_assoc)
