-- 32 bits count the children of forks.
use Rattle.std.proofs.Common.{◌≡◌, inl, inr, ℕ, ◌+◌, ◌<◌, ◌≤◌, ◌^◌, ◌||◌, Bool, true, false, not, if◌then◌else◌, List, [], ◌∷◌, ◌++◌, length, max, Option, Some, None, IfSome, refl, ap, sym, ◌∙◌, arith, length-append}
use Rattle.std.specs.Prelude.{Contains}
use Rattle.std.specs.Option.{option_map_or}
use Rattle.std.proofs.lemmas.Bool.{true≢false, or_parts}
use Rattle.std.proofs.lemmas.Bool.Decides.{eqb_tells}
use Rattle.std.proofs.lemmas.Option.{none-some, same_Some}
use Rattle.arn_base.specs.declared.records.Record.{Record}
use Rattle.arn_base.specs.declared.records.Record.TheVariants as entry
use Rattle.acts_model.specs.Records.{Child, child_founded, child_number, child_told, is_founder, give_of}
use Rattle.history_model.specs.Broken.{child_in, greatest, greatest_from, greatest_after, misnumbers, cant_follow, comes_wrong, lacks_process, lacks_slice, are_origins, has_blocks_wrong, start_in, misplaces_start, broken_from, first_broken}
use Rattle.history_model.specs.Exchanges.{founded}
use Rattle.exchange_graph.proofs.Marks.{none-in, head-or-tail}

-- a child that starts a group is a child
number-if : (b : Bool) (n g : ℕ) → (if b then Some n else None) ≡ Some g → Some n ≡ Some g
number-if true n g h = h
number-if false n g h = absurd (none-some g h)

founded-number : (child : Option Child) (g : ℕ) → child_founded child ≡ Some g → child_number child ≡ Some g
founded-number None g h = absurd (none-some g h)
founded-number (Some child) g h = number-if (is_founder child) child.number g h

founded-child : (e : Record) (g : ℕ) → founded e ≡ Some g → child_in e ≡ Some g
founded-child e g h = founded-number (child_told e) g h

-- the greatest number behind one record
made-some : (child : Option ℕ) (n g : ℕ) → child ≡ Some g → g ≤ option_map_or (max n) child n
made-some (Some c) n g h = let e = same_Some c g h in omega (arith, e)
made-some None n g h = absurd (none-some g h)

child-after : (e : Record) (n g : ℕ) → child_in e ≡ Some g → g ≤ greatest_after e n
child-after (entry.Boot name give) n g h = absurd (none-some g h)
child-after e n g h = made-some (child_in e) n g h

made-more : (child : Option ℕ) (n : ℕ) → n ≤ option_map_or (max n) child n
made-more (Some c) n = omega arith
made-more None n = omega arith

after-more : (e : Record) (n : ℕ) → n ≤ greatest_after e n
after-more (entry.Boot name give) n = omega arith
after-more e n = made-more (child_in e) n

-- and behind some
from-more : (entries : List Record) (n : ℕ) → n ≤ greatest_from n entries
from-more [] n = omega arith
from-more (e ∷ entries) n = omega (arith, after-more e n, from-more entries (greatest_after e n))

child-from : (entries : List Record) (n : ℕ) (e : Record) (g : ℕ) → Contains entries e → child_in e ≡ Some g → g ≤ greatest_from n entries
child-from [] n e g has h = absurd (none-in e has)
child-from (x ∷ entries) n e g has h =
    elim (head-or-tail x e entries has) [
      | inl is ↦ omega (arith, child-after x n g (ap child_in is ∙ h), from-more entries (greatest_after x n))
      | inr later ↦ child-from entries (greatest_after x n) e g later h
    ]

-- where no record breaks, each makes at most one process
made-one : (before : List Record) (child : Option ℕ) → misnumbers before child ≡ false → option_map_or (max (greatest before)) child (greatest before) ≤ greatest before + 1
made-one before (Some c) h =
    elim (eqb_tells c (greatest before + 1)) [ inl is ↦ omega (arith, is.1) | inr apart ↦ absurd (true≢false (rw apart.0 at h)) ]
made-one before None h = omega arith

after-one : (before : List Record) (e : Record) → misnumbers before (child_in e) ≡ false → greatest_after e (greatest before) ≤ greatest before + 1
after-one before (entry.Boot name give) h = omega arith
after-one before e h = made-one before (child_in e) h

from-push : (entries : List Record) (n : ℕ) (e : Record) → greatest_from n (entries ++ e ∷ []) ≡ greatest_after e (greatest_from n entries)
from-push [] n e = refl
from-push (x ∷ entries) n e = from-push entries (greatest_after x n) e

abbrev rest-number : List Record → Record → Bool
rest-number before e = misnumbers before (child_in e) || misplaces_start e

abbrev rest-blocks : List Record → Record → Bool
rest-blocks before e = has_blocks_wrong (start_in e) || rest-number before e

abbrev rest-origins : List Record → Record → Bool
rest-origins before e = not (are_origins before (give_of e)) || rest-blocks before e

abbrev rest-slice : List Record → Record → Bool
rest-slice before e = lacks_slice before e || rest-origins before e

abbrev rest-process : List Record → Record → Bool
rest-process before e = lacks_process before e || rest-slice before e

numbered : (before : List Record) (e : Record) → cant_follow before e ≡ false → misnumbers before (child_in e) ≡ false
numbered before e h =
    let process = (or_parts (comes_wrong before e) (rest-process before e) h).1 in
    let slice = (or_parts (lacks_process before e) (rest-slice before e) process).1 in
    let origins = (or_parts (lacks_slice before e) (rest-origins before e) slice).1 in
    let blocks = (or_parts (not (are_origins before (give_of e))) (rest-blocks before e) origins).1 in
    let number = (or_parts (has_blocks_wrong (start_in e)) (rest-number before e) blocks).1 in
    (or_parts (misnumbers before (child_in e)) (misplaces_start e) number).0

module _ (before : List Record) (e : Record) (entries : List Record) where
  follows-by : (b : Bool) → cant_follow before e ≡ b → (if b then Some (length before) else broken_from (before ++ e ∷ []) entries) ≡ None → (b ≡ false) × (broken_from (before ++ e ∷ []) entries ≡ None)
  follows-by true is h = absurd (none-some (length before) (sym h))
  follows-by false is h = (refl, h)

  follows : broken_from before (e ∷ entries) ≡ None → (cant_follow before e ≡ false) × (broken_from (before ++ e ∷ []) entries ≡ None)
  follows h = follows-by (cant_follow before e) refl h

few-made : (before entries : List Record) → broken_from before entries ≡ None → greatest before ≤ length before → greatest_from (greatest before) entries ≤ length before + length entries
few-made before [] h few = omega (arith, few)
few-made before (e ∷ entries) h few =
    let f = follows before e entries h in
    let push : greatest (before ++ e ∷ []) ≡ greatest_after e (greatest before) = from-push before 0 e in
    let len : length (before ++ e ∷ []) ≡ length before + 1 = length-append before (e ∷ []) in
    let rest = few-made (before ++ e ∷ []) entries f.1 (omega (arith, push, after-one before e (numbered before e f.0), len, few)) in
    omega (arith, rw push at rest, len)

told-few : (o : Option ℕ) (most : ℕ) → ((g : ℕ) → o ≡ Some g → g < most) → IfSome o (λ g. g < most)
told-few None most h = tt
told-few (Some g) most h = h g refl

pub founded-few : (entries : List Record) (e : Record) → first_broken entries ≡ None → length entries < 2 ^ 32 → Contains entries e → IfSome (founded e) (λ child. child < 2 ^ 32)
founded-few entries e stands few has =
    told-few (founded e) (2 ^ 32) (λ g is. omega (arith, child-from entries 0 e g has (founded-child e g is), few-made [] entries stands (omega arith), few))
