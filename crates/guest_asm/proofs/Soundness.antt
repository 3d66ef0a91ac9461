-- Statements among which no fault is found are sound.
use Rattle.std.proofs.lemmas.Bool.Decides.{nat_tests}
use Rattle.std.proofs.Common.{◌≡◌, ◌++◌, ◌+◌, ℕ, List, [], ◌∷◌, Option, Some, None, Bool, true, false, not, is_some, refl, ap, subst, ◌∙◌, map, option_to_list, option_and_then, unwrap_or, arith}
use Rattle.std.specs.List.{flat_map, AllByRecursion, AllZip}
use Rattle.std.proofs.lemmas.Bool.{not-false, and_parts}
use Rattle.guest_asm.specs.Assembled.{Fault, Item, Placed, address, all_faults, earlier_then, fault_if, faults_of, first_fault, is_among, is_in_range, items, labels, place_faults, placed, placed_from, places, reaches_if, said, taken, target}
use Rattle.guest_asm.specs.Kept.{names_of, KeepsItem, Knows, Stands}
use Rattle.guest_asm.specs.declared.items.Item as kept_item
use Rattle.guest_asm.specs.declared.places.Layout.{Layout}
use Rattle.guest_asm.specs.declared.labels.Labels.{Labels}
use Rattle.guest_asm.specs.Meanings.{has_fields, named_label, reaches}
use Rattle.asm_text.specs.Names.{Named, number_by}
use Rattle.guest_asm.specs.Sound.{IsSound, IsSoundAt}
use Rattle.asm_text.specs.Statements as says
use Rattle.asm_text.specs.declared.fault.AsmKind.{AsmKind}
use Rattle.asm_text.specs.declared.fault.AsmKind.TheVariants.{Range}
use Rattle.guest_asm.proofs.FaultLists.{faults_at, on_line}
use Rattle.guest_asm.proofs.Naming.{among_named, names_defined}

-- the parts of an empty list are empty
first_empty : {X : Type 0} (xs ys : List X) → xs ++ ys ≡ [] → xs ≡ []
first_empty [] ys e = refl
first_empty (x ∷ xs) ys e = cc

pub second_empty : {X : Type 0} (xs ys : List X) → xs ++ ys ≡ [] → ys ≡ []
second_empty [] ys e = e
second_empty (x ∷ xs) ys e = cc

map_empty : {X Y : Type 0} (f : X → Y) (xs : List X) → map f xs ≡ [] → xs ≡ []
map_empty f [] e = refl
map_empty f (x ∷ xs) e = cc

pub no_fault_if : (b : Bool) (kind : AsmKind) → fault_if b kind ≡ [] → b ≡ false
no_fault_if true kind e = cc
no_fault_if false kind e = refl

pub no_first_fault : (fs : List Fault) → first_fault fs ≡ None → fs ≡ []
no_first_fault [] e = refl
no_first_fault (f ∷ fs) e = cc

abbrev pub Faultless : List Named → Placed → Type 0
Faultless named p = faults_of named p ≡ []

pub each_faultless : (named : List Named) (all : List Placed) → flat_map (faults_at named) all ≡ [] → AllByRecursion (Faultless named) all
each_faultless named [] e = tt
each_faultless named (p ∷ ps) e = grind (arith, nat_tests, map_empty (on_line p.line) (faults_of named p) (first_empty (faults_at named p) (flat_map (faults_at named) ps) e), each_faultless named ps (second_empty (faults_at named p) (flat_map (faults_at named) ps) e))

-- a label that a statement without faults names is known
abbrev pub NamesKnown : List (List ℕ) → Placed → Type 0
NamesKnown names p = p.faults ≡ [] → (s : says.Statement) → p.reading ≡ says.Says s → (name : List ℕ) → named_label s ≡ Some name → is_among names name ≡ true

all_known : (names earlier : List (List ℕ)) (offset : ℕ) (is : List Item) → AllByRecursion (NamesKnown names) (placed_from names earlier offset is)
all_known names earlier offset [] = tt
all_known names earlier offset (i ∷ is) = grind (arith, nat_tests, all_known names (earlier_then earlier i.reading) (offset + taken (place_faults names earlier offset i.reading) i.reading) is)

-- the labels that are placed are those that are defined
names_placed : (names earlier : List (List ℕ)) (offset : ℕ) (is : List Item) → names_of (places (placed_from names earlier offset is)) ≡ labels is
names_placed names earlier offset [] = refl
names_placed names earlier offset (i ∷ is) = grind (arith, nat_tests, names_defined (65536 + offset) i.reading, names_placed names (earlier_then earlier i.reading) (offset + taken (place_faults names earlier offset i.reading) i.reading) is)

-- without a label there is no distance
reaches_nowhere : (s : says.Statement) (from : ℕ) → named_label s ≡ None → reaches s from 0 ≡ true
reaches_nowhere s from h1 = grind (arith, nat_tests)

reached_named : (s : says.Statement) (from : ℕ) (o : Option ℕ) → is_some o ≡ true → reaches_if s from o ≡ true → reaches s from (unwrap_or o 0) ≡ true
reached_named s from (Some to) some h = h
reached_named s from None some h = cc

reached : (named : List Named) (s : says.Statement) (from : ℕ) (l : Option (List ℕ)) → named_label s ≡ l → ((name : List ℕ) → l ≡ Some name → is_some (number_by named name) ≡ true) →
    reaches_if s from (option_and_then (number_by named) l) ≡ true → reaches s from (unwrap_or (option_and_then (number_by named) l) 0) ≡ true
reached named s from None e known h = reaches_nowhere s from e
reached named s from (Some name) e known h = reached_named s from (number_by named name) (known name refl) h

sound_at : (names : List (List ℕ)) (named : List Named) → names_of named ≡ names → (p : Placed) → Faultless named p → NamesKnown names p → IsSoundAt named p
sound_at names named same p none known s is =
    let ranged : says.StatementReading → List AsmKind = λ r. flat_map (λ s. fault_if (not (is_in_range named (address p) s)) Range) (option_to_list (said r)) in
    let no_fault : p.faults ≡ [] = second_empty (ranged p.reading) p.faults none in
    let mine : ranged (says.Says s) ≡ [] = subst (λ (r : says.StatementReading). ranged r ≡ []) is (first_empty (ranged p.reading) p.faults none) in
    let inside : is_in_range named (address p) s ≡ true =
    not-false _ (no_fault_if (not (is_in_range named (address p) s)) Range (first_empty (fault_if (not (is_in_range named (address p) s)) Range) [] mine)) in
    let both = and_parts (has_fields s) (reaches_if s (address p) (target named s)) inside in
    record {
      fields = both.0;
      reached =
          reached named s (address p) (named_label s) refl
          (λ name e. among_named named name ∙ ap (λ (ns : List (List ℕ)). is_among ns name) same ∙ known no_fault s is name e) both.1;
    }

each_sound : (names : List (List ℕ)) (named : List Named) → names_of named ≡ names → (all : List Placed) → AllByRecursion (Faultless named) all → AllByRecursion (NamesKnown names) all → AllByRecursion (IsSoundAt named) all
each_sound names named same [] none known = tt
each_sound names named same (p ∷ ps) none known = (sound_at names named same p none.0 known.0, each_sound names named same ps none.1 known.1)

-- statements among which no fault is found are sound
pub sound : (is : List Item) → first_fault (all_faults (placed_from (labels is) [] 0 is)) ≡ None → IsSound (placed_from (labels is) [] 0 is)
sound is e =
    let all = placed_from (labels is) [] 0 is in
    each_sound (labels is) (places all) (names_placed (labels is) [] 0 is) all
    (each_faultless (places all) all (no_first_fault (all_faults all) e)) (all_known (labels is) [] 0 is)

-- the statements of a text stand at their places
pub stands_placed : (layout : Layout) (known : Labels) (text : List ℕ) (kept first second : List kept_item.Item) → first ≡ kept → second ≡ kept → AllZip KeepsItem kept (items text) →
    ((is : List Item) → AllZip KeepsItem first is → Knows known (labels is)) →
    ((is : List Item) → AllZip KeepsItem second is → Knows known (labels is) → Stands layout (placed_from (labels is) [] 0 is)) → Stands layout (placed text)
stands_placed layout known text kept first second h1 h2 h3 h4 h5 = grind (arith, nat_tests)
