-- Labels by their names.
use Rattle.std.proofs.lemmas.Bool.Decides.{nat_tests}
use Rattle.std.proofs.Common.{◌≡◌, ℕ, List, [], ◌∷◌, ◌++◌, Option, Some, None, refl, Bool, true, false, cond, option_map, is_some, ap, sym, subst, ◌∙◌, append_assoc, append-nil, ◌<◌, ◌≤◌, ◌+◌, length, drop, get_or, zero, suc, arith, option_to_list, bytes_eq, map}
use Rattle.std.proofs.lemmas.List.{map-append, at_drop_more, at_drop_all}
use Rattle.std.proofs.lemmas.Slice.Zip.{AllZip-long}
use Rattle.guest_asm.specs.Kept.{names_of, defined_at, HasPlaces, KeepsItem, Knows}
use Rattle.asm_text.specs.Statements.{StatementReading, Wrong}
use Rattle.asm_text.specs.declared.fault.AsmKind.TheVariants.{Word}
use Rattle.guest_asm.specs.declared.items.Item as kept_item
use Rattle.guest_asm.specs.declared.labels.Labels.{Labels}
use Rattle.std.proofs.lemmas.Slice.Eq.{bytes_eq-Decides}
use Rattle.std.specs.List.{AllZip}
use Rattle.asm_text.specs.Names.{Named, number_by}
use Rattle.guest_asm.specs.Assembled.{Item, is_among, labels, defined_label}

-- what one more definition tells of a name
pub number_by_more : (named : List Named) (n : Named) (name : List ℕ) →
    number_by (named ++ n ∷ []) name ≡ cond (is_some (number_by named name)) (number_by named name) (cond (bytes_eq n.name name) (Some n.number) None)
number_by_more [] n name = elim (bytes_eq n.name name) as (λ b. option_map (λ m. m.number) (cond b (Some n) None) ≡ cond b (Some n.number) None) [ true ↦ refl | false ↦ refl ]
number_by_more (m ∷ named) n name = grind (arith, nat_tests, number_by_more named n name)

-- a name is among those of the definitions where it has a number
pub among_named : (named : List Named) (name : List ℕ) → is_some (number_by named name) ≡ is_among (map (λ n. n.name) named) name
among_named [] name = refl
among_named (m ∷ named) name = grind (arith, nat_tests, among_named named name)

chosen : (b : Bool) (o w : Option ℕ) → (b ≡ true → is_some o ≡ false) → cond (is_some o) o (cond b w None) ≡ cond b w o
chosen b o w h1 = grind (arith, nat_tests)

stayed : (b : Bool) (o w : Option ℕ) → (b ≡ true → is_some o ≡ true) → cond (is_some o) o (cond b w None) ≡ o
stayed b o w h1 = grind (arith, nat_tests)

-- the look-up after a definition of a label that had none
pub defined_first : (named : List Named) (n : Named) (old new : List ℕ → Option ℕ) → ((name : List ℕ) → old name ≡ number_by named name) → is_some (old n.name) ≡ false →
    ((name : List ℕ) → new name ≡ cond (bytes_eq n.name name) (Some n.number) (old name)) → (name : List ℕ) → new name ≡ number_by (named ++ n ∷ []) name
defined_first named n old new h1 h2 h3 name = grind (arith, nat_tests, bytes_eq-Decides, number_by_more, chosen)

-- the look-up after another definition of a label
pub defined_again : (named : List Named) (n : Named) (old : List ℕ → Option ℕ) → ((name : List ℕ) → old name ≡ number_by named name) → is_some (old n.name) ≡ true →
    (name : List ℕ) → old name ≡ number_by (named ++ n ∷ []) name
defined_again named n old h1 h2 name = grind (arith, nat_tests, bytes_eq-Decides, number_by_more, stayed)

pub knows_places : (labels : Labels) (named : List Named) → HasPlaces labels named → Knows labels (names_of named)
knows_places labels named h = λ name. ap is_some (h name) ∙ among_named named name

pub names_defined : (address : ℕ) (r : StatementReading) → names_of (defined_at address r) ≡ option_to_list (defined_label r)
names_defined address r = elim (defined_label r) as (λ o. names_of (map (λ name. record { name = name; number = address }) (option_to_list o)) ≡ option_to_list o) [ None ↦ refl | Some name ↦ refl ]

-- the names behind a statement
pub names_more : (named : List Named) (address : ℕ) (r : StatementReading) → names_of (named ++ defined_at address r) ≡ names_of named ++ option_to_list (defined_label r)
names_more named address r = map-append (λ n. n.name) named (defined_at address r) ∙ ap (λ (ns : List (List ℕ)). names_of named ++ ns) (names_defined address r)

-- what stands where there is no item
abbrev pub no_item : Item
no_item = record { line = 0; reading = Wrong Word }

-- the item that is kept at a place
pub kept_at : (items : List kept_item.Item) (is : List Item) (at : ℕ) (kept : kept_item.Item) → AllZip KeepsItem items is → at < length items → kept ≡ get_or items at kept → KeepsItem kept (get_or is at no_item)
kept_at [] is at kept keeps h e = let no : ⊥ = omega arith in absurd no
kept_at (k ∷ items) [] at kept keeps h e = absurd keeps
kept_at (k ∷ items) (i ∷ is) zero kept keeps h e = subst (λ (k : kept_item.Item). KeepsItem k i) (sym e) keeps.0
kept_at (k ∷ items) (i ∷ is) (suc at) kept keeps h e = kept_at items is at kept keeps.1 (omega arith) e

-- both lists go on, and end, at one place
pub goes_on : (items : List kept_item.Item) (is : List Item) (at : ℕ) → AllZip KeepsItem items is → at < length items → at < length is
goes_on items is at keeps h = subst (λ (n : ℕ). at < n) (sym (AllZip-long KeepsItem items is keeps)) h

pub ends : (items : List kept_item.Item) (is : List Item) (at : ℕ) → AllZip KeepsItem items is → length items ≤ at → length is ≤ at
ends items is at keeps h = subst (λ (n : ℕ). n ≤ at) (sym (AllZip-long KeepsItem items is keeps)) h

pub labels_more : (is : List Item) (at : ℕ) (named : List Named) (address : ℕ) → at < length is → names_of named ++ labels (drop at is) ≡ labels is →
    names_of (named ++ defined_at address (get_or is at no_item).reading) ++ labels (drop (at + 1) is) ≡ labels is
labels_more is at named address h so_far = cc (names_more named address ((get_or is at no_item).reading), append_assoc (names_of named) (option_to_list (defined_label ((get_or is at no_item).reading))) (labels (drop (at + 1) is)), at_drop_more labels is at no_item h)

pub labels_end : (is : List Item) (at : ℕ) (named : List Named) → length is ≤ at → names_of named ++ labels (drop at is) ≡ labels is → names_of named ≡ labels is
labels_end is at named h so_far =
    sym (append-nil (names_of named)) ∙ ap (λ (ns : List (List ℕ)). names_of named ++ ns) (sym (at_drop_all labels is at h)) ∙ so_far
