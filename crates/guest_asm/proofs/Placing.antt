-- Statements that take their places, one behind the other.
use Rattle.std.proofs.lemmas.Bool.Decides.{nat_tests}
use Rattle.std.proofs.Common.{◌≡◌, ◌++◌, ◌+◌, ◌<◌, ◌≤◌, ℕ, List, [], ◌∷◌, Option, Some, not, refl, ap, sym, ◌∙◌, length, drop, get_or, append_assoc, append-nil, option_to_list, Result, Ok, Err, arith}
use Rattle.std.specs.Result.{result_err, result_unwrap_or}
use Rattle.std.proofs.lemmas.Grind.{flat_map-append}
use Rattle.std.proofs.lemmas.List.{at_drop_more, at_drop_all}
use Rattle.std.proofs.lemmas.Slice.Zip.{all_zipped_more}
use Rattle.std.specs.List.{flat_map}
use Rattle.guest_asm.specs.Assembled.{Item, Placed, address, fault_if, is_among, label_faults, labels, defined_label, placed_from, places, taken}
use Rattle.guest_asm.specs.First.{either, first_of, Takes}
use Rattle.guest_asm.specs.Kept.{names_of, defined_at, placed_at, HasPlaces, KeepsPlaced, Stands}
use Rattle.guest_asm.specs.declared.places.Placed as kept_placed
use Rattle.guest_asm.specs.declared.places.Layout.{Layout}
use Rattle.guest_asm.proofs.Naming.{names_more, no_item}
use Rattle.guest_asm.specs.Meanings.{named_label}
use Rattle.asm_text.specs.Statements as says
use Rattle.asm_text.specs.declared.fault.AsmKind.{AsmKind}
use Rattle.asm_text.specs.declared.fault.AsmKind.TheVariants.{Label}
use Rattle.guest_asm.proofs.Firsts.{first_of_append}

pub first_of_three : (x y z : Option AsmKind) (xs ys zs : List AsmKind) → x ≡ first_of xs → y ≡ first_of ys → z ≡ first_of zs →
    first_of (xs ++ ys ++ zs) ≡ either (either x y) z
first_of_three x y z xs ys zs e f g =
    cc (first_of_append xs ys, first_of_append (xs ++ ys) zs, e, f, g)

abbrev pub unknown_faults : List (List ℕ) → says.Statement → List AsmKind
unknown_faults names s = flat_map (λ name. fault_if (not (is_among names name)) Label) (option_to_list (named_label s))

abbrev pub again_faults : List (List ℕ) → says.StatementReading → List AsmKind
again_faults before r = flat_map (λ name. fault_if (is_among before name) Label) (option_to_list (defined_label r))

pub first_label_fault : (names before : List (List ℕ)) (s : says.Statement) (r : says.StatementReading) (x y : Option AsmKind) → r ≡ says.Says s →
    x ≡ first_of (unknown_faults names s) → y ≡ first_of (again_faults before r) → either x y ≡ first_of (label_faults names before s)
first_label_fault names before s r x y h1 h2 h3 = grind (arith, nat_tests, first_of_append)

-- the fault and the size of a statement
pub takes_fault : (o : Result ℕ AsmKind) (r : says.StatementReading) (faults : List AsmKind) → Takes o r faults → result_err o ≡ first_of faults
takes_fault (Ok n) r faults h = sym (ap first_of h.0)
takes_fault (Err kind) r faults h = sym h

some_faults : (faults : List AsmKind) (r : says.StatementReading) (kind : AsmKind) → first_of faults ≡ Some kind → 0 ≡ taken faults r
some_faults [] r kind e = cc
some_faults (k ∷ ks) r kind e = refl

pub takes_size : (o : Result ℕ AsmKind) (r : says.StatementReading) (faults : List AsmKind) → Takes o r faults → result_unwrap_or o 0 ≡ taken faults r
takes_size (Ok n) r faults h = h.1 ∙ ap (λ (ks : List AsmKind). taken ks r) (sym h.0)
takes_size (Err kind) r faults h = some_faults faults r kind h

pub places_more : (done : List Placed) (p : Placed) → places (done ++ p ∷ []) ≡ places done ++ defined_at (address p) p.reading
places_more done p = grind (arith, nat_tests, flat_map-append, append-nil)

pub place_more : (names : List (List ℕ)) (is : List Item) (at : ℕ) (done all : List Placed) (offset next : ℕ) → at < length is →
    next ≡ offset + taken (placed_at names (names_of (places done)) offset (get_or is at no_item)).faults (get_or is at no_item).reading →
    done ++ placed_from names (names_of (places done)) offset (drop at is) ≡ all →
    (done ++ placed_at names (names_of (places done)) offset (get_or is at no_item) ∷ [])
    ++ placed_from names (names_of (places (done ++ placed_at names (names_of (places done)) offset (get_or is at no_item) ∷ []))) next (drop (at + 1) is) ≡ all
place_more names is at done all offset next h e so_far =
    let earlier = names_of (places done) in
    let p = placed_at names earlier offset (get_or is at no_item) in
    let rest = drop (at + 1) is in
    let later : names_of (places (done ++ p ∷ [])) ≡ earlier ++ option_to_list (defined_label p.reading) =
    ap names_of (places_more done p) ∙ names_more (places done) (address p) p.reading in
    let step : placed_from names earlier offset (drop at is) ≡ p ∷ placed_from names (earlier ++ option_to_list (defined_label p.reading)) (offset + taken p.faults p.reading) rest =
    at_drop_more (placed_from names earlier offset) is at no_item h in
    append_assoc done (p ∷ []) (placed_from names (names_of (places (done ++ p ∷ []))) next rest)
    ∙ ap (λ (ns : List (List ℕ)). done ++ (p ∷ placed_from names ns next rest)) later
    ∙ ap (λ (n : ℕ). done ++ (p ∷ placed_from names (earlier ++ option_to_list (defined_label p.reading)) n rest)) e
    ∙ ap (λ (ps : List Placed). done ++ ps) (sym step) ∙ so_far

-- the statements that are placed and those that are left are all
abbrev pub PlacedSoFar : Layout → ℕ → List Item → Type 0
PlacedSoFar layout at is =
    (done : List Placed) × Stands layout done × (done ++ placed_from (labels is) (names_of (places done)) layout.offset (drop at is) ≡ placed_from (labels is) [] 0 is)

-- where none are left all stand at their places
pub placed_all : (layout : Layout) (at : ℕ) (is : List Item) → length is ≤ at → PlacedSoFar layout at is → Stands layout (placed_from (labels is) [] 0 is)
placed_all layout at is h so_far = grind (arith, at_drop_all (placed_from (labels is) (names_of (places so_far.0)) layout.offset) is at h, append-nil so_far.0)

pub stands_more : (layout new : Layout) (done : List Placed) (kept : kept_placed.Placed) (p : Placed) → Stands layout done → new.placed.items ≡ layout.placed.items ++ kept ∷ [] →
    KeepsPlaced kept p → HasPlaces new.labels (places done ++ defined_at (address p) p.reading) → Stands new (done ++ p ∷ [])
stands_more layout new done kept p h1 h2 h3 h4 = grind (arith, nat_tests, all_zipped_more, places_more)
