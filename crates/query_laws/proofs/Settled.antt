-- The group of a process is the same at each later record.
use Rattle.std.proofs.lemmas.Grind.{common_steps}
use Rattle.std.proofs.Common.{◌≡◌, ℕ, ◌+◌, ◌==◌, ◌&&◌, ◌||◌, Bool, true, false, not, if◌then◌else◌, List, [], ◌∷◌, ◌++◌, length, Option, Some, None, slice_get, refl, sym, subst, ◌∙◌, arith, length-append, true≢false, eqb-true}
use Rattle.std.proofs.lemmas.Bool.Decides.{nat_tests}
use Rattle.std.proofs.lemmas.List.Elements.{filter-append}
use Rattle.std.proofs.lemmas.List.Folds.{list_any-append}
use Rattle.arn_base.specs.declared.records.Extra.{Extra}
use Rattle.arn_base.specs.declared.records.Record.{Record}
use Rattle.arn_base.specs.declared.records.Record.TheVariants as entry
use Rattle.parts_model.specs.declared.calls.TheConstants.{FORK}
use Rattle.parts_model.specs.Replies.{is_success}
use Rattle.acts_model.specs.Records.{child_forked, child_number, is_event, process_of}
use Rattle.history_model.specs.Broken.{Behind, Nowhere, behind, behind_from, behind_record, broken_from, greatest, is_behind, misnumbers}
use Rattle.history_model.specs.Events.{event_at, how_many}
use Rattle.history_model.specs.Groups.{Groups, child_group, group_made, groups_told, groups_from, group_of, event_group}
use Rattle.history_model.specs.Moments.{changed}
use Rattle.history_model.specs.Names.{is_boot, is_booted}
use Rattle.query_laws.proofs.Found.{AreFounded, Stands, child_if, follows, greatest-push, left, numbered, tells-one}

-- before a boot there is no process and no slice
abbrev pub Unbooted : List Record → Type 0
Unbooted before = is_booted before ≡ false → (greatest before ≡ 0) × (behind before ≡ Nowhere)

behind-push : (b : Behind) (rs : List Record) (e : Record) → behind_from b (rs ++ e ∷ []) ≡ behind_record (behind_from b rs) e
behind-push b [] e = refl
behind-push b (r ∷ rs) e = behind-push (behind_record b r) rs e

booted-push : (before : List Record) (e : Record) → is_booted (before ++ e ∷ []) ≡ (is_booted before || (is_boot e || false))
booted-push before e = list_any-append is_boot before (e ∷ [])

not-both : {P : Type 0} (b : Bool) → b ≡ false → not b ≡ false → P
not-both true low high = absurd (true≢false low)
not-both false low high = absurd (true≢false high)

-- a record that can stand before a boot only where there was one
needs-boot : (before : List Record) (e : Record) → not (is_booted before) ≡ false → Unbooted (before ++ e ∷ [])
needs-boot before e comes none = not-both (is_booted before) (left (is_booted before) (is_boot e || false) (sym (booted-push before e) ∙ none)) comes

needs-slice : (before : List Record) (e : Record) (pid : ℕ) → not (is_behind pid (behind before)) ≡ false → Unbooted before → Unbooted (before ++ e ∷ [])
needs-slice before e pid h1 h2 = grind (arith, nat_tests, booted-push, left, not-both)

pub unbooted-push : (before : List Record) (e : Record) → Stands before e → Unbooted before → Unbooted (before ++ e ∷ [])
unbooted-push before e h1 h2 = grind (arith, nat_tests, behind-push, booted-push, greatest-push, left, needs-boot, needs-slice)

-- a new process leaves the groups of those that were made before
other-group : (groups : Groups) (most child pid g : ℕ) (o : Option ℕ) → AreFounded groups most → child ≡ most + 1 → groups pid ≡ Some g → changed groups child o pid ≡ Some g
other-group groups most child pid g o f new is = by-test (pid == child) refl
  where
    same : (pid == child) ≡ true → ⊥
    same t = (let low = (f pid g is).made in let e = eqb-true pid child t in omega (arith, low, e, new))

    by-test : (b : Bool) → (pid == child) ≡ b → (if b then o else groups pid) ≡ Some g
    by-test b h1 = grind (arith, nat_tests, same)

forked-group : (groups : Groups) (most pid child p g : ℕ) (more : Extra) → AreFounded groups most → child ≡ most + 1 → groups p ≡ Some g → group_made pid (Some (child_forked child more)) groups p ≡ Some g
forked-group groups most pid child p g more f new is = other-group groups most child p g (child_group (child_forked child more) (groups pid)) f new is

called-group : (before : List Record) (groups : Groups) (pid result p g : ℕ) (more : Extra) (b : Bool) → misnumbers before (child_number (child_if b result more)) ≡ false → AreFounded groups (greatest before) → groups p ≡ Some g
    → group_made pid (child_if b result more) groups p ≡ Some g
called-group before groups pid result p g more true h f is = forked-group groups (greatest before) pid result p g more f (numbered before result h) is
called-group before groups pid result p g more false h f is = is

pub told-group : (before : List Record) (e : Record) (groups : Groups) (p g : ℕ) → Stands before e → Unbooted before → AreFounded groups (greatest before) → groups p ≡ Some g → groups_told e groups p ≡ Some g
told-group before (entry.Boot name give) groups p g s u f is =
    let none = (u s.comes).0 in let old = f p g is in absurd (omega (arith, none, old.low, old.high))
told-group before (entry.Call pid number result more) groups p g s u f is = called-group before groups pid result p g more ((number == FORK) && is_success result) s.child f is
told-group before _ groups p g s u f is = is

pub founded-push : (before : List Record) (e : Record) (groups : Groups) → Stands before e → AreFounded groups (greatest before) → AreFounded (groups_told e groups) (greatest (before ++ e ∷ []))
founded-push before e groups s f = subst (λ (n : ℕ). AreFounded (groups_told e groups) n) (sym (greatest-push before 0 e)) (tells-one before e groups s.child f)

pub settled-group : (before rest : List Record) (groups : Groups) (p g : ℕ) → broken_from before rest ≡ None → Unbooted before → AreFounded groups (greatest before) → groups p ≡ Some g → groups_from rest groups p ≡ Some g
settled-group before [] groups p g h u f is = is
settled-group before (e ∷ rest) groups p g h u f is =
    let next = follows before e rest h in
    settled-group (before ++ e ∷ []) rest (groups_told e groups) p g next.1 (unbooted-push before e next.0 u) (founded-push before e groups next.0 f) (told-group before e groups p g next.0 u f is)

pub groups-append : (before rest : List Record) (groups : Groups) → groups_from (before ++ rest) groups ≡ groups_from rest (groups_from before groups)
groups-append [] rest groups = refl
groups-append (e ∷ before) rest groups = groups-append before rest (groups_told e groups)

-- where an event's record stands
at-len : {X : Type 0} (xs ys : List X) (x : X) → slice_get (xs ++ x ∷ ys) (length xs) ≡ Some x
at-len [] ys x = refl
at-len (y ∷ xs) ys x = at-len xs ys x

pub stands-at : (before rest : List Record) (e : Record) → is_event e ≡ true → event_at (before ++ e ∷ rest) (how_many before) ≡ Some e
stands-at before rest e h1 = grind (arith, nat_tests, at-len, filter-append)

pub how-many-push : (before : List Record) (e : Record) → is_event e ≡ true → how_many (before ++ e ∷ []) ≡ how_many before + 1
how-many-push before e h1 = grind (arith, common_steps, nat_tests, filter-append, length-append)

pub how-many-slice : (before : List Record) (pid ran : ℕ) → how_many (before ++ entry.Slice pid ran ∷ []) ≡ how_many before
how-many-slice before pid ran = grind (arith, common_steps, nat_tests, filter-append, length-append)

-- the group of an event
pub group-at : (entries : List Record) (n pid g : ℕ) (e : Record) → event_at entries n ≡ Some e → process_of e ≡ Some pid → group_of entries pid ≡ Some g → event_group entries n ≡ Some g
group-at entries n pid g e h1 h2 h3 = grind (arith, nat_tests)
