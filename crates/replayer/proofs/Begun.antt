-- The record by which a group begins.
use Rattle.std.proofs.lemmas.Bool.Decides.{nat_tests}
use Rattle.std.proofs.Common.{◌≡◌, ◌<◌, ℕ, ◌==◌, ◌&&◌, Bool, true, false, if◌then◌else◌, List, length, get_or, Option, Some, None, option_and_then, refl, ap, sym, ◌∙◌, arith, suc, ◌+◌, take, eqb-true}
use Rattle.arn_base.specs.declared.records.Extra.{Extra}
use Rattle.arn_base.specs.declared.records.Extra.TheVariants as extra
use Rattle.arn_base.specs.declared.records.Record.{Record}
use Rattle.arn_base.specs.declared.records.Record.TheVariants as entry
use Rattle.arn_base.specs.declared.records.Start.{Start}
use Rattle.parts_model.specs.declared.calls.TheConstants.{FORK}
use Rattle.parts_model.specs.Replies.{is_success}
use Rattle.acts_model.specs.Records.{child_forked, child_start, start_held}
use Rattle.history_index.specs.Lookups.{founds}
use Rattle.history_model.specs.Alone.{Makes, begins, begins_if, boots, nothing_own}
use Rattle.history_model.specs.Broken.{first_broken, behind, greatest, greatest_after}
use Rattle.history_model.specs.Groups.{Groups, group_made, group_of, groups_told, is_number}
use Rattle.history_model.specs.Names.{is_boot}
use Rattle.replayer.specs.BySlices.{first_made}
use Rattle.replayer.specs.Foundings.{own_start, start_of}
use Rattle.replayer.proofs.Kept.{group-kept, groups-next, groups_at}
use Rattle.replayer.proofs.Loops.{greatest-snoc}
use Rattle.replayer.proofs.Own.{founder-next, same-test}
use Rattle.replayer.proofs.Sound.{fits}
use Rattle.replayer.proofs.Passing.{no-way}

none-number : (b : Bool) (g : ℕ) → is_number g (if b then None else None) ≡ false
none-number true g = refl
none-number false g = refl

some-number : (b : Bool) (g r : ℕ) → is_number g (if b then Some r else None) ≡ true → r ≡ g
some-number true g r is = eqb-true r g is
some-number false g r is = no-way is

-- a number is that of the option
pub number-some : (g : ℕ) (o : Option ℕ) → is_number g o ≡ true → o ≡ Some g
number-some g None is = no-way is
number-some g (Some m) is = ap Some (eqb-true m g is)

-- a fork that holds how its child begins
record Starts (g : ℕ) (does : Bool) (r : ℕ) (extra-is : Extra) : Type 0 where
  forks : does ≡ true
  child : r ≡ g
  start : Start
  more : extra-is ≡ extra.Start start

module _ (g pid r : ℕ) where
  none-starts : (more : Extra) → is_number g (if g == r then None else None) ≡ true → Starts g true r more
  none-starts more is = no-way (sym (none-number (g == r) g) ∙ is)

  start-there : (forks : Bool) (more : Extra) → is_number g (group_made pid (if forks then Some (child_forked r more) else None) (λ p. None) g) ≡ true → Starts g forks r more
  start-there forks more h1 = grind (arith, nat_tests, no-way, some-number, none-starts)

-- its first process is of it
founds-told : (g : ℕ) (e : Record) (groups : Groups) → founds g e ≡ true → groups_told e groups g ≡ Some g
founds-told g e groups h1 = grind (arith, nat_tests, some-number, same-test, start-there, no-way)

pub founded-group : (entries : List Record) (place : ℕ) (e : Record) (g : ℕ) → first_broken entries ≡ None → place < length entries → e ≡ get_or entries place e → founds g e ≡ true → group_of entries g ≡ Some g
founded-group entries place e g stands lt is begins =
    let first = founder-next (behind (take place entries)) (greatest (take place entries)) g e (fits entries stands place e lt is) begins in
    let one : place + 1 ≡ suc place = omega arith in
    let many : greatest (take (place + 1) entries) ≡ greatest_after e (greatest (take place entries)) = ap (λ (j : ℕ). greatest (take j entries)) one ∙ greatest-snoc 0 entries place e lt is in
    sym (group-kept entries (place + 1) g stands (omega (arith, lt)) (omega (arith, many, first.0, first.1)))
    ∙ (ap (λ (groups : Groups). groups g) (groups-next entries place e lt is) ∙ founds-told g e (groups_at entries place) begins)

-- what a replay does there: a start
begins-start : (g r event : ℕ) (e : Record) (start : Start) (c : Bool) (o : Option Start) → (r == g) ≡ c → (if c then o else None) ≡ Some start → begins_if g r event e o nothing_own ≡ Makes (begins g event e start nothing_own)
begins-start g r event e start c o h1 h2 = grind (arith, nat_tests)

pub first-starts : (g event : ℕ) (e : Record) (start : Start) → start_of g e ≡ Some start → first_made g event e ≡ Makes (begins g event e start nothing_own)
first-starts g event (entry.Call pid number r more) start is = by_test ((number == FORK) && is_success r) is
  where
    e : Record
    e = entry.Call pid number r more

    by_test : (b : Bool) → option_and_then (own_start g) (if b then Some (child_forked r more) else None) ≡ Some start
        → begins_if g r event e (child_start (if b then Some (child_forked r more) else None)) nothing_own ≡ Makes (begins g event e start nothing_own)
    by_test true h = begins-start g r event e start (r == g) (start_held more) refl h
    by_test false h = absurd (let no : None ≡ Some start = h in cc)
first-starts g event _ start is = absurd (let no : None ≡ Some start = is in cc)

-- or the boot
pub record Boots (g event : ℕ) (e : Record) : Type 0 where
  pub is : is_boot e ≡ true
  pub made : first_made g event e ≡ boots event e nothing_own
  pub first : g ≡ 1

pub first-boots : (g event : ℕ) (e : Record) → founds g e ≡ true → start_of g e ≡ None → Boots g event e
first-boots g event e h1 h2 = grind (arith, nat_tests, some-number, start-there, same-test, no-way)
