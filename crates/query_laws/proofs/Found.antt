-- Each group of a history is one of its groups.
use Rattle.std.proofs.Common.{◌≡◌, ◌⊎◌, inl, inr, ℕ, ◌+◌, ◌<◌, ◌≤◌, ◌==◌, ◌&&◌, ◌||◌, Bool, true, false, not, if◌then◌else◌, List, [], ◌∷◌, ◌++◌, length, max, Option, Some, None, option_and_then, refl, sym, subst, arith, Contains, true≢false}
use Rattle.std.proofs.lemmas.Bool.Decides.{nat_tests}
use Rattle.std.proofs.lemmas.Bool.Decides.{eqb_tells}
use Rattle.std.proofs.lemmas.Option.{none-some, same_Some, option_and_then_some}
use Rattle.std.specs.Option.{option_map_or}
use Rattle.arn_base.specs.declared.records.Extra.{Extra}
use Rattle.arn_base.specs.declared.records.Record.{Record}
use Rattle.arn_base.specs.declared.records.Record.TheVariants as entry
use Rattle.parts_model.specs.declared.calls.TheConstants.{FORK}
use Rattle.parts_model.specs.Replies.{is_success}
use Rattle.acts_model.specs.Records.{Child, child_forked, child_number, give_of, is_founder, process_of}
use Rattle.history_model.specs.Broken.{child_in, greatest, greatest_from, greatest_after, misnumbers, cant_follow, comes_wrong, lacks_process, lacks_slice, are_origins, has_blocks_wrong, start_in, misplaces_start, broken_from, first_broken}
use Rattle.history_model.specs.Events.{event_at}
use Rattle.history_model.specs.Groups.{Groups, group_made, groups_told, groups_from, group_of, is_number, event_group}
use Rattle.history_model.specs.Moments.{changed}
use Rattle.history_index.specs.Lookups.{groups_in, processes_in}
use Rattle.query_laws.proofs.Links.{is-number}
use Rattle.query_laws.proofs.Lists.{kept-in, in-range}

pub left : (a b : Bool) → (a || b) ≡ false → a ≡ false
left true b h = absurd (true≢false h)
left false b h = refl

abbrev rest-number : List Record → Record → Bool
rest-number before e = misnumbers before (child_in e) || misplaces_start e

abbrev rest-blocks : List Record → Record → Bool
rest-blocks before e = has_blocks_wrong (start_in e) || rest-number before e

abbrev rest-origins : List Record → Record → Bool
rest-origins before e = not (are_origins before (give_of e)) || rest-blocks before e

abbrev rest-slice : List Record → Record → Bool
rest-slice before e = lacks_slice before e || rest-origins before e

abbrev rest-process : List Record → Record → Bool
rest-process before e = lacks_process before e || rest-slice before e

-- what a record that can stand says
pub record Stands (before : List Record) (e : Record) : Type 0 where
  pub comes : comes_wrong before e ≡ false
  pub process : lacks_process before e ≡ false
  pub slice : lacks_slice before e ≡ false
  pub origins : not (are_origins before (give_of e)) ≡ false
  pub child : misnumbers before (child_in e) ≡ false
  pub placed : misplaces_start e ≡ false

pub stands : (before : List Record) (e : Record) → cant_follow before e ≡ false → Stands before e
stands before e h1 = grind (arith, nat_tests, left, rest-blocks, rest-number, rest-origins, rest-process, rest-slice)

module _ (before : List Record) (e : Record) (entries : List Record) where
  follows-by : (b : Bool) → cant_follow before e ≡ b → (if b then Some (length before) else broken_from (before ++ e ∷ []) entries) ≡ None → Stands before e × (broken_from (before ++ e ∷ []) entries ≡ None)
  follows-by true is h = absurd (none-some (length before) (sym h))
  follows-by false is h = (stands before e is, h)

  pub follows : broken_from before (e ∷ entries) ≡ None → Stands before e × (broken_from (before ++ e ∷ []) entries ≡ None)
  follows h = follows-by (cant_follow before e) refl h

-- where so many processes were made, a process has a group with the number of one that founded it
pub record IsFounded (groups : Groups) (most pid g : ℕ) : Type 0 where
  pub made : pid ≤ most
  pub low : 0 < g
  pub high : g ≤ most
  pub founder : groups g ≡ Some g

abbrev pub AreFounded : Groups → ℕ → Type 0
AreFounded groups most = (pid g : ℕ) → groups pid ≡ Some g → IsFounded groups most pid g

pub changed-at : (groups : Groups) (k g : ℕ) (o : Option ℕ) → ((g ≡ k) × (o ≡ Some g)) ⊎ ((g ≡ k → ⊥) × (groups g ≡ Some g)) → changed groups k o g ≡ Some g
changed-at groups k g o h1 = grind (arith, nat_tests, eqb_tells)

changed-cases : (groups : Groups) (k pid g : ℕ) (o : Option ℕ) → changed groups k o pid ≡ Some g → ((pid ≡ k) × (o ≡ Some g)) ⊎ ((pid ≡ k → ⊥) × (groups pid ≡ Some g))
changed-cases groups k pid g o h1 = grind (arith, nat_tests, eqb_tells)

-- a process founds a group
founds-one : (groups : Groups) (most later c : ℕ) → AreFounded groups most → most ≤ later → 0 < c → c ≤ later → AreFounded (changed groups c (Some c)) later
founds-one groups most later c f more low high pid g is =
    elim (changed-cases groups c pid g (Some c) is) [
      | inl a ↦ (let e = same_Some c g a.1 in record {
        made = omega (arith, a.0, high);
        low = omega (arith, e, low);
        high = omega (arith, e, high);
        founder = changed-at groups c g (Some c) (inl (sym e, a.1));
      })
      | inr b ↦ (let old = f pid g b.1 in record {
        made = omega (arith, old.made, more);
        low = old.low;
        high = omega (arith, old.high, more);
        founder = changed-at groups c g (Some c) (by_same (eqb_tells g c) old.founder);
      })
    ]
  where
    by_same : ((g == c) ≡ true) × (g ≡ c) ⊎ ((g == c) ≡ false) × (g ≡ c → ⊥) → groups g ≡ Some g → ((g ≡ c) × (Some c ≡ Some g)) ⊎ ((g ≡ c → ⊥) × (groups g ≡ Some g))
    by_same h1 h2 = grind (arith, nat_tests)

-- a new process joins one
joins-one : (groups : Groups) (most later c p : ℕ) → AreFounded groups most → c ≡ most + 1 → c ≤ later → AreFounded (changed groups c (groups p)) later
joins-one groups most later c p f new high pid g is =
    elim (changed-cases groups c pid g (groups p) is) [
      | inl a ↦ (let old = f p g a.1 in record {
        made = omega (arith, a.0, high);
        low = old.low;
        high = omega (arith, old.high, new, high);
        founder = changed-at groups c g (groups p) (inr (below old.high, old.founder));
      })
      | inr b ↦ (let old = f pid g b.1 in record {
        made = omega (arith, old.made, new, high);
        low = old.low;
        high = omega (arith, old.high, new, high);
        founder = changed-at groups c g (groups p) (inr (below old.high, old.founder));
      })
    ]
  where
    below : g ≤ most → g ≡ c → ⊥
    below low e = omega (arith, low, e, new)

forks-one : (groups : Groups) (most later pid child : ℕ) (more : Extra) → AreFounded groups most → child ≡ most + 1 → most ≤ later → child ≤ later → AreFounded (group_made pid (Some (child_forked child more)) groups) later
forks-one groups most later pid child more f new above high = by_test (is_founder (child_forked child more))
  where
    by_test : (b : Bool) → AreFounded (changed groups child (if b then Some child else groups pid)) later
    by_test true = founds-one groups most later child f above (omega (arith, new)) high
    by_test false = joins-one groups most later child pid f new high

pub numbered : (before : List Record) (child : ℕ) → misnumbers before (Some child) ≡ false → child ≡ greatest before + 1
numbered before child h =
    elim (eqb_tells child (greatest before + 1)) [ inl is ↦ is.1 | inr apart ↦ absurd (true≢false (rw apart.0 at h)) ]

-- a child where the test holds
abbrev pub child_if : Bool → ℕ → Extra → Option Child
child_if b result more = if b then Some (child_forked result more) else None

calls-one : (before : List Record) (groups : Groups) (pid result : ℕ) (more : Extra) (b : Bool) → misnumbers before (child_number (child_if b result more)) ≡ false → AreFounded groups (greatest before)
    → AreFounded (group_made pid (child_if b result more) groups) (option_map_or (max (greatest before)) (child_number (child_if b result more)) (greatest before))
calls-one before groups pid result more true h f =
    forks-one groups (greatest before) (max (greatest before) result) pid result more f (numbered before result h) (omega arith) (omega arith)
calls-one before groups pid result more false h f = f

pub tells-one : (before : List Record) (e : Record) (groups : Groups) → misnumbers before (child_in e) ≡ false → AreFounded groups (greatest before) → AreFounded (groups_told e groups) (greatest_after e (greatest before))
tells-one before (entry.Boot name give) groups h f = founds-one groups (greatest before) (max (greatest before) 1) 1 f (omega arith) (omega arith) (omega arith)
tells-one before (entry.Call pid number result more) groups h f = calls-one before groups pid result more ((number == FORK) && is_success result) h f
tells-one before _ groups h f = f

pub greatest-push : (entries : List Record) (n : ℕ) (e : Record) → greatest_from n (entries ++ e ∷ []) ≡ greatest_after e (greatest_from n entries)
greatest-push [] n e = refl
greatest-push (x ∷ entries) n e = greatest-push entries (greatest_after x n) e

tells-all : (before entries : List Record) (groups : Groups) → broken_from before entries ≡ None → AreFounded groups (greatest before) → AreFounded (groups_from entries groups) (greatest_from (greatest before) entries)
tells-all before [] groups h f = f
tells-all before (e ∷ entries) groups h f =
    let next = follows before e entries h in
    let here = tells-one before e groups next.0.child f in
    let push = greatest-push before 0 e in
    subst (λ (n : ℕ). AreFounded (groups_from entries (groups_told e groups)) (greatest_from n entries)) push
    (tells-all (before ++ e ∷ []) entries (groups_told e groups) next.1 (subst (λ (n : ℕ). AreFounded (groups_told e groups) n) (sym push) here))

pub nobody : (most : ℕ) → AreFounded (λ p. None) most
nobody most pid g is = absurd (none-some g is)

pub all-founded : (entries : List Record) → first_broken entries ≡ None → AreFounded (group_of entries) (greatest entries)
all-founded entries h = tells-all [] entries (λ p. None) h (nobody 0)

-- a process's group is one of the groups
pub process-group : (entries : List Record) → first_broken entries ≡ None → (pid g : ℕ) → group_of entries pid ≡ Some g → Contains (groups_in entries) g
process-group entries h pid g is =
    let f = all-founded entries h pid g is in
    kept-in (λ pid. is_number pid (group_of entries pid)) (processes_in entries) g (in-range 1 (greatest entries) g (omega (arith, f.low)) (omega (arith, f.high))) (is-number g (group_of entries g) f.founder)

-- so is an event's
pub event-is-of : (entries : List Record) → first_broken entries ≡ None → (n g : ℕ) → event_group entries n ≡ Some g → Contains (groups_in entries) g
event-is-of entries h n g is =
    option_and_then_some (group_of entries) (option_and_then process_of (event_at entries n)) g is (λ pid of group. process-group entries h pid g group)
