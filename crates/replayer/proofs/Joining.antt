-- Whose group a child joins.
use Rattle.std.proofs.lemmas.Bool.Decides.{nat_tests}
use Rattle.std.proofs.Common.{◌≡◌, ◌<◌, ◌≤◌, ℕ, ◌==◌, ◌&&◌, Bool, true, false, if◌then◌else◌, List, length, take, get_or, Some, None, option_and_then, refl, ap, sym, ◌∙◌, arith, suc, ◌+◌}
use Rattle.std.proofs.lemmas.Bool.{and_from, not-false}
use Rattle.arn_base.specs.declared.machine.Cpu.{Cpu}
use Rattle.arn_base.specs.declared.records.Extra.{Extra}
use Rattle.arn_base.specs.declared.records.Extra.TheVariants as extra
use Rattle.arn_base.specs.declared.records.Record.{Record}
use Rattle.arn_base.specs.declared.records.Record.TheVariants as entry
use Rattle.parts_model.specs.declared.calls.TheConstants as number
use Rattle.parts_model.specs.Replies.{is_success}
use Rattle.acts_model.specs.Acts.{Returns, Forks, Founds, Delivers, Dies}
use Rattle.acts_model.specs.Records.{child_forked}
use Rattle.acts_model.specs.Told.{Kind, act_of, call_act, fork_act, kind_of}
use Rattle.history_index.specs.Check.{lacks_slice_by}
use Rattle.history_model.specs.Broken.{Behind, behind, first_broken, greatest, greatest_after, is_behind}
use Rattle.history_model.specs.Groups.{Groups, group_made, group_of, groups_told}
use Rattle.history_model.specs.Moments.{changed}
use Rattle.replay_steps.specs.Calls.{child_joined}
use Rattle.replayer.proofs.Children.{call-in, kind-fork, neither}
use Rattle.replayer.proofs.Kept.{group-kept, groups-next, groups_at}
use Rattle.replayer.proofs.Loops.{greatest-snoc}
use Rattle.replayer.proofs.Own.{same-test}
use Rattle.replayer.proofs.Sound.{fits}

-- it has the group of its parent
record Joins (groups : Groups) (pid r : ℕ) (more : Extra) (p : ℕ) : Type 0 where
  success : is_success r ≡ true
  group : group_made pid (Some (child_forked r more)) groups p ≡ groups pid

if-joins : (test : Bool) (r p : ℕ) → child_joined (if test then Forks r else Returns r) ≡ Some p → (test ≡ true) × (r ≡ p)
if-joins true r p is = (refl, (let same : Some r ≡ Some p = is in cc))
if-joins false r p is = absurd (let none : None ≡ Some p = is in cc)

changed-here : (groups : Groups) (pid r p : ℕ) → r ≡ p → changed groups r (groups pid) p ≡ groups pid
changed-here groups pid r p same = ap (λ (c : Bool). if c then groups pid else groups p) (same-test p r (sym same))

module _ (groups : Groups) (pid r p : ℕ) where
  joins-plain : (more : Extra) → group_made pid (Some (child_forked r more)) groups p ≡ changed groups r (groups pid) p → child_joined (if is_success r then Forks r else Returns r) ≡ Some p → Joins groups pid r more p
  joins-plain more same is =
      let found = if-joins (is_success r) r p is in record { success = found.0; group = same ∙ changed-here groups pid r p found.1 }

  fork-joins : (more : Extra) → child_joined (fork_act r more) ≡ Some p → Joins groups pid r more p
  fork-joins (extra.Start start) is = absurd (let none : None ≡ Some p = sym (neither (is_success r) (Founds r) (Returns r) refl refl) ∙ is in cc)
  fork-joins more is = joins-plain more refl is

-- which is the process of the slice at hand
record Parent (groups : Groups) (b : Behind) (e : Record) (p : ℕ) : Type 0 where
  pid : ℕ
  hand : is_behind pid b ≡ true
  group : groups_told e groups p ≡ groups pid

parent : (cpu : Cpu) (groups : Groups) (b : Behind) (e : Record) (p : ℕ) → lacks_slice_by b e ≡ false → option_and_then child_joined (act_of cpu e) ≡ Some p → Parent groups b e p
parent cpu groups b (entry.Call pid n r more) p held is =
    let found = call-in (kind_of n) cpu r p more is in
    let forks : child_joined (fork_act r more) ≡ Some p = sym (ap (λ (k : Kind). child_joined (call_act k cpu r more)) found.0) ∙ is in
    let joins = fork-joins groups pid r p more forks in
    let both : ((n == number.FORK) && is_success r) ≡ true = and_from (n == number.FORK) (is_success r) (kind-fork n found.0) joins.success in
    record {
      pid = pid;
      hand = not-false (is_behind pid b) held;
      group = ap (λ (c : Bool). group_made pid (if c then Some (child_forked r more) else None) groups p) both ∙ joins.group;
    }
parent cpu groups b (entry.Signal pid signal cut handler) p held is = grind (arith, nat_tests, neither (handler == 0) (Dies signal cut) (Delivers signal handler cut) refl refl)
parent cpu groups b _ p held is = absurd (let none : None ≡ Some p = is in cc)

-- behind a slice each child that joins is of the group of the slice's process
pub joins-own : (entries : List Record) (place : ℕ) (e : Record) (cpu : Cpu) (own p : ℕ) → first_broken entries ≡ None → place < length entries → e ≡ get_or entries place e → ((q : ℕ) → is_behind q (behind (take place entries)) ≡ true → q ≡ own) → own ≤ greatest (take place entries)
    → option_and_then child_joined (act_of cpu e) ≡ Some p → p ≤ greatest_after e (greatest (take place entries)) → group_of entries p ≡ group_of entries own
joins-own entries place e cpu own p stands lt is hand made joined le =
    let f = fits entries stands place e lt is in
    let up = parent cpu (groups_at entries place) (behind (take place entries)) e p f.slice joined in
    let one : place + 1 ≡ suc place = omega arith in
    let many : greatest (take (place + 1) entries) ≡ greatest_after e (greatest (take place entries)) = ap (λ (j : ℕ). greatest (take j entries)) one ∙ greatest-snoc 0 entries place e lt is in
    sym (group-kept entries (place + 1) p stands (omega (arith, lt)) (omega (arith, le, many)))
    ∙ (ap (λ (groups : Groups). groups p) (groups-next entries place e lt is)
    ∙ (up.group
    ∙ (ap (groups_at entries place) (hand up.pid up.hand) ∙ group-kept entries place own stands (omega (arith, lt)) made)))
