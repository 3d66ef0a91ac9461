-- Views on the records of a run.
use Rattle.std.proofs.Common.{◌≡◌, ℕ, nat_le, ◌&&◌, Bool, true, false, List, Option, Some, None, IsSome, refl, sym, ap, ◌∙◌, option_and_then, option_map}
use Rattle.acts_model.specs.Bodies.{View, Body, body_at, nobody, seen, view}
use Rattle.std.proofs.lemmas.Bool.{and_parts}
use Rattle.acts_model.specs.Views.{bytes_in}
use Rattle.arn_model.specs.Run.{Input, instructions_in, machine_after, run, state_at}
use Rattle.arn_model.specs.Tells.{HasNumbers, lives}
use Rattle.history_model.specs.Alone.{Own, Makes, nothing_own}
use Rattle.history_model.specs.Groups.{group_of}
use Rattle.history_model.specs.Moments.{lives_at, total}
use Rattle.log_model.specs.Records.{records}
use Rattle.past_lives.specs.Laws.{LivesHaveGroups}
use Rattle.replay_laws.specs.Laws.{GroupsPassThrough, PassesThrough, RecordsTellMoments, RecordsTellRuns}
use Rattle.state_viewer.specs.Views.{made_by}
use Rattle.unbroken_laws.specs.Laws.{RunsAreUnbroken}
use Rattle.view_laws.specs.OfRuns.{ViewsRun}

nobody-at : (p : ℕ) → body_at nobody p ≡ None
unfolding body_at
nobody-at p = refl

same-own : (a b : Own) → Makes a ≡ Makes b → a ≡ b
same-own a b e = cc

none-seen : (p : ℕ) → seen nobody p ≡ None
none-seen p = ap (λ (o : Option Body). option_map (view nobody) o) (nobody-at p)

map-then : (o : Option View) → option_map (λ v. v.body.cpu) o ≡ option_and_then (λ v. Some v.body.cpu) o
map-then None = refl
map-then (Some v) = refl

-- a group alone, or none
record Sees (inputs : List Input) (moment pid : ℕ) (group : Option ℕ) : Type 0 where
  own : Own
  makes : made_by (records inputs) moment group ≡ Makes own
  same : (v : View) → seen own.bodies pid ≡ Some v → seen (state_at inputs moment).bodies pid ≡ Some v
  both : IsSome group → seen own.bodies pid ≡ seen (state_at inputs moment).bodies pid

sees : (inputs : List Input) (moment pid : ℕ) (group : Option ℕ) → group_of (records inputs) pid ≡ group → ((g : ℕ) → PassesThrough inputs g moment) → Sees inputs moment pid group
sees inputs moment pid None is passes =
    record { own = nothing_own; makes = refl; same = λ v e. absurd (let no : None ≡ Some v = sym (none-seen pid) ∙ e in cc); both = λ some. absurd (let no : false ≡ true = some in cc) }
sees inputs moment pid (Some g) is passes =
    let through = passes g in
    record { own = through.own; makes = through.made; same = λ v e. sym (through.whole.views pid is) ∙ e; both = λ some. through.whole.views pid is }

-- what is read of a view that is seen there too
read-too : {A : Type 0} (f : View → Option A) (o p : Option View) (x : A) → ((v : View) → o ≡ Some v → p ≡ Some v) → option_and_then f o ≡ Some x → option_and_then f p ≡ Some x
read-too f None p x same e = absurd (cc)
read-too f (Some v) p x same e = ap (option_and_then f) (same v refl) ∙ e

pub views : (inputs : List Input) (moment pid : ℕ) → HasNumbers (machine_after inputs).kernel → GroupsPassThrough → RecordsTellMoments → RecordsTellRuns → RunsAreUnbroken → LivesHaveGroups → ViewsRun inputs moment pid
views inputs moment pid few passes moments runs unbroken groups =
    let there = sees inputs moment pid (group_of (records inputs) pid) refl (λ g. passes inputs g moment few) in
    record {
      own = there.own;
      agrees = there.makes;
      member =
          ap (λ (n : ℕ). nat_le moment n && lives_at (records inputs) moment pid) (runs inputs few).instructions
          ∙ ap (λ (b : Bool). nat_le moment (instructions_in (run inputs)) && b) (moments inputs moment pid few).lives;
      sees = λ member.
          there.both (groups (records inputs) moment pid (unbroken inputs few) (and_parts (nat_le moment (total (records inputs))) (lives_at (records inputs) moment pid) member).1);
      lives = (moments inputs moment pid few).lives;
      registers = λ cpu h.
          map-then (seen (state_at inputs moment).bodies pid)
          ∙ read-too (λ v. Some v.body.cpu) (seen there.own.bodies pid) (seen (state_at inputs moment).bodies pid) cpu there.same
          (ap (λ (o : Own). option_and_then (λ v. Some v.body.cpu) (seen o.bodies pid)) (same-own there.own h.own (sym there.makes ∙ h.made)) ∙ (sym (map-then (seen h.own.bodies pid)) ∙ h.registers));
      memory = λ at len bytes h.
          read-too (λ v. bytes_in v at len) (seen there.own.bodies pid) (seen (state_at inputs moment).bodies pid) bytes there.same
          (ap (λ (o : Own). option_and_then (λ v. bytes_in v at len) (seen o.bodies pid)) (same-own there.own h.own (sym there.makes ∙ h.made)) ∙ h.bytes_are);
    }
