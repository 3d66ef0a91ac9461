-- Events of a group, as their records tell.
use Rattle.std.proofs.Common.{◌≡◌, ℕ, true, false, Option, Some, None, is_some, IfSome, option_map, option_and_then, refl, sym, subst, ap, ◌∙◌}
use Rattle.arn_base.specs.declared.machine.Cpu.{Cpu}
use Rattle.arn_base.specs.declared.records.Record.{Record}
use Rattle.parts_model.specs.Numbered.{nth}
use Rattle.acts_model.specs.Acts as act
use Rattle.acts_model.specs.Records.{event_len, process_of}
use Rattle.acts_model.specs.Told.{act_of}
use Rattle.acts_model.specs.Transfers.{Holds, transfer}
use Rattle.taint_members.specs.declared.member.MemberSets.{MemberSets}
use Rattle.taint_group.specs.declared.group.Group.{Group}
use Rattle.taint_state.specs.Events.{event_by_member}
use Rattle.acts_model.specs.Moved.{Inside}
use Rattle.taint_state.specs.Goes.{GoesIf, TakesEvent}
use Rattle.taint_group.specs.Groups.{GroupGoes, IsSoundGroup, kept_of}
use Rattle.taint_state.specs.Kept.{Kept, KeptMember, shown, shown_member}
use Rattle.taint_state.specs.Lens.{ActsHaveLen, HasLen}
use Rattle.taint_state.specs.RunsShow.{kept_member}
use Rattle.taint_state.specs.Shown.{Member, Tracking}
use Rattle.taint_state.specs.Steps.{event_by, event_of, event_step, holders_of}
use Rattle.taint_group.specs.Does.{DoesStep}
use Rattle.taint_group.specs.Turns.{holds_of}
use Rattle.taint_group.proofs.Keyed.{at-some, nth-map}

-- a member that was holds what it held
held-before : (x : Kept) (p : ℕ) (m : KeptMember) → nth x.members p ≡ Some m → holders_of (shown x) p ≡ Some m.holds
held-before x p m was = ap (λ (o : Option KeptMember). option_map (λ (n : Member). n.holds) (option_map (shown_member x) o)) was

-- as many bytes as the event has
pub has-len : (act : act.Act) (count : ℕ) (e : Record) (before : Cpu) → ActsHaveLen → act_of before e ≡ Some act → count ≡ event_len e → HasLen count act
has-len act count e before lens told len = subst (λ n. HasLen n act) (sym len) (subst (λ o. IfSome o (HasLen (event_len e))) told (lens before e))

-- the event of a live member
takes-step : (act : act.Act) (pid event : ℕ) (e : Record) (before : Cpu) (x y : Group) (old : MemberSets) → process_of e ≡ Some pid → act_of before e ≡ Some act → nth x.members.items pid ≡ Some old
    → DoesStep act pid event (event_len e) x y → TakesEvent (shown (kept_of x)) event e before (shown (kept_of y)) × IsSoundGroup y
takes-step act pid event e before x y old process told is step =
    (subst (λ o. GoesIf o (shown (kept_of x)) (shown (kept_of y))) (sym inside) goes.follows.goes, record { kept = goes.follows.sound; keyed = goes.keyed })
  where
    goes : GroupGoes (event_by_member pid before (transfer pid event (holds_of old) act) event e) x y
    goes =
        at-some (λ (m : MemberSets). GroupGoes (event_by_member pid before (transfer pid event (holds_of m) act) event e) x y) (nth x.members.items pid) old is (step e before refl)

    held : holders_of (shown (kept_of x)) pid ≡ Some (holds_of old)
    held =
        held-before (kept_of x) pid (kept_member x.memories.items old)
        (nth-map (kept_member x.memories.items) x.members.items pid ∙ ap (option_map (kept_member x.memories.items)) is)

    inside : event_step (holders_of (shown (kept_of x))) event e before ≡ Some (event_by_member pid before (transfer pid event (holds_of old) act) event e)
    inside =
        ap (option_and_then (event_of (holders_of (shown (kept_of x))) event e before)) process
        ∙ (ap (λ h. event_by pid event e before h (act_of before e)) held ∙ ap (event_by pid event e before (Some (holds_of old))) told)

-- an event of a live member, by what its record tells
pub takes-act : (act : act.Act) (pid event count : ℕ) (e : Record) (before : Cpu) (x y : Group) → process_of e ≡ Some pid → act_of before e ≡ Some act → is_some (nth x.members.items pid) ≡ true
    → count ≡ event_len e → DoesStep act pid event count x y → TakesEvent (shown (kept_of x)) event e before (shown (kept_of y)) × IsSoundGroup y
takes-act act pid event count e before x y process told lives len step = by (nth x.members.items pid) refl lives
  where
    by : (o : Option MemberSets) → nth x.members.items pid ≡ o → is_some o ≡ true → TakesEvent (shown (kept_of x)) event e before (shown (kept_of y)) × IsSoundGroup y
    by None is lives = absurd (cc)
    by (Some old) is lives = takes-step act pid event e before x y old process told is (subst (λ n. DoesStep act pid event n x y) len step)

-- nothing is changed where an event is none of a live member
goes-not : (o : Option Inside) (x : Tracking) → o ≡ None → GoesIf o x x
goes-not o x none = subst (λ i. GoesIf i x x) (sym none) refl

pub takes-nobody : (event : ℕ) (e : Record) (before : Cpu) (x : Group) → process_of e ≡ None → TakesEvent (shown (kept_of x)) event e before (shown (kept_of x))
takes-nobody event e before x nobody =
    goes-not (event_step (holders_of (shown (kept_of x))) event e before) (shown (kept_of x)) (ap (option_and_then (event_of (holders_of (shown (kept_of x))) event e before)) nobody)

pub takes-untold : (pid event : ℕ) (e : Record) (before : Cpu) (x : Group) → process_of e ≡ Some pid → act_of before e ≡ None → TakesEvent (shown (kept_of x)) event e before (shown (kept_of x))
takes-untold pid event e before x process untold =
    goes-not (event_step (holders_of (shown (kept_of x))) event e before) (shown (kept_of x))
    (ap (option_and_then (event_of (holders_of (shown (kept_of x))) event e before)) process
    ∙ (ap (event_by pid event e before (holders_of (shown (kept_of x)) pid)) untold ∙ by (holders_of (shown (kept_of x)) pid)))
  where
    by : (h : Option Holds) → event_by pid event e before h None ≡ None
    by None = refl
    by (Some holds) = refl

pub takes-dead : (pid event : ℕ) (e : Record) (before : Cpu) (x : Group) → process_of e ≡ Some pid → is_some (nth x.members.items pid) ≡ false → TakesEvent (shown (kept_of x)) event e before (shown (kept_of x))
takes-dead pid event e before x process dead =
    goes-not (event_step (holders_of (shown (kept_of x))) event e before) (shown (kept_of x))
    (ap (option_and_then (event_of (holders_of (shown (kept_of x))) event e before)) process
    ∙ ap (λ h. event_by pid event e before h (act_of before e)) (holds-not (nth-map (kept_member x.memories.items) x.members.items pid ∙ ap (option_map (kept_member x.memories.items)) (by (nth x.members.items pid) dead))))
  where
    by : (o : Option MemberSets) → is_some o ≡ false → o ≡ None
    by None none = refl
    by (Some m) none = absurd (cc)

    holds-not : nth (kept_of x).members pid ≡ None → holders_of (shown (kept_of x)) pid ≡ None
    holds-not none = ap (λ (o : Option KeptMember). option_map (λ (n : Member). n.holds) (option_map (shown_member (kept_of x)) o)) none
