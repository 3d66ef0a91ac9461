-- The induction over the inputs of a run: up to the moment turn for turn, behind it no record matters.
use Rattle.std.proofs.Common.{◌≡◌, ℕ, ◌<◌, ◌≤◌, ◌+◌, ◌-◌, ◌&&◌, List, [], ◌∷◌, ◌++◌, refl, ap, ap₂, ◌∙◌, sym, subst, append-nil, append_assoc, Option, Some, Bool, true, false, ◌==◌, arith, nat_le}
use Rattle.std.proofs.lemmas.Bool.Decides.{nat_tests}
use Rattle.std.proofs.lemmas.Bool.{leb-true, leb-false, le-leb, lt-leb}
use Rattle.arn_base.specs.declared.records.Record.{Record}
use Rattle.arn_base.specs.declared.records.Record.TheVariants as entry
use Rattle.parts_model.specs.declared.tagged.TaggedByte.{TaggedByte}
use Rattle.parts_model.specs.Image.{is_image}
use Rattle.parts_model.specs.Replies.{Answered}
use Rattle.parts_model.specs.Tagged.{given, values}
use Rattle.acts_model.specs.Bodies.{Bodies, View, nobody, seen}
use Rattle.acts_model.specs.Moved.{Inside, is_instruction}
use Rattle.arn_model.specs.Kernel.{Machine, at_first}
use Rattle.arn_model.specs.Run.{Input, input_steps, steps_from, instructions_in, is_booted, boot_step, within, unless_reached, run, machine_after, state_at}
use Rattle.arn_model.specs.Sound.{IsSoundMachine}
use Rattle.arn_model.specs.Step.{Step}
use Rattle.arn_model.specs.Tells.{Along}
use Rattle.arn_model.specs.Turn.{after_steps, turn, steps_of}
use Rattle.arn_model.specs.Laws.{StepsTell, EachRunIsSound, EachRunAppends}
use Rattle.history_model.specs.Alone as alone
use Rattle.history_model.specs.Alone.{Own, Made, Makes, Standing, and_then, made_if, boots, nothing_own, after_boot, after_slice, replayed, settled}
use Rattle.history_model.specs.Groups.{Groups, group_of, groups_from, is_number}
use Rattle.history_model.specs.Moments.{changed}
use Rattle.log_model.specs.Records.{event_records, slice_records, input_records, records_from, records}
use Rattle.replay_laws.specs.Heard.{own_part, part, parts}
use Rattle.replay_laws.specs.Laws.{GroupsPassThrough}
use Rattle.replay_laws.proofs.Places.{nobody-at}
use Rattle.replay_laws.proofs.Owned.{Owner, Private, changed-same}
use Rattle.replay_laws.proofs.Agrees.{Joint, joint-later, same-seen}
use Rattle.replay_laws.proofs.Boots.{boot_own, boot_inside, boot-made, boot-joint, boot-own-bodies, boot-own-inside, boot-lives}
use Rattle.replay_laws.proofs.Steps.{Known, along-known, along-first, along-rest, after-append, next, live-number, seen-number, told, count, counted, count-none, count-more, records-told, instructions-count, told-groups, JointAt}
use Rattle.replay_laws.proofs.Heard.{parts-append}
use Rattle.replay_laws.proofs.Turns.{Settles, Ends, Stood, turn-ends}
use Rattle.replay_laws.proofs.Late.{made-settled, nothing-later, replayed-append, replayed-groups, groups-append}
use Rattle.replay_laws.proofs.Inputs.{IsOutside, Takes, Rests, Comes, Begins, Turns, takes, none-recorded, input-groups, along-numbers, later-groups, sound-first, stays-booted}
use Rattle.window_laws.specs.Lengths.{KeepsLengths}

-- the records of an input that takes these steps, and of what follows
abbrev all_records : Input → Machine → List Step → List Input → List Record
all_records i m steps inputs = input_records i steps ++ records_from (after_steps m steps) inputs

-- behind the moment, and between slices
pub record Over (until : ℕ) (own : Own) (t : Standing) : Type 0 where
  pub late : until < t.moment
  pub ended : t.is_ended ≡ false
  pub settled : Settles t own

inputs-later : (g until : ℕ) (own : Own) (inputs : List Input) (m : Machine) (t : Standing) → Over until own t → Settles (replayed g until t (records_from m inputs)) own
inputs-later g until own [] m t h = h.settled
inputs-later g until own (i ∷ inputs) m t h = by_input (takes m i) (λ m t h. inputs-later g until own inputs m t h)
  where
    Later : Type 0
    Later = (m : Machine) (t : Standing) → Over until own t → Settles (replayed g until t (records_from m inputs)) own

    Goal : List Step → Type 0
    Goal steps = Settles (replayed g until t (all_records i m steps inputs)) own

    slice : (pid : ℕ) (steps : List Step) → Later → Settles (replayed g until t (slice_records pid steps ++ records_from (after_steps m steps) inputs)) own
    slice pid [] rest = rest m t h
    slice pid (s ∷ steps) rest = nothing-later g until pid (instructions_in (s ∷ steps)) own t (event_records (s ∷ steps) ++ records_from (after_steps m (s ∷ steps)) inputs) h.late h.settled

    by_input : Takes m i → Later → Goal (input_steps m i)
    by_input h1 h2 = grind (arith, nat_tests, Goal, none-recorded, told, count, slice)

-- all steps are within the moment
within-over : (j : ℕ) (steps more : List Step) → within (count steps + j) (steps ++ more) ≡ steps ++ within j more
within-over j [] more = ap (λ k. within k more) (let z = count-none in let e : count [] + j ≡ j = omega arith in e)
within-over j (s ∷ steps) more = ap (λ (k : ℕ). within (k + j) (s ∷ (steps ++ more))) (count-more s steps) ∙ by_count (is_instruction s.moved.inside) (within-over j steps more)
  where
    by_count : (b : Bool) → within (count steps + j) (steps ++ more) ≡ steps ++ within j more → unless_reached b (counted b (count steps) + j) (λ k. s ∷ within k (steps ++ more)) ≡ s ∷ (steps ++ within j more)
    by_count b h1 = grind (arith, nat_tests, count)

-- the moment lies among the steps
within-first : (k : ℕ) (steps more : List Step) → k < count steps → within k (steps ++ more) ≡ within k steps
within-first k [] more h = let z = count-none in absurd (omega arith)
within-first k (s ∷ steps) more h = by_count (is_instruction s.moved.inside) k (λ i l. within-first i steps more l) (let e = count-more s steps in omega arith)
  where
    by_count : (b : Bool) (k : ℕ) → ((i : ℕ) → i < count steps → within i (steps ++ more) ≡ within i steps) → k < counted b (count steps) → unless_reached b k (λ i. s ∷ within i (steps ++ more)) ≡ unless_reached b k (λ i. s ∷ within i steps)
    by_count b k h1 h2 = grind (arith, nat_tests)

-- the replay has made what the first steps from m lead to
pub record Reaches (g : ℕ) (gs : Groups) (t : Standing) (old : List Inside) (m : Machine) (first : List Step) : Type 0 where
  pub owner : ℕ → Owner
  pub own : Own
  pub is : Settles t own
  pub joint : JointAt g owner gs (after_steps m first) own.bodies
  pub inside : own.inside ≡ old ++ parts gs g first

-- between turns, within the moment, with all that is known of what is to come
pub record Before (g : ℕ) (gs : Groups) (t : Standing) (m : Machine) (inputs : List Input) : Type 0 where
  pub ended : t.is_ended ≡ true
  pub idle : is_booted m ≡ false → t.owed ≡ 0
  pub known : Along Known m (steps_from m inputs)
  pub sound : IsSoundMachine (after_steps m (steps_from m inputs))
  pub final : (q : ℕ) → groups_from (records_from m inputs) t.groups q ≡ gs q

abbrev Goes : ℕ → Groups → ℕ → List Input → Type 0
Goes g gs until inputs = (now : ℕ) (t : Standing) (m : Machine) (h : Stood g gs now t m) → Before g gs t m inputs → now ≤ until → Reaches g gs (replayed g until t (records_from m inputs)) h.own.inside m (within (until - now) (steps_from m inputs))

-- what is to come behind an input's steps
rest-before : (g : ℕ) (gs : Groups) (t t' : Standing) (m : Machine) (i : Input) (steps : List Step) (inputs : List Input) → t'.groups ≡ groups_from (input_records i steps) t.groups → t'.is_ended ≡ true → (is_booted (after_steps m steps) ≡ false → t'.owed ≡ 0) → Along Known m (steps ++ steps_from (after_steps m steps) inputs) → IsSoundMachine (after_steps m (steps ++ steps_from (after_steps m steps) inputs)) → ((q : ℕ) → groups_from (all_records i m steps inputs) t.groups q ≡ gs q) → Before g gs t' (after_steps m steps) inputs
rest-before g gs t t' m i steps inputs h1 h2 h3 h4 h5 h6 = grind (arith, nat_tests, after-append, along-rest, groups-append)

-- what is heard of steps, and then of more
heard-on : (gs : Groups) (g : ℕ) (old mid all : List Inside) (steps first : List Step) → mid ≡ old ++ parts gs g steps → all ≡ mid ++ parts gs g first → all ≡ old ++ parts gs g (steps ++ first)
heard-on gs g old mid all steps first h k = k ∙ (ap (λ xs. xs ++ parts gs g first) h ∙ (append_assoc old (parts gs g steps) (parts gs g first) ∙ ap (λ xs. old ++ xs) (sym (parts-append gs g steps first))))

-- the step and then what follows
then-on : (g : ℕ) (gs : Groups) (t : Standing) (old mid : List Inside) (m : Machine) (s : Step) (first : List Step) → mid ≡ old ++ part gs g s.moved.inside → Reaches g gs t mid s.after first → Reaches g gs t old m (s ∷ first)
then-on g gs t old mid m s first h1 h2 = grind (arith, nat_tests, append_assoc)

-- an input's steps, whatever they are
abbrev InputGoal : ℕ → Groups → ℕ → ℕ → Input → List Input → Machine → Standing → List Inside → List Step → Type 0
InputGoal g gs until now i inputs m t old steps = Along Known m (steps ++ steps_from (after_steps m steps) inputs) → IsSoundMachine (after_steps m (steps ++ steps_from (after_steps m steps) inputs)) → ((q : ℕ) → groups_from (all_records i m steps inputs) t.groups q ≡ gs q) → Reaches g gs (replayed g until t (all_records i m steps inputs)) old m (within (until - now) (steps ++ steps_from (after_steps m steps) inputs))

-- none
none-goes : (g : ℕ) (gs : Groups) (until now : ℕ) (i : Input) (inputs : List Input) (m : Machine) (t : Standing) (h : Stood g gs now t m) → t.is_ended ≡ true → (is_booted m ≡ false → t.owed ≡ 0) → now ≤ until → Goes g gs until inputs → InputGoal g gs until now i inputs m t h.own.inside []
none-goes g gs until now i inputs m t h h1 h2 h3 h4 = grind (arith, nat_tests, none-recorded, rest-before)

-- one from outside
comes-goes : (g : ℕ) (gs : Groups) (until now : ℕ) (i : Input) (inputs : List Input) (m : Machine) (t : Standing) (h : Stood g gs now t m) → t.is_ended ≡ true → (is_booted m ≡ false → t.owed ≡ 0) → now ≤ until → Goes g gs until inputs → (s : Step) (r : Record) → input_records i (s ∷ []) ≡ r ∷ [] → IsOutside m s r → InputGoal g gs until now i inputs m t h.own.inside (s ∷ [])
comes-goes g gs until now i inputs m t h ended idle early go s r told out known sound final =
    let t' : Standing = record t { events = t.events + 1 } in
    let later = joint-later g h.owner h.owner gs m.events (m.events + 1) m.bodies h.own.bodies (λ k l. refl) (omega arith) h.joint in
    let there = subst (λ (w : Bodies). Joint g h.owner gs s.after.events w h.own.bodies) (sym out.bodies) (subst (λ (e : ℕ). Joint g h.owner gs e m.bodies h.own.bodies) (sym out.events) later) in
    let h' : Stood g gs now t' s.after = record { owner = h.owner; own = h.own; settled = h.settled; joint = there; events = ap (λ (k : ℕ). k + 1) h.events ∙ sym out.events; moment = h.moment } in
    let groups : t.groups ≡ groups_from (input_records i (s ∷ [])) t.groups = sym (ap (λ (rs : List Record). groups_from rs t.groups) told ∙ out.groups t.groups) in
    let b = rest-before g gs t t' m i (s ∷ []) inputs groups ended (λ e. idle (sym out.booted ∙ e)) known sound final in
    let rest = go now t' s.after h' b early in
    let first = within (until - now) (steps_from s.after inputs) in
    let all = then-on g gs (replayed g until t' (records_from s.after inputs)) h.own.inside h.own.inside m s first (sym (ap (λ xs. h.own.inside ++ xs) (out.part gs g) ∙ append-nil h.own.inside)) rest in
    let same : within (until - now) (s ∷ steps_from s.after inputs) ≡ s ∷ first = ap (λ b. unless_reached b (until - now) (λ left. s ∷ within left (steps_from s.after inputs))) out.uncounted in
    subst (λ (rs : List Record). Reaches g gs (replayed g until t (rs ++ records_from s.after inputs)) h.own.inside m (within (until - now) (s ∷ steps_from s.after inputs))) (sym told)
    (subst (λ (x : Standing). Reaches g gs (replayed g until x (records_from s.after inputs)) h.own.inside m (within (until - now) (s ∷ steps_from s.after inputs))) (sym (out.stands g until t))
    (subst (λ (xs : List Step). Reaches g gs (replayed g until t' (records_from s.after inputs)) h.own.inside m xs) (sym same) all))

-- the boot
boot-goes : KeepsLengths → (g : ℕ) (gs : Groups) (until now : ℕ) (i : Input) (inputs : List Input) (m : Machine) (t : Standing) (h : Stood g gs now t m) → t.is_ended ≡ true → (is_booted m ≡ false → t.owed ≡ 0) → now ≤ until → Goes g gs until inputs → (path : List ℕ) (file : ℕ) (held : List TaggedByte) → input_records i (boot_step m path file held ∷ []) ≡ entry.Boot path (given held) ∷ [] → is_booted m ≡ false → is_image (values held) ≡ true → InputGoal g gs until now i inputs m t h.own.inside (boot_step m path file held ∷ [])
boot-goes keeps g gs until now i inputs m t h ended idle early go path file held told first image known sound final =
    let r = entry.Boot path (given held) in
    let s = boot_step m path file held in
    let rest_records = records_from s.after inputs in
    let t' = after_boot g r t in
    let sound' = sound-first s.after (steps_from s.after inputs) known.1 sound in
    let number : 1 < next s.after = live-number s.after.kernel 1 (sym (sound'.bodies 1) ∙ boot-lives m.events (values held) m.bodies) in
    let one : gs 1 ≡ Some 1 = sym (final 1) ∙ (ap (λ (rs : List Record). groups_from (rs ++ rest_records) t.groups 1) told ∙ (later-groups s.after inputs (changed t.groups 1 (Some 1)) 1 known.1 number ∙ changed-same t.groups 1 (Some 1))) in
    let mine = is_number g (gs 1) in
    let own' = boot_own mine m.events r (values held) h.own in
    let made : made_if (t.is_ended && (g == 1)) t.made (boots t.events r) ≡ Makes own' =
    ap (λ (b : Bool). made_if (b && (g == 1)) t.made (boots t.events r)) ended
    ∙ (ap₂ (λ (x : Made) (e : ℕ). made_if (g == 1) x (boots e r)) (made-settled h.own t (idle first) h.settled) h.events
    ∙ boot-made g m.events path (given held) h.own gs one image) in
    let joint = boot-joint keeps g m.events h.owner gs (values held) m.bodies h.own.bodies image h.joint in
    let joint' = subst (λ (b : Bodies). JointAt g (changed h.owner m.events (Private 1)) gs s.after b) (sym (boot-own-bodies mine m.events r (values held) h.own)) joint in
    let h' : Stood g gs now t' s.after = record {
      owner = changed h.owner m.events (Private 1);
      own = own';
      settled = λ event end_event. ap₂ (λ (x : Made) (k : ℕ). and_then x (alone.plains (record { pid = t.pid; ran = t.ran; event = event; end_event = end_event }) 0 k)) made (idle first);
      joint = joint';
      events = ap (λ (k : ℕ). k + 1) h.events;
      moment = h.moment;
    } in
    let groups : t'.groups ≡ groups_from (input_records i (s ∷ [])) t.groups = sym (ap (λ (rs : List Record). groups_from rs t.groups) told) in
    let b = rest-before g gs t t' m i (s ∷ []) inputs groups ended (λ e. idle first) known sound final in
    let rest = go now t' s.after h' b early in
    let all = then-on g gs (replayed g until t' rest_records) h.own.inside own'.inside m s (within (until - now) (steps_from s.after inputs)) (boot-own-inside mine m.events r (values held) h.own ∙ ap (λ xs. h.own.inside ++ xs) (sym (append-nil (own_part mine (boot_inside m.events r (values held)))))) rest in
    subst (λ (rs : List Record). Reaches g gs (replayed g until t (rs ++ rest_records)) h.own.inside m (within (until - now) (s ∷ steps_from s.after inputs))) (sym told) all

-- behind steps that are all within the moment
go-on : (g : ℕ) (gs : Groups) (until now : ℕ) (inputs : List Input) (heard : List Inside) (m : Machine) (S : List Step) (t : Standing) → Goes g gs until inputs → (e : Ends g gs until (now + count S) (heard ++ parts gs g (within (until - now) S)) t (after_steps m (within (until - now) S)) (after_steps m S)) → Before g gs t (after_steps m S) inputs → now ≤ until → count S ≤ until - now → Reaches g gs (replayed g until t (records_from (after_steps m S) inputs)) heard m (within (until - now) (S ++ steps_from (after_steps m S) inputs))
go-on g gs until now inputs heard m S t go e b early le =
    let c = count S in
    let m' = after_steps m S in
    let left = until - (now + c) in
    let over : c + left ≡ until - now = omega arith in
    let all : within (until - now) S ≡ S = ap₂ (λ (i : ℕ) (xs : List Step). within i xs) (sym over) (sym (append-nil S)) ∙ (within-over left S [] ∙ append-nil S) in
    let more : within (until - now) (S ++ steps_from m' inputs) ≡ S ++ within left (steps_from m' inputs) = ap (λ (i : ℕ). within i (S ++ steps_from m' inputs)) (sym over) ∙ within-over left S (steps_from m' inputs) in
    let stood : Stood g gs (now + c) t m' = record { owner = e.owner; own = e.own; settled = e.settled; joint = subst (λ (xs : List Step). JointAt g e.owner gs (after_steps m xs) e.own.bodies) all e.joint; events = e.events; moment = e.moment } in
    let next = go (now + c) t m' stood b (omega arith) in
    let first = within left (steps_from m' inputs) in
    subst (λ (xs : List Step). Reaches g gs (replayed g until t (records_from m' inputs)) heard m xs) (sym more)
    (record {
      owner = next.owner;
      own = next.own;
      is = next.is;
      joint = subst (λ (x : Machine). JointAt g next.owner gs x next.own.bodies) (sym (after-append m S first)) next.joint;
      inside = heard-on gs g heard e.own.inside next.own.inside S first (e.inside ∙ ap (λ xs. heard ++ parts gs g xs) all) next.inside;
    })

-- a turn that the moment cuts
cut-off : (g : ℕ) (gs : Groups) (until now : ℕ) (inputs : List Input) (heard : List Inside) (m : Machine) (S : List Step) (t : Standing) → (e : Ends g gs until (now + count S) (heard ++ parts gs g (within (until - now) S)) t (after_steps m (within (until - now) S)) (after_steps m S)) → now ≤ until → until - now < count S → Reaches g gs (replayed g until t (records_from (after_steps m S) inputs)) heard m (within (until - now) (S ++ steps_from (after_steps m S) inputs))
cut-off g gs until now inputs heard m S t e early gt =
    let at = e.moment in
    let over : Over until e.own t = record { late = omega arith; ended = e.ended ∙ lt-leb (now + count S) until (omega arith); settled = e.settled } in
    let later = inputs-later g until e.own inputs (after_steps m S) t over in
    subst (λ (xs : List Step). Reaches g gs (replayed g until t (records_from (after_steps m S) inputs)) heard m xs) (sym (within-first (until - now) S (steps_from (after_steps m S) inputs) gt))
    (record { owner = e.owner; own = e.own; is = later; joint = e.joint; inside = e.inside })

-- the records of a slice that takes steps
slice-told : (pid : ℕ) (s : Step) (steps : List Step) → slice_records pid (s ∷ steps) ≡ entry.Slice pid (count (s ∷ steps)) ∷ told (s ∷ steps)
slice-told pid s steps = ap₂ (λ (k : ℕ) (rs : List Record). entry.Slice pid k ∷ rs) (instructions-count (s ∷ steps)) (records-told (s ∷ steps))

-- numbers that are given keep their groups over an input and all that follows
all-groups : (i : Input) (m : Machine) (steps : List Step) (inputs : List Input) (x : Groups) (q : ℕ) → Along Known m (steps ++ steps_from (after_steps m steps) inputs) → q < next m → groups_from (all_records i m steps inputs) x q ≡ x q
all-groups i m steps inputs x q h1 h2 = grind (arith, nat_tests, along-first, along-numbers, groups-append, later-groups, along-rest, input-groups, told-groups)

-- a turn
some-goes : KeepsLengths → (g : ℕ) (gs : Groups) (until now : ℕ) (i : Input) (inputs : List Input) (m : Machine) (t : Standing) (h : Stood g gs now t m) → now ≤ until → Goes g gs until inputs → (pid count' : ℕ) (reply : Option Answered) (v : View) → ((steps : List Step) → input_records i steps ≡ slice_records pid steps) → seen m.bodies pid ≡ Some v → (s : Step) (ss : List Step) → steps_of (turn count' pid reply m) ≡ s ∷ ss → InputGoal g gs until now i inputs m t h.own.inside (s ∷ ss)
some-goes keeps g gs until now i inputs m t h early go pid count' reply v slices sees s ss is known sound final =
    let S : List Step = s ∷ ss in
    let c = count S in
    let m' = after_steps m S in
    let T = steps_of (turn count' pid reply m) in
    let sound_now = sound-first m (S ++ steps_from m' inputs) known sound in
    let number = seen-number m pid v sound_now sees in
    let same : t.groups pid ≡ gs pid = sym (all-groups i m S inputs t.groups pid known number) ∙ final pid in
    let rest_known = along-rest Known m S (steps_from m' inputs) known in
    let below : (q : ℕ) → q < next m' → groups_from (told S) t.groups q ≡ gs q = λ q l.
    sym (later-groups m' inputs (groups_from (told S) t.groups) q rest_known l)
    ∙ (ap (λ (x : Groups). groups_from (records_from m' inputs) x q) (sym (input-groups i S t.groups))
    ∙ (ap (λ (x : Groups). x q) (sym (groups-append (input_records i S) (records_from m' inputs) t.groups)) ∙ final q)) in
    let known_turn = subst (λ (xs : List Step). Along Known m xs) (sym is) (along-first Known m S (steps_from m' inputs) known) in
    let below_turn = subst (λ (xs : List Step). (q : ℕ) → q < next (after_steps m xs) → groups_from (told xs) t.groups q ≡ gs q) (sym is) below in
    let ends = turn-ends keeps g gs until now count' pid reply t m h early same known_turn below_turn in
    let ends' = subst (λ (xs : List Step). Ends g gs until (now + count xs) (h.own.inside ++ parts gs g (within (until - now) xs)) (replayed g until (after_slice g until pid (count xs) t) (told xs)) (after_steps m (within (until - now) xs)) (after_steps m xs)) is ends in
    let t1 = replayed g until (after_slice g until pid c t) (told S) in
    let groups : t1.groups ≡ groups_from (input_records i S) t.groups = replayed-groups g until (told S) (after_slice g until pid c t) ∙ sym (input-groups i S t.groups) in
    let recorded : input_records i S ≡ entry.Slice pid c ∷ told S = slices S ∙ slice-told pid s ss in
    let booted = stays-booted m pid v S sound_now sees (along-first Known m S (steps_from m' inputs) known) in
    subst (λ (rs : List Record). Reaches g gs (replayed g until t (rs ++ records_from m' inputs)) h.own.inside m (within (until - now) (S ++ steps_from m' inputs))) (sym recorded)
    (subst (λ (x : Standing). Reaches g gs x h.own.inside m (within (until - now) (S ++ steps_from m' inputs))) (sym (replayed-append g until (told S) (records_from m' inputs) (after_slice g until pid c t)))
    (by_order ends' groups booted (nat_le c (until - now)) refl))
  where
    by_order : (e : Ends g gs until (now + count (s ∷ ss)) (h.own.inside ++ parts gs g (within (until - now) (s ∷ ss))) (replayed g until (after_slice g until pid (count (s ∷ ss)) t) (told (s ∷ ss))) (after_steps m (within (until - now) (s ∷ ss))) (after_steps m (s ∷ ss))) → (replayed g until (after_slice g until pid (count (s ∷ ss)) t) (told (s ∷ ss))).groups ≡ groups_from (input_records i (s ∷ ss)) t.groups → is_booted (after_steps m (s ∷ ss)) ≡ true → (b : Bool) → nat_le (count (s ∷ ss)) (until - now) ≡ b → Reaches g gs (replayed g until (replayed g until (after_slice g until pid (count (s ∷ ss)) t) (told (s ∷ ss))) (records_from (after_steps m (s ∷ ss)) inputs)) h.own.inside m (within (until - now) ((s ∷ ss) ++ steps_from (after_steps m (s ∷ ss)) inputs))
    by_order e groups booted true k =
        let le = leb-true (count (s ∷ ss)) (until - now) k in
        let t1 = replayed g until (after_slice g until pid (count (s ∷ ss)) t) (told (s ∷ ss)) in
        let b = rest-before g gs t t1 m i (s ∷ ss) inputs groups (e.ended ∙ le-leb (now + count (s ∷ ss)) until (omega arith)) (λ f. absurd (let no : true ≡ false = sym booted ∙ f in cc)) known sound final in
        go-on g gs until now inputs h.own.inside m (s ∷ ss) t1 go e b early le
    by_order e groups booted false k =
        cut-off g gs until now inputs h.own.inside m (s ∷ ss) (replayed g until (after_slice g until pid (count (s ∷ ss)) t) (told (s ∷ ss))) e early (leb-false (count (s ∷ ss)) (until - now) k)

inputs-reach : KeepsLengths → (g : ℕ) (gs : Groups) (until : ℕ) (inputs : List Input) → Goes g gs until inputs
inputs-reach keeps g gs until [] now t m h b early = record { owner = h.owner; own = h.own; is = h.settled; joint = h.joint; inside = sym (append-nil h.own.inside) }
inputs-reach keeps g gs until (i ∷ inputs) now t m h b early = by_input (takes m i) (inputs-reach keeps g gs until inputs) b.known b.sound b.final
  where
    turn-goes : (pid count' : ℕ) (reply : Option Answered) (v : View) → ((steps : List Step) → input_records i steps ≡ slice_records pid steps) → seen m.bodies pid ≡ Some v → Goes g gs until inputs → (S : List Step) → steps_of (turn count' pid reply m) ≡ S → InputGoal g gs until now i inputs m t h.own.inside S
    turn-goes pid count' reply v slices sees go [] is = none-goes g gs until now i inputs m t h b.ended b.idle early go
    turn-goes pid count' reply v slices sees go (s ∷ ss) is = some-goes keeps g gs until now i inputs m t h early go pid count' reply v slices sees s ss is

    by_input : Takes m i → Goes g gs until inputs → InputGoal g gs until now i inputs m t h.own.inside (input_steps m i)
    by_input (Rests is) go = subst (InputGoal g gs until now i inputs m t h.own.inside) (sym is) (none-goes g gs until now i inputs m t h b.ended b.idle early go)
    by_input (Comes s r is told out) go =
        subst (InputGoal g gs until now i inputs m t h.own.inside) (sym is) (comes-goes g gs until now i inputs m t h b.ended b.idle early go s r (told (s ∷ []) ∙ out.records) out)
    by_input (Begins path file held is told first image) go =
        subst (InputGoal g gs until now i inputs m t h.own.inside) (sym is) (boot-goes keeps g gs until now i inputs m t h b.ended b.idle early go path file held (told (boot_step m path file held ∷ [])) first image)
    by_input (Turns pid count' reply v is told sees) go = turn-goes pid count' reply v told sees go (input_steps m i) (sym is)

-- at first there is nobody
nobody-joint : (g : ℕ) (owner : ℕ → Owner) (gs : Groups) → Joint g owner gs 0 nobody nobody
nobody-joint g owner gs = grind (arith, nat_tests, nobody-at)

first-stood : (g : ℕ) (gs : Groups) → Stood g gs 0 alone.at_first at_first
first-stood g gs = record { owner = λ k. Private 0; own = nothing_own; settled = λ event end_event. refl; joint = nobody-joint g (λ k. Private 0) gs; events = refl; moment = refl }

pub passes : KeepsLengths → StepsTell → EachRunIsSound → EachRunAppends → GroupsPassThrough
unfolding first-stood
passes keeps tell sound append inputs g moment few =
    let gs = group_of (records inputs) in
    let all = run inputs in
    let sounds = sound inputs in
    let known = along-known at_first all (tell inputs few) sounds.along sounds.numbers in
    let there : machine_after inputs ≡ after_steps at_first all = (append at_first inputs []).reached in
    let b : Before g gs alone.at_first at_first inputs = record { ended = refl; idle = λ e. refl; known = known; sound = subst IsSoundMachine there sounds.last; final = λ q. refl } in
    let e = inputs-reach keeps g gs moment inputs 0 alone.at_first at_first (first-stood g gs) b (omega arith) in
    let zero_off : moment - 0 ≡ moment = omega arith in
    let j = subst (λ (k : ℕ). JointAt g e.owner gs (after_steps at_first (within k all)) e.own.bodies) zero_off e.joint in
    let t = replayed g moment alone.at_first (records inputs) in
    record {
      own = e.own;
      made = e.is t.events t.end_event;
      whole = record { bodies = j.agrees.bodies; views = λ p of. same-seen g gs (state_at inputs moment).bodies e.own.bodies p j.agrees of };
      heard = e.inside ∙ ap (λ (k : ℕ). parts gs g (within k all)) zero_off;
    }
