-- All steps of a run up to a moment fit.
use Rattle.std.proofs.Common.{◌≡◌, ◌⊎◌, inl, inr, ℕ, zero, suc, ◌+◌, ◌<◌, ◌≤◌, List, [], ◌∷◌, length, map, filter, refl, ap, ◌∙◌, sym, subst, Option, Some, None, is_some, slice_get, Bool, true, false, cond, arith, ne_eqb, ltb-true, ltb-false}
use Rattle.std.proofs.lemmas.Bool.Decides.{nat_tests}
use Rattle.std.proofs.lemmas.Option.{slice_get_past}
use Rattle.std.specs.List.{cons_option}
use Rattle.arn_base.specs.declared.records.Record.{Record}
use Rattle.arn_base.specs.declared.records.Record.TheVariants as entry
use Rattle.rv64_model.specs.Carries.{Table}
use Rattle.parts_model.specs.Processes as table
use Rattle.parts_model.specs.Processes.{Processes}
use Rattle.acts_model.specs.Acts.{Act, Forks, Founds}
use Rattle.acts_model.specs.Bodies.{Body, body_at}
use Rattle.acts_model.specs.Moved.{Event, is_instruction}
use Rattle.acts_model.specs.Records.{Child, is_event}
use Rattle.arn_model.specs.Kernel.{Kernel, Machine}
use Rattle.arn_model.specs.Laws.{KeepsNumbers}
use Rattle.arn_model.specs.Run.{within, unless_reached, events_of}
use Rattle.arn_model.specs.Sound.{IsSoundMachine}
use Rattle.arn_model.specs.Step.{Step}
use Rattle.arn_model.specs.Tells as tells
use Rattle.arn_model.specs.Tells.{lives, StepTells, Runs, Happens, Boots, Adds, Types, Unplugs, Along}
use Rattle.arn_model.specs.Turn.{after_steps}
use Rattle.history_model.specs.Groups.{Groups, group_made, groups_told, groups_from}
use Rattle.lineage_model.specs.Flow.{At}
use Rattle.lineage_model.specs.Joined.{is_source}
use Rattle.lineage_model.specs.Tracking.{EventByte, Tracked, alone_after}
use Rattle.log_model.specs.Records.{event_records}
use Rattle.lineage_laws.proofs.Central.{every}
use Rattle.lineage_laws.proofs.Stored.{next, count, FitsBy, Chain}
use Rattle.lineage_laws.proofs.Joined.{this_or_later, every-stable}
use Rattle.lineage_laws.proofs.Groups.{AllFit, moves}
use Rattle.lineage_laws.proofs.Told.{Says, SaysFounds, SaysForks, SaysOther, entry-says}
use Rattle.lineage_laws.proofs.Origins.{origins}
use Rattle.lineage_laws.proofs.Holding.{BodiesFit}
use Rattle.lineage_laws.proofs.Fits.{memories, makers, groups_by, StepIs, IsThere, Around, step-is}

-- the groups after steps
abbrev pub groups_along : List Step → Groups → Groups
groups_along [] groups = groups
groups_along (s ∷ steps) groups = groups_along steps (groups_by s.moved.inside.event groups)

-- a step gives no group to a process that was made before
told-settled : (m : Machine) (pid : ℕ) (e : Record) (act : Act) (groups : Groups) (q : ℕ) → q ≤ length m.kernel.processes → ((child : ℕ) → ((act ≡ Founds child) ⊎ (act ≡ Forks child)) → child ≡ length m.kernel.processes + 1) → Says pid e act → groups_told e groups q ≡ groups q
told-settled m pid e act groups q l new (SaysFounds child start is called made) =
    let n = new child (inl made) in
    ap (λ (x : Record). groups_told x groups q) is
    ∙ (ap (λ (c : Option Child). group_made pid c groups q) called
    ∙ ap (λ (b : Bool). cond b (Some child) (groups q)) (ne_eqb q child (λ k. omega arith)))
told-settled m pid e act groups q l new (SaysForks child more is called made) =
    let n = new child (inr made) in
    ap (λ (x : Record). groups_told x groups q) is
    ∙ (ap (λ (c : Option Child). group_made pid c groups q) called
    ∙ ap (λ (b : Bool). cond b (groups pid) (groups q)) (ne_eqb q child (λ k. omega arith)))
told-settled m pid e act groups q l new (SaysOther same none own quiet) = ap (λ (f : Groups). f q) (same groups)

step-settled : (m : Machine) (s : Step) (groups : Groups) (q : ℕ) → StepTells m s → q ≤ length m.kernel.processes → groups_by s.moved.inside.event groups q ≡ groups q
step-settled m s groups q (Runs pid v instr cpu ws e n is) l = ap (λ (s : Step). groups_by s.moved.inside.event groups q) is
step-settled m s groups q (Happens pid v d e t is) l =
    ap (λ (s : Step). groups_by s.moved.inside.event groups q) is
    ∙ told-settled m pid e d.act groups q l new (entry-says v.body.cpu pid e d.act t.inner t.process t.told)
  where
    new : (child : ℕ) → ((d.act ≡ Founds child) ⊎ (d.act ≡ Forks child)) → child ≡ length m.kernel.processes + 1
    new child (inl made) = (subst (λ (x : Act). tells.ForksRightly (table.next_process m.kernel.processes) v x (tells.extra_in e)) made t.forks).0
    new child (inr made) = (subst (λ (x : Act). tells.ForksRightly (table.next_process m.kernel.processes) v x (tells.extra_in e)) made t.forks).0
step-settled m s groups q (Boots path file held first found bytes image is) l =
    let none = ltb-false 0 (length m.kernel.processes) first in
    ap (λ (s : Step). groups_by s.moved.inside.event groups q) is
    ∙ ap (λ (b : Bool). cond b (Some 1) (groups q)) (ne_eqb q 1 (λ k. omega arith))
step-settled m s groups q (Adds path bytes e is) l = ap (λ (s : Step). groups_by s.moved.inside.event groups q) is
step-settled m s groups q (Types bytes e is) l = ap (λ (s : Step). groups_by s.moved.inside.event groups q) is
step-settled m s groups q (Unplugs device e is) l = ap (λ (s : Step). groups_by s.moved.inside.event groups q) is

along-settled : (m : Machine) (steps : List Step) (groups : Groups) (q : ℕ) → Along StepTells m steps → Along KeepsNumbers m steps → q ≤ length m.kernel.processes → groups_along steps groups q ≡ groups q
along-settled m [] groups q t k l = refl
along-settled m (s ∷ steps) groups q t k l =
    let grows : length m.kernel.processes ≤ length s.after.kernel.processes = k.0 in
    along-settled s.after steps (groups_by s.moved.inside.event groups) q t.1 k.1 (omega arith) ∙ step-settled m s groups q t.0 l

-- who lives has been made
nth-below : (ps : Processes) (i : ℕ) → is_some (table.live_process ps (suc i)) ≡ true → i < length ps
nth-below ps i h1 = grind (arith, nat_tests, ltb-false, ltb-true, slice_get_past)

alive-below : (k : Kernel) (pid : ℕ) → lives k pid ≡ true → pid ≤ length k.processes
alive-below k zero h = omega arith
alive-below k (suc i) h = let l = nth-below k.processes i h in omega arith

body-below : (m : Machine) → IsSoundMachine m → (q : ℕ) (x : Body) → body_at m.bodies q ≡ Some x → q ≤ length m.kernel.processes
body-below m sound q x e = alive-below m.kernel q (sym (sound.bodies q) ∙ ap (λ (o : Option Body). is_some o) e)

-- the records of the steps' events are found by their numbers
abbrev AreFound : (ℕ → Option Record) → ℕ → List Record → Type 0
AreFound event_at n entries = (i : ℕ) → event_at (n + i) ≡ slice_get entries i

abbrev entries_of : Option Event → List Event → List Record
entries_of o events = map (λ event. event.entry) (cons_option o events)

found-here : (event_at : ℕ → Option Record) (n : ℕ) (o : Option Event) (events : List Event) → AreFound event_at n (entries_of o events) → IsThere event_at n o
found-here event_at n None events h = tt
found-here event_at n (Some event) events h = ap event_at (let e : n ≡ n + 0 = omega arith in e) ∙ h 0

found-next : (event_at : ℕ → Option Record) (n : ℕ) (o : Option Event) (events : List Event) → AreFound event_at n (entries_of o events) → AreFound event_at (next n o) (map (λ event. event.entry) events)
found-next event_at n None events h = h
found-next event_at n (Some event) events h = λ i. ap event_at (let e : suc n + i ≡ n + suc i = omega arith in e) ∙ h (suc i)

-- the machine after each step is sound too
after-sound : (m : Machine) (s : Step) (steps : List Step) → Along (λ m s. IsSoundMachine m) m (s ∷ steps) → IsSoundMachine (after_steps m (s ∷ steps)) → IsSoundMachine s.after
after-sound m s [] h last = last
after-sound m s (r ∷ steps) h last = h.1.0

pub steps-are : (event_at : ℕ → Option Record) (gs groups : Groups) (m : Machine) (steps : List Step) → Along StepTells m steps → Along KeepsNumbers m steps → Along (λ m s. IsSoundMachine m) m steps → IsSoundMachine (after_steps m steps) → BodiesFit gs (memories event_at gs) (length m.kernel.processes) m.bodies → ((q : ℕ) → gs q ≡ groups_along steps groups q) → AreFound event_at m.events (event_records steps) → Along (StepIs event_at gs) m steps
steps-are event_at gs groups m [] t k sound last bodies is found = tt
steps-are event_at gs groups m (s ∷ steps) t k sound last bodies is found =
    let o = s.moved.inside.event in
    let events = events_of steps in
    let around : Around event_at gs groups m s =
    record {
      numbers = k.0;
      before = body-below m sound.0;
      later = body-below s.after (after-sound m s steps sound last);
      bodies = bodies;
      there = found-here event_at m.events o events found;
      settled = λ q l. is q ∙ along-settled m (s ∷ steps) groups q t k l;
      settles = λ q l. is q ∙ along-settled s.after steps (groups_by o groups) q t.1 k.1 l;
    } in
    let now = step-is event_at gs groups m s t.0 around in (
      now,
      steps-are event_at gs (groups_by o groups) s.after steps t.1 k.1 sound.1 last now.bodies is
          (subst (λ (n : ℕ). AreFound event_at n (event_records steps)) (sym now.events) (found-next event_at m.events o events found)),
    )

-- so do the steps up to a moment
pub along-within : (P : Machine → Step → Type 0) (m : Machine) (steps : List Step) (moment : ℕ) → Along P m steps → Along P m (within moment steps)
along-within P m [] moment h = tt
along-within P m (s ∷ steps) moment h = by_test (is_instruction s.moved.inside) moment (λ left. along-within P s.after steps left h.1)
  where
    by_test : (b : Bool) (moment : ℕ) → ((left : ℕ) → Along P s.after (within left steps)) → Along P m (unless_reached b moment (λ left. s ∷ within left steps))
    by_test false moment rest = (h.0, rest moment)
    by_test true zero rest = tt
    by_test true (suc moment) rest = (h.0, rest moment)

-- the machine that they lead to
pub last-fits : (event_at : ℕ → Option Record) (gs : Groups) (m : Machine) (steps : List Step) → Along (StepIs event_at gs) m steps → BodiesFit gs (memories event_at gs) (length m.kernel.processes) m.bodies → BodiesFit gs (memories event_at gs) (length (after_steps m steps).kernel.processes) (after_steps m steps).bodies
last-fits event_at gs m [] h bodies = bodies
last-fits event_at gs m (s ∷ steps) h bodies = last-fits event_at gs s.after steps h.1 h.0.bodies

pub fits-all : (event_at : ℕ → Option Record) (gs : Groups) (m : Machine) (steps : List Step) → Along (StepIs event_at gs) m steps → AllFit gs (memories event_at gs) (makers event_at gs) m.events steps
fits-all event_at gs m [] h = tt
fits-all event_at gs m (s ∷ steps) h =
    (h.0.inside, subst (λ (n : ℕ). AllFit gs (memories event_at gs) (makers event_at gs) n steps) h.0.events (fits-all event_at gs s.after steps h.1))

pub chain-all : (event_at : ℕ → Option Record) (gs : Groups) (m : Machine) (steps : List Step) → Along (StepIs event_at gs) m steps → Chain event_at m.events (origins m.kernel) (moves steps) (origins (after_steps m steps).kernel)
chain-all event_at gs m [] h = λ byte. refl
chain-all event_at gs m (s ∷ steps) h =
    (origins s.after.kernel, h.0.moved, subst (λ (n : ℕ). Chain event_at n (origins s.after.kernel) (moves steps) (origins (after_steps s.after steps).kernel)) h.0.events (chain-all event_at gs s.after steps h.1))

-- an event has a group, or came from outside, or has no bytes
abbrev pub IsKnown : (ℕ → Option Record) → (ℕ → Option ℕ) → Tracked EventByte → ℕ → Type 0
IsKnown event_at maker all e = ((g : ℕ) × (maker e ≡ Some g)) ⊎ (((x : Record) → event_at e ≡ Some x → is_source x ≡ true) ⊎ ((at : At) → all.points e at ≡ []))

known-here : (event_at : ℕ → Option Record) (gs : Groups) (tab : Table) (m : Machine) (s : Step) (steps : List Step) (t : Tracked EventByte) → Along (StepIs event_at gs) m (s ∷ steps) → (event : Event) → s.moved.inside.event ≡ Some event → IsKnown event_at (makers event_at gs) (every tab (moves (s ∷ steps)) t) event.number
known-here event_at gs tab m s steps t h1 event h2 = grind (arith, nat_tests, chain-all, every, every-stable, makers, moves, next)

pub known-all : (event_at : ℕ → Option Record) (gs : Groups) (tab : Table) (m : Machine) (steps : List Step) (t : Tracked EventByte) → Along (StepIs event_at gs) m steps → (e : ℕ) → m.events ≤ e → e < count m.events (moves steps) → IsKnown event_at (makers event_at gs) (every tab (moves steps) t) e
known-all event_at gs tab m [] t h e l g = absurd (omega arith)
known-all event_at gs tab m (s ∷ steps) t h e l g = elim (this_or_later m.events s.moved.inside.event e l) [
  | inl k ↦ here k.0 k.1 k.2
  | inr k ↦ known-all event_at gs tab s.after steps (alone_after tab s.moved.inside t) h.1 e (subst (λ (n : ℕ). n ≤ e) (sym h.0.events) k) (subst (λ (n : ℕ). e < count n (moves steps)) (sym h.0.events) g)
]
  where
    here : (event : Event) → s.moved.inside.event ≡ Some event → e ≡ m.events → IsKnown event_at (makers event_at gs) (every tab (moves (s ∷ steps)) t) e
    here event is same =
        let fits = subst (FitsBy event_at m.events (origins m.kernel) (origins s.after.kernel) s.moved) is h.0.moved in
        subst (IsKnown event_at (makers event_at gs) (every tab (moves (s ∷ steps)) t)) (fits.number ∙ sym same) (known-here event_at gs tab m s steps t h event is)

-- how many events the steps are
count-more : (n : ℕ) (o : Option Event) (events : List Event) → next n o + length events ≡ n + length (cons_option o events)
count-more n None events = refl
count-more n (Some event) events = omega arith

pub count-is : (n : ℕ) (steps : List Step) → count n (moves steps) ≡ n + length (events_of steps)
count-is n [] = omega arith
count-is n (s ∷ steps) = count-is (next n s.moved.inside.event) steps ∙ count-more n s.moved.inside.event (events_of steps)

more-events : (o : Option Event) (xs ys : List Event) → length xs ≤ length ys → length (cons_option o xs) ≤ length (cons_option o ys)
more-events None xs ys h = h
more-events (Some event) xs ys h = omega arith

-- no more than all
pub within-events : (steps : List Step) (moment : ℕ) → length (events_of (within moment steps)) ≤ length (events_of steps)
within-events [] moment = omega arith
within-events (s ∷ steps) moment = by_test (is_instruction s.moved.inside) moment (within-events steps)
  where
    by_test : (b : Bool) (moment : ℕ) → ((left : ℕ) → length (events_of (within left steps)) ≤ length (events_of steps)) → length (events_of (unless_reached b moment (λ left. s ∷ within left steps))) ≤ length (events_of (s ∷ steps))
    by_test false moment rest = more-events s.moved.inside.event (events_of (within moment steps)) (events_of steps) (rest moment)
    by_test true zero rest = omega arith
    by_test true (suc moment) rest = more-events s.moved.inside.event (events_of (within moment steps)) (events_of steps) (rest moment)

-- slices give no groups
pub groups-events : (entries : List Record) (groups : Groups) → groups_from entries groups ≡ groups_from (filter is_event entries) groups
groups-events [] groups = refl
groups-events (entry.Boot name give ∷ entries) groups = groups-events entries (groups_told (entry.Boot name give) groups)
groups-events (entry.Call pid n result more ∷ entries) groups = groups-events entries (groups_told (entry.Call pid n result more) groups)
groups-events (_ ∷ entries) groups = groups-events entries groups

groups-more : (o : Option Event) (events : List Event) (groups : Groups) → groups_from (entries_of o events) groups ≡ groups_from (map (λ event. event.entry) events) (groups_by o groups)
groups-more None events groups = refl
groups-more (Some event) events groups = refl

pub groups-steps : (steps : List Step) (groups : Groups) → groups_from (event_records steps) groups ≡ groups_along steps groups
groups-steps [] groups = refl
groups-steps (s ∷ steps) groups = groups-more s.moved.inside.event (events_of steps) groups ∙ groups-steps steps (groups_by s.moved.inside.event groups)
