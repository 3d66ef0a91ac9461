-- Each step of a run fits what the lemmas on lists of steps need.
use Rattle.std.proofs.Common.{◌≡◌, ◌⊎◌, inl, inr, ℕ, ◌+◌, ◌≤◌, List, [], ◌∷◌, length, refl, ap, ◌∙◌, sym, subst, Option, Some, None, option_map, option_and_then, slice_get, Bool, true, false, ◌==◌, cond, arith, nat_lt, true≢false, eq-eqb, le-ltb}
use Rattle.std.proofs.lemmas.Bool.Decides.{nat_tests}
use Rattle.arn_base.specs.declared.machine.Cpu.{Cpu}
use Rattle.arn_base.specs.Window.{Window}
use Rattle.arn_base.specs.declared.records.Extra.TheVariants as extra
use Rattle.arn_base.specs.declared.records.Record.{Record}
use Rattle.arn_base.specs.declared.records.Record.TheVariants as entry
use Rattle.rv64_isa.specs.declared.instruction.Instr.{Instr}
use Rattle.parts_model.specs.declared.calls.TheConstants as number
use Rattle.parts_model.specs.declared.tagged.TaggedByte.{TaggedByte}
use Rattle.parts_model.specs.Files.{file_bytes}
use Rattle.parts_model.specs.Processes as table
use Rattle.parts_model.specs.Tagged.{values, given}
use Rattle.acts_model.specs.Acts.{Act, Receives, Starts, Forks, Founds, unborn, done, done_by, beginning_of}
use Rattle.acts_model.specs.Bodies.{Body, View, body_at, view, seen, put}
use Rattle.acts_model.specs.Moved.{KernelByte, FileByte, Event, Incoming}
use Rattle.acts_model.specs.Records.{Child, child_start, process_of, event_len, give_of}
use Rattle.acts_model.specs.Transfers as transfers
use Rattle.acts_model.specs.Transfers.{Transfer, Holds, holds_of, transfer}
use Rattle.arn_model.specs.Doing.{Doing}
use Rattle.arn_model.specs.Kernel.{Kernel, Machine}
use Rattle.arn_model.specs.Laws.{KeepsNumbers}
use Rattle.arn_model.specs.Run.{boot_step, file_step, typed_step, unplug_step}
use Rattle.arn_model.specs.Step.{Step, plain_step, event_step, after_act}
use Rattle.arn_model.specs.Tells as tells
use Rattle.arn_model.specs.Tells.{EventTells, StepTells, Runs, Happens, Boots, Adds, Types, Unplugs, ComesFrom}
use Rattle.history_model.specs.Alone.{begin_inside}
use Rattle.history_model.specs.Groups.{Groups, group_made, groups_told}
use Rattle.lineage_model.specs.Flow.{At, Byte, StartRegister, StartSlot, StartMemory, shown}
use Rattle.lineage_model.specs.Joined.{is_source}
use Rattle.replay_laws.specs.Heard.{begin_if, begin_by}
use Rattle.lineage_laws.proofs.Takes.{EachStart, Takes, IsStart}
use Rattle.lineage_laws.proofs.Stored.{next, IsSourced, source_shown, FitsBy}
use Rattle.lineage_laws.proofs.Homes.{Memories, actor_of}
use Rattle.lineage_laws.proofs.Groups.{BeginsIn, InsideFits}
use Rattle.lineage_laws.proofs.Told.{memory_called, memory_by, IsQuiet, Says, SaysFounds, SaysForks, SaysOther, entry-says, IsSilent, Receipt, entry-receipt}
use Rattle.lineage_laws.proofs.Origins.{origins, held-linked, receives-linked, holds-kept}
use Rattle.lineage_laws.proofs.Holding.{put-here, seen-body, HoldsIn, BodiesFit, fit-more, Makes, done-fit, founded-fit, put-fit, run-fit, act-lies, instr-lies}
use Rattle.lineage_laws.proofs.Outside.{typed-kept, file-kept, boot-kept}

-- the group of each memory, by the record of the event that made it
abbrev pub memories : (ℕ → Option Record) → Groups → Memories
memories event_at gs made = option_and_then (memory_by gs) (event_at made)

-- the group of each event
abbrev pub makers : (ℕ → Option Record) → Groups → ℕ → Option ℕ
makers event_at gs n = option_and_then gs (option_and_then process_of (event_at n))

-- the groups after a step
abbrev pub groups_by : Option Event → Groups → Groups
groups_by None groups = groups
groups_by (Some event) groups = groups_told event.entry groups

-- an event of a group, one of the outside, or one without bytes
abbrev pub Whose : (ℕ → Option ℕ) → Transfer → Option Event → Type 0
Whose maker t None = Unit {0}
Whose maker t (Some event) = ((g : ℕ) × (maker event.number ≡ Some g)) ⊎ ((is_source event.entry ≡ true) ⊎ ((at : At) → shown t at ≡ []))

-- what the lemmas need of a step of a run
pub record StepIs (event_at : ℕ → Option Record) (gs : Groups) (m : Machine) (s : Step) : Type 0 where
  pub inside : InsideFits gs (memories event_at gs) (makers event_at gs) m.events s.moved.inside.actor s.moved.inside.transfer s.moved.inside.event
  pub moved : FitsBy event_at m.events (origins m.kernel) (origins s.after.kernel) s.moved s.moved.inside.event
  pub events : s.after.events ≡ next m.events s.moved.inside.event
  pub bodies : BodiesFit gs (memories event_at gs) (length s.after.kernel.processes) s.after.bodies
  pub whose : Whose (makers event_at gs) s.moved.inside.transfer s.moved.inside.event

-- groups of processes that have been made stay
abbrev pub Settled : Groups → Groups → ℕ → Type 0
Settled gs groups most = (q : ℕ) → q ≤ most → gs q ≡ groups q

-- the record of the event is found by its number
abbrev pub IsThere : (ℕ → Option Record) → ℕ → Option Event → Type 0
IsThere event_at n None = Unit {0}
IsThere event_at n (Some event) = event_at n ≡ Some event.entry

-- what is known of a step of a run
pub record Around (event_at : ℕ → Option Record) (gs groups : Groups) (m : Machine) (s : Step) : Type 0 where
  pub numbers : KeepsNumbers m s
  pub before : (q : ℕ) (x : Body) → body_at m.bodies q ≡ Some x → q ≤ length m.kernel.processes
  pub later : (q : ℕ) (x : Body) → body_at s.after.bodies q ≡ Some x → q ≤ length s.after.kernel.processes
  pub bodies : BodiesFit gs (memories event_at gs) (length m.kernel.processes) m.bodies
  pub there : IsThere event_at m.events s.moved.inside.event
  pub settled : Settled gs groups (length m.kernel.processes)
  pub settles : Settled gs (groups_by s.moved.inside.event groups) (length s.after.kernel.processes)

-- an instruction
run-is : (event_at : ℕ → Option Record) (gs groups : Groups) (m : Machine) (pid : ℕ) (v : View) (instr : Instr) (cpu : Cpu) (ws : List Window) → seen m.bodies pid ≡ Some v → Around event_at gs groups m (plain_step m pid v instr cpu ws) → StepIs event_at gs m (plain_step m pid v instr cpu ws)
run-is event_at gs groups m pid v instr cpu ws e a =
    let ms = memories event_at gs in
    let h = a.bodies pid v.body (seen-body m.bodies pid v e) in
    record {
      inside = record { acts = refl; lies = instr-lies gs ms (length m.kernel.processes) pid v.body.cpu v.body instr h; number = tt; made = tt; begins = λ g. refl };
      moved = record { plain = refl; held = λ byte. refl };
      events = refl;
      bodies = run-fit gs ms (length m.kernel.processes) pid cpu ws v m.bodies h a.bodies;
      whose = tt;
    }

-- the acts of an event

act-actor : (pid n : ℕ) (holds : Holds) (act : Act) → actor_of (transfer pid n holds act) ≡ Some pid
act-actor pid n holds act = grind (arith, nat_tests)

quiet-makes : (gs : Groups) (ms : Memories) (most event pid : ℕ) (act : Act) → IsQuiet act → ms event ≡ gs pid → Makes gs ms most event pid act
quiet-makes gs ms most event pid act h1 h2 = grind (arith, nat_tests)

quiet-begins : (pid n : ℕ) (holds : Holds) (e : Record) (act : Act) → IsQuiet act → ((g : ℕ) → begin_by g n e ≡ []) → BeginsIn (transfer pid n holds act) (Some (record { number = n; entry = e }))
quiet-begins pid n holds e (Forks child) q h = absurd q
quiet-begins pid n holds e (Founds child) q h = absurd q
quiet-begins pid n holds e _ q h = h

-- how the child begins that a record tells
says-begins : (pid n : ℕ) (holds : Holds) (e : Record) (act : Act) → Says pid e act → BeginsIn (transfer pid n holds act) (Some (record { number = n; entry = e }))
says-begins pid n holds e act (SaysFounds child start is called made) =
    let E : Record = entry.Call pid number.FORK child (extra.Start start) in
    subst (λ (a : Act). BeginsIn (transfer pid n holds a) (Some (record { number = n; entry = e }))) (sym made) (
      start,
      refl,
      λ g.
          subst (λ (x : Record). begin_by g n x ≡ cond (child == g) (begin_inside g n x start ∷ []) []) (sym is)
          (ap (λ (c : Option Child). begin_if g child n E (child_start c)) called),
    )
says-begins pid n holds e act (SaysForks child more is called made) =
    subst (λ (a : Act). BeginsIn (transfer pid n holds a) (Some (record { number = n; entry = e }))) (sym made)
    (λ g. subst (λ (x : Record). begin_by g n x ≡ []) (sym is) (ap (λ (c : Option Child). begin_if g child n (entry.Call pid number.FORK child more) (child_start c)) called))
says-begins pid n holds e act (SaysOther same none own quiet) = quiet-begins pid n holds e act quiet (λ g. none g n)

-- a child has a body
founds-body : (m : Machine) (pid child : ℕ) (v : View) → (x : Body) × (body_at (after_act m pid v (Founds child)) child ≡ Some x)
founds-body m pid child v = (_, put-here child _ _)

forks-body : (m : Machine) (pid child : ℕ) (v : View) → seen m.bodies pid ≡ Some v → (x : Body) × (body_at (after_act m pid v (Forks child)) child ≡ Some x)
forks-body m pid child v e = (_, ap (λ (o : Option View). body_at (done_by pid m.events (Forks child) o m.bodies) child) e ∙ put-here child _ _)

some-is : (x y : ℕ) → Some x ≡ Some y → x ≡ y
some-is x y e = cc

-- what an event makes belongs to the group that acts, or to the one that starts
event-makes : (event_at : ℕ → Option Record) (gs groups : Groups) (m : Machine) (pid : ℕ) (v : View) (d : Doing) (e : Record) → EventTells m pid v d e → Around event_at gs groups m (event_step m pid v d e) → HoldsIn gs (memories event_at gs) (length m.kernel.processes) pid v.body → Says pid e d.act → Makes gs (memories event_at gs) (length d.kernel.processes) m.events pid d.act
event-makes event_at gs groups m pid v d e t a h (SaysFounds child start is called made) =
    let kid = founds-body m pid child v in
    let small : child ≤ length d.kernel.processes = a.later child kid.0 (ap (λ (x : Act). body_at (after_act m pid v x) child) made ∙ kid.1) in
    let fork = (subst (λ (x : Act). tells.ForksRightly (table.next_process m.kernel.processes) v x (tells.extra_in e)) made t.forks).0 in
    let bound = h.small in
    subst (Makes gs (memories event_at gs) (length d.kernel.processes) m.events pid) (sym made) (
      a.settles child small
          ∙ (ap (λ (x : Record). groups_told x groups child) is
          ∙ (ap (λ (c : Option Child). group_made pid c groups child) called
          ∙ ap (λ (b : Bool). cond b (Some child) (groups child)) (eq-eqb child child refl))),
      ap (option_and_then (memory_by gs)) a.there
          ∙ (ap (memory_by gs) is ∙ ap (λ (c : Option Child). memory_called gs pid child (child_start c)) called),
      small,
      λ k. let same : h.group ≡ child = some-is h.group child (sym h.is ∙ k) in absurd (omega arith),
    )
event-makes event_at gs groups m pid v d e t a h (SaysForks child more is called made) =
    let kid = forks-body m pid child v t.seen in
    let small : child ≤ length d.kernel.processes = a.later child kid.0 (ap (λ (x : Act). body_at (after_act m pid v x) child) made ∙ kid.1) in
    subst (Makes gs (memories event_at gs) (length d.kernel.processes) m.events pid) (sym made) (
      a.settles child small
          ∙ (ap (λ (x : Record). groups_told x groups child) is
          ∙ (ap (λ (c : Option Child). group_made pid c groups child) called
          ∙ (ap (λ (b : Bool). cond b (groups pid) (groups child)) (eq-eqb child child refl)
          ∙ sym (a.settled pid (a.before pid v.body (seen-body m.bodies pid v t.seen)))))),
      ap (option_and_then (memory_by gs)) a.there ∙ (ap (memory_by gs) is ∙ ap (λ (c : Option Child). memory_called gs pid child (child_start c)) called),
    )
event-makes event_at gs groups m pid v d e t a h (SaysOther same none own quiet) =
    quiet-makes gs (memories event_at gs) (length d.kernel.processes) m.events pid d.act quiet (ap (option_and_then (memory_by gs)) a.there ∙ own gs)

-- what an event receives
start-sourced : (incoming : Incoming) (e : Record) (at : At) → IsStart at → IsSourced incoming e at
start-sourced incoming e at h1 = grind (arith, nat_tests)

starts-sourced : (incoming : Incoming) (e : Record) → EachStart (IsSourced incoming e)
starts-sourced incoming e = record { registers = λ r i. start-sourced incoming e (StartRegister r i) tt; slot = λ r i. start-sourced incoming e (StartSlot r i) tt; memory = λ a. start-sourced incoming e (StartMemory a) tt }

byte-takes : (P : At → Type 0) (pid n : ℕ) (holds : Holds) (act : Act) → EachStart P → ((k : ℕ) → P (Byte k)) → Takes P (transfer pid n holds act)
byte-takes P pid n holds act h1 h2 = grind (arith, nat_tests)

silent-takes : (P : At → Type 0) (pid n : ℕ) (holds : Holds) (act : Act) → EachStart P → IsSilent act → Takes P (transfer pid n holds act)
silent-takes P pid n holds act h1 h2 = grind (arith, nat_tests)

give-sourced : (k : Kernel) (bytes : List ℕ) (e : Record) (incoming : Incoming) → tells.Receives k incoming bytes e → (give_of e ≡ None → ⊥) → is_source e ≡ false → (i : ℕ) → IsSourced incoming e (Byte i)
give-sourced k bytes e incoming h1 h2 h3 i = grind (arith, nat_tests)

device-sourced : (k : Kernel) (bytes : List ℕ) (e : Record) (at : ℕ) (given : List ℕ) (result : ℕ) (incoming : Incoming) → ComesFrom (Receives at given result) incoming → tells.Receives k incoming bytes e → give_of e ≡ None → is_source e ≡ true → (i : ℕ) → IsSourced incoming e (Byte i)
device-sourced k bytes e at given result incoming h1 h2 h3 h4 i = grind (arith, nat_tests)

some-give : {A : Type 0} (x : A) (o : Option A) → o ≡ Some x → o ≡ None → ⊥
some-give x o e f = cc

receipt-takes : (k : Kernel) (bytes : List ℕ) (pid n : ℕ) (holds : Holds) (e : Record) (act : Act) (incoming : Incoming) → ComesFrom act incoming → tells.Receives k incoming bytes e → Receipt e act → Takes (IsSourced incoming e) (transfer pid n holds act)
receipt-takes k bytes pid n holds e act incoming h1 h2 h3 = grind (arith, nat_tests, byte-takes, device-sourced, give-sourced, silent-takes, some-give, starts-sourced)

received-shown : (pid : ℕ) (place : Option transfers.Place) (len : ℕ) (at : At) → shown (transfers.Receives pid place len) at ≡ source_shown len at
received-shown pid place len at = grind (arith, nat_tests)

receipt-source : (pid n : ℕ) (holds : Holds) (e : Record) (act : Act) → Receipt e act → is_source e ≡ true → (at : At) → shown (transfer pid n holds act) at ≡ source_shown (event_len e) at
receipt-source pid n holds e act h1 h2 at = grind (arith, nat_tests, received-shown, source_shown)

-- an event of a process
maker-is : (event_at : ℕ → Option Record) (gs : Groups) (n pid : ℕ) (e : Record) → event_at n ≡ Some e → process_of e ≡ Some pid → makers event_at gs n ≡ gs pid
maker-is event_at gs n pid e there of = ap (λ (o : Option Record). option_and_then gs (option_and_then process_of o)) there ∙ ap (option_and_then gs) of

event-is : (event_at : ℕ → Option Record) (gs groups : Groups) (m : Machine) (pid : ℕ) (v : View) (d : Doing) (e : Record) → EventTells m pid v d e → Around event_at gs groups m (event_step m pid v d e) → StepIs event_at gs m (event_step m pid v d e)
event-is event_at gs groups m pid v d e t a =
    let ms = memories event_at gs in
    let most = length d.kernel.processes in
    let old = a.bodies pid v.body (seen-body m.bodies pid v t.seen) in
    let says = entry-says v.body.cpu pid e d.act t.inner t.process t.told in
    let receipt = entry-receipt v.body.cpu e d.act t.inner t.told in
    let makes = event-makes event_at gs groups m pid v d e t a old says in
    let more = fit-more gs ms (length m.kernel.processes) most m.bodies a.numbers a.bodies in
    let h = more pid v.body (seen-body m.bodies pid v t.seen) in
    let holds = holds_of v.body in
    let maker = maker-is event_at gs m.events pid e a.there t.process in
    record {
      inside =
          record {
            acts = sym (act-actor pid m.events holds d.act);
            lies = act-lies gs ms most m.events pid v.body d.act h makes;
            number = refl;
            made = maker ∙ sym (ap (option_and_then gs) (act-actor pid m.events holds d.act));
            begins = says-begins pid m.events holds e d.act says;
          };
      moved =
          record {
            number = refl;
            there = a.there;
            linked = receives-linked m.kernel d.incoming d.bytes e t.receives;
            takes = receipt-takes m.kernel d.bytes pid m.events holds e d.act d.incoming t.comes t.receives receipt;
            source = receipt-source pid m.events holds e d.act receipt;
            kept = holds-kept m.kernel m.events d.bytes d.outgoing d.kernel t.spans t.holds;
          };
      events = (omega arith);
      bodies = founded-fit gs ms most m.events pid d.act (beginning_of v) (done pid m.events d.act m.bodies) makes (done-fit gs ms most m.events pid d.act m.bodies makes more);
      whose = inl (old.group, maker ∙ old.is);
    }

-- the boot
boot-body : (m : Machine) (file : List ℕ) → (x : Body) × (body_at (done 1 m.events (Starts file 0 0) (put 1 (unborn m.events) m.bodies)) 1 ≡ Some x)
boot-body m file =
    let b = put 1 (unborn m.events) m.bodies in
    (_, ap (λ (o : Option View). body_at (done_by 1 m.events (Starts file 0 0) o b) 1) (ap (option_map (view b)) (put-here 1 (unborn m.events) m.bodies)) ∙ put-here 1 _ b)

boot-is : (event_at : ℕ → Option Record) (gs groups : Groups) (m : Machine) (path : List ℕ) (file : ℕ) (held : List TaggedByte) → nat_lt 0 (length m.kernel.processes) ≡ false → file_bytes m.kernel.files file ≡ Some held → Around event_at gs groups m (boot_step m path file held) → StepIs event_at gs m (boot_step m path file held)
boot-is event_at gs groups m path file held first there a =
    let ms = memories event_at gs in
    let most = length (boot_step m path file held).after.kernel.processes in
    let act = Starts (values held) 0 0 in
    let born = boot-body m (values held) in
    let small = a.later 1 born.0 born.1 in
    let one : gs 1 ≡ Some 1 = a.settles 1 small in
    let made : ms m.events ≡ gs 1 = ap (option_and_then (memory_by gs)) a.there in
    let maker : makers event_at gs m.events ≡ gs 1 = maker-is event_at gs m.events 1 (entry.Boot path (given held)) a.there refl in
    let h : HoldsIn gs ms most 1 (unborn m.events).body = record { group = 1; is = one; small = small; window = made; segment = λ k e. absurd (cc) } in
    let more = fit-more gs ms (length m.kernel.processes) most m.bodies a.numbers a.bodies in
    record {
      inside =
          record {
            acts = refl;
            lies = act-lies gs ms most m.events 1 (unborn m.events).body act h made;
            number = refl;
            made = maker;
            begins = λ g. refl;
          };
      moved =
          record {
            number = refl;
            there = a.there;
            linked = held-linked m.kernel (record { first = FileByte file 0; len = length held }) (entry.Boot path (given held)) held refl (λ n l. ap (option_and_then (λ bytes. slice_get bytes (0 + n))) there ∙ ap (slice_get held) (let z : 0 + n ≡ n = omega arith in z)) refl;
            takes = λ k. refl;
            source = λ s at. absurd (true≢false (sym s));
            kept = boot-kept m.kernel first;
          };
      events = (omega arith);
      bodies = done-fit gs ms most m.events 1 act (put 1 (unborn m.events) m.bodies) made (put-fit gs ms most m.bodies 1 (unborn m.events) more h);
      whose = inl (1, maker ∙ one);
    }

-- what comes from outside
arrives-shown : (len : ℕ) (at : At) → shown (transfers.Arrives len) at ≡ source_shown len at
arrives-shown len at = grind (arith, nat_tests)

none-shown : (at : At) → shown (transfers.Arrives 0) at ≡ []
none-shown at = grind (arith, nat_tests, le-ltb)

no-maker : (event_at : ℕ → Option Record) (gs : Groups) (n : ℕ) (e : Record) → event_at n ≡ Some e → process_of e ≡ None → makers event_at gs n ≡ None
no-maker event_at gs n e there of = ap (λ (o : Option Record). option_and_then gs (option_and_then process_of o)) there ∙ ap (option_and_then gs) of

file-is : (event_at : ℕ → Option Record) (gs groups : Groups) (m : Machine) (path bytes : List ℕ) → Around event_at gs groups m (file_step m path bytes) → StepIs event_at gs m (file_step m path bytes)
file-is event_at gs groups m path bytes a =
    record {
      inside = record { acts = refl; lies = tt; number = refl; made = no-maker event_at gs m.events (entry.File path bytes) a.there refl; begins = λ g. refl };
      moved = record { number = refl; there = a.there; linked = λ k. refl; takes = λ k l. refl; source = λ s. arrives-shown (length bytes); kept = file-kept m path bytes };
      events = (omega arith);
      bodies = a.bodies;
      whose = inr (inl refl);
    }

typed-is : (event_at : ℕ → Option Record) (gs groups : Groups) (m : Machine) (bytes : List ℕ) → Around event_at gs groups m (typed_step m bytes) → StepIs event_at gs m (typed_step m bytes)
typed-is event_at gs groups m bytes h1 = grind (arith, nat_tests, arrives-shown, no-maker, typed-kept)

unplug-same : (m : Machine) (device : ℕ) (byte : KernelByte) → origins (unplug_step m device).after.kernel byte ≡ origins m.kernel byte
unplug-same m device byte = grind (arith, nat_tests)

unplug-is : (event_at : ℕ → Option Record) (gs groups : Groups) (m : Machine) (device : ℕ) → Around event_at gs groups m (unplug_step m device) → StepIs event_at gs m (unplug_step m device)
unplug-is event_at gs groups m device h1 = grind (arith, nat_tests, no-maker, none-shown, unplug-same)

pub step-is : (event_at : ℕ → Option Record) (gs groups : Groups) (m : Machine) (s : Step) → StepTells m s → Around event_at gs groups m s → StepIs event_at gs m s
step-is event_at gs groups m s (Runs pid v instr cpu ws e next is) = subst (λ (s : Step). Around event_at gs groups m s → StepIs event_at gs m s) (sym is) (run-is event_at gs groups m pid v instr cpu ws e)
step-is event_at gs groups m s (Happens pid v d e t is) = subst (λ (s : Step). Around event_at gs groups m s → StepIs event_at gs m s) (sym is) (event-is event_at gs groups m pid v d e t)
step-is event_at gs groups m s (Boots path file held first found bytes image is) = subst (λ (s : Step). Around event_at gs groups m s → StepIs event_at gs m s) (sym is) (boot-is event_at gs groups m path file held first bytes)
step-is event_at gs groups m s (Adds path bytes e is) = subst (λ (s : Step). Around event_at gs groups m s → StepIs event_at gs m s) (sym is) (file-is event_at gs groups m path bytes)
step-is event_at gs groups m s (Types bytes e is) = subst (λ (s : Step). Around event_at gs groups m s → StepIs event_at gs m s) (sym is) (typed-is event_at gs groups m bytes)
step-is event_at gs groups m s (Unplugs device e is) = subst (λ (s : Step). Around event_at gs groups m s → StepIs event_at gs m s) (sym is) (unplug-is event_at gs groups m device)
