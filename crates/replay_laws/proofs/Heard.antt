-- What the group alone makes of one step, of the instructions of a turn, and of an event: its bodies, and what happens inside.
use Rattle.std.proofs.Common.{◌≡◌, ℕ, zero, suc, ◌≤◌, ◌+◌, List, [], ◌∷◌, ◌++◌, length, take, refl, ap, ◌∙◌, sym, subst, append-nil, append_assoc, Option, Some, None, Bool, true, false, ◌==◌, cond, arith}
use Rattle.std.proofs.lemmas.Bool.Decides.{nat_tests}
use Rattle.arn_base.specs.declared.machine.Cpu.{Cpu}
use Rattle.arn_base.specs.declared.records.Record.{Record}
use Rattle.arn_base.specs.Window.{Window}
use Rattle.rv64_isa.specs.declared.instruction.Instr.{Instr}
use Rattle.rv64_model.specs.Instruction.{Next}
use Rattle.acts_model.specs.Acts.{Act, Founds, beginning_of, start_of, done_by, founded}
use Rattle.acts_model.specs.Bodies.{Bodies, View, seen, put}
use Rattle.acts_model.specs.Moved.{Inside}
use Rattle.acts_model.specs.Transfers.{holds_of, transfer, instr_transfer}
use Rattle.acts_model.specs.Views.{stands_at, after_instr}
use Rattle.arn_model.specs.Doing.{Doing}
use Rattle.arn_model.specs.Kernel.{Machine}
use Rattle.arn_model.specs.Step.{Step, plain_step, event_step}
use Rattle.arn_model.specs.Tells.{EventTells}
use Rattle.arn_model.specs.Turn.{plains, after_steps}
use Rattle.history_model.specs.Alone as alone
use Rattle.history_model.specs.Alone.{Own, Makes, Slice, noted, plain_by, plain_in, happens, begins}
use Rattle.history_model.specs.Groups.{Groups, is_number}
use Rattle.history_model.specs.Moments.{changed}
use Rattle.replay_laws.specs.Heard.{own_part, part, parts}
use Rattle.replay_laws.proofs.Owned.{Owner}
use Rattle.replay_laws.proofs.Agrees.{Agrees, Joint, if_own, same-seen, number-true}
use Rattle.replay_laws.proofs.Acts.{made_for, GroupsFit, begun_bodies, joint-done, joint-moved}
use Rattle.replay_laws.proofs.Told.{begun_own, begun_inside, event-tale}
use Rattle.replay_laws.proofs.Steps.{plains-all, JointAt}
use Rattle.window_laws.specs.Lengths.{KeepsLengths}

bodies-if : (b : Bool) (x y : Own) → (cond b x y).bodies ≡ cond b x.bodies y.bodies
bodies-if true x y = refl
bodies-if false x y = refl

inside-if : (b : Bool) (i : Inside) (x : Bodies) (o : Own) → (cond b (noted i x o) o).inside ≡ o.inside ++ own_part b i
inside-if true i x o = refl
inside-if false i x o = sym (append-nil o.inside)

begun-bodies : (g e : ℕ) (r : Record) (act : Act) (v : View) (o : Own) → (begun_own g e r act v o).bodies ≡ begun_bodies g e act v o.bodies
begun-bodies g e r (Founds child) v o = bodies-if (child == g) (begins g e r (start_of (beginning_of v)) o) o
begun-bodies g e r act v o = refl

begun-inside : (g e : ℕ) (r : Record) (act : Act) (v : View) (o : Own) → (begun_own g e r act v o).inside ≡ o.inside ++ begun_inside g e r act v
begun-inside g e r act v o = grind (arith, nat_tests, append-nil)

-- parts of steps one behind the other
pub parts-append : (gs : Groups) (g : ℕ) (steps more : List Step) → parts gs g (steps ++ more) ≡ parts gs g steps ++ parts gs g more
parts-append gs g [] more = refl
parts-append gs g (s ∷ steps) more =
    let first = part gs g s.moved.inside in
    ap (λ xs. first ++ xs) (parts-append gs g steps more) ∙ sym (append_assoc first (parts gs g steps) (parts gs g more))

-- the process is the group's
abbrev pub mine : Groups → ℕ → ℕ → Bool
mine gs g p = is_number g (gs p)

abbrev pub slice_at : ℕ → ℕ → ℕ → ℕ → Slice
slice_at p ran event end_event = record { pid = p; ran = ran; event = event; end_event = end_event }

-- the group alone runs so many instructions of p from there, whatever its slice counts
abbrev pub RunsTo : ℕ → ℕ → Own → Own → Type 0
RunsTo p k o own = (ran event end_event before : ℕ) → alone.plains (slice_at p ran event end_event) before k o ≡ Makes own

-- steps that lead from m, in the whole machine and in the group alone, where k instructions are run
pub record PlainTo (g : ℕ) (owner : ℕ → Owner) (gs : Groups) (p k : ℕ) (m : Machine) (o : Own) (steps : List Step) : Type 0 where
  pub own : Own
  pub runs : RunsTo p (cond (mine gs g p) k 0) o own
  pub joint : JointAt g owner gs (after_steps m steps) own.bodies
  pub inside : own.inside ≡ o.inside ++ parts gs g steps

no-plain : (g : ℕ) (owner : ℕ → Owner) (gs : Groups) (p : ℕ) (m : Machine) (o : Own) → JointAt g owner gs m o.bodies → PlainTo g owner gs p 0 m o []
no-plain g owner gs p m o h1 = grind (arith, nat_tests, append-nil)

-- what the group alone has after an instruction of p
abbrev ran_inside : ℕ → View → Instr → Inside
ran_inside p v instr = record { actor = Some p; before = v.body.cpu; transfer = instr_transfer p v.body.cpu (holds_of v.body) instr; event = None }

abbrev noted_ran : ℕ → View → Instr → Cpu → List Window → Own → Own
noted_ran p v instr cpu memory o = noted (ran_inside p v instr) (put p (after_instr cpu memory v) o.bodies) o

abbrev own_ran : ℕ → Groups → ℕ → View → Instr → Cpu → List Window → Own → Own
own_ran g gs p v instr cpu memory o = cond (mine gs g p) (noted_ran p v instr cpu memory o) o

-- one more at the front
more-plain : (g : ℕ) (owner : ℕ → Owner) (gs : Groups) (p k : ℕ) (m : Machine) (v : View) (instr : Instr) (cpu : Cpu) (memory : List Window) (o : Own) (steps : List Step) → seen m.bodies p ≡ Some v → stands_at v ≡ Next instr cpu memory → JointAt g owner gs m o.bodies → PlainTo g owner gs p k (plain_step m p v instr cpu memory).after (own_ran g gs p v instr cpu memory o) steps → PlainTo g owner gs p (suc k) m o (plain_step m p v instr cpu memory ∷ steps)
more-plain g owner gs p k m v instr cpu memory o steps e next h to =
    record {
      own = to.own;
      runs = λ ran event end_event before. by_test ran event end_event before (mine gs g p) refl (to.runs ran event end_event (suc before)) (to.runs ran event end_event before);
      joint = to.joint;
      inside = to.inside ∙ (ap (λ xs. xs ++ parts gs g steps) (inside-if (mine gs g p) (ran_inside p v instr) (put p (after_instr cpu memory v) o.bodies) o)
          ∙ (append_assoc o.inside (own_part (mine gs g p) (ran_inside p v instr)) (parts gs g steps)
          ∙ ap (λ xs. o.inside ++ (xs ++ parts gs g steps)) (sym (append-nil (own_part (mine gs g p) (ran_inside p v instr))))));
    }
  where
    once : gs p ≡ Some g → plain_in p o (seen o.bodies p) ≡ Some (noted_ran p v instr cpu memory o)
    once of = ap (plain_in p o) (same-seen g gs m.bodies o.bodies p h.agrees of ∙ e) ∙ ap (plain_by p o v) next

    by_test : (ran event end_event before : ℕ) (t : Bool) → is_number g (gs p) ≡ t → alone.plains (slice_at p ran event end_event) (suc before) (cond t k 0) (cond t (noted_ran p v instr cpu memory o) o) ≡ Makes to.own → alone.plains (slice_at p ran event end_event) before (cond t k 0) (cond t (noted_ran p v instr cpu memory o) o) ≡ Makes to.own → alone.plains (slice_at p ran event end_event) before (cond t (suc k) 0) o ≡ Makes to.own
    by_test ran event end_event before t h1 h2 h3 = grind (arith, nat_tests, once, number-true)

ran-joint : KeepsLengths → (g : ℕ) (owner : ℕ → Owner) (gs : Groups) (m : Machine) (p : ℕ) (v : View) (instr : Instr) (cpu : Cpu) (memory : List Window) (o : Own) → seen m.bodies p ≡ Some v → stands_at v ≡ Next instr cpu memory → JointAt g owner gs m o.bodies → JointAt g owner gs (plain_step m p v instr cpu memory).after (own_ran g gs p v instr cpu memory o).bodies
ran-joint keeps g owner gs m p v instr cpu memory o e next h =
    subst (λ (b : Bodies). JointAt g owner gs (plain_step m p v instr cpu memory).after b) (sym (bodies-if (mine gs g p) (noted_ran p v instr cpu memory o) o))
    (joint-moved keeps g owner gs m.events p m.bodies o.bodies v instr cpu memory e next h)

-- each first part of the steps, from any agreement
abbrev PlainParts : ℕ → (ℕ → Owner) → Groups → ℕ → Machine → List Step → Type 0
PlainParts g owner gs p m steps = (o : Own) (k : ℕ) → JointAt g owner gs m o.bodies → k ≤ length steps → PlainTo g owner gs p k m o (take k steps)

no-parts : (g : ℕ) (owner : ℕ → Owner) (gs : Groups) (p : ℕ) (m : Machine) → PlainParts g owner gs p m []
no-parts g owner gs p m o zero h l = no-plain g owner gs p m o h
no-parts g owner gs p m o (suc k) h l = absurd (omega arith)

more-parts : KeepsLengths → (g : ℕ) (owner : ℕ → Owner) (gs : Groups) (p : ℕ) (m : Machine) (v : View) (instr : Instr) (cpu : Cpu) (memory : List Window) (rest : List Step) → seen m.bodies p ≡ Some v → stands_at v ≡ Next instr cpu memory → PlainParts g owner gs p (plain_step m p v instr cpu memory).after rest → PlainParts g owner gs p m (plain_step m p v instr cpu memory ∷ rest)
more-parts keeps g owner gs p m v instr cpu memory rest e next ih o zero h l = no-plain g owner gs p m o h
more-parts keeps g owner gs p m v instr cpu memory rest e next ih o (suc k) h l =
    more-plain g owner gs p k m v instr cpu memory o (take k rest) e next h (ih (own_ran g gs p v instr cpu memory o) k (ran-joint keeps g owner gs m p v instr cpu memory o e next h) (omega arith))

pub plains-joint : KeepsLengths → (g : ℕ) (owner : ℕ → Owner) (gs : Groups) (n p : ℕ) (m : Machine) (o : Own) (k : ℕ) → JointAt g owner gs m o.bodies → k ≤ length (plains n p m) → PlainTo g owner gs p k m o (take k (plains n p m))
plains-joint keeps g owner gs n p m = plains-all p (PlainParts g owner gs p) (no-parts g owner gs p) (more-parts keeps g owner gs p) n m

-- what happens inside at an event
abbrev pub act_inside : Machine → ℕ → View → Act → Record → Inside
act_inside m p v act r = record { actor = Some p; before = v.body.cpu; transfer = transfer p m.events (holds_of v.body) act; event = Some (record { number = m.events; entry = r }) }

abbrev noted_act : Machine → ℕ → View → Act → Record → Own → Own
noted_act m p v act r o = noted (act_inside m p v act r) (done_by p m.events act (Some v) o.bodies) o

-- the group alone does the act that the record tells
pub does : (g : ℕ) (gs : Groups) (m : Machine) (p : ℕ) (v : View) (d : Doing) (r : Record) (o : Own) → EventTells m p v d r → Agrees g gs m.bodies o.bodies → gs p ≡ Some g → happens p m.events r o ≡ Makes (noted (act_inside m p v d.act r) (done_by p m.events d.act (Some v) o.bodies) o)
does g gs m p v d r o h1 h2 h3 = grind (arith, nat_tests, act_inside, same-seen)

-- what the group alone has after the event
abbrev pub own_did : Bool → Machine → ℕ → View → Act → Record → Own → Own
own_did b m p v act r o = cond b (noted (act_inside m p v act r) (done_by p m.events act (Some v) o.bodies) o) o

abbrev pub own_after : ℕ → Groups → Machine → ℕ → View → Act → Record → Own → Own
own_after g gs m p v act r o = begun_own g m.events r act v (own_did (mine gs g p) m p v act r o)

own-bodies : (g : ℕ) (gs : Groups) (m : Machine) (p : ℕ) (v : View) (act : Act) (r : Record) (o : Own) → (own_after g gs m p v act r o).bodies ≡ begun_bodies g m.events act v (if_own (mine gs g p) (done_by p m.events act (Some v) o.bodies) o.bodies)
own-bodies g gs m p v act r o = grind (arith, nat_tests, begun-bodies, begun_bodies, bodies-if, mine, noted_act, own_did)

pub own-inside : (g : ℕ) (gs : Groups) (m : Machine) (p : ℕ) (v : View) (d : Doing) (r : Record) (o : Own) → EventTells m p v d r → (own_after g gs m p v d.act r o).inside ≡ o.inside ++ part gs g (event_step m p v d r).moved.inside
own-inside g gs m p v d r o h1 = grind (arith, nat_tests, begun-inside, inside-if, append_assoc, event-tale)

pub event-joint : KeepsLengths → (g : ℕ) (owner : ℕ → Owner) (gs : Groups) (m : Machine) (p : ℕ) (v : View) (d : Doing) (r : Record) (o : Own) → EventTells m p v d r → GroupsFit gs p d.act → JointAt g owner gs m o.bodies → JointAt g (changed owner m.events (made_for p (gs p) d.act)) gs (event_step m p v d r).after (own_after g gs m p v d.act r o).bodies
event-joint keeps g owner gs m p v d r o t fit h =
    let j = joint-done keeps g owner gs m.events p m.bodies o.bodies d.act v t.seen fit (event-tale m p v d r t).starts h in
    let owner' = changed owner m.events (made_for p (gs p) d.act) in
    let own : Bodies = begun_bodies g m.events d.act v (if_own (mine gs g p) (done_by p m.events d.act (Some v) o.bodies) o.bodies) in
    let j' = subst (λ (z : Option View). Joint g owner' gs (m.events + 1) (founded d.act m.events (beginning_of v) (done_by p m.events d.act z m.bodies)) own) (sym t.seen) j in
    subst (λ (b : Bodies). Joint g owner' gs (m.events + 1) (event_step m p v d r).after.bodies b) (sym (own-bodies g gs m p v d.act r o)) j'
