-- Who answers for devices, seen otherwise, and what stays the same of one that answers.
use Rattle.std.proofs.Common.{◌≡◌, ℕ, Bool, true, false, nat_lt, List, [], ◌∷◌, length, Option, None, Some, Result, Ok, Err, IfOk, OnErr, ap, ◌∙◌}
use Rattle.arn_base.specs.declared.boxes.Choice.{Choice}
use Rattle.arn_base.specs.declared.records.Record.{Record}
use Rattle.rv64_model.specs.Instruction.{Effect, Next, Call, End}
use Rattle.parts_model.specs.Replies.{Answered}
use Rattle.acts_model.specs.Bodies.{View}
use Rattle.acts_model.specs.Bodies as bodies
use Rattle.acts_model.specs.Views.{stands_at}
use Rattle.arn_model.specs.Doing.{Request, Waits, Does, Asks}
use Rattle.arn_model.specs.Kernel.{Machine}
use Rattle.arn_model.specs.Row.{request}
use Rattle.arn_model.specs.Turn.{after_steps, plains}
use Rattle.guest_devices.specs.Answers.{Asked}
use Rattle.guest_legs.specs.Legs.{Ask, Going, Picked, asks_by}
use Rattle.guest_legs.specs.declared.leg.Leg.{Leg}
use Rattle.guest_calls.specs.Steps.{RepliesTo, asked_of}
use Rattle.guest_machine.specs.Legs.{IsCutLeg, IsLeg, RepliedBy, RunsSlices}
use Rattle.guest_machine.specs.Recorded.{IsReal, OfEach, Recorded}
use Rattle.guest_machine.specs.Slices.{RepliesAt, RepliesIf, RepliesIn, RepliesOf, delivered}

-- what answered, and what that made of it
module _ {A B : Type 0} (replies : A → Asked → Answered → A → Type 0) (replies' : B → Asked → Answered → B → Type 0) (see : A → B) (seen : (a : A) (asked : Asked) (answer : Answered) (a' : A) → replies a asked answer a' → replies' (see a) asked answer (see a')) where
  RepliesTo-seen : (v : View) (r : Request) (reply : Option Answered) (a a' : A) → RepliesTo replies v r reply a a' → RepliesTo replies' v r reply (see a) (see a')
  RepliesTo-seen v (Asks q) None a a' p = absurd p
  RepliesTo-seen v (Asks q) (Some answer) a a' p = seen a (asked_of v q) answer a' p
  RepliesTo-seen v Waits reply a a' p = (p.0, ap see p.1)
  RepliesTo-seen v (Does d) reply a a' p = (p.0, ap see p.1)

  RepliesAt-seen : (m : Machine) (pid : ℕ) (v : View) (e : Effect) (reply : Option Answered) (a a' : A) → RepliesAt replies m pid v e reply a a' → RepliesAt replies' m pid v e reply (see a) (see a')
  RepliesAt-seen m pid v Call reply a a' p = RepliesTo-seen v (request m pid v) reply a a' p
  RepliesAt-seen m pid v (Next instr cpu memory) reply a a' p = (p.0, ap see p.1)
  RepliesAt-seen m pid v (End status) reply a a' p = (p.0, ap see p.1)

  RepliesOf-seen : (m : Machine) (pid : ℕ) (there : Option View) (reply : Option Answered) (a a' : A) → RepliesOf replies m pid there reply a a' → RepliesOf replies' m pid there reply (see a) (see a')
  RepliesOf-seen m pid None reply a a' p = (p.0, ap see p.1)
  RepliesOf-seen m pid (Some v) reply a a' p = RepliesAt-seen m pid v (stands_at v) reply a a' p

  RepliesIf-seen : (b : Bool) (m : Machine) (pid : ℕ) (reply : Option Answered) (a a' : A) → RepliesIf b replies m pid reply a a' → RepliesIf b replies' m pid reply (see a) (see a')
  RepliesIf-seen false m pid reply a a' p = (p.0, ap see p.1)
  RepliesIf-seen true m pid reply a a' p = RepliesOf-seen m pid (bodies.seen m.bodies pid) reply a a' p

  RepliesIn-seen : (count pid : ℕ) (m : Machine) (reply : Option Answered) (a a' : A) → RepliesIn replies count pid m reply a a' → RepliesIn replies' count pid m reply (see a) (see a')
  RepliesIn-seen count pid m reply a a' p =
      let plain = plains count pid (delivered pid m) in
      RepliesIf-seen (nat_lt (length plain) count) (after_steps (delivered pid m) plain) pid reply a a' p

  RepliedBy-seen : (asks : List Ask) (slices : List Picked) (a a' : A) → RepliedBy replies asks slices a a' → RepliedBy replies' asks slices (see a) (see a')
  RepliedBy-seen [] slices a a' p = (p.0, ap see p.1)
  RepliedBy-seen (ask ∷ asks) [] a a' p = absurd p
  RepliedBy-seen (ask ∷ asks) (s ∷ slices) a a' p =
      (see p.0, RepliesIn-seen s.pick.count s.pick.pid ask.machine s.reply a p.0 p.1, RepliedBy-seen asks slices p.0 a' p.2)

  RunsSlices-seen : (start : Going) (slices : List Picked) (old new : Recorded) (a a' : A) (out out' : List Record) → RunsSlices replies start slices old new a a' out out' → RunsSlices replies' start slices old new (see a) (see a') out out'
  RunsSlices-seen start slices old new a a' out out' p =
      record { runs = p.runs; open_before = p.open_before; in_range = p.in_range; replied = RepliedBy-seen (asks_by start slices) slices a a' p.replied }

  -- a leg
  pub IsLeg-seen : (start : Going) (leg : Leg) (old new : Recorded) (before after : ℕ → Option Choice) (a a' : A) (out out' : List Record) (steps steps' : ℕ) → IsLeg replies start leg old new before after a a' out out' steps steps' → IsLeg replies' start leg old new before after (see a) (see a') out out' steps steps'
  IsLeg-seen start leg old new before after a a' out out' steps steps' p =
      record { slices = p.slices; took = RunsSlices-seen start p.slices old new a a' out out' p.took; picked = p.picked; ends = p.ends; left = p.left; ticks = p.ticks }

  pub IsCutLeg-seen : (start : Going) (old new : Recorded) (before after : ℕ → Option Choice) (a a' : A) (out out' : List Record) (steps steps' : ℕ) → IsCutLeg replies start old new before after a a' out out' steps steps' → IsCutLeg replies' start old new before after (see a) (see a') out out' steps steps'
  IsCutLeg-seen start old new before after a a' out out' steps steps' p =
      record {
        slices = p.slices;
        lost = p.lost;
        between = p.between;
        kept = p.kept;
        took = RunsSlices-seen start p.slices old p.between a a' out p.kept p.took;
        is_open = p.is_open;
        in_range = p.in_range;
        cut = p.cut;
        picked = p.picked;
        ticks = p.ticks;
        at_most = p.at_most;
      }

-- a part of one that answers, which no answer changes
module _ {A N : Type 0} (replies : A → Asked → Answered → A → Type 0) (name : A → N) (stays : (a : A) (asked : Asked) (answer : Answered) (a' : A) → replies a asked answer a' → name a' ≡ name a) where
  abbrev Stays : N → Asked → Answered → N → Type 0
  Stays n asked answer n' = n' ≡ n

  To-stays : (v : View) (r : Request) (reply : Option Answered) (n n' : N) → RepliesTo Stays v r reply n n' → n' ≡ n
  To-stays v (Asks q) None n n' p = absurd p
  To-stays v (Asks q) (Some answer) n n' p = p
  To-stays v Waits reply n n' p = p.1
  To-stays v (Does d) reply n n' p = p.1

  At-stays : (m : Machine) (pid : ℕ) (v : View) (e : Effect) (reply : Option Answered) (n n' : N) → RepliesAt Stays m pid v e reply n n' → n' ≡ n
  At-stays m pid v Call reply n n' p = To-stays v (request m pid v) reply n n' p
  At-stays m pid v (Next instr cpu memory) reply n n' p = p.1
  At-stays m pid v (End status) reply n n' p = p.1

  Of-stays : (m : Machine) (pid : ℕ) (there : Option View) (reply : Option Answered) (n n' : N) → RepliesOf Stays m pid there reply n n' → n' ≡ n
  Of-stays m pid None reply n n' p = p.1
  Of-stays m pid (Some v) reply n n' p = At-stays m pid v (stands_at v) reply n n' p

  If-stays : (b : Bool) (m : Machine) (pid : ℕ) (reply : Option Answered) (n n' : N) → RepliesIf b Stays m pid reply n n' → n' ≡ n
  If-stays false m pid reply n n' p = p.1
  If-stays true m pid reply n n' p = Of-stays m pid (bodies.seen m.bodies pid) reply n n' p

  In-stays : (count pid : ℕ) (m : Machine) (reply : Option Answered) (n n' : N) → RepliesIn Stays count pid m reply n n' → n' ≡ n
  In-stays count pid m reply n n' p =
      let plain = plains count pid (delivered pid m) in
      If-stays (nat_lt (length plain) count) (after_steps (delivered pid m) plain) pid reply n n' p

  By-stays : (asks : List Ask) (slices : List Picked) (n n' : N) → RepliedBy Stays asks slices n n' → n' ≡ n
  By-stays [] slices n n' p = p.1
  By-stays (ask ∷ asks) [] n n' p = absurd p
  By-stays (ask ∷ asks) (s ∷ slices) n n' p = By-stays asks slices p.0 n' p.2 ∙ In-stays s.pick.count s.pick.pid ask.machine s.reply n p.0 p.1

  RepliedBy-stays : (asks : List Ask) (slices : List Picked) (a a' : A) → RepliedBy replies asks slices a a' → name a' ≡ name a
  RepliedBy-stays asks slices a a' p = By-stays asks slices (name a) (name a') (RepliedBy-seen replies Stays name stays asks slices a a' p)

  -- over a leg, however it ends
  pub leg-stays : {E : Type 0} (r : Result Leg E) (start : Machine → Going) (old new : Recorded) (before after : ℕ → Option Choice) (a a' : A) (out out' : List Record) (steps steps' : ℕ) → IsReal old.kernel
      → IfOk r (λ leg. OfEach old.kernel (λ m. IsLeg replies (start m) leg old new before after a a' out out' steps steps'))
      → OnErr r (OfEach old.kernel (λ m. IsCutLeg replies (start m) old new before after a a' out out' steps steps')) → name a' ≡ name a
  leg-stays (Ok leg) start old new before after a a' out out' steps steps' real whole cut =
      let p = whole real.machine real.stands in
      RepliedBy-stays (asks_by (start real.machine) p.slices) p.slices a a' p.took.replied
  leg-stays (Err e) start old new before after a a' out out' steps steps' real whole cut =
      let p = cut real.machine real.stands in
      RepliedBy-stays (asks_by (start real.machine) p.slices) p.slices a a' p.took.replied
