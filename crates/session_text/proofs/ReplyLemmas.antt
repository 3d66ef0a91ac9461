-- What a slice asks devices, seen otherwise where they answer, and what stays the same of one that answers.
use Rattle.std.proofs.Common.{◌≡◌, ℕ, Bool, true, false, nat_lt, length, Option, None, Some, ap}
use Rattle.rv64_model.specs.Instruction.{Effect, Next, Call, End}
use Rattle.parts_model.specs.Replies.{Answered}
use Rattle.acts_model.specs.Bodies.{View}
use Rattle.acts_model.specs.Bodies as bodies
use Rattle.acts_model.specs.Views.{stands_at}
use Rattle.arn_model.specs.Doing.{Request, Waits, Does, Asks}
use Rattle.arn_model.specs.Kernel.{Machine}
use Rattle.arn_model.specs.Row.{request}
use Rattle.arn_model.specs.Turn.{after_steps, plains}
use Rattle.guest_calls.specs.Steps.{RepliesTo, asked_of}
use Rattle.guest_devices.specs.Answers.{Asked}
use Rattle.guest_machine.specs.Slices.{RepliesAt, RepliesIf, RepliesIn, RepliesOf, delivered}

-- what answered, and what that made of it, seen otherwise
module _ {A B : Type 0} (replies : A → Asked → Answered → A → Type 0) (replies' : B → Asked → Answered → B → Type 0) (see : A → B) (seen : (a : A) (asked : Asked) (answer : Answered) (a' : A) → replies a asked answer a' → replies' (see a) asked answer (see a')) where
  RepliesTo-seen : (v : View) (r : Request) (reply : Option Answered) (a a' : A) → RepliesTo replies v r reply a a' → RepliesTo replies' v r reply (see a) (see a')
  RepliesTo-seen v (Asks q) None a a' p = absurd p
  RepliesTo-seen v (Asks q) (Some answer) a a' p = seen a (asked_of v q) answer a' p
  RepliesTo-seen v _ reply a a' p = (p.0, ap see p.1)

  RepliesAt-seen : (m : Machine) (pid : ℕ) (v : View) (e : Effect) (reply : Option Answered) (a a' : A) → RepliesAt replies m pid v e reply a a' → RepliesAt replies' m pid v e reply (see a) (see a')
  RepliesAt-seen m pid v Call reply a a' p = RepliesTo-seen v (request m pid v) reply a a' p
  RepliesAt-seen m pid v _ reply a a' p = (p.0, ap see p.1)

  RepliesOf-seen : (m : Machine) (pid : ℕ) (there : Option View) (reply : Option Answered) (a a' : A) → RepliesOf replies m pid there reply a a' → RepliesOf replies' m pid there reply (see a) (see a')
  RepliesOf-seen m pid None reply a a' p = (p.0, ap see p.1)
  RepliesOf-seen m pid (Some v) reply a a' p = RepliesAt-seen m pid v (stands_at v) reply a a' p

  RepliesIf-seen : (b : Bool) (m : Machine) (pid : ℕ) (reply : Option Answered) (a a' : A) → RepliesIf b replies m pid reply a a' → RepliesIf b replies' m pid reply (see a) (see a')
  RepliesIf-seen false m pid reply a a' p = (p.0, ap see p.1)
  RepliesIf-seen true m pid reply a a' p = RepliesOf-seen m pid (bodies.seen m.bodies pid) reply a a' p

  pub RepliesIn-seen : (count pid : ℕ) (m : Machine) (reply : Option Answered) (a a' : A) → RepliesIn replies count pid m reply a a' → RepliesIn replies' count pid m reply (see a) (see a')
  RepliesIn-seen count pid m reply a a' p =
      let plain = plains count pid (delivered pid m) in
      RepliesIf-seen (nat_lt (length plain) count) (after_steps (delivered pid m) plain) pid reply a a' p

-- what stays the same of one that answers
module _ {A N : Type 0} (replies : A → Asked → Answered → A → Type 0) (name : A → N) (stays : (a : A) (asked : Asked) (answer : Answered) (a' : A) → replies a asked answer a' → name a' ≡ name a) where
  abbrev Stays : N → Asked → Answered → N → Type 0
  Stays n asked answer n' = n' ≡ n

  To-stays : (v : View) (r : Request) (reply : Option Answered) (n n' : N) → RepliesTo Stays v r reply n n' → n' ≡ n
  To-stays v (Asks q) None n n' p = absurd p
  To-stays v (Asks q) (Some answer) n n' p = p
  To-stays v _ reply n n' p = p.1

  At-stays : (m : Machine) (pid : ℕ) (v : View) (e : Effect) (reply : Option Answered) (n n' : N) → RepliesAt Stays m pid v e reply n n' → n' ≡ n
  At-stays m pid v Call reply n n' p = To-stays v (request m pid v) reply n n' p
  At-stays m pid v _ reply n n' p = p.1

  Of-stays : (m : Machine) (pid : ℕ) (there : Option View) (reply : Option Answered) (n n' : N) → RepliesOf Stays m pid there reply n n' → n' ≡ n
  Of-stays m pid None reply n n' p = p.1
  Of-stays m pid (Some v) reply n n' p = At-stays m pid v (stands_at v) reply n n' p

  If-stays : (b : Bool) (m : Machine) (pid : ℕ) (reply : Option Answered) (n n' : N) → RepliesIf b Stays m pid reply n n' → n' ≡ n
  If-stays false m pid reply n n' p = p.1
  If-stays true m pid reply n n' p = Of-stays m pid (bodies.seen m.bodies pid) reply n n' p

  In-stays : (count pid : ℕ) (m : Machine) (reply : Option Answered) (n n' : N) → RepliesIn Stays count pid m reply n n' → n' ≡ n
  In-stays count pid m reply n n' p =
      let plain = plains count pid (delivered pid m) in
      If-stays (nat_lt (length plain) count) (after_steps (delivered pid m) plain) pid reply n n' p

  pub RepliesIn-stays : (count pid : ℕ) (m : Machine) (reply : Option Answered) (a a' : A) → RepliesIn replies count pid m reply a a' → name a' ≡ name a
  RepliesIn-stays count pid m reply a a' p = In-stays count pid m reply (name a) (name a') (RepliesIn-seen replies Stays name stays count pid m reply a a' p)
