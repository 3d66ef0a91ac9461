-- The records of a slice stand.
use Rattle.std.proofs.lemmas.Bool.Decides.{nat_tests}
use Rattle.std.proofs.Common.{◌≡◌, ℕ, zero, suc, ◌==◌, not, nat_lt, Bool, true, false, cond, if◌then◌else◌, List, [], ◌∷◌, ◌++◌, length, Option, Some, None, option_map, option_to_list, refl, sym, ap, subst, ◌∙◌, append-nil, append_assoc, eq-eqb, arith}
use Rattle.arn_base.specs.declared.records.Extra.{Extra}
use Rattle.arn_base.specs.declared.records.Record.{Record}
use Rattle.arn_base.specs.declared.records.Record.TheVariants as entry
use Rattle.rv64_model.specs.Instruction.{Effect, Next, Call, End}
use Rattle.parts_model.specs.Replies.{Answered}
use Rattle.acts_model.specs.Acts.{result_of}
use Rattle.acts_model.specs.Bodies.{View, seen}
use Rattle.acts_model.specs.Moved.{Event}
use Rattle.acts_model.specs.Records.{EndsLife, NoLife, lives_after}
use Rattle.acts_model.specs.Views.{stands_at, call_number}
use Rattle.arn_model.specs.Doing.{Doing}
use Rattle.arn_model.specs.Kernel.{Machine}
use Rattle.arn_model.specs.Row.{request, does}
use Rattle.arn_model.specs.Sound.{IsSoundMachine}
use Rattle.arn_model.specs.Step.{Step, plain_by, last_by, call_step, delivery_of, due_signal, handler, waits}
use Rattle.arn_model.specs.Tells.{lives, Along}
use Rattle.arn_model.specs.Turn.{after_steps, after_first, turn, steps_of, delivery_in, plain_in, plains, steps_then, last_in, last_of}
use Rattle.history_model.specs.Broken.{cant_follow, behind, is_behind, ASlice}
use Rattle.log_model.specs.Records.{event_records}
use Rattle.unbroken_laws.proofs.Inputs.{along-first, along-rest}
use Rattle.unbroken_laws.proofs.Steps.{Facts, Happened, Kind, IsPlain, IsEvent, kind-of, Known, event-fits, event-known, plain-known}
use Rattle.unbroken_laws.proofs.Stands.{Stands, can-follow, is-behind-slice, is-behind-delivery}

-- the records of steps
records-some : (s : Step) (steps : List Step) (event : Event) → s.moved.inside.event ≡ Some event → event_records (s ∷ steps) ≡ event.entry ∷ event_records steps
records-some s steps event e = rw e refl

records-none : (s : Step) (steps : List Step) → s.moved.inside.event ≡ None → event_records (s ∷ steps) ≡ event_records steps
records-none s steps e = rw e refl

-- steps whose records stand, and tell of the machine that they lead to
pub record Goes (before : List Record) (m : Machine) (steps : List Step) : Type 0 where
  pub stands : Stands before (event_records steps)
  pub known : Known (before ++ event_records steps) (after_steps m steps)

pub goes-none : (before : List Record) (m : Machine) → Known before m → Goes before m []
goes-none before m known = record { stands = tt; known = subst (λ (es : List Record). Known es m) (sym (append-nil before)) known }

-- behind an event
pub goes-on : (before : List Record) (m : Machine) (s : Step) (e : Record) (steps : List Step) → Happened m s e → cant_follow before e ≡ false → Goes (before ++ e ∷ []) s.after steps → Goes before m (s ∷ steps)
goes-on before m s e steps h1 h2 h3 = grind (arith, nat_tests, records-some, append_assoc)

goes-plain : (before : List Record) (m : Machine) (s : Step) (steps : List Step) → s.moved.inside.event ≡ None → Goes before s.after steps → Goes before m (s ∷ steps)
goes-plain before m s steps h1 h2 = grind (arith, nat_tests, records-none)

-- the record of a step's event
some-none : (x : Event) → Some x ≡ None → ⊥
some-none x e = cc

abbrev pub IsRecord : Option Event → Record → Type 0
IsRecord None e = ⊥
IsRecord (Some event) e = event.entry ≡ e

pub event-is : (m : Machine) (s : Step) (e : Record) → Facts m s → IsRecord s.moved.inside.event e → Happened m s e
event-is m s e facts h = by_kind (kind-of m s facts.tells)
  where
    by_kind : Kind m s → Happened m s e
    by_kind (IsPlain none same) = absurd (subst (λ (o : Option Event). IsRecord o e) none h)
    by_kind (IsEvent r happened) = subst (λ (r : Record). Happened m s r) (subst (λ (o : Option Event). IsRecord o e) happened.event h) happened

plain-is : (before : List Record) (m : Machine) (s : Step) → Facts m s → s.moved.inside.event ≡ None → Known before m → Known before s.after
plain-is before m s h1 h2 h3 = grind (arith, nat_tests, kind-of, plain-known, some-none)

-- the call or the end with which a slice ends
data Last (pid : ℕ) (s : Step) : Type 0 where
  IsCall : (number result : ℕ) (more : Extra) → IsRecord s.moved.inside.event (entry.Call pid number result more) → Last pid s
  IsEnd : (status : ℕ) → IsRecord s.moved.inside.event (entry.End pid status) → Last pid s

abbrev IfLast : ℕ → Option Step → Type 0
IfLast pid None = Unit {0}
IfLast pid (Some s) = Last pid s

called-last : (m : Machine) (pid : ℕ) (v : View) (o : Option Doing) → IfLast pid (option_map (call_step m pid v) o)
called-last m pid v None = tt
called-last m pid v (Some d) = IsCall (call_number v.body.cpu) (result_of d.act) d.extra refl

by-last : (m : Machine) (pid : ℕ) (v : View) (reply : Option Answered) (effect : Effect) → IfLast pid (last_by m pid v reply effect)
by-last m pid v reply (Next instr cpu memory) = tt
by-last m pid v reply Call = called-last m pid v (does m pid v reply (request m pid v))
by-last m pid v reply (End status) = IsEnd status refl

in-last : (m : Machine) (pid : ℕ) (reply : Option Answered) (o : Option View) → IfLast pid (last_in m pid reply o)
in-last m pid reply None = tt
in-last m pid reply (Some v) = by-last m pid v reply (stands_at v)

if-last : (pid : ℕ) (b : Bool) (o : Option Step) → IfLast pid o → IfLast pid (if b then o else None)
if-last pid true o h = h
if-last pid false o h = tt

of-last : (n pid : ℕ) (reply : Option Answered) (m : Machine) (plain : List Step) → IfLast pid (last_of n pid reply m plain)
of-last n pid reply m plain =
    let m' = after_steps m plain in
    if-last pid (nat_lt (length plain) n) (last_in m' pid reply (seen m'.bodies pid)) (in-last m' pid reply (seen m'.bodies pid))

last-goes : (before : List Record) (m : Machine) (pid : ℕ) (o : Option Step) → IfLast pid o → Along Facts m (option_to_list o) → is_behind pid (behind before) ≡ true → Known before m → Goes before m (option_to_list o)
last-goes before m pid None h facts behind_is known = goes-none before m known
last-goes before m pid (Some s) h facts behind_is known = by_last h
  where
    goes : (e : Record) → IsRecord s.moved.inside.event e → (Happened m s e → cant_follow before e ≡ false) → Goes before m (s ∷ [])
    goes e is stands =
        let happened = event-is m s e facts.0 is in
        goes-on before m s e [] happened (stands happened) (goes-none (before ++ e ∷ []) s.after (event-known before m s e facts.0 happened known))

    by_last : Last pid s → Goes before m (s ∷ [])
    by_last (IsCall number result more is) =
        goes (entry.Call pid number result more) is (λ h. can-follow before (entry.Call pid number result more) refl refl (ap not behind_is) (event-fits before m s (entry.Call pid number result more) facts.0 h known))
    by_last (IsEnd status is) =
        goes (entry.End pid status) is (λ h. can-follow before (entry.End pid status) refl refl (ap not behind_is) (event-fits before m s (entry.End pid status) facts.0 h known))

-- the instructions before it
abbrev ArePlain : List Step → Type 0
ArePlain [] = Unit {0}
ArePlain (s ∷ steps) = (s.moved.inside.event ≡ None) × ArePlain steps

abbrev IfPlain : Option Step → Type 0
IfPlain None = Unit {0}
IfPlain (Some s) = s.moved.inside.event ≡ None

by-plain : (m : Machine) (pid : ℕ) (v : View) (effect : Effect) → IfPlain (plain_by m pid v effect)
by-plain m pid v (Next instr cpu memory) = refl
by-plain m pid v _ = tt

in-plain : (m : Machine) (pid : ℕ) (o : Option View) → IfPlain (plain_in m pid o)
in-plain m pid None = tt
in-plain m pid (Some v) = by-plain m pid v (stands_at v)

then-plain : (o : Option Step) (rest : Machine → List Step) → IfPlain o → ((m : Machine) → ArePlain (rest m)) → ArePlain (steps_then o rest)
then-plain None rest h k = tt
then-plain (Some s) rest h k = (h, k s.after)

plains-plain : (n pid : ℕ) (m : Machine) → ArePlain (plains n pid m)
plains-plain zero pid m = tt
plains-plain (suc n) pid m = then-plain (plain_in m pid (seen m.bodies pid)) (plains n pid) (in-plain m pid (seen m.bodies pid)) (plains-plain n pid)

plains-go : (before : List Record) (m : Machine) (plain rest : List Step) → ArePlain plain → Along Facts m plain → Known before m → (Known before (after_steps m plain) → Goes before (after_steps m plain) rest) → Goes before m (plain ++ rest)
plains-go before m [] rest are facts known goes = goes known
plains-go before m (s ∷ plain) rest are facts known goes =
    goes-plain before m s (plain ++ rest) are.0 (plains-go before s.after plain rest are.1 facts.1 (plain-is before m s facts.0 are.0 known) goes)

-- the instructions of a turn, and with what it ends
abbrev rest_of : ℕ → ℕ → Option Answered → Machine → List Step
rest_of n pid reply m = plains n pid m ++ option_to_list (last_of n pid reply m (plains n pid m))

rest-goes : (before : List Record) (n pid : ℕ) (reply : Option Answered) (m : Machine) → Along Facts m (rest_of n pid reply m) → is_behind pid (behind before) ≡ true → Known before m → Goes before m (rest_of n pid reply m)
rest-goes before n pid reply m facts behind_is known =
    let plain = plains n pid m in
    let last = last_of n pid reply m plain in
    plains-go before m plain (option_to_list last) (plains-plain n pid m) (along-first Facts m plain (option_to_list last) facts) known
    (λ k. last-goes before (after_steps m plain) pid last (of-last n pid reply m plain) (along-rest Facts m plain (option_to_list last) facts) behind_is k)

-- nothing follows where the process lives no more
body-gone : (m : Machine) (pid : ℕ) → IsSoundMachine m → lives m.kernel pid ≡ false → seen m.bodies pid ≡ None
body-gone m pid h1 h2 = grind (arith, nat_tests)

none-plains : (n pid : ℕ) (m : Machine) → seen m.bodies pid ≡ None → plains n pid m ≡ []
none-plains zero pid m gone = refl
none-plains (suc n) pid m gone = ap (λ (o : Option View). steps_then (plain_in m pid o) (plains n pid)) gone

if-none : (b : Bool) → (if b then (let none : Option Step = None in none) else None) ≡ None
if-none true = refl
if-none false = refl

none-last : (n pid : ℕ) (reply : Option Answered) (m : Machine) → seen m.bodies pid ≡ None → last_of n pid reply m [] ≡ None
none-last n pid reply m gone = ap (λ (o : Option View). if nat_lt 0 n then last_in m pid reply o else None) gone ∙ if-none (nat_lt 0 n)

none-rest : (n pid : ℕ) (reply : Option Answered) (m : Machine) → seen m.bodies pid ≡ None → rest_of n pid reply m ≡ []
none-rest n pid reply m gone =
    ap (λ (plain : List Step). plain ++ option_to_list (last_of n pid reply m plain)) (none-plains n pid m gone)
    ∙ ap (λ (o : Option Step). option_to_list o) (none-last n pid reply m gone)

ends-life : (pid handler : ℕ) (b : Bool) → (handler == 0) ≡ true → lives_after (if handler == 0 then EndsLife pid else NoLife) pid b ≡ false
ends-life pid handler b e =
    ap (λ (t : Bool). lives_after (if t then EndsLife pid else NoLife) pid b) e ∙ ap (λ (t : Bool). cond t false b) (eq-eqb pid pid refl)

-- a delivery
record Delivers (pid : ℕ) (s : Step) : Type 0 where
  pub signal : ℕ
  pub cut : Bool
  pub handler : ℕ
  pub is : IsRecord s.moved.inside.event (entry.Signal pid signal cut handler)

abbrev IfDelivers : ℕ → Option Step → Type 0
IfDelivers pid None = Unit {0}
IfDelivers pid (Some s) = Delivers pid s

of-delivers : (m : Machine) (pid : ℕ) (v : View) (o : Option ℕ) → IfDelivers pid (delivery_of m pid v o)
of-delivers m pid v None = tt
of-delivers m pid v (Some signal) = record { signal = signal; cut = waits m pid v; handler = handler m pid signal; is = refl }

in-delivers : (m : Machine) (pid : ℕ) (o : Option View) → IfDelivers pid (delivery_in m pid o)
in-delivers m pid None = tt
in-delivers m pid (Some v) = of-delivers m pid v (due_signal m pid v)

-- the record of a delivery
abbrev delivered : (pid : ℕ) (s : Step) → Delivers pid s → Record
delivered pid s d = entry.Signal pid d.signal d.cut d.handler

delivery-goes : (before : List Record) (n pid : ℕ) (reply : Option Answered) (m : Machine) (s : Step) → Delivers pid s → Facts m s → Along Facts s.after (rest_of n pid reply s.after) → behind before ≡ ASlice pid → Known before m → Goes before m (s ∷ rest_of n pid reply s.after)
delivery-goes before n pid reply m s d facts rest behind_is known =
    let e = delivered pid s d in
    let happened = event-is m s e facts d.is in
    let follows = can-follow before e refl refl (ap not (is-behind-slice before pid behind_is)) (event-fits before m s e facts happened known) in
    by_handler happened (event-known before m s e facts happened known) follows (d.handler == 0) refl
  where
    by_handler : Happened m s (delivered pid s d) → Known (before ++ delivered pid s d ∷ []) s.after → cant_follow before (delivered pid s d) ≡ false → (b : Bool) → (d.handler == 0) ≡ b → Goes before m (s ∷ rest_of n pid reply s.after)
    by_handler happened known' follows true t =
        let gone : lives s.after.kernel pid ≡ false = happened.lives refl pid ∙ ends-life pid d.handler (lives m.kernel pid) t in
        let none = none-rest n pid reply s.after (body-gone s.after pid facts.later gone) in
        subst (λ (steps : List Step). Goes before m (s ∷ steps)) (sym none)
        (goes-on before m s (delivered pid s d) [] happened follows (goes-none (before ++ delivered pid s d ∷ []) s.after known'))
    by_handler happened known' follows false t =
        goes-on before m s (delivered pid s d) (rest_of n pid reply s.after) happened follows
        (rest-goes (before ++ delivered pid s d ∷ []) n pid reply s.after rest (is-behind-delivery before pid d.signal d.handler d.cut behind_is t) known')

-- a turn
pub turn-goes : (before : List Record) (n pid : ℕ) (reply : Option Answered) (m : Machine) → Along Facts m (steps_of (turn n pid reply m)) → behind before ≡ ASlice pid → Known before m → Goes before m (steps_of (turn n pid reply m))
turn-goes before n pid reply m facts behind_is known = by_first (delivery_in m pid (seen m.bodies pid)) (in-delivers m pid (seen m.bodies pid)) facts
  where
    by_first : (o : Option Step) → IfDelivers pid o
        → Along Facts m (option_to_list o ++ (rest_of n pid reply (after_first m o)))
        → Goes before m (option_to_list o ++ (rest_of n pid reply (after_first m o)))
    by_first None d facts = rest-goes before n pid reply m facts (is-behind-slice before pid behind_is) known
    by_first (Some s) d facts = delivery-goes before n pid reply m s d facts.0 facts.1 behind_is known
