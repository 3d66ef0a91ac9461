-- What a group alone has made so far: its steps are those of its members, and its bodies hold what members hold after them.
use Rattle.std.proofs.Common.{◌≡◌, ◌≢◌, ℕ, ◌+◌, ◌<◌, ◌≤◌, cond, length, Bool, false, nat_lt, is_some, List, [], ◌∷◌, ◌++◌, Option, Some, None, IfSome, IsNone, option_map, option_and_then, refl, sym, ap, subst, ◌∙◌, ne_eqb, arith}
use Rattle.std.proofs.lemmas.Bool.Decides.{nat_tests}
use Rattle.std.proofs.lemmas.Bool.{or_parts, leb-true, leb-false}
use Rattle.arn_base.specs.declared.records.Give.{Give}
use Rattle.arn_base.specs.declared.records.Record.{Record}
use Rattle.arn_base.specs.declared.records.Record.TheVariants as entry
use Rattle.arn_base.specs.declared.records.Start.{Start}
use Rattle.rv64_model.specs.Instruction.{Effect, Next, Call, End}
use Rattle.parts_model.specs.declared.limits.TheConstants.{MOST_BLOCK_BYTES, WINDOW_LEN}
use Rattle.acts_model.specs.Acts.{Act, Gives, Starts, Forks, Founds, Shares, Exits, beginning_in, begun, done, done_by, unborn}
use Rattle.acts_model.specs.Bodies.{Body, Bodies, View, put, seen, view}
use Rattle.acts_model.specs.Disagreement.{is_outside}
use Rattle.acts_model.specs.Moved.{Event, Inside}
use Rattle.acts_model.specs.Records.{event_len, process_of}
use Rattle.acts_model.specs.Told.{act_of}
use Rattle.acts_model.specs.Transfers.{Holds, Transfer, Begins, holds_of, instr_transfer, transfer}
use Rattle.acts_model.specs.Views.{after_instr, stands_at}
use Rattle.history_model.specs.Alone.{Own, begins, begin_inside, noted, nothing_own, plain_by, plain_in}
use Rattle.taint_state.specs.Goes.{ArePossible, Hearings, IsPossible, IsUnheldBy, heard_after, heard_at}
use Rattle.taint_state.specs.Steps.{Holders, event_by, event_inside, event_of, event_step, founds, fresh_holds, holders_after, instr_inside, with_holder}
use Rattle.taint_laws.specs.Follows as follows
use Rattle.taint_laws.specs.Follows.{AreNew, AreSteps, IsNew, IsStep, heard_from, holders_from, holders_in, none_heard, none_holds, with_booted}
use Rattle.taint_laws.specs.Laws.{Followed}
use Rattle.taint_laws.proofs.Holding.{done-holders, instr-holds, kept-holders, put-holders}
use Rattle.taint_laws.proofs.Places.{nobody-at, put-body}
use Rattle.taint_laws.proofs.Rooms.{HasRooms, acted-rooms, instr-rooms, zeros-len, StartsWell}
use Rattle.taint_laws.proofs.Sound.{ChildCounted, Fits, Marks, Sound, begun-sound, done-sound, fits-later, mark, mark-here, mark-same, nobody-sound, put-sound, seen-rooms, sound-later, unheld-by}
use Rattle.taint_laws.proofs.Told.{with-same}
use Rattle.taint_laws.proofs.Whole.{ActsWell, inside-whole, instr-whole}
use Rattle.window_laws.specs.Lengths.{KeepsLengths}

-- a list with one more step

holders-append : (l : List Inside) (i : Inside) (h : Holders) → holders_from (l ++ i ∷ []) h ≡ holders_after i.transfer (holders_from l h)
holders-append [] i h = refl
holders-append (j ∷ l) i h = holders-append l i (holders_after j.transfer h)

heard-append : (l : List Inside) (i : Inside) (heard : Hearings) → heard_from (l ++ i ∷ []) heard ≡ heard_after i (heard_from l heard)
heard-append [] i heard = refl
heard-append (j ∷ l) i heard = heard-append l i (heard_after j heard)

steps-append : (l : List Inside) (i : Inside) (h : Holders) → AreSteps h l → IsStep (holders_from l h) i → AreSteps h (l ++ i ∷ [])
steps-append [] i h s k = (k, tt)
steps-append (j ∷ l) i h s k = (s.0, steps-append l i (holders_after j.transfer h) s.1 k)

possible-append : (l : List Inside) (i : Inside) (h : Holders) (heard : Hearings) → ArePossible h heard l → IsPossible (holders_from l h) (heard_from l heard) i.transfer → ArePossible h heard (l ++ i ∷ [])
possible-append [] i h heard s k = (k, tt)
possible-append (j ∷ l) i h heard s k = (s.0, possible-append l i (holders_after j.transfer h) (heard_after j heard) s.1 k)

new-append : (l : List Inside) (i : Inside) (heard : Hearings) → AreNew heard l → IsNew (heard_from l heard) i.event → AreNew heard (l ++ i ∷ [])
new-append [] i heard s k = (k, tt)
new-append (j ∷ l) i heard s k = (s.0, new-append l i (heard_after j heard) s.1 k)

-- what was made behind so many events, with no process above the greatest
pub record State (n most : ℕ) (own : Own) : Type 0 where
  pub shared : Marks
  pub sound : Sound shared n most own.bodies
  pub holds : (p : ℕ) → holders_in own.bodies p ≡ holders_from own.inside none_holds p
  pub steps : AreSteps none_holds own.inside
  pub possible : ArePossible none_holds none_heard own.inside
  pub new : AreNew none_heard own.inside
  pub unheard : (e : ℕ) → n ≤ e → heard_from own.inside none_heard e ≡ None

pub state-followed : (n most : ℕ) (own : Own) → State n most own → Followed own
state-followed n most own s = record { steps = s.steps; possible = s.possible; new = s.new; holds = s.holds }

pub first-state : State 0 0 nothing_own
first-state =
    record {
      shared = λ k. false;
      sound = nobody-sound 0 0;
      holds = λ p. ap (λ (o : Option Body). option_map holds_of o) (nobody-at p);
      steps = tt;
      possible = tt;
      new = tt;
      unheard = λ e l. refl;
    }

pub state-later : (n n' most most' : ℕ) (own : Own) → n ≤ n' → most ≤ most' → State n most own → State n' most' own
state-later n n' most most' own h1 h2 h3 = grind (arith, nat_tests, sound-later)

-- something more happens
record Adds (n most n' most' : ℕ) (own : Own) (i : Inside) (b : Bodies) : Type 0 where
  shared : Marks
  sound : Sound shared n' most' b
  step : IsStep (holders_in own.bodies) i
  possible : IsPossible (holders_in own.bodies) (heard_from own.inside none_heard) i.transfer
  new : IsNew (heard_from own.inside none_heard) i.event
  holds : (p : ℕ) → holders_in b p ≡ holders_after i.transfer (holders_in own.bodies) p
  unheard : (e : ℕ) → n' ≤ e → heard_after i (heard_from own.inside none_heard) e ≡ None

noted-state : (n most n' most' : ℕ) (own : Own) (i : Inside) (b : Bodies) → State n most own → Adds n most n' most' own i b → State n' most' (noted i b own)
noted-state n most n' most' own i b s a =
    let before : holders_in own.bodies ≡ holders_from own.inside none_holds = λ k. λ p. s.holds p k in
    record {
      shared = a.shared;
      sound = a.sound;
      holds = λ p. a.holds p ∙ (ap (λ (h : Holders). holders_after i.transfer h p) before ∙ sym (ap (λ (h : Holders). h p) (holders-append own.inside i none_holds)));
      steps = steps-append own.inside i none_holds s.steps (subst (λ h. IsStep h i) before a.step);
      possible = possible-append own.inside i none_holds none_heard s.possible (subst (λ h. IsPossible h (heard_from own.inside none_heard) i.transfer) before a.possible);
      new = new-append own.inside i none_heard s.new a.new;
      unheard = λ e l. ap (λ (h : Hearings). h e) (heard-append own.inside i none_heard) ∙ a.unheard e l;
    }

-- a live process

some-view : (v w : View) → Some v ≡ Some w → v ≡ w
some-view v w e = cc

record IsSeen (shared : Marks) (n most : ℕ) (b : Bodies) (pid : ℕ) (v : View) : Type 0 where
  fits : Fits shared n (holds_of v.body)
  rooms : HasRooms v
  holds : holders_in b pid ≡ Some (holds_of v.body)
  counted : pid ≤ most

is-seen : (shared : Marks) (n most : ℕ) (b : Bodies) (pid : ℕ) (v : View) → Sound shared n most b → seen b pid ≡ Some v → IsSeen shared n most b pid v
is-seen shared n most b pid v h1 h2 = grind (arith, nat_tests, leb-false, leb-true, seen-rooms, some-view)

-- an instruction

pub plain-state : KeepsLengths → (n most pid : ℕ) (own : Own) (v : View) (effect : Effect) → seen own.bodies pid ≡ Some v → stands_at v ≡ effect → State n most own → IfSome (plain_by pid own v effect) (State n most)
plain-state keeps n most pid own v (Next instr cpu memory) e stands s =
    let is = is-seen s.shared n most own.bodies pid v s.sound e in
    let same = instr-holds cpu memory v in
    let w = after_instr cpu memory v in
    noted-state n most n most own
    (record { actor = Some pid; before = v.body.cpu; transfer = instr_transfer pid v.body.cpu (holds_of v.body) instr; event = None })
    (put pid w own.bodies) s
    (record {
      shared = s.shared;
      sound = put-sound s.shared n most pid w own.bodies (subst (Fits s.shared n) (sym same) is.fits) (instr-rooms keeps v instr cpu memory is.rooms stands) is.counted s.sound;
      step = follows.Steps pid instr (ap (λ (o : Option Holds). option_map (instr_inside pid instr v.body.cpu) o) is.holds);
      possible = instr-whole (holds_of v.body) v instr cpu memory is.rooms stands;
      new = tt;
      holds = λ p. kept-holders pid v w own.bodies p is.holds same;
      unheard = s.unheard;
    })
plain-state keeps n most pid own v Call e stands s = tt
plain-state keeps n most pid own v (End status) e stands s = tt

pub plain_in-state : KeepsLengths → (n most pid : ℕ) (own : Own) → State n most own → IfSome (plain_in pid own (seen own.bodies pid)) (State n most)
plain_in-state keeps n most pid own h1 = grind (arith, nat_tests, plain-state keeps)

-- an act

unheld-all : (n most event : ℕ) (own : Own) → n ≤ event → State n most own → (p : ℕ) → IfSome (holders_in own.bodies p) (IsUnheldBy event)
unheld-all n most event own h1 h2 p = grind (arith, nat_tests, unheld-by)

heard-later : (tr : Transfer) (event : Event) (heard : Hearings) (e : ℕ) → e ≢ event.number → heard_at tr event heard e ≡ heard e
heard-later (Begins pid made) event heard e ne = refl
heard-later tr event heard e ne = ap (λ (t : Bool). cond t (Some (record { len = event_len event.entry; founds = founds tr })) (heard e)) (ne_eqb e event.number ne)

-- the child that joins the group is above all, and is counted from then on
abbrev pub IsChild : ℕ → ℕ → Act → Type 0
IsChild most most' (Forks child) = (most < child) × (child ≤ most')
IsChild most most' (Founds child) = (most < child) × (child ≤ most')
IsChild most most' act = Unit {0}

child-counted : (most most' : ℕ) (act : Act) → IsChild most most' act → ChildCounted most' act
child-counted most most' (Forks child) c = c.1
child-counted most most' act c = tt

starts-well : (v : View) (act : Act) → ActsWell v act → StartsWell v act
starts-well v (Starts file block len) a = a
starts-well v act a = tt

act-possible : (event most most' pid : ℕ) (own : Own) (v : View) (act : Act) → State event most own → HasRooms v → ActsWell v act → IsChild most most' act
    → IsPossible (holders_in own.bodies) (heard_from own.inside none_heard) (transfer pid event (holds_of v.body) act)
act-possible event most most' pid own v (Gives at len result) s h a c = inside-whole (holds_of v.body) v at len h a
act-possible event most most' pid own v (Starts file block len) s h a c =
    (λ p ne. unheld-all event most event own (omega arith) s p, inside-whole (holds_of v.body) v block len h (or_parts (nat_lt MOST_BLOCK_BYTES len) (is_outside v block len) a).1)
act-possible event most most' pid own v (Forks child) s h a c =
    (unheld-all event most event own (omega arith) s, ap (λ (o : Option Body). is_some (option_map holds_of o)) (s.sound.few child c.0))
act-possible event most most' pid own v (Founds child) s h a c =
    (unheld-all event most event own (omega arith) s, ap (λ (o : Option Body). is_some (option_map holds_of o)) (s.sound.few child c.0))
act-possible event most most' pid own v Shares s h a c = unheld-all event most event own (omega arith) s
act-possible event most most' pid own v act s h a c = tt

pub act-state : KeepsLengths → (event most most' pid : ℕ) (e : Record) (own : Own) (v : View) (act : Act) → most ≤ most' → State event most own → seen own.bodies pid ≡ Some v
    → process_of e ≡ Some pid → ((h : Holders) → with_booted event e h ≡ h) → act_of v.body.cpu e ≡ Some act → ActsWell v act → IsChild most most' act
    → State (event + 1) most' (noted (event_inside pid event e v.body.cpu (holds_of v.body) act) (done pid event act own.bodies) own)
act-state keeps event most most' pid e own v act more s sees process plain tells well child =
    let is = is-seen s.shared event most own.bodies pid v s.sound sees in
    let marks = mark event act s.shared in
    let same = mark-same event act s.shared in
    let later = sound-later s.shared marks event (event + 1) most most' own.bodies same (omega arith) more s.sound in
    let i = event_inside pid event e v.body.cpu (holds_of v.body) act in
    let ends = sym (ap (λ (o : Option View). done_by pid event act o own.bodies) sees) in
    let lives = is.counted in
    let after : Bodies = done_by pid event act (Some v) own.bodies in
    let adds : Adds event most (event + 1) most' own i after = record {
      shared = marks;
      sound = done-sound marks event most' pid act v own.bodies (mark-here event act s.shared)
          (fits-later s.shared marks event (event + 1) (holds_of v.body) same (omega arith) is.fits) is.rooms
          (acted-rooms keeps event act v (starts-well v act well) is.rooms) (omega arith) (child-counted most most' act child) later;
      step = follows.Hears event e
          (ap (λ (h : Holders). event_step h event e v.body.cpu) (plain (holders_in own.bodies))
          ∙ (ap (λ (o : Option ℕ). option_and_then (event_of (holders_in own.bodies) event e v.body.cpu) o) process
          ∙ (ap (λ (o : Option Holds). event_by pid event e v.body.cpu o (act_of v.body.cpu e)) is.holds
          ∙ ap (λ (o : Option Act). event_by pid event e v.body.cpu (Some (holds_of v.body)) o) tells)));
      possible = act-possible event most most' pid own v act s is.rooms well child;
      new = ap is_some (s.unheard event (omega arith));
      holds = λ p. done-holders pid event act v own.bodies p is.holds;
      unheard = λ k l. heard-later i.transfer (record { number = event; entry = e }) (heard_from own.inside none_heard) k (λ q. (omega arith)) ∙ s.unheard k (omega arith);
    } in
    noted-state event most (event + 1) most' own i (done pid event act own.bodies) s (subst (Adds event most (event + 1) most' own i) ends adds)

-- the boot

pub boot-state : KeepsLengths → (event most most' : ℕ) (name : List ℕ) (give : Give) (own : Own) → most ≤ most' → 1 ≤ most' → State event most own
    → State (event + 1) most' (noted (event_inside 1 event (entry.Boot name give) (unborn event).body.cpu (holds_of (unborn event).body) (Starts give.bytes 0 0))
    (done 1 event (Starts give.bytes 0 0) (put 1 (unborn event) own.bodies)) own)
boot-state keeps event most most' name give own more one s =
    let act : Act = Starts give.bytes 0 0 in
    let e : Record = entry.Boot name give in
    let u = unborn event in
    let marks = mark event act s.shared in
    let here = mark-here event act s.shared in
    let later = sound-later s.shared marks event (event + 1) most most' own.bodies (mark-same event act s.shared) (omega arith) more s.sound in
    let rooms : HasRooms u = record { window = (let z = zeros-len WINDOW_LEN in omega arith); segment = omega arith } in
    let b = put 1 u own.bodies in
    let sound = put-sound marks (event + 1) most' 1 u own.bodies (record { window = (omega arith, here); segment = tt }) rooms one later in
    let v = view b u.body in
    let sees : seen b 1 ≡ Some v = ap (λ (o : Option Body). option_map (view b) o) (put-body 1 u own.bodies 1) in
    let is = is-seen marks (event + 1) most' b 1 v sound sees in
    let i = event_inside 1 event e u.body.cpu (holds_of u.body) act in
    let ends = sym (ap (λ (o : Option View). done_by 1 event act o b) sees) in
    let put_first : holders_in b ≡ with_holder 1 (Some (fresh_holds event)) (holders_in own.bodies) = λ k. λ p. put-holders 1 u own.bodies p k in
    let after : Bodies = done_by 1 event act (Some v) b in
    let adds : Adds event most (event + 1) most' own i after = record {
      shared = marks;
      sound = done-sound marks event most' 1 act v b here is.fits is.rooms (acted-rooms keeps event act v refl is.rooms) one tt sound;
      step = follows.Hears event e refl;
      possible = (λ p ne. unheld-all event most event own (omega arith) s p, tt);
      new = ap is_some (s.unheard event (omega arith));
      holds = λ p. done-holders 1 event act v b p is.holds ∙ (ap (λ (h : Holders). with_holder 1 (Some (fresh_holds event)) h p) put_first ∙ with-same (holders_in own.bodies) 1 p (Some (fresh_holds event)));
      unheard = λ k l. heard-later i.transfer (record { number = event; entry = e }) (heard_from own.inside none_heard) k (λ q. (omega arith)) ∙ s.unheard k (omega arith);
    } in
    noted-state event most (event + 1) most' own i (done 1 event act b) s (subst (Adds event most (event + 1) most' own i) ends adds)

-- the group's first process

pub begins-state : (event most most' g : ℕ) (e : Record) (start : Start) (own : Own) → most ≤ most' → g ≤ most' → length (beginning_in start).window ≤ WINDOW_LEN → State event most own → State (event + 1) most' (begins g event e start own)
begins-state event most most' g e start own more le room s =
    let act : Act = Exits in
    let marks = mark event act s.shared in
    let later = sound-later s.shared marks event (event + 1) most most' own.bodies (mark-same event act s.shared) (omega arith) more s.sound in
    let still : IsNone (heard_from own.inside none_heard event) = ap is_some (s.unheard event (omega arith)) in
    noted-state event most (event + 1) most' own (begin_inside g event e start) (begun g event (beginning_in start) own.bodies) s
    (record {
      shared = marks;
      sound = begun-sound marks event most' g (beginning_in start) own.bodies (mark-here event act s.shared) room le later;
      step = follows.Starts g event e refl;
      possible = (λ p ne. unheld-all event most event own (omega arith) s p, still);
      new = still;
      holds = λ p. put-holders g _ own.bodies p;
      unheard = λ k l. s.unheard k (omega arith);
    })
