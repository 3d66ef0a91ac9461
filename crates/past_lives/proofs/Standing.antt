-- A group alone, record by record, beside what the records tell of its members.
use Rattle.std.proofs.Common.{◌≡◌, ℕ, zero, suc, ◌+◌, ◌≤◌, ◌&&◌, if◌then◌else◌, Bool, true, false, List, Option, Some, None, IfSome, option_map, refl, sym, ap, subst, ◌∙◌, arith, eqb-true, eq-eqb}
use Rattle.std.proofs.lemmas.Bool.Decides.{nat_tests}
use Rattle.std.proofs.lemmas.Option.{same_Some}
use Rattle.arn_base.specs.declared.machine.Cpu.{Cpu}
use Rattle.arn_base.specs.declared.records.Record.{Record}
use Rattle.arn_base.specs.declared.records.Start.{Start}
use Rattle.acts_model.specs.Acts.{Act, Founds}
use Rattle.acts_model.specs.Bodies.{Body, View, seen, view}
use Rattle.acts_model.specs.Disagreement.{Wrong, wrong_with}
use Rattle.acts_model.specs.Records.{life_told, lives_after}
use Rattle.acts_model.specs.Told.{act_of}
use Rattle.acts_model.specs.Views.{cpu_at, stands_at}
use Rattle.history_model.specs.Alone.{Own, Made, Makes, Fails, Slice, Standing, act_done, after_last, and_then, begins, begins_by, ends_slice, happens, made_if, no_instruction, plain_in, plain_or, plains, record_seen, settled, slice_of, unless_wrong}
use Rattle.history_model.specs.Broken.{child_in, greatest, greatest_after, misnumbers, start_in}
use Rattle.history_model.specs.Groups.{Groups, groups_told, is_number}
use Rattle.history_model.specs.Moments.{segments_told}
use Rattle.past_lives.proofs.Does.{Does, IsFounded, IsTold, act_groups, act_held, act_live}
use Rattle.past_lives.proofs.Records.{child-number}
use Rattle.past_lives.proofs.Sizes.{StartsWell}
use Rattle.past_lives.proofs.Steps.{State, act-state, live_after, plain-state, record-well, sounds-later}
use Rattle.past_lives.proofs.Tells.{IsChild, IsFounding, Tells, later-act-lives, lives-as, stranger-lives}
use Rattle.window_laws.specs.Lengths.{KeepsLengths}

-- what holds of what was made, unless the records disagree
abbrev pub Ends : (Own → Type 0) → Made → Type 0
Ends P (Makes own) = P own
Ends P (Fails disagrees) = Unit {0}

pub and_then-ends : (P Q : Own → Type 0) (made : Made) (goes_on : Own → Made) → Ends P made → ((own : Own) → P own → Ends Q (goes_on own)) → Ends Q (and_then made goes_on)
and_then-ends P Q (Makes own) goes_on h k = k own h
and_then-ends P Q (Fails disagrees) goes_on h k = tt

pub ends-ends : (P Q : Own → Type 0) (made : Made) → Ends P made → ((own : Own) → P own → Q own) → Ends Q made
ends-ends P Q (Makes own) h k = k own h
ends-ends P Q (Fails disagrees) h k = tt

-- a child that a record tells of has a new number

pub more-after : (e : Record) (n : ℕ) → n ≤ greatest_after e n
more-after e n = grind (arith, nat_tests)

pub child-after : (e : Record) (n child : ℕ) → child_in e ≡ Some child → child ≤ greatest_after e n
child-after e n child h1 = grind (arith, nat_tests, same_Some)

pub is-new : (before : List Record) (e : Record) (child : ℕ) → misnumbers before (child_in e) ≡ false → child_in e ≡ Some child → child ≡ greatest before + 1
is-new before e child m c = child-number before child (subst (λ (o : Option ℕ). misnumbers before o ≡ false) c m)

pub told-child : (before : List Record) (e : Record) (act : Act) → misnumbers before (child_in e) ≡ false → IsTold e act → IsChild (greatest before) (greatest_after e (greatest before)) act
told-child before e act h1 h2 = grind (arith, nat_tests, child-after, is-new)

told-founding : (g : ℕ) (e : Record) (act : Act) → IsTold e act → IsFounding g act → IsFounded g e
told-founding g e (Founds child) t f = (t.0 ∙ ap (λ (n : ℕ). Some n) f, t.1)
told-founding g e act t f = absurd f

-- an event of a process: its act, by the registers before it
pub record Happening (event most most' pid : ℕ) (e : Record) : Type 0 where
  pub act : Cpu → Act
  pub tells : (cpu : Cpu) → act_of cpu e ≡ Some (act cpu)
  pub does : (cpu : Cpu) → Does event pid e (act cpu)
  pub child : (cpu : Cpu) → IsChild most most' (act cpu)

module _ (W : Type 0) (keeps : W → KeepsLengths) (g : ℕ) where
  -- instructions

  plains-ends : (n most : ℕ) (groups : Groups) (live : ℕ → Bool) (held : ℕ → Option ℕ) (slice : Slice) (ran left : ℕ) (own : Own) → State W g n most groups live held own
      → Ends (State W g n most groups live held) (plains slice ran left own)
  plains-ends n most groups live held slice ran zero own s = s
  plains-ends n most groups live held slice ran (suc left) own s =
      by_plain (plain_in slice.pid own (seen own.bodies slice.pid)) (plain-state W keeps g n most slice.pid groups live held own s) (plains-ends n most groups live held slice (suc ran) left)
    where
      by_plain : (o : Option Own) → IfSome o (State W g n most groups live held) → ((own : Own) → State W g n most groups live held own → Ends (State W g n most groups live held) (plains slice (suc ran) left own))
          → Ends (State W g n most groups live held) (plain_or slice ran o (plains slice (suc ran) left))
      by_plain o h1 h2 = grind (arith, nat_tests)

  pub settled-ends : (n most : ℕ) (groups : Groups) (live : ℕ → Bool) (held : ℕ → Option ℕ) (t : Standing) → Ends (State W g n most groups live held) t.made → Ends (State W g n most groups live held) (settled t)
  settled-ends n most groups live held t h =
      and_then-ends (State W g n most groups live held) (State W g n most groups live held) t.made (plains (slice_of t) 0 t.owed) h (plains-ends n most groups live held (slice_of t) 0 t.owed)

  -- an event of a member that lives

  pub happens-ends : (event most most' pid : ℕ) (groups : Groups) (live : ℕ → Bool) (held : ℕ → Option ℕ) (e : Record) (own : Own) → most ≤ most' → Happening event most most' pid e → (IsFounded g e → ⊥)
      → groups pid ≡ Some g → live pid ≡ true → State W g event most groups live held own
      → Ends (State W g (event + 1) most' (groups_told e groups) (live_after e live) (segments_told event e held)) (happens pid event e own)
  happens-ends event most most' pid groups live held e own more h unfounded is alive s = by_view (seen own.bodies pid) refl
    where
      dead : (o : Option Body) → option_map (view own.bodies) o ≡ None → Tells o (live pid) (held pid) → live pid ≡ false
      dead o h1 h2 = grind (arith, nat_tests)

      by_act : (v : View) → seen own.bodies pid ≡ Some v → IfSome (act_of v.body.cpu e) (StartsWell v)
          → Ends (State W g (event + 1) most' (groups_told e groups) (live_after e live) (segments_told event e held)) (act_done pid event e v (act_of v.body.cpu e) own)
      by_act v sees well =
          let cpu = v.body.cpu in
          let starts : StartsWell v (h.act v.body.cpu) = subst (λ (o : Option Act). IfSome o (StartsWell v)) (h.tells cpu) well in
          subst (λ (o : Option Act). Ends (State W g (event + 1) most' (groups_told e groups) (live_after e live) (segments_told event e held)) (act_done pid event e v o own)) (sym (h.tells cpu))
          (act-state W keeps g event most most' pid groups live held e own v (h.act cpu) (h.does cpu) more (h.child cpu) (λ f. unfounded (told-founding g e (h.act cpu) (h.does cpu).told f)) is sees starts s _ refl)

      by_wrong : (v : View) → seen own.bodies pid ≡ Some v → (w : Option Wrong) → wrong_with v (stands_at v) e ≡ w
          → Ends (State W g (event + 1) most' (groups_told e groups) (live_after e live) (segments_told event e held)) (unless_wrong event w (act_done pid event e v (act_of v.body.cpu e) own))
      by_wrong v sees None w = by_act v sees (record-well v (stands_at v) e w)
      by_wrong v sees (Some wrong) w = tt

      by_view : (o : Option View) → seen own.bodies pid ≡ o → Ends (State W g (event + 1) most' (groups_told e groups) (live_after e live) (segments_told event e held)) (record_seen pid event e o own)
      by_view o h1 = grind (arith, nat_tests, dead, by_wrong)

  slice-ends : (most most' : ℕ) (groups : Groups) (live : ℕ → Bool) (held : ℕ → Option ℕ) (slice : Slice) (owed : ℕ) (e : Record) (own : Own) → most ≤ most' → Happening slice.event most most' slice.pid e
      → ((made : Made) → Ends (State W g (slice.event + 1) most' (groups_told e groups) (live_after e live) (segments_told slice.event e held)) (no_instruction slice.event e made))
      → (IsFounded g e → ⊥) → groups slice.pid ≡ Some g → live slice.pid ≡ true → State W g slice.event most groups live held own
      → Ends (State W g (slice.event + 1) most' (groups_told e groups) (live_after e live) (segments_told slice.event e held)) (ends_slice slice owed e own)
  slice-ends most most' groups live held slice zero e own more h none unfounded is alive s = none (Makes own)
  slice-ends most most' groups live held slice (suc left) e own more h none unfounded is alive s =
      and_then-ends (State W g slice.event most groups live held) (State W g (slice.event + 1) most' (groups_told e groups) (live_after e live) (segments_told slice.event e held))
      (plains slice 0 left own) (happens slice.pid slice.event e) (plains-ends slice.event most groups live held slice 0 left own s)
      (λ o k. happens-ends slice.event most most' slice.pid groups live held e o more h unfounded is alive k)

module _ (W : Type 0) (g : ℕ) where
  -- an event of a process that isn't a member
  pub stranger-state : (event most most' pid : ℕ) (groups : Groups) (live : ℕ → Bool) (held : ℕ → Option ℕ) (e : Record) (own : Own) → most ≤ most' → Happening event most most' pid e → (IsFounded g e → ⊥)
      → (groups pid ≡ Some g → ⊥) → State W g event most groups live held own → State W g (event + 1) most' (groups_told e groups) (live_after e live) (segments_told event e held) own
  stranger-state event most most' pid groups live held e own more h unfounded other s =
      let cpu = cpu_at 0 in
      let act = h.act cpu in
      let does = h.does cpu in
      record {
        lives = lives-as g (act_groups act pid groups) (groups_told e groups) most' (act_live act pid live) (live_after e live) (act_held event act pid held) (segments_told event e held) own.bodies
            (does.groups groups) (does.live live) (does.held held)
            (stranger-lives g event groups most most' live held own.bodies pid act more (h.child cpu) (λ f. unfounded (told-founding g e act does.told f)) other s.lives);
        sounds = λ w. sounds-later event (event + 1) own.bodies (omega arith) (s.sounds w);
      }

  -- one that comes later than the moment
  later-state : (event most most' pid : ℕ) (groups : Groups) (live : ℕ → Bool) (held : ℕ → Option ℕ) (e : Record) (own : Own) → most ≤ most' → Happening event most most' pid e
      → State W g event most groups live held own → State W g (event + 1) most' (groups_told e groups) live held own
  later-state event most most' pid groups live held e own more h s =
      let cpu = cpu_at 0 in
      let act = h.act cpu in
      record {
        lives = lives-as g (act_groups act pid groups) (groups_told e groups) most' live live held held own.bodies ((h.does cpu).groups groups) (λ p. refl) (λ p. refl)
            (later-act-lives g groups most most' live held own.bodies pid act more (h.child cpu) s.lives);
        sounds = λ w. sounds-later event (event + 1) own.bodies (omega arith) (s.sounds w);
      }

-- a group begins, or nothing happens
begins-ends : (P : Own → Type 0) (g event : ℕ) (e : Record) (own : Own) → ((start : Start) → start_in e ≡ Some start → IsFounded g e → P (begins g event e start own)) → ((IsFounded g e → ⊥) → P own) → Ends P (begins_by g event e own)
begins-ends P g event e own h1 h2 = grind (arith, nat_tests, eq-eqb, eqb-true, same_Some)

-- what is told where the event has happened, and what else

abbrev pub live_if : Bool → Record → (ℕ → Bool) → ℕ → Bool
live_if b e live p = if b then lives_after (life_told e) p (live p) else live p

abbrev pub held_if : Bool → ℕ → Record → (ℕ → Option ℕ) → ℕ → Option ℕ
held_if b n e held p = if b then segments_told n e held p else held p

pub number-tells : (g : ℕ) (o : Option ℕ) → is_number g o ≡ true → o ≡ Some g
number-tells g None e = absurd (cc)
number-tells g (Some m) e = ap (λ (n : ℕ). Some n) (eqb-true m g e)

pub number-told : (g : ℕ) (o : Option ℕ) → is_number g o ≡ false → o ≡ Some g → ⊥
number-told g None e f = cc
number-told g (Some m) e f = let same = same_Some m g f in let here = eq-eqb m g same in cc

-- the last event of a slice
pub record Lasts (W : Type 0) (g pid : ℕ) (most most' : ℕ) (live : ℕ → Bool) (held : ℕ → Option ℕ) (e : Record) (t : Standing) : Type 0 where
  pub more : most ≤ most'
  pub same : t.pid ≡ pid
  pub happening : Happening t.events most most' t.pid e
  pub none : (made : Made) → Ends (State W g (t.events + 1) most' (groups_told e t.groups) (live_after e live) (segments_told t.events e held)) (no_instruction t.events e made)
  pub unfounded : t.groups pid ≡ Some g → IsFounded g e → ⊥
  pub alive : t.is_ended ≡ true → live pid ≡ true
  pub begin : (own : Own) (start : Start) → start_in e ≡ Some start → IsFounded g e → State W g t.events most t.groups live held own
      → State W g (t.events + 1) most' (groups_told e t.groups) (live_after e live) (segments_told t.events e held) (begins g t.events e start own)
  pub made : Ends (State W g t.events most t.groups live held) t.made

-- what is kept before an event that happens, and behind it
abbrev Before : (W : Type 0) (g most : ℕ) (live : ℕ → Bool) (held : ℕ → Option ℕ) → Standing → Own → Type 0
Before W g most live held t = State W g t.events most t.groups live held

abbrev After : (W : Type 0) (g most' : ℕ) (live : ℕ → Bool) (held : ℕ → Option ℕ) → Record → Standing → Own → Type 0
After W g most' live held e t = State W g (t.events + 1) most' (groups_told e t.groups) (live_after e live) (segments_told t.events e held)

pub last-made : (W : Type 0) (keeps : W → KeepsLengths) (g pid most most' : ℕ) (live : ℕ → Bool) (held : ℕ → Option ℕ) (e : Record) (t : Standing) → Lasts W g pid most most' live held e t
    → Ends (State W g (t.events + 1) most' (groups_told e t.groups) (live_if t.is_ended e live) (held_if t.is_ended t.events e held)) (after_last g pid e t).made
last-made W keeps g pid most most' live held e t l = by_ended t.is_ended refl
  where
    own : t.is_ended ≡ true → t.groups pid ≡ Some g → Ends (After W g most' live held e t) (made_if true (made_if true t.made (ends_slice (slice_of t) t.owed e)) (begins_by g t.events e))
    own ended is =
        and_then-ends (After W g most' live held e t) (After W g most' live held e t) (and_then t.made (ends_slice (slice_of t) t.owed e)) (begins_by g t.events e)
        (and_then-ends (Before W g most live held t) (After W g most' live held e t) t.made (ends_slice (slice_of t) t.owed e) l.made
        (λ o s. slice-ends W keeps g most most' t.groups live held (slice_of t) t.owed e o l.more l.happening l.none (l.unfounded is) (ap t.groups l.same ∙ is) (ap live l.same ∙ l.alive ended) s))
        (λ o s. begins-ends (After W g most' live held e t) g t.events e o (λ start starts f. absurd (l.unfounded is f)) (λ no. s))

    other : (t.groups pid ≡ Some g → ⊥) → Ends (After W g most' live held e t) (made_if true (made_if false t.made (ends_slice (slice_of t) t.owed e)) (begins_by g t.events e))
    other isnt =
        and_then-ends (Before W g most live held t) (After W g most' live held e t) t.made (begins_by g t.events e) l.made
        (λ o s. begins-ends (After W g most' live held e t) g t.events e o (λ start starts f. l.begin o start starts f s)
        (λ no. stranger-state W g t.events most most' t.pid t.groups live held e o l.more l.happening no (λ is. isnt (sym (ap t.groups l.same) ∙ is)) s))

    by_member : t.is_ended ≡ true → (b : Bool) → is_number g (t.groups pid) ≡ b → Ends (After W g most' live held e t) (made_if true (made_if b t.made (ends_slice (slice_of t) t.owed e)) (begins_by g t.events e))
    by_member ended true k = own ended (number-tells g (t.groups pid) k)
    by_member ended false k = other (number-told g (t.groups pid) k)

    by_ended : (ended : Bool) → t.is_ended ≡ ended
        → Ends (State W g (t.events + 1) most' (groups_told e t.groups) (live_if ended e live) (held_if ended t.events e held))
        (made_if ended (made_if (ended && is_number g (t.groups pid)) t.made (ends_slice (slice_of t) t.owed e)) (begins_by g t.events e))
    by_ended true k = by_member k (is_number g (t.groups pid)) refl
    by_ended false k = ends-ends (Before W g most live held t) (State W g (t.events + 1) most' (groups_told e t.groups) live held) t.made l.made (λ o s. later-state W g t.events most most' t.pid t.groups live held e o l.more l.happening s)
