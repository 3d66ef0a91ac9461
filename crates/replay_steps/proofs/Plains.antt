-- Instructions of a slice.
use Rattle.std.proofs.Common.{◌≡◌, ◌≤◌, ◌<◌, ℕ, zero, suc, ◌+◌, ◌-◌, Option, Some, None, IfSome, option_map, refl, sym, ap, subst, ◌∙◌, add-one, arith}
use Rattle.arn_base.specs.declared.machine.Cpu.{Cpu}
use Rattle.rv64_isa.specs.declared.instruction.Instr.{Instr}
use Rattle.rv64_model.specs.Instruction.{Effect, Next, Call, End}
use Rattle.acts_model.specs.Bodies.{View, seen, put}
use Rattle.acts_model.specs.Moved.{Inside}
use Rattle.acts_model.specs.Transfers.{holds_of, instr_transfer}
use Rattle.acts_model.specs.Views.{stands_at, after_instr}
use Rattle.guest_bodies.specs.Fresh.{OthersStayUnheld}
use Rattle.guest_bodies.specs.Follows.{Executed}
use Rattle.guest_bodies.specs.Shown.{Guests, seen_in}
use Rattle.guest_bodies.specs.Told.{IsStop, ToldMany, ToldOne}
use Rattle.history_model.specs.Alone as alone
use Rattle.history_model.specs.Alone.{Own, Fails}
use Rattle.replay_steps.specs.Notices.{Listener}
use Rattle.replay_steps.specs.Standing.{GoesOn, Reaches, Stands}
use Rattle.replay_steps.proofs.GoingOn.{goes-nowhere, goes-one, goes-both}

plain-stops : (pid : ℕ) (own : Own) (v : View) (e : Effect) → IsStop e → alone.plain_by pid own v e ≡ None
plain-stops pid own v (Next instr cpu memory) stop = absurd stop
plain-stops pid own v Call stop = refl
plain-stops pid own v (End status) stop = refl

seen-stops : (pid : ℕ) (own : Own) (o : Option View) → IfSome o (λ (v : View). IsStop (stands_at v)) → alone.plain_in pid own o ≡ None
seen-stops pid own None stop = refl
seen-stops pid own (Some v) stop = plain-stops pid own v (stands_at v) stop

-- nor does one that stands at a call, or at an instruction that ends it
pub none-stops : (guests : Guests) (event pid : ℕ) (own : Own) → Stands guests event own → IfSome (seen_in guests pid) (λ (v : View). IsStop (stands_at v)) → alone.plain_in pid own (seen own.bodies pid) ≡ None
none-stops guests event pid own stands stop =
    ap (alone.plain_in pid own) (sym (stands.shows.same pid)) ∙ seen-stops pid own (seen_in guests pid) stop

-- what happens inside at an instruction
abbrev pub plain_inside : ℕ → View → Instr → Inside
plain_inside pid v instr =
    record { actor = Some pid; before = v.body.cpu; transfer = instr_transfer pid v.body.cpu (holds_of v.body) instr; event = None }

pub cpu-is : (o : Option View) (v : View) (cpu : Cpu) → o ≡ Some v → option_map (λ (w : View). w.body.cpu) o ≡ Some cpu → cpu ≡ v.body.cpu
cpu-is o v cpu is read = let e : Some cpu ≡ Some v.body.cpu = sym read ∙ ap (option_map (λ (w : View). w.body.cpu)) is in cc

-- an instruction was run that the next one follows
record RanOne {A : Type 0} (l : Listener A) (x : A) (before : ℕ) (own : Own) (pid : ℕ) (guests : Guests) (event : ℕ) (y : A) (after : ℕ) : Type 0 where
  own' : Own
  is_plain : alone.plain_in pid own (seen own.bodies pid) ≡ Some own'
  stands : Stands guests event own'
  goes_on : GoesOn l x before own own' y after

-- what the observer is told of an instruction has the registers before it
told-ran : {A : Type 0} (l : Listener A) (x y : A) (a b : ℕ) (guests guests' : Guests) (event pid : ℕ) (own : Own) → OthersStayUnheld → Stands guests event own → ToldOne l.runs pid guests guests' x y → b ≡ a + 1 → RanOne l x a own pid guests' event y b
told-ran l x y a b guests guests' event pid own law stands one counted =
    let ex : Executed one.instr pid guests guests' = one.executed in
    let seen-is : seen own.bodies pid ≡ Some ex.before = sym (stands.shows.same pid) ∙ ex.stood in
    let own' : Own = alone.noted (plain_inside pid ex.before one.instr) (put pid (after_instr ex.cpu ex.memory ex.before) own.bodies) own in
    record {
      own' = own';
      is_plain = ap (alone.plain_in pid own) seen-is ∙ ap (alone.plain_by pid own ex.before) ex.is_next;
      stands = record {
        shows = ex.follows.shows own.bodies stands.shows;
        unheld = λ (other : ℕ) (le : event ≤ other). law.runs own.bodies pid other ex.before ex.cpu ex.memory seen-is (stands.unheld other le);
      };
      goes_on = goes-one l x y a b own own' (plain_inside pid ex.before one.instr) refl (y, one.told, refl) counted;
    }

-- how far a slice has come
pub record Halfway {A : Type 0} (l : Listener A) (x : A) (before : ℕ) (own : Own) (slice : alone.Slice) (count at : ℕ) (guests : Guests) (event : ℕ) (y : A) (after : ℕ) : Type 0 where
  pub own' : Own
  pub same : alone.plains slice 0 count own ≡ alone.plains slice at (count - at) own'
  pub stands : Stands guests event own'
  pub goes_on : GoesOn l x before own own' y after

plains-next : (slice : alone.Slice) (at n : ℕ) (own own' : Own) → alone.plain_in slice.pid own (seen own.bodies slice.pid) ≡ Some own' → alone.plains slice at (suc n) own ≡ alone.plains slice (suc at) n own'
plains-next slice at n own own' is = ap (λ (o : Option Own). alone.plain_or slice at o (alone.plains slice (suc at) n)) is

plains-stop : (slice : alone.Slice) (at n : ℕ) (own : Own) → alone.plain_in slice.pid own (seen own.bodies slice.pid) ≡ None → alone.plains slice at (suc n) own ≡ Fails (record { event = slice.end_event; said = slice.ran; found = at })
plains-stop slice at n own is = ap (λ (o : Option Own). alone.plain_or slice at o (alone.plains slice (suc at) n)) is

module _ {A : Type 0} (l : Listener A) (x : A) (a : ℕ) (own : Own) (slice : alone.Slice) (count : ℕ) where
  halfway-first : (guests : Guests) (event : ℕ) → Stands guests event own → Halfway l x a own slice count 0 guests event x a
  halfway-first guests event stands =
      record { own' = own; same = ap (λ (n : ℕ). alone.plains slice 0 n own) (omega arith); stands = stands; goes_on = goes-nowhere l x a own }

  halfway-next : (at event : ℕ) (guests guests' : Guests) (y z : A) (b d : ℕ) → at < count → (half : Halfway l x a own slice count at guests event y b) → RanOne l y b half.own' slice.pid guests' event z d → Halfway l x a own slice count (at + 1) guests' event z d
  halfway-next at event guests guests' y z b d lt half ran =
      let left : count - at ≡ suc (count - (at + 1)) = omega arith in
      record {
        own' = ran.own';
        same = half.same ∙ (ap (λ (n : ℕ). alone.plains slice at n half.own') left
            ∙ (plains-next slice at (count - (at + 1)) half.own' ran.own' ran.is_plain ∙ ap (λ (k : ℕ). alone.plains slice k (count - (at + 1)) ran.own') (sym (add-one at))));
        stands = ran.stands;
        goes_on = goes-both l x y z a b d own half.own' ran.own' half.goes_on ran.goes_on;
      }

  pub halfway-stop : (at event : ℕ) (guests : Guests) (y : A) (b : ℕ) → at < count → (half : Halfway l x a own slice count at guests event y b) → alone.plain_in slice.pid half.own' (seen half.own'.bodies slice.pid) ≡ None → alone.plains slice 0 count own ≡ Fails (record { event = slice.end_event; said = slice.ran; found = at })
  halfway-stop at event guests y b lt half stops =
      let left : count - at ≡ suc (count - (at + 1)) = omega arith in
      half.same ∙ (ap (λ (n : ℕ). alone.plains slice at n half.own') left ∙ plains-stop slice at (count - (at + 1)) half.own' stops)

  halfway-last : (event : ℕ) (guests : Guests) (y : A) (b : ℕ) → Halfway l x a own slice count count guests event y b → Reaches l x a own (alone.plains slice 0 count own) guests event y b
  halfway-last event guests y b half =
      let none : count - count ≡ 0 = omega arith in
      record { own' = half.own'; makes = half.same ∙ ap (λ (n : ℕ). alone.plains slice count n half.own') none; stands = half.stands; goes_on = half.goes_on }

  -- it has come to its end
  pub halfway-end : (at event : ℕ) (guests : Guests) (y : A) (b : ℕ) → at ≤ count → count ≤ at → Halfway l x a own slice count at guests event y b → Reaches l x a own (alone.plains slice 0 count own) guests event y b
  halfway-end at event guests y b le ge half =
      let e : at ≡ count = omega arith in
      halfway-last event guests y b (subst (λ (n : ℕ). Halfway l x a own slice count n guests event y b) e half)

  -- instructions were run, one after the other
  pub halfway-told : (n event : ℕ) (guests guests' : Guests) (y : A) → n ≤ count → OthersStayUnheld → Stands guests event own → ToldMany l.runs slice.pid n guests guests' x y → Halfway l x a own slice count n guests' event y (a + n)
  halfway-told zero event guests guests' y le law stands told =
      let none : a ≡ a + 0 = omega arith in
      subst (λ (now : Guests). Halfway l x a own slice count 0 now event y (a + 0)) (sym told.0)
      (subst (λ (z : A). Halfway l x a own slice count 0 guests event z (a + 0)) (sym told.1)
      (subst (λ (b : ℕ). Halfway l x a own slice count 0 guests event x b) none (halfway-first guests event stands)))
  halfway-told (suc n) event guests guests' y le law stands told =
      let less : n < count = omega (arith, le) in
      let half : Halfway l x a own slice count n told.0 event told.1 (a + n) = halfway-told n event guests told.0 told.1 (omega (arith, le)) law stands told.2 in
      let counted : a + suc n ≡ a + n + 1 = omega arith in
      subst (λ (at : ℕ). Halfway l x a own slice count at guests' event y (a + suc n)) (add-one n)
      (halfway-next n event told.0 guests' told.1 y (a + n) (a + suc n) less half (told-ran l told.1 y (a + n) (a + suc n) told.0 guests' event slice.pid half.own' law half.stands told.3 counted))

  -- all that were asked for
  pub told-all : (n event : ℕ) (guests guests' : Guests) (y : A) (b : ℕ) → n ≤ count → count ≤ n → b ≡ a + n → OthersStayUnheld → Stands guests event own → ToldMany l.runs slice.pid n guests guests' x y → Reaches l x a own (alone.plains slice 0 count own) guests' event y b
  told-all n event guests guests' y b le ge counted law stands told =
      subst (λ (c : ℕ). Reaches l x a own (alone.plains slice 0 count own) guests' event y c) (sym counted)
      (halfway-end n event guests' y (a + n) le ge (halfway-told n event guests guests' y le law stands told))

  -- fewer, where the process stops
  pub told-fewer : (n event : ℕ) (guests guests' : Guests) (y : A) → n < count → OthersStayUnheld → Stands guests event own → ToldMany l.runs slice.pid n guests guests' x y → IfSome (seen_in guests' slice.pid) (λ (v : View). IsStop (stands_at v)) → alone.plains slice 0 count own ≡ Fails (record { event = slice.end_event; said = slice.ran; found = n })
  told-fewer n event guests guests' y less law stands told stop =
      let half : Halfway l x a own slice count n guests' event y (a + n) = halfway-told n event guests guests' y (omega (arith, less)) law stands told in
      halfway-stop n event guests' y (a + n) less half (none-stops guests' event slice.pid half.own' half.stands stop)
