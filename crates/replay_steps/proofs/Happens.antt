-- What happens at an event of a process's own.
use Rattle.std.proofs.Common.{◌≡◌, ◌≢◌, ◌≤◌, ℕ, ◌+◌, Bool, true, false, IsTrue, List, [], ◌∷◌, ◌++◌, count_by, Option, Some, None, IfSome, option_and_then, refl, sym, ap, subst, ◌∙◌, arith}
use Rattle.arn_base.specs.declared.machine.Cpu.{Cpu}
use Rattle.arn_base.specs.declared.records.Record.{Record}
use Rattle.arn_base.specs.declared.records.Record.TheVariants as entry
use Rattle.acts_model.specs.Acts.{Act, Returns, Receives, Gives, Starts, Forks, Founds, Shares, Leaves, Delivers, Exits, Faults, Dies, done}
use Rattle.acts_model.specs.Bodies.{View, seen}
use Rattle.acts_model.specs.Disagreement.{Wrong, wrong_with}
use Rattle.acts_model.specs.Moved.{Inside, is_call_or_end}
use Rattle.acts_model.specs.Told.{act_of}
use Rattle.acts_model.specs.Transfers.{holds_of, transfer}
use Rattle.acts_model.specs.Views.{stands_at}
use Rattle.guest_bodies.specs.Fresh.{IsUnheld, OthersStayUnheld}
use Rattle.guest_bodies.specs.Follows.{Follows}
use Rattle.guest_bodies.specs.Shown.{Guests, IsLive, seen_in}
use Rattle.history_model.specs.Alone as alone
use Rattle.history_model.specs.Alone.{Own, Makes}
use Rattle.replay_steps.specs.Calls.{OfSeen, child_joined, if_ticked, is_own}
use Rattle.replay_steps.specs.Notices.{Listener, Notice, BeginsAt, Happens, Told, booted, notices}
use Rattle.replay_steps.specs.Standing.{Reaches, Stands, is_counted}
use Rattle.replay_steps.proofs.GoingOn.{goes-one}
use Rattle.replay_steps.proofs.Lives.{live-sees}

-- what happens inside at an event
abbrev pub inside_of : ℕ → ℕ → Record → View → Act → Inside
inside_of pid event e v act =
    record { actor = Some pid; before = v.body.cpu; transfer = transfer pid event (holds_of v.body) act; event = Some (record { number = event; entry = e }) }

-- what is told behind it
abbrev pub joins : ℕ → ℕ → Option ℕ → List Notice
joins pid event None = []
joins pid event (Some child) = BeginsAt child event (Some pid) ∷ []

own-booted : (event : ℕ) (e : Record) → IsTrue (is_own e) → booted event e ≡ []
own-booted event (entry.Signal pid signal cut handler) own = refl
own-booted event (entry.Call pid number result more) own = refl
own-booted event (entry.End pid status) own = refl
own-booted event (entry.File name bytes) own = cc
own-booted event (entry.Boot name give) own = cc
own-booted event (entry.Typed bytes) own = cc
own-booted event (entry.Unplug device) own = cc
own-booted event (entry.Slice pid ran) own = cc

module _ (pid event : ℕ) (e : Record) (v : View) (own : IsTrue (is_own e)) where
  -- the event, and then a child that joins
  with_booted : (ns : List Notice) → booted event e ++ ns ≡ ns
  with_booted ns = ap (λ (ms : List Notice). ms ++ ns) (own-booted event e own)

  pub act-notices : (act : Act) → notices (inside_of pid event e v act) ≡ Happens event e v.body.cpu ∷ joins pid event (child_joined act)
  act-notices (Returns r) = with_booted (Happens event e v.body.cpu ∷ [])
  act-notices (Receives at bytes r) = with_booted (Happens event e v.body.cpu ∷ [])
  act-notices (Gives at len r) = with_booted (Happens event e v.body.cpu ∷ [])
  act-notices (Starts file block len) = with_booted (Happens event e v.body.cpu ∷ [])
  act-notices (Forks child) = with_booted (Happens event e v.body.cpu ∷ BeginsAt child event (Some pid) ∷ [])
  act-notices (Founds child) = with_booted (Happens event e v.body.cpu ∷ [])
  act-notices Shares = with_booted (Happens event e v.body.cpu ∷ [])
  act-notices Leaves = with_booted (Happens event e v.body.cpu ∷ [])
  act-notices (Delivers s h cut) = with_booted (Happens event e v.body.cpu ∷ [])
  act-notices Exits = with_booted (Happens event e v.body.cpu ∷ [])
  act-notices (Faults status) = with_booted (Happens event e v.body.cpu ∷ [])
  act-notices (Dies s cut) = with_booted (Happens event e v.body.cpu ∷ [])

-- one is counted of a call or of an end
pub act-counted : (pid event : ℕ) (e : Record) (v : View) (act : Act) → is_counted (inside_of pid event e v act) ≡ is_call_or_end e
act-counted pid event e v (Returns r) = refl
act-counted pid event e v (Receives at bytes r) = refl
act-counted pid event e v (Gives at len r) = refl
act-counted pid event e v (Starts file block len) = refl
act-counted pid event e v (Forks child) = refl
act-counted pid event e v (Founds child) = refl
act-counted pid event e v Shares = refl
act-counted pid event e v Leaves = refl
act-counted pid event e v (Delivers s h cut) = refl
act-counted pid event e v Exits = refl
act-counted pid event e v (Faults status) = refl
act-counted pid event e v (Dies s cut) = refl

count-one : (p : Inside → Bool) (i : Inside) (b : Bool) → p i ≡ b → if_ticked b ≡ count_by p (i ∷ [])
count-one p i true e = rw e refl
count-one p i false e = rw e refl

-- what a group alone makes of the event
pub happens-seen : (pid event : ℕ) (e : Record) (own : Own) (v : View) → seen own.bodies pid ≡ Some v → alone.happens pid event e own ≡ alone.record_done pid event e v own
happens-seen pid event e own v is = ap (λ (o : Option View). alone.record_seen pid event e o own) is

happens-right : (pid event : ℕ) (e : Record) (own : Own) (v : View) (act : Act) → seen own.bodies pid ≡ Some v → None ≡ wrong_with v (stands_at v) e → act_of v.body.cpu e ≡ Some act → alone.happens pid event e own ≡ Makes (alone.noted (inside_of pid event e v act) (done pid event act own.bodies) own)
happens-right pid event e own v act is right told =
    happens-seen pid event e own v is
    ∙ (ap (λ (o : Option Wrong). alone.unless_wrong event o (alone.act_done pid event e v (act_of v.body.cpu e) own)) (sym right)
    ∙ ap (λ (o : Option Act). alone.act_done pid event e v o own) told)

module _ {A : Type 0} (l : Listener A) (x y z : A) (a b : ℕ) (guests guests' : Guests) (event pid : ℕ) (e : Record) (own : Own) (stands : Stands guests event own) where
  told-all : (v : View) (child : Option ℕ) → l.hears x event e v.body.cpu y → Told l (joins pid event child) y z → Told l (Happens event e v.body.cpu ∷ joins pid event child) x z
  told-all v child hears begins = (y, hears, begins)

  later-unheld : OthersStayUnheld → (act : Act) (other : ℕ) → event + 1 ≤ other → IsUnheld other (done pid event act own.bodies)
  later-unheld law act other le = law.acts own.bodies pid event other act (ne other le) (stands.unheld other (omega arith))
    where
      ne : (other : ℕ) → event + 1 ≤ other → other ≢ event
      ne other le same = absurd (omega arith)

  pub happened : (v : View) (act : Act) → OthersStayUnheld → IsTrue (is_own e) → seen_in guests pid ≡ Some v → None ≡ wrong_with v (stands_at v) e → act_of v.body.cpu e ≡ Some act → Follows guests (done pid event act) guests' → l.hears x event e v.body.cpu y → Told l (joins pid event (child_joined act)) y z → b ≡ a + if_ticked (is_call_or_end e) → Reaches l x a own (alone.happens pid event e own) guests' (event + 1) z b
  happened v act law is_own seen right told follows hears begins counted =
      let own' : Own = alone.noted (inside_of pid event e v act) (done pid event act own.bodies) own in
      record {
        own' = own';
        makes = happens-right pid event e own v act (sym (stands.shows.same pid) ∙ seen) right told;
        stands = record { shows = follows.shows own.bodies stands.shows; unheld = λ (other : ℕ) (le : event + 1 ≤ other). later-unheld law act other le };
        goes_on = goes-one l x z a b own own' (inside_of pid event e v act) refl
            (subst (λ (ns : List Notice). Told l ns x z) (sym (act-notices pid event e v is_own act)) (told-all v (child_joined act) hears begins))
            (counted ∙ ap (λ (n : ℕ). a + n) (count-one is_counted (inside_of pid event e v act) (is_call_or_end e) (act-counted pid event e v act)));
      }

own-act : (cpu : Cpu) (e : Record) → IsTrue (is_own e) → (act : Act) × (act_of cpu e ≡ Some act)
own-act cpu (entry.Signal pid signal cut handler) own = (_, refl)
own-act cpu (entry.Call pid number result more) own = (_, refl)
own-act cpu (entry.End pid status) own = (_, refl)
own-act cpu (entry.File name bytes) own = absurd (let e : false ≡ true = own in cc)
own-act cpu (entry.Boot name give) own = absurd (let e : false ≡ true = own in cc)
own-act cpu (entry.Typed bytes) own = absurd (let e : false ≡ true = own in cc)
own-act cpu (entry.Unplug device) own = absurd (let e : false ≡ true = own in cc)
own-act cpu (entry.Slice pid ran) own = absurd (let e : false ≡ true = own in cc)

module _ {A : Type 0} (l : Listener A) (x y z : A) (a b : ℕ) (guests between guests' : Guests) (event pid : ℕ) (e : Record) (own : Own) (stands : Stands guests event own) (law : OthersStayUnheld) (is : IsTrue (is_own e)) (live : IsLive guests pid) (same : between ≡ guests) where
  -- what each of its parts says together
  pub happened-told : OfSeen guests pid (λ (v : View). None ≡ wrong_with v (stands_at v) e) → OfSeen between pid (λ (v : View). l.hears x event e v.body.cpu y) → OfSeen between pid (λ (v : View). IfSome (act_of v.body.cpu e) (λ (act : Act). Follows between (done pid event act) guests')) → (child : Option ℕ) → ((cpu : Cpu) → child ≡ option_and_then child_joined (act_of cpu e)) → Told l (joins pid event child) y z → b ≡ a + if_ticked (is_call_or_end e) → Reaches l x a own (alone.happens pid event e own) guests' (event + 1) z b
  happened-told right hears follows child joined begins counted =
      let sees = live-sees guests pid live in
      let v = sees.view in
      let seen-is : seen_in between pid ≡ Some v = ap (λ (gs : Guests). seen_in gs pid) same ∙ sees.is in
      let found = own-act v.body.cpu e is in
      let act : Act = found.0 in
      let told : act_of v.body.cpu e ≡ Some act = found.1 in
      let follows' : Follows guests (done pid event act) guests' =
      subst (λ (gs : Guests). Follows gs (done pid event act) guests') same
      (subst (λ (o : Option Act). IfSome o (λ (k : Act). Follows between (done pid event k) guests')) told (follows v seen-is)) in
      let child-is : child ≡ child_joined act = joined v.body.cpu ∙ ap (λ (o : Option Act). option_and_then child_joined o) told in
      happened l x y z a b guests guests' event pid e own stands v act law is sees.is (right v sees.is) told follows' (hears v seen-is)
      (subst (λ (o : Option ℕ). Told l (joins pid event o) y z) child-is begins) counted
