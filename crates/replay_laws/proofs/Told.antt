-- What the record of an event tells of groups, and of a group's first process, is what its act does.
use Rattle.std.proofs.Common.{◌≡◌, ℕ, ◌&&◌, List, [], ◌∷◌, refl, ap, sym, subst, Option, Some, None, Bool, true, false, ◌==◌, cond, arith, eqb-true}
use Rattle.std.proofs.lemmas.Bool.Decides.{nat_tests}
use Rattle.std.proofs.lemmas.Bool.{not-false}
use Rattle.arn_base.specs.declared.machine.Cpu.{Cpu}
use Rattle.arn_base.specs.declared.records.Extra.{Extra}
use Rattle.arn_base.specs.declared.records.Extra.TheVariants as extra
use Rattle.arn_base.specs.declared.records.Record.{Record}
use Rattle.arn_base.specs.declared.records.Record.TheVariants as entry
use Rattle.arn_base.specs.declared.records.Start.{Start}
use Rattle.parts_model.specs.declared.calls.TheConstants.{FORK}
use Rattle.parts_model.specs.Replies.{is_success}
use Rattle.parts_model.specs.Processes.{next_process}
use Rattle.acts_model.specs.Acts.{Act, Returns, Forks, Founds, Delivers, Faults, Dies, beginning_of, start_of}
use Rattle.acts_model.specs.Bodies.{View}
use Rattle.acts_model.specs.Disagreement.{Wrong, wrong_if, or_else, isnt_call, is_other_call, act_wrong}
use Rattle.acts_model.specs.Moved.{Inside}
use Rattle.acts_model.specs.Records.{BeginsLife, child_called, child_forked, life_told, start_held}
use Rattle.acts_model.specs.Told.{Kind, Fork, kind_of, call_act, fork_act, delivery_act}
use Rattle.acts_model.specs.Views.{stands_at}
use Rattle.arn_model.specs.Doing.{Doing}
use Rattle.arn_model.specs.Kernel.{Machine}
use Rattle.arn_model.specs.Tells.{ForksRightly, EventTells}
use Rattle.history_model.specs.Alone.{Own, Makes, begins, begin_inside, begins_by}
use Rattle.history_model.specs.Groups.{Groups, groups_told}
use Rattle.history_model.specs.Moments.{changed}
use Rattle.replay_laws.specs.Heard.{begin_by}
use Rattle.replay_laws.proofs.Sized.{StartsWell}

-- the groups after an act
abbrev pub groups_after : ℕ → Act → Groups → Groups
groups_after p (Forks child) gs = changed gs child (gs p)
groups_after p (Founds child) gs = changed gs child (Some child)
groups_after p act gs = gs

-- what a group alone has where the act starts it, and what happens inside then
abbrev pub begun_own : ℕ → ℕ → Record → Act → View → Own → Own
begun_own g e r (Founds child) v own = cond (child == g) (begins g e r (start_of (beginning_of v)) own) own
begun_own g e r act v own = own

abbrev pub begun_inside : ℕ → ℕ → Record → Act → View → List Inside
begun_inside g e r (Founds child) v = cond (child == g) (begin_inside g e r (start_of (beginning_of v)) ∷ []) []
begun_inside g e r act v = []

-- the record says that the child lives from now on
abbrev pub BeginsChild : Record → Act → Type 0
BeginsChild r (Forks child) = life_told r ≡ BeginsLife child
BeginsChild r (Founds child) = life_told r ≡ BeginsLife child
BeginsChild r act = Unit {0}

pub record Tale (p : ℕ) (v : View) (r : Record) (act : Act) : Type 0 where
  pub groups : (gs : Groups) → groups_told r gs ≡ groups_after p act gs
  pub begins : (g e : ℕ) (own : Own) → begins_by g e r own ≡ Makes (begun_own g e r act v own)
  pub begin : (g e : ℕ) → begin_by g e r ≡ begun_inside g e r act v
  pub child : BeginsChild r act
  pub starts : StartsWell v act

-- nothing is wrong with an act, so a start is from an image
no-wrong : (b : Bool) (said found : ℕ) → wrong_if b said found ≡ None → b ≡ false
no-wrong true said found e = absurd (cc)
no-wrong false said found e = refl

or-first : (a b : Option Wrong) → or_else a b ≡ None → a ≡ None
or-first None b e = refl
or-first (Some w) b e = absurd (cc)

or-next : (a b : Option Wrong) → or_else a b ≡ None → b ≡ None
or-next None b e = e
or-next (Some w) b e = absurd (cc)

starts-well : (v : View) (act : Act) (more : Extra) → act_wrong v act more ≡ None → StartsWell v act
starts-well v act more h1 = grind (arith, nat_tests, not-false, no-wrong, or-first, or-next)

-- acts that make no child
abbrev NoChild : Act → Type 0
NoChild (Forks child) = ⊥
NoChild (Founds child) = ⊥
NoChild act = Unit {0}

abbrev NoFork : Kind → Type 0
NoFork Fork = ⊥
NoFork kind = Unit {0}

if-none : (b : Bool) (x y : Act) → NoChild x → NoChild y → NoChild (cond b x y)
if-none true x y h k = h
if-none false x y h k = k

if-kind : (b : Bool) (x y : Kind) → NoFork x → NoFork y → NoFork (cond b x y)
if-kind true x y h k = h
if-kind false x y h k = k

kind-other : (n : ℕ) → (n == FORK) ≡ false → NoFork (kind_of n)
kind-other n h1 = grind (arith, nat_tests, if-kind)

other-none : (k : Kind) (cpu : Cpu) (result : ℕ) (more : Extra) → NoFork k → NoChild (call_act k cpu result more)
other-none k cpu result more h1 = grind (arith, nat_tests, if-none)

called-none : (n result : ℕ) (more : Extra) → (n == FORK) ≡ false → child_called n result more ≡ None
called-none n result more e = ap (λ (b : Bool). cond (b && is_success result) (Some (child_forked result more)) None) e

none-groups : (p : ℕ) (act : Act) (gs : Groups) → NoChild act → gs ≡ groups_after p act gs
none-groups p act gs h1 = grind (arith, nat_tests)

none-own : (g e : ℕ) (r : Record) (act : Act) (v : View) (own : Own) → NoChild act → own ≡ begun_own g e r act v own
none-own g e r act v own h1 = grind (arith, nat_tests)

none-inside : (g e : ℕ) (r : Record) (act : Act) (v : View) → NoChild act → [] ≡ begun_inside g e r act v
none-inside g e r act v h1 = grind (arith, nat_tests)

none-child : (r : Record) (act : Act) → NoChild act → BeginsChild r act
none-child r act h1 = grind (arith, nat_tests)

-- a call that isn't a fork
other-tale : (p : ℕ) (v : View) (n result : ℕ) (more : Extra) (act : Act) → (n == FORK) ≡ false → NoChild act → StartsWell v act → Tale p v (entry.Call p n result more) act
other-tale p v n result more act h1 h2 h3 = grind (arith, nat_tests, none-child, none-groups, none-inside, none-own, called-none)

-- a fork
founds-tale : (p child : ℕ) (v : View) (result : ℕ) (start : Start) (b : Bool) → is_success result ≡ b → ForksRightly child v (cond b (Founds result) (Returns result)) (extra.Start start) → Tale p v (entry.Call p FORK result (extra.Start start)) (cond b (Founds result) (Returns result))
founds-tale p child v result start b h1 h2 = grind (arith, nat_tests)

forks-tale : (p : ℕ) (v : View) (result : ℕ) (more : Extra) (b : Bool) → is_success result ≡ b → start_held more ≡ None → Tale p v (entry.Call p FORK result more) (cond b (Forks result) (Returns result))
forks-tale p v result more b h1 h2 = grind (arith, nat_tests)

fork-tale : (p child : ℕ) (v : View) (result : ℕ) (more : Extra) → ForksRightly child v (fork_act result more) more → Tale p v (entry.Call p FORK result more) (fork_act result more)
fork-tale p child v result (extra.Start start) h = founds-tale p child v result start (is_success result) refl h
fork-tale p child v result more h = forks-tale p v result more (is_success result) refl refl

call-tale : (p child : ℕ) (v : View) (n result : ℕ) (more : Extra) → ForksRightly child v (call_act (kind_of n) v.body.cpu result more) more → act_wrong v (call_act (kind_of n) v.body.cpu result more) more ≡ None → Tale p v (entry.Call p n result more) (call_act (kind_of n) v.body.cpu result more)
call-tale p child v n result more h w = by_test (n == FORK) refl
  where
    by_test : (b : Bool) → (n == FORK) ≡ b → Tale p v (entry.Call p n result more) (call_act (kind_of n) v.body.cpu result more)
    by_test true e =
        let is : n ≡ FORK = eqb-true n FORK e in
        let h' = subst (λ (i : ℕ). ForksRightly child v (call_act (kind_of i) v.body.cpu result more) more) is h in
        subst (λ (i : ℕ). Tale p v (entry.Call p i result more) (call_act (kind_of i) v.body.cpu result more)) (sym is) (fork-tale p child v result more h')
    by_test false e =
        let act = call_act (kind_of n) v.body.cpu result more in
        other-tale p v n result more act e (other-none (kind_of n) v.body.cpu result more (kind-other n e)) (starts-well v act more w)

signal-tale : (p : ℕ) (v : View) (signal handler : ℕ) (cut b : Bool) → Tale p v (entry.Signal p signal cut handler) (cond b (Dies signal cut) (Delivers signal handler cut))
signal-tale p v signal handler cut true = record { groups = λ gs. refl; begins = λ g e own. refl; begin = λ g e. refl; child = tt; starts = tt }
signal-tale p v signal handler cut false = record { groups = λ gs. refl; begins = λ g e own. refl; begin = λ g e. refl; child = tt; starts = tt }

same-number : (p q : ℕ) → Some p ≡ Some q → p ≡ q
same-number p q e = cc

same-act : (a b : Act) → Some a ≡ Some b → a ≡ b
same-act a b e = cc

-- of an event that is as its record tells it
pub event-tale : (m : Machine) (pid : ℕ) (v : View) (d : Doing) (r : Record) → EventTells m pid v d r → Tale pid v r d.act
event-tale m pid v d (entry.Call p n result more) t =
    let act = call_act (kind_of n) v.body.cpu result more in
    let is : act ≡ d.act = same-act act d.act t.told in
    let right = or-next (is_other_call v.body.cpu n) (act_wrong v act more) (or-next (isnt_call (stands_at v) n) (or_else (is_other_call v.body.cpu n) (act_wrong v act more)) t.right) in
    let child = m.kernel.processes in
    let forks : ForksRightly (next_process child) v act more = subst (λ (a : Act). ForksRightly (next_process child) v a more) (sym is) t.forks in
    subst (λ (q : ℕ). Tale q v (entry.Call p n result more) d.act) (same-number p pid t.process)
    (subst (λ (a : Act). Tale p v (entry.Call p n result more) a) is (call-tale p (next_process child) v n result more forks right))
event-tale m pid v d (entry.Signal p signal cut handler) t =
    subst (λ (q : ℕ). Tale q v (entry.Signal p signal cut handler) d.act) (same-number p pid t.process)
    (subst (λ (a : Act). Tale p v (entry.Signal p signal cut handler) a) (same-act (delivery_act signal handler cut) d.act t.told) (signal-tale p v signal handler cut (handler == 0)))
event-tale m pid v d (entry.End p status) t =
    subst (λ (q : ℕ). Tale q v (entry.End p status) d.act) (same-number p pid t.process)
    (subst (λ (a : Act). Tale p v (entry.End p status) a) (same-act (Faults status) d.act t.told)
    (record { groups = λ gs. refl; begins = λ g e own. refl; begin = λ g e. refl; child = tt; starts = tt }))
event-tale m pid v d _ t = absurd (let e = t.inner in cc)
