-- A step keeps the group alone in agreement, whatever its act is.
use Rattle.std.proofs.Common.{◌≡◌, ℕ, ◌+◌, ◌<◌, List, [], length, refl, ap, ap₂, ◌∙◌, sym, subst, Option, Some, None, IfSome, Bool, true, false, ◌==◌, cond, arith, eqb-true}
use Rattle.std.proofs.lemmas.Bool.Decides.{nat_tests}
use Rattle.arn_base.specs.declared.machine.Cpu.{Cpu}
use Rattle.arn_base.specs.Window.{Window}
use Rattle.rv64_isa.specs.declared.instruction.Instr.{Instr}
use Rattle.rv64_model.specs.Instruction.{Next}
use Rattle.parts_model.specs.declared.limits.TheConstants.{WINDOW_LEN}
use Rattle.acts_model.specs.Acts.{Act, Starts, Forks, Founds, Shares, Beginning, beginning_of, beginning_in, start_of, acted, child_view, begun, done_by, founded}
use Rattle.acts_model.specs.Bodies.{Body, Bodies, View, seen, put, become}
use Rattle.acts_model.specs.Views.{with_reach, stands_at, after_instr, with_cpu}
use Rattle.history_model.specs.Groups.{Groups, is_number}
use Rattle.history_model.specs.Moments.{changed}
use Rattle.replay_laws.proofs.Blocks.{blocks-whole}
use Rattle.replay_laws.proofs.Sized.{StartsWell, acted-whole, instr-whole}
use Rattle.replay_laws.proofs.Owned.{Owner, Private, Shared, Fits, fits-later, segment-later, changed-same, changed-other}
use Rattle.replay_laws.proofs.Agrees.{Joint, Good, if_own, joint-become, joint-later}
use Rattle.window_laws.specs.Lengths.{KeepsLengths}

-- whose the memory is that an act makes
abbrev pub made_for : ℕ → Option ℕ → Act → Owner
made_for p g (Starts file block len) = Private p
made_for p g (Forks child) = Private child
made_for p g (Founds child) = Private child
made_for p g Shares = Shared g
made_for p g act = Private p

-- the groups of children: a child joins its parent's, or starts its own
abbrev pub GroupsFit : Groups → ℕ → Act → Type 0
GroupsFit gs p (Forks child) = gs child ≡ gs p
GroupsFit gs p (Founds child) = gs child ≡ Some child
GroupsFit gs p act = Unit {0}

-- the group's first process begins in its bodies
abbrev pub begun_bodies : ℕ → ℕ → Act → View → Bodies → Bodies
begun_bodies g e (Founds child) v b = cond (child == g) (begun g e (beginning_in (start_of (beginning_of v))) b) b
begun_bodies g e act v b = b

-- what a live process sees fits, and its window is whole
pub seen-good : (g : ℕ) (owner : ℕ → Owner) (gs : Groups) (n p : ℕ) (w o : Bodies) (v : View) → seen w p ≡ Some v → Joint g owner gs n w o → Good owner gs n p v
seen-good g owner gs n p w o v h1 h2 = grind (arith, nat_tests)

-- older memories keep their owners
kept-owner : (owner : ℕ → Owner) (e : ℕ) (o : Owner) (k : ℕ) → k < e → changed owner e o k ≡ owner k
kept-owner owner e o k lt = changed-other owner e o k (λ s. omega arith)

reach-body : (ws : List Window) (v : View) → (with_reach ws v).body ≡ v.body
reach-body ws v = grind (arith, nat_tests)

reach-fits : (owner : ℕ → Owner) (gs : Groups) (n p : ℕ) (ws : List Window) (v : View) → Fits owner gs n p v.body → Fits owner gs n p (with_reach ws v).body
reach-fits owner gs n p ws v f = subst (λ (x : Body). Fits owner gs n p x) (sym (reach-body ws v)) f

acted-fits : (owner : ℕ → Owner) (gs : Groups) (e p : ℕ) (act : Act) (v : View) → Fits owner gs e p v.body → IfSome (acted e act v) (λ w. Fits (changed owner e (made_for p (gs p) act)) gs (e + 1) p w.body)
acted-fits owner gs e p act v h1 = grind (arith, nat_tests, changed-same, fits-later, kept-owner, made_for, reach-fits)

both-good : (owner : ℕ → Owner) (gs : Groups) (n p : ℕ) (o : Option View) → IfSome o (λ w. Fits owner gs n p w.body) → IfSome o (λ w. length w.window ≡ WINDOW_LEN) → IfSome o (Good owner gs n p)
both-good owner gs n p None f s = tt
both-good owner gs n p (Some w) f s = record { fits = f; whole = s }

-- how a child begins is told whole by its blocks
begins-same : (v : View) → length v.window ≡ WINDOW_LEN → beginning_in (start_of (beginning_of v)) ≡ beginning_of v
begins-same v s = let b = beginning_of v in ap (λ (bytes : List ℕ). record { cpu = b.cpu; slot = b.slot; window = bytes }) (blocks-whole v.window s)

both : (t s : Bool) (f : Bodies → Bodies) (a o : Bodies) → s ≡ t → cond s (f (cond t a o)) (cond t a o) ≡ cond t (f a) o
both true s f a o h = rw h refl
both false s f a o h = rw h refl

-- an act of p at event e, in the whole machine and in group g alone
pub joint-done : KeepsLengths → (g : ℕ) (owner : ℕ → Owner) (gs : Groups) (e p : ℕ) (w o : Bodies) (act : Act) (v : View) → seen w p ≡ Some v → GroupsFit gs p act → StartsWell v act → Joint g owner gs e w o → Joint g (changed owner e (made_for p (gs p) act)) gs (e + 1) (founded act e (beginning_of v) (done_by p e act (Some v) w)) (begun_bodies g e act v (if_own (is_number g (gs p)) (done_by p e act (Some v) o) o))
joint-done keeps g owner gs e p w o act v is fit starts h = by_act act fit starts
  where
    good : Good owner gs e p v
    good = seen-good g owner gs e p w o v is h

    -- the process itself
    itself : (act : Act) → StartsWell v act → Joint g (changed owner e (made_for p (gs p) act)) gs (e + 1) (become p (acted e act v) w) (if_own (is_number g (gs p)) (become p (acted e act v) o) o)
    itself act starts =
        let owner' = changed owner e (made_for p (gs p) act) in
        joint-become g owner' gs (e + 1) p (acted e act v) w o
        (both-good owner' gs (e + 1) p (acted e act v) (acted-fits owner gs e p act v good.fits) (acted-whole keeps e act v starts good.whole))
        (joint-later g owner owner' gs e (e + 1) w o (kept-owner owner e (made_for p (gs p) act)) (omega arith) h)

    forks : (c : ℕ) → gs c ≡ gs p → Joint g (changed owner e (Private c)) gs (e + 1) (done_by p e (Forks c) (Some v) w) (if_own (is_number g (gs p)) (done_by p e (Forks c) (Some v) o) o)
    forks c k =
        let cv = child_view e (beginning_of v) v.body.segment v.segment in
        let owner' = changed owner e (Private c) in
        let child : Good owner' gs (e + 1) c cv = record {
          fits = record { window = (omega arith, changed-same owner e (Private c)); segment = segment-later owner owner' e (e + 1) (gs p) (gs c) (kept-owner owner e (Private c)) (omega arith) k v.body.segment good.fits.segment };
          whole = good.whole;
        } in
        let all = joint-become g owner' gs (e + 1) c (Some cv) (become p (acted e (Forks c) v) w) (if_own (is_number g (gs p)) (become p (acted e (Forks c) v) o) o) child (itself (Forks c) tt) in
        subst (λ (x : Bodies). Joint g owner' gs (e + 1) (done_by p e (Forks c) (Some v) w) x)
        (both (is_number g (gs p)) (is_number g (gs c)) (put c cv) (become p (acted e (Forks c) v) o) o (ap (is_number g) k)) all

    founds : (c : ℕ) → gs c ≡ Some c → Joint g (changed owner e (Private c)) gs (e + 1) (founded (Founds c) e (beginning_of v) (done_by p e (Founds c) (Some v) w)) (begun_bodies g e (Founds c) v (if_own (is_number g (gs p)) (done_by p e (Founds c) (Some v) o) o))
    founds c k =
        let cv = child_view e (beginning_of v) None [] in
        let owner' = changed owner e (Private c) in
        let child : Good owner' gs (e + 1) c cv = record { fits = record { window = (omega arith, changed-same owner e (Private c)); segment = tt }; whole = good.whole } in
        let before : Bodies = if_own (is_number g (gs p)) (become p (acted e (Founds c) v) o) o in
        let all = joint-become g owner' gs (e + 1) c (Some cv) (become p (acted e (Founds c) v) w) before child (itself (Founds c) tt) in
        subst (λ (x : Bodies). Joint g owner' gs (e + 1) (founded (Founds c) e (beginning_of v) (done_by p e (Founds c) (Some v) w)) x)
        (ap (λ (t : Bool). cond t (put c cv before) before) (ap (is_number g) k) ∙ by_test before (c == g) refl) all
      where
        by_test : (before : Bodies) (t : Bool) → (c == g) ≡ t → cond t (put c (child_view e (beginning_of v) None []) before) before ≡ cond t (begun g e (beginning_in (start_of (beginning_of v))) before) before
        by_test before true t = ap₂ (λ (i : ℕ) (b : Beginning). begun i e b before) (eqb-true c g t) (sym (begins-same v good.whole))
        by_test before false t = refl

    by_act : (act : Act) → GroupsFit gs p act → StartsWell v act → Joint g (changed owner e (made_for p (gs p) act)) gs (e + 1) (founded act e (beginning_of v) (done_by p e act (Some v) w)) (begun_bodies g e act v (if_own (is_number g (gs p)) (done_by p e act (Some v) o) o))
    by_act (Forks c) k s = forks c k
    by_act (Founds c) k s = founds c k
    by_act act k s = itself act s

-- an instruction
pub joint-moved : KeepsLengths → (g : ℕ) (owner : ℕ → Owner) (gs : Groups) (n p : ℕ) (w o : Bodies) (v : View) (instr : Instr) (cpu : Cpu) (memory : List Window) → seen w p ≡ Some v → stands_at v ≡ Next instr cpu memory → Joint g owner gs n w o → Joint g owner gs n (put p (after_instr cpu memory v) w) (if_own (is_number g (gs p)) (put p (after_instr cpu memory v) o) o)
joint-moved keeps g owner gs n p w o v instr cpu memory is next h =
    let good = seen-good g owner gs n p w o v is h in
    let fits : Fits owner gs n p (with_cpu cpu v).body = record { window = good.fits.window; segment = good.fits.segment } in
    joint-become g owner gs n p (Some (after_instr cpu memory v)) w o
    (record { fits = reach-fits owner gs n p memory (with_cpu cpu v) fits; whole = instr-whole keeps v instr cpu memory good.whole next }) h
