-- Each live process holds memories of its own group, and after each act it still does.
use Rattle.std.proofs.Common.{◌≡◌, ℕ, ◌≤◌, List, [], length, refl, ap, ◌∙◌, sym, Option, Some, None, option_map, Bool, true, false, ◌==◌, cond, arith, inl, inr, eq-eqb, eqb-true}
use Rattle.std.proofs.lemmas.Bool.Decides.{nat_tests}
use Rattle.arn_base.specs.declared.machine.Cpu.{Cpu}
use Rattle.arn_base.specs.Window.{Window, with_bytes}
use Rattle.rv64_isa.specs.declared.instruction.Instr.{Instr}
use Rattle.acts_model.specs.Acts.{Act, Receives, Gives, Starts, Forks, Founds, Shares, Leaves, Exits, Faults, Dies, restored, acted, Beginning, beginning_of, child_view, joined, done_by, done, founded}
use Rattle.acts_model.specs.Bodies.{Body, Bodies, View, IsHolder, body_at, seen, put, remove, become}
use Rattle.acts_model.specs.Transfers.{holds_of, is_private, is_shared, place_at, place_of, transfer, instr_transfer}
use Rattle.acts_model.specs.Views.{reach, with_reach}
use Rattle.history_model.specs.Groups.{Groups}
use Rattle.lineage_laws.proofs.Homes.{Memories, PlaceIs, Lies}

-- bodies by number
pub put-body : (p : ℕ) (v : View) (b : Bodies) (q : ℕ) → body_at (put p v b) q ≡ cond (q == p) (Some v.body) (body_at b q)
unfolding put body_at
put-body p v b q = refl

pub put-here : (p : ℕ) (v : View) (b : Bodies) → body_at (put p v b) p ≡ Some v.body
put-here p v b = put-body p v b p ∙ ap (λ (t : Bool). cond t (Some v.body) (body_at b p)) (eq-eqb p p refl)

remove-body : (p : ℕ) (b : Bodies) (q : ℕ) → body_at (remove p b) q ≡ cond (q == p) None (body_at b q)
unfolding remove body_at
remove-body p b q = refl

pub seen-body : (b : Bodies) (p : ℕ) (v : View) → seen b p ≡ Some v → body_at b p ≡ Some v.body
seen-body b p v h1 = grind (arith, nat_tests)

-- a process has a group, and its memories belong to it
pub record HoldsIn (gs : Groups) (ms : Memories) (most pid : ℕ) (x : Body) : Type 0 where
  pub group : ℕ
  pub is : gs pid ≡ Some group
  pub small : group ≤ most
  pub window : ms x.window ≡ gs pid
  pub segment : (made : ℕ) → x.segment ≡ Some made → ms made ≡ gs pid

abbrev pub BodiesFit : Groups → Memories → ℕ → Bodies → Type 0
BodiesFit gs ms most b = (q : ℕ) (x : Body) → body_at b q ≡ Some x → HoldsIn gs ms most q x

pub fit-more : (gs : Groups) (ms : Memories) (less most : ℕ) (b : Bodies) → less ≤ most → BodiesFit gs ms less b → BodiesFit gs ms most b
fit-more gs ms less most b h1 h2 = grind (arith, nat_tests)

same-hold : (gs : Groups) (ms : Memories) (most pid : ℕ) (x y : Body) → y.window ≡ x.window → y.segment ≡ x.segment → HoldsIn gs ms most pid x → HoldsIn gs ms most pid y
same-hold gs ms most pid x y w s h =
    record { group = h.group; is = h.is; small = h.small; window = ap ms w ∙ h.window; segment = λ made e. h.segment made (sym s ∙ e) }

fit-put : (gs : Groups) (ms : Memories) (most : ℕ) (b : Bodies) (p : ℕ) (v : View) → BodiesFit gs ms most b → HoldsIn gs ms most p v.body → BodiesFit gs ms most (put p v b)
fit-put gs ms most b p v h1 h2 = grind (arith, nat_tests, eqb-true, put-body)

fit-remove : (gs : Groups) (ms : Memories) (most : ℕ) (b : Bodies) (p : ℕ) → BodiesFit gs ms most b → BodiesFit gs ms most (remove p b)
fit-remove gs ms most b p h1 = grind (arith, nat_tests, remove-body)

-- what an act at an event makes belongs to the group that acts, or to the one that starts
abbrev pub Makes : Groups → Memories → ℕ → ℕ → ℕ → Act → Type 0
Makes gs ms most event pid (Forks child) = (gs child ≡ gs pid) × (ms event ≡ gs pid)
Makes gs ms most event pid (Founds child) = (gs child ≡ Some child) × (ms event ≡ Some child) × (child ≤ most) × (gs pid ≡ Some child → ⊥)
Makes gs ms most event pid act = ms event ≡ gs pid

reach-body : (ws : List Window) (v : View) → (with_reach ws v).body ≡ v.body
reach-body ws v = grind (arith, nat_tests)

restored-fit : (gs : Groups) (ms : Memories) (most pid : ℕ) (v : View) (slot : Option Cpu) → HoldsIn gs ms most pid v.body → HoldsIn gs ms most pid (restored slot v).body
restored-fit gs ms most pid v None h = h
restored-fit gs ms most pid v (Some cpu) h = record { group = h.group; is = h.is; small = h.small; window = h.window; segment = h.segment }

become-fit : (gs : Groups) (ms : Memories) (most event pid : ℕ) (act : Act) (v : View) (b : Bodies) → Makes gs ms most event pid act → HoldsIn gs ms most pid v.body → BodiesFit gs ms most b → BodiesFit gs ms most (become pid (acted event act v) b)
become-fit gs ms most event pid (Receives at bytes result) v b k h f =
    let same = reach-body (with_bytes (reach v) at bytes) v in
    fit-put gs ms most b pid _ f (same-hold gs ms most pid v.body _ (ap (λ (x : Body). x.window) same) (ap (λ (x : Body). x.segment) same) h)
become-fit gs ms most event pid (Starts file block block_len) v b k h f = fit-put gs ms most b pid _ f (record { group = h.group; is = h.is; small = h.small; window = k; segment = λ made e. absurd (cc) })
become-fit gs ms most event pid Shares v b k h f = fit-put gs ms most b pid _ f (record { group = h.group; is = h.is; small = h.small; window = h.window; segment = λ made e. let same : event ≡ made = cc in ap ms (sym same) ∙ k })
become-fit gs ms most event pid Leaves v b k h f = fit-put gs ms most b pid (restored v.body.slot v) f (restored-fit gs ms most pid v v.body.slot h)
become-fit gs ms most event pid Exits v b k h f = fit-remove gs ms most b pid f
become-fit gs ms most event pid (Faults status) v b k h f = fit-remove gs ms most b pid f
become-fit gs ms most event pid (Dies signal cut) v b k h f = fit-remove gs ms most b pid f
become-fit gs ms most event pid _ v b k h f = fit-put gs ms most b pid _ f (same-hold gs ms most pid v.body _ refl refl h)

joined-fit : (gs : Groups) (ms : Memories) (most event pid : ℕ) (act : Act) (v : View) (b : Bodies) → Makes gs ms most event pid act → HoldsIn gs ms most pid v.body → BodiesFit gs ms most b → BodiesFit gs ms most (joined act event v b)
joined-fit gs ms most event pid (Forks child) v b k h f =
    fit-put gs ms most b child (child_view event (beginning_of v) v.body.segment v.segment) f
    (record { group = h.group; is = k.0 ∙ h.is; small = h.small; window = k.1 ∙ sym k.0; segment = λ made e. h.segment made e ∙ sym k.0 })
joined-fit gs ms most event pid _ v b k h f = f

-- after an act in the group of its process
pub done-fit : (gs : Groups) (ms : Memories) (most event pid : ℕ) (act : Act) (b : Bodies) → Makes gs ms most event pid act → BodiesFit gs ms most b → BodiesFit gs ms most (done pid event act b)
done-fit gs ms most event pid act b k f = by_seen (seen b pid) refl
  where
    by_seen : (o : Option View) → seen b pid ≡ o → BodiesFit gs ms most (done_by pid event act o b)
    by_seen None e = f
    by_seen (Some v) e =
        let h = f pid v.body (seen-body b pid v e) in
        joined-fit gs ms most event pid act v (become pid (acted event act v) b) k h (become-fit gs ms most event pid act v b k h f)

-- and where a child starts a group
pub founded-fit : (gs : Groups) (ms : Memories) (most event pid : ℕ) (act : Act) (start : Beginning) (b : Bodies) → Makes gs ms most event pid act → BodiesFit gs ms most b → BodiesFit gs ms most (founded act event start b)
founded-fit gs ms most event pid (Founds child) start b k f =
    fit-put gs ms most b child (child_view event start None []) f
    (record { group = child; is = k.0; small = k.2; window = k.1 ∙ sym k.0; segment = λ made e. absurd (cc) })
founded-fit gs ms most event pid _ start b k f = f

pub put-fit : (gs : Groups) (ms : Memories) (most : ℕ) (b : Bodies) (p : ℕ) (v : View) → BodiesFit gs ms most b → HoldsIn gs ms most p v.body → BodiesFit gs ms most (put p v b)
put-fit gs ms most b p v f h = fit-put gs ms most b p v f h

-- an instruction leaves what a process holds
pub run-fit : (gs : Groups) (ms : Memories) (most pid : ℕ) (cpu : Cpu) (ws : List Window) (v : View) (b : Bodies) → HoldsIn gs ms most pid v.body → BodiesFit gs ms most b → BodiesFit gs ms most (put pid (with_reach ws (record v { body = record v.body { cpu = cpu } })) b)
run-fit gs ms most pid cpu ws v b h f =
    let same = reach-body ws (record v { body = record v.body { cpu = cpu } }) in
    fit-put gs ms most b pid _ f (same-hold gs ms most pid v.body _ (ap (λ (x : Body). x.window) same) (ap (λ (x : Body). x.segment) same) h)

-- a place that a process reaches is in a memory of its group
private-is : (gs : Groups) (ms : Memories) (most pid : ℕ) (x : Body) (at : ℕ) (b c : Bool) → HoldsIn gs ms most pid x → PlaceIs ms (gs pid) (option_map (λ made. record { made = made; at = at }) (cond b (Some x.window) (cond c x.segment None)))
private-is gs ms most pid x at true c h = h.window
private-is gs ms most pid x at false true h = by_segment x.segment h.segment
  where
    by_segment : (o : Option ℕ) → ((made : ℕ) → o ≡ Some made → ms made ≡ gs pid) → PlaceIs ms (gs pid) (option_map (λ made. record { made = made; at = at }) o)
    by_segment None k = tt
    by_segment (Some made) k = k made refl
private-is gs ms most pid x at false false h = tt

place-is : (gs : Groups) (ms : Memories) (most pid : ℕ) (x : Body) (at : ℕ) → HoldsIn gs ms most pid x → PlaceIs ms (gs pid) (place_at (holds_of x) at)
place-is gs ms most pid x at h = private-is gs ms most pid x at (is_private at) (is_shared at) h

some-place-is : (gs : Groups) (ms : Memories) (most pid : ℕ) (x : Body) (at len : ℕ) → HoldsIn gs ms most pid x → PlaceIs ms (gs pid) (place_of (holds_of x) at len)
some-place-is gs ms most pid x at len h1 = grind (arith, nat_tests, place-is)

-- so what an act moves lies in its group
pub act-lies : (gs : Groups) (ms : Memories) (most event pid : ℕ) (x : Body) (act : Act) → HoldsIn gs ms most pid x → Makes gs ms most event pid act → Lies gs ms (transfer pid event (holds_of x) act)
act-lies gs ms most event pid x (Receives at bytes result) h k = some-place-is gs ms most pid x at (length bytes) h
act-lies gs ms most event pid x (Gives at len result) h k = some-place-is gs ms most pid x at len h
act-lies gs ms most event pid x (Starts file block block_len) h k = (k, some-place-is gs ms most pid x block block_len h)
act-lies gs ms most event pid x (Forks child) h k = record { process = k.0; old = h.window; new = k.1 }
act-lies gs ms most event pid x (Founds child) h k = record { process = k.0; old = h.window; new = k.1; other = k.3 }
act-lies gs ms most event pid x Shares h k = k
act-lies gs ms most event pid x _ h k = tt

pub instr-lies : (gs : Groups) (ms : Memories) (most pid : ℕ) (cpu : Cpu) (x : Body) (instr : Instr) → HoldsIn gs ms most pid x → Lies gs ms (instr_transfer pid cpu (holds_of x) instr)
instr-lies gs ms most pid cpu x instr h1 = grind (arith, nat_tests, place-is)

-- a memory that a process holds is of its group
pub holder-is : (gs : Groups) (ms : Memories) (most pid : ℕ) (x : Body) (made : ℕ) → HoldsIn gs ms most pid x → IsHolder x made → ms made ≡ gs pid
holder-is gs ms most pid x made h (inl e) = ap ms (sym e) ∙ h.window
holder-is gs ms most pid x made h (inr e) = h.segment made e
