-- No memory has more bytes than a private window, and who has a body lives: every act and instruction keeps this.
use Rattle.std.proofs.lemmas.Grind.{common_steps}
use Rattle.std.proofs.Common.{◌≡◌, ℕ, ◌+◌, ◌-◌, ◌≤◌, List, [], ◌∷◌, length, refl, ap, ◌∙◌, sym, subst, Option, Some, None, unwrap_or, Bool, true, false, ◌==◌, if◌then◌else◌, arith, is_some, length-take, length-drop, length-append, length-take-le}
use Rattle.std.proofs.lemmas.Bool.Decides.{nat_tests}
use Rattle.std.proofs.lemmas.Bool.{eqb-true, eq-eqb, and_parts, leb-true}
use Rattle.std.proofs.lemmas.List.{length-replicate}
use Rattle.arn_base.specs.Disk.{overwrite}
use Rattle.arn_base.specs.declared.machine.Cpu.{Cpu}
use Rattle.arn_base.specs.Window.{Window, is_whole_in, window_bytes, window_with, bytes_at, with_bytes}
use Rattle.rv64_isa.specs.declared.instruction.Instr.{Instr}
use Rattle.rv64_isa.specs.Decoded.{decoded}
use Rattle.rv64_model.specs.Instruction.{Effect, Next, jumps, branches, loads, stores, executed, executed_if, fetched}
use Rattle.parts_model.specs.declared.limits.TheConstants.{WINDOW_LEN, SEGMENT_LEN}
use Rattle.parts_model.specs.Image.{Image, read_as_image}
use Rattle.parts_model.specs.Memory.{zeros}
use Rattle.acts_model.specs.Acts.{Act, Returns, Receives, Gives, Starts, Forks, Founds, Shares, Leaves, Exits, Faults, Dies, acted, restored, started, with_fresh_segment, beginning_of, child_view, done, done_by, joined, founded}
use Rattle.acts_model.specs.Bodies.{Bodies, View, body_at, memory_at, segment_bytes, seen, put, remove, become, laid_segment}
use Rattle.acts_model.specs.Records.{lives_after}
use Rattle.acts_model.specs.Views.{reach, read, with_reach, written, stands_at, with_result, after_instr}
use Rattle.arn_model.proofs.Calling.{life_by}
use Rattle.arn_model.proofs.Effects.{eq-swap}
use Rattle.arn_model.proofs.Places.{put-body, put-memory, remove-body, remove-memory}

abbrev pub IsSmall : List ℕ → Type 0
IsSmall bytes = length bytes ≤ WINDOW_LEN

abbrev pub AllSmall : List Window → Type 0
AllSmall [] = Unit {0}
AllSmall (w ∷ ws) = IsSmall w.bytes × AllSmall ws

pub record SmallView (v : View) : Type 0 where
  pub window : IsSmall v.window
  pub segment : IsSmall v.segment

reach-small : (v : View) → SmallView v → AllSmall (reach v)
reach-small v h1 = grind (arith, nat_tests)

overwritten-len : (old : List ℕ) (at : ℕ) (bytes : List ℕ) → at + length bytes ≤ length old → length (overwrite old at bytes) ≡ length old
overwritten-len old at bytes h1 = grind (arith, common_steps, nat_tests, length-take-le, length-append, length-drop)

with-small : (ws : List Window) (at : ℕ) (bytes : List ℕ) → AllSmall ws → AllSmall (with_bytes ws at bytes)
with-small [] at bytes h = tt
with-small (w ∷ ws) at bytes h = by_test (is_whole_in w at (length bytes)) refl (with-small ws at bytes h.1)
  where
    by_test : (b : Bool) → is_whole_in w at (length bytes) ≡ b → AllSmall (with_bytes ws at bytes) → AllSmall (if b then window_with w at bytes ∷ ws else w ∷ with_bytes ws at bytes)
    by_test b h1 h2 = grind (arith, nat_tests, and_parts, leb-true, overwritten-len)

with_reach-small : (ws : List Window) (v : View) → AllSmall ws → SmallView v → SmallView (with_reach ws v)
with_reach-small ws v h1 h2 = grind (arith, nat_tests)

window-small : (w : Window) (at len : ℕ) → IsSmall w.bytes → IsSmall (window_bytes w at len)
window-small w at len h1 = grind (arith, common_steps, nat_tests, length-take, length-drop)

found-small : (ws : List Window) (at len : ℕ) → AllSmall ws → IsSmall (unwrap_or (bytes_at ws at len) [])
found-small [] at len h = omega arith
found-small (w ∷ ws) at len h = by_test (is_whole_in w at len) (found-small ws at len h.1)
  where
    by_test : (b : Bool) → IsSmall (unwrap_or (bytes_at ws at len) []) → IsSmall (unwrap_or (if b then Some (window_bytes w at len) else bytes_at ws at len) [])
    by_test b h1 = grind (arith, nat_tests, window-small)

-- instructions

abbrev SmallEffect : Effect → Type 0
SmallEffect (Next instr cpu memory) = AllSmall memory
SmallEffect _ = Unit {0}

jumps-small : (instr : Instr) (cpu : Cpu) (ws : List Window) (rd target : ℕ) → AllSmall ws → SmallEffect (jumps instr cpu ws rd target)
jumps-small instr cpu ws rd target h1 = grind (arith, nat_tests)

branches-small : (instr : Instr) (cpu : Cpu) (ws : List Window) (b : Bool) (target : ℕ) → AllSmall ws → SmallEffect (branches instr cpu ws b target)
branches-small instr cpu ws false target h = h
branches-small instr cpu ws true target h = jumps-small instr cpu ws 0 target h

loads-small : (instr : Instr) (cpu : Cpu) (ws : List Window) (rd : ℕ) (o : Option ℕ) → AllSmall ws → SmallEffect (loads instr cpu ws rd o)
loads-small instr cpu ws rd None h = tt
loads-small instr cpu ws rd (Some value) h = h

stores-small : (instr : Instr) (cpu : Cpu) (ws : List Window) (at len value : ℕ) → AllSmall ws → SmallEffect (stores instr cpu ws at len value)
stores-small instr cpu ws at len value h1 = grind (arith, nat_tests, with-small)

executed-small : (instr : Instr) (cpu : Cpu) (ws : List Window) → AllSmall ws → SmallEffect (executed instr cpu ws)
executed-small instr cpu ws h1 = grind (arith, nat_tests, branches-small, jumps-small, loads-small, stores-small)

executed_if-small : (o : Option Instr) (cpu : Cpu) (ws : List Window) → AllSmall ws → SmallEffect (executed_if o cpu ws)
executed_if-small None cpu ws h = tt
executed_if-small (Some instr) cpu ws h = executed-small instr cpu ws h

fetched-small : (o : Option ℕ) (cpu : Cpu) (ws : List Window) → AllSmall ws → SmallEffect (fetched o cpu ws)
fetched-small None cpu ws h = tt
fetched-small (Some word) cpu ws h = executed_if-small (decoded word) cpu ws h

pub advanced-small : (v : View) (instr : Instr) (cpu : Cpu) (memory : List Window) → SmallView v → stands_at v ≡ Next instr cpu memory → SmallView (after_instr cpu memory v)
advanced-small v instr cpu memory h1 h2 = grind (arith, nat_tests, fetched-small, reach-small, with_reach-small)

-- acts

started-small : (event : ℕ) (image : Image) (block : List ℕ) → IsSmall block → SmallView (started event image block)
started-small event image block h1 = grind (arith, common_steps, nat_tests, length-take, length-append)

fresh-small : (event : ℕ) (v : View) → SmallView v → SmallView (with_fresh_segment event v)
unfolding zeros
fresh-small event v s = let e = length-replicate {A = ℕ} SEGMENT_LEN 0 in record { window = s.window; segment = omega arith }

restored-small : (o : Option Cpu) (v : View) → SmallView v → SmallView (restored o v)
restored-small None v s = s
restored-small (Some cpu) v s = record { window = s.window; segment = s.segment }

abbrev SmallIf : Option View → Type 0
SmallIf None = Unit {0}
SmallIf (Some v) = SmallView v

acted-small : (event : ℕ) (act : Act) (v : View) → SmallView v → SmallIf (acted event act v)
acted-small event (Receives at bytes result) v s =
    let w = with_reach-small (with_bytes (reach v) at bytes) v (with-small (reach v) at bytes (reach-small v s)) s in record { window = w.window; segment = w.segment }
acted-small event (Starts file block block_len) v s = started-small event (read_as_image file) (read v block block_len) (found-small (reach v) block block_len (reach-small v s))
acted-small event Shares v s = let w = fresh-small event v s in record { window = w.window; segment = w.segment }
acted-small event Leaves v s = restored-small v.body.slot v s
acted-small event Exits v s = tt
acted-small event (Faults status) v s = tt
acted-small event (Dies signal cut) v s = tt
acted-small event _ v s = record { window = s.window; segment = s.segment }

-- bodies

pub record BodiesFit (b : Bodies) (living : ℕ → Bool) : Type 0 where
  pub alive : (q : ℕ) → is_some (body_at b q) ≡ living q
  pub small : (k : ℕ) → IsSmall (memory_at b k)

segment-small : (b : Bodies) (living : ℕ → Bool) → BodiesFit b living → (o : Option ℕ) → IsSmall (segment_bytes b o)
segment-small b living h None = omega arith
segment-small b living h (Some k) = h.small k

pub seen-fits : (b : Bodies) (living : ℕ → Bool) (p : ℕ) (v : View) → BodiesFit b living → seen b p ≡ Some v → (living p ≡ true) × SmallView v
seen-fits b living p v h1 h2 = grind (arith, nat_tests, segment-small)

laid_segment-small : (o : Option ℕ) (bytes : List ℕ) (k : ℕ) (old : List ℕ) → IsSmall bytes → IsSmall old → IsSmall (laid_segment o bytes k old)
laid_segment-small o bytes k old h1 h2 = grind (arith, nat_tests)

pub fit-put : (b : Bodies) (living new : ℕ → Bool) (p : ℕ) (v : View) → BodiesFit b living → new p ≡ true → ((q : ℕ) → (q == p) ≡ false → new q ≡ living q) → SmallView v → BodiesFit (put p v b) new
fit-put b living new p v h1 h2 h3 h4 = grind (arith, nat_tests, eqb-true, laid_segment, laid_segment-small, put-body, put-memory)

fit-remove : (b : Bodies) (living left : ℕ → Bool) (p : ℕ) → BodiesFit b living → left p ≡ false → ((q : ℕ) → (q == p) ≡ false → left q ≡ living q) → BodiesFit (remove p b) left
fit-remove b living left p h1 h2 h3 = grind (arith, nat_tests, eqb-true, remove-body, remove-memory)

pub fit-same : (b : Bodies) (living same : ℕ → Bool) → BodiesFit b living → ((q : ℕ) → same q ≡ living q) → BodiesFit b same
fit-same b living same h g = record { alive = λ q. h.alive q ∙ sym (g q); small = h.small }

-- a process more lives, or one fewer
begins-others : (child q : ℕ) (b : Bool) → (q == child) ≡ false → (if child == q then true else b) ≡ b
begins-others child q b e = ap (λ (t : Bool). if t then true else b) (eq-swap child q ∙ e)

begins-itself : (child : ℕ) (b : Bool) → (if child == child then true else b) ≡ true
begins-itself child b = ap (λ (t : Bool). if t then true else b) (eq-eqb child child refl)

ends-others : (p q : ℕ) (b : Bool) → (q == p) ≡ false → (if p == q then false else b) ≡ b
ends-others p q b e = ap (λ (t : Bool). if t then false else b) (eq-swap p q ∙ e)

ends-itself : (p : ℕ) (b : Bool) → (if p == p then false else b) ≡ false
ends-itself p b = ap (λ (t : Bool). if t then false else b) (eq-eqb p p refl)

pub after-fits : (pid event : ℕ) (act : Act) (v : View) (b : Bodies) (living : ℕ → Bool) → BodiesFit b living → seen b pid ≡ Some v → BodiesFit (founded act event (beginning_of v) (done pid event act b)) (λ q. lives_after (life_by pid act) q (living q))
after-fits pid event act v b living h e =
    subst (λ (o : Option View). BodiesFit (founded act event (beginning_of v) (done_by pid event act o b)) (λ q. lives_after (life_by pid act) q (living q))) (sym e)
    (by_act act (acted-small event act v there.1))
  where
    there : (living pid ≡ true) × SmallView v
    there = seen-fits b living pid v h e

    child_small : (o : Option ℕ) (bytes : List ℕ) → IsSmall bytes → SmallView (child_view event (beginning_of v) o bytes)
    child_small o bytes s = record { window = let t = seen-fits b living pid v h e in t.1.window; segment = s }

    forked : (child : ℕ) (o : Option ℕ) (bytes : List ℕ) → IsSmall bytes → SmallView (with_result child v) → BodiesFit (put child (child_view event (beginning_of v) o bytes) (put pid (with_result child v) b)) (λ q. if child == q then true else living q)
    forked child o bytes s t =
        let all : ℕ → Bool = λ q. if child == q then true else living q in
        let own = seen-fits b living pid v h e in
        fit-put (put pid (with_result child v) b) living all child (child_view event (beginning_of v) o bytes)
        (fit-put b living living pid (with_result child v) h own.0 (λ q g. refl) t)
        (begins-itself child (living child)) (λ q g. begins-others child q (living q) g) (child_small o bytes s)

    removed : BodiesFit (remove pid b) (λ q. if pid == q then false else living q)
    removed = fit-remove b living (λ q. if pid == q then false else living q) pid h (ends-itself pid (living pid)) (λ q g. ends-others pid q (living q) g)

    by_act : (act : Act) → SmallIf (acted event act v) → BodiesFit (founded act event (beginning_of v) (joined act event v (become pid (acted event act v) b))) (λ q. lives_after (life_by pid act) q (living q))
    by_act (Returns result) s = fit-put b living living pid (with_result result v) h there.0 (λ q g. refl) s
    by_act (Receives at bytes result) s = fit-put b living living pid (with_result result (written at bytes v)) h there.0 (λ q g. refl) s
    by_act (Gives at len result) s = fit-put b living living pid (with_result result v) h there.0 (λ q g. refl) s
    by_act (Starts file block block_len) s = fit-put b living living pid (started event (read_as_image file) (read v block block_len)) h there.0 (λ q g. refl) s
    by_act (Forks child) s = forked child v.body.segment v.segment (there.1.segment) s
    by_act (Founds child) s = forked child None [] (omega arith) s
    by_act Exits s = removed
    by_act (Faults status) s = removed
    by_act (Dies signal cut) s = removed
    by_act _ s = fit-put b living living pid _ h there.0 (λ q g. refl) s
