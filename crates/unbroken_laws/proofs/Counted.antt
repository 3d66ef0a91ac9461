-- What an event does to how many processes have been made, as its record tells; and how a child begins.
use Rattle.std.proofs.lemmas.Bool.Decides.{nat_tests}
use Rattle.std.proofs.Common.{◌≡◌, ℕ, zero, suc, ◌+◌, ◌*◌, ◌/◌, ◌≤◌, ◌==◌, nat_le, ◌&&◌, not, Bool, true, false, cond, if◌then◌else◌, List, [], ◌∷◌, ◌++◌, length, max, Option, Some, None, IfSome, is_some, refl, sym, ap, subst, ◌∙◌, append-nil, arith}
use Rattle.std.specs.Option.{option_map_or}
use Rattle.std.proofs.lemmas.Bool.{le-leb, lt-ltb, and_from, and_left, and_right}
use Rattle.arn_base.specs.declared.machine.Block.{Block}
use Rattle.arn_base.specs.declared.records.Extra.{Extra}
use Rattle.arn_base.specs.declared.records.Extra.TheVariants as extra
use Rattle.arn_base.specs.declared.records.Record.{Record}
use Rattle.arn_base.specs.declared.records.Record.TheVariants as entry
use Rattle.arn_base.specs.declared.records.Start.{Start}
use Rattle.parts_model.specs.declared.calls.TheConstants.{FORK}
use Rattle.parts_model.specs.declared.limits.TheConstants.{BLOCK_LEN, WINDOW_LEN}
use Rattle.parts_model.specs.Blocks.{block_of, is_used, used_block, used_blocks, blocks_of}
use Rattle.parts_model.specs.Replies.{Answered, is_success}
use Rattle.acts_model.specs.Acts.{result_of}
use Rattle.acts_model.specs.Bodies.{View}
use Rattle.acts_model.specs.Records.{child_forked, child_number, start_held}
use Rattle.acts_model.specs.Views.{call_number}
use Rattle.arn_model.specs.Doing.{Doing}
use Rattle.arn_model.specs.Kernel.{Machine}
use Rattle.arn_model.specs.Laws.{NoStart, ProcessesCount, RequestsAreBounded}
use Rattle.arn_model.specs.Row.{request, does}
use Rattle.arn_model.specs.Tells.{HasNumbers}
use Rattle.history_model.specs.Broken.{rise_from, start_in, has_blocks_wrong, child_in, greatest_after, misplaces_start}
use Rattle.unbroken_laws.proofs.Forks.{IsStartOf, ForkDoes, Refuses, Makes, call-forks}

-- blocks that rise from a number on, and end below another
RisesTo : ℕ → ℕ → List Block → Type 0
RisesTo least most [] = least ≤ most
RisesTo least most (b ∷ blocks) = (least ≤ b.number) × RisesTo (b.number + 1) most blocks

rises-le : (least most : ℕ) (blocks : List Block) → RisesTo least most blocks → least ≤ most
unfolding RisesTo
rises-le least most [] h = h
rises-le least most (b ∷ blocks) h = let l = h.0 in let r = rises-le (b.number + 1) most blocks h.1 in omega arith

rises-later : (least most : ℕ) (blocks : List Block) → RisesTo least most blocks → RisesTo least (most + 1) blocks
unfolding RisesTo
rises-later least most [] h = omega arith
rises-later least most (b ∷ blocks) h = (h.0, rises-later (b.number + 1) most blocks h.1)

rises-push : (least most : ℕ) (blocks : List Block) (b : Block) → b.number ≡ most → RisesTo least most blocks → RisesTo least (most + 1) (blocks ++ b ∷ [])
unfolding RisesTo
rises-push least most [] b e h = (omega arith, omega arith)
rises-push least most (c ∷ blocks) b e h = (h.0, rises-push (c.number + 1) most blocks b e h.1)

used-rises : (bytes : List ℕ) (count : ℕ) → RisesTo 0 count (used_blocks bytes count)
unfolding RisesTo used_blocks
used-rises bytes zero = omega arith
used-rises bytes (suc count) = subst (λ (n : ℕ). RisesTo 0 n (used_blocks bytes count ++ used_block (block_of bytes count))) (let e : count + 1 ≡ suc count = omega arith in e) (by_test (is_used (block_of bytes count)) (used-rises bytes count))
  where
    by_test : (b : Bool) → RisesTo 0 count (used_blocks bytes count) → RisesTo 0 (count + 1) (used_blocks bytes count ++ cond b (block_of bytes count ∷ []) [])
    by_test true h = rises-push 0 count (used_blocks bytes count) (block_of bytes count) refl h
    by_test false h = subst (λ (blocks : List Block). RisesTo 0 (count + 1) blocks) (sym (append-nil (used_blocks bytes count))) (rises-later 0 count (used_blocks bytes count) h)

rises-from : (least most : ℕ) (blocks : List Block) → RisesTo least most blocks → BLOCK_LEN * most ≤ WINDOW_LEN → rise_from least blocks ≡ true
unfolding RisesTo
rises-from least most [] h l = refl
rises-from least most (b ∷ blocks) h l =
    let below = rises-le (b.number + 1) most blocks h.1 in
    and_from (nat_le least b.number) _ (le-leb least b.number h.0)
    (and_from (nat_le (BLOCK_LEN * (b.number + 1)) WINDOW_LEN) _ (le-leb (BLOCK_LEN * (b.number + 1)) WINDOW_LEN (omega arith)) (rises-from (b.number + 1) most blocks h.1 l))

blocks-rise : (bytes : List ℕ) → length bytes ≤ WINDOW_LEN → rise_from 0 (blocks_of bytes) ≡ true
blocks-rise bytes l = rises-from 0 (length bytes / BLOCK_LEN) (blocks_of bytes) (used-rises bytes (length bytes / BLOCK_LEN)) (omega arith)

-- where so many processes have been made before an event, and so many behind it
pub record Counted (before after : ℕ) (e : Record) : Type 0 where
  pub grows : greatest_after e before ≡ after
  pub child : IfSome (child_in e) (λ c. c ≡ before + 1)
  pub start : misplaces_start e ≡ false
  pub blocks : has_blocks_wrong (start_in e) ≡ false

-- a call that isn't a fork that made a child
no-start : (pid number result : ℕ) (more : Extra) → NoStart more → start_in (entry.Call pid number result more) ≡ None
no-start pid number result (extra.Start start) h = absurd h
no-start pid number result more h = refl

none-made : (pid number result : ℕ) (more : Extra) (before after : ℕ) → NoStart more → after ≡ before → ((number == FORK) && is_success result) ≡ false → Counted before after (entry.Call pid number result more)
none-made pid number result more before after h1 h2 h3 = grind (arith, nat_tests, no-start)

start-rises : (v : View) (pid number result : ℕ) (more : Extra) → length v.window ≤ WINDOW_LEN → IsStartOf v more → has_blocks_wrong (start_in (entry.Call pid number result more)) ≡ false
start-rises v pid number result (extra.Start start) l h = ap (λ (s : Start). not (rise_from 0 s.blocks)) h ∙ ap not (blocks-rise v.window l)
start-rises v pid number result more l h = refl

one-made : (v : View) (pid number result : ℕ) (more : Extra) (before after : ℕ) → length v.window ≤ WINDOW_LEN → IsStartOf v more → result ≡ before + 1 → after ≡ before + 1 → ((number == FORK) && is_success result) ≡ true → Counted before after (entry.Call pid number result more)
one-made v pid number result more before after small is one many made =
    let child = λ (b : Bool). child_number (if b then Some (child_forked result more) else None) in
    record {
      grows = ap (λ (b : Bool). option_map_or (max before) (child b) before) made ∙ omega (arith, one, many);
      child = subst (λ (b : Bool). IfSome (child b) (λ c. c ≡ before + 1)) (sym made) one;
      start = ap (λ (b : Bool). is_some (start_held more) && not (is_some (child b))) made ∙ and_right (is_some (start_held more)) false refl;
      blocks = start-rises v pid number result more small is;
    }

and-next : (a b c : Bool) → a ≡ true → b ≡ c → (a && b) ≡ c
and-next a b c e f = ap (λ (x : Bool). x && b) e ∙ f

-- a call
pub call-counted : RequestsAreBounded → ProcessesCount → (m : Machine) (pid : ℕ) (v : View) (reply : Option Answered) (d : Doing) → does m pid v reply (request m pid v) ≡ Some d → HasNumbers d.kernel → length v.window ≤ WINDOW_LEN → Counted (length m.kernel.processes) (length d.kernel.processes) (entry.Call pid (call_number v.body.cpu) (result_of d.act) d.extra)
call-counted bounded counts m pid v reply d e few small = by_test (call_number v.body.cpu == FORK) refl
  where
    forked : (call_number v.body.cpu == FORK) ≡ true → ForkDoes m v d → Counted (length m.kernel.processes) (length d.kernel.processes) (entry.Call pid (call_number v.body.cpu) (result_of d.act) d.extra)
    forked f (Refuses many none fails) =
        none-made pid (call_number v.body.cpu) (result_of d.act) d.extra (length m.kernel.processes) (length d.kernel.processes) none many (and-next (call_number v.body.cpu == FORK) (is_success (result_of d.act)) false f fails)
    forked f (Makes is one start) =
        one-made v pid (call_number v.body.cpu) (result_of d.act) d.extra (length m.kernel.processes) (length d.kernel.processes) small start is one
        (and-next (call_number v.body.cpu == FORK) (is_success (result_of d.act)) true f (lt-ltb (result_of d.act) 9223372036854775808 (omega arith)))

    by_test : (b : Bool) → (call_number v.body.cpu == FORK) ≡ b → Counted (length m.kernel.processes) (length d.kernel.processes) (entry.Call pid (call_number v.body.cpu) (result_of d.act) d.extra)
    by_test true f = forked f (call-forks counts m pid v reply d f e)
    by_test false f =
        let still = bounded m pid v in
        none-made pid (call_number v.body.cpu) (result_of d.act) d.extra (length m.kernel.processes) (length d.kernel.processes) (still.no_start reply d e f) (still.many reply d e f) (and_left (call_number v.body.cpu == FORK) (is_success (result_of d.act)) f)
