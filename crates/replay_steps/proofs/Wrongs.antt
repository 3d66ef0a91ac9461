-- What it means that nothing is wrong.
use Rattle.std.proofs.Common.{◌≡◌, ◌≤◌, ℕ, ◌==◌, not, nat_lt, Bool, true, false, if◌then◌else◌, IsTrue, List, [], ◌∷◌, length, drop, Option, Some, None, IfSome, refl, sym, ap, ◌∙◌}
use Rattle.std.proofs.lemmas.Bool.{ltb-false, or_parts}
use Rattle.std.proofs.lemmas.List.{drop_all}
use Rattle.arn_base.specs.declared.records.Extra.{Extra}
use Rattle.arn_base.specs.declared.records.Record.{Record}
use Rattle.arn_base.specs.declared.records.Record.TheVariants as entry
use Rattle.rv64_model.specs.Instruction.{Effect}
use Rattle.parts_model.specs.declared.limits.TheConstants.{MOST_BLOCK_BYTES}
use Rattle.parts_model.specs.Image.{is_image}
use Rattle.acts_model.specs.Acts.{Act, Returns, Receives, Gives, Starts, Forks, Founds, Shares, Leaves, Delivers, Exits, Faults, Dies}
use Rattle.acts_model.specs.Bodies.{View}
use Rattle.acts_model.specs.Disagreement.{Wrong, act_wrong, call_wrong, first_difference, is_other_call, is_outside, isnt_block, isnt_call, or_else, wrong_if, wrong_with}
use Rattle.acts_model.specs.Told.{act_of, call_act, delivery_act, kind_of}
use Rattle.replay_steps.specs.Calls.{CanStart, StartsFrom, is_own}

or_else-none : (a b : Option Wrong) → or_else a b ≡ None → (a ≡ None) × (b ≡ None)
or_else-none None b none = (refl, none)
or_else-none (Some w) b none = absurd (let e : Some w ≡ None = none in cc)

wrong_if-none : (test : Bool) (said found : ℕ) → wrong_if test said found ≡ None → test ≡ false
wrong_if-none true said found none = absurd (let e : Some (record { said = said; found = found }) ≡ None = none in cc)
wrong_if-none false said found none = refl

not-false : (b : Bool) → not b ≡ false → b ≡ true
not-false true is = refl
not-false false is = cc

-- a start that isn't wrong is from an image, with a block that isn't too long
starts-from : (v : View) (file : List ℕ) (block len : ℕ) (more : Extra) → act_wrong v (Starts file block len) more ≡ None → StartsFrom file len
starts-from v file block len more none =
    let parts = or_else-none (wrong_if (not (is_image file)) _ _) (wrong_if (isnt_block v block len) _ _) none in
    record {
      image = not-false (is_image file) (wrong_if-none (not (is_image file)) _ _ parts.0);
      few = ltb-false MOST_BLOCK_BYTES len (or_parts (nat_lt MOST_BLOCK_BYTES len) (is_outside v block len) (wrong_if-none (isnt_block v block len) _ _ parts.1)).0;
    }

-- an act that isn't wrong can be made, if it is a start
act-starts : (v : View) (act : Act) (more : Extra) → act_wrong v act more ≡ None → CanStart act
act-starts v (Starts file block len) more none = starts-from v file block len more none
act-starts v (Returns r) more none = tt
act-starts v (Receives at bytes r) more none = tt
act-starts v (Gives at len r) more none = tt
act-starts v (Forks child) more none = tt
act-starts v (Founds child) more none = tt
act-starts v Shares more none = tt
act-starts v Leaves more none = tt
act-starts v (Delivers s h cut) more none = tt
act-starts v Exits more none = tt
act-starts v (Faults status) more none = tt
act-starts v (Dies s cut) more none = tt

-- nor is the act of a call whose record isn't wrong
call-act : (v : View) (effect : Effect) (number result : ℕ) (more : Extra) → call_wrong v effect number result more ≡ None → act_wrong v (call_act (kind_of number) v.body.cpu result more) more ≡ None
call-act v effect number result more none =
    (or_else-none (is_other_call v.body.cpu number) (act_wrong v (call_act (kind_of number) v.body.cpu result more) more)
    (or_else-none (isnt_call effect number) (or_else (is_other_call v.body.cpu number) (act_wrong v (call_act (kind_of number) v.body.cpu result more) more)) none).1).1

delivery-starts : (signal handler : ℕ) (cut : Bool) → CanStart (delivery_act signal handler cut)
delivery-starts signal handler cut = by (handler == 0)
  where
    by : (b : Bool) → CanStart (if b then Dies signal cut else Delivers signal handler cut)
    by true = tt
    by false = tt

-- an act that a record tells in which nothing is wrong
pub told-starts : (v : View) (effect : Effect) (e : Record) → IsTrue (is_own e) → wrong_with v effect e ≡ None → IfSome (act_of v.body.cpu e) CanStart
told-starts v effect (entry.Signal pid signal cut handler) own none = delivery-starts signal handler cut
told-starts v effect (entry.Call pid number result more) own none =
    act-starts v (call_act (kind_of number) v.body.cpu result more) more (call-act v effect number result more none)
told-starts v effect (entry.End pid status) own none = tt
told-starts v effect (entry.File name bytes) own none = cc
told-starts v effect (entry.Boot name give) own none = cc
told-starts v effect (entry.Typed bytes) own none = cc
told-starts v effect (entry.Unplug device) own none = cc
told-starts v effect (entry.Slice pid ran) own none = cc

pub difference-none : (said : List ℕ) → first_difference said [] ≡ None
difference-none [] = refl
difference-none (b ∷ said) = refl

-- nothing more is found
pub difference-past : (said found : List ℕ) (place : ℕ) → length found ≤ place → first_difference said found ≡ first_difference (drop place said) (drop place found) → None ≡ first_difference said found
difference-past said found place past same =
    sym (same ∙ (ap (first_difference (drop place said)) (drop_all place found past) ∙ difference-none (drop place said)))
