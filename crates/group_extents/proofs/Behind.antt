-- What stands behind a slice, and what it makes.
use Rattle.std.proofs.Common.{◌≡◌, ℕ, zero, suc, ◌+◌, ◌==◌, ◌&&◌, Bool, true, false, if◌then◌else◌, not, List, [], ◌∷◌, ◌++◌, Option, Some, None, refl, ap, sym, ◌∙◌, arith}
use Rattle.arn_base.specs.declared.records.Record.{Record}
use Rattle.arn_base.specs.declared.records.Record.TheVariants as entry
use Rattle.history_model.specs.Alone as alone
use Rattle.history_model.specs.Alone.{Standing, Slice, Own, Made, Makes, Fails, and_then, plains, plain_in, plain_or, settled, slice_of}
use Rattle.history_model.specs.Broken.{Behind, Nowhere, behind, broken_from, is_behind}
use Rattle.history_model.specs.Groups.{is_number}
use Rattle.history_model.specs.Names.{is_booted}
use Rattle.acts_model.specs.Bodies.{seen}
use Rattle.replayer.specs.BySlices.{after_own, after_part}
use Rattle.group_extents.specs.Extents.{delivers, own_len}
use Rattle.group_extents.proofs.Goes.{booted-more, goes-on, hand-more}

-- nothing but what comes from outside stands before the next slice
abbrev pub IsQuiet : List Record → Type 0
IsQuiet [] = Unit {0}
IsQuiet (entry.Slice pid ran ∷ entries) = Unit {0}
IsQuiet (entry.File name bytes ∷ entries) = IsQuiet entries
IsQuiet (entry.Typed bytes ∷ entries) = IsQuiet entries
IsQuiet (entry.Unplug device ∷ entries) = IsQuiet entries
IsQuiet (e ∷ entries) = ⊥

-- nor does it behind deliveries, and a call or an end behind these
abbrev pub IsTidy : List Record → Type 0
IsTidy [] = Unit {0}
IsTidy (entry.Slice pid ran ∷ entries) = Unit {0}
IsTidy (entry.Signal pid signal cut handler ∷ entries) = IsTidy entries
IsTidy (entry.Boot name give ∷ entries) = ⊥
IsTidy (e ∷ entries) = IsQuiet entries

-- another slice stands there
abbrev pub HasSlice : List Record → Type 0
HasSlice [] = ⊥
HasSlice (entry.Slice pid ran ∷ entries) = Unit {0}
HasSlice (e ∷ entries) = HasSlice entries

no-way : {A : Type 0} → true ≡ false → A
no-way h = absurd (let no : true ≡ false = h in cc)

-- behind no slice there is no event of a process's own
handless : (before : List Record) (pid : ℕ) → behind before ≡ Nowhere → not (is_behind pid (behind before)) ≡ true
handless before pid n = ap (λ (b : Behind). not (is_behind pid b)) n

quiet : (before rest : List Record) → is_booted before ≡ true → behind before ≡ Nowhere → broken_from before rest ≡ None → IsQuiet rest
quiet before [] b n h = tt
quiet before (entry.Slice pid ran ∷ rest) b n h = tt
quiet before (entry.File name bytes ∷ rest) b n h = no-way (sym b ∙ (goes-on before (entry.File name bytes) rest h).side)
quiet before (entry.Boot name give ∷ rest) b n h = no-way (sym b ∙ (goes-on before (entry.Boot name give) rest h).side)
quiet before (entry.Typed bytes ∷ rest) b n h =
    quiet (before ++ entry.Typed bytes ∷ []) rest (booted-more before (entry.Typed bytes ∷ []) b) (hand-more Nowhere before (entry.Typed bytes)) (goes-on before (entry.Typed bytes) rest h).later
quiet before (entry.Unplug device ∷ rest) b n h =
    quiet (before ++ entry.Unplug device ∷ []) rest (booted-more before (entry.Unplug device ∷ []) b) (hand-more Nowhere before (entry.Unplug device)) (goes-on before (entry.Unplug device) rest h).later
quiet before (entry.Signal pid signal cut handler ∷ rest) b n h = no-way (sym (handless before pid n) ∙ (goes-on before (entry.Signal pid signal cut handler) rest h).slice)
quiet before (entry.Call pid number result more ∷ rest) b n h = no-way (sym (handless before pid n) ∙ (goes-on before (entry.Call pid number result more) rest h).slice)
quiet before (entry.End pid status ∷ rest) b n h = no-way (sym (handless before pid n) ∙ (goes-on before (entry.End pid status) rest h).slice)

-- behind a boot, records that aren't broken are tidy
pub tidy : (before rest : List Record) → is_booted before ≡ true → broken_from before rest ≡ None → IsTidy rest
tidy before [] b h = tt
tidy before (entry.Slice pid ran ∷ rest) b h = tt
tidy before (entry.File name bytes ∷ rest) b h = no-way (sym b ∙ (goes-on before (entry.File name bytes) rest h).side)
tidy before (entry.Boot name give ∷ rest) b h = no-way (sym b ∙ (goes-on before (entry.Boot name give) rest h).side)
tidy before (entry.Typed bytes ∷ rest) b h =
    quiet (before ++ entry.Typed bytes ∷ []) rest (booted-more before (entry.Typed bytes ∷ []) b) (hand-more Nowhere before (entry.Typed bytes)) (goes-on before (entry.Typed bytes) rest h).later
tidy before (entry.Unplug device ∷ rest) b h =
    quiet (before ++ entry.Unplug device ∷ []) rest (booted-more before (entry.Unplug device ∷ []) b) (hand-more Nowhere before (entry.Unplug device)) (goes-on before (entry.Unplug device) rest h).later
tidy before (entry.Signal pid signal cut handler ∷ rest) b h =
    tidy (before ++ entry.Signal pid signal cut handler ∷ []) rest (booted-more before (entry.Signal pid signal cut handler ∷ []) b) (goes-on before (entry.Signal pid signal cut handler) rest h).later
tidy before (entry.Call pid number result more ∷ rest) b h =
    quiet (before ++ entry.Call pid number result more ∷ []) rest (booted-more before (entry.Call pid number result more ∷ []) b) (hand-more Nowhere before (entry.Call pid number result more)) (goes-on before (entry.Call pid number result more) rest h).later
tidy before (entry.End pid status ∷ rest) b h =
    quiet (before ++ entry.End pid status ∷ []) rest (booted-more before (entry.End pid status ∷ []) b) (hand-more Nowhere before (entry.End pid status)) (goes-on before (entry.End pid status) rest h).later

-- instructions don't ask which event comes next
plains-event : (slice : Slice) (event done left : ℕ) (own : Own) → plains (record slice { event = event }) done left own ≡ plains slice done left own
plains-event slice event done zero own = refl
plains-event slice event done (suc left) own = by_option (plain_in slice.pid own (seen own.bodies slice.pid)) (plains-event slice event (suc done) left)
  where
    by_option : (o : Option Own) → ((next : Own) → plains (record slice { event = event }) (suc done) left next ≡ plains slice (suc done) left next) → plain_or (record slice { event = event }) done o (plains (record slice { event = event }) (suc done) left) ≡ plain_or slice done o (plains slice (suc done) left)
    by_option None rest = refl
    by_option (Some next) rest = rest next

run-event : (slice : Slice) (event left : ℕ) (made : Made) → and_then made (plains (record slice { event = event }) 0 left) ≡ and_then made (plains slice 0 left)
run-event slice event left (Makes own) = plains-event slice event 0 left own
run-event slice event left (Fails d) = refl

settled-event : (t : Standing) (event : ℕ) → settled (record t { events = event }) ≡ settled t
settled-event t event = run-event (slice_of t) event t.owed t.made

-- what comes from outside makes nothing
quiet-same : (g until : ℕ) (t : Standing) (rest : List Record) → IsQuiet rest → settled (after_part g until t rest) ≡ settled t
quiet-same g until t [] h = refl
quiet-same g until t (entry.Slice pid ran ∷ rest) h = refl
quiet-same g until t (entry.File name bytes ∷ rest) h = quiet-same g until (after_own g until t (entry.File name bytes)) rest h ∙ settled-event t (t.events + 1)
quiet-same g until t (entry.Typed bytes ∷ rest) h = quiet-same g until (after_own g until t (entry.Typed bytes)) rest h ∙ settled-event t (t.events + 1)
quiet-same g until t (entry.Unplug device ∷ rest) h = quiet-same g until (after_own g until t (entry.Unplug device)) rest h ∙ settled-event t (t.events + 1)
quiet-same g until t (entry.Boot name give ∷ rest) h = absurd h
quiet-same g until t (entry.Signal pid signal cut handler ∷ rest) h = absurd h
quiet-same g until t (entry.Call pid number result more ∷ rest) h = absurd h
quiet-same g until t (entry.End pid status ∷ rest) h = absurd h

-- where no more events of its own stand behind a slice, it makes no more
none-own : (rest : List Record) → IsTidy rest → 0 ≡ own_len rest → IsQuiet rest
none-own [] h none = tt
none-own (entry.Slice pid ran ∷ rest) h none = tt
none-own (entry.File name bytes ∷ rest) h none = h
none-own (entry.Typed bytes ∷ rest) h none = h
none-own (entry.Unplug device ∷ rest) h none = h
none-own (entry.Boot name give ∷ rest) h none = absurd h
none-own (entry.Signal pid signal cut handler ∷ rest) h none = absurd (omega (arith, none))
none-own (entry.Call pid number result more ∷ rest) h none = absurd (omega (arith, none))
none-own (entry.End pid status ∷ rest) h none = absurd (omega (arith, none))

module _ (g until : ℕ) (t : Standing) (e : Record) (rest more : List Record) (one : IsQuiet rest) (both : IsQuiet (rest ++ more)) where
  quiet-both : settled (after_part g until (after_own g until t e) rest) ≡ settled (after_part g until (after_own g until t e) (rest ++ more))
  quiet-both = quiet-same g until (after_own g until t e) rest one ∙ sym (quiet-same g until (after_own g until t e) (rest ++ more) both)

pub open-same : (g until : ℕ) (t : Standing) (rest more : List Record) → IsTidy rest → IsTidy (rest ++ more) → own_len rest ≡ own_len (rest ++ more) → settled (after_part g until t rest) ≡ settled (after_part g until t (rest ++ more))
open-same g until t [] more one both len = sym (quiet-same g until t more (none-own more both len))
open-same g until t (entry.Slice pid ran ∷ rest) more one both len = refl
open-same g until t (entry.File name bytes ∷ rest) more one both len = quiet-both g until t (entry.File name bytes) rest more one both
open-same g until t (entry.Typed bytes ∷ rest) more one both len = quiet-both g until t (entry.Typed bytes) rest more one both
open-same g until t (entry.Unplug device ∷ rest) more one both len = quiet-both g until t (entry.Unplug device) rest more one both
open-same g until t (entry.Boot name give ∷ rest) more one both len = absurd one
open-same g until t (entry.Signal pid signal cut handler ∷ rest) more one both len =
    open-same g until (after_own g until t (entry.Signal pid signal cut handler)) rest more one both (omega (arith, len))
open-same g until t (entry.Call pid number result extra ∷ rest) more one both len = quiet-both g until t (entry.Call pid number result extra) rest more one both
open-same g until t (entry.End pid status ∷ rest) more one both len = quiet-both g until t (entry.End pid status) rest more one both

-- what stands behind another slice isn't looked at
pub closed-same : (g until : ℕ) (t : Standing) (rest more : List Record) → HasSlice rest → after_part g until t rest ≡ after_part g until t (rest ++ more)
closed-same g until t [] more h = absurd h
closed-same g until t (entry.Slice pid ran ∷ rest) more h = refl
closed-same g until t (entry.File name bytes ∷ rest) more h = closed-same g until (after_own g until t (entry.File name bytes)) rest more h
closed-same g until t (entry.Boot name give ∷ rest) more h = closed-same g until (after_own g until t (entry.Boot name give)) rest more h
closed-same g until t (entry.Typed bytes ∷ rest) more h = closed-same g until (after_own g until t (entry.Typed bytes)) rest more h
closed-same g until t (entry.Unplug device ∷ rest) more h = closed-same g until (after_own g until t (entry.Unplug device)) rest more h
closed-same g until t (entry.Signal pid signal cut handler ∷ rest) more h = closed-same g until (after_own g until t (entry.Signal pid signal cut handler)) rest more h
closed-same g until t (entry.Call pid number result extra ∷ rest) more h = closed-same g until (after_own g until t (entry.Call pid number result extra)) rest more h
closed-same g until t (entry.End pid status ∷ rest) more h = closed-same g until (after_own g until t (entry.End pid status)) rest more h

-- what stands behind a slice doesn't ask for the moment
pub moment-free : (g m n : ℕ) (t : Standing) (rest : List Record) → after_part g m t rest ≡ after_part g n t rest
moment-free g m n t [] = refl
moment-free g m n t (entry.Slice pid ran ∷ rest) = refl
moment-free g m n t (entry.File name bytes ∷ rest) = moment-free g m n (after_own g m t (entry.File name bytes)) rest
moment-free g m n t (entry.Boot name give ∷ rest) = moment-free g m n (after_own g m t (entry.Boot name give)) rest
moment-free g m n t (entry.Typed bytes ∷ rest) = moment-free g m n (after_own g m t (entry.Typed bytes)) rest
moment-free g m n t (entry.Unplug device ∷ rest) = moment-free g m n (after_own g m t (entry.Unplug device)) rest
moment-free g m n t (entry.Signal pid signal cut handler ∷ rest) = moment-free g m n (after_own g m t (entry.Signal pid signal cut handler)) rest
moment-free g m n t (entry.Call pid number result more ∷ rest) = moment-free g m n (after_own g m t (entry.Call pid number result more)) rest
moment-free g m n t (entry.End pid status ∷ rest) = moment-free g m n (after_own g m t (entry.End pid status)) rest

-- where nothing is owed, what was made stands
makes-same : (slice : Slice) (made : Made) → and_then made (plains slice 0 0) ≡ made
makes-same slice (Makes own) = refl
makes-same slice (Fails d) = refl

pub settled-none : (t : Standing) → t.owed ≡ 0 → settled t ≡ t.made
settled-none t none = ap (λ (left : ℕ). and_then t.made (plains (slice_of t) 0 left)) none ∙ makes-same (slice_of t) t.made

if-none : (b : Bool) (n : ℕ) → n ≡ 0 → (if b then 0 else n) ≡ 0
if-none true n none = refl
if-none false n none = none

-- what a call or an end makes, where its slice ends up to the moment or doesn't
abbrev last-made : ℕ → Standing → ℕ → Record → Bool → Made
last-made g t pid e ended =
    alone.made_if ended (alone.made_if (ended && is_number g (t.groups pid)) t.made (alone.ends_slice (slice_of t) t.owed e)) (alone.begins_by g t.events e)

-- a slice that begins behind the moment makes nothing
pub idle-same : (g until : ℕ) (t : Standing) (rest : List Record) → t.is_begun ≡ false → t.is_ended ≡ false → t.owed ≡ 0 → settled (after_part g until t rest) ≡ t.made
idle-same g until t [] begun ended owed = settled-none t owed
idle-same g until t (entry.Slice pid ran ∷ rest) begun ended owed = settled-none t owed
idle-same g until t (entry.File name bytes ∷ rest) begun ended owed = idle-same g until (after_own g until t (entry.File name bytes)) rest begun ended owed
idle-same g until t (entry.Typed bytes ∷ rest) begun ended owed = idle-same g until (after_own g until t (entry.Typed bytes)) rest begun ended owed
idle-same g until t (entry.Unplug device ∷ rest) begun ended owed = idle-same g until (after_own g until t (entry.Unplug device)) rest begun ended owed
idle-same g until t (entry.Boot name give ∷ rest) begun ended owed =
    idle-same g until (after_own g until t (entry.Boot name give)) rest begun ended owed
    ∙ ap (λ (b : Bool). alone.made_if (b && (g == 1)) t.made (alone.boots t.events (entry.Boot name give))) ended
idle-same g until t (entry.Signal pid signal cut handler ∷ rest) begun ended owed =
    idle-same g until (after_own g until t (entry.Signal pid signal cut handler)) rest begun ended owed
    ∙ ap (λ (b : Bool). alone.made_if (b && is_number g (t.groups pid)) t.made (alone.happens pid t.events (entry.Signal pid signal cut handler))) begun
idle-same g until t (entry.Call pid number result more ∷ rest) begun ended owed =
    idle-same g until (after_own g until t (entry.Call pid number result more)) rest begun ended (if-none t.is_ended t.owed owed)
    ∙ ap (last-made g t pid (entry.Call pid number result more)) ended
idle-same g until t (entry.End pid status ∷ rest) begun ended owed =
    idle-same g until (after_own g until t (entry.End pid status)) rest begun ended (if-none t.is_ended t.owed owed)
    ∙ ap (last-made g t pid (entry.End pid status)) ended

-- nor does one that begins at the moment and ends behind it, without a delivery at its begin
pub still-same : (g until : ℕ) (t : Standing) (rest : List Record) → IsTidy rest → delivers rest ≡ false → t.is_ended ≡ false → t.owed ≡ 0 → settled (after_part g until t rest) ≡ t.made
still-same g until t [] tidy none ended owed = settled-none t owed
still-same g until t (entry.Slice pid ran ∷ rest) tidy none ended owed = settled-none t owed
still-same g until t (entry.File name bytes ∷ rest) tidy none ended owed = quiet-same g until (after_own g until t (entry.File name bytes)) rest tidy ∙ settled-none (after_own g until t (entry.File name bytes)) owed
still-same g until t (entry.Typed bytes ∷ rest) tidy none ended owed = quiet-same g until (after_own g until t (entry.Typed bytes)) rest tidy ∙ settled-none (after_own g until t (entry.Typed bytes)) owed
still-same g until t (entry.Unplug device ∷ rest) tidy none ended owed = quiet-same g until (after_own g until t (entry.Unplug device)) rest tidy ∙ settled-none (after_own g until t (entry.Unplug device)) owed
still-same g until t (entry.Boot name give ∷ rest) tidy none ended owed = absurd tidy
still-same g until t (entry.Signal pid signal cut handler ∷ rest) tidy none ended owed = no-way none
still-same g until t (entry.Call pid number result more ∷ rest) tidy none ended owed =
    quiet-same g until (after_own g until t (entry.Call pid number result more)) rest tidy
    ∙ (settled-none (after_own g until t (entry.Call pid number result more)) (if-none t.is_ended t.owed owed) ∙ ap (last-made g t pid (entry.Call pid number result more)) ended)
still-same g until t (entry.End pid status ∷ rest) tidy none ended owed =
    quiet-same g until (after_own g until t (entry.End pid status)) rest tidy
    ∙ (settled-none (after_own g until t (entry.End pid status)) (if-none t.is_ended t.owed owed) ∙ ap (last-made g t pid (entry.End pid status)) ended)
