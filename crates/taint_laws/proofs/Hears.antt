-- The events of a group alone are those of its records.
use Rattle.std.proofs.Common.{◌≡◌, ℕ, zero, suc, ◌+◌, ◌==◌, ◌&&◌, Bool, true, false, if◌then◌else◌, List, [], ◌∷◌, ◌++◌, slice_get, Option, Some, None, IfSome, IsSome, refl, sym, ap, subst, ◌∙◌, arith, eqb-true, zero-add}
use Rattle.std.proofs.lemmas.Bool.Decides.{nat_tests}
use Rattle.std.proofs.lemmas.Bool.{and_from}
use Rattle.arn_base.specs.declared.machine.Cpu.{Cpu}
use Rattle.arn_base.specs.declared.records.Extra.{Extra}
use Rattle.arn_base.specs.declared.records.Extra.TheVariants as extra
use Rattle.arn_base.specs.declared.records.Record.{Record}
use Rattle.arn_base.specs.declared.records.Record.TheVariants as entry
use Rattle.arn_base.specs.declared.records.Start.{Start}
use Rattle.rv64_model.specs.Instruction.{Effect}
use Rattle.parts_model.specs.declared.calls.TheConstants as number
use Rattle.parts_model.specs.Replies.{is_success}
use Rattle.acts_model.specs.Acts.{Act, Returns, Forks, Founds, unborn}
use Rattle.acts_model.specs.Bodies.{View, put, seen}
use Rattle.acts_model.specs.Disagreement.{Wrong, wrong_with}
use Rattle.acts_model.specs.Moved.{Event, Inside}
use Rattle.acts_model.specs.Records.{child_called, child_forked, child_founded, event_len}
use Rattle.acts_model.specs.Told.{Kind, Fork, Exec, Wait, Read, Write, act_of, call_act, kind_of}
use Rattle.acts_model.specs.Transfers.{Holds, Transfer, holds_of, transfer}
use Rattle.acts_model.specs.Views.{stands_at}
use Rattle.history_model.specs.Alone as alone
use Rattle.history_model.specs.Alone.{Own, Makes, Slice, Standing, act_done, after_record, at_first, begins_by, boots, ends_slice, happens, plain_by, plain_in, plain_or, plains, record_done, record_seen, replayed, settled, slice_of, unless_wrong}
use Rattle.history_model.specs.Events.{events}
use Rattle.history_model.specs.Exchanges.{founded}
use Rattle.history_model.specs.Groups.{is_number}
use Rattle.taint_state.specs.Goes.{Hearing, Hearings, heard_after}
use Rattle.taint_state.specs.Steps.{founds}
use Rattle.taint_laws.specs.Follows.{heard_from, none_heard}
use Rattle.taint_laws.specs.Laws.{HearsEvents, IsHeard}
use Rattle.taint_laws.proofs.Fold.{and_then-ends, made_if-ends, no_instruction-ends}
use Rattle.taint_laws.proofs.Records.{Ends, begins-ends}

-- an act that starts a group is that of a fork whose record says so

kind-fork : (n : ℕ) → kind_of n ≡ Fork → (n == number.FORK) ≡ true
kind-fork n h1 = grind (arith, nat_tests)

module _ (pid event : ℕ) (holds : Holds) where
  abbrev Founding : Act → Type 0
  Founding a = founds (transfer pid event holds a) ≡ true

  neither : (b : Bool) (x y : Act) → founds (transfer pid event holds x) ≡ false → founds (transfer pid event holds y) ≡ false → Founding (if b then x else y) → ⊥
  neither true x y h k f = let clash : true ≡ false = sym f ∙ h in cc
  neither false x y h k f = let clash : true ≡ false = sym f ∙ k in cc

  fork-founded : (n result : ℕ) (start : Start) → (n == number.FORK) ≡ true → (b : Bool) → is_success result ≡ b → Founding (if b then Founds result else Returns result) → IsSome (child_founded (child_called n result (extra.Start start)))
  fork-founded n result start is true s f =
      subst (λ (b : Bool). IsSome (child_founded (if b then Some (child_forked result (extra.Start start)) else None))) (sym (and_from (n == number.FORK) (is_success result) is s)) refl
  fork-founded n result start is false s f = absurd (cc)

  fork-one : (n : ℕ) (cpu : Cpu) (result : ℕ) (more : Extra) → (n == number.FORK) ≡ true → Founding (call_act Fork cpu result more) → IsSome (child_founded (child_called n result more))
  fork-one n cpu result (extra.Start start) is f = fork-founded n result start is (is_success result) refl f
  fork-one n cpu result more is f = absurd (neither (is_success result) (Forks result) (Returns result) refl refl f)

  exec-none : (cpu : Cpu) (result : ℕ) (more : Extra) → Founding (call_act Exec cpu result more) → ⊥
  exec-none cpu result (extra.Give give) f = cc
  exec-none cpu result more f = cc

  wait-none : (cpu : Cpu) (result : ℕ) (more : Extra) → Founding (call_act Wait cpu result more) → ⊥
  wait-none cpu result (extra.Give give) f = cc
  wait-none cpu result more f = cc

  read-none : (cpu : Cpu) (result : ℕ) (more : Extra) → Founding (call_act Read cpu result more) → ⊥
  read-none cpu result more h1 = grind (arith, nat_tests)

  write-none : (cpu : Cpu) (result : ℕ) (more : Extra) → Founding (call_act Write cpu result more) → ⊥
  write-none cpu result more h1 = grind (arith, nat_tests, neither)

  call-one : (n : ℕ) (kind : Kind) (cpu : Cpu) (result : ℕ) (more : Extra) → (kind ≡ Fork → (n == number.FORK) ≡ true) → Founding (call_act kind cpu result more) → IsSome (child_founded (child_called n result more))
  call-one n kind cpu result more h1 h2 = grind (arith, nat_tests, exec-none, fork-one, neither, read-none, wait-none, write-none)

  founding-founded : (cpu : Cpu) (e : Record) (a : Act) → act_of cpu e ≡ Some a → Founding a → IsSome (founded e)
  founding-founded cpu e a h1 h2 = grind (arith, nat_tests, call-one, kind-fork, neither)

module _ (all : List Record) where
  record IsOf (t : Transfer) (event : Event) : Type 0 where
    there : slice_get all event.number ≡ Some event.entry
    founding : founds t ≡ true → IsSome (founded event.entry)

  abbrev AreOf : List Inside → Type 0
  AreOf [] = Unit {0}
  AreOf (i ∷ list) = IfSome i.event (IsOf i.transfer) × AreOf list

  abbrev Keeps : Own → Type 0
  Keeps own = AreOf own.inside

  push : (list : List Inside) (i : Inside) → AreOf list → IfSome i.event (IsOf i.transfer) → AreOf (list ++ i ∷ [])
  push [] i h k = (k, tt)
  push (j ∷ list) i h k = (h.0, push list i h.1 k)

  plain-by : (pid : ℕ) (own : Own) (v : View) (effect : Effect) → Keeps own → IfSome (plain_by pid own v effect) Keeps
  plain-by pid own v effect h1 = grind (arith, nat_tests, push)

  plain-keeps : (pid : ℕ) (own : Own) (o : Option View) → Keeps own → IfSome (plain_in pid own o) Keeps
  plain-keeps pid own None h = tt
  plain-keeps pid own (Some v) h = plain-by pid own v (stands_at v) h

  plains-keep : (slice : Slice) (ran left : ℕ) (own : Own) → Keeps own → Ends Keeps (plains slice ran left own)
  plains-keep slice ran zero own h = h
  plains-keep slice ran (suc left) own h = by_plain (plain_in slice.pid own (seen own.bodies slice.pid)) (plain-keeps slice.pid own (seen own.bodies slice.pid) h) (plains-keep slice (suc ran) left)
    where
      by_plain : (o : Option Own) → IfSome o Keeps → ((own : Own) → Keeps own → Ends Keeps (plains slice (suc ran) left own)) → Ends Keeps (plain_or slice ran o (plains slice (suc ran) left))
      by_plain None k ih = tt
      by_plain (Some next) k ih = ih next k

  settled-keeps : (t : Standing) → Ends Keeps t.made → Ends Keeps (settled t)
  settled-keeps t h = and_then-ends Keeps Keeps t.made (plains (slice_of t) 0 t.owed) h (plains-keep (slice_of t) 0 t.owed)

  module _ (event : ℕ) (e : Record) (there : slice_get all event ≡ Some e) where
    act-keeps : (pid : ℕ) (v : View) (o : Option Act) (own : Own) → act_of v.body.cpu e ≡ o → Keeps own → Ends Keeps (act_done pid event e v o own)
    act-keeps pid v None own is h = h
    act-keeps pid v (Some a) own is h = push own.inside _ h (record { there = there; founding = founding-founded pid event (holds_of v.body) v.body.cpu e a is })

    done-keeps : (pid : ℕ) (v : View) (own : Own) → Keeps own → Ends Keeps (record_done pid event e v own)
    done-keeps pid v own h = by_wrong (wrong_with v (stands_at v) e)
      where
        by_wrong : (w : Option Wrong) → Ends Keeps (unless_wrong event w (act_done pid event e v (act_of v.body.cpu e) own))
        by_wrong None = act-keeps pid v (act_of v.body.cpu e) own refl h
        by_wrong (Some wrong) = tt

    seen-keeps : (pid : ℕ) (o : Option View) (own : Own) → Keeps own → Ends Keeps (record_seen pid event e o own)
    seen-keeps pid None own h = h
    seen-keeps pid (Some v) own h = done-keeps pid v own h

    happens-keeps : (pid : ℕ) (own : Own) → Keeps own → Ends Keeps (happens pid event e own)
    happens-keeps pid own h = seen-keeps pid (seen own.bodies pid) own h

    boots-keeps : (own : Own) → Keeps own → Ends Keeps (boots event e own)
    boots-keeps own h = done-keeps 1 (unborn event) (record own { bodies = put 1 (unborn event) own.bodies }) h

    begins-keeps : (g : ℕ) (own : Own) → Keeps own → Ends Keeps (begins_by g event e own)
    begins-keeps g own h = begins-ends Keeps g event e own h (λ start starts child. push own.inside _ h (record { there = there; founding = λ f. absurd (cc) }))

  ends-keeps : (slice : Slice) (owed : ℕ) (e : Record) (own : Own) → slice_get all slice.event ≡ Some e → Keeps own → Ends Keeps (ends_slice slice owed e own)
  ends-keeps slice zero e own there h = no_instruction-ends Keeps slice.event e (Makes own) h
  ends-keeps slice (suc left) e own there h =
      and_then-ends Keeps Keeps (plains slice 0 left own) (happens slice.pid slice.event e) (plains-keep slice 0 left own h) (λ o k. happens-keeps slice.event e there slice.pid o k)

  last-keeps : (g pid : ℕ) (e : Record) (t : Standing) → slice_get all t.events ≡ Some e → Ends Keeps t.made → Ends Keeps (alone.after_last g pid e t).made
  last-keeps g pid e t there h =
      made_if-ends Keeps Keeps t.is_ended (alone.made_if (t.is_ended && is_number g (t.groups pid)) t.made (ends_slice (slice_of t) t.owed e)) (begins_by g t.events e)
      (made_if-ends Keeps Keeps (t.is_ended && is_number g (t.groups pid)) t.made (ends_slice (slice_of t) t.owed e) h (λ own k. k) (λ own k. ends-keeps (slice_of t) t.owed e own there k))
      (λ own k. k) (λ own k. begins-keeps t.events e there g own k)

  -- the events that are left stand behind those so far
  abbrev Stands : Standing → List Record → Type 0
  Stands t rest = (k : ℕ) → slice_get all (t.events + k) ≡ slice_get (events rest) k

  at-hand : (n : ℕ) (e : Record) (rest : List Record) → ((k : ℕ) → slice_get all (n + k) ≡ slice_get (e ∷ rest) k) → slice_get all n ≡ Some e
  at-hand n e rest h = ap (slice_get all) (sum-zero n) ∙ h 0
    where
      sum-zero : (m : ℕ) → m ≡ m + 0
      sum-zero m = omega arith

  one-more : (n : ℕ) (e : Record) (rest : List Record) → ((k : ℕ) → slice_get all (n + k) ≡ slice_get (e ∷ rest) k) → (k : ℕ) → slice_get all ((n + 1) + k) ≡ slice_get rest k
  one-more n e rest h k = ap (slice_get all) (later n k) ∙ h (suc k)
    where
      later : (m i : ℕ) → (m + 1) + i ≡ m + suc i
      later m i = omega arith

  next-stands : (g until : ℕ) (e : Record) (rest : List Record) (t : Standing) → Stands t (e ∷ rest) → Stands (after_record g until t e) rest
  next-stands g until (entry.Slice pid ran) rest t s = s
  next-stands g until (entry.File name bytes) rest t s = one-more t.events (entry.File name bytes) (events rest) s
  next-stands g until (entry.Boot name give) rest t s = one-more t.events (entry.Boot name give) (events rest) s
  next-stands g until (entry.Typed bytes) rest t s = one-more t.events (entry.Typed bytes) (events rest) s
  next-stands g until (entry.Unplug device) rest t s = one-more t.events (entry.Unplug device) (events rest) s
  next-stands g until (entry.Signal pid signal cut handler) rest t s = one-more t.events (entry.Signal pid signal cut handler) (events rest) s
  next-stands g until (entry.Call pid n result more) rest t s = one-more t.events (entry.Call pid n result more) (events rest) s
  next-stands g until (entry.End pid status) rest t s = one-more t.events (entry.End pid status) (events rest) s

  next-keeps : (g until : ℕ) (e : Record) (rest : List Record) (t : Standing) → Stands t (e ∷ rest) → Ends Keeps t.made → Ends Keeps (after_record g until t e).made
  next-keeps g until (entry.Slice pid ran) rest t s h = settled-keeps t h
  next-keeps g until (entry.File name bytes) rest t s h = h
  next-keeps g until (entry.Boot name give) rest t s h =
      made_if-ends Keeps Keeps (t.is_ended && (g == 1)) t.made (boots t.events (entry.Boot name give)) h (λ own k. k)
      (λ own k. boots-keeps t.events (entry.Boot name give) (at-hand t.events (entry.Boot name give) (events rest) s) own k)
  next-keeps g until (entry.Typed bytes) rest t s h = h
  next-keeps g until (entry.Unplug device) rest t s h = h
  next-keeps g until (entry.Signal pid signal cut handler) rest t s h =
      made_if-ends Keeps Keeps (t.is_begun && is_number g (t.groups pid)) t.made (happens pid t.events (entry.Signal pid signal cut handler)) h (λ own k. k)
      (λ own k. happens-keeps t.events (entry.Signal pid signal cut handler) (at-hand t.events (entry.Signal pid signal cut handler) (events rest) s) pid own k)
  next-keeps g until (entry.Call pid n result more) rest t s h = last-keeps g pid (entry.Call pid n result more) t (at-hand t.events (entry.Call pid n result more) (events rest) s) h
  next-keeps g until (entry.End pid status) rest t s h = last-keeps g pid (entry.End pid status) t (at-hand t.events (entry.End pid status) (events rest) s) h

  all-keep : (g until : ℕ) (rest : List Record) (t : Standing) → Stands t rest → Ends Keeps t.made → Ends Keeps (settled (replayed g until t rest))
  all-keep g until [] t s h = settled-keeps t h
  all-keep g until (e ∷ rest) t s h = all-keep g until rest (after_record g until t e) (next-stands g until e rest t s) (next-keeps g until e rest t s h)

  -- what was heard of them
  abbrev AreHeard : Hearings → Type 0
  AreHeard heard = (event : ℕ) → IfSome (heard event) (IsHeard (slice_get all event))

  by-number : (t : Transfer) (event : Event) (n : ℕ) (o : Option Hearing) → IsOf t event → IfSome o (IsHeard (slice_get all n)) → (b : Bool) → (n == event.number) ≡ b
      → IfSome (if b then Some (record { len = event_len event.entry; founds = founds t }) else o) (IsHeard (slice_get all n))
  by-number t event n o is h true e =
      subst (λ (r : Option Record). IsHeard r (record { len = event_len event.entry; founds = founds t })) (sym (ap (slice_get all) (eqb-true n event.number e) ∙ is.there)) (record { len = refl; founds = is.founding })
  by-number t event n o is h false e = h

  step-heard : (i : Inside) (heard : Hearings) → AreHeard heard → IfSome i.event (IsOf i.transfer) → AreHeard (heard_after i heard)
  step-heard i heard h1 h2 = grind (arith, nat_tests, by-number)

  heard-of : (list : List Inside) (heard : Hearings) → AreOf list → AreHeard heard → AreHeard (heard_from list heard)
  heard-of [] heard of h = h
  heard-of (i ∷ list) heard of h = heard-of list (heard_after i heard) of.1 (step-heard i heard h of.0)

pub hears-events : HearsEvents
hears-events entries g until own is event =
    let keeps = all-keep (events entries) g until entries at_first (λ k. ap (slice_get (events entries)) (zero-add k)) tt in
    heard-of (events entries) own.inside none_heard (subst (Ends (λ (o : Own). AreOf (events entries) o.inside)) is keeps) (λ n. tt) event
