-- What happens inside a group alone are events of the group, record by record.
use Rattle.std.proofs.Common.{◌≡◌, ℕ, zero, suc, ◌+◌, ◌==◌, ◌&&◌, ◌++◌, Bool, true, false, if◌then◌else◌, List, [], ◌∷◌, Option, Some, None, IfSome, refl, ap, sym, subst, ◌∙◌, arith, append_assoc}
use Rattle.std.proofs.lemmas.Bool.Decides.{nat_tests}
use Rattle.std.proofs.lemmas.Bool.{and_parts, eqb-true}
use Rattle.std.proofs.lemmas.Option.{none-some, same_Some}
use Rattle.arn_base.specs.declared.records.Extra.{Extra}
use Rattle.arn_base.specs.declared.records.Record.{Record}
use Rattle.arn_base.specs.declared.records.Record.TheVariants as entry
use Rattle.arn_base.specs.declared.records.Start.{Start}
use Rattle.rv64_model.specs.Instruction.{Effect, Next}
use Rattle.parts_model.specs.declared.calls.TheConstants.{FORK}
use Rattle.parts_model.specs.Replies.{is_success}
use Rattle.acts_model.specs.Acts.{Act, unborn}
use Rattle.acts_model.specs.Bodies.{View, put, seen}
use Rattle.acts_model.specs.Disagreement.{Wrong, wrong_with}
use Rattle.acts_model.specs.Records.{child_called, child_founded, child_forked, child_number, child_start, is_event, is_founder, process_of, start_held}
use Rattle.acts_model.specs.Told.{act_of}
use Rattle.acts_model.specs.Transfers.{holds_of, transfer, instr_transfer}
use Rattle.acts_model.specs.Views.{stands_at}
use Rattle.history_model.specs.Alone as model
use Rattle.history_model.specs.Alone.{Own, Made, Makes, Fails, Slice, Standing, act_done, after_boot, after_last, after_record, after_signal, after_slice, and_then, at_first, begins_by, begins_if, boots, ends_slice, happens, made_if, no_instruction, plain_by, plain_in, plain_or, plains, record_done, record_seen, replayed, settled, slice_of, unless_wrong}
use Rattle.history_model.specs.Broken.{broken_from, first_broken, greatest, misnumbers}
use Rattle.history_model.specs.Events.{event_at, how_many}
use Rattle.history_model.specs.Exchanges.{founded}
use Rattle.history_model.specs.Groups.{Groups, groups_told, groups_from, group_of, event_group, is_number}
use Rattle.query_laws.proofs.Found.{AreFounded, Stands, child_if, follows, numbered, nobody}
use Rattle.query_laws.proofs.Decoded.{NextReads, stands-reads}
use Rattle.query_laws.proofs.Heard.{State, act-by, act-runs, quiet-state, event-state, later-state}
use Rattle.query_laws.proofs.Links.{number-is}
use Rattle.query_laws.proofs.Settled.{Unbooted, told-group, unbooted-push, founded-push, settled-group, groups-append, stands-at, how-many-push, how-many-slice, group-at}

-- what a replay makes has this, if it makes something
abbrev pub Ends : (Own → Type 0) → Made → Type 0
Ends P (Makes own) = P own
Ends P (Fails disagrees) = Unit {0}

and_then-ends : (P Q : Own → Type 0) (made : Made) (goes_on : Own → Made) → Ends P made → ((own : Own) → P own → Ends Q (goes_on own)) → Ends Q (and_then made goes_on)
and_then-ends P Q (Makes own) goes_on h k = k own h
and_then-ends P Q (Fails disagrees) goes_on h k = tt

ends-ends : (P Q : Own → Type 0) (made : Made) → Ends P made → ((own : Own) → P own → Q own) → Ends Q made
ends-ends P Q (Makes own) h k = k own h
ends-ends P Q (Fails disagrees) h k = tt

made_if-ends : (P Q : Own → Type 0) (b : Bool) (made : Made) (goes_on : Own → Made) → Ends P made → ((own : Own) → P own → Q own) → (b ≡ true → (own : Own) → P own → Ends Q (goes_on own)) → Ends Q (made_if b made goes_on)
made_if-ends P Q true made goes_on h k l = and_then-ends P Q made goes_on h (l refl)
made_if-ends P Q false made goes_on h k l = ends-ends P Q made h k

module _ (entries : List Record) (g : ℕ) where
  abbrev Made-to : ℕ → Own → Type 0
  Made-to m own = State entries g m own.inside

  later : (m : ℕ) (own : Own) → Made-to m own → Made-to (m + 1) own
  later m own s = later-state entries g m own.inside s

  -- the event is of a process of the group
  record Owns (event : ℕ) (e : Record) : Type 0 where
    there : event_at entries event ≡ Some e
    group : event_group entries event ≡ Some g

  -- instructions
  plain_by-made : (m pid : ℕ) (own : Own) (v : View) (effect : Effect) → NextReads effect → Made-to m own → IfSome (plain_by pid own v effect) (Made-to m)
  plain_by-made m pid own v (Next instr cpu memory) reads s =
      quiet-state entries g m own.inside (record { actor = Some pid; before = v.body.cpu; transfer = instr_transfer pid v.body.cpu (holds_of v.body) instr; event = None }) refl reads s
  plain_by-made m pid own v _ reads s = tt

  plain_in-made : (m pid : ℕ) (own : Own) (o : Option View) → Made-to m own → IfSome (plain_in pid own o) (Made-to m)
  plain_in-made m pid own None s = tt
  plain_in-made m pid own (Some v) s = plain_by-made m pid own v (stands_at v) (stands-reads v) s

  plain_or-ends : (m : ℕ) (slice : Slice) (ran left : ℕ) (o : Option Own) → IfSome o (Made-to m) → ((own : Own) → Made-to m own → Ends (Made-to m) (plains slice (suc ran) left own)) → Ends (Made-to m) (plain_or slice ran o (plains slice (suc ran) left))
  plain_or-ends m slice ran left None k rest = tt
  plain_or-ends m slice ran left (Some own) k rest = rest own k

  plains-ends : (m : ℕ) (slice : Slice) (ran left : ℕ) (own : Own) → Made-to m own → Ends (Made-to m) (plains slice ran left own)
  plains-ends m slice ran zero own s = s
  plains-ends m slice ran (suc left) own s =
      plain_or-ends m slice ran left (plain_in slice.pid own (seen own.bodies slice.pid)) (plain_in-made m slice.pid own (seen own.bodies slice.pid) s) (plains-ends m slice (suc ran) left)

  settled-ends : (m : ℕ) (t : Standing) → Ends (Made-to m) t.made → Ends (Made-to m) (settled t)
  settled-ends m t h = and_then-ends (Made-to m) (Made-to m) t.made (plains (slice_of t) 0 t.owed) h (plains-ends m (slice_of t) 0 t.owed)

  -- an event of a process
  act-ends : (event pid : ℕ) (e : Record) (v : View) (o : Option Act) (own : Own) → Owns event e → Made-to event own → Ends (Made-to (event + 1)) (act_done pid event e v o own)
  act-ends event pid e v None own owns s = later event own s
  act-ends event pid e v (Some a) own owns s =
      event-state entries g event own.inside
      (record { actor = Some pid; before = v.body.cpu; transfer = transfer pid event (holds_of v.body) a; event = Some (record { number = event; entry = e }) })
      (record { number = event; entry = e }) refl refl (act-runs pid event (holds_of v.body) a)
      (record { there = owns.there; by = act-by entries g (record { number = event; entry = e }) pid event (holds_of v.body) a owns.group }) s

  wrong-ends : (event : ℕ) (o : Option Wrong) (made : Made) → Ends (Made-to (event + 1)) made → Ends (Made-to (event + 1)) (unless_wrong event o made)
  wrong-ends event None made h = h
  wrong-ends event (Some wrong) made h = tt

  done-ends : (pid event : ℕ) (e : Record) (v : View) (own : Own) → Owns event e → Made-to event own → Ends (Made-to (event + 1)) (record_done pid event e v own)
  done-ends pid event e v own owns s =
      wrong-ends event (wrong_with v (stands_at v) e) (act_done pid event e v (act_of v.body.cpu e) own) (act-ends event pid e v (act_of v.body.cpu e) own owns s)

  seen-ends : (pid event : ℕ) (e : Record) (o : Option View) (own : Own) → Owns event e → Made-to event own → Ends (Made-to (event + 1)) (record_seen pid event e o own)
  seen-ends pid event e None own owns s = later event own s
  seen-ends pid event e (Some v) own owns s = done-ends pid event e v own owns s

  happens-ends : (pid event : ℕ) (e : Record) (own : Own) → Owns event e → Made-to event own → Ends (Made-to (event + 1)) (happens pid event e own)
  happens-ends pid event e own owns s = seen-ends pid event e (seen own.bodies pid) own owns s

  boots-ends : (event : ℕ) (e : Record) (own : Own) → Owns event e → Made-to event own → Ends (Made-to (event + 1)) (boots event e own)
  boots-ends event e own owns s = done-ends 1 event e (unborn event) (record own { bodies = put 1 (unborn event) own.bodies }) owns s

  no_instruction-ends : (P : Own → Type 0) (event : ℕ) (e : Record) (made : Made) → Ends P made → Ends P (no_instruction event e made)
  no_instruction-ends P event e made h1 = grind (arith, nat_tests)

  slice-ends : (slice : Slice) (owed : ℕ) (e : Record) (own : Own) → Owns slice.event e → Made-to slice.event own → Ends (Made-to (slice.event + 1)) (ends_slice slice owed e own)
  slice-ends slice zero e own owns s = no_instruction-ends (Made-to (slice.event + 1)) slice.event e (Makes own) (later slice.event own s)
  slice-ends slice (suc left) e own owns s =
      and_then-ends (Made-to slice.event) (Made-to (slice.event + 1)) (plains slice 0 left own) (happens slice.pid slice.event e)
      (plains-ends slice.event slice 0 left own s) (λ o k. happens-ends slice.pid slice.event e o owns k)

  -- the group begins, or doesn't
  start-founds : (o : Option Start) (start : Start) (result : ℕ) → o ≡ Some start → child_founded (Some (record { number = result; start = o })) ≡ Some result
  start-founds (Some found) start result h = refl
  start-founds None start result h = absurd (none-some start h)

  call-founds : (pid number result : ℕ) (more : Extra) (start : Start) → child_start (child_called number result more) ≡ Some start → child_founded (child_called number result more) ≡ Some result
  call-founds pid number result more start h = by_test ((number == FORK) && is_success result) h
    where
      by_test : (b : Bool) → child_start (child_if b result more) ≡ Some start → child_founded (child_if b result more) ≡ Some result
      by_test true is = start-founds (start_held more) start result is
      by_test false is = absurd (none-some start is)

  begins_if-ends : (Q : Own → Type 0) (event pid number result : ℕ) (more : Extra) (own : Own) (o : Option Start) → child_start (child_called number result more) ≡ o → Q own
      → ((start : Start) → child_founded (child_called number result more) ≡ Some g → Q (model.begins g event (entry.Call pid number result more) start own))
      → Ends Q (begins_if g result event (entry.Call pid number result more) o own)
  begins_if-ends Q event pid number result more own o h1 h2 h3 = grind (arith, nat_tests, call-founds, eqb-true)

  begins-ends : (Q : Own → Type 0) (event : ℕ) (e : Record) (own : Own) → Q own → ((start : Start) → founded e ≡ Some g → Q (model.begins g event e start own)) → Ends Q (begins_by g event e own)
  begins-ends Q event e own h1 h2 = grind (arith, nat_tests, begins_if-ends)

  -- the last of a slice
  record Lasts (event pid : ℕ) (e : Record) (groups : Groups) : Type 0 where
    there : event_at entries event ≡ Some e
    owns : is_number g (groups pid) ≡ true → Owns event e
    apart : is_number g (groups pid) ≡ true → founded e ≡ Some g → ⊥

  last-ends : (pid : ℕ) (e : Record) (t : Standing) → Lasts t.events pid e t.groups → Ends (Made-to t.events) t.made
      → Ends (Made-to (t.events + 1)) (made_if t.is_ended (made_if (t.is_ended && is_number g (t.groups pid)) t.made (ends_slice (slice_of t) t.owed e)) (begins_by g t.events e))
  last-ends pid e t l h = by-tests t.is_ended (is_number g (t.groups pid)) refl
    where
      keeps : (own : Own) → Made-to t.events own → Made-to (t.events + 1) own
      keeps own s = later t.events own s

      by-tests : (ended is : Bool) → is_number g (t.groups pid) ≡ is → Ends (Made-to (t.events + 1)) (made_if ended (made_if (ended && is) t.made (ends_slice (slice_of t) t.owed e)) (begins_by g t.events e))
      by-tests false is own = ends-ends (Made-to t.events) (Made-to (t.events + 1)) t.made h keeps
      by-tests true true own =
          and_then-ends (Made-to (t.events + 1)) (Made-to (t.events + 1)) (and_then t.made (ends_slice (slice_of t) t.owed e)) (begins_by g t.events e)
          (and_then-ends (Made-to t.events) (Made-to (t.events + 1)) t.made (ends_slice (slice_of t) t.owed e) h (λ o s. slice-ends (slice_of t) t.owed e o (l.owns own) s))
          (λ o s. begins-ends (Made-to (t.events + 1)) t.events e o s (λ start founds. absurd (l.apart own founds)))
      by-tests true false own =
          and_then-ends (Made-to t.events) (Made-to (t.events + 1)) t.made (begins_by g t.events e) h
          (λ o s. begins-ends (Made-to (t.events + 1)) t.events e o (keeps o s) (λ start founds.
          event-state entries g t.events o.inside (model.begin_inside g t.events e start) (record { number = t.events; entry = e }) refl refl tt (record { there = l.there; by = (founds, refl, refl) }) s))

  -- a standing behind records
  record Reached (before : List Record) (t : Standing) : Type 0 where
    events : t.events ≡ how_many before
    groups : t.groups ≡ groups_from before (λ p. None)
    founded : AreFounded t.groups (greatest before)
    unbooted : Unbooted before
    made : Ends (Made-to t.events) t.made

  module _ (before rest : List Record) (e : Record) (all : entries ≡ before ++ e ∷ rest) (stands : Stands before e) (follow : broken_from (before ++ e ∷ []) rest ≡ None) (t : Standing) (r : Reached before t) where
    there : is_event e ≡ true → event_at entries t.events ≡ Some e
    there is = ap (λ (es : List Record). event_at es t.events) all ∙ (ap (event_at (before ++ e ∷ rest)) r.events ∙ stands-at before rest e is)

    -- the group that a process has behind the record is the one that it has in the history
    later-group : (pid m : ℕ) → groups_told e t.groups pid ≡ Some m → group_of entries pid ≡ Some m
    later-group pid m is =
        ap (λ (es : List Record). groups_from es (λ p. None) pid) all
        ∙ (ap (λ (f : Groups). f pid) (groups-append before (e ∷ rest) (λ p. None))
        ∙ (ap (λ (f : Groups). groups_from rest (groups_told e f) pid) (sym r.groups)
        ∙ settled-group (before ++ e ∷ []) rest (groups_told e t.groups) pid m follow (unbooted-push before e stands r.unbooted) (founded-push before e t.groups stands r.founded) is))

    owned : (pid : ℕ) → is_event e ≡ true → process_of e ≡ Some pid → groups_told e t.groups pid ≡ Some g → Owns t.events e
    owned pid is process group = record { there = there is; group = group-at entries t.events pid g e (there is) process (later-group pid g group) }

    reached-by : (u : Standing) → u.events ≡ how_many (before ++ e ∷ []) → u.groups ≡ groups_told e t.groups → Ends (Made-to u.events) u.made → Reached (before ++ e ∷ []) u
    reached-by u events groups made = record {
      events = events;
      groups = groups ∙ (ap (groups_told e) r.groups ∙ sym (groups-append before (e ∷ []) (λ p. None)));
      founded = subst (λ (f : Groups). AreFounded f (greatest (before ++ e ∷ []))) (sym groups) (founded-push before e t.groups stands r.founded);
      unbooted = unbooted-push before e stands r.unbooted;
      made = made;
    }

    one-more : is_event e ≡ true → t.events + 1 ≡ how_many (before ++ e ∷ [])
    one-more is = ap (λ (n : ℕ). n + 1) r.events ∙ sym (how-many-push before e is)

    -- the event is of no process of the group
    passes : is_event e ≡ true → groups_told e t.groups ≡ t.groups → Reached (before ++ e ∷ []) (record t { events = t.events + 1 })
    passes is same = reached-by (record t { events = t.events + 1 }) (one-more is) (sym same) (ends-ends (Made-to t.events) (Made-to (t.events + 1)) t.made r.made (later t.events))

  child-apart : (before : List Record) (pid number result : ℕ) (more : Extra) (groups : Groups) → Stands before (entry.Call pid number result more) → AreFounded groups (greatest before)
      → is_number g (groups pid) ≡ true → child_founded (child_called number result more) ≡ Some g → ⊥
  child-apart before pid number result more groups s f is founds = by-test ((number == FORK) && is_success result) (is_founder (child_forked result more)) s.child refl founds
    where
      by-test : (b c : Bool) → misnumbers before (child_number (child_if b result more)) ≡ false → is_founder (child_forked result more) ≡ c → child_founded (child_if b result more) ≡ Some g → ⊥
      by-test true true child starts made =
          let high = (f pid g (number-is g (groups pid) is)).high in
          let new = numbered before result child in
          let e = same_Some result g (sym (ap (λ (t : Bool). if t then Some result else None) starts) ∙ made) in
          omega (arith, high, new, e)
      by-test true false child starts made = none-some g (sym (ap (λ (t : Bool). if t then Some result else None) starts) ∙ made)
      by-test false c child starts made = none-some g made

  record-reached : (until : ℕ) (before rest : List Record) (e : Record) → entries ≡ before ++ e ∷ rest → Stands before e → broken_from (before ++ e ∷ []) rest ≡ None → (t : Standing) → Reached before t → Reached (before ++ e ∷ []) (after_record g until t e)
  record-reached until before rest (entry.Slice pid ran) all stands follow t r =
      reached-by before rest (entry.Slice pid ran) all stands follow t r (after_slice g until pid ran t) (r.events ∙ sym (how-many-slice before pid ran)) refl (settled-ends t.events t r.made)
  record-reached until before rest (entry.Boot name give) all stands follow t r =
      let e : Record = entry.Boot name give in
      reached-by before rest e all stands follow t r (after_boot g e t) (one-more before rest e all stands follow t r refl) refl
      (made_if-ends (Made-to t.events) (Made-to (t.events + 1)) (t.is_ended && (g == 1)) t.made (boots t.events e) r.made (later t.events)
      (λ b own s. boots-ends t.events e own (owned before rest e all stands follow t r 1 refl refl (ap (λ (n : ℕ). Some n) (sym (eqb-true g 1 (and_parts t.is_ended (g == 1) b).1)))) s))
  record-reached until before rest (entry.Signal pid signal cut handler) all stands follow t r =
      let e : Record = entry.Signal pid signal cut handler in
      reached-by before rest e all stands follow t r (after_signal g pid e t) (one-more before rest e all stands follow t r refl) refl
      (made_if-ends (Made-to t.events) (Made-to (t.events + 1)) (t.is_begun && is_number g (t.groups pid)) t.made (happens pid t.events e) r.made (later t.events)
      (λ b own s. happens-ends pid t.events e own (owned before rest e all stands follow t r pid refl refl (number-is g (t.groups pid) (and_parts t.is_begun (is_number g (t.groups pid)) b).1)) s))
  record-reached until before rest (entry.Call pid number result more) all stands follow t r =
      let e : Record = entry.Call pid number result more in
      reached-by before rest e all stands follow t r (after_last g pid e t) (one-more before rest e all stands follow t r refl) refl
      (last-ends pid e t (record {
        there = there before rest e all stands follow t r refl;
        owns = λ is. owned before rest e all stands follow t r pid refl refl (told-group before e t.groups pid g stands r.unbooted r.founded (number-is g (t.groups pid) is));
        apart = λ is. child-apart before pid number result more t.groups stands r.founded is;
      }) r.made)
  record-reached until before rest (entry.End pid status) all stands follow t r =
      let e : Record = entry.End pid status in
      reached-by before rest e all stands follow t r (after_last g pid e t) (one-more before rest e all stands follow t r refl) refl
      (last-ends pid e t (record {
        there = there before rest e all stands follow t r refl;
        owns = λ is. owned before rest e all stands follow t r pid refl refl (number-is g (t.groups pid) is);
        apart = λ is founds. none-some g founds;
      }) r.made)
  record-reached until before rest x all stands follow t r = passes before rest x all stands follow t r refl refl

  all-reached : (until : ℕ) (before rest : List Record) (t : Standing) → entries ≡ before ++ rest → broken_from before rest ≡ None → Reached before t → Ends (λ own. (m : ℕ) × Made-to m own) (settled (replayed g until t rest))
  all-reached until before [] t all h r = ends-ends (Made-to t.events) (λ own. (m : ℕ) × Made-to m own) (settled t) (settled-ends t.events t r.made) (λ own s. (t.events, s))
  all-reached until before (e ∷ rest) t all h r =
      let next = follows before e rest h in
      all-reached until (before ++ e ∷ []) rest (after_record g until t e) (all ∙ sym (append_assoc before (e ∷ []) rest)) next.1 (record-reached until before rest e all next.0 next.1 t r)

  first-reached : Reached [] at_first
  first-reached = record { events = refl; groups = refl; founded = nobody 0; unbooted = λ none. (refl, refl); made = record { heard = tt; runs = tt; below = omega arith } }

  pub alone-heard : (moment : ℕ) → first_broken entries ≡ None → Ends (λ own. (m : ℕ) × State entries g m own.inside) (model.alone entries g moment)
  alone-heard moment stands = all-reached moment [] entries at_first refl stands first-reached
