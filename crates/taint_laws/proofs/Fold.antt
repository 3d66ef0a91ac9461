-- A group alone, record by record, as long as the records aren't broken.
use Rattle.std.proofs.Common.{◌≡◌, ℕ, zero, suc, ◌+◌, ◌≤◌, ◌==◌, ◌&&◌, not, if◌then◌else◌, max, length, All, Bool, true, false, List, [], ◌∷◌, ◌++◌, Option, Some, None, IfSome, refl, sym, ap, subst, ◌∙◌, arith}
use Rattle.std.proofs.lemmas.Bool.Decides.{nat_tests}
use Rattle.std.proofs.lemmas.Bool.{eqb-true, and_parts}
use Rattle.std.specs.Option.{option_map_or}
use Rattle.arn_base.specs.declared.machine.Cpu.{Cpu}
use Rattle.arn_base.specs.declared.records.Extra.{Extra}
use Rattle.arn_base.specs.declared.records.Give.{Give}
use Rattle.arn_base.specs.declared.records.Record.{Record}
use Rattle.arn_base.specs.declared.records.Record.TheVariants as entry
use Rattle.parts_model.specs.declared.calls.TheConstants.{FORK}
use Rattle.parts_model.specs.Replies.{is_success}
use Rattle.acts_model.specs.Acts.{Act, unborn}
use Rattle.acts_model.specs.Bodies.{View, put, seen}
use Rattle.acts_model.specs.Disagreement.{Wrong, wrong_with}
use Rattle.acts_model.specs.Records.{child_forked, child_number, is_founder, process_of}
use Rattle.acts_model.specs.Told.{act_of}
use Rattle.acts_model.specs.Views.{stands_at}
use Rattle.history_model.specs.Alone as alone
use Rattle.history_model.specs.Alone.{Own, Made, Makes, Fails, Slice, Standing, act_done, after_boot, after_last, after_record, after_signal, after_slice, and_then, at_first, begins_by, boots, ends_slice, happens, made_if, no_instruction, plain_in, plain_or, plains, record_seen, replayed, settled, slice_of, unless_wrong}
use Rattle.history_model.specs.Broken.{Behind, Nowhere, ASlice, ADelivery, behind, behind_from, behind_record, behind_signal, broken_from, cant_follow, greatest, greatest_after, greatest_from, is_behind}
use Rattle.history_model.specs.Groups.{Groups, child_group, group_made, groups_told, is_number}
use Rattle.history_model.specs.Moments.{changed}
use Rattle.taint_state.specs.Steps.{Holders}
use Rattle.taint_laws.specs.Follows.{with_booted}
use Rattle.window_laws.specs.Blocks.{HasWholeBlocks}
use Rattle.taint_laws.specs.Laws.{Followed}
use Rattle.taint_laws.proofs.Records.{Ends, begins-ends, can-follow, child-after, child-number, more-after, record-child, start-room, un-not}
use Rattle.taint_laws.proofs.Records as records
use Rattle.taint_laws.proofs.States.{IsChild, State, act-state, begins-state, boot-state, first-state, plain_in-state, state-followed, state-later}
use Rattle.taint_laws.proofs.Whole.{ActsWell, record-well}
use Rattle.window_laws.specs.Lengths.{KeepsLengths}

-- what goes on

pub and_then-ends : (P Q : Own → Type 0) (made : Made) (goes_on : Own → Made) → Ends P made → ((own : Own) → P own → Ends Q (goes_on own)) → Ends Q (and_then made goes_on)
and_then-ends P Q (Makes own) goes_on h k = k own h
and_then-ends P Q (Fails disagrees) goes_on h k = tt

pub ends-ends : (P Q : Own → Type 0) (made : Made) → Ends P made → ((own : Own) → P own → Q own) → Ends Q made
ends-ends P Q (Makes own) h k = k own h
ends-ends P Q (Fails disagrees) h k = tt

pub made_if-ends : (P Q : Own → Type 0) (b : Bool) (made : Made) (goes_on : Own → Made) → Ends P made → ((own : Own) → P own → Q own) → ((own : Own) → P own → Ends Q (goes_on own)) → Ends Q (made_if b made goes_on)
made_if-ends P Q true made goes_on h k l = and_then-ends P Q made goes_on h l
made_if-ends P Q false made goes_on h k l = ends-ends P Q made h k

-- instructions

plains-ends : KeepsLengths → (n most : ℕ) (slice : Slice) (ran left : ℕ) (own : Own) → State n most own → Ends (State n most) (plains slice ran left own)
plains-ends keeps n most slice ran zero own s = s
plains-ends keeps n most slice ran (suc left) own s = by_plain (plain_in slice.pid own (seen own.bodies slice.pid)) (plain_in-state keeps n most slice.pid own s) (plains-ends keeps n most slice (suc ran) left)
  where
    by_plain : (o : Option Own) → IfSome o (State n most) → ((own : Own) → State n most own → Ends (State n most) (plains slice (suc ran) left own)) → Ends (State n most) (plain_or slice ran o (plains slice (suc ran) left))
    by_plain None k ih = tt
    by_plain (Some next) k ih = ih next k

settled-ends : KeepsLengths → (n most : ℕ) (t : Standing) → Ends (State n most) t.made → Ends (State n most) (settled t)
settled-ends keeps n most t h = and_then-ends (State n most) (State n most) t.made (plains (slice_of t) 0 t.owed) h (plains-ends keeps n most (slice_of t) 0 t.owed)

-- an event of a process

happens-ends : KeepsLengths → (event most most' pid : ℕ) (e : Record) (own : Own) → most ≤ most' → process_of e ≡ Some pid → ((h : Holders) → with_booted event e h ≡ h)
    → ((cpu : Cpu) → IfSome (act_of cpu e) (IsChild most most')) → State event most own → Ends (State (event + 1) most') (happens pid event e own)
happens-ends keeps event most most' pid e own more process plain child s = by_view (seen own.bodies pid) refl
  where
    later : State (event + 1) most' own
    later = state-later event (event + 1) most most' own (omega arith) more s

    by_act : (v : View) → seen own.bodies pid ≡ Some v → (o : Option Act) → act_of v.body.cpu e ≡ o → IfSome o (ActsWell v) → IfSome o (IsChild most most') → Ends (State (event + 1) most') (act_done pid event e v o own)
    by_act v sees None tells well c = later
    by_act v sees (Some a) tells well c = act-state keeps event most most' pid e own v a more s sees process plain tells well c

    by_wrong : (v : View) → seen own.bodies pid ≡ Some v → (w : Option Wrong) → wrong_with v (stands_at v) e ≡ w → Ends (State (event + 1) most') (unless_wrong event w (act_done pid event e v (act_of v.body.cpu e) own))
    by_wrong v sees None w = by_act v sees (act_of v.body.cpu e) refl (record-well v (stands_at v) e w) (child v.body.cpu)
    by_wrong v sees (Some wrong) w = tt

    by_view : (o : Option View) → seen own.bodies pid ≡ o → Ends (State (event + 1) most') (record_seen pid event e o own)
    by_view None sees = later
    by_view (Some v) sees = by_wrong v sees (wrong_with v (stands_at v) e) refl

pub no_instruction-ends : (P : Own → Type 0) (event : ℕ) (e : Record) (made : Made) → Ends P made → Ends P (no_instruction event e made)
no_instruction-ends P event e made h1 = grind (arith, nat_tests)

slice-ends : KeepsLengths → (most most' : ℕ) (slice : Slice) (owed : ℕ) (e : Record) (own : Own) → most ≤ most' → process_of e ≡ Some slice.pid → ((h : Holders) → with_booted slice.event e h ≡ h)
    → ((cpu : Cpu) → IfSome (act_of cpu e) (IsChild most most')) → State slice.event most own → Ends (State (slice.event + 1) most') (ends_slice slice owed e own)
slice-ends keeps most most' slice zero e own more process plain child s =
    no_instruction-ends (State (slice.event + 1) most') slice.event e (Makes own) (state-later slice.event (slice.event + 1) most most' own (omega arith) more s)
slice-ends keeps most most' slice (suc left) e own more process plain child s =
    and_then-ends (State slice.event most) (State (slice.event + 1) most') (plains slice 0 left own) (happens slice.pid slice.event e)
    (plains-ends keeps slice.event most slice 0 left own s) (λ o k. happens-ends keeps slice.event most most' slice.pid e o more process plain child k)

-- the boot

boots-ends : KeepsLengths → (event most most' : ℕ) (name : List ℕ) (give : Give) (own : Own) → most ≤ most' → 1 ≤ most' → State event most own → Ends (State (event + 1) most') (boots event (entry.Boot name give) own)
boots-ends keeps event most most' name give own more one s = by_wrong (wrong_with (unborn event) (stands_at (unborn event)) (entry.Boot name give))
  where
    by_wrong : (w : Option Wrong) → Ends (State (event + 1) most') (unless_wrong event w (act_done 1 event (entry.Boot name give) (unborn event) (act_of (unborn event).body.cpu (entry.Boot name give)) (record own { bodies = put 1 (unborn event) own.bodies })))
    by_wrong None = boot-state keeps event most most' name give own more one s
    by_wrong (Some wrong) = tt

-- groups have numbers of processes

abbrev AreFounded : ℕ → Groups → Type 0
AreFounded most groups = (p : ℕ) → IfSome (groups p) (λ m. m ≤ most)

founded-later : (n m : ℕ) (groups : Groups) → n ≤ m → AreFounded n groups → AreFounded m groups
founded-later n m groups h1 h2 = grind (arith, nat_tests)

changed-founded : (n : ℕ) (groups : Groups) (child : ℕ) (o : Option ℕ) → IfSome o (λ m. m ≤ n) → AreFounded n groups → AreFounded n (changed groups child o)
changed-founded n groups child o h1 h2 = grind (arith, nat_tests)

forked-founded : (n pid child : ℕ) (more : Extra) (groups : Groups) → child ≤ n → AreFounded n groups → AreFounded n (group_made pid (Some (child_forked child more)) groups)
forked-founded n pid child more groups le h = changed-founded n groups child (child_group (child_forked child more) (groups pid)) (by_test (is_founder (child_forked child more))) h
  where
    by_test : (b : Bool) → IfSome (if b then Some child else groups pid) (λ m. m ≤ n)
    by_test true = le
    by_test false = h pid

called-founded : (n pid number result : ℕ) (more : Extra) (groups : Groups) → AreFounded n groups → AreFounded (greatest_after (entry.Call pid number result more) n) (groups_told (entry.Call pid number result more) groups)
called-founded n pid number result more groups h = by_test ((number == FORK) && is_success result)
  where
    by_test : (b : Bool) → AreFounded (option_map_or (max n) (child_number (if b then Some (child_forked result more) else None)) n) (group_made pid (if b then Some (child_forked result more) else None) groups)
    by_test true = forked-founded (max n result) pid result more groups (omega arith) (founded-later n (max n result) groups (omega arith) h)
    by_test false = h

-- a standing behind records: where the open slice is, and the greatest number of a process
record Reached (b : Behind) (most : ℕ) (t : Standing) : Type 0 where
  made : Ends (State t.events most) t.made
  slice : (pid : ℕ) → is_behind pid b ≡ true → t.pid ≡ pid
  groups : AreFounded most t.groups

-- no process has this slice
nowhere : (t : Standing) (pid : ℕ) → is_behind pid Nowhere ≡ true → t.pid ≡ pid
nowhere t pid e = absurd (cc)

delivered-behind : (p pid handler : ℕ) (b : Behind) → ((q : ℕ) → is_behind q b ≡ true → p ≡ q) → (q : ℕ) → is_behind q (behind_signal pid handler b) ≡ true → p ≡ q
delivered-behind p pid handler (ASlice at) h q e = by_test ((at == pid) && not (handler == 0)) refl e
  where
    by_test : (t : Bool) → ((at == pid) && not (handler == 0)) ≡ t → is_behind q (if t then ADelivery pid else Nowhere) ≡ true → p ≡ q
    by_test true k l = h pid (and_parts (at == pid) (not (handler == 0)) k).0 ∙ eqb-true pid q l
    by_test false k l = absurd (cc)
delivered-behind p pid handler Nowhere h q e = absurd (cc)
delivered-behind p pid handler (ADelivery at) h q e = absurd (cc)

later-reached : (b : Behind) (most : ℕ) (t : Standing) → Reached b most t → Reached Nowhere most (record t { events = t.events + 1 })
later-reached b most t r =
    record {
      made = ends-ends (State t.events most) (State (t.events + 1) most) t.made r.made (λ own s. state-later t.events (t.events + 1) most most own (omega arith) (omega arith) s);
      slice = nowhere (record t { events = t.events + 1 });
      groups = r.groups;
    }

slice-reached : KeepsLengths → (g until pid ran : ℕ) (b : Behind) (most : ℕ) (t : Standing) → Reached b most t → Reached (ASlice pid) most (after_slice g until pid ran t)
slice-reached keeps g until pid ran b most t r = record { made = settled-ends keeps t.events most t r.made; slice = λ q e. eqb-true pid q e; groups = r.groups }

signal-reached : KeepsLengths → (g pid signal : ℕ) (cut : Bool) (handler : ℕ) (b : Behind) (before : List Record) (t : Standing) → records.Stands before (entry.Signal pid signal cut handler)
    → Reached b (greatest before) t → Reached (behind_signal pid handler b) (greatest before) (after_signal g pid (entry.Signal pid signal cut handler) t)
signal-reached keeps g pid signal cut handler b before t checks r =
    let most = greatest before in
    let e : Record = entry.Signal pid signal cut handler in
    record {
      made = made_if-ends (State t.events most) (State (t.events + 1) most) (t.is_begun && is_number g (t.groups pid)) t.made (happens pid t.events e) r.made
          (λ own s. state-later t.events (t.events + 1) most most own (omega arith) (omega arith) s)
          (λ own s. happens-ends keeps t.events most most pid e own (omega arith) refl (λ h. refl) (record-child before e checks.numbers) s);
      slice = delivered-behind t.pid pid handler b r.slice;
      groups = r.groups;
    }

-- the last of a slice
record Lasts (before : List Record) (e : Record) (t : Standing) : Type 0 where
  checks : records.Stands before e
  whole : HasWholeBlocks e
  process : process_of e ≡ Some t.pid
  plain : (h : Holders) → with_booted t.events e h ≡ h
  made : Ends (State t.events (greatest before)) t.made
  groups : AreFounded (greatest before) t.groups

last-made : KeepsLengths → (g pid : ℕ) (before : List Record) (e : Record) (t : Standing) → Lasts before e t
    → Ends (State (t.events + 1) (greatest_after e (greatest before))) (made_if t.is_ended (made_if (t.is_ended && is_number g (t.groups pid)) t.made (ends_slice (slice_of t) t.owed e)) (begins_by g t.events e))
last-made keeps g pid before e t l = by_tests t.is_ended (t.groups pid) (l.groups pid)
  where
    later : (own : Own) → State t.events (greatest before) own → State (t.events + 1) (greatest_after e (greatest before)) own
    later own s = state-later t.events (t.events + 1) (greatest before) (greatest_after e (greatest before)) own (omega arith) (more-after e (greatest before)) s

    -- another group's process: the group may begin
    other : Ends (State (t.events + 1) (greatest_after e (greatest before))) (made_if true t.made (begins_by g t.events e))
    other = and_then-ends (State t.events (greatest before)) (State (t.events + 1) (greatest_after e (greatest before))) t.made (begins_by g t.events e) l.made
        (λ own s. begins-ends (State (t.events + 1) (greatest_after e (greatest before))) g t.events e own (later own s)
        (λ start starts child. begins-state t.events (greatest before) (greatest_after e (greatest before)) g e start own (more-after e (greatest before)) (child-after e (greatest before) g child) (start-room e start l.checks.blocks l.whole starts) s))

    -- a process of the group: the group began before
    own : g ≤ greatest before → Ends (State (t.events + 1) (greatest_after e (greatest before))) (made_if true (made_if true t.made (ends_slice (slice_of t) t.owed e)) (begins_by g t.events e))
    own le = and_then-ends (State (t.events + 1) (greatest_after e (greatest before))) (State (t.events + 1) (greatest_after e (greatest before))) (and_then t.made (ends_slice (slice_of t) t.owed e)) (begins_by g t.events e)
        (and_then-ends (State t.events (greatest before)) (State (t.events + 1) (greatest_after e (greatest before))) t.made (ends_slice (slice_of t) t.owed e) l.made
        (λ o s. slice-ends keeps (greatest before) (greatest_after e (greatest before)) (slice_of t) t.owed e o (more-after e (greatest before)) l.process l.plain (record-child before e l.checks.numbers) s))
        (λ o s. begins-ends (State (t.events + 1) (greatest_after e (greatest before))) g t.events e o s
        (λ start starts child. absurd (let new = child-number before e g l.checks.numbers child in omega arith)))

    by_number : (m : ℕ) (b : Bool) → (m == g) ≡ b → m ≤ greatest before
        → Ends (State (t.events + 1) (greatest_after e (greatest before))) (made_if true (made_if b t.made (ends_slice (slice_of t) t.owed e)) (begins_by g t.events e))
    by_number m true k le = own (let same = eqb-true m g k in omega arith)
    by_number m false k le = other

    by_tests : (ended : Bool) (o : Option ℕ) → IfSome o (λ m. m ≤ greatest before)
        → Ends (State (t.events + 1) (greatest_after e (greatest before))) (made_if ended (made_if (ended && is_number g o) t.made (ends_slice (slice_of t) t.owed e)) (begins_by g t.events e))
    by_tests false o f = ends-ends (State t.events (greatest before)) (State (t.events + 1) (greatest_after e (greatest before))) t.made l.made later
    by_tests true None f = other
    by_tests true (Some m) f = by_number m (m == g) refl f

-- its process is that of the open slice
of-slice : (pid : ℕ) (b : Behind) (p : ℕ) → not (is_behind pid b) ≡ false → ((q : ℕ) → is_behind q b ≡ true → p ≡ q) → pid ≡ p
of-slice pid b p e h = sym (h pid (un-not (is_behind pid b) e))

call-reached : KeepsLengths → (g pid number result : ℕ) (more : Extra) (before : List Record) (t : Standing) → records.Stands before (entry.Call pid number result more) → HasWholeBlocks (entry.Call pid number result more)
    → Reached (behind before) (greatest before) t → Reached Nowhere (greatest_after (entry.Call pid number result more) (greatest before)) (after_last g pid (entry.Call pid number result more) t)
call-reached keeps g pid number result more before t checks whole r =
    let e : Record = entry.Call pid number result more in
    record {
      made = last-made keeps g pid before e t (record { checks = checks; whole = whole; process = ap (λ (p : ℕ). Some p) (of-slice pid (behind before) t.pid checks.slice r.slice); plain = λ h. refl; made = r.made; groups = r.groups });
      slice = nowhere (after_last g pid e t);
      groups = called-founded (greatest before) pid number result more t.groups r.groups;
    }

end-reached : KeepsLengths → (g pid status : ℕ) (before : List Record) (t : Standing) → records.Stands before (entry.End pid status) → HasWholeBlocks (entry.End pid status)
    → Reached (behind before) (greatest before) t → Reached Nowhere (greatest before) (after_last g pid (entry.End pid status) t)
end-reached keeps g pid status before t checks whole r =
    let e : Record = entry.End pid status in
    record {
      made = last-made keeps g pid before e t (record { checks = checks; whole = whole; process = ap (λ (p : ℕ). Some p) (of-slice pid (behind before) t.pid checks.slice r.slice); plain = λ h. refl; made = r.made; groups = r.groups });
      slice = nowhere (after_last g pid e t);
      groups = r.groups;
    }

boot-reached : KeepsLengths → (g : ℕ) (name : List ℕ) (give : Give) (b : Behind) (most : ℕ) (t : Standing) → Reached b most t → Reached Nowhere (max most 1) (after_boot g (entry.Boot name give) t)
boot-reached keeps g name give b most t r =
    let e : Record = entry.Boot name give in
    record {
      made = made_if-ends (State t.events most) (State (t.events + 1) (max most 1)) (t.is_ended && (g == 1)) t.made (boots t.events e) r.made
          (λ own s. state-later t.events (t.events + 1) most (max most 1) own (omega arith) (omega arith) s)
          (λ own s. boots-ends keeps t.events most (max most 1) name give own (omega arith) (omega arith) s);
      slice = nowhere (after_boot g e t);
      groups = changed-founded (max most 1) t.groups 1 (Some 1) (omega arith) (founded-later most (max most 1) t.groups (omega arith) r.groups);
    }

record-reached : KeepsLengths → (g until : ℕ) (before : List Record) (e : Record) (t : Standing) → records.Stands before e → HasWholeBlocks e → Reached (behind before) (greatest before) t
    → Reached (behind_record (behind before) e) (greatest_after e (greatest before)) (after_record g until t e)
record-reached keeps g until before (entry.File name bytes) t checks whole r = later-reached (behind before) (greatest before) t r
record-reached keeps g until before (entry.Boot name give) t checks whole r = boot-reached keeps g name give (behind before) (greatest before) t r
record-reached keeps g until before (entry.Typed bytes) t checks whole r = later-reached (behind before) (greatest before) t r
record-reached keeps g until before (entry.Unplug device) t checks whole r = later-reached (behind before) (greatest before) t r
record-reached keeps g until before (entry.Slice pid ran) t checks whole r = slice-reached keeps g until pid ran (behind before) (greatest before) t r
record-reached keeps g until before (entry.Signal pid signal cut handler) t checks whole r = signal-reached keeps g pid signal cut handler (behind before) before t checks r
record-reached keeps g until before (entry.Call pid number result more) t checks whole r = call-reached keeps g pid number result more before t checks whole r
record-reached keeps g until before (entry.End pid status) t checks whole r = end-reached keeps g pid status before t checks whole r

behind-append : (b : Behind) (rs : List Record) (e : Record) → behind_from b (rs ++ e ∷ []) ≡ behind_record (behind_from b rs) e
behind-append b [] e = refl
behind-append b (r ∷ rs) e = behind-append (behind_record b r) rs e

greatest-append : (n : ℕ) (rs : List Record) (e : Record) → greatest_from n (rs ++ e ∷ []) ≡ greatest_after e (greatest_from n rs)
greatest-append n [] e = refl
greatest-append n (r ∷ rs) e = greatest-append (greatest_after r n) rs e

all-reached : KeepsLengths → (g until : ℕ) (rest before : List Record) (t : Standing) → broken_from before rest ≡ None → All HasWholeBlocks rest → Reached (behind before) (greatest before) t → Ends Followed (settled (replayed g until t rest))
all-reached keeps g until [] before t broken whole r =
    ends-ends (State t.events (greatest before)) Followed (settled t) (settled-ends keeps t.events (greatest before) t r.made) (λ own s. state-followed t.events (greatest before) own s)
all-reached keeps g until (e ∷ rest) before t broken whole r = by_test (cant_follow before e) refl broken (all-reached keeps g until rest (before ++ e ∷ []) (after_record g until t e))
  where
    by_test : (b : Bool) → cant_follow before e ≡ b → (if b then Some (length before) else broken_from (before ++ e ∷ []) rest) ≡ None
        → (broken_from (before ++ e ∷ []) rest ≡ None → All HasWholeBlocks rest → Reached (behind (before ++ e ∷ [])) (greatest (before ++ e ∷ [])) (after_record g until t e) → Ends Followed (settled (replayed g until (after_record g until t e) rest)))
        → Ends Followed (settled (replayed g until (after_record g until t e) rest))
    by_test true f k ih = absurd (cc)
    by_test false f k ih =
        let checks = can-follow before e f in
        let next = record-reached keeps g until before e t checks (whole 0 e (omega arith)) r in
        let there = subst (λ (b : Behind). Reached b (greatest_after e (greatest before)) (after_record g until t e)) (sym (behind-append Nowhere before e)) next in
        ih k (λ i d l. whole (suc i) d (omega arith)) (subst (λ (n : ℕ). Reached (behind (before ++ e ∷ [])) n (after_record g until t e)) (sym (greatest-append 0 before e)) there)

pub alone-followed : KeepsLengths → (entries : List Record) (g moment : ℕ) (own : Own) → broken_from [] entries ≡ None → All HasWholeBlocks entries → alone.alone entries g moment ≡ Makes own → Followed own
alone-followed keeps entries g moment own broken whole is =
    subst (Ends Followed) is (all-reached keeps g moment entries [] at_first broken whole (record { made = first-state; slice = nowhere at_first; groups = λ p. tt }))
