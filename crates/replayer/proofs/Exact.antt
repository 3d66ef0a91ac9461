-- A group alone has run as many instructions as its records count before the moment.
use Rattle.std.proofs.lemmas.Grind.{common_steps}
use Rattle.std.proofs.lemmas.Bool.Decides.{nat_tests}
use Rattle.std.proofs.Common.{◌≡◌, ◌≢◌, ◌≤◌, ℕ, zero, suc, ◌+◌, ◌-◌, ◌==◌, ◌&&◌, min, nat_le, not, Bool, true, false, if◌then◌else◌, List, [], ◌∷◌, Option, Some, None, option_map, count_by, cond, refl, ap, sym, subst, ◌∙◌, arith, inl, inr, eqb-true, le-leb, leb-true}
use Rattle.std.proofs.lemmas.Bool.Decides.{eqb_tells}
use Rattle.std.proofs.lemmas.Bool.{not-false}
use Rattle.arn_base.specs.declared.machine.Cpu.{Cpu}
use Rattle.arn_base.specs.declared.records.Extra.{Extra}
use Rattle.arn_base.specs.declared.records.Extra.TheVariants as extra
use Rattle.arn_base.specs.declared.records.Give.{Give}
use Rattle.arn_base.specs.declared.records.Record.{Record}
use Rattle.arn_base.specs.declared.records.Record.TheVariants as entry
use Rattle.arn_base.specs.declared.records.Start.{Start}
use Rattle.acts_model.specs.Acts as act
use Rattle.acts_model.specs.Acts.{Act, done_by, unborn}
use Rattle.acts_model.specs.Bodies.{Bodies, View, seen, put}
use Rattle.acts_model.specs.Moved.{is_call_or_end}
use Rattle.acts_model.specs.Records.{EndsLife, NoLife, child_called, child_forked, child_start, is_event, lives_after}
use Rattle.acts_model.specs.Told.{act_of, delivery_act, call_act, kind_of}
use Rattle.history_model.specs.Alone as alone
use Rattle.history_model.specs.Alone.{Own, Made, Makes, Fails, Standing, and_then, replayed, settled, at_first, nothing_own}
use Rattle.history_model.specs.Broken.{Behind, Nowhere, ADelivery, behind_record, behind_signal, first_broken, greatest_after, is_behind}
use Rattle.history_model.specs.Groups.{Groups, count_from, count_of, group_of, groups_from, groups_told, is_number, ran_for, group_made}
use Rattle.history_model.specs.Moments.{ran_in}
use Rattle.replay_steps.specs.Standing.{is_counted}
use Rattle.replayer.specs.Bounds.{count_before_from, ran_before, ran_for_before}
use Rattle.replayer.proofs.Alive.{AllLive, all-live, lives_told}
use Rattle.replayer.proofs.Bodies.{HasBody, acted, count-noted, done-child, done-keeps, ends, fails-not, has-seen, plains-went, put-keeps, put-own, same-made}
use Rattle.replayer.proofs.ByCalls.{call-lives, fork-not-exit, called-other, ends-call, forked-child, forks-act}
use Rattle.replayer.proofs.BySlices.{keeps-ended}
use Rattle.replayer.proofs.Loops.{stays-failed}
use Rattle.replayer.proofs.Own.{hand-less, kept-all, same-test}
use Rattle.replayer.proofs.Passing.{counts-one, no-way}
use Rattle.replayer.proofs.Sound.{Sound, sound}
use Rattle.replayer.proofs.Counting.{after-event}
use Rattle.parts_model.specs.declared.calls.TheConstants.{EXIT, FORK}
use Rattle.parts_model.specs.Replies.{is_success}

-- no record counts more before a moment than in all
if-within : (member : Bool) (ran left : ℕ) → (if member then min ran left else 0) ≤ (if member then ran else 0)
if-within true ran left = omega arith
if-within false ran left = omega arith

for-within : (g until moment : ℕ) (groups : Groups) (e : Record) → ran_for_before g until moment groups e ≤ ran_for g groups e
for-within g until moment groups (entry.Slice pid ran) = if-within (is_number g (groups pid)) ran (until - moment)
for-within g until moment groups _ = omega arith

from-within : (g until moment : ℕ) (groups : Groups) (entries : List Record) → count_before_from g until moment groups entries ≤ count_from g groups entries
from-within g until moment groups [] = omega arith
from-within g until moment groups (e ∷ entries) =
    let one = for-within g until moment groups e in let rest = from-within g until (moment + ran_in e) groups entries in omega (arith, one, rest)

pub before-within : (entries : List Record) (g until : ℕ) → ran_before entries g until ≤ count_of entries g
before-within entries g until = from-within g until 0 (group_of entries) entries

-- how many instructions have run inside
abbrev ran_by : Own → ℕ
ran_by own = count_by is_counted own.inside

-- where the group alone stands, with these records left
record At (g until : ℕ) (groups : Groups) (b : Behind) (n : ℕ) (t : Standing) (own : Own) (live : ℕ → Bool) (rest : List Record) : Type 0 where
  made : t.made ≡ Makes own
  sound : Sound b n rest
  lives : AllLive live rest
  final : (p : ℕ) → groups p ≡ groups_from rest t.groups p
  hand : (q : ℕ) → is_behind q b ≡ true → q ≡ t.pid
  runs : (q : ℕ) → is_behind q b ≡ true → live q ≡ true
  owed : (q : ℕ) → is_behind q b ≡ true → is_number g (t.groups q) ≡ false → t.owed ≡ 0
  ended : t.is_ended ≡ nat_le t.moment until
  begun : t.moment ≤ until → t.is_begun ≡ true
  bodies : t.moment ≤ until → (p : ℕ) → live p ≡ true → is_number g (t.groups p) ≡ true → HasBody own.bodies p

-- with one record more
record Stepped (g until : ℕ) (groups : Groups) (b : Behind) (n : ℕ) (t : Standing) (own : Own) (live : ℕ → Bool) (rest : List Record) (e : Record) (mid : Own) : Type 0 where
  at : At g until groups (behind_record b e) (greatest_after e n) (alone.after_record g until t e) mid (lives_told e live) rest
  counted : ran_by mid + (alone.after_record g until t e).owed ≡ ran_by own + t.owed + ran_for_before g until t.moment groups e

-- what a slice's last instruction does, and those before it
record Ended (pid event : ℕ) (e : Record) (own last : Own) (owed : ℕ) : Type 0 where
  before : Own
  v : View
  a : Act
  tells : act_of v.body.cpu e ≡ Some a
  counted : ran_by last ≡ ran_by own + owed
  keeps : (q : ℕ) → HasBody own.bodies q → HasBody before.bodies q
  bodies : last.bodies ≡ done_by pid event a (Some v) before.bodies

-- a slice of no instruction has none
none-last : (event : ℕ) (e : Record) (own : Own) → is_call_or_end e ≡ true → (d : alone.Disagrees) × (alone.no_instruction event e (Makes own) ≡ Fails d)
none-last event (entry.Call pid number r more) own is = (_, refl)
none-last event (entry.End pid status) own is = (_, refl)
none-last event _ own is = no-way is

and-then-makes : (made : Made) (next : Own → Made) (own' : Own) → and_then made next ≡ Makes own' → (own : Own) × (made ≡ Makes own) × (next own ≡ Makes own')
and-then-makes (Makes own) next own' is = (own, refl, is)
and-then-makes (Fails d) next own' is = fails-not d own' is

slice-ended : (slice : alone.Slice) (owed : ℕ) (e : Record) (own last : Own) → ((cpu : Cpu) → (a : Act) × (act_of cpu e ≡ Some a)) → is_call_or_end e ≡ true → HasBody own.bodies slice.pid → alone.ends_slice slice owed e own ≡ Makes last → Ended slice.pid slice.event e own last owed
slice-ended slice zero e own last tells is has made = let none = none-last slice.event e own is in fails-not none.0 last (sym none.1 ∙ made)
slice-ended slice (suc left) e own last tells is has made =
    let parts = and-then-makes (alone.plains slice 0 left own) (alone.happens slice.pid slice.event e) last made in
    let went = plains-went slice left 0 own parts.0 parts.1 in
    let sees = has-seen parts.0.bodies slice.pid (went.keeps slice.pid has) in
    let tell = tells sees.0.body.cpu in
    let did = acted slice.pid slice.event e sees.0 sees.0 tell.0 parts.0 last sees.1 tell.1 (ap (λ (o : Option View). alone.record_seen slice.pid slice.event e o parts.0) (sym sees.1) ∙ parts.2) in
    let one : cond {A = ℕ} (is_call_or_end e) 1 0 ≡ 1 = ap (λ (c : Bool). cond {A = ℕ} c 1 0) is in
    record { before = parts.0; v = sees.0; a = tell.0; tells = tell.1; counted = omega (arith, went.counted, did.counted, one); keeps = went.keeps; bodies = did.bodies }

ends-is : (o : Option Act) (a : Act) → o ≡ Some a → option_map ends o ≡ Some false → ends a ≡ false
ends-is o a is not = let same : Some (ends a) ≡ Some false = sym (ap (option_map ends) is) ∙ not in cc

same-act : (o : Option Act) (a b : Act) → o ≡ Some a → o ≡ Some b → a ≡ b
same-act o a b first second = let same : Some a ≡ Some b = sym first ∙ second in cc

-- the record of a slice's end, for a member or another process
record Inner (e : Record) (pid : ℕ) (own last : Own) (owed : ℕ) (member : Bool) : Type 0 where
  counted : ran_by last ≡ ran_by own + owed
  keeps : (q : ℕ) → (q ≡ pid → (cpu : Cpu) → option_map ends (act_of cpu e) ≡ Some false) → HasBody own.bodies q → HasBody last.bodies q
  joins : member ≡ true → (child : ℕ) → ((cpu : Cpu) → act_of cpu e ≡ Some (act.Forks child)) → HasBody last.bodies child

-- and what begins with it
record Lasts (g until : ℕ) (t : Standing) (e : Record) (pid : ℕ) (own mid : Own) : Type 0 where
  counted : ran_by mid + (if t.is_ended then 0 else t.owed) ≡ ran_by own + t.owed
  parts : t.moment ≤ until → (last : Own) × Inner e pid own last t.owed (is_number g (t.groups pid)) × (alone.begins_by g t.events e last ≡ Makes mid)

module _ (g until : ℕ) (groups : Groups) (b : Behind) (n : ℕ) (t : Standing) (own : Own) (live : ℕ → Bool) (rest : List Record) where
  -- an event
  event-at : (e : Record) → is_event e ≡ true → At g until groups b n t own live (e ∷ rest) → (mid : Own) → (alone.after_record g until t e).made ≡ Makes mid
      → ((q : ℕ) → is_behind q (behind_record b e) ≡ true → (lives_told e live q ≡ true) × (is_number g (groups_told e t.groups q) ≡ false → (alone.after_record g until t e).owed ≡ 0))
      → (t.moment ≤ until → (p : ℕ) → lives_told e live p ≡ true → is_number g (groups_told e t.groups p) ≡ true → HasBody mid.bodies p)
      → At g until groups (behind_record b e) (greatest_after e n) (alone.after_record g until t e) mid (lives_told e live) rest
  event-at e h1 h2 mid h3 h4 h5 = grind (arith, common_steps, nat_tests, after-event, sound, hand-less, keeps-ended)

  -- one that isn't the group's
  quiet : (e : Record) → is_event e ≡ true → At g until groups b n t own live (e ∷ rest) → (mid : Own) → (alone.after_record g until t e).made ≡ Makes mid → t.made ≡ Makes mid
      → behind_record b e ≡ Nowhere → ((p : ℕ) → lives_told e live p ≡ live p) → groups_told e t.groups ≡ t.groups
      → At g until groups (behind_record b e) (greatest_after e n) (alone.after_record g until t e) mid (lives_told e live) rest
  quiet e h1 h2 mid h3 h4 h5 h6 h7 = grind (arith, common_steps, nat_tests, event-at, no-way, same-made)

  -- a slice
  slice-step : (pid ran : ℕ) → At g until groups b n t own live (entry.Slice pid ran ∷ rest) → (mid : Own) → settled t ≡ Makes mid → Stepped g until groups b n t own live rest (entry.Slice pid ran) mid
  slice-step pid ran h1 mid h2 = grind (arith, nat_tests, plains-went, kept-all, sound, eqb-true, le-leb)

  -- a slice's end
  module _ (e : Record) (pid : ℕ) (at : At g until groups b n t own live (e ∷ rest)) (is-last : is_call_or_end e ≡ true) (tells : (cpu : Cpu) → (a : Act) × (act_of cpu e ≡ Some a)) (hand : is_behind pid b ≡ true) where
    inner : t.moment ≤ until → (m : Bool) → is_number g (t.groups pid) ≡ m → (last : Own) → alone.made_if m t.made (alone.ends_slice (alone.slice_of t) t.owed e) ≡ Makes last → Inner e pid own last t.owed m
    inner within false is last made =
        let same = same-made t.made own last at.made made in
        let none = at.owed pid hand is in
        let many = ap ran_by same in
        record {
          counted = omega (arith, many, none);
          keeps = λ q alive has. subst (λ (o : Own). HasBody o.bodies q) (sym same) has;
          joins = λ member child forks. no-way member;
        }
    inner within true is last made =
        let here = at.hand pid hand in
        let has : HasBody own.bodies t.pid = subst (HasBody own.bodies) here (at.bodies within pid (at.runs pid hand) is) in
        let r = slice-ended (alone.slice_of t) t.owed e own last tells is-last has (ap (λ (m : Made). and_then m (alone.ends_slice (alone.slice_of t) t.owed e)) (sym at.made) ∙ made) in
        record {
          counted = r.counted;
          keeps = λ q alive has.
              subst (λ (bs : Bodies). HasBody bs q) (sym r.bodies)
              (done-keeps t.pid t.events r.v r.before.bodies r.a q (λ same. ends-is (act_of r.v.body.cpu e) r.a r.tells (alive (same ∙ sym here) r.v.body.cpu)) (r.keeps q has));
          joins = λ member child forks.
              subst (λ (bs : Bodies). HasBody bs child) (sym r.bodies)
              (subst (λ (a : Act). HasBody (done_by t.pid t.events a (Some r.v) r.before.bodies) child) (same-act (act_of r.v.body.cpu e) (act.Forks child) r.a (forks r.v.body.cpu) r.tells)
              (done-child t.pid t.events r.v r.before.bodies child));
        }

    lasts : ((last mid : Own) → alone.begins_by g t.events e last ≡ Makes mid → ran_by mid ≡ ran_by last) → (mid : Own) (c : Bool) → t.is_ended ≡ c
        → alone.made_if c (alone.made_if (c && is_number g (t.groups pid)) t.made (alone.ends_slice (alone.slice_of t) t.owed e)) (alone.begins_by g t.events e) ≡ Makes mid → Lasts g until t e pid own mid
    lasts begins mid false is made =
        let many = ap ran_by (same-made t.made own mid at.made made) in
        let owes : (if t.is_ended then 0 else t.owed) ≡ t.owed = ap (λ (c : Bool). if c then 0 else t.owed) is in
        record {
          counted = omega (arith, many, owes);
          parts = λ within. no-way (sym is ∙ (at.ended ∙ le-leb t.moment until within));
        }
    lasts begins mid true is made =
        let both = and-then-makes (alone.made_if (is_number g (t.groups pid)) t.made (alone.ends_slice (alone.slice_of t) t.owed e)) (alone.begins_by g t.events e) mid made in
        let within : t.moment ≤ until = leb-true t.moment until (sym at.ended ∙ is) in
        let last = inner within (is_number g (t.groups pid)) refl both.0 both.1 in
        let first = last.counted in
        let second = begins both.0 mid both.2 in
        let owes : (if t.is_ended then 0 else t.owed) ≡ 0 = ap (λ (c : Bool). if c then 0 else t.owed) is in
        record { counted = omega (arith, first, second, owes); parts = λ le. (both.0, last, both.2) }

-- a delivery
module _ (g until : ℕ) (groups : Groups) (b : Behind) (n : ℕ) (t : Standing) (own : Own) (live : ℕ → Bool) (rest : List Record) (pid signal : ℕ) (cut : Bool) (handler : ℕ) where
  -- who lives behind it lived before, and it doesn't end
  signal-live : (c : Bool) (q : ℕ) (before : Bool) → lives_after (if c then EndsLife pid else NoLife) q before ≡ true → before ≡ true
  signal-live c q before h1 = grind (arith, nat_tests, no-way)

  signal-ends : (c : Bool) (q : ℕ) (before : Bool) → lives_after (if c then EndsLife pid else NoLife) q before ≡ true → q ≡ pid → ends (if c then act.Dies signal cut else act.Delivers signal handler cut) ≡ false
  signal-ends true q before lives same = no-way (sym (ap (λ (c : Bool). if c then false else before) (same-test pid q (sym same))) ∙ lives)
  signal-ends false q before lives same = refl

  -- a slice stays at hand where the delivery isn't fatal
  goes-on : (c d : Bool) (q : ℕ) → is_behind q (if c && not d then ADelivery pid else Nowhere) ≡ true → d ≡ false
  goes-on c d q h1 = grind (arith, common_steps, nat_tests, no-way)

  not-fatal : (h : Behind) (q : ℕ) → is_behind q (behind_signal pid handler h) ≡ true → (handler == 0) ≡ false
  not-fatal h q h1 = grind (arith, common_steps, nat_tests, no-way, goes-on)

  record Signalled (mid : Own) : Type 0 where
    counted : ran_by mid ≡ ran_by own
    bodies : (q : ℕ) → lives_told (entry.Signal pid signal cut handler) live q ≡ true → HasBody own.bodies q → HasBody mid.bodies q

  module _ (at : At g until groups b n t own live (entry.Signal pid signal cut handler ∷ rest)) (mid : Own) where
    untold : mid ≡ own → Signalled mid
    untold same = record { counted = ap ran_by same; bodies = λ q lives has. subst (λ (o : Own). HasBody o.bodies q) (sym same) has }

    signalled : (c : Bool) → alone.made_if c t.made (alone.happens pid t.events (entry.Signal pid signal cut handler)) ≡ Makes mid → Signalled mid
    signalled false made = untold (same-made t.made own mid at.made made)
    signalled true made = by (seen own.bodies pid) refl (ap (λ (m : Made). and_then m (alone.happens pid t.events (entry.Signal pid signal cut handler))) (sym at.made) ∙ made)
      where
        by : (o : Option View) → seen own.bodies pid ≡ o → alone.record_seen pid t.events (entry.Signal pid signal cut handler) o own ≡ Makes mid → Signalled mid
        by None stood is = untold (same-made (Makes own) own mid refl is)
        by (Some v) stood is =
            let did = acted pid t.events (entry.Signal pid signal cut handler) v v (delivery_act signal handler cut) own mid stood refl is in
            record {
              counted = omega (arith, did.counted);
              bodies = λ q lives has.
                  subst (λ (bs : Bodies). HasBody bs q) (sym did.bodies)
                  (done-keeps pid t.events v own.bodies (delivery_act signal handler cut) q (signal-ends (handler == 0) q (live q) lives) has);
            }

    signal-step : (alone.after_record g until t (entry.Signal pid signal cut handler)).made ≡ Makes mid → Stepped g until groups b n t own live rest (entry.Signal pid signal cut handler) mid
    signal-step h1 = grind (arith, nat_tests, signalled, event-at, hand-less, not-fatal, signal-live)

-- the boot
module _ (g until : ℕ) (groups : Groups) (b : Behind) (n : ℕ) (t : Standing) (own : Own) (live : ℕ → Bool) (rest : List Record) (name : List ℕ) (give : Give) where
  record Booted (test : Bool) (mid : Own) : Type 0 where
    counted : ran_by mid ≡ ran_by own
    keeps : (q : ℕ) → HasBody own.bodies q → HasBody mid.bodies q
    first : test ≡ true → HasBody mid.bodies 1

  module _ (at : At g until groups b n t own live (entry.Boot name give ∷ rest)) (mid : Own) where
    booted : (c : Bool) → alone.made_if c t.made (alone.boots t.events (entry.Boot name give)) ≡ Makes mid → Booted c mid
    booted false made =
        let same = same-made t.made own mid at.made made in
        record { counted = ap ran_by same; keeps = λ q has. subst (λ (o : Own). HasBody o.bodies q) (sym same) has; first = λ is. no-way is }
    booted true made =
        let bodies : Bodies = put 1 (unborn t.events) own.bodies in
        let before : Own = record own { bodies = bodies } in
        let sees = has-seen bodies 1 (put-own 1 (unborn t.events) own.bodies) in
        let did = acted 1 t.events (entry.Boot name give) (unborn t.events) sees.0 (act.Starts give.bytes 0 0) before mid sees.1 refl (ap (λ (m : Made). and_then m (alone.boots t.events (entry.Boot name give))) (sym at.made) ∙ made) in
        let many = did.counted in
        record {
          counted = omega (arith, many);
          keeps = λ q has.
              subst (λ (bs : Bodies). HasBody bs q) (sym did.bodies) (done-keeps 1 t.events sees.0 bodies (act.Starts give.bytes 0 0) q (λ same. refl) (put-keeps 1 (unborn t.events) own.bodies q has));
          first = λ is.
              subst (λ (bs : Bodies). HasBody bs 1) (sym did.bodies) (done-keeps 1 t.events sees.0 bodies (act.Starts give.bytes 0 0) 1 (λ same. refl) (put-own 1 (unborn t.events) own.bodies));
        }

    boot-step : (alone.after_record g until t (entry.Boot name give)).made ≡ Makes mid → Stepped g until groups b n t own live rest (entry.Boot name give) mid
    boot-step made =
        let did = booted (t.is_ended && (g == 1)) made in
        let many = did.counted in
        record {
          at = event-at g until groups b n t own live rest (entry.Boot name give) refl at mid made (λ q is. no-way is)
              (λ le p lives is.
              elim (eqb_tells p 1) [
                | inl k ↦
                    let one : (1 == g) ≡ true = sym (ap (λ (c : Bool). is_number g (if c then Some 1 else t.groups p)) k.0) ∙ is in
                    let is-first : (g == 1) ≡ true = same-test g 1 (sym (eqb-true 1 g one)) in
                    let reached : t.is_ended ≡ true = at.ended ∙ le-leb t.moment until le in
                    subst (HasBody mid.bodies) (sym k.1) (did.first (ap (λ (c : Bool). c && (g == 1)) reached ∙ is-first))
                | inr k ↦
                    let apart : (1 == p) ≡ false = elim (eqb_tells 1 p) [ inl h ↦ absurd (k.1 (sym h.1)) | inr h ↦ h.0 ] in
                    did.keeps p (at.bodies le p (sym (ap (λ (c : Bool). if c then true else live p) apart) ∙ lives) (sym (ap (λ (c : Bool). is_number g (if c then Some 1 else t.groups p)) k.0) ∙ is))
              ]);
          counted = omega (arith, many);
        }

-- a group's first process begins
record Begun (g : ℕ) (own mid : Own) : Type 0 where
  counted : ran_by mid ≡ ran_by own
  keeps : (q : ℕ) → HasBody own.bodies q → HasBody mid.bodies q

module _ (g r event : ℕ) (e : Record) (own mid : Own) where
  begins-goes : (o : Option Start) → alone.begins_if g r event e o own ≡ Makes mid → Begun g own mid
  begins-goes o h1 = grind (arith, common_steps, nat_tests, same-made, count-noted, put-keeps)

  begins-first : (start : Start) → r ≡ g → alone.begins_if g r event e (Some start) own ≡ Makes mid → HasBody mid.bodies g
  begins-first start h1 h2 = grind (arith, common_steps, nat_tests, same-made, same-test, put-own)

module _ (g until : ℕ) (groups : Groups) (b : Behind) (n : ℕ) (t : Standing) (own : Own) (live : ℕ → Bool) (rest : List Record) where
  -- a call
  module _ (pid number r : ℕ) (more : Extra) (at : At g until groups b n t own live (entry.Call pid number r more ∷ rest)) (mid : Own) where
    call-step : (alone.after_record g until t (entry.Call pid number r more)).made ≡ Makes mid → Stepped g until groups b n t own live rest (entry.Call pid number r more) mid
    call-step made =
        let e : Record = entry.Call pid number r more in
        let hand : is_behind pid b ≡ true = not-false (is_behind pid b) at.sound.0.slice in
        let all = lasts g until groups b n t own live rest e pid at refl (λ cpu. (call_act (kind_of number) cpu r more, refl)) hand
        (λ last mid is. (begins-goes g r t.events e last mid (child_start (child_called number r more)) is).counted) mid t.is_ended refl made in
        record {
          at = event-at g until groups b n t own live rest e refl at mid made (λ q is. no-way is)
              (λ le p lives is.
              let parts = all.parts le in
              let began = begins-goes g r t.events e parts.0 mid (child_start (child_called number r more)) parts.2 in
              elim (call-lives (number == EXIT) ((number == FORK) && is_success r) more pid r p (live p) (fork-not-exit number (is_success r)) lives) [
                | inl k ↦
                    let child : is_number g (group_made pid (Some (child_forked r more)) t.groups r) ≡ true =
                    ap (λ (q : ℕ). is_number g (group_made pid (Some (child_forked r more)) t.groups q)) (sym k.1)
                    ∙ (ap (λ (c : Bool). is_number g (group_made pid (if c then Some (child_forked r more) else None) t.groups p)) (sym k.0) ∙ is) in
                    subst (HasBody mid.bodies) (sym k.1)
                    (elim (forked-child g pid r t.groups more child) [
                      | inl s ↦
                          let start : child_start (child_called number r more) ≡ Some s.0 =
                          ap (λ (m : Extra). child_start (child_called number r m)) s.1 ∙ ap (λ (c : Bool). child_start (if c then Some (child_forked r (extra.Start s.0)) else None)) k.0 in
                          subst (HasBody mid.bodies) (sym s.2)
                          (begins-first g r t.events e parts.0 mid s.0 s.2 (ap (λ (o : Option Start). alone.begins_if g r t.events e o parts.0) (sym start) ∙ parts.2))
                      | inr j ↦ began.keeps r (parts.1.joins j.0 r (λ cpu. ap Some (forks-act number r more cpu k.0 j.1)))
                    ])
                | inr k ↦
                    began.keeps p
                    (parts.1.keeps p (λ same cpu. ap Some (ends-call number cpu r more (k.1 same)))
                    (at.bodies le p k.0 (ap (is_number g) (sym (called-other ((number == FORK) && is_success r) more pid r p t.groups k.2)) ∙ is)))
              ]);
          counted = let many = all.counted in omega (arith, many);
        }

  -- an end by fault
  module _ (pid status : ℕ) (at : At g until groups b n t own live (entry.End pid status ∷ rest)) (mid : Own) where
    end-lives : (q : ℕ) (same : Bool) (before : Bool) → (pid == q) ≡ same → (if same then false else before) ≡ true → (before ≡ true) × (q ≢ pid)
    end-lives q true before is lives = no-way lives
    end-lives q false before is lives = (lives, λ k. no-way (sym is ∙ same-test pid q (sym k)))

    end-step : (alone.after_record g until t (entry.End pid status)).made ≡ Makes mid → Stepped g until groups b n t own live rest (entry.End pid status) mid
    end-step made =
        let e : Record = entry.End pid status in
        let hand : is_behind pid b ≡ true = not-false (is_behind pid b) at.sound.0.slice in
        let all = lasts g until groups b n t own live rest e pid at refl (λ cpu. (act.Faults status, refl)) hand
        (λ last mid is. ap ran_by (same-made (Makes last) last mid refl is)) mid t.is_ended refl made in
        record {
          at = event-at g until groups b n t own live rest e refl at mid made (λ q is. no-way is)
              (λ le p lives is.
              let parts = all.parts le in
              let lived = end-lives p (pid == p) (live p) refl lives in
              subst (λ (o : Own). HasBody o.bodies p) (sym (same-made (Makes parts.0) parts.0 mid refl parts.2))
              (parts.1.keeps p (λ same. absurd (lived.1 same)) (at.bodies le p lived.0 is)));
          counted = let many = all.counted in omega (arith, many);
        }

  -- a record
  one-step : (e : Record) → At g until groups b n t own live (e ∷ rest) → (mid : Own) → (alone.after_record g until t e).made ≡ Makes mid → Stepped g until groups b n t own live rest e mid
  one-step (entry.Slice pid ran) at mid made = slice-step g until groups b n t own live rest pid ran at mid made
  one-step (entry.Signal pid signal cut handler) at mid made = signal-step g until groups b n t own live rest pid signal cut handler at mid made
  one-step (entry.Boot name give) at mid made = boot-step g until groups b n t own live rest name give at mid made
  one-step (entry.Call pid number r more) at mid made = call-step pid number r more at mid made
  one-step (entry.End pid status) at mid made = end-step pid status at mid made
  one-step e at mid made =
      let many = ap ran_by (same-made t.made own mid at.made made) in
      record { at = quiet g until groups b n t own live rest e refl at mid made made refl (λ p. refl) refl; counted = omega (arith, many) }

-- what is made at the end was made before
made-before : (g until : ℕ) (t : Standing) (rest : List Record) (last : Own) → settled (replayed g until t rest) ≡ Makes last → (own : Own) × (t.made ≡ Makes own)
made-before g until t rest last is = by t.made refl
  where
    by : (made : Made) → t.made ≡ made → (own : Own) × (t.made ≡ Makes own)
    by (Makes own) at = (own, at)
    by (Fails d) at = fails-not d last (sym (stays-failed g until t rest d at) ∙ is)

-- all records
from-exact : (g until : ℕ) (groups : Groups) (rest : List Record) (b : Behind) (n : ℕ) (t : Standing) (own : Own) (live : ℕ → Bool) (last : Own) → At g until groups b n t own live rest → settled (replayed g until t rest) ≡ Makes last
    → ran_by last ≡ ran_by own + t.owed + count_before_from g until t.moment groups rest
from-exact g until groups [] b n t own live last at is =
    let went = plains-went (alone.slice_of t) t.owed 0 own last (ap (λ (m : Made). and_then m (alone.plains (alone.slice_of t) 0 t.owed)) (sym at.made) ∙ is) in
    let many = went.counted in
    omega (arith, many)
from-exact g until groups (e ∷ rest) b n t own live last at is =
    let mid = made-before g until (alone.after_record g until t e) rest last is in
    let one = one-step g until groups b n t own live rest e at mid.0 mid.1 in
    let more = from-exact g until groups rest (behind_record b e) (greatest_after e n) (alone.after_record g until t e) mid.0 (lives_told e live) last one.at is in
    let first = one.counted in
    let moment = ap (λ (m : ℕ). count_before_from g until m groups rest) (counts-one g until t e).moment in
    omega (arith, more, first, moment)

pub before-exact : (entries : List Record) (g until : ℕ) (own : Own) → first_broken entries ≡ None → alone.alone entries g until ≡ Makes own → ran_by own ≡ ran_before entries g until
before-exact entries g until own stands made =
    let many = from-exact g until (group_of entries) entries Nowhere 0 at_first nothing_own (λ p. false) own
    (record {
      made = refl;
      sound = sound entries stands;
      lives = all-live entries stands;
      final = λ (p : ℕ). refl;
      hand = λ (q : ℕ) (is : is_behind q Nowhere ≡ true). no-way is;
      runs = λ (q : ℕ) (is : is_behind q Nowhere ≡ true). no-way is;
      owed = λ (q : ℕ) (is : is_behind q Nowhere ≡ true) (other : is_number g None ≡ false). refl;
      ended = sym (le-leb 0 until (omega arith));
      begun = λ (le : 0 ≤ until). refl;
      bodies = λ (le : 0 ≤ until) (p : ℕ) (lives : false ≡ true) (is : is_number g None ≡ true). no-way lives;
    }) made in
    omega (arith, many)
