-- The records of one turn, replayed, lead to where the turn leads.
use Rattle.std.proofs.lemmas.Bool.Decides.{nat_tests}
use Rattle.std.proofs.Common.{◌≡◌, ℕ, suc, ◌≤◌, ◌<◌, ◌+◌, ◌-◌, min, List, [], ◌∷◌, ◌++◌, length, take, refl, ap, ap₂, ◌∙◌, sym, subst, append-nil, append_assoc, take_all, Option, Some, None, IfSome, option_to_list, Bool, true, false, cond, arith, nat_le, le_refl, eq-eqb, leb-true, leb-false, le-leb}
use Rattle.arn_base.specs.declared.records.Record.{Record}
use Rattle.parts_model.specs.Processes.{next_process}
use Rattle.parts_model.specs.Replies.{Answered}
use Rattle.acts_model.specs.Acts.{Act}
use Rattle.acts_model.specs.Bodies.{View, seen}
use Rattle.acts_model.specs.Moved.{Inside, is_call_or_end, is_instruction}
use Rattle.acts_model.specs.Records.{LifeChange, BeginsLife, life_told, lives_after}
use Rattle.arn_model.specs.Doing.{Doing}
use Rattle.arn_model.specs.Kernel.{Machine}
use Rattle.arn_model.specs.Run.{within, unless_reached}
use Rattle.arn_model.specs.Step.{Step, event_step}
use Rattle.arn_model.specs.Tells.{lives, EventTells, StepTells, Along}
use Rattle.arn_model.specs.Turn.{delivery_in, after_first, after_steps, plains, last_of, turn_from, turn, steps_of}
use Rattle.history_model.specs.Alone as alone
use Rattle.history_model.specs.Alone.{Own, Made, Makes, Standing, and_then, made_if, ends_slice, begins_by, happens, after_slice, after_signal, after_last, after_record, replayed}
use Rattle.history_model.specs.Groups.{Groups, is_number, groups_told, groups_from}
use Rattle.history_model.specs.Moments.{changed}
use Rattle.replay_laws.specs.Heard.{part, parts}
use Rattle.replay_laws.proofs.Owned.{Owner, changed-same}
use Rattle.replay_laws.proofs.Agrees.{Agrees, number-true}
use Rattle.replay_laws.proofs.Acts.{made_for, GroupsFit}
use Rattle.replay_laws.proofs.Told.{groups_after, BeginsChild, event-tale}
use Rattle.replay_laws.proofs.Steps.{Known, along-rest, after-append, next, live-number, told, count, counted, told-none, told-more, count-none, count-more, FirstIs, LastIs, first-tells, last-tells, ArePlain, plains-plain, told-plain, count-plain, within-plain, within-part, Kept, plains-keep, event-counts, JointAt}
use Rattle.replay_laws.proofs.Heard.{parts-append, mine, slice_at, RunsTo, PlainTo, plains-joint, does, own_did, own_after, own-inside, event-joint}
use Rattle.window_laws.specs.Lengths.{KeepsLengths}

-- a standing in a slice whose begin is reached
abbrev pub stand : Own → Groups → ℕ → ℕ → Bool → ℕ → ℕ → ℕ → Standing
stand o ts events moment ended owed p ran = record { made = Makes o; groups = ts; events = events; moment = moment; is_begun = true; is_ended = ended; owed = owed; pid = p; ran = ran; end_event = events }

-- a standing behind the event that ends the slice
abbrev stand_after : Own → Groups → ℕ → ℕ → ℕ → ℕ → Standing
stand_after o ts event moment p ran = record { made = Makes o; groups = ts; events = event + 1; moment = moment; is_begun = true; is_ended = true; owed = 0; pid = p; ran = ran; end_event = event }

signal-made : (g : ℕ) (gs ts : Groups) (m : Machine) (p : ℕ) (v : View) (d : Doing) (r : Record) (o : Own) → EventTells m p v d r → ((g e : ℕ) (own : Own) → begins_by g e r own ≡ Makes own) → Agrees g gs m.bodies o.bodies → ts p ≡ gs p → made_if (is_number g (ts p)) (Makes o) (happens p m.events r) ≡ Makes (own_after g gs m p v d.act r o)
signal-made g gs ts m p v d r o h1 h2 h3 h4 = grind (arith, nat_tests, event-tale, does, number-true)

signal-step : (g : ℕ) (gs ts : Groups) (m : Machine) (p : ℕ) (v : View) (d : Doing) (r : Record) (o : Own) (moment : ℕ) (ended : Bool) (owed ran : ℕ) → EventTells m p v d r → ((g e : ℕ) (own : Own) → begins_by g e r own ≡ Makes own) → Agrees g gs m.bodies o.bodies → ts p ≡ gs p → after_signal g p r (stand o ts m.events moment ended owed p ran) ≡ stand (own_after g gs m p v d.act r o) ts (m.events + 1) moment ended owed p ran
signal-step g gs ts m p v d r o moment ended owed ran t none a same =
    ap (λ (x : Made). record { made = x; groups = ts; events = m.events + 1; moment = moment; is_begun = true; is_ended = ended; owed = owed; pid = p; ran = ran; end_event = m.events + 1 }) (signal-made g gs ts m p v d r o t none a same)

-- a last event, where the slice's end is reached, and own is what the instructions before it lead to
end-made : (g : ℕ) (gs ts : Groups) (m : Machine) (p : ℕ) (v : View) (d : Doing) (r : Record) (o own : Own) (k ran : ℕ) → EventTells m p v d r → Agrees g gs m.bodies own.bodies → ts p ≡ gs p → RunsTo p (cond (mine gs g p) k 0) o own → and_then (made_if (is_number g (ts p)) (Makes o) (ends_slice (slice_at p ran m.events m.events) (cond (mine gs g p) (suc k) 0) r)) (begins_by g m.events r) ≡ Makes (own_after g gs m p v d.act r own)
end-made g gs ts m p v d r o own k ran t a same runs =
    ap (λ (x : Option ℕ). and_then (made_if (is_number g x) (Makes o) (ends_slice (slice_at p ran m.events m.events) (cond (mine gs g p) (suc k) 0) r)) (begins_by g m.events r)) same
    ∙ (ap (λ (x : Made). and_then x (begins_by g m.events r)) (by_test (is_number g (gs p)) refl (runs ran m.events m.events 0))
    ∙ (event-tale m p v d r t).begins g m.events (own_did (mine gs g p) m p v d.act r own))
  where
    by_test : (b : Bool) → is_number g (gs p) ≡ b → alone.plains (slice_at p ran m.events m.events) 0 (cond b k 0) o ≡ Makes own → made_if b (Makes o) (ends_slice (slice_at p ran m.events m.events) (cond b (suc k) 0) r) ≡ Makes (own_did b m p v d.act r own)
    by_test b h1 h2 = grind (arith, nat_tests, does, number-true)

end-step : (g : ℕ) (gs ts : Groups) (m : Machine) (p : ℕ) (v : View) (d : Doing) (r : Record) (o own : Own) (moment k ran : ℕ) → EventTells m p v d r → Agrees g gs m.bodies own.bodies → ts p ≡ gs p → RunsTo p (cond (mine gs g p) k 0) o own → after_last g p r (stand o ts m.events moment true (cond (mine gs g p) (suc k) 0) p ran) ≡ stand_after (own_after g gs m p v d.act r own) (groups_told r ts) m.events moment p ran
end-step g gs ts m p v d r o own moment k ran t a same runs =
    ap (λ (x : Made). record { made = x; groups = groups_told r ts; events = m.events + 1; moment = moment; is_begun = true; is_ended = true; owed = 0; pid = p; ran = ran; end_event = m.events }) (end-made g gs ts m p v d r o own k ran t a same runs)

-- what is owed has been run, whichever event comes next, or would end the slice
abbrev pub Settles : Standing → Own → Type 0
Settles t own = (event end_event : ℕ) → and_then t.made (alone.plains (slice_at t.pid t.ran event end_event) 0 t.owed) ≡ Makes own

-- the replay stands where the whole machine does: as of machine at, with the counts of machine last
pub record Ends (g : ℕ) (gs : Groups) (until now : ℕ) (heard : List Inside) (t : Standing) (at last : Machine) : Type 0 where
  pub owner : ℕ → Owner
  pub own : Own
  pub settled : Settles t own
  pub joint : JointAt g owner gs at own.bodies
  pub inside : own.inside ≡ heard
  pub events : t.events ≡ last.events
  pub moment : t.moment ≡ now
  pub ended : t.is_ended ≡ nat_le now until

-- the standing behind the slice's record and its delivery, where c instructions follow
abbrev behind : ℕ → Groups → ℕ → ℕ → Own → Groups → ℕ → ℕ → ℕ → Standing
behind g gs until now o ts events c p = stand o ts events (now + c) (nat_le (now + c) until) (cond (mine gs g p) (min c (until - now)) 0) p c

-- steps from m on, of which the first are within the moment
abbrev StepsEnd : ℕ → Groups → ℕ → ℕ → List Inside → Machine → List Step → List Step → Standing → Type 0
StepsEnd g gs until now heard m first steps t = Ends g gs until now (heard ++ parts gs g first) t (after_steps m first) (after_steps m steps)

abbrev RestEnds : ℕ → Groups → ℕ → ℕ → Own → Groups → Machine → ℕ → List Step → Type 0
RestEnds g gs until now o ts m p steps = StepsEnd g gs until (now + count steps) o.inside m (within (until - now) steps) steps (replayed g until (behind g gs until now o ts m.events (count steps) p) (told steps))

-- numbers that are given when steps have been taken have the groups that their records tell
abbrev Below : Groups → Groups → Machine → List Step → Type 0
Below gs ts m steps = (q : ℕ) → q < next (after_steps m steps) → groups_from (told steps) ts q ≡ gs q

-- so a child has its group
child-fits : (gs ts : Groups) (m : Machine) (p : ℕ) (v : View) (d : Doing) (r : Record) → EventTells m p v d r → ts p ≡ gs p → ((q : ℕ) → q < next_process d.kernel.processes → groups_told r ts q ≡ gs q) → GroupsFit gs p d.act
child-fits gs ts m p v d r t same below = by_act d.act (event-tale m p v d r t).groups (event-tale m p v d r t).child
  where
    child : (c : ℕ) → life_told r ≡ BeginsLife c → c < next_process d.kernel.processes
    child c e = live-number d.kernel c (t.lives c ∙ (ap (λ (x : LifeChange). lives_after x c (lives m.kernel c)) e ∙ ap (λ (b : Bool). cond b true (lives m.kernel c)) (eq-eqb c c refl)))

    by_act : (act : Act) → ((x : Groups) → groups_told r x ≡ groups_after p act x) → BeginsChild r act → GroupsFit gs p act
    by_act act h1 h2 = grind (arith, nat_tests, child, changed-same)

-- an act that changes no group makes no child
unchanged-fits : (gs : Groups) (p : ℕ) (act : Act) → groups_after p act gs ≡ gs → GroupsFit gs p act
unchanged-fits gs p act h1 = grind (arith, nat_tests, changed-same)

-- instructions alone
plain-rest : KeepsLengths → (g : ℕ) (gs ts : Groups) (until now : ℕ) (owner : ℕ → Owner) (o : Own) (m : Machine) (n p : ℕ) → JointAt g owner gs m o.bodies → RestEnds g gs until now o ts m p (plains n p m ++ [])
plain-rest keeps g gs ts until now owner o m n p h =
    let S = plains n p m ++ [] in
    subst (λ (rs : List Record). StepsEnd g gs until (now + count S) o.inside m (within (until - now) S) S (replayed g until (behind g gs until now o ts m.events (count S) p) rs)) (sym (told-plain (plains n p m) [] plain ∙ told-none)) (by_order (nat_le (until - now) (length (plains n p m))) refl)
  where
    plain : ArePlain (plains n p m)
    plain = plains-plain n p m

    all : count (plains n p m ++ []) ≡ length (plains n p m)
    all = let z = count-none in count-plain (plains n p m) [] plain ∙ omega arith

    kept : Kept m (after_steps m (plains n p m ++ []))
    kept = subst (λ (xs : List Step). Kept m (after_steps m xs)) (sym (append-nil (plains n p m))) (plains-keep n p m)

    ends : (k : ℕ) → min (count (plains n p m ++ [])) (until - now) ≡ k → PlainTo g owner gs p k m o (within (until - now) (plains n p m ++ [])) → StepsEnd g gs until (now + count (plains n p m ++ [])) o.inside m (within (until - now) (plains n p m ++ [])) (plains n p m ++ []) (behind g gs until now o ts m.events (count (plains n p m ++ [])) p)
    ends k e to =
        record {
          owner = owner;
          own = to.own;
          settled = λ event end_event. ap (λ i. alone.plains (slice_at p (count (plains n p m ++ [])) event end_event) 0 (cond (mine gs g p) i 0) o) e ∙ to.runs (count (plains n p m ++ [])) event end_event 0;
          joint = to.joint;
          inside = to.inside;
          events = sym kept.events;
          moment = refl;
          ended = refl;
        }

    by_order : (b : Bool) → nat_le (until - now) (length (plains n p m)) ≡ b → StepsEnd g gs until (now + count (plains n p m ++ [])) o.inside m (within (until - now) (plains n p m ++ [])) (plains n p m ++ []) (behind g gs until now o ts m.events (count (plains n p m ++ [])) p)
    by_order true e =
        let le = leb-true (until - now) (length (plains n p m)) e in
        ends (until - now) (let c = all in omega arith) (subst (PlainTo g owner gs p (until - now) m o) (sym (within-part (until - now) (plains n p m) [] plain tt le)) (plains-joint keeps g owner gs n p m o (until - now) h le))
    by_order false e =
        let lt = leb-false (until - now) (length (plains n p m)) e in
        let len = length (plains n p m) in
        let over : len + (until - now - len) ≡ until - now = omega arith in
        let whole : within (until - now) (plains n p m ++ []) ≡ plains n p m = ap (λ i. within i (plains n p m ++ [])) (sym over) ∙ (within-plain (until - now - len) (plains n p m) [] plain ∙ append-nil (plains n p m)) in
        let to = subst (PlainTo g owner gs p len m o) (take_all len (plains n p m) (le_refl len)) (plains-joint keeps g owner gs n p m o len h (le_refl len)) in
        ends len (let c = all in omega arith) (subst (PlainTo g owner gs p len m o) (sym whole) to)

-- instructions, and then a call or an end
abbrev last_act : Machine → ℕ → List Step → View → Doing → Record → List Step
last_act m p A v d r = A ++ (event_step (after_steps m A) p v d r ∷ [])

-- the end is reached
full-end : KeepsLengths → (g : ℕ) (gs ts : Groups) (until now : ℕ) (owner : ℕ → Owner) (o : Own) (m : Machine) (p : ℕ) (A : List Step) (v : View) (d : Doing) (r : Record) → ArePlain A → Kept m (after_steps m A) → PlainTo g owner gs p (length A) m o A → EventTells (after_steps m A) p v d r → GroupsFit gs p d.act → ts p ≡ gs p → (c : ℕ) → c ≡ suc (length A) → now + c ≤ until
    → StepsEnd g gs until (now + c) o.inside m (within (until - now) (last_act m p A v d r)) (last_act m p A v d r) (after_last g p r (stand o ts m.events (now + c) true (cond (mine gs g p) (min c (until - now)) 0) p c))
full-end keeps g gs ts until now owner o m p A v d r plain kept to t fit same c len early =
    let s = event_step (after_steps m A) p v d r in
    let m2 = after_steps m A in
    let owed : min c (until - now) ≡ suc (length A) = omega arith in
    let there : stand o ts m.events (now + c) true (cond (mine gs g p) (min c (until - now)) 0) p c ≡ stand o ts m2.events (now + c) true (cond (mine gs g p) (suc (length A)) 0) p c =
    ap₂ (λ (e i : ℕ). stand o ts e (now + c) true (cond (mine gs g p) i 0) p c) (sym kept.events) owed in
    let step = ap (after_last g p r) there ∙ end-step g gs ts m2 p v d r o to.own (now + c) (length A) c t to.joint.agrees same to.runs in
    let all : after_steps m (A ++ (s ∷ [])) ≡ s.after = after-append m A (s ∷ []) in
    let j = until - now - c in
    let over : length A + suc j ≡ until - now = omega arith in
    let whole : within (until - now) (A ++ (s ∷ [])) ≡ A ++ (s ∷ []) = ap (λ i. within i (A ++ (s ∷ []))) (sym over) ∙ (within-plain (suc j) A (s ∷ []) plain ∙ ap (λ xs. A ++ xs) (one (is_instruction s.moved.inside) j s)) in
    subst (λ (t : Standing). StepsEnd g gs until (now + c) o.inside m (within (until - now) (A ++ (s ∷ []))) (A ++ (s ∷ [])) t) (sym step)
    (subst (λ (xs : List Step). StepsEnd g gs until (now + c) o.inside m xs (A ++ (s ∷ [])) (stand_after (own_after g gs m2 p v d.act r to.own) (groups_told r ts) m2.events (now + c) p c)) (sym whole)
    (record {
      owner = changed owner m2.events (made_for p (gs p) d.act);
      own = own_after g gs m2 p v d.act r to.own;
      settled = λ event end_event. refl;
      joint = subst (λ (x : Machine). JointAt g (changed owner m2.events (made_for p (gs p) d.act)) gs x (own_after g gs m2 p v d.act r to.own).bodies) (sym all) (event-joint keeps g owner gs m2 p v d r to.own t fit to.joint);
      inside = own-inside g gs m2 p v d r to.own t ∙ (ap (λ xs. xs ++ part gs g s.moved.inside) to.inside ∙ (append_assoc o.inside (parts gs g A) (part gs g s.moved.inside) ∙ ap (λ xs. o.inside ++ xs) (ap (λ xs. parts gs g A ++ xs) (sym (append-nil (part gs g s.moved.inside))) ∙ sym (parts-append gs g A (s ∷ [])))));
      events = ap (λ (x : Machine). x.events) (sym all);
      moment = refl;
      ended = sym (le-leb (now + c) until early);
    }))
  where
    one : (b : Bool) (j : ℕ) (s : Step) → unless_reached b (suc j) (λ left. s ∷ within left []) ≡ s ∷ []
    one b j s = grind (arith, nat_tests)

-- the moment lies before the end
cut-end : (g : ℕ) (gs ts : Groups) (until now : ℕ) (owner : ℕ → Owner) (o : Own) (m : Machine) (p : ℕ) (A : List Step) (v : View) (d : Doing) (r : Record) → ArePlain A → Kept m (after_steps m A) → PlainTo g owner gs p (until - now) m o (take (until - now) A) → is_instruction (event_step (after_steps m A) p v d r).moved.inside ≡ true → (c : ℕ) → c ≡ suc (length A) → until - now ≤ length A → nat_le (now + c) until ≡ false
    → StepsEnd g gs until (now + c) o.inside m (within (until - now) (last_act m p A v d r)) (last_act m p A v d r) (after_last g p r (stand o ts m.events (now + c) false (cond (mine gs g p) (min c (until - now)) 0) p c))
cut-end g gs ts until now owner o m p A v d r h1 h2 h3 h4 c h5 h6 h7 = grind (arith, nat_tests, after-append, within-part)

last-rest : KeepsLengths → (g : ℕ) (gs ts : Groups) (until now : ℕ) (owner : ℕ → Owner) (o : Own) (m : Machine) (n p : ℕ) (s : Step) → now ≤ until → JointAt g owner gs m o.bodies → ts p ≡ gs p → Below gs ts m (plains n p m ++ (s ∷ [])) → LastIs (after_steps m (plains n p m)) p s → RestEnds g gs until now o ts m p (plains n p m ++ (s ∷ []))
last-rest keeps g gs ts until now owner o m n p s early h same below last =
    let A = plains n p m in
    let m2 = after_steps m A in
    let x = event_step m2 p last.view last.doing last.entry in
    let S = A ++ (x ∷ []) in
    let t = behind g gs until now o ts m.events (count S) p in
    let below' = subst (λ (s : Step). Below gs ts m (plains n p m ++ (s ∷ []))) last.is below in
    let told' : told S ≡ last.entry ∷ [] = told-plain A (x ∷ []) plain ∙ (told-more x [] ∙ ap (λ (rs : List Record). last.entry ∷ rs) told-none) in
    let one : count S ≡ suc (length A) = count-plain A (x ∷ []) plain ∙ (ap (λ (k : ℕ). length A + k) (count-more x [] ∙ ap₂ (λ (b : Bool) (k : ℕ). counted b k) (event-counts m2 p last.view last.doing last.entry ∙ last.counted) count-none) ∙ omega arith) in
    let fit = child-fits gs ts m2 p last.view last.doing last.entry last.tells same (λ q l. ap (λ (rs : List Record). groups_from rs ts q) (sym told') ∙ below' q (subst (λ (y : Machine). q < next y) (sym (after-append m A (x ∷ []))) l)) in
    subst (λ (s : Step). RestEnds g gs until now o ts m p (plains n p m ++ (s ∷ []))) (sym last.is)
    (subst (λ (rs : List Record). StepsEnd g gs until (now + count S) o.inside m (within (until - now) S) S (replayed g until t rs)) (sym told')
    (subst (λ (t : Standing). StepsEnd g gs until (now + count S) o.inside m (within (until - now) S) S t) (sym (last.ends g until t))
    (by_order fit (count S) one (nat_le (now + count S) until) refl)))
  where
    plain : ArePlain (plains n p m)
    plain = plains-plain n p m

    kept : Kept m (after_steps m (plains n p m))
    kept = plains-keep n p m

    by_order : GroupsFit gs p last.doing.act → (c : ℕ) → c ≡ suc (length (plains n p m)) → (b : Bool) → nat_le (now + c) until ≡ b → StepsEnd g gs until (now + c) o.inside m (within (until - now) (last_act m p (plains n p m) last.view last.doing last.entry)) (last_act m p (plains n p m) last.view last.doing last.entry) (after_last g p last.entry (stand o ts m.events (now + c) b (cond (mine gs g p) (min c (until - now)) 0) p c))
    by_order fit c len true e =
        let all = length (plains n p m) in
        let to = subst (PlainTo g owner gs p all m o) (take_all all (plains n p m) (le_refl all)) (plains-joint keeps g owner gs n p m o all h (le_refl all)) in
        full-end keeps g gs ts until now owner o m p (plains n p m) last.view last.doing last.entry plain kept to last.tells fit same c len (leb-true (now + c) until e)
    by_order fit c len false e =
        let gt = leb-false (now + c) until e in
        let late : until - now ≤ length (plains n p m) = omega arith in
        cut-end g gs ts until now owner o m p (plains n p m) last.view last.doing last.entry plain kept (plains-joint keeps g owner gs n p m o (until - now) h late) (event-counts (after_steps m (plains n p m)) p last.view last.doing last.entry ∙ last.counted) c len late e

-- what follows a delivery, or stands without one
rest-ends : KeepsLengths → (g : ℕ) (gs ts : Groups) (until now : ℕ) (owner : ℕ → Owner) (o : Own) (m : Machine) (n p : ℕ) (reply : Option Answered) → now ≤ until → JointAt g owner gs m o.bodies → ts p ≡ gs p → Along Known m (plains n p m ++ option_to_list (last_of n p reply m (plains n p m))) → Below gs ts m (plains n p m ++ option_to_list (last_of n p reply m (plains n p m))) → RestEnds g gs until now o ts m p (plains n p m ++ option_to_list (last_of n p reply m (plains n p m)))
rest-ends keeps g gs ts until now owner o m n p reply early h same known below = by_last (last_of n p reply m (plains n p m)) (last-tells m p n reply (plains n p m)) known below
  where
    by_last : (l : Option Step) → IfSome l (λ s. StepTells (after_steps m (plains n p m)) s → LastIs (after_steps m (plains n p m)) p s) → Along Known m (plains n p m ++ option_to_list l) → Below gs ts m (plains n p m ++ option_to_list l) → RestEnds g gs until now o ts m p (plains n p m ++ option_to_list l)
    by_last None k known below = plain-rest keeps g gs ts until now owner o m n p h
    by_last (Some s) k known below =
        let last = k (along-rest Known m (plains n p m) (s ∷ []) known).0.tells in
        last-rest keeps g gs ts until now owner o m n p s early h same below last

-- a standing between two turns
pub record Stood (g : ℕ) (gs : Groups) (now : ℕ) (t : Standing) (m : Machine) : Type 0 where
  pub owner : ℕ → Owner
  pub own : Own
  pub settled : Settles t own
  pub joint : JointAt g owner gs m own.bodies
  pub events : t.events ≡ m.events
  pub moment : t.moment ≡ now

slice-step : (g : ℕ) (gs : Groups) (until now p c : ℕ) (t : Standing) (m : Machine) (h : Stood g gs now t m) → now ≤ until → t.groups p ≡ gs p → after_slice g until p c t ≡ behind g gs until now h.own t.groups m.events c p
slice-step g gs until now p c t m h h1 h2 = grind (arith, nat_tests, le-leb)

abbrev TurnGoal : ℕ → Groups → ℕ → ℕ → ℕ → List Inside → Standing → Machine → List Step → Type 0
TurnGoal g gs until now p heard t m steps = StepsEnd g gs until (now + count steps) heard m (within (until - now) steps) steps (replayed g until (after_slice g until p (count steps) t) (told steps))

-- the records of a turn, whatever happened in it
pub turn-ends : KeepsLengths → (g : ℕ) (gs : Groups) (until now n p : ℕ) (reply : Option Answered) (t : Standing) (m : Machine) (h : Stood g gs now t m) → now ≤ until → t.groups p ≡ gs p → Along Known m (steps_of (turn n p reply m)) → Below gs t.groups m (steps_of (turn n p reply m)) → TurnGoal g gs until now p h.own.inside t m (steps_of (turn n p reply m))
turn-ends keeps g gs until now n p reply t m h early same known below = by_first (delivery_in m p (seen m.bodies p)) (first-tells m p) known below
  where
    with_first : (v : View) (d : Doing) (r : Record) → EventTells m p v d r → ((g until : ℕ) (t : Standing) → after_record g until t r ≡ after_signal g p r t) → is_call_or_end r ≡ false → ((x : Groups) → groups_told r x ≡ x) → ((g e : ℕ) (own : Own) → begins_by g e r own ≡ Makes own) → Along Known m (steps_of (turn_from n p reply (Some (event_step m p v d r)) (event_step m p v d r).after)) → Below gs t.groups m (steps_of (turn_from n p reply (Some (event_step m p v d r)) (event_step m p v d r).after)) → TurnGoal g gs until now p h.own.inside t m (steps_of (turn_from n p reply (Some (event_step m p v d r)) (event_step m p v d r).after))
    with_first v d r tells signals uncounted regroups none known below =
        let s = event_step m p v d r in
        let m1 = s.after in
        let o1 = own_after g gs m p v d.act r h.own in
        let S = plains n p m1 ++ option_to_list (last_of n p reply m1 (plains n p m1)) in
        let c = count S in
        let first = within (until - now) S in
        let owner1 = changed h.owner m.events (made_for p (gs p) d.act) in
        let below1 : Below gs t.groups m1 S = λ q l. sym (ap (λ (rs : List Record). groups_from rs t.groups q) (told-more s S) ∙ ap (λ (x : Groups). groups_from (told S) x q) (regroups t.groups)) ∙ below q l in
        let rest = rest-ends keeps g gs t.groups until now owner1 o1 m1 n p reply early (event-joint keeps g h.owner gs m p v d r h.own tells (unchanged-fits gs p d.act (sym ((event-tale m p v d r tells).groups gs) ∙ regroups gs)) h.joint) same known.1 below1 in
        let same_count : count (s ∷ S) ≡ c = count-more s S ∙ ap (λ (b : Bool). counted b c) (event-counts m p v d r ∙ uncounted) in
        let path : after_record g until (after_slice g until p c t) r ≡ behind g gs until now o1 t.groups m1.events c p =
        ap (λ t. after_record g until t r) (slice-step g gs until now p c t m h early same)
        ∙ (signals g until (behind g gs until now h.own t.groups m.events c p)
        ∙ signal-step g gs t.groups m p v d r h.own (now + c) (nat_le (now + c) until) (cond (mine gs g p) (min c (until - now)) 0) c tells none h.joint.agrees same) in
        let heard : o1.inside ++ parts gs g first ≡ h.own.inside ++ (part gs g s.moved.inside ++ parts gs g first) = ap (λ xs. xs ++ parts gs g first) (own-inside g gs m p v d r h.own tells) ∙ append_assoc h.own.inside (part gs g s.moved.inside) (parts gs g first) in
        let now_within : within (until - now) (s ∷ S) ≡ s ∷ first = ap (λ b. unless_reached b (until - now) (λ left. s ∷ within left S)) (event-counts m p v d r ∙ uncounted) in
        let there : Ends g gs until (now + c) (h.own.inside ++ parts gs g (s ∷ first)) (replayed g until (after_record g until (after_slice g until p c t) r) (told S)) (after_steps m1 first) (after_steps m1 S) =
        subst (λ (t : Standing). Ends g gs until (now + c) (h.own.inside ++ parts gs g (s ∷ first)) (replayed g until t (told S)) (after_steps m1 first) (after_steps m1 S)) (sym path)
        (subst (λ (xs : List Inside). Ends g gs until (now + c) xs (replayed g until (behind g gs until now o1 t.groups m1.events c p) (told S)) (after_steps m1 first) (after_steps m1 S)) heard rest) in
        subst (λ (k : ℕ). StepsEnd g gs until (now + k) h.own.inside m (within (until - now) (s ∷ S)) (s ∷ S) (replayed g until (after_slice g until p k t) (told (s ∷ S)))) (sym same_count)
        (subst (λ (rs : List Record). StepsEnd g gs until (now + c) h.own.inside m (within (until - now) (s ∷ S)) (s ∷ S) (replayed g until (after_slice g until p c t) rs)) (sym (told-more s S))
        (subst (λ (xs : List Step). StepsEnd g gs until (now + c) h.own.inside m xs (s ∷ S) (replayed g until (after_slice g until p c t) (r ∷ told S))) (sym now_within) there))

    by_first : (d : Option Step) → IfSome d (λ s. StepTells m s → FirstIs m p s) → Along Known m (steps_of (turn_from n p reply d (after_first m d))) → Below gs t.groups m (steps_of (turn_from n p reply d (after_first m d))) → TurnGoal g gs until now p h.own.inside t m (steps_of (turn_from n p reply d (after_first m d)))
    by_first None k known below =
        let S = plains n p m ++ option_to_list (last_of n p reply m (plains n p m)) in
        subst (λ (x : Standing). StepsEnd g gs until (now + count S) h.own.inside m (within (until - now) S) S (replayed g until x (told S))) (sym (slice-step g gs until now p (count S) t m h early same)) (rest-ends keeps g gs t.groups until now h.owner h.own m n p reply early h.joint same known below)
    by_first (Some d) k known below =
        let f = k known.0.tells in
        let known' = subst (λ (d : Step). Along Known m (steps_of (turn_from n p reply (Some d) d.after))) f.is known in
        let below' = subst (λ (d : Step). Below gs t.groups m (steps_of (turn_from n p reply (Some d) d.after))) f.is below in
        subst (λ (d : Step). TurnGoal g gs until now p h.own.inside t m (steps_of (turn_from n p reply (Some d) d.after))) (sym f.is) (with_first f.view f.doing f.entry f.tells f.signals f.uncounted f.groups f.begins known' below')
