-- All records, one after the other, as long as they aren't broken.
use Rattle.std.proofs.lemmas.Grind.{common_steps}
use Rattle.std.proofs.Common.{◌≡◌, ℕ, suc, ◌+◌, ◌≤◌, ◌==◌, ◌&&◌, ◌||◌, not, nat_le, if◌then◌else◌, max, length, All, Bool, true, false, List, [], ◌∷◌, ◌++◌, Option, Some, None, IfSome, refl, sym, ap, subst, ◌∙◌, arith}
use Rattle.std.proofs.lemmas.Bool.Decides.{nat_tests}
use Rattle.std.proofs.lemmas.Bool.{eqb-true, eq-eqb, and_parts, leb-true, le-leb, not-false}
use Rattle.arn_base.specs.declared.machine.Cpu.{Cpu}
use Rattle.arn_base.specs.declared.records.Extra.{Extra}
use Rattle.arn_base.specs.declared.records.Extra.TheVariants as extra
use Rattle.arn_base.specs.declared.records.Give.{Give}
use Rattle.arn_base.specs.declared.records.Record.{Record}
use Rattle.arn_base.specs.declared.records.Record.TheVariants as entry
use Rattle.arn_base.specs.declared.records.Start.{Start}
use Rattle.parts_model.specs.declared.limits.TheConstants.{WINDOW_LEN}
use Rattle.acts_model.specs.Acts.{Delivers, Dies, Faults, beginning_in, unborn}
use Rattle.acts_model.specs.Bodies.{View, body_at, put, seen}
use Rattle.acts_model.specs.Disagreement.{Wrong, wrong_with}
use Rattle.acts_model.specs.Records.{child_forked, life_told, lives_after}
use Rattle.acts_model.specs.Told.{act_of, call_act, delivery_act, kind_of}
use Rattle.acts_model.specs.Views.{stands_at}
use Rattle.history_model.specs.Alone.{Own, Made, Makes, Standing, act_done, after_boot, after_last, after_record, after_signal, after_slice, at_first, begins, boots, happens, made_if, replayed, settled, unless_wrong}
use Rattle.history_model.specs.Alone as alone
use Rattle.history_model.specs.Broken.{Behind, Nowhere, ASlice, ADelivery, behind, behind_from, behind_record, behind_signal, broken_from, child_in, first_broken, greatest, greatest_after, has_blocks_wrong, is_behind, misnumbers, start_in}
use Rattle.history_model.specs.Groups.{Groups, group_made, groups_from, groups_told, is_number}
use Rattle.history_model.specs.Moments.{Numbered, changed, events_from, if_happened, lives_by, segments_by, segments_told, total}
use Rattle.history_model.specs.Names.{is_boot, is_booted}
use Rattle.window_laws.specs.Blocks.{HasWholeBlocks}
use Rattle.past_lives.proofs.Does.{Does, IsFounded, call-does, end-does, signal-does}
use Rattle.past_lives.proofs.Records.{Stands, follows, greatest-append}
use Rattle.past_lives.proofs.Sizes.{HasSizes, blocks-len, zeros-len}
use Rattle.past_lives.proofs.Sound.{nobody-sound}
use Rattle.past_lives.proofs.Standing.{Ends, Happening, and_then-ends, child-after, ends-ends, happens-ends, held_if, is-new, last-made, live_if, more-after, number-tells, number-told, settled-ends, stranger-state, told-child}
use Rattle.past_lives.proofs.Steps.{State, begins-state, boot-state, live_after, sounds-later, starts-well}
use Rattle.past_lives.proofs.Tells.{IsChild, Tells, other-lives}
use Rattle.window_laws.specs.Lengths.{KeepsLengths}

-- who lives behind records, all of whose events have happened

abbrev pub lived : List Record → ℕ → Bool → Bool
lived [] p before = before
lived (e ∷ entries) p before = lived entries p (lives_after (life_told e) p before)

pub lived-append : (entries : List Record) (e : Record) (p : ℕ) (before : Bool) → lived (entries ++ e ∷ []) p before ≡ lives_after (life_told e) p (lived entries p before)
lived-append [] e p before = refl
lived-append (x ∷ entries) e p before = lived-append entries e p (lives_after (life_told x) p before)

pub lives-all : (moment begins ends k : ℕ) (entries : List Record) (p : ℕ) (live : Bool) → begins ≤ ends → ends + total entries ≤ moment → lives_by (events_from moment begins ends k entries) p live ≡ lived entries p live
lives-all moment begins ends k [] p live le past = refl
lives-all moment begins ends k (entry.Slice pid ran ∷ entries) p live le past = lives-all moment ends (ends + ran) k entries p live (omega arith) (omega (arith, past))
lives-all moment begins ends k (entry.Signal pid signal cut handler ∷ entries) p live le past = grind (arith, nat_tests, le-leb begins moment (omega (arith, le, past)), lives-all moment begins ends (k + 1) entries p (lives_after (life_told (entry.Signal pid signal cut handler)) p live) le (omega (arith, past)))
lives-all moment begins ends k (e ∷ entries) p live le past = grind (arith, nat_tests, le-leb ends moment (omega (arith, past)), lives-all moment begins ends (k + 1) entries p (lives_after (life_told e) p live) le (omega (arith, past)))

-- groups have numbers of processes

abbrev AreFounded : ℕ → Groups → Type 0
AreFounded most groups = (p : ℕ) → IfSome (groups p) (λ m. m ≤ most)

founded-later : (n m : ℕ) (groups : Groups) → n ≤ m → AreFounded n groups → AreFounded m groups
founded-later n m groups h1 h2 = grind (arith, nat_tests)

changed-founded : (n : ℕ) (groups : Groups) (child : ℕ) (o : Option ℕ) → IfSome o (λ m. m ≤ n) → AreFounded n groups → AreFounded n (changed groups child o)
changed-founded n groups child o h1 h2 = grind (arith, nat_tests)

forked-founded : (n pid child : ℕ) (more : Extra) (groups : Groups) → child ≤ n → AreFounded n groups → AreFounded n (group_made pid (Some (child_forked child more)) groups)
forked-founded n pid child (extra.Start start) groups le h = changed-founded n groups child (Some child) le h
forked-founded n pid child more groups le h = changed-founded n groups child (groups pid) (h pid) h

called-founded : (n pid number result : ℕ) (more : Extra) (groups : Groups) → AreFounded n groups → AreFounded (greatest_after (entry.Call pid number result more) n) (groups_told (entry.Call pid number result more) groups)
called-founded n pid number result more groups h1 = grind (arith, nat_tests, forked-founded, founded-later)

module _ (W : Type 0) (keeps : W → KeepsLengths) (g until : ℕ) where
  -- a standing behind records: where the open slice is, what the greatest number of a process is, who lives behind them all, and whether
  -- a process was made; and what was told of the events that have happened
  record Reached (b : Behind) (most : ℕ) (past : ℕ → Bool) (booted : Bool) (begins : ℕ) (live : ℕ → Bool) (held : ℕ → Option ℕ) (t : Standing) : Type 0 where
    made : Ends (State W g t.events most t.groups live held) t.made
    slice : (pid : ℕ) → is_behind pid b ≡ true → t.pid ≡ pid
    alive : nat_le begins until ≡ true → (pid : ℕ) → is_behind pid b ≡ true → live pid ≡ true
    groups : AreFounded most t.groups
    begun : t.is_begun ≡ nat_le begins until
    ended : t.is_ended ≡ nat_le t.moment until
    order : begins ≤ t.moment
    known : nat_le t.moment until ≡ true → (p : ℕ) → past p ≡ live p
    unbooted : booted ≡ false → t.moment ≡ 0

  lower : (a c : ℕ) → a ≤ c → nat_le c until ≡ true → nat_le a until ≡ true
  lower a c le is = let high = leb-true c until is in le-leb a until (omega arith)

  no_slice : (pid p : ℕ) → is_behind p Nowhere ≡ true → pid ≡ p
  no_slice pid p e = absurd (cc)

  past-next : (h : Bool) (e : Record) (past live : ℕ → Bool) → h ≡ true → ((p : ℕ) → past p ≡ live p) → (p : ℕ) → lives_after (life_told e) p (past p) ≡ live_if h e live p
  past-next true e past live is k p = ap (lives_after (life_told e) p) (k p)
  past-next false e past live is k p = absurd (cc)

  slice-reached : (pid ran : ℕ) (b : Behind) (most : ℕ) (past : ℕ → Bool) (booted : Bool) (begins : ℕ) (live : ℕ → Bool) (held : ℕ → Option ℕ) (t : Standing) → past pid ≡ true → booted ≡ true
      → Reached b most past booted begins live held t → Reached (ASlice pid) most past booted t.moment live held (after_slice g until pid ran t)
  slice-reached pid ran b most past booted begins live held t h1 h2 h3 = grind (arith, nat_tests, settled-ends W keeps g t.events most t.groups live held t, eqb-true, lower)

  -- a delivery
  delivered-behind : (p pid handler : ℕ) (b : Behind) → ((q : ℕ) → is_behind q b ≡ true → p ≡ q) → (q : ℕ) → is_behind q (behind_signal pid handler b) ≡ true → (p ≡ q) × (is_behind pid b ≡ true) × (pid ≡ q) × (not (handler == 0) ≡ true)
  delivered-behind p pid handler (ASlice at) h q e = by_test ((at == pid) && not (handler == 0)) refl e
    where
      by_test : (t : Bool) → ((at == pid) && not (handler == 0)) ≡ t → is_behind q (if t then ADelivery pid else Nowhere) ≡ true → (p ≡ q) × (is_behind pid (ASlice at) ≡ true) × (pid ≡ q) × (not (handler == 0) ≡ true)
      by_test t h1 h2 = grind (arith, nat_tests, and_parts, eqb-true)
  delivered-behind p pid handler Nowhere h q e = absurd (cc)
  delivered-behind p pid handler (ADelivery at) h q e = absurd (cc)

  delivers-alive : (pid signal : ℕ) (cut : Bool) (handler : ℕ) (live : ℕ → Bool) (h : Bool) (q : ℕ) → not (handler == 0) ≡ true → live q ≡ true → live_if h (entry.Signal pid signal cut handler) live q ≡ true
  delivers-alive pid signal cut handler live h q h1 h2 = grind (arith, nat_tests)

  signal-made : (pid signal : ℕ) (cut : Bool) (handler : ℕ) (most : ℕ) (live : ℕ → Bool) (held : ℕ → Option ℕ) (t : Standing) → (t.is_begun ≡ true → live pid ≡ true)
      → Ends (State W g t.events most t.groups live held) t.made
      → Ends (State W g (t.events + 1) most t.groups (live_if t.is_begun (entry.Signal pid signal cut handler) live) held) (after_signal g pid (entry.Signal pid signal cut handler) t).made
  signal-made pid signal cut handler most live held t alive made = by_tests t.is_begun (is_number g (t.groups pid)) refl refl
    where
      e : Record
      e = entry.Signal pid signal cut handler

      plain : (handler : ℕ) → IsChild most most (delivery_act signal handler cut)
      plain handler = by_test (handler == 0)
        where
          by_test : (b : Bool) → IsChild most most (if b then Dies signal cut else Delivers signal handler cut)
          by_test true = tt
          by_test false = tt

      happening : Happening t.events most most pid e
      happening = record { act = λ cpu. delivery_act signal handler cut; tells = λ cpu. refl; does = λ cpu. signal-does t.events pid signal cut handler; child = λ cpu. plain handler }

      unfounded : IsFounded g e → ⊥
      unfounded f = let no = f.1 in cc

      by_tests : (begun member : Bool) → t.is_begun ≡ begun → is_number g (t.groups pid) ≡ member
          → Ends (State W g (t.events + 1) most t.groups (live_if begun e live) held) (made_if (begun && member) t.made (happens pid t.events e))
      by_tests false member k n =
          ends-ends (State W g t.events most t.groups live held) (State W g (t.events + 1) most t.groups live held) t.made made
          (λ own s. record { lives = s.lives; sounds = λ w. sounds-later t.events (t.events + 1) own.bodies (omega arith) (s.sounds w) })
      by_tests true true k n =
          and_then-ends (State W g t.events most t.groups live held) (State W g (t.events + 1) most t.groups (live_after e live) held) t.made (happens pid t.events e) made
          (λ own s. happens-ends W keeps g t.events most most pid t.groups live held e own (omega arith) happening unfounded (number-tells g (t.groups pid) n) (alive k) s)
      by_tests true false k n =
          ends-ends (State W g t.events most t.groups live held) (State W g (t.events + 1) most t.groups (live_after e live) held) t.made made
          (λ own s. stranger-state W g t.events most most pid t.groups live held e own (omega arith) happening unfounded (number-told g (t.groups pid) n) s)

  signal-reached : (pid signal : ℕ) (cut : Bool) (handler : ℕ) (b : Behind) (most : ℕ) (past : ℕ → Bool) (booted : Bool) (begins : ℕ) (live : ℕ → Bool) (held : ℕ → Option ℕ) (t : Standing) → is_behind pid b ≡ true
      → Reached b most past booted begins live held t
      → Reached (behind_signal pid handler b) most (λ p. lives_after (life_told (entry.Signal pid signal cut handler)) p (past p)) booted begins
      (live_if (nat_le begins until) (entry.Signal pid signal cut handler) live) held (after_signal g pid (entry.Signal pid signal cut handler) t)
  signal-reached pid signal cut handler b most past booted begins live held t own r =
      let e : Record = entry.Signal pid signal cut handler in
      record {
        made = subst (λ (h : Bool). Ends (State W g (t.events + 1) most t.groups (live_if h e live) held) (after_signal g pid e t).made) r.begun
            (signal-made pid signal cut handler most live held t (λ k. r.alive (sym r.begun ∙ k) pid own) r.made);
        slice = λ q k. (delivered-behind t.pid pid handler b r.slice q k).0;
        alive = λ k q l. (let parts = delivered-behind t.pid pid handler b r.slice q l in
            let is : live pid ≡ true = r.alive k pid parts.1 in
            delivers-alive pid signal cut handler live (nat_le begins until) q parts.3 (ap live (sym parts.2) ∙ is));
        groups = r.groups;
        begun = r.begun;
        ended = r.ended;
        order = r.order;
        known = λ k p. past-next (nat_le begins until) e past live (lower begins t.moment r.order k) (r.known k) p;
        unbooted = r.unbooted;
      }

  -- the last of a slice
  of-slice : (pid : ℕ) (b : Behind) (p : ℕ) → not (is_behind pid b) ≡ false → ((q : ℕ) → is_behind q b ≡ true → p ≡ q) → p ≡ pid
  of-slice pid b p e h = h pid (not-false (is_behind pid b) e)

  window-len : (e : Record) (start : Start) → has_blocks_wrong (start_in e) ≡ false → HasWholeBlocks e → start_in e ≡ Some start → length (beginning_in start).window ≡ WINDOW_LEN
  window-len e start h1 h2 h3 = grind (arith, nat_tests, blocks-len, not-false, zeros-len)

  fresh : (before : List Record) (pid : ℕ) (e : Record) (groups : Groups) → misnumbers before (child_in e) ≡ false → AreFounded (greatest before) groups → groups pid ≡ Some g → IsFounded g e → ⊥
  fresh before pid e groups h1 h2 h3 h4 = grind (arith, nat_tests, is-new)

  call-reached : (pid number result : ℕ) (more : Extra) (before : List Record) (past : ℕ → Bool) (booted : Bool) (begins : ℕ) (live : ℕ → Bool) (held : ℕ → Option ℕ) (t : Standing) → Stands before (entry.Call pid number result more)
      → (W → HasWholeBlocks (entry.Call pid number result more)) → Reached (behind before) (greatest before) past booted begins live held t
      → Reached Nowhere (greatest_after (entry.Call pid number result more) (greatest before)) (λ p. lives_after (life_told (entry.Call pid number result more)) p (past p)) booted begins
      (live_if (nat_le t.moment until) (entry.Call pid number result more) live) (held_if (nat_le t.moment until) t.events (entry.Call pid number result more) held) (after_last g pid (entry.Call pid number result more) t)
  call-reached pid number result more before past booted begins live held t checks whole r =
      let e : Record = entry.Call pid number result more in
      let most = greatest before in
      let same = of-slice pid (behind before) t.pid checks.slice r.slice in
      let does = λ (cpu : Cpu). subst (λ (p : ℕ). Does t.events p e (call_act (kind_of number) cpu result more)) (sym same) (call-does t.events pid number result more cpu) in
      record {
        made = subst (λ (h : Bool). Ends (State W g (t.events + 1) (greatest_after e most) (groups_told e t.groups) (live_if h e live) (held_if h t.events e held)) (after_last g pid e t).made) r.ended
            (last-made W keeps g pid most (greatest_after e most) live held e t (record {
              more = more-after e most;
              same = same;
              happening = record { act = λ cpu. call_act (kind_of number) cpu result more; tells = λ cpu. refl; does = does; child = λ cpu. told-child before e _ checks.numbers (does cpu).told };
              none = λ made. tt;
              unfounded = fresh before pid e t.groups checks.numbers r.groups;
              alive = λ k. r.alive (lower begins t.moment r.order (sym r.ended ∙ k)) pid (not-false (is_behind pid (behind before)) checks.slice);
              begin = λ own start starts f s.
                  begins-state W g t.events most (greatest_after e most) pid number result more t.groups live held start own (more-after e most)
                  (let new = is-new before e g checks.numbers f.0 in let le = founded-child f.0 in le) f (λ w. window-len e start checks.blocks (whole w) starts) s;
              made = r.made;
            }));
        slice = no_slice t.pid;
        alive = λ k q l. absurd (cc);
        groups = called-founded most pid number result more t.groups r.groups;
        begun = r.begun;
        ended = r.ended;
        order = r.order;
        known = λ k p. past-next (nat_le t.moment until) e past live k (r.known k) p;
        unbooted = r.unbooted;
      }
    where
      founded-child : child_in (entry.Call pid number result more) ≡ Some g → g ≤ greatest_after (entry.Call pid number result more) (greatest before)
      founded-child c = child-after (entry.Call pid number result more) (greatest before) g c

  end-reached : (pid status : ℕ) (before : List Record) (past : ℕ → Bool) (booted : Bool) (begins : ℕ) (live : ℕ → Bool) (held : ℕ → Option ℕ) (t : Standing) → Stands before (entry.End pid status)
      → Reached (behind before) (greatest before) past booted begins live held t
      → Reached Nowhere (greatest before) (λ p. lives_after (life_told (entry.End pid status)) p (past p)) booted begins
      (live_if (nat_le t.moment until) (entry.End pid status) live) (held_if (nat_le t.moment until) t.events (entry.End pid status) held) (after_last g pid (entry.End pid status) t)
  end-reached pid status before past booted begins live held t checks r =
      let e : Record = entry.End pid status in
      let most = greatest before in
      let same = of-slice pid (behind before) t.pid checks.slice r.slice in
      record {
        made = subst (λ (h : Bool). Ends (State W g (t.events + 1) most (groups_told e t.groups) (live_if h e live) (held_if h t.events e held)) (after_last g pid e t).made) r.ended
            (last-made W keeps g pid most most live held e t (record {
              more = omega arith;
              same = same;
              happening = record { act = λ cpu. Faults status; tells = λ cpu. refl; does = λ cpu. subst (λ (p : ℕ). Does t.events p e (Faults status)) (sym same) (end-does t.events pid status); child = λ cpu. tt };
              none = λ made. tt;
              unfounded = λ is f. (let no = f.1 in cc);
              alive = λ k. r.alive (lower begins t.moment r.order (sym r.ended ∙ k)) pid (not-false (is_behind pid (behind before)) checks.slice);
              begin = λ own start starts f s. absurd (let no = f.1 in cc);
              made = r.made;
            }));
        slice = no_slice t.pid;
        alive = λ k q l. absurd (cc);
        groups = r.groups;
        begun = r.begun;
        ended = r.ended;
        order = r.order;
        known = λ k p. past-next (nat_le t.moment until) e past live k (r.known k) p;
        unbooted = r.unbooted;
      }

  -- the boot
  boots-ends : (most : ℕ) (groups : Groups) (live : ℕ → Bool) (held : ℕ → Option ℕ) (event : ℕ) (name : List ℕ) (give : Give) (own : Own) → State W g event most groups live held own
      → Ends (State W g (event + 1) (max most 1) (groups_told (entry.Boot name give) groups) (live_after (entry.Boot name give) live) (segments_told event (entry.Boot name give) held)) (boots event (entry.Boot name give) own)
  boots-ends most groups live held event name give own s = by_wrong (wrong_with (unborn event) (stands_at (unborn event)) (entry.Boot name give)) refl
    where
      by_wrong : (w : Option Wrong) → wrong_with (unborn event) (stands_at (unborn event)) (entry.Boot name give) ≡ w
          → Ends (State W g (event + 1) (max most 1) (groups_told (entry.Boot name give) groups) (live_after (entry.Boot name give) live) (segments_told event (entry.Boot name give) held))
          (unless_wrong event w (act_done 1 event (entry.Boot name give) (unborn event) (act_of (unborn event).body.cpu (entry.Boot name give)) (record own { bodies = put 1 (unborn event) own.bodies })))
      by_wrong None w = boot-state W keeps g event most groups live held name give own (starts-well (unborn event) give.bytes 0 0 extra.Nothing w).0 s _ refl
      by_wrong (Some wrong) w = tt

  boot-made : (name : List ℕ) (give : Give) (most : ℕ) (live : ℕ → Bool) (held : ℕ → Option ℕ) (t : Standing) → t.is_ended ≡ true → Ends (State W g t.events most t.groups live held) t.made
      → Ends (State W g (t.events + 1) (max most 1) (groups_told (entry.Boot name give) t.groups) (live_after (entry.Boot name give) live) (segments_told t.events (entry.Boot name give) held)) (after_boot g (entry.Boot name give) t).made
  boot-made name give most live held t ended made = by_tests t.is_ended (g == 1) ended refl
    where
      e : Record
      e = entry.Boot name give

      other : (g == 1) ≡ false → Some 1 ≡ Some g → ⊥
      other n is = let same = one-number is in let here = eq-eqb g 1 (sym same) in cc
        where
          one-number : Some 1 ≡ Some g → 1 ≡ g
          one-number k = cc

      by_tests : (b c : Bool) → b ≡ true → (g == 1) ≡ c
          → Ends (State W g (t.events + 1) (max most 1) (groups_told e t.groups) (live_after e live) (segments_told t.events e held)) (made_if (b && c) t.made (boots t.events e))
      by_tests true true k n =
          and_then-ends (State W g t.events most t.groups live held) (State W g (t.events + 1) (max most 1) (groups_told e t.groups) (live_after e live) (segments_told t.events e held)) t.made (boots t.events e) made
          (λ own s. boots-ends most t.groups live held t.events name give own s)
      by_tests true false k n =
          ends-ends (State W g t.events most t.groups live held) (State W g (t.events + 1) (max most 1) (groups_told e t.groups) (live_after e live) (segments_told t.events e held)) t.made made
          (λ own s. record {
            lives = other-lives g t.groups (Some 1) most (max most 1) live held own.bodies 1 None (omega arith) (omega arith) (other n) s.lives;
            sounds = λ w. sounds-later t.events (t.events + 1) own.bodies (omega arith) (s.sounds w);
          })
      by_tests false c k n = absurd (cc)

  boot-reached : (name : List ℕ) (give : Give) (b : Behind) (most : ℕ) (past : ℕ → Bool) (booted : Bool) (begins : ℕ) (live : ℕ → Bool) (held : ℕ → Option ℕ) (t : Standing) → booted ≡ false
      → Reached b most past booted begins live held t
      → Reached Nowhere (max most 1) (λ p. lives_after (life_told (entry.Boot name give)) p (past p)) (booted || true) begins
      (live_if (nat_le t.moment until) (entry.Boot name give) live) (held_if (nat_le t.moment until) t.events (entry.Boot name give) held) (after_boot g (entry.Boot name give) t)
  boot-reached name give b most past booted begins live held t none r =
      let e : Record = entry.Boot name give in
      let zero_moment = r.unbooted none in
      let ended : nat_le t.moment until ≡ true = le-leb t.moment until (omega arith) in
      record {
        made = subst (λ (h : Bool). Ends (State W g (t.events + 1) (max most 1) (groups_told e t.groups) (live_if h e live) (held_if h t.events e held)) (after_boot g e t).made) (sym ended)
            (boot-made name give most live held t (r.ended ∙ ended) r.made);
        slice = no_slice t.pid;
        alive = λ k q l. absurd (cc);
        groups = changed-founded (max most 1) t.groups 1 (Some 1) (omega arith) (founded-later most (max most 1) t.groups (omega arith) r.groups);
        begun = r.begun;
        ended = r.ended;
        order = r.order;
        known = λ k p. past-next (nat_le t.moment until) e past live k (r.known k) p;
        unbooted = λ k. zero_moment;
      }

  -- one record more

  abbrev next_begins : Record → ℕ → ℕ → ℕ
  next_begins (entry.Slice pid ran) begins moment = moment
  next_begins other begins moment = begins

  -- whether an event has happened, where the slice at hand begins and ends at these
  abbrev has_happened : Record → ℕ → ℕ → Bool
  has_happened (entry.Signal pid signal cut handler) begins moment = nat_le begins until
  has_happened other begins moment = nat_le moment until

  abbrev next_live : Record → ℕ → ℕ → (ℕ → Bool) → ℕ → Bool
  next_live (entry.Slice pid ran) begins moment live = live
  next_live e begins moment live = live_if (has_happened e begins moment) e live

  abbrev next_held : Record → ℕ → ℕ → ℕ → (ℕ → Option ℕ) → ℕ → Option ℕ
  next_held (entry.Slice pid ran) begins moment n held = held
  next_held e begins moment n held = held_if (has_happened e begins moment) n e held

  abbrev Next : List Record → Record → ℕ → (ℕ → Bool) → (ℕ → Option ℕ) → Standing → Type 0
  Next before e begins live held t =
      Reached (behind_record (behind before) e) (greatest_after e (greatest before)) (λ p. lives_after (life_told e) p (lived before p false)) (is_booted before || is_boot e)
      (next_begins e begins t.moment) (next_live e begins t.moment live) (next_held e begins t.moment t.events held) (after_record g until t e)

  -- the same standing, with other words for what is told
  reached-as : (b : Behind) (most : ℕ) (past past' : ℕ → Bool) (booted booted' : Bool) (begins : ℕ) (live live' : ℕ → Bool) (held held' : ℕ → Option ℕ) (t : Standing)
      → ((p : ℕ) → past' p ≡ past p) → booted' ≡ booted → live' ≡ live → held' ≡ held → Reached b most past booted begins live held t → Reached b most past' booted' begins live' held' t
  reached-as b most past past' booted booted' begins live live' held held' t h1 h2 h3 h4 h5 = grind (arith, nat_tests)

  or-none : (a : Bool) → (a || false) ≡ a
  or-none true = refl
  or-none false = refl

  live-none : (h : Bool) (e : Record) (live : ℕ → Bool) → ((p : ℕ) (before : Bool) → lives_after (life_told e) p before ≡ before) → live_if h e live ≡ live
  live-none true e live f = λ i. λ p. f p (live p) i
  live-none false e live f = refl

  held-none : (h : Bool) (n : ℕ) (e : Record) (held : ℕ → Option ℕ) → ((p : ℕ) → segments_told n e held p ≡ held p) → held_if h n e held ≡ held
  held-none true n e held f = λ i. λ p. f p i
  held-none false n e held f = refl

  nothing-next : (before : List Record) (e : Record) (begins : ℕ) (live : ℕ → Bool) (held : ℕ → Option ℕ) (t : Standing) (h : Bool)
      → ((p : ℕ) (before : Bool) → lives_after (life_told e) p before ≡ before) → ((p : ℕ) → segments_told t.events e held p ≡ held p)
      → Reached (behind before) (greatest before) (λ p. lived before p false) (is_booted before) begins live held t
      → Reached Nowhere (greatest before) (λ p. lives_after (life_told e) p (lived before p false)) (is_booted before || false) begins (live_if h e live) (held_if h t.events e held) (record t { events = t.events + 1 })
  nothing-next before e begins live held t h lives segments r = grind (arith, or-none (is_booted before), live-none h e live lives, held-none h t.events e held segments)

  runs-alive : (before : List Record) (pid ran : ℕ) → Stands before (entry.Slice pid ran) → lived before pid false ≡ true
  runs-alive before pid ran h1 = grind (arith, nat_tests, lives-all, not-false)

  record-reached : (before : List Record) (e : Record) (begins : ℕ) (live : ℕ → Bool) (held : ℕ → Option ℕ) (t : Standing) → Stands before e → (W → HasWholeBlocks e)
      → Reached (behind before) (greatest before) (λ p. lived before p false) (is_booted before) begins live held t → Next before e begins live held t
  record-reached before (entry.Boot name give) begins live held t checks whole r =
      boot-reached name give (behind before) (greatest before) (λ p. lived before p false) (is_booted before) begins live held t checks.comes r
  record-reached before (entry.Slice pid ran) begins live held t checks whole r =
      reached-as (ASlice pid) (greatest before) (λ p. lived before p false) (λ p. lived before p false) (is_booted before) (is_booted before || false) t.moment live live held held (after_slice g until pid ran t)
      (λ p. refl) (or-none (is_booted before)) refl refl
      (slice-reached pid ran (behind before) (greatest before) (λ p. lived before p false) (is_booted before) begins live held t (runs-alive before pid ran checks) (not-false (is_booted before) checks.comes) r)
  record-reached before (entry.Signal pid signal cut handler) begins live held t checks whole r =
      let e : Record = entry.Signal pid signal cut handler in
      reached-as (behind_signal pid handler (behind before)) (greatest before) (λ p. lives_after (life_told e) p (lived before p false)) (λ p. lives_after (life_told e) p (lived before p false)) (is_booted before) (is_booted before || false) begins
      (live_if (nat_le begins until) e live) (live_if (nat_le begins until) e live) held (held_if (nat_le begins until) t.events e held) (after_signal g pid e t)
      (λ p. refl) (or-none (is_booted before)) refl (held-none (nat_le begins until) t.events e held (λ p. refl))
      (signal-reached pid signal cut handler (behind before) (greatest before) (λ p. lived before p false) (is_booted before) begins live held t (not-false (is_behind pid (behind before)) checks.slice) r)
  record-reached before (entry.Call pid number result more) begins live held t checks whole r =
      let e : Record = entry.Call pid number result more in
      reached-as Nowhere (greatest_after e (greatest before)) (λ p. lives_after (life_told e) p (lived before p false)) (λ p. lives_after (life_told e) p (lived before p false)) (is_booted before) (is_booted before || false) begins
      (live_if (nat_le t.moment until) e live) (live_if (nat_le t.moment until) e live) (held_if (nat_le t.moment until) t.events e held) (held_if (nat_le t.moment until) t.events e held) (after_last g pid e t)
      (λ p. refl) (or-none (is_booted before)) refl refl
      (call-reached pid number result more before (λ p. lived before p false) (is_booted before) begins live held t checks whole r)
  record-reached before (entry.End pid status) begins live held t checks whole r =
      let e : Record = entry.End pid status in
      reached-as Nowhere (greatest before) (λ p. lives_after (life_told e) p (lived before p false)) (λ p. lives_after (life_told e) p (lived before p false)) (is_booted before) (is_booted before || false) begins
      (live_if (nat_le t.moment until) e live) (live_if (nat_le t.moment until) e live) (held_if (nat_le t.moment until) t.events e held) (held_if (nat_le t.moment until) t.events e held) (after_last g pid e t)
      (λ p. refl) (or-none (is_booted before)) refl refl
      (end-reached pid status before (λ p. lived before p false) (is_booted before) begins live held t checks r)
  record-reached before x begins live held t checks whole r = nothing-next before x begins live held t (nat_le t.moment until) (λ p b. refl) (λ p. refl) r

  pub behind-append : (b : Behind) (rs : List Record) (e : Record) → behind_from b (rs ++ e ∷ []) ≡ behind_record (behind_from b rs) e
  behind-append b [] e = refl
  behind-append b (r ∷ rs) e = behind-append (behind_record b r) rs e

  booted-append : (rs : List Record) (e : Record) → is_booted (rs ++ e ∷ []) ≡ (is_booted rs || is_boot e)
  booted-append rs e = grind (arith, common_steps, nat_tests, or-none)

  next-reached : (before : List Record) (e : Record) (begins : ℕ) (live : ℕ → Bool) (held : ℕ → Option ℕ) (t : Standing) → Next before e begins live held t
      → Reached (behind (before ++ e ∷ [])) (greatest (before ++ e ∷ [])) (λ p. lived (before ++ e ∷ []) p false) (is_booted (before ++ e ∷ []))
      (next_begins e begins t.moment) (next_live e begins t.moment live) (next_held e begins t.moment t.events held) (after_record g until t e)
  next-reached before e begins live held t h1 = grind (arith, nat_tests, behind-append, booted-append, greatest-append, lived, lived-append, next_begins)

  -- what comes out in the end

  abbrev Told : Groups → List Numbered → (ℕ → Bool) → (ℕ → Option ℕ) → Own → Type 0
  Told groups events live held own =
      ((p : ℕ) → groups p ≡ Some g → Tells (body_at own.bodies p) (lives_by events p (live p)) (segments_by events held p)) × (W → (p : ℕ) (v : View) → seen own.bodies p ≡ Some v → HasSizes v)

  lives-if : (h : Bool) (n : ℕ) (e : Record) (events : List Numbered) (live : ℕ → Bool) (p : ℕ) → lives_by (if_happened h n e events) p (live p) ≡ lives_by events p (live_if h e live p)
  lives-if true n e events live p = refl
  lives-if false n e events live p = refl

  segments-if : (h : Bool) (n : ℕ) (e : Record) (events : List Numbered) (held : ℕ → Option ℕ) (p : ℕ) → segments_by (if_happened h n e events) held p ≡ segments_by events (held_if h n e held) p
  segments-if true n e events held p = refl
  segments-if false n e events held p = refl

  told-if : (h : Bool) (n : ℕ) (e : Record) (groups : Groups) (events : List Numbered) (live : ℕ → Bool) (held : ℕ → Option ℕ) (made : Made)
      → Ends (Told groups events (live_if h e live) (held_if h n e held)) made → Ends (Told groups (if_happened h n e events) live held) made
  told-if h n e groups events live held made h1 = grind (arith, nat_tests, ends-ends, held_if, live_if, lives-if, segments-if)

  told-next : (e : Record) (rest : List Record) (begins : ℕ) (live : ℕ → Bool) (held : ℕ → Option ℕ) (t : Standing) (made : Made)
      → Ends (Told (groups_from rest (after_record g until t e).groups) (events_from until (next_begins e begins t.moment) (after_record g until t e).moment (after_record g until t e).events rest)
      (next_live e begins t.moment live) (next_held e begins t.moment t.events held)) made
      → Ends (Told (groups_from (e ∷ rest) t.groups) (events_from until begins t.moment t.events (e ∷ rest)) live held) made
  told-next e rest begins live held t made h1 = grind (arith, nat_tests, told-if)

  all-told : (rest before : List Record) (begins : ℕ) (live : ℕ → Bool) (held : ℕ → Option ℕ) (t : Standing) → broken_from before rest ≡ None → (W → All HasWholeBlocks rest)
      → Reached (behind before) (greatest before) (λ p. lived before p false) (is_booted before) begins live held t
      → Ends (Told (groups_from rest t.groups) (events_from until begins t.moment t.events rest) live held) (settled (replayed g until t rest))
  all-told [] before begins live held t broken whole r = grind (arith, nat_tests, settled-ends W keeps g t.events (greatest before) t.groups live held)
  all-told (e ∷ rest) before begins live held t broken whole r =
      let more = follows before e rest broken in
      let first = record-reached before e begins live held t more.0 (λ w. whole w 0 e (omega arith)) r in
      told-next e rest begins live held t (settled (replayed g until (after_record g until t e) rest))
      (all-told rest (before ++ e ∷ []) (next_begins e begins t.moment) (next_live e begins t.moment live) (next_held e begins t.moment t.events held) (after_record g until t e) more.1
      (λ w i d l. whole w (suc i) d (omega arith)) (next-reached before e begins live held t first))

  first-reached : Reached Nowhere 0 (λ p. false) false 0 (λ p. false) (λ p. None) at_first
  first-reached = grind (arith, nobody-sound 0, le-leb 0 until (omega arith))

  pub alone-told : (entries : List Record) (own : Own) → first_broken entries ≡ None → (W → All HasWholeBlocks entries) → alone.alone entries g until ≡ Makes own
      → Told (groups_from entries (λ p. None)) (events_from until 0 0 0 entries) (λ p. false) (λ p. None) own
  alone-told entries own broken whole is =
      subst (Ends (Told (groups_from entries (λ p. None)) (events_from until 0 0 0 entries) (λ p. false) (λ p. None))) is (all-told entries [] 0 (λ p. false) (λ p. None) at_first broken whole first-reached)
