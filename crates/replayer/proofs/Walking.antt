-- How a group's slices are run, one after the other.
use Rattle.std.proofs.lemmas.Grind.{common_steps}
use Rattle.std.proofs.lemmas.Bool.Decides.{nat_tests}
use Rattle.std.proofs.Common.{◌≡◌, ◌<◌, ◌≤◌, ℕ, zero, suc, ◌+◌, ◌-◌, min, max, nat_le, Bool, false, List, [], ◌∷◌, length, take, drop, get_or, Some, None, inl, inr, refl, ap, sym, subst, ◌∙◌, arith, leb-true, append-nil}
use Rattle.std.proofs.lemmas.Bool.{cases_Bool}
use Rattle.arn_base.specs.declared.records.Record.{Record}
use Rattle.arn_base.specs.declared.records.Record.TheVariants as entry
use Rattle.guest_bodies.specs.Shown.{Guests}
use Rattle.history_index.specs.declared.slices.SliceAt.{SliceAt}
use Rattle.history_index.specs.Lookups.{founding_event, slices_of}
use Rattle.history_model.specs.Alone as alone
use Rattle.history_model.specs.Alone.{Own, Made, Makes, Fails, nothing_own}
use Rattle.history_model.specs.Broken.{first_broken, greatest}
use Rattle.history_model.specs.Groups.{group_of}
use Rattle.replay_steps.specs.Notices.{Listener}
use Rattle.replay_steps.specs.Plain.{slice_of}
use Rattle.replay_steps.specs.Standing.{Explains, GoesOn, IsStanding, Reaches, Stands, disagreement}
use Rattle.replay_steps.specs.declared.errors.ReplayError.{ReplayError}
use Rattle.replay_steps.specs.declared.errors.ReplayError.TheVariants as replay_error
use Rattle.replayer.specs.Bounds.{ran_before}
use Rattle.replayer.specs.BySlices.{by_slices, first_of, with_slice, with_slices, before_slice}
use Rattle.replayer.specs.Foundings.{event_behind}
use Rattle.replayer.specs.Parts.{LivesIn, made_after, part_after, part_len, part_made, part_of}
use Rattle.replayer.specs.Replays.{Replays}
use Rattle.replayer.specs.declared.parts.Part.{Part}
use Rattle.replayer.proofs.Begun.{number-some}
use Rattle.replayer.proofs.Bounds.{before-slices, slices_before}
use Rattle.replayer.proofs.Bridge.{part-failed, slice-made}
use Rattle.replayer.proofs.BySlices.{alone-by-slices}
use Rattle.replayer.proofs.Loops.{goes-both}
use Rattle.replayer.proofs.Order.{InOrder, Rising, all-rising, greatest-more}
use Rattle.replayer.proofs.Sound.{drop-past}
use Rattle.replayer.proofs.Passing.{if-zero}

-- what stands at an event stands at a later one
stands-later : (guests : Guests) (event later : ℕ) (own : Own) → event ≤ later → Stands guests event own → Stands guests later own
stands-later guests event later own le s =
    record { shows = s.shows; unheld = λ (other : ℕ) (past : later ≤ other). s.unheld other (omega (arith, le, past)) }

greatest-upto : (entries : List Record) (place more : ℕ) → place + more ≤ length entries → greatest (take place entries) ≤ greatest (take (place + more) entries)
greatest-upto entries place zero le = let same : place + 0 ≡ place = omega arith in let is = ap (λ (k : ℕ). greatest (take k entries)) same in omega (arith, is)
greatest-upto entries place (suc more) le = grind (arith, nat_tests, greatest-upto entries place more (omega (arith, le)), greatest-more entries (place + more) (omega (arith, le)))

-- a slice that begins above the moment makes nothing
not-le : (a b : ℕ) → b < a → nat_le a b ≡ false
not-le a b lt = elim (cases_Bool (nat_le a b)) [ inl is ↦ (let le = leb-true a b is in absurd (omega (arith, le, lt))) | inr isnt ↦ isnt ]

module _ (own : Own) where
  idle-next : (rest : List Record) (p : Part) (e : Record) → made_after p e own ≡ Makes own → part_made (part_after p e) rest own ≡ Makes own → alone.and_then (made_after p e own) (part_made (part_after p e) rest) ≡ Makes own
  idle-next rest p e made later = ap (λ (m : Made). alone.and_then m (part_made (part_after p e) rest)) made ∙ later

  part-idle : (rest : List Record) (p : Part) → p.owed ≡ 0 → p.is_begun ≡ false → p.is_ended ≡ false → part_made p rest own ≡ Makes own
  part-idle [] p owed begun ended = ap (λ (n : ℕ). alone.plains (slice_of p.turn) 0 n own) owed
  part-idle (entry.Slice pid ran ∷ rest) p owed begun ended = ap (λ (n : ℕ). alone.plains (slice_of p.turn) 0 n own) owed
  part-idle (entry.File name bytes ∷ rest) p owed begun ended = idle-next rest p (entry.File name bytes) refl (part-idle rest (part_after p (entry.File name bytes)) owed begun ended)
  part-idle (entry.Boot name give ∷ rest) p owed begun ended = idle-next rest p (entry.Boot name give) refl (part-idle rest (part_after p (entry.Boot name give)) owed begun ended)
  part-idle (entry.Typed bytes ∷ rest) p owed begun ended = idle-next rest p (entry.Typed bytes) refl (part-idle rest (part_after p (entry.Typed bytes)) owed begun ended)
  part-idle (entry.Unplug device ∷ rest) p owed begun ended = idle-next rest p (entry.Unplug device) refl (part-idle rest (part_after p (entry.Unplug device)) owed begun ended)
  part-idle (entry.Signal pid signal cut handler ∷ rest) p owed begun ended =
      idle-next rest p (entry.Signal pid signal cut handler) (ap (λ (b : Bool). alone.made_if b (Makes own) (alone.happens pid p.turn.event (entry.Signal pid signal cut handler))) begun) (part-idle rest (part_after p (entry.Signal pid signal cut handler)) owed begun ended)
  part-idle (entry.Call pid number result more ∷ rest) p owed begun ended =
      idle-next rest p (entry.Call pid number result more) (ap (λ (b : Bool). alone.made_if b (Makes own) (alone.ends_slice (slice_of p.turn) p.owed (entry.Call pid number result more))) ended) (part-idle rest (part_after p (entry.Call pid number result more)) (if-zero p.is_ended p.owed owed) begun ended)
  part-idle (entry.End pid status ∷ rest) p owed begun ended =
      idle-next rest p (entry.End pid status) (ap (λ (b : Bool). alone.made_if b (Makes own) (alone.ends_slice (slice_of p.turn) p.owed (entry.End pid status))) ended) (part-idle rest (part_after p (entry.End pid status)) (if-zero p.is_ended p.owed owed) begun ended)

module _ (entries : List Record) (g until : ℕ) (stands : first_broken entries ≡ None) where
  -- what a slice makes
  slice-adds : (place event moment : ℕ) (s : SliceAt) (own : Own) → InOrder entries g place event moment s → with_slice g until entries (Makes own) s ≡ part_made (part_of until s) (drop (s.place + 1) entries) own
  slice-adds place event moment s own h1 = grind (arith, common_steps, nat_tests, greatest-more, slice-made)

  slice-idle : (place event moment : ℕ) (s : SliceAt) (own : Own) → InOrder entries g place event moment s → until < s.moment → with_slice g until entries (Makes own) s ≡ Makes own
  slice-idle place event moment s own order lt =
      slice-adds place event moment s own order
      ∙ part-idle own (drop (s.place + 1) entries) (part_of until s) (omega (arith, lt)) (not-le s.moment until lt) (not-le (s.moment + s.ran) until (omega (arith, lt)))

  all-idle : (slices : List SliceAt) (place event moment : ℕ) (own : Own) → Rising entries g place event moment slices → until < moment → with_slices g until entries (Makes own) slices ≡ Makes own
  all-idle [] place event moment own rising lt = refl
  all-idle (s ∷ slices) place event moment own rising lt =
      let latest = rising.0.latest in
      let later : until < s.moment = omega (arith, latest, lt) in
      ap (λ (m : Made). with_slices g until entries m slices) (slice-idle place event moment s own rising.0 later)
      ∙ all-idle slices (part_len (drop (s.place + 1) entries) + (s.place + 1)) (s.event + part_len (drop (s.place + 1) entries)) s.moment own rising.1 later

  -- what failed stays so
  all-failed : (slices : List SliceAt) (d : alone.Disagrees) → with_slices g until entries (Fails d) slices ≡ Fails d
  all-failed [] d = refl
  all-failed (s ∷ slices) d =
      ap (λ (m : Made). with_slices g until entries m slices)
      (part-failed g until (alone.after_slice g until s.pid s.ran (before_slice g (Fails d) s)) (drop (s.place + 1) entries) d refl)
      ∙ all-failed slices d

  pub begin-fails : (err : ReplayError) → Explains (first_of g until entries (founding_event entries g)) err → Explains (alone.alone entries g until) err
  begin-fails err h1 = grind (arith, common_steps, nat_tests, alone-by-slices, all-failed)

-- the slice that comes next
item-drop : (xs : List SliceAt) (i : ℕ) (d : SliceAt) → i < length xs → drop i xs ≡ get_or xs i d ∷ drop (suc i) xs
item-drop [] i d lt = absurd (omega arith)
item-drop (x ∷ xs) zero d lt = refl
item-drop (x ∷ xs) (suc i) d lt = item-drop xs i d (omega arith)

pub next-slice : (xs ys : List SliceAt) (i : ℕ) (d : SliceAt) → xs ≡ ys → i < length xs → drop i ys ≡ get_or xs i d ∷ drop (i + 1) ys
next-slice xs ys i d h1 h2 = grind (arith, common_steps, nat_tests, item-drop)

pub no-slice : (xs ys : List SliceAt) (i : ℕ) → xs ≡ ys → length xs ≤ i → drop i ys ≡ []
no-slice xs ys i same le = subst (λ (zs : List SliceAt). drop i zs ≡ []) same (drop-past xs i le)

-- how far they were run
pub record Walks {A : Type 0} (l : Listener A) (x : A) (n : ℕ) (entries : List Record) (g until : ℕ) (slices : List SliceAt) (guests : Guests) (y : A) (m : ℕ) : Type 0 where
  pub place : ℕ
  pub event : ℕ
  pub moment : ℕ
  pub first : Own
  pub begun : first_of g until entries (founding_event entries g) ≡ Makes first
  pub own : Own
  pub stands : Stands guests event own
  pub goes_on : GoesOn l x n first own y m
  pub rest : by_slices entries g until ≡ with_slices g until entries (Makes own) slices
  pub lives : LivesIn entries (Some g) (max g (greatest (take place entries))) guests
  pub rising : Rising entries g place event moment slices
  pub bounded : m + slices_before until slices ≤ n + ran_before entries g until

pub walk-begins : {A : Type 0} (l : Listener A) (w x : A) (n : ℕ) (entries : List Record) (g until : ℕ) (guests : Guests) → first_broken entries ≡ None → LivesIn entries (Some g) g guests
    → Reaches l w n nothing_own (first_of g until entries (founding_event entries g)) guests (event_behind (founding_event entries g)) x n → Walks l x n entries g until (slices_of entries g) guests x n
walk-begins l w x n entries g until guests stands lives reaches =
    let same = before-slices entries g until in
    record {
      place = 0;
      event = event_behind (founding_event entries g);
      moment = 0;
      first = reaches.own';
      begun = reaches.makes;
      own = reaches.own';
      stands = reaches.stands;
      goes_on = record { more = []; inside = sym (append-nil reaches.own'.inside); told = refl; counted = omega arith };
      rest = ap (λ (m : Made). with_slices g until entries m (slices_of entries g)) reaches.makes;
      lives = record { below = λ p live. (let le = lives.below p live in omega (arith, le)); member = lives.member };
      rising = all-rising entries g stands;
      bounded = omega (arith, same);
    }

module _ {A : Type 0} (l : Listener A) (x y : A) (n m : ℕ) (entries : List Record) (g until : ℕ) (slices : List SliceAt) (guests : Guests) (walks : Walks l x n entries g until slices guests y m) (stands : first_broken entries ≡ None) where
  module _ (w : A) (guests' : Guests) (begins : Reaches l w n nothing_own (first_of g until entries (founding_event entries g)) guests' (event_behind (founding_event entries g)) x n) where
    made-all : by_slices entries g until ≡ Makes walks.own → Replays l w n (alone.alone entries g until) guests y m
    made-all h1 = grind (arith, nat_tests, goes-both, alone-by-slices)

    -- behind the last slice
    pub walk-ends : slices ≡ [] → Replays l w n (alone.alone entries g until) guests y m
    walk-ends is = made-all (walks.rest ∙ ap (with_slices g until entries (Makes walks.own)) is)

  -- with one slice more
  module _ (s : SliceAt) (rest : List SliceAt) (is : slices ≡ s ∷ rest) where
    rising : Rising entries g walks.place walks.event walks.moment (s ∷ rest)
    rising = subst (Rising entries g walks.place walks.event walks.moment) is walks.rising

    pub walk-order : InOrder entries g walks.place walks.event walks.moment s
    walk-order = rising.0

    pub walk-lives : LivesIn entries (group_of entries s.pid) (greatest (take (s.place + 1) entries)) guests
    walk-lives =
        let order = walk-order in
        let group = number-some g (group_of entries s.pid) order.member in
        let after = order.after in
        let inside = order.inside in
        let founded = order.founded in
        let up = greatest-more entries s.place inside in
        let to : walks.place + (s.place + 1 - walks.place) ≡ s.place + 1 = omega (arith, after) in
        let upto = greatest-upto entries walks.place (s.place + 1 - walks.place) (omega (arith, after, inside)) in
        let same = ap (λ (k : ℕ). greatest (take k entries)) to in
        record { below = λ p live. (let le = walks.lives.below p live in omega (arith, le, founded, up, upto, same)); member = λ p live. walks.lives.member p live ∙ sym group }

    pub walk-stands : Stands guests s.event walks.own
    walk-stands = stands-later guests walks.event s.event walks.own walk-order.later walks.stands

    pub walk-standing : IsStanding guests s.event
    walk-standing = record { own = walks.own; stands = walk-stands }

    -- which begins above the moment
    pub walk-stops : until < s.moment → (w : A) (guests' : Guests) → Reaches l w n nothing_own (first_of g until entries (founding_event entries g)) guests' (event_behind (founding_event entries g)) x n → Replays l w n (alone.alone entries g until) guests y m
    walk-stops lt w guests' begins =
        made-all w guests' begins (walks.rest ∙ (ap (with_slices g until entries (Makes walks.own)) is
        ∙ (ap (λ (m : Made). with_slices g until entries m rest) (slice-idle entries g until stands walks.place walks.event walks.moment s walks.own walk-order lt)
        ∙ all-idle entries g until stands rest (part_len (drop (s.place + 1) entries) + (s.place + 1)) (s.event + part_len (drop (s.place + 1) entries)) s.moment walks.own rising.1 lt)))

    pub walk-bounded : (k : ℕ) → k ≤ m + min s.ran (until - s.moment) → k ≤ n + ran_before entries g until
    walk-bounded k le = let bounded = walks.bounded in let same = ap (slices_before until) is in omega (arith, bounded, same, le)

    pub walk-fails : (err : ReplayError) → Explains (part_made (part_of until s) (drop (s.place + 1) entries) walks.own) err → Explains (alone.alone entries g until) err
    walk-fails replay_error.NoMemory fails = tt
    walk-fails (replay_error.Disagrees d) fails =
        alone-by-slices entries g until stands
        ∙ (walks.rest
        ∙ (ap (with_slices g until entries (Makes walks.own)) is
        ∙ (ap (λ (m : Made). with_slices g until entries m rest) (slice-adds entries g until stands walks.place walks.event walks.moment s walks.own walk-order ∙ fails)
        ∙ all-failed entries g until stands rest (disagreement d))))

    pub walk-next : (guests' : Guests) (z : A) (k : ℕ) → LivesIn entries (group_of entries s.pid) (greatest (take (part_len (drop (s.place + 1) entries) + (s.place + 1)) entries)) guests'
        → Reaches l y m walks.own (part_made (part_of until s) (drop (s.place + 1) entries) walks.own) guests' (s.event + part_len (drop (s.place + 1) entries)) z k → k ≤ m + min s.ran (until - s.moment) → Walks l x n entries g until rest guests' z k
    walk-next guests' z k lives took le =
        let group = number-some g (group_of entries s.pid) walk-order.member in
        let bounded = walks.bounded in
        let same = ap (slices_before until) is in
        record {
          place = part_len (drop (s.place + 1) entries) + (s.place + 1);
          event = s.event + part_len (drop (s.place + 1) entries);
          moment = s.moment;
          first = walks.first;
          begun = walks.begun;
          own = took.own';
          stands = took.stands;
          goes_on = goes-both l x y z n m k walks.first walks.own took.own' walks.goes_on took.goes_on;
          rest = walks.rest
              ∙ (ap (with_slices g until entries (Makes walks.own)) is
              ∙ ap (λ (m : Made). with_slices g until entries m rest) (slice-adds entries g until stands walks.place walks.event walks.moment s walks.own walk-order ∙ took.makes));
          lives = record { below = λ p live. (let le = lives.below p live in omega (arith, le)); member = λ p live. lives.member p live ∙ group };
          rising = rising.1;
          bounded = omega (arith, bounded, same, le);
        }
