-- How a slice is run, and what stands behind it done.
use Rattle.std.proofs.lemmas.Grind.{common_steps}
use Rattle.std.proofs.lemmas.Bool.Decides.{nat_tests}
use Rattle.std.proofs.Common.{◌≡◌, ◌≢◌, ◌<◌, ◌≤◌, ◌^◌, ℕ, suc, ◌+◌, ◌⊎◌, inl, inr, Bool, true, false, List, [], ◌∷◌, length, take, drop, get_or, Option, Some, None, IfSome, IsNone, option_and_then, is_some, refl, ap, sym, subst, ◌∙◌, arith, append-nil, eqb-true}
use Rattle.std.proofs.lemmas.Bool.Decides.{eqb_tells}
use Rattle.arn_base.specs.declared.machine.Cpu.{Cpu}
use Rattle.arn_base.specs.declared.records.Record.{Record}
use Rattle.arn_base.specs.declared.records.Record.TheVariants as entry
use Rattle.parts_model.specs.Numbered.{nth}
use Rattle.acts_model.specs.Acts.{Act, Forks}
use Rattle.acts_model.specs.Records.{is_event}
use Rattle.acts_model.specs.Told.{act_of}
use Rattle.guest_bodies.specs.Shown.{Guests, IsLive}
use Rattle.history_model.specs.Alone as alone
use Rattle.history_model.specs.Alone.{Own, Made, Makes, and_then}
use Rattle.history_model.specs.Broken.{ASlice, Nowhere, behind, behind_record, child_in, first_broken, greatest, greatest_after, is_behind}
use Rattle.history_model.specs.Groups.{group_of}
use Rattle.replay_steps.specs.Calls.{ChildIsFree, child_joined}
use Rattle.replay_steps.specs.Notices.{Listener}
use Rattle.replay_steps.specs.Plain.{slice_of}
use Rattle.replay_steps.specs.Standing.{Explains, GainsOnly, KeepsLives, Reaches, Stands}
use Rattle.replay_steps.specs.declared.errors.ReplayError.{ReplayError}
use Rattle.replayer.specs.Parts.{LivesIn, made_after, part_after, part_len, part_made}
use Rattle.replayer.specs.declared.parts.Part.{Part}
use Rattle.replayer.proofs.Children.{joined-in}
use Rattle.replayer.proofs.Joining.{joins-own}
use Rattle.replayer.proofs.Loops.{further, greatest-snoc}
use Rattle.replayer.proofs.Own.{hand-less}
use Rattle.replayer.proofs.PartLens.{part-inside, part-next}
use Rattle.replayer.proofs.Sound.{behind-snoc, drop-more, fits, grows}
use Rattle.replayer.proofs.Unbroken.{can-follow, child-next, greatest-few, tests}

-- what stands behind, one record after the other
pub made-event : (p : Part) (e : Record) (rest : List Record) (own : Own) → is_event e ≡ true → part_made p (e ∷ rest) own ≡ and_then (made_after p e own) (part_made (part_after p e) rest)
made-event p (entry.Slice pid ran) rest own is = absurd (let no-way : false ≡ true = is in cc)
made-event p _ rest own is = refl

some-more : (n : ℕ) → n + 1 ≡ 0 → ⊥
some-more n is = omega (arith, is)

made-none : (p : Part) (rest : List Record) (own : Own) → part_len rest ≡ 0 → part_made p rest own ≡ alone.plains (slice_of p.turn) 0 p.owed own
made-none p [] own is = refl
made-none p (entry.Slice pid ran ∷ rest) own is = refl
made-none p (e ∷ rest) own is = absurd (some-more (part_len rest) is)

-- a child is the next process, so that it can be made
module _ (entries : List Record) (group : Option ℕ) (guests : Guests) (n : ℕ) (lives : LivesIn entries group n guests) (few : n + 1 < 2 ^ 32) where
  dead-above : (c : ℕ) → c ≡ n + 1 → IsNone (nth guests c)
  dead-above c h1 = grind (arith, nat_tests)

  free-act : (e : Record) (o : Option Act) → IfSome (child_in e) (λ c. c ≡ n + 1) → ((p : ℕ) → option_and_then child_joined o ≡ Some p → child_in e ≡ Some p) → IfSome o (ChildIsFree guests)
  free-act e (Some (Forks c)) child joined =
      let next : c ≡ n + 1 = subst (λ (o : Option ℕ). IfSome o (λ (k : ℕ). k ≡ n + 1)) (joined c refl) child in
      record { fits = omega (arith, next, few); dead = dead-above c next }
  free-act e _ child joined = tt

  pub child-free : (e : Record) → IfSome (child_in e) (λ c. c ≡ n + 1) → (cpu : Cpu) → IfSome (act_of cpu e) (ChildIsFree guests)
  child-free e child cpu = free-act e (act_of cpu e) child (joined-in cpu e)

-- who lives then
child-after : (e : Record) (n c : ℕ) → child_in e ≡ Some c → c ≡ n + 1 → c ≤ greatest_after e n
child-after e n c h1 h2 = grind (arith, nat_tests)

lived-was : (a b : Bool) → (a ≡ false → b ≡ false) → b ≡ true → a ≡ true
lived-was true b dead live = refl
lived-was false b dead live = absurd (let no-way : false ≡ true = sym (dead refl) ∙ live in cc)

alive : (child : Option ℕ) (was is : Bool) (p : ℕ) → (child ≢ Some p → was ≡ false → is ≡ false) → is ≡ true → (was ≡ true) ⊎ (child ≡ Some p)
alive child was is p h1 h2 = grind (arith, nat_tests, lived-was, eqb_tells)

-- who lives lived before, or is the child
pub lived-or : (child : Option ℕ) (old new : Guests) (p : ℕ) → GainsOnly child old new → IsLive new p → (IsLive old p) ⊎ (child ≡ Some p)
lived-or child old new p gains live = alive child (is_some (nth old p)) (is_some (nth new p)) p (gains.dead p) live

module _ (entries : List Record) (group : Option ℕ) (old new : Guests) (n : ℕ) (lives : LivesIn entries group n old) where
  pub lives-after : (cpu : Cpu) (e : Record) → IfSome (child_in e) (λ c. c ≡ n + 1) → GainsOnly (option_and_then child_joined (act_of cpu e)) old new
      → ((c : ℕ) → option_and_then child_joined (act_of cpu e) ≡ Some c → c ≤ greatest_after e n → group_of entries c ≡ group) → LivesIn entries group (greatest_after e n) new
  lives-after cpu e child gains joins =
      record {
        below = λ (p : ℕ) (live : IsLive new p).
            elim (lived-or (option_and_then child_joined (act_of cpu e)) old new p gains live) [
              | inl was ↦ let le = lives.below p was in let up = grows e n in omega (arith, le, up)
              | inr is ↦ born p is
            ];
        member = λ (p : ℕ) (live : IsLive new p).
            elim (lived-or (option_and_then child_joined (act_of cpu e)) old new p gains live) [
              | inl was ↦ lives.member p was
              | inr is ↦ joins p is (born p is)
            ];
      }
    where
      born : (p : ℕ) → option_and_then child_joined (act_of cpu e) ≡ Some p → p ≤ greatest_after e n
      born p is =
          let told = joined-in cpu e p is in
          child-after e n p told (subst (λ (o : Option ℕ). IfSome o (λ (k : ℕ). k ≡ n + 1)) told child)

  pub lives-settled : KeepsLives old new → LivesIn entries group n new
  lives-settled h1 = grind (arith, nat_tests, lived-was)

-- what was made so far, and what is left
pub record Running {A : Type 0} (l : Listener A) (x : A) (n : ℕ) (entries : List Record) (first : Part) (from : ℕ) (own : Own) (place : ℕ) (p : Part) (guests : Guests) (y : A) (m : ℕ) : Type 0 where
  pub made : Own
  pub reaches : Reaches l x n own (Makes made) guests p.turn.event y m
  pub rest : part_made first (drop from entries) own ≡ part_made p (drop place entries) made

pub record InPart {A : Type 0} (l : Listener A) (x : A) (n : ℕ) (entries : List Record) (before : Guests) (first : Part) (from place : ℕ) (p : Part) (guests : Guests) (y : A) (m : ℕ) : Type 0 where
  pub within : part_len (drop place entries) + place ≡ part_len (drop from entries) + from
  pub events : p.turn.event + from ≡ first.turn.event + place
  pub hand : (q : ℕ) → is_behind q (behind (take place entries)) ≡ true → q ≡ first.turn.pid
  pub made : first.turn.pid ≤ greatest (take place entries)
  pub lives : LivesIn entries (group_of entries first.turn.pid) (greatest (take place entries)) guests
  pub paid : m + p.owed ≤ n + first.owed
  pub runs : (own : Own) → Stands before first.turn.event own → Running l x n entries first from own place p guests y m

-- behind the record of the slice
module _ (entries : List Record) (s : ℕ) (pid ran : ℕ) (stands : first_broken entries ≡ None) (lt : s < length entries) (is : entry.Slice pid ran ≡ get_or entries s (entry.Slice pid ran)) where
  pub slice-hand : (q : ℕ) → is_behind q (behind (take (s + 1) entries)) ≡ true → q ≡ pid
  slice-hand q hand =
      let one : s + 1 ≡ suc s = omega arith in
      let here : behind (take (s + 1) entries) ≡ ASlice pid = ap (λ (j : ℕ). behind (take j entries)) one ∙ behind-snoc Nowhere entries s (entry.Slice pid ran) lt is in
      sym (eqb-true pid q (sym (ap (is_behind q) here) ∙ hand))

  pub slice-made-up : pid ≤ greatest (take (s + 1) entries)
  slice-made-up = grind (arith, greatest-snoc 0 entries s (entry.Slice pid ran) lt is, fits entries stands s (entry.Slice pid ran))

pub part-begins : {A : Type 0} (l : Listener A) (x : A) (n : ℕ) (entries : List Record) (guests : Guests) (first : Part) (from : ℕ) → ((q : ℕ) → is_behind q (behind (take from entries)) ≡ true → q ≡ first.turn.pid) → first.turn.pid ≤ greatest (take from entries)
    → LivesIn entries (group_of entries first.turn.pid) (greatest (take from entries)) guests → InPart l x n entries guests first from from first guests x n
part-begins l x n entries guests first from hand made lives =
    record {
      within = refl;
      events = refl;
      hand = hand;
      made = made;
      lives = lives;
      paid = omega arith;
      runs = λ (own : Own) (stands : Stands guests first.turn.event own).
          record {
            made = own;
            reaches = record {
              own' = own;
              makes = refl;
              stands = stands;
              goes_on = record { more = []; inside = sym (append-nil own.inside); told = refl; counted = omega arith };
            };
            rest = refl;
          };
    }

module _ {A : Type 0} (l : Listener A) (x y : A) (n m : ℕ) (entries : List Record) (before guests : Guests) (first p : Part) (from place : ℕ) (in-part : InPart l x n entries before first from place p guests y m) where
  module _ (e : Record) (stands : first_broken entries ≡ None) (few : length entries < 2 ^ 32) (lt : place < length entries) (is : e ≡ get_or entries place e) where
    pub part-child : IfSome (child_in e) (λ c. c ≡ greatest (take place entries) + 1)
    part-child = child-next (take place entries) e (tests (take place entries) e (can-follow [] entries place e stands lt is))

    pub part-free : (cpu : Cpu) → IfSome (act_of cpu e) (ChildIsFree guests)
    part-free =
        let fewer = greatest-few [] entries place 0 stands (omega arith) in
        child-free entries (group_of entries first.turn.pid) guests (greatest (take place entries)) in-part.lives (omega (arith, fewer, few, lt)) e part-child

    pub part-room : first.turn.event ≤ from → from ≤ place → p.turn.event + 1 < 2 ^ 64
    part-room early le = let events = in-part.events in omega (arith, events, early, le, lt, few)

    module _ (inside : place < part_len (drop from entries) + from) where
      event : is_event e ≡ true
      event = let within = in-part.within in part-inside entries place e lt is (omega (arith, inside, within))

      made-next : (own : Own) → part_made p (drop place entries) own ≡ and_then (made_after p e own) (part_made (part_after p e) (drop (place + 1) entries))
      made-next own = grind (arith, common_steps, nat_tests, drop-more, made-event, event)

      pub part-goes-on : (new : Part) (guests' : Guests) (z : A) (k : ℕ) → new ≡ part_after p e
          → ((cpu : Cpu) → GainsOnly (option_and_then child_joined (act_of cpu e)) guests guests') → ((own : Own) → Stands guests p.turn.event own → Reaches l y m own (made_after p e own) guests' (p.turn.event + 1) z k)
          → k + new.owed ≤ m + p.owed → (cpu : Cpu) → InPart l x n entries before first from (place + 1) new guests' z k
      part-goes-on new guests' z k same gains takes paid cpu =
          let next = part-next entries place e lt is event in
          let within = in-part.within in
          let events = in-part.events in
          let number : new.turn.event ≡ p.turn.event + 1 = ap (λ (q : Part). q.turn.event) same in
          let one : place + 1 ≡ suc place = omega arith in
          let many : greatest (take (place + 1) entries) ≡ greatest_after e (greatest (take place entries)) = ap (λ (j : ℕ). greatest (take j entries)) one ∙ greatest-snoc 0 entries place e lt is in
          let hands : behind (take (place + 1) entries) ≡ behind_record (behind (take place entries)) e = ap (λ (j : ℕ). behind (take j entries)) one ∙ behind-snoc Nowhere entries place e lt is in
          record {
            within = omega (arith, next, within);
            events = omega (arith, events, number);
            hand = λ (q : ℕ) (hand : is_behind q (behind (take (place + 1) entries)) ≡ true). in-part.hand q (hand-less (behind (take place entries)) e q event (sym (ap (is_behind q) hands) ∙ hand));
            made = (let up = grows e (greatest (take place entries)) in let made = in-part.made in omega (arith, up, made, many));
            paid = (let before = in-part.paid in omega (arith, before, paid));
            lives = subst (λ (most : ℕ). LivesIn entries (group_of entries first.turn.pid) most guests') (sym many)
                (lives-after entries (group_of entries first.turn.pid) guests guests' (greatest (take place entries)) in-part.lives cpu e part-child (gains cpu)
                (λ (c : ℕ) (joined : option_and_then child_joined (act_of cpu e) ≡ Some c) (le : c ≤ greatest_after e (greatest (take place entries))). joins-own entries place e cpu first.turn.pid c stands lt is in-part.hand in-part.made joined le));
            runs = λ (own : Own) (stands' : Stands before first.turn.event own).
                let run = in-part.runs own stands' in
                let took = takes run.made (subst (Stands guests p.turn.event) (made-same run.made run.reaches.own' run.reaches.makes) run.reaches.stands) in
                let all = further l x y z n m k own (Makes run.made) (made_after p e run.made) guests guests' p.turn.event (p.turn.event + 1) run.reaches (takes-as run.made run.reaches.own' run.reaches.makes z k guests' took) in
                record {
                  made = took.own';
                  reaches = subst (λ (j : ℕ). Reaches l x n own (Makes took.own') guests' j z k) (sym number) (record { own' = all.own'; makes = sym took.makes ∙ all.makes; stands = all.stands; goes_on = all.goes_on });
                  rest = run.rest ∙ (made-next run.made
                      ∙ (ap (λ (made : Made). and_then made (part_made (part_after p e) (drop (place + 1) entries))) took.makes
                      ∙ ap (λ (q : Part). part_made q (drop (place + 1) entries) took.own') (sym same)));
                };
          }
        where
          made-same : (a b : Own) → Makes a ≡ Makes b → b ≡ a
          made-same a b is = let same : a ≡ b = cc in sym same

          takes-as : (a b : Own) → Makes a ≡ Makes b → (z : A) (k : ℕ) (guests' : Guests) → Reaches l y m a (made_after p e a) guests' (p.turn.event + 1) z k → Reaches l y m b (made_after p e a) guests' (p.turn.event + 1) z k
          takes-as a b is z k guests' reaches = subst (λ (o : Own). Reaches l y m o (made_after p e a) guests' (p.turn.event + 1) z k) (sym (made-same a b is)) reaches

      pub part-fails : (err : ReplayError) → ((own : Own) → Stands guests p.turn.event own → Explains (made_after p e own) err) → (own : Own) → Stands before first.turn.event own → Explains (part_made first (drop from entries) own) err
      part-fails err h1 own h2 = grind (arith, nat_tests, made-next)

  -- at the part's end
  module _ (past : part_len (drop from entries) + from ≤ place) where
    left-none : part_len (drop place entries) ≡ 0
    left-none = let within = in-part.within in omega (arith, past, within)

    pub part-end-lives : (new : Guests) → KeepsLives guests new → LivesIn entries (group_of entries first.turn.pid) (greatest (take (part_len (drop from entries) + from) entries)) new
    part-end-lives new keeps =
        let same : place ≡ part_len (drop from entries) + from = omega (arith, in-part.within, left-none) in
        subst (λ (k : ℕ). LivesIn entries (group_of entries first.turn.pid) (greatest (take k entries)) new) same (lives-settled entries (group_of entries first.turn.pid) guests new (greatest (take place entries)) in-part.lives keeps)

    pub part-ends : (new : Guests) (z : A) (k : ℕ) (own : Own) (stands : Stands before first.turn.event own) → Reaches l y m (in-part.runs own stands).reaches.own' (alone.plains (slice_of p.turn) 0 p.owed (in-part.runs own stands).reaches.own') new p.turn.event z k
        → Reaches l x n own (part_made first (drop from entries) own) new (first.turn.event + part_len (drop from entries)) z k
    part-ends new z k own stands settled =
        let run = in-part.runs own stands in
        let within = in-part.within in
        let events = in-part.events in
        let none = left-none in
        let number : p.turn.event ≡ first.turn.event + part_len (drop from entries) = omega (arith, within, events, none) in
        let same : run.reaches.own' ≡ run.made = made-of run.made run.reaches.own' run.reaches.makes in
        let all = further l x y z n m k own (Makes run.made) (alone.plains (slice_of p.turn) 0 p.owed run.reaches.own') guests new p.turn.event p.turn.event run.reaches settled in
        let made-is : alone.plains (slice_of p.turn) 0 p.owed run.reaches.own' ≡ part_made first (drop from entries) own = ap (alone.plains (slice_of p.turn) 0 p.owed) same ∙ sym (run.rest ∙ made-none p (drop place entries) run.made left-none) in
        subst (λ (made : Made). Reaches l x n own made new (first.turn.event + part_len (drop from entries)) z k) made-is
        (subst (λ (j : ℕ). Reaches l x n own (alone.plains (slice_of p.turn) 0 p.owed run.reaches.own') new j z k) number all)
      where
        made-of : (a b : Own) → Makes a ≡ Makes b → b ≡ a
        made-of a b is = let same : a ≡ b = cc in sym same

    pub part-end-fails : (own : Own) (stands : Stands before first.turn.event own) (err : ReplayError) → Explains (alone.plains (slice_of p.turn) 0 p.owed (in-part.runs own stands).reaches.own') err → Explains (part_made first (drop from entries) own) err
    part-end-fails own stands err h1 = grind (arith, nat_tests, made-none, left-none)
