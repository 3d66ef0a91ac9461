-- What is shown goes on by an event of a member: what members hold, what was heard, and what each byte has.
use Rattle.std.proofs.Common.{◌≡◌, ◌≢◌, ℕ, ◌<◌, ◌==◌, cond, Bool, true, false, List, [], length, slice_index, Option, Some, None, IfSome, IsNone, is_some, option_map, refl, sym, ap, subst, ◌∙◌}
use Rattle.std.proofs.lemmas.Bool.{eqb-true, eqb-false, eq-eqb}
use Rattle.arn_base.specs.declared.machine.Cpu.{Cpu}
use Rattle.arn_base.specs.declared.records.Record.{Record}
use Rattle.rv64_model.specs.Carries.{operands}
use Rattle.parts_model.specs.Numbered.{nth}
use Rattle.acts_model.specs.Records.{event_len}
use Rattle.acts_model.specs.Transfers.{Holds, Transfer}
use Rattle.lineage_model.specs.Flow.{At, Byte, StartRegister, StartSlot, StartMemory, shown_byte}
use Rattle.lineage_model.specs.Flow as flow_of
use Rattle.lineage_model.specs.Tracking.{EventByte, Tracked, gather}
use Rattle.taint_events.specs.Bytes.{AreEmpty}
use Rattle.taint_state.specs.Goes.{AreApart, GoesBy}
use Rattle.taint_state.specs.Events.{Becomes, Hears, Stays, event_by_member, plain_heard}
use Rattle.taint_state.specs.Goes.{Hearing, Hearings, IsPossible, IsUnheld, IsUnheldBy, heard_at, hearing_of, hearings_of}
use Rattle.taint_state.specs.Kept.{Kept, KeptHeard, KeptMember, KeptStart, heard_among, items_of, point_items, shown, shown_heard, shown_member, start_items}
use Rattle.taint_state.specs.Shown.{AreItems, IsPoint, Member, Shows, ShowsHeard, ShowsMember}
use Rattle.taint_state.specs.Sound.{IsSound, IsSoundHeard, IsSoundStart}
use Rattle.taint_state.specs.Steps.{founds, holders_after, holders_of}
use Rattle.taint_state.proofs.Flows.{Setting, given, then, items-same, of-nothing}

pub self-test : (n : ℕ) → (n == n) ≡ true
self-test n = eq-eqb n n refl

abbrev pub holds_kept : Option KeptMember → Option Holds
holds_kept o = option_map (λ (m : KeptMember). m.holds) o

-- what members hold is what is kept of it
pub holders-kept : (x : Kept) (p : ℕ) → holders_of (shown x) p ≡ holds_kept (nth x.members p)
holders-kept x p = of (nth x.members p)
  where
    of : (o : Option KeptMember) → option_map (λ (m : Member). m.holds) (option_map (shown_member x) o) ≡ holds_kept o
    of None = refl
    of (Some m) = refl

not-none : (h : Holds) → IsNone (Some h) → ⊥
not-none h n = absurd (cc)

-- one that holds what it held
pub holders-same : (x y : Kept) (pid : ℕ) (old new : KeptMember) (heard : KeptHeard) → Becomes pid old (Some new) heard x y → new.holds ≡ old.holds
    → (p : ℕ) → holders_of (shown y) p ≡ holders_of (shown x) p
holders-same x y pid old new heard b e p = holders-kept y p ∙ (by_test (p == pid) refl ∙ sym (holders-kept x p))
  where
    by_test : (t : Bool) → (p == pid) ≡ t → holds_kept (nth y.members p) ≡ holds_kept (nth x.members p)
    by_test true h =
        subst (λ q. holds_kept (nth y.members q) ≡ holds_kept (nth x.members q)) (sym (eqb-true p pid h))
        (ap holds_kept b.members.one ∙ (ap (λ (k : Holds). Some k) e ∙ sym (ap holds_kept b.was)))
    by_test false h = ap holds_kept (b.members.others p (eqb-false p pid h))

-- one that holds this, or lives no more
pub holders-put : (x y : Kept) (pid : ℕ) (old : KeptMember) (m : Option KeptMember) (heard : KeptHeard) → Becomes pid old m heard x y
    → (p : ℕ) → holders_of (shown y) p ≡ cond (p == pid) (holds_kept m) (holders_of (shown x) p)
holders-put x y pid old m heard b p = holders-kept y p ∙ by_test (p == pid) refl
  where
    by_test : (t : Bool) → (p == pid) ≡ t → holds_kept (nth y.members p) ≡ cond (p == pid) (holds_kept m) (holders_of (shown x) p)
    by_test true h =
        subst (λ q. holds_kept (nth y.members q) ≡ holds_kept m) (sym (eqb-true p pid h)) (ap holds_kept b.members.one)
        ∙ ap (λ t. cond t (holds_kept m) (holders_of (shown x) p)) (sym h)
    by_test false h =
        ap holds_kept (b.members.others p (eqb-false p pid h)) ∙ (sym (holders-kept x p) ∙ ap (λ t. cond t (holds_kept m) (holders_of (shown x) p)) (sym h))

-- a member that was holds what it held
pub held-before : (x : Kept) (p : ℕ) (m : KeptMember) → nth x.members p ≡ Some m → holders_of (shown x) p ≡ Some m.holds
held-before x p m was = holders-kept x p ∙ ap holds_kept was

-- a memory that none holds is none of its
pub unheld-before : (x : Kept) (made p : ℕ) (m : KeptMember) → IsUnheld (holders_of (shown x)) made → nth x.members p ≡ Some m → IsUnheldBy made m.holds
unheld-before x made p m unheld was = subst (λ o. IfSome o (IsUnheldBy made)) (held-before x p m was) (unheld p)

-- who isn't live is none of the members
pub absent-before : (x : Kept) (child p : ℕ) (m : KeptMember) → IsNone (holders_of (shown x) child) → nth x.members p ≡ Some m → p ≢ child
absent-before x child p m none was same = not-none m.holds (subst (λ o. IsNone o) (held-before x p m was) (subst (λ q. IsNone (holders_of (shown x) q)) (sym same) none))

pub hearing-kept : (x y : Kept) (o : Option KeptHeard) → option_map hearing_of (option_map (shown_heard y) o) ≡ option_map hearing_of (option_map (shown_heard x) o)
hearing-kept x y None = refl
hearing-kept x y (Some h) = refl

-- which events were heard
pub heard-kept : (x y : Kept) (heard : KeptHeard) (number : ℕ) (h : Hearing) → Hears heard x.heard y.heard → heard.event ≡ number → hearing_of (shown_heard y heard) ≡ h
    → (e : ℕ) → hearings_of (shown y) e ≡ cond (e == number) (Some h) (hearings_of (shown x) e)
heard-kept x y heard number h hears is same e = by_test (e == number) refl
  where
    by_test : (t : Bool) → (e == number) ≡ t → hearings_of (shown y) e ≡ cond (e == number) (Some h) (hearings_of (shown x) e)
    by_test true k =
        subst (λ q. hearings_of (shown y) q ≡ Some h) (is ∙ sym (eqb-true e number k))
        (ap (λ (o : Option KeptHeard). option_map hearing_of (option_map (shown_heard y) o)) hears.found ∙ ap (λ (i : Hearing). Some i) same)
        ∙ ap (λ t. cond t (Some h) (hearings_of (shown x) e)) (sym k)
    by_test false k =
        ap (λ (o : Option KeptHeard). option_map hearing_of (option_map (shown_heard y) o)) (hears.others e (λ q. eqb-false e number k (q ∙ is)))
        ∙ (hearing-kept x y (heard_among x.heard e) ∙ ap (λ t. cond t (Some h) (hearings_of (shown x) e)) (sym k))

from-false : {X : Type 0} → false ≡ true → X
from-false e = absurd (cc)

module _ (s : Setting) where
  start-same : (heard : KeptHeard) (o : Option KeptStart) → heard.start ≡ o → IfSome o (IsSoundStart s.x.sets) → (at : At) → IsPoint (shown_heard s.x heard) at → start_items s.y o at ≡ start_items s.x o at
  start-same heard None e h at point = refl
  start-same heard (Some start) e h (Byte k) point = refl
  start-same heard (Some start) e h (StartRegister r i) point = items-same s _ (h.registers r i point.1)
  start-same heard (Some start) e h (StartSlot r i) point = items-same s _ (h.slot r i point.1)
  start-same heard (Some start) e h (StartMemory at) point = items-same s _ (h.window _)

  pub point-same : (heard : KeptHeard) → IsSoundHeard s.x.sets heard → (at : At) → IsPoint (shown_heard s.x heard) at → point_items s.y heard at ≡ point_items s.x heard at
  point-same heard h (Byte k) point = items-same s _ (h.numbers _)
  point-same heard h (StartRegister r i) point = start-same heard heard.start refl h.start (StartRegister r i) point
  point-same heard h (StartSlot r i) point = start-same heard heard.start refl h.start (StartSlot r i) point
  point-same heard h (StartMemory at) point = start-same heard heard.start refl h.start (StartMemory at) point

  pub is-point : (heard : KeptHeard) (at : At) → IsPoint (shown_heard s.y heard) at → IsPoint (shown_heard s.x heard) at
  is-point heard (Byte k) h = h
  is-point heard (StartRegister r i) h = h
  is-point heard (StartSlot r i) h = h
  is-point heard (StartMemory at) h = h

  -- the bytes of the event take what the step says
  abbrev pub PointsShow : KeptHeard → Type 0
  PointsShow heard = (at : At) → IsPoint (shown_heard s.y heard) at → AreItems (point_items s.y heard at) (gather (given s) s.t.locations (flow_of.shown s.tr at))

  pub heard-show : (heard : KeptHeard) → Hears heard s.x.heard s.y.heard → heard.event ≡ s.event.number → PointsShow heard → (e : ℕ) → IfSome ((shown s.y).heard e) (ShowsHeard e (then s))
  heard-show heard hears is points e = by_test (e == s.event.number) refl
    where
      of_other : (e == s.event.number) ≡ false → (o : Option KeptHeard) → heard_among s.x.heard e ≡ o → IfSome (option_map (shown_heard s.y) o) (ShowsHeard e (then s))
      of_other k None h = tt
      of_other k (Some other) h =
          let sound = subst (λ o. IfSome o (IsSoundHeard s.x.sets)) h (s.sound.heard e) in
          let shows = subst (λ o. IfSome (option_map (shown_heard s.x) o) (ShowsHeard e s.t)) h (s.shows.heard e) in
          λ at point.
          subst (λ t. AreItems (point_items s.y other at) (cond t (gather (given s) s.t.locations (flow_of.shown s.tr at)) (s.t.points e at))) (sym k)
          (subst (λ its. AreItems its (s.t.points e at)) (sym (point-same other sound at (is-point other at point))) (shows at (is-point other at point)))

      by_test : (b : Bool) → (e == s.event.number) ≡ b → IfSome ((shown s.y).heard e) (ShowsHeard e (then s))
      by_test true k =
          let same : heard.event ≡ e = is ∙ sym (eqb-true e s.event.number k) in
          subst (λ o. IfSome (option_map (shown_heard s.y) o) (ShowsHeard e (then s))) (sym (subst (λ q. heard_among s.y.heard q ≡ Some heard) same hears.found))
          (λ at point. subst (λ t. AreItems (point_items s.y heard at) (cond t (gather (given s) s.t.locations (flow_of.shown s.tr at)) (s.t.points e at))) (sym k) (points at point))
      by_test false k =
          subst (λ o. IfSome (option_map (shown_heard s.y) o) (ShowsHeard e (then s))) (sym (hears.others e (λ q. eqb-false e s.event.number k (q ∙ is)))) (of_other k (heard_among s.x.heard e) refl)

  -- where it starts no group, it has no byte with which a child begins
  pub plain-points : (number : ℕ) (numbers : List ℕ)
      → ((k : ℕ) → k < length numbers → AreItems (items_of s.y (slice_index numbers k)) (gather (given s) s.t.locations (shown_byte s.tr k)))
      → PointsShow (plain_heard number numbers)
  plain-points number numbers bytes (Byte k) point = bytes k point
  plain-points number numbers bytes (StartRegister r i) point = from-false point.0
  plain-points number numbers bytes (StartSlot r i) point = from-false point.0
  plain-points number numbers bytes (StartMemory at) point = from-false point.0

  -- and no byte takes anything
  pub empty-points : (number count : ℕ) (numbers : List ℕ) → AreEmpty count numbers → ((k : ℕ) → shown_byte s.tr k ≡ []) → PointsShow (plain_heard number numbers)
  empty-points number count numbers empty none =
      plain-points number numbers (λ k below.
      subst (λ ds. AreItems (items_of s.y (slice_index numbers k)) (gather (given s) s.t.locations ds)) (sym (none k))
      (of-nothing s (slice_index numbers k) (empty.all k (subst (λ n. k < n) empty.len below))))

-- all of it
module _ (x y : Kept) (pid number : ℕ) (e : Record) (before : Cpu) (tr : Transfer) (heard : KeptHeard) (sound : IsSound x) (stays : Stays x y) where
  abbrev pub setting : (t : Tracked EventByte) → Shows (shown x) t → Setting
  setting t shows = record {
    x = x;
    y = y;
    sound = sound;
    stays = stays;
    t = t;
    shows = shows;
    table = operands x.linkage;
    tr = tr;
    event = record { number = number; entry = e };
  }

  abbrev pub MembersShow : Setting → Type 0
  MembersShow s = (p : ℕ) → IfSome ((shown y).members p) (ShowsMember p (then s))

  pub goes : Hears heard x.heard y.heard → heard.event ≡ number → length heard.numbers ≡ event_len e → is_some heard.start ≡ founds tr
      → ((h : Hearings) (k : ℕ) → heard_at tr (record { number = number; entry = e }) h k ≡ cond (k == number) (Some (record { len = event_len e; founds = founds tr })) (h k))
      → ((p : ℕ) → holders_of (shown y) p ≡ holders_after tr (holders_of (shown x)) p)
      → (AreApart (holders_of (shown x)) → IsPossible (holders_of (shown x)) (hearings_of (shown x)) tr → (t : Tracked EventByte) (shows : Shows (shown x) t)
      → MembersShow (setting t shows) × PointsShow (setting t shows) heard)
      → GoesBy (event_by_member pid before tr number e) (shown x) (shown y)
  goes hears is len starts at holders shows = record {
    linkage = stays.linkage;
    holders = holders;
    heard = λ k. heard-kept x y heard number (record { len = event_len e; founds = founds tr }) hears is (λ i. record { len = len i; founds = starts i }) k ∙ sym (at (hearings_of (shown x)) k);
    shows = λ clear possible t h.
        let both = shows clear possible t h in
        record { members = both.0; heard = heard-show (setting t h) heard hears is both.1 };
  }
