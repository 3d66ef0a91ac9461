-- Groups in which members receive bytes, make children, get fresh memories, or begin.
use Rattle.std.proofs.Common.{◌≡◌, ◌≢◌, inl, inr, ℕ, ◌<◌, ◌≤◌, ◌==◌, cond, Bool, true, false, List, [], map, length, slice_index_or, slice_set, Option, Some, None, IfSome, IsSomeAnd, option_map, refl, sym, subst, ap, ◌∙◌, arith}
use Rattle.arn_base.specs.declared.machine.Cpu.{Cpu}
use Rattle.arn_base.specs.declared.records.Record.{Record}
use Rattle.arn_base.specs.declared.records.Record.TheVariants as entry
use Rattle.parts_model.specs.Numbered.{nth}
use Rattle.taint_spans.specs.Numbered.{Numbered, StandAsBefore}
use Rattle.acts_model.specs.Records.{event_len}
use Rattle.acts_model.specs.Transfers.{Forks, Holds, Receives, Starts, Transfer, place_of}
use Rattle.acts_model.specs.Views.{cpu_at}
use Rattle.taint_events.specs.Bytes.{AreEmpty, AreReceived}
use Rattle.taint_members.specs.Access.{Memories, held_numbers, number_at, window_numbers}
use Rattle.taint_members.specs.declared.member.MemberSets.{MemberSets}
use Rattle.taint_members.specs.declared.member.NewMember.{NewMember}
use Rattle.taint_events.specs.Beginning.{AreItemsFrom}
use Rattle.taint_events.specs.Starting.{IsStarted}
use Rattle.taint_members.specs.declared.member.Held.{Held}
use Rattle.taint_steps.specs.Table.{Tables}
use Rattle.rv64_model.specs.declared.linkage.Linkage.{Linkage}
use Rattle.taint_state.specs.Events.{BecomesTwo, ForksTo, Hears, PutsSeen, event_by_member, is_one, plain_heard, sees}
use Rattle.taint_state.specs.EventsShow.{BeginsShow, Follows, ForksShow, ReceivesShow, StartsShow}
use Rattle.taint_state.specs.Goes.{begin_inside}
use Rattle.taint_group.specs.Groups.{ReturnsIn, ReturnsOne}
use Rattle.taint_state.specs.Kept.{KeptHeard, KeptMember}
use Rattle.taint_group.specs.Moves.{AreHeldOnce, BeginsAs, HasChild, IsChildOf, MaySeat, ReceivesEntry, ReceivesIn, ReceivesOne, Seats, seated}
use Rattle.taint_state.specs.RunsShow.{kept_member}
use Rattle.taint_group.specs.Tables.{AreKeyed, AreSoundTables, HasKeyBy, kept_in}
use Rattle.taint_group.specs.declared.memories.MemoryKind.TheVariants.{Segment, Window}
use Rattle.taint_group.proofs.Keyed.{HoldsSame, at-some, keyed-from, nth-map, same-but}
use Rattle.taint_group.proofs.Seating.{ShareSegment, held-once, seat-keyed, seat-seen}
use Rattle.taint_group.proofs.TablesReceiving.{tables-receive}
use Rattle.taint_group.specs.Turns.{StartsAs, StartsEntry, holds_of}
use Rattle.taint_group.proofs.Groups.{tables_with}
use Rattle.taint_group.proofs.Tables.{nth-other, nth-set}
use Rattle.taint_group.proofs.Turning.{of-none, of-place, stand-still}

-- what is kept goes on by an event of a live member
abbrev pub GoesAt : (Holds → Transfer) → ℕ → ℕ → Record → Cpu → Linkage → List KeptHeard → Tables → List KeptHeard → Tables → Type 0
GoesAt transfer pid event e before linkage heard x after y =
    IfSome (nth x.members pid) (λ (old : MemberSets). Follows (event_by_member pid before (transfer (holds_of old)) event e) (kept_in linkage heard x) (kept_in linkage after y) × AreKeyed y)

-- the same where it stands elsewhere
pub goes-there : (transfer : Holds → Transfer) (pid event : ℕ) (e : Record) (before : Cpu) (linkage : Linkage) (heard : List KeptHeard) (x : Tables) (then : List KeptHeard) (y z : Tables)
    → z ≡ y → GoesAt transfer pid event e before linkage heard x then y → GoesAt transfer pid event e before linkage heard x then z
goes-there transfer pid event e before linkage heard x then y z there goes = subst (λ (w : Tables). GoesAt transfer pid event e before linkage heard x then w) (sym there) goes

pub tables-there : (m n : List (Option MemberSets)) (s t : List (List ℕ)) (sets : Numbered) → m ≡ n → s ≡ t → tables_with m s sets ≡ tables_with n t sets
tables-there m n s t sets e f = ap (λ l. tables_with l s sets) e ∙ ap (λ l. tables_with n l sets) f

-- the entry that receives bytes is that of the number
pub receives-in : (pid at : ℕ) (numbers : List ℕ) (members : List (Option MemberSets)) (d after : Option MemberSets) (memories written : Memories) → pid < length members
    → ReceivesEntry at numbers (slice_index_or members pid d) after memories written → ReceivesIn pid at numbers members (slice_set members pid after) memories written
receives-in pid at numbers members d after memories written below entry =
    of-place (λ o. IfSome o (ReceivesOne pid at numbers members (slice_set members pid after) memories written)) members pid d below (by_entry (slice_index_or members pid d) entry)
  where
    by_entry : (o : Option MemberSets) → ReceivesEntry at numbers o after memories written → IfSome o (ReceivesOne pid at numbers members (slice_set members pid after) memories written)
    by_entry None h = tt
    by_entry (Some old) h = record { new = h.0; receives = h.2; members = ap (slice_set members pid) h.1 }

pub receives-none : (pid at : ℕ) (numbers : List ℕ) (members after : List (Option MemberSets)) (memories written : Memories) → length members ≤ pid
    → ReceivesIn pid at numbers members after memories written
receives-none pid at numbers members after memories written past = of-none (λ o. IfSome o (ReceivesOne pid at numbers members after memories written)) members pid past tt

-- what bytes that are received do to tables
pub receives-go : (linkage : Linkage) (heard then : List KeptHeard) (pid event at : ℕ) (numbers : List ℕ) (count : ℕ) (x y : Tables) → Hears (plain_heard event numbers) heard then → ReceivesShow
    → AreSoundTables linkage heard x → AreReceived y.sets event count numbers → StandAsBefore x.sets y.sets → ReceivesIn pid at numbers x.members y.members x.memories y.memories
    → length y.memories ≡ length x.memories → (e : Record) (before : Cpu) → event_len e ≡ count
    → GoesAt (λ holds. Receives pid (place_of holds at count) count) pid event e before linkage heard x then y
receives-go linkage heard then pid event at numbers count x y hears show sound items stand receives keys e before len = of (nth x.members pid) refl receives
  where
    of : (o : Option MemberSets) → nth x.members pid ≡ o → IfSome o (ReceivesOne pid at numbers x.members y.members x.memories y.memories)
        → IfSome o (λ old. Follows (event_by_member pid before (Receives pid (place_of (holds_of old) at count) count) event e) (kept_in linkage heard x) (kept_in linkage then y) × AreKeyed y)
    of None is one = tt
    of (Some old) is one =
        let took = tables-receive linkage heard then pid at numbers old one.new (plain_heard event numbers) x y sound hears (record {
          was = is;
          members = one.members;
          receives = one.receives;
          sets = stand;
          keys = keys;
        }) in (
          show (kept_in linkage heard x) (kept_in linkage then y) pid event e before at count (kept_member x.memories old) (kept_member y.memories one.new) numbers sound.kept (sym len) items
              took.receives took.becomes,
          took.keyed,
        )

-- the same where the tables stand elsewhere, and the event is heard last
pub receives-group : (linkage : Linkage) (heard then : List KeptHeard) (pid event at : ℕ) (numbers : List ℕ) (count : ℕ) (m m' n n' : List (Option MemberSets)) (s s' t t' : Memories) (sets new : Numbered)
    → m' ≡ m → n' ≡ n → s' ≡ s → t' ≡ t → Hears (plain_heard event numbers) heard then → ReceivesShow → AreSoundTables linkage heard (tables_with m s sets)
    → AreReceived new event count numbers → StandAsBefore sets new → ReceivesIn pid at numbers m' n s' t → length t ≡ length s' → (e : Record) (before : Cpu) → event_len e ≡ count
    → GoesAt (λ holds. Receives pid (place_of holds at count) count) pid event e before linkage heard (tables_with m s sets) then (tables_with n' t' new)
receives-group linkage heard then pid event at numbers count m m' n n' s s' t t' sets new em en es et hears show sound items stand receives keys e before len =
    goes-there (λ holds. Receives pid (place_of holds at count) count) pid event e before linkage heard (tables_with m s sets) then (tables_with n t new) (tables_with n' t' new)
    (tables-there n' n t' t new en et)
    (receives-go linkage heard then pid event at numbers count (tables_with m s sets) (tables_with n t new) hears show sound items stand
    (subst (λ l. ReceivesIn pid at numbers m n l t) es (subst (λ l. ReceivesIn pid at numbers l n s' t) em receives)) (keys ∙ ap length es) e before len)

abbrev made_of : Option Held → Option ℕ
made_of o = option_map (λ (held : Held). held.made) o

kept-parts : (a b : KeptMember) → a.holds ≡ b.holds → a.registers ≡ b.registers → a.slot ≡ b.slot → a.window ≡ b.window → a.segment ≡ b.segment → a ≡ b
kept-parts a b h r s w g = λ i. record { holds = h i; registers = r i; slot = s i; window = w i; segment = g i }

cond-same : {X : Type 0} (b : Bool) (x y : X) → x ≡ y → cond b x y ≡ y
cond-same true x y e = e
cond-same false x y e = refl

-- a fork whose child has its place
module _ (linkage : Linkage) (heard then : List KeptHeard) (pid child event : ℕ) (numbers : List ℕ) (count : ℕ) (m back after : List (Option MemberSets)) (memories written : Memories) (sets : Numbered) (old : MemberSets) (kid : NewMember)
    (hears : Hears (plain_heard event numbers) heard then) (show : ForksShow) (sound : AreSoundTables linkage heard (tables_with m memories sets)) (empty : AreEmpty count numbers) (is : nth m pid ≡ Some old)
    (one : ReturnsOne pid m back old) (birth : IsChildOf memories old kid) (seats : Seats child event kid back after memories written) where
  abbrev x : Tables
  x = tables_with m memories sets

  abbrev z : Tables
  z = tables_with back memories sets

  abbrev y : Tables
  y = tables_with after written sets

  window-kept : one.new.window ≡ old.window
  window-kept = ap (λ (k : MemberSets). k.window) one.becomes.others

  segment-kept : one.new.segment ≡ old.segment
  segment-kept = ap (λ (k : MemberSets). k.segment) one.becomes.others

  returned : nth back pid ≡ Some one.new
  returned = ap (λ l. nth l pid) one.members ∙ nth-set m pid old one.new is

  others : (p : ℕ) → p ≢ pid → nth back p ≡ nth m p
  others p ne = ap (λ l. nth l p) one.members ∙ nth-other m pid p (Some one.new) ne

  keyed-back : AreKeyed z
  keyed-back = keyed-from x z sound.keyed (omega arith) (same-but x z pid (subst (λ o. HoldsSame o (nth m pid)) (sym returned) (subst (HoldsSame (Some one.new)) (sym is) (window-kept, segment-kept))) others)

  shares : ShareSegment z kid
  shares = inl (pid, one.new, returned, birth.segment ∙ sym segment-kept)

  keyed : AreKeyed y
  keyed = seat-keyed child event kid z y keyed-back seats shares

  abbrev seat : MemberSets
  seat = seated kid event seats.key

  abbrev kept_seat : KeptMember
  kept_seat = kept_member written seat

  seen : PutsSeen child kept_seat (map (option_map (kept_member memories)) back) (map (option_map (kept_member written)) after)
  seen = seat-seen child event kid z y keyed-back seats shares

  -- the segment isn't the fresh window
  segment-there : (o : Option Held) → HasKeyBy Window event seats.key Segment o → held_numbers o written ≡ held_numbers o memories
  segment-there None h = refl
  segment-there (Some held) h = seats.put.others held.key (λ e. segment-window (h.1 e).0)
    where
      segment-window : {A : Type 0} → Segment ≡ Window → A
      segment-window e = absurd (cc)

  segment-old : held_numbers kid.segment written ≡ held_numbers old.segment memories
  segment-old =
      ap (λ o. held_numbers o written) (birth.segment ∙ sym segment-kept)
      ∙ (segment-there one.new.segment (at-some (λ (k : MemberSets). HasKeyBy Window event seats.key Segment k.segment) (nth back pid) one.new returned (seats.own Segment pid))
      ∙ ap (λ o. held_numbers o memories) segment-kept)

  window-old : kept_seat.window ≡ window_numbers old memories
  window-old = seats.put.one ∙ birth.window

  parent-sees : sees kept_seat (kept_member memories one.new) ≡ kept_member memories one.new
  parent-sees =
      kept-parts (sees kept_seat (kept_member memories one.new)) (kept_member memories one.new) refl refl refl
      (cond-same (one.new.window.made == event) kept_seat.window (window_numbers one.new memories) (window-old ∙ ap (λ (h : Held). slice_index_or memories h.key []) (sym window-kept)))
      (cond-same (is_one (made_of one.new.segment) (made_of kid.segment)) kept_seat.segment (held_numbers one.new.segment memories) (segment-old ∙ ap (λ o. held_numbers o memories) (sym segment-kept)))

  forks-to : ForksTo event (kept_member memories old) kept_seat
  forks-to = record {
    result = birth.result;
    others =
        kept-parts kept_seat (record (kept_member memories old) { holds = record { window = event; segment = made_of old.segment }; registers = kid.registers })
        (ap (λ o. record { window = event; segment = made_of o }) birth.segment) refl birth.slot window-old segment-old;
  }

  becomes : BecomesTwo pid child (kept_member memories old) (kept_member memories one.new) kept_seat (plain_heard event numbers) (kept_in linkage heard x) (kept_in linkage then y)
  becomes = record {
    was = nth-map (kept_member memories) m pid ∙ ap (option_map (kept_member memories)) is;
    stays = record { linkage = refl; sets = stand-still sets };
    parent = λ ne. seen.others pid ne ∙ (ap (option_map (sees kept_seat)) (nth-map (kept_member memories) back pid ∙ ap (option_map (kept_member memories)) returned) ∙ ap (λ (k : KeptMember). Some k) parent-sees);
    begins = seen.one;
    others = λ p np nc.
        seen.others p nc
        ∙ ap (option_map (sees kept_seat)) (nth-map (kept_member memories) back p ∙ (ap (option_map (kept_member memories)) (others p np) ∙ sym (nth-map (kept_member memories) m p)));
    heard = hears;
  }

  pub forks-both : (e : Record) (before : Cpu) → event_len e ≡ count
      → Follows (event_by_member pid before (Forks pid child (holds_of old).window event) event e) (kept_in linkage heard x) (kept_in linkage then y) × AreKeyed y
  forks-both e before len = (
    show (kept_in linkage heard x) (kept_in linkage then y) pid event e before child (kept_member memories old) (kept_member memories one.new) kept_seat numbers sound.kept
        (subst (λ n. AreEmpty n numbers) (sym len) empty) (record { result = one.becomes.result; others = ap (kept_member memories) one.becomes.others }) forks-to becomes,
    keyed,
  )

-- what a fork does to tables
pub forks-go : (linkage : Linkage) (heard then : List KeptHeard) (pid child event : ℕ) (numbers : List ℕ) (count : ℕ) (m back after : List (Option MemberSets)) (memories written : Memories) (sets : Numbered) (kid : Option NewMember)
    → Hears (plain_heard event numbers) heard then → ForksShow → AreSoundTables linkage heard (tables_with m memories sets) → AreEmpty count numbers → ReturnsIn pid m back → HasChild memories (nth m pid) kid
    → MaySeat child event kid back after memories written → (e : Record) (before : Cpu) → event_len e ≡ count
    → GoesAt (λ holds. Forks pid child holds.window event) pid event e before linkage heard (tables_with m memories sets) then (tables_with after written sets)
forks-go linkage heard then pid child event numbers count m back after memories written sets kid hears show sound empty returns born places e before len = of (nth m pid) refl returns born
  where
    Goal : MemberSets → Type 0
    Goal old = Follows (event_by_member pid before (Forks pid child (holds_of old).window event) event e) (kept_in linkage heard (tables_with m memories sets)) (kept_in linkage then (tables_with after written sets)) × AreKeyed (tables_with after written sets)

    by_kid : (old : MemberSets) → nth m pid ≡ Some old → ReturnsOne pid m back old → (k : Option NewMember) → IsSomeAnd k (IsChildOf memories old) → MaySeat child event k back after memories written → Goal old
    by_kid old is one None birth seats = absurd birth
    by_kid old is one (Some k) birth seats = forks-both linkage heard then pid child event numbers count m back after memories written sets old k hears show sound empty is one birth seats e before len

    of : (o : Option MemberSets) → nth m pid ≡ o → IfSome o (ReturnsOne pid m back) → HasChild memories o kid → IfSome o Goal
    of None is one birth = tt
    of (Some old) is one birth = by_kid old is one kid birth places

-- where a child is to have its place, each memory has one key
pub forks-ready : (x : Tables) (pid : ℕ) (back : List (Option MemberSets)) (kid : Option NewMember) → AreKeyed x → ReturnsIn pid x.members back → (nth x.members pid ≡ None → kid ≡ None)
    → IfSome kid (λ (k : NewMember). AreHeldOnce (length x.memories) back)
forks-ready x pid back None keyed returns none = tt
forks-ready x pid back (Some kid) keyed returns none = of (nth x.members pid) refl returns
  where
    not-none : {A : Type 0} → Some kid ≡ None → A
    not-none e = absurd (cc)

    of : (o : Option MemberSets) → nth x.members pid ≡ o → IfSome o (ReturnsOne pid x.members back) → AreHeldOnce (length x.memories) back
    of None is h = not-none (none is)
    of (Some old) is one =
        held-once (record x { members = back }) (keyed-from x (record x { members = back }) keyed (omega arith)
        (same-but x (record x { members = back }) pid
        (subst (λ o. HoldsSame o (nth x.members pid)) (sym (ap (λ l. nth l pid) one.members ∙ nth-set x.members pid old one.new is)) (subst (HoldsSame (Some one.new)) (sym is) (ap (λ (k : MemberSets). k.window) one.becomes.others, ap (λ (k : MemberSets). k.segment) one.becomes.others)))
        (λ p ne. ap (λ l. nth l p) one.members ∙ nth-other x.members pid p (Some one.new) ne)))

-- the same where the tables stand elsewhere
pub ready-there : (kid : Option NewMember) (s t : Memories) (l back : List (Option MemberSets)) → s ≡ t → l ≡ back → IfSome kid (λ (k : NewMember). AreHeldOnce (length t) back) → IfSome kid (λ (k : NewMember). AreHeldOnce (length s) l)
ready-there kid s t l back e f h = subst (λ (u : Memories). IfSome kid (λ (k : NewMember). AreHeldOnce (length u) l)) (sym e) (subst (λ (b : List (Option MemberSets)). IfSome kid (λ (k : NewMember). AreHeldOnce (length t) b)) (sym f) h)

pub seats-there : (pid event : ℕ) (kid : Option NewMember) (s t written : Memories) (l back after : List (Option MemberSets)) → s ≡ t → l ≡ back → MaySeat pid event kid l after s written → MaySeat pid event kid back after t written
seats-there pid event kid s t written l back after e f h = subst (λ (u : Memories). MaySeat pid event kid back after u written) e (subst (λ (b : List (Option MemberSets)). MaySeat pid event kid b after s written) f h)

-- what a member that begins does to tables
pub begins-group : (linkage : Linkage) (heard : List KeptHeard) (pid event : ℕ) (m : NewMember) (members after : List (Option MemberSets)) (memories written : Memories) (sets now : Numbered) → BeginsShow
    → AreSoundTables linkage heard (tables_with members memories sets) → StandAsBefore sets now → BeginsAs now event m → Seats pid event m members after memories written → (e : Record) (before : Cpu)
    → Follows (begin_inside pid event e before) (kept_in linkage heard (tables_with members memories sets)) (kept_in linkage heard (tables_with after written now)) × AreKeyed (tables_with after written now)
begins-group linkage heard pid event m members after memories written sets now show sound stand begins seats e before =
    let x = tables_with members memories sets in
    let y = tables_with after written now in (
      show (kept_in linkage heard x) (kept_in linkage heard y) pid event e before (kept_member written (seated m event seats.key)) sound.kept
          (record {
            holds = ap (λ o. record { window = event; segment = made_of o }) begins.segment;
            registers = begins.registers;
            slot = begins.slot;
            window = subst (AreItemsFrom now event) (sym seats.put.one) begins.window;
            segment = ap (λ o. held_numbers o written) begins.segment;
          })
          (record {
            linkage = refl;
            sets = stand;
            heard = λ e. refl;
            members = seat-seen pid event m x y sound.keyed seats (inr begins.segment);
          }),
      seat-keyed pid event m x y sound.keyed seats (inr begins.segment),
    )

-- what a member that starts from an image does to tables
pub starts-go : (linkage : Linkage) (heard then : List KeptHeard) (pid event load : ℕ) (numbers : List ℕ) (block block_len count : ℕ) (fresh : Option NewMember) (m after : List (Option MemberSets)) (memories written : Memories) (sets now : Numbered)
    → Hears (plain_heard event numbers) heard then → StartsShow → AreSoundTables linkage heard (tables_with m memories sets) → AreReceived now event count numbers → StandAsBefore sets now
    → StartsEntry memories load numbers block block_len (nth m pid) fresh → MaySeat pid event fresh m after memories written → (e : Record) (before : Cpu) → event_len e ≡ count
    → GoesAt (λ holds. Starts pid event load count (place_of holds block block_len) block_len) pid event e before linkage heard (tables_with m memories sets) then (tables_with after written now)
starts-go linkage heard then pid event load numbers block block_len count fresh m after memories written sets now hears show sound items stand started seats e before len = of (nth m pid) refl started
  where
    x : Tables
    x = tables_with m memories sets

    y : Tables
    y = tables_with after written now

    Goal : MemberSets → Type 0
    Goal old = Follows (event_by_member pid before (Starts pid event load count (place_of (holds_of old) block block_len) block_len) event e) (kept_in linkage heard x) (kept_in linkage then y) × AreKeyed y

    by_new : (old : MemberSets) → nth m pid ≡ Some old → (n : Option NewMember) → IsSomeAnd n (StartsAs memories load numbers block block_len old) → MaySeat pid event n m after memories written → Goal old
    by_new old is None starts seats = absurd starts
    by_new old is (Some new) starts seats = (
      show (kept_in linkage heard x) (kept_in linkage then y) pid event e before load count block block_len (kept_member memories old) (kept_member written (seated new event seats.key)) numbers sound.kept (sym len) items
          (record {
            holds = ap (λ o. record { window = event; segment = made_of o }) starts.segment;
            registers = starts.registers;
            slot = starts.slot;
            window = subst (IsStarted load numbers (number_at old memories block) block_len) (sym seats.put.one) starts.window;
            segment = ap (λ o. held_numbers o written) starts.segment;
          })
          (record {
            was = nth-map (kept_member memories) m pid ∙ ap (option_map (kept_member memories)) is;
            stays = record { linkage = refl; sets = stand };
            members = seat-seen pid event new x y sound.keyed seats (inr starts.segment);
            heard = hears;
          }),
      seat-keyed pid event new x y sound.keyed seats (inr starts.segment),
    )

    of : (o : Option MemberSets) → nth m pid ≡ o → StartsEntry memories load numbers block block_len o fresh → IfSome o Goal
    of None is h = tt
    of (Some old) is h = by_new old is fresh h seats

-- a record and registers
pub some_record : Record
some_record = entry.Unplug 0

pub begins-sound : (linkage : Linkage) (heard : List KeptHeard) (pid event : ℕ) (x y : Tables)
    → ((e : Record) (before : Cpu) → Follows (begin_inside pid event e before) (kept_in linkage heard x) (kept_in linkage heard y) × AreKeyed y) → AreSoundTables linkage heard y
begins-sound linkage heard pid event x y begins =
    let one = begins some_record (cpu_at 0) in
    record { kept = one.0.sound; keyed = one.1 }
