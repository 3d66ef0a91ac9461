-- Groups in which a member gets a fresh segment.
use Rattle.std.proofs.Common.{◌≡◌, ◌≢◌, ◌⊎◌, inl, inr, ℕ, ◌+◌, zero, suc, ◌==◌, ◌<◌, ◌≤◌, cond, Bool, true, false, List, length, slice_index, slice_set, Option, Some, None, IfSome, option_map, refl, sym, subst, ap, ◌∙◌, arith}
use Rattle.std.proofs.lemmas.Bool.{eqb-true, eqb-false, eq-eqb}
use Rattle.arn_base.specs.declared.machine.Cpu.{Cpu}
use Rattle.arn_base.specs.declared.records.Record.{Record}
use Rattle.parts_model.specs.Numbered.{nth}
use Rattle.acts_model.specs.Records.{event_len}
use Rattle.acts_model.specs.Transfers.{Shares}
use Rattle.taint_events.specs.Bytes.{AreEmpty}
use Rattle.taint_members.specs.Access.{Memories, held_numbers, window_numbers}
use Rattle.taint_members.specs.declared.member.MemberSets.{MemberSets}
use Rattle.taint_members.specs.declared.member.Held.{Held}
use Rattle.taint_steps.specs.Table.{Tables}
use Rattle.rv64_model.specs.declared.linkage.Linkage.{Linkage}
use Rattle.taint_state.specs.Events.{BecomesShared, Hears, SharesTo, event_by_member, plain_heard}
use Rattle.taint_state.specs.EventsShow.{Follows, SharesShow}
use Rattle.taint_state.specs.Kept.{KeptHeard}
use Rattle.taint_group.specs.Moves.{AreHeldOnce, IsFree, IsFreshSegment, IsKeyBy, PutsMemory, SharesAs, held_key, key_made}
use Rattle.taint_state.specs.RunsShow.{kept_member}
use Rattle.taint_group.specs.Tables.{AreKeyed, AreSoundTables, HasKeyBy, HaveOneKey, held_of, kept_in}
use Rattle.taint_group.specs.declared.memories.MemoryKind.{MemoryKind}
use Rattle.taint_group.specs.declared.memories.MemoryKind.TheVariants.{Segment, Window}
use Rattle.taint_group.specs.Turns.{ChangesIn, ChangesOne, LivesAs}
use Rattle.taint_group.proofs.Groups.{tables_with}
use Rattle.taint_group.proofs.Joining.{GoesAt, goes-there, tables-there}
use Rattle.taint_group.proofs.Keyed.{IsFrom, at-some, nth-map, puts-keyed, tables-seen}
use Rattle.taint_group.proofs.Tables.{nth-other, nth-set}
use Rattle.taint_group.proofs.Turning.{nth-past, stand-still}
use Rattle.taint_spans.specs.Numbered.{Numbered}

some-same : (a b : MemberSets) → Some a ≡ Some b → a ≡ b
some-same a b e = cc

module _ (linkage : Linkage) (heard then : List KeptHeard) (pid event key : ℕ) (numbers : List ℕ) (fresh : List ℕ) (m after : List (Option MemberSets)) (memories written : Memories) (sets : Numbered) (old new : MemberSets)
    (sound : AreSoundTables linkage heard (tables_with m memories sets)) (is : nth m pid ≡ Some old) (members : after ≡ slice_set m pid (Some new)) (becomes : SharesAs (record { made = event; key = key }) old new)
    (own : IsKeyBy Segment event key m) (whole : IsFreshSegment fresh) (put : PutsMemory key fresh memories written) (hears : Hears (plain_heard event numbers) heard then) where
  abbrev pub shared : Held
  shared = record { made = event; key = key }

  abbrev pub x : Tables
  x = tables_with m memories sets

  abbrev pub y : Tables
  y = tables_with after written sets

  segment : new.segment ≡ Some shared
  segment = ap (λ (k : MemberSets). k.segment) becomes.others

  one : nth after pid ≡ Some new
  one = ap (λ l. nth l pid) members ∙ nth-set m pid old new is

  others : (p : ℕ) → p ≢ pid → nth after p ≡ nth m p
  others p ne = ap (λ l. nth l p) members ∙ nth-other m pid p (Some new) ne

  numbers-of : held_numbers new.segment written ≡ fresh
  numbers-of = ap (λ s. held_numbers s written) segment ∙ put.one

  segment-window : {A : Type 0} → Window ≡ Segment → A
  segment-window e = absurd (cc)

  same-window : window_numbers old written ≡ window_numbers old memories
  same-window = put.others old.window.key (λ e. segment-window ((at-some (λ (k : MemberSets). HasKeyBy Segment event key Window (held_of Window k)) (nth m pid) old is (own Window pid)).1 e).0)

  pub shares-to : SharesTo event (kept_member memories old) (kept_member written new)
  shares-to = record {
    result = becomes.result;
    whole = ap length numbers-of ∙ whole.whole;
    zeros = λ k. ap (λ l. slice_index l k) numbers-of ∙ whole.zeros k;
    others =
        ap (kept_member written) becomes.others
        ∙ (ap (λ l. record (kept_member memories old) { holds = record { window = old.window.made; segment = Some event }; registers = new.registers; window = l; segment = held_numbers (Some shared) written }) same-window
        ∙ ap (λ l. record (kept_member memories old) { holds = record { window = old.window.made; segment = Some event }; registers = new.registers; segment = l }) (ap (λ s. held_numbers s written) (sym segment)));
  }

  from : (kind : MemoryKind) (p : ℕ) (k : MemberSets) → nth after p ≡ Some k → IsFrom Segment shared x kind k
  from kind p k e = by_test kind (p == pid) refl
    where
      by_test : (kind : MemoryKind) (b : Bool) → (p == pid) ≡ b → IsFrom Segment shared x kind k
      by_test Segment true same = inl (refl, sym (ap (λ (k : MemberSets). k.segment) (is-new same)) ∙ segment)
        where
          is-new : (p == pid) ≡ true → new ≡ k
          is-new same = some-same new k (sym one ∙ (ap (λ q. nth after q) (sym (eqb-true p pid same)) ∙ e))
      by_test Window true same =
          inr (inl (pid, old, is, sym (ap (λ (k : MemberSets). Some k.window) (some-same new k (sym one ∙ (ap (λ q. nth after q) (sym (eqb-true p pid same)) ∙ e)))) ∙ ap (λ (k : MemberSets). Some k.window) becomes.others))
      by_test kind false apart = inr (inl (p, k, sym (others p (eqb-false p pid apart)) ∙ e, refl))

  keyed : AreKeyed y
  keyed = puts-keyed Segment event key fresh x y sound.keyed own put from

  shares-becomes : BecomesShared pid (kept_member memories old) (kept_member written new) (plain_heard event numbers) (kept_in linkage heard x) (kept_in linkage then y)
  shares-becomes = record {
    was = nth-map (kept_member memories) m pid ∙ ap (option_map (kept_member memories)) is;
    stays = record { linkage = refl; sets = stand-still sets };
    members = tables-seen x y pid new Segment shared keyed one segment put.others others;
    heard = hears;
  }

  pub shares-both : (count : ℕ) → SharesShow → AreEmpty count numbers → (e : Record) (before : Cpu) → event_len e ≡ count
      → Follows (event_by_member pid before (Shares pid event) event e) (kept_in linkage heard x) (kept_in linkage then y) × AreKeyed y
  shares-both count show empty e before len = (
    show (kept_in linkage heard x) (kept_in linkage then y) pid event e before (kept_member memories old) (kept_member written new) numbers sound.kept
        (subst (λ n. AreEmpty n numbers) (sym len) empty) shares-to shares-becomes,
    keyed,
  )

-- what a fresh segment does to tables
pub shares-go : (linkage : Linkage) (heard then : List KeptHeard) (pid event key : ℕ) (numbers : List ℕ) (count : ℕ) (fresh : List ℕ) (m after : List (Option MemberSets)) (memories written : Memories) (sets : Numbered) → Hears (plain_heard event numbers) heard then → SharesShow
    → AreSoundTables linkage heard (tables_with m memories sets) → AreEmpty count numbers → IsKeyBy Segment event key m → IsFreshSegment fresh → PutsMemory key fresh memories written
    → ChangesIn (LivesAs (SharesAs (record { made = event; key = key }))) pid m after → (e : Record) (before : Cpu) → event_len e ≡ count
    → GoesAt (λ holds. Shares pid event) pid event e before linkage heard (tables_with m memories sets) then (tables_with after written sets)
shares-go linkage heard then pid event key numbers count fresh m after memories written sets hears show sound empty own whole put changes e before len = of (nth m pid) refl changes
  where
    Goal : MemberSets → Type 0
    Goal old = Follows (event_by_member pid before (Shares pid event) event e) (kept_in linkage heard (tables_with m memories sets)) (kept_in linkage then (tables_with after written sets)) × AreKeyed (tables_with after written sets)

    by_new : (old : MemberSets) (n : Option MemberSets) → nth m pid ≡ Some old → LivesAs (SharesAs (record { made = event; key = key })) old n → after ≡ slice_set m pid n → Goal old
    by_new old None is lives members = absurd lives
    by_new old (Some new) is lives members = shares-both linkage heard then pid event key numbers fresh m after memories written sets old new sound is members lives own whole put hears count show empty e before len

    of : (o : Option MemberSets) → nth m pid ≡ o → IfSome o (ChangesOne (LivesAs (SharesAs (record { made = event; key = key }))) pid m after) → IfSome o Goal
    of None is each = tt
    of (Some old) is each = by_new old each.new is each.becomes each.members

-- the same where the tables stand elsewhere, and the event is heard last
pub shares-group : (linkage : Linkage) (heard then : List KeptHeard) (pid event key : ℕ) (numbers : List ℕ) (count : ℕ) (fresh : List ℕ) (m m' n n' : List (Option MemberSets)) (memories written : Memories) (sets : Numbered)
    → m' ≡ m → n' ≡ n → Hears (plain_heard event numbers) heard then → SharesShow → AreSoundTables linkage heard (tables_with m memories sets) → AreEmpty count numbers → IsKeyBy Segment event key m
    → IsFreshSegment fresh → PutsMemory key fresh memories written → ChangesIn (LivesAs (SharesAs (record { made = event; key = key }))) pid m' n → (e : Record) (before : Cpu) → event_len e ≡ count
    → GoesAt (λ holds. Shares pid event) pid event e before linkage heard (tables_with m memories sets) then (tables_with n' written sets)
shares-group linkage heard then pid event key numbers count fresh m m' n n' memories written sets em en hears show sound empty own whole put changes e before len =
    goes-there (λ holds. Shares pid event) pid event e before linkage heard (tables_with m memories sets) then (tables_with n written sets) (tables_with n' written sets)
    (tables-there n' n written written sets en refl)
    (shares-go linkage heard then pid event key numbers count fresh m n memories written sets hears show sound empty own whole put
    (subst (λ l. ChangesIn (LivesAs (SharesAs (record { made = event; key = key }))) pid l n) em changes) e before len)

-- the key that a member's memory has which this event made
pub found-key : (kind : MemoryKind) (count event : ℕ) (members : List (Option MemberSets)) → AreHeldOnce count members → (i key : ℕ) → held_key kind event (nth members i) ≡ Some key → IsKeyBy kind event key members × (key ≤ count)
found-key kind count event members once i key found = by_member (nth members i) refl found
  where
    by_member : (o : Option MemberSets) → nth members i ≡ o → held_key kind event o ≡ Some key → IsKeyBy kind event key members × (key ≤ count)
    by_member None e h = absurd (cc)
    by_member (Some m) e h = by_held (held_of kind m) refl h
      where
        by_held : (s : Option Held) → held_of kind m ≡ s → key_made event s ≡ Some key → IsKeyBy kind event key members × (key ≤ count)
        by_held None f h = absurd (cc)
        by_held (Some s) f h = by_test (s.made == event) refl h
          where
            by_test : (b : Bool) → (s.made == event) ≡ b → cond b (Some s.key) None ≡ Some key → IsKeyBy kind event key members × (key ≤ count)
            by_test false apart h = absurd (cc)
            by_test true same h = (λ other p. at other (nth members p) (once.once other kind p i), below)
              where
                is-key : s.key ≡ key
                is-key = cc

                below : key ≤ count
                below =
                    let least : s.key < count = at-some (λ (held : Held). held.key < count) (held_of kind m) s f (at-some (λ (m : MemberSets). IfSome (held_of kind m) (λ (held : Held). held.key < count)) (nth members i) m e (once.below kind i)) in
                    let key-is = is-key in omega arith

                named : (other : MemoryKind) (t : Option Held) → HasKeyBy kind s.made s.key other t → HasKeyBy kind event key other t
                named other t h = subst (λ n. HasKeyBy kind n key other t) (eqb-true s.made event same) (subst (λ n. HasKeyBy kind s.made n other t) is-key h)

                at : (other : MemoryKind) (o : Option MemberSets) → IfSome o (λ (k : MemberSets). IfSome (nth members i) (λ (n : MemberSets). HaveOneKey other kind (held_of other k) (held_of kind n)))
                    → IfSome o (λ (k : MemberSets). HasKeyBy kind event key other (held_of other k))
                at other None h = tt
                at other (Some k) h = named other (held_of other k) (subst (HaveOneKey other kind (held_of other k)) f (at-some (λ (n : MemberSets). HaveOneKey other kind (held_of other k) (held_of kind n)) (nth members i) m e h))

pub below-or : (p n : ℕ) → (p < n) ⊎ (n ≤ p)
below-or p zero = inr (omega arith)
below-or zero (suc n) = inl (omega arith)
below-or (suc p) (suc n) = more (below-or p n)
  where
    more : (p < n) ⊎ (n ≤ p) → (suc p < suc n) ⊎ (suc n ≤ suc p)
    more (inl below) = inl (omega arith)
    more (inr past) = inr (omega arith)

-- one entry more has no such key
pub none-more : (kind : MemoryKind) (event : ℕ) (members : List (Option MemberSets)) (i : ℕ) (item : Option MemberSets) → ((p : ℕ) → p < i → held_key kind event (nth members p) ≡ None) → nth members i ≡ item → held_key kind event item ≡ None
    → (p : ℕ) → p < i + 1 → held_key kind event (nth members p) ≡ None
none-more kind event members i item none is last p below = split (below-or p i)
  where
    split : (p < i) ⊎ (i ≤ p) → held_key kind event (nth members p) ≡ None
    split (inl before) = none p before
    split (inr past) =
        let same : p ≡ i = omega arith in
        ap (λ q. held_key kind event (nth members q)) same ∙ (ap (held_key kind event) is ∙ last)

-- a free key is its own where no member's memory of this kind was made by this event
pub free-key : (kind : MemoryKind) (key event : ℕ) (members : List (Option MemberSets)) → IsFree key members → ((p : ℕ) → p < length members → held_key kind event (nth members p) ≡ None) → IsKeyBy kind event key members
free-key kind key event members free none other p = by_member (nth members p) refl (within (below-or p (length members))) (free p other)
  where
    within : (p < length members) ⊎ (length members ≤ p) → held_key kind event (nth members p) ≡ None
    within (inl below) = none p below
    within (inr past) = ap (held_key kind event) (nth-past members p past)

    by_held : (m : MemberSets) (s : Option Held) → held_of other m ≡ s → key_made event (held_of kind m) ≡ None → IfSome s (λ (held : Held). held.key ≢ key) → HasKeyBy kind event key other s
    by_held m None f h apart = tt
    by_held m (Some s) f h apart = ((λ same. absurd (some≢none s.key (ap (λ b. cond b (Some s.key) None) (sym (eq-eqb s.made event same.1)) ∙ (ap (key_made event) (sym f ∙ ap (λ k. held_of k m) same.0) ∙ h)))), λ is. absurd (apart is))
      where
        some≢none : (k : ℕ) → Some k ≡ None → ⊥
        some≢none k e = cc

    by_member : (o : Option MemberSets) → nth members p ≡ o → held_key kind event o ≡ None → IfSome o (λ (m : MemberSets). IfSome (held_of other m) (λ (held : Held). held.key ≢ key)) → IfSome o (λ (m : MemberSets). HasKeyBy kind event key other (held_of other m))
    by_member None e h apart = tt
    by_member (Some m) e h apart = by_held m (held_of other m) refl h apart

-- the next key is free
pub next-free : (count : ℕ) (members : List (Option MemberSets)) → AreHeldOnce count members → IsFree count members
next-free count members once p kind = of (nth members p) (once.below kind p)
  where
    of-held : (s : Option Held) → IfSome s (λ (held : Held). held.key < count) → IfSome s (λ (held : Held). held.key ≢ count)
    of-held None h = tt
    of-held (Some s) h = λ e. omega arith

    of : (o : Option MemberSets) → IfSome o (λ (m : MemberSets). IfSome (held_of kind m) (λ (held : Held). held.key < count)) → IfSome o (λ (m : MemberSets). IfSome (held_of kind m) (λ (held : Held). held.key ≢ count))
    of None h = tt
    of (Some m) h = of-held (held_of kind m) h
