-- Tables in which each memory has one key.
use Rattle.std.proofs.Common.{◌≡◌, ◌≢◌, ◌⊎◌, inl, inr, ◌↔◌, ℕ, zero, suc, ◌∷◌, ◌-◌, ◌≤◌, ◌==◌, cond, Bool, true, false, List, [], map, length, slice_index_or, Option, Some, None, IfSome, option_map, refl, sym, subst, ap, ◌∙◌, arith}
use Rattle.std.proofs.lemmas.Bool.{eqb-true, eqb-false}
use Rattle.parts_model.specs.declared.limits.TheConstants.{WINDOW_START}
use Rattle.parts_model.specs.Numbered.{nth}
use Rattle.acts_model.specs.Transfers.{is_private, is_shared}
use Rattle.taint_members.specs.Access.{HasTwoKeys, HoldsKey, HoldsKeys, Memories, Writes, WritesAt, held_numbers, segment_place, window_numbers}
use Rattle.taint_members.specs.declared.member.Held.{Held}
use Rattle.taint_members.specs.declared.member.MemberSets.{MemberSets}
use Rattle.taint_steps.specs.Running.{Stores}
use Rattle.taint_steps.specs.Table.{Tables}
use Rattle.taint_state.specs.Events.{PutsSeen, is_one, sees}
use Rattle.taint_state.specs.Kept.{KeptMember}
use Rattle.taint_state.specs.RunsShow.{kept_member}
use Rattle.taint_group.specs.Moves.{IsKeyBy, PutsMemory}
use Rattle.taint_group.specs.Tables.{AreKeyed, HasKeyBy, HaveOneKey, held_of}
use Rattle.taint_group.specs.declared.memories.MemoryKind.{MemoryKind}
use Rattle.taint_group.specs.declared.memories.MemoryKind.TheVariants.{Segment, Window}

pub at-some : {X : Type 0} (P : X → Type 0) (o : Option X) (x : X) → o ≡ Some x → IfSome o P → P x
at-some P o x e h = subst (λ k. IfSome k P) e h

pub nth-map : {X Y : Type 0} (f : X → Y) (xs : List (Option X)) (k : ℕ) → nth (map (option_map f) xs) k ≡ option_map f (nth xs k)
nth-map f [] k = refl
nth-map f (x ∷ xs) zero = refl
nth-map f (x ∷ xs) (suc k) = nth-map f xs k

-- who lives holds what was held before
abbrev pub HoldsSame : Option MemberSets → Option MemberSets → Type 0
HoldsSame None old = Unit {0}
HoldsSame (Some m) None = ⊥
HoldsSame (Some m) (Some old) = (m.window ≡ old.window) × (m.segment ≡ old.segment)

pub holds-itself : (o : Option MemberSets) → HoldsSame o o
holds-itself None = tt
holds-itself (Some m) = (refl, refl)

same-held : (kind : MemoryKind) (m old : MemberSets) → (m.window ≡ old.window) × (m.segment ≡ old.segment) → held_of kind m ≡ held_of kind old
same-held Window m old e = ap (λ (h : Held). Some h) e.0
same-held Segment m old e = e.1

key-there : (s : Option Held) (x y : Memories) → length x ≤ length y → HoldsKey s x → HoldsKey s y
key-there None x y e h = tt
key-there (Some s) x y e h = omega arith

held-by : (kind : MemoryKind) (x y : Memories) (a c : Option MemberSets) → length x ≤ length y → HoldsSame a c → IfSome c (λ (k : MemberSets). HoldsKey (held_of kind k) x) → IfSome a (λ (k : MemberSets). HoldsKey (held_of kind k) y)
held-by kind x y None c e same h = tt
held-by kind x y (Some k) None e same h = absurd same
held-by kind x y (Some k) (Some j) e same h = subst (λ s. HoldsKey s y) (sym (same-held kind k j same)) (key-there (held_of kind j) x y e h)

once-by : (kind other : MemoryKind) (a b c d : Option MemberSets) → HoldsSame a c → HoldsSame b d → IfSome c (λ (k : MemberSets). IfSome d (λ (j : MemberSets). HaveOneKey kind other (held_of kind k) (held_of other j)))
    → IfSome a (λ (k : MemberSets). IfSome b (λ (j : MemberSets). HaveOneKey kind other (held_of kind k) (held_of other j)))
once-by kind other None b c d e f h = tt
once-by kind other (Some k) None c d e f h = tt
once-by kind other (Some k) (Some j) None d e f h = absurd e
once-by kind other (Some k) (Some j) (Some u) None e f h = absurd f
once-by kind other (Some k) (Some j) (Some u) (Some v) e f h =
    subst (λ s. HaveOneKey kind other s (held_of other j)) (sym (same-held kind k u e)) (subst (HaveOneKey kind other (held_of kind u)) (sym (same-held other j v f)) h)

-- each holds what some member held
pub keyed-from : (x y : Tables) → AreKeyed x → length x.memories ≤ length y.memories → ((p : ℕ) → (q : ℕ) × HoldsSame (nth y.members p) (nth x.members q)) → AreKeyed y
keyed-from x y keyed e same = record {
  held = λ kind p. held-by kind x.memories y.memories (nth y.members p) (nth x.members (same p).0) e (same p).1 (keyed.held kind (same p).0);
  once = λ kind other p q. once-by kind other (nth y.members p) (nth y.members q) (nth x.members (same p).0) (nth x.members (same q).0) (same p).1 (same q).1 (keyed.once kind other (same p).0 (same q).0);
}

-- all hold the same where all but one are as they were
pub same-but : (x y : Tables) (pid : ℕ) → HoldsSame (nth y.members pid) (nth x.members pid) → ((p : ℕ) → p ≢ pid → nth y.members p ≡ nth x.members p)
    → (p : ℕ) → (q : ℕ) × HoldsSame (nth y.members p) (nth x.members q)
same-but x y pid own others p = (p, by_test (p == pid) refl)
  where
    by_test : (b : Bool) → (p == pid) ≡ b → HoldsSame (nth y.members p) (nth x.members p)
    by_test true e = subst (λ q. HoldsSame (nth y.members q) (nth x.members q)) (sym (eqb-true p pid e)) own
    by_test false e = subst (λ o. HoldsSame o (nth x.members p)) (sym (others p (eqb-false p pid e))) (holds-itself (nth x.members p))

-- what keys say of one member, and of two
pub keys-of : (x : Tables) (p : ℕ) (m : MemberSets) → AreKeyed x → nth x.members p ≡ Some m → HoldsKeys m x.memories
keys-of x p m keyed e = record {
  window = at-some (λ (k : MemberSets). HoldsKey (held_of Window k) x.memories) (nth x.members p) m e (keyed.held Window p);
  segment = at-some (λ (k : MemberSets). HoldsKey (held_of Segment k) x.memories) (nth x.members p) m e (keyed.held Segment p);
}

pub ready-of : (x : Tables) (p : ℕ) → AreKeyed x → IfSome (nth x.members p) (λ (m : MemberSets). HoldsKeys m x.memories)
ready-of x p keyed = of (nth x.members p) refl
  where
    of : (o : Option MemberSets) → nth x.members p ≡ o → IfSome o (λ (m : MemberSets). HoldsKeys m x.memories)
    of None e = tt
    of (Some m) e = keys-of x p m keyed e

pub once-of : (x : Tables) (p q : ℕ) (m n : MemberSets) → AreKeyed x → nth x.members p ≡ Some m → nth x.members q ≡ Some n → (kind other : MemoryKind) → HaveOneKey kind other (held_of kind m) (held_of other n)
once-of x p q m n keyed e f kind other =
    at-some (λ (j : MemberSets). HaveOneKey kind other (held_of kind m) (held_of other j)) (nth x.members q) n f
    (at-some (λ (k : MemberSets). IfSome (nth x.members q) (λ (j : MemberSets). HaveOneKey kind other (held_of kind k) (held_of other j))) (nth x.members p) m e (keyed.once kind other p q))

kinds-differ : Window ≡ Segment → ⊥
kinds-differ e = absurd (cc)

kinds-apart : Segment ≡ Window → ⊥
kinds-apart e = absurd (cc)

pub two-of : (x : Tables) (p : ℕ) (m : MemberSets) → AreKeyed x → nth x.members p ≡ Some m → HasTwoKeys m
two-of x p m keyed e = of m.segment (once-of x p p m m keyed e e Window Segment)
  where
    of : (s : Option Held) → HaveOneKey Window Segment (Some m.window) s → IfSome s (λ (held : Held). m.window.key ≢ held.key)
    of None h = tt
    of (Some s) h = λ same. kinds-differ (h.1 same).0

-- what another sees of a member, where no memory but one of the member's is written
module _ (old new : Memories) (m other : MemberSets) (own : MemoryKind) (g : Held) (holds : held_of own m ≡ Some g) (others : (k : ℕ) → k ≢ g.key → slice_index_or new k [] ≡ slice_index_or old k [])
    (once : (kind one : MemoryKind) → HaveOneKey kind one (held_of kind other) (held_of one m)) where
  -- a memory of another name has another key
  apart : (kind : MemoryKind) (h : Held) → held_of kind other ≡ Some h → ((r : Held) → held_of kind m ≡ Some r → h.made ≢ r.made) → slice_index_or new h.key [] ≡ slice_index_or old h.key []
  apart kind h has differs = others h.key (λ same. let both = by.1 same in differs g (subst (λ k. held_of k m ≡ Some g) (sym both.0) holds) both.1)
    where
      by : ((kind ≡ own) × (h.made ≡ g.made)) ↔ (h.key ≡ g.key)
      by = subst (λ o. HasKeyBy own g.made g.key kind o) has (subst (λ o. HaveOneKey kind own (held_of kind other) o) holds (once kind own))

  one-key : (kind : MemoryKind) (h r : Held) → held_of kind other ≡ Some h → held_of kind m ≡ Some r → h.made ≡ r.made → h.key ≡ r.key
  one-key kind h r has is same = (subst (λ o. HasKeyBy kind r.made r.key kind o) has (subst (λ o. HaveOneKey kind kind (held_of kind other) o) is (once kind kind))).0 (refl, same)

  some-held : (a b : Held) → Some a ≡ Some b → a ≡ b
  some-held a b e = cc

  window-seen : (b : Bool) → (other.window.made == m.window.made) ≡ b → window_numbers other new ≡ cond b (window_numbers m new) (window_numbers other old)
  window-seen true e = ap (λ k. slice_index_or new k []) (one-key Window other.window m.window refl refl (eqb-true other.window.made m.window.made e))
  window-seen false e = apart Window other.window refl (λ r is same. eqb-false other.window.made m.window.made e (same ∙ ap (λ (h : Held). h.made) (sym (some-held m.window r is))))

  abbrev made_of : Option Held → Option ℕ
  made_of o = option_map (λ (held : Held). held.made) o

  segment-seen : (s r : Option Held) → other.segment ≡ s → m.segment ≡ r → (b : Bool) → is_one (made_of s) (made_of r) ≡ b → held_numbers s new ≡ cond b (held_numbers r new) (held_numbers s old)
  segment-seen None r e f true t = absurd (cc)
  segment-seen None r e f false t = refl
  segment-seen (Some s) None e f true t = absurd (cc)
  segment-seen (Some s) None e f false t = apart Segment s e (λ r is. absurd (none-some r (sym f ∙ is)))
    where
      none-some : (r : Held) → None ≡ Some r → ⊥
      none-some r q = absurd (cc)
  segment-seen (Some s) (Some r) e f true t = ap (λ k. slice_index_or new k []) (one-key Segment s r e f (eqb-true s.made r.made t))
  segment-seen (Some s) (Some r) e f false t = apart Segment s e (λ q is same. eqb-false s.made r.made t (same ∙ ap (λ (h : Held). h.made) (some-held q r (sym is ∙ f))))

  pub other-sees : kept_member new other ≡ sees (kept_member new m) (kept_member old other)
  other-sees =
      ap (λ (w : List ℕ). record (kept_member old other) { window = w; segment = held_numbers other.segment new }) (window-seen (other.window.made == m.window.made) refl)
      ∙ ap (λ (l : List ℕ). record (kept_member old other) { window = cond (other.window.made == m.window.made) (window_numbers m new) (window_numbers other old); segment = l })
      (segment-seen other.segment m.segment refl refl (is_one (made_of other.segment) (made_of m.segment)) refl)

-- so do all others in tables
pub tables-seen : (x y : Tables) (pid : ℕ) (m : MemberSets) (own : MemoryKind) (g : Held) → AreKeyed y → nth y.members pid ≡ Some m → held_of own m ≡ Some g
    → ((k : ℕ) → k ≢ g.key → slice_index_or y.memories k [] ≡ slice_index_or x.memories k []) → ((p : ℕ) → p ≢ pid → nth y.members p ≡ nth x.members p)
    → PutsSeen pid (kept_member y.memories m) (map (option_map (kept_member x.memories)) x.members) (map (option_map (kept_member y.memories)) y.members)
tables-seen x y pid m own g keyed one holds others same = record {
  one = nth-map (kept_member y.memories) y.members pid ∙ ap (option_map (kept_member y.memories)) one;
  others = λ p ne.
      nth-map (kept_member y.memories) y.members p
      ∙ (by_other p ne (nth y.members p) refl ∙ ap (option_map (sees (kept_member y.memories m))) (sym (nth-map (kept_member x.memories) x.members p)));
} where
  by_other : (p : ℕ) → p ≢ pid → (o : Option MemberSets) → nth y.members p ≡ o → option_map (kept_member y.memories) o ≡ option_map (sees (kept_member y.memories m)) (option_map (kept_member x.memories) (nth x.members p))
  by_other p ne None e = ap (λ o. option_map (sees (kept_member y.memories m)) (option_map (kept_member x.memories) o)) (sym e ∙ same p ne)
  by_other p ne (Some other) e =
      ap (λ (k : KeptMember). Some k) (other-sees x.memories y.memories m other own g holds others (once-of y p pid other m keyed e one))
      ∙ ap (λ o. option_map (sees (kept_member y.memories m)) (option_map (kept_member x.memories) o)) (sym e ∙ same p ne)

-- a write leaves all memories but one of the member's
pub record WritesOwn (m : MemberSets) (old new : Memories) : Type 0 where
  pub kind : MemoryKind
  pub held : Held
  pub holds : held_of kind m ≡ Some held
  pub others : (k : ℕ) → k ≢ held.key → slice_index_or new k [] ≡ slice_index_or old k []

nothing-written : (m : MemberSets) (old new : Memories) → new ≡ old → WritesOwn m old new
nothing-written m old new e = record { kind = Window; held = m.window; holds = refl; others = λ k ne. ap (λ l. slice_index_or l k []) e }

pub writes-own : (at : ℕ) (numbers : List ℕ) (m : MemberSets) (old new : Memories) → Writes at numbers m old new → WritesOwn m old new
writes-own at numbers m old new w = of (is_private at) (is_shared at) w
  where
    of-segment : (s : Option Held) → m.segment ≡ s → WritesAt (segment_place s at) numbers old new → WritesOwn m old new
    of-segment None e w = nothing-written m old new w
    of-segment (Some s) e w = record { kind = Segment; held = s; holds = e; others = w.others }

    of : (p s : Bool) → WritesAt (cond p (Some (record { key = m.window.key; offset = at - WINDOW_START })) (cond s (segment_place m.segment at) None)) numbers old new → WritesOwn m old new
    of true s w = record { kind = Window; held = m.window; holds = refl; others = w.others }
    of false true w = of-segment m.segment refl w
    of false false w = nothing-written m old new w

pub stores-own : (acc : Option ℕ) (numbers : List ℕ) (m : MemberSets) (old new : Memories) → Stores acc numbers m old new → WritesOwn m old new
stores-own None numbers m old new w = nothing-written m old new w
stores-own (Some at) numbers m old new w = writes-own at numbers m old new w

-- where a memory that a member holds is from: it was put, or a member held it before, or there is none
abbrev pub IsFrom : MemoryKind → Held → Tables → MemoryKind → MemberSets → Type 0
IsFrom put shared x kind m =
    ((kind ≡ put) × (held_of kind m ≡ Some shared)) ⊎ (((q : ℕ) × (n : MemberSets) × (nth x.members q ≡ Some n) × (held_of kind m ≡ held_of kind n)) ⊎ (held_of kind m ≡ None))

-- a memory is put under the key of its own
module _ (put : MemoryKind) (event key : ℕ) (fresh : List ℕ) (x y : Tables) (keyed : AreKeyed x) (own : IsKeyBy put event key x.members) (puts : PutsMemory key fresh x.memories y.memories)
    (from : (kind : MemoryKind) (p : ℕ) (m : MemberSets) → nth y.members p ≡ Some m → IsFrom put (record { made = event; key = key }) x kind m) where
  abbrev shared : Held
  shared = record { made = event; key = key }

  flip : (kind : MemoryKind) (o : Option Held) → HasKeyBy put event key kind o → HaveOneKey put kind (Some shared) o
  flip kind None h = tt
  flip kind (Some s) h = ((λ e. sym (h.0 (sym e.0, sym e.1))), λ e. let both = h.1 (sym e) in (sym both.0, sym both.1))

  none-one : (kind other : MemoryKind) (o : Option Held) → HaveOneKey kind other None o
  none-one kind other None = tt
  none-one kind other (Some s) = tt

  own-of : (kind : MemoryKind) (q : ℕ) (n : MemberSets) → nth x.members q ≡ Some n → HasKeyBy put event key kind (held_of kind n)
  own-of kind q n e = at-some (λ (k : MemberSets). HasKeyBy put event key kind (held_of kind k)) (nth x.members q) n e (own kind q)

  pair : (kind other : MemoryKind) (m n : MemberSets) → IsFrom put shared x kind m → IsFrom put shared x other n → HaveOneKey kind other (held_of kind m) (held_of other n)
  pair kind other m n (inr (inr e)) g = subst (λ o. HaveOneKey kind other o (held_of other n)) (sym e) (none-one kind other (held_of other n))
  pair kind other m n (inl e) (inl g) =
      subst (λ o. HaveOneKey kind other o (held_of other n)) (sym e.1) (subst (HaveOneKey kind other (Some shared)) (sym g.1) ((λ h. refl), λ h. (e.0 ∙ sym g.0, refl)))
  pair kind other m n (inl e) (inr (inl g)) =
      subst (λ o. HaveOneKey kind other o (held_of other n)) (sym e.1) (subst (λ k. HaveOneKey k other (Some shared) (held_of other n)) (sym e.0)
      (flip other (held_of other n) (subst (HasKeyBy put event key other) (sym g.3) (own-of other g.0 g.1 g.2))))
  pair kind other m n (inl e) (inr (inr g)) = subst (HaveOneKey kind other (held_of kind m)) (sym g) tt
  pair kind other m n (inr (inl e)) (inl g) =
      subst (HaveOneKey kind other (held_of kind m)) (sym g.1) (subst (λ k. HasKeyBy k event key kind (held_of kind m)) (sym g.0)
      (subst (HasKeyBy put event key kind) (sym e.3) (own-of kind e.0 e.1 e.2)))
  pair kind other m n (inr (inl e)) (inr (inl g)) =
      subst (λ o. HaveOneKey kind other o (held_of other n)) (sym e.3) (subst (HaveOneKey kind other (held_of kind e.1)) (sym g.3) (once-of x e.0 g.0 e.1 g.1 keyed e.2 g.2 kind other))
  pair kind other m n (inr (inl e)) (inr (inr g)) = subst (HaveOneKey kind other (held_of kind m)) (sym g) tt

  there : (kind : MemoryKind) (m : MemberSets) → IsFrom put shared x kind m → HoldsKey (held_of kind m) y.memories
  there kind m (inl e) = subst (λ o. HoldsKey o y.memories) (sym e.1) puts.there
  there kind m (inr (inl e)) =
      subst (λ o. HoldsKey o y.memories) (sym e.3) (key-there (held_of kind e.1) x.memories y.memories puts.grown
      (at-some (λ (k : MemberSets). HoldsKey (held_of kind k) x.memories) (nth x.members e.0) e.1 e.2 (keyed.held kind e.0)))
  there kind m (inr (inr e)) = subst (λ o. HoldsKey o y.memories) (sym e) tt

  pub puts-keyed : AreKeyed y
  puts-keyed = record {
    held = λ kind p. held kind p (nth y.members p) refl;
    once = λ kind other p q. once kind other p q (nth y.members p) (nth y.members q) refl refl;
  } where
    held : (kind : MemoryKind) (p : ℕ) (o : Option MemberSets) → nth y.members p ≡ o → IfSome o (λ (m : MemberSets). HoldsKey (held_of kind m) y.memories)
    held kind p None e = tt
    held kind p (Some m) e = there kind m (from kind p m e)

    once : (kind other : MemoryKind) (p q : ℕ) (o r : Option MemberSets) → nth y.members p ≡ o → nth y.members q ≡ r → IfSome o (λ (m : MemberSets). IfSome r (λ (n : MemberSets). HaveOneKey kind other (held_of kind m) (held_of other n)))
    once kind other p q None r e f = tt
    once kind other p q (Some m) None e f = tt
    once kind other p q (Some m) (Some n) e f = pair kind other m n (from kind p m e) (from other q n f)
