-- Memories that no member holds are let go of.
use Rattle.std.proofs.Common.{◌≡◌, ◌≢◌, ◌⊎◌, inl, inr, ℕ, suc, ◌+◌, ◌==◌, true, false, ◌<◌, ◌≤◌, List, [], ◌∷◌, map, length, slice_index_or, slice_set, Option, Some, None, IfSome, option_map, refl, sym, subst, ap, ◌∙◌, arith}
use Rattle.std.proofs.lemmas.Bool.{ne_eqb}
use Rattle.std.proofs.lemmas.List.{get_or-set_other, get_or-set_same, get_or_past, length-set}
use Rattle.parts_model.specs.Numbered.{nth}
use Rattle.taint_members.specs.Access.{Memories, held_numbers}
use Rattle.taint_members.specs.declared.member.Held.{Held}
use Rattle.taint_members.specs.declared.member.MemberSets.{MemberSets}
use Rattle.rv64_model.specs.declared.linkage.Linkage.{Linkage}
use Rattle.taint_spans.specs.Numbered.{Numbered}
use Rattle.taint_state.specs.Kept.{KeptHeard, KeptMember, shown}
use Rattle.taint_state.specs.RunsShow.{kept_member}
use Rattle.taint_state.specs.Sound.{IsSound}
use Rattle.taint_group.specs.Moves.{HasNoKey, IsFree, Releases}
use Rattle.taint_group.specs.Tables.{AreSoundTables, held_of, kept_in}
use Rattle.taint_group.specs.declared.memories.MemoryKind.{MemoryKind}
use Rattle.taint_group.specs.declared.memories.MemoryKind.TheVariants.{Segment, Window}
use Rattle.taint_group.proofs.Groups.{tables_with}
use Rattle.taint_group.proofs.Keyed.{at-some, holds-itself, keyed-from}
use Rattle.taint_group.proofs.Sharing.{below-or}
use Rattle.taint_group.proofs.Turning.{nth-past}

pub is-empty : (xs : List ℕ) → length xs ≡ 0 → xs ≡ []
is-empty [] e = refl
is-empty (x ∷ xs) e = absurd (omega (arith, e))

pub true-false : true ≡ false → ⊥
true-false e = absurd (cc)

-- the memory of a member has another key than one that it doesn't hold
pub holds-other : (key : ℕ) (entry : Option MemberSets) (m : MemberSets) (kind : MemoryKind) (h : Held) → entry ≡ Some m → held_of kind m ≡ Some h → HasNoKey key entry → (h.key == key) ≡ false
holds-other key entry m kind h e f none =
    ne_eqb h.key key (at-some (λ (held : Held). held.key ≢ key) (held_of kind m) h f (at-some (λ (k : MemberSets). IfSome (held_of kind k) (λ (held : Held). held.key ≢ key)) entry m e (none kind)))

-- one entry before those that don't hold it
pub free-before : (key : ℕ) (members : List (Option MemberSets)) (i : ℕ) (item : Option MemberSets) → ((p : ℕ) → i + 1 ≤ p → HasNoKey key (nth members p)) → nth members i ≡ item → HasNoKey key item
    → (p : ℕ) → i ≤ p → HasNoKey key (nth members p)
free-before key members i item none is first p from = split (below-or i p)
  where
    split : (i < p) ⊎ (p ≤ i) → HasNoKey key (nth members p)
    split (inl after) = none p (omega (arith, after))
    split (inr past) =
        let same : p ≡ i = omega (arith, past, from) in
        subst (HasNoKey key) (sym (ap (nth members) same ∙ is)) first

pub free-past : (key : ℕ) (members : List (Option MemberSets)) (p : ℕ) → length members ≤ p → HasNoKey key (nth members p)
free-past key members p past = subst (HasNoKey key) (sym (nth-past members p past)) (λ kind. tt)

-- the first memories are let go of where no member holds them
pub record ReleasesTo (members : List (Option MemberSets)) (old new : Memories) (first : ℕ) : Type 0 where
  pub count : length new ≡ length old
  pub same : (key : ℕ) → (IsFree key members → ⊥) → slice_index_or new key [] ≡ slice_index_or old key []
  pub gone : (key : ℕ) → key < first → IsFree key members → slice_index_or new key [] ≡ []

pub released-none : (members : List (Option MemberSets)) (memories : Memories) → ReleasesTo members memories memories 0
released-none members memories = record { count = refl; same = λ key held. refl; gone = λ key below. absurd (omega (arith, below)) }

-- one memory more is held
pub released-held : (members : List (Option MemberSets)) (first list : Memories) (key : ℕ) → ReleasesTo members first list key → (IsFree key members → ⊥) → ReleasesTo members first list (key + 1)
released-held members first list key so held = record {
  count = so.count;
  same = so.same;
  gone = λ k below free. split k free (below-or k key) below;
}
  where
    split : (k : ℕ) → IsFree k members → (k < key) ⊎ (key ≤ k) → k < key + 1 → slice_index_or list k [] ≡ []
    split k free (inl before) below = so.gone k before free
    split k free (inr past) below =
        let same : k ≡ key = omega (arith, past, below) in
        absurd (held (subst (λ j. IsFree j members) same free))

-- one memory more is let go of
pub released-more : (members : List (Option MemberSets)) (first list : Memories) (key : ℕ) (new : List ℕ) → ReleasesTo members first list key → IsFree key members → key < length list → new ≡ []
    → ReleasesTo members first (slice_set list key new) (key + 1)
released-more members first list key new so free there none = record {
  count = length-set list key new ∙ so.count;
  same = λ k held. get_or-set_other list key k new [] (λ e. held (subst (λ j. IsFree j members) (sym e) free)) ∙ so.same k held;
  gone = λ k below other. split k other (below-or k key) below;
}
  where
    split : (k : ℕ) → IsFree k members → (k < key) ⊎ (key ≤ k) → k < key + 1 → slice_index_or (slice_set list key new) k [] ≡ []
    split k other (inl before) below = get_or-set_other list key k new [] (λ e. absurd (omega (arith, before, e))) ∙ so.gone k before other
    split k other (inr past) below =
        let same : k ≡ key = omega (arith, past, below) in
        ap (λ j. slice_index_or (slice_set list key new) j []) same ∙ (get_or-set_same list key new [] there ∙ none)

-- all are
pub released-all : (members : List (Option MemberSets)) (old new : Memories) (count : ℕ) → ReleasesTo members old new count → length new ≤ count → Releases members old new
released-all members old new count so most = record {
  count = so.count;
  same = so.same;
  gone = λ k free. split k free (below-or k count);
}
  where
    split : (k : ℕ) → IsFree k members → (k < count) ⊎ (count ≤ k) → slice_index_or new k [] ≡ []
    split k free (inl before) = so.gone k before free
    split k free (inr past) = get_or_past new k [] (omega (arith, past, most))

not-free : (members : List (Option MemberSets)) (p : ℕ) (m : MemberSets) (kind : MemoryKind) (h : Held) → nth members p ≡ Some m → held_of kind m ≡ Some h → IsFree h.key members → ⊥
not-free members p m kind h e f free =
    at-some (λ (held : Held). held.key ≢ h.key) (held_of kind m) h f (at-some (λ (k : MemberSets). IfSome (held_of kind k) (λ (held : Held). held.key ≢ h.key)) (nth members p) m e (free p kind)) refl

map-same : {X Y : Type 0} (f g : X → Y) (xs : List (Option X)) → ((p : ℕ) → option_map f (nth xs p) ≡ option_map g (nth xs p)) → map (option_map f) xs ≡ map (option_map g) xs
map-same f g [] h = refl
map-same f g (x ∷ xs) h = ap (λ o. o ∷ map (option_map f) xs) (h 0) ∙ ap (λ l. option_map g x ∷ l) (map-same f g xs (λ p. h (suc p)))

module _ (linkage : Linkage) (heard : List KeptHeard) (members : List (Option MemberSets)) (old new : Memories) (sets : Numbered) (released : Releases members old new) where
  same-member : (p : ℕ) (m : MemberSets) → nth members p ≡ Some m → kept_member new m ≡ kept_member old m
  same-member p m e =
      ap (λ l. record (kept_member old m) { window = l; segment = held_numbers m.segment new }) (released.same m.window.key (not-free members p m Window m.window e refl))
      ∙ ap (λ l. record (kept_member old m) { segment = l }) (of m.segment refl)
    where
      of : (o : Option Held) → m.segment ≡ o → held_numbers o new ≡ held_numbers o old
      of None f = refl
      of (Some h) f = released.same h.key (not-free members p m Segment h e f)

  same-kept : kept_in linkage heard (tables_with members new sets) ≡ kept_in linkage heard (tables_with members old sets)
  same-kept =
      ap (λ (l : List (Option KeptMember)). record { linkage = linkage; sets = sets; members = l; heard = heard })
      (map-same (kept_member new) (kept_member old) members (λ p. of p (nth members p) refl))
    where
      of : (p : ℕ) (o : Option MemberSets) → nth members p ≡ o → option_map (kept_member new) o ≡ option_map (kept_member old) o
      of p None e = refl
      of p (Some m) e = ap (λ (k : KeptMember). Some k) (same-member p m e)

  pub released-shows : shown (kept_in linkage heard (tables_with members new sets)) ≡ shown (kept_in linkage heard (tables_with members old sets))
  released-shows = ap shown same-kept

  pub released-sound : AreSoundTables linkage heard (tables_with members old sets) → AreSoundTables linkage heard (tables_with members new sets)
  released-sound sound = record {
    kept = subst IsSound (sym same-kept) sound.kept;
    keyed = keyed-from (tables_with members old sets) (tables_with members new sets) sound.keyed (let same = released.count in omega arith) (λ p. (p, holds-itself (nth members p)));
  }
