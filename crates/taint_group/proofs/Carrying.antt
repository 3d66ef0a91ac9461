-- A group whose sets are carried over.
use Rattle.std.proofs.Common.{◌≡◌, ℕ, zero, suc, ◌+◌, ◌<◌, ◌≤◌, ◌==◌, nat_lt, Bool, true, false, List, [], ◌∷◌, map, length, slice_index_or, slice_set, Option, None, Some, Result, Ok, Err, OnOk, IfSome, option_map, refl, sym, subst, ap, ◌∙◌, arith}
use Rattle.std.proofs.Math.ListN.{get_or-eq_default}
use Rattle.std.proofs.lemmas.Bool.{eqb-true, eqb-false, ltb-true, ltb-false}
use Rattle.std.proofs.lemmas.Grind.{get_or-set_at}
use Rattle.std.proofs.lemmas.List.{get_or-set_other, length-set, get_or_default}
use Rattle.parts_model.specs.Numbered.{nth}
use Rattle.rv64_model.specs.declared.linkage.Linkage.{Linkage}
use Rattle.taint_members.specs.Access.{Memories, held_numbers}
use Rattle.taint_members.specs.Carried.{CarriesMember}
use Rattle.taint_members.specs.declared.member.MemberSets.{MemberSets}
use Rattle.taint_members.specs.declared.member.Held.{Held}
use Rattle.taint_spans.specs.Carried.{Carried, CarriesOn, HasNumber, HaveNumbers}
use Rattle.taint_state.specs.Carried as state
use Rattle.taint_state.specs.Carried.{CarriesEvents, CarriesShow, IfBoth}
use Rattle.taint_state.specs.Kept.{KeptHeard, shown}
use Rattle.taint_state.specs.RunsShow.{kept_member}
use Rattle.taint_steps.specs.Table.{Tables}
use Rattle.taint_group.specs.Carried.{CarriesMemories}
use Rattle.taint_group.specs.Tables.{AreKeyed, AreSoundTables, kept_in}
use Rattle.taint_group.proofs.Keyed.{HoldsSame, keyed-from, nth-map}
use Rattle.taint_group.proofs.Tables.{nth-other}
use Rattle.taint_group.proofs.Turning.{nth-past, nth-place}

-- what was carried over stays so
have-still : (a b : Carried) (was is : List ℕ) → CarriesOn a b → HaveNumbers a was is → HaveNumbers b was is
have-still a b was is on h = record { len = h.len; each = λ k below. on.still _ _ (h.each k below) }

on-twice : (a b c : Carried) → CarriesOn a b → CarriesOn b c → CarriesOn a c
on-twice a b c f g = record { from = g.from ∙ f.from; still = λ was is h. g.still was is (f.still was is h) }

member-still : (a b : Carried) (m n : MemberSets) → CarriesOn a b → CarriesMember a m n → CarriesMember b m n
member-still a b m n on h = record {
  registers = have-still a b m.registers n.registers on h.registers;
  slot = have-still a b m.slot n.slot on h.slot;
  window = h.window;
  segment = h.segment;
}

entry-still : (a b : Carried) (o p : Option MemberSets) → CarriesOn a b → IfBoth (CarriesMember a) o p → IfBoth (CarriesMember b) o p
entry-still a b None None on h = tt
entry-still a b None (Some n) on h = absurd h
entry-still a b (Some m) None on h = absurd h
entry-still a b (Some m) (Some n) on h = member-still a b m n on h

both-if : {A : Type 0} (R : A → A → Type 0) (P Q : A → Type 0) → ((a b : A) → R a b → P a → Q b) → (o p : Option A) → IfBoth R o p → IfSome o P → IfSome p Q
both-if R P Q goes None None h s = tt
both-if R P Q goes None (Some b) h s = absurd h
both-if R P Q goes (Some a) None h s = absurd h
both-if R P Q goes (Some a) (Some b) h s = goes a b h s

both-map : {A B : Type 0} (R : A → A → Type 0) (S : B → B → Type 0) (f g : A → B) → ((a b : A) → R a b → S (f a) (g b)) → (o p : Option A) → IfBoth R o p → IfBoth S (option_map f o) (option_map g p)
both-map R S f g goes None None h = tt
both-map R S f g goes None (Some b) h = absurd h
both-map R S f g goes (Some a) None h = absurd h
both-map R S f g goes (Some a) (Some b) h = goes a b h

nth-here : {X : Type 0} (xs : List (Option X)) (k : ℕ) (x : Option X) → k < length xs → nth (slice_set xs k x) k ≡ x
nth-here [] k x h = absurd (omega arith)
nth-here (y ∷ xs) zero None h = refl
nth-here (y ∷ xs) zero (Some x) h = refl
nth-here (y ∷ xs) (suc k) x h = nth-here xs k x (omega arith)

-- the members before a place are carried over, and those from it on aren't yet
pub record MembersTo (begun now : Carried) (first list : List (Option MemberSets)) (place : ℕ) : Type 0 where
  pub len : length list ≡ length first
  pub done : (p : ℕ) → p < place → IfBoth (CarriesMember now) (nth first p) (nth list p)
  pub rest : (p : ℕ) → place ≤ p → nth list p ≡ nth first p
  pub on : CarriesOn begun now

pub members-first : (sets : Carried) (list : List (Option MemberSets)) → MembersTo sets sets list list 0
members-first sets list = record { len = refl; done = λ p below. absurd (omega arith); rest = λ p from. refl; on = record { from = refl; still = λ was is h. h } }

pub members-on : (begun now next : Carried) (first list : List (Option MemberSets)) (place : ℕ) → MembersTo begun now first list place → CarriesOn now next → CarriesOn begun next
members-on begun now next first list place so on = on-twice begun now next so.on on

module _ (begun now next : Carried) (first list : List (Option MemberSets)) (place : ℕ) (was new : Option MemberSets) (so : MembersTo begun now first list place) (inside : place < length list) (read : was ≡ slice_index_or list place was)
    (on : CarriesOn now next) where
  pub members-more : IfBoth (CarriesMember next) was new → MembersTo begun next first (slice_set list place new) (place + 1)
  members-more one = record {
    len = length-set list place new ∙ so.len;
    done = λ p below. by p below (p == place) refl;
    rest = λ p behind. nth-other list place p new (λ e. omega arith) ∙ so.rest p (omega arith);
    on = on-twice begun now next so.on on;
  }
    where
      by : (p : ℕ) → p < place + 1 → (b : Bool) → (p == place) ≡ b → IfBoth (CarriesMember next) (nth first p) (nth (slice_set list place new) p)
      by p below true e =
          let is = eqb-true p place e in
          subst (λ j. IfBoth (CarriesMember next) (nth first j) (nth (slice_set list place new) j)) (sym is)
          (subst (λ o. IfBoth (CarriesMember next) (nth first place) o) (sym (nth-here list place new inside))
          (subst (λ o. IfBoth (CarriesMember next) o new) (read ∙ sym (nth-place list place was inside) ∙ so.rest place (omega arith)) one))
      by p below false e =
          let apart = eqb-false p place e in
          subst (λ o. IfBoth (CarriesMember next) (nth first p) o) (sym (nth-other list place p new apart))
          (entry-still now next (nth first p) (nth list p) on (so.done p (omega (arith, apart))))

pub members-all : (begun now : Carried) (first list : List (Option MemberSets)) (place : ℕ) → MembersTo begun now first list place → length first ≤ place → (p : ℕ) → IfBoth (CarriesMember now) (nth first p) (nth list p)
members-all begun now first list place so all p = by (nat_lt p place) refl
  where
    by : (b : Bool) → nat_lt p place ≡ b → IfBoth (CarriesMember now) (nth first p) (nth list p)
    by true e = so.done p (ltb-true p place e)
    by false e =
        let behind = ltb-false p place e in
        let none = nth-past first p (omega arith) in
        subst (λ o. IfBoth (CarriesMember now) o (nth list p)) (sym none) (subst (λ o. IfBoth (CarriesMember now) None o) (sym (so.rest p behind ∙ none)) tt)

-- and so are memories
pub record MemoriesTo (begun now : Carried) (first list : Memories) (place : ℕ) : Type 0 where
  pub len : length list ≡ length first
  pub done : (k : ℕ) → k < place → HaveNumbers now (slice_index_or first k []) (slice_index_or list k [])
  pub rest : (k : ℕ) → place ≤ k → slice_index_or list k [] ≡ slice_index_or first k []
  pub on : CarriesOn begun now

pub memories-first : (sets : Carried) (list : Memories) → MemoriesTo sets sets list list 0
memories-first sets list = record { len = refl; done = λ k below. absurd (omega arith); rest = λ k from. refl; on = record { from = refl; still = λ was is h. h } }

pub memories-on : (begun now next : Carried) (first list : Memories) (place : ℕ) → MemoriesTo begun now first list place → CarriesOn now next → CarriesOn begun next
memories-on begun now next first list place so on = on-twice begun now next so.on on

module _ (begun now next : Carried) (first list : Memories) (place : ℕ) (was new : List ℕ) (so : MemoriesTo begun now first list place) (inside : place < length list) (read : was ≡ slice_index_or list place was)
    (on : CarriesOn now next) where
  pub memories-more : HaveNumbers next was new → MemoriesTo begun next first (slice_set list place new) (place + 1)
  memories-more one = record {
    len = length-set list place new ∙ so.len;
    done = λ k below. by k below (k == place) refl;
    rest = λ k behind. get_or-set_other list place k new [] (λ e. omega arith) ∙ so.rest k (omega arith);
    on = on-twice begun now next so.on on;
  }
    where
      by : (k : ℕ) → k < place + 1 → (b : Bool) → (k == place) ≡ b → HaveNumbers next (slice_index_or first k []) (slice_index_or (slice_set list place new) k [])
      by k below true e =
          let is = eqb-true k place e in
          subst (λ l. HaveNumbers next (slice_index_or first k []) l) (sym (get_or-set_at list place k new [] is inside))
          (subst (λ l. HaveNumbers next l new) (read ∙ get_or_default list place was [] inside ∙ ap (λ j. slice_index_or list j []) (sym is) ∙ so.rest k (omega arith)) one)
      by k below false e =
          let apart = eqb-false k place e in
          subst (λ l. HaveNumbers next (slice_index_or first k []) l) (sym (get_or-set_other list place k new [] apart)) (have-still now next _ _ on (so.done k (omega (arith, apart))))

pub memories-all : (begun now : Carried) (first list : Memories) (place : ℕ) → MemoriesTo begun now first list place → length first ≤ place → CarriesMemories now first list
memories-all begun now first list place so all = record { count = so.len; each = λ k. by k (nat_lt k place) refl }
  where
    by : (k : ℕ) (b : Bool) → nat_lt k place ≡ b → HaveNumbers now (slice_index_or first k []) (slice_index_or list k [])
    by k true e = so.done k (ltb-true k place e)
    by k false e =
        let behind = ltb-false k place e in
        let none : slice_index_or first k [] ≡ [] = get_or-eq_default first [] (let len = so.len in omega (arith, all, behind)) in
        subst (λ l. HaveNumbers now l (slice_index_or list k [])) (sym none) (subst (λ l. HaveNumbers now [] l) (sym (so.rest k behind ∙ none)) (record { len = refl; each = λ j below. absurd (omega arith) }))

-- what is kept of a member
module _ (sets : Carried) (s t : Memories) (carried : CarriesMemories sets s t) where
  held : (o : Option Held) → HaveNumbers sets (held_numbers o s) (held_numbers o t)
  held None = record { len = refl; each = λ k below. absurd (omega arith) }
  held (Some shared) = carried.each shared.key

  member-kept : (m n : MemberSets) → CarriesMember sets m n → state.CarriesMember sets (kept_member s m) (kept_member t n)
  member-kept m n h = record {
    holds = λ i. record { window = (h.window i).made; segment = option_map (λ (shared : Held). shared.made) (h.segment i) };
    registers = h.registers;
    slot = h.slot;
    window = subst (λ (w : Held). HaveNumbers sets (slice_index_or s m.window.key []) (slice_index_or t w.key [])) (sym h.window) (carried.each m.window.key);
    segment = subst (λ o. HaveNumbers sets (held_numbers m.segment s) (held_numbers o t)) (sym h.segment) (held m.segment);
  }

holds-still : (sets : Carried) (o p : Option MemberSets) → IfBoth (CarriesMember sets) o p → HoldsSame p o
holds-still sets None None h = tt
holds-still sets None (Some n) h = absurd h
holds-still sets (Some m) None h = tt
holds-still sets (Some m) (Some n) h = (h.window, h.segment)

-- each memory that a member holds is in the table, once
still-keyed : (sets : Carried) (x y : Tables) → CarriesMemories sets x.memories y.memories → ((p : ℕ) → IfBoth (CarriesMember sets) (nth x.members p) (nth y.members p)) → AreKeyed x → AreKeyed y
still-keyed sets x y carried both keyed = keyed-from x y keyed (let same = carried.count in omega arith) (λ p. (p, holds-still sets (nth x.members p) (nth y.members p) (both p)))

-- memories and members that were carried over stay so
pub memories-still : (a b : Carried) (old new : Memories) → CarriesOn a b → CarriesMemories a old new → CarriesMemories b old new
memories-still a b old new on h = record { count = h.count; each = λ key. have-still a b (slice_index_or old key []) (slice_index_or new key []) on (h.each key) }

pub members-still : (a b c : Carried) (old new : List (Option MemberSets)) → CarriesOn a b → CarriesOn b c → ((p : ℕ) → IfBoth (CarriesMember a) (nth old p) (nth new p)) → (p : ℕ) → IfBoth (CarriesMember c) (nth old p) (nth new p)
members-still a b c old new f g h p = entry-still a c (nth old p) (nth new p) (on-twice a b c f g) (h p)

pub on-thrice : (a b c d : Carried) → CarriesOn a b → CarriesOn b c → CarriesOn c d → CarriesOn a d
on-thrice a b c d f g h = on-twice a b d f (on-twice b c d g h)

-- tables that are carried over
pub record Collects (begun : Carried) (linkage : Linkage) (heard fresh : List KeptHeard) (x y : Tables) : Type 0 where
  pub done : Carried
  pub from : begun.from ≡ x.sets
  pub zero : HasNumber begun 0 0
  pub on : CarriesOn begun done
  pub members : (p : ℕ) → IfBoth (CarriesMember done) (nth x.members p) (nth y.members p)
  pub memories : CarriesMemories done x.memories y.memories
  pub events : CarriesEvents done heard fresh
  pub into : y.sets ≡ done.into

pub collected : (begun : Carried) (linkage : Linkage) (heard fresh : List KeptHeard) (x y : Tables) → CarriesShow → Collects begun linkage heard fresh x y → AreSoundTables linkage heard x
    → (shown (kept_in linkage fresh y) ≡ shown (kept_in linkage heard x)) × AreSoundTables linkage fresh y
collected begun linkage heard fresh x y show c sound = (same.shown, record { kept = same.sound sound.kept; keyed = still-keyed c.done x y c.memories c.members sound.keyed })
  where
    kept : (p : ℕ) → IfBoth (state.CarriesMember c.done) (nth (map (option_map (kept_member x.memories)) x.members) p) (nth (map (option_map (kept_member y.memories)) y.members) p)
    kept p =
        subst (λ o. IfBoth (state.CarriesMember c.done) o (nth (map (option_map (kept_member y.memories)) y.members) p)) (sym (nth-map (kept_member x.memories) x.members p))
        (subst (λ o. IfBoth (state.CarriesMember c.done) (option_map (kept_member x.memories) (nth x.members p)) o) (sym (nth-map (kept_member y.memories) y.members p))
        (both-map (CarriesMember c.done) (state.CarriesMember c.done) (kept_member x.memories) (kept_member y.memories) (member-kept c.done x.memories y.memories c.memories) (nth x.members p) (nth y.members p) (c.members p)))

    same : state.ShowsSame (kept_in linkage heard x) (kept_in linkage fresh y)
    same = show c.done (kept_in linkage heard x) (kept_in linkage fresh y) (record {
      linkage = refl;
      from = c.on.from ∙ c.from;
      into = c.into;
      zero = c.on.still 0 0 c.zero;
      members = kept;
      heard = c.events;
    })

-- the parts come to this where all of them were carried over
module _ {E : Type 0} (r : Result Unit E) (begun done : Carried) (linkage : Linkage) (heard fresh : List KeptHeard) (x y : Tables) (show : CarriesShow) (from : begun.from ≡ x.sets) (zero : HasNumber begun 0 0) (into : y.sets ≡ done.into) (sound : AreSoundTables linkage heard x) where
  pub all-collected : OnOk r ((p : ℕ) → IfBoth (CarriesMember done) (nth x.members p) (nth y.members p)) → OnOk r (CarriesMemories done x.memories y.memories) → OnOk r (CarriesEvents done heard fresh) → OnOk r (CarriesOn begun done)
      → OnOk r ((shown (kept_in linkage fresh y) ≡ shown (kept_in linkage heard x)) × AreSoundTables linkage fresh y)
  all-collected members memories events on = by r members memories events on
    where
      by : (q : Result Unit E) → OnOk q ((p : ℕ) → IfBoth (CarriesMember done) (nth x.members p) (nth y.members p)) → OnOk q (CarriesMemories done x.memories y.memories) → OnOk q (CarriesEvents done heard fresh) → OnOk q (CarriesOn begun done)
          → OnOk q ((shown (kept_in linkage fresh y) ≡ shown (kept_in linkage heard x)) × AreSoundTables linkage fresh y)
      by (Ok u) members memories events on = collected begun linkage heard fresh x y show (record { done = done; from = from; zero = zero; on = on; members = members; memories = memories; events = events; into = into }) sound
      by (Err e) members memories events on = tt
