-- What a cache of relations holds after a look-up and after a put, and what a relation that was kept tells later.
use Rattle.std.proofs.Common.{◌≡◌, ◌⊎◌, ℕ, ◌==◌, ◌++◌, Bool, true, ◌&&◌, List, Contains, Option, Some, None, IfSome, Result, Ok, Err, OnOk, OnErr, refl, sym, ap, subst, ◌∙◌, inl, inr, arith, append_assoc, eqb-true, false}
use Rattle.std.proofs.Math.Bool.{beq}
use Rattle.std.proofs.lemmas.Bool.Decides.{nat_tests}
use Rattle.std.specs.Map.{lookup, remove_entry}
use Rattle.lru.specs.LruCache.{LruCache, lru_cache, put_entries}
use Rattle.lru.proofs.CallerLemmas.{Contains-lookup, Contains-put_entries, Contains-remove_entry}
use Rattle.arn_base.specs.declared.records.Record.{Record}
use Rattle.rv64_model.specs.declared.linkage.Linkage.{Linkage}
use Rattle.rv64_model.specs.declared.linkage.Linkage.TheVariants as linkage
use Rattle.group_extents.specs.Extents.{extent_of}
use Rattle.group_extents.specs.declared.extent.Extent.{Extent}
use Rattle.group_extents.specs.Laws.{EqualExtentsMakeOne}
use Rattle.history_model.specs.Alone.{alone}
use Rattle.history_model.specs.Broken.{first_broken}
use Rattle.followed_groups.specs.Follows.{Follows}
use Rattle.followed_groups.specs.Relations.{AreOf, IsRelation, KeepsAlso, KeepsNoMore, number_of}
use Rattle.followed_groups.specs.declared.relations.Relation.{Relation}
use Rattle.followed_groups.specs.declared.relations.Relations.{Relations}

-- two pairs are equal where both numbers are
abbrev pub pair_eq : ℕ × ℕ → ℕ × ℕ → Bool
pair_eq a b = (a.0 == b.0) && (a.1 == b.1)

both : (a b : Bool) → (a && b) ≡ true → (a ≡ true) × (b ≡ true)
both a b h1 = grind (arith, nat_tests)

same_pair : (a b : ℕ × ℕ) → pair_eq a b ≡ true → a ≡ b
same_pair a b h1 = grind (arith, nat_tests, both)

-- what is found stands under what was asked for
pub found-under : (cache : LruCache (ℕ × ℕ) Relation) (key : ℕ × ℕ) (r : Relation) → lookup (pair_eq key) cache.entries ≡ Some r → Contains cache.entries (key, r)
found-under cache key r h =
    let at = Contains-lookup (pair_eq key) cache.entries r h in
    subst (λ x. Contains cache.entries (x, r)) (sym (same_pair key at.0 at.2)) at.1

-- two extents are equal where their parts are
abbrev pub extent_eq : Extent → Extent → Bool
extent_eq a b = beq a.is_begun b.is_begun && ((a.slices == b.slices) && ((a.owed == b.owed) && (a.behind == b.behind)))

bool-same : (a b : Bool) → beq a b ≡ true → a ≡ b
bool-same true true h = refl
bool-same false false h = refl
bool-same true false h = absurd (cc)
bool-same false true h = absurd (cc)

extent : Bool → ℕ → ℕ → ℕ → Extent
extent begun slices owed behind = record { is_begun = begun; slices = slices; owed = owed; behind = behind }

pub same_extent : (a b : Extent) → extent_eq a b ≡ true → a ≡ b
unfolding extent
same_extent a b h =
    let one = both (beq a.is_begun b.is_begun) ((a.slices == b.slices) && ((a.owed == b.owed) && (a.behind == b.behind))) h in
    let two = both (a.slices == b.slices) ((a.owed == b.owed) && (a.behind == b.behind)) one.1 in
    let three = both (a.owed == b.owed) (a.behind == b.behind) two.1 in
    ap (λ (x : Bool). extent x a.slices a.owed a.behind) (bool-same a.is_begun b.is_begun one.0)
    ∙ (ap (λ (x : ℕ). extent b.is_begun x a.owed a.behind) (eqb-true a.slices b.slices two.0)
    ∙ (ap (λ (x : ℕ). extent b.is_begun b.slices x a.behind) (eqb-true a.owed b.owed three.0)
    ∙ ap (λ (x : ℕ). extent b.is_begun b.slices b.owed x) (eqb-true a.behind b.behind three.1)))

pub if-some : {X : Type 0} {P Q : X → Type 0} (o : Option X) → ((x : X) → P x → Q x) → IfSome o P → IfSome o Q
if-some None f h = tt
if-some (Some x) f h = f x h

-- what is left was there before
pub removed-before : (old new : LruCache (ℕ × ℕ) Relation) (key : ℕ × ℕ) → new ≡ lru_cache (remove_entry (pair_eq key) old.entries) old.cap → (k : ℕ × ℕ) (r : Relation) → Contains new.entries (k, r) → Contains old.entries (k, r)
removed-before old new key e k r h = Contains-remove_entry (pair_eq key) old.entries (k, r) (subst (λ (c : LruCache (ℕ × ℕ) Relation). Contains c.entries (k, r)) e h)

put-cases : {V : Type 0} (old : LruCache (ℕ × ℕ) V) (key : ℕ × ℕ) (one : V) (k : ℕ × ℕ) (r : V) → Contains (put_entries pair_eq old key one) (k, r) → Contains old.entries (k, r) ⊎ ((k ≡ key) × (r ≡ one))
put-cases old key one k r h = elim (Contains-put_entries pair_eq old key one (k, r) h) [
  | inl was ↦ inl was
  | inr put ↦ inr (elim put.1 [ inl e ↦ e | inr old ↦ sym (same_pair key k old.2) ], put.0)
]

-- after a put an entry was there before, or is the one that was put
pub put-also : {V X Y : Type 0} (res : Result X Y) (old new : LruCache (ℕ × ℕ) V) (key : ℕ × ℕ) (one : V) → OnOk res (new ≡ lru_cache (put_entries pair_eq old key one) old.cap) → OnErr res (new ≡ old)
    → (k : ℕ × ℕ) (r : V) → Contains new.entries (k, r) → Contains old.entries (k, r) ⊎ ((k ≡ key) × (r ≡ one))
put-also {V} (Ok x) old new key one put err k r h = put-cases old key one k r (subst (λ (c : LruCache (ℕ × ℕ) V). Contains c.entries (k, r)) put h)
put-also {V} (Err x) old new key one put err k r h = inl (subst (λ (c : LruCache (ℕ × ℕ) V). Contains c.entries (k, r)) err h)

-- each linkage has a number of its own
number-own : (a b : Linkage) → number_of a ≡ number_of b → a ≡ b
number-own linkage.Copy linkage.Copy h = refl
number-own linkage.Data linkage.Data h = refl
number-own linkage.Index linkage.Index h = refl
number-own linkage.Copy linkage.Data h = absurd (omega (arith, h))
number-own linkage.Copy linkage.Index h = absurd (omega (arith, h))
number-own linkage.Data linkage.Copy h = absurd (omega (arith, h))
number-own linkage.Data linkage.Index h = absurd (omega (arith, h))
number-own linkage.Index linkage.Copy h = absurd (omega (arith, h))
number-own linkage.Index linkage.Data h = absurd (omega (arith, h))

-- no more are kept
pub still-of : (entries : List Record) (old new : Relations) → KeepsNoMore old new → AreOf entries old → AreOf entries new
still-of entries old new kept of l g r h = of l g r (kept (g, number_of l) r h)

-- one more is kept, of these records too
pub also-of : (entries : List Record) (old new : Relations) (l : Linkage) (g : ℕ) (one : Relation) → KeepsAlso old new l g one → AreOf entries old → IsRelation l entries g one → AreOf entries new
also-of entries old new l g one also of is m k r h = elim (also (k, number_of m) r h) [
  | inl was ↦ of m k r was
  | inr put ↦
      let group : k ≡ g = ap (λ (p : ℕ × ℕ). p.0) put.0 in
      let same : m ≡ l = number-own m l (ap (λ (p : ℕ × ℕ). p.1) put.0) in
      subst (λ (x : Linkage). IsRelation x entries k r) (sym same) (subst (λ (x : ℕ). IsRelation l entries x r) (sym group) (subst (IsRelation l entries g) (sym put.1) is))
]

-- what was kept of a group tells it where it has come as far
pub kept-follows : EqualExtentsMakeOne → (l : Linkage) (entries : List Record) (g until : ℕ) (r : Relation) → first_broken entries ≡ None → IsRelation l entries g r → r.extent ≡ extent_of entries g until → Follows l entries until g r.tracker
kept-follows law l entries g until r unbroken is equal =
    let same : alone is.before g is.moment ≡ alone entries g until =
    law is.index is.before is.more g is.moment until is.indexed (subst (λ (es : List Record). first_broken es ≡ None) is.begins unbroken)
    (sym is.extent ∙ (equal ∙ ap (λ (es : List Record). extent_of es g until) is.begins))
    ∙ ap (λ (es : List Record). alone es g until) (sym is.begins) in
    record { own = is.follows.own; makes = sym same ∙ is.follows.makes; shows = is.follows.shows; holds = is.follows.holds; heard = is.follows.heard }

-- what is of records is of those that begin with these
pub more-come : (l : Linkage) (before more : List Record) (g : ℕ) (r : Relation) → IsRelation l before g r → IsRelation l (before ++ more) g r
more-come l before more g r is =
    record {
      before = is.before;
      more = is.more ++ more;
      begins = ap (λ (es : List Record). es ++ more) is.begins ∙ append_assoc is.before is.more more;
      index = is.index;
      indexed = is.indexed;
      moment = is.moment;
      follows = is.follows;
      extent = is.extent;
    }
