-- Things that are put at a place, and a group of which nothing is kept.
use Rattle.std.proofs.Common.{◌≡◌, ◌≢◌, ◌↔◌, ℕ, zero, suc, ◌+◌, ◌<◌, List, [], ◌∷◌, ◌++◌, length, slice_index_or, slice_set, Option, Some, None, Result, Ok, Err, OnOk, refl, sym, subst, ap, ◌∙◌, arith}
use Rattle.std.proofs.lemmas.List.{get_or-set_same, get_or-set_other, length-set, length_push}
use Rattle.parts_model.specs.Numbered.{nth}
use Rattle.rv64_model.specs.declared.linkage.Linkage.{Linkage}
use Rattle.taint_spans.specs.Numbered.{IsSet, Numbered, members_of}
use Rattle.taint_members.specs.Access.{Memories}
use Rattle.taint_members.specs.declared.member.MemberSets.{MemberSets}
use Rattle.taint_state.specs.Goes.{nothing_tracked}
use Rattle.taint_state.specs.Heard.{heard_in}
use Rattle.taint_state.specs.Kept.{shown}
use Rattle.taint_state.specs.declared.heard.HeardEvent.{HeardEvent}
use Rattle.taint_group.specs.Moves.{Places, PutsMemory}
use Rattle.taint_group.specs.Tables.{AreSoundTables, kept_in}
use Rattle.taint_group.proofs.Groups.{tables_with}
use Rattle.taint_group.proofs.Turning.{nth-more}

-- what is put at a place is there
pub nth-placed : {X : Type 0} (xs : List (Option X)) (k : ℕ) (x : X) → k < length xs → nth (slice_set xs k (Some x)) k ≡ Some x
nth-placed [] k x h = absurd (omega arith)
nth-placed (z ∷ xs) zero x h = refl
nth-placed (z ∷ xs) (suc k) x h = nth-placed xs k x (omega arith)

-- a further place has nothing
pub nth-grown : {X : Type 0} (xs ys : List (Option X)) → ys ≡ xs ++ None ∷ [] → (p : ℕ) → nth ys p ≡ nth xs p
nth-grown xs ys e p = ap (λ l. nth l p) e ∙ nth-more xs p

pub grown-by : {X : Type 0} (xs ys : List (Option X)) → ys ≡ xs ++ None ∷ [] → length ys ≡ length xs + 1
grown-by xs ys e = ap length e ∙ length_push xs None

-- a member is placed where its number has it, and all others are as before
pub places : {A E : Type 0} (r : Result A E) (pid : ℕ) (m : MemberSets) (old new : List (Option MemberSets)) → OnOk r (nth new pid ≡ Some m) → OnOk r ((p : ℕ) → p ≢ pid → nth new p ≡ nth old p) → OnOk r (Places pid m old new)
places (Ok a) pid m old new one others = record { one = one; others = others }
places (Err e) pid m old new one others = tt

last-one : {X : Type 0} (xs : List X) (x d : X) → slice_index_or (xs ++ x ∷ []) (length xs) d ≡ x
last-one [] x d = refl
last-one (z ∷ xs) x d = last-one xs x d

last-others : {X : Type 0} (xs : List X) (x d : X) (k : ℕ) → k ≢ length xs → slice_index_or (xs ++ x ∷ []) k d ≡ slice_index_or xs k d
last-others [] x d zero h = absurd (h refl)
last-others [] x d (suc k) h = refl
last-others (z ∷ xs) x d zero h = refl
last-others (z ∷ xs) x d (suc k) h = last-others xs x d k (λ e. h (ap suc e))

-- a memory in the place of another
pub puts-there : (key : ℕ) (numbers put : List ℕ) (old : Memories) → put ≡ numbers → key < length old → PutsMemory key numbers old (slice_set old key put)
puts-there key numbers put old is below =
    let same = length-set old key put in
    record {
      there = subst (λ n. key < n) (sym same) below;
      grown = omega (arith, same);
      one = get_or-set_same old key put [] below ∙ is;
      others = λ k apart. get_or-set_other old key k put [] apart;
    }

-- and one behind all others
pub puts-last : (key : ℕ) (numbers : List ℕ) (old new : Memories) → new ≡ old ++ numbers ∷ [] → key ≡ length old → PutsMemory key numbers old new
puts-last key numbers old new is last =
    let longer = ap length is ∙ length_push old numbers in
    record {
      there = omega (arith, longer, last);
      grown = omega (arith, longer);
      one = ap (λ (l : Memories). slice_index_or l key []) is ∙ (ap (λ (k : ℕ). slice_index_or (old ++ numbers ∷ []) k []) last ∙ last-one old numbers []);
      others = λ k apart. ap (λ (l : Memories). slice_index_or l k []) is ∙ last-others old numbers [] k (λ e. apart (e ∙ sym last));
    }

-- a group without members and events is sound
pub sound-nothing : (linkage : Linkage) (sets : Numbered) (members : List (Option MemberSets)) (memories : Memories) (heard : List HeardEvent)
    → ((set : ℕ) → IsSet sets set ↔ (set ≡ 0)) → members_of sets 0 ≡ [] → members ≡ [] → heard ≡ [] → AreSoundTables linkage (heard_in heard) (tables_with members memories sets)
sound-nothing linkage sets members memories heard alone empty no-members no-events =
    subst (λ (m : List (Option MemberSets)). AreSoundTables linkage (heard_in heard) (tables_with m memories sets)) (sym no-members)
    (subst (λ (h : List HeardEvent). AreSoundTables linkage (heard_in h) (tables_with [] memories sets)) (sym no-events)
    (record {
      kept = record {
        zero = (alone 0).1 refl;
        empty = empty;
        members = λ p. tt;
        heard = λ e. tt;
      };
      keyed = record { held = λ kind p. tt; once = λ kind other p q. tt };
    }))

-- and nothing is shown of it
pub nothing-shown : (linkage : Linkage) (sets : Numbered) (members : List (Option MemberSets)) (memories : Memories) (heard : List HeardEvent)
    → members ≡ [] → heard ≡ [] → shown (kept_in linkage (heard_in heard) (tables_with members memories sets)) ≡ nothing_tracked linkage
nothing-shown linkage sets members memories heard no-members no-events =
    ap (λ (m : List (Option MemberSets)). shown (kept_in linkage (heard_in heard) (tables_with m memories sets))) no-members
    ∙ ap (λ (h : List HeardEvent). shown (kept_in linkage (heard_in h) (tables_with [] memories sets))) no-events
