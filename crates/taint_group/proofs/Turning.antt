-- One member of a group changes, and an event is heard.
use Rattle.std.proofs.Common.{◌≡◌, ℕ, zero, suc, ◌≤◌, ◌<◌, List, [], ◌∷◌, ◌++◌, length, slice_index_or, slice_set, Option, Some, None, IfSome, IsSomeAnd, Result, Ok, Err, IfOk, option_map, refl, sym, subst, ap, ◌∙◌, arith}
use Rattle.parts_model.specs.Numbered.{nth}
use Rattle.taint_spans.specs.Numbered.{Numbered, StandAsBefore}
use Rattle.acts_model.specs.Moved.{Inside}
use Rattle.taint_members.specs.Access.{Memories}
use Rattle.taint_members.specs.declared.member.MemberSets.{MemberSets}
use Rattle.taint_steps.specs.Table.{Tables}
use Rattle.rv64_model.specs.declared.linkage.Linkage.{Linkage}
use Rattle.taint_group.proofs.Keyed.{HoldsSame}
use Rattle.taint_group.proofs.Changing.{tables-change}
use Rattle.taint_state.specs.Events.{Becomes, Hears}
use Rattle.taint_state.specs.EventsShow.{Follows}
use Rattle.taint_group.specs.Groups.{ReturnsAs, ReturnsIn, ReturnsOne}
use Rattle.taint_state.specs.Heard.{kept_child}
use Rattle.taint_state.specs.Kept.{Kept, KeptHeard, KeptMember}
use Rattle.taint_state.specs.RunsShow.{kept_member}
use Rattle.taint_group.specs.Tables.{AreKeyed, AreSoundTables, kept_in}
use Rattle.taint_group.specs.Turns.{ChangesEntry, ChangesIn, ChangesOne, Ends, FoundsFrom, LivesAs}
use Rattle.std.specs.Global.{Box}
use Rattle.taint_state.specs.declared.heard.ChildStart.{ChildStart}
use Rattle.taint_group.proofs.Groups.{tables_with}

pub nth-place : {X : Type 0} (xs : List (Option X)) (k : ℕ) (d : Option X) → k < length xs → nth xs k ≡ slice_index_or xs k d
nth-place [] k d h = absurd (omega arith)
nth-place (x ∷ xs) zero d h = refl
nth-place (x ∷ xs) (suc k) d h = nth-place xs k d (omega arith)

pub nth-past : {X : Type 0} (xs : List (Option X)) (k : ℕ) → length xs ≤ k → nth xs k ≡ None
nth-past [] k h = refl
nth-past (x ∷ xs) zero h = absurd (omega arith)
nth-past (x ∷ xs) (suc k) h = nth-past xs k (omega arith)

-- a further place has no member
pub nth-more : {X : Type 0} (xs : List (Option X)) (p : ℕ) → nth (xs ++ None ∷ []) p ≡ nth xs p
nth-more [] zero = refl
nth-more [] (suc p) = refl
nth-more (None ∷ xs) zero = refl
nth-more (Some x ∷ xs) zero = refl
nth-more (x ∷ xs) (suc p) = nth-more xs p

-- what holds of the entry holds of the member of its number
pub of-place : {X : Type 0} (P : Option X → Type 0) (xs : List (Option X)) (k : ℕ) (d : Option X) → k < length xs → P (slice_index_or xs k d) → P (nth xs k)
of-place P xs k d below h = subst P (sym (nth-place xs k d below)) h

-- and what holds where there is none
pub of-none : {X : Type 0} (P : Option X → Type 0) (xs : List (Option X)) (k : ℕ) → length xs ≤ k → P None → P (nth xs k)
of-none P xs k past h = subst P (sym (nth-past xs k past)) h

-- the entry of a place is the member of its number
pub at-place : {X : Type 0} (P : Option X → Type 0) (xs : List (Option X)) (k : ℕ) (d : Option X) → k < length xs → P (nth xs k) → P (slice_index_or xs k d)
at-place P xs k d below h = subst P (nth-place xs k d below) h

-- a result about the entry is one about the member of its number
pub ok-place : {A E X : Type 0} (r : Result A E) (P : Option X → A → Type 0) (xs : List (Option X)) (k : ℕ) (d : Option X) → k < length xs → IfOk r (P (slice_index_or xs k d)) → IfOk r (P (nth xs k))
ok-place r P xs k d below h = of-place (λ o. IfOk r (P o)) xs k d below h

pub ok-there : {A E X : Type 0} (r : Result A E) (P : Option X → A → Type 0) (xs : List (Option X)) (k : ℕ) (d : Option X) → d ≡ slice_index_or xs k d → k < length xs → IfOk r (P d) → IfOk r (P (nth xs k))
ok-there r P xs k d is below h = subst (λ o. IfOk r (P o)) (is ∙ sym (nth-place xs k d below)) h

-- and one that holds of any where there is none
pub ok-none : {A E X : Type 0} (r : Result A E) (P : Option X → A → Type 0) → ((a : A) → P None a) → (xs : List (Option X)) (k : ℕ) → length xs ≤ k → IfOk r (P (nth xs k))
ok-none {A = A} {E = E} r P all xs k past = of-none (λ o. IfOk r (P o)) xs k past (any r)
  where
    any : (q : Result A E) → IfOk q (P None)
    any (Ok a) = all a
    any (Err e) = tt

-- the entry that changes is that of the number
pub changes-in : (As : MemberSets → Option MemberSets → Type 0) (pid : ℕ) (members : List (Option MemberSets)) (d after : Option MemberSets) → pid < length members → ChangesEntry As (slice_index_or members pid d) after
    → ChangesIn As pid members (slice_set members pid after)
changes-in As pid members d after below entry = of-place (λ o. IfSome o (ChangesOne As pid members (slice_set members pid after))) members pid d below (by (slice_index_or members pid d) entry)
  where
    by : (o : Option MemberSets) → ChangesEntry As o after → IfSome o (ChangesOne As pid members (slice_set members pid after))
    by None entry = tt
    by (Some old) entry = record { new = after; becomes = entry; members = refl }

pub changes-none : (As : MemberSets → Option MemberSets → Type 0) (pid : ℕ) (members after : List (Option MemberSets)) → length members ≤ pid → ChangesIn As pid members after
changes-none As pid members after past = of-none (λ o. IfSome o (ChangesOne As pid members after)) members pid past tt

-- sets stand as they stand
pub stand-still : (sets : Numbered) → StandAsBefore sets sets
stand-still sets = record { there = λ set h. h; same = λ set h. refl }

-- who ends holds nothing
pub ends-hold : (old : MemberSets) (new : Option MemberSets) → Ends old new → HoldsSame new (Some old)
ends-hold old new e = subst (λ o. HoldsSame o (Some old)) (sym e) tt

-- what is kept goes on where a member of sound tables changes
pub changes-go : (As : MemberSets → Option MemberSets → Type 0) (inside : MemberSets → Inside) (linkage : Linkage) (pid : ℕ) (event : KeptHeard) (members after : List (Option MemberSets)) (memories : List (List ℕ)) (sets new : Numbered) (heard then : List KeptHeard)
    → Hears event heard then → AreSoundTables linkage heard (tables_with members memories sets) → StandAsBefore sets new → ((o : MemberSets) (m : Option MemberSets) → As o m → HoldsSame m (Some o))
    → ((o : MemberSets) → nth members pid ≡ Some o → (m : Option MemberSets) → As o m
    → Becomes pid (kept_member memories o) (option_map (kept_member memories) m) event (kept_in linkage heard (tables_with members memories sets)) (kept_in linkage then (tables_with after memories new))
    → Follows (inside o) (kept_in linkage heard (tables_with members memories sets)) (kept_in linkage then (tables_with after memories new)))
    → ChangesIn As pid members after
    → IfSome (nth members pid) (λ o.
    Follows (inside o) (kept_in linkage heard (tables_with members memories sets)) (kept_in linkage then (tables_with after memories new)) × AreKeyed (tables_with after memories new))
changes-go As inside linkage pid event members after memories sets new heard then hears sound stand holds show step = of (nth members pid) refl step
  where
    x : Tables
    x = tables_with members memories sets

    y : Tables
    y = tables_with after memories new

    of : (o : Option MemberSets) → nth members pid ≡ o → IfSome o (ChangesOne As pid members after)
        → IfSome o (λ old. Follows (inside old) (kept_in linkage heard x) (kept_in linkage then y) × AreKeyed y)
    of None is one = tt
    of (Some old) is one =
        let changed = tables-change linkage heard then pid old one.new event x y sound hears (record {
          was = is;
          members = one.members;
          memories = refl;
          sets = stand;
          holds = holds old one.new one.becomes;
        }) in (show old is one.new one.becomes changed.becomes, changed.keyed)

-- the same where the tables stand elsewhere
pub changes-group : (As : MemberSets → Option MemberSets → Type 0) (inside : MemberSets → Inside) (linkage : Linkage) (pid : ℕ) (event : KeptHeard) (members was now after : List (Option MemberSets)) (memories : List (List ℕ)) (sets new : Numbered) (heard then : List KeptHeard)
    → was ≡ members → after ≡ now → Hears event heard then → AreSoundTables linkage heard (tables_with members memories sets) → StandAsBefore sets new
    → ((o : MemberSets) (m : Option MemberSets) → As o m → HoldsSame m (Some o))
    → ((o : MemberSets) → nth members pid ≡ Some o → (m : Option MemberSets) → As o m
    → Becomes pid (kept_member memories o) (option_map (kept_member memories) m) event (kept_in linkage heard (tables_with members memories sets)) (kept_in linkage then (tables_with now memories new))
    → Follows (inside o) (kept_in linkage heard (tables_with members memories sets)) (kept_in linkage then (tables_with now memories new)))
    → ChangesIn As pid was now
    → IfSome (nth members pid) (λ o.
    Follows (inside o) (kept_in linkage heard (tables_with members memories sets)) (kept_in linkage then (tables_with after memories new)) × AreKeyed (tables_with after memories new))
changes-group As inside linkage pid event members was now after memories sets new heard then same later hears sound stand holds show step =
    subst (λ (z : List (Option MemberSets)). IfSome (nth members pid) (λ o. Follows (inside o) (kept_in linkage heard (tables_with members memories sets)) (kept_in linkage then (tables_with z memories new)) × AreKeyed (tables_with z memories new)))
    (sym later)
    (changes-go As inside linkage pid event members now memories sets new heard then hears sound stand holds show (subst (λ z. ChangesIn As pid z now) same step))

-- and so do the memories, which stay
pub changes-still : (As : MemberSets → Option MemberSets → Type 0) (inside : MemberSets → Inside) (linkage : Linkage) (pid : ℕ) (event : KeptHeard) (members was now after : List (Option MemberSets)) (memories kept : Memories) (sets new : Numbered) (heard then : List KeptHeard)
    → kept ≡ memories → was ≡ members → after ≡ now → Hears event heard then → AreSoundTables linkage heard (tables_with members memories sets) → StandAsBefore sets new
    → ((o : MemberSets) (m : Option MemberSets) → As o m → HoldsSame m (Some o))
    → ((o : MemberSets) → nth members pid ≡ Some o → (m : Option MemberSets) → As o m
    → Becomes pid (kept_member memories o) (option_map (kept_member memories) m) event (kept_in linkage heard (tables_with members memories sets)) (kept_in linkage then (tables_with now memories new))
    → Follows (inside o) (kept_in linkage heard (tables_with members memories sets)) (kept_in linkage then (tables_with now memories new)))
    → ChangesIn As pid was now
    → IfSome (nth members pid) (λ o.
    Follows (inside o) (kept_in linkage heard (tables_with members memories sets)) (kept_in linkage then (tables_with after kept new)) × AreKeyed (tables_with after kept new))
changes-still As inside linkage pid event members was now after memories kept sets new heard then stays same later hears sound stand holds show step =
    subst (λ (z : Memories). IfSome (nth members pid) (λ o. Follows (inside o) (kept_in linkage heard (tables_with members memories sets)) (kept_in linkage then (tables_with after z new)) × AreKeyed (tables_with after z new)))
    (sym stays) (changes-group As inside linkage pid event members was now after memories sets new heard then same later hears sound stand holds show step)

-- who lives on holds what it held
pub lives-hold : (As : MemberSets → MemberSets → Type 0) → ((o n : MemberSets) → As o n → (n.window ≡ o.window) × (n.segment ≡ o.segment)) → (o : MemberSets) (m : Option MemberSets) → LivesAs As o m → HoldsSame m (Some o)
lives-hold As same o None lives = absurd lives
lives-hold As same o (Some n) lives = same o n lives

-- who ends becomes none
pub becomes-none : (pid : ℕ) (k : KeptMember) (memories : List (List ℕ)) (m : Option MemberSets) (event : KeptHeard) (x y : Kept) → m ≡ None → Becomes pid k (option_map (kept_member memories) m) event x y → Becomes pid k None event x y
becomes-none pid k memories m event x y e h = subst (λ z. Becomes pid k (option_map (kept_member memories) z) event x y) e h

-- who lives on becomes another
pub becomes-some : {Q : Type 0} (As : MemberSets → MemberSets → Type 0) (o : MemberSets) (m : Option MemberSets) (pid : ℕ) (k : KeptMember) (memories : List (List ℕ)) (event : KeptHeard) (x y : Kept) → LivesAs As o m
    → Becomes pid k (option_map (kept_member memories) m) event x y → ((n : MemberSets) → As o n → Becomes pid k (Some (kept_member memories n)) event x y → Q) → Q
becomes-some As o None pid k memories event x y lives becomes next = absurd lives
becomes-some As o (Some n) pid k memories event x y lives becomes next = next n lives becomes

-- a fact of the member of a number, where the table stands elsewhere
pub of-member : (P : MemberSets → Type 0) (members was : List (Option MemberSets)) (pid : ℕ) (o : MemberSets) → was ≡ members → nth members pid ≡ Some o → IfSome (nth was pid) P → P o
of-member P members was pid o same is h = subst (λ z. IfSome z P) (ap (λ l. nth l pid) same ∙ is) h

-- a call's return, as one of the changes
pub returns-change : (pid : ℕ) (before after : List (Option MemberSets)) → ReturnsIn pid before after → ChangesIn (LivesAs ReturnsAs) pid before after
returns-change pid before after returns = of (nth before pid) returns
  where
    of : (o : Option MemberSets) → IfSome o (ReturnsOne pid before after) → IfSome o (ChangesOne (LivesAs ReturnsAs) pid before after)
    of None h = tt
    of (Some old) one = record { new = Some one.new; becomes = one.becomes; members = one.members }

pub returned-holds : (o : MemberSets) (m : Option MemberSets) → LivesAs ReturnsAs o m → HoldsSame m (Some o)
returned-holds = lives-hold ReturnsAs (λ o n to. (ap (λ (m : MemberSets). m.window) to.others, ap (λ (m : MemberSets). m.segment) to.others))

-- the child that starts a group is there
pub becomes-child : {Q : Type 0} (memories : Memories) (o : MemberSets) (start : Option (Box ChildStart)) (pid : ℕ) (k : KeptMember) (m : Option KeptMember) (event : ℕ) (numbers : List ℕ) (x y : Kept) → IsSomeAnd start (FoundsFrom memories o)
    → Becomes pid k m (record { event = event; numbers = numbers; start = option_map kept_child start }) x y
    → ((s : Box ChildStart) → FoundsFrom memories o s → Becomes pid k m (record { event = event; numbers = numbers; start = Some (kept_child s) }) x y → Q) → Q
becomes-child memories o None pid k m event numbers x y founds becomes next = absurd founds
becomes-child memories o (Some s) pid k m event numbers x y founds becomes next = next s founds becomes
