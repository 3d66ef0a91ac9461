-- What a tracker tells of a byte that a member holds.
use Rattle.std.proofs.Common.{◌≡◌, ℕ, zero, suc, ◌+◌, ◌<◌, nat_lt, Bool, true, false, List, [], Option, Some, None, IfSome, IsSome, option_map, option_and_then, unwrap_or, if◌then◌else◌, refl, sym, subst, arith, lt-ltb, ne_eqb}
use Rattle.std.proofs.lemmas.Bool.{and_from}
use Rattle.rv64_model.specs.Carries.{operands}
use Rattle.acts_model.specs.Bodies.{Body, body_at}
use Rattle.acts_model.specs.Transfers.{Holds, holds_of, is_private, is_shared}
use Rattle.set_store.specs.declared.item.Item.{Item}
use Rattle.history_model.specs.Alone as history
use Rattle.history_model.specs.Alone.{Made}
use Rattle.history_model.specs.Groups.{group_of}
use Rattle.lineage_model.specs.Flow.{Memory, Register}
use Rattle.lineage_model.specs.Tracking.{EventByte, Tracked, alone}
use Rattle.query_model.specs.States.{HasByte, in_memory, in_register, items_among, items_made, location_of, set_at, set_of}
use Rattle.query_model.specs.declared.held.Held.{Held}
use Rattle.query_model.specs.declared.held.Part.{Part}
use Rattle.query_model.specs.declared.held.Part.TheVariants as part
use Rattle.taint_state.specs.Asked.{answer, memory_answer, register_answer, register_items, where_true}
use Rattle.taint_state.specs.Kept.{Kept, shown}
use Rattle.taint_state.specs.Shown.{AreItems, Member, ShowsMember, Tracking}
use Rattle.followed_groups.specs.Follows.{Follows}
use Rattle.followed_groups.specs.Following.{Following, IsFollowing, told_by, told_of, tracker_of}
use Rattle.followed_pairs.specs.States.{point_in, told_at}
use Rattle.followed_pairs.proofs.Locals.{no-items}

some-holds : (a b : Holds) → Some a ≡ Some b → a ≡ b
some-holds a b e = cc

-- what is asked of a member
abbrev Answers : Part → ℕ → Option Member → Option (List Item)
Answers (part.Register r) k m = option_and_then (register_answer r k) m
Answers (part.Memory at len) k m = option_and_then (memory_answer (at + k)) m

answers-are : (x : Tracking) (pid : ℕ) (p : Part) (k : ℕ) → answer x (point_in pid p k) ≡ Answers p k (x.members pid)
answers-are x pid (part.Register r) k = refl
answers-are x pid (part.Memory at len) k = refl

module _ (t : Tracked EventByte) (pid : ℕ) where
  abbrev Tells : Option (List Item) → List EventByte → Type 0
  Tells told bytes = AreItems (unwrap_or told []) bytes

  abbrev IsOne : Option Member → Option Body → Type 0
  IsOne m o = option_map (λ (x : Member). x.holds) m ≡ option_map holds_of o

  -- a byte of a register
  register-shown : (r k : ℕ) → r < 32 → k < 8 → (m : Member) → ShowsMember pid t m → AreItems (register_items r k m) (set_at t (in_register pid r k))
  register-shown zero k low byte m shows = no-items
  register-shown (suc r) k low byte m shows =
      subst (λ (b : Bool). AreItems (if b then [] else m.registers (suc r) k) (t.locations (Register pid (suc r) k))) (sym (ne_eqb (suc r) 0 (λ e. omega (arith, e))))
      (shows.registers (suc r) k (record { above = omega arith; below = low; byte = byte }))

  register-told : (r k : ℕ) → r < 32 → k < 8 → (m : Member) → ShowsMember pid t m → Tells (register_answer r k m) (set_at t (in_register pid r k))
  register-told r k low byte m shows =
      subst (λ (b : Bool). Tells (where_true b (register_items r k m)) (set_at t (in_register pid r k))) (sym (and_from (nat_lt r 32) (nat_lt k 8) (lt-ltb r 32 low) (lt-ltb k 8 byte)))
      (register-shown r k low byte m shows)

  -- a byte of a memory
  memory-told : (at : ℕ) (m : Member) → ShowsMember pid t m → Tells (memory_answer at m) (set_at t (in_memory m.holds at))
  memory-told at m shows = by-tests (is_private at) (is_shared at) m.holds.segment refl refl refl
    where
      by-tests : (a b : Bool) (o : Option ℕ) → is_private at ≡ a → is_shared at ≡ b → m.holds.segment ≡ o
          → Tells (if a then Some (m.window at) else if b then option_map (λ (made : ℕ). m.segment at) o else None)
          (set_at t (option_map (λ made. Memory made at) (if a then Some m.holds.window else if b then o else None)))
      by-tests true b o p s h = shows.window at p
      by-tests false true None p s h = no-items
      by-tests false true (Some made) p s h = shows.segment made at h s
      by-tests false false o p s h = no-items

  member-told : (p : Part) (k : ℕ) → HasByte p k → (m : Member) (hs : Holds) → m.holds ≡ hs → ShowsMember pid t m → Tells (Answers p k (Some m)) (set_at t (location_of pid hs p k))
  member-told (part.Register r) k has m hs same shows = register-told r k has.0 has.1 m shows
  member-told (part.Memory at len) k has m hs same shows = subst (λ (h : Holds). Tells (memory_answer (at + k) m) (set_at t (in_memory h (at + k)))) same (memory-told (at + k) m shows)

  none-told : (p : Part) (k : ℕ) → Tells (Answers p k None) []
  none-told (part.Register r) k = no-items
  none-told (part.Memory at len) k = no-items

  pub either-told : (p : Part) (k : ℕ) → HasByte p k → (m : Option Member) (o : Option Body) → IsOne m o → IfSome m (ShowsMember pid t) → Tells (Answers p k m) (set_of t pid p k o)
  either-told p k has None None same shows = none-told p k
  either-told p k has None (Some x) same shows = absurd (cc)
  either-told p k has (Some m) None same shows = absurd (cc)
  either-told p k has (Some m) (Some x) same shows = member-told p k has m (holds_of x) (some-holds m.holds (holds_of x) same) shows

-- in a group that was followed
module _ (f : Following) (followed : IsFollowing f) (held : Held) (until : held.moment ≡ f.until) (k : ℕ) (has : HasByte held.part k) where
  abbrev Items : Made → List EventByte
  Items made = items_made (operands f.linkage) held.pid held.part k made

  shown-told : (g : ℕ) (kept : Kept) → Follows f.linkage f.entries f.until g kept → AreItems (told_of (point_in held.pid held.part k) (Some kept)) (Items (history.alone f.entries g f.until))
  shown-told g kept follows =
      let t = alone (operands f.linkage) follows.own.inside in
      subst (λ (made : Made). AreItems (told_of (point_in held.pid held.part k) (Some kept)) (Items made)) (sym follows.makes)
      (subst (λ (o : Option (List Item)). AreItems (unwrap_or o []) (set_of t held.pid held.part k (body_at follows.own.bodies held.pid))) (sym (answers-are (shown kept) held.pid held.part k))
      (either-told t held.pid held.part k has ((shown kept).members held.pid) (body_at follows.own.bodies held.pid) (follows.holds held.pid) (follows.shows.members held.pid)))

  kept-told : (g : ℕ) (o : Option Kept) → IsSome o → IfSome o (Follows f.linkage f.entries f.until g) → AreItems (told_of (point_in held.pid held.part k) o) (Items (history.alone f.entries g f.until))
  kept-told g None is follows = absurd (cc)
  kept-told g (Some kept) is follows = shown-told g kept follows

  group-told : (o : Option ℕ) → IfSome o (λ g. IsSome (tracker_of f g)) → AreItems (told_by f (point_in held.pid held.part k) o) (items_among (operands f.linkage) f.entries held k o)
  group-told None is = no-items
  group-told (Some g) is =
      subst (λ (n : ℕ). AreItems (told_of (point_in held.pid held.part k) (tracker_of f g)) (Items (history.alone f.entries g n))) (sym until) (kept-told g (tracker_of f g) is (followed g))

  -- byte k of what a process holds
  pub byte-told : IfSome (group_of f.entries held.pid) (λ g. IsSome (tracker_of f g)) → AreItems (told_at f held k) (items_among (operands f.linkage) f.entries held k (group_of f.entries held.pid))
  byte-told is = group-told (group_of f.entries held.pid) is
