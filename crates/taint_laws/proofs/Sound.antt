-- Bodies whose memories were made by earlier events: windows and segments apart, and no longer than there is room.
use Rattle.std.proofs.Common.{◌≡◌, ℕ, ◌+◌, ◌<◌, ◌≤◌, ◌==◌, cond, length, Bool, true, false, [], Option, Some, None, IfSome, refl, ap, ne_eqb, arith}
use Rattle.std.proofs.lemmas.Bool.Decides.{nat_tests}
use Rattle.std.proofs.lemmas.Bool.{eqb-true, eq-eqb, leb-true, leb-false}
use Rattle.parts_model.specs.declared.limits.TheConstants.{WINDOW_LEN, SEGMENT_LEN}
use Rattle.acts_model.specs.Acts.{Act, Forks, Shares, Beginning, acted, begun, child_view, done_by, joined}
use Rattle.acts_model.specs.Bodies.{Body, Bodies, View, become, body_at, memory_at, nobody, put, remove, view, laid_segment}
use Rattle.acts_model.specs.Transfers.{Holds, holds_of}
use Rattle.taint_state.specs.Goes.{IsUnheldBy}
use Rattle.taint_laws.proofs.Holding.{act_holds, acted-holds}
use Rattle.taint_laws.proofs.Places.{put-body, put-memory, remove-body, remove-memory, nobody-at, nothing-at}
use Rattle.taint_laws.proofs.Rooms.{HasRooms}

-- which memories are segments, by the events that made them
abbrev pub Marks : Type 0
Marks = ℕ → Bool

pub record Fits (shared : Marks) (n : ℕ) (h : Holds) : Type 0 where
  pub window : (h.window < n) × (shared h.window ≡ false)
  pub segment : IfSome h.segment (λ k. (k < n) × (shared k ≡ true))

abbrev pub room : Bool → ℕ
room shared = cond shared SEGMENT_LEN WINDOW_LEN

-- of n events, and no process above the greatest
pub record Sound (shared : Marks) (n most : ℕ) (b : Bodies) : Type 0 where
  pub fits : (p : ℕ) → IfSome (body_at b p) (λ (x : Body). Fits shared n (holds_of x))
  pub rooms : (k : ℕ) → length (memory_at b k) ≤ room (shared k)
  pub unmade : (k : ℕ) → n ≤ k → memory_at b k ≡ []
  pub few : (p : ℕ) → most < p → body_at b p ≡ None

pub nobody-sound : (n most : ℕ) → Sound (λ k. false) n most nobody
nobody-sound n most = grind (arith, nat_tests, nobody-at, nothing-at)

-- marks of later events

abbrev pub Same : Marks → Marks → ℕ → Type 0
Same shared shared' n = (k : ℕ) → k < n → shared' k ≡ shared k

pub fits-later : (shared shared' : Marks) (n n' : ℕ) (h : Holds) → Same shared shared' n → n ≤ n' → Fits shared n h → Fits shared' n' h
fits-later shared shared' n n' h h1 h2 h3 = grind (arith, nat_tests)

pub sound-later : (shared shared' : Marks) (n n' most most' : ℕ) (b : Bodies) → Same shared shared' n → n ≤ n' → most ≤ most' → Sound shared n most b → Sound shared' n' most' b
sound-later shared shared' n n' most most' b h1 h2 h3 h4 = grind (arith, nat_tests, fits-later, leb-false, leb-true, room)

-- a memory that is yet to be made is held by none
pub unheld-by : (shared : Marks) (n made : ℕ) (h : Holds) → n ≤ made → Fits shared n h → IsUnheldBy made h
unheld-by shared n made h h1 h2 = grind (arith, nat_tests)

-- what is seen

pub seen-rooms : (shared : Marks) (n most : ℕ) (b : Bodies) (x : Body) → Sound shared n most b → Fits shared n (holds_of x) → HasRooms (view b x)
seen-rooms shared n most b x h1 h2 = grind (arith, nat_tests, room)

-- what is put and removed

pub put-sound : (shared : Marks) (n most p : ℕ) (v : View) (b : Bodies) → Fits shared n (holds_of v.body) → HasRooms v → p ≤ most → Sound shared n most b → Sound shared n most (put p v b)
put-sound shared n most p v b h1 h2 h3 h4 = grind (arith, nat_tests, eqb-true, laid_segment, put-body, put-memory, room)

remove-sound : (shared : Marks) (n most p : ℕ) (b : Bodies) → Sound shared n most b → Sound shared n most (remove p b)
remove-sound shared n most p b h1 = grind (arith, nat_tests, remove-body, remove-memory)

-- acts

abbrev pub is_share : Act → Bool
is_share Shares = true
is_share act = false

-- the memory that the act makes, if it makes one, is marked as what it is
abbrev pub mark : ℕ → Act → Marks → Marks
mark event act shared k = cond (k == event) (is_share act) (shared k)

pub mark-same : (event : ℕ) (act : Act) (shared : Marks) → Same shared (mark event act shared) event
mark-same event act shared k l = ap (λ (t : Bool). cond t (is_share act) (shared k)) (ne_eqb k event (λ e. omega arith))

pub mark-here : (event : ℕ) (act : Act) (shared : Marks) → mark event act shared event ≡ is_share act
mark-here event act shared = ap (λ (t : Bool). cond t (is_share act) (shared event)) (eq-eqb event event refl)

act-fits : (shared : Marks) (event : ℕ) (act : Act) (h : Holds) → shared event ≡ is_share act → Fits shared (event + 1) h → Fits shared (event + 1) (act_holds event act h)
act-fits shared event act h h1 h2 = grind (arith, nat_tests)

acted-fits : (shared : Marks) (event : ℕ) (act : Act) (v : View) → shared event ≡ is_share act → Fits shared (event + 1) (holds_of v.body) → IfSome (acted event act v) (λ (w : View). Fits shared (event + 1) (holds_of w.body))
acted-fits shared event act v h1 h2 = grind (arith, nat_tests, act-fits, act_holds, acted-holds)

become-sound : (shared : Marks) (n most p : ℕ) (o : Option View) (b : Bodies) → IfSome o (λ (w : View). Fits shared n (holds_of w.body)) → IfSome o HasRooms → p ≤ most → Sound shared n most b → Sound shared n most (become p o b)
become-sound shared n most p None b f h le s = remove-sound shared n most p b s
become-sound shared n most p (Some w) b f h le s = put-sound shared n most p w b f h le s

-- the child that joins the group has a number that is counted
abbrev pub ChildCounted : ℕ → Act → Type 0
ChildCounted most (Forks child) = child ≤ most
ChildCounted most act = Unit {0}

joined-sound : (shared : Marks) (event most : ℕ) (act : Act) (v : View) (b : Bodies) → shared event ≡ is_share act → Fits shared (event + 1) (holds_of v.body) → HasRooms v → ChildCounted most act
    → Sound shared (event + 1) most b → Sound shared (event + 1) most (joined act event v b)
joined-sound shared event most act v b h1 h2 h3 h4 h5 = grind (arith, nat_tests, put-sound)

pub done-sound : (shared : Marks) (event most p : ℕ) (act : Act) (v : View) (b : Bodies) → shared event ≡ is_share act → Fits shared (event + 1) (holds_of v.body) → HasRooms v
    → IfSome (acted event act v) HasRooms → p ≤ most → ChildCounted most act → Sound shared (event + 1) most b → Sound shared (event + 1) most (done_by p event act (Some v) b)
done-sound shared event most p act v b m f h after le child s =
    joined-sound shared event most act v (become p (acted event act v) b) m f h child
    (become-sound shared (event + 1) most p (acted event act v) b (acted-fits shared event act v m f) after le s)

-- the group's first process
pub begun-sound : (shared : Marks) (event most g : ℕ) (start : Beginning) (b : Bodies) → shared event ≡ false → length start.window ≤ WINDOW_LEN → g ≤ most → Sound shared (event + 1) most b → Sound shared (event + 1) most (begun g event start b)
begun-sound shared event most g start b m len le s =
    put-sound shared (event + 1) most g (child_view event start None []) b (record { window = (omega arith, m); segment = tt }) (record { window = len; segment = omega arith }) le s
