-- Bodies whose memories were made by earlier events, windows and segments apart, each of its full length.
use Rattle.std.proofs.Common.{◌≡◌, ℕ, ◌+◌, ◌<◌, ◌≤◌, ◌==◌, cond, length, List, Bool, true, false, [], Option, Some, None, IfSome, refl, ap, ne_eqb, arith, eqb-true, eq-eqb}
use Rattle.std.proofs.lemmas.Bool.Decides.{nat_tests}
use Rattle.parts_model.specs.declared.limits.TheConstants.{WINDOW_LEN, SEGMENT_LEN}
use Rattle.acts_model.specs.Acts.{Act, Starts, Shares, Beginning, acted, begun, child_view, done_by, joined, restored}
use Rattle.acts_model.specs.Bodies.{Body, Bodies, View, become, body_at, memory_at, nobody, put, remove, view, laid_segment}
use Rattle.acts_model.specs.Transfers.{Holds, holds_of}
use Rattle.acts_model.specs.Views.{with_reach}
use Rattle.arn_base.specs.declared.machine.Cpu.{Cpu}
use Rattle.arn_base.specs.Window.{Window}
use Rattle.past_lives.proofs.Bodies.{put-body, put-memory, remove-body, remove-memory, nobody-at}
use Rattle.past_lives.proofs.Sizes.{HasSizes}

-- what a process holds after its act

pub reach-body : (ws : List Window) (v : View) → (with_reach ws v).body ≡ v.body
reach-body ws v = grind (arith, nat_tests)

restored-holds : (o : Option Cpu) (v : View) → holds_of (restored o v).body ≡ holds_of v.body
restored-holds None v = refl
restored-holds (Some cpu) v = refl

abbrev pub act_holds : ℕ → Act → Holds → Holds
act_holds event (Starts file block block_len) h = record { window = event; segment = None }
act_holds event Shares h = record { window = h.window; segment = Some event }
act_holds event act h = h

pub acted-holds : (event : ℕ) (act : Act) (v : View) → IfSome (acted event act v) (λ (w : View). holds_of w.body ≡ act_holds event act (holds_of v.body))
acted-holds event act v = grind (arith, nat_tests, reach-body, restored-holds)

-- which memories are segments, by the events that made them
abbrev pub Marks : Type 0
Marks = ℕ → Bool

pub record Fits (shared : Marks) (n : ℕ) (h : Holds) : Type 0 where
  pub window : (h.window < n) × (shared h.window ≡ false)
  pub segment : IfSome h.segment (λ k. (k < n) × (shared k ≡ true))

-- of n events
pub record Sound (shared : Marks) (n : ℕ) (b : Bodies) : Type 0 where
  pub fits : (p : ℕ) → IfSome (body_at b p) (λ (x : Body). Fits shared n (holds_of x))
  pub sizes : (p : ℕ) → IfSome (body_at b p) (λ (x : Body). HasSizes (view b x))

pub nobody-sound : (n : ℕ) → Sound (λ k. false) n nobody
nobody-sound n = record { fits = λ p. rw (nobody-at p) tt; sizes = λ p. rw (nobody-at p) tt }

-- marks of later events

abbrev pub Same : Marks → Marks → ℕ → Type 0
Same shared shared' n = (k : ℕ) → k < n → shared' k ≡ shared k

pub fits-later : (shared shared' : Marks) (n n' : ℕ) (h : Holds) → Same shared shared' n → n ≤ n' → Fits shared n h → Fits shared' n' h
fits-later shared shared' n n' h h1 h2 h3 = grind (arith, nat_tests)

pub sound-later : (shared shared' : Marks) (n n' : ℕ) (b : Bodies) → Same shared shared' n → n ≤ n' → Sound shared n b → Sound shared' n' b
sound-later shared shared' n n' b h1 h2 h3 = grind (arith, nat_tests, fits-later)

-- what is put and removed

apart : (b : Bool) → b ≡ true → b ≡ false → ⊥
apart true e f = cc
apart false e f = cc

module _ (shared : Marks) (n p : ℕ) (v : View) (b : Bodies) (f : Fits shared n (holds_of v.body)) (h : HasSizes v) where
  -- a private window behind the put
  window-len : (k : ℕ) → shared k ≡ false → length (memory_at b k) ≡ WINDOW_LEN → length (memory_at (put p v b) k) ≡ WINDOW_LEN
  window-len k h1 h2 = grind (arith, nat_tests, apart, eqb-true, laid_segment, put-memory)

  -- and a segment
  segment-len : (k : ℕ) → shared k ≡ true → length (memory_at b k) ≡ SEGMENT_LEN → length (memory_at (put p v b) k) ≡ SEGMENT_LEN
  segment-len k h1 h2 = grind (arith, nat_tests, apart, eqb-true, laid_segment, put-memory)

  other-sizes : (x : Body) → Fits shared n (holds_of x) → HasSizes (view b x) → HasSizes (view (put p v b) x)
  other-sizes x h1 h2 = grind (arith, nat_tests, segment-len, window-len)

  own-sizes : HasSizes (view (put p v b) v.body)
  own-sizes = grind (arith, nat_tests, apart, eq-eqb, eqb-true, laid_segment, put-memory)

  pub put-sound : Sound shared n b → Sound shared n (put p v b)
  put-sound h1 = grind (arith, nat_tests, other-sizes, own-sizes, put-body)

remove-sound : (shared : Marks) (n p : ℕ) (b : Bodies) → Sound shared n b → Sound shared n (remove p b)
remove-sound shared n p b h1 = grind (arith, nat_tests, remove-body, remove-memory)

-- acts

abbrev pub is_share : Act → Bool
is_share Shares = true
is_share act = false

-- the memory that the act makes, if it makes one, is marked as what it is
abbrev pub mark : ℕ → Act → Marks → Marks
mark event act shared k = cond (k == event) (is_share act) (shared k)

pub mark-same : (event : ℕ) (act : Act) (shared : Marks) → Same shared (mark event act shared) event
mark-same event act shared k l = ap (λ (t : Bool). cond t (is_share act) (shared k)) (ne_eqb k event (λ e. omega arith))

pub mark-here : (event : ℕ) (act : Act) (shared : Marks) → mark event act shared event ≡ is_share act
mark-here event act shared = ap (λ (t : Bool). cond t (is_share act) (shared event)) (eq-eqb event event refl)

act-fits : (shared : Marks) (event : ℕ) (act : Act) (h : Holds) → shared event ≡ is_share act → Fits shared (event + 1) h → Fits shared (event + 1) (act_holds event act h)
act-fits shared event act h h1 h2 = grind (arith, nat_tests)

acted-fits : (shared : Marks) (event : ℕ) (act : Act) (v : View) → shared event ≡ is_share act → Fits shared (event + 1) (holds_of v.body) → IfSome (acted event act v) (λ (w : View). Fits shared (event + 1) (holds_of w.body))
acted-fits shared event act v h1 h2 = grind (arith, nat_tests, act-fits, act_holds, acted-holds)

become-sound : (shared : Marks) (n p : ℕ) (o : Option View) (b : Bodies) → IfSome o (λ (w : View). Fits shared n (holds_of w.body)) → IfSome o HasSizes → Sound shared n b → Sound shared n (become p o b)
become-sound shared n p None b f h s = remove-sound shared n p b s
become-sound shared n p (Some w) b f h s = put-sound shared n p w b f h s

joined-sound : (shared : Marks) (event : ℕ) (act : Act) (v : View) (b : Bodies) → shared event ≡ is_share act → Fits shared (event + 1) (holds_of v.body) → HasSizes v
    → Sound shared (event + 1) b → Sound shared (event + 1) (joined act event v b)
joined-sound shared event act v b h1 h2 h3 h4 = grind (arith, nat_tests, put-sound)

pub done-sound : (shared : Marks) (event p : ℕ) (act : Act) (v : View) (b : Bodies) → shared event ≡ is_share act → Fits shared (event + 1) (holds_of v.body) → HasSizes v
    → IfSome (acted event act v) HasSizes → Sound shared (event + 1) b → Sound shared (event + 1) (done_by p event act (Some v) b)
done-sound shared event p act v b m f h after s =
    joined-sound shared event act v (become p (acted event act v) b) m f h
    (become-sound shared (event + 1) p (acted event act v) b (acted-fits shared event act v m f) after s)

-- the group's first process
pub begun-sound : (shared : Marks) (event g : ℕ) (start : Beginning) (b : Bodies) → shared event ≡ false → length start.window ≡ WINDOW_LEN → Sound shared (event + 1) b → Sound shared (event + 1) (begun g event start b)
begun-sound shared event g start b m len s =
    put-sound shared (event + 1) g (child_view event start None []) b (record { window = (omega arith, m); segment = tt }) (record { window = len; segment = tt }) s
