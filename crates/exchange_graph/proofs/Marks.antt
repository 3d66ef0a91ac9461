-- Marks, and the numbers that wait.
use Rattle.std.proofs.Common.{◌≡◌, ◌≢◌, ◌⊎◌, inl, inr, ℕ, zero, suc, ◌+◌, ◌<◌, Bool, true, false, if◌then◌else◌, List, [], ◌∷◌, ◌++◌, length, set, refl, ap, sym, subst, ◌∙◌, arith, length-set, length-append}
use Rattle.std.specs.Prelude.{All, Contains}
use Rattle.std.proofs.lemmas.List.{get_or-set_same, get_or-set_other}
use Rattle.std.proofs.lemmas.List.Elements.{All-head, All-tail, Contains-append_left, Contains-append_right, Contains-push, Contains-push_cases, Contains-append_cases}
use Rattle.std.proofs.lemmas.Bool.Decides.{eqb_tells}
use Rattle.exchange_graph.specs.Search.{Found, is_marked, with_mark, with_marks, unmarked}

pub none-in : {X : Type 0} (x : X) → Contains [] x → ⊥
none-in x h = omega (arith, h.1)

pub head-or-tail : {X : Type 0} (y x : X) (ys : List X) → Contains (y ∷ ys) x → (y ≡ x) ⊎ Contains ys x
head-or-tail y x ys h =
    elim (Contains-append_cases (y ∷ []) ys x h) [
      | inl one ↦ elim (Contains-push_cases [] y x one) [ inl none ↦ absurd (none-in x none) | inr is ↦ inl is ]
      | inr rest ↦ inr rest
    ]

unmarked-set : (marks : List Bool) (n : ℕ) → n < length marks → is_marked marks n ≡ false → unmarked (set marks n true) + 1 ≡ unmarked marks
unmarked-set [] n inside is = absurd (omega arith)
unmarked-set (true ∷ marks) zero inside is = grind arith
unmarked-set (false ∷ marks) zero inside is = refl
unmarked-set (true ∷ marks) (suc n) inside is = unmarked-set marks n (omega arith) is
unmarked-set (false ∷ marks) (suc n) inside is = ap (λ k. k + 1) (unmarked-set marks n (omega arith) is)

-- what one step of marking leaves
pub record Grown (f g : Found) : Type 0 where
  pub len : length g.marks ≡ length f.marks
  pub kept : (n : ℕ) → is_marked f.marks n ≡ true → is_marked g.marks n ≡ true
  pub waits : (n : ℕ) → Contains f.waiting n → Contains g.waiting n
  pub fresh : (n : ℕ) → is_marked g.marks n ≡ true → (is_marked f.marks n ≡ true) ⊎ Contains g.waiting n
  pub known : (n : ℕ) → Contains g.waiting n → Contains f.waiting n ⊎ (is_marked g.marks n ≡ true)
  pub work : unmarked g.marks + length g.waiting ≡ unmarked f.marks + length f.waiting

same-grown : (f : Found) → Grown f f
same-grown f = record {
  len = refl;
  kept = λ n h. h;
  waits = λ n h. h;
  fresh = λ n h. inl h;
  known = λ n h. inl h;
  work = refl;
}

grown-twice : (f g h : Found) → Grown f g → Grown g h → Grown f h
grown-twice f g h a b = record {
  len = b.len ∙ a.len;
  kept = λ n is. b.kept n (a.kept n is);
  waits = λ n is. b.waits n (a.waits n is);
  fresh = λ n is. elim (b.fresh n is) [
    | inl was ↦ elim (a.fresh n was) [ inl first ↦ inl first | inr waits ↦ inr (b.waits n waits) ]
    | inr waits ↦ inr waits
  ];
  known = λ n is. elim (b.known n is) [
    | inl was ↦ elim (a.known n was) [ inl first ↦ inl first | inr marked ↦ inr (b.kept n marked) ]
    | inr marked ↦ inr marked
  ];
  work = b.work ∙ a.work;
}

marked : Found → ℕ → Found
marked f n = record { marks = set f.marks n true; waiting = f.waiting ++ n ∷ [] }

marks-now : (f : Found) (n m : ℕ) → n < length f.marks → is_marked f.marks m ≡ true → is_marked (set f.marks n true) m ≡ true
marks-now f n m inside is =
    elim (eqb_tells n m) [
      | inl h ↦ subst (λ (k : ℕ). is_marked (set f.marks n true) k ≡ true) h.1 (get_or-set_same f.marks n true false inside)
      | inr h ↦ (let apart : m ≢ n = λ e. h.1 (sym e) in get_or-set_other f.marks n m true false apart) ∙ is
    ]

marks-before : (f : Found) (n m : ℕ) → is_marked (set f.marks n true) m ≡ true → (is_marked f.marks m ≡ true) ⊎ Contains (f.waiting ++ n ∷ []) m
marks-before f n m is =
    elim (eqb_tells n m) [
      | inl h ↦ inr (subst (λ (k : ℕ). Contains (f.waiting ++ n ∷ []) k) h.1 (Contains-push f.waiting n))
      | inr h ↦ inl (sym (let apart : m ≢ n = λ e. h.1 (sym e) in get_or-set_other f.marks n m true false apart) ∙ is)
    ]

waits-before : (f : Found) (n m : ℕ) → n < length f.marks → Contains (f.waiting ++ n ∷ []) m → Contains f.waiting m ⊎ (is_marked (set f.marks n true) m ≡ true)
waits-before f n m inside is =
    elim (Contains-push_cases f.waiting n m is) [
      | inl h ↦ inl h
      | inr h ↦ inr (subst (λ (k : ℕ). is_marked (set f.marks n true) k ≡ true) h (get_or-set_same f.marks n true false inside))
    ]

marked-grown : (f : Found) (n : ℕ) → n < length f.marks → is_marked f.marks n ≡ false → Grown f (marked f n)
unfolding marked
marked-grown f n inside not = record {
  len = length-set f.marks n true;
  kept = λ m h. marks-now f n m inside h;
  waits = λ m h. Contains-append_left f.waiting (n ∷ []) m h;
  fresh = λ m h. marks-before f n m h;
  known = λ m h. waits-before f n m inside h;
  work =
      omega (arith, unmarked-set f.marks n inside not, length-append f.waiting (n ∷ []));
}

mark-by : (f : Found) (n : ℕ) (b : Bool) → n < length f.marks → is_marked f.marks n ≡ b → Grown f (if b then f else marked f n)
mark-by f n true inside is = same-grown f
mark-by f n false inside is = marked-grown f n inside is

mark-grown : (f : Found) (n : ℕ) → n < length f.marks → Grown f (with_mark f n)
mark-grown f n inside = unfold marked in mark-by f n (is_marked f.marks n) inside refl

mark-marks-by : (f : Found) (n : ℕ) (b : Bool) → n < length f.marks → is_marked f.marks n ≡ b → is_marked (if b then f else marked f n).marks n ≡ true
unfolding marked
mark-marks-by f n true inside is = is
mark-marks-by f n false inside is = get_or-set_same f.marks n true false inside

mark-marks : (f : Found) (n : ℕ) → n < length f.marks → is_marked (with_mark f n).marks n ≡ true
mark-marks f n inside = unfold marked in mark-marks-by f n (is_marked f.marks n) inside refl

mark-only-by : (f : Found) (n m : ℕ) (b : Bool) → is_marked (if b then f else marked f n).marks m ≡ true → (is_marked f.marks m ≡ true) ⊎ (n ≡ m)
unfolding marked
mark-only-by f n m true is = inl is
mark-only-by f n m false is =
    elim (eqb_tells n m) [
      | inl h ↦ inr h.1
      | inr h ↦ inl (sym (let apart : m ≢ n = λ e. h.1 (sym e) in get_or-set_other f.marks n m true false apart) ∙ is)
    ]

mark-only : (f : Found) (n m : ℕ) → is_marked (with_mark f n).marks m ≡ true → (is_marked f.marks m ≡ true) ⊎ (n ≡ m)
mark-only f n m = unfold marked in mark-only-by f n m (is_marked f.marks n)

-- some numbers
rest-inside : (f : Found) (n : ℕ) (numbers : List ℕ) → All (λ m. m < length f.marks) (n ∷ numbers) → All (λ m. m < length (with_mark f n).marks) numbers
rest-inside f n numbers inside =
    rw ((mark-grown f n (All-head (λ m. m < length f.marks) n numbers inside)).len) (All-tail (λ m. m < length f.marks) n numbers inside)

pub marks-grown : (f : Found) (numbers : List ℕ) → All (λ n. n < length f.marks) numbers → Grown f (with_marks f numbers)
marks-grown f [] inside = same-grown f
marks-grown f (n ∷ numbers) inside =
    grown-twice f (with_mark f n) (with_marks (with_mark f n) numbers)
    (mark-grown f n (All-head (λ m. m < length f.marks) n numbers inside))
    (marks-grown (with_mark f n) numbers (rest-inside f n numbers inside))

pub marks-all : (f : Found) (numbers : List ℕ) (m : ℕ) → All (λ n. n < length f.marks) numbers → Contains numbers m → is_marked (with_marks f numbers).marks m ≡ true
marks-all f [] m inside has = absurd (none-in m has)
marks-all f (n ∷ numbers) m inside has =
    let rest = rest-inside f n numbers inside in
    elim (head-or-tail n m numbers has) [
      | inl is ↦ (marks-grown (with_mark f n) numbers rest).kept m (subst (λ (k : ℕ). is_marked (with_mark f n).marks k ≡ true) is (mark-marks f n (All-head (λ m. m < length f.marks) n numbers inside)))
      | inr later ↦ marks-all (with_mark f n) numbers m rest later
    ]

pub marks-only : (f : Found) (numbers : List ℕ) (m : ℕ) → is_marked (with_marks f numbers).marks m ≡ true → (is_marked f.marks m ≡ true) ⊎ Contains numbers m
marks-only f [] m is = inl is
marks-only f (n ∷ numbers) m is =
    elim (marks-only (with_mark f n) numbers m is) [
      | inl was ↦ elim (mark-only f n m was) [
        | inl first ↦ inl first
        | inr same ↦ inr (subst (λ (k : ℕ). Contains (n ∷ numbers) k) same (Contains-append_left (n ∷ []) numbers n (Contains-push [] n)))
      ]
      | inr later ↦ inr (Contains-append_right (n ∷ []) numbers m later)
    ]
