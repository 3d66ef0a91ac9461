-- A search on its way, and at its end.
use Rattle.std.proofs.Common.{◌≡◌, ◌⊎◌, inl, inr, ℕ, zero, suc, ◌+◌, ◌<◌, ◌≤◌, Bool, true, false, List, [], ◌∷◌, ◌++◌, length, replicate, refl, ap, sym, subst, ◌∙◌, arith, length-append}
use Rattle.std.proofs.lemmas.List.{length-replicate}
use Rattle.std.specs.Prelude.{All, Contains}
use Rattle.std.proofs.lemmas.Bool.{true≢false, false≢true}
use Rattle.std.proofs.lemmas.List.Elements.{All-weaker, Contains-append_left, Contains-push, Contains-push_cases}
use Rattle.exchange_graph.specs.Reach.{Reach, Given, Followed}
use Rattle.exchange_graph.specs.Rows.{row_of}
use Rattle.exchange_graph.specs.Search.{Found, is_marked, with_marks, unmarked, IsUnderWay, IsFound}
use Rattle.exchange_graph.proofs.Marks.{none-in, Grown, marks-grown, marks-all, marks-only}

-- nothing is found
pub none-marked : (len n : ℕ) → is_marked (replicate len false) n ≡ false
none-marked zero n = refl
none-marked (suc len) zero = refl
none-marked (suc len) (suc n) = none-marked len n

not-both : {P : Type 0} (b : Bool) → b ≡ false → b ≡ true → P
not-both true low high = absurd (true≢false low)
not-both false low high = absurd (false≢true high)

abbrev pub nothing : ℕ → Found
nothing len = record { marks = replicate len false; waiting = [] }

all-inside : (from : List ℕ) (len : ℕ) → All (λ n. n < len) from → All (λ n. n < length (nothing len).marks) from
all-inside from len below =
    let same : length (nothing len).marks ≡ len = length-replicate len false in rw same below

pub begun-len : (from : List ℕ) (len : ℕ) → All (λ n. n < len) from → length (with_marks (nothing len) from).marks ≡ len
begun-len from len below = (marks-grown (nothing len) from (all-inside from len below)).len ∙ length-replicate len false

pub begun : (rows : List (List ℕ)) (from : List ℕ) (len : ℕ) → All (λ n. n < len) from → IsUnderWay rows from (with_marks (nothing len) from)
begun rows from len below =
    let inside = all-inside from len below in
    let grown = marks-grown (nothing len) from inside in record {
      given = λ n h. marks-all (nothing len) from n inside h;
      sound = λ n h. elim (marks-only (nothing len) from n h) [
        | inl was ↦ not-both (is_marked (replicate len false) n) (none-marked len n) was
        | inr given ↦ Given n given
      ];
      waiting = λ n h. elim (grown.known n h) [ inl none ↦ absurd (none-in n none) | inr marked ↦ marked ];
      followed = λ n m h has. elim (grown.fresh n h) [
        | inl was ↦ not-both (is_marked (replicate len false) n) (none-marked len n) was
        | inr waits ↦ inl waits
      ];
    }

-- one number less waits, and its row is found
module _ (rows : List (List ℕ)) (from rest : List ℕ) (marks : List Bool) (next : ℕ) (inside : All (λ m. m < length marks) (row_of rows next)) where
  abbrev pub before : Found
  before = record { marks = marks; waiting = rest ++ next ∷ [] }

  abbrev pub taken : Found
  taken = record { marks = marks; waiting = rest }

  abbrev pub after : Found
  after = with_marks taken (row_of rows next)

  pub grown : Grown taken after
  grown = marks-grown taken (row_of rows next) inside

  sound-next : IsUnderWay rows from before → (n : ℕ) → is_marked after.marks n ≡ true → Reach rows from n
  sound-next u n h = elim (marks-only taken (row_of rows next) n h) [
    | inl was ↦ u.sound n was
    | inr has ↦ Followed n next (u.sound next (u.waiting next (Contains-push rest next))) has
  ]

  waiting-next : IsUnderWay rows from before → (n : ℕ) → Contains after.waiting n → is_marked after.marks n ≡ true
  waiting-next u n h = elim (grown.known n h) [
    | inl was ↦ grown.kept n (u.waiting n (Contains-append_left rest (next ∷ []) n was))
    | inr marked ↦ marked
  ]

  waited : (n m : ℕ) → Contains (row_of rows n) m → Contains (rest ++ next ∷ []) n → Contains after.waiting n ⊎ (is_marked after.marks m ≡ true)
  waited n m has h = elim (Contains-push_cases rest next n h) [
    | inl still ↦ inl (grown.waits n still)
    | inr is ↦ inr (marks-all taken (row_of rows next) m inside (subst (λ (k : ℕ). Contains (row_of rows k) m) (sym is) has))
  ]

  followed-next : IsUnderWay rows from before → (n m : ℕ) → is_marked after.marks n ≡ true → Contains (row_of rows n) m → Contains after.waiting n ⊎ (is_marked after.marks m ≡ true)
  followed-next u n m h has = elim (grown.fresh n h) [
    | inl was ↦ elim (u.followed n m was has) [ inl waits ↦ waited n m has waits | inr marked ↦ inr (grown.kept m marked) ]
    | inr waits ↦ inl waits
  ]

  pub stepped : IsUnderWay rows from before → IsUnderWay rows from after
  stepped u = record {
    given = λ n h. grown.kept n (u.given n h);
    sound = λ n h. sound-next u n h;
    waiting = λ n h. waiting-next u n h;
    followed = λ n m h has. followed-next u n m h has;
  }

-- nothing waits
complete : (rows : List (List ℕ)) (from : List ℕ) (marks : List Bool) → IsUnderWay rows from (record { marks = marks; waiting = [] }) → (n : ℕ) → Reach rows from n → is_marked marks n ≡ true
complete rows from marks u n (Given m h) = u.given n h
complete rows from marks u n (Followed m before r has) =
    elim (u.followed before n (complete rows from marks u before r) has) [ inl waits ↦ absurd (none-in before waits) | inr marked ↦ marked ]

pub ended : (rows : List (List ℕ)) (from : List ℕ) (marks : List Bool) → IsUnderWay rows from (record { marks = marks; waiting = [] }) → IsFound rows from marks
ended rows from marks u = record {
  sound = λ n h. u.sound n h;
  complete = λ n h. complete rows from marks u n h;
}

-- one turn of the loop
module _ (rows : List (List ℕ)) (f g : Found) (rest row : List ℕ) (next : ℕ) (waits : f.waiting ≡ rest ++ next ∷ []) (is : row ≡ row_of rows next) (inside : All (λ m. m < length rows) row) (room : length rows ≤ length f.marks) (turned : g ≡ with_marks (record { marks = f.marks; waiting = rest }) row) where
  marks-inside : All (λ m. m < length f.marks) (row_of rows next)
  marks-inside = rw (sym is) (All-weaker (λ m. m < length rows) (λ m. m < length f.marks) (λ m h. omega (arith, h, room)) row inside)

  whole : f ≡ record { marks = f.marks; waiting = rest ++ next ∷ [] }
  whole = ap (λ (w : List ℕ). record { marks = f.marks; waiting = w }) waits

  pub turn-same : length g.marks ≡ length f.marks
  turn-same = rw (turned, is) ((grown rows [] rest f.marks next marks-inside).len)

  pub turn-way : (from : List ℕ) → IsUnderWay rows from f → IsUnderWay rows from g
  turn-way from u = rw (turned, is) (stepped rows from rest f.marks next marks-inside (subst (λ (x : Found). IsUnderWay rows from x) whole u))

  pub turn-smaller : unmarked g.marks + length g.waiting < unmarked f.marks + length f.waiting
  turn-smaller =
      rw (turned, is, waits) (omega (arith, (grown rows [] rest f.marks next marks-inside).work, length-append rest (next ∷ [])))
