-- Queries about writes to the console, one after the other.
use Rattle.std.proofs.Common.{◌≡◌, ◌∙◌, ℕ, ◌+◌, ◌<◌, ◌≤◌, ◌++◌, Bool, true, false, if◌then◌else◌, List, [], ◌∷◌, drop, length, slice_index_or, sum_by, refl, sym, ap, subst, arith, Err, IfErr, IfOk, IsErrAnd, Ok, OnOk, Result}
use Rattle.std.proofs.lemmas.List.{drop_more}
use Rattle.std.proofs.lemmas.List.Sums.{sum_by-append}
use Rattle.acts_model.specs.Records.{is_event}
use Rattle.arn_base.specs.declared.records.Record.{Record}
use Rattle.generator.specs.Sums.{written_by}
use Rattle.replay_steps.specs.declared.errors.QueryError.{QueryError}
use Rattle.session_questions.specs.Asked.{event_cost, unless_refused}
use Rattle.session_questions.specs.Counting.{AreAnswered, IsRefused}
use Rattle.session_questions.specs.Generated.{Write, writes_cost, pairs_of, unless_one_refused, write_of, writes, writes_from}

-- an event's writes come before those behind it
pub next-event : (entries : List Record) (event index : ℕ) (item : Record) → index < length entries → item ≡ slice_index_or entries index item → is_event item ≡ true
    → writes_from event (drop index entries) ≡ write_of event (written_by item) ++ writes_from (event + 1) (drop (index + 1) entries)
next-event entries event index item less is counts =
    let behind : List Record = drop (index + 1) entries in
    ap (writes_from event) (drop_more entries index item less ∙ ap (λ (x : Record). x ∷ behind) (sym is))
    ∙ ap (λ (b : Bool). if b then write_of event (written_by item) ++ writes_from (event + 1) behind else writes_from event behind) counts

pub next-slice : (entries : List Record) (event index : ℕ) (item : Record) → index < length entries → item ≡ slice_index_or entries index item → is_event item ≡ false
    → writes_from event (drop index entries) ≡ writes_from event (drop (index + 1) entries)
next-slice entries event index item less is other =
    let behind : List Record = drop (index + 1) entries in
    ap (writes_from event) (drop_more entries index item less ∙ ap (λ (x : Record). x ∷ behind) (sym is))
    ∙ ap (λ (b : Bool). if b then write_of event (written_by item) ++ writes_from (event + 1) behind else writes_from event behind) other

-- those behind are told where the first are answered
told-append : (entries : List Record) (first rest : List Write) (text : List ℕ) → unless_one_refused entries (first ++ rest) text ≡ unless_one_refused entries first (unless_one_refused entries rest text)
told-append entries [] rest text = refl
told-append entries (w ∷ first) rest text = ap (λ (x : List ℕ). unless_refused entries w.event 0 w.len x) (told-append entries first rest text)

told-both : (entries : List Record) (all first rest : List Write) (text : List ℕ) → all ≡ first ++ rest → unless_one_refused entries all text ≡ unless_one_refused entries first (unless_one_refused entries rest text)
told-both entries all first rest text is = ap (λ (x : List Write). unless_one_refused entries x text) is ∙ told-append entries first rest text

counted-both : (entries : List Record) (all first rest : List Write) → all ≡ first ++ rest → sum_by (pairs_of entries) all ≡ sum_by (pairs_of entries) first + sum_by (pairs_of entries) rest
counted-both entries all first rest is = ap (sum_by (pairs_of entries)) is ∙ sum_by-append (pairs_of entries) first rest

cost-both : (entries : List Record) (all first rest : List Write) → all ≡ first ++ rest → writes_cost entries all ≡ writes_cost entries first + writes_cost entries rest
cost-both entries all first rest is = ap (writes_cost entries) is ∙ sum_by-append (λ (w : Write). event_cost entries w.event 0 w.len) first rest

-- what the first cost leaves enough for the rest
pub cost-goes-on : (entries : List Record) (old new most : ℕ) (left first rest : List Write) → left ≡ first ++ rest → new ≤ old + writes_cost entries first → old + writes_cost entries left ≤ most → new + writes_cost entries rest ≤ most
cost-goes-on entries old new most left first rest is ran before = omega (arith, ran, before, cost-both entries left first rest is)

-- so many pairs were counted, and what is left decides what is told
pub record Leaves (entries : List Record) (pairs : ℕ) (left : List Write) : Type 0 where
  pub told : (text : List ℕ) → unless_one_refused entries (writes entries) text ≡ unless_one_refused entries left text
  pub counted : pairs + sum_by (pairs_of entries) left ≡ sum_by (pairs_of entries) (writes entries)

-- one more is answered
pub goes-on : (entries : List Record) (pairs more counted : ℕ) (left first rest : List Write) → left ≡ first ++ rest → AreAnswered entries first more → counted ≡ pairs + more → Leaves entries pairs left → Leaves entries counted rest
goes-on entries pairs more counted left first rest is answered sums before =
    record {
      told = λ text. before.told text ∙ told-both entries left first rest text is ∙ answered.told (unless_one_refused entries rest text);
      counted = omega (arith, sums, answered.counted, before.counted, counted-both entries left first rest is);
    }

pub goes-on-as-it-is : (entries : List Record) (pairs counted : ℕ) (left rest : List Write) → left ≡ rest → counted ≡ pairs → Leaves entries pairs left → Leaves entries counted rest
goes-on-as-it-is entries pairs counted left rest is same before =
    record {
      told = λ text. before.told text ∙ ap (λ (x : List Write). unless_one_refused entries x text) is;
      counted = omega (arith, same, before.counted, ap (sum_by (pairs_of entries)) is);
    }

-- or it isn't
pub stops : (entries : List Record) (pairs : ℕ) (left first rest : List Write) (why : QueryError) → left ≡ first ++ rest → IsRefused entries first why → Leaves entries pairs left → IsRefused entries (writes entries) why
stops entries pairs left first rest why is refused before =
    λ known text. before.told text ∙ told-both entries left first rest text is ∙ refused known (unless_one_refused entries rest text)

-- what holds of an error holds of the one that is handed on
pub err-same : {T E : Type 0} (r : Result T E) (why : E) (P : E → Type 0) → IsErrAnd r (λ e. e ≡ why) → P why → IfErr r P
err-same (Ok x) why P is p = tt
err-same (Err e) why P is p = subst P (sym is) p

-- nothing is asked of a result that is an error
pub ok-never : {T E : Type 0} (P : T → Type 0) (r : Result T E) (why : E) → IsErrAnd r (λ e. e ≡ why) → IfOk r P
ok-never P (Ok x) why is = absurd is
ok-never P (Err e) why is = tt

pub ok-always : {T E : Type 0} (P : Type 0) (r : Result T E) → P → OnOk r P
ok-always P (Ok x) is = is
ok-always P (Err e) is = tt

-- before the first write all are left
pub begins : (entries : List Record) → Leaves entries 0 (writes entries)
begins entries = record { told = λ text. refl; counted = omega arith }

-- what the first cost was within bounds
pub cost-stops : (entries : List Record) (old new most : ℕ) (left first rest : List Write) → left ≡ first ++ rest → new ≤ old + writes_cost entries first → old + writes_cost entries left ≤ most → new ≤ most
cost-stops entries old new most left first rest is ran before = omega (arith, cost-goes-on entries old new most left first rest is ran before)
