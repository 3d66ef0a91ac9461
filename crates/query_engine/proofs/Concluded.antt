-- What is concluded of groups that were followed answers of what was asked.
use Rattle.std.proofs.Common.{◌≡◌, ℕ, ◌+◌, ◌≤◌, List, true, true≢false, Option, Some, None, Result, Ok, Err, IfOk, IfErr, OnErr, sym, ap, subst, ◌∙◌}
use Rattle.arn_base.specs.declared.errors.NoMemory.{NoMemory}
use Rattle.arn_base.specs.declared.records.Pair.{Pair}
use Rattle.arn_base.specs.declared.records.Record.{Record}
use Rattle.history_model.specs.Events.{event_at, is_range}
use Rattle.parts_model.specs.declared.tagged.TaggedByte.{TaggedByte}
use Rattle.query_model.specs.Answers.{count_in, first_disagreement}
use Rattle.query_model.specs.Names.{written_disagreement}
use Rattle.replay_steps.specs.declared.errors.QueryError.{QueryError}
use Rattle.replay_steps.specs.declared.errors.QueryError.TheVariants as error
use Rattle.followed_groups.specs.Follows.{Explains}
use Rattle.followed_groups.specs.Following.{Following, HasFollowed}
use Rattle.followed_groups.specs.Parts.{IsPart, ran_in}
use Rattle.followed_groups.specs.Relations.{KeepsNoMore}
use Rattle.followed_groups.specs.declared.relations.Relations.{Relations}
use Rattle.query_engine.specs.Asked.{FailsEvent, RunsNothing}
use Rattle.query_engine.specs.Engines.{ReplaysAll}
use Rattle.query_engine.specs.Names.{FailsBytes}
use Rattle.query_engine.specs.declared.engine.Answer.{Answer}

-- what an answer tells of the groups that are asked
pub record Tells (entries : List Record) (moment : ℕ) (asked : List ℕ) (P : List Pair → Type 0) (answer : Answer) : Type 0 where
  pub agree : first_disagreement entries moment asked ≡ None
  pub pairs : P answer.pairs
  pub groups : answer.groups ≡ asked
  pub replayed : IsPart answer.replayed asked
  pub instructions : answer.instructions ≡ count_in entries asked

-- these groups are those that are asked, they are lent as a slice, and some of them were replayed
module _ (entries : List Record) (moment : ℕ) (asked groups slice part : List ℕ) (are : groups ≡ asked) (lent : slice ≡ groups) where
  pub tells : (P : List Pair → Type 0) (pairs : Result (List Pair) NoMemory) → IfOk pairs P → first_disagreement entries moment slice ≡ None → IsPart part slice
      → (r : Result Answer QueryError) → IfOk r (λ answer. pairs ≡ Ok answer.pairs) → IfOk r (λ answer. answer.groups ≡ groups) → IfOk r (λ answer. answer.replayed ≡ part)
      → IfOk r (λ answer. answer.instructions ≡ count_in entries groups) → IfOk r (Tells entries moment asked P)
  tells P pairs held agree is-part (Ok answer) ps gs rs is = record {
    agree = subst (λ (xs : List ℕ). first_disagreement entries moment xs ≡ None) (lent ∙ are) agree;
    pairs = subst (λ (p : Result (List Pair) NoMemory). IfOk p P) ps held;
    groups = gs ∙ are;
    replayed = subst (λ (xs : List ℕ). IsPart xs asked) (sym rs) (subst (λ (xs : List ℕ). IsPart part xs) (lent ∙ are) is-part);
    instructions = is ∙ ap (count_in entries) are;
  }
  tells P pairs held agree is-part (Err why) ps gs rs is = tt

  pub bounds : (old new : ℕ) → new ≤ old + ran_in entries moment slice → new ≤ old + ran_in entries moment asked
  bounds old new h = subst (λ (xs : List ℕ). new ≤ old + ran_in entries moment xs) (lent ∙ are) h

  pub counts : (old new : ℕ) → new ≡ old + ran_in entries moment part → (r : Result Answer QueryError) → IfOk r (λ answer. answer.replayed ≡ part) → IfOk r (λ answer. new ≡ old + ran_in entries moment answer.replayed)
  counts old new h (Ok answer) rs = h ∙ ap (λ (xs : List ℕ). old + ran_in entries moment xs) (sym rs)
  counts old new h (Err why) rs = tt

  pub replays : part ≡ slice → (r : Result Answer QueryError) → IfOk r (λ answer. answer.groups ≡ groups) → IfOk r (λ answer. answer.replayed ≡ part) → IfOk r ReplaysAll
  replays all (Ok answer) gs rs = rs ∙ all ∙ lent ∙ sym gs
  replays all (Err why) gs rs = tt

-- those that are asked were followed
pub has-asked : {asked slice : List ℕ} (f : Following) → slice ≡ asked → HasFollowed f slice → HasFollowed f asked
has-asked f are h = subst (λ (xs : List ℕ). HasFollowed f xs) are h

-- memory ran out for it
pub fails : (F : QueryError → Type 0) → F error.NoMemory → (r : Result Answer QueryError) → IfErr r (λ why. why ≡ error.NoMemory) → IfErr r F
fails F here (Ok answer) h = tt
fails F here (Err why) h = subst F (sym h) here

-- and nothing was kept
pub leaves : (old mid new : Relations) → KeepsNoMore old mid → (r : Result Answer QueryError) → OnErr r (KeepsNoMore mid new) → OnErr r (KeepsNoMore old new)
leaves old mid new more (Ok answer) h = tt
leaves old mid new more (Err why) h = λ key one holds. more key one (h key one holds)

-- bytes that are there are asked about
pub runs-nothing : (entries : List Record) (event from len : ℕ) → is_range (event_at entries event) from len ≡ true → (old new : ℕ) → (r : Result Answer QueryError) → IfErr r (FailsEvent entries event from len)
    → IfErr r (λ why. RunsNothing why old new)
runs-nothing entries event from len is old new (Ok answer) h = tt
runs-nothing entries event from len is old new (Err error.NoPoint) h = absurd (true≢false (sym is ∙ h))
runs-nothing entries event from len is old new (Err (error.Disagrees d)) h = tt
runs-nothing entries event from len is old new (Err error.NoMemory) h = tt

-- and of a file
module _ (entries : List Record) (moment : ℕ) (bytes : List TaggedByte) where
  pub fails-bytes : (o : Option (List TaggedByte)) → Some bytes ≡ o → (r : Result Answer QueryError) → IfErr r (Explains (written_disagreement entries moment bytes)) → IfErr r (FailsBytes entries moment o)
  fails-bytes o is r h = subst (λ (p : Option (List TaggedByte)). IfErr r (FailsBytes entries moment p)) is (of-these r h)
    where
      of-these : (r : Result Answer QueryError) → IfErr r (Explains (written_disagreement entries moment bytes)) → IfErr r (FailsBytes entries moment (Some bytes))
      of-these (Ok answer) h = tt
      of-these (Err error.NoPoint) h = absurd h
      of-these (Err (error.Disagrees d)) h = h
      of-these (Err error.NoMemory) h = tt

  pub runs-no-bytes : (old new : ℕ) → (r : Result Answer QueryError) → IfErr r (Explains (written_disagreement entries moment bytes)) → IfErr r (λ why. RunsNothing why old new)
  runs-no-bytes old new (Ok answer) h = tt
  runs-no-bytes old new (Err error.NoPoint) h = absurd h
  runs-no-bytes old new (Err (error.Disagrees d)) h = tt
  runs-no-bytes old new (Err error.NoMemory) h = tt
