-- The query about one write to the console.
use Rattle.std.proofs.Common.{◌≡◌, ◌∙◌, ℕ, ◌+◌, ◌≤◌, Bool, true, false, if◌then◌else◌, List, [], ◌∷◌, Option, length, refl, ap, sym, subst, arith}
use Rattle.arn_base.specs.declared.records.Pair.{Pair}
use Rattle.arn_base.specs.declared.records.Record.{Record}
use Rattle.arn_lines.specs.declared.answer.Refusal.TheVariants.{NoPoint}
use Rattle.arn_lines.specs.Texts.{refusal_text}
use Rattle.history_model.specs.Alone.{Disagrees}
use Rattle.history_model.specs.Events.{event_at, is_range}
use Rattle.query_engine.specs.Asked.{Answers, Fails, RunsNothing, ran_about, ran_for}
use Rattle.query_engine.specs.declared.engine.Answer.{Answer}
use Rattle.query_engine.specs.declared.engine.Target.{Target}
use Rattle.query_engine.specs.declared.engine.Target.TheVariants as target
use Rattle.query_model.specs.Answers.{event_disagreement}
use Rattle.replay_steps.specs.declared.errors.QueryError.{QueryError}
use Rattle.replay_steps.specs.declared.errors.QueryError.TheVariants as error
use Rattle.rv64_model.specs.declared.linkage.Linkage.TheVariants.{Data}
use Rattle.session_questions.specs.Asked.{unless_damaged}
use Rattle.session_questions.specs.Counting.{AreAnswered, IsRefused}
use Rattle.session_questions.specs.Generated.{pairs_of, writes_cost, write_of}

stands : (old new cost : ℕ) → new ≡ old → new ≤ old + cost
stands old new cost same = omega (arith, same)

with-none : (old new cost : ℕ) → new ≤ old + cost → new ≤ old + (0 + cost)
with-none old new cost within = omega (arith, within)

counts : (n m k : ℕ) → n ≡ m → m ≡ k → n ≡ 0 + k
counts n m k p q = omega (arith, p, q)

module _ (entries : List Record) (event : ℕ) where
  -- what is told in place of a text, by whether the bytes are there and whether something disagrees
  abbrev told-if : Bool → Option Disagrees → List ℕ → List ℕ
  told-if b o text = if b then unless_damaged o text else refusal_text NoPoint

  cost-if : (b : Bool) (cost old new : ℕ) → b ≡ true → new ≤ old + cost → new ≤ old + (0 + (if b then cost else 0))
  cost-if b cost old new there within = subst (λ (b : Bool). new ≤ old + (0 + (if b then cost else 0))) (sym there) (with-none old new cost within)

  none : (bytes : List ℕ) → length bytes ≡ 0 → AreAnswered entries (write_of event bytes) 0
  none [] is = record { told = λ text. refl; counted = refl }
  none (b ∷ bytes) is = absurd (omega (arith, is))

  nowhere : (bytes : List ℕ) → (length bytes ≡ 0 → ⊥) → is_range (event_at entries event) 0 (length bytes) ≡ false → IsRefused entries (write_of event bytes) error.NoPoint
  nowhere [] some is = absurd (some refl)
  nowhere (b ∷ bytes) some is = λ known text. ap (λ (x : Bool). told-if x (event_disagreement entries event) text) is

  failed : (bytes : List ℕ) (why : QueryError) → (length bytes ≡ 0 → ⊥) → Fails entries (target.Event event 0 (length bytes)) why → IsRefused entries (write_of event bytes) why
  failed [] why some f = absurd (some refl)
  failed (b ∷ bytes) error.NoPoint some f = λ known text. ap (λ (x : Bool). told-if x (event_disagreement entries event) text) f
  failed (b ∷ bytes) (error.Disagrees d) some f = λ known text. ap (λ (x : Bool). told-if x (event_disagreement entries event) text) f.0 ∙ ap (λ (o : Option Disagrees). unless_damaged o text) f.1
  failed (b ∷ bytes) error.NoMemory some f = λ known text. absurd (known refl)

  answered : (bytes : List ℕ) (a : Answer) (n : ℕ) → (length bytes ≡ 0 → ⊥) → Answers Data entries (target.Event event 0 (length bytes)) a → n ≡ length a.pairs → AreAnswered entries (write_of event bytes) n
  answered [] a n some p count = absurd (some refl)
  answered (b ∷ bytes) a n some p count = record {
    told = λ text. ap (λ (x : Bool). told-if x (event_disagreement entries event) text) p.range ∙ ap (λ (o : Option Disagrees). unless_damaged o text) p.agree;
    counted = counts n (length a.pairs) (pairs_of entries (record { event = event; len = length (b ∷ bytes) })) count (ap (λ (x : List Pair). length x) p.pairs);
  }

  cost-failed : (bytes : List ℕ) (why : QueryError) (old new : ℕ) → (length bytes ≡ 0 → ⊥) → Fails entries (target.Event event 0 (length bytes)) why → RunsNothing why old new → new ≤ old + ran_for entries event → new ≤ old + writes_cost entries (write_of event bytes)
  cost-failed [] why old new some f same within = absurd (some refl)
  cost-failed (b ∷ bytes) error.NoPoint old new some f same within = stands old new (writes_cost entries (write_of event (b ∷ bytes))) same
  cost-failed (b ∷ bytes) (error.Disagrees d) old new some f same within = cost-if (is_range (event_at entries event) 0 (length (b ∷ bytes))) (ran_for entries event) old new f.0 within
  cost-failed (b ∷ bytes) error.NoMemory old new some f same within = cost-if (is_range (event_at entries event) 0 (length (b ∷ bytes))) (ran_for entries event) old new f within

  cost-answered : (bytes : List ℕ) (a : Answer) (old new : ℕ) → (length bytes ≡ 0 → ⊥) → Answers Data entries (target.Event event 0 (length bytes)) a → new ≤ old + ran_for entries event → new ≤ old + writes_cost entries (write_of event bytes)
  cost-answered [] a old new some p within = absurd (some refl)
  cost-answered (b ∷ bytes) a old new some p within = cost-if (is_range (event_at entries event) 0 (length (b ∷ bytes))) (ran_for entries event) old new p.range within

  -- the same where the bytes are known by their equals, and the target by what it is
  module _ (said bytes : List ℕ) (same : said ≡ bytes) where
    pub none-written : length said ≡ 0 → AreAnswered entries (write_of event bytes) 0
    none-written is = subst (λ (x : List ℕ). AreAnswered entries (write_of event x) 0) same (none said is)

    module _ (some : length said ≡ 0 → ⊥) where
      pub one-nowhere : is_range (event_at entries event) 0 (length said) ≡ false → IsRefused entries (write_of event bytes) error.NoPoint
      one-nowhere is = subst (λ (x : List ℕ). IsRefused entries (write_of event x) error.NoPoint) same (nowhere said some is)

      module _ (t : Target) (is : t ≡ target.Event event 0 (length said)) where
        pub one-failed : (why : QueryError) → Fails entries t why → IsRefused entries (write_of event bytes) why
        one-failed why f = subst (λ (x : List ℕ). IsRefused entries (write_of event x) why) same (failed said why some (subst (λ (t : Target). Fails entries t why) is f))

        pub one-answered : (a : Answer) (n : ℕ) → Answers Data entries t a → n ≡ length a.pairs → AreAnswered entries (write_of event bytes) n
        one-answered a n p count = subst (λ (x : List ℕ). AreAnswered entries (write_of event x) n) same (answered said a n some (subst (λ (t : Target). Answers Data entries t a) is p) count)

        pub one-cost-failed : (why : QueryError) (old new : ℕ) → Fails entries t why → RunsNothing why old new → new ≤ old + ran_about entries t → new ≤ old + writes_cost entries (write_of event bytes)
        one-cost-failed why old new f nothing within =
            subst (λ (x : List ℕ). new ≤ old + writes_cost entries (write_of event x)) same
            (cost-failed said why old new some (subst (λ (t : Target). Fails entries t why) is f) nothing (subst (λ (t : Target). new ≤ old + ran_about entries t) is within))

        pub one-cost-answered : (a : Answer) (old new : ℕ) → Answers Data entries t a → new ≤ old + ran_about entries t → new ≤ old + writes_cost entries (write_of event bytes)
        one-cost-answered a old new p within =
            subst (λ (x : List ℕ). new ≤ old + writes_cost entries (write_of event x)) same
            (cost-answered said a old new some (subst (λ (t : Target). Answers Data entries t a) is p) (subst (λ (t : Target). new ≤ old + ran_about entries t) is within))
