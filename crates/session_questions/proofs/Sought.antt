-- What is told of targets of the engine: of those that bytes are, and of those that were asked.
use Rattle.std.proofs.Common.{◌≡◌, ◌≢◌, ◌∙◌, ◌++◌, ◌⊎◌, inl, inr, ◌≤◌, ◌+◌, ◌^◌, ℕ, Bool, true, false, if◌then◌else◌, List, Option, Some, None, IfSome, Result, Ok, Err, OnOk, refl, ap, sym, subst, arith}
use Rattle.std.specs.Prelude.{IfNone}
use Rattle.arn_base.specs.declared.records.Pair.{Pair}
use Rattle.arn_base.specs.declared.records.Record.{Record}
use Rattle.arn_lines.specs.declared.answer.Refusal.TheVariants.{NoPoint}
use Rattle.arn_lines.specs.Texts.{refusal_text}
use Rattle.history_index.specs.Indexes.{AreCountable, Indexes}
use Rattle.history_index.specs.Tables.{Tables}
use Rattle.history_model.specs.Alone.{Disagrees}
use Rattle.history_model.specs.Events.{event_at, is_range}
use Rattle.parts_model.specs.declared.tagged.TaggedByte.{TaggedByte}
use Rattle.query_engine.specs.Asked.{Answers, Fails, RunsNothing, in_file, in_memory, in_register, ran_about, ran_for, ran_for_bytes, ran_for_held}
use Rattle.query_engine.specs.Forth.{AnswersForth, ran_forth}
use Rattle.query_engine.specs.Names.{AnswersBytes, FailsBytes}
use Rattle.followed_pairs.specs.States.{is_held}
use Rattle.query_engine.specs.States.{AnswersHeld, FailsHeld}
use Rattle.query_engine.specs.declared.engine.Answer.{Answer}
use Rattle.query_engine.specs.declared.engine.Target.{Target}
use Rattle.query_engine.specs.declared.engine.Target.TheVariants as target
use Rattle.query_model.specs.Answers.{count_in, event_disagreement}
use Rattle.query_model.specs.Forth.{forth_groups}
use Rattle.query_model.specs.Names.{named_bytes}
use Rattle.query_model.specs.Sinks.{forth_disagreement, forth_pairs}
use Rattle.query_model.specs.States.{held_disagreement}
use Rattle.query_model.specs.declared.held.Held.{Held}
use Rattle.replay_steps.specs.declared.errors.QueryError.{QueryError}
use Rattle.replay_steps.specs.declared.errors.QueryError.TheVariants as error
use Rattle.rv64_model.specs.Carries.{operands}
use Rattle.rv64_model.specs.declared.linkage.Linkage.{Linkage}
use Rattle.session_questions.specs.Asked.{unless_damaged}
use Rattle.session_questions.specs.Texts.{Telling, answer_text, bytes_answer, event_telling, forth_telling, held_telling, held_text, named_telling, reached_text, sinks_text, sources_text, target_telling, written_text}
use Rattle.session_questions.proofs.Far.{far_memory, far_register, long_memory, many_bytes, no_register}
use Rattle.session_reports.specs.Far.{FarIsNowhere}
use Rattle.session_reports.specs.Refused.{error_text}

-- what is told of bytes, by whether they are there and whether something disagrees
abbrev text-if : Bool → Option Disagrees → List ℕ → List ℕ
text-if b o text = if b then unless_damaged o text else refusal_text NoPoint

abbrev telling-if : Bool → Option Disagrees → List ℕ → ℕ → Telling
telling-if b o text cost = record { text = text-if b o text; cost = if b then cost else 0 }

answered-if : (b : Bool) (o : Option Disagrees) (text : List ℕ) → b ≡ true → o ≡ None → text-if b o text ≡ text
answered-if b o text there agree = ap (λ (b : Bool). text-if b o text) there ∙ ap (λ (o : Option Disagrees). unless_damaged o text) agree

cost-if : (b : Bool) (cost old new : ℕ) → b ≡ true → new ≤ old + cost → new ≤ old + (if b then cost else 0)
cost-if b cost old new there within = subst (λ (b : Bool). new ≤ old + (if b then cost else 0)) (sym there) within

these : (a : Answer) (pairs : List Pair) (n : ℕ) (groups : List ℕ) → a.pairs ≡ pairs → a.instructions ≡ n → a.groups ≡ groups → answer_text pairs n groups ≡ answer_text a.pairs a.instructions a.groups
these a pairs n groups p q r =
    sym (ap (λ (x : List Pair). answer_text x a.instructions a.groups) p
    ∙ (ap (λ (x : ℕ). answer_text pairs x a.groups) q
    ∙ ap (λ (x : List ℕ). answer_text pairs n x) r))

module _ (linkage : Linkage) (entries : List Record) where
  nowhere : (b : Bool) (o : Option Disagrees) (text : List ℕ) (cost : ℕ) → b ≡ false → telling-if b o text cost ≡ target_telling linkage entries None
  nowhere b o text cost is = ap (λ (b : Bool). telling-if b o text cost) is

  this-one : (t t' : Target) → t ≡ t' → target_telling linkage entries (Some t') ≡ target_telling linkage entries (Some t)
  this-one t t' is = sym (ap (λ (x : Target). target_telling linkage entries (Some x)) is)

  held-nowhere : (held : Held) → is_held entries held ≡ false → held_telling (operands linkage) entries held ≡ target_telling linkage entries None
  held-nowhere held = nowhere (is_held entries held) (held_disagreement entries held) (held_text (operands linkage) entries held) (ran_for_held entries held)

  pub event-told : (event from len : ℕ) (o : Option Target) → IfSome o (λ t. t ≡ target.Event event from len) → IfNone o (is_range (event_at entries event) from len ≡ false) → event_telling (operands linkage) entries event from len ≡ target_telling linkage entries o
  event-told event from len None some none =
      nowhere (is_range (event_at entries event) from len) (event_disagreement entries event) (sources_text (operands linkage) entries event from len) (ran_for entries event) none
  event-told event from len (Some t) some none = this-one t (target.Event event from len) some

  pub name-told : (moment : ℕ) (name : List ℕ) (from len : ℕ) (o : Option Target) → IfSome o (λ t. t ≡ target.Name moment name from len) → IfNone o (2 ^ 32 ≤ len) → named_telling (operands linkage) entries (in_file moment name from len) ≡ target_telling linkage entries o
  name-told moment name from len None some far =
      ap (λ (o : Option (List TaggedByte)). let t : Telling = record { text = bytes_answer (operands linkage) entries moment o; cost = ran_for_bytes entries moment o } in t)
      (many_bytes entries moment name from len far)
  name-told moment name from len (Some t) some far = this-one t (target.Name moment name from len) some

  module _ (t : Tables) (law : FarIsNowhere) (countable : AreCountable entries) (indexed : Indexes t entries) where
    pub memory-told : (moment pid at len : ℕ) (o : Option Target) → IfSome o (λ t. t ≡ target.Mem moment pid at len) → IfNone o ((2 ^ 32 ≤ pid) ⊎ (2 ^ 32 ≤ len)) → held_telling (operands linkage) entries (in_memory moment pid at len) ≡ target_telling linkage entries o
    memory-told moment pid at len None some (inl far) = held-nowhere (in_memory moment pid at len) (far_memory t entries moment pid at len law countable indexed far)
    memory-told moment pid at len None some (inr far) = held-nowhere (in_memory moment pid at len) (long_memory t entries moment pid at len law countable indexed far)
    memory-told moment pid at len (Some t') some none = this-one t' (target.Mem moment pid at len) some

    pub register-told : (moment pid r : ℕ) (o : Option Target) → IfSome o (λ t. t ≡ target.Reg moment pid r) → IfNone o ((2 ^ 32 ≤ pid) ⊎ (2 ^ 8 ≤ r)) → held_telling (operands linkage) entries (in_register moment pid r) ≡ target_telling linkage entries o
    register-told moment pid r None some (inl far) = held-nowhere (in_register moment pid r) (far_register t entries moment pid r law countable indexed far)
    register-told moment pid r None some (inr far) = held-nowhere (in_register moment pid r) (no_register entries moment pid r far)
    register-told moment pid r (Some t') some none = this-one t' (target.Reg moment pid r) some

  held-answered : (held : Held) (a : Answer) → AnswersHeld linkage entries held a → (held_telling (operands linkage) entries held).text ≡ answer_text a.pairs a.instructions a.groups
  held-answered held a p =
      answered-if (is_held entries held) (held_disagreement entries held) (held_text (operands linkage) entries held) p.there p.agree ∙ these a _ _ _ p.pairs p.instructions p.groups

  bytes-answered : (moment : ℕ) (o : Option (List TaggedByte)) (a : Answer) → AnswersBytes linkage entries moment o a → bytes_answer (operands linkage) entries moment o ≡ answer_text a.pairs a.instructions a.groups
  bytes-answered moment None a p = absurd p
  bytes-answered moment (Some bytes) a p =
      ap (λ (o : Option Disagrees). unless_damaged o (written_text (operands linkage) entries moment bytes)) p.agree ∙ these a _ _ _ p.pairs p.instructions p.groups

  -- what was answered
  answered : (t : Target) (a : Answer) → Answers linkage entries t a → (target_telling linkage entries (Some t)).text ≡ answer_text a.pairs a.instructions a.groups
  answered (target.Event event from len) a p =
      answered-if (is_range (event_at entries event) from len) (event_disagreement entries event) (sources_text (operands linkage) entries event from len) p.range p.agree
      ∙ these a _ _ _ p.pairs p.instructions p.groups
  answered (target.Mem moment pid at len) a p = held-answered (in_memory moment pid at len) a p
  answered (target.Reg moment pid reg) a p = held-answered (in_register moment pid reg) a p
  answered (target.Name moment name from len) a p = bytes-answered moment (named_bytes entries (in_file moment name from len)) a p

  -- an answer that was put is what is told of bytes that are this target
  pub put-answered : (told : Telling) (t : Target) (a : Answer) (old new : List ℕ) → told ≡ target_telling linkage entries (Some t) → Answers linkage entries t a → new ≡ old ++ answer_text a.pairs a.instructions a.groups → new ≡ old ++ told.text
  put-answered told t a old new is p put = put ∙ ap (λ (x : List ℕ). old ++ x) (sym (ap (λ (x : Telling). x.text) is ∙ answered t a p))

  -- what it cost
  held-cost : (held : Held) (why : QueryError) (old new : ℕ) → FailsHeld entries held why → RunsNothing why old new → new ≤ old + ran_for_held entries held → new ≤ old + (held_telling (operands linkage) entries held).cost
  held-cost held error.NoPoint old new f same within = omega (arith, same)
  held-cost held (error.Disagrees d) old new f same within = cost-if _ (ran_for_held entries held) old new f.0 within
  held-cost held error.NoMemory old new f same within = cost-if _ (ran_for_held entries held) old new f within

  pub cost-failed : (t : Target) (why : QueryError) (old new : ℕ) → Fails entries t why → RunsNothing why old new → new ≤ old + ran_about entries t → new ≤ old + (target_telling linkage entries (Some t)).cost
  cost-failed (target.Event event from len) error.NoPoint old new f same within = omega (arith, same)
  cost-failed (target.Event event from len) (error.Disagrees d) old new f same within = cost-if _ (ran_for entries event) old new f.0 within
  cost-failed (target.Event event from len) error.NoMemory old new f same within = cost-if _ (ran_for entries event) old new f within
  cost-failed (target.Mem moment pid at len) why old new f same within = held-cost (in_memory moment pid at len) why old new f same within
  cost-failed (target.Reg moment pid reg) why old new f same within = held-cost (in_register moment pid reg) why old new f same within
  cost-failed (target.Name moment name from len) why old new f same within = within

  pub cost-answered : (t : Target) (a : Answer) (old new : ℕ) → Answers linkage entries t a → new ≤ old + ran_about entries t → new ≤ old + (target_telling linkage entries (Some t)).cost
  cost-answered (target.Event event from len) a old new p within = cost-if (is_range (event_at entries event) from len) (ran_for entries event) old new p.range within
  cost-answered (target.Mem moment pid at len) a old new p within = cost-if (is_held entries (in_memory moment pid at len)) (ran_for_held entries (in_memory moment pid at len)) old new p.there within
  cost-answered (target.Reg moment pid reg) a old new p within = cost-if (is_held entries (in_register moment pid reg)) (ran_for_held entries (in_register moment pid reg)) old new p.there within
  cost-answered (target.Name moment name from len) a old new p within = within

  -- what is put where nothing was answered
  held-failed : (held : Held) (why : QueryError) → FailsHeld entries held why → why ≢ error.NoMemory → (held_telling (operands linkage) entries held).text ≡ error_text why
  held-failed held error.NoPoint f known = ap (λ (b : Bool). text-if b (held_disagreement entries held) (held_text (operands linkage) entries held)) f
  held-failed held (error.Disagrees d) f known =
      ap (λ (b : Bool). text-if b (held_disagreement entries held) (held_text (operands linkage) entries held)) f.0
      ∙ ap (λ (o : Option Disagrees). unless_damaged o (held_text (operands linkage) entries held)) f.1
  held-failed held error.NoMemory f known = absurd (known refl)

  bytes-failed : (moment : ℕ) (o : Option (List TaggedByte)) (why : QueryError) → FailsBytes entries moment o why → why ≢ error.NoMemory → bytes_answer (operands linkage) entries moment o ≡ error_text why
  bytes-failed moment o error.NoPoint f known = ap (bytes_answer (operands linkage) entries moment) f
  bytes-failed moment None (error.Disagrees d) f known = absurd f
  bytes-failed moment (Some bytes) (error.Disagrees d) f known = ap (λ (o : Option Disagrees). unless_damaged o (written_text (operands linkage) entries moment bytes)) f
  bytes-failed moment o error.NoMemory f known = absurd (known refl)

  failed : (t : Target) (why : QueryError) → Fails entries t why → why ≢ error.NoMemory → (target_telling linkage entries (Some t)).text ≡ error_text why
  failed (target.Event event from len) error.NoPoint f known = ap (λ (b : Bool). text-if b (event_disagreement entries event) (sources_text (operands linkage) entries event from len)) f
  failed (target.Event event from len) (error.Disagrees d) f known =
      ap (λ (b : Bool). text-if b (event_disagreement entries event) (sources_text (operands linkage) entries event from len)) f.0
      ∙ ap (λ (o : Option Disagrees). unless_damaged o (sources_text (operands linkage) entries event from len)) f.1
  failed (target.Event event from len) error.NoMemory f known = absurd (known refl)
  failed (target.Mem moment pid at len) why f known = held-failed (in_memory moment pid at len) why f known
  failed (target.Reg moment pid reg) why f known = held-failed (in_register moment pid reg) why f known
  failed (target.Name moment name from len) why f known = bytes-failed moment (named_bytes entries (in_file moment name from len)) why f known

  pub put-failed : {X Y : Type 0} (r : Result X Y) (told : Telling) (t : Target) (why : QueryError) (old new : List ℕ) → told ≡ target_telling linkage entries (Some t) → Fails entries t why → OnOk r (new ≡ old ++ error_text why) → OnOk r (why ≢ error.NoMemory) → OnOk r (new ≡ old ++ told.text)
  put-failed (Ok x) told t why old new is f put known = put ∙ ap (λ (text : List ℕ). old ++ text) (sym (ap (λ (x : Telling). x.text) is ∙ failed t why f known))
  put-failed (Err e) told t why old new is f put known = tt

  pub put-refused : (told : Telling) (old new : List ℕ) → told ≡ target_telling linkage entries None → new ≡ old ++ refusal_text NoPoint → new ≡ old ++ told.text
  put-refused told old new is put = put ∙ ap (λ (x : Telling). old ++ x.text) (sym is)

-- what was answered of the bytes that bytes of an event reach
pub forth-put : (linkage : Linkage) (entries : List Record) (event from len : ℕ) (a : Answer) (old new : List ℕ) → AnswersForth linkage entries event from len a → new ≡ old ++ reached_text a.pairs a.instructions a.groups
    → new ≡ old ++ (forth_telling (operands linkage) entries event from len).text
forth-put linkage entries event from len a old new p put =
    put ∙ ap (λ (x : List ℕ). old ++ x) (sym (answered-if (is_range (event_at entries event) from len) (forth_disagreement entries event from len) (sinks_text (operands linkage) entries event from len) p.range p.agree ∙ reached))
  where
    reached : sinks_text (operands linkage) entries event from len ≡ reached_text a.pairs a.instructions a.groups
    reached =
        sym (ap (λ (x : List Pair). reached_text x a.instructions a.groups) p.pairs
        ∙ (ap (λ (x : ℕ). reached_text (forth_pairs (operands linkage) entries event from len) x a.groups) p.instructions
        ∙ ap (λ (x : List ℕ). reached_text (forth_pairs (operands linkage) entries event from len) (count_in entries (forth_groups entries event from len)) x) p.groups))

pub forth-cost : (linkage : Linkage) (entries : List Record) (event from len : ℕ) (a : Answer) (old new : ℕ) → AnswersForth linkage entries event from len a → new ≤ old + ran_forth entries event from len
    → new ≤ old + (forth_telling (operands linkage) entries event from len).cost
forth-cost linkage entries event from len a old new p within = cost-if (is_range (event_at entries event) from len) (ran_forth entries event from len) old new p.range within
