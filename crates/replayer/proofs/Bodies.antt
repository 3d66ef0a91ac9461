-- Who has a body in a group alone: what instructions and acts leave, and how many instructions they are.
use Rattle.std.proofs.lemmas.Grind.{common_steps}
use Rattle.std.proofs.Common.{◌≡◌, ◌≢◌, ℕ, zero, suc, ◌+◌, Bool, true, false, cond, count_by, Option, Some, None, is_some, option_map, ◌==◌, ne_eqb, refl, ap, sym, ◌∙◌, arith, eq-eqb}
use Rattle.std.proofs.lemmas.Bool.Decides.{nat_tests}
use Rattle.std.proofs.lemmas.List.Sums.{sum_by-append}
use Rattle.arn_base.specs.declared.records.Record.{Record}
use Rattle.rv64_model.specs.Instruction.{Effect}
use Rattle.acts_model.specs.Acts as act
use Rattle.acts_model.specs.Acts.{Act, done, done_by}
use Rattle.acts_model.specs.Bodies.{Bodies, Body, View, body_at, put, remove, seen, view}
use Rattle.acts_model.specs.Disagreement.{Wrong, wrong_with}
use Rattle.acts_model.specs.Moved.{Inside, is_call_or_end}
use Rattle.acts_model.specs.Told.{act_of}
use Rattle.acts_model.specs.Transfers.{holds_of, transfer}
use Rattle.acts_model.specs.Views.{stands_at}
use Rattle.history_model.specs.Alone as alone
use Rattle.history_model.specs.Alone.{Own, Made, Makes, Fails, noted}
use Rattle.replay_steps.specs.Standing.{is_counted}
use Rattle.replayer.proofs.Passing.{no-way}

-- a process has a body
abbrev pub HasBody : Bodies → ℕ → Type 0
HasBody b p = is_some (body_at b p) ≡ true

-- who has one keeps it as one is put
put-test : (o : Option Body) (x : Body) (b : Bool) → is_some o ≡ true → is_some (cond b (Some x) o) ≡ true
put-test o x true has = refl
put-test o x false has = has

pub put-keeps : (p : ℕ) (v : View) (b : Bodies) (q : ℕ) → HasBody b q → HasBody (put p v b) q
unfolding put body_at
put-keeps p v b q has = put-test (b.bodies q) v.body (q == p) has

pub put-own : (p : ℕ) (v : View) (b : Bodies) → HasBody (put p v b) p
unfolding put body_at
put-own p v b = rw (eq-eqb p p refl) refl

removed-keeps : (p : ℕ) (b : Bodies) (q : ℕ) → q ≢ p → HasBody b q → HasBody (remove p b) q
unfolding remove body_at
removed-keeps p b q other has = rw (ne_eqb q p other) has

-- and sees something
pub has-seen : (b : Bodies) (p : ℕ) → HasBody b p → (v : View) × (seen b p ≡ Some v)
has-seen b p has = by (body_at b p) refl has
  where
    by : (o : Option Body) → body_at b p ≡ o → is_some o ≡ true → (v : View) × (seen b p ≡ Some v)
    by None at is = no-way is
    by (Some x) at is = (view b x, ap (option_map (view b)) at)

-- whether an act ends its process
abbrev pub ends : Act → Bool
ends act.Exits = true
ends (act.Faults status) = true
ends (act.Dies signal cut) = true
ends other = false

module _ (pid event : ℕ) (v : View) (b : Bodies) where
  -- who has a body keeps it at an act, but for the process that the act ends
  pub done-keeps : (a : Act) (q : ℕ) → (q ≡ pid → ends a ≡ false) → HasBody b q → HasBody (done_by pid event a (Some v) b) q
  done-keeps a q h1 h2 = grind (arith, nat_tests, put-keeps, removed-keeps, no-way)

  -- and so does the child that joins
  pub done-child : (child : ℕ) → HasBody (done_by pid event (act.Forks child) (Some v) b) child
  done-child child = put-own child _ _

makes-same : (own own' : Own) → Makes own ≡ Makes own' → own ≡ own'
makes-same own own' is = cc

pub same-made : (made : Made) (own own' : Own) → made ≡ Makes own → made ≡ Makes own' → own' ≡ own
same-made made own own' a b = makes-same own' own (sym b ∙ a)

pub fails-not : {A : Type 0} (d : alone.Disagrees) (own : Own) → Fails d ≡ Makes own → A
fails-not d own is = absurd (let no : Fails d ≡ Makes own = is in cc)

-- one thing more happened inside: an instruction, or none
pub count-noted : (i : Inside) (bodies : Bodies) (own : Own) (c : Bool) → is_counted i ≡ c → count_by is_counted (noted i bodies own).inside ≡ count_by is_counted own.inside + cond c 1 0
count-noted i bodies own c h1 = grind (arith, common_steps, nat_tests, sum_by-append)

some-same : (own own' : Own) → Some own ≡ Some own' → own ≡ own'
some-same own own' is = cc

-- instructions that the next ones follow
pub record Went (n : ℕ) (own own' : Own) : Type 0 where
  pub counted : count_by is_counted own'.inside ≡ count_by is_counted own.inside + n
  pub keeps : (q : ℕ) → HasBody own.bodies q → HasBody own'.bodies q

module _ (pid : ℕ) (own : Own) where
  plain-by : (v : View) (e : Effect) (own' : Own) → alone.plain_by pid own v e ≡ Some own' → Went 1 own own'
  plain-by v e own' h1 = grind (arith, common_steps, nat_tests, some-same, count-noted, put-keeps)

  plain-in : (o : Option View) (own' : Own) → alone.plain_in pid own o ≡ Some own' → Went 1 own own'
  plain-in None own' is = absurd (let no : None ≡ Some own' = is in cc)
  plain-in (Some v) own' is = plain-by v (stands_at v) own' is

plain-or : (slice : alone.Slice) (done : ℕ) (o : Option Own) (next : Own → Made) (own' : Own) → alone.plain_or slice done o next ≡ Makes own' → (mid : Own) × (o ≡ Some mid) × (next mid ≡ Makes own')
plain-or slice done None next own' is = fails-not _ own' is
plain-or slice done (Some mid) next own' is = (mid, refl, is)

pub plains-went : (slice : alone.Slice) (left done : ℕ) (own own' : Own) → alone.plains slice done left own ≡ Makes own' → Went left own own'
plains-went slice zero done own own' is = grind (arith, nat_tests, makes-same own own' is)
plains-went slice (suc left) done own own' is =
    let first = plain-or slice done (alone.plain_in slice.pid own (seen own.bodies slice.pid)) (alone.plains slice (suc done) left) own' is in
    let one = plain-in slice.pid own (seen own.bodies slice.pid) first.0 first.1 in
    let rest = plains-went slice left (suc done) first.0 own' first.2 in
    record { counted = omega (arith, one.counted, rest.counted); keeps = λ (q : ℕ) (has : HasBody own.bodies q). rest.keeps q (one.keeps q has) }

-- what happens inside at an act
abbrev pub act_inside : ℕ → ℕ → Record → View → Act → Inside
act_inside pid event e v a =
    record { actor = Some pid; before = v.body.cpu; transfer = transfer pid event (holds_of v.body) a; event = Some (record { number = event; entry = e }) }

act-counted : (pid event : ℕ) (e : Record) (v : View) (a : Act) → is_counted (act_inside pid event e v a) ≡ is_call_or_end e
act-counted pid event e v (act.Returns result) = refl
act-counted pid event e v _ = refl

-- the act was done that a record tells
pub record Acted (pid event : ℕ) (e : Record) (w : View) (a : Act) (own own' : Own) : Type 0 where
  pub counted : count_by is_counted own'.inside ≡ count_by is_counted own.inside + cond (is_call_or_end e) 1 0
  pub bodies : own'.bodies ≡ done_by pid event a (Some w) own.bodies

pub acted : (pid event : ℕ) (e : Record) (v w : View) (a : Act) (own own' : Own) → seen own.bodies pid ≡ Some w → act_of v.body.cpu e ≡ Some a → alone.record_done pid event e v own ≡ Makes own' → Acted pid event e w a own own'
acted pid event e v w a own own' stood tells made = by (wrong_with v (stands_at v) e) made
  where
    by : (wrong : Option Wrong) → alone.unless_wrong event wrong (alone.act_done pid event e v (act_of v.body.cpu e) own) ≡ Makes own' → Acted pid event e w a own own'
    by (Some wrong) is = fails-not _ own' is
    by None is =
        let same : own' ≡ noted (act_inside pid event e v a) (done pid event a own.bodies) own =
        same-made _ _ own' (ap (λ (o : Option Act). alone.act_done pid event e v o own) tells) is in
        record {
          counted = ap (λ (o : Own). count_by is_counted o.inside) same ∙ count-noted (act_inside pid event e v a) (done pid event a own.bodies) own (is_call_or_end e) (act-counted pid event e v a);
          bodies = ap (λ (o : Own). o.bodies) same ∙ ap (λ (o : Option View). done_by pid event a o own.bodies) stood;
        }
