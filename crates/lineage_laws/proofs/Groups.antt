-- A group's own part of a run suffices for its own locations and events: no other step writes its locations, and its steps take no others.
use Rattle.std.proofs.Common.{◌≡◌, ℕ, suc, ◌<◌, List, [], ◌∷◌, ◌++◌, map, refl, ap, ap₂, ◌∙◌, sym, subst, append-nil, Option, Some, None, IfSome, option_and_then, unwrap_or, Bool, true, false, ◌==◌, cond, arith, true≢false, ◌⊎◌, inl, inr, eq-eqb, eqb-true}
use Rattle.std.proofs.lemmas.Bool.Decides.{nat_tests}
use Rattle.arn_base.specs.declared.machine.Cpu.{Cpu}
use Rattle.arn_base.specs.declared.records.Start.{Start}
use Rattle.rv64_model.specs.Carries.{Table}
use Rattle.acts_model.specs.Moved.{Event, Inside, Moved}
use Rattle.acts_model.specs.Transfers.{Transfer, Founds, Begins}
use Rattle.arn_model.specs.Step.{Step}
use Rattle.history_model.specs.Alone.{begin_inside}
use Rattle.history_model.specs.Groups.{Groups, is_number}
use Rattle.lineage_model.specs.Flow.{Location, At, Dependence, Prior, flow, written, shown, result_only}
use Rattle.lineage_model.specs.Tracking.{EventByte, Tracked, gather, points_after, after, items, alone_after, alone_from}
use Rattle.replay_laws.specs.Heard.{is_own, own_part, begin_part, part, parts}
use Rattle.lineage_laws.proofs.Central.{every}
use Rattle.lineage_laws.proofs.Stored.{next, count, NumberIs, points-earlier, points-new}
use Rattle.lineage_laws.proofs.Homes.{Memories, owner, actor_of, group_in, Lies, EachPrior, gather-same, prior-weaker, unwrap-prior, begun-priors, result-mine, written-priors, shown-priors, StartsIn, IsOwned, written-mine}

-- the event is of the group that acts
abbrev pub MadeBy : (ℕ → Option ℕ) → Option ℕ → Option Event → Type 0
MadeBy maker g None = Unit {0}
MadeBy maker g (Some event) = maker event.number ≡ g

-- the record of a fork that starts a group has how the child begins, and no other begins one
abbrev pub BeginsIn : Transfer → Option Event → Type 0
BeginsIn (Founds pid child from into) None = ⊥
BeginsIn (Founds pid child from into) (Some event) =
    (start : Start) × (event.number ≡ into) × ((g : ℕ) → begin_part g (Some event) ≡ cond (child == g) (begin_inside g event.number event.entry start ∷ []) [])
BeginsIn transfer event = (g : ℕ) → begin_part g event ≡ []

-- what is needed of a step
pub record InsideFits (gs : Groups) (ms : Memories) (maker : ℕ → Option ℕ) (n : ℕ) (actor : Option ℕ) (t : Transfer) (event : Option Event) : Type 0 where
  pub acts : actor ≡ actor_of t
  pub lies : Lies gs ms t
  pub number : NumberIs n event
  pub made : MadeBy maker (group_in gs t) event
  pub begins : BeginsIn t event

-- two foldings agree on the group's locations, and on the bytes of its events below n
pub record Agrees (gs : Groups) (ms : Memories) (g n : ℕ) (maker : ℕ → Option ℕ) (all own : Tracked EventByte) : Type 0 where
  pub locations : (l : Location) → owner gs ms l ≡ Some g → all.locations l ≡ own.locations l
  pub points : (e : ℕ) (at : At) → e < n → maker e ≡ Some g → all.points e at ≡ own.points e at

own-number : (gs : Groups) (g : ℕ) (actor : Option ℕ) → option_and_then gs actor ≡ Some g → is_own gs g actor ≡ true
own-number gs g None e = absurd (cc)
own-number gs g (Some pid) e = ap (is_number g) e ∙ eq-eqb g g refl

number-own : (gs : Groups) (g : ℕ) (actor : Option ℕ) → is_own gs g actor ≡ true → option_and_then gs actor ≡ Some g
number-own gs g actor h1 = grind (arith, nat_tests, eqb-true)

-- a byte is one of the step's own event, or of an earlier one
this_or_old : (n : ℕ) (event : Option Event) (e : ℕ) → NumberIs n event → e < next n event → ((x : Event) × (event ≡ Some x) × (e ≡ x.number)) ⊎ (e < n)
this_or_old n None e h l = inr l
this_or_old n (Some event) e h l = by_test (e == n) (eqb-true e n) refl
  where
    by_test : (b : Bool) → (b ≡ true → e ≡ n) → (e == n) ≡ b → ((x : Event) × (Some event ≡ Some x) × (e ≡ x.number)) ⊎ (e < n)
    by_test true k f = inl (event, refl, k refl ∙ sym h)
    by_test false k f = inr (grind arith)

-- what the step's own event has
new-points : (event : Option Event) (x : Event) (e : ℕ) (y : At → List EventByte) (p : ℕ → At → List EventByte) (at : At) → event ≡ Some x → e ≡ x.number → points_after event y p e at ≡ y at
new-points event x e y p at k l =
    ap₂ (λ (o : Option Event) (i : ℕ). points_after o y p i at) k l ∙ points-new x y p at

made-same : (maker : ℕ → Option ℕ) (group : Option ℕ) (event : Option Event) (x : Event) (e : ℕ) → MadeBy maker group event → event ≡ Some x → e ≡ x.number → maker e ≡ group
made-same maker group event x e m k l = ap maker l ∙ subst (MadeBy maker group) k m

-- a location of the group
abbrev IsMine : Groups → Memories → ℕ → Location → Type 0
IsMine gs ms g l = owner gs ms l ≡ Some g

-- a step of the group
own-step : (gs : Groups) (ms : Memories) (g n : ℕ) (maker : ℕ → Option ℕ) (table : Table) (actor : Option ℕ) (t : Transfer) (event : Option Event) (all own : Tracked EventByte) → InsideFits gs ms maker n actor t event → group_in gs t ≡ Some g → Agrees gs ms g n maker all own → Agrees gs ms g (next n event) maker (after table (items event) event t all) (after table (items event) event t own)
own-step gs ms g n maker table actor t event all own f is h =
    record {
      locations = λ l e. gather-same (items event) all.locations own.locations (flow table t l) (same (flow table t l) (unwrap-prior (IsMine gs ms g) (Prior l ∷ []) (written table t l) (e, tt) (to_mine (written table t l) (written-priors gs ms table t l f.lies))));
      points = λ e at k m. by_age e at m (this_or_old n event e f.number k);
    }
  where
    to_mine : (o : Option (List Dependence)) → IfSome o (EachPrior (λ x. owner gs ms x ≡ group_in gs t)) → IfSome o (EachPrior (IsMine gs ms g))
    to_mine None k = tt
    to_mine (Some ds) k = prior-weaker (λ x. owner gs ms x ≡ group_in gs t) (IsMine gs ms g) (λ x e. e ∙ is) ds k

    same : (ds : List Dependence) → EachPrior (IsMine gs ms g) ds → EachPrior (λ x. all.locations x ≡ own.locations x) ds
    same ds k = prior-weaker (IsMine gs ms g) (λ x. all.locations x ≡ own.locations x) (λ x e. h.locations x e) ds k

    by_age : (e : ℕ) (at : At) → maker e ≡ Some g → ((x : Event) × (event ≡ Some x) × (e ≡ x.number)) ⊎ (e < n) → (after table (items event) event t all).points e at ≡ (after table (items event) event t own).points e at
    by_age e at m (inl k) =
        let there = prior-weaker (λ x. owner gs ms x ≡ group_in gs t) (IsMine gs ms g) (λ x e. e ∙ is) (shown t at) (shown-priors gs ms t at f.lies) in
        new-points event k.0 e _ all.points at k.1 k.2
        ∙ (gather-same (items event) all.locations own.locations (shown t at) (same (shown t at) there)
        ∙ sym (new-points event k.0 e _ own.points at k.1 k.2))
    by_age e at m (inr k) =
        points-earlier n event _ all.points e at f.number k ∙ (h.points e at k m ∙ sym (points-earlier n event _ own.points e at f.number k))

-- a step of another group, that doesn't start this one
other-step : (gs : Groups) (ms : Memories) (g n : ℕ) (maker : ℕ → Option ℕ) (table : Table) (actor : Option ℕ) (t : Transfer) (event : Option Event) (all own : Tracked EventByte) → InsideFits gs ms maker n actor t event → (group_in gs t ≡ Some g → ⊥) → ((l : Location) → StartsIn gs ms t l → owner gs ms l ≡ Some g → ⊥) → Agrees gs ms g n maker all own → Agrees gs ms g (next n event) maker (after table (items event) event t all) own
other-step gs ms g n maker table actor t event all own f isnt starts h =
    record {
      locations = λ l e. by_written l e (written table t l) (written-mine gs ms table t l f.lies);
      points = λ e at k m. by_age e at m (this_or_old n event e f.number k);
    }
  where
    by_written : (l : Location) → owner gs ms l ≡ Some g → (o : Option (List Dependence)) → IfSome o (λ ds. IsOwned gs ms t l) → gather (items event) all.locations (unwrap_or o (Prior l ∷ [])) ≡ own.locations l
    by_written l e None k = append-nil (all.locations l) ∙ h.locations l e
    by_written l e (Some ds) (inl k) = absurd (isnt (sym k ∙ e))
    by_written l e (Some ds) (inr k) = absurd (starts l k e)

    by_age : (e : ℕ) (at : At) → maker e ≡ Some g → ((x : Event) × (event ≡ Some x) × (e ≡ x.number)) ⊎ (e < n) → (after table (items event) event t all).points e at ≡ own.points e at
    by_age e at m (inl k) = absurd (isnt (sym (made-same maker (group_in gs t) event k.0 e f.made k.1 k.2) ∙ m))
    by_age e at m (inr k) = points-earlier n event _ all.points e at f.number k ∙ h.points e at k m

-- the fork that starts this group
result-none : (gs : Groups) (ms : Memories) (pid g : ℕ) (l : Location) → (gs pid ≡ Some g → ⊥) → owner gs ms l ≡ Some g → result_only pid l ≡ None
result-none gs ms pid g l h1 h2 = grind (arith, nat_tests, owner, result-mine)

start-step : (gs : Groups) (ms : Memories) (g n : ℕ) (maker : ℕ → Option ℕ) (table : Table) (actor : Option ℕ) (pid from into : ℕ) (event : Event) (all own : Tracked EventByte) → InsideFits gs ms maker n actor (Founds pid g from into) (Some event) → event.number ≡ into → (gs pid ≡ Some g → ⊥) → Agrees gs ms g n maker all own → Agrees gs ms g (suc n) maker (after table (items (Some event)) (Some event) (Founds pid g from into) all) (after table (items (Some event)) (Some event) (Begins g event.number) own)
start-step gs ms g n maker table actor pid from into event all own h1 h2 h3 h4 = grind (arith, nat_tests, begun-priors, gather-same, made-same, points-earlier, result-none, this_or_old)

-- the group's part of a step
abbrev Goal : Groups → Memories → ℕ → ℕ → (ℕ → Option ℕ) → Table → Inside → Tracked EventByte → Tracked EventByte → List Inside → Type 0
Goal gs ms g n maker table i all own list = Agrees gs ms g (next n i.event) maker (alone_after table i all) (alone_from table list own)

abbrev inside_of : Option ℕ → Cpu → Transfer → Option Event → Inside
inside_of actor cpu t event = record { actor = actor; before = cpu; transfer = t; event = event }

not-own : (gs : Groups) (g : ℕ) (actor : Option ℕ) (t : Transfer) → actor ≡ actor_of t → is_own gs g actor ≡ false → group_in gs t ≡ Some g → ⊥
not-own gs g actor t a o e = true≢false (sym (own-number gs g actor (ap (option_and_then gs) a ∙ e)) ∙ o)

ordinary-part : (gs : Groups) (ms : Memories) (g n : ℕ) (maker : ℕ → Option ℕ) (table : Table) (actor : Option ℕ) (cpu : Cpu) (t : Transfer) (event : Option Event) (all own : Tracked EventByte) → InsideFits gs ms maker n actor t event → begin_part g event ≡ [] → (is_own gs g actor ≡ false → (l : Location) → StartsIn gs ms t l → owner gs ms l ≡ Some g → ⊥) → Agrees gs ms g n maker all own → Goal gs ms g n maker table (inside_of actor cpu t event) all own (part gs g (inside_of actor cpu t event))
ordinary-part gs ms g n maker table actor cpu t event all own f none starts h = by_own (is_own gs g actor) refl
  where
    by_own : (b : Bool) → is_own gs g actor ≡ b → Goal gs ms g n maker table (inside_of actor cpu t event) all own (own_part b (inside_of actor cpu t event) ++ begin_part g event)
    by_own true e =
        let is = ap (option_and_then gs) (sym f.acts) ∙ number-own gs g actor e in
        subst (λ (list : List Inside). Goal gs ms g n maker table (inside_of actor cpu t event) all own (inside_of actor cpu t event ∷ list)) (sym none)
        (own-step gs ms g n maker table actor t event all own f is h)
    by_own false e =
        subst (λ (list : List Inside). Goal gs ms g n maker table (inside_of actor cpu t event) all own list) (sym none)
        (other-step gs ms g n maker table actor t event all own f (not-own gs g actor t f.acts e) (starts e) h)

founds-part : (gs : Groups) (ms : Memories) (g n : ℕ) (maker : ℕ → Option ℕ) (table : Table) (actor : Option ℕ) (cpu : Cpu) (pid child from into : ℕ) (event : Event) (all own : Tracked EventByte) → InsideFits gs ms maker n actor (Founds pid child from into) (Some event) → Agrees gs ms g n maker all own → Goal gs ms g n maker table (inside_of actor cpu (Founds pid child from into) (Some event)) all own (part gs g (inside_of actor cpu (Founds pid child from into) (Some event)))
founds-part gs ms g n maker table actor cpu pid child from into event all own f h = by_child (child == g) refl
  where
    by_child : (b : Bool) → (child == g) ≡ b → Goal gs ms g n maker table (inside_of actor cpu (Founds pid child from into) (Some event)) all own (part gs g (inside_of actor cpu (Founds pid child from into) (Some event)))
    by_child false e =
        let none : begin_part g (Some event) ≡ [] = f.begins.2 g ∙ ap (λ (b : Bool). cond b (begin_inside g event.number event.entry f.begins.0 ∷ []) []) e in
        ordinary-part gs ms g n maker table actor cpu (Founds pid child from into) (Some event) all own f none
        (λ o l s t. let same : Some child ≡ Some g = sym s ∙ t in let number : child ≡ g = cc in true≢false (sym (eq-eqb child g number) ∙ e)) h
    by_child true e =
        let same : child ≡ g = eqb-true child g e in
        let begin : begin_part g (Some event) ≡ begin_inside g event.number event.entry f.begins.0 ∷ [] = f.begins.2 g ∙ ap (λ (b : Bool). cond b (begin_inside g event.number event.entry f.begins.0 ∷ []) []) e in
        let isnt : gs pid ≡ Some g → ⊥ = λ k. f.lies.other (k ∙ ap (λ (x : ℕ). Some x) (sym same)) in
        let outside : is_own gs g actor ≡ false = by_own isnt (is_own gs g actor) refl in
        subst (λ (b : Bool). Goal gs ms g n maker table (inside_of actor cpu (Founds pid child from into) (Some event)) all own (own_part b (inside_of actor cpu (Founds pid child from into) (Some event)) ++ begin_part g (Some event))) (sym outside)
        (subst (λ (list : List Inside). Goal gs ms g n maker table (inside_of actor cpu (Founds pid child from into) (Some event)) all own list) (sym begin)
        (subst (λ (c : ℕ). Agrees gs ms g (suc n) maker (after table (items (Some event)) (Some event) (Founds pid c from into) all) (after table (items (Some event)) (Some event) (Begins g event.number) own)) (sym same)
        (start-step gs ms g n maker table actor pid from into event all own (subst (λ (c : ℕ). InsideFits gs ms maker n actor (Founds pid c from into) (Some event)) same f) f.begins.1 isnt h)))
      where
        by_own : (gs pid ≡ Some g → ⊥) → (b : Bool) → is_own gs g actor ≡ b → b ≡ false
        by_own isnt true o = absurd (isnt (ap (option_and_then gs) (sym f.acts) ∙ number-own gs g actor o))
        by_own isnt false o = refl

pub part-step : (gs : Groups) (ms : Memories) (g n : ℕ) (maker : ℕ → Option ℕ) (table : Table) (actor : Option ℕ) (cpu : Cpu) (t : Transfer) (event : Option Event) (all own : Tracked EventByte) → InsideFits gs ms maker n actor t event → Agrees gs ms g n maker all own → Goal gs ms g n maker table (inside_of actor cpu t event) all own (part gs g (inside_of actor cpu t event))
part-step gs ms g n maker table actor cpu t event all own h1 h2 = grind (arith, nat_tests, founds-part, ordinary-part)

-- all steps fit
abbrev pub StepFits : Groups → Memories → (ℕ → Option ℕ) → ℕ → Inside → Type 0
StepFits gs ms maker n i = InsideFits gs ms maker n i.actor i.transfer i.event

abbrev pub AllFit : Groups → Memories → (ℕ → Option ℕ) → ℕ → List Step → Type 0
AllFit gs ms maker n [] = Unit {0}
AllFit gs ms maker n (s ∷ steps) = StepFits gs ms maker n s.moved.inside × AllFit gs ms maker (next n s.moved.inside.event) steps

alone-append : (table : Table) (xs ys : List Inside) (t : Tracked EventByte) → alone_from table (xs ++ ys) t ≡ alone_from table ys (alone_from table xs t)
alone-append table [] ys t = refl
alone-append table (x ∷ xs) ys t = alone-append table xs ys (alone_after table x t)

abbrev pub moves : List Step → List Moved
moves steps = map (λ s. s.moved) steps

pub agrees : (gs : Groups) (ms : Memories) (g : ℕ) (maker : ℕ → Option ℕ) (table : Table) (n : ℕ) (steps : List Step) (all own : Tracked EventByte) → AllFit gs ms maker n steps → Agrees gs ms g n maker all own → Agrees gs ms g (count n (moves steps)) maker (every table (moves steps) all) (alone_from table (parts gs g steps) own)
agrees gs ms g maker table n [] all own f h = h
agrees gs ms g maker table n (s ∷ steps) all own f h =
    let i = s.moved.inside in
    subst (λ (t : Tracked EventByte). Agrees gs ms g (count n (moves (s ∷ steps))) maker (every table (moves (s ∷ steps)) all) t) (sym (alone-append table (part gs g i) (parts gs g steps) own))
    (agrees gs ms g maker table (next n i.event) steps (alone_after table i all) (alone_from table (part gs g i) own) f.1
    (part-step gs ms g n maker table i.actor i.before i.transfer i.event all own f.0 h))
