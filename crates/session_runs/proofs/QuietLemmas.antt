-- What is done without its texts, and then told in one.
use Rattle.std.proofs.Common.{◌≡◌, ◌≢◌, ◌⊎◌, inl, inr, ℕ, ◌+◌, ◌<◌, ◌≤◌, ◌++◌, Bool, true, false, if◌then◌else◌, List, [], ◌∷◌, length, Option, Some, None, refl, sym, ap, ◌∙◌, subst, append_assoc, append-nil, length-append, arith}
use Rattle.arn_base.specs.declared.disk.Disk.{Ghosts}
use Rattle.arn_base.specs.declared.records.Record.{Record}
use Rattle.arn_lines.specs.declared.answer.RunEnd.{RunEnd}
use Rattle.arn_model.specs.Kernel.{Machine}
use Rattle.arn_model.specs.Laws.{EachRunAppends}
use Rattle.arn_model.specs.Run.{Input, input_steps, machine_after}
use Rattle.log_model.specs.Laws.{EventsRecorded, RecordsAppend}
use Rattle.log_model.specs.Records.{input_records, named, reply_behind}
use Rattle.log_store.specs.Stores.{StoreState}
use Rattle.history_model.specs.Unplugged.{unplugged_in}
use Rattle.guest_legs.specs.LegLaws.{all_named}
use Rattle.guest_legs.specs.Legs.{Ask, Picked, ask_of, input_of}
use Rattle.session_effects.specs.Carrying.{IsAtCommit}
use Rattle.session_effects.specs.Effects.{Effect, Commits, Prints, committed}
use Rattle.session_effects.specs.Laws.{HaltsFollow}
use Rattle.session_effects.specs.Quiet.{QuietFollows, quiet}
use Rattle.session_effects.specs.Standing.{Carries}
use Rattle.session_effects.specs.declared.halt.Halt.{Halt}
use Rattle.session_effects.specs.declared.halt.Halt.TheVariants as halt
use Rattle.session_runs.specs.Points.{Advances, EndsWithin, IsSpent, Stops, Surroundings, slices_in}
use Rattle.session_runs.specs.Quiet.{quietly, quiet_turn, then_told}
use Rattle.session_runs.specs.Ready.{machine_of}
use Rattle.session_runs.specs.Runs.{Running, begun, effects_of, ended, ends, is_full, leg_effects, run, run_after, run_from, unless_ended}
use Rattle.session_runs.specs.Touches.{Answering, Touch, AtSlice, asks_in, named_at}
use Rattle.session_runs.specs.Turns.{Point, Turn, behind, cut_off, finished, followed_by, prints}
use Rattle.session_runs.proofs.CountLemmas.{machine-more, slice-names, slices-both}
use Rattle.session_runs.proofs.LegLemmas.{first-commit, no-commit, none-next}

quiet-append : (first others : List Effect) → quiet (first ++ others) ≡ quiet first ++ quiet others
quiet-append [] others = refl
quiet-append (Commits entries ∷ first) others = ap (λ (x : List Effect). Commits entries ∷ x) (quiet-append first others)
quiet-append (Prints text ∷ first) others = quiet-append first others

quiet-committed : (effects : List Effect) → committed (quiet effects) ≡ committed effects
quiet-committed [] = refl
quiet-committed (Commits entries ∷ effects) = ap (λ (x : List Record). entries ++ x) (quiet-committed effects)
quiet-committed (Prints text ∷ effects) = quiet-committed effects

-- Legs whose records name so many slices at most, each of which is printed behind its commit, and perhaps a last line. Where a leg follows,
-- there is a slice for it.
abbrev Legs : ℕ → List Effect → Type 0
Legs most [] = Unit {0}
Legs most (Prints text ∷ more) = more ≡ []
Legs most (Commits entries ∷ Prints text ∷ more) = (left : ℕ) × (length (slices_in entries) + left ≤ most) × ((quiet more ≡ []) ⊎ (0 < left)) × Legs left more
Legs most _ = ⊥

Legs-more : (few most : ℕ) (effects : List Effect) → few ≤ most → Legs few effects → Legs most effects
Legs-more few most [] le legs = tt
Legs-more few most (Prints text ∷ more) le legs = legs
Legs-more few most (Commits entries ∷ Prints text ∷ more) le legs = (legs.0, omega (arith, le, legs.1), legs.2, legs.3)
Legs-more few most _ le legs = absurd legs

some-behind : (done : List Effect) (effect : Effect) (more : List Effect) → done ++ effect ∷ more ≡ [] → ⊥
some-behind [] effect more is = cc
some-behind (x ∷ done) effect more is = cc

-- behind a text nothing more is committed, or there is a slice that what was done before doesn't name
legs-text : (most : ℕ) (done : List Effect) (text : List ℕ) (more : List Effect) → Legs most (done ++ Prints text ∷ more) → (quiet more ≡ []) ⊎ (length (slices_in (committed done)) < most)
legs-text most [] text more legs = inl (ap quiet legs)
legs-text most (Prints first ∷ done) text more legs = absurd (some-behind done (Prints text) more legs)
legs-text most (Commits entries ∷ []) text more legs = elim legs.2 [
  | inl none ↦ inl none
  | inr some ↦ inr (omega (arith, some, legs.1, ap (λ (x : List Record). length (slices_in x)) (append-nil entries)))
]
legs-text most (Commits entries ∷ Commits others ∷ done) text more legs = absurd legs
legs-text most (Commits entries ∷ Prints first ∷ done) text more legs = elim (legs-text legs.0 done text more legs.3) [
  | inl none ↦ inl none
  | inr fewer ↦ inr (omega (arith, fewer, legs.1, slices-both entries (committed done)))
]

-- behind whole legs a text is the last line
legs-last : (few most : ℕ) (done : List Effect) (text : List ℕ) (more : List Effect) → Legs few done → Legs most (done ++ Prints text ∷ more) → more ≡ []
legs-last few most [] text more whole legs = legs
legs-last few most (Prints first ∷ done) text more whole legs = absurd (some-behind done (Prints text) more legs)
legs-last few most (Commits entries ∷ Prints first ∷ done) text more whole legs = legs-last whole.0 legs.0 done text more whole.3 legs.3
legs-last few most _ text more whole legs = absurd whole

-- a run that ends
legs-ended : (most first : ℕ) (entries : List Record) (text : List ℕ) → length (slices_in entries) ≤ most → Legs most (leg_effects first entries ++ Prints text ∷ [])
legs-ended most first [] text le = refl
legs-ended most first (e ∷ entries) text le = (0, omega (arith, le), inl refl, refl)

-- without slices nothing is committed
begun-quiet : (budget : ℕ) (m : Machine) (left : ℕ) → quiet (run_from budget (begun m left) []).effects ≡ []
begun-quiet budget m left = by (ends (begun m left))
  where
    by : (o : Option RunEnd) → quiet (unless_ended o (λ end. ended budget (begun m left) end []) cut_off).effects ≡ []
    by None = refl
    by (Some end) = refl

begun-some : (budget : ℕ) (m : Machine) (left : ℕ) (slices : List Picked) → (quiet (run_from budget (begun m left) slices).effects ≡ []) ⊎ (0 < length slices)
begun-some budget m left [] = inl (begun-quiet budget m left)
begun-some budget m left (s ∷ slices) = inr (omega arith)

-- a leg, and others behind it
legs-behind : (left most first : ℕ) (entries : List Record) (more : List Effect) → length (slices_in entries) + left ≤ most → (quiet more ≡ []) ⊎ (0 < left) → Legs left more → Legs most (leg_effects first entries ++ more)
legs-behind left most first [] more le some legs = Legs-more left most more (omega (arith, le)) legs
legs-behind left most first (e ∷ entries) more le some legs = (left, le, some, legs)

-- a run behind a slice
legs-closing : (budget : ℕ) (r : Running) (slices : List Picked) (most : ℕ) (full : Bool) → length (slices_in r.leg.entries) + length slices ≤ most → Legs (length (slices_in r.leg.entries) + length slices) (run_from budget r slices).effects → Legs (length slices) (run_from budget (begun r.leg.machine r.leg.left) slices).effects
    → Legs most ((if full then effects_of r else []) ++ (run_from budget (if full then begun r.leg.machine r.leg.left else r) slices).effects)
legs-closing budget r slices most true le same next =
    legs-behind (length slices) most r.first r.leg.entries (run_from budget (begun r.leg.machine r.leg.left) slices).effects le (begun-some budget r.leg.machine r.leg.left slices) next
legs-closing budget r slices most false le same next = Legs-more (length (slices_in r.leg.entries) + length slices) most (run_from budget r slices).effects le same

module _ (records_append : RecordsAppend) (recorded : EventsRecorded) (runs_append : EachRunAppends) (budget : ℕ) where
  -- a run's effects are legs that name no more slices than it takes
  run-legs : (r : Running) (inputs : List Input) (slices : List Picked) → r.leg.machine ≡ machine_after inputs → Legs (length (slices_in r.leg.entries) + length slices) (run_from budget r slices).effects
  run-legs r inputs [] is = by (ends r)
    where
      by : (o : Option RunEnd) → Legs (length (slices_in r.leg.entries) + 0) (unless_ended o (λ end. ended budget r end []) cut_off).effects
      by None = tt
      by (Some end) = legs-ended (length (slices_in r.leg.entries) + 0) r.first r.leg.entries _ (omega arith)
  run-legs r inputs (s ∷ slices) is =
      let r' = run_after r s in
      let here = input_records (input_of s) (input_steps r.leg.machine (input_of s)) in
      let reached = machine-more records_append recorded runs_append inputs (input_of s) r.leg.machine is in
      let few : length (slices_in r'.leg.entries) + length slices ≤ length (slices_in r.leg.entries) + length (s ∷ slices) =
      omega (arith, slices-both r.leg.entries here, slice-names records_append recorded runs_append inputs r.leg.machine s is) in
      let same = run-legs r' (inputs ++ input_of s ∷ []) slices reached in
      let next = run-legs (begun r'.leg.machine r'.leg.left) (inputs ++ input_of s ∷ []) slices reached in
      by (ends r)
      (legs-closing budget r' slices (length (slices_in r.leg.entries) + length (s ∷ slices)) (is_full r') few same
      (Legs-more (0 + length slices) (length slices) (run_from budget (begun r'.leg.machine r'.leg.left) slices).effects (omega arith) next))
    where
      by : (o : Option RunEnd) → (let r' = run_after r s in Legs (length (slices_in r.leg.entries) + length (s ∷ slices)) ((if is_full r' then effects_of r' else []) ++ (run_from budget (if is_full r' then begun r'.leg.machine r'.leg.left else r') slices).effects))
          → let r' = run_after r s in Legs (length (slices_in r.leg.entries) + length (s ∷ slices)) (unless_ended o (λ end. ended budget r end (s ∷ slices)) (behind (if is_full r' then effects_of r' else []) (AtSlice (ask_of r.leg) ∷ []) (run_from budget (if is_full r' then begun r'.leg.machine r'.leg.left else r') slices))).effects
      by None legs = legs
      by (Some end) legs = legs-ended (length (slices_in r.leg.entries) + length (s ∷ slices)) r.first r.leg.entries _ (omega arith)

-- a commit that stands next without texts stands next, where none stands behind a text
commit-next : (undone told : List Effect) (entries : List Record) → (IsAtCommit told entries → ⊥) → ((text : List ℕ) (more : List Effect) → undone ≡ Prints text ∷ more → quiet more ≡ []) → IsAtCommit (quiet undone ++ told) entries → IsAtCommit undone entries
commit-next [] told entries none texts at = absurd (none at)
commit-next (Commits first ∷ more) told entries none texts at =
    record { more = more; is_commit = ap (λ (x : List Record). Commits x ∷ more) (sym (first-commit first entries (quiet more ++ told) at)) }
commit-next (Prints text ∷ more) told entries none texts at =
    absurd (none (subst (λ (x : List Effect). IsAtCommit (x ++ told) entries) (texts text more refl) at))

-- the text that follows a turn, where its slices didn't end within a run
abbrev told_behind : Option (List Picked) → List ℕ → List Effect
told_behind None text = []
told_behind (Some rest) text = Prints text ∷ []

told-none : (left : Option (List Picked)) (text : List ℕ) (entries : List Record) → IsAtCommit (told_behind left text) entries → ⊥
told-none None text entries at = none-next entries at
told-none (Some rest) text entries at = no-commit text entries [] at

told-effects : (t : Turn) (left : Option (List Picked)) (text : List ℕ) → (followed_by t left (prints text)).effects ≡ t.effects ++ told_behind left text
told-effects t None text = sym (append-nil t.effects)
told-effects t (Some rest) text = refl

told-touches : (t : Turn) (left : Option (List Picked)) (text : List ℕ) → (followed_by t left (prints text)).touches ≡ t.touches
told-touches t None text = refl
told-touches t (Some rest) text = append-nil t.touches

told-left : (t : Turn) (left : Option (List Picked)) (text : List ℕ) → t.left ≡ left → (followed_by t left (prints text)).left ≡ left
told-left t None text is = is
told-left t (Some rest) text is = refl

-- where slices end within a run, nothing follows
told-cut : (t : Turn) (left : Option (List Picked)) (text : List ℕ) → left ≡ None → followed_by t left (prints text) ≡ t
told-cut t left text none = ap (λ (o : Option (List Picked)). followed_by t o (prints text)) none

-- no slices have no names
none-named : (touches : List Touch) (slices : List Picked) → slices ≡ [] → named_at touches slices ≡ []
none-named touches slices none = ap (named_at touches) none ∙ empty (asks_in touches)
  where
    empty : (asks : List Ask) → all_named asks [] ≡ []
    empty [] = refl
    empty (a ∷ asks) = refl

spent-told : (lost : List Picked) (undone quiet_undone : List Effect) (left : Option (List Picked)) (text : List ℕ) → IsSpent lost undone left → IsSpent lost (quiet_undone ++ told_behind left text) left
spent-told lost undone quiet_undone left text (inl none) = inl none
spent-told lost undone quiet_undone left text (inr all) =
    inr (all.0, inl (λ none. some-behind quiet_undone (Prints text) [] (ap (λ (o : Option (List Picked)). quiet_undone ++ told_behind o text) (sym all.0) ∙ none)))

module _ {D A : Type 0} (is_run : List Record → Type 0) (d : Ghosts D) (who : Answering A) (follow : QuietFollows is_run d) where
  pub quiet-advances : (p : Point) (text : List Record → List ℕ) (u v : Surroundings A) (cost : ℕ) (old new : D) (s0 s1 : StoreState) (h0 h1 held : Option (List ℕ)) → Advances who p finished u v cost (Carries is_run d old new s0 s1 h0 h1) → Advances who (quietly s0.entries p text) (prints (text s1.entries)) u v cost (Carries is_run d old new s0 s1 held held)
  quiet-advances p text u v cost old new s0 s1 h0 h1 held a =
      let carries = follow.carries old new s0 s1 h0 h1 held a.effects a.carries in
      record {
        slices = a.slices;
        touches = a.touches;
        effects = quiet a.effects;
        leads = λ rest.
            ap (λ (t : Turn). then_told s0.entries (quiet_turn t) text) (a.leads rest)
            ∙ ap (λ (e : List Effect). behind (quiet e) (a.touches ++ []) (prints (text (s0.entries ++ committed (quiet e))) rest)) (append-nil a.effects)
            ∙ ap (λ (x : List Touch). behind (quiet a.effects) x (prints (text (s0.entries ++ committed (quiet a.effects))) rest)) (append-nil a.touches)
            ∙ ap (λ (h : List Record). behind (quiet a.effects) a.touches (prints (text h) rest)) (sym carries.entries);
        names = ap slices_in (quiet-committed a.effects) ∙ a.names;
        unplugged = ap unplugged_in (quiet-committed a.effects) ∙ a.unplugged;
        begins = ap reply_behind (quiet-committed a.effects) ∙ a.begins;
        carries = carries;
        picked = a.picked;
        in_range = a.in_range;
        touched = a.touched;
        executed = a.executed;
      }

  -- a halt of any point, where no commit stands behind a text that stands next
  stops-quietly : HaltsFollow is_run d → (p : Point) (text : List Record → List ℕ) (u v : Surroundings A) (cost : ℕ) (old new : D) (history : List Record) (h0 h1 held : Option (List ℕ)) (why : Halt) → why ≢ halt.Sink
      → (s : Stops is_run d who old new history h0 h1 why p u v cost) → ((first : List ℕ) (more : List Effect) → s.undone ≡ Prints first ∷ more → quiet more ≡ []) → Stops is_run d who old new history held held why (quietly history p text) u v cost
  stops-quietly halts p text u v cost old new history h0 h1 held why not_sink s texts =
      let alone = p (named_at s.touches s.slices) in
      let t = p (named_at s.touches s.slices ++ named_at s.lost_touches s.lost) in
      let with_part = p (named_at s.touches s.slices ++ (named_at s.lost_touches s.lost ++ s.part)) in
      let tells : Turn → List ℕ = λ (x : Turn). text (history ++ committed (quiet x.effects)) in
      let told = told_behind t.left (tells t) in
      record {
        slices = s.slices;
        lost = s.lost;
        part = s.part;
        touches = s.touches;
        lost_touches = s.lost_touches;
        part_touches = s.part_touches;
        done = quiet s.done;
        undone = quiet s.undone ++ told;
        are_effects =
            told-effects (quiet_turn t) t.left (tells t)
            ∙ ap (λ (e : List Effect). quiet e ++ told) s.are_effects
            ∙ ap (λ (e : List Effect). e ++ told) (quiet-append s.done s.undone)
            ∙ append_assoc (quiet s.done) (quiet s.undone) told;
        are_touches = told-touches (quiet_turn with_part) with_part.left (tells with_part) ∙ s.are_touches;
        stopped = halts.before old new history held held why (quiet s.done) (quiet s.undone) told (follow.halts old new history h0 h1 held why s.done s.undone not_sink s.stopped);
        names = ap slices_in (quiet-committed s.done) ∙ s.names;
        unplugged = ap unplugged_in (quiet-committed s.done) ∙ s.unplugged;
        begins = ap reply_behind (quiet-committed s.done) ∙ s.begins;
        names_lost = λ entries at. s.names_lost entries (commit-next s.undone told entries (told-none t.left (tells t) entries) texts at);
        unplugged_lost = λ entries at. s.unplugged_lost entries (commit-next s.undone told entries (told-none t.left (tells t) entries) texts at);
        without = cut s.done alone (tells alone) s.without;
        spent =
            subst (λ (o : Option (List Picked)). IsSpent s.lost (quiet s.undone ++ told) o) (sym (told-left (quiet_turn t) t.left (tells t) refl))
            (spent-told s.lost s.undone (quiet s.undone) t.left (tells t) s.spent);
        many = s.many;
        picked = s.picked;
        in_range = s.in_range;
        touched = s.touched;
        one_part = s.one_part;
        by_memory = s.by_memory;
        unmade = s.unmade;
        executed = s.executed;
      }
    where
      cut : (done : List Effect) (t : Turn) (words : List ℕ) → (s.lost ≡ []) ⊎ EndsWithin done t → (s.lost ≡ []) ⊎ EndsWithin (quiet done) (followed_by (quiet_turn t) t.left (prints words))
      cut done t words (inl none) = inl none
      cut done t words (inr ends) =
          let same : followed_by (quiet_turn t) t.left (prints words) ≡ quiet_turn t = told-cut (quiet_turn t) t.left words ends.left in
          inr (record { effects = ap (λ (x : Turn). x.effects) same ∙ ap quiet ends.effects; left = ap (λ (x : Turn). x.left) same ∙ ends.left })

  pub quiet-stops : HaltsFollow is_run d → RecordsAppend → EventsRecorded → EachRunAppends → (budget : ℕ) (text : List Record → List ℕ) (u v : Surroundings A) (cost : ℕ) (old new : D) (history : List Record) (h0 h1 held : Option (List ℕ)) (why : Halt) → why ≢ halt.Sink
      → Stops is_run d who old new history h0 h1 why (run (machine_of history) budget) u v cost → Stops is_run d who old new history held held why (quietly history (run (machine_of history) budget) text) u v cost
  quiet-stops halts records_append recorded runs_append budget text u v cost old new history h0 h1 held why not_sink s =
      stops-quietly halts (run (machine_of history) budget) text u v cost old new history h0 h1 held why not_sink s texts
    where
      texts : (first : List ℕ) (more : List Effect) → s.undone ≡ Prints first ∷ more → quiet more ≡ []
      texts first more is =
          let m = machine_of history in
          let front = named_at s.touches s.slices in
          let lost = named_at s.lost_touches s.lost in
          let legs : (slices : List Picked) → Legs (0 + length slices) (run m budget slices).effects = λ slices. run-legs records_append recorded runs_append budget (begun m budget) (named history) slices refl in
          let whole : Legs (0 + length (front ++ lost)) (s.done ++ Prints first ∷ more) =
          subst (λ (e : List Effect). Legs (0 + length (front ++ lost)) e) (s.are_effects ∙ ap (λ (e : List Effect). s.done ++ e) is) (legs (front ++ lost)) in
          elim s.without [
            | inl none ↦
                elim (legs-text (0 + length (front ++ lost)) s.done first more whole) [
                  | inl nothing ↦ nothing
                  | inr fewer ↦ absurd (omega (arith, fewer, ap (λ (x : List Picked). length x) s.names, length-append front lost, ap (λ (x : List Picked). length x) (none-named s.lost_touches s.lost none)))
                ]
            | inr cut ↦
                ap quiet (legs-last (0 + length front) (0 + length (front ++ lost)) s.done first more (subst (λ (e : List Effect). Legs (0 + length front) e) cut.effects (legs front)) whole)
          ]
