-- Points of a session: how turns and what lies between points append.
use Rattle.std.proofs.Common.{length, ◌∷◌, ◌≡◌, ◌⊎◌, inl, inr, ℕ, ◌+◌, ◌++◌, List, [], Option, Some, None, IfSome, option_map, slice_get, length-append, refl, sym, ap, ◌∙◌, subst, append_assoc, append-nil, arith}
use Rattle.arn_base.specs.declared.boxes.Choice.{Choice}
use Rattle.arn_base.specs.declared.disk.Disk.{Ghosts}
use Rattle.arn_base.specs.declared.records.Record.{Record}
use Rattle.log_model.specs.Laws.{BehindAppend, NamedAppend}
use Rattle.guest_legs.specs.Legs.{Ask, AreInRange, Picked, PickedBy, brought}
use Rattle.guest_legs.specs.LegLaws.{PicksFollow}
use Rattle.log_store.specs.Stores.{StoreState}
use Rattle.session_effects.specs.Standing.{Carries, IsOpen}
use Rattle.session_effects.specs.Effects.{Effect, committed}
use Rattle.session_effects.specs.Laws.{EffectsFollow, HaltsFollow}
use Rattle.session_effects.specs.declared.halt.Halt.{Halt}
use Rattle.session_runs.specs.Laws.{AdvancesBy, StopsBy, TouchesFollow}
use Rattle.session_runs.specs.Touches.{Answering, Touch, TouchedBy, asks_in, named_at, unplugs_in}
use Rattle.session_runs.specs.Turns.{Turn, Point, behind}
use Rattle.session_runs.specs.Points.{Advances, EndsWithin, IsSpent, Stops, Surroundings, slices_cost}
use Rattle.session_runs.proofs.NamedLemmas.{committed-append, begins-append, names-append, slices_cost-append}
use Rattle.session_runs.proofs.TouchLemmas.{asks-append, named-append, unplugs-behind}

turn-of : (e e' : List Effect) (a a' : List Touch) (l : Option (List Picked)) → e ≡ e' → a ≡ a' → (let t : Turn = record { effects = e; touches = a; left = l } in t) ≡ (let t : Turn = record { effects = e'; touches = a'; left = l } in t)
turn-of e e' a a' l p q =
    ap (λ (x : List Effect). let t : Turn = record { effects = x; touches = a; left = l } in t) p ∙ ap (λ (x : List Touch). let t : Turn = record { effects = e'; touches = x; left = l } in t) q

pub behind-behind : (e e' : List Effect) (a a' : List Touch) (t : Turn) → behind e a (behind e' a' t) ≡ behind (e ++ e') (a ++ a') t
behind-behind e e' a a' t = turn-of _ _ _ _ _ (sym (append_assoc e e' t.effects)) (sym (append_assoc a a' t.touches))

-- the k-th slice is the k-th choice brought into range
abbrev IsPicked : Option Choice → List Ask → List Picked → ℕ → Type 0
IsPicked told asks slices k = IfSome told (λ choice. option_map (λ s. s.pick) (slice_get slices k) ≡ option_map (λ ask. brought ask choice) (slice_get asks k))

-- no choice was taken
pub PickedBy-none : (choices : ℕ → Option Choice) → PickedBy choices choices [] []
PickedBy-none choices = record { many = refl; each = λ k. nothing (choices k) k; later = λ k. ap choices (omega arith) }
  where
    nothing : (o : Option Choice) (k : ℕ) → IsPicked o [] [] k
    nothing None k = tt
    nothing (Some choice) k = refl

-- slices in range behind others
pub in-range-append : (asks more : List Ask) (slices others : List Picked) → length asks ≡ length slices → AreInRange asks slices → AreInRange more others → AreInRange (asks ++ more) (slices ++ others)
in-range-append [] more [] others many first second = second
in-range-append (a ∷ asks) more (s ∷ slices) others many first second = (first.0, in-range-append asks more slices others (omega (arith, many)) first.1 second)
in-range-append _ more _ others many first second = absurd (omega (arith, many))

-- what holds of touches, of effects, of records and of slices that follow one another
pub record Laws {D A : Type 0} (is_run : List Record → Type 0) (d : Ghosts D) (who : Answering A) : Type 0 where
  pub touches : TouchesFollow who
  pub effects : EffectsFollow is_run d
  pub halts : HaltsFollow is_run d
  pub names : NamedAppend
  pub begins : BehindAppend
  pub picks : PicksFollow

module _ {D A : Type 0} {is_run : List Record → Type 0} {d : Ghosts D} {who : Answering A} (laws : Laws is_run d who) where
  -- effects behind effects
  Carries-append : (old mid new : D) (s0 s1 s2 : StoreState) (h0 h1 h2 : Option (List ℕ)) (first others : List Effect) → Carries is_run d old mid s0 s1 h0 h1 first → Carries is_run d mid new s1 s2 h1 h2 others → Carries is_run d old new s0 s2 h0 h2 (first ++ others)
  Carries-append old mid new s0 s1 s2 h0 h1 h2 first others a b = record {
    stays_open = b.stays_open;
    entries =
        b.entries
        ∙ ap (λ (x : List Record). x ++ committed others) a.entries
        ∙ append_assoc s0.entries (committed first) (committed others)
        ∙ ap (λ (x : List Record). s0.entries ++ x) (sym (committed-append first others));
    out = laws.effects.append old mid new s0.entries s1.entries h0 h1 h2 first others a.entries a.out b.out;
  }

  pub Advances-none : (at : Point) (now : Surroundings A) (disk : D) (store : StoreState) (held : Option (List ℕ)) → IsOpen d store disk → Advances who at at now now 0 (Carries is_run d disk disk store store held held)
  Advances-none at now disk store held open_now = record {
    slices = [];
    touches = [];
    effects = [];
    leads = λ rest. refl;
    names = refl;
    unplugged = refl;
    begins = refl;
    carries = record { stays_open = open_now; entries = sym (append-nil store.entries); out = laws.effects.nothing disk store.entries held };
    picked = PickedBy-none now.choices;
    in_range = tt;
    touched = (refl, refl);
    executed = omega arith;
  }

  pub Advances-append : (a b c : Point) (u v w : Surroundings A) (cost more : ℕ) (old mid new : D) (s0 s1 s2 : StoreState) (h0 h1 h2 : Option (List ℕ)) (p : Advances who a b u v cost (Carries is_run d old mid s0 s1 h0 h1)) (q : Advances who b c v w more (Carries is_run d mid new s1 s2 h1 h2)) → AdvancesBy is_run d who a c u w (cost + more) old new s0 s2 h0 h2 (named_at p.touches p.slices ++ named_at q.touches q.slices) (p.touches ++ q.touches)
  Advances-append a b c u v w cost more old mid new s0 s1 s2 h0 h1 h2 p q =
      let xs : List Picked = named_at p.touches p.slices in
      let ys : List Picked = named_at q.touches q.slices in
      let split : named_at (p.touches ++ q.touches) (p.slices ++ q.slices) ≡ xs ++ ys = named-append p.touches q.touches p.slices q.slices p.picked.many in
      let asks : asks_in (p.touches ++ q.touches) ≡ asks_in p.touches ++ asks_in q.touches = asks-append p.touches q.touches in
      record {
        advances = record {
          slices = p.slices ++ q.slices;
          touches = p.touches ++ q.touches;
          effects = p.effects ++ q.effects;
          leads = λ rest.
              ap (λ (x : List Picked). a (x ++ rest)) split
              ∙ ap a (append_assoc xs ys rest)
              ∙ p.leads (ys ++ rest)
              ∙ ap (λ (t : Turn). behind p.effects p.touches t) (q.leads rest)
              ∙ behind-behind p.effects q.effects p.touches q.touches (c rest);
          names = names-append laws.names p.effects q.effects xs ys q.begins p.names q.names ∙ sym split;
          unplugged = unplugs-behind p.effects q.effects (unplugs_in p.touches) (unplugs_in q.touches) p.unplugged q.unplugged ∙ sym (laws.touches.unplugs p.touches q.touches);
          begins = begins-append laws.begins p.effects q.effects p.begins q.begins;
          carries = Carries-append old mid new s0 s1 s2 h0 h1 h2 p.effects q.effects p.carries q.carries;
          picked =
              subst (λ (x : List Ask). PickedBy u.choices w.choices x (p.slices ++ q.slices)) (sym asks)
              (laws.picks u.choices v.choices w.choices (asks_in p.touches) (asks_in q.touches) p.slices q.slices p.picked q.picked);
          in_range =
              subst (λ (x : List Ask). AreInRange x (p.slices ++ q.slices)) (sym asks)
              (in-range-append (asks_in p.touches) (asks_in q.touches) p.slices q.slices p.picked.many p.in_range q.in_range);
          touched = laws.touches.touched p.touches q.touches p.slices q.slices u.answers v.answers w.answers p.touched q.touched;
          executed = omega (arith, p.executed, q.executed, ap slices_cost split, slices_cost-append xs ys);
        };
        slices = split;
        touches = refl;
      }

  -- a session that goes on to a point and halts behind it halts behind where it began
  pub Stops-behind : (a b : Point) (u v w : Surroundings A) (cost more : ℕ) (old mid new : D) (s0 s1 : StoreState) (h0 h1 h2 : Option (List ℕ)) (why : Halt) (p : Advances who a b u v cost (Carries is_run d old mid s0 s1 h0 h1)) (q : Stops is_run d who mid new s1.entries h1 h2 why b v w more) → StopsBy is_run d who a u w (cost + more) old new s0.entries h0 h2 why (named_at p.touches p.slices ++ (named_at q.touches q.slices ++ named_at q.lost_touches q.lost)) (p.touches ++ (q.touches ++ q.lost_touches))
  Stops-behind a b u v w cost more old mid new s0 s1 h0 h1 h2 why p q =
      let xs : List Picked = named_at p.touches p.slices in
      let ys : List Picked = named_at q.touches q.slices in
      let zs : List Picked = named_at q.lost_touches q.lost in
      let all : List Touch = q.touches ++ (q.lost_touches ++ q.part_touches) in
      let taken : List Picked = q.slices ++ (q.lost ++ q.part) in
      let split : named_at (p.touches ++ q.touches) (p.slices ++ q.slices) ≡ xs ++ ys = named-append p.touches q.touches p.slices q.slices p.picked.many in
      let asks : asks_in ((p.touches ++ q.touches) ++ (q.lost_touches ++ q.part_touches)) ≡ asks_in p.touches ++ asks_in all =
      ap asks_in (append_assoc p.touches q.touches (q.lost_touches ++ q.part_touches)) ∙ asks-append p.touches all in
      let lead : a (named_at (p.touches ++ q.touches) (p.slices ++ q.slices) ++ zs) ≡ behind p.effects p.touches (b (ys ++ zs)) =
      ap (λ (x : List Picked). a (x ++ zs)) split ∙ ap a (append_assoc xs ys zs) ∙ p.leads (ys ++ zs) in
      let lead_part : a (named_at (p.touches ++ q.touches) (p.slices ++ q.slices) ++ (zs ++ q.part)) ≡ behind p.effects p.touches (b (ys ++ (zs ++ q.part))) =
      ap (λ (x : List Picked). a (x ++ (zs ++ q.part))) split ∙ ap a (append_assoc xs ys (zs ++ q.part)) ∙ p.leads (ys ++ (zs ++ q.part)) in
      let alone : a (named_at (p.touches ++ q.touches) (p.slices ++ q.slices)) ≡ behind p.effects p.touches (b ys) = ap a split ∙ p.leads ys in
      let cost_all : slices_cost (named_at (p.touches ++ q.touches) (p.slices ++ q.slices) ++ zs) ≡ slices_cost xs + slices_cost (ys ++ zs) =
      ap (λ (x : List Picked). slices_cost (x ++ zs)) split ∙ ap slices_cost (append_assoc xs ys zs) ∙ slices_cost-append xs (ys ++ zs) in
      record {
        stops = record {
          slices = p.slices ++ q.slices;
          lost = q.lost;
          part = q.part;
          touches = p.touches ++ q.touches;
          lost_touches = q.lost_touches;
          part_touches = q.part_touches;
          done = p.effects ++ q.done;
          undone = q.undone;
          are_effects = ap (λ (t : Turn). t.effects) lead ∙ ap (λ (e : List Effect). p.effects ++ e) q.are_effects ∙ sym (append_assoc p.effects q.done q.undone);
          are_touches = ap (λ (t : Turn). t.touches) lead_part ∙ ap (λ (e : List Touch). p.touches ++ e) q.are_touches ∙ sym (append_assoc p.touches q.touches (q.lost_touches ++ q.part_touches));
          stopped = laws.halts.behind old mid new s0.entries s1.entries h0 h1 h2 why p.effects q.done q.undone p.carries.entries p.carries.out q.stopped;
          names = names-append laws.names p.effects q.done xs ys q.begins p.names q.names ∙ sym split;
          unplugged = unplugs-behind p.effects q.done (unplugs_in p.touches) (unplugs_in q.touches) p.unplugged q.unplugged ∙ sym (laws.touches.unplugs p.touches q.touches);
          begins = begins-append laws.begins p.effects q.done p.begins q.begins;
          names_lost = q.names_lost;
          unplugged_lost = q.unplugged_lost;
          without = without q.without alone;
          spent = subst (λ (o : Option (List Picked)). IsSpent q.lost q.undone o) (sym (ap (λ (t : Turn). t.left) lead)) q.spent;
          many = omega (arith, p.picked.many, q.many, ap (λ (x : List Ask). length x) (asks-append p.touches q.touches), length-append (asks_in p.touches) (asks_in q.touches), length-append p.slices q.slices);
          picked =
              subst (λ (x : List Ask). PickedBy u.choices w.choices x ((p.slices ++ q.slices) ++ (q.lost ++ q.part))) (sym asks)
              (subst (λ (x : List Picked). PickedBy u.choices w.choices (asks_in p.touches ++ asks_in all) x) (sym (append_assoc p.slices q.slices (q.lost ++ q.part)))
              (laws.picks u.choices v.choices w.choices (asks_in p.touches) (asks_in all) p.slices taken p.picked q.picked));
          in_range =
              subst (λ (x : List Ask). AreInRange x ((p.slices ++ q.slices) ++ (q.lost ++ q.part))) (sym asks)
              (subst (λ (x : List Picked). AreInRange (asks_in p.touches ++ asks_in all) x) (sym (append_assoc p.slices q.slices (q.lost ++ q.part)))
              (in-range-append (asks_in p.touches) (asks_in all) p.slices taken p.picked.many p.in_range q.in_range));
          touched =
              subst (λ (x : List Touch). TouchedBy who x ((p.slices ++ q.slices) ++ q.lost) u.answers w.answers) (sym (append_assoc p.touches q.touches q.lost_touches))
              (subst (λ (x : List Picked). TouchedBy who (p.touches ++ (q.touches ++ q.lost_touches)) x u.answers w.answers) (sym (append_assoc p.slices q.slices q.lost))
              (laws.touches.touched p.touches (q.touches ++ q.lost_touches) p.slices (q.slices ++ q.lost) u.answers v.answers w.answers p.touched q.touched));
          one_part = q.one_part;
          by_memory = q.by_memory;
          unmade = q.unmade;
          executed = omega (arith, p.executed, q.executed, cost_all);
        };
        slices = ap (λ (x : List Picked). x ++ zs) split ∙ append_assoc xs ys zs;
        touches = append_assoc p.touches q.touches q.lost_touches;
      }
    where
      without : (q.lost ≡ []) ⊎ EndsWithin q.done (b (named_at q.touches q.slices)) → a (named_at (p.touches ++ q.touches) (p.slices ++ q.slices)) ≡ behind p.effects p.touches (b (named_at q.touches q.slices)) → (q.lost ≡ []) ⊎ EndsWithin (p.effects ++ q.done) (a (named_at (p.touches ++ q.touches) (p.slices ++ q.slices)))
      without (inl none) alone = inl none
      without (inr cut) alone =
          inr (record { effects = ap (λ (t : Turn). t.effects) alone ∙ ap (λ (e : List Effect). p.effects ++ e) cut.effects; left = ap (λ (t : Turn). t.left) alone ∙ cut.left })
