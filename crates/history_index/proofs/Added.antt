-- One more process, where there was room for it.
use Rattle.std.proofs.Common.{◌≡◌, ◌≢◌, inl, inr, ℕ, ◌+◌, ◌≤◌, ◌==◌, Bool, true, false, if◌then◌else◌, List, [], ◌∷◌, ◌++◌, length, Option, Some, None, IsNone, ap, sym, subst, ◌∙◌, arith, eq-eqb, length-append}
use Rattle.std.proofs.lemmas.Bool.Decides.{eqb_tells}
use Rattle.replay_groups.specs.Groups.{Grouping}
use Rattle.history_index.specs.Bounds.{AreAligned}
use Rattle.history_index.specs.Families.{Families, with_process}
use Rattle.history_index.specs.Runs.{Run, no_run}

families : List ℕ → List Bool → List Run → List (Option ℕ) → List ℕ → Families
families groups lives runs foundings founders = record { groups = groups; lives = lives; runs = runs; foundings = foundings; founders = founders }

same-parts : (f g : Families) → f.groups ≡ g.groups → f.lives ≡ g.lives → f.runs ≡ g.runs → f.foundings ≡ g.foundings → f.founders ≡ g.founders → f ≡ g
unfolding families
same-parts f g groups lives runs foundings founders =
    ap (λ (x : List ℕ). families x f.lives f.runs f.foundings f.founders) groups
    ∙ (ap (λ (x : List Bool). families g.groups x f.runs f.foundings f.founders) lives
    ∙ (ap (λ (x : List Run). families g.groups g.lives x f.foundings f.founders) runs
    ∙ (ap (λ (x : List (Option ℕ)). families g.groups g.lives g.runs x f.founders) foundings
    ∙ ap (λ (x : List ℕ). families g.groups g.lives g.runs g.foundings x) founders)))

-- memory was kept for a process
pub none-refused : (old new : Grouping) (group : ℕ) → new ≡ record old { reserved = Some group } → IsNone new.reserved → ⊥
none-refused old new group is none =
    let clash : true ≡ false = subst (λ (g : Grouping). IsNone g.reserved) is none in cc

pub aligned-more : (gs hs : List ℕ) (ls ms : List Bool) (g : ℕ) → AreAligned gs ls → hs ≡ gs ++ g ∷ [] → ms ≡ ls ++ true ∷ [] → AreAligned hs ms
aligned-more gs hs ls ms g a groups lives = record {
  as_many =
      ap length lives
      ∙ length-append ls (true ∷ [])
      ∙ ap (λ (n : ℕ). n + 1) a.as_many
      ∙ sym (ap (λ (xs : List ℕ). length xs + 1) groups ∙ ap (λ (n : ℕ). n + 1) (length-append gs (g ∷ [])));
}

module _ (inside now : Families) (view : inside ≡ now) where
  pub grown : (ms : List Bool) → ms ≡ inside.lives ++ true ∷ [] → length ms ≤ length now.lives + 1
  grown ms lives =
      let same : length ms ≡ length now.lives + 1 = ap length lives ∙ length-append inside.lives (true ∷ []) ∙ ap (λ (f : Families). length f.lives + 1) view in
      omega (arith, same)

  module _ (event pid group : ℕ) (next : pid ≡ length now.lives) (f : Families) (lives : f.lives ≡ inside.lives ++ true ∷ []) (runs : f.runs ≡ inside.runs ++ no_run ∷ []) where
    pub starts : group ≡ pid → f.groups ≡ inside.groups ++ pid ∷ [] → f.foundings ≡ inside.foundings ++ Some event ∷ [] → f.founders ≡ inside.founders ++ pid ∷ [] → f ≡ with_process now event group
    starts own groups foundings founders =
        let is : (group == length now.lives) ≡ true = eq-eqb group (length now.lives) (own ∙ next) in
        same-parts f (with_process now event group)
        (groups ∙ ap (λ (n : ℕ). inside.groups ++ n ∷ []) (sym own) ∙ ap (λ (x : Families). x.groups ++ group ∷ []) view)
        (lives ∙ ap (λ (x : Families). x.lives ++ true ∷ []) view)
        (runs ∙ ap (λ (x : Families). x.runs ++ no_run ∷ []) view)
        (foundings ∙ ap (λ (x : Families). x.foundings ++ Some event ∷ []) view ∙ ap (λ (b : Bool). now.foundings ++ (if b then Some event else None) ∷ []) (sym is))
        (founders ∙ ap (λ (n : ℕ). inside.founders ++ n ∷ []) (sym own) ∙ ap (λ (x : Families). x.founders ++ group ∷ []) view ∙ ap (λ (b : Bool). if b then now.founders ++ group ∷ [] else now.founders) (sym is))

    pub joins : group ≢ pid → f.groups ≡ inside.groups ++ group ∷ [] → f.foundings ≡ inside.foundings ++ None ∷ [] → f.founders ≡ inside.founders → f ≡ with_process now event group
    joins other groups foundings founders =
        let is : (group == length now.lives) ≡ false = elim (eqb_tells group (length now.lives)) [ inl k ↦ absurd (other (k.1 ∙ sym next)) | inr k ↦ k.0 ] in
        same-parts f (with_process now event group)
        (groups ∙ ap (λ (x : Families). x.groups ++ group ∷ []) view)
        (lives ∙ ap (λ (x : Families). x.lives ++ true ∷ []) view)
        (runs ∙ ap (λ (x : Families). x.runs ++ no_run ∷ []) view)
        (foundings ∙ ap (λ (x : Families). x.foundings ++ None ∷ []) view ∙ ap (λ (b : Bool). now.foundings ++ (if b then Some event else None) ∷ []) (sym is))
        (founders ∙ ap (λ (x : Families). x.founders) view ∙ ap (λ (b : Bool). if b then now.founders ++ group ∷ [] else now.founders) (sym is))
