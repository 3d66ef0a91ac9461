-- The frames of a log behind effects.
use Rattle.std.proofs.Common.{◌≡◌, ℕ, ◌++◌, List, [], ◌∷◌, Option, Some, None, IfSome, is_some, true, false, refl, sym, ap, subst, ◌∙◌, append_assoc, append-nil}
use Rattle.std.proofs.lemmas.Grind.{flat_map-append}
use Rattle.std.proofs.lemmas.Option.{IfSome_then}
use Rattle.arn_base.specs.declared.disk.Disk.{Ghosts}
use Rattle.arn_base.specs.declared.records.Record.{Record}
use Rattle.log_store.specs.Laws.{ClosedHoldCommits, CommitsReadOneWay}
use Rattle.log_store.specs.Log.{IsClosedLogOf, IsLogOf}
use Rattle.log_store.specs.Stores.{StoreState, IsLeftBy}
use Rattle.session_effects.specs.Carrying.{AddsFrames, HoldsFrames, IsShut}
use Rattle.session_effects.specs.Effects.{Effect, Commits, frames_of, frames_in}
use Rattle.session_effects.specs.Laws.{ShutsLog}

-- what is told of an option that is there
pub told-at : {X : Type 0} (o : Option X) (x : X) (P : X → Type 0) → o ≡ Some x → IfSome o P → P x
told-at o x P is p = subst (λ t. IfSome t P) is p

-- an option that is there where another is
pub told-too : {X : Type 0} (o was : Option X) (x : X) → was ≡ Some x → is_some o ≡ is_some was → (y : X) × (o ≡ Some y)
told-too None was x is tells = absurd (no (tells ∙ ap is_some is))
  where
    no : false ≡ true → ⊥
    no is = cc
told-too (Some y) was x is tells = (y, refl)

frames-append : (first others : List Effect) → frames_in (first ++ others) ≡ frames_in first ++ frames_in others
frames-append first others = flat_map-append frames_of first others

module _ {D : Type 0} (d : Ghosts D) where
  -- a disk that is left alone, behind effects without a commit
  pub AddsFrames-none : (disk : D) (effects : List Effect) → frames_in effects ≡ [] → AddsFrames d disk disk effects
  AddsFrames-none disk effects none = record {
    frames = λ commits held. subst (HoldsFrames d disk) (sym (ap (λ (x : List (List Record)). commits ++ x) none ∙ append-nil commits)) held;
    shut = λ is. is;
  }

  -- one run of effects behind another
  pub AddsFrames-append : (old mid new : D) (first others : List Effect) → AddsFrames d old mid first → AddsFrames d mid new others → AddsFrames d old new (first ++ others)
  AddsFrames-append old mid new first others a b = record {
    frames = λ commits held.
        subst (HoldsFrames d new) (append_assoc commits (frames_in first) (frames_in others) ∙ ap (λ (x : List (List Record)). commits ++ x) (sym (frames-append first others)))
        (b.frames (commits ++ frames_in first) (a.frames commits held));
    shut = λ is. b.shut (a.shut is);
  }

  -- other effects that add the same frames
  pub AddsFrames-same : (old new : D) (effects others : List Effect) → frames_in others ≡ frames_in effects → AddsFrames d old new effects → AddsFrames d old new others
  AddsFrames-same old new effects others same a = record {
    frames = λ commits held. subst (HoldsFrames d new) (ap (λ (x : List (List Record)). commits ++ x) (sym same)) (a.frames commits held);
    shut = a.shut;
  }

  -- what a store leaves ends with a closed gate
  pub left-shut : (disk : D) (store : StoreState) → IfSome (d.image disk) (IsLeftBy store) → IsShut d disk
  left-shut disk store left = IfSome_then (d.image disk) left (λ bytes is. (is.is_log.commits, is.is_log.is_closed))

  -- what a store left holds these commits, closed
  left-closed : CommitsReadOneWay → ClosedHoldCommits → (store : StoreState) (bytes : List ℕ) (commits : List (List Record)) → IsLeftBy store bytes → IsLogOf bytes commits → IsClosedLogOf bytes commits
  left-closed one hold store bytes commits left log =
      let closed = left.is_log in
      subst (IsClosedLogOf bytes) (one bytes closed.commits commits (hold bytes closed.commits closed.is_closed) log) closed.is_closed

  -- one commit to a log that a store left
  pub AddsFrames-commit : CommitsReadOneWay → ClosedHoldCommits → (old new : D) (store store' : StoreState) (entries : List Record) → is_some (d.image new) ≡ is_some (d.image old) → IfSome (d.image old) (IsLeftBy store) → IfSome (d.image new) (IsLeftBy store') → ((commits : List (List Record)) → IfSome (d.image old) (λ was. IsClosedLogOf was commits → IfSome (d.image new) (λ is. IsClosedLogOf is (commits ++ entries ∷ [])))) → AddsFrames d old new (Commits entries ∷ [])
  AddsFrames-commit one hold old new store store' entries tells was left framed = record {
    frames = λ commits held.
        let told = told-too (d.image new) (d.image old) held.bytes held.is_image tells in
        let closed = left-closed one hold store held.bytes commits (told-at (d.image old) held.bytes (IsLeftBy store) held.is_image was) held.is_log in
        let more = told-at (d.image old) held.bytes (λ was. IsClosedLogOf was commits → IfSome (d.image new) (λ is. IsClosedLogOf is (commits ++ entries ∷ []))) held.is_image (framed commits) closed in
        record { bytes = told.0; is_image = told.1; is_log = hold told.0 (commits ++ entries ∷ []) (told-at (d.image new) told.0 (λ is. IsClosedLogOf is (commits ++ entries ∷ [])) told.1 more) };
    shut = λ is. left-shut new store' left;
  }

  -- the opening of a log
  pub AddsFrames-open : ClosedHoldCommits → (old new : D) (store : StoreState) → is_some (d.image new) ≡ is_some (d.image old) → IfSome (d.image new) (IsLeftBy store) → ShutsLog d old new → AddsFrames d old new []
  AddsFrames-open hold old new store tells left shuts = record {
    frames = λ commits held.
        let told = told-too (d.image new) (d.image old) held.bytes held.is_image tells in
        let closed = told-at (d.image old) held.bytes (λ was. IsLogOf was commits → IfSome (d.image new) (λ is. IsClosedLogOf is commits)) held.is_image (shuts commits) held.is_log in
        subst (HoldsFrames d new) (sym (append-nil commits))
        (record { bytes = told.0; is_image = told.1; is_log = hold told.0 commits (told-at (d.image new) told.0 (λ is. IsClosedLogOf is commits) told.1 closed) });
    shut = λ is. left-shut new store left;
  }
