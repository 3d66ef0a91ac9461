-- The end of a slice.
use Rattle.std.proofs.Common.{◌≡◌, ◌≢◌, ℕ, zero, suc, ◌-◌, ap, subst, refl, arith}
use Rattle.arn_base.specs.declared.records.Record.{Record}
use Rattle.guest_bodies.specs.Shown.{Guests}
use Rattle.history_model.specs.Alone as alone
use Rattle.history_model.specs.Alone.{Own, Made, and_then}
use Rattle.replay_steps.specs.Notices.{Listener}
use Rattle.replay_steps.specs.Standing.{Explains, Reaches}
use Rattle.replay_steps.specs.declared.errors.ReplayError.{ReplayError}
use Rattle.replay_steps.proofs.GoingOn.{explains-first, explains-second, reaches-both}

-- all but the last of its instructions, and then what the record of the last one tells
ends-suc : (slice : alone.Slice) (owed : ℕ) (e : Record) (own : Own) → owed ≢ 0 → and_then (alone.plains slice 0 (owed - 1) own) (alone.happens slice.pid slice.event e) ≡ alone.ends_slice slice owed e own
ends-suc slice zero e own some = absurd (some refl)
ends-suc slice (suc left) e own some =
    let same : suc left - 1 ≡ left = omega arith in
    ap (λ (n : ℕ). and_then (alone.plains slice 0 n own) (alone.happens slice.pid slice.event e)) same

module _ (slice : alone.Slice) (owed : ℕ) (e : Record) (own : Own) (some : owed ≢ 0) where
  pub ends-first : (err : ReplayError) → Explains (alone.plains slice 0 (owed - 1) own) err → Explains (alone.ends_slice slice owed e own) err
  ends-first err explains =
      subst (λ (m : Made). Explains m err) (ends-suc slice owed e own some) (explains-first (alone.plains slice 0 (owed - 1) own) (alone.happens slice.pid slice.event e) err explains)

  module _ {A : Type 0} (l : Listener A) (x y : A) (a b : ℕ) (guests : Guests) (r : Reaches l x a own (alone.plains slice 0 (owed - 1) own) guests slice.event y b) where
    pub ends-second : (err : ReplayError) → Explains (alone.happens slice.pid slice.event e r.own') err → Explains (alone.ends_slice slice owed e own) err
    ends-second err explains =
        subst (λ (m : Made). Explains m err) (ends-suc slice owed e own some)
        (explains-second (alone.plains slice 0 (owed - 1) own) (alone.happens slice.pid slice.event e) r.own' err r.makes explains)

    pub ends-both : (z : A) (c event : ℕ) (guests' : Guests) → Reaches l y b r.own' (alone.happens slice.pid slice.event e r.own') guests' event z c → Reaches l x a own (alone.ends_slice slice owed e own) guests' event z c
    ends-both z c event guests' s =
        subst (λ (m : Made). Reaches l x a own m guests' event z c) (ends-suc slice owed e own some)
        (reaches-both l x y z a b c own (alone.plains slice 0 (owed - 1) own) (alone.happens slice.pid slice.event e) guests guests' slice.event event r s)
