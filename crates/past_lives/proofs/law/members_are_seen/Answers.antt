use Rattle.std.proofs.Common.{◌≡◌, ℕ, Bool, Option, Some, None, IfSome, is_some, sym}
use Rattle.acts_model.specs.Bodies.{Body, body_at}
use Rattle.history_model.specs.Moments.{lives_at, segment_at}
use Rattle.past_lives.proofs.Fold.{alone-told}
use Rattle.past_lives.proofs.Tells.{Tells}
use Rattle.past_lives.proofs.law.members_are_seen.Goals as goal

lives : (o : Option Body) (live : Bool) (held : Option ℕ) → Tells o live held → is_some o ≡ live
lives None live held t = sym t
lives (Some x) live held t = sym t.0

segment : (o : Option Body) (live : Bool) (held : Option ℕ) → Tells o live held → IfSome o (λ (x : Body). x.segment ≡ held)
segment None live held t = tt
segment (Some x) live held t = t.1

pub returns : goal.returns
returns c entries g moment own broken is pid group =
    let told = (alone-told ⊥ (λ w. absurd w) g moment entries own broken (λ w. absurd w) is).0 pid group in
    record {
      lives = lives (body_at own.bodies pid) (lives_at entries moment pid) (segment_at entries moment pid) told;
      segment = segment (body_at own.bodies pid) (lives_at entries moment pid) (segment_at entries moment pid) told;
    }
