use Rattle.std.proofs.Common.{◌≡◌, ℕ, All, Option, Some, None, IfSome, is_some, refl}
use Rattle.acts_model.specs.Bodies.{View, seen}
use Rattle.acts_model.specs.Views.{can_reach}
use Rattle.window_laws.specs.Blocks.{HasWholeBlocks}
use Rattle.past_lives.specs.Members.{is_present}
use Rattle.past_lives.proofs.Fold.{alone-told}
use Rattle.past_lives.proofs.Reach.{reaches-present}
use Rattle.past_lives.proofs.Sizes.{HasSizes}
use Rattle.past_lives.proofs.law.windows_are_whole.Goals as goal

reaches : (o : Option View) → ((v : View) → o ≡ Some v → HasSizes v) → IfSome o (λ v. (at len : ℕ) → can_reach v at len ≡ is_present (is_some v.body.segment) at len)
reaches None h = tt
reaches (Some v) h = reaches-present v (h v refl)

pub returns : goal.returns
returns c g moment own broken is pid =
    let entries = c.args.entries.now in
    let sized = (alone-told (All HasWholeBlocks entries) (λ w. c.instructions_keep_lengths.ensures) g moment entries own broken (λ w. w) is).1 c.blocks_are_whole.ensures pid in
    reaches (seen own.bodies pid) sized
