use Rattle.std.proofs.Common.{◌≡◌, ◌≤◌, ℕ, IfOk, IfSome, List, Option, arith, length, subst, sym, ◌∙◌}
use Rattle.acts_model.specs.Bodies.{View}
use Rattle.acts_model.specs.Views.{cpu_at_start, read, window_at_start}
use Rattle.parts_model.specs.Image.{read_as_image}
use Rattle.parts_model.specs.declared.limits.TheConstants.{MOST_BLOCK_BYTES}
use Rattle.guest_bodies.specs.declared.starting.First.{First}
use Rattle.guest_bodies.proofs.Changes.{live-there, there-of}
use Rattle.guest_bodies.proofs.Seen.{seen-there}
use Rattle.guest_bodies.proofs.bodies.Bodies.first.Goals as goal

pub at-guest-requires : goal.at-guest-requires
at-guest-requires c = live-there c.args.self.now c.self.inside.guests c.self.inside.memories c.args.pid c.self.view_is c.requires.live

pub block-requires : goal.block-requires
block-requires c = there-of c.args.pid c.at-guest.result.now c.self.inside.guests c.self.inside.memories c.self.invariant.sound c.at-guest.ensures

at-most : (n len : ℕ) → n ≤ len → len ≤ MOST_BLOCK_BYTES → n ≤ MOST_BLOCK_BYTES
at-most n len few all = omega arith

pub new-requires-clause-image : goal.new-requires-clause-image
new-requires-clause-image c = c.requires.image

pub new-requires-clause-few : goal.new-requires-clause-few
new-requires-clause-few c =
    subst (λ (block : List ℕ). length block ≤ MOST_BLOCK_BYTES) (sym c.as_slice.ensures) (at-most (length c.in_ok-block.block) c.args.len c.in_ok-block.ensures.few c.requires.few)

pub returns-clause-cpu : goal.returns-clause-cpu
returns-clause-cpu c =
    subst (λ (o : Option View). IfOk c.new.result (λ (first : First). IfSome o (λ (v : View). first.cpu ≡ cpu_at_start (read_as_image c.args.file.now).entry (length (read v c.args.at c.args.len))))) (sym (seen-there c.args.self.now c.self.inside.guests c.self.inside.memories c.args.pid c.at-guest.result.now c.self.view_is c.at-guest.ensures))
    (subst (λ (block : List ℕ). IfOk c.new.result (λ (first : First). first.cpu ≡ cpu_at_start (read_as_image c.args.file.now).entry (length block))) (c.as_slice.ensures ∙ c.in_ok-block.ensures.bytes) c.new.ensures.cpu)

pub returns-clause-space : goal.returns-clause-space
returns-clause-space c =
    subst (λ (o : Option View). IfOk c.new.result (λ (first : First). IfSome o (λ (v : View). first.space.bytes ≡ window_at_start (read_as_image c.args.file.now) (read v c.args.at c.args.len)))) (sym (seen-there c.args.self.now c.self.inside.guests c.self.inside.memories c.args.pid c.at-guest.result.now c.self.view_is c.at-guest.ensures))
    (subst (λ (block : List ℕ). IfOk c.new.result (λ (first : First). first.space.bytes ≡ window_at_start (read_as_image c.args.file.now) block)) (c.as_slice.ensures ∙ c.in_ok-block.ensures.bytes) c.new.ensures.space)
