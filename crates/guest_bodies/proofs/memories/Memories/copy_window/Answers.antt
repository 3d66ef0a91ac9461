use Rattle.std.proofs.Common.{List, ℕ, Some, ap, subst, sym, ◌∙◌}
use Rattle.std.proofs.lemmas.Result.{IfOk-weaker}
use Rattle.guest_mem.specs.Pages.{NoneOwn, Paged}
use Rattle.guest_bodies.proofs.Keyed.{same-bytes, window-at}
use Rattle.guest_bodies.proofs.memories.Memories.copy_window.Goals as goal

pub returns-in_err-share-clause-same : goal.returns-in_err-share-clause-same
returns-in_err-share-clause-same c = same-bytes c.self.inside.windows c.self.inside.segments c.args.self.now c.self.view_is c.args.window.key c.at_mut-space.result.now c.share.new.self c.at_mut-space.ensures.value c.share.ensures.bytes

pub returns-clause-same : goal.returns-clause-same
returns-clause-same c = same-bytes c.self.inside.windows c.self.inside.segments c.args.self.now c.self.view_is c.args.window.key c.at_mut-space.result.now c.share.new.self c.at_mut-space.ensures.value c.share.ensures.bytes

pub returns-clause-bytes : goal.returns-clause-bytes
returns-clause-bytes c =
    IfOk-weaker c.copy.result _ _
    (λ (space : Paged) equal. window-at c.self.inside.windows c.self.inside.segments c.args.self.now c.self.view_is c.args.window.key (Some c.at_mut-space.result.now) c.at_mut-space.ensures.value
    ∙ ap (λ (l : List ℕ). Some l) (sym c.share.ensures.bytes ∙ ap (λ (s : Paged). s.bytes) (sym equal)))
    c.copy.ensures.equal

pub returns-clause-shared : goal.returns-clause-shared
returns-clause-shared c =
    IfOk-weaker c.copy.result _ _ (λ (space : Paged) equal. subst (λ (s : Paged). NoneOwn s.own) (sym equal) c.in_ok-share.ensures.ok) c.copy.ensures.equal
