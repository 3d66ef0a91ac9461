use Rattle.std.proofs.Common.{◌≡◌, subst, sym, List, Option}
use Rattle.parts_model.specs.Numbered.{nth}
use Rattle.arn_model.specs.Kernel.{Opened, also_held}
use Rattle.guest_resources.specs.Opened.{more}
use Rattle.guest_resources.specs.Resources.{Resources, Changes, IsSound}
use Rattle.guest_resources.proofs.Changed.{more-sound, also_held-changes, by-result, OnOk-map}
use Rattle.guest_resources.proofs.resources.Resources.hold_one.Goals as goal

pub invariant_of-self : goal.invariant_of-self
invariant_of-self c =
    let r : Resources = record { files = c.self.inside.files; descriptions = c.self.inside.descriptions } in
    by-result c.hold_one.result (c.hold_one.new.self ≡ more c.args.number (nth r.descriptions c.args.number) r.descriptions) (c.hold_one.new.self ≡ r.descriptions) (IsSound (record r { descriptions = c.hold_one.new.self })) c.hold_one.ensures.more c.hold_one.ensures.err
    (λ is. subst (λ (ds : List (Option Opened)). IsSound (record r { descriptions = ds })) (sym is) (more-sound r c.args.number c.self.invariant))
    (λ is. subst (λ (ds : List (Option Opened)). IsSound (record r { descriptions = ds })) (sym is) c.self.invariant)

pub returns-clause-held : goal.returns-clause-held
returns-clause-held c =
    let r : Resources = record { files = c.self.inside.files; descriptions = c.self.inside.descriptions } in
    OnOk-map c.hold_one.result (c.hold_one.new.self ≡ more c.args.number (nth r.descriptions c.args.number) r.descriptions) (Changes c.args.self.now (also_held c.args.number) (record r { descriptions = c.hold_one.new.self })) c.hold_one.ensures.more
    (λ is. subst (λ (old : Resources). Changes old (also_held c.args.number) (record r { descriptions = c.hold_one.new.self })) c.self.view_is
    (subst (λ (ds : List (Option Opened)). Changes r (also_held c.args.number) (record r { descriptions = ds })) (sym is) (also_held-changes r c.args.number)))
