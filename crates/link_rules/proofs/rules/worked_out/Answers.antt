use Rattle.std.proofs.Common.{◌-◌, ◌+◌, ◌^◌, inl, inr, sym, ap, ◌∙◌}
use Rattle.rv64_model.specs.Carries.{op_takes}
use Rattle.link_rules.specs.Listed.{listed}
use Rattle.link_rules.proofs.Bytes.{both_of, listed-upward, listed-word_upward, listed-bytewise}
use Rattle.link_rules.proofs.rules.worked_out.Goals as goal

pub returns-in-Add : goal.returns-in-Add
returns-in-Add c =
    let taken = ap listed (c.both.ensures ∙ ap both_of c.up_to.ensures) ∙ listed-upward c.args.byte c.requires in
    elim c.in-Add.is [
      | inl e ↦ taken ∙ ap (λ op. op_takes op c.args.byte) (sym e)
      | inr e ↦ taken ∙ ap (λ op. op_takes op c.args.byte) (sym e)
    ]

pub returns-in-Addw : goal.returns-in-Addw
returns-in-Addw c =
    let mask = c.up_to-in-Addw.ensures ∙ ap (λ top. 2 ^ (top + 1) - 1) c.min.ensures in
    let taken = ap listed (c.both-in-Addw.ensures ∙ ap both_of mask) ∙ listed-word_upward c.args.byte c.requires in
    elim c.in-Addw.is [
      | inl e ↦ taken ∙ ap (λ op. op_takes op c.args.byte) (sym e)
      | inr e ↦ taken ∙ ap (λ op. op_takes op c.args.byte) (sym e)
    ]

pub returns-in-Xor : goal.returns-in-Xor
returns-in-Xor c =
    let taken = ap listed (c.both-in-Xor.ensures ∙ ap both_of c.bit.ensures) ∙ listed-bytewise c.args.byte c.requires in
    elim c.in-Xor.is [
      | inl e ↦ taken ∙ ap (λ op. op_takes op c.args.byte) (sym e)
      | inr f ↦ elim f [
        | inl e ↦ taken ∙ ap (λ op. op_takes op c.args.byte) (sym e)
        | inr e ↦ taken ∙ ap (λ op. op_takes op c.args.byte) (sym e)
      ]
    ]
