use Rattle.std.proofs.Common.{◌≡◌, ◌+◌, ◌++◌, Option, ap, sym, ◌∙◌, nat_lt, not, ◌%◌, ◌&&◌, ◌==◌}
use Rattle.guest_asm.specs.Assembled.{fault_if}
use Rattle.guest_asm.specs.First.{either, first_of}
use Rattle.guest_asm.specs.Meanings.{is_code, most_bytes, size}
use Rattle.asm_text.specs.declared.fault.AsmKind.{AsmKind}
use Rattle.asm_text.specs.declared.fault.AsmKind.TheVariants.{Align, Size}
use Rattle.guest_asm.proofs.Firsts.{no_first}
use Rattle.guest_asm.proofs.Placing.{first_of_three}
use Rattle.guest_asm.proofs.places.taken_by.Goals as goal

pub returns-in-Some-clause-taken : goal.returns-in-Some-clause-taken
returns-in-Some-clause-taken c = λ s faults keeps label.
    let end : c.from.result + c.size-size.result ≡ c.args.offset + size s = cc (c.from.ensures, c.size-size.ensures.size s keeps) in
    let big : c.fault_if.result ≡ first_of (fault_if (nat_lt most_bytes (c.args.offset + size s)) Size) =
    c.fault_if.ensures ∙ ap (λ n. first_of (fault_if (nat_lt most_bytes n) Size)) end in
    first_of_three c.args.label c.align_fault.result c.fault_if.result faults (fault_if (is_code s && not (c.args.offset % 4 == 0)) Align) (fault_if (nat_lt most_bytes (c.args.offset + size s)) Size)
    label (c.align_fault.ensures s keeps) big
    ∙ sym (c.in-Some.ensures ∙ ap (λ (x : Option AsmKind). either x c.fault_if.result) c.either-fault.ensures)

pub returns-in-None-clause-taken : goal.returns-in-None-clause-taken
returns-in-None-clause-taken c = λ s faults keeps label.
    let end : c.from.result + c.size-size.result ≡ c.args.offset + size s = cc (c.from.ensures, c.size-size.ensures.size s keeps) in
    let big : c.fault_if.result ≡ first_of (fault_if (nat_lt most_bytes (c.args.offset + size s)) Size) =
    c.fault_if.ensures ∙ ap (λ n. first_of (fault_if (nat_lt most_bytes n) Size)) end in (
      no_first (faults ++ fault_if (is_code s && not (c.args.offset % 4 == 0)) Align ++ fault_if (nat_lt most_bytes (c.args.offset + size s)) Size)
          (first_of_three c.args.label c.align_fault.result c.fault_if.result faults (fault_if (is_code s && not (c.args.offset % 4 == 0)) Align) (fault_if (nat_lt most_bytes (c.args.offset + size s)) Size)
          label (c.align_fault.ensures s keeps) big
          ∙ sym (c.in-None.ensures ∙ ap (λ (x : Option AsmKind). either x c.fault_if.result) c.either-fault.ensures)),
      c.size-size.ensures.size s keeps,
    )
