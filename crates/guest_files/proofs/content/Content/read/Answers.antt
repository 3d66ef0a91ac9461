use Rattle.std.proofs.Common.{◌≡◌, ◌+◌, ◌-◌, ◌≤◌, ◌∙◌, ℕ, List, length, take, drop, ap, arith}
use Rattle.arn_base.specs.declared.records.Src.{Src}
use Rattle.parts_model.specs.Files.{File, read_from}
use Rattle.parts_model.specs.Tagged.{given, origins_of}
use Rattle.guest_files.proofs.Rows.{given-read}
use Rattle.guest_files.proofs.Sources.{length-tagged}
use Rattle.guest_files.proofs.content.Content.read.Goals as goal

pub overflow_sub-len : goal.overflow_sub-len
overflow_sub-len c =
    let kept = ap (λ (f : File). length f.bytes) c.self.view_is in
    let row = length-tagged c.self.inside.bytes.items c.self.inside.runs c.self.invariant.each in
    omega (arith, kept, row, c.len.ensures, c.requires)

pub slice_bounds-from_slice-end : goal.slice_bounds-from_slice-end
slice_bounds-from_slice-end c =
    let kept = ap (λ (f : File). length f.bytes) c.self.view_is in
    let row = length-tagged c.self.inside.bytes.items c.self.inside.runs c.self.invariant.each in
    let held = ap length c.deref.ensures.value in
    let within : c.args.at + c.min-count.result ≤ length c.deref.result.now = omega (arith, kept, row, held, c.len.ensures, c.min-count.ensures, c.requires) in
    within

pub overflow_cast-at : goal.overflow_cast-at
overflow_cast-at c =
    let kept = ap (λ (f : File). length f.bytes) c.self.view_is in
    let row = length-tagged c.self.inside.bytes.items c.self.inside.runs c.self.invariant.each in
    omega (arith, kept, row, c.self.invariant.few, c.requires)

pub overflow_cast-end : goal.overflow_cast-end
overflow_cast-end c =
    let kept = ap (λ (f : File). length f.bytes) c.self.view_is in
    let row = length-tagged c.self.inside.bytes.items c.self.inside.runs c.self.invariant.each in
    omega (arith, kept, row, c.self.invariant.few, c.len.ensures, c.min-count.ensures, c.requires)

pub origins-requires-clause-within : goal.origins-requires-clause-within
origins-requires-clause-within c =
    let kept = ap (λ (f : File). length f.bytes) c.self.view_is in
    let row = length-tagged c.self.inside.bytes.items c.self.inside.runs c.self.invariant.each in
    omega (arith, kept, row, c.self.invariant.each, c.len.ensures, c.min-count.ensures, c.requires)

pub returns-clause-given : goal.returns-clause-given
returns-clause-given c =
    let items : List ℕ = c.self.inside.bytes.items in
    let sources : List Src = c.self.inside.runs in
    let at : ℕ = c.args.at in
    let count : ℕ = c.min-count.result in
    let kept = ap (λ (f : File). length f.bytes) c.self.view_is in
    let row = length-tagged items sources c.self.invariant.each in
    let all : at + count - at ≡ count = omega arith in
    let bytes =
    c.in_ok-from_slice.ensures
    ∙ ap (λ (bs : List ℕ). take (at + count - at) (drop at bs)) c.deref.ensures.value
    ∙ ap (λ (n : ℕ). take n (drop at items)) all in
    let origins = c.in_ok-origins.ensures.origins ∙ ap (λ (n : ℕ). origins_of (take n (drop at sources))) all in
    given-read items sources at c.args.max count (record { bytes = c.in_ok-from_slice.field-0; origins = c.in_ok-origins.field-0 }) c.self.invariant.each (omega (arith, kept, row, c.requires)) (omega (arith, c.min-count.ensures, c.len.ensures)) bytes origins
    ∙ ap (λ (f : File). given (read_from f.bytes at c.args.max)) c.self.view_is
