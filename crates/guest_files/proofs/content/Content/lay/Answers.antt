use Rattle.std.proofs.Common.{◌≡◌, ◌+◌, ◌-◌, ◌≤◌, ◌++◌, ◌∙◌, ℕ, List, length, max, take, drop, replicate, vec_len, ap, arith}
use borrow.Rule.Slice.PartMut.{put_mid}
use Rattle.arn_base.specs.declared.records.Src.{Src}
use Rattle.parts_model.specs.declared.tagged.TaggedByte.{TaggedByte}
use Rattle.parts_model.specs.Files.{File, laid_over}
use Rattle.parts_model.specs.Tagged.{held_bytes}
use Rattle.guest_files.specs.Runs.{first_bytes, tagged}
use Rattle.guest_files.proofs.Rows.{length-laid, lent-row, row-written, tagged-laid}
use Rattle.guest_files.proofs.Sources.{length-sources_from, length-tagged}
use Rattle.guest_files.proofs.content.Content.lay.Goals as goal

pub lay-requires-clause-within : goal.lay-requires-clause-within
lay-requires-clause-within c =
    let kept = ap (λ (f : File). length f.bytes) c.self.view_is in
    let row = length-tagged c.self.inside.bytes.items c.self.inside.runs c.self.invariant.each in
    omega (arith, kept, row, c.self.invariant.each, c.requires.within)

pub invariant_of-self-2 : goal.invariant_of-self-2
invariant_of-self-2 c =
    let items : List ℕ = c.self.inside.bytes.items in
    let sources : List Src = c.self.inside.runs in
    let bytes : List ℕ = c.args.bytes.now in
    let at : ℕ = c.args.at in
    let stop : ℕ = at + length bytes in
    let n : ℕ = c.max.result in
    let kept = ap (λ (f : File). length f.bytes) c.self.view_is in
    let held = length-tagged items sources c.self.invariant.each in
    let within : at ≤ length items = omega (arith, kept, held, c.requires.within) in
    let long : vec_len c.self.inside.bytes ≡ length items = c.self.inside.bytes.ok.0 in
    let most : n ≡ max (length items) stop = omega (arith, c.max.ensures, c.len-len.ensures, long) in
    let resized : c.resize.new.self.items ≡ take n items ++ replicate (n - length items) 0 = c.in_ok-resize.ensures.items ∙ ap (λ (k : ℕ). take n items ++ replicate (n - k) 0) long in
    let new : List ℕ = put_mid at (stop - at) c.deref_mut.result.now c.copy_from_slice.new.self in
    let row : new ≡ take at items ++ bytes ++ drop stop items = ap (λ (xs : List ℕ). put_mid at (stop - at) xs c.copy_from_slice.new.self) (c.deref_mut.ensures.value ∙ resized) ∙ ap (λ (xs : List ℕ). put_mid at (stop - at) (take n items ++ replicate (n - length items) 0) xs) c.copy_from_slice.ensures.after ∙ row-written items bytes at n (stop - at) within most (omega arith) in
    let as_long : length new ≡ max (length items) stop = ap length row ∙ length-laid items bytes at stop (omega arith) within in
    let size : c.resize.new.self.len ≡ length new = omega (arith, c.in_ok-resize.ensures.len, as_long, most) in
    let final = ap length (lent-row new c.resize.new.self.items c.resize.new.self.len size) in
    let laid = ap length c.in_default.ensures.laid ∙ length-laid sources (first_bytes c.args.event (length bytes)) at stop (omega (arith, length-sources_from (λ k. record { event = c.args.event; at = k }) 0 (length bytes))) (omega (arith, within, c.self.invariant.each)) in
    record {
      few = omega (arith, final, as_long, c.self.invariant.few, c.requires.fits);
      each = omega (arith, final, as_long, laid, c.self.invariant.each);
    }

pub returns-clause-laid : goal.returns-clause-laid
returns-clause-laid c =
    let items : List ℕ = c.self.inside.bytes.items in
    let sources : List Src = c.self.inside.runs in
    let bytes : List ℕ = c.args.bytes.now in
    let at : ℕ = c.args.at in
    let stop : ℕ = at + length bytes in
    let n : ℕ = c.max.result in
    let holders : ℕ = c.self.inside.holders in
    let kept = ap (λ (f : File). length f.bytes) c.self.view_is in
    let held = length-tagged items sources c.self.invariant.each in
    let within : at ≤ length items = omega (arith, kept, held, c.requires.within) in
    let long : vec_len c.self.inside.bytes ≡ length items = c.self.inside.bytes.ok.0 in
    let most : n ≡ max (length items) stop = omega (arith, c.max.ensures, c.len-len.ensures, long) in
    let resized : c.resize.new.self.items ≡ take n items ++ replicate (n - length items) 0 = c.in_ok-resize.ensures.items ∙ ap (λ (k : ℕ). take n items ++ replicate (n - k) 0) long in
    let new : List ℕ = put_mid at (stop - at) c.deref_mut.result.now c.copy_from_slice.new.self in
    let row : new ≡ take at items ++ bytes ++ drop stop items = ap (λ (xs : List ℕ). put_mid at (stop - at) xs c.copy_from_slice.new.self) (c.deref_mut.ensures.value ∙ resized) ∙ ap (λ (xs : List ℕ). put_mid at (stop - at) (take n items ++ replicate (n - length items) 0) xs) c.copy_from_slice.ensures.after ∙ row-written items bytes at n (stop - at) within most (omega arith) in
    let as_long : length new ≡ max (length items) stop = ap length row ∙ length-laid items bytes at stop (omega arith) within in
    let size : c.resize.new.self.len ≡ length new = omega (arith, c.in_ok-resize.ensures.len, as_long, most) in
    let final = lent-row new c.resize.new.self.items c.resize.new.self.len size ∙ row in
    ap (λ (xs : List ℕ). record { bytes = tagged xs c.lay.new.self; holders = holders }) final
    ∙ ap (λ (ss : List Src). record { bytes = tagged (take at items ++ bytes ++ drop stop items) ss; holders = holders }) c.in_default.ensures.laid
    ∙ ap (λ (all : List TaggedByte). record { bytes = all; holders = holders }) (tagged-laid items bytes sources c.args.event at c.self.invariant.each)
    ∙ ap (λ (f : File). record { bytes = laid_over f.bytes at (held_bytes c.args.event bytes); holders = f.holders }) c.self.view_is
