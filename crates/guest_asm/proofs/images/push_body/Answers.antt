use Rattle.std.proofs.Common.{List, refl, sym, subst, [], ◌∷◌, ◌++◌, ◌+◌, append-nil}
use Rattle.guest_asm.specs.Assembled.{places}
use Rattle.guest_asm.specs.declared.places.Placed as kept_placed
use Rattle.guest_asm.proofs.FaultLists.{next}
use Rattle.guest_asm.proofs.Imaging.{PushedSoFar, SoundLeft, bytes_more, sound_here, sound_rest}
use Rattle.guest_asm.proofs.images.push_body.Goals as goal

pub loop-placed-init : goal.loop-placed-init
loop-placed-init c =
    let r = c.requires in
    record {
      sound = (r.0, r.1, record { through = record { before = []; after = r.0; whole = refl; keeps = r.1.placed }; sound = r.2 });
      pushed = λ all stands sound. record {
        through = record { before = []; after = all; whole = refl; keeps = stands.placed };
        sound = sound;
        bytes = sym (append-nil c.args.bytes.now);
      };
    }

pub push_placed-requires : goal.push_placed-requires
push_placed-requires c =
    let kept = c.deref-placed-items.result.now in
    let at = c.loop-placed.placed-index in
    let r = c.loop-placed.invariant.sound in
    let left = subst (λ (ks : List kept_placed.Placed). SoundLeft ks at r.0) (sym c.deref-placed-items.ensures.value) r.2 in
    let n = next kept at c.placed-item.result r.0 c.loop-placed-test.true c.placed-item.is left.through in
    (places r.0, n.placed, r.1.labels, n.is_kept, sound_here kept at c.placed-item.result r.0 left.through.after left.through.before n left.sound)

pub loop-placed-preserved : goal.loop-placed-preserved
loop-placed-preserved c =
    let kept = c.deref-placed-items.result.now in
    let at = c.loop-placed.placed-index in
    let r = c.loop-placed.invariant.sound in
    let left = subst (λ (ks : List kept_placed.Placed). SoundLeft ks at r.0) (sym c.deref-placed-items.ensures.value) r.2 in
    let n = next kept at c.placed-item.result r.0 c.loop-placed-test.true c.placed-item.is left.through in
    record {
      sound = (
        r.0,
        r.1,
        subst (λ (ks : List kept_placed.Placed). SoundLeft ks (at + 1) r.0) c.deref-placed-items.ensures.value
            (record {
              through = record { before = left.through.before ++ n.placed ∷ []; after = n.rest; whole = n.whole; keeps = n.keeps };
              sound = sound_rest kept at c.placed-item.result r.0 left.through.after left.through.before n left.sound;
            }),
      );
      pushed = λ all stands sound.
          let so_far = subst (λ (ks : List kept_placed.Placed). PushedSoFar ks at all c.args.bytes.now c.loop-placed.bytes) (sym c.deref-placed-items.ensures.value) (c.loop-placed.invariant.pushed all stands sound) in
          let m = next kept at c.placed-item.result all c.loop-placed-test.true c.placed-item.is so_far.through in
          let here = sound_here kept at c.placed-item.result all so_far.through.after so_far.through.before m so_far.sound in
          subst (λ (ks : List kept_placed.Placed). PushedSoFar ks (at + 1) all c.args.bytes.now c.push_placed.new.bytes) c.deref-placed-items.ensures.value
          (record {
            through = record { before = so_far.through.before ++ m.placed ∷ []; after = m.rest; whole = m.whole; keeps = m.keeps };
            sound = sound_rest kept at c.placed-item.result all so_far.through.after so_far.through.before m so_far.sound;
            bytes =
                bytes_more (places all) so_far.through.before m.placed c.args.bytes.now c.loop-placed.bytes c.push_placed.new.bytes so_far.bytes
                (c.in_ok-push_placed.ensures (places all) m.placed stands.labels m.is_kept here);
          });
    }
