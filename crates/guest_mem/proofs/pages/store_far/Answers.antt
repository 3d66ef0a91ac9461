use Rattle.std.proofs.Common.{List, ℕ, ap, sym, take, ◌∙◌}
use Rattle.guest_mem.proofs.Pieces.{put-front}
use Rattle.guest_mem.proofs.Spelled.{length-bytes_of}
use Rattle.guest_mem.proofs.pages.store_far.Goals as goal

pub returns-clause-ok : goal.returns-clause-ok
returns-clause-ok c =
    let front = ap (λ (l : List ℕ). take c.args.len l) c.store.ensures ∙ put-front _ _ c.args.len (length-bytes_of c.args.len c.args.value) in
    rw (sym front) c.write_from.ensures.ok
