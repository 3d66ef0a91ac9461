use Rattle.file_versions.proofs.Runs.{runs-first, runs-next}
use Rattle.file_versions.proofs.give.origins.Goals as goal
use Rattle.file_versions.proofs.give.origins.Goals.{in-Some+in_ok-go_on-in-Some, in-None}

pub loop-byte-preserved : goal.loop-byte-preserved
loop-byte-preserved c counted =
    elim c.match-last.branch [
      | in-Some+in_ok-go_on-in-Some w ↦ rw (w.origins-is, w.last-is) (runs-next _ _ _ _ _ _ _ _ c.loop-byte-test.true (c.loop-byte.invariant counted) w.in-Some.is (w.in_ok-go_on-in-Some.ensures (counted _ _ c.loop-byte-test.true)))
      | in-None w ↦ rw (w.last-is, w.single.ensures) (runs-first _ _ _ _ _ _ c.loop-byte-test.true (c.loop-byte.invariant counted) w.in-None.is w.origins-is)
    ]
