use Rattle.std.proofs.Common.{rules, ◌≡◌, ◌++◌, ◌∷◌, [], ◌+◌, ◌≤◌, ap, arith, length}
use Rattle.log_store.specs.Stores.{IsLeftBy, IsBeforeOrAfter}
use Rattle.log_store.specs.Log.{spellings, IsClosedLogOf, IsCommit}
use Rattle.log_store.specs.Pieces.{with_frame, IsTorn}
use Rattle.log_store.specs.declared.size.TheConstants.{MOST_LOG}
use Rattle.log_store.proofs.Logs.{commit_bytes, length-commit, torn_left, with_frame-adds, with_frame-left}
use Rattle.log_store.proofs.Reopening.{told_still}
use Rattle.log_store.proofs.Shut.{may_leave_log}
use Rattle.log_store.proofs.Told.{told_after, told_changed, told_weaker}
use Rattle.log_store.proofs.store.Store.commit.Goals as goal

pub returns-in-Ok-clause-left : goal.returns-in-Ok-clause-left
returns-in-Ok-clause-left g c =
    let more = c.args.entries.items in
    let bytes = c.as_slice-2.result.now in
    let same : bytes ≡ commit_bytes more = search rules in
    let is : IsCommit more = search rules in
    let added : c.append.new.self.items ≡ c.args.self.now.entries ++ more = search rules in
    let long : c.self.inside.log_len + c.len.result ≡ c.args.self.now.log_len + length bytes = search rules in
    told_after (g.D.Disk.image c.args.disk.now) _ (λ old. with_frame old bytes) (IsLeftBy c.args.self.now) _ c.in-Ok.ensures.written c.requires.left
    (λ old left. with_frame-left c.args.self.now c.self.inside.usable old bytes more _ _ left is same added long)

pub returns-in-Ok-clause-any_moment : goal.returns-in-Ok-clause-any_moment
returns-in-Ok-clause-any_moment g c =
    let more = c.args.entries.items in
    let bytes = c.as_slice-2.result.now in
    let same : bytes ≡ commit_bytes more = search rules in
    let is : IsCommit more = search rules in
    let fits : c.args.self.now.log_len + 5 + length (spellings more) ≤ MOST_LOG = search rules in
    told_weaker g.D.Disk.may_leave g.D.Disk.moment g.D.Disk.left_since (g.D.Disk.image c.args.disk.now) c.args.disk.now c.add_frame.new.disk
    (IsLeftBy c.args.self.now) (λ old. IsTorn old bytes) (λ old. IsBeforeOrAfter c.args.self.now.entries more) c.requires.left c.add_frame.ensures.any_moment
    (λ old left is_left torn. torn_left c.args.self.now old left bytes more is_left is same fits torn)

pub returns-clause-any_moment : goal.returns-clause-any_moment
returns-clause-any_moment g c =
    let more = c.args.entries.items in
    let bytes = c.as_slice-2.result.now in
    let same : bytes ≡ commit_bytes more = search rules in
    let is : IsCommit more = search rules in
    let fits : c.args.self.now.log_len + 5 + length (spellings more) ≤ MOST_LOG = search rules in
    told_weaker g.D.Disk.may_leave g.D.Disk.moment g.D.Disk.left_since (g.D.Disk.image c.args.disk.now) c.args.disk.now c.add_frame.new.disk
    (IsLeftBy c.args.self.now) (λ old. IsTorn old bytes) (λ old. IsBeforeOrAfter c.args.self.now.entries more) c.requires.left c.add_frame.ensures.any_moment
    (λ old left is_left torn. torn_left c.args.self.now old left bytes more is_left is same fits torn)

pub returns-clause-before : goal.returns-clause-before
returns-clause-before g c =
    may_leave_log c.args.self.now (g.D.Disk.image c.args.disk.now) (g.D.Disk.may_leave c.add_frame.new.disk) c.requires.left c.in-Err.ensures.shut

pub returns-in-Ok-clause-framed : goal.returns-in-Ok-clause-framed
returns-in-Ok-clause-framed g c commits =
    let more = c.args.entries.items in
    let bytes = c.as_slice-2.result.now in
    let same : bytes ≡ commit_bytes more = search rules in
    let is : IsCommit more = search rules in
    told_changed (g.D.Disk.image c.args.disk.now) (g.D.Disk.image c.add_frame.new.disk) (λ old. with_frame old bytes) (λ old. IsClosedLogOf old commits) (λ new. IsClosedLogOf new (commits ++ more ∷ []))
    c.in-Ok.ensures.written (λ old closed. with_frame-adds commits old bytes more closed is same)

pub returns-in-Ok-clause-longer : goal.returns-in-Ok-clause-longer
returns-in-Ok-clause-longer g c =
    let more = c.args.entries.items in
    let bytes = c.as_slice-2.result.now in
    let same : bytes ≡ commit_bytes more = search rules in
    let long : c.self.inside.log_len + c.len.result ≡ c.args.self.now.log_len + length bytes = search rules in
    omega (arith, long, ap length same, length-commit more)

pub returns-in_err-bytes-clause-any_moment : goal.returns-in_err-bytes-clause-any_moment
returns-in_err-bytes-clause-any_moment g c =
    let short : c.args.self.now.log_len ≤ MOST_LOG = search rules in
    told_still g.D.Disk.may_leave g.D.Disk.moment g.D.Disk.left_since (g.D.Disk.image c.args.disk.now) c.args.disk.now c.args.self.now c.args.entries.items
    (λ bytes left. g.met.D.Disk.only_now c.args.disk.now bytes left) short c.requires.left

pub returns-in_err-append-clause-any_moment : goal.returns-in_err-append-clause-any_moment
returns-in_err-append-clause-any_moment g c =
    let short : c.args.self.now.log_len ≤ MOST_LOG = search rules in
    told_still g.D.Disk.may_leave g.D.Disk.moment g.D.Disk.left_since (g.D.Disk.image c.args.disk.now) c.args.disk.now c.args.self.now c.args.entries.items
    (λ bytes left. g.met.D.Disk.only_now c.args.disk.now bytes left) short c.requires.left
