use Rattle.guest_requests.proofs.Rows.{come-to-rows}
use Rattle.guest_requests.proofs.law.calls_come_to_rows.Goals as goal

pub returns : goal.returns
returns c = come-to-rows
