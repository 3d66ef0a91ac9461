use Rattle.guest_requests.proofs.Rows.{others-ready}
use Rattle.guest_requests.proofs.law.others_are_ready.Goals as goal

pub returns : goal.returns
returns c = others-ready
