use Rattle.std.proofs.Common.{◌++◌, List, ℕ, ap, ◌∙◌, string_bytes}
use Rattle.past_lives.specs.Members.{is_member}
use Rattle.session_reports.proofs.Shown.{error-shown, on_both}
use Rattle.session_reports.specs.States.{regs_of}
use Rattle.state_viewer.specs.Views.{made_of}
use Rattle.session_reports.proofs.states.push_regs_of.Goals as goal

pub returns-in-Err-clause-ok : goal.returns-in-Err-clause-ok
returns-in-Err-clause-ok g c =
    let a = c.args in
    on_both c.push_error.result
    (λ e known. e ∙ ap (λ (line : List ℕ). string_bytes a.text.now ++ line) (error-shown regs_of a.pid (is_member a.entries.now a.moment a.pid) (made_of a.entries.now a.moment a.pid) c.in-Err.error c.in-Err.ensures.err known))
    c.push_error.ensures.ok c.push_error.ensures.known
