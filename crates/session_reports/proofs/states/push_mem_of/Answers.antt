use Rattle.std.proofs.Common.{◌++◌, List, ℕ, ap, ◌∙◌, string_bytes}
use Rattle.past_lives.specs.Members.{is_memory_range}
use Rattle.session_reports.proofs.Shown.{error-shown, on_both}
use Rattle.session_reports.specs.States.{mem_of}
use Rattle.state_viewer.specs.Views.{made_of}
use Rattle.session_reports.proofs.states.push_mem_of.Goals as goal

pub returns-in-Err-clause-ok : goal.returns-in-Err-clause-ok
returns-in-Err-clause-ok g c =
    let a = c.args in
    let b = c.args.near in
    on_both c.push_error.result
    (λ e known. e ∙ ap (λ (line : List ℕ). string_bytes a.text.now ++ line) (error-shown (mem_of b.at b.len) b.pid (is_memory_range a.entries.now b.moment b.pid b.at b.len) (made_of a.entries.now b.moment b.pid) c.in-Err.error c.in-Err.ensures.err known))
    c.push_error.ensures.ok c.push_error.ensures.known
