-- A line that needs no machine is a question.
use Rattle.std.proofs.Common.{◌≡◌, false, inl, inr, subst, sym}
use Rattle.std.proofs.lemmas.Bool.{false≢true}
use Rattle.arn_lines.specs.declared.line.Line.{Line}
use Rattle.arn_lines.specs.declared.line.Line.TheVariants as line
use Rattle.session_commands.specs.Given.{Given, given}
use Rattle.session_commands.specs.Rows.{row_of}
use Rattle.session_commands.proofs.answering.push_told.Goals as goal

pub unreachable-requires : goal.unreachable-requires
unreachable-requires g c =
    let handed : Given = given g.Q.Questions.told (λ n. false) in
    let needless : (l : Line) → c.args.line.now ≡ l → (row_of handed c.args.kept.now.store.entries l).needs_machine ≡ false = λ l is.
    subst (λ (x : Line). (row_of handed c.args.kept.now.store.entries x).needs_machine ≡ false) is (c.requires.needless handed) in
    elim c.in-File.is [
      | inl is ↦ false≢true (sym (needless (line.File is.0 is.1) is.2))
      | inr more ↦ elim more [
        | inl is ↦ false≢true (sym (needless (line.Boot is.0) is.1))
        | inr others ↦ elim others [
          | inl is ↦ false≢true (sym (needless (line.Type is.0) is.1))
          | inr last ↦ elim last [
            | inl is ↦ false≢true (sym (needless (line.Run is.0) is.1))
            | inr is ↦ false≢true (sym (needless (line.Unplug is.0) is.1))
          ]
        ]
      ]
    ]
