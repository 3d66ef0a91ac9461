use Rattle.std.proofs.Common.{◌+◌, ◌++◌, ℕ, List, ap, subst, sym, ◌∙◌}
use Rattle.parts_model.specs.declared.limits.TheConstants.{WINDOW_START}
use Rattle.asm_text.specs.Seen.{KeepsReading}
use Rattle.asm_text.specs.declared.statement.StatementReading.{StatementReading}
use Rattle.guest_asm.proofs.Imaging.{encodable, statement_bytes_said}
use Rattle.guest_asm.proofs.images.push_placed.Goals as goal

pub push_statement-requires-clause-encodable : goal.push_statement-requires-clause-encodable
push_statement-requires-clause-encodable c =
    let r = c.requires in
    let keeps = r.3 in
    let told = subst (λ (k : StatementReading). KeepsReading k r.1.reading) c.in-Says.is keeps.item.reads in (
      told.0,
      told.1,
      encodable r.0 r.1 keeps.item.text.0 told.0 c.address.result c.label_address-to.result keeps.item.text.1 told.2 r.4
          (c.address.ensures ∙ ap (λ n. WINDOW_START + n) (sym keeps.offset)) (c.label_address-to.ensures.address r.0 told.0 r.2 told.1),
    )

pub returns-in_ok-push_statement-in-Says : goal.returns-in_ok-push_statement-in-Says
returns-in_ok-push_statement-in-Says c = λ named p places keeps sound.
    let told = subst (λ (k : StatementReading). KeepsReading k p.reading) c.in-Says.is keeps.item.reads in
    let from = c.address.ensures ∙ ap (λ n. WINDOW_START + n) (sym keeps.offset) in
    let to = c.label_address-to.ensures.address named told.0 places told.1 in
    let fits = encodable named p keeps.item.text.0 told.0 c.address.result c.label_address-to.result keeps.item.text.1 told.2 sound from to in
    c.in_ok-push_statement-in-Says.ensures told.0 told.1 fits
    ∙ ap (λ (bs : List ℕ). c.args.bytes.now ++ bs) (statement_bytes_said named p told.0 c.address.result c.label_address-to.result told.2 from to)
