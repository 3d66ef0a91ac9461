use Rattle.std.proofs.Common.{sym, ap, ◌∙◌, Some}
use Rattle.parts_model.specs.declared.open.Description.{Description}
use Rattle.parts_model.specs.declared.open.Description.TheVariants.{File}
use Rattle.arn_model.specs.FileCalls.{seek_in, seek_what}
use Rattle.arn_model.specs.Kernel.{what_is}
use Rattle.guest_requests.specs.Tables.{Tables}
use Rattle.guest_calls.proofs.Carries.{carried-same}
use Rattle.guest_calls.proofs.Stands.{machine_with}
use Rattle.guest_calls.proofs.kernel.Kernel.seek_description.Goals as goal

pub returns-in-Some-File-clause-carried : goal.returns-in-Some-File-clause-carried
returns-in-Some-File-clause-carried c =
    carried-same c.args.pid c.seek_file.result c.args.self.now c.seek_file.new.self
    (λ m v. seek_in m c.args.number c.args.position (File c.in-Some-File.file c.in-Some-File.field-0-1)) (λ m v. seek_what m c.args.number c.args.position (what_is m.kernel c.args.number))
    (c.seek_file.ensures.carried c.in-Some-File.field-0-1)
    (λ b v sees. ap (seek_what (machine_with b c.args.self.now) c.args.number c.args.position) (ap (λ (d : Description). Some d) (sym c.in-Some-File.field-0-is) ∙ (sym c.in-Some-File.is ∙ (c.what_is.ensures.what ∙ ap (λ (t : Tables). what_is t.kernel c.args.number) c.tables.ensures))))
