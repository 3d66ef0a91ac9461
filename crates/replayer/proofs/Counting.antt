-- What a record of an event leaves as it was.
use Rattle.std.proofs.lemmas.Bool.Decides.{nat_tests}
use Rattle.std.proofs.Common.{◌≡◌, ℕ, ◌+◌, true, arith}
use Rattle.arn_base.specs.declared.records.Record.{Record}
use Rattle.acts_model.specs.Records.{is_event}
use Rattle.history_model.specs.Alone as alone
use Rattle.history_model.specs.Groups.{groups_told}

pub record AfterEvent (t : alone.Standing) (e : Record) (s : alone.Standing) : Type 0 where
  pub groups : s.groups ≡ groups_told e t.groups
  pub events : s.events ≡ t.events + 1
  pub moment : s.moment ≡ t.moment
  pub is_begun : s.is_begun ≡ t.is_begun
  pub is_ended : s.is_ended ≡ t.is_ended
  pub pid : s.pid ≡ t.pid
  pub ran : s.ran ≡ t.ran

pub after-event : (g until : ℕ) (t : alone.Standing) (e : Record) → is_event e ≡ true → AfterEvent t e (alone.after_record g until t e)
after-event g until t e h1 = grind (arith, nat_tests)
