-- A command does the same by the devices as they are now as by those that were there when the session began.
use Rattle.std.proofs.Common.{◌≡◌, ◌≤◌, ◌^◌, ℕ, ◌+◌, ◌++◌, Bool, true, false, if◌then◌else◌, List, Some, refl, sym, ap, ◌∙◌, subst}
use Rattle.std.specs.Prelude.{◌&&◌, is_none, nat_lt, not}
use Rattle.arn_base.specs.declared.disk.Disk.{Ghosts}
use Rattle.arn_base.specs.declared.records.Differs.{Differs}
use Rattle.arn_base.specs.declared.records.Record.{Record}
use Rattle.arn_lines.specs.declared.answer.Refusal.TheVariants.{NoBoot, NoDevice}
use Rattle.arn_lines.specs.declared.line.Line.{Line}
use Rattle.arn_lines.specs.declared.line.Line.TheVariants as line
use Rattle.arn_commands.specs.declared.command.Command.{Command}
use Rattle.arn_commands.specs.declared.command.Command.TheVariants.{PassedOver, TooLong, Unreadable, Says, Faulty, Generates}
use Rattle.guest_legs.specs.Legs.{Picked}
use Rattle.history_model.specs.Names.{is_booted}
use Rattle.history_model.specs.Unplugged.{is_gone}
use Rattle.session_effects.specs.Effects.{committed}
use Rattle.session_effects.specs.declared.halt.Halt.{Halt}
use Rattle.session_runs.specs.Standing.{Proceeds, Standpoint}
use Rattle.session_runs.specs.Touches.{Answering, named_at}
use Rattle.session_runs.specs.Turns.{Point, finished}
use Rattle.session_commands.specs.Answering.{FindsNoRun, IsAnswered, IsHalted}
use Rattle.session_commands.specs.Cost.{asked_cost, cost, cost_of_turn, machine_cost}
use Rattle.session_commands.specs.Given.{Given, given}
use Rattle.session_commands.specs.Lines.{needs_machine, turn, turn_unless}
use Rattle.session_commands.specs.Refusals.{can_unplug, is_there, refused_if}
use Rattle.session_commands.specs.Rows.{LineRow, row_of, unplugs}
use Rattle.session_text.proofs.PointLemmas.{Stops-along}
use Rattle.session_text.proofs.TouchLemmas.{StandAs}

module _ {A : Type 0} (who : Answering A) (g : Given) (history : List Record) (now : A) (stand : StandAs who g.filled history now) where
  none-both : (a b c : Bool) → c ≡ true → (a && not c) ≡ (b && not c)
  none-both true true c is = refl
  none-both false false c is = refl
  none-both true false c is = ap not is
  none-both false true c is = sym (ap not is)

  -- what is gone can't be unplugged, and what isn't is there as it was
  can-stands : (device : ℕ) → can_unplug (who.filled now) history device ≡ can_unplug g.filled history device
  can-stands device = by (is_gone history device) refl
    where
      by : (gone : Bool) → is_gone history device ≡ gone → can_unplug (who.filled now) history device ≡ can_unplug g.filled history device
      by true is = none-both (is_there (who.filled now) device) (is_there g.filled device) (is_gone history device) is
      by false is = ap (λ (b : Bool). (nat_lt device (2 ^ 32) && b) && not (is_gone history device)) (stand device is)

  row-stands : (l : Line) → row_of (given g.told (who.filled now)) history l ≡ row_of g history l
  row-stands (line.File name bytes) = refl
  row-stands (line.Boot name) = refl
  row-stands (line.Type bytes) = refl
  row-stands (line.Run count) = refl
  row-stands (line.Unplug device) =
      ap (λ (b : Bool). unplugs history (if is_booted history then refused_if (not b) NoDevice else Some NoBoot) device) (can-stands device)
  row-stands (line.Asks question) = refl

  pub turn-stands : (c : Command) → turn (given g.told (who.filled now)) history c ≡ turn g history c
  turn-stands PassedOver = refl
  turn-stands TooLong = refl
  turn-stands Unreadable = refl
  turn-stands (Says l) = ap (λ (row : LineRow). turn_unless row.refusal row.turn) (row-stands l)
  turn-stands (Faulty at) = refl
  turn-stands (Generates image typed processes) = refl

  pub needs-stands : (c : Command) → needs_machine (given g.told (who.filled now)) history c ≡ needs_machine g history c
  needs-stands PassedOver = refl
  needs-stands TooLong = refl
  needs-stands Unreadable = refl
  needs-stands (Says l) = ap (λ (row : LineRow). row.needs_machine && is_none row.refusal) (row-stands l)
  needs-stands (Faulty at) = refl
  needs-stands (Generates image typed processes) = refl

  asked-stands : (there : List Record) (c : Command) → asked_cost (given g.told (who.filled now)) history there c ≡ asked_cost g history there c
  asked-stands there PassedOver = refl
  asked-stands there TooLong = refl
  asked-stands there Unreadable = refl
  asked-stands there (Says l) = ap (λ (row : LineRow). row.cost) (row-stands l)
  asked-stands there (Faulty at) = refl
  asked-stands there (Generates image typed processes) = refl

  pub cost-stands : (is_there : Bool) (there : List Record) (c : Command) → cost (given g.told (who.filled now)) is_there history there c ≡ cost g is_there history there c
  cost-stands is_there there c =
      ap (λ (b : Bool). (if b then machine_cost is_there history else 0) + asked_cost (given g.told (who.filled now)) history there c) (needs-stands c)
      ∙ ap (λ (n : ℕ). (if needs_machine g history c then machine_cost is_there history else 0) + n) (asked-stands there c)

module _ {D A : Type 0} (d : Ghosts D) (who : Answering A) (g : Given) (is_there : Bool) (c : Command) (old new : Standpoint D A) (stand : StandAs who g.filled old.store.entries old.around.answers) where
  pub answered-as : IsAnswered d who (given g.told (who.filled old.around.answers)) is_there c old new → IsAnswered d who g is_there c old new
  answered-as a =
      let h = old.store.entries in
      let now : Given = given g.told (who.filled old.around.answers) in
      let n : ℕ = cost g is_there h new.store.entries c in
      record {
        advances =
            subst (λ (p : Point). Proceeds d who p finished n old new) (turn-stands who g h old.around.answers stand c)
            (subst (λ (n : ℕ). Proceeds d who (turn now h c) finished n old new) (cost-stands who g h old.around.answers stand is_there new.store.entries c) a.advances);
        on_run = λ needed. a.on_run (needs-stands who g h old.around.answers stand c ∙ needed);
      }

  pub halted-as : (why : Halt) → IsHalted d who (given g.told (who.filled old.around.answers)) is_there why c old new → IsHalted d who g is_there why c old new
  halted-as why b =
      let h = old.store.entries in
      let now : Given = given g.told (who.filled old.around.answers) in
      let same = turn-stands who g h old.around.answers stand c in
      let taken : List Picked = named_at b.stops.touches b.stops.slices ++ named_at b.stops.lost_touches b.stops.lost in
      let costs : cost_of_turn now is_there h c (turn now h c taken) ≡ cost_of_turn g is_there h c (turn g h c taken) =
      ap (λ (p : Point). cost_of_turn now is_there h c (p taken)) same ∙ cost-stands who g h old.around.answers stand is_there (h ++ committed (turn g h c taken).effects) c in
      record {
        beside = b.beside;
        stops = Stops-along d who (turn now h c) (turn g h c) old.around new.around b.beside old.disk new.disk h old.held new.held why (λ slices. ap (λ (p : Point). p slices) (sym same)) b.stops;
        costs = subst (λ (n : ℕ). b.beside ≤ n) costs b.costs;
        on_run = λ needed. b.on_run (needs-stands who g h old.around.answers stand c ∙ needed);
      }

  pub found-as : (at : Differs) → FindsNoRun (given g.told (who.filled old.around.answers)) is_there at c old new → FindsNoRun g is_there at c old new
  found-as at f = record {
    is_no_run = f.is_no_run;
    absent = f.absent;
    needs = sym (needs-stands who g old.store.entries old.around.answers stand c) ∙ f.needs;
    not_begun = f.not_begun;
  }
