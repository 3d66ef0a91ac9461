use Rattle.std.proofs.Common.{◌≡◌, ◌⊎◌, ◌<◌, ◌^◌, ℕ, inl, inr, [], List, length, Err, IfSome, None, Some, append-nil, refl, sym, ap, subst, ◌∙◌}
use Rattle.arn_base.specs.declared.records.Record.{Record}
use Rattle.history_index.specs.Errors.{TellsBroken}
use Rattle.history_index.specs.declared.errors.IndexError.{IndexError}
use Rattle.history_model.specs.Broken.{first_broken}
use Rattle.history_model.specs.Unplugged.{unplugged_in}
use Rattle.log_store.specs.Causes.{IsCauseOf, BlamesBytes}
use Rattle.log_store.specs.Refused.{IsNoLog}
use Rattle.log_store.specs.Stops.{IsOnlyRead}
use Rattle.log_store.specs.declared.size.TheConstants.{MOST_LOG}
use Rattle.session_effects.specs.Carrying.{HoldsLog, IsAtRest}
use Rattle.guest_devices.specs.Slots.{is_filled}
use Rattle.session_commands.specs.Given.{given}
use Rattle.session_questions.specs.Texts.{told}
use Rattle.arn_words.specs.declared.options.WordsError.{WordsError}
use Rattle.log_store.specs.declared.errors.OpenError.{OpenError}
use Rattle.log_store.specs.declared.errors.OpenError.TheVariants as opening
use Rattle.arn_session.specs.declared.status.Status.TheVariants as status
use Rattle.arn_session.specs.declared.status.Damage.TheVariants as damage
use Rattle.arn_session.proofs.FaultLemmas.{goes-nowhere}
use Rattle.arn_session.specs.Opening.{HasBegun, HasOpened}
use Rattle.arn_session.proofs.OpenLemmas.{Told-opened, left-shut, never-opened, rest-log, rests-opened, log-is-none, not-opened, for-any, never-begun, took-none, unopened, with-never, told-both}
use Rattle.arn_session.proofs.SparedLemmas.{touched-none, untouched}
use Rattle.arn_session.proofs.StatusLemmas.{alike, blames-log, broken-is, error-is, error_for, neither, numbers-refused, refused-as, refused-neither, same-error}
use Rattle.arn_session.proofs.ToldLemmas.{scene-same, told-done, told-halted, told-same}
use Rattle.arn_session.proofs.session.arnold.Goals as goal

pub answers_are_of_runs-requires : goal.answers_are_of_runs-requires
answers_are_of_runs-requires g c = tt

pub words_error-requires : goal.words_error-requires
words_error-requires g c = tt

pub logs_read_one_way-requires : goal.logs_read_one_way-requires
logs_read_one_way-requires g c = tt

pub from-requires : goal.from-requires
from-requires g c = tt

pub store_is_short-requires : goal.store_is_short-requires
store_is_short-requires g c = tt

pub entries-requires : goal.entries-requires
entries-requires g c = tt

pub from-requires-in-Err-answer_in_slots : goal.from-requires-in-Err-answer_in_slots
from-requires-in-Err-answer_in_slots g c = tt

pub returns-in-Some-Usage : goal.returns-in-Some-Usage
returns-in-Some-Usage g c = record {
  usage = λ is. c.words_error.ensures.usage (c.in-Some-Usage.is ∙ ap (λ (e : WordsError). Some e) c.in-Some-Usage.field-0-is);
  unaccepted = λ not. inl refl;
  unread = λ not. record { untaken = refl; unput = refl; unchosen = refl; unasked = refl; idle = refl };
  undisturbed = λ not. refl;
  read = λ is. absurd (alike status.Usage status.Done is);
  answered = λ is. absurd (alike status.Usage status.Done is);
  short = λ is. absurd (alike status.Usage status.Done is);
  source = λ is. absurd (alike status.Usage status.Source is);
  sink = λ is. absurd (alike status.Usage status.Sink is);
  disk = λ is. absurd (alike status.Usage status.Disk is);
  early = λ is. absurd (alike status.Usage status.Source is);
  cut = λ is. absurd (alike status.Usage status.Sink is);
  stopped = λ is. absurd (alike status.Usage status.Disk is);
  full = λ log payload is. absurd (alike status.Usage (status.Full log payload) is);
  begun = λ is. absurd (alike status.Usage status.NoMemory is);
  refused = λ error blames is. absurd (blames-log error status.Usage blames is);
  untouched = for-any _ (g.D.Disk.image c.args.disk.now) (λ bytes. IsNoLog bytes ⊎ (MOST_LOG < length bytes)) (record { untaken = refl; unput = refl; unchosen = refl; unasked = refl; idle = refl }, c.openings_follow.ensures.read c.args.disk.now);
  opened = unopened status.Usage (g.D.Disk.image c.args.disk.now) (λ has. has);
  broken = λ place is. absurd (alike status.Usage (status.Damaged (damage.Broken place)) is);
  stands = λ begun. absurd begun;
  unbegun = λ place is. absurd (alike status.Usage (status.Damaged (damage.Broken place)) is);
  keeps = λ place is. absurd (alike status.Usage (status.Damaged (damage.Broken place)) is);
  differs = λ d is. absurd (alike status.Usage (status.Damaged (damage.Differs d)) is);
  long = λ is. absurd (alike status.Usage status.Long is);
  taken = λ which. absurd (neither status.Usage status.Source status.Long (λ no. no) (λ no. no) which);
  slots = untouched _ c.args.devices.now.items;
  gone = λ history log. touched-none _ (unplugged_in history) c.args.devices.now.items;
  any_moment = λ history.
      c.effects_follow.ensures.leaves c.args.disk.now c.args.disk.now history (g.K.Sink.holds c.args.sink.now) (g.K.Sink.holds c.args.sink.now) [] (c.effects_follow.ensures.follow.nothing c.args.disk.now history (g.K.Sink.holds c.args.sink.now));
  rests = λ not_disk not_memory history was.
      record { more = []; at_rest = subst (IsAtRest g.D.Disk c.args.disk.now) (sym (append-nil history)) was };
  shut = λ has. absurd has;
  at_most = took-none (2 ^ 40) (g.S.Source.left c.args.source.now);
  numbers = tt;
  later = goes-nowhere g.D.Disk.image g.D.Disk.faults c.args.disk.now;
  lineage = c.answers_are_of_runs.ensures.text;
  sinks = c.answers_are_of_runs.ensures.sinks;
  generated = c.answers_are_of_runs.ensures.generated;
  undamaged = c.answers_are_of_runs.ensures.undamaged;
  verify = c.answers_are_of_runs.ensures.verify;
}

pub returns-in-Some-NoMemory : goal.returns-in-Some-NoMemory
returns-in-Some-NoMemory g c = record {
  usage = λ is. absurd (alike status.NoMemory status.Usage is);
  unaccepted = λ not. inr refl;
  unread = λ not. record { untaken = refl; unput = refl; unchosen = refl; unasked = refl; idle = refl };
  undisturbed = λ not. refl;
  read = λ is. absurd (alike status.NoMemory status.Done is);
  answered = λ is. absurd (alike status.NoMemory status.Done is);
  short = λ is. absurd (alike status.NoMemory status.Done is);
  source = λ is. absurd (alike status.NoMemory status.Source is);
  sink = λ is. absurd (alike status.NoMemory status.Sink is);
  disk = λ is. absurd (alike status.NoMemory status.Disk is);
  early = λ is. absurd (alike status.NoMemory status.Source is);
  cut = λ is. absurd (alike status.NoMemory status.Sink is);
  stopped = λ is. absurd (alike status.NoMemory status.Disk is);
  full = λ log payload is. absurd (alike status.NoMemory (status.Full log payload) is);
  begun = λ is history log. inl (record {
    never = record { untaken = refl; unput = refl; unchosen = refl; unasked = refl; idle = refl };
    keeps = (c.effects_follow.ensures.follow.nothing c.args.disk.now history (g.K.Sink.holds c.args.sink.now)).keeps;
  });
  refused = λ error blames is. absurd (blames-log error status.NoMemory blames is);
  untouched = for-any _ (g.D.Disk.image c.args.disk.now) (λ bytes. IsNoLog bytes ⊎ (MOST_LOG < length bytes)) (record { untaken = refl; unput = refl; unchosen = refl; unasked = refl; idle = refl }, c.openings_follow.ensures.read c.args.disk.now);
  opened = unopened status.NoMemory (g.D.Disk.image c.args.disk.now) (λ has. has);
  broken = λ place is. absurd (alike status.NoMemory (status.Damaged (damage.Broken place)) is);
  stands = λ begun. absurd begun;
  unbegun = λ place is. absurd (alike status.NoMemory (status.Damaged (damage.Broken place)) is);
  keeps = λ place is. absurd (alike status.NoMemory (status.Damaged (damage.Broken place)) is);
  differs = λ d is. absurd (alike status.NoMemory (status.Damaged (damage.Differs d)) is);
  long = λ is. absurd (alike status.NoMemory status.Long is);
  taken = λ which. absurd (neither status.NoMemory status.Source status.Long (λ no. no) (λ no. no) which);
  slots = untouched _ c.args.devices.now.items;
  gone = λ history log. touched-none _ (unplugged_in history) c.args.devices.now.items;
  any_moment = λ history.
      c.effects_follow.ensures.leaves c.args.disk.now c.args.disk.now history (g.K.Sink.holds c.args.sink.now) (g.K.Sink.holds c.args.sink.now) [] (c.effects_follow.ensures.follow.nothing c.args.disk.now history (g.K.Sink.holds c.args.sink.now));
  rests = λ not_disk not_memory. absurd (not_memory refl);
  shut = λ has. absurd has;
  at_most = took-none (2 ^ 40) (g.S.Source.left c.args.source.now);
  numbers = tt;
  later = goes-nowhere g.D.Disk.image g.D.Disk.faults c.args.disk.now;
  lineage = c.answers_are_of_runs.ensures.text;
  sinks = c.answers_are_of_runs.ensures.sinks;
  generated = c.answers_are_of_runs.ensures.generated;
  undamaged = c.answers_are_of_runs.ensures.undamaged;
  verify = c.answers_are_of_runs.ensures.verify;
}

pub returns-in-Err : goal.returns-in-Err
returns-in-Err g c = record {
  usage = λ is. absurd (refused-as c.in-Err.error c.from.result status.Usage c.from.ensures is);
  unaccepted = λ not. absurd (not c.in-None.ensures.none);
  unread = λ not. absurd (not c.in-None.ensures.none);
  undisturbed = λ not. absurd (not c.in-None.ensures.none);
  read = λ is. absurd (refused-as c.in-Err.error c.from.result status.Done c.from.ensures is);
  answered = λ is. absurd (refused-as c.in-Err.error c.from.result status.Done c.from.ensures is);
  short = λ is. absurd (refused-as c.in-Err.error c.from.result status.Done c.from.ensures is);
  source = λ is. absurd (refused-as c.in-Err.error c.from.result status.Source c.from.ensures is);
  sink = λ is. absurd (refused-as c.in-Err.error c.from.result status.Sink c.from.ensures is);
  disk = λ is. c.open_log.ensures.cause (c.in-Err.is ∙ ap (λ (e : OpenError). Err e) (error-is c.in-Err.error c.from.result opening.Disk c.from.ensures (ap error_for is)));
  early = λ is. absurd (refused-as c.in-Err.error c.from.result status.Source c.from.ensures is);
  cut = λ is. absurd (refused-as c.in-Err.error c.from.result status.Sink c.from.ensures is);
  stopped = λ is history log. inl (record {
    never = record { untaken = refl; unput = refl; unchosen = refl; unasked = refl; idle = refl };
    keeps = c.openings_follow.ensures.keeps c.args.disk.now c.open_log.new.disk history c.open_log.ensures.later.tells c.open_log.ensures.any_moment;
  });
  full = λ log payload is. absurd (refused-as c.in-Err.error c.from.result (status.Full log payload) c.from.ensures is);
  begun = λ is history log. inl (record {
    never = record { untaken = refl; unput = refl; unchosen = refl; unasked = refl; idle = refl };
    keeps = c.openings_follow.ensures.keeps c.args.disk.now c.open_log.new.disk history c.open_log.ensures.later.tells c.open_log.ensures.any_moment;
  });
  refused = λ error blames is.
      let same : c.in-Err.error ≡ error = same-error c.in-Err.error error (sym c.from.ensures ∙ is) in (
        subst (λ e. IfSome (g.D.Disk.image c.args.disk.now) (λ bytes. IsCauseOf bytes e)) same c.in-Err.ensures.refused,
        record { untaken = refl; unput = refl; unchosen = refl; unasked = refl; idle = refl },
        c.in-Err.ensures.unchanged (subst BlamesBytes (sym same) blames),
      );
  untouched = with-never _ (g.D.Disk.image c.args.disk.now) (λ bytes. IsNoLog bytes ⊎ (MOST_LOG < length bytes)) (λ bytes. IsOnlyRead g.D.Disk.image g.D.Disk.may_leave g.D.Disk.moment g.D.Disk.left_since c.args.disk.now c.open_log.new.disk) (record { untaken = refl; unput = refl; unchosen = refl; unasked = refl; idle = refl }) c.open_log.ensures.untouched;
  opened = unopened c.from.result (g.D.Disk.image c.args.disk.now) (λ has. never-opened c.in-Err.error (subst HasOpened c.from.ensures has));
  broken = λ place is. absurd (refused-as c.in-Err.error c.from.result (status.Damaged (damage.Broken place)) c.from.ensures is);
  stands = λ begun. absurd (never-begun c.in-Err.error (subst HasBegun c.from.ensures begun));
  unbegun = λ place is. absurd (refused-as c.in-Err.error c.from.result (status.Damaged (damage.Broken place)) c.from.ensures is);
  keeps = λ place is. absurd (refused-as c.in-Err.error c.from.result (status.Damaged (damage.Broken place)) c.from.ensures is);
  differs = λ d is. absurd (refused-as c.in-Err.error c.from.result (status.Damaged (damage.Differs d)) c.from.ensures is);
  long = λ is. absurd (refused-as c.in-Err.error c.from.result status.Long c.from.ensures is);
  taken = λ which. absurd (refused-neither c.in-Err.error c.from.result c.from.ensures which);
  slots = untouched _ c.args.devices.now.items;
  gone = λ history log. touched-none _ (unplugged_in history) c.args.devices.now.items;
  any_moment = λ history was.
      c.openings_follow.ensures.leaves c.args.disk.now c.open_log.new.disk history c.open_log.ensures.any_moment was;
  rests = λ not_disk not_memory history was.
      absurd (log-is-none g.D.Disk c.args.disk.now history was c.in-Err.error (λ is. not_disk (c.from.ensures ∙ is)) (λ is. not_memory (c.from.ensures ∙ is)) c.in-Err.ensures.refused);
  shut = λ has. absurd (never-opened c.in-Err.error (subst HasOpened c.from.ensures has));
  at_most = took-none (2 ^ 40) (g.S.Source.left c.args.source.now);
  numbers = numbers-refused c.open_log.result c.open_log.ensures.too_long c.open_log.ensures.not_log c.open_log.ensures.malformed c.in-Err.error c.from.result c.in-Err.is c.from.ensures;
  later = c.open_log.ensures.later;
  lineage = c.answers_are_of_runs.ensures.text;
  sinks = c.answers_are_of_runs.ensures.sinks;
  generated = c.answers_are_of_runs.ensures.generated;
  undamaged = c.answers_are_of_runs.ensures.undamaged;
  verify = c.answers_are_of_runs.ensures.verify;
}

pub returns-in-Err-Broken : goal.returns-in-Err-Broken
returns-in-Err-Broken g c = record {
  usage = λ is. absurd (alike (status.Damaged (damage.Broken _)) status.Usage is);
  unaccepted = λ not. absurd (not c.in-None.ensures.none);
  unread = λ not. absurd (not c.in-None.ensures.none);
  undisturbed = λ not. absurd (not c.in-None.ensures.none);
  read = λ is. absurd (alike (status.Damaged (damage.Broken _)) status.Done is);
  answered = λ is. absurd (alike (status.Damaged (damage.Broken _)) status.Done is);
  short = λ is. absurd (alike (status.Damaged (damage.Broken _)) status.Done is);
  source = λ is. absurd (alike (status.Damaged (damage.Broken _)) status.Source is);
  sink = λ is. absurd (alike (status.Damaged (damage.Broken _)) status.Sink is);
  disk = λ is. absurd (alike (status.Damaged (damage.Broken _)) status.Disk is);
  early = λ is. absurd (alike (status.Damaged (damage.Broken _)) status.Source is);
  cut = λ is. absurd (alike (status.Damaged (damage.Broken _)) status.Sink is);
  stopped = λ is. absurd (alike (status.Damaged (damage.Broken _)) status.Disk is);
  full = λ log payload is. absurd (alike (status.Damaged (damage.Broken _)) (status.Full log payload) is);
  begun = λ is. absurd (alike (status.Damaged (damage.Broken _)) status.NoMemory is);
  refused = λ error blames is. absurd (blames-log error (status.Damaged (damage.Broken _)) blames is);
  untouched = not-opened _ (g.D.Disk.image c.args.disk.now) c.in-Ok.store.entries c.in-Ok.ensures.recovered c.in-Ok.ensures.short;
  opened = told-both (g.D.Disk.image c.args.disk.now) c.in-Ok.store.entries (status.Damaged (damage.Broken c.in-Err-Broken.place)) c.in-Ok.ensures.recovered c.in-Ok.ensures.short;
  broken = λ place is history log.
      subst (λ (h : List Record). first_broken h ≡ Some place) (c.openings_follow.ensures.history c.args.disk.now history c.in-Ok.store log c.in-Ok.ensures.recovered)
      (subst (λ (h : List Record). first_broken h ≡ Some place) c.entries.ensures
      (subst (λ (e : IndexError). TellsBroken c.entries.result.now e) c.in-Err-Broken.field-0-is c.in-Err-Broken.ensures.broken ∙ ap (λ (n : ℕ). Some n) (sym c.in-Err-Broken.place-is ∙ broken-is _ place is)));
  stands = λ begun. absurd begun;
  unbegun = λ place is. record { untaken = refl; unput = refl; unchosen = refl; unasked = refl; idle = refl };
  keeps = λ place is history. c.openings_follow.ensures.keeps c.args.disk.now c.open_log.new.disk history c.open_log.ensures.later.tells c.open_log.ensures.any_moment;
  differs = λ d is. absurd (alike (status.Damaged (damage.Broken _)) (status.Damaged (damage.Differs d)) is);
  long = λ is. absurd (alike (status.Damaged (damage.Broken _)) status.Long is);
  taken = λ which. absurd (neither (status.Damaged (damage.Broken _)) status.Source status.Long (λ no. no) (λ no. no) which);
  slots = untouched _ c.args.devices.now.items;
  gone = λ history log. touched-none _ (unplugged_in history) c.args.devices.now.items;
  any_moment = λ history was.
      c.openings_follow.ensures.leaves c.args.disk.now c.open_log.new.disk history c.open_log.ensures.any_moment was;
  rests = λ not_disk not_memory history was.
      rests-opened g.D.Disk c.args.disk.now c.open_log.new.disk c.in-Ok.store.entries history (g.K.Sink.holds c.args.sink.now) (c.openings_follow.ensures.history c.args.disk.now history c.in-Ok.store (rest-log g.D.Disk c.args.disk.now history was) c.in-Ok.ensures.recovered) (c.openings_follow.ensures.carries c.args.disk.now c.open_log.new.disk c.in-Ok.store (g.K.Sink.holds c.args.sink.now) c.in-Ok.ensures.later.tells c.in-Ok.ensures.left c.in-Ok.ensures.durable c.in-Ok.ensures.any_moment c.in-Ok.ensures.shut) was;
  shut = λ has. left-shut g.D.Disk c.open_log.new.disk c.in-Ok.store c.in-Ok.ensures.left;
  at_most = took-none (2 ^ 40) (g.S.Source.left c.args.source.now);
  numbers = tt;
  later = c.open_log.ensures.later;
  lineage = c.answers_are_of_runs.ensures.text;
  sinks = c.answers_are_of_runs.ensures.sinks;
  generated = c.answers_are_of_runs.ensures.generated;
  undamaged = c.answers_are_of_runs.ensures.undamaged;
  verify = c.answers_are_of_runs.ensures.verify;
}

pub returns-in-Err-NoMemory : goal.returns-in-Err-NoMemory
returns-in-Err-NoMemory g c = record {
  usage = λ is. absurd (alike status.NoMemory status.Usage is);
  unaccepted = λ not. absurd (not c.in-None.ensures.none);
  unread = λ not. absurd (not c.in-None.ensures.none);
  undisturbed = λ not. absurd (not c.in-None.ensures.none);
  read = λ is. absurd (alike status.NoMemory status.Done is);
  answered = λ is. absurd (alike status.NoMemory status.Done is);
  short = λ is. absurd (alike status.NoMemory status.Done is);
  source = λ is. absurd (alike status.NoMemory status.Source is);
  sink = λ is. absurd (alike status.NoMemory status.Sink is);
  disk = λ is. absurd (alike status.NoMemory status.Disk is);
  early = λ is. absurd (alike status.NoMemory status.Source is);
  cut = λ is. absurd (alike status.NoMemory status.Sink is);
  stopped = λ is. absurd (alike status.NoMemory status.Disk is);
  full = λ log payload is. absurd (alike status.NoMemory (status.Full log payload) is);
  begun = λ is history log. inl (record {
    never = record { untaken = refl; unput = refl; unchosen = refl; unasked = refl; idle = refl };
    keeps = c.openings_follow.ensures.keeps c.args.disk.now c.open_log.new.disk history c.open_log.ensures.later.tells c.open_log.ensures.any_moment;
  });
  refused = λ error blames is. absurd (blames-log error status.NoMemory blames is);
  untouched = not-opened _ (g.D.Disk.image c.args.disk.now) c.in-Ok.store.entries c.in-Ok.ensures.recovered c.in-Ok.ensures.short;
  opened = told-both (g.D.Disk.image c.args.disk.now) c.in-Ok.store.entries status.NoMemory c.in-Ok.ensures.recovered c.in-Ok.ensures.short;
  broken = λ place is. absurd (alike status.NoMemory (status.Damaged (damage.Broken place)) is);
  stands = λ begun. absurd begun;
  unbegun = λ place is. absurd (alike status.NoMemory (status.Damaged (damage.Broken place)) is);
  keeps = λ place is. absurd (alike status.NoMemory (status.Damaged (damage.Broken place)) is);
  differs = λ d is. absurd (alike status.NoMemory (status.Damaged (damage.Differs d)) is);
  long = λ is. absurd (alike status.NoMemory status.Long is);
  taken = λ which. absurd (neither status.NoMemory status.Source status.Long (λ no. no) (λ no. no) which);
  slots = untouched _ c.args.devices.now.items;
  gone = λ history log. touched-none _ (unplugged_in history) c.args.devices.now.items;
  any_moment = λ history was.
      c.openings_follow.ensures.leaves c.args.disk.now c.open_log.new.disk history c.open_log.ensures.any_moment was;
  rests = λ not_disk not_memory. absurd (not_memory refl);
  shut = λ has. absurd has;
  at_most = took-none (2 ^ 40) (g.S.Source.left c.args.source.now);
  numbers = tt;
  later = c.open_log.ensures.later;
  lineage = c.answers_are_of_runs.ensures.text;
  sinks = c.answers_are_of_runs.ensures.sinks;
  generated = c.answers_are_of_runs.ensures.generated;
  undamaged = c.answers_are_of_runs.ensures.undamaged;
  verify = c.answers_are_of_runs.ensures.verify;
}

pub returns-in-Ok-answer_in_slots : goal.returns-in-Ok-answer_in_slots
returns-in-Ok-answer_in_slots g c =
    let same : (history : List Record) → HoldsLog g.D.Disk c.args.disk.now history → c.in-Ok.store.entries ≡ history = λ history log. c.openings_follow.ensures.history c.args.disk.now history c.in-Ok.store log c.in-Ok.ensures.recovered in
    let lent = scene-same (c.disk-1.given.1 (sym c.answer_in_slots.ensures.same.disk)) (c.sink-1.given.1 (sym c.answer_in_slots.ensures.same.sink)) (c.chooser-1.given.1 (sym c.answer_in_slots.ensures.same.chooser)) (c.devices-1.given.1 (sym c.answer_in_slots.ensures.slots)) (c.steps-1.given.1 (sym c.answer_in_slots.ensures.same.steps)) g.K.Sink.holds g.K.Sink.faults (λ x. (goal.Chooser-dyn g (x.vtable, x.value)).choices x.value) (λ v. v.items) (g.S.Source.left c.answer_in_slots.new.source) (g.S.Source.faults c.answer_in_slots.new.source) in
    let at = λ (history : List Record) (is : c.in-Ok.store.entries ≡ history). told-same lent (
    Told-opened g.D.Disk _ (given told (is_filled c.args.devices.now.items)) c.openings_follow.ensures.behind c.halts_follow.ensures.behind c.args.disk.now c.open_log.new.disk c.answer_in_slots.new.outside.disk.now
    (g.K.Sink.holds c.args.sink.now) (g.K.Sink.holds c.answer_in_slots.new.outside.sink.now) _ _ c.in-Ok.store.entries
    (c.openings_follow.ensures.carries c.args.disk.now c.open_log.new.disk c.in-Ok.store (g.K.Sink.holds c.args.sink.now) c.in-Ok.ensures.later.tells c.in-Ok.ensures.left c.in-Ok.ensures.durable c.in-Ok.ensures.any_moment c.in-Ok.ensures.shut)
    c.openings_follow.ensures.leaves_behind c.openings_follow.ensures.rests_behind c.in-Ok.ensures.any_moment c.open_log.ensures.later history is
    (told-done c.answer_in_slots.ensures.leaves (left-shut g.D.Disk c.open_log.new.disk c.in-Ok.store c.in-Ok.ensures.left) c.in-Ok-answer_in_slots.field-0 c.in-Ok-answer_in_slots.is)) in
    let own = at c.in-Ok.store.entries refl in
    let of = λ (history : List Record) (log : HoldsLog g.D.Disk c.args.disk.now history). at history (same history log) in
    record {
      usage = λ is accepted. own.usage is;
      unaccepted = λ not. absurd (not c.in-None.ensures.none);
      unread = λ not. absurd (not c.in-None.ensures.none);
      undisturbed = λ not. absurd (not c.in-None.ensures.none);
      read = own.read;
      answered = λ is history log. (of history log).answered is;
      short = own.short;
      source = own.source;
      sink = own.sink;
      disk = own.disk;
      early = own.early;
      cut = λ is history log. (of history log).cut is;
      stopped = λ is history log. inr ((of history log).stopped is);
      full = λ at payload is history log. (of history log).full at payload is;
      begun = λ is history log. inr ((of history log).begun is);
      refused = λ error blames is. absurd (own.refused error blames is);
      untouched = not-opened _ (g.D.Disk.image c.args.disk.now) c.in-Ok.store.entries c.in-Ok.ensures.recovered c.in-Ok.ensures.short;
      opened = told-both (g.D.Disk.image c.args.disk.now) c.in-Ok.store.entries status.Done c.in-Ok.ensures.recovered c.in-Ok.ensures.short;
      broken = λ place is. absurd (own.broken place is);
      stands = λ begun history log. subst (λ (h : List Record). first_broken h ≡ None) (same history log) (subst (λ (h : List Record). first_broken h ≡ None) c.entries.ensures c.in-Ok-new.ensures.known.indexed.stands);
      unbegun = λ place is. absurd (own.broken place is);
      keeps = λ place is. absurd (own.broken place is);
      differs = λ d is history log. (of history log).differs d is;
      long = own.long;
      taken = λ which history log. (of history log).taken which;
      slots = own.touched.were;
      gone = λ history log. (of history log).touched;
      any_moment = λ history was. (of history (rest-log g.D.Disk c.args.disk.now history was)).any_moment was;
      rests = λ not_disk not_memory history was. (of history (rest-log g.D.Disk c.args.disk.now history was)).rests not_disk not_memory was;
      shut = own.shut;
      at_most = own.at_most;
      numbers = own.numbers;
      later = own.later;
      lineage = c.answers_are_of_runs.ensures.text;
      sinks = c.answers_are_of_runs.ensures.sinks;
      generated = c.answers_are_of_runs.ensures.generated;
      undamaged = c.answers_are_of_runs.ensures.undamaged;
      verify = c.answers_are_of_runs.ensures.verify;
    }

pub returns : goal.returns
returns g c =
    let same : (history : List Record) → HoldsLog g.D.Disk c.args.disk.now history → c.in-Ok.store.entries ≡ history = λ history log. c.openings_follow.ensures.history c.args.disk.now history c.in-Ok.store log c.in-Ok.ensures.recovered in
    let lent = scene-same (c.disk-1.given.1 (sym c.answer_in_slots.ensures.same.disk)) (c.sink-1.given.1 (sym c.answer_in_slots.ensures.same.sink)) (c.chooser-1.given.1 (sym c.answer_in_slots.ensures.same.chooser)) (c.devices-1.given.1 (sym c.answer_in_slots.ensures.slots)) (c.steps-1.given.1 (sym c.answer_in_slots.ensures.same.steps)) g.K.Sink.holds g.K.Sink.faults (λ x. (goal.Chooser-dyn g (x.vtable, x.value)).choices x.value) (λ v. v.items) (g.S.Source.left c.answer_in_slots.new.source) (g.S.Source.faults c.answer_in_slots.new.source) in
    let at = λ (history : List Record) (is : c.in-Ok.store.entries ≡ history). told-same lent (
    Told-opened g.D.Disk _ (given told (is_filled c.args.devices.now.items)) c.openings_follow.ensures.behind c.halts_follow.ensures.behind c.args.disk.now c.open_log.new.disk c.answer_in_slots.new.outside.disk.now
    (g.K.Sink.holds c.args.sink.now) (g.K.Sink.holds c.answer_in_slots.new.outside.sink.now) _ _ c.in-Ok.store.entries
    (c.openings_follow.ensures.carries c.args.disk.now c.open_log.new.disk c.in-Ok.store (g.K.Sink.holds c.args.sink.now) c.in-Ok.ensures.later.tells c.in-Ok.ensures.left c.in-Ok.ensures.durable c.in-Ok.ensures.any_moment c.in-Ok.ensures.shut)
    c.openings_follow.ensures.leaves_behind c.openings_follow.ensures.rests_behind c.in-Ok.ensures.any_moment c.open_log.ensures.later history is
    (told-halted c.answer_in_slots.ensures.leaves (left-shut g.D.Disk c.open_log.new.disk c.in-Ok.store c.in-Ok.ensures.left) c.in-Err-answer_in_slots.halt c.from-in-Err-answer_in_slots.result c.in-Err-answer_in_slots.is c.from-in-Err-answer_in_slots.ensures)) in
    let own = at c.in-Ok.store.entries refl in
    let of = λ (history : List Record) (log : HoldsLog g.D.Disk c.args.disk.now history). at history (same history log) in
    record {
      usage = λ is accepted. own.usage is;
      unaccepted = λ not. absurd (not c.in-None.ensures.none);
      unread = λ not. absurd (not c.in-None.ensures.none);
      undisturbed = λ not. absurd (not c.in-None.ensures.none);
      read = own.read;
      answered = λ is history log. (of history log).answered is;
      short = own.short;
      source = own.source;
      sink = own.sink;
      disk = own.disk;
      early = own.early;
      cut = λ is history log. (of history log).cut is;
      stopped = λ is history log. inr ((of history log).stopped is);
      full = λ at payload is history log. (of history log).full at payload is;
      begun = λ is history log. inr ((of history log).begun is);
      refused = λ error blames is. absurd (own.refused error blames is);
      untouched = not-opened _ (g.D.Disk.image c.args.disk.now) c.in-Ok.store.entries c.in-Ok.ensures.recovered c.in-Ok.ensures.short;
      opened = told-both (g.D.Disk.image c.args.disk.now) c.in-Ok.store.entries c.from-in-Err-answer_in_slots.result c.in-Ok.ensures.recovered c.in-Ok.ensures.short;
      broken = λ place is. absurd (own.broken place is);
      stands = λ begun history log. subst (λ (h : List Record). first_broken h ≡ None) (same history log) (subst (λ (h : List Record). first_broken h ≡ None) c.entries.ensures c.in-Ok-new.ensures.known.indexed.stands);
      unbegun = λ place is. absurd (own.broken place is);
      keeps = λ place is. absurd (own.broken place is);
      differs = λ d is history log. (of history log).differs d is;
      long = own.long;
      taken = λ which history log. (of history log).taken which;
      slots = own.touched.were;
      gone = λ history log. (of history log).touched;
      any_moment = λ history was. (of history (rest-log g.D.Disk c.args.disk.now history was)).any_moment was;
      rests = λ not_disk not_memory history was. (of history (rest-log g.D.Disk c.args.disk.now history was)).rests not_disk not_memory was;
      shut = own.shut;
      at_most = own.at_most;
      numbers = own.numbers;
      later = own.later;
      lineage = c.answers_are_of_runs.ensures.text;
      sinks = c.answers_are_of_runs.ensures.sinks;
      generated = c.answers_are_of_runs.ensures.generated;
      undamaged = c.answers_are_of_runs.ensures.undamaged;
      verify = c.answers_are_of_runs.ensures.verify;
    }
