use Rattle.std.proofs.Common.{◌≡◌, ◌∙◌, suc, ◌+◌, List, Bool, length, set, ap, sym, subst, arith, length-set}
use Rattle.history_model.specs.Broken.{greatest}
use Rattle.history_model.specs.Events.{how_many}
use Rattle.past_lives.proofs.Flags.{Flags, TellsFirst, flags-next, flags-passed, flags-kept, flags-told}
use Rattle.past_lives.proofs.Records.{processes-few}
use Rattle.past_lives.proofs.Until.{lives_first, lives-all}
use Rattle.past_lives.proofs.living.flags.Goals as goal
use Rattle.past_lives.proofs.living.flags.Goals.{in-Some+in-Some-told_by, in-Some+in_default-told_by, in_default}

pub overflow_add-greatest : goal.overflow_add-greatest
overflow_add-greatest c =
    let few = processes-few c.args.entries.now c.requires.indexed.stands in
    let count = c.requires.countable.few in
    omega (arith, few, count, c.greatest.ensures)

pub loop-event-preserved : goal.loop-event-preserved
loop-event-preserved c =
    let entries = c.args.entries.now in
    let k = c.loop-event.event in
    let flags = c.loop-event.flags.items in
    let most = greatest entries in
    let next : suc c.loop-event.event ≡ c.loop-event.event + 1 = omega arith in
    let len : length c.loop-event.flags.items ≡ greatest c.args.entries.now + 1 = c.loop-event.invariant.0 in
    let f : TellsFirst c.args.entries.now c.args.moment (greatest c.args.entries.now) c.loop-event.flags.items c.loop-event.event = c.loop-event.invariant.1 in
    elim c.match-happened.branch [
      | in-Some+in-Some-told_by w ↦
          let life = w.in-Some-told_by.life in
          let items : c.match-happened.flags.items ≡ set c.loop-event.flags.items w.in-Some-told_by.life.pid w.in-Some-told_by.life.lives =
          ap (λ v. v.items) w.flags-is ∙ w.tell.ensures in
          subst (λ (xs : List Bool). Flags entries c.args.moment xs (k + 1)) (sym items)
          (flags-next entries c.args.moment k (set flags life.pid life.lives) (length-set flags life.pid life.lives ∙ len) next
          (flags-told entries c.args.moment most k flags w.in-Some.entry.now life (omega arith) (sym w.in-Some.ensures) (sym w.in-Some-told_by.ensures) f))
      | in-Some+in_default-told_by w ↦
          subst (λ (xs : List Bool). Flags entries c.args.moment xs (k + 1)) (sym (ap (λ v. v.items) w.flags-is))
          (flags-next entries c.args.moment k flags len next (flags-kept entries c.args.moment most k flags w.in-Some.entry.now (sym w.in-Some.ensures) (sym w.in_default-told_by.ensures) f))
      | in_default w ↦
          subst (λ (xs : List Bool). Flags entries c.args.moment xs (k + 1)) (sym (ap (λ v. v.items) w.flags-is))
          (flags-next entries c.args.moment k flags len next (flags-passed entries c.args.moment most k flags (sym w.in_default.ensures) f))
    ]

pub returns-clause-few : goal.returns-clause-few
returns-clause-few c =
    let few = processes-few c.args.entries.now c.requires.indexed.stands in
    let count = c.requires.countable.few in
    let len = c.loop-event.invariant.0 in
    omega (arith, few, count)

pub returns-clause-lives : goal.returns-clause-lives
returns-clause-lives c pid le =
    let entries = c.args.entries.now in
    let all : c.loop-event.event ≡ how_many entries = let is = c.events-event-end.ensures entries c.requires.indexed in let end = c.loop-event.auto.event-end in omega (arith, c.loop-event-test.false) in
    c.loop-event.invariant.1 pid le ∙ (ap (lives_first entries c.args.moment pid) all ∙ sym (lives-all entries c.args.moment pid))
