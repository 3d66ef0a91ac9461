use Rattle.std.proofs.Common.{◌≡◌, ◌+◌, ◌<◌, ◌^◌, is_some, subst, sym, true}
use Rattle.guest_calls.proofs.Returned.{no-ok}
use Rattle.parts_model.specs.Numbered.{nth}
use Rattle.guest_calls.specs.State.{State}
use Rattle.guest_calls.proofs.kernel.Kernel.pipe.Goals as goal

pub returns-in_err-first-clause-carried : goal.returns-in_err-first-clause-carried
returns-in_err-first-clause-carried c = no-ok _ c.from_residual.result c.from_residual.ensures.0

pub returns-in_err-first-clause-nothing : goal.returns-in_err-first-clause-nothing
returns-in_err-first-clause-nothing c = no-ok _ c.from_residual.result c.from_residual.ensures.0

pub answers_two-requires-clause-live : goal.answers_two-requires-clause-live
answers_two-requires-clause-live c = subst (λ (s : State). is_some (nth s.guests c.args.pid) ≡ true) (sym c.in_ok-first.ensures.opened) c.requires.live

pub answers_two-requires-clause-room : goal.answers_two-requires-clause-room
answers_two-requires-clause-room c = subst (λ (s : State). s.events + 1 < 2 ^ 64) (sym c.in_ok-first.ensures.opened) c.requires.room

pub answers-requires-clause-live : goal.answers-requires-clause-live
answers-requires-clause-live c = c.requires.live

pub answers-requires-clause-room : goal.answers-requires-clause-room
answers-requires-clause-room c = c.requires.room

pub returns-then-room_for-lt2-clause-nothing : goal.returns-then-room_for-lt2-clause-nothing
returns-then-room_for-lt2-clause-nothing c = c.answers.ensures.nothing

pub returns-then-room_for-lt2-clause-err : goal.returns-then-room_for-lt2-clause-err
returns-then-room_for-lt2-clause-err c = tt

pub answers-requires-then-free_pipes-eq0-clause-live : goal.answers-requires-then-free_pipes-eq0-clause-live
answers-requires-then-free_pipes-eq0-clause-live c = c.requires.live

pub answers-requires-then-free_pipes-eq0-clause-room : goal.answers-requires-then-free_pipes-eq0-clause-room
answers-requires-then-free_pipes-eq0-clause-room c = c.requires.room

pub returns-then-free_pipes-eq0-clause-nothing : goal.returns-then-free_pipes-eq0-clause-nothing
returns-then-free_pipes-eq0-clause-nothing c = c.answers-then-free_pipes-eq0.ensures.nothing

pub returns-then-free_pipes-eq0-clause-err : goal.returns-then-free_pipes-eq0-clause-err
returns-then-free_pipes-eq0-clause-err c = tt

pub open_pipe-requires-clause-live : goal.open_pipe-requires-clause-live
open_pipe-requires-clause-live c = c.requires.live

pub returns-clause-nothing : goal.returns-clause-nothing
returns-clause-nothing c = c.answers_two.ensures.nothing

pub returns-clause-err : goal.returns-clause-err
returns-clause-err c = tt
