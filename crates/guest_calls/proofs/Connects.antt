-- What a call to connect comes to.
use Rattle.std.proofs.Common.{◌≡◌, ℕ, ◌≤◌, ◌<◌, ◌∙◌, [], ◌∷◌, true, false, length, nat_lt, not, Some, IfSome, sym, ap, arith, lt-ltb, le-ltb}
use Rattle.parts_model.specs.Pipes.{free_pipes}
use Rattle.parts_model.specs.Ports.{can_connect}
use Rattle.parts_model.specs.declared.refusals.TheConstants.{CONNECTION_REFUSED, NO_DESCRIPTOR_ROOM, NO_ROOM}
use Rattle.acts_model.specs.Bodies.{Bodies, View}
use Rattle.acts_model.specs.Views.{argument}
use Rattle.arn_model.specs.ChannelCalls.{connect_row, new_conn}
use Rattle.arn_model.specs.Doing.{Request, refuse, refused, returns, unless_refused}
use Rattle.arn_model.specs.FileCalls.{has_no_room}
use Rattle.arn_model.specs.Kernel.{Kernel, next_descriptor, placed}
use Rattle.guest_bodies.specs.Shown.{seen_in}
use Rattle.guest_calls.specs.Channels.{with_client}
use Rattle.guest_calls.specs.State.{State}
use Rattle.guest_calls.proofs.Carries.{argument-is}
use Rattle.guest_calls.proofs.Refusals.{passed-by, refused-by}
use Rattle.guest_calls.proofs.Stands.{machine_with}

abbrev pub goes_on : Kernel → ℕ → ℕ → Request
goes_on k pid port = returns (next_descriptor k pid) (placed pid (length k.descriptions) (with_client port (new_conn k) k))

abbrev pub connect_by : Kernel → ℕ → ℕ → Request
connect_by k pid port =
    unless_refused k (refuse CONNECTION_REFUSED (not (can_connect k.ports port)) ∷ refuse NO_DESCRIPTOR_ROOM (has_no_room k pid) ∷ refuse NO_ROOM (nat_lt (free_pipes k.pipes) 2) ∷ []) (goes_on k pid port)

module _ (s : State) (pid port : ℕ) (read : IfSome (seen_in s.guests pid) (λ w. port ≡ argument w.body.cpu 0)) where
  by-port : (b : Bodies) (v : View) → seen_in s.guests pid ≡ Some v → connect_row (machine_with b s) pid v ≡ connect_by s.kernel pid port
  by-port b v sees = ap (connect_by s.kernel pid) (sym (argument-is s pid 0 port v sees read))

  pub connect-refused : can_connect s.kernel.ports port ≡ false → (b : Bodies) (v : View) → seen_in s.guests pid ≡ Some v → connect_row (machine_with b s) pid v ≡ refused CONNECTION_REFUSED s.kernel
  connect-refused cannot b v sees =
      by-port b v sees ∙ refused-by s.kernel CONNECTION_REFUSED (not (can_connect s.kernel.ports port)) (refuse NO_DESCRIPTOR_ROOM (has_no_room s.kernel pid) ∷ refuse NO_ROOM (nat_lt (free_pipes s.kernel.pipes) 2) ∷ []) (goes_on s.kernel pid port) (ap not cannot)

  past-one : can_connect s.kernel.ports port ≡ true → connect_by s.kernel pid port ≡ unless_refused s.kernel (refuse NO_DESCRIPTOR_ROOM (has_no_room s.kernel pid) ∷ refuse NO_ROOM (nat_lt (free_pipes s.kernel.pipes) 2) ∷ []) (goes_on s.kernel pid port)
  past-one can = passed-by s.kernel CONNECTION_REFUSED (not (can_connect s.kernel.ports port)) (refuse NO_DESCRIPTOR_ROOM (has_no_room s.kernel pid) ∷ refuse NO_ROOM (nat_lt (free_pipes s.kernel.pipes) 2) ∷ []) (goes_on s.kernel pid port) (ap not can)

  pub connect-no_room : can_connect s.kernel.ports port ≡ true → has_no_room s.kernel pid ≡ true → (b : Bodies) (v : View) → seen_in s.guests pid ≡ Some v → connect_row (machine_with b s) pid v ≡ refused NO_DESCRIPTOR_ROOM s.kernel
  connect-no_room can none b v sees =
      by-port b v sees ∙ past-one can ∙ refused-by s.kernel NO_DESCRIPTOR_ROOM (has_no_room s.kernel pid) (refuse NO_ROOM (nat_lt (free_pipes s.kernel.pipes) 2) ∷ []) (goes_on s.kernel pid port) none

  past-two : can_connect s.kernel.ports port ≡ true → has_no_room s.kernel pid ≡ false → connect_by s.kernel pid port ≡ unless_refused s.kernel (refuse NO_ROOM (nat_lt (free_pipes s.kernel.pipes) 2) ∷ []) (goes_on s.kernel pid port)
  past-two can room = past-one can ∙ passed-by s.kernel NO_DESCRIPTOR_ROOM (has_no_room s.kernel pid) (refuse NO_ROOM (nat_lt (free_pipes s.kernel.pipes) 2) ∷ []) (goes_on s.kernel pid port) room

  pub connect-full : can_connect s.kernel.ports port ≡ true → has_no_room s.kernel pid ≡ false → (free : ℕ) → free ≡ free_pipes s.kernel.pipes → free < 2 → (b : Bodies) (v : View) → seen_in s.guests pid ≡ Some v → connect_row (machine_with b s) pid v ≡ refused NO_ROOM s.kernel
  connect-full can room free is few b v sees =
      by-port b v sees ∙ past-two can room
      ∙ refused-by s.kernel NO_ROOM (nat_lt (free_pipes s.kernel.pipes) 2) [] (goes_on s.kernel pid port) (lt-ltb (free_pipes s.kernel.pipes) 2 (omega (arith, is, few)))

  pub connect-goes : can_connect s.kernel.ports port ≡ true → has_no_room s.kernel pid ≡ false → (free : ℕ) → free ≡ free_pipes s.kernel.pipes → 2 ≤ free → (b : Bodies) (v : View) → seen_in s.guests pid ≡ Some v → connect_row (machine_with b s) pid v ≡ goes_on s.kernel pid port
  connect-goes can room free is enough b v sees =
      by-port b v sees ∙ past-two can room
      ∙ passed-by s.kernel NO_ROOM (nat_lt (free_pipes s.kernel.pipes) 2) [] (goes_on s.kernel pid port) (le-ltb (free_pipes s.kernel.pipes) 2 (omega (arith, is, enough)))
