-- The calls on signals and segments: kill, sigaction, sigreturn, shm.
use Rattle.std.specs.Prelude.{ℕ, not, true, [], ◌∷◌, None, is_none, is_some}
use Rattle.arn_base.specs.declared.records.Extra.TheVariants as extra
use Rattle.parts_model.specs.declared.refusals.TheConstants.{NO_PROCESS, BAD_ARGUMENT}
use Rattle.parts_model.specs.Processes as table
use Rattle.parts_model.specs.Signals.{is_signal, can_set, with_handler, with_pending}
use Rattle.acts_model.specs.Acts.{Act, Shares, Leaves}
use Rattle.acts_model.specs.Bodies.{View}
use Rattle.acts_model.specs.Moved.{Nothing}
use Rattle.acts_model.specs.Views.{argument}
use Rattle.arn_model.specs.Doing.{Request, Does, returns, refuse, unless_refused}
use Rattle.arn_model.specs.Kernel.{Kernel, Machine, with_handling}

-- a call that does an act and moves nothing
abbrev pub does_only : Act → Kernel → Request
does_only act k = Does (record { act = act; extra = extra.Nothing; incoming = Nothing; outgoing = None; bytes = []; kernel = k })

-- a signal is pending for a process from now on
abbrev pub posted : ℕ → ℕ → Kernel → Kernel
posted pid signal k = with_handling pid (λ h. record h { pending = with_pending h.pending signal true }) k

-- kill(process, signal)
abbrev pub kill_row : Machine → ℕ → View → Request
kill_row m pid v =
    let target = argument v.body.cpu 0 in
    let signal = argument v.body.cpu 1 in
    unless_refused m.kernel
    (refuse BAD_ARGUMENT (not (is_signal signal)) ∷ refuse NO_PROCESS (is_none (table.live_process m.kernel.processes target)) ∷ [])
    (returns 0 (posted target signal m.kernel))

-- sigaction(signal, handler): a handler of 0 is none
abbrev pub sigaction_row : Machine → ℕ → View → Request
sigaction_row m pid v =
    let signal = argument v.body.cpu 0 in
    let handler = argument v.body.cpu 1 in
    unless_refused m.kernel
    (refuse BAD_ARGUMENT (not (can_set signal handler)) ∷ [])
    (returns 0 (with_handling pid (λ h. record h { handlers = with_handler h.handlers signal handler }) m.kernel))

-- sigreturn(): the slot's registers and pc come back, so that no result is seen
abbrev pub sigreturn_row : Machine → ℕ → View → Request
sigreturn_row m pid v = unless_refused m.kernel (refuse BAD_ARGUMENT (is_none v.body.slot) ∷ []) (does_only Leaves m.kernel)

-- shm(): a fresh segment
abbrev pub shm_row : Machine → ℕ → View → Request
shm_row m pid v = unless_refused m.kernel (refuse BAD_ARGUMENT (is_some v.body.segment) ∷ []) (does_only Shares m.kernel)
