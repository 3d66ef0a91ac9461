-- What every row of the table of calls tells, and what a call tells that there is not.
use Rattle.std.proofs.Common.{◌≡◌, ℕ, refl, subst, Bool, true, false, ◌==◌, if◌then◌else◌, arith, eqb-true}
use Rattle.std.proofs.lemmas.Bool.Decides.{nat_tests}
use Rattle.parts_model.specs.declared.calls.TheConstants.{EXIT, FORK, EXEC, WAIT, GETPID, KILL, SIGACTION, SIGRETURN, OPEN, CLOSE, READ, WRITE, SEEK, DUP, PIPE, UNLINK, SHM, LISTEN, CONNECT, ACCEPT, DEVICE, YIELD}
use Rattle.parts_model.specs.declared.refusals.TheConstants.{NO_SUCH_CALL}
use Rattle.acts_model.specs.Bodies.{View}
use Rattle.acts_model.specs.Views.{call_number}
use Rattle.arn_model.specs.Doing.{Request, refused}
use Rattle.arn_model.specs.Kernel.{Machine}
use Rattle.arn_model.specs.Row.{row, is_built, request}
use Rattle.arn_model.proofs.Calling.{At, RequestTells, refused-tells}
use Rattle.arn_model.proofs.ChannelTells.{pipe-tells, listen-tells, connect-tells, accept-tells, device-tells}
use Rattle.arn_model.proofs.FileTells.{open-tells, unlink-tells, seek-tells, close-tells, dup-tells}
use Rattle.arn_model.proofs.ProcessTells.{exit-tells, fork-tells, exec-tells, wait-tells, getpid-tells, yield-tells}
use Rattle.arn_model.proofs.SignalTells.{kill-tells, sigaction-tells, sigreturn-tells, shm-tells}
use Rattle.arn_model.proofs.TransferTells.{read-tells, write-tells}

-- the row of one number, or that of another
pick : (m : Machine) (pid : ℕ) (v : View) (n c : ℕ) (here other : Request) → At m pid v n → (At m pid v c → RequestTells m pid v c here) → ((n == c) ≡ false → RequestTells m pid v n other) → RequestTells m pid v n (if n == c then here else other)
pick m pid v n c here other h1 h2 h3 = grind (arith, nat_tests, eqb-true)

pub row-tells : (m : Machine) (pid : ℕ) (v : View) (n : ℕ) → At m pid v n → RequestTells m pid v n (row n m pid v)
unfolding row
row-tells m pid v n at =
    pick m pid v n EXIT _ _ at (exit-tells m pid v) (λ x.
    pick m pid v n FORK _ _ at (fork-tells m pid v) (λ e.
    pick m pid v n EXEC _ _ at (exec-tells m pid v) (λ e.
    pick m pid v n WAIT _ _ at (wait-tells m pid v) (λ e.
    pick m pid v n GETPID _ _ at (getpid-tells m pid v) (λ e.
    pick m pid v n KILL _ _ at (kill-tells m pid v) (λ e.
    pick m pid v n SIGACTION _ _ at (sigaction-tells m pid v) (λ e.
    pick m pid v n SIGRETURN _ _ at (sigreturn-tells m pid v) (λ e.
    pick m pid v n OPEN _ _ at (open-tells m pid v) (λ e.
    pick m pid v n CLOSE _ _ at (close-tells m pid v) (λ e.
    pick m pid v n READ _ _ at (read-tells m pid v) (λ e.
    pick m pid v n WRITE _ _ at (write-tells m pid v) (λ e.
    pick m pid v n SEEK _ _ at (seek-tells m pid v) (λ e.
    pick m pid v n DUP _ _ at (dup-tells m pid v) (λ e.
    pick m pid v n PIPE _ _ at (pipe-tells m pid v) (λ e.
    pick m pid v n UNLINK _ _ at (unlink-tells m pid v) (λ e.
    pick m pid v n SHM _ _ at (shm-tells m pid v) (λ e.
    pick m pid v n LISTEN _ _ at (listen-tells m pid v) (λ e.
    pick m pid v n CONNECT _ _ at (connect-tells m pid v) (λ e.
    pick m pid v n ACCEPT _ _ at (accept-tells m pid v) (λ e.
    pick m pid v n DEVICE _ _ at (device-tells m pid v) (λ e.
    pick m pid v n YIELD _ _ at (yield-tells m pid v) (λ e.
    refused-tells m pid v n NO_SUCH_CALL at x refl))))))))))))))))))))))

-- the refusal of a call that there is not; exit is
pub request-tells : (m : Machine) (pid : ℕ) (v : View) → At m pid v (call_number v.body.cpu) → RequestTells m pid v (call_number v.body.cpu) (request m pid v)
request-tells m pid v at = by_test (is_built (call_number v.body.cpu)) refl
  where
    not_exit : (b : Bool) → (call_number v.body.cpu == EXIT) ≡ b → is_built (call_number v.body.cpu) ≡ false → b ≡ false
    not_exit true e h =
        let built : true ≡ false = subst (λ (n : ℕ). is_built n ≡ false) (eqb-true (call_number v.body.cpu) EXIT e) h in
        built
    not_exit false e h = refl

    by_test : (b : Bool) → is_built (call_number v.body.cpu) ≡ b → RequestTells m pid v (call_number v.body.cpu) (if b then row (call_number v.body.cpu) m pid v else refused NO_SUCH_CALL m.kernel)
    by_test true h = row-tells m pid v (call_number v.body.cpu) at
    by_test false h = refused-tells m pid v (call_number v.body.cpu) NO_SUCH_CALL at (not_exit (call_number v.body.cpu == EXIT) refl h) refl
