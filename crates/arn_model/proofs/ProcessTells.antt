-- What the calls on processes tell.
use Rattle.std.proofs.Common.{◌≡◌, ℕ, ◌+◌, ◌%◌, ◌<◌, List, [], ◌∷◌, length, refl, ap, ap₂, ◌∙◌, sym, Option, Some, None, Bool, true, false, ◌==◌, ◌&&◌, ◌||◌, not, cond, if◌then◌else◌, arith, nat_lt, option_and_then, is_some, slice_get}
use Rattle.std.proofs.lemmas.Bool.Decides.{nat_tests}
use Rattle.std.proofs.lemmas.Bool.{lt-ltb, or_parts, or_from, not-false, eqb-true}
use Rattle.std.proofs.lemmas.List.{length_push}
use Rattle.arn_base.specs.declared.records.Extra.TheVariants as extra
use Rattle.parts_model.specs.declared.calls.TheConstants.{EXIT, FORK, EXEC, WAIT, GETPID, YIELD}
use Rattle.parts_model.specs.declared.limits.TheConstants.{MOST_BLOCK_BYTES}
use Rattle.parts_model.specs.declared.refusals.TheConstants.{NO_FILE, NOT_IMAGE, NO_CHILD, BAD_ADDRESS, BAD_ARGUMENT}
use Rattle.parts_model.specs.declared.tagged.TaggedByte.{TaggedByte}
use Rattle.parts_model.specs.Files.{find_file, file_bytes}
use Rattle.parts_model.specs.Image.{is_image}
use Rattle.parts_model.specs.Processes as table
use Rattle.parts_model.specs.Processes.{Process, Life, process}
use Rattle.parts_model.specs.Replies.{is_success}
use Rattle.parts_model.specs.Signals.{no_handlers}
use Rattle.parts_model.specs.Tagged.{values, given}
use Rattle.acts_model.specs.Acts.{Receives, Returns, Forks, Founds, Exits}
use Rattle.acts_model.specs.Bodies.{View}
use Rattle.acts_model.specs.Disagreement.{wrong_if, or_else, is_outside, isnt_block}
use Rattle.acts_model.specs.Moved.{Nothing, From, FileByte}
use Rattle.acts_model.specs.Records.{NoName, child_forked, child_life}
use Rattle.acts_model.specs.Views.{argument, can_reach}
use Rattle.arn_model.specs.Doing.{Doing, Does, refuse, refused}
use Rattle.arn_model.specs.Kernel as kernel
use Rattle.arn_model.specs.Kernel.{Kernel, Machine, status_at}
use Rattle.arn_model.specs.Paths.{isnt_path_len, path_of}
use Rattle.arn_model.specs.ProcessCalls.{status_of, exit_row, child_act, child_extra, fork_row, exec_doing, exec_bytes, exec_file, exec_row, wait_status, wait_child, isnt_any, wait_row, getpid_row, yield_row}
use Rattle.arn_model.specs.Tells.{lives, kernel_byte, HasNumbers}
use Rattle.arn_model.proofs.Quiet.{Quiet, quiet-refl, quiet-table}
use Rattle.arn_model.proofs.Closing.{process-change, length-with_process, status_in, lives_in, quiet-with_handling}
use Rattle.arn_model.proofs.Effects.{quiet-tells, ended-tells, forked-tells}
use Rattle.arn_model.proofs.Calling.{DoneCall, At, RequestTells, done-call, done-plain, unless-refused, refused-tells}
use Rattle.arn_model.proofs.FewDescriptors.{also_held-all}

pub exit-tells : (m : Machine) (pid : ℕ) (v : View) → At m pid v EXIT → RequestTells m pid v EXIT (exit_row m pid v)
exit-tells m pid v at =
    let status = argument v.body.cpu 0 % 256 in
    let d : Doing = record { act = Exits; extra = extra.Nothing; incoming = Nothing; outgoing = Some (status_of pid); bytes = status ∷ []; kernel = kernel.ended pid (status_at m.events status) m.kernel } in
    done-call m pid v EXIT d NoName None at
    (λ few. record { told = refl; fine = refl; forks = tt; length = refl; comes = tt; receives = refl; spans = refl; life = refl; name = refl; put = refl })
    (ended-tells pid status m.events m.kernel)

-- a child's number is no error where few processes have been made
child-success : (pid : ℕ) (k : Kernel) → HasNumbers (kernel.forked pid k) → is_success (table.next_process k.processes) ≡ true
child-success pid k h1 = grind (arith, nat_tests, also_held-all, length_push, lt-ltb)

fork-doing : Machine → ℕ → View → Option ℕ → Doing
fork-doing m pid v o = record { act = child_act o (table.next_process m.kernel.processes); extra = child_extra o v; incoming = Nothing; outgoing = None; bytes = []; kernel = kernel.forked pid m.kernel }

fork-done : (m : Machine) (pid : ℕ) (v : View) → At m pid v FORK → (o : Option ℕ) → v.body.segment ≡ o → DoneCall m pid v FORK (fork-doing m pid v o)
unfolding fork-doing
fork-done m pid v at None e =
    let child = table.next_process m.kernel.processes in
    done-call m pid v FORK (fork-doing m pid v None) NoName None at
    (λ few.
    record {
      told = ap (λ (b : Bool). if b then Founds child else Returns child) (child-success pid m.kernel few);
      fine = refl;
      forks = (refl, e, refl);
      length = refl;
      comes = tt;
      receives = refl;
      spans = tt;
      life = ap (λ (b : Bool). child_life (if b then Some (child_forked child (child_extra None v)) else None)) (child-success pid m.kernel few);
      name = refl;
      put = refl;
    })
    (forked-tells pid m.events m.kernel at.alive)
fork-done m pid v at (Some segment) e =
    let child = table.next_process m.kernel.processes in
    done-call m pid v FORK (fork-doing m pid v (Some segment)) NoName None at
    (λ few.
    record {
      told = ap (λ (b : Bool). if b then Forks child else Returns child) (child-success pid m.kernel few);
      fine = refl;
      forks = (refl, (segment, e));
      length = refl;
      comes = tt;
      receives = refl;
      spans = tt;
      life = ap (λ (b : Bool). child_life (if b then Some (child_forked child (child_extra (Some segment) v)) else None)) (child-success pid m.kernel few);
      name = refl;
      put = refl;
    })
    (forked-tells pid m.events m.kernel at.alive)

pub fork-tells : (m : Machine) (pid : ℕ) (v : View) → At m pid v FORK → RequestTells m pid v FORK (fork_row m pid v)
unfolding fork-doing
fork-tells m pid v h1 = grind (arith, nat_tests, fork-doing, fork-done, unless-refused)

exec-fine : (file : List ℕ) (b : Bool) (c : Bool) (len : ℕ) → b ≡ true → c ≡ false → or_else (wrong_if (not b) (length file) 0) (wrong_if c len 0) ≡ None
exec-fine file b c len e f = ap₂ (λ (b c : Bool). or_else (wrong_if (not b) (length file) 0) (wrong_if c len 0)) e f

exec-done : (m : Machine) (pid : ℕ) (v : View) (file : ℕ) (held : List TaggedByte) → At m pid v EXEC → isnt_block v (argument v.body.cpu 2) (argument v.body.cpu 3) ≡ false → file_bytes m.kernel.files file ≡ Some held → is_image (values held) ≡ true → DoneCall m pid v EXEC (exec_doing m pid v file held)
exec-done m pid v file held at block e image =
    done-call m pid v EXEC (exec_doing m pid v file held) NoName None at
    (λ few.
    record {
      told = refl;
      fine = exec-fine (values held) (is_image (values held)) (isnt_block v (argument v.body.cpu 2) (argument v.body.cpu 3)) (argument v.body.cpu 3) image block;
      forks = tt;
      length = refl;
      comes = tt;
      receives = record { held = held; all = refl; received = refl; there = λ n l. there n; told = refl };
      spans = tt;
      life = refl;
      name = refl;
      put = refl;
    })
    (quiet-tells m.kernel m.events (values held) (exec_doing m pid v file held).kernel (quiet-with_handling pid (λ h. record h { handlers = no_handlers }) m.kernel))
  where
    there : (n : ℕ) → kernel_byte m.kernel (FileByte file (0 + n)) ≡ slice_get held n
    there n =
        ap (λ (o : Option (List TaggedByte)). option_and_then (λ bytes. slice_get bytes (0 + n)) o) e
        ∙ ap (λ (i : ℕ). slice_get held i) (let z : 0 + n ≡ n = omega arith in z)

exec-file-tells : (m : Machine) (pid : ℕ) (v : View) → At m pid v EXEC → isnt_block v (argument v.body.cpu 2) (argument v.body.cpu 3) ≡ false → (o : Option ℕ) → RequestTells m pid v EXEC (exec_file m pid v o)
exec-file-tells m pid v at block None = refused-tells m pid v EXEC NO_FILE at refl refl
exec-file-tells m pid v at block (Some file) = by_bytes (file_bytes m.kernel.files file) refl
  where
    by_image : (held : List TaggedByte) → file_bytes m.kernel.files file ≡ Some held → (b : Bool) → is_image (values held) ≡ b → RequestTells m pid v EXEC (if b then Does (exec_doing m pid v file held) else refused NOT_IMAGE m.kernel)
    by_image held e true i = exec-done m pid v file held at block e i
    by_image held e false i = refused-tells m pid v EXEC NOT_IMAGE at refl refl

    by_bytes : (o : Option (List TaggedByte)) → file_bytes m.kernel.files file ≡ o → RequestTells m pid v EXEC (exec_bytes m pid v file o)
    by_bytes o h1 = grind (arith, nat_tests, refused-tells, by_image)

pub exec-tells : (m : Machine) (pid : ℕ) (v : View) → At m pid v EXEC → RequestTells m pid v EXEC (exec_row m pid v)
exec-tells m pid v at =
    let path = argument v.body.cpu 0 in
    let len = argument v.body.cpu 1 in
    let block = argument v.body.cpu 2 in
    let block_len = argument v.body.cpu 3 in
    unless-refused m pid v EXEC
    (refuse BAD_ARGUMENT (isnt_path_len len || nat_lt MOST_BLOCK_BYTES block_len)
    ∷ refuse BAD_ADDRESS (not (can_reach v path len))
    ∷ refuse BAD_ADDRESS (nat_lt 0 block_len && not (can_reach v block block_len))
    ∷ [])
    (exec_file m pid v (find_file m.kernel.files (path_of v path len)))
    at refl refl
    (λ none.
    exec-file-tells m pid v at
    (or_from (nat_lt MOST_BLOCK_BYTES block_len) (is_outside v block block_len) (or_parts (isnt_path_len len) (nat_lt MOST_BLOCK_BYTES block_len) none.0).1 none.1.1.0)
    (find_file m.kernel.files (path_of v path len)))

-- a child that has ended
reaped-quiet : (k : Kernel) (child : ℕ) (status : TaggedByte) → table.status_of k.processes child ≡ Some status → Quiet k (record k { processes = table.reaped k.processes child })
reaped-quiet k child status e =
    quiet-table k (table.reaped k.processes child)
    (record {
      bytes = λ q h x. less (q == child) (process k.processes q) h (ap status_in (sym (change q)) ∙ x);
      lives = λ q. ap lives_in (change q) ∙ by_test q (q == child) refl;
      grows = let g = length-with_process k.processes child None in omega arith;
      few = let g = length-with_process k.processes child None in omega arith;
    })
  where
    change : (q : ℕ) → process (table.reaped k.processes child) q ≡ cond (q == child) None (process k.processes q)
    change q = process-change (λ o. None) refl k.processes child q

    less : (b : Bool) (o : Option Process) (h : TaggedByte) → status_in (cond b None o) ≡ Some h → status_in o ≡ Some h
    less b o h h1 = grind (arith, nat_tests)

    dead_life : (l : Life) (p : Process) → table.status_in l ≡ Some status → false ≡ is_some (if table.is_alive l then Some p else None)
    dead_life l p h1 = grind (arith, nat_tests)

    dead : (o : Option Process) → status_in o ≡ Some status → false ≡ lives_in o
    dead o h1 = grind (arith, nat_tests, dead_life)

    by_test : (q : ℕ) (b : Bool) → (q == child) ≡ b → lives_in (cond b None (process k.processes q)) ≡ lives k q
    by_test q b h1 = grind (arith, nat_tests, dead, eqb-true)

wait-status-tells : (m : Machine) (pid : ℕ) (v : View) (child : ℕ) → At m pid v WAIT → can_reach v (argument v.body.cpu 0) 1 ≡ true → (o : Option TaggedByte) → table.status_of m.kernel.processes child ≡ o → RequestTells m pid v WAIT (wait_status m v child o)
wait-status-tells m pid v child at reach None e = tt
wait-status-tells m pid v child at reach (Some status) e =
    let k = record m.kernel { processes = table.reaped m.kernel.processes child } in
    let d : Doing = record { act = Receives (argument v.body.cpu 0) (status.value ∷ []) child; extra = extra.Give (given (status ∷ [])); incoming = From (status_of child); outgoing = None; bytes = status.value ∷ []; kernel = k } in
    done-call m pid v WAIT d NoName None at
    (λ few.
    record {
      told = refl;
      fine = ap (λ (b : Bool). wrong_if (not b) 1 0) reach;
      forks = tt;
      length = refl;
      comes = tt;
      receives = record { held = status ∷ []; all = refl; received = refl; there = there; told = refl };
      spans = tt;
      life = refl;
      name = refl;
      put = refl;
    })
    (quiet-tells m.kernel m.events (status.value ∷ []) k (reaped-quiet m.kernel child status e))
  where
    there : (n : ℕ) → n < 1 → table.status_of m.kernel.processes child ≡ slice_get (status ∷ []) n
    there n h1 = grind (arith, nat_tests)

wait-child-tells : (m : Machine) (pid : ℕ) (v : View) → At m pid v WAIT → can_reach v (argument v.body.cpu 0) 1 ≡ true → (children : List ℕ) → RequestTells m pid v WAIT (wait_child m v children)
wait-child-tells m pid v at reach [] = tt
wait-child-tells m pid v at reach (child ∷ more) = wait-status-tells m pid v child at reach (table.status_of m.kernel.processes child) refl

pub wait-tells : (m : Machine) (pid : ℕ) (v : View) → At m pid v WAIT → RequestTells m pid v WAIT (wait_row m pid v)
wait-tells m pid v at =
    unless-refused m pid v WAIT
    (refuse NO_CHILD (isnt_any (table.children m.kernel.processes pid)) ∷ refuse BAD_ADDRESS (not (can_reach v (argument v.body.cpu 0) 1)) ∷ [])
    (wait_child m v (table.ended_children m.kernel.processes pid))
    at refl refl
    (λ none. wait-child-tells m pid v at (not-false (can_reach v (argument v.body.cpu 0) 1) none.1.0) (table.ended_children m.kernel.processes pid))

pub getpid-tells : (m : Machine) (pid : ℕ) (v : View) → At m pid v GETPID → RequestTells m pid v GETPID (getpid_row m pid v)
getpid-tells m pid v at = done-plain m pid v GETPID pid extra.Nothing m.kernel at (record { told = refl; length = refl; life = refl; put = refl; gives = refl }) refl (quiet-refl m.kernel)

pub yield-tells : (m : Machine) (pid : ℕ) (v : View) → At m pid v YIELD → RequestTells m pid v YIELD (yield_row m pid v)
yield-tells m pid v at = done-plain m pid v YIELD 0 extra.Nothing m.kernel at (record { told = refl; length = refl; life = refl; put = refl; gives = refl }) refl (quiet-refl m.kernel)
