-- What a call of a number comes to, and which calls are always ready.
use Rattle.std.proofs.Common.{◌≡◌, ◌≢◌, ℕ, ◌^◌, ◌==◌, Bool, true, false, cond, ◌||◌, ◌&&◌, List, [], ◌∷◌, Option, None, Some, refl, sym, ap, ap₂, ◌∙◌, subst, ne_eqb, true≢false}
use Rattle.std.specs.Prelude.{if◌then◌else◌, is_none, is_some, nat_lt, not}
use Rattle.std.specs.List.{list_any}
use Rattle.std.proofs.lemmas.Bool.{eqb-true}
use Rattle.parts_model.specs.declared.open.Description.{Description}
use Rattle.parts_model.specs.declared.open.Description.TheVariants as description
use Rattle.parts_model.specs.declared.refusals.TheConstants.{BAD_ADDRESS, BAD_ARGUMENT, CONNECTION_REFUSED, NAME_TAKEN, NO_DESCRIPTOR_ROOM, NO_PROCESS, NO_PROCESS_ROOM, NO_ROOM, NO_SUCH_CALL, NOT_IMAGE, PORT_IN_USE}
use Rattle.parts_model.specs.declared.limits.TheConstants.{GREATEST_PORT, MOST_BLOCK_BYTES}
use Rattle.parts_model.specs.declared.tagged.TaggedByte.{TaggedByte}
use Rattle.parts_model.specs.Image.{is_image}
use Rattle.parts_model.specs.Pipes.{free_pipes}
use Rattle.parts_model.specs.Ports as ports
use Rattle.parts_model.specs.Ports.{can_connect, is_in_use}
use Rattle.parts_model.specs.Signals.{can_set, is_signal}
use Rattle.parts_model.specs.Tagged.{values}
use Rattle.parts_model.specs.Processes as table
use Rattle.parts_model.specs.Files.{find_file, file_bytes, is_full, made, next_file}
use Rattle.acts_model.specs.Bodies.{View}
use Rattle.acts_model.specs.Views.{argument, call_number, can_reach}
use Rattle.rv64_model.specs.Instruction.{Effect, Next, Call, End}
use Rattle.arn_model.specs.ChannelCalls.{accept_row, connect_row, device_asked, device_row, listen_row, pipe_row}
use Rattle.arn_model.specs.Doing.{Request, Does, Asks, Here, Question, Refusal, refuse, refused, returns, unless_refused}
use Rattle.arn_model.specs.FileCalls.{close_opened, close_row, dup_opened, dup_row, file_len, has_no_room, open_found, open_new, open_row, opened_as, seek_in, seek_opened, seek_row, seek_what, unlink_found, unlink_row}
use Rattle.arn_model.specs.Kernel.{Kernel, Machine, also_held, description_of, next_descriptor, placed, room_for, what_is, with_description}
use Rattle.arn_model.specs.Paths.{isnt_path_len, path_of}
use Rattle.arn_model.specs.ProcessCalls.{exec_bytes, exec_doing, exec_file, exec_row, exit_row, fork_row, getpid_row, wait_row, yield_row}
use Rattle.arn_model.specs.Row.{row, built_calls, is_built, request, is_waiting}
use Rattle.arn_model.specs.SignalCalls.{kill_row, shm_row, sigaction_row, sigreturn_row}
use Rattle.arn_model.specs.Step.{waits_at}
use Rattle.arn_model.specs.TransferCalls.{absent, read_row, unless_unplugged, was_unplugged, write_row}
use Rattle.guest_requests.specs.Calls.{ComeToRows, OthersAreReady}
use Rattle.guest_requests.specs.Standing.{can_wait, is_call}

-- P holds of each element
abbrev Each : (ℕ → Type 0) → List ℕ → Type 0
Each P [] = Unit {0}
Each P (x ∷ xs) = P x × Each P xs

-- a number of a list is one of which each fact of the list holds
any-of : (P : ℕ → Type 0) (ns : List ℕ) → Each P ns → (n : ℕ) → list_any (λ b. b == n) ns ≡ true → P n
any-of P [] all n is = cc
any-of P (x ∷ xs) all n is = by (x == n) refl is (any-of P xs all.1 n)
  where
    by : (b : Bool) → (x == n) ≡ b → (b || list_any (λ y. y == n) xs) ≡ true → (list_any (λ y. y == n) xs ≡ true → P n) → P n
    by true e h later = subst P (eqb-true x n e) all.0
    by false e h later = later h

-- the numbers of calls that are always ready
pub ready-number : (n : ℕ) → n ≢ 11 → n ≢ 12 → n ≢ 4 → n ≢ 20 → can_wait n ≡ false
ready-number n a b c d =
    ap₂ (λ (x y : Bool). x || y) (ap₂ (λ (x y : Bool). x || y) (ap₂ (λ (x y : Bool). x || y) (ne_eqb n 11 a) (ne_eqb n 12 b)) (ne_eqb n 4 c)) (ne_eqb n 20 d)

-- a choice of calls that are ready is ready
if-ready : (b : Bool) (x y : Request) → is_waiting x ≡ false → is_waiting y ≡ false → is_waiting (cond b x y) ≡ false
if-ready true x y isx isy = isx
if-ready false x y isx isy = isy

unless-ready : (k : Kernel) (refusals : List Refusal) (goes_on : Request) → is_waiting goes_on ≡ false → is_waiting (unless_refused k refusals goes_on) ≡ false
unless-ready k [] goes_on is = is
unless-ready k (r ∷ refusals) goes_on is = if-ready r.applies (refused r.number k) (unless_refused k refusals goes_on) refl (unless-ready k refusals goes_on is)

module _ (m : Machine) (pid : ℕ) where
  found-ready : (path : List ℕ) (file : Option ℕ) → is_waiting (open_found m pid path file) ≡ false
  found-ready path None = refl
  found-ready path (Some file) = unless-ready m.kernel (refuse NO_DESCRIPTOR_ROOM (has_no_room m.kernel pid) ∷ []) (opened_as m pid path file m.kernel) refl

  unlink_found-ready : (path : List ℕ) (file : Option ℕ) → is_waiting (unlink_found m path file) ≡ false
  unlink_found-ready path None = refl
  unlink_found-ready path (Some file) = refl

  seek_in-ready : (n position : ℕ) (what : Description) → is_waiting (seek_in m n position what) ≡ false
  seek_in-ready n position (description.File file old) =
      unless-ready m.kernel (refuse BAD_ARGUMENT (nat_lt (file_len m.kernel file) position) ∷ []) (returns position (with_description n (description.File file position) m.kernel)) refl
  seek_in-ready n position description.Console = refl
  seek_in-ready n position (description.Reader pipe) = refl
  seek_in-ready n position (description.Writer pipe) = refl
  seek_in-ready n position (description.Connection reads writes) = refl
  seek_in-ready n position (description.Listener port) = refl
  seek_in-ready n position (description.Device device) = refl

  seek_what-ready : (n position : ℕ) (what : Option Description) → is_waiting (seek_what m n position what) ≡ false
  seek_what-ready n position None = refl
  seek_what-ready n position (Some what) = seek_in-ready n position what

  seek-ready : (position : ℕ) (found : Option ℕ) → is_waiting (seek_opened m position found) ≡ false
  seek-ready position None = refl
  seek-ready position (Some n) = seek_what-ready n position (what_is m.kernel n)

  close-ready : (fd : ℕ) (found : Option ℕ) → is_waiting (close_opened m pid fd found) ≡ false
  close-ready fd None = refl
  close-ready fd (Some n) = refl

  dup-ready : (found : Option ℕ) → is_waiting (dup_opened m pid found) ≡ false
  dup-ready None = refl
  dup-ready (Some n) = unless-ready m.kernel (refuse NO_DESCRIPTOR_ROOM (has_no_room m.kernel pid) ∷ []) (returns (next_descriptor m.kernel pid) (placed pid n (also_held n m.kernel))) refl

  new-ready : (path : List ℕ) → is_waiting (open_new m pid path) ≡ false
  new-ready path =
      unless-ready m.kernel (refuse NAME_TAKEN (is_some (find_file m.kernel.files path)) ∷ refuse NO_DESCRIPTOR_ROOM (has_no_room m.kernel pid) ∷ refuse NO_ROOM (is_full m.kernel.files) ∷ [])
      (opened_as m pid path (next_file m.kernel.files) (record m.kernel { files = made m.kernel.files path [] })) refl

  -- a call with a path
  path-ready : (v : View) (at len : ℕ) (bad : Bool) (goes_on : Request) → is_waiting goes_on ≡ false → is_waiting (unless_refused m.kernel (refuse BAD_ARGUMENT bad ∷ refuse BAD_ADDRESS (not (can_reach v at len)) ∷ []) goes_on) ≡ false
  path-ready v at len bad goes_on is = unless-ready m.kernel (refuse BAD_ARGUMENT bad ∷ refuse BAD_ADDRESS (not (can_reach v at len)) ∷ []) goes_on is

  exec_bytes-ready : (v : View) (file : ℕ) (held : Option (List TaggedByte)) → is_waiting (exec_bytes m pid v file held) ≡ false
  exec_bytes-ready v file None = refl
  exec_bytes-ready v file (Some held) = if-ready (is_image (values held)) (Does (exec_doing m pid v file held)) (refused NOT_IMAGE m.kernel) refl refl

  exec_file-ready : (v : View) (file : Option ℕ) → is_waiting (exec_file m pid v file) ≡ false
  exec_file-ready v None = refl
  exec_file-ready v (Some file) = exec_bytes-ready v file (file_bytes m.kernel.files file)

module _ (m : Machine) (pid : ℕ) (v : View) where
  fork-ready : is_waiting (fork_row m pid v) ≡ false
  fork-ready = unless-ready m.kernel (refuse NO_PROCESS_ROOM (table.is_full m.kernel.processes) ∷ []) _ refl

  exec-ready : is_waiting (exec_row m pid v) ≡ false
  exec-ready =
      let at : ℕ = argument v.body.cpu 0 in
      let len : ℕ = argument v.body.cpu 1 in
      let block : ℕ = argument v.body.cpu 2 in
      let block_len : ℕ = argument v.body.cpu 3 in
      unless-ready m.kernel
      (refuse BAD_ARGUMENT (isnt_path_len len || nat_lt MOST_BLOCK_BYTES block_len) ∷ refuse BAD_ADDRESS (not (can_reach v at len)) ∷ refuse BAD_ADDRESS (nat_lt 0 block_len && not (can_reach v block block_len)) ∷ [])
      (exec_file m pid v (find_file m.kernel.files (path_of v at len))) (exec_file-ready m pid v (find_file m.kernel.files (path_of v at len)))

  open-ready : is_waiting (open_row m pid v) ≡ false
  open-ready =
      let at : ℕ = argument v.body.cpu 0 in
      let len : ℕ = argument v.body.cpu 1 in
      let mode : ℕ = argument v.body.cpu 2 in
      let path : List ℕ = path_of v at len in
      path-ready m pid v at len (isnt_path_len len || nat_lt 1 mode) (cond (mode == 0) (open_found m pid path (find_file m.kernel.files path)) (open_new m pid path))
      (if-ready (mode == 0) (open_found m pid path (find_file m.kernel.files path)) (open_new m pid path)
      (found-ready m pid path (find_file m.kernel.files path)) (new-ready m pid path))

  unlink-ready : is_waiting (unlink_row m pid v) ≡ false
  unlink-ready =
      let at : ℕ = argument v.body.cpu 0 in
      let len : ℕ = argument v.body.cpu 1 in
      let path : List ℕ = path_of v at len in
      path-ready m pid v at len (isnt_path_len len) (unlink_found m path (find_file m.kernel.files path)) (unlink_found-ready m pid path (find_file m.kernel.files path))

  pipe-ready : is_waiting (pipe_row m pid v) ≡ false
  pipe-ready = unless-ready m.kernel (refuse NO_DESCRIPTOR_ROOM (nat_lt (room_for m.kernel pid) 2) ∷ refuse NO_ROOM (free_pipes m.kernel.pipes == 0) ∷ []) _ refl

  listen-ready : is_waiting (listen_row m pid v) ≡ false
  listen-ready =
      let port : ℕ = argument v.body.cpu 0 in
      unless-ready m.kernel
      (refuse BAD_ARGUMENT (nat_lt GREATEST_PORT port) ∷ refuse PORT_IN_USE (is_in_use m.kernel.ports port) ∷ refuse NO_DESCRIPTOR_ROOM (has_no_room m.kernel pid) ∷ refuse NO_ROOM (ports.is_full m.kernel.ports) ∷ [])
      _ refl

  connect-ready : is_waiting (connect_row m pid v) ≡ false
  connect-ready =
      let port : ℕ = argument v.body.cpu 0 in
      unless-ready m.kernel (refuse CONNECTION_REFUSED (not (can_connect m.kernel.ports port)) ∷ refuse NO_DESCRIPTOR_ROOM (has_no_room m.kernel pid) ∷ refuse NO_ROOM (nat_lt (free_pipes m.kernel.pipes) 2) ∷ []) _ refl

  unplugged-ready : (device : ℕ) (question : Question) → is_waiting (unless_unplugged m device question) ≡ false
  unplugged-ready device question = if-ready (was_unplugged m.kernel device) (Does (absent m.kernel)) (Asks question) refl refl

  asked-ready : (device : ℕ) → is_waiting (device_asked m device) ≡ false
  asked-ready device = if-ready (nat_lt device (2 ^ 32)) (unless_unplugged m device (Here device)) (Does (absent m.kernel)) (unplugged-ready device (Here device)) refl

  device-ready : is_waiting (device_row m pid v) ≡ false
  device-ready = unless-ready m.kernel (refuse NO_DESCRIPTOR_ROOM (has_no_room m.kernel pid) ∷ []) (device_asked m (argument v.body.cpu 0)) (asked-ready (argument v.body.cpu 0))

  kill-ready : is_waiting (kill_row m pid v) ≡ false
  kill-ready =
      let target : ℕ = argument v.body.cpu 0 in
      let signal : ℕ = argument v.body.cpu 1 in
      unless-ready m.kernel (refuse BAD_ARGUMENT (not (is_signal signal)) ∷ refuse NO_PROCESS (is_none (table.live_process m.kernel.processes target)) ∷ []) _ refl

  sigaction-ready : is_waiting (sigaction_row m pid v) ≡ false
  sigaction-ready = unless-ready m.kernel (refuse BAD_ARGUMENT (not (can_set (argument v.body.cpu 0) (argument v.body.cpu 1))) ∷ []) _ refl

  sigreturn-ready : is_waiting (sigreturn_row m pid v) ≡ false
  sigreturn-ready = unless-ready m.kernel (refuse BAD_ARGUMENT (is_none v.body.slot) ∷ []) _ refl

  shm-ready : is_waiting (shm_row m pid v) ≡ false
  shm-ready = unless-ready m.kernel (refuse BAD_ARGUMENT (is_some v.body.segment) ∷ []) _ refl

  pub row-exit : row 1 m pid v ≡ exit_row m pid v
  unfolding row
  row-exit = refl

  pub row-fork : row 2 m pid v ≡ fork_row m pid v
  unfolding row
  row-fork = refl

  pub row-exec : row 3 m pid v ≡ exec_row m pid v
  unfolding row
  row-exec = refl

  pub row-wait : row 4 m pid v ≡ wait_row m pid v
  unfolding row
  row-wait = refl

  pub row-getpid : row 5 m pid v ≡ getpid_row m pid v
  unfolding row
  row-getpid = refl

  pub row-kill : row 6 m pid v ≡ kill_row m pid v
  unfolding row
  row-kill = refl

  pub row-sigaction : row 7 m pid v ≡ sigaction_row m pid v
  unfolding row
  row-sigaction = refl

  pub row-sigreturn : row 8 m pid v ≡ sigreturn_row m pid v
  unfolding row
  row-sigreturn = refl

  pub row-open : row 9 m pid v ≡ open_row m pid v
  unfolding row
  row-open = refl

  pub row-close : row 10 m pid v ≡ close_row m pid v
  unfolding row
  row-close = refl

  pub row-read : row 11 m pid v ≡ read_row m pid v
  unfolding row
  row-read = refl

  pub row-write : row 12 m pid v ≡ write_row m pid v
  unfolding row
  row-write = refl

  pub row-seek : row 13 m pid v ≡ seek_row m pid v
  unfolding row
  row-seek = refl

  pub row-dup : row 14 m pid v ≡ dup_row m pid v
  unfolding row
  row-dup = refl

  pub row-pipe : row 15 m pid v ≡ pipe_row m pid v
  unfolding row
  row-pipe = refl

  pub row-unlink : row 16 m pid v ≡ unlink_row m pid v
  unfolding row
  row-unlink = refl

  pub row-shm : row 17 m pid v ≡ shm_row m pid v
  unfolding row
  row-shm = refl

  pub row-listen : row 18 m pid v ≡ listen_row m pid v
  unfolding row
  row-listen = refl

  pub row-connect : row 19 m pid v ≡ connect_row m pid v
  unfolding row
  row-connect = refl

  pub row-accept : row 20 m pid v ≡ accept_row m pid v
  unfolding row
  row-accept = refl

  pub row-device : row 21 m pid v ≡ device_row m pid v
  unfolding row
  row-device = refl

  pub row-yield : row 22 m pid v ≡ yield_row m pid v
  unfolding row
  row-yield = refl

  -- the calls of this number, if they are always ready
  abbrev IsReady : ℕ → Type 0
  IsReady n = can_wait n ≡ false → is_waiting (row n m pid v) ≡ false

  -- each call that there is
  each-ready : Each IsReady built_calls
  each-ready = (
    λ ready. ap is_waiting row-exit,
    (
      λ ready. ap is_waiting row-fork ∙ fork-ready,
      (
        λ ready. ap is_waiting row-exec ∙ exec-ready,
        (
          λ ready. absurd (true≢false ready),
          (
            λ ready. ap is_waiting row-getpid,
            (
              λ ready. ap is_waiting row-kill ∙ kill-ready,
              (
                λ ready. ap is_waiting row-sigaction ∙ sigaction-ready,
                (
                  λ ready. ap is_waiting row-sigreturn ∙ sigreturn-ready,
                  (
                    λ ready. ap is_waiting row-open ∙ open-ready,
                    (
                      λ ready. ap is_waiting row-close ∙ close-ready m pid (argument v.body.cpu 0) (description_of m.kernel pid (argument v.body.cpu 0)),
                      (
                        λ ready. absurd (true≢false ready),
                        (
                          λ ready. absurd (true≢false ready),
                          (
                            λ ready. ap is_waiting row-seek ∙ seek-ready m pid (argument v.body.cpu 1) (description_of m.kernel pid (argument v.body.cpu 0)),
                            (
                              λ ready. ap is_waiting row-dup ∙ dup-ready m pid (description_of m.kernel pid (argument v.body.cpu 0)),
                              (
                                λ ready. ap is_waiting row-pipe ∙ pipe-ready,
                                (
                                  λ ready. ap is_waiting row-unlink ∙ unlink-ready,
                                  (
                                    λ ready. ap is_waiting row-shm ∙ shm-ready,
                                    (
                                      λ ready. ap is_waiting row-listen ∙ listen-ready,
                                      (
                                        λ ready. ap is_waiting row-connect ∙ connect-ready,
                                        (
                                          λ ready. absurd (true≢false ready),
                                          (
                                            λ ready. ap is_waiting row-device ∙ device-ready,
                                            (
                                              λ ready. ap is_waiting row-yield,
                                              tt,
                                            ),
                                          ),
                                        ),
                                      ),
                                    ),
                                  ),
                                ),
                              ),
                            ),
                          ),
                        ),
                      ),
                    ),
                  ),
                ),
              ),
            ),
          ),
        ),
      ),
    ),
  )

  -- a call that there is comes to its row
  pub request-built : (n : ℕ) (comes : Request) → call_number v.body.cpu ≡ n → is_built n ≡ true → row n m pid v ≡ comes → request m pid v ≡ comes
  request-built n comes is built same =
      ap (λ x. if is_built x then row x m pid v else refused NO_SUCH_CALL m.kernel) is
      ∙ (ap (λ (t : Bool). if t then row n m pid v else refused NO_SUCH_CALL m.kernel) built ∙ same)

  -- another is refused
  pub request-none : (n : ℕ) → call_number v.body.cpu ≡ n → is_built n ≡ false → request m pid v ≡ refused NO_SUCH_CALL m.kernel
  request-none n is unbuilt =
      ap (λ x. if is_built x then row x m pid v else refused NO_SUCH_CALL m.kernel) is
      ∙ ap (λ (t : Bool). if t then row n m pid v else refused NO_SUCH_CALL m.kernel) unbuilt

  pub request-read : call_number v.body.cpu ≡ 11 → request m pid v ≡ read_row m pid v
  request-read is = request-built 11 (read_row m pid v) is refl row-read

  pub request-wait : call_number v.body.cpu ≡ 4 → request m pid v ≡ wait_row m pid v
  request-wait is = request-built 4 (wait_row m pid v) is refl row-wait

  pub request-accept : call_number v.body.cpu ≡ 20 → request m pid v ≡ accept_row m pid v
  request-accept is = request-built 20 (accept_row m pid v) is refl row-accept

  pub request-write : call_number v.body.cpu ≡ 12 → request m pid v ≡ write_row m pid v
  request-write is = request-built 12 (write_row m pid v) is refl row-write

  ready-by : (n : ℕ) (built : Bool) → is_built n ≡ built → call_number v.body.cpu ≡ n → can_wait n ≡ false → is_waiting (request m pid v) ≡ false
  ready-by n true built is ready = ap is_waiting (request-built n (row n m pid v) is built refl) ∙ any-of IsReady built_calls each-ready n built ready
  ready-by n false built is ready = ap is_waiting (request-none n is built)

  -- a call that is always ready is so now
  pub request-ready : (n : ℕ) → call_number v.body.cpu ≡ n → can_wait n ≡ false → is_waiting (request m pid v) ≡ false
  request-ready n is ready = ready-by n (is_built n) refl is ready

-- a process at a call waits where the call does
pub waits-at-call : (m : Machine) (pid : ℕ) (v : View) (e : Effect) (b : Bool) → is_call e ≡ true → b ≡ is_waiting (request m pid v) → b ≡ waits_at m pid v e
waits-at-call m pid v (Next instr cpu memory) b at is = absurd (true≢false (sym at))
waits-at-call m pid v Call b at is = is
waits-at-call m pid v (End status) b at is = absurd (true≢false (sym at))

-- and waits nowhere else
pub waits-not : (m : Machine) (pid : ℕ) (v : View) (e : Effect) → is_call e ≡ false → false ≡ waits_at m pid v e
waits-not m pid v (Next instr cpu memory) isnt = refl
waits-not m pid v Call isnt = absurd (true≢false isnt)
waits-not m pid v (End status) isnt = refl

-- and at no call that is ready
pub waits-ready : (m : Machine) (pid : ℕ) (v : View) (e : Effect) → is_waiting (request m pid v) ≡ false → false ≡ waits_at m pid v e
waits-ready m pid v (Next instr cpu memory) ready = refl
waits-ready m pid v Call ready = sym ready
waits-ready m pid v (End status) ready = refl

-- the table of calls
pub come-to-rows : ComeToRows
come-to-rows =
    record {
      exit = λ m pid v is. request-built m pid v 1 (exit_row m pid v) is refl (row-exit m pid v);
      fork = λ m pid v is. request-built m pid v 2 (fork_row m pid v) is refl (row-fork m pid v);
      exec = λ m pid v is. request-built m pid v 3 (exec_row m pid v) is refl (row-exec m pid v);
      wait = λ m pid v is. request-wait m pid v is;
      getpid = λ m pid v is. request-built m pid v 5 (getpid_row m pid v) is refl (row-getpid m pid v);
      kill = λ m pid v is. request-built m pid v 6 (kill_row m pid v) is refl (row-kill m pid v);
      sigaction = λ m pid v is. request-built m pid v 7 (sigaction_row m pid v) is refl (row-sigaction m pid v);
      sigreturn = λ m pid v is. request-built m pid v 8 (sigreturn_row m pid v) is refl (row-sigreturn m pid v);
      «open» = λ m pid v is. request-built m pid v 9 (open_row m pid v) is refl (row-open m pid v);
      close = λ m pid v is. request-built m pid v 10 (close_row m pid v) is refl (row-close m pid v);
      read = λ m pid v is. request-read m pid v is;
      write = λ m pid v is. request-write m pid v is;
      seek = λ m pid v is. request-built m pid v 13 (seek_row m pid v) is refl (row-seek m pid v);
      dup = λ m pid v is. request-built m pid v 14 (dup_row m pid v) is refl (row-dup m pid v);
      pipe = λ m pid v is. request-built m pid v 15 (pipe_row m pid v) is refl (row-pipe m pid v);
      unlink = λ m pid v is. request-built m pid v 16 (unlink_row m pid v) is refl (row-unlink m pid v);
      shm = λ m pid v is. request-built m pid v 17 (shm_row m pid v) is refl (row-shm m pid v);
      listen = λ m pid v is. request-built m pid v 18 (listen_row m pid v) is refl (row-listen m pid v);
      connect = λ m pid v is. request-built m pid v 19 (connect_row m pid v) is refl (row-connect m pid v);
      accept = λ m pid v is. request-accept m pid v is;
      device = λ m pid v is. request-built m pid v 21 (device_row m pid v) is refl (row-device m pid v);
      yield = λ m pid v is. request-built m pid v 22 (yield_row m pid v) is refl (row-yield m pid v);
    }

pub others-ready : OthersAreReady
others-ready = record { ready = λ m pid v ready. request-ready m pid v (call_number v.body.cpu) refl ready }
