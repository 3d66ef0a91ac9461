-- Each way in which the kernel opens, holds and closes is a quiet change.
use Rattle.std.proofs.lemmas.Grind.{common_steps}
use Rattle.std.proofs.Common.{eq-eqb, ◌≡◌, ℕ, zero, suc, ◌+◌, ◌-◌, List, [], ◌∷◌, length, bytes_eq, refl, ap, ◌∙◌, subst, Option, Some, None, IfSome, Bool, true, false, ◌==◌, cond, if◌then◌else◌, ◌||◌, arith, option_map, option_and_then, is_some, slice_set, nat_lt, length-set, eqb-true}
use Rattle.std.proofs.lemmas.Bool.Decides.{nat_tests}
use Rattle.parts_model.specs.declared.open.Conn.{Conn}
use Rattle.parts_model.specs.declared.open.Description.{Description}
use Rattle.parts_model.specs.declared.open.Description.TheVariants.{File, Reader, Writer, Connection, Listener}
use Rattle.parts_model.specs.declared.tagged.TaggedByte.{TaggedByte}
use Rattle.parts_model.specs.Files as files
use Rattle.parts_model.specs.Files.{Files, file_bytes}
use Rattle.parts_model.specs.Numbered.{nth, with_nth_from_one}
use Rattle.parts_model.specs.Pipes as pipes
use Rattle.parts_model.specs.Pipes.{Pipe, End, ReadEnd, WriteEnd}
use Rattle.parts_model.specs.Ports.{Port, port_at}
use Rattle.parts_model.specs.Processes as table
use Rattle.parts_model.specs.Processes.{Process, Processes, process, lowest_free}
use Rattle.arn_model.specs.Kernel.{Kernel, Opened, Handling, placed, with_new, opens, with_count, also_held, all_also_held, without_end, without_side, without_servers, without_port, closed, less_held, dropped, all_dropped, closes, with_what, with_description, with_handling, handling_of}
use Rattle.arn_model.specs.Sound.{FitsFiles, IsSound}
use Rattle.arn_model.specs.Tells.{at_position}
use Rattle.arn_model.proofs.Numbers.{suc-test, nth-change, nth-set, nth-push}
use Rattle.arn_model.proofs.Quiet.{Less, less-same, FileSame, file-same, Quiet, quiet-refl, quiet-trans, FilesQuiet, quiet-files, pipe_byte, quiet-pipe, quiet-table, quiet-descriptions, quiet-handling, quiet-ports}

-- one process changes
pub process-change : (f : Option Process → Option Process) → f None ≡ None → (all : Processes) (pid q : ℕ) → process (table.with_process all pid (f (process all pid))) q ≡ cond (q == pid) (f (process all q)) (process all q)
process-change f h1 all pid q = grind (arith, nat_tests, eqb-true, nth-change, suc-test)

pub length-with_process : (all : Processes) (pid : ℕ) (p : Option Process) → length (table.with_process all pid p) ≡ length all
length-with_process all zero p = refl
length-with_process all (suc i) p = length-set all i p

-- what tells of a process whether it lives, and its status
abbrev pub status_in : Option Process → Option TaggedByte
status_in o = option_and_then (λ p. table.status_in p.life) o

abbrev pub lives_in : Option Process → Bool
lives_in o = is_some (option_and_then (λ p. if table.is_live p then Some p else None) o)

-- a change that leaves life
pub quiet-process : (k : Kernel) (pid : ℕ) (change : Process → Process) → ((p : Process) → (change p).life ≡ p.life) → Quiet k (record k { processes = table.with_change k.processes pid change })
quiet-process k pid change same =
    quiet-table k (table.with_change k.processes pid change) (record { bytes = bytes; lives = living; grows = let e = length-with_process k.processes pid (option_map change (process k.processes pid)) in omega arith; few = let e = length-with_process k.processes pid (option_map change (process k.processes pid)) in omega arith })
  where
    status : (b : Bool) (o : Option Process) → status_in (cond b (option_map change o) o) ≡ status_in o
    status b o = grind (arith, nat_tests)

    bool : (b : Bool) (p q : Process) → is_some (if b then Some p else None) ≡ is_some (if b then Some q else None)
    bool b p q = grind (arith, nat_tests)

    life : (b : Bool) (o : Option Process) → lives_in (cond b (option_map change o) o) ≡ lives_in o
    life b o = grind (arith, nat_tests, bool)

    bytes : (q : ℕ) → Less (table.status_of (table.with_change k.processes pid change) q) (table.status_of k.processes q)
    bytes q = less-same (table.status_of (table.with_change k.processes pid change) q) (table.status_of k.processes q)
        (ap status_in (process-change (option_map change) refl k.processes pid q) ∙ status (q == pid) (process k.processes q))

    living : (q : ℕ) → is_some (table.live_process (table.with_change k.processes pid change) q) ≡ is_some (table.live_process k.processes q)
    living q = ap lives_in (process-change (option_map change) refl k.processes pid q) ∙ life (q == pid) (process k.processes q)

pub quiet-placed : (pid n : ℕ) (k : Kernel) → Quiet k (placed pid n k)
quiet-placed pid n k = quiet-process k pid (table.placed n) (λ p. at (lowest_free p) p)
  where
    at : (o : Option ℕ) (p : Process) → (table.placed_at o n p).life ≡ p.life
    at o p = grind (arith, nat_tests)

-- descriptions
fits-none : (files : Files) (b : Bool) (x y : Option Opened) → IfSome x (λ o. FitsFiles files o.what) → IfSome y (λ o. FitsFiles files o.what) → IfSome (cond b x y) (λ o. FitsFiles files o.what)
fits-none files true x y h k = h
fits-none files false x y h k = k

pub quiet-new : (what : Description) (k : Kernel) → (IsSound k → FitsFiles k.files what) → Quiet k (with_new what k)
quiet-new what k h1 = grind (arith, nat_tests, fits-none, nth-push, quiet-descriptions)

pub quiet-opens : (pid : ℕ) (what : Description) (k : Kernel) → (IsSound k → FitsFiles k.files what) → Quiet k (opens pid what k)
quiet-opens pid what k h = quiet-trans k (with_new what k) (opens pid what k) (quiet-new what k h) (quiet-placed pid (length k.descriptions) (with_new what k))

-- a change of one description
pub quiet-described : (k : Kernel) (n : ℕ) (f : Option Opened → Option Opened) → f None ≡ None → (IsSound k → (o : Option Opened) → nth k.descriptions n ≡ o → IfSome o (λ o. FitsFiles k.files o.what) → IfSome (f o) (λ o. FitsFiles k.files o.what)) → Quiet k (record k { descriptions = slice_set k.descriptions n (f (nth k.descriptions n)) })
quiet-described k n f h1 h2 = grind (arith, common_steps, nat_tests, quiet-descriptions, nth-change, eqb-true)

pub quiet-also_held : (n : ℕ) (k : Kernel) → Quiet k (also_held n k)
quiet-also_held n k = quiet-described k n (option_map (with_count (λ c. c + 1))) refl (λ s o e h. each o h)
  where
    each : (o : Option Opened) → IfSome o (λ o. FitsFiles k.files o.what) → IfSome (option_map (with_count (λ c. c + 1)) o) (λ o. FitsFiles k.files o.what)
    each o h1 = grind (arith, nat_tests)

pub quiet-all_also_held : (ns : List (Option ℕ)) (k : Kernel) → Quiet k (all_also_held ns k)
quiet-all_also_held [] k = quiet-refl k
quiet-all_also_held (None ∷ ns) k = quiet-all_also_held ns k
quiet-all_also_held (Some n ∷ ns) k = quiet-trans k (also_held n k) (all_also_held ns (also_held n k)) (quiet-also_held n k) (quiet-all_also_held ns (also_held n k))

pub quiet-with_description : (n : ℕ) (what : Description) (k : Kernel) → (IsSound k → (o : Opened) → nth k.descriptions n ≡ Some o → FitsFiles k.files what) → Quiet k (with_description n what k)
quiet-with_description n what k fits = quiet-described k n (option_map (with_what what)) refl each
  where
    each : IsSound k → (o : Option Opened) → nth k.descriptions n ≡ o → IfSome o (λ o. FitsFiles k.files o.what) → IfSome (option_map (with_what what) o) (λ o. FitsFiles k.files o.what)
    each h1 o h2 h3 = grind (arith, nat_tests)

-- ends of pipes
pub quiet-without_end : (pipe : ℕ) (end : End) (k : Kernel) → Quiet k (without_end pipe end k)
quiet-without_end pipe end k = quiet-pipe k pipe (option_and_then (pipes.without_end end)) refl each
  where
    open_less : (b : Bool) (p : Pipe) (n : ℕ) → Less (pipe_byte (if b then Some p else None) n) (at_position p.channel n)
    open_less b p n = grind (arith, nat_tests)

    by_end : (end : End) (p : Pipe) (n : ℕ) → Less (pipe_byte (pipes.without_end end p) n) (at_position p.channel n)
    by_end end p n = grind (arith, nat_tests, open_less)

    each : (o : Option Pipe) (n : ℕ) → Less (pipe_byte (option_and_then (pipes.without_end end) o) n) (pipe_byte o n)
    each o n = grind (arith, nat_tests, by_end)

pub quiet-without_side : (reads writes : ℕ) (k : Kernel) → Quiet k (without_side reads writes k)
quiet-without_side reads writes k =
    quiet-trans k (without_end reads ReadEnd k) (without_side reads writes k) (quiet-without_end reads ReadEnd k) (quiet-without_end writes WriteEnd (without_end reads ReadEnd k))

pub quiet-without_servers : (conns : List Conn) (k : Kernel) → Quiet k (without_servers conns k)
quiet-without_servers [] k = quiet-refl k
quiet-without_servers (conn ∷ conns) k =
    quiet-trans k (without_side conn.to_server conn.to_client k) (without_servers conns (without_side conn.to_server conn.to_client k)) (quiet-without_side conn.to_server conn.to_client k)
    (quiet-without_servers conns (without_side conn.to_server conn.to_client k))

pub quiet-without_port : (number : ℕ) (p : Option Port) (k : Kernel) → Quiet k (without_port number p k)
quiet-without_port number p k = grind (arith, nat_tests, quiet-ports, quiet-refl, quiet-trans, quiet-without_servers)

-- how files are held
pub among-named : (names : List files.Name) (path : List ℕ) (file : ℕ) → files.file_among names path ≡ Some file → files.has_name names file ≡ true
among-named [] path file found = absurd (cc)
among-named (n ∷ names) path file found = by_test (bytes_eq n.path path) found (among-named names path file)
  where
    or-true : (b : Bool) → (b || true) ≡ true
    or-true b = grind (arith, nat_tests)

    by_test : (b : Bool) → cond b (Some n.file) (files.file_among names path) ≡ Some file → (files.file_among names path ≡ Some file → files.has_name names file ≡ true) → files.has_name (n ∷ names) file ≡ true
    by_test b h1 h2 = grind (arith, nat_tests, eq-eqb, or-true)

pub reached-quiet : (fs : Files) (file : ℕ) (o p : Option files.File) → nth fs.all file ≡ o → FileSame (option_map (λ f. f.bytes) o) (option_map (λ f. f.bytes) p)
    → ((path : List ℕ) → files.file_among fs.names path ≡ Some file → is_some (option_map (λ f. f.bytes) o) ≡ true → is_some (option_map (λ f. f.bytes) p) ≡ true) → FilesQuiet fs (files.with_file fs file p)
reached-quiet fs file o p h1 h2 h3 = grind (arith, common_steps, nat_tests, length-set, nth-set, eqb-true, file-same)

pub files-same : (fs : Files) → FilesQuiet fs fs
files-same fs = record { named = λ path file found some. some; names = refl; made = refl; files = λ file. file-same (file_bytes fs file) (file_bytes fs file) refl }

pub held-quiet : (fs : Files) (file : ℕ) → FilesQuiet fs (files.held fs file)
held-quiet fs file = grind (arith, common_steps, nat_tests, files-same, reached-quiet)

abbrev pub with_holders : (ℕ → ℕ) → files.File → files.File
with_holders holders f = record f { holders = holders f.holders }

pub reached-same : (fs : Files) (file : ℕ) (o : Option files.File) (holders : ℕ → ℕ) → nth fs.all file ≡ o → FilesQuiet fs (files.reached_again fs file (option_map (with_holders holders) o))
reached-same fs file None holders e = files-same fs
reached-same fs file (Some f) holders e =
    reached-quiet fs file (Some f) (files.if_reached fs.names file (record f { holders = holders f.holders })) e
    (by_test (files.has_name fs.names file || nat_lt 0 (holders f.holders)))
    (λ path found some. by_name (files.has_name fs.names file) (among-named fs.names path file found))
  where
    by_name : (b : Bool) → b ≡ true → is_some (option_map (λ f. f.bytes) (if b || nat_lt 0 (holders f.holders) then Some (record f { holders = holders f.holders }) else None)) ≡ true
    by_name b h1 = grind (arith, nat_tests)

    by_test : (b : Bool) → FileSame (Some f.bytes) (option_map (λ f. f.bytes) (if b then Some (record f { holders = holders f.holders }) else None))
    by_test b = grind (arith, nat_tests)

pub quiet-released : (k : Kernel) (file : ℕ) → Quiet k (record k { files = files.released k.files file })
quiet-released k file = quiet-files k (files.released k.files file) (reached-same k.files file (nth k.files.all file) (λ h. h - 1) refl)

-- closing
pub quiet-closed : (what : Description) (k : Kernel) → Quiet k (closed what k)
quiet-closed (File file position) k = quiet-released k file
quiet-closed (Reader pipe) k = quiet-without_end pipe ReadEnd k
quiet-closed (Writer pipe) k = quiet-without_end pipe WriteEnd k
quiet-closed (Connection reads writes) k = quiet-without_side reads writes k
quiet-closed (Listener port) k = quiet-without_port port (port_at k.ports port) k
quiet-closed _ k = quiet-refl k

-- a description that is there with another count, or none in its place
quiet-in_place : (n : ℕ) (k : Kernel) (p : Option Opened) → (IsSound k → IfSome p (λ o. FitsFiles k.files o.what)) → Quiet k (record k { descriptions = slice_set k.descriptions n p })
quiet-in_place n k p h1 = grind (arith, common_steps, nat_tests, quiet-descriptions, nth-set, fits-none)

pub quiet-less_held : (n : ℕ) (o : Option Opened) (k : Kernel) → nth k.descriptions n ≡ o → Quiet k (less_held n o k)
quiet-less_held n None k e = quiet-refl k
quiet-less_held n (Some o) k e = by_test (nat_lt 1 o.descriptors)
  where
    fits : IsSound k → FitsFiles k.files o.what
    fits s = subst (λ (x : Option Opened). IfSome x (λ o. FitsFiles k.files o.what)) e (s.fits n)

    by_test : (b : Bool) → Quiet k (if b then record k { descriptions = slice_set k.descriptions n (Some (with_count (λ c. c - 1) o)) } else closed o.what (record k { descriptions = slice_set k.descriptions n None }))
    by_test true = quiet-in_place n k (Some (with_count (λ c. c - 1) o)) fits
    by_test false =
        let k' = record k { descriptions = slice_set k.descriptions n None } in
        quiet-trans k k' (closed o.what k') (quiet-in_place n k None (λ s. tt)) (quiet-closed o.what k')

pub quiet-dropped : (n : ℕ) (k : Kernel) → Quiet k (dropped n k)
quiet-dropped n k = quiet-less_held n (nth k.descriptions n) k refl

pub quiet-all_dropped : (ns : List (Option ℕ)) (k : Kernel) → Quiet k (all_dropped ns k)
quiet-all_dropped [] k = quiet-refl k
quiet-all_dropped (None ∷ ns) k = quiet-all_dropped ns k
quiet-all_dropped (Some n ∷ ns) k = quiet-trans k (dropped n k) (all_dropped ns (dropped n k)) (quiet-dropped n k) (quiet-all_dropped ns (dropped n k))

pub quiet-closes : (pid fd n : ℕ) (k : Kernel) → Quiet k (closes pid fd n k)
quiet-closes pid fd n k =
    let k' = record k { processes = table.with_change k.processes pid (table.with_descriptor fd None) } in
    quiet-trans k k' (closes pid fd n k) (quiet-process k pid (table.with_descriptor fd None) (λ p. refl)) (quiet-dropped n k')

pub quiet-with_handling : (pid : ℕ) (change : Handling → Handling) (k : Kernel) → Quiet k (with_handling pid change k)
quiet-with_handling pid change k = quiet-handling k (with_nth_from_one k.handling pid (option_map change (handling_of k pid)))
