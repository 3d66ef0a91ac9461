-- No process has more descriptors than it may, whatever the kernel does.
use Rattle.std.proofs.Common.{◌≡◌, ℕ, zero, suc, ◌+◌, ◌-◌, ◌≤◌, ◌++◌, Bool, true, false, ◌||◌, cond, List, [], ◌∷◌, Option, None, Some, is_some, length, map, option_map, option_and_then, slice_set, nat_lt, unwrap_or, refl, sym, subst, ◌∙◌, arith, length-set}
use Rattle.std.proofs.lemmas.Bool.Decides.{nat_tests}
use Rattle.std.proofs.lemmas.List.{length-replicate}
use Rattle.parts_model.specs.declared.limits.TheConstants.{MOST_DESCRIPTORS}
use Rattle.parts_model.specs.declared.open.Conn.{Conn}
use Rattle.parts_model.specs.declared.open.Description.{Description}
use Rattle.parts_model.specs.declared.open.Description.TheVariants.{Console}
use Rattle.parts_model.specs.declared.tagged.TaggedByte.{TaggedByte}
use Rattle.parts_model.specs.Numbered.{nth}
use Rattle.parts_model.specs.Ports.{Port, freed}
use Rattle.parts_model.specs.Processes as table
use Rattle.parts_model.specs.Processes.{Process, Processes, process}
use Rattle.parts_model.specs.Replies.{Answered}
use Rattle.acts_model.specs.Bodies.{View}
use Rattle.acts_model.specs.Views.{call_number}
use Rattle.arn_model.specs.Doing.{Request, Waits, Does, Asks}
use Rattle.arn_model.specs.Kernel.{Kernel, Machine, Opened, placed, with_new, opens, also_held, all_also_held, without_side, without_servers, without_port, closed, less_held, dropped, all_dropped, closes, descriptors_of, with_count, ended, booted, forked, no_handling, next_descriptor}
use Rattle.arn_model.specs.Row.{does, request}
use Rattle.arn_model.specs.Step.{call_step}
use Rattle.arn_model.specs.Turn.{after_first}
use Rattle.arn_model.proofs.FineRequests.{Keeps, Fine, request-Fine, answered-Kept}

FewIn : Option Process → Type 0
FewIn None = Unit {0}
FewIn (Some p) = length p.descriptors ≤ MOST_DESCRIPTORS

pub Few : Processes → Type 0
Few [] = Unit {0}
Few (o ∷ all) = FewIn o × Few all

pub few-none : Few []
unfolding Few
few-none = tt

push-few : (all : Processes) (o : Option Process) → Few all → FewIn o → Few (all ++ o ∷ [])
unfolding Few
push-few [] o few is = (is, tt)
push-few (p ∷ all) o few is = (few.0, push-few all o few.1 is)

set-few : (all : Processes) (i : ℕ) (o : Option Process) → Few all → FewIn o → Few (slice_set all i o)
unfolding Few
set-few [] i o few is = tt
set-few (p ∷ all) zero o few is = (is, few.1)
set-few (p ∷ all) (suc i) o few is = (few.0, set-few all i o few.1 is)

nth-few : (all : Processes) (i : ℕ) → Few all → FewIn (nth all i)
unfolding Few FewIn
nth-few [] i few = tt
nth-few (p ∷ all) zero few = few.0
nth-few (p ∷ all) (suc i) few = nth-few all i few.1

process-few : (all : Processes) (pid : ℕ) → Few all → FewIn (process all pid)
unfolding FewIn
process-few all pid h1 = grind (arith, nat_tests, nth-few)

with_process-few : (all : Processes) (pid : ℕ) (o : Option Process) → Few all → FewIn o → Few (table.with_process all pid o)
with_process-few all zero o few is = few
with_process-few all (suc i) o few is = set-few all i o few is

map-few : (change : Option Process → Option Process) → ((o : Option Process) → FewIn o → FewIn (change o)) → (all : Processes) → Few all → Few (map change all)
unfolding Few
map-few change keeps [] few = tt
map-few change keeps (o ∷ all) few = (keeps o few.0, map-few change keeps all few.1)

-- a change of a process that is there
changed-few : (change : Process → Process) → ((p : Process) → length (change p).descriptors ≡ length p.descriptors) → (o : Option Process) → FewIn o → FewIn (option_map change o)
unfolding FewIn
changed-few change h1 o h2 = grind (arith, nat_tests)

with_change-few : (all : Processes) (pid : ℕ) (change : Process → Process) → ((p : Process) → length (change p).descriptors ≡ length p.descriptors) → Few all → Few (table.with_change all pid change)
with_change-few all pid change same few = with_process-few all pid (option_map change (process all pid)) few (changed-few change same (process all pid) (process-few all pid few))

-- descriptors that open and close are as many
placed_at-same : (o : Option ℕ) (n : ℕ) (p : Process) → length (table.placed_at o n p).descriptors ≡ length p.descriptors
placed_at-same None n p = refl
placed_at-same (Some number) n p = length-set p.descriptors number (Some n)

if-few : (p : Process) → length p.descriptors ≤ MOST_DESCRIPTORS → (b : Bool) → FewIn (cond b (Some p) None)
unfolding FewIn
if-few p h1 b = grind (arith, nat_tests)

if_awaited-few : (p : Process) → length p.descriptors ≤ MOST_DESCRIPTORS → FewIn (table.if_awaited p)
if_awaited-few p few = if-few p few (table.is_live p || is_some p.parent)

-- an end of a process
with_end-few : (status : TaggedByte) (o : Option Process) → FewIn (option_and_then (table.with_end status) o)
unfolding FewIn
with_end-few status o = grind (arith, nat_tests, if_awaited-few, length-replicate)

orphan-by : (p : Process) → length p.descriptors ≤ MOST_DESCRIPTORS → (b : Bool) → FewIn (cond b (table.if_awaited (record p { parent = None })) (Some p))
unfolding FewIn
orphan-by p few true = if_awaited-few (record p { parent = None }) few
orphan-by p few false = few

orphan-few : (parent : ℕ) (o : Option Process) → FewIn o → FewIn (option_and_then (table.orphan parent) o)
unfolding FewIn
orphan-few parent o h1 = grind (arith, nat_tests, orphan-by)

table_ended-few : (all : Processes) (pid : ℕ) (status : TaggedByte) → Few all → Few (table.ended all pid status)
table_ended-few all pid status h1 = grind (arith, nat_tests, map-few, orphan-few, with_end-few, with_process-few)

-- a process that is made
table_booted-few : (all : Processes) → Few all → Few (table.booted all)
unfolding FewIn
table_booted-few all few = push-few all (Some (record { life = table.Live; parent = None; descriptors = table.none_open })) few (omega (arith, length-replicate {A = Option ℕ} MOST_DESCRIPTORS None))

table_forked-few : (all : Processes) (parent : ℕ) → Few all → Few (table.forked all parent)
table_forked-few all parent few = push-few all (option_map (table.child_of parent) (process all parent)) few (changed-few (table.child_of parent) (λ p. refl) (process all parent) (process-few all parent few))

-- what the kernel does beside leaves the table
pub also_held-all : (ns : List (Option ℕ)) (k : Kernel) → (all_also_held ns k).processes ≡ k.processes
also_held-all [] k = refl
also_held-all (None ∷ ns) k = also_held-all ns k
also_held-all (Some n ∷ ns) k = also_held-all ns (also_held n k)

servers-same : (conns : List Conn) (k : Kernel) → (without_servers conns k).processes ≡ k.processes
servers-same [] k = refl
servers-same (conn ∷ conns) k = servers-same conns (without_side conn.to_server conn.to_client k)

port-same : (number : ℕ) (o : Option Port) (k : Kernel) → (without_port number o k).processes ≡ k.processes
port-same number None k = refl
port-same number (Some p) k = servers-same p.waiting (record k { ports = freed k.ports number })

closed-same : (what : Description) (k : Kernel) → (closed what k).processes ≡ k.processes
closed-same what k = grind (arith, nat_tests, port-same)

if-same : (b : Bool) (k k' : Kernel) (all : Processes) → k.processes ≡ all → k'.processes ≡ all → (cond b k k').processes ≡ all
if-same true k k' all is is' = is
if-same false k k' all is is' = is'

held-same : (n : ℕ) (o : Option Opened) (k : Kernel) → (less_held n o k).processes ≡ k.processes
held-same n None k = refl
held-same n (Some o) k = if-same (nat_lt 1 o.descriptors) (record k { descriptions = slice_set k.descriptions n (Some (with_count (λ c. c - 1) o)) }) (closed o.what (record k { descriptions = slice_set k.descriptions n None })) k.processes refl (closed-same o.what (record k { descriptions = slice_set k.descriptions n None }))

pub dropped-same : (n : ℕ) (k : Kernel) → (dropped n k).processes ≡ k.processes
dropped-same n k = held-same n (nth k.descriptions n) k

pub all_dropped-same : (ns : List (Option ℕ)) (k : Kernel) → (all_dropped ns k).processes ≡ k.processes
all_dropped-same [] k = refl
all_dropped-same (None ∷ ns) k = all_dropped-same ns k
all_dropped-same (Some n ∷ ns) k = all_dropped-same ns (dropped n k) ∙ dropped-same n k

-- and what it does to the table keeps the descriptors few
placed-few : (pid n : ℕ) (k : Kernel) → Few k.processes → Few (placed pid n k).processes
placed-few pid n k few = with_change-few k.processes pid (table.placed n) (λ p. placed_at-same (table.lowest_free p) n p) few

opens-few : (pid : ℕ) (what : Description) (k : Kernel) → Few k.processes → Few (opens pid what k).processes
opens-few pid what k few = placed-few pid (length k.descriptions) (with_new what k) few

closes-few : (pid fd n : ℕ) (k : Kernel) → Few k.processes → Few (closes pid fd n k).processes
closes-few pid fd n k few =
    let k' : Kernel = record k { processes = table.with_change k.processes pid (table.with_descriptor fd None) } in
    subst Few (sym (dropped-same n k')) (with_change-few k.processes pid (table.with_descriptor fd None) (λ p. length-set p.descriptors fd None) few)

pub ended-few : (pid : ℕ) (status : TaggedByte) (k : Kernel) → Few k.processes → Few (ended pid status k).processes
ended-few pid status k few =
    table_ended-few (all_dropped (descriptors_of k pid) k).processes pid status (subst Few (sym (all_dropped-same (descriptors_of k pid) k)) few)

forked-few : (pid : ℕ) (k : Kernel) → Few k.processes → Few (forked pid k).processes
forked-few pid k h1 = grind (arith, nat_tests, also_held-all, table_forked-few)

pub booted-few : (k : Kernel) → Few k.processes → Few (booted k).processes
booted-few k few =
    let k' : Kernel = record k { processes = table.booted k.processes; handling = k.handling ++ Some no_handling ∷ [] } in
    let k'' = opens 1 Console k' in
    let k''' = placed 1 0 (also_held 0 k'') in
    placed-few 1 0 (also_held 0 k''') (placed-few 1 0 (also_held 0 k'') (opens-few 1 Console k' (table_booted-few k.processes few)))

reaped-few : (pid : ℕ) (k : Kernel) → Few k.processes → Few (table.reaped k.processes pid)
unfolding FewIn
reaped-few pid k few = with_process-few k.processes pid None few tt

few-keeps : (n : ℕ) → Keeps n Few
few-keeps n = record { after_placed = placed-few; after_opens = opens-few; after_closes = closes-few; after_ended = ended-few; after_reaped = reaped-few; after_fork = λ fork. forked-few }

pub request-few : (m : Machine) (pid : ℕ) (v : View) → Few m.kernel.processes → Fine (call_number v.body.cpu) Few (request m pid v)
request-few m pid v few = request-Fine m pid v Few (few-keeps (call_number v.body.cpu)) few

-- a call leaves them few, by any reply
pub called-few : (m : Machine) (pid : ℕ) (v : View) (reply : Option Answered) (r : Request) → Fine (call_number v.body.cpu) Few r → Few m.kernel.processes → Few (after_first m (option_map (call_step m pid v) (does m pid v reply r))).kernel.processes
unfolding Fine
called-few m pid v reply Waits fine few = few
called-few m pid v reply (Does d) fine few = fine.0
called-few m pid v reply (Asks question) fine few = (answered-Kept (call_number v.body.cpu) Few (few-keeps (call_number v.body.cpu)) m pid v question reply few).0

-- the number of the next descriptor is small
lowest-small : (n : ℕ) (descriptors : List (Option ℕ)) → unwrap_or (table.lowest_free_from n descriptors) 0 ≤ n + length descriptors
lowest-small n (Some found ∷ descriptors) = omega (arith, lowest-small (n + 1) descriptors)
lowest-small n _ = omega arith

next-by : (o : Option Process) → FewIn o → unwrap_or (option_and_then table.lowest_free o) 0 ≤ MOST_DESCRIPTORS
unfolding FewIn
next-by o h1 = grind (arith, nat_tests, lowest-small)

pub next-small : (k : Kernel) (pid : ℕ) → Few k.processes → next_descriptor k pid ≤ MOST_DESCRIPTORS
next-small k pid few = next-by (process k.processes pid) (process-few k.processes pid few)
