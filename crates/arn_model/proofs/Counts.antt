-- How many processes have been made: what the kernel does leaves it, but for a child that is made.
use Rattle.std.proofs.lemmas.Grind.{common_steps}
use Rattle.std.proofs.lemmas.Bool.Decides.{nat_tests}
use Rattle.std.proofs.Common.{◌≡◌, ℕ, ◌+◌, ◌==◌, false, Option, Some, None, length, option_map, refl, ap, ◌∙◌, arith}
use Rattle.std.proofs.lemmas.List.{length_push, length-map}
use Rattle.arn_base.specs.declared.records.Extra.{Extra}
use Rattle.arn_base.specs.declared.records.Extra.TheVariants as extra
use Rattle.parts_model.specs.declared.calls.TheConstants.{FORK}
use Rattle.parts_model.specs.declared.tagged.TaggedByte.{TaggedByte}
use Rattle.parts_model.specs.Processes as table
use Rattle.parts_model.specs.Processes.{Processes, process}
use Rattle.parts_model.specs.Replies.{Answered}
use Rattle.acts_model.specs.Bodies.{View}
use Rattle.acts_model.specs.Views.{call_number}
use Rattle.arn_model.specs.Doing.{Doing, Question, Request, Asks}
use Rattle.arn_model.specs.Kernel.{Kernel, Machine, placed, closes, ended, booted, forked}
use Rattle.arn_model.specs.Laws.{NoStart, FewBytes, RequestIsBounded, ProcessesCount}
use Rattle.arn_model.specs.Row.{does, request}
use Rattle.arn_model.proofs.FewDescriptors.{also_held-all, all_dropped-same, dropped-same}
use Rattle.arn_model.proofs.FineRequests.{Keeps, StartsByFork, Fine, FineQuestion, request-Fine, done-Kept}
use Rattle.arn_model.proofs.Closing.{length-with_process}

-- as many as a number, unless the call is a fork
unfoldable AsMany : ℕ → ℕ → Processes → Type 0
AsMany count n all = (n == FORK) ≡ false → length all ≡ count

-- what the kernel does to the table leaves as many
placed-many : (pid n : ℕ) (k : Kernel) → length (placed pid n k).processes ≡ length k.processes
placed-many pid n k = length-with_process k.processes pid (option_map (table.placed n) (process k.processes pid))

closes-many : (pid fd n : ℕ) (k : Kernel) → length (closes pid fd n k).processes ≡ length k.processes
closes-many pid fd n k =
    let k' : Kernel = record k { processes = table.with_change k.processes pid (table.with_descriptor fd None) } in
    ap (λ (all : Processes). length all) (dropped-same n k') ∙ length-with_process k.processes pid (option_map (table.with_descriptor fd None) (process k.processes pid))

ended-many : (pid : ℕ) (status : TaggedByte) (k : Kernel) → length (ended pid status k).processes ≡ length k.processes
ended-many pid status k = grind (arith, nat_tests, all_dropped-same, length-map, length-with_process)

-- a child is one more
forked-more : (pid : ℕ) (k : Kernel) → length (forked pid k).processes ≡ length k.processes + 1
forked-more pid k = grind (arith, nat_tests, also_held-all, length_push)

-- and so is process 1
booted-more : (k : Kernel) → length (booted k).processes ≡ length k.processes + 1
booted-more k = grind (arith, common_steps, nat_tests, placed-many, length_push)

pub processes-count : ProcessesCount
processes-count = record { after_end = ended-many; after_fork = forked-more; after_boot = booted-more }

many-keeps : (count n : ℕ) → Keeps n (AsMany count n)
unfolding AsMany
many-keeps count n = grind (arith, nat_tests, closes-many, ended-many, length-with_process, placed-many)

many-same : (m : Machine) (n : ℕ) → AsMany (length m.kernel.processes) n m.kernel.processes
unfolding AsMany
many-same m n other = refl

many-is : (m : Machine) (n : ℕ) (all : Processes) → AsMany (length m.kernel.processes) n all → (n == FORK) ≡ false → length all ≡ length m.kernel.processes
unfolding AsMany
many-is m n all many = many

no-start : (n : ℕ) (more : Extra) → StartsByFork n more → (n == FORK) ≡ false → NoStart more
no-start n (extra.Start start) fork other = absurd cc
no-start n more starts other = tt

few-bytes : (n : ℕ) (P : Processes → Type 0) (r : Request) → Fine n P r → (question : Question) → r ≡ Asks question → FewBytes question
unfolding Fine FineQuestion
few-bytes n P r h1 question h2 = grind (arith, common_steps, nat_tests)

pub request-bounded : (m : Machine) (pid : ℕ) (v : View) → RequestIsBounded m pid v
request-bounded m pid v =
    let n = call_number v.body.cpu in
    let P = AsMany (length m.kernel.processes) n in
    let keeps = many-keeps (length m.kernel.processes) n in
    let fine = request-Fine m pid v P keeps (many-same m n) in
    let done = λ (reply : Option Answered) (d : Doing) (e : does m pid v reply (request m pid v) ≡ Some d). done-Kept n P keeps m pid v reply (request m pid v) fine (many-same m n) d e in
    record {
      many = λ reply d e other. many-is m n d.kernel.processes (done reply d e).0 other;
      no_start = λ reply d e other. no-start n d.extra (done reply d e).1 other;
      small_question = few-bytes n P (request m pid v) fine;
    }
