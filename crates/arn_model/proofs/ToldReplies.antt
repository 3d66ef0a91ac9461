-- A call does the same with the reply that its record names.
use Rattle.std.proofs.lemmas.Grind.{common_steps}
use Rattle.std.proofs.Common.{◌≡◌, ℕ, ◌==◌, ◌≤◌, ◌&&◌, Bool, true, false, cond, min, List, length, take, Option, None, Some, option_map, refl, ap, arith, length-take}
use Rattle.std.proofs.lemmas.Bool.Decides.{nat_tests}
use Rattle.std.proofs.lemmas.List.{take_all, take_min}
use Rattle.arn_base.specs.declared.records.Extra.TheVariants as extra
use Rattle.rv64_model.specs.Instruction.{Effect}
use Rattle.parts_model.specs.declared.calls.TheConstants.{DEVICE}
use Rattle.parts_model.specs.declared.limits.TheConstants.{MOST_DESCRIPTORS}
use Rattle.parts_model.specs.Replies as replies
use Rattle.parts_model.specs.Replies.{Answered, GaveBytes, TookBytes, IsHere, is_success, reply_in, to_read, to_write, is_here}
use Rattle.acts_model.specs.Acts.{result_of}
use Rattle.acts_model.specs.Bodies.{View}
use Rattle.acts_model.specs.Views.{call_number, stands_at}
use Rattle.arn_model.specs.ChannelCalls.{device_opened}
use Rattle.arn_model.specs.Doing.{Doing, Question, Reads, Request, Asks}
use Rattle.arn_model.specs.Kernel.{Machine}
use Rattle.arn_model.specs.Laws.{reply_told}
use Rattle.arn_model.specs.Row.{answered, does}
use Rattle.arn_model.specs.Step.{call_step, last_by}
use Rattle.arn_model.specs.TransferCalls.{giving, device_read, device_write}
use Rattle.arn_model.specs.Turn.{last_in}
use Rattle.arn_model.proofs.FewDescriptors.{Few, next-small, request-few}
use Rattle.arn_model.proofs.FineRequests.{Fine, FineQuestion}

-- a device that was found is told by the call's number and its small result
found-told : (m : Machine) (pid device number result : ℕ) → (number == DEVICE) ≡ true → result ≤ MOST_DESCRIPTORS → is_here (cond ((number == DEVICE) && is_success result) (Some IsHere) None) ≡ true
found-told m pid device number result h1 h2 = grind (arith, nat_tests)

here-told : (m : Machine) (pid device number : ℕ) (b : Bool) → (number == DEVICE) ≡ true → Few m.kernel.processes → let d = device_opened m pid device b in device_opened m pid device (is_here (reply_in number (result_of d.act) d.extra)) ≡ d
here-told m pid device number b h1 h2 = grind (arith, common_steps, nat_tests, found-told, next-small)

-- bytes that were cut are cut again
take-again : (n : ℕ) (bytes : List ℕ) → take n (take n bytes) ≡ take n bytes
take-again n bytes = take_all n (take n bytes) (omega (arith, length-take n bytes))

-- and a count of those that were taken is cut again
take-as-much : (n len : ℕ) (bytes : List ℕ) → let k = min n len in take (min (length (take k bytes)) len) bytes ≡ take k bytes
take-as-much n len bytes = grind (arith, common_steps, nat_tests, length-take, take_min)

read-told : (m : Machine) (device at len number : ℕ) (reply : Option Answered) → let d = device_read m device at (to_read len reply) in device_read m device at (to_read len (reply_in number (result_of d.act) d.extra)) ≡ d
read-told m device at len number (Some (GaveBytes bytes)) = ap (λ (x : List ℕ). device_read m device at (replies.Reads x)) (take-again len bytes)
read-told m device at len number _ = refl

write-told : (m : Machine) (device at len number : ℕ) (bytes : List ℕ) (reply : Option Answered) → let d = device_write m device at bytes (to_write len reply) in device_write m device at bytes (to_write len (reply_in number (result_of d.act) d.extra)) ≡ d
write-told m device at len number bytes (Some (TookBytes n)) = ap (λ (x : List ℕ). giving at x (extra.Sent device x) None m.kernel) (take-as-much n len bytes)
write-told m device at len number bytes _ = refl

answered-told : (m : Machine) (pid : ℕ) (v : View) (number : ℕ) (question : Question) (reply : Option Answered) → FineQuestion number question → Few m.kernel.processes → let d = answered m pid v question reply in answered m pid v question (reply_in number (result_of d.act) d.extra) ≡ d
unfolding answered FineQuestion
answered-told m pid v number question reply h1 h2 = grind (arith, common_steps, nat_tests, here-told, read-told, write-told)

called-told : (m : Machine) (pid : ℕ) (v : View) (reply : Option Answered) (r : Request) → Fine (call_number v.body.cpu) Few r → Few m.kernel.processes → let step = option_map (call_step m pid v) (does m pid v reply r) in option_map (call_step m pid v) (does m pid v (reply_told step) r) ≡ step
unfolding Fine
called-told m pid v reply (Asks question) fine few = ap (λ (d : Doing). Some (call_step m pid v d)) (answered-told m pid v (call_number v.body.cpu) question reply fine few)
called-told m pid v reply _ fine few = refl

last_by-told : (m : Machine) (pid : ℕ) (v : View) (reply : Option Answered) (e : Effect) → Few m.kernel.processes → last_by m pid v (reply_told (last_by m pid v reply e)) e ≡ last_by m pid v reply e
last_by-told m pid v reply e h1 = grind (arith, nat_tests, called-told, request-few)

last_in-told : (m : Machine) (pid : ℕ) (reply : Option Answered) (o : Option View) → Few m.kernel.processes → last_in m pid (reply_told (last_in m pid reply o)) o ≡ last_in m pid reply o
last_in-told m pid reply None few = refl
last_in-told m pid reply (Some v) few = last_by-told m pid v reply (stands_at v) few

-- the same where there may be none
pub last-told : (b : Bool) (m : Machine) (pid : ℕ) (reply : Option Answered) (o : Option View) → Few m.kernel.processes → let last = cond b (last_in m pid reply o) None in cond b (last_in m pid (reply_told last) o) None ≡ last
last-told true m pid reply o few = last_in-told m pid reply o few
last-told false m pid reply o few = refl
