-- Calls that may ask a device.
use Rattle.std.proofs.Common.{◌≡◌, ℕ, ◌≤◌, true, List, ◌++◌, length, take, min, Some, IfSome, refl, sym, ap, ap₂, ◌∙◌, subst, arith}
use Rattle.std.proofs.lemmas.List.{length-take, length-take-le, take_all}
use Rattle.std.proofs.Math.Seq.{take-append_seam}
use Rattle.arn_base.specs.declared.records.Extra.TheVariants as extra
use Rattle.parts_model.specs.declared.open.Description.TheVariants.{Device}
use Rattle.parts_model.specs.Replies.{Answered, GaveBytes, TookBytes, Failed, IsAbsent, IsHere}
use Rattle.parts_model.specs.Replies as replies
use Rattle.acts_model.specs.Acts.{Act, Gives, Receives, Returns}
use Rattle.acts_model.specs.Bodies.{View}
use Rattle.acts_model.specs.Views.{read}
use Rattle.arn_model.specs.ChannelCalls.{device_opened}
use Rattle.arn_model.specs.Doing as doing
use Rattle.arn_model.specs.Doing.{Doing, Question, Request, Does, Asks}
use Rattle.arn_model.specs.Kernel.{Kernel, Machine, next_descriptor, opens, placed, with_new}
use Rattle.arn_model.specs.Row.{answered, does, request}
use Rattle.arn_model.specs.TransferCalls.{absent, device_failed, device_read, device_write}
use Rattle.guest_bodies.specs.Follows.{IsResult}
use Rattle.guest_bodies.specs.Shown.{seen_in}
use Rattle.guest_devices.specs.Answers as devices
use Rattle.guest_requests.specs.Tables.{OfTables, Tables}
use Rattle.guest_calls.specs.Acted.{Acted, Carried}
use Rattle.guest_calls.specs.Asked.{Replied, Ended, Alone, Asking}
use Rattle.guest_calls.specs.State.{State, OfProcess}
use Rattle.guest_calls.specs.Steps.{Performed, RepliesTo, asked_of}
use Rattle.guest_calls.specs.Tables.{tables_in}
use Rattle.guest_calls.specs.declared.outcomes.Done.{Done}
use Rattle.guest_calls.proofs.Carries.{acted-across}
use Rattle.guest_calls.proofs.Requests.{performed}
use Rattle.guest_calls.proofs.Stands.{machine_with, of_process, acted-stands, at-seen, of-tables}

-- what calls do by an answer
module _ (m : Machine) (pid : ℕ) (v : View) (device : ℕ) where
  pub here-there : answered m pid v (doing.Here device) (Some IsHere) ≡ device_opened m pid device true
  unfolding answered
  here-there = refl

  pub here-absent : answered m pid v (doing.Here device) (Some IsAbsent) ≡ absent m.kernel
  unfolding answered
  here-absent = refl

  module _ (at count : ℕ) where
    pub read-fails : answered m pid v (doing.Reads device at count) (Some Failed) ≡ device_failed m.kernel
    unfolding answered
    read-fails = refl

    pub read-absent : answered m pid v (doing.Reads device at count) (Some IsAbsent) ≡ absent m.kernel
    unfolding answered
    read-absent = refl

    pub read-gives : (bytes : List ℕ) → length bytes ≤ count → answered m pid v (doing.Reads device at count) (Some (GaveBytes bytes)) ≡ device_read m device at (replies.Reads bytes)
    unfolding answered
    read-gives bytes few = ap (λ (b : List ℕ). device_read m device at (replies.Reads b)) (take_all count bytes few)

    pub write-fails : answered m pid v (doing.Writes device at count) (Some Failed) ≡ device_failed m.kernel
    unfolding answered
    write-fails = refl

    pub write-absent : answered m pid v (doing.Writes device at count) (Some IsAbsent) ≡ absent m.kernel
    unfolding answered
    write-absent = refl

    pub write-takes : (n : ℕ) → n ≤ count → answered m pid v (doing.Writes device at count) (Some (TookBytes n)) ≡ device_write m device at (read v at count) (replies.Takes n)
    unfolding answered
    write-takes n few =
        let all : min n count ≡ n = omega arith in
        ap (λ (k : ℕ). device_write m device at (read v at count) (replies.Takes k)) all

-- a buffer's first bytes
pub front-of : (count len : ℕ) (buffer rest : List ℕ) → length buffer ≡ len → take count (take len (buffer ++ rest)) ≡ take count buffer
front-of count len buffer rest held =
    ap (take count) (ap (λ (n : ℕ). take n (buffer ++ rest)) (sym held) ∙ take-append_seam buffer rest)

-- those that a process gets are no more than it asked for
pub few-given : (count len most : ℕ) (bytes sent buffer : List ℕ) → sent ≡ bytes → bytes ≡ take count buffer → count ≤ len → len ≡ most → length sent ≤ most
few-given count len most bytes sent buffer same is within whole = omega (arith, ap length same, ap length is, length-take count buffer)

module _ {A : Type 0} (answers : A → devices.Asked → Answered → A → Type 0) (asked asked' : A) (pid : ℕ) (old new : State) where
  -- a call that asks
  pub asking : (d : Done) (row : Machine → View → Request) (question : Question) (t : Tables) → t ≡ tables_in old → OfTables t pid (λ m v. row m v ≡ Asks question) → OfProcess old pid (λ m v. Replied answers asked asked' question d m pid v new) → OfProcess old pid (λ m v. Ended answers asked asked' (row m v) d m pid v new)
  asking d row question t is comes replied m v stands sees =
      Asking question (of-tables old pid t (λ m v. row m v ≡ Asks question) is comes m v stands sees) (replied m v stands sees)

  -- it ends as the answer says
  pub replied : (question : Question) (answer : Answered) (d : Done) (one : Machine → Doing) → ((m : Machine) (v : View) → answered m pid v question (Some answer) ≡ one m) → ((v : View) → seen_in old.guests pid ≡ Some v → answers asked (asked_of v question) answer asked') → OfProcess old pid (λ m v. Carried (Does (one m)) d m pid v new) → OfProcess old pid (λ m v. Replied answers asked asked' question d m pid v new)
  replied question answer d one same once carried m v stands sees =
      record {
        answer = answer;
        once = once v (stands.seen pid ∙ sees);
        carried = subst (λ (x : Doing). Carried (Does x) d m pid v new) (sym (same m v)) (carried m v stands sees);
      }

  -- a device gave the first bytes of a buffer
  pub gave : (device at most len count : ℕ) (buffer bytes : List ℕ) → len ≡ most → length buffer ≡ len → count ≤ len → bytes ≡ take count buffer → answers asked (devices.Reads device len) (GaveBytes (take count buffer)) asked' → Acted pid (Receives at bytes count) old.kernel old new → OfProcess old pid (λ m v. Replied answers asked asked' (doing.Reads device at most) (record { result = count; extra = extra.Reply device bytes }) m pid v new)
  gave device at most len count buffer bytes whole held within is once acted =
      let long : length bytes ≡ count = ap length is ∙ length-take-le count buffer (omega arith) in
      let few : length bytes ≤ most = omega arith in
      of_process old pid (λ m v. Replied answers asked asked' (doing.Reads device at most) (record { result = count; extra = extra.Reply device bytes }) m pid v new)
      (λ b v shows sees. record {
        answer = GaveBytes bytes;
        once =
            subst (λ (x : List ℕ). answers asked (devices.Reads device most) (GaveBytes x) asked') (sym is)
            (subst (λ (l : ℕ). answers asked (devices.Reads device l) (GaveBytes (take count buffer)) asked') whole once);
        carried =
            record {
              doing = device_read (machine_with b old) device at (replies.Reads bytes);
              is = ap (λ (x : Doing). Does x) (read-gives (machine_with b old) pid v device at most bytes few);
              answers = sym long;
              extra = refl;
              stands =
                  acted-stands old new pid v b (device_read (machine_with b old) device at (replies.Reads bytes)) shows
                  (subst (λ (n : ℕ). Acted pid (Receives at bytes n) old.kernel old new) (sym long) acted) refl;
            };
      })

  -- a device took the first bytes of those that it was handed
  pub took : (device at count taken : ℕ) (bytes handed sent : List ℕ) → handed ≡ bytes → length bytes ≡ count → taken ≤ length handed → sent ≡ take taken bytes → IfSome (seen_in old.guests pid) (λ v. bytes ≡ read v at count) → answers asked (devices.Writes device handed) (TookBytes taken) asked' → ((act : Act) → IsResult act taken → Acted pid act old.kernel old new) → OfProcess old pid (λ m v. Replied answers asked asked' (doing.Writes device at count) (record { result = taken; extra = extra.Sent device sent }) m pid v new)
  took device at count taken bytes handed sent same long within is told once acted =
      let few : taken ≤ count = omega (arith, ap length same) in
      of_process old pid (λ m v. Replied answers asked asked' (doing.Writes device at count) (record { result = taken; extra = extra.Sent device sent }) m pid v new)
      (λ b v shows sees.
      let read-is : bytes ≡ read v at count = at-seen (seen_in old.guests pid) v (λ (w : View). bytes ≡ read w at count) sees told in
      let given : List ℕ = take taken (read v at count) in
      let cut : sent ≡ given = is ∙ ap (λ (x : List ℕ). take taken x) read-is in
      let many : length given ≡ taken = length-take-le taken (read v at count) (omega (arith, ap length read-is)) in
      record {
        answer = TookBytes taken;
        once = subst (λ (x : List ℕ). answers asked (devices.Writes device x) (TookBytes taken) asked') (same ∙ read-is) once;
        carried =
            record {
              doing = device_write (machine_with b old) device at (read v at count) (replies.Takes taken);
              is = ap (λ (x : Doing). Does x) (write-takes (machine_with b old) pid v device at count taken few);
              answers = sym many;
              extra = ap (λ (x : List ℕ). extra.Sent device x) cut;
              stands =
                  acted-stands old new pid v b (device_write (machine_with b old) device at (read v at count) (replies.Takes taken)) shows
                  (acted (Gives at (length given) (length given)) many) refl;
            };
      })

  -- a device is there, and is open from then on
  pub opened : (device number : ℕ) (mid : State) (d : Done) → mid ≡ record old { kernel = with_new (Device device) old.kernel } → number ≡ length old.kernel.descriptions → answers asked (devices.Here device) IsHere asked' → Acted pid (Returns d.result) (placed pid number mid.kernel) mid new → d.result ≡ next_descriptor mid.kernel pid → d.extra ≡ extra.Nothing → OfProcess old pid (λ m v. Replied answers asked asked' (doing.Here device) d m pid v new)
  opened device number mid d is numbered once acted result nothing =
      let first : d.result ≡ next_descriptor old.kernel pid = result ∙ ap (λ (s : State). next_descriptor s.kernel pid) is in
      let placed-is : placed pid number mid.kernel ≡ opens pid (Device device) old.kernel = ap₂ (λ (n : ℕ) (s : State). placed pid n s.kernel) numbered is in
      let across : Acted pid (Returns d.result) (placed pid number mid.kernel) old new = acted-across pid (Returns d.result) (placed pid number mid.kernel) (with_new (Device device) old.kernel) old mid new is acted in
      let there : Acted pid (Returns (next_descriptor old.kernel pid)) (opens pid (Device device) old.kernel) old new =
      subst (λ (k : Kernel). Acted pid (Returns (next_descriptor old.kernel pid)) k old new) placed-is
      (subst (λ (n : ℕ). Acted pid (Returns n) (placed pid number mid.kernel) old new) first across) in
      of_process old pid (λ m v. Replied answers asked asked' (doing.Here device) d m pid v new)
      (λ b v shows sees. record {
        answer = IsHere;
        once = once;
        carried =
            record {
              doing = device_opened (machine_with b old) pid device true;
              is = ap (λ (x : Doing). Does x) (here-there (machine_with b old) pid v device);
              answers = first;
              extra = nothing;
              stands = acted-stands old new pid v b (device_opened (machine_with b old) pid device true) shows there refl;
            };
      })

same-doing : (x y : Doing) → Does x ≡ Does y → x ≡ y
same-doing x y same = cc

-- a call that has ended has been performed
pub ended-performed : {A : Type 0} (answers : A → devices.Asked → Answered → A → Type 0) (asked asked' : A) (d : Done) (m : Machine) (pid : ℕ) (v : View) (new : State) → Ended answers asked asked' (request m pid v) d m pid v new → Performed answers asked asked' d m pid v new
ended-performed answers asked asked' d m pid v new (Alone same carried) =
    subst (λ x. Performed answers asked x d m pid v new) (sym same) (performed answers asked d m pid v new carried)
ended-performed answers asked asked' d m pid v new (Asking question is replied) =
    record {
      reply = Some replied.answer;
      replied = subst (λ (r : Request). RepliesTo answers v r (Some replied.answer) asked asked') (sym is) replied.once;
      doing = replied.carried.doing;
      does =
          ap (does m pid v (Some replied.answer)) is
          ∙ ap (λ (x : Doing). Some x) (same-doing (answered m pid v question (Some replied.answer)) replied.carried.doing replied.carried.is);
      result = replied.carried.answers;
      extra = replied.carried.extra;
      stands = replied.carried.stands;
    }
