-- Calls that end with a result and move no bytes.
use Rattle.std.proofs.Common.{◌≡◌, ℕ, Option, IfSome, refl, sym, ap, ap₂, ◌∙◌, subst, Some}
use Rattle.arn_base.specs.declared.records.Extra.{Extra}
use Rattle.acts_model.specs.Acts.{Act, Returns}
use Rattle.acts_model.specs.Bodies.{Bodies, View}
use Rattle.acts_model.specs.Views.{argument}
use Rattle.arn_model.specs.Doing.{Request, Does, returning}
use Rattle.arn_model.specs.FileCalls.{close_opened, close_row}
use Rattle.arn_model.specs.Kernel.{Kernel, Machine, description_of}
use Rattle.guest_bodies.specs.Shown.{seen_in}
use Rattle.guest_calls.specs.Acted.{Acted, Carried}
use Rattle.guest_calls.specs.State.{State, OfProcess}
use Rattle.guest_calls.specs.declared.outcomes.Done.{Done}
use Rattle.guest_calls.proofs.Stands.{machine_with, of_process, acted-stands, at-seen, stands-with}

-- the kernel may change first
pub acted-after : (pid : ℕ) (act : Act) (k : Kernel) (old mid new : State) → mid ≡ record old { kernel = k } → Acted pid act mid.kernel mid new → Acted pid act k old new
acted-after pid act k old mid new is acted =
    let there : Acted pid act k (record old { kernel = k }) new = subst (λ (s : State). Acted pid act s.kernel s new) is acted in
    record { follows = there.follows; kernel = there.kernel; events = there.events }

-- the kernel may have changed before
pub acted-across : (pid : ℕ) (act : Act) (k first : Kernel) (old mid new : State) → mid ≡ record old { kernel = first } → Acted pid act k mid new → Acted pid act k old new
acted-across pid act k first old mid new is acted =
    let there : Acted pid act k (record old { kernel = first }) new = subst (λ (s : State). Acted pid act k s new) is acted in
    record { follows = there.follows; kernel = there.kernel; events = there.events }

-- a call ends with a result
pub carried-by : (pid answer : ℕ) (more : Extra) (k : Kernel) (old new : State) (row : Machine → View → Request) → Acted pid (Returns answer) k old new → ((b : Bodies) (v : View) → seen_in old.guests pid ≡ Some v → row (machine_with b old) v ≡ Does (returning answer more k)) → OfProcess old pid (λ m v. Carried (row m v) (record { result = answer; extra = more }) m pid v new)
carried-by pid answer more k old new row acted is =
    of_process old pid (λ m v. Carried (row m v) (record { result = answer; extra = more }) m pid v new)
    (λ b v shows sees. record {
      doing = returning answer more k;
      is = is b v sees;
      answers = refl;
      extra = refl;
      stands = acted-stands old new pid v b (returning answer more k) shows acted refl;
    })

-- a call that comes to the same as another
pub carried-same : (pid : ℕ) (ended : Done) (old new : State) (one row : Machine → View → Request) → OfProcess old pid (λ m v. Carried (one m v) ended m pid v new) → ((b : Bodies) (v : View) → seen_in old.guests pid ≡ Some v → one (machine_with b old) v ≡ row (machine_with b old) v) → OfProcess old pid (λ m v. Carried (row m v) ended m pid v new)
carried-same pid ended old new one row carried same =
    of_process old pid (λ m v. Carried (row m v) ended m pid v new)
    (λ b v shows sees. subst (λ (r : Request). Carried r ended (machine_with b old) pid v new) (same b v sees)
    (carried (machine_with b old) v (stands-with old b shows) (sym (shows.same pid) ∙ sees)))

-- the row of a call, by its arguments
module _ (m : Machine) (pid : ℕ) (v : View) (fd : ℕ) (found : Option ℕ) (first : fd ≡ argument v.body.cpu 0) (is : found ≡ description_of m.kernel pid fd) where
  described : found ≡ description_of m.kernel pid (argument v.body.cpu 0)
  described = is ∙ ap (description_of m.kernel pid) first

  pub close-row : close_opened m pid fd found ≡ close_row m pid v
  close-row = ap₂ (close_opened m pid) first described

-- an argument that is known of the process
pub argument-is : (s : State) (pid place a : ℕ) (v : View) → seen_in s.guests pid ≡ Some v → IfSome (seen_in s.guests pid) (λ w. a ≡ argument w.body.cpu place) → a ≡ argument v.body.cpu place
argument-is s pid place a v sees told = at-seen (seen_in s.guests pid) v (λ (w : View). a ≡ argument w.body.cpu place) sees told
