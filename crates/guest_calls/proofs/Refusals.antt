-- Calls that are refused by what the kernel holds, or open a description: connect, listen and pipe.
use Rattle.std.proofs.Common.{◌≡◌, ℕ, Bool, true, false, List, ◌∷◌, length, Some, sym, ap, ap₂, ◌∙◌}
use Rattle.arn_base.specs.declared.records.Extra.{Extra}
use Rattle.arn_base.specs.declared.records.Extra.TheVariants as extra
use Rattle.acts_model.specs.Acts.{Returns}
use Rattle.acts_model.specs.Bodies.{Bodies, View}
use Rattle.acts_model.specs.Views.{error}
use Rattle.arn_model.specs.Doing.{Does, Refusal, Request, refuse, refused, returning, returns, unless_refused}
use Rattle.arn_model.specs.Kernel.{Kernel, Machine, next_descriptor, placed}
use Rattle.guest_bodies.specs.Shown.{seen_in}
use Rattle.guest_calls.specs.Acted.{Acted, Carried}
use Rattle.guest_calls.specs.State.{State, OfProcess}
use Rattle.guest_calls.specs.declared.outcomes.Done.{Done}
use Rattle.guest_calls.proofs.Carries.{acted-across, carried-by, carried-same}
use Rattle.guest_calls.proofs.Stands.{machine_with}

-- the refusal that applies, and none
pub refused-by : (k : Kernel) (n : ℕ) (a : Bool) (rs : List Refusal) (goes_on : Request) → a ≡ true → unless_refused k (refuse n a ∷ rs) goes_on ≡ refused n k
refused-by k n a rs goes_on is = ap (λ (x : Bool). unless_refused k (refuse n x ∷ rs) goes_on) is

pub passed-by : (k : Kernel) (n : ℕ) (a : Bool) (rs : List Refusal) (goes_on : Request) → a ≡ false → unless_refused k (refuse n a ∷ rs) goes_on ≡ unless_refused k rs goes_on
passed-by k n a rs goes_on is = ap (λ (x : Bool). unless_refused k (refuse n x ∷ rs) goes_on) is

-- a refused call ends with its error
pub refused-carried : (s new : State) (pid answer n : ℕ) (d : Done) (row : Machine → View → Request) → answer ≡ error n → OfProcess s pid (λ m v. Carried (returns answer m.kernel) d m pid v new) → ((b : Bodies) (v : View) → seen_in s.guests pid ≡ Some v → row (machine_with b s) v ≡ refused n s.kernel) → OfProcess s pid (λ m v. Carried (row m v) d m pid v new)
refused-carried s new pid answer n d row is carried comes =
    carried-same pid d s new (λ m v. returns answer m.kernel) row carried
    (λ b v sees. ap (λ (a : ℕ). returns a s.kernel) is ∙ sym (comes b v sees))

-- a call that opens a description ends with its descriptor
pub opens-carried : (s mid new : State) (pid number : ℕ) (d : Done) (k : Kernel) (row : Machine → View → Request) → mid ≡ record s { kernel = k } → number ≡ length s.kernel.descriptions → next_descriptor k pid ≡ next_descriptor s.kernel pid → Acted pid (Returns d.result) (placed pid number mid.kernel) mid new → d.result ≡ next_descriptor mid.kernel pid → d.extra ≡ extra.Nothing → ((b : Bodies) (v : View) → seen_in s.guests pid ≡ Some v → row (machine_with b s) v ≡ returns (next_descriptor s.kernel pid) (placed pid (length s.kernel.descriptions) k)) → OfProcess s pid (λ m v. Carried (row m v) d m pid v new)
opens-carried s mid new pid number d k row is numbered next acted result nothing comes =
    let first : d.result ≡ next_descriptor s.kernel pid = result ∙ (ap (λ (x : State). next_descriptor x.kernel pid) is ∙ next) in
    carried-by pid d.result d.extra (placed pid number mid.kernel) s new row (acted-across pid (Returns d.result) (placed pid number mid.kernel) k s mid new is acted)
    (λ b v sees. comes b v sees
    ∙ ap (λ (a : ℕ). Does (returning a extra.Nothing (placed pid (length s.kernel.descriptions) k))) (sym first)
    ∙ ap (λ (x : Extra). Does (returning d.result x (placed pid (length s.kernel.descriptions) k))) (sym nothing)
    ∙ ap₂ (λ (n : ℕ) (q : Kernel). Does (returning d.result d.extra (placed pid n q))) (sym numbered) (sym (ap (λ (x : State). x.kernel) is)))
