-- What a call tells, from what its act, its record and its kernel say; and refusals.
use Rattle.std.proofs.Common.{subst, ◌+◌, ◌≡◌, ℕ, ◌≤◌, List, [], ◌∷◌, length, refl, ap, ◌∙◌, sym, Option, Some, None, unwrap_or, Bool, true, false, ◌==◌, ◌&&◌, not, cond, if◌then◌else◌, nat_le, arith}
use Rattle.std.proofs.lemmas.Bool.Decides.{nat_tests}
use Rattle.std.proofs.lemmas.Bool.{eq-eqb, and_right, and_parts, not-true}
use Rattle.arn_base.specs.declared.machine.Cpu.{Cpu}
use Rattle.arn_base.specs.declared.records.Extra.{Extra}
use Rattle.arn_base.specs.declared.records.Extra.TheVariants as extra
use Rattle.arn_base.specs.declared.records.Record.{Record}
use Rattle.arn_base.specs.declared.records.Record.TheVariants as entry
use Rattle.parts_model.specs.declared.calls.TheConstants as number
use Rattle.parts_model.specs.declared.limits.TheConstants.{MOST_TRANSFER, WINDOW_LEN}
use Rattle.parts_model.specs.declared.tagged.TaggedByte.{TaggedByte}
use Rattle.parts_model.specs.Files.{file_bytes, find_file}
use Rattle.parts_model.specs.Processes as table
use Rattle.parts_model.specs.Replies.{Answered, is_success}
use Rattle.rv64_model.specs.Instruction.{Call}
use Rattle.acts_model.specs.Acts.{Act, Returns, Forks, Founds, Exits, Faults, Dies, result_of}
use Rattle.acts_model.specs.Bodies.{View, seen}
use Rattle.acts_model.specs.Disagreement.{wrong_with, act_wrong}
use Rattle.acts_model.specs.Records.{held_len, plain_len, LifeChange, BeginsLife, EndsLife, NoLife, call_life, lives_after, NameChange, NoName, call_name, Written, call_put, put_told, give_in}
use Rattle.acts_model.specs.Told.{Kind, Exit, kind_of, call_act}
use Rattle.acts_model.specs.Views.{stands_at, call_number, error}
use Rattle.arn_model.specs.Doing.{Doing, Request, Waits, Does, Asks, Refusal, returning, refused, unless_refused}
use Rattle.arn_model.specs.Kernel.{Kernel, Machine}
use Rattle.arn_model.specs.Row.{answered}
use Rattle.arn_model.specs.Tells as tells
use Rattle.arn_model.specs.Sound.{IsSound}
use Rattle.arn_model.specs.Tells.{WritesInside, lives, named_after, FileAfter, ForksRightly, EventTells, HasNumbers}
use Rattle.arn_model.proofs.Effects.{FileKept, KernelTells, quiet-tells}
use Rattle.arn_model.proofs.Quiet.{Quiet, quiet-refl}

-- who lives after an act
abbrev pub life_by : ℕ → Act → LifeChange
life_by pid (Forks child) = BeginsLife child
life_by pid (Founds child) = BeginsLife child
life_by pid Exits = EndsLife pid
life_by pid (Faults status) = EndsLife pid
life_by pid (Dies signal cut) = EndsLife pid
life_by pid _ = NoLife

-- an event of a process: it tells, and the kernel stays sound
pub record Done (m : Machine) (pid : ℕ) (v : View) (d : Doing) (entry : Record) : Type 0 where
  pub told : HasNumbers d.kernel → EventTells m pid v d entry
  pub living : (q : ℕ) → lives d.kernel q ≡ lives_after (life_by pid d.act) q (lives m.kernel q)
  pub sound : IsSound d.kernel
  pub grows : length m.kernel.processes ≤ length d.kernel.processes
  pub few : length d.kernel.processes ≤ length m.kernel.processes + 1

-- a live process stands at the call of a number, in a machine whose kernel is sound
pub record At (m : Machine) (pid : ℕ) (v : View) (n : ℕ) : Type 0 where
  pub seen : seen m.bodies pid ≡ Some v
  pub stands : stands_at v ≡ Call
  pub number : n ≡ call_number v.body.cpu
  pub sound : IsSound m.kernel
  pub alive : lives m.kernel pid ≡ true
  pub fits : length v.window ≤ WINDOW_LEN

abbrev pub DoneCall : Machine → ℕ → View → ℕ → Doing → Type 0
DoneCall m pid v n d = Done m pid v d (entry.Call pid n (result_of d.act) d.extra)

abbrev pub RequestTells : Machine → ℕ → View → ℕ → Request → Type 0
RequestTells m pid v n Waits = Unit {0}
RequestTells m pid v n (Does d) = DoneCall m pid v n d
RequestTells m pid v n (Asks question) = (reply : Option Answered) → DoneCall m pid v n (answered m pid v question reply)

-- the record's side of what a call tells
pub record CallTells (m : Machine) (pid : ℕ) (v : View) (n : ℕ) (d : Doing) (naming : NameChange) (writing : Option Written) : Type 0 where
  pub told : call_act (kind_of n) v.body.cpu (result_of d.act) d.extra ≡ d.act
  pub fine : act_wrong v d.act d.extra ≡ None
  pub forks : ForksRightly (table.next_process m.kernel.processes) v d.act d.extra
  pub length : unwrap_or (held_len d.extra) (plain_len n (result_of d.act) d.extra) ≡ length d.bytes
  pub comes : tells.ComesFrom d.act d.incoming
  pub receives : tells.Receives m.kernel d.incoming d.bytes (entry.Call pid n (result_of d.act) d.extra)
  pub spans : tells.Spans d.outgoing d.bytes
  pub life : call_life pid n (result_of d.act) d.extra ≡ life_by pid d.act
  pub name : call_name n d.extra ≡ naming
  pub put : call_put n d.extra ≡ writing

pub kept-after : (event file : ℕ) (entry : Record) (put : Option Written) → put_told entry ≡ put → (o p : Option (List TaggedByte)) → FileKept event put file o p → FileAfter event entry file o p
kept-after event file entry put h1 o p h2 = grind (arith, nat_tests)

right-by : (v : View) (n result : ℕ) (more : Extra) (act : Act) → stands_at v ≡ Call → n ≡ call_number v.body.cpu → call_act (kind_of n) v.body.cpu result more ≡ act → act_wrong v act more ≡ None → (pid : ℕ) → wrong_with v (stands_at v) (entry.Call pid n result more) ≡ None
right-by v n result more act h1 h2 h3 h4 pid = grind (arith, nat_tests, eq-eqb)

pub done-call : (m : Machine) (pid : ℕ) (v : View) (n : ℕ) (d : Doing) (name : NameChange) (put : Option Written) → At m pid v n → (HasNumbers d.kernel → CallTells m pid v n d name put) → KernelTells m.kernel m.events d.bytes d.outgoing (life_by pid d.act) name put d.kernel → DoneCall m pid v n d
done-call m pid v n d name put at call k =
    record { told = λ few. told (call few); living = k.living; sound = k.sound at.sound; grows = k.grows; few = k.few }
  where
    told : CallTells m pid v n d name put → EventTells m pid v d (entry.Call pid n (result_of d.act) d.extra)
    told c =
        record {
          inner = refl;
          process = refl;
          seen = at.seen;
          told = ap (λ (a : Act). Some a) c.told;
          right = right-by v n (result_of d.act) d.extra d.act at.stands at.number c.told c.fine pid;
          forks = c.forks;
          length = c.length;
          comes = c.comes;
          receives = c.receives;
          spans = c.spans;
          holds = k.holds;
          lives = λ q. k.living q ∙ ap (λ (l : LifeChange). lives_after l q (lives m.kernel q)) (sym c.life);
          names = λ path. k.names path ∙ ap (λ (c : NameChange). named_after c path (find_file m.kernel.files path)) (sym c.name);
          files = λ file. kept-after m.events file (entry.Call pid n (result_of d.act) d.extra) put c.put (file_bytes m.kernel.files file) (file_bytes d.kernel.files file) (k.kept file);
          last = k.last;
          writes = subst (WritesInside m.kernel.files) (sym c.put) k.writes;
          unplugged = k.unplugged;
        }

-- a call that returns, and moves nothing
pub record Plain (pid n : ℕ) (cpu : Cpu) (result : ℕ) (more : Extra) : Type 0 where
  pub told : call_act (kind_of n) cpu result more ≡ Returns result
  pub length : unwrap_or (held_len more) (plain_len n result more) ≡ 0
  pub life : call_life pid n result more ≡ NoLife
  pub put : call_put n more ≡ None
  pub gives : give_in more ≡ None

pub done-named : (m : Machine) (pid : ℕ) (v : View) (n result : ℕ) (more : Extra) (name : NameChange) (k : Kernel) → At m pid v n → Plain pid n v.body.cpu result more → call_name n more ≡ name → KernelTells m.kernel m.events [] None NoLife name None k → DoneCall m pid v n (returning result more k)
done-named m pid v n result more name k at p e t =
    done-call m pid v n (returning result more k) name None at
    (λ few. record { told = p.told; fine = refl; forks = tt; length = p.length; comes = tt; receives = p.gives; spans = tt; life = p.life; name = e; put = p.put })
    t

pub done-plain : (m : Machine) (pid : ℕ) (v : View) (n result : ℕ) (more : Extra) (k : Kernel) → At m pid v n → Plain pid n v.body.cpu result more → call_name n more ≡ NoName → Quiet m.kernel k → DoneCall m pid v n (returning result more k)
done-plain m pid v n result more k at p e q = done-named m pid v n result more NoName k at p e (quiet-tells m.kernel m.events [] k q)

-- a result that no act but a return has
abbrev pub is_error : ℕ → Bool
is_error result = not (is_success result) && (not (nat_le result MOST_TRANSFER) && not (result == 0))

abbrev isnt_exit : Kind → Bool
isnt_exit Exit = false
isnt_exit _ = true

either-isnt : (b : Bool) (x y : Kind) → isnt_exit x ≡ true → isnt_exit y ≡ true → isnt_exit (cond b x y) ≡ true
either-isnt true x y e f = e
either-isnt false x y e f = f

kind-isnt : (n : ℕ) → (n == number.EXIT) ≡ false → isnt_exit (kind_of n) ≡ true
kind-isnt n h1 = grind (arith, nat_tests, either-isnt, isnt_exit)

error-act : (kind : Kind) (cpu : Cpu) (result : ℕ) → isnt_exit kind ≡ true → is_success result ≡ false → nat_le result MOST_TRANSFER ≡ false → (result == 0) ≡ false → call_act kind cpu result extra.Nothing ≡ Returns result
error-act kind cpu result h1 h2 h3 h4 = grind (arith, nat_tests, and_right)

pub error-plain : (pid n : ℕ) (cpu : Cpu) (result : ℕ) → (n == number.EXIT) ≡ false → is_error result ≡ true → Plain pid n cpu result extra.Nothing
error-plain pid n cpu result h1 h2 = grind (arith, nat_tests, and_parts, and_right, error-act, kind-isnt, not-true)

-- refusals
abbrev pub are_errors : List Refusal → Bool
are_errors [] = true
are_errors (r ∷ refusals) = is_error (error r.number) && are_errors refusals

abbrev pub NoneApplies : List Refusal → Type 0
NoneApplies [] = Unit {0}
NoneApplies (r ∷ refusals) = (r.applies ≡ false) × NoneApplies refusals

pub refused-tells : (m : Machine) (pid : ℕ) (v : View) (n e : ℕ) → At m pid v n → (n == number.EXIT) ≡ false → is_error (error e) ≡ true → RequestTells m pid v n (refused e m.kernel)
refused-tells m pid v n e at x h = done-plain m pid v n (error e) extra.Nothing m.kernel at (error-plain pid n v.body.cpu (error e) x h) refl (quiet-refl m.kernel)

pub unless-refused : (m : Machine) (pid : ℕ) (v : View) (n : ℕ) (refusals : List Refusal) (goes_on : Request) → At m pid v n → (n == number.EXIT) ≡ false → are_errors refusals ≡ true → (NoneApplies refusals → RequestTells m pid v n goes_on) → RequestTells m pid v n (unless_refused m.kernel refusals goes_on)
unless-refused m pid v n [] goes_on at x h next = next tt
unless-refused m pid v n (r ∷ refusals) goes_on at x h next =
    let parts = and_parts (is_error (error r.number)) (are_errors refusals) h in
    by_test r.applies (refused-tells m pid v n r.number at x parts.0) (λ e. unless-refused m pid v n refusals goes_on at x parts.1 (λ none. next (e, none))) refl
  where
    by_test : (b : Bool) → RequestTells m pid v n (refused r.number m.kernel) → (r.applies ≡ false → RequestTells m pid v n (unless_refused m.kernel refusals goes_on)) → r.applies ≡ b → RequestTells m pid v n (if b then refused r.number m.kernel else unless_refused m.kernel refusals goes_on)
    by_test b h1 h2 h3 = grind (arith, nat_tests)
