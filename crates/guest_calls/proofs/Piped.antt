-- Reads from pipes and writes to them, carried out.
use Rattle.std.proofs.Common.{◌≡◌, ◌≢◌, ℕ, zero, suc, ◌+◌, ◌<◌, ◌≤◌, ◌==◌, min, Bool, true, false, cond, ◌||◌, List, [], ◌∷◌, length, take, set, Option, Some, None, refl, sym, ap, ◌∙◌, arith, subst, true≢false, ne_eqb}
use Rattle.std.specs.Prelude.{IsTrue, not, nat_lt, option_map, slice_set}
use Rattle.std.proofs.lemmas.Bool.{ltb-true}
use Rattle.std.proofs.lemmas.List.{length-map, length-take}
use Rattle.std.proofs.lemmas.Option.{none-some, same_Some}
use Rattle.std.proofs.Math.Nat.{suc-ne-zero}
use Rattle.arn_base.specs.declared.records.Extra.TheVariants as extra
use Rattle.arn_base.specs.declared.records.Give.{Give}
use Rattle.parts_model.specs.declared.limits.TheConstants.{MOST_PIPE_BYTES}
use Rattle.parts_model.specs.declared.refusals.TheConstants.{BROKEN_PIPE}
use Rattle.parts_model.specs.declared.tagged.TaggedByte.{TaggedByte}
use Rattle.parts_model.specs.Channel.{front, put_behind, without_front}
use Rattle.parts_model.specs.Numbered.{nth}
use Rattle.parts_model.specs.Pipes.{Pipe, Pipes, can_put, can_take, room, with_change, with_put, with_taken}
use Rattle.parts_model.specs.Tagged.{values, given}
use Rattle.acts_model.specs.Acts.{Act, Gives, Receives, done}
use Rattle.acts_model.specs.Moved.{PipeByte}
use Rattle.arn_model.specs.Doing.{Doing, Request, Waits, Does, refused, returns}
use Rattle.arn_model.specs.Kernel.{Handling, Kernel, Machine}
use Rattle.arn_model.specs.TransferCalls.{put_into_pipe, read_empty, read_pipe, read_queue, receiving, write_pipe}
use Rattle.guest_bodies.specs.Follows.{Follows, IsResult, KeepsWatches}
use Rattle.guest_bodies.specs.Shown.{Guests}
use Rattle.guest_channels.specs.Channels.{Channels, with_channels}
use Rattle.guest_pipes.specs.Answers.{holds}
use Rattle.guest_calls.specs.Acted.{Acted, Carried}
use Rattle.guest_calls.specs.Kept.{state_of}
use Rattle.guest_calls.specs.State.{State, OfProcess}
use Rattle.guest_requests.specs.Transfers.{CanDrain, CanPour, draining, pouring}
use Rattle.guest_calls.specs.declared.kernel.Kernel.TheInside.{Inside}
use Rattle.guest_calls.proofs.Carries.{acted-after}
use Rattle.guest_calls.proofs.Stands.{machine_with, of_process, acted-stands}
use Rattle.guest_calls.proofs.Watches.{handlings-same}

-- a pipe that is empty
empty-ready : (m : Machine) (written : Bool) → not written ≡ true → read_empty m written ≡ returns 0 m.kernel
empty-ready m true ready = absurd (true≢false (sym ready))
empty-ready m false ready = refl

module _ (m : Machine) (at most pipe : ℕ) (some : 0 < most) where
  -- a read that finds nothing
  queue-none : (n : ℕ) (p : Pipe) (queue : List TaggedByte) → 0 < n → (nat_lt 0 (length queue) || not p.has_writer) ≡ true → length (take n queue) ≡ 0 → read_queue m pipe at p (take n queue) ≡ returns 0 m.kernel
  queue-none zero p queue some ready none = absurd (omega arith)
  queue-none (suc n) p [] some ready none = empty-ready m p.has_writer ready
  queue-none (suc n) p (b ∷ queue) some ready none = absurd (suc-ne-zero (length (take n queue)) none)

  none-by : (o : Option Pipe) (give : Give) → option_map can_take o ≡ Some true → Some give ≡ option_map (λ p. given (front p.channel most)) o → length give.bytes ≡ 0 → read_pipe m pipe at most o ≡ returns 0 m.kernel
  none-by None give ready gives none = absurd (none-some give (sym gives))
  none-by (Some p) give ready gives none =
      queue-none most p p.channel.queue some (same_Some (can_take p) true ready)
      (sym (length-map (front p.channel most) (λ h. h.value)) ∙ (ap (λ (g : Give). length g.bytes) (sym (same_Some give (given (front p.channel most)) gives)) ∙ none))

  pub draining-none : (give : Give) → CanDrain m.kernel pipe → Some give ≡ option_map (λ p. given (front p.channel most)) (nth m.kernel.pipes pipe) → length give.bytes ≡ 0 → draining m at most pipe ≡ returns 0 m.kernel
  draining-none give ready gives none = none-by (nth m.kernel.pipes pipe) give ready gives none

-- a change of one pipe
changes-same : (pipes : Pipes) (n : ℕ) (p : Pipe) (f g : Pipe → Pipe) → nth pipes n ≡ Some p → f p ≡ g p → with_change pipes n f ≡ with_change pipes n g
changes-same pipes n p f g is same = ap (slice_set pipes n) (ap (option_map f) is ∙ (ap (λ (q : Pipe). Some q) same ∙ sym (ap (option_map g) is)))

set-nth : (pipes : Pipes) (n : ℕ) (x : Option Pipe) → nth pipes n ≡ x → set pipes n x ≡ pipes
set-nth [] n x is = refl
set-nth (p ∷ pipes) zero x is = ap (λ (q : Option Pipe). q ∷ pipes) (sym is)
set-nth (p ∷ pipes) (suc n) x is = ap (λ (qs : Pipes). p ∷ qs) (set-nth pipes n x is)

-- a pipe of which nothing is taken
taken-nothing : (p : Pipe) (most : ℕ) → length (front p.channel most) ≡ 0 → with_taken p most ≡ p
taken-nothing p most none =
    let zero-taken : min most (length p.channel.queue) ≡ 0 = sym (length-take most p.channel.queue) ∙ none in
    ap (λ (n : ℕ). record p { channel = without_front p.channel n }) zero-taken
    ∙ ap (λ (t : ℕ). record p { channel = record { taken = t; queue = p.channel.queue } }) (omega arith)

nothing-by : (pipes : Pipes) (n most : ℕ) (give : Give) (o : Option Pipe) → nth pipes n ≡ o → Some give ≡ option_map (λ p. given (front p.channel most)) o → length give.bytes ≡ 0 → with_change pipes n (λ p. with_taken p most) ≡ pipes
nothing-by pipes n most give None is gives none = absurd (none-some give (sym gives))
nothing-by pipes n most give (Some p) is gives none =
    changes-same pipes n p (λ q. with_taken q most) (λ q. q) is
    (taken-nothing p most (sym (length-map (front p.channel most) (λ h. h.value)) ∙ (ap (λ (g : Give). length g.bytes) (sym (same_Some give (given (front p.channel most)) gives)) ∙ none)))
    ∙ set-nth pipes n (option_map (λ q. q) (nth pipes n)) (sym (same-option (nth pipes n)))
  where
    same-option : (x : Option Pipe) → option_map (λ (q : Pipe). q) x ≡ x
    same-option None = refl
    same-option (Some q) = refl

-- a read that takes nothing leaves the pipes
pub nothing-taken : (pipes : Pipes) (n most : ℕ) (give : Give) → Some give ≡ option_map (λ p. given (front p.channel most)) (nth pipes n) → length give.bytes ≡ 0 → with_change pipes n (λ p. with_taken p most) ≡ pipes
nothing-taken pipes n most give gives none = nothing-by pipes n most give (nth pipes n) refl gives none

-- a process has done an act, and pipes have changed
channels-acted : (k : Inside) (pid : ℕ) (act : Act) (new : Guests) (c : Channels) → Follows k.bodies (done pid k.events act) new → KeepsWatches k.bodies new → Acted pid act (with_channels c (state_of k).kernel) (state_of k) (state_of (record k { bodies = new; channels = c; events = k.events + 1 }))
channels-acted k pid act new c follows keeps =
    record {
      follows = follows;
      kernel = ap (λ (h : List (Option Handling)). record (with_channels c (state_of k).kernel) { handling = h }) (handlings-same (length k.procs) k.bodies new keeps);
      events = refl;
    }

taken-same : (pipes : Pipes) (n most : ℕ) (p : Pipe) → nth pipes n ≡ Some p → with_change pipes n (λ q. with_taken q most) ≡ with_change pipes n (λ q. with_taken q (length (front p.channel most)))
taken-same pipes n most p is =
    changes-same pipes n p (λ q. with_taken q most) (λ q. with_taken q (length (front p.channel most))) is
    (ap (λ (i : ℕ). record p { channel = without_front p.channel i }) (omega (arith, length-take most p.channel.queue)))

queue-some : (m : Machine) (pipe at : ℕ) (p : Pipe) (held : List TaggedByte) → length held ≢ 0 → read_queue m pipe at p held ≡ Does (receiving at (PipeByte pipe p.channel.taken) held (record m.kernel { pipes = with_change m.kernel.pipes pipe (λ q. with_taken q (length held)) }))
queue-some m pipe at p [] some = absurd (some refl)
queue-some m pipe at p (b ∷ held) some = refl

module _ (k : Inside) (pid at most count pipe : ℕ) (give : Give) (new : Guests) (c : Channels) where
  drained-by : (o : Option Pipe) → nth k.channels.pipes pipe ≡ o → Some give ≡ option_map (λ p. given (front p.channel most)) o → count ≡ length give.bytes → count ≢ 0 → c ≡ record k.channels { pipes = with_change k.channels.pipes pipe (λ p. with_taken p most) } → Follows k.bodies (done pid k.events (Receives at give.bytes count)) new → KeepsWatches k.bodies new → OfProcess (state_of k) pid (λ m v. Carried (draining m at most pipe) (record { result = count; extra = extra.Give give }) m pid v (state_of (record k { bodies = new; channels = c; events = k.events + 1 })))
  drained-by None is gives counts some changed follows keeps = absurd (none-some give (sym gives))
  drained-by (Some p) is gives counts some changed follows keeps =
      let held : List TaggedByte = front p.channel most in
      let told : give ≡ given held = same_Some give (given held) gives in
      let bytes : give.bytes ≡ values held = ap (λ (g : Give). g.bytes) told in
      let long : count ≡ length held = counts ∙ (ap length bytes ∙ length-map held (λ h. h.value)) in
      let k' : Kernel = record (state_of k).kernel { pipes = with_change k.channels.pipes pipe (λ q. with_taken q (length held)) } in
      let changes : c ≡ record k.channels { pipes = with_change k.channels.pipes pipe (λ q. with_taken q (length held)) } = changed ∙ ap (λ (x : Pipes). record k.channels { pipes = x }) (taken-same k.channels.pipes pipe most p is) in
      let d : Doing = receiving at (PipeByte pipe p.channel.taken) held k' in
      let follows' : Follows k.bodies (done pid k.events (Receives at (values held) (length held))) new =
      subst (λ (x : List ℕ). Follows k.bodies (done pid k.events (Receives at x (length held))) new) bytes (subst (λ (n : ℕ). Follows k.bodies (done pid k.events (Receives at give.bytes n)) new) long follows) in
      let acted : Acted pid (Receives at (values held) (length held)) k' (state_of k) (state_of (record k { bodies = new; channels = c; events = k.events + 1 })) =
      subst (λ (x : Channels). Acted pid (Receives at (values held) (length held)) (with_channels x (state_of k).kernel) (state_of k) (state_of (record k { bodies = new; channels = c; events = k.events + 1 }))) changes
      (channels-acted k pid (Receives at (values held) (length held)) new c follows' keeps) in
      of_process (state_of k) pid (λ m v. Carried (draining m at most pipe) (record { result = count; extra = extra.Give give }) m pid v (state_of (record k { bodies = new; channels = c; events = k.events + 1 })))
      (λ b v shows sees. record {
        doing = d;
        is =
            ap (read_pipe (machine_with b (state_of k)) pipe at most) is
            ∙ queue-some (machine_with b (state_of k)) pipe at p held (λ (e : length held ≡ 0). some (long ∙ e));
        answers = long;
        extra = ap (λ (g : Give). extra.Give g) told;
        stands = acted-stands (state_of k) (state_of (record k { bodies = new; channels = c; events = k.events + 1 })) pid v b d shows acted refl;
      })

  -- a process has received the first bytes of a pipe
  pub drained-carried : Some give ≡ option_map (λ p. given (front p.channel most)) (nth k.channels.pipes pipe) → count ≡ length give.bytes → count ≢ 0 → c ≡ record k.channels { pipes = with_change k.channels.pipes pipe (λ p. with_taken p most) } → Follows k.bodies (done pid k.events (Receives at give.bytes count)) new → KeepsWatches k.bodies new → OfProcess (state_of k) pid (λ m v. Carried (draining m at most pipe) (record { result = count; extra = extra.Give give }) m pid v (state_of (record k { bodies = new; channels = c; events = k.events + 1 })))
  drained-carried gives counts some changed follows keeps = drained-by (nth k.channels.pipes pipe) refl gives counts some changed follows keeps

module _ (m : Machine) (at pipe : ℕ) (bytes : List ℕ) where
  -- the request of a pipe with this room
  abbrev poured : Pipe → Bool → Bool → Request
  poured p unread full = cond unread (refused BROKEN_PIPE m.kernel) (cond full Waits (Does (put_into_pipe m pipe at p (take (room p) bytes))))

some-room : (r : ℕ) → nat_lt 0 r ≡ true → (r == 0) ≡ false
some-room r some = ne_eqb r 0 (λ (e : r ≡ 0). omega (arith, e, ltb-true 0 r some))

-- the first bytes of the first bytes
take-twice : (n : ℕ) (bytes : List ℕ) → take n (take n bytes) ≡ take n bytes
take-twice zero bytes = refl
take-twice (suc n) [] = refl
take-twice (suc n) (b ∷ bytes) = ap (λ (bs : List ℕ). b ∷ bs) (take-twice n bytes)

put-same : (pipes : Pipes) (n event : ℕ) (bytes : List ℕ) (p : Pipe) → nth pipes n ≡ Some p → with_change pipes n (λ q. with_put q bytes event) ≡ with_change pipes n (λ q. with_put q (take (room p) bytes) event)
put-same pipes n event bytes p is =
    changes-same pipes n p (λ q. with_put q bytes event) (λ q. with_put q (take (room p) bytes) event) is
    (ap (λ (bs : List ℕ). record p { channel = put_behind p.channel event bs }) (sym (take-twice (room p) bytes)))

read-still : (unread : Bool) → (IsTrue unread → ⊥) → unread ≡ false
read-still true isnt = absurd (isnt refl)
read-still false isnt = refl

poured-is : (m : Machine) (at pipe : ℕ) (bytes : List ℕ) (p : Pipe) → can_put p ≡ true → not p.has_reader ≡ false → poured m at pipe bytes p (not p.has_reader) (room p == 0) ≡ Does (put_into_pipe m pipe at p (take (room p) bytes))
poured-is m at pipe bytes p ready reads =
    ap (λ (u : Bool). poured m at pipe bytes p u (room p == 0)) reads
    ∙ ap (λ (full : Bool). poured m at pipe bytes p false full) (some-room (room p) (with-room (nat_lt 0 (room p)) (ap (λ (u : Bool). nat_lt 0 (room p) || u) (sym reads) ∙ ready)))
  where
    with-room : (b : Bool) → (b || false) ≡ true → b ≡ true
    with-room true h = refl
    with-room false h = h

-- what a pipe takes of bytes, it takes of their first, where these are all or as many as a pipe holds
take-enough : (r n : ℕ) (bytes : List ℕ) → min r (length bytes) ≤ n → take r (take n bytes) ≡ take r bytes
take-enough zero n bytes enough = refl
take-enough (suc r) zero [] enough = refl
take-enough (suc r) (suc n) [] enough = refl
take-enough (suc r) zero (b ∷ bytes) enough = absurd (omega (arith, enough))
take-enough (suc r) (suc n) (b ∷ bytes) enough = ap (λ (bs : List ℕ). b ∷ bs) (take-enough r n bytes (omega (arith, enough)))

first-poured : (m : Machine) (at pipe few : ℕ) (bytes : List ℕ) (o : Option Pipe) → min MOST_PIPE_BYTES (length bytes) ≤ few → write_pipe m pipe at (take few bytes) o ≡ write_pipe m pipe at bytes o
first-poured m at pipe few bytes None enough = refl
first-poured m at pipe few bytes (Some p) enough =
    ap (λ (bs : List ℕ). cond (not p.has_reader) (refused BROKEN_PIPE m.kernel) (cond (room p == 0) Waits (Does (put_into_pipe m pipe at p bs))))
    (take-enough (room p) few bytes (omega (arith, enough)))

pub pouring-first : (m : Machine) (at count pipe few : ℕ) (bytes first : List ℕ) → length bytes ≡ count → few ≡ min count MOST_PIPE_BYTES → first ≡ take few bytes → pouring m at first pipe ≡ pouring m at bytes pipe
pouring-first m at count pipe few bytes first long most is =
    ap (λ (bs : List ℕ). pouring m at bs pipe) is
    ∙ first-poured m at pipe few bytes (nth m.kernel.pipes pipe) (omega (arith, long, most))

-- what a write does to the kernel
abbrev pub poured_into : ℕ → List ℕ → State → Kernel
poured_into pipe bytes s = record s.kernel { pipes = with_change s.kernel.pipes pipe (λ p. with_put p bytes s.events) }

module _ (old mid new : State) (pid at taken pipe : ℕ) (bytes : List ℕ) where
  poured-by : (o : Option Pipe) → nth old.kernel.pipes pipe ≡ o → option_map can_put o ≡ Some true → (holds (λ p. IsTrue (not p.has_reader)) o → ⊥) → Some taken ≡ option_map (λ p. min (length bytes) (room p)) o → mid ≡ record old { kernel = poured_into pipe bytes old } → ((act : Act) → IsResult act taken → Acted pid act mid.kernel mid new) → OfProcess old pid (λ m v. Carried (pouring m at bytes pipe) (record { result = taken; extra = extra.Nothing }) m pid v new)
  poured-by None is ready reads counts changed acts = absurd (none-some taken (sym counts))
  poured-by (Some p) is ready reads counts changed acts =
      let first : List ℕ = take (room p) bytes in
      let long : length first ≡ taken = omega (arith, length-take (room p) bytes, same_Some taken (min (length bytes) (room p)) counts) in
      let k : Kernel = record old.kernel { pipes = with_change old.kernel.pipes pipe (λ q. with_put q first old.events) } in
      let changes : mid ≡ record old { kernel = k } = changed ∙ ap (λ (x : Pipes). record old { kernel = record old.kernel { pipes = x } }) (put-same old.kernel.pipes pipe old.events bytes p is) in
      let acted : Acted pid (Gives at (length first) (length first)) k old new = acted-after pid (Gives at (length first) (length first)) k old mid new changes (acts (Gives at (length first) (length first)) long) in
      of_process old pid (λ m v. Carried (pouring m at bytes pipe) (record { result = taken; extra = extra.Nothing }) m pid v new)
      (λ b v shows sees.
      let m : Machine = machine_with b old in
      let d : Doing = put_into_pipe m pipe at p first in
      record {
        doing = d;
        is =
            ap (write_pipe m pipe at bytes) is
            ∙ poured-is m at pipe bytes p (same_Some (can_put p) true ready) (read-still (not p.has_reader) reads);
        answers = sym long;
        extra = refl;
        stands = acted-stands old new pid v b d shows acted refl;
      })

  -- a process has given a pipe bytes
  pub poured-carried : CanPour old.kernel pipe → (holds (λ p. IsTrue (not p.has_reader)) (nth old.kernel.pipes pipe) → ⊥) → Some taken ≡ option_map (λ p. min (length bytes) (room p)) (nth old.kernel.pipes pipe) → mid ≡ record old { kernel = poured_into pipe bytes old } → ((act : Act) → IsResult act taken → Acted pid act mid.kernel mid new) → OfProcess old pid (λ m v. Carried (pouring m at bytes pipe) (record { result = taken; extra = extra.Nothing }) m pid v new)
  poured-carried ready reads counts changed acts = poured-by (nth old.kernel.pipes pipe) refl ready reads counts changed acts
