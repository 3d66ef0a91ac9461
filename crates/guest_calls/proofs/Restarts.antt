-- A process that starts anew from an image.
use Rattle.std.proofs.Common.{◌≡◌, ℕ, ◌+◌, ◌==◌, Bool, true, false, cond, List, length, Option, None, Some, IfSome, is_some, option_map, refl, sym, ap, ◌∙◌, subst}
use Rattle.std.proofs.lemmas.Bool.{eqb-true, eqb-false}
use Rattle.std.proofs.lemmas.Option.{same_Some}
use Rattle.arn_base.specs.declared.records.Extra.TheVariants as extra
use Rattle.arn_base.specs.declared.records.Give.{Give}
use Rattle.parts_model.specs.declared.refusals.TheConstants.{NOT_IMAGE}
use Rattle.parts_model.specs.declared.tagged.TaggedByte.{TaggedByte}
use Rattle.parts_model.specs.Files.{find_file, file_bytes}
use Rattle.parts_model.specs.Image.{is_image}
use Rattle.parts_model.specs.Numbered.{nth}
use Rattle.parts_model.specs.Signals.{no_handlers}
use Rattle.parts_model.specs.Tagged.{given, values}
use Rattle.acts_model.specs.Acts.{Act, Starts, done}
use Rattle.acts_model.specs.Bodies.{Bodies, View}
use Rattle.acts_model.specs.Views.{argument}
use Rattle.arn_model.specs.Doing.{Doing, Does, Request, refused}
use Rattle.arn_model.specs.Kernel.{Handling, Machine, with_handling}
use Rattle.arn_model.specs.ProcessCalls.{exec_bytes, exec_doing, exec_file}
use Rattle.guest_bodies.specs.Follows.{Follows, SetsWatch}
use Rattle.guest_bodies.specs.Shown.{Guests, Watch, restarted, seen_in, watch_in}
use Rattle.guest_calls.specs.Acted.{Acted, Carried}
use Rattle.guest_calls.specs.Kept.{IsKept, IsPast, IsSound, state_of}
use Rattle.guest_calls.specs.State.{State, OfProcess}
use Rattle.guest_calls.specs.declared.kernel.Kernel.TheInside.{Inside}
use Rattle.guest_calls.proofs.Carries.{argument-is}
use Rattle.guest_calls.proofs.Pieces.{live-numbered}
use Rattle.guest_calls.proofs.Stands.{machine_with, of_process, acted-stands}
use Rattle.guest_calls.proofs.Watches.{handlings-rewatched, live-watch}

module _ (k : Inside) (pid : ℕ) (new : Guests) (kept : IsKept k) (live : is_some (nth k.bodies pid) ≡ true) (sets : SetsWatch pid (option_map restarted (watch_in k.bodies pid)) k.bodies new) where
  watched-same : (o : Option Watch) → is_some (option_map restarted o) ≡ is_some o
  watched-same None = refl
  watched-same (Some w) = refl

  alive-at : (q : ℕ) (own : Bool) → (q == pid) ≡ own → is_some (watch_in new q) ≡ is_some (watch_in k.bodies q)
  alive-at q true e = subst (λ (i : ℕ). is_some (watch_in new i) ≡ is_some (watch_in k.bodies i)) (sym (eqb-true q pid e)) (ap is_some sets.own ∙ watched-same (watch_in k.bodies pid))
  alive-at q false e = ap is_some (sets.kept q (eqb-false q pid e))

  pub restarted-sound : (events : ℕ) → IsPast new events → IsSound new k.procs k.resources.files k.resources.descriptions k.booted events
  restarted-sound events past =
      record {
        made = kept.made;
        alive = λ q. live-watch new q ∙ (alive-at q (q == pid) refl ∙ (sym (live-watch k.bodies q) ∙ kept.alive q));
        full = kept.full;
        before = kept.before;
        closed = kept.closed;
        past = past;
      }

  pub restarted-acted : (image : List ℕ) (block len : ℕ) → Follows k.bodies (done pid k.events (Starts image block len)) new → Acted pid (Starts image block len) (with_handling pid (λ h. record h { handlers = no_handlers }) (state_of k).kernel) (state_of k) (state_of (record k { bodies = new; events = k.events + 1 }))
  restarted-acted image block len follows =
      let numbered = live-numbered k pid kept live in
      record {
        follows = follows;
        kernel =
            ap (λ (h : List (Option Handling)). record (state_of k).kernel { handling = h })
            (handlings-rewatched (length k.procs) k.bodies new pid restarted (λ h. record h { handlers = no_handlers }) (λ w. refl) numbered.0 numbered.1 sets.own sets.kept);
        events = refl;
      }

-- a file's bytes, by what was given of them
record IsGiven (o : Option (List TaggedByte)) (give : Give) : Type 0 where
  held : List TaggedByte
  there : o ≡ Some held
  gives : give ≡ given held

given-of : (o : Option (List TaggedByte)) (give : Give) → Some give ≡ option_map given o → IsGiven o give
given-of None give is = cc
given-of (Some held) give is = record { held = held; there = refl; gives = same_Some give (given held) is }

exec-is : (m : Machine) (pid file : ℕ) (v : View) (path : List ℕ) (held : List TaggedByte) (comes : Request) → find_file m.kernel.files path ≡ Some file → file_bytes m.kernel.files file ≡ Some held → exec_bytes m pid v file (Some held) ≡ comes → exec_file m pid v (find_file m.kernel.files path) ≡ comes
exec-is m pid file v path held comes found there is = ap (exec_file m pid v) found ∙ (ap (exec_bytes m pid v file) there ∙ is)

module _ (old : State) (pid file : ℕ) (path : List ℕ) (give : Give) (found : find_file old.kernel.files path ≡ Some file) (read : Some give ≡ option_map given (file_bytes old.kernel.files file)) where
  bytes : IsGiven (file_bytes old.kernel.files file) give
  bytes = given-of (file_bytes old.kernel.files file) give read

  tested : (image : Bool) → is_image give.bytes ≡ image → is_image (values bytes.held) ≡ image
  tested image is = ap (λ (g : Give). is_image g.bytes) (sym bytes.gives) ∙ is

  -- the file is no image
  pub not-image : (b : Bodies) (v : View) → is_image give.bytes ≡ false → exec_file (machine_with b old) pid v (find_file old.kernel.files path) ≡ refused NOT_IMAGE old.kernel
  not-image b v none =
      exec-is (machine_with b old) pid file v path bytes.held (refused NOT_IMAGE old.kernel) found bytes.there
      (ap (λ (t : Bool). cond t (Does (exec_doing (machine_with b old) pid v file bytes.held)) (refused NOT_IMAGE old.kernel)) (tested false none))

  -- it is one, and the process has started
  pub exec-carried : (new : State) (block len : ℕ) → is_image give.bytes ≡ true → IfSome (seen_in old.guests pid) (λ v. block ≡ argument v.body.cpu 2) → IfSome (seen_in old.guests pid) (λ v. len ≡ argument v.body.cpu 3) → Acted pid (Starts give.bytes block len) (with_handling pid (λ h. record h { handlers = no_handlers }) old.kernel) old new → OfProcess old pid (λ m v. Carried (exec_file m pid v (find_file m.kernel.files path)) (record { result = 0; extra = extra.Give give }) m pid v new)
  exec-carried new block len image at_block at_len acted =
      of_process old pid (λ m v. Carried (exec_file m pid v (find_file m.kernel.files path)) (record { result = 0; extra = extra.Give give }) m pid v new)
      (λ b v shows sees.
      let d : Doing = exec_doing (machine_with b old) pid v file bytes.held in
      let first : block ≡ argument v.body.cpu 2 = argument-is old pid 2 block v sees at_block in
      let second : len ≡ argument v.body.cpu 3 = argument-is old pid 3 len v sees at_len in
      let same : Starts give.bytes block len ≡ d.act = ap (λ (g : Give). Starts g.bytes block len) bytes.gives ∙ (ap (λ (x : ℕ). Starts (values bytes.held) x len) first ∙ ap (λ (x : ℕ). Starts (values bytes.held) (argument v.body.cpu 2) x) second) in
      record {
        doing = d;
        is =
            exec-is (machine_with b old) pid file v path bytes.held (Does d) found bytes.there
            (ap (λ (t : Bool). cond t (Does d) (refused NOT_IMAGE old.kernel)) (tested true image));
        answers = refl;
        extra = ap (λ (g : Give). extra.Give g) bytes.gives;
        stands = acted-stands old new pid v b d shows (subst (λ (a : Act). Acted pid a d.kernel old new) same acted) refl;
      })
