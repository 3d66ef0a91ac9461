-- The boot, in the whole machine and in group 1 alone.
use Rattle.std.proofs.Common.{◌≡◌, ℕ, ◌+◌, List, [], ◌++◌, length, refl, ap, ◌∙◌, sym, subst, append-nil, Option, Some, None, Bool, true, false, ◌==◌, cond, arith, is_some}
use Rattle.std.proofs.lemmas.Bool.Decides.{nat_tests}
use Rattle.std.proofs.lemmas.Bool.{eq-eqb, eqb-true, eqb-false}
use Rattle.std.proofs.lemmas.List.{length-replicate}
use Rattle.arn_base.specs.declared.records.Give.{Give}
use Rattle.arn_base.specs.declared.records.Record.{Record}
use Rattle.arn_base.specs.declared.records.Record.TheVariants as entry
use Rattle.parts_model.specs.declared.limits.TheConstants.{WINDOW_LEN}
use Rattle.parts_model.specs.Image.{is_image, read_as_image}
use Rattle.parts_model.specs.Memory.{zeros}
use Rattle.acts_model.specs.Acts.{Act, Starts, done, done_by, started, unborn}
use Rattle.acts_model.specs.Bodies.{Bodies, View, body_at, seen, put, laid_segment}
use Rattle.acts_model.specs.Moved.{Inside}
use Rattle.acts_model.specs.Transfers.{holds_of, transfer}
use Rattle.acts_model.specs.Views.{read}
use Rattle.history_model.specs.Alone.{Own, Makes, made_if, noted, boots}
use Rattle.history_model.specs.Groups.{Groups, is_number}
use Rattle.history_model.specs.Moments.{changed}
use Rattle.replay_laws.specs.Heard.{own_part}
use Rattle.replay_laws.proofs.Places.{put-body, put-memory}
use Rattle.replay_laws.proofs.Sized.{acted-whole}
use Rattle.replay_laws.proofs.Owned.{Owner, Private, changed-same, changed-other}
use Rattle.replay_laws.proofs.Agrees.{Joint, Good, if_own, joint-become, joint-later}
use Rattle.window_laws.specs.Lengths.{KeepsLengths}

-- what is put is seen
seen-put : (p : ℕ) (v : View) (b : Bodies) → v.body.segment ≡ None → v.segment ≡ [] → seen (put p v b) p ≡ Some v
seen-put p v b h1 h2 = grind (arith, nat_tests, eq-eqb, laid_segment, put-body, put-memory)

-- the first process sees zeros
zeros-length : (n : ℕ) → length (zeros n) ≡ n
unfolding zeros
zeros-length n = length-replicate {A = ℕ} n 0

unborn-whole : (event : ℕ) → length (unborn event).window ≡ WINDOW_LEN
unborn-whole event = zeros-length WINDOW_LEN

-- what a group alone has behind a boot
abbrev pub boot_act : List ℕ → Act
boot_act file = Starts file 0 0

abbrev pub boot_inside : ℕ → Record → List ℕ → Inside
boot_inside e r file = record { actor = Some 1; before = (unborn e).body.cpu; transfer = transfer 1 e (holds_of (unborn e).body) (boot_act file); event = Some (record { number = e; entry = r }) }

abbrev pub boot_bodies : ℕ → List ℕ → Bodies → Bodies
boot_bodies e file b = done 1 e (boot_act file) (put 1 (unborn e) b)

abbrev pub boot_own : Bool → ℕ → Record → List ℕ → Own → Own
boot_own b e r file own = cond b (noted (boot_inside e r file) (boot_bodies e file own.bodies) (record own { bodies = put 1 (unborn e) own.bodies })) own

-- the group alone boots, from a file that is an image
pub boot-made : (g e : ℕ) (path : List ℕ) (give : Give) (own : Own) (gs : Groups) → gs 1 ≡ Some 1 → is_image give.bytes ≡ true → made_if (g == 1) (Makes own) (boots e (entry.Boot path give)) ≡ Makes (boot_own (is_number g (gs 1)) e (entry.Boot path give) give.bytes own)
boot-made g e path give own gs h1 h2 = grind (arith, nat_tests, boot_act, boot_own, eq-eqb, eqb-false, eqb-true)

-- and what it does agrees
twice : (t : Bool) (f h : Bodies → Bodies) (o : Bodies) → cond t (f (cond t (h o) o)) (cond t (h o) o) ≡ cond t (f (h o)) o
twice true f h o = refl
twice false f h o = refl

boot-bodies : (e : ℕ) (file : List ℕ) (b : Bodies) → boot_bodies e file b ≡ put 1 (started e (read_as_image file) (read (unborn e) 0 0)) (put 1 (unborn e) b)
boot-bodies e file b = ap (λ (o : Option View). done_by 1 e (boot_act file) o (put 1 (unborn e) b)) (seen-put 1 (unborn e) b refl refl)

pub boot-joint : KeepsLengths → (g e : ℕ) (owner : ℕ → Owner) (gs : Groups) (file : List ℕ) (w o : Bodies) → is_image file ≡ true → Joint g owner gs e w o → Joint g (changed owner e (Private 1)) gs (e + 1) (boot_bodies e file w) (if_own (is_number g (gs 1)) (boot_bodies e file o) o)
boot-joint keeps g e owner gs file w o image h =
    let owner' = changed owner e (Private 1) in
    let v = unborn e in
    let v' = started e (read_as_image file) (read v 0 0) in
    let good : Good owner' gs (e + 1) 1 v = record { fits = record { window = (omega arith, changed-same owner e (Private 1)); segment = tt }; whole = unborn-whole e } in
    let good' : Good owner' gs (e + 1) 1 v' = record { fits = record { window = (omega arith, changed-same owner e (Private 1)); segment = tt }; whole = acted-whole keeps e (boot_act file) v (image, refl) (unborn-whole e) } in
    let born = joint-become g owner' gs (e + 1) 1 (Some v) w o good (joint-later g owner owner' gs e (e + 1) w o (λ k lt. changed-other owner e (Private 1) k (λ s. omega arith)) (omega arith) h) in
    let all = joint-become g owner' gs (e + 1) 1 (Some v') (put 1 v w) (if_own (is_number g (gs 1)) (put 1 v o) o) good' born in
    subst (λ (x : Bodies). Joint g owner' gs (e + 1) x (if_own (is_number g (gs 1)) (boot_bodies e file o) o)) (sym (boot-bodies e file w))
    (subst (λ (x : Bodies). Joint g owner' gs (e + 1) (put 1 v' (put 1 v w)) x)
    (twice (is_number g (gs 1)) (put 1 v') (put 1 v) o ∙ ap (λ (x : Bodies). cond (is_number g (gs 1)) x o) (sym (boot-bodies e file o))) all)

pub boot-own-bodies : (b : Bool) (e : ℕ) (r : Record) (file : List ℕ) (own : Own) → (boot_own b e r file own).bodies ≡ if_own b (boot_bodies e file own.bodies) own.bodies
boot-own-bodies true e r file own = refl
boot-own-bodies false e r file own = refl

pub boot-own-inside : (b : Bool) (e : ℕ) (r : Record) (file : List ℕ) (own : Own) → (boot_own b e r file own).inside ≡ own.inside ++ own_part b (boot_inside e r file)
boot-own-inside true e r file own = refl
boot-own-inside false e r file own = sym (append-nil own.inside)

-- process 1 lives then
pub boot-lives : (e : ℕ) (file : List ℕ) (w : Bodies) → is_some (body_at (boot_bodies e file w) 1) ≡ true
boot-lives e file w = grind (arith, nat_tests, boot-bodies, put-body)
