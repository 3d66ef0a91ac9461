-- What a group alone has made, beside what was told of its members: with an instruction, an act, the boot, or a group's begin more.
use Rattle.std.proofs.Common.{◌≡◌, ℕ, ◌+◌, ◌≤◌, ◌==◌, if◌then◌else◌, length, max, Bool, true, false, List, [], Option, Some, None, IfSome, option_map, refl, sym, ap, subst, ◌∙◌, arith, eqb-true}
use Rattle.std.proofs.lemmas.Bool.Decides.{nat_tests}
use Rattle.std.proofs.lemmas.Option.{same_Some}
use Rattle.std.proofs.lemmas.Bool.{not-false}
use Rattle.arn_base.specs.declared.records.Extra.{Extra}
use Rattle.arn_base.specs.declared.records.Extra.TheVariants as extra
use Rattle.arn_base.specs.declared.records.Give.{Give}
use Rattle.arn_base.specs.declared.records.Record.{Record}
use Rattle.arn_base.specs.declared.records.Record.TheVariants as entry
use Rattle.arn_base.specs.declared.records.Start.{Start}
use Rattle.rv64_model.specs.Instruction.{Effect, Next}
use Rattle.parts_model.specs.Image.{is_image}
use Rattle.parts_model.specs.declared.limits.TheConstants.{WINDOW_LEN}
use Rattle.parts_model.specs.Replies.{is_success}
use Rattle.acts_model.specs.Acts.{Act, Returns, Starts, Forks, Founds, Delivers, Exits, Dies, beginning_in, begun, child_view, done, done_by, unborn}
use Rattle.acts_model.specs.Bodies.{Body, Bodies, View, put, seen, view}
use Rattle.acts_model.specs.Disagreement.{Wrong, act_wrong, is_other_call, isnt_call, or_else, wrong_if, wrong_with}
use Rattle.acts_model.specs.Records.{life_told, lives_after}
use Rattle.acts_model.specs.Told.{Kind, Fork, Exec, Wait, Read, Write, kind_of, call_act, act_of}
use Rattle.acts_model.specs.Transfers.{holds_of}
use Rattle.acts_model.specs.Views.{argument, stands_at, with_cpu}
use Rattle.history_model.specs.Alone.{Own, begins, plain_by, plain_in}
use Rattle.history_model.specs.Groups.{Groups, groups_told}
use Rattle.history_model.specs.Moments.{changed, segments_told}
use Rattle.past_lives.proofs.Bodies.{put-body}
use Rattle.past_lives.proofs.Does.{Does, IsFounded, act_groups, act_held, act_live, founds-does}
use Rattle.past_lives.proofs.Sizes.{HasSizes, StartsWell, acted-sizes, instr-sizes, zeros-len}
use Rattle.past_lives.proofs.Sound.{Fits, Marks, Sound, begun-sound, done-sound, fits-later, mark, mark-here, mark-same, put-sound, reach-body, sound-later}
use Rattle.past_lives.proofs.Tells.{IsChild, IsFounding, Lives, born-lives, is-live, lives-as, own-lives, put-lives}
use Rattle.window_laws.specs.Lengths.{KeepsLengths}

-- windows and segments are whole

pub record Sounds (n : ℕ) (b : Bodies) : Type 0 where
  pub shared : Marks
  pub sound : Sound shared n b

pub sounds-later : (n n' : ℕ) (b : Bodies) → n ≤ n' → Sounds n b → Sounds n' b
sounds-later n n' b le s = record { shared = s.shared; sound = sound-later s.shared s.shared n n' b (λ k l. refl) le s.sound }

record IsSized (shared : Marks) (n : ℕ) (v : View) : Type 0 where
  fits : Fits shared n (holds_of v.body)
  sizes : HasSizes v

is-sized : (shared : Marks) (n : ℕ) (b : Bodies) (pid : ℕ) (v : View) → Sound shared n b → seen b pid ≡ Some v → IsSized shared n v
is-sized shared n b pid v h1 h2 = grind (arith, nat_tests, same_Some)

plain-sounds : KeepsLengths → (n pid : ℕ) (b : Bodies) (v : View) (effect : Effect) → seen b pid ≡ Some v → stands_at v ≡ effect → Sounds n b
    → (own : Own) → own.bodies ≡ b → IfSome (plain_by pid own v effect) (λ (o : Own). Sounds n o.bodies)
plain-sounds keeps n pid b v (Next instr cpu memory) sees stands s own is = grind (arith, nat_tests, reach-body memory (with_cpu cpu v), put-sound s.shared, instr-sizes keeps v instr cpu memory (is-sized s.shared n b pid v s.sound sees).sizes stands)
plain-sounds keeps n pid b v _ sees stands s own is = tt

act-sounds : KeepsLengths → (event pid : ℕ) (b : Bodies) (v : View) (act : Act) → StartsWell v act → seen b pid ≡ Some v → Sounds event b → Sounds (event + 1) (done pid event act b)
act-sounds keeps event pid b v act well sees s =
    let z = is-sized s.shared event b pid v s.sound sees in
    let marks = mark event act s.shared in
    let same = mark-same event act s.shared in
    let later = sound-later s.shared marks event (event + 1) b same (omega arith) s.sound in
    let fits = fits-later s.shared marks event (event + 1) (holds_of v.body) same (omega arith) z.fits in
    let after : Bodies = done_by pid event act (Some v) b in
    let there : Sounds (event + 1) after = record {
      shared = marks;
      sound = done-sound marks event pid act v b (mark-here event act s.shared) fits z.sizes (acted-sizes keeps event act v well z.sizes) later;
    } in
    subst (Sounds (event + 1)) (sym (ap (λ (o : Option View). done_by pid event act o b) sees)) there

first-seen : (event : ℕ) (b : Bodies) → seen (put 1 (unborn event) b) 1 ≡ Some (view (put 1 (unborn event) b) (unborn event).body)
first-seen event b = ap (λ (o : Option Body). option_map (view (put 1 (unborn event) b)) o) (put-body 1 (unborn event) b 1)

boot-sounds : KeepsLengths → (event : ℕ) (file : List ℕ) (b : Bodies) → is_image file ≡ true → Sounds event b → Sounds (event + 1) (done 1 event (Starts file 0 0) (put 1 (unborn event) b))
boot-sounds keeps event file b image s =
    let act : Act = Starts file 0 0 in
    let u = unborn event in
    let marks = mark event act s.shared in
    let here = mark-here event act s.shared in
    let later = sound-later s.shared marks event (event + 1) b (mark-same event act s.shared) (omega arith) s.sound in
    let sizes : HasSizes u = record { window = zeros-len WINDOW_LEN; segment = tt } in
    let c = put 1 u b in
    let sound = put-sound marks (event + 1) 1 u b (record { window = (omega arith, here); segment = tt }) sizes later in
    let v = view c u.body in
    let sees = first-seen event b in
    let z = is-sized marks (event + 1) c 1 v sound sees in
    let after : Bodies = done_by 1 event act (Some v) c in
    let there : Sounds (event + 1) after = record {
      shared = marks;
      sound = done-sound marks event 1 act v c here z.fits z.sizes (acted-sizes keeps event act v (image, refl) z.sizes) sound;
    } in
    subst (Sounds (event + 1)) (sym (ap (λ (o : Option View). done_by 1 event act o c) sees)) there

begin-sounds : (event g : ℕ) (start : Start) (b : Bodies) → length (beginning_in start).window ≡ WINDOW_LEN → Sounds event b → Sounds (event + 1) (begun g event (beginning_in start) b)
begin-sounds event g start b len s =
    let marks = mark event Exits s.shared in
    let later = sound-later s.shared marks event (event + 1) b (mark-same event Exits s.shared) (omega arith) s.sound in
    record { shared = marks; sound = begun-sound marks event g (beginning_in start) b (mark-here event Exits s.shared) len later }

-- acts that their records' checks let pass

wrong_if-none : (test : Bool) (said found : ℕ) → wrong_if test said found ≡ None → test ≡ false
wrong_if-none true said found e = absurd (cc)
wrong_if-none false said found e = refl

or_else-none : (a b : Option Wrong) → or_else a b ≡ None → (a ≡ None) × (b ≡ None)
or_else-none None b e = (refl, e)
or_else-none (Some wrong) b e = absurd (cc)

if-well : (v : View) (b : Bool) (x y : Act) → StartsWell v x → StartsWell v y → StartsWell v (if b then x else y)
if-well v true x y h k = h
if-well v false x y h k = k

pub starts-well : (v : View) (file : List ℕ) (block len : ℕ) (more : Extra) → act_wrong v (Starts file block len) more ≡ None → StartsWell v (Starts file block len)
starts-well v file block len more h1 = grind (arith, nat_tests, or_else-none, not-false, wrong_if-none)

fork-well : (v : View) (result : ℕ) (more : Extra) → StartsWell v (call_act Fork v.body.cpu result more)
fork-well v result (extra.Start start) = if-well v (is_success result) (Founds result) (Returns result) tt tt
fork-well v result more = if-well v (is_success result) (Forks result) (Returns result) tt tt

exec-well : (v : View) (result : ℕ) (more : Extra) → act_wrong v (call_act Exec v.body.cpu result more) more ≡ None → StartsWell v (call_act Exec v.body.cpu result more)
exec-well v result (extra.Give give) e = starts-well v give.bytes (argument v.body.cpu 2) (argument v.body.cpu 3) (extra.Give give) e
exec-well v result more e = tt

wait-well : (v : View) (result : ℕ) (more : Extra) → StartsWell v (call_act Wait v.body.cpu result more)
wait-well v result (extra.Give give) = tt
wait-well v result more = tt

read-well : (v : View) (result : ℕ) (more : Extra) → StartsWell v (call_act Read v.body.cpu result more)
read-well v result more = grind (arith, nat_tests)

write-well : (v : View) (result : ℕ) (more : Extra) → StartsWell v (call_act Write v.body.cpu result more)
write-well v result more = grind (arith, nat_tests, if-well)

call-well : (v : View) (kind : Kind) (result : ℕ) (more : Extra) → act_wrong v (call_act kind v.body.cpu result more) more ≡ None → StartsWell v (call_act kind v.body.cpu result more)
call-well v kind result more h1 = grind (arith, nat_tests, exec-well, fork-well, if-well, read-well, wait-well, write-well)

pub record-well : (v : View) (effect : Effect) (e : Record) → wrong_with v effect e ≡ None → IfSome (act_of v.body.cpu e) (StartsWell v)
record-well v effect (entry.Boot name give) w = starts-well v give.bytes 0 0 extra.Nothing w
record-well v effect (entry.Signal pid signal cut handler) w = if-well v (handler == 0) (Dies signal cut) (Delivers signal handler cut) tt tt
record-well v effect (entry.Call pid number result more) w =
    let act = call_act (kind_of number) v.body.cpu result more in
    let a = or_else-none (isnt_call effect number) (or_else (is_other_call v.body.cpu number) (act_wrong v act more)) w in
    let b = or_else-none (is_other_call v.body.cpu number) (act_wrong v act more) a.1 in
    call-well v (kind_of number) result more b.1
record-well v effect _ w = tt

-- all that is kept: what is told of members, and, if blocks are whole, that windows are

pub record State (W : Type 0) (g n most : ℕ) (groups : Groups) (live : ℕ → Bool) (held : ℕ → Option ℕ) (own : Own) : Type 0 where
  pub lives : Lives g groups most live held own.bodies
  pub sounds : W → Sounds n own.bodies

abbrev pub live_after : Record → (ℕ → Bool) → ℕ → Bool
live_after e live p = lives_after (life_told e) p (live p)

-- an instruction of a process

same-lives : (g : ℕ) (groups : Groups) (most : ℕ) (live : ℕ → Bool) (held : ℕ → Option ℕ) (b : Bodies) (pid : ℕ) (v w : View) → seen b pid ≡ Some v → w.body.segment ≡ v.body.segment
    → Lives g groups most live held b → Lives g groups most live held (put pid w b)
same-lives g groups most live held b pid v w h1 h2 h3 = grind (arith, nat_tests, eqb-true, put-body, same_Some)

pub plain-state : (W : Type 0) (keeps : W → KeepsLengths) (g n most pid : ℕ) (groups : Groups) (live : ℕ → Bool) (held : ℕ → Option ℕ) (own : Own) → State W g n most groups live held own
    → IfSome (plain_in pid own (seen own.bodies pid)) (State W g n most groups live held)
plain-state W keeps g n most pid groups live held own s = by_view (seen own.bodies pid) refl
  where
    by_effect : (v : View) (effect : Effect) → seen own.bodies pid ≡ Some v → IfSome (plain_by pid own v effect) (λ (o : Own). W → Sounds n o.bodies) → IfSome (plain_by pid own v effect) (State W g n most groups live held)
    by_effect v effect h1 h2 = grind (arith, nat_tests, same-lives, reach-body)

    under : (o : Option Own) → (W → IfSome o (λ (o : Own). Sounds n o.bodies)) → IfSome o (λ (o : Own). W → Sounds n o.bodies)
    under o h1 = grind (arith, nat_tests)

    by_view : (o : Option View) → seen own.bodies pid ≡ o → IfSome (plain_in pid own o) (State W g n most groups live held)
    by_view None sees = tt
    by_view (Some v) sees =
        by_effect v (stands_at v) sees
        (under (plain_by pid own v (stands_at v)) (λ w. plain-sounds (keeps w) n pid own.bodies v (stands_at v) sees refl (s.sounds w) own refl))

-- the act of a member
pub act-state : (W : Type 0) (keeps : W → KeepsLengths) (g event most most' pid : ℕ) (groups : Groups) (live : ℕ → Bool) (held : ℕ → Option ℕ) (e : Record) (own : Own) (v : View) (act : Act)
    → Does event pid e act → most ≤ most' → IsChild most most' act → (IsFounding g act → ⊥) → groups pid ≡ Some g → seen own.bodies pid ≡ Some v → StartsWell v act
    → State W g event most groups live held own
    → (after : Own) → after.bodies ≡ done pid event act own.bodies → State W g (event + 1) most' (groups_told e groups) (live_after e live) (segments_told event e held) after
act-state W keeps g event most most' pid groups live held e own v act does more child unfounding is sees well s after bodies =
    record {
      lives = subst (Lives g (groups_told e groups) most' (live_after e live) (segments_told event e held)) (sym (bodies ∙ ends)) changes;
      sounds = λ w. subst (Sounds (event + 1)) (sym bodies) (act-sounds (keeps w) event pid own.bodies v act well sees (s.sounds w));
    }
  where
    ends : done pid event act own.bodies ≡ done_by pid event act (Some v) own.bodies
    ends = ap (λ (o : Option View). done_by pid event act o own.bodies) sees

    changes : Lives g (groups_told e groups) most' (live_after e live) (segments_told event e held) (done_by pid event act (Some v) own.bodies)
    changes =
        lives-as g (act_groups act pid groups) (groups_told e groups) most' (act_live act pid live) (live_after e live) (act_held event act pid held) (segments_told event e held) (done_by pid event act (Some v) own.bodies)
        (does.groups groups) (does.live live) (does.held held)
        (own-lives g event groups most most' live held own.bodies pid v act more child unfounding (is-live g groups most live held own.bodies pid v is sees s.lives) s.lives)

-- the boot
pub boot-state : (W : Type 0) (keeps : W → KeepsLengths) (g event most : ℕ) (groups : Groups) (live : ℕ → Bool) (held : ℕ → Option ℕ) (name : List ℕ) (give : Give) (own : Own) → is_image give.bytes ≡ true
    → State W g event most groups live held own
    → (after : Own) → after.bodies ≡ done 1 event (Starts give.bytes 0 0) (put 1 (unborn event) own.bodies)
    → State W g (event + 1) (max most 1) (groups_told (entry.Boot name give) groups) (live_after (entry.Boot name give) live) (segments_told event (entry.Boot name give) held) after
boot-state W keeps g event most groups live held name give own image s after bodies =
    record {
      lives = subst (Lives g (groups_told e groups) (max most 1) (live_after e live) (segments_told event e held)) (sym (bodies ∙ ends)) changes;
      sounds = λ w. subst (Sounds (event + 1)) (sym bodies) (boot-sounds (keeps w) event give.bytes own.bodies image (s.sounds w));
    }
  where
    e : Record
    e = entry.Boot name give

    ends : done 1 event (Starts give.bytes 0 0) (put 1 (unborn event) own.bodies) ≡ done_by 1 event (Starts give.bytes 0 0) (Some (view (put 1 (unborn event) own.bodies) (unborn event).body)) (put 1 (unborn event) own.bodies)
    ends = ap (λ (o : Option View). done_by 1 event (Starts give.bytes 0 0) o (put 1 (unborn event) own.bodies)) (first-seen event own.bodies)

    twice : (p : ℕ) → changed held 1 None p ≡ changed (changed held 1 None) 1 None p
    twice p = by_test (p == 1)
      where
        by_test : (t : Bool) → (if t then None else held p) ≡ (if t then None else if t then None else held p)
        by_test true = refl
        by_test false = refl

    begun_first : Lives g (changed groups 1 (Some 1)) (max most 1) (λ p. if 1 == p then true else live p) (changed held 1 None) (put 1 (unborn event) own.bodies)
    begun_first = born-lives g groups (Some 1) most (max most 1) live held own.bodies 1 (unborn event) None (omega arith) (omega arith) refl s.lives

    changes : Lives g (groups_told e groups) (max most 1) (live_after e live) (segments_told event e held) (done_by 1 event (Starts give.bytes 0 0) (Some (view (put 1 (unborn event) own.bodies) (unborn event).body)) (put 1 (unborn event) own.bodies))
    changes =
        lives-as g (changed groups 1 (Some 1)) (groups_told e groups) (max most 1) (λ p. if 1 == p then true else live p) (live_after e live) (changed (changed held 1 None) 1 None) (segments_told event e held) _
        (λ p. refl) (λ p. refl) twice
        (put-lives g (changed groups 1 (Some 1)) (max most 1) (λ p. if 1 == p then true else live p) (changed held 1 None) (put 1 (unborn event) own.bodies) 1 _ None refl refl begun_first)

-- the group begins
pub begins-state : (W : Type 0) (g event most most' pid n result : ℕ) (more : Extra) (groups : Groups) (live : ℕ → Bool) (held : ℕ → Option ℕ) (start : Start) (own : Own)
    → most ≤ most' → g ≤ most' → IsFounded g (entry.Call pid n result more) → (W → length (beginning_in start).window ≡ WINDOW_LEN) → State W g event most groups live held own
    → State W g (event + 1) most' (groups_told (entry.Call pid n result more) groups) (live_after (entry.Call pid n result more) live) (segments_told event (entry.Call pid n result more) held)
    (begins g event (entry.Call pid n result more) start own)
begins-state W g event most most' pid n result more groups live held start own le few founded len s =
    record {
      lives =
          lives-as g (changed groups g (Some g)) (groups_told e groups) most' (λ p. if g == p then true else live p) (live_after e live) (changed held g None) (segments_told event e held) _
          (does.groups groups) (does.live live) (does.held held)
          (born-lives g groups (Some g) most most' live held own.bodies g (child_view event (beginning_in start) None []) None le few refl s.lives);
      sounds = λ w. begin-sounds event g start own.bodies (len w) (s.sounds w);
    }
  where
    e : Record
    e = entry.Call pid n result more

    does : Does event pid (entry.Call pid n result more) (Founds g)
    does = founds-does g event pid n result more founded
