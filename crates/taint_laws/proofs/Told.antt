-- Told of steps, it goes on as tracking by lists does.
use Rattle.std.proofs.Common.{◌≡◌, ℕ, cond, List, [], ◌∷◌, ◌++◌, length, flat_map, Option, Some, None, IfSome, option_map, option_and_then, refl, sym, ap, subst, ◌∙◌, ne_eqb, arith}
use Rattle.std.proofs.lemmas.Bool.Decides.{nat_tests}
use Rattle.arn_base.specs.declared.machine.Cpu.{Cpu}
use Rattle.arn_base.specs.declared.records.Give.{Give}
use Rattle.arn_base.specs.declared.records.Record.{Record}
use Rattle.arn_base.specs.declared.records.Record.TheVariants as entry
use Rattle.rv64_isa.specs.declared.instruction.Instr.{Instr}
use Rattle.rv64_model.specs.declared.linkage.Linkage.{Linkage}
use Rattle.rv64_model.specs.Carries.{operands}
use Rattle.parts_model.specs.Image.{read_as_image}
use Rattle.acts_model.specs.Acts as act
use Rattle.acts_model.specs.Acts.{Act}
use Rattle.acts_model.specs.Moved.{Inside}
use Rattle.acts_model.specs.Records.{process_of}
use Rattle.acts_model.specs.Told.{act_of}
use Rattle.acts_model.specs.Transfers.{Holds, Transfer, Forks}
use Rattle.lineage_model.specs.Tracking.{EventByte, Tracked, alone_after, alone_from, untracked}
use Rattle.replay_steps.specs.Notices as notice
use Rattle.replay_steps.specs.Notices.{Notice, Listener, Says, Told, notices, booted, joined}
use Rattle.taint_state.specs.Goes.{AreApart, ArePossible, GoesBy, GoesIf, Hearings, IsOwn, IsPossible, IsUnheldBy, StayApart, begin_inside, heard_after, hearings_of}
use Rattle.taint_state.specs.Shown.{Shows, Tracking}
use Rattle.taint_state.specs.Steps.{Holders, event_by, event_inside, event_of, event_step, fresh_holds, holders_after, holders_of, instr_inside, instr_step, with_holder}
use Rattle.taint_laws.specs.Follows.{AreNew, AreSteps, IsNew, IsStep, heard_from, holders_from, none_heard, none_holds, Steps, Hears, Starts as StartsGroup, with_booted}
use Rattle.taint_laws.specs.Laws.{ToldHears, ToldHolds, ToldShows, following}
use Rattle.taint_laws.proofs.Boots.{begin-again, start_inside}

abbrev plainly : Listener Tracking
plainly = following (λ (x : Tracking). x)

some-inj : (a b : Inside) → Some a ≡ Some b → a ≡ b
some-inj a b e = cc

told-append : (a b : List Notice) (x y : Tracking) → Told plainly (a ++ b) x y → (z : Tracking) × Told plainly a x z × Told plainly b z y
told-append [] b x y h = (x, refl, h)
told-append (n ∷ a) b x y h = let rest = told-append a b h.0 y h.2 in (rest.0, (h.0, h.1, rest.1), rest.2)

-- a child that joins its parent's group began with the fork
joined-same : (event : ℕ) (tr : Transfer) (x y : Tracking) → Told plainly (joined event tr) x y → y ≡ x
joined-same event (Forks pid child from into) x y h = sym h.2 ∙ h.1
joined-same event tr x y h = sym h

-- it has gone on by a step to what shows more
record GoesTo (i : Inside) (x z : Tracking) (t : Tracked EventByte) : Type 0 where
  linkage : z.linkage ≡ x.linkage
  holders : (pid : ℕ) → holders_of z pid ≡ holders_after i.transfer (holders_of x) pid
  heard : (event : ℕ) → hearings_of z event ≡ heard_after i (hearings_of x) event
  shows : Shows z (alone_after (operands x.linkage) i t)

by-step : (i : Inside) (x z : Tracking) (t : Tracked EventByte) → GoesBy i x z → AreApart (holders_of x) → IsPossible (holders_of x) (hearings_of x) i.transfer → Shows x t → GoesTo i x z t
by-step i x z t goes apart possible shows = record { linkage = goes.linkage; holders = goes.holders; heard = goes.heard; shows = goes.shows apart possible t shows }

abbrev Going : Tracking → Tracking → Tracked EventByte → Inside → Type 0
Going x z t i = AreApart (holders_of x) → IsPossible (holders_of x) (hearings_of x) i.transfer → IsNew (hearings_of x) i.event → Told plainly (notices i) x z → Shows x t → GoesTo i x z t

-- an instruction
instr-inside : (pid : ℕ) (instr : Instr) (before : Cpu) (i : Inside) (o : Option Holds) → option_map (instr_inside pid instr before) o ≡ Some i → (holds : Holds) × (i ≡ instr_inside pid instr before holds)
instr-inside pid instr before i None e = absurd (cc)
instr-inside pid instr before i (Some holds) e = (holds, sym (some-inj (instr_inside pid instr before holds) i e))

instr-going : (x z : Tracking) (t : Tracked EventByte) (pid : ℕ) (instr : Instr) (before : Cpu) (holds : Holds) → instr_step (holders_of x) pid instr before ≡ Some (instr_inside pid instr before holds) → Going x z t (instr_inside pid instr before holds)
instr-going x z t pid instr before holds h1 = grind (arith, nat_tests, by-step)

-- the group's first process
begin-going : (x z : Tracking) (t : Tracked EventByte) (pid event : ℕ) (e : Record) (before : Cpu) → Going x z t (begin_inside pid event e before)
begin-going x z t pid event e before apart possible new told shows =
    let i = begin_inside pid event e before in
    by-step i x z t (subst (λ y. GoesBy i x y) told.2 (told.1 e before)) apart possible shows

-- an event
record IsOfAct (event : ℕ) (e : Record) (i : Inside) : Type 0 where
  pid : ℕ
  holds : Holds
  act : Act
  is : i ≡ event_inside pid event e i.before holds act

of-act : (h : Holders) (event : ℕ) (e : Record) (i : Inside) → event_step h event e i.before ≡ Some i → IsOfAct event e i
of-act h event e i s = by_process (process_of e) s
  where
    by_parts : (pid : ℕ) (a : Option Holds) (b : Option Act) → event_by pid event e i.before a b ≡ Some i → IsOfAct event e i
    by_parts pid None b k = absurd (cc)
    by_parts pid (Some holds) None k = absurd (cc)
    by_parts pid (Some holds) (Some act) k = record { pid = pid; holds = holds; act = act; is = sym (some-inj (event_inside pid event e i.before holds act) i k) }

    by_process : (o : Option ℕ) → option_and_then (event_of h event e i.before) o ≡ Some i → IsOfAct event e i
    by_process None k = absurd (cc)
    by_process (Some pid) k = by_parts pid (h pid) (act_of i.before e) k

abbrev EventNotices : ℕ → Record → Inside → Type 0
EventNotices event e i = notices i ≡ booted event e ++ notice.Happens event e i.before ∷ joined event i.transfer

act-notices : (pid event : ℕ) (e : Record) (before : Cpu) (holds : Holds) (a : Act) → EventNotices event e (event_inside pid event e before holds a)
act-notices pid event e before holds a = grind (arith, nat_tests)

event-notices : (h : Holders) (event : ℕ) (e : Record) (i : Inside) → event_step h event e i.before ≡ Some i → EventNotices event e i
event-notices h event e i s = let of = of-act h event e i s in subst (EventNotices event e) (sym of.is) (act-notices of.pid event e i.before of.holds of.act)

-- but a boot
event-going : (x z : Tracking) (t : Tracked EventByte) (event : ℕ) (e : Record) (i : Inside) → booted event e ≡ [] → event_step (holders_of x) event e i.before ≡ Some i → Going x z t i
event-going x z t event e i h1 h2 = grind (arith, nat_tests, by-step, event-notices, joined-same, plainly)

pub with-same : (h : Holders) (pid p : ℕ) (o : Option Holds) → with_holder pid o (with_holder pid o h) p ≡ with_holder pid o h p
with-same h pid p o = grind (arith, nat_tests)

own-still : (h : Holders) (pid made : ℕ) (o : Option Holds) → IsOwn h pid made → IsOwn (with_holder pid o h) pid made
own-still h pid made o own p ne = subst (λ b. IfSome (cond b o (h p)) (IsUnheldBy made)) (sym (ne_eqb p pid ne)) (own p ne)

-- a boot: process 1 begins, and starts
abbrev boot_inside : ℕ → List ℕ → Give → Cpu → Inside
boot_inside event name give before = start_inside (read_as_image give.bytes).load (length give.bytes) event (entry.Boot name give) before

boot-going : (stay : StayApart) (x z : Tracking) (t : Tracked EventByte) (event : ℕ) (name : List ℕ) (give : Give) (before : Cpu) → Going x z t (boot_inside event name give before)
boot-going stay x z t event name give before apart possible new told shows =
    let e : Record = entry.Boot name give in
    let i = boot_inside event name give before in
    let w = told.0 in
    let first : GoesBy (begin_inside 1 event e before) x w = told.1 e before in
    let begun : holders_of w ≡ with_holder 1 (Some (fresh_holds event)) (holders_of x) = λ k. λ pid. first.holders pid k in
    let still : hearings_of w ≡ hearings_of x = λ k. λ n. first.heard n k in
    let u = told.2.0 in
    let second : GoesBy i w u = subst (λ (h : Holders). GoesIf (event_step h event e before) w u) begun told.2.1 in
    let same : z ≡ u = sym told.2.2 in
    let shown = first.shows apart (possible.0, new) t shows in
    let apart_then = subst AreApart (sym begun) (stay (holders_of x) (hearings_of x) (begin_inside 1 event e before).transfer apart (possible.0, new)) in
    let possible_then = subst (λ (h : Holders). IsPossible h (hearings_of w) i.transfer) (sym begun) (own-still (holders_of x) 1 event (Some (fresh_holds event)) possible.0, tt) in
    let ends = second.shows apart_then possible_then (alone_after (operands x.linkage) (begin_inside 1 event e before) t) shown in
    let linked = subst (λ (k : Linkage). Shows u (alone_after (operands k) i (alone_after (operands x.linkage) (begin_inside 1 event e before) t))) first.linkage ends in
    let again = subst (λ s. Shows u s) (begin-again (operands x.linkage) (read_as_image give.bytes).load (length give.bytes) event e before t) linked in
    let goes : GoesTo i x u t = record {
      linkage = second.linkage ∙ first.linkage;
      holders = λ pid. second.holders pid ∙ ap (λ (h : Holders). holders_after i.transfer h pid) begun ∙ with-same (holders_of x) 1 pid (Some (fresh_holds event));
      heard = λ n. second.heard n ∙ ap (λ (h : Hearings). heard_after i h n) still;
      shows = again;
    } in
    subst (λ y. GoesTo i x y t) (sym same) goes

hears-going : (stay : StayApart) (x z : Tracking) (t : Tracked EventByte) (event : ℕ) (e : Record) (i : Inside) → event_step (with_booted event e (holders_of x)) event e i.before ≡ Some i → Going x z t i
hears-going stay x z t event (entry.Boot name give) i s = subst (Going x z t) (some-inj (boot_inside event name give i.before) i s) (boot-going stay x z t event name give i.before)
hears-going stay x z t event (entry.File name bytes) i s = event-going x z t event (entry.File name bytes) i refl s
hears-going stay x z t event (entry.Typed bytes) i s = event-going x z t event (entry.Typed bytes) i refl s
hears-going stay x z t event (entry.Unplug device) i s = event-going x z t event (entry.Unplug device) i refl s
hears-going stay x z t event (entry.Slice pid ran) i s = event-going x z t event (entry.Slice pid ran) i refl s
hears-going stay x z t event (entry.Signal pid signal cut handler) i s = event-going x z t event (entry.Signal pid signal cut handler) i refl s
hears-going stay x z t event (entry.Call pid number result more) i s = event-going x z t event (entry.Call pid number result more) i refl s
hears-going stay x z t event (entry.End pid status) i s = event-going x z t event (entry.End pid status) i refl s

step-going : (stay : StayApart) (x z : Tracking) (t : Tracked EventByte) (i : Inside) → IsStep (holders_of x) i → Going x z t i
step-going stay x z t i (Steps pid instr e) =
    let of = instr-inside pid instr i.before i (holders_of x pid) e in
    subst (Going x z t) (sym of.1) (instr-going x z t pid instr i.before of.0 (e ∙ ap (λ (j : Inside). Some j) of.1))
step-going stay x z t i (Hears event e s) = hears-going stay x z t event e i s
step-going stay x z t i (StartsGroup pid event e is) = subst (Going x z t) (sym is) (begin-going x z t pid event e i.before)

told-from : (stay : StayApart) (list : List Inside) (linkage : Linkage) (h : Holders) (heard : Hearings) (x y : Tracking) (t : Tracked EventByte)
    → x.linkage ≡ linkage → holders_of x ≡ h → hearings_of x ≡ heard → AreApart h → AreSteps h list → ArePossible h heard list → AreNew heard list
    → Told plainly (flat_map notices list) x y → Shows x t → Shows y (alone_from (operands linkage) list t)
told-from stay [] linkage h heard x y t l hs es apart steps possible new told shows = subst (λ z. Shows z t) told shows
told-from stay (i ∷ list) linkage h heard x y t l hs es apart steps possible new told shows =
    let parts = told-append (notices i) (flat_map notices list) x y told in
    let z = parts.0 in
    let possible_here = subst (λ k. IsPossible k (hearings_of x) i.transfer) (sym hs) (subst (λ k. IsPossible h k i.transfer) (sym es) possible.0) in
    let goes = step-going stay x z t i (subst (λ k. IsStep k i) (sym hs) steps.0) (subst AreApart (sym hs) apart) possible_here (subst (λ k. IsNew k i.event) (sym es) new.0) parts.1 shows in
    told-from stay list linkage (holders_after i.transfer h) (heard_after i heard) z y (alone_after (operands linkage) i t)
    (goes.linkage ∙ l)
    ((λ k. λ pid. goes.holders pid k) ∙ ap (λ (k : Holders). holders_after i.transfer k) hs)
    ((λ k. λ event. goes.heard event k) ∙ ap (λ (k : Hearings). heard_after i k) es)
    (stay h heard i.transfer apart possible.0) steps.1 possible.1 new.1 parts.2 (subst (λ k. Shows z (alone_after (operands k) i t)) l goes.shows)

-- and it has heard their events
heard-told : (stay : StayApart) (list : List Inside) (linkage : Linkage) (h : Holders) (heard : Hearings) (x y : Tracking) (t : Tracked EventByte)
    → x.linkage ≡ linkage → holders_of x ≡ h → hearings_of x ≡ heard → AreApart h → AreSteps h list → ArePossible h heard list → AreNew heard list
    → Told plainly (flat_map notices list) x y → Shows x t → (event : ℕ) → hearings_of y event ≡ heard_from list heard event
heard-told stay [] linkage h heard x y t l hs es apart steps possible new told shows event = ap (λ (z : Tracking). hearings_of z event) (sym told) ∙ ap (λ (k : Hearings). k event) es
heard-told stay (i ∷ list) linkage h heard x y t l hs es apart steps possible new told shows event =
    let parts = told-append (notices i) (flat_map notices list) x y told in
    let z = parts.0 in
    let possible_here = subst (λ k. IsPossible k (hearings_of x) i.transfer) (sym hs) (subst (λ k. IsPossible h k i.transfer) (sym es) possible.0) in
    let goes = step-going stay x z t i (subst (λ k. IsStep k i) (sym hs) steps.0) (subst AreApart (sym hs) apart) possible_here (subst (λ k. IsNew k i.event) (sym es) new.0) parts.1 shows in
    heard-told stay list linkage (holders_after i.transfer h) (heard_after i heard) z y (alone_after (operands linkage) i t)
    (goes.linkage ∙ l)
    ((λ k. λ pid. goes.holders pid k) ∙ ap (λ (k : Holders). holders_after i.transfer k) hs)
    ((λ k. λ event. goes.heard event k) ∙ ap (λ (k : Hearings). heard_after i k) es)
    (stay h heard i.transfer apart possible.0) steps.1 possible.1 new.1 parts.2 (subst (λ k. Shows z (alone_after (operands k) i t)) l goes.shows) event

-- and its members hold what those of the steps hold
holds-told : (stay : StayApart) (list : List Inside) (linkage : Linkage) (h : Holders) (heard : Hearings) (x y : Tracking) (t : Tracked EventByte)
    → x.linkage ≡ linkage → holders_of x ≡ h → hearings_of x ≡ heard → AreApart h → AreSteps h list → ArePossible h heard list → AreNew heard list
    → Told plainly (flat_map notices list) x y → Shows x t → (pid : ℕ) → holders_of y pid ≡ holders_from list h pid
holds-told stay [] linkage h heard x y t l hs es apart steps possible new told shows pid = ap (λ (z : Tracking). holders_of z pid) (sym told) ∙ ap (λ (k : Holders). k pid) hs
holds-told stay (i ∷ list) linkage h heard x y t l hs es apart steps possible new told shows pid =
    let parts = told-append (notices i) (flat_map notices list) x y told in
    let z = parts.0 in
    let possible_here = subst (λ k. IsPossible k (hearings_of x) i.transfer) (sym hs) (subst (λ k. IsPossible h k i.transfer) (sym es) possible.0) in
    let goes = step-going stay x z t i (subst (λ k. IsStep k i) (sym hs) steps.0) (subst AreApart (sym hs) apart) possible_here (subst (λ k. IsNew k i.event) (sym es) new.0) parts.1 shows in
    holds-told stay list linkage (holders_after i.transfer h) (heard_after i heard) z y (alone_after (operands linkage) i t)
    (goes.linkage ∙ l)
    ((λ k. λ p. goes.holders p k) ∙ ap (λ (k : Holders). holders_after i.transfer k) hs)
    ((λ k. λ event. goes.heard event k) ∙ ap (λ (k : Hearings). heard_after i k) es)
    (stay h heard i.transfer apart possible.0) steps.1 possible.1 new.1 parts.2 (subst (λ k. Shows z (alone_after (operands k) i t)) l goes.shows) pid

none-apart : AreApart none_holds
none-apart = grind (arith, nat_tests)

-- told of what it keeps, so is it of what that shows
module _ {A : Type 0} (shown : A → Tracking) where
  says-shown : (n : Notice) (x y : A) → Says (following shown) n x y → Says plainly n (shown x) (shown y)
  says-shown n x y h1 = grind (arith, nat_tests)

  told-shown : (ns : List Notice) (x y : A) → Told (following shown) ns x y → Told plainly ns (shown x) (shown y)
  told-shown [] x y h = ap shown h
  told-shown (n ∷ ns) x y h = (shown h.0, says-shown n x h.0 h.1, told-shown ns h.0 y h.2)

  pub told-shows : StayApart → ToldShows shown
  told-shows stay linkage list x y steps possible new from told =
      told-from stay list linkage none_holds none_heard (shown x) (shown y) untracked (ap (λ (z : Tracking). z.linkage) from) (ap holders_of from) (ap hearings_of from) none-apart steps possible new
      (told-shown (flat_map notices list) x y told) (subst (λ z. Shows z untracked) (sym from) (record { members = λ pid. tt; heard = λ event. tt }))

  pub told-hears : StayApart → ToldHears shown
  told-hears stay linkage list x y steps possible new from told =
      heard-told stay list linkage none_holds none_heard (shown x) (shown y) untracked (ap (λ (z : Tracking). z.linkage) from) (ap holders_of from) (ap hearings_of from) none-apart steps possible new
      (told-shown (flat_map notices list) x y told) (subst (λ z. Shows z untracked) (sym from) (record { members = λ pid. tt; heard = λ event. tt }))

  pub told-holds : StayApart → ToldHolds shown
  told-holds stay linkage list x y steps possible new from told =
      holds-told stay list linkage none_holds none_heard (shown x) (shown y) untracked (ap (λ (z : Tracking). z.linkage) from) (ap holders_of from) (ap hearings_of from) none-apart steps possible new
      (told-shown (flat_map notices list) x y told) (subst (λ z. Shows z untracked) (sym from) (record { members = λ pid. tt; heard = λ event. tt }))
