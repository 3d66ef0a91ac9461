-- The records tell who lives, and whether a process was made.
use Rattle.std.proofs.lemmas.Grind.{common_steps}
use Rattle.std.proofs.Common.{◌≡◌, ℕ, zero, suc, ◌≤◌, ◌==◌, ◌||◌, Bool, true, false, cond, nat_lt, List, [], ◌∷◌, Some, is_some, length, map, refl, sym, ◌∙◌, arith}
use Rattle.std.specs.List.{list_any}
use Rattle.std.proofs.lemmas.Bool.Decides.{nat_tests}
use Rattle.arn_base.specs.declared.records.Record.{Record}
use Rattle.arn_base.specs.declared.records.Record.TheVariants as entry
use Rattle.parts_model.specs.Processes as table
use Rattle.parts_model.specs.Processes.{Processes, live_process}
use Rattle.acts_model.specs.Bodies.{View, seen}
use Rattle.acts_model.specs.Moved.{Event}
use Rattle.acts_model.specs.Records.{life_told, lives_after}
use Rattle.arn_model.specs.Kernel as kernel
use Rattle.arn_model.specs.Kernel.{Kernel, Machine}
use Rattle.arn_model.specs.Run as run
use Rattle.arn_model.specs.Step.{Step}
use Rattle.arn_model.specs.Tells.{lives, is_inner}
use Rattle.history_model.specs.Moments.{lives_by}
use Rattle.history_model.specs.Names as names
use Rattle.replay_laws.proofs.TellsSteps.{Facts, by_event, fold_events, as_numbered}

-- The table after a boot: process 1 is the one that it makes. Its descriptors are opened one after the other
abbrev first_opened : Processes → ℕ → Processes
first_opened all n =
    table.with_change (table.with_change (table.with_change (table.booted all) 1 (table.placed n)) 1 (table.placed 0)) 1 (table.placed 0)

first-lives : (all : Processes) (n q : ℕ) → nat_lt 0 (length all) ≡ false → cond (1 == q) true (is_some (live_process all q)) ≡ is_some (live_process (first_opened all n) q)
first-lives all n q h1 = grind (arith, common_steps, nat_tests)

booted-lives : (k : Kernel) (q : ℕ) → nat_lt 0 (length k.processes) ≡ false → cond (1 == q) true (lives k q) ≡ lives (kernel.booted k) q
booted-lives k q none = first-lives k.processes (length k.descriptions) q none

-- who lives: one process, before and after an event
abbrev pub life_by : ℕ → ℕ → Record → Bool → Bool
life_by pid n e before = lives_after (life_told e) pid before

abbrev pub LifeIs : ℕ → Machine → Bool → Type 0
LifeIs pid m b = b ≡ lives m.kernel pid

pub life-keeps : (pid : ℕ) (m : Machine) (s : Step) (b : Bool) → Facts m s → LifeIs pid m b → LifeIs pid s.after (by_event (life_by pid) s.moved.inside.event b)
life-keeps pid m s b h1 h2 = grind (arith, nat_tests, booted-lives, by_event, life_by)

pub lives-fold : (pid : ℕ) (es : List Event) (b : Bool) → lives_by (map as_numbered es) pid b ≡ fold_events (life_by pid) es b
lives-fold pid [] b = refl
lives-fold pid (e ∷ es) b = lives-fold pid es (lives_after (life_told e.entry) pid b)

-- whether a process was made: where one is seen, it was, and it is never taken out of the table

past-none : (pid : ℕ) → is_some (live_process [] pid) ≡ true → ⊥
past-none zero is = cc
past-none (suc i) is = cc

made-of : (all : Processes) (pid : ℕ) → is_some (live_process all pid) ≡ true → nat_lt 0 (length all) ≡ true
made-of [] pid is = absurd (past-none pid is)
made-of (x ∷ all) pid is = grind (arith, nat_tests)

pub seen-booted : (m : Machine) (s : Step) (pid : ℕ) (v : View) → Facts m s → seen m.bodies pid ≡ Some v → run.is_booted m ≡ true
seen-booted m s pid v h1 h2 = grind (arith, nat_tests, made-of)

stays : (a b : ℕ) → a ≤ b → nat_lt 0 a ≡ true → nat_lt 0 b ≡ true
stays a b h e = grind (arith, nat_tests)

pub stays-booted : (m : Machine) (s : Step) → Facts m s → run.is_booted m ≡ true → run.is_booted s.after ≡ true
stays-booted m s facts is = stays (length m.kernel.processes) (length s.after.kernel.processes) facts.numbers is

pub boot-booted : (k : Kernel) → nat_lt 0 (length k.processes) ≡ false → nat_lt 0 (length (kernel.booted k).processes) ≡ true
boot-booted k none = made-of (kernel.booted k).processes 1 (sym (booted-lives k 1 none))

inner-boots : (e : Record) → is_inner e ≡ true → names.is_boot e ≡ false
inner-boots e h1 = grind (arith, nat_tests)

abbrev pub boot_by : ℕ → Record → Bool → Bool
boot_by n e before = before || names.is_boot e

abbrev pub BootIs : Machine → Bool → Type 0
BootIs m b = b ≡ run.is_booted m

or-none : (a b : Bool) → b ≡ false → (a || b) ≡ a
or-none true b e = refl
or-none false b e = e

or-some : (a : Bool) → (a || true) ≡ true
or-some true = refl
or-some false = refl

pub boot-keeps : (m : Machine) (s : Step) (b : Bool) → Facts m s → BootIs m b → BootIs s.after (by_event boot_by s.moved.inside.event b)
boot-keeps m s b h1 h2 = grind (arith, nat_tests, seen-booted, or-none, inner-boots, stays-booted, or-some, boot-booted)

or-assoc : (a b c : Bool) → (a || (b || c)) ≡ ((a || b) || c)
or-assoc true b c = refl
or-assoc false b c = refl

pub boots-fold : (es : List Event) (b : Bool) → (b || list_any names.is_boot (map (λ e. e.entry) es)) ≡ fold_events boot_by es b
boots-fold [] b = or-none b false refl
boots-fold (e ∷ es) b = or-assoc b (names.is_boot e.entry) (list_any names.is_boot (map (λ e. e.entry) es)) ∙ boots-fold es (b || names.is_boot e.entry)
