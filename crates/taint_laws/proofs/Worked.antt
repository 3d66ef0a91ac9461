-- Worked values of the definitions.
use Rattle.std.proofs.Common.{◌≡◌, ℕ, List, [], ◌∷◌, Some, None, false, refl}
use Rattle.arn_base.specs.declared.records.Record.TheVariants as entry
use Rattle.acts_model.specs.Moved.{Inside}
use Rattle.acts_model.specs.Transfers.{Transfer, Exits, Forks, Shares, Starts}
use Rattle.acts_model.specs.Views.{cpu_at}
use Rattle.taint_laws.specs.Follows.{heard_from, holders_from, none_heard, none_holds, with_booted}

-- a step that is an event of process 1
abbrev step : ℕ → Transfer → Inside
step event transfer = record { actor = Some 1; before = cpu_at 0; transfer = transfer; event = Some (record { number = event; entry = entry.Typed [] }) }

-- process 1 starts at event 3, gets a segment at event 5, and makes child 2 at event 6; then it ends at event 7
abbrev steps : List Inside
steps = step 3 (Starts 1 3 65536 0 None 0) ∷ step 5 (Shares 1 5) ∷ step 6 (Forks 1 2 3 6) ∷ step 7 (Exits 1) ∷ []

parent : holders_from steps none_holds 1 ≡ None
parent = refl

child : holders_from steps none_holds 2 ≡ Some (record { window = 6; segment = Some 5 })
child = refl

other : holders_from steps none_holds 3 ≡ None
other = refl

-- events 3, 5, 6 and 7 were heard, of which none has a byte, and 4 wasn't
heard : heard_from steps none_heard 6 ≡ Some (record { len = 0; founds = false })
heard = refl

unheard : heard_from steps none_heard 4 ≡ None
unheard = refl

-- a boot is of process 1, which nothing held before
booted : with_booted 3 (entry.Boot [] (record { bytes = []; origins = [] })) none_holds 1 ≡ Some (record { window = 3; segment = None })
booted = refl
