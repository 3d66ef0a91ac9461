-- The calls on signals and segments at literal values.
use Rattle.std.proofs.Common.{◌≡◌, [], ◌∷◌, Some, None, replicate, true, refl}
use Rattle.arn_base.specs.declared.records.Extra.TheVariants as extra
use Rattle.parts_model.specs.Processes.{Ended, none_open}
use Rattle.parts_model.specs.Signals.{with_handler, with_pending, no_handlers, none_pending}
use Rattle.acts_model.specs.Acts.{Act, Shares, Leaves}
use Rattle.acts_model.specs.Bodies.{View}
use Rattle.acts_model.specs.Moved.{Nothing}
use Rattle.acts_model.specs.Views.{cpu_at}
use Rattle.arn_model.specs.Doing.{Request, Does}
use Rattle.arn_model.specs.Kernel.{Kernel}
use Rattle.arn_model.specs.Row.{row}
use Rattle.arn_model.proofs.Literals.{minus, calling, byte, living, quiet, kernel, at_event_5, results}

-- process 1, a live child 2 and an ended child 3
family : Kernel
family =
    record kernel {
      processes = living None [] ∷ living (Some 1) [] ∷ Some (record { life = Ended (byte 0 4 0); parent = Some 1; descriptors = none_open }) ∷ [];
      handling = quiet ∷ quiet ∷ None ∷ [];
    }

-- kill: signal 31 is pending for process 2 from now on; one may signal oneself
kill :
    (row 6 (at_event_5 family) 1 (calling (2 ∷ 31 ∷ [])) ≡
    results 0
    (record family { handling = quiet ∷ Some (record { handlers = no_handlers; pending = with_pending none_pending 31 true }) ∷ None ∷ [] }))
    × (row 6 (at_event_5 family) 1 (calling (1 ∷ 1 ∷ [])) ≡
    results 0
    (record family { handling = Some (record { handlers = no_handlers; pending = with_pending none_pending 1 true }) ∷ quiet ∷ None ∷ [] }))
    -- -22 before -3
    × (row 6 (at_event_5 family) 1 (calling (9 ∷ 0 ∷ [])) ≡ results (minus 22) family)
    × (row 6 (at_event_5 family) 1 (calling (9 ∷ 32 ∷ [])) ≡ results (minus 22) family)
    -- there is no process 0 and none that isn't made yet, and one that has ended isn't live
    × (row 6 (at_event_5 family) 1 (calling (0 ∷ 9 ∷ [])) ≡ results (minus 3) family)
    × (row 6 (at_event_5 family) 1 (calling (4 ∷ 9 ∷ [])) ≡ results (minus 3) family)
    × (row 6 (at_event_5 family) 1 (calling (3 ∷ 9 ∷ [])) ≡ results (minus 3) family)
unfolding row family
kill = (refl, refl, refl, refl, refl, refl, refl)

-- sigaction: a handler, and none again
sigaction :
    (row 7 (at_event_5 kernel) 1 (calling (2 ∷ 0x10008 ∷ [])) ≡
    results 0 (record kernel { handling = Some (record { handlers = with_handler no_handlers 2 0x10008; pending = none_pending }) ∷ [] }))
    × (row 7 (at_event_5 (record kernel { handling = Some (record { handlers = replicate 31 0x10008; pending = none_pending }) ∷ [] })) 1 (calling (2 ∷ 0 ∷ [])) ≡
    results 0 (record kernel { handling = Some (record { handlers = with_handler (replicate 31 0x10008) 2 0; pending = none_pending }) ∷ [] }))
    × (row 7 (at_event_5 kernel) 1 (calling (0 ∷ 0x10008 ∷ [])) ≡ results (minus 22) kernel)
    × (row 7 (at_event_5 kernel) 1 (calling (9 ∷ 0x10008 ∷ [])) ≡ results (minus 22) kernel)
    × (row 7 (at_event_5 kernel) 1 (calling (32 ∷ 0x10008 ∷ [])) ≡ results (minus 22) kernel)
    × (row 7 (at_event_5 kernel) 1 (calling (2 ∷ 0x1000a ∷ [])) ≡ results (minus 22) kernel)
unfolding row
sigaction = (refl, refl, refl, refl, refl, refl)

-- a call that does an act, and changes nothing of the kernel
acts_only : Act → Request
acts_only act = Does (record { act = act; extra = extra.Nothing; incoming = Nothing; outgoing = None; bytes = []; kernel = kernel })

-- sigreturn, with a filled slot and without
in_handler : View
in_handler = record (calling []) { body = record (calling []).body { slot = Some (cpu_at 0x10020) } }

sigreturn-and-shm :
    (row 8 (at_event_5 kernel) 1 in_handler ≡ acts_only Leaves)
    × (row 8 (at_event_5 kernel) 1 (calling []) ≡ results (minus 22) kernel)
    -- shm, without a segment and with one
    × (row 17 (at_event_5 kernel) 1 (calling []) ≡ acts_only Shares)
unfolding row in_handler acts_only
sigreturn-and-shm = (refl, refl, refl)

sharing : View
sharing = record (calling []) { body = record (calling []).body { segment = Some 3 }; segment = 0 ∷ [] }

shares-twice : row 17 (at_event_5 kernel) 1 sharing ≡ results (minus 22) kernel
unfolding row sharing
shares-twice = refl
