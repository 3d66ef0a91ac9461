-- The calls on processes at literal values.
use Rattle.std.proofs.Common.{◌≡◌, ℕ, List, [], ◌∷◌, ◌++◌, Option, Some, None, replicate, codes, true, false, refl}
use Rattle.arn_base.specs.declared.records.Extra.TheVariants as extra
use Rattle.parts_model.specs.Blocks.{used_blocks}
use Rattle.parts_model.specs.declared.open.Description.TheVariants as description
use Rattle.parts_model.specs.Processes.{Process, Ended, none_open}
use Rattle.parts_model.specs.Signals.{with_handler, with_pending, no_handlers, none_pending}
use Rattle.acts_model.specs.Acts.{Receives, Starts, Forks, Founds, Exits}
use Rattle.acts_model.specs.Bodies.{View}
use Rattle.acts_model.specs.Moved.{Nothing, From, FileByte, StatusByte}
use Rattle.arn_model.specs.Doing.{Request, Waits, Does}
use Rattle.arn_model.specs.Kernel.{Kernel}
use Rattle.arn_model.specs.Row.{row}
use Rattle.arn_model.proofs.Literals.{minus, calling, byte, living, opening, quiet, kernel, at_event_5, results}

-- exit: 300 modulo 256 is 44. Process 1 has no parent, so it is gone, and its descriptors are closed
exits-first :
    row 1 (at_event_5 kernel) 1 (calling (300 ∷ [])) ≡
    Does (record {
      act = Exits;
      extra = extra.Nothing;
      incoming = Nothing;
      outgoing = Some (record { first = StatusByte 1; len = 1 });
      bytes = 44 ∷ [];
      kernel = record kernel { processes = None ∷ []; handling = None ∷ []; descriptions = None ∷ [] };
    })
unfolding row
exits-first = refl

-- a child with a child of its own, and the last descriptor of a pipe's write end
pipe_open : Kernel
pipe_open =
    record kernel {
      processes = living None (Some 0 ∷ []) ∷ living (Some 1) (Some 0 ∷ Some 1 ∷ []) ∷ living (Some 2) (Some 0 ∷ []) ∷ [];
      handling = quiet ∷ quiet ∷ quiet ∷ [];
      pipes = Some (record { channel = record { taken = 0; queue = [] }; has_reader = true; has_writer = true }) ∷ [];
      descriptions = opening description.Console 3 ∷ opening (description.Writer 0) 1 ∷ [];
    }

-- an ended process whose parent lives
waiting : ℕ → Option Process
waiting status = Some (record { life = Ended (byte status 5 0); parent = Some 1; descriptors = none_open })

-- it stays ended, its own child has no parent from then on, and the pipe has no writer
exits-child :
    row 1 (at_event_5 pipe_open) 2 (calling (7 ∷ [])) ≡
    Does (record {
      act = Exits;
      extra = extra.Nothing;
      incoming = Nothing;
      outgoing = Some (record { first = StatusByte 2; len = 1 });
      bytes = 7 ∷ [];
      kernel =
          record pipe_open {
            processes = living None (Some 0 ∷ []) ∷ waiting 7 ∷ living None (Some 0 ∷ []) ∷ [];
            handling = quiet ∷ None ∷ quiet ∷ [];
            pipes = Some (record { channel = record { taken = 0; queue = [] }; has_reader = true; has_writer = false }) ∷ [];
            descriptions = opening description.Console 2 ∷ None ∷ [];
          };
    })
unfolding row pipe_open waiting
exits-child = refl

-- fork: a process with a handler and a pending signal, and a window of two blocks, the second of them not all zero
signalled : Kernel
signalled = record kernel { handling = Some (record { handlers = with_handler no_handlers 2 0x10008; pending = with_pending none_pending 3 true }) ∷ [] }

two_blocks : List ℕ
two_blocks = replicate 256 0 ++ (1 ∷ replicate 255 0)

two_block_view : View
two_block_view = record (calling (4 ∷ [])) { window = two_blocks }

-- the child has the descriptors and the handlers, and no pending signals
forked : Kernel
forked =
    record signalled {
      processes = living None (Some 0 ∷ Some 0 ∷ Some 0 ∷ []) ∷ living (Some 1) (Some 0 ∷ Some 0 ∷ Some 0 ∷ []) ∷ [];
      handling =
          Some (record { handlers = with_handler no_handlers 2 0x10008; pending = with_pending none_pending 3 true })
          ∷ Some (record { handlers = with_handler no_handlers 2 0x10008; pending = none_pending })
          ∷ [];
      descriptions = opening description.Console 6 ∷ [];
    }

-- without a segment it starts a group: it begins behind the call with 0 in x10
forks-group :
    row 2 (at_event_5 signalled) 1 two_block_view ≡
    Does (record {
      act = Founds 2;
      extra =
          extra.Start (record {
            cpu = record { x = replicate 31 0; pc = 0x10004 };
            slot = None;
            blocks = record { number = 1; bytes = 1 ∷ replicate 255 0 } ∷ [];
          });
      incoming = Nothing;
      outgoing = None;
      bytes = [];
      kernel = forked;
    })
unfolding row signalled two_blocks two_block_view forked used_blocks
forks-group = refl

-- with one it joins its parent's
segment_view : View
segment_view = record (calling []) { body = record (calling []).body { segment = Some 3 }; segment = 0 ∷ [] }

forks-joining :
    row 2 (at_event_5 signalled) 1 segment_view ≡ Does (record { act = Forks 2; extra = extra.Nothing; incoming = Nothing; outgoing = None; bytes = []; kernel = forked })
unfolding row signalled segment_view forked
forks-joining = refl

-- 64 processes, all but one of them ended: -11
sixty_four : Kernel
sixty_four = record kernel { processes = living None [] ∷ replicate 63 (waiting 0) }

forks-full : row 2 (at_event_5 sixty_four) 1 (calling []) ≡ results (minus 11) sixty_four
unfolding row sixty_four waiting
forks-full = refl

-- exec: file 1, named `b`, is an image whose body is one word
image : List ℕ
image = codes "ARNIMG01" ++ (0 ∷ 0 ∷ 1 ∷ 0 ∷ 0 ∷ 0 ∷ 0 ∷ 0 ∷ 0 ∷ 0 ∷ 1 ∷ 0 ∷ 0 ∷ 0 ∷ 0 ∷ 0 ∷ 0x73 ∷ 0 ∷ 0 ∷ 0 ∷ [])

with_image : Kernel
with_image =
    record signalled {
      files =
          record {
            all =
                Some (record { bytes = byte 1 0 0 ∷ byte 2 0 1 ∷ byte 3 0 2 ∷ []; holders = 0 })
                ∷ Some (record {
                  bytes =
                      byte 65 1 0 ∷ byte 82 1 1 ∷ byte 78 1 2 ∷ byte 73 1 3 ∷ byte 77 1 4 ∷ byte 71 1 5 ∷ byte 48 1 6 ∷ byte 49 1 7
                      ∷ byte 0 1 8 ∷ byte 0 1 9 ∷ byte 1 1 10 ∷ byte 0 1 11 ∷ byte 0 1 12 ∷ byte 0 1 13 ∷ byte 0 1 14 ∷ byte 0 1 15
                      ∷ byte 0 1 16 ∷ byte 0 1 17 ∷ byte 1 1 18 ∷ byte 0 1 19 ∷ byte 0 1 20 ∷ byte 0 1 21 ∷ byte 0 1 22 ∷ byte 0 1 23
                      ∷ byte 0x73 1 24 ∷ byte 0 1 25 ∷ byte 0 4 0 ∷ byte 0 4 1 ∷ [];
                  holders = 0;
                })
                ∷ [];
            names = record { path = 97 ∷ []; file = 0 } ∷ record { path = 98 ∷ []; file = 1 } ∷ [];
          };
    }

-- the image with its origins, and the block's range; handlers are cleared, and signal 3 stays pending
executed : ℕ → ℕ → Request
executed block block_len =
    Does (record {
      act = Starts image block block_len;
      extra = extra.Give (record { bytes = image; origins = record { event = 1; at = 0; len = 26 } ∷ record { event = 4; at = 0; len = 2 } ∷ [] });
      incoming = From (record { first = FileByte 1 0; len = 28 });
      outgoing = None;
      bytes = image;
      kernel = record with_image { handling = Some (record { handlers = no_handlers; pending = with_pending none_pending 3 true }) ∷ [] };
    })

exec-edges :
    (row 3 (at_event_5 with_image) 1 (calling (0x10001 ∷ 1 ∷ 0x10002 ∷ 3 ∷ [])) ≡ executed 0x10002 3)
    -- a block of length 0 isn't looked at
    × (row 3 (at_event_5 with_image) 1 (calling (0x10001 ∷ 1 ∷ 0 ∷ 0 ∷ [])) ≡ executed 0 0)
    -- -22 before -14: an empty path at no address; a block that is too long, with a path at no address
    × (row 3 (at_event_5 kernel) 1 (calling (0 ∷ 0 ∷ 0 ∷ 0 ∷ [])) ≡ results (minus 22) kernel)
    × (row 3 (at_event_5 kernel) 1 (calling (0 ∷ 65 ∷ 0 ∷ 0 ∷ [])) ≡ results (minus 22) kernel)
    × (row 3 (at_event_5 kernel) 1 (calling (0 ∷ 1 ∷ 0 ∷ 4097 ∷ [])) ≡ results (minus 22) kernel)
unfolding row signalled with_image image executed
exec-edges = (refl, refl, refl, refl, refl)

-- -14 for the path; for the block before -2, where there is no file `ab`, and before -8, where file `a` is no image
exec-no :
    (row 3 (at_event_5 kernel) 1 (calling (0x10007 ∷ 2 ∷ 0 ∷ 0 ∷ [])) ≡ results (minus 14) kernel)
    × (row 3 (at_event_5 kernel) 1 (calling (0x10000 ∷ 2 ∷ 0x10007 ∷ 2 ∷ [])) ≡ results (minus 14) kernel)
    × (row 3 (at_event_5 kernel) 1 (calling (0x10000 ∷ 1 ∷ 0x10007 ∷ 2 ∷ [])) ≡ results (minus 14) kernel)
    × (row 3 (at_event_5 kernel) 1 (calling (0x10000 ∷ 2 ∷ 0 ∷ 0 ∷ [])) ≡ results (minus 2) kernel)
    × (row 3 (at_event_5 kernel) 1 (calling (0x10000 ∷ 1 ∷ 0 ∷ 0 ∷ [])) ≡ results (minus 8) kernel)
unfolding row
exec-no = (refl, refl, refl, refl, refl)

-- wait: children 2, 3 and 4, of which 3 and 4 have ended
three_children : Kernel
three_children = record kernel { processes = living None [] ∷ living (Some 1) [] ∷ waiting 30 ∷ waiting 40 ∷ [] }

-- the lowest ended child
wait-ended :
    (row 4 (at_event_5 three_children) 1 (calling (0x10007 ∷ [])) ≡
    Does (record {
      act = Receives 0x10007 (30 ∷ []) 3;
      extra = extra.Give (record { bytes = 30 ∷ []; origins = record { event = 5; at = 0; len = 1 } ∷ [] });
      incoming = From (record { first = StatusByte 3; len = 1 });
      outgoing = None;
      bytes = 30 ∷ [];
      kernel = record kernel { processes = living None [] ∷ living (Some 1) [] ∷ None ∷ waiting 40 ∷ [] };
    }))
    -- -10 before -14; -14 before it isn't ready, and where a child has ended
    × (row 4 (at_event_5 kernel) 1 (calling (0 ∷ [])) ≡ results (minus 10) kernel)
unfolding row three_children waiting
wait-ended = (refl, refl)

one_living : Kernel
one_living = record kernel { processes = living None [] ∷ living (Some 1) [] ∷ [] }

wait-living :
    (row 4 (at_event_5 one_living) 1 (calling (0x10008 ∷ [])) ≡ results (minus 14) one_living)
    × (row 4 (at_event_5 three_children) 1 (calling (0x10008 ∷ [])) ≡ results (minus 14) three_children)
    -- it isn't ready while all children live
    × (row 4 (at_event_5 one_living) 1 (calling (0x10007 ∷ [])) ≡ Waits)
    -- getpid, yield
    × (row 5 (at_event_5 one_living) 2 (calling []) ≡ results 2 one_living)
    × (row 22 (at_event_5 kernel) 1 (calling (9 ∷ [])) ≡ results 0 kernel)
unfolding row one_living three_children waiting
wait-living = (refl, refl, refl, refl, refl)

-- there are no other calls
no-call :
    (row 0 (at_event_5 kernel) 1 (calling []) ≡ results (minus 38) kernel)
    × (row 23 (at_event_5 kernel) 1 (calling []) ≡ results (minus 38) kernel)
unfolding row
no-call = (refl, refl)
