-- What lists of records tell, at literal values.
use Rattle.std.proofs.Common.{◌≡◌, ℕ, zero, suc, List, [], ◌∷◌, ◌++◌, Option, Some, None, map, replicate, codes, true, false, refl, sym, ap, subst, ◌∙◌, arith, unwrap_or, Contains}
use Rattle.arn_base.specs.declared.records.Extra.{Extra}
use Rattle.arn_base.specs.declared.records.Extra.TheVariants as extra
use Rattle.arn_base.specs.declared.records.Give.{Give}
use Rattle.arn_base.specs.declared.records.Origin.{Origin}
use Rattle.arn_base.specs.declared.records.Record.{Record}
use Rattle.arn_base.specs.declared.records.Record.TheVariants as entry
use Rattle.arn_base.specs.declared.machine.Block.{Block}
use Rattle.history_model.specs.Broken.{first_broken}
use Rattle.history_model.specs.Events.{how_many, event_at, len_of, is_range}
use Rattle.history_model.specs.Exchanges.{received, founded, Edge, ByBytes, ByFork, Back, Starting, Backward, Forth, Beginning, Forward}
use Rattle.history_model.specs.Groups.{group_of, count_of, event_group}
use Rattle.history_model.specs.Moments.{total, events_until, lives_at, segments_told, segment_at}
use Rattle.history_model.specs.Names.{is_booted, file_named, brought, may_bring}

-- bytes that came from one place
from : List ℕ → ℕ → ℕ → ℕ → Give
from bytes event at len = record { bytes = bytes; origins = record { event = event; at = at; len = len } ∷ [] }

-- how a child begins
child_start : Extra
child_start = extra.Start (record { cpu = record { x = replicate 31 0; pc = 0x10004 }; slot = None; blocks = [] })

-- -11 and -22 as results
minus_11 : ℕ
minus_11 = 0xfffffffffffffff5

minus_22 : ℕ
minus_22 = 0xffffffffffffffea

-- Process 1 reads two typed bytes, takes signal 2, forks process 2, which starts a group, and writes a byte to a pipe. Process 2 gets a
-- segment, forks process 3, which shares it, and reads the byte. Process 3 starts anew from the file, and ends by a fault.
told : List Record
told =
    entry.File (codes "p") (1 ∷ 2 ∷ [])
    ∷ entry.Boot (codes "p") (from (1 ∷ 2 ∷ []) 0 0 2)
    ∷ entry.Typed (97 ∷ 98 ∷ [])
    ∷ entry.Slice 1 5
    ∷ entry.Call 1 11 2 (extra.Give (from (97 ∷ 98 ∷ []) 2 0 2))
    ∷ entry.Slice 1 3
    ∷ entry.Signal 1 2 false 0x10040
    ∷ entry.Call 1 2 2 child_start
    ∷ entry.Slice 2 4
    ∷ entry.Call 2 17 0 extra.Nothing
    ∷ entry.Slice 2 1
    ∷ entry.Call 2 2 3 extra.Nothing
    ∷ entry.Slice 1 2
    ∷ entry.Call 1 12 1 extra.Nothing
    ∷ entry.Slice 2 6
    ∷ entry.Call 2 11 1 (extra.Give (from (97 ∷ []) 8 0 1))
    ∷ entry.Slice 3 2
    ∷ entry.Call 3 3 0 (extra.Give (from (1 ∷ 2 ∷ []) 0 0 2))
    ∷ entry.Slice 3 1
    ∷ entry.End 3 132
    ∷ []

-- events

events-told :
    (how_many told ≡ 12)
    -- slices aren't among them
    × (event_at told 4 ≡ Some (entry.Signal 1 2 false 0x10040))
    × (event_at told 12 ≡ None)
    -- a write to a pipe has as many bytes as its result says, and a fork has none
    × (map (len_of told) (0 ∷ 3 ∷ 5 ∷ 8 ∷ 11 ∷ 12 ∷ []) ≡ Some 2 ∷ Some 2 ∷ Some 0 ∷ Some 1 ∷ Some 1 ∷ None ∷ [])
    -- a range may begin at the end of the bytes, where it is empty; and at most 65,536 are asked for
    × (is_range (event_at told 3) 0 2 ∷ is_range (event_at told 3) 2 0 ∷ is_range (event_at told 3) 1 2 ∷ is_range (event_at told 12) 0 0 ∷ [] ≡ true ∷ true ∷ false ∷ false ∷ [])
unfolding told from child_start
events-told = (refl, refl, refl, refl, refl)

-- moments

counts-instructions : total told ≡ 24
unfolding told
counts-instructions = refl

-- the numbers of the events that have happened
happened : ℕ → List ℕ
happened moment = map (λ e. e.number) (events_until moment told)

-- inside a slice the call at its end hasn't happened
moments :
    (happened 4 ≡ 0 ∷ 1 ∷ 2 ∷ [])
    -- at its end it has, and also the delivery with which the next slice begins
    × (happened 5 ≡ 0 ∷ 1 ∷ 2 ∷ 3 ∷ 4 ∷ [])
    × (happened 7 ≡ 0 ∷ 1 ∷ 2 ∷ 3 ∷ 4 ∷ [])
    × (happened 8 ≡ 0 ∷ 1 ∷ 2 ∷ 3 ∷ 4 ∷ 5 ∷ [])
    -- what comes from outside happens before the next instruction
    × (happened 0 ≡ 0 ∷ 1 ∷ 2 ∷ [])
unfolding happened told
moments = (refl, refl, refl, refl, refl)

-- a delivery to a process that then runs nothing happens behind the slice before
kills : List Record
kills =
    entry.Slice 1 3
    ∷ entry.Call 1 5 1 extra.Nothing
    ∷ entry.Slice 1 0
    ∷ entry.Signal 1 9 false 0
    ∷ entry.Slice 2 1
    ∷ entry.Call 2 5 2 extra.Nothing
    ∷ []

lives :
    (map (λ e. e.number) (events_until 2 kills) ≡ [])
    × (map (λ e. e.number) (events_until 3 kills) ≡ 0 ∷ 1 ∷ [])
    -- who lives: a child from its fork on, and a process until it ends
    × (lives_at told 0 1 ∷ lives_at told 7 2 ∷ lives_at told 8 2 ∷ lives_at told 23 3 ∷ lives_at told 24 3 ∷ lives_at told 24 4 ∷ [] ≡ true ∷ false ∷ true ∷ true ∷ false ∷ false ∷ [])
unfolding kills told
lives = (refl, refl, refl)

-- segments

-- process 2 holds the one that event 6 made from moment 12 on
held-by :
    (segment_at told 11 2 ∷ segment_at told 12 2 ∷ segment_at told 24 2 ∷ [] ≡ None ∷ Some 6 ∷ Some 6 ∷ [])
    -- process 3 shares it until it starts from the file
    × (segment_at told 12 3 ∷ segment_at told 13 3 ∷ segment_at told 22 3 ∷ segment_at told 23 3 ∷ [] ≡ None ∷ Some 6 ∷ Some 6 ∷ None ∷ [])
    -- process 1 holds none
    × (segment_at told 24 1 ≡ None)
unfolding told child_start
held-by = (refl, refl, refl)

-- each process held the segment that event 6 made: which one process 1 or its child 4 holds after one record more
then_holds : Record → ℕ → Option ℕ
then_holds e pid = segments_told 9 e (λ q. Some 6) pid

-- a fresh one, also where it holds one; the old one, where the call failed
segment-after :
    (then_holds (entry.Call 1 17 0 extra.Nothing) 1 ≡ Some 9)
    × (then_holds (entry.Call 1 17 minus_22 extra.Nothing) 1 ≡ Some 6)
    -- a child that starts a group holds none, whatever the parent holds
    × (then_holds (entry.Call 1 2 4 child_start) 4 ∷ then_holds (entry.Call 1 2 4 child_start) 1 ∷ [] ≡ None ∷ Some 6 ∷ [])
    -- an exec that failed keeps it
    × (then_holds (entry.Call 1 3 minus_22 extra.Nothing) 1 ≡ Some 6)
unfolding then_holds minus_22 child_start
segment-after = (refl, refl, refl, refl)

-- groups

-- process 2 starts one, process 3 joins it, and no process has the number 4
groups-told :
    (map (group_of told) (0 ∷ 1 ∷ 2 ∷ 3 ∷ 4 ∷ []) ≡ None ∷ Some 1 ∷ Some 2 ∷ Some 2 ∷ None ∷ [])
    -- 5, 3 and 2 instructions; 4, 1, 6, 2 and 1
    × (map (count_of told) (1 ∷ 2 ∷ 3 ∷ []) ≡ 10 ∷ 14 ∷ 0 ∷ [])
    -- a fork that failed makes no process
    × (group_of (entry.Boot (codes "p") (from [] 0 0 0) ∷ entry.Call 1 2 minus_11 extra.Nothing ∷ []) minus_11 ≡ None)
    -- what comes from outside is of no group
    × (map (event_group told) (0 ∷ 1 ∷ 2 ∷ 3 ∷ 7 ∷ 9 ∷ 11 ∷ 12 ∷ []) ≡ None ∷ Some 1 ∷ None ∷ Some 1 ∷ Some 2 ∷ Some 2 ∷ Some 2 ∷ None ∷ [])
unfolding told child_start from minus_11
groups-told = (refl, refl, refl, refl)

-- edges

-- group 2 received the byte of event 8, and a fork in group 1 started it
byte-edge : Edge told 1 2
unfolding told child_start from
byte-edge = ByBytes 9 (from (97 ∷ []) 8 0 1) (record { event = 8; at = 0; len = 1 }) refl refl (0, omega arith, refl) refl

fork-edge : Edge told 1 2
unfolding told child_start
fork-edge = ByFork 5 refl refl

-- so they are connected, and each group is so with itself
backward : Back told (2 ∷ []) 1
backward = Backward 1 2 (Starting 2 (0, omega arith, refl)) byte-edge

forward : Forth told (1 ∷ []) 2
forward = Forward 2 1 (Beginning 1 (0, omega arith, refl)) byte-edge

itself : Back told (1 ∷ []) 1
itself = Starting 1 (0, omega arith, refl)

-- Process 2, of a group of its own, writes a byte to a pipe; a call of process 1 with this number holds that byte
apart : ℕ → List Record
apart number =
    entry.File (codes "p") (1 ∷ [])
    ∷ entry.Boot (codes "p") (from (1 ∷ []) 0 0 1)
    ∷ entry.Slice 1 3
    ∷ entry.Call 1 2 2 child_start
    ∷ entry.Slice 2 3
    ∷ entry.Call 2 12 1 extra.Nothing
    ∷ entry.Slice 1 3
    ∷ entry.Call 1 number 1 (extra.Give (from (7 ∷ []) 3 0 1))
    ∷ []

-- a read receives it
by-read : Edge (apart 11) 2 1
unfolding apart child_start from
by-read = ByBytes 4 (from (7 ∷ []) 3 0 1) (record { event = 3; at = 0; len = 1 }) refl refl (0, omega arith, refl) refl

-- a getpid doesn't, whatever its record holds
getpid-none : received (entry.Call 1 5 1 (extra.Give (from (7 ∷ []) 3 0 1))) ≡ None
unfolding from
getpid-none = refl

one-alone : (x y : Origin) → Contains (x ∷ []) y → x ≡ y
one-alone x y (zero, below, is) = is
one-alone x y (suc k, below, is) = absurd (omega arith)

not-one : ◌≡◌ {A = Option ℕ} (Some 2) (Some 1) → ⊥
not-one e = let same : ◌≡◌ {A = ℕ} 2 1 = ap (λ (o : Option ℕ). unwrap_or o 0) e in omega (arith, same)

-- the boot received bytes of the file's event, which is of no group
not-by-boot : (give : Give) (origin : Origin) → Some (from (1 ∷ []) 0 0 1) ≡ Some give → Contains give.origins origin → event_group (apart 5) origin.event ≡ Some 2 → ⊥
unfolding apart child_start from
not-by-boot give origin got has his =
    let boot : Give = from (1 ∷ []) 0 0 1 in
    let same : boot ≡ give = ap (λ (o : Option Give). unwrap_or o give) got in
    let one = one-alone (record { event = 0; at = 0; len = 1 }) origin (subst (λ (g : Give). Contains g.origins origin) (sym same) has) in
    none-some (ap (λ (o : Origin). event_group (apart 5) o.event) one ∙ his)
  where
    none-some : ◌≡◌ {A = Option ℕ} None (Some 2) → ⊥
    none-some e = cc

-- so no edge goes from group 2 to group 1 then
by-getpid : Edge (apart 5) 2 1 → ⊥
unfolding apart child_start from
by-getpid (ByBytes zero give origin mine got has his) = cc
by-getpid (ByBytes (suc zero) give origin mine got has his) = not-by-boot give origin got has his
by-getpid (ByBytes (suc (suc zero)) give origin mine got has his) = cc
by-getpid (ByBytes (suc (suc (suc zero))) give origin mine got has his) = cc
by-getpid (ByBytes (suc (suc (suc (suc zero)))) give origin mine got has his) = cc
by-getpid (ByBytes (suc (suc (suc (suc (suc n))))) give origin mine got has his) = cc
by-getpid (ByFork zero mine founds) = cc
by-getpid (ByFork (suc zero) mine founds) = cc
by-getpid (ByFork (suc (suc zero)) mine founds) = not-one founds
by-getpid (ByFork (suc (suc (suc zero))) mine founds) = cc
by-getpid (ByFork (suc (suc (suc (suc zero)))) mine founds) = cc
by-getpid (ByFork (suc (suc (suc (suc (suc n))))) mine founds) = cc

-- nor does a fork with how a child begins start a group, where it failed
fork-none : founded (entry.Call 1 2 minus_11 child_start) ≡ None
unfolding child_start minus_11
fork-none = refl

-- names

-- two files are brought; calls open one anew, take a name away, and give it to a third file
names : List Record
names =
    entry.File (codes "a") (1 ∷ [])
    ∷ entry.File (codes "b") (2 ∷ [])
    ∷ entry.Boot (codes "a") (from (1 ∷ []) 0 0 1)
    ∷ entry.Slice 1 4
    ∷ entry.Call 1 9 3 (extra.Name 2 (codes "c"))
    ∷ entry.Slice 1 4
    ∷ entry.Call 1 16 0 (extra.Name 0 (codes "a"))
    ∷ []

names-told :
    (map (file_named names) (codes "a" ∷ codes "b" ∷ codes "c" ∷ codes "d" ∷ []) ≡ None ∷ Some 1 ∷ Some 2 ∷ None ∷ [])
    × (file_named (names ++ entry.Slice 1 4 ∷ entry.Call 1 9 4 (extra.Name 3 (codes "a")) ∷ []) (codes "a") ≡ Some 3)
    -- a call of another number names nothing
    × (file_named (names ++ entry.Slice 1 4 ∷ entry.Call 1 10 0 (extra.Name 3 (codes "b")) ∷ []) (codes "b") ≡ Some 1)
    -- what was brought stays so, whatever became of its name
    × (map (brought names) (codes "a" ∷ codes "b" ∷ codes "c" ∷ []) ≡ Some (1 ∷ []) ∷ Some (2 ∷ []) ∷ None ∷ [])
    -- a name is taken once
    × (may_bring (entry.File (codes "a") [] ∷ []) (codes "a") ∷ may_bring (entry.File (codes "a") [] ∷ []) (codes "b") ∷ [] ≡ false ∷ true ∷ [])
    × (is_booted names ∷ is_booted (entry.File (codes "a") [] ∷ []) ∷ [] ≡ true ∷ false ∷ [])
unfolding names from
names-told = (refl, refl, refl, refl, refl, refl)

-- records that can't stand where they do

-- process 1 begins, and these come behind it
begun : List Record → List Record
begun more = entry.File (codes "p") (1 ∷ 2 ∷ []) ∷ entry.Boot (codes "p") (from (1 ∷ 2 ∷ []) 0 0 2) ∷ more

-- the same behind a slice of it
run_then : List Record → List Record
run_then more = begun (entry.Slice 1 3 ∷ more)

inputs-wrong :
    (first_broken told ≡ None)
    -- inputs on the wrong side of the boot
    × (first_broken (begun (entry.File (codes "q") [] ∷ [])) ≡ Some 2)
    × (first_broken (entry.Typed (97 ∷ []) ∷ []) ≡ Some 0)
    -- a slice of a process that was never made, and of one that has ended
    × (first_broken (begun (entry.Slice 2 1 ∷ [])) ≡ Some 2)
    × (first_broken (run_then (entry.Call 1 1 0 extra.Nothing ∷ entry.Slice 1 1 ∷ [])) ≡ Some 4)
unfolding told from child_start begun run_then
inputs-wrong = (refl, refl, refl, refl, refl)

-- a second call behind one slice; one delivery may come between, and two may not
calls-and-origins :
    (first_broken (run_then (entry.Call 1 5 1 extra.Nothing ∷ entry.Call 1 5 1 extra.Nothing ∷ [])) ≡ Some 4)
    × (first_broken (run_then (entry.Signal 1 2 false 0x10040 ∷ entry.Call 1 5 1 extra.Nothing ∷ [])) ≡ None)
    × (first_broken (run_then (entry.Signal 1 2 false 0x10040 ∷ entry.Signal 1 3 false 0x10040 ∷ entry.Call 1 5 1 extra.Nothing ∷ [])) ≡ Some 5)
    -- an origin in the event itself, behind an event's bytes, of no bytes, and of too few
    × (first_broken (run_then (entry.Call 1 11 1 (extra.Give (from (97 ∷ []) 2 0 1)) ∷ [])) ≡ Some 3)
    × (first_broken (run_then (entry.Call 1 11 1 (extra.Give (from (97 ∷ []) 0 2 1)) ∷ [])) ≡ Some 3)
    × (first_broken (run_then (entry.Call 1 11 0 (extra.Give (from [] 0 0 0)) ∷ [])) ≡ Some 3)
    × (first_broken (run_then (entry.Call 1 11 2 (extra.Give (from (1 ∷ 2 ∷ []) 0 0 1)) ∷ [])) ≡ Some 3)
unfolding run_then begun from
calls-and-origins = (refl, refl, refl, refl, refl, refl, refl)

-- a child that begins with blocks of these numbers
forked : List ℕ → List Record
forked numbers =
    run_then (entry.Call 1 2 2 (extra.Start (record {
      cpu = record { x = replicate 31 0; pc = 0x10004 };
      slot = None;
      blocks = map (λ n. record { number = n; bytes = replicate 256 1 }) numbers;
    })) ∷ [])

blocks-and-children :
    (first_broken (forked (0 ∷ 7 ∷ 1023 ∷ [])) ≡ None)
    × (first_broken (forked (7 ∷ 7 ∷ [])) ≡ Some 3)
    × (first_broken (forked (1024 ∷ [])) ≡ Some 3)
    -- a child whose number isn't the next; a fork that failed makes none
    × (first_broken (run_then (entry.Call 1 2 3 extra.Nothing ∷ [])) ≡ Some 3)
    × (first_broken (run_then (entry.Call 1 2 minus_11 extra.Nothing ∷ [])) ≡ None)
unfolding forked run_then begun from minus_11
blocks-and-children = (refl, refl, refl, refl, refl)

-- how a child begins, with another call
start-elsewhere : first_broken (run_then (entry.Call 1 3 0 child_start ∷ [])) ≡ Some 3
unfolding run_then begun from child_start
start-elsewhere = refl
