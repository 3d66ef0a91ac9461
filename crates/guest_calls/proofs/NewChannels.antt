-- What is open after a channel is made, and the descriptors that stand for it.
use Rattle.std.proofs.Common.{◌≡◌, ℕ, zero, suc, ◌+◌, ◌-◌, ◌≤◌, ◌==◌, false, cond, List, [], ◌∷◌, ◌++◌, length, set, take, Option, None, Some, is_none, refl, sym, ap, ap₂, ◌∙◌, arith, ne_eqb}
use Rattle.std.specs.Prelude.{count_by, option_map, unwrap_or}
use Rattle.std.proofs.lemmas.List.{length-append}
use Rattle.std.proofs.Math.Seq.{take-append_seam}
use Rattle.std.proofs.lemmas.List.Sums.{sum_by-cons}
use Rattle.std.proofs.lemmas.Option.{same_Some}
use Rattle.parts_model.specs.declared.open.Conn.{Conn}
use Rattle.parts_model.specs.declared.open.Description.{Description}
use Rattle.parts_model.specs.declared.open.Description.TheVariants.{Reader, Writer, Connection, Listener}
use Rattle.parts_model.specs.Pipes.{pipe_made}
use Rattle.parts_model.specs.Ports.{accepted, connected, listened}
use Rattle.parts_model.specs.Processes.{Process, Processes, free_descriptors, lowest_free, lowest_free_from, placed_at, process, with_change}
use Rattle.parts_model.specs.Processes as table
use Rattle.arn_model.specs.ChannelCalls.{new_conn, with_pipe}
use Rattle.arn_model.specs.FileCalls.{has_no_room}
use Rattle.arn_model.specs.Kernel.{Kernel, Opened, at_first, placed, room_for, with_new}
use Rattle.guest_channels.specs.Channels.{Channels, next_conn, with_channels}
use Rattle.guest_resources.specs.Resources.{Changes, Resources, no_resources, with_resources}
use Rattle.guest_calls.specs.Channels.{with_client, with_ends, with_listener, with_server}
use Rattle.guest_calls.specs.Kept.{state_of}
use Rattle.guest_calls.specs.State.{State}
use Rattle.guest_calls.specs.declared.kernel.Kernel.TheInside.{Inside}
use Rattle.guest_calls.proofs.Numbers.{nth-set_own}

-- the lowest free descriptor is none before a place
at-least : (n j : ℕ) (ds : List (Option ℕ)) → lowest_free_from n ds ≡ Some j → n ≤ j
at-least n j [] is = cc
at-least n j (None ∷ ds) is = omega (arith, same_Some n j is)
at-least n j (Some d ∷ ds) is = omega (arith, at-least (n + 1) j ds is)

-- a descriptor fewer is free
one-fewer : (n i d : ℕ) (ds : List (Option ℕ)) → lowest_free_from n ds ≡ Some (n + i) → count_by is_none (set ds i (Some d)) + 1 ≡ count_by is_none ds
one-fewer n i d [] is = cc
one-fewer n zero d (None ∷ ds) is = omega (arith, sum_by-cons (λ (x : Option ℕ). cond (is_none x) 1 0) None ds, sum_by-cons (λ (x : Option ℕ). cond (is_none x) 1 0) (Some d) ds)
one-fewer n (suc i) d (None ∷ ds) is = absurd (omega (arith, same_Some n (n + suc i) is))
one-fewer n zero d (Some x ∷ ds) is = absurd (omega (arith, at-least (n + 1) (n + zero) ds is))
one-fewer n (suc i) d (Some x ∷ ds) is =
    let e : n + suc i ≡ n + 1 + i = omega arith in
    omega (arith, one-fewer (n + 1) i d ds (is ∙ ap (λ (j : ℕ). Some j) e), sum_by-cons (λ (y : Option ℕ). cond (is_none y) 1 0) (Some x) ds, sum_by-cons (λ (y : Option ℕ). cond (is_none y) 1 0) (Some x) (set ds i (Some d)))

still-free : (o : Option ℕ) (d : ℕ) (p : Process) → lowest_free p ≡ o → 2 ≤ free_descriptors p → (free_descriptors (placed_at o d p) == 0) ≡ false
still-free None d p is free = ne_eqb (free_descriptors p) 0 (λ (e : free_descriptors p ≡ 0). omega arith)
still-free (Some i) d p is free =
    let fewer : count_by is_none (set p.descriptors i (Some d)) + 1 ≡ count_by is_none p.descriptors =
    one-fewer 0 i d p.descriptors (is ∙ ap (λ (j : ℕ). Some j) (omega arith)) in
    ne_eqb (count_by is_none (set p.descriptors i (Some d))) 0 (λ (e : count_by is_none (set p.descriptors i (Some d)) ≡ 0). omega arith)

room-after : (x : Option Process) (d : ℕ) → 2 ≤ unwrap_or (option_map free_descriptors x) 0 → (unwrap_or (option_map free_descriptors (option_map (table.placed d) x)) 0 == 0) ≡ false
room-after None d free = absurd (omega arith)
room-after (Some p) d free = still-free (lowest_free p) d p refl free

process-after : (all : Processes) (pid : ℕ) (f : Process → Process) → process (with_change all pid f) pid ≡ option_map f (process all pid)
process-after all zero f = refl
process-after all (suc i) f = nth-set_own (option_map f) refl all i

-- a process with two free descriptors has one after the other is taken
pub placed-room : (k : Kernel) (pid d : ℕ) → 2 ≤ room_for k pid → has_no_room (placed pid d k) pid ≡ false
placed-room k pid d free =
    ap (λ (x : Option Process). unwrap_or (option_map free_descriptors x) 0 == 0) (process-after k.processes pid (table.placed d))
    ∙ room-after (process k.processes pid) d free

-- two descriptors are taken
pub placed-two : (pid one other : ℕ) (old mid new : State) → mid ≡ record old { kernel = placed pid one old.kernel } → new ≡ record mid { kernel = placed pid other mid.kernel } → new ≡ record old { kernel = placed pid other (placed pid one old.kernel) }
placed-two pid one other old mid new first second = second ∙ ap (λ (s : State). record s { kernel = placed pid other s.kernel }) first

-- what is kept, after its resources and channels have changed
pub opened-state : (k : Inside) (resources : Resources) (channels : Channels) (change : Kernel → Kernel) → Changes k.resources change resources → state_of (record k { resources = resources; channels = channels }) ≡ record (state_of k) { kernel = change (with_channels channels (state_of k).kernel) }
opened-state k resources channels change changes = ap (λ (q : Kernel). record (state_of k) { kernel = q }) (sym (changes.kernel (with_channels channels (state_of k).kernel)))

module _ (k : Inside) (resources : Resources) (channels : Channels) where
  -- the ends of a new pipe
  pub ends-state : (pipe : ℕ) → pipe ≡ length k.channels.pipes → Changes k.resources (λ q. with_new (Writer pipe) (with_new (Reader pipe) q)) resources → channels ≡ record k.channels { pipes = pipe_made k.channels.pipes } → state_of (record k { resources = resources; channels = channels }) ≡ record (state_of k) { kernel = with_ends (state_of k).kernel }
  ends-state pipe number changes is =
      opened-state k resources channels (λ q. with_new (Writer pipe) (with_new (Reader pipe) q)) changes
      ∙ (ap (λ (q : Channels). record (state_of k) { kernel = with_new (Writer pipe) (with_new (Reader pipe) (with_channels q (state_of k).kernel)) }) is
      ∙ ap (λ (n : ℕ). record (state_of k) { kernel = with_new (Writer n) (with_new (Reader n) (with_pipe (state_of k).kernel)) }) number)

  -- what listens at a port
  pub listener-state : (port : ℕ) → Changes k.resources (with_new (Listener port)) resources → channels ≡ record k.channels { ports = listened k.channels.ports port } → state_of (record k { resources = resources; channels = channels }) ≡ record (state_of k) { kernel = with_listener port (state_of k).kernel }
  listener-state port changes is =
      opened-state k resources channels (with_new (Listener port)) changes
      ∙ ap (λ (q : Channels). record (state_of k) { kernel = with_new (Listener port) (with_channels q (state_of k).kernel) }) is

  -- the client's side of a new connection
  pub client-state : (port : ℕ) (conn : Conn) → conn ≡ next_conn k.channels.pipes → Changes k.resources (with_new (Connection conn.to_client conn.to_server)) resources → channels ≡ record { pipes = pipe_made (pipe_made k.channels.pipes); ports = connected k.channels.ports port (next_conn k.channels.pipes) } → state_of (record k { resources = resources; channels = channels }) ≡ record (state_of k) { kernel = with_client port (new_conn (state_of k).kernel) (state_of k).kernel }
  client-state port conn new changes is =
      let made : Channels = record { pipes = pipe_made (pipe_made k.channels.pipes); ports = connected k.channels.ports port (next_conn k.channels.pipes) } in
      opened-state k resources channels (with_new (Connection conn.to_client conn.to_server)) changes
      ∙ (ap (λ (q : Channels). record (state_of k) { kernel = with_new (Connection conn.to_client conn.to_server) (with_channels q (state_of k).kernel) }) is
      ∙ ap (λ (n : Conn). record (state_of k) { kernel = with_new (Connection n.to_client n.to_server) (with_channels made (state_of k).kernel) }) new)

  -- the server's side of one that has waited
  pub server-state : (port : ℕ) (conn : Conn) → Changes k.resources (with_new (Connection conn.to_server conn.to_client)) resources → channels ≡ record k.channels { ports = accepted k.channels.ports port } → state_of (record k { resources = resources; channels = channels }) ≡ record (state_of k) { kernel = with_server port conn (state_of k).kernel }
  server-state port conn changes is =
      opened-state k resources channels (with_new (Connection conn.to_server conn.to_client)) changes
      ∙ ap (λ (q : Channels). record (state_of k) { kernel = with_new (Connection conn.to_server conn.to_client) (with_channels q (state_of k).kernel) }) is

-- the last of a list is taken back
take-back : {A : Type 0} → (xs : List A) (x : A) → take (length (xs ++ x ∷ []) - 1) (xs ++ x ∷ []) ≡ xs
take-back {A = A} xs x =
    let long : length (xs ++ x ∷ []) - 1 ≡ length xs = omega (arith, length-append xs (x ∷ [])) in
    ap (λ (n : ℕ). take n (xs ++ x ∷ [])) long ∙ take-append_seam xs (x ∷ [])

-- a channel that was opened last is taken back
pub taken-back : (old new : Resources) (what : Description) → Changes old (with_new what) new → record new { descriptions = take (length new.descriptions - 1) new.descriptions } ≡ old
taken-back old new what changes =
    let after : with_new what (with_resources old at_first.kernel) ≡ with_resources new at_first.kernel = changes.kernel at_first.kernel in
    let same : new ≡ record old { descriptions = old.descriptions ++ Some (record { what = what; descriptors = 1 }) ∷ [] } =
    sym (ap (λ (k : Kernel). record no_resources { files = k.files; descriptions = k.descriptions }) after) in
    ap (λ (r : Resources). record r { descriptions = take (length r.descriptions - 1) r.descriptions }) same
    ∙ ap (λ (ds : List (Option Opened)). record old { descriptions = ds }) (take-back old.descriptions (Some (record { what = what; descriptors = 1 })))

-- it is as before, where both are
pub same-state : (k : Inside) (resources : Resources) (channels : Channels) → resources ≡ k.resources → channels ≡ k.channels → state_of (record k { resources = resources; channels = channels }) ≡ state_of k
same-state k resources channels same also = ap₂ (λ (r : Resources) (q : Channels). state_of (record k { resources = r; channels = q })) same also
