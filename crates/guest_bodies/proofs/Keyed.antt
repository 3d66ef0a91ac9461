-- Memories as the tables keep them, and as they are lent to a process and brought back.
use Rattle.std.proofs.Common.{◌≡◌, ◌≢◌, ℕ, zero, suc, List, [], set, Result, Ok, Err, IfOk, Option, None, Some, is_some, option_map, unwrap_or, sym, ap, ap₂, subst, ◌∙◌}
use Rattle.std.proofs.lemmas.List.{map-set, set-set}
use Rattle.arn_base.specs.Window.{Window}
use Rattle.arn_base.specs.declared.machine.Cpu.{Cpu}
use Rattle.guest_mem.specs.Pages.{Paged}
use Rattle.acts_model.specs.Views.{reach}
use Rattle.parts_model.specs.Memory.{windows}
use Rattle.parts_model.specs.Numbered.{nth}
use Rattle.rv64_core.specs.Outcome.{LeadsTo}
use Rattle.rv64_isa.specs.declared.instruction.Instr.{Instr}
use Rattle.rv64_model.specs.Instruction.{Next, instruction}
use Rattle.guest_bodies.specs.Kept.{AreThere, Contents, contents_of, refilled, view_of, window_part, windows_for, windows_of}
use Rattle.guest_bodies.specs.Led.{LedFails, LedMany}
use Rattle.guest_bodies.specs.Running.{LeadsMany}
use Rattle.guest_bodies.specs.Tables.{Adds, Table, Tables, bytes_by_key, held_bytes, with_held}
use Rattle.guest_bodies.specs.declared.guest.Guest.{Guest}
use Rattle.guest_bodies.specs.declared.guest.Held.{Held}
use Rattle.guest_bodies.specs.declared.reach.Reach.{Reach}
use Rattle.guest_bodies.proofs.Many.{first_bytes, put-bytes, reach-now, refilled-same, second_bytes}
use Rattle.guest_bodies.proofs.Numbers.{nth-map, set-nth}

abbrev pub bytes_of_space : Paged → List ℕ
bytes_of_space space = space.bytes

abbrev pub tabled : List (Option Paged) → Table → Tables
tabled spaces segments = record { windows = bytes_by_key spaces; segments = segments }

-- an answer that adds a memory
pub ok-adds : {E : Type 0} (r : Result ℕ E) (bytes : List ℕ) (old new : Table) → IfOk r (λ key. nth old key ≡ None) → IfOk r (λ key. nth new key ≡ Some bytes) → IfOk r (λ key. (k : ℕ) → k ≢ key → nth new k ≡ nth old k) → IfOk r (λ key. Adds key bytes old new)
ok-adds (Ok key) bytes old new none one others = record { none = none; one = one; others = others }
ok-adds (Err e) bytes old new none one others = tt

pub bytes-at : (spaces : List (Option Paged)) (key : ℕ) (o : Option Paged) → nth spaces key ≡ o → nth (bytes_by_key spaces) key ≡ option_map bytes_of_space o
bytes-at spaces key o is = nth-map bytes_of_space spaces key ∙ ap (option_map bytes_of_space) is

module _ (spaces : List (Option Paged)) (segments : Table) (tables : Tables) (is : tabled spaces segments ≡ tables) where
  pub window-at : (key : ℕ) (o : Option Paged) → nth spaces key ≡ o → nth tables.windows key ≡ option_map bytes_of_space o
  window-at key o found = ap (λ (t : Tables). nth t.windows key) (sym is) ∙ bytes-at spaces key o found

  pub windows-set : (key : ℕ) (o : Option Paged) → tabled (set spaces key o) segments ≡ record tables { windows = set tables.windows key (option_map bytes_of_space o) }
  windows-set key o =
      ap (λ (w : Table). record { windows = w; segments = segments }) (map-set (option_map bytes_of_space) spaces key o)
      ∙ ap (λ (t : Tables). record { windows = set t.windows key (option_map bytes_of_space o); segments = t.segments }) is

  pub both-set : (key other : ℕ) (o : Option Paged) (m : Option (List ℕ)) → tabled (set spaces key o) (set segments other m) ≡ record { windows = set tables.windows key (option_map bytes_of_space o); segments = set tables.segments other m }
  both-set key other o m =
      ap (λ (w : Table). record { windows = w; segments = set segments other m }) (map-set (option_map bytes_of_space) spaces key o)
      ∙ ap (λ (t : Tables). record { windows = set t.windows key (option_map bytes_of_space o); segments = set t.segments other m }) is

  -- a space that only shares other pages
  pub same-bytes : (key : ℕ) (a b : Paged) → nth spaces key ≡ Some a → b.bytes ≡ a.bytes → tabled (set spaces key (Some b)) segments ≡ tables
  same-bytes key a b found bytes =
      let here : nth tables.windows key ≡ Some b.bytes = window-at key (Some a) found ∙ ap (λ (l : List ℕ). Some l) (sym bytes) in
      windows-set key (Some b) ∙ ap (λ (w : Table). record tables { windows = w }) (set-nth tables.windows key (Some b.bytes) (ap (λ (o : Option (List ℕ)). is_some o) here) here)

-- the bytes that are held under a key
pub held-at : (table : Table) (h : Held) (bytes : List ℕ) → nth table h.key ≡ Some bytes → held_bytes table (Some h) ≡ bytes
held-at table h bytes is = ap (λ (o : Option (List ℕ)). unwrap_or o []) is

-- what a process holds, where its memories are other bytes
pub contents-refilled : (g : Guest) (tables : Tables) → AreThere tables g → (k : Contents) → contents_of (refilled g k tables) g ≡ record { window = k.window; segment = unwrap_or (option_map (λ (h : Held). k.segment) g.segment) [] }
contents-refilled g tables there k =
    ap₂ (λ (w s : List ℕ). record { window = w; segment = s }) (put-bytes (window_part g) k.window tables.windows there.window) (put-bytes g.segment k.segment tables.segments there.segment)

-- so many instructions on a memory that reaches the same windows
pub leads-as : {M N : Type 0} (from : M → List Window) (to : N → List Window) (image : M → N) → ((m : M) → to (image m) ≡ from m) → (n : ℕ) (cpu : Cpu) (m : M) (cpu' : Cpu) (m' : M) → LeadsMany from n cpu m cpu' m' → LeadsMany to n cpu (image m) cpu' (image m')
leads-as from to image law zero cpu m cpu' m' leads = (leads.0, law m' ∙ (leads.1 ∙ sym (law m)))
leads-as from to image law (suc n) cpu m cpu' m' leads =
    let b = leads.memory_between in
    record {
      cpu_between = leads.cpu_between;
      memory_between = image b;
      before = leads-as from to image law n cpu m leads.cpu_between b leads.before;
      leads = subst (λ (ws : List Window). LeadsTo (instruction leads.cpu_between ws) cpu' (to (image m'))) (sym (law b))
          (subst (λ (ws : List Window). LeadsTo (instruction leads.cpu_between (from b)) cpu' ws) (sym (law m')) leads.leads);
    }

module _ {A : Type 0} (runs : A → ℕ → Instr → Cpu → A → Type 0) (p : ℕ) where
  pub led-as : {M N : Type 0} (from : M → List Window) (to : N → List Window) (image : M → N) → ((m : M) → to (image m) ≡ from m) → (n : ℕ) (cpu : Cpu) (m : M) (x : A) (cpu' : Cpu) (m' : M) (y : A) → LedMany from runs p n cpu m x cpu' m' y → LedMany to runs p n cpu (image m) x cpu' (image m') y
  led-as from to image law zero cpu m x cpu' m' y led = (led.0, law m' ∙ (led.1 ∙ sym (law m)), led.2)
  led-as from to image law (suc n) cpu m x cpu' m' y led =
      let b = led.memory_between in
      record {
        cpu_between = led.cpu_between;
        memory_between = image b;
        observer_between = led.observer_between;
        instr = led.instr;
        before = led-as from to image law n cpu m x led.cpu_between b led.observer_between led.before;
        leads = ap (instruction led.cpu_between) (law b) ∙ (led.leads ∙ ap (Next led.instr cpu') (sym (law m')));
        told = led.told;
      }

  pub fails-as : {M N : Type 0} (from : M → List Window) (to : N → List Window) (image : M → N) → ((m : M) → to (image m) ≡ from m) → (count : ℕ) (cpu : Cpu) (m : M) (x : A) (cpu' : Cpu) (m' : M) (before after : ℕ) → LedFails from runs p count cpu m x cpu' m' before after → LedFails to runs p count cpu (image m) x cpu' (image m') before after
  fails-as from to image law count cpu m x cpu' m' before after fails =
      record {
        ran = fails.ran;
        observer = fails.observer;
        led = led-as from to image law fails.ran cpu m x cpu' m' fails.observer fails.led;
        less = fails.less;
        counted = fails.counted;
      }

-- the same windows have the same bytes
same_contents : (a b m o : List ℕ) → windows a (Some m) ≡ windows b (Some o) → ◌≡◌ {A = Contents} (record { window = a; segment = m }) (record { window = b; segment = o })
same_contents a b m o same = ap₂ (λ (w s : List ℕ). record { window = w; segment = s }) (ap first_bytes same) (ap second_bytes same)

-- both memories were lent to a process that holds a segment, and are brought back with other bytes
abbrev pub contents_at_hand : Reach → Contents
contents_at_hand r = record { window = r.space.bytes; segment = r.segment }

pub record Lent (tables l new : Tables) (g : Guest) (s : Held) (r r' : Reach) : Type 0 where
  pub there : AreThere tables g
  pub held : g.segment ≡ Some s
  pub space : nth tables.windows g.window.key ≡ Some r.space.bytes
  pub segment : nth tables.segments s.key ≡ Some r.segment
  pub lends : l ≡ record { windows = set tables.windows g.window.key None; segments = set tables.segments s.key None }
  pub takes : new ≡ record { windows = set l.windows g.window.key (Some r'.space.bytes); segments = set l.segments s.key (Some r'.segment) }

module _ {tables l new : Tables} {g : Guest} {s : Held} {r r' : Reach} (at : Lent tables l new g s r r') where
  pub at-hand-is : (x : Reach) → windows_for g.segment (contents_at_hand x) ≡ windows_of x
  at-hand-is x = ap (λ (o : Option Held). windows_for o (contents_at_hand x)) at.held

  pub first-contents : contents_at_hand r ≡ contents_of tables g
  first-contents =
      ap₂ (λ (a b : List ℕ). record { window = a; segment = b }) (sym (held-at tables.windows g.window r.space.bytes at.space))
      (sym (ap (held_bytes tables.segments) at.held ∙ held-at tables.segments s r.segment at.segment))

  pub brought-back : new ≡ refilled g (contents_at_hand r') tables
  brought-back =
      at.takes
      ∙ (ap (λ (t : Tables). record { windows = set t.windows g.window.key (Some r'.space.bytes); segments = set t.segments s.key (Some r'.segment) }) at.lends
      ∙ (ap₂ (λ (w t : Table). record { windows = w; segments = t }) (set-set tables.windows g.window.key None (Some r'.space.bytes)) (set-set tables.segments s.key None (Some r'.segment))
      ∙ ap (λ (o : Option Held). record { windows = set tables.windows g.window.key (Some r'.space.bytes); segments = with_held o r'.segment tables.segments }) (sym at.held)))

  pub last-contents : contents_at_hand r' ≡ contents_of new g
  last-contents =
      sym (ap (λ (t : Tables). contents_of t g) brought-back
      ∙ (contents-refilled g tables at.there (contents_at_hand r')
      ∙ ap (λ (o : Option Held). record { window = r'.space.bytes; segment = unwrap_or (option_map (λ (h : Held). r'.segment) o) [] }) at.held))

  pub back-refilled : new ≡ refilled g (contents_of new g) tables
  back-refilled = brought-back ∙ ap (λ (k : Contents). refilled g k tables) last-contents

  pub back-same : windows_of r' ≡ windows_of r → new ≡ tables
  back-same same =
      brought-back
      ∙ (ap (λ (k : Contents). refilled g k tables) (same_contents r'.space.bytes r.space.bytes r'.segment r.segment same ∙ first-contents)
      ∙ refilled-same g tables at.there)

  -- what it reaches before and after
  pub first-reach : reach (view_of tables g) ≡ windows_of r
  first-reach = reach-now g tables ∙ (ap (windows_for g.segment) (sym first-contents) ∙ at-hand-is r)

  pub last-reach : (cpu : Cpu) → reach (view_of new (record g { cpu = cpu })) ≡ windows_of r'
  last-reach cpu = reach-now (record g { cpu = cpu }) new ∙ (ap (windows_for g.segment) (sym last-contents) ∙ at-hand-is r')

-- a process that holds no segment
abbrev pub contents_alone : Paged → Contents
contents_alone space = record { window = space.bytes; segment = [] }

abbrev pub lone : Paged → List Window
lone space = windows space.bytes None

abbrev pub after_alone : List (Option Paged) → Table → Guest → Paged → Tables
after_alone spaces segments g space = tabled (set spaces g.window.key (Some space)) segments

pub record Alone (spaces : List (Option Paged)) (segments : Table) (tables : Tables) (g : Guest) (space space' : Paged) : Type 0 where
  pub is : tabled spaces segments ≡ tables
  pub there : AreThere tables g
  pub none : g.segment ≡ None
  pub found : nth spaces g.window.key ≡ Some space

module _ {spaces : List (Option Paged)} {segments : Table} {tables : Tables} {g : Guest} {space space' : Paged} (at : Alone spaces segments tables g space space') where
  pub alone-is : (x : Paged) → windows_for g.segment (contents_alone x) ≡ lone x
  alone-is x = ap (λ (o : Option Held). windows_for o (contents_alone x)) at.none

  pub alone-first : contents_alone space ≡ contents_of tables g
  alone-first =
      ap₂ (λ (a b : List ℕ). record { window = a; segment = b }) (sym (held-at tables.windows g.window space.bytes (window-at spaces segments tables at.is g.window.key (Some space) at.found)))
      (sym (ap (held_bytes tables.segments) at.none))

  pub alone-put : (after_alone spaces segments g space') ≡ refilled g (contents_alone space') tables
  alone-put = windows-set spaces segments tables at.is g.window.key (Some space') ∙ ap (λ (o : Option Held). record { windows = set tables.windows g.window.key (Some space'.bytes); segments = with_held o [] tables.segments }) (sym at.none)

  pub alone-last : contents_alone space' ≡ contents_of (after_alone spaces segments g space') g
  alone-last =
      sym (ap (λ (t : Tables). contents_of t g) alone-put
      ∙ (contents-refilled g tables at.there (contents_alone space')
      ∙ ap (λ (o : Option Held). record { window = space'.bytes; segment = unwrap_or (option_map (λ (h : Held). []) o) [] }) at.none))

  pub alone-refilled : (after_alone spaces segments g space') ≡ refilled g (contents_of (after_alone spaces segments g space') g) tables
  alone-refilled = alone-put ∙ ap (λ (k : Contents). refilled g k tables) alone-last

  pub alone-same : lone space' ≡ lone space → (after_alone spaces segments g space') ≡ tables
  alone-same same = same-bytes spaces segments tables at.is g.window.key space space' at.found (ap first_bytes same)

  pub alone-first-reach : reach (view_of tables g) ≡ lone space
  alone-first-reach = reach-now g tables ∙ (ap (windows_for g.segment) (sym alone-first) ∙ alone-is space)

  pub alone-last-reach : (cpu : Cpu) → reach (view_of (after_alone spaces segments g space') (record g { cpu = cpu })) ≡ lone space'
  alone-last-reach cpu = reach-now (record g { cpu = cpu }) (after_alone spaces segments g space') ∙ (ap (windows_for g.segment) (sym alone-last) ∙ alone-is space')
