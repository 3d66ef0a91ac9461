-- A process that runs many instructions, among others.
use Rattle.std.proofs.Common.{◌≡◌, ℕ, zero, suc, List, [], ◌∷◌, set, Option, Some, None, IsSome, is_some, option_map, unwrap_or, refl, sym, ap, ap₂, subst, ◌∙◌}
use Rattle.std.proofs.lemmas.List.{set-set}
use Rattle.arn_base.specs.Window.{Window}
use Rattle.arn_base.specs.declared.machine.Cpu.{Cpu}
use Rattle.acts_model.specs.Bodies.{View, put}
use Rattle.acts_model.specs.Views.{reach, stands_at, with_cpu, with_reach}
use Rattle.parts_model.specs.Memory.{windows}
use Rattle.parts_model.specs.Numbered.{nth}
use Rattle.rv64_core.specs.Outcome.{LeadsTo}
use Rattle.rv64_isa.specs.declared.instruction.Instr.{Instr}
use Rattle.rv64_model.specs.Instruction.{Effect, instruction}
use Rattle.guest_bodies.specs.Follows.{Follows, KeepsWatches}
use Rattle.guest_bodies.specs.Kept.{AreThere, Contents, IsSound, body_of, contents_of, refilled, shown_all, shown_of, view_of, window_part, windows_for}
use Rattle.guest_bodies.specs.Led.{LedMany}
use Rattle.guest_bodies.specs.Running.{LeadsMany, RanMany}
use Rattle.guest_bodies.specs.Shown.{Guests, Shown, seen_in}
use Rattle.guest_bodies.specs.Tables.{IfHeld, Table, Tables, held_bytes, with_held}
use Rattle.guest_bodies.specs.Told.{ToldMany}
use Rattle.guest_bodies.specs.declared.guest.Guest.{Guest}
use Rattle.guest_bodies.specs.declared.guest.Held.{Held}
use Rattle.guest_bodies.proofs.Changes.{same-shown, seen-shown, there-of}
use Rattle.guest_bodies.proofs.InPlace.{Place, moved-put, moved-sound, moved-watches, place, some-there}
use Rattle.guest_bodies.proofs.Numbers.{IsSome-within, nth-map, nth-set, set-nth}

-- the bytes of the first window, and of the second
abbrev pub first_bytes : List Window → List ℕ
first_bytes [] = []
first_bytes (w ∷ ws) = w.bytes

abbrev pub second_bytes : List Window → List ℕ
second_bytes [] = []
second_bytes (w ∷ ws) = first_bytes ws

-- bytes that are put are there
pub put-bytes : (o : Option Held) (bytes : List ℕ) (table : Table) → IfHeld o table → held_bytes (with_held o bytes table) o ≡ unwrap_or (option_map (λ (h : Held). bytes) o) []
put-bytes None bytes table there = refl
put-bytes (Some h) bytes table there = ap (λ (x : Option (List ℕ)). unwrap_or x []) (nth-set table h.key (Some bytes) (IsSome-within table h.key there))

-- the same bytes change nothing
whole-bytes : (x : Option (List ℕ)) → IsSome x → x ≡ Some (unwrap_or x [])
whole-bytes None there = cc
whole-bytes (Some b) there = refl

pub same-held : (o : Option Held) (table : Table) → IfHeld o table → with_held o (held_bytes table o) table ≡ table
same-held None table there = refl
same-held (Some h) table there = set-nth table h.key (Some (held_bytes table (Some h))) there (whole-bytes (nth table h.key) there)

-- bytes that are put twice
put-twice : (o : Option Held) (a b : List ℕ) (table : Table) → with_held o b (with_held o a table) ≡ with_held o b table
put-twice None a b table = refl
put-twice (Some h) a b table = set-set table h.key (Some a) (Some b)

pub refilled-twice : (g : Guest) (a b : Contents) (tables : Tables) → refilled g b (refilled g a tables) ≡ refilled g b tables
refilled-twice g a b tables =
    ap₂ (λ (w s : Table). record { windows = w; segments = s }) (put-twice (window_part g) a.window b.window tables.windows) (put-twice g.segment a.segment b.segment tables.segments)

pub refilled-same : (g : Guest) (tables : Tables) → AreThere tables g → refilled g (contents_of tables g) tables ≡ tables
refilled-same g tables there =
    ap₂ (λ (w s : Table). record { windows = w; segments = s }) (same-held (window_part g) tables.windows there.window) (same-held g.segment tables.segments there.segment)

-- where the windows are the same, so is what is put
same-segment : (o : Option Held) (a b : Contents) (table : Table) → windows_for o a ≡ windows_for o b → with_held o a.segment table ≡ with_held o b.segment table
same-segment None a b table same = refl
same-segment (Some h) a b table same = ap (λ (ws : List Window). with_held (Some h) (second_bytes ws) table) same

pub refilled-alike : (g : Guest) (a b : Contents) (tables : Tables) → windows_for g.segment a ≡ windows_for g.segment b → refilled g a tables ≡ refilled g b tables
refilled-alike g a b tables same =
    ap₂ (λ (w s : Table). record { windows = w; segments = s }) (ap (λ (ws : List Window). with_held (window_part g) (first_bytes ws) tables.windows) same) (same-segment g.segment a b tables.segments same)

-- what the process sees, with these registers and these bytes
seen-refilled : (g : Guest) (tables : Tables) → AreThere tables g → (cpu : Cpu) (k : Contents) → view_of (refilled g k tables) (record g { cpu = cpu }) ≡ record { body = body_of (record g { cpu = cpu }); window = k.window; segment = unwrap_or (option_map (λ (h : Held). k.segment) g.segment) [] }
seen-refilled g tables there cpu k =
    ap₂ (λ (w s : List ℕ). record { body = body_of (record g { cpu = cpu }); window = w; segment = s }) (put-bytes (window_part g) k.window tables.windows there.window) (put-bytes g.segment k.segment tables.segments there.segment)

-- the windows that it reaches then
pub reach-refilled : (g : Guest) (tables : Tables) → AreThere tables g → (cpu : Cpu) (k : Contents) → reach (view_of (refilled g k tables) (record g { cpu = cpu })) ≡ windows_for g.segment k
reach-refilled g tables there cpu k = ap reach (seen-refilled g tables there cpu k) ∙ by g.segment
  where
    by : (o : Option Held) → windows k.window (option_map (λ (made : ℕ). unwrap_or (option_map (λ (h : Held). k.segment) o) []) (option_map (λ (h : Held). h.made) o)) ≡ windows_for o k
    by None = refl
    by (Some h) = refl

pub reach-now : (g : Guest) (tables : Tables) → reach (view_of tables g) ≡ windows_for g.segment (contents_of tables g)
reach-now g tables = by g.segment
  where
    by : (o : Option Held) → windows (held_bytes tables.windows (window_part g)) (option_map (λ (made : ℕ). held_bytes tables.segments o) (option_map (λ (h : Held). h.made) o)) ≡ windows (held_bytes tables.windows (window_part g)) (option_map (λ (h : Held). held_bytes tables.segments o) o)
    by None = refl
    by (Some h) = refl

view-refilled : (g : Guest) (tables : Tables) → AreThere tables g → (c cpu : Cpu) (m k : Contents) → view_of (refilled g k tables) (record g { cpu = cpu }) ≡ with_reach (windows_for g.segment k) (with_cpu cpu (view_of (refilled g m tables) (record g { cpu = c })))
view-refilled g tables there c cpu m k =
    seen-refilled g tables there cpu k
    ∙ (by g.segment ∙ ap (λ (v : View). with_reach (windows_for g.segment k) (with_cpu cpu v)) (sym (seen-refilled g tables there c m)))
  where
    by : (o : Option Held) → record { body = body_of (record g { cpu = cpu; segment = o }); window = k.window; segment = unwrap_or (option_map (λ (h : Held). k.segment) o) [] } ≡ with_reach (windows_for o k) (with_cpu cpu (record { body = body_of (record g { cpu = c; segment = o }); window = m.window; segment = unwrap_or (option_map (λ (h : Held). m.segment) o) [] }))
    by None = refl
    by (Some h) = refl

module _ (guests : Guests) (all : List (Option Guest)) (tables : Tables) (p : ℕ) (g : Guest) (shown : shown_all all tables ≡ guests) (sound : IsSound all tables) (stands : nth all p ≡ Some g) where
  -- the process with these registers, the tables with these bytes, and what is shown then
  abbrev with_ : Cpu → Guest
  with_ cpu = record g { cpu = cpu }

  abbrev all_with : Cpu → List (Option Guest)
  all_with cpu = set all p (Some (with_ cpu))

  abbrev pub shown_with : Cpu → Contents → Guests
  shown_with cpu k = shown_all (all_with cpu) (refilled g k tables)

  there : AreThere tables g
  there = there-of p g all tables sound stands

  at_first : (cpu : Cpu) → Place guests all tables p g (with_ cpu)
  at_first cpu = place guests all tables p g (with_ cpu) shown sound stands

  stands-now : (cpu : Cpu) → nth (all_with cpu) p ≡ Some (with_ cpu)
  stands-now cpu = nth-set all p (Some (with_ cpu)) (IsSome-within all p (some-there all p g stands))

  at_then : (c : Cpu) (m : Contents) (cpu : Cpu) → Place (shown_with c m) (all_with c) (refilled g m tables) p (with_ c) (with_ cpu)
  at_then c m cpu = place (shown_with c m) (all_with c) (refilled g m tables) p (with_ c) (with_ cpu) refl (moved-sound (at_first c) refl refl m (refilled g m tables) refl) (stands-now c)

  sees : (c : Cpu) (m : Contents) → seen_in (shown_with c m) p ≡ Some (view_of (refilled g m tables) (with_ c))
  sees c m = seen-shown (all_with c) (refilled g m tables) p ∙ ap (option_map (view_of (refilled g m tables))) (stands-now c)

  follows : (c cpu : Cpu) (m k : Contents) → Follows (shown_with c m) (put p (with_reach (windows_for g.segment k) (with_cpu cpu (view_of (refilled g m tables) (with_ c))))) (shown_with cpu k)
  follows c cpu m k =
      let once : Follows (shown_with c m) (put p (view_of (refilled g k tables) (with_ cpu))) (shown_all (set (all_with c) p (Some (with_ cpu))) (refilled g k tables)) =
      moved-put (at_then c m cpu) refl refl k (refilled g k tables) (sym (refilled-twice g m k tables)) in
      subst (λ (v : View). Follows (shown_with c m) (put p v) (shown_with cpu k)) (view-refilled g tables there c cpu m k)
      (subst (λ (l : List (Option Guest)). Follows (shown_with c m) (put p (view_of (refilled g k tables) (with_ cpu))) (shown_all l (refilled g k tables))) (set-set all p (Some (with_ c)) (Some (with_ cpu))) once)

  watches : (c cpu : Cpu) (m k : Contents) → KeepsWatches (shown_with c m) (shown_with cpu k)
  watches c cpu m k =
      subst (λ (l : List (Option Guest)). KeepsWatches (shown_with c m) (shown_all l (refilled g k tables))) (set-set all p (Some (with_ c)) (Some (with_ cpu)))
      (moved-watches (at_then c m cpu) refl refl k (refilled g k tables) (sym (refilled-twice g m k tables)) refl)

  stood : (c : Cpu) (m : Contents) → instruction c (windows_for g.segment m) ≡ stands_at (view_of (refilled g m tables) (with_ c))
  stood c m = ap (instruction c) (sym (reach-refilled g tables there c m))

  none-ran : (cpu : Cpu) (k : Contents) → cpu ≡ g.cpu → windows_for g.segment k ≡ windows_for g.segment (contents_of tables g) → shown_with cpu k ≡ guests
  none-ran cpu k cpu_is bytes =
      let same : refilled g k tables ≡ tables = refilled-alike g k (contents_of tables g) tables bytes ∙ refilled-same g tables there in
      same-shown p g (with_ cpu) all tables (refilled g k tables) stands same (ap (λ (c : Cpu). view_of tables (with_ c)) cpu_is) refl ∙ shown

  pub ran-many : (n : ℕ) (cpu : Cpu) (k : Contents) → LeadsMany (windows_for g.segment) n g.cpu (contents_of tables g) cpu k → RanMany n p guests (shown_with cpu k)
  ran-many zero cpu k leads = none-ran cpu k leads.0 leads.1
  ran-many (suc n) cpu k leads =
      let c = leads.cpu_between in
      let m = leads.memory_between in
      record {
        between = shown_with c m;
        before = ran-many n c m leads.before;
        ran = record {
          before = view_of (refilled g m tables) (with_ c);
          cpu = cpu;
          memory = windows_for g.segment k;
          stood = sees c m;
          tells = subst (λ (e : Effect). LeadsTo e cpu (windows_for g.segment k)) (stood c m) leads.leads;
          follows = follows c cpu m k;
        };
        watches = watches c cpu m k;
      }

  pub told-many : {A : Type 0} (runs : A → ℕ → Instr → Cpu → A → Type 0) (n : ℕ) (cpu : Cpu) (k : Contents) (x y : A) → LedMany (windows_for g.segment) runs p n g.cpu (contents_of tables g) x cpu k y → ToldMany runs p n guests (shown_with cpu k) x y
  told-many runs zero cpu k x y led = (none-ran cpu k led.0 led.1, led.2)
  told-many runs (suc n) cpu k x y led =
      let c = led.cpu_between in
      let m = led.memory_between in (
        shown_with c m,
        led.observer_between,
        told-many runs n c m x led.observer_between led.before,
        record {
          instr = led.instr;
          executed = record {
            before = view_of (refilled g m tables) (with_ c);
            cpu = cpu;
            memory = windows_for g.segment k;
            stood = sees c m;
            is_next = sym (stood c m) ∙ led.leads;
            follows = follows c cpu m k;
          };
          told = led.told;
        },
      )

  -- where it ran, what holds of these registers and bytes holds of the process and of the tables
  pub ran-so : (P : Guests → Type 0) (g' : Guest) (tables' : Tables) → g' ≡ record g { cpu = g'.cpu } → tables' ≡ refilled g (contents_of tables' g) tables → P (shown_with g'.cpu (contents_of tables' g)) → P (shown_all (set all p (Some g')) tables')
  ran-so P g' tables' guest is holds =
      subst (λ (x : Guest). P (shown_all (set all p (Some x)) tables')) (sym guest)
      (subst (λ (l : Tables). P (shown_all (all_with g'.cpu) l)) (sym is) holds)

  -- it sees what stands in its place
  pub sees-now : (g' : Guest) (tables' : Tables) → seen_in (shown_all (set all p (Some g')) tables') p ≡ Some (view_of tables' g')
  sees-now g' tables' =
      seen-shown (set all p (Some g')) tables' p ∙ ap (option_map (view_of tables')) (nth-set all p (Some g') (IsSome-within all p (some-there all p g stands)))

  pub lives-now : (g' : Guest) (tables' : Tables) → IsSome (nth (shown_all (set all p (Some g')) tables') p)
  lives-now g' tables' =
      ap (λ (o : Option Shown). is_some o) (nth-map (shown_of tables') (set all p (Some g')) p ∙ ap (option_map (shown_of tables')) (nth-set all p (Some g') (IsSome-within all p (some-there all p g stands))))

-- a view is read off what it reaches
pub reach-back : (tables tables' : Tables) (g g' : Guest) → g' ≡ record g { cpu = g'.cpu } → view_of tables' g' ≡ with_reach (reach (view_of tables' g')) (with_cpu g'.cpu (view_of tables g))
reach-back tables tables' g g' guest =
    subst (λ (x : Guest). view_of tables' x ≡ with_reach (reach (view_of tables' x)) (with_cpu g'.cpu (view_of tables g))) (sym guest) (by g.segment)
  where
    by : (o : Option Held) → view_of tables' (record g { cpu = g'.cpu; segment = o }) ≡ with_reach (reach (view_of tables' (record g { cpu = g'.cpu; segment = o }))) (with_cpu g'.cpu (view_of tables (record g { segment = o })))
    by None = refl
    by (Some h) = refl
