-- For one descriptor after the other one more stands for what it does.
use Rattle.std.proofs.Common.{◌≡◌, ℕ, ◌+◌, ◌-◌, ◌<◌, ◌≤◌, ◌==◌, ◌^◌, Bool, true, false, List, [], ◌∷◌, length, set, drop, get_or, Option, None, Some, is_some, option_map, refl, sym, ap, ◌∙◌, arith, subst}
use Rattle.std.specs.List.{list_all}
use Rattle.std.proofs.lemmas.Bool.{eqb-true, eqb-false, lt-ltb, ltb-true, and_from, and_parts}
use Rattle.std.proofs.lemmas.List.{drop_all, drop_more}
use Rattle.parts_model.specs.Numbered.{nth}
use Rattle.arn_model.specs.Kernel.{Kernel, Opened, all_also_held, at_first, with_count}
use Rattle.guest_resources.specs.Resources.{Resources, Changes, with_resources}
use Rattle.guest_resources.specs.Rooms.{fits, has_room, have_room}
use Rattle.guest_resources.proofs.Numbers.{nth-set, nth-set_other, set-none}

-- fewer fit as well
fewer-fit : (c e : ℕ) (o : Option Opened) → e ≤ c → fits c o ≡ true → fits e o ≡ true
fewer-fit c e None less room = refl
fewer-fit c e (Some o) less room = lt-ltb (o.descriptors + e) (2 ^ 32) (omega (arith, less, ltb-true (o.descriptors + c) (2 ^ 32) room))

fewer-room : (c e : ℕ) (all : List (Option Opened)) (x : Option ℕ) → e ≤ c → has_room c all x ≡ true → has_room e all x ≡ true
fewer-room c e all None less room = refl
fewer-room c e all (Some n) less room = fewer-fit c e (nth all n) less room

-- the descriptions, one of which has one descriptor more
abbrev held_at : ℕ → Option Opened → List (Option Opened) → List (Option Opened)
held_at n o all = set all n (option_map (with_count (λ c. c + 1)) o)

own-fits : (c n : ℕ) (all : List (Option Opened)) (o : Option Opened) → nth all n ≡ o → fits (c + 1) o ≡ true → fits c (nth (held_at n o all) n) ≡ true
own-fits c n all None is room = subst (λ (x : Option Opened). fits c x ≡ true) (sym (ap (λ (l : List (Option Opened)). nth l n) (set-none all n is) ∙ is)) refl
own-fits c n all (Some o) is room =
    subst (λ (x : Option Opened). fits c x ≡ true) (sym (nth-set all n (Some (with_count (λ c. c + 1) o)) (ap is_some is)))
    (lt-ltb (o.descriptors + 1 + c) (2 ^ 32) (omega (arith, ltb-true (o.descriptors + (c + 1)) (2 ^ 32) room)))

after-fits : (c n m : ℕ) (all : List (Option Opened)) → (b : Bool) → (m == n) ≡ b → fits (c + 1) (nth all m) ≡ true → fits c (nth (held_at n (nth all n) all) m) ≡ true
after-fits c n m all true e room =
    subst (λ (i : ℕ). fits c (nth (held_at n (nth all n) all) i) ≡ true) (sym (eqb-true m n e))
    (own-fits c n all (nth all n) refl (subst (λ (i : ℕ). fits (c + 1) (nth all i) ≡ true) (eqb-true m n e) room))
after-fits c n m all false e room =
    subst (λ (x : Option Opened). fits c x ≡ true) (sym (nth-set_other all n (option_map (with_count (λ c. c + 1)) (nth all n)) m (eqb-false m n e)))
    (fewer-fit (c + 1) c (nth all m) (omega arith) room)

module _ (r s : Resources) (x : Option ℕ) (changes : Changes r (all_also_held (x ∷ [])) s) where
  room-by : (c : ℕ) (w y : Option ℕ) → has_room (c + 1) r.descriptions y ≡ true → has_room c (all_also_held (w ∷ []) (with_resources r at_first.kernel)).descriptions y ≡ true
  room-by c w None room = refl
  room-by c None (Some m) room = fewer-fit (c + 1) c (nth r.descriptions m) (omega arith) room
  room-by c (Some n) (Some m) room = after-fits c n m r.descriptions (m == n) refl room

  room-after : (c : ℕ) (y : Option ℕ) → has_room (c + 1) r.descriptions y ≡ true → has_room c s.descriptions y ≡ true
  room-after c y room = subst (λ (all : List (Option Opened)). has_room c all y ≡ true) (ap (λ (k : Kernel). k.descriptions) (changes.kernel at_first.kernel)) (room-by c x y room)

  rooms-after : (c : ℕ) (ns : List (Option ℕ)) → list_all (has_room (c + 1) r.descriptions) ns ≡ true → list_all (has_room c s.descriptions) ns ≡ true
  rooms-after c [] room = refl
  rooms-after c (y ∷ ns) room =
      let first : Bool = has_room (c + 1) r.descriptions y in
      let rest : Bool = list_all (has_room (c + 1) r.descriptions) ns in
      and_from (has_room c s.descriptions y) (list_all (has_room c s.descriptions) ns) (room-after c y (and_parts first rest room).0) (rooms-after c ns (and_parts first rest room).1)

-- what those descriptors from a place on stand for is held, and has room
pub record IsHolding (ds : List (Option ℕ)) (i : ℕ) (old new : Resources) : Type 0 where
  pub held : (k : Kernel) → all_also_held (drop i ds) (with_resources new k) ≡ all_also_held ds (with_resources old k)
  pub room : list_all (has_room (length ds - i) new.descriptions) (drop i ds) ≡ true

held-first : (x : Option ℕ) (ns : List (Option ℕ)) (k : Kernel) → all_also_held (x ∷ ns) k ≡ all_also_held ns (all_also_held (x ∷ []) k)
held-first None ns k = refl
held-first (Some n) ns k = refl

pub holding-first : (ds : List (Option ℕ)) (old : Resources) → have_room ds old.descriptions ≡ true → IsHolding ds 0 old old
holding-first ds old room =
    let all : length ds ≡ length ds - 0 = omega arith in
    record { held = λ k. refl; room = subst (λ (c : ℕ). list_all (has_room c old.descriptions) ds ≡ true) all room }

rooms-at : (ds : List (Option ℕ)) (i : ℕ) (d : Option ℕ) (old new : Resources) → i < length ds → IsHolding ds i old new → list_all (has_room (length ds - (i + 1) + 1) new.descriptions) (get_or ds i d ∷ drop (i + 1) ds) ≡ true
rooms-at ds i d old new within holding =
    let e : length ds - i ≡ length ds - (i + 1) + 1 = omega (arith, within) in
    subst (λ (l : List (Option ℕ)). list_all (has_room (length ds - (i + 1) + 1) new.descriptions) l ≡ true) (drop_more ds i d within)
    (subst (λ (c : ℕ). list_all (has_room c new.descriptions) (drop i ds) ≡ true) e holding.room)

-- the next one has room for one more
pub next-room : (ds : List (Option ℕ)) (i : ℕ) (d : Option ℕ) (old new : Resources) → i < length ds → IsHolding ds i old new → has_room 1 new.descriptions (get_or ds i d) ≡ true
next-room ds i d old new within holding =
    fewer-room (length ds - (i + 1) + 1) 1 new.descriptions (get_or ds i d) (omega arith)
    (and_parts (has_room (length ds - (i + 1) + 1) new.descriptions (get_or ds i d)) (list_all (has_room (length ds - (i + 1) + 1) new.descriptions) (drop (i + 1) ds)) (rooms-at ds i d old new within holding)).0

pub holding-next : (ds : List (Option ℕ)) (i : ℕ) (d : Option ℕ) (old mid new : Resources) → i < length ds → IsHolding ds i old mid → Changes mid (all_also_held (get_or ds i d ∷ [])) new → IsHolding ds (i + 1) old new
holding-next ds i d old mid new within holding changes =
    record {
      held =
          λ k. ap (all_also_held (drop (i + 1) ds)) (sym (changes.kernel k))
          ∙ (sym (held-first (get_or ds i d) (drop (i + 1) ds) (with_resources mid k))
          ∙ (ap (λ (l : List (Option ℕ)). all_also_held l (with_resources mid k)) (sym (drop_more ds i d within)) ∙ holding.held k));
      room =
          rooms-after mid new (get_or ds i d) changes (length ds - (i + 1)) (drop (i + 1) ds)
          (and_parts (has_room (length ds - (i + 1) + 1) mid.descriptions (get_or ds i d)) (list_all (has_room (length ds - (i + 1) + 1) mid.descriptions) (drop (i + 1) ds)) (rooms-at ds i d old mid within holding)).1;
    }

pub all-held : (ds : List (Option ℕ)) (i : ℕ) (old new : Resources) → length ds ≤ i → IsHolding ds i old new → Changes old (all_also_held ds) new
all-held ds i old new past holding =
    record { kernel = λ k. sym (holding.held k) ∙ ap (λ (l : List (Option ℕ)). all_also_held l (with_resources new k)) (drop_all i ds past) }
