-- What room there is after one list of many has changed.
use Rattle.std.proofs.Common.{◌≡◌, ℕ, zero, suc, ◌<◌, ◌≤◌, List, [], ◌∷◌, ◌++◌, ap, sym, ◌∙◌, length, get_or, set, subst, arith, vec_len, vec_capacity}
use Rattle.std.proofs.Math.Seq.{map-set_same}
use Rattle.std.proofs.lemmas.List.{get_or-map, map-set}
use Rattle.std.specs.Global.{Vec}
use Rattle.replay_groups.specs.Room.{HasRoomAt}
use Rattle.replay_groups.specs.Sound.{numbers}

-- a list with the same numbers in the place of one
pub numbers-set : (lists : List (Vec ℕ)) (i : ℕ) (y d : Vec ℕ) → y.items ≡ (get_or lists i d).items → numbers (set lists i y) ≡ numbers lists
numbers-set lists i y d same = map-set_same (λ (l : Vec ℕ). l.items) lists i y d same

-- the numbers of one list
pub numbers-at : (lists : List (Vec ℕ)) (i : ℕ) (d : Vec ℕ) → i < length lists → get_or (numbers lists) i [] ≡ (get_or lists i d).items
numbers-at lists i d inside = get_or-map (λ (l : Vec ℕ). l.items) lists i d [] inside

-- a list with one more number
pub numbers-push : (lists : List (Vec ℕ)) (i j pid : ℕ) (y d : Vec ℕ) → i ≡ j → i < length lists → y.items ≡ (get_or lists i d).items ++ pid ∷ [] → numbers (set lists i y) ≡ set (numbers lists) j (get_or (numbers lists) j [] ++ pid ∷ [])
numbers-push lists i j pid y d same inside pushed =
    rw (← same) (map-set (λ (l : Vec ℕ). l.items) lists i y ∙ ap (λ (l : List ℕ). set (numbers lists) i l) (pushed ∙ ap (λ (l : List ℕ). l ++ pid ∷ []) (sym (numbers-at lists i d inside))))

-- a list with room
room-set_same : (lists : List (Vec ℕ)) (i : ℕ) (y : Vec ℕ) → i < length lists → vec_len y < vec_capacity y → HasRoomAt (set lists i y) i
room-set_same [] i y inside room = tt
room-set_same (l ∷ lists) zero y inside room = room
room-set_same (l ∷ lists) (suc i) y inside room = room-set_same lists i y (omega arith) room

pub room-set : (lists : List (Vec ℕ)) (i j : ℕ) (y : Vec ℕ) → i ≡ j → i < length lists → vec_len y < vec_capacity y → HasRoomAt (set lists i y) j
room-set lists i j y same inside room = subst (λ (k : ℕ). HasRoomAt (set lists i y) k) same (room-set_same lists i y inside room)

-- one that has no less room
pub room-kept : (lists : List (Vec ℕ)) (i j : ℕ) (y d : Vec ℕ) → vec_len y ≡ vec_len (get_or lists i d) → vec_capacity (get_or lists i d) ≤ vec_capacity y → HasRoomAt lists j → HasRoomAt (set lists i y) j
room-kept [] i j y d same more room = tt
room-kept (l ∷ lists) zero zero y d same more room = omega arith
room-kept (l ∷ lists) zero (suc j) y d same more room = room
room-kept (l ∷ lists) (suc i) zero y d same more room = room
room-kept (l ∷ lists) (suc i) (suc j) y d same more room = room-kept lists i j y d same more room

pub room-past : (lists : List (Vec ℕ)) (i : ℕ) → length lists ≤ i → HasRoomAt lists i
room-past [] i past = tt
room-past (l ∷ lists) zero past = absurd (omega arith)
room-past (l ∷ lists) (suc i) past = room-past lists i (omega arith)
