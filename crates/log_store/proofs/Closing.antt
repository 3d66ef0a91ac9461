-- What a stop leaves while the end of a log is closed.
use Rattle.std.proofs.lemmas.Bool.Decides.{nat_tests}
use Rattle.std.proofs.Common.{◌≡◌, ◌≢◌, inl, inr, ℕ, ◌+◌, ◌<◌, List, [], ◌∷◌, ◌++◌, length, take, drop, get_or, Option, option_map, sym, ap, ◌∙◌, subst, length-drop, length-take, arith, IfSome}
use Rattle.std.proofs.lemmas.List.{append-nil, take-take, drop_more, drop_all, get_or-take, get_or-drop}
use Rattle.arn_base.specs.Disk.{overwrite, Torn, Cut}
use Rattle.log_store.specs.Log.{IsEnd}
use Rattle.log_store.specs.Pieces.{EndsWith, IsSameFront}

-- how long bytes are that end so
length-ends : (gate : ℕ) (end told : List ℕ) → EndsWith gate end told → length told ≡ gate + length end
length-ends gate end told ends =
    omega (arith, length-drop gate told, ap length ends.are_bytes, ends.is_within)

-- the gate that something follows isn't open
not_open : (end : List ℕ) → IsEnd end → 1 < length end → get_or end 0 0 ≢ 1
not_open end h1 h2 = grind (arith, nat_tests)

pub cut_front : (gate : ℕ) (end told left : List ℕ) → EndsWith gate end told → IsEnd end → 1 < length end → Cut (gate + 1) told left → IsSameFront gate told left
cut_front gate end told left ends is more cut =
    let within : gate < length left = omega (arith, length-ends gate end told ends, more, cut.no_shorter) in
    let same : (get_or left gate 0) ≡ get_or end 0 0 =
    sym (get_or-take (gate + 1) left gate 0 (omega arith))
    ∙ ap (λ (xs : List ℕ). get_or xs gate 0) cut.front
    ∙ get_or-take (gate + 1) told gate 0 (omega arith)
    ∙ sym (get_or-drop gate told 0 0 ∙ ap (λ (k : ℕ). get_or told k 0) (omega arith))
    ∙ ap (λ (xs : List ℕ). get_or xs 0 0) ends.are_bytes in
    record {
      front =
          sym (take-take gate (gate + 1) left (omega arith))
          ∙ ap (λ (xs : List ℕ). take gate xs) cut.front
          ∙ take-take gate (gate + 1) told (omega arith);
      is_end = subst IsEnd (sym (drop_more left gate 0 within)) (inl (λ is_open. not_open end is more (sym same ∙ is_open)));
      no_longer = cut.no_longer;
    }

-- behind a gate that is the last byte stands nothing
nothing_behind : (gate value : ℕ) (told : List ℕ) → EndsWith gate (value ∷ []) told → drop (gate + 1) told ≡ []
nothing_behind gate value told ends = drop_all (gate + 1) told (omega (arith, length-ends gate (value ∷ []) told ends))

pub gate_front : (gate value : ℕ) (told left : List ℕ) → EndsWith gate (value ∷ []) told → Torn gate 1 told left → IsSameFront gate told left
gate_front gate value told left ends torn =
    let long = length-ends gate (value ∷ []) told ends in
    let within : gate < length left = omega (arith, long, torn.no_shorter) in
    record {
      front = torn.before;
      is_end = subst IsEnd (sym (drop_more left gate 0 within)) (inr (torn.after ∙ nothing_behind gate value told ends));
      no_longer = omega (arith, long, torn.no_longer);
    }

pub gate_closed : (gate value : ℕ) (o : Option (List ℕ)) → IfSome o (EndsWith gate (value ∷ []))
    → option_map (λ old. overwrite old gate (0 ∷ [])) o ≡ option_map (λ told. take gate told ++ 0 ∷ []) o
gate_closed gate value o h1 = grind (arith, nat_tests, nothing_behind, append-nil)

-- what has the front of what was cut has that of all
pub same_front_after : (gate : ℕ) (told left : List ℕ) → IsSameFront gate (take (gate + 1) told) left → IsSameFront gate told left
same_front_after gate told left h1 = grind (arith, nat_tests, take-take, length-take)
