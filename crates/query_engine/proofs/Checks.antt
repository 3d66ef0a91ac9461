-- What is checked of a record that can follow others.
use Rattle.std.proofs.Common.{◌≡◌, ◌||◌, Bool, true, false, not, if◌then◌else◌, List, [], ◌∷◌, ◌++◌, length, Some, None, refl}
use Rattle.arn_base.specs.declared.records.Record.{Record}
use Rattle.acts_model.specs.Records.{give_of}
use Rattle.history_model.specs.Broken.{are_origins, broken_from, cant_follow, child_in, comes_wrong, has_blocks_wrong, lacks_process, lacks_slice, misnumbers, misplaces_start, start_in}

left : (a b : Bool) → (a || b) ≡ false → a ≡ false
left false b h = refl
left true b h = absurd (cc)

right : (a b : Bool) → (a || b) ≡ false → b ≡ false
right false b h = h
right true b h = absurd (cc)

numbered : (before : List Record) (e : Record) → cant_follow before e ≡ false → misnumbers before (child_in e) ≡ false
numbered before e f =
    let placed = misnumbers before (child_in e) || misplaces_start e in
    let blocked = has_blocks_wrong (start_in e) || placed in
    let given = not (are_origins before (give_of e)) || blocked in
    left (misnumbers before (child_in e)) (misplaces_start e)
    (right (has_blocks_wrong (start_in e)) placed
    (right (not (are_origins before (give_of e))) blocked
    (right (lacks_slice before e) given
    (right (lacks_process before e) (lacks_slice before e || given)
    (right (comes_wrong before e) (lacks_process before e || (lacks_slice before e || given)) f)))))

-- records that aren't broken: the first numbers its child as it should, and so do the others
pub record GoesOn (before : List Record) (e : Record) (rest : List Record) : Type 0 where
  pub numbers : misnumbers before (child_in e) ≡ false
  pub later : broken_from (before ++ e ∷ []) rest ≡ None

pub goes-on : (before : List Record) (e : Record) (rest : List Record) → broken_from before (e ∷ rest) ≡ None → GoesOn before e rest
goes-on before e rest h = by_test (cant_follow before e) refl h
  where
    by_test : (b : Bool) → cant_follow before e ≡ b → (if b then Some (length before) else broken_from (before ++ e ∷ []) rest) ≡ None → GoesOn before e rest
    by_test true c k = absurd (cc)
    by_test false c k = record { numbers = numbered before e c; later = k }
