-- What is checked of a record that can follow others.
use Rattle.std.proofs.Common.{◌≡◌, ◌||◌, Bool, true, false, not, if◌then◌else◌, List, [], ◌∷◌, ◌++◌, length, Some, None, refl, ap, sym, ◌∙◌, append_assoc, append-nil, subst}
use Rattle.std.proofs.lemmas.List.Folds.{list_any-append}
use Rattle.arn_base.specs.declared.records.Record.{Record}
use Rattle.acts_model.specs.Records.{give_of}
use Rattle.history_model.specs.Broken.{Behind, are_origins, behind_from, behind_record, broken_from, cant_follow, child_in, comes_wrong, has_blocks_wrong, lacks_process, lacks_slice, misnumbers, misplaces_start, start_in}
use Rattle.history_model.specs.Names.{is_boot, is_booted}

left : (a b : Bool) → (a || b) ≡ false → a ≡ false
left false b h = refl
left true b h = absurd (cc)

right : (a b : Bool) → (a || b) ≡ false → b ≡ false
right false b h = h
right true b h = absurd (cc)

-- records that aren't broken: the first stands on its side of the boot, behind a slice of its own, and numbers its child as it should
pub record GoesOn (before : List Record) (e : Record) (rest : List Record) : Type 0 where
  pub side : comes_wrong before e ≡ false
  pub slice : lacks_slice before e ≡ false
  pub numbers : misnumbers before (child_in e) ≡ false
  pub later : broken_from (before ++ e ∷ []) rest ≡ None

follows : (before : List Record) (e : Record) (rest : List Record) → cant_follow before e ≡ false → broken_from (before ++ e ∷ []) rest ≡ None → GoesOn before e rest
follows before e rest f later =
    let placed = misnumbers before (child_in e) || misplaces_start e in
    let blocked = has_blocks_wrong (start_in e) || placed in
    let given = not (are_origins before (give_of e)) || blocked in
    let sliced = right (lacks_process before e) (lacks_slice before e || given) (right (comes_wrong before e) (lacks_process before e || (lacks_slice before e || given)) f) in
    record {
      side = left (comes_wrong before e) (lacks_process before e || (lacks_slice before e || given)) f;
      slice = left (lacks_slice before e) given sliced;
      numbers = left (misnumbers before (child_in e)) (misplaces_start e)
          (right (has_blocks_wrong (start_in e)) placed (right (not (are_origins before (give_of e))) blocked (right (lacks_slice before e) given sliced)));
      later = later;
    }

pub goes-on : (before : List Record) (e : Record) (rest : List Record) → broken_from before (e ∷ rest) ≡ None → GoesOn before e rest
goes-on before e rest h = by_test (cant_follow before e) refl h
  where
    by_test : (b : Bool) → cant_follow before e ≡ b → (if b then Some (length before) else broken_from (before ++ e ∷ []) rest) ≡ None → GoesOn before e rest
    by_test true c k = absurd (cc)
    by_test false c k = follows before e rest c k

-- records behind others
pub unbroken-behind : (done xs ys : List Record) → broken_from done (xs ++ ys) ≡ None → broken_from (done ++ xs) ys ≡ None
unbroken-behind done [] ys h = subst (λ (before : List Record). broken_from before ys ≡ None) (sym (append-nil done)) h
unbroken-behind done (e ∷ xs) ys h =
    subst (λ (before : List Record). broken_from before ys ≡ None) (append_assoc done (e ∷ []) xs) (unbroken-behind (done ++ e ∷ []) xs ys (goes-on done e (xs ++ ys) h).later)

pub booted-more : (before more : List Record) → is_booted before ≡ true → is_booted (before ++ more) ≡ true
booted-more before more h = list_any-append is_boot before more ∙ ap (λ (b : Bool). b || is_booted more) h

pub hand-more : (b : Behind) (before : List Record) (e : Record) → behind_from b (before ++ e ∷ []) ≡ behind_record (behind_from b before) e
hand-more b [] e = refl
hand-more b (r ∷ before) e = hand-more (behind_record b r) before e
