-- What is kept tells which record can't follow.
use Rattle.std.proofs.Common.{◌≡◌, ℕ, ◌+◌, ◌==◌, ◌||◌, ◌&&◌, not, Bool, List, [], ◌∷◌, length, map, slice_get, Option, Some, None, option_map, refl, ap, sym, ◌∙◌, arith}
use Rattle.std.specs.List.{list_all}
use Rattle.std.proofs.lemmas.Option.{slice_get-map}
use Rattle.arn_base.specs.declared.records.Give.{Give}
use Rattle.arn_base.specs.declared.records.Origin.{Origin}
use Rattle.arn_base.specs.declared.records.Record.{Record}
use Rattle.arn_base.specs.declared.records.Record.TheVariants as entry
use Rattle.acts_model.specs.Records.{event_len, give_of}
use Rattle.history_model.specs.Broken.{Behind, behind, comes_wrong, lacks_process, lacks_slice, lies_in_event, is_origin, are_origins, origins_len, has_blocks_wrong, start_in, greatest, misnumbers, child_in, misplaces_start, cant_follow}
use Rattle.history_model.specs.Events.{events, len_of}
use Rattle.history_model.specs.Moments.{lives_at, total}
use Rattle.history_model.specs.Names.{is_booted}
use Rattle.history_index.specs.declared.events.EventAt.{EventAt}
use Rattle.history_index.specs.Check.{comes_wrong_by, lacks_process_by, lacks_slice_by, is_origin_by, are_origins_by, misnumbers_by, refuses}
use Rattle.history_index.specs.Families.{lives_in}
use Rattle.history_index.specs.Indexes.{Indexes}
use Rattle.history_index.specs.Tables.{Tables}

comes-told : (before : List Record) (e : Record) → comes_wrong_by (is_booted before) e ≡ comes_wrong before e
comes-told before (entry.File name bytes) = refl
comes-told before _ = refl

lacks-told : (lives : List Bool) (before : List Record) (e : Record) → ((pid : ℕ) → lives_in lives pid ≡ lives_at before (total before) pid) → lacks_process_by lives e ≡ lacks_process before e
lacks-told lives before (entry.Slice pid ran) told = ap not (told pid)
lacks-told lives before _ told = refl

slice-told : (before : List Record) (e : Record) → lacks_slice_by (behind before) e ≡ lacks_slice before e
slice-told before (entry.File name bytes) = refl
slice-told before _ = refl

list_all-agree : {A : Type 0} (p q : A → Bool) → ((x : A) → p x ≡ q x) → (xs : List A) → list_all p xs ≡ list_all q xs
list_all-agree p q same [] = refl
list_all-agree p q same (x ∷ xs) = rw (same x, list_all-agree p q same xs) refl

module _ (kept : List EventAt) (before : List Record) (lens : map (λ e. e.len) kept ≡ map event_len (events before)) where
  len-told : (n : ℕ) → option_map (λ e. e.len) (slice_get kept n) ≡ len_of before n
  len-told n =
      sym (slice_get-map (λ (e : EventAt). e.len) kept n) ∙ ap (λ (xs : List ℕ). slice_get xs n) lens ∙ slice_get-map event_len (events before) n

  origin-told : (o : Origin) → is_origin_by kept o ≡ is_origin before o
  origin-told o = ap (lies_in_event o) (len-told o.event)

  origins-told : (give : Option Give) → are_origins_by kept give ≡ are_origins before give
  origins-told None = refl
  origins-told (Some give) =
      ap (λ (b : Bool). b && (origins_len give.origins == length give.bytes)) (list_all-agree (is_origin_by kept) (is_origin before) origin-told give.origins)

misnumbers-told : (lives : List Bool) (before : List Record) (child : Option ℕ) → length lives ≡ greatest before + 1 → misnumbers_by (length lives) child ≡ misnumbers before child
misnumbers-told lives before None next = refl
misnumbers-told lives before (Some child) next = ap (λ (n : ℕ). not (child == n)) next

or-same : (a a' b b' c c' d d' s m m' z : Bool) → a ≡ a' → b ≡ b' → c ≡ c' → d ≡ d' → m ≡ m' → (a || (b || (c || (not d || (s || (m || z)))))) ≡ (a' || (b' || (c' || (not d' || (s || (m' || z))))))
or-same a a' b b' c c' d d' s m m' z p q r t u = rw (p, q, r, t, u) refl

pub refusals-told : (t : Tables) (before : List Record) (e : Record) → Indexes t before → refuses t e ≡ cant_follow before e
refusals-told t before e i =
    let next : length t.families.lives ≡ greatest before + 1 = omega (arith, i.families.as_many_lives, i.families.processes) in
    or-same
    (comes_wrong_by t.is_booted e) (comes_wrong before e)
    (lacks_process_by t.families.lives e) (lacks_process before e)
    (lacks_slice_by t.at_hand e) (lacks_slice before e)
    (are_origins_by t.events (give_of e)) (are_origins before (give_of e))
    (has_blocks_wrong (start_in e))
    (misnumbers_by (length t.families.lives) (child_in e)) (misnumbers before (child_in e))
    (misplaces_start e)
    (ap (λ (b : Bool). comes_wrong_by b e) i.is_booted ∙ comes-told before e)
    (lacks-told t.families.lives before e i.families.lives)
    (ap (λ (b : Behind). lacks_slice_by b e) i.at_hand ∙ slice-told before e)
    (origins-told t.events before i.events.lens (give_of e))
    (misnumbers-told t.families.lives before (child_in e) next)
