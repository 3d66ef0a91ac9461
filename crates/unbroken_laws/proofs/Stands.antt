-- Records that stand, each behind those before it.
use Rattle.std.proofs.lemmas.Bool.Decides.{nat_tests}
use Rattle.std.proofs.Common.{◌≡◌, ℕ, ◌==◌, Bool, true, false, cond, List, [], ◌∷◌, ◌++◌, length, Some, None, refl, sym, ap, subst, ◌∙◌, append-nil, append_assoc, arith}
use Rattle.std.proofs.lemmas.Bool.{eq-eqb, or_from}
use Rattle.arn_base.specs.declared.records.Record.{Record}
use Rattle.arn_base.specs.declared.records.Record.TheVariants as entry
use Rattle.history_model.specs.Broken.{comes_wrong, lacks_process, lacks_slice, cant_follow, broken_from, Behind, Nowhere, ASlice, behind_record, behind_from, behind, is_behind}
use Rattle.unbroken_laws.proofs.Steps.{Fits}

abbrev pub Stands : List Record → List Record → Type 0
Stands before [] = Unit {0}
Stands before (e ∷ entries) = (cant_follow before e ≡ false) × Stands (before ++ e ∷ []) entries

pub stands-none : (before entries : List Record) → Stands before entries → broken_from before entries ≡ None
stands-none before [] h = refl
stands-none before (e ∷ entries) h =
    ap (λ (b : Bool). cond b (Some (length before)) (broken_from (before ++ e ∷ []) entries)) h.0 ∙ stands-none (before ++ e ∷ []) entries h.1

pub stands-append : (before entries more : List Record) → Stands before entries → Stands (before ++ entries) more → Stands before (entries ++ more)
stands-append before [] more h k = subst (λ (es : List Record). Stands es more) (append-nil before) k
stands-append before (e ∷ entries) more h k =
    (h.0, stands-append (before ++ e ∷ []) entries more h.1 (subst (λ (es : List Record). Stands es more) (sym (append_assoc before (e ∷ []) entries)) k))

pub can-follow : (before : List Record) (e : Record) → comes_wrong before e ≡ false → lacks_process before e ≡ false → lacks_slice before e ≡ false → Fits before e → cant_follow before e ≡ false
can-follow before e h1 h2 h3 h4 = grind (arith, nat_tests, or_from)

-- which slice is open behind a record
behind-from-push : (b : Behind) (before : List Record) (e : Record) → behind_from b (before ++ e ∷ []) ≡ behind_record (behind_from b before) e
behind-from-push b [] e = refl
behind-from-push b (x ∷ before) e = behind-from-push (behind_record b x) before e

pub behind-push : (before : List Record) (e : Record) → behind (before ++ e ∷ []) ≡ behind_record (behind before) e
behind-push before e = behind-from-push Nowhere before e

pub behind-slice : (before : List Record) (pid ran : ℕ) → behind (before ++ entry.Slice pid ran ∷ []) ≡ ASlice pid
behind-slice before pid ran = behind-push before (entry.Slice pid ran)

pub is-behind-slice : (before : List Record) (pid : ℕ) → behind before ≡ ASlice pid → is_behind pid (behind before) ≡ true
is-behind-slice before pid e = ap (is_behind pid) e ∙ eq-eqb pid pid refl

pub is-behind-delivery : (before : List Record) (pid signal handler : ℕ) (cut : Bool) → behind before ≡ ASlice pid → (handler == 0) ≡ false → is_behind pid (behind (before ++ entry.Signal pid signal cut handler ∷ [])) ≡ true
is-behind-delivery before pid signal handler cut h1 h2 = grind (arith, nat_tests, behind-push, eq-eqb)
