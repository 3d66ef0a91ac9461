-- A group alone agrees with the whole machine, and goes on to agree over whatever a process puts.
use Rattle.std.proofs.Common.{◌≡◌, ℕ, ◌<◌, ◌≤◌, List, length, refl, ap, ◌∙◌, sym, subst, Option, Some, None, IfSome, Bool, true, false, ◌==◌, cond, arith, eq-eqb, eqb-true}
use Rattle.std.proofs.lemmas.Bool.Decides.{nat_tests}
use Rattle.parts_model.specs.declared.limits.TheConstants.{WINDOW_LEN}
use Rattle.acts_model.specs.Bodies.{Body, Bodies, View, body_at, memory_at, IsHolder, seen, put, remove, become, laid, laid_segment}
use Rattle.history_model.specs.Groups.{Groups, is_number}
use Rattle.replay_laws.proofs.Places.{put-body, put-memory, remove-body, remove-memory}
use Rattle.replay_laws.proofs.Owned.{Owner, Fits, Owned, owned-later, put-owned, remove-owned, holder, apart}

abbrev no_body : Option Body
no_body = None

pub number-true : (g : ℕ) (o : Option ℕ) → is_number g o ≡ true → o ≡ Some g
number-true g None e = absurd (cc)
number-true g (Some m) e = ap Some (eqb-true m g e)

pub number-same : (g : ℕ) (o : Option ℕ) → o ≡ Some g → is_number g o ≡ true
number-same g o e = ap (is_number g) e ∙ eq-eqb g g refl

pub number-false : (g : ℕ) (o : Option ℕ) → is_number g o ≡ false → o ≡ Some g → ⊥
number-false g o e f = let t = number-same g o f in absurd (let no : false ≡ true = sym e ∙ t in cc)

pub number-other : (g : ℕ) (o : Option ℕ) → (o ≡ Some g → ⊥) → is_number g o ≡ false
number-other g o h1 = grind (arith, nat_tests, number-true)

-- own has the bodies of the group's live members, and the memories that these hold
pub record Agrees (g : ℕ) (gs : Groups) (whole own : Bodies) : Type 0 where
  pub bodies : (p : ℕ) → body_at own p ≡ cond (is_number g (gs p)) (body_at whole p) None
  pub memories : (p : ℕ) (x : Body) (k : ℕ) → gs p ≡ Some g → body_at whole p ≡ Some x → IsHolder x k → memory_at own k ≡ memory_at whole k

pub record Joint (g : ℕ) (owner : ℕ → Owner) (gs : Groups) (n : ℕ) (whole own : Bodies) : Type 0 where
  pub owned : Owned owner gs n whole
  pub agrees : Agrees g gs whole own

-- what a view puts into a memory that it holds doesn't depend on what was there
laid-held : (v : View) (k : ℕ) (old new : List ℕ) → IsHolder v.body k → laid v k old ≡ laid v k new
laid-held v k old new h1 = grind (arith, nat_tests, eq-eqb, laid_segment)

both-put : (g : ℕ) (gs : Groups) (p : ℕ) (v : View) (w o : Bodies) → gs p ≡ Some g → Agrees g gs w o → Agrees g gs (put p v w) (put p v o)
both-put g gs p v w o h1 h2 = grind (arith, nat_tests, eqb-true, laid, laid-held, number-same, put-body, put-memory)

one-put : (g : ℕ) (owner : ℕ → Owner) (gs : Groups) (n p : ℕ) (v : View) (w o : Bodies) → (gs p ≡ Some g → ⊥) → Fits owner gs n p v.body → Owned owner gs n w → Agrees g gs w o → Agrees g gs (put p v w) o
one-put g owner gs n p v w o other f own h =
    record {
      bodies = λ q. by_test q (q == p) refl ∙ ap (λ x. cond (is_number g (gs q)) x None) (sym (put-body p v w q));
      memories = λ q x k of e holds. memory q x k (q == p) refl of (sym (put-body p v w q) ∙ e) holds;
    }
  where
    none : (q : ℕ) → q ≡ p → is_number g (gs q) ≡ false
    none q e = number-other g (gs q) (λ k. other (ap gs (sym e) ∙ k))

    by_test : (q : ℕ) (t : Bool) → (q == p) ≡ t → body_at o q ≡ cond (is_number g (gs q)) (cond t (Some v.body) (body_at w q)) None
    by_test q t h1 = grind (arith, nat_tests, none, eqb-true)

    memory : (q : ℕ) (x : Body) (k : ℕ) (t : Bool) → (q == p) ≡ t → gs q ≡ Some g → cond t (Some v.body) (body_at w q) ≡ Some x → IsHolder x k → memory_at o k ≡ memory_at (put p v w) k
    memory q x k true e of is holds = absurd (other (ap gs (sym (eqb-true q p e)) ∙ of))
    memory q x k false e of is holds =
        let fq = let P = λ (z : Option Body). IfSome z (Fits owner gs n q) in subst P is (own.fits q) in
        h.memories q x k of is holds ∙ sym (apart owner gs n p q v w k f (λ s. other (s ∙ of)) (holder owner gs n q x k fq holds))

both-remove : (g : ℕ) (gs : Groups) (p : ℕ) (w o : Bodies) → Agrees g gs w o → Agrees g gs (remove p w) (remove p o)
both-remove g gs p w o h1 = grind (arith, nat_tests, no_body, remove-body, remove-memory)

one-remove : (g : ℕ) (gs : Groups) (p : ℕ) (w o : Bodies) → (gs p ≡ Some g → ⊥) → Agrees g gs w o → Agrees g gs (remove p w) o
one-remove g gs p w o h1 h2 = grind (arith, nat_tests, eqb-true, no_body, number-other, remove-body, remove-memory)

-- the view fits and its window is whole
pub record Good (owner : ℕ → Owner) (gs : Groups) (n p : ℕ) (v : View) : Type 0 where
  pub fits : Fits owner gs n p v.body
  pub whole : length v.window ≡ WINDOW_LEN

-- the bodies after a change, where the process is the group's
abbrev pub if_own : Bool → Bodies → Bodies → Bodies
if_own t new old = cond t new old

pub joint-become : (g : ℕ) (owner : ℕ → Owner) (gs : Groups) (n p : ℕ) (v : Option View) (w o : Bodies) → IfSome v (Good owner gs n p) → Joint g owner gs n w o → Joint g owner gs n (become p v w) (if_own (is_number g (gs p)) (become p v o) o)
joint-become g owner gs n p v w o h1 h2 = grind (arith, nat_tests, remove-owned, both-remove, one-remove, number-false, put-owned, both-put, number-true, one-put)

pub joint-later : (g : ℕ) (owner owner' : ℕ → Owner) (gs : Groups) (n n' : ℕ) (w o : Bodies) → ((k : ℕ) → k < n → owner' k ≡ owner k) → n ≤ n' → Joint g owner gs n w o → Joint g owner' gs n' w o
joint-later g owner owner' gs n n' w o same le h = record { owned = owned-later owner owner' gs n n' w same le h.owned; agrees = h.agrees }

-- a member sees the same in both
pub same-seen : (g : ℕ) (gs : Groups) (w o : Bodies) (p : ℕ) → Agrees g gs w o → gs p ≡ Some g → seen o p ≡ seen w p
same-seen g gs w o p h1 h2 = grind (arith, nat_tests, number-same)
