-- Memories that lie apart still do after a step that is possible.
use Rattle.std.proofs.Common.{◌≡◌, ◌≢◌, ℕ, ◌==◌, cond, Bool, true, false, Option, Some, None, IfSome, refl, sym, ap, subst, ◌∙◌}
use Rattle.std.proofs.lemmas.Bool.{eqb-false}
use Rattle.acts_model.specs.Transfers.{Holds, Arrives, Starts, Runs, Returns, Receives, Gives, Forks, Founds, Begins, Shares, Delivers, Leaves, Exits, Faults, Dies}
use Rattle.taint_state.specs.Goes.{AreApart, StayApart}
use Rattle.taint_state.specs.Goes.{IsOwn, IsUnheld, IsUnheldBy}
use Rattle.taint_state.specs.Steps.{Holders, child_holds, fresh_holds, shared_holds, with_holder}

none-some : {A : Type 0} (m : ℕ) → None ≡ Some m → A
none-some m e = absurd (cc)

none-holds : {A : Type 0} (a : Holds) → None ≡ Some a → A
none-holds a e = absurd (cc)

some-holds : (a b : Holds) → Some a ≡ Some b → a ≡ b
some-holds a b e = cc

some-number : (a b : ℕ) → Some a ≡ Some b → a ≡ b
some-number a b e = cc

-- who is gone holds nothing
without : (pid : ℕ) (h : Holders) → AreApart h → AreApart (with_holder pid None h)
without pid h apart = record {
  kinds = λ p q a b e f. apart.kinds p q a b (held p a (p == pid) e) (held q b (q == pid) f);
}
  where
    held : (p : ℕ) (a : Holds) (t : Bool) → cond t None (h p) ≡ Some a → h p ≡ Some a
    held p a true e = none-holds a e
    held p a false e = e

-- what one holds from now on lies apart from what all others hold
record LiesApart (pid : ℕ) (n : Holds) (h : Holders) : Type 0 where
  others : (q : ℕ) (b : Holds) → q ≢ pid → h q ≡ Some b → b.segment ≢ Some n.window
  segment : (q : ℕ) (b : Holds) → q ≢ pid → h q ≡ Some b → n.segment ≢ Some b.window
  own : n.segment ≢ Some n.window

with-one : (pid : ℕ) (n : Holds) (h : Holders) → AreApart h → LiesApart pid n h → AreApart (with_holder pid (Some n) h)
with-one pid n h apart lies = record {
  kinds = λ p q a b. kinds p q a b (p == pid) (q == pid) refl refl;
}
  where
    kinds : (p q : ℕ) (a b : Holds) (t u : Bool) → (p == pid) ≡ t → (q == pid) ≡ u → cond t (Some n) (h p) ≡ Some a → cond u (Some n) (h q) ≡ Some b → b.segment ≢ Some a.window
    kinds p q a b true true i j e f same =
        lies.own (ap (λ (k : Holds). k.segment) (some-holds n b f) ∙ (same ∙ ap (λ (k : Holds). Some k.window) (sym (some-holds n a e))))
    kinds p q a b true false i j e f same = lies.others q b (eqb-false q pid j) f (same ∙ ap (λ (k : Holds). Some k.window) (sym (some-holds n a e)))
    kinds p q a b false true i j e f same = lies.segment p a (eqb-false p pid i) e (ap (λ (k : Holds). k.segment) (some-holds n b f) ∙ same)
    kinds p q a b false false i j e f same = apart.kinds p q a b e f same

unheld-here : (made p : ℕ) (h : Holders) (a : Holds) → IsUnheld h made → h p ≡ Some a → IsUnheldBy made a
unheld-here made p h a unheld e = subst (λ o. IfSome o (IsUnheldBy made)) e (unheld p)

fresh-lies : (pid made : ℕ) (h : Holders) → IsOwn h pid made → LiesApart pid (fresh_holds made) h
fresh-lies pid made h own = record {
  others = λ q b ne e. (here q b ne e).segment;
  segment = λ q b ne e same. none-some b.window same;
  own = λ same. none-some made same;
}
  where
    here : (q : ℕ) (b : Holds) → q ≢ pid → h q ≡ Some b → IsUnheldBy made b
    here q b ne e = subst (λ o. IfSome o (IsUnheldBy made)) e (own q ne)

shared-apart : (pid made : ℕ) (h : Holders) (o : Option Holds) → h pid ≡ o → AreApart h → IsUnheld h made → AreApart (with_holder pid (shared_holds made o) h)
shared-apart pid made h None is apart unheld = without pid h apart
shared-apart pid made h (Some a) is apart unheld = with-one pid (record { window = a.window; segment = Some made }) h apart (record {
  others = λ q b ne e. apart.kinds pid q a b is e;
  segment = λ q b ne e same. (unheld-here made q h b unheld e).window (sym (some-number made b.window same));
  own = λ same. (unheld-here made pid h a unheld is).window (sym (some-number made a.window same));
})

forked-apart : (pid child into : ℕ) (h : Holders) (o : Option Holds) → h pid ≡ o → AreApart h → IsUnheld h into → AreApart (with_holder child (child_holds into o) h)
forked-apart pid child into h None is apart unheld = without child h apart
forked-apart pid child into h (Some a) is apart unheld = with-one child (record { window = into; segment = a.segment }) h apart (record {
  others = λ q b ne e. (unheld-here into q h b unheld e).segment;
  segment = λ q b ne e. apart.kinds q pid b a e is;
  own = (unheld-here into pid h a unheld is).segment;
})

pub stays-apart : StayApart
stays-apart h heard (Arrives len) apart possible = apart
stays-apart h heard (Starts pid made load len block block_len) apart possible = with-one pid (fresh_holds made) h apart (fresh-lies pid made h possible.0)
stays-apart h heard (Runs pid instr place) apart possible = apart
stays-apart h heard (Returns pid) apart possible = apart
stays-apart h heard (Receives pid place len) apart possible = apart
stays-apart h heard (Gives pid place len) apart possible = apart
stays-apart h heard (Forks pid child from into) apart possible = forked-apart pid child into h (h pid) refl apart possible.0
stays-apart h heard (Founds pid child from into) apart possible = apart
stays-apart h heard (Begins pid made) apart possible = with-one pid (fresh_holds made) h apart (fresh-lies pid made h possible.0)
stays-apart h heard (Shares pid made) apart possible = shared-apart pid made h (h pid) refl apart possible
stays-apart h heard (Delivers pid cut) apart possible = apart
stays-apart h heard (Leaves pid) apart possible = apart
stays-apart h heard (Exits pid) apart possible = without pid h apart
stays-apart h heard (Faults pid) apart possible = without pid h apart
stays-apart h heard (Dies pid) apart possible = without pid h apart
