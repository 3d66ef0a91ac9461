-- A group that a fork founds is one of the groups.
use Rattle.std.proofs.Common.{◌≡◌, inl, inr, ℕ, ◌==◌, ◌&&◌, ◌++◌, Bool, true, false, if◌then◌else◌, List, [], ◌∷◌, Some, None, option_and_then, refl, ap, sym, ◌∙◌, arith, Contains}
use Rattle.std.proofs.lemmas.Bool.Decides.{nat_tests}
use Rattle.std.proofs.lemmas.Option.{none-some, same_Some, option_and_then_some}
use Rattle.arn_base.specs.declared.records.Extra.{Extra}
use Rattle.arn_base.specs.declared.records.Record.{Record}
use Rattle.parts_model.specs.declared.calls.TheConstants.{FORK}
use Rattle.parts_model.specs.Replies.{is_success}
use Rattle.acts_model.specs.Records.{child_called, child_forked, child_founded, is_event, is_founder}
use Rattle.history_index.specs.Lookups.{groups_in}
use Rattle.history_model.specs.Broken.{broken_from, first_broken, greatest}
use Rattle.history_model.specs.Events.{events, event_at}
use Rattle.history_model.specs.Exchanges.{founded}
use Rattle.history_model.specs.Groups.{Groups, group_made, groups_from, groups_told}
use Rattle.query_laws.proofs.Found.{AreFounded, changed-at, child_if, follows, nobody, process-group}
use Rattle.query_laws.proofs.Lists.{head-or-tail, in-kept, none-in}
use Rattle.query_laws.proofs.Origins.{got-in}
use Rattle.query_laws.proofs.Settled.{Unbooted, founded-push, settled-group, unbooted-push}

called-founds : (pid number result g : ℕ) (more : Extra) (groups : Groups) → child_founded (child_called number result more) ≡ Some g → group_made pid (child_called number result more) groups g ≡ Some g
called-founds pid number result g more groups founds = by_test ((number == FORK) && is_success result) (is_founder (child_forked result more)) refl founds
  where
    by_test : (b c : Bool) → is_founder (child_forked result more) ≡ c → child_founded (child_if b result more) ≡ Some g → group_made pid (child_if b result more) groups g ≡ Some g
    by_test false c starts is = absurd (none-some g is)
    by_test true false starts is = absurd (none-some g (sym (ap (λ (t : Bool). if t then Some result else None) starts) ∙ is))
    by_test true true starts is =
        let same = same_Some result g (sym (ap (λ (t : Bool). if t then Some result else None) starts) ∙ is) in
        changed-at groups result g _ (inl (sym same, ap (λ (t : Bool). if t then Some result else groups pid) starts ∙ ap (λ (n : ℕ). Some n) same))

told-founds : (e : Record) (groups : Groups) (g : ℕ) → founded e ≡ Some g → groups_told e groups g ≡ Some g
told-founds e groups g h1 = grind (arith, nat_tests, called-founds, none-some)

founds-from : (before rest : List Record) (groups : Groups) (e : Record) (g : ℕ) → broken_from before rest ≡ None → Unbooted before → AreFounded groups (greatest before) → Contains rest e → founded e ≡ Some g
    → groups_from rest groups g ≡ Some g
founds-from before [] groups e g h u f has is = absurd (none-in e has)
founds-from before (x ∷ rest) groups e g h u f has is =
    let next = follows before x rest h in
    let booted = unbooted-push before x next.0 u in
    let made = founded-push before x groups next.0 f in
    elim (head-or-tail x e rest has) [
      | inl here ↦ settled-group (before ++ x ∷ []) rest (groups_told x groups) g g next.1 booted made (told-founds x groups g (ap founded here ∙ is))
      | inr later ↦ founds-from (before ++ x ∷ []) rest (groups_told x groups) e g next.1 booted made later is
    ]

pub founded-is-of : (entries : List Record) → first_broken entries ≡ None → (n g : ℕ) → option_and_then founded (event_at entries n) ≡ Some g → Contains (groups_in entries) g
founded-is-of entries stands n g is =
    option_and_then_some founded (event_at entries n) g is (λ e at founds.
    let has = (in-kept is_event entries e (got-in (events entries) n e at)).0 in
    process-group entries stands g g (founds-from [] entries (λ p. None) e g stands (λ none. (refl, refl)) (nobody 0) has founds))
