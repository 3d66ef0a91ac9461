-- What the items of groups that were followed lead to is what reaches the bytes of the event that is asked about.
use Rattle.std.proofs.Common.{◌≡◌, ℕ, List, [], ◌∷◌, All, Contains, Option, Some, None, IfSome, option_to_list, refl, sym, ap, subst, ◌∙◌, arith}
use Rattle.arn_base.specs.declared.records.Record.{Record}
use Rattle.rv64_model.specs.Carries.{operands}
use Rattle.rv64_model.specs.declared.linkage.Linkage.{Linkage}
use Rattle.history_model.specs.Broken.{first_broken}
use Rattle.history_model.specs.Events.{event_at}
use Rattle.history_model.specs.Exchanges.{Starting}
use Rattle.history_model.specs.Groups.{event_group}
use Rattle.lineage_join.specs.Fits.{IsThere}
use Rattle.lineage_join.specs.Laws.{reaches}
use Rattle.lineage_model.specs.Flow.{Byte}
use Rattle.query_model.specs.Answers.{event_groups}
use Rattle.query_model.specs.Linked.{groups_back}
use Rattle.query_model.specs.Sources.{reaching}
use Rattle.window_laws.specs.Blocks.{HasWholeBlocks}
use Rattle.followed_groups.specs.Following.{Following, HasFollowed, IsOf, items_followed}
use Rattle.followed_pairs.specs.Items.{ItemsAreOfGroups}
use Rattle.query_engine.specs.Laws.{Laws}
use Rattle.query_laws.specs.Laws.{GroupsAreConnected}
use Rattle.query_engine.proofs.Groups.{all-known}

-- an event's own group is asked
own-asked : (entries : List Record) (event : ℕ) → GroupsAreConnected → first_broken entries ≡ None → (o : Option ℕ) → event_group entries event ≡ o → IfSome o (Contains (groups_back entries (option_to_list o)))
own-asked entries event connected unbroken None is = tt
own-asked entries event connected unbroken (Some g) is =
    let lists = connected entries (g ∷ []) unbroken (all-known entries event unbroken (Some g) is) in
    (lists.members g).1 (Starting g (0, omega arith, refl))

own-reaching : (f : Following) → ItemsAreOfGroups → Laws → first_broken f.entries ≡ None → All HasWholeBlocks f.entries → (event k : ℕ) → HasFollowed f (event_groups f.entries event) → IsThere (event_at f.entries event) (Byte k)
    → reaches f.entries (items_followed f) event (Byte k) ≡ reaching (operands f.linkage) f.entries f.until event (Byte k)
own-reaching f items laws unbroken whole event k has there =
    laws.reaching f.linkage f.entries (option_to_list (event_group f.entries event)) f.until (items_followed f) unbroken whole (all-known f.entries event unbroken (event_group f.entries event) refl)
    ((items f).all (event_groups f.entries event) has) event (Byte k) (own-asked f.entries event laws.connected unbroken (event_group f.entries event) refl) there

-- of these records, with this table, up to this moment
pub reaching-same : (entries : List Record) (linkage : Linkage) (until : ℕ) (f : Following) → IsOf entries linkage until f → ItemsAreOfGroups → Laws → first_broken entries ≡ None → All HasWholeBlocks entries
    → (event k : ℕ) → HasFollowed f (event_groups entries event) → IsThere (event_at entries event) (Byte k) → reaches entries (items_followed f) event (Byte k) ≡ reaching (operands linkage) entries until event (Byte k)
reaching-same entries linkage until f of items laws unbroken whole event k has there =
    subst (λ (es : List Record). reaches es (items_followed f) event (Byte k) ≡ reaching (operands linkage) es until event (Byte k)) of.entries_are
    (subst (λ (l : Linkage). reaches f.entries (items_followed f) event (Byte k) ≡ reaching (operands l) f.entries until event (Byte k)) of.linkage_is
    (subst (λ (u : ℕ). reaches f.entries (items_followed f) event (Byte k) ≡ reaching (operands f.linkage) f.entries u event (Byte k)) of.until_is
    (own-reaching f items laws (ap first_broken of.entries_are ∙ unbroken) (subst (λ (es : List Record). All HasWholeBlocks es) (sym of.entries_are) whole) event k
    (subst (λ (es : List Record). HasFollowed f (event_groups es event)) (sym of.entries_are) has) (subst (λ (es : List Record). IsThere (event_at es event) (Byte k)) (sym of.entries_are) there))))
