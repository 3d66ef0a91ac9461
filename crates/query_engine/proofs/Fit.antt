-- The items of groups that were followed can be joined.
use Rattle.std.proofs.Common.{◌≡◌, ℕ, ◌+◌, ◌<◌, nat_le, List, All, Option, Some, None, true, sym, ap, subst, ◌∙◌, arith, leb-true}
use Rattle.std.proofs.lemmas.Bool.{and_parts}
use Rattle.arn_base.specs.declared.records.Record.{Record}
use Rattle.rv64_model.specs.declared.linkage.Linkage.{Linkage}
use Rattle.acts_model.specs.Records.{event_len}
use Rattle.history_model.specs.Broken.{first_broken}
use Rattle.history_model.specs.Events.{is_range}
use Rattle.lineage_join.specs.Fits.{AllFit, IsThere}
use Rattle.lineage_model.specs.Flow.{Byte}
use Rattle.parts_model.specs.declared.limits.TheConstants.{MOST_ASKED}
use Rattle.window_laws.specs.Blocks.{HasWholeBlocks}
use Rattle.query_laws.specs.Fitting.{ItemsFit}
use Rattle.followed_groups.specs.Following.{Following, IsOf, items_followed}
use Rattle.followed_pairs.specs.Items.{ItemsAreOfGroups}

own-fit : (f : Following) → ItemsAreOfGroups → ItemsFit → first_broken f.entries ≡ None → All HasWholeBlocks f.entries → AllFit f.entries (items_followed f)
own-fit f items fits unbroken whole = fits f.linkage f.entries f.until (items_followed f) unbroken whole (items f).own

-- of these records, with this table, up to this moment
pub fit : (entries : List Record) (linkage : Linkage) (until : ℕ) (f : Following) → IsOf entries linkage until f → ItemsAreOfGroups → ItemsFit → first_broken entries ≡ None → All HasWholeBlocks entries → AllFit entries (items_followed f)
fit entries linkage until f of items fits unbroken whole =
    subst (λ (es : List Record). AllFit es (items_followed f)) of.entries_are
    (own-fit f items fits (ap first_broken of.entries_are ∙ unbroken) (subst (λ (es : List Record). All HasWholeBlocks es) (sym of.entries_are) whole))

-- each byte of a range is there
pub in-range : (o : Option Record) (from len k : ℕ) → is_range o from len ≡ true → k < len → IsThere o (Byte (from + k))
in-range None from len k r h = absurd (cc)
in-range (Some e) from len k r h =
    let below = leb-true (from + len) (event_len e) (and_parts (nat_le (from + len) (event_len e)) (nat_le len MOST_ASKED) r).0 in
    omega arith
