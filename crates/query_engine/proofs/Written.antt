-- What answers of bytes that were written.
use Rattle.std.proofs.Common.{◌≡◌, ℕ, List, length, All, None, sym, ap, subst, ◌∙◌}
use Rattle.arn_base.specs.declared.records.Pair.{Pair}
use Rattle.arn_base.specs.declared.records.Record.{Record}
use Rattle.rv64_model.specs.Carries.{operands}
use Rattle.rv64_model.specs.declared.linkage.Linkage.{Linkage}
use Rattle.history_model.specs.Broken.{first_broken}
use Rattle.lineage_model.specs.Pairs.{pairs_from}
use Rattle.parts_model.specs.declared.tagged.TaggedByte.{TaggedByte}
use Rattle.query_model.specs.Names.{written_groups, written_pairs, written_sources}
use Rattle.window_laws.specs.Blocks.{HasWholeBlocks}
use Rattle.query_laws.specs.Names.{AreWritten}
use Rattle.followed_groups.specs.Following.{Following, HasFollowed, IsOf}
use Rattle.followed_pairs.specs.Items.{ItemsAreOfGroups}
use Rattle.followed_pairs.specs.Leads.{written_leads}
use Rattle.query_engine.specs.Laws.{LawsOfNames}
use Rattle.query_engine.proofs.Same.{pairs-same}

-- of what was followed
module _ (laws : LawsOfNames) (items : ItemsAreOfGroups) (f : Following) (unbroken : first_broken f.entries ≡ None) (whole : All HasWholeBlocks f.entries) (bytes : List TaggedByte) (written : AreWritten f.entries bytes)
    (has : HasFollowed f (written_groups f.entries bytes)) where
  leads-same : (k : ℕ) → written_leads f.entries f bytes k ≡ written_sources (operands f.linkage) f.entries f.until bytes k
  leads-same k =
      laws.reaching f.linkage f.entries f.until bytes _ unbroken whole written
      (λ event at asked there. (items f).all (written_groups f.entries bytes) has event at asked there) k

  own-answered : (pairs : List Pair) → pairs ≡ pairs_from (written_leads f.entries f bytes) 0 (length bytes) → pairs ≡ written_pairs (operands f.linkage) f.entries f.until bytes
  own-answered pairs told = told ∙ pairs-same (written_leads f.entries f bytes) (written_sources (operands f.linkage) f.entries f.until bytes) (length bytes) (λ k low. leads-same k)

-- of these records, with this table, up to this moment
pub answered : (entries : List Record) (linkage : Linkage) (until : ℕ) (f : Following) (bytes : List TaggedByte) → IsOf entries linkage until f → LawsOfNames → ItemsAreOfGroups → first_broken entries ≡ None → All HasWholeBlocks entries
    → AreWritten entries bytes → HasFollowed f (written_groups entries bytes) → (pairs : List Pair) → pairs ≡ pairs_from (written_leads entries f bytes) 0 (length bytes)
    → pairs ≡ written_pairs (operands linkage) entries until bytes
answered entries linkage until f bytes of laws items unbroken whole written has pairs told =
    subst (λ (es : List Record). pairs ≡ written_pairs (operands linkage) es until bytes) of.entries_are
    (subst (λ (l : Linkage). pairs ≡ written_pairs (operands l) f.entries until bytes) of.linkage_is
    (subst (λ (u : ℕ). pairs ≡ written_pairs (operands f.linkage) f.entries u bytes) of.until_is
    (own-answered laws items f (ap first_broken of.entries_are ∙ unbroken) (subst (λ (es : List Record). All HasWholeBlocks es) (sym of.entries_are) whole) bytes
    (subst (λ (es : List Record). AreWritten es bytes) (sym of.entries_are) written) (subst (λ (es : List Record). HasFollowed f (written_groups es bytes)) (sym of.entries_are) has)
    pairs (subst (λ (es : List Record). pairs ≡ pairs_from (written_leads es f bytes) 0 (length bytes)) (sym of.entries_are) told))))
