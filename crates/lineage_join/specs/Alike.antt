-- Answers of groups that are the same lead to the same source bytes.
use Rattle.std.specs.Prelude.{◌≡◌, ℕ, Bool, IsTrue, false, List, All, Option, Some}
use Rattle.arn_base.specs.declared.records.Record.{Record}
use Rattle.arn_base.specs.declared.records.Src.{Src}
use Rattle.history_model.specs.Events.{event_at}
use Rattle.lineage_model.specs.Flow.{At, Byte}
use Rattle.lineage_model.specs.Joined.{is_source, origin_of}
use Rattle.lineage_model.specs.Tracking.{EventByte}
use Rattle.lineage_join.specs.Laws.{reaches}

-- what a received byte is a copy of is followed, and so is a byte with which a child began
abbrev pub LeadsAt : (ℕ → Option Record) → (ℕ → At → Bool) → ℕ → At → Type 0
LeadsAt event_at follows event (Byte k) =
    (e : Record) (src : Src) → event_at event ≡ Some e → is_source e ≡ false → origin_of e k ≡ Some src → IsTrue (follows src.event (Byte src.at))
LeadsAt event_at follows event at = IsTrue (follows event at)

-- an item leads to bytes that are followed
abbrev pub LeadsOn : (ℕ → Option Record) → (ℕ → At → Bool) → EventByte → Type 0
LeadsOn event_at follows item = LeadsAt event_at follows item.event item.at

-- of all bytes that are followed these answers are the same, and lead to bytes that are followed
pub record AreSame (entries : List Record) (follows : ℕ → At → Bool) (items others : ℕ → At → List EventByte) : Type 0 where
  pub same : (event : ℕ) (at : At) → IsTrue (follows event at) → items event at ≡ others event at
  pub leads : (event : ℕ) (at : At) → IsTrue (follows event at) → All (LeadsOn (event_at entries) follows) (items event at)

-- What they lead to is the same list.
abbrev pub ReachSame : Type 0
ReachSame =
    (entries : List Record) (follows : ℕ → At → Bool) (items others : ℕ → At → List EventByte) → AreSame entries follows items others
    → (event : ℕ) (at : At) → IsTrue (follows event at) → reaches entries items event at ≡ reaches entries others event at
