-- What was written of records so far, and what those behind them will write, is all.
use Rattle.std.proofs.Common.{◌≡◌, ◌≢◌, ℕ, ◌+◌, ◌<◌, ◌≤◌, ◌++◌, ◌∙◌, Bool, true, false, if◌then◌else◌, List, ◌∷◌, drop, slice_index_or, length, refl, sym, ap, append_assoc, append-nil}
use Rattle.std.proofs.lemmas.List.{drop_more, drop_all}
use Rattle.arn_base.specs.declared.records.Record.{Record}
use Rattle.arn_base.specs.declared.records.Record.TheVariants as entry
use Rattle.acts_model.specs.Records.{is_event}
use Rattle.session_runs.specs.Outputs.{output_text, outputs_text}

pub outputs-event : (first event index : ℕ) (entries : List Record) (item : Record) (before text text' : List ℕ) → index < length entries → item ≡ slice_index_or entries index item → is_event item ≡ true → text ++ outputs_text event (drop index entries) ≡ before ++ outputs_text first entries → text' ≡ text ++ output_text event item → text' ++ outputs_text (event + 1) (drop (index + 1) entries) ≡ before ++ outputs_text first entries
outputs-event first event index entries item before text text' less is counts written put =
    let behind : List Record = drop (index + 1) entries in
    let next : drop index entries ≡ item ∷ behind = drop_more entries index item less ∙ ap (λ (x : Record). x ∷ behind) (sym is) in
    let both : outputs_text event (drop index entries) ≡ output_text event item ++ outputs_text (event + 1) behind =
    ap (outputs_text event) next ∙ ap (λ (b : Bool). if b then output_text event item ++ outputs_text (event + 1) behind else outputs_text event behind) counts in
    ap (λ (x : List ℕ). x ++ outputs_text (event + 1) behind) put
    ∙ append_assoc text (output_text event item) (outputs_text (event + 1) behind)
    ∙ ap (λ (x : List ℕ). text ++ x) (sym both)
    ∙ written

pub outputs-slice : (first event index : ℕ) (entries : List Record) (item : Record) (before text : List ℕ) → index < length entries → item ≡ slice_index_or entries index item → is_event item ≡ false → text ++ outputs_text event (drop index entries) ≡ before ++ outputs_text first entries → text ++ outputs_text event (drop (index + 1) entries) ≡ before ++ outputs_text first entries
outputs-slice first event index entries item before text less is other written =
    let behind : List Record = drop (index + 1) entries in
    let next : drop index entries ≡ item ∷ behind = drop_more entries index item less ∙ ap (λ (x : Record). x ∷ behind) (sym is) in
    let same : outputs_text event (drop index entries) ≡ outputs_text event behind =
    ap (outputs_text event) next ∙ ap (λ (b : Bool). if b then output_text event item ++ outputs_text (event + 1) behind else outputs_text event behind) other in
    ap (λ (x : List ℕ). text ++ x) (sym same) ∙ written

pub outputs-end : (first event index : ℕ) (entries : List Record) (before text : List ℕ) → length entries ≤ index → text ++ outputs_text event (drop index entries) ≡ before ++ outputs_text first entries → text ≡ before ++ outputs_text first entries
outputs-end first event index entries before text over written =
    sym (append-nil text) ∙ ap (λ (x : List Record). text ++ outputs_text event x) (sym (drop_all index entries over)) ∙ written

-- a record that isn't a slice is that of an event
pub is_event-other : (item : Record) → ((pid ran : ℕ) → item ≢ entry.Slice pid ran) → is_event item ≡ true
is_event-other (entry.File name bytes) other = refl
is_event-other (entry.Boot name give) other = refl
is_event-other (entry.Typed bytes) other = refl
is_event-other (entry.Unplug device) other = refl
is_event-other (entry.Slice pid ran) other = absurd (other pid ran refl)
is_event-other (entry.Signal pid signal cut handler) other = refl
is_event-other (entry.Call pid number result extra) other = refl
is_event-other (entry.End pid status) other = refl
