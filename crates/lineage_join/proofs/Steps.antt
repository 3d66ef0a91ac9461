-- What one step does to the pairs that come.
use Rattle.std.proofs.Common.{◌≡◌, ℕ, ◌+◌, ◌-◌, ◌/◌, ◌%◌, nat_lt, Bool, true, false, cond, List, [], ◌∷◌, flat_map, Contains, Option, Some, None, option_and_then, true≢false, refl, sym, ap, subst, ◌∙◌, inl, inr}
use Rattle.std.proofs.lemmas.Bool.{cond-true}
use Rattle.std.proofs.lemmas.Option.{none-some}
use Rattle.arn_base.specs.declared.records.Pair.{Pair}
use Rattle.arn_base.specs.declared.records.Extra.TheVariants as extra
use Rattle.arn_base.specs.declared.records.Give.{Give}
use Rattle.arn_base.specs.declared.records.Record.{Record}
use Rattle.arn_base.specs.declared.records.Record.TheVariants as entry
use Rattle.acts_model.specs.Records.{event_len, give_of}
use Rattle.history_model.specs.Broken.{first_broken}
use Rattle.history_model.specs.Events.{event_at}
use Rattle.history_model.specs.Exchanges.{founded}
use Rattle.lineage_model.specs.Flow.{At, Byte, StartRegister, StartSlot, StartMemory}
use Rattle.lineage_model.specs.Joined.{Reaching, is_source, origin_of, from_origin, from_item, from_event, source_byte}
use Rattle.lineage_model.specs.Tracking.{EventByte}
use Rattle.set_store.specs.declared.item.Item.{Item}
use Rattle.lineage_join.specs.declared.wait.Kind.{Kind}
use Rattle.lineage_join.specs.declared.wait.Kind.TheVariants as kind
use Rattle.lineage_join.specs.declared.wait.Wait.{Wait}
use Rattle.lineage_join.specs.Fits.{AllFit}
use Rattle.lineage_join.specs.Laws.{reaches}
use Rattle.lineage_join.specs.Places.{start_at}
use Rattle.lineage_join.specs.Rising.{source_of}
use Rattle.lineage_join.specs.Waits.{from_taken, from_kind, from_wait, kind_by, wait_of, origin_waits, own_bytes, ComesAlso, HasPairs, IsStepped}
use Rattle.lineage_join.proofs.Comes.{found-also, nothing-also}
use Rattle.lineage_join.proofs.Follow.{received-also}
use Rattle.lineage_join.proofs.Rises.{none_in}
use Rattle.lineage_join.proofs.Stands.{joins-none}
use Rattle.lineage_join.proofs.Unfolds.{goes}

-- neither a source nor an event that received bytes is a fork
pub source-plain : (e : Record) → is_source e ≡ true → founded e ≡ None
source-plain (entry.Call pid number result (extra.Start start)) h = absurd (true≢false (sym h))
source-plain (entry.Call pid number result more) h = joins-none number result more refl
source-plain _ h = refl

pub given-plain : (e : Record) (give : Give) → give_of e ≡ Some give → founded e ≡ None
given-plain (entry.Call pid number result (extra.Start start)) give h = absurd (none-some give h)
given-plain (entry.Call pid number result more) give h = joins-none number result more refl
given-plain _ give h = refl

-- a byte with which a child begins is none from outside
start-none : (event len n : ℕ) (a b : Bool) (r i s j : ℕ) → source_byte event len (cond a (StartRegister r i) (cond b (StartSlot s j) (StartMemory n))) ≡ []
start-none event len n true b r i s j = refl
start-none event len n false true r i s j = refl
start-none event len n false false r i s j = refl

module _ (entries : List Record) (items : ℕ → At → List EventByte) (stands : first_broken entries ≡ None) (fit : AllFit entries items) where
  abbrev all : Reaching
  all = reaches entries items

  abbrev from : Wait → List EventByte
  from = from_wait (event_at entries) all

  -- by the record, or its want
  shown : (event : ℕ) (at : At) (o : Option Record) → event_at entries event ≡ o → all event at ≡ from_event (event_at entries) all event at (items event at) o
  shown event at o is = goes entries items stands fit event at ∙ ap (from_event (event_at entries) all event at (items event at)) is

  nothing : (event at : ℕ) (k : Kind) → event_at entries event ≡ None → from_kind (event_at entries) all event at k ≡ []
  nothing event at kind.Received is = ap (from_taken all event at) is
  nothing event at kind.Byte is = shown event (Byte at) None is
  nothing event at kind.Start is = shown event (start_at at) None is

  outside : (event at : ℕ) (place : At) (e : Record) → event_at entries event ≡ Some e → is_source e ≡ true → all event place ≡ source_byte event (event_len e) place
  outside event at place e is source = shown event place (Some e) is ∙ cond-true (is_source e) (source_byte event (event_len e) place) (flat_map (from_item (event_at entries) all) (items event place)) source

  own : (event at : ℕ) (k : Kind) (e : Record) → event_at entries event ≡ Some e → is_source e ≡ true → from_kind (event_at entries) all event at k ≡ own_bytes event (event_len e) at k
  own event at kind.Received e is source = ap (from_taken all event at) is ∙ cond-true (is_source e) (source_byte event (event_len e) (Byte at)) (from_origin all (origin_of e at)) source
  own event at kind.Byte e is source = outside event at (Byte at) e is source
  own event at kind.Start e is source = outside event at (start_at at) e is source ∙ start-none event (event_len e) at (nat_lt at 248) (nat_lt at 496) (at / 8 + 1) (at % 8) ((at - 248) / 8 + 1) ((at - 248) % 8)

  pub none-stepped : (ws : List Wait) (ps : List Pair) (w : Wait) → event_at entries w.event ≡ None → IsStepped from ws ps w ws ps
  none-stepped ws ps w is =
      record {
        comes = λ p. (λ c. inl c, λ s. elim s [ inl c ↦ c | inr l ↦ absurd (none_in (source_of p) (subst (λ (x : List EventByte). Contains x (source_of p)) (nothing w.event w.at w.kind is) l.1)) ]);
        falls = λ v c. inl c;
      }

  pub source-stepped : (ws : List Wait) (ps qs : List Pair) (w : Wait) (e : Record) → event_at entries w.event ≡ Some e → is_source e ≡ true → HasPairs ps w.byte (own_bytes w.event (event_len e) w.at w.kind) qs → IsStepped from ws ps w ws qs
  source-stepped ws ps qs w e is source has =
      let same : from w ≡ own_bytes w.event (event_len e) w.at w.kind = own w.event w.at w.kind e is source in
      record {
        comes = λ p. (
          λ c. elim c [
            | inl d ↦ elim ((has p).0 d) [ inl x ↦ inl (inl x) | inr x ↦ inr (x.0, subst (λ (y : List EventByte). Contains y (source_of p)) (sym same) x.1) ]
            | inr l ↦ inl (inr l)
          ],
          λ s. elim s [
            | inl c ↦ elim c [ inl d ↦ inl ((has p).1 (inl d)) | inr l ↦ inr l ]
            | inr l ↦ inl ((has p).1 (inr (l.0, subst (λ (y : List EventByte). Contains y (source_of p)) same l.1)))
          ],
        );
        falls = λ v c. inl c;
      }

  -- the byte of a source, as an event shows it
  pub shown-also : (ws : List Wait) (ps qs : List Pair) (event at byte : ℕ) (e : Record) → event_at entries event ≡ Some e → is_source e ≡ true → HasPairs ps byte (source_byte event (event_len e) (Byte at)) qs
      → ComesAlso from ws ps (record { event = event; kind = kind.Byte; at = at; byte = byte } ∷ []) ws qs
  shown-also ws ps qs event at byte e is source has = found-also from ws ps qs (record { event = event; kind = kind.Byte; at = at; byte = byte }) (source_byte event (event_len e) (Byte at)) (own event at kind.Byte e is source) has

  module _ (item : Item) (byte : ℕ) where
    abbrev waits : Wait
    waits = wait_of (event_at entries) byte item

    is-received : (e : Record) → event_at entries item.event ≡ Some e → founded e ≡ None → waits.kind ≡ kind.Received
    is-received e is none = ap (λ (o : Option Record). kind_by (option_and_then founded o)) is ∙ ap kind_by none

    pub lost-also : (ws : List Wait) (ps : List Pair) → event_at entries item.event ≡ None → ComesAlso from ws ps (waits ∷ []) ws ps
    lost-also ws ps is = nothing-also from ws ps waits (nothing item.event item.at waits.kind is)

    pub source-also : (ws : List Wait) (ps qs : List Pair) (e : Record) → event_at entries item.event ≡ Some e → is_source e ≡ true → HasPairs ps byte (source_byte item.event (event_len e) (Byte item.at)) qs → ComesAlso from ws ps (waits ∷ []) ws qs
    source-also ws ps qs e is source has =
        let same : from waits ≡ source_byte item.event (event_len e) (Byte item.at) =
        ap (from_kind (event_at entries) all item.event item.at) (is-received e is (source-plain e source)) ∙ own item.event item.at kind.Received e is source in
        found-also from ws ps qs waits (source_byte item.event (event_len e) (Byte item.at)) same has

    pub copy-also : (ws vs : List Wait) (ps qs : List Pair) (e : Record) → event_at entries item.event ≡ Some e → is_source e ≡ false → founded e ≡ None → ComesAlso from ws ps (origin_waits byte (origin_of e item.at)) vs qs → ComesAlso from ws ps (waits ∷ []) vs qs
    copy-also ws vs ps qs e is plain none h = received-also entries items stands fit waits e (is-received e is none) is plain ws vs ps qs h
