-- The byte in front tells what kind of record is spelled, and what kind of thing a call did.
use Rattle.std.proofs.Common.{◌≡◌, ℕ, ◌≤◌, ◌==◌, List, ◌∷◌, ◌++◌, length, drop, refl, sym, subst, append_assoc, arith, if◌then◌else◌}
use Rattle.arn_base.specs.declared.records.Extra.{Extra}
use Rattle.arn_base.specs.declared.records.Extra.TheVariants as extra
use Rattle.arn_base.specs.declared.records.Give.{Give}
use Rattle.arn_base.specs.declared.records.Start.{Start}
use Rattle.arn_base.specs.declared.records.Record.{Record}
use Rattle.arn_base.specs.declared.records.Record.TheVariants as entry
use Rattle.schedule_log.specs.declared.signals.Delivery.{Delivery}
use Rattle.schedule_log.specs.Schedule.{BeginsSignal, BeginsSlice}
use Rattle.schedule_log.specs.Fields.{counted, named, BeginsCounted, BeginsNamed, IsCounted}
use Rattle.exchange_log.specs.Gives.{give_fields, FitsOrigin, GiveHasSpelling, StartsGive}
use Rattle.std.specs.List.{All}
use Rattle.result_log.specs.Pieces.{BeginsDevice, BeginsPath, BeginsPut, Starts, StartsExtra}
use Rattle.result_log.specs.States.{start_fields, FitsStart, StartHasSpelling}
use Rattle.result_log.proofs.OneWay.{first}

-- what a call did, by its tag
pub data ExtraKind : Type 0 where
  DidNothing : ExtraKind
  DidGive : ExtraKind
  DidStart : ExtraKind
  DidPut : ExtraKind
  DidPrint : ExtraKind
  DidReply : ExtraKind
  DidFault : ExtraKind
  FoundNone : ExtraKind
  DidName : ExtraKind
  DidSend : ExtraKind

abbrev pub extra_kind : ℕ → ExtraKind
extra_kind tag =
    if tag == 0 then DidNothing
    else if tag == 1 then DidGive
    else if tag == 2 then DidStart
    else if tag == 3 then DidPut
    else if tag == 4 then DidPrint
    else if tag == 5 then DidReply
    else if tag == 6 then DidFault
    else if tag == 7 then FoundNone
    else if tag == 8 then DidName
    else DidSend

-- the start has a spelling, and its fields stand in front
pub record StartsStart (bytes : List ℕ) (s : Start) (rest : List ℕ) : Type 0 where
  pub has_spelling : StartHasSpelling s
  pub fits : FitsStart s
  pub is_bytes : bytes ≡ start_fields s ++ rest

-- what stands behind a tag
abbrev pub IsExtraOf : ExtraKind → List ℕ → Extra → List ℕ → Type 0
IsExtraOf DidNothing fields did rest = (did ≡ extra.Nothing) × (fields ≡ rest)
IsExtraOf DidGive fields did rest = (g : Give) × (did ≡ extra.Give g) × StartsGive fields g rest
IsExtraOf DidStart fields did rest = (s : Start) × (did ≡ extra.Start s) × StartsStart fields s rest
IsExtraOf DidPut fields did rest =
    (file : ℕ) × (at : ℕ) × (written : List ℕ) × (did ≡ extra.Put file at written) × BeginsPut fields file at written rest
IsExtraOf DidPrint fields did rest = (written : List ℕ) × (did ≡ extra.Console written) × BeginsCounted fields written rest
IsExtraOf DidReply fields did rest =
    (device : ℕ) × (found : List ℕ) × (did ≡ extra.Reply device found) × BeginsDevice fields device found rest
IsExtraOf DidFault fields did rest = (did ≡ extra.Fault) × (fields ≡ rest)
IsExtraOf FoundNone fields did rest = (did ≡ extra.Absent) × (fields ≡ rest)
IsExtraOf DidName fields did rest =
    (file : ℕ) × (path : List ℕ) × (did ≡ extra.Name file path) × BeginsPath fields file path rest
IsExtraOf DidSend fields did rest =
    (device : ℕ) × (found : List ℕ) × (did ≡ extra.Sent device found) × BeginsDevice fields device found rest

-- it is of the kind that the byte in front tells
abbrev AsTagged : Extra → List ℕ → List ℕ → Type 0
AsTagged did rest bytes = IsExtraOf (extra_kind (first bytes)) (drop 1 bytes) did rest

pub extra-kind : (bytes : List ℕ) (did : Extra) (rest : List ℕ) → StartsExtra bytes did rest
    → IsExtraOf (extra_kind (first bytes)) (drop 1 bytes) did rest
extra-kind bytes extra.Nothing rest b = subst (AsTagged extra.Nothing rest) (sym b.is_bytes) (refl, refl)
extra-kind bytes (extra.Give g) rest b =
    subst (AsTagged (extra.Give g) rest) (sym b.is_bytes)
    (g, refl, record { has_spelling = b.has_spelling; fits = b.fits; is_bytes = refl })
extra-kind bytes (extra.Start s) rest b =
    subst (AsTagged (extra.Start s) rest) (sym b.is_bytes)
    (s, refl, record { has_spelling = b.has_spelling; fits = b.fits; is_bytes = refl })
extra-kind bytes (extra.Put file at written) rest b =
    subst (AsTagged (extra.Put file at written) rest) (sym b.is_bytes)
    (file, at, written, refl, record { fits = b.fits; is_counted = b.has_spelling; is_bytes = refl })
extra-kind bytes (extra.Console written) rest b =
    subst (AsTagged (extra.Console written) rest) (sym b.is_bytes)
    (written, refl, record { is_counted = b.has_spelling; is_bytes = refl })
extra-kind bytes (extra.Reply device found) rest b =
    subst (AsTagged (extra.Reply device found) rest) (sym b.is_bytes)
    (device, found, refl, record { fits = b.fits; is_counted = b.has_spelling; is_bytes = refl })
extra-kind bytes extra.Fault rest b = subst (AsTagged extra.Fault rest) (sym b.is_bytes) (refl, refl)
extra-kind bytes extra.Absent rest b = subst (AsTagged extra.Absent rest) (sym b.is_bytes) (refl, refl)
extra-kind bytes (extra.Name file path) rest b =
    subst (AsTagged (extra.Name file path) rest) (sym b.is_bytes)
    (file, path, refl, record { fits = b.fits; is_name = b.has_spelling; is_bytes = refl })
extra-kind bytes (extra.Sent device found) rest b =
    subst (AsTagged (extra.Sent device found) rest) (sym b.is_bytes)
    (device, found, refl, record { fits = b.fits; is_counted = b.has_spelling; is_bytes = refl })

-- a record, by the byte that begins it
pub data RecordKind : Type 0 where
  IsFile : RecordKind
  IsBoot : RecordKind
  IsTyped : RecordKind
  IsUnplug : RecordKind
  IsSlice : RecordKind
  IsDelivery : RecordKind
  IsCall : RecordKind
  IsEnd : RecordKind

abbrev pub record_kind : ℕ → RecordKind
record_kind kind =
    if kind == 1 then IsFile
    else if kind == 2 then IsBoot
    else if kind == 3 then IsTyped
    else if kind == 4 then IsUnplug
    else if kind == 5 then IsSlice
    else if kind == 6 then IsDelivery
    else if kind == 7 then IsCall
    else IsEnd

-- what stands behind the byte of a kind
abbrev pub IsRecordOf : RecordKind → List ℕ → List ℕ → Type 0
IsRecordOf IsFile fields rest =
    (name : List ℕ) × (content : List ℕ) × BeginsNamed fields name (counted content ++ rest) × IsCounted content
IsRecordOf IsBoot fields rest =
    (name : List ℕ) × (g : Give) × BeginsNamed fields name (give_fields g ++ rest) × GiveHasSpelling g × All FitsOrigin g.origins
IsRecordOf IsTyped fields rest = (content : List ℕ) × BeginsCounted fields content rest
IsRecordOf IsUnplug fields rest = 4 ≤ length fields
IsRecordOf IsSlice fields rest = (pid : ℕ) × (ran : ℕ) × BeginsSlice (5 ∷ fields) pid ran rest
IsRecordOf IsDelivery fields rest = (d : Delivery) × BeginsSignal (6 ∷ fields) d rest
IsRecordOf IsCall fields rest = (did : Extra) × (20 ≤ length fields) × StartsExtra (drop 20 fields) did rest
IsRecordOf IsEnd fields rest = 5 ≤ length fields

abbrev AsBegun : List ℕ → List ℕ → Type 0
AsBegun rest bytes = IsRecordOf (record_kind (first bytes)) (drop 1 bytes) rest

pub record-kind : (bytes : List ℕ) (r : Record) (rest : List ℕ) → Starts bytes r rest
    → IsRecordOf (record_kind (first bytes)) (drop 1 bytes) rest
record-kind bytes (entry.File name content) rest b =
    subst (AsBegun rest) (sym b.is_bytes)
    (name, content, record { is_name = b.has_spelling.0; is_bytes = append_assoc (named name) (counted content) rest }, b.has_spelling.1)
record-kind bytes (entry.Boot name g) rest b =
    subst (AsBegun rest) (sym b.is_bytes)
    (name, g, record { is_name = b.has_spelling.0; is_bytes = append_assoc (named name) (give_fields g) rest }, b.has_spelling.1, b.fits)
record-kind bytes (entry.Typed content) rest b =
    subst (AsBegun rest) (sym b.is_bytes) (content, record { is_counted = b.has_spelling; is_bytes = refl })
record-kind bytes (entry.Unplug device) rest b = subst (AsBegun rest) (sym b.is_bytes) (omega arith)
record-kind bytes (entry.Slice pid ran) rest b =
    subst (AsBegun rest) (sym b.is_bytes) (pid, ran, record { fits = b.fits; is_bytes = refl })
record-kind bytes (entry.Signal pid signal cut handler) rest b =
    subst (AsBegun rest) (sym b.is_bytes)
    (record { pid = pid; signal = signal; cut = cut; handler = handler }, record { is_signal = b.has_spelling; fits = b.fits; is_bytes = refl })
record-kind bytes (entry.Call pid number answer did) rest b =
    subst (AsBegun rest) (sym b.is_bytes)
    (did, omega arith, record { has_spelling = b.has_spelling; fits = b.fits.3; is_bytes = refl })
record-kind bytes (entry.End pid status) rest b = subst (AsBegun rest) (sym b.is_bytes) (omega arith)
