-- Records at the front of bytes, by their parts.
use Rattle.std.proofs.Common.{◌≡◌, ℕ, ◌<◌, ◌^◌, List, ◌∷◌, ◌++◌, length, drop, sym, ap, subst, ◌∙◌, append_assoc, arith}
use Rattle.arn_base.specs.declared.records.Extra.TheVariants as extra
use Rattle.arn_base.specs.declared.records.Give.{Give}
use Rattle.arn_base.specs.declared.records.Record.TheVariants as entry
use Rattle.schedule_log.specs.declared.signals.Delivery.{Delivery}
use Rattle.schedule_log.specs.Schedule.{BeginsSignal, BeginsSlice}
use Rattle.schedule_log.specs.Fields.{counted, named, BeginsCounted, BeginsNamed, OnlyNamed}
use Rattle.exchange_log.specs.Gives.{give_fields, StartsGive, StartsNoGive, StartsSomeGive}
use Rattle.result_log.specs.Pieces.{call_head, BeginsDevice, BeginsPath, BeginsPut, Starts, StartsExtra, StartsNone, StartsNoExtra, StartsSome, StartsSomeExtra}
use Rattle.result_log.specs.Spelling.{extra_fields}
use Rattle.result_log.proofs.Tags.{extra-kind, record-kind, DidGive, DidName, DidPrint, DidPut, DidReply, DidSend, IsBoot, IsCall, IsDelivery, IsEnd, IsExtraOf, IsFile, IsRecordOf, IsSlice, IsTyped, IsUnplug}

-- a name and a list of bytes behind a file's kind are a file's record
pub file-starts : (bytes name behind content rest : List ℕ) → BeginsNamed bytes name behind → BeginsCounted behind content rest
    → Starts (1 ∷ bytes) (entry.File name content) rest
file-starts bytes name behind content rest n c =
    record {
      has_spelling = (n.is_name, c.is_counted);
      fits = tt;
      is_bytes = ap (λ xs. 1 ∷ xs) (n.is_bytes ∙ ap (λ xs. named name ++ xs) c.is_bytes ∙ sym (append_assoc (named name) (counted content) rest));
    }

-- no record starts where a file's kind and a name stand, and no list of bytes behind them
pub no-file-by-bytes : (bytes name behind : List ℕ) → OnlyNamed bytes name behind
    → ((content rest : List ℕ) → ¬ BeginsCounted behind content rest) → StartsNone (1 ∷ bytes)
no-file-by-bytes bytes name behind only h r rest b =
    let file : IsRecordOf IsFile bytes rest = record-kind (1 ∷ bytes) r rest b in
    let one = only file.0 (counted file.1 ++ rest) file.2 in
    h file.1 rest (record { is_counted = file.3; is_bytes = sym one.1 })

-- nor where no name stands behind it
pub no-file-by-name : (bytes : List ℕ) → ((name rest : List ℕ) → ¬ BeginsNamed bytes name rest) → StartsNone (1 ∷ bytes)
no-file-by-name bytes h r rest b =
    let file : IsRecordOf IsFile bytes rest = record-kind (1 ∷ bytes) r rest b in
    h file.0 (counted file.1 ++ rest) file.2

-- a name and a give behind a boot's kind are a boot's record
pub boot-starts : (bytes name behind : List ℕ) (g : Give) (rest : List ℕ) → BeginsNamed bytes name behind → StartsGive behind g rest
    → Starts (2 ∷ bytes) (entry.Boot name g) rest
boot-starts bytes name behind g rest n s =
    record {
      has_spelling = (n.is_name, s.has_spelling);
      fits = s.fits;
      is_bytes = ap (λ xs. 2 ∷ xs) (n.is_bytes ∙ ap (λ xs. named name ++ xs) s.is_bytes ∙ sym (append_assoc (named name) (give_fields g) rest));
    }

pub boot_stands : (bytes name behind : List ℕ) → BeginsNamed bytes name behind → StartsSomeGive behind → StartsSome (2 ∷ bytes)
boot_stands bytes name behind n (g, (rest, s)) = (entry.Boot name g, (rest, boot-starts bytes name behind g rest n s))

-- no record starts where a boot's kind and a name stand, and no give behind them
pub no-boot-by-give : (bytes name behind : List ℕ) → OnlyNamed bytes name behind → StartsNoGive behind → StartsNone (2 ∷ bytes)
no-boot-by-give bytes name behind only h r rest b =
    let boot : IsRecordOf IsBoot bytes rest = record-kind (2 ∷ bytes) r rest b in
    let one = only boot.0 (give_fields boot.1 ++ rest) boot.2 in
    h boot.1 rest (record { has_spelling = boot.3; fits = boot.4; is_bytes = sym one.1 })

-- nor where no name stands behind it
pub no-boot-by-name : (bytes : List ℕ) → ((name rest : List ℕ) → ¬ BeginsNamed bytes name rest) → StartsNone (2 ∷ bytes)
no-boot-by-name bytes h r rest b =
    let boot : IsRecordOf IsBoot bytes rest = record-kind (2 ∷ bytes) r rest b in
    h boot.0 (give_fields boot.1 ++ rest) boot.2

-- no record starts where the byte of its kind stands, and not its fields behind that
pub no-typed : (bytes : List ℕ) → ((content rest : List ℕ) → ¬ BeginsCounted bytes content rest) → StartsNone (3 ∷ bytes)
no-typed bytes h r rest b =
    let typed : IsRecordOf IsTyped bytes rest = record-kind (3 ∷ bytes) r rest b in
    h typed.0 rest typed.1

pub no-unplug : (bytes : List ℕ) → length bytes < 4 → StartsNone (4 ∷ bytes)
no-unplug bytes few r rest b =
    let long : IsRecordOf IsUnplug bytes rest = record-kind (4 ∷ bytes) r rest b in
    omega arith

pub no-slice : (bytes : List ℕ) → ((pid ran : ℕ) (rest : List ℕ) → ¬ BeginsSlice (5 ∷ bytes) pid ran rest) → StartsNone (5 ∷ bytes)
no-slice bytes h r rest b =
    let slice : IsRecordOf IsSlice bytes rest = record-kind (5 ∷ bytes) r rest b in
    h slice.0 slice.1 rest slice.2

pub no-call-by-head : (bytes : List ℕ) → length bytes < 20 → StartsNone (7 ∷ bytes)
no-call-by-head bytes few r rest b =
    let call : IsRecordOf IsCall bytes rest = record-kind (7 ∷ bytes) r rest b in
    omega (arith, call.1)

-- nor where no call could have done what stands behind the call's numbers
pub no-call-by-extra : (bytes behind : List ℕ) (pid number answer : ℕ) → 7 ∷ bytes ≡ call_head pid number answer ++ behind
    → StartsNoExtra behind → StartsNone (7 ∷ bytes)
no-call-by-extra bytes behind pid number answer e h r rest b =
    let call : IsRecordOf IsCall bytes rest = record-kind (7 ∷ bytes) r rest b in
    let same : drop 20 bytes ≡ behind = ap (drop 21) e in
    h call.0 rest (subst (λ xs. StartsExtra xs call.0 rest) same call.2)

pub no-end : (bytes : List ℕ) → length bytes < 5 → StartsNone (8 ∷ bytes)
no-end bytes few r rest b =
    let long : IsRecordOf IsEnd bytes rest = record-kind (8 ∷ bytes) r rest b in
    omega arith

-- a give behind its tag is what a call did
pub given_stands : (bytes : List ℕ) → StartsSomeGive bytes → StartsSomeExtra (1 ∷ bytes)
given_stands bytes (g, (rest, s)) =
    (extra.Give g, (rest, record { has_spelling = s.has_spelling; fits = s.fits; is_bytes = ap (λ xs. 1 ∷ xs) s.is_bytes }))

-- bytes behind the console's tag are what a call did
pub console_stands : (bytes written rest : List ℕ) → BeginsCounted bytes written rest → StartsSomeExtra (4 ∷ bytes)
console_stands bytes written rest c =
    (extra.Console written, (rest, record { has_spelling = c.is_counted; fits = tt; is_bytes = ap (λ xs. 4 ∷ xs) c.is_bytes }))

-- bytes written to a file behind their tag are what a call did
pub put_stands : (bytes : List ℕ) (file at : ℕ) (written rest : List ℕ) → BeginsPut bytes file at written rest → StartsSomeExtra (3 ∷ bytes)
put_stands bytes file at written rest b =
    (extra.Put file at written, (rest, record { has_spelling = b.is_counted; fits = b.fits; is_bytes = ap (λ xs. 3 ∷ xs) b.is_bytes }))

-- so are those that a device gave
pub reply_stands : (bytes : List ℕ) (device : ℕ) (found rest : List ℕ) → BeginsDevice bytes device found rest → StartsSomeExtra (5 ∷ bytes)
reply_stands bytes device found rest b =
    (extra.Reply device found, (rest, record { has_spelling = b.is_counted; fits = b.fits; is_bytes = ap (λ xs. 5 ∷ xs) b.is_bytes }))

-- or took
pub sent_stands : (bytes : List ℕ) (device : ℕ) (found rest : List ℕ) → BeginsDevice bytes device found rest → StartsSomeExtra (9 ∷ bytes)
sent_stands bytes device found rest b =
    (extra.Sent device found, (rest, record { has_spelling = b.is_counted; fits = b.fits; is_bytes = ap (λ xs. 9 ∷ xs) b.is_bytes }))

-- a file's name behind its tag is what a call did
pub name_stands : (bytes : List ℕ) (file : ℕ) (path rest : List ℕ) → BeginsPath bytes file path rest → StartsSomeExtra (8 ∷ bytes)
name_stands bytes file path rest b =
    (extra.Name file path, (rest, record { has_spelling = b.is_name; fits = b.fits; is_bytes = ap (λ xs. 8 ∷ xs) b.is_bytes }))

-- what a call did is none that starts where a file's tag stands, and no bytes written to it behind that
pub no-put : (bytes : List ℕ) → ((file at : ℕ) (found rest : List ℕ) → ¬ BeginsPut bytes file at found rest) → StartsNoExtra (3 ∷ bytes)
no-put bytes h did rest b =
    let put : IsExtraOf DidPut bytes did rest = extra-kind (3 ∷ bytes) did rest b in
    h put.0 put.1 put.2 rest put.4

-- nor where its tag stands, and not its fields behind that
pub no-given : (bytes : List ℕ) → StartsNoGive bytes → StartsNoExtra (1 ∷ bytes)
no-given bytes h did rest b =
    let given : IsExtraOf DidGive bytes did rest = extra-kind (1 ∷ bytes) did rest b in
    h given.0 rest given.2

pub no-console : (bytes : List ℕ) → ((found rest : List ℕ) → ¬ BeginsCounted bytes found rest) → StartsNoExtra (4 ∷ bytes)
no-console bytes h did rest b =
    let printed : IsExtraOf DidPrint bytes did rest = extra-kind (4 ∷ bytes) did rest b in
    h printed.0 rest printed.2

pub no-reply : (bytes : List ℕ) → ((device : ℕ) (found rest : List ℕ) → ¬ BeginsDevice bytes device found rest) → StartsNoExtra (5 ∷ bytes)
no-reply bytes h did rest b =
    let reply : IsExtraOf DidReply bytes did rest = extra-kind (5 ∷ bytes) did rest b in
    h reply.0 reply.1 rest reply.3

pub no-named : (bytes : List ℕ) → ((file : ℕ) (path rest : List ℕ) → ¬ BeginsPath bytes file path rest) → StartsNoExtra (8 ∷ bytes)
no-named bytes h did rest b =
    let named : IsExtraOf DidName bytes did rest = extra-kind (8 ∷ bytes) did rest b in
    h named.0 named.1 rest named.3

pub no-sent : (bytes : List ℕ) → ((device : ℕ) (found rest : List ℕ) → ¬ BeginsDevice bytes device found rest) → StartsNoExtra (9 ∷ bytes)
no-sent bytes h did rest b =
    let sent : IsExtraOf DidSend bytes did rest = extra-kind (9 ∷ bytes) did rest b in
    h sent.0 sent.1 rest sent.3

-- no record starts where a signal's kind stands, and no delivery with it
pub no-signal : (bytes : List ℕ) → ((d : Delivery) (rest : List ℕ) → ¬ BeginsSignal (6 ∷ bytes) d rest) → StartsNone (6 ∷ bytes)
no-signal bytes h r rest b =
    let delivery : IsRecordOf IsDelivery bytes rest = record-kind (6 ∷ bytes) r rest b in
    h delivery.0 rest delivery.1

-- what a call did behind the call's numbers is a call's record
pub call_stands : (bytes behind : List ℕ) (pid number answer : ℕ) → bytes ≡ call_head pid number answer ++ behind
    → (pid < 2 ^ 32) × (number < 2 ^ 64) × (answer < 2 ^ 64) → StartsSomeExtra behind → StartsSome bytes
call_stands bytes behind pid number answer e numbers (did, (rest, s)) = (
  entry.Call pid number answer did,
  (
    rest,
    record {
      has_spelling = s.has_spelling;
      fits = (numbers.0, numbers.1, numbers.2, s.fits);
      is_bytes = e ∙ ap (λ xs. call_head pid number answer ++ xs) s.is_bytes ∙ sym (append_assoc (call_head pid number answer) (extra_fields did) rest);
    },
  ),
)
