-- 32 bits count the places of all bytes that are written.
use Rattle.std.proofs.Common.{◌≡◌, ℕ, zero, suc, ◌+◌, ◌-◌, ◌<◌, ◌^◌, Bool, true, false, cond, nat_le, List, [], ◌∷◌, length, filter, Option, Some, None, IfSome, slice_get, option_map, ◌==◌, refl, sym, ap, subst, ◌∙◌, arith, All}
use Rattle.std.specs.List.{cons_option}
use Rattle.std.proofs.lemmas.List.Elements.{All-nil, All-cons, All-head, All-tail, All-filter, All-map}
use Rattle.std.proofs.lemmas.Option.{slice_get_within}
use Rattle.arn_base.specs.declared.records.Extra.TheVariants as extra
use Rattle.arn_base.specs.declared.records.Record.{Record}
use Rattle.arn_base.specs.declared.records.Record.TheVariants as entry
use Rattle.parts_model.specs.declared.calls.TheConstants.{WRITE}
use Rattle.parts_model.specs.declared.tagged.TaggedByte.{TaggedByte}
use Rattle.acts_model.specs.Records.{Written, event_len}
use Rattle.file_versions.specs.declared.told.Before.{Before}
use Rattle.file_versions.specs.Versions.{Write, byte_of, or_before, laid_at, cell_after, reach, onto_filled, filled_from, bytes_after, bytes_at, version_at, written_by}
use Rattle.file_versions.specs.Cells.{IsCounted}
use Rattle.file_versions.specs.Tables.{WriteAt, writes_in, with_record, file_until, is_until, writes_until, Tables, TellsFiles}

abbrev pub IsShort : Write → Type 0
IsShort w = length w.over.bytes < 2 ^ 32

abbrev pub IsShortAt : WriteAt → Type 0
IsShortAt w = length w.write.over.bytes < 2 ^ 32

-- a byte of a short write
counted-byte : (w : Write) (k : ℕ) → IsShort w → IfSome (byte_of w k) IsCounted
counted-byte w k short = by_byte (slice_get w.over.bytes k) refl
  where
    by_byte : (o : Option ℕ) → slice_get w.over.bytes k ≡ o → IfSome (option_map (λ b. let x : TaggedByte = record { value = b; origin = record { event = w.event; at = k } } in x) o) IsCounted
    by_byte None e = tt
    by_byte (Some b) e = let within = slice_get_within w.over.bytes k b e in omega (arith, within, short)

counted-laid : (w : Write) (place : ℕ) (before : Option TaggedByte) → IsShort w → IfSome before IsCounted → IfSome (laid_at w place before) IsCounted
counted-laid w place before short was = by_test (nat_le w.over.at place) (byte_of w (place - w.over.at)) (counted-byte w (place - w.over.at) short)
  where
    by_test : (t : Bool) (o : Option TaggedByte) → IfSome o IsCounted → IfSome (cond t (or_before o before) before) IsCounted
    by_test true None is = was
    by_test true (Some byte) is = is
    by_test false o is = was

counted-cell : (writes : List Write) (place : ℕ) (before : Option TaggedByte) → All IsShort writes → IfSome before IsCounted → IfSome (cell_after writes place before) IsCounted
counted-cell [] place before short was = was
counted-cell (w ∷ writes) place before short was =
    counted-cell writes place (laid_at w place before) (All-tail IsShort w writes short) (counted-laid w place before (All-head IsShort w writes short) was)

counted-filled : (cells : ℕ → Option TaggedByte) (p n : ℕ) → ((k : ℕ) → IfSome (cells k) IsCounted) → All IsCounted (filled_from cells p n)
counted-filled cells p zero are = All-nil IsCounted
counted-filled cells p (suc n) are = by_cell (cells p) (are p) (counted-filled cells (p + 1) n are)
  where
    by_cell : (o : Option TaggedByte) → IfSome o IsCounted → All IsCounted (filled_from cells (p + 1) n) → All IsCounted (onto_filled o (filled_from cells (p + 1) n))
    by_cell None is rest = All-nil IsCounted
    by_cell (Some byte) is rest = All-cons IsCounted byte (filled_from cells (p + 1) n) is rest

-- so are those of a file
pub counted-bytes : (m file : ℕ) (writes : List WriteAt) → All IsShortAt writes → All IsCounted (bytes_after (writes_until m file writes))
counted-bytes m file writes short =
    let until = writes_until m file writes in
    let are : All IsShort until = All-map IsShort (λ w. w.write) (filter (is_until m file) writes) (All-filter (is_until m file) IsShortAt writes short) in
    counted-filled (λ place. cell_after until place None) 0 (reach until) (λ k. counted-cell until k None are tt)

-- events are short, and so is what they write
write-short : (k : ℕ) (e : Record) → event_len e < 2 ^ 32 → IfSome (written_by k e) (λ w. length w.bytes < 2 ^ 32)
write-short k (entry.File path bytes) short = short
write-short k (entry.Call pid number result (extra.Put file at bytes)) short = by_test (number == WRITE)
  where
    by_test : (t : Bool) → IfSome (cond t (Some (let w : Written = record { file = file; at = at; bytes = bytes } in w)) None) (λ w. length w.bytes < 2 ^ 32)
    by_test true = short
    by_test false = tt
write-short k _ short = tt

pub writes-short : (b : Before) (entries : List Record) → All (λ e. event_len e < 2 ^ 32) entries → All IsShortAt (writes_in b entries)
writes-short b [] short = All-nil IsShortAt
writes-short b (e ∷ entries) short =
    by_write (written_by b.files e) (write-short b.files e (All-head (λ e. event_len e < 2 ^ 32) e entries short))
    (writes-short (with_record b e) entries (All-tail (λ e. event_len e < 2 ^ 32) e entries short))
  where
    by_write : (o : Option Written) → IfSome o (λ w. length w.bytes < 2 ^ 32) → All IsShortAt (writes_in (with_record b e) entries)
        → All IsShortAt (cons_option (option_map (λ w. let x : WriteAt = record { moment = b.ran; write = record { event = b.events; over = w } } in x) o) (writes_in (with_record b e) entries))
    by_write None is rest = rest
    by_write (Some w) is rest = All-cons IsShortAt (record { moment = b.ran; write = record { event = b.events; over = w } }) (writes_in (with_record b e) entries) is rest

-- what is held is a version, and counted
abbrev pub held_of : Tables → ℕ → Option ℕ → Option (List TaggedByte)
held_of t m file = option_map (λ f. bytes_after (writes_until m f t.writes)) file

some-same : {a b : List TaggedByte} → Some a ≡ Some b → a ≡ b
some-same e = cc

pub counted-held : (t : Tables) (m : ℕ) (file : Option ℕ) (items : List TaggedByte) → All IsShortAt t.writes → held_of t m file ≡ Some items → All IsCounted items
counted-held t m None items short is = cc
counted-held t m (Some f) items short is = subst (All IsCounted) (some-same is) (counted-bytes m f t.writes short)

version-of : (t : Tables) (entries : List Record) (m : ℕ) (file : Option ℕ) → TellsFiles t entries → held_of t m file ≡ option_map (bytes_at entries m) file
version-of t entries m None tells = refl
version-of t entries m (Some f) tells = ap (λ (writes : List Write). Some (bytes_after writes)) (tells.writes m f)

pub version-told : (t : Tables) (entries : List Record) (m : ℕ) (name : List ℕ) (items : List TaggedByte) → TellsFiles t entries → held_of t m (file_until m name t.names) ≡ Some items → version_at entries m name ≡ Some items
version-told t entries m name items tells is =
    ap (option_map (bytes_at entries m)) (sym (tells.names m name)) ∙ sym (version-of t entries m (file_until m name t.names) tells) ∙ is
