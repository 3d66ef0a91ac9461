-- What reaches bytes of files is told by connected groups, and on the records of a run by the tracking of every step.
use Rattle.std.proofs.lemmas.Grind.{common_steps}
use Rattle.std.proofs.Common.{◌≡◌, ℕ, zero, suc, ◌+◌, ◌<◌, ◌≤◌, List, [], ◌∷◌, ◌++◌, length, take, drop, All, Contains, get_or, Option, Some, None, IfSome, option_map, option_and_then, slice_get, refl, sym, ap, ap₂, subst, ◌∙◌, arith, length-drop, length-take-le}
use Rattle.std.proofs.lemmas.Bool.Decides.{nat_tests}
use Rattle.std.specs.List.{cons_option}
use Rattle.std.proofs.lemmas.Option.{slice_get-get_or, slice_get_within}
use Rattle.arn_base.specs.declared.records.Pair.{Pair}
use Rattle.arn_base.specs.declared.records.Record.{Record}
use Rattle.acts_model.specs.Moved.{FileByte}
use Rattle.arn_model.specs.Kernel.{Kernel}
use Rattle.arn_model.specs.Run.{Input, machine_after, state_at}
use Rattle.arn_model.specs.Tells.{HasNumbers, kernel_byte}
use Rattle.history_index.specs.Lookups.{groups_in}
use Rattle.history_model.specs.Broken.{first_broken}
use Rattle.history_model.specs.Events.{event_at}
use Rattle.history_model.specs.Exchanges.{Starting}
use Rattle.history_model.specs.Groups.{event_group}
use Rattle.lineage_join.specs.Fits.{IsThere}
use Rattle.lineage_join.specs.Laws.{reaches}
use Rattle.lineage_laws.specs.Laws.{LineageIsJoined, whole_at}
use Rattle.lineage_model.specs.Flow.{Byte}
use Rattle.lineage_model.specs.Joined.{from_origin}
use Rattle.lineage_model.specs.Pairs.{byte_pairs, pairs_from}
use Rattle.lineage_model.specs.Tracking.{EventByte}
use Rattle.log_model.specs.Records.{records}
use Rattle.parts_model.specs.declared.tagged.TaggedByte.{TaggedByte}
use Rattle.parts_model.specs.Files.{Files, file_bytes, find_file}
use Rattle.query_model.specs.Linked.{groups_back}
use Rattle.query_model.specs.Names.{Named, writers, written_sources}
use Rattle.query_model.specs.Sources.{reaching}
use Rattle.replay_laws.specs.Laws.{GroupsPassThrough}
use Rattle.rv64_model.specs.Carries.{Table, operands}
use Rattle.version_laws.specs.OfRuns.{VersionsAreOfRuns, version_in}
use Rattle.query_laws.specs.Fitting.{ReachingIsOfBytes}
use Rattle.query_laws.specs.Laws.{GroupsAreConnected}
use Rattle.query_laws.specs.Names.{NamesAreOfRuns, NamesRun, WrittenIsOfBytes, file_set, whole_file}
use Rattle.query_laws.proofs.Found.{event-is-of}
use Rattle.query_laws.proofs.OfRuns.{none-disagrees, reaching-joined}
use Rattle.query_laws.proofs.Written.{is-part}

-- the groups that wrote bytes are groups
writers-known : (entries : List Record) (bytes : List TaggedByte) → first_broken entries ≡ None → All (Contains (groups_in entries)) (writers entries bytes)
writers-known entries [] unbroken k d l = absurd (omega arith)
writers-known entries (b ∷ bytes) unbroken k d l = by_group (event_group entries b.origin.event) refl k d l (writers-known entries bytes unbroken)
  where
    by_group : (o : Option ℕ) → event_group entries b.origin.event ≡ o → (k d : ℕ) → k < length (cons_option o (writers entries bytes)) → All (Contains (groups_in entries)) (writers entries bytes)
        → Contains (groups_in entries) (get_or (cons_option o (writers entries bytes)) k d)
    by_group None is k d l rest = rest k d l
    by_group (Some g) is zero d l rest = event-is-of entries unbroken b.origin.event g is
    by_group (Some g) is (suc k) d l rest = rest k d (omega (arith, l))

-- and that of each byte is one of them
later-in : (x y : ℕ) (xs : List ℕ) → Contains xs x → Contains (y ∷ xs) x
later-in x y xs c = (suc c.0, omega (arith, c.1), c.2)

writer-in : (entries : List Record) (bytes : List TaggedByte) (k : ℕ) (b : TaggedByte) → slice_get bytes k ≡ Some b → (g : ℕ) → event_group entries b.origin.event ≡ Some g → Contains (writers entries bytes) g
writer-in entries [] k b at g is = absurd (cc)
writer-in entries (x ∷ bytes) zero b at g is =
    let same : x ≡ b = cc in
    subst (λ (o : Option ℕ). Contains (cons_option o (writers entries bytes)) g) (sym (ap (λ (y : TaggedByte). event_group entries y.origin.event) same ∙ is)) (0, omega arith, refl)
writer-in entries (x ∷ bytes) (suc k) b at g is = by_group (event_group entries x.origin.event) (writer-in entries bytes k b at g is)
  where
    by_group : (o : Option ℕ) → Contains (writers entries bytes) g → Contains (cons_option o (writers entries bytes)) g
    by_group None c = c
    by_group (Some h) c = later-in g h (writers entries bytes) c

pub written-bytes : GroupsAreConnected → ReachingIsOfBytes → WrittenIsOfBytes
written-bytes connected reach linkage entries moment bytes items unbroken whole written same k = by_byte (slice_get bytes k) refl
  where
    known : All (Contains (groups_in entries)) (writers entries bytes)
    known = writers-known entries bytes unbroken

    asked : (b : TaggedByte) → slice_get bytes k ≡ Some b → (o : Option ℕ) → event_group entries b.origin.event ≡ o → IfSome o (Contains (groups_back entries (writers entries bytes)))
    asked b at None is = tt
    asked b at (Some g) is = ((connected entries (writers entries bytes) unbroken known).members g).1 (Starting g (writer-in entries bytes k b at g is))

    there : (b : TaggedByte) → slice_get bytes k ≡ Some b → IsThere (event_at entries b.origin.event) (Byte b.origin.at)
    there b at =
        let low = slice_get_within bytes k b at in
        let same : get_or bytes k b ≡ b = let got = sym (slice_get-get_or bytes k b low) ∙ at in cc in
        subst (λ (x : TaggedByte). IsThere (event_at entries x.origin.event) (Byte x.origin.at)) same (written k b low)

    by_byte : (o : Option TaggedByte) → slice_get bytes k ≡ o → from_origin (reaches entries items) (option_map (λ b. b.origin) o) ≡ from_origin (reaching (operands linkage) entries moment) (option_map (λ b. b.origin) o)
    by_byte None at = refl
    by_byte (Some b) at =
        reach linkage entries (writers entries bytes) moment items unbroken whole known same b.origin.event (Byte b.origin.at) (asked b at (event_group entries b.origin.event) refl) (there b at)

-- pairs go by what reaches the bytes
pairs-below : (f g : ℕ → List EventByte) (k len : ℕ) → ((j : ℕ) → j < len → f (k + j) ≡ g (k + j)) → pairs_from f k len ≡ pairs_from g k len
pairs-below f g k zero same = refl
pairs-below f g k (suc len) same =
    let here : k + 0 ≡ k = omega arith in
    let first : f k ≡ g k = ap f (sym here) ∙ same 0 (omega arith) ∙ ap g here in
    ap₂ (λ (xs ys : List Pair). xs ++ ys) (ap (byte_pairs k) first)
    (pairs-below f g (k + 1) len (λ j low. ap f (let e : k + 1 + j ≡ k + suc j = omega arith in e) ∙ same (suc j) (omega (arith, low)) ∙ ap g (let e : k + suc j ≡ k + 1 + j = omega arith in e)))

-- a part of bytes
get-take : {A : Type 0} (n : ℕ) (xs : List A) (i : ℕ) → i < n → slice_get (take n xs) i ≡ slice_get xs i
get-take zero xs i h = absurd (omega (arith, h))
get-take (suc n) [] i h = refl
get-take (suc n) (x ∷ xs) zero h = refl
get-take (suc n) (x ∷ xs) (suc i) h = get-take n xs i (omega (arith, h))

get-drop : {A : Type 0} (n : ℕ) (xs : List A) (i : ℕ) → slice_get (drop n xs) i ≡ slice_get xs (n + i)
get-drop zero xs i = ap (slice_get xs) (omega arith)
get-drop (suc n) [] i = refl
get-drop (suc n) (x ∷ xs) i = get-drop n xs i ∙ ap (slice_get (x ∷ xs)) (let e : suc (n + i) ≡ suc n + i = omega arith in e)

get-within : {A : Type 0} (xs : List A) (i : ℕ) → i < length xs → (x : A) × (slice_get xs i ≡ Some x)
get-within [] i h = absurd (omega (arith, h))
get-within (x ∷ xs) zero h = (x, refl)
get-within (x ∷ xs) (suc i) h = get-within xs i (omega (arith, h))

-- the file of a version
pub record IsFile (files : Files) (name : List ℕ) (held : List TaggedByte) : Type 0 where
  pub file : ℕ
  pub found : find_file files name ≡ Some file
  pub bytes : file_bytes files file ≡ Some held

file-of : (files : Files) (name : List ℕ) (held : List TaggedByte) → version_in files name ≡ Some held → IsFile files name held
file-of files name held h1 = grind (arith, nat_tests)

module _ (passes : GroupsPassThrough) (joined : LineageIsJoined) (versions : VersionsAreOfRuns) (table : Table) (inputs : List Input) (n : Named) (few : HasNumbers (machine_after inputs).kernel) where
  abbrev kernel : Kernel
  kernel = (state_at inputs n.moment).kernel

  source-is : (bytes held : List TaggedByte) → bytes ≡ take n.len (drop n.from held) → n.from + n.len ≤ length held → IsFile kernel.files n.name held → (k : ℕ) → k < n.len
      → written_sources table (records inputs) n.moment bytes k ≡ whole_file table inputs n k
  source-is bytes held part inside file k low =
      let got = get-within held (n.from + k) (omega (arith, inside, low)) in
      let b = got.0 in
      let at : slice_get bytes k ≡ Some b = ap (λ (xs : List TaggedByte). slice_get xs k) part ∙ get-take n.len (drop n.from held) k low ∙ get-drop n.from held k ∙ got.1 in
      let there : kernel_byte kernel (FileByte file.file (n.from + k)) ≡ Some b = ap (option_and_then (λ bytes. slice_get bytes (n.from + k))) file.bytes ∙ got.1 in
      ap (λ (o : Option TaggedByte). from_origin (reaching table (records inputs) n.moment) (option_map (λ b. b.origin) o)) at
      ∙ reaching-joined table inputs few passes n.moment b.origin.event (Byte b.origin.at)
      ∙ sym ((joined table inputs n.moment few).kernel (FileByte file.file (n.from + k)) b there)
      ∙ sym (ap (λ (o : Option ℕ). file_set (whole_at table inputs n.moment).kernel o (n.from + k)) file.found)

  part-len : (bytes held : List TaggedByte) → bytes ≡ take n.len (drop n.from held) → n.from + n.len ≤ length held → length bytes ≡ n.len
  part-len bytes held part inside =
      ap (λ (xs : List TaggedByte). length xs) part ∙ length-take-le n.len (drop n.from held) (omega (arith, inside, length-drop n.from held))

  pub names-run : NamesRun table inputs n
  names-run = grind (arith, common_steps, nat_tests, none-disagrees, is-part, file-of, part-len, pairs-below, source-is)

pub names-of-runs : GroupsPassThrough → LineageIsJoined → VersionsAreOfRuns → NamesAreOfRuns
names-of-runs passes joined versions table inputs n few = names-run passes joined versions table inputs n few
