-- Reads from files and writes to them.
use Rattle.std.proofs.Common.{◌≡◌, ◌≢◌, ℕ, suc, ◌+◌, ◌-◌, ◌≤◌, ◌<◌, ◌==◌, min, Bool, true, false, cond, List, [], ◌∷◌, length, take, Option, IfSome, refl, sym, ap, ◌∙◌, arith, subst, leb-true, leb-false, ne_eqb, eq-eqb}
use Rattle.std.specs.Prelude.{unwrap_or, nat_le}
use Rattle.arn_base.specs.declared.records.Extra.TheVariants as extra
use Rattle.arn_base.specs.declared.records.Give.{Give}
use Rattle.parts_model.specs.declared.limits.TheConstants.{MOST_FILE_BYTES}
use Rattle.parts_model.specs.declared.open.Description.TheVariants.{File}
use Rattle.parts_model.specs.declared.refusals.TheConstants.{NO_ROOM}
use Rattle.parts_model.specs.declared.tagged.TaggedByte.{TaggedByte}
use Rattle.parts_model.specs.Files.{file_bytes, fitting, read_from, written}
use Rattle.parts_model.specs.Tagged.{values, given}
use Rattle.acts_model.specs.Acts.{Act, Gives, Receives, done}
use Rattle.acts_model.specs.Bodies.{View}
use Rattle.acts_model.specs.Moved.{KernelByte, FileByte}
use Rattle.acts_model.specs.Views.{read, error}
use Rattle.arn_model.specs.Doing.{Doing, Does, refused, returns}
use Rattle.arn_model.specs.Kernel.{Handling, Kernel, Machine, with_description}
use Rattle.arn_model.specs.TransferCalls.{put_into_file, receiving, received}
use Rattle.guest_bodies.specs.Follows.{Follows, IsResult, KeepsWatches}
use Rattle.guest_bodies.specs.Shown.{Guests, seen_in}
use Rattle.guest_resources.specs.Resources.{Resources, Changes, with_resources}
use Rattle.guest_calls.specs.Acted.{Acted, Carried}
use Rattle.guest_calls.specs.Kept.{state_of}
use Rattle.guest_calls.specs.State.{State, OfProcess}
use Rattle.guest_requests.specs.Transfers.{reading_at, writing_at}
use Rattle.guest_calls.specs.declared.kernel.Kernel.TheInside.{Inside}
use Rattle.guest_requests.specs.declared.reading.Place.{Place}
use Rattle.guest_calls.proofs.Carries.{acted-after}
use Rattle.guest_calls.proofs.Stands.{machine_with, of_process, acted-stands, at-seen}
use Rattle.guest_calls.proofs.Watches.{handlings-same}

received-some : (m : Machine) (at : ℕ) (first : KernelByte) (held : List TaggedByte) (k : Kernel) → length held ≢ 0 → received m at first held k ≡ Does (receiving at first held k)
received-some m at first [] k some = absurd (some refl)
received-some m at first (b ∷ held) k some = refl

received-none : (m : Machine) (at : ℕ) (first : KernelByte) (held : List TaggedByte) (k : Kernel) → length held ≡ 0 → received m at first held k ≡ returns 0 m.kernel
received-none m at first [] k none = refl
received-none m at first (b ∷ held) k none = cc

-- what a read finds
abbrev pub found_at : Kernel → ℕ → Place → List TaggedByte
found_at k most place = read_from (unwrap_or (file_bytes k.files place.file) []) place.position most

-- a read that finds nothing
pub nothing-read : (m : Machine) (at most : ℕ) (place : Place) → length (found_at m.kernel most place) ≡ 0 → reading_at m at most place ≡ returns 0 m.kernel
nothing-read m at most place none =
    received-none m at (FileByte place.file place.position) (found_at m.kernel most place) (with_description place.number (File place.file (place.position + length (found_at m.kernel most place))) m.kernel) none

-- a process has received what a read found
filed-acted : (k : Inside) (pid at : ℕ) (place : Place) (held : List TaggedByte) (new : Guests) (r : Resources) → Changes k.resources (with_description place.number (File place.file (place.position + length held))) r → Follows k.bodies (done pid k.events (Receives at (values held) (length held))) new → KeepsWatches k.bodies new → Acted pid (Receives at (values held) (length held)) (with_description place.number (File place.file (place.position + length held)) (state_of k).kernel) (state_of k) (state_of (record k { bodies = new; resources = r; events = k.events + 1 }))
filed-acted k pid at place held new r changes follows keeps =
    record {
      follows = follows;
      kernel =
          ap (λ (h : List (Option Handling)). record (with_resources r (state_of k).kernel) { handling = h }) (handlings-same (length k.procs) k.bodies new keeps)
          ∙ sym (changes.kernel (state_of k).kernel);
      events = refl;
    }

pub filed-carried : (k : Inside) (pid at most count : ℕ) (place : Place) (give : Give) (new : Guests) (r : Resources) → give ≡ given (found_at (state_of k).kernel most place) → count ≡ length give.bytes → length give.bytes ≢ 0 → Changes k.resources (with_description place.number (File place.file (place.position + count))) r → Follows k.bodies (done pid k.events (Receives at give.bytes count)) new → KeepsWatches k.bodies new → OfProcess (state_of k) pid (λ m v. Carried (reading_at m at most place) (record { result = count; extra = extra.Give give }) m pid v (state_of (record k { bodies = new; resources = r; events = k.events + 1 })))
filed-carried k pid at most count place give new r gives counts some changes follows keeps =
    let held : List TaggedByte = found_at (state_of k).kernel most place in
    let bytes : give.bytes ≡ values held = ap (λ (g : Give). g.bytes) gives in
    let long : count ≡ length held = counts ∙ (ap length bytes ∙ length-values held) in
    let k' : Kernel = with_description place.number (File place.file (place.position + length held)) (state_of k).kernel in
    let d : Doing = receiving at (FileByte place.file place.position) held k' in
    let acted : Acted pid (Receives at (values held) (length held)) k' (state_of k) (state_of (record k { bodies = new; resources = r; events = k.events + 1 })) =
    filed-acted k pid at place held new r
    (subst (λ (n : ℕ). Changes k.resources (with_description place.number (File place.file (place.position + n))) r) long changes)
    (subst (λ (x : List ℕ). Follows k.bodies (done pid k.events (Receives at x (length held))) new) bytes (subst (λ (n : ℕ). Follows k.bodies (done pid k.events (Receives at give.bytes n)) new) long follows)) keeps in
    of_process (state_of k) pid (λ m v. Carried (reading_at m at most place) (record { result = count; extra = extra.Give give }) m pid v (state_of (record k { bodies = new; resources = r; events = k.events + 1 })))
    (λ b v shows sees. record {
      doing = d;
      is = received-some (machine_with b (state_of k)) at (FileByte place.file place.position) held k' (λ (e : length held ≡ 0). some (sym counts ∙ (long ∙ e)));
      answers = long;
      extra = ap (λ (g : Give). extra.Give g) gives;
      stands = acted-stands (state_of k) (state_of (record k { bodies = new; resources = r; events = k.events + 1 })) pid v b d shows acted refl;
    })
  where
    length-values : (l : List TaggedByte) → length (values l) ≡ length l
    length-values [] = refl
    length-values (x ∷ l) = ap (λ (n : ℕ). suc n) (length-values l)

-- how many bytes a file takes
pub fitting-min : (at count : ℕ) → at ≤ MOST_FILE_BYTES → fitting at count ≡ min count (MOST_FILE_BYTES - at)
fitting-min at count within = by (nat_le (at + count) MOST_FILE_BYTES) refl
  where
    by : (b : Bool) → nat_le (at + count) MOST_FILE_BYTES ≡ b → cond b count (MOST_FILE_BYTES - at) ≡ min count (MOST_FILE_BYTES - at)
    by true e = omega (arith, leb-true (at + count) MOST_FILE_BYTES e)
    by false e = omega (arith, leb-false (at + count) MOST_FILE_BYTES e)

write-by : (m : Machine) (at : ℕ) (place : Place) (d : Doing) (b : Bool) → b ≡ false → cond b (refused NO_ROOM m.kernel) (Does d) ≡ Does d
write-by m at place d b e = ap (λ (t : Bool). cond t (refused NO_ROOM m.kernel) (Does d)) e

-- a write of which something fits
written-is : (m : Machine) (at count fits : ℕ) (bytes : List ℕ) (place : Place) → length bytes ≡ count → place.position < MOST_FILE_BYTES → fits ≡ min count (MOST_FILE_BYTES - place.position) → writing_at m at bytes place ≡ Does (put_into_file m place.number at place.file place.position (take fits bytes))
written-is m at count fits bytes place long within is =
    write-by m at place (put_into_file m place.number at place.file place.position (take (fitting place.position (length bytes)) bytes)) (place.position == MOST_FILE_BYTES) (ne_eqb place.position MOST_FILE_BYTES (λ (e : place.position ≡ MOST_FILE_BYTES). omega (arith, within, e)))
    ∙ ap (λ (n : ℕ). Does (put_into_file m place.number at place.file place.position (take n bytes)))
    (ap (fitting place.position) long ∙ (fitting-min place.position count (omega (arith, within)) ∙ sym is))

-- what it does to the kernel
abbrev pub put_at : Place → List ℕ → State → Kernel
put_at place bytes s =
    with_description place.number (File place.file (place.position + length bytes)) (record s.kernel { files = written s.kernel.files place.file place.position bytes s.events })

pub put-carried : (old mid new : State) (pid at count fits : ℕ) (place : Place) (bytes : List ℕ) → IfSome (seen_in old.guests pid) (λ v. bytes ≡ take fits (read v at count)) → IfSome (seen_in old.guests pid) (λ v. length (read v at count) ≡ count) → length bytes ≡ fits → place.position < MOST_FILE_BYTES → fits ≡ min count (MOST_FILE_BYTES - place.position) → mid ≡ record old { kernel = put_at place bytes old } → ((act : Act) → IsResult act fits → Acted pid act mid.kernel mid new) → OfProcess old pid (λ m v. Carried (writing_at m at (read v at count) place) (record { result = fits; extra = extra.Put place.file place.position bytes }) m pid v new)
put-carried old mid new pid at count fits place bytes first whole long within is changed acts =
    of_process old pid (λ m v. Carried (writing_at m at (read v at count) place) (record { result = fits; extra = extra.Put place.file place.position bytes }) m pid v new)
    (λ b v shows sees.
    let m : Machine = machine_with b old in
    let d : Doing = put_into_file m place.number at place.file place.position bytes in
    let acted : Acted pid (Gives at (length bytes) (length bytes)) (put_at place bytes old) old new = acted-after pid (Gives at (length bytes) (length bytes)) (put_at place bytes old) old mid new changed (acts (Gives at (length bytes) (length bytes)) long) in
    record {
      doing = d;
      is =
          written-is m at count fits (read v at count) place (at-seen (seen_in old.guests pid) v (λ (w : View). length (read w at count) ≡ count) sees whole) within is
          ∙ ap (λ (x : List ℕ). Does (put_into_file m place.number at place.file place.position x)) (sym (at-seen (seen_in old.guests pid) v (λ (w : View). bytes ≡ take fits (read w at count)) sees first));
      answers = sym long;
      extra = refl;
      stands = acted-stands old new pid v b d shows acted refl;
    })

-- a file that is full takes nothing
pub full-write : (m : Machine) (at answer : ℕ) (bytes : List ℕ) (place : Place) → place.position ≡ MOST_FILE_BYTES → answer ≡ error NO_ROOM → returns answer m.kernel ≡ writing_at m at bytes place
full-write m at answer bytes place full is =
    ap (λ (a : ℕ). returns a m.kernel) is
    ∙ ap (λ (t : Bool). cond t (refused NO_ROOM m.kernel) (Does (put_into_file m place.number at place.file place.position (take (fitting place.position (length bytes)) bytes)))) (sym (eq-eqb place.position MOST_FILE_BYTES full))
