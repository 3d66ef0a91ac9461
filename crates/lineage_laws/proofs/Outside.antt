-- What the kernel holds after a boot, a boot file and a typed piece: what it held, and the bytes that came from outside.
use Rattle.std.proofs.Common.{◌≡◌, ◌⊎◌, inl, inr, ℕ, zero, suc, ◌+◌, ◌-◌, ◌<◌, ◌≤◌, List, [], ◌∷◌, ◌++◌, length, refl, ap, ap₂, ◌∙◌, sym, Option, Some, None, option_map, option_and_then, slice_get, Bool, true, false, ◌==◌, ◌&&◌, cond, arith, nat_lt, ne_eqb}
use Rattle.std.proofs.lemmas.Bool.Decides.{nat_tests}
use Rattle.std.proofs.lemmas.Bool.{eq-eqb, eqb-true, eqb-false, ltb-true, ltb-false, lt-ltb, le-leb, lt-leb}
use Rattle.arn_base.specs.declared.records.Src.{Src}
use Rattle.parts_model.specs.declared.tagged.TaggedByte.{TaggedByte}
use Rattle.parts_model.specs.Channel.{Channel, channel_end, put_behind}
use Rattle.parts_model.specs.Files.{File, next_file}
use Rattle.parts_model.specs.Numbered.{nth}
use Rattle.parts_model.specs.Processes as table
use Rattle.parts_model.specs.Processes.{Processes}
use Rattle.parts_model.specs.Tagged.{held_from, held_bytes}
use Rattle.acts_model.specs.Moved.{KernelByte, ConsoleByte, FileByte, within, within_if, place_in}
use Rattle.arn_model.specs.Kernel.{Kernel, Machine, booted}
use Rattle.arn_model.specs.Run.{file_step, typed_step}
use Rattle.arn_model.specs.Tells.{at_position, kernel_byte}
use Rattle.lineage_laws.proofs.Stored.{Kept}
use Rattle.lineage_laws.proofs.Origins.{origins}

-- a byte that is there was there before, or was put there
abbrev IsOldOrNew : ℕ → Option TaggedByte → Option ℕ → TaggedByte → Type 0
IsOldOrNew event old put h = ((put ≡ None) × (old ≡ Some h)) ⊎ ((put ≡ Some h.origin.at) × (h.origin.event ≡ event))

abbrev OldOrNew : ℕ → Option TaggedByte → Option TaggedByte → Option ℕ → Type 0
OldOrNew event old new put = (h : TaggedByte) → new ≡ Some h → IsOldOrNew event old put h

-- where it is a copy of
abbrev KeptAt : ℕ → Option TaggedByte → Option TaggedByte → Option ℕ → Type 0
KeptAt event old new None = (src : Src) → option_map (λ h. h.origin) new ≡ Some src → option_map (λ h. h.origin) old ≡ Some src
KeptAt event old new (Some k) = (src : Src) → option_map (λ h. h.origin) new ≡ Some src → (src.event ≡ event) × (src.at ≡ k)

kept-by : (event : ℕ) (old new : Option TaggedByte) (put : Option ℕ) → OldOrNew event old new put → KeptAt event old new put
kept-by event old new put h1 = grind (arith, nat_tests)

-- bytes of an event
held-at : (event s : ℕ) (bytes : List ℕ) (j : ℕ) (h : TaggedByte) → slice_get (held_from event s bytes) j ≡ Some h → (h.origin.event ≡ event) × (h.origin.at ≡ s + j) × (j < length bytes)
held-at event s [] j h e = absurd (cc)
held-at event s (b ∷ bytes) zero h e =
    let same : record { value = b; origin = record { event = event; at = s } } ≡ h = cc in
    (ap (λ (x : TaggedByte). x.origin.event) (sym same), ap (λ (x : TaggedByte). x.origin.at) (sym same) ∙ (let z : s ≡ s + 0 = omega arith in z), omega arith)
held-at event s (b ∷ bytes) (suc j) h e =
    let rest = held-at event (s + 1) bytes j h e in
    let at = rest.1 in
    let below = rest.2 in
    (rest.0, omega arith, omega arith)

get-left : (xs ys : List TaggedByte) (j : ℕ) → j < length xs → slice_get (xs ++ ys) j ≡ slice_get xs j
get-left [] ys j h = absurd (omega arith)
get-left (x ∷ xs) ys zero h = refl
get-left (x ∷ xs) ys (suc j) h = get-left xs ys j (omega arith)

get-right : (xs ys : List TaggedByte) (j : ℕ) → slice_get (xs ++ ys) (length xs + j) ≡ slice_get ys j
get-right [] ys j = ap (slice_get ys) (let e : 0 + j ≡ j = omega arith in e)
get-right (x ∷ xs) ys j = ap (λ (k : ℕ). slice_get (x ∷ (xs ++ ys)) k) (let e : suc (length xs) + j ≡ suc (length xs + j) = omega arith in e) ∙ get-right xs ys j

within-there : (a n b : ℕ) → a ≤ b → b < a + n → within a n b ≡ Some (b - a)
within-there a n b l g = ap₂ (λ (x y : Bool). cond (x && y) (Some (b - a)) None) (le-leb a b l) (lt-ltb b (a + n) g)

within-before : (a n b : ℕ) → b < a → within a n b ≡ None
within-before a n b l = ap (λ (x : Bool). cond (x && nat_lt b (a + n)) (Some (b - a)) None) (lt-leb a b l)

-- bytes that go behind a queue
channel-kept : (c : Channel) (event : ℕ) (bytes : List ℕ) (p : ℕ) → OldOrNew event (at_position c p) (at_position (put_behind c event bytes) p) (within (channel_end c) (length bytes) p)
channel-kept c event bytes p h e = by_front (nat_lt p c.taken) refl (nat_lt p (channel_end c)) refl
  where
    by_front : (b : Bool) → nat_lt p c.taken ≡ b → (d : Bool) → nat_lt p (channel_end c) ≡ d → IsOldOrNew event (at_position c p) (within (channel_end c) (length bytes) p) h
    by_front true t d u = absurd (none_some (sym (ap (λ (b : Bool). cond b None (slice_get (c.queue ++ held_bytes event bytes) (p - c.taken))) t) ∙ e))
      where
        none_some : None ≡ Some h → ⊥
        none_some f = cc
    by_front false t true u =
        let l = ltb-false p c.taken t in
        let g = ltb-true p (channel_end c) u in
        let found = sym (ap (λ (b : Bool). cond b None (slice_get (c.queue ++ held_bytes event bytes) (p - c.taken))) t) ∙ e in
        inl (
          within-before (channel_end c) (length bytes) p g,
          ap (λ (b : Bool). cond b None (slice_get c.queue (p - c.taken))) t ∙ (sym (get-left c.queue (held_bytes event bytes) (p - c.taken) (omega arith)) ∙ found),
        )
    by_front false t false u =
        let l = ltb-false p c.taken t in
        let g = ltb-false p (channel_end c) u in
        let j : p - c.taken ≡ length c.queue + (p - channel_end c) = omega arith in
        let found = sym (ap (λ (b : Bool). cond b None (slice_get (c.queue ++ held_bytes event bytes) (p - c.taken))) t) ∙ e in
        let there = sym (get-right c.queue (held_bytes event bytes) (p - channel_end c)) ∙ (ap (slice_get (c.queue ++ held_bytes event bytes)) (sym j) ∙ found) in
        let origin = held-at event 0 bytes (p - channel_end c) h there in
        let below = origin.2 in
        let at = origin.1 in
        inr (within-there (channel_end c) (length bytes) p g (omega arith) ∙ ap (λ (i : ℕ). Some i) (let z : p - channel_end c ≡ h.origin.at = omega arith in z), origin.0)

to-kept : (event : ℕ) (k k' : Kernel) (byte : KernelByte) (put : Option ℕ) → OldOrNew event (kernel_byte k byte) (kernel_byte k' byte) put → Kept event (origins k) (origins k') byte put
to-kept event k k' byte None h = kept-by event (kernel_byte k byte) (kernel_byte k' byte) None h
to-kept event k k' byte (Some j) h = kept-by event (kernel_byte k byte) (kernel_byte k' byte) (Some j) h

-- a typed piece
pub typed-kept : (m : Machine) (bytes : List ℕ) (byte : KernelByte) → Kept m.events (origins m.kernel) (origins (typed_step m bytes).after.kernel) byte (place_in (record { first = ConsoleByte (channel_end m.kernel.console); len = length bytes }) byte)
typed-kept m bytes (ConsoleByte p) = to-kept m.events m.kernel (typed_step m bytes).after.kernel (ConsoleByte p) (within (channel_end m.kernel.console) (length bytes) p) (channel-kept m.kernel.console m.events bytes p)
typed-kept m bytes _ = λ src l. l

-- a boot file
suc-test : (q p : ℕ) → (suc q == suc p) ≡ (q == p)
suc-test q p = grind (arith, nat_tests, eq-eqb, eqb-false, eqb-true)

nth-push : {A : Type 0} → (xs : List (Option A)) (x : Option A) (j : ℕ) → nth (xs ++ x ∷ []) j ≡ cond (length xs == j) x (nth xs j)
nth-push [] x zero = refl
nth-push {A = A} [] x (suc j) = ap (λ (b : Bool). cond {A = Option A} b x None) (sym (ne_eqb zero (suc j) (λ k. omega arith)))
nth-push (y ∷ xs) x zero = ap (λ (b : Bool). cond b x y) (sym (ne_eqb (suc (length xs)) zero (λ k. omega arith)))
nth-push (y ∷ xs) x (suc j) = nth-push xs x j ∙ ap (λ (b : Bool). cond b x (nth xs j)) (sym (suc-test (length xs) j))

file-of : Option File → ℕ → Option TaggedByte
file-of o at = option_and_then (λ bytes. slice_get bytes at) (option_map (λ f. f.bytes) o)

new-kept : (event : ℕ) (bytes : List ℕ) (old : Option File) (at : ℕ) (b : Bool) → OldOrNew event (file-of old at) (file-of (cond b (Some (record { bytes = held_bytes event bytes; holders = 0 })) old) at) (within_if b 0 (length bytes) at)
unfolding file-of
new-kept event bytes old at true h e =
    let origin = held-at event 0 bytes at h e in
    let below = origin.2 in
    let place = origin.1 in
    inr (within-there 0 (length bytes) at (omega arith) (omega arith) ∙ ap (λ (i : ℕ). Some i) (let z : at - 0 ≡ h.origin.at = omega arith in z), origin.0)
new-kept event bytes old at false h e = inl (refl, e)

file-byte-kept : (m : Machine) (path bytes : List ℕ) (f at : ℕ) → OldOrNew m.events (kernel_byte m.kernel (FileByte f at)) (kernel_byte (file_step m path bytes).after.kernel (FileByte f at)) (within_if (next_file m.kernel.files == f) 0 (length bytes) at)
unfolding file-of
file-byte-kept m path bytes f at = grind (arith, nat_tests, file-of, new-kept, nth-push)

pub file-kept : (m : Machine) (path bytes : List ℕ) (byte : KernelByte) → Kept m.events (origins m.kernel) (origins (file_step m path bytes).after.kernel) byte (place_in (record { first = FileByte (next_file m.kernel.files) 0; len = length bytes }) byte)
file-kept m path bytes (FileByte f at) = to-kept m.events m.kernel (file_step m path bytes).after.kernel (FileByte f at) (within_if (next_file m.kernel.files == f) 0 (length bytes) at) (file-byte-kept m path bytes f at)
file-kept m path bytes _ = λ src l. l

-- a boot
first-status : (a : ℕ) (pid : ℕ) → table.status_of (table.with_change (table.with_change (table.with_change (table.booted []) 1 (table.placed a)) 1 (table.placed 0)) 1 (table.placed 0)) pid ≡ None
first-status a pid = grind (arith, nat_tests)

no-status : (ps : Processes) (a pid : ℕ) → nat_lt 0 (length ps) ≡ false → table.status_of (table.with_change (table.with_change (table.with_change (table.booted ps) 1 (table.placed a)) 1 (table.placed 0)) 1 (table.placed 0)) pid ≡ None
no-status [] a pid e = first-status a pid
no-status (p ∷ ps) a pid e = let l = ltb-false 0 (suc (length ps)) e in absurd (omega arith)

pub boot-kept : (k : Kernel) → nat_lt 0 (length k.processes) ≡ false → (byte : KernelByte) (src : Src) → origins (booted k) byte ≡ Some src → origins k byte ≡ Some src
boot-kept k h1 byte src h2 = grind (arith, nat_tests, no-status)
