-- Each byte that the kernel holds is a copy of a byte of an earlier event.
use Rattle.std.proofs.lemmas.Bool.Decides.{nat_tests}
use Rattle.std.proofs.Common.{◌≡◌, ◌⊎◌, inl, inr, ℕ, zero, suc, ◌+◌, ◌-◌, ◌<◌, ◌≤◌, ◌==◌, nat_le, nat_lt, true, false, List, [], ◌∷◌, ◌++◌, length, map, Option, Some, None, option_map, slice_get, refl, sym, ap, ◌∙◌, arith}
use Rattle.std.proofs.lemmas.Bool.{eqb-true, eq-eqb, le-leb, leb-true, ltb-false, and_from, and_parts}
use Rattle.std.specs.List.{list_all}
use Rattle.std.proofs.lemmas.Option.{none-some}
use Rattle.arn_base.specs.declared.records.Give.{Give}
use Rattle.arn_base.specs.declared.records.Origin.{Origin}
use Rattle.arn_base.specs.declared.records.Record.{Record}
use Rattle.arn_base.specs.declared.records.Src.{Src}
use Rattle.parts_model.specs.declared.tagged.TaggedByte.{TaggedByte}
use Rattle.parts_model.specs.Channel.{Channel, put_behind}
use Rattle.parts_model.specs.Numbered.{nth}
use Rattle.parts_model.specs.Processes as table
use Rattle.parts_model.specs.Processes.{Processes}
use Rattle.parts_model.specs.Tagged.{held_from, values, given, origins_of, onto_origins, one_origin}
use Rattle.acts_model.specs.Moved.{KernelByte, ConsoleByte, FileByte, StatusByte, Range, place_in, Incoming}
use Rattle.acts_model.specs.Records.{event_len, give_of}
use Rattle.arn_model.specs.Kernel.{Kernel, Machine, booted}
use Rattle.arn_model.specs.Run.{file_step, typed_step, unplug_step}
use Rattle.arn_model.specs.Tells.{kernel_byte, at_position, HoldsAfter, outgoing_byte, put_byte, Receives}
use Rattle.history_model.specs.Broken.{is_origin, lies_in_event, are_origins, origins_len}
use Rattle.history_model.specs.Events.{events, len_of}

-- the place is one of an event's bytes
pub record Lies (es : List Record) (src : Src) : Type 0 where
  pub entry : Record
  pub there : slice_get es src.event ≡ Some entry
  pub below : src.at < event_len entry

abbrev pub AllLie : List Record → Kernel → Type 0
AllLie es k = (byte : KernelByte) (h : TaggedByte) → kernel_byte k byte ≡ Some h → Lies es h.origin

get-later : {A : Type 0} (xs ys : List A) (j : ℕ) (x : A) → slice_get xs j ≡ Some x → slice_get (xs ++ ys) j ≡ Some x
get-later [] ys j x e = absurd (cc)
get-later (y ∷ xs) ys zero x e = e
get-later (y ∷ xs) ys (suc j) x e = get-later xs ys j x e

get-last : {A : Type 0} (xs : List A) (x : A) (j : ℕ) → j ≡ length xs → slice_get (xs ++ x ∷ []) j ≡ Some x
get-last [] x j e = ap (slice_get (x ∷ [])) e
get-last (y ∷ xs) x zero e = absurd (omega arith)
get-last (y ∷ xs) x (suc j) e = get-last xs x j (omega arith)

lies-later : (es : List Record) (e : Record) (src : Src) → Lies es src → Lies (es ++ e ∷ []) src
lies-later es e src h = record { entry = h.entry; there = get-later es (e ∷ []) src.event h.entry h.there; below = h.below }

lies-new : (es : List Record) (e : Record) (src : Src) → src.event ≡ length es → src.at < event_len e → Lies (es ++ e ∷ []) src
lies-new es e src at l = record { entry = e; there = get-last es e src.event at; below = l }

-- a byte that is there was there before, or is one of so many bytes of an event
abbrev pub OldOrPut : ℕ → ℕ → Kernel → Kernel → Type 0
OldOrPut event len old new =
    (byte : KernelByte) (h : TaggedByte) → kernel_byte new byte ≡ Some h → (kernel_byte old byte ≡ Some h) ⊎ ((h.origin.event ≡ event) × (h.origin.at < len))

pub lie-after : (es : List Record) (e : Record) (event : ℕ) (old new : Kernel) → length es ≡ event → OldOrPut event (event_len e) old new → AllLie es old → AllLie (es ++ e ∷ []) new
lie-after es e event old new n puts lie byte h there = by_case (puts byte h there)
  where
    by_case : (kernel_byte old byte ≡ Some h) ⊎ ((h.origin.event ≡ event) × (h.origin.at < event_len e)) → Lies (es ++ e ∷ []) h.origin
    by_case (inl k) = lies-later es e h.origin (lie byte h k)
    by_case (inr k) = lies-new es e h.origin (k.0 ∙ sym n) k.1

-- an event's bytes that become the kernel's
get-below : {A : Type 0} (xs : List A) (j : ℕ) (x : A) → slice_get xs j ≡ Some x → j < length xs
get-below [] j x e = absurd (cc)
get-below (y ∷ xs) zero x e = omega arith
get-below (y ∷ xs) (suc j) x e = let l = get-below xs j x e in omega arith

put-by : (event n len : ℕ) (o : Option ℕ) (h : TaggedByte) → ((b : ℕ) → o ≡ Some b → n < len) → option_map (λ b. record { value = b; origin = record { event = event; at = n } }) o ≡ Some h → (h.origin.event ≡ event) × (h.origin.at < len)
put-by event n len o h h1 h2 = grind (arith, nat_tests)

put-at : (event : ℕ) (bytes : List ℕ) (o : Option ℕ) (h : TaggedByte) → put_byte event bytes o ≡ Some h → (h.origin.event ≡ event) × (h.origin.at < length bytes)
put-at event bytes None h e = absurd (cc)
put-at event bytes (Some n) h e = put-by event n (length bytes) (slice_get bytes n) h (λ b f. get-below bytes n b f) e

out-at : (event : ℕ) (bytes : List ℕ) (outgoing : Option Range) (byte : KernelByte) (h : TaggedByte) → outgoing_byte event bytes outgoing byte ≡ Some h → (h.origin.event ≡ event) × (h.origin.at < length bytes)
out-at event bytes None byte h e = absurd (cc)
out-at event bytes (Some range) byte h e = put-at event bytes (place_in range byte) h e

pub holds-put : (event : ℕ) (bytes : List ℕ) (outgoing : Option Range) (old new : Kernel) → HoldsAfter old event bytes outgoing new → OldOrPut event (length bytes) old new
holds-put event bytes outgoing old new holds byte h there = by_case (holds byte h there)
  where
    by_case : (outgoing_byte event bytes outgoing byte ≡ Some h) ⊎ ((outgoing_byte event bytes outgoing byte ≡ None) × (kernel_byte old byte ≡ Some h)) → (kernel_byte old byte ≡ Some h) ⊎ ((h.origin.event ≡ event) × (h.origin.at < length bytes))
    by_case (inl k) = inr (out-at event bytes outgoing byte h k)
    by_case (inr k) = inl k.1

-- bytes that come from outside
held-at : (event s : ℕ) (bytes : List ℕ) (j : ℕ) (h : TaggedByte) → slice_get (held_from event s bytes) j ≡ Some h → (h.origin.event ≡ event) × (h.origin.at < s + length bytes)
held-at event s [] j h e = absurd (cc)
held-at event s (b ∷ bytes) zero h e = grind (arith, nat_tests)
held-at event s (b ∷ bytes) (suc j) h e = grind (arith, nat_tests, held-at event (s + 1) bytes j h e)

get-append : {A : Type 0} (xs ys : List A) (j : ℕ) (x : A) → slice_get (xs ++ ys) j ≡ Some x → (slice_get xs j ≡ Some x) ⊎ ((i : ℕ) × (slice_get ys i ≡ Some x))
get-append [] ys j x e = inr (j, e)
get-append (y ∷ xs) ys zero x e = inl e
get-append (y ∷ xs) ys (suc j) x e = get-append xs ys j x e

channel-put : (c : Channel) (event : ℕ) (bytes : List ℕ) (p : ℕ) (h : TaggedByte) → at_position (put_behind c event bytes) p ≡ Some h → (at_position c p ≡ Some h) ⊎ ((h.origin.event ≡ event) × (h.origin.at < length bytes))
channel-put c event bytes p h h1 = grind (arith, nat_tests, held-at, get-append)

pub typed-put : (m : Machine) (bytes : List ℕ) → OldOrPut m.events (length bytes) m.kernel (typed_step m bytes).after.kernel
typed-put m bytes (ConsoleByte p) h e = channel-put m.kernel.console m.events bytes p h e
typed-put m bytes _ h e = inl e

-- an unplugging puts nothing
pub unplug-put : (m : Machine) (device : ℕ) → OldOrPut m.events 0 m.kernel (unplug_step m device).after.kernel
unplug-put m device (ConsoleByte p) h e = inl e
unplug-put m device _ h e = inl e

nth-push : {A : Type 0} (xs : List (Option A)) (x : Option A) (j : ℕ) → (nth (xs ++ x ∷ []) j ≡ nth xs j) ⊎ (nth (xs ++ x ∷ []) j ≡ x)
nth-push [] x zero = inr refl
nth-push (y ∷ xs) x (suc j) = nth-push xs x j
nth-push _ x _ = inl refl

file-put-at : (m : Machine) (path bytes : List ℕ) (f at : ℕ) (h : TaggedByte) → kernel_byte (file_step m path bytes).after.kernel (FileByte f at) ≡ Some h → (kernel_byte m.kernel (FileByte f at) ≡ Some h) ⊎ ((h.origin.event ≡ m.events) × (h.origin.at < length bytes))
file-put-at m path bytes f at h h1 = grind (arith, nat_tests, nth-push, held-at)

pub file-put : (m : Machine) (path bytes : List ℕ) → OldOrPut m.events (length bytes) m.kernel (file_step m path bytes).after.kernel
file-put m path bytes (FileByte file at) h e = file-put-at m path bytes file at h e
file-put m path bytes _ h e = inl e

-- a boot leaves all, since nobody has ended
first-status : (a : ℕ) (pid : ℕ) → table.status_of (table.with_change (table.with_change (table.with_change (table.booted []) 1 (table.placed a)) 1 (table.placed 0)) 1 (table.placed 0)) pid ≡ None
first-status a zero = refl
first-status a (suc zero) = refl
first-status a (suc (suc i)) = refl

no-status : (ps : Processes) (a pid : ℕ) → nat_lt 0 (length ps) ≡ false → table.status_of (table.with_change (table.with_change (table.with_change (table.booted ps) 1 (table.placed a)) 1 (table.placed 0)) 1 (table.placed 0)) pid ≡ None
no-status [] a pid e = first-status a pid
no-status (p ∷ ps) a pid e = let l = ltb-false 0 (suc (length ps)) e in absurd (omega arith)

pub boot-put : (event len : ℕ) (k : Kernel) → nat_lt 0 (length k.processes) ≡ false → OldOrPut event len k (booted k)
boot-put event len k first (StatusByte pid) h e = absurd (none-some h (sym (no-status k.processes (length k.descriptions) pid first) ∙ e))
boot-put event len k first _ h e = inl e

-- bytes that a record holds with their origins are the kernel's
pub record GivesHeld (k : Kernel) (give : Give) : Type 0 where
  pub held : List TaggedByte
  pub is : give ≡ given held
  pub there : (n : ℕ) (h : TaggedByte) → slice_get held n ≡ Some h → (byte : KernelByte) × (kernel_byte k byte ≡ Some h)

abbrev pub Gives : Kernel → Option Give → Type 0
Gives k None = Unit {0}
Gives k (Some give) = GivesHeld k give

pub receives-gives : (k : Kernel) (incoming : Incoming) (bytes : List ℕ) (e : Record) → Receives k incoming bytes e → Gives k (give_of e)
receives-gives k incoming bytes e h1 = grind (arith, nat_tests, get-below)

-- so each origin names bytes of an earlier event
abbrev EachLies : List Record → List TaggedByte → Type 0
EachLies es [] = Unit {0}
EachLies es (h ∷ held) = Lies es h.origin × EachLies es held

each-lies : (es : List Record) (held : List TaggedByte) → ((n : ℕ) (h : TaggedByte) → slice_get held n ≡ Some h → Lies es h.origin) → EachLies es held
each-lies es [] f = tt
each-lies es (h ∷ held) f = (f 0 h refl, each-lies es held (λ n x e. f (suc n) x e))

-- so many bytes from a place on
run-lies : (o : Origin) (len : ℕ) → 1 ≤ o.len → o.at + o.len ≤ len → lies_in_event o (Some len) ≡ true
run-lies o len l k = and_from (nat_le 1 o.len) (nat_le (o.at + o.len) len) (le-leb 1 o.len l) (le-leb (o.at + o.len) len k)

len-there : (before : List Record) (src : Src) (h : Lies (events before) src) → len_of before src.event ≡ Some (event_len h.entry)
len-there before src h = ap (option_map event_len) h.there

one-lies : (before : List Record) (src : Src) → Lies (events before) src → is_origin before (one_origin src) ≡ true
one-lies before src h =
    let below = h.below in
    ap (lies_in_event (one_origin src)) (len-there before src h) ∙ run-lies (one_origin src) (event_len h.entry) (omega arith) (omega arith)

abbrev longer : Src → Origin → Origin
longer src o = record { event = src.event; at = src.at; len = o.len + 1 }

longer-by : (src : Src) (o : Origin) (len : Option ℕ) → src.at + 1 ≡ o.at → lies_in_event o len ≡ true → lies_in_event (longer src o) len ≡ true
longer-by src o len h1 h2 = grind (arith, nat_tests, leb-true, and_parts, run-lies)

longer-lies : (before : List Record) (src : Src) (o : Origin) → src.event ≡ o.event → src.at + 1 ≡ o.at → is_origin before o ≡ true → is_origin before (longer src o) ≡ true
longer-lies before src o same next h =
    ap (λ (n : ℕ). lies_in_event (longer src o) (len_of before n)) same ∙ longer-by src o (len_of before o.event) next h

abbrev Fine : List Record → List Origin → ℕ → Type 0
Fine before origins len = (list_all (is_origin before) origins ≡ true) × (origins_len origins ≡ len)

onto-fine : (before : List Record) (src : Src) (origins : List Origin) (len : ℕ) → Lies (events before) src → Fine before origins len → Fine before (onto_origins src origins) (suc len)
onto-fine before src origins len h1 h2 = grind (arith, nat_tests, and_from, one-lies, and_parts, eqb-true, longer-lies)

given-fine : (before : List Record) (held : List TaggedByte) → EachLies (events before) held → Fine before (origins_of (map (λ h. h.origin) held)) (length (values held))
given-fine before [] h = (refl, refl)
given-fine before (x ∷ held) h = onto-fine before x.origin (origins_of (map (λ h. h.origin) held)) (length (values held)) h.0 (given-fine before held h.1)

pub origins-fine : (before : List Record) (k : Kernel) (o : Option Give) → AllLie (events before) k → Gives k o → are_origins before o ≡ true
origins-fine before k None lie h = refl
origins-fine before k (Some give) lie h =
    let fine = given-fine before h.held (each-lies (events before) h.held (λ n x e. let there = h.there n x e in lie there.0 x there.1)) in
    ap (λ (g : Give). are_origins before (Some g)) h.is
    ∙ and_from (list_all (is_origin before) (given h.held).origins) (origins_len (given h.held).origins == length (values h.held)) fine.0 (eq-eqb (origins_len (given h.held).origins) (length (values h.held)) fine.1)
