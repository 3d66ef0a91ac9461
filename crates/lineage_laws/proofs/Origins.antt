-- The origins that records store are those of the bytes that the kernel held, and what the kernel holds afterwards was put there or held before.
use Rattle.std.proofs.Common.{◌≡◌, ◌⊎◌, inl, inr, ℕ, zero, suc, ◌+◌, ◌-◌, ◌<◌, List, [], ◌∷◌, length, map, refl, ap, ◌∙◌, sym, subst, Option, Some, None, option_map, option_and_then, slice_get, Bool, true, false, cond, arith, nat_lt}
use Rattle.std.proofs.lemmas.Bool.Decides.{nat_tests}
use Rattle.std.proofs.lemmas.Bool.{eqb-true, leb-true, ltb-true, ltb-false, lt-ltb, le-ltb, and_parts}
use Rattle.std.proofs.lemmas.Option.{slice_get_past}
use Rattle.arn_base.specs.declared.records.Give.{Give}
use Rattle.arn_base.specs.declared.records.Origin.{Origin}
use Rattle.arn_base.specs.declared.records.Record.{Record}
use Rattle.arn_base.specs.declared.records.Src.{Src}
use Rattle.parts_model.specs.declared.tagged.TaggedByte.{TaggedByte}
use Rattle.parts_model.specs.Tagged.{onto_origins, origins_of, given}
use Rattle.acts_model.specs.Moved.{KernelByte, Range, behind, byte_of, within, place_from, place_in, Incoming}
use Rattle.acts_model.specs.Records.{give_of}
use Rattle.arn_model.specs.Kernel.{Kernel}
use Rattle.arn_model.specs.Tells.{kernel_byte, Receives, Spans, put_byte, outgoing_byte, HoldsAfter}
use Rattle.lineage_model.specs.Joined.{origin_at, origin_of}
use Rattle.lineage_laws.proofs.Stored.{Held, Names, Linked, Kept, placed}

-- the place in front of origins is found first, and they behind it
onto-first : (place : Src) (os : List Origin) → origin_at (onto_origins place os) 0 ≡ Some place
onto-first place os = grind (arith, nat_tests, lt-ltb)

lt-suc : (j n : ℕ) → nat_lt (suc j) (n + 1) ≡ nat_lt j n
lt-suc j n = grind (arith, nat_tests, le-ltb, lt-ltb, ltb-false, ltb-true)

onto-next : (place : Src) (os : List Origin) (j : ℕ) → origin_at (onto_origins place os) (suc j) ≡ origin_at os j
onto-next place os j = grind (arith, nat_tests, and_parts, eqb-true, le-ltb, lt-suc)

-- the longest runs of places hold each place
origin-at : (places : List Src) (k : ℕ) → origin_at (origins_of places) k ≡ slice_get places k
origin-at [] k = refl
origin-at (place ∷ places) zero = onto-first place (origins_of places)
origin-at (place ∷ places) (suc k) = onto-next place (origins_of places) k ∙ origin-at places k

get-map : (held : List TaggedByte) (k : ℕ) → slice_get (map (λ h. h.origin) held) k ≡ option_map (λ h. h.origin) (slice_get held k)
get-map [] k = refl
get-map (h ∷ held) zero = refl
get-map (h ∷ held) (suc k) = get-map held k

pub given-at : (held : List TaggedByte) (k : ℕ) → origin_at (given held).origins k ≡ option_map (λ h. h.origin) (slice_get held k)
given-at held k = origin-at (map (λ h. h.origin) held) k ∙ get-map held k

get-there : {A : Type 0} (xs : List A) (k : ℕ) → k < length xs → (x : A) × (slice_get xs k ≡ Some x)
get-there [] k l = absurd (omega arith)
get-there (x ∷ xs) zero l = (x, refl)
get-there (x ∷ xs) (suc k) l = get-there xs k (omega arith)

-- of which event byte each byte of a kernel is a copy
abbrev pub origins : Kernel → Held
origins k byte = option_map (λ h. h.origin) (kernel_byte k byte)

range-names : (k : Kernel) (range : Range) (held : List TaggedByte) → length held ≡ range.len → ((n : ℕ) → n < range.len → kernel_byte k (behind range.first n) ≡ slice_get held n) → (n : ℕ) → Names (origins k) (byte_of range n) (origin_at (given held).origins n)
range-names k range held all there n = by_test (nat_lt n range.len) refl
  where
    by_test : (b : Bool) → nat_lt n range.len ≡ b → Names (origins k) (cond b (Some (behind range.first n)) None) (origin_at (given held).origins n)
    by_test true e =
        let l = ltb-true n range.len e in
        let x = get-there held n (omega arith) in
        (x.0.origin, ap (option_map (λ h. h.origin)) (there n l ∙ x.1), given-at held n ∙ ap (option_map (λ h. h.origin)) x.1)
    by_test false e =
        let l = ltb-false n range.len e in
        given-at held n ∙ ap (option_map (λ h. h.origin)) (slice_get_past held n (omega arith))

given-origin : (e : Record) (give : Give) (k : ℕ) → give_of e ≡ Some give → origin_of e k ≡ origin_at give.origins k
given-origin e give k h = ap (option_and_then (λ (give : Give). origin_at give.origins k)) h

no-origin : (e : Record) (k : ℕ) → give_of e ≡ None → origin_of e k ≡ None
no-origin e k h = ap (option_and_then (λ (give : Give). origin_at give.origins k)) h

-- so the stored origins of a record are the kernel's
pub held-linked : (k : Kernel) (range : Range) (e : Record) (held : List TaggedByte) → length held ≡ range.len → ((n : ℕ) → n < range.len → kernel_byte k (behind range.first n) ≡ slice_get held n) → give_of e ≡ Some (given held) → (n : ℕ) → Names (origins k) (byte_of range n) (origin_of e n)
held-linked k range e held all there told n = subst (Names (origins k) (byte_of range n)) (sym (given-origin e (given held) n told)) (range-names k range held all there n)

pub receives-linked : (k : Kernel) (incoming : Incoming) (bytes : List ℕ) (e : Record) → Receives k incoming bytes e → Linked (origins k) e incoming
receives-linked k incoming bytes e h1 = grind (arith, nat_tests, held-linked, no-origin)

-- a place within a range is below its length
within-below : (a n b k : ℕ) → within a n b ≡ Some k → k < n
within-below a n b k h1 = grind (arith, nat_tests, leb-true, ltb-true)

if-below : (b : Bool) (a n c k : ℕ) → cond b (within a n c) None ≡ Some k → k < n
if-below true a n c k e = within-below a n c k e
if-below false a n c k e = absurd (cc)

place-below : (first : KernelByte) (len : ℕ) (byte : KernelByte) (k : ℕ) → place_from first len byte ≡ Some k → k < len
place-below first len byte k h1 = grind (arith, nat_tests, if-below, within-below)

-- what the kernel holds after an event
origin-found : (o : Option TaggedByte) (src : Src) → option_map (λ h. h.origin) o ≡ Some src → (h : TaggedByte) × (o ≡ Some h) × (h.origin ≡ src)
origin-found None src e = absurd (cc)
origin-found (Some h) src e = (h, refl, (cc))

put-origin : (event n : ℕ) (o : Option ℕ) (h : TaggedByte) → option_map (λ b. record { value = b; origin = record { event = event; at = n } }) o ≡ Some h → (h.origin.event ≡ event) × (h.origin.at ≡ n)
put-origin event n None h e = absurd (cc)
put-origin event n (Some b) h e = let f : record { value = b; origin = record { event = event; at = n } } ≡ h = cc in (ap (λ (x : TaggedByte). x.origin.event) (sym f), ap (λ (x : TaggedByte). x.origin.at) (sym f))

-- what was put, or what was held before
abbrev HeldOr : Kernel → ℕ → List ℕ → Option Range → KernelByte → TaggedByte → Type 0
HeldOr old event bytes outgoing byte h = (outgoing_byte event bytes outgoing byte ≡ Some h) ⊎ ((outgoing_byte event bytes outgoing byte ≡ None) × (kernel_byte old byte ≡ Some h))

kept-held : (old : Kernel) (event : ℕ) (bytes : List ℕ) (range : Range) (byte : KernelByte) (h : TaggedByte) → range.len ≡ length bytes → (put : Option ℕ) → place_in range byte ≡ put → ((put_byte event bytes put ≡ Some h) ⊎ ((put_byte event bytes put ≡ None) × (kernel_byte old byte ≡ Some h))) → (src : Src) → h.origin ≡ src → (later : Held) → later byte ≡ Some src → Kept event (origins old) later byte put
kept-held old event bytes range byte h spans None e (inl k) src o later l = absurd (cc)
kept-held old event bytes range byte h spans None e (inr k) src o later l = λ s t. let same : src ≡ s = some_same src s (sym l ∙ t) in ap (option_map (λ h. h.origin)) k.1 ∙ ap (λ (x : Src). Some x) (o ∙ same)
  where
    some_same : (x y : Src) → Some x ≡ Some y → x ≡ y
    some_same x y e = cc
kept-held old event bytes range byte h spans (Some n) e (inl k) src o later l = λ s t.
    let same : src ≡ s = some_same src s (sym l ∙ t) in
    let there = put-origin event n (slice_get bytes n) h k in
    (ap (λ (x : Src). x.event) (sym (o ∙ same)) ∙ there.0, ap (λ (x : Src). x.at) (sym (o ∙ same)) ∙ there.1)
  where
    some_same : (x y : Src) → Some x ≡ Some y → x ≡ y
    some_same x y e = cc
kept-held old event bytes range byte h spans (Some n) e (inr k) src o later l =
    let below = place-below range.first range.len byte n e in
    absurd (some_none (sym (ap (option_map (λ b. record { value = b; origin = record { event = event; at = n } })) (get-there bytes n (omega arith)).1) ∙ k.0))
  where
    some_none : {A : Type 0} {x : A} → Some x ≡ None → ⊥
    some_none e = cc

pub holds-kept : (old : Kernel) (event : ℕ) (bytes : List ℕ) (outgoing : Option Range) (new : Kernel) → Spans outgoing bytes → HoldsAfter old event bytes outgoing new → (byte : KernelByte) → Kept event (origins old) (origins new) byte (placed outgoing byte)
holds-kept old event bytes None new spans h byte = λ src l.
    let x = origin-found (kernel_byte new byte) src l in
    by_case src x.0 x.2 (h byte x.0 x.1)
  where
    by_case : (src : Src) (x : TaggedByte) → x.origin ≡ src → HeldOr old event bytes None byte x → origins old byte ≡ Some src
    by_case src x o (inl k) = absurd (cc)
    by_case src x o (inr k) = ap (option_map (λ h. h.origin)) k.1 ∙ ap (λ (y : Src). Some y) o
holds-kept old event bytes (Some range) new spans h byte = by_held (place_in range byte) refl (origins new byte) refl
  where
    none_some : (x : Src) → None ≡ Some x → ⊥
    none_some x e = cc

    by_held : (put : Option ℕ) → place_in range byte ≡ put → (o : Option Src) → origins new byte ≡ o → Kept event (origins old) (origins new) byte put
    by_held None e None n = λ src l. absurd (none_some src (sym n ∙ l))
    by_held (Some k) e None n = λ src l. absurd (none_some src (sym n ∙ l))
    by_held put e (Some src) n =
        let x = origin-found (kernel_byte new byte) src n in
        kept-held old event bytes range byte x.0 spans put e
        (subst (λ (p : Option ℕ). (put_byte event bytes p ≡ Some x.0) ⊎ ((put_byte event bytes p ≡ None) × (kernel_byte old byte ≡ Some x.0))) e (h byte x.0 x.1))
        src x.2 (origins new) n
