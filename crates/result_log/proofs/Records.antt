-- Records at the front of bytes.
use Rattle.std.proofs.Common.{◌≡◌, ℕ, ◌<◌, ◌^◌, List, ◌∷◌, ◌++◌, drop, sym, ap, ◌∙◌, append_assoc, arith}
use Rattle.std.specs.Prelude.{Bool}
use Rattle.arn_base.specs.declared.records.Extra.{Extra}
use Rattle.arn_base.specs.declared.records.Extra.TheVariants as extra
use Rattle.arn_base.specs.declared.records.Give.{Give}
use Rattle.arn_base.specs.declared.records.Record.TheVariants as entry
use Rattle.schedule_log.specs.Fields.{counted, field, flag_field, named, IsCounted}
use Rattle.schedule_log.specs.Laws.{CountedOneWay, FieldOneWay, FlagOneWay, NamedOneWay}
use Rattle.exchange_log.specs.Gives.{give_fields, GiveOneWay}
use Rattle.result_log.specs.Pieces.{call_head}
use Rattle.result_log.specs.Laws.{SpelledOneWay}
use Rattle.result_log.specs.Spelling.{extra_fields, spelling, ExtraHasSpelling, FitsExtra, FitsFields, HasSpelling}
use Rattle.result_log.proofs.Tags.{extra-kind, extra_kind, IsExtraOf}
use Rattle.result_log.proofs.OneWay.{first, start-one}

-- the numbers before the tag of a call, one behind the other
pub call-head : (pid number answer : ℕ) (s : List ℕ)
    → call_head pid number answer ++ s ≡ 7 ∷ (field 4 pid ++ (field 8 number ++ (field 8 answer ++ s)))
call-head pid number answer s =
    ap (λ xs. 7 ∷ xs) (append_assoc (field 4 pid ++ field 8 number) (field 8 answer) s
    ∙ append_assoc (field 4 pid) (field 8 number) (field 8 answer ++ s))

-- two numbers behind a kind
pub two-fields : (width kind m n : ℕ) (s : List ℕ)
    → (kind ∷ field 4 m ++ field width n) ++ s ≡ kind ∷ (field 4 m ++ (field width n ++ s))
two-fields width kind m n s = ap (λ xs. kind ∷ xs) (append_assoc (field 4 m) (field width n) s)

module _ (field-one : FieldOneWay) (flag-one : FlagOneWay) (counted-one : CountedOneWay) (named-one : NamedOneWay)
    (give-one : GiveOneWay) where
  device-one : (m n : ℕ) (x y s t : List ℕ) → m < 2 ^ 32 → n < 2 ^ 32 → IsCounted x → IsCounted y
      → (field 4 m ++ counted x) ++ s ≡ (field 4 n ++ counted y) ++ t → (m ≡ n) × (x ≡ y) × (s ≡ t)
  device-one m n x y s t fits_m fits_n is_x is_y e =
      let number = field-one 4 m n (counted x ++ s) (counted y ++ t) fits_m fits_n e in
      let bytes = counted-one x y s t is_x is_y number.1 in
      (number.0, bytes.0, bytes.1)

  -- a tag, and the fields behind it, tell what a call did
  extra-told : (a b : Extra) (s t : List ℕ) → ExtraHasSpelling a → FitsExtra a
      → IsExtraOf (extra_kind (first (extra_fields a ++ s))) (drop 1 (extra_fields a ++ s)) b t → (a ≡ b) × (s ≡ t)
  extra-told extra.Nothing b s t is fits k = (sym k.0, k.1)
  extra-told (extra.Give g) b s t is fits k =
      let one = give-one g k.0 s t is k.2.has_spelling fits k.2.fits k.2.is_bytes in
      (ap extra.Give one.0 ∙ sym k.1, one.1)
  extra-told (extra.Start g) b s t is fits k =
      let one = start-one field-one g k.0 s t is k.2.has_spelling fits k.2.fits k.2.is_bytes in
      (ap extra.Start one.0 ∙ sym k.1, one.1)
  extra-told (extra.Put m i x) b s t is fits k =
      let file = field-one 4 m k.0 (field 4 i ++ counted x ++ s) (field 4 k.1 ++ counted k.2 ++ t) fits.0 k.4.fits.0 k.4.is_bytes in
      let one = device-one i k.1 x k.2 s t fits.1 k.4.fits.1 is k.4.is_counted file.1 in (
        ap (λ n. extra.Put n i x) file.0 ∙ ap (λ n. extra.Put k.0 n x) one.0 ∙ ap (λ n. extra.Put k.0 k.1 n) one.1 ∙ sym k.3,
        one.2,
      )
  extra-told (extra.Console x) b s t is fits k =
      let one = counted-one x k.0 s t is k.2.is_counted k.2.is_bytes in
      (ap extra.Console one.0 ∙ sym k.1, one.1)
  extra-told (extra.Reply m x) b s t is fits k =
      let one = device-one m k.0 x k.1 s t fits k.3.fits is k.3.is_counted k.3.is_bytes in
      (ap (λ n. extra.Reply n x) one.0 ∙ ap (λ n. extra.Reply k.0 n) one.1 ∙ sym k.2, one.2)
  extra-told extra.Fault b s t is fits k = (sym k.0, k.1)
  extra-told extra.Absent b s t is fits k = (sym k.0, k.1)
  extra-told (extra.Name m x) b s t is fits k =
      let file = field-one 4 m k.0 (named x ++ s) (named k.1 ++ t) fits k.3.fits k.3.is_bytes in
      let one = named-one x k.1 s t is k.3.is_name file.1 in
      (ap (λ n. extra.Name n x) file.0 ∙ ap (λ n. extra.Name k.0 n) one.0 ∙ sym k.2, one.1)
  extra-told (extra.Sent m x) b s t is fits k =
      let one = device-one m k.0 x k.1 s t fits k.3.fits is k.3.is_counted k.3.is_bytes in
      (ap (λ n. extra.Sent n x) one.0 ∙ ap (λ n. extra.Sent k.0 n) one.1 ∙ sym k.2, one.2)

  extra-one : (a b : Extra) (s t : List ℕ) → ExtraHasSpelling a → ExtraHasSpelling b → FitsExtra a → FitsExtra b
      → extra_fields a ++ s ≡ extra_fields b ++ t → (a ≡ b) × (s ≡ t)
  extra-one a b s t is_a is_b fits_a fits_b e =
      extra-told a b s t is_a fits_a (extra-kind (extra_fields a ++ s) b t (record { has_spelling = is_b; fits = fits_b; is_bytes = e }))

  call-one : (p q n m r w : ℕ) (a b : Extra) (s t : List ℕ) → FitsFields (entry.Call p n r a) → FitsFields (entry.Call q m w b)
      → ExtraHasSpelling a → ExtraHasSpelling b → spelling (entry.Call p n r a) ++ s ≡ spelling (entry.Call q m w b) ++ t
      → (entry.Call p n r a ≡ entry.Call q m w b) × (s ≡ t)
  call-one p q n m r w a b s t fits_a fits_b is_a is_b e =
      let x = extra_fields a ++ s in
      let y = extra_fields b ++ t in
      let whole : call_head p n r ++ x ≡ call_head q m w ++ y =
      sym (append_assoc (call_head p n r) (extra_fields a) s) ∙ e ∙ append_assoc (call_head q m w) (extra_fields b) t in
      let numbers = ap (drop 1) (sym (call-head p n r x) ∙ whole ∙ call-head q m w y) in
      let pid = field-one 4 p q (field 8 n ++ (field 8 r ++ x)) (field 8 m ++ (field 8 w ++ y)) fits_a.0 fits_b.0 numbers in
      let number = field-one 8 n m (field 8 r ++ x) (field 8 w ++ y) fits_a.1 fits_b.1 pid.1 in
      let answer = field-one 8 r w x y fits_a.2 fits_b.2 number.1 in
      let did = extra-one a b s t is_a is_b fits_a.3 fits_b.3 answer.1 in (
        ap (λ k. entry.Call k n r a) pid.0 ∙ ap (λ k. entry.Call q k r a) number.0 ∙ ap (λ k. entry.Call q m k a) answer.0
            ∙ ap (λ k. entry.Call q m w k) did.0,
        did.1,
      )

  end-one : (p q n m : ℕ) (s t : List ℕ) → FitsFields (entry.End p n) → FitsFields (entry.End q m)
      → spelling (entry.End p n) ++ s ≡ spelling (entry.End q m) ++ t → (entry.End p n ≡ entry.End q m) × (s ≡ t)
  end-one p q n m s t fits_a fits_b e =
      let numbers = ap (drop 1) (sym (two-fields 1 8 p n s) ∙ e ∙ two-fields 1 8 q m t) in
      let pid = field-one 4 p q (field 1 n ++ s) (field 1 m ++ t) fits_a.0 fits_b.0 numbers in
      let status = field-one 1 n m s t fits_a.1 fits_b.1 pid.1 in
      (ap (λ k. entry.End k n) pid.0 ∙ ap (λ k. entry.End q k) status.0, status.1)

  file-one : (m n x y s t : List ℕ) → HasSpelling (entry.File m x) → HasSpelling (entry.File n y)
      → spelling (entry.File m x) ++ s ≡ spelling (entry.File n y) ++ t → (entry.File m x ≡ entry.File n y) × (s ≡ t)
  file-one m n x y s t is_a is_b e =
      let whole = sym (append_assoc (named m) (counted x) s) ∙ ap (drop 1) e ∙ append_assoc (named n) (counted y) t in
      let name = named-one m n (counted x ++ s) (counted y ++ t) is_a.0 is_b.0 whole in
      let bytes = counted-one x y s t is_a.1 is_b.1 name.1 in
      (ap (λ k. entry.File k x) name.0 ∙ ap (λ k. entry.File n k) bytes.0, bytes.1)

  boot-one : (m n : List ℕ) (g h : Give) (s t : List ℕ) → HasSpelling (entry.Boot m g) → HasSpelling (entry.Boot n h)
      → FitsFields (entry.Boot m g) → FitsFields (entry.Boot n h)
      → spelling (entry.Boot m g) ++ s ≡ spelling (entry.Boot n h) ++ t → (entry.Boot m g ≡ entry.Boot n h) × (s ≡ t)
  boot-one m n g h s t is_a is_b fits_a fits_b e =
      let whole = sym (append_assoc (named m) (give_fields g) s) ∙ ap (drop 1) e ∙ append_assoc (named n) (give_fields h) t in
      let name = named-one m n (give_fields g ++ s) (give_fields h ++ t) is_a.0 is_b.0 whole in
      let give = give-one g h s t is_a.1 is_b.1 fits_a fits_b name.1 in
      (ap (λ k. entry.Boot k g) name.0 ∙ ap (λ k. entry.Boot n k) give.0, give.1)

  unplug-one : (m n : ℕ) (s t : List ℕ) → FitsFields (entry.Unplug m) → FitsFields (entry.Unplug n)
      → spelling (entry.Unplug m) ++ s ≡ spelling (entry.Unplug n) ++ t → (entry.Unplug m ≡ entry.Unplug n) × (s ≡ t)
  unplug-one m n s t fits_a fits_b e =
      let one = field-one 4 m n s t fits_a fits_b (ap (drop 1) e) in
      (ap entry.Unplug one.0, one.1)

  slice-one : (p q n m : ℕ) (s t : List ℕ) → FitsFields (entry.Slice p n) → FitsFields (entry.Slice q m)
      → spelling (entry.Slice p n) ++ s ≡ spelling (entry.Slice q m) ++ t → (entry.Slice p n ≡ entry.Slice q m) × (s ≡ t)
  slice-one p q n m s t fits_a fits_b e =
      let pid = field-one 4 p q (field 4 n ++ s) (field 4 m ++ t) fits_a.0 fits_b.0 (ap (drop 1) e) in
      let ran = field-one 4 n m s t fits_a.1 fits_b.1 pid.1 in
      (ap (λ k. entry.Slice k n) pid.0 ∙ ap (λ k. entry.Slice q k) ran.0, ran.1)

  signal-one : (p q n m : ℕ) (c d : Bool) (h i : ℕ) (s t : List ℕ) → HasSpelling (entry.Signal p n c h) → HasSpelling (entry.Signal q m d i)
      → FitsFields (entry.Signal p n c h) → FitsFields (entry.Signal q m d i)
      → spelling (entry.Signal p n c h) ++ s ≡ spelling (entry.Signal q m d i) ++ t → (entry.Signal p n c h ≡ entry.Signal q m d i) × (s ≡ t)
  signal-one p q n m c d h i s t is_a is_b fits_a fits_b e =
      let x = flag_field c ++ (field 8 h ++ s) in
      let y = flag_field d ++ (field 8 i ++ t) in
      let whole : field 4 p ++ (field 1 n ++ x) ≡ field 4 q ++ (field 1 m ++ y) =
      ap (λ xs. field 4 p ++ (field 1 n ++ xs)) (sym (append_assoc (flag_field c) (field 8 h) s)) ∙ ap (drop 1) e
      ∙ ap (λ xs. field 4 q ++ (field 1 m ++ xs)) (append_assoc (flag_field d) (field 8 i) t) in
      let pid = field-one 4 p q (field 1 n ++ x) (field 1 m ++ y) fits_a.0 fits_b.0 whole in
      let signal = field-one 1 n m x y (omega (arith, is_a.1)) (omega (arith, is_b.1)) pid.1 in
      let cut = flag-one c d (field 8 h ++ s) (field 8 i ++ t) signal.1 in
      let handler = field-one 8 h i s t fits_a.1 fits_b.1 cut.1 in (
        ap (λ k. entry.Signal k n c h) pid.0 ∙ ap (λ k. entry.Signal q k c h) signal.0 ∙ ap (λ k. entry.Signal q m k h) cut.0
            ∙ ap (λ k. entry.Signal q m d k) handler.0,
        handler.1,
      )

  -- bytes begin with the spelling of one record alone
  pub record-one : SpelledOneWay
  record-one (entry.File a1 a2) (entry.File b1 b2) s t is_a fits_a is_b fits_b e = file-one a1 b1 a2 b2 s t is_a is_b e
  record-one (entry.Boot a1 a2) (entry.Boot b1 b2) s t is_a fits_a is_b fits_b e = boot-one a1 b1 a2 b2 s t is_a is_b fits_a fits_b e
  record-one (entry.Typed a1) (entry.Typed b1) s t is_a fits_a is_b fits_b e =
      let one = counted-one a1 b1 s t is_a is_b (ap (drop 1) e) in
      (ap entry.Typed one.0, one.1)
  record-one (entry.Unplug a1) (entry.Unplug b1) s t is_a fits_a is_b fits_b e = unplug-one a1 b1 s t fits_a fits_b e
  record-one (entry.Slice a1 a2) (entry.Slice b1 b2) s t is_a fits_a is_b fits_b e = slice-one a1 b1 a2 b2 s t fits_a fits_b e
  record-one (entry.Signal a1 a2 a3 a4) (entry.Signal b1 b2 b3 b4) s t is_a fits_a is_b fits_b e =
      signal-one a1 b1 a2 b2 a3 b3 a4 b4 s t is_a is_b fits_a fits_b e
  record-one (entry.Call a1 a2 a3 a4) (entry.Call b1 b2 b3 b4) s t is_a fits_a is_b fits_b e = call-one a1 b1 a2 b2 a3 b3 a4 b4 s t fits_a fits_b is_a is_b e
  record-one (entry.End a1 a2) (entry.End b1 b2) s t is_a fits_a is_b fits_b e = end-one a1 b1 a2 b2 s t fits_a fits_b e
  record-one a b s t is_a fits_a is_b fits_b e = let k = ap first e in absurd (omega (arith, k))
