-- A text splits one way at its first space.
use Rattle.std.proofs.Common.{◌≡◌, ◌≢◌, ℕ, ◌^◌, ◌<◌, true, List, [], ◌∷◌, ◌++◌, length, get_or, codes, decimal, inl, inr, refl, sym, subst, ◌∙◌, append_assoc, length-append, arith, All, ◌&&◌, nat_le, nat_lt}
use Rattle.std.specs.List.{list_all}
use Rattle.std.proofs.lemmas.Bool.{and_parts, leb-true, ltb-true}
use Rattle.std.proofs.lemmas.List.{get_or_at}
use Rattle.std.proofs.lemmas.List.Elements.{All-cons, All-from_get_or, All-head, All-nil, All-tail}
use Rattle.std.proofs.lemmas.Str.Parse.{digit_at}
use Rattle.arn_lines.specs.Pieces.{IsFirstWord, IsNoSpace}
use Rattle.arn_lines.specs.Questions.{IsLinkage}
use Rattle.arn_lines.specs.Words.{IsHexNumberFrom, IsName, IsNumber, is_name_byte, space}
use Rattle.rv64_model.specs.declared.linkage.Linkage.{Linkage}
use Rattle.rv64_model.specs.declared.linkage.Linkage.TheVariants.{Copy, Data, Index}
use Rattle.arn_lines.proofs.Decimals.{decimal_digits}
use Rattle.arn_lines.proofs.HexDigits.{IsHexDigit-range}

-- the text that a first word and what stands behind it make
split_text : (word rest : List ℕ) → word ++ space ++ rest ≡ word ++ 32 ∷ rest
split_text word rest = append_assoc word space rest

same_split : (word other rest behind : List ℕ) → All IsNoSpace word → All IsNoSpace other
    → word ++ 32 ∷ rest ≡ other ++ 32 ∷ behind → (word ≡ other) × (rest ≡ behind)
same_split [] [] rest behind p q e = (refl, cc e)
same_split [] (d ∷ other) rest behind p q e =
    let first : d ≡ 32 = cc e in
    absurd (All-head IsNoSpace d other q first)
same_split (c ∷ word) [] rest behind p q e =
    let first : c ≡ 32 = cc e in
    absurd (All-head IsNoSpace c word p first)
same_split (c ∷ word) (d ∷ other) rest behind p q e =
    let first : c ≡ d = cc e in
    let others : word ++ 32 ∷ rest ≡ other ++ 32 ∷ behind = cc e in
    let same = same_split word other rest behind (All-tail IsNoSpace c word p) (All-tail IsNoSpace d other q) others in
    (cc, same.1)

-- a text has one first word
pub IsFirstWord-same : (text word rest other behind : List ℕ) → IsFirstWord text word rest → All IsNoSpace other
    → text ≡ other ++ space ++ behind → (other ≡ word) × (behind ≡ rest)
IsFirstWord-same text word rest other behind first clear e =
    same_split other word behind rest clear first.no_space
    (sym (split_text other behind) ∙ sym e ∙ first.is_text ∙ split_text word rest)

-- a text without spaces has none
has_no_space : (text word rest : List ℕ) → All IsNoSpace text → text ≢ word ++ 32 ∷ rest
has_no_space text word rest clear e =
    let long : length word < length text = rw e (omega (arith, length-append word (32 ∷ rest))) in
    let blank : get_or text (length word) 0 ≡ 32 = rw e (get_or_at word 32 rest 0 (length word) refl) in
    clear (length word) 0 long blank

pub no_first_word : (text word rest : List ℕ) → All IsNoSpace text → text ≢ word ++ space ++ rest
no_first_word text word rest clear e = has_no_space text word rest clear (e ∙ split_text word rest)

-- printable bytes have no space among them
no_space-printable : (text : List ℕ) → list_all is_name_byte text ≡ true → All IsNoSpace text
no_space-printable [] printable = All-nil IsNoSpace
no_space-printable (c ∷ text) printable =
    let parts = and_parts (is_name_byte c) (list_all is_name_byte text) printable in
    let above = leb-true 33 c (and_parts (nat_le 33 c) (nat_le c 126) parts.0).0 in
    All-cons IsNoSpace c text (λ e. absurd (omega arith)) (no_space-printable text parts.1)

pub no_space-IsName : (text : List ℕ) → IsName text → All IsNoSpace text
no_space-IsName text name =
    let long = and_parts (nat_le 1 (length text)) (nat_le (length text) 64 && list_all is_name_byte text) name in
    no_space-printable text (and_parts (nat_le (length text) 64) (list_all is_name_byte text) long.1).1

-- a written-out word without spaces, by a test that computes
clear_from_test : (word : List ℕ) → list_all (λ c. nat_lt 32 c) word ≡ true → All IsNoSpace word
clear_from_test [] test = All-nil IsNoSpace
clear_from_test (c ∷ word) test =
    let parts = and_parts (nat_lt 32 c) (list_all (λ d. nat_lt 32 d) word) test in
    let above = ltb-true 32 c parts.0 in
    All-cons IsNoSpace c word (λ e. absurd (omega arith)) (clear_from_test word parts.1)

pub no_space-IsLinkage : (word : List ℕ) (linkage : Linkage) → IsLinkage word linkage → All IsNoSpace word
no_space-IsLinkage word Copy is = subst (All IsNoSpace) (sym is) (clear_from_test (codes "copy") refl)
no_space-IsLinkage word Data is = subst (All IsNoSpace) (sym is) (clear_from_test (codes "data") refl)
no_space-IsLinkage word Index is = subst (All IsNoSpace) (sym is) (clear_from_test (codes "index") refl)

no_space-digits : (digits : List ℕ) (before n : ℕ) → IsHexNumberFrom before digits n → All IsNoSpace digits
no_space-digits [] before n h = All-nil IsNoSpace
no_space-digits (c ∷ digits) before n h =
    let range = IsHexDigit-range c h.0 h.1 in
    All-cons IsNoSpace c digits (λ e. absurd (omega arith)) (no_space-digits digits _ n h.2)

no_space-decimal : (n : ℕ) → n < 2 ^ 64 → All IsNoSpace (decimal n)
no_space-decimal n small =
    All-from_get_or IsNoSpace (decimal n) 0
    (λ i lt e.
    let digit = digit_at (decimal n) i (decimal_digits n small) lt in
    absurd (omega (arith, digit.0)))

pub no_space-IsNumber : (text : List ℕ) (n : ℕ) → IsNumber text n → All IsNoSpace text
no_space-IsNumber text n number =
    elim number.1 [
      | inl decimal ↦ rw decimal (no_space-decimal n number.0)
      | inr hex ↦
          rw hex.is_text
          (All-cons IsNoSpace 48 (120 ∷ hex.digits) (λ e. cc e) (All-cons IsNoSpace 120 hex.digits (λ e. cc e) (no_space-digits hex.digits 0 n hex.value)))
    ]
