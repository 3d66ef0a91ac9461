-- Each instruction that is read as it stands has a word.
use Rattle.std.proofs.lemmas.Bool.Decides.{nat_tests}
use Rattle.std.proofs.Common.{◌≡◌, ℕ, List, [], ◌∷◌, Option, Some, None, Bool, true, false, if◌then◌else◌, option_map, option_and_then, refl, subst, IfSome, reverse, drop, length, ℤ, arith}
use Rattle.asm_text.specs.Characters.{before, is_blank, skip_blanks}
use Rattle.guest_asm.specs.Encodable.{HasWord}
use Rattle.asm_text.specs.Names.{register_of}
use Rattle.asm_text.specs.Numbers.{number_of}
use Rattle.asm_text.specs.Statements.{Statement, StatementReading, Says, Wrong, Jal, Bytes, Zeros, alone, by_form, counted, defined, form_of, formed, jumped, label_of, listed, moved, numbers_of, offset_of, operands, reading, reading_or, with_label, with_number, with_offset, with_third, with_two, worded}
use Rattle.asm_text.specs.declared.form.Form.{Form}
use Rattle.asm_text.specs.declared.form.Form.TheVariants as form
use Rattle.asm_text.specs.declared.fault.AsmKind.TheVariants as kind

abbrev Worded : Option Statement → Type 0
Worded o = IfSome o HasWord

map_word : {A : Type 0} (o : Option A) (g : A → Statement) → ((x : A) → HasWord (g x)) → Worded (option_map g o)
map_word None g h = tt
map_word (Some x) g h = h x

then_word : {A : Type 0} (o : Option A) (g : A → Option Statement) → ((x : A) → Worded (g x)) → Worded (option_and_then g o)
then_word None g h = tt
then_word (Some x) g h = h x

number_word : (make : ℕ → ℤ → Statement) → ((r : ℕ) (n : ℤ) → HasWord (make r n)) → (texts : List (List ℕ)) → Worded (with_number make texts)
number_word make h (a ∷ b ∷ []) = then_word (register_of a) (λ r. option_map (make r) (number_of b)) (λ r. map_word (number_of b) (make r) (h r))
number_word make h _ = tt

label_word : (make : ℕ → List ℕ → Statement) → ((r : ℕ) (l : List ℕ) → HasWord (make r l)) → (texts : List (List ℕ)) → Worded (with_label make texts)
label_word make h (a ∷ b ∷ []) = then_word (register_of a) (λ r. option_map (make r) (label_of b)) (λ r. map_word (label_of b) (make r) (h r))
label_word make h _ = tt

offset_word : (make : ℕ → ℕ → ℤ → Statement) → ((r b : ℕ) (n : ℤ) → HasWord (make r b n)) → (texts : List (List ℕ)) → Worded (with_offset make texts)
offset_word make h (a ∷ b ∷ []) = then_word (register_of a) (λ r. option_map (λ o. make r o.register o.imm) (offset_of b)) (λ r. map_word (offset_of b) (λ o. make r o.register o.imm) (λ o. h r o.register o.imm))
offset_word make h _ = tt

two_word : (make : ℕ → ℕ → Statement) → ((r s : ℕ) → HasWord (make r s)) → (a b : List ℕ) → Worded (with_two make a b)
two_word make h a b = then_word (register_of a) (λ r. option_map (make r) (register_of b)) (λ r. map_word (register_of b) (make r) (h r))

third_word : {A : Type 0} (make : ℕ → ℕ → A → Statement) (third : List ℕ → Option A) → ((r s : ℕ) (x : A) → HasWord (make r s x)) → (texts : List (List ℕ)) → Worded (with_third make third texts)
third_word make third h (a ∷ b ∷ c ∷ []) = then_word (third c) (λ x. with_two (λ r s. make r s x) a b) (λ x. two_word (λ r s. make r s x) (λ r s. h r s x) a b)
third_word make third h _ = tt

alone_word : (s : Statement) → HasWord s → (texts : List (List ℕ)) → Worded (alone s texts)
alone_word s h [] = h
alone_word s h (a ∷ texts) = tt

moved_word : (texts : List (List ℕ)) → Worded (moved texts)
moved_word (a ∷ b ∷ []) = two_word _ (λ r s. tt) a b
moved_word _ = tt

jumped_word : (texts : List (List ℕ)) → Worded (jumped texts)
jumped_word (a ∷ []) = map_word (label_of a) (Jal 0) (λ l. tt)
jumped_word _ = tt

listed_word : (texts : List (List ℕ)) → Worded (listed texts)
listed_word [] = tt
listed_word (a ∷ texts) = map_word (numbers_of (a ∷ texts)) Bytes (λ ns. tt)

counted_word : (texts : List (List ℕ)) → Worded (counted texts)
counted_word (a ∷ []) = map_word (number_of a) Zeros (λ n. tt)
counted_word _ = tt

formed_word : (f : Form) (texts : List (List ℕ)) → Worded (formed f texts)
formed_word form.Jal texts = label_word _ (λ r l. tt) texts
formed_word form.Jalr texts = offset_word _ (λ r b n. tt) texts
formed_word (form.Branch op) texts = third_word _ _ (λ r s x. tt) texts
formed_word (form.Load op) texts = offset_word _ (λ r b n. tt) texts
formed_word (form.Store op) texts = offset_word _ (λ r b n. tt) texts
formed_word (form.Imm op) texts = third_word _ _ (λ r s x. tt) texts
formed_word (form.Op op) texts = third_word _ _ (λ r s x. tt) texts
formed_word form.Fence texts = alone_word _ (record { in_misc_mem = refl; ordinary = refl }) texts
formed_word form.Ecall texts = alone_word _ tt texts
formed_word form.Ebreak texts = alone_word _ tt texts
formed_word form.Mv texts = moved_word texts
formed_word form.J texts = jumped_word texts
formed_word form.La texts = label_word _ (λ r l. tt) texts
formed_word form.Byte texts = listed_word texts
formed_word form.Zero texts = counted_word texts
formed_word _ texts = number_word _ (λ r n. tt) texts

abbrev ReadsWord : StatementReading → Type 0
ReadsWord (Says s) = HasWord s
ReadsWord (Wrong kind) = Unit {0}

or_word : (o : Option Statement) → Worded o → ReadsWord (reading_or kind.Operand o)
or_word None h = tt
or_word (Some s) h = h

by_form_word : (o : Option Form) (rest : List ℕ) → ReadsWord (by_form o rest)
by_form_word None rest = tt
by_form_word (Some f) rest = or_word (formed f (operands rest)) (formed_word f (operands rest))

worded_word : (text : List ℕ) → ReadsWord (worded text)
worded_word text = by_form_word (form_of (before is_blank text)) (skip_blanks (drop (length (before is_blank text)) text))

choose_word : (b : Bool) (r q : StatementReading) → ReadsWord r → ReadsWord q → ReadsWord (if b then r else q)
choose_word true r q h k = h
choose_word false r q h k = k

defined_word : (back text : List ℕ) → ReadsWord (defined back text)
defined_word back text = grind (arith, nat_tests, worded_word, choose_word)

reading_word : (text : List ℕ) → ReadsWord (reading text)
reading_word [] = tt
reading_word (c ∷ text) = defined_word (reverse (c ∷ text)) (c ∷ text)

pub read_word : (text : List ℕ) (s : Statement) → reading text ≡ Says s → HasWord s
read_word text s e = subst ReadsWord e (reading_word text)
