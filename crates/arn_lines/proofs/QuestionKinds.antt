-- A line that asks a question asks one.
use Rattle.std.proofs.Common.{◌≡◌, ℕ, ◌==◌, List, [], ◌∷◌, ◌++◌, get_or, drop, codes, refl, sym, ap, subst, ◌∙◌, if◌then◌else◌}
use Rattle.rv64_model.specs.declared.linkage.Linkage.{Linkage}
use Rattle.rv64_model.specs.declared.linkage.Linkage.TheVariants.{Copy, Data, Index}
use Rattle.arn_lines.specs.declared.line.Aspect.{Aspect}
use Rattle.arn_lines.specs.declared.line.Question.{Question}
use Rattle.arn_lines.specs.declared.line.Question.TheVariants as question
use Rattle.arn_lines.specs.declared.line.Sought.{Sought}
use Rattle.arn_lines.specs.Pieces.{AsksNothing, IsFirstWord}
use Rattle.arn_lines.specs.Questions.{AreNumbers, IsAspect, IsBack, IsForth, IsLinkage, IsNumberAnd, IsQuestion, IsShow, IsSought}
use Rattle.arn_lines.specs.Words.{space}
use Rattle.arn_lines.proofs.Asks.{IsAspect-same, IsSought-same, apart}
use Rattle.arn_lines.proofs.FirstWords.{IsFirstWord-same, no_space-IsLinkage}
use Rattle.arn_lines.proofs.Lists.{AreNumbers-same, IsNumberAnd-same}

-- which keyword a text begins with tells what kind of question it asks
pub data QuestionKind : Type 0 where
  AsksShow : QuestionKind
  AsksBack : QuestionKind
  AsksForth : QuestionKind
  AsksGroups : QuestionKind
  AsksEvents : QuestionKind
  AsksVerify : QuestionKind

abbrev pub question_kind : List ℕ → QuestionKind
question_kind text =
    if get_or text 0 0 == 115 then AsksShow
    else if get_or text 0 0 == 98 then AsksBack
    else if get_or text 0 0 == 102 then AsksForth
    else if get_or text 0 0 == 103 then AsksGroups
    else if get_or text 0 0 == 101 then AsksEvents
    else AsksVerify

abbrev pub IsQuestionOf : QuestionKind → List ℕ → Question → Type 0
IsQuestionOf AsksShow text q = (moment : ℕ) × (shown : Aspect) × (q ≡ question.Show moment shown) × IsShow text moment shown
IsQuestionOf AsksBack text q = (linkage : Linkage) × (bytes : Sought) × (q ≡ question.Back linkage bytes) × IsBack text linkage bytes
IsQuestionOf AsksForth text q =
    (linkage : Linkage) × (event : ℕ) × (from : ℕ) × (len : ℕ) × (q ≡ question.Forth linkage event from len) × IsForth text linkage event from len
IsQuestionOf AsksGroups text q = (q ≡ question.Groups) × (text ≡ codes "groups")
IsQuestionOf AsksEvents text q = (q ≡ question.Events) × (text ≡ codes "events")
IsQuestionOf AsksVerify text q = (q ≡ question.Verify) × (text ≡ codes "verify")

pub IsQuestion-kind : (text : List ℕ) (q : Question) → IsQuestion text q → IsQuestionOf (question_kind text) text q
IsQuestion-kind text (question.Show moment shown) h =
    subst (λ xs. IsQuestionOf (question_kind xs) text (question.Show moment shown)) (sym h.is_text) (moment, shown, refl, h)
IsQuestion-kind text (question.Back linkage bytes) h =
    subst (λ xs. IsQuestionOf (question_kind xs) text (question.Back linkage bytes)) (sym h.is_text) (linkage, bytes, refl, h)
IsQuestion-kind text (question.Forth linkage event from len) h =
    subst (λ xs. IsQuestionOf (question_kind xs) text (question.Forth linkage event from len)) (sym h.is_text) (linkage, event, from, len, refl, h)
IsQuestion-kind text e h = subst (λ xs. IsQuestionOf (question_kind xs) text e) (sym h) (refl, h)

-- the words of a `show` line
pub IsShow-parts : (text rest : List ℕ) (m n : ℕ) (shown : Aspect) → IsNumberAnd text m rest → IsShow (codes "show " ++ text) n shown
    → (m ≡ n) × IsAspect rest shown
IsShow-parts text rest m n shown lead show =
    let front : IsNumberAnd text n show.aspect_text = record { number = show.moment_text; is_number = show.is_moment; is_text = ap (drop 5) show.is_text } in
    let same = IsNumberAnd-same text m n rest show.aspect_text lead front in
    (same.0, subst (λ xs. IsAspect xs shown) same.1 show.is_aspect)

-- the words of a `back` line
pub IsBack-parts : (text word rest : List ℕ) (linkage : Linkage) (bytes : Sought) → IsFirstWord text word rest
    → IsBack (codes "back " ++ text) linkage bytes → IsLinkage word linkage × IsSought rest bytes
IsBack-parts text word rest linkage bytes first back =
    let said : text ≡ back.linkage_text ++ space ++ back.sought_text = ap (drop 5) back.is_text in
    let same = IsFirstWord-same text word rest back.linkage_text back.sought_text first (no_space-IsLinkage back.linkage_text linkage back.is_linkage) said in
    (subst (λ xs. IsLinkage xs linkage) same.0 back.is_linkage, subst (λ xs. IsSought xs bytes) same.1 back.is_sought)

-- the words of a `forth` line
pub IsForth-parts : (text word rest : List ℕ) (linkage : Linkage) (event from len : ℕ) → IsFirstWord text word rest
    → IsForth (codes "forth " ++ text) linkage event from len
    → IsLinkage word linkage × AreNumbers rest (event ∷ from ∷ len ∷ [])
IsForth-parts text word rest linkage event from len first forth =
    let said : text ≡ forth.linkage_text ++ space ++ forth.numbers = ap (drop 6) forth.is_text in
    let same = IsFirstWord-same text word rest forth.linkage_text forth.numbers first (no_space-IsLinkage forth.linkage_text linkage forth.is_linkage) said in (
      subst (λ xs. IsLinkage xs linkage) same.0 forth.is_linkage,
      subst (λ xs. AreNumbers xs (event ∷ from ∷ len ∷ [])) same.1 forth.are_numbers,
    )

IsLinkage-same : (word : List ℕ) (a b : Linkage) → IsLinkage word a → IsLinkage word b → a ≡ b
IsLinkage-same word Copy Data is too = absurd (apart (codes "copy") (codes "data") 0 refl (sym is ∙ too))
IsLinkage-same word Copy Index is too = absurd (apart (codes "copy") (codes "index") 0 refl (sym is ∙ too))
IsLinkage-same word Data Copy is too = absurd (apart (codes "data") (codes "copy") 0 refl (sym is ∙ too))
IsLinkage-same word Data Index is too = absurd (apart (codes "data") (codes "index") 0 refl (sym is ∙ too))
IsLinkage-same word Index Copy is too = absurd (apart (codes "index") (codes "copy") 0 refl (sym is ∙ too))
IsLinkage-same word Index Data is too = absurd (apart (codes "index") (codes "data") 0 refl (sym is ∙ too))
IsLinkage-same word _ _ is too = refl

IsShow-same : (text : List ℕ) (m n : ℕ) (a b : Aspect) → IsShow text m a → IsShow text n b → (m ≡ n) × (a ≡ b)
IsShow-same text m n a b h k =
    let said = h.moment_text ++ space ++ h.aspect_text in
    let lead : IsNumberAnd said m h.aspect_text = record { number = h.moment_text; is_number = h.is_moment; is_text = refl } in
    let parts = IsShow-parts said h.aspect_text m n b lead (subst (λ t. IsShow t n b) h.is_text k) in
    (parts.0, IsAspect-same h.aspect_text a b h.is_aspect parts.1)

IsBack-same : (text : List ℕ) (l m : Linkage) (a b : Sought) → IsBack text l a → IsBack text m b → (l ≡ m) × (a ≡ b)
IsBack-same text l m a b h k =
    let said = h.linkage_text ++ space ++ h.sought_text in
    let first : IsFirstWord said h.linkage_text h.sought_text =
    record { is_text = refl; no_space = no_space-IsLinkage h.linkage_text l h.is_linkage } in
    let parts = IsBack-parts said h.linkage_text h.sought_text m b first (subst (λ t. IsBack t m b) h.is_text k) in
    (IsLinkage-same h.linkage_text l m h.is_linkage parts.0, IsSought-same h.sought_text a b h.is_sought parts.1)

IsForth-same : (text : List ℕ) (l m : Linkage) (a b c d e f : ℕ) → IsForth text l a b c → IsForth text m d e f
    → (l ≡ m) × (a ∷ b ∷ c ∷ [] ≡ d ∷ e ∷ f ∷ [])
IsForth-same text l m a b c d e f h k =
    let said = h.linkage_text ++ space ++ h.numbers in
    let first : IsFirstWord said h.linkage_text h.numbers =
    record { is_text = refl; no_space = no_space-IsLinkage h.linkage_text l h.is_linkage } in
    let parts = IsForth-parts said h.linkage_text h.numbers m d e f first (subst (λ t. IsForth t m d e f) h.is_text k) in
    (IsLinkage-same h.linkage_text l m h.is_linkage parts.0, AreNumbers-same h.numbers (a ∷ b ∷ c ∷ []) (d ∷ e ∷ f ∷ []) refl h.are_numbers parts.1)

IsQuestionOf-same : (kind : QuestionKind) (text : List ℕ) (a b : Question) → IsQuestionOf kind text a → IsQuestionOf kind text b → a ≡ b
IsQuestionOf-same AsksShow text a b h k =
    let same = IsShow-same text h.0 k.0 h.1 k.1 h.3 k.3 in
    cc (h.2, k.2, same.0, same.1)
IsQuestionOf-same AsksBack text a b h k =
    let same = IsBack-same text h.0 k.0 h.1 k.1 h.3 k.3 in
    cc (h.2, k.2, same.0, same.1)
IsQuestionOf-same AsksForth text a b h k =
    let same = IsForth-same text h.0 k.0 h.1 h.2 h.3 k.1 k.2 k.3 h.5 k.5 in
    cc (h.4, k.4, same.0, same.1)
IsQuestionOf-same _ text a b h k = h.0 ∙ sym k.0

pub IsQuestion-same : (text : List ℕ) (a b : Question) → IsQuestion text a → IsQuestion text b → a ≡ b
IsQuestion-same text a b h k = IsQuestionOf-same (question_kind text) text a b (IsQuestion-kind text a h) (IsQuestion-kind text b k)

pub no_show : (text : List ℕ) → ((moment : ℕ) (shown : Aspect) → ¬ IsShow (codes "show " ++ text) moment shown)
    → AsksNothing (codes "show " ++ text)
no_show text none q h =
    let only : IsQuestionOf AsksShow (codes "show " ++ text) q = IsQuestion-kind (codes "show " ++ text) q h in
    none only.0 only.1 only.3

pub no_back : (text : List ℕ) → ((linkage : Linkage) (bytes : Sought) → ¬ IsBack (codes "back " ++ text) linkage bytes)
    → AsksNothing (codes "back " ++ text)
no_back text none q h =
    let only : IsQuestionOf AsksBack (codes "back " ++ text) q = IsQuestion-kind (codes "back " ++ text) q h in
    none only.0 only.1 only.3

pub no_forth : (text : List ℕ)
    → ((linkage : Linkage) (event from len : ℕ) → ¬ IsForth (codes "forth " ++ text) linkage event from len)
    → AsksNothing (codes "forth " ++ text)
no_forth text none q h =
    let only : IsQuestionOf AsksForth (codes "forth " ++ text) q = IsQuestion-kind (codes "forth " ++ text) q h in
    none only.0 only.1 only.2 only.3 only.5

-- a text behind `show ` begins with the moment
pub IsShow-moment : (text : List ℕ) (moment : ℕ) (shown : Aspect) → IsShow (codes "show " ++ text) moment shown
    → (rest : List ℕ) × IsNumberAnd text moment rest
IsShow-moment text moment shown show =
    (show.aspect_text, record { number = show.moment_text; is_number = show.is_moment; is_text = ap (drop 5) show.is_text })
