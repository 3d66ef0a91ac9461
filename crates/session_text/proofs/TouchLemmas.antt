-- Which devices are there behind touches.
use Rattle.std.proofs.Common.{◌≡◌, ℕ, ◌++◌, Bool, true, false, List, [], ◌∷◌, length, refl, sym, ap, ◌∙◌, arith}
use Rattle.std.specs.Prelude.{◌&&◌, ◌==◌, ◌||◌, not}
use Rattle.std.specs.List.{list_any}
use Rattle.std.proofs.lemmas.List.Elements.{filter_map-append}
use Rattle.std.proofs.lemmas.List.Folds.{list_any-append}
use Rattle.arn_base.specs.declared.records.Record.{Record}
use Rattle.parts_model.specs.Replies.{Answered}
use Rattle.guest_devices.specs.Answers.{Asked}
use Rattle.guest_legs.specs.Legs.{Picked}
use Rattle.session_effects.specs.Effects.{Effect, committed}
use Rattle.session_runs.specs.Touches.{Answering, Touch, AtSlice, AtUnplug, TouchedBy, asks_in, unplugs_in}
use Rattle.history_model.specs.Unplugged.{is_gone, unplugged_by, unplugged_in}
use Rattle.session_text.specs.Gone.{GoneBefore, WereSpared}
use Rattle.session_text.proofs.ReplyLemmas.{RepliesIn-stays}

-- a device is one of these
abbrev is_one : List ℕ → ℕ → Bool
is_one devices n = list_any (λ m. m == n) devices

-- what a history didn't unplug is there where it was at first
abbrev pub StandAs : {A : Type 0} → Answering A → (ℕ → Bool) → List Record → A → Type 0
StandAs who filled history now = (n : ℕ) → is_gone history n ≡ false → who.filled now n ≡ filled n

pub unplugged-append : (entries more : List Record) → unplugged_in (entries ++ more) ≡ unplugged_in entries ++ unplugged_in more
unplugged-append entries more = filter_map-append unplugged_by entries more

-- which devices are there behind an answer, and behind an unplugging
pub record Keeps {A : Type 0} (who : Answering A) : Type 0 where
  pub keeps : (old new : A) (asked : Asked) (answer : Answered) → who.answers old asked answer new → (n : ℕ) → who.filled new n ≡ who.filled old n
  pub drops : (old new : A) (m : ℕ) → who.unplugs m old new → (n : ℕ) → who.filled new n ≡ (who.filled old n && not (m == n))

pub and-true : (a : Bool) → (a && not false) ≡ a
and-true true = refl
and-true false = refl

-- unplugged by the first, or by the others
and-not : (a b c : Bool) → ((a && not b) && not c) ≡ (a && not (b || c))
and-not true true c = refl
and-not true false c = refl
and-not false b c = refl

or-parts : (a b : Bool) → (a || b) ≡ false → (a ≡ false) × (b ≡ false)
or-parts true b is = absurd cc
or-parts false b is = (refl, is)

-- a device is there behind touches, if it was and wasn't unplugged
filled-after : {A : Type 0} (who : Answering A) → Keeps who → (n : ℕ) (touches : List Touch) (slices : List Picked) (old new : A) → TouchedBy who touches slices old new → who.filled new n ≡ (who.filled old n && not (is_one (unplugs_in touches) n))
filled-after {A} who k n [] slices old new h = ap (λ (x : A). who.filled x n) h.1 ∙ sym (and-true (who.filled old n))
filled-after who k n (AtUnplug m ∷ touches) slices old new h =
    filled-after who k n touches slices h.0 new h.2
    ∙ ap (λ (x : Bool). x && not (is_one (unplugs_in touches) n)) (k.drops old h.0 m h.1 n)
    ∙ and-not (who.filled old n) (m == n) (is_one (unplugs_in touches) n)
filled-after who k n (AtSlice ask ∷ touches) [] old new h = absurd h
filled-after who k n (AtSlice ask ∷ touches) (s ∷ slices) old new h =
    filled-after who k n touches slices h.0 new h.2
    ∙ ap (λ (x : Bool). x && not (is_one (unplugs_in touches) n))
    (RepliesIn-stays who.answers (λ a. who.filled a n) (λ a asked answer a' p. k.keeps a a' asked answer p n) s.pick.count s.pick.pid ask.machine s.reply old h.0 h.1)

-- those who answer, by touches that were made and ask for nothing that is gone
pub spared-so : {A : Type 0} (who : Answering A) → Keeps who → (gone : List ℕ) (touches : List Touch) (slices : List Picked) (old new : A) → TouchedBy who touches slices old new → GoneBefore gone touches → WereSpared who gone old new
spared-so who k gone touches slices old new touched spared = record {
  were = record {
    touches = touches;
    slices = slices;
    touched = touched;
    filled = λ device. filled-after who k device touches slices old new touched;
  };
  spared = spared;
}

-- each slice was asked for
pub touched-many : {A : Type 0} (who : Answering A) (touches : List Touch) (slices : List Picked) (old new : A) → TouchedBy who touches slices old new → length (asks_in touches) ≡ length slices
touched-many who [] slices old new h = sym (ap (λ (x : List Picked). length x) h.0)
touched-many who (AtUnplug n ∷ touches) slices old new h = touched-many who touches slices h.0 new h.2
touched-many who (AtSlice ask ∷ touches) [] old new h = absurd h
touched-many who (AtSlice ask ∷ touches) (s ∷ slices) old new h = omega (arith, touched-many who touches slices h.0 new h.2)

-- they stand as the history says, and still do behind touches whose records it has too
pub stand-after : {A : Type 0} (who : Answering A) → Keeps who → (filled : ℕ → Bool) (history there : List Record) (effects : List Effect) (touches : List Touch) (slices : List Picked) (old new : A) → there ≡ history ++ committed effects → unplugged_in (committed effects) ≡ unplugs_in touches → TouchedBy who touches slices old new → StandAs who filled history old → StandAs who filled there new
stand-after who k filled history there effects touches slices old new are unplugs touched stand = λ n is.
    let all : is_gone there n ≡ (is_gone history n || is_one (unplugs_in touches) n) =
    ap (λ (h : List Record). is_gone h n) are
    ∙ ap (λ (l : List ℕ). is_one l n) (unplugged-append history (committed effects))
    ∙ list_any-append (λ (m : ℕ). m == n) (unplugged_in history) (unplugged_in (committed effects))
    ∙ ap (λ (l : List ℕ). is_gone history n || is_one l n) unplugs in
    let parts = or-parts (is_gone history n) (is_one (unplugs_in touches) n) (sym all ∙ is) in
    filled-after who k n touches slices old new touched
    ∙ ap (λ (b : Bool). who.filled old n && not b) parts.1
    ∙ and-true (who.filled old n)
    ∙ stand n parts.0
