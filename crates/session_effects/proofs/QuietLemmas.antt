-- Effects without their texts: they commit the same, and print nothing.
use Rattle.std.proofs.Common.{◌≡◌, ◌≢◌, ◌⊎◌, inl, inr, ℕ, ◌++◌, List, [], ◌∷◌, Option, option_map, refl, sym, ap, subst, ◌∙◌, append-nil}
use Rattle.arn_base.specs.declared.disk.Disk.{Ghosts}
use Rattle.arn_base.specs.declared.records.Record.{Record}
use Rattle.log_store.specs.Log.{IsLog}
use Rattle.log_store.specs.Stores.{MayLeaveLog, StoreState}
use Rattle.session_effects.specs.Carrying.{HoldsLog, IsAtRest, HoldsFirst, HoldsAll, Keeps, IsAtCommit, IsInCommit, Stopped, StopsBetween}
use Rattle.session_effects.specs.Effects.{Effect, Commits, Prints, committed, frames_in, printed}
use Rattle.session_effects.specs.Quiet.{quiet}
use Rattle.session_effects.specs.Standing.{Carries}
use Rattle.session_effects.specs.declared.halt.Halt.{Halt}
use Rattle.session_effects.specs.declared.halt.Halt.TheVariants as halt
use Rattle.session_effects.proofs.CarryLemmas.{held-none}
use Rattle.session_effects.proofs.FrameLemmas.{AddsFrames-same}
use Rattle.session_effects.proofs.Moments.{leaves-weaker}

quiet-append : (first others : List Effect) → quiet (first ++ others) ≡ quiet first ++ quiet others
quiet-append [] others = refl
quiet-append (Commits entries ∷ first) others = ap (λ (x : List Effect). Commits entries ∷ x) (quiet-append first others)
quiet-append (Prints text ∷ first) others = quiet-append first others

quiet-committed : (effects : List Effect) → committed (quiet effects) ≡ committed effects
quiet-committed [] = refl
quiet-committed (Commits entries ∷ effects) = ap (λ (x : List Record). entries ++ x) (quiet-committed effects)
quiet-committed (Prints text ∷ effects) = quiet-committed effects

quiet-frames : (effects : List Effect) → frames_in (quiet effects) ≡ frames_in effects
quiet-frames [] = refl
quiet-frames (Commits entries ∷ effects) = ap (λ (x : List (List Record)). entries ∷ x) (quiet-frames effects)
quiet-frames (Prints text ∷ effects) = quiet-frames effects

quiet-printed : (effects : List Effect) → printed (quiet effects) ≡ []
quiet-printed [] = refl
quiet-printed (Commits entries ∷ effects) = quiet-printed effects
quiet-printed (Prints text ∷ effects) = quiet-printed effects

-- the history behind them is the same
same-history : (history : List Record) (effects : List Effect) → history ++ committed effects ≡ history ++ committed (quiet effects)
same-history history effects = ap (λ (x : List Record). history ++ x) (sym (quiet-committed effects))

-- nothing is put behind what was held
held-quiet : (held : Option (List ℕ)) (text : List ℕ) → text ≡ [] → held ≡ option_map (λ before. before ++ text) held
held-quiet held text none = held-none held ∙ ap (λ (x : List ℕ). option_map (λ before. before ++ x) held) (sym none)

-- a log of the first commits is one of the first without texts
HoldsFirst-quiet : (is_run : List Record → Type 0) (history : List Record) (effects : List Effect) (bytes : List ℕ) → HoldsFirst is_run history effects bytes → HoldsFirst is_run history (quiet effects) bytes
HoldsFirst-quiet is_run history effects bytes h =
    let same = same-history history h.first in
    record {
      first = quiet h.first;
      others = quiet h.others;
      are_effects = ap quiet h.are_effects ∙ quiet-append h.first h.others;
      is_log = subst (IsLog bytes) same h.is_log;
      still_run = λ was. subst is_run same (h.still_run was);
      fits = h.fits;
    }

HoldsAll-quiet : (history : List Record) (done next : List Effect) (bytes : List ℕ) → HoldsAll history done next bytes → HoldsAll history (quiet done) (quiet next) bytes
HoldsAll-quiet history done next bytes (inl log) = inl (subst (IsLog bytes) (same-history history done) log)
HoldsAll-quiet history done next bytes (inr log) =
    inr (subst (IsLog bytes) (same-history history (done ++ next) ∙ ap (λ (x : List Effect). history ++ committed x) (quiet-append done next)) log)

-- the next effect that the disk may hold is none or a commit: it has no text
none-quiet : (next : List Effect) → next ≡ [] → quiet next ≡ next
none-quiet next none = ap quiet none ∙ sym none

commit-quiet : (rest next : List Effect) → IsInCommit rest next → quiet next ≡ next
commit-quiet rest next i = ap quiet i.is_next ∙ sym i.is_next

next-quiet : {D : Type 0} (d : Ghosts D) (disk : D) (why : Halt) (rest : List Effect) (put : List ℕ) (next : List Effect) → Stopped d disk why rest put next → quiet next ≡ next
next-quiet d disk halt.Sink rest put next s = none-quiet next s.3
next-quiet d disk halt.Disk rest put next s = commit-quiet rest next s.0
next-quiet d disk (halt.Full log payload) rest put next s = none-quiet next s.3
next-quiet d disk (halt.Differs at) rest put next s = none-quiet next s.1
next-quiet d disk halt.NoMemory rest put next s = elim s.1 [
  | inl none ↦ none-quiet next none
  | inr i ↦ commit-quiet rest next i
]
next-quiet d disk _ rest put next s = absurd s

-- a commit that stands next stands next without the texts behind it
IsAtCommit-quiet : (rest : List Effect) (entries : List Record) → IsAtCommit rest entries → IsAtCommit (quiet rest) entries
IsAtCommit-quiet rest entries i = record { more = quiet i.more; is_commit = ap quiet i.is_commit }

IsInCommit-quiet : (rest next : List Effect) → IsInCommit rest next → IsInCommit (quiet rest) next
IsInCommit-quiet rest next i = record { entries = i.entries; is_at = IsAtCommit-quiet rest i.entries i.is_at; is_next = i.is_next }

Stopped-quiet : {D : Type 0} (d : Ghosts D) (disk : D) (why : Halt) (rest : List Effect) (put : List ℕ) (next : List Effect) → why ≢ halt.Sink → Stopped d disk why rest put next → Stopped d disk why (quiet rest) [] next
Stopped-quiet d disk halt.Sink rest put next not_sink s = absurd (not_sink refl)
Stopped-quiet d disk halt.Disk rest put next not_sink s = (IsInCommit-quiet rest next s.0, refl)
Stopped-quiet d disk (halt.Full log payload) rest put next not_sink s = (s.0, IsAtCommit-quiet rest s.0 s.1, refl, s.3, s.4, s.5, s.6)
Stopped-quiet d disk (halt.Differs at) rest put next not_sink s = (refl, s.1)
Stopped-quiet d disk halt.NoMemory rest put next not_sink s = (inl refl, commit-or-none s.1)
  where
    commit-or-none : (next ≡ []) ⊎ IsInCommit rest next → (next ≡ []) ⊎ IsInCommit (quiet rest) next
    commit-or-none (inl none) = inl none
    commit-or-none (inr i) = inr (IsInCommit-quiet rest next i)
Stopped-quiet d disk _ rest put next not_sink s = s

module _ {D : Type 0} (is_run : List Record → Type 0) (d : Ghosts D) where
  Keeps-quiet : (old new : D) (history : List Record) (done next : List Effect) → quiet next ≡ next → Keeps is_run d old new history done next → Keeps is_run d old new history (quiet done) next
  Keeps-quiet old new history done next same k = record {
    any_moment =
        leaves-weaker d.moment d.left_since old new (HoldsFirst is_run history (done ++ next)) (HoldsFirst is_run history (quiet done ++ next)) k.any_moment
        (λ bytes h. subst (λ (x : List Effect). HoldsFirst is_run history x bytes) (quiet-append done next ∙ ap (λ (x : List Effect). quiet done ++ x) same) (HoldsFirst-quiet is_run history (done ++ next) bytes h));
    now = λ bytes may. subst (λ (x : List Effect). HoldsAll history (quiet done) x bytes) same (HoldsAll-quiet history done next bytes (k.now bytes may));
    may_leave = subst (MayLeaveLog (d.may_leave new)) (same-history history done) k.may_leave;
    still_run = λ was. subst is_run (same-history history done) (k.still_run was);
  }

  pub quiet-carries : (old new : D) (s0 s1 : StoreState) (h0 h1 held : Option (List ℕ)) (effects : List Effect) → Carries is_run d old new s0 s1 h0 h1 effects → Carries is_run d old new s0 s1 held held (quiet effects)
  quiet-carries old new s0 s1 h0 h1 held effects c = record {
    stays_open = c.stays_open;
    entries = c.entries ∙ same-history s0.entries effects;
    out = record {
      put = held-quiet held (printed (quiet effects)) (quiet-printed effects);
      holds_log = λ log. subst (HoldsLog d new) (same-history s0.entries effects) (c.out.holds_log log);
      adds = AddsFrames-same d old new effects (quiet effects) (quiet-frames effects) c.out.adds;
      rests = λ was. subst (IsAtRest d new) (same-history s0.entries effects) (c.out.rests was);
      keeps = λ was. Keeps-quiet old new s0.entries effects [] refl (c.out.keeps was);
    };
  }

  pub quiet-halts : (old new : D) (history : List Record) (h0 h1 held : Option (List ℕ)) (why : Halt) (done undone : List Effect) → why ≢ halt.Sink → StopsBetween is_run d old new history h0 h1 why done undone → StopsBetween is_run d old new history held held why (quiet done) (quiet undone)
  quiet-halts old new history h0 h1 held why done undone not_sink s = record {
    part = [];
    next = s.next;
    stopped = Stopped-quiet d new why undone s.part s.next not_sink s.stopped;
    put = held-quiet held (printed (quiet done) ++ []) (append-nil (printed (quiet done)) ∙ quiet-printed done);
    keeps = λ was. Keeps-quiet old new history done s.next (next-quiet d new why undone s.part s.next s.stopped) (s.keeps was);
    holds_log = λ none log. subst (HoldsLog d new) (same-history history done) (s.holds_log none log);
    adds = λ none. AddsFrames-same d old new done (quiet done) (quiet-frames done) (s.adds none);
    rests = λ none was. subst (IsAtRest d new) (same-history history done) (s.rests none was);
  }
