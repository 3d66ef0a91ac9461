-- Effects that were carried out, one behind the other.
use Rattle.std.proofs.Common.{◌≡◌, ◌⊎◌, inl, inr, ℕ, ◌++◌, List, [], Option, Some, None, option_map, refl, sym, ap, subst, ◌∙◌, append_assoc, append-nil, ◌≢◌}
use Rattle.arn_base.specs.declared.records.Record.{Record}
use Rattle.log_store.specs.Log.{IsLog}
use Rattle.log_store.specs.Stops.{LeavesOnly}
use Rattle.log_store.specs.Stores.{MayLeaveLog}
use Rattle.session_effects.specs.Effects.{Effect, committed, printed}
use Rattle.session_effects.specs.Carrying.{AddsFrames, IsShut, HoldsLog, IsAtRest, HoldsFirst, HoldsAll, HoldsMore, Keeps, CarriesOut, IsInText, IsAtCommit, IsInCommit, Stopped, StopsAt, StopsBetween, RestsMore}
use Rattle.session_effects.specs.declared.halt.Halt.{Halt}
use Rattle.session_effects.specs.declared.halt.Halt.TheVariants as halt
use Rattle.session_effects.proofs.EffectLemmas.{printed-append, history-append}
use Rattle.session_effects.proofs.FrameLemmas.{AddsFrames-append}
use Rattle.session_effects.proofs.Moments.{leaves-weaker, leaves-joined}
use Rattle.arn_base.specs.declared.disk.Disk.{Ghosts}

-- more was put behind what was held
pub held-more : (h0 h1 h2 : Option (List ℕ)) (text more all : List ℕ) → h1 ≡ option_map (λ before. before ++ text) h0 → h2 ≡ option_map (λ before. before ++ more) h1 → text ++ more ≡ all → h2 ≡ option_map (λ before. before ++ all) h0
held-more None h1 h2 text more all p q e = q ∙ ap (λ (o : Option (List ℕ)). option_map (λ before. before ++ more) o) p
held-more (Some x) h1 h2 text more all p q e =
    q ∙ ap (λ (o : Option (List ℕ)). option_map (λ before. before ++ more) o) p ∙ ap (λ (y : List ℕ). Some y) (append_assoc x text more ∙ ap (λ (y : List ℕ). x ++ y) e)

pub held-none : (held : Option (List ℕ)) → held ≡ option_map (λ before. before ++ []) held
held-none None = refl
held-none (Some x) = ap (λ (y : List ℕ). Some y) (sym (append-nil x))

-- the first of fewer effects are the first of more
pub HoldsFirst-before : (is_run : List Record → Type 0) (history : List Record) (some more : List Effect) (bytes : List ℕ) → HoldsFirst is_run history some bytes → HoldsFirst is_run history (some ++ more) bytes
HoldsFirst-before is_run history some more bytes h = record {
  first = h.first;
  others = h.others ++ more;
  are_effects = ap (λ (x : List Effect). x ++ more) h.are_effects ∙ append_assoc h.first h.others more;
  is_log = h.is_log;
  still_run = h.still_run;
  fits = h.fits;
}

-- the first effects behind others
pub HoldsFirst-behind : (is_run : List Record → Type 0) (history : List Record) (done some : List Effect) (bytes : List ℕ) → (is_run history → is_run (history ++ committed done)) → HoldsFirst is_run (history ++ committed done) some bytes → HoldsFirst is_run history (done ++ some) bytes
HoldsFirst-behind is_run history done some bytes run h =
    let all : (history ++ committed done) ++ committed h.first ≡ history ++ committed (done ++ h.first) = history-append history done h.first in
    record {
      first = done ++ h.first;
      others = h.others;
      are_effects = ap (λ (x : List Effect). done ++ x) h.are_effects ∙ sym (append_assoc done h.first h.others);
      is_log = subst (IsLog bytes) all h.is_log;
      still_run = λ was. subst is_run all (h.still_run (run was));
      fits = h.fits;
    }

-- all effects behind others
pub HoldsAll-behind : (history : List Record) (first done next : List Effect) (bytes : List ℕ) → HoldsAll (history ++ committed first) done next bytes → HoldsAll history (first ++ done) next bytes
HoldsAll-behind history first done next bytes (inl log) = inl (subst (IsLog bytes) (history-append history first done) log)
HoldsAll-behind history first done next bytes (inr log) =
    inr (subst (IsLog bytes) (history-append history first (done ++ next) ∙ ap (λ (x : List Effect). history ++ committed x) (sym (append_assoc first done next))) log)

-- what stands next is the same where more follows
IsInText-before : (rest more : List Effect) (put left : List ℕ) → IsInText rest put left → IsInText (rest ++ more) put left
IsInText-before rest more put left i = record { more = i.more ++ more; is_text = ap (λ (x : List Effect). x ++ more) i.is_text }

IsAtCommit-before : (rest more : List Effect) (entries : List Record) → IsAtCommit rest entries → IsAtCommit (rest ++ more) entries
IsAtCommit-before rest more entries i = record { more = i.more ++ more; is_commit = ap (λ (x : List Effect). x ++ more) i.is_commit }

text-before : (rest more : List Effect) (put : List ℕ) → (put ≡ []) ⊎ ((left : List ℕ) × IsInText rest put left) → (put ≡ []) ⊎ ((left : List ℕ) × IsInText (rest ++ more) put left)
text-before rest more put (inl none) = inl none
text-before rest more put (inr i) = inr (i.0, IsInText-before rest more put i.0 i.1)

IsInCommit-before : (rest more next : List Effect) → IsInCommit rest next → IsInCommit (rest ++ more) next
IsInCommit-before rest more next i = record { entries = i.entries; is_at = IsAtCommit-before rest more i.entries i.is_at; is_next = i.is_next }

commit-before : (rest more next : List Effect) → (next ≡ []) ⊎ IsInCommit rest next → (next ≡ []) ⊎ IsInCommit (rest ++ more) next
commit-before rest more next (inl none) = inl none
commit-before rest more next (inr i) = inr (IsInCommit-before rest more next i)

Stopped-before : {D : Type 0} (d : Ghosts D) (disk : D) (why : Halt) (rest more : List Effect) (put : List ℕ) (next : List Effect) → Stopped d disk why rest put next → Stopped d disk why (rest ++ more) put next
Stopped-before d disk halt.Sink rest more put next s = (s.0, IsInText-before rest more put s.0 s.1, s.2, s.3)
Stopped-before d disk halt.Disk rest more put next s = (IsInCommit-before rest more next s.0, s.1)
Stopped-before d disk (halt.Full log payload) rest more put next s = (s.0, IsAtCommit-before rest more s.0 s.1, s.2, s.3, s.4, s.5, s.6)
Stopped-before d disk halt.NoMemory rest more put next s =
    (text-before rest more put s.0, commit-before rest more next s.1)
Stopped-before d disk _ rest more put next s = s

-- nothing is left open but where the disk failed or memory ran out
Stopped-next : {D : Type 0} (d : Ghosts D) (disk : D) (why : Halt) (rest : List Effect) (put : List ℕ) (next : List Effect) → why ≢ halt.Disk → why ≢ halt.NoMemory → Stopped d disk why rest put next → next ≡ []
Stopped-next d disk halt.Sink rest put next not_disk not_memory s = s.3
Stopped-next d disk halt.Disk rest put next not_disk not_memory s = absurd (not_disk refl)
Stopped-next d disk (halt.Full log payload) rest put next not_disk not_memory s = s.3
Stopped-next d disk (halt.Differs at) rest put next not_disk not_memory s = s.1
Stopped-next d disk halt.NoMemory rest put next not_disk not_memory s = absurd (not_memory refl)
Stopped-next d disk _ rest put next not_disk not_memory s = absurd s

module _ {D : Type 0} (is_run : List Record → Type 0) (d : Ghosts D) where
  -- one run of effects behind another
  pub Keeps-append : (old mid new : D) (history : List Record) (first done next : List Effect) → Keeps is_run d old mid history first [] → Keeps is_run d mid new (history ++ committed first) done next → Keeps is_run d old new history (first ++ done) next
  Keeps-append old mid new history first done next a b = record {
    any_moment =
        leaves-joined d.moment d.left_since old mid new (HoldsFirst is_run history (first ++ [])) (HoldsFirst is_run (history ++ committed first) (done ++ next)) (HoldsFirst is_run history ((first ++ done) ++ next)) a.any_moment b.any_moment
        (λ bytes h. subst (λ (x : List Effect). HoldsFirst is_run history x bytes) (sym (append_assoc first done next)) (HoldsFirst-before is_run history first (done ++ next) bytes (subst (λ (x : List Effect). HoldsFirst is_run history x bytes) (append-nil first) h)))
        (λ bytes h. subst (λ (x : List Effect). HoldsFirst is_run history x bytes) (sym (append_assoc first done next)) (HoldsFirst-behind is_run history first (done ++ next) bytes a.still_run h));
    now = λ bytes may. HoldsAll-behind history first done next bytes (b.now bytes may);
    may_leave = subst (MayLeaveLog (d.may_leave new)) (history-append history first done) b.may_leave;
    still_run = λ was. subst is_run (history-append history first done) (b.still_run (a.still_run was));
  }

  pub CarriesOut-append : (old mid new : D) (history : List Record) (h0 h1 h2 : Option (List ℕ)) (first others : List Effect) → CarriesOut is_run d old mid history h0 h1 first → CarriesOut is_run d mid new (history ++ committed first) h1 h2 others → CarriesOut is_run d old new history h0 h2 (first ++ others)
  CarriesOut-append old mid new history h0 h1 h2 first others a b = record {
    put = held-more h0 h1 h2 _ _ _ a.put b.put (sym (printed-append first others));
    holds_log = λ log. subst (HoldsLog d new) (history-append history first others) (b.holds_log (a.holds_log log));
    adds = AddsFrames-append d old mid new first others a.adds b.adds;
    rests = λ was. subst (IsAtRest d new) (history-append history first others) (b.rests (a.rests was));
    keeps = λ was. Keeps-append old mid new history first others [] (a.keeps was) (b.keeps (a.rests was));
  }

  -- effects that stop behind others
  pub StopsAt-behind : (old mid new : D) (history : List Record) (h0 h1 h2 : Option (List ℕ)) (why : Halt) (first some rest : List Effect) → CarriesOut is_run d old mid history h0 h1 first → StopsAt is_run d mid new (history ++ committed first) h1 h2 why some rest → StopsAt is_run d old new history h0 h2 why (first ++ some) rest
  StopsAt-behind old mid new history h0 h1 h2 why first some rest a b = record {
    done = b.done;
    undone = b.undone;
    are_rest = b.are_rest;
    part = b.part;
    next = b.next;
    stopped = b.stopped;
    put =
        held-more h0 h1 h2 _ _ _ a.put b.put
        (sym (append_assoc (printed first) (printed (some ++ b.done)) b.part) ∙ ap (λ (x : List ℕ). x ++ b.part) (sym (printed-append first (some ++ b.done)) ∙ ap printed (sym (append_assoc first some b.done))));
    keeps = λ was. subst (λ (x : List Effect). Keeps is_run d old new history x b.next) (sym (append_assoc first some b.done)) (Keeps-append old mid new history first (some ++ b.done) b.next (a.keeps was) (b.keeps (a.rests was)));
    holds_log = λ none log. subst (HoldsLog d new) (history-append history first (some ++ b.done) ∙ ap (λ (x : List Effect). history ++ committed x) (sym (append_assoc first some b.done))) (b.holds_log none (a.holds_log log));
    adds = λ none. subst (AddsFrames d old new) (sym (append_assoc first some b.done)) (AddsFrames-append d old mid new first (some ++ b.done) a.adds (b.adds none));
    rests = λ none was. subst (IsAtRest d new) (history-append history first (some ++ b.done) ∙ ap (λ (x : List Effect). history ++ committed x) (sym (append_assoc first some b.done))) (b.rests none (a.rests was));
  }

  -- effects of which the first were said to be done are among the others
  pub StopsAt-among : (old new : D) (history : List Record) (h0 h1 : Option (List ℕ)) (why : Halt) (first some rest : List Effect) → StopsAt is_run d old new history h0 h1 why (first ++ some) rest → StopsAt is_run d old new history h0 h1 why first (some ++ rest)
  StopsAt-among old new history h0 h1 why first some rest s = record {
    done = some ++ s.done;
    undone = s.undone;
    are_rest = ap (λ (x : List Effect). some ++ x) s.are_rest ∙ sym (append_assoc some s.done s.undone);
    part = s.part;
    next = s.next;
    stopped = s.stopped;
    put = s.put ∙ ap (λ (x : List Effect). option_map (λ before. before ++ (printed x ++ s.part)) h0) (append_assoc first some s.done);
    keeps = λ was. subst (λ (x : List Effect). Keeps is_run d old new history x s.next) (append_assoc first some s.done) (s.keeps was);
    holds_log = λ none log. subst (λ (x : List Effect). HoldsLog d new (history ++ committed x)) (append_assoc first some s.done) (s.holds_log none log);
    adds = λ none. subst (AddsFrames d old new) (append_assoc first some s.done) (s.adds none);
    rests = λ none was. subst (λ (x : List Effect). IsAtRest d new (history ++ committed x)) (append_assoc first some s.done) (s.rests none was);
  }

  -- effects that stop before others
  pub StopsAt-before : (old new : D) (history : List Record) (h0 h1 : Option (List ℕ)) (why : Halt) (first rest more : List Effect) → StopsAt is_run d old new history h0 h1 why first rest → StopsAt is_run d old new history h0 h1 why first (rest ++ more)
  StopsAt-before old new history h0 h1 why first rest more s = record {
    done = s.done;
    undone = s.undone ++ more;
    are_rest = ap (λ (x : List Effect). x ++ more) s.are_rest ∙ append_assoc s.done s.undone more;
    part = s.part;
    next = s.next;
    stopped = Stopped-before d new why s.undone more s.part s.next s.stopped;
    put = s.put;
    keeps = s.keeps;
    holds_log = s.holds_log;
    adds = s.adds;
    rests = s.rests;
  }

  -- more effects, on the history that the first ones left
  pub CarriesOut-then : (old mid new : D) (history there : List Record) (h0 h1 h2 : Option (List ℕ)) (first more : List Effect) → there ≡ history ++ committed first → CarriesOut is_run d old mid history h0 h1 first → CarriesOut is_run d mid new there h1 h2 more → CarriesOut is_run d old new history h0 h2 (first ++ more)
  CarriesOut-then old mid new history there h0 h1 h2 first more is a b =
      CarriesOut-append old mid new history h0 h1 h2 first more a (subst (λ (x : List Record). CarriesOut is_run d mid new x h1 h2 more) is b)

  pub StopsAt-then : (old mid new : D) (history there : List Record) (h0 h1 h2 : Option (List ℕ)) (why : Halt) (first rest : List Effect) → there ≡ history ++ committed first → CarriesOut is_run d old mid history h0 h1 first → StopsAt is_run d mid new there h1 h2 why [] rest → StopsAt is_run d old new history h0 h2 why first rest
  StopsAt-then old mid new history there h0 h1 h2 why first rest is a b =
      subst (λ (x : List Effect). StopsAt is_run d old new history h0 h2 why x rest) (append-nil first)
      (StopsAt-behind old mid new history h0 h1 h2 why first [] rest a (subst (λ (x : List Record). StopsAt is_run d mid new x h1 h2 why [] rest) is b))

  -- where effects stopped, with what was done of them
  pub stops-of : (old new : D) (history : List Record) (h0 h1 : Option (List ℕ)) (why : Halt) (done undone : List Effect) → StopsBetween is_run d old new history h0 h1 why done undone → StopsAt is_run d old new history h0 h1 why [] (done ++ undone)
  stops-of old new history h0 h1 why done undone s = record {
    done = done;
    undone = undone;
    are_rest = refl;
    part = s.part;
    next = s.next;
    stopped = s.stopped;
    put = s.put;
    keeps = s.keeps;
    holds_log = s.holds_log;
    adds = s.adds;
    rests = s.rests;
  }

  halts-after : (old mid new : D) (history : List Record) (h0 h1 h2 : Option (List ℕ)) (why : Halt) (first done undone : List Effect) → CarriesOut is_run d old mid history h0 h1 first → StopsBetween is_run d mid new (history ++ committed first) h1 h2 why done undone → StopsBetween is_run d old new history h0 h2 why (first ++ done) undone
  halts-after old mid new history h0 h1 h2 why first done undone a b = record {
    part = b.part;
    next = b.next;
    stopped = b.stopped;
    put = held-more h0 h1 h2 _ _ _ a.put b.put (sym (append_assoc (printed first) (printed done) b.part) ∙ ap (λ (x : List ℕ). x ++ b.part) (sym (printed-append first done)));
    keeps = λ was. Keeps-append old mid new history first done b.next (a.keeps was) (b.keeps (a.rests was));
    holds_log = λ none log. subst (HoldsLog d new) (history-append history first done) (b.holds_log none (a.holds_log log));
    adds = λ none. AddsFrames-append d old mid new first done a.adds (b.adds none);
    rests = λ none was. subst (IsAtRest d new) (history-append history first done) (b.rests none (a.rests was));
  }

  pub halts-behind : (old mid new : D) (history there : List Record) (h0 h1 h2 : Option (List ℕ)) (why : Halt) (first done undone : List Effect) → there ≡ history ++ committed first → CarriesOut is_run d old mid history h0 h1 first → StopsBetween is_run d mid new there h1 h2 why done undone → StopsBetween is_run d old new history h0 h2 why (first ++ done) undone
  halts-behind old mid new history there h0 h1 h2 why first done undone is a b =
      halts-after old mid new history h0 h1 h2 why first done undone a (subst (λ (x : List Record). StopsBetween is_run d mid new x h1 h2 why done undone) is b)

  pub halts-before : (old new : D) (history : List Record) (h0 h1 : Option (List ℕ)) (why : Halt) (done undone more : List Effect) → StopsBetween is_run d old new history h0 h1 why done undone → StopsBetween is_run d old new history h0 h1 why done (undone ++ more)
  halts-before old new history h0 h1 why done undone more s = record {
    part = s.part;
    next = s.next;
    stopped = Stopped-before d new why undone more s.part s.next s.stopped;
    put = s.put;
    keeps = s.keeps;
    holds_log = s.holds_log;
    adds = s.adds;
    rests = s.rests;
  }

  -- a stop at any moment leaves the history and more
  moments_more : (old new : D) (history : List Record) (effects : List Effect) → LeavesOnly d.moment d.left_since old new (HoldsFirst is_run history effects) → LeavesOnly d.moment d.left_since old new (HoldsMore is_run history)
  moments_more old new history effects left =
      leaves-weaker d.moment d.left_since old new (HoldsFirst is_run history effects) (HoldsMore is_run history) left (λ bytes h. record { more = committed h.first; is_log = h.is_log; still_run = h.still_run; fits = h.fits })

  pub CarriesOut-moments : (old new : D) (history : List Record) (h0 h1 : Option (List ℕ)) (effects : List Effect) → CarriesOut is_run d old new history h0 h1 effects → IsAtRest d old history → LeavesOnly d.moment d.left_since old new (HoldsMore is_run history)
  CarriesOut-moments old new history h0 h1 effects c rest = moments_more old new history (effects ++ []) (c.keeps rest).any_moment

  pub StopsAt-moments : (old new : D) (history : List Record) (h0 h1 : Option (List ℕ)) (why : Halt) (first rest : List Effect) → StopsAt is_run d old new history h0 h1 why first rest → IsAtRest d old history → LeavesOnly d.moment d.left_since old new (HoldsMore is_run history)
  StopsAt-moments old new history h0 h1 why first rest s was = moments_more old new history ((first ++ s.done) ++ s.next) (s.keeps was).any_moment

  -- the disk is at rest again
  pub CarriesOut-rests : (old new : D) (history : List Record) (h0 h1 : Option (List ℕ)) (effects : List Effect) → CarriesOut is_run d old new history h0 h1 effects → IsAtRest d old history → RestsMore d new history
  CarriesOut-rests old new history h0 h1 effects c was = record { more = committed effects; at_rest = c.rests was }

  pub StopsAt-shuts : (old new : D) (history : List Record) (h0 h1 : Option (List ℕ)) (why : Halt) (first rest : List Effect) → StopsAt is_run d old new history h0 h1 why first rest → why ≢ halt.Disk → why ≢ halt.NoMemory → IsShut d old → IsShut d new
  StopsAt-shuts old new history h0 h1 why first rest s not_disk not_memory =
      (s.adds (Stopped-next d new why s.undone s.part s.next not_disk not_memory s.stopped)).shut

  pub StopsAt-rests : (old new : D) (history : List Record) (h0 h1 : Option (List ℕ)) (why : Halt) (first rest : List Effect) → StopsAt is_run d old new history h0 h1 why first rest → why ≢ halt.Disk → why ≢ halt.NoMemory → IsAtRest d old history → RestsMore d new history
  StopsAt-rests old new history h0 h1 why first rest s not_disk not_memory was =
      record { more = committed (first ++ s.done); at_rest = s.rests (Stopped-next d new why s.undone s.part s.next not_disk not_memory s.stopped) was }
