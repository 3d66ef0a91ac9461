-- Which halt or which refusal a status is of.
use Rattle.std.proofs.Common.{◌≡◌, ◌⊎◌, ◌+◌, ◌<◌, ℕ, Option, None, Some, Result, inl, inr, length, refl, subst, sym, ap, ◌∙◌}
use Rattle.std.specs.Result.{IsErrOf}
use Rattle.log_store.specs.Causes.{BlamesBytes}
use Rattle.log_store.specs.Log.{log_name}
use Rattle.log_store.specs.declared.size.TheConstants.{MOST_LOG}
use Rattle.log_store.specs.declared.errors.OpenError.{OpenError}
use Rattle.log_store.specs.declared.errors.OpenError.TheVariants as opening
use Rattle.arn_session.specs.Status.{NumbersHold, status_of, open_status_of}
use Rattle.arn_session.specs.declared.status.Status.{Status}
use Rattle.arn_session.specs.declared.status.Status.TheVariants as status
use Rattle.arn_session.specs.declared.status.Damage.{Damage}
use Rattle.arn_session.specs.declared.status.Damage.TheVariants as damage
use Rattle.session_effects.specs.declared.halt.Halt.{Halt}
use Rattle.session_effects.specs.declared.halt.Halt.TheVariants as halt

-- the halt of a status, if there is one
abbrev pub halt_for : Status → Option Halt
halt_for status.Disk = Some halt.Disk
halt_for (status.Damaged (damage.Differs d)) = Some (halt.Differs d)
halt_for status.NoMemory = Some halt.NoMemory
halt_for status.Source = Some halt.Source
halt_for status.Sink = Some halt.Sink
halt_for (status.Full log payload) = Some (halt.Full log payload)
halt_for status.Long = Some halt.Long
halt_for _ = None

halt_for-status : (why : Halt) → halt_for (status_of why) ≡ Some why
halt_for-status halt.NoMemory = refl
halt_for-status _ = refl

-- a status that comes of a halt comes of this one
pub halt-is : (why : Halt) (s : Status) (h : Halt) → s ≡ status_of why → halt_for s ≡ Some h → why ≡ h
halt-is why s h is for =
    let same : Some why ≡ Some h = sym (ap halt_for is ∙ halt_for-status why) ∙ for in
    cc same

-- the refusal of a status, if there is one
abbrev pub error_for : Status → Option OpenError
error_for status.Disk = Some opening.Disk
error_for (status.Damaged (damage.TooLong len)) = Some (opening.TooLong len)
error_for (status.Damaged (damage.NotLog at)) = Some (opening.NotLog at)
error_for (status.Damaged (damage.Malformed at)) = Some (opening.Malformed at)
error_for status.NoMemory = Some opening.NoMemory
error_for _ = None

error_for-status : (error : OpenError) → error_for (open_status_of error) ≡ Some error
error_for-status (opening.TooLong len) = refl
error_for-status _ = refl

pub error-is : (error : OpenError) (s : Status) (e : OpenError) → s ≡ open_status_of error → error_for s ≡ Some e → error ≡ e
error-is error s e is for =
    let same : Some error ≡ Some e = sym (ap error_for is ∙ error_for-status error) ∙ for in
    cc same

-- two refusals with one status are one
pub same-error : (a b : OpenError) → open_status_of a ≡ open_status_of b → a ≡ b
same-error a b is = error-is a (open_status_of b) b (sym is) (error_for-status b)

-- two places at which records can't stand are one
pub broken-is : (a b : ℕ) → status.Damaged (damage.Broken a) ≡ status.Damaged (damage.Broken b) → a ≡ b
broken-is a b is = cc is

-- the numbers of a halt's status hold where a full log has no room
numbers-at : (why : Halt) → ((log payload : ℕ) → why ≡ halt.Full log payload → MOST_LOG < log + 5 + payload) → NumbersHold (status_of why)
numbers-at (halt.Full log payload) full = full log payload refl
numbers-at _ full = tt

pub numbers-of : (why : Halt) (s : Status) → s ≡ status_of why → ((log payload : ℕ) → why ≡ halt.Full log payload → MOST_LOG < log + 5 + payload) → NumbersHold s
numbers-of why s is full = subst NumbersHold (sym is) (numbers-at why full)

abbrev AlikeDamage : Damage → Damage → Type 0
AlikeDamage (damage.TooLong a) (damage.TooLong b) = Unit {0}
AlikeDamage (damage.NotLog a) (damage.NotLog b) = Unit {0}
AlikeDamage (damage.Malformed a) (damage.Malformed b) = Unit {0}
AlikeDamage (damage.Broken a) (damage.Broken b) = Unit {0}
AlikeDamage (damage.Differs a) (damage.Differs b) = Unit {0}
AlikeDamage _ _ = ⊥

-- two statuses are of one kind
abbrev pub Alike : Status → Status → Type 0
Alike status.Done status.Done = Unit {0}
Alike status.Usage status.Usage = Unit {0}
Alike status.Disk status.Disk = Unit {0}
Alike (status.Damaged a) (status.Damaged b) = AlikeDamage a b
Alike status.NoMemory status.NoMemory = Unit {0}
Alike status.Source status.Source = Unit {0}
Alike status.Sink status.Sink = Unit {0}
Alike (status.Full a b) (status.Full c d) = Unit {0}
Alike status.Long status.Long = Unit {0}
Alike _ _ = ⊥

AlikeDamage-same : (a : Damage) → AlikeDamage a a
AlikeDamage-same (damage.TooLong len) = tt
AlikeDamage-same (damage.NotLog at) = tt
AlikeDamage-same (damage.Malformed at) = tt
AlikeDamage-same (damage.Broken place) = tt
AlikeDamage-same (damage.Differs d) = tt

Alike-same : (s : Status) → Alike s s
Alike-same (status.Damaged why) = AlikeDamage-same why
Alike-same status.Done = tt
Alike-same status.Usage = tt
Alike-same status.Disk = tt
Alike-same status.NoMemory = tt
Alike-same status.Source = tt
Alike-same status.Sink = tt
Alike-same (status.Full log payload) = tt
Alike-same status.Long = tt

-- statuses that are one are of one kind
pub alike : (s t : Status) → s ≡ t → Alike s t
alike s t is = subst (Alike s) is (Alike-same s)

pub neither : (s t u : Status) → (Alike s t → ⊥) → (Alike s u → ⊥) → (s ≡ t) ⊎ (s ≡ u) → ⊥
neither s t u not_t not_u which = elim which [
  | inl is ↦ not_t (alike s t is)
  | inr is ↦ not_u (alike s u is)
]

-- a status of a log that is refused or isn't opened
abbrev pub IsRefusal : Status → Type 0
IsRefusal status.Disk = Unit {0}
IsRefusal (status.Damaged (damage.TooLong len)) = Unit {0}
IsRefusal (status.Damaged (damage.NotLog at)) = Unit {0}
IsRefusal (status.Damaged (damage.Malformed at)) = Unit {0}
IsRefusal status.NoMemory = Unit {0}
IsRefusal _ = ⊥

refusal-of : (error : OpenError) → IsRefusal (open_status_of error)
refusal-of (opening.TooLong len) = tt
refusal-of (opening.NotLog at) = tt
refusal-of (opening.Malformed at) = tt
refusal-of opening.Disk = tt
refusal-of opening.NoMemory = tt

-- a status of a refusal is no other one
pub refused-as : (error : OpenError) (s t : Status) → s ≡ open_status_of error → s ≡ t → IsRefusal t
refused-as error s t of is = subst IsRefusal (sym of ∙ is) (refusal-of error)

pub refused-neither : (error : OpenError) (s : Status) → s ≡ open_status_of error → (s ≡ status.Source) ⊎ (s ≡ status.Long) → ⊥
refused-neither error s of which = elim which [
  | inl is ↦ refused-as error s status.Source of is
  | inr is ↦ refused-as error s status.Long of is
]

-- a status that blames the bytes of the disk
abbrev pub BlamesLog : Status → Type 0
BlamesLog (status.Damaged (damage.TooLong len)) = Unit {0}
BlamesLog (status.Damaged (damage.NotLog at)) = Unit {0}
BlamesLog (status.Damaged (damage.Malformed at)) = Unit {0}
BlamesLog _ = ⊥

blames-of : (error : OpenError) → BlamesBytes error → BlamesLog (open_status_of error)
blames-of (opening.TooLong len) blames = tt
blames-of (opening.NotLog at) blames = tt
blames-of (opening.Malformed at) blames = tt
blames-of opening.Disk blames = blames
blames-of opening.NoMemory blames = blames

pub blames-log : (error : OpenError) (s : Status) → BlamesBytes error → s ≡ open_status_of error → BlamesLog s
blames-log error s blames is = subst BlamesLog (sym is) (blames-of error blames)

-- a status of a text that wasn't read to its end
abbrev pub IsHalted : Status → Type 0
IsHalted status.Done = ⊥
IsHalted status.Usage = ⊥
IsHalted (status.Damaged (damage.TooLong len)) = ⊥
IsHalted (status.Damaged (damage.NotLog at)) = ⊥
IsHalted (status.Damaged (damage.Malformed at)) = ⊥
IsHalted (status.Damaged (damage.Broken place)) = ⊥
IsHalted _ = Unit {0}

halted-of : (why : Halt) → IsHalted (status_of why)
halted-of halt.NoMemory = tt
halted-of halt.Source = tt
halted-of halt.Sink = tt
halted-of halt.Long = tt
halted-of halt.Disk = tt
halted-of (halt.Full log payload) = tt
halted-of (halt.Differs d) = tt

-- a status of a halt is no other one
pub halted-as : (why : Halt) (s t : Status) → s ≡ status_of why → s ≡ t → IsHalted t
halted-as why s t of is = subst IsHalted (sym of ∙ is) (halted-of why)

-- a halt isn't a refusal for the bytes of the disk
halted-blames : (s : Status) → IsHalted s → BlamesLog s → ⊥
halted-blames (status.Damaged (damage.TooLong len)) halted blames = halted
halted-blames (status.Damaged (damage.NotLog at)) halted blames = halted
halted-blames (status.Damaged (damage.Malformed at)) halted blames = halted
halted-blames _ halted blames = blames

pub halted-refused : (why : Halt) (error : OpenError) (s : Status) → s ≡ status_of why → BlamesBytes error → s ≡ open_status_of error → ⊥
halted-refused why error s of blames is = halted-blames s (subst IsHalted (sym of) (halted-of why)) (blames-log error s blames is)

-- the numbers of a refusal hold where those of its error do
module _ {T : Type 0} (r : Result T OpenError) (too_long : (len : ℕ) → IsErrOf r (opening.TooLong len) → MOST_LOG < len) (not_log : (at : ℕ) → IsErrOf r (opening.NotLog at) → at < length log_name) (malformed : (at : ℕ) → IsErrOf r (opening.Malformed at) → at < MOST_LOG) where
  numbers-told : (error : OpenError) → IsErrOf r error → NumbersHold (open_status_of error)
  numbers-told (opening.TooLong len) told = too_long len told
  numbers-told (opening.NotLog at) told = not_log at told
  numbers-told (opening.Malformed at) told = malformed at told
  numbers-told opening.Disk told = tt
  numbers-told opening.NoMemory told = tt

  pub numbers-refused : (error : OpenError) (s : Status) → IsErrOf r error → s ≡ open_status_of error → NumbersHold s
  numbers-refused error s told is = subst NumbersHold (sym is) (numbers-told error told)
