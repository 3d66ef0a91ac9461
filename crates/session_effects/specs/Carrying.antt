-- What was carried out of effects: what the sink holds, and what a stop of the machine leaves on the disk.
-- `is_run` says of which lists of records it is kept that they are a run's, and `d` what a disk tells.
use Rattle.std.specs.Prelude.{◌≡◌, ◌≢◌, ◌⊎◌, ℕ, ◌+◌, ◌<◌, ◌≤◌, List, [], ◌∷◌, ◌++◌, length, Option, Some, option_map, IfSome}
use Rattle.arn_base.specs.declared.records.Record.{Record}
use Rattle.arn_base.specs.declared.disk.Disk.{Ghosts}
use Rattle.arn_base.specs.Disk.{Only}
use Rattle.log_store.specs.Log.{IsClosedLogOf, IsLog, IsLogOf, spellings}
use Rattle.log_store.specs.Stops.{LeavesOnly}
use Rattle.log_store.specs.Stores.{MayLeaveLog}
use Rattle.log_store.specs.declared.size.TheConstants.{MOST_LOG}
use Rattle.session_effects.specs.Effects.{Effect, Commits, Prints, committed, frames_in, printed}
use Rattle.session_effects.specs.declared.halt.Halt.{Halt}
use Rattle.session_effects.specs.declared.halt.Halt.TheVariants as halt

-- the disk tells that it holds a log of these records
pub record HoldsLog {D : Type 0} (d : Ghosts D) (disk : D) (history : List Record) : Type 0 where
  pub bytes : List ℕ
  pub is_image : d.image disk ≡ Some bytes
  pub is_log : IsLog bytes history

-- the disk tells that it holds a log of these commits, each in a frame of its own
pub record HoldsFrames {D : Type 0} (d : Ghosts D) (disk : D) (commits : List (List Record)) : Type 0 where
  pub bytes : List ℕ
  pub is_image : d.image disk ≡ Some bytes
  pub is_log : IsLogOf bytes commits

-- what a disk tells is a log that ends with a closed gate: no byte stands behind it
abbrev pub IsShut : {D : Type 0} → Ghosts D → D → Type 0
IsShut d disk = IfSome (d.image disk) (λ bytes. (commits : List (List Record)) × IsClosedLogOf bytes commits)

-- A log has the frames that it had, and behind them one for each commit of the effects. What ended with a closed gate
-- does so again.
pub record AddsFrames {D : Type 0} (d : Ghosts D) (old new : D) (effects : List Effect) : Type 0 where
  pub frames : (commits : List (List Record)) → HoldsFrames d old commits → HoldsFrames d new (commits ++ frames_in effects)
  pub shut : IsShut d old → IsShut d new

-- the disk holds a log of a history that isn't too long, and nothing is pending: a stop now leaves these bytes
pub record IsAtRest {D : Type 0} (d : Ghosts D) (disk : D) (history : List Record) : Type 0 where
  pub bytes : List ℕ
  pub is_image : d.image disk ≡ Some bytes
  pub is_log : IsLog bytes history
  pub fits : length bytes ≤ MOST_LOG
  pub only : Only bytes (d.may_leave disk)

-- A log of a history and of the first commits among effects, each whole. Where the history was that of a run, it
-- still is.
pub record HoldsFirst (is_run : List Record → Type 0) (history : List Record) (effects : List Effect)
    (bytes : List ℕ) : Type 0 where
  pub first : List Effect
  pub others : List Effect
  pub are_effects : effects ≡ first ++ others
  pub is_log : IsLog bytes (history ++ committed first)
  pub still_run : is_run history → is_run (history ++ committed first)
  pub fits : length bytes ≤ MOST_LOG

-- a log of a history and of all commits among effects, and perhaps of one more
abbrev pub HoldsAll : List Record → List Effect → List Effect → List ℕ → Type 0
HoldsAll history done next bytes =
    IsLog bytes (history ++ committed done) ⊎ IsLog bytes (history ++ committed (done ++ next))

-- From one state of the disk to a later one: a stop at any moment leaves the first commits, and a stop now leaves
-- all that are done, and perhaps the next commit, whole; some stop now leaves exactly those that are done.
pub record Keeps {D : Type 0} (is_run : List Record → Type 0) (d : Ghosts D) (old new : D)
    (history : List Record) (done next : List Effect) : Type 0 where
  pub any_moment : LeavesOnly d.moment d.left_since old new (HoldsFirst is_run history (done ++ next))
  pub now : (bytes : List ℕ) → d.may_leave new bytes → HoldsAll history done next bytes
  pub may_leave : MayLeaveLog (d.may_leave new) (history ++ committed done)
  pub still_run : is_run history → is_run (history ++ committed done)

-- The effects were carried out: the sink holds what they print behind what it held, where it tells, and the disk
-- holds what they commit behind the history, where it tells: at rest, where it was at rest.
pub record CarriesOut {D : Type 0} (is_run : List Record → Type 0) (d : Ghosts D) (old new : D)
    (history : List Record) (held holds : Option (List ℕ)) (effects : List Effect) : Type 0 where
  pub put : holds ≡ option_map (λ before. before ++ printed effects) held
  pub holds_log : HoldsLog d old history → HoldsLog d new (history ++ committed effects)
  pub adds : AddsFrames d old new effects
  pub rests : IsAtRest d old history → IsAtRest d new (history ++ committed effects)
  pub keeps : IsAtRest d old history → Keeps is_run d old new history effects []

-- what comes next is a text, of which this was put and that is left
pub record IsInText (rest : List Effect) (put left : List ℕ) : Type 0 where
  pub more : List Effect
  pub is_text : rest ≡ Prints (put ++ left) ∷ more

-- what comes next is the commit of these records
pub record IsAtCommit (rest : List Effect) (entries : List Record) : Type 0 where
  pub more : List Effect
  pub is_commit : rest ≡ Commits entries ∷ more

-- what comes next is a commit, and the disk may hold its records or not
pub record IsInCommit (rest next : List Effect) : Type 0 where
  pub entries : List Record
  pub is_at : IsAtCommit rest entries
  pub is_next : next ≡ Commits entries ∷ []

-- Why nothing more was carried out: what stands next, what was put of it and what of it the disk may hold.
abbrev pub Stopped : {D : Type 0} → Ghosts D → D → Halt → List Effect → List ℕ → List Effect → Type 0
Stopped d disk halt.Source rest put next = ⊥
Stopped d disk halt.Long rest put next = ⊥
Stopped d disk halt.Sink rest put next =
    (left : List ℕ) × IsInText rest put left × (left ≢ []) × (next ≡ [])
Stopped d disk halt.Disk rest put next = IsInCommit rest next × (put ≡ [])
Stopped d disk (halt.Full log payload) rest put next =
    (entries : List Record) × IsAtCommit rest entries × (put ≡ []) × (next ≡ []) ×
    (payload ≡ length (spellings entries)) × (MOST_LOG < log + 5 + payload) ×
    IfSome (d.image disk) (λ bytes. log ≡ length bytes)
Stopped d disk (halt.Differs at) rest put next = (put ≡ []) × (next ≡ [])
Stopped d disk halt.NoMemory rest put next =
    ((put ≡ []) ⊎ ((left : List ℕ) × IsInText rest put left)) × ((next ≡ []) ⊎ IsInCommit rest next)

-- The first effects were carried out and of the others some, up to a halt: `part` was put of the text that stands
-- next, and `next` is the commit that the disk may hold or not.
pub record StopsAt {D : Type 0} (is_run : List Record → Type 0) (d : Ghosts D) (old new : D)
    (history : List Record) (held holds : Option (List ℕ)) (why : Halt) (first rest : List Effect)
    : Type 0 where
  pub done : List Effect
  pub undone : List Effect
  pub are_rest : rest ≡ done ++ undone
  pub part : List ℕ
  pub next : List Effect
  pub stopped : Stopped d new why undone part next
  pub put : holds ≡ option_map (λ before. before ++ (printed (first ++ done) ++ part)) held
  pub keeps : IsAtRest d old history → Keeps is_run d old new history (first ++ done) next
  pub holds_log : next ≡ [] → HoldsLog d old history → HoldsLog d new (history ++ committed (first ++ done))
  pub adds : next ≡ [] → AddsFrames d old new (first ++ done)
  pub rests : next ≡ [] → IsAtRest d old history → IsAtRest d new (history ++ committed (first ++ done))

-- The same, where these effects were carried out, and of those that come next some of the first at most.
pub record StopsBetween {D : Type 0} (is_run : List Record → Type 0) (d : Ghosts D) (old new : D)
    (history : List Record) (held holds : Option (List ℕ)) (why : Halt) (done undone : List Effect)
    : Type 0 where
  pub part : List ℕ
  pub next : List Effect
  pub stopped : Stopped d new why undone part next
  pub put : holds ≡ option_map (λ before. before ++ (printed done ++ part)) held
  pub keeps : IsAtRest d old history → Keeps is_run d old new history done next
  pub holds_log : next ≡ [] → HoldsLog d old history → HoldsLog d new (history ++ committed done)
  pub adds : next ≡ [] → AddsFrames d old new done
  pub rests : next ≡ [] → IsAtRest d old history → IsAtRest d new (history ++ committed done)

-- A log of a history, and of more records behind it. Where the history was that of a run, it still is.
pub record HoldsMore (is_run : List Record → Type 0) (history : List Record) (bytes : List ℕ) : Type 0 where
  pub more : List Record
  pub is_log : IsLog bytes (history ++ more)
  pub still_run : is_run history → is_run (history ++ more)
  pub fits : length bytes ≤ MOST_LOG

-- the disk is at rest again, with the history and perhaps more
pub record RestsMore {D : Type 0} (d : Ghosts D) (disk : D) (history : List Record) : Type 0 where
  pub more : List Record
  pub at_rest : IsAtRest d disk (history ++ more)
