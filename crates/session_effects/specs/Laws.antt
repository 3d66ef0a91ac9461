-- What holds of effects as a whole.
use Rattle.std.specs.Prelude.{◌≡◌, ◌≢◌, ℕ, ◌++◌, List, [], ◌∷◌, Option, option_map, IfSome, is_some}
use Rattle.arn_base.specs.declared.records.Record.{Record}
use Rattle.arn_base.specs.declared.disk.Disk.{Ghosts}
use Rattle.arn_base.specs.Disk.{Only}
use Rattle.arn_base.specs.Faults.{NeverFalls}
use Rattle.log_store.specs.Log.{IsClosedLogOf, IsLog, IsLogOf}
use Rattle.log_store.specs.Stores.{StoreState, IsLeftBy, KeepsRecords}
use Rattle.log_store.specs.Stops.{GoesOn, IsOnlyRead, LeavesOnly, NothingPending}
use Rattle.session_effects.specs.Effects.{Effect, Prints, committed}
use Rattle.session_effects.specs.Carrying.{IsShut, HoldsLog, HoldsMore, IsAtRest, Keeps, CarriesOut, Stopped, StopsAt, StopsBetween, RestsMore}
use Rattle.session_effects.specs.Printing.{StopsPut}
use Rattle.session_effects.specs.Standing.{IsCause}
use Rattle.session_effects.specs.declared.halt.Halt.{Halt}
use Rattle.session_effects.specs.declared.halt.Halt.TheVariants as halt

-- a log that was opened keeps its records, at any moment, where nothing was pending
abbrev pub OpensLog : {D : Type 0} → Ghosts D → D → D → Type 0
OpensLog d old new = IfSome (d.image old) (λ bytes. Only bytes (d.may_leave old) →
    LeavesOnly d.moment d.left_since old new (KeepsRecords bytes))

-- it has the frames that it had, and ends with a closed gate
abbrev pub ShutsLog : {D : Type 0} → Ghosts D → D → D → Type 0
ShutsLog d old new = (commits : List (List Record)) → IfSome (d.image old) (λ was. IsLogOf was commits →
    IfSome (d.image new) (λ is. IsClosedLogOf is commits))

module _ {D : Type 0} (is_run : List Record → Type 0) (d : Ghosts D) where
  -- nothing is carried out where nothing is done
  abbrev pub NothingCarries : Type 0
  NothingCarries = (disk : D) (history : List Record) (held : Option (List ℕ)) →
      CarriesOut is_run d disk disk history held held []

  -- a text is carried out where it was put
  abbrev pub TextCarries : Type 0
  TextCarries = (disk : D) (history : List Record) (h0 h1 : Option (List ℕ)) (text : List ℕ) →
      h1 ≡ option_map (λ before. before ++ text) h0 →
      CarriesOut is_run d disk disk history h0 h1 (Prints text ∷ [])

  -- effects behind others, on the history that these left
  abbrev pub AppendCarries : Type 0
  AppendCarries = (old mid new : D) (history there : List Record) (h0 h1 h2 : Option (List ℕ))
      (first more : List Effect) → there ≡ history ++ committed first →
      CarriesOut is_run d old mid history h0 h1 first → CarriesOut is_run d mid new there h1 h2 more →
      CarriesOut is_run d old new history h0 h2 (first ++ more)

  -- effects stop before the first of them
  abbrev pub NothingStops : Type 0
  NothingStops = (disk : D) (history : List Record) (held : Option (List ℕ)) (why : Halt)
      (effects : List Effect) → Stopped d disk why effects [] [] →
      StopsAt is_run d disk disk history held held why [] effects

  -- they stop in a text of which some was put
  abbrev pub TextStops : Type 0
  TextStops = (disk : D) (history : List Record) (h0 h1 : Option (List ℕ)) (why : Halt) (text : List ℕ) →
      StopsPut why text h0 h1 → StopsAt is_run d disk disk history h0 h1 why [] (Prints text ∷ [])

  -- they stop behind others
  abbrev pub BehindStops : Type 0
  BehindStops = (old mid new : D) (history there : List Record) (h0 h1 h2 : Option (List ℕ)) (why : Halt)
      (first rest : List Effect) → there ≡ history ++ committed first →
      CarriesOut is_run d old mid history h0 h1 first → StopsAt is_run d mid new there h1 h2 why [] rest →
      StopsAt is_run d old new history h0 h2 why first rest

  -- they stop before others
  abbrev pub BeforeStops : Type 0
  BeforeStops = (old new : D) (history : List Record) (h0 h1 : Option (List ℕ)) (why : Halt)
      (first rest more : List Effect) → StopsAt is_run d old new history h0 h1 why first rest →
      StopsAt is_run d old new history h0 h1 why first (rest ++ more)

  -- those that were carried out are among the others
  abbrev pub AmongStops : Type 0
  AmongStops = (old new : D) (history : List Record) (h0 h1 : Option (List ℕ)) (why : Halt)
      (first some rest : List Effect) → StopsAt is_run d old new history h0 h1 why (first ++ some) rest →
      StopsAt is_run d old new history h0 h1 why first (some ++ rest)

  -- at any moment a stop leaves the history and more
  abbrev pub CarriedLeaves : Type 0
  CarriedLeaves = (old new : D) (history : List Record) (h0 h1 : Option (List ℕ)) (effects : List Effect) →
      CarriesOut is_run d old new history h0 h1 effects → IsAtRest d old history →
      LeavesOnly d.moment d.left_since old new (HoldsMore is_run history)

  abbrev pub StoppedLeaves : Type 0
  StoppedLeaves = (old new : D) (history : List Record) (h0 h1 : Option (List ℕ)) (why : Halt)
      (first rest : List Effect) → StopsAt is_run d old new history h0 h1 why first rest →
      IsAtRest d old history → LeavesOnly d.moment d.left_since old new (HoldsMore is_run history)

  -- the disk is at rest again
  abbrev pub CarriedRests : Type 0
  CarriedRests = (old new : D) (history : List Record) (h0 h1 : Option (List ℕ)) (effects : List Effect) →
      CarriesOut is_run d old new history h0 h1 effects → IsAtRest d old history → RestsMore d new history

  -- also at a halt, but where the disk failed or memory ran out
  abbrev pub StoppedRests : Type 0
  StoppedRests = (old new : D) (history : List Record) (h0 h1 : Option (List ℕ)) (why : Halt)
      (first rest : List Effect) → StopsAt is_run d old new history h0 h1 why first rest →
      why ≢ halt.Disk → why ≢ halt.NoMemory → IsAtRest d old history → RestsMore d new history

  -- and a log that ended with its closed gate does so again
  abbrev pub StoppedShuts : Type 0
  StoppedShuts = (old new : D) (history : List Record) (h0 h1 : Option (List ℕ)) (why : Halt)
      (first rest : List Effect) → StopsAt is_run d old new history h0 h1 why first rest →
      why ≢ halt.Disk → why ≢ halt.NoMemory → IsShut d old → IsShut d new

  -- an opening carries out nothing
  abbrev pub OpeningCarries : Type 0
  OpeningCarries = (old new : D) (store : StoreState) (held : Option (List ℕ)) →
      is_some (d.image new) ≡ is_some (d.image old) → IfSome (d.image new) (IsLeftBy store) →
      (NothingPending d.image d.may_leave old → NothingPending d.image d.may_leave new) →
      OpensLog d old new → ShutsLog d old new → CarriesOut is_run d old new store.entries held held []

  -- an opening that failed leaves the history at any moment
  abbrev pub OpeningKeeps : Type 0
  OpeningKeeps = (old new : D) (history : List Record) → is_some (d.image new) ≡ is_some (d.image old) → OpensLog d old new → IsAtRest d old history →
      Keeps is_run d old new history [] []

  abbrev pub OpeningLeaves : Type 0
  OpeningLeaves = (old new : D) (history : List Record) → OpensLog d old new → IsAtRest d old history →
      LeavesOnly d.moment d.left_since old new (HoldsMore is_run history)

  -- effects behind an opening
  abbrev pub OpenedCarries : Type 0
  OpenedCarries = (old mid new : D) (history : List Record) (h0 h1 : Option (List ℕ)) →
      CarriesOut is_run d old mid history h0 h0 [] → (effects : List Effect) →
      CarriesOut is_run d mid new history h0 h1 effects → CarriesOut is_run d old new history h0 h1 effects

  abbrev pub OpenedStops : Type 0
  OpenedStops = (old mid new : D) (history : List Record) (h0 h1 : Option (List ℕ)) (why : Halt) →
      CarriesOut is_run d old mid history h0 h0 [] → (first rest : List Effect) →
      StopsAt is_run d mid new history h0 h1 why first rest →
      StopsAt is_run d old new history h0 h1 why first rest

  -- what a stop leaves behind an opening
  abbrev pub OpenedLeaves : Type 0
  OpenedLeaves = (old mid new : D) (entries history : List Record) (held : Option (List ℕ)) →
      entries ≡ history → CarriesOut is_run d old mid entries held held [] → OpensLog d old mid →
      (IsAtRest d mid entries → LeavesOnly d.moment d.left_since mid new (HoldsMore is_run entries)) →
      IsAtRest d old history → LeavesOnly d.moment d.left_since old new (HoldsMore is_run history)

  -- a disk at rest again, behind an opening
  abbrev pub OpenedRests : Type 0
  OpenedRests = (old mid new : D) (entries history : List Record) (held : Option (List ℕ)) →
      entries ≡ history → CarriesOut is_run d old mid entries held held [] →
      (IsAtRest d mid entries → RestsMore d new entries) → IsAtRest d old history → RestsMore d new history

module _ {D : Type 0} (d : Ghosts D) where
  -- the history of a log is that of the store that opened it
  abbrev pub HistoryIsStore : Type 0
  HistoryIsStore = (disk : D) (history : List Record) (store : StoreState) → HoldsLog d disk history →
      IfSome (d.image disk) (λ bytes. IsLog bytes store.entries) → store.entries ≡ history

  -- a disk with which nothing was done was read at most
  abbrev pub ReadsNothing : Type 0
  ReadsNothing = (disk : D) → IsOnlyRead d.image d.may_leave d.moment d.left_since disk disk

-- effects follow one another, and where they stop
pub record EffectsFollow {D : Type 0} (is_run : List Record → Type 0) (d : Ghosts D) : Type 0 where
  pub nothing : NothingCarries is_run d
  pub text : TextCarries is_run d
  pub append : AppendCarries is_run d
  pub stops : NothingStops is_run d
  pub stops_text : TextStops is_run d
  pub behind : BehindStops is_run d
  pub before : BeforeStops is_run d
  pub among : AmongStops is_run d

module _ {D : Type 0} (is_run : List Record → Type 0) (d : Ghosts D) where
  -- effects stop before the first of them
  abbrev pub NothingHalts : Type 0
  NothingHalts = (disk : D) (history : List Record) (held : Option (List ℕ)) (why : Halt)
      (effects : List Effect) → Stopped d disk why effects [] [] →
      StopsBetween is_run d disk disk history held held why [] effects

  -- they stop in a text of which some was put
  abbrev pub TextHalts : Type 0
  TextHalts = (disk : D) (history : List Record) (h0 h1 : Option (List ℕ)) (why : Halt) (text : List ℕ) →
      StopsPut why text h0 h1 → StopsBetween is_run d disk disk history h0 h1 why [] (Prints text ∷ [])

  -- they stop behind others
  abbrev pub BehindHalts : Type 0
  BehindHalts = (old mid new : D) (history there : List Record) (h0 h1 h2 : Option (List ℕ)) (why : Halt)
      (first done undone : List Effect) → there ≡ history ++ committed first →
      CarriesOut is_run d old mid history h0 h1 first →
      StopsBetween is_run d mid new there h1 h2 why done undone →
      StopsBetween is_run d old new history h0 h2 why (first ++ done) undone

  -- they stop before others
  abbrev pub BeforeHalts : Type 0
  BeforeHalts = (old new : D) (history : List Record) (h0 h1 : Option (List ℕ)) (why : Halt)
      (done undone more : List Effect) → StopsBetween is_run d old new history h0 h1 why done undone →
      StopsBetween is_run d old new history h0 h1 why done (undone ++ more)

  -- all of them were stopped somewhere
  abbrev pub AllHalts : Type 0
  AllHalts = (old new : D) (history : List Record) (h0 h1 : Option (List ℕ)) (why : Halt)
      (done undone : List Effect) → StopsBetween is_run d old new history h0 h1 why done undone →
      StopsAt is_run d old new history h0 h1 why [] (done ++ undone)

-- where effects stop, with what was done and what wasn't
pub record HaltsFollow {D : Type 0} (is_run : List Record → Type 0) (d : Ghosts D) : Type 0 where
  pub nothing : NothingHalts is_run d
  pub text : TextHalts is_run d
  pub behind : BehindHalts is_run d
  pub before : BeforeHalts is_run d
  pub all : AllHalts is_run d

-- counts of faults over calls that follow one another, and what made a later one halt
pub record CausesFollow {D : Type 0} (image : D → Option (List ℕ)) (faults : D → ℕ) : Type 0 where
  pub still : (a : ℕ) → NeverFalls a a
  pub falls : (a b c : ℕ) → NeverFalls a b → NeverFalls b c → NeverFalls a c
  pub later : (old mid new : D) → GoesOn image faults old mid → GoesOn image faults mid new →
      GoesOn image faults old new
  pub cause : (why : Halt) (d0 d1 d2 s0 s1 s2 : ℕ) → NeverFalls d0 d1 → NeverFalls d1 d2 →
      NeverFalls s0 s1 → NeverFalls s1 s2 → IsCause why d1 d2 s1 s2 → IsCause why d0 d2 s0 s2
