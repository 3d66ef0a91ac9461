-- Points of a session for which no slice is taken, and where a session stops there.
use Rattle.std.proofs.Common.{◌≡◌, ◌⊎◌, inl, inr, ℕ, ◌+◌, ◌≤◌, ◌++◌, List, [], ◌∷◌, Option, Some, None, IfSome, option_map, length, slice_get, refl, sym, ap, ◌∙◌, subst, append-nil, arith}
use Rattle.arn_base.specs.declared.boxes.Choice.{Choice}
use Rattle.arn_base.specs.declared.disk.Disk.{Ghosts}
use Rattle.arn_base.specs.declared.records.Record.{Record}
use Rattle.log_model.specs.Records.{reply_behind}
use Rattle.log_store.specs.Stores.{StoreState}
use Rattle.guest_legs.specs.Legs.{Ask, AreInRange, Picked, PickedBy, brought}
use Rattle.session_effects.specs.Carrying.{IsAtCommit, StopsBetween}
use Rattle.session_effects.specs.Effects.{Effect, Commits, Prints, committed}
use Rattle.session_effects.specs.Laws.{EffectsFollow, HaltsFollow}
use Rattle.session_effects.specs.Printing.{StopsPut}
use Rattle.session_effects.specs.Standing.{Carries, IsOpen}
use Rattle.session_effects.specs.declared.halt.Halt.{Halt}
use Rattle.session_runs.specs.Laws.{StopsBy}
use Rattle.session_runs.specs.Points.{Advances, IsSpent, Stops, around, slices_in}
use Rattle.history_model.specs.Unplugged.{unplugged_in}
use Rattle.session_runs.specs.Ready.{IsNotMade}
use Rattle.session_runs.specs.Touches.{Answering, Touch, asks_in, unplugs_in}
use Rattle.session_runs.specs.Turns.{Turn, Point, behind, does, finished, prints}

-- the k-th slice is the k-th choice brought into range
abbrev IsPicked : Option Choice → List Ask → List Picked → ℕ → Type 0
IsPicked told asks slices k = IfSome told (λ choice. option_map (λ s. s.pick) (slice_get slices k) ≡ option_map (λ ask. brought ask choice) (slice_get asks k))

-- no choice was taken
pub PickedBy-none : (choices : ℕ → Option Choice) → PickedBy choices choices [] []
PickedBy-none choices = record { many = refl; each = λ k. nothing (choices k) k; later = λ k. ap choices (omega arith) }
  where
    nothing : (o : Option Choice) (k : ℕ) → IsPicked o [] [] k
    nothing None k = tt
    nothing (Some choice) k = refl

-- a text is no commit
pub no-commit : (text : List ℕ) (entries : List Record) (more : List Effect) → IsAtCommit (Prints text ∷ more) entries → ⊥
no-commit text entries more at = let e = at.is_commit in cc

pub none-next : (entries : List Record) → IsAtCommit [] entries → ⊥
none-next entries at = let e = at.is_commit in cc

-- what stands at a commit is its records
pub first-commit : (entries others : List Record) (more : List Effect) → IsAtCommit (Commits entries ∷ more) others → others ≡ entries
first-commit entries others more at = let e = at.is_commit in cc

-- records that name no slice, and unplug nothing
abbrev pub NameNone : List Record → Type 0
NameNone entries = (slices_in entries ≡ []) × (unplugged_in entries ≡ [])

-- no commit among effects names a slice or unplugs a device, of those that are done and the next
pub record IsQuiet (done undone : List Effect) : Type 0 where
  pub names : slices_in (committed done) ≡ []
  pub unplugged : unplugged_in (committed done) ≡ []
  pub begins : reply_behind (committed done) ≡ None
  pub names_next : (entries : List Record) → IsAtCommit undone entries → NameNone entries

-- a text alone, done or not
pub quiet-text : (text : List ℕ) (done undone : List Effect) → Prints text ∷ [] ≡ done ++ undone → IsQuiet done undone
quiet-text text [] undone is = record {
  names = refl;
  unplugged = refl;
  begins = refl;
  names_next = λ entries at. absurd (no-commit text entries [] (subst (λ (e : List Effect). IsAtCommit e entries) (sym is) at));
}
quiet-text text (Prints t ∷ []) undone is =
    let none : undone ≡ [] = cc in
    record {
      names = refl;
      unplugged = refl;
      begins = refl;
      names_next = λ entries at. absurd (none-next entries (subst (λ (e : List Effect). IsAtCommit e entries) none at));
    }
quiet-text text _ undone is = absurd cc

-- the records of an event, and its number
pub quiet-event : (entries : List Record) (text : List ℕ) (done undone : List Effect) → NameNone entries → reply_behind entries ≡ None → Commits entries ∷ Prints text ∷ [] ≡ done ++ undone → IsQuiet done undone
quiet-event entries text [] undone none begins is = record {
  names = refl;
  unplugged = refl;
  begins = refl;
  names_next = λ others at.
      subst NameNone (sym (first-commit entries others (Prints text ∷ []) (subst (λ (e : List Effect). IsAtCommit e others) (sym is) at))) none;
}
quiet-event entries text (Commits es ∷ []) undone none begins is =
    let same : es ≡ entries = cc in
    let left : Prints text ∷ [] ≡ undone = cc in
    record {
      names = ap slices_in (append-nil es ∙ same) ∙ none.0;
      unplugged = ap unplugged_in (append-nil es ∙ same) ∙ none.1;
      begins = ap reply_behind (append-nil es ∙ same) ∙ begins;
      names_next = λ others at. absurd (no-commit text others [] (subst (λ (e : List Effect). IsAtCommit e others) (sym left) at));
    }
quiet-event entries text (Commits es ∷ (Prints t ∷ [])) undone none begins is =
    let same : es ≡ entries = cc in
    let left : undone ≡ [] = cc in
    record {
      names = ap slices_in (append-nil es ∙ same) ∙ none.0;
      unplugged = ap unplugged_in (append-nil es ∙ same) ∙ none.1;
      begins = ap reply_behind (append-nil es ∙ same) ∙ begins;
      names_next = λ others at. absurd (none-next others (subst (λ (e : List Effect). IsAtCommit e others) left at));
    }
quiet-event entries text _ undone none begins is = absurd cc

turn-done : (effects : List Effect) (rest : List Picked) → does effects [] rest ≡ behind effects [] (finished rest)
turn-done effects rest = ap (λ (e : List Effect). let t : Turn = record { effects = e; touches = []; left = Some rest } in t) (sym (append-nil effects))

module _ {A : Type 0} (who : Answering A) (choices : ℕ → Option Choice) (answers : A) where
  -- effects were carried out
  pub Advances-does : (from : Point) (effects : List Effect) (steps steps' cost : ℕ) (carried : List Effect → Type 0) → from ≡ does effects [] → NameNone (committed effects) → reply_behind (committed effects) ≡ None → carried effects → steps' ≤ steps + cost → Advances who from finished (around choices answers steps) (around choices answers steps') cost carried
  Advances-does from effects steps steps' cost carried is names begins carries cheap = record {
    slices = [];
    touches = [];
    effects = effects;
    leads = λ rest. ap (λ (p : Point). p rest) is ∙ turn-done effects rest;
    names = names.0;
    unplugged = names.1;
    begins = begins;
    carries = carries;
    picked = PickedBy-none choices;
    in_range = tt;
    touched = (refl, refl);
    executed = omega (arith, cheap);
  }

-- Without slices none is asked for and none is left, and one device is unplugged at most. A commit that stands next names no slice, and says
-- of just that device that it was unplugged.
pub record IsStill (from : Point) : Type 0 where
  pub one : length (from []).touches ≤ 1
  pub none_asked : asks_in (from []).touches ≡ []
  pub left : ((from []).left ≡ None) ⊎ ((from []).left ≡ Some [])
  pub names : (entries : List Record) → IsAtCommit (from []).effects entries → (slices_in entries ≡ []) × (unplugged_in entries ≡ unplugs_in (from []).touches)

-- where nothing is touched
pub still-untouched : (from : Point) → (from []).touches ≡ [] → ((from []).left ≡ None) ⊎ ((from []).left ≡ Some []) → ((entries : List Record) → IsAtCommit (from []).effects entries → NameNone entries) → IsStill from
still-untouched from none left names = record {
  one = omega (arith, ap (λ (x : List Touch). length x) none);
  none_asked = ap asks_in none;
  left = left;
  names = λ entries at. ((names entries at).0, (names entries at).1 ∙ sym (ap unplugs_in none));
}

pub spent-still : (undone : List Effect) (left : Option (List Picked)) → (left ≡ None) ⊎ (left ≡ Some []) → IsSpent [] undone left
spent-still undone left (inl none) = inl none
spent-still undone left (inr all) = inr (all, inr refl)

-- effects alone are still
pub still-does : (from : Point) (effects : List Effect) → from ≡ does effects [] → ((entries : List Record) → IsAtCommit effects entries → NameNone entries) → IsStill from
still-does from effects is names =
    still-untouched from (ap (λ (p : Point). (p []).touches) is) (inr (ap (λ (p : Point). (p []).left) is)) (λ entries at. names entries (subst (λ (p : Point). IsAtCommit (p []).effects entries) is at))

module _ {D A : Type 0} (is_run : List Record → Type 0) (d : Ghosts D) (who : Answering A) (halts : HaltsFollow is_run d) (choices : ℕ → Option Choice) (answers : A) where
  -- effects stop somewhere
  pub Stops-does : (disk disk' : D) (history : List Record) (h0 h1 : Option (List ℕ)) (why : Halt) (from : Point) (steps steps' cost : ℕ) (effects done undone : List Effect) → from ≡ does effects [] → effects ≡ done ++ undone → IsQuiet done undone → StopsBetween is_run d disk disk' history h0 h1 why done undone → steps' ≤ steps + cost → StopsBy is_run d who from (around choices answers steps) (around choices answers steps') cost disk disk' history h0 h1 why [] []
  Stops-does disk disk' history h0 h1 why from steps steps' cost effects done undone is are quiet stopped cheap = record {
    stops = record {
      slices = [];
      lost = [];
      part = [];
      touches = [];
      lost_touches = [];
      part_touches = [];
      done = done;
      undone = undone;
      are_effects = ap (λ (p : Point). (p []).effects) is ∙ are;
      are_touches = ap (λ (p : Point). (p []).touches) is;
      stopped = stopped;
      names = quiet.names;
      unplugged = quiet.unplugged;
      begins = quiet.begins;
      names_lost = λ entries at. (quiet.names_next entries at).0;
      unplugged_lost = λ entries at. (quiet.names_next entries at).1;
      without = inl refl;
      spent = inr (ap (λ (p : Point). (p []).left) is, inr refl);
      many = refl;
      picked = PickedBy-none choices;
      in_range = tt;
      touched = (refl, refl);
      one_part = omega arith;
      by_memory = inl refl;
      unmade = inl refl;
      executed = omega (arith, cheap);
    };
    slices = refl;
    touches = refl;
  }

  -- a text stops somewhere
  pub Stops-prints : (disk : D) (history : List Record) (h0 h1 : Option (List ℕ)) (why : Halt) (from : Point) (steps steps' cost : ℕ) (text : List ℕ) → from ≡ prints text → StopsPut why text h0 h1 → steps' ≤ steps + cost → StopsBy is_run d who from (around choices answers steps) (around choices answers steps') cost disk disk history h0 h1 why [] []
  Stops-prints disk history h0 h1 why from steps steps' cost text is put cheap =
      Stops-does disk disk history h0 h1 why from steps steps' cost (Prints text ∷ []) [] (Prints text ∷ []) is refl
      (quiet-text text [] (Prints text ∷ []) refl) (halts.text disk history h0 h1 why text put) cheap

  -- nothing was done: a halt that says no more than that
  pub Stops-nothing : (disk : D) (history : List Record) (held : Option (List ℕ)) (why : Halt) (from : Point) (steps steps' cost : ℕ) → IsStill from → ((from []).touches ≡ []) ⊎ IsNotMade why → StopsBetween is_run d disk disk history held held why [] (from []).effects → steps' ≤ steps + cost → Stops is_run d who disk disk history held held why from (around choices answers steps) (around choices answers steps') cost
  Stops-nothing disk history held why from steps steps' cost still unmade stopped cheap = record {
    slices = [];
    lost = [];
    part = [];
    touches = [];
    lost_touches = [];
    part_touches = (from []).touches;
    done = [];
    undone = (from []).effects;
    are_effects = refl;
    are_touches = refl;
    stopped = stopped;
    names = refl;
    unplugged = refl;
    begins = refl;
    names_lost = λ entries at. (still.names entries at).0;
    unplugged_lost = λ entries at. (still.names entries at).1;
    without = inl refl;
    spent = spent-still (from []).effects (from []).left still.left;
    many = refl;
    picked = subst (λ (x : List Ask). PickedBy choices choices x []) (sym still.none_asked) (PickedBy-none choices);
    in_range = subst (λ (x : List Ask). AreInRange x []) (sym still.none_asked) tt;
    touched = (refl, refl);
    one_part = still.one;
    by_memory = inl refl;
    unmade = unmade;
    executed = omega (arith, cheap);
  }

-- a text alone was carried out
module _ {D A : Type 0} (is_run : List Record → Type 0) (d : Ghosts D) (who : Answering A) (laws : EffectsFollow is_run d) (choices : ℕ → Option Choice) (answers : A) where
  pub Advances-prints : (disk : D) (store : StoreState) (h0 h1 : Option (List ℕ)) (from : Point) (steps steps' cost : ℕ) (text : List ℕ) → from ≡ prints text → IsOpen d store disk → h1 ≡ option_map (λ before. before ++ text) h0 → steps' ≤ steps + cost → Advances who from finished (around choices answers steps) (around choices answers steps') cost (Carries is_run d disk disk store store h0 h1)
  Advances-prints disk store h0 h1 from steps steps' cost text is open_now put cheap =
      Advances-does who choices answers from (Prints text ∷ []) steps steps' cost (Carries is_run d disk disk store store h0 h1) is (refl, refl) refl
      (record { stays_open = open_now; entries = sym (append-nil store.entries); out = laws.text disk store.entries h0 h1 text put }) cheap

  -- nothing was done, but some was executed
  pub Advances-nothing : (disk : D) (store : StoreState) (held : Option (List ℕ)) (from to : Point) (steps steps' cost : ℕ) → from ≡ to → IsOpen d store disk → steps' ≤ steps + cost → Advances who from to (around choices answers steps) (around choices answers steps') cost (Carries is_run d disk disk store store held held)
  Advances-nothing disk store held from to steps steps' cost is open_now cheap = record {
    slices = [];
    touches = [];
    effects = [];
    leads = λ rest. ap (λ (p : Point). p rest) is;
    names = refl;
    unplugged = refl;
    begins = refl;
    carries = record { stays_open = open_now; entries = sym (append-nil store.entries); out = laws.nothing disk store.entries held };
    picked = PickedBy-none choices;
    in_range = tt;
    touched = (refl, refl);
    executed = omega (arith, cheap);
  }
