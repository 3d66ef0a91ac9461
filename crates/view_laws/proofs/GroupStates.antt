-- The state of a group alone.
use Rattle.std.proofs.lemmas.Bool.Decides.{nat_tests}
use Rattle.std.proofs.Common.{◌≡◌, ℕ, suc, Bool, true, false, cond, ◌&&◌, List, [], ◌∷◌, length, Option, Some, None, is_some, refl, sym, ap, ap₂, ◌∙◌, arith, filter, filter_map, option_map}
use Rattle.std.specs.List.{cons_option, range_with_len}
use Rattle.std.proofs.lemmas.Bool.{false≢true, and_right}
use Rattle.std.proofs.lemmas.Map.Views.{exact_unsigned_eq}
use Rattle.parts_model.specs.Numbered.{nth}
use Rattle.parts_model.specs.Processes.{live, live_process}
use Rattle.acts_model.specs.Bodies.{Body, Bodies, seen}
use Rattle.arn_model.specs.Kernel.{Machine}
use Rattle.arn_model.specs.Laws.{EachRunAppends, EachRunIsSound}
use Rattle.arn_model.specs.Run.{Input, machine_after, state_at}
use Rattle.arn_model.specs.Sound.{IsSoundMachine}
use Rattle.arn_model.specs.Tells.{HasNumbers, lives}
use Rattle.guest_bodies.specs.Follows.{Shows}
use Rattle.guest_bodies.specs.Shown.{Guests, Shown, seen_in}
use Rattle.guest_states.specs.State.{Holder, holder, state_of}
use Rattle.history_model.specs.Groups.{Groups, group_of, is_number}
use Rattle.log_model.specs.Records.{records}
use Rattle.replay_laws.specs.Laws.{GroupsPassThrough, IsRestriction}
use Rattle.replayer.specs.Lives.{live_in}
use Rattle.view_laws.specs.States.{GroupStateRun}
use Rattle.view_laws.proofs.Living.{filter-both, live-are, lives-past, nth-past, same-from}
use Rattle.view_laws.proofs.Sounds.{sound-at}

map-some : {A B : Type 0} (f : A → B) (o : Option A) → is_some (option_map f o) ≡ is_some o
map-some f None = refl
map-some f (Some x) = refl

some-if : (b : Bool) (o : Option Body) → is_some (cond b o None) ≡ (b && is_some o)
some-if true o = refl
some-if false o = refl

number-is : (g : ℕ) (o : Option ℕ) → is_number g o ≡ true → o ≡ Some g
number-is g None e = absurd (false≢true e)
number-is g (Some n) e = ap (λ (k : ℕ). Some k) (exact_unsigned_eq n g e)

-- those that pass a test are the same holders, where what they see agrees
kept-same : (test : ℕ → Bool) (f h : ℕ → Option Holder) (x : ℕ) (xs : List ℕ) (b : Bool) → test x ≡ b → (test x ≡ true → f x ≡ h x) → filter_map f xs ≡ filter_map h xs → filter_map f (cond b (x ∷ xs) xs) ≡ filter_map h (cond b (x ∷ xs) xs)
kept-same test f h x xs true e same rest = ap₂ (λ (o : Option Holder) (l : List Holder). cons_option o l) (same e) rest
kept-same test f h x xs false e same rest = rest

all-same : (test : ℕ → Bool) (f h : ℕ → Option Holder) → ((x : ℕ) → test x ≡ true → f x ≡ h x) → (xs : List ℕ) → filter_map f (filter test xs) ≡ filter_map h (filter test xs)
all-same test f h same [] = refl
all-same test f h same (x ∷ xs) = kept-same test f h x (filter test xs) (test x) refl (same x) (all-same test f h same xs)

module _ (g : ℕ) (groups : Groups) (m : Machine) (own : Bodies) (whole : IsRestriction g groups m own) (guests : Guests) (shows : Shows guests own) where
  abbrev is_own : ℕ → Bool
  is_own pid = is_number g (groups pid)

  -- who lives
  pub own-lives : IsSoundMachine m → (pid : ℕ) → is_some (nth guests pid) ≡ (is_own pid && lives m.kernel pid)
  own-lives h1 pid = grind (arith, nat_tests, map-some, some-if)

  pub living : IsSoundMachine m → live_in guests ≡ filter is_own (live m.kernel.processes)
  living sound =
      let all = m.kernel.processes in
      let lives_in : ℕ → Bool = λ k. is_some (live_process all k) in
      same-from (length guests) (suc (length all)) 0 (λ k. is_some (nth guests k)) (λ k. is_own k && lives_in k) (own-lives sound)
      (λ k h. ap (λ (o : Option Shown). is_some o) (nth-past guests k (omega arith)))
      (λ k h. ap (λ (b : Bool). is_own k && b) (lives-past all k (omega arith)) ∙ and_right (is_own k) false refl)
      ∙ sym (ap (filter is_own) (live-are all) ∙ filter-both is_own lives_in (range_with_len 0 (suc (length all))))

  -- what they see
  holds-same : (pid : ℕ) → is_own pid ≡ true → option_map (holder pid) (seen_in guests pid) ≡ option_map (holder pid) (seen m.bodies pid)
  holds-same pid e = ap (option_map (holder pid)) (shows.same pid ∙ whole.views pid (number-is g (groups pid) e))

  same-state : (pids : List ℕ) → state_of (seen_in guests) (filter is_own pids) ≡ state_of (seen m.bodies) (filter is_own pids)
  unfolding state_of
  same-state pids = grind (arith, nat_tests, all-same, holds-same)

  pub states : IsSoundMachine m → state_of (seen_in guests) (live_in guests) ≡ state_of (seen m.bodies) (filter is_own (live m.kernel.processes))
  states sound = ap (state_of (seen_in guests)) (living sound) ∙ same-state (live m.kernel.processes)

pub state-run : (inputs : List Input) (g moment : ℕ) → HasNumbers (machine_after inputs).kernel → GroupsPassThrough → EachRunAppends → EachRunIsSound → GroupStateRun inputs g moment
state-run inputs g moment few passes append sounds =
    let through = passes inputs g moment few in
    let sound = sound-at inputs moment append sounds in
    record {
      own = through.own;
      agrees = through.made;
      live = λ guests shows. living g (group_of (records inputs)) (state_at inputs moment) through.own.bodies through.whole guests shows sound;
      state = λ guests shows. states g (group_of (records inputs)) (state_at inputs moment) through.own.bodies through.whole guests shows sound;
    }
