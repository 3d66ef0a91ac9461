-- A replay that a tracker heard.
use Rattle.std.proofs.Common.{◌≡◌, ℕ, ◌+◌, List, None, All, Result, Ok, Err, IfOk, IsOk, OnOk, sym, ap, ◌∙◌}
use Rattle.arn_base.specs.declared.records.Record.{Record}
use Rattle.rv64_model.specs.declared.linkage.Linkage.{Linkage}
use Rattle.guest_bodies.specs.Shown.{Guests}
use Rattle.history_model.specs.Alone as history
use Rattle.history_model.specs.Alone.{Made}
use Rattle.history_model.specs.Broken.{first_broken}
use Rattle.query_model.specs.Answers.{disagreement_in}
use Rattle.replay_steps.specs.Standing as standing
use Rattle.replay_steps.specs.Standing.{asked}
use Rattle.replay_steps.specs.declared.errors.ReplayError.{ReplayError}
use Rattle.replay_steps.specs.declared.errors.ReplayError.TheVariants as replay_error
use Rattle.replayer.specs.Bounds.{RunsBefore, ran_before}
use Rattle.replayer.specs.Replays.{Replays}
use Rattle.window_laws.specs.Blocks.{HasWholeBlocks}
use Rattle.taint_laws.specs.Laws.{FollowsHolders, ToldHears, ToldHolds, ToldShows, following}
use Rattle.taint_state.specs.Goes.{nothing_tracked}
use Rattle.taint_state.specs.Kept.{Kept, shown}
use Rattle.followed_groups.specs.Follows.{Explains, Follows}

-- a replay that ended well gave something
pub replayed : (entries : List Record) (g until : ℕ) (x y : Kept) (n m : ℕ) (o : Result Guests ReplayError) → IsOk o → IfOk o (λ guests. Replays (following shown) x n (history.alone entries g until) guests y m)
    → (guests : Guests) × Replays (following shown) x n (history.alone entries g until) guests y m
replayed entries g until x y n m (Ok guests) is r = (guests, r)
replayed entries g until x y n m (Err e) is r = absurd (cc)

module _ (entries : List Record) (unbroken : first_broken entries ≡ None) (g until : ℕ) (x y : Kept) (n m : ℕ) (guests : Guests) (r : Replays (following shown) x n (history.alone entries g until) guests y m) where
  pub follows : (linkage : Linkage) → FollowsHolders → ToldShows shown → ToldHears shown → ToldHolds shown → All HasWholeBlocks entries → shown x ≡ nothing_tracked linkage → Follows linkage entries until g y
  follows linkage holders shows hears held whole from =
      let followed = holders entries g until r.own unbroken whole r.makes in
      record {
        own = r.own;
        makes = r.makes;
        shows = shows linkage r.own.inside x y followed.steps followed.possible followed.new from r.told;
        holds = λ pid. held linkage r.own.inside x y followed.steps followed.possible followed.new from r.told pid ∙ sym (followed.holds pid);
        heard = hears linkage r.own.inside x y followed.steps followed.possible followed.new from r.told;
      }

  pub counted : RunsBefore → m ≡ n + ran_before entries g until
  counted runs = r.counted ∙ ap (λ (k : ℕ). n + k) (runs.exact entries g until r.own unbroken r.makes)

-- what is said of a result that is there
pub on-ok : {X Y : Type 0} (r : Result X Y) (P : Type 0) → IsOk r → OnOk r P → P
on-ok (Ok x) P is h = h
on-ok (Err e) P is h = absurd (cc)

pub explained : (made : Made) (e : ReplayError) → standing.Explains made e → Explains (disagreement_in made) (asked e)
explained made (replay_error.Disagrees d) h = ap disagreement_in h
explained made replay_error.NoMemory h = tt
