-- A source and a sink in memory.
use Rattle.std.specs.Prelude.{◌≡◌, ℕ, ◌+◌, ◌≤◌, ◌<◌, ◌↔◌, min, List, [], length, Contains}
use Rattle.arn_base.specs.Faults.{greatest}

-- a source: the bytes that are left, the most that it gives at once, the numbers of the calls that
-- fail, how many calls there were, and how many of them failed
pub record SourceState : Type 0 where
  pub left : List ℕ
  pub most : ℕ
  pub fails : List ℕ
  pub calls : ℕ
  pub faults : ℕ

-- before the first call
abbrev pub fresh_source : List ℕ → List ℕ → ℕ → SourceState
fresh_source bytes fails most =
    record { left = bytes; most = most; fails = fails; calls = 0; faults = 0 }

-- the place lies in the bytes, and something is given at once
pub record IsSourceSound (bytes : List ℕ) (at most : ℕ) : Type 0 where
  pub in_range : at ≤ length bytes
  pub some : 0 < most

-- a sink: the bytes that it holds, and its calls as those of a source
pub record SinkState : Type 0 where
  pub held : List ℕ
  pub fails : List ℕ
  pub calls : ℕ
  pub faults : ℕ

-- before the first call
abbrev pub fresh_sink : List ℕ → SinkState
fresh_sink fails = record { held = []; fails = fails; calls = 0; faults = 0 }

-- the call was counted among the others, and failed exactly where its number is listed
pub record CountsSource (has_failed : Type 0) (old new : SourceState) : Type 0 where
  pub listed : has_failed ↔ Contains old.fails old.calls
  pub same : new.fails ≡ old.fails
  pub counted : new.calls ≡ min (old.calls + 1) greatest

pub record CountsSink (has_failed : Type 0) (old new : SinkState) : Type 0 where
  pub listed : has_failed ↔ Contains old.fails old.calls
  pub same : new.fails ≡ old.fails
  pub counted : new.calls ≡ min (old.calls + 1) greatest
