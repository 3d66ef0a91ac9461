-- Logs at literal bytes.
use Rattle.std.proofs.Common.{◌≡◌, ◌≢◌, inl, inr, ℕ, List, [], ◌∷◌, ◌++◌, codes, refl, arith, lit<, lit≤, All}
use Rattle.std.proofs.lemmas.List.Elements.{All-nil, All-cons}
use Rattle.arn_base.specs.declared.records.Record.{Record}
use Rattle.arn_base.specs.declared.records.Record.TheVariants as entry
use Rattle.result_log.specs.Spelling.{spelling}
use Rattle.log_store.specs.Log.{closed_log, log_name, IsCommit, IsLog, IsSpellable, IsClosedLog}
use Rattle.log_store.specs.Refused.{IsMisnamed, IsBroken}
use Rattle.log_store.proofs.Fields.{holds_more}

abbrev file_a : Record
file_a = entry.File (codes "a") (codes "ab")

abbrev file_b : Record
file_b = entry.File (codes "b") (codes "c")

abbrev commit_a : List Record
commit_a = file_a ∷ []

abbrev commit_b : List Record
commit_b = file_b ∷ []

is_commit_a : IsCommit commit_a
is_commit_a = record {
  are_spellable = All-cons IsSpellable file_a [] (((lit≤ tt, lit≤ tt), lit< tt), tt) (All-nil IsSpellable);
  is_counted = lit< tt;
}

is_commit_b : IsCommit commit_b
is_commit_b = record {
  are_spellable = All-cons IsSpellable file_b [] (((lit≤ tt, lit≤ tt), lit< tt), tt) (All-nil IsSpellable);
  is_counted = lit< tt;
}

only_a : All IsCommit (commit_a ∷ [])
only_a = All-cons IsCommit commit_a [] is_commit_a (All-nil IsCommit)

-- 41524e4c4f473031 01 09000000 01 01 61 02000000 6162
abbrev first : List ℕ
first = 0x41 ∷ 0x52 ∷ 0x4e ∷ 0x4c ∷ 0x4f ∷ 0x47 ∷ 0x30 ∷ 0x31 ∷ 1 ∷ 9 ∷ 0 ∷ 0 ∷ 0 ∷ 1 ∷ 1 ∷ 0x61 ∷ 2 ∷ 0 ∷ 0 ∷ 0 ∷ 0x61 ∷ 0x62 ∷ []

-- 08000000 01 01 62 01000000 63 00
abbrev second : List ℕ
second = 8 ∷ 0 ∷ 0 ∷ 0 ∷ 1 ∷ 1 ∷ 0x62 ∷ 1 ∷ 0 ∷ 0 ∷ 0 ∷ 0x63 ∷ 0 ∷ []

-- an empty commit has a frame, too
empty_frame : closed_log ([] ∷ []) ≡ log_name ++ 1 ∷ 0 ∷ 0 ∷ 0 ∷ 0 ∷ 0 ∷ []
empty_frame = refl

-- the name, the file a with the bytes ab, and a closed gate
one_file : IsClosedLog (first ++ 0 ∷ []) commit_a
one_file = record { commits = commit_a ∷ []; is_closed = record { are_commits = only_a; are_bytes = refl }; are_records = refl }

-- behind a gate of 7 nothing counts
gate-7 : IsLog (first ++ 7 ∷ second) commit_a
gate-7 = record {
  commits = commit_a ∷ [];
  is_log = inr (record {
    behind = _;
    is_named = refl;
    are_frames = record { end = 7 ∷ second; are_commits = only_a; is_end = inl (λ is_open. omega (arith, is_open)); are_bytes = refl };
  });
  are_records = refl;
}

-- behind a gate of 1 stands another frame
gate-1 : IsClosedLog (first ++ 1 ∷ second) (file_a ∷ file_b ∷ [])
gate-1 = record {
  commits = commit_a ∷ commit_b ∷ [];
  is_closed = record {
    are_commits = All-cons IsCommit commit_a (commit_b ∷ []) is_commit_a (All-cons IsCommit commit_b [] is_commit_b (All-nil IsCommit));
    are_bytes = refl;
  };
  are_records = refl;
}

-- an open gate that is the last byte ends a log
open_gate_last : IsLog (first ++ 1 ∷ []) commit_a
open_gate_last = record {
  commits = commit_a ∷ [];
  is_log = inr (record {
    behind = _;
    is_named = refl;
    are_frames = record { end = 1 ∷ []; are_commits = only_a; is_end = inr refl; are_bytes = refl };
  });
  are_records = refl;
}

-- nine bytes are a fresh log
fresh_name : IsLog (log_name ++ 1 ∷ []) []
fresh_name = record { commits = []; is_log = inl (lit≤ tt, refl); are_records = refl }

fresh_others : IsLog (codes "ARNLOG99") []
fresh_others = record { commits = []; is_log = inl (lit≤ tt, refl); are_records = refl }

-- what a store leaves of a fresh log
no_records : IsClosedLog (log_name ++ 0 ∷ []) []
no_records = record { commits = []; is_closed = record { are_commits = All-nil IsCommit; are_bytes = refl }; are_records = refl }

-- ARNLOG99 00 00 is no log: the byte at place 6 differs
misnamed : IsMisnamed (codes "ARNLOG99" ++ 0 ∷ 0 ∷ []) 6
misnamed = record {
  is_long = lit< tt;
  is_within = lit< tt;
  are_same = refl;
  differs = λ same. cc same;
}

-- a payload that is cut short, behind the gate at place 8
cut_short : IsBroken (log_name ++ 1 ∷ 9 ∷ 0 ∷ 0 ∷ 0 ∷ 1 ∷ 1 ∷ 0x61 ∷ 2 ∷ 0 ∷ 0 ∷ 0 ∷ []) 8
cut_short = record {
  commits = [];
  behind = _;
  are_commits = All-nil IsCommit;
  are_bytes = refl;
  cause = inl (record { is_at_gate = refl; has_more = λ none. cc none; holds_none = λ payload next holds. let long = holds_more 9 (1 ∷ 1 ∷ 0x61 ∷ 2 ∷ 0 ∷ 0 ∷ 0 ∷ []) _ payload next (lit< tt) refl holds in omega (arith, long) });
}

-- no kind of record is spelled by 9
none_of_9 : (e : Record) (bytes rest : List ℕ) → 9 ∷ bytes ≢ spelling e ++ rest
none_of_9 (entry.File name content) bytes rest e = cc e
none_of_9 (entry.Boot name g) bytes rest e = cc e
none_of_9 (entry.Typed content) bytes rest e = cc e
none_of_9 (entry.Unplug device) bytes rest e = cc e
none_of_9 (entry.Slice pid ran) bytes rest e = cc e
none_of_9 (entry.Signal pid signal cut handler) bytes rest e = cc e
none_of_9 (entry.Call pid number answer did) bytes rest e = cc e
none_of_9 (entry.End pid status) bytes rest e = cc e

-- a whole frame whose payload is no record, behind the gate at place 8
misspelled : IsBroken (log_name ++ 1 ∷ 2 ∷ 0 ∷ 0 ∷ 0 ∷ 9 ∷ 9 ∷ 0 ∷ []) 13
misspelled = record {
  commits = [];
  behind = _;
  are_commits = All-nil IsCommit;
  are_bytes = refl;
  cause = inr (record {
    payload = 9 ∷ 9 ∷ [];
    next = 0 ∷ [];
    holds = record { is_counted = lit< tt; is_next = λ none. cc none; are_bytes = refl };
    records = [];
    rest = 9 ∷ 9 ∷ [];
    are_spellable = All-nil IsSpellable;
    are_bytes = refl;
    has_more = λ none. cc none;
    begins_none = λ e rest spellable. none_of_9 e (9 ∷ []) rest;
    is_place = refl;
  });
}
