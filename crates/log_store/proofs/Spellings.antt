-- The spellings of one record more, and the records that have spellings.
use Rattle.std.proofs.Common.{◌≡◌, ℕ, ◌+◌, ◌<◌, List, [], ◌∷◌, ◌++◌, length, get_or, take, subst, All}
use Rattle.std.proofs.lemmas.List.{flat_map_more, take_more}
use Rattle.std.proofs.lemmas.List.Elements.{All-nil, All-append, All-head, All-tail, All-same, All-weaker, All-more}
use Rattle.arn_base.specs.declared.records.Record.{Record}
use Rattle.result_log.specs.Spelling.{spelling, HasSpelling}
use Rattle.log_store.specs.Log.{spellings, records_of, IsCommit, IsSpellable}
use Rattle.log_store.specs.Pieces.{IsFound}

pub spellings-more : (entries : List Record) (i : ℕ) (e : Record) (out was now : List ℕ) → i < length entries → e ≡ get_or entries i e
    → was ≡ out ++ spellings (take i entries) → now ≡ was ++ spelling e → now ≡ out ++ spellings (take (i + 1) entries)
spellings-more entries i e out was now lt is was_is now_is = cc (take_more entries i e lt, flat_map_more spelling out (take i entries) e)

pub spellable-more : (entries : List Record) (i : ℕ) (e : Record) → i < length entries → e ≡ get_or entries i e
    → All IsSpellable (take i entries) → IsSpellable e → All IsSpellable (take (i + 1) entries)
spellable-more entries i e lt is all here = All-more IsSpellable entries i e lt all (subst IsSpellable is here)

-- the records of commits have spellings
commits_spelled : (commits : List (List Record)) → All IsCommit commits → All HasSpelling (records_of commits)
commits_spelled [] all = All-nil HasSpelling
commits_spelled (commit ∷ commits) all =
    let first = All-weaker IsSpellable HasSpelling (λ entry spellable. spellable.0) commit (All-head IsCommit commit commits all).are_spellable in
    All-append HasSpelling commit (records_of commits) first (commits_spelled commits (All-tail IsCommit commit commits all))

-- and so have those of a log that was read
pub found_spelled : (bytes : List ℕ) (entries : List Record) (end : List ℕ) → IsFound bytes entries end → All HasSpelling entries
found_spelled bytes entries end found =
    All-same HasSpelling entries (records_of found.commits) found.are_records (commits_spelled found.commits found.are_commits)
