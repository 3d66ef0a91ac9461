use Rattle.std.proofs.Common.{◌≡◌, ◌++◌, take, All}
use Rattle.log_store.specs.Log.{spellings, IsSpellable}
use Rattle.log_store.proofs.commits.put_records.Given as goal

abbrev pub invariant-loop-entry : goal.invariant-loop-entry
invariant-loop-entry l = record {
  put : l.out.items ≡ l.initial.out.items ++ spellings (take l.entry-index l.entries);
  spellable : All IsSpellable (take l.entry-index l.entries);
}
