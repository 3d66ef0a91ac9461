use Rattle.std.proofs.Common.{◌<◌, length, sym, subst}
use Rattle.result_log.specs.Spelling.{HasSpelling}
use Rattle.log_store.proofs.Spellings.{spellings-more, spellable-more}
use Rattle.log_store.proofs.commits.put_records.Goals as goal

pub loop-entry-preserved : goal.loop-entry-preserved
loop-entry-preserved c =
    let i = c.loop-entry.entry-index in
    let entry = c.entry-item.result in
    let within : i < length c.args.entries.now = c.loop-entry-test.true in
    record {
      put = spellings-more c.args.entries.now i entry _ _ _ within c.entry-item.is c.loop-entry.invariant.put c.in_ok-put_record.ensures.ok;
      spellable = spellable-more c.args.entries.now i entry within c.entry-item.is c.loop-entry.invariant.spellable
          (subst HasSpelling (sym c.entry-item.is) (c.requires i entry within), c.in_ok-put_record.ensures.reads.fits);
    }
