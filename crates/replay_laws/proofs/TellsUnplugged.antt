-- The records tell which devices were unplugged.
use Rattle.std.proofs.lemmas.Bool.Decides.{nat_tests}
use Rattle.std.proofs.Common.{◌≡◌, ℕ, true, List, [], ◌∷◌, ◌++◌, map, filter, refl, sym, ap, ◌∙◌, append_assoc, append-nil, arith}
use Rattle.arn_base.specs.declared.records.Record.{Record}
use Rattle.arn_base.specs.declared.records.Record.TheVariants as entry
use Rattle.acts_model.specs.Moved.{Event}
use Rattle.acts_model.specs.Records.{is_event}
use Rattle.arn_model.specs.Kernel.{Machine}
use Rattle.arn_model.specs.Step.{Step}
use Rattle.arn_model.specs.Tells.{is_inner}
use Rattle.history_model.specs.Unplugged.{unplugged_in}
use Rattle.replay_laws.proofs.TellsSteps.{Facts, by_event, fold_events}

-- slices unplug nothing
pub unplugged-kept : (entries : List Record) → unplugged_in entries ≡ unplugged_in (filter is_event entries)
unplugged-kept [] = refl
unplugged-kept (entry.Unplug device ∷ entries) = ap (λ (devices : List ℕ). device ∷ devices) (unplugged-kept entries)
unplugged-kept (_ ∷ entries) = unplugged-kept entries

-- those that were unplugged before an event, and the one that it unplugs
abbrev pub unplugs : ℕ → Record → List ℕ → List ℕ
unplugs n (entry.Unplug device) old = old ++ device ∷ []
unplugs n other old = old

pub unplugs-fold : (es : List Event) (old : List ℕ) → old ++ unplugged_in (map (λ e. e.entry) es) ≡ fold_events unplugs es old
unplugs-fold [] old = append-nil old
unplugs-fold (e ∷ es) old = by_entry e.entry ∙ unplugs-fold es (unplugs e.number e.entry old)
  where
    by_entry : (x : Record) → old ++ unplugged_in (x ∷ map (λ e. e.entry) es) ≡ unplugs e.number x old ++ unplugged_in (map (λ e. e.entry) es)
    by_entry (entry.Unplug device) = sym (append_assoc old (device ∷ []) (unplugged_in (map (λ e. e.entry) es)))
    by_entry _ = refl

inner-unplugs : (n : ℕ) (e : Record) (old : List ℕ) → is_inner e ≡ true → unplugs n e old ≡ old
inner-unplugs n e old h1 = grind (arith, nat_tests)

abbrev pub UnpluggedAre : Machine → List ℕ → Type 0
UnpluggedAre m devices = devices ≡ m.kernel.unplugged

pub unplugs-keep : (m : Machine) (s : Step) (old : List ℕ) → Facts m s → UnpluggedAre m old → UnpluggedAre s.after (by_event unplugs s.moved.inside.event old)
unplugs-keep m s old h1 h2 = grind (arith, nat_tests, inner-unplugs)
