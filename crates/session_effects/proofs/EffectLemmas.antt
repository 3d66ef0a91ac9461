-- What effects commit and print, one behind the other.
use Rattle.std.proofs.Common.{◌≡◌, ℕ, ◌++◌, List, [], ◌∷◌, sym, ap, ◌∙◌, append_assoc, append-nil}
use Rattle.std.proofs.lemmas.Grind.{flat_map-append}
use Rattle.arn_base.specs.declared.records.Record.{Record}
use Rattle.session_effects.specs.Effects.{Effect, Commits, Prints, records_of, text_of, committed, printed}

pub committed-append : (first others : List Effect) → committed (first ++ others) ≡ committed first ++ committed others
committed-append first others = flat_map-append records_of first others

pub printed-append : (first others : List Effect) → printed (first ++ others) ≡ printed first ++ printed others
printed-append first others = flat_map-append text_of first others

pub committed-one : (entries : List Record) → committed (Commits entries ∷ []) ≡ entries
committed-one entries = append-nil entries

pub printed-one : (text : List ℕ) → printed (Prints text ∷ []) ≡ text
printed-one text = append-nil text

-- records behind a history, and those of effects behind them
pub history-append : (history : List Record) (first others : List Effect) → (history ++ committed first) ++ committed others ≡ history ++ committed (first ++ others)
history-append history first others =
    append_assoc history (committed first) (committed others) ∙ ap (λ (x : List Record). history ++ x) (sym (committed-append first others))
