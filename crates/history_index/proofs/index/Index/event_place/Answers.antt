use Rattle.std.proofs.Common.{◌≡◌, slice_get, option_map, ◌∙◌, rules}
use Rattle.history_index.proofs.Lookups.{place-told}
use Rattle.history_index.proofs.index.Index.event_place.Goals as goal

pub returns : goal.returns
returns c entries i =
    let told : c.map.result ≡ option_map (λ e. e.place) (slice_get c.args.self.now.events c.args.event) = search rules in
    told ∙ place-told c.args.self.now entries c.args.event i
