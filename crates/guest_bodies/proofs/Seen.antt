-- What is seen of a process that stands in the table.
use Rattle.std.proofs.Common.{◌≡◌, List, Option, Some, ℕ, option_map, ap, sym, ◌∙◌}
use Rattle.guest_bodies.specs.Kept.{shown_all, view_of}
use Rattle.guest_bodies.specs.Shown.{Guests, seen_in}
use Rattle.guest_bodies.specs.Tables.{Tables}
use Rattle.guest_bodies.specs.declared.guest.Guest.{Guest}
use Rattle.guest_bodies.proofs.Changes.{seen-shown}
use Rattle.parts_model.specs.Numbered.{nth}

pub seen-there : (guests : Guests) (all : List (Option Guest)) (tables : Tables) (p : ℕ) (g : Guest) → shown_all all tables ≡ guests → nth all p ≡ Some g → seen_in guests p ≡ Some (view_of tables g)
seen-there guests all tables p g shown stands =
    sym (ap (λ (gs : Guests). seen_in gs p) shown) ∙ (seen-shown all tables p ∙ ap (option_map (view_of tables)) stands)
