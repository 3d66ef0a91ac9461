-- A process gets a fresh segment.
use Rattle.std.proofs.Common.{◌≡◌, ℕ, List, [], set, Option, Some, None, IsSome, IfSome, is_some, option_map, unwrap_or, ap, ap₂, subst, sym, refl, ◌∙◌}
use Rattle.std.proofs.lemmas.Bool.{eq-eqb}
use Rattle.parts_model.specs.Memory.{zeros}
use Rattle.parts_model.specs.declared.limits.TheConstants.{SEGMENT_LEN}
use Rattle.parts_model.specs.Numbered.{nth}
use Rattle.acts_model.specs.Acts.{Shares, done}
use Rattle.acts_model.specs.Bodies.{View}
use Rattle.acts_model.specs.Views.{returned}
use Rattle.guest_bodies.specs.Follows.{Follows, KeepsWatches}
use Rattle.guest_bodies.specs.Kept.{AllHeld, AreThere, IsSound, NameAlike, body_of, segment_part, shown_all, view_of, window_part}
use Rattle.guest_bodies.specs.Shown.{Guests, IsUnheldBy}
use Rattle.guest_bodies.specs.Tables.{Adds, Table, Tables, held_bytes}
use Rattle.guest_bodies.specs.declared.guest.Guest.{Guest}
use Rattle.guest_bodies.proofs.Changes.{KeepsOthers, follows-done, follows-put, of-one, of-two, seen-shown, sound-put, watches-kept}
use Rattle.guest_bodies.proofs.Fresh.{IsNew, named, sharing-alike, sharing-self}
use Rattle.guest_bodies.proofs.Holders.{OthersHeld, changed-holders, given-fresh, held-kept}
use Rattle.guest_bodies.proofs.InPlace.{Place}

abbrev pub sharing : Guest → ℕ → ℕ → Guest
sharing g event key = record g { cpu = returned g.cpu 0; segment = Some (named event key) }

module _ {guests : Guests} {all : List (Option Guest)} {tables tables' : Tables} {p : ℕ} {g : Guest} (event key : ℕ) (bytes : List ℕ) (at : Place guests all tables p g (sharing g event key)) (new : IsNew event all) (adds : Adds key bytes tables.segments tables'.segments) (same : tables'.windows ≡ tables.windows) where
  abbrev after : List (Option Guest)
  after = set all p (Some (sharing g event key))

  own : AreThere tables g
  own = of-one (AreThere tables) at.stands (at.sound.there p)

  held : IsUnheldBy event (body_of g)
  held = of-one (λ (x : Guest). IsUnheldBy event (body_of x)) at.stands (new.unheld p)

  keeps : KeepsOthers (sharing g event key) tables tables'
  keeps =
      record {
        windows = record { kept = λ k other there. ap (λ (t : Table). nth t k) same };
        segments = record { kept = λ k other there. adds.others k (λ (e : k ≡ key). other (ap (λ (n : ℕ). Some n) (sym e))) };
      }

  beside : (q : ℕ) → (o : Option Guest) → nth all q ≡ o → IfSome o (λ h. NameAlike (sharing g event key) h × NameAlike h (sharing g event key))
  beside q None here = tt
  beside q (Some h) here =
      sharing-alike event key tables adds.none (sharing g event key) g h refl refl (of-one (AreThere tables) here (at.sound.there q))
      (of-one (λ (x : Guest). IsUnheldBy event (body_of x)) here (new.unheld q))
      (of-two NameAlike at.stands here (at.sound.alike p q)) (of-two NameAlike here at.stands (at.sound.alike q p))

  pub shares-sound : IsSound after tables'
  shares-sound =
      sound-put p (sharing g event key) all after tables tables' at.sound at.changes keeps
      (record {
        window = ap (λ (t : Table). is_some (nth t g.window.key)) same ∙ own.window;
        segment = ap (λ (o : Option (List ℕ)). is_some o) adds.one;
      })
      (sharing-self event key tables adds.none (sharing g event key) refl held.window)
      (λ q ne. beside q (nth all q) refl)

  shares-view : bytes ≡ zeros SEGMENT_LEN → view_of tables' (sharing g event key) ≡ record { body = body_of (sharing g event key); window = held_bytes tables.windows (window_part g); segment = zeros SEGMENT_LEN }
  shares-view zero =
      ap₂ (λ (t : Table) (b : List ℕ). record { body = body_of (sharing g event key); window = held_bytes t (window_part g); segment = b }) same
      (ap (λ (o : Option (List ℕ)). unwrap_or o []) adds.one ∙ zero)

  pub shares-follows : bytes ≡ zeros SEGMENT_LEN → Follows guests (done p event Shares) (shown_all after tables')
  shares-follows zero =
      subst (λ (old : Guests). Follows old (done p event Shares) (shown_all after tables')) at.shown
      (follows-done (shown_all all tables) (shown_all after tables') p event Shares (view_of tables g) (view_of tables' (sharing g event key)) (seen-shown all tables p ∙ ap (option_map (view_of tables)) at.stands)
      (ap (λ (v : View). Some v) (sym (shares-view zero)))
      (λ b. refl)
      (follows-put p (sharing g event key) all after tables tables' at.sound shares-sound at.changes keeps))

  pub shares-watches : KeepsWatches guests (shown_all after tables')
  shares-watches =
      subst (λ (old : Guests). KeepsWatches old (shown_all after tables')) at.shown
      (watches-kept p g (sharing g event key) all after tables tables' at.stands refl at.changes)

  pub shares-windows : AllHeld window_part all tables.windows → AllHeld window_part after tables'.windows
  shares-windows windows =
      held-kept window_part all after tables.windows tables'.windows (changed-holders window_part p g (sharing g event key) all after at.stands refl at.changes) (λ k there. subst (λ (t : Table). IsSome (nth t k)) same there) windows

  pub shares-segments : AllHeld segment_part all tables.segments → OthersHeld segment_part g.segment after tables'.segments
  shares-segments segments =
      given-fresh segment_part p key g (sharing g event key) all after bytes tables.segments tables'.segments at.stands (eq-eqb key key refl) adds at.changes segments
