-- What the tables tell.
use Rattle.std.proofs.Common.{◌≡◌, ℕ, suc, ◌+◌, ◌<◌, List, [], ◌∷◌, length, filter, slice_get, Option, Some, None, option_map, option_and_then, refl, ap, sym, ◌∙◌, arith, add-zero}
use Rattle.std.specs.List.{range_with_len}
use Rattle.std.proofs.lemmas.List.{length-map}
use Rattle.std.proofs.lemmas.Option.{slice_get-map}
use Rattle.arn_base.specs.declared.records.Record.{Record}
use Rattle.acts_model.specs.Records.{event_len, process_of}
use Rattle.history_model.specs.Events.{events, how_many, event_at, len_of}
use Rattle.history_model.specs.Groups.{Groups, group_of, is_number}
use Rattle.replay_groups.specs.Groups.{members_from}
use Rattle.replay_groups.specs.Groups as replay
use Rattle.history_index.specs.declared.events.EventAt.{EventAt}
use Rattle.history_index.specs.Indexes.{Indexes}
use Rattle.history_index.specs.Lookups.{event_place, event_moment, members_of}
use Rattle.history_index.specs.Tables.{Tables}

pub place-told : (t : Tables) (entries : List Record) (n : ℕ) → Indexes t entries → option_map (λ e. e.place) (slice_get t.events n) ≡ event_place entries n
place-told t entries n i =
    sym (slice_get-map (λ (e : EventAt). e.place) t.events n) ∙ ap (λ (xs : List ℕ). slice_get xs n) i.events.places

pub moment-told : (t : Tables) (entries : List Record) (n : ℕ) → Indexes t entries → option_map (λ e. e.moment) (slice_get t.events n) ≡ event_moment entries n
moment-told t entries n i =
    sym (slice_get-map (λ (e : EventAt). e.moment) t.events n) ∙ ap (λ (xs : List ℕ). slice_get xs n) i.events.moments

pub len-told : (t : Tables) (entries : List Record) (n : ℕ) → Indexes t entries → option_map (λ e. e.len) (slice_get t.events n) ≡ len_of entries n
len-told t entries n i =
    sym (slice_get-map (λ (e : EventAt). e.len) t.events n)
    ∙ ap (λ (xs : List ℕ). slice_get xs n) i.events.lens
    ∙ slice_get-map event_len (events entries) n

pub events-told : (t : Tables) (entries : List Record) → Indexes t entries → length t.events ≡ how_many entries
events-told t entries i =
    sym (length-map t.events (λ (e : EventAt). e.len)) ∙ ap length i.events.lens ∙ length-map (events entries) event_len

members-from : (groups : List ℕ) (told : Groups) (group pid : ℕ) → ((k : ℕ) → k < length groups → told (pid + k) ≡ slice_get groups k) → members_from pid group groups ≡ filter (λ q. is_number group (told q)) (range_with_len pid (length groups))
members-from [] told group pid are = refl
members-from (g ∷ groups) told group pid are =
    let here : told pid ≡ Some g = rw add-zero at (are 0 (omega arith)) in
    let rest = members-from groups told group (pid + 1) (λ k h. let same : pid + 1 + k ≡ pid + suc k = omega arith in rw same (are (suc k) (omega arith))) in
    rw (here, rest) refl

pub members-told : (t : Tables) (entries : List Record) (group : ℕ) → Indexes t entries → replay.members_of t.families.groups group ≡ members_of entries group
members-told t entries group i =
    members-from t.families.groups (group_of entries) group 1 (λ k h. let same : 1 + k ≡ suc k = omega arith in rw same (sym (i.families.groups (suc k))))
    ∙ ap (λ (n : ℕ). filter (λ q. is_number group (group_of entries q)) (range_with_len 1 n)) i.families.processes

flat : {A B : Type 0} (f : A → Option B) (o : Option A) → option_and_then f o ≡ option_and_then (λ x. x) (option_map f o)
flat f None = refl
flat f (Some x) = refl

pub pid-told : (t : Tables) (entries : List Record) (n : ℕ) → Indexes t entries → option_and_then (λ e. e.pid) (slice_get t.events n) ≡ option_and_then process_of (event_at entries n)
pid-told t entries n i =
    flat (λ (e : EventAt). e.pid) (slice_get t.events n)
    ∙ ap (option_and_then (λ (o : Option ℕ). o)) (sym (slice_get-map (λ (e : EventAt). e.pid) t.events n) ∙ ap (λ (xs : List (Option ℕ)). slice_get xs n) i.events.pids ∙ slice_get-map process_of (events entries) n)
    ∙ sym (flat process_of (slice_get (events entries) n))
