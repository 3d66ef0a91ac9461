-- Whoever lives at a moment is seen, with all bytes of its windows.
use Rattle.std.proofs.Common.{◌≡◌, ℕ, ◌&&◌, nat_le, Bool, true, false, is_some, List, Option, Some, None, IfSome, option_and_then, option_map, refl, sym, ap, subst, ◌∙◌}
use Rattle.std.proofs.lemmas.Bool.{and_parts}
use Rattle.arn_base.specs.declared.machine.Cpu.{Cpu}
use Rattle.arn_base.specs.declared.records.Record.{Record}
use Rattle.parts_model.specs.declared.limits.TheConstants.{MOST_ASKED}
use Rattle.acts_model.specs.Bodies.{Body, Bodies, View, body_at, seen, view}
use Rattle.acts_model.specs.Views.{bytes_in, can_reach}
use Rattle.guest_bodies.specs.Shown.{Guests, seen_in}
use Rattle.history_model.specs.Alone.{Own, Made, Makes, alone}
use Rattle.history_model.specs.Broken.{first_broken}
use Rattle.history_model.specs.Groups.{group_of}
use Rattle.history_model.specs.Moments.{lives_at, segment_at}
use Rattle.past_lives.specs.Laws.{IsSeen, LivesHaveGroups, MembersAreSeen, WindowsAreWhole}
use Rattle.past_lives.specs.Members.{is_member, is_memory_range, is_moment, is_present}
use Rattle.state_viewer.specs.Shown.{ShowsGroup}
use Rattle.state_viewer.specs.Views.{made_by, made_of}

-- what is seen of a process that lives
pub record IsThere (entries : List Record) (moment pid : ℕ) (own : Own) : Type 0 where
  pub v : View
  pub sees : seen own.bodies pid ≡ Some v
  pub segment : v.body.segment ≡ segment_at entries moment pid
  pub g : ℕ
  pub made : alone entries g moment ≡ Makes own

is-there : (entries : List Record) (moment pid : ℕ) (own : Own) → first_broken entries ≡ None → MembersAreSeen → LivesHaveGroups → is_member entries moment pid ≡ true → made_of entries moment pid ≡ Makes own
    → IsThere entries moment pid own
is-there entries moment pid own broken are_seen have member made = by_group (group_of entries pid) refl made (have entries moment pid broken lives)
  where
    lives : lives_at entries moment pid ≡ true
    lives = (and_parts (is_moment entries moment) (lives_at entries moment pid) member).1

    by_body : (g : ℕ) → alone entries g moment ≡ Makes own → (o : Option Body) → body_at own.bodies pid ≡ o → is_some o ≡ lives_at entries moment pid → IfSome o (λ x. x.segment ≡ segment_at entries moment pid) → IsThere entries moment pid own
    by_body g m None e l s = absurd (let no = l ∙ lives in cc)
    by_body g m (Some x) e l s = record { v = view own.bodies x; sees = ap (option_map (view own.bodies)) e; segment = s; g = g; made = m }

    by_group : (o : Option ℕ) → group_of entries pid ≡ o → made_by entries moment o ≡ Makes own → is_some o ≡ true → IsThere entries moment pid own
    by_group None e m h = absurd (cc)
    by_group (Some g) e m h = let is = are_seen entries g moment own broken m pid e in by_body g m (body_at own.bodies pid) refl is.lives is.segment

some-there : (A : Type 0) (f : View → A) (o : Option View) (v : View) → o ≡ Some v → None ≡ option_map f o → ⊥
some-there A f o v e n = let no : None ≡ Some (f v) = n ∙ ap (option_map f) e in cc

-- its registers are
pub never-none : (entries : List Record) (moment pid : ℕ) (guests : Guests) → first_broken entries ≡ None → MembersAreSeen → LivesHaveGroups → is_member entries moment pid ≡ true
    → ShowsGroup (made_of entries moment pid) guests → None ≡ option_map (λ v. v.body.cpu) (seen_in guests pid) → ⊥
never-none entries moment pid guests broken are_seen have member shows none =
    let there = is-there entries moment pid shows.own broken are_seen have member shows.makes in
    some-there Cpu (λ v. v.body.cpu) (seen_in guests pid) there.v (shows.shows.same pid ∙ there.sees) none

-- its bytes are
pub never-outside : (entries : List Record) (moment pid at len : ℕ) (guests : Guests) → first_broken entries ≡ None → MembersAreSeen → LivesHaveGroups → WindowsAreWhole entries
    → is_memory_range entries moment pid at len ≡ true → ShowsGroup (made_of entries moment pid) guests → None ≡ option_and_then (λ v. bytes_in v at len) (seen_in guests pid) → ⊥
never-outside entries moment pid at len guests broken are_seen have whole range shows none =
    let held = is_some (segment_at entries moment pid) in
    let parts = and_parts (is_member entries moment pid) (nat_le len MOST_ASKED && is_present held at len) range in
    let present = (and_parts (nat_le len MOST_ASKED) (is_present held at len) parts.1).1 in
    let there = is-there entries moment pid shows.own broken are_seen have parts.0 shows.makes in
    let sees = there.sees in
    let reaches = subst (λ (o : Option View). IfSome o (λ v. (at len : ℕ) → can_reach v at len ≡ is_present (is_some v.body.segment) at len)) sees (whole there.g moment shows.own broken there.made pid) at len in
    let can : can_reach there.v at len ≡ true = reaches ∙ (ap (λ (o : Option ℕ). is_present (is_some o) at len) there.segment ∙ present) in
    let gone : bytes_in there.v at len ≡ None =
    sym (none ∙ ap (option_and_then (λ v. bytes_in v at len)) (shows.shows.same pid ∙ sees)) in
    let no : true ≡ false = sym can ∙ ap is_some gone in
    cc
