-- An index with one more event.
use Rattle.std.proofs.Common.{◌≡◌, ◌≢◌, ◌⊎◌, inl, inr, ℕ, zero, suc, ◌+◌, ◌-◌, ◌<◌, ◌≤◌, ◌==◌, ◌||◌, ◌&&◌, not, Bool, true, false, if◌then◌else◌, List, [], ◌∷◌, ◌++◌, length, Option, Some, None, IfSome, refl, ap, sym, subst, ◌∙◌, arith}
use Rattle.std.proofs.lemmas.Bool.{or_parts, cases_Bool, not-false, true≢false, eqb-true, and_right, and_parts}
use Rattle.std.proofs.lemmas.Bool.Decides.{eqb_tells}
use Rattle.arn_base.specs.declared.records.Extra.{Extra}
use Rattle.arn_base.specs.declared.records.Extra.TheVariants as extra
use Rattle.arn_base.specs.declared.records.Give.{Give}
use Rattle.arn_base.specs.declared.records.Record.{Record}
use Rattle.arn_base.specs.declared.records.Record.TheVariants as entry
use Rattle.parts_model.specs.declared.calls.TheConstants.{FORK, EXIT}
use Rattle.parts_model.specs.Replies.{is_success}
use Rattle.acts_model.specs.Records.{is_event, give_of, LifeChange, BeginsLife, EndsLife, NoLife, child_forked, child_life, life_told, lives_after}
use Rattle.history_model.specs.Broken.{Behind, Nowhere, ASlice, ADelivery, behind, is_behind, lacks_slice, are_origins, has_blocks_wrong, start_in, misnumbers, child_in, misplaces_start, cant_follow, greatest, greatest_after}
use Rattle.history_model.specs.Groups.{Groups, groups_told, group_made, group_of, is_number}
use Rattle.history_model.specs.Names.{is_boot, is_booted}
use Rattle.history_model.specs.Moments.{changed}
use Rattle.replay_groups.specs.Groups.{group_at}
use Rattle.history_index.specs.After.{born_group, child_group_in, ended_by, with_end}
use Rattle.history_index.specs.Families.{Families, lives_in, with_ended}
use Rattle.history_index.specs.Indexes.{Indexes, IsMade, IsFounded}
use Rattle.history_index.specs.Lookups.{founds}
use Rattle.history_index.specs.Tables.{Tables}
use Rattle.history_index.proofs.NextSlice.{group-some}

-- no process begins
abbrev pub IsQuiet : LifeChange → Type 0
IsQuiet (BeginsLife pid) = ⊥
IsQuiet _ = Unit {0}

-- an event that makes no process
pub record MakesNone (f : Families) (told : Groups) (n : ℕ) (e : Record) : Type 0 where
  pub born : born_group f e ≡ None
  pub groups : groups_told e told ≡ told
  pub greatest : greatest_after e n ≡ n
  pub life : IsQuiet (life_told e)
  pub founds : (h : ℕ) → founds h e ≡ false

-- an event that makes the next one, of a group
pub record MakesNext (f : Families) (told : Groups) (n : ℕ) (e : Record) (group : ℕ) : Type 0 where
  pub born : born_group f e ≡ Some group
  pub groups : groups_told e told ≡ changed told (n + 1) (Some group)
  pub greatest : greatest_after e n ≡ n + 1
  pub life : life_told e ≡ BeginsLife (n + 1)
  pub booted : is_boot e ≡ false → 0 < n
  pub founds : (h : ℕ) → founds h e ≡ ((h == n + 1) && (group == n + 1))
  pub founded : IsFounded (n + 1) group

quiet-if : (b : Bool) (pid : ℕ) → IsQuiet (if b then EndsLife pid else NoLife)
quiet-if true pid = tt
quiet-if false pid = tt

-- what a call makes, where it is a successful fork or isn't
quiet-call : (b : Bool) (number pid result : ℕ) (more : Extra) → b ≡ false
    → IsQuiet (if number == EXIT then EndsLife pid else child_life (if b then Some (child_forked result more) else None))
quiet-call true number pid result more is = cc
quiet-call false number pid result more is = quiet-if (number == EXIT) pid

-- whether a process lives behind an end
ended-same : (lives : List Bool) (p q : ℕ) → p ≡ q → lives_in (with_ended lives p) q ≡ false
ended-same [] p q same = refl
ended-same (x ∷ lives) zero zero same = refl
ended-same (x ∷ lives) zero (suc q) same = absurd (omega arith)
ended-same (x ∷ lives) (suc p) zero same = absurd (omega arith)
ended-same (x ∷ lives) (suc p) (suc q) same = ended-same lives p q (omega arith)

ended-other : (lives : List Bool) (p q : ℕ) → p ≢ q → lives_in (with_ended lives p) q ≡ lives_in lives q
ended-other [] p q apart = refl
ended-other (x ∷ lives) zero zero apart = absurd (apart refl)
ended-other (x ∷ lives) zero (suc q) apart = refl
ended-other (x ∷ lives) (suc p) zero apart = refl
ended-other (x ∷ lives) (suc p) (suc q) apart = ended-other lives p q (λ e. apart (ap suc e))

set-lives : (lives : List Bool) (p q : ℕ) → lives_in (with_ended lives p) q ≡ (if p == q then false else lives_in lives q)
set-lives lives p q =
    elim (eqb_tells p q) [ inl h ↦ rw h.0 (ended-same lives p q h.1) | inr h ↦ rw h.0 (ended-other lives p q h.1) ]

-- and behind a begin
begun-last : (lives : List Bool) (q : ℕ) → length lives ≡ q → lives_in (lives ++ true ∷ []) q ≡ true
begun-last [] zero same = refl
begun-last (x ∷ lives) (suc q) same = begun-last lives q (omega arith)
begun-last _ _ same = absurd (omega arith)

pub begun-other : (lives : List Bool) (q : ℕ) → length lives ≢ q → lives_in (lives ++ true ∷ []) q ≡ lives_in lives q
begun-other [] zero apart = absurd (apart refl)
begun-other (x ∷ lives) (suc q) apart = begun-other lives q (λ e. apart (ap suc e))
begun-other _ _ apart = refl

pub push-lives : (lives : List Bool) (q : ℕ) → lives_in (lives ++ true ∷ []) q ≡ (if length lives == q then true else lives_in lives q)
push-lives lives q =
    elim (eqb_tells (length lives) q) [ inl h ↦ rw h.0 (begun-last lives q h.1) | inr h ↦ rw h.0 (begun-other lives q h.1) ]

pub lives-ended : (f : Families) (life : LifeChange) (q : ℕ) → IsQuiet life → lives_in (with_end f (ended_by life)).lives q ≡ lives_after life q (lives_in f.lives q)
lives-ended f (BeginsLife p) q quiet = absurd quiet
lives-ended f (EndsLife p) q quiet = set-lives f.lives p q
lives-ended f NoLife q quiet = refl

-- what stands of a record that can follow
parts : (a b c d s m z : Bool) → (a || (b || (c || (d || (s || (m || z)))))) ≡ false → (a ≡ false) × (c ≡ false) × (m ≡ false)
parts a b c d s m z is =
    let p = or_parts a (b || (c || (d || (s || (m || z))))) is in
    let r = or_parts c (d || (s || (m || z))) (or_parts b (c || (d || (s || (m || z)))) p.1).1 in
    (p.0, r.0, (or_parts m z (or_parts s (m || z) (or_parts d (s || (m || z)) r.1).1).1).0)

-- the process at hand was made
hand-inside : (b : Behind) (n pid : ℕ) → IsMade n b → is_behind pid b ≡ true → (0 < pid) × (pid ≤ n)
hand-inside Nowhere n pid made is = cc
hand-inside (ASlice p) n pid made is = let e = eqb-true p pid is in (omega (arith, made.0), omega (arith, made.1))
hand-inside (ADelivery p) n pid made is = let e = eqb-true p pid is in (omega (arith, made.0), omega (arith, made.1))

-- the group of a fork's child: its own, or its parent's
record ChildOf (f : Families) (told : Groups) (pid child parent : ℕ) (more : Extra) (group : ℕ) : Type 0 where
  born : child_group_in f pid (child_forked child more) ≡ Some group
  groups : group_made pid (Some (child_forked child more)) told ≡ changed told child (Some group)
  own : (group ≡ child) ⊎ (group ≡ parent)
  first : (h : ℕ) → is_number h (group_made pid (Some (child_forked child more)) (λ p. None) h) ≡ ((h == child) && (group == child))

-- of a process alone: it has the group that it begins, or none
number-first : (h child : ℕ) → is_number h (changed {A = Option ℕ} (λ p. None) child (Some child) h) ≡ ((h == child) && (child == child))
number-first h child =
    elim (eqb_tells h child) [
      | inl k ↦ rw k.0 (ap (λ (n : ℕ). child == n) k.1)
      | inr k ↦ rw k.0 refl
    ]

none-either : (b : Bool) (h : ℕ) → is_number h (if b then None else None) ≡ false
none-either true h = refl
none-either false h = refl

number-joins : (h child parent : ℕ) → parent ≢ child → is_number h (changed {A = Option ℕ} (λ p. None) child None h) ≡ ((h == child) && (parent == child))
number-joins h child parent apart =
    none-either (h == child) h
    ∙ elim (eqb_tells parent child) [ inl k ↦ absurd (apart k.1) | inr k ↦ rw k.0 (sym (and_right (h == child) false refl)) ]

module _ (f : Families) (told : Groups) (pid child parent : ℕ) (apart : parent ≢ child) (next : length f.lives ≡ child) (at : group_at f.groups pid ≡ Some parent) (is : told pid ≡ Some parent) where
  joins : changed told child (told pid) ≡ changed told child (Some parent)
  joins = ap (changed told child) is

  child-of : (more : Extra) → (group : ℕ) × ChildOf f told pid child parent more group
  child-of (extra.Start start) = (child, record { born = ap Some next; groups = refl; own = inl refl; first = λ h. number-first h child })
  child-of _ = (parent, record { born = at; groups = joins; own = inr refl; first = λ h. number-joins h child parent apart })

either-inside : (n child parent group : ℕ) → child ≡ n + 1 → (0 < parent) × (parent ≤ n) → (group ≡ child) ⊎ (group ≡ parent) → IsFounded (n + 1) group
either-inside n child parent group is parent-is own =
    elim own [ inl h ↦ (omega arith, omega arith) | inr h ↦ (omega (arith, parent-is.0), omega (arith, parent-is.1)) ]

-- a call's record where it is a successful fork
fork-life : (number pid result : ℕ) (more : Extra) → ((number == FORK) && is_success result) ≡ true → life_told (entry.Call pid number result more) ≡ BeginsLife result
fork-life number pid result more forks =
    let e = eqb-true number FORK (and_parts (number == FORK) (is_success result) forks).0 in
    rw e (rw (rw e at forks) refl)

fork-fails : (f : Families) (told : Groups) (n pid number result : ℕ) (more : Extra) → ((number == FORK) && is_success result) ≡ false → MakesNone f told n (entry.Call pid number result more)
fork-fails f told n pid number result more fails = record {
  born = rw fails refl;
  groups = rw fails refl;
  greatest = rw fails refl;
  life = quiet-call ((number == FORK) && is_success result) number pid result more fails;
  founds = λ h. rw fails refl;
}

fork-makes : (f : Families) (told : Groups) (n pid number result : ℕ) (more : Extra) (group : ℕ) → ((number == FORK) && is_success result) ≡ true → result ≡ n + 1 → child_group_in f pid (child_forked result more) ≡ Some group → group_made pid (Some (child_forked result more)) told ≡ changed told result (Some group) → IsFounded (n + 1) group → 0 < n → ((h : ℕ) → is_number h (group_made pid (Some (child_forked result more)) (λ p. None) h) ≡ ((h == result) && (group == result))) → MakesNext f told n (entry.Call pid number result more) group
fork-makes f told n pid number result more group forks next born groups founded some first = record {
  born = rw forks born;
  groups = rw forks (groups ∙ ap (λ (k : ℕ). changed told k (Some group)) next);
  greatest = rw forks (omega arith);
  life = fork-life number pid result more forks ∙ ap BeginsLife next;
  founded = founded;
  booted = λ never. some;
  founds = λ h. rw forks (first h ∙ ap (λ (k : ℕ). (h == k) && (group == k)) next);
}

module _ (t : Tables) (entries : List Record) (i : Indexes t entries) where
  makes-boot : (name : List ℕ) (give : Give) → cant_follow entries (entry.Boot name give) ≡ false → MakesNext t.families (group_of entries) (greatest entries) (entry.Boot name give) 1
  makes-boot name give stands =
      let unbooted : t.is_booted ≡ false = i.is_booted ∙ (or_parts (is_booted entries) _ stands).0 in
      let zero-groups = i.unbooted unbooted in
      let none : greatest entries ≡ 0 = omega (arith, zero-groups, i.families.processes) in
      let one : length t.families.lives ≡ 1 = omega (arith, zero-groups, i.families.as_many_lives) in
      record {
        born = ap Some one;
        groups = rw none refl;
        greatest = rw none refl;
        life = rw none refl;
        founded = rw none (omega arith, omega arith);
        booted = λ never. absurd (true≢false never);
        founds = λ h. rw none (number-first h 1);
      }

  makes-fork : (pid number result : ℕ) (more : Extra) → cant_follow entries (entry.Call pid number result more) ≡ false → ((number == FORK) && is_success result) ≡ true → (group : ℕ) × MakesNext t.families (group_of entries) (greatest entries) (entry.Call pid number result more) group
  makes-fork pid number result more stands forks =
      let e = entry.Call pid number result more in
      let p = parts false false (lacks_slice entries e) (not (are_origins entries (give_of e))) (has_blocks_wrong (start_in e)) (misnumbers entries (child_in e)) (misplaces_start e) stands in
      let hand : is_behind pid t.at_hand ≡ true = ap (is_behind pid) i.at_hand ∙ not-false (is_behind pid (behind entries)) p.1 in
      let inside = hand-inside t.at_hand (length t.families.groups) pid i.hand_made hand in
      let found = group-some t.families.groups pid inside.0 inside.1 in
      let parent = found.0 in
      let parent-is : IsFounded (length t.families.groups) parent = subst (λ (o : Option ℕ). IfSome o (IsFounded (length t.families.groups))) found.1.1 (i.families.founded (pid - 1)) in
      let number-is : not (result == greatest entries + 1) ≡ false = rw forks at p.2 in
      let next : result ≡ greatest entries + 1 = eqb-true result (greatest entries + 1) (not-false (result == greatest entries + 1) number-is) in
      let many : length t.families.lives ≡ result = omega (arith, i.families.as_many_lives, i.families.processes) in
      let apart : parent ≢ result = λ same. absurd (omega (arith, parent-is.1, i.families.processes)) in
      let c = child-of t.families (group_of entries) pid result parent apart many found.1.0 (sym (i.families.groups pid) ∙ found.1.0) more in (
        c.0,
        fork-makes t.families (group_of entries) (greatest entries) pid number result more c.0 forks next c.1.born c.1.groups
            (either-inside (greatest entries) result parent c.0 next (parent-is.0, omega (arith, parent-is.1, i.families.processes)) c.1.own)
            (omega (arith, inside.0, inside.1, i.families.processes))
            c.1.first,
      )

  -- what an event makes
  pub what-makes : (e : Record) → is_event e ≡ true → cant_follow entries e ≡ false → MakesNone t.families (group_of entries) (greatest entries) e ⊎ ((group : ℕ) × MakesNext t.families (group_of entries) (greatest entries) e group)
  what-makes (entry.Boot name give) is stands = inr (1, makes-boot name give stands)
  what-makes (entry.Slice pid ran) is stands = cc
  what-makes (entry.Signal pid signal cut handler) is stands = inl (record { born = refl; groups = refl; greatest = refl; life = quiet-if (handler == 0) pid; founds = λ h. refl })
  what-makes (entry.Call pid number result more) is stands =
      elim (cases_Bool ((number == FORK) && is_success result)) [
        | inl forks ↦ inr (makes-fork pid number result more stands forks)
        | inr fails ↦ inl (fork-fails t.families (group_of entries) (greatest entries) pid number result more fails)
      ]
  what-makes _ is stands = inl (record { born = refl; groups = refl; greatest = refl; life = tt; founds = λ h. refl })
