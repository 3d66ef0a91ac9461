-- A replay passes over records of other groups.
use Rattle.std.proofs.lemmas.Bool.Decides.{nat_tests}
use Rattle.std.proofs.Common.{◌≡◌, ℕ, ◌+◌, ◌==◌, ◌&&◌, ◌||◌, option_and_then, Bool, true, false, if◌then◌else◌, Some, None, refl, ap, ◌∙◌, arith}
use Rattle.std.proofs.lemmas.Bool.{or_parts}
use Rattle.std.proofs.lemmas.Bool.Decides.{eqb_tells}
use Rattle.arn_base.specs.declared.records.Extra.{Extra}
use Rattle.arn_base.specs.declared.records.Extra.TheVariants as extra
use Rattle.arn_base.specs.declared.records.Record.{Record}
use Rattle.arn_base.specs.declared.records.Record.TheVariants as entry
use Rattle.arn_base.specs.declared.records.Start.{Start}
use Rattle.parts_model.specs.declared.calls.TheConstants.{FORK}
use Rattle.parts_model.specs.Replies.{is_success}
use Rattle.acts_model.specs.Records.{child_forked, child_start, process_of}
use Rattle.history_index.specs.Lookups.{founds, events_in}
use Rattle.history_model.specs.Alone as alone
use Rattle.history_model.specs.Alone.{Standing, Own, Made, Makes, Fails, and_then, settled}
use Rattle.history_model.specs.Groups.{Groups, group_made, groups_told, is_number}
use Rattle.history_model.specs.Moments.{ran_in}

-- whether a record is a group's own, where processes have these groups: it begins the group, or its process is of it
abbrev pub is_own : ℕ → Groups → Record → Bool
is_own group groups e = founds group e || is_number group (option_and_then groups (process_of e))

pub no-way : {A : Type 0} → false ≡ true → A
no-way e = absurd (let no : false ≡ true = e in cc)

pub and-true : (a b : Bool) → b ≡ true → (a && b) ≡ a
and-true true b is = is
and-true false b is = refl

-- nothing more is made
makes-same : (made : Made) (next : Own → Made) → ((own : Own) → next own ≡ Makes own) → and_then made next ≡ made
makes-same (Makes own) next same = same own
makes-same (Fails d) next same = refl

pub made-if-same : (b : Bool) (made : Made) (next : Own → Made) → ((own : Own) → next own ≡ Makes own) → alone.made_if b made next ≡ made
made-if-same true made next same = makes-same made next same
made-if-same false made next same = refl

pub made-if-not : (b m : Bool) (made : Made) (next : Own → Made) → m ≡ false → alone.made_if (b && m) made next ≡ made
made-if-not true m made next not = ap (λ (c : Bool). alone.made_if c made next) not
made-if-not false m made next not = refl

-- nothing is owed
pub settled-same : (t : Standing) → t.owed ≡ 0 → settled t ≡ t.made
settled-same t none =
    ap (λ (n : ℕ). and_then t.made (alone.plains (alone.slice_of t) 0 n)) none ∙ makes-same t.made (alone.plains (alone.slice_of t) 0 0) (λ own. refl)

-- the child of a fork begins another group, or none
pub first-not : (g r : ℕ) → is_number g (if g == r then Some r else None) ≡ false → (r == g) ≡ false
first-not g r none = grind (arith, eqb_tells r g)

begins-not : (g r event : ℕ) (e : Record) (start : Start) (own : Own) → (r == g) ≡ false → alone.begins_if g r event e (Some start) own ≡ Makes own
begins-not g r event e start own not = ap (λ (b : Bool). if b then Makes (alone.begins g event e start own) else Makes own) not

begins-other : (forks : Bool) (more : Extra) (g pid r event : ℕ) (e : Record) (own : Own) → is_number g (group_made pid (if forks then Some (child_forked r more) else None) (λ p. None) g) ≡ false
    → alone.begins_if g r event e (child_start (if forks then Some (child_forked r more) else None)) own ≡ Makes own
begins-other true (extra.Start start) g pid r event e own none = begins-not g r event e start own (first-not g r none)
begins-other true _ g pid r event e own none = refl
begins-other false more g pid r event e own none = refl

module _ (g pid number r event : ℕ) (own : Own) where
  pub call-begins : (more : Extra) → founds g (entry.Call pid number r more) ≡ false → alone.begins_by g event (entry.Call pid number r more) own ≡ Makes own
  call-begins more none = begins-other ((number == FORK) && is_success r) more g pid r event (entry.Call pid number r more) own none

-- one record of another group makes nothing, and owes nothing
pub record Passes (t t' : Standing) : Type 0 where
  pub made : t'.made ≡ t.made
  pub owed : t'.owed ≡ 0

pub if-zero : (b : Bool) (n : ℕ) → n ≡ 0 → (if b then 0 else n) ≡ 0
if-zero true n none = refl
if-zero false n none = none

pub boot-not : (g : ℕ) → is_number g (if g == 1 then Some 1 else None) ≡ false → (g == 1) ≡ false
boot-not g isnt = grind (arith, eqb_tells g 1)

module _ (g until : ℕ) (t : Standing) (none : t.owed ≡ 0) where
  pub passes : (e : Record) → is_own g t.groups e ≡ false → Passes t (alone.after_record g until t e)
  passes e h1 = grind (arith, nat_tests, or_parts, made-if-not, boot-not, settled-same, made-if-same, call-begins, if-zero)

-- each record counts
pub record Counts (t : Standing) (told : Groups) (many ran : ℕ) (t' : Standing) : Type 0 where
  pub groups : t'.groups ≡ told
  pub events : t'.events ≡ t.events + many
  pub moment : t'.moment ≡ t.moment + ran

pub counts-one : (g until : ℕ) (t : Standing) (e : Record) → Counts t (groups_told e t.groups) (events_in e) (ran_in e) (alone.after_record g until t e)
counts-one g until t (entry.Slice pid ran) = record { groups = refl; events = omega arith; moment = refl }
counts-one g until t _ = record { groups = refl; events = refl; moment = omega arith }
