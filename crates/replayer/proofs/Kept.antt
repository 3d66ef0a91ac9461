-- Which group a process has, told by the records so far.
use Rattle.std.proofs.Common.{◌≡◌, ◌<◌, ◌≤◌, ◌-◌, ℕ, zero, suc, ◌+◌, List, [], ◌∷◌, length, take, drop, get_or, None, refl, ap, sym, ◌∙◌, arith}
use Rattle.arn_base.specs.declared.records.Record.{Record}
use Rattle.history_model.specs.Broken.{behind, first_broken, greatest}
use Rattle.history_model.specs.Groups.{Groups, group_of, groups_from, groups_told}
use Rattle.replayer.proofs.Own.{kept-all}
use Rattle.replayer.proofs.Sound.{sound-from}

-- the groups that so many records tell
abbrev pub groups_at : List Record → ℕ → Groups
groups_at entries i = groups_from (take i entries) (λ q. None)

groups-split : (entries : List Record) (i : ℕ) (groups : Groups) → groups_from entries groups ≡ groups_from (drop i entries) (groups_from (take i entries) groups)
groups-split [] zero groups = refl
groups-split [] (suc i) groups = refl
groups-split (e ∷ entries) zero groups = refl
groups-split (e ∷ entries) (suc i) groups = groups-split entries i (groups_told e groups)

groups-snoc : (entries : List Record) (i : ℕ) (e : Record) (groups : Groups) → i < length entries → e ≡ get_or entries i e → groups_from (take (suc i) entries) groups ≡ groups_told e (groups_from (take i entries) groups)
groups-snoc [] i e groups lt is = absurd (omega arith)
groups-snoc (x ∷ entries) zero e groups lt is = ap (λ (r : Record). groups_told r groups) (sym is)
groups-snoc (x ∷ entries) (suc i) e groups lt is = groups-snoc entries i e (groups_told x groups) (omega arith) is

pub groups-next : (entries : List Record) (i : ℕ) (e : Record) → i < length entries → e ≡ get_or entries i e → groups_at entries (i + 1) ≡ groups_told e (groups_at entries i)
groups-next entries i e lt is =
    let one : i + 1 ≡ suc i = omega arith in ap (groups_at entries) one ∙ groups-snoc entries i e (λ q. None) lt is

-- who was made keeps it
pub group-kept : (entries : List Record) (i p : ℕ) → first_broken entries ≡ None → i ≤ length entries → p ≤ greatest (take i entries) → groups_at entries i p ≡ group_of entries p
group-kept entries i p stands in-all le =
    sym (ap (λ (groups : Groups). groups p) (groups-split entries i (λ q. None))
    ∙ kept-all (drop i entries) (behind (take i entries)) (greatest (take i entries)) (groups_at entries i) p (sound-from entries stands (length entries - i) i (omega (arith, in-all))) le)
