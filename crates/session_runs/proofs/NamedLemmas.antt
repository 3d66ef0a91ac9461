-- Slices as the log names them, behind others.
use Rattle.std.proofs.Common.{◌≡◌, ◌+◌, ◌++◌, List, [], ◌∷◌, length, map, filter_map, None, refl, ap, ◌∙◌, arith}
use Rattle.std.proofs.lemmas.List.Sums.{sum_by-append}
use Rattle.std.proofs.lemmas.Grind.{flat_map-append}
use Rattle.std.proofs.lemmas.List.Elements.{filter_map-append}
use Rattle.arn_base.specs.declared.records.Record.{Record}
use Rattle.arn_model.specs.Run.{Input}
use Rattle.log_model.specs.Laws.{BehindAppend, NamedAppend}
use Rattle.log_model.specs.Records.{named, reply_behind}
use Rattle.guest_legs.specs.Legs.{Ask, Picked, input_of}
use Rattle.guest_legs.specs.LegLaws.{all_named, as_named}
use Rattle.session_effects.specs.Effects.{Effect, committed, records_of}
use Rattle.session_runs.specs.Points.{slice_in, slices_cost, slices_in}

pub committed-append : (xs ys : List Effect) → committed (xs ++ ys) ≡ committed xs ++ committed ys
committed-append xs ys = flat_map-append records_of xs ys

pub all_named-append : (asks more : List Ask) (slices others : List Picked) → length asks ≡ length slices → all_named (asks ++ more) (slices ++ others) ≡ all_named asks slices ++ all_named more others
all_named-append [] more [] others many = refl
all_named-append (a ∷ asks) more (s ∷ slices) others many =
    ap (λ (x : List Picked). as_named a.machine s ∷ x) (all_named-append asks more slices others (omega (arith, many)))
all_named-append _ more _ others many = absurd (omega (arith, many))

-- the slices that inputs are
pub slices-inputs : (slices : List Picked) → filter_map slice_in (map input_of slices) ≡ slices
slices-inputs [] = refl
slices-inputs (s ∷ slices) = ap (λ (x : List Picked). s ∷ x) (slices-inputs slices)

pub slices_in-append : NamedAppend → (entries more : List Record) → reply_behind more ≡ None → slices_in (entries ++ more) ≡ slices_in entries ++ slices_in more
slices_in-append law entries more begins = ap (λ (x : List Input). filter_map slice_in x) (law entries more begins) ∙ filter_map-append slice_in (named entries) (named more)

pub slices_cost-append : (xs ys : List Picked) → slices_cost (xs ++ ys) ≡ slices_cost xs + slices_cost ys
slices_cost-append xs ys = sum_by-append (λ (s : Picked). s.pick.count + 1) xs ys

-- what effects name behind others
pub names-append : NamedAppend → (xs ys : List Effect) (ss ts : List Picked) → reply_behind (committed ys) ≡ None → slices_in (committed xs) ≡ ss → slices_in (committed ys) ≡ ts → slices_in (committed (xs ++ ys)) ≡ ss ++ ts
names-append law xs ys ss ts begins p q =
    ap slices_in (committed-append xs ys)
    ∙ slices_in-append law (committed xs) (committed ys) begins
    ∙ ap (λ (l : List Picked). l ++ slices_in (committed ys)) p
    ∙ ap (λ (l : List Picked). ss ++ l) q

pub begins-append : BehindAppend → (xs ys : List Effect) → reply_behind (committed xs) ≡ None → reply_behind (committed ys) ≡ None → reply_behind (committed (xs ++ ys)) ≡ None
begins-append law xs ys p q = ap reply_behind (committed-append xs ys) ∙ law (committed xs) (committed ys) q ∙ p
