-- The event bytes of places after bytes of an event are laid over some.
use Rattle.std.proofs.Common.{◌≡◌, ℕ, ◌+◌, ◌-◌, ◌<◌, ◌≤◌, ◌++◌, ◌∙◌, max, List, take, drop, append_assoc, refl, sym, ap, arith}
use Rattle.arn_base.specs.declared.records.Src.{Src}
use Rattle.guest_files.specs.declared.runs.Run.{Run}
use Rattle.guest_files.specs.Runs.{AreRuns, first_bytes, source_at, sources_from, with_run}
use Rattle.guest_files.proofs.RunForms.{Laid, with_run-laid}
use Rattle.guest_files.proofs.Sources.{drop-sources_from, sources_from-append, sources_from-same, take-sources_from}

-- what an event writes from a place on
abbrev pub write : ℕ → ℕ → Run
write event place = record { start = place; base = place; event = event }

laid-sources : (runs laid : List Run) (event place count end : ℕ) → Laid runs laid (write event place) (place + count) end → place ≤ end → sources_from (source_at laid) 0 (max end (place + count)) ≡ take place (sources_from (source_at runs) 0 end) ++ first_bytes event count ++ drop (place + count) (sources_from (source_at runs) 0 end)
laid-sources runs laid event place count end is within =
    let f : ℕ → Src = source_at runs in
    let g : ℕ → Src = source_at laid in
    let stop : ℕ = place + count in
    let all : max end stop ≡ place + (count + (end - stop)) = omega (arith, within) in
    let front : sources_from g 0 place ≡ take place (sources_from f 0 end) = sources_from-same g f 0 0 place (λ i below. is.front (0 + i) (omega (arith, below))) ∙ sym (take-sources_from f 0 place end within) in
    let new : sources_from g (0 + place) count ≡ first_bytes event count = sources_from-same g (λ at. record { event = event; at = at }) (0 + place) 0 count (λ i below.
    let at : 0 + place + i - place ≡ 0 + i = omega arith in
    is.new (0 + place + i) (omega arith) (omega (arith, below)) ∙ ap (λ (n : ℕ). record { event = event; at = n }) at) in
    let behind : 0 + place + count ≡ 0 + stop = omega arith in
    let back : sources_from g (0 + place + count) (end - stop) ≡ drop stop (sources_from f 0 end) =
    ap (λ (n : ℕ). sources_from g n (end - stop)) behind
    ∙ sources_from-same g f (0 + stop) (0 + stop) (end - stop) (λ i below. is.back (0 + stop + i) (omega arith) (omega (arith, below)))
    ∙ sym (drop-sources_from f 0 stop end) in
    ap (λ (n : ℕ). sources_from g 0 n) all
    ∙ sources_from-append g 0 place (count + (end - stop))
    ∙ ap (λ (ss : List Src). sources_from g 0 place ++ ss) (sources_from-append g (0 + place) count (end - stop))
    ∙ ap (λ (ss : List Src). ss ++ (sources_from g (0 + place) count ++ sources_from g (0 + place + count) (end - stop))) front
    ∙ ap (λ (ss : List Src). take place (sources_from f 0 end) ++ (ss ++ sources_from g (0 + place + count) (end - stop))) new
    ∙ ap (λ (ss : List Src). take place (sources_from f 0 end) ++ (first_bytes event count ++ ss)) back
    ∙ sym (append_assoc (take place (sources_from f 0 end)) (first_bytes event count) (drop stop (sources_from f 0 end)))

pub laid-over : (runs : List Run) (event place count end : ℕ) → AreRuns 0 runs end → 0 < count → place ≤ end → sources_from (source_at (with_run runs (write event place) (place + count) end)) 0 (max end (place + count)) ≡ take place (sources_from (source_at runs) 0 end) ++ first_bytes event count ++ drop (place + count) (sources_from (source_at runs) 0 end)
laid-over runs event place count end are some within =
    laid-sources runs (with_run runs (write event place) (place + count) end) event place count end (with_run-laid runs (write event place) (place + count) end are refl (omega (arith, some)) within) within

pub laid-runs : (runs : List Run) (event place count end : ℕ) → AreRuns 0 runs end → 0 < count → place ≤ end → AreRuns 0 (with_run runs (write event place) (place + count) end) (max end (place + count))
laid-runs runs event place count end are some within = (with_run-laid runs (write event place) (place + count) end are refl (omega (arith, some)) within).runs
