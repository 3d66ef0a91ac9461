use Rattle.std.proofs.Common.{◌≡◌, ◌+◌, ◌-◌, ◌≤◌, ℕ, Ok, Err, IfOk, IsOk, IsSome, List, Option, Result, Some, ap, arith, drop, is_some, length, refl, take}
use Rattle.arn_base.specs.Disk.{overwrite}
use Rattle.arn_base.specs.Window.{bytes_at, with_bytes}
use Rattle.guest_mem.specs.Pages.{contents, joined}
use Rattle.parts_model.specs.Memory.{private_window}
use Rattle.parts_model.specs.declared.limits.TheConstants.{WINDOW_LEN, WINDOW_START}
use Rattle.guest_mem.proofs.Pieces.{length-pages}
use Rattle.guest_mem.proofs.Windows.{range-of, reached, written}
use Rattle.guest_mem.proofs.pages.place_of.Goals as goal

-- what follows where there is a result
on-place : {E R : Type 0} (r : Result ℕ E) (P Q : ℕ → Type 0) → (IsOk r → R) → IfOk r P → ((p : ℕ) → R → P p → Q p) → IfOk r Q
on-place (Ok p) P Q whole lies f = f p (whole refl) lies
on-place (Err e) P Q whole lies f = tt

abbrev Whole : ℕ → ℕ → Type 0
Whole at len = (WINDOW_START ≤ at) × (at + len ≤ WINDOW_START + WINDOW_LEN)

some-in : (bytes : List ℕ) (at len : ℕ) → length bytes ≡ WINDOW_LEN → Whole at len → IsSome (bytes_at (private_window bytes) at len)
some-in bytes at len long whole =
    let lies : at ≡ WINDOW_START + (at - WINDOW_START) = omega arith in
    ap (λ (o : Option (List ℕ)). is_some o) (reached bytes at len (at - WINDOW_START) lies (omega arith))

in-some : (bytes : List ℕ) (at len : ℕ) → length bytes ≡ WINDOW_LEN → IsSome (bytes_at (private_window bytes) at len) → Whole at len
in-some bytes at len long some = let range = range-of bytes at len some in (omega arith, omega arith)

pub returns-clause-whole : goal.returns-clause-whole
returns-clause-whole c =
    let long = length-pages (contents c.args.pages.now) c.requires in
    (λ ok. some-in (joined (contents c.args.pages.now)) c.args.at c.args.len long (c.place.ensures.whole.0 ok), λ some. c.place.ensures.whole.1 (in-some (joined (contents c.args.pages.now)) c.args.at c.args.len long some))

pub returns-clause-inside : goal.returns-clause-inside
returns-clause-inside c =
    on-place c.place.result (λ (p : ℕ). c.args.at ≡ WINDOW_START + p) (λ (p : ℕ). p + c.args.len ≤ WINDOW_LEN) c.place.ensures.whole.0 c.place.ensures.place
    (λ (p : ℕ) (whole : Whole c.args.at c.args.len) (lies : c.args.at ≡ WINDOW_START + p). omega arith)

pub returns-clause-bytes : goal.returns-clause-bytes
returns-clause-bytes c =
    let bytes = joined (contents c.args.pages.now) in
    let long = length-pages (contents c.args.pages.now) c.requires in
    on-place c.place.result (λ (p : ℕ). c.args.at ≡ WINDOW_START + p) (λ (p : ℕ). bytes_at (private_window bytes) c.args.at c.args.len ≡ Some (take c.args.len (drop p bytes))) c.place.ensures.whole.0 c.place.ensures.place
    (λ (p : ℕ) (whole : Whole c.args.at c.args.len) (lies : c.args.at ≡ WINDOW_START + p). reached bytes c.args.at c.args.len p lies (omega arith))

pub returns-clause-written : goal.returns-clause-written
returns-clause-written c =
    let bytes = joined (contents c.args.pages.now) in
    let long = length-pages (contents c.args.pages.now) c.requires in
    on-place c.place.result (λ (p : ℕ). c.args.at ≡ WINDOW_START + p) (λ (p : ℕ). (new : List ℕ) → length new ≡ c.args.len → with_bytes (private_window bytes) c.args.at new ≡ private_window (overwrite bytes p new)) c.place.ensures.whole.0 c.place.ensures.place
    (λ (p : ℕ) (whole : Whole c.args.at c.args.len) (lies : c.args.at ≡ WINDOW_START + p) (new : List ℕ) (same : length new ≡ c.args.len). written bytes new c.args.at p lies (omega arith))
