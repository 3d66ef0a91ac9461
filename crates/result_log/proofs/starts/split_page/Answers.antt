use Rattle.std.proofs.Common.{rules, ◌≡◌, ◌≤◌, ℕ, List, ◌++◌, length, take, drop, sym, ap, length-take, arith}
use Rattle.std.proofs.lemmas.List.{take-append-drop}
use Rattle.result_log.proofs.starts.split_page.Goals as goal

in-two : (bytes page rest : List ℕ) → page ≡ take 256 bytes → rest ≡ drop 256 bytes → bytes ≡ page ++ rest
in-two bytes page rest is_page is_rest = sym (rw (is_page, is_rest) (take-append-drop 256 bytes))

all-of : (bytes page : List ℕ) → page ≡ take 256 bytes → 256 ≤ length bytes → length page ≡ 256
all-of bytes page is_page long =
    let same : length page ≡ length (take 256 bytes) = ap (λ (xs : List ℕ). length xs) is_page in
    omega (arith, same, long, length-take 256 bytes)

pub returns-clause-some : goal.returns-clause-some
returns-clause-some c = in-two c.args.bytes.now c.in_ok-page.page.now c.in_ok-page.rest.now (search rules) (search rules)

pub returns-clause-long : goal.returns-clause-long
returns-clause-long c = all-of c.args.bytes.now c.in_ok-page.page.now (search rules) (search rules)
