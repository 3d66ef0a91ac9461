-- Bytes in the middle of being put, and a sink that stops there.
use Rattle.std.proofs.Common.{◌≡◌, ◌≢◌, ◌-◌, ◌++◌, ℕ, List, length, take, drop, Option, option_map, Result, Ok, Err, IfErr, IsErrAnd, refl, sym, ap, ◌∙◌, subst, append_assoc, arith, take-append-drop, take_all, length-drop}
use Rattle.arn_base.specs.declared.errors.Stop.{Stop}
use Rattle.arn_base.specs.declared.errors.Stop.TheVariants as stop
use Rattle.session_effects.specs.declared.halt.Halt.{Halt}
use Rattle.session_effects.specs.Printing.{PutsLess, StopsPut}
use Rattle.session_effects.specs.Halts.{halt_of}
use Rattle.session_effects.proofs.CarryLemmas.{held-more}

-- bytes in the middle of being put
pub record PutSoFar (bytes rest : List ℕ) (held holds : Option (List ℕ)) : Type 0 where
  pub put : List ℕ
  pub are_bytes : bytes ≡ put ++ rest
  pub printed : holds ≡ option_map (λ before. before ++ put) held

pub PutSoFar-more : (bytes rest rest' : List ℕ) (count : ℕ) (h0 h1 h2 : Option (List ℕ)) → PutSoFar bytes rest h0 h1 → h2 ≡ option_map (λ before. before ++ take count rest) h1 → rest' ≡ drop count rest → PutSoFar bytes rest' h0 h2
PutSoFar-more bytes rest rest' count h0 h1 h2 p put is = record {
  put = p.put ++ take count rest;
  are_bytes = p.are_bytes ∙ ap (λ (x : List ℕ). p.put ++ x) (sym (take-append-drop count rest)) ∙ sym (append_assoc p.put (take count rest) (drop count rest)) ∙ ap (λ (x : List ℕ). (p.put ++ take count rest) ++ x) (sym is);
  printed = held-more h0 h1 h2 _ _ _ p.printed put refl;
}

-- all bytes behind the first ones
pub take-rest : (bytes : List ℕ) (count : ℕ) → take (length bytes - count) (drop count bytes) ≡ drop count bytes
take-rest bytes count = ap (λ (n : ℕ). take n (drop count bytes)) (sym (length-drop count bytes)) ∙ take_all (length (drop count bytes)) (drop count bytes) (omega arith)

-- not all bytes were put
pub PutSoFar-less : (bytes rest : List ℕ) (h0 h1 h2 : Option (List ℕ)) → PutSoFar bytes rest h0 h1 → length rest ≢ 0 → h2 ≡ h1 → PutsLess bytes h0 h2
PutSoFar-less bytes rest h0 h1 h2 p some same = record {
  front = record { put = p.put; left = rest; are_bytes = p.are_bytes; printed = same ∙ p.printed };
  some_left = λ none. some (ap length none);
}

stops_less : (why : Stop) (bytes : List ℕ) (held holds : Option (List ℕ)) → PutsLess bytes held holds → StopsPut (halt_of why) bytes held holds
stops_less stop.Failed bytes held holds less = less
stops_less stop.NoMemory bytes held holds less = less.front

-- what was put when the sink stopped
pub StopsPut-so_far : {T : Type 0} (result : Result T Halt) (why : Stop) (bytes rest : List ℕ) (h0 h1 h2 : Option (List ℕ)) → IsErrAnd result (λ halt. halt ≡ halt_of why) → PutSoFar bytes rest h0 h1 → length rest ≢ 0 → h2 ≡ h1 → IfErr result (λ halt. StopsPut halt bytes h0 h2)
StopsPut-so_far (Ok x) why bytes rest h0 h1 h2 is so_far some same = tt
StopsPut-so_far (Err halt) why bytes rest h0 h1 h2 is so_far some same =
    subst (λ (x : Halt). StopsPut x bytes h0 h2) (sym is) (stops_less why bytes h0 h2 (PutSoFar-less bytes rest h0 h1 h2 so_far some same))
