-- One process more.
use Rattle.std.proofs.Common.{◌≡◌, ℕ, true, List, [], ◌∷◌, ◌++◌, map, fold, Option, None, Some, IfSome, option_map, refl, sym, ap, ap₂, subst, ◌∙◌}
use Rattle.std.specs.Prelude.{flat_map, option_to_list}
use Rattle.std.specs.List.{cons_option}
use Rattle.std.proofs.lemmas.List.{map_push}
use Rattle.std.proofs.lemmas.List.Concat.{flat_map-append}
use Rattle.std.proofs.lemmas.List.Elements.{filter_map-append}
use Rattle.std.proofs.lemmas.List.Sums.{fold-append}
use Rattle.arn_base.specs.declared.machine.Member.{Member}
use Rattle.acts_model.specs.Bodies.{View}
use Rattle.guest_states.specs.State.{Memory, Holder, also, held, holder, holders, is_among, member, members, number_in, segments_of, windows_of}
use Rattle.guest_states.proofs.Numbers.{among-new, number-fold}

abbrev of_all : (View → List Memory) → List Holder → List Memory
of_all f hs = flat_map (λ (h : Holder). f h.view) hs

-- what is held with one more
append-nil : (ms : List Memory) → ms ++ [] ≡ ms
append-nil [] = refl
append-nil (m ∷ ms) = ap (λ (l : List Memory). m ∷ l) (append-nil ms)

pub held-more : (f : View → List Memory) (hs : List Holder) (h : Holder) → held f (hs ++ h ∷ []) ≡ fold also (held f hs) (f h.view)
unfolding held
held-more f hs h =
    ap (fold also []) (flat_map-append (λ (h : Holder). f h.view) hs (h ∷ []) ∙ ap (λ (l : List Memory). of_all f hs ++ l) (append-nil (f h.view)))
    ∙ fold-append also [] (of_all f hs) (f h.view)

-- what a process holds is among these
abbrev pub segment_of : List ℕ → Option ℕ → List Memory
segment_of bytes o = option_to_list (option_map (λ (made : ℕ). record { made = made; bytes = bytes }) o)

record IsKnown (ws ss : List Memory) (h : Holder) : Type 0 where
  window : is_among ws h.view.body.window ≡ true
  segment : IfSome h.view.body.segment (λ made. is_among ss made ≡ true)

abbrev AllKnown : List Memory → List Memory → List Holder → Type 0
AllKnown ws ss [] = Unit {0}
AllKnown ws ss (h ∷ hs) = IsKnown ws ss h × AllKnown ws ss hs

segment-known : (o : Option ℕ) (bytes : List ℕ) (ss more : List Memory) → IfSome o (λ made. is_among (fold also ss (segment_of bytes o ++ more)) made ≡ true)
segment-known None bytes ss more = tt
segment-known (Some made) bytes ss more = among-new more ss (record { made = made; bytes = bytes })

known-from : (hs : List Holder) (ws ss : List Memory) → AllKnown (fold also ws (of_all windows_of hs)) (fold also ss (of_all segments_of hs)) hs
known-from [] ws ss = tt
known-from (h ∷ hs) ws ss =
    let window : Memory = record { made = h.view.body.window; bytes = h.view.window } in (
      record {
        window = among-new (of_all windows_of hs) ws window;
        segment = segment-known h.view.body.segment h.view.segment ss (of_all segments_of hs);
      },
      subst (λ (l : List Memory). AllKnown (fold also (also ws window) (of_all windows_of hs)) l hs)
          (sym (fold-append also ss (segments_of h.view) (of_all segments_of hs)))
          (known-from hs (also ws window) (fold also ss (segments_of h.view))),
    )

known : (hs : List Holder) → AllKnown (held windows_of hs) (held segments_of hs) hs
unfolding held
known hs = known-from hs [] []

-- with more memories behind them, members are the same
abbrev pub with_numbers : Holder → ℕ → Option ℕ → Member
with_numbers h window segment =
    record { pid = h.pid; cpu = h.view.body.cpu; slot = h.view.body.slot; window = window; segment = segment }

module _ (ws ss more_ws more_ss : List Memory) where
  segment-stays : (o : Option ℕ) → IfSome o (λ made. is_among ss made ≡ true) → option_map (number_in (fold also ss more_ss)) o ≡ option_map (number_in ss) o
  segment-stays None k = refl
  segment-stays (Some made) k = ap (λ (n : ℕ). Some n) (number-fold more_ss ss made k)

  member-stays : (h : Holder) → IsKnown ws ss h → member (fold also ws more_ws) (fold also ss more_ss) h ≡ member ws ss h
  member-stays h k = ap₂ (with_numbers h) (number-fold more_ws ws h.view.body.window k.window) (segment-stays h.view.body.segment k.segment)

  members-stay : (hs : List Holder) → AllKnown ws ss hs → map (member (fold also ws more_ws) (fold also ss more_ss)) hs ≡ map (member ws ss) hs
  members-stay [] k = refl
  members-stay (h ∷ hs) k = ap₂ (λ (x : Member) (xs : List Member). x ∷ xs) (member-stays h k.0) (members-stay hs k.1)

pub members-more : (hs : List Holder) (h : Holder) → members (hs ++ h ∷ []) ≡ members hs ++ member (held windows_of (hs ++ h ∷ [])) (held segments_of (hs ++ h ∷ [])) h ∷ []
members-more hs h =
    let ws = held windows_of hs in
    let ss = held segments_of hs in
    let all = hs ++ h ∷ [] in
    let last : Member = member (held windows_of all) (held segments_of all) h in
    map_push (member (held windows_of all) (held segments_of all)) hs h
    ∙ ap (λ (l : List Member). l ++ last ∷ [])
    (ap₂ (λ (w s : List Memory). map (member w s) hs) (held-more windows_of hs h) (held-more segments_of hs h)
    ∙ members-stay ws ss (windows_of h.view) (segments_of h.view) hs (known hs))

pub holders-more : (sees : ℕ → Option View) (pids : List ℕ) (pid : ℕ) (v : View) → sees pid ≡ Some v → holders sees (pids ++ pid ∷ []) ≡ holders sees pids ++ holder pid v ∷ []
holders-more sees pids pid v e =
    filter_map-append (λ (p : ℕ). option_map (holder p) (sees p)) pids (pid ∷ [])
    ∙ ap (λ (o : Option View). holders sees pids ++ cons_option (option_map (holder pid) o) []) e
