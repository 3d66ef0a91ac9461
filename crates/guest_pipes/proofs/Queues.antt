-- Bytes in a queue, and their places.
use Rattle.std.proofs.Common.{◌≡◌, ◌==◌, false, ℕ, zero, suc, ◌+◌, ◌<◌, ◌≤◌, ◌-◌, ◌^◌, ◌++◌, ◌∙◌, List, [], ◌∷◌, length, map, take, drop, length-append, length-drop, append-nil, refl, sym, ap, arith}
use Rattle.std.proofs.lemmas.List.{append_assoc, drop-append-le, drop-drop}
use Rattle.arn_base.specs.declared.records.Give.{Give}
use Rattle.arn_base.specs.declared.records.Origin.{Origin}
use Rattle.arn_base.specs.declared.records.Src.{Src}
use Rattle.parts_model.specs.declared.limits.TheConstants.{MOST_PIPE_BYTES}
use Rattle.parts_model.specs.declared.tagged.TaggedByte.{TaggedByte}
use Rattle.parts_model.specs.Tagged.{given, held_from, origins_of, values}
use Rattle.guest_pipes.proofs.Cuts.{length-places_from}
use Rattle.guest_pipes.specs.declared.runs.Run.{Run}
use Rattle.guest_pipes.specs.Queue.{IsQueue}
use Rattle.guest_pipes.specs.Runs.{AreRuns, places_from, places_of, tagged}

tagged-nil : (bytes : List ℕ) → tagged bytes [] ≡ []
tagged-nil [] = refl
tagged-nil (b ∷ bytes) = refl

pub length-tagged : (bytes : List ℕ) (places : List Src) → length places ≡ length bytes → length (tagged bytes places) ≡ length bytes
length-tagged [] places same = refl
length-tagged (b ∷ bytes) [] same = absurd (omega (arith, same))
length-tagged (b ∷ bytes) (p ∷ places) same = ap (λ (n : ℕ). suc n) (length-tagged bytes places (omega (arith, same)))

pub take-tagged : (n : ℕ) (bytes : List ℕ) (places : List Src) → take n (tagged bytes places) ≡ tagged (take n bytes) (take n places)
take-tagged zero bytes places = refl
take-tagged (suc n) [] places = refl
take-tagged (suc n) (b ∷ bytes) [] = refl
take-tagged (suc n) (b ∷ bytes) (p ∷ places) = ap (λ (held : List TaggedByte). record { value = b; origin = p } ∷ held) (take-tagged n bytes places)

pub drop-tagged : (n : ℕ) (bytes : List ℕ) (places : List Src) → drop n (tagged bytes places) ≡ tagged (drop n bytes) (drop n places)
drop-tagged zero bytes places = refl
drop-tagged (suc n) [] places = refl
drop-tagged (suc n) (b ∷ bytes) [] = sym (tagged-nil (drop n bytes))
drop-tagged (suc n) (b ∷ bytes) (p ∷ places) = drop-tagged n bytes places

pub values-tagged : (bytes : List ℕ) (places : List Src) → length places ≡ length bytes → values (tagged bytes places) ≡ bytes
values-tagged [] places same = refl
values-tagged (b ∷ bytes) [] same = absurd (omega (arith, same))
values-tagged (b ∷ bytes) (p ∷ places) same = ap (λ (bs : List ℕ). b ∷ bs) (values-tagged bytes places (omega (arith, same)))

pub places-tagged : (bytes : List ℕ) (places : List Src) → length places ≡ length bytes → map (λ h. h.origin) (tagged bytes places) ≡ places
places-tagged [] [] same = refl
places-tagged (b ∷ bytes) (p ∷ places) same = ap (λ (ps : List Src). p ∷ ps) (places-tagged bytes places (omega (arith, same)))
places-tagged _ _ same = absurd (omega (arith, same))

pub tagged-append : (bytes more : List ℕ) (places new : List Src) → length places ≡ length bytes → tagged (bytes ++ more) (places ++ new) ≡ tagged bytes places ++ tagged more new
tagged-append [] more [] new same = refl
tagged-append (b ∷ bytes) more (p ∷ places) new same = ap (λ (held : List TaggedByte). record { value = b; origin = p } ∷ held) (tagged-append bytes more places new (omega (arith, same)))
tagged-append _ more _ new same = absurd (omega (arith, same))

pub tagged-held : (event at : ℕ) (bytes : List ℕ) → tagged bytes (places_from event at (length bytes)) ≡ held_from event at bytes
tagged-held event at [] = refl
tagged-held event at (b ∷ bytes) = ap (λ (held : List TaggedByte). record { value = b; origin = record { event = event; at = at } } ∷ held) (tagged-held event (at + 1) bytes)

pub places_of-push : (rs : List Run) (r : Run) → places_of (rs ++ r ∷ []) ≡ places_of rs ++ places_from r.event 0 r.len
places_of-push [] r = append-nil (places_from r.event 0 r.len)
places_of-push (s ∷ rs) r =
    ap (λ (ps : List Src). places_from s.event 0 s.len ++ ps) (places_of-push rs r) ∙ sym (append_assoc (places_from s.event 0 s.len) (places_of rs) (places_from r.event 0 r.len))

pub AreRuns-push : (gone : ℕ) (rs : List Run) (r : Run) → AreRuns gone rs → 0 < r.len → r.len ≤ MOST_PIPE_BYTES → AreRuns gone (rs ++ r ∷ [])
AreRuns-push gone [] r none some few = (omega (arith, none, some), few, refl)
AreRuns-push gone (s ∷ rs) r runs some few = (runs.0, runs.1, AreRuns-push 0 rs r runs.2 some few)

-- none is gone of the first
pub AreRuns-whole : (gone : ℕ) (rs : List Run) → AreRuns gone rs → AreRuns 0 rs
AreRuns-whole gone [] runs = refl
AreRuns-whole gone (r ∷ rs) runs = (omega (arith, runs.0), runs.1, runs.2)

-- all that is held is in the queue, but what was taken
pub length-queue : (taken head gone : ℕ) (items : List ℕ) (runs : List Run) → IsQueue taken head (length items) gone runs → length (tagged (drop head items) (drop gone (places_of runs))) ≡ length items - head
length-queue taken head gone items runs queue =
    length-tagged (drop head items) (drop gone (places_of runs)) (queue.placed ∙ sym (length-drop head items)) ∙ length-drop head items

-- all that was held was taken, and is forgotten
pub cleared : (taken head len new gone : ℕ) (runs : List Run) → IsQueue taken head len gone runs → len - head ≡ 0 → new ≡ 0 → IsQueue taken 0 new gone runs
cleared taken head len new gone runs queue none is = record {
  within = omega (arith, is);
  few = omega (arith, is);
  counted = omega (arith, is, queue.counted);
  are_runs = queue.are_runs;
  placed = queue.placed ∙ omega (arith, none, is);
}

same-take : (n : ℕ) (bytes : List ℕ) (places : List Src) → length places ≡ length bytes → length (take n places) ≡ length (take n bytes)
same-take zero bytes places same = refl
same-take (suc n) [] [] same = refl
same-take (suc n) [] (p ∷ places) same = absurd (omega (arith, same))
same-take (suc n) (b ∷ bytes) [] same = absurd (omega (arith, same))
same-take (suc n) (b ∷ bytes) (p ∷ places) same = ap (λ (k : ℕ). suc k) (same-take n bytes places (omega (arith, same)))

pub given-tagged : (n : ℕ) (bytes : List ℕ) (places : List Src) (give : Give) → length places ≡ length bytes → give.bytes ≡ take n bytes → give.origins ≡ origins_of (take n places) → give ≡ given (take n (tagged bytes places))
given-tagged n bytes places give same are from =
    let cut = same-take n bytes places same in
    ap (λ (bs : List ℕ). record { bytes = bs; origins = give.origins }) (are ∙ sym (values-tagged (take n bytes) (take n places) cut))
    ∙ ap (λ (os : List Origin). record { bytes = values (tagged (take n bytes) (take n places)); origins = os }) (from ∙ ap origins_of (sym (places-tagged (take n bytes) (take n places) cut)))
    ∙ ap given (sym (take-tagged n bytes places))

-- fewer bytes of the first run are gone than there are places, and than a pipe may hold
pub gone-within : (gone : ℕ) (rs : List Run) → AreRuns gone rs → gone ≤ length (places_of rs)
gone-within gone [] runs = omega (arith, runs)
gone-within gone (r ∷ rs) runs =
    omega (arith, runs.0, length-append (places_from r.event 0 r.len) (places_of rs), length-places_from r.event 0 r.len)

pub gone-few : (gone : ℕ) (rs : List Run) → AreRuns gone rs → gone ≤ MOST_PIPE_BYTES
gone-few gone [] runs = omega (arith, runs)
gone-few gone (r ∷ rs) runs = omega (arith, runs.0, runs.1)

-- the first bytes are gone
pub queue-taken : (n head gone result : ℕ) (bytes : List ℕ) (places left : List Src) → drop result left ≡ drop (gone + n) places → tagged (drop (head + n) bytes) (drop result left) ≡ drop n (tagged (drop head bytes) (drop gone places))
queue-taken n head gone result bytes places left is =
    ap (λ (ps : List Src). tagged (drop (head + n) bytes) ps) (is ∙ sym (drop-drop n gone places))
    ∙ ap (λ (bs : List ℕ). tagged bs (drop n (drop gone places))) (sym (drop-drop n head bytes))
    ∙ sym (drop-tagged n (drop head bytes) (drop gone places))

-- bytes of an event are put behind the others
places_of-behind : (gone : ℕ) (rs : List Run) (r : Run) → gone ≤ length (places_of rs) → drop gone (places_of (rs ++ r ∷ [])) ≡ drop gone (places_of rs) ++ places_from r.event 0 r.len
places_of-behind gone rs r within = ap (drop gone) (places_of-push rs r) ∙ drop-append-le gone (places_of rs) (places_from r.event 0 r.len) within

pub queue-put : (head gone event : ℕ) (items bytes : List ℕ) (rs : List Run) → head ≤ length items → gone ≤ length (places_of rs) → length (drop gone (places_of rs)) ≡ length items - head → tagged (drop head (items ++ bytes)) (drop gone (places_of (rs ++ record { event = event; len = length bytes } ∷ []))) ≡ tagged (drop head items) (drop gone (places_of rs)) ++ held_from event 0 bytes
queue-put head gone event items bytes rs within fewer placed =
    let run : Run = record { event = event; len = length bytes } in
    let places : List Src = drop gone (places_of rs) in
    let held : List ℕ = drop head items in
    ap (λ (bs : List ℕ). tagged bs (drop gone (places_of (rs ++ run ∷ [])))) (drop-append-le head items bytes within)
    ∙ ap (λ (ps : List Src). tagged (held ++ bytes) ps) (places_of-behind gone rs run fewer)
    ∙ tagged-append held bytes places (places_from event 0 (length bytes)) (placed ∙ sym (length-drop head items))
    ∙ ap (λ (more : List TaggedByte). tagged held places ++ more) (tagged-held event 0 bytes)

pub queue-more : (taken head gone event : ℕ) (items bytes : List ℕ) (rs : List Run) → IsQueue taken head (length items) gone rs → 0 < length bytes → length items - head + length bytes ≤ MOST_PIPE_BYTES → taken + (length items - head) + length bytes < 2 ^ 64 → IsQueue taken head (length (items ++ bytes)) gone (rs ++ record { event = event; len = length bytes } ∷ [])
queue-more taken head gone event items bytes rs queue some few counted =
    let run : Run = record { event = event; len = length bytes } in
    let all = length-append items bytes in
    let behind =
    ap length (places_of-behind gone rs run (gone-within gone rs queue.are_runs))
    ∙ length-append (drop gone (places_of rs)) (places_from event 0 (length bytes)) in
    record {
      within = omega (arith, all, queue.within);
      few = omega (arith, all, few, queue.within);
      counted = omega (arith, all, counted, queue.within);
      are_runs = AreRuns-push gone rs run queue.are_runs some (omega (arith, few));
      placed = omega (arith, all, behind, length-places_from event 0 (length bytes), queue.placed, queue.within);
    }

pub pushed : (rs same new : List Run) (r : Run) → same ≡ rs → new ≡ same ++ r ∷ [] → new ≡ rs ++ r ∷ []
pushed rs same new r is more = more ∙ ap (λ (all : List Run). all ++ r ∷ []) is

pub some-bytes : (bytes : List ℕ) → false ≡ (length bytes == 0) → 0 < length bytes
some-bytes [] some = cc
some-bytes (b ∷ bytes) some = omega arith
