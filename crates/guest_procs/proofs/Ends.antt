-- A process ends: its children lose their parent, and those that had ended are gone.
use Rattle.std.proofs.Common.{◌≡◌, inl, inr, ℕ, zero, suc, Bool, true, List, [], ◌∷◌, ◌++◌, ◌+◌, length, arith, map, set, Option, Some, None, refl, ap, sym, ◌∙◌}
use Rattle.std.specs.Prelude.{filter, option_and_then, option_map}
use Rattle.std.proofs.lemmas.List.{map-set}
use Rattle.std.proofs.lemmas.Bool.Decides.{eqb_tells}
use Rattle.parts_model.specs.declared.tagged.TaggedByte.{TaggedByte}
use Rattle.parts_model.specs.Numbered.{nth, how_many}
use Rattle.parts_model.specs.Processes.{Process, Processes, Life, Live, Ended, process, with_process, is_live, is_alive, orphan, with_end, ended, with_change, with_descriptor}
use Rattle.guest_procs.specs.Sound.{is_any, holds, IsSound}
use Rattle.guest_procs.proofs.Tables.{kept, Follows, follows-map, follows-with_process, follows-follows, numbers_from-push, numbers_from-with_process, length-present}

-- the order in which one process loses its parent and ends doesn't matter
orphan-with_end-parts : (pid : ℕ) (status : TaggedByte) (state : Life) (parent : Option ℕ) (descriptors : List (Option ℕ)) → option_and_then (with_end status) (orphan pid (record { life = state; parent = parent; descriptors = descriptors })) ≡ option_and_then (orphan pid) (with_end status (record { life = state; parent = parent; descriptors = descriptors }))
orphan-with_end-parts pid status state None descriptors = refl
orphan-with_end-parts pid status Live (Some parent) descriptors =
    elim (eqb_tells parent pid) [ inl h ↦ rw h.0 refl | inr h ↦ rw h.0 refl ]
orphan-with_end-parts pid status (Ended before) (Some parent) descriptors =
    elim (eqb_tells parent pid) [ inl h ↦ rw h.0 refl | inr h ↦ rw h.0 refl ]

orphan-with_end : (pid : ℕ) (status : TaggedByte) (x : Option Process) → option_and_then (with_end status) (option_and_then (orphan pid) x) ≡ option_and_then (orphan pid) (option_and_then (with_end status) x)
orphan-with_end pid status None = refl
orphan-with_end pid status (Some p) = orphan-with_end-parts pid status p.life p.parent p.descriptors

nth-map : (change : Process → Option Process) (all : Processes) (i : ℕ) → nth (map (option_and_then change) all) i ≡ option_and_then change (nth all i)
nth-map change [] i = refl
nth-map change (x ∷ all) zero = refl
nth-map change (x ∷ all) (suc i) = nth-map change all i

-- a process ends once its children have lost their parent
ended-last : (all : Processes) (pid : ℕ) (status : TaggedByte) → with_process (map (option_and_then (orphan pid)) all) pid (option_and_then (with_end status) (process (map (option_and_then (orphan pid)) all) pid)) ≡ ended all pid status
ended-last all zero status = refl
ended-last all (suc i) status =
    ap (λ (x : Option Process). set (map (option_and_then (orphan (suc i))) all) i x) (ap (option_and_then (with_end status)) (nth-map (orphan (suc i)) all i) ∙ orphan-with_end (suc i) status (nth all i)) ∙ sym (map-set (option_and_then (orphan (suc i))) all i (option_and_then (with_end status) (nth all i)))

pub ended-is : (all orphaned new : Processes) (pid : ℕ) (status : TaggedByte) → orphaned ≡ map (option_and_then (orphan pid)) all → new ≡ with_process orphaned pid (option_and_then (with_end status) (process orphaned pid)) → new ≡ ended all pid status
ended-is all orphaned new pid status first last = last ∙ rw first (ended-last all pid status)

-- nothing comes to life, and nothing that is gone comes back
any-then : (change : Process → Option Process) (x : Option Process) → holds is_any (option_and_then change x) ≡ true → holds is_any x ≡ true
any-then change None h = h
any-then change (Some p) h = refl

live-orphan-parts : (pid : ℕ) (state : Life) (parent : Option ℕ) (descriptors : List (Option ℕ)) → holds is_live (orphan pid (record { life = state; parent = parent; descriptors = descriptors })) ≡ true → is_alive state ≡ true
live-orphan-parts pid Live parent descriptors h = refl
live-orphan-parts pid (Ended status) None descriptors h = h
live-orphan-parts pid (Ended status) (Some parent) descriptors h =
    elim (eqb_tells parent pid) [ inl e ↦ let wrong = rw e.0 at h in wrong | inr e ↦ let wrong = rw e.0 at h in wrong ]

live-orphan : (pid : ℕ) (x : Option Process) → holds is_live (option_and_then (orphan pid) x) ≡ true → holds is_live x ≡ true
live-orphan pid None h = h
live-orphan pid (Some p) h = live-orphan-parts pid p.life p.parent p.descriptors h

live-end-parts : (status : TaggedByte) (state : Life) (parent : Option ℕ) (descriptors : List (Option ℕ)) → holds is_live (with_end status (record { life = state; parent = parent; descriptors = descriptors })) ≡ true → is_alive state ≡ true
live-end-parts status state None descriptors h = cc
live-end-parts status state (Some parent) descriptors h = cc

live-end : (status : TaggedByte) (x : Option Process) → holds is_live (option_and_then (with_end status) x) ≡ true → holds is_live x ≡ true
live-end status None h = h
live-end status (Some p) h = live-end-parts status p.life p.parent p.descriptors h

any-ended : (all : Processes) (pid : ℕ) (status : TaggedByte) → Follows is_any is_any all (with_process (map (option_and_then (orphan pid)) all) pid (option_and_then (with_end status) (process (map (option_and_then (orphan pid)) all) pid)))
any-ended all pid status =
    let orphaned = map (option_and_then (orphan pid)) all in
    follows-follows is_any all orphaned (with_process orphaned pid (option_and_then (with_end status) (process orphaned pid))) (follows-map is_any (option_and_then (orphan pid)) (any-then (orphan pid)) all) (follows-with_process is_any orphaned pid (option_and_then (with_end status) (process orphaned pid)) (any-then (with_end status) (process orphaned pid)))

live-ended : (all : Processes) (pid : ℕ) (status : TaggedByte) → Follows is_live is_live all (with_process (map (option_and_then (orphan pid)) all) pid (option_and_then (with_end status) (process (map (option_and_then (orphan pid)) all) pid)))
live-ended all pid status =
    let orphaned = map (option_and_then (orphan pid)) all in
    follows-follows is_live all orphaned (with_process orphaned pid (option_and_then (with_end status) (process orphaned pid))) (follows-map is_live (option_and_then (orphan pid)) (live-orphan pid) all) (follows-with_process is_live orphaned pid (option_and_then (with_end status) (process orphaned pid)) (live-end status (process orphaned pid)))

-- the lists after a process has ended, or is dropped
pub sound-kept : (all new : Processes) (all_present all_live new_present new_live : List ℕ) → IsSound all all_present all_live → Follows is_any is_any all new → Follows is_live is_live all new → new_present ≡ filter (λ pid. holds is_any (process new pid)) all_present → new_live ≡ filter (λ pid. holds is_live (process new pid)) all_live → IsSound new new_present new_live
sound-kept all new all_present all_live new_present new_live sound any alive present_is live_is = record {
  there_are = present_is ∙ ap (filter (λ pid. holds is_any (process new pid))) sound.there_are ∙ kept is_any is_any all new any;
  live_are = live_is ∙ ap (filter (λ pid. holds is_live (process new pid))) sound.live_are ∙ kept is_live is_live all new alive;
}

pub ended-sound : (all orphaned new : Processes) (pid : ℕ) (status : TaggedByte) (all_present all_live new_present new_live : List ℕ) → IsSound all all_present all_live → orphaned ≡ map (option_and_then (orphan pid)) all → new ≡ with_process orphaned pid (option_and_then (with_end status) (process orphaned pid)) → new_present ≡ filter (λ pid. holds is_any (process new pid)) all_present → new_live ≡ filter (λ pid. holds is_live (process new pid)) all_live → IsSound new new_present new_live
ended-sound all orphaned new pid status all_present all_live new_present new_live sound first last present_is live_is =
    let any : Follows is_any is_any all new = rw (last, first) (any-ended all pid status) in
    let alive : Follows is_live is_live all new = rw (last, first) (live-ended all pid status) in
    sound-kept all new all_present all_live new_present new_live sound any alive present_is live_is

gone : (test : Process → Bool) (x : Option Process) → holds test None ≡ true → holds test x ≡ true
gone test x h = cc

pub removed-sound : (all new : Processes) (pid : ℕ) (all_present all_live new_present new_live : List ℕ) → IsSound all all_present all_live → new ≡ with_process all pid None → new_present ≡ filter (λ pid. holds is_any (process new pid)) all_present → new_live ≡ filter (λ pid. holds is_live (process new pid)) all_live → IsSound new new_present new_live
removed-sound all new pid all_present all_live new_present new_live sound is present_is live_is =
    let any : Follows is_any is_any all new = rw is (follows-with_process is_any all pid None (gone is_any (process all pid))) in
    let alive : Follows is_live is_live all new = rw is (follows-with_process is_live all pid None (gone is_live (process all pid))) in
    sound-kept all new all_present all_live new_present new_live sound any alive present_is live_is

pub added-sound : (all new : Processes) (p : Process) (pid : ℕ) (all_present all_live new_present new_live : List ℕ) → IsSound all all_present all_live → is_live p ≡ true → pid ≡ length all + 1 → new ≡ all ++ Some p ∷ [] → new_present ≡ all_present ++ pid ∷ [] → new_live ≡ all_live ++ pid ∷ [] → IsSound new new_present new_live
added-sound all new p pid all_present all_live new_present new_live sound alive next is present_is live_is =
    let number : pid ≡ 1 + length all = omega arith in
    record {
      there_are = present_is ∙ rw (sound.there_are, number, is) (sym (numbers_from-push is_any 1 all p refl));
      live_are = live_is ∙ rw (sound.live_are, number, is) (sym (numbers_from-push is_live 1 all p alive));
    }

-- a process that lives as before
pub changed-sound : (all new : Processes) (pid : ℕ) (x : Option Process) (all_present all_live : List ℕ) → IsSound all all_present all_live → new ≡ with_process all pid x → holds is_any x ≡ holds is_any (process all pid) → holds is_live x ≡ holds is_live (process all pid) → IsSound new all_present all_live
changed-sound all new pid x all_present all_live sound is any alive = record {
  there_are = sound.there_are ∙ rw is (sym (numbers_from-with_process is_any all pid x any));
  live_are = sound.live_are ∙ rw is (sym (numbers_from-with_process is_live all pid x alive));
}

any-changed : (number : ℕ) (found : Option ℕ) (x : Option Process) → holds is_any (option_map (with_descriptor number found) x) ≡ holds is_any x
any-changed number found None = refl
any-changed number found (Some p) = refl

live-changed : (number : ℕ) (found : Option ℕ) (x : Option Process) → holds is_live (option_map (with_descriptor number found) x) ≡ holds is_live x
live-changed number found None = refl
live-changed number found (Some p) = refl

pub descriptor-sound : (all new : Processes) (pid number : ℕ) (found : Option ℕ) (all_present all_live : List ℕ) → IsSound all all_present all_live → new ≡ with_change all pid (with_descriptor number found) → IsSound new all_present all_live
descriptor-sound all new pid number found all_present all_live sound is =
    changed-sound all new pid (option_map (with_descriptor number found) (process all pid)) all_present all_live sound is (any-changed number found (process all pid)) (live-changed number found (process all pid))

-- as many are listed as there are
pub count-present : (all : Processes) (all_present all_live : List ℕ) (n : ℕ) → IsSound all all_present all_live → n ≡ length all_present → n ≡ how_many all
count-present all all_present all_live n sound is = is ∙ ap length sound.there_are ∙ length-present all
