-- What an event may do to the kernel, and what each change that isn't quiet does.
use Rattle.std.proofs.Common.{◌≡◌, ◌⊎◌, inr, ℕ, zero, suc, ◌+◌, ◌≤◌, List, [], ◌∷◌, ◌++◌, length, map, refl, ap, ◌∙◌, sym, Option, Some, None, Bool, true, false, ◌==◌, cond, if◌then◌else◌, ◌||◌, arith, option_map, option_and_then, is_some}
use Rattle.std.proofs.lemmas.Bool.Decides.{nat_tests}
use Rattle.std.proofs.lemmas.Bool.{eq-eqb, eqb-true, eqb-false, ne_eqb}
use Rattle.std.proofs.lemmas.Option.{slice_get-map}
use Rattle.std.proofs.lemmas.List.{length_push, length-map}
use Rattle.parts_model.specs.declared.tagged.TaggedByte.{TaggedByte}
use Rattle.parts_model.specs.Files.{Name, file_bytes, file_among, find_file}
use Rattle.parts_model.specs.Numbered.{nth, with_nth_from_one}
use Rattle.parts_model.specs.Processes as table
use Rattle.parts_model.specs.Processes.{Process, Processes, Life, Ended, process}
use Rattle.acts_model.specs.Moved.{StatusByte, Range}
use Rattle.acts_model.specs.Records.{LifeChange, BeginsLife, EndsLife, NoLife, lives_after, NameChange, NoName, Written}
use Rattle.arn_model.specs.Kernel as kernel
use Rattle.arn_model.specs.Kernel.{Kernel, all_dropped, descriptors_of, handling_of, child_handling, status_at}
use Rattle.arn_model.specs.ProcessCalls.{status_of}
use Rattle.arn_model.specs.Sound.{IsSound}
use Rattle.arn_model.specs.Tells.{FilesLast, WritesInside, lives, named_after, patched, outgoing_byte, HoldsAfter}
use Rattle.arn_model.proofs.Numbers.{suc-test, nth-push}
use Rattle.arn_model.proofs.Quiet.{FileSame, file-same, last-refl, last-trans, Quiet, quiet-handling}
use Rattle.arn_model.proofs.Closing.{process-change, length-with_process, status_in, lives_in, quiet-all_dropped, quiet-all_also_held}

-- a file that is there was there before with what is written over its bytes, or it is new and empty
abbrev pub FileKept : ℕ → Option Written → ℕ → Option (List TaggedByte) → Option (List TaggedByte) → Type 0
FileKept event put file old None = Unit {0}
FileKept event put file None (Some new) = new ≡ []
FileKept event put file (Some old) (Some new) = new ≡ patched event put file old

-- the kernel's side of what an event tells
pub record KernelTells (k : Kernel) (event : ℕ) (bytes : List ℕ) (outgoing : Option Range) (life : LifeChange) (name : NameChange) (put : Option Written) (new : Kernel) : Type 0 where
  pub holds : HoldsAfter k event bytes outgoing new
  pub living : (q : ℕ) → lives new q ≡ lives_after life q (lives k q)
  pub names : (path : List ℕ) → find_file new.files path ≡ named_after name path (find_file k.files path)
  pub kept : (file : ℕ) → FileKept event put file (file_bytes k.files file) (file_bytes new.files file)
  pub last : FilesLast k.files new.files
  pub writes : WritesInside k.files put
  pub sound : IsSound k → IsSound new
  pub grows : length k.processes ≤ length new.processes
  pub few : length new.processes ≤ length k.processes + 1
  pub unplugged : new.unplugged ≡ k.unplugged

pub kept-same : (event file : ℕ) (o p : Option (List TaggedByte)) → FileSame o p → FileKept event None file o p
kept-same event file o p h1 = grind (arith, nat_tests)

kept-then : (event : ℕ) (put : Option Written) (file : ℕ) (o p q : Option (List TaggedByte)) → FileKept event put file o p → FileSame p q → FileKept event put file o q
kept-then event put file o p q h1 h2 = grind (arith, nat_tests)

pub quiet-tells : (k : Kernel) (event : ℕ) (bytes : List ℕ) (new : Kernel) → Quiet k new → KernelTells k event bytes None NoLife NoName None new
quiet-tells k event bytes new h1 = grind (arith, nat_tests, kept-same)

pub tells-then : (k : Kernel) (event : ℕ) (bytes : List ℕ) (outgoing : Option Range) (life : LifeChange) (name : NameChange) (put : Option Written) (mid new : Kernel) → KernelTells k event bytes outgoing life name put mid → Quiet mid new → KernelTells k event bytes outgoing life name put new
tells-then k event bytes outgoing life name put mid new t q =
    record {
      holds = λ b h e. t.holds b h (q.bytes b h e);
      living = λ p. q.lives p ∙ t.living p;
      names = λ path. ap (λ (names : List Name). file_among names path) q.names ∙ t.names path;
      kept = λ file. kept-then event put file (file_bytes k.files file) (file_bytes mid.files file) (file_bytes new.files file) (t.kept file) (q.files file);
      last = last-trans k.files mid.files new.files t.last q.last;
      writes = t.writes;
      sound = λ s. q.sound (t.sound s);
      grows = let a = t.grows in let b = q.grows in omega arith;
      few = let a = t.few in let b = q.few in omega arith;
      unplugged = q.unplugged ∙ t.unplugged;
    }

-- a quiet change first, and then one that leaves files
pub then-tells : (k : Kernel) (event : ℕ) (bytes : List ℕ) (outgoing : Option Range) (life : LifeChange) (mid new : Kernel) → Quiet k mid → KernelTells mid event bytes outgoing life NoName None new → new.files ≡ mid.files → KernelTells k event bytes outgoing life NoName None new
then-tells k event bytes outgoing life mid new h1 h2 h3 = grind (arith, nat_tests, kept-same)

pub eq-swap : (a b : ℕ) → (a == b) ≡ (b == a)
eq-swap a b = grind (arith, nat_tests, eq-eqb, eqb-false, eqb-true, ne_eqb)

-- the table of processes

nth-map : {A B : Type 0} → (f : Option A → Option B) → f None ≡ None → (xs : List (Option A)) (j : ℕ) → nth (map f xs) j ≡ f (nth xs j)
nth-map f h1 xs j = grind (arith, nat_tests, slice_get-map)

process-map : (f : Option Process → Option Process) → f None ≡ None → (all : Processes) (q : ℕ) → process (map f all) q ≡ f (process all q)
process-map f e all zero = sym e
process-map f e all (suc i) = nth-map f e all i

ended-process : (all : Processes) (pid : ℕ) (status : TaggedByte) (q : ℕ) → process (table.ended all pid status) q ≡ option_and_then (table.orphan pid) (cond (q == pid) (option_and_then (table.with_end status) (process all q)) (process all q))
ended-process all pid status q =
    process-map (option_and_then (table.orphan pid)) refl (table.with_process all pid (option_and_then (table.with_end status) (process all pid))) q
    ∙ ap (λ (o : Option Process). option_and_then (table.orphan pid) o) (process-change (option_and_then (table.with_end status)) refl all pid q)

-- the process that ends
awaited-status : (b : Bool) (p : Process) (status h : TaggedByte) → p.life ≡ Ended status → status_in (if b then Some p else None) ≡ Some h → Some status ≡ Some h
awaited-status true p status h l e = ap (λ (x : Life). table.status_in x) (sym l) ∙ e
awaited-status false p status h l e = absurd (cc)

orphan-status : (pid : ℕ) (o : Option Process) (h : TaggedByte) → status_in (option_and_then (table.orphan pid) o) ≡ Some h → status_in o ≡ Some h
orphan-status pid o h h1 = grind (arith, nat_tests, status_in)

orphan-lives : (pid : ℕ) (o : Option Process) → lives_in (option_and_then (table.orphan pid) o) ≡ lives_in o
orphan-lives pid o = grind (arith, nat_tests, lives_in)

end-status : (status : TaggedByte) (o : Option Process) (h : TaggedByte) → status_in (option_and_then (table.with_end status) o) ≡ Some h → Some status ≡ Some h
end-status status None h e = absurd (cc)
end-status status (Some p) h e = awaited-status (false || is_some p.parent) (record p { life = Ended status; descriptors = table.none_open }) status h refl e

end-lives : (status : TaggedByte) (o : Option Process) → lives_in (option_and_then (table.with_end status) o) ≡ false
end-lives status o = grind (arith, nat_tests, lives_in)

table-ended : (pid s event : ℕ) (k : Kernel) → KernelTells k event (s ∷ []) (Some (status_of pid)) (EndsLife pid) NoName None (record k { processes = table.ended k.processes pid (status_at event s) })
table-ended pid s event k =
    record {
      holds = holds;
      living = living;
      names = λ path. refl;
      kept = λ file. kept-same event file (file_bytes k.files file) (file_bytes k.files file) (file-same (file_bytes k.files file) (file_bytes k.files file) refl);
      last = last-refl k.files;
      writes = tt;
      sound = λ h. record { fits = h.fits; named = h.named; there = h.there };
      grows = let e = length-map (table.with_process k.processes pid (option_and_then (table.with_end (status_at event s)) (process k.processes pid))) (option_and_then (table.orphan pid)) in let g = length-with_process k.processes pid (option_and_then (table.with_end (status_at event s)) (process k.processes pid)) in omega arith;
      few = let e = length-map (table.with_process k.processes pid (option_and_then (table.with_end (status_at event s)) (process k.processes pid))) (option_and_then (table.orphan pid)) in let g = length-with_process k.processes pid (option_and_then (table.with_end (status_at event s)) (process k.processes pid)) in omega arith;
      unplugged = refl;
    }
  where
    by_test : (q : ℕ) (h : TaggedByte) (b : Bool) → (q == pid) ≡ b → status_in (option_and_then (table.orphan pid) (cond b (option_and_then (table.with_end (status_at event s)) (process k.processes q)) (process k.processes q))) ≡ Some h → (outgoing_byte event (s ∷ []) (Some (status_of pid)) (StatusByte q) ≡ Some h) ⊎ ((outgoing_byte event (s ∷ []) (Some (status_of pid)) (StatusByte q) ≡ None) × (table.status_of k.processes q ≡ Some h))
    by_test q h b h1 h2 = grind (arith, nat_tests, eq-swap, end-status, orphan-status)

    holds : HoldsAfter k event (s ∷ []) (Some (status_of pid)) (record k { processes = table.ended k.processes pid (status_at event s) })
    holds (StatusByte q) h e = by_test q h (q == pid) refl (ap status_in (sym (ended-process k.processes pid (status_at event s) q)) ∙ e)
    holds _ h e = inr (refl, e)

    live : (q : ℕ) (b : Bool) (o : Option Process) → lives_in (option_and_then (table.orphan pid) (cond b (option_and_then (table.with_end (status_at event s)) o) o)) ≡ cond b false (lives_in o)
    live q b o = grind (arith, nat_tests, orphan-lives, end-lives)

    living : (q : ℕ) → is_some (table.live_process (table.ended k.processes pid (status_at event s)) q) ≡ lives_after (EndsLife pid) q (lives k q)
    living q = grind (arith, nat_tests, ended-process, live, eq-swap)

pub ended-tells : (pid s event : ℕ) (k : Kernel) → KernelTells k event (s ∷ []) (Some (status_of pid)) (EndsLife pid) NoName None (kernel.ended pid (status_at event s) k)
ended-tells pid s event k =
    let k' = all_dropped (descriptors_of k pid) k in
    let k'' = record k' { processes = table.ended k'.processes pid (status_at event s) } in
    tells-then k event (s ∷ []) (Some (status_of pid)) (EndsLife pid) NoName None k'' (kernel.ended pid (status_at event s) k)
    (then-tells k event (s ∷ []) (Some (status_of pid)) (EndsLife pid) k' k'' (quiet-all_dropped (descriptors_of k pid) k) (table-ended pid s event k') refl)
    (quiet-handling k'' (with_nth_from_one k'.handling pid None))

-- a child
pub forked-process : (all : Processes) (p : Option Process) (q : ℕ) → process (all ++ p ∷ []) q ≡ cond (q == length all + 1) p (process all q)
forked-process all p q = grind (arith, nat_tests, eqb-true, nth-push, suc-test)

child-status : (parent : ℕ) (o : Option Process) → status_in (option_map (table.child_of parent) o) ≡ None
child-status parent None = refl
child-status parent (Some p) = refl

child-lives : (parent : ℕ) (o : Option Process) → lives_in o ≡ true → lives_in (option_map (table.child_of parent) o) ≡ true
child-lives parent None e = e
child-lives parent (Some p) e = refl

table-forked : (pid event : ℕ) (k : Kernel) → lives k pid ≡ true → KernelTells k event [] None (BeginsLife (table.next_process k.processes)) NoName None (record k { processes = table.forked k.processes pid })
table-forked pid event k h1 = grind (arith, nat_tests, forked-process, eq-swap, kept-same, file-same, last-refl, length_push, child-lives, child-status)

pub forked-tells : (pid event : ℕ) (k : Kernel) → lives k pid ≡ true → KernelTells k event [] None (BeginsLife (table.next_process k.processes)) NoName None (kernel.forked pid k)
forked-tells pid event k alive =
    let k' = record k { processes = table.forked k.processes pid } in
    let hs = k.handling ++ option_map child_handling (handling_of k pid) ∷ [] in
    let k'' = record k' { handling = hs } in
    let life = BeginsLife (table.next_process k.processes) in
    tells-then k event [] None life NoName None k'' (kernel.forked pid k)
    (tells-then k event [] None life NoName None k' k'' (table-forked pid event k alive) (quiet-handling k' hs))
    (quiet-all_also_held (descriptors_of k pid) k'')
