-- Changes of the kernel that put no byte anywhere and leave who lives, names and what files hold.
use Rattle.std.proofs.lemmas.Grind.{common_steps}
use Rattle.std.proofs.Common.{◌≡◌, ℕ, ◌≤◌, List, length, refl, ◌∙◌, sym, subst, Option, Some, None, IfSome, Bool, true, false, ◌==◌, cond, arith, option_and_then, is_some, slice_get, slice_set}
use Rattle.std.proofs.lemmas.Bool.Decides.{nat_tests}
use Rattle.parts_model.specs.declared.open.Description.{Description}
use Rattle.parts_model.specs.declared.tagged.TaggedByte.{TaggedByte}
use Rattle.parts_model.specs.Channel.{Channel}
use Rattle.parts_model.specs.Files.{Files, file_bytes, file_among}
use Rattle.parts_model.specs.Numbered.{nth}
use Rattle.parts_model.specs.Pipes as pipes
use Rattle.parts_model.specs.Pipes.{Pipe, Pipes}
use Rattle.parts_model.specs.Ports.{Ports}
use Rattle.parts_model.specs.Processes as table
use Rattle.parts_model.specs.Processes.{Processes}
use Rattle.acts_model.specs.Moved.{KernelByte, FileByte}
use Rattle.arn_model.specs.Kernel.{Kernel, Opened, Handling}
use Rattle.arn_model.specs.Sound.{FitsFiles, IsSound}
use Rattle.arn_model.specs.Tells.{FilesLast, at_position, kernel_byte, lives}
use Rattle.arn_model.proofs.Numbers.{nth-change, nth-push}

-- what the first is, the second is
abbrev pub Less : Option TaggedByte → Option TaggedByte → Type 0
Less new old = (h : TaggedByte) → new ≡ Some h → old ≡ Some h

pub less-same : (new old : Option TaggedByte) → new ≡ old → Less new old
less-same new old e h k = sym e ∙ k

pub less-none : (old : Option TaggedByte) → Less None old
less-none old h k = absurd (cc)

-- a file has the bytes that it had, or it is gone
abbrev pub FileSame : Option (List TaggedByte) → Option (List TaggedByte) → Type 0
FileSame old None = Unit {0}
FileSame None (Some new) = ⊥
FileSame (Some old) (Some new) = new ≡ old

pub file-same : (o p : Option (List TaggedByte)) → p ≡ o → FileSame o p
file-same o p h1 = grind (arith, nat_tests)

file-through : (o p q : Option (List TaggedByte)) → FileSame o p → FileSame p q → FileSame o q
file-through o p q h1 h2 = grind (arith, nat_tests)

pub last-refl : (files : Files) → FilesLast files files
last-refl files = record { made = omega arith; gone = λ file made none. none }

pub last-trans : (old mid new : Files) → FilesLast old mid → FilesLast mid new → FilesLast old new
last-trans old mid new h g =
    record { made = let a = h.made in let b = g.made in omega arith; gone = λ file made none. g.gone file (let a = h.made in omega arith) (h.gone file made none) }

gone-same : (o p : Option (List TaggedByte)) → FileSame o p → o ≡ None → p ≡ None
gone-same o p h1 h2 = grind (arith, nat_tests)

pub record Quiet (old new : Kernel) : Type 0 where
  pub bytes : (b : KernelByte) → Less (kernel_byte new b) (kernel_byte old b)
  pub lives : (q : ℕ) → lives new q ≡ lives old q
  pub names : new.files.names ≡ old.files.names
  pub files : (file : ℕ) → FileSame (file_bytes old.files file) (file_bytes new.files file)
  pub last : FilesLast old.files new.files
  pub sound : IsSound old → IsSound new
  pub grows : length old.processes ≤ length new.processes
  pub few : length new.processes ≤ length old.processes
  pub unplugged : new.unplugged ≡ old.unplugged

pub quiet-refl : (k : Kernel) → Quiet k k
quiet-refl k = record { last = last-refl k.files; bytes = λ b h e. e; lives = λ q. refl; names = refl; files = λ file. file-same (file_bytes k.files file) (file_bytes k.files file) refl; sound = λ s. s; grows = omega arith; few = omega arith; unplugged = refl }

pub quiet-trans : (k l m : Kernel) → Quiet k l → Quiet l m → Quiet k m
quiet-trans k l m h1 h2 = grind (arith, nat_tests, file-through, last-trans)

-- files

pub record FilesQuiet (old new : Files) : Type 0 where
  pub names : new.names ≡ old.names
  pub made : length new.all ≡ length old.all
  pub files : (file : ℕ) → FileSame (file_bytes old file) (file_bytes new file)
  pub named : (path : List ℕ) (file : ℕ) → file_among new.names path ≡ Some file → is_some (file_bytes old file) ≡ true → is_some (file_bytes new file) ≡ true

lies-same : (position : ℕ) (o p : Option (List TaggedByte)) → FileSame o p → IfSome o (λ bytes. position ≤ length bytes) → IfSome p (λ bytes. position ≤ length bytes)
lies-same position o p h1 h2 = grind (arith, nat_tests)

fits-same : (old new : Files) → FilesQuiet old new → (what : Description) → FitsFiles old what → FitsFiles new what
fits-same old new h1 what h2 = grind (arith, nat_tests, lies-same)

fits-if : (old new : Files) → FilesQuiet old new → (o : Option Opened) → IfSome o (λ o. FitsFiles old o.what) → IfSome o (λ o. FitsFiles new o.what)
fits-if old new h None f = tt
fits-if old new h (Some o) f = fits-same old new h o.what f

file-less : (at : ℕ) (o p : Option (List TaggedByte)) → FileSame o p → Less (option_and_then (λ bytes. slice_get bytes at) p) (option_and_then (λ bytes. slice_get bytes at) o)
file-less at o p h1 = grind (arith, nat_tests)

files-bytes : (k : Kernel) (fs : Files) → FilesQuiet k.files fs → (b : KernelByte) → Less (kernel_byte (record k { files = fs }) b) (kernel_byte k b)
files-bytes k fs h (FileByte file at) x e = file-less at (file_bytes k.files file) (file_bytes fs file) (h.files file) x e
files-bytes k fs h _ x e = e

files-sound : (k : Kernel) (fs : Files) → FilesQuiet k.files fs → IsSound k → IsSound (record k { files = fs })
files-sound k fs h1 h2 = grind (arith, common_steps, nat_tests, fits-if)

pub quiet-files : (k : Kernel) (fs : Files) → FilesQuiet k.files fs → Quiet k (record k { files = fs })
quiet-files k fs h1 = grind (arith, common_steps, nat_tests, gone-same, files-bytes, files-sound)

-- pipes

abbrev pub pipe_byte : Option Pipe → ℕ → Option TaggedByte
pipe_byte p n = option_and_then (λ p. at_position p.channel n) p

pub quiet-pipes : (k : Kernel) (ps : Pipes) → ((pipe n : ℕ) → Less (pipe_byte (nth ps pipe) n) (pipe_byte (nth k.pipes pipe) n)) → Quiet k (record k { pipes = ps })
quiet-pipes k ps h1 = grind (arith, common_steps, nat_tests, last-refl, file-same)

pub quiet-pipe : (k : Kernel) (pipe : ℕ) (f : Option Pipe → Option Pipe) → f None ≡ None → ((o : Option Pipe) (n : ℕ) → Less (pipe_byte (f o) n) (pipe_byte o n)) → Quiet k (record k { pipes = slice_set k.pipes pipe (f (nth k.pipes pipe)) })
quiet-pipe k pipe f e less = quiet-pipes k (slice_set k.pipes pipe (f (nth k.pipes pipe))) each
  where
    each : (q n : ℕ) → Less (pipe_byte (nth (slice_set k.pipes pipe (f (nth k.pipes pipe))) q) n) (pipe_byte (nth k.pipes q) n)
    each q n =
        subst (λ (o : Option Pipe). Less (pipe_byte o n) (pipe_byte (nth k.pipes q) n)) (sym (nth-change f e k.pipes pipe q))
        (by_test (q == pipe))
      where
        by_test : (b : Bool) → Less (pipe_byte (cond b (f (nth k.pipes q)) (nth k.pipes q)) n) (pipe_byte (nth k.pipes q) n)
        by_test true = less (nth k.pipes q) n
        by_test false = less-same (pipe_byte (nth k.pipes q) n) (pipe_byte (nth k.pipes q) n) refl

pub quiet-new_pipe : (k : Kernel) → Quiet k (record k { pipes = pipes.pipe_made k.pipes })
quiet-new_pipe k = grind (arith, common_steps, nat_tests, quiet-pipes, less-none, nth-push, less-same)

-- the table of processes

pub record TableQuiet (old new : Processes) : Type 0 where
  pub bytes : (q : ℕ) → Less (table.status_of new q) (table.status_of old q)
  pub lives : (q : ℕ) → is_some (table.live_process new q) ≡ is_some (table.live_process old q)
  pub grows : length old ≤ length new
  pub few : length new ≤ length old

pub quiet-table : (k : Kernel) (ps : Processes) → TableQuiet k.processes ps → Quiet k (record k { processes = ps })
quiet-table k ps h1 = grind (arith, common_steps, nat_tests, last-refl, file-same)

-- descriptions

pub quiet-descriptions : (k : Kernel) (ds : List (Option Opened)) → (IsSound k → (n : ℕ) → IfSome (nth ds n) (λ o. FitsFiles k.files o.what)) → Quiet k (record k { descriptions = ds })
quiet-descriptions k ds h1 = grind (arith, common_steps, nat_tests, last-refl, file-same)

-- handling, ports

pub quiet-handling : (k : Kernel) (hs : List (Option Handling)) → Quiet k (record k { handling = hs })
quiet-handling k hs = grind (arith, common_steps, nat_tests, last-refl, file-same)

pub quiet-ports : (k : Kernel) (ps : Ports) → Quiet k (record k { ports = ps })
quiet-ports k ps = grind (arith, common_steps, nat_tests, last-refl, file-same)

-- the console
pub quiet-console : (k : Kernel) (c : Channel) → ((n : ℕ) → Less (at_position c n) (at_position k.console n)) → Quiet k (record k { console = c })
quiet-console k c h =
    record { last = last-refl k.files; bytes = bytes; lives = λ q. refl; names = refl; files = λ file. file-same (file_bytes k.files file) (file_bytes k.files file) refl; sound = λ s. record { fits = s.fits; named = s.named; there = s.there }; grows = omega arith; few = omega arith; unplugged = refl }
  where
    bytes : (b : KernelByte) → Less (kernel_byte (record k { console = c }) b) (kernel_byte k b)
    bytes b = grind (arith, nat_tests)
