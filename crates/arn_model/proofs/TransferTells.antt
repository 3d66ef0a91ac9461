-- What the calls that move bytes tell.
use Rattle.std.proofs.lemmas.Grind.{common_steps}
use Rattle.std.proofs.Common.{◌≡◌, ℕ, ◌+◌, ◌-◌, ◌<◌, ◌≤◌, min, List, [], ◌∷◌, length, take, drop, refl, ap, ◌∙◌, sym, subst, Option, Some, None, IfSome, unwrap_or, Bool, true, false, ◌==◌, not, if◌then◌else◌, arith, nat_le, option_map, option_and_then, slice_get, length-take, length-drop, take_all, length-set}
use Rattle.std.proofs.lemmas.Bool.Decides.{nat_tests}
use Rattle.std.proofs.lemmas.Bool.{eqb-false, and_from, le-leb, leb-true, leb-false, not-false}
use Rattle.std.proofs.lemmas.List.{length-map}
use Rattle.arn_base.specs.declared.machine.Cpu.{Cpu}
use Rattle.arn_base.specs.declared.records.Extra.{Extra}
use Rattle.arn_base.specs.declared.records.Extra.TheVariants as extra
use Rattle.parts_model.specs.declared.calls.TheConstants.{EXIT, READ, WRITE}
use Rattle.parts_model.specs.declared.limits.TheConstants.{MOST_TRANSFER, MOST_FILE_BYTES}
use Rattle.parts_model.specs.declared.open.Description.{Description}
use Rattle.parts_model.specs.declared.open.Description.TheVariants as description
use Rattle.parts_model.specs.declared.refusals.TheConstants.{DEVICE_FAULT, BAD_DESCRIPTOR, NO_ROOM, BAD_ADDRESS, NO_DEVICE}
use Rattle.parts_model.specs.declared.tagged.TaggedByte.{TaggedByte}
use Rattle.parts_model.specs.Channel.{Channel, front, without_front, channel_end}
use Rattle.parts_model.specs.Files.{file_bytes, fitting, read_from, written, rewritten}
use Rattle.parts_model.specs.Numbered.{nth}
use Rattle.parts_model.specs.Pipes.{Pipe, room, with_put, with_taken, with_change}
use Rattle.parts_model.specs.Replies.{Answered, GaveBytes, ReadReply, Reads, ReadFails, ReadAbsent, WriteReply, Takes, WriteFails, WriteAbsent, to_read, to_write}
use Rattle.parts_model.specs.Tagged.{values}
use Rattle.acts_model.specs.Acts.{Returns, Gives}
use Rattle.acts_model.specs.Bodies.{View}
use Rattle.acts_model.specs.Disagreement.{wrong_if, given_wrong}
use Rattle.acts_model.specs.Moved.{KernelByte, ConsoleByte, PipeByte, FileByte, Range, behind}
use Rattle.acts_model.specs.Records.{NoLife, NoName, Written, held_len, plain_len, call_name, call_put, give_in}
use Rattle.acts_model.specs.Told.{write_act}
use Rattle.acts_model.specs.Views.{argument, can_reach, read, error}
use Rattle.arn_model.specs.Doing as doing
use Rattle.arn_model.specs.Doing.{Request, Does, Asks, returns, refuse, unless_refused}
use Rattle.arn_model.specs.Kernel.{Kernel, Machine, description_of, what_is, with_description}
use Rattle.arn_model.specs.Row.{answered}
use Rattle.arn_model.specs.Tells.{kernel_byte, at_position, Spans}
use Rattle.arn_model.specs.TransferCalls.{cut, if_moving, receiving, read_console, read_file, read_empty, read_queue, read_pipe, was_unplugged, absent, unless_unplugged, read_from_what, read_what, read_opened, read_row, giving, write_console, put_into_file, write_file, put_into_pipe, write_pipe, write_to_what, write_what, write_opened, write_row, device_read, device_write}
use Rattle.arn_model.proofs.Numbers.{get-take, get-drop}
use Rattle.arn_model.proofs.Quiet.{Quiet, quiet-refl}
use Rattle.arn_model.proofs.Closing.{quiet-with_description}
use Rattle.arn_model.proofs.Effects.{KernelTells, quiet-tells, tells-then}
use Rattle.arn_model.proofs.Putting.{front-there, quiet-taken, quiet-front, piped-tells, written-tells, written-behind}
use Rattle.arn_model.proofs.Calling.{Plain, DoneCall, At, RequestTells, done-call, done-plain, unless-refused, refused-tells}
use Rattle.arn_model.proofs.FileTells.{described}
use Rattle.arn_model.proofs.Reach.{isnt-outside, read-len, gave-first, gave-all}

moving-tells : (m : Machine) (pid : ℕ) (v : View) (n : ℕ) (place count : ℕ) (goes_on : Request) → At m pid v n → (n == EXIT) ≡ false → Plain pid n v.body.cpu 0 extra.Nothing → ((count == 0) ≡ false → can_reach v place (cut count) ≡ true → RequestTells m pid v n goes_on) → RequestTells m pid v n (if_moving m v place count goes_on)
moving-tells m pid v n place count goes_on at x p next = by_test (count == 0) refl
  where
    by_test : (b : Bool) → (count == 0) ≡ b → RequestTells m pid v n (if b then returns 0 m.kernel else unless_refused m.kernel (refuse BAD_ADDRESS (not (can_reach v place (cut count))) ∷ []) goes_on)
    by_test true e = done-plain m pid v n 0 extra.Nothing m.kernel at p refl (quiet-refl m.kernel)
    by_test false e =
        unless-refused m pid v n (refuse BAD_ADDRESS (not (can_reach v place (cut count))) ∷ []) goes_on at x refl
        (λ none. next e (not-false (can_reach v place (cut count)) none.0))

-- reading

read-plain : (pid : ℕ) (cpu : Cpu) (result : ℕ) → Plain pid READ cpu result extra.Nothing
read-plain pid cpu result = record { told = refl; length = refl; life = refl; put = refl; gives = refl }

receiving-done : (m : Machine) (pid : ℕ) (v : View) (len : ℕ) (first : KernelByte) (held : List TaggedByte) (k : Kernel) → At m pid v READ → can_reach v (argument v.body.cpu 1) len ≡ true → length held ≤ len → ((i : ℕ) → i < length held → kernel_byte m.kernel (behind first i) ≡ slice_get held i) → Quiet m.kernel k → DoneCall m pid v READ (receiving (argument v.body.cpu 1) first held k)
receiving-done m pid v len first held k at reach short there q =
    let e = length-map held (λ (h : TaggedByte). h.value) in
    done-call m pid v READ (receiving (argument v.body.cpu 1) first held k) NoName None at
    (λ few.
    record {
      told = refl;
      fine = ap (λ (b : Bool). wrong_if b (length (values held)) 0) (isnt-outside v (argument v.body.cpu 1) len (length (values held)) (omega arith) reach);
      forks = tt;
      length = refl;
      comes = tt;
      receives = record { held = held; all = refl; received = refl; there = there; told = refl };
      spans = tt;
      life = refl;
      name = refl;
      put = refl;
    })
    (quiet-tells m.kernel m.events (values held) k q)

front-short : (c : Channel) (most : ℕ) (held : List TaggedByte) → front c most ≡ held → length held ≤ most
front-short c most held e = let l = length-take most c.queue in let g : length (front c most) ≡ length held = ap (λ (h : List TaggedByte). length h) e in omega arith

read-console-tells : (m : Machine) (pid : ℕ) (v : View) (most : ℕ) → At m pid v READ → can_reach v (argument v.body.cpu 1) most ≡ true → (held : List TaggedByte) → front m.kernel.console most ≡ held → RequestTells m pid v READ (read_console m (argument v.body.cpu 1) held)
read-console-tells m pid v most at reach [] e = tt
read-console-tells m pid v most at reach (b ∷ held) e =
    receiving-done m pid v most (ConsoleByte m.kernel.console.taken) (b ∷ held) (record m.kernel { console = without_front m.kernel.console (length (b ∷ held)) }) at reach
    (front-short m.kernel.console most (b ∷ held) e)
    (λ i l.
    front-there m.kernel.console most i (subst (λ (h : List TaggedByte). i < length h) (sym e) l)
    ∙ ap (λ (h : List TaggedByte). slice_get h i) e)
    (quiet-front m.kernel (length (b ∷ held)))

-- what is read from a file, where there is one
file-there : (o : Option (List TaggedByte)) (position most i : ℕ) → i < length (read_from (unwrap_or o []) position most) → option_and_then (λ bytes. slice_get bytes (position + i)) o ≡ slice_get (read_from (unwrap_or o []) position most) i
file-there o position most i h1 = grind (arith, common_steps, nat_tests, length-take, get-drop, get-take)

file-behind : (o : Option (List TaggedByte)) (position most : ℕ) → IfSome o (λ bytes. position ≤ length bytes) → IfSome o (λ bytes. position + length (read_from (unwrap_or o []) position most) ≤ length bytes)
file-behind o position most h1 = grind (arith, common_steps, nat_tests, length-take, length-drop)

read-file-tells : (m : Machine) (pid : ℕ) (v : View) (n file position most : ℕ) → At m pid v READ → can_reach v (argument v.body.cpu 1) most ≡ true → what_is m.kernel n ≡ Some (description.File file position) → (held : List TaggedByte) → read_from (unwrap_or (file_bytes m.kernel.files file) []) position most ≡ held → RequestTells m pid v READ (read_file m n (argument v.body.cpu 1) file position held)
read-file-tells m pid v n file position most at reach what [] e = done-plain m pid v READ 0 extra.Nothing m.kernel at (read-plain pid v.body.cpu 0) refl (quiet-refl m.kernel)
read-file-tells m pid v n file position most at reach what (b ∷ held) e =
    let lies = described m.kernel n (description.File file position) what at.sound in
    let o = file_bytes m.kernel.files file in
    let g : length (read_from (unwrap_or o []) position most) ≡ length (b ∷ held) = ap (λ (h : List TaggedByte). length h) e in
    let l = length-take most (drop position (unwrap_or o [])) in
    receiving-done m pid v most (FileByte file position) (b ∷ held) (with_description n (description.File file (position + length (b ∷ held))) m.kernel) at reach
    (omega arith)
    (λ i l. file-there o position most i (subst (λ (h : List TaggedByte). i < length h) (sym e) l) ∙ ap (λ (h : List TaggedByte). slice_get h i) e)
    (quiet-with_description n (description.File file (position + length (b ∷ held))) m.kernel
    (λ s x f. record { made = lies.made; inside = subst (λ (i : ℕ). IfSome (file_bytes m.kernel.files file) (λ bytes. position + i ≤ length bytes)) g (file-behind (file_bytes m.kernel.files file) position most lies.inside) }))

read-empty-tells : (m : Machine) (pid : ℕ) (v : View) → At m pid v READ → (b : Bool) → RequestTells m pid v READ (read_empty m b)
read-empty-tells m pid v at true = tt
read-empty-tells m pid v at false = done-plain m pid v READ 0 extra.Nothing m.kernel at (read-plain pid v.body.cpu 0) refl (quiet-refl m.kernel)

read-queue-tells : (m : Machine) (pid : ℕ) (v : View) (pipe most : ℕ) (p : Pipe) → At m pid v READ → can_reach v (argument v.body.cpu 1) most ≡ true → nth m.kernel.pipes pipe ≡ Some p → (held : List TaggedByte) → front p.channel most ≡ held → RequestTells m pid v READ (read_queue m pipe (argument v.body.cpu 1) p held)
read-queue-tells m pid v pipe most p at reach there [] e = read-empty-tells m pid v at p.has_writer
read-queue-tells m pid v pipe most p at reach there (b ∷ held) e =
    receiving-done m pid v most (PipeByte pipe p.channel.taken) (b ∷ held) (record m.kernel { pipes = with_change m.kernel.pipes pipe (λ q. with_taken q (length (b ∷ held))) }) at reach
    (front-short p.channel most (b ∷ held) e)
    (λ i l.
    ap (λ (o : Option Pipe). option_and_then (λ p'. at_position p'.channel (p.channel.taken + i)) o) there
    ∙ (front-there p.channel most i (subst (λ (h : List TaggedByte). i < length h) (sym e) l)
    ∙ ap (λ (h : List TaggedByte). slice_get h i) e))
    (quiet-taken m.kernel pipe (length (b ∷ held)))

read-pipe-tells : (m : Machine) (pid : ℕ) (v : View) (pipe most : ℕ) → At m pid v READ → can_reach v (argument v.body.cpu 1) most ≡ true → (o : Option Pipe) → nth m.kernel.pipes pipe ≡ o → RequestTells m pid v READ (read_pipe m pipe (argument v.body.cpu 1) most o)
read-pipe-tells m pid v pipe most at reach None e = refused-tells m pid v READ BAD_DESCRIPTOR at refl refl
read-pipe-tells m pid v pipe most at reach (Some p) e = read-queue-tells m pid v pipe most p at reach e (front p.channel most) refl

-- devices

-- how many bytes a device gave
abbrev length-of : ReadReply → ℕ
length-of (Reads bytes) = length bytes
length-of _ = 0

read-absent-done : (m : Machine) (pid : ℕ) (v : View) → At m pid v READ → DoneCall m pid v READ (absent m.kernel)
read-absent-done m pid v at = done-plain m pid v READ (error NO_DEVICE) extra.Absent m.kernel at (record { told = refl; length = refl; life = refl; put = refl; gives = refl }) refl (quiet-refl m.kernel)

device-read-done : (m : Machine) (pid : ℕ) (v : View) (device len : ℕ) → At m pid v READ → can_reach v (argument v.body.cpu 1) len ≡ true → (reply : ReadReply) → (length-of reply ≤ len) → DoneCall m pid v READ (device_read m device (argument v.body.cpu 1) reply)
device-read-done m pid v device len at reach (Reads bytes) short =
    let a = argument v.body.cpu 1 in
    done-call m pid v READ (device_read m device a (Reads bytes)) NoName None at
    (λ few.
    record {
      told = refl;
      fine = ap (λ (b : Bool). wrong_if b (length bytes) 0) (isnt-outside v a len (length bytes) short reach);
      forks = tt;
      length = refl;
      comes = tt;
      receives = refl;
      spans = tt;
      life = refl;
      name = refl;
      put = refl;
    })
    (quiet-tells m.kernel m.events bytes m.kernel (quiet-refl m.kernel))
device-read-done m pid v device len at reach ReadFails short =
    done-plain m pid v READ (error DEVICE_FAULT) extra.Fault m.kernel at (record { told = refl; length = refl; life = refl; put = refl; gives = refl }) refl (quiet-refl m.kernel)
device-read-done m pid v device len at reach ReadAbsent short = read-absent-done m pid v at

to-read-short : (len : ℕ) (reply : Option Answered) → length-of (to_read len reply) ≤ len
to-read-short len (Some (GaveBytes bytes)) = omega (arith, length-take len bytes)
to-read-short len _ = omega arith

asks-read : (m : Machine) (pid : ℕ) (v : View) (device len : ℕ) → At m pid v READ → can_reach v (argument v.body.cpu 1) len ≡ true → RequestTells m pid v READ (unless_unplugged m device (doing.Reads device (argument v.body.cpu 1) len))
unfolding answered
asks-read m pid v device len at reach = by_test (was_unplugged m.kernel device)
  where
    by_test : (b : Bool) → RequestTells m pid v READ (if b then Does (absent m.kernel) else Asks (doing.Reads device (argument v.body.cpu 1) len))
    by_test true = read-absent-done m pid v at
    by_test false = λ reply. device-read-done m pid v device len at reach (to_read len reply) (to-read-short len reply)

moving-read : (m : Machine) (pid : ℕ) (v : View) (goes_on : Request) → At m pid v READ → ((argument v.body.cpu 2 == 0) ≡ false → can_reach v (argument v.body.cpu 1) (cut (argument v.body.cpu 2)) ≡ true → RequestTells m pid v READ goes_on) → RequestTells m pid v READ (if_moving m v (argument v.body.cpu 1) (argument v.body.cpu 2) goes_on)
moving-read m pid v goes_on at next = moving-tells m pid v READ (argument v.body.cpu 1) (argument v.body.cpu 2) goes_on at refl (read-plain pid v.body.cpu 0) next

read-from-tells : (m : Machine) (pid : ℕ) (v : View) (n : ℕ) → At m pid v READ → (what : Description) → what_is m.kernel n ≡ Some what → RequestTells m pid v READ (read_from_what m v n (argument v.body.cpu 1) (argument v.body.cpu 2) what)
read-from-tells m pid v n at description.Console e =
    moving-read m pid v _ at (λ some reach. read-console-tells m pid v (cut (argument v.body.cpu 2)) at reach (front m.kernel.console (cut (argument v.body.cpu 2))) refl)
read-from-tells m pid v n at (description.File file position) e =
    let held = read_from (unwrap_or (file_bytes m.kernel.files file) []) position (cut (argument v.body.cpu 2)) in
    moving-read m pid v _ at (λ some reach. read-file-tells m pid v n file position (cut (argument v.body.cpu 2)) at reach e held refl)
read-from-tells m pid v n at (description.Reader pipe) e =
    moving-read m pid v _ at (λ some reach. read-pipe-tells m pid v pipe (cut (argument v.body.cpu 2)) at reach (nth m.kernel.pipes pipe) refl)
read-from-tells m pid v n at (description.Connection reads writes) e =
    moving-read m pid v _ at (λ some reach. read-pipe-tells m pid v reads (cut (argument v.body.cpu 2)) at reach (nth m.kernel.pipes reads) refl)
read-from-tells m pid v n at (description.Device device) e =
    moving-read m pid v _ at (λ some reach. asks-read m pid v device (cut (argument v.body.cpu 2)) at reach)
read-from-tells m pid v n at _ e = refused-tells m pid v READ BAD_DESCRIPTOR at refl refl

read-what-tells : (m : Machine) (pid : ℕ) (v : View) (n : ℕ) → At m pid v READ → (o : Option Description) → what_is m.kernel n ≡ o → RequestTells m pid v READ (read_what m v n (argument v.body.cpu 1) (argument v.body.cpu 2) o)
read-what-tells m pid v n at None e = refused-tells m pid v READ BAD_DESCRIPTOR at refl refl
read-what-tells m pid v n at (Some what) e = read-from-tells m pid v n at what e

read-opened-tells : (m : Machine) (pid : ℕ) (v : View) → At m pid v READ → (o : Option ℕ) → RequestTells m pid v READ (read_opened m v (argument v.body.cpu 1) (argument v.body.cpu 2) o)
read-opened-tells m pid v at None = refused-tells m pid v READ BAD_DESCRIPTOR at refl refl
read-opened-tells m pid v at (Some n) = read-what-tells m pid v n at (what_is m.kernel n) refl

pub read-tells : (m : Machine) (pid : ℕ) (v : View) → At m pid v READ → RequestTells m pid v READ (read_row m pid v)
read-tells m pid v at = read-opened-tells m pid v at (description_of m.kernel pid (argument v.body.cpu 0))

-- writing

write-plain : (pid : ℕ) (cpu : Cpu) → Plain pid WRITE cpu 0 extra.Nothing
write-plain pid cpu = record { told = refl; length = refl; life = refl; put = refl; gives = refl }

-- the record's side of a write that gave bytes
record Gave (v : View) (bytes : List ℕ) (more : Extra) (writing : Option Written) : Type 0 where
  pub told : write_act v.body.cpu (length bytes) more ≡ Gives (argument v.body.cpu 1) (length bytes) (length bytes)
  pub fine : given_wrong v (argument v.body.cpu 1) (length bytes) (length bytes) more ≡ None
  pub len : unwrap_or (held_len more) (plain_len WRITE (length bytes) more) ≡ length bytes
  pub put : call_put WRITE more ≡ writing
  pub name : call_name WRITE more ≡ NoName
  pub gives : give_in more ≡ None

giving-done : (m : Machine) (pid : ℕ) (v : View) (bytes : List ℕ) (more : Extra) (outgoing : Option Range) (writing : Option Written) (k : Kernel) → At m pid v WRITE → Gave v bytes more writing → Spans outgoing bytes → KernelTells m.kernel m.events bytes outgoing NoLife NoName writing k → DoneCall m pid v WRITE (giving (argument v.body.cpu 1) bytes more outgoing k)
giving-done m pid v bytes more outgoing writing k h1 h2 h3 h4 = grind (arith, nat_tests, done-call)

write-console-tells : (m : Machine) (pid : ℕ) (v : View) (len : ℕ) → At m pid v WRITE → can_reach v (argument v.body.cpu 1) len ≡ true → RequestTells m pid v WRITE (write_console m (argument v.body.cpu 1) (read v (argument v.body.cpu 1) len))
write-console-tells m pid v len h1 h2 = grind (arith, nat_tests, gave-all, giving-done, quiet-refl, quiet-tells)

-- what fits is taken whole
fitting-fits : (position : ℕ) (bytes : List ℕ) → length (take (fitting position (length bytes)) bytes) ≤ fitting position (length (take (fitting position (length bytes)) bytes))
fitting-fits position bytes = grind (arith, common_steps, nat_tests, leb-false, leb-true, length-take)

write-file-tells : (m : Machine) (pid : ℕ) (v : View) (n file position len : ℕ) → At m pid v WRITE → can_reach v (argument v.body.cpu 1) len ≡ true → what_is m.kernel n ≡ Some (description.File file position) → RequestTells m pid v WRITE (write_file m n (argument v.body.cpu 1) file position (read v (argument v.body.cpu 1) len))
write-file-tells m pid v n file position len at reach what =
    let a = argument v.body.cpu 1 in
    let all = read v a len in
    let bytes = take (fitting position (length all)) all in
    let lies = described m.kernel n (description.File file position) what at.sound in
    let fits : take (fitting position (length bytes)) bytes ≡ bytes = take_all (fitting position (length bytes)) bytes (fitting-fits position all) in
    let k = record m.kernel { files = written m.kernel.files file position bytes m.events } in
    let k' = with_description n (description.File file (position + length bytes)) k in
    let range : Range = record { first = FileByte file position; len = length bytes } in
    let put : Option Written = Some (record { file = file; at = position; bytes = bytes }) in
    unless-refused m pid v WRITE (refuse NO_ROOM (position == MOST_FILE_BYTES) ∷ []) (Does (put_into_file m n a file position bytes)) at refl refl
    (λ none.
    giving-done m pid v bytes (extra.Put file position bytes) (Some range) put k' at
    (record { told = refl; fine = gave-first v a len (fitting position (length all)) at.fits reach; len = refl; put = refl; name = refl; gives = refl })
    refl
    (tells-then m.kernel m.events bytes (Some range) NoLife NoName put k k' (written-tells m.kernel m.events file position bytes fits lies.made lies.inside)
    (quiet-with_description n (description.File file (position + length bytes)) k
    (λ s o f.
    record {
      made = let l = lies.made in let e = length-set m.kernel.files.all file (option_map (rewritten position bytes m.events) (nth m.kernel.files.all file)) in omega arith;
      inside = written-behind m.events file position bytes m.kernel.files fits lies.inside;
    }))))

-- what a pipe has room for
cut-some : (count : ℕ) → (count == 0) ≡ false → 0 < cut count
cut-some count e = let ne = eqb-false count 0 e in omega arith

piped-done : (m : Machine) (pid : ℕ) (v : View) (pipe len : ℕ) (p : Pipe) → At m pid v WRITE → can_reach v (argument v.body.cpu 1) len ≡ true → 0 < len → len ≤ MOST_TRANSFER → nth m.kernel.pipes pipe ≡ Some p → (room p == 0) ≡ false → DoneCall m pid v WRITE (put_into_pipe m pipe (argument v.body.cpu 1) p (take (room p) (read v (argument v.body.cpu 1) len)))
piped-done m pid v pipe len p at reach some most there has =
    let a = argument v.body.cpu 1 in
    let all = read v a len in
    let bytes = take (room p) all in
    let whole = read-len v a len reach in
    let cut = length-take (room p) all in
    let ne = eqb-false (room p) 0 has in
    let sized = sizes (room p) len (length all) (length bytes) some most whole cut ne in
    let low : nat_le 1 (length bytes) ≡ true = le-leb 1 (length bytes) sized.0 in
    let high : nat_le (length bytes) MOST_TRANSFER ≡ true = le-leb (length bytes) MOST_TRANSFER sized.1 in
    giving-done m pid v bytes extra.Nothing (Some (record { first = PipeByte pipe (channel_end p.channel); len = length bytes })) None
    (record m.kernel { pipes = with_change m.kernel.pipes pipe (λ q. with_put q bytes m.events) }) at
    (record {
      told = ap (λ (b : Bool). if b then Gives a (length bytes) (length bytes) else Returns (length bytes)) (and_from (nat_le 1 (length bytes)) (nat_le (length bytes) MOST_TRANSFER) low high);
      fine = ap (λ (b : Bool). wrong_if b (length bytes) 0) (isnt-outside v a len (length bytes) sized.2 reach);
      len = ap (λ (b : Bool). if b then length bytes else 0) high;
      put = refl;
      name = refl;
      gives = refl;
    })
    refl
    (piped-tells m.kernel m.events pipe p bytes there sized.3)
  where
    sizes : (room len all taken : ℕ) → 0 < len → len ≤ MOST_TRANSFER → all ≡ len → taken ≡ min room all → (room ≡ 0 → ⊥) → (1 ≤ taken) × (taken ≤ MOST_TRANSFER) × (taken ≤ len) × (taken ≤ room)
    sizes room len all taken some most whole cut ne = (omega arith, omega arith, omega arith, omega arith)

write-pipe-tells : (m : Machine) (pid : ℕ) (v : View) (pipe len : ℕ) → At m pid v WRITE → can_reach v (argument v.body.cpu 1) len ≡ true → 0 < len → len ≤ MOST_TRANSFER → (o : Option Pipe) → nth m.kernel.pipes pipe ≡ o → RequestTells m pid v WRITE (write_pipe m pipe (argument v.body.cpu 1) (read v (argument v.body.cpu 1) len) o)
write-pipe-tells m pid v pipe len h1 h2 h3 h4 o h5 = grind (arith, nat_tests, piped-done, refused-tells, unless-refused)

write-absent-done : (m : Machine) (pid : ℕ) (v : View) → At m pid v WRITE → DoneCall m pid v WRITE (absent m.kernel)
write-absent-done m pid v at = done-plain m pid v WRITE (error NO_DEVICE) extra.Absent m.kernel at (record { told = refl; length = refl; life = refl; put = refl; gives = refl }) refl (quiet-refl m.kernel)

device-write-done : (m : Machine) (pid : ℕ) (v : View) (device len : ℕ) → At m pid v WRITE → can_reach v (argument v.body.cpu 1) len ≡ true → (reply : WriteReply) → DoneCall m pid v WRITE (device_write m device (argument v.body.cpu 1) (read v (argument v.body.cpu 1) len) reply)
device-write-done m pid v device len at reach (Takes n) =
    let a = argument v.body.cpu 1 in
    let bytes = take n (read v a len) in
    giving-done m pid v bytes (extra.Sent device bytes) None None m.kernel at
    (record { told = refl; fine = gave-first v a len n at.fits reach; len = refl; put = refl; name = refl; gives = refl })
    tt
    (quiet-tells m.kernel m.events bytes m.kernel (quiet-refl m.kernel))
device-write-done m pid v device len at reach WriteFails =
    done-plain m pid v WRITE (error DEVICE_FAULT) extra.Fault m.kernel at (record { told = refl; length = refl; life = refl; put = refl; gives = refl }) refl (quiet-refl m.kernel)
device-write-done m pid v device len at reach WriteAbsent = write-absent-done m pid v at

asks-write : (m : Machine) (pid : ℕ) (v : View) (device len : ℕ) → At m pid v WRITE → can_reach v (argument v.body.cpu 1) len ≡ true → RequestTells m pid v WRITE (unless_unplugged m device (doing.Writes device (argument v.body.cpu 1) len))
unfolding answered
asks-write m pid v device len at reach = by_test (was_unplugged m.kernel device)
  where
    by_test : (b : Bool) → RequestTells m pid v WRITE (if b then Does (absent m.kernel) else Asks (doing.Writes device (argument v.body.cpu 1) len))
    by_test true = write-absent-done m pid v at
    by_test false = λ reply. device-write-done m pid v device len at reach (to_write len reply)

moving-write : (m : Machine) (pid : ℕ) (v : View) (goes_on : Request) → At m pid v WRITE → ((argument v.body.cpu 2 == 0) ≡ false → can_reach v (argument v.body.cpu 1) (cut (argument v.body.cpu 2)) ≡ true → RequestTells m pid v WRITE goes_on) → RequestTells m pid v WRITE (if_moving m v (argument v.body.cpu 1) (argument v.body.cpu 2) goes_on)
moving-write m pid v goes_on at next = moving-tells m pid v WRITE (argument v.body.cpu 1) (argument v.body.cpu 2) goes_on at refl (write-plain pid v.body.cpu) next

write-to-tells : (m : Machine) (pid : ℕ) (v : View) (n : ℕ) → At m pid v WRITE → (what : Description) → what_is m.kernel n ≡ Some what → RequestTells m pid v WRITE (write_to_what m v n (argument v.body.cpu 1) (argument v.body.cpu 2) what)
write-to-tells m pid v n at description.Console e =
    moving-write m pid v _ at (λ some reach. write-console-tells m pid v (cut (argument v.body.cpu 2)) at reach)
write-to-tells m pid v n at (description.File file position) e =
    moving-write m pid v _ at (λ some reach. write-file-tells m pid v n file position (cut (argument v.body.cpu 2)) at reach e)
write-to-tells m pid v n at (description.Writer pipe) e =
    moving-write m pid v _ at (λ some reach. write-pipe-tells m pid v pipe (cut (argument v.body.cpu 2)) at reach (cut-some (argument v.body.cpu 2) some) (omega arith) (nth m.kernel.pipes pipe) refl)
write-to-tells m pid v n at (description.Connection reads writes) e =
    moving-write m pid v _ at (λ some reach. write-pipe-tells m pid v writes (cut (argument v.body.cpu 2)) at reach (cut-some (argument v.body.cpu 2) some) (omega arith) (nth m.kernel.pipes writes) refl)
write-to-tells m pid v n at (description.Device device) e =
    moving-write m pid v _ at (λ some reach. asks-write m pid v device (cut (argument v.body.cpu 2)) at reach)
write-to-tells m pid v n at _ e = refused-tells m pid v WRITE BAD_DESCRIPTOR at refl refl

write-what-tells : (m : Machine) (pid : ℕ) (v : View) (n : ℕ) → At m pid v WRITE → (o : Option Description) → what_is m.kernel n ≡ o → RequestTells m pid v WRITE (write_what m v n (argument v.body.cpu 1) (argument v.body.cpu 2) o)
write-what-tells m pid v n at None e = refused-tells m pid v WRITE BAD_DESCRIPTOR at refl refl
write-what-tells m pid v n at (Some what) e = write-to-tells m pid v n at what e

write-opened-tells : (m : Machine) (pid : ℕ) (v : View) → At m pid v WRITE → (o : Option ℕ) → RequestTells m pid v WRITE (write_opened m v (argument v.body.cpu 1) (argument v.body.cpu 2) o)
write-opened-tells m pid v at None = refused-tells m pid v WRITE BAD_DESCRIPTOR at refl refl
write-opened-tells m pid v at (Some n) = write-what-tells m pid v n at (what_is m.kernel n) refl

pub write-tells : (m : Machine) (pid : ℕ) (v : View) → At m pid v WRITE → RequestTells m pid v WRITE (write_row m pid v)
write-tells m pid v at = write-opened-tells m pid v at (description_of m.kernel pid (argument v.body.cpu 0))
