-- Whether what calls come to is ready.
use Rattle.std.proofs.Common.{◌≡◌, ◌≢◌, ℕ, ◌+◌, ◌==◌, Bool, true, false, cond, List, [], ◌∷◌, length, take, refl, sym, ap, ◌∙◌, subst}
use Rattle.std.specs.Prelude.{unwrap_or}
use Rattle.parts_model.specs.declared.limits.TheConstants.{MOST_FILE_BYTES}
use Rattle.parts_model.specs.declared.open.Description.TheVariants.{File}
use Rattle.parts_model.specs.declared.refusals.TheConstants.{NO_ROOM}
use Rattle.parts_model.specs.declared.tagged.TaggedByte.{TaggedByte}
use Rattle.parts_model.specs.Files.{file_bytes, fitting, read_from}
use Rattle.acts_model.specs.Bodies.{View}
use Rattle.acts_model.specs.Moved.{KernelByte, FileByte}
use Rattle.acts_model.specs.Views.{read}
use Rattle.arn_model.specs.ChannelCalls.{accept_row}
use Rattle.arn_model.specs.Doing.{Does, refused}
use Rattle.arn_model.specs.Kernel.{Kernel, Machine, with_description}
use Rattle.arn_model.specs.ProcessCalls.{wait_row}
use Rattle.arn_model.specs.Row.{is_waiting}
use Rattle.arn_model.specs.TransferCalls.{put_into_file, read_row, received, write_row}
use Rattle.guest_requests.specs.Accepts.{IsAccept}
use Rattle.guest_requests.specs.Transfers.{IsReading, IsWriting, reading_at}
use Rattle.guest_requests.specs.Waits.{IsWait}
use Rattle.guest_requests.specs.declared.accepting.Accepting.{Accepting}
use Rattle.guest_requests.specs.declared.accepting.Accepting.TheVariants as accepting
use Rattle.guest_requests.specs.declared.reading.Place.{Place}
use Rattle.guest_requests.specs.declared.reading.Reading.{Reading}
use Rattle.guest_requests.specs.declared.reading.Reading.TheVariants as reading
use Rattle.guest_requests.specs.declared.waiting.Waiting.{Waiting}
use Rattle.guest_requests.specs.declared.waiting.Waiting.TheVariants as waiting
use Rattle.guest_requests.specs.declared.writing.Writing.{Writing}
use Rattle.guest_requests.specs.declared.writing.Writing.TheVariants as writing

-- a transfer from or to a file never waits
received-ready : (m : Machine) (at : ℕ) (first : KernelByte) (held : List TaggedByte) (k : Kernel) → is_waiting (received m at first held k) ≡ false
received-ready m at first [] k = refl
received-ready m at first (b ∷ held) k = refl

put-ready : (m : Machine) (at : ℕ) (bytes : List ℕ) (place : Place) (b : Bool) → is_waiting (cond b (refused NO_ROOM m.kernel) (Does (put_into_file m place.number at place.file place.position (take (fitting place.position (length bytes)) bytes)))) ≡ false
put-ready m at bytes place true = refl
put-ready m at bytes place false = refl

pub reading_at-ready : (m : Machine) (at most : ℕ) (place : Place) → is_waiting (reading_at m at most place) ≡ false
reading_at-ready m at most place =
    let held : List TaggedByte = read_from (unwrap_or (file_bytes m.kernel.files place.file) []) place.position most in
    received-ready m at (FileByte place.file place.position) held (with_description place.number (File place.file (place.position + length held)) m.kernel)

module _ (m : Machine) (pid : ℕ) (v : View) where
  pub reading-waits : (r : Reading) → r ≡ reading.Waits → IsReading r m (read_row m pid v) → true ≡ is_waiting (read_row m pid v)
  reading-waits r is comes = sym (ap is_waiting (subst (λ (x : Reading). IsReading x m (read_row m pid v)) is comes))

  pub reading-ready : (r : Reading) → r ≢ reading.Waits → IsReading r m (read_row m pid v) → false ≡ is_waiting (read_row m pid v)
  reading-ready reading.Waits ready comes = absurd (ready refl)
  reading-ready (reading.Answers answer) ready comes = sym (ap is_waiting comes)
  reading-ready (reading.Takes at count) ready comes = sym (ap is_waiting comes)
  reading-ready (reading.Reads at most place) ready comes = sym comes.1
  reading-ready (reading.Drains at most pipe) ready comes = sym comes.1
  reading-ready reading.Absent ready comes = sym (ap is_waiting comes)
  reading-ready (reading.Asks device at most) ready comes = sym (ap is_waiting comes)

  pub writing-waits : (r : Writing) → r ≡ writing.Waits → IsWriting r m v (write_row m pid v) → true ≡ is_waiting (write_row m pid v)
  writing-waits r is comes = sym (ap is_waiting (subst (λ (x : Writing). IsWriting x m v (write_row m pid v)) is comes))

  pub writing-ready : (r : Writing) → r ≢ writing.Waits → IsWriting r m v (write_row m pid v) → false ≡ is_waiting (write_row m pid v)
  writing-ready writing.Waits ready comes = absurd (ready refl)
  writing-ready (writing.Answers answer) ready comes = sym (ap is_waiting comes)
  writing-ready (writing.Prints at count) ready comes = sym (ap is_waiting comes)
  writing-ready (writing.Puts at count place) ready comes = sym (ap is_waiting comes ∙ put-ready m at (read v at count) place (place.position == MOST_FILE_BYTES))
  writing-ready (writing.Pours at count pipe) ready comes = sym comes.1
  writing-ready writing.Absent ready comes = sym (ap is_waiting comes)
  writing-ready (writing.Asks device at count) ready comes = sym (ap is_waiting comes)

  pub wait-waits : (r : Waiting) → r ≡ waiting.Waits → IsWait r m v (wait_row m pid v) → true ≡ is_waiting (wait_row m pid v)
  wait-waits r is comes = sym (ap is_waiting (subst (λ (x : Waiting). IsWait x m v (wait_row m pid v)) is comes))

  pub wait-ready : (r : Waiting) → r ≢ waiting.Waits → IsWait r m v (wait_row m pid v) → false ≡ is_waiting (wait_row m pid v)
  wait-ready waiting.Waits ready comes = absurd (ready refl)
  wait-ready (waiting.Answers answer) ready comes = sym (ap is_waiting comes)
  wait-ready (waiting.Collects child) ready comes = sym (ap is_waiting comes)

  pub accept-waits : (r : Accepting) → r ≡ accepting.Waits → IsAccept r m pid (accept_row m pid v) → true ≡ is_waiting (accept_row m pid v)
  accept-waits r is comes = sym (ap is_waiting (subst (λ (x : Accepting). IsAccept x m pid (accept_row m pid v)) is comes))

  pub accept-ready : (r : Accepting) → r ≢ accepting.Waits → IsAccept r m pid (accept_row m pid v) → false ≡ is_waiting (accept_row m pid v)
  accept-ready accepting.Waits ready comes = absurd (ready refl)
  accept-ready (accepting.Answers answer) ready comes = sym (ap is_waiting comes)
  accept-ready (accepting.Accepts port conn) ready comes = sym (ap is_waiting comes)
