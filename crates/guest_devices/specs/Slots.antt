-- Slots that hold a device each or are empty.
use Rattle.std.specs.Prelude.{Bool, IsTrue, ◌≡◌, ◌≢◌, ◌↔◌, ℕ, ◌+◌, List, [], ◌++◌, length, take, Option, IfSome, IsNone, is_some, slice_get, option_and_then, option_map}
use Rattle.arn_base.specs.Device.{DeviceReply, Faults, Gives, Room, cut_to, takes, left_after}
use Rattle.parts_model.specs.Numbered.{nth}
use Rattle.parts_model.specs.Replies.{Answered, GaveBytes, TookBytes, Failed, IsAbsent}
use Rattle.guest_devices.specs.Answers.{Asked, Here, Reads, Writes, here_answer}

-- slot n holds a device
abbrev pub is_filled : {D : Type 0} → List (Option D) → ℕ → Bool
is_filled slots n = is_some (nth slots n)

-- the reply that slot n tells for place k
abbrev pub slot_tells : {D : Type 0} → (D → ℕ → Option DeviceReply) → List (Option D) → ℕ → ℕ → Option DeviceReply
slot_tells replies slots n k = option_and_then (λ device. replies device k) (nth slots n)

-- whether slot n tells that the put at place k is a fault
abbrev pub slot_faults : {D : Type 0} → (D → ℕ → Option Bool) → List (Option D) → ℕ → ℕ → Option Bool
slot_faults put_faults slots n k = option_and_then (λ device. put_faults device k) (nth slots n)

-- a device's reply as an answer
abbrev pub answer_of : DeviceReply → Answered
answer_of Faults = Failed
answer_of (Gives bytes) = GaveBytes bytes

-- the bytes that were taken
abbrev pub taken_by : Answered → List ℕ → List ℕ
taken_by (TookBytes n) bytes = take n bytes
taken_by other bytes = []

-- slot n was asked for so many bytes, once: its box used up the reply that it told first
pub record ReadsSlot {D : Type 0} (replies : D → ℕ → Option DeviceReply) (room : D → Option Room)
    (took : D → Option (List ℕ)) (put_faults : D → ℕ → Option Bool) (n len : ℕ) (answer : Answered) (old new : List (Option D)) : Type 0 where
  pub absent : (answer ≡ IsAbsent) ↔ IsNone (nth old n)
  pub reply : IfSome (slot_tells replies old n 0) (λ told. answer ≡ answer_of (cut_to len told))
  pub later : (k : ℕ) → slot_tells replies new n k ≡ slot_tells replies old n (k + 1)
  pub same_room : option_and_then room (nth new n) ≡ option_and_then room (nth old n)
  pub same_took : option_and_then took (nth new n) ≡ option_and_then took (nth old n)
  pub same_faults : (k : ℕ) → slot_faults put_faults new n k ≡ slot_faults put_faults old n k
  pub stays : is_some (nth new n) ≡ is_some (nth old n)
  pub others : (m : ℕ) → m ≢ n → slice_get new m ≡ slice_get old m
  pub same_len : length new ≡ length old

-- slot n was handed bytes, once: its box took as many as it told that it takes
pub record WritesSlot {D : Type 0} (replies : D → ℕ → Option DeviceReply) (room : D → Option Room)
    (took : D → Option (List ℕ)) (put_faults : D → ℕ → Option Bool) (n : ℕ) (bytes : List ℕ) (answer : Answered) (old new : List (Option D)) : Type 0 where
  pub absent : (answer ≡ IsAbsent) ↔ IsNone (nth old n)
  pub count : IfSome (option_and_then room (nth old n)) (λ room. length (taken_by answer bytes) ≡ takes room (length bytes))
  pub less_room : option_and_then room (nth new n) ≡
      option_map (λ room. left_after room (length (taken_by answer bytes))) (option_and_then room (nth old n))
  pub more_took : option_and_then took (nth new n) ≡ option_map (λ had. had ++ taken_by answer bytes) (option_and_then took (nth old n))
  pub fault : IfSome (slot_faults put_faults old n 0) (λ told. IsTrue told ↔ (answer ≡ Failed))
  pub later : (k : ℕ) → slot_faults put_faults new n k ≡ slot_faults put_faults old n (k + 1)
  pub same_replies : (k : ℕ) → slot_tells replies new n k ≡ slot_tells replies old n k
  pub stays : is_some (nth new n) ≡ is_some (nth old n)
  pub others : (m : ℕ) → m ≢ n → slice_get new m ≡ slice_get old m
  pub same_len : length new ≡ length old

-- what slots answer, and what that makes of them
abbrev pub SlotAnswers : {D : Type 0} → (D → ℕ → Option DeviceReply) → (D → Option Room) → (D → Option (List ℕ)) → (D → ℕ → Option Bool) → Asked → Answered → List (Option D) → List (Option D) → Type 0
SlotAnswers replies room took put_faults (Here n) answer old new = (answer ≡ here_answer (is_some (nth old n))) × (new ≡ old)
SlotAnswers replies room took put_faults (Reads n len) answer old new = ReadsSlot replies room took put_faults n len answer old new
SlotAnswers replies room took put_faults (Writes n bytes) answer old new = WritesSlot replies room took put_faults n bytes answer old new

-- the box in slot n is gone, and no other
pub record UnplugsSlot {D : Type 0} (n : ℕ) (old new : List (Option D)) : Type 0 where
  pub gone : IsNone (nth new n)
  pub others : (m : ℕ) → m ≢ n → slice_get new m ≡ slice_get old m
  pub same_len : length new ≡ length old
