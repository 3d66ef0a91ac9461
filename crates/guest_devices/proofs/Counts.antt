-- A reply counts as what is answered by it.
use Rattle.std.proofs.Common.{◌≡◌, ℕ, zero, suc, [], ◌∷◌, ◌<◌, ◌^◌, List, length, take, Option, None, Some, refl, ap, ◌∙◌, arith}
use Rattle.arn_base.specs.Device.{countable}
use Rattle.parts_model.specs.Replies.{Answered, GaveBytes, TookBytes, Failed, IsAbsent, IsHere, Reads, Takes, to_read, to_write}
use Rattle.guest_devices.specs.Told.{CountsHere, CountsReads, CountsWrites, as_read, as_written}

pub counts_here : CountsHere
counts_here None n = refl
counts_here (Some (GaveBytes bytes)) n = refl
counts_here (Some (TookBytes k)) n = refl
counts_here (Some Failed) n = refl
counts_here (Some IsAbsent) n = refl
counts_here (Some IsHere) n = refl

all_counted : (len : ℕ) → len < 2 ^ 32 → countable len ≡ len
all_counted len few = omega arith

take-take : (len : ℕ) (bytes : List ℕ) → take len (take len bytes) ≡ take len bytes
take-take zero bytes = refl
take-take (suc len) [] = refl
take-take (suc len) (b ∷ bytes) = ap (λ (l : List ℕ). b ∷ l) (take-take len bytes)

read_again : (len : ℕ) (reply : Option Answered) → to_read len (Some (as_read (to_read len reply))) ≡ to_read len reply
read_again len None = refl
read_again len (Some (GaveBytes bytes)) = ap (λ (l : List ℕ). Reads l) (take-take len bytes)
read_again len (Some (TookBytes k)) = refl
read_again len (Some Failed) = refl
read_again len (Some IsAbsent) = refl
read_again len (Some IsHere) = refl

pub counts_reads : CountsReads
counts_reads reply n len few =
    ap (λ (most : ℕ). to_read len (Some (as_read (to_read most reply)))) (all_counted len few) ∙ read_again len reply

write_again : (len : ℕ) (reply : Option Answered) → to_write len (Some (as_written (to_write len reply))) ≡ to_write len reply
write_again len None = refl
write_again len (Some (GaveBytes bytes)) = refl
write_again len (Some (TookBytes k)) = ap (λ (n : ℕ). Takes n) (omega arith)
write_again len (Some Failed) = refl
write_again len (Some IsAbsent) = refl
write_again len (Some IsHere) = refl

pub counts_writes : CountsWrites
counts_writes reply n bytes few =
    ap (λ (most : ℕ). to_write (length bytes) (Some (as_written (to_write most reply)))) (all_counted (length bytes) few) ∙ write_again (length bytes) reply
