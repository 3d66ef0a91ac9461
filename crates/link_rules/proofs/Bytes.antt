-- What holds of each of eight bytes, and of masks of one byte.
use Rattle.std.proofs.Common.{◌≡◌, ℕ, zero, suc, ◌+◌, ◌-◌, ◌/◌, ◌^◌, ◌<◌, min, Bool, false, [], ◌∷◌, refl, arith}
use Rattle.rv64_isa.specs.declared.instruction.RegOp.TheVariants.{Add, Addw, Xor}
use Rattle.rv64_model.specs.Carries.{Left, Right, Loaded, op_takes}
use Rattle.link_rules.specs.declared.masks.Operands.{Operands}
use Rattle.link_rules.specs.Listed.{address_bytes, listed}

pub each_byte : (P : ℕ → Type 0) → P 0 → P 1 → P 2 → P 3 → P 4 → P 5 → P 6 → P 7 → (i : ℕ) → i < 8 → P i
each_byte P p0 p1 p2 p3 p4 p5 p6 p7 zero h = p0
each_byte P p0 p1 p2 p3 p4 p5 p6 p7 (suc zero) h = p1
each_byte P p0 p1 p2 p3 p4 p5 p6 p7 (suc (suc zero)) h = p2
each_byte P p0 p1 p2 p3 p4 p5 p6 p7 (suc (suc (suc zero))) h = p3
each_byte P p0 p1 p2 p3 p4 p5 p6 p7 (suc (suc (suc (suc zero)))) h = p4
each_byte P p0 p1 p2 p3 p4 p5 p6 p7 (suc (suc (suc (suc (suc zero))))) h = p5
each_byte P p0 p1 p2 p3 p4 p5 p6 p7 (suc (suc (suc (suc (suc (suc zero)))))) h = p6
each_byte P p0 p1 p2 p3 p4 p5 p6 p7 (suc (suc (suc (suc (suc (suc (suc zero))))))) h = p7
each_byte P p0 p1 p2 p3 p4 p5 p6 p7 (suc (suc (suc (suc (suc (suc (suc (suc i)))))))) h = absurd (omega arith)

-- the byte and those below it
pub up_to-mask : (i : ℕ) → i < 8 → 255 / 2 ^ (7 - i) ≡ 2 ^ (i + 1) - 1
up_to-mask = each_byte (λ i. 255 / 2 ^ (7 - i) ≡ 2 ^ (i + 1) - 1) refl refl refl refl refl refl refl refl

-- masks of one byte
abbrev pub one_left : ℕ → Operands
one_left mask = record { first = mask; second = 0; loaded = 0; address = false }

abbrev pub one_right : ℕ → Bool → Operands
one_right mask address = record { first = 0; second = mask; loaded = 0; address = address }

abbrev pub one_loaded : ℕ → Bool → Operands
one_loaded mask address = record { first = 0; second = 0; loaded = mask; address = address }

pub listed-one_left : (i : ℕ) → i < 8 → listed (one_left (2 ^ i)) ≡ Left i ∷ []
listed-one_left = each_byte (λ i. listed (one_left (2 ^ i)) ≡ Left i ∷ []) refl refl refl refl refl refl refl refl

pub listed-one_right : (i : ℕ) → i < 8 → (a : Bool) → listed (one_right (2 ^ i) a) ≡ Right i ∷ address_bytes a
listed-one_right =
    each_byte (λ i. (a : Bool) → listed (one_right (2 ^ i) a) ≡ Right i ∷ address_bytes a)
    (λ a. refl) (λ a. refl) (λ a. refl) (λ a. refl) (λ a. refl) (λ a. refl) (λ a. refl) (λ a. refl)

pub listed-one_loaded : (i : ℕ) → i < 8 → (a : Bool) → listed (one_loaded (2 ^ i) a) ≡ Loaded i ∷ address_bytes a
listed-one_loaded =
    each_byte (λ i. (a : Bool) → listed (one_loaded (2 ^ i) a) ≡ Loaded i ∷ address_bytes a)
    (λ a. refl) (λ a. refl) (λ a. refl) (λ a. refl) (λ a. refl) (λ a. refl) (λ a. refl) (λ a. refl)

-- the same bytes of both registers
abbrev pub both_of : ℕ → Operands
both_of mask = record { first = mask; second = mask; loaded = 0; address = false }

pub listed-upward : (i : ℕ) → i < 8 → listed (both_of (2 ^ (i + 1) - 1)) ≡ op_takes Add i
listed-upward = each_byte (λ i. listed (both_of (2 ^ (i + 1) - 1)) ≡ op_takes Add i) refl refl refl refl refl refl refl refl

pub listed-word_upward : (i : ℕ) → i < 8 → listed (both_of (2 ^ (min i 3 + 1) - 1)) ≡ op_takes Addw i
listed-word_upward = each_byte (λ i. listed (both_of (2 ^ (min i 3 + 1) - 1)) ≡ op_takes Addw i) refl refl refl refl refl refl refl refl

pub listed-bytewise : (i : ℕ) → i < 8 → listed (both_of (2 ^ i)) ≡ op_takes Xor i
listed-bytewise = each_byte (λ i. listed (both_of (2 ^ i)) ≡ op_takes Xor i) refl refl refl refl refl refl refl refl
