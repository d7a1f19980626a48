-- The laws of the union of sets of bits that are on no shelf.
use Rattle.std.specs.Prelude.{◌≡◌, ℕ, ◌/◌, ◌%◌, max, bit_or, refl}
use Rattle.std.proofs.Common.{sym, ap, ◌∙◌, arith}
use Rattle.std.proofs.Math.Arith.{bin_ind}
use Rattle.std.proofs.lemmas.Nat.{or_comm, or_shr}
use Rattle.std.specs.Int.Bits.{or_self, or_step}
use Rattle.algebra.specs.Semilattice.{over_itself}

-- the bits above the lowest, and the lowest, of a union
high : (a b : ℕ) → bit_or a b / 2 ≡ bit_or (a / 2) (b / 2)
high a b = or_shr a b 1

low : (a b : ℕ) → bit_or a b % 2 ≡ max (a % 2) (b % 2)
low a b = omega (arith, or_step a b)

by_bits : {a b : ℕ} → a / 2 ≡ b / 2 → a % 2 ≡ b % 2 → a ≡ b
by_bits {a} {b} p q = omega arith

pub or_assoc : (a b c : ℕ) → bit_or (bit_or a b) c ≡ bit_or a (bit_or b c)
or_assoc =
    bin_ind (λ (n : ℕ). (b c : ℕ) → bit_or (bit_or n b) c ≡ bit_or n (bit_or b c)) (λ b c. refl)
    (λ n ih b c. by_bits
    (high (bit_or n b) c ∙ ap (λ (x : ℕ). bit_or x (c / 2)) (high n b) ∙ ih (b / 2) (c / 2)
    ∙ sym (high n (bit_or b c) ∙ ap (bit_or (n / 2)) (high b c)))
    (omega (arith, low (bit_or n b) c, low n b, low n (bit_or b c), low b c)))

-- a union joins a union as it joins each of the two
pub or_or : (a b c : ℕ) → bit_or a (bit_or b c) ≡ bit_or (bit_or a b) (bit_or a c)
or_or = over_itself bit_or or_assoc or_comm or_self
