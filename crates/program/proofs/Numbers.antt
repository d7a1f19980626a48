-- Lists of bytes by their first places, and the number that two bytes spell.
use Rattle.std.proofs.Common.{◌≡◌, ℕ, zero, suc, ◌+◌, ◌*◌, ◌/◌, ◌%◌, ◌<◌, ◌≤◌, List, [], ◌∷◌, ◌++◌, length, get_or, drop, sym, ap, ◌∙◌, subst, add-zero, arith, drop-cons}
use Rattle.std.proofs.lemmas.List.{get_or-drop}
use Rattle.program.specs.Format.{two}

-- each place holds a byte
abbrev pub Bytes : List ℕ → Type 0
Bytes bs = (i : ℕ) → get_or bs i 0 < 256

-- what stands at n places from place i on
abbrev pub places : (n i : ℕ) → List ℕ → List ℕ
places zero i bs = []
places (suc n) i bs = get_or bs i 0 ∷ places n (suc i) bs

from_place : (n i : ℕ) (bs : List ℕ) → i + n ≤ length bs → drop i bs ≡ places n i bs ++ drop (i + n) bs
from_place zero i bs h = ap (λ (k : ℕ). drop k bs) (sym (add-zero i))
from_place (suc n) i bs h =
    let here : i < length bs = omega arith in
    let on : suc i + n ≡ i + suc n = omega arith in
    drop-cons bs i 0 here ∙ ap (λ (l : List ℕ). get_or bs i 0 ∷ l) (from_place n (suc i) bs (omega arith) ∙ ap (λ (k : ℕ). places n (suc i) bs ++ drop k bs) on)

-- a list is its first n places and the rest
pub begins : (n : ℕ) (bs : List ℕ) → n ≤ length bs → bs ≡ places n 0 bs ++ drop n bs
begins n bs h = from_place n 0 bs (omega arith) ∙ ap (λ (k : ℕ). places n 0 bs ++ drop k bs) (omega arith)

-- part of a list of bytes is one too
pub places_bytes : (n i : ℕ) (bs : List ℕ) → Bytes bs → Bytes (places n i bs)
places_bytes zero i bs byte j = omega arith
places_bytes (suc n) i bs byte zero = byte i
places_bytes (suc n) i bs byte (suc j) = places_bytes n (suc i) bs byte j

pub bytes_after : (n : ℕ) (bs : List ℕ) → Bytes bs → Bytes (drop n bs)
bytes_after n bs byte i = subst (λ (b : ℕ). b < 256) (sym (get_or-drop n bs i 0)) (byte (n + i))

-- the two bytes of the number that two bytes spell are those two
pub two_spelled : (a b : ℕ) → a < 256 → b < 256 → two (a + b * 256) ≡ a ∷ b ∷ []
two_spelled a b p q =
    let first : (a + b * 256) % 256 ≡ a = omega arith in
    let second : (a + b * 256) / 256 % 256 ≡ b = omega arith in
    λ i. first i ∷ second i ∷ []
