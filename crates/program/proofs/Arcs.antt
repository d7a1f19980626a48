-- The bytes of a list of arcs: ten to each.
use Rattle.std.proofs.Common.{◌≡◌, ℕ, zero, suc, ◌+◌, ◌*◌, ◌/◌, ◌^◌, ◌<◌, ◌≤◌, List, [], ◌∷◌, ◌++◌, length, map, get_or, take, drop, refl, sym, ap, ◌∙◌, arith, length-append, length-drop, w32}
use Rattle.std.specs.Int.{from_le_bytes}
use Rattle.std.specs.List.{flat_map}
use Rattle.std.proofs.lemmas.List.Folds.{flat_map-map}
use Rattle.std.specs.Prelude.{All}
use Rattle.std.specs.Simd.{first_chunks}
use Rattle.std.proofs.lemmas.List.{nil_from_length, take-append-drop}
use Rattle.std.proofs.lemmas.List.Elements.{All-nil, All-cons}
use Rattle.std.proofs.lemmas.Nat.{le_bytes_4}
use Rattle.algebra.specs.declared.arc.Arc.{Arc}
use Rattle.program.specs.Entries.{table}
use Rattle.program.specs.Format.{two, four, arc_bytes, body, FitsArc}
use Rattle.program.proofs.Numbers.{Bytes, begins, places_bytes, bytes_after, two_spelled}

pub length_arcs : (arcs : List Arc) → length (flat_map arc_bytes arcs) ≡ 10 * length arcs
length_arcs [] = refl
length_arcs (a ∷ arcs) = omega (arith, length-append (arc_bytes a) (flat_map arc_bytes arcs), length_arcs arcs)

abbrev joined : List (List ℕ) → List ℕ
joined chunks = flat_map (λ c. c) chunks

joined_chunks : (n : ℕ) (bs : List ℕ) → length bs ≡ 10 * n → joined (first_chunks 10 n bs) ≡ bs
joined_chunks zero bs long = sym (nil_from_length bs (omega arith))
joined_chunks (suc n) bs long =
    ap (λ (l : List ℕ). take 10 bs ++ l) (joined_chunks n (drop 10 bs) (omega (arith, length-drop 10 bs)))
    ∙ take-append-drop 10 bs

-- n arcs whose bytes are those of n tens of bytes, each ten an arc
pub whole : (n : ℕ) (bs : List ℕ) (arcs : List Arc) → length bs ≡ 10 * n → map arc_bytes arcs ≡ first_chunks 10 (length bs / 10) bs → (length arcs ≡ n) × (bs ≡ flat_map arc_bytes arcs)
whole n bs arcs long is =
    let spelled = sym (joined_chunks (length bs / 10) bs (omega (arith, long))) ∙ ap joined (sym is) ∙ flat_map-map (λ c. c) arc_bytes arcs in
    (omega (arith, long, ap length spelled, length_arcs arcs), spelled)

-- four bytes are those of a number
some_four : (a b c d : ℕ) → Bytes (a ∷ b ∷ c ∷ d ∷ []) → (n : ℕ) × (n < 2 ^ 32) × (four n ≡ a ∷ b ∷ c ∷ d ∷ [])
some_four a b c d byte =
    (from_le_bytes w32 (a ∷ b ∷ c ∷ d ∷ []), omega (arith, byte 0, byte 1, byte 2, byte 3), le_bytes_4 (a ∷ b ∷ c ∷ d ∷ []) _ refl byte refl)

-- tens of bytes are those of as many arcs
pub some_arcs : (n : ℕ) (bs : List ℕ) → Bytes bs → length bs ≡ 10 * n → (arcs : List Arc) × (length arcs ≡ n) × All FitsArc arcs × (bs ≡ flat_map arc_bytes arcs)
some_arcs zero bs byte long = ([], refl, All-nil FitsArc, nil_from_length bs (omega arith))
some_arcs (suc n) bs byte long =
    let (cycles, c, c_is) = some_four _ _ _ _ (places_bytes 4 2 bs byte) in
    let (ports, p, p_is) = some_four _ _ _ _ (places_bytes 4 6 bs byte) in
    let (arcs, count, fit, is) = some_arcs n (drop 10 bs) (bytes_after 10 bs byte) (omega (arith, length-drop 10 bs)) in
    let first : Arc = record { from = get_or bs 0 0; to = get_or bs 1 0; label = record { cycles = cycles; ports = ports } } in
    let fits : FitsArc first = (byte 0, byte 1, (c, p)) in
    (first ∷ arcs, ap suc count, All-cons FitsArc first arcs fits fit, begins 10 bs (omega arith) ∙ (λ i. get_or bs 0 0 ∷ get_or bs 1 0 ∷ ((sym c_is i ++ sym p_is i) ++ is i)))

-- the body of a table: a shelf, the count of its arcs, and the arcs
pub table_body : (bs : List ℕ) → Bytes bs → 3 ≤ length bs → (arcs : List Arc) → length arcs ≡ get_or bs 1 0 + get_or bs 2 0 * 256 → drop 3 bs ≡ flat_map arc_bytes arcs → bs ≡ body (table (get_or bs 0 0) arcs)
table_body bs byte room arcs count is =
    let counted = ap two count ∙ two_spelled _ _ (byte 1) (byte 2) in
    begins 3 bs room ∙ (λ i. get_or bs 0 0 ∷ (sym counted i ++ is i))
