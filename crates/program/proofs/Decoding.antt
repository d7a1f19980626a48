-- The entry and the rest are functions of the bytes that spell them.
use Rattle.std.proofs.Common.{◌≡◌, ℕ, zero, suc, ◌+◌, ◌-◌, ◌*◌, ◌/◌, ◌%◌, ◌^◌, ◌<◌, List, [], ◌∷◌, ◌++◌, length, get_or, drop, sym, refl, ap, ◌∙◌, mod-eq_of_lt, div-add-mod', arith}
use native.Mathlib.Nat.{div-div-eq-div-mul}
use Rattle.std.specs.Prelude.{All}
use Rattle.std.specs.List.{flat_map}
use Rattle.std.proofs.lemmas.List.{drop_at}
use Rattle.std.proofs.lemmas.List.Elements.{All-head, All-tail}
use Rattle.algebra.specs.declared.arc.Arc.{Arc}
use Rattle.algebra.specs.declared.label.Label.{Label}
use Rattle.program.specs.declared.kind.Kind.{Kind}
use Rattle.program.specs.declared.kind.Kind.TheVariants.{Node, Pause, Table, Choice, Sequence, Loop, Fork, Abort, Clear}
use Rattle.program.specs.Kinds.{number, due}
use Rattle.program.specs.Entries.{Entry, node, pause, table, choice, sequence, repeat, fork, abort, clear}
use Rattle.program.specs.Format.{label_bytes, arc_bytes, kind, long, body, bytes, FitsLabel, FitsArc, Fits, Spells, length_in, kind_in, count_in}
use Rattle.program.proofs.Framing.{length_body}

-- a number is what its bytes spell
pub two_back : (n : ℕ) → n < 65536 → n % 256 + n / 256 % 256 * 256 ≡ n
two_back n h = omega arith

-- the same with the quotients by 256 named
sum_back : (n h₁ h₂ h₃ : ℕ) → h₁ * 256 + n % 256 ≡ n → h₂ * 256 + h₁ % 256 ≡ h₁ → h₃ * 256 + h₂ % 256 ≡ h₂ → h₃ % 256 ≡ h₃ → n % 256 + h₁ % 256 * 256 + h₂ % 256 * 65536 + h₃ % 256 * 16777216 ≡ n
sum_back n h₁ h₂ h₃ p q r s = omega arith

four_back : (n : ℕ) → n < 2 ^ 32 → n % 256 + n / 256 % 256 * 256 + n / 65536 % 256 * 65536 + n / 16777216 % 256 * 16777216 ≡ n
four_back n h =
    let second : n / 256 / 256 ≡ n / 65536 = div-div-eq-div-mul n 256 256 in
    let third : n / 65536 / 256 ≡ n / 16777216 = div-div-eq-div-mul n 65536 256 in
    let top : n / 16777216 % 256 ≡ n / 16777216 = mod-eq_of_lt (omega arith) in
    sum_back n (n / 256) (n / 65536) (n / 16777216)
    (div-add-mod' n 256)
    (ap (λ (x : ℕ). x * 256 + n / 256 % 256) (sym second) ∙ div-add-mod' (n / 256) 256)
    (ap (λ (x : ℕ). x * 256 + n / 65536 % 256) (sym third) ∙ div-add-mod' (n / 65536) 256)
    top

-- the kinds in the order of their numbers
all : List Kind
all = Node ∷ Pause ∷ Table ∷ Choice ∷ Sequence ∷ Loop ∷ Fork ∷ Abort ∷ Clear ∷ []

kind_at : ℕ → Kind
kind_at n = get_or all (n - 1) Node

kind_back : (k : Kind) → kind_at (number k) ≡ k
unfolding all kind_at
kind_back Node = refl
kind_back Pause = refl
kind_back Table = refl
kind_back Choice = refl
kind_back Sequence = refl
kind_back Loop = refl
kind_back Fork = refl
kind_back Abort = refl
kind_back Clear = refl

pub one_kind : (j k : Kind) → number j ≡ number k → j ≡ k
one_kind j k e = sym (kind_back j) ∙ ap kind_at e ∙ kind_back k

-- what stands at place i and after, read back
label_at : ℕ → List ℕ → Label
label_at i bs = record {
  cycles = get_or bs i 0 + get_or bs (i + 1) 0 * 256 + get_or bs (i + 2) 0 * 65536 + get_or bs (i + 3) 0 * 16777216;
  ports = get_or bs (i + 4) 0 + get_or bs (i + 5) 0 * 256 + get_or bs (i + 6) 0 * 65536 + get_or bs (i + 7) 0 * 16777216;
}

arcs_at : ℕ → List ℕ → List Arc
arcs_at zero bs = []
arcs_at (suc n) bs = record { from = get_or bs 0 0; to = get_or bs 1 0; label = label_at 2 bs } ∷ arcs_at n (drop 10 bs)

entry_at : Kind → List ℕ → Entry
entry_at Node bs = node (get_or bs 0 0) (label_at 1 bs)
entry_at Pause bs = pause (get_or bs 0 0) (label_at 1 bs)
entry_at Table bs = table (get_or bs 0 0) (arcs_at (get_or bs 1 0 + get_or bs 2 0 * 256) (drop 3 bs))
entry_at Choice bs = choice (get_or bs 0 0) (get_or bs 1 0)
entry_at Sequence bs = sequence (get_or bs 0 0) (get_or bs 1 0)
entry_at Loop bs = repeat (get_or bs 0 0)
entry_at Fork bs = fork (get_or bs 0 0) (get_or bs 1 0)
entry_at Abort bs = abort (get_or bs 0 0) (get_or bs 1 0)
entry_at Clear bs = clear (get_or bs 0 0)

label_back : (l : Label) (rest : List ℕ) → FitsLabel l → label_at 0 (label_bytes l ++ rest) ≡ l
unfolding label_at
label_back l rest (c, p) = λ i. record { cycles = four_back l.cycles c i; ports = four_back l.ports p i }

arcs_back : (arcs : List Arc) (rest : List ℕ) → All FitsArc arcs → arcs_at (length arcs) (flat_map arc_bytes arcs ++ rest) ≡ arcs
unfolding arcs_at label_at
arcs_back [] rest fit = refl
arcs_back (a ∷ arcs) rest fit =
    let (f, t, l) = All-head FitsArc a arcs fit in
    λ i. record { from = a.from; to = a.to; label = label_back a.label (flat_map arc_bytes arcs ++ rest) l i } ∷ arcs_back arcs rest (All-tail FitsArc a arcs fit) i

entry_back : (e : Entry) (rest : List ℕ) → Fits e → entry_at (kind e) (body e ++ rest) ≡ e
unfolding entry_at label_at
entry_back (node s l) rest (h, (f, fit)) = ap (node s) (label_back l rest fit)
entry_back (pause s l) rest (h, (f, fit)) = ap (pause s) (label_back l rest fit)
entry_back (table s arcs) rest (h, (f, fit)) =
    ap (λ (n : ℕ). table s (arcs_at n (flat_map arc_bytes arcs ++ rest))) (two_back (length arcs) (omega arith))
    ∙ ap (table s) (arcs_back arcs rest fit)
entry_back (choice a b) rest fit = refl
entry_back (sequence a b) rest fit = refl
entry_back (repeat s) rest fit = refl
entry_back (fork a b) rest fit = refl
entry_back (abort a b) rest fit = refl
entry_back (clear s) rest fit = refl

number_small : (k : Kind) → number k < 65536
number_small Node = omega arith
number_small Pause = omega arith
number_small Table = omega arith
number_small Choice = omega arith
number_small Sequence = omega arith
number_small Loop = omega arith
number_small Fork = omega arith
number_small Abort = omega arith
number_small Clear = omega arith

-- the length, the kind and the count in the bytes of an entry are its own
module _ (e : Entry) (rest : List ℕ) (fits : Fits e) where
  pub length_back : length_in (bytes e ++ rest) ≡ long e
  length_back = two_back (long e) fits.0

  pub kind_in_back : kind_in (bytes e ++ rest) ≡ number (kind e)
  kind_in_back = two_back (number (kind e)) (number_small (kind e))

  -- the first entry and what comes after it
  first_entry : entry_at (kind_at (kind_in (bytes e ++ rest))) (drop 4 (bytes e ++ rest)) ≡ e
  first_entry = ap (λ (k : Kind). entry_at k (body e ++ rest)) (ap kind_at kind_in_back ∙ kind_back (kind e)) ∙ entry_back e rest fits

  after_entry : drop (length_in (bytes e ++ rest)) (bytes e ++ rest) ≡ rest
  after_entry = ap (λ (n : ℕ). drop n (bytes e ++ rest)) length_back ∙ drop_at (bytes e) rest (long e) (omega (arith, length_body e))

-- the count in the bytes of a table is that of its arcs
pub due_back : (e : Entry) (rest : List ℕ) → Fits e → due (kind e) (count_in (bytes e ++ rest)) ≡ long e
due_back (node s l) rest fit = refl
due_back (pause s l) rest fit = refl
due_back (table s arcs) rest (h, fit) = ap (λ (n : ℕ). 7 + 10 * n) (two_back (length arcs) (omega arith))
due_back (choice a b) rest fit = refl
due_back (sequence a b) rest fit = refl
due_back (repeat s) rest fit = refl
due_back (fork a b) rest fit = refl
due_back (abort a b) rest fit = refl
due_back (clear s) rest fit = refl

-- bytes spell one entry at most
pub one_entry : (bs : List ℕ) (e f : Entry) (rest left : List ℕ) → Spells bs e rest → Spells bs f left → (e ≡ f) × (rest ≡ left)
one_entry bs e f rest left (fits, is) (fits', is') = (
  sym (first_entry e rest fits) ∙ ap (λ (l : List ℕ). entry_at (kind_at (kind_in l)) (drop 4 l)) (sym is ∙ is') ∙ first_entry f left fits',
  sym (after_entry e rest fits) ∙ ap (λ (l : List ℕ). drop (length_in l) l) (sym is ∙ is') ∙ after_entry f left fits',
)
