-- Bytes have one reading, and reading and writing undo each other.
use Rattle.std.proofs.Common.{◌≡◌, ℕ, List, [], ◌∷◌, ◌++◌, length, Some, None, Option, sym, refl, ap, ◌∙◌, subst, arith, length-append}
use Rattle.std.specs.Prelude.{All}
use Rattle.std.specs.List.{flat_map}
use Rattle.std.proofs.lemmas.List.Elements.{All-head, All-tail}
use Rattle.program.specs.declared.refusal.Refusal.{Refusal}
use Rattle.program.specs.declared.refusal.Refusal.TheVariants.{Large, Cut, Unknown, Misfit}
use Rattle.program.specs.Kinds.{due}
use Rattle.program.specs.Entries.{Entry}
use Rattle.program.specs.Files.{Listed, ended, stopped, next}
use Rattle.program.specs.Format.{kind, long, bytes, Fits, Spells, Refuses, count_in}
use Rattle.program.specs.Roundtrip.{OneReading, RoundTrip, FileRoundTrip}
use Rattle.program.proofs.Decoding.{length_back, kind_in_back, due_back, one_kind, one_entry}
use Rattle.program.proofs.Framing.{length_body}

pub size : (e : Entry) → length (bytes e) ≡ long e
size e = omega (arith, length_body e)

one_refusal : (bs : List ℕ) (why other : Refusal) → Refuses why bs → Refuses other bs → why ≡ other
one_refusal bs Large other r s = absurd r
one_refusal bs Cut Large r s = absurd s
one_refusal bs Cut Cut r s = refl
one_refusal bs Cut Unknown r s = absurd (r s.0)
one_refusal bs Cut Misfit r s = absurd (r s.0)
one_refusal bs Unknown Large r s = absurd s
one_refusal bs Unknown Cut r s = absurd (s r.0)
one_refusal bs Unknown Unknown r s = refl
one_refusal bs Unknown Misfit r s = absurd (r.1 s.1.0 s.1.1)
one_refusal bs Misfit Large r s = absurd s
one_refusal bs Misfit Cut r s = absurd (s r.0)
one_refusal bs Misfit Unknown r s = absurd (s.1 r.1.0 r.1.1)
one_refusal bs Misfit Misfit r s = refl

-- the bytes of an entry answer each question of a record with yes
accepted : (e : Entry) (more : List ℕ) (why : Refusal) → Fits e → Refuses why (bytes e ++ more) → ⊥
accepted e more Large fits r = r
accepted e more Cut fits r =
    let all = length-append (bytes e) more in
    r (omega arith, omega (arith, length_back e more fits, size e), omega (arith, length_back e more fits, size e))
accepted e more Unknown fits r = r.1 (kind e) (kind_in_back e more fits)
accepted e more Misfit fits r =
    let same = one_kind (kind e) r.1.0 (sym (kind_in_back e more fits) ∙ r.1.1) in
    r.1.2 (length_back e more fits ∙ sym (due_back e more fits) ∙ ap (λ k. due k (count_in (bytes e ++ more))) same)

apart : (bs : List ℕ) (e : Entry) (rest : List ℕ) (why : Refusal) → Spells bs e rest → Refuses why bs → ⊥
apart bs e rest why (fits, is) r = accepted e rest why fits (subst (Refuses why) is r)

pub one_reading : OneReading
one_reading = record { entry = one_entry; refusal = one_refusal; apart = apart }

pub round_trip : RoundTrip
round_trip = record {
  size = size;
  back = λ e f more rest fits is. one_entry (bytes e ++ more) f e rest more is (fits, refl);
  accepted = accepted;
  again = λ bs rest e is. is.1;
}

-- an entry takes up bytes
some_bytes : (e : Entry) (rest : List ℕ) → Spells [] e rest → ⊥
some_bytes e rest (fits, is) = let none : 0 ≡ length (bytes e ++ rest) = ap length is in omega arith

one_listing : {bs : List ℕ} {es fs : List Entry} {why other : Option Refusal} → Listed bs es why → Listed bs fs other → (es ≡ fs) × (why ≡ other)
one_listing ended ended = (refl, refl)
one_listing ended (stopped some r) = absurd (omega arith)
one_listing ended (next {rest = rest} {e = e} is l) = absurd (some_bytes e rest is)
one_listing (stopped some r) ended = absurd (omega arith)
one_listing (stopped {bs = bs} {why = why} some r) (stopped {why = other} some' s) = (refl, ap Some (one_refusal bs why other r s))
one_listing (stopped {bs = bs} {why = why} some r) (next {rest = rest} {e = e} is l) = absurd (apart bs e rest why is r)
one_listing (next {rest = rest} {e = e} is l) ended = absurd (some_bytes e rest is)
one_listing (next {bs = bs} {rest = rest} {e = e} is l) (stopped {why = why} some r) = absurd (apart bs e rest why is r)
one_listing (next {bs = bs} {rest = rest} {e = e} is l) (next {rest = left} {e = f} {es = fs} {why = other} is' m) =
    let first = one_entry bs e f rest left is is' in
    let others = one_listing l (subst (λ (x : List ℕ). Listed x fs other) (sym first.1) m) in
    (λ i. first.0 i ∷ others.0 i, others.1)

written_back : (es : List Entry) → All Fits es → Listed (flat_map bytes es) es None
written_back [] fit = ended
written_back (e ∷ es) fit = next (All-head Fits e es fit, refl) (written_back es (All-tail Fits e es fit))

read_again : {bs : List ℕ} {es : List Entry} → Listed bs es None → bs ≡ flat_map bytes es
read_again ended = refl
read_again (next {e = e} is l) = is.1 ∙ ap (λ (x : List ℕ). bytes e ++ x) (read_again l)

pub file_round_trip : FileRoundTrip
file_round_trip = record {
  one = λ bs es fs why other. one_listing;
  back = written_back;
  again = λ bs es. read_again;
}
