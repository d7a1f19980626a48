-- What one turn of reading a file keeps.
use Rattle.std.proofs.Common.{◌≡◌, ℕ, ◌<◌, ◌≤◌, List, [], ◌∷◌, ◌++◌, map, length, Some, None, Option, sym, ap, ◌∙◌, subst, append_assoc, append-nil, arith}
use mathlib.Core.List.{map-append}
use Rattle.program.specs.declared.record.Record.{Record}
use Rattle.program.specs.declared.refusal.Refusal.{Refusal}
use Rattle.program.specs.Entries.{Entry, entry}
use Rattle.program.specs.Files.{Listed, ended, stopped, next, Holds, AsksMemory}
use Rattle.program.specs.Format.{Spells, Refuses}

-- whatever is read from the bytes left comes after what was read, and where they begin with a record, all do
pub record Sofar (all : List ℕ) (records : List Record) (left : List ℕ) : Type 0 where
  pub small : length all ≤ 32768
  pub before : (es : List Entry) (why : Option Refusal) → Listed left es why → Listed all (map entry records ++ es) why
  pub asks : (e : Entry) (rest : List ℕ) → Spells left e rest → AsksMemory all

pub start : (all : List ℕ) → length all ≤ 32768 → Sofar all [] all
start all small = record { small = small; before = λ es why l. l; asks = λ e rest is. record { within = small; begins = (e, rest, is) } }

pub one_more : {all left rest : List ℕ} (records : List Record) (r : Record) → Sofar all records left → Spells left (entry r) rest → Sofar all (records ++ r ∷ []) rest
one_more {all} {rest = rest} records r s is = record {
  small = s.small;
  before = λ es why l. subst (λ (x : List Entry). Listed all x why)
      (sym (ap (λ (x : List Entry). x ++ es) (map-append entry records (r ∷ [])) ∙ append_assoc (map entry records) (entry r ∷ []) es))
      (s.before (entry r ∷ es) why (next is l));
  asks = λ e more later. s.asks (entry r) rest is;
}

finish : {all left : List ℕ} (records : List Record) (why : Option Refusal) → Sofar all records left → Listed left [] why → Holds all (map entry records) why
finish {all} records why s l = record {
  within = λ h. subst (λ (x : List Entry). Listed all x why) (append-nil (map entry records)) (s.before [] why l);
  large = λ h. absurd (omega (arith, s.small));
}

pub done : {all left : List ℕ} (records : List Record) → Sofar all records left → left ≡ [] → Holds all (map entry records) None
done records s none = finish records None s (subst (λ (x : List ℕ). Listed x [] None) (sym none) ended)

pub refuse : {all left : List ℕ} (records : List Record) (why : Refusal) → Sofar all records left → 0 < length left → Refuses why left → Holds all (map entry records) (Some why)
refuse records why s some no_record = finish records (Some why) s (stopped some no_record)
