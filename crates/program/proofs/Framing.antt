-- A record's bytes from its length, its kind and its body.
use Rattle.std.proofs.Common.{◌≡◌, ◌≢◌, ℕ, ◌+◌, ◌*◌, ◌<◌, ◌≤◌, List, ◌++◌, length, get_or, drop, sym, refl, ap, ◌∙◌, subst, arith, length-append, length-drop}
use Rattle.std.proofs.lemmas.List.{get_or-drop, get_or_append_left}
use Rattle.program.specs.declared.fault.Fault.{Fault}
use Rattle.program.specs.declared.fault.Fault.TheVariants.{Refused, Memory}
use Rattle.program.specs.declared.kind.Kind.{Kind}
use Rattle.program.specs.declared.kind.Kind.TheVariants.{Node, Pause, Table, Choice, Sequence, Loop, Fork, Abort, Clear}
use Rattle.program.specs.declared.refusal.Refusal.{Refusal}
use Rattle.program.specs.Kinds.{number, due}
use Rattle.program.specs.Bodies.{Misfits}
use Rattle.program.specs.Entries.{Entry, node, pause, table, choice, sequence, repeat, fork, abort, clear}
use Rattle.program.specs.Format.{two, kind, long, body, FitsBody, Spells, Refuses, Stops, length_in, kind_in, count_in}
use Rattle.program.proofs.Arcs.{length_arcs}
use Rattle.program.proofs.Numbers.{Bytes, begins, two_spelled}

-- a record is four bytes longer than its body
pub length_body : (e : Entry) → 4 + length (body e) ≡ long e
length_body (node s l) = refl
length_body (pause s l) = refl
length_body (table s arcs) = omega (arith, length_arcs arcs)
length_body (choice a b) = refl
length_body (sequence a b) = refl
length_body (repeat s) = refl
length_body (fork a b) = refl
length_body (abort a b) = refl
length_body (clear s) = refl

-- four bytes of all, then bs and the rest; and the length is that of bs with the four
pub record Parted (all bs rest : List ℕ) : Type 0 where
  pub room : 4 ≤ length all
  pub split : drop 4 all ≡ bs ++ rest
  pub long_is : length_in all ≡ 4 + length bs

module _ {all bs rest : List ℕ} (parts : Parted all bs rest) where
  pub spelled : Bytes all → (e : Entry) (k : Kind) → kind_in all ≡ number k → kind e ≡ k → FitsBody e → bs ≡ body e → Spells all e rest
  spelled byte e k known same fits is =
      let due_is : length_in all ≡ long e = parts.long_is ∙ ap (λ (l : List ℕ). 4 + length l) is ∙ length_body e in
      let first = ap two (sym due_is) ∙ two_spelled _ _ (byte 0) (byte 1) in
      let second = ap two (ap number same ∙ sym known) ∙ two_spelled _ _ (byte 2) (byte 3) in
      let tail = parts.split ∙ ap (λ (l : List ℕ). l ++ rest) is in
      ((omega (arith, due_is, byte 0, byte 1), fits), begins 4 all parts.room ∙ sym (λ i. first i ++ (second i ++ sym tail i)))

  -- the count is past a body that is too short to hold it, and that is too short for a table
  count_is : (i : ℕ) → i < length bs → get_or all (4 + i) 0 ≡ get_or bs i 0
  count_is i h = sym (get_or-drop 4 all i 0) ∙ ap (λ (l : List ℕ). get_or l i 0) parts.split ∙ get_or_append_left bs rest 0 i h

  misfits : (k : Kind) → 4 + length bs ≢ due k (get_or bs 1 0 + get_or bs 2 0 * 256) → length_in all ≢ due k (count_in all)
  misfits Node off e = off (sym parts.long_is ∙ e)
  misfits Pause off e = off (sym parts.long_is ∙ e)
  misfits Table off e =
      let held : 3 ≤ length bs = omega (arith, e, parts.long_is) in
      off (omega (arith, e, parts.long_is, count_is 1 (omega arith), count_is 2 (omega arith)))
  misfits Choice off e = off (sym parts.long_is ∙ e)
  misfits Sequence off e = off (sym parts.long_is ∙ e)
  misfits Loop off e = off (sym parts.long_is ∙ e)
  misfits Fork off e = off (sym parts.long_is ∙ e)
  misfits Abort off e = off (sym parts.long_is ∙ e)
  misfits Clear off e = off (sym parts.long_is ∙ e)

  -- what stops the reader of the body stops the reader of the record
  pub stops : Bytes all → (k : Kind) → kind_in all ≡ number k → (f : Fault) → Misfits f k bs → Stops f all
  stops byte k known (Refused why) (misfit, off) =
      let within : length_in all ≤ length all = omega (arith, parts.room, parts.long_is, ap length parts.split, length-append bs rest, length-drop 4 all) in
      subst (λ (w : Refusal). Refuses w all) (sym misfit) ((parts.room, omega (arith, parts.long_is), within), (k, known, misfits k off))
  stops byte k known Memory (same, (shelf, arcs, fits, is)) = (shelf, arcs, rest, spelled byte (table shelf arcs) k known (sym same) fits is)
