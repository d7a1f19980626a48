-- Coefficients: a meaning, or absent.
use Rattle.std.specs.Prelude.{◌≡◌, Bool, true, false, Some, None, Option}
use Rattle.algebra.specs.Model.{Model}

-- None is absent
abbrev pub Coef : Model → Type 0
Coef m = Option m.Carrier

-- the join of two coefficients: absent joined with anything is that thing
abbrev pub join : (m : Model) → Coef m → Coef m → Coef m
join m None b = b
join m (Some x) None = Some x
join m (Some x) (Some y) = Some (m.join x y)

-- the sum of two coefficients: absent added to anything is absent
abbrev pub add : (m : Model) → Coef m → Coef m → Coef m
add m None b = None
add m (Some x) None = None
add m (Some x) (Some y) = Some (m.add x y)

-- a mark is the unit where it is set, else absent
abbrev pub mark : (m : Model) → Bool → Coef m
mark m true = Some m.unit
mark m false = None

-- the laws of coefficients, for every algebra that keeps its own
pub record CoefLaws (m : Model) : Type 0 where
  pub join_assoc : (a b c : Coef m) → join m (join m a b) c ≡ join m a (join m b c)
  pub join_comm : (a b : Coef m) → join m a b ≡ join m b a
  pub join_self : (a : Coef m) → join m a a ≡ a
  pub join_absent : (a : Coef m) → join m a None ≡ a
  pub add_assoc : (a b c : Coef m) → add m (add m a b) c ≡ add m a (add m b c)
  pub add_comm : (a b : Coef m) → add m a b ≡ add m b a
  pub add_unit : (a : Coef m) → add m a (Some m.unit) ≡ a
  pub add_absent : (a : Coef m) → add m a None ≡ None
  pub add_join : (a b c : Coef m) → add m a (join m b c) ≡ join m (add m a b) (add m a c)
