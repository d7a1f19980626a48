-- What the values of an algebra mean.
use Rattle.std.specs.Prelude.{◌≡◌, Bool, true, ◌⊎◌}
use Rattle.algebra.specs.declared.label.Label.{Label}

-- a carrier of meanings, with the unit, the weight of a label, the join and the sum of two meanings,
-- and whether the algebra says that it chooses
pub record Model : Type 1 where
  pub Carrier : Type 0
  pub unit : Carrier
  pub weigh : Label → Carrier
  pub join : Carrier → Carrier → Carrier
  pub add : Carrier → Carrier → Carrier
  pub chooses : Bool

-- the laws that every algebra keeps
pub record Laws (m : Model) : Type 0 where
  pub join_assoc : (a b c : m.Carrier) → m.join (m.join a b) c ≡ m.join a (m.join b c)
  pub join_comm : (a b : m.Carrier) → m.join a b ≡ m.join b a
  pub join_self : (a : m.Carrier) → m.join a a ≡ a
  pub add_assoc : (a b c : m.Carrier) → m.add (m.add a b) c ≡ m.add a (m.add b c)
  pub add_comm : (a b : m.Carrier) → m.add a b ≡ m.add b a
  pub add_unit : (a : m.Carrier) → m.add a m.unit ≡ a
  pub add_join : (a b c : m.Carrier) → m.add a (m.join b c) ≡ m.join (m.add a b) (m.add a c)

-- the law of a choosing algebra: the join of two meanings is one of them
abbrev pub Chosen : (m : Model) → Type 0
Chosen m = m.chooses ≡ true → (a b : m.Carrier) → (m.join a b ≡ a) ⊎ (m.join a b ≡ b)
