-- The laws of coefficients, from the laws of their algebra.
use Rattle.std.proofs.Common.{◌≡◌, Some, None, refl, ap}
use Rattle.algebra.specs.Model.{Model, Laws}
use Rattle.algebra.specs.Coefficients.{Coef, CoefLaws, join, add}

module _ (m : Model) (laws : Laws m) where
  join_assoc : (a b c : Coef m) → join m (join m a b) c ≡ join m a (join m b c)
  join_assoc None b c = refl
  join_assoc (Some x) None c = refl
  join_assoc (Some x) (Some y) None = refl
  join_assoc (Some x) (Some y) (Some z) = ap Some (laws.join_assoc x y z)

  join_comm : (a b : Coef m) → join m a b ≡ join m b a
  join_comm None None = refl
  join_comm None (Some y) = refl
  join_comm (Some x) None = refl
  join_comm (Some x) (Some y) = ap Some (laws.join_comm x y)

  join_self : (a : Coef m) → join m a a ≡ a
  join_self None = refl
  join_self (Some x) = ap Some (laws.join_self x)

  join_absent : (a : Coef m) → join m a None ≡ a
  join_absent None = refl
  join_absent (Some x) = refl

  add_assoc : (a b c : Coef m) → add m (add m a b) c ≡ add m a (add m b c)
  add_assoc None b c = refl
  add_assoc (Some x) None c = refl
  add_assoc (Some x) (Some y) None = refl
  add_assoc (Some x) (Some y) (Some z) = ap Some (laws.add_assoc x y z)

  add_comm : (a b : Coef m) → add m a b ≡ add m b a
  add_comm None None = refl
  add_comm None (Some y) = refl
  add_comm (Some x) None = refl
  add_comm (Some x) (Some y) = ap Some (laws.add_comm x y)

  add_unit : (a : Coef m) → add m a (Some m.unit) ≡ a
  add_unit None = refl
  add_unit (Some x) = ap Some (laws.add_unit x)

  add_absent : (a : Coef m) → add m a None ≡ None
  add_absent None = refl
  add_absent (Some x) = refl

  add_join : (a b c : Coef m) → add m a (join m b c) ≡ join m (add m a b) (add m a c)
  add_join None b c = refl
  add_join (Some x) None c = refl
  add_join (Some x) (Some y) None = refl
  add_join (Some x) (Some y) (Some z) = ap Some (laws.add_join x y z)

  pub coef_laws : CoefLaws m
  coef_laws = record {
    join_assoc = join_assoc;
    join_comm = join_comm;
    join_self = join_self;
    join_absent = join_absent;
    add_assoc = add_assoc;
    add_comm = add_comm;
    add_unit = add_unit;
    add_absent = add_absent;
    add_join = add_join;
  }
