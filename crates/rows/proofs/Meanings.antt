-- What is told of coefficients by their meanings.
use Rattle.std.proofs.Common.{◌≡◌, Bool, ◌&&◌, is_some, Some, None, Decides, Option, refl, ap}
use Rattle.std.proofs.lemmas.Bool.Decides.{Decides-like, Decides-and}
use Rattle.std.specs.Option.{option_map}

-- a coefficient is present where its meaning is
pub present_means : {V C : Type 0} (f : V → C) (x : Option V) → is_some (option_map f x) ≡ is_some x
present_means f None = refl
present_means f (Some x) = refl

-- two tests of the halves decide whether two pairs are one
pub decides_pair : {X Y : Type 0} {a b : X} {x y : Y} (s t : Bool) → Decides s (a ≡ b) → Decides t (x ≡ y) → Decides (s && t) (◌≡◌ {A = X × Y} (a, x) (b, y))
decides_pair s t p q =
    Decides-like (s && t) (λ e. λ i. (e.0 i, e.1 i)) (λ e. (ap (λ z. z.0) e, ap (λ z. z.1) e)) (Decides-and s t p q)
