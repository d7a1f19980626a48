-- What holds of every element of a list, of the elements before one, and of some element.
use Rattle.std.proofs.Common.{◌≡◌, ℕ, zero, suc, ◌+◌, ◌<◌, Bool, true, false, ◌⊎◌, List, [], ◌∷◌, ◌++◌, map, length, get_or, take, Decides, sym, refl, ◌∙◌, subst, inl, inr, ⊎_elim, le_of_suc-le-suc, not-suc-le-zero, arith}
use mathlib.Core.List.{Memᴰ as Among}
use Rattle.std.proofs.lemmas.List.{take_more}
use Rattle.std.proofs.lemmas.Bool.{false≢true}
use Rattle.std.proofs.lemmas.Bool.Decides.{Decides-like}
use Rattle.std.proofs.lemmas.List.FromFn.{length-range_with_len, get_or-range_with_len}
use Rattle.std.specs.Bool.{MatchBool}
use Rattle.std.specs.List.{AllByRecursion, AllWithin, Any, Contains, HoldsAt, range_with_len}

-- what holds passes
pub passes : {P : Type 0} → P → Decides true P
passes all = (λ e. all, λ all'. refl)

pub unmapped : {X Y : Type 0} (P : Y → Type 0) (f : X → Y) (xs : List X) → AllByRecursion P (map f xs) → AllByRecursion (λ x. P (f x)) xs
unmapped P f [] all = tt
unmapped P f (x ∷ xs) all = (all.0, unmapped P f xs all.1)

-- an element of the list
pub among_at : {X : Type 0} (xs : List X) (i : ℕ) (d : X) → i < length xs → Among (get_or xs i d) xs
among_at [] i d less = absurd (not-suc-le-zero less)
among_at (x ∷ xs) zero d less = Among.head refl
among_at (x ∷ xs) (suc i) d less = Among.tail (among_at xs i d (le_of_suc-le-suc less))

-- what holds of all holds of each
pub all_among : {X : Type 0} (P : X → Type 0) (xs : List X) (x : X) → AllByRecursion P xs → Among x xs → P x
all_among P [] x all m = elim m [ ]
all_among P (y ∷ xs) x all (Among.head e) = subst P (sym e) all.0
all_among P (y ∷ xs) x all (Among.tail m) = all_among P xs x all.1 m

-- an element of one more of the first ones is that one, or one of the first
pub among_more : {X : Type 0} (xs : List X) (i : ℕ) (d x : X) → i < length xs → Among x (take (i + 1) xs) → (x ≡ get_or xs i d) ⊎ Among x (take i xs)
among_more xs i d x less m = go (take i xs) (rw (take_more xs i d less) at m)
  where
    go : (ys : List _) → Among x (ys ++ get_or xs i d ∷ []) → (x ≡ get_or xs i d) ⊎ Among x ys
    go [] (Among.head e) = inl e
    go [] (Among.tail n) = elim n [ ]
    go (y ∷ ys) (Among.head e) = inr (Among.head e)
    go (y ∷ ys) (Among.tail n) = ⊎_elim (λ e. inl e) (λ k. inr (Among.tail k)) (go ys n)

-- and each one of the list stands at a place of it
pub place : {X : Type 0} (xs : List X) (x : X) → Among x xs → Contains xs x
place [] x m = elim m [ ]
place (y ∷ ys) x (Among.head e) = (0, omega arith, sym e)
place (y ∷ ys) x (Among.tail m) = let p = place ys x m in (suc p.0, omega (arith, p.1), p.2)

-- some element passes exactly where one among them does
pub among_any : {X : Type 0} (P : X → Type 0) (xs : List X) (r : Bool) → Decides r (Any P xs) → Decides r ((x : X) × Among x xs × P x)
among_any P xs r = Decides-like r
    (λ any. (any.1, subst (λ x. Among x xs) any.3 (among_at xs any.0 any.1 any.2), any.4))
    (λ some. let p = place xs some.0 some.1 in (p.0, some.0, p.1, p.2, some.2))

-- a test of each number below n decides whether all of them pass
pub below : (P : ℕ → Type 0) (n : ℕ) (r : Bool)
    → MatchBool r (AllWithin P (range_with_len 0 n) 0 (length (range_with_len 0 n))) ((k : ℕ) × (k < length (range_with_len 0 n)) × HoldsAt (λ q. P q → ⊥) (range_with_len 0 n) k)
    → Decides r ((q : ℕ) → q < n → P q)
below P n true all = passes (λ q less. subst P {y = q} (get_or-range_with_len 0 n q 0 less ∙ omega arith) (all q 0 (omega arith) (omega (arith, less, length-range_with_len 0 n))))
below P n false some = (
  λ e. absurd (false≢true e),
  λ all.
      let less : some.0 < n = omega (arith, some.1, length-range_with_len 0 n) in absurd (some.2 0 (subst P (sym (get_or-range_with_len 0 n some.0 0 less)) (all (0 + some.0) (omega (arith, less))))),
)
