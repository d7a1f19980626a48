-- Joined weights are unique; the joined weights of small sets, of sums, and of unions.
use Rattle.std.proofs.Common.{◌≡◌, ℕ, zero, suc, ◌<◌, true, ◌⊎◌, List, [], ◌∷◌, ◌++◌, map, is_some, Some, None, sym, refl, ap, ◌∙◌, subst, inl, inr, arith}
use mathlib.Core.List.Memᴰ
use mathlib.Core.List.{Memᴰ as Among}
use native.Mathlib.Decide.{ℕ_discrete}
use Rattle.algebra.specs.Model.{Model, Laws}
use Rattle.algebra.specs.Coefficients.{Coef, join, add}
use Rattle.algebra.proofs.Coefficients.{coef_laws}
use Rattle.runs.specs.Joined.{joined, Joined, joins}

-- the join of f over a list
abbrev pub joins_over : (m : Model) {Y : Type 0} → (Y → Coef m) → List Y → Coef m
joins_over m f [] = None
joins_over m f (y ∷ ys) = join m (f y) (joins_over m f ys)

pub joins_same : (m : Model) (f g : ℕ → Coef m) (n : ℕ) → ((k : ℕ) → k < n → f k ≡ g k) → joins m f n ≡ joins m g n
joins_same m f g zero h = refl
joins_same m f g (suc n) h = ap (λ c. join m c (f n)) (joins_same m f g n (λ k l. h k (omega arith))) ∙ ap (join m (joins m g n)) (h n (omega arith))

-- b where a is present, else absent
abbrev pub gate : (m : Model) → Coef m → Coef m → Coef m
gate m None b = None
gate m (Some a) b = b

pub gate_present : (m : Model) (a b : Coef m) → is_some a ≡ true → gate m a b ≡ b
gate_present m None b h = let z : ◌≡◌ {A = ℕ} 0 1 = cc in absurd (omega arith)
gate_present m (Some x) b h = refl

pub gate_some : (m : Model) (a b : Coef m) (x : m.Carrier) → gate m a b ≡ Some x → (is_some a ≡ true) × (b ≡ Some x)
gate_some m None b x h = let z : ◌≡◌ {A = ℕ} 0 1 = cc in absurd (omega arith)
gate_some m (Some y) b x h = (refl, h)

-- a set of weights
abbrev pub Set : Model → Type 1
Set m = m.Carrier → Type 0

-- a weight of the one added to a weight of the other
abbrev pub Sum : (m : Model) → Set m → Set m → Set m
Sum m V W w = (v : m.Carrier) × (u : m.Carrier) × V v × W u × (w ≡ m.add v u)

-- the second where the first has a member
abbrev pub Gated : (m : Model) → Set m → Set m → Set m
Gated m V W w = ((v : m.Carrier) × V v) × W w

-- a is below b: joined with b it is b
abbrev pub Below : (m : Model) → Coef m → Coef m → Type 0
Below m a b = join m a b ≡ b

module _ (m : Model) (laws : Laws m) where
  abbrev Members : Set m → Type 0
  Members W = List ((w : m.Carrier) × W w)

  abbrev total : {W : Set m} → Members W → Coef m
  total ws = joined m (map (λ w. w.0) ws)

  pub below_both : (a b c : Coef m) → Below m a c → Below m b c → Below m (join m a b) c
  below_both a b c p q = (coef_laws m laws).join_assoc a b c ∙ ap (join m a) q ∙ p

  pub below_trans : (a b c : Coef m) → Below m a b → Below m b c → Below m a c
  below_trans a b c p q = ap (join m a) (sym q) ∙ sym ((coef_laws m laws).join_assoc a b c) ∙ ap (λ x. join m x c) p ∙ q

  pub below_first : (a b : Coef m) → Below m a (join m a b)
  below_first a b = sym ((coef_laws m laws).join_assoc a a b) ∙ ap (λ x. join m x b) ((coef_laws m laws).join_self a)

  pub below_second : (a b : Coef m) → Below m b (join m a b)
  below_second a b = ap (join m b) ((coef_laws m laws).join_comm a b) ∙ below_first b a ∙ (coef_laws m laws).join_comm b a

  pub below_antisym : (a b : Coef m) → Below m a b → Below m b a → a ≡ b
  below_antisym a b p q = sym q ∙ (coef_laws m laws).join_comm b a ∙ p

  total_below : {W : Set m} (ws : Members W) (c : Coef m) → ((w : m.Carrier) → W w → Below m (Some w) c) → Below m (total ws) c
  total_below [] c up = refl
  total_below (w ∷ ws) c up = below_both (Some w.0) (total ws) c (up w.0 w.1) (total_below ws c up)

  -- a bound of every member bounds the joined weight
  least : {W : Set m} {c : Coef m} → Joined m W c → (d : Coef m) → ((w : m.Carrier) → W w → Below m (Some w) d) → Below m c d
  least j d up = subst (λ x. Below m x d) (sym j.made) (total_below j.members d up)

  pub unique : {W : Set m} {c d : Coef m} → Joined m W c → Joined m W d → c ≡ d
  unique {W} {c} {d} j k = below_antisym c d (least j d k.upper) (least k c j.upper)

  pub empty : {W : Set m} → ((w : m.Carrier) → W w → ⊥) → Joined m W None
  empty no_member = record { upper = λ w h. absurd (no_member w h); members = []; made = refl }

  -- absent: no member
  pub none : {W : Set m} {w : m.Carrier} → Joined m W None → W w → ⊥
  none {W} {w} j h = let e : Below m (Some w) None = j.upper w h in let z : ◌≡◌ {A = ℕ} 0 1 = cc in omega arith

  -- present: a member
  pub some_member : {W : Set m} {x : m.Carrier} → Joined m W (Some x) → (w : m.Carrier) × W w
  some_member {W} {x} j = go j.members j.made
    where
      go : (ws : Members W) → Some x ≡ total ws → (w : m.Carrier) × W w
      go [] e = let z : ◌≡◌ {A = ℕ} 0 1 = cc in absurd (omega arith)
      go (w ∷ ws) e = w

  -- no member: absent
  pub absent : {W : Set m} {c : Coef m} → ((w : m.Carrier) → W w → ⊥) → Joined m W c → c ≡ None
  absent {c = None} no_member j = refl
  absent {c = Some x} no_member j = let h = some_member j in absurd (no_member h.0 h.1)

  pub one : {W : Set m} {v : m.Carrier} → W v → ((w : m.Carrier) → W w → w ≡ v) → Joined m W (Some v)
  one {W} {v} h only = record {
    upper = λ w k. ap (λ x. Some (m.join x v)) (only w k) ∙ ap Some (laws.join_self v);
    members = (v, h) ∷ [];
    made = refl;
  }

  map_members : {V W : Set m} → ((w : m.Carrier) → V w → W w) → Members V → Members W
  map_members f [] = []
  map_members f (v ∷ vs) = (v.0, f v.0 v.1) ∷ map_members f vs

  total_map : {V W : Set m} (f : (w : m.Carrier) → V w → W w) (vs : Members V) → total (map_members f vs) ≡ total vs
  unfolding map_members
  total_map f [] = refl
  total_map f (v ∷ vs) = ap (join m (Some v.0)) (total_map f vs)

  -- members that are below the join of a smaller set add nothing
  pub widen : {V W : Set m} {c : Coef m} → ((w : m.Carrier) → V w → W w) → ((w : m.Carrier) → W w → Below m (Some w) c) → Joined m V c → Joined m W c
  widen f up j = record { upper = up; members = map_members f j.members; made = j.made ∙ sym (total_map f j.members) }

  -- same members, same joined weight
  pub same : {V W : Set m} {c : Coef m} → ((w : m.Carrier) → V w → W w) → ((w : m.Carrier) → W w → V w) → Joined m V c → Joined m W c
  same f g j = widen f (λ w h. j.upper w (g w h)) j

  total_append : {W : Set m} (vs ws : Members W) → total (vs ++ ws) ≡ join m (total vs) (total ws)
  total_append [] ws = refl
  total_append (v ∷ vs) ws = ap (join m (Some v.0)) (total_append vs ws) ∙ sym ((coef_laws m laws).join_assoc (Some v.0) (total vs) (total ws))

  -- a union of two
  pub or : {V W : Set m} {c d : Coef m} → Joined m V c → Joined m W d → Joined m (λ w. V w ⊎ W w) (join m c d)
  or {V} {W} {c} {d} j k = record {
    upper = up;
    members = map_members (λ w. inl) j.members ++ map_members (λ w. inr) k.members;
    made = (cc (
      total_append {W = λ w. V w ⊎ W w} (map_members (λ w. inl) j.members) (map_members (λ w. inr) k.members),
      total_map {W = λ w. V w ⊎ W w} (λ w. inl) j.members,
      total_map {W = λ w. V w ⊎ W w} (λ w. inr) k.members,
      j.made,
      k.made,
    ));
  }
    where
      up : (w : m.Carrier) → V w ⊎ W w → Below m (Some w) (join m c d)
      up w (inl h) = below_trans (Some w) c (join m c d) (j.upper w h) (below_first c d)
      up w (inr h) = below_trans (Some w) d (join m c d) (k.upper w h) (below_second c d)

  add_above : (a b c : Coef m) → Below m b c → Below m (add m a b) (add m a c)
  add_above a b c p = sym ((coef_laws m laws).add_join a b c) ∙ ap (add m a) p

  -- sums keep the order
  pub add_both : (a b c d : Coef m) → Below m a c → Below m b d → Below m (add m a b) (add m c d)
  add_both a b c d p q =
      below_trans (add m a b) (add m a d) (add m c d) (add_above a b d q)
      (cc (add_above d a c p, (coef_laws m laws).add_comm a d, (coef_laws m laws).add_comm c d))

  add_members : {V W : Set m} (v : (v : m.Carrier) × V v) → Members W → Members (Sum m V W)
  add_members v [] = []
  add_members v (w ∷ ws) = (m.add v.0 w.0, (v.0, w.0, v.1, w.1, refl)) ∷ add_members v ws

  total_add : {V W : Set m} (v : (v : m.Carrier) × V v) (ws : Members W) → total (add_members {V = V} v ws) ≡ add m (Some v.0) (total ws)
  unfolding add_members
  total_add v [] = refl
  total_add {V} v (w ∷ ws) =
      ap (join m (Some (m.add v.0 w.0))) (total_add {V = V} v ws) ∙ sym ((coef_laws m laws).add_join (Some v.0) (Some w.0) (total ws))

  sum_members : {V W : Set m} → Members V → Members W → Members (Sum m V W)
  sum_members [] ws = []
  sum_members {V} (v ∷ vs) ws = add_members {V = V} v ws ++ sum_members vs ws

  add_join_left : (a b c : Coef m) → add m (join m a b) c ≡ join m (add m a c) (add m b c)
  add_join_left a b c =
      (coef_laws m laws).add_comm (join m a b) c ∙ (cc ((coef_laws m laws).add_join c a b, (coef_laws m laws).add_comm a c, (coef_laws m laws).add_comm b c))

  total_sum : {V W : Set m} (vs : Members V) (ws : Members W) → total (sum_members vs ws) ≡ add m (total vs) (total ws)
  unfolding sum_members
  total_sum [] ws = refl
  total_sum {V} {W} (v ∷ vs) ws =
      (cc (total_append {W = Sum m V W} (add_members {V = V} v ws) (sum_members vs ws), total_add {V = V} v ws, total_sum vs ws, add_join_left (Some v.0) (total vs) (total ws)))

  -- sums of two
  pub sum : {V W : Set m} {c d : Coef m} → Joined m V c → Joined m W d → Joined m (Sum m V W) (add m c d)
  sum {V} {W} {c} {d} j k = record {
    upper = λ w h. ap (λ x. join m (Some x) (add m c d)) h.4 ∙ add_both (Some h.0) (Some h.1) c d (j.upper h.0 h.2) (k.upper h.1 h.3);
    members = sum_members j.members k.members;
    made = (cc (total_sum j.members k.members, j.made, k.made));
  }

  pub gated : {V W : Set m} {c d : Coef m} → Joined m V c → Joined m W d → Joined m (Gated m V W) (gate m c d)
  gated {c = None} j k = empty (λ w h. none j h.0.1)
  gated {c = Some x} j k = same (λ w h. (some_member j, h)) (λ w h. h.1) k

  -- a union over k below n
  pub range : {W : ℕ → Set m} {f : ℕ → Coef m} (n : ℕ) → ((k : ℕ) → k < n → Joined m (W k) (f k))
      → Joined m (λ w. (k : ℕ) × (k < n) × W k w) (joins m f n)
  range zero j = empty (λ w h. let l : h.0 < 0 = h.1 in absurd (omega arith))
  range {W} {f} (suc n) j = same there back (or (range {W = W} n (λ k l. j k (omega arith))) (j n (omega arith)))
    where
      there : (w : m.Carrier) → ((k : ℕ) × (k < n) × W k w) ⊎ W n w → (k : ℕ) × (k < suc n) × W k w
      there w (inl h) = (h.0, omega (arith, h.1), h.2)
      there w (inr h) = (n, omega arith, h)

      back : (w : m.Carrier) → (k : ℕ) × (k < suc n) × W k w → ((k : ℕ) × (k < n) × W k w) ⊎ W n w
      back w h = elim (ℕ_discrete h.0 n) [ yes e ↦ inr (subst (λ k. W k w) e h.2) | no e ↦ inl (h.0, omega (arith, h.1, e), h.2) ]

  -- a union over a list
  pub over_list : {Y : Type 0} {W : Y → Set m} {f : Y → Coef m} (ys : List Y) → ((y : Y) → Joined m (W y) (f y))
      → Joined m (λ w. (y : Y) × Among y ys × W y w) (joins_over m f ys)
  over_list [] j = empty (λ w h. Memᴰ.not-nil h.1)
  over_list {Y} {W} (y ∷ ys) j = same there (λ w h. back w h (Memᴰ.cases_cons h.1)) (or (j y) (over_list {W = W} ys j))
    where
      there : (w : m.Carrier) → W y w ⊎ ((z : Y) × Among z ys × W z w) → (z : Y) × Among z (y ∷ ys) × W z w
      there w (inl h) = (y, Among.head refl, h)
      there w (inr h) = (h.0, Among.tail h.1, h.2)

      back : (w : m.Carrier) (h : (z : Y) × Among z (y ∷ ys) × W z w) → (h.0 ≡ y) ⊎ Among h.0 ys → W y w ⊎ ((z : Y) × Among z ys × W z w)
      back w h (inl e) = inl (subst (λ z. W z w) e h.2)
      back w h (inr t) = inr (h.0, t, h.2)

  -- each piece of a range is below the join of the range
  pub joins_above : (f : ℕ → Coef m) (k n : ℕ) → k < n → Below m (f k) (joins m f n)
  joins_above f k zero l = absurd (omega arith)
  joins_above f k (suc n) l =
      elim (ℕ_discrete k n) [
        | yes e ↦ subst (λ x. Below m (f x) (join m (joins m f n) (f n))) (sym e) (below_second (joins m f n) (f n))
        | no e ↦ below_trans (f k) (joins m f n) (join m (joins m f n) (f n)) (joins_above f k n (omega arith)) (below_first (joins m f n) (f n))
      ]

  -- what bounds each piece bounds the join of the range
  pub joins_below : (f : ℕ → Coef m) (n : ℕ) (c : Coef m) → ((k : ℕ) → k < n → Below m (f k) c) → Below m (joins m f n) c
  joins_below f zero c up = refl
  joins_below f (suc n) c up = below_both (joins m f n) (f n) c (joins_below f n c (λ k l. up k (omega arith))) (up n (omega arith))

  -- where the join of two is one of them, a joined weight is a member
  module _ (chosen : (a b : m.Carrier) → (m.join a b ≡ a) ⊎ (m.join a b ≡ b)) where
    total_member : {W : Set m} (ws : Members W) → (total ws ≡ None) ⊎ ((x : m.Carrier) × (total ws ≡ Some x) × W x)
    total_member [] = inl refl
    total_member {W} (w ∷ ws) =
        elim (total_member ws) [
          | inl e ↦ inr (w.0, ap (join m (Some w.0)) e, w.1)
          | inr h ↦
              let e : total (w ∷ ws) ≡ Some (m.join w.0 h.0) = ap (join m (Some w.0)) h.1 in
              elim (chosen w.0 h.0) [
                | inl c ↦ inr (w.0, e ∙ ap Some c, w.1)
                | inr c ↦ inr (h.0, e ∙ ap Some c, h.2)
              ]
        ]

    pub member : {W : Set m} {x : m.Carrier} → Joined m W (Some x) → W x
    member {W} {x} j =
        elim (total_member j.members) [
          | inl e ↦ let f : Some x ≡ None = j.made ∙ e in let z : ◌≡◌ {A = ℕ} 0 1 = cc in absurd (omega arith)
          | inr h ↦ let f : h.0 ≡ x = (cc (j.made, h.1)) in subst W f h.2
        ]
