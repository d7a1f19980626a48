-- The least period and the least transient, as a search forwards and one backwards find them.
use Rattle.std.proofs.Common.{◌≡◌, ℕ, ◌+◌, ◌-◌, ◌<◌, ◌≤◌, Bool, true, false, None, Some, Option, MatchOption, Decides, length, get_or, sym, refl, ap, ◌∙◌, subst, arith}
use Rattle.std.specs.Prelude.{unwrap_or}
use Rattle.std.specs.Bool.{MatchBool}
use Rattle.std.specs.List.{range_with_len, AllWithin, HoldsAt}
use Rattle.std.proofs.lemmas.List.FromFn.{get_or-range_with_len, length-range_with_len}
use Rattle.std.proofs.lemmas.Bool.{false≢true}
use Rattle.rows.specs.Search.{folded, RoundHas, LeastPeriod, LeastTransient}
use Rattle.rows.proofs.Periods.{whole_round}

module _ {X : Type 0} (row : ℕ → X) where
  -- tick k is the same as the one d later, taken back into the round from i up to n
  pub record Back (i n d k : ℕ) : Type 0 where
    pub same : row (folded i n (k + d)) ≡ row k

  pub back_decides : (i n d : ℕ) (r : Bool)
      → MatchBool r (AllWithin (Back i n d) (range_with_len i (n - i)) 0 (length (range_with_len i (n - i)))) ((k : ℕ) × (k < length (range_with_len i (n - i))) × HoldsAt (λ k. Back i n d k → ⊥) (range_with_len i (n - i)) k)
      → Decides r (RoundHas row i n d)
  back_decides i n d true all = (
    λ e k low less.
        let back : i + (k - i) ≡ k = omega arith in
        let at : get_or (range_with_len i (n - i)) (k - i) 0 ≡ k = get_or-range_with_len i (n - i) (k - i) 0 (omega arith) ∙ back in
        (subst (Back i n d) at (all (k - i) 0 (omega arith) (omega (arith, length-range_with_len i (n - i))))).same,
    λ has. refl,
  )
  back_decides i n d false (k, less, none) = (
    λ e. absurd (false≢true e),
    λ has.
        let within : k < n - i = omega (arith, length-range_with_len i (n - i)) in
        let at = get_or-range_with_len i (n - i) k 0 within in
        absurd (none 0 (subst (Back i n d) (sym at) record { same = has (i + k) (omega arith) (omega arith) })),
  )

  -- the round from i up to n has the period d
  pub record Period (i n d : ℕ) : Type 0 where
    pub round : RoundHas row i n d

  pub least_period_from : (i n : ℕ) → i < n → (found : Option ℕ)
      → MatchOption found ((d : ℕ) → 1 ≤ d → d < n - i → Period i n d → ⊥) (λ d. (1 ≤ d) × (d < n - i) × Period i n d × ((c : ℕ) → 1 ≤ c → c < d → Period i n c → ⊥))
      → LeastPeriod row i n (unwrap_or found (n - i))
  least_period_from i n some None none = record {
    positive = omega arith;
    within = omega arith;
    round = λ k low high. ap row (whole_round i n k low (omega arith));
    least = λ d pos less has. none d pos less record { round = has };
  }
  least_period_from i n some (Some d) is = record {
    positive = is.0;
    within = omega (arith, is.1);
    round = is.2.round;
    least = λ c pos less has. is.3 c pos less record { round = has };
  }

  -- tick k is the same as the one d later
  pub record Same (d k : ℕ) : Type 0 where
    pub same : row (k + d) ≡ row k

  pub least_transient_from : (i d t : ℕ) (found : Option ℕ)
      → MatchOption found ((k : ℕ) → k < i → Same d k) (λ k. (k < i) × (Same d k → ⊥) × ((j : ℕ) → k < j → j < i → Same d j))
      → MatchOption found (t ≡ 0) (λ k. t ≡ k + 1) → LeastTransient row i d t
  least_transient_from i d t None all is = record {
    within = omega (arith, is);
    back = λ k low less. (all k less).same;
    least = λ k e again. absurd (omega (arith, is, e));
  }
  least_transient_from i d t (Some k) last is = record {
    within = omega (arith, is, last.0);
    back = λ j low less. (last.2 j (omega (arith, is)) less).same;
    least = λ j e again. let here : j ≡ k = omega (arith, is, e) in last.1 (subst (Same d) here record { same = again });
  }
