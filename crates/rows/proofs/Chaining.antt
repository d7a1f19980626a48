-- The way along a chain, and one number more in the chains.
use Rattle.std.proofs.Common.{◌≡◌, ℕ, zero, suc, ◌<◌, ◌≤◌, cond, eqb, ◌≢◌, List, [], ◌∷◌, ◌++◌, length, map, get_or, set, Option, Some, None, sym, refl, ap, ◌∙◌, subst, ⊎_elim, arith, length-append}
use Rattle.std.proofs.Math.Seq.{get_or-append_seam}
use Rattle.std.proofs.lemmas.List.{get_or-set_same, get_or-set_other, get_or_append_left, length-map, map-append}
use Rattle.std.proofs.lemmas.Bool.{cases_eq, cond-true, cond-false, cond_both, eq-eqb, ne_eqb, eqb-true, eqb-false}
use Rattle.rows.specs.declared.link.Link.{Link}
use Rattle.rows.specs.Chains.{keys, newest, Heads, Links}

-- one past the number, or 0 where there is none
abbrev pub past : Option ℕ → ℕ
past None = 0
past (Some k) = suc k

-- what the newest number p below n with the key says
pub record Leads (ks : List ℕ) (n key : ℕ) (p : Option ℕ) : Type 0 where
  pub within : past p ≤ n
  pub inside : (k : ℕ) → p ≡ Some k → get_or ks k 0 ≡ key
  pub all : (j : ℕ) → j < n → get_or ks j 0 ≡ key → j < past p

pub leads : (ks : List ℕ) (n key : ℕ) → Leads ks n key (newest ks n key)
leads ks zero key = record {
  within = omega arith;
  inside = λ k e. absurd (cc);
  all = λ j less e. absurd (omega arith);
}
leads ks (suc n) key =
    let before = leads ks n key in
    cond_both (eqb (get_or ks n 0) key) (Some n) (newest ks n key) (Leads ks (suc n) key)
    (λ same. record {
      within = omega arith;
      inside = λ k e. let last : k ≡ n = (cc) in ap (λ (i : ℕ). get_or ks i 0) last ∙ eqb-true _ _ same;
      all = λ j less e. less;
    })
    (λ other. record {
      within = omega (arith, before.within);
      inside = before.inside;
      all = λ j less e. ⊎_elim
          (λ last. absurd (eqb-false _ _ other (ap (λ (i : ℕ). get_or ks i 0) (sym last) ∙ e)))
          (λ ne. before.all j (omega arith) e)
          (cases_eq j n);
    })

-- of a number that is told to be the newest
pub leads_as : (ks : List ℕ) (n key : ℕ) {p : Option ℕ} → p ≡ newest ks n key → Leads ks n key p
leads_as ks n key is = subst (Leads ks n key) (sym is) (leads ks n key)

-- the number before k in its chain is told: what is left of the chain gets shorter
pub shorter : (ks : List ℕ) (k : ℕ) (p q : Option ℕ) → q ≡ Some k → p ≡ newest ks k (get_or ks k 0) → past p < past q
shorter ks k p q e is = let here = ap past e in omega (arith, (leads_as ks k (get_or ks k 0) is).within)

-- what code reads past the end
abbrev pub no_link : Link
no_link = record { key = 0; before = None }

length-keys : (links : List Link) → length (keys links) ≡ length links
length-keys links = simp length-map

-- as many numbers are linked as there are items with these keys
pub count_keyed : {A : Type 0} (key : A → ℕ) (links : List Link) (items : List A) → keys links ≡ map key items → length links ≡ length items
count_keyed key links items keyed = sym (length-keys links) ∙ ap length keyed ∙ length-map items key

module _ (links : List Link) (x : Link) where
  keys_more : keys (links ++ x ∷ []) ≡ keys links ++ x.key ∷ []
  keys_more = map-append (λ l. l.key) links (x ∷ [])

  old_key : (k : ℕ) → k < length links → get_or (keys (links ++ x ∷ [])) k 0 ≡ get_or (keys links) k 0
  old_key k less =
      ap (λ xs. get_or xs k 0) keys_more ∙ get_or_append_left (keys links) (x.key ∷ []) _ k (omega (arith, length-keys links))

  new_key : get_or (keys (links ++ x ∷ [])) (length links) 0 ≡ x.key
  new_key =
      ap (λ xs. get_or xs (length links) 0) keys_more
      ∙ ap (λ (k : ℕ). get_or (keys links ++ x.key ∷ []) k 0) (sym (length-keys links))
      ∙ get_or-append_seam (keys links) x.key [] _

  -- the number that is linked last leaves those below as they were
  newest_kept : (m key : ℕ) → m ≤ length links → newest (keys (links ++ x ∷ [])) m key ≡ newest (keys links) m key
  newest_kept zero key low = refl
  newest_kept (suc m) key low =
      ap (λ (k : ℕ). cond (eqb k key) (Some m) (newest (keys (links ++ x ∷ [])) m key)) (old_key m low)
      ∙ ap (λ p. cond (eqb (get_or (keys links) m 0) key) (Some m) p) (newest_kept m key (omega arith))

  newest_more : (key : ℕ) → newest (keys (links ++ x ∷ [])) (length (links ++ x ∷ [])) key ≡ cond (eqb x.key key) (Some (length links)) (newest (keys links) (length links) key)
  newest_more key =
      let long : length (links ++ x ∷ []) ≡ suc (length links) = omega (arith, length-append links (x ∷ [])) in
      ap (λ (k : ℕ). newest (keys (links ++ x ∷ [])) k key) long
      ∙ ap (λ (k : ℕ). cond (eqb k key) (Some (length links)) (newest (keys (links ++ x ∷ [])) (length links) key)) new_key
      ∙ ap (λ p. cond (eqb x.key key) (Some (length links)) p) (newest_kept (length links) key (omega arith))

  pub heads_more : (heads : List (Option ℕ)) → length heads ≡ 256 → x.key < 256 → Heads links heads → Heads (links ++ x ∷ []) (set heads x.key (Some (length links)))
  heads_more heads size low headed key less =
      ⊎_elim
      (λ e. let within : x.key < length heads = omega arith in
      ap (λ (i : ℕ). get_or (set heads x.key (Some (length links))) i None) (sym e)
      ∙ get_or-set_same heads x.key (Some (length links)) None within
      ∙ sym (newest_more key ∙ cond-true _ _ _ (eq-eqb _ _ e)))
      (λ ne. let other : key ≢ x.key = λ e. ne (sym e) in
      get_or-set_other heads x.key key (Some (length links)) None other
      ∙ headed key less
      ∙ sym (newest_more key ∙ cond-false _ _ _ (ne_eqb _ _ ne)))
      (cases_eq x.key key)

  pub links_more : Links links → x.before ≡ newest (keys links) (length links) x.key → Links (links ++ x ∷ [])
  links_more linked is i d less = ⊎_elim
      (λ last. ap (λ (k : ℕ). (get_or (links ++ x ∷ []) k d).before) last
      ∙ ap (λ y. y.before) (get_or-append_seam links x [] d)
      ∙ is
      ∙ sym (ap (λ (k : ℕ). newest (keys (links ++ x ∷ [])) k (get_or (keys (links ++ x ∷ [])) k 0)) last
      ∙ newest_kept (length links) _ (omega arith)
      ∙ ap (newest (keys links) (length links)) new_key))
      (λ ne. let below : i < length links = omega (arith, length-append links (x ∷ [])) in
      ap (λ y. y.before) (get_or_append_left links (x ∷ []) d i below)
      ∙ linked i d below
      ∙ sym (newest_kept i _ (omega arith) ∙ ap (newest (keys links) i) (old_key i below)))
      (cases_eq i (length links))
