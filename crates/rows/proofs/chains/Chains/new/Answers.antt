use Rattle.std.proofs.Common.{length, None, sym, refl, ap, ◌∙◌, arith}
use Rattle.std.proofs.lemmas.List.{get_or-replicate}
use Rattle.rows.specs.Chains.{keys, newest}
use Rattle.rows.proofs.chains.Chains.new.Goals as goal

pub invariant_of-result : goal.invariant_of-result
invariant_of-result g c = record {
  heads_long = refl;
  headed = λ key less.
      get_or-replicate 256 key None None less ∙ ap (λ xs. newest (keys xs) (length xs) key) (sym c.new.ensures);
  linked = λ i d less. absurd (omega (arith, ap length c.new.ensures));
}
