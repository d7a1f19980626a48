use Rattle.std.proofs.Common.{ℕ, length, get_or, set, Some, None, sym, ap, ◌∙◌, subst, arith}
use Rattle.std.proofs.lemmas.List.{length-set}
use Rattle.rows.specs.declared.link.Link.{Link}
use Rattle.rows.specs.Chains.{keys, newest, Links}
use Rattle.rows.proofs.Chaining.{heads_more, links_more}
use Rattle.rows.proofs.chains.Chains.push.Goals as goal

pub invariant_of-self : goal.invariant_of-self
invariant_of-self g c =
    let self = c.args.self.now in
    let links = self.links.items in
    let x : Link = record { key = c.args.key; before = get_or self.heads c.args.key None } in
    record {
      heads_long = length-set _ _ _ ∙ self.heads_long;
      headed = λ key less.
          ap (λ (n : ℕ). get_or (set self.heads c.args.key (Some n)) key None) c.len-number.ensures.value
          ∙ heads_more links x self.heads self.heads_long (omega arith) self.headed key less
          ∙ ap (λ xs. newest (keys xs) (length xs) key) (sym c.push.ensures.items);
      linked = subst Links (sym c.push.ensures.items)
          (links_more links x self.linked (self.headed c.args.key (omega arith)));
    }
