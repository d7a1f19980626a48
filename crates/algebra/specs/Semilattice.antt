-- An operation that is associative, commutative and idempotent distributes over itself.
use Rattle.std.specs.Prelude.{◌≡◌}
use Rattle.std.proofs.Common.{sym, ap, ◌∙◌}

pub over_itself : {C : Type 0} (op : C → C → C) → ((a b c : C) → op (op a b) c ≡ op a (op b c)) → ((a b : C) → op a b ≡ op b a) → ((a : C) → op a a ≡ a) → (a b c : C) → op a (op b c) ≡ op (op a b) (op a c)
over_itself op assoc comm self a b c =
    ap (λ x. op x (op b c)) (sym (self a)) ∙ assoc a a (op b c)
    ∙ ap (op a) (sym (assoc a b c) ∙ ap (λ x. op x c) (comm a b) ∙ assoc b a c)
    ∙ sym (assoc a b (op a c))
