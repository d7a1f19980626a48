use Rattle.std.proofs.Common.{sym, ◌∙◌, inl, inr}
use Rattle.std.proofs.lemmas.Bool.{false≢true}
use Rattle.std.proofs.lemmas.Result.{err_from_is_err_and}
use Rattle.shelves.proofs.asks.first_no.Goals as goal

pub returns-in_err-ask-10 : goal.returns-in_err-ask-10
returns-in_err-ask-10 g c =
    let p = err_from_is_err_and c.from_residual-in_err-ask-10.result c.from_residual-in_err-ask-10.ensures.1 in
    rw (p.1, p.2) (inr (c.numbered.ensures.0 c.in_ok-ask.ensures, inr (c.apart.ensures.0 c.in_ok-ask-2.ensures, inr (c.vacant.ensures.0 c.in_ok-ask-3.ensures, inr (c.occupied.ensures.0 c.in_ok-ask-4.ensures, inr (c.measured.ensures.0 c.in_ok-ask-5.ensures, inr (c.tabular.ensures.0 c.in_ok-ask-6.ensures, inr (c.going.ensures.0 c.in_ok-ask-7.ensures, inr (c.recordable.ensures.0 c.in_ok-ask-8.ensures, inr (c.roomy.ensures.0 c.in_ok-ask-9.ensures, inl (sym c.in_err-ask-10.ensures.1, λ y. false≢true (sym c.in_err-ask-10.ensures.0 ∙ c.staying.ensures.1 y))))))))))))
