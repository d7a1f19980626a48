use Rattle.std.proofs.Common.{List, take, refl, ap}
use Rattle.std.proofs.lemmas.Result.{err_from_is_err_and}
use Rattle.algebra.specs.Coefficients.{Coef}
use Rattle.rows.specs.Pieces.{meanings}
use Rattle.rows.specs.Rules.Rule.{rows}
use Rattle.shelves.specs.Tables.{shelves_of}
use Rattle.shelves.proofs.Settled.{settled}
use Rattle.shelves.proofs.Stopping.{stopped}
use Rattle.shelves.proofs.Unchanged.{same_length}
use Rattle.shelves.proofs.building.build.Goals as goal

pub returns : goal.returns
returns g c =
    let m = g.V.Algebra.model in
    let f = g.V.Algebra.means in
    let over = λ (cs : List (Coef m)). g.R.RowRule.works c.args.rule.now m cs in
    let core = c.args.core.now in
    let k = c.args.place.shelf in
    let shape = c.in_ok-unrolled.unrolled.shape in
    let is = c.in_ok-unrolled.ensures in
    let noted = c.settle.ensures in
    record {
      does = (
        (is.cases.soon, is.cases.first),
        settled m f (rows (over (meanings f (take 2048 core.cells.lent.now)))) k shape.transient shape.period c.args.step core c.settle.new.core c.unroll.new.cells shape.most is.cases.keeps is.only noted.cells noted.shelves noted.steps noted.arcs,
      );
      arcs = noted.arcs;
    }

pub returns-in_err-unrolled : goal.returns-in_err-unrolled
returns-in_err-unrolled g c =
    let m = g.V.Algebra.model in
    let f = g.V.Algebra.means in
    let over = λ (cs : List (Coef m)). g.R.RowRule.works c.args.rule.now m cs in
    let core = c.args.core.now in
    let p = err_from_is_err_and c.from_residual.result c.from_residual.ensures.1 in
    let no = c.in_err-unrolled.field-0.0 in
    let refusal = c.in_err-unrolled.ensures.cases in
    let same = ap (meanings f) refusal.1 in
    let lent = same_length 4096 core.cells.lent.now c.unroll.new.cells.lent.now core.cells.room c.unroll.new.cells.room c.in_err-unrolled.ensures.only.past in
    let past = ap (meanings f) c.in_err-unrolled.ensures.only.past in
    record {
      does = rw (p.1, p.2) (
        stopped (over (meanings f (take 2048 core.cells.lent.now))) no refusal.0,
        λ i. record { cells = same i; shelves = shelves_of core.shelves; steps = core.steps.items; arcs = core.arcs.items; lent = lent i; past = past i },
      );
      arcs = refl;
    }
