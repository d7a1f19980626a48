use Rattle.std.proofs.Common.{◌≡◌, ◌+◌, ◌<◌, ◌≤◌, List, [], ◌∷◌, length, take, drop, sym, refl, ap, ◌∙◌, subst, arith, length-append}
use Rattle.algebra.specs.Coefficients.{Coef}
use Rattle.rows.specs.Pieces.{meanings}
use Rattle.rows.specs.Search.{noted}
use Rattle.rows.specs.Walked.{Walked}
use Rattle.rows.proofs.Walking.{walked_more, walked_at, noted_now, noted_then, shelves_same, past_same}
use Rattle.rows.proofs.walk.go_on.Goals as goal

pub returns-in-Some : goal.returns-in-Some
returns-in-Some g c =
    let found = c.in-Some.ensures in
    let w = c.loop-n.invariant.0 in
    let earlier : c.in-Some.earlier < c.loop-n.n = omega (arith, found.0, c.loop-n.invariant.4) in
    record {
      same = c.loop-n.invariant.6;
      below = c.loop-n.invariant.2;
      past = c.loop-n.invariant.3;
      cases = (sym (w.seen c.in-Some.earlier (omega arith) earlier) ∙ found.1 ∙ w.here, w.fresh, λ k less. w.kept k (omega arith) less);
    }

pub loop-n-init : goal.loop-n-init
loop-n-init g c = (
  walked_at (sym c.len-n.ensures.value) c.requires.walked,
  c.requires.fits,
  refl,
  refl,
  sym c.len-n.ensures.value,
  omega (arith, c.len-n.ensures.value),
  refl,
)

pub loop-n-preserved : goal.loop-n-preserved
loop-n-preserved g c =
    let m = g.V.Algebra.model in
    let f = g.V.Algebra.means in
    let over = λ (cs : List (Coef m)). g.R.RowRule.works c.args.rule.now m cs in
    let rule = over (meanings f (take 2048 c.args.cells.now.lent.now)) in
    let n = c.loop-n.n in
    let cells = c.loop-n.cells.lent.now in
    let p = c.look-pause.result.pause in
    let e = c.look-pause.result.exit in
    let room : 4096 ≤ length cells = omega arith in
    let same = c.loop-n.invariant.2 in
    let shelves = ap (meanings f) (c.kept.ensures ∙ same) in
    let few : n < 1024 = omega arith in
    let count = c.loop-n.invariant.4 in
    let items = c.loop-n.seen.noted.items in
    let wrote = c.note.ensures.noted in (
      subst (λ xs. Walked rule (n + 1) c.look-pause.result.next xs (meanings f c.note.new.self.lent.now)) (sym c.push.ensures)
          (walked_more rule n c.loop-n.s c.look-pause.result.next items (meanings f cells) (meanings f c.note.new.self.lent.now) c.loop-n.invariant.0 (sym count)
          (λ k less. c.in_default.ensures k (omega (arith, count)))
          (c.look-pause.ensures.next ∙ ap (λ cs. (over cs).next c.loop-n.s) shelves)
          (ap (λ xs. noted m (meanings f xs) n) wrote ∙ noted_now m f cells n p e room few
          ∙ (λ i. (c.look-pause.ensures.pause i, c.look-pause.ensures.exit i))
          ∙ ap (λ cs. ((over cs).pause c.loop-n.s, (over cs).exit c.loop-n.s)) shelves)
          (λ k less. ap (λ xs. noted m (meanings f xs) k) wrote ∙ noted_then m f cells n p e room few k less)),
      c.look-pause.ensures.fits,
      ap (take 2048) wrote ∙ shelves_same f cells n p e room few ∙ same,
      ap (drop 4096) wrote ∙ past_same f cells n p e room few ∙ c.loop-n.invariant.3,
      omega (arith, ap length c.push.ensures, length-append c.loop-n.seen.noted.items (c.loop-n.s ∷ []), count),
      omega arith,
      c.note.ensures.same ∙ c.loop-n.invariant.6,
    )

pub returns : goal.returns
returns g c =
    let w = c.loop-n.invariant.0 in
    let full : c.loop-n.n ≡ g.row.N = omega arith in
    record {
      same = c.loop-n.invariant.6;
      below = c.loop-n.invariant.2;
      past = c.loop-n.invariant.3;
      cases = (c.loop-n.invariant.4 ∙ full, c.loop-n.invariant.1, walked_at full w);
    }
