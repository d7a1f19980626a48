use Rattle.std.proofs.Common.{◌≡◌, ◌≤◌, rules, ℕ, ◌+◌, ◌*◌, ◌/◌, List, length, get_or, drop, refl, ap, ◌∙◌, arith, length-drop, ltb-false}
use Rattle.std.specs.Simd.{first_chunks}
use Rattle.std.proofs.lemmas.List.{take_rest}
use Rattle.program.specs.declared.fault.Fault.TheVariants.{Memory}
use Rattle.program.specs.declared.kind.Kind.TheVariants.{Table}
use Rattle.program.specs.Bodies.{Misfits}
use Rattle.program.proofs.Arcs.{whole, some_arcs, table_body}
use Rattle.program.proofs.Numbers.{Bytes, bytes_after}
use Rattle.program.proofs.bodies.table.Goals as goal
use Rattle.program.proofs.bodies.table.Goals.{After-arcs}

-- three bytes at least, each place a byte, and after the three ten times as many as the count in two of them
module _ (c : After-arcs) where
  bytes : Bytes c.args.body.now
  bytes i = omega (arith, c.type_inv.body i)

  room : 3 ≤ length c.args.body.now
  room = omega (arith, ltb-false)

  tens : length (drop 3 c.args.body.now) ≡ 10 * (get_or c.args.body.now 1 0 + get_or c.args.body.now 2 0 * 256)
  tens = omega (arith, length-drop 3 c.args.body.now, c.from.ensures, c.from_le_bytes-count.ensures, c.if-rest-from.false)

pub returns : goal.returns
returns c =
    let at = (goal.at.returns c).After-arcs in
    let bs : List ℕ = c.args.body.now in
    let chunks = c.in_ok-arcs.ensures.bytes ∙ c.as_chunks.ensures.front ∙ ap (λ (l : List ℕ). first_chunks 10 (length l / 10) l) (take_rest bs 3) in
    let all = whole _ (drop 3 bs) _ (tens at) chunks in
    (bytes at 0, c.in_ok-arcs.ensures.fits, table_body bs (bytes at) (room at) _ all.0 all.1)

pub returns-in_err-arcs : goal.returns-in_err-arcs
returns-in_err-arcs c =
    let at = (goal.at.returns-in_err-arcs c).After-arcs in
    let bs : List ℕ = c.args.body.now in
    let (arcs, count, fit, is) = some_arcs _ (drop 3 bs) (bytes_after 3 bs (bytes at)) (tens at) in
    let spelled : Misfits Memory Table bs = (refl, (get_or bs 0 0, arcs, (bytes at 0, fit), table_body bs (bytes at) (room at) arcs count is)) in
    search rules
