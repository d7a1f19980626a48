use Rattle.std.proofs.Common.{◌≡◌, List, ℕ, rules, map, vec_items, IfOk, subst}
use Rattle.std.proofs.lemmas.List.{map-id}
use Rattle.std.proofs.lemmas.Iterator.{YieldsList-from_slice, YieldsList-from_map_by}
use Rattle.std.proofs.lemmas.Iterator.Consumers.{map_from_collect}
use Rattle.program.specs.Format.{arc_bytes}
use Rattle.program.proofs.bodies.arcs.Goals as goal

pub returns-clause-bytes : goal.returns-clause-bytes
returns-clause-bytes c =
    subst (λ (l : List (List ℕ)). IfOk c.collect.result (λ v. map arc_bytes (vec_items v) ≡ l)) (map-id c.args.chunks.now)
    (map_from_collect _ c.collect.ensures.ran (YieldsList-from_map_by _ arc_bytes (λ x. x) (YieldsList-from_slice c.args.chunks.now cc) c.map.ensures.closure (λ x r q k. search rules)))
