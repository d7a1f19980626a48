-- Arcs that all lead to a state or out, as a test.
use Rattle.std.proofs.Common.{◌≡◌, Bool, true, ◌&&◌, ◌||◌, eqb, leb, List, [], ◌∷◌, sym, subst}
use mathlib.Core.List.{Memᴰ as Among}
use Rattle.std.proofs.lemmas.Bool.{and_parts, leb-true, le-leb}
use Rattle.std.proofs.lemmas.Bool.Decides.{Decides-eqb, Decides-or}
use Rattle.algebra.specs.declared.arc.Arc.{Arc}
use Rattle.runs.specs.Arcs.{LeadsOn}

abbrev leads : Arc → Bool
leads arc = leb arc.to 63 || eqb arc.to 255

abbrev pub all_lead : List Arc → Bool
all_lead [] = true
all_lead (arc ∷ arcs) = leads arc && all_lead arcs

pub lead_on : (arcs : List Arc) → all_lead arcs ≡ true → (arc : Arc) → Among arc arcs → LeadsOn arc
lead_on [] test arc m = elim m [ ]
lead_on (first ∷ arcs) test arc (Among.head e) =
    subst LeadsOn (sym e) ((Decides-or _ _ (leb-true first.to 63, le-leb first.to 63) (Decides-eqb first.to 255)).0 (and_parts (leads first) (all_lead arcs) test).0)
lead_on (first ∷ arcs) test arc (Among.tail m) = lead_on arcs (and_parts (leads first) (all_lead arcs) test).1 arc m
