use Rattle.std.proofs.Common.{List, map, take}
use Rattle.shelves.specs.Calls.{Event}
use Rattle.shelves.specs.Effects.{DoesAll}
use Rattle.shelves.specs.Held.{state_of, call_of}
use Rattle.shelves.specs.History.{Made}
use Rattle.shelves.specs.Lists.{after_calls}
use Rattle.shelves.specs.Told.{reply_of}
use Rattle.shelves.proofs.listing.answer_all.Given as goal

abbrev pub invariant-loop-i : goal.invariant-loop-i
invariant-loop-i g l =
    let m = g.V.Algebra.model in
    let f = g.V.Algebra.means in
    ((h : List (Event m)) → Made m h (state_of m f l.initial.core) → Made m (after_calls m (map call_of (take l.i l.calls)) (map (reply_of m f) (take l.i l.reply-items)) h) (state_of m f l.core))
    × DoesAll m (map call_of (take l.i l.calls)) (map (reply_of m f) (take l.i l.reply-items)) (state_of m f l.initial.core) (state_of m f l.core)
