-- The shelves of a rack as a list.
use Rattle.std.specs.Prelude.{List, map}
use Rattle.shelves.specs.declared.shelf.Shelf.{Shelf}
use Rattle.shelves.specs.declared.tables.Shelves.{Shelves}
use Rattle.shelves.specs.State.{ShelfState}

abbrev pub shelf_of : Shelf → ShelfState
shelf_of k = record { step = k.step; transient = k.shape.transient; period = k.shape.period }

abbrev pub shelves_of : Shelves → List ShelfState
shelves_of t = map shelf_of t.items
