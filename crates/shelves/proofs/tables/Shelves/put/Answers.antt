use Rattle.std.proofs.lemmas.List.{map-set}
use Rattle.shelves.specs.Tables.{shelf_of}
use Rattle.shelves.proofs.tables.Shelves.put.Goals as goal

pub returns : goal.returns
returns c = map-set shelf_of c.args.self.now.items c.args.place.shelf c.args.shelf
