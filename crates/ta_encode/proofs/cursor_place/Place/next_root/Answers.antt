use Rattle.ta_encode.proofs.Common.{◌+◌, refl}
use Rattle.ta_encode.proofs.TreesLeft.{root_none, root_comes}
use Rattle.ta_encode.proofs.cursor_place.Place.next_root.Goals as goal

pub returns-in-None : goal.returns-in-None
returns-in-None g c = root_none (g.T.Tree.search c.args.tree.now) c.args.self.now (c.args.self.now.root + 1) c.in-None.ensures

pub returns-in-Some : goal.returns-in-Some
returns-in-Some g c =
    let next = c.args.self.now.root + 1 in
    root_comes (g.T.Tree.search c.args.tree.now) (record { cursor = c.new.result; root = next }) next c.in-Some.start c.in-Some.ensures c.new.ensures refl
