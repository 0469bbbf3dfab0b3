use Rattle.ta_encode.proofs.Common.{refl}
use Rattle.ta_encode.proofs.TreesLeft.{none_begins, first_begins}
use Rattle.ta_encode.proofs.cursor_place.Place.first.Goals as goal

pub returns-in-None : goal.returns-in-None
returns-in-None g c = none_begins (g.T.Tree.search c.args.tree.now).roots c.in-None.ensures

pub returns-in-Some : goal.returns-in-Some
returns-in-Some g c = first_begins (g.T.Tree.search c.args.tree.now) (record { cursor = c.new.result; root = 0 }) c.in-Some.start c.in-Some.ensures
    c.new.ensures refl
