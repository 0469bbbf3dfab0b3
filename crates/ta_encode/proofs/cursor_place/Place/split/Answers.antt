use Rattle.ta_encode.proofs.CursorCommon.{ℤ, ◌++◌, FitsSigned, refl, rules, subst, w128, to_z-of_z, Split, parts, WentOn, here_at}
use Rattle.ta_encode.proofs.TreesLeft.{at_here, sides_left}
use Rattle.ta_encode.proofs.cursor_place.Place.split.Goals as goal

pub returns : goal.returns
returns g c = λ w words all.
    let fits : FitsSigned w128 c.args.floor = search rules in
    let s = g.T.Tree.search c.args.tree.now in
    let old = c.args.self.now in
    let at = at_here s old w words all in
    let told = λ (z : ℤ). WentOn s c.split.new.self (parts s (here_at old) (Split c.args.unknown z) ++ at.rest) c.split.result in
    let went = subst told (to_z-of_z w128 c.args.floor fits) (c.split.ensures s (here_at old) at.rest at.within c.requires.unknown) in
    sides_left s old (record { cursor = c.split.new.self; root = old.root }) w words (Split c.args.unknown c.args.floor) c.split.result at went refl all.small
