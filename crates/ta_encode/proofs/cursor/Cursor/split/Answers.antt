use Rattle.ta_encode.proofs.Common.{Splits}
use Rattle.ta_encode.proofs.CursorCommon.{ℤ, ◌++◌, FitsSigned, reverse, rules, subst, w128, to_z-of_z, Split, parts, SplitFits, WentOn}
use Rattle.ta_encode.proofs.cursor.Cursor.split.Goals as goal

pub returns : goal.returns
returns g c = λ s w words within below.
    let fits : FitsSigned w128 c.args.floor = search rules in
    let cursor = c.args.self.now in
    let n = s.unknowns cursor.start (reverse cursor.facts.items) in
    let told = λ (z : ℤ). SplitFits n (Splits c.args.unknown z)
    → WentOn s c.enter_side.new.self (parts s w (Split c.args.unknown z) ++ words) c.enter_side.result in
    subst told (to_z-of_z w128 c.args.floor fits) (c.enter_side.ensures s w words within)
    (record { exists = below; least = c.requires.low; most = c.requires.high })
