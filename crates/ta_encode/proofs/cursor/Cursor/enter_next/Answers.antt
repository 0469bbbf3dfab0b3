use Rattle.ta_encode.proofs.Common.{Splits}
use Rattle.ta_encode.proofs.CursorCommon.{◌≡◌, ℕ, ℤ, ◌+◌, ◌++◌, FitsSigned, arith, rules, reverse, drop, subst, w128, to_z-of_z, Split, parts, SplitFits}
use Rattle.ta_encode.proofs.CursorCommon.{Within}
use Rattle.ta_encode.proofs.cursor.Cursor.enter_next.Goals as goal

pub returns-in_ok-enter_side-in-Splits : goal.returns-in_ok-enter_side-in-Splits
returns-in_ok-enter_side-in-Splits g c = λ w words within.
    let fits : FitsSigned w128 c.in-Splits.floor = search rules in
    let s = g.T.Tree.search c.args.tree.now in
    let cursor = c.args.self.now in
    let n = s.unknowns cursor.start (reverse cursor.facts.items) in
    let split = rw c.in-Splits.is at c.requires.split in
    let told = λ (z : ℤ) (k : ℕ). Within s c.enter_side.new.self (drop k (parts s w (Split c.in-Splits.unknown z)) ++ words) in
    let went = subst (λ (z : ℤ). SplitFits n (Splits c.in-Splits.unknown z) → told z 1) (to_z-of_z w128 c.in-Splits.floor fits)
    (c.in_ok-enter_side-in-Splits.ensures s w words within) split in
    let number : 1 ≡ c.args.frame.next + 1 = omega arith in
    rw c.in-Splits.is (subst (told c.in-Splits.floor) number went)
