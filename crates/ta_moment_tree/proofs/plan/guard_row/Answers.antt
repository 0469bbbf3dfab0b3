use Rattle.ta_moment_tree.proofs.Common.{◌≡◌, ◌-◌, ◌+◌, ◌∙◌, sym, ap, arith, length, List, slice_get, Row, slice_get_right}
use Rattle.ta_moment_tree.proofs.Lists.{copied}
use Rattle.ta_moment_tree.proofs.plan.guard_row.Goals as goal

pub returns-else-guard-rises : goal.returns-else-guard-rises
returns-else-guard-rises c =
    let a = c.args.automaton.now in
    let same = ap (λ (rs : List Row). length rs) c.as_slice-rises.ensures in
    let le = c.if-guard-rises.false in
    let k = c.args.guard - length c.as_slice-rises.result.now in
    let at : c.args.guard ≡ length a.rise + k = omega arith in
    copied c.get-else-guard-rises.result c.as_slice.result.now k c.get-else-guard-rises.ensures.lookup.1 c.get-else-guard-rises.ensures.lookup.3
    ∙ ap (λ (rs : List Row). slice_get rs k) c.as_slice.ensures ∙ sym (slice_get_right a.rise a.fall c.args.guard k at)
