use Rattle.ta_moment_tree.proofs.Common.{ℕ, Bool, ◌<◌, ◌||◌, length, slice_get, arith, sym, ap, ◌∙◌, any_below-at, any_below, comes_after}
use Rattle.ta_base.proofs.Bits.{any_below-next, any_below-none}
use Rattle.ta_moment_tree.proofs.asking.has_later.Goals as goal

pub loop-other-init : goal.loop-other-init
loop-other-init c = any_below-none _

pub returns-then-comes_after : goal.returns-then-comes_after
returns-then-comes_after c =
    let p = c.args.pattern.now in
    let f = c.loop-other.other in
    let same = ap length c.as_slice-other-end.ensures in
    let less : f < length p.events = (let b = c.loop-other-test.true in omega arith) in
    sym (any_below-at (length p.events) (λ k. comes_after (slice_get p.events k) c.args.event) f less (sym c.comes_after.ensures ∙ c.if-comes_after.true))

pub loop-other-preserved : goal.loop-other-preserved
loop-other-preserved c =
    let p = c.args.pattern.now in
    let f = c.loop-other.other in
    let test : ℕ → Bool = λ k. comes_after (slice_get p.events k) c.args.event in
    any_below-next f test ∙ ap (λ b. b || any_below f test) (sym c.comes_after.ensures ∙ c.if-comes_after.false) ∙ c.loop-other.invariant
