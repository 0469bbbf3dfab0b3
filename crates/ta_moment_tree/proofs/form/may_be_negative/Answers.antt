use Rattle.ta_moment_tree.proofs.Common.{◌≡◌, ◌∙◌, ap, sym, false, to_z_range, any_below, coefficient, below_zero, has_negative}
use Rattle.ta_moment_tree.proofs.Forms.{negative_is, or_after}
use Rattle.ta_moment_tree.proofs.form.may_be_negative.Goals as goal

pub returns-else-is_negative : goal.returns-else-is_negative
returns-else-is_negative c n speaks =
    let x = c.args.x.now in
    let none : below_zero c.args.x.now.constant ≡ false = ap below_zero (sym (to_z_range c.args.x.now.constant c.args.x.now.constant_fits))
    ∙ sym c.is_negative.ensures ∙ c.if-is_negative.false in
    c.has_negative.ensures ∙ ap has_negative c.as_slice.ensures ∙ negative_is n c.args.x.now speaks
    ∙ or_after (below_zero c.args.x.now.constant) (any_below n (λ u. below_zero (coefficient c.args.x.now.terms u))) none
