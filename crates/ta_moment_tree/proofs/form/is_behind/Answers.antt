use Rattle.ta_moment_tree.proofs.Common.{◌≡◌, ◌-◌, ◌^◌, length, suc, pos, arith, get_or}
use Rattle.std.proofs.lemmas.Bool.{ltb-true}
use Rattle.ta_moment_tree.proofs.Forms.{ends_before}
use Rattle.ta_moment_tree.proofs.form.is_behind.Goals as goal

pub returns : goal.returns
returns c = λ h.
    let terms = c.args.terms.now in
    let some = c.if-count-eq0.false in
    let last : suc (length terms - 1) ≡ length terms = omega arith in
    ends_before 0 (2 ^ 32) c.args.unknown terms (length terms - 1) (0, pos 0) c.requires last
    (ltb-true (get_or terms (length terms - 1) (0, pos 0)).0 c.args.unknown h)
