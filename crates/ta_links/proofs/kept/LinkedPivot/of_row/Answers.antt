use Rattle.ta_links.proofs.Common.{sym, subst, rules, arith, List, ℕ, ℤ, ◌≤◌, ◌^◌, to_z-of_z, SFits, w128, IsNormal, IsNormal-higher}
use Rattle.ta_links.proofs.kept.LinkedPivot.of_row.Goals as goal

pub invariant_of-result : goal.invariant_of-result
invariant_of-result c =
    let f : SFits w128 c.args.head.constant = search rules in
    let wide : c.args.columns ≤ 2 ^ 32 = let b = c.ranges.columns.fits in omega arith in
    record {
      constant_fits = simp to_z-of_z c.requires.head.constant;
      normal = subst (λ (ts : List (ℕ × ℤ)). IsNormal 0 (2 ^ 32) ts) (sym c.from_vec.ensures)
          (IsNormal-higher 0 c.args.columns (2 ^ 32) c.args.list.items wide c.requires.list);
    }
