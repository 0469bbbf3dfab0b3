use Rattle.ta_simplex.proofs.Common.{map, length, reverse}
use Rattle.ta_simplex.proofs.FullBranchLemmas.{standing_pop, standing_shared}
use Rattle.ta_simplex.proofs.full_branch.FullBranch.give_up_last.Goals as goal

pub loop-self-preserved-in-loop-self : goal.loop-self-preserved-in-loop-self
loop-self-preserved-in-loop-self g c =
    let inv = c.loop-self.invariant in
    record {
      before = inv.before;
      branch = standing_pop g.D.Dictionary.tableau (map g.D.Dictionary.pivot_of c.loop-self.self.kept.items) inv.before (length c.loop-self.self.kept.items)
          (length inv.before) c.loop-self.self.systems.items c.pop-given_up.new.self.items c.pop-given_up.result c.pop-given_up.ensures.items inv.branch;
      within = inv.within;
      rows_are = inv.rows_are;
    }

pub returns-clause-branch : goal.returns-clause-branch
returns-clause-branch g c =
    let inv = c.loop-self.invariant in
    standing_shared g.D.Dictionary.tableau (map g.D.Dictionary.pivot_of c.loop-self.self.kept.items) inv.before c.args.system.now.rows
    (length c.loop-self.self.kept.items) c.args.system.now.unknowns c.args.same (reverse c.loop-self.self.systems.items) inv.rows_are inv.within
    c.loop-self-test.ensures.fits inv.branch
