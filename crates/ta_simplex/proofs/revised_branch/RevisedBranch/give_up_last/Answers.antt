use Rattle.ta_simplex.proofs.Common.{length, reverse}
use Rattle.ta_simplex.proofs.RevisedBranchLemmas.{revised_pop, revised_shared, short_shared}
use Rattle.ta_simplex.proofs.revised_branch.RevisedBranch.give_up_last.Goals as goal

pub loop-self-preserved-in-loop-self : goal.loop-self-preserved-in-loop-self
loop-self-preserved-in-loop-self c =
    let inv = c.loop-self.invariant in
    record {
      before = inv.before;
      branch = record {
        systems = revised_pop inv.before (length inv.before) c.loop-self.self.systems.items c.pop-given_up.new.self.items c.pop-given_up.result
            c.pop-given_up.ensures.items inv.branch.systems;
        short = inv.branch.short;
      };
      within = inv.within;
      rows_are = inv.rows_are;
    }

pub returns-clause-branch : goal.returns-clause-branch
returns-clause-branch c =
    let inv = c.loop-self.invariant in
    record {
      systems = revised_shared inv.before c.args.system.now.rows c.args.system.now.unknowns c.args.same (reverse c.loop-self.self.systems.items) inv.rows_are
          inv.within c.loop-self-test.ensures.fits inv.branch.systems;
      short = short_shared c.loop-self.self.short c.cut.new.self inv.before c.args.system.now.rows c.args.same inv.rows_are inv.branch.short c.cut.ensures;
    }
