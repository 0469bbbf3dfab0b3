use Rattle.ta_simplex.proofs.Common.{length, reverse}
use Rattle.ta_simplex.proofs.FullBranchLemmas.{standing_on}
use Rattle.ta_simplex.proofs.full_branch.FullBranch.solve.Goals as goal

pub stand-requires-clause-branch : goal.stand-requires-clause-branch
stand-requires-clause-branch g c κs within =
    standing_on g.D.Dictionary.tableau g.D.Dictionary.pivot_of c.args.system.now.rows (length c.args.system.now.rows) c.first_dictionary.new.self.kept.items
    c.resume.new.kept.items (reverse c.first_dictionary.new.self.systems.items) c.in_ok-end.ensures.goes_on c.in_ok-first.ensures.branch

pub returns-in-Refuted-clause-branch : goal.returns-in-Refuted-clause-branch
returns-in-Refuted-clause-branch g c =
    standing_on g.D.Dictionary.tableau g.D.Dictionary.pivot_of c.args.system.now.rows (length c.args.system.now.rows) c.first_dictionary.new.self.kept.items
    c.resume.new.kept.items (reverse c.first_dictionary.new.self.systems.items) c.in_ok-end.ensures.goes_on c.in_ok-first.ensures.branch
