use Rattle.ta_links.specs.Extending.{AllCarried}
use Rattle.ta_links.proofs.extending.carry_rows.Given as goal

abbrev pub invariant-loop-pivot : goal.invariant-loop-pivot
invariant-loop-pivot l = AllCarried l.columns l.first l.count l.kept l.pivot l.fn.heads.items l.fn.links l.heads.items l.links
