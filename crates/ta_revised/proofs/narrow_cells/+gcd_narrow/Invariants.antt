use Rattle.ta_revised.proofs.narrow_cells.+gcd_narrow.Given as goal

abbrev pub decreases-gcd_narrow : goal.decreases-gcd_narrow
decreases-gcd_narrow l = l.b
