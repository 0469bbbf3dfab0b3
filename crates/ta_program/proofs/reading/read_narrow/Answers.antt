use Rattle.ta_program.proofs.reading.read_narrow.Goals as goal

pub returns-clause-stage : goal.returns-clause-stage
returns-clause-stage g c = c.read_legal.ensures.stage
