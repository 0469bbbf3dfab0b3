use Rattle.ta_program.proofs.search.answer_found.Goals as goal

pub put_last-requires : goal.put_last-requires
put_last-requires c = record { end = c.args.end; ends = c.requires; gives = c.in-Some.ensures }
