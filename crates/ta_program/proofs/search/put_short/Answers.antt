use Rattle.ta_program.proofs.Common.{refl, concat, search_seen}
use Rattle.ta_program.proofs.SearchAnswers.{says_found, values_sized}
use Rattle.ta_program.proofs.search.put_short.Goals as goal

pub found_puts-requires : goal.found_puts-requires
found_puts-requires c = values_sized (search_seen c.args.asked.now) c.args.template.now c.args.last.values (concat c.args.last.pieces) c.args.text
    c.requires.found

pub returns-in-Ok-clause-says : goal.returns-in-Ok-clause-says
returns-in-Ok-clause-says c = λ files.
    says_found (search_seen c.args.asked.now) c.args.template.now c.args.last.values (concat c.args.last.pieces) c.args.text c.requires.found _ refl refl
    (rw c.from_vec.ensures c.in-Ok.ensures) c.requires.within files
