use Rattle.ta_program.proofs.Common.{concat, search_seen}
use Rattle.ta_program.proofs.SearchAnswers.{says_long}
use Rattle.ta_program.proofs.search.put_last.Goals as goal

pub returns-in-Some-clause-says : goal.returns-in-Some-clause-says
returns-in-Some-clause-says c = λ files.
    says_long (search_seen c.args.asked.now) c.args.template.now c.args.last.values (concat c.args.last.pieces) c.args.text c.requires c.in-Some.name.now
    c.in-Some.ensures.0 (rw c.as_slice.ensures at c.in-Some.ensures.1) c.long_certificate.result c.long_certificate.ensures files
