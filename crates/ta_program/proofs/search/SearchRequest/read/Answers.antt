use Rattle.ta_program.proofs.Common.{map, LegalTemplate, search_meaning, search_seen, search_words}
use Rattle.ta_program.proofs.Meanings.{asked_where}
use Rattle.ta_program.proofs.SearchMeanings.{search_decides, search_passes}
use Rattle.ta_program.proofs.search.SearchRequest.read.Goals as goal

pub returns : goal.returns
returns c =
    asked_where search_seen LegalTemplate search_meaning (search_decides c.searches_are_determined.ensures) search_passes
    c.read_search.result (search_words (map (λ w. w.now) c.args.words.now)) c.read_search.ensures
