use Rattle.ta_syntax.proofs.Common.{◌≡◌, sym, ◌∙◌, rules, tests, bytes_eq, mark_bytes, KEYWORDS}
use Rattle.std.proofs.lemmas.Iterator.{YieldsList-from_slice}
use Rattle.std.proofs.lemmas.Iterator.Adapters.{option_map_id}
use Rattle.std.proofs.lemmas.Iterator.Consumers.{YieldsList-from_copied}
use Rattle.std.proofs.lemmas.Iterator.Search.{find_from_yields_List}
use Rattle.ta_syntax.proofs.UniqueTokens.{keyword_of, keyword_is}
use Rattle.ta_syntax.proofs.marks.keyword.Goals as goal

pub returns : goal.returns
returns c =
    let found : c.find.result ≡ keyword_of c.args.word.now = sym (option_map_id c.find.result)
    ∙ find_from_yields_List (λ m. bytes_eq (mark_bytes m) c.args.word.now) _ _ c.find.result c.find.ensures.ran
    (YieldsList-from_copied (YieldsList-from_slice KEYWORDS cc)) (λ x b q k. search (rules, tests)) in
    rw found (keyword_is c.args.word.now c.requires)
