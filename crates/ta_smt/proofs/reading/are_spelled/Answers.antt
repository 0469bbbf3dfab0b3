use Rattle.ta_smt.proofs.Common.{rules, tests, arith, is_some, YieldsList-from_str_split, element_of}
use Rattle.std.proofs.lemmas.Iterator.Search.{all_from_yields_List}
use Rattle.ta_smt.proofs.reading.are_spelled.Goals as goal

pub returns : goal.returns
returns c =
    all_from_yields_List (λ part. is_some (element_of part)) _ _ _ c.all.ensures.ran
    (YieldsList-from_str_split 44 c.args.text.now (omega arith) c.split.ensures.text c.split.ensures.has_more c.split.ensures.pattern)
    (λ x b q k. search (rules, tests))
