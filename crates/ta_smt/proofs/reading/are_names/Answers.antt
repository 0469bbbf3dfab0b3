use Rattle.ta_smt.proofs.Common.{rules, tests, arith, YieldsList-from_str_split}
use Rattle.ta_smt.specs.WordText.{is_name}
use Rattle.std.proofs.lemmas.Iterator.Search.{all_from_yields_List}
use Rattle.ta_smt.proofs.reading.are_names.Goals as goal

pub returns : goal.returns
returns c =
    all_from_yields_List is_name _ _ _ c.all.ensures.ran
    (YieldsList-from_str_split 44 c.args.text.now (omega arith) c.split.ensures.text c.split.ensures.has_more c.split.ensures.pattern)
    (λ x b q k. search (rules, tests))
