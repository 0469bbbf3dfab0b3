use Rattle.ta_moments.proofs.Common.{arith, YieldsList-from_str_split}
use Rattle.std.proofs.Common.{rules, tests, is_some}
use Rattle.std.proofs.lemmas.Iterator.Search.{find_from_yields_List}
use Rattle.ta_moments.specs.Silent.{fault_of_name}
use Rattle.ta_moments.proofs.naming.first_refused.Goals as goal

pub returns : goal.returns
returns c =
    find_from_yields_List (λ name. is_some (fault_of_name c.args.automaton.now name)) _ _ _ c.find.ensures.ran
    (YieldsList-from_str_split 44 c.args.text.now (omega arith) c.split.ensures.text c.split.ensures.has_more c.split.ensures.pattern)
    (λ x b q k. search (rules, tests))
