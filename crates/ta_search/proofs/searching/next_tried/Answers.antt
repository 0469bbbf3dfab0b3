use Rattle.ta_search.proofs.searching.next_tried.Goals as goal

pub returns-in-Some-clause-tried : goal.returns-in-Some-clause-tried
returns-in-Some-clause-tried g c = c.in-Some.ensures.is c.args.template.now c.args.terms c.requires.at_hand

pub returns-in-Some-clause-at_hand : goal.returns-in-Some-clause-at_hand
returns-in-Some-clause-at_hand g c = c.take.ensures.left c.args.template.now c.args.terms c.requires.at_hand

pub returns-in-None-clause-at_hand : goal.returns-in-None-clause-at_hand
returns-in-None-clause-at_hand g c = c.take.ensures.left c.args.template.now c.args.terms c.requires.at_hand
