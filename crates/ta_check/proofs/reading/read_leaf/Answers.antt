use Rattle.ta_check.proofs.Common.{Cursor, IsJudged, here, here_at, subst}
use Rattle.ta_check.proofs.reading.read_leaf.Goals as goal

pub returns-clause-taken : goal.returns-clause-taken
returns-clause-taken g c =
    let search = g.T.Tree.search c.args.tree.now in
    let place = c.args.place.now in
    record {
      may = subst (λ (d : Cursor _). IsJudged search (here d) c.args.multipliers.now) c.cursor.ensures c.in_ok-judge_leaf.ensures.taken;
      goes = λ words within. c.in_ok-more.ensures (here_at place) words within;
    }
