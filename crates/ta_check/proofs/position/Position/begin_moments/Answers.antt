use Rattle.ta_check.proofs.Common.{Some, refl, Moments, claiming_with}
use Rattle.ta_check.proofs.JudgingProofs.{begins, begins_none, empty_of, first_of, pattern_exists}
use Rattle.ta_check.proofs.position.Position.begin_moments.Goals as goal

pub returns-in-Some : goal.returns-in-Some
returns-in-Some c = λ limit at is free.
    let s = c.args.self.now in
    let subject = claiming_with c.args.claim c.args.file.now c.args.silent.now limit in
    let found = pattern_exists subject c.args.pattern c.requires.exists in
    let new = record s { proved = c.push.new.self; current = Some c.args.pattern; moments = c.in-Some.place; kept = c.nothing.result } in
    begins Moments subject s new at c.args.pattern found.0 c.requires.kind found.1 c.requires.fresh is free (record {
      same = record { version = refl; orders = refl; waiting = refl };
      proved = c.in_ok-push.ensures.items;
      current = refl;
      first = first_of Moments subject s new found.0 _ (c.moment_tree-tree.ensures.search found.0 found.1) c.in-Some.ensures;
      kept = (c.moment_tree-tree.ensures.kept found.0 found.1 c.nothing.result).0 c.nothing.ensures;
    })

pub returns-in-None : goal.returns-in-None
returns-in-None c = λ limit at is free.
    let s = c.args.self.now in
    let subject = claiming_with c.args.claim c.args.file.now c.args.silent.now limit in
    let found = pattern_exists subject c.args.pattern c.requires.exists in
    let new = record s { proved = c.push.new.self } in
    begins_none Moments subject s new at c.args.pattern found.0 c.requires.kind found.1 c.requires.fresh is free
    (record { version = refl; orders = refl; waiting = refl }) refl c.in_ok-push.ensures.items
    (empty_of Moments subject s found.0 _ (c.moment_tree-tree.ensures.search found.0 found.1) c.in-None.ensures)
