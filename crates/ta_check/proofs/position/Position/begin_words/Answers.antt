use Rattle.ta_check.proofs.Common.{Some, refl, Words, claiming_with}
use Rattle.ta_check.proofs.JudgingProofs.{begins, begins_none, empty_of, first_of, pattern_exists}
use Rattle.ta_check.proofs.position.Position.begin_words.Goals as goal

pub returns-in-Some : goal.returns-in-Some
returns-in-Some c = λ limit at is free.
    let s = c.args.self.now in
    let subject = claiming_with c.args.claim c.args.file.now c.args.silent.now limit in
    let found = pattern_exists subject c.args.pattern c.requires.exists in
    let new = record s { proved = c.push.new.self; current = Some c.args.pattern; words = c.in-Some.place; encoding = c.new.result } in
    begins Words subject s new at c.args.pattern found.0 c.requires.kind found.1 c.requires.fresh is free (record {
      same = record { version = refl; orders = refl; waiting = refl };
      proved = c.in_ok-push.ensures.items;
      current = refl;
      first = first_of Words subject s new found.0 _ (c.new-tree.ensures.search found.0 found.1) c.in-Some.ensures;
      kept = c.new.ensures c.args.file.now.automaton found.0;
    })

pub returns-in-None : goal.returns-in-None
returns-in-None c = λ limit at is free.
    let s = c.args.self.now in
    let subject = claiming_with c.args.claim c.args.file.now c.args.silent.now limit in
    let found = pattern_exists subject c.args.pattern c.requires.exists in
    let new = record s { proved = c.push.new.self } in
    begins_none Words subject s new at c.args.pattern found.0 c.requires.kind found.1 c.requires.fresh is free
    (record { version = refl; orders = refl; waiting = refl }) refl c.in_ok-push.ensures.items
    (empty_of Words subject s found.0 _ (c.new-tree.ensures.search found.0 found.1) c.in-None.ensures)
