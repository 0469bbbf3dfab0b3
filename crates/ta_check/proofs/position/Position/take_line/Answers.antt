use Rattle.ta_check.proofs.Common.{sym, subst, claiming_with, LineAnswers}
use Rattle.ta_check.proofs.position.Position.take_line.Goals as goal

pub returns-in-Header : goal.returns-in-Header
returns-in-Header c = λ limit at is. subst
    (λ l. LineAnswers (claiming_with c.args.claim c.args.file.now c.args.silent.now limit) at c.args.number l c.take_header.new.self c.take_header.result)
    (sym c.in-Header.is) (c.take_header.ensures.taken limit at is)

pub returns-in-Pattern : goal.returns-in-Pattern
returns-in-Pattern c = λ limit at is. subst
    (λ l. LineAnswers (claiming_with c.args.claim c.args.file.now c.args.silent.now limit) at c.args.number l c.begin.new.self c.begin.result)
    (sym c.in-Pattern.is)
    (c.begin.ensures limit at is)

pub returns-in-Tree : goal.returns-in-Tree
returns-in-Tree c = λ limit at is. subst
    (λ l. LineAnswers (claiming_with c.args.claim c.args.file.now c.args.silent.now limit) at c.args.number l c.take_tree.new.self c.take_tree.result)
    (sym c.in-Tree.is) (c.take_tree.ensures limit at is)

pub returns-in-End : goal.returns-in-End
returns-in-End c = λ limit at is.
    let subject = claiming_with c.args.claim c.args.file.now c.args.silent.now limit in
    subst (λ l. LineAnswers subject at c.args.number l c.args.self.now c.end.result) (sym c.in-End.is) (c.end.ensures.taken subject at is)
