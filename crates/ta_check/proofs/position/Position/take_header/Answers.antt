use Rattle.ta_check.proofs.Common.{sym, ◌∙◌, refl, false≢true, claiming_with}
use Rattle.ta_check.proofs.JudgingHeads.{header_taken}
use Rattle.ta_check.proofs.position.Position.take_header.Goals as goal

pub returns-then-not-may_open-clause-taken : goal.returns-then-not-may_open-clause-taken
returns-then-not-may_open-clause-taken c = λ limit at is. (refl, λ has. false≢true (sym c.if-not-may_open.true ∙ c.may_open.ensures.1 has))

pub returns-clause-taken : goal.returns-clause-taken
returns-clause-taken c = λ limit at is. header_taken (claiming_with c.args.claim c.args.file.now c.args.silent.now limit) c.args.self.now at c.args.number
    c.args.version
    (c.may_open.ensures.0 c.if-not-may_open.false) is
