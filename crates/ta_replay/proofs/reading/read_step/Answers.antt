use Rattle.ta_replay.proofs.Common.{◌++◌, ◌∷◌, refl, ap, subst, sym, ◌∙◌, false≢true, err_is, IsStatement, Refused, Trailing}
use Rattle.ta_replay.proofs.reading.read_step.Goals as goal

pub returns-in_err-step-clause-fault : goal.returns-in_err-step-clause-fault
returns-in_err-step-clause-fault c = rw (err_is c.from_residual.result _ c.from_residual.ensures.1)
    (Refused c.in-Some.line.now c.in-Some.behind.now c.in-Some.ensures c.in_err-step.ensures.fault)

pub returns-in-None-2-clause-fault : goal.returns-in-None-2-clause-fault
returns-in-None-2-clause-fault c =
    let end = subst (IsStatement c.args.automaton.now c.args.pattern.now c.in-Some.line.now) c.in-None.is c.in_ok-step.ensures.read in
    Trailing c.in-Some.behind.now refl (c.in-Some.ensures.split ∙ ap (λ xs. xs ++ (10 ∷ c.in-Some.behind.now)) end)
    (λ e. false≢true (sym c.if-is_over.false ∙ c.is_over.ensures.1 e))
