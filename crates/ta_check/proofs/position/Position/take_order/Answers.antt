use Rattle.ta_check.proofs.Common.{inl, inr, refl, sym, ◌∙◌, false≢true, claiming_with}
use Rattle.ta_check.proofs.JudgingHeads.{idle_at, order_bad, order_taken}
use Rattle.ta_check.proofs.position.Position.take_order.Goals as goal

pub returns-then-not-takes_order-clause-taken : goal.returns-then-not-takes_order-clause-taken
returns-then-not-takes_order-clause-taken c = λ limit at is.
    let subject = claiming_with c.args.claim c.args.file.now c.args.silent.now limit in (
      refl,
      record {
        no_pair = λ takes. false≢true (sym c.if-not-takes_order.true ∙ (c.takes_order.ensures subject at is).1 takes);
        out = inr (inl (idle_at subject c.args.self.now at is c.requires.none c.requires.nowhere));
      },
    )

pub returns-then-not-takes-clause-taken : goal.returns-then-not-takes-clause-taken
returns-then-not-takes-clause-taken c = λ limit at is.
    order_bad (claiming_with c.args.claim c.args.file.now c.args.silent.now limit) c.args.self.now at c.args.number c.args.before c.args.after c.args.self.now
    is
    ((c.takes_order.ensures (claiming_with c.args.claim c.args.file.now c.args.silent.now limit) at is).0 c.if-not-takes_order.false)
    (λ may. false≢true (sym c.if-not-takes.true ∙ c.takes.ensures.1 may))

pub returns-clause-taken : goal.returns-clause-taken
returns-clause-taken c = λ limit at is.
    order_taken (claiming_with c.args.claim c.args.file.now c.args.silent.now limit) c.args.self.now at c.args.number c.args.before c.args.after is
    ((c.takes_order.ensures (claiming_with c.args.claim c.args.file.now c.args.silent.now limit) at is).0 c.if-not-takes_order.false)
    (c.takes.ensures.0 c.if-not-takes.false)
