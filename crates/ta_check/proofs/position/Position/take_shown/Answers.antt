use Rattle.ta_check.proofs.Common.{subst, claiming_with, IsOrderFault}
use Rattle.ta_check.proofs.JudgingHeads.{shown_taken, waits_join}
use Rattle.ta_check.proofs.Leaves.{pairs_rise}
use Rattle.ta_check.proofs.position.Position.take_shown.Goals as goal

pub push-requires : goal.push-requires
push-requires c = pairs_rise 0 c.args.multipliers.now c.requires.form

pub returns-in-Ok : goal.returns-in-Ok
returns-in-Ok c = λ limit at is. shown_taken (claiming_with c.args.claim c.args.file.now c.args.silent.now limit) c.args.self.now at c.args.number c.args.pair.0
    c.args.pair.1 c.args.multipliers.now c.push.new.self c.requires.waits is c.in-Ok.ensures.joined

pub returns-in-Err-Pair : goal.returns-in-Err-Pair
returns-in-Err-Pair c = λ limit at is. absurd
    ((subst (IsOrderFault c.args.file.now.automaton c.args.self.now.orders c.args.pair c.args.multipliers.now) c.in-Err-Pair.field-0-is
    c.in-Err-Pair.ensures.fault) (waits_join (claiming_with c.args.claim c.args.file.now c.args.silent.now limit) c.args.self.now at c.args.pair.0 c.args.pair.1
    c.requires.waits is))
