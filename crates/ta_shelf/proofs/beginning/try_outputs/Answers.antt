use Rattle.ta_shelf.proofs.ShellCommon.{◌++◌, AreStaging, Contains-append_left, Contains-append_right, each_append, may_put, option_map}
use Rattle.ta_shelf.proofs.OutputCalls.{begin_within, changed_both, changed_weaker, staging_within}
use Rattle.ta_shelf.proofs.beginning.try_outputs.Goals as goal

pub returns-in-Ok-clause-refuses : goal.returns-in-Ok-clause-refuses
returns-in-Ok-clause-refuses g c =
    let first = may_put (option_map (λ w. w.now) c.args.outputs.now.first) in
    begin_within (may_put (option_map (λ w. w.now) c.args.outputs.now.second)) _ c.try_given.result
    (λ name among. Contains-append_right first _ name among) c.try_given.ensures.refuses

pub returns-in-Err-clause-refuses : goal.returns-in-Err-clause-refuses
returns-in-Err-clause-refuses g c =
    let second = may_put (option_map (λ w. w.now) c.args.outputs.now.second) in
    begin_within (may_put (option_map (λ w. w.now) c.args.outputs.now.first)) _ c.try_given-first.result
    (λ name among. Contains-append_left _ second name among) c.try_given-first.ensures.refuses

pub returns-in-Ok-clause-log : goal.returns-in-Ok-clause-log
returns-in-Ok-clause-log g c =
    let first = may_put (option_map (λ w. w.now) c.args.outputs.now.first) in
    let second = may_put (option_map (λ w. w.now) c.args.outputs.now.second) in
    changed_both (AreStaging first) (AreStaging second) (AreStaging (first ++ second)) _ _ _ c.in-Ok.ensures.log c.try_given.ensures.log
    (λ one other are are'. each_append _ one other (staging_within first (first ++ second) one (λ name among. Contains-append_left first second name among) are)
    (staging_within second (first ++ second) other (λ name among. Contains-append_right first second name among) are'))

pub returns-in-Err-clause-log : goal.returns-in-Err-clause-log
returns-in-Err-clause-log g c =
    let first = may_put (option_map (λ w. w.now) c.args.outputs.now.first) in
    let second = may_put (option_map (λ w. w.now) c.args.outputs.now.second) in
    changed_weaker (AreStaging first) (AreStaging (first ++ second)) _ _ c.in-Err.ensures.log
    (λ calls are. staging_within first (first ++ second) calls (λ name among. Contains-append_left first second name among) are)
