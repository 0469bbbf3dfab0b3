use Rattle.ta_witness.proofs.Encoding.{encoding_rests, encoding_short, encoding_shows}
use Rattle.ta_witness.proofs.MakingRuns.{made_fits, made_run, same_stays}
use Rattle.ta_witness.proofs.running.moment_run.Goals as goal

pub replay-requires : goal.replay-requires
replay-requires c = made_fits c.args.scoped.now.file c.args.number c.args.node.now c.args.values.now c.in_ok-run.run' c.requires c.in_ok-run.ensures.made

pub returns-in-Ok-clause-run : goal.returns-in-Ok-clause-run
returns-in-Ok-clause-run c = made_run c.args.scoped.now.file c.args.number c.args.node.now c.args.values.now c.in_ok-run.run' c.in_ok-run.ensures.made

pub returns-in-Ok-clause-fits : goal.returns-in-Ok-clause-fits
returns-in-Ok-clause-fits c = made_fits c.args.scoped.now.file c.args.number c.args.node.now c.args.values.now c.in_ok-run.run' c.requires
    c.in_ok-run.ensures.made

pub returns-in-Ok-clause-short : goal.returns-in-Ok-clause-short
returns-in-Ok-clause-short c = encoding_short c.args.scoped.now.file c.args.scoped.now.in_scope c.args.number c.args.node.now c.args.values.now c.in_ok-run.run'
    (made_run c.args.scoped.now.file c.args.number c.args.node.now c.args.values.now c.in_ok-run.run' c.in_ok-run.ensures.made)

pub returns-in-Ok-clause-rests : goal.returns-in-Ok-clause-rests
returns-in-Ok-clause-rests c = encoding_rests c.args.scoped.now.file c.args.scoped.now.in_scope c.args.number c.args.node.now c.args.values.now c.in_ok-run.run'
    (made_run c.args.scoped.now.file c.args.number c.args.node.now c.args.values.now c.in_ok-run.run' c.in_ok-run.ensures.made)

pub returns-in-Err-Overflow-clause-fault : goal.returns-in-Err-Overflow-clause-fault
returns-in-Err-Overflow-clause-fault c =
    let file = c.args.scoped.now.file in
    let own = made_run file c.args.number c.args.node.now c.args.values.now c.in_ok-run.run' c.in_ok-run.ensures.made in
    let shows = encoding_shows file c.args.scoped.now.in_scope c.args.number c.args.node.now c.args.values.now c.in_ok-run.run' c.requires own in
    record {
      leaves = λ s r stays.
          let in_range = same_stays file c.args.number c.args.node.now c.args.values.now c.in_ok-run.run' s c.requires own r stays in
          let only = c.in-Err-Overflow.ensures.only shows in_range in
          let is = c.in-Err-Overflow.field-0-is in
          absurd (cc);
    }
