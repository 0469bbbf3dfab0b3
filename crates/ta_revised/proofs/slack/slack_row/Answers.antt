use Rattle.ta_revised.proofs.Common.{rules, to_z-of_z, SFits}
use Rattle.ta_revised.proofs.SlackFacts.{summed}
use mir.Syntax.{w128}
use Rattle.ta_revised.proofs.slack.slack_row.Goals as goal

pub returns-clause-value : goal.returns-clause-value
returns-clause-value c =
    let f : SFits w128 c.args.row.now.form.constant = search rules in
    let first = rw c.in-Some.is at c.in_ok-sum.ensures.value in
    let narrow = rw c.in-Some.is at c.in_ok-sum.ensures.narrow in
    let sum = rw c.as_slice-terms.ensures at (rw c.if-not-branch.false at c.in_ok-add_terms.ensures.value) in
    let wide = rw c.if-not-branch.false at c.in_ok-add_terms.ensures.narrow in
    (summed c.args.columns c.args.scale c.args.slack c.args.rows.now c.args.row.now c.in-Some.sum c.add_terms.new.sum c.reduce_narrow.new.row narrow
    (simp to_z-of_z at first) sum wide c.in_ok-reduce_narrow.ensures.value c.in_ok-reduce_narrow.ensures.bound).value

pub returns-clause-narrow : goal.returns-clause-narrow
returns-clause-narrow c =
    let f : SFits w128 c.args.row.now.form.constant = search rules in
    let first = rw c.in-Some.is at c.in_ok-sum.ensures.value in
    let narrow = rw c.in-Some.is at c.in_ok-sum.ensures.narrow in
    let sum = rw c.as_slice-terms.ensures at (rw c.if-not-branch.false at c.in_ok-add_terms.ensures.value) in
    let wide = rw c.if-not-branch.false at c.in_ok-add_terms.ensures.narrow in
    (summed c.args.columns c.args.scale c.args.slack c.args.rows.now c.args.row.now c.in-Some.sum c.add_terms.new.sum c.reduce_narrow.new.row narrow
    (simp to_z-of_z at first) sum wide c.in_ok-reduce_narrow.ensures.value c.in_ok-reduce_narrow.ensures.bound).narrow
