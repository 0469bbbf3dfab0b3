use Rattle.ta_links.proofs.Common.{◌∙◌, sym, inl, inr, rules, SFits, w128, zero_from_bits}
use Rattle.ta_links.proofs.AllMerging.{step_none, step_merged, not_spared_by}
use Rattle.ta_links.proofs.merging_all.merge_one.Goals as goal

pub returns-then-at-first-clause-done : goal.returns-then-at-first-clause-done
returns-then-at-first-clause-done c e =
    step_none c.args.first c.args.columns c.args.row c.args.at c.args.column c.args.heads.now.items c.args.links.now c.requires.sound c.requires.proper
    c.requires.column (inl (inl c.if-at-first.true))

pub returns-then-at-row-clause-done : goal.returns-then-at-row-clause-done
returns-then-at-row-clause-done c e =
    step_none c.args.first c.args.columns c.args.row c.args.at c.args.column c.args.heads.now.items c.args.links.now c.requires.sound c.requires.proper
    c.requires.column (inl (inr c.if-at-row.true))

pub returns-then-number-eq0-clause-done : goal.returns-then-number-eq0-clause-done
returns-then-number-eq0-clause-done c e =
    let f : SFits w128 c.number.result = search rules in
    step_none c.args.first c.args.columns c.args.row c.args.at c.args.column c.args.heads.now.items c.args.links.now c.requires.sound c.requires.proper
    c.requires.column (inr (sym c.number.ensures.value ∙ zero_from_bits c.number.result f c.if-number-eq0.true))

pub returns-clause-done : goal.returns-clause-done
returns-clause-done c e = step_merged c.args.first c.args.columns c.args.row c.args.at c.args.column c.args.heads.now.items c.merge_row.new.heads.items
    c.args.links.now c.merge_row.new.links (not_spared_by c.args.first c.args.row c.args.at c.if-at-first.false c.if-at-row.false)
    (c.in_ok-merged.ensures.done e)

pub returns-clause-refused : goal.returns-clause-refused
returns-clause-refused c e = record
    { apart = not_spared_by c.args.first c.args.row c.args.at c.if-at-first.false c.if-at-row.false; refused = c.in_ok-merged.ensures.refused e }
