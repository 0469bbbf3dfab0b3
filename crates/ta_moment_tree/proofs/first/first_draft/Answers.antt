use Rattle.ta_moment_tree.proofs.Common.{◌∙◌, ◌++◌, length, range_with_len, ap, flat_map, rows_of_after, rows_of_end, rows_of_event, vector_of}
use Rattle.ta_moment_tree.proofs.Adding.{adds_forms}
use Rattle.ta_moment_tree.proofs.Beginning.{first_known, moments_count}
use Rattle.ta_moment_tree.proofs.first.first_draft.Goals as goal

pub unknown_count-unknowns-requires-clause-moments : goal.unknown_count-unknowns-requires-clause-moments
unknown_count-unknowns-requires-clause-moments c = ap length c.as_slice-2.ensures.value
    ∙ moments_count _ _ (length c.args.plan.now.task.pattern.now.events) c.in_ok-moments.ensures

pub push_after_start-requires-clause-end : goal.push_after_start-requires-clause-end
push_after_start-requires-clause-end c = ap vector_of c.as_slice.ensures.value ∙ c.in_ok-end.ensures.value

pub returns : goal.returns
returns c silent =
    let a = c.args.plan.now.task.automaton.now in
    let p = c.args.plan.now.task.pattern.now in
    let all = range_with_len 0 (length p.events) in
    let more = flat_map (rows_of_event a p) all ++ (flat_map (rows_of_after a p) all ++ rows_of_end a p c.args.candidate) in
    record {
      known = first_known a p silent c.args.candidate _ _ _ c.unknown_count-unknowns.ensures.value c.in_ok-moments.ensures
          (adds_forms _ _ _ c.in_ok-push_after_start.ensures ∙ ap (λ fs. fs ++ more) c.requires.rows);
      end = c.in_ok-end.ensures.value;
      short = c.in_ok-end.ensures.short;
    }
