use Rattle.ta_witness.proofs.RestCommon.{◌≡◌, ◌++◌, ◌∙◌, List, ap, subst, sym, option_to_list, AllByRecursion, each_front, RunLine, LineFits}
use Rattle.ta_witness.proofs.rest_witnessing.without_last.Goals as goal

pub returns-clause-fits : goal.returns-clause-fits
returns-clause-fits c = λ file fits.
    let last = option_to_list c.pop.result in
    let whole : c.args.run.lines ≡ c.from_vec.result ++ last = sym c.into_vec-lines.ensures ∙ c.pop.ensures.items
    ∙ ap (λ (xs : List RunLine). xs ++ last) (sym c.from_vec.ensures) in
    record {
      pattern = fits.pattern;
      named = fits.named;
      parameters = fits.parameters;
      parameters_natural = fits.parameters_natural;
      counts = fits.counts;
      counts_natural = fits.counts_natural;
      lines = each_front (LineFits file.automaton fits.pattern) c.from_vec.result last
          (subst (AllByRecursion (LineFits file.automaton fits.pattern)) whole fits.lines);
    }
