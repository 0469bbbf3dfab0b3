use Rattle.ta_program.proofs.Common.{ℕ, List, ◌++◌, ◌∙◌, ap, map, pair_of, refl}
use Rattle.ta_report.specs.Show.{show_text}
use Rattle.ta_report.specs.Unknowns.{unknowns_text}
use Rattle.ta_program.proofs.show.file_text.Goals as goal

pub returns : goal.returns
returns c =
    let file = c.args.scoped.now.file in
    let orders = c.in_ok-found.found.list in
    let pairs = c.in_ok-pairs.ensures ∙ ap (map pair_of) c.as_slice.ensures in
    record {
      text = show_text file (map pair_of orders);
      is = record { orders = orders; found = c.in_ok-found.ensures.found; shown = refl };
      whole = c.in_ok-text.ensures ∙ ap (λ (ps : List (ℕ × ℕ)). show_text file ps ++ unknowns_text file) pairs;
    }
