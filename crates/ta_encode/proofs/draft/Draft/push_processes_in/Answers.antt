use Rattle.ta_encode.proofs.Common.{w128, to_z, of_z, [], ◌∷◌, true, ap, ◌∙◌, sym, subst, to_z_range, SmallTerms, line_row, in_sense, Plain}
use Rattle.ta_encode.proofs.Adding.{adds_alike}
use Rattle.ta_encode.proofs.Smallness.{processes_small}
use Rattle.ta_encode.proofs.draft.Draft.push_processes_in.Goals as goal

pub push_line-requires-clause-terms : goal.push_line-requires-clause-terms
push_line-requires-clause-terms c = subst SmallTerms (sym c.as_slice.ensures) (processes_small c.args.self.now.automaton.now).terms

pub returns : goal.returns
returns c =
    let a = c.args.self.now.automaton.now in
    let ms = c.args.self.now.meanings.items in
    adds_alike
    (ap (λ ts. in_sense c.args.sense (line_row a ms ts true Plain (to_z w128 (of_z w128 a.processes.constant))) ∷ []) c.as_slice.ensures
    ∙ ap (λ z. in_sense c.args.sense (line_row a ms a.processes.terms true Plain z) ∷ []) (to_z_range a.processes.constant a.processes.constant_fits))
    c.in_ok-push_line.ensures
