use Rattle.ta_program.proofs.Common.{◌∙◌, List, ℕ, sym, ap, subst, slice_get, Pattern, Verdict, IsCertified, concat}
use Rattle.ta_program.proofs.Benching.{says_ok}
use Rattle.ta_program.proofs.bench.answer_judged.Goals as goal

pub accept-requires : goal.accept-requires
accept-requires c =
    subst (λ (ts : List (List ℕ)). IsCertified c.args.scoped.now.file (concat ts)) (sym c.as_slice.ensures) (_, c.requires.accepted)

pub returns : goal.returns
returns c =
    let judged = c.args.judged.now in
    let named = ap (λ (ps : List Pattern). slice_get ps 0) (sym c.as_slice-2.ensures) ∙ sym c.in-Some.ensures.value in
    let given = ap (λ (vs : List Verdict). slice_get vs 0) (sym c.as_slice-3.ensures) ∙ sym c.in-Some-first.ensures.value in
    says_ok c.args.k c.args.scoped.now.file c.requires.legal c.requires.safe judged.verdicts c.requires.verdicts (concat judged.certificate)
    c.requires.certificate c.requires.accepted
    c.in-Some.pattern.now c.in-Some-first.verdict.now named given c.answer_text.result c.answer_text.ensures
