use Rattle.ta_automaton.proofs.Narrows.{narrow_within}
use Rattle.ta_automaton.specs.Narrow.{IsWithin}
use Rattle.ta_base.specs.declared.limits.Limits.{Limits}
use Rattle.std.specs.List.{concat}
use Rattle.ta_search.proofs.Common.{◌≤◌, List, length, refl, subst, sym, slice_get_past, slice_get_read, Verdict, Certificate, CertificateOf, safe_numbers}
use Rattle.ta_search.proofs.Common.{AreVerdicts, IsSafe}
use borrow.Author.Tests.{ltb-false}
use Rattle.ta_search.proofs.Outcoming.{numbered, other_at, pattern_holds, safe_holds}
use Rattle.ta_search.proofs.vector.patterns_outcome.Goals as goal

pub judge_file-requires-clause-narrow : goal.judge_file-requires-clause-narrow
judge_file-requires-clause-narrow g c = λ given lives plain.
    let a = c.args.scoped.now.file.automaton in
    narrow_within a (subst (λ (l : Limits). IsWithin l a) (c.requires.narrow plain) c.requires.within)

pub pattern_outcome-requires-clause-exists : goal.pattern_outcome-requires-clause-exists
pattern_outcome-requires-clause-exists g c =
    let vs = c.as_slice-verdicts.result.now in
    let v = c.in-Some.verdict.now in
    let found = c.in-Some.ensures.lookup in
    let are = subst (AreVerdicts c.args.scoped.now.file c.args.terms.budget) (sym c.as_slice-verdicts.ensures) c.in_ok-judged.ensures.verdicts in
    numbered c.args.scoped.now.file c.args.terms vs v c.safe_before-place.result are
    (slice_get_read vs (length vs) c.safe_before-place.result v refl found.3.0 found.1)

pub pattern_outcome-requires-clause-other : goal.pattern_outcome-requires-clause-other
pattern_outcome-requires-clause-other g c =
    let vs = c.as_slice-verdicts.result.now in
    let v = c.in-Some.verdict.now in
    let found = c.in-Some.ensures.lookup in
    other_at vs v c.safe_before-place.result c.safe_before-place.ensures (slice_get_read vs (length vs) c.safe_before-place.result v refl found.3.0 found.1)

pub returns-in-Some : goal.returns-in-Some
returns-in-Some g c = λ bytes values sampled.
    let vs = c.as_slice-verdicts.result.now in
    let v = c.in-Some.verdict.now in
    let found = c.in-Some.ensures.lookup in
    let are = subst (AreVerdicts c.args.scoped.now.file c.args.terms.budget) (sym c.as_slice-verdicts.ensures) c.in_ok-judged.ensures.verdicts in
    pattern_holds bytes c.args.terms c.args.scoped.now.file vs v c.safe_before-place.result values c.pattern_outcome.result sampled are
    c.safe_before-place.ensures (slice_get_read vs (length vs) c.safe_before-place.result v refl found.3.0 found.1) c.pattern_outcome.ensures

pub returns-in-None : goal.returns-in-None
returns-in-None g c = λ bytes values sampled.
    let file = c.args.scoped.now.file in
    let terms = c.args.terms in
    let vs = c.as_slice-verdicts.result.now in
    let place = c.safe_before-place.result in
    let past : length vs ≤ place = ltb-false place (length vs) (sym c.in-None.ensures.lookup.0) in
    let ensures = c.in_ok-judged.ensures in
    let text = concat c.in_ok-judged.judged.certificate in
    let are = subst (AreVerdicts file terms.budget) (sym c.as_slice-verdicts.ensures) ensures.verdicts in
    let certificate = subst (λ (ws : List Verdict). CertificateOf file terms.budget ws text) (sym c.as_slice-verdicts.ensures) (ensures.certificate refl) in
    let accepted = subst (λ (ws : List Verdict). Certificate file terms.limits.line_bytes text (safe_numbers file ws)) (sym c.as_slice-verdicts.ensures)
    (ensures.accepted terms.limits c.requires.within refl) in
    subst (IsSafe bytes terms) (sym c.from_pieces.ensures)
    (safe_holds bytes terms file vs place values text sampled are c.safe_before-place.ensures (slice_get_past vs place past) certificate accepted)
