use Rattle.ta_encode.proofs.Common.{◌≡◌, arith, ap, sym, subst, ◌∙◌, List, [], ◌∷◌, ◌++◌, length, pos, ℤ, inl, inr, ℕ, cases_lt, get_or_append_left}
use Rattle.ta_encode.proofs.Common.{get_or_push, to_z_range, InRange, Count, line_coefficient, AreOfRules, length-append, All-push}
use Rattle.ta_encode.proofs.line.coefficients_of_rules.Goals as goal

pub loop-rule-preserved : goal.loop-rule-preserved
loop-rule-preserved c =
    let a = c.args.automaton.now in
    let ts = c.args.line.now.terms.now in
    let f = λ (r : ℕ). line_coefficient a ts c.args.line.now.less_starts c.args.line.now.sense (Count 0 r) in
    let zs = c.loop-rule.coefficients.items in
    let z = c.line_coefficient-coefficient.result in
    let told = c.line_coefficient-coefficient.ensures in
    let before = c.loop-rule.invariant.of_rules in
    let count = c.loop-rule.invariant.count in
    let items : c.push.new.self.items ≡ zs ++ z ∷ [] = c.in_ok-push.ensures.items ∙ ap (λ (y : ℤ). zs ++ y ∷ []) (to_z_range z told.fits) in
    let all : AreOfRules a ts c.args.line.now.less_starts c.args.line.now.sense (zs ++ z ∷ []) = record {
      value = λ r b. (let l = length-append zs (z ∷ []) in elim (cases_lt r (length zs)) [
        | inl below ↦ get_or_append_left zs (z ∷ []) (pos 0) r below ∙ before.value r below
        | inr last ↦ (let here : r ≡ c.loop-rule.rule = omega arith in get_or_push zs z (pos 0) r (omega arith) ∙ told.value ∙ ap f (sym here))
      ]);
      fits = All-push InRange zs z before.fits told.fits;
    } in
    let l = length-append zs (z ∷ []) in
    let long = ap (λ (xs : List ℤ). length xs) items in
    record {
      of_rules = subst (AreOfRules a ts c.args.line.now.less_starts c.args.line.now.sense) (sym items) all;
      count = omega arith;
    }
