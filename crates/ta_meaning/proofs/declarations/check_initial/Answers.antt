use Rattle.ta_meaning.proofs.Common.{◌≡◌, not, List, sym, ap, ◌∙◌, TreeLocation, any_initial}
use Rattle.ta_meaning.proofs.Answering.{where-false, where-leads}
use Rattle.ta_meaning.proofs.Declared.{any_initial_is}
use Rattle.ta_meaning.proofs.declarations.check_initial.Goals as goal

pub returns-then-not-has_initial : goal.returns-then-not-has_initial
returns-then-not-has_initial c =
    let told : c.has_initial.result ≡ any_initial c.args.tree.now.locations = c.has_initial.ensures ∙ any_initial_is c.as_slice.result.now
    ∙ ap (λ (ls : List TreeLocation). any_initial ls) c.as_slice.ensures in
    where-leads _ _ (ap not (sym told ∙ c.if-not-has_initial.true))

pub returns : goal.returns
returns c =
    let told : c.has_initial.result ≡ any_initial c.args.tree.now.locations = c.has_initial.ensures ∙ any_initial_is c.as_slice.result.now
    ∙ ap (λ (ls : List TreeLocation). any_initial ls) c.as_slice.ensures in
    (where-false _ _ (ap not (sym told ∙ c.if-not-has_initial.false)), tt)
