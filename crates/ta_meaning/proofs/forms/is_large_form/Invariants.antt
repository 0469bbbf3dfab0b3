use Rattle.ta_meaning.proofs.Common.{◌≡◌, drop, any_large_term}
use Rattle.ta_meaning.proofs.forms.is_large_form.Given as goal

abbrev pub invariant-terms : goal.invariant-terms
invariant-terms l = any_large_term l.coefficient-items ≡ any_large_term (drop l.coefficient-index l.coefficient-items)
