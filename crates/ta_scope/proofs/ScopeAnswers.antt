-- An automaton is in scope, or has a first rule that puts it out of scope.
use Rattle.ta_scope.proofs.Common.{◌≡◌, ℕ, zero, suc, ◌+◌, ◌<◌, ◌≤◌, length, slice_get, Some, ⊎_elim, subst, arith, cases_lt, slice_get_within, InScope, Rule}
use Rattle.ta_scope.proofs.Common.{Automaton, AtFault, FirstRuleFault}
use Rattle.ta_syntax.specs.AnswerLaws.{Either}

module _ (a : Automaton) where
  -- no rule below k is in error
  abbrev NoneBelow : ℕ → Type 0
  NoneBelow k = (q : ℕ) (earlier : Rule) → q < k → slice_get a.rules q ≡ Some earlier → ¬ AtFault a earlier

  abbrev Found : Type 0
  Found = (number : ℕ) × FirstRuleFault a number

  one_more : (k : ℕ) → NoneBelow k → ¬ Found → NoneBelow (k + 1)
  one_more k none nowhere q rule low named at_fault =
      ⊎_elim
      (λ (h : q < k). none q rule h named at_fault)
      (λ (h : k ≤ q). let here : q ≡ k = omega arith in nowhere
      (k, record { rule = rule; named = subst (λ i. slice_get a.rules i ≡ Some rule) here named; at_fault = at_fault; first = none }))
      (cases_lt q k)

  search_from : (left k : ℕ) → k + left ≡ length a.rules → NoneBelow k → Either (InScope a) Found
  search_from zero k whole none no_scope nowhere = no_scope
      (λ r rule named updates walk back. none r rule (let low = slice_get_within a.rules r rule named in omega arith) named
      (record { updates = updates; walk = walk; back = back }))
  search_from (suc left) k whole none no_scope nowhere = search_from left (k + 1) (omega arith) (one_more k none nowhere) no_scope nowhere

  pub scope_answers : Either (InScope a) Found
  scope_answers = search_from (length a.rules) 0 (omega arith) (λ q earlier low. absurd (omega arith))
