-- rules that put an automaton out of scope
use Rattle.ta_scope.proofs.Common.{◌≡◌, ◌≢◌, inl, inr, ℕ, ℤ, pos, ◌≤ℤ◌, List, [], ◌∷◌, length, arith, refl, sym, slice_get, get_or, Some, IsBitSet, ◌↔◌, ints}
use Rattle.ta_scope.proofs.Common.{eqb_tells, AllByRecursion, zero_or_more, Rule, Automaton, InScope, LoopsPure, rule_within, natural_terms, updates_natural}
use Rattle.ta_scope.proofs.Common.{to_within, every_rule, IsReachTable, AtFault}
use Rattle.ta_linear.specs.Terms.{coefficient}
use Rattle.ta_automaton.specs.Shape.{Update}
use Rattle.ta_scope.proofs.Reaching.{every_walk}

-- where no rule is in error, the automaton is in scope
pub in_scope : (a : Automaton) → ((r : ℕ) (rule : Rule) → slice_get a.rules r ≡ Some rule → ¬ AtFault a rule) → InScope a
in_scope a none r rule named updates walk back = none r rule named (record { updates = updates; walk = walk; back = back })

-- an automaton with a rule in error is out of scope
pub fault_out : (a : Automaton) (r : ℕ) (rule : Rule) → slice_get a.rules r ≡ Some rule → AtFault a rule → ¬ InScope a
fault_out a r rule named f scope = scope r rule named f.updates f.walk f.back

-- in scope, a self-loop has no update
pub loops_pure : (a : Automaton) → InScope a → LoopsPure a
loops_pure a scope r rule named loop x = elim (zero_or_more (coefficient rule.updates x) (updates_natural a r rule named x)) [
  | inl e ↦ e
  | inr some ↦ absurd (scope r rule named (x, some) [] (sym loop))
]

no_update : (ts : List (ℕ × ℤ)) (x : ℕ) → ts ≡ [] → coefficient ts x ≡ pos 0
no_update [] x e = refl
no_update (t ∷ ts) x e = absurd (cc)

-- a first update adds something to its variable
first_update : (shared : ℕ) (ts : List (ℕ × ℤ)) → AllByRecursion (Update shared) ts → ts ≢ [] → (x : ℕ) × (pos 1 ≤ℤ coefficient ts x)
first_update shared [] h some = absurd (some refl)
first_update shared (t ∷ ts) h some =
    let least = (h.0).least in
    let rest = natural_terms shared ts t.0 h.1 in
    (t.0, elim (eqb_tells t.0 t.0) [ inl e ↦ rw e.0 (omega (arith, ints)) | inr ne ↦ absurd (ne.1 refl) ])

-- a rule is in error exactly where it has updates and the table of all rules leads from its target back to its source
pub fault_exactly : (a : Automaton) (table : List ℕ) (r : ℕ) (rule : Rule) → IsReachTable a every_rule table → slice_get a.rules r ≡ Some rule
    → ((rule.updates ≢ []) × IsBitSet (get_or table rule.to 0) rule.from) ↔ AtFault a rule
fault_exactly a table r rule leads named =
    let exact = leads.exact rule.to rule.from (to_within a r rule named) in (
      λ (updates, back). let walk = exact.0 back in record {
        updates = first_update (length a.shared) rule.updates (rule_within a r rule named).updates updates;
        walk = walk.0;
        back = walk.1;
      },
      λ f. (
        λ none. absurd (let some = f.updates.1 in omega (arith, ints, no_update rule.updates f.updates.0 none)),
        exact.1 (f.walk, f.back, every_walk a rule.to f.walk rule.from f.back),
      ),
    )
