-- rules on cycles of two or more locations
use Rattle.ta_scope.proofs.Common.{◌≡◌, ◌≢◌, inl, inr, ℕ, List, slice_get, get_or, Some, IsBitSet, ◌↔◌, eqb_tells, Rule, Automaton, to_within, every_rule}
use Rattle.ta_scope.proofs.Common.{IsReachTable, LoopsAlone, OnLongerCycle}
use Rattle.ta_scope.proofs.Reaching.{every_walk}

-- where no rule is on such a cycle, every cycle is a self-loop
pub loops_alone : (a : Automaton) → ((r : ℕ) (rule : Rule) → slice_get a.rules r ≡ Some rule → ¬ OnLongerCycle a rule) → LoopsAlone a
loops_alone a none r rule named walk back = elim (eqb_tells rule.from rule.to) [
  | inl e ↦ e.1
  | inr ne ↦ absurd (none r rule named (record { apart = ne.1; walk = walk; back = back }))
]

-- a rule is on one exactly where it leads between two locations and the table of all rules leads from its target back to its source
pub longer_exactly : (a : Automaton) (table : List ℕ) (r : ℕ) (rule : Rule) → IsReachTable a every_rule table → slice_get a.rules r ≡ Some rule
    → ((rule.from ≢ rule.to) × IsBitSet (get_or table rule.to 0) rule.from) ↔ OnLongerCycle a rule
longer_exactly a table r rule leads named =
    let exact = leads.exact rule.to rule.from (to_within a r rule named) in (
      λ (apart, back). let walk = exact.0 back in record { apart = apart; walk = walk.0; back = walk.1 },
      λ c. (c.apart, exact.1 (c.walk, c.back, every_walk a rule.to c.walk rule.from c.back)),
    )
