use Rattle.ta_rest.proofs.ClaimCommon.{◌≡◌, ℕ, reverse, slice_get, has_bit, leads_out, any_below}
use Rattle.ta_rest.proofs.rest_end.left_after.Given as goal

-- the locations out of which one of the first rules leads
abbrev pub invariant-loop-rule : goal.invariant-loop-rule
invariant-loop-rule l = (m : ℕ) → has_bit l.left m ≡ any_below l.rule-index
    (λ r. leads_out l.automaton l.start_mask (reverse l.elements) m (slice_get l.automaton.rules r))
