-- masks of patterns without events
use Rattle.ta_rest.proofs.Common.{◌≡◌, ◌⊎◌, inl, inr, ℕ, ◌+◌, ◌<◌, List, [], arith, sym, ap, ◌∙◌, subst, slice_get, Some, IsBitSet, ◌↔◌, eqb_tells, same_Some}
use Rattle.ta_rest.proofs.Common.{Pattern}

-- a pattern of a list that has no events
abbrev pub Eventless : List Pattern → ℕ → Type 0
Eventless patterns k = (p : Pattern) × (slice_get patterns k ≡ Some p) × (p.events ≡ [])

-- the mask of the first patterns without events, with one pattern more
pub more_patterns : (patterns : List Pattern) (n mask more : ℕ) (pattern : Pattern) → slice_get patterns n ≡ Some pattern
    → ((k : ℕ) → IsBitSet more k ↔ (IsBitSet mask k ⊎ ((k ≡ n) × (pattern.events ≡ []))))
    → ((k : ℕ) → IsBitSet mask k ↔ ((k < n) × Eventless patterns k))
    → (k : ℕ) → IsBitSet more k ↔ ((k < n + 1) × Eventless patterns k)
more_patterns patterns n mask more pattern at step before k = (
  λ set. elim ((step k).0 set) [
    | inl old ↦ (let w = (before k).0 old in ((let b = w.0 in omega arith), w.1))
    | inr new ↦ ((let e = new.0 in omega arith), (pattern, ap (slice_get patterns) new.0 ∙ at, new.1))
  ],
  λ w. elim (eqb_tells k n) [
    | inl e ↦ (let same : pattern ≡ w.1.0 = same_Some pattern w.1.0 (sym at ∙ ap (slice_get patterns) (sym e.1) ∙ w.1.1) in (step k).1
        (inr (e.1, subst (λ (p : Pattern). p.events ≡ []) (sym same) w.1.2)))
    | inr ne ↦ (step k).1 (inl ((before k).1 ((let b = w.0 in let d = ne.1 in omega arith), w.1)))
  ],
)
