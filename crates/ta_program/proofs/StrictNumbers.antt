-- the number of a report, and that of its verdicts
use Rattle.ta_program.proofs.Common.{◌≡◌, ◌⊎◌, ◌&&◌, ◌==◌, ℕ, Bool, true, false, List, refl, inl, inr, sym, and_parts, if◌then◌else◌, ReportSample, Verdict}
use Rattle.ta_program.proofs.Common.{report_number, tells_nothing, verdicts_number}

not_chosen : (b : Bool) (n k : ℕ) → (if b then 2 else n) ≡ k → (k ≡ 2 → ⊥) → n ≡ k
not_chosen true n k e other = absurd (other (sym e))
not_chosen false n k e other = e

-- other numbers than 2 are those of the verdicts
pub number_other : (all : Bool) (s : ReportSample) (vs : List Verdict) (k : ℕ) → (k ≡ 2 → ⊥) → report_number all s vs ≡ k → verdicts_number vs ≡ k
number_other all s vs k other e = not_chosen (all && (verdicts_number vs == 0 && tells_nothing s vs)) (verdicts_number vs) k e other

chosen_two : (b : Bool) (n : ℕ) → (if b then 2 else n) ≡ 2 → (b ≡ true) ⊎ (n ≡ 2)
chosen_two true n e = inl refl
chosen_two false n e = inr e

-- 2 is that of the verdicts, or with `--all` the report tells nothing
pub number_two : (all : Bool) (s : ReportSample) (vs : List Verdict) → report_number all s vs ≡ 2 → ((all ≡ true) × (tells_nothing s vs ≡ true))
    ⊎ (verdicts_number vs ≡ 2)
number_two all s vs e = elim (chosen_two (all && (verdicts_number vs == 0 && tells_nothing s vs)) (verdicts_number vs) e) [
  | inl strict ↦
      let parts = and_parts all (verdicts_number vs == 0 && tells_nothing s vs) strict in
      inl (parts.0, (and_parts (verdicts_number vs == 0) (tells_nothing s vs) parts.1).1)
  | inr two ↦ inr two
]
