use Rattle.ta_program.proofs.Common.{◌≡◌, true, false, arith, refl, list_any, is_unknown, is_unsafe}
use Rattle.ta_program.proofs.Clauses.{number_by}
use Rattle.ta_program.proofs.telling.zero_says.Goals as goal

-- the number 0 is not that of a report in which something is unsafe or unknown
pub returns : goal.returns
returns c vs =
    elim (list_any is_unsafe vs) as (λ f. number_by f (list_any is_unknown vs) ≡ 0 → (f ≡ false) × (list_any is_unknown vs ≡ false)) [
      | true ↦ λ e. absurd (omega (arith, e))
      | false ↦ elim (list_any is_unknown vs) as (λ u. number_by false u ≡ 0 → (false ≡ false) × (u ≡ false))
          [ true ↦ λ e. absurd (omega (arith, e)) | false ↦ λ e. (refl, refl) ]
    ]
