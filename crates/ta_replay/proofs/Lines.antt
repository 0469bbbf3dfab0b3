-- lines one after another
use Rattle.ta_replay.proofs.Common.{◌≡◌, ◌⊎◌, inl, inr, ℕ, ◌+◌, ◌↔◌, List, [], ◌∷◌, ◌++◌, length, take, replicate, unsigned_abs, arith, sym, ap, ◌∙◌, refl}
use Rattle.ta_replay.proofs.Common.{slice_get, Some, length-append, append_assoc, cases_lt, same_Some, front_get, get_front, take_next, RunLine, Step, Mark}
use Rattle.ta_replay.proofs.Common.{unit_steps, steps_before, IsMarked, factor_of, factors_sum}

pub factors_sum-append : (xs ys : List RunLine) → factors_sum (xs ++ ys) ≡ factors_sum xs + factors_sum ys
factors_sum-append [] ys = omega arith
factors_sum-append (x ∷ xs) ys = omega (arith, factors_sum-append xs ys)

pub factors_sum-next : (lines : List RunLine) (i : ℕ) (line : RunLine) → slice_get lines i ≡ Some line
    → factors_sum (take (i + 1) lines) ≡ factors_sum (take i lines) + factor_of line
factors_sum-next lines i line at =
    let e = ap factors_sum (take_next lines i line at) in
    let sum = factors_sum-append (take i lines) (line ∷ []) in
    omega (arith, e, sum)

pub unit_steps-append : (xs ys : List RunLine) → unit_steps (xs ++ ys) ≡ unit_steps xs ++ unit_steps ys
unit_steps-append [] ys = refl
unit_steps-append (Step r k ∷ xs) ys =
    ap (λ rs. replicate (unsigned_abs k) r ++ rs) (unit_steps-append xs ys) ∙ sym (append_assoc (replicate (unsigned_abs k) r) (unit_steps xs) (unit_steps ys))
unit_steps-append (Mark e ∷ xs) ys = unit_steps-append xs ys

pub unit_steps-next : (lines : List RunLine) (i : ℕ) (line : RunLine) → slice_get lines i ≡ Some line
    → unit_steps (take (i + 1) lines) ≡ unit_steps (take i lines) ++ unit_steps (line ∷ [])
unit_steps-next lines i line at = ap unit_steps (take_next lines i line at) ∙ unit_steps-append (take i lines) (line ∷ [])

pub steps_before-next : (lines : List RunLine) (i : ℕ) (line : RunLine) → slice_get lines i ≡ Some line
    → steps_before lines (i + 1) ≡ steps_before lines i + length (unit_steps (line ∷ []))
steps_before-next lines i line at =
    let e = ap (λ (rs : List ℕ). length rs) (unit_steps-next lines i line at) in
    let sum = length-append (unit_steps (take i lines)) (unit_steps (line ∷ [])) in
    omega (arith, e, sum)

-- what the next line marks
pub marked-next : (lines : List RunLine) (i : ℕ) (line : RunLine) → slice_get lines i ≡ Some line → (e : ℕ) → IsMarked (take (i + 1) lines) e
    ↔ (IsMarked (take i lines) e ⊎ (line ≡ Mark e))
marked-next lines i line at e = (
  λ m.
      let w = get_front lines (i + 1) m.0 (Mark e) m.1 in
      elim (cases_lt m.0 i) [
        | inl less ↦ inl (m.0, front_get lines i m.0 (Mark e) less w.1)
        | inr more ↦ (
            let b = w.0 in
            let same : m.0 ≡ i = omega arith in
            inr (same_Some line (Mark e) (sym at ∙ ap (slice_get lines) (sym same) ∙ w.1)))
      ],
  λ s. elim s [
    | inl m ↦ (let w = get_front lines i m.0 (Mark e) m.1 in (m.0, front_get lines (i + 1) m.0 (Mark e) (let b = w.0 in omega arith) w.1))
    | inr same ↦ (i, front_get lines (i + 1) i (Mark e) (omega arith) (at ∙ ap Some same))
  ],
)
