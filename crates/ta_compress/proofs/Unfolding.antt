-- a run unfolded
use Rattle.ta_compress.proofs.Common.{◌≡◌, inl, inr, ℕ, zero, suc, ◌+◌, ◌≤◌, ℤ, pos, ◌*ℤ◌, List, [], ◌∷◌, ◌++◌, length, take, drop, replicate, unsigned_abs}
use Rattle.ta_compress.proofs.Common.{arith, sym, ap, ◌∙◌, refl, slice_get, Some, append_assoc, length-append, length-replicate, ints, AllByRecursion}
use Rattle.ta_compress.proofs.Common.{each_append, each_copies, abs_natural, one_times, take_next, Automaton, Pattern, rule_change, total, total-append}
use Rattle.ta_compress.proofs.Common.{RunLine, Step, Mark, LineFits, line_change, factor_of, factors_sum, marks_count, InRange, unit, unfolded, value_after}
use Rattle.ta_compress.proofs.Common.{EndsAtLastMark, units, total-replicate}

pub unfold-append : (xs ys : List RunLine) → unfolded (xs ++ ys) ≡ unfolded xs ++ unfolded ys
unfold-append [] ys = refl
unfold-append (Step r k ∷ xs) ys = ap (λ (ls : List RunLine). replicate (unsigned_abs k) (unit r) ++ ls) (unfold-append xs ys)
    ∙ sym (append_assoc (replicate (unsigned_abs k) (unit r)) (unfolded xs) (unfolded ys))
unfold-append (Mark e ∷ xs) ys = ap (λ (ls : List RunLine). Mark e ∷ ls) (unfold-append xs ys)

pub unfold-next : (lines : List RunLine) (i : ℕ) (line : RunLine) → slice_get lines i ≡ Some line → unfolded (take (i + 1) lines) ≡ unfolded (take i lines)
    ++ unfolded (line ∷ [])
unfold-next lines i line at = ap unfolded (take_next lines i line at) ∙ unfold-append (take i lines) (line ∷ [])

-- unfolding changes no value
pub unfold-total : (a : Automaton) (p : Pattern) (i : ℕ) (lines : List RunLine) → AllByRecursion (LineFits a p) lines
    → total (line_change a i) (unfolded lines) ≡ total (line_change a i) lines
unfolding total
unfold-total a p i [] fits = refl
unfold-total a p i (Step r k ∷ lines) fits =
    let some = fits.0.1 in
    let natural : pos (unsigned_abs k) ≡ k = abs_natural k (omega (arith, ints)) in
    omega (
      arith,
      ints,
      total-append (line_change a i) (replicate (unsigned_abs k) (unit r)) (unfolded lines),
      total-replicate (line_change a i)
          (unsigned_abs k) (unit r),
      ap (λ z. pos (unsigned_abs k) *ℤ z) (one_times (rule_change a (slice_get a.rules r) i)),
      ap
          (λ z. z *ℤ rule_change a (slice_get a.rules r) i) natural,
      unfold-total a p i lines fits.1,
    )
unfold-total a p i (Mark e ∷ lines) fits = omega (arith, ints, unfold-total a p i lines fits.1)

pub unfold-value : (a : Automaton) (p : Pattern) (first : List ℤ) (lines : List RunLine) → AllByRecursion (LineFits a p) lines → (i : ℕ)
    → value_after a first (unfolded lines) i ≡ value_after a first lines i
unfold-value a p first lines fits i = omega (arith, ints, unfold-total a p i lines fits)

one_fits : InRange (pos 1)
one_fits = omega (arith, ints)

pub unfold_fits : (a : Automaton) (p : Pattern) (lines : List RunLine) → AllByRecursion (LineFits a p) lines → AllByRecursion (LineFits a p) (unfolded lines)
unfold_fits a p [] fits = tt
unfold_fits a p (Step r k ∷ lines) fits =
    each_append (LineFits a p) (replicate (unsigned_abs k) (unit r)) (unfolded lines)
    (each_copies (LineFits a p) (unsigned_abs k) (unit r) (fits.0.0, omega (arith, ints), one_fits)) (unfold_fits a p lines fits.1)
unfold_fits a p (Mark e ∷ lines) fits = (fits.0, unfold_fits a p lines fits.1)

copies-marks : (k r : ℕ) (lines : List RunLine) → marks_count (replicate k (unit r) ++ lines) ≡ marks_count lines
copies-marks zero r lines = refl
copies-marks (suc k) r lines = copies-marks k r lines

pub unfold-marks : (lines : List RunLine) → marks_count (unfolded lines) ≡ marks_count lines
unfold-marks [] = refl
unfold-marks (Step r k ∷ lines) = copies-marks (unsigned_abs k) r (unfolded lines) ∙ unfold-marks lines
unfold-marks (Mark e ∷ lines) = ap (λ n. 1 + n) (unfold-marks lines)

pub front-marks : (lines : List RunLine) (n : ℕ) → marks_count (take n lines) ≤ marks_count lines
front-marks lines zero = omega arith
front-marks [] (suc n) = omega arith
front-marks (Step r k ∷ lines) (suc n) = front-marks lines n
front-marks (Mark e ∷ lines) (suc n) = omega (arith, front-marks lines n)

-- what stands behind a line has its factor less
pub factors_at : (lines : List RunLine) (i : ℕ) (line : RunLine) → slice_get lines i ≡ Some line
    → factors_sum (drop i lines) ≡ factor_of line + factors_sum (drop (i + 1) lines)
factors_at [] i line at = absurd (cc)
factors_at (x ∷ xs) zero line at = let same : x ≡ line = cc in ap (λ l. factor_of l + factors_sum xs) same
factors_at (x ∷ xs) (suc i) line at =
    let e : suc (i + 1) ≡ suc i + 1 = omega arith in
    factors_at xs i line at ∙ ap (λ n. factor_of line + factors_sum (drop n (x ∷ xs))) e

pub factors_behind : (lines : List RunLine) (i : ℕ) → factors_sum (drop i lines) ≤ factors_sum lines
factors_behind lines zero = omega arith
factors_behind [] (suc i) = omega arith
factors_behind (x ∷ xs) (suc i) = omega (arith, factors_behind xs i)

-- unit steps behind the last cut
no_units : (written xs : List RunLine) (e : ℕ) (open_ : List ℕ) → xs ++ Mark e ∷ [] ≡ written ++ units open_ → open_ ≡ []
no_units written xs e [] is = refl
no_units [] [] e (r ∷ rs) is = absurd (cc)
no_units [] (x ∷ []) e (r ∷ []) is = absurd (cc)
no_units [] (x ∷ xs) e (r ∷ []) is = absurd (long_tail xs e (let tail : xs ++ Mark e ∷ [] ≡ [] = cc in tail)) where
  long_tail : (xs : List RunLine) (e : ℕ) → xs ++ Mark e ∷ [] ≡ [] → ⊥
  long_tail [] e h = absurd (cc)
  long_tail (x ∷ xs) e h = absurd (cc)
no_units [] (x ∷ xs) e (r ∷ q ∷ rs) is = (let tail : xs ++ Mark e ∷ [] ≡ units (q ∷ rs) = cc in absurd (more_units xs e q rs tail)) where
  more_units : (xs : List RunLine) (e q : ℕ) (rs : List ℕ) → xs ++ Mark e ∷ [] ≡ units (q ∷ rs) → ⊥
  more_units [] e q rs h = absurd (cc)
  more_units (x ∷ []) e q [] h = absurd (cc)
  more_units (x ∷ y ∷ xs) e q [] h = absurd (cc)
  more_units (x ∷ xs) e q (r ∷ rs) h = more_units xs e r rs (let tail : xs ++ Mark e ∷ [] ≡ units (r ∷ rs) = cc in tail)
no_units (w ∷ ws) [] e (r ∷ rs) is = (let tail : [] ≡ ws ++ units (r ∷ rs) = cc in absurd (not_empty ws r rs tail)) where
  not_empty : (ws : List RunLine) (r : ℕ) (rs : List ℕ) → [] ≡ ws ++ units (r ∷ rs) → ⊥
  not_empty [] r rs h = absurd (cc)
  not_empty (w ∷ ws) r rs h = absurd (cc)
no_units (w ∷ ws) (x ∷ xs) e (r ∷ rs) is = no_units ws xs e (r ∷ rs) (let tail : xs ++ Mark e ∷ [] ≡ ws ++ units (r ∷ rs) = cc in tail)

none_open : (written : List RunLine) (open_ : List ℕ) → [] ≡ written ++ units open_ → open_ ≡ []
none_open [] [] is = refl
none_open [] (r ∷ rs) is = absurd (cc)
none_open (w ∷ ws) open_ is = absurd (cc)

-- up to the last mark nothing is open
pub nothing_open : (lines : List RunLine) (n : ℕ) (written : List RunLine) (open_ : List ℕ) → EndsAtLastMark lines n → unfolded (take n lines) ≡ written
    ++ units open_ → open_ ≡ []
nothing_open lines n written open_ last is = elim last.ends [
  | inl none ↦ none_open written open_ (sym (ap (λ k. unfolded (take k lines)) none) ∙ is)
  | inr w ↦ (
      let i = w.0 in
      let e = w.1 in
      let whole = sym (ap (λ k. unfolded (take k lines)) w.2 ∙ unfold-next lines i (Mark e) w.3) ∙ is in
      no_units written (unfolded (take i lines)) e open_ whole)
]

pub front-factors : (lines : List RunLine) (n : ℕ) → factors_sum (take n lines) ≤ factors_sum lines
front-factors lines zero = omega arith
front-factors [] (suc n) = omega arith
front-factors (x ∷ xs) (suc n) = omega (arith, front-factors xs n)

pub unfold-length : (lines : List RunLine) → length (unfolded lines) ≡ factors_sum lines + marks_count lines
unfold-length [] = refl
unfold-length (Step r k ∷ lines) = omega
    (arith, length-append (replicate (unsigned_abs k) (unit r)) (unfolded lines), length-replicate (unsigned_abs k) (unit r), unfold-length lines)
unfold-length (Mark e ∷ lines) = omega (arith, unfold-length lines)
