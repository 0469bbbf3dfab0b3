-- the numbers of each tableau that the rule reaches are in range
use Rattle.ta_walk.proofs.Common.{◌≡◌, inl, inr, ℕ, zero, suc, ◌+◌, ◌<◌, ℤ, pos, List, length, arith, sym, ap, ◌∙◌, subst, cases_eq, unsigned_abs-neg}
use Rattle.ta_walk.proofs.Common.{slack_proper, InRange, coefficient, System, Tableau, row_of, cell_of, basic_of, non_basic_of, slack_tableau, LeastStep}
use Rattle.ta_walk.proofs.Common.{Reached, GivesMultipliers, IsRefuted, reached_dictionary}
use Rattle.std.proofs.lemmas.List.Elements.{All-get_or}
use Rattle.std.proofs.lemmas.List.FromFn.{length-range_with_len}
use Rattle.ta_dense.specs.Merge.{IsProper}
use Rattle.ta_dense.specs.Laws.{DictionaryOf}
use Rattle.ta_dense.proofs.Keeps.{row_count, column_count}
use Rattle.ta_dense.proofs.ProperFacts.{proper_pivoted}

-- a column for each unknown, and numbers in range
pub record ReachesProper (unknowns : ℕ) (t : Tableau) : Type 0 where
  pub columns : length t.non_basic ≡ unknowns
  pub rows : (i : ℕ) → i < length t.rows → IsProper unknowns (row_of t i)

first_proper : (s : System) → ReachesProper s.unknowns (slack_tableau s)
unfolding slack_tableau
first_proper s = record {
  columns = length-range_with_len 0 s.unknowns;
  rows = λ i h. slack_proper s.unknowns s.unknowns s.rows i s.within h;
}

step_proper : (n : ℕ) (t u : Tableau) → ReachesProper n t → LeastStep t u → ReachesProper n u
step_proper n t u p step =
    let columns = p.columns in
    let rows = row_count t step.row step.column in
    let inside = step.enters.below in
    subst (ReachesProper n) (sym step.next) (record {
      columns = column_count t step.row step.column ∙ p.columns;
      rows = λ i h. proper_pivoted n step.row step.column (non_basic_of t step.column) t.rows step.leaves.below (omega arith) step.enters.positive p.rows
          step.in_range i (omega arith);
    })

pub reached_proper : (s : System) (k : ℕ) (t : Tableau) → Reached (slack_tableau s) k t → ReachesProper s.unknowns t
reached_proper s zero t e = subst (ReachesProper s.unknowns) (sym e) (first_proper s)
reached_proper s (suc k) t r = step_proper s.unknowns r.0 t (reached_proper s k r.0 r.1) r.2

zero_fits : InRange (pos 0)
zero_fits = omega arith

-- each multiplier is a number of the tableau
multiplier_fits : (s : System) (t : Tableau) (row k : ℕ) (multiplier : ℕ → ℤ) → DictionaryOf s t → ReachesProper s.unknowns t → row < length t.rows
    → k < length s.rows → GivesMultipliers s.unknowns (length s.rows) t row multiplier → InRange (multiplier k)
multiplier_fits s t row k multiplier d p h inside g =
    let columns = p.columns in
    let r = p.rows row h in
    elim (d.basis.cover (s.unknowns + k) (omega arith)) [
      | inl b ↦ elim (cases_eq b.0 row) [
        | inl own ↦ subst InRange (sym (g.own k inside (ap (basic_of t) (sym own) ∙ b.2))) r.denominator
        | inr other ↦ subst InRange (sym (g.others b.0 k b.1 other inside b.2)) zero_fits
      ]
      | inr c ↦
          let long : c.0 < length (row_of t row).cells = (let e = r.long in let below = c.1 in omega arith) in
          let cell : InRange (cell_of (row_of t row) c.0) = All-get_or InRange (row_of t row).cells c.0 (pos 0) long r.cells in
          subst InRange (sym (g.cells c.0 k c.1 inside c.2)) (rw (unsigned_abs-neg (cell_of (row_of t row) c.0)) cell)
    ]

-- the multipliers that the rule ends with are in range
pub multipliers_fit : (s : System) (ts : List (ℕ × ℤ)) → IsRefuted s ts → (k : ℕ) → k < length s.rows → InRange (coefficient ts k)
multipliers_fit s ts is k inside =
    multiplier_fits s is.tableau is.row k (coefficient ts) (reached_dictionary s is.steps is.tableau is.reached)
    (reached_proper s is.steps is.tableau is.reached) is.stuck.leaves.below inside is.multipliers.gives
