-- The end of a system whose run ends: multipliers of a row for which nothing can enter, or the values of a vertex.
use Rattle.ta_simplex.proofs.Common.{◌≡◌, ◌≢◌, ℕ, zero, suc, ◌+◌, ◌<◌, ℤ, pos, ◌<ℤ◌, List, [], ◌∷◌, ◌++◌, length, get_or, set, map, inl, inr, ⊎_elim, refl, sym}
use Rattle.ta_simplex.proofs.Common.{subst, ◌∙◌, arith, ints, length-map, length-set, length-range_with_len, zero_or_not, InRange, AllBelow, Row, System}
use Rattle.ta_simplex.proofs.Common.{Tableau, row_of, cell_of, basic_of, non_basic_of, no_row, merged, pivoted, IsProper, slack_rows, slack_tableau, variables}
use Rattle.ta_simplex.proofs.Common.{DictionaryOf, Reached, LeastStep, Stuck, RuleEnds, AreLeafMultipliers, AreZeros, GivesValues, slot, AreNatural, FillSlots}
use Rattle.ta_simplex.proofs.Common.{ListsSlots, HasEnd, Fraction, replicate}
use Rattle.ta_dense.proofs.DenseFacts.{IsProper-slack}
use Rattle.ta_dense.proofs.ProperFacts.{proper_pivoted}
use Rattle.ta_simplex.specs.declared.End.TheVariants.{Refuted, Vertex}
use Rattle.ta_simplex.proofs.RunLemmas.{reached_dictionary}
use Rattle.ta_simplex.proofs.LeafLemmas.{multipliers_are_leaf}
use Rattle.ta_simplex.proofs.SlotLemmas.{Filled, fill-first, fill-next, fill-last, list-first, list-more, list-skip}
use Rattle.ta_simplex.proofs.ValueLemmas.{ValuesSoFar, values-first, values-next, values-last, zeros-next}
use Rattle.ta_simplex.proofs.VertexLemmas.{values_meet_rows}

-- ---- each number of a tableau that the rule reaches is in range
record Proper (n : ℕ) (t : Tableau) : Type 0 where
  columns : length t.non_basic ≡ n
  rows : (i : ℕ) → i < length t.rows → IsProper n (get_or t.rows i no_row)

pub slack_proper : (n v : ℕ) (rs : List Row) (i : ℕ) → AllBelow n rs → i < length (slack_rows n v rs) → IsProper n (get_or (slack_rows n v rs) i no_row)
slack_proper n v [] i below inside = absurd (omega arith)
slack_proper n v (r ∷ rs) zero below inside = IsProper-slack n v r below.0
slack_proper n v (r ∷ rs) (suc i) below inside = slack_proper n (suc v) rs i below.1 (omega arith)

slacks_proper : (s : System) → Proper s.unknowns (slack_tableau s)
unfolding slack_tableau
slacks_proper s = record { columns = length-range_with_len 0 s.unknowns; rows = λ i inside. slack_proper s.unknowns s.unknowns s.rows i s.within inside }

step_proper : (n : ℕ) (t u : Tableau) → Proper n t → LeastStep t u → Proper n u
step_proper n t u p step =
    let rows_long : length (pivoted t step.row step.column).rows ≡ length t.rows = length-set (map (merged step.column (row_of t step.row)) t.rows) step.row _
    ∙ length-map t.rows (merged step.column (row_of t step.row)) in
    let after : Proper n (pivoted t step.row step.column) = record {
      columns = length-set t.non_basic step.column (basic_of t step.row) ∙ p.columns;
      rows = λ i inside. proper_pivoted n step.row step.column (non_basic_of t step.column) t.rows step.leaves.below
          (omega (arith, step.enters.below, p.columns)) step.enters.positive p.rows step.in_range i (omega arith);
    } in
    subst (Proper n) (sym step.next) after

reached_proper : (s : System) (k : ℕ) (t : Tableau) → Reached (slack_tableau s) k t → Proper s.unknowns t
reached_proper s zero t e = subst (Proper s.unknowns) (sym e) (slacks_proper s)
reached_proper s (suc k) t r = step_proper s.unknowns r.0 t (reached_proper s k r.0 r.1) r.2

list_from : (ms : List ℤ) (left at : ℕ) (ts : List (ℕ × ℤ)) → AreNatural ms → at + left ≡ length ms → ListsSlots ms at ts → (us : List (ℕ × ℤ))
    × ListsSlots ms (length ms) us
list_from ms zero at ts natural whole l = (ts, subst (λ k. ListsSlots ms k ts) (let e : at ≡ length ms = omega arith in e) l)
list_from ms (suc left) at ts natural whole l =
    ⊎_elim
    (λ (none : slot ms at ≡ pos 0). list_from ms left (at + 1) ts natural (omega arith) (list-skip ms at ts l none))
    (λ (some : slot ms at ≢ pos 0). list_from ms left (at + 1) (ts ++ (at, slot ms at) ∷ []) natural (omega arith) (list-more ms at ts natural l some))
    (zero_or_not (slot ms at))

module _ (s : System) (t : Tableau) (dictionary : DictionaryOf s t) (proper : Proper s.unknowns t) where
  module _ (row : ℕ) (stuck : Stuck t row) where
    inside : row < length t.rows
    inside = stuck.leaves.below

    fill_from : (left column : ℕ) (ms : List ℤ) → column + left ≡ length t.non_basic → Filled s.unknowns (length s.rows) t row column ms → (filled : List ℤ)
        × FillSlots s.unknowns (length s.rows) t row filled
    fill_from zero column ms whole f = (ms, fill-last s.unknowns (length s.rows) t row column ms (omega arith) f)
    fill_from (suc left) column ms whole f =
        let p = proper.rows row inside in
        let fits : InRange (cell_of (row_of t row) column) = p.cells column (pos 0) (omega (arith, p.long, proper.columns)) in
        fill_from left (column + 1) _ (omega arith)
        (fill-next (variables s) s.unknowns (length s.rows) t row column ms dictionary.basis refl inside (omega arith) stuck.none_enters fits f)

    multipliers_exist : (ts : List (ℕ × ℤ)) × AreLeafMultipliers s t row ts
    multipliers_exist =
        let p = proper.rows row inside in
        let positive : pos 0 <ℤ (row_of t row).denominator = p.positive in
        let first = fill-first (variables s) s.unknowns (length s.rows) t row (replicate (length s.rows) (pos 0)) dictionary.basis refl inside refl
        (omega (arith, ints, positive)) p.denominator in
        let filled = fill_from (length t.non_basic) 0 _ (omega arith) first in
        let listed = list_from filled.0 (length filled.0) 0 [] filled.1.natural (omega arith) (list-first filled.0) in
        (listed.0, multipliers_are_leaf s t row filled.0 listed.0 dictionary stuck filled.1 listed.1)

  -- ---- values

  zeros : (n : ℕ) → (values : List Fraction) × AreZeros n values
  zeros zero = ([], record { count = refl; zero = λ x h. absurd (omega arith) })
  zeros (suc n) =
      let z = zeros n in
      let f : Fraction = record { top = pos 0; bottom = pos 1; positive = omega (arith, ints) } in
      (z.0 ++ f ∷ [], subst (λ k. AreZeros k (z.0 ++ f ∷ [])) (let e : n + 1 ≡ suc n = omega arith in e) (zeros-next n z.0 f refl refl z.1))

  values_from : (left row : ℕ) (values : List Fraction) → row + left ≡ length t.rows → ValuesSoFar t s.unknowns row values → (all : List Fraction)
      × GivesValues t s.unknowns all
  values_from zero row values whole so_far = (values, values-last (variables s) t s.unknowns row values dictionary.basis (omega arith) so_far (omega arith))
  values_from (suc left) row values whole so_far =
      let f : Fraction = record { top = (row_of t row).constant; bottom = (row_of t row).denominator; positive = (proper.rows row (omega arith)).positive } in
      values_from left (row + 1) (set values (basic_of t row) f) (omega arith)
      (values-next (variables s) t s.unknowns row values f dictionary.basis (omega arith) refl refl so_far)

  values_exist : (values : List Fraction) × GivesValues t s.unknowns values
  values_exist = let z = zeros s.unknowns in values_from (length t.rows) 0 z.0 (omega arith) (values-first t s.unknowns z.0 z.1)

-- ---- ends
pub end_exists : (s : System) (k : ℕ) (t : Tableau) → Reached (slack_tableau s) k t → RuleEnds t → HasEnd s
end_exists s k t reached (inl none) =
    let d = reached_dictionary s k t reached in
    let v = values_exist s t d (reached_proper s k t reached) in
    (Vertex v.0, record { steps = k; tableau = t; reached = reached; ended = none; gives = v.1; meet = values_meet_rows s t v.0 d none v.1 })
end_exists s k t reached (inr w) =
    let d = reached_dictionary s k t reached in
    let m = multipliers_exist s t d (reached_proper s k t reached) w.0 w.1 in
    (Refuted m.0, record { steps = k; tableau = t; row = w.0; reached = reached; stuck = w.1; multipliers = m.1 })
