-- the row of an unknown that belongs to a column
use Rattle.ta_revised.proofs.Common.{◌≡◌, ℕ, zero, suc, ◌<◌, List, [], ◌∷◌, length, set, get_or, replicate, arith, refl, sym, ap, ◌∙◌, subst, ℤ, pos, ints}
use Rattle.ta_revised.proofs.Common.{length-map, length-replicate, length-set, get_or-map, length-range_with_len, range_with_len, TableauRow, no_row, row_of}
use Rattle.ta_revised.proofs.Common.{dot, EquationHolds, IsDictionaryRow, IsAssignment, System, unit_row, IsRevised}
use Rattle.std.proofs.lemmas.List.FromFn.{get_or-range_with_len}
use Rattle.std.proofs.Math.Nat.{eq-one_of_dvd-one}
unfoldable use Rattle.ta_dense.specs.Slack.{slack_tableau}
use Rattle.ta_dense.proofs.SlackDictionary.{IsDictionary-slack}
use Rattle.ta_revised.specs.Revised.{first_rows}

dot-nothing : (us : List ℕ) (value : ℕ → ℤ) → dot (replicate (length us) (pos 0)) us value ≡ pos 0
dot-nothing [] value = refl
dot-nothing (u ∷ us) value = omega (arith, ints, dot-nothing us value)

-- the sum of the cells of a unit row is the value of its column's variable
pub dot-unit : (us : List ℕ) (value : ℕ → ℤ) (j : ℕ) → j < length us → dot (set (replicate (length us) (pos 0)) j (pos 1)) us value ≡ value (get_or us j 0)
dot-unit [] value j h = absurd (omega arith)
dot-unit (u ∷ us) value zero h = omega (arith, ints, dot-nothing us value)
dot-unit (u ∷ us) value (suc j) h = omega (arith, ints, dot-unit us value j (omega arith))

-- a unit row is true of all assignments where its column belongs to its variable
pub IsDictionaryRow-unit : (A : ℤ → (ℕ → ℤ) → Type 0) (us : List ℕ) (v j : ℕ) → j < length us → get_or us j 0 ≡ v
    → IsDictionaryRow A us (unit_row (length us) v j)
IsDictionaryRow-unit A us v j h e = record {
  positive = omega (arith, ints);
  long = length-set (replicate (length us) (pos 0)) j (pos 1) ∙ length-replicate (length us) (pos 0);
  primitive = λ k d. eq-one_of_dvd-one d.denominator;
  holds = λ scale value a. (let same = dot-unit us value j h ∙ ap value e in omega (arith, ints, same));
}

-- what a true unit row says
pub unit_says : (us : List ℕ) (v j : ℕ) (scale : ℤ) (value : ℕ → ℤ) → j < length us → EquationHolds us (unit_row (length us) v j) scale value
    → value v ≡ value (get_or us j 0)
unit_says us v j scale value h e = let same = dot-unit us value j h in omega (arith, ints, same, e)

range_at : (n u : ℕ) → u < n → get_or (range_with_len 0 n) u 0 ≡ u
range_at n u h = get_or-range_with_len 0 n u 0 h ∙ omega arith

-- the rows of the unknowns where every slack is basic
pub first_at : (n u : ℕ) → u < n → row_of (first_rows n) u ≡ unit_row n u u
first_at n u h =
    let long = length-range_with_len 0 n in
    get_or-map (λ (w : ℕ). unit_row n w w) (range_with_len 0 n) u 0 no_row (omega arith) ∙ ap (λ (w : ℕ). unit_row n w w) (range_at n u h)

pub IsRevised-first : (s : System) → IsRevised s (slack_tableau s) (first_rows s.unknowns)
unfolding slack_tableau
IsRevised-first s =
    let n = s.unknowns in
    let long = length-range_with_len 0 n in
    record {
      dictionary = IsDictionary-slack s;
      non_basic = refl;
      count = length-map (range_with_len 0 n) (λ (w : ℕ). unit_row n w w) ∙ long;
      rows = λ u h.
          subst (IsDictionaryRow (IsAssignment s) (range_with_len 0 n)) (ap (λ (m : ℕ). unit_row m u u) long ∙ sym (first_at n u h))
          (IsDictionaryRow-unit (IsAssignment s) (range_with_len 0 n) u u (omega arith) (range_at n u h));
      named = λ u h. ap (λ (r : TableauRow). r.basic) (first_at n u h);
    }
