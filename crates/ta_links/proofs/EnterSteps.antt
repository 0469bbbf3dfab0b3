-- Columns without a cell are passed
use Rattle.ta_links.proofs.Common.{◌≡◌, ℕ, pos, ◌<◌, ◌≤◌, length, arith, inl, inr, Option, None, Some, MatchOption, cases_lt, ints, Tableau, row_of, cell_of}
use Rattle.ta_links.proofs.Common.{EntersBelow, NoneEntersBelow, IfSome, IfNone, Enters, NoneEnters}

pub enters_far : (t : Tableau) (row k p : ℕ) (least : Option ℕ) → k ≤ p → ((j : ℕ) → k ≤ j → j < p → cell_of (row_of t row) j ≡ pos 0)
    → MatchOption least (NoneEntersBelow t row k) (EntersBelow t row k) →
    MatchOption least (NoneEntersBelow t row p) (EntersBelow t row p)
enters_far t row k p None far none m = λ j b. elim (cases_lt j k) [ inl low ↦ m j low | inr high ↦ let z = none j high b in omega (arith, ints) ]
enters_far t row k p (Some c) far none m =
    let b = m.below in
    record {
      below = omega arith;
      inside = m.inside;
      positive = m.positive;
      least = λ j b less. elim (cases_lt j k) [ inl low ↦ m.least j low less | inr high ↦ let z = none j high b in omega (arith, ints) ];
    }

pub enters_all : (t : Tableau) (row k : ℕ) (least : Option ℕ) → ((j : ℕ) → k ≤ j → j < length t.non_basic → cell_of (row_of t row) j ≡ pos 0)
    → MatchOption least (NoneEntersBelow t row k) (EntersBelow t row k) → IfSome least (Enters t row) × IfNone least (NoneEnters t row)
enters_all t row k None none m = (tt, λ j b. elim (cases_lt j k) [ inl low ↦ m j low | inr high ↦ let z = none j high b in omega (arith, ints) ])
enters_all t row k (Some c) none m = (
  record {
    below = m.inside;
    positive = m.positive;
    least = λ j b less. elim (cases_lt j k) [ inl low ↦ m.least j low less | inr high ↦ let z = none j high b in omega (arith, ints) ];
  },
  tt,
)
