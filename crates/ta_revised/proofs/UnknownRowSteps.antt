-- the rows of the unknowns while a pivot goes through them
use Rattle.ta_revised.proofs.Common.{◌≡◌, ◌<◌, ◌+◌, ◌-◌, ◌++◌, ℕ, List, length, get_or, set, ap, arith, inl, inr, cases_eq, length-append, length-map}
use Rattle.ta_revised.proofs.Common.{TableauRow, no_row, IsAfter, unknown_row, unknown_rows, unit_rows, UnknownRow}
use Rattle.std.proofs.lemmas.List.{get_or-set_same, get_or-set_other}
use Rattle.ta_revised.proofs.UnitRow.{length_unit_rows}

-- those before a number are as the pivot makes them
abbrev pub AfterBelow : ℕ → ℕ → TableauRow → List TableauRow → List TableauRow → ℕ → Type 0
AfterBelow columns column chosen old rows count = (k : ℕ) → k < count → IsAfter columns column chosen (get_or old k no_row) (get_or rows k no_row)

-- one more
pub after_more : (columns column : ℕ) (chosen : TableauRow) (old rows : List TableauRow) (at : ℕ) (x : TableauRow) → at < length rows
    → IsAfter columns column chosen (get_or old at no_row) x → AfterBelow columns column chosen old rows at
    → AfterBelow columns column chosen old (set rows at x) (at + 1)
after_more columns column chosen old rows at x h new done k below =
    elim (cases_eq k at) [
      | inl same ↦ rw (same, get_or-set_same rows at x no_row h) new
      | inr apart ↦ rw (get_or-set_other rows at k x no_row apart) (done k (omega arith))
    ]

-- how many rows there are with the new ones
pub length_pushed : (columns first : ℕ) (old new : List UnknownRow)
    → unknown_rows columns new ≡ unknown_rows columns old ++ unit_rows columns first (columns - first) →
    length new ≡ length old + (columns - first)
length_pushed columns first old new e =
    let l0 = ap (λ (rs : List TableauRow). length rs) e in
    let l1 = length-map new (unknown_row columns) in
    let l2 = length-append (unknown_rows columns old) (unit_rows columns first (columns - first)) in
    let l3 = length-map old (unknown_row columns) in
    let l4 = length_unit_rows columns first (columns - first) in
    omega arith
