-- rows of unknowns that belong to columns
use Rattle.ta_revised.proofs.Common.{◌≡◌, ◌<◌, ◌≤◌, ◌+◌, ◌-◌, ◌++◌, ◌∷◌, [], ℕ, suc, ℤ, List, pos, length, map, set, replicate, sym, ap, ◌∙◌, arith}
use Rattle.ta_revised.proofs.Common.{length-range_with_len, range_with_len, length-map, length-replicate, set-append_left, map-append, replicate_zeros}
use Rattle.ta_revised.proofs.Common.{range_more, TableauRow, cell_of, merged, zero_filled, merged-zero, unit_row, unit_rows}
use Rattle.std.proofs.Common.{◌≢◌}
use Rattle.std.proofs.lemmas.List.{get_or-set_other, replicate-append-replicate}

-- a row that belongs to another column stays
pub unit_stays : (columns v own column : ℕ) (chosen : TableauRow) → own ≢ column → unit_row columns v own ≡ merged column chosen (unit_row columns v own)
unit_stays columns v own column chosen apart =
    let zero : cell_of (unit_row columns v own) column ≡ pos 0 = get_or-set_other (replicate columns (pos 0)) own column (pos 1) (pos 0)
    (λ e. apart (sym e)) ∙ replicate_zeros columns column in
    sym (merged-zero column chosen (unit_row columns v own) zero)

-- the row where there are more columns
pub unit_filled : (old columns v column : ℕ) → column < old → old ≤ columns → unit_row columns v column ≡ zero_filled (columns - old) (unit_row old v column)
unit_filled old columns v column h more =
    let k = columns - old in
    let whole : columns ≡ old + (columns - old) = omega arith in
    let long = length-replicate old (pos 0) in
    let zeros : replicate columns (pos 0) ≡ replicate old (pos 0) ++ replicate (columns - old) (pos 0) = ap (λ (n : ℕ). replicate n (pos 0)) whole
    ∙ sym (replicate-append-replicate old k (pos 0)) in
    let cells = ap (λ (xs : List ℤ). set xs column (pos 1)) zeros
    ∙ set-append_left (replicate old (pos 0)) (replicate k (pos 0)) column (pos 1) (omega arith) in
    ap (λ (xs : List ℤ). record { basic = v; denominator = pos 1; constant = pos 0; cells = xs }) cells

-- one more of them
pub unit_rows_more : (columns first n : ℕ) → unit_rows columns first (suc n) ≡ unit_rows columns first n ++ unit_row columns (first + n) (first + n) ∷ []
unit_rows_more columns first n =
    ap (map (λ (u : ℕ). unit_row columns u u)) (range_more first n) ∙ map-append (λ (u : ℕ). unit_row columns u u) _ ((first + n) ∷ [])

-- how many there are
pub length_unit_rows : (columns first n : ℕ) → length (unit_rows columns first n) ≡ n
length_unit_rows columns first n = length-map (range_with_len first n) (λ (u : ℕ). unit_row columns u u) ∙ length-range_with_len first n
