use Rattle.ta_dense.proofs.Common.{◌≡◌, inl, inr, ℕ, ◌<◌, List, length, map, set, get_or, arith, sym, ◌∙◌, get_or-set_other, get_or-set_same, cases_eq}
use Rattle.ta_dense.proofs.Common.{ext_get_or, length-set, length-map, get_or-map, TableauRow, no_row, IsProper}

pub rows_proper_more : (n : ℕ) (cells : List TableauRow) (j : ℕ) (x : TableauRow) → IsProper n x
    → ((i : ℕ) → i < length cells → IsProper n (get_or cells i no_row)) →
    (i : ℕ) → i < length (set cells j x) → IsProper n (get_or (set cells j x) i no_row)
rows_proper_more n cells j x new old i h =
    let long = length-set cells j x in
    elim (cases_eq i j) [
      | inl same ↦ (let inside : j < length cells = omega arith in rw (same, get_or-set_same cells j x no_row inside) new)
      | inr apart ↦ rw (get_or-set_other cells j i x no_row apart) (old i (omega arith))
    ]

pub rows_all : (f : TableauRow → TableauRow) (old new : List TableauRow) (n : ℕ) → length old ≡ n → length new ≡ n
    → ((k : ℕ) → k < n → get_or new k no_row ≡ f (get_or old k no_row)) → new ≡ map f old
rows_all f old new n e e' done =
    let long = length-map old f in
    ext_get_or no_row new (map f old) (omega arith) (λ i h. done i (omega arith) ∙ sym (get_or-map f old i no_row no_row (omega arith)))
