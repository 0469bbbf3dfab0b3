use Rattle.ta_dense.proofs.Common.{◌≡◌, ◌≢◌, ℕ, ◌<◌, ◌≤◌, List, length, set, get_or, arith, sym, ◌∙◌, ℤ, pos, ◌-ℤ◌, ◌*ℤ◌, get_or-set_other, get_or-set_same}
use Rattle.ta_dense.proofs.Common.{ext_get_or, length-set, combine}
use Rattle.ta_dense.proofs.PivotLaws.{get_or-combine, length-combine}

pub target_at_column : (p q : ℤ) (xs cs : List ℤ) (column j : ℕ) (turned : ℤ) → length xs ≡ length cs → j < length xs → j ≡ column →
    turned ≡ get_or (set (combine p q xs cs) column turned) j (pos 0)
target_at_column p q xs cs column j turned e h same =
    let long = length-combine p q xs cs e in
    rw same (sym (get_or-set_same (combine p q xs cs) column turned (pos 0) (omega arith)))

pub target_elsewhere : (p q : ℤ) (xs cs : List ℤ) (column j : ℕ) (turned x : ℤ) → length xs ≡ length cs → j ≢ column
    → x ≡ p *ℤ get_or xs j (pos 0) -ℤ q *ℤ get_or cs j (pos 0) →
    x ≡ get_or (set (combine p q xs cs) column turned) j (pos 0)
target_elsewhere p q xs cs column j turned x e apart is =
    is ∙ sym (get_or-combine p q xs cs j e) ∙ sym (get_or-set_other (combine p q xs cs) column j turned (pos 0) apart)

pub target_done : (p q : ℤ) (xs cs cells : List ℤ) (column j : ℕ) (turned : ℤ) → length xs ≡ length cs → length cells ≡ length xs → length xs ≤ j →
    ((k : ℕ) → k < j → get_or cells k (pos 0) ≡ get_or (set (combine p q xs cs) column turned) k (pos 0)) → cells ≡ set (combine p q xs cs) column turned
target_done p q xs cs cells column j turned e long h done =
    let n = length-combine p q xs cs e in
    let m = length-set (combine p q xs cs) column turned in
    ext_get_or (pos 0) cells (set (combine p q xs cs) column turned) (omega arith) (λ i below. done i (omega arith))
