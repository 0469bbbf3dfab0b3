-- the dictionary of a longer system
use Rattle.ta_revised.proofs.Common.{◌≡◌, ◌≤◌, ◌-◌, ◌++◌, ℕ, List, map, length, ap, subst, ◌∙◌, range_with_len, TableauRow, Tableau, raised, zero_filled}
use Rattle.ta_revised.proofs.Common.{names_long, tableau_same, unit_rows, grown, unknown_rows, UnknownRow}

-- the names that are raised, and the rows that are filled with zeros and then followed by the new ones, are the grown dictionary's
pub grown_is : (us names : List ℕ) (rows filled new : List UnknownRow) (old u : ℕ) → old ≡ length us → old ≤ u
    → names ≡ map (raised old (u - old)) us ++ range_with_len old (u - old)
    → unknown_rows u filled ≡ map (zero_filled (u - old)) (unknown_rows old rows)
    → unknown_rows u new ≡ unknown_rows u filled ++ unit_rows u old (u - old) →
    let left : Tableau = record { non_basic = names; rows = unknown_rows (length names) new } in
    left ≡ grown (record { non_basic = us; rows = unknown_rows (length us) rows }) u
grown_is us names rows filled new old u e more named f v =
    let long = names_long us names old u more e named in
    let n = length us in
    tableau_same names (map (raised n (u - n)) us ++ range_with_len n (u - n)) (unknown_rows (length names) new)
    (map (zero_filled (u - n)) (unknown_rows n rows) ++ unit_rows u n (u - n))
    (subst (λ (m : ℕ). names ≡ map (raised m (u - m)) us ++ range_with_len m (u - m)) e named)
    (ap (λ (m : ℕ). unknown_rows m new) long
    ∙ subst (λ (m : ℕ). unknown_rows u new ≡ map (zero_filled (u - m)) (unknown_rows m rows) ++ unit_rows u m (u - m)) e
    (v ∙ ap (λ (rs : List TableauRow). rs ++ unit_rows u old (u - old)) f))
