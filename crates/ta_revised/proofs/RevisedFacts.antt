-- what the fields of a dictionary of the unknowns' rows say of its value
use Rattle.ta_revised.proofs.Common.{ℕ, ℤ, ◌≡◌, ◌<◌, ◌^◌, ◌∙◌, List, Option, Some, ap, arith, get_or, length, subst, sym, get_or-map, length-map, IsBound}
use Rattle.ta_revised.proofs.Common.{narrow_view, Tableau, no_row, row_of, System, IsLeastNegative, NoneIsNegative, revised_view, unknown_row, unknown_rows}
use Rattle.ta_revised.proofs.Common.{IsUnknownRow, AreUnknownRows, Inside, UnknownRow, Column, Basic}
use Rattle.std.proofs.Common.{None}
use Rattle.std.specs.Prelude.{IfSome, IfNone}
use Rattle.ta_revised.specs.Chosen.{LeastIs}
use Rattle.ta_revised.specs.Revised.{IsSoundRevised}
use Rattle.ta_revised.proofs.ModestBounds.{bound_more, unit_bound}

-- the rows of a dictionary, from the count of its columns and its own rows
pub rows_are : (d : Inside) (t : Tableau) (columns : ℕ) (rows : List UnknownRow) → revised_view d ≡ t → columns ≡ length d.non_basic.items
    → rows ≡ d.rows.items → unknown_rows columns rows ≡ t.rows
rows_are d t columns rows view count same =
    ap (λ (n : ℕ). unknown_rows n rows) count ∙ ap (unknown_rows (length d.non_basic.items)) same ∙ ap (λ (u : Tableau). u.rows) view

-- a least negative variable, or none, by the answer
pub least_is : (scale : ℕ) (s : System) (values : List ℤ) (o : Option ℕ) → IfSome o (IsLeastNegative scale s values) → IfNone o (NoneIsNegative scale s values)
    → LeastIs scale s values o
least_is scale s values (Some v) found none = found
least_is scale s values None found none = none

-- every row is bounded
unknown_bound : (columns : ℕ) (x : UnknownRow) → IsUnknownRow columns x → IsBound (2 ^ 31) (unknown_row columns x)
unknown_bound columns (Column v column) h = unit_bound columns v column
unknown_bound columns (Basic r) h = let fits = h.fits in bound_more r.bound (2 ^ 31) (narrow_view r) (omega arith) h.bounded

rows_bound : (columns : ℕ) (xs : List UnknownRow) → AreUnknownRows columns xs → (u : ℕ) → u < length (unknown_rows columns xs)
    → IsBound (2 ^ 31) (get_or (unknown_rows columns xs) u no_row)
rows_bound columns xs are u h =
    let none : UnknownRow = Column 0 0 in
    let below : u < length xs = (let l = length-map xs (unknown_row columns) in omega arith) in
    subst (IsBound (2 ^ 31)) (sym (get_or-map (unknown_row columns) xs u none no_row below)) (unknown_bound columns (get_or xs u none) (are u none below))

pub dictionary_bound : (d : Inside) (t : Tableau) → IsSoundRevised d → revised_view d ≡ t → (u : ℕ) → u < length t.rows → IsBound (2 ^ 31) (row_of t u)
dictionary_bound d t sound view u h =
    subst (λ (x : Tableau). u < length x.rows → IsBound (2 ^ 31) (row_of x u)) view (rows_bound (length d.non_basic.items) d.rows.items sound.rows u) h

-- what holds of all holds of what was found
pub always : {A : Type 0} (o : Option A) (P : Type 0) → P → IfSome o (λ _. P)
always None P p = tt
always (Some a) P p = p
