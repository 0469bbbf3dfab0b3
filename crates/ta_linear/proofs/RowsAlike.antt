-- systems of the same numbers: what they share
use Rattle.ta_linear.proofs.Common.{◌≡◌, List, [], ◌∷◌, ◌++◌, length, suc, refl, ap, Row}
use Rattle.ta_linear.specs.SameNumbers.{SameRow, RowsAlike}

pub row_alike : (r : Row) → SameRow r r
row_alike r = record { constant = refl; coefficients = λ u. refl }

pub rows_behind : (rs xs ys : List Row) → RowsAlike xs ys → RowsAlike (rs ++ xs) (rs ++ ys)
rows_behind [] xs ys same = same
rows_behind (r ∷ rs) xs ys same = (row_alike r, rows_behind rs xs ys same)

pub count_alike : (rs qs : List Row) → RowsAlike rs qs → length rs ≡ length qs
count_alike [] [] same = refl
count_alike [] (q ∷ qs) same = absurd same
count_alike (r ∷ rs) [] same = absurd same
count_alike (r ∷ rs) (q ∷ qs) same = ap suc (count_alike rs qs same.1)
