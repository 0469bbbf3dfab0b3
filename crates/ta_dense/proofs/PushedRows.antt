-- a system whose rows are written one by one
use Rattle.ta_dense.proofs.Common.{ℕ, List, [], ◌∷◌, ◌++◌, IsNormal, AllBelow, Row}

pub AllBelow-push : (n : ℕ) (rs : List Row) (r : Row) → AllBelow n rs → IsNormal 0 n r.form.terms → AllBelow n (rs ++ r ∷ [])
AllBelow-push n [] r all h = (h, tt)
AllBelow-push n (q ∷ rs) r all h = (all.0, AllBelow-push n rs r all.1 h)
