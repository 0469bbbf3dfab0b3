-- What the values of a solution say, by the meaning of the unknowns.
use Rattle.std.specs.Prelude.{ℤ, pos, ◌==◌, ◌&&◌, if◌then◌else◌, Bool, false, List, [], ◌∷◌}
use Rattle.ta_encode.specs.declared.meaning.Meaning.{Meaning}
use Rattle.ta_encode.specs.declared.meaning.Meaning.TheVariants.{Parameter, Start, Count, Single}

-- whether two unknowns stand for the same
abbrev pub same_meaning : Meaning → Meaning → Bool
same_meaning (Parameter i) (Parameter j) = i == j
same_meaning (Start l) (Start m) = l == m
same_meaning (Count k r) (Count j q) = (k == j) && (r == q)
same_meaning (Single k r) (Single j q) = (k == j) && (r == q)
same_meaning _ _ = false

-- the value of the unknown that stands for something, 0 where there is no such unknown
unfoldable pub unknown_value : List Meaning → List ℤ → Meaning → ℤ
unknown_value [] values m = pos 0
unknown_value (n ∷ ms) [] m = pos 0
unknown_value (n ∷ ms) (v ∷ vs) m = if same_meaning n m then v else unknown_value ms vs m
