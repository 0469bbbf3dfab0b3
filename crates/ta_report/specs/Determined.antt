-- The text of `show` determines the file and the orders of its guards.
use Rattle.std.specs.Prelude.{ℕ, ◌<◌, ◌^◌, ◌≡◌, List, ◌++◌, length}
use Rattle.std.specs.List.{AllByRecursion}
use Rattle.ta_automaton.specs.declared.file.File.{File}
use Rattle.ta_report.specs.Show.{show_text}

-- pairs of numbers, as many as a list in memory can hold
pub record ArePairs (orders : List (ℕ × ℕ)) : Type 0 where
  pub count : length orders < 2 ^ 64
  pub fit : AllByRecursion (λ (o : ℕ × ℕ). (o.0 < 2 ^ 32) × (o.1 < 2 ^ 32)) orders

-- a text, whatever stands behind it, begins with that of at most one file and at most one list of pairs: no two have one text, and no text
-- begins another
abbrev pub ShowsDiffer : Type 0
ShowsDiffer =
    (f g : File) (orders others : List (ℕ × ℕ)) (more rest : List ℕ) → ArePairs orders → ArePairs others
    → show_text f orders ++ more ≡ show_text g others ++ rest → (f ≡ g) × (orders ≡ others) × (more ≡ rest)
