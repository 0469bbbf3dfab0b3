-- The rows of compared forms, and what a comparison and a condition mean.
use Rattle.ta_meaning.proofs.Common.{◌≡◌, ◌≤◌, ℕ, ℤ, pos, ◌+◌, ◌^◌, ◌-ℤ◌, Bool, List, [], ◌∷◌, ◌++◌, length, map, get_or, Result, sym, ap, subst, ◌∙◌}
use Rattle.ta_meaning.proofs.Common.{append-nil, append_assoc, length-map, AllByRecursion, less_alike, minus_alike, at_map_both, coefficient, Form, Row, Terms}
use Rattle.ta_meaning.proofs.Common.{plain_sum, plain_comparison, Relation, TreeComparison, FileFault, RowOver, Comparison, Condition, sum_coefficient}
use Rattle.ta_meaning.proofs.Common.{sum_constant, sum_uses, Difference, FormOf, RowOf, Pairwise, linear_sum, linear_difference, differences_by}
use Rattle.ta_meaning.proofs.Common.{comparison_rows, any_large, MeansComparison, is_large_linear, Scope, FirstOrMemory, Answers, where_, else_, sum_faults}
use Rattle.ta_meaning.proofs.Common.{comparison_faults, condition_faults, ResolvedForm, ResolvedComparison, ResolvedCondition, IsDifference, PartOf}
use Rattle.ta_meaning.proofs.Common.{is_large_form, any_large_row, form_differences, RowOfDifference, refl, arith, each_push, length_push, empty_before}
use Rattle.ta_meaning.proofs.Common.{empty_both, paired_length}
use Rattle.ta_meaning.proofs.Answering.{else-left-none, not-where, answers-along, answers-knowing, answers-otherwise, append-left-first, append-right-first}
use Rattle.ta_meaning.proofs.Answering.{else-left-first}
use Rattle.ta_meaning.proofs.LargeNumbers.{same_large, same_large_rows, form_over, rows_over}
use Rattle.ta_syntax.specs.declared.tokens.Relation.TheVariants as relation
use Rattle.ta_syntax.specs.declared.fault.FileFault.TheVariants as fault

-- ---- a sum

-- the answer of a sum whose terms have no error
pub sum_answers : (s : Scope) (faults : List FileFault) (plain : Terms) (at : ℕ) (form : Form) (r : Result Form FileFault) → faults ≡ []
    → PartOf (sum_uses s.allowed plain) (linear_sum s.allowed plain) (2 ^ 93) form
    → Answers (where_ (is_large_form form) (fault.TooLarge at)) (λ f. f ≡ form) r
    → Answers (else_ faults (where_ (is_large_linear (linear_sum s.allowed plain)) (fault.TooLarge at))) (ResolvedForm s.allowed plain) r
sum_answers s faults plain at form r none part answer =
    let right : (f : Form) → where_ (is_large_form form) (fault.TooLarge at) ≡ [] → f ≡ form → ResolvedForm s.allowed plain f =
    λ f small e. subst (λ (x : Form). ResolvedForm s.allowed plain x) (sym e) (record {
      means = record { known = part.known; numbers = part.numbers };
      over = form_over (linear_sum s.allowed plain) (length s.allowed) form part.numbers (length-map s.allowed (λ x. sum_coefficient x plain))
          (not-where (is_large_form form) (fault.TooLarge at) small);
    })
    in
    let known = answers-knowing (where_ (is_large_form form) (fault.TooLarge at)) (λ f. f ≡ form) (ResolvedForm s.allowed plain) r right answer in
    let large = answers-along (where_ (is_large_form form) (fault.TooLarge at)) (where_ (is_large_linear (linear_sum s.allowed plain)) (fault.TooLarge at))
    (ResolvedForm s.allowed plain) r (ap (λ (b : Bool). where_ b (fault.TooLarge at)) (same_large (linear_sum s.allowed plain) form part.numbers)) known in
    answers-otherwise faults (where_ (is_large_linear (linear_sum s.allowed plain)) (fault.TooLarge at)) (ResolvedForm s.allowed plain) r none large

row_of : (names : List (List ℕ)) (greater less : Terms) (g l : Form) (shift : ℤ) (row : Row) → FormOf (linear_sum names greater) g
    → FormOf (linear_sum names less) l → IsDifference row.form g l shift
    → RowOf (linear_difference names (record { greater = greater; less = less; shift = shift })) row
row_of names greater less g l shift row is_g is_l is = record {
  constant = is.constant ∙ less_alike g.constant l.constant (sum_constant greater) (sum_constant less) shift is_g.constant is_l.constant;
  coefficients = λ i.
      is.coefficients i
      ∙ minus_alike (coefficient g.terms i) (coefficient l.terms i) (get_or (map (λ x. sum_coefficient x greater) names) i (pos 0))
      (get_or (map (λ x. sum_coefficient x less) names) i (pos 0)) (is_g.coefficients i) (is_l.coefficients i)
      ∙ sym (at_map_both (λ a b. a -ℤ b) refl (λ x. sum_coefficient x greater) (λ x. sum_coefficient x less) names i);
}

-- the rows of compared forms have the numbers of the comparison
pub rows_are : (names : List (List ℕ)) (rel : Relation) (left right : Terms) (l r : Form) (rows : List Row) → FormOf (linear_sum names left) l
    → FormOf (linear_sum names right) r → Pairwise RowOfDifference (form_differences rel l r) rows
    → Pairwise RowOf (map (linear_difference names) (differences_by rel left right)) rows
rows_are names relation.Less left right l r (a ∷ []) is_l is_r h = (row_of names right left r l (pos 1) a is_r is_l h.0, tt)
rows_are names relation.AtMost left right l r (a ∷ []) is_l is_r h = (row_of names right left r l (pos 0) a is_r is_l h.0, tt)
rows_are names relation.Equal left right l r (a ∷ b ∷ []) is_l is_r h =
    (row_of names left right l r (pos 0) a is_l is_r h.0, (row_of names right left r l (pos 0) b is_r is_l h.1.0, tt))
rows_are names relation.AtLeast left right l r (a ∷ []) is_l is_r h = (row_of names left right l r (pos 0) a is_l is_r h.0, tt)
rows_are names relation.More left right l r (a ∷ []) is_l is_r h = (row_of names left right l r (pos 1) a is_l is_r h.0, tt)
rows_are names relation.Less left right l r [] is_l is_r h = absurd h
rows_are names relation.AtMost left right l r [] is_l is_r h = absurd h
rows_are names relation.Equal left right l r [] is_l is_r h = absurd h
rows_are names relation.AtLeast left right l r [] is_l is_r h = absurd h
rows_are names relation.More left right l r [] is_l is_r h = absurd h
rows_are names relation.Less left right l r (a ∷ b ∷ rows) is_l is_r h = absurd h.1
rows_are names relation.AtMost left right l r (a ∷ b ∷ rows) is_l is_r h = absurd h.1
rows_are names relation.Equal left right l r (a ∷ []) is_l is_r h = absurd h.1
rows_are names relation.Equal left right l r (a ∷ b ∷ c ∷ rows) is_l is_r h = absurd h.1.1
rows_are names relation.AtLeast left right l r (a ∷ b ∷ rows) is_l is_r h = absurd h.1
rows_are names relation.More left right l r (a ∷ b ∷ rows) is_l is_r h = absurd h.1

differences_count : (rel : Relation) (l r : Form) → (1 ≤ length (form_differences rel l r)) × (length (form_differences rel l r) ≤ 2)
differences_count relation.Less l r = (omega arith, omega arith)
differences_count relation.AtMost l r = (omega arith, omega arith)
differences_count relation.Equal l r = (omega arith, omega arith)
differences_count relation.AtLeast l r = (omega arith, omega arith)
differences_count relation.More l r = (omega arith, omega arith)

-- a comparison has one row or two
pub rows_count : (rel : Relation) (l r : Form) (rows : List Row) → Pairwise RowOfDifference (form_differences rel l r) rows
    → (1 ≤ length rows) × (length rows ≤ 2)
rows_count rel l r rows h =
    let same : length (form_differences rel l r) ≡ length rows = sym (paired_length RowOfDifference (form_differences rel l r) rows h) in
    let few : (1 ≤ length (form_differences rel l r)) × (length (form_differences rel l r) ≤ 2) = differences_count rel l r in
    (omega (arith, same, few.0), omega (arith, same, few.1))

pub each_length : (names : List (List ℕ)) (ds : List Difference) → AllByRecursion (λ l. length l.coefficients ≡ length names) (map (linear_difference names) ds)
each_length names [] = tt
each_length names (d ∷ ds) = (length-map names (λ x. sum_coefficient x d.greater -ℤ sum_coefficient x d.less), each_length names ds)

-- the answer of a comparison whose sums have no error
pub comparison_answers : (s : Scope) (c : TreeComparison) (l r : Form) (rows : List Row) → sum_faults s c.left ≡ [] → sum_faults s c.right ≡ []
    → PartOf (sum_uses s.allowed (plain_sum c.left)) (linear_sum s.allowed (plain_sum c.left)) (2 ^ 93) l
    → PartOf (sum_uses s.allowed (plain_sum c.right)) (linear_sum s.allowed (plain_sum c.right)) (2 ^ 93) r
    → Pairwise RowOfDifference (form_differences c.relation l r) rows
    → (where_ (any_large_row rows) (fault.TooLarge c.at) ≡ where_ (any_large (comparison_rows s.allowed (plain_comparison c))) (fault.TooLarge c.at))
    × (where_ (any_large_row rows) (fault.TooLarge c.at) ≡ [] → (comparison : Comparison) → comparison.rows ≡ rows
    → ResolvedComparison s.allowed (plain_comparison c) comparison)
comparison_answers s c l r rows none_left none_right part_left part_right is =
    let numbers = rows_are s.allowed c.relation (plain_sum c.left) (plain_sum c.right) l r rows part_left.numbers part_right.numbers is in (
      ap (λ (b : Bool). where_ b (fault.TooLarge c.at)) (same_large_rows (comparison_rows s.allowed (plain_comparison c)) rows numbers),
      λ small comparison e.
          let over = rows_over (comparison_rows s.allowed (plain_comparison c)) (length s.allowed) rows numbers
          (each_length s.allowed (differences_by c.relation (plain_sum c.left) (plain_sum c.right)))
          (not-where (any_large_row rows) (fault.TooLarge c.at) small) in
          record {
            means = record {
              known = record { left = part_left.known; right = part_right.known };
              rows = subst
                  (λ (rs : List Row). Pairwise RowOf (comparison_rows s.allowed (plain_comparison c)) rs) (sym e) numbers;
            };
            over = subst (λ (rs : List Row). AllByRecursion (RowOver (length s.allowed)) rs) (sym e) over;
          },
    )

-- an error of a comparison's first sum is its first
pub left_first : (s : Scope) (c : TreeComparison) (e : FileFault) → FirstOrMemory (sum_faults s c.left) e → FirstOrMemory (comparison_faults s c) e
left_first s c e first =
    else-left-first (sum_faults s c.left ++ sum_faults s c.right) (where_ (any_large (comparison_rows s.allowed (plain_comparison c))) (fault.TooLarge c.at)) e
    (append-left-first (sum_faults s c.left) (sum_faults s c.right) e first)

-- an error of its second sum is its first where the first sum has none
pub right_first : (s : Scope) (c : TreeComparison) (e : FileFault) → sum_faults s c.left ≡ [] → FirstOrMemory (sum_faults s c.right) e
    → FirstOrMemory (comparison_faults s c) e
right_first s c e none first =
    else-left-first (sum_faults s c.left ++ sum_faults s c.right) (where_ (any_large (comparison_rows s.allowed (plain_comparison c))) (fault.TooLarge c.at)) e
    (append-right-first (sum_faults s c.left) (sum_faults s c.right) e none first)

-- where the sums have no error, that of the whole comparison is left
pub last_of_comparison : (s : Scope) (c : TreeComparison) → sum_faults s c.left ≡ [] → sum_faults s c.right ≡ []
    → comparison_faults s c ≡ where_ (any_large (comparison_rows s.allowed (plain_comparison c))) (fault.TooLarge c.at)
last_of_comparison s c none_left none_right =
    else-left-none (sum_faults s c.left ++ sum_faults s c.right) (where_ (any_large (comparison_rows s.allowed (plain_comparison c))) (fault.TooLarge c.at))
    (empty_both (sum_faults s c.left) (sum_faults s c.right) none_left none_right)

-- ---- comparisons one after another

-- what is resolved so far, and what is left
pub record Resolving (s : Scope) (all left : List TreeComparison) (so_far : List Comparison) : Type 0 where
  pub faults : condition_faults s all ≡ condition_faults s left
  pub means : (rest : List Comparison) → Pairwise (MeansComparison s.allowed) (map plain_comparison left) rest
      → Pairwise (MeansComparison s.allowed) (map plain_comparison all) (so_far ++ rest)
  pub over : AllByRecursion (λ (k : Comparison). AllByRecursion (RowOver (length s.allowed)) k.rows) so_far
  pub count : length so_far + length left ≡ length all

pub condition_begins : (s : Scope) (all : List TreeComparison) (so_far : List Comparison) → so_far ≡ [] → Resolving s all all so_far
condition_begins s all so_far none =
    let begin : Resolving s all all [] = record { faults = refl; means = λ rest h. h; over = tt; count = omega arith } in
    subst (λ (ks : List Comparison). Resolving s all all ks) (sym none) begin

pub condition_stops : (s : Scope) (all left : List TreeComparison) (c : TreeComparison) (so_far : List Comparison) (e : FileFault)
    → Resolving s all (c ∷ left) so_far → FirstOrMemory (comparison_faults s c) e → FirstOrMemory (condition_faults s all) e
condition_stops s all left c so_far e had first = rw had.faults (append-left-first (comparison_faults s c) (condition_faults s left) e first)

pub condition_goes_on : (s : Scope) (all left : List TreeComparison) (c : TreeComparison) (so_far : List Comparison) (k : Comparison)
    → Resolving s all (c ∷ left) so_far → comparison_faults s c ≡ [] → ResolvedComparison s.allowed (plain_comparison c) k
    → Resolving s all left (so_far ++ k ∷ [])
condition_goes_on s all left c so_far k had none one = record {
  faults = had.faults ∙ empty_before (comparison_faults s c) (condition_faults s left) none;
  means = λ rest h. subst (λ (ks : List Comparison). Pairwise (MeansComparison s.allowed) (map plain_comparison all) ks)
      (sym (append_assoc so_far (k ∷ []) rest)) (had.means (k ∷ rest) (one.means, h));
  over = each_push (λ (j : Comparison). AllByRecursion (RowOver (length s.allowed)) j.rows) so_far k had.over one.over;
  count = let count = had.count in omega (arith, length_push so_far k);
}

pub condition_ends : (s : Scope) (all : List TreeComparison) (so_far : List Comparison) (condition : Condition) → Resolving s all [] so_far
    → condition.comparisons ≡ so_far → (condition_faults s all ≡ []) × ResolvedCondition s.allowed (map plain_comparison all) condition
condition_ends s all so_far condition had e =
    let whole = sym e in (
      had.faults,
      record {
        means = subst (λ (ks : List Comparison). Pairwise (MeansComparison s.allowed) (map plain_comparison all) ks) (append-nil so_far ∙ whole)
            (had.means [] tt);
        over = subst (λ (ks : List Comparison). AllByRecursion (λ (k : Comparison). AllByRecursion (RowOver (length s.allowed)) k.rows) ks) whole had.over;
      },
    )
