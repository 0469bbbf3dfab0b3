-- Numbers that are not too large are those of a form, and sums and comparisons without an error mean forms and rows.
use Rattle.ta_meaning.proofs.Common.{◌≡◌, ◌≢◌, ℕ, zero, suc, ℤ, pos, negsuc, ◌+◌, ◌^◌, ◌≤◌, unsigned_abs, true, false, List, [], ◌∷◌, ◌++◌, map, length, get_or}
use Rattle.ta_meaning.proofs.Common.{IsTrue, Some, None, refl, sym, ap, subst, ◌∙◌, arith, list_any, AllByRecursion, ints, or_parts, and_from, length-map}
use Rattle.ta_meaning.proofs.Common.{coefficient, IsNormal, Form, Row, coefficient-below, coefficient-first, coefficient-other, plain_sum, term_of}
use Rattle.ta_meaning.proofs.Common.{plain_comparison, Terms, Relation, TreeSum, TreeComparison, RowOver, Comparison, Condition, sum_uses, term_uses}
use Rattle.ta_meaning.proofs.Common.{factor_uses, Linear, FormOf, RowOf, Pairwise, MeansComparison, linear_sum, differences_by, linear_difference}
use Rattle.ta_meaning.proofs.Common.{comparison_rows, is_large, is_large_linear, any_large, Scope, WithFaults, where_, linear_term, sum_faults}
use Rattle.ta_meaning.proofs.Common.{comparison_faults, condition_faults, number_faults, ResolvedForm, ResolvedComparison, ResolvedCondition, SeenTerms}
use Rattle.ta_meaning.proofs.Common.{SeenTerm, SeenFactor, seen_none, seen_more, seen_number, seen_times, seen_alone, seen_blank, seen_named, seen_nested}
use Rattle.ta_meaning.proofs.Common.{seen_sum, plain_of_terms, plain_of_term, plain_of_factor, empty_left, empty_right, paired_length}
use Rattle.ta_linear.specs.Terms.{IsTerm}
use Rattle.ta_meaning.proofs.Answering.{not-where, none-else-left, none-else-right}
use Rattle.ta_meaning.proofs.LargeNumbers.{small_tells, same_large, same_large_rows, form_over, rows_over}
use Rattle.ta_meaning.proofs.ComparedForms.{each_length}
use Rattle.ta_meaning.proofs.UsedNames.{used_is_allowed}
use Rattle.ta_meaning.proofs.SeenSums.{judged_of_terms, judged_of_term, judged_of_factor, every_sum_seen}
use Rattle.ta_syntax.specs.declared.tokens.Relation.TheVariants as relation
use Rattle.ta_syntax.specs.declared.fault.FileFault.TheVariants as fault

-- ---- normal terms with given coefficients

-- the terms whose coefficients are these, from variable k on
abbrev terms_from : ℕ → List ℤ → List (ℕ × ℤ)
terms_from k [] = []
terms_from k (pos zero ∷ zs) = terms_from (k + 1) zs
terms_from k (pos (suc n) ∷ zs) = (k, pos (suc n)) ∷ terms_from (k + 1) zs
terms_from k (negsuc n ∷ zs) = (k, negsuc n) ∷ terms_from (k + 1) zs

normal_lower : (low high : ℕ) (ts : List (ℕ × ℤ)) → IsNormal (low + 1) high ts → IsNormal low high ts
normal_lower low high [] n = let h : low + 1 ≤ high = n in omega arith
normal_lower low high (t ∷ ts) n = (omega (arith, n.0), n.1, n.2)

small_term : (k : ℕ) (z : ℤ) → z ≢ pos 0 → is_large z ≡ false → IsTerm (k, z)
small_term k z some small = record { not_zero = some; in_range = let h : unsigned_abs z ≤ 1000000000 = small_tells z small in omega arith }

terms_normal : (high k : ℕ) (zs : List ℤ) → list_any is_large zs ≡ false → k + length zs ≤ high → IsNormal k high (terms_from k zs)
terms_normal high k [] small fits = let h : k + 0 ≤ high = fits in omega arith
terms_normal high k (pos zero ∷ zs) small fits = normal_lower k high (terms_from (k + 1) zs)
    (terms_normal high (k + 1) zs (or_parts (is_large (pos zero)) (list_any is_large zs) small).1 (omega arith))
terms_normal high k (pos (suc n) ∷ zs) small fits =
    let s = or_parts (is_large (pos (suc n))) (list_any is_large zs) small in
    (omega arith, small_term k (pos (suc n)) (λ e. absurd (omega (arith, ints))) s.0, terms_normal high (k + 1) zs s.1 (omega arith))
terms_normal high k (negsuc n ∷ zs) small fits =
    let s = or_parts (is_large (negsuc n)) (list_any is_large zs) small in
    (omega arith, small_term k (negsuc n) (λ e. absurd (omega (arith, ints))) s.0, terms_normal high (k + 1) zs s.1 (omega arith))

terms_are : (high k : ℕ) (zs : List ℤ) (i x : ℕ) → list_any is_large zs ≡ false → k + length zs ≤ high → x ≡ k + i
    → coefficient (terms_from k zs) x ≡ get_or zs i (pos 0)
terms_are high k [] i x small fits e = refl
terms_are high k (pos zero ∷ zs) zero x small fits e =
    let s = or_parts (is_large (pos zero)) (list_any is_large zs) small in
    coefficient-below (k + 1) high (terms_from (k + 1) zs) x (terms_normal high (k + 1) zs s.1 (omega arith)) (omega arith)
terms_are high k (pos zero ∷ zs) (suc i) x small fits e =
    let s = or_parts (is_large (pos zero)) (list_any is_large zs) small in
    terms_are high (k + 1) zs i x s.1 (omega arith) (omega arith)
terms_are high k (pos (suc n) ∷ zs) zero x small fits e =
    let s = or_parts (is_large (pos (suc n))) (list_any is_large zs) small in
    let same : x ≡ k = omega arith in
    ap (coefficient (terms_from k (pos (suc n) ∷ zs))) same
    ∙ coefficient-first high (k, pos (suc n)) (terms_from (k + 1) zs) (terms_normal high (k + 1) zs s.1 (omega arith))
terms_are high k (pos (suc n) ∷ zs) (suc i) x small fits e =
    let s = or_parts (is_large (pos (suc n))) (list_any is_large zs) small in
    coefficient-other (k, pos (suc n)) (terms_from (k + 1) zs) x (λ q. absurd (omega arith)) ∙ terms_are high (k + 1) zs i x s.1 (omega arith) (omega arith)
terms_are high k (negsuc n ∷ zs) zero x small fits e =
    let s = or_parts (is_large (negsuc n)) (list_any is_large zs) small in
    let same : x ≡ k = omega arith in
    ap (coefficient (terms_from k (negsuc n ∷ zs))) same
    ∙ coefficient-first high (k, negsuc n) (terms_from (k + 1) zs) (terms_normal high (k + 1) zs s.1 (omega arith))
terms_are high k (negsuc n ∷ zs) (suc i) x small fits e =
    let s = or_parts (is_large (negsuc n)) (list_any is_large zs) small in
    coefficient-other (k, negsuc n) (terms_from (k + 1) zs) x (λ q. absurd (omega arith)) ∙ terms_are high (k + 1) zs i x s.1 (omega arith) (omega arith)

-- ---- forms and rows
pub form_exists : (l : Linear) → is_large_linear l ≡ false → length l.coefficients ≤ 224 → (form : Form) × FormOf l form
form_exists l small few =
    let s = or_parts (is_large l.constant) (list_any is_large l.coefficients) small in
    let constant : unsigned_abs l.constant ≤ 1000000000 = small_tells l.constant s.0 in (
      record {
        constant = l.constant;
        terms = terms_from 0 l.coefficients;
        constant_fits = omega arith;
        normal = terms_normal (2 ^ 32) 0 l.coefficients s.1 (omega arith);
      },
      record { constant = refl; coefficients = λ i. terms_are (2 ^ 32) 0 l.coefficients i i s.1 (omega arith) (omega arith) },
    )

pub rows_exist : (ls : List Linear) → any_large ls ≡ false → AllByRecursion (λ l. length l.coefficients ≤ 224) ls → (rows : List Row) × Pairwise RowOf ls rows
rows_exist [] small few = ([], tt)
rows_exist (l ∷ ls) small few =
    let s = or_parts (is_large_linear l) (any_large ls) small in
    let f = form_exists l s.0 few.0 in
    let more = rows_exist ls s.1 few.1 in
    (record { form = f.0 } ∷ more.0, (f.1, more.1))

mutual
  terms_known : (s : Scope) (ts : SeenTerms) → (judged_of_terms s ts).faults ≡ [] → sum_uses s.allowed (plain_of_terms ts) ≡ true
  terms_known s seen_none none = refl
  terms_known s (seen_more sign t ts) none = and_from (term_uses s.allowed (plain_of_term t)) (sum_uses s.allowed (plain_of_terms ts))
      (term_known s t (empty_left (judged_of_term s t).faults (judged_of_terms s ts).faults none))
      (terms_known s ts (empty_right (judged_of_term s t).faults (judged_of_terms s ts).faults none))

  term_known : (s : Scope) (t : SeenTerm) → (judged_of_term s t).faults ≡ [] → term_uses s.allowed (plain_of_term t) ≡ true
  term_known s (seen_number at d) none = refl
  term_known s (seen_times at d f) none =
      let j = judged_of_factor s f in
      factor_known s f (empty_right (number_faults (Some d)) j.faults
      (none-else-left (number_faults (Some d) ++ j.faults)
      (where_ (is_large_linear (linear_term s.allowed (term_of (Some d) (Some j.plain)))) (fault.TooLarge at)) none))
  term_known s (seen_alone at f) none =
      let j = judged_of_factor s f in
      factor_known s f (none-else-left j.faults (where_ (is_large_linear (linear_term s.allowed (term_of None (Some j.plain)))) (fault.TooLarge at)) none)
  term_known s (seen_blank at) none = refl

  factor_known : (s : Scope) (f : SeenFactor) → (judged_of_factor s f).faults ≡ [] → factor_uses s.allowed (plain_of_factor f) ≡ true
  factor_known s (seen_named n) none = used_is_allowed s.places s.allowed n none
  factor_known s (seen_nested ts) none = terms_known s ts none

-- a sum without an error uses names alone that may stand there
pub sum_known : (s : Scope) (t : TreeSum) → sum_faults s t ≡ [] → IsTrue (sum_uses s.allowed (plain_sum t))
sum_known s t none =
    let seen = every_sum_seen t in
    subst (λ (p : Terms). sum_uses s.allowed p ≡ true) (sym seen.plain)
    (terms_known s (seen_sum t) (sym (ap (λ (j : WithFaults Terms). j.faults) (seen.judged s)) ∙ none))

-- ---- sums, comparisons and conditions
pub sum_exists : (s : Scope) (t : TreeSum) → length s.allowed ≤ 224 → sum_faults s t ≡ [] → is_large_linear (linear_sum s.allowed (plain_sum t)) ≡ false
    → (form : Form) × ResolvedForm s.allowed (plain_sum t) form
sum_exists s t few none small =
    let l = linear_sum s.allowed (plain_sum t) in
    let count : length l.coefficients ≡ length s.allowed = length-map s.allowed _ in
    let f = form_exists l small (subst (λ n. n ≤ 224) (sym count) few) in (
      f.0,
      record {
        means = record { known = sum_known s t none; numbers = f.1 };
        over = form_over l (length s.allowed) f.0 f.1 count
            (same_large l f.0 f.1 ∙ small);
      },
    )

one_or_two : (rel : Relation) (l r : Terms) → (1 ≤ length (differences_by rel l r)) × (length (differences_by rel l r) ≤ 2)
one_or_two relation.Less l r = (omega arith, omega arith)
one_or_two _ l r = (omega arith, omega arith)

all_few : (n : ℕ) (ls : List Linear) → n ≤ 224 → AllByRecursion (λ l. length l.coefficients ≡ n) ls → AllByRecursion (λ l. length l.coefficients ≤ 224) ls
all_few n [] few h = tt
all_few n (l ∷ ls) few h = (subst (λ m. m ≤ 224) (sym h.0) few, all_few n ls few h.1)

pub comparison_exists : (s : Scope) (c : TreeComparison) → length s.allowed ≤ 224 → comparison_faults s c ≡ [] → (k : Comparison)
    × ResolvedComparison s.allowed (plain_comparison c) k
comparison_exists s c few none =
    let ls = comparison_rows s.allowed (plain_comparison c) in
    let sums = none-else-left (sum_faults s c.left ++ sum_faults s c.right) _ none in
    let small = not-where (any_large ls) (fault.TooLarge c.at) (none-else-right (sum_faults s c.left ++ sum_faults s c.right) _ none) in
    let counts = each_length s.allowed (differences_by c.relation (plain_sum c.left) (plain_sum c.right)) in
    let rows = rows_exist ls small (all_few (length s.allowed) ls few counts) in
    let number = one_or_two c.relation (plain_sum c.left) (plain_sum c.right) in
    let count : length rows.0 ≡ length (differences_by c.relation (plain_sum c.left) (plain_sum c.right)) = paired_length RowOf ls rows.0 rows.1
    ∙ length-map (differences_by c.relation (plain_sum c.left) (plain_sum c.right)) (linear_difference s.allowed) in (
      record { rows = rows.0; some = subst (λ n. 1 ≤ n) (sym count) number.0; most = subst (λ n. n ≤ 2) (sym count) number.1 },
      record {
        means = record {
          known = record {
            left = sum_known s c.left (empty_left (sum_faults s c.left) (sum_faults s c.right) sums);
            right = sum_known s c.right
                (empty_right (sum_faults s c.left) (sum_faults s c.right) sums);
          };
          rows = rows.1;
        };
        over = rows_over ls (length s.allowed) rows.0 rows.1 counts (same_large_rows ls rows.0 rows.1 ∙ small);
      },
    )

record MadeComparisons (s : Scope) (cs : List TreeComparison) : Type 0 where
  items : List Comparison
  count : length items ≡ length cs
  means : Pairwise (MeansComparison s.allowed) (map plain_comparison cs) items
  over : AllByRecursion (λ (k : Comparison). AllByRecursion (RowOver (length s.allowed)) k.rows) items

comparisons_exist : (s : Scope) (cs : List TreeComparison) → length s.allowed ≤ 224 → condition_faults s cs ≡ [] → MadeComparisons s cs
comparisons_exist s [] few none = record { items = []; count = refl; means = tt; over = tt }
comparisons_exist s (c ∷ cs) few none =
    let k = comparison_exists s c few (empty_left (comparison_faults s c) (condition_faults s cs) none) in
    let more = comparisons_exist s cs few (empty_right (comparison_faults s c) (condition_faults s cs) none) in
    record { items = k.0 ∷ more.items; count = ap suc more.count; means = (k.1.means, more.means); over = (k.1.over, more.over) }

pub condition_exists : (s : Scope) (cs : List TreeComparison) → length s.allowed ≤ 224 → length cs ≤ 16 → condition_faults s cs ≡ [] → (k : Condition)
    × ResolvedCondition s.allowed (map plain_comparison cs) k
condition_exists s cs few short none =
    let m = comparisons_exist s cs few none in
    (record { comparisons = m.items; limit = subst (λ n. n ≤ 16) (sym m.count) short }, record { means = m.means; over = m.over })
