-- sums of forms, term by term
use Rattle.ta_moment_tree.proofs.Common.{◌≡◌, ◌∙◌, ℕ, ℤ, pos, ◌+◌, ◌<◌, ◌≤◌, ◌+ℤ◌, List, drop, get_or, length, sym, ap, arith, unsigned_abs, ints, drop_more}
use Rattle.ta_moment_tree.proofs.Common.{drop_of_length-le, *ℤ-zero, zero-*ℤ, UnknownForm, number_form, plus_form, times_form, AllByRecursion, each_get_or}
unfoldable use Rattle.ta_moments.specs.Forms.{sum_form, terms_form}
use Rattle.ta_moment_tree.proofs.Forms.{form_same}

sum_assoc : (x y z : ℤ) → (x +ℤ y) +ℤ z ≡ x +ℤ (y +ℤ z)
sum_assoc x y z = omega (arith, ints)

pub plus_assoc : (f g h : UnknownForm) → plus_form (plus_form f g) h ≡ plus_form f (plus_form g h)
plus_assoc f g h = form_same (plus_form (plus_form f g) h) (plus_form f (plus_form g h)) (sum_assoc f.constant g.constant h.constant)
    (λ u. sum_assoc (f.coefficient u) (g.coefficient u) (h.coefficient u))

sum_none : (x : ℤ) → x +ℤ pos 0 ≡ x
sum_none x = omega (arith, ints)

pub plus_none : (f : UnknownForm) → plus_form f (number_form (pos 0)) ≡ f
plus_none f = form_same (plus_form f (number_form (pos 0))) f (sum_none f.constant) (λ u. sum_none (f.coefficient u))

pub times_none : (f : UnknownForm) → times_form (pos 0) f ≡ number_form (pos 0)
times_none f = form_same (times_form (pos 0) f) (number_form (pos 0)) (zero-*ℤ f.constant) (λ u. zero-*ℤ (f.coefficient u))

-- a sum so far, and the sum of what is left
pub sum_more : {X : Type 0} (g : X → UnknownForm) (xs : List X) (i : ℕ) (d : X) (total next all : UnknownForm) → i < length xs
    → next ≡ plus_form total (g (get_or xs i d)) → plus_form total (sum_form g (drop i xs)) ≡ all → plus_form next (sum_form g (drop (i + 1) xs)) ≡ all
unfolding sum_form
sum_more g xs i d total next all b e h =
    ap (λ f. plus_form f (sum_form g (drop (i + 1) xs))) e ∙ plus_assoc total (g (get_or xs i d)) (sum_form g (drop (i + 1) xs))
    ∙ ap (λ ys. plus_form total (sum_form g ys)) (sym (drop_more xs i d b)) ∙ h

pub sum_all : {X : Type 0} (g : X → UnknownForm) (xs : List X) (i : ℕ) (total all : UnknownForm) → length xs ≤ i
    → plus_form total (sum_form g (drop i xs)) ≡ all → total ≡ all
unfolding sum_form
sum_all g xs i total all b h = sym (plus_none total) ∙ ap (λ ys. plus_form total (sum_form g ys)) (sym (drop_of_length-le xs b)) ∙ h

pub terms_more : (point : ℕ → UnknownForm) (xs : List (ℕ × ℤ)) (i : ℕ) (d : ℕ × ℤ) (total next all : UnknownForm) → i < length xs
    → next ≡ plus_form total (times_form (get_or xs i d).1 (point (get_or xs i d).0)) → plus_form total (terms_form point (drop i xs)) ≡ all
    → plus_form next (terms_form point (drop (i + 1) xs)) ≡ all
unfolding terms_form
terms_more point xs i d total next all b e h =
    let g : (ℕ × ℤ) → UnknownForm = λ t. times_form t.1 (point t.0) in
    ap (λ f. plus_form f (terms_form point (drop (i + 1) xs))) e ∙ plus_assoc total (g (get_or xs i d)) (terms_form point (drop (i + 1) xs))
    ∙ ap (λ ys. plus_form total (terms_form point ys)) (sym (drop_more xs i d b)) ∙ h

pub terms_all : (point : ℕ → UnknownForm) (xs : List (ℕ × ℤ)) (i : ℕ) (total all : UnknownForm) → length xs ≤ i
    → plus_form total (terms_form point (drop i xs)) ≡ all → total ≡ all
unfolding terms_form
terms_all point xs i total all b h = sym (plus_none total) ∙ ap (λ ys. plus_form total (terms_form point ys)) (sym (drop_of_length-le xs b)) ∙ h

-- ---- products with a term's coefficient
pub factor_small : (ts : List (ℕ × ℤ)) (i : ℕ) → AllByRecursion (λ (t : ℕ × ℤ). unsigned_abs t.1 ≤ 1000000000) ts → i < length ts
    → unsigned_abs (get_or ts i (0, pos 0)).1 ≤ 1000000000
factor_small ts i each b = each_get_or (λ (t : ℕ × ℤ). unsigned_abs t.1 ≤ 1000000000) ts i (0, pos 0) each b

none_sum : (x : ℤ) → pos 0 +ℤ x ≡ x
none_sum x = omega (arith, ints)

pub none_plus : (f : UnknownForm) → plus_form (number_form (pos 0)) f ≡ f
none_plus f = form_same (plus_form (number_form (pos 0)) f) f (none_sum f.constant) (λ u. none_sum (f.coefficient u))
