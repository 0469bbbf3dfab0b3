-- coefficients times values
use Rattle.ta_encode.proofs.Common.{◌≡◌, ℕ, ℤ, pos, ◌+ℤ◌, ◌-ℤ◌, ◌*ℤ◌, List, [], ◌∷◌, ◌++◌, map, length, arith, sym, refl, ints, zero-*ℤ, *ℤ-zero, distributes}
use Rattle.ta_encode.proofs.Common.{distributes_right, minus_times, times_assoc, terms_value, sum_of_products, total}

pub combine-append : {X : Type 0} (g : X → ℤ) (ms ns : List X) (vs ws : List ℕ) → length vs ≡ length ms
    → sum_of_products (map g (ms ++ ns)) (vs ++ ws) ≡ (sum_of_products (map g ms) vs +ℤ sum_of_products (map g ns) ws)
unfolding sum_of_products
combine-append g [] ns [] ws e = omega (arith, ints)
combine-append g [] ns (v ∷ vs) ws e = absurd (omega arith)
combine-append g (m ∷ ms) ns [] ws e = absurd (omega arith)
combine-append g (m ∷ ms) ns (v ∷ vs) ws e = omega (arith, ints, combine-append g ms ns vs ws (omega arith))

pub combine-extra : {X : Type 0} (g : X → ℤ) (ms : List X) (vs more : List ℕ) → length vs ≡ length ms
    → sum_of_products (map g ms) (vs ++ more) ≡ sum_of_products (map g ms) vs
unfolding sum_of_products
combine-extra g [] vs more e = refl
combine-extra g (m ∷ ms) [] more e = absurd (omega arith)
combine-extra g (m ∷ ms) (v ∷ vs) more e = omega (arith, ints, combine-extra g ms vs more (omega arith))

pub combine-map : {X Y : Type 0} (g : Y → ℤ) (k : X → Y) (t : X → ℕ) (xs : List X)
    → sum_of_products (map g (map k xs)) (map t xs) ≡ total (λ x. g (k x) *ℤ pos (t x)) xs
unfolding sum_of_products total
combine-map g k t [] = refl
combine-map g k t (x ∷ xs) = omega (arith, ints, combine-map g k t xs)

pub combine-zero : {X : Type 0} (ms : List X) (vs : List ℕ) → sum_of_products (map (λ m. pos 0) ms) vs ≡ pos 0
unfolding sum_of_products
combine-zero [] vs = refl
combine-zero (m ∷ ms) [] = refl
combine-zero (m ∷ ms) (v ∷ vs) = omega (arith, ints, combine-zero ms vs, zero-*ℤ (pos v))

pub combine-add : {X : Type 0} (f g : X → ℤ) (ms : List X) (vs : List ℕ)
    → sum_of_products (map (λ m. f m +ℤ g m) ms) vs ≡ (sum_of_products (map f ms) vs +ℤ sum_of_products (map g ms) vs)
unfolding sum_of_products
combine-add f g [] vs = omega (arith, ints)
combine-add f g (m ∷ ms) [] = omega (arith, ints)
combine-add f g (m ∷ ms) (v ∷ vs) = omega (arith, ints, combine-add f g ms vs, distributes_right (f m) (g m) (pos v))

pub combine-minus : {X : Type 0} (f g : X → ℤ) (ms : List X) (vs : List ℕ)
    → sum_of_products (map (λ m. f m -ℤ g m) ms) vs ≡ (sum_of_products (map f ms) vs -ℤ sum_of_products (map g ms) vs)
unfolding sum_of_products
combine-minus f g [] vs = omega (arith, ints)
combine-minus f g (m ∷ ms) [] = omega (arith, ints)
combine-minus f g (m ∷ ms) (v ∷ vs) = omega (arith, ints, combine-minus f g ms vs, minus_times (f m) (g m) (pos v))

pub combine-times : {X : Type 0} (k : ℤ) (f : X → ℤ) (ms : List X) (vs : List ℕ)
    → sum_of_products (map (λ m. k *ℤ f m) ms) vs ≡ (k *ℤ sum_of_products (map f ms) vs)
unfolding sum_of_products
combine-times k f [] vs = sym (*ℤ-zero k)
combine-times k f (m ∷ ms) [] = sym (*ℤ-zero k)
combine-times k f (m ∷ ms) (v ∷ vs) = omega
    (arith, ints, combine-times k f ms vs, times_assoc k (f m) (pos v), distributes k (f m *ℤ pos v) (sum_of_products (map f ms) vs))

pub combine-opposite : (cs : List ℤ) (vs : List ℕ) → sum_of_products (map (λ c. pos 0 -ℤ c) cs) vs ≡ (pos 0 -ℤ sum_of_products cs vs)
unfolding sum_of_products
combine-opposite [] vs = refl
combine-opposite (c ∷ cs) [] = refl
combine-opposite (c ∷ cs) (v ∷ vs) = omega (arith, ints, combine-opposite cs vs, minus_times (pos 0) c (pos v), zero-*ℤ (pos v))

-- terms whose places are sums are sums of terms
pub combine-terms : {X : Type 0} (f : X → ℕ → ℤ) (ms : List X) (vs : List ℕ) (ts : List (ℕ × ℤ))
    → sum_of_products (map (λ m. terms_value (f m) ts) ms) vs ≡ terms_value (λ i. sum_of_products (map (λ m. f m i) ms) vs) ts
combine-terms f ms vs [] = combine-zero ms vs
combine-terms f ms vs (t ∷ ts) =
    omega (arith, ints, combine-add (λ m. t.1 *ℤ f m t.0) (λ m. terms_value (f m) ts) ms vs, combine-times t.1 (λ m. f m t.0) ms vs, combine-terms f ms vs ts)

pub combine-concat : (cs ds : List ℤ) (vs ws : List ℕ) → length vs ≡ length cs
    → sum_of_products (cs ++ ds) (vs ++ ws) ≡ (sum_of_products cs vs +ℤ sum_of_products ds ws)
unfolding sum_of_products
combine-concat [] ds [] ws e = omega (arith, ints)
combine-concat [] ds (v ∷ vs) ws e = absurd (omega arith)
combine-concat (c ∷ cs) ds [] ws e = absurd (omega arith)
combine-concat (c ∷ cs) ds (v ∷ vs) ws e = omega (arith, ints, combine-concat cs ds vs ws (omega arith))

pub combine-own : {X : Type 0} (g : X → ℤ) (t : X → ℕ) (xs : List X) → sum_of_products (map g xs) (map t xs) ≡ total (λ x. g x *ℤ pos (t x)) xs
unfolding sum_of_products total
combine-own g t [] = refl
combine-own g t (x ∷ xs) = omega (arith, ints, combine-own g t xs)
