-- cells of which the last ones are zeros that are not stored
use Rattle.ta_revised.proofs.Common.{◌≡◌, ℕ, zero, suc, ◌<◌, ◌≤◌, ◌-◌, List, [], ◌∷◌, ◌++◌, length, get_or, map, replicate, arith, refl, sym, ap, ◌∙◌, subst, ℤ}
use Rattle.ta_revised.proofs.Common.{pos, negsuc, ◌*ℤ◌, ◌-ℤ◌, ◌<ℤ◌, unsigned_abs, int_div, ints, set, combine, gcd_with, gcd_of, ext_get_or, get_or_append_left}
use Rattle.ta_revised.proofs.Common.{length-append, length-replicate, length-map, length-set, gcd_of-zero, replicate_zeros, AreBounded, set-append_left}
use Rattle.ta_revised.proofs.Common.{zeros_behind}
use Rattle.std.proofs.Math.Nat.{zero-div}

zeros_cell : (xs : List ℤ) (n j : ℕ) → get_or (xs ++ replicate n (pos 0)) j (pos 0) ≡ get_or xs j (pos 0)
zeros_cell [] n j = replicate_zeros n j
zeros_cell (x ∷ xs) n zero = refl
zeros_cell (x ∷ xs) n (suc j) = zeros_cell xs n j

-- the cell of a column is the stored one, or 0
pub cell_behind : (xs : List ℤ) (count j : ℕ) → get_or (zeros_behind xs count) j (pos 0) ≡ get_or xs j (pos 0)
cell_behind xs count j = zeros_cell xs (count - length xs) j

pub length_behind : (xs : List ℤ) (count : ℕ) → length xs ≤ count → length (zeros_behind xs count) ≡ count
length_behind xs count h =
    let a = length-append xs (replicate (count - length xs) (pos 0)) in
    let b = length-replicate (count - length xs) (pos 0) in
    omega arith

pub long_behind : (xs : List ℤ) (count : ℕ) → count ≤ length (zeros_behind xs count)
long_behind xs count =
    let a = length-append xs (replicate (count - length xs) (pos 0)) in
    let b = length-replicate (count - length xs) (pos 0) in
    omega arith

-- so cells are the same where the stored ones are, up to zeros
pub same_behind : (xs ys : List ℤ) (count : ℕ) → length xs ≤ count → length ys ≤ count → ((j : ℕ) → get_or xs j (pos 0) ≡ get_or ys j (pos 0))
    → zeros_behind xs count ≡ zeros_behind ys count
same_behind xs ys count h k same =
    ext_get_or (pos 0) (zeros_behind xs count) (zeros_behind ys count) (length_behind xs count h ∙ sym (length_behind ys count k))
    (λ j _. cell_behind xs count j ∙ same j ∙ sym (cell_behind ys count j))

-- cells are these numbers where each is
pub is_behind : (xs ys : List ℤ) (count : ℕ) → length xs ≤ count → length ys ≡ count → ((j : ℕ) → j < count → get_or xs j (pos 0) ≡ get_or ys j (pos 0))
    → zeros_behind xs count ≡ ys
is_behind xs ys count h k same =
    ext_get_or (pos 0) (zeros_behind xs count) ys (length_behind xs count h ∙ sym k)
    (λ j below. (let l = length_behind xs count h in cell_behind xs count j ∙ same j (omega arith)))

-- zeros alone
pub zeros_alone : (n count : ℕ) → n ≤ count → zeros_behind (replicate n (pos 0)) count ≡ replicate count (pos 0)
zeros_alone n count h =
    let l = length-replicate n (pos 0) in
    is_behind (replicate n (pos 0)) (replicate count (pos 0)) count (omega arith) (length-replicate count (pos 0))
    (λ j _. replicate_zeros n j ∙ sym (replicate_zeros count j))

-- storing some of the zeros changes nothing
pub own_behind : (xs : List ℤ) (count more : ℕ) → length xs ≤ count → more ≤ count → zeros_behind (zeros_behind xs more) count ≡ zeros_behind xs count
own_behind xs count more h k =
    let a = length-append xs (replicate (more - length xs) (pos 0)) in
    let b = length-replicate (more - length xs) (pos 0) in
    same_behind (zeros_behind xs more) xs count (omega arith) h (λ j. cell_behind xs more j)

pub own_short : (xs : List ℤ) (count more : ℕ) → length xs ≤ count → more ≤ count → length (zeros_behind xs more) ≤ count
own_short xs count more h k =
    let a = length-append xs (replicate (more - length xs) (pos 0)) in
    let b = length-replicate (more - length xs) (pos 0) in
    omega arith

pub own_cell : (xs owned cells : List ℤ) (count more j : ℕ) → owned ≡ zeros_behind xs more → zeros_behind xs count ≡ cells
    → get_or owned j (pos 0) ≡ get_or cells j (pos 0)
own_cell xs owned cells count more j e f =
    ap (λ (ys : List ℤ). get_or ys j (pos 0)) e ∙ cell_behind xs more j ∙ sym (cell_behind xs count j) ∙ ap (λ (ys : List ℤ). get_or ys j (pos 0)) f

-- a row and a chosen one with as many cells: what is stored of the row, if as much as of the chosen one is
pub record Stored (xs ys owned cells chosen : List ℤ) (count : ℕ) : Type 0 where
  pub short : length owned ≤ count
  pub wide : length cells ≡ count

pub stored_of : (xs ys owned cells chosen : List ℤ) (count other : ℕ) → length xs ≤ count → length ys ≤ other → owned ≡ zeros_behind xs (length ys)
    → zeros_behind xs count ≡ cells → zeros_behind ys other ≡ chosen → length cells ≡ length chosen → Stored xs ys owned cells chosen count
stored_of xs ys owned cells chosen count other h k e f g same =
    let wide : length cells ≡ count = ap length (sym f) ∙ length_behind xs count h in
    let far : length chosen ≡ other = ap length (sym g) ∙ length_behind ys other k in
    let short = own_short xs count (length ys) h (omega arith) in
    record { short = rw e short; wide = wide }

gcd_zeros : (g n : ℕ) → gcd_with g (replicate n (pos 0)) ≡ g
gcd_zeros g zero = refl
gcd_zeros g (suc n) = ap (λ (k : ℕ). gcd_with k (replicate n (pos 0))) (gcd_of-zero g (unsigned_abs (pos 0)) refl) ∙ gcd_zeros g n

-- zeros count neither in a divisor nor in a bound
gcd_behind_of : (n : ℕ) (xs : List ℤ) (g : ℕ) → gcd_with g (xs ++ replicate n (pos 0)) ≡ gcd_with g xs
gcd_behind_of n [] g = gcd_zeros g n
gcd_behind_of n (x ∷ xs) g = gcd_behind_of n xs (gcd_of g (unsigned_abs x))

pub gcd_behind : (g count : ℕ) (xs : List ℤ) → gcd_with g (zeros_behind xs count) ≡ gcd_with g xs
gcd_behind g count xs = gcd_behind_of (count - length xs) xs g

pub bounded_stored : (bound count : ℕ) (xs : List ℤ) → AreBounded bound (zeros_behind xs count) → AreBounded bound xs
bounded_stored bound count xs all k d h =
    let zeros = replicate (count - length xs) (pos 0) in
    let long = length-append xs zeros in
    subst (λ (z : ℤ). unsigned_abs z ≤ bound) (get_or_append_left xs zeros d k h) (all k d (omega arith))

-- what is done to each cell leaves zeros as they are, if it leaves 0
map_zeros : (f : ℤ → ℤ) (n : ℕ) → f (pos 0) ≡ pos 0 → map f (replicate n (pos 0)) ≡ replicate n (pos 0)
map_zeros f zero e = refl
map_zeros f (suc n) e = ap (λ (x : ℤ). x ∷ map f (replicate n (pos 0))) e ∙ ap (λ (xs : List ℤ). pos 0 ∷ xs) (map_zeros f n e)

map_behind_of : (f : ℤ → ℤ) (n : ℕ) (xs : List ℤ) → f (pos 0) ≡ pos 0 → map f (xs ++ replicate n (pos 0)) ≡ map f xs ++ replicate n (pos 0)
map_behind_of f n [] e = map_zeros f n e
map_behind_of f n (x ∷ xs) e = ap (λ (ys : List ℤ). f x ∷ ys) (map_behind_of f n xs e)

pub map_behind : (f : ℤ → ℤ) (count : ℕ) (xs : List ℤ) → f (pos 0) ≡ pos 0 → zeros_behind (map f xs) count ≡ map f (zeros_behind xs count)
map_behind f count xs e =
    let l = length-map xs f in
    rw l (sym (map_behind_of f (count - length xs) xs e))

pub times_one : (p : ℤ) (xs : List ℤ) → p ≡ pos 1 → xs ≡ map (λ (z : ℤ). p *ℤ z) xs
times_one p [] e = refl
times_one p (a ∷ xs) e =
    let one : a ≡ p *ℤ a = rw e (omega (arith, ints)) in
    ap (λ (y : ℤ). y ∷ xs) one ∙ ap (λ (ys : List ℤ). (p *ℤ a) ∷ ys) (times_one p xs e)

pub times_cell : (p : ℤ) (xs : List ℤ) (j : ℕ) → get_or (map (λ (z : ℤ). p *ℤ z) xs) j (pos 0) ≡ p *ℤ get_or xs j (pos 0)
times_cell p [] j = omega (arith, ints)
times_cell p (a ∷ xs) zero = refl
times_cell p (a ∷ xs) (suc j) = times_cell p xs j

-- the first places of cells with the chosen ones, and the others times p
pub combined_longer : (p q : ℤ) (first chosen : List ℤ) (j : ℕ) (rest : List ℤ) → length first ≡ length chosen →
    get_or (combine p q first chosen ++ map (λ (z : ℤ). p *ℤ z) rest) j (pos 0) ≡ p *ℤ get_or (first ++ rest) j (pos 0) -ℤ q *ℤ get_or chosen j (pos 0)
combined_longer p q [] [] j rest e = times_cell p rest j ∙ omega (arith, ints)
combined_longer p q [] (c ∷ cs) j rest e = absurd (omega arith)
combined_longer p q (a ∷ xs) [] j rest e = absurd (omega arith)
combined_longer p q (a ∷ xs) (c ∷ cs) zero rest e = refl
combined_longer p q (a ∷ xs) (c ∷ cs) (suc j) rest e = combined_longer p q xs cs j rest (omega arith)

pub set_behind : (xs : List ℤ) (column : ℕ) (z : ℤ) (count : ℕ) → column < length xs
    → zeros_behind (set xs column z) count ≡ set (zeros_behind xs count) column z
set_behind xs column z count h =
    let l = length-set xs column z in
    rw l (sym (set-append_left xs (replicate (count - length xs) (pos 0)) column z h))

pub zero_div : (d : ℤ) → pos 0 <ℤ d → int_div (pos 0) d ≡ pos 0
zero_div (pos zero) h = absurd (omega (arith, ints, h))
zero_div (pos (suc n)) h = ap pos (zero-div (suc n))
zero_div (negsuc n) h = absurd (omega (arith, ints, h))
