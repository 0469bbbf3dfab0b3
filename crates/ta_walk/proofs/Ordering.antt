-- orders of moments, one after another
use Rattle.ta_walk.proofs.Common.{Bool, false, ◌≡◌, ℕ, suc, ◌+◌, ◌-◌, ◌<◌, List, ◌∷◌, Option, Some, None, arith, sym, ap, ◌∙◌, refl, is_some, find}
use Rattle.ta_walk.proofs.Common.{range_with_len, option_or, Fact, Question, Values, first_order, order_before}
use Rattle.std.proofs.Common.{cond}
use Rattle.ta_moments.specs.Moments.{Moment}

range_next : (x n : ℕ) → x < n → range_with_len x (n - x) ≡ x ∷ range_with_len (x + 1) (n - (x + 1))
range_next x n b = ap (range_with_len x) (let e : n - x ≡ suc (n - (x + 1)) = omega arith in e)

-- a number that doesn't pass is not found
pub find_next : (test : ℕ → Bool) (x n : ℕ) (b : Bool) (found : Option ℕ) → x < n → b ≡ test x → b ≡ false → found ≡ find test (range_with_len x (n - x))
    → found ≡ find test (range_with_len (x + 1) (n - (x + 1)))
find_next test x n b found less is fails h = h ∙ ap (find test) (range_next x n less)
    ∙ ap (λ t. cond t (Some x) (find test (range_with_len (x + 1) (n - (x + 1))))) (sym is ∙ fails)

none_of : (o : Option Question) → is_some o ≡ false → o ≡ None
none_of None e = refl
none_of (Some q) e = absurd (cc)

pub order_next : (moving : List ℕ) (past : List Fact) (values : Values) (moments : List Moment) (y n : ℕ) (here all : Option Question) → y < n
    → here ≡ order_before moving past values moments y → is_some here ≡ false
    → all ≡ first_order moving past values moments (range_with_len y (n - y))
    → all ≡ first_order moving past values moments (range_with_len (y + 1) (n - (y + 1)))
order_next moving past values moments y n here all less is none h =
    h ∙ ap (first_order moving past values moments) (range_next y n less)
    ∙ ap (λ o. option_or o (first_order moving past values moments (range_with_len (y + 1) (n - (y + 1))))) (sym is ∙ none_of here none)
