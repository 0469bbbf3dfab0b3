-- One token of lookahead suffices for automaton files.
use Rattle.ta_syntax.proofs.Common.{refl, sym, subst, ◌≡◌, ℕ, zero, suc, true, false, [], Limits, Mark, Class, joined, Production, one, both, repeat, nullable}
use Rattle.ta_syntax.proofs.Common.{first, only, numbers, signs, term_with, sum_with, nested_with, free_factor, factor, a_sum, a_name, comparison, items, file}
use Rattle.ta_syntax.proofs.Common.{blocks, list_end, declared_list, location, update, rule, event, pattern, relations}
use Rattle.ta_syntax.specs.FileGrammar.{further}
use Rattle.ta_syntax.proofs.Parsing.{Ready, follow, inside, apart}
use Rattle.ta_syntax.specs.declared.tokens.Mark.TheVariants as mark

abbrev tail_of : Production → Production
tail_of F = repeat signs (both (one signs) (term_with F))

ready_sum : (F : Production) (f : Class) → ((f : Class) → Ready F f) → nullable F ≡ false → apart numbers (follow F (joined signs f)) ≡ true
    → apart (only mark.Star) (joined signs f) ≡ true → apart (only mark.Minus) (follow (both (term_with F) (tail_of F)) f) ≡ true → apart signs f ≡ true
    → nullable (term_with F) ≡ false → Ready (sum_with F) f
ready_sum F f r not number star minus sign n =
    let t : Ready (term_with F) (joined signs f) = ((tt, ((tt, r (joined signs f)), tt, refl, refl, star)), r (joined signs f), refl, refl, number) in
    (((tt, tt), tt, refl, refl, minus), (t, ((tt, t), refl, refl, sign)))

ready_nested : (F : Production) (f : Class) → Ready (sum_with F) (only mark.Close) → Ready (nested_with F) f
ready_nested F f r = (tt, (r, tt))

ready_free : (n : ℕ) (f : Class) → Ready (free_factor n) f
ready_free zero f = tt
ready_free (suc zero) f = (
  ready_nested (free_factor zero) f (ready_sum (free_factor zero) (only mark.Close) (ready_free zero) refl refl refl refl refl refl),
  tt,
  refl,
  refl,
  refl,
)
ready_free (suc (suc n)) f = (
  ready_nested (free_factor (suc n)) f
      (ready_sum (free_factor (suc n)) (only mark.Close) (ready_free (suc n)) refl refl refl refl refl refl),
  tt,
  refl,
  refl,
  refl,
)

ready_free_nested : (n : ℕ) (f : Class) → Ready (nested_with (free_factor n)) f
ready_free_nested zero f = ready_nested (free_factor zero) f (ready_sum (free_factor zero) (only mark.Close) (ready_free zero) refl refl refl refl refl refl)
ready_free_nested (suc n) f = ready_nested (free_factor (suc n)) f
    (ready_sum (free_factor (suc n)) (only mark.Close) (ready_free (suc n)) refl refl refl refl refl refl)

pub ready_factor : (n : ℕ) (f : Class) → Ready (factor n) f
ready_factor zero f = ((refl, λ n. (ready_free_nested n f, refl, refl)), tt, refl, refl, refl)
ready_factor (suc zero) f = (
  ready_nested (factor zero) f (ready_sum (factor zero) (only mark.Close) (ready_factor zero) refl refl refl refl refl refl),
  tt,
  refl,
  refl,
  refl,
)
ready_factor (suc (suc n)) f = (
  ready_nested (factor (suc n)) f
      (ready_sum (factor (suc n)) (only mark.Close) (ready_factor (suc n)) refl refl refl refl refl refl),
  tt,
  refl,
  refl,
  refl,
)

ready_sums : (f : Class) → apart numbers (follow (factor 32) (joined signs f)) ≡ true → apart (only mark.Star) (joined signs f) ≡ true
    → apart (only mark.Minus) (follow (both (term_with (factor 32)) (tail_of (factor 32))) f) ≡ true → apart signs f ≡ true → Ready a_sum f
ready_sums f number star minus sign = ready_sum (factor 32) f (ready_factor 32) refl number star minus sign refl

ready_comparison : (f : Class) → apart numbers (follow (factor 32) (joined signs f)) ≡ true → apart (only mark.Star) (joined signs f) ≡ true
    → apart (only mark.Minus) (follow (both (term_with (factor 32)) (tail_of (factor 32))) f) ≡ true → apart signs f ≡ true → Ready comparison f
ready_comparison f number star minus sign = (ready_sums relations refl refl refl refl, (tt, ready_sums f number star minus sign))

ready_location : (f : Class) → apart (only mark.Initial) f ≡ true → Ready location f
ready_location f h = (tt, ((tt, tt), tt, refl, refl, h))

-- ---- lists and blocks

module _ (item : Production) (f : Class) (r : Ready item (joined (only mark.Comma) f)) (not : nullable item ≡ false)
    (within : inside (first (both item (further item))) (first item) ≡ true) (comma : apart (only mark.Comma) f ≡ true) where
  pub ready_items : (n : ℕ) → Ready (items n item) f
  ready_items zero = (refl, λ n. ((r, ((tt, r), refl, refl, comma)), rw not refl, within))
  ready_items (suc n) = (r, ((tt, ready_items n), tt, refl, refl, comma))

blocks_first : (n : ℕ) (m : Mark) (body : Production) → first (blocks n m body) ≡ only m
blocks_first zero m body = refl
blocks_first (suc n) m body = refl

blocks_null : (n : ℕ) (m : Mark) (body : Production) → nullable (blocks n m body) ≡ true
blocks_null zero m body = refl
blocks_null (suc n) m body = refl

-- what follows a part that stands before the last blocks
blocks_follow : (n : ℕ) (m : Mark) (body : Production) → follow (blocks n m body) [] ≡ only m
blocks_follow zero m body = refl
blocks_follow (suc n) m body = refl

module _ (m : Mark) (body : Production) (f : Class) (r : Ready body (joined (only m) f)) (within : inside (only m) (only m) ≡ true)
    (mark : apart (only m) f ≡ true)
  where
    pub ready_blocks : (n : ℕ) → Ready (blocks n m body) f
    ready_blocks zero = ((refl, λ n. (((tt, r), ((tt, r), refl, within, mark)), refl, within)), tt, refl, within, mark)
    ready_blocks (suc n) = (((tt, rw (blocks_first n m body, blocks_null n m body) r), ready_blocks n), tt, refl, within, mark)

-- ---- the parts of a file

ready_names : (f : Class) (n : ℕ) → apart (only mark.Comma) f ≡ true → Ready (items n a_name) f
ready_names f n comma = ready_items a_name f tt refl refl comma n

ready_comparisons : (f : Class) (n : ℕ) → Ready comparison (joined (only mark.Comma) f) → apart (only mark.Comma) f ≡ true → Ready (items n comparison) f
ready_comparisons f n r comma = ready_items comparison f r refl refl comma n

abbrev ended_class : Class
ended_class = only mark.Semicolon

ready_condition : (f : Class) (n : ℕ) → Ready (list_end n comparison) f
ready_condition f n = (ready_comparisons ended_class n (ready_comparison (joined (only mark.Comma) ended_class) refl refl refl refl) refl, tt)

abbrev after : Class
after = joined (only mark.Do) ended_class

ready_rule : (f : Class) → Ready rule f
ready_rule f = (
  (tt, tt),
  (
    (tt, tt),
    (
      tt,
      (
        ((tt, ready_comparisons after 16 (ready_comparison (joined (only mark.Comma) after) refl refl refl refl) refl), tt, refl, refl, refl),
        (((tt, ready_items update ended_class (tt, (tt, tt)) refl refl refl 16), tt, refl, refl, refl), tt),
      ),
    ),
  ),
)

ready_event : (f : Class) → Ready event f
ready_event f = (tt, (((tt, ready_names (only mark.Colon) 8 refl), tt, refl, refl, refl), (tt, ready_condition f 16)))

ready_pattern : (l : Limits) (f : Class) → Ready (pattern l) f
ready_pattern l f = (
  (tt, tt),
  (
    ((tt, ready_condition [] 16), tt, refl, refl, refl),
    (
      ((tt, (ready_names ended_class l.locations refl, tt)), tt, refl, refl, refl),
      (ready_blocks mark.Event event (only mark.CloseBrace) (ready_event []) refl refl 8, tt),
    ),
  ),
)

ready_declared : (m : Mark) (n : ℕ) (item : Production) (f : Class) → Ready (items n item) ended_class → apart ended_class (follow (list_end n item) f) ≡ true
    → Ready (declared_list m n item) f
ready_declared m n item f r other = (tt, (tt, (r, tt), refl, refl, other))

-- a semicolon does not begin a list of names
names_apart : (n : ℕ) (f : Class) → apart ended_class (follow (list_end n a_name) f) ≡ true
names_apart zero f = refl
names_apart (suc n) f = refl

ready_declared_names : (m : Mark) (n : ℕ) (f : Class) → Ready (declared_list m n a_name) f
ready_declared_names m n f = ready_declared m n a_name f (ready_names ended_class n refl) (names_apart n f)

ready_resilience : (f : Class) → Ready (declared_list mark.Resilience 16 comparison) f
ready_resilience f = ready_declared mark.Resilience 16 comparison f
    (ready_comparisons ended_class 16 (ready_comparison (joined (only mark.Comma) ended_class) refl refl refl refl) refl) refl

-- the rules, before the patterns
ready_rules : (l : Limits) → Ready (blocks l.rules mark.Rule rule) (follow (blocks l.patterns mark.Pattern (pattern l)) [])
ready_rules l = subst (λ (c : Class). Ready (blocks l.rules mark.Rule rule) c) (sym (blocks_follow l.patterns mark.Pattern (pattern l)))
    (ready_blocks mark.Rule rule (only mark.Pattern) (ready_rule []) refl refl l.rules)

pub ready_file : (l : Limits) → Ready (file l) []
ready_file l = (
  (
    tt,
    (
      (tt, tt),
      (
        ready_declared_names mark.Parameters l.parameters (only mark.Shared),
        (
          ready_declared_names mark.Shared l.shared (only mark.Locations),
          (
            (tt, (ready_items location ended_class (ready_location (joined (only mark.Comma) ended_class) refl) refl refl refl l.locations, tt)),
            (tt, (ready_sums ended_class refl refl refl refl, tt)),
          ),
        ),
      ),
    ),
  ),
  (
    ready_resilience (follow (both (blocks l.rules mark.Rule rule) (blocks l.patterns mark.Pattern (pattern l))) []),
    (ready_rules l, ready_blocks mark.Pattern (pattern l) [] (ready_pattern l []) refl refl l.patterns),
  ),
)
