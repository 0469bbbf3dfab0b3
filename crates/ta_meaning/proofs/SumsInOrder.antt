-- The errors of a sum and of a comparison rise within its tokens.
use Rattle.ta_meaning.proofs.Common.{ℕ, List, [], ◌∷◌, ◌++◌, refl, sym, subst, Terms, Term, IsSum, AreTerms, IsTerm, IsFactor, plain_sum, plain_comparison}
use Rattle.ta_meaning.proofs.Common.{Offsets, at_first, sum_stated, comparison_stated, Digits, Spelled, TreeSum, TreeComparison, FileFault, number_of, has_name}
use Rattle.ta_meaning.proofs.Common.{linear_sum, comparison_rows, is_large_linear, any_large, Scope, WithFaults, where_, else_, is_long, declared_faults}
use Rattle.ta_meaning.proofs.Common.{used_faults, digits_faults, sum_faults, linear_term, comparison_faults, condition_faults, SeenTerms, SeenTerm, SeenFactor}
use Rattle.ta_meaning.proofs.Common.{seen_none, seen_more, seen_number, seen_times, seen_alone, seen_blank, seen_named, seen_nested, plain_of_terms}
use Rattle.ta_meaning.proofs.Common.{plain_of_term, plain_of_factor, seen_sum, Bool, not, ltb}
use Rattle.ta_meaning.proofs.StartedParts.{factor-starts, sum-starts, Starts, starts-append}
use Rattle.ta_meaning.proofs.SeenSums.{offsets_of_sum, offsets_of_more, offsets_of_term, offsets_of_factor, judged_of_terms, judged_of_term, judged_of_factor}
use Rattle.ta_meaning.proofs.SeenSums.{SeenSum, every_sum_seen}
use Rattle.ta_meaning.proofs.InOrder.{InOrder, IsInside, inside-name, inside-at_first, no_faults, one, either, together, after_token, before_tokens, with_first}
use Rattle.ta_meaning.proofs.InOrder.{Items}
use Rattle.ta_syntax.specs.declared.sums.Sign.TheVariants as sign
use Rattle.ta_syntax.specs.declared.fault.FileFault.TheVariants as fault

-- ---- names and numbers

-- what is stated of a token that has an offset
abbrev pub token : ℕ → List Offsets
token at = (at ∷ []) ∷ []

pub declared-in_order : (before : List (List ℕ)) (n : Spelled) → InOrder (token n.at) (declared_faults before n)
declared-in_order before n =
    either (token n.at) (where_ (has_name before n.name) (fault.Duplicate n.at)) (where_ (is_long n) (fault.TooLarge n.at))
    (one (token n.at) (has_name before n.name) (fault.Duplicate n.at) tt (inside-name n.at))
    (one (token n.at) (is_long n) (fault.TooLarge n.at) tt (inside-name n.at))

pub used-in_order : (declared allowed : List (List ℕ)) (n : Spelled) → InOrder (token n.at) (used_faults declared allowed n)
used-in_order declared allowed n =
    either (token n.at) (where_ (not (has_name declared n.name)) (fault.Unknown n.at)) (where_ (not (has_name allowed n.name)) (fault.WrongKind n.at))
    (one (token n.at) (not (has_name declared n.name)) (fault.Unknown n.at) tt (inside-name n.at))
    (one (token n.at) (not (has_name allowed n.name)) (fault.WrongKind n.at) tt (inside-name n.at))

-- a name that may not stand there twice, and is used
pub once-in_order : (test : Bool) (declared allowed : List (List ℕ)) (n : Spelled)
    → InOrder (token n.at) (else_ (where_ test (fault.Duplicate n.at)) (used_faults declared allowed n))
once-in_order test declared allowed n =
    either (token n.at) (where_ test (fault.Duplicate n.at)) (used_faults declared allowed n)
    (one (token n.at) test (fault.Duplicate n.at) tt (inside-name n.at)) (used-in_order declared allowed n)

pub digits-in_order : (d : Digits) → InOrder (token d.at) (digits_faults d)
digits-in_order d = one (token d.at) (ltb 1000000000 (number_of d.text)) (fault.TooLarge d.at) tt (inside-name d.at)

-- ---- sums

-- a part, with an error of the whole at its first token
whole-in_order : (at : ℕ) (s : List Offsets) (fs : List FileFault) (test : Bool) → Starts s → InOrder s fs
    → InOrder (at_first at s) (else_ fs (where_ test (fault.TooLarge at)))
whole-in_order at s fs test starts h =
    either (at_first at s) fs (where_ test (fault.TooLarge at)) (with_first at s fs h)
    (one (at_first at s) test (fault.TooLarge at) tt (inside-at_first at s starts))

abbrev is_large_term : Scope → Term → Bool
is_large_term sc t = is_large_linear (linear_term sc.allowed t)

mutual
  sum-rises : (sc : Scope) (ts : SeenTerms) → IsSum (plain_of_terms ts) → InOrder (offsets_of_sum ts) (judged_of_terms sc ts).faults
  sum-rises sc seen_none is = absurd is
  sum-rises sc (seen_more sign.Plus t ts) is =
      together (offsets_of_term t) (offsets_of_more ts) (judged_of_term sc t).faults (judged_of_terms sc ts).faults (term-rises sc t is.0)
      (more-rises sc ts is.1)
  sum-rises sc (seen_more sign.Minus t ts) is =
      after_token [] (offsets_of_term t ++ offsets_of_more ts) ((judged_of_term sc t).faults ++ (judged_of_terms sc ts).faults)
      (together (offsets_of_term t) (offsets_of_more ts) (judged_of_term sc t).faults (judged_of_terms sc ts).faults (term-rises sc t is.0)
      (more-rises sc ts is.1))

  more-rises : (sc : Scope) (ts : SeenTerms) → AreTerms (plain_of_terms ts) → InOrder (offsets_of_more ts) (judged_of_terms sc ts).faults
  more-rises sc seen_none is = no_faults []
  more-rises sc (seen_more s t ts) is =
      after_token [] (offsets_of_term t ++ offsets_of_more ts) ((judged_of_term sc t).faults ++ (judged_of_terms sc ts).faults)
      (together (offsets_of_term t) (offsets_of_more ts) (judged_of_term sc t).faults (judged_of_terms sc ts).faults (term-rises sc t is.0)
      (more-rises sc ts is.1))

  term-rises : (sc : Scope) (t : SeenTerm) → IsTerm (plain_of_term t) → InOrder (offsets_of_term t) (judged_of_term sc t).faults
  term-rises sc (seen_number at d) is =
      whole-in_order at (token d.at) (digits_faults d ++ []) (is_large_term sc (judged_of_term sc (seen_number at d)).plain) tt
      (together (token d.at) [] (digits_faults d) [] (digits-in_order d) (no_faults []))
  term-rises sc (seen_times at d f) is =
      whole-in_order at ((d.at ∷ []) ∷ [] ∷ offsets_of_factor f) (digits_faults d ++ (judged_of_factor sc f).faults)
      (is_large_term sc (judged_of_term sc (seen_times at d f)).plain) tt
      (together (token d.at) ([] ∷ offsets_of_factor f) (digits_faults d) (judged_of_factor sc f).faults (digits-in_order d)
      (after_token [] (offsets_of_factor f) (judged_of_factor sc f).faults (factor-rises sc f is.1)))
  term-rises sc (seen_alone at f) is =
      whole-in_order at (offsets_of_factor f) (judged_of_factor sc f).faults (is_large_term sc (judged_of_term sc (seen_alone at f)).plain) (factor-starts f)
      (factor-rises sc f is)
  term-rises sc (seen_blank at) is = absurd is

  factor-rises : (sc : Scope) (f : SeenFactor) → IsFactor (plain_of_factor f) → InOrder (offsets_of_factor f) (judged_of_factor sc f).faults
  factor-rises sc (seen_named n) is = used-in_order sc.places sc.allowed n
  factor-rises sc (seen_nested ts) is =
      after_token [] (offsets_of_sum ts ++ [] ∷ []) (judged_of_terms sc ts).faults
      (before_tokens (offsets_of_sum ts) ([] ∷ []) (judged_of_terms sc ts).faults (sum-rises sc ts is))

pub sum-in_order : (sc : Scope) (s : TreeSum) → IsSum (plain_sum s) → InOrder (sum_stated s) (sum_faults sc s)
sum-in_order sc s is =
    let p : SeenSum s = every_sum_seen s in
    let seen : InOrder (offsets_of_sum (seen_sum s)) (judged_of_terms sc (seen_sum s)).faults = sum-rises sc (seen_sum s) (subst IsSum p.plain is) in
    subst (λ (z : List Offsets). InOrder z (sum_faults sc s)) (sym p.stated)
    (subst (λ (z : WithFaults Terms). InOrder (offsets_of_sum (seen_sum s)) z.faults) (sym (p.judged sc)) seen)

-- the sum of `processes`
pub whole_sum-in_order : (sc : Scope) (at : ℕ) (s : TreeSum) → IsSum (plain_sum s)
    → InOrder (at_first at (sum_stated s)) (else_ (sum_faults sc s) (where_ (is_large_linear (linear_sum sc.allowed (plain_sum s))) (fault.TooLarge at)))
whole_sum-in_order sc at s is = whole-in_order at (sum_stated s) (sum_faults sc s) (is_large_linear (linear_sum sc.allowed (plain_sum s))) (sum-starts s is)
    (sum-in_order sc s is)

-- ---- comparisons

abbrev sides_stated : TreeComparison → List Offsets
sides_stated c = sum_stated c.left ++ [] ∷ sum_stated c.right

sides-start : (c : TreeComparison) → Starts (sides_stated c)
sides-start c = starts-append (sum_stated c.left) ([] ∷ sum_stated c.right) (sum-starts c.left c.is_left)

pub inside-comparison : (c : TreeComparison) → IsInside c.at (comparison_stated c)
inside-comparison c = inside-at_first c.at (sides_stated c) (sides-start c)

pub comparison-in_order : (sc : Scope) (c : TreeComparison) → InOrder (comparison_stated c) (comparison_faults sc c)
comparison-in_order sc c =
    whole-in_order c.at (sides_stated c) (sum_faults sc c.left ++ sum_faults sc c.right) (any_large (comparison_rows sc.allowed (plain_comparison c)))
    (sides-start c)
    (together (sum_stated c.left) ([] ∷ sum_stated c.right) (sum_faults sc c.left) (sum_faults sc c.right) (sum-in_order sc c.left c.is_left)
    (after_token [] (sum_stated c.right) (sum_faults sc c.right) (sum-in_order sc c.right c.is_right)))

pub condition-items : (sc : Scope) (cs : List TreeComparison) → Items comparison_stated cs (condition_faults sc cs)
condition-items sc [] = refl
condition-items sc (c ∷ cs) = (comparison_faults sc c, condition_faults sc cs, refl, comparison-in_order sc c, condition-items sc cs)
