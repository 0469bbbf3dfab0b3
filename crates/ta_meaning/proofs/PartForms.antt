-- Forms of the parts of a sum, and how they make the form of the whole.
use Rattle.ta_meaning.proofs.Common.{◌≡◌, ℕ, ℤ, pos, ◌+◌, ◌*◌, ◌^◌, ◌<◌, ◌≤◌, ◌+ℤ◌, ◌*ℤ◌, unsigned_abs, Bool, IsTrue, List, [], ◌∷◌, ◌++◌, map, get_or}
use Rattle.ta_meaning.proofs.Common.{slice_get, Option, Some, None, Result, refl, sym, ap, subst, ◌∙◌, arith, ints, nat_tests, add_moved, more_within}
use Rattle.ta_meaning.proofs.Common.{one_times, at_map, at_map_both, at_map_none, coefficient, IsMultiple, Form, Terms, Term, Factor, number, blank, named}
use Rattle.ta_meaning.proofs.Common.{plain_term, plain_factor, plain_terms, term_of, Digits, Sign, TreeTerm, TreeFactor, out-TreeTerm, FileFault, Distinct}
use Rattle.ta_meaning.proofs.Common.{signed, number_of, sum_coefficient, term_coefficient, factor_coefficient, sum_constant, term_constant, sum_uses, term_uses}
use Rattle.ta_meaning.proofs.Common.{factor_uses, FormOf, linear_sum, is_large_linear, Scope, FirstOrMemory, Answers, where_, else_, linear_term, number_faults}
use Rattle.ta_meaning.proofs.Common.{FormWithin, judged_term, judged_factor, is_large_form, linear_factor, number_or, PartOf, IsSignedSum, less_small, ◌&&◌}
use Rattle.ta_meaning.proofs.Common.{TreeSum, Spelled, nested, plain_sum, sum_faults, used_faults, empty_before, empty_both}
use Rattle.ta_meaning.proofs.Answering.{append-left-first, append-right-first, else-none, else-left-first, where-false, not-where, answers-along}
use Rattle.ta_meaning.proofs.Answering.{answers-knowing}
use Rattle.ta_meaning.proofs.Answering.{answers-otherwise}
use Rattle.ta_meaning.proofs.LargeNumbers.{small_within, linear_small, same_large}
use Rattle.ta_meaning.proofs.ListedNames.{has_name-at}
use Rattle.ta_meaning.proofs.WrittenNumbers.{number_is_small}
use Rattle.ta_meaning.proofs.SmallForms.{within_more}
use Rattle.ta_meaning.proofs.LinearSums.{name_numbers}
use Rattle.ta_syntax.specs.declared.sums.TreeFactor.{Named, Nested}
use Rattle.ta_syntax.proofs.SumSteps.{plain_named, plain_nested}
use Rattle.ta_meaning.proofs.TreeSums.{named_faults, nested_faults, terms_faults, large_term, term_faults_none, term_faults_some, plain_term_none}
use Rattle.ta_meaning.proofs.TreeSums.{plain_term_some}
use Rattle.std.proofs.Math.IntN.{+ℤ_idr, +ℤ_idl, *ℤ-zero}
use Rattle.ta_syntax.specs.declared.sums.Sign.TheVariants as sign
use Rattle.ta_syntax.specs.declared.fault.FileFault.TheVariants as fault

-- ---- names
one_small : (i x : ℕ) → unsigned_abs (coefficient ((i, pos 1) ∷ []) x) ≤ 1
one_small i x = grind (arith, ints, nat_tests)

pub name_part : (names : List (List ℕ)) (n : List ℕ) (i : ℕ) (form : Form) → Distinct names → slice_get names i ≡ Some n → form.constant ≡ pos 0
    → form.terms ≡ (i, pos 1) ∷ [] → PartOf (factor_uses names (named n)) (linear_factor names (named n)) 1 form
name_part names n i form d e constant terms = record {
  known = has_name-at names n i e;
  numbers = record { constant = constant; coefficients = λ j. ap (λ (ts : List (ℕ × ℤ)). coefficient ts j) terms ∙ name_numbers names n i d e j };
  within = record {
    constant = subst (λ (z : ℤ). unsigned_abs z ≤ 1) (sym constant) (omega (arith, ints));
    coefficients = λ j. subst (λ (ts : List (ℕ × ℤ)). unsigned_abs (coefficient ts j) ≤ 1) (sym terms) (one_small i j);
  };
}

number_alone : (names : List (List ℕ)) (t : Term) (n : ℕ) (form : Form) → IsTrue (term_uses names t) → term_constant t ≡ pos n
    → ((i : ℕ) → get_or (map (λ x. term_coefficient x t) names) i (pos 0) ≡ pos 0) → n ≤ 1000000000 → form.constant ≡ pos n → form.terms ≡ []
    → PartOf (term_uses names t) (linear_term names t) 1000000000 form
number_alone names t n form known is none small constant terms = record {
  known = known;
  numbers = record { constant = constant ∙ sym is; coefficients = λ i. ap (λ (ts : List (ℕ × ℤ)). coefficient ts i) terms ∙ sym (none i) };
  within = record {
    constant = subst (λ (z : ℤ). unsigned_abs z ≤ 1000000000) (sym constant) (small);
    coefficients = λ i. subst (λ (ts : List (ℕ × ℤ)). unsigned_abs (coefficient ts i) ≤ 1000000000) (sym terms) (omega (arith, ints));
  };
}

-- a number alone, or a blank
pub alone_part : (names : List (List ℕ)) (factor : Option Digits) (n : ℕ) (form : Form) → number_faults factor ≡ [] → n ≡ number_or 0 factor
    → form.constant ≡ pos n → form.terms ≡ [] → PartOf (term_uses names (term_of factor None)) (linear_term names (term_of factor None)) 1000000000 form
alone_part names None n form none is constant terms = number_alone names blank n form refl (ap pos (sym is)) (λ i. at_map_none names i) (omega (arith, is))
    constant terms
alone_part names (Some d) n form none is constant terms = number_alone names (number d.text) n form refl (ap pos (sym is)) (λ i. at_map_none names i)
    (omega (arith, is, number_is_small d none)) constant terms

-- a factor with a number before it, or none
pub product_numbers : (names : List (List ℕ)) (factor : Option Digits) (f : Factor) (n : ℕ) (inner product : Form) → n ≡ number_or 1 factor
    → FormOf (linear_factor names f) inner → IsMultiple product inner (pos n) → FormOf (linear_term names (term_of factor (Some f))) product
product_numbers names None f n inner product is numbers multiple =
    let one : (z : ℤ) → (pos n *ℤ z) ≡ z = λ z. ap (λ (k : ℕ). pos k *ℤ z) is ∙ one_times z in
    record {
      constant = multiple.constant ∙ one inner.constant ∙ numbers.constant;
      coefficients = λ i. multiple.coefficients i ∙ one (coefficient inner.terms i) ∙ numbers.coefficients i;
    }
product_numbers names (Some d) f n inner product is numbers multiple =
    let same : (z : ℤ) → (pos n *ℤ z) ≡ (pos (number_of d.text) *ℤ z) = λ z. ap (λ (k : ℕ). pos k *ℤ z) is in
    record {
      constant = multiple.constant ∙ same inner.constant ∙ ap (λ (z : ℤ). pos (number_of d.text) *ℤ z) numbers.constant;
      coefficients = λ i.
          multiple.coefficients i ∙ same (coefficient inner.terms i) ∙ ap (λ (z : ℤ). pos (number_of d.text) *ℤ z) (numbers.coefficients i)
          ∙ sym (at_map (λ z. pos (number_of d.text) *ℤ z) (*ℤ-zero (pos (number_of d.text))) (λ x. factor_coefficient x f) names i);
    }

pub product_known : (names : List (List ℕ)) (factor : Option Digits) (f : Factor) → IsTrue (factor_uses names f)
    → IsTrue (term_uses names (term_of factor (Some f)))
product_known names None f h = h
product_known names (Some d) f h = h

-- ---- sums
pub signed_zero : (s : Sign) → (signed s (pos 0) +ℤ pos 0) ≡ pos 0
signed_zero sign.Plus = omega (arith, ints)
signed_zero sign.Minus = omega (arith, ints)

signed_within : (s : Sign) (p : ℕ) (z : ℤ) → unsigned_abs z ≤ p → unsigned_abs (signed s z) ≤ p
signed_within sign.Plus p z h = h
signed_within sign.Minus p z h = less_small z p h

-- what stands before the names in terms, by place
abbrev pub sum_at : List (List ℕ) → Terms → ℕ → ℤ
sum_at names ts i = get_or (map (λ x. sum_coefficient x ts) names) i (pos 0)

-- what is added so far, and what is left
pub record Summing (s : Scope) (all left : List (Sign × TreeTerm)) (count : ℕ) (form : Form) : Type 0 where
  pub faults : terms_faults s all ≡ terms_faults s left
  pub known : sum_uses s.allowed (plain_terms all) ≡ sum_uses s.allowed (plain_terms left)
  pub constant : (form.constant +ℤ sum_constant (plain_terms left)) ≡ sum_constant (plain_terms all)
  pub coefficients : (i : ℕ) → (coefficient form.terms i +ℤ sum_at s.allowed (plain_terms left) i) ≡ sum_at s.allowed (plain_terms all) i
  pub within : FormWithin (1000000000 * count) form

signed_same : (s : Sign) (a b : ℤ) → a ≡ b → signed s a ≡ signed s b
signed_same s a b e = ap (λ (z : ℤ). signed s z) e

pub sum_more : (s : Scope) (all left : List (Sign × TreeTerm)) (t : Sign × TreeTerm) (count : ℕ) (form next sum : Form) → Summing s all (t ∷ left) count form
    → (judged_term s t.1).faults ≡ [] → PartOf (term_uses s.allowed (plain_term t.1)) (linear_term s.allowed (plain_term t.1)) 1000000000 next
    → IsSignedSum sum form t.0 next → Summing s all left (count + 1) sum
sum_more s all left t count form next sum so_far none part is = record {
  faults = so_far.faults ∙ empty_before (judged_term s t.1).faults (terms_faults s left) none;
  known = so_far.known ∙ ap (λ b. b && (sum_uses s.allowed (plain_terms left))) part.known;
  constant = add_moved form.constant sum.constant (signed t.0 (term_constant (plain_term t.1))) (sum_constant (plain_terms left))
      (sum_constant (plain_terms all)) so_far.constant
      (is.constant ∙ ap (λ (z : ℤ). form.constant +ℤ z) (signed_same t.0 next.constant (term_constant (plain_term t.1)) part.numbers.constant));
  coefficients = λ i.
      add_moved (coefficient form.terms i) (coefficient sum.terms i) (signed t.0 (get_or (map (λ x. term_coefficient x (plain_term t.1)) s.allowed) i (pos 0)))
      (sum_at s.allowed (plain_terms left) i) (sum_at s.allowed (plain_terms all) i)
      (ap (λ (z : ℤ). coefficient form.terms i +ℤ z)
      (sym (at_map_both (λ a b. signed t.0 a +ℤ b) (signed_zero t.0) (λ x. term_coefficient x (plain_term t.1)) (λ x. sum_coefficient x (plain_terms left))
      s.allowed i)) ∙ so_far.coefficients i)
      (is.coefficients i ∙ ap (λ (z : ℤ). coefficient form.terms i +ℤ z)
      (signed_same t.0 (coefficient next.terms i) (get_or (map (λ x. term_coefficient x (plain_term t.1)) s.allowed) i (pos 0))
      (part.numbers.coefficients i)));
  within = record {
    constant = subst (λ (z : ℤ). unsigned_abs z ≤ 1000000000 * (count + 1)) (sym is.constant)
        (more_within count form.constant (signed t.0 next.constant) so_far.within.constant (signed_within t.0 1000000000 next.constant part.within.constant));
    coefficients = λ i. subst (λ (z : ℤ). unsigned_abs z ≤ 1000000000 * (count + 1)) (sym (is.coefficients i))
        (more_within count (coefficient form.terms i) (signed t.0 (coefficient next.terms i)) (so_far.within.coefficients i)
        (signed_within t.0 1000000000 (coefficient next.terms i) (part.within.coefficients i)));
  };
}

pub sum_begins : (s : Scope) (all : List (Sign × TreeTerm)) (form : Form) → form.constant ≡ pos 0 → form.terms ≡ [] → Summing s all all 0 form
sum_begins s all form constant terms = record {
  faults = refl;
  known = refl;
  constant = ap (λ (z : ℤ). z +ℤ sum_constant (plain_terms all)) constant ∙ +ℤ_idl (sum_constant (plain_terms all));
  coefficients = λ i. ap (λ (ts : List (ℕ × ℤ)). coefficient ts i +ℤ sum_at s.allowed (plain_terms all) i) terms
      ∙ +ℤ_idl (sum_at s.allowed (plain_terms all) i);
  within = record {
    constant = subst (λ (z : ℤ). unsigned_abs z ≤ 1000000000 * 0) (sym constant) (omega (arith, ints));
    coefficients = λ i. subst (λ (ts : List (ℕ × ℤ)). unsigned_abs (coefficient ts i) ≤ 1000000000 * 0) (sym terms) (omega (arith, ints));
  };
}

pub sum_ends : (s : Scope) (all : List (Sign × TreeTerm)) (count : ℕ) (form : Form) → Summing s all [] count form → count < 2 ^ 63 → (terms_faults s all ≡ [])
    × PartOf (sum_uses s.allowed (plain_terms all)) (linear_sum s.allowed (plain_terms all)) (2 ^ 93) form
sum_ends s all count form so_far few = (
  so_far.faults,
  record {
    known = so_far.known;
    numbers = record {
      constant = sym (+ℤ_idr form.constant) ∙ so_far.constant;
      coefficients = λ i. sym (+ℤ_idr (coefficient form.terms i)) ∙ ap (λ (z : ℤ). coefficient form.terms i +ℤ z) (sym (at_map_none s.allowed i))
          ∙ so_far.coefficients i;
    };
    within = within_more (1000000000 * count) (2 ^ 93) form (omega (arith, few)) so_far.within;
  },
)

pub sum_within : (s : Scope) (all left : List (Sign × TreeTerm)) (count : ℕ) (form : Form) → Summing s all left count form → count < 2 ^ 63
    → FormWithin (2 ^ 93) form
sum_within s all left count form so_far few = within_more (1000000000 * count) (2 ^ 93) form (omega (arith, few)) so_far.within

-- the first error of a term is the first of the sum
pub sum_fails : (s : Scope) (all left : List (Sign × TreeTerm)) (t : Sign × TreeTerm) (count : ℕ) (form : Form) (e : FileFault)
    → Summing s all (t ∷ left) count form → FirstOrMemory (judged_term s t.1).faults e → FirstOrMemory (terms_faults s all) e
sum_fails s all left t count form e so_far first =
    subst (λ (fs : List FileFault). FirstOrMemory fs e) (sym so_far.faults) (append-left-first (judged_term s t.1).faults (terms_faults s left) e first)

-- ---- the answers of a term

-- a number alone, or a blank, has no error but that of its number
-- an error of a number alone
pub alone_first : (s : Scope) (t : TreeTerm) (e : FileFault) → (out-TreeTerm t).body ≡ None → FirstOrMemory (number_faults (out-TreeTerm t).factor) e
    → FirstOrMemory (judged_term s t).faults e
alone_first s t e body first =
    subst (λ (fs : List FileFault). FirstOrMemory fs e) (sym (term_faults_none s t body))
    (else-left-first (number_faults (out-TreeTerm t).factor ++ []) (large_term s (out-TreeTerm t).at (term_of (out-TreeTerm t).factor None)) e
    (append-left-first (number_faults (out-TreeTerm t).factor) [] e first))

pub alone_answers : (s : Scope) (t : TreeTerm) (n : ℕ) (form : Form) → (out-TreeTerm t).body ≡ None → number_faults (out-TreeTerm t).factor ≡ []
    → n ≡ number_or 0 (out-TreeTerm t).factor → form.constant ≡ pos n → form.terms ≡ []
    → ((judged_term s t).faults ≡ []) × PartOf (term_uses s.allowed (plain_term t)) (linear_term s.allowed (plain_term t)) 1000000000 form
alone_answers s t n form body none is constant terms =
    let part = alone_part s.allowed (out-TreeTerm t).factor n form none is constant terms in
    let plain = term_of (out-TreeTerm t).factor None in
    let small = linear_small (linear_term s.allowed plain) form part.numbers part.within in (
      term_faults_none s t body
          ∙ else-none (number_faults (out-TreeTerm t).factor ++ []) (large_term s (out-TreeTerm t).at plain)
          (empty_both (number_faults (out-TreeTerm t).factor) [] none refl)
          (where-false (is_large_linear (linear_term s.allowed plain)) (fault.TooLarge (out-TreeTerm t).at) small),
      subst (λ (p : Term). PartOf (term_uses s.allowed p) (linear_term s.allowed p) 1000000000 form) (sym (plain_term_none t body)) part,
    )

-- an error of a term's number is its first
-- an error of a factor behind a number that has none
pub factor_first : (s : Scope) (t : TreeTerm) (f : TreeFactor) (e : FileFault) → (out-TreeTerm t).body ≡ Some f
    → number_faults (out-TreeTerm t).factor ≡ [] → FirstOrMemory (judged_factor s f).faults e → FirstOrMemory (judged_term s t).faults e
factor_first s t f e body none first =
    subst (λ (fs : List FileFault). FirstOrMemory fs e) (sym (term_faults_some s t f body))
    (else-left-first (number_faults (out-TreeTerm t).factor ++ (judged_factor s f).faults)
    (large_term s (out-TreeTerm t).at (term_of (out-TreeTerm t).factor (Some (plain_factor f)))) e
    (append-right-first (number_faults (out-TreeTerm t).factor) (judged_factor s f).faults e none first))

-- the number before a factor, 1 where there is none
pub number_small : (factor : Option Digits) (n : ℕ) → number_faults factor ≡ [] → n ≡ number_or 1 factor → n ≤ 1000000000
number_small None n none is = omega (arith, is)
number_small (Some d) n none is = omega (arith, is, number_is_small d none)

-- what a factor answers, from what its name or its sum does
factor_answers : (s : Scope) (f : TreeFactor) (faults : List FileFault) (plain : Factor) (bound : ℕ) (r : Result Form FileFault)
    → (judged_factor s f).faults ≡ faults → plain_factor f ≡ plain → bound ≤ 2 ^ 93
    → Answers faults (PartOf (factor_uses s.allowed plain) (linear_factor s.allowed plain) bound) r
    → Answers (judged_factor s f).faults (PartOf (factor_uses s.allowed (plain_factor f)) (linear_factor s.allowed (plain_factor f)) (2 ^ 93)) r
factor_answers s f faults plain bound r same alike below answer =
    let wide = answers-knowing faults _ (PartOf (factor_uses s.allowed plain) (linear_factor s.allowed plain) (2 ^ 93)) r
    (λ form none part. record { known = part.known; numbers = part.numbers; within = within_more bound (2 ^ 93) form below part.within }) answer in
    answers-along faults (judged_factor s f).faults _ r (sym same)
    (subst (λ (p : Factor). Answers faults (PartOf (factor_uses s.allowed p) (linear_factor s.allowed p) (2 ^ 93)) r) (sym alike) wide)

pub named_answers : (s : Scope) (f : TreeFactor) (n : Spelled) (r : Result Form FileFault) → f ≡ Named n
    → Answers (used_faults s.places s.allowed n) (PartOf (factor_uses s.allowed (named n.name)) (linear_factor s.allowed (named n.name)) 1) r
    → Answers (judged_factor s f).faults (PartOf (factor_uses s.allowed (plain_factor f)) (linear_factor s.allowed (plain_factor f)) (2 ^ 93)) r
named_answers s f n r is answer = factor_answers s f _ _ 1 r (ap (λ (x : TreeFactor). (judged_factor s x).faults) is ∙ named_faults s n)
    (ap plain_factor is ∙ plain_named n) (omega arith) answer

pub nested_answers : (s : Scope) (f : TreeFactor) (t : TreeSum) (r : Result Form FileFault) → f ≡ Nested t
    → Answers (sum_faults s t) (PartOf (sum_uses s.allowed (plain_sum t)) (linear_sum s.allowed (plain_sum t)) (2 ^ 93)) r
    → Answers (judged_factor s f).faults (PartOf (factor_uses s.allowed (plain_factor f)) (linear_factor s.allowed (plain_factor f)) (2 ^ 93)) r
nested_answers s f t r is answer = factor_answers s f _ (nested (plain_sum t)) (2 ^ 93) r
    (ap (λ (x : TreeFactor). (judged_factor s x).faults) is ∙ nested_faults s t) (ap plain_factor is ∙ plain_nested t) (omega arith) answer

pub number_first : (s : Scope) (t : TreeTerm) (f : TreeFactor) (e : FileFault) → (out-TreeTerm t).body ≡ Some f
    → FirstOrMemory (number_faults (out-TreeTerm t).factor) e → FirstOrMemory (judged_term s t).faults e
number_first s t f e body first =
    subst (λ (fs : List FileFault). FirstOrMemory fs e) (sym (term_faults_some s t f body))
    (else-left-first (number_faults (out-TreeTerm t).factor ++ (judged_factor s f).faults)
    (large_term s (out-TreeTerm t).at (term_of (out-TreeTerm t).factor (Some (plain_factor f)))) e
    (append-left-first (number_faults (out-TreeTerm t).factor) (judged_factor s f).faults e first))

-- a factor whose number and parts have no error
pub product_answers : (s : Scope) (t : TreeTerm) (f : TreeFactor) (n : ℕ) (inner product : Form) (r : Result Form FileFault) → (out-TreeTerm t).body ≡ Some f
    → number_faults (out-TreeTerm t).factor ≡ [] → n ≡ number_or 1 (out-TreeTerm t).factor → (judged_factor s f).faults ≡ []
    → PartOf (factor_uses s.allowed (plain_factor f)) (linear_factor s.allowed (plain_factor f)) (2 ^ 93) inner → IsMultiple product inner (pos n)
    → Answers (where_ (is_large_form product) (fault.TooLarge (out-TreeTerm t).at)) (λ form. form ≡ product) r
    → Answers (judged_term s t).faults (PartOf (term_uses s.allowed (plain_term t)) (linear_term s.allowed (plain_term t)) 1000000000) r
product_answers s t f n inner product r body none is none_inner part multiple answer =
    let plain = term_of (out-TreeTerm t).factor (Some (plain_factor f)) in
    let numbers = product_numbers s.allowed (out-TreeTerm t).factor (plain_factor f) n inner product is part.numbers multiple in
    let same = same_large (linear_term s.allowed plain) product numbers in
    let right : (form : Form) → where_ (is_large_form product) (fault.TooLarge (out-TreeTerm t).at) ≡ [] → form ≡ product
    → PartOf (term_uses s.allowed plain) (linear_term s.allowed plain) 1000000000 form =
    λ form small e. subst (λ (x : Form). PartOf (term_uses s.allowed plain) (linear_term s.allowed plain) 1000000000 x) (sym e) (record {
      known = product_known s.allowed (out-TreeTerm t).factor (plain_factor f) part.known;
      numbers = numbers;
      within = small_within product (not-where (is_large_form product) (fault.TooLarge (out-TreeTerm t).at) small);
    })
    in
    let known = answers-knowing (where_ (is_large_form product) (fault.TooLarge (out-TreeTerm t).at)) (λ form. form ≡ product)
    (PartOf (term_uses s.allowed plain) (linear_term s.allowed plain) 1000000000) r right answer in
    let large = answers-along (where_ (is_large_form product) (fault.TooLarge (out-TreeTerm t).at)) (large_term s (out-TreeTerm t).at plain)
    (PartOf (term_uses s.allowed plain) (linear_term s.allowed plain) 1000000000) r (ap (λ (b : Bool). where_ b (fault.TooLarge (out-TreeTerm t).at)) same)
    known in
    let both = answers-otherwise (number_faults (out-TreeTerm t).factor ++ (judged_factor s f).faults) (large_term s (out-TreeTerm t).at plain)
    (PartOf (term_uses s.allowed plain) (linear_term s.allowed plain) 1000000000) r
    (empty_both (number_faults (out-TreeTerm t).factor) (judged_factor s f).faults none none_inner) large in
    let term = answers-along (else_ (number_faults (out-TreeTerm t).factor ++ (judged_factor s f).faults) (large_term s (out-TreeTerm t).at plain))
    (judged_term s t).faults (PartOf (term_uses s.allowed plain) (linear_term s.allowed plain) 1000000000) r (sym (term_faults_some s t f body)) both in
    subst (λ (p : Term). Answers (judged_term s t).faults (PartOf (term_uses s.allowed p) (linear_term s.allowed p) 1000000000) r)
    (sym (plain_term_some t f body)) term
