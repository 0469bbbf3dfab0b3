-- what the types of an automaton and of a file keep, in the form that the laws of runs need
use Rattle.ta_automaton.proofs.Common.{◌≡◌, ◌⊎◌, inl, inr, ℕ, zero, suc, ◌+◌, ◌<◌, ◌≤◌, ℤ, pos, ◌+ℤ◌, ◌*ℤ◌, ◌≤ℤ◌, ◌<ℤ◌, List, [], ◌∷◌, ◌++◌, length, arith, sym}
use Rattle.ta_automaton.proofs.Common.{ap, ◌∙◌, refl, slice_get, Some, IsBitSet, eqb, false, length-append, All, ints, cases_lt, nat_tests, eqb_tells}
use Rattle.ta_automaton.proofs.Common.{get_or_append_left, bit_below, each_at, each_from_at, less_times, times_le, coefficient, IsNormal, terms_value, value_of}
use Rattle.ta_automaton.proofs.Common.{RowHolds, Form, Row, Rule, Automaton, Event, Pattern, FormOver, RowOver, ConditionOver, RiseRow, FallRow, Comparison}
use Rattle.ta_automaton.proofs.Common.{Condition, Config, value_at, number_at, HoldsAt, File, AllByRecursion}
use Rattle.ta_linear.proofs.TermLemmas.{IsNormal-le}
use Rattle.ta_automaton.specs.Shape.{Update, RuleWithin}
use Rattle.ta_automaton.specs.Patterns.{EventWithin, PatternWithin}

-- terms over parameters and shared variables, with no positive coefficient of a shared variable
abbrev pub FallTerms : ℕ → ℕ → List (ℕ × ℤ) → Type 0
FallTerms parameters shared [] = Unit {0}
FallTerms parameters shared (t ∷ ts) =
    ((t.0 < parameters) ⊎ ((parameters ≤ t.0) × (t.0 < parameters + shared) × (t.1 ≤ℤ pos 0))) × FallTerms parameters shared ts

-- terms over parameters and shared variables, with no negative coefficient of a shared variable
abbrev pub RiseTerms : ℕ → ℕ → List (ℕ × ℤ) → Type 0
RiseTerms parameters shared [] = Unit {0}
RiseTerms parameters shared (t ∷ ts) =
    ((t.0 < parameters) ⊎ ((parameters ≤ t.0) × (t.0 < parameters + shared) × (pos 0 ≤ℤ t.1))) × RiseTerms parameters shared ts

fall_terms : (p s low : ℕ) (ts : List (ℕ × ℤ)) → IsNormal low (p + s) ts → AllByRecursion (λ (t : ℕ × ℤ). p ≤ t.0 → t.1 ≤ℤ pos 0) ts → FallTerms p s ts
fall_terms p s low [] n h = tt
fall_terms p s low (t ∷ ts) n h = (
  elim (cases_lt t.0 p) [ inl b ↦ inl b | inr b ↦ inr (b, omega (arith, IsNormal-le (t.0 + 1) (p + s) ts n.2), h.0 b) ],
  fall_terms p s (t.0 + 1) ts n.2 h.1,
)

rise_terms : (p s low : ℕ) (ts : List (ℕ × ℤ)) → IsNormal low (p + s) ts → AllByRecursion (λ (t : ℕ × ℤ). p ≤ t.0 → pos 0 ≤ℤ t.1) ts → RiseTerms p s ts
rise_terms p s low [] n h = tt
rise_terms p s low (t ∷ ts) n h = (
  elim (cases_lt t.0 p) [ inl b ↦ inl b | inr b ↦ inr (b, omega (arith, IsNormal-le (t.0 + 1) (p + s) ts n.2), h.0 b) ],
  rise_terms p s (t.0 + 1) ts n.2 h.1,
)

-- fall guards only turn false, since updates are natural
pub falls : (a : Automaton) (j : ℕ) (row : Row) → slice_get a.fall j ≡ Some row → FallTerms (length a.parameters) (length a.shared) row.form.terms
falls a j row at =
    let f = each_at (FallRow (length a.parameters) (length a.shared)) a.fall j row a.shape.fall_rows at in
    fall_terms (length a.parameters) (length a.shared) 0 row.form.terms f.over.below f.falls

pub rises : (a : Automaton) (i : ℕ) (row : Row) → slice_get a.rise i ≡ Some row → RiseTerms (length a.parameters) (length a.shared) row.form.terms
rises a i row at =
    let f = each_at (RiseRow (length a.parameters) (length a.shared)) a.rise i row a.shape.rise_rows at in
    rise_terms (length a.parameters) (length a.shared) 0 row.form.terms f.over.below f.rises

pub rule_within : (a : Automaton) (r : ℕ) (rule : Rule) → slice_get a.rules r ≡ Some rule
    → RuleWithin (length a.shared) (length a.locations) (length a.rise) (length a.fall) rule
rule_within a r rule at = each_at (RuleWithin (length a.shared) (length a.locations) (length a.rise) (length a.fall)) a.rules r rule a.shape.rules_within at

pub from_within : (a : Automaton) (r : ℕ) (rule : Rule) → slice_get a.rules r ≡ Some rule → rule.from < length a.locations
from_within a r rule at = (rule_within a r rule at).from

pub to_within : (a : Automaton) (r : ℕ) (rule : Rule) → slice_get a.rules r ≡ Some rule → rule.to < length a.locations
to_within a r rule at = (rule_within a r rule at).to

pub natural_terms : (shared : ℕ) (ts : List (ℕ × ℤ)) (x : ℕ) → AllByRecursion (Update shared) ts → pos 0 ≤ℤ coefficient ts x
natural_terms shared [] x h = omega (arith, ints)
natural_terms shared (t ∷ ts) x h =
    let least = (h.0).least in
    let rest = natural_terms shared ts x h.1 in
    elim (eqb_tells t.0 x) [ inl e ↦ rw e.0 (omega (arith, ints)) | inr ne ↦ rw ne.0 (omega (arith, ints)) ]

terms_within : (shared : ℕ) (ts : List (ℕ × ℤ)) (x : ℕ) → AllByRecursion (Update shared) ts → shared ≤ x → coefficient ts x ≡ pos 0
terms_within shared [] x h b = refl
terms_within shared (t ∷ ts) x h b =
    let here = (h.0).exists in
    let rest = terms_within shared ts x h.1 b in
    let ne : eqb t.0 x ≡ false = grind (arith, nat_tests) in
    rw ne (omega (arith, ints, rest))

-- updates are natural, and of existing shared variables
pub updates_natural : (a : Automaton) (r : ℕ) (rule : Rule) → slice_get a.rules r ≡ Some rule → (x : ℕ) → pos 0 ≤ℤ coefficient rule.updates x
updates_natural a r rule at x = natural_terms (length a.shared) rule.updates x (rule_within a r rule at).updates

pub updates_within : (a : Automaton) (r : ℕ) (rule : Rule) → slice_get a.rules r ≡ Some rule → (x : ℕ) → length a.shared ≤ x
    → coefficient rule.updates x ≡ pos 0
updates_within a r rule at x b = terms_within (length a.shared) rule.updates x (rule_within a r rule at).updates b

pub pattern_within : (file : File) (n : ℕ) (p : Pattern) → slice_get file.patterns n ≡ Some p
    → PatternWithin (length file.automaton.parameters + length file.automaton.shared + length file.automaton.locations) (length file.automaton.locations) p
pattern_within file n p at = each_at
    (PatternWithin (length file.automaton.parameters + length file.automaton.shared + length file.automaton.locations) (length file.automaton.locations))
    file.patterns n p file.shape.within at

-- events come after earlier ones alone
pub after_earlier : (places locations : ℕ) (p : Pattern) → PatternWithin places locations p → (e : ℕ) (event : Event) → slice_get p.events e ≡ Some event
    → (f : ℕ) → IsBitSet event.after f → f < e
after_earlier places locations p within e event at f b =
    let w = each_from_at (EventWithin places) 0 p.events e event within.events at in
    let n = bit_below event.after (0 + e) f w.after b in
    omega arith

pub terms_same : (f g : ℕ → ℤ) (low high : ℕ) (ts : List (ℕ × ℤ)) → IsNormal low high ts → ((i : ℕ) → i < high → f i ≡ g i)
    → terms_value f ts ≡ terms_value g ts
terms_same f g low high [] n h = refl
terms_same f g low high (t ∷ ts) n h =
    let same = h t.0 (omega (arith, IsNormal-le (t.0 + 1) high ts n.2)) in
    omega (arith, ints, ap (λ z. t.1 *ℤ z) same, terms_same f g (t.0 + 1) high ts n.2 h)

-- a form over the first places has one value at two points that agree on them
pub form_same : (f g : ℕ → ℤ) (places : ℕ) (form : Form) → FormOver places form → ((i : ℕ) → i < places → f i ≡ g i) → value_of f form ≡ value_of g form
form_same f g places form over h = ap (λ z. form.constant +ℤ z) (terms_same f g 0 places form.terms over.below h)

-- the value at a parameter's place is the parameter's
pub value_at-first : (c : Config) (i : ℕ) → i < length c.parameters → value_at c i ≡ number_at c.parameters i
value_at-first c i b =
    let more : i < length (c.parameters ++ c.shared) = omega (arith, length-append c.parameters c.shared) in
    ap pos (get_or_append_left (c.parameters ++ c.shared) c.counters 0 i more ∙ get_or_append_left c.parameters c.shared 0 i b)

-- a form over the parameters has one value in a configuration and at its parameters
pub form_at_parameters : (a : Automaton) (c : Config) (form : Form) → length c.parameters ≡ length a.parameters → FormOver (length a.parameters) form
    → value_of (value_at c) form ≡ value_of (number_at c.parameters) form
form_at_parameters a c form count over = form_same (value_at c) (number_at c.parameters) (length a.parameters) form over
    (λ i b. value_at-first c i (omega arith))

pub processes_value : (a : Automaton) (c : Config) → length c.parameters ≡ length a.parameters
    → value_of (value_at c) a.processes ≡ value_of (number_at c.parameters) a.processes
processes_value a c count = form_at_parameters a c a.processes count a.shape.processes_over

rows_same : (f g : ℕ → ℤ) (places : ℕ) → ((i : ℕ) → i < places → f i ≡ g i) → (rows : List Row) → AllByRecursion (RowOver places) rows → All (RowHolds f) rows
    → All (RowHolds g) rows
rows_same f g places same [] over h j d b = absurd (omega arith)
rows_same f g places same (r ∷ rows) over h zero d b =
    let was : pos 0 ≤ℤ value_of f r.form = h 0 d (omega arith) in
    omega (arith, ints, form_same f g places r.form over.0 same)
rows_same f g places same (r ∷ rows) over h (suc j) d b = rows_same f g places same rows over.1 (λ i e c. h (suc i) e (omega arith)) j d (omega arith)

comparisons_same : (f g : ℕ → ℤ) (places : ℕ) → ((i : ℕ) → i < places → f i ≡ g i) → (ks : List Comparison)
    → AllByRecursion (λ (k : Comparison). AllByRecursion (RowOver places) k.rows) ks → All (λ (k : Comparison). All (RowHolds f) k.rows) ks
    → All (λ (k : Comparison). All (RowHolds g) k.rows) ks
comparisons_same f g places same [] over h j d b = absurd (omega arith)
comparisons_same f g places same (k ∷ ks) over h zero d b = rows_same f g places same k.rows over.0 (h 0 d (omega arith))
comparisons_same f g places same (k ∷ ks) over h (suc j) d b = comparisons_same f g places same ks over.1 (λ i e c. h (suc i) e (omega arith)) j d (omega arith)

-- a condition over the first places that holds at a point holds at a point that agrees on them
pub condition_same : (f g : ℕ → ℤ) (places : ℕ) (condition : Condition) → ConditionOver places condition → ((i : ℕ) → i < places → f i ≡ g i)
    → HoldsAt f condition → HoldsAt g condition
condition_same f g places condition over same h = comparisons_same f g places same condition.comparisons over h

-- the resilience condition holds at the parameters where it holds in the configuration, and the other way
pub resilience_at : (a : Automaton) (c : Config) → length c.parameters ≡ length a.parameters → HoldsAt (value_at c) a.resilience
    → HoldsAt (number_at c.parameters) a.resilience
resilience_at a c count h = condition_same (value_at c) (number_at c.parameters) (length a.parameters) a.resilience a.shape.resilience_over
    (λ i b. value_at-first c i (omega arith)) h

pub resilience_holds : (a : Automaton) (c : Config) → length c.parameters ≡ length a.parameters → HoldsAt (number_at c.parameters) a.resilience
    → HoldsAt (value_at c) a.resilience
resilience_holds a c count h = condition_same (number_at c.parameters) (value_at c) (length a.parameters) a.resilience a.shape.resilience_over
    (λ i b. sym (value_at-first c i (omega arith))) h

-- two points, of which the second has the same parameters and no less shared variables
pub record Later (a : Automaton) (f g : ℕ → ℤ) : Type 0 where
  pub parameters : (i : ℕ) → i < length a.parameters → g i ≡ f i
  pub shared : (i : ℕ) → length a.parameters ≤ i → i < length a.parameters + length a.shared → f i ≤ℤ g i

pub fall_back : (a : Automaton) (f g : ℕ → ℤ) → Later a f g → (ts : List (ℕ × ℤ)) → FallTerms (length a.parameters) (length a.shared) ts
    → terms_value g ts ≤ℤ terms_value f ts
fall_back a f g l [] h = omega (arith, ints)
fall_back a f g l (t ∷ ts) h = elim h.0 [
  | inl b ↦ omega (arith, ints, ap (λ z. t.1 *ℤ z) (l.parameters t.0 b), fall_back a f g l ts h.1)
  | inr w ↦ omega (arith, ints, less_times t.1 (f t.0) (g t.0) w.2 (l.shared t.0 w.0 w.1), fall_back a f g l ts h.1)
]

pub rise_on : (a : Automaton) (f g : ℕ → ℤ) → Later a f g → (ts : List (ℕ × ℤ)) → RiseTerms (length a.parameters) (length a.shared) ts
    → terms_value f ts ≤ℤ terms_value g ts
rise_on a f g l [] h = omega (arith, ints)
rise_on a f g l (t ∷ ts) h = elim h.0 [
  | inl b ↦ omega (arith, ints, ap (λ z. t.1 *ℤ z) (l.parameters t.0 b), rise_on a f g l ts h.1)
  | inr w ↦ omega (arith, ints, times_le t.1 (f t.0) (g t.0) w.2 (l.shared t.0 w.0 w.1), rise_on a f g l ts h.1)
]

-- a rise guard that holds at a point holds at a later one
pub stays_true : (a : Automaton) (f g : ℕ → ℤ) → Later a f g → (i : ℕ) (row : Row) → slice_get a.rise i ≡ Some row → RowHolds f row → RowHolds g row
stays_true a f g l i row at h =
    let more = rise_on a f g l row.form.terms (rises a i row at) in
    let was : pos 0 ≤ℤ value_of f row.form = h in
    omega (arith, ints)

-- a fall guard that fails at a point fails at a later one
pub stays_below : (a : Automaton) (f g : ℕ → ℤ) → Later a f g → (j : ℕ) (row : Row) → slice_get a.fall j ≡ Some row → value_of f row.form <ℤ pos 0
    → value_of g row.form <ℤ pos 0
stays_below a f g l j row at h =
    let less = fall_back a f g l row.form.terms (falls a j row at) in
    omega (arith, ints)
