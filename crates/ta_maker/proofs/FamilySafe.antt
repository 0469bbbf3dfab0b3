-- What the text of an automaton of the family means: no rule lies on a cycle, and the pattern occurs in no run.
use Rattle.ta_maker.proofs.Common.{◌≡◌, ◌∙◌, Bool, false, nat_eq, Option, None, if◌then◌else◌, ◌+◌, ◌≤◌, ℕ, zero, suc, ℤ, pos, ◌+ℤ◌, ◌-ℤ◌, ◌*ℤ◌, negsuc, ◌≤ℤ◌}
use Rattle.ta_maker.proofs.Common.{◌^◌, List, [], ◌∷◌, ◌++◌, length, map, refl, sym, ap, subst, arith, length-map, codes, range_with_len, numbered, rules_of}
use Rattle.ta_maker.proofs.Common.{slice_get, get_or, Some, fold, sum, AllByRecursion, slice_index_or, length-range_with_len, File, family, lone, name, sender}
use Rattle.ta_maker.proofs.Common.{waiter, IsFamilyNumber, comparison_rows, linear_sum, Guards, MeansTree, plain_names, PlainComparison, PlainRule, number}
use Rattle.std.proofs.lemmas.Bool.Decides.{nat_tests}
use Rattle.std.proofs.lemmas.Int.{ints}
use Rattle.std.specs.List.{All}
use Rattle.ta_automaton.proofs.Moves.{value_at-location, value_at-parameter}
use Rattle.ta_automaton.proofs.RunLaws.{counters_add_up, fits_at}
use Rattle.ta_automaton.specs.Places.{location_place}
use Rattle.ta_automaton.specs.Runs.{HoldsAt, value_at}
use Rattle.ta_automaton.specs.declared.automaton.Automaton.{Automaton}
use Rattle.ta_automaton.specs.declared.condition.Comparison.{Comparison}
use Rattle.ta_automaton.specs.declared.condition.Condition.{Condition}
use Rattle.ta_automaton.specs.declared.pattern.Event.{Event}
use Rattle.ta_automaton.specs.declared.pattern.Pattern.{Pattern}
use Rattle.ta_automaton.specs.declared.rule.Rule.{Rule}
use Rattle.ta_base.specs.Lists.{Pairwise}
use Rattle.ta_linear.proofs.NormalTerms.{normal_unique}
use Rattle.ta_linear.specs.Terms.{coefficient, IsNormal, IsTerm}
use Rattle.ta_linear.specs.Values.{RowHolds, terms_value, value_of}
use Rattle.ta_linear.specs.declared.form.Form.{Form}
use Rattle.ta_linear.specs.declared.row.Row.{Row}
use Rattle.ta_maker.specs.Family.{at_least, lost, pair}
use Rattle.ta_meaning.specs.Linear.{FormOf, MeansComparison, RowOf, linear_difference, minus}
use Rattle.ta_meaning.specs.Meaning.{MeansAutomaton, MeansEvents, MeansPattern, MeansRule, guards_of}
use Rattle.ta_meaning.specs.Sums.{sum_coefficient}
use Rattle.ta_scope.specs.Faults.{FirstRuleFault}
use Rattle.ta_automaton.specs.Runs as runs

-- ---- no cycles: each rule goes from the first location to the second
record FromAToB (rule : Rule) : Type 0 where
  from : rule.from ≡ 0
  to : rule.to ≡ 1

-- the first byte of a text
first_byte : Option (List ℕ) → ℕ
first_byte None = 0
first_byte (Some []) = 0
first_byte (Some (c ∷ cs)) = c

first_place : (i : ℕ) → slice_get (codes "A" ∷ codes "B" ∷ []) i ≡ Some (codes "A") → i ≡ 0
unfolding first_byte
first_place zero e = refl
first_place (suc zero) e = let b : 66 ≡ 65 = ap first_byte e in absurd (omega (arith, b))
first_place (suc (suc i)) e = let b : 0 ≡ 65 = ap first_byte e in absurd (omega (arith, b))

second_place : (i : ℕ) → slice_get (codes "A" ∷ codes "B" ∷ []) i ≡ Some (codes "B") → i ≡ 1
unfolding first_byte
second_place zero e = let b : 65 ≡ 66 = ap first_byte e in absurd (omega (arith, b))
second_place (suc zero) e = refl
second_place (suc (suc i)) e = let b : 0 ≡ 66 = ap first_byte e in absurd (omega (arith, b))

from_a : (k : ℕ) (gs : Guards) (p : PlainRule) (rule : Rule) → p.from ≡ codes "A" → p.to ≡ codes "B" → MeansRule (plain_names (family k)) gs p rule
    → FromAToB rule
from_a k gs p rule a b h = record { from = first_place rule.from (h.from ∙ ap Some a); to = second_place rule.to (h.to ∙ ap Some b) }

goes : (k : ℕ) (gs : Guards) (is : List ℕ) (rules : List Rule) → Pairwise (MeansRule (plain_names (family k)) gs) (rules_of is) rules
    → (r : ℕ) (rule : Rule) → slice_get rules r ≡ Some rule → FromAToB rule
goes k gs [] [] h r rule e = absurd (cc)
goes k gs [] (x ∷ xs) h r rule e = absurd h
goes k gs (i ∷ is) [] h r rule e = absurd h
goes k gs (i ∷ is) (x ∷ []) h r rule e = absurd h.1
goes k gs (i ∷ is) (x ∷ y ∷ xs) h zero rule e =
    let same : x ≡ rule = cc in from_a k gs (sender i) rule refl refl (subst (λ (q : Rule). MeansRule (plain_names (family k)) gs (sender i) q) same h.0)
goes k gs (i ∷ is) (x ∷ y ∷ xs) h (suc zero) rule e =
    let same : y ≡ rule = cc in from_a k gs (waiter i) rule refl refl (subst (λ (q : Rule). MeansRule (plain_names (family k)) gs (waiter i) q) same h.1.0)
goes k gs (i ∷ is) (x ∷ y ∷ xs) h (suc (suc r)) rule e = goes k gs is xs h.1.1 r rule e

no_walk : (a : Automaton) → ((r : ℕ) (rule : Rule) → slice_get a.rules r ≡ Some rule → FromAToB rule) → (rule : Rule) → FromAToB rule → (walk : List ℕ)
    → runs.Walk a rule.to walk rule.from → ⊥
no_walk a all rule here [] w = let from = here.from in let to = here.to in omega (arith, from, to, w)
no_walk a all rule here (r ∷ rs) w =
    let to = here.to in
    let next = (all r w.0 w.1).from in
    let at : w.0.from ≡ rule.to = w.2 in
    omega (arith, to, next, at)

-- a file that the tree means is in scope
pub no_cycle : (k : ℕ) (a : Automaton) → MeansAutomaton (family k) a → (r : ℕ) → FirstRuleFault a r → ⊥
no_cycle k a means r f =
    let all = goes k (guards_of (plain_names (family k)) (family k).rules) (range_with_len 1 k) a.rules means.rules in
    no_walk a all f.rule (all r f.rule f.named) f.at_fault.walk f.at_fault.back

-- ---- the numbers of the pattern's row and of the sum of the processes
abbrev asked_at : List ℕ → ℤ
asked_at x = sum_coefficient x (pair (name (codes "A")) (name (codes "B"))) -ℤ sum_coefficient x (pair (name (codes "n")) (number (codes "1")))

abbrev behind_shared : ℕ → List (ℕ × ℤ)
behind_shared m = (m, pos 1) ∷ (suc m, pos 1) ∷ []

same_next : (m x : ℕ) → nat_eq (suc m) (suc x) ≡ nat_eq m x
same_next m x = grind (arith, nat_tests)

never_zero : (m : ℕ) → nat_eq (suc m) 0 ≡ false
never_zero m = grind (arith, nat_tests)

zero_never : (x : ℕ) → nat_eq 0 (suc x) ≡ false
zero_never x = grind (arith, nat_tests)

one_never : (x : ℕ) → nat_eq 1 (suc (suc x)) ≡ false
one_never x = grind (arith, nat_tests)

zero-plus : (z : ℤ) → (pos 0 +ℤ z) ≡ z
zero-plus z = omega (arith, ints)

abbrev two_tests : Bool → Bool → ℤ
two_tests a b = (if a then pos 1 else pos 0) +ℤ ((if b then pos 1 else pos 0) +ℤ pos 0)

behind_is : (ns : List ℕ) (x : ℕ) → slice_index_or (map asked_at (map (numbered (codes "x")) ns ++ codes "A" ∷ codes "B" ∷ [])) x (pos 0) ≡ coefficient
    (behind_shared (length ns)) x
behind_is [] zero = refl
behind_is [] (suc zero) = refl
behind_is [] (suc (suc x)) = λ i. two_tests (sym (zero_never (suc x)) i) (sym (one_never x) i)
behind_is (n ∷ ns) zero = λ i. two_tests (sym (never_zero (length ns)) i) (sym (never_zero (suc (length ns))) i)
behind_is (n ∷ ns) (suc x) = behind_is ns x ∙ (λ i. two_tests (sym (same_next (length ns) x) i) (sym (same_next (suc (length ns)) x) i))

abbrev asked_terms : ℕ → List (ℕ × ℤ)
asked_terms m = (0, negsuc 0) ∷ behind_shared (suc m)

asked_is : (ns : List ℕ) (x : ℕ) → coefficient (asked_terms (length ns)) x ≡ slice_index_or
    (map asked_at (codes "n" ∷ (map (numbered (codes "x")) ns ++ codes "A" ∷ codes "B" ∷ []))) x (pos 0)
asked_is ns zero = λ i. negsuc 0 +ℤ two_tests (never_zero (length ns) i) (never_zero (suc (length ns)) i)
asked_is ns (suc x) =
    (λ i. (if zero_never x i then negsuc 0 else pos 0) +ℤ two_tests (same_next (length ns) x i) (same_next (suc (length ns)) x i))
    ∙ zero-plus (two_tests (nat_eq (length ns) x) (nat_eq (suc (length ns)) x)) ∙ sym (behind_is ns x)

alone_is : (x : ℕ) → coefficient ((0, pos 1) ∷ []) x ≡ slice_index_or (pos 1 ∷ []) x (pos 0)
alone_is zero = refl
alone_is (suc x) = λ i. (if zero_never x i then pos 1 else pos 0) +ℤ pos 0

one_term : (x : ℕ) → IsTerm (x, pos 1)
one_term x = record { not_zero = λ e. absurd (omega (arith, ints)); in_range = omega arith }

less_term : IsTerm (0, negsuc 0)
less_term = record { not_zero = λ e. absurd (omega (arith, ints)); in_range = omega arith }

asked_normal : (m : ℕ) → m ≤ 7 → IsNormal 0 (2 ^ 32) (asked_terms m)
asked_normal m small = (omega arith, less_term, (omega arith, one_term (suc m), (omega arith, one_term (suc (suc m)), omega arith)))

alone_normal : IsNormal 0 (2 ^ 32) ((0, pos 1) ∷ [])
alone_normal = (omega arith, one_term 0, omega arith)

asked_form : (ns : List ℕ) (form : Form) → length ns ≤ 7
    → FormOf (linear_difference (codes "n" ∷ (map (numbered (codes "x")) ns ++ codes "A" ∷ codes "B" ∷ []))
    (minus (pair (name (codes "A")) (name (codes "B"))) (pair (name (codes "n")) (number (codes "1"))) (pos 0))) form
    → form.terms ≡ asked_terms (length ns)
asked_form ns form small h = normal_unique 0 (2 ^ 32) form.terms (asked_terms (length ns)) form.normal (asked_normal (length ns) small)
    (λ x. h.coefficients x ∙ sym (asked_is ns x))

alone_form : (form : Form) → FormOf (linear_sum (codes "n" ∷ []) (lone (name (codes "n")))) form → form.terms ≡ (0, pos 1) ∷ []
alone_form form h = normal_unique 0 (2 ^ 32) form.terms ((0, pos 1) ∷ []) form.normal alone_normal (λ x. h.coefficients x ∙ sym (alone_is x))

-- ---- there are never more processes in two locations than there are
grows : (xs : List ℕ) (s : ℕ) → s ≤ fold (λ a x. a + x) s xs
grows [] s = omega arith
grows (x ∷ xs) s = let h = grows xs (s + x) in omega (arith, h)

two_at_most : (cs : List ℕ) → get_or cs 0 0 + get_or cs 1 0 ≤ sum cs
two_at_most [] = omega arith
two_at_most (a ∷ []) = omega arith
two_at_most (a ∷ b ∷ cs) = let h = grows cs (0 + a + b) in omega (arith, h)

too_many : (p a b total : ℕ) → a + b ≤ total → pos total ≡ (pos 0 +ℤ ((pos 1 *ℤ pos p) +ℤ pos 0))
    → pos 0 ≤ℤ (negsuc 0 +ℤ ((negsuc 0 *ℤ pos p) +ℤ ((pos 1 *ℤ pos a) +ℤ ((pos 1 *ℤ pos b) +ℤ pos 0)))) → ⊥
too_many p a b total most is more = omega (arith, ints, most, is, more)

record Counted (a : Automaton) (m : ℕ) : Type 0 where
  parameters : length a.parameters ≡ 1
  shared : length a.shared ≡ m
  constant : a.processes.constant ≡ pos 0
  terms : a.processes.terms ≡ (0, pos 1) ∷ []

counted_so : (k : ℕ) (a : Automaton) → MeansAutomaton (family k) a → Counted a (length (range_with_len 1 k))
counted_so k a means = record {
  parameters = ap length means.parameters;
  shared = ap length means.shared ∙ length-map (range_with_len 1 k) (numbered (codes "x"));
  constant = means.processes.numbers.constant;
  terms = alone_form a.processes means.processes.numbers;
}

never_holds : (a : Automaton) (m : ℕ) → Counted a m → (row : Row) → row.form.constant ≡ negsuc 0 → row.form.terms ≡ asked_terms m
    → (first : runs.Config) (rules : List ℕ) (later : List runs.Config) → runs.Run a first rules later → (k : ℕ) (c : runs.Config) → runs.At first later k c
    → pos 0 ≤ℤ value_of (value_at c) row.form → ⊥
never_holds a m h row constant terms first rules later run k c at more =
    let fits = fits_at a first rules later run k c at in
    let parameters = h.parameters in
    let shared = h.shared in
    let adds = counters_add_up a first rules later run k c at in
    let n = get_or c.parameters 0 0 in
    let x = get_or c.counters 0 0 in
    let y = get_or c.counters 1 0 in
    let at_n : value_at c 0 ≡ pos n = value_at-parameter a c 0 fits (omega arith) in
    let place_x : location_place a 0 ≡ suc m = omega arith in
    let place_y : location_place a 1 ≡ suc (suc m) = omega arith in
    let at_x : value_at c (suc m) ≡ pos x = ap (value_at c) (sym place_x) ∙ value_at-location a c 0 fits in
    let at_y : value_at c (suc (suc m)) ≡ pos y = ap (value_at c) (sym place_y) ∙ value_at-location a c 1 fits in
    let all : pos (sum c.counters) ≡ (pos 0 +ℤ ((pos 1 *ℤ pos n) +ℤ pos 0))
    = adds ∙ (λ i. h.constant i +ℤ terms_value (runs.number_at c.parameters) (h.terms i)) in
    let row_is : value_of (value_at c) row.form ≡ (negsuc 0 +ℤ ((negsuc 0 *ℤ pos n) +ℤ ((pos 1 *ℤ pos x) +ℤ ((pos 1 *ℤ pos y) +ℤ pos 0))))
    = (λ i. constant i +ℤ terms_value (value_at c) (terms i))
    ∙ (λ i. negsuc 0 +ℤ ((negsuc 0 *ℤ at_n i) +ℤ ((pos 1 *ℤ at_x i) +ℤ ((pos 1 *ℤ at_y i) +ℤ pos 0)))) in
    too_many n x y (sum c.counters) (two_at_most c.counters) all (subst (λ (z : ℤ). pos 0 ≤ℤ z) row_is more)

-- ---- the pattern
first_of : (xs : List ℕ) → length xs ≡ 1 → (k : ℕ) × (slice_get xs 0 ≡ Some k)
first_of [] e = absurd (omega (arith, e))
first_of (x ∷ xs) e = (x, refl)

-- the comparison of the pattern, and the names of places
abbrev too_large : PlainComparison
too_large = at_least (pair (name (codes "A")) (name (codes "B"))) (pair (name (codes "n")) (number (codes "1")))

abbrev family_names : List ℕ → List (List ℕ)
family_names ns = codes "n" ∷ (map (numbered (codes "x")) ns ++ codes "A" ∷ codes "B" ∷ [])

-- the only row of a condition that means it
record OneRow (m : ℕ) (condition : Condition) : Type 0 where
  row : Row
  constant : row.form.constant ≡ negsuc 0
  terms : row.form.terms ≡ asked_terms m
  held : (point : ℕ → ℤ) → HoldsAt point condition → pos 0 ≤ℤ value_of point row.form

in_rows : (ns : List ℕ) → length ns ≤ 7 → (condition : Condition) (c : Comparison) → condition.comparisons ≡ c ∷ [] → (rows : List Row) → c.rows ≡ rows
    → Pairwise RowOf (comparison_rows (family_names ns) too_large) rows → OneRow (length ns) condition
in_rows ns small condition c are [] rows_are g = absurd g
in_rows ns small condition c are (row ∷ other ∷ rows) rows_are g = absurd g.1
in_rows ns small condition c are (row ∷ []) rows_are g = record {
  row = row;
  constant = g.0.constant;
  terms = asked_form ns row.form small g.0;
  held = λ point holds.
      let one : All (RowHolds point) c.rows = subst (λ (xs : List Comparison). All (λ (x : Comparison). All (RowHolds point) x.rows) xs) are holds 0 c
      (omega arith) in
      subst (λ (xs : List Row). All (RowHolds point) xs) rows_are one 0 row (omega arith);
}

row_of : (ns : List ℕ) → length ns ≤ 7 → (condition : Condition) (cs : List Comparison) → condition.comparisons ≡ cs
    → Pairwise (MeansComparison (family_names ns)) (too_large ∷ []) cs → OneRow (length ns) condition
row_of ns small condition [] are h = absurd h
row_of ns small condition (c ∷ d ∷ cs) are h = absurd h.1
row_of ns small condition (c ∷ []) are h = in_rows ns small condition c are c.rows refl h.0.rows

-- the pattern of a file that the tree means never occurs
never_occurs : (ns : List ℕ) → length ns ≤ 7 → (a : Automaton) → Counted a (length ns) → (p : Pattern) (events : List Event) → p.events ≡ events
    → MeansEvents (record { parameters = codes "n" ∷ []; shared = map (numbered (codes "x")) ns; locations = codes "A" ∷ codes "B" ∷ [] }) [] lost.events events
    → runs.Safe a p
never_occurs ns small a h p [] are m = absurd m
never_occurs ns small a h p (e ∷ f ∷ events) are m = absurd m.1
never_occurs ns small a h p (e ∷ []) are m = λ first rules occurs.
    let one = row_of ns small e.condition e.condition.comparisons refl m.0.condition in
    let position = first_of occurs.positions (occurs.each_has_one ∙ ap length are) in
    let happens = occurs.happens 0 e position.0 (ap (λ (xs : List Event). slice_get xs 0) are) position.1 in
    never_holds a (length ns) h one.row one.constant one.terms first rules occurs.later occurs.run position.0 happens.0 happens.1
    (one.held (value_at happens.0) happens.2)

each_never : (k : ℕ) → length (range_with_len 1 k) ≤ 7 → (a : Automaton) → Counted a (length (range_with_len 1 k)) → (ps : List Pattern)
    → Pairwise (MeansPattern (plain_names (family k))) (lost ∷ []) ps → AllByRecursion (runs.Safe a) ps
each_never k small a h [] m = absurd m
each_never k small a h (p ∷ q ∷ ps) m = absurd m.1
each_never k small a h (p ∷ []) m = (never_occurs (range_with_len 1 k) small a h p p.events refl m.0.events, tt)

-- a file that the tree means has one pattern
pub one_pattern : (k : ℕ) (ps : List Pattern) → Pairwise (MeansPattern (plain_names (family k))) (lost ∷ []) ps → length ps ≡ 1
one_pattern k [] m = absurd m
one_pattern k (p ∷ q ∷ ps) m = absurd m.1
one_pattern k (p ∷ []) m = refl

-- each pattern of a file that the tree means occurs in no run
pub family_safe : (k : ℕ) → IsFamilyNumber k → (file : File) → MeansTree (family k) file → AllByRecursion (runs.Safe file.automaton) file.patterns
family_safe k is file means =
    let e = length-range_with_len 1 k in
    let high = is.high in
    each_never k (omega (arith, e, high)) file.automaton (counted_so k file.automaton means.automaton) file.patterns means.patterns
