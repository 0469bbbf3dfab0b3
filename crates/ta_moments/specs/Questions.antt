-- Which question is asked next at a node whose system has a vertex. The vertex is given by integers over one common denominator. Forms are
-- evaluated in the program's range; where a number leaves it, the form's value is unknown, and the question is asked as if the value were
-- the worst.
use Rattle.std.specs.Prelude.{ℕ, ℤ, pos, negsuc, zero, suc, ◌^◌, ◌≡◌, ◌+ℤ◌, ◌*ℤ◌, unsigned_abs, Bool, true, false, not, ◌&&◌, ◌||◌, nat_lt, cond, List, [], ◌∷◌}
use Rattle.std.specs.Prelude.{length, map, filter, flat_map, slice_get, slice_index_or, Option, Some, None}
use Rattle.std.specs.List.{find, list_all, list_any, range_with_len}
use Rattle.std.specs.Option.{option_map, option_or}
use Rattle.ta_automaton.specs.declared.automaton.Automaton.{Automaton}
use Rattle.ta_automaton.specs.declared.pattern.Pattern.{Pattern}
use Rattle.ta_moments.specs.Forms.{UnknownForm, minus_form, below_zero}
use Rattle.ta_moments.specs.Facts.{Question, OfGuard, OfOrder, OfStuck, Fact, guards_of, is_open, may_be_stuck, moving_rules, needing}
use Rattle.ta_moments.specs.Moments.{Vector, Moment, Point, Pair, early, late, end_vector, guard_at, guards, quiet_at, source_at}
use Rattle.ta_moments.specs.Refutes.{Asking, Exists, Node, known_at}

-- values of the unknowns: the number of each, over the denominator
pub record Scaled : Type 0 where
  pub denominator : ℤ
  pub numbers : List ℤ

-- the values of a vertex, if the denominator and the numbers are in range: without them no form's value is known
abbrev pub Values : Type 0
Values = Option Scaled

-- natural values
abbrev pub natural_values : List ℕ → Values
natural_values values = Some (record { denominator = pos 1; numbers = map pos values })

-- whether a number is in the program's range
abbrev pub fits : ℤ → Bool
fits z = nat_lt (unsigned_abs z) (2 ^ 127)

-- a number if it is in range
abbrev pub if_fits : ℤ → Option ℤ
if_fits z = cond (fits z) (Some z) None

-- a sum with one more product: known if the sum was and both the product and the new sum are in range
abbrev pub with_product : Option ℤ → ℤ → Option ℤ
with_product None product = None
with_product (Some sum) product = cond (fits product && fits (sum +ℤ product)) (Some (sum +ℤ product)) None

-- a sum with the products of the first unknowns' coefficients and numbers, by rising unknown
abbrev pub with_products : (ℕ → ℤ) → List ℤ → Option ℤ → ℕ → Option ℤ
with_products coefficient numbers sum zero = sum
with_products coefficient numbers sum (suc n) = with_product (with_products coefficient numbers sum n) (coefficient n *ℤ slice_index_or numbers n (pos 0))

-- a form's value times the denominator, where it is known
abbrev pub known_value : Values → UnknownForm → Option ℤ
known_value None f = None
known_value (Some values) f = with_products f.coefficient values.numbers (if_fits (f.constant *ℤ values.denominator)) (length values.numbers)

-- whether a value, known or not, counts as positive, as negative, as at least 0; and whether it is known to be at least 0
abbrev pub counts_positive : Option ℤ → Bool
counts_positive None = true
counts_positive (Some (pos zero)) = false
counts_positive (Some (pos (suc n))) = true
counts_positive (Some (negsuc n)) = false

abbrev pub counts_negative : Option ℤ → Bool
counts_negative None = true
counts_negative (Some z) = below_zero z

abbrev pub counts_natural : Option ℤ → Bool
counts_natural None = true
counts_natural (Some z) = not (below_zero z)

abbrev pub is_known_natural : Option ℤ → Bool
is_known_natural None = false
is_known_natural (Some z) = not (below_zero z)

-- ---- what a question may be about
-- a guard: its number, the moving rules that need it, and its row at the end
pub record GuardAtEnd : Type 0 where
  pub number : ℕ
  pub needing : List ℕ
  pub rows : List UnknownForm

-- a rule that may be stuck: its number, the counter of its source at the end, and its guards' rows there without the silent places
pub record RuleAtEnd : Type 0 where
  pub number : ℕ
  pub sources : List UnknownForm
  pub rows : List UnknownForm

-- a guard, and the guards, by number
abbrev pub guard_at_end : Automaton → Pattern → Vector → ℕ → GuardAtEnd
guard_at_end a p end g = record { number = g; needing = needing a p g; rows = guard_at a p end (slice_get (guards a) g) }

abbrev pub guards_at_end : Automaton → Pattern → Vector → List GuardAtEnd
guards_at_end a p end = map (guard_at_end a p end) (range_with_len 0 (length (guards a)))

-- a rule, and the rules that may be stuck, by number
abbrev pub rule_at_end : Automaton → Pattern → List ℕ → Vector → ℕ → RuleAtEnd
rule_at_end a p silent end r = record {
  number = r;
  sources = source_at a p end (slice_get a.rules r);
  rows = flat_map (λ g. quiet_at a p silent end (slice_get (guards a) g)) (guards_of a (slice_get a.rules r));
}

abbrev pub rules_at_end : Automaton → Pattern → List ℕ → Vector → List RuleAtEnd
rules_at_end a p silent end = map (rule_at_end a p silent end) (filter (λ r. may_be_stuck p (slice_get a.rules r)) (range_with_len 0 (length a.rules)))

-- all that a node's question may be about: the moving rules, the vector of the end, the guards, the moments, and at rest the rules
pub record Parts : Type 0 where
  pub moving : List ℕ
  pub end : Vector
  pub guards : List GuardAtEnd
  pub moments : List Moment
  pub rules : List RuleAtEnd

-- those of a node
abbrev pub parts_at : Automaton → Pattern → Asking → Node → Parts
parts_at a p asking node =
    let end = end_vector a p node.candidate in
    record {
      moving = moving_rules a p;
      end = end;
      guards = guards_at_end a p end;
      moments = (known_at a p asking node).moments;
      rules = cond asking.rest (rules_at_end a p asking.silent end) [];
    }

-- ---- guards
-- whether a moving rule that needs the guard fires before the end
abbrev pub is_needed : Values → Vector → GuardAtEnd → Bool
is_needed values end guard = list_any (λ r. counts_positive (known_value values (end r))) guard.needing

-- whether the guard was not asked, and is needed
abbrev pub is_guard_open : List Fact → Values → Vector → GuardAtEnd → Bool
is_guard_open past values end guard = is_open past (OfGuard guard.number) && is_needed values end guard

-- whether its row is negative at the end
abbrev pub fails_at_end : Values → GuardAtEnd → Bool
fails_at_end values guard = list_any (λ f. counts_negative (known_value values f)) guard.rows

-- the first open guard whose row is negative at the end; otherwise the first open guard
abbrev pub guard_to_ask : List Fact → Values → Vector → List GuardAtEnd → Option GuardAtEnd
guard_to_ask past values end guards =
    option_or (find (λ guard. is_guard_open past values end guard && fails_at_end values guard) guards) (find (is_guard_open past values end) guards)

-- ---- orders
-- whether no moving rule has fewer firings in the second vector, as far as is known
abbrev pub is_at_most : List ℕ → Values → Vector → Vector → Bool
is_at_most moving values v w = list_all (λ r. is_known_natural (known_value values (minus_form (w r) (v r)))) moving

-- whether two moments are the same step
abbrev pub is_same_step : List ℕ → Values → Moment → Moment → Bool
is_same_step moving values (Pair v w) (Pair x y) =
    (is_at_most moving values v x && is_at_most moving values x v) && (is_at_most moving values w y && is_at_most moving values y w)
is_same_step moving values (Pair v w) (Point y) = false
is_same_step moving values (Point v) y = false

-- whether one moment is not after the other, or both are the same step
abbrev pub is_settled : List ℕ → Values → Moment → Moment → Bool
is_settled moving values x y =
    is_at_most moving values (late x) (early y) || (is_at_most moving values (late y) (early x) || is_same_step moving values x y)

-- the same for moments by their numbers
abbrev pub are_settled : List ℕ → Values → Option Moment → Option Moment → Bool
are_settled moving values None y = true
are_settled moving values (Some x) None = true
are_settled moving values (Some x) (Some y) = is_settled moving values x y

-- whether the order of two moments was not asked, and is not settled
abbrev pub is_order_open : List ℕ → List Fact → Values → List Moment → ℕ → ℕ → Bool
is_order_open moving past values moments y x =
    is_open past (OfOrder x y) && not (are_settled moving values (slice_get moments x) (slice_get moments y))

-- the first open order of a moment and one before it
abbrev pub order_before : List ℕ → List Fact → Values → List Moment → ℕ → Option Question
order_before moving past values moments y = option_map (λ x. OfOrder x y) (find (is_order_open moving past values moments y) (range_with_len 0 y))

-- the first open order: the second moment's number is the least, and then the first one's
abbrev pub first_order : List ℕ → List Fact → Values → List Moment → List ℕ → Option Question
first_order moving past values moments [] = None
first_order moving past values moments (y ∷ ys) = option_or (order_before moving past values moments y) (first_order moving past values moments ys)

abbrev pub order_to_ask : List ℕ → List Fact → Values → List Moment → Option Question
order_to_ask moving past values moments = first_order moving past values moments (range_with_len 0 (length moments))

-- ---- rest
-- whether the rule fires at the end without the silent places: its source is not empty, and no guard fails
abbrev pub would_fire : Values → RuleAtEnd → Bool
would_fire values rule =
    list_all (λ f. counts_positive (known_value values f)) rule.sources && list_all (λ f. counts_natural (known_value values f)) rule.rows

-- whether it was not asked what keeps the rule from firing, and it would fire
abbrev pub is_rule_open : List Fact → Values → RuleAtEnd → Bool
is_rule_open past values rule = is_open past (OfStuck rule.number) && would_fire values rule

-- the first such rule
abbrev pub rule_to_ask : List Fact → Values → List RuleAtEnd → Option RuleAtEnd
rule_to_ask past values rules = find (is_rule_open past values) rules

-- ---- the question of a vertex
-- first about guards, then about orders, then about rules
abbrev pub question_among : List Fact → Values → Parts → Option Question
question_among past values parts =
    option_or (option_map (λ (guard : GuardAtEnd). OfGuard guard.number) (guard_to_ask past values parts.end parts.guards))
    (option_or (order_to_ask parts.moving past values parts.moments)
    (option_map (λ (rule : RuleAtEnd). OfStuck rule.number) (rule_to_ask past values parts.rules)))

-- the question of a node at values of its unknowns
abbrev pub next_question : Automaton → Pattern → Asking → Node → Values → Option Question
next_question a p asking node values = question_among node.past values (parts_at a p asking node)

-- a question that is to be asked exists at the node, and no fact answers it; so each may be asked, and none is asked twice
abbrev pub QuestionsMayBeAsked : Type 0
QuestionsMayBeAsked =
    (a : Automaton) (p : Pattern) (asking : Asking) (node : Node) (values : Values) (question : Question) → next_question a p asking node values ≡ Some question
    → (is_open node.past question ≡ true) × Exists a p asking (known_at a p asking node) question
