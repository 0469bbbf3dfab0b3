-- where no question is to be asked at natural values, none is left
--
-- The question of a basic feasible solution is computed in 128 bits, and a form whose value leaves them counts as the worst. So if
-- nothing is asked, every form that mattered was known, and its value is the one that the definition of `NothingLeft` has: guards
-- that are not asked are needed by no firing, moments whose order is not asked are settled, and at rest no rule would fire that is
-- not asked.
use Rattle.ta_moments.proofs.Common.{Asking, Node, known_at, range_sum, ◌≡◌, inl, inr, ℕ, zero, suc, ◌+◌, ◌<◌, ℤ, pos, negsuc, ◌+ℤ◌, ◌*ℤ◌, ◌≤ℤ◌, ◌<ℤ◌, List, []}
use Rattle.ta_moments.proofs.Common.{◌∷◌, ◌&&◌, ◌||◌, map, filter, flat_map, length, slice_get, get_or, Some, None, Option, Bool, true, false, not, cond, arith}
use Rattle.ta_moments.proofs.Common.{ints, ap, ◌∙◌, refl, subst, sym, length-append, length-map, cases_Bool, and_from, and_parts, or_cases, false≢true}
use Rattle.ta_moments.proofs.Common.{same_Some, slice_get_within, range_with_len, range_sum-same, total, total-append, In, In-filter, In-map, In-numbers}
use Rattle.ta_moments.proofs.Common.{in_append, in_filter, Automaton, Pattern, Row, Rule, UnknownForm, minus_form, OfGuard, OfOrder, OfStuck, Fact, guards_of}
use Rattle.ta_moments.proofs.Common.{has_guard, may_be_stuck, moving_rules, needing, Vector, Moment, Point, Pair, early, late, guards, guard_at, quiet_at}
use Rattle.ta_moments.proofs.Common.{source_at, place_form, location_place, end_vector, find, list_all, list_any, option_map, option_or, is_open, GuardAtEnd}
use Rattle.ta_moments.proofs.Common.{RuleAtEnd, Values, are_settled, first_order, fits, guard_to_ask, guards_at_end, is_guard_open, is_needed, is_order_open}
use Rattle.ta_moments.proofs.Common.{is_rule_open, order_to_ask, parts_at, rule_to_ask, rules_at_end, AtMost, SameStep, Settled, quiet_form}
use Rattle.ta_base.proofs.Lists.{range_more}
use Rattle.ta_moments.proofs.Values.{value_is, value_minus}
use Rattle.ta_moments.proofs.Worth.{number}
use Rattle.ta_moments.specs.Questions.{counts_natural, counts_positive}
use Rattle.ta_moments.specs.Questions.{if_fits, is_at_most, is_known_natural}
use Rattle.ta_moments.specs.Questions.{is_same_step, is_settled, known_value, natural_values, next_question, order_before}
use Rattle.ta_moments.specs.Questions.{with_product, with_products}
use Rattle.ta_moments.specs.Whole.{NoQuestionLeavesNothing, form_value}

-- ---- lists and options
all_pass : {X : Type 0} (test : X → Bool) (xs : List X) → list_all test xs ≡ true → (x : X) → In x xs → test x ≡ true
all_pass test [] t x i = absurd i
all_pass {X = X} test (y ∷ xs) t x i =
    let parts = and_parts (test y) (list_all test xs) t in
    elim i [ inl e ↦ subst (λ (z : X). test z ≡ true) (sym e) parts.0 | inr j ↦ all_pass test xs parts.1 x j ]

pass_all : {X : Type 0} (test : X → Bool) (xs : List X) → ((x : X) → In x xs → test x ≡ true) → list_all test xs ≡ true
pass_all test [] h = refl
pass_all test (y ∷ xs) h = and_from _ _ (h y (inl refl)) (pass_all test xs (λ x i. h x (inr i)))

none_any : {X : Type 0} (test : X → Bool) (xs : List X) → list_any test xs ≡ false → (x : X) → In x xs → test x ≡ false
none_any test [] t x i = absurd i
none_any {X = X} test (y ∷ xs) t x i = by_test (test y) refl t (λ rest j. none_any test xs rest x j) i where
  by_test : (b : Bool) → test y ≡ b → (b || list_any test xs) ≡ false → (list_any test xs ≡ false → In x xs → test x ≡ false) → In x (y ∷ xs) → test x ≡ false
  by_test true e f later j = absurd (false≢true (sym f))
  by_test false e f later (inl same) = subst (λ (z : X). test z ≡ false) (sym same) e
  by_test false e f later (inr j) = later f j

none_found : {X : Type 0} (test : X → Bool) (xs : List X) → find test xs ≡ None → (x : X) → In x xs → test x ≡ false
none_found test [] e x i = absurd i
none_found {X = X} test (y ∷ xs) e x i = by_test (test y) refl e (λ rest j. none_found test xs rest x j) i where
  by_test : (b : Bool) → test y ≡ b → cond b (Some y) (find test xs) ≡ None → (find test xs ≡ None → In x xs → test x ≡ false) → In x (y ∷ xs) → test x ≡ false
  by_test true t f later j = cc
  by_test false t f later (inl same) = subst (λ (z : X). test z ≡ false) (sym same) t
  by_test false t f later (inr j) = later f j

neither_some : {X : Type 0} (o other : Option X) → option_or o other ≡ None → (o ≡ None) × (other ≡ None)
neither_some None other e = (refl, e)
neither_some (Some x) other e = cc

mapped_none : {X Y : Type 0} (f : X → Y) (o : Option X) → option_map f o ≡ None → o ≡ None
mapped_none f None e = refl
mapped_none f (Some x) e = cc

pub from_each : {X Y : Type 0} (g : X → List Y) (xs : List X) (y : Y) → In y (flat_map g xs) → (x : X) × In x xs × In y (g x)
from_each g [] y i = absurd i
from_each g (x ∷ xs) y i = elim (in_append y (g x) (flat_map g xs) i) [
  | inl here ↦ (x, inl refl, here)
  | inr later ↦ (let w = from_each g xs y later in (w.0, inr w.1, w.2))
]

-- ---- known values
sum_next : (f : ℕ → ℤ) (n : ℕ) → range_sum f (suc n) ≡ (range_sum f n +ℤ f n)
unfolding range_sum total
sum_next f n = ap (total f) (range_more 0 n) ∙
    (let e : 0 + n ≡ n = omega arith in omega (arith, ints, total-append f (range_with_len 0 n) ((0 + n) ∷ []), ap f e))

known_start : (s z : ℤ) → if_fits s ≡ Some z → s ≡ z
known_start s z e = by_fit (fits s) e where
  by_fit : (b : Bool) → cond b (Some s) None ≡ Some z → s ≡ z
  by_fit true f = same_Some s z f
  by_fit false f = cc

known_next : (o : Option ℤ) (product z : ℤ) → with_product o product ≡ Some z → (s : ℤ) × (o ≡ Some s) × ((s +ℤ product) ≡ z)
known_next None product z e = cc
known_next (Some s) product z e = by_fit (fits product && fits (s +ℤ product)) e where
  by_fit : (b : Bool) → cond b (Some (s +ℤ product)) None ≡ Some z → (y : ℤ) × (Some s ≡ Some y) × ((y +ℤ product) ≡ z)
  by_fit true f = (s, refl, same_Some (s +ℤ product) z f)
  by_fit false f = cc

known_sum : (c : ℕ → ℤ) (ns : List ℤ) (start : ℤ) (n : ℕ) (z : ℤ) → with_products c ns (if_fits start) n ≡ Some z
    → z ≡ (start +ℤ range_sum (λ u. c u *ℤ get_or ns u (pos 0)) n)
unfolding range_sum total
known_sum c ns start zero z e = omega (arith, ints, known_start start z e)
known_sum c ns start (suc n) z e =
    let w = known_next (with_products c ns (if_fits start) n) (c n *ℤ get_or ns n (pos 0)) z e in
    omega (arith, ints, known_sum c ns start n w.0 w.1, w.2, sum_next (λ u. c u *ℤ get_or ns u (pos 0)) n)

mapped_at : (vs : List ℕ) (u : ℕ) → get_or (map pos vs) u (pos 0) ≡ pos (get_or vs u 0)
mapped_at [] u = refl
mapped_at (v ∷ vs) zero = refl
mapped_at (v ∷ vs) (suc u) = mapped_at vs u

-- a form's value at numbers over a denominator, if it is known
pub known_scaled : (d : ℤ) (vs : List ℕ) (f : UnknownForm) (z : ℤ) → known_value (Some (record { denominator = d; numbers = map pos vs })) f ≡ Some z
    → z ≡ ((f.constant *ℤ d) +ℤ range_sum (λ u. f.coefficient u *ℤ number vs u) (length vs))
known_scaled d vs f z e =
    let n = length (map pos vs) in
    let sum = known_sum f.coefficient (map pos vs) (f.constant *ℤ d) n z e in
    let same = range_sum-same (λ u. f.coefficient u *ℤ get_or (map pos vs) u (pos 0)) (λ u. f.coefficient u *ℤ number vs u) n
    (λ u _. ap (λ x. f.coefficient u *ℤ x) (mapped_at vs u)) in
    let long = ap (range_sum (λ u. f.coefficient u *ℤ number vs u)) (length-map vs pos) in
    omega (arith, ints, sum, same, long)

-- what is known of a form is its value at natural values
abbrev pub Agrees : Values → List ℕ → UnknownForm → Type 0
Agrees values vs f = (z : ℤ) → known_value values f ≡ Some z → z ≡ form_value vs f

known_is : (vs : List ℕ) (f : UnknownForm) → Agrees (natural_values vs) vs f
known_is vs f z e = omega (arith, ints, known_scaled (pos 1) vs f z e, value_is vs f)

at_most_zero : (o : Option ℤ) (z : ℤ) → ((y : ℤ) → o ≡ Some y → y ≡ z) → counts_positive o ≡ false → z ≤ℤ pos 0
at_most_zero None z h e = absurd (false≢true (sym e))
at_most_zero (Some (pos zero)) z h e = omega (arith, ints, h (pos zero) refl)
at_most_zero (Some (pos (suc n))) z h e = absurd (false≢true (sym e))
at_most_zero (Some (negsuc n)) z h e = omega (arith, ints, h (negsuc n) refl)

positive_counts : (o : Option ℤ) (z : ℤ) → ((y : ℤ) → o ≡ Some y → y ≡ z) → pos 0 <ℤ z → counts_positive o ≡ true
positive_counts None z h b = refl
positive_counts (Some (pos zero)) z h b = absurd (omega (arith, ints, h (pos zero) refl, b))
positive_counts (Some (pos (suc n))) z h b = refl
positive_counts (Some (negsuc n)) z h b = absurd (omega (arith, ints, h (negsuc n) refl, b))

natural_counts : (o : Option ℤ) (z : ℤ) → ((y : ℤ) → o ≡ Some y → y ≡ z) → pos 0 ≤ℤ z → counts_natural o ≡ true
natural_counts None z h b = refl
natural_counts (Some (pos n)) z h b = refl
natural_counts (Some (negsuc n)) z h b = absurd (omega (arith, ints, h (negsuc n) refl, b))

known_natural : (o : Option ℤ) (z : ℤ) → ((y : ℤ) → o ≡ Some y → y ≡ z) → is_known_natural o ≡ true → pos 0 ≤ℤ z
known_natural None z h e = absurd (false≢true e)
known_natural (Some (pos n)) z h e = omega (arith, ints, h (pos n) refl)
known_natural (Some (negsuc n)) z h e = absurd (false≢true e)

-- ---- guards
pub guard_left : (a : Automaton) (p : Pattern) (past : List Fact) (values : Values) (vs : List ℕ) (end : Vector) → ((r : ℕ) → Agrees values vs (end r))
    → guard_to_ask past values end (guards_at_end a p end) ≡ None → (g : ℕ) → g < length a.rise + length a.fall → is_open past (OfGuard g) ≡ true
    → (r : ℕ) → In r (needing a p g) → form_value vs (end r) ≤ℤ pos 0
guard_left a p past values vs end agrees e g less open_there r i =
    let guard : GuardAtEnd = record { number = g; needing = needing a p g; rows = guard_at a p end (slice_get (guards a) g) } in
    let listed : In guard (guards_at_end a p end) = In-map _ g (range_with_len 0 (length (guards a)))
    (In-numbers g 0 (length (guards a)) (omega arith) (omega (arith, length-append a.rise a.fall, less))) in
    let none = none_found (is_guard_open past values end) (guards_at_end a p end) (neither_some _ _ e).1 guard listed in
    let unneeded : is_needed values end guard ≡ false = ap (λ b. b && is_needed values end guard) (sym open_there) ∙ none in
    at_most_zero (known_value values (end r)) (form_value vs (end r)) (agrees r)
    (none_any (λ q. counts_positive (known_value values (end q))) (needing a p g) unneeded r i)

-- ---- orders
-- what is known of the difference of two vectors of a kind is its value at natural values
abbrev pub DiffersSo : Values → List ℕ → (Vector → Type 0) → Type 0
DiffersSo values vs Kind = (v w : Vector) → Kind v → Kind w → (r : ℕ) → Agrees values vs (minus_form (w r) (v r))

abbrev pub BothAre : (Vector → Type 0) → Moment → Type 0
BothAre Kind m = Kind (early m) × Kind (late m)

at_most_is : (a : Automaton) (p : Pattern) (values : Values) (vs : List ℕ) (v w : Vector) → ((r : ℕ) → Agrees values vs (minus_form (w r) (v r)))
    → is_at_most (moving_rules a p) values v w ≡ true → AtMost a p vs v w
at_most_is a p values vs v w agrees t r i =
    let f = minus_form (w r) (v r) in
    let least = known_natural (known_value values f) (form_value vs f) (agrees r)
    (all_pass (λ q. is_known_natural (known_value values (minus_form (w q) (v q)))) (moving_rules a p) t r i) in
    omega (arith, ints, least, value_minus vs (w r) (v r))

same_step_is : (a : Automaton) (p : Pattern) (values : Values) (vs : List ℕ) (Kind : Vector → Type 0) → DiffersSo values vs Kind → (x y : Moment)
    → BothAre Kind x → BothAre Kind y → is_same_step (moving_rules a p) values x y ≡ true → SameStep a p vs x y
same_step_is a p values vs Kind differs (Point v) y kx ky t = absurd (false≢true t)
same_step_is a p values vs Kind differs (Pair v w) (Point y) kx ky t = absurd (false≢true t)
same_step_is a p values vs Kind differs (Pair v w) (Pair x y) kx ky t =
    let rs = moving_rules a p in
    let both = and_parts (is_at_most rs values v x && is_at_most rs values x v) (is_at_most rs values w y && is_at_most rs values y w) t in
    let one = and_parts (is_at_most rs values v x) (is_at_most rs values x v) both.0 in
    let two = and_parts (is_at_most rs values w y) (is_at_most rs values y w) both.1 in (
      at_most_is a p values vs v x (differs v x kx.0 ky.0) one.0,
      at_most_is a p values vs x v (differs x v ky.0 kx.0) one.1,
      at_most_is a p values vs w y
          (differs w y kx.1 ky.1) two.0,
      at_most_is a p values vs y w (differs y w ky.1 kx.1) two.1,
    )

settled_is : (a : Automaton) (p : Pattern) (values : Values) (vs : List ℕ) (Kind : Vector → Type 0) → DiffersSo values vs Kind → (x y : Moment) → BothAre Kind x
    → BothAre Kind y → is_settled (moving_rules a p) values x y ≡ true → Settled a p vs x y
settled_is a p values vs Kind differs x y kx ky t =
    let rs = moving_rules a p in
    elim (or_cases (is_at_most rs values (late x) (early y)) (is_at_most rs values (late y) (early x) || is_same_step rs values x y) t) [
      | inl one ↦ inl (at_most_is a p values vs (late x) (early y) (differs (late x) (early y) kx.1 ky.0) one)
      | inr more ↦ elim (or_cases (is_at_most rs values (late y) (early x)) (is_same_step rs values x y) more) [
        | inl two ↦ inr (inl (at_most_is a p values vs (late y) (early x) (differs (late y) (early x) ky.1 kx.0) two))
        | inr same ↦ inr (inr (same_step_is a p values vs Kind differs x y kx ky same))
      ]
    ]

order_left : (moving : List ℕ) (past : List Fact) (values : Values) (ms : List Moment) (ys : List ℕ) → first_order moving past values ms ys ≡ None → (y : ℕ)
    → In y ys → order_before moving past values ms y ≡ None
order_left moving past values ms [] e y i = absurd i
order_left moving past values ms (z ∷ ys) e y i =
    let both = neither_some (order_before moving past values ms z) (first_order moving past values ms ys) e in
    elim i [
      | inl same ↦ subst (λ (x : ℕ). order_before moving past values ms x ≡ None) (sym same) both.0
      | inr j ↦ order_left moving past values ms ys both.1 y
          j
    ]

pub orders_left : (a : Automaton) (p : Pattern) (past : List Fact) (values : Values) (vs : List ℕ) (Kind : Vector → Type 0) → DiffersSo values vs Kind
    → (ms : List Moment) → ((x : ℕ) (m : Moment) → slice_get ms x ≡ Some m → BothAre Kind m) → order_to_ask (moving_rules a p) past values ms ≡ None
    → (x y : ℕ) (m n : Moment) → x < y → slice_get ms x ≡ Some m → slice_get ms y ≡ Some n → is_open past (OfOrder x y) ≡ true → Settled a p vs m n
orders_left a p past values vs Kind differs ms kinds e x y m n less at there open_there =
    let rs = moving_rules a p in
    let within = slice_get_within ms y n there in
    let before = order_left rs past values ms (range_with_len 0 (length ms)) e y (In-numbers y 0 (length ms) (omega arith) (omega arith)) in
    let none = none_found (is_order_open rs past values ms y) (range_with_len 0 y)
    (mapped_none (λ z. OfOrder z y) (find (is_order_open rs past values ms y) (range_with_len 0 y)) before) x (In-numbers x 0 y (omega arith) (omega arith))
    in
    let both : are_settled rs values (Some m) (Some n) ≡ are_settled rs values (slice_get ms x) (slice_get ms y) = sym
    (ap (λ (o : Option Moment). are_settled rs values o (slice_get ms y)) at ∙ ap (are_settled rs values (Some m)) there) in
    elim (cases_Bool (are_settled rs values (slice_get ms x) (slice_get ms y))) [
      | inl t ↦ settled_is a p values vs Kind differs m n (kinds x m at) (kinds y n there) (both ∙ t)
      | inr f ↦ absurd (false≢true (sym none ∙ and_from _ _ open_there (ap not f)))
    ]

-- ---- rest
rule_left : (a : Automaton) (p : Pattern) (silent : List ℕ) (past : List Fact) (vs : List ℕ) (end : Vector)
    → rule_to_ask past (natural_values vs) (rules_at_end a p silent end) ≡ None
    → (r : ℕ) (rule : Rule) → slice_get a.rules r ≡ Some rule → may_be_stuck p (Some rule) ≡ true → is_open past (OfStuck r) ≡ true
    → pos 0 <ℤ form_value vs (place_form a p end (location_place a rule.from))
    → ((g : ℕ) (row : Row) → slice_get (guards a) g ≡ Some row → has_guard a g (Some rule) ≡ true → pos 0 ≤ℤ form_value vs (quiet_form a p silent end row))
    → ⊥
rule_left a p silent past vs end e r rule named may open_there some holds =
    let values = natural_values vs in
    let known_rule : RuleAtEnd = record {
      number = r;
      sources = source_at a p end (slice_get a.rules r);
      rows = flat_map (λ g. quiet_at a p silent end (slice_get (guards a) g))
          (guards_of a (slice_get a.rules r));
    } in
    let listed : In known_rule (rules_at_end a p silent end) = In-map _ r
    (filter (λ q. may_be_stuck p (slice_get a.rules q)) (range_with_len 0 (length a.rules)))
    (In-filter (λ q. may_be_stuck p (slice_get a.rules q)) r (range_with_len 0 (length a.rules)) (ap (may_be_stuck p) named ∙ may)
    (In-numbers r 0 (length a.rules) (omega arith) (omega (arith, slice_get_within a.rules r rule named)))) in
    let none = none_found (is_rule_open past values) (rules_at_end a p silent end) e known_rule listed in
    let from_source : (f : UnknownForm) → In f (source_at a p end (slice_get a.rules r)) → counts_positive (known_value values f) ≡ true = (λ f i.
    elim (subst (λ (o : Option Rule). In f (source_at a p end o)) named i) [
      | inl same ↦ positive_counts (known_value values f) (form_value vs f) (known_is vs f)
          (subst (λ (x : UnknownForm). pos 0 <ℤ form_value vs x) (sym same) some)
      | inr out ↦ absurd out
    ]) in
    let from_guard : (f : UnknownForm) → In f known_rule.rows → counts_natural (known_value values f) ≡ true = (λ f i.
    let w = from_each (λ g. quiet_at a p silent end (slice_get (guards a) g)) (guards_of a (slice_get a.rules r)) f i in
    let has = (in_filter (λ x. has_guard a x (slice_get a.rules r)) w.0 (range_with_len 0 (length a.rise + length a.fall)) w.1).0 in
    natural_counts (known_value values f) (form_value vs f) (known_is vs f)
    (quiet_natural w.0 (slice_get (guards a) w.0) refl (ap (has_guard a w.0) (sym named) ∙ has) f w.2)) in
    absurd (false≢true (sym none ∙ and_from _ _ open_there
    (and_from _ _ (pass_all (λ f. counts_positive (known_value values f)) known_rule.sources from_source)
    (pass_all (λ f. counts_natural (known_value values f)) known_rule.rows from_guard))))
  where
    quiet_natural : (g : ℕ) (o : Option Row) → slice_get (guards a) g ≡ o → has_guard a g (Some rule) ≡ true → (f : UnknownForm)
        → In f (quiet_at a p silent end o) → pos 0 ≤ℤ form_value vs f
    quiet_natural g None at has f i = absurd i
    quiet_natural g (Some row) at has f (inl same) = subst (λ (x : UnknownForm). pos 0 ≤ℤ form_value vs x) (sym same) (holds g row at has)
    quiet_natural g (Some row) at has f (inr out) = absurd out

-- what is none where the question of a vertex is none
pub record NoneAsked (a : Automaton) (p : Pattern) (asking : Asking) (node : Node) (values : Values) : Type 0 where
  pub guards_left : guard_to_ask node.past values (end_vector a p node.candidate) (guards_at_end a p (end_vector a p node.candidate)) ≡ None
  pub order_none : order_to_ask (moving_rules a p) node.past values (known_at a p asking node).moments ≡ None
  pub rules_left : rule_to_ask node.past values (cond asking.rest (rules_at_end a p asking.silent (end_vector a p node.candidate)) []) ≡ None

pub none_asked : (a : Automaton) (p : Pattern) (asking : Asking) (node : Node) (values : Values) → next_question a p asking node values ≡ None
    → NoneAsked a p asking node values
none_asked a p asking node values e =
    let past = node.past in
    let parts = parts_at a p asking node in
    let end = end_vector a p node.candidate in
    let one = neither_some (option_map (λ (guard : GuardAtEnd). OfGuard guard.number) (guard_to_ask past values end (guards_at_end a p end)))
    (option_or (order_to_ask parts.moving past values parts.moments)
    (option_map (λ (rule : RuleAtEnd). OfStuck rule.number) (rule_to_ask past values parts.rules))) e in
    let two = neither_some (order_to_ask parts.moving past values parts.moments)
    (option_map (λ (rule : RuleAtEnd). OfStuck rule.number) (rule_to_ask past values parts.rules)) one.1 in
    record {
      guards_left = mapped_none (λ (guard : GuardAtEnd). OfGuard guard.number) (guard_to_ask past values end (guards_at_end a p end)) one.0;
      order_none = two.0;
      rules_left = mapped_none (λ (rule : RuleAtEnd). OfStuck rule.number) (rule_to_ask past values parts.rules) two.1;
    }

pub nothing_left : NoQuestionLeavesNothing
nothing_left a p asking node vs e =
    let values = natural_values vs in
    let end = end_vector a p node.candidate in
    let none = none_asked a p asking node values e in
    record {
      guards_asked = guard_left a p node.past values vs end (λ r. known_is vs (end r)) none.guards_left;
      orders_settled = orders_left a p node.past values vs (λ v. Unit {0}) (λ v w _ _ r. known_is vs (minus_form (w r) (v r)))
          (known_at a p asking node).moments (λ x m at. (tt, tt)) none.order_none;
      none_enabled = λ rest. rule_left a p asking.silent node.past vs end
          (subst (λ (b : Bool). rule_to_ask node.past values (cond b (rules_at_end a p asking.silent end) []) ≡ None) rest none.rules_left);
    }
