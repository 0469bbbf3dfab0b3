-- where nothing is asked at numbers over a denominator, nothing is asked at these numbers: forms of vectors have no constants
use Rattle.ta_walk.proofs.Common.{zero-*ℤ, moving_rules, known_at, find, list_all, list_any, option_map, option_or, each_at, Fact, Question, OfGuard, OfOrder}
use Rattle.ta_walk.proofs.Common.{OfStuck, is_open, Values, counts_positive, fails_at_end, first_order, if_fits, is_at_most, is_guard_open, is_known_natural}
use Rattle.ta_walk.proofs.Common.{is_order_open, known_value, next_question, order_before, order_to_ask, rule_to_ask, with_products, whole_values, length}
use Rattle.ta_moments.proofs.Common.{◌≡◌, ℕ, ℤ, pos, ◌*ℤ◌, ◌&&◌, Bool, true, false, not, cond, List, [], ◌∷◌, slice_get, Option, Some, None, arith, ints}
use Rattle.ta_moments.proofs.Common.{refl, sym, ap, ◌∙◌, AllByRecursion, range_with_len, Automaton, Pattern, UnknownForm}
use Rattle.ta_moments.proofs.Common.{minus_form, Vector, Moment, Point, Pair}
use Rattle.ta_moments.proofs.Common.{early, late, end_vector, Node, of_events}
use Rattle.std.proofs.Math.Path.{fun_ext}
use Rattle.ta_moments.specs.Questions.{GuardAtEnd, RuleAtEnd, are_settled, guard_to_ask, guards_at_end}
use Rattle.ta_moments.specs.Questions.{is_same_step, is_settled}
use Rattle.ta_walk.proofs.FormsStay.{AreDifferences, MomentDiffers, end_one, known_differs}

-- ---- what is found
find_fewer : {X : Type 0} (test more : X → Bool) (xs : List X) → find test xs ≡ None → find (λ x. test x && more x) xs ≡ None
find_fewer test more [] e = refl
find_fewer {X = X} test more (x ∷ xs) e = by_test (test x) refl e (λ f. find_fewer test more xs f) where
  by_test : (b : Bool) → test x ≡ b → cond b (Some x) (find test xs) ≡ None → (find test xs ≡ None → find (λ y. test y && more y) xs ≡ None)
      → find (λ y. test y && more y) (x ∷ xs) ≡ None
  by_test true t f later = absurd (cc)
  by_test false t f later = ap (λ (c : Bool). cond (c && more x) (Some x) (find (λ y. test y && more y) xs)) t ∙ later f

neither : {X Y : Type 0} (f : X → Y) (o : Option X) (other : Option Y) → option_or (option_map f o) other ≡ None → (o ≡ None) × (other ≡ None)
neither f None other e = (refl, e)
neither f (Some x) other e = absurd (cc)

second_none : {X : Type 0} (o other : Option X) → option_or o other ≡ None → other ≡ None
second_none None other e = e
second_none (Some x) other e = absurd (cc)

module _ (d : ℤ) (numbers : List ℤ) where
  abbrev over : Values
  over = Some (record { denominator = d; numbers = numbers })

  -- a form without a constant has the same value
  known_same : (f : UnknownForm) → f.constant ≡ pos 0 → known_value over f ≡ known_value (whole_values numbers) f
  known_same f bare =
      let none : (f.constant *ℤ d) ≡ (f.constant *ℤ pos 1) =
      ap (λ (z : ℤ). z *ℤ d) bare ∙ zero-*ℤ d ∙ sym (zero-*ℤ (pos 1)) ∙ ap (λ (z : ℤ). z *ℤ pos 1) (sym bare) in
      ap (λ (z : ℤ). with_products f.coefficient numbers (if_fits z) (length numbers)) none

  -- ---- guards
  guard_same : (a : Automaton) (p : Pattern) (candidate : Option ℕ) (past : List Fact)
      → is_guard_open past over (end_vector a p candidate) ≡ is_guard_open past (whole_values numbers) (end_vector a p candidate)
  guard_same a p candidate past =
      let end = end_vector a p candidate in
      let same : (λ r. known_value over (end r)) ≡ (λ r. known_value (whole_values numbers) (end r)) =
      fun_ext (λ r. known_same (end r) (end_one a p candidate r).constant) in
      ap (λ (k : ℕ → Option ℤ). λ (guard : GuardAtEnd). is_open past (OfGuard guard.number) && list_any (λ r. counts_positive (k r)) guard.needing) same

  guard_none : (a : Automaton) (p : Pattern) (candidate : Option ℕ) (past : List Fact) (gs : List GuardAtEnd)
      → guard_to_ask past over (end_vector a p candidate) gs ≡ None → guard_to_ask past (whole_values numbers) (end_vector a p candidate) gs ≡ None
  guard_none a p candidate past gs e =
      let end = end_vector a p candidate in
      let open_over = is_guard_open past over end in
      let open_whole = is_guard_open past (whole_values numbers) end in
      let none : find open_whole gs ≡ None =
      ap (λ (test : GuardAtEnd → Bool). find test gs) (sym (guard_same a p candidate past))
      ∙ second_none (find (λ guard. open_over guard && fails_at_end over guard) gs) (find open_over gs) e in
      ap (λ (o : Option GuardAtEnd). option_or o (find open_whole gs)) (find_fewer open_whole (fails_at_end (whole_values numbers)) gs none) ∙ none

  -- ---- orders
  at_most_same : (moving : List ℕ) (v w : Vector) → AreDifferences v → AreDifferences w
      → is_at_most moving over v w ≡ is_at_most moving (whole_values numbers) v w
  at_most_same moving v w one two =
      let same : (λ r. known_value over (minus_form (w r) (v r))) ≡ (λ r. known_value (whole_values numbers) (minus_form (w r) (v r))) =
      fun_ext (λ r.
      known_same (minus_form (w r) (v r)) (let first = (one r).constant in let second = (two r).constant in omega (arith, ints, first, second))) in
      ap (λ (k : ℕ → Option ℤ). list_all (λ r. is_known_natural (k r)) moving) same

  early_differs : (m : Moment) → MomentDiffers m → AreDifferences (early m)
  early_differs (Point v) h = h
  early_differs (Pair v w) h = h.0

  late_differs : (m : Moment) → MomentDiffers m → AreDifferences (late m)
  late_differs (Point v) h = h
  late_differs (Pair v w) h = h.1

  step_same : (moving : List ℕ) (x y : Moment) → MomentDiffers x → MomentDiffers y
      → is_same_step moving over x y ≡ is_same_step moving (whole_values numbers) x y
  step_same moving (Point v) y one two = refl
  step_same moving (Pair v w) (Point y) one two = refl
  step_same moving (Pair v w) (Pair x y) one two =
      let a = at_most_same moving v x one.0 two.0 in
      let b = at_most_same moving x v two.0 one.0 in
      let c = at_most_same moving w y one.1 two.1 in
      let e = at_most_same moving y w two.1 one.1 in
      cc (a, b, c, e)

  settled_same : (moving : List ℕ) (x y : Moment) → MomentDiffers x → MomentDiffers y
      → is_settled moving over x y ≡ is_settled moving (whole_values numbers) x y
  settled_same moving x y one two =
      let a = at_most_same moving (late x) (early y) (late_differs x one) (early_differs y two) in
      let b = at_most_same moving (late y) (early x) (late_differs y two) (early_differs x one) in
      let c = step_same moving x y one two in
      cc (a, b, c)

  are_same : (moving : List ℕ) (x y : Option Moment) → ((m : Moment) → x ≡ Some m → MomentDiffers m) → ((m : Moment) → y ≡ Some m → MomentDiffers m)
      → are_settled moving over x y ≡ are_settled moving (whole_values numbers) x y
  are_same moving None y one two = refl
  are_same moving (Some x) None one two = refl
  are_same moving (Some x) (Some y) one two = settled_same moving x y (one x refl) (two y refl)

  open_same : (moving : List ℕ) (past : List Fact) (ms : List Moment) → AllByRecursion MomentDiffers ms → (y : ℕ)
      → is_order_open moving past over ms y ≡ is_order_open moving past (whole_values numbers) ms y
  open_same moving past ms all y =
      fun_ext (λ x.
      ap (λ (b : Bool). is_open past (OfOrder x y) && not b)
      (are_same moving (slice_get ms x) (slice_get ms y) (λ m e. each_at MomentDiffers ms x m all e) (λ m e. each_at MomentDiffers ms y m all e)))

  first_same : (moving : List ℕ) (past : List Fact) (ms : List Moment) → AllByRecursion MomentDiffers ms → (ys : List ℕ)
      → first_order moving past over ms ys ≡ first_order moving past (whole_values numbers) ms ys
  first_same moving past ms all [] = refl
  first_same moving past ms all (y ∷ ys) =
      ap (λ (test : ℕ → Bool). option_or (option_map (λ x. OfOrder x y) (find test (range_with_len 0 y))) (first_order moving past over ms ys))
      (open_same moving past ms all y)
      ∙ ap (option_or (order_before moving past (whole_values numbers) ms y)) (first_same moving past ms all ys)

  -- ---- the node
  pub none_scaled : (a : Automaton) (p : Pattern) (node : Node) → next_question a p of_events node over ≡ None
      → next_question a p of_events node (whole_values numbers) ≡ None
  none_scaled a p node e =
      let past = node.past in
      let whole = whole_values numbers in
      let ms = (known_at a p of_events node).moments in
      let end = end_vector a p node.candidate in
      let moving = moving_rules a p in
      let gs = guards_at_end a p end in
      let asked_guard : GuardAtEnd → Question = (λ (guard : GuardAtEnd). OfGuard guard.number) in
      let rules : Option Question = option_map (λ (rule : RuleAtEnd). OfStuck rule.number) (rule_to_ask past whole []) in
      let none = neither asked_guard (guard_to_ask past over end gs) (option_or (order_to_ask moving past over ms) rules) e in
      let differ = known_differs a p [] node.candidate past in
      let orders : option_or (order_to_ask moving past whole ms) rules ≡ None =
      ap (λ (o : Option Question). option_or o rules) (sym (first_same moving past ms differ (range_with_len 0 (length ms)))) ∙ none.1 in
      ap (λ (o : Option GuardAtEnd). option_or (option_map asked_guard o) (option_or (order_to_ask moving past whole ms) rules))
      (guard_none a p node.candidate past gs none.0)
      ∙ orders
