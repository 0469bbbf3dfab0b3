-- how many questions a node answers where no guard falls: each rise guard, and the order of each two moments, once
use Rattle.ta_walk.proofs.Common.{and_parts, ◌/◌, nat_lt, mul-suc, suc-mul, each_append, each_at, each_in, each_map_all, no_more, In-left, In-right, in_map}
use Rattle.ta_walk.proofs.Common.{Distinct, Comes, all_or_none, answered, Fact, Never, First, Stands, Last, Before, After, Same, Vacant, Fails, Question}
use Rattle.ta_walk.proofs.Common.{OfGuard, OfOrder, OfStuck, is_open, question_of, answers, are_pairs, candidate_of, exists_as, AskedOnce, few_moments}
use Rattle.ta_walk.proofs.Common.{moment_maker, most_questions}
use Rattle.ta_moments.proofs.Common.{◌≡◌, inl, inr, ℕ, zero, suc, ◌+◌, ◌-◌, ◌*◌, ◌<◌, ◌≤◌, Bool, true, false, not, ◌&&◌, cond, false≢true, and_from}
use Rattle.ta_moments.proofs.Common.{List, [], ◌∷◌, ◌++◌, map, length, slice_get, Option, Some, None, arith, refl, sym, ap, ◌∙◌, subst}
use Rattle.ta_moments.proofs.Common.{cases_lt, eq-eqb, nat_tests, AllByRecursion, range_with_len, length-append, length-map}
use Rattle.ta_moments.proofs.Common.{length-range_with_len, In, In-map, In-numbers}
use Rattle.ta_moments.proofs.Common.{Automaton, Pattern, Vector, Moment, Point, Known, event_vector, end_vector, first_vector, with_fact, of_events}
use Rattle.ta_moments.proofs.Common.{Exists, Node}
use Rattle.ta_moments.specs.Moments.{is_pair}
unfoldable use Rattle.ta_moments.specs.Moments.{known}
use Rattle.std.proofs.Math.Nat.{mul-div_left}
use Rattle.ta_base.proofs.Each.{each_map_of}
use Rattle.ta_cert.specs.declared.line.Node.{Node as TreeNode}
use Rattle.ta_moments.specs.Facts.{same_question}
use Rattle.ta_moments.specs.Whole.{AreAnswers}
use Rattle.ta_moment_tree.specs.Makers.{moments_of}
use Rattle.ta_walk.proofs.Answered.{comes_answered, comes_once}
use Rattle.ta_walk.specs.Deciding.{most_moments}
use Rattle.ta_cert.specs.declared.line.Node.TheVariants as node

-- ---- the questions
abbrev orders_below : ℕ → List Question
orders_below zero = []
orders_below (suc y) = map (λ x. OfOrder x y) (range_with_len 0 y) ++ orders_below y

order_listed : (m x y : ℕ) → x < y → y < m → In (OfOrder x y) (orders_below m)
order_listed zero x y less below = absurd (omega (arith, below))
order_listed (suc m) x y less below = elim (cases_lt y m) [
  | inl lower ↦ In-right (OfOrder x y) (map (λ u. OfOrder u m) (range_with_len 0 m)) (orders_below m) (order_listed m x y less lower)
  | inr top ↦ (
      let same : y ≡ m = omega (arith, below, top) in
      subst (λ (z : ℕ). In (OfOrder x z) (map (λ u. OfOrder u m) (range_with_len 0 m) ++ orders_below m)) (sym same)
      (In-left (OfOrder x m) (map (λ u. OfOrder u m) (range_with_len 0 m)) (orders_below m)
      (In-map (λ u. OfOrder u m) x (range_with_len 0 m) (In-numbers x 0 m (omega arith) (omega (arith, less, same))))))
]

twice_orders : (m : ℕ) → length (orders_below m) * 2 ≡ m * (m - 1)
twice_orders zero = refl
twice_orders (suc zero) = refl
twice_orders (suc (suc k)) =
    let n = suc k in
    let before : length (orders_below n) * 2 ≡ n * k = twice_orders (suc k) ∙ ap (λ (m : ℕ). suc k * m) (let e : suc k - 1 ≡ k = omega arith in e) in
    let goal : suc n * (suc n - 1) ≡ suc n * n = ap (λ (m : ℕ). suc n * m) (let e : suc n - 1 ≡ n = omega arith in e) in
    let many = length-append (map (λ x. OfOrder x n) (range_with_len 0 n)) (orders_below n) in
    let new = length-map (range_with_len 0 n) (λ x. OfOrder x n) in
    let product : suc n * n ≡ (n * k + n) + n = (let one = suc-mul n n in let two = mul-suc n k in omega (arith, one, two)) in
    omega (arith, before, goal, many, new, length-range_with_len 0 n, product)

many_orders : (m : ℕ) → length (orders_below m) ≡ (m * (m - 1)) / 2
many_orders m = (let two : 0 < 2 = omega arith in sym (mul-div_left (length (orders_below m)) two)) ∙ ap (λ (n : ℕ). n / 2) (twice_orders m)

abbrev all_questions : Automaton → Pattern → List Question
all_questions a p = map OfGuard (range_with_len 0 (length a.rise)) ++ orders_below (most_moments a p)

many_questions : (a : Automaton) (p : Pattern) → length (all_questions a p) ≡ most_questions a p
many_questions a p =
    let guards = map OfGuard (range_with_len 0 (length a.rise)) in
    let orders = orders_below (most_moments a p) in
    omega (
      arith,
      length-append guards orders,
      length-map (range_with_len 0 (length a.rise)) OfGuard,
      length-range_with_len 0 (length a.rise),
      many_orders (most_moments a p),
    )

-- ---- each is asked once
same_itself : (q : Question) → same_question q q ≡ true
same_itself (OfGuard g) = eq-eqb g g refl
same_itself (OfOrder x y) = and_from _ _ (eq-eqb x x refl) (eq-eqb y y refl)
same_itself (OfStuck r) = eq-eqb r r refl

open_new : (q : Question) (past : List Fact) → is_open past q ≡ true → AllByRecursion (λ fact. q ≡ question_of fact → ⊥) past
open_new q [] h = tt
open_new q (fact ∷ past) h =
    let both = and_parts (not (same_question (question_of fact) q)) (is_open past q) h in (
      λ same. false≢true (ap not (sym (same_itself q) ∙ ap (λ (r : Question). same_question r q) same) ∙ both.0),
      open_new q past both.1,
    )

questions_apart : (past : List Fact) → AskedOnce past → Distinct (map question_of past)
questions_apart [] h = tt
questions_apart (fact ∷ past) h =
    (each_map_of question_of (λ q. question_of fact ≡ q → ⊥) past (open_new (question_of fact) past h.0), questions_apart past h.1)

module _ (a : Automaton) (p : Pattern) (none_fall : a.fall ≡ []) where
  questions_listed : (candidate : Option ℕ) (past : List Fact) → AreAnswers a p of_events candidate past → AskedOnce past
      → AllByRecursion (λ fact. In (question_of fact) (all_questions a p)) past
  questions_listed candidate [] h once = tt
  questions_listed candidate (fact ∷ past) h once = (listed (question_of fact) h.0, questions_listed candidate past h.2 once.1)
    where
      listed : (q : Question) → Exists a p of_events (known a p [] candidate past) q → In q (all_questions a p)
      listed (OfGuard g) exists =
          let none : length a.fall ≡ 0 = ap length none_fall in
          In-left (OfGuard g) (map OfGuard (range_with_len 0 (length a.rise))) (orders_below (most_moments a p))
          (In-map OfGuard g (range_with_len 0 (length a.rise)) (In-numbers g 0 (length a.rise) (omega arith) (omega (arith, exists, none))))
      listed (OfOrder x y) exists =
          let none : length a.fall ≡ 0 = ap length none_fall in
          let here : Node = record { candidate = candidate; past = past; bounds = [] } in
          let few = few_moments a p of_events here h.2 once.1 in
          let less = exists.0 in
          let below = exists.1 in
          In-right (OfOrder x y) (map OfGuard (range_with_len 0 (length a.rise))) (orders_below (most_moments a p))
          (order_listed (most_moments a p) x y less (omega (arith, few, below, none)))
      listed (OfStuck r) exists = absurd (false≢true exists.0)

  pub few_questions : (start : ℕ) (past : List Fact) → Comes (moments_of a p of_events) start past → length past ≤ most_questions a p
  few_questions start past comes =
      let maker = moment_maker a p of_events in
      let once = comes_once a p of_events maker start past comes in
      let listed = questions_listed (candidate_of start) past (comes_answered a p of_events maker start past comes) once in
      let few = no_more (map question_of past) (all_questions a p) (questions_apart past once) (λ q i.
      let from = in_map question_of q past i in
      subst (λ (r : Question). In r (all_questions a p)) (sym from.2)
      (each_in (λ fact. In (question_of fact) (all_questions a p)) past from.0 listed from.1)) in
      omega (arith, few, many_questions a p, length-map past question_of)

  -- ---- each has two answers
  rise_below : (g : ℕ) → g < length a.rise + length a.fall → nat_lt g (length a.rise) ≡ true
  rise_below g less =
      let none : length a.fall ≡ 0 = ap length none_fall in
      let below : g < length a.rise = omega (arith, less, none) in
      grind (arith, nat_tests)

  last_never : (g : ℕ) (k : Known) → g < length a.rise + length a.fall → In (Last g) (answers a k (OfGuard g)) → ⊥
  last_never g k less i =
      elim (subst (λ (b : Bool). In (Last g) (cond b (Never g ∷ First g ∷ []) (Never g ∷ Stands g ∷ Last g ∷ []))) (rise_below g less) i) [
        | inl e ↦ absurd (cc)
        | inr more ↦ elim more [ inl e ↦ absurd (cc) | inr out ↦ absurd out ]
      ]

  abbrev ArePoints : List Moment → Type 0
  ArePoints ms = AllByRecursion (λ m. is_pair m ≡ false) ms

  fact_points : (end : Vector) (k : Known) (fact : Fact) → ArePoints k.moments → Exists a p of_events k (question_of fact)
      → In fact (answers a k (question_of fact)) → ArePoints (with_fact a p [] end k fact).moments
  fact_points end k (First g) h exists allowed =
      each_append (λ m. is_pair m ≡ false) k.moments (Point (first_vector a p k.unknowns g) ∷ []) h (refl, tt)
  fact_points end k (Last g) h exists allowed = absurd (last_never g k exists allowed)
  fact_points end k (Never g) h exists allowed = each_append (λ m. is_pair m ≡ false) k.moments [] h tt
  fact_points end k (Stands g) h exists allowed = each_append (λ m. is_pair m ≡ false) k.moments [] h tt
  fact_points end k (Before x y) h exists allowed = each_append (λ m. is_pair m ≡ false) k.moments [] h tt
  fact_points end k (After x y) h exists allowed = each_append (λ m. is_pair m ≡ false) k.moments [] h tt
  fact_points end k (Same x y) h exists allowed = each_append (λ m. is_pair m ≡ false) k.moments [] h tt
  fact_points end k (Vacant r) h exists allowed = each_append (λ m. is_pair m ≡ false) k.moments [] h tt
  fact_points end k (Fails r g) h exists allowed = each_append (λ m. is_pair m ≡ false) k.moments [] h tt

  points : (candidate : Option ℕ) (past : List Fact) → AreAnswers a p of_events candidate past → ArePoints (known a p [] candidate past).moments
  unfolding known
  points candidate [] h = each_map_all (λ m. is_pair m ≡ false) (λ e. Point (event_vector a p e)) (range_with_len 0 (length p.events)) (λ e. refl)
  points candidate (fact ∷ past) h = fact_points (end_vector a p candidate) (known a p [] candidate past) fact (points candidate past h.2) h.0 h.1

  not_pairs : (x y : Option Moment) → ((m : Moment) → x ≡ Some m → is_pair m ≡ false) → are_pairs x y ≡ false
  not_pairs None y h = refl
  not_pairs (Some x) None h = refl
  not_pairs (Some x) (Some y) h = ap (λ (b : Bool). b && is_pair y) (h x refl)

  few_if : (b : Bool) (es : List Fact) → (b ≡ true → length es ≤ 2) → length (all_or_none (cond b (Some es) None)) ≤ 2
  few_if true es h = h refl
  few_if false es h = omega arith

  two_of : (b : Bool) (es fs : List Fact) → b ≡ true → length es ≤ 2 → length (cond b es fs) ≤ 2
  two_of true es fs e h = h
  two_of false es fs e h = absurd (false≢true e)

  pub few_answers : (start : ℕ) (past : List Fact) → Comes (moments_of a p of_events) start past → (n : TreeNode)
      → length (answered (moments_of a p of_events) start past n) ≤ 2
  few_answers start past comes (node.Guard g) =
      let k = known a p [] (candidate_of start) past in
      few_if (is_open past (OfGuard g) && exists_as a p of_events k (OfGuard g)) (answers a k (OfGuard g)) (λ t.
      let there = (and_parts (is_open past (OfGuard g)) (exists_as a p of_events k (OfGuard g)) t).1 in
      let less : g < length a.rise + length a.fall = grind (arith, nat_tests) in
      two_of (nat_lt g (length a.rise)) (Never g ∷ First g ∷ []) (Never g ∷ Stands g ∷ Last g ∷ []) (rise_below g less) (omega arith))
  few_answers start past comes (node.Order x y) =
      let k = known a p [] (candidate_of start) past in
      let all = points (candidate_of start) past (comes_answered a p of_events (moment_maker a p of_events) start past comes) in
      let apart = not_pairs (slice_get k.moments x) (slice_get k.moments y) (λ m e. each_at (λ n. is_pair n ≡ false) k.moments x m all e) in
      few_if (is_open past (OfOrder x y) && exists_as a p of_events k (OfOrder x y)) (answers a k (OfOrder x y)) (λ t.
      subst (λ (b : Bool). length (cond b (Same x y ∷ Before x y ∷ After x y ∷ []) (Before x y ∷ After x y ∷ [])) ≤ 2) (sym apart) (omega arith))
  few_answers start past comes (node.Stuck r) =
      let k = known a p [] (candidate_of start) past in
      few_if (is_open past (OfStuck r) && exists_as a p of_events k (OfStuck r)) (answers a k (OfStuck r)) (λ t.
      absurd (false≢true (and_parts (is_open past (OfStuck r)) (exists_as a p of_events k (OfStuck r)) t).1))
  few_answers start past comes node.Extend = omega arith
  few_answers start past comes (node.Split unknown floor) = omega arith
  few_answers start past comes (node.Leaf ts) = omega arith
