-- how many unknowns and rows a node has
use Rattle.ta_moment_tree.proofs.Common.{◌≡◌, ◌∙◌, inl, inr, ℕ, suc, ◌+◌, ◌*◌, ◌<◌, ◌≤◌, List, [], ◌∷◌, ◌++◌, Bool, true, not, ◌==◌, map, filter, flat_map}
use Rattle.ta_moment_tree.proofs.Common.{length, slice_get, Option, Some, None, arith, refl, sym, ap, and_parts, cases_lt, false≢true, nat_tests}
use Rattle.ta_moment_tree.proofs.Common.{slice_get_past, length-append, length-map, length-range_with_len, range_with_len, AllByRecursion, In, has_bit}
use Rattle.ta_moment_tree.proofs.Common.{in_numbers, Automaton, Pattern, Comparison, Row, Rule, condition_rows, form_row, location_place, opposite}
use Rattle.ta_moment_tree.proofs.Common.{processes_row, bound_row, Fact, Never, First, Stands, Last, Before, After, Same, Vacant, Fails, Question, OfGuard}
use Rattle.ta_moment_tree.proofs.Common.{OfOrder, OfStuck, comes_after, has_guard, is_open, may_be_stuck, moving_rules, needing, question_of, same_question}
use Rattle.ta_moment_tree.proofs.Common.{sparing, UnknownForm, form_of_row, may_be_negative, minus_form, negated_form, opposite_form, Known, Moment, Pair}
use Rattle.ta_moment_tree.proofs.Common.{Point, Vector, after_vector, at_first, before_vector, below, counters_at, early, end_vector, event_at, event_vector}
use Rattle.ta_moment_tree.proofs.Common.{first_vector, guard_at, guards, is_beside, late, place_form, quiet_at, rows_at_start, rows_of_after, rows_of_end}
use Rattle.ta_moment_tree.proofs.Common.{rows_of_event, rows_of_first, rows_of_last, rows_of_order, rows_of_same, source_at, unknowns_at_first, with_fact}
use Rattle.ta_moment_tree.proofs.Common.{with_more, Asking, Exists, known_at, AreAnswers, Event}
use Rattle.std.proofs.lemmas.List.Sums.{count_by-le-length, length-filter}
use Rattle.ta_base.specs.Lists.{Distinct}
use Rattle.ta_base.proofs.Each.{distinct_length}
use Rattle.ta_encode.specs.Unknowns.{start_meanings}
use Rattle.ta_moments.specs.Moments.{steps_less_one}
unfoldable use Rattle.ta_moments.specs.Moments.{known}
use Rattle.ta_moment_tree.specs.Sizes.{NodesStaySmall}
use Rattle.ta_moment_tree.proofs.Beginning.{count_room}
use Rattle.ta_moment_tree.proofs.Starts.{moving_few}

-- ---- lengths
filter_less : {X : Type 0} (test : X → Bool) (xs : List X) → length (filter test xs) ≤ length xs
filter_less test xs = omega (arith, length-filter test xs, count_by-le-length test xs)

flat_long : {X Y : Type 0} (c : ℕ) (g : X → List Y) (xs : List X) → ((x : X) → In x xs → length (g x) ≤ c) → length (flat_map g xs) ≤ length xs * c
flat_long c g [] h = omega arith
flat_long c g (x ∷ xs) h =
    let step : suc (length xs) * c ≡ c + length xs * c = omega arith in
    let rest = flat_long c g xs (λ y i. h y (inr i)) in
    let one = h x (inl refl) in
    omega (arith, length-append (g x) (flat_map g xs), one, rest, step)

below_long : (a : Automaton) (p : Pattern) (n : ℕ) (v w : Vector) → length (below a p n v w) ≤ 1024
below_long a p n v w = omega (
  arith,
  filter_less (may_be_negative n) (map (λ r. minus_form (w r) (v r)) (moving_rules a p)),
  length-map (moving_rules a p)
      (λ r. minus_form (w r) (v r)),
  moving_few a p,
)

counters_long : (a : Automaton) (p : Pattern) (v : Vector) → length (counters_at a p v) ≤ 128
counters_long a p v =
    let all = range_with_len 0 (length a.locations) in
    let some = filter (λ l. not (has_bit p.empty l)) all in
    omega (
      arith,
      length-map some (λ l. place_form a p v (location_place a l)),
      filter_less (λ l. not (has_bit p.empty l)) all,
      length-range_with_len 0
          (length a.locations),
      a.shape.limits.locations_limit,
    )

comparisons_long : {X : Type 0} (f : Row → X) (ks : List Comparison) → length ks ≤ 16 → length (flat_map (λ (k : Comparison). map f k.rows) ks) ≤ 32
comparisons_long f ks few =
    let all = flat_long 2 (λ (k : Comparison). map f k.rows) ks (λ k i. let most = k.most in omega (arith, length-map k.rows f, most)) in
    omega (arith, all, few)

event_long : (a : Automaton) (p : Pattern) (v : Vector) (o : Option Event) → length (event_at a p v o) ≤ 32
event_long a p v None = omega arith
event_long a p v (Some event) = comparisons_long _ event.condition.comparisons event.condition.limit

guard_long : (a : Automaton) (p : Pattern) (v : Vector) (o : Option Row) → length (guard_at a p v o) ≤ 1
guard_long a p v None = omega arith
guard_long a p v (Some row) = omega arith

quiet_long : (a : Automaton) (p : Pattern) (silent : List ℕ) (v : Vector) (o : Option Row) → length (quiet_at a p silent v o) ≤ 1
quiet_long a p silent v None = omega arith
quiet_long a p silent v (Some row) = omega arith

source_long : (a : Automaton) (p : Pattern) (v : Vector) (o : Option Rule) → length (source_at a p v o) ≤ 1
source_long a p v None = omega arith
source_long a p v (Some rule) = omega arith

needing_few : (a : Automaton) (p : Pattern) (g : ℕ) → length (needing a p g) ≤ 1024
needing_few a p g = omega (arith, filter_less (λ r. has_guard a g (slice_get a.rules r)) (moving_rules a p), moving_few a p)

sparing_few : (a : Automaton) (p : Pattern) (g : ℕ) → length (sparing a p g) ≤ 1024
sparing_few a p g = omega (arith, filter_less (λ r. not (has_guard a g (slice_get a.rules r))) (moving_rules a p), moving_few a p)

-- ---- the node without facts
start_long : (a : Automaton) (p : Pattern) → length (rows_at_start a p) ≤ 66
start_long a p =
    let ms = start_meanings a p in
    let one = condition_rows a ms a.resilience.comparisons in
    let two = processes_row a ms ∷ opposite (processes_row a ms) ∷ [] in
    let three = condition_rows a ms p.start.comparisons in
    omega (
      arith,
      length-map (one ++ (two ++ three)) form_of_row,
      length-append one (two ++ three),
      length-append two three,
      comparisons_long
          (λ (r : Row). form_row a ms r.form) a.resilience.comparisons a.resilience.limit,
      comparisons_long (λ (r : Row). form_row a ms r.form)
          p.start.comparisons p.start.limit,
    )

events_long : (a : Automaton) (p : Pattern) → length p.events ≤ 8 → length (flat_map (rows_of_event a p) (range_with_len 0 (length p.events))) ≤ 1280
events_long a p few =
    let all = flat_long 160 (rows_of_event a p) (range_with_len 0 (length p.events)) (λ e i.
    let v = event_vector a p e in
    omega (arith, length-append (counters_at a p v) (event_at a p v (slice_get p.events e)), counters_long a p v, event_long a p v (slice_get p.events e))) in
    omega (arith, all, length-range_with_len 0 (length p.events), few)

after_long : (a : Automaton) (p : Pattern) (e : ℕ) → e ≤ 8 → length (rows_of_after a p e) ≤ 8192
after_long a p e few =
    let test = comes_after (slice_get p.events e) in
    let all = flat_long 1024 (λ f. below a p (unknowns_at_first a p) (event_vector a p f) (event_vector a p e)) (filter test (range_with_len 0 e))
    (λ f i. below_long a p (unknowns_at_first a p) (event_vector a p f) (event_vector a p e)) in
    omega (arith, all, filter_less test (range_with_len 0 e), length-range_with_len 0 e, few)

afters_long : (a : Automaton) (p : Pattern) → length p.events ≤ 8 → length (flat_map (rows_of_after a p) (range_with_len 0 (length p.events))) ≤ 65536
afters_long a p few =
    let all = flat_long 8192 (rows_of_after a p) (range_with_len 0 (length p.events))
    (λ e i. after_long a p e (let less = (in_numbers e 0 (length p.events) i).1 in omega arith)) in
    omega (arith, all, length-range_with_len 0 (length p.events), few)

ends_long : (a : Automaton) (p : Pattern) (c : Option ℕ) → length p.events ≤ 8 → length (rows_of_end a p c) ≤ 8192
ends_long a p c few =
    let test = is_beside p c in
    let all = flat_long 1024 (λ e. below a p (unknowns_at_first a p) (event_vector a p e) (end_vector a p c)) (filter test (range_with_len 0 (length p.events)))
    (λ e i. below_long a p (unknowns_at_first a p) (event_vector a p e) (end_vector a p c)) in
    omega (arith, all, filter_less test (range_with_len 0 (length p.events)), length-range_with_len 0 (length p.events), few)

abbrev size : Known → ℕ
size k = k.unknowns + length k.rows

first_small : (a : Automaton) (p : Pattern) (c : Option ℕ) → length p.events ≤ 8 → size (at_first a p c) ≤ 84000
first_small a p c few =
    let one = rows_at_start a p in
    let two = flat_map (rows_of_event a p) (range_with_len 0 (length p.events)) in
    let three = flat_map (rows_of_after a p) (range_with_len 0 (length p.events)) in
    let four = rows_of_end a p c in
    let room = count_room a p (length p.events) (length (moving_rules a p)) (length (start_meanings a p)) refl refl few in
    let most = room.0 in
    let begun = room.1 in
    omega (
      arith,
      length-append one (two ++ (three ++ four)),
      length-append two (three ++ four),
      length-append three four,
      start_long a p,
      events_long a p few,
      afters_long a p few,
      ends_long a p c few,
      most,
      begun,
    )

-- ---- what a fact adds
order_long : (a : Automaton) (p : Pattern) (n : ℕ) (x y : Option Moment) → length (rows_of_order a p n x y) ≤ 1024
order_long a p n (Some x) (Some y) = below_long a p n (late x) (early y)
order_long a p n (Some x) None = omega arith
order_long a p n None y = omega arith

four_long : {X : Type 0} (n : ℕ) (ps qs rs ss : List X) → length ps ≤ n → length qs ≤ n → length rs ≤ n → length ss ≤ n
    → length (ps ++ (qs ++ (rs ++ ss))) ≤ n + n + n + n
four_long n ps qs rs ss h i j k = omega (arith, length-append ps (qs ++ (rs ++ ss)), length-append qs (rs ++ ss), length-append rs ss, h, i, j, k)

same_long : (a : Automaton) (p : Pattern) (n : ℕ) (x y : Option Moment) → length (rows_of_same a p n x y) ≤ 4096
same_long a p n (Some x) (Some y) =
    let four = four_long 1024 (below a p n (early x) (early y)) (below a p n (early y) (early x)) (below a p n (late x) (late y))
    (below a p n (late y) (late x))
    (below_long a p n (early x) (early y)) (below_long a p n (early y) (early x)) (below_long a p n (late x) (late y)) (below_long a p n (late y) (late x))
    in
    omega (arith, four)
same_long a p n (Some x) None = omega arith
same_long a p n None y = omega arith

first_use_long : (a : Automaton) (p : Pattern) (end : Vector) (n g : ℕ) → length (rows_of_first a p end n g) ≤ 1153
first_use_long a p end n g =
    let v = first_vector a p n g in
    let one = counters_at a p v in
    let two = guard_at a p v (slice_get (guards a) g) in
    let three = below a p (n + length (sparing a p g)) v end in
    omega (
      arith,
      length-append one (two ++ three),
      length-append two three,
      counters_long a p v,
      guard_long a p v (slice_get (guards a) g),
      below_long a p
          (n + length (sparing a p g)) v end,
    )

last_use_long : (a : Automaton) (p : Pattern) (end : Vector) (n g : ℕ) → length (rows_of_last a p end n g) ≤ 2308
last_use_long a p end n g =
    let v = before_vector a p end n g in
    let w = after_vector a p end n g in
    let row = slice_get (guards a) g in
    let step = steps_less_one a p n g in
    let total = n + length (sparing a p g) + length (needing a p g) in
    let one = counters_at a p v in
    let two = map v (needing a p g) in
    let three = guard_at a p v row in
    let four = step ∷ opposite_form step ∷ [] in
    let five = counters_at a p w in
    let six = below a p total w end in
    let seven = map negated_form (guard_at a p end row) in
    omega (
      arith,
      length-append one (two ++ (three ++ (four ++ (five ++ (six ++ seven))))),
      length-append two (three ++ (four ++ (five ++ (six ++ seven)))),
      length-append three (four ++ (five ++ (six ++ seven))),
      length-append four (five ++ (six ++ seven)),
      length-append five (six ++ seven),
      length-append six seven,
      counters_long a p v,
      length-map (needing a p g) v,
      needing_few a p g,
      guard_long a p v row,
      counters_long a p w,
      below_long a p total w end,
      length-map (guard_at a p end row) negated_form,
      guard_long a p end row,
    )

more_small : (k : Known) (n : ℕ) (ms : List Moment) (rows : List UnknownForm) → n + length rows ≤ 4400 → size (with_more k n ms rows) ≤ size k + 4400
more_small k n ms rows h = omega (arith, length-append k.rows rows, h)

fact_small : (a : Automaton) (p : Pattern) (silent : List ℕ) (end : Vector) (k : Known) (fact : Fact) → size (with_fact a p silent end k fact) ≤ size k + 4400
fact_small a p silent end k (Never g) = more_small k 0 [] _ (omega (arith, length-map (needing a p g) (λ r. opposite_form (end r)), needing_few a p g))
fact_small a p silent end k (First g) = more_small k (length (sparing a p g)) (Point (first_vector a p k.unknowns g) ∷ []) (rows_of_first a p end k.unknowns g)
    (omega (arith, sparing_few a p g, first_use_long a p end k.unknowns g))
fact_small a p silent end k (Stands g) = more_small k 0 [] _ (omega (arith, guard_long a p end (slice_get (guards a) g)))
fact_small a p silent end k (Last g) = more_small k (length (sparing a p g) + length (needing a p g))
    (Pair (before_vector a p end k.unknowns g) (after_vector a p end k.unknowns g) ∷ []) (rows_of_last a p end k.unknowns g)
    (omega (arith, sparing_few a p g, needing_few a p g, last_use_long a p end k.unknowns g))
fact_small a p silent end k (Before x y) = more_small k 0 [] _ (omega (arith, order_long a p k.unknowns (slice_get k.moments x) (slice_get k.moments y)))
fact_small a p silent end k (After x y) = more_small k 0 [] _ (omega (arith, order_long a p k.unknowns (slice_get k.moments y) (slice_get k.moments x)))
fact_small a p silent end k (Same x y) = more_small k 0 [] _ (omega (arith, same_long a p k.unknowns (slice_get k.moments x) (slice_get k.moments y)))
fact_small a p silent end k (Vacant r) = more_small k 0 [] _
    (omega (arith, length-map (source_at a p end (slice_get a.rules r)) opposite_form, source_long a p end (slice_get a.rules r)))
fact_small a p silent end k (Fails r g) = more_small k 0 [] _
    (omega (arith, length-map (quiet_at a p silent end (slice_get (guards a) g)) negated_form, quiet_long a p silent end (slice_get (guards a) g)))

known_small : (a : Automaton) (p : Pattern) (silent : List ℕ) (c : Option ℕ) → length p.events ≤ 8 → (past : List Fact)
    → size (known a p silent c past) ≤ 84000 + length past * 4400
unfolding known
known_small a p silent c few [] = omega (arith, first_small a p c few)
known_small a p silent c few (fact ∷ past) =
    let before = known_small a p silent c few past in
    let added = fact_small a p silent (end_vector a p c) (known a p silent c past) fact in
    omega (arith, before, added)

-- ---- moments, by the guards that are asked of
abbrev guard_in : Question → List ℕ
guard_in (OfGuard g) = g ∷ []
guard_in (OfOrder x y) = []
guard_in (OfStuck r) = []

abbrev asked_guards : List Fact → List ℕ
asked_guards [] = []
asked_guards (fact ∷ past) = guard_in (question_of fact) ++ asked_guards past

fact_moments : (a : Automaton) (p : Pattern) (silent : List ℕ) (end : Vector) (k : Known) (fact : Fact)
    → length (with_fact a p silent end k fact).moments ≤ length (guard_in (question_of fact)) + length k.moments
fact_moments a p silent end k (Never g) = omega (arith, length-append k.moments [])
fact_moments a p silent end k (First g) = omega (arith, length-append k.moments (Point (first_vector a p k.unknowns g) ∷ []))
fact_moments a p silent end k (Stands g) = omega (arith, length-append k.moments [])
fact_moments a p silent end k (Last g) = omega
    (arith, length-append k.moments (Pair (before_vector a p end k.unknowns g) (after_vector a p end k.unknowns g) ∷ []))
fact_moments a p silent end k (Before x y) = omega (arith, length-append k.moments [])
fact_moments a p silent end k (After x y) = omega (arith, length-append k.moments [])
fact_moments a p silent end k (Same x y) = omega (arith, length-append k.moments [])
fact_moments a p silent end k (Vacant r) = omega (arith, length-append k.moments [])
fact_moments a p silent end k (Fails r g) = omega (arith, length-append k.moments [])

moments_few : (a : Automaton) (p : Pattern) (silent : List ℕ) (c : Option ℕ) (past : List Fact)
    → length (known a p silent c past).moments ≤ length p.events + length (asked_guards past)
unfolding known
moments_few a p silent c [] = omega
    (arith, length-map (range_with_len 0 (length p.events)) (λ e. Point (event_vector a p e)), length-range_with_len 0 (length p.events))
moments_few a p silent c (fact ∷ past) =
    let before = moments_few a p silent c past in
    let added = fact_moments a p silent (end_vector a p c) (known a p silent c past) fact in
    omega (arith, before, added, length-append (guard_in (question_of fact)) (asked_guards past))

apart : (m n : ℕ) → not (m == n) ≡ true → n ≡ m → ⊥
apart m n h e = absurd (false≢true (grind (arith, nat_tests)))

guard_new : (g : ℕ) (past : List Fact) → is_open past (OfGuard g) ≡ true → AllByRecursion (λ y. g ≡ y → ⊥) (asked_guards past)
guard_new g [] h = tt
guard_new g (fact ∷ past) h =
    let both = and_parts (not (same_question (question_of fact) (OfGuard g))) (is_open past (OfGuard g)) h in
    with_one (question_of fact) both.0 (guard_new g past both.1)
  where
    with_one : (q : Question) → not (same_question q (OfGuard g)) ≡ true → AllByRecursion (λ y. g ≡ y → ⊥) (asked_guards past)
        → AllByRecursion (λ y. g ≡ y → ⊥) (guard_in q ++ asked_guards past)
    with_one (OfGuard n) other rest = (apart n g other, rest)
    with_one (OfOrder x y) other rest = rest
    with_one (OfStuck r) other rest = rest

record FewGuards (past : List Fact) : Type 0 where
  pub distinct : Distinct (asked_guards past)
  pub below : AllByRecursion (λ g. g < 80) (asked_guards past)

guards_few : (a : Automaton) (p : Pattern) (asking : Asking) (c : Option ℕ) (past : List Fact) → AreAnswers a p asking c past → FewGuards past
guards_few a p asking c [] h = record { distinct = tt; below = tt }
guards_few a p asking c (fact ∷ past) h =
    (let both = with_one (question_of fact) h.0 h.1 (guards_few a p asking c past h.2) in record { distinct = both.0; below = both.1 })
  where
    with_one : (q : Question) → is_open past q ≡ true → Exists a p asking (known a p asking.silent c past) q → FewGuards past
        → Distinct (guard_in q ++ asked_guards past) × AllByRecursion (λ g. g < 80) (guard_in q ++ asked_guards past)
    with_one (OfGuard g) unasked exists rest =
        ((guard_new g past unasked, rest.distinct), (omega (arith, exists, a.shape.limits.rise_limit, a.shape.limits.fall_limit), rest.below))
    with_one (OfOrder x y) unasked exists rest = (rest.distinct, rest.below)
    with_one (OfStuck r) unasked exists rest = (rest.distinct, rest.below)

-- ---- questions, by number
abbrev code : Question → ℕ
code (OfGuard g) = g
code (OfOrder x y) = 80 + (x * 88 + y)
code (OfStuck r) = 7824 + r

abbrev Within : Question → Type 0
Within (OfGuard g) = g < 80
Within (OfOrder x y) = (x < 88) × (y < 88)
Within (OfStuck r) = r < 1024

code_small : (q : Question) → Within q → code q < 8848
code_small (OfGuard g) h = omega (arith, h)
code_small (OfOrder x y) h = (let one = h.0 in let two = h.1 in omega (arith, one, two))
code_small (OfStuck r) h = omega (arith, h)

same_order : (x y v w : ℕ) → y < 88 → w < 88 → v * 88 + w ≡ x * 88 + y → (v ≡ x) × (w ≡ y)
same_order x y v w h k e = (omega (arith, h, k, e), omega (arith, h, k, e))

code_apart : (q r : Question) → Within q → Within r → not (same_question q r) ≡ true → code r ≡ code q → ⊥
code_apart (OfGuard g) (OfGuard h) i k other e = apart g h other e
code_apart (OfGuard g) (OfOrder v w) i k other e = absurd (omega (arith, i, e))
code_apart (OfGuard g) (OfStuck r) i k other e = absurd (omega (arith, i, e))
code_apart (OfOrder x y) (OfGuard h) i k other e = absurd (omega (arith, k, e))
code_apart (OfOrder x y) (OfOrder v w) i k other e =
    let same = same_order x y v w i.1 k.1 (omega (arith, e)) in
    let one = same.0 in
    let two = same.1 in
    absurd (false≢true (grind (arith, nat_tests)))
code_apart (OfOrder x y) (OfStuck r) i k other e = (let one = i.0 in let two = i.1 in absurd (omega (arith, one, two, e)))
code_apart (OfStuck q) (OfGuard h) i k other e = absurd (omega (arith, k, e))
code_apart (OfStuck q) (OfOrder v w) i k other e = (let one = k.0 in let two = k.1 in absurd (omega (arith, one, two, e)))
code_apart (OfStuck q) (OfStuck r) i k other e = apart q r other (omega (arith, e))

abbrev AllWithin : List Fact → Type 0
AllWithin past = AllByRecursion (λ fact. Within (question_of fact)) past

code_new : (q : Question) → Within q → (past : List Fact) → AllWithin past → is_open past q ≡ true
    → AllByRecursion (λ y. code q ≡ y → ⊥) (map (λ fact. code (question_of fact)) past)
code_new q i [] h unasked = tt
code_new q i (fact ∷ past) h unasked =
    let both = and_parts (not (same_question (question_of fact) q)) (is_open past q) unasked in
    (code_apart (question_of fact) q h.0 i both.0, code_new q i past h.1 both.1)

rule_there : (a : Automaton) (p : Pattern) (r : ℕ) → may_be_stuck p (slice_get a.rules r) ≡ true → r < 1024
rule_there a p r h = elim (cases_lt r (length a.rules)) [
  | inl less ↦ omega (arith, less, a.shape.limits.rules_limit)
  | inr past ↦ absurd (false≢true (sym (ap (may_be_stuck p) (slice_get_past a.rules r past)) ∙ h))
]

question_within : (a : Automaton) (p : Pattern) (asking : Asking) (c : Option ℕ) (past : List Fact) → length p.events ≤ 8 → AreAnswers a p asking c past
    → (q : Question) → Exists a p asking (known a p asking.silent c past) q → Within q
question_within a p asking c past few h (OfGuard g) exists = omega (arith, exists, a.shape.limits.rise_limit, a.shape.limits.fall_limit)
question_within a p asking c past few h (OfOrder x y) exists =
    let some = guards_few a p asking c past h in
    let most = distinct_length 80 (asked_guards past) some.distinct some.below in
    let moments = moments_few a p asking.silent c past in
    let one = exists.0 in
    let two = exists.1 in
    (omega (arith, one, two, moments, most, few), omega (arith, two, moments, most, few))
question_within a p asking c past few h (OfStuck r) exists = rule_there a p r exists.1

answers_within : (a : Automaton) (p : Pattern) (asking : Asking) (c : Option ℕ) (past : List Fact) → length p.events ≤ 8 → AreAnswers a p asking c past
    → AllWithin past
answers_within a p asking c [] few h = tt
answers_within a p asking c (fact ∷ past) few h = (question_within a p asking c past few h.2 (question_of fact) h.1, answers_within a p asking c past few h.2)

codes_distinct : (a : Automaton) (p : Pattern) (asking : Asking) (c : Option ℕ) (past : List Fact) → length p.events ≤ 8 → AreAnswers a p asking c past
    → Distinct (map (λ fact. code (question_of fact)) past)
codes_distinct a p asking c [] few h = tt
codes_distinct a p asking c (fact ∷ past) few h = (
  code_new (question_of fact) (question_within a p asking c past few h.2 (question_of fact) h.1) past (answers_within a p asking c past few h.2) h.0,
  codes_distinct a p asking c past few h.2,
)

codes_small : (past : List Fact) → AllWithin past → AllByRecursion (λ n. n < 8848) (map (λ fact. code (question_of fact)) past)
codes_small [] h = tt
codes_small (fact ∷ past) h = (code_small (question_of fact) h.0, codes_small past h.1)

pub stay_small : NodesStaySmall
stay_small a p over asking node h =
    let few = over.events_limit in
    let codes = map (λ fact. code (question_of fact)) node.past in
    let count = distinct_length 8848 codes (codes_distinct a p asking node.candidate node.past few h)
    (codes_small node.past (answers_within a p asking node.candidate node.past few h)) in
    let whole = known_small a p asking.silent node.candidate few node.past in
    let rows = (known_at a p asking node).rows in
    let bounds = map (λ b. form_of_row (bound_row b)) node.bounds in
    omega (
      arith,
      count,
      whole,
      length-map node.past (λ fact. code (question_of fact)),
      length-append rows bounds,
      length-map node.bounds
          (λ b. form_of_row (bound_row b)),
    )
