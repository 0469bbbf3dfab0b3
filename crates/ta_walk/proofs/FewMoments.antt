-- how many moments and unknowns a node has to which the search comes
use Rattle.ta_walk.proofs.Common.{◌≡◌, ℕ, ◌+◌, ◌<◌, ◌≤◌, List, [], ◌∷◌, ◌++◌, map, length, slice_get, Option, arith, ap, lit<, ◌^◌, length-map, range_with_len}
use Rattle.ta_walk.proofs.Common.{Automaton, Pattern, PatternOver, Row, Comes, Pending, Fact, Never, First, Stands, Last, Before, After, Same, Vacant, Fails}
use Rattle.ta_walk.proofs.Common.{question_of, Maker, candidate_of, moment_search, row_of_form, Fraction, VertexAt, come_answers, search_small}
use Rattle.std.proofs.lemmas.List.{length-append}
use Rattle.std.proofs.lemmas.List.FromFn.{length-range_with_len}
use Rattle.std.proofs.lemmas.Option.{slice_get-get_or}
use Rattle.ta_moments.specs.Facts.{sparing, needing}
use Rattle.ta_moments.specs.Forms.{UnknownForm, negated_form, opposite_form}
use Rattle.ta_moments.specs.Moments.{Known, Moment, Pair, Point, Vector, after_vector, before_vector, below, counters_at, end_vector, event_vector}
use Rattle.ta_moments.specs.Moments.{first_vector, guard_at, guards, rows_of_first, rows_of_last, steps_less_one, with_fact, with_more}
unfoldable use Rattle.ta_moments.specs.Moments.{known}
use Rattle.ta_moments.specs.Refutes.{Asking, Exists}
use Rattle.ta_moment_tree.specs.Sizes.{AreAnswers}

-- a guard that exists has a row
guard_row : (a : Automaton) (p : Pattern) (v : Vector) (g : ℕ) → g < length a.rise + length a.fall → length (guard_at a p v (slice_get (guards a) g)) ≡ 1
guard_row a p v g h = of_guard (guards a) (let long = length-append a.rise a.fall in omega (arith, long, h)) where
  of_guard : (rows : List Row) → g < length rows → length (guard_at a p v (slice_get rows g)) ≡ 1
  of_guard [] less = absurd (omega (arith, less))
  of_guard (row ∷ rows) less = ap (λ (o : Option Row). length (guard_at a p v o)) (slice_get-get_or (row ∷ rows) g row less)

-- a fact adds no more moments than rows
abbrev MoreRows : Known → Known → Type 0
MoreRows k after = length after.moments + length k.rows ≤ length k.moments + length after.rows

none_more : (k : Known) (rows : List UnknownForm) → MoreRows k (with_more k 0 [] rows)
none_more k rows = omega (arith, length-append k.moments [], length-append k.rows rows)

one_more : (k : Known) (n : ℕ) (m : Moment) (rows : List UnknownForm) → 1 ≤ length rows → MoreRows k (with_more k n (m ∷ []) rows)
one_more k n m rows some = omega (arith, length-append k.moments (m ∷ []), length-append k.rows rows, some)

first_some : (a : Automaton) (p : Pattern) (end : Vector) (n g : ℕ) → g < length a.rise + length a.fall → 1 ≤ length (rows_of_first a p end n g)
first_some a p end n g h =
    let v = first_vector a p n g in
    let one = counters_at a p v in
    let two = guard_at a p v (slice_get (guards a) g) in
    let three = below a p (n + length (sparing a p g)) v end in
    omega (arith, length-append one (two ++ three), length-append two three, guard_row a p v g h)

last_some : (a : Automaton) (p : Pattern) (end : Vector) (n g : ℕ) → 1 ≤ length (rows_of_last a p end n g)
last_some a p end n g =
    let v = before_vector a p end n g in
    let w = after_vector a p end n g in
    let row = slice_get (guards a) g in
    let step = steps_less_one a p n g in
    let one = counters_at a p v in
    let two = map v (needing a p g) in
    let three = guard_at a p v row in
    let four = step ∷ opposite_form step ∷ [] in
    let rest = counters_at a p w ++ (below a p (n + length (sparing a p g) + length (needing a p g)) w end ++ map negated_form (guard_at a p end row)) in
    let after = three ++ (four ++ rest) in
    omega (arith, length-append one (two ++ after), length-append two after, length-append three (four ++ rest), length-append four rest)

fact_more : (a : Automaton) (p : Pattern) (asking : Asking) (end : Vector) (k : Known) (fact : Fact)
    → Exists a p asking k (question_of fact) → MoreRows k (with_fact a p asking.silent end k fact)
fact_more a p asking end k (Never g) h = none_more k _
fact_more a p asking end k (First g) h =
    let some = first_some a p end k.unknowns g h in
    one_more k (length (sparing a p g)) (Point (first_vector a p k.unknowns g)) (rows_of_first a p end k.unknowns g) some
fact_more a p asking end k (Stands g) h = none_more k _
fact_more a p asking end k (Last g) h =
    let pair = Pair (before_vector a p end k.unknowns g) (after_vector a p end k.unknowns g) in
    one_more k (length (sparing a p g) + length (needing a p g)) pair (rows_of_last a p end k.unknowns g) (last_some a p end k.unknowns g)
fact_more a p asking end k (Before x y) h = none_more k _
fact_more a p asking end k (After x y) h = none_more k _
fact_more a p asking end k (Same x y) h = none_more k _
fact_more a p asking end k (Vacant r) h = none_more k _
fact_more a p asking end k (Fails r g) h = none_more k _

-- so a node has no more moments than events and rows
moments_rows : (a : Automaton) (p : Pattern) (asking : Asking) (c : Option ℕ) (past : List Fact) → AreAnswers a p asking c past
    → length (known a p asking.silent c past).moments ≤ length p.events + length (known a p asking.silent c past).rows
unfolding known
moments_rows a p asking c [] h =
    omega (arith, length-map (range_with_len 0 (length p.events)) (λ e. Point (event_vector a p e)), length-range_with_len 0 (length p.events))
moments_rows a p asking c (fact ∷ past) h =
    let before = moments_rows a p asking c past h.2 in
    let added = fact_more a p asking (end_vector a p c) (known a p asking.silent c past) fact h.1 in
    omega (arith, before, added)

module _ (a : Automaton) (p : Pattern) (over : PatternOver a p) (asking : Asking) (maker : Maker) where
  abbrev here : ℕ → List Fact → Pending Fact
  here start past = record { start = start; past = past; bounds = [] }

  pub few_moments : (start : ℕ) (past : List Fact)
      → Comes (moment_search a p asking maker) start past → length (known a p asking.silent (candidate_of start) past).moments ≤ 2 ^ 32
  few_moments start past h =
      let k = known a p asking.silent (candidate_of start) past in
      let small = search_small a p over asking maker (here start past) h in
      let rows = moments_rows a p asking (candidate_of start) past (come_answers a p asking maker start past h) in
      let events = over.events_limit in
      let large : 40000008 < 2 ^ 32 = lit< tt in
      omega (arith, small, rows, events, large, length-append (map (row_of_form k.unknowns) k.rows) [], length-map k.rows (row_of_form k.unknowns))

  pub few_values : (w : Pending Fact) (values : List Fraction)
      → Comes (moment_search a p asking maker) w.start w.past → VertexAt (moment_search a p asking maker) w values → length values ≤ 2 ^ 32
  few_values w values h at =
      let small = search_small a p over asking maker (here w.start w.past) h in
      let count = at.holds.gives.count in
      let unknowns = at.is.unknowns in
      let k = known a p asking.silent (candidate_of w.start) w.past in
      let large : 40000008 < 2 ^ 32 = lit< tt in
      omega (arith, small, count, unknowns, large)
