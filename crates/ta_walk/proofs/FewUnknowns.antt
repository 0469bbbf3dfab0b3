-- a node to which the search of moments comes has few moments and few unknowns
use Rattle.ta_walk.proofs.Common.{known_at, moving_rules, PatternOver, Comes, Fact, Never, First, Stands, Last, Before, After, Same, Vacant, Fails, Maker}
use Rattle.ta_walk.proofs.Common.{candidate_of, moment_search, AskedOnce, few_moments, suc-mul, most_unknowns}
use Rattle.ta_moments.proofs.Common.{◌≡◌, ℕ, suc, ◌+◌, ◌++◌, ◌*◌, ◌≤◌, Bool, true, false, not, cond, List, [], ◌∷◌, filter, length, Option, arith, ap, refl}
use Rattle.ta_moments.proofs.Common.{◌∙◌}
use Rattle.ta_moments.proofs.Common.{length-append, length-map, range_with_len, length-range_with_len, Automaton, Pattern, Vector, Point, Pair, Known, Asking}
use Rattle.ta_moments.proofs.Common.{Node, is_moving, needing, sparing, has_guard, slice_get, event_vector, end_vector}
use Rattle.ta_moments.proofs.Common.{unknowns_at_first, first_vector, before_vector, after_vector, with_fact}
unfoldable use Rattle.ta_moments.specs.Moments.{known}
use Rattle.ta_base.proofs.Ranges.{count_few}
use Rattle.ta_encode.specs.Unknowns.{start_meanings}
use Rattle.ta_moments.specs.Whole.{AreAnswers}
use Rattle.std.proofs.Common.{mul-le-mul}
use Rattle.std.proofs.Math.Nat.{mul-le-mul_right}
use Rattle.ta_moments.specs.Moments.{Moment}
use Rattle.ta_encode.proofs.Drafts.{start_few}
use Rattle.ta_walk.proofs.Answered.{comes_answered, comes_once}

-- items that fail a test, and items that pass it
one_part : (b : Bool) (x : ℕ) (us vs : List ℕ) → length (cond (not b) (x ∷ us) us) + length (cond b (x ∷ vs) vs) ≡ suc (length us + length vs)
one_part true x us vs = omega arith
one_part false x us vs = omega arith

parted : (test : ℕ → Bool) (xs : List ℕ) → length (filter (λ x. not (test x)) xs) + length (filter test xs) ≡ length xs
parted test [] = refl
parted test (x ∷ xs) = omega (arith, one_part (test x) x (filter (λ y. not (test y)) xs) (filter test xs), parted test xs)

few_moving : (a : Automaton) (p : Pattern) (g : ℕ) → length (sparing a p g) + length (needing a p g) ≤ length a.rules
few_moving a p g = omega (
  arith,
  parted (λ r. has_guard a g (slice_get a.rules r)) (moving_rules a p),
  count_few (λ r. is_moving p (slice_get a.rules r)) (length a.rules),
)

one_more : (r : ℕ) (moments : List Moment) (moment : Moment) → length (moments ++ moment ∷ []) * r ≡ r + length moments * r
one_more r moments moment = ap (λ n. n * r) (length-append moments (moment ∷ []) ∙ more) ∙ suc-mul (length moments) r ∙ turned
  where
    more : length moments + 1 ≡ suc (length moments)
    more = omega arith

    turned : length moments * r + r ≡ r + length moments * r
    turned = omega arith

none_more : (r : ℕ) (moments : List Moment) → length (moments ++ []) * r ≡ length moments * r
none_more r moments = ap (λ n. n * r) (length-append moments [] ∙ same)
  where
    same : length moments + 0 ≡ length moments
    same = omega arith

-- a fact with a moment has at most an unknown for each rule; the others have none
fact_adds : (a : Automaton) (p : Pattern) (silent : List ℕ) (end : Vector) (k : Known) (fact : Fact)
    → (with_fact a p silent end k fact).unknowns + length k.moments * length a.rules
    ≤ k.unknowns + length (with_fact a p silent end k fact).moments * length a.rules
fact_adds a p silent end k (First g) =
    omega (arith, few_moving a p g, one_more (length a.rules) k.moments (Point (first_vector a p k.unknowns g)))
fact_adds a p silent end k (Last g) = omega (
  arith,
  few_moving a p g,
  one_more (length a.rules) k.moments (Pair (before_vector a p end k.unknowns g) (after_vector a p end k.unknowns g)),
)
fact_adds a p silent end k (Never g) = omega (arith, none_more (length a.rules) k.moments)
fact_adds a p silent end k (Stands g) = omega (arith, none_more (length a.rules) k.moments)
fact_adds a p silent end k (Before x y) = omega (arith, none_more (length a.rules) k.moments)
fact_adds a p silent end k (After x y) = omega (arith, none_more (length a.rules) k.moments)
fact_adds a p silent end k (Same x y) = omega (arith, none_more (length a.rules) k.moments)
fact_adds a p silent end k (Vacant r) = omega (arith, none_more (length a.rules) k.moments)
fact_adds a p silent end k (Fails r g) = omega (arith, none_more (length a.rules) k.moments)

by_moments : (a : Automaton) (p : Pattern) (silent : List ℕ) (candidate : Option ℕ) (past : List Fact)
    → (known a p silent candidate past).unknowns + length p.events * length a.rules
    ≤ unknowns_at_first a p + length (known a p silent candidate past).moments * length a.rules
unfolding known
by_moments a p silent candidate [] = omega (
  arith,
  ap (λ n. n * length a.rules) (length-map (range_with_len 0 (length p.events)) (λ e. Point (event_vector a p e)) ∙ length-range_with_len 0 (length p.events)),
)
by_moments a p silent candidate (fact ∷ past) =
    omega (arith, by_moments a p silent candidate past, fact_adds a p silent (end_vector a p candidate) (known a p silent candidate past) fact)

pub record IsFew (a : Automaton) (p : Pattern) (asking : Asking) (node : Node) : Type 0 where
  pub unknowns : (known_at a p asking node).unknowns ≤ most_unknowns a
  pub moments : length (known_at a p asking node).moments ≤ 8 + length a.rise + length a.fall

-- each guard is asked at most once
pub node_few : (a : Automaton) (p : Pattern) (asking : Asking) (node : Node) → PatternOver a p → AreAnswers a p asking node.candidate node.past
    → AskedOnce node.past → IsFew a p asking node
node_few a p asking node over answered once =
    let rules = length a.rules in
    let most : length (known_at a p asking node).moments ≤ 8 + length a.rise + length a.fall = omega
    (arith, few_moments a p asking node answered once, over.events_limit) in
    let fired : length (moving_rules a p) ≤ rules = omega (arith, count_few (λ r. is_moving p (slice_get a.rules r)) (length a.rules)) in
    let events : length p.events ≤ length p.events = omega arith in
    let fewer : length p.events * length (moving_rules a p) ≤ length p.events * rules = mul-le-mul events fired in
    let moments : length (known_at a p asking node).moments * rules ≤ (8 + length a.rise + length a.fall) * rules = mul-le-mul_right rules most in
    record {
      unknowns = omega (arith, by_moments a p asking.silent node.candidate node.past, fewer, moments, start_few a p);
      moments = most;
    }

pub comes_few : (a : Automaton) (p : Pattern) (asking : Asking) (maker : Maker) → PatternOver a p → (start : ℕ) (past : List Fact)
    → Comes (moment_search a p asking maker) start past → IsFew a p asking (record { candidate = candidate_of start; past = past; bounds = [] })
comes_few a p asking maker over start past comes =
    node_few a p asking (record { candidate = candidate_of start; past = past; bounds = [] }) over (comes_answered a p asking maker start past comes)
    (comes_once a p asking maker start past comes)
