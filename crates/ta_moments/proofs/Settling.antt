-- settled moments as counts
use Rattle.ta_moments.proofs.Common.{◌⊎◌, inl, inr, ℕ, ◌≤ℤ◌, List, arith, sym, subst, ints, In, Automaton, Pattern, moving_rules, Vector, Moment, Point, Pair}
use Rattle.ta_moments.proofs.Common.{early, late, Counts, NoneFewer, Comparable, AtMost, Settled, counts_of, IsNatural, IsMoment, positions_of, StandsApart}
use Rattle.ta_moments.specs.Whole.{form_value}
use Rattle.ta_moments.proofs.Starting.{natural_is}

pub fewer : (a : Automaton) (p : Pattern) (values : List ℕ) (v w : Vector) → IsNatural a p values v → IsNatural a p values w → AtMost a p values v w
    → NoneFewer (moving_rules a p) (counts_of values v) (counts_of values w)
fewer a p values v w n m le r i =
    let x = natural_is (form_value values (v r)) (n r i) in
    let y = natural_is (form_value values (w r)) (m r i) in
    let z : form_value values (v r) ≤ℤ form_value values (w r) = le r i in
    omega (arith, ints, x, y, z)

joined : (rs : List ℕ) (u v w : Counts) → NoneFewer rs u v → NoneFewer rs v w → NoneFewer rs u w
joined rs u v w h k r i = omega (arith, h r i, k r i)

-- what is said of both positions holds of each
pub each_position : (P : Counts → Type 0) (values : List ℕ) (m : Moment) → P (counts_of values (early m)) → P (counts_of values (late m)) → (u : Counts)
    → In u (positions_of values m) → P u
each_position P values m x y u (inl e) = subst P (sym e) x
each_position P values m x y u (inr (inl e)) = subst P (sym e) y
each_position P values m x y u (inr (inr i)) = absurd i

-- the ways in which two moments are settled, as counts
ahead : (a : Automaton) (p : Pattern) (values : List ℕ) (m n : Moment) → IsMoment a p values m → IsMoment a p values n → AtMost a p values (late m) (early n)
    → StandsApart a p values m n
ahead a p values m n h k le =
    let rs = moving_rules a p in
    let own = fewer a p values (early m) (late m) h.early_natural h.late_natural h.in_order in
    let far = fewer a p values (late m) (early n) h.late_natural k.early_natural le in
    each_position (λ u. NoneFewer rs u (counts_of values (early n)) ⊎ NoneFewer rs (counts_of values (late n)) u) values m
    (inl (joined rs (counts_of values (early m)) (counts_of values (late m)) (counts_of values (early n)) own far)) (inl far)

behind : (a : Automaton) (p : Pattern) (values : List ℕ) (m n : Moment) → IsMoment a p values m → IsMoment a p values n → AtMost a p values (late n) (early m)
    → StandsApart a p values m n
behind a p values m n h k le =
    let rs = moving_rules a p in
    let own = fewer a p values (early m) (late m) h.early_natural h.late_natural h.in_order in
    let far = fewer a p values (late n) (early m) k.late_natural h.early_natural le in
    each_position (λ u. NoneFewer rs u (counts_of values (early n)) ⊎ NoneFewer rs (counts_of values (late n)) u) values m (inr far)
    (inr (joined rs (counts_of values (late n)) (counts_of values (early m)) (counts_of values (late m)) far own))

beside : (a : Automaton) (p : Pattern) (values : List ℕ) (m n : Moment) → IsMoment a p values m → IsMoment a p values n → AtMost a p values (early m) (early n)
    → AtMost a p values (late n) (late m) → StandsApart a p values m n
beside a p values m n h k low high =
    let rs = moving_rules a p in
    each_position (λ u. NoneFewer rs u (counts_of values (early n)) ⊎ NoneFewer rs (counts_of values (late n)) u) values m
    (inl (fewer a p values (early m) (early n) h.early_natural k.early_natural low))
    (inr (fewer a p values (late n) (late m) k.late_natural h.late_natural high))

apart_both : (a : Automaton) (p : Pattern) (values : List ℕ) (m n : Moment) → IsMoment a p values m → IsMoment a p values n → Settled a p values m n
    → StandsApart a p values m n × StandsApart a p values n m
apart_both a p values m n h k (inl le) = (ahead a p values m n h k le, behind a p values n m k h le)
apart_both a p values m n h k (inr (inl le)) = (behind a p values m n h k le, ahead a p values n m k h le)
apart_both a p values (Pair v w) (Pair x y) h k (inr (inr s)) =
    (beside a p values (Pair v w) (Pair x y) h k s.0 s.3, beside a p values (Pair x y) (Pair v w) k h s.1 s.2)
apart_both a p values (Point v) y h k (inr (inr s)) = absurd s
apart_both a p values (Pair v w) (Point y) h k (inr (inr s)) = absurd s

pub stand_apart : (a : Automaton) (p : Pattern) (values : List ℕ) (m n : Moment) → IsMoment a p values m → IsMoment a p values n → Settled a p values m n
    → StandsApart a p values m n × StandsApart a p values n m
    × ((u w : Counts) → In u (positions_of values m) → In w (positions_of values n) → Comparable (moving_rules a p) u w)
stand_apart a p values m n h k s =
    let rs = moving_rules a p in
    let both = apart_both a p values m n h k s in
    let own = fewer a p values (early n) (late n) k.early_natural k.late_natural k.in_order in
    let b = counts_of values (early n) in
    let e = counts_of values (late n) in (
      both.0,
      both.1,
      λ u w i j. elim (both.0 u i) [
        | inl le ↦ each_position (λ x. Comparable rs u x) values n (inl le) (inl (joined rs u b e le own)) w j
        | inr le ↦ each_position (λ x. Comparable rs u x) values n (inr (joined rs b e u own le)) (inr le) w j
      ],
    )
