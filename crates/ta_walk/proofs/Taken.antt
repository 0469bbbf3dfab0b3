-- the whole values that are taken in place of a vertex's are natural and solve its system
use Rattle.ta_walk.proofs.Common.{and_parts, known_at, IsSomeAnd, suc, list_all, is_some, *ℤ_comm, ge-zero_of_mul, mul-ge-zero, Pairwise, Pending, Fraction}
use Rattle.ta_walk.proofs.Common.{ScaledSolve, VertexAt, Fact, Values, is_known_natural, known_value, next_question, IsNumberOver, PositiveDenominators}
use Rattle.ta_walk.proofs.Common.{common_denominator, may_take, node_of, scaled_in, whole_values}
use Rattle.ta_moments.proofs.Common.{◌≡◌, ℕ, ◌<◌, ℤ, pos, ◌*ℤ◌, ◌≤ℤ◌, Bool, true, false, not, List, [], ◌∷◌, map, length, Option, Some, None, cond}
use Rattle.ta_moments.proofs.Common.{arith, ints, refl, sym, ap, ◌∙◌, subst, same_Some, slice_get, length-map, AllByRecursion, Automaton, Pattern, Asking}
use Rattle.ta_moments.proofs.Common.{Node, node_rows}
use Rattle.ta_base.proofs.Integers.{natural, pos_natural}
use Rattle.ta_base.proofs.Pairwise.{paired_length}
use Rattle.ta_simplex.specs.Vertex.{parts_of}
use Rattle.ta_moments.specs.Questions.{Scaled}
use Rattle.ta_moments.specs.Vertices.{values_of}
use Rattle.ta_moments.proofs.Fractions.{values_fractions}
use Rattle.ta_moment_tree.specs.Makers.{moments_of}
use Rattle.ta_walk.proofs.RowsMet.{known_met, rows_hold}

-- each denominator is positive
pub all_positive : (fs : List Fraction) → PositiveDenominators (parts_of fs)
all_positive [] = tt
all_positive (f ∷ fs) = (f.positive, all_positive fs)

-- ---- lists of naturals
pub naturals_of : (zs : List ℤ) → AllByRecursion (λ z. pos 0 ≤ℤ z) zs → zs ≡ map pos (map natural zs)
naturals_of [] h = refl
naturals_of (z ∷ zs) h = ap (λ x. x ∷ zs) (sym (pos_natural z h.0)) ∙ ap (λ (xs : List ℤ). pos (natural z) ∷ xs) (naturals_of zs h.1)

abbrev TopsNatural : List Fraction → Type 0
TopsNatural fs = AllByRecursion (λ (f : Fraction). pos 0 ≤ℤ f.top) fs

tops_natural : (fs : List Fraction) → ((x : ℕ) → x < length fs → IsSomeAnd (slice_get fs x) (λ f. pos 0 ≤ℤ f.top)) → TopsNatural fs
tops_natural [] h = tt
tops_natural (f ∷ fs) h = (h 0 (omega arith), tops_natural fs (λ x b. h (suc x) (omega arith)))

over_natural : (d : ℕ) (fs : List Fraction) (zs : List ℤ) → TopsNatural fs → Pairwise (IsNumberOver (pos d)) (parts_of fs) zs
    → AllByRecursion (λ z. pos 0 ≤ℤ z) zs
over_natural d [] [] h p = tt
over_natural d [] (z ∷ zs) h p = absurd p
over_natural d (f ∷ fs) [] h p = absurd p
over_natural d (f ∷ fs) (z ∷ zs) h p =
    let product : pos 0 ≤ℤ (f.bottom *ℤ z) =
    subst (λ (y : ℤ). pos 0 ≤ℤ y) (sym p.0 ∙ *ℤ_comm z f.bottom) (mul-ge-zero (pos d) f.top (omega (arith, ints)) h.0) in
    (ge-zero_of_mul f.bottom z f.positive product, over_natural d fs zs h.1 p.1)

-- ---- values that may be taken
pub record IsTaken (a : Automaton) (p : Pattern) (asking : Asking) (node : Node) (o : Values) (numbers : List ℤ) : Type 0 where
  pub values : Scaled
  pub are : o ≡ Some values
  pub same : values.numbers ≡ numbers
  pub rows : list_all (λ f. is_known_natural (known_value (whole_values numbers) f)) (node_rows a p asking node) ≡ true
  pub none : next_question a p asking node (whole_values numbers) ≡ None

none_so : {X : Type 0} (o : Option X) → not (is_some o) ≡ true → o ≡ None
none_so None h = refl
none_so (Some x) h = absurd (cc)

taken_so : (b : Bool) (xs ys : List ℤ) → cond b (Some xs) None ≡ Some ys → (b ≡ true) × (xs ≡ ys)
taken_so true xs ys e = (refl, same_Some xs ys e)
taken_so false xs ys e = absurd (cc)

pub taken : (a : Automaton) (p : Pattern) (asking : Asking) (node : Node) (o : Values) (numbers : List ℤ) → scaled_in a p asking node o ≡ Some numbers
    → IsTaken a p asking node o numbers
taken a p asking node None numbers e = absurd (cc)
taken a p asking node (Some values) numbers e =
    let so = taken_so (may_take a p asking node values.numbers) values.numbers numbers e in
    let may = subst (λ (zs : List ℤ). may_take a p asking node zs ≡ true) so.1 so.0 in
    let both =
    and_parts (list_all (λ f. is_known_natural (known_value (whole_values numbers) f)) (node_rows a p asking node))
    (not (is_some (next_question a p asking node (whole_values numbers)))) may in
    record { values = values; are = refl; same = so.1; rows = both.0; none = none_so (next_question a p asking node (whole_values numbers)) both.1 }

-- the numbers of a vertex's values over their least common denominator: natural, one for each unknown
pub record AreOver (a : Automaton) (p : Pattern) (asking : Asking) (w : Pending Fact) (values : List Fraction) (numbers : List ℤ) : Type 0 where
  pub paired : Pairwise (IsNumberOver (pos (common_denominator (parts_of values)))) (parts_of values) numbers
  pub naturals : List ℕ
  pub are : numbers ≡ map pos naturals
  pub long : length naturals ≡ (known_at a p asking (node_of w)).unknowns

pub numbers_over : (a : Automaton) (p : Pattern) (asking : Asking) (w : Pending Fact) (values : List Fraction) → VertexAt (moments_of a p asking) w values
    → (v : Scaled) → values_of (parts_of values) ≡ Some v → AreOver a p asking w values v.numbers
numbers_over a p asking w values vertex v is =
    let fs = parts_of values in
    let over = values_fractions fs (all_positive values) v is in
    let paired = subst (λ (d : ℤ). Pairwise (IsNumberOver d) fs v.numbers) over.0 over.1 in
    let at = vertex.holds in
    let count = at.gives.count in
    let tops = tops_natural values (λ x h. at.meet.not_negative x (omega (arith, h, count))) in
    record {
      paired = paired;
      naturals = map natural v.numbers;
      are = naturals_of v.numbers (over_natural (common_denominator fs) values v.numbers tops paired);
      long = length-map v.numbers natural ∙ paired_length (IsNumberOver (pos (common_denominator fs))) fs v.numbers paired
          ∙ length-map values (λ f. (f.top, f.bottom)) ∙ count ∙ vertex.is.unknowns;
    }

pub scaled_solve : (a : Automaton) (p : Pattern) (asking : Asking) → ScaledSolve (moments_of a p asking)
scaled_solve a p asking w values numbers vertex is =
    let node = node_of w in
    let is_taken = taken a p asking node (values_of (parts_of values)) numbers is in
    let over = numbers_over a p asking w values vertex is_taken.values is_taken.are in
    let vs = over.naturals in
    let are : numbers ≡ map pos vs = sym is_taken.same ∙ over.are in
    let known =
    subst (λ (zs : List ℤ). list_all (λ f. is_known_natural (known_value (whole_values zs) f)) (node_rows a p asking node) ≡ true) are is_taken.rows in (
      vs,
      are,
      record {
        count = over.long;
        rows_hold =
            rows_hold (known_at a p asking node).unknowns vs over.long (known_at a p asking node).rows w.bounds
            (known_met vs (node_rows a p asking node) known);
      },
    )
