-- no node is split where no row has a positive constant, unless a number leaves the range
use Rattle.ta_walk.proofs.Common.{known_at, list_all, is_some, solution_of, AreRowsOf, Comes, Pending, some_both, Fraction, IsUnbounded, VertexAt, Fact}
use Rattle.ta_walk.proofs.Common.{Question, QuestionsMayBeAsked, Values, is_known_natural, known_value, natural_values, next_question, IsCone, candidate_of}
use Rattle.ta_walk.proofs.Common.{row_of_form, common_denominator, number, may_take, moment_maker, node_of, scaled_in, whole_values}
use Rattle.ta_moments.proofs.Common.{◌≡◌, inl, inr, ℕ, ◌<◌, ℤ, pos, negsuc, ◌*ℤ◌, ◌≤ℤ◌, ◌&&◌, Bool, true, false, not, false≢true, cond, List, [], ◌∷◌, ◌++◌}
use Rattle.ta_moments.proofs.Common.{map, get_or, slice_get, Option, Some, None, arith, ints, refl, sym, ap, ◌∙◌}
use Rattle.ta_moments.proofs.Common.{subst, In, Automaton, Pattern, bound_row, Bound}
use Rattle.ta_moments.proofs.Common.{UnknownForm, node_rows, of_events}
use Rattle.ta_simplex.specs.Vertex.{parts_of}
use Rattle.ta_moments.specs.Vertices.{values_of}
use Rattle.ta_moments.proofs.Cones.{none_positive}
use Rattle.ta_moments.proofs.Fractions.{denominators_least}
use Rattle.ta_moment_tree.specs.Makers.{moments_of}
use Rattle.ta_walk.proofs.Answered.{comes_answered}
use Rattle.ta_walk.proofs.RowsMet.{Met, known_is, mapped_at, rows_met}
use Rattle.ta_walk.proofs.ScaledQuestions.{none_scaled}
use Rattle.ta_walk.proofs.ScaledRows.{over_at, rows_over, same_fraction}
use Rattle.ta_walk.proofs.Taken.{AreOver, all_positive, numbers_over}
use Rattle.ta_walk.proofs.WholeNodes.{settled_none}
use Rattle.ta_walk.specs.Deciding.{ConesAreNotSplit, ValuesLeave}

-- ---- rows that aren't known
natural_known : (z : ℤ) → pos 0 ≤ℤ z → is_known_natural (Some z) ≡ true
natural_known (pos n) h = refl
natural_known (negsuc n) h = absurd (omega (arith, ints, h))

-- rows that are met and not all known and met have one that isn't known
abbrev HasUnknown : List ℕ → List UnknownForm → Type 0
HasUnknown vs fs = (f : UnknownForm) × In f fs × (known_value (natural_values vs) f ≡ None)

some_unknown : (vs : List ℕ) (fs : List UnknownForm) → Met vs fs → list_all (λ f. is_known_natural (known_value (natural_values vs) f)) fs ≡ false
    → HasUnknown vs fs
some_unknown vs [] met e = absurd (false≢true (sym e))
some_unknown vs (f ∷ fs) met e =
    let test : UnknownForm → Bool = (λ g. is_known_natural (known_value (natural_values vs) g)) in
    by_value (known_value (natural_values vs) f) refl (λ first. some_unknown vs fs met.1 (sym (ap (λ (b : Bool). b && list_all test fs) first) ∙ e))
  where
    by_value : (o : Option ℤ) → known_value (natural_values vs) f ≡ o → (is_known_natural (known_value (natural_values vs) f) ≡ true → HasUnknown vs fs)
        → HasUnknown vs (f ∷ fs)
    by_value None is later = (f, inl refl, is)
    by_value (Some z) is later =
        let least = met.0 in
        let natural : pos 0 ≤ℤ z = omega (arith, ints, known_is vs f z is, least) in
        let found = later (ap is_known_natural is ∙ natural_known z natural) in
        (found.0, inr found.1, found.2)

not_taken : (b : Bool) (xs : List ℤ) → cond b (Some xs) None ≡ None → b ≡ false
not_taken true xs e = absurd (cc)
not_taken false xs e = refl

first_false : (b : Bool) → (b && true) ≡ false → b ≡ false
first_false true e = absurd (false≢true (sym e))
first_false false e = refl

-- ---- the rows are met
scaled_met : (a : Automaton) (p : Pattern) → IsCone a p → (w : Pending Fact) → Comes (moments_of a p of_events) w.start w.past → IsUnbounded w
    → (values : List Fraction) → VertexAt (moments_of a p of_events) w values → (numbers : List ℤ) → (over : AreOver a p of_events w values numbers)
    → Met over.naturals (node_rows a p of_events (node_of w))
scaled_met a p cone w comes unbounded values vertex numbers over =
    let s = moments_of a p of_events in
    let k = known_at a p of_events (node_of w) in
    let z = vertex.system in
    let at = vertex.holds in
    let m = at.meet in
    let vs = over.naturals in
    let d = common_denominator (parts_of values) in
    let some = (denominators_least (parts_of values) (all_positive values)).0 in
    let count = at.gives.count in
    let low = none_positive a p cone (candidate_of w.start) w.past (comes_answered a p of_events (moment_maker a p of_events) w.start w.past comes) in
    let rows : AreRowsOf (map (row_of_form k.unknowns) k.rows ++ []) z.rows =
    subst (λ (bs : List Bound). AreRowsOf (map (row_of_form k.unknowns) k.rows ++ map bound_row bs) z.rows) unbounded vertex.is.rows in
    let named : (u : ℕ) → get_or numbers u (pos 0) ≡ number vs u = (λ u. ap (λ (zs : List ℤ). get_or zs u (pos 0)) over.are ∙ mapped_at vs u) in
    let same : (u : ℕ) → u < z.unknowns → (m.numbers u *ℤ pos d) ≡ (pos m.scale *ℤ number vs u) = (λ u h.
    some_both (slice_get values u) (λ f. m.numbers u *ℤ f.bottom ≡ pos m.scale *ℤ f.top) (λ f. get_or numbers u (pos 0) *ℤ f.bottom ≡ pos d *ℤ f.top)
    ((m.numbers u *ℤ pos d) ≡ (pos m.scale *ℤ number vs u)) (m.over_scale u h) (over_at (pos d) values numbers over.paired u (omega (arith, h, count)))
    (λ f one two.
    same_fraction (m.numbers u) (get_or numbers u (pos 0)) (pos m.scale) (pos d) f.top f.bottom f.positive one two
    ∙ ap (λ (y : ℤ). pos m.scale *ℤ y) (named u))) in
    let solves = solution_of s w z vs vertex.is (record {
      count = over.long ∙ sym vertex.is.unknowns;
      rows_hold = rows_over z.unknowns k.unknowns k.rows z.rows m.numbers (number vs) m.scale d m.some some same z.within rows low m.rows_hold;
    }) in
    rows_met k.unknowns vs over.long k.rows w.bounds solves.rows_hold

-- ---- a node that is split
values_leave : (a : Automaton) (p : Pattern) → IsCone a p → (w : Pending Fact) → Comes (moments_of a p of_events) w.start w.past → IsUnbounded w
    → (values : List Fraction) → VertexAt (moments_of a p of_events) w values → next_question a p of_events (node_of w) (values_of (parts_of values)) ≡ None
    → scaled_in a p of_events (node_of w) (values_of (parts_of values)) ≡ None
    → (o : Values) → values_of (parts_of values) ≡ o → ValuesLeave a p (node_of w) o
values_leave a p cone w comes unbounded values vertex none unscaled None e = tt
values_leave a p cone w comes unbounded values vertex none unscaled (Some v) e =
    let node = node_of w in
    let rows = node_rows a p of_events node in
    let over = numbers_over a p of_events w values vertex v e in
    let met = scaled_met a p cone w comes unbounded values vertex v.numbers over in
    let nothing : next_question a p of_events node (whole_values v.numbers) ≡ None =
    none_scaled v.denominator v.numbers a p node (ap (next_question a p of_events node) (sym e) ∙ none) in
    let may : may_take a p of_events node v.numbers ≡ false =
    not_taken (may_take a p of_events node v.numbers) v.numbers (ap (scaled_in a p of_events node) (sym e) ∙ unscaled) in
    let all = list_all (λ f. is_known_natural (known_value (whole_values v.numbers) f)) rows in
    let unmet : all ≡ false =
    first_false all (ap (λ (o : Option Question). all && not (is_some o)) (sym nothing) ∙ may) in
    let found =
    some_unknown over.naturals rows met
    (subst (λ (zs : List ℤ). list_all (λ f. is_known_natural (known_value (whole_values zs) f)) rows ≡ false) over.are unmet) in
    record {
      row = found.0;
      listed = found.1;
      unknown = ap (λ (zs : List ℤ). known_value (whole_values zs) found.0) over.are ∙ found.2;
    }

pub none_split : QuestionsMayBeAsked → ConesAreNotSplit
none_split may a p cone w comes unbounded unknown floor split =
    let o = values_of (parts_of split.values) in
    let none = settled_none may a p of_events w split.values split.settled in
    record {
      values = split.values;
      vertex = split.vertex;
      settled = split.settled;
      leaves = values_leave a p cone w comes unbounded split.values split.vertex none split.unscaled o refl;
    }
