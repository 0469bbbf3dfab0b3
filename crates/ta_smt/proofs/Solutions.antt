-- The text of a system denotes its natural solutions.
use Rattle.ta_smt.proofs.Common.{ℕ, ℤ, zero, suc, pos, negsuc, ◌+◌, ◌<◌, ◌≤◌, ◌^◌, ◌≡◌, ◌+ℤ◌, ◌*ℤ◌, ◌≤ℤ◌, Bool, true, false, cond, eqb, List, [], ◌∷◌, ◌++◌}
use Rattle.ta_smt.proofs.Common.{length, map, unsigned_abs, inl, inr, refl, sym, ap, subst, ◌∙◌, arith, lit<, eqb-true, All, flat_map, AllByRecursion}
use Rattle.ta_smt.proofs.Common.{slice_index, cases_lt, ints, length-map, each_append, each_back, each_front, InRange, AllBelow, RowHolds, point_of}
use Rattle.ta_smt.proofs.Common.{terms_value, value_of, Form, Row, System, range_with_len, Value, Side, Left, Right, AtLeast, Script, ScriptFits, Summand}
use Rattle.ta_smt.proofs.Common.{SummandFits, Numeral, Unknown, Product, TermFits, DenotesSolutions, IsNaturalSolution, constant, multiple, natural_claim}
use Rattle.ta_smt.proofs.Common.{on_side, part, row_claim, script_of, summed_term, summands, system_text}
use Rattle.ta_base.proofs.Integers.{distributes_right, one_times, order_back, order_is}
use Rattle.ta_linear.specs.Terms.{IsNormal}
use Rattle.ta_linear.proofs.TermLemmas.{IsNormal-le}
use Rattle.ta_smt.specs.Denotes.{Denotes, AtLeastHolds, summand_value, summands_value, term_value}
use Rattle.ta_smt.proofs.Texts.{script_same}
use Rattle.std.proofs.Math.IntN.{+ℤ_idr, zero-*ℤ}

-- a term's parts on both sides differ by it
parts_differ : (z v : ℤ) → (pos (part Left z) *ℤ v) ≡ ((pos (part Right z) *ℤ v) +ℤ (z *ℤ v))
parts_differ (pos n) v = let none = zero-*ℤ v in omega (arith, ints)
parts_differ (negsuc n) v =
    let none = zero-*ℤ v in
    let cancel : (pos (suc n) +ℤ negsuc n) ≡ pos 0 = omega (arith, ints) in
    sym (ap (λ z. z *ℤ v) cancel) ∙ distributes_right (pos (suc n)) (negsuc n) v

constants_differ : (z : ℤ) → pos (part Left z) ≡ (pos (part Right z) +ℤ z)
constants_differ (pos n) = omega (arith, ints)
constants_differ (negsuc n) = omega (arith, ints)

-- the value of summands
value-append : (point : ℕ → ℤ) (ss ts : List Summand) → summands_value point (ss ++ ts) ≡ (summands_value point ss +ℤ summands_value point ts)
value-append point [] ts = omega (arith, ints)
value-append point (s ∷ ss) ts = omega (arith, ints, value-append point ss ts)

multiple_by : (point : ℕ → ℤ) (b c : Bool) (f k : ℕ) → (b ≡ true → f ≡ 0) → (c ≡ true → f ≡ 1)
    → summands_value point (cond b [] (cond c (Unknown k ∷ []) (Product f k ∷ []))) ≡ (pos f *ℤ point k)
multiple_by point true c f k none one = sym (ap (λ n. pos n *ℤ point k) (none refl) ∙ zero-*ℤ (point k))
multiple_by point false true f k none one = +ℤ_idr (point k) ∙ sym (ap (λ n. pos n *ℤ point k) (one refl) ∙ one_times (point k))
multiple_by point false false f k none one = +ℤ_idr (pos f *ℤ point k)

multiple_value : (point : ℕ → ℤ) (f k : ℕ) → summands_value point (multiple f k) ≡ (pos f *ℤ point k)
multiple_value point f k = multiple_by point (eqb f 0) (eqb f 1) f k (eqb-true f 0) (eqb-true f 1)

constant_by : (point : ℕ → ℤ) (b : Bool) (v : ℕ) → (b ≡ true → v ≡ 0) → summands_value point (cond b [] (Numeral v ∷ [])) ≡ pos v
constant_by point true v none = sym (ap pos (none refl))
constant_by point false v none = +ℤ_idr (pos v)

constant_value : (point : ℕ → ℤ) (v : ℕ) → summands_value point (constant v) ≡ pos v
constant_value point v = constant_by point (eqb v 0) v (eqb-true v 0)

sum_value : (point : ℕ → ℤ) (ss : List Summand) → term_value point (summed_term ss) ≡ summands_value point ss
sum_value point [] = refl
sum_value point (s ∷ []) = sym (+ℤ_idr (summand_value point s))
sum_value point (s ∷ t ∷ ss) = refl

-- the two sides of a form differ by its value
terms_differ : (point : ℕ → ℤ) (ts : List (ℕ × ℤ)) → summands_value point (flat_map (on_side Left) ts) ≡
    (summands_value point (flat_map (on_side Right) ts) +ℤ terms_value point ts)
terms_differ point [] = omega (arith, ints)
terms_differ point (t ∷ ts) =
    let lefts = value-append point (on_side Left t) (flat_map (on_side Left) ts) in
    let rights = value-append point (on_side Right t) (flat_map (on_side Right) ts) in
    let left = multiple_value point (part Left t.1) t.0 in
    let right = multiple_value point (part Right t.1) t.0 in
    let differ = parts_differ t.1 (point t.0) in
    let rest = terms_differ point ts in
    omega (arith, ints)

sides_differ : (point : ℕ → ℤ) (form : Form) → summands_value point (summands Left form) ≡ (summands_value point (summands Right form) +ℤ value_of point form)
sides_differ point form =
    let lefts = value-append point (flat_map (on_side Left) form.terms) (constant (part Left form.constant)) in
    let rights = value-append point (flat_map (on_side Right) form.terms) (constant (part Right form.constant)) in
    let left = constant_value point (part Left form.constant) in
    let right = constant_value point (part Right form.constant) in
    let differ = constants_differ form.constant in
    let terms = terms_differ point form.terms in
    omega (arith, ints)

claim_differs : (point : ℕ → ℤ) (row : Row) → term_value point (row_claim row).left ≡ (term_value point (row_claim row).right +ℤ value_of point row.form)
claim_differs point row =
    sum_value point (summands Left row.form) ∙ sides_differ point row.form
    ∙ ap (λ z. z +ℤ value_of point row.form) (sym (sum_value point (summands Right row.form)))

-- what a row claims
row_holds : (point : ℕ → ℤ) (row : Row) → AtLeastHolds point (row_claim row) → RowHolds point row
row_holds point row h = order_is (term_value point (row_claim row).left) (term_value point (row_claim row).right) (value_of point row.form)
    (claim_differs point row) h

row_claims : (point : ℕ → ℤ) (row : Row) → RowHolds point row → AtLeastHolds point (row_claim row)
row_claims point row h = order_back (term_value point (row_claim row).left) (term_value point (row_claim row).right) (value_of point row.form)
    (claim_differs point row) h

-- points with the same values
terms_same : (f g : ℕ → ℤ) → ((x : ℕ) → f x ≡ g x) → (ts : List (ℕ × ℤ)) → terms_value f ts ≡ terms_value g ts
terms_same f g same [] = refl
terms_same f g same (t ∷ ts) = let first = ap (λ z. t.1 *ℤ z) (same t.0) in let rest = terms_same f g same ts in omega (arith, ints)

pub holds_same : (f g : ℕ → ℤ) → ((x : ℕ) → f x ≡ g x) → (row : Row) → RowHolds f row → RowHolds g row
holds_same f g same row h = let terms = terms_same f g same row.form.terms in omega (arith, ints)

-- rows, one by one
rows_hold : (f g : ℕ → ℤ) → ((x : ℕ) → f x ≡ g x) → (rows : List Row) → AllByRecursion (AtLeastHolds f) (map row_claim rows) → All (RowHolds g) rows
rows_hold f g same [] each k d b = absurd (omega arith)
rows_hold f g same (r ∷ rs) each zero d b = holds_same f g same r (row_holds f r each.0)
rows_hold f g same (r ∷ rs) each (suc k) d b = rows_hold f g same rs each.1 k d (omega arith)

rows_claim : (f g : ℕ → ℤ) → ((x : ℕ) → f x ≡ g x) → (rows : List Row) → All (RowHolds f) rows → AllByRecursion (AtLeastHolds g) (map row_claim rows)
rows_claim f g same [] all = tt
rows_claim f g same (r ∷ rs) all =
    (row_claims g r (holds_same f g same r (all 0 r (omega arith))), rows_claim f g same rs (λ k d b. all (suc k) d (omega arith)))

-- unknowns that are natural
naturals_hold : (point : ℕ → ℤ) (k n : ℕ) → AllByRecursion (AtLeastHolds point) (map natural_claim (range_with_len k n)) → (x : ℕ) → k ≤ x → x < k + n
    → pos 0 ≤ℤ point x
naturals_hold point k zero each x low high = absurd (omega arith)
naturals_hold point k (suc n) each x low high =
    elim (cases_lt k x) [
      | inl above ↦ naturals_hold point (k + 1) n each.1 x (omega arith) (omega arith)
      | inr below ↦ (let same : k ≡ x = omega arith in subst (λ y. pos 0 ≤ℤ point y) same each.0)
    ]

naturals_claim : (point : ℕ → ℤ) (k n : ℕ) → ((x : ℕ) → pos 0 ≤ℤ point x) → AllByRecursion (AtLeastHolds point) (map natural_claim (range_with_len k n))
naturals_claim point k zero all = tt
naturals_claim point k (suc n) all = (all k, naturals_claim point (k + 1) n all)

naturals_of : (vs : List ℤ) → ((x : ℕ) → x < length vs → pos 0 ≤ℤ point_of vs x) → vs ≡ map pos (map unsigned_abs vs)
naturals_of [] all = refl
naturals_of (pos n ∷ vs) all = ap (λ zs. pos n ∷ zs) (naturals_of vs (λ x b. all (suc x) (omega arith)))
naturals_of (negsuc n ∷ vs) all = let low = all 0 (omega arith) in absurd (omega (arith, ints))

-- natural values are numbers
pub naturals_from : (vs : List ℤ) → AllByRecursion Value vs → vs ≡ map pos (map unsigned_abs vs)
naturals_from [] each = refl
naturals_from (pos n ∷ vs) each = ap (λ zs. pos n ∷ zs) (naturals_from vs each.1)
naturals_from (negsuc n ∷ vs) each = let low = each.0.natural in absurd (omega (arith, ints))

pub points : (ns : List ℕ) (x : ℕ) → point_of (map pos ns) x ≡ pos (slice_index ns x)
points [] zero = refl
points [] (suc x) = refl
points (n ∷ ns) zero = refl
points (n ∷ ns) (suc x) = points ns x

-- the numbers of a system's script are below 2^127
part_fits : (side : Side) (z : ℤ) → InRange z → part side z < 2 ^ 127
part_fits Left (pos n) fits = fits
part_fits Left (negsuc n) fits = omega arith
part_fits Right (pos n) fits = omega arith
part_fits Right (negsuc n) fits = fits

multiple_fits : (b c : Bool) (f k : ℕ) → f < 2 ^ 127 → k < 2 ^ 127 → AllByRecursion SummandFits (cond b [] (cond c (Unknown k ∷ []) (Product f k ∷ [])))
multiple_fits true c f k low small = tt
multiple_fits false true f k low small = (small, tt)
multiple_fits false false f k low small = ((low, small), tt)

constant_fits : (b : Bool) (v : ℕ) → v < 2 ^ 127 → AllByRecursion SummandFits (cond b [] (Numeral v ∷ []))
constant_fits true v low = tt
constant_fits false v low = (low, tt)

sum_fits : (ss : List Summand) → AllByRecursion SummandFits ss → TermFits (summed_term ss)
sum_fits [] each = lit< tt
sum_fits (s ∷ []) each = each.0
sum_fits (s ∷ t ∷ ss) each = each

terms_fit : (side : Side) (low n : ℕ) (ts : List (ℕ × ℤ)) → n ≤ 2 ^ 32 → IsNormal low n ts → AllByRecursion SummandFits (flat_map (on_side side) ts)
terms_fit side low n [] few normal = tt
terms_fit side low n (t ∷ ts) few normal =
    let below = IsNormal-le (t.0 + 1) n ts normal.2 in
    let small : 2 ^ 32 < 2 ^ 127 = lit< tt in
    each_append SummandFits (on_side side t) (flat_map (on_side side) ts)
    (multiple_fits (eqb (part side t.1) 0) (eqb (part side t.1) 1) (part side t.1) t.0 (part_fits side t.1 normal.1.in_range) (omega arith))
    (terms_fit side (t.0 + 1) n ts few normal.2)

side_fits : (side : Side) (n : ℕ) (form : Form) → n ≤ 2 ^ 32 → IsNormal 0 n form.terms → TermFits (summed_term (summands side form))
side_fits side n form few normal =
    sum_fits (summands side form)
    (each_append SummandFits (flat_map (on_side side) form.terms) (constant (part side form.constant)) (terms_fit side 0 n form.terms few normal)
    (constant_fits (eqb (part side form.constant) 0) (part side form.constant) (part_fits side form.constant form.constant_fits)))

rows_fit : (n : ℕ) (rows : List Row) → n ≤ 2 ^ 32 → AllBelow n rows → AllByRecursion (λ (c : AtLeast). TermFits c.left × TermFits c.right) (map row_claim rows)
rows_fit n [] few below = tt
rows_fit n (r ∷ rs) few below = ((side_fits Left n r.form few below.0, side_fits Right n r.form few below.0), rows_fit n rs few below.1)

naturals_fit : (k n : ℕ) → k + n ≤ 2 ^ 32 → AllByRecursion (λ (c : AtLeast). TermFits c.left × TermFits c.right) (map natural_claim (range_with_len k n))
naturals_fit k zero few = tt
naturals_fit k (suc n) few =
    let small : 2 ^ 32 < 2 ^ 127 = lit< tt in
    let least : k < 2 ^ 127 = omega arith in
    ((least, lit< tt), naturals_fit (k + 1) n (omega arith))

script_fits : (system : System) → system.unknowns ≤ 2 ^ 32 → ScriptFits (script_of system)
script_fits system few =
    each_append (λ (c : AtLeast). TermFits c.left × TermFits c.right) (map natural_claim (range_with_len 0 system.unknowns)) (map row_claim system.rows)
    (naturals_fit 0 system.unknowns (omega arith)) (rows_fit system.unknowns system.rows few system.within)

-- what a system's script says of values that it counts
solution_is : (system : System) (values : List ℤ) → length values ≡ system.unknowns
    → AllByRecursion (AtLeastHolds (point_of values)) (script_of system).asserted → IsNaturalSolution system values
solution_is system values count each =
    let first = each_front (AtLeastHolds (point_of values)) (map natural_claim (range_with_len 0 system.unknowns)) (map row_claim system.rows) each in
    let rest = each_back (AtLeastHolds (point_of values)) (map natural_claim (range_with_len 0 system.unknowns)) (map row_claim system.rows) each in
    let naturals = map unsigned_abs values in
    let are : values ≡ map pos naturals = naturals_of values (λ x b. naturals_hold (point_of values) 0 system.unknowns first x (omega arith) (omega arith)) in
    let same : (x : ℕ) → point_of values x ≡ pos (slice_index naturals x) = λ x. ap (λ zs. point_of zs x) are ∙ points naturals x in
    record {
      naturals = naturals;
      are = are;
      solve = record {
        count = length-map values unsigned_abs
            ∙ count;
        rows_hold = rows_hold (point_of values) (λ x. pos (slice_index naturals x)) same system.rows rest;
      };
    }

solution_says : (system : System) (values : List ℤ) → IsNaturalSolution system values → (length values ≡ system.unknowns)
    × AllByRecursion (AtLeastHolds (point_of values)) (script_of system).asserted
solution_says system values is =
    let same : (x : ℕ) → pos (slice_index is.naturals x) ≡ point_of values x = λ x. sym (ap (λ zs. point_of zs x) is.are ∙ points is.naturals x) in
    let low : (x : ℕ) → pos 0 ≤ℤ point_of values x = λ x. subst (λ z. pos 0 ≤ℤ z) (same x) (omega (arith, ints)) in (
      ap length is.are ∙ length-map is.naturals pos ∙ is.solve.count,
      each_append (AtLeastHolds (point_of values)) (map natural_claim (range_with_len 0 system.unknowns)) (map row_claim system.rows)
          (naturals_claim (point_of values) 0 system.unknowns low)
          (rows_claim (λ x. pos (slice_index is.naturals x)) (point_of values) same system.rows is.solve.rows_hold),
    )

-- the text of a system denotes just its natural solutions
pub denotes_solutions : (system : System) (text : List ℕ) → system.unknowns ≤ 2 ^ 32 → text ≡ system_text system → DenotesSolutions system text
denotes_solutions system text few is values = (
  λ (d : Denotes text values).
      let same : d.script ≡ script_of system = script_same d.script (script_of system) d.fits (script_fits system few) (sym d.spelled ∙ is) in
      solution_is system values (d.count ∙ ap (λ (s : Script). s.unknowns) same)
      (subst (λ (s : Script). AllByRecursion (AtLeastHolds (point_of values)) s.asserted) same d.hold),
  λ (s : IsNaturalSolution system values).
      let says = solution_says system values s in
      record { script = script_of system; fits = script_fits system few; spelled = is; count = says.0; hold = says.1 },
)
