-- moments on demand are a search
use Rattle.ta_moments.proofs.Common.{◌≡◌, inl, inr, ℕ, zero, suc, ◌+◌, ◌<◌, ◌≤◌, ℤ, pos, ◌≤ℤ◌, ◌<ℤ◌, Bool, true, false, cond, List, [], ◌∷◌, ◌++◌, map, length}
use Rattle.ta_moments.proofs.Common.{slice_get, Option, Some, None, arith, sym, ap, ◌∙◌, refl, subst, false≢true, and_from, and_parts, cases_lt, AllByRecursion}
use Rattle.ta_moments.proofs.Common.{range_with_len, In, Automaton, Pattern, Bound, bound_row, LinearRow, UnknownForm, Question, OfGuard, OfOrder, OfStuck}
use Rattle.ta_moments.proofs.Common.{Fact, candidates, Known, Asking, Node, form_coefficient_in, form_constant_in, form_of_row, nat_lt, ◌&&◌, nat_tests}
use Rattle.ta_moments.proofs.Common.{AreMultipliers, Pending, IsLeaf, is_open, LeafOfForms, Speaks, Exists, answered, answers, known_at, node_rows, Line}
use Rattle.ta_moments.proofs.Common.{OfLeaf, OfSplit, OfAsk, RefutedInOrder, AreListed, Maker, moment_search, node_in, pending_of}
use Rattle.std.specs.Prelude.{◌↔◌, slice_index_or}
use Rattle.std.specs.Option.{is_some}
use Rattle.ta_linear.specs.Leaf.{weighted}
use Rattle.ta_encode.specs.Search.{Search, all_or_none, longer, parts as parts_in}
use Rattle.ta_encode.specs.Refutes.{LeafOfRows, linear_coefficient_in, linear_constant_in}
use Rattle.ta_encode.specs.InPreorder.{MayStand as StandsIn, RefutedInOrder as NodesRefute}
use Rattle.ta_encode.proofs.CodeRows.{weighted_same}
use Rattle.ta_moments.specs.Moments.{known}
use Rattle.ta_moments.specs.InPreorder.{MayStand, parts}
use Rattle.ta_moments.specs.Searched.{MomentsAreASearch, answers_if_open, candidate_of, exists_as}
use Rattle.ta_moments.specs.Searched.{row_of_form, start_of}
use Rattle.ta_moments.proofs.Speaking.{rows_speak}

-- ---- rows
coefficient_within : (g : ℕ → ℤ) (k n u : ℕ) → u < n → slice_index_or (map g (range_with_len k n)) u (pos 0) ≡ g (k + u)
coefficient_within g k zero u below = absurd (omega arith)
coefficient_within g k (suc n) zero below = ap g (let e : k ≡ k + 0 = omega arith in e)
coefficient_within g k (suc n) (suc u) below = coefficient_within g (k + 1) n u (omega arith) ∙ ap g (let e : (k + 1) + u ≡ k + suc u = omega arith in e)

coefficient_beyond : (g : ℕ → ℤ) (k n u : ℕ) → n ≤ u → slice_index_or (map g (range_with_len k n)) u (pos 0) ≡ pos 0
coefficient_beyond g k zero u beyond = refl
coefficient_beyond g k (suc n) zero beyond = absurd (omega arith)
coefficient_beyond g k (suc n) (suc u) beyond = coefficient_beyond g (k + 1) n u (omega arith)

coefficient_same : (n u : ℕ) (f : UnknownForm) → Speaks n f → slice_index_or (row_of_form n f).coefficients u (pos 0) ≡ f.coefficient u
coefficient_same n u f speaks = elim (cases_lt u n) [
  | inl below ↦ coefficient_within f.coefficient 0 n u below ∙ ap f.coefficient (let e : 0 + u ≡ u = omega arith in e)
  | inr beyond ↦ coefficient_beyond f.coefficient 0 n u beyond ∙ sym (speaks u beyond)
]

same_bounds : (g : Option LinearRow → ℤ) (h : Option UnknownForm → ℤ) → g None ≡ h None → ((row : LinearRow) → g (Some row) ≡ h (Some (form_of_row row)))
    → (bounds : List Bound) (k : ℕ) → g (slice_get (map bound_row bounds) k) ≡ h (slice_get (map (λ b. form_of_row (bound_row b)) bounds) k)
same_bounds g h none some [] k = none
same_bounds g h none some (b ∷ bounds) zero = some (bound_row b)
same_bounds g h none some (b ∷ bounds) (suc k) = same_bounds g h none some bounds k

all_same : (g : Option LinearRow → ℤ) (h : Option UnknownForm → ℤ) → g None ≡ h None → (n : ℕ)
    → ((f : UnknownForm) → Speaks n f → g (Some (row_of_form n f)) ≡ h (Some f)) → ((row : LinearRow) → g (Some row) ≡ h (Some (form_of_row row)))
    → (fs : List UnknownForm) → AllByRecursion (Speaks n) fs → (bounds : List Bound) (k : ℕ)
    → g (slice_get (map (row_of_form n) fs ++ map bound_row bounds) k) ≡ h (slice_get (fs ++ map (λ b. form_of_row (bound_row b)) bounds) k)
all_same g h none n some each [] speak bounds k = same_bounds g h none each bounds k
all_same g h none n some each (f ∷ fs) speak bounds zero = some f speak.0
all_same g h none n some each (f ∷ fs) speak bounds (suc k) = all_same g h none n some each fs speak.1 bounds k

same_count : (n : ℕ) (fs : List UnknownForm) (bounds : List Bound)
    → length (map (row_of_form n) fs ++ map bound_row bounds) ≡ length (fs ++ map (λ b. form_of_row (bound_row b)) bounds)
same_count n [] [] = refl
same_count n [] (b ∷ bounds) = ap suc (same_count n [] bounds)
same_count n (f ∷ fs) bounds = ap suc (same_count n fs bounds)

-- the rows of what is known, with bounds
abbrev rows_of : Known → List Bound → List LinearRow
rows_of k bounds = map (row_of_form k.unknowns) k.rows ++ map bound_row bounds

abbrev forms_of : Known → List Bound → List UnknownForm
forms_of k bounds = k.rows ++ map (λ b. form_of_row (bound_row b)) bounds

leaf_known : (k : Known) → AllByRecursion (Speaks k.unknowns) k.rows → (bounds : List Bound) (ts : List (ℕ × ℤ)) → LeafOfRows (rows_of k bounds) ts
    ↔ LeafOfForms (forms_of k bounds) ts
leaf_known k speak bounds ts =
    let rows = rows_of k bounds in
    let forms = forms_of k bounds in
    let many : length rows ≡ length forms = same_count k.unknowns k.rows bounds in
    let column : (u : ℕ) → weighted (linear_coefficient_in u) rows ts ≡ weighted (form_coefficient_in u) forms ts = λ u. weighted_same (linear_coefficient_in u)
    (form_coefficient_in u) rows forms ts
    (all_same (linear_coefficient_in u) (form_coefficient_in u) refl k.unknowns (λ f s. coefficient_same k.unknowns u f s) (λ row. refl) k.rows speak
    bounds) in
    let constant : weighted linear_constant_in rows ts ≡ weighted form_constant_in forms ts = weighted_same linear_constant_in form_constant_in rows forms ts
    (all_same linear_constant_in form_constant_in refl k.unknowns (λ f s. refl) (λ row. refl) k.rows speak bounds) in (
      λ leaf. record {
        multipliers = subst (λ (n : ℕ). AreMultipliers 0 n ts) many leaf.multipliers;
        none_positive = λ u. subst (λ (z : ℤ). z ≤ℤ pos 0) (column u) (leaf.none_positive u);
        negative = subst (λ (z : ℤ). z <ℤ pos 0) constant leaf.negative;
      },
      λ leaf. record {
        multipliers = subst (λ (n : ℕ). AreMultipliers 0 n ts) (sym many) leaf.multipliers;
        none_positive = λ u. subst (λ (z : ℤ). z ≤ℤ pos 0) (sym (column u)) (leaf.none_positive u);
        negative = subst (λ (z : ℤ). z <ℤ pos 0) (sym constant) leaf.negative;
      },
    )

-- ---- questions
if_some : {X : Type 0} (b : Bool) (x : X) → is_some (cond b (Some x) None) ≡ true ↔ (b ≡ true)
if_some true x = (λ h. refl, λ h. refl)
if_some false x = (λ h. absurd (false≢true h), λ h. absurd (false≢true h))

pub exists_same : (a : Automaton) (p : Pattern) (asking : Asking) (k : Known) (question : Question) → (exists_as a p asking k question ≡ true)
    ↔ Exists a p asking k question
exists_same a p asking k (OfGuard g) = (λ h. grind (arith, nat_tests), λ h. grind (arith, nat_tests))
exists_same a p asking k (OfOrder x y) = (
  λ h. let both = and_parts (nat_lt x y) (nat_lt y (length k.moments)) h in let first = both.0 in let second = both.1 in
      (grind (arith, nat_tests), grind (arith, nat_tests)),
  λ h. let first : nat_lt x y ≡ true = (let less = h.0 in grind (arith, nat_tests)) in
      let second : nat_lt y (length k.moments) ≡ true = (let less = h.1 in grind (arith, nat_tests)) in and_from (nat_lt x y) (nat_lt y (length k.moments))
      first second,
)
exists_same a p asking k (OfStuck r) = (λ h. and_parts asking.rest _ h, λ h. and_from asking.rest _ h.0 h.1)

may_known : (a : Automaton) (p : Pattern) (asking : Asking) (k : Known) (past : List Fact) (question : Question)
    → (is_some (answers_if_open a p asking k past (Some question)) ≡ true) ↔ ((is_open past question ≡ true) × Exists a p asking k question)
may_known a p asking k past question =
    let test = is_open past question && exists_as a p asking k question in (
      λ h. let both = and_parts (is_open past question) (exists_as a p asking k question) ((if_some test (answers a k question)).0 h) in
          (both.0, (exists_same a p asking k question).0 both.1),
      λ h. (if_some test (answers a k question)).1
          (and_from (is_open past question) (exists_as a p asking k question) h.0 ((exists_same a p asking k question).1 h.1)),
    )

answers_known : (a : Automaton) (p : Pattern) (asking : Asking) (k : Known) (past : List Fact) (question : Question) → (is_open past question ≡ true)
    × Exists a p asking k question → all_or_none (answers_if_open a p asking k past (Some question)) ≡ answers a k question
answers_known a p asking k past question h =
    let test : (is_open past question && exists_as a p asking k question) ≡ true = and_from (is_open past question) (exists_as a p asking k question) h.0
    ((exists_same a p asking k question).1 h.1) in
    ap (λ (b : Bool). all_or_none (cond b (Some (answers a k question)) None)) test

-- ---- nodes
back : (c : Option ℕ) → candidate_of (start_of c) ≡ c
back None = refl
back (Some e) = refl

longer_same : (n : Node) (facts : List Fact) → map (longer (pending_of n)) facts ≡ map pending_of (map (answered n) facts)
longer_same n [] = refl
longer_same n (f ∷ facts) = ap (λ (ws : List (Pending Fact)). pending_of (answered n f) ∷ ws) (longer_same n facts)

map_both : (ns ms : List Node) → map pending_of (ns ++ ms) ≡ map pending_of ns ++ map pending_of ms
map_both [] ms = refl
map_both (n ∷ ns) ms = ap (λ (ws : List (Pending Fact)). pending_of n ∷ ws) (map_both ns ms)

listed_both : (p : Pattern) (ns ms : List Node) → AreListed p ns → AreListed p ms → AreListed p (ns ++ ms)
listed_both p [] ms one other = other
listed_both p (n ∷ ns) ms one other = (one.0, listed_both p ns ms one.1 other)

listed_answers : (p : Pattern) (n : Node) (facts : List Fact) → In n.candidate (candidates p) → AreListed p (map (answered n) facts)
listed_answers p n [] listed = tt
listed_answers p n (f ∷ facts) listed = (listed, listed_answers p n facts listed)

listed_parts : (a : Automaton) (p : Pattern) (asking : Asking) (n : Node) (l : Line) → In n.candidate (candidates p) → AreListed p (parts a p asking n l)
listed_parts a p asking n (OfLeaf ts) listed = tt
listed_parts a p asking n (OfSplit unknown floor) listed = (listed, (listed, tt))
listed_parts a p asking n (OfAsk question) listed = listed_answers p n (answers a (known_at a p asking n) question) listed

module _ (a : Automaton) (p : Pattern) (asking : Asking) (question : Maker) where
  abbrev search : Search Fact
  search = moment_search a p asking question

  asks : (n : Node) (q : Question) → ((is_open n.past q ≡ true) × Exists a p asking (known_at a p asking n) q)
      ↔ (is_some (answers_if_open a p asking (known a p asking.silent (candidate_of (start_of n.candidate)) n.past) n.past (Some q)) ≡ true)
  asks n q =
      subst (λ (c : Option ℕ). ((is_open n.past q ≡ true) × Exists a p asking (known_at a p asking n) q)
      ↔ (is_some (answers_if_open a p asking (known a p asking.silent c n.past) n.past (Some q)) ≡ true)) (sym (back n.candidate))
      (let same = may_known a p asking (known_at a p asking n) n.past q in (same.1, same.0))

  leaves : (n : Node) (q : Question) → (is_open n.past q ≡ true) × Exists a p asking (known_at a p asking n) q
      → map pending_of (map (answered n) (answers a (known_at a p asking n) q)) ≡ map (longer (pending_of n))
      (all_or_none (answers_if_open a p asking (known a p asking.silent (candidate_of (start_of n.candidate)) n.past) n.past (Some q)))
  leaves n q may =
      sym (longer_same n (answers a (known_at a p asking n) q))
      ∙ ap (map (longer (pending_of n))) (sym (answers_known a p asking (known_at a p asking n) n.past q may))
      ∙ ap (λ (c : Option ℕ). map (longer (pending_of n)) (all_or_none (answers_if_open a p asking (known a p asking.silent c n.past) n.past (Some q))))
      (sym (back n.candidate))

  stand_same : (n : Node) (l : Line) → In n.candidate (candidates p) → MayStand a p asking n l ↔ StandsIn search (IsLeaf search) (pending_of n) (node_in l)
  stand_same n (OfLeaf ts) listed =
      subst (λ (c : Option ℕ). LeafOfForms (node_rows a p asking n) ts ↔ LeafOfRows (rows_of (known a p asking.silent c n.past) n.bounds) ts)
      (sym (back n.candidate))
      (let same = leaf_known (known_at a p asking n) (rows_speak a p asking.silent n.candidate listed n.past) n.bounds ts in (same.1, same.0))
  stand_same n (OfSplit unknown floor) listed =
      subst (λ (c : Option ℕ). (unknown < (known_at a p asking n).unknowns) ↔ (unknown < (known a p asking.silent c n.past).unknowns)) (sym (back n.candidate))
      (λ h. h, λ h. h)
  stand_same n (OfAsk (OfGuard g)) listed = asks n (OfGuard g)
  stand_same n (OfAsk (OfOrder x y)) listed = asks n (OfOrder x y)
  stand_same n (OfAsk (OfStuck r)) listed = asks n (OfStuck r)

  parts_same : (n : Node) (l : Line) → MayStand a p asking n l → map pending_of (parts a p asking n l) ≡ parts_in search (pending_of n) (node_in l)
  parts_same n (OfLeaf ts) may = refl
  parts_same n (OfSplit unknown floor) may = refl
  parts_same n (OfAsk (OfGuard g)) may = leaves n (OfGuard g) may
  parts_same n (OfAsk (OfOrder x y)) may = leaves n (OfOrder x y) may
  parts_same n (OfAsk (OfStuck r)) may = leaves n (OfStuck r) may

  in_order : (lines : List Line) (nodes : List Node) → AreListed p nodes → RefutedInOrder a p asking nodes lines
      ↔ NodesRefute search (IsLeaf search) (map pending_of nodes) (map node_in lines)
  in_order [] [] listed = (λ h. refl, λ h. refl)
  in_order [] (n ∷ nodes) listed = (λ h. absurd (cc), λ h. absurd (cc))
  in_order (l ∷ lines) [] listed = (λ h. h, λ h. h)
  in_order (l ∷ lines) (n ∷ nodes) listed =
      let stands = stand_same n l listed.0 in
      let rest = in_order lines (parts a p asking n l ++ nodes) (listed_both p (parts a p asking n l) nodes (listed_parts a p asking n l listed.0) listed.1) in
      let left : MayStand a p asking n l → map pending_of (parts a p asking n l ++ nodes) ≡ parts_in search (pending_of n) (node_in l)
      ++ map pending_of nodes = λ may. map_both (parts a p asking n l) nodes
      ∙ ap (λ (ws : List (Pending Fact)). ws ++ map pending_of nodes) (parts_same n l may) in (
        λ h. (stands.0 h.0, subst (λ (ws : List (Pending Fact)). NodesRefute search (IsLeaf search) ws (map node_in lines)) (left h.0) (rest.0 h.1)),
        λ h. let may = stands.1 h.0 in (
          may,
          rest.1
              (subst (λ (ws : List (Pending Fact)). NodesRefute search (IsLeaf search) ws (map node_in lines)) (sym (left may)) h.1),
        ),
      )

pub are_a_search : MomentsAreASearch
are_a_search a p asking question nodes listed lines = in_order a p asking question lines nodes listed
