-- the values of a whole node solve its word
use Rattle.ta_walk.proofs.Common.{◌≡◌, ◌⊎◌, inl, inr, ℕ, zero, suc, ◌<◌, ◌^◌, ℤ, pos, ◌*ℤ◌, ◌≤ℤ◌, List, [], ◌∷◌, map, length, reverse, slice_get, Option, arith}
use Rattle.ta_walk.proofs.Common.{refl, sym, ap, ◌∙◌, subst, IsSomeAnd, slice_index, *ℤ_comm, ge-zero_of_mul, Element, LegalUnder, is_complete, SolvesWord}
use Rattle.ta_walk.proofs.Common.{solution_of, unbounded, Fraction, whole_vertex_solves, pattern_search, comes_legal, IsWholeNumber, AreNumbers}
use Rattle.ta_walk.proofs.Common.{FoundWordsAreSolved, WholeNodesSolve, ScaledSolve, AreSolution, IsScaled, VertexAt, Pending, Search, None, Some, parts_of}
use Rattle.ta_walk.proofs.Common.{unsigned_abs, children, Extend, Safe}
use Rattle.ta_encode.proofs.Asking.{settled_complete}
use Rattle.ta_base.proofs.Integers.{abs_natural}
use Rattle.ta_walk.proofs.WordsVisited.{starts_wait, left_wait}

-- natural numbers that are the values
record Naturals (values : List Fraction) (numbers : List ℤ) : Type 0 where
  pub naturals : List ℕ
  pub same : numbers ≡ map pos naturals
  pub count : length naturals ≡ length values
  pub are : (x : ℕ) → x < length values → IsSomeAnd (slice_get values x) (λ f. f.top ≡ pos (slice_index naturals x) *ℤ f.bottom)

-- a whole number whose fraction isn't negative is natural
natural : (k : ℤ) (f : Fraction) → IsWholeNumber k f → pos 0 ≤ℤ f.top → (n : ℕ) × (k ≡ pos n)
natural k f is low = (unsigned_abs k, sym (abs_natural k (ge-zero_of_mul f.bottom k f.positive (subst (λ (z : ℤ). pos 0 ≤ℤ z) (is ∙ *ℤ_comm k f.bottom) low))))

naturals : (values : List Fraction) (numbers : List ℤ) → AreNumbers values numbers
    → ((x : ℕ) → x < length values → IsSomeAnd (slice_get values x) (λ f. pos 0 ≤ℤ f.top)) → Naturals values numbers
naturals [] [] are low = record { naturals = []; same = refl; count = refl; are = λ x h. absurd (omega arith) }
naturals [] (k ∷ ks) are low = absurd are
naturals (f ∷ fs) [] are low = absurd are
naturals (f ∷ fs) (k ∷ ks) are low =
    let first = natural k f are.0 (low 0 (omega arith)) in
    let rest = naturals fs ks are.1 (λ x h. low (suc x) (omega arith)) in
    record {
      naturals = first.0 ∷ rest.naturals;
      same = (let e = first.1 in let es = rest.same in cc);
      count = ap suc rest.count;
      are = here first.0 rest.naturals (are.0 ∙ ap (λ z. z *ℤ f.bottom) first.1) rest.are;
    }
  where
    here : (n : ℕ) (ns : List ℕ) → f.top ≡ pos n *ℤ f.bottom
        → ((x : ℕ) → x < length fs → IsSomeAnd (slice_get fs x) (λ f. f.top ≡ pos (slice_index ns x) *ℤ f.bottom)) →
        (x : ℕ) → x < suc (length fs) → IsSomeAnd (slice_get (f ∷ fs) x) (λ f. f.top ≡ pos (slice_index (n ∷ ns) x) *ℤ f.bottom)
    here n ns e more zero h = e
    here n ns e more (suc x) h = more x (omega arith)

-- whole values of a vertex solve its system
numbers_solve : {E : Type 0} (s : Search E) (w : Pending E) (values : List Fraction) (numbers : List ℤ) → VertexAt s w values → AreNumbers values numbers
    → AreSolution s w numbers
numbers_solve s w values numbers vertex are =
    let z = vertex.system in
    let at = vertex.holds in
    let count = at.gives.count in
    let n = naturals values numbers are (λ x h. at.meet.not_negative x (omega arith)) in (
      n.naturals,
      n.same,
      solution_of s w z n.naturals vertex.is (whole_vertex_solves z values n.naturals at.meet (n.count ∙ count) (λ x h. n.are x (omega arith))),
    )

pub whole_solves : {E : Type 0} → WholeNodesSolve E
whole_solves s scaled w numbers whole = of whole.whole
  where
    of : AreNumbers whole.values numbers ⊎ IsScaled s w whole.values numbers → AreSolution s w numbers
    of (inl are) = numbers_solve s w whole.values numbers whole.vertex are
    of (inr is) = scaled w whole.values numbers whole.vertex is.scaled

-- where no whole values are ever taken in place of a vertex's, those that are solve
pub unscaled_solve : {E : Type 0} (s : Search E) → ((w : Pending E) (vs : List (ℤ × ℤ)) → s.scaled w vs ≡ None) → ScaledSolve s
unscaled_solve s none w values numbers vertex is = absurd (apart (s.scaled w (parts_of values)) (none w (parts_of values)) is)
  where
    apart : (o : Option (List ℤ)) → o ≡ None → o ≡ Some numbers → ⊥
    apart o e g = absurd (cc)

pub found_solved : FoundWordsAreSolved
found_solved a p pairs number budget count solution found =
    let s = pattern_search a p pairs in
    let w = found.word in
    let waits = (left_wait s 0 s.roots found.visited.nodes (w ∷ found.visited.words) (starts_wait Safe a p pairs) found.visited.visits).0 in
    let legal = comes_legal a p pairs w.start w.past waits.comes in
    let at = found.holds in
    let solved = whole_solves s (unscaled_solve s (λ v vs. refl)) w solution.values at.whole in
    let solves = unbounded a p pairs w solved.0 solved.2 in
    let start : w.start ≡ solution.start_mask = sym at.start in
    let past : w.past ≡ reverse solution.word = sym at.word in (
      solved.0,
      solved.1,
      subst (λ (k : ℕ). k < 2 ^ length a.fall) start legal.start_is,
      record {
        legal = subst (λ (k : ℕ). LegalUnder a p pairs k (reverse solution.word)) start (subst (LegalUnder a p pairs w.start) past legal.under);
        complete = ap (is_complete p) (sym past) ∙ settled_complete s w.start w.past (is_complete p w.past) (children a p pairs w.start w.past) (λ n. refl)
            (λ may. at.whole.settled Extend refl may);
        solves = subst (λ (k : ℕ). SolvesWord a p k (reverse solution.word) [] solved.0) start
            (subst (λ (q : List Element). SolvesWord a p w.start q [] solved.0) past solves);
      },
    )
