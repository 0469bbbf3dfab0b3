-- what is known of verdicts as they are made and counted
use Rattle.ta_verdict.proofs.Common.{◌≡◌, ℕ, zero, suc, ◌+◌, ◌<◌, ◌≤◌, List, [], ◌∷◌, ◌++◌, length, map, reverse, take, arith, refl, sym, ap, subst, ◌∙◌, Some}
use Rattle.ta_verdict.proofs.Common.{slice_get, length-take-le, take_all, take_next, same_Some, slice_get_within, some_at, File, Pattern, Pick, entry_of}
use Rattle.ta_verdict.proofs.Common.{entry_picked, entry_place, first_picked, picked, picked_there, LoopsPure, pair_of, Node, Order, OfPattern, Pending}
use Rattle.ta_verdict.proofs.Common.{Solution, PlaceKind, IsSpent, NodeOf, SolutionAt, TreeIs, leaf_count, FoundOrders, orders_sound, refuted_hold, ReportKind}
use Rattle.ta_verdict.proofs.Common.{Verdict, IsSolution, pattern_search, EachHolds, IsOutOfRangeIn, Question, SafeHolds, SpentHolds, UnderOrders}
use Rattle.ta_verdict.proofs.Common.{VerdictAnswers, safety_question, node_with, place_of, Err, IfOk, Ok, Result, AllocError, Safe as ClaimSafe, Overflow}
use Rattle.ta_verdict.proofs.Common.{IsNarrow, Good}
use Rattle.ta_words.proofs.Counts.{legal_under}
use Rattle.ta_walk.specs.Visit.{IsOutOfRangeAt}
use Rattle.ta_walk.proofs.SpentSplits.{spent_split}
use Rattle.ta_walk.proofs.WordsSolved.{found_solved}
use Rattle.ta_report.specs.declared.verdict.ReportKind.TheVariants as kind

-- a fact under the pairs of the orders that are found
pub under : (file : File) (fact : List (ℕ × ℕ) → Type 0) (orders : List Order) (pairs : List (ℕ × ℕ)) → FoundOrders file.automaton orders
    → pairs ≡ map pair_of orders → fact pairs → UnderOrders file fact
under file fact orders pairs found same holds = record { orders = orders; found = found; holds = subst fact same holds }

-- a refuted pattern is safe
pub safe_holds : (file : File) (number : ℕ) (p : Pattern) → slice_get file.patterns number ≡ Some p → IsNarrow file.automaton
    → LoopsPure file.automaton → (orders : List Order) (pairs : List (ℕ × ℕ)) → FoundOrders file.automaton orders → pairs ≡ map pair_of orders
    → (budget : ℕ) → budget ≤ 1000000000
    → (tree : List Node) (nodes leaves : ℕ) → TreeIs (pattern_search file.automaton p pairs) budget tree nodes → leaves ≡ leaf_count tree
    → UnderOrders file (λ ps. SafeHolds (safety_question file ps p) budget nodes leaves)
safe_holds file number p at narrow loops orders pairs found same budget within tree nodes leaves is counted =
    let good = subst (Good file.automaton) (sym same) (orders_sound file.automaton orders found).good in
    let holds = refuted_hold ClaimSafe file number p at narrow tt loops pairs good budget within tree nodes is in
    under file (λ ps. SafeHolds (safety_question file ps p) budget nodes leaves) orders pairs found same
    (record { safe = holds.1; tree = tree; is = is; counted = counted; proof = λ _. holds.0 })

-- a budget that is spent
pub spent_holds : (file : File) (pairs : List (ℕ × ℕ)) (p : Pattern) (budget nodes : ℕ) → IsSpent (pattern_search file.automaton p pairs) budget nodes
    → SpentHolds (safety_question file pairs p) budget nodes
spent_holds file pairs p budget nodes spent = record { is = spent; split = λ most. spent_split file.automaton p pairs budget nodes most spent }

-- what a walk finds is a solution
pub solution_is : (file : File) (number : ℕ) (p : Pattern) → slice_get file.patterns number ≡ Some p
    → (pairs : List (ℕ × ℕ)) (budget nodes : ℕ) (solution : Solution)
    → NodeOf (pattern_search file.automaton p pairs) budget nodes (SolutionAt (pattern_search file.automaton p pairs) number solution)
    → IsSolution file solution
solution_is file number p at pairs budget nodes solution found =
    let solved = found_solved file.automaton p pairs number budget nodes solution found in
    record {
      pattern = p;
      named = ap (slice_get file.patterns) found.holds.pattern ∙ at;
      values = solved.0;
      are = solved.1;
      solved = record {
        legal = legal_under file.automaton p pairs solution.start_mask (reverse solution.word) solved.3.legal;
        complete = solved.3.complete;
        solves = solved.3.solves;
      };
    }

pub solution_found : (file : File) (number : ℕ) → number < length file.patterns → (pairs : List (ℕ × ℕ)) (budget nodes : ℕ) (solution : Solution)
    → OfPattern file number (λ p. NodeOf (pattern_search file.automaton p pairs) budget nodes
    (SolutionAt (pattern_search file.automaton p pairs) number solution)) → IsSolution file solution
solution_found file number within pairs budget nodes solution found =
    let at = some_at file.patterns number within in
    solution_is file number at.0 at.1 pairs budget nodes solution (found at.0 at.1)

-- where a walk says that a number leaves the range, it does
out_of_range_in :
    {E S : Type 0} (q : Question E S) (number : ℕ) (k : PlaceKind) (r : ReportKind) (w : Pending E) → place_of r ≡ k → IsOutOfRangeAt q.search w k
    → IsOutOfRangeIn q number r w
out_of_range_in q number k (kind.Pivot pivot) w same leaves = subst (IsOutOfRangeAt q.search w) (sym same) leaves
out_of_range_in q number k kind.Leaf w same leaves = subst (IsOutOfRangeAt q.search w) (sym same) leaves
out_of_range_in q number k kind.Run w same leaves = absurd (subst (IsOutOfRangeAt q.search w) (sym same) leaves)

pub overflow_holds :
    {E S : Type 0} (q : Question E S) (number budget node : ℕ) (k : PlaceKind) (r : ReportKind) → place_of r ≡ k
    → NodeOf q.search budget node (λ w. IsOutOfRangeAt q.search w k) → VerdictAnswers q budget number (Overflow node r)
overflow_holds q number budget node k r same found =
    node_with q.search budget node (λ w. IsOutOfRangeAt q.search w k) (IsOutOfRangeIn q number r) found
    (out_of_range_in q number k r found.word same found.holds)

-- the solution of the first whole node has a run whose replay leaves the range
pub run_leaves :
    {E S : Type 0} (q : Question E S) (number budget node : ℕ) (solution : S) → NodeOf q.search budget node (q.at number solution) → q.leaves solution
    → VerdictAnswers q budget number (Overflow node kind.Run)
run_leaves q number budget node solution found leaves =
    node_with q.search budget node (q.at number solution) (IsOutOfRangeIn q number kind.Run) found
    (record { solution = solution; whole = found.holds; run = leaves })

-- what is said of each pattern of a number is said of the verdict on it
pub said_of : (file : File) (number : ℕ) (r : Result Verdict AllocError) (P : Pattern → Verdict → Type 0) → OfPattern file number (λ p. IfOk r (P p))
    → IfOk r (λ v. OfPattern file number (λ p. P p v))
said_of file number (Ok v) P h = h
said_of file number (Err e) P h = tt

-- one more verdict at the end
pub holds_more : (Fact : ℕ → Pattern → Verdict → Type 0) (number : ℕ) (ps : List Pattern) (vs : List Verdict) (p : Pattern) (v : Verdict)
    → EachHolds Fact number ps vs → Fact (number + length ps) p v → EachHolds Fact number (ps ++ p ∷ []) (vs ++ v ∷ [])
holds_more Fact number [] [] p v hold here = (subst (λ (k : ℕ). Fact k p v) (omega arith) here, tt)
holds_more Fact number [] (w ∷ vs) p v hold here = absurd hold
holds_more Fact number (q ∷ ps) [] p v hold here = absurd hold
holds_more Fact number (q ∷ ps) (w ∷ vs) p v hold here =
    let same : number + length (q ∷ ps) ≡ (number + 1) + length ps = omega arith in
    (hold.0, holds_more Fact (number + 1) ps vs p v hold.1 (subst (λ (k : ℕ). Fact k p v) same here))

-- there is a verdict for each pattern
pub as_many : (Fact : ℕ → Pattern → Verdict → Type 0) (number : ℕ) (ps : List Pattern) (vs : List Verdict) → EachHolds Fact number ps vs → length vs ≡ length ps
as_many Fact number [] [] hold = refl
as_many Fact number [] (v ∷ vs) hold = absurd hold
as_many Fact number (p ∷ ps) [] hold = absurd hold
as_many Fact number (p ∷ ps) (v ∷ vs) hold = ap suc (as_many Fact (number + 1) ps vs hold.1)

-- the verdict of a number is one on the pattern of the number
pub held_at : (Fact : ℕ → Pattern → Verdict → Type 0) (number : ℕ) (ps : List Pattern) (vs : List Verdict) → EachHolds Fact number ps vs
    → (k : ℕ) (p : Pattern) (v : Verdict) → slice_get ps k ≡ Some p → slice_get vs k ≡ Some v → Fact (number + k) p v
held_at Fact number [] vs hold k p v named said = absurd (cc)
held_at Fact number (q ∷ ps) [] hold k p v named said = absurd (cc)
held_at Fact number (q ∷ ps) (w ∷ vs) hold zero p v named said =
    subst (λ n. Fact n p v) (let here : number ≡ number + 0 = omega arith in here)
    (subst (λ o. Fact number o v) (same_Some q p named) (subst (Fact number q) (same_Some w v said) hold.0))
held_at Fact number (q ∷ ps) (w ∷ vs) hold (suc k) p v named said =
    subst (λ n. Fact n p v) (let there : (number + 1) + k ≡ number + suc k = omega arith in there) (held_at Fact (number + 1) ps vs hold.1 k p v named said)

pub held : (Fact : ℕ → Pattern → Verdict → Type 0) (ps : List Pattern) (vs : List Verdict) → EachHolds Fact 0 ps vs → (k : ℕ) (p : Pattern) (v : Verdict)
    → slice_get ps k ≡ Some p → slice_get vs k ≡ Some v → Fact k p v
held Fact ps vs hold k p v named said = let here : 0 + k ≡ k = omega arith in subst (λ n. Fact n p v) here (held_at Fact 0 ps vs hold k p v named said)

-- where verdicts are on picked patterns, the verdict at a place is one on the picked pattern there
pub held_by :
    (Fact : ℕ → Pattern → Verdict → Type 0) (pick : Pick) (ps : List Pattern) (vs : List Verdict) → EachHolds Fact (first_picked pick) (picked pick ps) vs
    → (place : ℕ) (v : Verdict) → slice_get vs place ≡ Some v
    → (p : Pattern) × (slice_get (picked pick ps) place ≡ Some p) × (slice_get ps (first_picked pick + place) ≡ Some p) × Fact (first_picked pick + place) p v
held_by Fact pick ps vs hold place v said =
    let qs = picked pick ps in
    let at = some_at qs place (omega (arith, slice_get_within vs place v said, as_many Fact (first_picked pick) qs vs hold)) in
    (at.0, at.1, picked_there pick ps place at.0 at.1, held_at Fact (first_picked pick) qs vs hold place at.0 v at.1 said)

-- the entry for a number is a verdict on the pattern with this number
pub held_number :
    (Fact : ℕ → Pattern → Verdict → Type 0) (pick : Pick) (ps : List Pattern) (vs : List Verdict) → EachHolds Fact (first_picked pick) (picked pick ps) vs
    → (number : ℕ) (v : Verdict) → entry_of pick vs number ≡ Some v → (p : Pattern) × (slice_get ps number ≡ Some p) × Fact number p v
held_number Fact pick ps vs hold number v said =
    let here = entry_place pick vs number v said in
    let by = held_by Fact pick ps vs hold here.0 v here.1 in
    (by.0, subst (λ (n : ℕ). slice_get ps n ≡ Some by.0) here.2 by.2, subst (λ (n : ℕ). Fact n by.0 v) here.2 by.3)

-- the entry for a pattern is a verdict on it
pub held_entry :
    (Fact : ℕ → Pattern → Verdict → Type 0) (pick : Pick) (ps : List Pattern) (vs : List Verdict) → EachHolds Fact (first_picked pick) (picked pick ps) vs
    → (number : ℕ) (p : Pattern) (v : Verdict) → slice_get ps number ≡ Some p → entry_of pick vs number ≡ Some v → Fact number p v
held_entry Fact pick ps vs hold number p v at said =
    let here = entry_picked pick ps vs number p v at said in
    subst (λ (n : ℕ). Fact n p v) here.number_is (held_at Fact (first_picked pick) (picked pick ps) vs hold here.place p v here.item here.entry)

-- what follows from a fact of each holds of each
pub holds_weaker : (Fact Other : ℕ → Pattern → Verdict → Type 0) (number : ℕ) (ps : List Pattern) (vs : List Verdict)
    → ((k : ℕ) (p : Pattern) (v : Verdict) → Fact k p v → Other k p v) → EachHolds Fact number ps vs → EachHolds Other number ps vs
holds_weaker Fact Other number [] [] gives hold = tt
holds_weaker Fact Other number [] (v ∷ vs) gives hold = absurd hold
holds_weaker Fact Other number (p ∷ ps) [] gives hold = absurd hold
holds_weaker Fact Other number (p ∷ ps) (v ∷ vs) gives hold = (gives number p v hold.0, holds_weaker Fact Other (number + 1) ps vs gives hold.1)

-- a fact of the verdicts on so many of these patterns, of which the first has this number
pub record SoFar (Fact : ℕ → Pattern → Verdict → Type 0) (first : ℕ) (patterns : List Pattern) (done : ℕ) (vs : List Verdict) : Type 0 where
  pub within : done ≤ length patterns
  pub hold : EachHolds Fact first (take done patterns) vs

pub one_more : (Fact : ℕ → Pattern → Verdict → Type 0) (first : ℕ) (patterns : List Pattern) (done : ℕ) (vs : List Verdict) (v : Verdict)
    → SoFar Fact first patterns done vs → done < length patterns → ((p : Pattern) → slice_get patterns done ≡ Some p → Fact (first + done) p v)
    → SoFar Fact first patterns (done + 1) (vs ++ v ∷ [])
one_more Fact first patterns done vs v so below here =
    let at = some_at patterns done below in
    let p = at.0 in
    let long = length-take-le done patterns so.within in
    let number : first + done ≡ first + length (take done patterns) = ap (λ (k : ℕ). first + k) (sym long) in
    record {
      within = omega arith;
      hold = subst (λ (ps : List Pattern). EachHolds Fact first ps (vs ++ v ∷ [])) (sym (take_next patterns done p at.1))
          (holds_more Fact first (take done patterns) vs p v so.hold (subst (λ (k : ℕ). Fact k p v) number (here p at.1)));
    }

-- there are as many verdicts
pub so_many : (Fact : ℕ → Pattern → Verdict → Type 0) (first : ℕ) (patterns : List Pattern) (done : ℕ) (vs : List Verdict) → SoFar Fact first patterns done vs
    → length vs ≡ done
so_many Fact first patterns done vs so = as_many Fact first (take done patterns) vs so.hold ∙ length-take-le done patterns so.within

-- the verdicts on all of them
pub all_hold : (Fact : ℕ → Pattern → Verdict → Type 0) (first : ℕ) (patterns : List Pattern) (done : ℕ) (vs : List Verdict) → length patterns ≤ done
    → SoFar Fact first patterns done vs → EachHolds Fact first patterns vs
all_hold Fact first patterns done vs all so =
    subst (λ (ps : List Pattern). EachHolds Fact first ps vs) (take_all done patterns all) so.hold
