-- what is known of verdicts on runs that come to rest, as they are made
use Rattle.ta_verdict.proofs.Common.{AllocError, IsNarrow, loops_pure}
use Rattle.ta_verdict.proofs.rest.Common.{◌≡◌, ℕ, zero, suc, refl, ◌∙◌, same_Some, ◌<◌, ◌≤◌, List, [], ◌∷◌, length, sym, subst, Some, slice_get, Result, Ok}
use Rattle.ta_verdict.proofs.rest.Common.{Err, IfOk, Automaton, File, Pattern, Node, IsLeaf, Search, Solution, in_order, weaker_proof, IsJudged, Endings}
use Rattle.ta_verdict.proofs.rest.Common.{IsEnding, rest_search, refuted_show, IsRestSolution, Verdict, Safe, Unsafe, Spent, Overflow, come_after, IsSpent}
use Rattle.ta_verdict.proofs.rest.Common.{NodeOf, TreeKept, SolutionAt, IsNotSafe, KeepsSafe, OwnVerdict, some_at, OfPattern, RestFile, pattern_within}
use Rattle.ta_verdict.proofs.rest.Common.{RestSafe as ClaimRestSafe, proof_made, words_within}
use Rattle.ta_rest.specs.Rest.{RestSafe}
use Rattle.ta_walk.proofs.SpentSplits.{split_of_words}
use Rattle.ta_verdict.proofs.rest.RestsSolved.{found_solved}

-- a pattern's ending, by its number
pub record EndingAt (qs : List Pattern) (k : ℕ) (p : Pattern) : Type 0 where
  pub ending : Pattern
  pub named : slice_get qs k ≡ Some ending
  pub is : IsEnding p ending

pub ending_there : (ps qs : List Pattern) → Endings ps qs → (k : ℕ) (p : Pattern) → slice_get ps k ≡ Some p → EndingAt qs k p
ending_there [] qs h k p at = cc
ending_there (x ∷ ps) [] h k p at = absurd h
ending_there (x ∷ ps) (y ∷ qs) h zero p at = let same : x ≡ p = cc in record { ending = y; named = refl; is = subst (λ (o : Pattern). IsEnding o y) same h.0 }
ending_there (x ∷ ps) (y ∷ qs) h (suc k) p at = let there = ending_there ps qs h.1 k p at in record
    { ending = there.ending; named = there.named; is = there.is }

pub ending_of_own : (ps qs : List Pattern) → Endings ps qs → (k : ℕ) (own q : Pattern) → slice_get ps k ≡ Some own → slice_get qs k ≡ Some q → IsEnding own q
ending_of_own ps qs h k own q at there = let ending = ending_there ps qs h k own at in subst (IsEnding own)
    (same_Some ending.ending q (sym ending.named ∙ there)) ending.is

-- a tree that refutes the words of rest of a pattern's ending
pub safe_verdict : (rest : RestFile) (budget number : ℕ) (p : Pattern) (Keeps : List Node → Type 0) (nodes leaves : ℕ)
    → slice_get rest.ending.file.patterns number ≡ Some p → IsNarrow rest.ending.file.automaton → budget ≤ 1000000000
    → TreeKept (rest_search rest.ending.file.automaton p) budget Keeps nodes leaves
    → OwnVerdict rest (words_within budget) number p (Safe nodes leaves)
safe_verdict rest budget number p Keeps nodes leaves named narrow within kept file ends own at =
    let f = rest.ending.file in
    let s = rest_search f.automaton p in
    let proof = proof_made ClaimRestSafe f.automaton p [] (pattern_within f number p named) narrow budget within kept.nodes nodes kept.is in
    let trees = (in_order IsJudged s kept.nodes).0 proof.refutes in
    let leaf = weaker_proof (IsJudged s) (IsLeaf s) (λ w ts judged. judged.leaf) s trees.0 trees.1 in
    let is = ending_of_own file.patterns f.patterns ends.patterns number own p at named in
    let shown = refuted_show f.automaton own p is (come_after file number own at) (loops_pure f.automaton rest.ending.in_scope) trees.0 leaf in
    record {
      safe = subst (λ (a : Automaton). RestSafe a own) ends.automaton shown;
      tree = kept.nodes;
      is = kept.is;
      counted = kept.counted;
      proof = proof;
    }

-- a budget that is spent
pub spent_verdict : (rest : RestFile) (budget number : ℕ) (p : Pattern) (nodes : ℕ) → IsSpent (rest_search rest.ending.file.automaton p) budget nodes
    → OwnVerdict rest (words_within budget) number p (Spent nodes)
spent_verdict rest budget number p nodes spent file ends own at =
    let a = rest.ending.file.automaton in
    let s = rest_search a p in
    record { is = spent; split = λ most. split_of_words a p [] s.question s.scaled s.unknowns s.rows budget nodes most spent }

-- what a visit finds is a solution
pub solution_found : (file : File) (number : ℕ) → number < length file.patterns → (budget nodes : ℕ) (solution : Solution)
    → OfPattern file number (λ p. NodeOf (rest_search file.automaton p) budget nodes (SolutionAt (rest_search file.automaton p) number solution))
    → IsRestSolution file solution
solution_found file number within budget nodes solution found =
    let at = some_at file.patterns number within in
    found_solved file number at.0 at.1 budget nodes solution (found at.0 at.1)

pub keeps_nothing : {E : Type 0} (s : Search E) (budget : ℕ) (Keeps : List Node → Type 0) (v : Verdict) → IsNotSafe v → KeepsSafe s budget Keeps v
keeps_nothing s budget Keeps (Safe nodes leaves) other = absurd other
keeps_nothing s budget Keeps (Unsafe nodes run) other = tt
keeps_nothing s budget Keeps (Spent nodes) other = tt
keeps_nothing s budget Keeps (Overflow node kind) other = tt

-- where a pattern isn't safe nothing is kept
pub nothing_kept : (file : File) (number budget : ℕ) (Keeps : List Node → Type 0) (r : Result Verdict AllocError) → IfOk r IsNotSafe
    → IfOk r (λ v. OfPattern file number (λ p. KeepsSafe (rest_search file.automaton p) budget Keeps v))
nothing_kept file number budget Keeps (Ok v) other = λ p at. keeps_nothing (rest_search file.automaton p) budget Keeps v other
nothing_kept file number budget Keeps (Err e) other = tt
