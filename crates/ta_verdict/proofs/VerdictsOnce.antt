-- a question has one answer for one budget, and a pattern of a file one verdict
use Rattle.ta_verdict.proofs.Common.{◌≡◌, ◌⊎◌, inl, inr, ◌+◌, ℕ, ℤ, suc, Bool, true, false, List, [], ◌∷◌, Some, slice_get, map, refl, sym, ap, subst, ◌∙◌}
use Rattle.ta_verdict.proofs.Common.{arith, File, Pattern, Solution, PlaceKind, Search, Pending, Ending, Whole, Solved, Stopped, Left, IsVisitEnding, WholeAt}
use Rattle.ta_verdict.proofs.Common.{NodeOf, SolutionAt, leaf_count, Order, pair_of, orders_once, ends_once, endings_once, node_with, Verdict, EachHolds}
use Rattle.ta_verdict.proofs.Common.{Question, VerdictAnswers, VerdictHolds, VerdictsAreDetermined, holds_by, safety_question, moment_question, Fact, Found}
use Rattle.ta_verdict.proofs.Common.{FoundAt, of_events, Pick, first_picked, picked, picked_there, Run, ReplayStays, Unsafe, Overflow, one_witness, runs_once}
use Rattle.ta_words.specs.declared.element.Element.{Element}
use Rattle.ta_report.specs.declared.verdict.Verdict.TheVariants.{Safe, Spent}
use Rattle.ta_verdict.proofs.VerdictsMade.{solution_is}
use Rattle.ta_walk.specs.declared.end.PlaceKind.TheVariants as place
use Rattle.ta_walk.specs.declared.end.WalkEnd.TheVariants as walk
use Rattle.ta_report.specs.declared.verdict.ReportKind.TheVariants as kind

-- a solution that is found has values, those of a whole node; and there is one
pub record HasOneSolution {E S : Type 0} (q : Question E S) (number budget : ℕ) : Type 0 where
  pub values : S → List ℤ
  pub whole : (w : Pending E) (solution : S) → q.at number solution w → WholeAt q.search w (values solution)
  pub one : (i j : ℕ) (x y : S) → NodeOf q.search budget i (q.at number x) → NodeOf q.search budget j (q.at number y) → x ≡ y

-- a solution that is found has one run, whose replay doesn't both stay in range and leave it
pub record HasOneRun {E S : Type 0} (q : Question E S) (number budget : ℕ) : Type 0 where
  pub one : (count : ℕ) (solution : S) → NodeOf q.search budget count (q.at number solution) → (r s : Run) → q.shown solution r → q.shown solution s → r ≡ s
  pub apart : (count : ℕ) (solution : S) → NodeOf q.search budget count (q.at number solution) → (r : Run) → q.shown solution r → q.leaves solution → ⊥

-- the verdict where a walk says that a number leaves the range
abbrev SaysPlace : ℕ → PlaceKind → Verdict → Type 0
SaysPlace node (place.Pivot pivot) v = v ≡ Overflow node (kind.Pivot pivot)
SaysPlace node place.Leaf v = v ≡ Overflow node kind.Leaf
SaysPlace node place.Run v = ⊥

-- what the solution of the first whole node makes of the verdict: its run, or that the replay of its run leaves the range
abbrev SaysRun : {E S : Type 0} → Question E S → ℕ → S → Verdict → Type 0
SaysRun q count solution v = ((run : Run) × (v ≡ Unsafe count run) × q.shown solution run) ⊎ ((v ≡ Overflow count kind.Run) × q.leaves solution)

record Decides {E S : Type 0} (q : Question E S) (number budget count : ℕ) (v : Verdict) : Type 0 where
  solution : S
  node : NodeOf q.search budget count (q.at number solution)
  says : SaysRun q count solution v

-- what the end of a search makes of the verdict
abbrev Gives : {E S : Type 0} → Question E S → ℕ → ℕ → Ending E → Verdict → Type 0
Gives q number budget (Whole nodes count) v = v ≡ Safe count (leaf_count nodes)
Gives q number budget (Solved count word values) v = Decides q number budget count v
Gives q number budget (Stopped count) v = v ≡ Spent count
Gives q number budget (Left node k) v = SaysPlace node k v

-- the search ends as a verdict says
record EndOf {E S : Type 0} (q : Question E S) (number budget : ℕ) (v : Verdict) : Type 0 where
  end : Ending E
  is : IsVisitEnding q.search budget end
  gives : Gives q number budget end v

-- where the first whole node has a solution
solved_end :
    {E S : Type 0} (q : Question E S) (number budget : ℕ) → HasOneSolution q number budget → (v : Verdict) (count : ℕ) (solution : S)
    → NodeOf q.search budget count (q.at number solution) → SaysRun q count solution v → EndOf q number budget v
solved_end q number budget has v count solution node says = record {
  end = Solved count node.word (has.values solution);
  is = node_with q.search budget count (q.at number solution) (λ w. (w ≡ node.word) × WholeAt q.search w (has.values solution)) node
      (refl, has.whole node.word solution node.holds);
  gives = record { solution = solution; node = node; says = says };
}

end_of :
    {E S : Type 0} (q : Question E S) (number budget : ℕ) → HasOneSolution q number budget → (v : Verdict) → VerdictAnswers q budget number v
    → EndOf q number budget v
end_of q number budget has (Safe nodes leaves) h = record { end = Whole h.tree nodes; is = h.is; gives = ap (Safe nodes) h.counted }
end_of q number budget has (Unsafe nodes run) h = solved_end q number budget has (Unsafe nodes run) nodes h.solution h.node (inl (run, refl, h.is))
end_of q number budget has (Spent nodes) h = record { end = Stopped nodes; is = h.is; gives = refl }
end_of q number budget has (Overflow node (kind.Pivot pivot)) h = record { end = Left node (place.Pivot pivot); is = h; gives = refl }
end_of q number budget has (Overflow node kind.Leaf) h = record { end = Left node place.Leaf; is = h; gives = refl }
end_of q number budget has (Overflow node kind.Run) h =
    let leaves = h.holds in
    solved_end q number budget has (Overflow node kind.Run) node leaves.solution
    (record { before = h.before; number_is = h.number_is; within = h.within; word = h.word; visited = h.visited; holds = leaves.whole })
    (inr (refl, leaves.run))

place_once : (node : ℕ) (k : PlaceKind) (v w : Verdict) → SaysPlace node k v → SaysPlace node k w → v ≡ w
place_once node (place.Pivot pivot) v w a b = a ∙ sym b
place_once node place.Leaf v w a b = a ∙ sym b
place_once node place.Run v w a b = absurd a

run_once :
    {E S : Type 0} (q : Question E S) (number budget : ℕ) → HasOneRun q number budget → (count : ℕ) (solution : S)
    → NodeOf q.search budget count (q.at number solution) → (v w : Verdict) → SaysRun q count solution v → SaysRun q count solution w → v ≡ w
run_once q number budget has count solution node v w (inl a) (inl b) = a.1 ∙ ap (Unsafe count) (has.one count solution node a.0 b.0 a.2 b.2) ∙ sym b.1
run_once q number budget has count solution node v w (inl a) (inr b) = absurd (has.apart count solution node a.0 a.2 b.1)
run_once q number budget has count solution node v w (inr a) (inl b) = absurd (has.apart count solution node b.0 b.2 a.1)
run_once q number budget has count solution node v w (inr a) (inr b) = a.0 ∙ sym b.0

gives_once :
    {E S : Type 0} (q : Question E S) (number budget : ℕ) → HasOneSolution q number budget → HasOneRun q number budget → (e : Ending E) (v w : Verdict)
    → Gives q number budget e v → Gives q number budget e w → v ≡ w
gives_once q number budget solved has (Whole nodes count) v w a b = a ∙ sym b
gives_once q number budget solved has (Solved count word values) v w a b =
    let same = solved.one count count a.solution b.solution a.node b.node in
    run_once q number budget has count b.solution b.node v w (subst (λ x. SaysRun q count x v) same a.says) b.says
gives_once q number budget solved has (Stopped count) v w a b = a ∙ sym b
gives_once q number budget solved has (Left node k) v w a b = place_once node k v w a b

-- a question has one answer
pub answer_once :
    {E S : Type 0} (q : Question E S) (number budget : ℕ) → HasOneSolution q number budget → HasOneRun q number budget → (v w : Verdict)
    → VerdictAnswers q budget number v → VerdictAnswers q budget number w → v ≡ w
answer_once q number budget solved has v w h k =
    let a = end_of q number budget solved v h in
    let b = end_of q number budget solved w k in
    let ends = endings_once q.search budget a.end b.end a.is b.is in
    gives_once q number budget solved has b.end v w (subst (λ e. Gives q number budget e v) ends a.gives) b.gives

-- words have one solution
pub words_have_one :
    (q : Question Element Solution) (number budget : ℕ) → ((x : Solution) (w : Pending Element) → q.at number x w → SolutionAt q.search number x w)
    → HasOneSolution q number budget
words_have_one q number budget at = record {
  values = λ x. x.values;
  whole = λ w x h. (at x w h).whole;
  one = λ i j x y h k.
      let first = node_with q.search budget i (q.at number x) (SolutionAt q.search number x) h (at x h.word h.holds) in
      let second = node_with q.search budget j (q.at number y) (SolutionAt q.search number y) k (at y k.word k.holds) in
      let same : walk.Found i x ≡ walk.Found j y = ends_once q.search number budget (walk.Found i x) (walk.Found j y) first second in
      cc;
}

-- so have moments
pub found_once : (s : Search Fact) (budget i j : ℕ) (x y : Found) → NodeOf s budget i (FoundAt s x) → NodeOf s budget j (FoundAt s y) → x ≡ y
found_once s budget i j x y h k =
    let first : IsVisitEnding s budget (Solved i x.pending x.numbers) = node_with s budget i (FoundAt s x) (λ w. (w ≡ x.pending) × WholeAt s w x.numbers) h
    (sym h.holds.0, h.holds.1) in
    let second : IsVisitEnding s budget (Solved j y.pending y.numbers) = node_with s budget j (FoundAt s y) (λ w. (w ≡ y.pending) × WholeAt s w y.numbers) k
    (sym k.holds.0, k.holds.1) in
    let same = endings_once s budget (Solved i x.pending x.numbers) (Solved j y.pending y.numbers) first second in
    let nodes : x.pending ≡ y.pending = cc in
    let values : x.numbers ≡ y.numbers = cc in
    λ i. record { pending = nodes i; numbers = values i }

pub moments_have_one : (file : File) (number budget : ℕ) (p : Pattern) → HasOneSolution (moment_question file number p) number budget
moments_have_one file number budget p =
    let q = moment_question file number p in
    record {
      values = λ x. x.numbers;
      whole = λ w x h. h.1;
      one = found_once q.search budget;
    }

-- where each pattern has one verdict, patterns have one list of verdicts
verdicts_from : (Fact : ℕ → Pattern → Verdict → Type 0) (number : ℕ) (ps : List Pattern) (vs ws : List Verdict)
    → ((k : ℕ) (p : Pattern) (v w : Verdict) → slice_get ps k ≡ Some p → Fact (number + k) p v → Fact (number + k) p w → v ≡ w) → EachHolds Fact number ps vs
    → EachHolds Fact number ps ws → vs ≡ ws
verdicts_from Fact number [] [] [] once h k = refl
verdicts_from Fact number [] [] (w ∷ ws) once h k = absurd k
verdicts_from Fact number [] (v ∷ vs) ws once h k = absurd h
verdicts_from Fact number (p ∷ ps) [] ws once h k = absurd h
verdicts_from Fact number (p ∷ ps) (v ∷ vs) [] once h k = absurd k
verdicts_from Fact number (p ∷ ps) (v ∷ vs) (w ∷ ws) once h k =
    let here : number ≡ number + 0 = omega arith in
    let first = once 0 p v w refl (subst (λ n. Fact n p v) here h.0) (subst (λ n. Fact n p w) here k.0) in
    let later : (j : ℕ) (q : Pattern) (x y : Verdict) → slice_get ps j ≡ Some q → Fact ((number + 1) + j) q x → Fact ((number + 1) + j) q y → x ≡ y =
    λ j q x y named a b. let there : (number + 1) + j ≡ number + suc j = omega arith in once (suc j) q x y named (subst (λ n. Fact n q x) there a)
    (subst (λ n. Fact n q y) there b) in
    let rest = verdicts_from Fact (number + 1) ps vs ws later h.1 k.1 in
    ap (λ (x : Verdict). x ∷ vs) first ∙ ap (λ (xs : List Verdict). w ∷ xs) rest

pub picked_same :
    (Fact : ℕ → Pattern → Verdict → Type 0) (pick : Pick) (ps : List Pattern) (vs ws : List Verdict)
    → ((k : ℕ) (p : Pattern) (v w : Verdict) → slice_get ps k ≡ Some p → Fact k p v → Fact k p w → v ≡ w)
    → EachHolds Fact (first_picked pick) (picked pick ps) vs → EachHolds Fact (first_picked pick) (picked pick ps) ws → vs ≡ ws
picked_same Fact pick ps vs ws once h k =
    verdicts_from Fact (first_picked pick) (picked pick ps) vs ws (λ j p v w named a b. once (first_picked pick + j) p v w (picked_there pick ps j p named) a b)
    h k

words_have_one_run :
    (file : File) (pairs : List (ℕ × ℕ)) (number budget : ℕ) (p : Pattern) → slice_get file.patterns number ≡ Some p
    → HasOneRun (safety_question file pairs p) number budget
words_have_one_run file pairs number budget p at = record {
  one = λ count solution found r s a b. one_witness file solution r s (solution_is file number p at pairs budget count solution found) a.witness b.witness;
  apart = λ count solution found r a out.
      let same = one_witness file solution r out.run (solution_is file number p at pairs budget count solution found) a.witness out.is in
      out.leaves (subst (ReplayStays file) same a.stays);
}

moments_have_one_run : (file : File) (number budget : ℕ) (p : Pattern) → HasOneRun (moment_question file number p) number budget
moments_have_one_run file number budget p = record {
  one = λ count found node r s a b. runs_once file number of_events found r s a.is b.is;
  apart = λ count found node r a out. out.leaves r a.is a.stays;
}

verdict_by :
    (lazy : Bool) (file : File) (budget number : ℕ) (p : Pattern) (v w : Verdict) → slice_get file.patterns number ≡ Some p
    → holds_by lazy file budget number p v → holds_by lazy file budget number p w → v ≡ w
verdict_by false file budget number p v w at h k =
    let pairs = map pair_of k.orders in
    let orders = orders_once file.automaton h.orders k.orders h.found k.found in
    let first = subst (λ (os : List Order). VerdictAnswers (safety_question file (map pair_of os) p) budget number v) orders h.holds in
    let q = safety_question file pairs p in
    answer_once q number budget (words_have_one q number budget (λ x w at. at)) (words_have_one_run file pairs number budget p at) v w first k.holds
verdict_by true file budget number p v w at h k =
    answer_once (moment_question file number p) number budget (moments_have_one file number budget p) (moments_have_one_run file number budget p) v w h k

pub verdicts_once : VerdictsAreDetermined
verdicts_once file pick budget vs ws h k =
    picked_same (VerdictHolds file budget) pick file.patterns vs ws (λ j p v w. verdict_by budget.lazy file budget.nodes j p v w) h.hold k.hold
