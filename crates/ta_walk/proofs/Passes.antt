-- the passes of a visit of a claim's tree: a hasty one, and a patient one where the end of the hasty one does not count
use Rattle.ta_walk.proofs.Common.{◌≡◌, ℕ, ◌+◌, ◌*◌, ◌<◌, ◌≤◌, ◌++◌, Bool, false, true, List, [], arith, refl, sym, subst, Element, IsCounted, IsLaterKeeper}
use Rattle.ta_walk.proofs.Common.{IsTreeEnd, IsVisitEnd, IsWholeEnd, HasFewFacts, Node, PartVisited, Pending, Rose, RoseBy, Search, TreeEnd, beginning}
use Rattle.ta_walk.proofs.Common.{most_begun, node_count, search_of_claim, visit_count, visit_end}
use Rattle.ta_rest.specs.declared.claim_tree.ClaimTree.{ClaimTree}
use Rattle.ta_walk.proofs.ClaimsMade.{facts_few}
use Rattle.ta_walk.proofs.NodesCounted.{counted_once, counted_visit, rose_any, rose_first, rose_twice}
use Rattle.ta_walk.proofs.PartsMerged.{whole_visited}
use Rattle.ta_walk.specs.declared.end.TreeEnd.TheVariants as tree

-- how a count rose before a pass: not at all before the hasty one, and by the nodes of the hasty one before the patient one
abbrev pub RoseBefore : Bool → ℕ → ℕ → ℕ → Type 0
RoseBefore false budget old new = new ≡ old
RoseBefore true budget old new = Rose old new 0 ((65534 + 1) * budget)

-- what holds before a pass: the keeper is that of the beginning, and the count rose so
pub record Passed {K : Type 0} (patient : Bool) (budget : ℕ) (begun kept : K) (old new : ℕ) : Type 0 where
  pub same : kept ≡ begun
  pub counted : RoseBefore patient budget old new

-- how many passes may follow
abbrev pub passes_left : Bool → ℕ
passes_left false = 1
passes_left true = 0

-- a pass whose end does not count is the hasty one, so one more may follow
pub few_passes : {E : Type 0} (patient : Bool) (budget : ℕ) (end : TreeEnd E) → (patient ≡ true → IsWholeEnd budget end) → (IsWholeEnd budget end → ⊥)
    → passes_left true < passes_left patient
few_passes false budget end whole none = omega arith
few_passes true budget end whole none = absurd (none (whole refl))

-- and its nodes are those before the patient one
pub passed_over : {E : Type 0} (patient : Bool) (budget forks : ℕ) (end : TreeEnd E) (old mid begun new : ℕ) → RoseBefore patient budget old mid → forks ≤ 65534
    → (patient ≡ true → IsWholeEnd budget end) → (IsWholeEnd budget end → ⊥) → IsCounted budget forks end begun → RoseBy mid begun new
    → RoseBefore true budget old new
passed_over false budget forks end old mid begun new before fewer whole none is rose =
    rose_any old new (node_count end) ((65534 + 1) * budget)
    (counted_visit budget forks 65534 end old begun new fewer is (subst (λ (k : ℕ). RoseBy k begun new) before rose))
passed_over true budget forks end old mid begun new before fewer whole none is rose = absurd (none (whole refl))

-- how a count rose behind a pass whose end counts
pub counted_pass : {E : Type 0} (patient : Bool) (budget forks : ℕ) (end : TreeEnd E) (old mid begun new : ℕ) → RoseBefore patient budget old mid
    → forks ≤ 65534 → (patient ≡ true → forks ≡ 0) → IsCounted budget forks end begun → RoseBy mid begun new
    → Rose old new (node_count end) (most_begun budget)
counted_pass false budget forks end old mid begun new before fewer alone is rose =
    rose_first budget old new (node_count end)
    (counted_visit budget forks 65534 end old begun new fewer is (subst (λ (k : ℕ). RoseBy k begun new) before rose))
counted_pass true budget forks end old mid begun new before fewer alone is rose =
    rose_twice budget old mid new (node_count end) ((65534 + 1) * budget) before (counted_visit budget forks 65534 end mid begun new fewer is rose)
    (counted_once budget forks end mid begun new (alone refl) is rose)

-- what a pass whose end counts comes to
pub pass_ended : {K E : Type 0} (Keeps : K → K → List Node → Type 0) (begins : K → K → Type 0) (s : Search E) (words : List (Pending E)) (nodes : ℕ)
    (entry begun late part kept : K) (end whole : TreeEnd E) → begun ≡ entry → words ≡ s.roots → Keeps entry entry [] → IsLaterKeeper begins Keeps begun late
    → ((f b : K) (ns ms : List Node) → Keeps f begun ns → begins f b → Keeps b part ms → Keeps f kept (ns ++ ms)) → whole ≡ end → IsWholeEnd nodes whole
    → PartVisited Keeps (beginning s words) nodes late part end → IsTreeEnd s nodes (Keeps entry kept) whole
pass_ended Keeps begins s words nodes entry begun late part kept end whole same all keeps fresh append is counts visited =
    subst (λ (e : TreeEnd _). IsTreeEnd s nodes (Keeps entry kept) e) (sym is)
    (subst (λ (k : _). IsTreeEnd s nodes (Keeps k kept) end) same
    (whole_visited Keeps begins s words nodes begun late part kept end all (subst (λ (k : _). Keeps k k []) (sym same) keeps) fresh append
    (subst (IsWholeEnd nodes) is counts) visited))

-- the facts of a whole node of a claim's tree are a word
pub few_facts : (t : ClaimTree) (budget : ℕ) (Keeps : List Node → Type 0) (end : TreeEnd Element) → IsTreeEnd (search_of_claim t) budget Keeps end
    → HasFewFacts end
few_facts t budget Keeps (tree.Refuted count leaves) is = tt
few_facts t budget Keeps (tree.Found count start facts values) is =
    facts_few t.claim t.task.automaton.now t.task.pattern.now t.orders.now start facts values budget count t.task.over t.task.narrow is
few_facts t budget Keeps (tree.Spent count) is = tt
few_facts t budget Keeps (tree.Overflow node kind) is = tt

-- the end of a tree is that of its pattern
pub visit_ended : (s : Search Element) (number budget : ℕ) (Keeps : List Node → Type 0) (end : TreeEnd Element) → IsTreeEnd s budget Keeps end
    → IsVisitEnd s number budget Keeps (visit_end number end)
visit_ended s number budget Keeps (tree.Refuted count leaves) is = is
visit_ended s number budget Keeps (tree.Found count start facts values) is = record {
  before = is.before;
  number_is = is.number_is;
  within = is.within;
  word = is.word;
  visited = is.visited;
  holds = record { pattern = refl; start = is.holds.start_is; word = is.holds.facts_are; whole = is.holds.whole };
}
visit_ended s number budget Keeps (tree.Spent count) is = is
visit_ended s number budget Keeps (tree.Overflow node kind) is = is

-- and has as many nodes
pub same_count : (number : ℕ) (end : TreeEnd Element) → node_count end ≡ visit_count (visit_end number end)
same_count number (tree.Refuted count leaves) = refl
same_count number (tree.Found count start facts values) = refl
same_count number (tree.Spent count) = refl
same_count number (tree.Overflow node kind) = refl
