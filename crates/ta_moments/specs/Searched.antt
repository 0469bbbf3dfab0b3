-- Moments on demand as a search: its starts are the candidates, its facts those of moments, and what it asks are the questions of a
-- certificate's nodes.
use Rattle.std.specs.Prelude.{ℕ, ℤ, suc, zero, ◌+◌, ◌↔◌, ◌&&◌, Bool, nat_lt, cond, List, length, map, slice_get, Option, Some, None}
use Rattle.std.specs.List.{AllByRecursion, range_with_len}
use Rattle.ta_base.specs.Masks.{In}
use Rattle.ta_automaton.specs.declared.automaton.Automaton.{Automaton}
use Rattle.ta_automaton.specs.declared.pattern.Pattern.{Pattern}
use Rattle.ta_cert.specs.declared.line.Node.{Node as TreeNode}
use Rattle.ta_cert.specs.declared.line.Node.TheVariants as node
use Rattle.ta_encode.specs.System.{LinearRow}
use Rattle.ta_encode.specs.Search.{Pending, Search}
use Rattle.ta_encode.specs.Refutes.{IsLeaf}
use Rattle.ta_encode.specs.InPreorder.{RefutedInOrder as NodesRefute}
use Rattle.ta_moments.specs.Forms.{UnknownForm}
use Rattle.ta_moments.specs.Facts.{Question, OfGuard, OfOrder, OfStuck, Fact, candidates, is_open, may_be_stuck}
use Rattle.ta_moments.specs.Moments.{Known, known}
use Rattle.ta_moments.specs.Refutes.{Asking, Node, answers, root}
use Rattle.ta_moments.specs.InPreorder.{Line, OfLeaf, OfSplit, OfAsk, RefutedInOrder}

-- a candidate as a start: none, or an event
abbrev pub start_of : Option ℕ → ℕ
start_of None = 0
start_of (Some e) = suc e

abbrev pub candidate_of : ℕ → Option ℕ
candidate_of zero = None
candidate_of (suc e) = Some e

-- a node as what a search refutes
abbrev pub pending_of : Node → Pending Fact
pending_of n = record { start = start_of n.candidate; past = n.past; bounds = n.bounds }

-- the question that a node of a certificate asks, and the node that asks it
abbrev pub question_in : TreeNode → Option Question
question_in (node.Guard g) = Some (OfGuard g)
question_in (node.Order x y) = Some (OfOrder x y)
question_in (node.Stuck r) = Some (OfStuck r)
question_in _ = None

abbrev pub asking_node : Question → TreeNode
asking_node (OfGuard g) = node.Guard g
asking_node (OfOrder x y) = node.Order x y
asking_node (OfStuck r) = node.Stuck r

-- the node of a line
abbrev pub node_in : Line → TreeNode
node_in (OfLeaf ts) = node.Leaf ts
node_in (OfSplit unknown floor) = node.Split unknown floor
node_in (OfAsk question) = asking_node question

-- whether a question exists
abbrev pub exists_as : Automaton → Pattern → Asking → Known → Question → Bool
exists_as a p asking k (OfGuard g) = nat_lt g (length a.rise + length a.fall)
exists_as a p asking k (OfOrder x y) = nat_lt x y && nat_lt y (length k.moments)
exists_as a p asking k (OfStuck r) = asking.rest && may_be_stuck p (slice_get a.rules r)

-- the answers of a question that is open and exists
abbrev pub answers_if_open : Automaton → Pattern → Asking → Known → List Fact → Option Question → Option (List Fact)
answers_if_open a p asking k past None = None
answers_if_open a p asking k past (Some question) = cond (is_open past question && exists_as a p asking k question) (Some (answers a k question)) None

-- a form as the row of the coefficients of the first unknowns
abbrev pub row_of_form : ℕ → UnknownForm → LinearRow
row_of_form n f = record { constant = f.constant; coefficients = map f.coefficient (range_with_len 0 n) }

-- a maker, at a vertex: what it asks, and the integer values that it takes where it asks nothing and not all values are integers
pub record Maker : Type 0 where
  pub question : ℕ → List Fact → List (ℤ × ℤ) → Option TreeNode
  pub scaled : Pending Fact → List (ℤ × ℤ) → Option (List ℤ)

-- the search of moments, for any maker
abbrev pub moment_search : Automaton → Pattern → Asking → Maker → Search Fact
moment_search a p asking maker = record {
  roots = map (λ c. pending_of (root c)) (candidates p);
  answers = λ start past n. answers_if_open a p asking (known a p asking.silent (candidate_of start) past) past (question_in n);
  question = maker.question;
  scaled = maker.scaled;
  unknowns = λ start past. (known a p asking.silent (candidate_of start) past).unknowns;
  rows = λ start past. map (row_of_form (known a p asking.silent (candidate_of start) past).unknowns) (known a p asking.silent (candidate_of start) past).rows;
}

-- nodes of candidates of the pattern
abbrev pub AreListed : Pattern → List Node → Type 0
AreListed p nodes = AllByRecursion (λ n. In n.candidate (candidates p)) nodes

-- lines refute such nodes in order exactly if the nodes of these lines refute them in the search
abbrev pub MomentsAreASearch : Type 0
MomentsAreASearch =
    (a : Automaton) (p : Pattern) (asking : Asking) (maker : Maker)
    → (nodes : List Node) → AreListed p nodes
    → (lines : List Line) → RefutedInOrder a p asking nodes lines
    ↔ NodesRefute (moment_search a p asking maker) (IsLeaf (moment_search a p asking maker)) (map pending_of nodes) (map node_in lines)
