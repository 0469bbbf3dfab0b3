-- a whole node that a visit finds: its values are natural, meet its rows, and leave no question
use Rattle.ta_walk.proofs.Common.{known_at, list_all, is_some, option_map, Pairwise, Comes, MayAsk, Pending, Fraction, AreNumbers, IsScaled, IsSettled, WholeAt}
use Rattle.ta_walk.proofs.Common.{Fact, Question, OfGuard, OfOrder, OfStuck, is_open, QuestionsMayBeAsked, fits, next_question, answers, answers_if_open}
use Rattle.ta_walk.proofs.Common.{asking_node, candidate_of, exists_as, IsNumberOver, NoQuestionLeavesNothing, exists_same, moment_maker, node_of, whole_values}
use Rattle.ta_moments.proofs.Common.{◌≡◌, ◌⊎◌, inl, inr, ℕ, ℤ, pos, ◌&&◌, Bool, true, false, and_from, List, [], ◌∷◌, map, Option, Some, None, cond, refl}
use Rattle.ta_moments.proofs.Common.{sym, ap, ◌∙◌, subst, In, Automaton, Pattern, Asking, Exists, candidates}
use Rattle.ta_base.proofs.Integers.{one_times}
use Rattle.ta_simplex.specs.Vertex.{parts_of}
use Rattle.ta_walk.proofs.WordsSolved.{whole_solves}
use Rattle.ta_moments.specs.Vertices.{values_of}
use Rattle.ta_moments.specs.Whole.{WholeNode}
use Rattle.ta_moments.proofs.Fractions.{whole_values as whole_are}
use Rattle.ta_moment_tree.specs.Makers.{moments_of}
use Rattle.ta_walk.proofs.Answered.{comes_answered}
use Rattle.ta_walk.proofs.RowsMet.{rows_met}
use Rattle.ta_walk.proofs.Taken.{all_positive, scaled_solve, taken}

-- ---- the values of a vertex that are whole
paired : (fs : List Fraction) (numbers : List ℤ) → AreNumbers fs numbers → Pairwise (IsNumberOver (pos 1)) (parts_of fs) numbers
paired [] [] are = tt
paired [] (z ∷ zs) are = absurd are
paired (f ∷ fs) [] are = absurd are
paired (f ∷ fs) (z ∷ zs) are = (sym are.0 ∙ sym (one_times f.top), paired fs zs are.1)

own_values : (fs : List Fraction) (numbers : List ℤ) → AreNumbers fs numbers → list_all fits numbers ≡ true → values_of (parts_of fs) ≡ whole_values numbers
own_values fs numbers are within =
    whole_are (parts_of fs) (all_positive fs) numbers (paired fs numbers are) ∙ ap (λ (b : Bool). cond b (whole_values numbers) None) within

-- ---- no question
asks : (b : Bool) (es : List Fact) → b ≡ true → is_some (cond b (Some es) None) ≡ true
asks true es h = refl
asks false es h = absurd (cc)

module _ (may : QuestionsMayBeAsked) (a : Automaton) (p : Pattern) (asking : Asking) where
  may_ask : (w : Pending Fact) (q : Question) → (is_open w.past q ≡ true) × Exists a p asking (known_at a p asking (node_of w)) q
      → MayAsk (moments_of a p asking) w.start w.past (asking_node q)
  may_ask w q h =
      let k = known_at a p asking (node_of w) in
      ask q (asks (is_open w.past q && exists_as a p asking k q) (answers a k q)
      (and_from (is_open w.past q) (exists_as a p asking k q) h.0 ((exists_same a p asking k q).1 h.1)))
    where
      ask : (r : Question) → is_some (answers_if_open a p asking (known_at a p asking (node_of w)) w.past (Some r)) ≡ true
          → MayAsk (moments_of a p asking) w.start w.past (asking_node r)
      ask (OfGuard g) t = t
      ask (OfOrder x y) t = t
      ask (OfStuck r) t = t

  -- where nothing is asked at a vertex, no question is to be asked
  pub settled_none : (w : Pending Fact) (values : List Fraction) → IsSettled (moments_of a p asking) w values
      → next_question a p asking (node_of w) (values_of (parts_of values)) ≡ None
  settled_none w values settled = of (next_question a p asking (node_of w) (values_of (parts_of values))) refl
    where
      of : (o : Option Question) → next_question a p asking (node_of w) (values_of (parts_of values)) ≡ o
          → next_question a p asking (node_of w) (values_of (parts_of values)) ≡ None
      of None e = e
      of (Some q) e =
          absurd (settled (asking_node q) (ap (option_map asking_node) e) (may_ask w q (may a p asking (node_of w) (values_of (parts_of values)) q e)))

  -- so at whole values
  whole_none : (w : Pending Fact) (numbers : List ℤ) → list_all fits numbers ≡ true → WholeAt (moments_of a p asking) w numbers
      → next_question a p asking (node_of w) (whole_values numbers) ≡ None
  whole_none w numbers within whole = of whole.whole
    where
      of : AreNumbers whole.values numbers ⊎ IsScaled (moments_of a p asking) w whole.values numbers
          → next_question a p asking (node_of w) (whole_values numbers) ≡ None
      of (inl are) = ap (next_question a p asking (node_of w)) (sym (own_values whole.values numbers are within)) ∙ settled_none w whole.values whole.settled
      of (inr scaled) = (taken a p asking (node_of w) (values_of (parts_of whole.values)) numbers scaled.scaled).none

-- natural values that a whole node has
pub record HasValues (a : Automaton) (p : Pattern) (asking : Asking) (w : Pending Fact) (numbers : List ℤ) : Type 0 where
  pub values : List ℕ
  pub are : numbers ≡ map pos values
  pub whole : WholeNode a p asking (node_of w) values

pub whole_node : NoQuestionLeavesNothing → QuestionsMayBeAsked → (a : Automaton) (p : Pattern) (asking : Asking) (w : Pending Fact) (numbers : List ℤ)
    → In (candidate_of w.start) (candidates p) → Comes (moments_of a p asking) w.start w.past → list_all fits numbers ≡ true
    → WholeAt (moments_of a p asking) w numbers → HasValues a p asking w numbers
whole_node nothing may a p asking w numbers listed comes within whole =
    let maker = moment_maker a p asking in
    let node = node_of w in
    let solution = whole_solves (moments_of a p asking) (scaled_solve a p asking) w numbers whole in
    let solves = solution.2 in
    record {
      values = solution.0;
      are = solution.1;
      whole = record {
        candidate_is = listed;
        answered = comes_answered a p asking maker w.start w.past comes;
        count = solves.count;
        met = rows_met (known_at a p asking node).unknowns solution.0 solves.count (known_at a p asking node).rows w.bounds solves.rows_hold;
        nothing_left =
            nothing a p asking node solution.0
            (subst (λ (zs : List ℤ). next_question a p asking node (whole_values zs) ≡ None) solution.1 (whole_none may a p asking w numbers within whole));
      };
    }
