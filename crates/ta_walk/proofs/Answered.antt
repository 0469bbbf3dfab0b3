-- the facts of what the search of moments comes to: each answers a question that exists, and none is asked twice
use Rattle.ta_walk.proofs.Common.{nat_lt, cond_both, each_in, Comes, all_or_none, answered, Fact, Never, First, Stands, Last, Before, After, Same, Fails}
use Rattle.ta_walk.proofs.Common.{Question, OfGuard, OfOrder, OfStuck, is_open, question_of, answers, are_pairs, Maker, answers_if_open, candidate_of}
use Rattle.ta_walk.proofs.Common.{exists_as, moment_search, AskedOnce, come_answers}
use Rattle.ta_moments.proofs.Common.{◌≡◌, inl, inr, ℕ, Bool, true, false, ◌&&◌, cond, List, [], ◌∷◌, map, length, slice_get, Option, Some, None, refl, sym}
use Rattle.ta_moments.proofs.Common.{subst, AllByRecursion, In, Automaton, Pattern}
use Rattle.ta_cert.specs.declared.line.Node.{Node as TreeNode}
use Rattle.ta_moments.specs.Facts.{guards_of}
use Rattle.ta_moments.specs.Moments.{Known, known}
use Rattle.ta_moments.specs.Refutes.{Asking}
use Rattle.ta_moments.specs.Whole.{AreAnswers}
use Rattle.ta_moment_tree.specs.Sizes.{AreAnswers as AnswerOpen}
use Rattle.ta_moment_tree.proofs.ComingFacts.{none_begins}
use Rattle.ta_cert.specs.declared.line.Node.TheVariants as node

-- a question's answers answer it
fails_all : (r : ℕ) (gs : List ℕ) → AllByRecursion (λ f. question_of f ≡ OfStuck r) (map (Fails r) gs)
fails_all r [] = tt
fails_all r (g ∷ gs) = (refl, fails_all r gs)

answers_all : (a : Automaton) (k : Known) (q : Question) → AllByRecursion (λ f. question_of f ≡ q) (answers a k q)
answers_all a k (OfGuard g) =
    cond_both (nat_lt g (length a.rise)) (Never g ∷ First g ∷ []) (Never g ∷ Stands g ∷ Last g ∷ []) (AllByRecursion (λ f. question_of f ≡ OfGuard g))
    (λ _. (refl, (refl, tt))) (λ _. (refl, (refl, (refl, tt))))
answers_all a k (OfOrder x y) =
    cond_both (are_pairs (slice_get k.moments x) (slice_get k.moments y)) (Same x y ∷ Before x y ∷ After x y ∷ []) (Before x y ∷ After x y ∷ [])
    (AllByRecursion (λ f. question_of f ≡ OfOrder x y)) (λ _. (refl, (refl, (refl, tt)))) (λ _. (refl, (refl, tt)))
answers_all a k (OfStuck r) = (refl, fails_all r (guards_of a (slice_get a.rules r)))

listed : (b : Bool) (es : List Fact) (e : Fact) → In e (all_or_none (cond b (Some es) None)) → In e es
listed true es e h = h
listed false es e h = absurd h

own_answer : (a : Automaton) (p : Pattern) (asking : Asking) (k : Known) (past : List Fact) (e : Fact) (q : Question)
    → In e (all_or_none (answers_if_open a p asking k past (Some q))) → In e (answers a k (question_of e))
own_answer a p asking k past e q h =
    let is = listed (is_open past q && exists_as a p asking k q) (answers a k q) e h in
    let same : question_of e ≡ q = each_in (λ f. question_of f ≡ q) (answers a k q) e (answers_all a k q) is in
    subst (λ (r : Question). In e (answers a k r)) (sym same) is

-- open questions are asked once
pub asked_once : (a : Automaton) (p : Pattern) (asking : Asking) (candidate : Option ℕ) (past : List Fact) → AnswerOpen a p asking candidate past
    → AskedOnce past
asked_once a p asking candidate [] h = tt
asked_once a p asking candidate (fact ∷ past) h = (h.0, asked_once a p asking candidate past h.2)

module _ (a : Automaton) (p : Pattern) (asking : Asking) (maker : Maker) where
  node_answer : (start : ℕ) (past : List Fact) (e : Fact) (n : TreeNode) → In e (answered (moment_search a p asking maker) start past n)
      → In e (answers a (known a p asking.silent (candidate_of start) past) (question_of e))
  node_answer start past e (node.Guard g) h = own_answer a p asking (known a p asking.silent (candidate_of start) past) past e (OfGuard g) h
  node_answer start past e (node.Order x y) h = own_answer a p asking (known a p asking.silent (candidate_of start) past) past e (OfOrder x y) h
  node_answer start past e (node.Stuck r) h = own_answer a p asking (known a p asking.silent (candidate_of start) past) past e (OfStuck r) h
  node_answer start past e node.Extend h = absurd h
  node_answer start past e (node.Split unknown floor) h = absurd h
  node_answer start past e (node.Leaf ts) h = absurd h

  pub comes_answered : (start : ℕ) (past : List Fact) → Comes (moment_search a p asking maker) start past → AreAnswers a p asking (candidate_of start) past
  comes_answered start [] h = tt
  comes_answered start (e ∷ past) (inl h) = absurd (none_begins a p asking maker h.0 e past h.1 h.3)
  comes_answered start (e ∷ past) (inr h) =
      let asked = come_answers a p asking maker start (e ∷ past) (inr h) in
      (asked.1, node_answer start past e h.0.0 h.0.1, comes_answered start past h.1)

  pub comes_once : (start : ℕ) (past : List Fact) → Comes (moment_search a p asking maker) start past → AskedOnce past
  comes_once start past h = asked_once a p asking (candidate_of start) past (come_answers a p asking maker start past h)
