-- the facts of what the search comes to are answers
use Rattle.ta_moment_tree.proofs.Common.{◌≡◌, inl, inr, ℕ, Bool, true, false, cond, ◌&&◌, nat_lt, List, [], ◌∷◌, map, length, slice_get, Some, None, arith}
use Rattle.ta_moment_tree.proofs.Common.{refl, sym, ap, subst, and_parts, nat_tests, length-append, length-map, AllByRecursion, In, each_in, in_map, Automaton}
use Rattle.ta_moment_tree.proofs.Common.{Pattern, Pending, bound_row, ◌∙◌, Comes, all_or_none, Fact, Never, First, Stands, Last, Before, After, Same, Fails}
use Rattle.ta_moment_tree.proofs.Common.{Question, OfGuard, OfOrder, OfStuck, candidates, guards_of, is_open, may_be_stuck, question_of, form_of_row, Known}
use Rattle.ta_moment_tree.proofs.Common.{Asking, Exists, answers, known_at, root, Maker, answers_if_open, candidate_of, exists_as, moment_search, pending_of}
use Rattle.ta_moment_tree.proofs.Common.{row_of_form, AreAnswers}
use Rattle.ta_cert.specs.declared.line.Node.{Node as TreeNode}
use Rattle.ta_encode.specs.Search.{answered}
use Rattle.ta_moments.specs.Moments.{known}
use Rattle.ta_moments.specs.Refutes.{Node}
use Rattle.ta_moment_tree.specs.Sizes.{SearchStaysSmall}
use Rattle.ta_moment_tree.proofs.Sizes.{stay_small}
use Rattle.ta_cert.specs.declared.line.Node.TheVariants as node

-- a question's answers answer it
either_all : (q : Question) (b : Bool) (xs ys : List Fact) → AllByRecursion (λ f. question_of f ≡ q) xs → AllByRecursion (λ f. question_of f ≡ q) ys
    → AllByRecursion (λ f. question_of f ≡ q) (cond b xs ys)
either_all q true xs ys h k = h
either_all q false xs ys h k = k

fails_all : (r : ℕ) (gs : List ℕ) → AllByRecursion (λ f. question_of f ≡ OfStuck r) (map (Fails r) gs)
fails_all r [] = tt
fails_all r (g ∷ gs) = (refl, fails_all r gs)

answers_all : (a : Automaton) (k : Known) (q : Question) → AllByRecursion (λ f. question_of f ≡ q) (answers a k q)
answers_all a k (OfGuard g) = either_all (OfGuard g) (nat_lt g (length a.rise)) (Never g ∷ First g ∷ []) (Never g ∷ Stands g ∷ Last g ∷ []) (refl, (refl, tt))
    (refl, (refl, (refl, tt)))
answers_all a k (OfOrder x y) = either_all (OfOrder x y) _ (Same x y ∷ Before x y ∷ After x y ∷ []) (Before x y ∷ After x y ∷ []) (refl, (refl, (refl, tt)))
    (refl, (refl, tt))
answers_all a k (OfStuck r) = (refl, fails_all r (guards_of a (slice_get a.rules r)))

exists_from : (a : Automaton) (p : Pattern) (asking : Asking) (k : Known) (q : Question) → exists_as a p asking k q ≡ true → Exists a p asking k q
exists_from a p asking k (OfGuard g) h = grind (arith, nat_tests)
exists_from a p asking k (OfOrder x y) h =
    let both = and_parts (nat_lt x y) (nat_lt y (length k.moments)) h in
    let one = both.0 in
    let two = both.1 in
    (grind (arith, nat_tests), grind (arith, nat_tests))
exists_from a p asking k (OfStuck r) h = and_parts asking.rest (may_be_stuck p (slice_get a.rules r)) h

some_from : (b : Bool) (xs : List Fact) (e : Fact) → In e (all_or_none (cond b (Some xs) None)) → (b ≡ true) × In e xs
some_from true xs e h = (refl, h)
some_from false xs e h = absurd h

abbrev MayAnswer : Automaton → Pattern → Asking → Known → List Fact → Question → Type 0
MayAnswer a p asking k past q = (is_open past q ≡ true) × Exists a p asking k q

may_answer : (a : Automaton) (p : Pattern) (asking : Asking) (k : Known) (past : List Fact) (e : Fact) (q : Question)
    → In e (all_or_none (answers_if_open a p asking k past (Some q))) → MayAnswer a p asking k past (question_of e)
may_answer a p asking k past e q h =
    let some = some_from (is_open past q && exists_as a p asking k q) (answers a k q) e h in
    let both = and_parts (is_open past q) (exists_as a p asking k q) some.0 in
    let of = each_in (λ f. question_of f ≡ q) (answers a k q) e (answers_all a k q) some.1 in
    subst (λ (r : Question). MayAnswer a p asking k past r) (sym of) (both.0, exists_from a p asking k q both.1)

module _ (a : Automaton) (p : Pattern) (asking : Asking) (maker : Maker) where
  node_answers : (start : ℕ) (past : List Fact) (e : Fact) (n : TreeNode) → In e (answered (moment_search a p asking maker) start past n)
      → MayAnswer a p asking (known a p asking.silent (candidate_of start) past) past (question_of e)
  node_answers start past e (node.Guard g) h = may_answer a p asking (known a p asking.silent (candidate_of start) past) past e (OfGuard g) h
  node_answers start past e (node.Order x y) h = may_answer a p asking (known a p asking.silent (candidate_of start) past) past e (OfOrder x y) h
  node_answers start past e (node.Stuck r) h = may_answer a p asking (known a p asking.silent (candidate_of start) past) past e (OfStuck r) h
  node_answers start past e node.Extend h = absurd h
  node_answers start past e (node.Split unknown floor) h = absurd h
  node_answers start past e (node.Leaf ts) h = absurd h

  pub none_begins : (w : Pending Fact) (e : Fact) (past : List Fact) → In w (map (λ c. pending_of (root c)) (candidates p)) → w.past ≡ e ∷ past → ⊥
  none_begins w e past i h =
      let from = in_map (λ c. pending_of (root c)) w (candidates p) i in
      let empty : [] ≡ e ∷ past = sym (ap (λ (v : Pending Fact). v.past) from.2) ∙ h in
      absurd (cc)

  pub come_answers : (start : ℕ) (past : List Fact) → Comes (moment_search a p asking maker) start past → AreAnswers a p asking (candidate_of start) past
  come_answers start [] h = tt
  come_answers start (e ∷ past) (inl h) = absurd (none_begins h.0 e past h.1 h.3)
  come_answers start (e ∷ past) (inr h) = (let may = node_answers start past e h.0.0 h.0.1 in (may.0, may.1, come_answers start past h.1))

pub search_small : SearchStaysSmall
search_small a p over asking maker w h =
    let is : Node = record { candidate = candidate_of w.start; past = w.past; bounds = w.bounds } in
    let small = stay_small a p over asking is (come_answers a p asking maker w.start w.past h) in
    let k = known_at a p asking is in
    let rows = map (row_of_form k.unknowns) k.rows in
    omega (
      arith,
      small,
      length-append k.rows (map (λ b. form_of_row (bound_row b)) w.bounds),
      length-map w.bounds (λ b. form_of_row (bound_row b)),
      length-append rows (map bound_row w.bounds),
      length-map w.bounds bound_row,
      length-map k.rows (row_of_form k.unknowns),
    )
