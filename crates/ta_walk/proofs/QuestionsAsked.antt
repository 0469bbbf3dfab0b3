-- what a vertex's question asks at a node
use Rattle.ta_walk.proofs.Common.{◌≡◌, ℕ, List, Bool, true, Some, None, ap, is_some, Automaton, Pattern, MayAsk, Fact, Question, OfGuard, OfOrder, OfStuck}
use Rattle.ta_walk.proofs.Common.{is_open, answers, Maker, answers_if_open, asking_node, candidate_of, exists_as, moment_search, exists_same}
use Rattle.std.proofs.Common.{cond}
use Rattle.std.proofs.lemmas.Bool.{and_from}
use Rattle.ta_moments.specs.Moments.{Known, known}
use Rattle.ta_moments.specs.Refutes.{Asking, Exists}

answered : (a : Automaton) (p : Pattern) (asking : Asking) (k : Known) (past : List Fact) (q : Question)
    → is_open past q ≡ true → Exists a p asking k q → is_some (answers_if_open a p asking k past (Some q)) ≡ true
answered a p asking k past q unasked exists =
    let may = and_from (is_open past q) (exists_as a p asking k q) unasked ((exists_same a p asking k q).1 exists) in
    ap (λ (b : Bool). is_some (cond b (Some (answers a k q)) None)) may

-- a question that is open and exists may be asked
pub question_may : (a : Automaton) (p : Pattern) (asking : Asking) (maker : Maker) (start : ℕ) (past : List Fact) (q : Question)
    → is_open past q ≡ true → Exists a p asking (known a p asking.silent (candidate_of start) past) q
    → MayAsk (moment_search a p asking maker) start past (asking_node q)
question_may a p asking maker start past (OfGuard g) unasked exists =
    answered a p asking (known a p asking.silent (candidate_of start) past) past (OfGuard g) unasked exists
question_may a p asking maker start past (OfOrder x y) unasked exists =
    answered a p asking (known a p asking.silent (candidate_of start) past) past (OfOrder x y) unasked exists
question_may a p asking maker start past (OfStuck r) unasked exists =
    answered a p asking (known a p asking.silent (candidate_of start) past) past (OfStuck r) unasked exists
