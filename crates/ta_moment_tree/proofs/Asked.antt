-- what a node may ask, and the answers
use Rattle.ta_moment_tree.proofs.Common.{◌≡◌, ◌∙◌, ℕ, ◌+◌, ◌<◌, ◌≤◌, ◌^◌, Bool, true, false, ◌&&◌, cond, nat_lt, List, [], ◌∷◌, length, slice_get, Option, Some}
use Rattle.ta_moment_tree.proofs.Common.{None, refl, sym, ap, arith, lit<, length-map, slice_get_within, count_few, Automaton, Pattern, Node, Search}
use Rattle.ta_moment_tree.proofs.Common.{all_or_none, ask_node, Fact, Never, First, Stands, Last, Before, After, Same, Fails, Question, OfGuard, OfOrder}
use Rattle.ta_moment_tree.proofs.Common.{OfStuck, guards_of, has_guard, is_open, Known, Asking, answers, are_pairs, Maker, answers_if_open, candidate_of}
use Rattle.ta_moment_tree.proofs.Common.{exists_as, moment_search}
use Rattle.std.specs.Option.{is_some}
use Rattle.ta_encode.specs.Search.{asked}
use Rattle.ta_encode.specs.TreeCalls.{AnswerIs, TellsMayAsk}
use Rattle.ta_encode.specs.declared.ask.Ask.{Ask}
use Rattle.ta_moments.specs.Moments.{known}
use Rattle.ta_moments.specs.Searched.{question_in}
use Rattle.ta_encode.specs.declared.ask.Ask.TheVariants as ask

-- what a node asks is a question, or nothing
pub asked_is : (a : Automaton) (p : Pattern) (asking : Asking) (maker : Maker) (start : ℕ) (past : List Fact) (asks : Ask)
    → asked (moment_search a p asking maker) start past (ask_node asks) ≡ answers_if_open a p asking (known a p asking.silent (candidate_of start) past) past
    (question_in (ask_node asks))
asked_is a p asking maker start past ask.Extend = refl
asked_is a p asking maker start past (ask.Guard guard) = refl
asked_is a p asking maker start past (ask.Order before later) = refl
asked_is a p asking maker start past (ask.Stuck rule) = refl

-- so it may be asked where the question is open and exists
pub asked_if : (a : Automaton) (p : Pattern) (asking : Asking) (maker : Maker) (start : ℕ) (past : List Fact) (asks : Ask) (q : Question) (b : Bool)
    → question_in (ask_node asks) ≡ Some q → b ≡ (is_open past q && exists_as a p asking (known a p asking.silent (candidate_of start) past) q)
    → asked (moment_search a p asking maker) start past (ask_node asks) ≡ cond b (Some (answers a (known a p asking.silent (candidate_of start) past) q)) None
asked_if a p asking maker start past asks q b is same =
    asked_is a p asking maker start past asks
    ∙ ap (answers_if_open a p asking (known a p asking.silent (candidate_of start) past) past) is
    ∙ ap (λ c. cond c (Some (answers a (known a p asking.silent (candidate_of start) past) q)) None) (sym same)

pub tells : (s : Search Fact) (start : ℕ) (past : List Fact) (n : Node) (r : Bool) (es : List Fact) → asked s start past n ≡ cond r (Some es) None
    → TellsMayAsk s start past n r
tells s start past n true es is = ap is_some is
tells s start past n false es is = is

pub answer_is : (s : Search Fact) (start : ℕ) (past : List Fact) (n : Node) (number : ℕ) (es : List Fact) (r : Option Fact) → asked s start past n ≡ Some es
    → r ≡ slice_get es number → length es ≤ 81
    → ((e : Fact) → s.unknowns start past ≤ s.unknowns start (e ∷ past)) → AnswerIs s start past n number r
answer_is s start past n number es None is here few more = ap (λ (o : Option (List Fact)). slice_get (all_or_none o) number) is ∙ sym here
answer_is s start past n number es (Some e) is here few more =
    let below = slice_get_within es number e (sym here) in
    let large : 81 < 2 ^ 31 = lit< tt in
    record {
      is = ap (λ (o : Option (List Fact)). slice_get (all_or_none o) number) is ∙ sym here;
      more = more e;
      small = omega (arith, below, few, large);
    }

-- a question has few answers
cond_few : (b : Bool) (xs ys : List Fact) → length xs ≤ 81 → length ys ≤ 81 → length (cond b xs ys) ≤ 81
cond_few true xs ys h k = h
cond_few false xs ys h k = k

pub few_answers : (a : Automaton) (k : Known) (q : Question) → length (answers a k q) ≤ 81
few_answers a k (OfGuard g) = cond_few (nat_lt g (length a.rise)) (Never g ∷ First g ∷ []) (Never g ∷ Stands g ∷ Last g ∷ []) (omega arith) (omega arith)
few_answers a k (OfOrder x y) = cond_few (are_pairs (slice_get k.moments x) (slice_get k.moments y)) (Same x y ∷ Before x y ∷ After x y ∷ [])
    (Before x y ∷ After x y ∷ []) (omega arith) (omega arith)
few_answers a k (OfStuck r) =
    let gs = guards_of a (slice_get a.rules r) in
    omega (
      arith,
      length-map gs (Fails r),
      count_few (λ g. has_guard a g (slice_get a.rules r)) (length a.rise + length a.fall),
      a.shape.limits.rise_limit,
      a.shape.limits.fall_limit,
    )
