-- what an order of the locations says
use Rattle.ta_scope.proofs.Common.{◌≡◌, inl, inr, ℕ, ◌<◌, ◌≤◌, List, [], ◌∷◌, ◌++◌, length, take, arith, sym, ap, ◌∙◌, subst, Contains, take-append-le}
use Rattle.ta_scope.proofs.Common.{distinct_from, distinct_length, each_from, push_cases, Automaton, Distinct, NoCycle, Next, IsBuilt, IsLocationOrder}
use Rattle.ta_base.proofs.Members.{contains_of, in_of}
use Rattle.ta_base.proofs.Times.{times-distinct, times-in}
use Rattle.ta_scope.proofs.Cycles.{NoneReady, none_remains}
use Rattle.std.proofs.Math.Seq.{take-length}

pub built_push : (a : Automaton) (rules : ℕ) (order : List ℕ) (location : ℕ) → IsBuilt a rules order → Next a rules order location
    → IsBuilt a rules (order ++ location ∷ [])
built_push a rules order location built next k l at = elim (push_cases order location k l at) [
  | inl w ↦ subst (λ xs. Next a rules xs l) (sym (take-append-le k order (location ∷ []) (let b = w.0 in omega arith))) (built k l w.1)
  | inr w ↦ (
      let none : take k (order ++ location ∷ []) ≡ order = take-append-le k order (location ∷ []) (let b = w.0 in omega arith) ∙ ap (λ n. take n order) w.0
      ∙ take-length order in
      subst (λ xs. Next a rules xs l) (sym none) (subst (Next a rules order) w.1 next))
]

pub built_distinct : (a : Automaton) (rules : ℕ) (order : List ℕ) → IsBuilt a rules order → Distinct order
built_distinct a rules order built = distinct_from order (λ k x at c. (built k x at).ready.remains c)

pub built_length : (a : Automaton) (rules : ℕ) (order : List ℕ) → IsBuilt a rules order → length order ≤ length a.locations
built_length a rules order built =
    distinct_length (length a.locations) order (built_distinct a rules order built)
    (each_from (λ x. x < length a.locations) order (λ k x at. (built k x at).exists))

pub order_done : (a : Automaton) (rules : ℕ) (order : List ℕ) → NoCycle a rules → IsBuilt a rules order → NoneReady a rules order
    → IsLocationOrder a rules order
order_done a rules order acyclic built none = record {
  each_once = λ l b. times-distinct l order (built_distinct a rules order built) (in_of order l (none_remains a rules order acyclic none l b));
  built = built;
}

pub placed : (a : Automaton) (rules : ℕ) (order : List ℕ) → IsLocationOrder a rules order → (l : ℕ) → l < length a.locations → Contains order l
placed a rules order is l b = contains_of order l (times-in l order (omega (arith, is.each_once l b)))
