-- first paths have no rule twice
use Rattle.ta_scope.proofs.Common.{◌≡◌, ◌⊎◌, inl, inr, ℕ, ◌<◌, List, [], ◌∷◌, ◌++◌, length, arith, sym, ap, ◌∙◌, refl, subst, slice_get, Some, IsBitSet}
use Rattle.ta_scope.proofs.Common.{AllByRecursion, same_Some, longer_front, Rule, Automaton, Distinct, Walk, NotAbove, NoLater, FirstPath, LeastCycle}
use Rattle.ta_scope.proofs.Common.{each_back}
use Rattle.ta_base.proofs.Each.{Cut, cut_or}

-- what a walk goes on with behind one of its rules
walk_behind : (a : Automaton) (x : ℕ) (front : List ℕ) (q : ℕ) (behind : List ℕ) (y : ℕ) (rule : Rule) → slice_get a.rules q ≡ Some rule
    → Walk a x (front ++ q ∷ behind) y → Walk a rule.to behind y
walk_behind a x [] q behind y rule named w = subst (λ (r : Rule). Walk a r.to behind y) (same_Some w.0 rule (sym w.1 ∙ named)) w.3
walk_behind a x (r ∷ front) q behind y rule named w = walk_behind a (w.0).to front q behind y rule named w.3

-- a list isn't later than a shorter one
not_later : (rs qs : List ℕ) → length qs < length rs → NoLater rs qs → ⊥
not_later rs qs less (inl h) = absurd (omega arith)
not_later rs qs less (inr h) = let same = h.0 in absurd (omega arith)

not_above_rest : (r : ℕ) (rs qs : List ℕ) → NotAbove (r ∷ rs) (r ∷ qs) → NotAbove rs qs
not_above_rest r rs qs (inl h) = absurd (omega arith)
not_above_rest r rs qs (inr h) = h.1

no_later_rest : (r : ℕ) (rs qs : List ℕ) → NoLater (r ∷ rs) (r ∷ qs) → NoLater rs qs
no_later_rest r rs qs (inl h) = inl (omega arith)
no_later_rest r rs qs (inr h) = inr ((let same = h.0 in omega arith), not_above_rest r rs qs h.1)

-- behind its first rule a first path is first
pub first_rest : (a : Automaton) (rules from r : ℕ) (rs : List ℕ) (to : ℕ) (p : FirstPath a rules from (r ∷ rs) to) → FirstPath a rules (p.walk.0).to rs to
first_rest a rules from r rs to p = record {
  walk = p.walk.3;
  members = p.members.1;
  first = λ other walk members. no_later_rest r rs other (p.first (r ∷ other) (p.walk.0, p.walk.1, p.walk.2, walk) (p.members.0, members));
}

first_once : (a : Automaton) (rules from r : ℕ) (rs : List ℕ) (to : ℕ) → FirstPath a rules from (r ∷ rs) to → AllByRecursion (λ q. r ≡ q → ⊥) rs
first_once a rules from r rs to p = elim (cut_or r rs) [
  | inr none ↦ none
  | inl w ↦ absurd (
      let rule = p.walk.0 in
      let walk : Walk a rule.to w.behind to = walk_behind a rule.to w.front r w.behind to rule p.walk.1
      (subst (λ (xs : List ℕ). Walk a rule.to xs to) w.cut p.walk.3) in
      let members : AllByRecursion (IsBitSet rules) w.behind =
      (each_back (IsBitSet rules) w.front (r ∷ w.behind) (subst (AllByRecursion (IsBitSet rules)) w.cut p.members.1)).1 in
      not_later (r ∷ rs) (r ∷ w.behind) (let e = ap (λ (xs : List ℕ). length xs) w.cut in let l = longer_front w.front r w.behind in omega arith)
      (p.first (r ∷ w.behind) (rule, p.walk.1, p.walk.2, walk) (p.members.0, members)))
]

-- no rule is twice on a first path
pub first_distinct : (a : Automaton) (rules from : ℕ) (rs : List ℕ) (to : ℕ) → FirstPath a rules from rs to → Distinct rs
first_distinct a rules from [] to p = tt
first_distinct a rules from (r ∷ rs) to p = (first_once a rules from r rs to p, first_distinct a rules (p.walk.0).to rs to (first_rest a rules from r rs to p))

-- no rule is twice on a least cycle
pub cycle_distinct : (a : Automaton) (rules number : ℕ) (back : List ℕ) → LeastCycle a rules number back → Distinct (number ∷ back)
cycle_distinct a rules number back c = (once (cut_or number back), first_distinct a rules c.rule.to back c.rule.from c.path) where
  once : Cut number back ⊎ AllByRecursion (λ q. number ≡ q → ⊥) back → AllByRecursion (λ q. number ≡ q → ⊥) back
  once (inr none) = none
  once (inl w) = absurd (
      let walk : Walk a c.rule.to w.behind c.rule.from = walk_behind a c.rule.to w.front number w.behind c.rule.from c.rule c.named
      (subst (λ (xs : List ℕ). Walk a c.rule.to xs c.rule.from) w.cut c.path.walk) in
      let members : AllByRecursion (IsBitSet rules) w.behind =
      (each_back (IsBitSet rules) w.front (number ∷ w.behind) (subst (AllByRecursion (IsBitSet rules)) w.cut c.path.members)).1 in
      not_later back w.behind (let e = ap (λ (xs : List ℕ). length xs) w.cut in let l = longer_front w.front number w.behind in omega arith)
      (c.path.first w.behind walk members))

-- the rules of a least cycle lead round
pub cycle_walk : (a : Automaton) (rules number : ℕ) (back : List ℕ) (c : LeastCycle a rules number back) → Walk a c.rule.from (number ∷ back) c.rule.from
cycle_walk a rules number back c = (c.rule, c.named, refl, c.path.walk)
