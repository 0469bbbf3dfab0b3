-- Counts have one list of arranged steps.
use Rattle.ta_scope.proofs.Common.{◌≡◌, inl, inr, ℕ, ℤ, suc, ◌<◌, List, [], ◌∷◌, ◌++◌, length, take, arith, sym, ap, ◌∙◌, refl, subst, slice_get, Some}
use Rattle.ta_scope.proofs.Common.{Contains, append_assoc, append-nil, ints, AllByRecursion, in_or, Rule, Automaton, AllTakenOut, FirstPath, LeastCount}
use Rattle.ta_scope.proofs.Common.{LeastCycle, NoLater, NotAbove, SubtractsFrom, Support, TakenOut, count_at, steps_along, NoCycle, ArrangedStepsAreDetermined}
use Rattle.ta_scope.proofs.Common.{IsLocationOrder, Next, Ready, IsBitSet}
use Rattle.ta_base.proofs.Naturals.{neither_below}
use Rattle.ta_scope.proofs.OrderLaws.{placed}

-- each rule of a mask is one of another
abbrev Within : ℕ → ℕ → Type 0
Within m n = (r : ℕ) → IsBitSet m r → IsBitSet n r

-- two masks of one support
support_within : (counts : List ℤ) (m n : ℕ) → Support counts m → Support counts n → Within m n
support_within counts m n first second = λ r set. (second r).1 ((first r).0 set)

each_within : (m n : ℕ) (rules : List ℕ) → Within m n → AllByRecursion (IsBitSet m) rules → AllByRecursion (IsBitSet n) rules
each_within m n [] within each = tt
each_within m n (r ∷ rs) within each = (within r each.0, each_within m n rs within each.1)

-- lists none of which comes later are one
above_once : (rs qs : List ℕ) → length rs ≡ length qs → NotAbove rs qs → NotAbove qs rs → rs ≡ qs
above_once [] [] long low high = refl
above_once [] (q ∷ qs) long low high = absurd (omega arith)
above_once (r ∷ rs) [] long low high = absurd (omega arith)
above_once (r ∷ rs) (q ∷ qs) long (inl less) (inl more) = absurd (omega (arith, less, more))
above_once (r ∷ rs) (q ∷ qs) long (inl less) (inr more) = let same = more.0 in absurd (omega (arith, less, same))
above_once (r ∷ rs) (q ∷ qs) long (inr less) (inl more) = let same = less.0 in absurd (omega (arith, more, same))
above_once (r ∷ rs) (q ∷ qs) long (inr less) (inr more) =
    let tail = above_once rs qs (omega arith) less.1 more.1 in
    ap (λ x. x ∷ rs) less.0 ∙ ap (λ xs. q ∷ xs) tail

later_once : (rs qs : List ℕ) → NoLater rs qs → NoLater qs rs → rs ≡ qs
later_once rs qs (inl less) (inl more) = absurd (omega (arith, less, more))
later_once rs qs (inl less) (inr more) = let same = more.0 in absurd (omega (arith, less, same))
later_once rs qs (inr less) (inl more) = let same = less.0 in absurd (omega (arith, more, same))
later_once rs qs (inr less) (inr more) = above_once rs qs less.0 less.1 more.1

-- the first path is one
path_once : (a : Automaton) (m n x y : ℕ) (p q : List ℕ) → Within m n → Within n m → FirstPath a m x p y → FirstPath a n x q y → p ≡ q
path_once a m n x y p q mn nm first second =
    later_once p q (first.first q second.walk (each_within n m q nm second.members)) (second.first p first.walk (each_within m n p mn first.members))

-- no rule of a cycle is below the least
not_below : (a : Automaton) (m n i j : ℕ) (p q : List ℕ) → Within m n → LeastCycle a m i p → LeastCycle a n j q → i < j → ⊥
not_below a m n i j p q mn first second below =
    second.least i first.rule below first.named (mn i first.member) (p, first.path.walk, each_within m n p mn first.path.members)

-- the least cycle is one
cycle_once : (a : Automaton) (m n i j : ℕ) (p q : List ℕ) → Within m n → Within n m → LeastCycle a m i p → LeastCycle a n j q → (i ≡ j) × (p ≡ q)
cycle_once a m n i j p q mn nm first second =
    let low : (i < j) → ⊥ = not_below a m n i j p q mn first second in
    let high : (j < i) → ⊥ = not_below a n m j i q p nm second first in
    let same : i ≡ j = neither_below i j low high in
    let named : Some first.rule ≡ Some second.rule = sym first.named ∙ ap (slice_get a.rules) same ∙ second.named in
    let rule : first.rule ≡ second.rule = cc in
    (same, path_once a m n second.rule.to second.rule.from p q mn nm (subst (λ (o : Rule). FirstPath a m o.to p o.from) rule first.path) second.path)

-- the least count is one
least_once : (counts : List ℤ) (rules : List ℕ) (x y : ℤ) → LeastCount counts rules x → LeastCount counts rules y → x ≡ y
least_once counts rules x y first second =
    let low = first.least second.rule second.member in
    let high = second.least first.rule first.member in
    let here = first.is in
    let there = second.is in
    omega (arith, ints)

-- counts that are the same for each rule are one list
counts_once : (xs ys : List ℤ) → length xs ≡ length ys → ((r : ℕ) → count_at xs r ≡ count_at ys r) → xs ≡ ys
counts_once [] [] long same = refl
counts_once [] (y ∷ ys) long same = absurd (omega arith)
counts_once (x ∷ xs) [] long same = absurd (omega arith)
counts_once (x ∷ xs) (y ∷ ys) long same =
    let head : x ≡ y = same 0 in
    let tail = counts_once xs ys (omega arith) (λ r. same (suc r)) in
    ap (λ z. z ∷ xs) head ∙ ap (λ zs. y ∷ zs) tail

subtracted_once : (rules : List ℕ) (amount : ℤ) (before xs ys : List ℤ) → SubtractsFrom rules amount before xs → SubtractsFrom rules amount before ys → xs ≡ ys
subtracted_once rules amount before xs ys first second =
    counts_once xs ys (first.each_rule ∙ sym second.each_rule) (λ r. elim (in_or r rules) [
      | inl is ↦ first.these r is ∙ sym (second.these r is)
      | inr none ↦ first.others r none ∙ sym (second.others r none)
    ])

-- one circulation is taken out in one way
taken_once : (a : Automaton) (before xs ys : List ℤ) → TakenOut a before xs → TakenOut a before ys → xs ≡ ys
taken_once a before xs ys first second =
    let mn = support_within before first.rules second.rules first.support second.support in
    let nm = support_within before second.rules first.rules second.support first.support in
    let cycle = cycle_once a first.rules second.rules first.number second.number first.back second.back mn nm first.cycle second.cycle in
    let rules : first.number ∷ first.back ≡ second.number ∷ second.back = ap (λ r. r ∷ first.back) cycle.0 ∙ ap (λ rs. second.number ∷ rs) cycle.1 in
    let least = subst (λ rs. LeastCount before rs first.amount) rules first.least in
    let amount = least_once before (second.number ∷ second.back) first.amount second.amount least second.least in
    let taken = subst (λ z. SubtractsFrom (second.number ∷ second.back) z before xs) amount
    (subst (λ rs. SubtractsFrom rs first.amount before xs) rules first.subtracted) in
    subtracted_once (second.number ∷ second.back) second.amount before xs ys taken second.subtracted

-- nothing is taken out where no rule of the support lies on a cycle
none_taken : (a : Automaton) (counts after : List ℤ) (rules : ℕ) → Support counts rules → NoCycle a rules → TakenOut a counts after → ⊥
none_taken a counts after rules support none taken =
    let within = support_within counts taken.rules rules taken.support support in
    let cycle = taken.cycle in
    none taken.number cycle.rule cycle.named (within taken.number cycle.member)
    (taken.back, cycle.path.walk, each_within taken.rules rules taken.back within cycle.path.members)

-- what is left where all circulations are taken out
all_once : (a : Automaton) (counts : List ℤ) (xs ys : List (List ℤ)) (r s : List ℤ) (m n : ℕ) → Support r m → NoCycle a m → Support s n → NoCycle a n
    → AllTakenOut a counts xs r → AllTakenOut a counts ys s → r ≡ s
all_once a counts [] [] r s m n first none second never first_out second_out = sym first_out ∙ second_out
all_once a counts [] (y ∷ ys) r s m n first none second never first_out second_out =
    absurd (none_taken a counts y m (subst (λ c. Support c m) (sym first_out) first) none second_out.0)
all_once a counts (x ∷ xs) [] r s m n first none second never first_out second_out =
    absurd (none_taken a counts x n (subst (λ c. Support c n) (sym second_out) second) never first_out.0)
all_once a counts (x ∷ xs) (y ∷ ys) r s m n first none second never first_out second_out =
    let same : x ≡ y = taken_once a counts x y first_out.0 second_out.0 in
    all_once a y xs ys r s m n first none second never (subst (λ c. AllTakenOut a c xs r) same first_out.1) second_out.1

-- the next location is one
ready_within : (a : Automaton) (m n : ℕ) (done : List ℕ) (l : ℕ) → Within n m → Ready a m done l → Ready a n done l
ready_within a m n done l nm ready = record { remains = ready.remains; free = λ r rule named set. ready.free r rule named (nm r set) }

next_once : (a : Automaton) (m n : ℕ) (done : List ℕ) (k l : ℕ) → Within m n → Within n m → Next a m done k → Next a n done l → k ≡ l
next_once a m n done k l mn nm first second =
    neither_below k l (λ less. second.least k less (ready_within a m n done k nm first.ready))
    (λ less. first.least l less (ready_within a n m done l mn second.ready))

-- each item is next behind those before it and some that are done
abbrev BuiltOn : Automaton → ℕ → List ℕ → List ℕ → Type 0
BuiltOn a rules done [] = Unit {0}
BuiltOn a rules done (l ∷ ls) = Next a rules done l × BuiltOn a rules (done ++ l ∷ []) ls

-- all locations are placed
abbrev AllPlaced : Automaton → List ℕ → Type 0
AllPlaced a order = (l : ℕ) → l < length a.locations → Contains order l

built_on : (a : Automaton) (rules : ℕ) (done ls : List ℕ) → ((k l : ℕ) → slice_get ls k ≡ Some l → Next a rules (done ++ take k ls) l) → BuiltOn a rules done ls
built_on a rules done [] built = tt
built_on a rules done (l ∷ ls) built = (
  subst (λ xs. Next a rules xs l) (append-nil done) (built 0 l refl),
  built_on a rules (done ++ l ∷ []) ls (λ k x at. subst (λ xs. Next a rules xs x) (sym (append_assoc done (l ∷ []) (take k ls))) (built (suc k) x at)),
)

all_same : (a : Automaton) (m n : ℕ) (done xs ys : List ℕ) → Within m n → Within n m → BuiltOn a m done xs → BuiltOn a n done ys → AllPlaced a (done ++ xs)
    → AllPlaced a (done ++ ys) → xs ≡ ys
all_same a m n done [] [] mn nm first second all every = refl
all_same a m n done [] (y ∷ ys) mn nm first second all every =
    let next = second.0 in
    absurd (next.ready.remains (subst (λ xs. Contains xs y) (append-nil done) (all y next.exists)))
all_same a m n done (x ∷ xs) [] mn nm first second all every =
    let next = first.0 in
    absurd (next.ready.remains (subst (λ ys. Contains ys x) (append-nil done) (every x next.exists)))
all_same a m n done (x ∷ xs) (y ∷ ys) mn nm first second all every =
    let same : x ≡ y = next_once a m n done x y mn nm first.0 second.0 in
    let begun : done ++ x ∷ [] ≡ done ++ y ∷ [] = ap (λ z. done ++ z ∷ []) same in
    let rest = all_same a m n (done ++ y ∷ []) xs ys mn nm (subst (λ zs. BuiltOn a m zs xs) begun first.1) second.1
    (subst (λ zs. AllPlaced a zs) (sym (append_assoc done (x ∷ []) xs) ∙ ap (λ zs. zs ++ xs) begun) all)
    (subst (λ zs. AllPlaced a zs) (sym (append_assoc done (y ∷ []) ys)) every) in
    ap (λ z. z ∷ xs) same ∙ ap (λ zs. y ∷ zs) rest

-- the order by the rules of a support is one
order_once : (a : Automaton) (m n : ℕ) (xs ys : List ℕ) → Within m n → Within n m → IsLocationOrder a m xs → IsLocationOrder a n ys → xs ≡ ys
order_once a m n xs ys mn nm first second =
    all_same a m n [] xs ys mn nm (built_on a m [] xs first.built) (built_on a n [] ys second.built) (placed a m xs first) (placed a n ys second)

pub arranged_once : ArrangedStepsAreDetermined
arranged_once a counts xs ys first second =
    let rest = all_once a counts first.later second.later first.rest second.rest first.rules second.rules first.support first.no_cycle second.support
    second.no_cycle first.taken_out second.taken_out in
    let support = subst (λ c. Support c first.rules) rest first.support in
    let mn = support_within second.rest first.rules second.rules support second.support in
    let nm = support_within second.rest second.rules first.rules second.support support in
    let order = order_once a first.rules second.rules first.order second.order mn nm first.ordered second.ordered in
    first.listed ∙ ap (λ c. steps_along a c first.order) rest ∙ ap (λ o. steps_along a second.rest o) order ∙ sym second.listed
