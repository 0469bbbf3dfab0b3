-- Where all places may stand, and where the locations alone may.
use Rattle.ta_meaning.proofs.Common.{◌≡◌, ℕ, List, [], length, map, take, Result, sym, subst, ◌∙◌, arith, take_all, plain_name, plain_comparison, Spelled}
use Rattle.ta_meaning.proofs.Common.{TreeComparison, FileFault, Condition, Scope, Answers, condition_faults, listed_faults, Judges, ListedMask, first_places}
use Rattle.ta_meaning.proofs.Common.{ResolvedCondition}

abbrev scope : List (List ℕ) → List (List ℕ) → Scope
scope places allowed = record { places = places; allowed = allowed }

-- a condition over the first places, which are all
pub over_all : (names all : List (List ℕ)) (n : ℕ) (cs : List TreeComparison) (r : Result Condition FileFault) → all ≡ names → n ≡ length names
    → Answers (condition_faults (first_places names n) cs) (λ c. ResolvedCondition (take n names) (map plain_comparison cs) c) r
    → Answers (condition_faults (scope all all) cs) (λ c. ResolvedCondition all (map plain_comparison cs) c) r
over_all names all n cs r is count h =
    let Over : List (List ℕ) → List (List ℕ) → Type 0 = λ z w. Answers (condition_faults (scope z w) cs) (λ c. ResolvedCondition w (map plain_comparison cs) c)
    r in
    let whole : take n names ≡ all = take_all n names (omega arith) ∙ sym is in
    subst (λ w. Over all w) whole (subst (λ z. Over z (take n names)) (sym is) h)

-- listed names among some of the names that are declared
pub listed_along : (declared all some allowed : List (List ℕ)) (listed : List Spelled) (r : Result ℕ FileFault) → declared ≡ all → some ≡ allowed
    → Judges (listed_faults declared some [] listed) (λ mask. ListedMask some (map plain_name listed) mask) r
    → Judges (listed_faults all allowed [] listed) (λ mask. ListedMask allowed (map plain_name listed) mask) r
listed_along declared all some allowed listed r e f h =
    let Over : List (List ℕ) → List (List ℕ) → Type 0 = λ z w. Judges (listed_faults z w [] listed) (λ mask. ListedMask w (map plain_name listed) mask) r in
    subst (λ w. Over all w) f (subst (λ z. Over z some) e h)
