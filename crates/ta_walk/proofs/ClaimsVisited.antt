-- a visit of a claim's tree is one of the search that shows the claim
use Rattle.ta_walk.proofs.Common.{◌≡◌, ℕ, List, subst, Node, Search, IsVisitEnd, Element}
use Rattle.ta_walk.specs.declared.end.VisitEnd.{VisitEnd}

pub visit_of : (s t : Search Element) (m n budget : ℕ) (Keeps : List Node → Type 0) (end : VisitEnd) → s ≡ t → m ≡ n → IsVisitEnd s m budget Keeps end
    → IsVisitEnd t n budget Keeps end
visit_of s t m n budget Keeps end same number h = subst (λ (k : ℕ). IsVisitEnd t k budget Keeps end) number
    (subst (λ (q : Search Element). IsVisitEnd q m budget Keeps end) same h)
