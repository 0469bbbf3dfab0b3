-- The kinds and the counts of tokens, one list after another.
use Rattle.ta_syntax.proofs.Common.{◌≡◌, refl, ap, List, [], ◌∷◌, ◌++◌, Limits, kinds, Counts, run, counted_after, StaysWithin, Kind, Token}

pub kinds-append : (a b : List Token) → kinds (a ++ b) ≡ kinds a ++ kinds b
kinds-append [] b = refl
kinds-append (t ∷ a) b = ap (λ (x : List Kind). t.kind ∷ x) (kinds-append a b)

pub run-append : (l : Limits) (c : Counts) (a b : List Kind) → run l c (a ++ b) ≡ run l (run l c a) b
run-append l c [] b = refl
run-append l c (k ∷ a) b = run-append l (counted_after l c k) a b

pub within-append : (l : Limits) (c : Counts) (a b : List Kind) → StaysWithin l c a → StaysWithin l (run l c a) b → StaysWithin l c (a ++ b)
within-append l c [] b p q = q
within-append l c (k ∷ a) b p q = (p.0, p.1, within-append l (counted_after l c k) a b p.2 q)
