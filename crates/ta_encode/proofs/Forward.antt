-- steps that go forward: where one leaves, neither it nor a later one arrives
use Rattle.ta_encode.proofs.Common.{◌≡◌, ◌≢◌, ℕ, zero, suc, List, [], ◌∷◌, arith, sym, ap, ◌∙◌, refl, slice_get, Some, Rule, Automaton, NoneInto, Onward}
use Rattle.ta_encode.proofs.Common.{GoesForward}

none_into : (a : Automaton) (l : ℕ) (os : List ℕ) → ((j r : ℕ) (late : Rule) → slice_get os j ≡ Some r → slice_get a.rules r ≡ Some late → l ≢ late.to)
    → NoneInto a l os
none_into a l [] h = tt
none_into a l (o ∷ os) h = ((λ rule named e. h 0 o rule refl named (sym e)), none_into a l os (λ j r late at. h (suc j) r late at))

pub onward_of : (a : Automaton) (os : List ℕ) → GoesForward a os → Onward a os
onward_of a [] h = tt
onward_of a (o ∷ os) h = (
  (λ rule named. none_into a rule.from (o ∷ os) (λ j r late at n. h 0 j o r rule late (omega arith) refl at named n)),
  onward_of a os (λ i j q r early late b at bt n m. h (suc i) (suc j) q r early late (omega arith) at bt n m),
)

none_at : (a : Automaton) (l : ℕ) (os : List ℕ) → NoneInto a l os → (j r : ℕ) (late : Rule) → slice_get os j ≡ Some r → slice_get a.rules r ≡ Some late
    → l ≢ late.to
none_at a l [] h j r late at named = absurd (cc)
none_at a l (o ∷ os) h zero r late at named = let e : o ≡ r = cc in (λ q. h.0 late (ap (slice_get a.rules) e ∙ named) (sym q))
none_at a l (o ∷ os) h (suc j) r late at named = none_at a l os h.1 j r late at named

pub forward_of : (a : Automaton) (os : List ℕ) → Onward a os → GoesForward a os
forward_of a [] h i j q r early late b at bt n m = absurd (cc)
forward_of a (o ∷ os) h zero j q r early late b at bt n m = let e : o ≡ q = cc in none_at a early.from (o ∷ os) (h.0 early (ap (slice_get a.rules) e ∙ n)) j r
    late bt m
forward_of a (o ∷ os) h (suc i) zero q r early late b at bt n m = absurd (omega arith)
forward_of a (o ∷ os) h (suc i) (suc j) q r early late b at bt n m = forward_of a os h.1 i j q r early late (omega arith) at bt n m
