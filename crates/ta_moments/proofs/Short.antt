-- how many accelerated steps the run of a whole node has: its moments are the events and those of guards, each of which is asked once
use Rattle.ta_moments.proofs.Common.{Node, AllByRecursion, Exists, Vector, first_vector, before_vector, after_vector, with_fact, length-append, length-map}
use Rattle.ta_moments.proofs.Common.{length-range_with_len, range_with_len, eq-eqb, ◌≡◌, ◌⊎◌, inl, inr, ℕ, ◌+◌, ◌<◌, ◌≤◌, List, [], ◌∷◌, length, Option, Bool}
use Rattle.ta_moments.proofs.Common.{true, false, not, ◌&&◌, arith, sym, ap, ◌∙◌, refl, subst, false≢true, In, Automaton, Pattern, Point, Pair, Known, known}
use Rattle.ta_moments.proofs.Common.{event_vector, end_vector, Asking, known_at, is_open, question_of, same_question, AreAnswers, each_from_in, Distinct}
use Rattle.std.proofs.Math.Nat.{mul-le-mul_right}
use Rattle.ta_moments.specs.declared.fact.Question.{Question}
use Rattle.ta_moments.specs.declared.fact.Question.TheVariants.{OfGuard}
use Rattle.ta_moments.specs.declared.fact.Fact.{Fact}
use Rattle.ta_moments.specs.declared.fact.Fact.TheVariants.{Never, First, Stands, Last, Before, After, Same, Vacant, Fails}
use Rattle.ta_base.proofs.Each.{distinct_length}
use Rattle.ta_moments.specs.Nodes.{AskedOnce, WholeNodesHaveShortRuns}
use Rattle.ta_moments.proofs.Wholes.{whole_run}

-- the guards of first and last uses
used : Fact → List ℕ → List ℕ
used (First g) gs = g ∷ gs
used (Last g) gs = g ∷ gs
used (Never g) gs = gs
used (Stands g) gs = gs
used (Before x y) gs = gs
used (After x y) gs = gs
used (Same x y) gs = gs
used (Vacant r) gs = gs
used (Fails r g) gs = gs

used_guards : List Fact → List ℕ
used_guards [] = []
used_guards (fact ∷ past) = used fact (used_guards past)

-- each of them has a moment
many_more : (a : Automaton) (p : Pattern) (silent : List ℕ) (end : Vector) (k : Known) (n : ℕ) (gs : List ℕ) → length k.moments ≡ n + length gs → (fact : Fact)
    → length (with_fact a p silent end k fact).moments ≡ n + length (used fact gs)
unfolding used
many_more a p silent end k n gs e (First g) = omega (arith, e, length-append k.moments (Point (first_vector a p k.unknowns g) ∷ []))
many_more a p silent end k n gs e (Last g) = omega
    (arith, e, length-append k.moments (Pair (before_vector a p end k.unknowns g) (after_vector a p end k.unknowns g) ∷ []))
many_more a p silent end k n gs e (Never g) = omega (arith, e, length-append k.moments [])
many_more a p silent end k n gs e (Stands g) = omega (arith, e, length-append k.moments [])
many_more a p silent end k n gs e (Before x y) = omega (arith, e, length-append k.moments [])
many_more a p silent end k n gs e (After x y) = omega (arith, e, length-append k.moments [])
many_more a p silent end k n gs e (Same x y) = omega (arith, e, length-append k.moments [])
many_more a p silent end k n gs e (Vacant r) = omega (arith, e, length-append k.moments [])
many_more a p silent end k n gs e (Fails r g) = omega (arith, e, length-append k.moments [])

many_moments : (a : Automaton) (p : Pattern) (silent : List ℕ) (candidate : Option ℕ) (past : List Fact)
    → length (known a p silent candidate past).moments ≡ length p.events + length (used_guards past)
unfolding known used_guards
many_moments a p silent candidate [] = omega
    (arith, length-map (range_with_len 0 (length p.events)) (λ e. Point (event_vector a p e)), length-range_with_len 0 (length p.events))
many_moments a p silent candidate (fact ∷ past) = many_more a p silent (end_vector a p candidate) (known a p silent candidate past) (length p.events)
    (used_guards past) (many_moments a p silent candidate past) fact

-- what each of them was asked
used_cases : (fact : Fact) (gs : List ℕ) → (used fact gs ≡ gs) ⊎ ((g : ℕ) × (question_of fact ≡ OfGuard g) × (used fact gs ≡ g ∷ gs))
unfolding used
used_cases (First g) gs = inr (g, refl, refl)
used_cases (Last g) gs = inr (g, refl, refl)
used_cases (Never g) gs = inl refl
used_cases (Stands g) gs = inl refl
used_cases (Before x y) gs = inl refl
used_cases (After x y) gs = inl refl
used_cases (Same x y) gs = inl refl
used_cases (Vacant r) gs = inl refl
used_cases (Fails r g) gs = inl refl

still_asked : (fact : Fact) (past : List Fact) (question : Question) → is_open past question ≡ false → is_open (fact ∷ past) question ≡ false
still_asked fact past question e = ap (λ b. not (same_question (question_of fact) question) && b) e
    ∙ never (not (same_question (question_of fact) question)) where
      never : (b : Bool) → (b && false) ≡ false
      never true = refl
      never false = refl

used_asked : (past : List Fact) (g : ℕ) → In g (used_guards past) → is_open past (OfGuard g) ≡ false
unfolding used_guards
used_asked [] g i = absurd i
used_asked (fact ∷ past) g i = elim (used_cases fact (used_guards past)) [
  | inl same ↦ still_asked fact past (OfGuard g) (used_asked past g (subst (In g) same i))
  | inr w ↦ elim (subst (In g) w.2 i) [
    | inl e ↦ (
        let asked_here : same_question (question_of fact) (OfGuard g) ≡ true = ap (λ (q : Question). same_question q (OfGuard g)) w.1 ∙ eq-eqb w.0 g (sym e) in
        ap (λ b. not b && is_open past (OfGuard g)) asked_here)
    | inr j ↦ still_asked fact past (OfGuard g) (used_asked past g j)
  ]
]

used_once : (past : List Fact) → AskedOnce past → Distinct (used_guards past)
unfolding used_guards
used_once [] h = tt
used_once (fact ∷ past) h = elim (used_cases fact (used_guards past)) [
  | inl same ↦ subst (λ (gs : List ℕ). Distinct gs) (sym same) (used_once past h.1)
  | inr w ↦ subst (λ (gs : List ℕ). Distinct gs) (sym w.2) (
    each_from_in (λ y. w.0 ≡ y → ⊥) (used_guards past)
        (λ q i same. false≢true (sym (used_asked past q i) ∙ ap (λ x. is_open past (OfGuard x)) (sym same) ∙ ap (is_open past) (sym w.1) ∙ h.0)),
    used_once past h.1,
  )
]

used_exist : (a : Automaton) (p : Pattern) (asking : Asking) (candidate : Option ℕ) (past : List Fact) → AreAnswers a p asking candidate past
    → AllByRecursion (λ g. g < length a.rise + length a.fall) (used_guards past)
unfolding used_guards
used_exist a p asking candidate [] h = tt
used_exist a p asking candidate (fact ∷ past) h =
    let k = known a p asking.silent candidate past in
    let rest = used_exist a p asking candidate past h.2 in
    elim (used_cases fact (used_guards past)) [
      | inl same ↦ subst (λ (gs : List ℕ). AllByRecursion (λ g. g < length a.rise + length a.fall) gs) (sym same) rest
      | inr w ↦ subst (λ (gs : List ℕ). AllByRecursion (λ g. g < length a.rise + length a.fall) gs) (sym w.2) (subst (Exists a p asking k) w.1 h.0, rest)
    ]

-- where each question was asked once, there are at most as many moments as events and guards
pub few_moments : (a : Automaton) (p : Pattern) (asking : Asking) (node : Node) → AreAnswers a p asking node.candidate node.past → AskedOnce node.past
    → length (known_at a p asking node).moments ≤ length p.events + (length a.rise + length a.fall)
few_moments a p asking node answered once =
    let used_few = distinct_length (length a.rise + length a.fall) (used_guards node.past) (used_once node.past once)
    (used_exist a p asking node.candidate node.past answered) in
    omega (arith, many_moments a p asking.silent node.candidate node.past, used_few)

pub short_runs : WholeNodesHaveShortRuns
short_runs a p earlier scope asking node vs w once =
    let r = whole_run a p earlier scope asking node vs w in
    let ms = (known_at a p asking node).moments in
    let fewer_moments = few_moments a p asking node w.answered once in
    let few = r.few in
    record {
      run = record { first = r.first; rules = r.rules; begins = r.begins; occurs = r.occurs };
      few = record {
        steps = few.steps;
        are = few.are;
        few = (let bound = mul-le-mul_right (length a.rules + 1) fewer_moments in omega (arith, few.few, bound));
      };
    }
