-- where every cycle is a self-loop, each location has a height: the most rules that lead on from it, one after another, to other locations
use Rattle.ta_rest.proofs.Common.{◌≡◌, ◌≢◌, inl, inr, ℕ, zero, suc, ◌+◌, ◌<◌, ◌≤◌, List, [], ◌∷◌, length, eqb, cond, not, ◌&&◌, Bool, true, false, arith, sym}
use Rattle.ta_rest.proofs.Common.{ap, ◌∙◌, refl, subst, slice_get, Some, eqb-true, cases_Bool, and_parts, nat_tests, AllByRecursion, not_same, Rule, Automaton}
use Rattle.ta_rest.proofs.Common.{Distinct, In, Walk, from_within, to_within, LoopsAlone}
use Rattle.std.proofs.Common.{max}
use Rattle.ta_base.proofs.Naturals.{max_is, max_left, max_right}
use Rattle.ta_base.proofs.Each.{distinct_length, each_from_in}

-- rules that lead on, one after another, each to another location
abbrev pub LeadOn : Automaton → ℕ → List ℕ → Type 0
LeadOn a x [] = Unit {0}
LeadOn a x (r ∷ rs) = (rule : Rule) × (slice_get a.rules r ≡ Some rule) × (rule.from ≡ x) × (rule.from ≢ rule.to) × LeadOn a rule.to rs

-- the locations on the way
abbrev pub visited : (a : Automaton) (x : ℕ) (rs : List ℕ) → LeadOn a x rs → List ℕ
visited a x [] m = x ∷ []
visited a x (r ∷ rs) m = x ∷ visited a (m.0).to rs m.4

visited_length : (a : Automaton) (x : ℕ) (rs : List ℕ) (m : LeadOn a x rs) → length (visited a x rs m) ≡ suc (length rs)
visited_length a x [] m = refl
visited_length a x (r ∷ rs) m = ap suc (visited_length a (m.0).to rs m.4)

visited_below : (a : Automaton) (x : ℕ) (rs : List ℕ) (m : LeadOn a x rs) → x < length a.locations
    → AllByRecursion (λ y. y < length a.locations) (visited a x rs m)
visited_below a x [] m b = (b, tt)
visited_below a x (r ∷ rs) m b = (b, visited_below a (m.0).to rs m.4 (to_within a r m.0 m.1))

-- a walk leads to each of them
visited_walk : (a : Automaton) (x : ℕ) (rs : List ℕ) (m : LeadOn a x rs) (y : ℕ) → In y (visited a x rs m) → (walk : List ℕ) × Walk a x walk y
visited_walk a x [] m y (inl e) = ([], sym e)
visited_walk a x [] m y (inr i) = absurd i
visited_walk a x (r ∷ rs) m y (inl e) = ([], sym e)
visited_walk a x (r ∷ rs) m y (inr i) = let w = visited_walk a (m.0).to rs m.4 y i in (r ∷ w.0, (m.0, m.1, m.2, w.1))

visited_distinct : (a : Automaton) → LoopsAlone a → (x : ℕ) (rs : List ℕ) (m : LeadOn a x rs) → Distinct (visited a x rs m)
visited_distinct a alone x [] m = (tt, tt)
visited_distinct a alone x (r ∷ rs) m = (
  each_from_in (λ y. x ≡ y → ⊥) (visited a (m.0).to rs m.4) (λ y i e.
      let w = visited_walk a (m.0).to rs m.4 y i in
      m.3 (alone r m.0 m.1 w.0 (subst (Walk a (m.0).to w.0) (sym e ∙ sym m.2) w.1))),
  visited_distinct a alone (m.0).to rs m.4,
)

-- fewer rules lead on than there are locations
pub few_lead_on : (a : Automaton) → LoopsAlone a → (x : ℕ) (rs : List ℕ) → LeadOn a x rs → x < length a.locations → suc (length rs) ≤ length a.locations
few_lead_on a alone x rs m b =
    let short = distinct_length (length a.locations) (visited a x rs m) (visited_distinct a alone x rs m) (visited_below a x rs m b) in
    omega (arith, visited_length a x rs m)

-- whether a rule leads from a location to another
abbrev pub leads_on : ℕ → Rule → Bool
leads_on l rule = eqb rule.from l && not (eqb rule.from rule.to)

-- one more than the greatest height to which one of some rules leads on, 0 if none does
unfoldable pub best : (ℕ → ℕ) → ℕ → List Rule → ℕ
best h l [] = 0
best h l (rule ∷ rules) = max (cond (leads_on l rule) (suc (h rule.to)) 0) (best h l rules)

-- the most rules that lead on from a location, up to a number of them
unfoldable pub height : Automaton → ℕ → ℕ → ℕ
height a zero l = 0
height a (suc fuel) l = best (height a fuel) l a.rules

leads_true : (l : ℕ) (rule : Rule) → rule.from ≡ l → rule.from ≢ rule.to → leads_on l rule ≡ true
leads_true l rule here apart = let s : eqb rule.from l ≡ true = grind (arith, nat_tests) in let t : eqb rule.from rule.to ≡ false = grind (arith, nat_tests) in
    rw s (rw t refl)

best_over : (h : ℕ → ℕ) (l : ℕ) (rules : List Rule) (r : ℕ) (rule : Rule) → slice_get rules r ≡ Some rule → rule.from ≡ l → rule.from ≢ rule.to
    → suc (h rule.to) ≤ best h l rules
unfolding best
best_over h l [] r rule named here apart = absurd (cc)
best_over h l (first ∷ rules) zero rule named here apart =
    let same : first ≡ rule = cc in
    let mine : cond (leads_on l first) (suc (h first.to)) 0 ≡ suc (h rule.to) = ap (λ (q : Rule). cond (leads_on l q) (suc (h q.to)) 0) same
    ∙ ap (λ b. cond b (suc (h rule.to)) 0) (leads_true l rule here apart) in
    omega (arith, mine, max_left (cond (leads_on l first) (suc (h first.to)) 0) (best h l rules))
best_over h l (first ∷ rules) (suc r) rule named here apart =
    omega (arith, best_over h l rules r rule named here apart, max_right (cond (leads_on l first) (suc (h first.to)) 0) (best h l rules))

-- as many rules lead on
abbrev pub Attained : Automaton → ℕ → ℕ → Type 0
Attained a l n = (rs : List ℕ) × LeadOn a l rs × (length rs ≡ n)

best_attained : (a : Automaton) (h : ℕ → ℕ) → ((l : ℕ) → Attained a l (h l)) → (l k : ℕ) (rules : List Rule)
    → ((r : ℕ) (rule : Rule) → slice_get rules r ≡ Some rule → slice_get a.rules (k + r) ≡ Some rule) → Attained a l (best h l rules)
unfolding best
best_attained a h each l k [] named = ([], tt, refl)
best_attained a h each l k (rule ∷ rules) named =
    let others = best_attained a h each l (k + 1) rules
    (λ r q at. subst (λ n. slice_get a.rules n ≡ Some q) (let e : k + suc r ≡ k + 1 + r = omega arith in e) (named (suc r) q at)) in
    elim (cases_Bool (leads_on l rule)) [
      | inl t ↦ (
          let parts = and_parts (eqb rule.from l) (not (eqb rule.from rule.to)) t in
          let on = each rule.to in
          let at : slice_get a.rules k ≡ Some rule = subst (λ n. slice_get a.rules n ≡ Some rule) (let e : k + 0 ≡ k = omega arith in e) (named 0 rule refl) in
          let longer : Attained a l (suc (h rule.to)) =
          (k ∷ on.0, (rule, at, eqb-true rule.from l parts.0, not_same rule.from rule.to parts.1, on.1), ap suc on.2) in
          elim (max_is (suc (h rule.to)) (best h l rules)) [
            | inl e ↦ subst (Attained a l) (sym (ap (λ b. max (cond b (suc (h rule.to)) 0) (best h l rules)) t ∙ e)) longer
            | inr e ↦ subst (Attained a l) (sym (ap (λ b. max (cond b (suc (h rule.to)) 0) (best h l rules)) t ∙ e)) others
          ])
      | inr f ↦
          let none : max 0 (best h l rules) ≡ best h l rules = grind (arith, nat_tests) in
          subst (Attained a l) (sym (ap (λ b. max (cond b (suc (h rule.to)) 0) (best h l rules)) f ∙ none)) others
    ]

height_attained : (a : Automaton) (fuel l : ℕ) → Attained a l (height a fuel l)
unfolding height
height_attained a zero l = ([], tt, refl)
height_attained a (suc fuel) l = best_attained a (height a fuel) (height_attained a fuel) l 0 a.rules
    (λ r rule at. subst (λ n. slice_get a.rules n ≡ Some rule) (let e : r ≡ 0 + r = omega arith in e) at)

-- no more rules lead on than the height says
height_most : (a : Automaton) (fuel x : ℕ) (rs : List ℕ) → LeadOn a x rs → length rs ≤ fuel → length rs ≤ height a fuel x
unfolding height
height_most a fuel x [] m short = omega arith
height_most a zero x (r ∷ rs) m short = absurd (omega arith)
height_most a (suc fuel) x (r ∷ rs) m short =
    let rest = height_most a fuel (m.0).to rs m.4 (omega arith) in
    let here = best_over (height a fuel) x a.rules r m.0 m.1 m.2 m.3 in
    omega arith

-- the height of a location
abbrev pub height_of : Automaton → ℕ → ℕ
height_of a l = height a (length a.locations) l

pub height_below : (a : Automaton) → LoopsAlone a → (l : ℕ) → l < length a.locations → suc (height_of a l) ≤ length a.locations
height_below a alone l b =
    let on = height_attained a (length a.locations) l in
    let few = few_lead_on a alone l on.0 on.1 b in
    let is = on.2 in
    omega arith

-- a rule leads on to a location that is lower
pub height_falls : (a : Automaton) → LoopsAlone a → (r : ℕ) (rule : Rule) → slice_get a.rules r ≡ Some rule → rule.from ≢ rule.to
    → suc (height_of a rule.to) ≤ height_of a rule.from
height_falls a alone r rule named apart =
    let on = height_attained a (length a.locations) rule.to in
    let is = on.2 in
    let longer : LeadOn a rule.from (r ∷ on.0) = (rule, named, refl, apart, on.1) in
    let few = few_lead_on a alone rule.from (r ∷ on.0) longer (from_within a r rule named) in
    let most = height_most a (length a.locations) rule.from (r ∷ on.0) longer (omega arith) in
    omega arith
