-- firings from which the circuits are taken out stand in an order in which nobody arrives any more where one leaves
--
-- Go back from a firing: to one that leads into its source, and so on. Either that ends at a firing into whose source nothing
-- leads, or a location comes again, and the firings between are a circuit. In scope no rule of a circuit has an update, and each of
-- its locations is left as often as it is entered: taken out together, its firings change no sum. The firing at which going back
-- ends comes first in the order, and the same is done with the others. One or the other makes the list shorter each time.
use Rattle.ta_automaton.proofs.Common.{◌≡◌, ◌≢◌, ◌⊎◌, inl, inr, ℕ, zero, suc, ◌≤◌, ℤ, pos, List, [], ◌∷◌, ◌++◌, length, arith, sym, ap, ◌∙◌, refl, subst}
use Rattle.ta_automaton.proofs.Common.{slice_get, Some, append_assoc, ints, eqb_tells, coefficient, Rule, Automaton, Walk, InScope, In, total, length-append}
use Rattle.ta_base.proofs.Integers.{zero_or_more}
use Rattle.ta_base.proofs.Members.{In-left, In-right, in_append}
use Rattle.ta_base.proofs.Totals.{total-append}
use Rattle.ta_automaton.proofs.Thresholds.{updates_natural}
use Rattle.ta_automaton.proofs.Onward.{change_of, NoneInto, Onward, EachRule}
use Rattle.ta_automaton.proofs.Circuits.{EachPure, circuit_total}
use Rattle.std.proofs.lemmas.Option.{same_Some}

pub walk_append : (a : Automaton) (x : ℕ) (rs : List ℕ) (y : ℕ) (qs : List ℕ) (z : ℕ) → Walk a x rs y → Walk a y qs z → Walk a x (rs ++ qs) z
walk_append a x [] y qs z v w = subst (λ (l : ℕ). Walk a l qs z) (sym v) w
walk_append a x (r ∷ rs) y qs z v w = (v.0, v.1, v.2, walk_append a (v.0).to rs y qs z v.3 w)

-- a rule with a walk from its target back to its source has no update
pub pure_rule : (a : Automaton) → InScope a → (r : ℕ) (rule : Rule) → slice_get a.rules r ≡ Some rule → (rs : List ℕ) → Walk a rule.to rs rule.from → (x : ℕ)
    → coefficient rule.updates x ≡ pos 0
pure_rule a scope r rule named rs back x = elim (zero_or_more (coefficient rule.updates x) (updates_natural a r rule named x)) [
  | inl e ↦ e
  | inr some ↦ absurd (scope r rule named (x, some) rs back)
]

pure_behind : (a : Automaton) → InScope a → (x : ℕ) (before : List ℕ) (c : ℕ) (behind : List ℕ) → Walk a x before c → Walk a c behind x → EachPure a behind
pure_behind a scope x before c [] v w = tt
pure_behind a scope x before c (r ∷ rs) v w =
    let rule = w.0 in
    let round : Walk a rule.to (rs ++ before) rule.from = walk_append a rule.to rs x before rule.from w.3 (subst (Walk a x before) (sym w.2) v) in
    let step : Walk a c (r ∷ []) rule.to = (rule, w.1, w.2, refl) in (
      λ other named. pure_rule a scope r other named (rs ++ before)
          (let same : rule ≡ other = same_Some rule other (sym w.1 ∙ named) in subst (λ (q : Rule). Walk a q.to (rs ++ before) q.from) same round),
      pure_behind a scope x (before ++ r ∷ []) rule.to rs (walk_append a x before c (r ∷ []) rule.to v step) w.3,
    )

-- the rules of a circuit have no updates
pub circuit_pure : (a : Automaton) → InScope a → (x : ℕ) (rs : List ℕ) → Walk a x rs x → EachPure a rs
circuit_pure a scope x rs w = pure_behind a scope x [] x rs refl w

-- a firing into a location, with those before it and those behind it
record Into (a : Automaton) (x : ℕ) (os : List ℕ) : Type 0 where
  pub front : List ℕ
  pub firing : ℕ
  pub behind : List ℕ
  pub cut : os ≡ front ++ firing ∷ behind
  pub rule : Rule
  pub named : slice_get a.rules firing ≡ Some rule
  pub into : rule.to ≡ x

into_or : (a : Automaton) (x : ℕ) (os : List ℕ) → EachRule a os → NoneInto a x os ⊎ Into a x os
into_or a x [] h = inl tt
into_or a x (o ∷ os) h = elim (eqb_tells (h.0.0).to x) [
  | inl e ↦ inr (record { front = []; firing = o; behind = os; cut = refl; rule = h.0.0; named = h.0.1; into = e.1 })
  | inr ne ↦ elim (into_or a x os h.1) [
    | inl none ↦ inl (other o h.0.0 h.0.1 ne.1, none)
    | inr w ↦ inr (record {
      front = o ∷ w.front;
      firing = w.firing;
      behind = w.behind;
      cut = ap (λ (xs : List ℕ). o ∷ xs) w.cut;
      rule = w.rule;
      named = w.named;
      into = w.into;
    })
  ]
] where
  other : (o : ℕ) (rule : Rule) → slice_get a.rules o ≡ Some rule → rule.to ≢ x → (q : Rule) → slice_get a.rules o ≡ Some q → q.to ≢ x
  other o rule named ne q at = let e : Some rule ≡ Some q = sym named ∙ at in let same : rule ≡ q = cc in subst (λ (r : Rule). r.to ≢ x) same ne

-- a walk up to one of its rules
walk_cut : (a : Automaton) (x : ℕ) (front : List ℕ) (o : ℕ) (behind : List ℕ) (y : ℕ) (rule : Rule) → slice_get a.rules o ≡ Some rule
    → Walk a x (front ++ o ∷ behind) y → Walk a x (front ++ o ∷ []) rule.to
walk_cut a x [] o behind y rule named w =
    (w.0, w.1, w.2, (let e : Some w.0 ≡ Some rule = sym w.1 ∙ named in let same : w.0 ≡ rule = cc in ap (λ (q : Rule). q.to) same))
walk_cut a x (r ∷ front) o behind y rule named w = (w.0, w.1, w.2, walk_cut a (w.0).to front o behind y rule named w.3)

-- the second list has the items of the first
record Same (os ps : List ℕ) : Type 0 where
  pub sums : (g : ℕ → ℤ) → total g os ≡ total g ps
  pub back : (q : ℕ) → In q ps → In q os
  pub size : length os ≡ length ps

same_trans : (os ps qs : List ℕ) → Same os ps → Same ps qs → Same os qs
same_trans os ps qs s t = record {
  sums = λ g. s.sums g ∙ t.sums g;
  back = λ q i. s.back q (t.back q i);
  size = s.size ∙ t.size;
}

-- one item moves from behind to the front
same_moved : (rs front : List ℕ) (o : ℕ) (behind : List ℕ) → Same (rs ++ (front ++ o ∷ behind)) ((o ∷ rs) ++ (front ++ behind))
unfolding total
same_moved rs front o behind = record {
  sums = λ g. omega (
    arith,
    ints,
    total-append g rs (front ++ o ∷ behind),
    total-append g front (o ∷ behind),
    total-append g rs (front ++ behind),
    total-append
        g front behind,
  );
  back = λ q i. elim i [
    | inl e ↦ In-right q rs (front ++ o ∷ behind) (In-right q front (o ∷ behind) (inl e))
    | inr j ↦ elim (in_append q rs (front ++ behind) j) [
      | inl k ↦ In-left q rs (front ++ o ∷ behind) k
      | inr k ↦ In-right q rs (front ++ o ∷ behind)
          (elim (in_append q front behind k) [ inl m ↦ In-left q front (o ∷ behind) m | inr m ↦ In-right q front (o ∷ behind) (inr m) ])
    ]
  ];
  size = omega (
    arith,
    length-append rs (front ++ o ∷ behind),
    length-append front (o ∷ behind),
    length-append rs (front ++ behind),
    length-append front
        behind,
  );
}

same_cut : (front : List ℕ) (o : ℕ) (behind left : List ℕ) → Same ((front ++ o ∷ behind) ++ left) ((front ++ o ∷ []) ++ (behind ++ left))
same_cut front o behind left =
    let e : (front ++ o ∷ behind) ++ left ≡ (front ++ o ∷ []) ++ (behind ++ left) = simp append_assoc in
    record { sums = λ g. ap (total g) e; back = λ q i. subst (In q) (sym e) i; size = ap length e }

-- firings with one that nothing leads into the source of, or with a circuit
record Free (a : Automaton) (os : List ℕ) : Type 0 where
  pub firing : ℕ
  pub rule : Rule
  pub named : slice_get a.rules firing ≡ Some rule
  pub rest : List ℕ
  pub same : Same os (firing ∷ rest)
  pub none : NoneInto a rule.from (firing ∷ rest)

record Circuit (a : Automaton) (os : List ℕ) : Type 0 where
  pub place : ℕ
  pub circuit : List ℕ
  pub walk : Walk a place circuit place
  pub some : 1 ≤ length circuit
  pub rest : List ℕ
  pub same : Same os (circuit ++ rest)

each_rule_at : (a : Automaton) (os : List ℕ) (o : ℕ) → EachRule a os → In o os → (rule : Rule) × (slice_get a.rules o ≡ Some rule)
each_rule_at a [] o h i = absurd i
each_rule_at a (q ∷ os) o h (inl e) = (h.0.0, ap (slice_get a.rules) e ∙ h.0.1)
each_rule_at a (q ∷ os) o h (inr i) = each_rule_at a os o h.1 i

pub each_rule_from : (a : Automaton) (os : List ℕ) → ((o : ℕ) → In o os → (rule : Rule) × (slice_get a.rules o ≡ Some rule)) → EachRule a os
each_rule_from a [] f = tt
each_rule_from a (o ∷ os) f = (f o (inl refl), each_rule_from a os (λ q i. f q (inr i)))

each_rule_back : (a : Automaton) (os ps : List ℕ) → EachRule a os → ((q : ℕ) → In q ps → In q os) → EachRule a ps
each_rule_back a os ps h back = each_rule_from a ps (λ o i. each_rule_at a os o h (back o i))

none_append : (a : Automaton) (x : ℕ) (os ps : List ℕ) → NoneInto a x os → NoneInto a x ps → NoneInto a x (os ++ ps)
none_append a x [] ps h g = g
none_append a x (o ∷ os) ps h g = (h.0, none_append a x os ps h.1 g)

none_at : (a : Automaton) (x : ℕ) (os : List ℕ) (o : ℕ) → NoneInto a x os → In o os → (rule : Rule) → slice_get a.rules o ≡ Some rule → rule.to ≢ x
none_at a x [] o h i = absurd i
none_at a x (q ∷ os) o h (inl e) = λ rule at. h.0 rule (ap (slice_get a.rules) (sym e) ∙ at)
none_at a x (q ∷ os) o h (inr i) = none_at a x os o h.1 i

pub none_from : (a : Automaton) (x : ℕ) (os : List ℕ) → ((o : ℕ) → In o os → (rule : Rule) → slice_get a.rules o ≡ Some rule → rule.to ≢ x) → NoneInto a x os
none_from a x [] f = tt
none_from a x (o ∷ os) f = (f o (inl refl), none_from a x os (λ q i. f q (inr i)))

-- how far going back has come: a walk of firings, and the firings that are left
record Back (a : Automaton) (os : List ℕ) (fuel : ℕ) : Type 0 where
  pub first : ℕ
  pub rule : Rule
  pub named : slice_get a.rules first ≡ Some rule
  pub rs : List ℕ
  pub target : ℕ
  pub walk : Walk a rule.from (first ∷ rs) target
  pub left : List ℕ
  pub same : Same os ((first ∷ rs) ++ left)
  pub short : length left ≤ fuel

-- the walk gets longer by a firing into its beginning
back_on : (a : Automaton) (os : List ℕ) (fuel : ℕ) (b : Back a os fuel) → (w : Into a b.rule.from b.left) → (rest : ℕ) → fuel ≡ suc rest → Back a os rest
back_on a os fuel b w rest size = record {
  first = w.firing;
  rule = w.rule;
  named = w.named;
  rs = b.first ∷ b.rs;
  target = b.target;
  walk = (w.rule, w.named, refl, subst (λ (l : ℕ). Walk a l (b.first ∷ b.rs) b.target) (sym w.into) b.walk);
  left = w.front ++ w.behind;
  same = same_trans os ((b.first ∷ b.rs) ++ b.left) ((w.firing ∷ b.first ∷ b.rs) ++ (w.front ++ w.behind)) b.same
      (subst (λ (xs : List ℕ). Same ((b.first ∷ b.rs) ++ xs) ((w.firing ∷ b.first ∷ b.rs) ++ (w.front ++ w.behind))) (sym w.cut)
      (same_moved (b.first ∷ b.rs) w.front w.firing w.behind));
  short = omega (arith, b.short, ap (λ (xs : List ℕ). length xs) w.cut, length-append w.front (w.firing ∷ w.behind), length-append w.front w.behind);
}

-- the walk is round where one of its firings leads into its beginning
back_round : (a : Automaton) (os : List ℕ) (fuel : ℕ) (b : Back a os fuel) → Into a b.rule.from (b.first ∷ b.rs) → Circuit a os
back_round a os fuel b w =
    let x = b.rule.from in
    let circuit = w.front ++ w.firing ∷ [] in
    record {
      place = x;
      circuit = circuit;
      walk = subst (Walk a x circuit) w.into
          (walk_cut a x w.front w.firing w.behind b.target w.rule w.named (subst (λ (xs : List ℕ). Walk a x xs b.target) w.cut b.walk));
      some = omega (arith, length-append w.front (w.firing ∷ []));
      rest = w.behind ++ b.left;
      same = same_trans os ((b.first ∷ b.rs) ++ b.left) (circuit ++ (w.behind ++ b.left)) b.same
          (subst (λ (xs : List ℕ). Same (xs ++ b.left) (circuit ++ (w.behind ++ b.left))) (sym w.cut) (same_cut w.front w.firing w.behind b.left));
    }

-- going back from firing to firing comes to one that nothing leads into the source of, or round a circuit
go_back : (a : Automaton) (os : List ℕ) → EachRule a os → (fuel : ℕ) → Back a os fuel → Free a os ⊎ Circuit a os
go_back a os rules zero b =
    let all : EachRule a ((b.first ∷ b.rs) ++ b.left) = each_rule_back a os ((b.first ∷ b.rs) ++ b.left) rules b.same.back in
    elim (into_or a b.rule.from (b.first ∷ b.rs)
    (each_rule_back a ((b.first ∷ b.rs) ++ b.left) (b.first ∷ b.rs) all (λ q i. In-left q (b.first ∷ b.rs) b.left i))) [
      | inr w ↦ inr (back_round a os zero b w)
      | inl here ↦ elim (into_or a b.rule.from b.left
          (each_rule_back a ((b.first ∷ b.rs) ++ b.left) b.left all (λ q i. In-right q (b.first ∷ b.rs) b.left i))) [
            | inl none ↦ inl (record {
              firing = b.first;
              rule = b.rule;
              named = b.named;
              rest = b.rs
                  ++ b.left;
              same = b.same;
              none = none_append a b.rule.from (b.first ∷ b.rs) b.left here none;
            })
            | inr w ↦ absurd (omega (arith, b.short, ap (λ (xs : List ℕ). length xs) w.cut, length-append w.front (w.firing ∷ w.behind)))
          ]
    ]
go_back a os rules (suc fuel) b =
    let all : EachRule a ((b.first ∷ b.rs) ++ b.left) = each_rule_back a os ((b.first ∷ b.rs) ++ b.left) rules b.same.back in
    elim (into_or a b.rule.from (b.first ∷ b.rs)
    (each_rule_back a ((b.first ∷ b.rs) ++ b.left) (b.first ∷ b.rs) all (λ q i. In-left q (b.first ∷ b.rs) b.left i))) [
      | inr w ↦ inr (back_round a os (suc fuel) b w)
      | inl here ↦ elim (into_or a b.rule.from b.left
          (each_rule_back a ((b.first ∷ b.rs) ++ b.left) b.left all (λ q i. In-right q (b.first ∷ b.rs) b.left i))) [
            | inl none ↦ inl (record {
              firing = b.first;
              rule = b.rule;
              named = b.named;
              rest = b.rs
                  ++ b.left;
              same = b.same;
              none = none_append a b.rule.from (b.first ∷ b.rs) b.left here none;
            })
            | inr w ↦ go_back a os rules fuel (back_on a os (suc fuel) b w fuel refl)
          ]
    ]

free_or_circuit : (a : Automaton) (o : ℕ) (os : List ℕ) → EachRule a (o ∷ os) → Free a (o ∷ os) ⊎ Circuit a (o ∷ os)
free_or_circuit a o os h = go_back a (o ∷ os) h (length os) (record {
  first = o;
  rule = h.0.0;
  named = h.0.1;
  rs = [];
  target = (h.0.0).to;
  walk = (h.0.0, h.0.1, refl, refl);
  left = os;
  same = record { sums = λ g. refl; back = λ q i. i; size = refl };
  short = omega arith;
})

-- firings of some of a list's rules in order, with the same sum
pub record Rearranged (a : Automaton) (os : List ℕ) : Type 0 where
  pub firings : List ℕ
  pub onward : Onward a firings
  pub among : (q : ℕ) → In q firings → In q os
  pub sums : (i : ℕ) → total (change_of a i) firings ≡ total (change_of a i) os

pub rearrange : (a : Automaton) → InScope a → (fuel : ℕ) (os : List ℕ) → EachRule a os → length os ≤ fuel → Rearranged a os
unfolding total
rearrange a scope fuel [] h short = record { firings = []; onward = tt; among = λ q i. i; sums = λ i. refl }
rearrange a scope zero (o ∷ os) h short = absurd (omega arith)
rearrange a scope (suc fuel) (o ∷ os) h short = elim (free_or_circuit a o os h) [
  | inl f ↦ (
      let rest : EachRule a f.rest = each_rule_back a (o ∷ os) f.rest h (λ q i. f.same.back q (inr i)) in
      let more = rearrange a scope fuel f.rest rest (omega (arith, f.same.size)) in
      record {
        firings = f.firing ∷ more.firings;
        onward = (
          (λ rule named. let same : f.rule ≡ rule = same_Some f.rule rule (sym f.named ∙ named) in
              subst (λ (x : Rule). NoneInto a x.from (f.firing ∷ more.firings)) same
              (f.none.0, none_from a f.rule.from more.firings (λ q i. none_at a f.rule.from f.rest q f.none.1 (more.among q i)))),
          more.onward,
        );
        among = λ q i. elim i [ inl e ↦ f.same.back q (inl e) | inr j ↦ f.same.back q (inr (more.among q j)) ];
        sums = λ i. omega (arith, ints, more.sums i, f.same.sums (change_of a i));
      })
  | inr c ↦ (
      let rest : EachRule a c.rest = each_rule_back a (o ∷ os) c.rest h (λ q i. c.same.back q (In-right q c.circuit c.rest i)) in
      let more = rearrange a scope fuel c.rest rest (omega (arith, c.same.size, c.some, length-append c.circuit c.rest)) in
      record {
        firings = more.firings;
        onward = more.onward;
        among = λ q i. c.same.back q (In-right q c.circuit c.rest (more.among q i));
        sums = λ i. omega (
          arith,
          ints,
          more.sums i,
          c.same.sums (change_of a i),
          total-append (change_of a i) c.circuit c.rest,
          circuit_total a c.place
              c.circuit c.walk (circuit_pure a scope c.place c.circuit c.walk) i,
        );
      })
]
