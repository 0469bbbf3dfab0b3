-- firings that go forward, with those of a rule put together: they still go forward, and are no more steps than there are rules
use Rattle.ta_moments.proofs.Common.{◌≡◌, ◌≢◌, inl, inr, ℕ, zero, suc, ◌+◌, ◌≤◌, ℤ, ◌+ℤ◌, List, [], ◌∷◌, ◌++◌, map, length, arith, ints, sym, ap, ◌∙◌, refl}
use Rattle.ta_moments.proofs.Common.{eqb_tells, In, in_append, total, total-append, Automaton, replicate, Onward, length-map, each_from_in, In-left, In-right}
use Rattle.ta_moments.proofs.Common.{in_replicate, Distinct, fired_steps}
use Rattle.ta_automaton.proofs.Onward.{NoneInto}
use Rattle.std.proofs.lemmas.List.{replicate-append-replicate}
use Rattle.ta_base.proofs.Each.{each_in, no_more}

-- ---- under a block of one rule
none_under : (a : Automaton) (l n x : ℕ) (xs ys : List ℕ) → (NoneInto a l xs → NoneInto a l ys) → NoneInto a l (replicate n x ++ xs)
    → NoneInto a l (replicate n x ++ ys)
none_under a l zero x xs ys h none = h none
none_under a l (suc n) x xs ys h none = (none.0, none_under a l n x xs ys h none.1)

onward_under : (a : Automaton) (n x : ℕ) (xs ys : List ℕ) → ((l : ℕ) → NoneInto a l xs → NoneInto a l ys) → (Onward a xs → Onward a ys)
    → Onward a (replicate n x ++ xs) → Onward a (replicate n x ++ ys)
onward_under a zero x xs ys none h onward = h onward
onward_under a (suc n) x xs ys none h onward =
    ((λ rule named. none_under a rule.from (suc n) x xs ys (none rule.from) (onward.0 rule named)), onward_under a n x xs ys none h onward.1)

none_behind : (a : Automaton) (l n x : ℕ) (xs : List ℕ) → NoneInto a l (replicate n x ++ xs) → NoneInto a l xs
none_behind a l zero x xs none = none
none_behind a l (suc n) x xs none = none_behind a l n x xs none.1

onward_behind : (a : Automaton) (n x : ℕ) (xs : List ℕ) → Onward a (replicate n x ++ xs) → Onward a xs
onward_behind a zero x xs onward = onward
onward_behind a (suc n) x xs onward = onward_behind a n x xs onward.1

-- ---- steps without those of a rule
record Pulled (a : Automaton) (o : ℕ) (steps : List (ℕ × ℕ)) : Type 0 where
  pub count : ℕ
  pub rest : List (ℕ × ℕ)
  pub sums : (g : ℕ → ℤ) → total g (fired_steps steps) ≡ (total g (replicate count o) +ℤ total g (fired_steps rest))
  pub none : (l : ℕ) → NoneInto a l (fired_steps steps) → NoneInto a l (fired_steps rest)
  pub onward : Onward a (fired_steps steps) → Onward a (fired_steps rest)
  pub among : (q : ℕ) → In q (fired_steps rest) → In q (fired_steps steps)
  pub names : (q : ℕ) → In q (map (λ (s : ℕ × ℕ). s.0) rest) → In q (map (λ (s : ℕ × ℕ). s.0) steps) × (q ≢ o)
  pub distinct : Distinct (map (λ (s : ℕ × ℕ). s.0) steps) → Distinct (map (λ (s : ℕ × ℕ). s.0) rest)

pull : (a : Automaton) (o : ℕ) (steps : List (ℕ × ℕ)) → Pulled a o steps
unfolding total
pull a o [] = record { count = 0; rest = []; sums = λ g. refl; none = λ l h. h; onward = λ h. h; among = λ q i. i; names = λ q i. absurd i; distinct = λ d. d }
pull a o (s ∷ steps) =
    let r = pull a o steps in
    let rest = fired_steps r.rest in
    elim (eqb_tells s.0 o) [
      | inl same ↦ record {
        count = s.1 + r.count;
        rest = r.rest;
        sums = λ g.
            let whole = total-append g (replicate s.1 s.0) (fired_steps steps) in
            let here = ap (λ (x : ℕ). total g (replicate s.1 x)) same.1 in
            let both = ap (total g) (sym (replicate-append-replicate s.1 r.count o)) ∙ total-append g (replicate s.1 o) (replicate r.count o) in
            omega (arith, ints, whole, here, both, r.sums g);
        none = λ l h. r.none l (none_behind a l s.1 s.0 (fired_steps steps) h);
        onward = λ h. r.onward (onward_behind a s.1 s.0 (fired_steps steps) h);
        among = λ q i. In-right q (replicate s.1 s.0) (fired_steps steps) (r.among q i);
        names = λ q i. (let w = r.names q i in (inr w.0, w.1));
        distinct = λ d. r.distinct d.1;
      }
      | inr other ↦ record {
        count = r.count;
        rest = s ∷ r.rest;
        sums = λ g. omega (arith, ints, total-append g (replicate s.1 s.0) (fired_steps steps), total-append g (replicate s.1 s.0) rest, r.sums g);
        none = λ l h. none_under a l s.1 s.0 (fired_steps steps) rest (r.none l) h;
        onward = λ h. onward_under a s.1 s.0 (fired_steps steps) rest r.none r.onward h;
        among = λ q i. elim (in_append q (replicate s.1 s.0) rest i) [
          | inl here ↦ In-left q (replicate s.1 s.0) (fired_steps steps) here
          | inr later ↦ In-right q (replicate s.1 s.0) (fired_steps steps) (r.among q later)
        ];
        names = λ q i. elim i [
          | inl e ↦ (inl e, λ same. other.1 (sym e ∙ same))
          | inr j ↦ (let w = r.names q j in (inr w.0, w.1))
        ];
        distinct = λ d. (
          each_from_in (λ y. s.0 ≡ y → ⊥) (map (λ (x : ℕ × ℕ). x.0) r.rest)
              (λ q i. each_in (λ y. s.0 ≡ y → ⊥) (map (λ (x : ℕ × ℕ). x.0) steps) q d.0 (r.names q i).0),
          r.distinct d.1,
        );
      }
    ]

-- ---- all firings
pub record Grouped (a : Automaton) (os : List ℕ) : Type 0 where
  pub steps : List (ℕ × ℕ)
  pub sums : (g : ℕ → ℤ) → total g (fired_steps steps) ≡ total g os
  pub none : (l : ℕ) → NoneInto a l os → NoneInto a l (fired_steps steps)
  pub onward : Onward a os → Onward a (fired_steps steps)
  pub among : (q : ℕ) → In q (fired_steps steps) → In q os
  pub names : (q : ℕ) → In q (map (λ (s : ℕ × ℕ). s.0) steps) → In q os
  pub distinct : Distinct (map (λ (s : ℕ × ℕ). s.0) steps)

none_block : (a : Automaton) (l n x : ℕ) (xs : List ℕ) → NoneInto a l (x ∷ xs) → NoneInto a l (replicate n x ++ xs)
none_block a l zero x xs h = h.1
none_block a l (suc n) x xs h = (h.0, none_block a l n x xs h)

onward_block : (a : Automaton) (n x : ℕ) (xs : List ℕ) → Onward a (x ∷ xs) → Onward a (replicate n x ++ xs)
onward_block a zero x xs h = h.1
onward_block a (suc n) x xs h = ((λ rule named. none_block a rule.from (suc n) x xs (h.0 rule named)), onward_block a n x xs h)

pub group : (a : Automaton) (os : List ℕ) → Grouped a os
unfolding total
group a [] = record { steps = []; sums = λ g. refl; none = λ l h. h; onward = λ h. h; among = λ q i. i; names = λ q i. i; distinct = tt }
group a (o ∷ os) =
    let r = group a os in
    let p = pull a o r.steps in
    let rest = fired_steps p.rest in
    record {
      steps = (o, suc p.count) ∷ p.rest;
      sums = λ g. omega (arith, ints, total-append g (replicate p.count o) rest, p.sums g, r.sums g);
      none = λ l h. none_block a l (suc p.count) o rest (h.0, p.none l (r.none l h.1));
      onward = λ h. onward_block a (suc p.count) o rest
          ((λ rule named. ((h.0 rule named).0, p.none rule.from (r.none rule.from (h.0 rule named).1))), p.onward (r.onward h.1));
      among = λ q i. elim (in_append q (replicate (suc p.count) o) rest i) [
        | inl here ↦ inl (in_replicate q (suc p.count) o here)
        | inr later ↦ inr (r.among q (p.among q later))
      ];
      names = λ q i. elim i [ inl e ↦ inl e | inr j ↦ inr (r.names q (p.names q j).0) ];
      distinct = (each_from_in (λ y. o ≡ y → ⊥) (map (λ (x : ℕ × ℕ). x.0) p.rest) (λ q i same. (p.names q i).1 (sym same)), p.distinct r.distinct);
    }

-- firings of rules of a list, put together, are no more steps than the list is long
pub grouped_few : (a : Automaton) (os rs : List ℕ) (g : Grouped a os) → ((q : ℕ) → In q os → In q rs) → length g.steps ≤ length rs
grouped_few a os rs g h = omega
    (arith, no_more (map (λ (s : ℕ × ℕ). s.0) g.steps) rs g.distinct (λ q i. h q (g.names q i)), length-map g.steps (λ (s : ℕ × ℕ). s.0))
