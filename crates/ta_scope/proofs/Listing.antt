-- steps along an order of the locations go forward, and have the end of the counts
--
-- Each location comes in the order only when no rule of the support leads to it from another one that is left. So a later step
-- leads neither to a location that was left before nor to the one that is left now. Each rule has one source, which stands once in
-- the order: so it stands once among the steps, with its whole count, and sums over the steps are sums over the counts.
use Rattle.ta_scope.proofs.Common.{◌≡◌, ◌≢◌, inl, inr, ℕ, ◌+◌, ◌<◌, ℤ, pos, ◌*ℤ◌, ◌≤ℤ◌, List, [], ◌∷◌, ◌++◌, map, length, replicate, eqb, cond, Bool, true}
use Rattle.ta_scope.proofs.Common.{false, ◌&&◌, arith, sym, ap, ◌∙◌, refl, subst, slice_get, Option, Some, None, IsBitSet, Contains, append_assoc, append-nil}
use Rattle.ta_scope.proofs.Common.{zero-add, filter, int_lt, unsigned_abs, ints, cases_Bool, and_parts, false≢true, eqb-true, eqb_tells, map-append, *ℤ-zero}
use Rattle.ta_scope.proofs.Common.{zero-*ℤ, same_Some, above_zero, abs_natural, by_one, not_above_zero, filter_false, filter_true, get_middle, one_step}
use Rattle.ta_scope.proofs.Common.{in_append, in_replicate, Rule, Automaton, In, range_with_len, rule_change, total, times_in, total-append, total-same}
use Rattle.ta_scope.proofs.Common.{total-zero, total-swap, from_within, change_of, NoneInto, Onward, none_from, NoCycle, Next, IsBuilt, IsLocationOrder}
use Rattle.ta_scope.proofs.Common.{count_at, Support, is_step_from, steps_along, arranged_steps, steps_from, take_at, filter-append, Contains-append_left}
use Rattle.std.proofs.lemmas.Grind.{flat_map-append}
use Rattle.std.proofs.Math.IntN.{*ℤ_comm}
use Rattle.ta_base.specs.Sums.{one_if}
use Rattle.ta_base.proofs.Ranges.{numbers_more}
use Rattle.ta_base.proofs.Times.{times-total}
use Rattle.ta_base.proofs.Totals.{total-replicate, one_if-test}
use Rattle.ta_automaton.specs.Laws.{leads_out_of}
use Rattle.ta_scope.proofs.Circulations.{weighted}
use Rattle.std.proofs.Math.Bool.{and-false}

-- the unit steps of the rules that pass a test
abbrev passed : (ℕ → Bool) → (ℕ → ℤ) → List ℕ → List ℕ
passed test count ns = arranged_steps (map (λ r. (r, count r)) (filter test ns))

in_passed : (test : ℕ → Bool) (count : ℕ → ℤ) (ns : List ℕ) (q : ℕ) → In q (passed test count ns) → test q ≡ true
in_passed test count [] q i = absurd i
in_passed test count (n ∷ ns) q i = elim (cases_Bool (test n)) [
  | inl e ↦ elim (in_append q (replicate (unsigned_abs (count n)) n) (passed test count ns)
      (subst (λ (xs : List ℕ). In q (arranged_steps (map (λ r. (r, count r)) xs))) (filter_true test n ns e) i)) [
        | inl j ↦ ap test (in_replicate q (unsigned_abs (count n)) n j) ∙ e
        | inr j ↦ in_passed test count ns q j
      ]
  | inr e ↦ in_passed test count ns q (subst (λ (xs : List ℕ). In q (arranged_steps (map (λ r. (r, count r)) xs))) (filter_false test n ns e) i)
]

-- a rule that leaves a location with a count above 0
pub record StepFrom (a : Automaton) (counts : List ℤ) (l r : ℕ) : Type 0 where
  pub rule : Rule
  pub named : slice_get a.rules r ≡ Some rule
  pub from : rule.from ≡ l
  pub above : pos 1 ≤ℤ count_at counts r

leaving : (l : ℕ) (o : Option Rule) → leads_out_of l o ≡ true → (rule : Rule) × (o ≡ Some rule) × (rule.from ≡ l)
leaving l None h = absurd (false≢true h)
leaving l (Some rule) h = (rule, refl, eqb-true rule.from l h)

pub step_from : (a : Automaton) (counts : List ℤ) (l r : ℕ) → is_step_from a counts l r ≡ true → StepFrom a counts l r
step_from a counts l r h =
    let parts = and_parts _ _ h in
    let w = leaving l (slice_get a.rules r) parts.0 in
    record { rule = w.0; named = w.1; from = w.2; above = above_zero (count_at counts r) parts.1 }

steps_cons : (a : Automaton) (counts : List ℤ) (l : ℕ) (ls : List ℕ)
    → arranged_steps (steps_along a counts (l ∷ ls)) ≡ passed (is_step_from a counts l) (count_at counts) (range_with_len 0 (length a.rules))
    ++ arranged_steps (steps_along a counts ls)
steps_cons a counts l ls = flat_map-append (λ (step : ℕ × ℤ). replicate (unsigned_abs step.1) step.0)
    (map (λ r. (r, count_at counts r)) (filter (is_step_from a counts l) (range_with_len 0 (length a.rules)))) (steps_along a counts ls)

-- each unit step leaves a location of the order and has a count above 0
pub in_along : (a : Automaton) (counts : List ℤ) (ls : List ℕ) (q : ℕ) → In q (arranged_steps (steps_along a counts ls)) → (l : ℕ) × In l ls
    × StepFrom a counts l q
in_along a counts [] q i = absurd i
in_along a counts (l ∷ ls) q i = elim
    (in_append q (passed (is_step_from a counts l) (count_at counts) (range_with_len 0 (length a.rules))) (arranged_steps (steps_along a counts ls))
    (subst (In q) (steps_cons a counts l ls) i)) [
      | inl j ↦ (l, inl refl, step_from a counts l q (in_passed (is_step_from a counts l) (count_at counts) (range_with_len 0 (length a.rules)) q j))
      | inr j ↦ (let w = in_along a counts ls q j in (w.0, inr w.1, w.2))
    ]

-- each location is the next after those before it
abbrev After : Automaton → ℕ → List ℕ → List ℕ → Type 0
After a rules placed [] = Unit {0}
After a rules placed (l ∷ ls) = Next a rules placed l × After a rules (placed ++ l ∷ []) ls

after_from : (a : Automaton) (rules : ℕ) (placed ls : List ℕ) → IsBuilt a rules (placed ++ ls) → After a rules placed ls
after_from a rules placed [] built = tt
after_from a rules placed (l ∷ ls) built = (
  subst (λ (xs : List ℕ). Next a rules xs l) (take_at placed (l ∷ ls) (length placed) refl) (built (length placed) l (get_middle placed l ls)),
  after_from a rules (placed ++ l ∷ []) ls (subst (IsBuilt a rules) (sym (append_assoc placed (l ∷ []) ls)) built),
)

-- a later location isn't placed yet
not_placed : (a : Automaton) (rules : ℕ) (placed ls : List ℕ) → After a rules placed ls → (m : ℕ) → In m ls → Contains placed m → ⊥
not_placed a rules placed [] h m i c = absurd i
not_placed a rules placed (l ∷ ls) h m (inl e) c = h.0.ready.remains (subst (Contains placed) e c)
not_placed a rules placed (l ∷ ls) h m (inr i) c = not_placed a rules (placed ++ l ∷ []) ls h.1 m i (Contains-append_left placed (l ∷ []) m c)

onward_append : (a : Automaton) (l : ℕ) (xs ys : List ℕ) → ((q : ℕ) → In q xs → (rule : Rule) → slice_get a.rules q ≡ Some rule → rule.from ≡ l)
    → NoneInto a l (xs ++ ys) → Onward a ys → Onward a (xs ++ ys)
onward_append a l [] ys from none h = h
onward_append a l (x ∷ xs) ys from none h = (
  (λ rule named. subst (λ (m : ℕ). NoneInto a m ((x ∷ xs) ++ ys)) (sym (from x (inl refl) rule named)) none),
  onward_append a l xs ys (λ q i. from q (inr i)) none.1 h,
)

-- the unit steps along an order by the support go forward
onward_along : (a : Automaton) (counts : List ℤ) (rules : ℕ) → Support counts rules → NoCycle a rules → (placed ls : List ℕ) → After a rules placed ls
    → Onward a (arranged_steps (steps_along a counts ls))
onward_along a counts rules support acyclic placed [] h = tt
onward_along a counts rules support acyclic placed (l ∷ ls) h =
    let xs = passed (is_step_from a counts l) (count_at counts) (range_with_len 0 (length a.rules)) in
    let ys = arranged_steps (steps_along a counts ls) in
    let into : (q : ℕ) → In q (xs ++ ys) → (rule : Rule) → slice_get a.rules q ≡ Some rule → rule.to ≢ l = (λ q i rule named to.
    let w = in_along a counts (l ∷ ls) q (subst (In q) (sym (steps_cons a counts l ls)) i) in
    let s = w.2 in
    let same : s.rule ≡ rule = same_Some s.rule rule (sym s.named ∙ named) in
    let from : rule.from ≡ w.0 = ap (λ (r : Rule). r.from) (sym same) ∙ s.from in
    let member : IsBitSet rules q = (support q).1 s.above in
    elim (eqb_tells rule.from l) [
      | inl e ↦ acyclic q rule named member ([], to ∙ sym e.1, tt)
      | inr ne ↦ h.0.ready.free q rule named member
          (record { to = to; other = ne.1; remains = λ c. not_placed a rules placed (l ∷ ls) h w.0 w.1 (subst (Contains placed) from c) })
    ]) in
    let from : (q : ℕ) → In q xs → (rule : Rule) → slice_get a.rules q ≡ Some rule → rule.from ≡ l = (λ q i rule named.
    let s = step_from a counts l q (in_passed (is_step_from a counts l) (count_at counts) (range_with_len 0 (length a.rules)) q i) in
    let same : s.rule ≡ rule = same_Some s.rule rule (sym s.named ∙ named) in
    ap (λ (r : Rule). r.from) (sym same) ∙ s.from) in
    subst (Onward a) (sym (steps_cons a counts l ls))
    (onward_append a l xs ys from (none_from a l (xs ++ ys) into) (onward_along a counts rules support acyclic (placed ++ l ∷ []) ls h.1))

pub along_onward : (a : Automaton) (counts : List ℤ) (rules : ℕ) → Support counts rules → NoCycle a rules → (order : List ℕ) → IsLocationOrder a rules order
    → Onward a (arranged_steps (steps_along a counts order))
along_onward a counts rules support acyclic order is = onward_along a counts rules support acyclic [] order (after_from a rules [] order is.built)

-- sums over the unit steps
passed_total : (g : ℕ → ℤ) (test : ℕ → Bool) (count : ℕ → ℤ) → ((r : ℕ) → pos 0 ≤ℤ count r) → (ns : List ℕ)
    → total g (passed test count ns) ≡ total (λ r. cond (test r) (g r *ℤ count r) (pos 0)) ns
unfolding total
passed_total g test count natural [] = refl
passed_total g test count natural (n ∷ ns) = elim (cases_Bool (test n)) [
  | inl e ↦ rw e (
      let size = ap (λ z. g n *ℤ z) (abs_natural (count n) (natural n)) in
      omega (
        arith,
        ints,
        total-append g (replicate (unsigned_abs (count n)) n) (passed test count ns),
        total-replicate g (unsigned_abs (count n)) n,
        *ℤ_comm
            (pos (unsigned_abs (count n))) (g n),
        size,
        passed_total g test count natural ns,
      ))
  | inr e ↦ rw e (omega (arith, ints, passed_total g test count natural ns))
]

along_parts : (a : Automaton) (counts : List ℤ) → ((r : ℕ) → pos 0 ≤ℤ count_at counts r) → (g : ℕ → ℤ) (ls : List ℕ)
    → total g (arranged_steps (steps_along a counts ls)) ≡ total
    (λ l. total (λ r. cond (is_step_from a counts l r) (g r *ℤ count_at counts r) (pos 0)) (range_with_len 0 (length a.rules))) ls
unfolding total
along_parts a counts natural g [] = refl
along_parts a counts natural g (l ∷ ls) =
    let ns = range_with_len 0 (length a.rules) in
    omega (
      arith,
      ints,
      ap (total g) (steps_cons a counts l ls),
      total-append g (passed (is_step_from a counts l) (count_at counts) ns)
          (arranged_steps (steps_along a counts ls)),
      passed_total g (is_step_from a counts l) (count_at counts) natural ns,
      along_parts a counts natural g ls,
    )

no_test : (o : Option Rule) (z : ℤ) (ls : List ℕ) (b : Bool) → b ≡ false → total (λ l. cond (leads_out_of l o && b) z (pos 0)) ls ≡ pos 0
no_test o z ls b e = total-zero (λ l. cond (leads_out_of l o && b) z (pos 0)) ls (λ l. rw e (ap (λ t. cond t z (pos 0)) (and-false (leads_out_of l o))))

-- each rule has one source, which is once in the order
one_source : (a : Automaton) (order : List ℕ) → ((l : ℕ) → l < length a.locations → times_in l order ≡ 1) → (o : Option Rule)
    → ((rule : Rule) → o ≡ Some rule → rule.from < length a.locations) → (z : ℤ) → pos 0 ≤ℤ z → (i : ℕ)
    → total (λ l. cond (leads_out_of l o && int_lt (pos 0) z) (rule_change a o i *ℤ z) (pos 0)) order ≡ (rule_change a o i *ℤ z)
one_source a order once None within z natural i = total-zero _ order (λ l. refl) ∙ sym (zero-*ℤ z)
one_source a order once (Some rule) within z natural i = elim (cases_Bool (int_lt (pos 0) z)) [
  | inl e ↦ rw e (total-same (λ l. cond (eqb rule.from l && true) (rule_change a (Some rule) i *ℤ z) (pos 0))
      (λ l. one_if l rule.from *ℤ (rule_change a (Some rule) i *ℤ z)) order (one_if-test rule.from (rule_change a (Some rule) i *ℤ z))
      ∙ times-total (λ _. rule_change a (Some rule) i *ℤ z) rule.from order
      ∙ ap (λ (n : ℕ). (rule_change a (Some rule) i *ℤ z) *ℤ pos n) (once rule.from (within rule refl)) ∙ by_one (rule_change a (Some rule) i *ℤ z))
  | inr e ↦ (
      let below = not_above_zero z e in
      let none : z ≡ pos 0 = omega (arith, ints) in
      no_test (Some rule) (rule_change a (Some rule) i *ℤ z) order (int_lt (pos 0) z) e
      ∙ sym (ap (λ y. rule_change a (Some rule) i *ℤ y) none ∙ *ℤ-zero (rule_change a (Some rule) i)))
]

-- the unit steps along an order have the end of the counts
pub along_total : (a : Automaton) (counts : List ℤ) → ((r : ℕ) → pos 0 ≤ℤ count_at counts r) → (order : List ℕ)
    → ((l : ℕ) → l < length a.locations → times_in l order ≡ 1) → (i : ℕ)
    → total (change_of a i) (arranged_steps (steps_along a counts order)) ≡ weighted a counts i
along_total a counts natural order once i =
    let ns = range_with_len 0 (length a.rules) in
    along_parts a counts natural (change_of a i) order
    ∙ total-swap (λ l r. cond (is_step_from a counts l r) (change_of a i r *ℤ count_at counts r) (pos 0)) order ns
    ∙ total-same (λ r. total (λ l. cond (is_step_from a counts l r) (change_of a i r *ℤ count_at counts r) (pos 0)) order)
    (λ r. change_of a i r *ℤ count_at counts r) ns
    (λ r. one_source a order once (slice_get a.rules r) (λ rule named. from_within a r rule named) (count_at counts r) (natural r) i)

-- the steps of one more rule
pub steps_more : (a : Automaton) (counts : List ℤ) (l n : ℕ) (rule : Rule) (z : ℤ) → slice_get a.rules n ≡ Some rule → z ≡ count_at counts n
    → steps_from a counts l (n + 1) ≡ steps_from a counts l n ++ cond (eqb rule.from l && int_lt (pos 0) z) ((n, z) ∷ []) []
steps_more a counts l n rule z named e =
    let f : ℕ → ℕ × ℤ = λ r. (r, count_at counts r) in
    let t = is_step_from a counts l in
    let test : t n ≡ (eqb rule.from l && int_lt (pos 0) z) = ap (λ (o : Option Rule). leads_out_of l o && int_lt (pos 0) (count_at counts n)) named
    ∙ ap (λ (y : ℤ). eqb rule.from l && int_lt (pos 0) y) (sym e) in
    ap (λ (ns : List ℕ). map f (filter t ns)) (numbers_more 0 n ∙ ap (λ (x : ℕ). range_with_len 0 n ++ x ∷ []) (zero-add n))
    ∙ ap (map f) (filter-append t (range_with_len 0 n) (n ∷ []))
    ∙ map-append f (filter t (range_with_len 0 n)) (filter t (n ∷ []))
    ∙ ap (λ (xs : List (ℕ × ℤ)). steps_from a counts l n ++ xs) (one_step (count_at counts) n (t n) z e ∙ ap (λ (b : Bool). cond b ((n, z) ∷ []) []) test)

-- the steps from one more location
pub along_more : (a : Automaton) (counts : List ℤ) (xs : List ℕ) (l : ℕ) → steps_along a counts (xs ++ l ∷ []) ≡ steps_along a counts xs
    ++ steps_from a counts l (length a.rules)
along_more a counts xs l =
    let f : ℕ → List (ℕ × ℤ) = λ m. steps_from a counts m (length a.rules) in
    flat_map-append f xs (l ∷ []) ∙ ap (λ (ys : List (ℕ × ℤ)). steps_along a counts xs ++ ys) (append-nil (f l))
