-- from counts to the next ones of a chain
--
-- The firings between two counts are put into an order that goes forward (`Rearranged` of ta_automaton), all firings of a rule in
-- one accelerated step. Counters are natural at both ends and so between them; the guards hold as the link of the chain says. Link
-- by link that gives a run that comes through every position of the chain.
use Rattle.ta_moments.proofs.Common.{◌≡◌, ◌≢◌, inl, inr, ℕ, zero, suc, zero-add, ◌+◌, ◌-◌, ◌<◌, ◌≤◌, ℤ, pos, ◌+ℤ◌, ◌*ℤ◌, ◌≤ℤ◌, List, [], ◌∷◌, ◌++◌, length}
use Rattle.ta_moments.proofs.Common.{get_or, slice_get, Some, None, Option, true, false, arith, sym, ap, ◌∙◌, refl, subst, ints, cases_Bool, eqb_tells}
use Rattle.ta_moments.proofs.Common.{eqb-false, not-true, and_parts, false≢true, In, in_filter, in_append, range_with_len, length-append, append_assoc}
use Rattle.ta_moments.proofs.Common.{same_Some, distributes, one_if, Fits, value_at-location, has_bit, total, total-append, terms_value-same, Automaton}
use Rattle.ta_moments.proofs.Common.{Pattern, Config, Row, RowHolds, value_of, Steps, Step, value_at, change_of, location_place, moving_rules, is_moving}
use Rattle.ta_moments.proofs.Common.{IsBitSet, replicate, length-replicate, *ℤ_comm, in_replicate, one_if-ne, Onward, after, At, InScope, Rule, Counts}
use Rattle.ta_moments.proofs.Common.{NoneFewer, Comparable, InSteps, fired_steps, firings_in, most_steps, value_after, Link, Chain, ComesThrough}
use Rattle.std.specs.Prelude.{min, slice_index}
use Rattle.ta_base.proofs.Lists.{without_last, only_item}
use Rattle.ta_base.proofs.Naturals.{untouched}
use Rattle.ta_base.proofs.Totals.{total-replicate}
use Rattle.ta_automaton.proofs.Onward.{EachRule, Piece, change_location, fire_in_order, holds_before_last}
use Rattle.ta_automaton.proofs.Trails.{Trail, Grows}
use Rattle.ta_encode.proofs.Appending.{trail_append, trail_begun}
use Rattle.ta_automaton.proofs.Rearranged.{each_rule_from, rearrange}
use Rattle.ta_moments.specs.Chains.{Stands, LeadsOn}
use Rattle.ta_moments.specs.Chains.{RunsAlong}
use Rattle.ta_moments.proofs.Grouping.{group, grouped_few}

pub sum_grows : (rules : List ℕ) (v w : Counts) → NoneFewer rules v w → firings_in rules v ≤ firings_in rules w
sum_grows [] v w h = omega arith
sum_grows (q ∷ qs) v w h = omega (arith, h q (inl refl), sum_grows qs v w (λ r i. h r (inr i)))

-- where no item is greater and the sums are turned, the items are the same
sum_same : (rules : List ℕ) (v w : Counts) → NoneFewer rules w v → firings_in rules v ≤ firings_in rules w → NoneFewer rules v w
sum_same [] v w h le r i = absurd i
sum_same (q ∷ qs) v w h le r (inl e) = subst (λ (x : ℕ). v x ≤ w x) (sym e) (omega (arith, h q (inl refl), sum_grows qs w v (λ r i. h r (inr i))))
sum_same (q ∷ qs) v w h le r (inr i) = sum_same qs v w (λ x j. h x (inr j)) (omega (arith, h q (inl refl))) r i

pub sorted_is_chain : (rules : List ℕ) (v w : Counts) → Comparable rules v w → firings_in rules v ≤ firings_in rules w → NoneFewer rules v w
sorted_is_chain rules v w (inl h) le = h
sorted_is_chain rules v w (inr h) le = sum_same rules v w h le

-- ---- the firings between two counts
abbrev pub firings : (ℕ → ℕ) → List ℕ → List ℕ
firings n [] = []
firings n (r ∷ rs) = replicate (n r) r ++ firings n rs

pub in_firings : (n : ℕ → ℕ) (rs : List ℕ) (q : ℕ) → In q (firings n rs) → In q rs × (1 ≤ n q)
in_firings n [] q i = absurd i
in_firings n (r ∷ rs) q i = elim (in_append q (replicate (n r) r) (firings n rs) i) [
  | inl here ↦ (
      let same = in_replicate q (n r) r here in
      (inl same, subst (λ (x : ℕ). 1 ≤ n x) (sym same) (some (n r) r here)))
  | inr later ↦ (let w = in_firings n rs q later in (inr w.0, w.1))
] where
  some : (k x : ℕ) → In q (replicate k x) → 1 ≤ k
  some zero x j = absurd j
  some (suc k) x j = omega arith

pub total_firings : (f : ℕ → ℤ) (n : ℕ → ℕ) (rs : List ℕ) → total f (firings n rs) ≡ total (λ r. f r *ℤ pos (n r)) rs
unfolding total
total_firings f n [] = refl
total_firings f n (r ∷ rs) = omega
    (arith, ints, total-append f (replicate (n r) r) (firings n rs), total-replicate f (n r) r, total_firings f n rs, *ℤ_comm (pos (n r)) (f r))

many_firings : (n : ℕ → ℕ) (rs : List ℕ) → length (firings n rs) ≡ firings_in rs n
many_firings n [] = refl
many_firings n (r ∷ rs) = omega (arith, length-append (replicate (n r) r) (firings n rs), length-replicate (n r) r, many_firings n rs)

-- what the firings between two counts add
pub total_between : (a : Automaton) (i : ℕ) (v w : Counts) (rs : List ℕ) → NoneFewer rs v w
    → (total (λ r. change_of a i r *ℤ pos (v r)) rs +ℤ total (λ r. change_of a i r *ℤ pos (w r - v r)) rs) ≡ total (λ r. change_of a i r *ℤ pos (w r)) rs
unfolding total
total_between a i v w [] h = refl
total_between a i v w (r ∷ rs) h =
    let parts : pos (w r) ≡ (pos (v r) +ℤ pos (w r - v r)) = omega (arith, ints, h r (inl refl)) in
    omega (
      arith,
      ints,
      total_between a i v w rs (λ q j. h q (inr j)),
      ap (λ z. change_of a i r *ℤ z) parts,
      distributes (change_of a i r) (pos (v r))
          (pos (w r - v r)),
    )

-- a moving rule
pub record Moving (a : Automaton) (p : Pattern) (r : ℕ) : Type 0 where
  pub rule : Rule
  pub named : slice_get a.rules r ≡ Some rule
  pub apart : rule.from ≢ rule.to
  pub from : has_bit p.empty rule.from ≡ false
  pub to : has_bit p.empty rule.to ≡ false

moving_option : (p : Pattern) (o : Option Rule) → is_moving p o ≡ true → (rule : Rule) × (o ≡ Some rule)
moving_option p None h = absurd (false≢true h)
moving_option p (Some rule) h = (rule, refl)

moving_of : (a : Automaton) (p : Pattern) (r : ℕ) → In r (moving_rules a p) → Moving a p r
moving_of a p r i =
    let f = in_filter (λ q. is_moving p (slice_get a.rules q)) r (range_with_len 0 (length a.rules)) i in
    let w = moving_option p (slice_get a.rules r) f.0 in
    let m : is_moving p (Some w.0) ≡ true = ap (is_moving p) (sym w.1) ∙ f.0 in
    let one = and_parts _ _ m in
    let two = and_parts _ _ one.1 in
    record { rule = w.0; named = w.1; apart = eqb-false (w.0).from (w.0).to (not-true _ one.0); from = not-true _ two.0; to = not-true _ two.1 }

pub each_moving : (a : Automaton) (p : Pattern) (os : List ℕ) → ((o : ℕ) → In o os → In o (moving_rules a p)) → EachRule a os
each_moving a p os h = each_rule_from a os (λ o i. let m = moving_of a p o (h o i) in (m.rule, m.named))

abbrev pub Emptied : Pattern → Config → Type 0
Emptied p d = (l : ℕ) → has_bit p.empty l ≡ true → get_or d.counters l 0 ≡ 0

kept_step : (a : Automaton) (p : Pattern) (d next : Config) (r : ℕ) → Step a r d next → Moving a p r → Emptied p d → Emptied p next
kept_step a p d next r step m empty l t =
    let same : step.rule ≡ m.rule = same_Some step.rule m.rule (sym step.named ∙ m.named) in
    let nf : l ≢ step.rule.from = (λ e. false≢true (sym m.from ∙ ap (λ (x : Rule). has_bit p.empty x.from) (sym same) ∙ ap (has_bit p.empty) (sym e) ∙ t)) in
    let nt : l ≢ step.rule.to = (λ e. false≢true (sym m.to ∙ ap (λ (x : Rule). has_bit p.empty x.to) (sym same) ∙ ap (has_bit p.empty) (sym e) ∙ t)) in
    untouched l step.rule.from step.rule.to (get_or next.counters l 0) (get_or d.counters l 0) nf nt (step.move.moved l) ∙ empty l t

kept_steps : (a : Automaton) (p : Pattern) (d : Config) (os : List ℕ) (later : List Config) → ((o : ℕ) → In o os → Moving a p o) → Steps a d os later
    → Emptied p d → (j : ℕ) (c : Config) → slice_get (d ∷ later) j ≡ Some c → Emptied p c
kept_steps a p d os later may steps empty zero c at = subst (Emptied p) (same_Some d c at) empty
kept_steps a p d [] [] may steps empty (suc j) c at = absurd (cc)
kept_steps a p d [] (n ∷ later) may steps empty (suc j) c at = absurd steps
kept_steps a p d (o ∷ os) [] may steps empty (suc j) c at = absurd steps
kept_steps a p d (o ∷ os) (n ∷ later) may steps empty (suc j) c at = kept_steps a p n os later (λ q i. may q (inr i)) steps.1
    (kept_step a p d n o steps.0 (may o (inl refl)) empty) j c at

empty_total : (a : Automaton) (p : Pattern) (os : List ℕ) (l : ℕ) → ((o : ℕ) → In o os → Moving a p o) → has_bit p.empty l ≡ true
    → total (change_of a (location_place a l)) os ≡ pos 0
unfolding total
empty_total a p [] l h set = refl
empty_total a p (o ∷ os) l h set =
    let m = h o (inl refl) in
    let from : one_if m.rule.from l ≡ pos 0 = one_if-ne m.rule.from l (λ e. false≢true (sym m.from ∙ ap (has_bit p.empty) e ∙ set)) in
    let to : one_if m.rule.to l ≡ pos 0 = one_if-ne m.rule.to l (λ e. false≢true (sym m.to ∙ ap (has_bit p.empty) e ∙ set)) in
    omega (arith, ints, change_location a l o m.rule m.named, from, to, empty_total a p os l (λ q i. h q (inr i)) set)

-- a row's value at points that are the same
pub row_same : (f g : ℕ → ℤ) → ((i : ℕ) → f i ≡ g i) → (row : Row) → RowHolds f row → RowHolds g row
row_same f g h row held = let was : pos 0 ≤ℤ value_of f row.form = held in omega (arith, ints, terms_value-same row.form.terms f g h)

pub start_after : (a : Automaton) (f g : ℕ → ℤ) → ((i : ℕ) → f i ≡ g i) → (i : ℕ) → g i ≡ after a f [] i
unfolding total
start_after a f g h i = omega (arith, ints, h i)

-- firings lead from a configuration to one with some counts, and keep empty what is to be
pub record FiresTo (a : Automaton) (p : Pattern) (first : Config) (w : Counts) (from : Config) (os : List ℕ) : Type 0 where
  pub later : List Config
  pub steps : Steps a from os later
  pub end : Config
  pub reached : At from later (length os) end
  pub stands : Stands a p first w end
  pub kept_empty : (k : ℕ) (c : Config) → At from later k c → (l : ℕ) → has_bit p.empty l ≡ true → slice_index c.counters l ≡ 0

-- firings from a configuration, in an order that goes forward, that add what leads from counts to the next
pub fires_to : (a : Automaton) (p : Pattern) (first : Config) (v w : Counts) → Link a p first v w → (from : Config) → Stands a p first v from → (os : List ℕ)
    → Onward a os → ((o : ℕ) → In o os → In o (moving_rules a p) × (v o < w o)) → ((i : ℕ) → after a (value_at from) os i ≡ value_after a p first w i)
    → ((o : ℕ) (rule : Rule) → In o os → slice_get a.rules o ≡ Some rule → (j : ℕ) (row : Row) → slice_get a.fall j ≡ Some row → IsBitSet rule.fall j
    → RowHolds (after a (value_at from) (without_last os)) row) → FiresTo a p first w from os
fires_to a p first v w link from s os onward among adds falls =
    let moving : (o : ℕ) → In o os → Moving a p o = (λ o i. moving_of a p o (among o i).0) in
    let exist = each_moving a p os (λ o i. (among o i).0) in
    let fits : Fits a from = record { parameters = s.whole.parameters; shared = s.whole.shared } in
    let piece : Piece a from os = record {
      whole = s.whole;
      exist = exist;
      rises = λ o rule i named k row at set. row_same (value_after a p first v) (value_at from) (λ x. sym (s.values x)) row
          (link.rise o rule (among o i).0 (among o i).1 named k row at set);
      falls = falls;
      ends = λ l b. elim (cases_Bool (has_bit p.empty l)) [
        | inl e ↦ omega (arith, ints, empty_total a p os l moving e, value_at-location a from l fits)
        | inr e ↦ (let n = link.natural l b e in omega (arith, ints, n, adds (location_place a l)))
      ];
    } in
    let f = fire_in_order a os from onward piece in
    let kept = kept_steps a p from os f.later moving f.steps s.empty in
    record {
      later = f.later;
      steps = f.steps;
      end = f.end;
      reached = f.last;
      stands = record { whole = f.whole; empty = kept (length os) f.end f.last; values = λ i. f.values i ∙ adds i };
      kept_empty = kept;
    }

go : (a : Automaton) (p : Pattern) (first : Config) (v w : Counts) → Link a p first v w → (from : Config) → Stands a p first v from → (os : List ℕ)
    → Onward a os → InSteps os (min (firings_in (moving_rules a p) (λ r. w r - v r)) (length (moving_rules a p)))
    → ((o : ℕ) → In o os → In o (moving_rules a p) × (v o < w o)) → ((i : ℕ) → after a (value_at from) os i ≡ value_after a p first w i)
    → ((o : ℕ) (rule : Rule) → In o os → slice_get a.rules o ≡ Some rule → (j : ℕ) (row : Row) → slice_get a.fall j ≡ Some row → IsBitSet rule.fall j
    → RowHolds (after a (value_at from) (without_last os)) row) → LeadsOn a p first v w from
go a p first v w link from s os onward few among adds falls =
    let f = fires_to a p first v w link from s os onward among adds falls in
    record { rules = os; few = few; later = f.later; steps = f.steps; end = f.end; reached = f.reached; stands = f.stands; kept_empty = f.kept_empty }

one_onward : (a : Automaton) (p : Pattern) (r : ℕ) → Moving a p r → Onward a (r ∷ [])
one_onward a p r m = (
  (λ rule named. (
    (λ other same. λ e.
        let x : rule ≡ m.rule = same_Some rule m.rule (sym named ∙ m.named) in
        let y : other ≡ m.rule = same_Some other m.rule (sym same ∙ m.named) in
        m.apart (sym (ap (λ (z : Rule). z.from) x) ∙ sym e ∙ ap (λ (z : Rule). z.to) y)),
    tt,
  )),
  tt,
)

some_in : (r : ℕ) (rs : List ℕ) → In r rs → 1 ≤ length rs
some_in r [] i = absurd i
some_in r (q ∷ rs) i = omega arith

pub link_leads_on : (a : Automaton) (p : Pattern) → InScope a → (first : Config) (v w : Counts) → Link a p first v w → (from : Config) → Stands a p first v from
    → LeadsOn a p first v w from
link_leads_on a p scope first v w link from s =
    let n : ℕ → ℕ = λ r. w r - v r in
    let rs = moving_rules a p in
    let os = firings n rs in
    let among : (o : ℕ) → In o os → In o rs × (v o < w o) = (λ o i. let x = in_firings n rs o i in (x.0, omega (arith, x.1))) in
    let adds : (i : ℕ) → after a (value_at from) os i ≡ value_after a p first w i =
    (λ i. omega (arith, ints, s.values i, total_firings (change_of a i) n rs, total_between a i v w rs link.grows)) in
    elim (eqb_tells (length os) 1) [
      | inl one ↦ (
          let r = only_item os one.1 in
          let here : (o : ℕ) → In o (r.0 ∷ []) → In o os = (λ o i. subst (In o) (sym r.1) i) in
          let now : (i : ℕ) → after a (value_at from) (r.0 ∷ []) i ≡ value_after a p first w i =
          (λ i. ap (λ (xs : List ℕ). after a (value_at from) xs i) (sym r.1) ∙ adds i) in
          let m = moving_of a p r.0 (among r.0 (here r.0 (inl refl))).0 in
          let few : InSteps (r.0 ∷ []) (min (firings_in rs n) (length rs)) = record
          { steps = (r.0, 1) ∷ []; are = refl; few = omega (arith, sym one.1 ∙ many_firings n rs, some_in r.0 rs (among r.0 (here r.0 (inl refl))).0) } in
          go a p first v w link from s (r.0 ∷ []) (one_onward a p r.0 m) few (λ o i. among o (here o i)) now (λ o rule i named j row at set.
          elim (link.fall o rule (among o (here o i)).0 (among o (here o i)).1 named j row at set) [
            | inl end ↦ holds_before_last a (value_at from) (r.0 ∷ []) (each_moving a p (r.0 ∷ []) (λ x k. (among x (here x k)).0)) j row at
                (row_same (value_after a p first w) (after a (value_at from) (r.0 ∷ [])) (λ x. sym (now x)) row end)
            | inr begin ↦ row_same (value_after a p first v) (after a (value_at from) [])
                (λ x. start_after a (value_at from) (value_after a p first v) s.values x) row begin.1
          ]))
      | inr more ↦ (
          let t = rearrange a scope (length os) os (each_moving a p os (λ o i. (among o i).0)) (omega arith) in
          let g = group a t.firings in
          let ps = fired_steps g.steps in
          let back : (o : ℕ) → In o ps → In o os = (λ o i. t.among o (g.among o i)) in
          let now : (i : ℕ) → after a (value_at from) ps i ≡ value_after a p first w i =
          (λ i. ap (λ z. value_at from i +ℤ z) (g.sums (change_of a i) ∙ t.sums i) ∙ adds i) in
          let one = grouped_few a t.firings os g t.among in
          let other = grouped_few a t.firings rs g (λ q i. (among q (t.among q i)).0) in
          let few : InSteps ps (min (firings_in rs n) (length rs)) = record { steps = g.steps; are = refl; few = omega (arith, one, other, many_firings n rs) }
          in
          go a p first v w link from s ps (g.onward t.onward) few (λ o i. among o (back o i)) now (λ o rule i named j row at set.
          elim (link.fall o rule (among o (back o i)).0 (among o (back o i)).1 named j row at set) [
            | inl end ↦ holds_before_last a (value_at from) ps (each_moving a p ps (λ x k. (among x (back x k)).0)) j row at
                (row_same (value_after a p first w) (after a (value_at from) ps) (λ x. sym (now x)) row end)
            | inr begin ↦ absurd (more.1 (many_firings n rs ∙ begin.0))
          ]))
    ]

-- accelerated steps behind others
steps_behind : (xs ys : List ℕ) (m n : ℕ) → InSteps xs m → InSteps ys n → InSteps (xs ++ ys) (m + n)
steps_behind xs ys m n h k = record {
  steps = h.steps ++ k.steps;
  are = ap (λ (zs : List ℕ). zs ++ ys) h.are ∙ ap (λ (zs : List ℕ). fired_steps h.steps ++ zs) k.are ∙ sym (fired_append h.steps k.steps);
  few = (let one = h.few in let two = k.few in omega (arith, one, two, length-append h.steps k.steps));
}
  where
    fired_append : (ss ts : List (ℕ × ℕ)) → fired_steps (ss ++ ts) ≡ fired_steps ss ++ fired_steps ts
    fired_append [] ts = refl
    fired_append (s ∷ ss) ts = ap (λ (zs : List ℕ). replicate s.1 s.0 ++ zs) (fired_append ss ts)
        ∙ sym (append_assoc (replicate s.1 s.0) (fired_steps ss) (fired_steps ts))

pub firings_between : (rs : List ℕ) (v w : Counts) → NoneFewer rs v w → firings_in rs v + firings_in rs (λ r. w r - v r) ≡ firings_in rs w
firings_between [] v w le = refl
firings_between (r ∷ rs) v w le = omega (arith, le r (inl refl), firings_between rs v w (λ q i. le q (inr i)))

-- ---- a chain
record Along (a : Automaton) (p : Pattern) (first d : Config) (t : Trail a (Emptied p) first d) (v : Counts) (ws : List Counts) : Type 0 where
  pub end : Config
  pub trail : Trail a (Emptied p) first end
  pub grows : Grows a (Emptied p) first d end t trail
  pub through : ComesThrough a p first trail.later (length t.rules) ws
  pub few : (n : ℕ) → InSteps t.rules n → InSteps trail.rules (n + most_steps (moving_rules a p) (firings_in (moving_rules a p) v) ws)

along_chain : (a : Automaton) (p : Pattern) → InScope a → (first : Config) (v : Counts) (ws : List Counts) → Chain a p first v ws
    → (d : Config) (t : Trail a (Emptied p) first d) → Stands a p first v d → Along a p first d t v ws
along_chain a p scope first v [] chain d t s = record {
  end = d;
  trail = t;
  grows = record { kept = λ j c at. at; longer = omega arith };
  through = tt;
  few = λ n h. subst (InSteps t.rules)
      (let e : n ≡ n + 0 = omega arith in e) h;
}
along_chain a p scope first v (w ∷ ws) chain d t s =
    let l = link_leads_on a p scope first v w chain.0 d s in
    let g = trail_append a (Emptied p) first d t l.rules l.later l.end l.steps l.reached l.kept_empty in
    let rest = along_chain a p scope first w ws chain.1 l.end g.trail l.stands in
    record {
      end = rest.end;
      trail = rest.trail;
      grows = record { kept = λ j c at. rest.grows.kept j c (g.grows.kept j c at); longer = omega (arith, g.grows.longer, rest.grows.longer) };
      through = (length g.trail.rules, g.grows.longer, (l.end, rest.grows.kept (length g.trail.rules) l.end g.trail.last, l.stands), rest.through);
      few = λ n h.
          let rs = moving_rules a p in
          let step = min (firings_in rs (λ r. w r - v r)) (length rs) in
          let here = subst (λ (xs : List ℕ). InSteps xs (n + step)) (sym g.is) (steps_behind t.rules l.rules n step h l.few) in
          subst (InSteps rest.trail.rules)
          (let e : n + step + most_steps rs (firings_in rs w) ws ≡ n + most_steps rs (firings_in rs v) (w ∷ ws) =
          omega (arith, firings_between rs v w chain.0.grows) in e) (rest.few (n + step) here);
    }

pub no_firings : (rs : List ℕ) → firings_in rs (λ r. 0) ≡ 0
no_firings [] = refl
no_firings (r ∷ rs) = omega (arith, no_firings rs)

pub chain_runs : (a : Automaton) (p : Pattern) → InScope a → (first : Config) → Stands a p first (λ r. 0) first → (ws : List Counts)
    → Chain a p first (λ r. 0) ws → RunsAlong a p first ws
chain_runs a p scope first s ws chain =
    let b = trail_begun a (Emptied p) first s.empty in
    let w = along_chain a p scope first (λ r. 0) ws chain first b.trail s in
    record {
      rules = w.trail.rules;
      later = w.trail.later;
      steps = w.trail.run;
      through = subst (λ (rs : List ℕ). ComesThrough a p first w.trail.later (length rs) ws) b.is w.through;
      few = (
          let none = no_firings (moving_rules a p) in
          let e : 0 + most_steps (moving_rules a p) (firings_in (moving_rules a p) (λ r. 0)) ws ≡ most_steps (moving_rules a p) 0 ws = zero-add
          (most_steps (moving_rules a p) (firings_in (moving_rules a p) (λ r. 0)) ws) ∙ ap (λ (low : ℕ). most_steps (moving_rules a p) low ws) none in
          subst (InSteps w.trail.rules) e (w.few 0 (record { steps = []; are = b.is; few = omega arith })));
      kept_empty = w.trail.all_good;
    }
