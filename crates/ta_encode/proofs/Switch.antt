-- one step of a run: a self-loop, a step that switches no fall guard, or one that does
--
-- A self-loop changes no value and is left out. A step that turns no fall guard false is one more since the last element. Otherwise
-- all fall guards that it turns, and no others, become one Fall with this step as its Single: they hold in the configuration before
-- the step and fail in the one behind it, so no order among them is needed.
use Rattle.ta_encode.proofs.Common.{◌≡◌, ◌≢◌, inl, inr, ℕ, ◌<◌, ◌≤◌, pos, ◌≤ℤ◌, ◌<ℤ◌, List, [], ◌∷◌, ◌++◌, map, length, Bool, true, false, not, ◌&&◌, arith}
use Rattle.ta_encode.proofs.Common.{sym, ap, ◌∙◌, subst, slice_get, get_or, Some, append_assoc, ◌⊎◌, ints, cases_Bool, and_parts, and_from, ne_eqb, not-false}
use Rattle.ta_encode.proofs.Common.{not-true, not_from_false, eqb_tells, slice_get_within, all_below-at, all_below-false, all_below-from, bit_set, mask_of-bit}
use Rattle.ta_encode.proofs.Common.{and_false, implies-from, negative_false, negative_true, some_at, arrives, mask_of, mask_of-below, mask_of-some, value_of}
use Rattle.ta_encode.proofs.Common.{Row, Automaton, Pattern, Admissible, Config, value_at, Step, LoopsPure, has_bit, all_below, implies, In, RiseHolds, Element}
use Rattle.ta_encode.proofs.Common.{Fall, has_event, has_rise, has_fallen, is_complete, may_fire, allowed_rules, times_in, Fits, move_at, fits_after, loop_at}
use Rattle.ta_encode.proofs.Common.{step_later, stays_below, stays_true, times-passed}
use Rattle.ta_encode.proofs.Moments.{RowFails}
use Rattle.ta_encode.proofs.State.{State, add_step, skip_step, push_fall}
use Rattle.ta_encode.proofs.Start.{row_fails}

pub stays_false : (a : Automaton) (r : ℕ) (before after : Config) → Fits a before → Fits a after → Step a r before after → (j : ℕ) (row : Row)
    → slice_get a.fall j ≡ Some row → RowFails (value_at before) row → RowFails (value_at after) row
stays_false a r before after f g step j row at h = stays_below a (value_at before) (value_at after) (step_later a r before after f g step) j row at h

-- the rise guards that hold are in the word, but for some that are left
abbrev pub Seen : Automaton → List Element → Config → List ℕ → Type 0
Seen a past d left = (i : ℕ) → i < length a.rise → In i left ⊎ (RiseHolds a d i → has_rise past i ≡ true)

abbrev pub KeptEmpty : Pattern → Config → Type 0
KeptEmpty p d = (l : ℕ) → has_bit p.empty l ≡ true → get_or d.counters l 0 ≡ 0

from_free : (p : Pattern) (d : Config) (l : ℕ) → KeptEmpty p d → 1 ≤ get_or d.counters l 0 → has_bit p.empty l ≡ false
from_free p d l empty some = elim (cases_Bool (has_bit p.empty l)) [ inl t ↦ absurd (omega (arith, empty l t)) | inr f ↦ f ]

-- a step between two locations is allowed
pub step_allowed : (a : Automaton) (p : Pattern) (pairs : List (ℕ × ℕ)) (start : ℕ) (past : List Element) (vs fired : List ℕ) (d next : Config) (r : ℕ)
    → State a p pairs start past vs fired d → Seen a past d [] → KeptEmpty p d → KeptEmpty p next → (step : Step a r d next) → step.rule.from ≢ step.rule.to
    → times_in r (allowed_rules a p start past) ≡ 1
unfolding allowed_rules
step_allowed a p pairs start past vs fired d next r s seen empty later step ne =
    let rule = step.rule in
    let from = from_free p d rule.from empty step.move.some in
    let to = from_free p next rule.to later
    (arrives rule.from rule.to (get_or next.counters rule.to 0) (get_or d.counters rule.to 0) ne (step.move.moved rule.to)) in
    let rises = all_below-from (length a.rise) (λ i. implies (has_bit rule.rise i) (has_rise past i))
    (λ i b. implies-from _ _ (λ t. let holds : RiseHolds a d i = (λ row at. step.move.rise i row at (bit_set rule.rise i t)) in elim (seen i b)
    [ inl none ↦ absurd none | inr saw ↦ saw holds ])) in
    let falls = all_below-from (length a.fall) (λ j. implies (has_bit rule.fall j) (not (has_fallen start past j))) (λ j b. implies-from _ _ (λ t.
    let w = some_at a.fall j b in
    let holds : pos 0 ≤ℤ value_of (value_at d) (w.0).form = step.move.fall j w.0 w.1 (bit_set rule.fall j t) in
    not_from_false _ (elim (cases_Bool (has_fallen start past j))
    [ inl y ↦ absurd (let fails : value_of (value_at d) (w.0).form <ℤ pos 0 = s.fallen j w.0 w.1 y in omega (arith, ints)) | inr f ↦ f ]))) in
    let may : may_fire a p start past (Some rule) ≡ true = and_from _ _ (not_from_false _ (ne_eqb rule.from rule.to ne))
    (and_from _ _ (not_from_false _ from) (and_from _ _ (not_from_false _ to) (and_from _ _ rises falls))) in
    times-passed (λ k. may_fire a p start past (slice_get a.rules k)) r 0 (length a.rules) (ap (may_fire a p start past) step.named ∙ may) (omega arith)
    (omega (arith, slice_get_within a.rules r rule step.named))

-- values that begin with others
abbrev pub Begins : List ℕ → List ℕ → Type 0
Begins origin vs = (more : List ℕ) × (vs ≡ origin ++ more)

pub begins_more : (origin vs new : List ℕ) → Begins origin vs → Begins origin (vs ++ new)
begins_more origin vs new b = (b.0 ++ new, ap (λ (xs : List ℕ). xs ++ new) b.1 ∙ append_assoc origin b.0 new)

-- a state after a step, with a word that isn't complete, and the rise guards that are left to be seen at this moment
pub record Stage (a : Automaton) (p : Pattern) (pairs : List (ℕ × ℕ)) (start : ℕ) (origin : List ℕ) (done begun : ℕ → Type 0) (d : Config) (left : List ℕ) :
    Type 0 where
  pub past : List Element
  pub vs : List ℕ
  pub fired : List ℕ
  pub state : State a p pairs start past vs fired d
  pub begins : Begins origin vs
  pub more : is_complete p past ≡ false
  pub events : (e : ℕ) → done e → has_event past e ≡ true
  pub only : (e : ℕ) → has_event past e ≡ true → begun e
  pub rises : Seen a past d left
  pub risen : (i : ℕ) → has_rise past i ≡ true → RiseHolds a d i
  pub admissible : Admissible a d.parameters

-- whether a guard that stood turns false
abbrev pub turns : Automaton → ℕ → List Element → Config → ℕ → Bool
turns a start past next j = not (has_fallen start past j) && row_fails next (slice_get a.fall j)

pub after_step : (a : Automaton) (p : Pattern) (pairs : List (ℕ × ℕ)) (start : ℕ) (origin : List ℕ) (done begun : ℕ → Type 0) (d next : Config) (r : ℕ)
    (all : List ℕ) → ((i : ℕ) → i < length a.rise → In i all) → LoopsPure a → Stage a p pairs start origin done begun d [] → KeptEmpty p d → KeptEmpty p next
    → Step a r d next → Stage a p pairs start origin done begun next all
unfolding has_event has_rise
after_step a p pairs start origin done begun d next r all in_all loops g empty later step =
    let s = g.state in
    let admissible : Admissible a next.parameters = subst (Admissible a) (sym step.move.parameters) g.admissible in
    let risen : (i : ℕ) → has_rise g.past i ≡ true → RiseHolds a next i =
    (λ i t row at. stays_true a (value_at d) (value_at next) (step_later a r d next s.fits (fits_after a r d next s.fits step) step) i row at
    (g.risen i t row at)) in
    let past = g.past in
    let fits : Fits a next = fits_after a r d next s.fits step in
    elim (eqb_tells step.rule.from step.rule.to) [
      | inl e ↦ record {
        past = past;
        vs = g.vs;
        begins = g.begins;
        fired = g.fired;
        state = skip_step a p pairs start past g.vs g.fired d s next fits (loop_at a r d next s.fits fits step e.1 (loops r step.rule step.named e.1));
        more = g.more;
        events = g.events;
        only = g.only;
        risen = risen;
        rises = λ i b. inl (in_all i b);
        admissible = admissible;
      }
      | inr ne ↦ (
          let one = step_allowed a p pairs start past g.vs g.fired d next r s g.rises empty later step ne.1 in
          let moved = move_at a r d next s.fits fits step in
          let stays : (j : ℕ) (row : Row) → slice_get a.fall j ≡ Some row → has_fallen start past j ≡ true
          → RowFails (value_at next) row = (λ j row at f. stays_false a r d next s.fits fits step j row at (s.fallen j row at f)) in
          let test = turns a start past next in
          let n = length a.fall in
          elim (cases_Bool (all_below n (λ j. not (test j)))) [
            | inl none ↦ record {
              past = past;
              vs = g.vs;
              begins = g.begins;
              fired = r ∷ g.fired;
              state = add_step a p pairs start past g.vs g.fired d s r next one fits moved (λ j row at. (
                stays j row at,
                λ f.
                    let off : test j ≡ false = not-true (test j) (all_below-at n (λ k. not (test k)) none j (slice_get_within _ _ _ at)) in
                    negative_false _ (sym (ap (row_fails next) at) ∙ and_false _ _ off (not_from_false _ f)),
              ));
              more = g.more;
              events = g.events;
              only = g.only;
              risen = risen;
              rises = λ i b. inl (in_all i b);
              admissible = admissible;
            }
            | inr some ↦ (
                let mask = mask_of test n in
                let w = all_below-false n (λ j. not (test j)) some in
                let bit : (j : ℕ) (row : Row) → slice_get a.fall j ≡ Some row
                → has_bit mask j ≡ test j = (λ j row at. mask_of-bit test n j (slice_get_within _ _ _ at)) in
                record {
                  past = Fall mask ∷ past;
                  vs = (g.vs ++ map (λ k. times_in k g.fired) (allowed_rules a p start past)) ++ map (λ k. times_in k (r ∷ [])) (allowed_rules a p start past);
                  begins = begins_more origin (g.vs ++ map (λ k. times_in k g.fired) (allowed_rules a p start past))
                      (map (λ k. times_in k (r ∷ [])) (allowed_rules a p start past))
                      (begins_more origin g.vs (map (λ k. times_in k g.fired) (allowed_rules a p start past)) g.begins);
                  fired = [];
                  state = push_fall a p pairs start past g.vs g.fired d s r next mask g.more (mask_of-some test n w.0 w.1 (not-false (test w.0) w.2))
                      (mask_of-below test n)
                      (all_below-from n (λ j. implies (has_bit mask j) (not (has_fallen start past j)))
                      (λ j b. implies-from (has_bit mask j) (not (has_fallen start past j))
                      (λ t. (and_parts (not (has_fallen start past j)) (row_fails next (slice_get a.fall j)) (sym (mask_of-bit test n j b) ∙ t)).0)))
                      one fits moved (record {
                        fails = λ j row at t. negative_true _
                            (sym (ap (row_fails next) at) ∙
                            (and_parts (not (has_fallen start past j)) (row_fails next (slice_get a.fall j)) (sym (bit j row at) ∙ t)).1);
                        stays = stays;
                        rest = λ j row at t f. negative_false _
                            (sym (ap (row_fails next) at) ∙ and_false (not (has_fallen start past j)) (row_fails next (slice_get a.fall j))
                            (sym (bit j row at) ∙ t) (not_from_false _ f));
                      });
                  more = g.more;
                  events = g.events;
                  only = g.only;
                  risen = risen;
                  rises = λ i b. inl (in_all i b);
                  admissible = admissible;
                })
          ])
    ]
