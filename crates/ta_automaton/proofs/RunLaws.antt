-- the laws of runs
use Rattle.ta_automaton.proofs.Common.{◌≡◌, ℕ, zero, suc, ◌+◌, ◌≤◌, ℤ, pos, ◌+ℤ◌, ◌≤ℤ◌, ◌<ℤ◌, List, [], ◌∷◌, length, take, sum, count_by, eqb, cond, arith, sym}
use Rattle.ta_automaton.proofs.Common.{ap, ◌∙◌, refl, subst, slice_get, get_or, Some, ints, not_held, coefficient, value_of, Rule, Automaton, Config, Initial}
use Rattle.ta_automaton.proofs.Common.{Step, Steps, Run, At, value_at, number_at, range_with_len, total, CountersAddUp, ParametersStay, SharedNeverFalls}
use Rattle.ta_automaton.proofs.Common.{RiseGuardsStayTrue, FallGuardsStayFalse, CountersByFirings, SharedByFirings, leads_into, leads_out_of, update_of}
use Rattle.ta_automaton.proofs.Common.{slice_get_within, same_Some}
use Rattle.ta_base.proofs.Bits.{eqb_turned}
use Rattle.ta_base.proofs.Sums.{count-cons, weighted_sum-moved, weighted_sum-ones}
use Rattle.ta_base.proofs.Times.{EachOnce, total-by_times, times-numbers}
use Rattle.ta_automaton.proofs.Thresholds.{Later, updates_natural, stays_true, stays_below, from_within, to_within}
use Rattle.ta_automaton.proofs.Moves.{Fits, fits_after, step_later}

-- a relation between configurations that each further step at the front keeps holds between the first and each later one
pub along : (a : Automaton) (R : List ℕ → Config → Config → Type 0) → ((c : Config) → R [] c c)
    → ((r : ℕ) (rs : List ℕ) (b c d : Config) → Step a r b c → R rs c d → R (r ∷ rs) b d) → (c : Config) (rules : List ℕ) (later : List Config)
    → Steps a c rules later → (k : ℕ) (d : Config) → slice_get (c ∷ later) k ≡ Some d → R (take k rules) c d
along a R here more c [] [] steps zero d at = subst (R [] c) (same_Some c d at) (here c)
along a R here more c (r ∷ rs) (e ∷ es) steps zero d at = subst (R [] c) (same_Some c d at) (here c)
along a R here more c [] [] steps (suc k) d at = absurd (cc)
along a R here more c [] (e ∷ es) steps k d at = absurd steps
along a R here more c (r ∷ rs) [] steps k d at = absurd steps
along a R here more c (r ∷ rs) (e ∷ es) steps (suc k) d at = more r (take k rs) c e d steps.0 (along a R here more e rs es steps.1 k d at)

-- the same between each configuration and each that isn't before it
pub between : (a : Automaton) (R : Config → Config → Type 0) → ((c : Config) → R c c) → ((r : ℕ) (b c d : Config) → Step a r b c → R c d → R b d)
    → (c : Config) (rules : List ℕ) (later : List Config) → Steps a c rules later → (j k : ℕ) (b d : Config) → j ≤ k → slice_get (c ∷ later) j ≡ Some b
    → slice_get (c ∷ later) k ≡ Some d → R b d
between a R here more c rules later steps zero k b d le at there = subst (λ x. R x d) (same_Some c b at)
    (along a (λ rs x y. R x y) here (λ r rs x y z. more r x y z) c rules later steps k d there)
between a R here more c rules later steps (suc j) zero b d le at there = absurd (omega arith)
between a R here more c [] [] steps (suc j) (suc k) b d le at there = absurd (cc)
between a R here more c [] (e ∷ es) steps (suc j) (suc k) b d le at there = absurd steps
between a R here more c (r ∷ rs) [] steps (suc j) (suc k) b d le at there = absurd steps
between a R here more c (r ∷ rs) (e ∷ es) steps (suc j) (suc k) b d le at there = between a R here more e rs es steps.1 j k b d (omega arith) at there

pub parameters_stay : ParametersStay
parameters_stay a first rules later run k c at =
    along a (λ rs b d. d.parameters ≡ b.parameters) (λ b. refl) (λ r rs b x d step h. h ∙ step.move.parameters) first rules later run.steps k c at

pub shared_never_falls : SharedNeverFalls
shared_never_falls a first rules later run j k b c le at there =
    between a (λ x y. (v : ℕ) → get_or x.shared v 0 ≤ get_or y.shared v 0) (λ x v. omega arith)
    (λ r x y z step h v. omega (arith, ints, step.move.added v, updates_natural a r step.rule step.named v, h v)) first rules later run.steps j k b c le at
    there

pub first_fits : (a : Automaton) (first : Config) → Initial a first → Fits a first
first_fits a first initial = record { parameters = initial.admissible.count; shared = initial.shared_count }

later_here : (a : Automaton) (c : Config) → Later a (value_at c) (value_at c)
later_here a c = record { parameters = λ i b. refl; shared = λ i low high. omega (arith, ints) }

later_on : (a : Automaton) (f g h : ℕ → ℤ) → Later a f g → Later a g h → Later a f h
later_on a f g h l m = record {
  parameters = λ i b. m.parameters i b ∙ l.parameters i b;
  shared = λ i low high. omega (arith, ints, l.shared i low high, m.shared i low high);
}

-- each configuration of a run has a value for each place
pub fits_at : (a : Automaton) (first : Config) (rules : List ℕ) (later : List Config) → Run a first rules later → (k : ℕ) (c : Config) → At first later k c
    → Fits a c
fits_at a first rules later run k c at =
    along a (λ rs b d. Fits a b → Fits a d) (λ b f. f) (λ r rs b x d step h f. h (fits_after a r b x f step)) first rules later run.steps k c at
    (first_fits a first run.initial)

pub later_at : (a : Automaton) (first : Config) (rules : List ℕ) (later : List Config) → Run a first rules later → (j k : ℕ) (b c : Config) → j ≤ k
    → At first later j b → At first later k c → Later a (value_at b) (value_at c)
later_at a first rules later run j k b c le at there =
    between a (λ x y. Fits a x → Later a (value_at x) (value_at y)) (λ x f. later_here a x)
    (λ r x y z step h f. later_on a (value_at x) (value_at y) (value_at z) (step_later a r x y f (fits_after a r x y f step) step)
    (h (fits_after a r x y f step))) first rules later run.steps j k b c le at there (fits_at a first rules later run j b at)

pub rise_guards_stay_true : RiseGuardsStayTrue
rise_guards_stay_true a first rules later run j k b c le at there i row named holds =
    stays_true a (value_at b) (value_at c) (later_at a first rules later run j k b c le at there) i row named holds

pub fall_guards_stay_false : FallGuardsStayFalse
fall_guards_stay_false a first rules later run j k b c le at there i row named fails holds =
    let less : value_of (value_at b) row.form <ℤ pos 0 = not_held (value_of (value_at b) row.form) fails in
    let below = stays_below a (value_at b) (value_at c) (later_at a first rules later run j k b c le at there) i row named less in
    let above : pos 0 ≤ℤ value_of (value_at c) row.form = holds in
    absurd (omega (arith, ints))

out_named : (a : Automaton) (l r : ℕ) (rule : Rule) → slice_get a.rules r ≡ Some rule → leads_out_of l (slice_get a.rules r) ≡ eqb rule.from l
out_named a l r rule e = ap (leads_out_of l) e

into_named : (a : Automaton) (l r : ℕ) (rule : Rule) → slice_get a.rules r ≡ Some rule → leads_into l (slice_get a.rules r) ≡ eqb rule.to l
into_named a l r rule e = ap (leads_into l) e

pub counters_by_firings : CountersByFirings
counters_by_firings a first rules later run k c at l =
    along a (λ rs b d. get_or d.counters l 0 + count_by (λ r. leads_out_of l (slice_get a.rules r)) rs ≡ get_or b.counters l 0 + count_by
    (λ r. leads_into l (slice_get a.rules r)) rs)
    (λ b. refl)
    (λ r rs b x d step h.
    let out = count-cons (λ q. leads_out_of l (slice_get a.rules q)) r rs in
    let into = count-cons (λ q. leads_into l (slice_get a.rules q)) r rs in
    let from = ap {B = ℕ} (λ t. cond t 1 0) (out_named a l r step.rule step.named ∙ eqb_turned step.rule.from l) in
    let to = ap {B = ℕ} (λ t. cond t 1 0) (into_named a l r step.rule step.named ∙ eqb_turned step.rule.to l) in
    omega (arith, out, into, from, to, step.move.moved l, h))
    first rules later run.steps k c at

change-named : (a : Automaton) (x r : ℕ) (rule : Rule) → slice_get a.rules r ≡ Some rule → update_of x (slice_get a.rules r) ≡ coefficient rule.updates x
change-named a x r rule e = ap (update_of x) e

-- a shared variable grows by the updates of the fired rules
added : (a : Automaton) (x : ℕ) (c : Config) (rules : List ℕ) (later : List Config) → Steps a c rules later → (k : ℕ) (d : Config)
    → slice_get (c ∷ later) k ≡ Some d → pos (get_or d.shared x 0) ≡
    (pos (get_or c.shared x 0) +ℤ total (λ r. update_of x (slice_get a.rules r)) (take k rules))
unfolding total
added a x c rules later steps k d at =
    along a (λ rs b e. pos (get_or e.shared x 0) ≡ (pos (get_or b.shared x 0) +ℤ total (λ r. update_of x (slice_get a.rules r)) rs))
    (λ b. omega (arith, ints))
    (λ r rs b e f step h. omega (arith, ints, h, step.move.added x, change-named a x r step.rule step.named))
    c rules later steps k d at

-- each rule of a run is once among the numbers of the rules
each_once : (a : Automaton) (c : Config) (rules : List ℕ) (later : List Config) → Steps a c rules later → (k : ℕ) (d : Config)
    → slice_get (c ∷ later) k ≡ Some d → EachOnce (take k rules) (range_with_len 0 (length a.rules))
each_once a c rules later steps k d at =
    along a (λ rs b e. EachOnce rs (range_with_len 0 (length a.rules))) (λ b. tt)
    (λ r rs b e f step h. (
      times-numbers r 0 (length a.rules) (omega arith) (omega (arith, slice_get_within a.rules r step.rule step.named)),
      h,
    ))
    c rules later steps k d at

pub shared_by_firings : SharedByFirings
shared_by_firings a first rules later run k c at x =
    let sum = added a x first rules later run.steps k c at in
    let none = run.initial.shared_zero x in
    let counts = total-by_times (λ r. update_of x (slice_get a.rules r)) (range_with_len 0 (length a.rules)) (take k rules)
    (each_once a first rules later run.steps k c at) in
    omega (arith, ints, sum, none, counts)

same_sum : (a : Automaton) (r : ℕ) (before after : Config) → length before.counters ≡ length a.locations → Step a r before after
    → sum after.counters ≡ sum before.counters
same_sum a r before after count step =
    let moved = weighted_sum-moved (λ _. 1) step.rule.from step.rule.to before.counters after.counters (omega (arith, from_within a r step.rule step.named))
    (omega (arith, to_within a r step.rule step.named)) step.move.counters_count step.move.moved in
    omega (arith, moved, weighted_sum-ones 0 before.counters, weighted_sum-ones 0 after.counters)

pub counters_add_up : CountersAddUp
counters_add_up a first rules later run k c at =
    let kept = along a (λ rs b d. length b.counters ≡ length a.locations → sum d.counters ≡ sum b.counters) (λ b e. refl)
    (λ r rs b x d step h e. h (step.move.counters_count ∙ e) ∙ same_sum a r b x e step) first rules later run.steps k c at run.initial.locations_count in
    let same = parameters_stay a first rules later run k c at in
    ap pos kept ∙ run.initial.processes ∙ ap (λ ps. value_of (number_at ps) a.processes) (sym same)
