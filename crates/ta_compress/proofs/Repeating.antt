-- the unit steps of a run that shows its pattern pass every check, where all guards stay in range
use Rattle.ta_compress.proofs.Common.{◌≡◌, inl, inr, ℕ, zero, suc, ◌+◌, ◌-◌, ◌<◌, ℤ, pos, ◌+ℤ◌, ◌-ℤ◌, ◌*ℤ◌, List, [], ◌∷◌, ◌++◌, length, map, take, drop}
use Rattle.ta_compress.proofs.Common.{replicate, unsigned_abs, arith, sym, ap, ◌∙◌, refl, subst, slice_get, Some, Option, append_assoc, fun_ext, ints}
use Rattle.ta_compress.proofs.Common.{eqb_tells, zero-*ℤ, AllByRecursion, each_at, each_take, abs_natural, distributes_right, minus_times, mul-ge-zero}
use Rattle.ta_compress.proofs.Common.{one_times, cut_at, replicate_cut, some_at, point_of, Automaton, Pattern, Rule, location_place, rule_change, shared_change}
use Rattle.ta_compress.proofs.Common.{Config, value_at, one_if-ne, shared_change-shared, change_of, rule_within, run_length, IsOf, config_of, GuardsStay, Value}
use Rattle.ta_compress.proofs.Common.{model_at, model_whole, same_model, Run, LineFits, NumbersStay, ValuesAfter, ShowsPattern, unit_steps, FitsPattern}
use Rattle.ta_compress.proofs.Common.{unit_steps-append, lines-change, total-replicate, shown_first, MayRepeat, MayStep, RepeatsRule, StepsLead, each_get_or}
use Rattle.ta_compress.proofs.Common.{first_whole}
use Rattle.ta_counter.proofs.Adding.{range_below}
use Rattle.ta_linear.specs.Sums.{StaysInRange}
use Rattle.ta_linear.specs.Terms.{coefficient}
use Rattle.ta_base.specs.Lists.{Distinct}
use Rattle.ta_automaton.specs.Runs.{Step}
use Rattle.ta_automaton.specs.Shape.{Update, variable_of}
use Rattle.ta_counter.specs.declared.config.Config as counter
use Rattle.ta_counter.specs.declared.fault.StepFault.TheVariants.{Count, OutOfRange, Guard}
use Rattle.ta_counter.specs.Steps.{Fires, AllGrow, before_last}
use Rattle.ta_counter.proofs.Stepping.{no_steps}
use Rattle.ta_replay.specs.declared.run.RunLine.TheVariants as line
use Rattle.ta_compress.proofs.Leading.{First, leads_first, leads_split, leads_value, leads_whole}

-- the whole run as steps that lead somewhere
pub whole_run : (a : Automaton) (p : Pattern) (run : Run) (s : ShowsPattern a p run) → (end : Config) × StepsLead a p s.first (unit_steps run.lines) end
whole_run a p run s =
    let count = run_length a s.first (unit_steps run.lines) s.later s.follows.steps in
    let last = some_at (s.first ∷ s.later) (length (unit_steps run.lines)) (omega arith) in
    (last.0, record { later = s.later; steps = s.follows.steps; ends = last.1; kept = s.kept_empty })

-- a step of the model from a configuration
record StepFrom (a : Automaton) (r : ℕ) (c : Config) : Type 0 where
  next : Config
  step : Step a r c next

-- the unit steps of a line are steps of the model
unit_of_line : (a : Automaton) (p : Pattern) (run : Run) → FitsPattern a p run → (s : ShowsPattern a p run) → (i r : ℕ) (k : ℤ)
    → slice_get run.lines i ≡ Some (line.Step r k) → (values : List ℤ) → ValuesAfter a run (take i run.lines) values → (times : ℕ) (now : counter.Config)
    → times < unsigned_abs k → IsOf a now → RepeatsRule a r values times now.values.items → StepFrom a r (config_of a now)
unit_of_line a p run fits s i r k at values reached times now less is repeated =
    let n = unsigned_abs k in
    let front = unit_steps (take i run.lines) in
    let back = unit_steps (drop (suc i) run.lines) in
    let all = whole_run a p run s in
    let lines : unit_steps run.lines ≡ front ++ (replicate n r ++ back) = ap unit_steps (cut_at run.lines i (line.Step r k) at)
    ∙ unit_steps-append (take i run.lines) (line.Step r k ∷ drop (suc i) run.lines) in
    let parts : unit_steps run.lines ≡ front ++ (replicate times r ++ (r ∷ (replicate (n - suc times) r ++ back))) =
    lines ∙ ap (λ (xs : List ℕ). front ++ (xs ++ back)) (replicate_cut n times r less)
    ∙ ap (λ (xs : List ℕ). front ++ xs) (append_assoc (replicate times r) (r ∷ replicate (n - suc times) r) back) in
    let one = leads_split a p s.first front (replicate times r ++ (r ∷ (replicate (n - suc times) r ++ back))) all.0
    (subst (λ (xs : List ℕ). StepsLead a p s.first xs all.0) parts all.1) in
    let two = leads_split a p one.middle (replicate times r) (r ∷ (replicate (n - suc times) r ++ back)) all.0 one.right in
    let f : First a p two.middle r (replicate (n - suc times) r ++ back) all.0 = leads_first a p two.middle r (replicate (n - suc times) r ++ back) all.0
    two.right in
    let start = first_whole a s.first s.follows.initial in
    let middle = leads_whole a p s.first front one.middle start one.left in
    let here = leads_whole a p one.middle (replicate times r) two.middle middle two.left in
    let value : (place : ℕ) → value_at two.middle place ≡ point_of now.values.items place = (λ place.
    omega (
      arith,
      ints,
      leads_value a p one.middle (replicate times r) two.middle middle two.left place,
      total-replicate (λ q. change_of a place q) times r,
      leads_value a p s.first front one.middle start one.left place,
      lines-change a p place (take i run.lines)
          (each_take (LineFits a p) i run.lines fits.lines),
      shown_first a p run fits s reached.first reached.starts place,
      reached.changed place,
      repeated
          place,
    )) in
    let same : two.middle ≡ config_of a now = same_model a two.middle (config_of a now) here (model_whole a now.values.items is.places)
    (λ place. value place ∙ sym (model_at a now.values.items now.natural place)) in
    record { next = f.next; step = subst (λ (c : Config). Step a r c f.next) same f.step }

coefficient_none : (ts : List (ℕ × ℤ)) (x : ℕ) → AllByRecursion (λ y. x ≡ y → ⊥) (map variable_of ts) → coefficient ts x ≡ pos 0
coefficient_none [] x h = refl
coefficient_none (t ∷ ts) x h = elim (eqb_tells t.0 x) [
  | inl e ↦ absurd (h.0 (sym e.1))
  | inr ne ↦ rw ne.0 (omega (arith, ints, coefficient_none ts x h.1))
]

coefficient_there : (ts : List (ℕ × ℤ)) (j : ℕ) (u : ℕ × ℤ) → Distinct (map variable_of ts) → slice_get ts j ≡ Some u → coefficient ts u.0 ≡ u.1
coefficient_there [] j u h at = absurd (cc)
coefficient_there (t ∷ ts) zero u h at =
    let same : t ≡ u = cc in
    subst (λ (w : ℕ × ℤ). coefficient (t ∷ ts) w.0 ≡ w.1) same (elim (eqb_tells t.0 t.0) [
      | inl e ↦ rw e.0 (omega (arith, ints, coefficient_none ts t.0 h.0))
      | inr ne ↦ absurd (ne.1 refl)
    ])
coefficient_there (t ∷ ts) (suc j) u h at = elim (eqb_tells t.0 u.0) [
  | inl e ↦ absurd (other_one t.0 ts j u h.0 at e.1)
  | inr ne ↦ rw ne.0 (omega (arith, ints, coefficient_there ts j u h.1 at))
] where
  other_one : (x : ℕ) (ts : List (ℕ × ℤ)) (j : ℕ) (u : ℕ × ℤ) → AllByRecursion (λ y. x ≡ y → ⊥) (map variable_of ts) → slice_get ts j ≡ Some u → x ≡ u.0 → ⊥
  other_one x [] j u h at e = absurd (cc)
  other_one x (w ∷ ws) zero u h at e = h.0 (let same : w ≡ u = cc in e ∙ sym (ap variable_of same))
  other_one x (w ∷ ws) (suc j) u h at e = other_one x ws j u h.1 at e

-- what many firings add without leaving the range, one of them adds
one_grows : (a : Automaton) (r : ℕ) (rule : Rule) → slice_get a.rules r ≡ Some rule → (k : ℕ) (values : List ℤ) (times : ℕ) (now : counter.Config) → times < k
    → IsOf a now → RepeatsRule a r values times now.values.items → AllGrow a rule (pos k) values → AllGrow a rule (pos 1) now.values.items
one_grows a r rule named k values times now less is repeated grow j u at =
    let w = rule_within a r rule named in
    let update = each_at (Update (length a.shared)) rule.updates j u w.updates at in
    let g = grow j u at in
    let place = length a.parameters + u.0 in
    let exists = update.exists in
    let natural = (each_get_or Value now.values.items place (pos 0) now.natural (omega (arith, is.places))).natural in
    let shared : shared_change a rule place ≡ u.1 = shared_change-shared a rule u.0 exists ∙ coefficient_there rule.updates j u w.variables_distinct at in
    let change : rule_change a (slice_get a.rules r) place ≡ u.1 = ap (λ (o : Option Rule). rule_change a o place) named
    ∙ (let to = one_if-ne (location_place a rule.to) place (λ e. omega arith) in
    let from = one_if-ne (location_place a rule.from) place (λ e. omega arith) in omega (arith, ints, shared, to, from)) in
    let here : point_of now.values.items place ≡ (point_of values place +ℤ (pos times *ℤ u.1)) = repeated place
    ∙ ap (λ z. point_of values place +ℤ (pos times *ℤ z)) change in
    let more = mul-ge-zero (pos k -ℤ pos (suc times)) u.1 (omega (arith, ints)) (omega (arith, ints, update.least)) in
    let most = minus_times (pos k) (pos (suc times)) u.1 in
    let next : (pos (suc times) *ℤ u.1) ≡ ((pos times *ℤ u.1) +ℤ u.1) =
    (let e : pos (suc times) ≡ (pos times +ℤ pos 1) = omega (arith, ints) in ap (λ z. z *ℤ u.1) e ∙ distributes_right (pos times) (pos 1) u.1
    ∙ ap (λ z. (pos times *ℤ u.1) +ℤ z) (one_times u.1)) in
    let so_far = mul-ge-zero (pos times) u.1 (omega (arith, ints)) (omega (arith, ints, update.least)) in
    record {
      product = range_below (pos 1 *ℤ u.1) (pos k *ℤ u.1) (omega (arith, ints, one_times u.1, update.least))
          (omega (arith, ints, one_times u.1, more, most, next, so_far)) g.product;
      sum = range_below (point_of now.values.items place +ℤ (pos 1 *ℤ u.1)) (point_of values place +ℤ (pos k *ℤ u.1))
          (omega (arith, ints, one_times u.1, natural, update.least)) (omega (arith, ints, one_times u.1, here, more, most, next)) g.sum;
    }

-- before the last of one firing nothing has changed
last_of_one : (a : Automaton) (rule : Rule) (values : List ℤ) → before_last a rule (pos 1) values ≡ point_of values
last_of_one a rule values = fun_ext
    (λ i. (let none : (pos 1 -ℤ pos 1) ≡ pos 0 = omega (arith, ints) in omega
    (arith, ints, ap (λ z. z *ℤ shared_change a rule i) none, zero-*ℤ (shared_change a rule i))))

-- no check of such a step refuses
step_passes : (a : Automaton) (r : ℕ) (now : counter.Config) → IsOf a now → StepFrom a r (config_of a now)
    → ((rule : Rule) → slice_get a.rules r ≡ Some rule → AllGrow a rule (pos 1) now.values.items) → GuardsStay a (point_of now.values.items)
    → MayStep a r now.values.items
step_passes a r now is s grow stay Count rule named h =
    let fires : Fires a r 1 (config_of a now) s.next = record { later = s.next ∷ []; steps = (s.step, tt); last = refl } in
    no_steps a r rule (pos 1) now Count named (omega (arith, ints)) is h s.next fires
step_passes a r now is s grow stay (Guard guard) rule named h =
    let fires : Fires a r 1 (config_of a now) s.next = record { later = s.next ∷ []; steps = (s.step, tt); last = refl } in
    no_steps a r rule (pos 1) now (Guard guard) named (omega (arith, ints)) is h s.next fires
step_passes a r now is s grow stay (OutOfRange place) rule named h = elim h.1 [
  | inl leaves ↦ leaves.first.bad (grow rule named leaves.number leaves.first.item leaves.first.at)
  | inr w ↦ elim w.1.2 [
    | inl stop ↦ stop.bad.1 (stay.rise w.1.0 stop.item stop.at)
    | inr v ↦ (
        let stop = v.1.2 in
        subst (λ (f : ℕ → ℤ). StaysInRange f stop.item.form.constant stop.item.form.terms → ⊥) (last_of_one a rule now.values.items) stop.bad.1
        (stay.fall v.1.0 stop.item stop.at))
  ]
]

-- the unit steps of a line pass their checks one after another, where all guards stay in range
pub may_repeat : (a : Automaton) (p : Pattern) (run : Run) → FitsPattern a p run → ShowsPattern a p run → NumbersStay a p run → (i r : ℕ) (k : ℤ)
    → slice_get run.lines i ≡ Some (line.Step r k) → (values : List ℤ) → ValuesAfter a run (take i run.lines) values → MayRepeat a r (unsigned_abs k) values
may_repeat a p run fits s stays i r k at values reached times now less is repeated stay =
    let natural : pos (unsigned_abs k) ≡ k = abs_natural k
    (let f = each_at (LineFits a p) run.lines i (line.Step r k) fits.lines at in omega (arith, ints, f.1)) in
    step_passes a r now is (unit_of_line a p run fits s i r k at values reached times now less is repeated)
    (λ rule named.
    let grow = (stays.lines i (line.Step r k) values at reached rule named).grow in
    one_grows a r rule named (unsigned_abs k) values times now less is repeated (subst (λ z. AllGrow a rule z values) (sym natural) grow))
    stay
