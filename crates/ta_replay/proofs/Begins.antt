-- where a replay begins
use Rattle.ta_replay.proofs.Common.{◌≡◌, inl, inr, ℕ, zero, suc, ◌+◌, ◌<◌, ℤ, pos, List, [], length, arith, sym, ap, ◌∙◌, refl, subst, slice_get, get_or, Some}
use Rattle.ta_replay.proofs.Common.{ints, ext_get_or, get_or-take, same_Some, slice_get_within, no_bit, pos_same, point_of, Automaton, Pattern, At, total}
use Rattle.ta_replay.proofs.Common.{place_cases, Config, ConditionPasses, config_of, naturals, StartsAt, naturals_at, holds_from, KeepsEmpty, holds_there}
use Rattle.ta_replay.proofs.Common.{counter_there, Run, RunLine, Mark, ValuesAfter, NoneFilled, FirstFilled, FitsPattern, Following, StartsWith, rises_length}
use Rattle.ta_base.proofs.Members.{contains_or, in_of, place_of}
use Rattle.ta_automaton.specs.Runs as runs

counter_at_start : (a : Automaton) (run : Run) (config : Config) → StartsWith a run config → (j l : ℕ) → slice_get a.initial j ≡ Some l
    → pos (get_or (config_of a config).counters l 0) ≡ point_of run.counts j
counter_at_start a run config s j l at = counter_there a config s.is_of l ∙ s.starts.counts_there j l at

empty_at_start : (a : Automaton) (p : Pattern) (run : Run) (config : Config) → StartsWith a run config → NoneFilled a p run
    → KeepsEmpty p.empty (config_of a config)
empty_at_start a p run config s none l bit = elim (contains_or l a.initial) [
  | inl c ↦ let w = place_of l a.initial (in_of a.initial l c) in pos_same _ 0 (counter_at_start a run config s w.0 l w.1 ∙ none w.0 l w.1 bit)
  | inr out ↦ s.initial.others_empty l out
]

-- the first configuration, before any line
pub starting : (a : Automaton) (p : Pattern) (run : Run) (config : Config) → FitsPattern a p run → StartsWith a run config
    → ConditionPasses (point_of config.values.items) p.start → NoneFilled a p run → Following a p run 0 config 0
unfolding total
starting a p run config fits s start none = record {
  may_follow = record { may_start = s.may_start; first = config.values.items; starts = s.starts; start = start; empty = none };
  before = λ j line b at. absurd (omega arith);
  is_of = s.is_of;
  reached = record { first = config.values.items; starts = s.starts; places = refl; changed = λ place. omega (arith, ints) };
  marked = λ e. (λ bit. absurd (no_bit e bit), λ m. absurd (nothing m.0 e m.1));
  first = config_of a config;
  begins = record {
    parameters = ap naturals s.starts.parameters_first;
    counts = λ j l at. pos_same _ _ (counter_at_start a run config s j l at ∙ sym (naturals_at run.counts fits.counts_natural j));
  };
  initial = s.initial;
  start = holds_there a p.start config (holds_from (point_of config.values.items) p.start start);
  path = record {
    later = [];
    steps = tt;
    ends = refl;
    kept = λ k c at. only k c at;
    happened = λ j e event b marks at. absurd (omega arith);
  };
} where
  nothing : (i e : ℕ) → slice_get [] i ≡ Some (Mark e) → ⊥
  nothing i e at = absurd (cc)

  only : (k : ℕ) (c : runs.Config) → At (config_of a config) [] k c → KeepsEmpty p.empty c
  only zero c at = subst (KeepsEmpty p.empty) (same_Some (config_of a config) c at) (empty_at_start a p run config s none)
  only (suc k) c at = absurd (cc)

-- a run has one list of values to start with
pub first_same : (a : Automaton) (parameters counts v w : List ℤ) → StartsAt a parameters counts v → StartsAt a parameters counts w → (i : ℕ)
    → point_of v i ≡ point_of w i
first_same a parameters counts v w s t i = elim (place_cases a i) [
  | inl b ↦ (
      let here = get_or-take (length a.parameters) v i (pos 0) b in
      let there = get_or-take (length a.parameters) w i (pos 0) b in
      sym here ∙ ap (λ (xs : List ℤ). get_or xs i (pos 0)) (s.parameters_first ∙ sym t.parameters_first) ∙ there)
  | inr (inl x) ↦ ap (point_of v) x.2 ∙ s.shared_zero x.0 x.1 ∙ sym (t.shared_zero x.0 x.1) ∙ sym (ap (point_of w) x.2)
  | inr (inr x) ↦ elim (contains_or x.0 a.initial) [
    | inl c ↦ let m = place_of x.0 a.initial (in_of a.initial x.0 c) in ap (point_of v) x.1 ∙ s.counts_there m.0 x.0 m.1 ∙ sym (t.counts_there m.0 x.0 m.1)
        ∙ sym (ap (point_of w) x.1)
    | inr none ↦ ap (point_of v) x.1 ∙ s.others_empty x.0 none ∙ sym (t.others_empty x.0 none) ∙ sym (ap (point_of w) x.1)
  ]
]

pub starts_same : (a : Automaton) (parameters counts v w : List ℤ) → StartsAt a parameters counts v → StartsAt a parameters counts w → v ≡ w
starts_same a parameters counts v w s t = ext_get_or (pos 0) v w (s.places ∙ sym t.places) (λ i b. first_same a parameters counts v w s t i)

-- lines lead to one list of values
pub after_same : (a : Automaton) (run : Run) (lines : List RunLine) (v w : List ℤ) → ValuesAfter a run lines v → ValuesAfter a run lines w → v ≡ w
after_same a run lines v w s t =
    ext_get_or (pos 0) v w (s.places ∙ s.starts.places ∙ sym (t.places ∙ t.starts.places))
    (λ i b. omega (arith, ints, s.changed i, t.changed i, first_same a run.parameters run.counts s.first t.first s.starts t.starts i))

-- places among the initial locations are small
pub filled_below : (a : Automaton) (p : Pattern) (run : Run) (j : ℕ) → FirstFilled a p run j → length a.parameters + j < 160
filled_below a p run j filled =
    let within = slice_get_within a.initial j filled.location filled.at in
    let count = rises_length 0 (length a.locations) a.initial (omega arith) a.shape.initial_rises in
    omega (arith, a.shape.limits.parameters_limit, a.shape.limits.locations_limit)
