-- a run in which a pattern occurs, cut behind its events
use Rattle.ta_moments.proofs.Common.{replicate, append-nil, length-replicate, InSteps, fired_steps, inl, inr, ap, sym, ◌∙◌, cases_lt, ◌++◌, ◌+◌, ◌-◌, ◌≡◌, ℕ}
use Rattle.ta_moments.proofs.Common.{zero, suc, ◌≤◌, List, [], ◌∷◌, take, length, get_or, slice_get, Some, arith, refl, subst, slice_get_within}
use Rattle.ta_moments.proofs.Common.{slice_get-get_or, Automaton, Pattern, At, Config, Occurs, Steps, get_front, get_or_from_slice_get}
use Rattle.std.proofs.Math.Seq.{take-append-add}
use Rattle.std.proofs.lemmas.List.{take-append-le, take-replicate}
use Rattle.std.proofs.Common.{length-take-le}
use Rattle.ta_base.proofs.Lists.{front_get}

steps_cut : (a : Automaton) (c : Config) (rules : List ℕ) (later : List Config) (k : ℕ) → Steps a c rules later → Steps a c (take k rules) (take k later)
steps_cut a c rules later zero steps = tt
steps_cut a c [] [] (suc k) steps = tt
steps_cut a c [] (d ∷ later) (suc k) steps = absurd steps
steps_cut a c (r ∷ rules) [] (suc k) steps = absurd steps
steps_cut a c (r ∷ rules) (d ∷ later) (suc k) steps = (steps.0, steps_cut a d rules later k steps.1)

at_cut : (first : Config) (later : List Config) (k j : ℕ) (c : Config) → j ≤ k → At first later j c → At first (take k later) j c
at_cut first later k zero c le at = at
at_cut first later k (suc j) c le at = front_get later k j c (omega arith) at

at_uncut : (first : Config) (later : List Config) (k j : ℕ) (c : Config) → At first (take k later) j c → At first later j c
at_uncut first later k zero c at = at
at_uncut first later k (suc j) c at = (get_front later k j c at).1

-- the run up to a position that no event is behind
pub record CutAt (a : Automaton) (p : Pattern) (first : Config) (rules : List ℕ) (o : Occurs a p first rules) (k : ℕ) : Type 0 where
  pub occurs : Occurs a p first (take k rules)
  pub same_positions : occurs.positions ≡ o.positions
  pub later : (j : ℕ) (c : Config) → At first occurs.later j c → At first o.later j c
  pub long : length (take k rules) ≡ k

pub cut_at : (a : Automaton) (p : Pattern) (first : Config) (rules : List ℕ) (o : Occurs a p first rules) (k : ℕ) → k ≤ length rules
    → ((e : ℕ) (j : ℕ) → slice_get o.positions e ≡ Some j → j ≤ k) → CutAt a p first rules o k
cut_at a p first rules o k within all = record {
  occurs = record {
    later = take k o.later;
    run = record { initial = o.run.initial; steps = steps_cut a first rules o.later k o.run.steps };
    start = o.start;
    kept_empty = λ l set j d b.
        let whole = at_uncut first o.later k j (get_or (first ∷ take k o.later) j d) (slice_get-get_or (first ∷ take k o.later) j d b) in
        let less = slice_get_within (first ∷ o.later) j (get_or (first ∷ take k o.later) j d) whole in
        subst (λ (c : Config). get_or c.counters l 0 ≡ 0) (get_or_from_slice_get (first ∷ o.later) j (get_or (first ∷ take k o.later) j d) d whole)
        (o.kept_empty l set j d less);
    positions = o.positions;
    each_has_one = o.each_has_one;
    happens = λ e event j at here.
        let w = o.happens e event j at here in
        (w.0, at_cut first o.later k j w.0 (all e j here) w.1, w.2);
    in_order = o.in_order;
  };
  same_positions = refl;
  later = at_uncut first o.later k;
  long = length-take-le k rules within;
}

-- ---- the accelerated steps of a cut run
record CutSteps (k : ℕ) (steps : List (ℕ × ℕ)) : Type 0 where
  pub left : List (ℕ × ℕ)
  pub are : take k (fired_steps steps) ≡ fired_steps left
  pub few : length left ≤ length steps

cut_steps : (k : ℕ) (steps : List (ℕ × ℕ)) → CutSteps k steps
cut_steps k [] = record { left = []; are = nothing_taken k; few = omega arith } where
  nothing_taken : (j : ℕ) → take j (fired_steps []) ≡ fired_steps []
  nothing_taken zero = refl
  nothing_taken (suc j) = refl
cut_steps k (s ∷ steps) = elim (cases_lt k s.1) [
  | inl less ↦ record {
    left = (s.0, k) ∷ [];
    are = take-append-le k (replicate s.1 s.0) (fired_steps steps) (omega (arith, length-replicate s.1 s.0, less)) ∙ take-replicate k s.1 s.0 (omega arith)
        ∙ sym (append-nil (replicate k s.0));
    few = omega arith;
  }
  | inr more ↦ (
      let r = cut_steps (k - s.1) steps in
      let sum : k ≡ length (replicate s.1 s.0) + (k - s.1) = omega (arith, length-replicate s.1 s.0, more) in
      record {
        left = s ∷ r.left;
        are = ap (λ (j : ℕ). take j (replicate s.1 s.0 ++ fired_steps steps)) sum ∙ take-append-add (replicate s.1 s.0) (fired_steps steps) (k - s.1)
            ∙ ap (λ (xs : List ℕ). replicate s.1 s.0 ++ xs) r.are;
        few = (let rest = r.few in omega (arith, rest));
      })
]

pub cut_few : (rules : List ℕ) (n k : ℕ) → InSteps rules n → InSteps (take k rules) n
cut_few rules n k h =
    let c = cut_steps k h.steps in
    record { steps = c.left; are = ap (λ (xs : List ℕ). take k xs) h.are ∙ c.are; few = (let one = c.few in let two = h.few in omega (arith, one, two)) }
