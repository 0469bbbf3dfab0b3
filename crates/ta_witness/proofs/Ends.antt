-- runs with the same start and the same steps have the same end
use Rattle.ta_witness.proofs.Common.{place_of}
use Rattle.ta_witness.proofs.RestCommon.{◌≡◌, inl, inr, ℕ, List, arith, sym, ap, ◌∙◌, get_or, ext_get_or, Automaton, At, Config, Initial, Run, IsFirstConfig}
use Rattle.ta_base.proofs.Members.{contains_or, in_of}
use Rattle.ta_base.proofs.Integers.{pos_same}
use Rattle.ta_automaton.specs.Places.{Whole}
use Rattle.ta_automaton.proofs.RunLaws.{counters_by_firings, parameters_stay, shared_by_firings}
use Rattle.ta_replay.proofs.Showing.{first_whole}
use Rattle.ta_rest.proofs.Resting.{whole_at}
use Rattle.ta_automaton.specs.Runs as runs

-- two configurations with the same parameters and counters
pub record SameStart (c d : Config) : Type 0 where
  pub parameters : c.parameters ≡ d.parameters
  pub counters : (l : ℕ) → get_or c.counters l 0 ≡ get_or d.counters l 0

pub begins_same : (a : Automaton) (run : Run) (c d : Config) → Initial a c → Initial a d → IsFirstConfig a run c → IsFirstConfig a run d → SameStart c d
begins_same a run c d i j b e = record {
  parameters = b.parameters ∙ sym e.parameters;
  counters = λ l. elim (contains_or l a.initial) [
    | inl is ↦ let w = place_of l a.initial (in_of a.initial l is) in b.counts w.0 l w.1 ∙ sym (e.counts w.0 l w.1)
    | inr none ↦ i.others_empty l none ∙ sym (j.others_empty l none)
  ];
}

config_same : (c d : Config) → c.parameters ≡ d.parameters → c.shared ≡ d.shared → c.counters ≡ d.counters → c ≡ d
config_same c d p s q = ap (λ (x : List ℕ). record c { parameters = x }) p ∙ ap (λ (x : List ℕ). record c { parameters = d.parameters; shared = x }) s
    ∙ ap (λ (x : List ℕ). record d { counters = x }) q

pub end_whole : (a : Automaton) (first : Config) (rules : List ℕ) (later : List Config) → runs.Run a first rules later → (k : ℕ) (c : Config)
    → At first later k c → Whole a c
end_whole a first rules later run k c at = whole_at a first rules later (first_whole a first run.initial) run.steps k c at

-- they are the same after as many of the same steps
pub ends_same : (a : Automaton) (first other : Config) (rules : List ℕ) (later latest : List Config) → runs.Run a first rules later
    → runs.Run a other rules latest → SameStart first other → (k : ℕ) (c d : Config) → At first later k c → At other latest k d → c ≡ d
ends_same a first other rules later latest run also same k c d at there =
    let w = end_whole a first rules later run k c at in
    let x = end_whole a other rules latest also k d there in
    config_same c d
    (parameters_stay a first rules later run k c at ∙ same.parameters ∙ sym (parameters_stay a other rules latest also k d there))
    (ext_get_or 0 c.shared d.shared (w.shared ∙ sym x.shared)
    (λ i b. pos_same _ _ (shared_by_firings a first rules later run k c at i ∙ sym (shared_by_firings a other rules latest also k d there i))))
    (ext_get_or 0 c.counters d.counters (w.counters ∙ sym x.counters) (λ l b.
    let one = counters_by_firings a first rules later run k c at l in
    let two = counters_by_firings a other rules latest also k d there l in
    let start = same.counters l in
    omega (arith, one, two, start)))
