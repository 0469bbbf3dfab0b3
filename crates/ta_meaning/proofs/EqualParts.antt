-- The parts of a file are equal where their data are: what else their types keep are propositions.
use Rattle.ta_meaning.proofs.Common.{◌≡◌, ℕ, ℤ, ◌+◌, ◌≤◌, ◌^◌, length, InRange, IsNormal, IsNormal-prop, Form, Row, AutomatonShape, AutomatonShape-prop}
use Rattle.ta_meaning.proofs.Common.{PatternsShape, PatternsShape-prop, Comparison, Condition, Rule, Event, Pattern, Automaton, File}
use mathlib.Core.HLevel.{is_prop→PathP}
use Rattle.std.proofs.Props.{props}
use Rattle.ta_base.proofs.Naturals.{le-prop}

InRange-prop : (z : ℤ) → IsProp (InRange z)
InRange-prop z = hlevel props

pub form-equal : (a b : Form) → a.constant ≡ b.constant → a.terms ≡ b.terms → a ≡ b
form-equal a b constant terms = λ i. record {
  constant = constant i;
  terms = terms i;
  constant_fits = is_prop→PathP (λ j. InRange (constant j)) (λ j. InRange-prop (constant j)) a.constant_fits b.constant_fits i;
  normal = is_prop→PathP (λ j. IsNormal 0 (2 ^ 32) (terms j)) (λ j. IsNormal-prop 0 (2 ^ 32) (terms j)) a.normal b.normal i;
}

pub row-equal : (a b : Row) → a.form ≡ b.form → a ≡ b
row-equal a b form = λ i. record { form = form i }

pub comparison-equal : (a b : Comparison) → a.rows ≡ b.rows → a ≡ b
comparison-equal a b rows = λ i. record {
  rows = rows i;
  some = is_prop→PathP (λ j. 1 ≤ length (rows j)) (λ j. le-prop 1 (length (rows j))) a.some b.some i;
  most = is_prop→PathP (λ j. length (rows j) ≤ 2) (λ j. le-prop (length (rows j)) 2) a.most b.most i;
}

pub condition-equal : (a b : Condition) → a.comparisons ≡ b.comparisons → a ≡ b
condition-equal a b comparisons = λ i. record {
  comparisons = comparisons i;
  limit = is_prop→PathP (λ j. length (comparisons j) ≤ 16) (λ j. le-prop (length (comparisons j)) 16) a.limit b.limit i;
}

-- rules with equal data
pub record EqualRules (a b : Rule) : Type 0 where
  pub name : a.name ≡ b.name
  pub from : a.from ≡ b.from
  pub to : a.to ≡ b.to
  pub rise : a.rise ≡ b.rise
  pub fall : a.fall ≡ b.fall
  pub updates : a.updates ≡ b.updates

pub rule-equal : (a b : Rule) → EqualRules a b → a ≡ b
rule-equal a b s = λ i. record { name = s.name i; from = s.from i; to = s.to i; rise = s.rise i; fall = s.fall i; updates = s.updates i }

pub event-equal : (a b : Event) → a.name ≡ b.name → a.after ≡ b.after → a.condition ≡ b.condition → a ≡ b
event-equal a b name after condition = λ i. record { name = name i; after = after i; condition = condition i }

pub pattern-equal : (a b : Pattern) → a.name ≡ b.name → a.start ≡ b.start → a.empty ≡ b.empty → a.events ≡ b.events → a ≡ b
pattern-equal a b name start empty events = λ i. record { name = name i; start = start i; empty = empty i; events = events i }

-- automata with equal data
pub record EqualAutomata (a b : Automaton) : Type 0 where
  pub name : a.name ≡ b.name
  pub parameters : a.parameters ≡ b.parameters
  pub shared : a.shared ≡ b.shared
  pub locations : a.locations ≡ b.locations
  pub initial : a.initial ≡ b.initial
  pub processes : a.processes ≡ b.processes
  pub resilience : a.resilience ≡ b.resilience
  pub rise : a.rise ≡ b.rise
  pub fall : a.fall ≡ b.fall
  pub rules : a.rules ≡ b.rules

pub automaton-equal : (a b : Automaton) → EqualAutomata a b → a ≡ b
automaton-equal a b s = λ i. record {
  name = s.name i;
  parameters = s.parameters i;
  shared = s.shared i;
  locations = s.locations i;
  initial = s.initial i;
  processes = s.processes i;
  resilience = s.resilience i;
  rise = s.rise i;
  fall = s.fall i;
  rules = s.rules i;
  shape = is_prop→PathP
      (λ j. AutomatonShape (s.name j) (s.parameters j) (s.shared j) (s.locations j) (s.initial j) (s.processes j) (s.resilience j) (s.rise j) (s.fall j)
      (s.rules j))
      (λ j. AutomatonShape-prop (s.name j) (s.parameters j) (s.shared j) (s.locations j) (s.initial j) (s.processes j) (s.resilience j) (s.rise j) (s.fall j)
      (s.rules j))
      a.shape b.shape i;
}

abbrev places_of : Automaton → ℕ
places_of a = length a.parameters + length a.shared + length a.locations

pub file-equal : (f g : File) → f.automaton ≡ g.automaton → f.patterns ≡ g.patterns → f ≡ g
file-equal f g automaton patterns = λ i. record {
  automaton = automaton i;
  patterns = patterns i;
  shape = is_prop→PathP
      (λ j. PatternsShape (places_of (automaton j)) (length (automaton j).locations) (patterns j))
      (λ j. PatternsShape-prop (places_of (automaton j)) (length (automaton j).locations) (patterns j))
      f.shape g.shape i;
}
