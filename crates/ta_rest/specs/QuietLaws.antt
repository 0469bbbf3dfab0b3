-- How quiet rest and rest are related.
use Rattle.std.specs.Prelude.{ℕ, ℤ, ◌≡◌, ◌≢◌, ◌↔◌, List, [], slice_get, Some}
use Rattle.ta_linear.specs.Values.{terms_value}
use Rattle.ta_automaton.specs.declared.rule.Rule.{Rule}
use Rattle.ta_automaton.specs.declared.automaton.Automaton.{Automaton}
use Rattle.ta_automaton.specs.declared.pattern.Pattern.{Pattern}
use Rattle.ta_automaton.specs.Places.{Whole}
use Rattle.ta_automaton.specs.Runs.{Config}
use Rattle.ta_rest.specs.Endings.{IsEnding}
use Rattle.ta_rest.specs.Rest.{AtRest, RestSafe}
use Rattle.ta_rest.specs.Quiet.{NoneSubtracted, QuietRest, QuietRestOccurs, QuietRestSafe, Stuck, loud_terms, without}

-- a configuration is at quiet rest exactly if each rule between two locations has a reason not to move
abbrev pub QuietRestIsStuck : Type 0
QuietRestIsStuck =
    (a : Automaton) (silent : List ℕ) (c : Config)
    → QuietRest a silent c ↔ ((r : ℕ) (rule : Rule) → slice_get a.rules r ≡ Some rule → rule.from ≢ rule.to → Stuck a silent rule c)

-- with no silent places, quiet rest is rest
abbrev pub RestIsQuietRest : Type 0
RestIsQuietRest = (a : Automaton) (c : Config) → Whole a c → AtRest a c ↔ QuietRest a [] c

-- so with no silent places the two kinds of safety are the same
abbrev pub RestSafeIsQuietRestSafe : Type 0
RestSafeIsQuietRestSafe = (a : Automaton) (p : Pattern) → RestSafe a p ↔ QuietRestSafe a [] p

-- some run comes to quiet rest for a pattern exactly if some run does for the pattern's ending
abbrev pub EndingsQuietRestAlike : Type 0
EndingsQuietRestAlike =
    (a : Automaton) (silent : List ℕ) (p ending : Pattern) → IsEnding p ending
    → (first : Config) (rules : List ℕ) → QuietRestOccurs a silent p first rules ↔ QuietRestOccurs a silent ending first rules

-- if no guard subtracts a silent place, a configuration at rest is at quiet rest
abbrev pub QuietRestIsWeaker : Type 0
QuietRestIsWeaker =
    (a : Automaton) (silent : List ℕ) → NoneSubtracted silent a.rise → NoneSubtracted silent a.fall
    → (c : Config) → Whole a c → AtRest a c → QuietRest a silent c

-- so a pattern that occurs in no run that comes to quiet rest occurs in no run that comes to rest
abbrev pub QuietSafeIsStronger : Type 0
QuietSafeIsStronger =
    (a : Automaton) (silent : List ℕ) (p : Pattern) → NoneSubtracted silent a.rise → NoneSubtracted silent a.fall
    → QuietRestSafe a silent p → RestSafe a p

-- some pattern occurs in no run that comes to rest, but in one that comes to quiet rest
pub record QuietAlone : Type 0 where
  pub automaton : Automaton
  pub silent : List ℕ
  pub pattern : Pattern
  pub rise : NoneSubtracted silent automaton.rise
  pub fall : NoneSubtracted silent automaton.fall
  pub safe : RestSafe automaton pattern
  pub not_quiet : ¬ QuietRestSafe automaton silent pattern

-- the value without silent places is that of the terms that are not of silent places
abbrev pub LoudTermsAreLeft : Type 0
LoudTermsAreLeft =
    (silent : List ℕ) (point : ℕ → ℤ) (ts : List (ℕ × ℤ)) → terms_value (without silent point) ts ≡ terms_value point (loud_terms silent ts)
