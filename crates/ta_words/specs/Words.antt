-- Schemas (words in the code): sequences of milestones and events, and the rules that are allowed after them. A schema is given as its
-- past: its elements, the newest first. Source: Konnov, Lazić, Veith, Widder, POPL 2017 (contexts, milestones, schemas).
use Rattle.std.specs.Prelude.{ℕ, ◌-◌, ◌^◌, ◌==◌, Bool, true, false, cond, not, ◌&&◌, ◌||◌, List, [], ◌∷◌, ◌++◌, length, map, filter, slice_get, Option, Some}
use Rattle.std.specs.Prelude.{None}
use Rattle.ta_automaton.specs.declared.rule.Rule.{Rule}
use Rattle.ta_automaton.specs.declared.automaton.Automaton.{Automaton}
use Rattle.ta_automaton.specs.declared.pattern.Event.{Event as PatternEvent}
use Rattle.ta_automaton.specs.declared.pattern.Pattern.{Pattern}
use Rattle.ta_base.specs.Masks.{has_bit, all_below, implies, In}
use Rattle.std.specs.List.{range_with_len}
use Rattle.ta_words.specs.declared.element.Element.{Element}
use Rattle.ta_words.specs.declared.element.Element.TheVariants.{Event, Rise, Fall}

-- the events of a schema
unfoldable pub has_event : List Element → ℕ → Bool
has_event [] e = false
has_event (Event f ∷ past) e = (f == e) || has_event past e
has_event (Rise i ∷ past) e = has_event past e
has_event (Fall mask ∷ past) e = has_event past e

-- the rise guards of a schema
unfoldable pub has_rise : List Element → ℕ → Bool
has_rise [] i = false
has_rise (Event e ∷ past) i = has_rise past i
has_rise (Rise j ∷ past) i = (j == i) || has_rise past i
has_rise (Fall mask ∷ past) i = has_rise past i

-- the fall guards of the start set and of the falls of a schema
unfoldable pub has_fallen : ℕ → List Element → ℕ → Bool
has_fallen start [] j = has_bit start j
has_fallen start (Event e ∷ past) j = has_fallen start past j
has_fallen start (Rise i ∷ past) j = has_fallen start past j
has_fallen start (Fall mask ∷ past) j = has_bit mask j || has_fallen start past j

-- whether each event of the pattern is in the schema
abbrev pub is_complete : Pattern → List Element → Bool
is_complete p past = all_below (length p.events) (has_event past)

-- whether the events that an event comes after are in the schema
abbrev pub follows : Pattern → List Element → Option PatternEvent → Bool
follows p past None = false
follows p past (Some event) = all_below (length p.events) (λ f. implies (has_bit event.after f) (has_event past f))

abbrev pub is_ready : Pattern → List Element → ℕ → Bool
is_ready p past e = not (has_event past e) && follows p past (slice_get p.events e)

-- whether no guard of a set is in the start set or has fallen
abbrev pub is_standing : Automaton → ℕ → List Element → ℕ → Bool
is_standing a start past mask = all_below (length a.fall) (λ j. implies (has_bit mask j) (not (has_fallen start past j)))

-- whether each rise guard that comes before one is in the schema, by pairs (j, i): j before i
abbrev pub is_due : List (ℕ × ℕ) → List Element → ℕ → Bool
is_due [] past i = true
is_due (pair ∷ pairs) past i = implies (pair.1 == i) (has_rise past pair.0) && is_due pairs past i

-- whether a rise guard may come: those before it are in the schema, and it is not
abbrev pub may_rise : List (ℕ × ℕ) → List Element → ℕ → Bool
may_rise pairs past i = is_due pairs past i && not (has_rise past i)

-- the elements that may follow a schema under such pairs, in order
unfoldable pub children : Automaton → Pattern → List (ℕ × ℕ) → ℕ → List Element → List Element
children a p pairs start past =
    cond (is_complete p past) []
    (map Event (filter (is_ready p past) (range_with_len 0 (length p.events)))
    ++ (map Rise (filter (may_rise pairs past) (range_with_len 0 (length a.rise)))
    ++ map Fall (filter (is_standing a start past) (range_with_len 1 (2 ^ length a.fall - 1)))))

-- each element may follow the elements before it, under pairs
abbrev pub LegalUnder : Automaton → Pattern → List (ℕ × ℕ) → ℕ → List Element → Type 0
LegalUnder a p pairs start [] = Unit {0}
LegalUnder a p pairs start (e ∷ past) = In e (children a p pairs start past) × LegalUnder a p pairs start past

-- the same under no pairs
abbrev pub LegalWord : Automaton → Pattern → ℕ → List Element → Type 0
LegalWord a p start past = LegalUnder a p [] start past

-- whether a rule may fire: it leads to another location, touches no location that is kept empty, has its rise guards in the schema, and has
-- no fall guard that is in the start set or has fallen
abbrev pub may_fire : Automaton → Pattern → ℕ → List Element → Option Rule → Bool
may_fire a p start past None = false
may_fire a p start past (Some rule) =
    not (rule.from == rule.to)
    && (not (has_bit p.empty rule.from)
    && (not (has_bit p.empty rule.to)
    && (all_below (length a.rise) (λ i. implies (has_bit rule.rise i) (has_rise past i))
    && all_below (length a.fall) (λ j. implies (has_bit rule.fall j) (not (has_fallen start past j))))))

-- the allowed rules, in order
unfoldable pub allowed_rules : Automaton → Pattern → ℕ → List Element → List ℕ
allowed_rules a p start past = filter (λ r. may_fire a p start past (slice_get a.rules r)) (range_with_len 0 (length a.rules))
