-- The text of a file as it was understood.
use Rattle.std.specs.Prelude.{ℕ, ℤ, pos, negsuc, unsigned_abs, ◌+◌, ◌==◌, Bool, true, false, List, [], ◌∷◌, ◌++◌, length, codes, decimal, filter}
use Rattle.std.specs.Prelude.{slice_index_or}
use Rattle.std.specs.Fmt.{signed_decimal}
use Rattle.std.specs.List.{range_with_len}
use Rattle.ta_base.specs.Masks.{has_bit}
use Rattle.ta_linear.specs.declared.form.Form.{Form}
use Rattle.ta_linear.specs.declared.row.Row.{Row}
use Rattle.ta_automaton.specs.declared.automaton.Automaton.{Automaton}
use Rattle.ta_automaton.specs.declared.condition.Comparison.{Comparison}
use Rattle.ta_automaton.specs.declared.condition.Condition.{Condition}
use Rattle.ta_automaton.specs.declared.file.File.{File}
use Rattle.ta_automaton.specs.declared.pattern.Event.{Event}
use Rattle.ta_automaton.specs.declared.pattern.Pattern.{Pattern}
use Rattle.ta_automaton.specs.declared.rule.Rule.{Rule}

-- the texts of items, one after the other
abbrev pub each : {X : Type 0} → (X → List ℕ) → List X → List ℕ
each f [] = []
each f (x ∷ xs) = f x ++ each f xs

-- the same, each with its number in front of it
abbrev pub numbered : {X : Type 0} → (X → List ℕ) → ℕ → List X → List ℕ
numbered f k [] = []
numbered f k (x ∷ xs) = (decimal k ++ (codes ": " ++ f x)) ++ numbered f (k + 1) xs

-- a list: a line of its word and of how many items there are, and the items with their numbers
abbrev pub listed : {X : Type 0} → List ℕ → (X → List ℕ) → List X → List ℕ
listed word f xs = word ++ (decimal (length xs) ++ (10 ∷ numbered f 0 xs))

-- the name with this number
abbrev pub name_at : List (List ℕ) → ℕ → List ℕ
name_at names number = slice_index_or names number []

-- the name of a place: parameters stand first, then shared variables, then locations
abbrev pub place_name : Automaton → ℕ → List ℕ
place_name a place = name_at (a.parameters ++ a.shared ++ a.locations) place

-- the numbers of a mask, each after a space
abbrev pub mask_number : ℕ → List ℕ
mask_number k = 32 ∷ decimal k

abbrev pub mask_text : ℕ → List ℕ
mask_text mask = each mask_number (filter (has_bit mask) (range_with_len 0 128))

-- a name on its line
abbrev pub name_text : List ℕ → List ℕ
name_text name = name ++ (10 ∷ [])

-- the name of a location on its line
abbrev pub location_text : Automaton → ℕ → List ℕ
location_text a location = name_at a.locations location ++ (10 ∷ [])

-- this many times a place; without the factor if it is one
abbrev pub many : Bool → ℕ → List ℕ
many true n = []
many false n = decimal n ++ codes "*"

-- this many times a place, without the sign
abbrev pub amount_text : Automaton → ℕ × ℤ → List ℕ
amount_text a t = many (unsigned_abs t.1 == 1) (unsigned_abs t.1) ++ (place_name a t.0 ++ (32 ∷ []))

-- the sign of what comes first, and of what comes after something
abbrev pub first_sign : ℤ → List ℕ
first_sign (pos n) = []
first_sign (negsuc n) = codes "-"

abbrev pub next_sign : ℤ → List ℕ
next_sign (pos n) = codes "+ "
next_sign (negsuc n) = codes "- "

-- a term that comes first, and one that comes after something
abbrev pub first_text : Automaton → ℕ × ℤ → List ℕ
first_text a t = first_sign t.1 ++ amount_text a t

abbrev pub term_text : Automaton → ℕ × ℤ → List ℕ
term_text a t = next_sign t.1 ++ amount_text a t

-- a constant after terms, if it is not 0
abbrev pub constant_text : Bool → ℤ → List ℕ
constant_text true z = []
constant_text false z = next_sign z ++ (decimal (unsigned_abs z) ++ (32 ∷ []))

-- terms in the order of their places, and then the constant
abbrev pub summands_text : Automaton → List (ℕ × ℤ) → ℤ → List ℕ
summands_text a [] z = signed_decimal z ++ (32 ∷ [])
summands_text a (t ∷ ts) z = first_text a t ++ (each (term_text a) ts ++ constant_text (unsigned_abs z == 0) z)

-- a sum
abbrev pub sum_text : Automaton → Form → List ℕ
sum_text a f = summands_text a f.terms f.constant

-- a row on its line
abbrev pub row_text : Automaton → Row → List ℕ
row_text a r = sum_text a r.form ++ (codes ">= 0" ++ (10 ∷ []))

-- a comparison: its rows, all of which have to hold
abbrev pub comparison_text : Automaton → Comparison → List ℕ
comparison_text a k = listed (codes "rows ") (row_text a) k.rows

-- a condition: its comparisons, all of which have to hold
abbrev pub condition_text : List ℕ → Automaton → Condition → List ℕ
condition_text word a c = listed word (comparison_text a) c.comparisons

-- an update of a shared variable
abbrev pub update_text : Automaton → ℕ × ℤ → List ℕ
update_text a u = name_at a.shared u.0 ++ (codes " += " ++ (signed_decimal u.1 ++ (10 ∷ [])))

-- the name of a rule and its locations
abbrev pub way_text : Automaton → Rule → List ℕ
way_text a r = r.name ++ (codes " " ++ (name_at a.locations r.from ++ (codes " -> " ++ (name_at a.locations r.to ++ codes " rise"))))

-- a rule: its way, the numbers of its rise guards and of its fall guards, and its updates
abbrev pub rule_text : Automaton → Rule → List ℕ
rule_text a r = way_text a r ++
    (mask_text r.rise ++ (codes ", fall" ++ (mask_text r.fall ++ ((10 ∷ []) ++ listed (codes "updates ") (update_text a) r.updates))))

-- an event: its name, the numbers of the events that it comes after, and what holds
abbrev pub event_text : Automaton → Event → List ℕ
event_text a e = (e.name ++ codes " after") ++ (mask_text e.after ++ ((10 ∷ []) ++ condition_text (codes "holds ") a e.condition))

-- a pattern: its name, the numbers of the locations that stay empty, its start, and its events
abbrev pub pattern_text : Automaton → Pattern → List ℕ
pattern_text a p = (p.name ++ codes " empty") ++
    (mask_text p.empty ++ ((10 ∷ []) ++ (condition_text (codes "start ") a p.start ++ listed (codes "events ") (event_text a) p.events)))

-- a pair of rise guards; the first comes before the second
abbrev pub order_text : ℕ × ℕ → List ℕ
order_text o = decimal o.0 ++ (32 ∷ (decimal o.1 ++ (10 ∷ [])))

-- an automaton
abbrev pub automaton_text : Automaton → List ℕ
automaton_text a =
    (codes "automaton " ++ (a.name ++ (10 ∷ [])))
    ++ (listed (codes "parameters ") name_text a.parameters
    ++ (listed (codes "shared ") name_text a.shared
    ++ (listed (codes "locations ") name_text a.locations
    ++ (listed (codes "initial ") (location_text a) a.initial
    ++ (sum_text a a.processes ++ ((codes "processes" ++ (10 ∷ []))
    ++ (condition_text (codes "resilience ") a a.resilience
    ++ (listed (codes "rise ") (row_text a) a.rise
    ++ (listed (codes "fall ") (row_text a) a.fall
    ++ listed (codes "rules ") (rule_text a) a.rules)))))))))

-- the text of a file and of pairs of rise guards
abbrev pub show_text : File → List (ℕ × ℕ) → List ℕ
show_text file orders = automaton_text file.automaton ++
    (listed (codes "patterns ") (pattern_text file.automaton) file.patterns ++ listed (codes "orders ") order_text orders)
