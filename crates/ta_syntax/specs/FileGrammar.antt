-- The grammar of automaton files and its limits as data, one definition for each production of Grammar.
use Rattle.std.specs.Prelude.{ℕ, zero, suc, [], ◌∷◌}
use Rattle.ta_base.specs.declared.limits.Limits.{Limits}
use Rattle.ta_syntax.specs.declared.tokens.Mark.{Mark}
use Rattle.ta_syntax.specs.declared.tokens.Mark.TheVariants as mark
use Rattle.ta_syntax.specs.Productions.{Class, Production, nothing, one, both, choose, repeat, barred, many, deep, names, numbers, only, mark_code, first}

-- a sign or a keyword
abbrev pub a_mark : Mark → Production
a_mark m = one (only m)

-- Name
abbrev pub a_name : Production
a_name = one names

-- Number
abbrev pub a_number : Production
a_number = one numbers

-- "+" | "-"
abbrev pub signs : Class
signs = mark_code mark.Plus ∷ mark_code mark.Minus ∷ []

-- Relation = "<" | "<=" | "==" | ">=" | ">"
abbrev pub relations : Class
relations = mark_code mark.Less ∷ mark_code mark.AtMost ∷ mark_code mark.Equal ∷ mark_code mark.AtLeast ∷ mark_code mark.More ∷ []

-- [ mark rest ]
abbrev pub maybe : Mark → Production → Production
maybe m p = choose (only m) (both (a_mark m) p) nothing

-- ---- sums, given what a factor is

-- Number [ "*" Factor ] | Factor
abbrev pub term_with : Production → Production
term_with factor = choose numbers (both a_number (maybe mark.Star factor)) factor

-- [ "-" ] Term { ( "+" | "-" ) Term }
abbrev pub sum_with : Production → Production
sum_with factor = both (maybe mark.Minus nothing) (both (term_with factor) (repeat signs (both (one signs) (term_with factor))))

-- Name | "(" Sum ")"
abbrev pub factor_with : Production → Production
factor_with inner = choose (only mark.Open) inner a_name

-- "(" Sum ")"
abbrev pub nested_with : Production → Production
nested_with factor = both (a_mark mark.Open) (both (sum_with factor) (a_mark mark.Close))

-- a factor inside which at most n parentheses are open at once
abbrev pub free_factor : ℕ → Production
free_factor zero = a_name
free_factor (suc n) = factor_with (nested_with (free_factor n))

-- a factor in which n parentheses may be opened: one more is past the limit
abbrev pub factor : ℕ → Production
factor zero = factor_with (barred deep (only mark.Open) (λ n. nested_with (free_factor n)))
factor (suc n) = factor_with (nested_with (factor n))

-- a sum inside which at most 32 parentheses are open at once
abbrev pub a_sum : Production
a_sum = sum_with (factor 32)

-- ---- lists and blocks

-- { "," Item }
abbrev pub further : Production → Production
further item = repeat (only mark.Comma) (both (a_mark mark.Comma) item)

-- Item { "," Item }, at most n items: one more is past the limit
abbrev pub items : ℕ → Production → Production
items zero item = barred many (first item) (λ n. both item (further item))
items (suc n) item = both item (maybe mark.Comma (items n item))

-- { mark body }, at most n: one more is past the limit
abbrev pub blocks : ℕ → Mark → Production → Production
blocks zero m body = choose (only m) (barred many (only m) (λ n. both (both (a_mark m) body) (repeat (only m) (both (a_mark m) body)))) nothing
blocks (suc n) m body = choose (only m) (both (both (a_mark m) body) (blocks n m body)) nothing

-- Items ";"
abbrev pub list_end : ℕ → Production → Production
list_end n item = both (items n item) (a_mark mark.Semicolon)

-- [ mark Items ]
abbrev pub led : Mark → ℕ → Production → Production
led m n item = maybe m (items n item)

-- [ mark Items ";" ]
abbrev pub ended : Mark → ℕ → Production → Production
ended m n item = maybe m (list_end n item)

-- mark [ Items ] ";"
abbrev pub declared_list : Mark → ℕ → Production → Production
declared_list m n item = both (a_mark m) (choose (only mark.Semicolon) (a_mark mark.Semicolon) (list_end n item))

-- ---- the parts of a file

-- Name [ "initial" ]
abbrev pub location : Production
location = both a_name (maybe mark.Initial nothing)

-- Name "+=" Number
abbrev pub update : Production
update = both a_name (both (a_mark mark.PlusEquals) a_number)

-- Sum Relation Sum
abbrev pub comparison : Production
comparison = both a_sum (both (one relations) a_sum)

-- Name mark rest
abbrev pub name_then : Mark → Production → Production
name_then m rest = both (both a_name (a_mark m)) rest

-- a rule after its keyword
abbrev pub rule : Production
rule = name_then mark.Colon (name_then mark.Arrow (both a_name
    (both (led mark.When 16 comparison) (both (led mark.Do 16 update) (a_mark mark.Semicolon)))))

-- an event after its keyword
abbrev pub event : Production
event = both a_name (both (led mark.After 8 a_name) (both (a_mark mark.Colon) (list_end 16 comparison)))

-- a pattern after its keyword
abbrev pub pattern : Limits → Production
pattern l = name_then mark.OpenBrace (both (ended mark.Start 16 comparison) (both (ended mark.Empty l.locations a_name)
    (both (blocks 8 mark.Event event) (a_mark mark.CloseBrace))))

-- "locations" Location { "," Location } ";"
abbrev pub locations : Limits → Production
locations l = both (a_mark mark.Locations) (list_end l.locations location)

-- "processes" Sum ";"
abbrev pub processes : Production
processes = both (a_mark mark.Processes) (both a_sum (a_mark mark.Semicolon))

-- a file up to its number of processes
abbrev pub head : Limits → Production
head l = both (a_mark mark.Automaton) (name_then mark.Semicolon (both (declared_list mark.Parameters l.parameters a_name)
    (both (declared_list mark.Shared l.shared a_name) (both (locations l) processes))))

-- a whole file
abbrev pub file : Limits → Production
file l = both (head l)
    (both (declared_list mark.Resilience 16 comparison) (both (blocks l.rules mark.Rule rule) (blocks l.patterns mark.Pattern (pattern l))))
