-- A grammar as data, read with one token of lookahead, and the parser of such grammars.
use Rattle.std.specs.Prelude.{ℕ, ◌==◌, Bool, true, false, cond, List, [], ◌∷◌, Result, Ok, Err}
use Rattle.ta_syntax.specs.declared.tokens.Kind.{Kind}
use Rattle.ta_syntax.specs.declared.tokens.Kind.TheVariants as kind
use Rattle.ta_syntax.specs.declared.tokens.Mark.{Mark}
use Rattle.ta_syntax.specs.declared.tokens.Mark.TheVariants as mark
use Rattle.ta_syntax.specs.declared.placed.Token.{Token}

-- ---- classes of tokens

-- The classes are lists of numbers, so that which tokens may come can be computed: 0 is a name, 1 is a number, and the others are signs and keywords.
abbrev pub Class : Type 0
Class = List ℕ

-- the number of a sign or a keyword
abbrev pub mark_code : Mark → ℕ
mark_code mark.Semicolon = 2
mark_code mark.Comma = 3
mark_code mark.Colon = 4
mark_code mark.OpenBrace = 5
mark_code mark.CloseBrace = 6
mark_code mark.Open = 7
mark_code mark.Close = 8
mark_code mark.Star = 9
mark_code mark.Plus = 10
mark_code mark.Minus = 11
mark_code mark.PlusEquals = 12
mark_code mark.Arrow = 13
mark_code mark.Less = 14
mark_code mark.AtMost = 15
mark_code mark.Equal = 16
mark_code mark.AtLeast = 17
mark_code mark.More = 18
mark_code mark.Automaton = 19
mark_code mark.Parameters = 20
mark_code mark.Shared = 21
mark_code mark.Locations = 22
mark_code mark.Initial = 23
mark_code mark.Processes = 24
mark_code mark.Resilience = 25
mark_code mark.Rule = 26
mark_code mark.When = 27
mark_code mark.Do = 28
mark_code mark.Pattern = 29
mark_code mark.Start = 30
mark_code mark.Empty = 31
mark_code mark.Event = 32
mark_code mark.After = 33

-- the number of a token's class
abbrev pub code : Kind → ℕ
code (kind.Name n) = 0
code (kind.Number d) = 1
code (kind.Fixed m) = mark_code m

-- a name
abbrev pub names : Class
names = 0 ∷ []

-- a number
abbrev pub numbers : Class
numbers = 1 ∷ []

-- that sign or keyword
abbrev pub only : Mark → Class
only m = mark_code m ∷ []

-- whether the class has this number
abbrev pub has : Class → ℕ → Bool
has [] n = false
has (x ∷ xs) n = cond (n == x) true (has xs n)

-- whether the first token is of the class
abbrev pub stands : Class → List Token → Bool
stands c [] = false
stands c (t ∷ ts) = has c (code t.kind)

-- ---- productions

-- why parsing stops: at a wrong token, at the first item of a list or block too many, or at a parenthesis too deep
pub data Stop : Type 0 where
  wrong : Stop
  many : Stop
  deep : Stop

-- a part of a grammar
pub data Production : Type 0 where
  nothing : Production
  -- a token of the class
  one : Class → Production
  -- one after the other
  both : Production → Production → Production
  -- the first if a token of the class comes first, otherwise the second
  choose : Class → Production → Production → Production
  -- any number of times, as long as a token of the class comes first
  repeat : Class → Production → Production
  -- Past a limit: its texts are those of any of these productions, which begin with a token of the class, but none is read.
  barred : Stop → Class → (ℕ → Production) → Production

-- ---- the parser

-- the tokens that are left, or why and before which tokens parsing stopped
abbrev pub Parsed : Type 0
Parsed = Result (List Token) (Stop × List Token)

-- what is parsed next, on the tokens that are left
abbrev pub followed_by : (List Token → Parsed) → Parsed → Parsed
followed_by next (Ok rest) = next rest
followed_by next (Err e) = Err e

-- as often as a token of the class comes first; the second list is fuel, one token for each turn
abbrev pub turns : (List Token → Parsed) → Class → List Token → List Token → Parsed
turns read c tokens [] = Ok tokens
turns read c tokens (x ∷ fuel) = cond (stands c tokens) (followed_by (λ rest. turns read c rest fuel) (read tokens)) (Ok tokens)

-- a token of the class
abbrev pub parse_one : Class → List Token → Parsed
parse_one c [] = Err (wrong, [])
parse_one c (t ∷ ts) = cond (has c (code t.kind)) (Ok ts) (Err (wrong, t ∷ ts))

-- Parses a production, with one token of lookahead.
abbrev pub parse : Production → List Token → Parsed
parse nothing tokens = Ok tokens
parse (one c) tokens = parse_one c tokens
parse (both a b) tokens = followed_by (parse b) (parse a tokens)
parse (choose c a b) tokens = cond (stands c tokens) (parse a tokens) (parse b tokens)
parse (repeat c a) tokens = turns (parse a) c tokens tokens
parse (barred s c g) tokens = Err (cond (stands c tokens) s wrong, tokens)

-- ---- which tokens may begin a production

-- whether the empty list is a text of the production
abbrev pub nullable : Production → Bool
nullable nothing = true
nullable (one c) = false
nullable (both a b) = cond (nullable a) (nullable b) false
nullable (choose c a b) = cond (nullable a) true (nullable b)
nullable (repeat c a) = true
nullable (barred s c g) = false

-- a token of either class
abbrev pub joined : Class → Class → Class
joined [] ys = ys
joined (x ∷ xs) ys = x ∷ joined xs ys

-- the tokens with which a text of the production may begin
abbrev pub first : Production → Class
first nothing = []
first (one c) = c
first (both a b) = joined (first a) (cond (nullable a) (first b) [])
first (choose c a b) = joined (first a) (first b)
first (repeat c a) = first a
first (barred s c g) = c
