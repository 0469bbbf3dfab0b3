-- The limits of lists and of nesting: as one scan over the tokens, and as conditions on trees. `l` is the row of those that vary.
use Rattle.std.specs.Prelude.{ℕ, suc, ◌-◌, ◌≤◌, ◌⊎◌, List, [], ◌∷◌, length}
use Rattle.std.specs.List.{AllByRecursion}
use Rattle.ta_base.specs.declared.limits.Limits.{Limits}
use Rattle.ta_syntax.specs.Grammar.{PlainComparison, PlainRule, PlainEvent, PlainPattern, PlainTree}
use Rattle.ta_syntax.specs.PlainSums.{sum_depth}
use Rattle.ta_syntax.specs.declared.tokens.Kind.{Kind}
use Rattle.ta_syntax.specs.declared.tokens.Kind.TheVariants as kind
use Rattle.ta_syntax.specs.declared.tokens.Mark.{Mark}
use Rattle.ta_syntax.specs.declared.tokens.Mark.TheVariants as mark

-- What was counted so far: open parentheses; the commas of the list that began last, with how many items it may have; rules, patterns, and
-- the events of the last pattern.
pub record Counts : Type 0 where
  pub open_now : ℕ
  pub commas : ℕ
  pub limit : ℕ
  pub rules : ℕ
  pub patterns : ℕ
  pub events : ℕ

-- before the first token nothing is counted
abbrev pub at_start : Counts
at_start = record { open_now = 0; commas = 0; limit = 1; rules = 0; patterns = 0; events = 0 }

-- a list begins
abbrev pub begin_list : ℕ → Counts → Counts
begin_list n c = record { open_now = c.open_now; commas = 0; limit = n; rules = c.rules; patterns = c.patterns; events = c.events }

-- the counts after a sign or a keyword
abbrev pub after_mark : Limits → Counts → Mark → Counts
after_mark l c mark.Open = record { open_now = suc c.open_now; commas = c.commas; limit = c.limit; rules = c.rules; patterns = c.patterns; events = c.events }
after_mark l c mark.Close = record { open_now = c.open_now - 1; commas = c.commas; limit = c.limit; rules = c.rules; patterns = c.patterns; events = c.events }
after_mark l c mark.Comma = record { open_now = c.open_now; commas = suc c.commas; limit = c.limit; rules = c.rules; patterns = c.patterns; events = c.events }
after_mark l c mark.Parameters = begin_list l.parameters c
after_mark l c mark.Shared = begin_list l.shared c
after_mark l c mark.Locations = begin_list l.locations c
after_mark l c mark.Resilience = begin_list 16 c
after_mark l c mark.When = begin_list 16 c
after_mark l c mark.Do = begin_list 16 c
after_mark l c mark.Start = begin_list 16 c
after_mark l c mark.Empty = begin_list l.locations c
after_mark l c mark.After = begin_list 8 c
after_mark l c mark.Colon = begin_list 16 c
after_mark l c mark.Rule = record { open_now = c.open_now; commas = c.commas; limit = c.limit; rules = suc c.rules; patterns = c.patterns; events = c.events }
after_mark l c mark.Pattern = record { open_now = c.open_now; commas = c.commas; limit = c.limit; rules = c.rules; patterns = suc c.patterns; events = 0 }
after_mark l c mark.Event = record { open_now = c.open_now; commas = c.commas; limit = c.limit; rules = c.rules; patterns = c.patterns; events = suc c.events }
after_mark l c _ = c

-- the counts after a token
abbrev pub counted_after : Limits → Counts → Kind → Counts
counted_after l c (kind.Name n) = c
counted_after l c (kind.Number d) = c
counted_after l c (kind.Fixed m) = after_mark l c m

-- the counts after tokens
abbrev pub run : Limits → Counts → List Kind → Counts
run l c [] = c
run l c (k ∷ ks) = run l (counted_after l c k) ks

-- an opening parenthesis inside 32 open ones
abbrev pub IsDeep : Counts → Kind → Type 0
IsDeep c (kind.Fixed mark.Open) = 32 ≤ c.open_now
IsDeep c _ = ⊥

-- the keyword of a rule or of a pattern past their limits, or of the 9th event
abbrev pub IsBlockPast : Limits → Counts → Kind → Type 0
IsBlockPast l c (kind.Fixed mark.Rule) = l.rules ≤ c.rules
IsBlockPast l c (kind.Fixed mark.Pattern) = l.patterns ≤ c.patterns
IsBlockPast l c (kind.Fixed mark.Event) = 8 ≤ c.events
IsBlockPast l c _ = ⊥

-- the token with which a list exceeds its limit: as many commas as items are allowed come before it, or it begins one block too many
abbrev pub IsMany : Limits → Counts → Kind → Type 0
IsMany l c k = (c.limit ≤ c.commas) ⊎ IsBlockPast l c k

-- no token exceeds a limit
abbrev pub StaysWithin : Limits → Counts → List Kind → Type 0
StaysWithin l c [] = Unit {0}
StaysWithin l c (k ∷ ks) = (IsDeep c k → ⊥) × (IsMany l c k → ⊥) × StaysWithin l (counted_after l c k) ks

-- ---- the same as conditions on trees

-- at most 32 parentheses of a comparison are open at once
pub record IsShallow (c : PlainComparison) : Type 0 where
  pub left : sum_depth c.left ≤ 32
  pub right : sum_depth c.right ≤ 32

-- a rule has at most 16 guards and 16 updates
pub record IsRuleWithin (r : PlainRule) : Type 0 where
  pub guards : length r.guards ≤ 16
  pub shallow : AllByRecursion IsShallow r.guards
  pub updates : length r.updates ≤ 16

-- an event comes after at most 8 others, and its condition has at most 16 comparisons
pub record IsEventWithin (e : PlainEvent) : Type 0 where
  pub after : length e.after ≤ 8
  pub condition : length e.condition ≤ 16
  pub shallow : AllByRecursion IsShallow e.condition

-- a pattern has at most 16 comparisons at its start, no more locations that stay empty than a file may have, and at most 8 events
pub record IsPatternWithin (l : Limits) (p : PlainPattern) : Type 0 where
  pub start : length p.start ≤ 16
  pub shallow : AllByRecursion IsShallow p.start
  pub empty : length p.empty ≤ l.locations
  pub events : length p.events ≤ 8
  pub each_event : AllByRecursion IsEventWithin p.events

-- lists are no longer than they may be, and at most 32 parentheses are open at once
pub record IsTreeWithin (l : Limits) (t : PlainTree) : Type 0 where
  pub parameters : length t.parameters ≤ l.parameters
  pub shared : length t.shared ≤ l.shared
  pub locations : length t.locations ≤ l.locations
  pub processes : sum_depth t.processes ≤ 32
  pub resilience : length t.resilience ≤ 16
  pub shallow : AllByRecursion IsShallow t.resilience
  pub rules : length t.rules ≤ l.rules
  pub each_rule : AllByRecursion IsRuleWithin t.rules
  pub patterns : length t.patterns ≤ l.patterns
  pub each_pattern : AllByRecursion (IsPatternWithin l) t.patterns
