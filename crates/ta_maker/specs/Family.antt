-- A family of test automata. The automaton of k has k shared variables; one rule increments each of them and one guard waits for it. Its
-- pattern, more processes than there are, never occurs.
use Rattle.std.specs.Prelude.{ℕ, false, true, List, [], ◌∷◌, ◌++◌, codes, decimal, map}
use Rattle.ta_syntax.specs.Grammar.{PlainComparison, PlainPattern, PlainRule, PlainTree, Term, Terms, alone, done, named, number, term}
use Rattle.ta_syntax.specs.declared.sums.Sign.TheVariants as sign
use Rattle.ta_syntax.specs.declared.tokens.Relation.TheVariants as relation
use Rattle.std.specs.List.{range_with_len}

-- a name and a number after it
abbrev pub numbered : List ℕ → ℕ → List ℕ
numbered front index = front ++ decimal index

-- sums of one and of two terms, and those of names and numbers
abbrev pub lone : Term → Terms
lone t = term sign.Plus t done

abbrev pub pair : Term → Term → Terms
pair t u = term sign.Plus t (lone u)

abbrev pub name : List ℕ → Term
name text = alone (named text)

abbrev pub at_least : Terms → Terms → PlainComparison
at_least left right = record { left = left; relation = relation.AtLeast; right = right }

-- `rule sI: A -> B do xI += 1;`
abbrev pub sender : ℕ → PlainRule
sender index = record {
  name = numbered (codes "s") index;
  from = codes "A";
  to = codes "B";
  guards = [];
  updates = record { name = numbered (codes "x") index; amount = codes "1" } ∷ [];
}

-- `rule gI: A -> B when xI >= 1;`
abbrev pub waiter : ℕ → PlainRule
waiter index = record {
  name = numbered (codes "g") index;
  from = codes "A";
  to = codes "B";
  guards = at_least (lone (name (numbered (codes "x") index))) (lone (number (codes "1"))) ∷ [];
  updates = [];
}

-- two rules for each of some numbers
abbrev pub rules_of : List ℕ → List PlainRule
rules_of [] = []
rules_of (index ∷ rest) = sender index ∷ waiter index ∷ rules_of rest

-- `pattern lost { event lost: A + B >= n + 1; }`
abbrev pub lost : PlainPattern
lost = record {
  name = codes "lost";
  start = [];
  empty = [];
  events = record {
    name = codes "lost";
    after = [];
    condition = at_least (pair (name (codes "A")) (name (codes "B")))
        (pair (name (codes "n")) (number (codes "1"))) ∷ [];
  } ∷ [];
}

-- the automaton with this number
abbrev pub family : ℕ → PlainTree
family k = record {
  name = numbered (codes "family") k;
  parameters = codes "n" ∷ [];
  shared = map (numbered (codes "x")) (range_with_len 1 k);
  locations = record { name = codes "A"; initial = true } ∷ record { name = codes "B"; initial = false } ∷ [];
  processes = lone (name (codes "n"));
  resilience = at_least (lone (name (codes "n"))) (lone (number (codes "1"))) ∷ [];
  rules = rules_of (range_with_len 1 k);
  patterns = lost ∷ [];
}
