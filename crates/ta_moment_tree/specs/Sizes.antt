-- How large nodes become.
use Rattle.std.specs.Prelude.{ℕ, ◌+◌, ◌<◌, ◌≡◌, true, List, [], ◌∷◌, length, Option}
use Rattle.ta_automaton.specs.declared.automaton.Automaton.{Automaton}
use Rattle.ta_automaton.specs.declared.pattern.Pattern.{Pattern}
use Rattle.ta_automaton.specs.Patterns.{PatternOver}
use Rattle.ta_moments.specs.declared.fact.Fact.{Fact}
use Rattle.ta_moments.specs.Facts.{is_open, question_of}
use Rattle.ta_encode.specs.Search.{Comes, Pending, bounded_rows}
use Rattle.ta_moments.specs.Moments.{known}
use Rattle.ta_moments.specs.Searched.{Maker, moment_search}
use Rattle.ta_moments.specs.Refutes.{Asking, Exists, Node, known_at, node_rows}

-- each fact answers a question that could be asked before it: it was open and existed
abbrev pub AreAnswers : Automaton → Pattern → Asking → Option ℕ → List Fact → Type 0
AreAnswers a p asking candidate [] = Unit {0}
AreAnswers a p asking candidate (fact ∷ past) =
    (is_open past (question_of fact) ≡ true)
    × Exists a p asking (known a p asking.silent candidate past) (question_of fact)
    × AreAnswers a p asking candidate past

-- a node's unknowns and rows, with those of its bounds, are fewer than 40,000,000 plus the number of its bounds
abbrev pub NodesStaySmall : Type 0
NodesStaySmall =
    (a : Automaton) (p : Pattern) → PatternOver a p
    → (asking : Asking) (node : Node) → AreAnswers a p asking node.candidate node.past
    → (known_at a p asking node).unknowns + length (node_rows a p asking node) < 40000000 + length node.bounds

-- the same for the nodes of the search
abbrev pub SearchStaysSmall : Type 0
SearchStaysSmall =
    (a : Automaton) (p : Pattern) → PatternOver a p
    → (asking : Asking) (maker : Maker) (w : Pending Fact) → Comes (moment_search a p asking maker) w.start w.past
    → (moment_search a p asking maker).unknowns w.start w.past + length (bounded_rows (moment_search a p asking maker) w) < 40000000 + length w.bounds
