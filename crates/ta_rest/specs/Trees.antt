-- The search that a claim's tree stands for.
use Rattle.ta_encode.specs.Marks.{IsEncoding}
use Rattle.ta_words.specs.declared.element.Element.{Element}
use Rattle.ta_encode.specs.Search.{Search}
use Rattle.ta_encode.specs.declared.growing.Encoding.{Encoding}
use Rattle.ta_rest.specs.Claims.{search_for}
use Rattle.ta_rest.specs.declared.claim_tree.ClaimTree.{ClaimTree}

-- the search that shows the claim, under the tree's pairs
abbrev pub search_of_claim : ClaimTree → Search Element
search_of_claim tree = search_for tree.claim tree.task.automaton.now tree.task.pattern.now tree.orders.now

-- a schema's system of the tree's pattern, with its marks
abbrev pub IsKeptFor : ClaimTree → Encoding → Type 0
IsKeptFor tree kept = IsEncoding tree.task.automaton.now tree.task.pattern.now kept
