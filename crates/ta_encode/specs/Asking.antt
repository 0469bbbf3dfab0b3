-- Which node of a certificate stands for an inner node of a search tree.
use Rattle.ta_cert.specs.declared.line.Node.{Node}
use Rattle.ta_cert.specs.declared.line.Node.TheVariants as node
use Rattle.ta_encode.specs.declared.ask.Ask.{Ask}
use Rattle.ta_encode.specs.declared.ask.Ask.TheVariants as ask
use Rattle.ta_encode.specs.declared.ask.Inner.{Inner}
use Rattle.ta_encode.specs.declared.ask.Inner.TheVariants.{Asks, Splits}

-- the node that asks this question
abbrev pub ask_node : Ask → Node
ask_node ask.Extend = node.Extend
ask_node (ask.Guard guard) = node.Guard guard
ask_node (ask.Order before later) = node.Order before later
ask_node (ask.Stuck rule) = node.Stuck rule

-- the inner node
abbrev pub node_of : Inner → Node
node_of (Asks asked) = ask_node asked
node_of (Splits unknown floor) = node.Split unknown floor

-- a leaf and a split ask nothing
abbrev pub AsksNothing : Node → Type 0
AsksNothing (node.Leaf multipliers) = Unit {0}
AsksNothing (node.Split unknown floor) = Unit {0}
AsksNothing node.Extend = ⊥
AsksNothing (node.Guard guard) = ⊥
AsksNothing (node.Order before later) = ⊥
AsksNothing (node.Stuck rule) = ⊥
