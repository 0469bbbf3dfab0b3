-- Which forms of nodes the proofs of a certificate have.
use Rattle.ta_cert.specs.declared.line.Node.{Node}
use Rattle.ta_cert.specs.declared.line.Node.TheVariants as node
use Rattle.ta_rest.specs.declared.claim.Claim.{Claim}
use Rattle.ta_rest.specs.declared.claim.Claim.TheVariants.{Safe, RestSafe}
use Rattle.ta_check.specs.Subjects.{Kind, Words, Moments}

-- leaves and splits; for schemas, extensions; for moments, questions, of which those about rules are for rest only
abbrev pub form_in : Node → Kind → Claim → Type 0
form_in (node.Leaf multipliers) kind claim = Unit {0}
form_in (node.Split unknown floor) kind claim = Unit {0}
form_in node.Extend Words claim = Unit {0}
form_in node.Extend Moments claim = ⊥
form_in (node.Guard guard) Words claim = ⊥
form_in (node.Guard guard) Moments claim = Unit {0}
form_in (node.Order before later) Words claim = ⊥
form_in (node.Order before later) Moments claim = Unit {0}
form_in (node.Stuck rule) Words claim = ⊥
form_in (node.Stuck rule) Moments Safe = ⊥
form_in (node.Stuck rule) Moments RestSafe = Unit {0}

-- a node has a form of the proofs of a kind, for a claim
abbrev pub HasForm : Kind → Claim → Node → Type 0
HasForm kind claim n = form_in n kind claim

-- a node that is a question
abbrev pub IsQuestion : Node → Type 0
IsQuestion (node.Guard guard) = Unit {0}
IsQuestion (node.Order before later) = Unit {0}
IsQuestion (node.Stuck rule) = Unit {0}
IsQuestion node.Extend = ⊥
IsQuestion (node.Leaf multipliers) = ⊥
IsQuestion (node.Split unknown floor) = ⊥

-- a node other than a leaf
abbrev pub IsNoLeaf : Node → Type 0
IsNoLeaf (node.Leaf multipliers) = ⊥
IsNoLeaf n = Unit {0}
