-- Which trees of a file's patterns are visited, and what precedes the proofs in a certificate.
use Rattle.std.specs.Prelude.{ℕ, ◌≡◌, Bool, true, false, List, map}
use Rattle.ta_automaton.specs.declared.file.File.{File}
use Rattle.ta_cert.specs.Certificates.{head_text, pair_of}
use Rattle.ta_cert.specs.declared.line.Line.TheVariants as line
use Rattle.ta_walk.specs.FoundOrders.{FoundOrders}
use Rattle.ta_walk.specs.declared.finding.OrdersFound.{OrdersFound}
use Rattle.ta_verdict.specs.Drafts.{ended_line}
use Rattle.ta_verdict.specs.declared.trees.Trees.{Trees}
use Rattle.ta_verdict.specs.declared.trees.Trees.TheVariants.{Words, Moments}

abbrev pub is_lazy : Trees → Bool
is_lazy (Words found) = false
is_lazy Moments = true

-- the orders are those that are found, and their pairs order the schemas
pub record AreOrdersOf (file : File) (found : OrdersFound) : Type 0 where
  pub orders : FoundOrders file.automaton found.list
  pub pairs : found.orders ≡ map pair_of found.list

abbrev pub AreTreesOfFile : File → Trees → Type 0
AreTreesOfFile file (Words found) = AreOrdersOf file found
AreTreesOfFile file Moments = Unit {0}

-- what precedes the proofs of a certificate: the first line, and the orders
abbrev pub head_of : Trees → List ℕ
head_of (Words found) = head_text found.list
head_of Moments = ended_line (line.Header 3)
