-- verdicts at rest have one certificate
use Rattle.ta_verdict.proofs.rest.Common.{◌≡◌, ◌∙◌, ℕ, Bool, true, false, List, sym, ap, File, Pattern, Node, RestBudget, moments_of, of_rest, rest_search}
use Rattle.ta_verdict.proofs.rest.Common.{safe_picked, RestCertificatesAreDetermined, rest_text_by, rest_tree, rest_tree_by}
use Rattle.ta_verdict.proofs.CertificatesOnce.{tree_once, trees_once}

one_tree : (lazy : Bool) (ending : File) (budget : RestBudget) (p : Pattern) (nodes others : List Node) (count : ℕ)
    → rest_tree_by lazy ending budget p nodes count → rest_tree_by lazy ending budget p others count → nodes ≡ others
one_tree false ending budget p nodes others count = tree_once (rest_search ending.automaton p) budget.nodes nodes others count
one_tree true ending budget p nodes others count = tree_once (moments_of ending.automaton p (of_rest budget.silent)) budget.nodes nodes others count

pub rest_certificates_once : RestCertificatesAreDetermined
rest_certificates_once ending pick budget vs text other c d =
    let trees = trees_once (rest_tree ending budget) (one_tree budget.lazy ending budget) (safe_picked ending pick vs) c.trees d.trees c.are d.are in
    c.written ∙ ap (rest_text_by budget.lazy) trees ∙ sym d.written
