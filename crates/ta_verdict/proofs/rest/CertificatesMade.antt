-- the text of the trees of safe endings is a certificate that a judge accepts
use Rattle.ta_verdict.proofs.Common.{arith, lit<, IsNarrow, IsWithin, Limits, QuietRestCertificate, Moments, Words, most_unknowns}
use Rattle.ta_verdict.proofs.rest.Common.{◌≡◌, ◌∙◌, ℕ, ◌≤◌, Bool, true, false, List, [], ◌++◌, Some, slice_get, refl, subst, sym, File, Pattern, Node, Proof}
use Rattle.ta_verdict.proofs.rest.Common.{Verdict, moments_of, of_rest, rest_search, AreTreesOf, Pick, safe_among, safe_picked, ended_line, RestBudget}
use Rattle.ta_verdict.proofs.rest.Common.{RestCertificateOf, rest_head, rest_text_by, rest_tree, rest_tree_by, RestSafe, no_pairs_good, pattern_within}
use Rattle.ta_verdict.proofs.rest.Common.{proof_made, proofs_text, IsProof}
use Rattle.ta_check.specs.Subjects.{claiming_with}
use Rattle.ta_moment_tree.specs.Makers.{moment_maker}
use Rattle.ta_walk.proofs.NodesMade.{proof_made as moments_proof}
use Rattle.ta_verdict.proofs.CertificatesMade.{accepted, all_short, cert_written, made, moments_room, no_words, question_written, safe_distinct, safe_named}
use Rattle.ta_verdict.proofs.CertificatesMade.{version_short}
use Rattle.ta_verdict.proofs.CertificatesMade.{words_room}
use Rattle.ta_cert.specs.declared.line.Line.TheVariants as line

-- the nodes of such a tree
words_judged : (ending : File) (budget : RestBudget) → IsNarrow ending.automaton → budget.nodes ≤ 1000000000 → (number : ℕ) (p : Pattern)
    → slice_get ending.patterns number ≡ Some p
    → (nodes : List Node) (count : ℕ) → rest_tree_by false ending budget p nodes count → IsProof 4656 (rest_search ending.automaton p) nodes
words_judged ending budget narrow within number p at nodes count tree =
    proof_made RestSafe ending.automaton p [] (pattern_within ending number p at) narrow budget.nodes within nodes count tree

moments_judged : (ending : File) (budget : RestBudget) → budget.nodes ≤ 1000000000 → (number : ℕ) (p : Pattern) → slice_get ending.patterns number ≡ Some p
    → (nodes : List Node) (count : ℕ) → rest_tree_by true ending budget p nodes count
    → IsProof (most_unknowns ending.automaton) (moments_of ending.automaton p (of_rest budget.silent)) nodes
moments_judged ending budget within number p at nodes count tree =
    let asking = of_rest budget.silent in
    moments_proof ending.automaton p asking (moment_maker ending.automaton p asking) (pattern_within ending number p at) budget.nodes within nodes count tree

accepted_by : (lazy : Bool) (ending : File) (pick : Pick) (budget : RestBudget) → (lazy ≡ false → budget.silent ≡ []) → (lazy ≡ false
    → IsNarrow ending.automaton)
    → budget.nodes ≤ 1000000000 → (vs : List Verdict) (trees : List Proof) → AreTreesOf (rest_tree_by lazy ending budget)
    (safe_picked ending pick vs) trees → (text : List ℕ)
    → text ≡ rest_text_by lazy trees → (l : Limits) → IsWithin l ending.automaton
    → QuietRestCertificate ending budget.silent l.line_bytes text (safe_among ending pick vs)
accepted_by false ending pick budget words narrow within vs trees are text written l inside =
    let ones = safe_picked ending pick vs in
    let subject = claiming_with RestSafe ending [] l.line_bytes in
    let m = made Words subject [] 4656 (words_room l) (rest_tree_by false ending budget) (words_judged ending budget (narrow refl) within) ones trees
    (safe_named ending pick vs) are in
    subst (λ (silent : List ℕ). QuietRestCertificate ending silent l.line_bytes text (safe_among ending pick vs)) (sym (words refl))
    (accepted Words subject [] (record { may = refl; shown = tt; good = no_pairs_good ending.automaton }) (λ same. narrow refl) ones
    (safe_distinct ending pick vs) trees m (all_short l.line_bytes [] trees (omega (arith, l.long_lines)) tt m.short) text written)
accepted_by true ending pick budget words narrow within vs trees are text written l inside =
    let ones = safe_picked ending pick vs in
    let subject = claiming_with RestSafe ending budget.silent l.line_bytes in
    let m = made Moments subject [] (most_unknowns ending.automaton) (moments_room l ending.automaton inside) (rest_tree_by true ending budget)
    (moments_judged ending budget within) ones trees (safe_named ending pick vs) are in
    accepted Moments subject [] (record { may = refl; shown = tt; good = no_pairs_good ending.automaton }) no_words ones (safe_distinct ending pick vs) trees m
    (omega (arith, version_short 3 (lit< tt), l.long_lines), m.short) text written

-- a certificate of words is one for rest alone, without silent places
pub rest_accepted : (ending : File) (pick : Pick) (budget : RestBudget) → (budget.lazy ≡ false → budget.silent ≡ [])
    → (budget.lazy ≡ false → IsNarrow ending.automaton) → budget.nodes ≤ 1000000000
    → (vs : List Verdict) (text : List ℕ) → RestCertificateOf ending pick budget vs text
    → (l : Limits) → IsWithin l ending.automaton → QuietRestCertificate ending budget.silent l.line_bytes text (safe_among ending pick vs)
rest_accepted ending pick budget words narrow within vs text c = accepted_by budget.lazy ending pick budget words narrow within vs c.trees c.are text c.written

text_made : (lazy : Bool) (proofs : List Proof) → (rest_head lazy ++ proofs_text proofs) ++ ended_line line.End ≡ rest_text_by lazy proofs
text_made false proofs = cert_written [] proofs
text_made true proofs = question_written proofs

-- the first line, the proofs and the end are such a certificate
pub rest_made : (ending : File) (pick : Pick) (budget : RestBudget) (vs : List Verdict) (proofs : List Proof)
    → AreTreesOf (rest_tree ending budget) (safe_picked ending pick vs) proofs → (text : List ℕ)
    → text ≡ (rest_head budget.lazy ++ proofs_text proofs) ++ ended_line line.End → RestCertificateOf ending pick budget vs text
rest_made ending pick budget vs proofs trees text is = record { trees = proofs; are = trees; written = is ∙ text_made budget.lazy proofs }
