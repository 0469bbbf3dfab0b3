-- the text of the trees of safe patterns is a certificate that a judge accepts
use Rattle.ta_verdict.proofs.Common.{◌≡◌, ◌∙◌, ℕ, ◌+◌, ◌<◌, ◌≤◌, ◌^◌, suc, Bool, true, false, List, [], ◌∷◌, ◌++◌, length, map, Option, Some, None, slice_get}
use Rattle.ta_verdict.proofs.Common.{refl, sym, ap, subst, append_assoc, arith, codes, decimal, lit≤, lit<, AllByRecursion, slice_get_within, File, Pattern}
use Rattle.ta_verdict.proofs.Common.{LoopsPure, AreWritable, cert_lines, cert_text, head_text, order_lines, pair_of, proof_lines, proof_of, proofs_of}
use Rattle.ta_verdict.proofs.Common.{proofs_text, question_text, version_of, line_text, Node, Order, Proof, Verdict, refuted_hold, orders_once, orders_sound}
use Rattle.ta_verdict.proofs.Common.{IsShort, TreeIs, FoundOrders, pattern_search, AreTrees, AreTreesOf, CertificateOn, SafeOne, safe_among, safe_ones}
use Rattle.ta_verdict.proofs.Common.{safe_picked, Pick, first_picked, picked, picked_there, text_by, tree_by, tree_size, with_safe, Budget, AreTreesOfFile}
use Rattle.ta_verdict.proofs.Common.{head_of, is_lazy, ended_line, Safe, above_apart, each_append, each_map, weaker, IsProof, IsNarrow, IsWithin, Limits}
use Rattle.ta_verdict.proofs.Common.{Certificate, Moments, Words, Good, most_unknowns}
use Rattle.std.proofs.Common.{◌*◌, mul-le-mul}
use Rattle.ta_automaton.specs.declared.automaton.Automaton.{Automaton}
use Rattle.ta_base.proofs.DecimalDigits.{row_short}
use Rattle.ta_base.specs.Lists.{Distinct}
use Rattle.ta_cert.proofs.Writing.{cert_parts, lines_text-proofs}
use Rattle.ta_cert.specs.Laws.{AreShort}
use Rattle.ta_cert.specs.Lines.{cert_lines_text}
use Rattle.ta_cert.specs.Tree.{Tree, all_preorder}
use Rattle.ta_cert.specs.declared.line.Line.{Line}
use Rattle.ta_check.specs.Certificate.{CertificateFor, MayHave, ProvesClaim, ShowsPair, lines_of_kind, proof_number}
use Rattle.ta_check.specs.Subjects.{Kind, Subject, claiming, search_of}
use Rattle.ta_check.proofs.Searches.{search_named}
use Rattle.ta_encode.specs.Range.{IsJudged}
use Rattle.ta_encode.proofs.Preorders.{in_order}
use Rattle.ta_rest.proofs.Resting.{no_pairs_good}
use Rattle.ta_walk.proofs.NodesMade.{refuted_hold as moments_refuted}
use Rattle.ta_verdict.specs.declared.trees.Trees.{Trees}
use Rattle.ta_cert.specs.declared.line.Line.TheVariants as line
use Rattle.ta_verdict.specs.declared.trees.Trees.TheVariants as which

-- the numbers of those that are safe
abbrev numbers : List SafeOne → List ℕ
numbers ones = map (λ one. one.number) ones

one_named : (file : File) (number : ℕ) (p : Pattern) (size : Option ℕ) (rest : List SafeOne) → slice_get file.patterns number ≡ Some p
    → AllByRecursion (λ one. slice_get file.patterns one.number ≡ Some one.pattern) rest
    → AllByRecursion (λ one. slice_get file.patterns one.number ≡ Some one.pattern) (with_safe number p size rest)
one_named file number p None rest at named = named
one_named file number p (Some nodes) rest at named = (at, named)

ones_named : (file : File) (number : ℕ) (ps : List Pattern) (vs : List Verdict)
    → ((k : ℕ) (p : Pattern) → slice_get ps k ≡ Some p → slice_get file.patterns (number + k) ≡ Some p)
    → AllByRecursion (λ one. slice_get file.patterns one.number ≡ Some one.pattern) (safe_ones number ps vs)
ones_named file number [] vs at = tt
ones_named file number (p ∷ ps) [] at = tt
ones_named file number (p ∷ ps) (v ∷ vs) at =
    let here : number + 0 ≡ number = omega arith in
    one_named file number p (tree_size v) (safe_ones (number + 1) ps vs) (subst (λ (k : ℕ). slice_get file.patterns k ≡ Some p) here (at 0 p refl))
    (ones_named file (number + 1) ps vs
    (λ k q given. let there : number + suc k ≡ (number + 1) + k = omega arith in subst (λ (n : ℕ). slice_get file.patterns n ≡ Some q) there
    (at (suc k) q given)))

one_low : (number : ℕ) (p : Pattern) (size : Option ℕ) (rest : List SafeOne) → AllByRecursion (λ k. number + 1 ≤ k) (numbers rest)
    → AllByRecursion (λ k. number ≤ k) (numbers (with_safe number p size rest))
one_low number p None rest low = weaker number (number + 1) (numbers rest) (omega arith) low
one_low number p (Some nodes) rest low = (omega arith, weaker number (number + 1) (numbers rest) (omega arith) low)

ones_low : (number : ℕ) (ps : List Pattern) (vs : List Verdict) → AllByRecursion (λ k. number ≤ k) (numbers (safe_ones number ps vs))
ones_low number [] vs = tt
ones_low number (p ∷ ps) [] = tt
ones_low number (p ∷ ps) (v ∷ vs) = one_low number p (tree_size v) (safe_ones (number + 1) ps vs) (ones_low (number + 1) ps vs)

one_distinct : (number : ℕ) (p : Pattern) (size : Option ℕ) (rest : List SafeOne) → AllByRecursion (λ k. number + 1 ≤ k) (numbers rest)
    → Distinct (numbers rest) → Distinct (numbers (with_safe number p size rest))
one_distinct number p None rest low distinct = distinct
one_distinct number p (Some nodes) rest low distinct = (above_apart number (numbers rest) low, distinct)

pub ones_distinct : (number : ℕ) (ps : List Pattern) (vs : List Verdict) → Distinct (numbers (safe_ones number ps vs))
ones_distinct number [] vs = tt
ones_distinct number (p ∷ ps) [] = tt
ones_distinct number (p ∷ ps) (v ∷ vs) = one_distinct number p (tree_size v) (safe_ones (number + 1) ps vs) (ones_low (number + 1) ps vs)
    (ones_distinct (number + 1) ps vs)

-- the line of a pattern is short, and so are those of nodes
pattern_short : (k : ℕ) → k < 2 ^ 32 → length (codes "pattern " ++ decimal k) ≤ 64
pattern_short k below = let digits = row_short k below in omega arith

lines_short : (limit : ℕ) (ns : List Node) (ls : List Line) → AllByRecursion (IsShort limit) ns → AreShort limit ls → AreShort limit (map line.Tree ns ++ ls)
lines_short limit ns ls short rest = each_append _ (map line.Tree ns) ls (each_map line.Tree (IsShort limit) _ ns (λ n is. is) short) rest

-- so is the first line
pub version_short : (k : ℕ) → k < 2 ^ 32 → length (codes "threshold-certificate " ++ decimal k) ≤ 64
version_short k below = let digits = row_short k below in omega arith

head_short : (os : List Order) → length (line_text (line.Header (version_of os))) ≤ 64
head_short [] = version_short 1 (lit< tt)
head_short (o ∷ os) = version_short 2 (lit< tt)

-- proofs of a kind of what is claimed of such patterns, whose nodes are these
pub record Made (kind : Kind) (subject : Subject) (pairs : List (ℕ × ℕ)) (ones : List SafeOne) (trees : List Proof) : Type 0 where
  pub proofs : List (ℕ × List Tree)
  pub are : proofs_of proofs ≡ trees
  pub prove : AllByRecursion (ProvesClaim kind subject pairs) proofs
  pub named : map proof_number proofs ≡ numbers ones
  pub writable : AreWritable trees
  pub short : AreShort subject.line_bytes (proof_lines trees)

pub made :
    (kind : Kind) (subject : Subject) (pairs : List (ℕ × ℕ)) (unknowns : ℕ) → 51 * unknowns + 64 ≤ subject.line_bytes
    → (Of : Pattern → List Node → ℕ → Type 0)
    → ((number : ℕ) (p : Pattern) → slice_get subject.file.patterns number ≡ Some p
    → (nodes : List Node) (count : ℕ) → Of p nodes count → IsProof unknowns (search_of kind subject pairs p) nodes)
    → (ones : List SafeOne) (trees : List Proof)
    → AllByRecursion (λ one. slice_get subject.file.patterns one.number ≡ Some one.pattern) ones → AreTreesOf Of ones trees
    → Made kind subject pairs ones trees
made kind subject pairs unknowns room Of judgeable [] [] named are = record {
  proofs = [];
  are = refl;
  prove = tt;
  named = refl;
  writable = tt;
  short = (omega (arith, room), tt);
}
made kind subject pairs unknowns room Of judgeable [] (t ∷ ts) named are = absurd are
made kind subject pairs unknowns room Of judgeable (one ∷ ones) [] named are = absurd are
made kind subject pairs unknowns room Of judgeable (one ∷ ones) (t ∷ ts) named are =
    let is = are.0 in
    let file = subject.file in
    let search = search_of kind subject pairs one.pattern in
    let proof = judgeable one.number one.pattern named.0 t.nodes one.nodes is.is in
    let trees = (in_order IsJudged search t.nodes).0 proof.refutes in
    let rest = made kind subject pairs unknowns room Of judgeable ones ts named.1 are.1 in
    let number : one.number ≡ t.pattern = sym is.numbered in
    let nodes : all_preorder trees.0 ≡ t.nodes = trees.2 in
    let same : proof_of one.number trees.0 ≡ t = (λ i. record { pattern = number i; nodes = nodes i }) in
    let inside : one.number < length file.patterns = slice_get_within file.patterns one.number one.pattern named.0 in
    let few = file.shape.limit in
    let some : 64 < 2 ^ 32 = lit< tt in
    let below : t.pattern < 2 ^ 32 = omega arith in
    record {
      proofs = (one.number, trees.0) ∷ rest.proofs;
      are = ap (λ (p : Proof). p ∷ proofs_of rest.proofs) same ∙ ap (λ (ps : List Proof). t ∷ ps) rest.are;
      prove = (record { search = search; searched = search_named kind subject pairs one.number one.pattern named.0; proves = trees.1 }, rest.prove);
      named = ap (λ (ks : List ℕ). one.number ∷ ks) rest.named;
      writable = (record { pattern = below; nodes = proof.writable }, rest.writable);
      short = (
        omega (arith, room, pattern_short t.pattern below),
        lines_short subject.line_bytes t.nodes (proof_lines ts) (proof.short subject.line_bytes room) rest.short,
      );
    }

-- the nodes of trees of words under the orders that are found
judgeable_words :
    (file : File) (orders : List Order) → FoundOrders file.automaton orders → (budget : ℕ) → IsNarrow file.automaton → LoopsPure file.automaton
    → budget ≤ 1000000000
    → (number : ℕ) (p : Pattern) → slice_get file.patterns number ≡ Some p → (nodes : List Node) (count : ℕ) → tree_by false file budget p nodes count
    → IsProof 4656 (pattern_search file.automaton p (map pair_of orders)) nodes
judgeable_words file orders found budget narrow loops within number p at nodes count is =
    let pairs = map pair_of orders in
    let same_orders = orders_once file.automaton is.orders orders is.found found in
    let tree = subst (λ (os : List Order). TreeIs (pattern_search file.automaton p (map pair_of os)) budget nodes count) same_orders is.holds in
    (refuted_hold Safe file number p at narrow tt loops pairs (orders_sound file.automaton orders found).good budget within nodes count tree).0

-- the numbers of those of a file that are safe are distinct and name their patterns
pub safe_named :
    (file : File) (pick : Pick) (vs : List Verdict) → AllByRecursion (λ one. slice_get file.patterns one.number ≡ Some one.pattern) (safe_picked file pick vs)
safe_named file pick vs = ones_named file (first_picked pick) (picked pick file.patterns) vs (picked_there pick file.patterns)

pub safe_distinct : (file : File) (pick : Pick) (vs : List Verdict) → Distinct (numbers (safe_picked file pick vs))
safe_distinct file pick vs = ones_distinct (first_picked pick) (picked pick file.patterns) vs

-- the lines of a certificate with such proofs are short
pub all_short : (limit : ℕ) (orders : List Order) (trees : List Proof) → 64 ≤ limit → AreShort limit (order_lines orders) → AreShort limit (proof_lines trees)
    → AreShort limit (cert_lines orders trees)
all_short limit orders trees room before behind = (
  omega (arith, room, head_short orders),
  each_append _ (order_lines orders) (proof_lines trees) before behind,
)

-- a leaf's line has room within limits
pub words_room : (l : Limits) → 51 * 4656 + 64 ≤ l.line_bytes
words_room l = omega (arith, l.long_lines)

pub moments_room : (l : Limits) (a : Automaton) → IsWithin l a → 51 * most_unknowns a + 64 ≤ l.line_bytes
moments_room l a within =
    let guards : 8 + length a.rise + length a.fall ≤ 8 + l.rises + l.falls = omega (arith, within.rise, within.fall) in
    let fired : (8 + length a.rise + length a.fall) * length a.rules ≤ (8 + l.rises + l.falls) * l.rules = mul-le-mul guards within.rules in
    omega (arith, fired, within.parameters, within.locations, l.leaf_lines)

-- orders that a certificate with proofs of a kind may have
pub record HasOrders (kind : Kind) (subject : Subject) (orders : List Order) : Type 0 where
  pub may : MayHave kind subject orders
  pub shown : AllByRecursion (ShowsPair subject.file.automaton) orders
  pub good : Good subject.file.automaton (map pair_of orders)

-- such proofs behind such orders are a certificate
pub accepted :
    (kind : Kind) (subject : Subject) (orders : List Order) → HasOrders kind subject orders → (kind ≡ Words → IsNarrow subject.file.automaton)
    → (ones : List SafeOne) → Distinct (numbers ones)
    → (trees : List Proof) → Made kind subject (map pair_of orders) ones trees → AreShort subject.line_bytes (lines_of_kind kind orders trees) → (text : List ℕ)
    → text ≡ cert_lines_text (lines_of_kind kind orders trees) → CertificateFor subject text (numbers ones)
accepted kind subject orders has narrow ones distinct trees m short text written =
    record {
      kind = kind;
      orders = orders;
      proofs = m.proofs;
      written = written ∙ ap (λ (ps : List Proof). cert_lines_text (lines_of_kind kind orders ps)) (sym m.are);
      ordered = has.may;
      narrow = narrow;
      legal = subst AreWritable (sym m.are) m.writable;
      short = subst (λ (ts : List Proof). AreShort subject.line_bytes (lines_of_kind kind orders ts)) (sym m.are) short;
      shown = has.shown;
      good = has.good;
      prove = m.prove;
      named = sym m.named;
      distinct = distinct;
    }

-- proofs of moments are no proofs of schemas
pub no_words : {A : Type 0} → Moments ≡ Words → A
no_words same = absurd (cc)

accepted_by :
    (lazy : Bool) (file : File) (pick : Pick) (budget : ℕ) → (lazy ≡ false → IsNarrow file.automaton) → LoopsPure file.automaton → budget ≤ 1000000000
    → (vs : List Verdict) (trees : List Proof) → AreTreesOf (tree_by lazy file budget) (safe_picked file pick vs) trees → (text : List ℕ)
    → text_by lazy file trees text → (l : Limits) → IsWithin l file.automaton → Certificate file l.line_bytes text (safe_among file pick vs)
accepted_by false file pick budget narrow loops within vs trees are text is l inside =
    let ones = safe_picked file pick vs in
    let sound = orders_sound file.automaton is.orders is.found in
    let subject = claiming Safe file l.line_bytes in
    let m = made Words subject (map pair_of is.orders) 4656 (words_room l) (tree_by false file budget)
    (judgeable_words file is.orders is.found budget (narrow refl) loops within) ones trees (safe_named file pick vs) are in
    let lines = all_short l.line_bytes is.orders trees (omega (arith, l.long_lines)) (sound.short l.line_bytes (omega (arith, l.long_lines))) m.short in
    accepted Words subject is.orders (record { may = sound.writable; shown = sound.shown; good = sound.good }) (λ words. narrow refl) ones
    (safe_distinct file pick vs) trees m lines text is.written
accepted_by true file pick budget narrow loops within vs trees are text is l inside =
    let ones = safe_picked file pick vs in
    let subject = claiming Safe file l.line_bytes in
    let m = made Moments subject [] (most_unknowns file.automaton) (moments_room l file.automaton inside) (tree_by true file budget)
    (λ number p at nodes count tree. (moments_refuted file number p at loops budget within nodes count tree).0) ones trees (safe_named file pick vs) are in
    accepted Moments subject [] (record { may = refl; shown = tt; good = no_pairs_good file.automaton }) no_words ones (safe_distinct file pick vs) trees m
    (omega (arith, version_short 3 (lit< tt), l.long_lines), m.short) text is

pub certificate_accepted :
    (file : File) (pick : Pick) (budget : Budget) → (budget.lazy ≡ false → IsNarrow file.automaton) → LoopsPure file.automaton
    → budget.nodes ≤ 1000000000 → (vs : List Verdict) (text : List ℕ) → CertificateOn file pick budget vs text
    → (l : Limits) → IsWithin l file.automaton → Certificate file l.line_bytes text (safe_among file pick vs)
certificate_accepted file pick budget narrow loops within vs text c =
    accepted_by budget.lazy file pick budget.nodes narrow loops within vs c.trees c.are text c.text_is

-- what stands in front of the proofs, the proofs and the end are the text of a certificate
pub cert_written : (orders : List Order) (proofs : List Proof) → (head_text orders ++ proofs_text proofs) ++ ended_line line.End ≡ cert_text orders proofs
cert_written orders proofs = append_assoc (head_text orders) (proofs_text proofs) (ended_line line.End) ∙ cert_parts orders proofs

-- so are those of moments
pub question_written : (proofs : List Proof) → (ended_line (line.Header 3) ++ proofs_text proofs) ++ ended_line line.End ≡ question_text proofs
question_written proofs =
    let first = line_text (line.Header 3) in
    append_assoc (ended_line (line.Header 3)) (proofs_text proofs) (ended_line line.End)
    ∙ append_assoc first (10 ∷ []) (proofs_text proofs ++ ended_line line.End)
    ∙ ap (λ (xs : List ℕ). first ++ (10 ∷ xs)) (sym (lines_text-proofs proofs))

text_made :
    (file : File) (trees : Trees) → AreTreesOfFile file trees → (proofs : List Proof) (text : List ℕ)
    → text ≡ (head_of trees ++ proofs_text proofs) ++ ended_line line.End → text_by (is_lazy trees) file proofs text
text_made file (which.Words found) known proofs text is = record { orders = found.list; found = known.orders; written = is ∙ cert_written found.list proofs }
text_made file which.Moments known proofs text is = is ∙ question_written proofs

-- such a text is the certificate of verdicts whose trees the proofs are
pub certificate_made :
    (file : File) (pick : Pick) (budget : Budget) (vs : List Verdict) (trees : Trees) → AreTreesOfFile file trees → is_lazy trees ≡ budget.lazy
    → (proofs : List Proof)
    → AreTrees file budget (safe_picked file pick vs) proofs → (text : List ℕ) → text ≡ (head_of trees ++ proofs_text proofs) ++ ended_line line.End
    → CertificateOn file pick budget vs text
certificate_made file pick budget vs trees known lazy proofs are text is =
    record { trees = proofs; are = are; text_is = subst (λ (b : Bool). text_by b file proofs text) lazy (text_made file trees known proofs text is) }
