-- a certificate as it is written
use Rattle.ta_verdict.proofs.Common.{◌≡◌, ◌∙◌, ℕ, ◌+◌, ◌<◌, true, List, [], ◌∷◌, ◌++◌, length, slice_get, take, Option, Some, None, refl, sym, ap, subst, arith}
use Rattle.ta_verdict.proofs.Common.{append_assoc, append-nil, length-take-le, take_next, some_at, File, Pattern, nodes_text, proof_text, proofs_text}
use Rattle.ta_verdict.proofs.Common.{line_text, node_text, Node, Proof, Verdict, OfPattern, AreTreesOf, SafeOne, safe_ones, tree_size, with_safe, AddsTree}
use Rattle.ta_verdict.proofs.Common.{DraftBegins, DraftKeeps, DraftHasTree, HasProofs, HasText, HasTrees, ended_line, pieces_text, AllocError, Draft, Bool}
use Rattle.ta_verdict.proofs.Common.{Budget, VerdictFits, VerdictHolds, holds_by, tree_by, tree_under, OnOk, Result, Ok, Err, false≢true}
use Rattle.std.specs.Prelude.{is_some}
use Rattle.ta_verdict.specs.declared.pieces.Pieces.{Pieces}
use Rattle.ta_cert.specs.declared.line.Line.TheVariants as line

nodes_joined : (ns ms : List Node) → nodes_text (ns ++ ms) ≡ nodes_text ns ++ nodes_text ms
nodes_joined [] ms = refl
nodes_joined (n ∷ ns) ms = ap (λ (xs : List ℕ). node_text n ++ (10 ∷ xs)) (nodes_joined ns ms)
    ∙ sym (append_assoc (node_text n) (10 ∷ nodes_text ns) (nodes_text ms))

-- a fact of a verdict on the pattern with this number; the verdict fits the file; and if it calls the pattern safe, the second draft is the first
-- and the lines of its tree
pub record Drafted (Fact : ℕ → Pattern → Verdict → Type 0) (Tree : Pattern → List Node → ℕ → Type 0) (file : File) (number : ℕ) (v : Verdict)
    (begun proof : Draft) : Type 0 where
  pub holds : OfPattern file number (λ p. Fact number p v)
  pub fits : VerdictFits file v
  pub drafted : OfPattern file number (λ p. DraftHasTree Tree p v begun proof)

-- with the trees that a budget asks for
pub drafted_within : (file : File) (budget : Budget) (number : ℕ) (v : Verdict) (begun proof : Draft) (lazy : Bool) → lazy ≡ budget.lazy
    → Drafted (holds_by lazy file budget.nodes) (tree_by lazy file budget.nodes) file number v begun proof
    → Drafted (VerdictHolds file budget) (tree_under file budget) file number v begun proof
drafted_within file budget number v begun proof lazy same by =
    subst (λ (b : Bool). Drafted (holds_by b file budget.nodes) (tree_by b file budget.nodes) file number v begun proof) same by

-- without nodes it is what it was
pub keeps_none : (draft : Draft) → DraftKeeps draft draft []
keeps_none draft = record { wanted = refl; text = λ begun h w. h w ∙ sym (append-nil begun) }

-- and where they are
pub keeps_line : (first now next : Draft) (ns : List Node) (n : Node) → next.wanted ≡ now.wanted → pieces_text next.lines ≡ pieces_text now.lines
    ++ ended_line (line.Tree n) → DraftKeeps first now ns → DraftKeeps first next (ns ++ n ∷ [])
keeps_line first now next ns n same more k = record {
  wanted = same ∙ k.wanted;
  text = λ begun h w.
      more ∙ ap (λ (xs : List ℕ). xs ++ ended_line (line.Tree n)) (k.text begun h (sym same ∙ w))
      ∙ append_assoc begun (nodes_text ns) (ended_line (line.Tree n))
      ∙ ap (λ (xs : List ℕ). begun ++ xs) (sym (nodes_joined ns (n ∷ [])));
}

-- what a write of its line answers
pub keeps_written : (written : Result (Unit {0}) AllocError) (first now : Draft) (lines : Pieces) (ns : List Node) (n : Node)
    → OnOk written (pieces_text lines ≡ pieces_text now.lines ++ ended_line (line.Tree n)) → DraftKeeps first now ns
    → OnOk written (DraftKeeps first (record { wanted = now.wanted; lines = lines }) (ns ++ n ∷ []))
keeps_written (Ok u) first now lines ns n more k = keeps_line first now (record { wanted = now.wanted; lines = lines }) ns n refl more k
keeps_written (Err e) first now lines ns n more k = tt

-- a draft of a later part, without lines
pub begun_draft : (now part : Draft) → part.wanted ≡ now.wanted → pieces_text part.lines ≡ [] → (first : Draft) (ns : List Node) → DraftKeeps first now ns
    → DraftBegins first part
begun_draft now part same none first ns k = record { wanted = same ∙ k.wanted; empty = none }

-- the lines of a later part behind those before it
keeps_joined : (first begun now part : Draft) (lines : Pieces) (ns ms : List Node) → pieces_text lines ≡ pieces_text now.lines ++ pieces_text part.lines
    → DraftKeeps first now ns → DraftBegins first begun → DraftKeeps begun part ms → DraftKeeps first (record { wanted = now.wanted; lines = lines }) (ns ++ ms)
keeps_joined first begun now part lines ns ms added k b m = record {
  wanted = k.wanted;
  text = λ text h w.
      let own = k.text text h w in
      let other : pieces_text part.lines ≡ nodes_text ms = m.text [] (λ u. b.empty) (m.wanted ∙ b.wanted ∙ sym k.wanted ∙ w) in
      added ∙ ap (λ (xs : List ℕ). xs ++ pieces_text part.lines) own ∙ ap (λ (xs : List ℕ). (text ++ nodes_text ns) ++ xs) other
      ∙ append_assoc text (nodes_text ns) (nodes_text ms)
      ∙ ap (λ (xs : List ℕ). text ++ xs) (sym (nodes_joined ns ms));
}

-- what an append of them answers
pub keeps_appended : (done : Result (Unit {0}) AllocError) (first begun now part : Draft) (lines : Pieces) (ns ms : List Node)
    → OnOk done (pieces_text lines ≡ pieces_text now.lines ++ pieces_text part.lines) → DraftKeeps first now ns → DraftBegins first begun
    → DraftKeeps begun part ms → OnOk done (DraftKeeps first (record { wanted = now.wanted; lines = lines }) (ns ++ ms))
keeps_appended (Ok u) first begun now part lines ns ms added k b m = keeps_joined first begun now part lines ns ms added k b m
keeps_appended (Err e) first begun now part lines ns ms added k b m = tt

proofs_more : (ps qs : List Proof) → proofs_text (ps ++ qs) ≡ proofs_text ps ++ proofs_text qs
proofs_more [] qs = refl
proofs_more (p ∷ ps) qs = ap (λ (xs : List ℕ). proof_text p ++ xs) (proofs_more ps qs) ∙ sym (append_assoc (proof_text p) (proofs_text ps) (proofs_text qs))

-- one that does adds the tree
adds_by : (Tree : Pattern → List Node → ℕ → Type 0) (number : ℕ) (p : Pattern) (size : Option ℕ) (Had Has : List ℕ → Type 0) (begun proof : Draft)
    → is_some size ≡ true → ((nodes : ℕ) → size ≡ Some nodes → (tree : List Node) × Tree p tree nodes × DraftKeeps begun proof tree)
    → HasText begun (ended_line (line.Pattern number)) → ((text more : List ℕ) → Had text → HasText proof more → Has (text ++ more))
    → (head : List ℕ) (proofs : List Proof) → HasProofs Had head proofs → (more : List Proof) × AreTreesOf Tree (with_safe number p size []) more
    × HasProofs Has head (proofs ++ more)
adds_by Tree number p None Had Has begun proof is drafted begins added head proofs has = absurd (false≢true is)
adds_by Tree number p (Some nodes) Had Has begun proof is drafted begins added head proofs has =
    let d = drafted nodes refl in
    let one : Proof = record { pattern = number; nodes = d.0 } in
    let text : HasText proof (ended_line (line.Pattern number) ++ nodes_text d.0) = d.2.text (ended_line (line.Pattern number)) begins in
    let whole = added (head ++ proofs_text proofs) (ended_line (line.Pattern number) ++ nodes_text d.0) has text in
    let same : ended_line (line.Pattern number) ++ nodes_text d.0 ≡ proofs_text (one ∷ []) = append_assoc (line_text (line.Pattern number)) (10 ∷ [])
    (nodes_text d.0) ∙ sym (append-nil (proof_text one)) in
    let joined : (head ++ proofs_text proofs) ++ (ended_line (line.Pattern number) ++ nodes_text d.0) ≡ head ++ proofs_text (proofs ++ one ∷ []) =
    append_assoc head (proofs_text proofs) (ended_line (line.Pattern number) ++ nodes_text d.0)
    ∙ ap (λ (xs : List ℕ). head ++ (proofs_text proofs ++ xs)) same
    ∙ ap (λ (xs : List ℕ). head ++ xs) (sym (proofs_more proofs (one ∷ []))) in
    (one ∷ [], (record { numbered = refl; is = d.1 }, tt), subst Has joined whole)

pub adds_tree : (Tree : Pattern → List Node → ℕ → Type 0) (number : ℕ) (p : Pattern) (v : Verdict) (Had Has : List ℕ → Type 0) (begun proof : Draft)
    → is_some (tree_size v) ≡ true → DraftHasTree Tree p v begun proof → HasText begun (ended_line (line.Pattern number))
    → ((text more : List ℕ) → Had text → HasText proof more → Has (text ++ more)) → AddsTree Tree number p v Had Has
adds_tree Tree number p v Had Has begun proof is drafted begins added head proofs has = adds_by Tree number p (tree_size v) Had Has begun proof is drafted
    begins added head proofs has

wanted_by : (Tree : Pattern → List Node → ℕ → Type 0) (p : Pattern) (size : Option ℕ) (begun proof : Draft) → is_some size ≡ true
    → ((nodes : ℕ) → size ≡ Some nodes → (tree : List Node) × Tree p tree nodes × DraftKeeps begun proof tree) → proof.wanted ≡ begun.wanted
wanted_by Tree p None begun proof is drafted = absurd (false≢true is)
wanted_by Tree p (Some nodes) begun proof is drafted = (drafted nodes refl).2.wanted

-- lines are wanted of a tree where they were before
pub wanted_same : (file : File) (Tree : Pattern → List Node → ℕ → Type 0) (number : ℕ) (v : Verdict) (begun proof : Draft) → number < length file.patterns
    → is_some (tree_size v) ≡ true → OfPattern file number (λ p. DraftHasTree Tree p v begun proof) → proof.wanted ≡ begun.wanted
wanted_same file Tree number v begun proof within is drafted =
    let at = some_at file.patterns number within in
    wanted_by Tree at.0 (tree_size v) begun proof is (drafted at.0 at.1)

trees_append : (Tree : Pattern → List Node → ℕ → Type 0) (xs ys : List SafeOne) (ps qs : List Proof) → AreTreesOf Tree xs ps → AreTreesOf Tree ys qs
    → AreTreesOf Tree (xs ++ ys) (ps ++ qs)
trees_append Tree [] ys [] qs h k = k
trees_append Tree [] ys (p ∷ ps) qs h k = absurd h
trees_append Tree (x ∷ xs) ys [] qs h k = absurd h
trees_append Tree (x ∷ xs) ys (p ∷ ps) qs h k = (h.0, trees_append Tree xs ys ps qs h.1 k)

with_append : (number : ℕ) (p : Pattern) (size : Option ℕ) (xs ys : List SafeOne) → with_safe number p size (xs ++ ys) ≡ with_safe number p size xs ++ ys
with_append number p None xs ys = refl
with_append number p (Some nodes) xs ys = refl

ones_more : (number : ℕ) (ps : List Pattern) (vs : List Verdict) (p : Pattern) (v : Verdict) → length vs ≡ length ps
    → safe_ones number (ps ++ p ∷ []) (vs ++ v ∷ []) ≡ safe_ones number ps vs ++ with_safe (number + length ps) p (tree_size v) []
ones_more number [] [] p v same = ap (λ (k : ℕ). with_safe k p (tree_size v) []) (omega arith)
ones_more number [] (w ∷ vs) p v same = absurd (omega arith)
ones_more number (q ∷ ps) [] p v same = absurd (omega arith)
ones_more number (q ∷ ps) (w ∷ vs) p v same =
    let there : (number + 1) + length ps ≡ number + length (q ∷ ps) = omega arith in
    ap (with_safe number q (tree_size w))
    (ones_more (number + 1) ps vs p v (omega arith) ∙ ap (λ (k : ℕ). safe_ones (number + 1) ps vs ++ with_safe k p (tree_size v) []) there)
    ∙ with_append number q (tree_size w) (safe_ones (number + 1) ps vs) (with_safe (number + length (q ∷ ps)) p (tree_size v) [])

-- one more verdict on these patterns, of which the first has this number, and its tree is added
pub trees_more : (Tree : Pattern → List Node → ℕ → Type 0) (head : List ℕ) (first : ℕ) (ps : List Pattern) (done : ℕ) (vs : List Verdict) (v : Verdict)
    (Had Has : List ℕ → Type 0) → done < length ps → length vs ≡ done → HasTrees Tree head (safe_ones first (take done ps) vs) Had
    → ((p : Pattern) → slice_get ps done ≡ Some p → AddsTree Tree (first + done) p v Had Has)
    → HasTrees Tree head (safe_ones first (take (done + 1) ps) (vs ++ v ∷ [])) Has
trees_more Tree head first ps done vs v Had Has within counted has adds =
    let at = some_at ps done within in
    let p = at.0 in
    let more = sym (take_next ps done p at.1) in
    let long : length (take done ps) ≡ done = length-take-le done ps (omega arith) in
    let number : first + length (take done ps) ≡ first + done = ap (λ (k : ℕ). first + k) long in
    let added = adds p at.1 head has.0 has.2 in
    let trees = trees_append Tree (safe_ones first (take done ps) vs) (with_safe (first + done) p (tree_size v) []) has.0 added.0 has.1 added.1 in
    let ones : safe_ones first (take done ps) vs ++ with_safe (first + done) p (tree_size v) [] ≡ safe_ones first (take (done + 1) ps) (vs ++ v ∷ []) =
    sym (ones_more first (take done ps) vs p v (counted ∙ sym long)
    ∙ ap (λ (k : ℕ). safe_ones first (take done ps) vs ++ with_safe k p (tree_size v) []) number)
    ∙ ap (λ (qs : List Pattern). safe_ones first qs (vs ++ v ∷ [])) more in
    (has.0 ++ added.0, subst (λ (xs : List SafeOne). AreTreesOf Tree xs (has.0 ++ added.0)) ones trees, added.2)
