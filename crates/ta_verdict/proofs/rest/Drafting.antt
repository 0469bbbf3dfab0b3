-- the lines of a tree at rest in a draft
use Rattle.ta_verdict.proofs.Common.{false≢true, Draft}
use Rattle.ta_verdict.proofs.rest.Common.{◌≡◌, Bool, true, false, ℕ, List, subst, File, Pattern, Search, Verdict, Safe, Unsafe, Spent, Overflow, KeepsSafe}
use Rattle.ta_verdict.proofs.rest.Common.{DraftKeeps, DraftHasTree, Drafted, TreeIs, OfPattern, OwnVerdict, RestBudget, RestFile, VerdictFits, moments_of}
use Rattle.ta_verdict.proofs.rest.Common.{moments_within, of_rest, rest_search, rest_tree, words_within}
use Rattle.std.proofs.lemmas.Bool.{true≢false}

-- a verdict on the ending of a pattern with its number, as `Drafted` says
abbrev pub DraftedAtRest : RestFile → RestBudget → ℕ → Verdict → Draft → Draft → Type 0
DraftedAtRest rest budget number v begun proof =
    Drafted (OwnVerdict rest budget) (rest_tree rest.ending.file budget) rest.ending.file number v begun proof

drafted : {E : Type 0} (searched : Pattern → Search E) (ending : File) (budget number : ℕ) (v : Verdict) (first now : Draft)
    → OfPattern ending number (λ p. KeepsSafe (searched p) budget (DraftKeeps first now) v)
    → OfPattern ending number (λ p. DraftHasTree (λ q nodes count. TreeIs (searched q) budget nodes count) p v first now)
drafted searched ending budget number (Safe count leaves) first now kept p at nodes size =
    let same : count ≡ nodes = cc in
    let tree = kept p at in
    (tree.nodes, subst (λ (n : ℕ). TreeIs (searched p) budget tree.nodes n) same tree.is, tree.kept)
drafted searched ending budget number (Unsafe count run) first now kept p at nodes size = absurd (cc)
drafted searched ending budget number (Spent count) first now kept p at nodes size = absurd (cc)
drafted searched ending budget number (Overflow node kind) first now kept p at nodes size = absurd (cc)

-- by either tree
pub moments_drafted : (rest : RestFile) (nodes : ℕ) (silent : List ℕ) (lazy : Bool) → lazy ≡ true → (number : ℕ) (v : Verdict) (first now : Draft)
    → OfPattern rest.ending.file number (λ p. OwnVerdict rest (moments_within nodes silent) number p v) → VerdictFits rest.ending.file v
    → OfPattern rest.ending.file number (λ p. KeepsSafe (moments_of rest.ending.file.automaton p (of_rest silent)) nodes (DraftKeeps first now) v)
    → DraftedAtRest rest (record { nodes = nodes; lazy = lazy; silent = silent }) number v first now
moments_drafted rest nodes silent false is number v first now holds fits kept = absurd (false≢true is)
moments_drafted rest nodes silent true is number v first now holds fits kept = record {
  holds = holds;
  fits = fits;
  drafted = drafted (λ q. moments_of rest.ending.file.automaton q (of_rest silent)) rest.ending.file nodes number v first now kept;
}

pub words_drafted : (rest : RestFile) (nodes : ℕ) (silent : List ℕ) (lazy : Bool) → lazy ≡ false → (number : ℕ) (v : Verdict) (first now : Draft)
    → OfPattern rest.ending.file number (λ p. OwnVerdict rest (words_within nodes) number p v) → VerdictFits rest.ending.file v
    → OfPattern rest.ending.file number (λ p. KeepsSafe (rest_search rest.ending.file.automaton p) nodes (DraftKeeps first now) v)
    → DraftedAtRest rest (record { nodes = nodes; lazy = lazy; silent = silent }) number v first now
words_drafted rest nodes silent true is number v first now holds fits kept = absurd (true≢false is)
words_drafted rest nodes silent false is number v first now holds fits kept = record {
  holds = holds;
  fits = fits;
  drafted = drafted (λ q. rest_search rest.ending.file.automaton q) rest.ending.file nodes number v first now kept;
}
