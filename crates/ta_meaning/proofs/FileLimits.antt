-- The automaton of a legal file is within the limits.
use Rattle.ta_meaning.proofs.Common.{Limits, ◌≡◌, ℕ, List, [], ◌∷◌, arith, length-map, inl, inr, refl, RowOf, IsTreeOf, Tree, FileFault, File, Automaton}
use Rattle.ta_meaning.proofs.Common.{PlainTree, plain_tree, plain_names, guards_of, MeansRule, MeansAutomaton, meaning_faults, FirstFault, Legal, paired_length}
use Rattle.ta_automaton.specs.Narrow.{IsWithin}
use Rattle.ta_meaning.proofs.MadeFiles.{FewGuards, few_guards}
use Rattle.ta_syntax.specs.Limits.{IsTreeWithin}

-- a text without a first error, whose tree has these errors of meaning
none_of_meaning : (l : Limits) (bytes : List ℕ) (t : Tree) (faults : List FileFault) → IsTreeOf l bytes t → ((e : FileFault) → ¬ FirstFault l bytes e)
    → meaning_faults l t ≡ faults → faults ≡ []
none_of_meaning l bytes t [] is no_fault same = refl
none_of_meaning l bytes t (e ∷ later) is no_fault same = absurd
    (no_fault e (inr (inl (record { tree = t; is_tree = is; later = later; first = same }))))

-- an automaton that a tree within the limits means, with few guards
automaton_within : (l : Limits) (t : PlainTree) (a : Automaton) → IsTreeWithin l t → FewGuards l (guards_of (plain_names t) t.rules) → MeansAutomaton t a
    → IsWithin l a
automaton_within l t a within few means =
    let ns = plain_names t in
    let guards = guards_of ns t.rules in
    let rises = paired_length RowOf guards.rise a.rise means.rise in
    let falls = paired_length RowOf guards.fall a.fall means.fall in
    let rules = paired_length (MeansRule ns guards) t.rules a.rules means.rules in
    record {
      parameters = rw means.parameters within.parameters;
      shared = rw means.shared within.shared;
      locations = rw (means.locations, length-map) within.locations;
      rise = omega (arith, rises, few.rise);
      fall = omega (arith, falls, few.fall);
      rules = omega (arith, rules, within.rules);
    }

-- the automaton of a legal file
pub legal_within : (l : Limits) (bytes : List ℕ) (file : File) → Legal l bytes file → IsWithin l file.automaton
legal_within l bytes file legal =
    let m = legal.means in
    let none = none_of_meaning l bytes m.tree (meaning_faults l m.tree) m.is_tree legal.no_fault refl in
    automaton_within l (plain_tree m.tree) file.automaton m.is_tree.within (few_guards l m.tree none) m.means.automaton
