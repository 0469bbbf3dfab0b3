-- lines of counts, one behind the other
use Rattle.ta_program.proofs.Common.{ℕ, List, [], ◌∷◌, ◌++◌, ◌+◌, ◌<◌, ◌≤◌, ◌≡◌, AllByRecursion, File, Pattern, ap, arith, count_line, counts_of, drop}
use Rattle.ta_program.proofs.Common.{get_or, inl, inr, length, max, most_events, next_item, piece_written, refl}
use Rattle.std.proofs.lemmas.List.{length-map}
use Rattle.std.proofs.lemmas.Bool.Decides.{nat_tests}
use Rattle.std.specs.Ordering.{nat_cmp, ord_max}
use Rattle.ta_automaton.specs.Patterns.{PatternWithin}
use Rattle.ta_base.proofs.Pairwise.{paired_length}
use Rattle.ta_base.specs.declared.limits.Limits.{Limits}
use Rattle.ta_meaning.proofs.FileLimits.{legal_within}
use Rattle.ta_meaning.specs.Meaning.{MeansPattern}
use Rattle.ta_meaning.specs.Names.{plain_names}
use Rattle.ta_syntax.specs.PlainTrees.{plain_pattern, plain_tree}
use Rattle.ta_meaning.specs.Reading.{Legal}
use Rattle.ta_base.proofs.Naturals.{max_is}
use Rattle.ta_report.specs.Show.{each}

-- one line more is written
pub line_written :
    (old new : List ℕ) (c : List ℕ × ℕ × ℕ) (rest : List (List ℕ × ℕ × ℕ)) (all : List ℕ) → new ≡ old ++ count_line c
    → old ++ each count_line (c ∷ rest) ≡ all → new ++ each count_line rest ≡ all
line_written old new c rest all written so_far =
    piece_written old new (count_line c) (each count_line (c ∷ rest)) (each count_line rest) all written refl so_far

-- what `max` of the program gives
pub ord_larger : (a b : ℕ) → ord_max nat_cmp a b ≡ max a b
ord_larger a b = grind (arith, nat_tests)

-- one pattern more is looked at
pub most_more :
    (ps : List Pattern) (i : ℕ) (p : Pattern) (most size more : ℕ) → i < length ps → p ≡ get_or ps i p → size ≡ length p.events → more ≡ max most size
    → max most (most_events (drop i ps)) ≡ most_events ps → max more (most_events (drop (i + 1) ps)) ≡ most_events ps
most_more ps i p most size more within is sized larger so_far =
    let here : most_events (drop i ps) ≡ max (length p.events) (most_events (drop (i + 1) ps)) = ap most_events (next_item ps i p within is) in
    omega (arith, here, sized, larger, so_far)

-- no pattern has more events than a pattern may have
few_events : (places locations : ℕ) (ps : List Pattern) → AllByRecursion (PatternWithin places locations) ps → most_events ps ≤ 8
few_events places locations [] within = omega arith
few_events places locations (p ∷ ps) within =
    let few : length p.events ≤ 8 = within.0.events_limit in
    let others = few_events places locations ps within.1 in
    elim (max_is (length p.events) (most_events ps)) [ inl is ↦ omega (arith, is, few) | inr is ↦ omega (arith, is, others) ]

-- each count of a legal file is within its limit
pub counts_within : (l : Limits) (bytes : List ℕ) (file : File) → Legal l bytes file → AllByRecursion (λ c. c.1 ≤ c.2) (counts_of l file)
counts_within l bytes file legal =
    let few = legal_within l bytes file legal in
    let t = legal.means.tree in
    let patterns = paired_length (MeansPattern (plain_names (plain_tree t))) (plain_tree t).patterns file.patterns legal.means.means.patterns in
    let same : length (plain_tree t).patterns ≡ length t.patterns = length-map t.patterns plain_pattern in
    let few_patterns : length file.patterns ≤ l.patterns = omega (arith, patterns, same, legal.means.is_tree.within.patterns) in (
      few.parameters,
      (
        few.shared,
        (
          few.locations,
          (few.rules, (few.rise, (few.fall, (few_patterns, (few_events _ _ file.patterns file.shape.within, tt))))),
        ),
      ),
    )
