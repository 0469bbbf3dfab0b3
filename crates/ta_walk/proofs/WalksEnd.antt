-- The walks of patterns for each claim, and the searches for samples, end.
use Rattle.ta_walk.proofs.Common.{IsNarrow, ◌≡◌, ℕ, ◌^◌, ◌≤◌, ℤ, List, length, reverse, slice_get, take, Some, arith, refl, sym, ap, ◌∙◌, reverse-reverse}
use Rattle.ta_walk.proofs.Common.{Automaton, File, Pattern, sample_search, Pending, Search, few_unknowns, claim_legal, search_for, Claim, SampleEnd, WalkEnd}
use Rattle.ta_walk.proofs.Common.{HasSystems, WalksHaveEnds, WordsHaveSystems, Ending, IsWalkEnd, IsVisitEnding, Left, SolutionAt, Solved, Stopped, Whole}
use Rattle.ta_walk.proofs.Common.{IsSampleEnd, SampleAt, WholeAt, pattern_within, Element}
use Rattle.ta_encode.specs.Unknowns.{meanings}
use Rattle.ta_encode.proofs.SystemsExist.{sample_system}
use Rattle.ta_rest.proofs.ClaimWords.{claim_system, claim_grows}
use Rattle.ta_walk.proofs.SearchesEnd.{searches_end}
use Rattle.ta_walk.proofs.WordsVisited.{claim_unbounded}
use Rattle.ta_walk.proofs.DeterminedEnds.{node_with}
use Rattle.ta_walk.specs.declared.end.SampleEnd.TheVariants as sampled
use Rattle.ta_walk.specs.declared.end.WalkEnd.TheVariants as walked

pattern_has : (claim : Claim) (file : File) (number : ℕ) (p : Pattern) → slice_get file.patterns number ≡ Some p → IsNarrow file.automaton
    → (pairs : List (ℕ × ℕ)) → HasSystems (search_for claim file.automaton p pairs)
pattern_has claim file number p at narrow pairs = record {
  unbounded = claim_unbounded claim file.automaton p pairs;
  grow = λ start past e answers. claim_grows claim file.automaton p pairs start past e;
  systems = λ w comes bounds.
      let legal = claim_legal claim file.automaton p pairs w.start w.past comes in
      let few : length (meanings file.automaton p w.start w.past) ≤ 2 ^ 32 = omega
      (arith, few_unknowns file.automaton narrow p w.start w.past (pattern_within file number p at) legal) in
      claim_system claim file number p pairs w at few bounds;
}

sample_has : (a : Automaton) → HasSystems (sample_search a)
sample_has a = record { unbounded = (refl, tt); grow = λ start past e answers. omega arith; systems = λ w comes bounds. sample_system a w bounds }

pub words_have : WordsHaveSystems
words_have = record { patterns = pattern_has; samples = sample_has }

solution_at : (s : Search Element) (number : ℕ) (w v : Pending Element) (values : List ℤ) → (v ≡ w) × WholeAt s v values
    → SolutionAt s number (record { pattern = number; start_mask = w.start; word = reverse w.past; values = values }) v
solution_at s number w v values h = record {
  pattern = refl;
  start = ap (λ (x : Pending Element). x.start) (sym h.0);
  word = reverse-reverse w.past ∙ ap (λ (x : Pending Element). x.past) (sym h.0);
  whole = h.1;
}

walk_end : (s : Search Element) (number budget : ℕ) (e : Ending Element) → IsVisitEnding s budget e → (f : WalkEnd) × IsWalkEnd s number budget f
walk_end s number budget (Whole nodes count) h = (walked.Refuted nodes count, h)
walk_end s number budget (Solved k w values) h = (
  walked.Found k (record { pattern = number; start_mask = w.start; word = reverse w.past; values = values }),
  node_with s budget k (λ v. (v ≡ w) × WholeAt s v values)
      (SolutionAt s number (record { pattern = number; start_mask = w.start; word = reverse w.past; values = values })) h
      (solution_at s number w h.word values h.holds),
)
walk_end s number budget (Stopped count) h = (walked.Spent count, h)
walk_end s number budget (Left k kind) h = (walked.Overflow k kind, h)

sample_end : (a : Automaton) (budget : ℕ) (e : Ending Element) → IsVisitEnding (sample_search a) budget e → (f : SampleEnd) × IsSampleEnd a budget f
sample_end a budget (Whole nodes count) h = (sampled.Empty, record { nodes = nodes; count = count; tree = h })
sample_end a budget (Solved k w values) h = (
  sampled.Sample (take (length a.parameters) values),
  record {
    number = k;
    node = node_with (sample_search a) budget k (λ v. (v ≡ w) × WholeAt (sample_search a) v values) (SampleAt a (take (length a.parameters) values)) h
        (record { values = values; whole = h.holds.1; first = refl });
  },
)
sample_end a budget (Stopped count) h = (sampled.Spent count, h)
sample_end a budget (Left k kind) h = (sampled.Overflow k kind, h)

pub walks_end : WalksHaveEnds
walks_end = record {
  walks = λ claim file number p at narrow pairs budget none.
      searches_end (search_for claim file.automaton p pairs) (pattern_has claim file number p at narrow pairs) budget
      (λ e. none (walk_end (search_for claim file.automaton p pairs) number budget e.0 e.1));
  samples = λ a budget none. searches_end (sample_search a) (sample_has a) budget (λ e. none (sample_end a budget e.0 e.1));
}
