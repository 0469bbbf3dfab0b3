-- the run of a solution of a system of rest ends at rest
use Rattle.ta_witness.proofs.Common.{LegalWord, SolvedWord, WordFires, start_values, steps_of, AllHold}
use Rattle.ta_witness.proofs.RestCommon.{◌≡◌, ℕ, ◌+◌, ◌<◌, ◌^◌, ℤ, true, List, [], ◌∷◌, ◌++◌, map, length, take, reverse, unsigned_abs, arith, sym, ap, ◌∙◌}
use Rattle.ta_witness.proofs.RestCommon.{refl, subst, slice_index, AllByRecursion, bit_set, each_at, Automaton, Pattern, File, has_bit, At, Config, InScope}
use Rattle.ta_witness.proofs.RestCommon.{after_earlier, pattern_within, Element, Solution, ComesLast, AtRest, ComeAfterEarlier, RestOccurs, end_config}
use Rattle.ta_witness.proofs.RestCommon.{end_hold, steps_rest, Run, IsFirstConfig, ShowsPattern, unit_steps, WitnessOf, piece_rules, pieces_back, pieces_fire}
use Rattle.ta_witness.proofs.RestCommon.{values_of, Parts, parts_of, RestSolutionsSolve, RestWitnessesRest, IsRestSolution, OccursAtRest}
use Rattle.ta_words.specs.Words.{is_complete}
use Rattle.ta_encode.specs.Search.{SolvesAt}
use Rattle.ta_encode.specs.System.{LinearRow, word_rows}
use Rattle.ta_encode.specs.Unknowns.{start_meanings}
use Rattle.ta_rest.specs.Laws.{RestSolved}
use Rattle.ta_rest.specs.RestSearch.{rest_search}
use Rattle.ta_witness.proofs.Marks.{all_steps}
use Rattle.ta_witness.proofs.Starts.{counts_are, parameters_are}
use Rattle.ta_witness.proofs.Ends.{begins_same, ends_same}

-- the same solution, of the word and the start set that it names
abbrev pub rest_at : (file : File) (solution : Solution) (s : IsRestSolution file solution) → RestSolved file.automaton s.pattern
rest_at file solution s =
    let a = file.automaton in
    let p = s.pattern in
    let r = s.solved in
    record {
      start = solution.start_mask;
      is_start = subst (λ n. n < 2 ^ length a.fall) s.start r.is_start;
      past = reverse solution.word;
      legal = subst (λ (q : List Element). LegalWord a p solution.start_mask q) s.word (subst (λ n. LegalWord a p n r.past) s.start r.legal);
      complete = subst (λ (q : List Element). is_complete p q ≡ true) s.word r.complete;
      values = r.values;
      solves = subst (λ (q : List Element). SolvesAt (rest_search a p) (record { start = solution.start_mask; past = q; bounds = [] }) r.values) s.word
          (subst (λ n. SolvesAt (rest_search a p) (record { start = n; past = r.past; bounds = [] }) r.values) s.start r.solves);
    }

-- a solution of the word's system of rest solves its own
pub solved_word : (a : Automaton) (p : Pattern) (start : ℕ) (word : List Element) (vs : List ℕ) → LegalWord a p start (reverse word)
    → is_complete p (reverse word) ≡ true → SolvesAt (rest_search a p) (record { start = start; past = reverse word; bounds = [] }) vs
    → SolvedWord a p start word vs
solved_word a p start word vs legal complete solves = record {
  legal = legal;
  complete = complete;
  solves = record {
    count = solves.count;
    rows_hold = no_bounds vs (word_rows a p start (reverse word))
        (end_hold a p start (reverse word) vs complete solves.rows_hold).0;
  };
} where
  no_bounds : (vs : List ℕ) (rows : List LinearRow) → AllHold vs rows → AllHold vs (rows ++ [])
  no_bounds vs [] h = tt
  no_bounds vs (row ∷ rows) h = (h.0, no_bounds vs rows h.1)

abbrev pub solutions_solve : RestSolutionsSolve
solutions_solve file solution s =
    let r = rest_at file solution s in
    record {
      pattern = s.pattern;
      named = s.named;
      values = s.solved.values;
      are = s.values;
      solved = solved_word file.automaton s.pattern solution.start_mask solution.word s.solved.values r.legal r.complete r.solves;
    }

-- the run begins where the solution's steps do
begins_there : (a : Automaton) (p : Pattern) (start : ℕ) (word : List Element) (vs : List ℕ) (run : Run) → Parts a p start word vs run → (first : Config)
    → length first.parameters ≡ length a.parameters → start_values a p first ≡ take (length (start_meanings a p)) vs
    → ((l : ℕ) → has_bit p.empty l ≡ true → slice_index first.counters l ≡ 0) → IsFirstConfig a run first
begins_there a p start word vs run h first count begins empty = record {
  parameters = sym (ap (λ (zs : List ℤ). map unsigned_abs zs) h.parameters ∙ parameters_are a p start (reverse word) vs first count begins);
  counts = λ j l there. counts_are a p start (reverse word) vs first count begins empty j l there
      ∙ ap (λ (cs : List ℤ). slice_index (map unsigned_abs cs) j) (sym h.counts);
}

-- a pattern occurs in the run of the pieces of its solution, and its last event happens at the run's end, which is at rest
pieces_rest : (a : Automaton) (p : Pattern) → InScope a → ComeAfterEarlier p → ComesLast p → (r : RestSolved a p) (word : List Element) → r.past ≡ reverse word
    → (run : Run) → Parts a p r.start word r.values run → OccursAtRest a p run
pieces_rest a p scope early last r word is run h =
    let back = pieces_back a (values_of a p r.start (reverse word) r.values) word h.pieces h.are in
    let firings = map piece_rules (reverse h.pieces) in
    let fires = pieces_fire a scope p r.start (reverse word) r.values (reverse h.pieces) back in
    let rest = steps_rest a p early last r firings (subst (λ (past : List Element). WordFires a p r.start past r.values firings) (sym is) fires) in
    let o = rest.rests.occurs in
    let steps : unit_steps run.lines ≡ steps_of firings = ap unit_steps h.lines ∙ sym (all_steps h.pieces) in
    let empty : (l : ℕ) → has_bit p.empty l ≡ true → slice_index rest.first.counters l ≡ 0 =
    (λ l b. o.kept_empty l (bit_set p.empty l b) 0 rest.first (omega arith)) in
    record {
      first = rest.first;
      begins = begins_there a p r.start word r.values run h rest.first o.run.initial.admissible.count rest.begins empty;
      occurs = subst (RestOccurs a p rest.first) (sym steps) rest.rests;
    }

pub solution_occurs : (file : File) → InScope file.automaton → AllByRecursion ComesLast file.patterns
    → (solution : Solution) (s : IsRestSolution file solution) (run : Run) → WitnessOf file solution run → OccursAtRest file.automaton s.pattern run
solution_occurs file scope last solution s run w =
    let a = file.automaton in
    let p = s.pattern in
    let early = after_earlier (length a.parameters + length a.shared + length a.locations) (length a.locations) p
    (pattern_within file solution.pattern p s.named) in
    let parts = parts_of file solution (solutions_solve file solution s) run w in
    pieces_rest a p scope early (each_at ComesLast file.patterns solution.pattern p last s.named) (rest_at file solution s) solution.word refl run parts

-- wherever such a run leads, it ends where these steps do, which is at rest
ends_at_rest : (a : Automaton) (p q : Pattern) (run : Run) → OccursAtRest a p run → (s : ShowsPattern a q run) (c : Config)
    → At s.first s.later (length (unit_steps run.lines)) c → AtRest a c
ends_at_rest a p q run o s c at =
    let rules = unit_steps run.lines in
    let there = o.occurs.occurs in
    let end = end_config a p o.first rules there in
    let same : c ≡ end.0 = ends_same a s.first o.first rules s.later there.later s.follows there.run
    (begins_same a run s.first o.first s.follows.initial there.run.initial s.begins o.begins) (length rules) c end.0 at end.1 in
    subst (AtRest a) (sym same) (o.occurs.rests end.0 end.1)

pub witnesses_rest : RestWitnessesRest
witnesses_rest file scope last solution s run w shown c at =
    ends_at_rest file.automaton s.pattern shown.pattern run (solution_occurs file scope last solution s run w) shown.shows c at
