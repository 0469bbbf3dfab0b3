-- a whole node of a search of rest solves its word
use Rattle.ta_verdict.proofs.rest.Common.{[], ◌∷◌, slice_get, refl, sym, ap, ◌∙◌, append-nil, subst, rest_rows, rest_search, left_wait, RestsAreSolved}
use Rattle.ta_verdict.proofs.rest.Common.{RestSafe, starts_wait}
use Rattle.ta_encode.specs.System.{AllHold}
use Rattle.ta_cert.specs.declared.line.Node.TheVariants.{Extend}
use Rattle.ta_words.specs.Words.{children, is_complete}
use Rattle.ta_encode.proofs.Asking.{settled_complete}
use Rattle.ta_encode.proofs.Moments.{AllHold-left}
use Rattle.ta_rest.proofs.PatternWords.{comes_legal}
use Rattle.ta_rest.proofs.RestRows.{rest_comes}
use Rattle.ta_walk.proofs.WordsSolved.{unscaled_solve, whole_solves}

pub found_solved : RestsAreSolved
found_solved file number p at budget count solution found =
    let a = file.automaton in
    let s = rest_search a p in
    let w = found.word in
    let waits = (left_wait s 0 s.roots found.visited.nodes (w ∷ found.visited.words) (starts_wait RestSafe a p []) found.visited.visits).0 in
    let legal = comes_legal a p [] w.start w.past (rest_comes a p w.start w.past waits.comes) in
    let whole = found.holds.whole in
    let solved = whole_solves s (unscaled_solve s (λ v vs. refl)) w solution.values whole in
    let rows = AllHold-left solved.0 (rest_rows a p w.start w.past) _ solved.2.rows_hold in
    record {
      pattern = p;
      named = ap (slice_get file.patterns) found.holds.pattern ∙ at;
      solved = record {
        start = w.start;
        is_start = legal.start_is;
        past = w.past;
        legal = legal.legal;
        complete = settled_complete s w.start w.past (is_complete p w.past) (children a p [] w.start w.past) (λ n. refl) (λ may. whole.settled Extend refl may);
        values = solved.0;
        solves = record { count = solved.2.count; rows_hold = subst (AllHold solved.0) (sym (append-nil (rest_rows a p w.start w.past))) rows };
      };
      start = sym found.holds.start;
      word = sym found.holds.word;
      values = solved.1;
    }
