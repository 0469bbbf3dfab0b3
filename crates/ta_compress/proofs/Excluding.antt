-- what can be compressed isn't refused
use Rattle.ta_compress.proofs.Common.{◌≡◌, inl, inr, ℕ, ◌≤◌, ℤ, List, arith, sym, ◌∙◌, refl, subst, fun_ext, ints, point_of, Automaton, File, GuardsStay}
use Rattle.ta_compress.proofs.Common.{StartsAt, Run, RunLine, Fits, ShowsPattern, shown_first, CompressFault, Replay, TooManySteps, Memory, IsSmallReplay}
use Rattle.ta_compress.proofs.Common.{Compressible, CompressFaultOf, GuardsOutOfRangeAt, GuardsOutOfRangeIn, EndsAtLastMark, at_most}
use Rattle.ta_compress.proofs.Finishing.{shown_named}
use Rattle.ta_compress.proofs.Shortening.{fits_named}

-- the last mark is at one place
one_last : (lines : List RunLine) (m n : ℕ) → EndsAtLastMark lines m → EndsAtLastMark lines n → n ≤ m
one_last lines m n a b = elim b.ends [
  | inl none ↦ omega arith
  | inr w ↦ at_most m n (λ less. let e = w.2 in a.behind w.0 w.1 (omega arith) w.3)
]

-- the values that a run starts with are the same at each place
pub same_start : (file : File) (run : Run) → Fits file run → IsSmallReplay file run → (v w : List ℤ) → StartsAt file.automaton run.parameters run.counts v
    → StartsAt file.automaton run.parameters run.counts w → (i : ℕ) → point_of v i ≡ point_of w i
same_start file run fits admitted v w a b i =
    let s : ShowsPattern file.automaton fits.pattern run = shown_named file run fits admitted in
    let at = shown_first file.automaton fits.pattern run (fits_named file run fits) s in
    sym (at v a i) ∙ at w b i

pub leaves_same : (a : Automaton) (v w : List ℤ) (lines : List RunLine) (i : ℕ) → ((k : ℕ) → point_of v k ≡ point_of w k) → GuardsOutOfRangeIn a v lines i
    → GuardsOutOfRangeIn a w lines i
leaves_same a v w lines i same l = record {
  rule = l.rule;
  factor = l.factor;
  at = l.at;
  times = l.times;
  some = l.some;
  most = l.most;
  leaves = λ stay. l.leaves (subst (GuardsStay a) (fun_ext (λ k. (let e = same k in omega (arith, ints)))) stay);
}

guards_stay : (file : File) (run : Run) (line : ℕ) → Fits file run → Compressible file run → GuardsOutOfRangeAt file.automaton run line → ⊥
guards_stay file run line fits able (inl w) =
    let g = able.guards in
    let l = w.1 in
    l.leaves (subst (GuardsStay file.automaton)
    (fun_ext (same_start file run fits (record { replayed = able.replayed; few = able.few }) g.first l.first g.starts l.starts)) g.at_start)
guards_stay file run line fits able (inr w) =
    let g = able.guards in
    let l = w.2 in
    let below = one_last run.lines g.n l.n g.last_mark l.last_mark in
    g.on_the_way w.0 (let b = l.within in omega arith)
    (leaves_same file.automaton l.first g.first run.lines w.0
    (same_start file run fits (record { replayed = able.replayed; few = able.few }) l.first g.first l.starts g.starts) l.leaves)

pub only_memory : (file : File) (run : Run) (fault : CompressFault) → Fits file run → Compressible file run → CompressFaultOf file run fault → fault ≡ Memory
only_memory file run Memory fits able found = refl
only_memory file run (TooManySteps n) fits able found = absurd (let many = found.many in let few = able.few in omega arith)
only_memory file run (Replay fault) fits able (inl r) = absurd (r.not_replayed able.replayed)
only_memory file run (Replay fault) fits able (inr g) = absurd (guards_stay file run g.line fits able g.leaves)
