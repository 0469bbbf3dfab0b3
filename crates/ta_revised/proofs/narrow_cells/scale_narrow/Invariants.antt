use Rattle.ta_revised.proofs.Common.{◌≡◌, ℕ, ◌<◌, ◌≤◌, get_or, ◌*ℤ◌, pos}
use Rattle.ta_revised.proofs.narrow_cells.scale_narrow.Given as goal

abbrev pub invariant-loop-j : goal.invariant-loop-j
invariant-loop-j l = record {
  done : (k : ℕ) → k < l.j → get_or l.cells k (pos 0) ≡ l.p *ℤ get_or l.initial.cells k (pos 0);
  rest : (k : ℕ) → l.j ≤ k → get_or l.cells k (pos 0) ≡ get_or l.initial.cells k (pos 0);
}
