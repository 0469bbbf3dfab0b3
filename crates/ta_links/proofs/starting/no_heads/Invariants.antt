use Rattle.ta_links.proofs.Common.{◌≡◌, ℕ, length, None, head_at}
use Rattle.ta_links.proofs.starting.no_heads.Given as goal

abbrev pub invariant-loop-line : goal.invariant-loop-line
invariant-loop-line l = record {
  empty : (line : ℕ) → head_at l.heads.items line ≡ None;
  long : length l.heads.items ≡ l._line;
}
