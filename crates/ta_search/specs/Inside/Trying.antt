-- What the parts of a search answer.
use Rattle.std.specs.Prelude.{ℕ, ◌+◌, ◌/◌, ◌%◌, ◌≡◌, List, [], ◌∷◌}
use Rattle.ta_automaton.specs.declared.file.File.{File}
use Rattle.ta_automaton.specs.declared.pattern.Pattern.{Pattern}
use Rattle.ta_replay.specs.RunText.{run_text}
use Rattle.ta_report.specs.declared.verdict.Verdict.{Verdict}
use Rattle.ta_report.specs.declared.verdict.Verdict.TheVariants.{Safe, Unsafe, Spent, Overflow}
use Rattle.ta_search.specs.declared.outcome.Outcome.{Outcome}
use Rattle.ta_search.specs.declared.outcome.Outcome.TheVariants as outcome
use Rattle.ta_search.specs.declared.template.Hole.{Hole}
use Rattle.ta_search.specs.Holes.{vector_count}

-- the vector with this number
abbrev pub vector_at : List Hole → ℕ → List ℕ
vector_at [] place = []
vector_at (h ∷ hs) place = (h.low + place / vector_count hs) ∷ vector_at hs (place % vector_count hs)

-- the outcome of a file by the verdict on a pattern, the first that is not Safe
abbrev pub IsOfPattern : File → Pattern → Verdict → Outcome → Type 0
IsOfPattern file p (Unsafe nodes run) o = o ≡ outcome.Unsafe p.name (run_text file run)
IsOfPattern file p (Spent nodes) o = o ≡ outcome.Unknown p.name (Spent nodes)
IsOfPattern file p (Overflow node kind) o = o ≡ outcome.Unknown p.name (Overflow node kind)
IsOfPattern file p (Safe nodes leaves) o = ⊥
