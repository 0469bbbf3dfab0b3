use Rattle.ta_encode.proofs.Common.{◌≡◌, ◌+◌, ◌≤◌, length, reverse, take, IsDraft, IsBehind, AreMarks}
use Rattle.ta_encode.proofs.growing.push_from.Given as goal

abbrev pub invariant-loop-number : goal.invariant-loop-number
invariant-loop-number l = record {
  marked : length l.marks.items ≡ l.number + 1;
  within : l.number ≤ length l.elements;
  marks : AreMarks l.origin.task.automaton.now l.origin.task.pattern.now l.origin.start_mask l.elements l.draft.meanings.items l.draft.rows.items l.marks.items;
  drafted : IsDraft l.origin (reverse (take l.number l.elements)) l.draft;
  rows : IsBehind l.initial.draft.rows.items l.draft.rows.items;
}
