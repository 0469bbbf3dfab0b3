use Rattle.std.proofs.Common.{◌≡◌, ◌+◌, length, take}
use Rattle.ta_program.proofs.certified.are_within.Given as goal
use Rattle.std.specs.List.{concat}

abbrev pub invariant-loop-text : goal.invariant-loop-text
invariant-loop-text l = length (concat (take l.text-index l.texts)) + l.left ≡ l.limit
