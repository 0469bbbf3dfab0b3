use Rattle.ta_compress.proofs.Counted.{Going}
use Rattle.ta_compress.proofs.draft.Draft.repeat.Given as goal

-- so many firings are done
abbrev pub invariant-loop : goal.invariant-loop
invariant-loop l = Going l.scoped.file.automaton l.rule l.factor l.counter l.initial.self l.self
