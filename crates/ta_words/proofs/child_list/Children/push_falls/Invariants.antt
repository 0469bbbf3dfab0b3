use Rattle.ta_words.proofs.Common.{◌-◌, is_standing, Fall}
use Rattle.ta_words.proofs.Pushes.{Pushed}
use Rattle.ta_words.proofs.child_list.Children.push_falls.Given as goal

abbrev pub invariant-loop-falls : goal.invariant-loop-falls
invariant-loop-falls l = Pushed Fall (is_standing l.automaton) l.seen l.fn.self l.self 1 (l.falls - 1)
