use Rattle.ta_words.proofs.Common.{may_rise, Rise}
use Rattle.ta_words.proofs.Pushes.{Pushed}
use Rattle.ta_words.proofs.child_list.Children.push_rises.Given as goal

abbrev pub invariant-loop-rise : goal.invariant-loop-rise
invariant-loop-rise l = Pushed Rise (λ start past. may_rise l.orders past) l.seen l.fn.self l.self 0 l.rise
