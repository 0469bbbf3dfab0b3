use Rattle.ta_words.proofs.Common.{is_ready, Event}
use Rattle.ta_words.proofs.Pushes.{Pushed}
use Rattle.ta_words.proofs.child_list.Children.push_events.Given as goal

abbrev pub invariant-loop-number : goal.invariant-loop-number
invariant-loop-number l = Pushed Event (λ start past. is_ready l.pattern past) l.seen l.fn.self l.self 0 l.number
