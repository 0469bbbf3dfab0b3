use Rattle.ta_search.proofs.Common.{◌≡◌, ◌++◌, length, filled_body, filled_text}
use Rattle.ta_search.proofs.filling.fill.Given as goal

abbrev pub invariant-bytes : goal.invariant-bytes
invariant-bytes l = record { so_far : l.text.items ++ filled_body l.holes l.values l.named l.rest ≡ filled_text l.fn.template l.fn.values }

abbrev pub decreases-bytes : goal.decreases-bytes
decreases-bytes l = length l.rest
