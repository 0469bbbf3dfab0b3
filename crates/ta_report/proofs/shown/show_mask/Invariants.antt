use Rattle.ta_report.proofs.Common.{◌≡◌, ◌++◌, each, mask_number, mask_text}
use Rattle.std.proofs.Common.{string_bytes}
use Rattle.ta_report.proofs.Showing.{left_of}
use Rattle.ta_report.proofs.shown.show_mask.Given as goal

abbrev pub invariant-loop-number : goal.invariant-loop-number
invariant-loop-number l = string_bytes l.text ++ each mask_number (left_of l.mask l.number-counter) ≡ string_bytes l.initial.text ++ mask_text l.mask
