use Rattle.std.proofs.Common.{length}
use Rattle.ta_program.proofs.words.Taken.+with_word.Given as goal

abbrev pub decreases-with_word : goal.decreases-with_word
decreases-with_word l = length l.options.now
