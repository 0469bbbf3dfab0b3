-- what a command of one file says grows with what is seen, and known files leave one number
use Rattle.ta_base.specs.declared.limits.Limits.{Limits}
use Rattle.ta_program.specs.Values.{limits_of}
use Rattle.ta_program.proofs.Common.{◌∙◌, List, ℕ, [], Some, sym, Decides, File, Passes, in_files, replies_monotone, replies_one, SaysText, one_file_meaning}
use Rattle.ta_program.proofs.Common.{printing}
use Rattle.ta_program.specs.OneFile.{OneFileWords}
use Rattle.ta_program.proofs.Meanings.{file_decides, file_passes}

pub one_file_decides : (text : Limits → File → List ℕ → Type 0) (asked : OneFileWords) → Decides (one_file_meaning text asked)
one_file_decides text asked =
    let such = text (limits_of asked.wide) in
    file_decides (limits_of asked.wide) asked.file [] (λ file. printing (such file)) (λ file. replies_monotone [] (SaysText (such file))) (λ file told.
    replies_one [] (SaysText (such file)) (SaysText (such file)) (in_files told) (λ a b x y. x.writes.numbered ∙ sym y.writes.numbered))

pub one_file_passes : (text : Limits → File → List ℕ → Type 0) (asked : OneFileWords)
    → Passes (Some (asked.file, limits_of asked.wide)) (one_file_meaning text asked)
one_file_passes text asked =
    let such = text (limits_of asked.wide) in
    file_passes (limits_of asked.wide) asked.file [] (λ file. printing (such file)) (λ file. replies_monotone [] (SaysText (such file)))
    (λ file told line none. none)
