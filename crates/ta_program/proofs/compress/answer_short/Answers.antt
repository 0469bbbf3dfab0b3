use Rattle.ta_program.proofs.Common.{◌≡◌, ◌∙◌, ℕ, List, [], Option, Ok, File, Run, run_text, Told, Answer, Says, Writes, replies, SaysShort, ShortOf}
use Rattle.ta_program.proofs.Replied.{replied}
use Rattle.ta_program.proofs.compress.answer_short.Goals as goal

short_says : (file : File) (run short : Run) (files : Option Told) (answer : Answer) (text : List ℕ) → ShortOf file run short → Writes 0 text answer
    → text ≡ run_text file short → Says (replies [] (SaysShort file run)) files (Ok answer) []
short_says file run short files answer text is writes same =
    replied (SaysShort file run) files answer text writes
    (record { short = short; is = is; writes = record { numbered = writes.numbered; written = writes.written ∙ same; no_put = writes.no_put } })

pub returns-in-Ok-clause-says : goal.returns-in-Ok-clause-says
returns-in-Ok-clause-says c files =
    short_says c.args.file.now c.args.runs.now.run c.args.runs.now.short files c.writing.result c.from_string-text.result c.requires c.writing.ensures
    (c.from_string-text.ensures ∙ c.into_string.ensures ∙ c.in-Ok.ensures)
