use Rattle.ta_program.proofs.Common.{◌≡◌, ◌∙◌, ℕ, Bool, List, [], Option, Ok, Some, ap, refl, slice_get, get_or_from_slice_get, File, Pattern, Run, shown_of}
use Rattle.ta_program.proofs.Common.{Told, Answer, Says, Writes, replies, SaysShown}
use Rattle.ta_report.specs.CheckJson.{shown_text}
use Rattle.ta_program.proofs.Replied.{replied}
use Rattle.ta_program.proofs.replay.answer_shown.Goals as goal

shown_says : (file : File) (json : Bool) (run : Run) (files : Option Told) (answer : Answer) (pattern : Pattern) (text : List ℕ)
    → slice_get file.patterns run.pattern ≡ Some pattern → Writes 0 text answer
    → text ≡ shown_text json file.automaton.name pattern.name (shown_of run) → Says (replies [] (SaysShown file json run)) files (Ok answer) []
shown_says file json run files answer pattern text named writes is =
    replied (SaysShown file json run) files answer text writes
    (record { pattern = pattern; named = named; writes = record { numbered = writes.numbered; written = writes.written ∙ is; no_put = writes.no_put } })

pub returns-in-Ok-clause-says : goal.returns-in-Ok-clause-says
returns-in-Ok-clause-says c files =
    let fits = c.requires.fits in
    let file = c.args.file.now in
    let run = c.args.shown.now.run in
    let json = c.args.json in
    let same : c.index-as_slice-shown.result ≡ fits.pattern = c.index-as_slice-shown.is
    ∙ rw c.as_slice.ensures (get_or_from_slice_get file.patterns run.pattern fits.pattern c.index-as_slice-shown.result fits.named) in
    let name : c.as_str.result.now ≡ fits.pattern.name = c.as_str.ensures ∙ ap (λ (p : Pattern). p.name) same in
    let line : c.in-Ok.text ≡ shown_text json file.automaton.name fits.pattern.name (shown_of run) = c.in-Ok.ensures
    ∙ rw (c.as_str-automaton.ensures, name, c.requires.shown) refl in
    shown_says file json run files c.writing.result fits.pattern c.in-Ok.text fits.named c.writing.ensures line
