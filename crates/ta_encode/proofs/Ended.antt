-- rows of a word's end
use Rattle.ta_encode.proofs.Common.{◌≡◌, List, ◌++◌, length, Option, Element, meanings, word_rows, ended_rows, Adds, IsDraft, AreWritten, Draft, Origin}
use Rattle.ta_encode.specs.declared.ending.WordEnd.{WordEnd}
use Rattle.ta_encode.proofs.Adding.{adds_behind}
pub use Rattle.ta_encode.proofs.Adding.{guards_same}

-- rows of a word's end behind a word's
pub with_end : (o : Origin) (past : List Element) (end : Option WordEnd) {draft ended : Draft} → IsDraft o past draft
    → Adds (λ a ms. ended_rows a ms end) draft ended
    → (ended.meanings.items ≡ meanings o.task.automaton.now o.task.pattern.now o.start_mask past)
    × AreWritten (word_rows o.task.automaton.now o.task.pattern.now o.start_mask past
    ++ ended_rows o.task.automaton.now (meanings o.task.automaton.now o.task.pattern.now o.start_mask past) end) (length ended.meanings.items)
    ended.rows.items
with_end o past end d added =
    let a = o.task.automaton.now in
    adds_behind a (meanings a o.task.pattern.now o.start_mask past) (word_rows a o.task.pattern.now o.start_mask past) d.automaton_is d.is.unknowns_are
    d.is.rows_are added
