-- what an answer of one text says, where no file is put
use Rattle.ta_program.proofs.Common.{◌≤◌, ℕ, List, [], Option, Ok, arith, refl, Told, Answer, Says, Writes, replies}

pub replied : (Such : Answer → Type 0) (files : Option Told) (answer : Answer) (text : List ℕ) → Writes 0 text answer → Such answer
    → Says (replies [] Such) files (Ok answer) []
replied Such files answer text writes such =
    let zero = writes.numbered in
    let low : answer.number ≤ 2 = omega arith in
    record { opened = refl; judges = record { low = low; holds = such; within = rw writes.no_put tt } }
