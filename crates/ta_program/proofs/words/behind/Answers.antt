use Rattle.ta_program.proofs.Common.{List, ℕ, Some, sym, ap, ◌∙◌, drop, behind}
use Rattle.ta_program.proofs.Prefixes.{behind_none, behind_prefix}
use Rattle.ta_program.proofs.words.behind.Goals as goal

pub returns-in-Some : goal.returns-in-Some
returns-in-Some c =
    let strips = c.in-Some.ensures.cases in
    let text = c.args.text.now in
    sym (ap (behind text) strips.1.1 ∙ (behind_prefix text (drop strips.0 c.args.word.now) ∙ ap (λ (xs : List ℕ). Some xs) (sym strips.2)))

pub returns-in-None : goal.returns-in-None
returns-in-None c = sym (behind_none c.args.text.now c.args.word.now c.in-None.ensures.cases)
