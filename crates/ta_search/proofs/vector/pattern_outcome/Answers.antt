use Rattle.std.proofs.Common.{List, ℕ, get_or, ◌≡◌, ◌∙◌, Some, ap, slice_get}
use Rattle.std.proofs.lemmas.Option.{get_or_from_slice_get}
use Rattle.ta_automaton.specs.declared.pattern.Pattern.{Pattern}
use Rattle.ta_report.specs.declared.verdict.Verdict.TheVariants.{Overflow, Spent}
use Rattle.ta_search.specs.declared.outcome.Outcome.TheVariants.{Unknown}
use Rattle.ta_search.proofs.vector.pattern_outcome.Goals as goal

-- the name of the pattern that is read from a list is that of the pattern with its number
name_at : (ps qs : List Pattern) (k : ℕ) (p item : Pattern) → ps ≡ qs → slice_get qs k ≡ Some p → (get_or ps k item).name ≡ p.name
name_at ps qs k p item same is =
    ap (λ (rs : List Pattern). (get_or rs k item).name) same ∙ ap (λ (q : Pattern). q.name) (get_or_from_slice_get qs k p item is)

pub returns-in-Spent : goal.returns-in-Spent
returns-in-Spent c = λ p is.
    let name = name_at c.as_slice.result.now c.args.file.now.patterns c.args.number p c.index-as_slice-number.result c.as_slice.ensures is in
    rw c.in-Spent.is (ap (λ n. Unknown n (Spent c.in-Spent.nodes)) (c.in_ok-name.ensures ∙ name))

pub returns-in-Overflow : goal.returns-in-Overflow
returns-in-Overflow c = λ p is.
    let name = name_at c.as_slice.result.now c.args.file.now.patterns c.args.number p c.index-as_slice-number.result c.as_slice.ensures is in
    rw c.in-Overflow.is (ap (λ n. Unknown n (Overflow c.in-Overflow.node c.in-Overflow.kind)) (c.in_ok-name.ensures ∙ name))
