use Rattle.ta_rest.proofs.Common.{ℕ, List, IsBitSet, ap, subst, sym, ◌∙◌, ◌↔◌, Pattern, LoopsAlone, Endings, File}
use Rattle.ta_rest.proofs.EndingShapes.{endings_last, endings_shape}
use Rattle.ta_rest.proofs.PatternMasks.{Eventless}
use Rattle.ta_rest.proofs.scoping.with_endings.Goals as goal

pub invariant_of-ending : goal.invariant_of-ending
invariant_of-ending c =
    let ends = subst (λ (ps : List Pattern). Endings ps c.from_vec.result) c.into_vec.ensures
    (subst (Endings c.into_vec.result.items) (sym c.from_vec.ensures) c.in_ok-endings.ensures) in
    record { shape = endings_shape _ _ c.into_file-file.result.patterns c.from_vec.result ends c.into_file-file.result.shape }

pub invariant_of-result : goal.invariant_of-result
invariant_of-result c =
    let ends = subst (λ (ps : List Pattern). Endings ps c.from_vec.result) c.into_vec.ensures
    (subst (Endings c.into_vec.result.items) (sym c.from_vec.ensures) c.in_ok-endings.ensures) in
    record {
      loops_alone = subst (λ (f : File). LoopsAlone f.automaton) (sym c.into_file-file.ensures) c.requires;
      come_last = endings_last c.into_file-file.result.patterns c.from_vec.result ends;
    }

pub returns : goal.returns
returns c =
    let ends = subst (λ (ps : List Pattern). Endings ps c.from_vec.result) c.into_vec.ensures
    (subst (Endings c.into_vec.result.items) (sym c.from_vec.ensures) c.in_ok-endings.ensures) in
    record {
      automaton = ap (λ (f : File). f.automaton) c.into_file-file.ensures;
      patterns = subst (λ (f : File). Endings f.patterns c.from_vec.result) c.into_file-file.ensures ends;
      added = subst (λ (ps : List Pattern). (k : ℕ) → IsBitSet c.without_events-added.result k ↔ Eventless ps k)
          (c.as_slice.ensures ∙ ap (λ (f : File). f.patterns) c.file.ensures) c.without_events-added.ensures;
    }
