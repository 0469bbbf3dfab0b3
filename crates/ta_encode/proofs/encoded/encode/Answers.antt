use Rattle.ta_encode.proofs.Common.{List, length, reverse, sym, ap, ◌∙◌, subst, Element, BoundsWithin, IsDraftOf, word_rows}
use Rattle.ta_encode.proofs.Drafts.{word_few}
use Rattle.ta_encode.proofs.encoded.encode.Goals.{In_ok-push_elements}
use Rattle.ta_encode.proofs.encoded.encode.Goals as goal

-- the unknowns and rows are those of the word
drafted : (c : In_ok-push_elements) → IsDraftOf c.args.task.automaton.now c.args.task.pattern.now c.args.start_mask (reverse c.args.word.now)
    c.push_elements.new.self.meanings.items c.push_elements.new.self.rows.items
drafted c =
    let draft = c.push_elements.new.self in
    subst (λ (w : List Element). IsDraftOf c.args.task.automaton.now c.args.task.pattern.now c.args.start_mask (reverse w) draft.meanings.items
    draft.rows.items) c.elements.ensures c.in_ok-push_elements.ensures.is

pub push_elements-requires-clause-few : goal.push_elements-requires-clause-few
push_elements-requires-clause-few c = word_few c.args.task c.args.start_mask c.elements.result.now c.args.word.now c.requires.legal c.elements.ensures

pub encoded-requires : goal.encoded-requires
encoded-requires c =
    let d = drafted c in
    record {
      bounds = subst (λ n. BoundsWithin n c.args.bounds.now) (sym (ap length d.unknowns_are)) c.requires.bounds;
      written = record { lines = word_rows c.args.task.automaton.now c.args.task.pattern.now c.args.start_mask (reverse c.args.word.now); are = d.rows_are };
    }

pub returns-clause-system : goal.returns-clause-system
returns-clause-system c =
    let d = drafted (goal.at.returns-clause-system c).In_ok-push_elements in
    let told = c.in_ok-encoded.ensures in
    record {
      unknowns = told.count ∙ ap length d.unknowns_are;
      rows = told.rows_are
          (word_rows c.args.task.automaton.now c.args.task.pattern.now c.args.start_mask (reverse c.args.word.now)) d.rows_are;
    }

pub returns-clause-meanings : goal.returns-clause-meanings
returns-clause-meanings c = c.in_ok-encoded.ensures.meanings_are ∙ (drafted (goal.at.returns-clause-meanings c).In_ok-push_elements).unknowns_are
