use Rattle.ta_encode.proofs.Common.{◌≡◌, List, length, arith, sym, ap, ◌∙◌, subst, AreWritten, BoundsWithin, sample_meanings, sample_rows, Meaning}
use Rattle.ta_encode.proofs.Samples.{sample_few, sample_written}
use Rattle.ta_encode.proofs.Smallness.{resilience_small}
use Rattle.ta_encode.proofs.sample.encode_sample.Goals.{In_ok-push_processes}
use Rattle.ta_encode.proofs.sample.encode_sample.Goals as goal

written : (c : In_ok-push_processes) → (c.push_processes.new.self.meanings.items ≡ sample_meanings c.args.file.now.automaton)
    × AreWritten (sample_rows c.args.file.now.automaton) (length c.push_processes.new.self.meanings.items) c.push_processes.new.self.rows.items
written c = sample_written c.args.file.now.automaton c.of-draft.ensures.automaton (c.of-draft.ensures.meanings ∙ c.in_ok-meanings.ensures)
    c.of-draft.ensures.rows c.in_ok-push_condition.ensures c.in_ok-push_processes.ensures

pub of-draft-requires : goal.of-draft-requires
of-draft-requires c =
    let same = ap (λ (ms : List Meaning). length ms) c.in_ok-meanings.ensures in
    let few = sample_few c.args.file.now.automaton in
    record { few = omega arith }

pub push_condition-requires : goal.push_condition-requires
push_condition-requires c = record { small = resilience_small c.args.file.now.automaton }

pub encoded-requires : goal.encoded-requires
encoded-requires c =
    let rows = written c in
    record {
      bounds = subst (λ n. BoundsWithin n c.args.bounds.now) (sym (ap (λ (ms : List Meaning). length ms) rows.0)) c.requires;
      written = record { lines = sample_rows c.args.file.now.automaton; are = rows.1 };
    }

pub returns-clause-system : goal.returns-clause-system
returns-clause-system c =
    let rows = written (goal.at.returns-clause-system c).In_ok-push_processes in
    let told = c.in_ok-encoded.ensures in
    record { unknowns = told.count ∙ ap (λ (ms : List Meaning). length ms) rows.0; rows = told.rows_are (sample_rows c.args.file.now.automaton) rows.1 }

pub returns-clause-meanings : goal.returns-clause-meanings
returns-clause-meanings c = c.in_ok-encoded.ensures.meanings_are ∙ (written (goal.at.returns-clause-meanings c).In_ok-push_processes).0
