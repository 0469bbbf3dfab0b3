use Rattle.ta_encode.proofs.Common.{◌∙◌, append-nil, subst, AreRowsOf, open_rows}
use Rattle.ta_encode.proofs.opening.encode_start.Goals as goal

pub encoded-requires : goal.encoded-requires
encoded-requires c =
    record { bounds = tt; written = record { lines = open_rows c.args.task.automaton.now c.args.task.pattern.now; are = c.in_ok-draft.ensures.rows_are } }

pub returns-clause-rows : goal.returns-clause-rows
returns-clause-rows c =
    let ls = open_rows c.args.task.automaton.now c.args.task.pattern.now in
    subst (λ ks. AreRowsOf ks c.in_ok-encoded.encoded.system.rows) (append-nil ls) (c.in_ok-encoded.ensures.rows_are ls c.in_ok-draft.ensures.rows_are)

pub returns-clause-meanings : goal.returns-clause-meanings
returns-clause-meanings c = c.in_ok-encoded.ensures.meanings_are ∙ c.in_ok-draft.ensures.unknowns_are
