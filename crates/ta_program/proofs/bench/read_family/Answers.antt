use Rattle.ta_program.proofs.Common.{◌∙◌, List, ℕ, family_text, subst}
use Rattle.ta_base.specs.LimitRows.{narrow}
use Rattle.ta_meaning.specs.Reading.{Legal}
use Rattle.ta_program.proofs.Benching.{family_fits, read_memory}
use Rattle.ta_program.proofs.bench.read_family.Goals as goal

pub read_file-requires : goal.read_file-requires
read_file-requires c =
    family_fits c.args.k c.as_bytes.result.now (c.family_is_flawless.ensures c.args.k c.requires)
    (c.as_bytes.ensures.value ∙ c.as_str.ensures ∙ c.in_ok-text.ensures)

pub file_memory-requires : goal.file_memory-requires
file_memory-requires c =
    read_memory c.args.k c.as_bytes.result.now c.in-Err.fault (c.family_is_flawless.ensures c.args.k c.requires)
    (c.as_bytes.ensures.value ∙ c.as_str.ensures ∙ c.in_ok-text.ensures) (rw c.narrow.ensures at c.in-Err.ensures.reads)

pub returns-in-Ok-clause-legal : goal.returns-in-Ok-clause-legal
returns-in-Ok-clause-legal c =
    subst (λ (bytes : List ℕ). Legal narrow bytes c.in-Ok.scoped.file) (c.as_bytes.ensures.value ∙ c.as_str.ensures ∙ c.in_ok-text.ensures)
    (rw c.narrow.ensures at c.in-Ok.ensures.reads)

pub returns-in-Ok-clause-one : goal.returns-in-Ok-clause-one
unfolding family_text
returns-in-Ok-clause-one c = (c.family_is_flawless.ensures c.args.k c.requires).one c.in-Ok.scoped.file (returns-in-Ok-clause-legal c).means

pub returns-in-Ok-clause-safe : goal.returns-in-Ok-clause-safe
unfolding family_text
returns-in-Ok-clause-safe c = (c.family_is_flawless.ensures c.args.k c.requires).safe c.in-Ok.scoped.file (returns-in-Ok-clause-legal c).means
