use Rattle.ta_check.proofs.Common.{Claim, asking_for, subst, sym}
use Rattle.std.specs.Prelude.{◌↔◌}
use Rattle.ta_moment_tree.specs.Kept.{IsKept}
use Rattle.ta_moment_tree.specs.Trees.{IsKeptFor}
use Rattle.ta_check.proofs.proving.moment_tree.Goals as goal

pub returns-in-Safe-clause-kept : goal.returns-in-Safe-clause-kept
returns-in-Safe-clause-kept c = λ p named kept. subst
    (λ (claim : Claim). IsKeptFor c.new.result kept ↔ IsKept c.args.file.now.automaton p (asking_for claim c.args.silent.now).silent kept) (sym c.in-Safe.is)
    (c.new.ensures.kept p named kept)

pub returns-in-RestSafe-clause-kept : goal.returns-in-RestSafe-clause-kept
returns-in-RestSafe-clause-kept c = λ p named kept. subst
    (λ (claim : Claim). IsKeptFor c.new-in-RestSafe.result kept ↔ IsKept c.args.file.now.automaton p (asking_for claim c.args.silent.now).silent kept)
    (sym c.in-RestSafe.is) (c.new-in-RestSafe.ensures.kept p named kept)
