use Rattle.ta_simplex.proofs.Common.{refl}
use Rattle.ta_simplex.proofs.RevisedBranchLemmas.{revised_push}
use Rattle.ta_simplex.proofs.revised_branch.RevisedBranch.stand.Goals as goal

pub returns : goal.returns
returns c =
    let pushed = revised_push c.args.system.now _ c.args.self.now.systems.items _ c.in_ok-push.ensures.items refl c.row_count.ensures c.requires.dictionary
    c.requires.holds
    c.requires.branch.systems in
    c.give_up_first.ensures c.args.system.now.rows (record { systems = pushed; short = c.requires.branch.short })
