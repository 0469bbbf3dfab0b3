use Rattle.ta_shelf.proofs.Common.{holds_read}
use Rattle.ta_shelf.proofs.ShellCommon.{may_put, option_map}
use Rattle.ta_shelf.proofs.Compared.{compares_both}
use Rattle.ta_shelf.proofs.sparing.spare_each.Goals as goal

pub returns-in-Ok-clause-spares : goal.returns-in-Ok-clause-spares
returns-in-Ok-clause-spares g c =
    compares_both (g.S.Shelf.files c.args.shelf.now) _ (may_put (option_map (λ w. w.now) c.args.outputs.now.first))
    (may_put (option_map (λ w. w.now) c.args.outputs.now.second)) c.args.read.now holds_read c.spare_given.result _ _ _ c.in-Ok.ensures.kept
    c.in-Ok.ensures.spares c.spare_given.ensures.spares
