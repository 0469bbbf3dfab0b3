use Rattle.ta_verdict.proofs.Common.{◌∙◌, [], ◌∷◌, ◌++◌, ap, string_bytes}
use Rattle.ta_base.proofs.Lists.{concat_ended, concat_begun}
use Rattle.ta_verdict.proofs.pieces.Pieces.close.Goals as goal

pub returns-clause-closed : goal.returns-clause-closed
returns-clause-closed c =
    concat_ended c.args.self.now.whole.items c.push.new.self.items (string_bytes c.args.self.now.open)
    (c.in_ok-push.ensures.items ∙ ap (λ t. c.args.self.now.whole.items ++ t ∷ []) (c.from_string.ensures ∙ ap string_bytes c.replace-piece.ensures.value))

pub returns-clause-text : goal.returns-clause-text
returns-clause-text c = concat_begun c.push.new.self.items _ (string_bytes c.replace-piece.new.dest) (returns-clause-closed c)
    (ap string_bytes c.replace-piece.ensures.after ∙ c.new.ensures.bytes)
