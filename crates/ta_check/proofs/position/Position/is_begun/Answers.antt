use Rattle.ta_base.proofs.Members.{begun_before}
use Rattle.ta_check.proofs.position.Position.is_begun.Goals as goal

pub returns : goal.returns
returns c = begun_before c.args.pattern c.deref.result.now c.args.self.now.proved.items c.contains.result c.deref.ensures.value c.contains.ensures.value
