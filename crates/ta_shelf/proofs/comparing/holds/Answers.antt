use Rattle.ta_shelf.proofs.Common.{◌∷◌, [], refl, inl, inr}
use Rattle.ta_shelf.specs.Compare.{asks_nothing}
use Rattle.ta_shelf.proofs.comparing.holds.Goals as goal

pub returns-else-keeps_bytes-clause-log : goal.returns-else-keeps_bytes-clause-log
returns-else-keeps_bytes-clause-log g c = record {
  added = asks_nothing c.args.name.now ∷ [];
  grown = c.if-keeps_bytes.ensures.log;
  such = inl (inr refl);
}
