use Rattle.ta_links.proofs.Common.{length, ◌-◌, MatchOption, EntersBelow, NoneEntersBelow, along_rows, spot, MayBeOn, Rows}
use Rattle.ta_links.proofs.linked.LinkedDictionaryDictionary.entering.Given as goal

abbrev pub invariant-chain : goal.invariant-chain
invariant-chain l = record {
  may : MayBeOn Rows l.self.cells l.row l.before;
  least : let k = spot along_rows l.self.cells l.before in MatchOption l.least (NoneEntersBelow l.self.tableau l.row k) (EntersBelow l.self.tableau l.row k);
}

abbrev pub decreases-chain : goal.decreases-chain
decreases-chain l = length l.self.column_heads - spot along_rows l.self.cells l.before
