use Rattle.ta_report.proofs.Common.{◌≡◌, map, view}
use Rattle.serde_json.specs.Data as json
use Rattle.ta_report.proofs.object.lines_value.Given as goal

-- the lines so far
abbrev pub invariant-loop-line : goal.invariant-loop-line
invariant-loop-line l = map view l.items.items ≡ map (λ y. json.string y.now) l.yielded
