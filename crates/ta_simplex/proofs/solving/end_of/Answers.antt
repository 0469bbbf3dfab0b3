use Rattle.ta_simplex.proofs.Common.{ℕ, Option, length, map, subst, slack_tableau}
use Rattle.ta_simplex.specs.Stops.{RuleStopsAt}
use Rattle.ta_simplex.proofs.FollowLemmas.{follows_reached}
use Rattle.ta_simplex.proofs.RunSteps.{follows_dictionary}
use Rattle.ta_simplex.proofs.VertexLemmas.{values_meet_rows}
use Rattle.ta_simplex.proofs.solving.end_of.Goals as goal

pub multipliers_of-requires-clause-dictionary : goal.multipliers_of-requires-clause-dictionary
multipliers_of-requires-clause-dictionary g c κs within =
    follows_dictionary c.args.system.now (map g.D.Dictionary.pivot_of c.args.kept.now) (length c.args.kept.now)
    (g.D.Dictionary.tableau c.args.stopped.now.dictionary) c.requires.follows

pub vertex_of-requires-after_bounds : goal.vertex_of-requires-after_bounds
vertex_of-requires-after_bounds g c κs within =
    follows_dictionary c.args.system.now (map g.D.Dictionary.pivot_of c.args.kept.now) (length c.args.kept.now)
    (g.D.Dictionary.tableau c.args.stopped.now.dictionary) c.requires.follows

pub returns-in_ok-multipliers_of-in-Some : goal.returns-in_ok-multipliers_of-in-Some
returns-in_ok-multipliers_of-in-Some g c =
    let t = g.D.Dictionary.tableau c.args.stopped.now.dictionary in
    let P : Option ℕ → Type 0 = RuleStopsAt t in
    record {
      steps = length c.args.kept.now;
      tableau = t;
      row = c.in-Some.row;
      reached = follows_reached (slack_tableau c.args.system.now) (map g.D.Dictionary.pivot_of c.args.kept.now) (length c.args.kept.now) t c.requires.follows;
      stuck = subst P c.in-Some.is c.requires.stops;
      multipliers = c.in_ok-multipliers_of-in-Some.ensures;
    }

pub returns-in_ok-vertex_of-in-None : goal.returns-in_ok-vertex_of-in-None
returns-in_ok-vertex_of-in-None g c =
    let t = g.D.Dictionary.tableau c.args.stopped.now.dictionary in
    let s = c.args.system.now in
    let P : Option ℕ → Type 0 = RuleStopsAt t in
    let ended = subst P c.in-None.is c.requires.stops in
    let gives = c.in_ok-vertex_of-in-None.ensures in
    let d = follows_dictionary s (map g.D.Dictionary.pivot_of c.args.kept.now) (length c.args.kept.now) t c.requires.follows in
    record {
      steps = length c.args.kept.now;
      tableau = t;
      reached = follows_reached (slack_tableau s) (map g.D.Dictionary.pivot_of c.args.kept.now) (length c.args.kept.now) t c.requires.follows;
      ended = ended;
      gives = gives;
      meet = values_meet_rows s t c.in_ok-vertex_of-in-None.field-0 d ended gives;
    }
