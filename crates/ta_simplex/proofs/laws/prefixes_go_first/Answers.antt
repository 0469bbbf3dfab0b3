use Rattle.ta_simplex.proofs.Common.{refl, slack_tableau, extended, length}
use Rattle.ta_simplex.proofs.FollowLemmas.{follows_reached, pivots_listed}
use Rattle.ta_simplex.proofs.Prefixes.{follows_extended, overflow_extended}
use Rattle.ta_simplex.proofs.laws.prefixes_go_first.Goals as goal

pub returns : goal.returns
returns c = record {
  listed = pivots_listed;
  first = λ s l ks t b f stay. (let g = follows_extended s l b ks t f stay in (g, follows_reached (slack_tableau l) ks (length ks) (extended t ks l) g));
  leaves = λ s l ks t b f pivot row first. overflow_extended s l b ks t f pivot row _ first refl;
}
