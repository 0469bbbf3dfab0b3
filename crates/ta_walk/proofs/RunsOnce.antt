-- a whole node has one run
use Rattle.ta_walk.proofs.Common.{node_of, MomentRunOf}
use Rattle.ta_moments.proofs.Common.{◌≡◌, ℕ, List, [], ◌∷◌, map, pos, ap, ◌∙◌, refl, sym, subst}
use Rattle.ta_witness.proofs.MomentOnce.{one_run}
use Rattle.ta_walk.specs.Laws.{FoundNodesHaveOneRun}

-- naturals are told by their numbers
pub naturals_once : (vs ws : List ℕ) → map pos vs ≡ map pos ws → vs ≡ ws
naturals_once [] [] e = refl
naturals_once [] (w ∷ ws) e = absurd (cc)
naturals_once (v ∷ vs) [] e = absurd (cc)
naturals_once (v ∷ vs) (w ∷ ws) e =
    let first : v ≡ w = cc in
    let rest : map pos vs ≡ map pos ws = cc in
    ap (λ n. n ∷ vs) first ∙ ap (λ (ns : List ℕ). w ∷ ns) (naturals_once vs ws rest)

pub runs_once : FoundNodesHaveOneRun
runs_once file number asking found r s one other =
    let same = naturals_once one.values other.values (sym one.are ∙ other.are) in
    let node = node_of found.pending in
    one_run file number asking node other.values r s (subst (λ (vs : List ℕ). MomentRunOf file number asking node vs r) same one.is) other.is
