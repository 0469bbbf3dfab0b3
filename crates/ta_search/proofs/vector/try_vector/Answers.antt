use Rattle.ta_search.proofs.Common.{◌≡◌, ◌++◌, [], refl, vector_at}
use Rattle.ta_search.proofs.VectorsNumbered.{vector_length}
use Rattle.ta_search.proofs.vector.try_vector.Goals as goal

pub fill-requires : goal.fill-requires
fill-requires g c =
    let vector = vector_at c.args.template.now.holes c.args.place in
    let size = vector_length c.args.template.now.holes c.args.place in
    let nothing : [] ++ vector ≡ vector = refl in
    let made = c.in_ok-push_vector.ensures in
    let whole = c.as_slice-2.ensures.value in
    let none = c.new-values.ensures.items in
    let holes = c.as_slice.ensures in
    cc
