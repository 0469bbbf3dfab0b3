-- bytes mean one file, within whatever limits they are read
use Rattle.ta_base.specs.declared.limits.Limits.{Limits}
use Rattle.ta_program.proofs.Common.{◌≡◌, ℕ, List, File, plain_tree, subst}
use Rattle.ta_meaning.proofs.OneTree.{one_meant}
use Rattle.ta_meaning.specs.Meaning.{MeansTree}
use Rattle.ta_meaning.specs.Reading.{Legal}
use Rattle.ta_syntax.proofs.NoFault.{tree_alone}
use Rattle.ta_syntax.specs.Grammar.{PlainTree}

pub one_legal_file : (l k : Limits) (bytes : List ℕ) (f g : File) → Legal l bytes f → Legal k bytes g → f ≡ g
one_legal_file l k bytes f g p q =
    let mine = p.means in
    let yours = q.means in
    let is = mine.is_tree in
    let same = tree_alone k bytes yours.tree (plain_tree mine.tree) yours.is_tree
    (record { tokens = is.tokens; are = is.are; spelled = is.spelled; legal = is.legal }) in
    one_meant k bytes f g
    (record { tree = yours.tree; is_tree = yours.is_tree; means = subst (λ (t : PlainTree). MeansTree t f) same mine.means }) yours
