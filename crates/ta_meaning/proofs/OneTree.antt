-- No text has two trees, and none means two files.
use Rattle.ta_meaning.proofs.Common.{Limits, ◌≡◌, ℕ, List, subst, PlainTree, IsPlaced, tree_stated, IsTextOf, IsTreeOf, plain_tree, Token, Tree, FileFault}
use Rattle.ta_meaning.proofs.Common.{tokens_unique, File, MeansTree, Means, meaning_faults, Legal}
use Rattle.ta_syntax.proofs.NoFault.{no_fault, tree_alone}
use Rattle.ta_meaning.specs.Laws.{SameTree}
use Rattle.ta_meaning.proofs.SameOffsets.{placed-agree}
use Rattle.ta_meaning.proofs.OnePart.{SameParts, tree-once, tree-stated}
use Rattle.ta_meaning.proofs.SameFaults.{meaning-faults}
use Rattle.ta_meaning.proofs.OneFile.{one_file}
use Rattle.ta_syntax.specs.Faults as syntax
use Rattle.ta_syntax.specs.declared.fault.FileFault.TheVariants as fault

text-of : (l : Limits) (bytes : List ℕ) (t : Tree) → IsTreeOf l bytes t → IsTextOf bytes (plain_tree t)
text-of l bytes t is = record { tokens = is.tokens; are = is.are; spelled = is.spelled; legal = is.legal }

-- the tree of a text without offsets is unique
pub one_plain_tree : (l : Limits) (bytes : List ℕ) (t u : Tree) → IsTreeOf l bytes t → IsTreeOf l bytes u → plain_tree t ≡ plain_tree u
one_plain_tree l bytes t u p q = tree_alone l bytes u (plain_tree t) q (text-of l bytes t p)

same-parts : (l : Limits) (bytes : List ℕ) (t u : Tree) → IsTreeOf l bytes t → IsTreeOf l bytes u → SameParts t u
same-parts l bytes t u p q =
    let placed = subst (λ (ts : List Token). IsPlaced (tree_stated u) ts) (tokens_unique bytes q.tokens p.tokens q.are p.are) q.placed in
    tree-once t u (one_plain_tree l bytes t u p q) (placed-agree (tree_stated t) (tree_stated u) p.tokens p.placed placed)

pub one_tree : (l : Limits) (bytes : List ℕ) (t u : Tree) → IsTreeOf l bytes t → IsTreeOf l bytes u → SameTree t u
one_tree l bytes t u p q = record { parts = one_plain_tree l bytes t u p q; offsets = tree-stated t u (same-parts l bytes t u p q) }

-- and so are the errors of what it means
pub one_meaning : (l : Limits) (bytes : List ℕ) (t u : Tree) → IsTreeOf l bytes t → IsTreeOf l bytes u → meaning_faults l t ≡ meaning_faults l u
one_meaning l bytes t u p q = meaning-faults l t u (one_plain_tree l bytes t u p q) (same-parts l bytes t u p q)

-- a text that has a tree has no error of the text
pub no_text_fault : (l : Limits) (bytes : List ℕ) (t : Tree) (e : FileFault) → IsTreeOf l bytes t → syntax.FirstGrammarFault l bytes e → e ≡ fault.Memory
no_text_fault l bytes t e is first = no_fault l bytes (plain_tree t) e (text-of l bytes t is) is.within first

-- ---- one file

pub one_meant : (l : Limits) (bytes : List ℕ) (f g : File) → Means l bytes f → Means l bytes g → f ≡ g
one_meant l bytes f g m n =
    one_file (plain_tree n.tree) f g (subst (λ (t : PlainTree). MeansTree t f) (one_plain_tree l bytes m.tree n.tree m.is_tree n.is_tree) m.means) n.means

pub one_legal : (l : Limits) (bytes : List ℕ) (f g : File) → Legal l bytes f → Legal l bytes g → f ≡ g
one_legal l bytes f g p q = one_meant l bytes f g p.means q.means
