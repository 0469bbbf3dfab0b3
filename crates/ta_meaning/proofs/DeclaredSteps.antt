-- Declaring names one after another: what is done and what is left.
use Rattle.ta_meaning.proofs.Common.{◌≡◌, ℕ, List, [], ◌∷◌, ◌++◌, map, refl, sym, ap, ◌∙◌, append_assoc, append-nil, plain_name, Spelled, FileFault}
use Rattle.ta_meaning.proofs.Common.{FirstOrMemory, declared_faults, declarations_faults, empty_before}
use Rattle.ta_meaning.proofs.Answering.{append-left-first}

-- names are declared after others, and the rest of them is left
pub record DeclaredTo (before : List (List ℕ)) (all : List Spelled) (names : List (List ℕ)) (rest : List Spelled) : Type 0 where
  pub faults : declarations_faults before all ≡ declarations_faults names rest
  pub names_are : before ++ map plain_name all ≡ names ++ map plain_name rest

pub declaring_begins : (before : List (List ℕ)) (all : List Spelled) → DeclaredTo before all before all
declaring_begins before all = record { faults = refl; names_are = refl }

pub declaring_goes_on : (before : List (List ℕ)) (all : List Spelled) (names : List (List ℕ)) (n : Spelled) (rest : List Spelled) (more : List (List ℕ))
    → DeclaredTo before all names (n ∷ rest) → declared_faults names n ≡ [] → more ≡ names ++ n.name ∷ [] → DeclaredTo before all more rest
declaring_goes_on before all names n rest more to none is = record {
  faults = to.faults ∙ empty_before (declared_faults names n) _ none ∙ ap (λ z. declarations_faults z rest) (sym is);
  names_are = to.names_are ∙ sym (append_assoc names (n.name ∷ []) (map plain_name rest)) ∙ ap (λ z. z ++ map plain_name rest) (sym is);
}

pub declaring_stops : (before : List (List ℕ)) (all : List Spelled) (names : List (List ℕ)) (n : Spelled) (rest : List Spelled) (e : FileFault)
    → DeclaredTo before all names (n ∷ rest) → FirstOrMemory (declared_faults names n) e → FirstOrMemory (declarations_faults before all) e
declaring_stops before all names n rest e to first = rw to.faults (append-left-first (declared_faults names n) _ e first)

pub declaring_ends : (before : List (List ℕ)) (all : List Spelled) (names : List (List ℕ)) → DeclaredTo before all names []
    → (declarations_faults before all ≡ []) × (names ≡ before ++ map plain_name all)
declaring_ends before all names to = (to.faults, sym (to.names_are ∙ append-nil names))
