-- The names of a tree, declared part by part.
use Rattle.ta_meaning.proofs.Common.{◌≡◌, ℕ, ◌+◌, not, List, [], ◌++◌, length, map, take, drop, sym, ap, subst, ◌∙◌, length-append, length-map, cut_in_three}
use Rattle.ta_meaning.proofs.Common.{plain_name, plain_location, Spelled, TreeLocation, Tree, FileFault, Names, guard_names, all_names, location_name, names_of}
use Rattle.ta_meaning.proofs.Common.{where_, is_long, declarations_faults, location_spelled, any_initial, names_faults, FirstOrMemory, empty_both}
use Rattle.ta_meaning.proofs.Answering.{append-left-first, append-right-first}
use Rattle.ta_meaning.proofs.Declared.{location_names}
use Rattle.ta_syntax.specs.declared.fault.FileFault.TheVariants as fault

-- the names so far
abbrev pub AfterParameters : Tree → List (List ℕ) → Type 0
AfterParameters t names = names ≡ (names_of t).parameters

abbrev pub AfterShared : Tree → List (List ℕ) → Type 0
AfterShared t names = names ≡ guard_names (names_of t)

-- the stages before have no error
abbrev pub NameFits : Tree → Type 0
NameFits t = where_ (is_long t.name) (fault.TooLarge t.name.at) ≡ []

pub record ParametersFit (t : Tree) : Type 0 where
  pub name : NameFits t
  pub parameters : declarations_faults [] t.parameters ≡ []

pub record SharedFit (t : Tree) : Type 0 where
  pub before : ParametersFit t
  pub shared : declarations_faults (names_of t).parameters t.shared ≡ []

pub record InitialFits (t : Tree) : Type 0 where
  pub before : SharedFit t
  pub initial : where_ (not (any_initial t.locations)) (fault.NoInitial t.locations_at) ≡ []

-- ---- the names
along_none : (start names : List (List ℕ)) (ps qs : List Spelled) → start ≡ names → ps ≡ qs → declarations_faults start ps ≡ []
    → declarations_faults names qs ≡ []
along_none start names ps qs s p none = subst (λ (z : List (List ℕ)). declarations_faults z qs ≡ []) s
    (subst (λ (z : List Spelled). declarations_faults start z ≡ []) p none)

along_first : (start names : List (List ℕ)) (ps qs : List Spelled) (e : FileFault) → start ≡ names → ps ≡ qs → FirstOrMemory (declarations_faults start ps) e
    → FirstOrMemory (declarations_faults names qs) e
along_first start names ps qs e s p first = subst (λ (z : List (List ℕ)). FirstOrMemory (declarations_faults z qs) e) s
    (subst (λ (z : List Spelled). FirstOrMemory (declarations_faults start z) e) p first)

pub after_parameters : (t : Tree) (start names : List (List ℕ)) (ps : List Spelled) → start ≡ [] → ps ≡ t.parameters → names ≡ start ++ map plain_name ps
    → AfterParameters t names
after_parameters t start names ps s p is = is ∙ ap (λ (z : List (List ℕ)). z ++ map plain_name ps) s ∙ ap (λ (z : List Spelled). map plain_name z) p

pub after_shared : (t : Tree) (start names : List (List ℕ)) (ps : List Spelled) → AfterParameters t start → ps ≡ t.shared → names ≡ start ++ map plain_name ps
    → AfterShared t names
after_shared t start names ps s p is = is ∙ ap (λ (z : List (List ℕ)). z ++ map plain_name ps) s
    ∙ ap (λ (z : List Spelled). (names_of t).parameters ++ map plain_name z) p

pub after_all : (t : Tree) (start names : List (List ℕ)) (ls : List TreeLocation) → AfterShared t start → ls ≡ t.locations → names ≡ start
    ++ map plain_name (map location_spelled ls) → names ≡ all_names (names_of t)
after_all t start names ls s p is =
    is ∙ ap (λ (z : List (List ℕ)). z ++ map plain_name (map location_spelled ls)) s
    ∙ ap (λ (z : List (List ℕ)). guard_names (names_of t) ++ z) (location_names ls ∙ ap (λ (z : List TreeLocation). map location_name (map plain_location z)) p)

-- ---- no error so far
pub parameters_fit : (t : Tree) (start : List (List ℕ)) (ps : List Spelled) → NameFits t → start ≡ [] → ps ≡ t.parameters → declarations_faults start ps ≡ []
    → ParametersFit t
parameters_fit t start ps name s p none = record { name = name; parameters = along_none start [] ps t.parameters s p none }

pub shared_fit : (t : Tree) (start : List (List ℕ)) (ps : List Spelled) → ParametersFit t → AfterParameters t start → ps ≡ t.shared
    → declarations_faults start ps ≡ [] → SharedFit t
shared_fit t start ps before s p none = record { before = before; shared = along_none start (names_of t).parameters ps t.shared s p none }

pub all_fit : (t : Tree) (start : List (List ℕ)) (ls : List TreeLocation) → InitialFits t → AfterShared t start → ls ≡ t.locations
    → declarations_faults start (map location_spelled ls) ≡ [] → names_faults (names_of t) t ≡ []
all_fit t start ls before s p none =
    empty_both _ _ before.before.before.name (empty_both _ _ before.before.before.parameters (empty_both _ _ before.before.shared (empty_both _ _ before.initial
    (along_none start (guard_names (names_of t)) (map location_spelled ls) (map location_spelled t.locations) s
    (ap (λ (z : List TreeLocation). map location_spelled z) p) none))))

-- ---- the first error
pub stops_at_name : (t : Tree) (e : FileFault) → FirstOrMemory (where_ (is_long t.name) (fault.TooLarge t.name.at)) e
    → FirstOrMemory (names_faults (names_of t) t) e
stops_at_name t e first = append-left-first _ _ e first

pub stops_at_parameters : (t : Tree) (start : List (List ℕ)) (ps : List Spelled) (e : FileFault) → NameFits t → start ≡ [] → ps ≡ t.parameters
    → FirstOrMemory (declarations_faults start ps) e → FirstOrMemory (names_faults (names_of t) t) e
stops_at_parameters t start ps e name s p first = append-right-first _ _ e name (append-left-first _ _ e (along_first start [] ps t.parameters e s p first))

pub stops_at_shared : (t : Tree) (start : List (List ℕ)) (ps : List Spelled) (e : FileFault) → ParametersFit t → AfterParameters t start → ps ≡ t.shared
    → FirstOrMemory (declarations_faults start ps) e → FirstOrMemory (names_faults (names_of t) t) e
stops_at_shared t start ps e before s p first =
    append-right-first _ _ e before.name
    (append-right-first _ _ e before.parameters (append-left-first _ _ e (along_first start (names_of t).parameters ps t.shared e s p first)))

pub stops_at_initial : (t : Tree) (e : FileFault) → SharedFit t → FirstOrMemory (where_ (not (any_initial t.locations)) (fault.NoInitial t.locations_at)) e
    → FirstOrMemory (names_faults (names_of t) t) e
stops_at_initial t e before first =
    append-right-first _ _ e before.before.name
    (append-right-first _ _ e before.before.parameters (append-right-first _ _ e before.shared (append-left-first _ _ e first)))

pub stops_at_locations : (t : Tree) (start : List (List ℕ)) (ls : List TreeLocation) (e : FileFault) → InitialFits t → AfterShared t start → ls ≡ t.locations
    → FirstOrMemory (declarations_faults start (map location_spelled ls)) e → FirstOrMemory (names_faults (names_of t) t) e
stops_at_locations t start ls e before s p first =
    append-right-first _ _ e before.before.before.name
    (append-right-first _ _ e before.before.before.parameters (append-right-first _ _ e before.before.shared (append-right-first _ _ e before.initial
    (along_first start (guard_names (names_of t)) (map location_spelled ls) (map location_spelled t.locations) e s
    (ap (λ (z : List TreeLocation). map location_spelled z) p) first))))

-- ---- the places

-- how many names there are, by kinds
pub lengths : (t : Tree) → length (all_names (names_of t)) ≡ length t.parameters + length t.shared + length t.locations
lengths t =
    length-append (guard_names (names_of t)) (map location_name (map plain_location t.locations))
    ∙ ap (λ n. n + length (map location_name (map plain_location t.locations)))
    (length-append (map plain_name t.parameters) (map plain_name t.shared)
    ∙ ap (λ n. n + length (map plain_name t.shared)) (length-map t.parameters plain_name)
    ∙ ap (λ n. length t.parameters + n) (length-map t.shared plain_name))
    ∙ ap (λ n. length t.parameters + length t.shared + n) (length-map (map plain_location t.locations) location_name ∙ length-map t.locations plain_location)

abbrev kinds : List (List ℕ) → List (List ℕ) → List (List ℕ) → Names
kinds ps ss ls = record { parameters = ps; shared = ss; locations = ls }

kinds_same : (ps qs ss us ls ms : List (List ℕ)) → ps ≡ qs → ss ≡ us → ls ≡ ms → kinds ps ss ls ≡ kinds qs us ms
kinds_same ps qs ss us ls ms e f g = ap (λ z. kinds z ss ls) e ∙ ap (λ z. kinds qs z ls) f ∙ ap (λ z. kinds qs us z) g

-- the names of a tree in order, cut by the numbers of its parameters and shared variables, are its names
pub kinds_are : (t : Tree) (names : List (List ℕ)) (p s : ℕ) → names ≡ all_names (names_of t) → p ≡ length t.parameters → s ≡ length t.shared
    → record { parameters = take p names; shared = take s (drop p names); locations = drop (p + s) names } ≡ names_of t
kinds_are t names p s is e f =
    let parts = cut_in_three (map plain_name t.parameters) (map plain_name t.shared) (map location_name (map plain_location t.locations)) p s
    (length-map t.parameters plain_name ∙ sym e) (length-map t.shared plain_name ∙ sym f) in
    kinds_same _ _ _ _ _ _ (ap (take p) is ∙ parts.0) (ap (λ z. take s (drop p z)) is ∙ parts.1) (ap (drop (p + s)) is ∙ parts.2)
