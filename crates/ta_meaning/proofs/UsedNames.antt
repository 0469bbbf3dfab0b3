-- The errors of used and of declared names.
use Rattle.ta_meaning.proofs.Common.{inr, ◌≡◌, ℕ, true, false, not, List, [], ap, not-false, Spelled, FileFault, has_name, First, FirstOrMemory, where_}
use Rattle.ta_meaning.proofs.Common.{is_long, used_faults, declared_faults}
use Rattle.ta_meaning.proofs.Answering.{where-leads, else-left-leads, else-right-leads, where-first, where-false, not-where, else-left-first, else-right-first}
use Rattle.ta_meaning.proofs.Answering.{else-none, none-else-right}
use Rattle.ta_syntax.specs.declared.fault.FileFault.TheVariants as fault

pub unknown : (names allowed : List (List ℕ)) (n : Spelled) → has_name names n.name ≡ false → First (used_faults names allowed n) (fault.Unknown n.at)
unknown names allowed n none =
    else-left-leads (where_ (not (has_name names n.name)) (fault.Unknown n.at)) (where_ (not (has_name allowed n.name)) (fault.WrongKind n.at))
    (fault.Unknown n.at) (where-leads (not (has_name names n.name)) (fault.Unknown n.at) (ap not none))

pub wrong_kind : (names allowed : List (List ℕ)) (n : Spelled) → has_name names n.name ≡ true → has_name allowed n.name ≡ false
    → First (used_faults names allowed n) (fault.WrongKind n.at)
wrong_kind names allowed n there none =
    else-right-leads (where_ (not (has_name names n.name)) (fault.Unknown n.at)) (where_ (not (has_name allowed n.name)) (fault.WrongKind n.at))
    (fault.WrongKind n.at)
    (where-false (not (has_name names n.name)) (fault.Unknown n.at) (ap not there))
    (where-leads (not (has_name allowed n.name)) (fault.WrongKind n.at) (ap not none))

pub rightly_used : (names allowed : List (List ℕ)) (n : Spelled) → has_name names n.name ≡ true → has_name allowed n.name ≡ true
    → used_faults names allowed n ≡ []
rightly_used names allowed n there may =
    else-none (where_ (not (has_name names n.name)) (fault.Unknown n.at)) (where_ (not (has_name allowed n.name)) (fault.WrongKind n.at))
    (where-false (not (has_name names n.name)) (fault.Unknown n.at) (ap not there))
    (where-false (not (has_name allowed n.name)) (fault.WrongKind n.at) (ap not may))

-- a name that is used without an error is one of those that may stand there
pub used_is_allowed : (names allowed : List (List ℕ)) (n : Spelled) → used_faults names allowed n ≡ [] → has_name allowed n.name ≡ true
used_is_allowed names allowed n none =
    not-false (has_name allowed n.name)
    (not-where (not (has_name allowed n.name)) (fault.WrongKind n.at)
    (none-else-right (where_ (not (has_name names n.name)) (fault.Unknown n.at)) (where_ (not (has_name allowed n.name)) (fault.WrongKind n.at)) none))

pub declared_twice : (before : List (List ℕ)) (n : Spelled) → has_name before n.name ≡ true → FirstOrMemory (declared_faults before n) (fault.Duplicate n.at)
declared_twice before n there =
    else-left-first (where_ (has_name before n.name) (fault.Duplicate n.at)) (where_ (is_long n) (fault.TooLarge n.at)) (fault.Duplicate n.at)
    (where-first (has_name before n.name) (fault.Duplicate n.at) there)

pub declared_too_long : (before : List (List ℕ)) (n : Spelled) (e : FileFault) → has_name before n.name ≡ false
    → First (where_ (is_long n) (fault.TooLarge n.at)) e → FirstOrMemory (declared_faults before n) e
declared_too_long before n e new long =
    else-right-first (where_ (has_name before n.name) (fault.Duplicate n.at)) (where_ (is_long n) (fault.TooLarge n.at)) e
    (where-false (has_name before n.name) (fault.Duplicate n.at) new) (inr long)

pub declared_rightly : (before : List (List ℕ)) (n : Spelled) → has_name before n.name ≡ false → where_ (is_long n) (fault.TooLarge n.at) ≡ []
    → declared_faults before n ≡ []
declared_rightly before n new short =
    else-none (where_ (has_name before n.name) (fault.Duplicate n.at)) (where_ (is_long n) (fault.TooLarge n.at))
    (where-false (has_name before n.name) (fault.Duplicate n.at) new) short
