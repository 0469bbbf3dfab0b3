-- Which names of files and which budgets a command line may have.
use Rattle.std.specs.Prelude.{ℕ, ◌&&◌, nat_lt, nat_le, Bool, false, List, [], ◌∷◌, codes, length, not, Option, None, Some, if◌then◌else◌, option_and_then}
use Rattle.std.specs.Prelude.{option_map}
use Rattle.std.specs.Char.{is_ascii_digit}
use Rattle.std.specs.List.{list_all}
use Rattle.std.specs.Str.{bytes_eq}
use Rattle.std.specs.Str.Parse.{digits_value}
use Rattle.ta_base.specs.LimitRows.{narrow, wide}
use Rattle.ta_base.specs.declared.limits.Limits.{Limits}
use Rattle.ta_base.specs.declared.limits.TheConstants.{DEFAULT_NODES, MOST_NODES}
use Rattle.ta_program.specs.Words.{Form, Taken, asked_by, flag, is_given, plain_of}

-- the name of a file, which is not empty
abbrev pub file_name_of : List ℕ → Option (List ℕ)
file_name_of name = if nat_lt 0 (length name) then Some name else None

-- whether a text is a budget of nodes: 1 to 10 digits, and its value within the limits
abbrev pub is_budget : List ℕ → Bool
is_budget text = nat_lt 0 (length text) && nat_le (length text) 10 && list_all is_ascii_digit text && nat_le 1 (digits_value 10 text)
    && nat_le (digits_value 10 text) MOST_NODES

-- the budget that is asked for: 1,000,000 if none is given
abbrev pub budget_of : Option (List ℕ) → Option ℕ
budget_of None = Some DEFAULT_NODES
budget_of (Some text) = if is_budget text then Some (digits_value 10 text) else None

-- the name of the file OUT, if it is given: it is not empty, and differs from that of FILE
abbrev pub out_of : List ℕ → Option (List ℕ) → Option (Option (List ℕ))
out_of file None = Some None
out_of file (Some out) = if nat_lt 0 (length out) && not (bytes_eq out file) then Some (Some out) else None

-- whether two names are both given, and are the same
abbrev pub are_same : Option (List ℕ) → Option (List ℕ) → Bool
are_same (Some name) (Some other) = bytes_eq name other
are_same _ _ = false

-- the name of the file OUT2, if it is given: it is not empty, and differs from those of FILE and of OUT
abbrev pub filled_of : List ℕ → Option (List ℕ) → Option (List ℕ) → Option (Option (List ℕ))
filled_of file out filled = if are_same out filled then None else out_of file filled

-- the limits within which FILE is read
abbrev pub limits_of : Bool → Limits
limits_of is_wide = if is_wide then wide else narrow

-- whether these are the wide ones where trees are searched: only with moments on demand, since the tree of schemas orders every guard
abbrev pub wide_of : Bool → Bool → Option Bool
wide_of is_wide lazy = if is_wide && not lazy then None else Some is_wide

-- the names of two files, FILE and one that belongs to it, and whether the wide limits are meant
pub record TwoNames : Type 0 where
  pub file : List ℕ
  pub other : List ℕ
  pub wide : Bool

abbrev pub two_form : Form
two_form = record { plain = 2; options = flag (codes "--wide") ∷ [] }

abbrev pub two_taken : Taken → Option TwoNames
two_taken taken = option_and_then (λ file. option_map (λ other. record { file = file; other = other; wide = is_given taken 0 })
    (file_name_of (plain_of taken 1))) (file_name_of (plain_of taken 0))

-- two plain words that are names of files, and `--wide` or no option
abbrev pub two_names : List (List ℕ) → Option TwoNames
two_names = asked_by two_form two_taken
