-- what is seen in some calls is seen in more, and known files show one thing
use Rattle.ta_shelf.proofs.ShellCommon.{◌≡◌, ◌+◌, ◌∙◌, List, ◌++◌, ℕ, length, length-append, Option, Some, None, sym, ap, arith, append_assoc, Call, Told}
use Rattle.ta_shelf.proofs.ShellCommon.{Meaning, Absent, Begins, Leads, HasBytes, HasMore, Part, Sight, Unlike, View, Whole, in_calls, in_files, seen, Answer}

-- what is seen in one view is seen in another
abbrev pub Sub : View → View → Type 0
Sub v w = (name : List ℕ) (sight : Sight) → v name sight → w name sight

part_within : (Such : List Call → Type 0) (first calls later : List Call) → Part Such calls → Part Such (first ++ (calls ++ later))
part_within Such first calls later p =
    record { before = first ++ p.before; those = p.those; after = p.after ++ later; all = rw p.all (simp append_assoc); such = p.such }

in_calls_within : (first calls later : List Call) (name : List ℕ) (sight : Sight) → in_calls calls name sight → in_calls (first ++ (calls ++ later)) name sight
in_calls_within first calls later name (Whole bytes) p = part_within _ first calls later p
in_calls_within first calls later name Absent p = part_within _ first calls later p
in_calls_within first calls later name (Begins bytes) p = part_within _ first calls later p
in_calls_within first calls later name (Unlike bytes) p = part_within _ first calls later p
in_calls_within first calls later name (Leads other same) p = part_within _ first calls later p

pub sub_within : (files : Option Told) (first calls later : List Call) → Sub (seen files calls) (seen files (first ++ (calls ++ later)))
sub_within files first calls later name sight s = (in_calls_within first calls later name sight s.0, s.1)

pub sub_told : (told : Told) (calls : List Call) → Sub (seen (Some told) calls) (in_files told)
sub_told told calls name sight s = s.1

-- a meaning that says of more what it says of less
pub record Monotone (m : Meaning) : Type 1 where
  pub answers : (v w : View) → Sub v w → (answer : Answer) → m.answers v answer → m.answers w answer
  pub refuses : (v w : View) → Sub v w → (number : ℕ) (line : List ℕ) → m.refuses v number line → m.refuses w number line
  pub reads : (v w : View) → Sub v w → (name : List ℕ) → m.reads v name → m.reads w name

pub has_more : (v w : View) → Sub v w → (name : List ℕ) (limit : ℕ) (bytes : List ℕ) → HasBytes v name limit bytes → HasBytes w name limit bytes
has_more v w sub name limit bytes h = record { seen = sub name (Whole bytes) h.seen; within = h.within }

-- told files show one content
pub whole_one : (told : Told) (name : List ℕ) (limit : ℕ) (bytes other : List ℕ) → HasBytes (in_files told) name limit bytes
    → HasBytes (in_files told) name limit other → bytes ≡ other
whole_one told name limit bytes other h k = let e : Some bytes ≡ Some other = sym h.seen ∙ k.seen in cc

pub not_absent : (told : Told) (name : List ℕ) (limit : ℕ) (bytes : List ℕ) → HasBytes (in_files told) name limit bytes → in_files told name Absent → ⊥
not_absent told name limit bytes h absent = let e : Some bytes ≡ None = sym h.seen ∙ absent in cc

-- told bytes are what others begin with
pub begins_some : (told : Told) (name : List ℕ) (limit : ℕ) (bytes first : List ℕ) → HasBytes (in_files told) name limit bytes
    → in_files told name (Begins first) → (rest : List ℕ) × (bytes ≡ first ++ rest)
begins_some told name limit bytes first h begins =
    let e : Some bytes ≡ Some (first ++ begins.rest) = sym h.seen ∙ begins.held in
    (begins.rest, cc)

pub not_longer : (told : Told) (name : List ℕ) (limit : ℕ) (Such : List ℕ → Type 0) (bytes : List ℕ) → HasBytes (in_files told) name limit bytes
    → HasMore (in_files told) name limit Such → ⊥
not_longer told name limit Such bytes h longer =
    let same = begins_some told name limit bytes longer.bytes h longer.seen in
    let past = longer.more in
    let size : length bytes ≡ length longer.bytes + length same.0 = ap length same.1 ∙ length-append longer.bytes same.0 in
    omega (arith, past, h.within)
