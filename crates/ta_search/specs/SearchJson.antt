-- The end of a search as one line of JSON (RFC 8259), in the shapes of the report of `verify`.
use Rattle.std.specs.Prelude.{ℕ, ◌≡◌, Bool, true, false, List, [], ◌∷◌, ◌++◌, codes, decimal, Some, if◌then◌else◌}
use Rattle.serde_json.specs.Data as json
use Rattle.serde_json.specs.Read.{read}
use Rattle.serde_json.specs.Written.{compact_text}
use Rattle.ta_report.specs.Faults.{file_fault_text}
use Rattle.ta_report.specs.Json.{text_lines, texts_data, unknown_sample_data, unknown_verdict_data, verdict_member}
use Rattle.ta_search.specs.declared.outcome.Outcome.{Outcome}
use Rattle.ta_search.specs.declared.outcome.Outcome.TheVariants as outcome
use Rattle.ta_search.specs.declared.outcome.SearchEnd.{SearchEnd}
use Rattle.ta_search.specs.declared.outcome.Tried.{Tried}
use Rattle.ta_search.specs.declared.template.Hole.{Hole}
use Rattle.ta_search.specs.declared.template.Template.{Template}
use Rattle.ta_search.specs.SearchText.{search_text}

-- the name of a hole and its value
abbrev pub hole_data : List ℕ → ℕ → json.Data
hole_data name value = json.array (texts_data (name ∷ decimal value ∷ []))

-- a value for each hole, after its name
abbrev pub choice_data : List Hole → List ℕ → json.Items
choice_data [] values = json.no_items
choice_data (h ∷ hs) [] = json.no_items
choice_data (h ∷ hs) (value ∷ values) = json.item (hole_data h.name value) (choice_data hs values)

-- the word for an outcome
abbrev pub outcome_word : Outcome → List ℕ
outcome_word outcome.Long = codes "long"
outcome_word (outcome.Refused e) = codes "refused"
outcome_word outcome.Empty = codes "no parameters"
outcome_word (outcome.SampleUnknown s) = codes "unknown"
outcome_word (outcome.Unsafe name run) = codes "unsafe"
outcome_word (outcome.Unknown name v) = codes "unknown"
outcome_word (outcome.Safe certificate) = codes "safe"

-- an unsafe pattern, with the lines of its run
abbrev pub unsafe_data : List ℕ → List ℕ → json.Data
unsafe_data name run =
    json.object (json.member (codes "name") (json.string name)
    (json.member (codes "run") (json.array (texts_data (text_lines run)))
    (verdict_member (codes "unsafe"))))

-- what decides the outcome, in front of the other members: the error of the filled text, why the parameters are unknown, or the pattern that
-- is not safe
abbrev pub deciding_members : Outcome → json.Members → json.Members
deciding_members outcome.Long members = members
deciding_members (outcome.Refused e) members = json.member (codes "fault") (json.string (file_fault_text e)) members
deciding_members outcome.Empty members = members
deciding_members (outcome.SampleUnknown s) members = json.member (codes "parameters") (unknown_sample_data s) members
deciding_members (outcome.Unsafe name run) members = json.member (codes "pattern") (unsafe_data name run) members
deciding_members (outcome.Unknown name v) members = json.member (codes "pattern") (unknown_verdict_data name v) members
deciding_members (outcome.Safe certificate) members = members

-- an outcome, with these values
abbrev pub outcome_data : Outcome → json.Data → json.Data
outcome_data o values = json.object (deciding_members o (json.member (codes "values") values (verdict_member (outcome_word o))))

-- a vector and its outcome
abbrev pub tried_data : List Hole → Tried → json.Data
tried_data hs x = outcome_data x.outcome (json.array (choice_data hs x.values))

-- all that were tried, in order
abbrev pub tries_data : List Hole → List Tried → json.Items
tries_data hs [] = json.no_items
tries_data hs (x ∷ xs) = json.item (tried_data hs x) (tries_data hs xs)

-- whether values were found
abbrev pub found_word : Bool → List ℕ
found_word found = if found then codes "found" else codes "not found"

-- the end of a search
abbrev pub search_data : Template → SearchEnd → json.Data
search_data t end = json.object (json.member (codes "tried") (json.array (tries_data t.holes end.tried)) (verdict_member (found_word end.found)))

-- its line
abbrev pub search_json : Template → SearchEnd → List ℕ
search_json t end = compact_text (search_data t end) ++ codes "\n"

-- the text of `search`, in JSON or in lines
abbrev pub search_told : Bool → Template → SearchEnd → List ℕ
search_told true t end = search_json t end
search_told false t end = search_text t end

-- the line of JSON is read as what it says
abbrev pub SearchIsRead : Type 0
SearchIsRead = (t : Template) (end : SearchEnd) → read (compact_text (search_data t end)) ≡ Some (search_data t end)
