-- The command `search`: values for the holes of a template with which every pattern is safe.
use Rattle.std.specs.Prelude.{ℕ, ◌<◌, ◌≤◌, ◌≡◌, ◌≢◌, ◌++◌, Bool, true, false, List, [], ◌∷◌, codes, decimal, length, map, Option, None, Some, IsSome}
use Rattle.std.specs.Prelude.{if◌then◌else◌}
use Rattle.std.specs.List.{list_any}
use Rattle.ta_base.specs.declared.limits.Limits.{Limits}
use Rattle.ta_search.specs.declared.fault.TemplateFault.{TemplateFault}
use Rattle.ta_search.specs.declared.fault.TemplateFault.TheVariants as fault
use Rattle.ta_search.specs.declared.outcome.Outcome.{Outcome}
use Rattle.ta_search.specs.declared.outcome.Outcome.TheVariants as outcome
use Rattle.ta_search.specs.declared.outcome.SearchEnd.{SearchEnd}
use Rattle.ta_search.specs.declared.template.Template.{Template}
use Rattle.ta_search.specs.Filling.{filled_text}
use Rattle.ta_search.specs.Searching.{IsSearchEnd, LastIsFound}
use Rattle.ta_search.specs.SearchJson.{search_told}
use Rattle.ta_search.specs.TemplateFaults.{FirstTemplateFault}
use Rattle.ta_search.specs.Templates.{template_text}
use Rattle.ta_shelf.specs.Calls.{Put}
use Rattle.ta_shelf.specs.Put.{Told, WhereTold}
use Rattle.ta_shelf.specs.Sink.{with_text}
use Rattle.ta_shelf.specs.declared.answer.Answer.{Answer}
use Rattle.ta_shelf.specs.declared.answer.Put as answer
use Rattle.ta_shelf.specs.Commands.{Meaning}
use Rattle.ta_shelf.specs.OutputCalls.{PutWhole}
use Rattle.ta_shelf.specs.Puts.{PutText, may_put, put_text}
use Rattle.ta_shelf.specs.Sights.{View, in_files}
use Rattle.ta_shelf.specs.Sparing.{spared}
use Rattle.ta_shelf.specs.Stages.{FileMeans, Kind, settles}
use Rattle.ta_search.specs.declared.terms.Terms.{Terms}
use Rattle.ta_program.specs.SearchWords.{terms_of}
use Rattle.ta_program.specs.Values.{limits_of}
use Rattle.ta_program.specs.declared.limits.TheConstants.{CERTIFICATE}
use Rattle.ta_program.specs.Asked.{Asked, ask_where}
use Rattle.ta_program.specs.Certified.{long_line}
use Rattle.ta_program.specs.Kinds.{file_limit}
use Rattle.ta_program.specs.SearchWords.{SearchWords, search_words}

-- why a text is not a template, in words; out of memory is never printed so
abbrev pub template_fault_text : TemplateFault → List ℕ
template_fault_text (fault.Line line) = codes "S1 malformed at line " ++ decimal line
template_fault_text (fault.Repeated line) = codes "S2 repeated hole at line " ++ decimal line
template_fault_text (fault.Range line) = codes "S3 range at line " ++ decimal line
template_fault_text (fault.TooMany line) = codes "S4 too many at line " ++ decimal line
template_fault_text (fault.UnknownHole offset) = codes "S5 unknown hole at offset " ++ decimal offset
template_fault_text fault.Memory = codes "out of memory"

-- the bytes are the text of a template
abbrev pub IsTemplateText : List ℕ → Template → Type 0
IsTemplateText bytes template = template_text template ≡ bytes

-- FILE of `search` within a row of limits: the text of a template, or one with a first error
abbrev pub template_kind : Limits → Kind Template TemplateFault
template_kind l = record { limit = file_limit l; means = IsTemplateText; at_fault = FirstTemplateFault; broken = λ bytes fault. ⊥; words = template_fault_text }

-- within these limits the bytes under this name are the text of this template
abbrev pub IsTemplate : Limits → View → List ℕ → Template → Type 0
IsTemplate l view name template = FileMeans (template_kind l) view name template

-- whether an outcome says that something is unknown: the parameters or a pattern
abbrev pub leaves_unknown : Outcome → Bool
leaves_unknown outcome.Long = false
leaves_unknown (outcome.Refused e) = false
leaves_unknown outcome.Empty = false
leaves_unknown (outcome.SampleUnknown s) = true
leaves_unknown (outcome.Unsafe name run) = false
leaves_unknown (outcome.Unknown name v) = true
leaves_unknown (outcome.Safe certificate) = false

-- 0 if values were found, otherwise 2 if some outcome is unknown, otherwise 1
abbrev pub end_number : SearchEnd → ℕ
end_number end = if end.found then 0 else (if list_any (λ x. leaves_unknown x.outcome) end.tried then 2 else 1)

-- a file with this text in front of others, if a name is given
abbrev pub with_given : Option (List ℕ) → List ℕ → List PutText → List PutText
with_given None text rest = rest
with_given (Some name) text rest = record { name = name; text = text } ∷ rest

-- the files that are put if values were found: OUT with the certificate, and OUT2 with the filled text, which is put in its place first, as
-- far as their names are given
abbrev pub found_files : Option (List ℕ) → Option (List ℕ) → List ℕ → List ℕ → List PutText
found_files filled out text certificate = with_given out certificate (with_given filled text [])

-- values were found, and these files are put; the certificate that is asked for is within its limit
pub record PutsFound (template : Template) (end : SearchEnd) (asked : SearchWords) (puts : List answer.Put) : Type 0 where
  pub last : LastIsFound template (limits_of asked.wide) end
  pub are : map put_text puts ≡ found_files asked.filled asked.out (filled_text template last.last.values) last.certificate
  pub within : IsSome asked.out → length last.certificate ≤ CERTIFICATE.bytes

-- the text of the search's end with the status that it gives, and the files of the values; if no values were found, no file
pub record Finds (template : Template) (asked : SearchWords) (answer : Answer) : Type 0 where
  pub end : SearchEnd
  pub is_end : IsSearchEnd template (terms_of asked) end
  pub numbered : answer.number ≡ end_number end
  pub written : answer.text ≡ search_told asked.json template end
  pub found : end.found ≡ true → PutsFound template end asked answer.puts
  pub nothing : end.found ≡ false → answer.puts ≡ []

-- values were found, and their certificate is longer than a certificate may be
pub record LongFound (template : Template) (terms : Terms) : Type 0 where
  pub end : SearchEnd
  pub is_end : IsSearchEnd template terms end
  pub found : end.found ≡ true
  pub last : LastIsFound template terms.limits end
  pub longer : CERTIFICATE.bytes < length last.certificate

-- a certificate that is too long is refused
pub record IsLongFound (template : Template) (terms : Terms) (out : List ℕ) (number : ℕ) (line : List ℕ) : Type 0 where
  pub numbered : number ≡ CERTIFICATE.number
  pub said : line ≡ long_line out
  pub long : LongFound template terms

-- why the certificate that is asked for is refused
abbrev pub HindersFound : Template → Terms → Option (List ℕ) → ℕ → List ℕ → Type 0
HindersFound template terms None number line = ⊥
HindersFound template terms (Some out) number line = IsLongFound template terms out number line

-- the names of the files that may be put
abbrev pub found_names : SearchWords → List (List ℕ)
found_names asked = may_put asked.filled ++ may_put asked.out

-- the search of a template ends so, unless the certificate that is asked for is too long
abbrev pub found_meaning : SearchWords → Template → Meaning
found_meaning asked template = settles (found_names asked) (Finds template asked) (HindersFound template (terms_of asked) asked.out)

-- FILE is read, OUT2 and OUT are compared with it, and its holes are searched
abbrev pub search_meaning : SearchWords → Meaning
search_meaning asked = spared (template_kind (limits_of asked.wide)) asked.file (found_names asked) (found_meaning asked)

-- FILE is a template
abbrev pub LegalTemplate : SearchWords → Told → Type 0
LegalTemplate asked told = (template : Template) × IsTemplate (limits_of asked.wide) (in_files told) asked.file template

abbrev pub search_asked : List (List ℕ) → Asked
search_asked words = ask_where LegalTemplate search_meaning (search_words words)

-- OUT2 holds the first text and OUT the second, as far as their names are given, and every other file is unchanged
pub record HoldFound (filled out : Option (List ℕ)) (text certificate : List ℕ) (before after : Told) : Type 0 where
  pub first : (name : List ℕ) → filled ≡ Some name → after name ≡ Some text
  pub second : (name : List ℕ) → out ≡ Some name → after name ≡ Some certificate
  pub others : (name : List ℕ) → filled ≢ Some name → out ≢ Some name → after name ≡ before name

-- values were found: every pattern of the filled text is safe and some parameters have an initial configuration, OUT2 holds that text, and
-- OUT a certificate of it that proves all its patterns, so `check` accepts it; and the calls put exactly these in their places, whole
pub record FoundStands (template : Template) (end : SearchEnd) (asked : SearchWords) (files files' : Option Told) (made : List Put) : Type 0 where
  pub last : LastIsFound template (limits_of asked.wide) end
  pub stands : WhereTold (HoldFound asked.filled asked.out (filled_text template last.last.values) last.certificate) files files'
  pub told : PutWhole (found_files asked.filled asked.out (filled_text template last.last.values) last.certificate) made
  pub within : IsSome asked.out → length last.certificate ≤ CERTIFICATE.bytes

-- FILE is a template whose vectors were tried in order, each with an outcome that holds, up to the first that is Safe; the output gained
-- the text that lists them, in JSON or in lines, and the status is 0 if values were found, otherwise 2 if some outcome is unknown,
-- otherwise 1. With 0 the files
-- of the values were put; otherwise every file is unchanged, and no call changed one
pub record SearchHolds (number : ℕ) (view : View) (asked : SearchWords) (files files' : Option Told) (written written' : Option (List ℕ)) (made : List Put) :
    Type 0 where
  pub template : Template
  pub is_template : IsTemplate (limits_of asked.wide) view asked.file template
  pub end : SearchEnd
  pub is_end : IsSearchEnd template (terms_of asked) end
  pub numbered : end_number end ≡ number
  pub wrote : written' ≡ with_text written (search_told asked.json template end)
  pub found : number ≡ 0 → FoundStands template end asked files files' made
  pub kept : number ≢ 0 → (files' ≡ files) × (made ≡ [])
