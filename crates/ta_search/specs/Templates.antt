-- Templates: automaton files with holes for coefficients.
use Rattle.std.specs.Prelude.{ℕ, ◌++◌, List}
use Rattle.ta_search.specs.declared.template.Template.{Template}
use Rattle.ta_search.specs.Holes.{head_text}

-- a template's text: the lines of its holes, the line `begin`, and the body
abbrev pub template_text : Template → List ℕ
template_text t = head_text t.holes ++ t.body
