-- Each text is that of one template, or has one first error.
use Rattle.std.specs.Prelude.{ℕ, ◌≡◌, List}
use Rattle.ta_search.specs.declared.template.Template.{Template}
use Rattle.ta_search.specs.declared.fault.TemplateFault.{TemplateFault}
use Rattle.ta_search.specs.Templates.{template_text}
use Rattle.ta_search.specs.TemplateFaults.{FirstTemplateFault}

-- a text is that of at most one template
abbrev pub OneTemplate : Type 0
OneTemplate = (t u : Template) → template_text t ≡ template_text u → (t.holes ≡ u.holes) × (t.body ≡ u.body)

-- a template's text has no error, and another text has at most one first error
abbrev pub OneTemplateFault : Type 0
OneTemplateFault =
    ((t : Template) (e : TemplateFault) → FirstTemplateFault (template_text t) e → ⊥)
    × ((bytes : List ℕ) (e f : TemplateFault) → FirstTemplateFault bytes e → FirstTemplateFault bytes f → e ≡ f)

-- a text is that of a template
abbrev pub HasTemplate : List ℕ → Type 0
HasTemplate bytes = (t : Template) × (template_text t ≡ bytes)

-- a text has a first error
abbrev pub HasTemplateFault : List ℕ → Type 0
HasTemplateFault bytes = (e : TemplateFault) × FirstTemplateFault bytes e

-- a text is that of a template, or has a first error. (The logic is constructive, so this is stated as "not neither": no test of the specs
-- tells whether a line is that of some hole.)
abbrev pub TemplatesHaveAnswers : Type 0
TemplatesHaveAnswers = (bytes : List ℕ) → ¬ HasTemplate bytes → ¬ HasTemplateFault bytes → ⊥
