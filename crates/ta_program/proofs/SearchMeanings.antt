-- what `search` says grows with what is seen, and known files leave one number
use Rattle.ta_program.specs.SearchWords.{terms_of}
use Rattle.ta_program.specs.Values.{limits_of}
use Rattle.ta_program.proofs.Common.{Terms, ◌≡◌, ◌∙◌, ℕ, List, length, Option, None, Some, refl, sym, ap, subst, inl, inr, arith, TemplateFault, SearchEnd}
use Rattle.ta_program.proofs.Common.{Tried, Template, LastIsFound, SearchesAreDetermined, FirstTemplateFault, no_fault, one_template, Decides, IsSo, View}
use Rattle.ta_program.proofs.Common.{in_files, Answer, after_monotone, decides, no_hindrance, one_number, settles_monotone, Monotone, PassesWhere, Finds}
use Rattle.ta_program.proofs.Common.{HindersFound, IsTemplateText, LegalTemplate, end_number, found_meaning, found_names, search_meaning, template_kind}
use Rattle.ta_program.proofs.Common.{SearchWords, after, spared_decides, spared_passes}
use Rattle.ta_base.specs.declared.limits.Limits.{Limits}
use mathlib.Core.HLevel.{is_prop→PathP}
use Rattle.ta_search.specs.declared.outcome.Outcome.TheVariants.{Safe}
use Rattle.ta_search.specs.Holes.{AreHoles, AreHoles-prop, unknown_place, unknown-prop}
use Rattle.ta_base.proofs.Lists.{same_end}

-- what a template's type keeps besides its data are propositions
template_equal : (t u : Template) → t.holes ≡ u.holes → t.body ≡ u.body → t ≡ u
template_equal t u holes body = λ i. record {
  holes = holes i;
  body = body i;
  legal = is_prop→PathP (λ j. AreHoles (holes j)) (λ j. AreHoles-prop (holes j)) t.legal u.legal i;
  known = is_prop→PathP (λ j. unknown_place (holes j) (body j) ≡ None) (λ j. unknown-prop (holes j) (body j)) t.known u.known i;
}

pub one_text : (bytes : List ℕ) (t u : Template) → IsTemplateText bytes t → IsTemplateText bytes u → t ≡ u
one_text bytes t u is are = let same = one_template t u (is ∙ sym are) in template_equal t u same.0 same.1

-- no template's text has a fault
pub template_fits : (bytes : List ℕ) (t : Template) (e : TemplateFault) → IsTemplateText bytes t → FirstTemplateFault bytes e → ⊥
template_fits bytes t e is fault = no_fault t e (subst (λ (b : List ℕ). FirstTemplateFault b e) (sym is) fault)

-- what was found has one certificate
pub certificates_same : (t : Template) (l : Limits) (a b : SearchEnd) → a ≡ b → (f : LastIsFound t l a) (g : LastIsFound t l b) → f.certificate ≡ g.certificate
certificates_same t l a b same f g =
    let last = same_end f.before g.before f.last g.last (sym f.whole ∙ ap (λ (end : SearchEnd). end.tried) same ∙ g.whole) in
    let said : Safe f.certificate ≡ Safe g.certificate = sym f.said ∙ ap (λ (x : Tried). x.outcome) last ∙ g.said in
    cc

pub found_monotone : (asked : SearchWords) (t : Template) → Monotone (found_meaning asked t)
found_monotone asked t = settles_monotone (found_names asked) (Finds t asked) (HindersFound t (terms_of asked) asked.out)

-- only a certificate that is too long hinders what was found, with 4
pub hinders_four : (t : Template) (terms : Terms) (out : Option (List ℕ)) (number : ℕ) (line : List ℕ) → HindersFound t terms out number line → number ≡ 4
hinders_four t terms None number line h = absurd h
hinders_four t terms (Some out) number line h = h.numbered

-- a template has one end of its search for a budget
module _ (once : SearchesAreDetermined) where
  -- no certificate is both put and too long
  not_both : (asked : SearchWords) (t : Template) (out : Option (List ℕ)) (answer : Answer) (number : ℕ) (line : List ℕ) → asked.out ≡ out
      → Finds t asked answer → HindersFound t (terms_of asked) out number line → ⊥
  not_both asked t None answer number line is f h = h
  not_both asked t (Some out) answer number line is f h =
      let long = h.long in
      let ends = once t (terms_of asked) f.end long.end f.is_end long.is_end in
      let put = f.found (ap (λ (end : SearchEnd). end.found) ends ∙ long.found) in
      let same = ap length (certificates_same t (limits_of asked.wide) f.end long.end ends put.last long.last) in
      let within = put.within (rw is refl) in
      let longer = long.longer in
      omega (arith, same)

  found_one : (asked : SearchWords) (t : Template) (view : View) (number other : ℕ) → IsSo (found_meaning asked t) view number
      → IsSo (found_meaning asked t) view other → number ≡ other
  found_one asked t view number other so so' = elim so [
    | inl a ↦ elim so' [
      | inl b ↦ sym a.1 ∙ (a.2.numbered ∙ ap end_number (once t (terms_of asked) a.2.end b.2.end a.2.is_end b.2.is_end) ∙ sym b.2.numbered) ∙ b.1
      | inr r ↦ absurd (not_both asked t asked.out a.0 other r.0 refl a.2 r.1)
    ]
    | inr q ↦ elim so' [
      | inl b ↦ absurd (not_both asked t asked.out b.0 number q.0 refl b.2 q.1)
      | inr r ↦ hinders_four t (terms_of asked) asked.out number q.0 q.1 ∙ sym (hinders_four t (terms_of asked) asked.out other r.0 r.1)
    ]
  ]

  pub search_decides : (asked : SearchWords) → Decides (search_meaning asked)
  search_decides asked =
      spared_decides (template_kind (limits_of asked.wide)) asked.file (found_names asked) (found_meaning asked) (found_monotone asked) template_fits
      (decides (after (template_kind (limits_of asked.wide)) asked.file (found_names asked) (found_meaning asked))
      (after_monotone (template_kind (limits_of asked.wide)) asked.file (found_names asked) (found_meaning asked) (found_monotone asked)) (λ told.
      one_number (template_kind (limits_of asked.wide)) asked.file (found_names asked) (found_meaning asked) (found_monotone asked) told template_fits
      (λ bytes v w m n number other so so'.
      found_one asked w (in_files told) number other (subst (λ (t : Template). IsSo (found_meaning asked t) (in_files told) number) (one_text bytes v w m n) so)
      so')))

pub search_passes : (asked : SearchWords) → PassesWhere (LegalTemplate asked) (search_meaning asked)
search_passes asked told line (t, is) =
    spared_passes (template_kind (limits_of asked.wide)) asked.file (found_names asked) (found_meaning asked) (in_files told) line (λ refuses. elim refuses [
      | inl own ↦ no_hindrance (template_kind (limits_of asked.wide)) asked.file (found_names asked) (found_meaning asked) (found_monotone asked) told
          template_fits
          t 3 line is own
      | inr r ↦ let four = hinders_four r.0 (terms_of asked) asked.out 3 line r.2 in absurd (omega (arith, four))
    ])
