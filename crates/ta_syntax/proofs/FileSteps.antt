-- The tokens of a whole file that was read, and the faults of reading one.
use Rattle.ta_syntax.proofs.Common.{◌≡◌, ℕ, List, [], ◌∷◌, ◌++◌, map, sym, ap, subst, ◌∙◌, append_assoc, append-nil, listed, each, name_kinds, location_kinds}
use Rattle.ta_syntax.proofs.Common.{comparison_kinds, update_kinds, rule_kinds, event_kinds, pattern_kinds, file_kinds, sum_kinds, FileText, at_start}
use Rattle.ta_syntax.proofs.Common.{IsStopped, StaysWithin, plain_name, plain_comparison, plain_location, plain_update, plain_rule, plain_event, plain_pattern}
use Rattle.ta_syntax.proofs.Common.{plain_sum, Offsets, IsPlaced, at_first, unplaced, name_stated, location_stated, sum_stated, comparison_stated, rule_stated}
use Rattle.ta_syntax.proofs.Common.{pattern_stated, rule_body, event_body, pattern_body, spell_name, spell_location, spell_comparison, kinds, Kind, Token}
use Rattle.ta_syntax.proofs.Common.{FileFault, Spelled, TreeLocation, TreeSum, TreeComparison, TreeRule, TreeEvent, TreePattern, Limits, Production, wrong}
use Rattle.ta_syntax.proofs.Common.{many, deep, Step, Took, Halts, with_mark, body, inl, inr}
use Rattle.ta_syntax.specs.declared.file.Body.{Body}
use Rattle.ta_syntax.specs.declared.file.Head.{Head}
use Rattle.ta_syntax.specs.FileReading.{IsBodyFault, body_kinds, body_stated, names_kinds, names_stated, places_kinds, places_stated}
use Rattle.ta_syntax.proofs.PrintSteps.{listed-map, led-map, ended-map, each-map}
use Rattle.ta_syntax.proofs.Steps.{halts_by}
use Rattle.ta_syntax.proofs.Answered.{wrong_there, trailing_there, many_there, deep_there, whole_there}
use Rattle.ta_syntax.specs.declared.tokens.Kind.TheVariants as kind
use Rattle.ta_syntax.specs.declared.tokens.Mark.TheVariants as mark
use Rattle.ta_syntax.specs.declared.fault.FileFault.TheVariants as fault
use Rattle.ta_syntax.specs.FileGrammar as grammar

-- ---- the tokens of blocks without offsets
pub rule_spelled : (r : TreeRule) → with_mark (kind.Fixed mark.Rule) rule_body r ≡ rule_kinds (plain_rule r)
rule_spelled r =
    λ i. kind.Fixed mark.Rule ∷ kind.Name r.name.name ∷ kind.Fixed mark.Colon ∷ kind.Name r.from.name ∷ kind.Fixed mark.Arrow ∷ kind.Name r.to.name ∷
    (led-map plain_comparison comparison_kinds kind.Fixed mark.When r.guards i
    ++ (led-map plain_update update_kinds kind.Fixed mark.Do r.updates i ++ kind.Fixed mark.Semicolon ∷ []))

event_spelled : (e : TreeEvent) → with_mark (kind.Fixed mark.Event) event_body e ≡ event_kinds (plain_event e)
event_spelled e =
    λ i. kind.Fixed mark.Event ∷ kind.Name e.name.name ∷
    (led-map plain_name name_kinds kind.Fixed mark.After e.after i
    ++ kind.Fixed mark.Colon ∷ (listed-map plain_comparison comparison_kinds kind.Fixed e.condition i ++ kind.Fixed mark.Semicolon ∷ []))

pub pattern_spelled : (p : TreePattern) → with_mark (kind.Fixed mark.Pattern) pattern_body p ≡ pattern_kinds (plain_pattern p)
pattern_spelled p =
    λ i. kind.Fixed mark.Pattern ∷ kind.Name p.name.name ∷ kind.Fixed mark.OpenBrace ∷
    (ended-map plain_comparison comparison_kinds kind.Fixed mark.Start p.start i
    ++ (ended-map plain_name name_kinds kind.Fixed mark.Empty p.empty i
    ++ (each-map (with_mark (kind.Fixed mark.Event) event_body) plain_event event_kinds event_spelled p.events i ++ kind.Fixed mark.CloseBrace ∷ [])))

-- ---- a file

-- what was parsed with no token left
whole_took : {g : Production} (tokens : List Token) (text : List Kind) (x : List Offsets) → Took g text x tokens [] → (kinds tokens ≡ text) × IsPlaced x tokens
whole_took tokens text x a =
    let front : tokens ≡ a.front = a.split ∙ append-nil a.front in
    (ap kinds front ∙ a.spelled, subst (IsPlaced x) (sym front) a.placed)

pub to_end : {g : Production} {tokens rest : List Token} {text : List Kind} {x : List Offsets} → Took g text x tokens rest → rest ≡ [] → Took g text x tokens []
to_end {g} {tokens} {rest} {text} {x} s none = subst (Took g text x tokens) none s

-- a file behind its name
abbrev tail_kinds : List Kind → List Kind → List Kind → List Kind → List Kind → List Kind → List Kind → List Kind
tail_kinds p s l n c r q =
    kind.Fixed mark.Parameters ∷ (p ++ kind.Fixed mark.Semicolon ∷ kind.Fixed mark.Shared ∷
    (s ++ kind.Fixed mark.Semicolon ∷ kind.Fixed mark.Locations ∷
    (l ++ kind.Fixed mark.Semicolon ∷ kind.Fixed mark.Processes ∷
    (n ++ kind.Fixed mark.Semicolon ∷ kind.Fixed mark.Resilience ∷ (c ++ kind.Fixed mark.Semicolon ∷ (r ++ q))))))

plain_lists : (parameters shared : List Spelled) (locations : List TreeLocation) (processes : TreeSum) (resilience : List TreeComparison)
    (rules : List TreeRule) (patterns : List TreePattern)
    → tail_kinds (listed kind.Fixed spell_name parameters) (listed kind.Fixed spell_name shared) (listed kind.Fixed spell_location locations)
    (sum_kinds (plain_sum processes)) (listed kind.Fixed spell_comparison resilience) (each (with_mark (kind.Fixed mark.Rule) rule_body) rules)
    (each (with_mark (kind.Fixed mark.Pattern) pattern_body) patterns)
    ≡ tail_kinds (listed kind.Fixed name_kinds (map plain_name parameters)) (listed kind.Fixed name_kinds (map plain_name shared))
    (listed kind.Fixed location_kinds (map plain_location locations)) (sum_kinds (plain_sum processes))
    (listed kind.Fixed comparison_kinds (map plain_comparison resilience)) (each rule_kinds (map plain_rule rules))
    (each pattern_kinds (map plain_pattern patterns))
plain_lists parameters shared locations processes resilience rules patterns = same _ _ _ _ _ _ _ _ _ _ _ _ _
    (listed-map plain_name name_kinds kind.Fixed parameters) (listed-map plain_name name_kinds kind.Fixed shared)
    (listed-map plain_location location_kinds kind.Fixed locations) (listed-map plain_comparison comparison_kinds kind.Fixed resilience)
    (each-map (with_mark (kind.Fixed mark.Rule) rule_body) plain_rule rule_kinds rule_spelled rules)
    (each-map (with_mark (kind.Fixed mark.Pattern) pattern_body) plain_pattern pattern_kinds pattern_spelled patterns)
  where
    same : (p p' s s' l l' n c c' r r' q q' : List Kind) → p ≡ p' → s ≡ s' → l ≡ l' → c ≡ c' → r ≡ r' → q ≡ q'
        → tail_kinds p s l n c r q ≡ tail_kinds p' s' l' n c' r' q'
    same p p' s s' l l' n c c' r r' q q' e1 e2 e3 e4 e5 e6 = cc

module _ (h : Head) (b : Body) where
  abbrev all_kinds : List Kind
  all_kinds = (names_kinds h.names ++ places_kinds h.places) ++ body_kinds b

  abbrev all_stated : List Offsets
  all_stated = (names_stated h.names ++ places_stated h.places) ++ body_stated b

  all_plain : all_kinds ≡ kind.Fixed mark.Automaton ∷ kind.Name h.names.name.name ∷ kind.Fixed mark.Semicolon ∷ tail_kinds
      (listed kind.Fixed spell_name h.names.parameters) (listed kind.Fixed spell_name h.names.shared) (listed kind.Fixed spell_location h.places.locations)
      (sum_kinds (plain_sum h.places.processes)) (listed kind.Fixed spell_comparison b.resilience)
      (each (with_mark (kind.Fixed mark.Rule) rule_body) b.rules) (each (with_mark (kind.Fixed mark.Pattern) pattern_body) b.patterns)
  all_plain = simp append_assoc

  pub file_spelled : {g : Production} (tokens : List Token) → Took g all_kinds all_stated tokens [] → kinds tokens ≡ file_kinds
      (record {
        name = h.names.name.name;
        parameters = map plain_name h.names.parameters;
        shared = map plain_name h.names.shared;
        locations = map plain_location h.places.locations;
        processes = plain_sum h.places.processes;
        resilience = map plain_comparison b.resilience;
        rules = map plain_rule b.rules;
        patterns = map plain_pattern b.patterns;
      })
  file_spelled tokens took = let w = whole_took tokens all_kinds all_stated took in
      w.0 ∙ all_plain ∙ ap (λ (z : List Kind). kind.Fixed mark.Automaton ∷ kind.Name h.names.name.name ∷ kind.Fixed mark.Semicolon ∷ z)
      (plain_lists h.names.parameters h.names.shared h.places.locations h.places.processes b.resilience b.rules b.patterns)

  -- what a tree of these parts states
  abbrev tree_places : List Offsets
  tree_places =
      [] ∷ (h.names.name.at ∷ []) ∷ []
      ∷ [] ∷ (listed unplaced name_stated h.names.parameters ++ []
      ∷ [] ∷ (listed unplaced name_stated h.names.shared ++ []
      ∷ (h.places.locations_at ∷ []) ∷ (listed unplaced location_stated h.places.locations ++ []
      ∷ [] ∷ (at_first h.places.processes_at (sum_stated h.places.processes) ++ []
      ∷ [] ∷ (listed unplaced comparison_stated b.resilience ++ [] ∷ (each rule_stated b.rules ++ each pattern_stated b.patterns))))))

  all_places : all_stated ≡ tree_places
  all_places = simp append_assoc

  pub file_placed : {g : Production} (tokens : List Token) → Took g all_kinds all_stated tokens [] → IsPlaced tree_places tokens
  file_placed tokens took = let w = whole_took tokens all_kinds all_stated took in subst (λ (z : List Offsets). IsPlaced z tokens) all_places w.1

-- ---- faults

pub file_stops : (l : Limits) (end : ℕ) (tokens : List Token) (e : FileFault) → Halts (grammar.file l) end tokens e
    → IsStopped l FileText at_start end tokens e
file_stops l end tokens fault.Memory h = tt
file_stops l end tokens e ((wrong, bad), p, q) = subst (IsStopped l FileText at_start end tokens) (sym q) (wrong_there l end tokens bad p)
file_stops l end tokens e ((many, bad), p, q) = subst (IsStopped l FileText at_start end tokens) (sym q) (many_there l end tokens bad p)
file_stops l end tokens e ((deep, bad), p, q) = subst (IsStopped l FileText at_start end tokens) (sym q) (deep_there l end tokens bad p)

-- the head was read, and then the parser stopped or left a token
pub body_stops : {text : List Kind} {x : List Offsets} (l : Limits) (end : ℕ) (tokens after : List Token) (e : FileFault)
    → Step (grammar.file l) tokens after (body l) text x → IsBodyFault l end after e → IsStopped l FileText at_start end tokens e
body_stops l end tokens after e s (inl h) = file_stops l end tokens e (halts_by (grammar.file l) (body l) end e s h)
body_stops l end tokens after e s (inr (t, bad, p, q)) = subst (IsStopped l FileText at_start end tokens) (sym q)
    (trailing_there l end tokens t bad (s.goes ∙ p))

-- ---- the limits

-- a file that was read to its end stays within them
pub file_within : {text : List Kind} {x : List Offsets} (l : Limits) (tokens : List Token) → Took (grammar.file l) text x tokens []
    → StaysWithin l at_start (kinds tokens)
file_within l tokens took = let w = whole_there l tokens took.goes in w.1
