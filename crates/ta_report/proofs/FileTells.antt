-- A text is of one file.
use Rattle.ta_report.proofs.Common.{ℕ, ℤ, pos, unsigned_abs, ◌+◌, ◌<◌, ◌≤◌, ◌^◌, ◌≡◌, ◌∙◌, List, [], ◌∷◌, ◌++◌, length, ap, sym, refl, arith, codes, decimal}
use Rattle.ta_report.proofs.Common.{append_assoc, length-append, signed_decimal, AllByRecursion, append_cancel_left, LARGEST_NUMBER, Distinct, first_byte}
use Rattle.ta_report.proofs.Common.{number_same, each_front, Automaton, File, Event, Pattern, Name, PatternWithin, each, mask_text, name_text, name_at}
use Rattle.ta_report.proofs.Common.{location_text, sum_text, row_text, condition_text, update_text, rule_text}
use Rattle.std.proofs.Common.{◌≤ℤ◌}
use Rattle.std.proofs.lemmas.Int.{ints}
use Rattle.ta_base.specs.Lists.{EachFrom}
use Rattle.ta_base.proofs.Each.{distinct_left, distinct_right, each_back, each_weaker}
use Rattle.ta_base.proofs.Ranges.{each_below, rises_length}
use Rattle.ta_linear.specs.Terms.{IsNormal}
use Rattle.ta_linear.specs.declared.form.Form.{Form}
use Rattle.ta_linear.specs.declared.row.Row.{Row}
use Rattle.ta_automaton.specs.declared.condition.Comparison.{Comparison}
use Rattle.ta_automaton.specs.declared.condition.Condition.{Condition}
use Rattle.ta_automaton.specs.declared.rule.Rule.{Rule}
use Rattle.ta_automaton.specs.Forms.{FormOver, ConditionOver, RowOver, RiseRow, FallRow}
use Rattle.ta_automaton.specs.Shape.{Update, RuleWithin}
use Rattle.ta_automaton.specs.Patterns.{EventWithin}
use Rattle.ta_meaning.proofs.EqualParts.{form-equal, row-equal, comparison-equal, condition-equal, rule-equal, event-equal, pattern-equal, automaton-equal}
use Rattle.ta_meaning.proofs.EqualParts.{file-equal}
use Rattle.ta_report.specs.Show.{listed, comparison_text}
use Rattle.ta_report.specs.Show.{event_text, pattern_text, order_text, automaton_text, show_text}
use Rattle.ta_report.specs.Determined.{ShowsDiffer}
use Rattle.ta_report.proofs.Sums.{SameNames, TermFits, count, summands_same}
use Rattle.ta_report.proofs.Tells.{Tells, listed_same, name_tells, name_avoids, numbered_name, signed_same, MaskFits, mask_same}

count_is : (a : Automaton) → count a ≡ length a.parameters + length a.shared + length a.locations
count_is a = omega (arith, length-append (a.parameters ++ a.shared) a.locations, length-append a.parameters a.shared)

-- ---- sums and rows
record FormFits (n : ℕ) (f : Form) : Type 0 where
  pub constant : unsigned_abs f.constant ≤ LARGEST_NUMBER
  pub terms : AllByRecursion (TermFits n) f.terms

sum_same : (a b : Automaton) → SameNames a b → (t : ℕ) (f g : Form) (r s : List ℕ) → (t ≡ 43 → ⊥) → (t ≡ 45 → ⊥) → FormFits (count a) f → FormFits (count b) g
    → sum_text a f ++ (t ∷ r) ≡ sum_text b g ++ (t ∷ s) → (f ≡ g) × (r ≡ s)
sum_same a b same t f g r s plus minus p q e =
    let parts = summands_same a b same t plus minus f.constant g.constant p.constant q.constant f.terms g.terms r s p.terms q.terms e in
    (form-equal f g parts.1 parts.0, parts.2)

abbrev RowFits : ℕ → Row → Type 0
RowFits n r = FormFits n r.form

row_tells : (a b : Automaton) → SameNames a b → Tells (row_text a) (row_text b) (RowFits (count a)) (RowFits (count b))
row_tells a b same x y r s p q e =
    let end : List ℕ = codes ">= 0" ++ (10 ∷ []) in
    let parts = sum_same a b same 62 x.form y.form (codes "= 0" ++ (10 ∷ r)) (codes "= 0" ++ (10 ∷ s)) (λ h. omega (arith, h)) (λ h. omega (arith, h)) p q
    (sym (append_assoc (sum_text a x.form) end r) ∙ e ∙ append_assoc (sum_text b y.form) end s) in
    (row-equal x y parts.0, append_cancel_left (codes "= 0" ++ (10 ∷ [])) r s parts.1)

-- ---- conditions
abbrev ComparisonFits : ℕ → Comparison → Type 0
ComparisonFits n k = AllByRecursion (RowFits n) k.rows

comparison_tells : (a b : Automaton) → SameNames a b → Tells (comparison_text a) (comparison_text b) (ComparisonFits (count a)) (ComparisonFits (count b))
comparison_tells a b same x y r s p q e =
    let few = x.most in
    let some = y.most in
    let parts = listed_same (codes "rows ") (row_text a) (row_text b) (RowFits (count a)) (RowFits (count b)) (row_tells a b same) x.rows y.rows r s
    (omega arith) (omega arith) p q e in
    (comparison-equal x y parts.0, parts.1)

abbrev ConditionFits : ℕ → Condition → Type 0
ConditionFits n c = AllByRecursion (ComparisonFits n) c.comparisons

condition_same : (a b : Automaton) → SameNames a b → (word : List ℕ) (c d : Condition) (r s : List ℕ) → ConditionFits (count a) c → ConditionFits (count b) d
    → condition_text word a c ++ r ≡ condition_text word b d ++ s → (c ≡ d) × (r ≡ s)
condition_same a b same word c d r s p q e =
    let few = c.limit in
    let some = d.limit in
    let parts = listed_same word (comparison_text a) (comparison_text b) (ComparisonFits (count a)) (ComparisonFits (count b)) (comparison_tells a b same)
    c.comparisons d.comparisons r s (omega arith) (omega arith) p q e in
    (condition-equal c d parts.0, parts.1)

normal_within : (low high : ℕ) (ts : List (ℕ × ℤ)) → IsNormal low high ts → low ≤ high
normal_within low high [] h = h
normal_within low high (t ∷ ts) h = omega (arith, h.0, normal_within (t.0 + 1) high ts h.2)

terms_fit : (low high n : ℕ) (ts : List (ℕ × ℤ)) → high ≤ n → IsNormal low high ts → AllByRecursion (λ (t : ℕ × ℤ). unsigned_abs t.1 ≤ LARGEST_NUMBER) ts
    → AllByRecursion (TermFits n) ts
terms_fit low high n [] within h small = tt
terms_fit low high n (t ∷ ts) within h small =
    (record { place = omega (arith, normal_within (t.0 + 1) high ts h.2); small = small.0 }, terms_fit (t.0 + 1) high n ts within h.2 small.1)

form_fits : (places n : ℕ) (f : Form) → places ≤ n → FormOver places f → FormFits n f
form_fits places n f within over = record { constant = over.small.constant; terms = terms_fit 0 places n f.terms within over.below over.small.coefficients }

rows_fit : (places n : ℕ) (rs : List Row) → places ≤ n → AllByRecursion (RowOver places) rs → AllByRecursion (RowFits n) rs
rows_fit places n rs within over = each_weaker (RowOver places) (RowFits n) rs (λ r h. form_fits places n r.form within h) over

condition_fits : (places n : ℕ) (c : Condition) → places ≤ n → ConditionOver places c → ConditionFits n c
condition_fits places n c within over = each_weaker (λ (k : Comparison). AllByRecursion (RowOver places) k.rows) (ComparisonFits n) c.comparisons
    (λ k h. rows_fit places n k.rows within h) over

-- ---- updates and rules
shared_legal : (a : Automaton) → AllByRecursion Name a.shared
shared_legal a = each_back Name a.parameters a.shared (each_front Name (a.parameters ++ a.shared) a.locations a.shape.names_legal)

locations_legal : (a : Automaton) → AllByRecursion Name a.locations
locations_legal a = each_back Name (a.parameters ++ a.shared) a.locations a.shape.names_legal

shared_distinct : (a : Automaton) → Distinct a.shared
shared_distinct a = distinct_right a.parameters a.shared (distinct_left (a.parameters ++ a.shared) a.locations a.shape.names_distinct)

locations_distinct : (a : Automaton) → Distinct a.locations
locations_distinct a = distinct_right (a.parameters ++ a.shared) a.locations a.shape.names_distinct

update_out : (name number r : List ℕ) → (name ++ (codes " += " ++ (number ++ (10 ∷ [])))) ++ r ≡ name ++ (codes " += " ++ (number ++ (10 ∷ r)))
update_out name number r = append_assoc name (codes " += " ++ (number ++ (10 ∷ []))) r
    ∙ ap (λ xs. name ++ (codes " += " ++ xs)) (append_assoc number (10 ∷ []) r)

amount : (z : ℤ) → pos 1 ≤ℤ z → z ≤ℤ pos LARGEST_NUMBER → unsigned_abs z < 2 ^ 63
amount z low high = omega (arith, ints)

update_tells : (a b : Automaton) → SameNames a b → Tells (update_text a) (update_text b) (Update (length a.shared)) (Update (length b.shared))
update_tells a b same x y r s p q e =
    let u : List ℕ = signed_decimal x.1 ++ (10 ∷ r) in
    let v : List ℕ = signed_decimal y.1 ++ (10 ∷ s) in
    let name = numbered_name 32 a.shared b.shared x.0 y.0 (codes "+= " ++ u) (codes "+= " ++ v) refl same.shared (shared_legal a) (shared_distinct a) p.exists
    q.exists (sym (update_out (name_at a.shared x.0) (signed_decimal x.1) r) ∙ e ∙ update_out (name_at b.shared y.0) (signed_decimal y.1) s) in
    let number = signed_same 10 x.1 y.1 r s (omega arith) (amount x.1 p.least p.most) (amount y.1 q.least q.most) (append_cancel_left (codes "+= ") u v name.1)
    in
    ((λ i. (name.0 i, number.0 i)), number.1)

location_tells : (a b : Automaton) → SameNames a b → Tells (location_text a) (location_text b) (λ l. l < length a.locations) (λ l. l < length b.locations)
location_tells a b same x y r s p q e = numbered_name 10 a.locations b.locations x y r s refl same.locations (locations_legal a) (locations_distinct a) p q
    (sym (append_assoc (name_at a.locations x) (10 ∷ []) r) ∙ e ∙ append_assoc (name_at b.locations y) (10 ∷ []) s)

parameters_legal : (a : Automaton) → AllByRecursion Name a.parameters
parameters_legal a = each_front Name a.parameters a.shared (each_front Name (a.parameters ++ a.shared) a.locations a.shape.names_legal)

rule_out : (n f t m k l r : List ℕ) →
    ((n ++ (codes " " ++ (f ++ (codes " -> " ++ (t ++ codes " rise"))))) ++ (m ++ (codes ", fall" ++ (k ++ ((10 ∷ []) ++ l))))) ++ r ≡ n
    ++ (32 ∷ (f ++ (32 ∷ (codes "-> " ++ (t ++ (32 ∷ (codes "rise" ++ (m ++ (44 ∷ (codes " fall" ++ (k ++ (10 ∷ (l ++ r)))))))))))))
rule_out n f t m k l r = simp append_assoc

abbrev RuleOf : Automaton → Rule → Type 0
RuleOf a r = RuleWithin (length a.shared) (length a.locations) (length a.rise) (length a.fall) r

rise_fits : (a : Automaton) (r : Rule) → RuleOf a r → MaskFits r.rise
rise_fits a r is = (length a.rise, (let most = a.shape.limits.rise_limit in omega arith), is.rise_mask)

fall_fits : (a : Automaton) (r : Rule) → RuleOf a r → MaskFits r.fall
fall_fits a r is = (length a.fall, (let most = a.shape.limits.fall_limit in omega arith), is.fall_mask)

rule_tells : (a b : Automaton) → SameNames a b → Tells (rule_text a) (rule_text b) (RuleOf a) (RuleOf b)
rule_tells a b same x y r s p q e =
    let lx : List ℕ = listed (codes "updates ") (update_text a) x.updates in
    let ly : List ℕ = listed (codes "updates ") (update_text b) y.updates in
    let u5 : List ℕ = mask_text x.fall ++ (10 ∷ (lx ++ r)) in
    let v5 : List ℕ = mask_text y.fall ++ (10 ∷ (ly ++ s)) in
    let u4 : List ℕ = mask_text x.rise ++ (44 ∷ (codes " fall" ++ u5)) in
    let v4 : List ℕ = mask_text y.rise ++ (44 ∷ (codes " fall" ++ v5)) in
    let u3 : List ℕ = name_at a.locations x.to ++ (32 ∷ (codes "rise" ++ u4)) in
    let v3 : List ℕ = name_at b.locations y.to ++ (32 ∷ (codes "rise" ++ v4)) in
    let u2 : List ℕ = name_at a.locations x.from ++ (32 ∷ (codes "-> " ++ u3)) in
    let v2 : List ℕ = name_at b.locations y.from ++ (32 ∷ (codes "-> " ++ v3)) in
    let whole = sym (rule_out x.name (name_at a.locations x.from) (name_at a.locations x.to) (mask_text x.rise) (mask_text x.fall) lx r) ∙ e
    ∙ rule_out y.name (name_at b.locations y.from) (name_at b.locations y.to) (mask_text y.rise) (mask_text y.fall) ly s in
    let name = first_byte 32 x.name y.name u2 v2 (name_avoids 32 x.name refl p.name) (name_avoids 32 y.name refl q.name) whole in
    let from = numbered_name 32 a.locations b.locations x.from y.from (codes "-> " ++ u3) (codes "-> " ++ v3) refl same.locations (locations_legal a)
    (locations_distinct a) p.from q.from name.1 in
    let to = numbered_name 32 a.locations b.locations x.to y.to (codes "rise" ++ u4) (codes "rise" ++ v4) refl same.locations (locations_legal a)
    (locations_distinct a) p.to q.to (append_cancel_left (codes "-> ") u3 v3 from.1) in
    let rise = mask_same 44 x.rise y.rise (codes " fall" ++ u5) (codes " fall" ++ v5) refl (λ h. omega (arith, h)) (rise_fits a x p) (rise_fits b y q)
    (append_cancel_left (codes "rise") u4 v4 to.1) in
    let fall = mask_same 10 x.fall y.fall (lx ++ r) (ly ++ s) refl (λ h. omega (arith, h)) (fall_fits a x p) (fall_fits b y q)
    (append_cancel_left (codes " fall") u5 v5 rise.1) in
    let few = p.updates_limit in
    let some = q.updates_limit in
    let updates = listed_same (codes "updates ") (update_text a) (update_text b) (Update (length a.shared)) (Update (length b.shared)) (update_tells a b same)
    x.updates y.updates r s (omega arith) (omega arith) p.updates q.updates fall.1 in
    (rule-equal x y (record { name = name.0; from = from.0; to = to.0; rise = rise.0; fall = fall.0; updates = updates.0 }), updates.1)

-- ---- events and patterns
record EventFits (n : ℕ) (event : Event) : Type 0 where
  pub name : Name event.name
  pub after : MaskFits event.after
  pub condition : ConditionFits n event.condition

events_fit : (places n k : ℕ) (es : List Event) → places ≤ n → k + length es ≤ 32 → EachFrom (EventWithin places) k es → AllByRecursion (EventFits n) es
events_fit places n k [] within few each = tt
events_fit places n k (x ∷ xs) within few each = (
  record { name = each.0.name; after = (k, omega arith, each.0.after); condition = condition_fits places n x.condition within each.0.condition },
  events_fit
      places n (k + 1) xs within (omega arith) each.1,
)

event_out : (n m c r : List ℕ) → ((n ++ codes " after") ++ (m ++ ((10 ∷ []) ++ c))) ++ r ≡ n ++ (32 ∷ (codes "after" ++ (m ++ (10 ∷ (c ++ r)))))
event_out n m c r = simp append_assoc

event_tells : (a b : Automaton) → SameNames a b → Tells (event_text a) (event_text b) (EventFits (count a)) (EventFits (count b))
event_tells a b same x y r s p q e =
    let cx : List ℕ = condition_text (codes "holds ") a x.condition in
    let cy : List ℕ = condition_text (codes "holds ") b y.condition in
    let u1 : List ℕ = mask_text x.after ++ (10 ∷ (cx ++ r)) in
    let v1 : List ℕ = mask_text y.after ++ (10 ∷ (cy ++ s)) in
    let whole = sym (event_out x.name (mask_text x.after) cx r) ∙ e ∙ event_out y.name (mask_text y.after) cy s in
    let name = first_byte 32 x.name y.name (codes "after" ++ u1) (codes "after" ++ v1) (name_avoids 32 x.name refl p.name) (name_avoids 32 y.name refl q.name)
    whole in
    let after = mask_same 10 x.after y.after (cx ++ r) (cy ++ s) refl (λ h. omega (arith, h)) p.after q.after (append_cancel_left (codes "after") u1 v1 name.1)
    in
    let condition = condition_same a b same (codes "holds ") x.condition y.condition r s p.condition q.condition after.1 in
    (event-equal x y name.0 after.0 condition.0, condition.1)

pattern_out : (n m c l r : List ℕ) → ((n ++ codes " empty") ++ (m ++ ((10 ∷ []) ++ (c ++ l)))) ++ r ≡ n
    ++ (32 ∷ (codes "empty" ++ (m ++ (10 ∷ (c ++ (l ++ r))))))
pattern_out n m c l r = simp append_assoc

abbrev places : Automaton → ℕ
places a = length a.parameters + length a.shared + length a.locations

abbrev PatternOf : Automaton → Pattern → Type 0
PatternOf a p = PatternWithin (places a) (length a.locations) p

empty_fits : (a : Automaton) (p : Pattern) → PatternOf a p → MaskFits p.empty
empty_fits a p is = let few = a.shape.limits.locations_limit in (length a.locations, omega arith, is.empty)

all_counted : (a : Automaton) → places a ≤ count a
all_counted a = omega (arith, count_is a)

pattern_tells : (a b : Automaton) → SameNames a b → Tells (pattern_text a) (pattern_text b) (PatternOf a) (PatternOf b)
pattern_tells a b same x y r s p q e =
    let cx : List ℕ = condition_text (codes "start ") a x.start in
    let cy : List ℕ = condition_text (codes "start ") b y.start in
    let lx : List ℕ = listed (codes "events ") (event_text a) x.events in
    let ly : List ℕ = listed (codes "events ") (event_text b) y.events in
    let u1 : List ℕ = mask_text x.empty ++ (10 ∷ (cx ++ (lx ++ r))) in
    let v1 : List ℕ = mask_text y.empty ++ (10 ∷ (cy ++ (ly ++ s))) in
    let few = p.events_limit in
    let some = q.events_limit in
    let whole = sym (pattern_out x.name (mask_text x.empty) cx lx r) ∙ e ∙ pattern_out y.name (mask_text y.empty) cy ly s in
    let name = first_byte 32 x.name y.name (codes "empty" ++ u1) (codes "empty" ++ v1) (name_avoids 32 x.name refl p.name) (name_avoids 32 y.name refl q.name)
    whole in
    let empty = mask_same 10 x.empty y.empty (cx ++ (lx ++ r)) (cy ++ (ly ++ s)) refl (λ h. omega (arith, h)) (empty_fits a x p) (empty_fits b y q)
    (append_cancel_left (codes "empty") u1 v1 name.1) in
    let start = condition_same a b same (codes "start ") x.start y.start (lx ++ r) (ly ++ s)
    (condition_fits (places a) (count a) x.start (all_counted a) p.start) (condition_fits (places b) (count b) y.start (all_counted b) q.start) empty.1 in
    let events = listed_same (codes "events ") (event_text a) (event_text b) (EventFits (count a)) (EventFits (count b)) (event_tells a b same) x.events
    y.events r s (omega arith) (omega arith)
    (events_fit (places a) (count a) 0 x.events (all_counted a) (omega arith) p.events)
    (events_fit (places b) (count b) 0 y.events (all_counted b) (omega arith) q.events) start.1 in
    (pattern-equal x y name.0 start.0 empty.0 events.0, events.1)

-- ---- pairs
order_out : (m n r : List ℕ) → (m ++ (32 ∷ (n ++ (10 ∷ [])))) ++ r ≡ m ++ (32 ∷ (n ++ (10 ∷ r)))
order_out m n r = simp append_assoc

abbrev PairFits : ℕ × ℕ → Type 0
PairFits o = (o.0 < 2 ^ 32) × (o.1 < 2 ^ 32)

order_tells : Tells order_text order_text PairFits PairFits
order_tells x y r s p q e =
    let before = p.0 in
    let after = p.1 in
    let earlier = q.0 in
    let later = q.1 in
    let whole = sym (order_out (decimal x.0) (decimal x.1) r) ∙ e ∙ order_out (decimal y.0) (decimal y.1) s in
    let first = number_same 32 x.0 y.0 (decimal x.1 ++ (10 ∷ r)) (decimal y.1 ++ (10 ∷ s)) (omega arith) (omega arith) (omega arith) whole in
    let second = number_same 10 x.1 y.1 r s (omega arith) (omega arith) (omega arith) first.1 in
    ((λ i. (first.0 i, second.0 i)), second.1)

-- ---- automata
automaton_out : (n x1 x2 x3 x4 x5 x7 x8 x9 x10 r : List ℕ)
    → ((codes "automaton " ++ (n ++ (10 ∷ []))) ++ (x1 ++ (x2 ++ (x3 ++ (x4 ++ (x5 ++ ((codes "processes" ++ (10 ∷ [])) ++ (x7 ++ (x8 ++ (x9 ++ x10))))))))))
    ++ r ≡ codes "automaton " ++ (n ++ (10 ∷ (x1 ++ (x2 ++ (x3 ++ (x4 ++ (x5 ++ (112 ∷ (codes "rocesses" ++ (10 ∷ (x7 ++ (x8 ++ (x9 ++ (x10 ++ r))))))))))))))
automaton_out n x1 x2 x3 x4 x5 x7 x8 x9 x10 r = simp append_assoc

rise_rows : (a : Automaton) → AllByRecursion (RowFits (count a)) a.rise
rise_rows a = each_weaker (RiseRow (length a.parameters) (length a.shared)) (RowFits (count a)) a.rise
    (λ r is. form_fits (length a.parameters + length a.shared) (count a) r.form (omega (arith, count_is a)) is.over) a.shape.rise_rows

fall_rows : (a : Automaton) → AllByRecursion (RowFits (count a)) a.fall
fall_rows a = each_weaker (FallRow (length a.parameters) (length a.shared)) (RowFits (count a)) a.fall
    (λ r is. form_fits (length a.parameters + length a.shared) (count a) r.form (omega (arith, count_is a)) is.over) a.shape.fall_rows

initial_few : (a : Automaton) → length a.initial < 2 ^ 64
initial_few a = let most = a.shape.limits.locations_limit in omega (arith, rises_length 0 (length a.locations) a.initial (omega arith) a.shape.initial_rises)

processes_fit : (a : Automaton) → FormFits (count a) a.processes
processes_fit a = form_fits (length a.parameters) (count a) a.processes (omega (arith, count_is a)) a.shape.processes_over

resilience_fits : (a : Automaton) → ConditionFits (count a) a.resilience
resilience_fits a = condition_fits (length a.parameters) (count a) a.resilience (omega (arith, count_is a)) a.shape.resilience_over

automaton_same : (a b : Automaton) (r s : List ℕ) → automaton_text a ++ r ≡ automaton_text b ++ s → (a ≡ b) × (r ≡ s)
automaton_same a b r s e =
    let u1 : List ℕ = listed (codes "parameters ") name_text a.parameters in
    let v1 : List ℕ = listed (codes "parameters ") name_text b.parameters in
    let u2 : List ℕ = listed (codes "shared ") name_text a.shared in
    let v2 : List ℕ = listed (codes "shared ") name_text b.shared in
    let u3 : List ℕ = listed (codes "locations ") name_text a.locations in
    let v3 : List ℕ = listed (codes "locations ") name_text b.locations in
    let u4 : List ℕ = listed (codes "initial ") (location_text a) a.initial in
    let v4 : List ℕ = listed (codes "initial ") (location_text b) b.initial in
    let u5 : List ℕ = sum_text a a.processes in
    let v5 : List ℕ = sum_text b b.processes in
    let u7 : List ℕ = condition_text (codes "resilience ") a a.resilience in
    let v7 : List ℕ = condition_text (codes "resilience ") b b.resilience in
    let u8 : List ℕ = listed (codes "rise ") (row_text a) a.rise in
    let v8 : List ℕ = listed (codes "rise ") (row_text b) b.rise in
    let u9 : List ℕ = listed (codes "fall ") (row_text a) a.fall in
    let v9 : List ℕ = listed (codes "fall ") (row_text b) b.fall in
    let u10 : List ℕ = listed (codes "rules ") (rule_text a) a.rules in
    let v10 : List ℕ = listed (codes "rules ") (rule_text b) b.rules in
    let a9 : List ℕ = u10 ++ r in
    let b9 : List ℕ = v10 ++ s in
    let a8 : List ℕ = u9 ++ a9 in
    let b8 : List ℕ = v9 ++ b9 in
    let a7 : List ℕ = u8 ++ a8 in
    let b7 : List ℕ = v8 ++ b8 in
    let a6 : List ℕ = u7 ++ a7 in
    let b6 : List ℕ = v7 ++ b7 in
    let a5 : List ℕ = codes "rocesses" ++ (10 ∷ a6) in
    let b5 : List ℕ = codes "rocesses" ++ (10 ∷ b6) in
    let a4 : List ℕ = u5 ++ (112 ∷ a5) in
    let b4 : List ℕ = v5 ++ (112 ∷ b5) in
    let a3 : List ℕ = u4 ++ a4 in
    let b3 : List ℕ = v4 ++ b4 in
    let a2 : List ℕ = u3 ++ a3 in
    let b2 : List ℕ = v3 ++ b3 in
    let a1 : List ℕ = u2 ++ a2 in
    let b1 : List ℕ = v2 ++ b2 in
    let a0 : List ℕ = u1 ++ a1 in
    let b0 : List ℕ = v1 ++ b1 in
    let m = a.shape.limits in
    let n = b.shape.limits in
    let m1 = m.parameters_limit in
    let m2 = m.shared_limit in
    let m3 = m.locations_limit in
    let m4 = m.rise_limit in
    let m5 = m.fall_limit in
    let m6 = m.rules_limit in
    let n1 = n.parameters_limit in
    let n2 = n.shared_limit in
    let n3 = n.locations_limit in
    let n4 = n.rise_limit in
    let n5 = n.fall_limit in
    let n6 = n.rules_limit in
    let whole = sym (automaton_out a.name u1 u2 u3 u4 u5 u7 u8 u9 u10 r) ∙ e ∙ automaton_out b.name v1 v2 v3 v4 v5 v7 v8 v9 v10 s in
    let name = first_byte 10 a.name b.name a0 b0 (name_avoids 10 a.name refl a.shape.name_legal) (name_avoids 10 b.name refl b.shape.name_legal)
    (append_cancel_left (codes "automaton ") (a.name ++ (10 ∷ a0)) (b.name ++ (10 ∷ b0)) whole) in
    let parameters = listed_same (codes "parameters ") name_text name_text Name Name name_tells a.parameters b.parameters a1 b1 (omega arith) (omega arith)
    (parameters_legal a) (parameters_legal b) name.1 in
    let shared = listed_same (codes "shared ") name_text name_text Name Name name_tells a.shared b.shared a2 b2 (omega arith) (omega arith) (shared_legal a)
    (shared_legal b) parameters.1 in
    let locations = listed_same (codes "locations ") name_text name_text Name Name name_tells a.locations b.locations a3 b3 (omega arith) (omega arith)
    (locations_legal a) (locations_legal b) shared.1 in
    let same : SameNames a b = record { parameters = parameters.0; shared = shared.0; locations = locations.0 } in
    let initial = listed_same (codes "initial ") (location_text a) (location_text b) (λ l. l < length a.locations) (λ l. l < length b.locations)
    (location_tells a b same) a.initial b.initial a4 b4 (initial_few a) (initial_few b)
    (each_below 0 (length a.locations) a.initial a.shape.initial_rises) (each_below 0 (length b.locations) b.initial b.shape.initial_rises) locations.1 in
    let processes = sum_same a b same 112 a.processes b.processes a5 b5 (λ h. omega (arith, h)) (λ h. omega (arith, h)) (processes_fit a) (processes_fit b)
    initial.1 in
    let resilience = condition_same a b same (codes "resilience ") a.resilience b.resilience a7 b7 (resilience_fits a) (resilience_fits b)
    (append_cancel_left (codes "rocesses" ++ (10 ∷ [])) a6 b6 processes.1) in
    let rise = listed_same (codes "rise ") (row_text a) (row_text b) (RowFits (count a)) (RowFits (count b)) (row_tells a b same) a.rise b.rise a8 b8
    (omega arith) (omega arith) (rise_rows a) (rise_rows b) resilience.1 in
    let fall = listed_same (codes "fall ") (row_text a) (row_text b) (RowFits (count a)) (RowFits (count b)) (row_tells a b same) a.fall b.fall a9 b9
    (omega arith) (omega arith) (fall_rows a) (fall_rows b) rise.1 in
    let rules = listed_same (codes "rules ") (rule_text a) (rule_text b) (RuleOf a) (RuleOf b) (rule_tells a b same) a.rules b.rules r s (omega arith)
    (omega arith) a.shape.rules_within b.shape.rules_within fall.1 in (
      automaton-equal a b (record {
        name = name.0;
        parameters = parameters.0;
        shared = shared.0;
        locations = locations.0;
        initial = initial.0;
        processes =
            processes.0;
        resilience = resilience.0;
        rise = rise.0;
        fall = fall.0;
        rules = rules.0;
      }),
      rules.1,
    )

-- ---- files
file_out : (x u1 u2 more : List ℕ) → (x ++ (u1 ++ u2)) ++ more ≡ x ++ (u1 ++ (u2 ++ more))
file_out x u1 u2 more = append_assoc x (u1 ++ u2) more ∙ ap (λ xs. x ++ xs) (append_assoc u1 u2 more)

-- a text is of one file, whatever pairs and whatever else stand behind it
module _ (f g : File) (orders others : List (ℕ × ℕ)) (more rest : List ℕ) (e : show_text f orders ++ more ≡ show_text g others ++ rest) where
  pub parts : (f ≡ g) × (listed (codes "orders ") order_text orders ++ more ≡ listed (codes "orders ") order_text others ++ rest)
  parts =
      let a = f.automaton in
      let b = g.automaton in
      let u1 : List ℕ = listed (codes "patterns ") (pattern_text a) f.patterns in
      let v1 : List ℕ = listed (codes "patterns ") (pattern_text b) g.patterns in
      let u2 : List ℕ = listed (codes "orders ") order_text orders in
      let v2 : List ℕ = listed (codes "orders ") order_text others in
      let whole = sym (file_out (automaton_text a) u1 u2 more) ∙ e ∙ file_out (automaton_text b) v1 v2 rest in
      let automaton = automaton_same a b (u1 ++ (u2 ++ more)) (v1 ++ (v2 ++ rest)) whole in
      let same : SameNames a b = record
      { parameters = (λ i. (automaton.0 i).parameters); shared = (λ i. (automaton.0 i).shared); locations = (λ i. (automaton.0 i).locations) } in
      let few = f.shape.limit in
      let some = g.shape.limit in
      let patterns = listed_same (codes "patterns ") (pattern_text a) (pattern_text b) (PatternOf a) (PatternOf b) (pattern_tells a b same) f.patterns
      g.patterns (u2 ++ more) (v2 ++ rest)
      (omega arith) (omega arith) f.shape.within g.shape.within automaton.1 in
      (file-equal f g automaton.0 patterns.0, patterns.1)

pub file_same : (f g : File) (orders others : List (ℕ × ℕ)) → show_text f orders ≡ show_text g others → f ≡ g
file_same f g orders others e = (parts f g orders others [] [] (ap (λ text. text ++ []) e)).0

pub texts_differ : ShowsDiffer
texts_differ f g orders others more rest p q e =
    let files = parts f g orders others more rest e in
    let pairs = listed_same (codes "orders ") order_text order_text PairFits PairFits order_tells orders others more rest p.count q.count p.fit q.fit files.1 in
    (files.0, pairs.0, pairs.1)
