-- Rules without an error mean rules and guards.
use Rattle.ta_meaning.proofs.Common.{Limits, one_bit_more, ◌≡◌, ◌⊎◌, inl, inr, ⊎_elim, ℕ, ℤ, pos, ◌*◌, ◌%◌, ◌^◌, ◌<◌, ◌≤◌, Bool, true, false, not, ltb, ◌&&◌}
use Rattle.ta_meaning.proofs.Common.{cond, eqb, bit_or, List, [], ◌∷◌, ◌++◌, map, length, Ok, Contains, refl, sym, ap, ◌∙◌, arith, w16, w64, cases_Bool}
use Rattle.ta_meaning.proofs.Common.{length-map, bit_at_set_same, bit_at_set_other, IsNormal, Row, plain_comparison, plain_update, plain_rule, TreeComparison}
use Rattle.ta_meaning.proofs.Common.{TreeUpdate, TreeRule, Rule, Names, all_names, guard_names, has_name, number_of, no_guards, is_negative, is_positive, falls}
use Rattle.ta_meaning.proofs.Common.{has_row, is_no_threshold, is_one_more, is_past_limit, Linear, comparison_rows, where_, else_, in_guards, comparison_faults}
use Rattle.ta_meaning.proofs.Common.{guard_faults, guards_faults, guards_with, declared_faults, used_faults, digits_faults, updates_faults, rule_faults}
use Rattle.ta_meaning.proofs.Common.{rules_faults, guards_then, any_shared, is_no_guard, Has, RowAnswers, linear_of, guards_so_far, GuardsKept, GuardNumbered}
use Rattle.ta_meaning.proofs.Common.{GuardsNumbered, NumberFits, WithNumber, names_at, UpdatesRead, RuleRead, ResolvedRules, GuardList, GuardMasks, GuardNumber}
use Rattle.ta_meaning.proofs.Common.{length-append, and_false, not-false, empty_left, empty_right}
use Rattle.ta_meaning.proofs.Answering.{not-where, none-else-left, none-else-right}
use Rattle.ta_meaning.proofs.UsedNames.{used_is_allowed}
use Rattle.ta_meaning.proofs.ListedNames.{has_name-where}
use Rattle.ta_meaning.proofs.ListedPlaces.{number_seen}
use Rattle.ta_meaning.proofs.UpdateReading.{UpdatesReading, updates_begin, updates_more, updates_end}
use Rattle.ta_meaning.proofs.GuardSigns.{falls_same, no_threshold_same}
use Rattle.ta_meaning.proofs.GuardNumbers.{size, has_linear, linear_has, OneRow, one_row_over, comparison_rows_are, rise_normal, fall_normal, rise_numbered}
use Rattle.ta_meaning.proofs.GuardNumbers.{fall_numbered, not_past}
use Rattle.ta_meaning.proofs.GuardReading.{GuardsReading, number_fits, reading_begins, reading_more, reading_ends}
use Rattle.ta_meaning.proofs.RuleSteps.{rule_read}
use Rattle.ta_meaning.proofs.RuleSequence.{RulesReading, rules_begin, rules_more, rules_end}
use Rattle.ta_meaning.proofs.MadeForms.{comparison_exists}
use Rattle.ta_meaning.proofs.MadePatterns.{FineNames}
use Rattle.ta_syntax.proofs.BuiltSums.{vec_of}
use Rattle.std.proofs.lemmas.Bool.{ltb-true}
use Rattle.ta_syntax.specs.declared.fault.FileFault.TheVariants as fault
use Rattle.ta_meaning.specs.declared.guards.GuardNumber.TheVariants as number

-- ---- updates
module _ (ns : Names) where
  updates_from : (all left : List TreeUpdate) (seen : List ℕ) (updates : List (ℕ × ℤ)) → updates_faults ns [] all ≡ [] → UpdatesReading ns all left seen updates
      → (read : List (ℕ × ℤ)) × UpdatesRead ns (map plain_update all) read
  updates_from all [] seen updates none r = (updates, (updates_end ns all [] seen updates refl r).1)
  updates_from all (u ∷ left) seen updates none r =
      let before = names_at ns.shared seen in
      let here = sym r.faults ∙ none in
      let once = where_ (has_name before u.name.name) (fault.Duplicate u.name.at) in
      let used = used_faults (all_names ns) ns.shared u.name in
      let rest = updates_faults ns (before ++ u.name.name ∷ []) left in
      let variable = empty_left (else_ once used) (digits_faults u.amount ++ rest) here in
      let digits = empty_left (digits_faults u.amount) rest (empty_right (else_ once used) (digits_faults u.amount ++ rest) here) in
      let new = not-where (has_name before u.name.name) (fault.Duplicate u.name.at) (none-else-left once used variable) in
      let place = has_name-where ns.shared u.name.name (used_is_allowed (all_names ns) ns.shared u.name (none-else-right once used variable)) in
      let unseen : Contains seen place.0 → ⊥ = λ c. let again = number_seen ns.shared seen place.0 u.name.name c place.1 in absurd cc in
      let amount = number_of u.amount.text in
      let after = cond (eqb amount 0) updates (updates ++ (place.0, pos amount) ∷ []) in
      updates_from all left (seen ++ place.0 ∷ []) after none
      (updates_more ns all left u seen updates after place.0 amount r variable (record { named = place.1; new = unseen }) digits refl refl)

  updates_exist : (updates : List TreeUpdate) → updates_faults ns [] updates ≡ [] → (read : List (ℕ × ℤ)) × UpdatesRead ns (map plain_update updates) read
  updates_exist updates none = updates_from updates updates [] [] none (updates_begin ns updates)

-- ---- one guard

-- where a row is, or the rows with it
record Placed (rows : List Row) (row : Row) (limit at : ℕ) : Type 0 where
  after : List Row
  n : ℕ
  answers : RowAnswers rows row limit at after (Ok n)
  few : length after ≤ limit

place_row : (rows : List Row) (row : Row) (limit at : ℕ) → length rows ≤ limit → Has rows row ⊎ ((¬ Has rows row) × (length rows < limit))
    → Placed rows row limit at
place_row rows row limit at few (inl has) = record { after = rows; n = has.0; answers = inl (refl, has.1); few = few }
place_row rows row limit at few (inr new) = record
    { after = rows ++ row ∷ []; n = length rows; answers = inr (refl, refl, new.1, new.0); few = omega (arith, new.1, length-append rows (row ∷ [])) }

abbrev IsMore : ℕ → List Linear → Linear → Bool
IsMore limit rows r = not (has_row rows r) && not (ltb (length rows) limit)

-- the row is there, or there is room
there_or_room : (places limit : ℕ) (rows : List Row) (row : Row) → (has_row (map (linear_of places) rows) (linear_of places row) ≡ true → Has rows row)
    → IsMore limit (map (linear_of places) rows) (linear_of places row) ≡ false → Has rows row ⊎ ((¬ Has rows row) × (length rows < limit))
there_or_room places limit rows row there no_more =
    let count : length (map (linear_of places) rows) ≡ length rows = length-map rows (linear_of places) in
    ⊎_elim
    (λ (h : has_row (map (linear_of places) rows) (linear_of places row) ≡ true). inl (there h))
    (λ (h : has_row (map (linear_of places) rows) (linear_of places row) ≡ false).
    let none : ¬ Has rows row = λ has. let told = has_linear places rows row has in absurd cc in
    let room : not (ltb (length (map (linear_of places) rows)) limit) ≡ false = rw h at no_more in
    let low : length (map (linear_of places) rows) < limit = ltb-true _ limit (not-false _ room) in inr (none, omega arith))
    (cases_Bool (has_row (map (linear_of places) rows) (linear_of places row)))

-- the only row of a comparison that is a guard
only_row : (parameters : ℕ) (rows : List Row) → is_no_guard parameters rows ≡ false → (row : Row) × (rows ≡ row ∷ [])
    × ((any_shared is_negative parameters row.form.terms && any_shared is_positive parameters row.form.terms) ≡ false)
only_row parameters [] h = absurd (let e : true ≡ false = h in cc)
only_row parameters (r ∷ []) h = (r, refl, h)
only_row parameters (r ∷ q ∷ rows) h = absurd (let e : true ≡ false = h in cc)

abbrev MadeGuard : Limits → Names → GuardList → TreeComparison → Type 0
MadeGuard l ns before c = (after : GuardList) × (n : GuardNumber) × GuardNumbered l ns before (plain_comparison c) after n

module _ (l : Limits) (ns : Names) (before : GuardList) (kept : GuardsKept l ns before) (c : TreeComparison) (row : Row) (one : OneRow ns c row) where
  abbrev parameters : ℕ
  parameters = length ns.parameters

  abbrev linear : Linear
  linear = linear_of (size ns) row

  abbrev normal : IsNormal 0 (size ns) row.form.terms
  normal = (one_row_over ns c row one).below

  made_rise : any_shared is_negative parameters row.form.terms ≡ false → IsMore l.rises (guards_so_far ns before).rise linear ≡ false → MadeGuard l ns before c
  made_rise rises no_more =
      let rows = before.rise.items in
      let p = place_row rows row l.rises c.at kept.rise_limit
      (there_or_room (size ns) l.rises rows row (linear_has (size ns) rows row (rise_normal l ns before kept) normal) no_more) in
      let after : GuardList = record { rise = vec_of p.after (omega (arith, p.few, l.few_rises)); fall = before.fall } in
      (after, number.Rise p.n, (rise_numbered l ns before after c row p.n kept one rises p.answers refl).1)

  made_fall : any_shared is_negative parameters row.form.terms ≡ true → any_shared is_positive parameters row.form.terms ≡ false
      → IsMore l.falls (guards_so_far ns before).fall linear ≡ false → MadeGuard l ns before c
  made_fall drops never no_more =
      let rows = before.fall.items in
      let p = place_row rows row l.falls c.at kept.fall_limit
      (there_or_room (size ns) l.falls rows row (linear_has (size ns) rows row (fall_normal l ns before kept) normal) no_more) in
      let after : GuardList = record { rise = before.rise; fall = vec_of p.after (omega (arith, p.few, l.few_falls)) } in
      (after, number.Fall p.n, (fall_numbered l ns before after c row p.n kept one drops never p.answers refl).1)

  -- by the sign of a shared variable
  made_guard : (any_shared is_negative parameters row.form.terms && any_shared is_positive parameters row.form.terms) ≡ false
      → is_past_limit l parameters (guards_so_far ns before) linear ≡ false → MadeGuard l ns before c
  made_guard threshold no_more =
      let same = falls_same parameters (size ns) row normal in
      ⊎_elim
      (λ (h : any_shared is_negative parameters row.form.terms ≡ true).
      let falling : falls parameters linear ≡ true = sym same ∙ h in
      made_fall h (and_false (any_shared is_negative parameters row.form.terms) (any_shared is_positive parameters row.form.terms) threshold h)
      (rw falling at no_more))
      (λ (h : any_shared is_negative parameters row.form.terms ≡ false).
      let rising : falls parameters linear ≡ false = sym same ∙ h in
      made_rise h (rw rising at no_more))
      (cases_Bool (any_shared is_negative parameters row.form.terms))

few_guard_names : (ns : Names) → FineNames ns → length (guard_names ns) ≤ 224
few_guard_names ns fine = omega (arith, length-append ns.parameters ns.shared, fine.parameters, fine.shared)

module _ (l : Limits) (ns : Names) (fine : FineNames ns) where
  guard_exists : (before : GuardList) (c : TreeComparison) → GuardsKept l ns before
      → guard_faults l (length ns.parameters) (in_guards ns) (guards_so_far ns before) c ≡ [] → MadeGuard l ns before c
  guard_exists before c kept none =
      let parameters = length ns.parameters in
      let g = guards_so_far ns before in
      let ls = comparison_rows (guard_names ns) (plain_comparison c) in
      let threshold = where_ (is_no_threshold parameters ls) (fault.NotThreshold c.at) in
      let more = where_ (is_one_more l parameters g ls) (fault.TooMany c.at) in
      let later = none-else-right (comparison_faults (in_guards ns) c) (else_ threshold more) none in
      let clean = none-else-left (comparison_faults (in_guards ns) c) (else_ threshold more) none in
      let is_threshold = not-where (is_no_threshold parameters ls) (fault.NotThreshold c.at) (none-else-left threshold more later) in
      let is_no_more = not-where (is_one_more l parameters g ls) (fault.TooMany c.at) (none-else-right threshold more later) in
      let k = comparison_exists (in_guards ns) c (few_guard_names ns fine) clean in
      let rows_are = comparison_rows_are ns c k.0 k.1 in
      let no_guard : is_no_guard parameters k.0.rows ≡ false = no_threshold_same parameters (size ns) k.0.rows k.1.over
      ∙ ap (is_no_threshold parameters) (sym rows_are) ∙ is_threshold in
      let r = only_row parameters k.0.rows no_guard in
      let one : OneRow ns c r.0 = record { none = clean; rows = k.0; resolved = k.1; only = r.1 } in
      let linears : ls ≡ linear_of (size ns) r.0 ∷ [] = rows_are ∙ ap (map (linear_of (size ns))) r.1 in
      made_guard l ns before kept c r.0 one r.2
      (not_past l parameters g (linear_of (size ns) r.0) (ap (is_no_threshold parameters) (sym linears) ∙ is_threshold)
      (ap (is_one_more l parameters g) (sym linears) ∙ is_no_more))

  -- masks with one more guard
  number_exists : (masks : GuardMasks) (n : GuardNumber) → NumberFits n → (more : GuardMasks) × WithNumber masks n more
  number_exists masks (number.Rise n) fits = (
    record { rise = bit_or masks.rise (1 * 2 ^ n % 18446744073709551616); fall = masks.fall },
    (
      one_bit_more masks.rise n (bit_or masks.rise (1 * 2 ^ n % 18446744073709551616)) (bit_at_set_same w64 masks.rise n fits)
          (λ i ne. bit_at_set_other w64 masks.rise n fits i ne),
      refl,
    ),
  )
  number_exists masks (number.Fall n) fits = (
    record { rise = masks.rise; fall = bit_or masks.fall (1 * 2 ^ n % 65536) },
    (
      refl,
      one_bit_more masks.fall n (bit_or masks.fall (1 * 2 ^ n % 65536)) (bit_at_set_same w16 masks.fall n fits)
          (λ i ne. bit_at_set_other w16 masks.fall n fits i ne),
    ),
  )

  guards_from : (first now : GuardList) (all left : List TreeComparison) (masks : GuardMasks)
      → guards_faults l (length ns.parameters) (in_guards ns) (guards_so_far ns first) all ≡ [] → GuardsReading l ns first now all left masks
      → (after : GuardList)
      × (bits : GuardMasks) × GuardsNumbered l ns first (map plain_comparison all) after bits
  guards_from first now all [] masks none r = (now, masks, (reading_ends l ns first now all [] masks refl r).1)
  guards_from first now all (c ∷ left) masks none r =
      let parameters = length ns.parameters in
      let g = guards_so_far ns now in
      let here = empty_left (guard_faults l parameters (in_guards ns) g c)
      (guards_faults l parameters (in_guards ns) (guards_then l parameters (in_guards ns) g c) left) (sym r.faults ∙ none) in
      let made = guard_exists now c r.numbered.kept here in
      let masked = number_exists masks made.1 (number_fits l ns now made.0 (plain_comparison c) made.1 made.2) in
      guards_from first made.0 all left masked.0 none (reading_more l ns first now made.0 all left c masks masked.0 made.1 r here made.2 masked.1)

  -- ---- rules

  abbrev MadeRule : List (List ℕ) → GuardList → TreeRule → Type 0
  MadeRule names before r = (after : GuardList) × (rule : Rule) × RuleRead l ns names before r (names ++ r.name.name ∷ []) after rule

  rule_exists : (names : List (List ℕ)) (before : GuardList) (r : TreeRule) → GuardsKept l ns before → rule_faults l ns names (guards_so_far ns before) r ≡ []
      → MadeRule names before r
  rule_exists names before r kept none =
      let g = guards_so_far ns before in
      let name = declared_faults names r.name in
      let from = used_faults (all_names ns) ns.locations r.from in
      let to = used_faults (all_names ns) ns.locations r.to in
      let when = guards_faults l (length ns.parameters) (in_guards ns) g r.guards in
      let do_ = updates_faults ns [] r.updates in
      let after_name = empty_right name (from ++ (to ++ (when ++ do_))) none in
      let after_from = empty_right from (to ++ (when ++ do_)) after_name in
      let after_to = empty_right to (when ++ do_) after_from in
      let source = has_name-where ns.locations r.from.name
      (used_is_allowed (all_names ns) ns.locations r.from (empty_left from (to ++ (when ++ do_)) after_name)) in
      let target = has_name-where ns.locations r.to.name (used_is_allowed (all_names ns) ns.locations r.to (empty_left to (when ++ do_) after_from)) in
      let guards = guards_from before before r.guards r.guards (record { rise = 0; fall = 0 }) (empty_left when do_ after_to)
      (reading_begins l ns before r.guards kept) in
      let updates = updates_exist ns r.updates (empty_right when do_ after_to) in
      let rule : Rule = record { name = r.name.name; from = source.0; to = target.0; rise = guards.1.rise; fall = guards.1.fall; updates = updates.0 } in (
        guards.0,
        rule,
        rule_read l ns names (names ++ r.name.name ∷ []) before guards.0 r guards.1 updates.0 rule
            (empty_left name (from ++ (to ++ (when ++ do_))) none) refl source.1 target.1 guards.2 updates.1 refl refl refl refl,
      )

  abbrev MadeRules : List TreeRule → Type 0
  MadeRules rules = (rise fall : List Row) × (resolved : List Rule) × ResolvedRules l ns (map plain_rule rules) rise fall resolved

  rules_from : (all left : List TreeRule) (names : List (List ℕ)) (guards : GuardList) (rules : List Rule) → rules_faults l ns [] no_guards all ≡ []
      → RulesReading l ns all left names guards rules → MadeRules all
  rules_from all [] names guards rules none r = (guards.rise.items, guards.fall.items, rules, (rules_end l ns all [] names guards rules refl r).1)
  rules_from all (t ∷ left) names guards rules none r =
      let g = guards_so_far ns guards in
      let here = empty_left (rule_faults l ns names g t)
      (rules_faults l ns (names ++ t.name.name ∷ []) (guards_with l (length ns.parameters) (in_guards ns) g t.guards) left) (sym r.faults ∙ none) in
      let made = rule_exists names guards t r.kept here in
      rules_from all left (names ++ t.name.name ∷ []) made.0 (rules ++ made.1 ∷ []) none
      (rules_more l ns all left t names (names ++ t.name.name ∷ []) guards made.0 rules made.1 r here made.2)

  pub rules_exist : (rules : List TreeRule) → rules_faults l ns [] no_guards rules ≡ [] → MadeRules rules
  rules_exist rules none =
      let start : GuardList = record { rise = vec_of [] (omega arith); fall = vec_of [] (omega arith) } in
      rules_from rules rules [] start [] none (rules_begin l ns rules rules [] start [] refl refl refl refl refl)
