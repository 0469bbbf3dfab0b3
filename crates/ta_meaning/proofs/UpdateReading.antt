-- the updates of a rule, read one after another
use Rattle.ta_meaning.proofs.Common.{◌≡◌, inl, inr, ℕ, ℤ, pos, ◌+◌, ◌<◌, ◌≤◌, List, [], ◌∷◌, ◌++◌, map, length, get_or, eqb, cond, ltb, slice_get, Some}
use Rattle.ta_meaning.proofs.Common.{Contains, arith, sym, ap, ◌∙◌, refl, subst, ints, append-nil, map_push, length-map, Contains-append_left}
use Rattle.ta_meaning.proofs.Common.{Contains-append_right, slice_get_within, get_or_from_slice_get, ltb-false, eqb_tells, AllByRecursion, distinct_push}
use Rattle.ta_meaning.proofs.Common.{each_at, each_push, each_weaker, contains_at, PlainUpdate, plain_update, TreeUpdate, FileFault, Distinct, Update}
use Rattle.ta_meaning.proofs.Common.{variable_of, Names, number_of, FirstOrMemory, digits_faults, updates_faults, MeansUpdates, names_at, variable_faults}
use Rattle.ta_meaning.proofs.Common.{IsNewVariable, UpdatesRead, append_assoc, length-append, empty_before}
use Rattle.ta_meaning.proofs.Answering.{append-left-first, append-right-first, not-where}
use Rattle.ta_syntax.specs.declared.fault.FileFault.TheVariants as fault

-- the updates so far are read, and the errors of all are those of the updates left
pub record UpdatesReading (ns : Names) (all left : List TreeUpdate) (seen : List ℕ) (updates : List (ℕ × ℤ)) : Type 0 where
  pub faults : updates_faults ns [] all ≡ updates_faults ns (names_at ns.shared seen) left
  pub known : AllByRecursion (λ x. x < length ns.shared) seen
  pub means : (rest : List (ℕ × ℤ)) → MeansUpdates ns.shared (map plain_update left) rest → MeansUpdates ns.shared (map plain_update all) (updates ++ rest)
  pub each : AllByRecursion (Update (length ns.shared)) updates
  pub distinct : Distinct (map variable_of updates)
  pub from_seen : AllByRecursion (λ x. Contains seen x) (map variable_of updates)
  pub few : length updates + length left ≤ length all

pub updates_begin : (ns : Names) (all : List TreeUpdate) → UpdatesReading ns all all [] []
updates_begin ns all = record {
  faults = refl;
  known = tt;
  means = λ rest h. h;
  each = tt;
  distinct = tt;
  from_seen = tt;
  few = omega arith;
}

pub variable_stops : (ns : Names) (all left : List TreeUpdate) (u : TreeUpdate) (seen : List ℕ) (updates : List (ℕ × ℤ)) (e : FileFault)
    → UpdatesReading ns all (u ∷ left) seen updates
    → FirstOrMemory (variable_faults ns (names_at ns.shared seen) u.name) e → FirstOrMemory (updates_faults ns [] all) e
variable_stops ns all left u seen updates e reading h =
    subst (λ (fs : List FileFault). FirstOrMemory fs e) (sym reading.faults) (append-left-first (variable_faults ns (names_at ns.shared seen) u.name) _ e h)

pub amount_stops : (ns : Names) (all left : List TreeUpdate) (u : TreeUpdate) (seen : List ℕ) (updates : List (ℕ × ℤ)) (e : FileFault)
    → UpdatesReading ns all (u ∷ left) seen updates
    → variable_faults ns (names_at ns.shared seen) u.name ≡ [] → FirstOrMemory (digits_faults u.amount) e → FirstOrMemory (updates_faults ns [] all) e
amount_stops ns all left u seen updates e reading none h =
    subst (λ (fs : List FileFault). FirstOrMemory fs e) (sym reading.faults)
    (append-right-first (variable_faults ns (names_at ns.shared seen) u.name) _ e none (append-left-first (digits_faults u.amount) _ e h))

-- an update of a variable, with those so far
means_more : (shared : List (List ℕ)) (us : List PlainUpdate) (u : PlainUpdate) (x amount : ℕ) (updates after : List (ℕ × ℤ)) (all : List PlainUpdate)
    → slice_get shared x ≡ Some u.name → Contains shared u.name → amount ≡ number_of u.amount
    → after ≡ cond (eqb amount 0) updates (updates ++ (x, pos amount) ∷ [])
    → ((rest : List (ℕ × ℤ)) → MeansUpdates shared (u ∷ us) rest → MeansUpdates shared all (updates ++ rest))
    → (rest : List (ℕ × ℤ)) → MeansUpdates shared us rest → MeansUpdates shared all (after ++ rest)
means_more shared us u x amount updates after all named known is grown means rest h = elim (eqb_tells amount 0) [
  | inl e ↦ (
      let same : after ≡ updates = grown ∙ ap (λ b. cond b updates (updates ++ (x, pos amount) ∷ [])) e.0 in
      subst (λ (zs : List (ℕ × ℤ)). MeansUpdates shared all (zs ++ rest)) (sym same) (means rest (inl (sym is ∙ e.1, known, h)))
      )
  | inr ne ↦ (
      let more : after ≡ updates ++ (x, pos amount) ∷ [] = grown ∙ ap (λ b. cond b updates (updates ++ (x, pos amount) ∷ [])) ne.0 in
      let one : MeansUpdates shared (u ∷ us) ((x, pos amount) ∷ rest) = inr (λ z. ne.1 (is ∙ z), (x, rest, named, ap (λ (n : ℕ). (x, pos n) ∷ rest) is, h)) in
      subst (λ (zs : List (ℕ × ℤ)). MeansUpdates shared all zs)
      (sym (ap (λ (zs : List (ℕ × ℤ)). zs ++ rest) more ∙ append_assoc updates ((x, pos amount) ∷ []) rest)) (means ((x, pos amount) ∷ rest) one)
      )
]

pub updates_more : (ns : Names) (all left : List TreeUpdate) (u : TreeUpdate) (seen : List ℕ) (updates after : List (ℕ × ℤ)) (x amount : ℕ)
    → UpdatesReading ns all (u ∷ left) seen updates
    → variable_faults ns (names_at ns.shared seen) u.name ≡ [] → IsNewVariable ns.shared seen u.name.name x → digits_faults u.amount ≡ []
    → amount ≡ number_of u.amount.text
    → after ≡ cond (eqb amount 0) updates (updates ++ (x, pos amount) ∷ []) → UpdatesReading ns all left (seen ++ x ∷ []) after
updates_more ns all left u seen updates after x amount reading none new small is grown =
    let shared = ns.shared in
    let before = names_at shared seen in
    let names : names_at shared (seen ++ x ∷ []) ≡ before ++ u.name.name ∷ [] =
    map_push (λ y. get_or shared y []) seen x ∙ ap (λ (n : List ℕ). before ++ n ∷ []) (get_or_from_slice_get shared x u.name.name [] new.named) in
    let within = slice_get_within shared x u.name.name new.named in
    let old_seen = each_weaker (λ y. Contains seen y) (λ y. Contains (seen ++ x ∷ []) y) (map variable_of updates)
    (λ y c. Contains-append_left seen (x ∷ []) y c) reading.from_seen in
    let last_seen : Contains (seen ++ x ∷ []) x = Contains-append_right seen (x ∷ []) x (0, omega arith, refl) in
    record {
      faults = reading.faults
          ∙ empty_before (variable_faults ns before u.name) (digits_faults u.amount ++ updates_faults ns (before ++ u.name.name ∷ []) left) none
          ∙ empty_before (digits_faults u.amount) (updates_faults ns (before ++ u.name.name ∷ []) left) small
          ∙ ap (λ (b : List (List ℕ)). updates_faults ns b left) (sym names);
      known = each_push (λ y. y < length shared) seen x reading.known within;
      means = means_more shared (map plain_update left) (plain_update u) x amount updates after (map plain_update all) new.named
          (contains_at shared x u.name.name new.named) is grown reading.means;
      each = elim (eqb_tells amount 0) [
        | inl e ↦ subst (λ (zs : List (ℕ × ℤ)). AllByRecursion (Update (length shared)) zs)
            (sym (grown ∙ ap (λ b. cond b updates (updates ++ (x, pos amount) ∷ [])) e.0)) reading.each
        | inr ne ↦ subst (λ (zs : List (ℕ × ℤ)). AllByRecursion (Update (length shared)) zs)
            (sym (grown ∙ ap (λ b. cond b updates (updates ++ (x, pos amount) ∷ [])) ne.0))
            (each_push (Update (length shared)) updates (x, pos amount) reading.each (
            let most = ltb-false 1000000000 (number_of u.amount.text) (not-where (ltb 1000000000 (number_of u.amount.text)) (fault.TooLarge u.amount.at) small)
            in
            let some = ne.1 in
            record { exists = within; least = omega (arith, ints); most = omega (arith, ints) }))
      ];
      distinct = elim (eqb_tells amount 0) [
        | inl e ↦ subst (λ (zs : List (ℕ × ℤ)). Distinct (map variable_of zs)) (sym (grown ∙ ap (λ b. cond b updates (updates ++ (x, pos amount) ∷ [])) e.0))
            reading.distinct
        | inr ne ↦ subst (λ (zs : List (ℕ × ℤ)). Distinct (map variable_of zs)) (sym (grown ∙ ap (λ b. cond b updates (updates ++ (x, pos amount) ∷ [])) ne.0))
            (subst (λ (zs : List ℕ). Distinct zs) (sym (map_push variable_of updates (x, pos amount)))
            (distinct_push (map variable_of updates) x reading.distinct
            (λ i q. new.new (each_at (λ y. Contains seen y) (map variable_of updates) i x reading.from_seen q))))
      ];
      from_seen = elim (eqb_tells amount 0) [
        | inl e ↦ subst (λ (zs : List (ℕ × ℤ)). AllByRecursion (λ y. Contains (seen ++ x ∷ []) y) (map variable_of zs))
            (sym (grown ∙ ap (λ b. cond b updates (updates ++ (x, pos amount) ∷ [])) e.0)) old_seen
        | inr ne ↦ subst (λ (zs : List (ℕ × ℤ)). AllByRecursion (λ y. Contains (seen ++ x ∷ []) y) (map variable_of zs))
            (sym (grown ∙ ap (λ b. cond b updates (updates ++ (x, pos amount) ∷ [])) ne.0))
            (subst (λ (zs : List ℕ). AllByRecursion (λ y. Contains (seen ++ x ∷ []) y) zs) (sym (map_push variable_of updates (x, pos amount)))
            (each_push (λ y. Contains (seen ++ x ∷ []) y) (map variable_of updates) x old_seen last_seen))
      ];
      few = elim (eqb_tells amount 0) [
        | inl e ↦ (let same = ap (λ (zs : List (ℕ × ℤ)). length zs) (grown ∙ ap (λ b. cond b updates (updates ++ (x, pos amount) ∷ [])) e.0) in
            let f = reading.few in omega arith)
        | inr ne ↦ (let same = ap (λ (zs : List (ℕ × ℤ)). length zs) (grown ∙ ap (λ b. cond b updates (updates ++ (x, pos amount) ∷ [])) ne.0) in
            let more = length-append updates ((x, pos amount) ∷ []) in let f = reading.few in omega arith)
      ];
    }

pub updates_end : (ns : Names) (all left : List TreeUpdate) (seen : List ℕ) (updates : List (ℕ × ℤ)) → left ≡ [] → UpdatesReading ns all left seen updates
    → (updates_faults ns [] all ≡ []) × UpdatesRead ns (map plain_update all) updates
updates_end ns all left seen updates none reading =
    let r = subst (λ (us : List TreeUpdate). UpdatesReading ns all us seen updates) none reading in (
      r.faults,
      record {
        means = subst (λ (zs : List (ℕ × ℤ)). MeansUpdates ns.shared (map plain_update all) zs) (append-nil updates) (r.means [] refl);
        each = r.each;
        distinct = r.distinct;
        few = (let f = r.few in let e = length-map all plain_update in omega arith);
      },
    )
