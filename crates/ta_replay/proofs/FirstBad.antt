-- Of two first bad items, both are one.
use Rattle.ta_replay.proofs.Common.{cases_order, ◌≡◌, inl, inr, ℕ, ◌+◌, ℤ, List, length, sym, ap, ◌∙◌, subst, slice_get, IsBitSet, same_Some, Row, Automaton}
use Rattle.ta_replay.proofs.Common.{Comparison, Condition, Rule, AllPass, StopsAt, RowPasses, RowFails, RowOutOfRange, RowsPass, RowsStop, ConditionPasses}
use Rattle.ta_replay.proofs.Common.{ConditionStopsAt, MaskedPass, MaskedStop, BadGuard}

-- one item is bad in two ways
pub record Meets {X : Type 0} (Bad Worse : ℕ → X → Type 0) (j k : ℕ) : Type 0 where
  pub same : j ≡ k
  pub item : X
  pub bad : Bad j item
  pub worse : Worse j item

-- what passes isn't bad
abbrev pub Clash : {X : Type 0} → (ℕ → X → Type 0) → (ℕ → X → Type 0) → Type 0
Clash {X} Passes Bad = (i : ℕ) (x : X) → Passes i x → Bad i x → ⊥

meets_at : {X : Type 0} (Passes Bad Worse : ℕ → X → Type 0) (items : List X) (j k : ℕ) → j ≡ k → StopsAt Passes Bad items j → StopsAt Passes Worse items k
    → Meets Bad Worse j k
meets_at Passes Bad Worse items j k same s t =
    let item : t.item ≡ s.item = same_Some t.item s.item (sym t.at ∙ ap (slice_get items) (sym same) ∙ s.at) in
    record {
      same = same;
      item = s.item;
      bad = s.bad;
      worse = subst (λ n. Worse n s.item) (sym same) (subst (Worse k) item t.bad);
    }

pub meets : {X : Type 0} (Passes Bad Worse : ℕ → X → Type 0) (items : List X) (j k : ℕ) → Clash Passes Bad → Clash Passes Worse → StopsAt Passes Bad items j
    → StopsAt Passes Worse items k → Meets Bad Worse j k
meets Passes Bad Worse items j k bad worse s t =
    elim (cases_order j k) [
      | inl same ↦ meets_at Passes Bad Worse items j k same s t
      | inr other ↦ elim other [
        | inl less ↦ absurd (bad j s.item (t.before j s.item less s.at) s.bad)
        | inr more ↦ absurd (worse k t.item (s.before k t.item more t.at) t.bad)
      ]
    ]

pub no_stop_at : {X : Type 0} (Passes Bad : ℕ → X → Type 0) (items : List X) (k : ℕ) → Clash Passes Bad → AllPass Passes items → StopsAt Passes Bad items k → ⊥
no_stop_at Passes Bad items k bad all s = bad k s.item (all k s.item s.at) s.bad

-- rows
abbrev pub RowClash : (ℕ → ℤ) → (Row → Type 0) → Type 0
RowClash point Bad = (row : Row) → RowPasses point row → Bad row → ⊥

pub fails_clash : (point : ℕ → ℤ) → RowClash point (RowFails point)
fails_clash point row passes fails = fails.fails passes.holds

pub leaves_clash : (point : ℕ → ℤ) → RowClash point (RowOutOfRange point)
leaves_clash point row passes leaves = leaves passes.stays

-- some row is bad in two ways
abbrev pub BothBad : (Row → Type 0) → (Row → Type 0) → Type 0
BothBad Bad Worse = (row : Row) × Bad row × Worse row

pub not_both_bad : (point : ℕ → ℤ) → BothBad (RowFails point) (RowOutOfRange point) → ⊥
not_both_bad point both = both.2 both.1.stays

rows_clash : (point : ℕ → ℤ) (Bad : Row → Type 0) → RowClash point Bad → (rows : List Row) → RowsPass point rows → RowsStop point Bad rows → ⊥
rows_clash point Bad clash rows passes stop = no_stop_at (λ j row. RowPasses point row) (λ j row. Bad row) rows stop.0 (λ j row. clash row) passes stop.1

rows_meet : (point : ℕ → ℤ) (Bad Worse : Row → Type 0) → RowClash point Bad → RowClash point Worse → (rows : List Row) → RowsStop point Bad rows
    → RowsStop point Worse rows → BothBad Bad Worse
rows_meet point Bad Worse bad worse rows s t =
    let met = meets (λ j row. RowPasses point row) (λ j row. Bad row) (λ j row. Worse row) rows s.0 t.0 (λ j row. bad row) (λ j row. worse row) s.1 t.1 in
    (met.item, met.bad, met.worse)

-- conditions
pub condition_clash : (point : ℕ → ℤ) (Bad : Row → Type 0) → RowClash point Bad → (condition : Condition) (k : ℕ) → ConditionPasses point condition
    → ConditionStopsAt point Bad condition k → ⊥
condition_clash point Bad clash condition k passes stop =
    no_stop_at (λ j (c : Comparison). RowsPass point c.rows) (λ j (c : Comparison). RowsStop point Bad c.rows) condition.comparisons k
    (λ j c. rows_clash point Bad clash c.rows) passes stop

pub condition_meets : (point : ℕ → ℤ) (Bad Worse : Row → Type 0) → RowClash point Bad → RowClash point Worse → (condition : Condition) (k l : ℕ)
    → ConditionStopsAt point Bad condition k → ConditionStopsAt point Worse condition l → (k ≡ l) × BothBad Bad Worse
condition_meets point Bad Worse bad worse condition k l s t =
    let met = meets (λ j (c : Comparison). RowsPass point c.rows) (λ j (c : Comparison). RowsStop point Bad c.rows)
    (λ j (c : Comparison). RowsStop point Worse c.rows) condition.comparisons k l (λ j c. rows_clash point Bad bad c.rows)
    (λ j c. rows_clash point Worse worse c.rows) s t in
    (met.same, rows_meet point Bad Worse bad worse met.item.rows met.bad met.worse)

-- rows that a mask names
masked_clash : (point : ℕ → ℤ) (mask : ℕ) (Bad : Row → Type 0) → RowClash point Bad → (rows : List Row) (k : ℕ) → MaskedPass point mask rows
    → MaskedStop point mask Bad rows k → ⊥
masked_clash point mask Bad clash rows k passes stop =
    no_stop_at (λ j row. IsBitSet mask j → RowPasses point row) (λ j row. IsBitSet mask j × Bad row) rows k (λ j row passed bad. clash row (passed bad.0) bad.1)
    passes stop

masked_meets : (point : ℕ → ℤ) (mask : ℕ) (Bad Worse : Row → Type 0) → RowClash point Bad → RowClash point Worse → (rows : List Row) (k l : ℕ)
    → MaskedStop point mask Bad rows k → MaskedStop point mask Worse rows l → (k ≡ l) × BothBad Bad Worse
masked_meets point mask Bad Worse bad worse rows k l s t =
    let met = meets (λ j row. IsBitSet mask j → RowPasses point row) (λ j row. IsBitSet mask j × Bad row) (λ j row. IsBitSet mask j × Worse row) rows k l
    (λ j row passed is. bad row (passed is.0) is.1) (λ j row passed is. worse row (passed is.0) is.1) s t in
    (met.same, (met.item, met.bad.1, met.worse.1))

-- guards: the bad row is one, at the old values or before the last firing
abbrev pub GuardsMeet : ((ℕ → ℤ) → Row → Type 0) → ((ℕ → ℤ) → Row → Type 0) → ℕ → ℕ → Type 0
GuardsMeet Bad Worse g h = (g ≡ h) × ((point : ℕ → ℤ) × BothBad (Bad point) (Worse point))

pub guards_meet : (a : Automaton) (rule : Rule) (now last : ℕ → ℤ) (Bad Worse : (ℕ → ℤ) → Row → Type 0) → ((point : ℕ → ℤ) → RowClash point (Bad point))
    → ((point : ℕ → ℤ) → RowClash point (Worse point)) → (g h : ℕ) → BadGuard a rule now last Bad g → BadGuard a rule now last Worse h
    → GuardsMeet Bad Worse g h
guards_meet a rule now last Bad Worse bad worse g h (inl s) (inl t) =
    let met = masked_meets now rule.rise (Bad now) (Worse now) (bad now) (worse now) a.rise g h s t in (met.0, (now, met.1))
guards_meet a rule now last Bad Worse bad worse g h (inl s) (inr t) = absurd (masked_clash now rule.rise (Bad now) (bad now) a.rise g t.0 s)
guards_meet a rule now last Bad Worse bad worse g h (inr s) (inl t) = absurd (masked_clash now rule.rise (Worse now) (worse now) a.rise h s.0 t)
guards_meet a rule now last Bad Worse bad worse g h (inr s) (inr t) =
    let met = masked_meets last rule.fall (Bad last) (Worse last) (bad last) (worse last) a.fall s.1.0 t.1.0 s.1.2 t.1.2 in
    (s.1.1 ∙ ap (λ j. length a.rise + j) met.0 ∙ sym t.1.1, (last, met.1))

pub guards_clash : (a : Automaton) (rule : Rule) (now last : ℕ → ℤ) (Bad : (ℕ → ℤ) → Row → Type 0) → ((point : ℕ → ℤ) → RowClash point (Bad point)) → (g : ℕ)
    → MaskedPass now rule.rise a.rise → MaskedPass last rule.fall a.fall → BadGuard a rule now last Bad g → ⊥
guards_clash a rule now last Bad bad g rise fall (inl s) = masked_clash now rule.rise (Bad now) (bad now) a.rise g rise s
guards_clash a rule now last Bad bad g rise fall (inr s) = masked_clash last rule.fall (Bad last) (bad last) a.fall s.1.0 fall s.1.2
