-- runs that tell the same show the same
use Rattle.ta_compress.proofs.Common.{◌≡◌, inl, inr, ℕ, zero, suc, ◌+◌, ◌<◌, ◌≤◌, ℤ, List, [], ◌∷◌, ◌++◌, length, take, replicate, unsigned_abs, arith, sym, ap}
use Rattle.ta_compress.proofs.Common.{◌∙◌, refl, subst, slice_get, Some, length-append, length-replicate, cases_lt, same_Some, Automaton, Pattern, Whole}
use Rattle.ta_compress.proofs.Common.{Config, Steps, At, Holds, KeepsEmpty, Run, RunLine, Step, Mark, unit_steps, steps_before, marks_count, MarksAt}
use Rattle.ta_compress.proofs.Common.{IsFirstConfig, ShowsPattern, run_length, StepsLead, LinesTell, neither_below}
use Rattle.ta_replay.proofs.Paths.{steps-append, at_further, at_either}
use Rattle.ta_compress.proofs.Leading.{steps_same, only_one}

-- how many marks stand before line i
abbrev pub marks_before : List RunLine → ℕ → ℕ
marks_before lines i = marks_count (take i lines)

-- the place in a tale of the mark at line i, and the configuration there
pub record ToldAt (lines : List RunLine) (c : Config) (later : List Config) (tale : List (ℕ × Config)) (i e : ℕ) : Type 0 where
  pub config : Config
  pub at : slice_get tale (marks_before lines i) ≡ Some (e, config)
  pub there : At c later (steps_before lines i) config

-- the line of an item of a tale
pub record LineOf (lines : List RunLine) (c : Config) (later : List Config) (j e : ℕ) (d : Config) : Type 0 where
  pub line : ℕ
  pub marked : MarksAt lines line e
  pub place : marks_before lines line ≡ j
  pub there : At c later (steps_before lines line) d

-- the steps of lines that tell a tale, and where its items are
pub record Path (a : Automaton) (p : Pattern) (c : Config) (lines : List RunLine) (tale : List (ℕ × Config)) : Type 0 where
  pub later : List Config
  pub steps : Steps a c (unit_steps lines) later
  pub kept : (k : ℕ) (e : Config) → At c later k e → KeepsEmpty p.empty e
  pub told : (i e : ℕ) → MarksAt lines i e → ToldAt lines c later tale i e
  pub line : (j e : ℕ) (d : Config) → slice_get tale j ≡ Some (e, d) → LineOf lines c later j e d

path_none : (a : Automaton) (p : Pattern) (c : Config) (tale : List (ℕ × Config)) → KeepsEmpty p.empty c → tale ≡ [] → Path a p c [] tale
path_none a p c tale kept none = record {
  later = [];
  steps = tt;
  kept = only_one p c kept;
  told = λ i e at. absurd (cc);
  line = λ j e d at. (let nothing = subst (λ (xs : List (ℕ × Config)). slice_get xs j ≡ Some (e, d)) none at in absurd (cc));
}

-- the place of a moment behind some steps
further : (a : Automaton) (p : Pattern) (c : Config) (r : ℕ) (k : ℤ) (d : Config) (l : StepsLead a p c (replicate (unsigned_abs k) r) d) (lines : List RunLine)
    (more : List Config) (i : ℕ) (e : Config) → At d more (steps_before lines i) e → At c (l.later ++ more) (steps_before (Step r k ∷ lines) (suc i)) e
further a p c r k d l lines more i e at =
    let n = unsigned_abs k in
    let count = run_length a c (replicate n r) l.later l.steps in
    let long = length-replicate n r in
    let ends : At c l.later (length l.later) d = subst (λ m. At c l.later m d) (sym count) l.ends in
    let place : length l.later + steps_before lines i ≡ steps_before (Step r k ∷ lines) (suc i) = omega
    (arith, count, long, length-append (replicate n r) (unit_steps (take i lines))) in
    subst (λ m. At c (l.later ++ more) m e) place (at_further c l.later d more (steps_before lines i) e ends at)

path_step : (a : Automaton) (p : Pattern) (c : Config) (r : ℕ) (k : ℤ) (d : Config) (lines : List RunLine) (tale : List (ℕ × Config))
    → StepsLead a p c (replicate (unsigned_abs k) r) d → Path a p d lines tale → Path a p c (Step r k ∷ lines) tale
path_step a p c r k d lines tale l rest =
    let n = unsigned_abs k in
    let count = run_length a c (replicate n r) l.later l.steps in
    let ends : At c l.later (length l.later) d = subst (λ m. At c l.later m d) (sym count) l.ends in
    record {
      later = l.later ++ rest.later;
      steps = steps-append a c (replicate n r) l.later d (unit_steps lines) rest.later l.steps l.ends rest.steps;
      kept = λ j e at. elim (at_either c l.later d rest.later j e ends at) [ inl here ↦ l.kept j e here | inr there ↦ rest.kept there.0 e there.1 ];
      told = told_behind a p c r k d l lines rest.later tale rest.told;
      line = λ j e x at. (let o = rest.line j e x at in record
          { line = suc o.line; marked = o.marked; place = o.place; there = further a p c r k d l lines rest.later o.line x o.there });
    } where
      told_behind : (a : Automaton) (p : Pattern) (c : Config) (r : ℕ) (k : ℤ) (d : Config) (l : StepsLead a p c (replicate (unsigned_abs k) r) d)
          (lines : List RunLine) (more : List Config) (tale : List (ℕ × Config)) → ((i e : ℕ) → MarksAt lines i e → ToldAt lines d more tale i e) → (i e : ℕ)
          → MarksAt (Step r k ∷ lines) i e → ToldAt (Step r k ∷ lines) c (l.later ++ more) tale i e
      told_behind a p c r k d l lines more tale told zero e at = absurd (cc)
      told_behind a p c r k d l lines more tale told (suc i) e at =
          let o = told i e at in
          record { config = o.config; at = o.at; there = further a p c r k d l lines more i o.config o.there }

told_from : (x : ℕ) (c : Config) (lines : List RunLine) (later : List Config) (tale : List (ℕ × Config))
    → ((i e : ℕ) → MarksAt lines i e → ToldAt lines c later tale i e) → (i e : ℕ) → MarksAt (Mark x ∷ lines) i e
    → ToldAt (Mark x ∷ lines) c later ((x, c) ∷ tale) i e
told_from x c lines later tale told zero e at =
    let same : x ≡ e = cc in
    record { config = c; at = ap (λ y. Some (y, c)) same; there = refl }
told_from x c lines later tale told (suc i) e at =
    let o = told i e at in
    let next : suc (marks_before lines i) ≡ marks_before (Mark x ∷ lines) (suc i) = omega arith in
    record { config = o.config; at = subst (λ m. slice_get ((x, c) ∷ tale) m ≡ Some (e, o.config)) next o.at; there = o.there }

line_from : (x : ℕ) (c : Config) (lines : List RunLine) (later : List Config) (tale : List (ℕ × Config))
    → ((j e : ℕ) (d : Config) → slice_get tale j ≡ Some (e, d) → LineOf lines c later j e d) → (j e : ℕ) (d : Config)
    → slice_get ((x, c) ∷ tale) j ≡ Some (e, d) → LineOf (Mark x ∷ lines) c later j e d
line_from x c lines later tale line zero e d at =
    let item : (x, c) ≡ (e, d) = same_Some (x, c) (e, d) at in
    let event : x ≡ e = ap (λ (i : ℕ × Config). i.0) item in
    let config : c ≡ d = ap (λ (i : ℕ × Config). i.1) item in
    record { line = 0; marked = ap (λ y. Some (Mark y)) event; place = refl; there = ap Some config }
line_from x c lines later tale line (suc j) e d at =
    let o = line j e d at in
    record { line = suc o.line; marked = o.marked; place = omega (arith, o.place); there = o.there }

path_mark : (a : Automaton) (p : Pattern) (c : Config) (x : ℕ) (lines : List RunLine) (tale : List (ℕ × Config)) → Path a p c lines tale
    → Path a p c (Mark x ∷ lines) ((x, c) ∷ tale)
path_mark a p c x lines tale rest = record {
  later = rest.later;
  steps = rest.steps;
  kept = rest.kept;
  told = told_from x c lines rest.later tale rest.told;
  line = line_from x c lines rest.later tale rest.line;
}

pub path : (a : Automaton) (p : Pattern) (c : Config) (lines : List RunLine) (tale : List (ℕ × Config)) → KeepsEmpty p.empty c → LinesTell a p c lines tale
    → Path a p c lines tale
path a p c [] tale kept t = path_none a p c tale kept t
path a p c (Step r k ∷ lines) tale kept t =
    path_step a p c r k t.0 lines tale t.1 (path a p t.0 lines tale (t.1.kept (length (replicate (unsigned_abs k) r)) t.0 t.1.ends) t.2)
path a p c (Mark e ∷ lines) tale kept t =
    subst (λ (xs : List (ℕ × Config)). Path a p c (Mark e ∷ lines) xs) (sym t.1) (path_mark a p c e lines t.0 (path a p c lines t.0 kept t.2))

-- marks in front of lines
marks_grow : (lines : List RunLine) (i j : ℕ) → i ≤ j → marks_before lines i ≤ marks_before lines j
marks_grow lines zero j b = omega arith
marks_grow lines (suc i) zero b = absurd (omega arith)
marks_grow [] (suc i) (suc j) b = omega arith
marks_grow (Step r k ∷ lines) (suc i) (suc j) b = marks_grow lines i j (omega arith)
marks_grow (Mark e ∷ lines) (suc i) (suc j) b = omega (arith, marks_grow lines i j (omega arith))

marks_strict : (lines : List RunLine) (i j e : ℕ) → MarksAt lines i e → i < j → marks_before lines i < marks_before lines j
marks_strict [] i j e at b = absurd (cc)
marks_strict (line ∷ lines) i zero e at b = absurd (omega arith)
marks_strict (Step r k ∷ lines) zero (suc j) e at b = absurd (cc)
marks_strict (Mark x ∷ lines) zero (suc j) e at b = omega arith
marks_strict (Step r k ∷ lines) (suc i) (suc j) e at b = marks_strict lines i j e at (omega arith)
marks_strict (Mark x ∷ lines) (suc i) (suc j) e at b = omega (arith, marks_strict lines i j e at (omega arith))

same_mark : (lines : List RunLine) (i j e f : ℕ) → MarksAt lines i e → MarksAt lines j f → marks_before lines i ≡ marks_before lines j → i ≡ j
same_mark lines i j e f at there same = neither_below i j (λ less. omega (arith, marks_strict lines i j e at less))
    (λ less. omega (arith, marks_strict lines j i f there less))

-- a run that tells the same from the same configuration on shows the same
pub shows_same : (a : Automaton) (p : Pattern) (run other : Run) (s : ShowsPattern a p run) → Whole a s.first → IsFirstConfig a other s.first
    → (tale : List (ℕ × Config)) → LinesTell a p s.first run.lines tale → LinesTell a p s.first other.lines tale → ShowsPattern a p other
shows_same a p run other s whole begins tale t u =
    let kept = s.kept_empty 0 s.first refl in
    let old = path a p s.first run.lines tale kept t in
    let new = path a p s.first other.lines tale kept u in
    let same = steps_same a s.first (unit_steps run.lines) s.later old.later whole s.follows.steps old.steps in
    record {
      first = s.first;
      later = new.later;
      begins = begins;
      follows = record { initial = s.follows.initial; steps = new.steps };
      start = s.start;
      kept_empty = new.kept;
      marked = λ e event at.
          let m = s.marked e event at in
          let told = old.told m.line e m.marked in
          let there = subst (λ (cs : List Config). At s.first cs (steps_before run.lines m.line) m.happens.0) same m.happens.1 in
          let here : m.happens.0 ≡ told.config = same_Some m.happens.0 told.config (sym there ∙ told.there) in
          let line = new.line (marks_before run.lines m.line) e told.config told.at in
          record {
            line = line.line;
            marked = line.marked;
            once = λ i marks.
                let mine = new.told i e marks in
                let its = old.line (marks_before other.lines i) e mine.config mine.at in
                let only = ap (marks_before run.lines) (m.once its.line its.marked) in
                same_mark other.lines i line.line e e marks line.marked (omega (arith, its.place, only, line.place));
            happens = (told.config, line.there, subst (Holds event.condition) here m.happens.2);
          };
      in_order = λ e f i event at bit marks.
          let mine = new.told i e marks in
          let its = old.line (marks_before other.lines i) e mine.config mine.at in
          let earlier = s.in_order e f its.line event at bit its.marked in
          let told = old.told earlier.0 f earlier.2 in
          let line = new.line (marks_before run.lines earlier.0) f told.config told.at in
          let before = marks_strict run.lines earlier.0 its.line f earlier.2 earlier.1 in (
            line.line,
            elim (cases_lt line.line i) [
              | inl less ↦ less
              | inr more ↦ absurd (let grows = marks_grow other.lines i line.line (omega arith) in let p1 = its.place in let p2 = line.place in omega arith)
            ],
            line.marked,
          );
    }
