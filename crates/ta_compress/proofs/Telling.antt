-- what lines tell
use Rattle.ta_compress.proofs.Common.{◌≡◌, ℕ, zero, suc, ◌+◌, ℤ, List, [], ◌∷◌, ◌++◌, map, take, drop, replicate, unsigned_abs, arith, sym, ap, refl, subst}
use Rattle.ta_compress.proofs.Common.{take-append-drop, Automaton, Pattern, Config, KeepsEmpty, RunLine, Step, Mark, unit_steps, MarksAt, unit, unfolded}
use Rattle.ta_compress.proofs.Common.{EndsAtLastMark, step_line, units, StepsLead, LinesTell, get_of_drop}
use Rattle.ta_automaton.specs.Runs as runs
use Rattle.ta_scope.specs.Legal as legal
use Rattle.ta_compress.proofs.Leading.{leads_none, leads_cons, leads_first, leads_nowhere, leads_split}

-- legal steps tell something
pub told : (a : Automaton) (p : Pattern) (c : Config) (lines : List RunLine) (e : Config) → StepsLead a p c (unit_steps lines) e → (tale : List (ℕ × Config))
    × LinesTell a p c lines tale
told a p c [] e l = ([], refl)
told a p c (Step r k ∷ lines) e l =
    let parts = leads_split a p c (replicate (unsigned_abs k) r) (unit_steps lines) e l in
    let rest = told a p parts.middle lines e parts.right in
    (rest.0, (parts.middle, parts.left, rest.1))
told a p c (Mark x ∷ lines) e l =
    let rest = told a p c lines e l in
    ((x, c) ∷ rest.0, (rest.0, refl, rest.1))

-- unit steps in front of lines
pub record Behind (a : Automaton) (p : Pattern) (c : Config) (rules : List ℕ) (lines : List RunLine) (tale : List (ℕ × Config)) : Type 0 where
  pub middle : Config
  pub leads : StepsLead a p c rules middle
  pub tells : LinesTell a p middle lines tale

kept_first : (a : Automaton) (p : Pattern) (c : Config) (lines : List RunLine) (tale : List (ℕ × Config)) → KeepsEmpty p.empty c → LinesTell a p c lines tale
    → Behind a p c [] lines tale
kept_first a p c lines tale kept t = record { middle = c; leads = leads_none a p c kept; tells = t }

pub units_told : (a : Automaton) (p : Pattern) (c : Config) (rules : List ℕ) (lines : List RunLine) (tale : List (ℕ × Config)) → KeepsEmpty p.empty c
    → LinesTell a p c (units rules ++ lines) tale → Behind a p c rules lines tale
units_told a p c [] lines tale kept t = kept_first a p c lines tale kept t
units_told a p c (r ∷ rs) lines tale kept t =
    let d = t.0 in
    let f = leads_first a p c r [] d t.1 in
    let here = leads_nowhere a p f.next d f.rest in
    let kept_there : KeepsEmpty p.empty d = subst (KeepsEmpty p.empty) here (f.rest.kept 0 f.next refl) in
    let b = units_told a p d rs lines tale kept_there t.2 in
    record {
      middle = b.middle;
      leads = leads_cons a p c d b.middle r rs f.kept (subst (λ (x : Config). runs.Step a r c x) here f.step) b.leads;
      tells = b.tells;
    }

-- steps in front of what lines tell
pub tell_units : (a : Automaton) (p : Pattern) (c : Config) (rules : List ℕ) (d : Config) (lines : List RunLine) (tale : List (ℕ × Config))
    → StepsLead a p c rules d → LinesTell a p d lines tale → LinesTell a p c (units rules ++ lines) tale
tell_units a p c [] d lines tale l t = subst (λ x. LinesTell a p x lines tale) (sym (leads_nowhere a p c d l)) t
tell_units a p c (r ∷ rs) d lines tale l t =
    let f = leads_first a p c r rs d l in (
      f.next,
      leads_cons a p c f.next f.next r [] f.kept f.step (leads_none a p f.next (f.rest.kept 0 f.next refl)),
      tell_units a p f.next rs d lines tale f.rest
          t,
    )

pub tell_steps : (a : Automaton) (p : Pattern) (c : Config) (steps : List (ℕ × ℤ)) (d : Config) (lines : List RunLine) (tale : List (ℕ × Config))
    → StepsLead a p c (legal.arranged_steps steps) d → LinesTell a p d lines tale → LinesTell a p c (map step_line steps ++ lines) tale
tell_steps a p c [] d lines tale l t = subst (λ x. LinesTell a p x lines tale) (sym (leads_nowhere a p c d l)) t
tell_steps a p c (s ∷ ss) d lines tale l t =
    let parts = leads_split a p c (replicate (unsigned_abs s.1) s.0) (legal.arranged_steps ss) d l in
    (parts.middle, parts.left, tell_steps a p parts.middle ss d lines tale parts.right t)

units_replicate : (k r : ℕ) → units (replicate k r) ≡ replicate k (unit r)
units_replicate zero r = refl
units_replicate (suc k) r = ap (λ (ls : List RunLine). unit r ∷ ls) (units_replicate k r)

-- the same told step by step
pub tell_unfolded : (a : Automaton) (p : Pattern) (c : Config) (lines : List RunLine) (tale : List (ℕ × Config)) → LinesTell a p c lines tale
    → LinesTell a p c (unfolded lines) tale
tell_unfolded a p c [] tale t = t
tell_unfolded a p c (Step r k ∷ lines) tale t =
    subst (λ (ls : List RunLine). LinesTell a p c (ls ++ unfolded lines) tale) (units_replicate (unsigned_abs k) r)
    (tell_units a p c (replicate (unsigned_abs k) r) t.0 (unfolded lines) tale t.1 (tell_unfolded a p t.0 lines tale t.2))
tell_unfolded a p c (Mark e ∷ lines) tale t = (t.0, t.1, tell_unfolded a p c lines t.0 t.2)

no_tale : (a : Automaton) (p : Pattern) (c : Config) (lines : List RunLine) (tale : List (ℕ × Config)) → ((i e : ℕ) → MarksAt lines i e → ⊥)
    → LinesTell a p c lines tale → tale ≡ []
no_tale a p c [] tale none t = t
no_tale a p c (Step r k ∷ lines) tale none t = no_tale a p t.0 lines tale (λ i e at. none (suc i) e at) t.2
no_tale a p c (Mark e ∷ lines) tale none t = absurd (none 0 e refl)

front_told : (a : Automaton) (p : Pattern) (c : Config) (xs ys : List RunLine) (tale : List (ℕ × Config)) → ((i e : ℕ) → MarksAt ys i e → ⊥)
    → LinesTell a p c (xs ++ ys) tale → LinesTell a p c xs tale
front_told a p c [] ys tale none t = no_tale a p c ys tale none t
front_told a p c (Step r k ∷ xs) ys tale none t = (t.0, t.1, front_told a p t.0 xs ys tale none t.2)
front_told a p c (Mark e ∷ xs) ys tale none t = (t.0, t.1, front_told a p c xs ys t.0 none t.2)

-- nothing is told behind the last mark
pub cut_off : (a : Automaton) (p : Pattern) (c : Config) (lines : List RunLine) (n : ℕ) (tale : List (ℕ × Config)) → EndsAtLastMark lines n
    → LinesTell a p c lines tale → LinesTell a p c (take n lines) tale
cut_off a p c lines n tale last t =
    front_told a p c (take n lines) (drop n lines) tale (λ i e at. last.behind (n + i) e (omega arith) (get_of_drop n lines i (Mark e) at))
    (subst (λ (ls : List RunLine). LinesTell a p c ls tale) (sym (take-append-drop n lines)) t)
