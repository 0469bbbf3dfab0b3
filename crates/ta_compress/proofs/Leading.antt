-- unit steps that lead from one configuration to another
use Rattle.ta_compress.proofs.Common.{◌≡◌, ℕ, zero, suc, ◌+ℤ◌, List, [], ◌∷◌, ◌++◌, length, arith, sym, ap, ◌∙◌, refl, subst, ints, same_Some, Automaton}
use Rattle.ta_compress.proofs.Common.{Pattern, Whole, Config, Steps, At, value_at, total, move_at, change_of, same_model, KeepsEmpty, StepsLead}
use Rattle.ta_automaton.specs.Runs.{Step}
use Rattle.ta_automaton.proofs.Fire.{step_whole, fits_whole}

pub only_one : (p : Pattern) (c : Config) → KeepsEmpty p.empty c → (k : ℕ) (e : Config) → At c [] k e → KeepsEmpty p.empty e
only_one p c kept zero e at = subst (KeepsEmpty p.empty) (same_Some c e at) kept
only_one p c kept (suc k) e at = absurd (cc)

pub leads_none : (a : Automaton) (p : Pattern) (c : Config) → KeepsEmpty p.empty c → StepsLead a p c [] c
leads_none a p c kept = record { later = []; steps = tt; ends = refl; kept = only_one p c kept }

one_more : (p : Pattern) (c d : Config) (ds : List Config) → KeepsEmpty p.empty c → ((k : ℕ) (e : Config) → At d ds k e → KeepsEmpty p.empty e)
    → (k : ℕ) (e : Config) → At c (d ∷ ds) k e → KeepsEmpty p.empty e
one_more p c d ds here rest zero e at = subst (KeepsEmpty p.empty) (same_Some c e at) here
one_more p c d ds here rest (suc k) e at = rest k e at

pub leads_cons : (a : Automaton) (p : Pattern) (c d e : Config) (r : ℕ) (rs : List ℕ) → KeepsEmpty p.empty c → Step a r c d → StepsLead a p d rs e
    → StepsLead a p c (r ∷ rs) e
leads_cons a p c d e r rs kept step l = record {
  later = d ∷ l.later;
  steps = (step, l.steps);
  ends = l.ends;
  kept = one_more p c d l.later kept l.kept;
}

-- the first of some steps, and the others
pub record First (a : Automaton) (p : Pattern) (c : Config) (r : ℕ) (rs : List ℕ) (e : Config) : Type 0 where
  pub next : Config
  pub kept : KeepsEmpty p.empty c
  pub step : Step a r c next
  pub rest : StepsLead a p next rs e

first_of_steps : (a : Automaton) (p : Pattern) (c : Config) (r : ℕ) (rs : List ℕ) (e : Config) (later : List Config) → Steps a c (r ∷ rs) later
    → At c later (length (r ∷ rs)) e → ((k : ℕ) (x : Config) → At c later k x → KeepsEmpty p.empty x) → First a p c r rs e
first_of_steps a p c r rs e [] steps ends kept = absurd steps
first_of_steps a p c r rs e (d ∷ ds) steps ends kept = record {
  next = d;
  kept = kept 0 c refl;
  step = steps.0;
  rest = record { later = ds; steps = steps.1; ends = ends; kept = λ k x at. kept (suc k) x at };
}

pub leads_first : (a : Automaton) (p : Pattern) (c : Config) (r : ℕ) (rs : List ℕ) (e : Config) → StepsLead a p c (r ∷ rs) e → First a p c r rs e
leads_first a p c r rs e l = first_of_steps a p c r rs e l.later l.steps l.ends l.kept

none_steps : (a : Automaton) (c d : Config) (later : List Config) → Steps a c [] later → At c later 0 d → c ≡ d
none_steps a c d later steps at = same_Some c d at

pub leads_nowhere : (a : Automaton) (p : Pattern) (c d : Config) → StepsLead a p c [] d → c ≡ d
leads_nowhere a p c d l = none_steps a c d l.later l.steps l.ends

-- steps in two parts
pub record Parts (a : Automaton) (p : Pattern) (c : Config) (xs ys : List ℕ) (e : Config) : Type 0 where
  pub middle : Config
  pub left : StepsLead a p c xs middle
  pub right : StepsLead a p middle ys e

pub leads_split : (a : Automaton) (p : Pattern) (c : Config) (xs ys : List ℕ) (e : Config) → StepsLead a p c (xs ++ ys) e → Parts a p c xs ys e
leads_split a p c [] ys e l = record { middle = c; left = leads_none a p c (l.kept 0 c refl); right = l }
leads_split a p c (x ∷ xs) ys e l =
    let f = leads_first a p c x (xs ++ ys) e l in
    let parts = leads_split a p f.next xs ys e f.rest in
    record { middle = parts.middle; left = leads_cons a p c f.next parts.middle x xs f.kept f.step parts.left; right = parts.right }

pub step_value : (a : Automaton) (r : ℕ) (c d : Config) → Whole a c → Step a r c d → (i : ℕ) → value_at d i ≡ (value_at c i +ℤ change_of a i r)
step_value a r c d w step i = move_at a r c d (fits_whole a c w) (fits_whole a d (step_whole a r c d w step)) step i

pub leads_whole : (a : Automaton) (p : Pattern) (c : Config) (rs : List ℕ) (e : Config) → Whole a c → StepsLead a p c rs e → Whole a e
leads_whole a p c [] e w l = subst (Whole a) (leads_nowhere a p c e l) w
leads_whole a p c (r ∷ rs) e w l =
    let f = leads_first a p c r rs e l in
    leads_whole a p f.next rs e (step_whole a r c f.next w f.step) f.rest

pub leads_value : (a : Automaton) (p : Pattern) (c : Config) (rs : List ℕ) (e : Config) → Whole a c → StepsLead a p c rs e → (i : ℕ)
    → value_at e i ≡ (value_at c i +ℤ total (change_of a i) rs)
unfolding total
leads_value a p c [] e w l i = omega (arith, ints, ap (λ (x : Config). value_at x i) (leads_nowhere a p c e l))
leads_value a p c (r ∷ rs) e w l i =
    let f = leads_first a p c r rs e l in
    omega (arith, ints, step_value a r c f.next w f.step i, leads_value a p f.next rs e (step_whole a r c f.next w f.step) f.rest i)

step_same : (a : Automaton) (r : ℕ) (c d e : Config) → Whole a c → Step a r c d → Step a r c e → d ≡ e
step_same a r c d e w s t = same_model a d e (step_whole a r c d w s) (step_whole a r c e w t) (λ i. step_value a r c d w s i ∙ sym (step_value a r c e w t i))

-- steps of the same rules from the same configuration are the same
pub steps_same : (a : Automaton) (c : Config) (rules : List ℕ) (later other : List Config) → Whole a c → Steps a c rules later → Steps a c rules other
    → later ≡ other
steps_same a c [] [] [] w s t = refl
steps_same a c [] [] (e ∷ es) w s t = absurd t
steps_same a c [] (d ∷ ds) other w s t = absurd s
steps_same a c (r ∷ rs) [] other w s t = absurd s
steps_same a c (r ∷ rs) (d ∷ ds) [] w s t = absurd t
steps_same a c (r ∷ rs) (d ∷ ds) (e ∷ es) w s t =
    let same : d ≡ e = step_same a r c d e w s.0 t.0 in
    let rest = steps_same a d rs ds es (step_whole a r c d w s.0) s.1 (subst (λ (x : Config). Steps a x rs es) (sym same) t.1) in
    ap (λ (x : Config). x ∷ ds) same ∙ ap (λ (xs : List Config). e ∷ xs) rest
