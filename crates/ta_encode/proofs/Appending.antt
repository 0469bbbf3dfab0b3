-- steps behind steps, and lists behind lists
use Rattle.ta_encode.proofs.Common.{◌≡◌, inl, inr, ℕ, zero, suc, ◌+◌, List, [], ◌∷◌, ◌++◌, length, arith, refl, sym, ◌∙◌, subst, slice_get, Some, length-append}
use Rattle.ta_encode.proofs.Common.{same_Some, get_parts, get_right, slice_get_left, Automaton, Config, Steps, Trail, Grows, run_length}

steps_append : (a : Automaton) (c : Config) (rules : List ℕ) (later : List Config) (d : Config) (more : List ℕ) (latest : List Config) → Steps a c rules later
    → slice_get (c ∷ later) (length rules) ≡ Some d → Steps a d more latest → Steps a c (rules ++ more) (later ++ latest)
steps_append a c [] [] d more latest run last steps = subst (λ (x : Config). Steps a x more latest) (sym (same_Some c d last)) steps
steps_append a c [] (e ∷ es) d more latest run last steps = absurd run
steps_append a c (q ∷ qs) [] d more latest run last steps = absurd run
steps_append a c (q ∷ qs) (e ∷ es) d more latest run last steps = (run.0, steps_append a e qs es d more latest run.1 last steps)

-- the configuration after k of the later steps
get_on : (first : Config) (later : List Config) (d : Config) (latest : List Config) (n : ℕ) → length later ≡ n → slice_get (first ∷ later) n ≡ Some d
    → (k : ℕ) (c : Config) → slice_get (d ∷ latest) k ≡ Some c → slice_get (first ∷ (later ++ latest)) (n + k) ≡ Some c
get_on first later d latest n many last zero c at =
    subst (λ (j : ℕ). slice_get (first ∷ (later ++ latest)) j ≡ Some c) (let q : n ≡ n + 0 = omega arith in q)
    (slice_get_left (first ∷ later) latest n c (last ∙ at))
get_on first later d latest n many last (suc k) c at =
    subst (λ (j : ℕ). slice_get (first ∷ (later ++ latest)) j ≡ Some c) (let q : suc (length later) + k ≡ n + suc k = omega arith in q)
    (get_right (first ∷ later) latest k c at)

-- a run with more steps behind it
pub record Longer (a : Automaton) (good : Config → Type 0) (first d e : Config) (t : Trail a good first d) (more : List ℕ) : Type 0 where
  pub trail : Trail a good first e
  pub is : trail.rules ≡ t.rules ++ more
  pub grows : Grows a good first d e t trail

pub trail_append : (a : Automaton) (good : Config → Type 0) (first d : Config) (t : Trail a good first d) (more : List ℕ) (latest : List Config) (e : Config)
    → Steps a d more latest → slice_get (d ∷ latest) (length more) ≡ Some e → ((j : ℕ) (c : Config) → slice_get (d ∷ latest) j ≡ Some c → good c)
    → Longer a good first d e t more
trail_append a good first d t more latest e steps last all =
    let many = run_length a first t.rules t.later t.run in
    let long : length (t.rules ++ more) ≡ length t.rules + length more = length-append t.rules more in
    let new : Trail a good first e = record {
      rules = t.rules ++ more;
      later = t.later ++ latest;
      run = steps_append a first t.rules t.later d more latest t.run t.last steps;
      last = subst (λ (n : ℕ). slice_get (first ∷ (t.later ++ latest)) n ≡ Some e) (sym long)
          (get_on first t.later d latest (length t.rules) many t.last (length more) e last);
      all_good = λ j c at. elim (get_parts (first ∷ t.later) latest j c at) [ inl h ↦ t.all_good j c h | inr w ↦ all (suc w.0) c w.2 ];
    } in
    record {
      trail = new;
      is = refl;
      grows = record { kept = λ j c at. slice_get_left (first ∷ t.later) latest j c at; longer = omega (arith, long) };
    }

-- the run without steps
pub record Begun (a : Automaton) (good : Config → Type 0) (first : Config) : Type 0 where
  pub trail : Trail a good first first
  pub is : trail.rules ≡ []

pub trail_begun : (a : Automaton) (good : Config → Type 0) (first : Config) → good first → Begun a good first
trail_begun a good first g = record { trail = record { rules = []; later = []; run = tt; last = refl; all_good = only }; is = refl } where
  only : (j : ℕ) (c : Config) → slice_get (first ∷ []) j ≡ Some c → good c
  only zero c e = subst good (same_Some first c e) g
  only (suc j) c e = absurd (cc)
