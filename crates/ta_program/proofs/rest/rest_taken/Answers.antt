use Rattle.ta_program.proofs.Common.{◌≡◌, ◌∙◌, [], ap, sym, refl, false, Bool, ℕ, List, Option, None, Some, option_map, is_some, option_value, plain_of}
use Rattle.ta_program.proofs.Common.{budget_of, file_name_of, out_of, quiet_names, rest_taken}
use Rattle.ta_program.specs.RestSeen.{rest_seen}
use Rattle.ta_program.specs.Taken.{taken_of}
use Rattle.ta_program.specs.Values.{wide_of}
use Rattle.ta_program.specs.Words.{Taken, is_given}
use Rattle.ta_program.proofs.rest.rest_taken.Goals as goal
use denote.Bor.{Bor}

-- an option is given where its text is
given : (b : Bool) (o : Option (Bor (List ℕ))) (w : Option (List ℕ)) → b ≡ is_some o → option_map (λ t. t.now) o ≡ w → is_some w ≡ b
given b None w is e = ap is_some (sym e) ∙ sym is
given b (Some t) w is e = ap is_some (sym e) ∙ sym is

-- what is asked for by what was taken of the words, part by part
module _ (t : Taken) (file : List ℕ) (nodes : ℕ) (out pattern names : Option (List ℕ)) (lazy wide json all : Bool) where
  asked_by_parts : file_name_of (plain_of t 0) ≡ Some file → budget_of (option_value t 0) ≡ Some nodes → out_of file (option_value t 1) ≡ Some out
      → is_given t 3 ≡ lazy → wide_of (is_given t 6) lazy ≡ Some wide → quiet_names lazy (option_value t 7) ≡ Some names → is_given t 2 ≡ json
      → option_value t 4 ≡ pattern → is_given t 5 ≡ all
      → rest_taken t ≡ Some (record {
        verify = record { file = file; wide = wide; budget = record { nodes = nodes; lazy = lazy }; out = out; json = json; pattern = pattern; all = all };
        silent = names;
      })
  asked_by_parts f n o l w s j p a = rw (l, f, n, o, w, s, j, p, a) refl

  no_file : file_name_of (plain_of t 0) ≡ None → rest_taken t ≡ None
  no_file f = rw f refl

  no_budget : file_name_of (plain_of t 0) ≡ Some file → budget_of (option_value t 0) ≡ None → rest_taken t ≡ None
  no_budget f n = rw (f, n) refl

  no_out : file_name_of (plain_of t 0) ≡ Some file → budget_of (option_value t 0) ≡ Some nodes → out_of file (option_value t 1) ≡ None → rest_taken t ≡ None
  no_out f n o = rw (f, n, o) refl

pub returns : goal.returns
returns c =
    let t = taken_of c.args.taken in
    let lazy = c.is_some-lazy.result in
    let asked : is_given t 6 ≡ c.is_some.result = given _ _ _ c.is_some.ensures c.value-4.ensures in
    sym (asked_by_parts t _ _ _ _ _ _ _ _ _ (sym (c.in_ok-file.ensures ∙ ap file_name_of c.plain.ensures))
    (sym (c.in_ok-nodes.ensures.asked ∙ ap budget_of c.value.ensures)) (sym (c.in_ok-out.ensures ∙ ap (out_of c.in_ok-file.file.now) c.value-2.ensures))
    (given _ _ _ c.is_some-lazy.ensures c.value-3.ensures) (ap (λ (b : Bool). wide_of b lazy) asked ∙ sym c.in_ok-wide.ensures.asked)
    (sym (c.in_ok-names.ensures.asked ∙ ap (quiet_names lazy) c.value-5.ensures)) (given _ _ _ c.is_some-2.ensures c.value-6.ensures)
    (sym c.value-7.ensures) (given _ _ _ c.is_some-3.ensures c.value-8.ensures))

pub returns-in_err-file : goal.returns-in_err-file
returns-in_err-file c =
    ap (option_map rest_seen) c.from_residual.ensures
    ∙ sym (no_file (taken_of c.args.taken) [] 0 None None None false false false false (sym (c.in_err-file.ensures ∙ ap file_name_of c.plain.ensures)))

pub returns-in_err-nodes : goal.returns-in_err-nodes
returns-in_err-nodes c =
    ap (option_map rest_seen) c.from_residual-in_err-nodes.ensures
    ∙ sym (no_budget (taken_of c.args.taken) _ 0 None None None false false false false (sym (c.in_ok-file.ensures ∙ ap file_name_of c.plain.ensures))
    (sym (c.in_err-nodes.ensures.asked ∙ ap budget_of c.value.ensures)))

pub returns-in_err-out : goal.returns-in_err-out
returns-in_err-out c =
    ap (option_map rest_seen) c.from_residual-in_err-out.ensures
    ∙ sym (no_out (taken_of c.args.taken) _ _ None None None false false false false (sym (c.in_ok-file.ensures ∙ ap file_name_of c.plain.ensures))
    (sym (c.in_ok-nodes.ensures.asked ∙ ap budget_of c.value.ensures)) (sym (c.in_err-out.ensures ∙ ap (out_of c.in_ok-file.file.now) c.value-2.ensures)))
