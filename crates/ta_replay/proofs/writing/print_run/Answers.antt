use Rattle.ta_replay.proofs.Common.{◌≡◌, Some, ◌++◌, ◌∷◌, [], map, codes, sym, ap, ◌∙◌, get_or, string_bytes, get_or_from_slice_get, parameter_slots}
use Rattle.ta_replay.proofs.Common.{start_slots, value_lines, line_of, lines_text}
use Rattle.ta_replay.proofs.PrintedLines.{run_written}
use Rattle.ta_replay.proofs.Common.{List, ℤ, arith, length, slice_get_within, subst, AllByRecursion, LineFits, Pattern, RunLine}
use Rattle.ta_replay.proofs.Naming.{fits_read, named_read}
use Rattle.ta_replay.proofs.writing.print_run.Goals as goal

pub bounds-as_slice-run : goal.bounds-as_slice-run
bounds-as_slice-run c =
    let within = slice_get_within c.args.file.now.patterns c.args.run.now.pattern c.requires.pattern c.requires.named in
    let count = ap (λ (ps : List Pattern). length ps) c.as_slice.ensures in
    omega (arith, within, count)

pub write_parameters-requires : goal.write_parameters-requires
write_parameters-requires c = ap (λ (vs : List ℤ). length vs) c.as_slice-2.ensures ∙ c.requires.parameters

pub write_counts-requires : goal.write_counts-requires
write_counts-requires c = ap (λ (vs : List ℤ). length vs) c.as_slice-3.ensures ∙ c.requires.counts

pub write_lines-requires : goal.write_lines-requires
write_lines-requires c =
    let file = c.args.file.now in
    let run = c.args.run.now in
    let p = c.index-as_slice-run.result in
    let named = named_read file run c.as_slice.result.now p c.requires c.as_slice.ensures c.index-as_slice-run.is in
    let fits = fits_read file run p c.requires named in
    subst (λ (ls : List RunLine). AllByRecursion (LineFits file.automaton p) ls) (sym c.as_slice-4.ensures) fits.lines

pub returns : goal.returns
returns c =
    let file = c.args.file.now in
    let run = c.args.run.now in
    let p = c.index-as_slice-run.result in
    let found : p ≡ c.requires.pattern = c.index-as_slice-run.is ∙ ap (λ ps. get_or ps run.pattern p) c.as_slice.ensures
    ∙ get_or_from_slice_get file.patterns run.pattern c.requires.pattern p c.requires.named in
    let named = c.requires.named ∙ ap Some (sym found) in
    let a = file.automaton in
    let t1 = string_bytes c.in_ok-text.text in
    let t2 = string_bytes c.write_parameters.new.text in
    let t3 = string_bytes c.write_counts.new.text in
    let t4 = string_bytes c.write_lines.new.text in
    let head = c.in_ok-text.ensures.ok ∙ ap (λ n. codes "run " ++ (n ++ (10 ∷ []))) c.as_str.ensures in
    let first = c.in_ok-write_parameters.ensures ∙ ap (λ vs. t1 ++ lines_text (value_lines (parameter_slots a) vs)) c.as_slice-2.ensures in
    let second = c.in_ok-write_counts.ensures ∙ ap (λ vs. t2 ++ lines_text (value_lines (start_slots a) vs)) c.as_slice-3.ensures in
    let third = c.in_ok-write_lines.ensures ∙ ap (λ ls. t3 ++ lines_text (map (line_of a p) ls ++ (codes "end" ∷ []))) c.as_slice-4.ensures in
    c.from_string.ensures ∙ run_written file run p t1 t2 t3 t4 named c.requires.parameters head first second third
