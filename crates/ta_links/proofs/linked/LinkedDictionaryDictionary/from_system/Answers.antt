use Rattle.ta_links.proofs.Common.{◌≡◌, arith, sym, ◌∙◌, ap, ◌+◌, suc, ◌++◌, ◌∷◌, [], List, ℕ, length, subst, rules, length-range_with_len, range_with_len}
use Rattle.ta_links.proofs.Common.{range_more, RowHead, table_rows, AreProperHeads, slack_heads, value_in}
use Rattle.ta_dense.proofs.SlackRows.{slack_tableau-is}
use Rattle.ta_links.proofs.LinkedFacts.{table_is, full_live, proper_slacks, length-slack_heads}
use Rattle.ta_links.proofs.linked.LinkedDictionaryDictionary.from_system.Goals as goal

pub loop-unknown-preserved : goal.loop-unknown-preserved
loop-unknown-preserved c =
    let n = c.loop-unknown.unknown in
    let e : suc c.loop-unknown.unknown ≡ c.loop-unknown.unknown + 1 = omega arith in
    let z : 0 + c.loop-unknown.unknown ≡ c.loop-unknown.unknown = omega arith in
    c.in_ok-push.ensures.items ∙ ap (λ (xs : List ℕ). xs ++ n ∷ []) c.loop-unknown.invariant ∙ ap (λ (x : ℕ). range_with_len 0 n ++ x ∷ []) (sym z)
    ∙ sym (range_more 0 n) ∙ ap (range_with_len 0) e

pub invariant_of-result : goal.invariant_of-result
invariant_of-result c =
    let s = c.args.system.now in
    let n = length-range_with_len 0 c.loop-unknown.unknown in
    let e = ap (λ (xs : List ℕ). length xs) c.loop-unknown.invariant in
    let columns : length c.loop-unknown.non_basic.items ≡ c.args.system.now.unknowns = omega arith in
    let empty : c.new-rows.result.items ≡ [] = search rules in
    let none : c.args.system.now.unknowns + 0 ≡ c.args.system.now.unknowns = omega arith in
    let is : c.push_heads.new.heads.items ≡ slack_heads s.unknowns s.rows = c.in_ok-push_heads.ensures
    ∙ ap (λ (xs : List RowHead). xs ++ slack_heads (s.unknowns + 0) s.rows) empty ∙ ap (λ (m : ℕ). slack_heads m s.rows) none in
    let rows : length c.push_heads.new.heads.items ≡ length c.args.system.now.rows = ap (λ (hs : List RowHead). length hs) is
    ∙ length-slack_heads s.unknowns s.rows in
    record {
      linked = c.in_ok-links.ensures.sound;
      rows_long = c.in_ok-links.ensures.rows ∙ sym rows;
      columns_long = c.in_ok-links.ensures.columns ∙ sym columns;
      rows_fit = omega arith;
      columns_fit = omega arith;
      proper = subst AreProperHeads (sym is) (proper_slacks s.unknowns s.rows);
    }

pub returns-clause-value : goal.returns-clause-value
returns-clause-value c =
    let s = c.args.system.now in
    let cells = c.in_ok-links.links.cells.items in
    let n = length-range_with_len 0 c.loop-unknown.unknown in
    let e = ap (λ (xs : List ℕ). length xs) c.loop-unknown.invariant in
    let columns : length c.loop-unknown.non_basic.items ≡ c.args.system.now.unknowns = omega arith in
    let all : c.loop-unknown.unknown ≡ c.args.system.now.unknowns = omega arith in
    let empty : c.new-rows.result.items ≡ [] = search rules in
    let none : c.args.system.now.unknowns + 0 ≡ c.args.system.now.unknowns = omega arith in
    let is : c.push_heads.new.heads.items ≡ slack_heads s.unknowns s.rows = c.in_ok-push_heads.ensures
    ∙ ap (λ (xs : List RowHead). xs ++ slack_heads (s.unknowns + 0) s.rows) empty ∙ ap (λ (m : ℕ). slack_heads m s.rows) none in
    let rows = ap (λ (k : ℕ). table_rows cells k 0 c.push_heads.new.heads.items) columns ∙ ap (table_rows cells s.unknowns 0) is
    ∙ table_is cells s.unknowns s.unknowns 0 s.rows (λ i j d h. ap (λ (k : ℕ). value_in cells k j) (omega arith) ∙ c.in_ok-links.ensures.shows i j d h) in
    slack_tableau-is s c.loop-unknown.non_basic.items (table_rows cells (length c.loop-unknown.non_basic.items) 0 c.push_heads.new.heads.items)
    (c.loop-unknown.invariant ∙ ap (range_with_len 0) all) rows

pub returns-clause-full : goal.returns-clause-full
returns-clause-full c = full_live c.in_ok-links.links.cells.items c.in_ok-links.links.free_head c.in_ok-links.ensures.free c.in_ok-links.ensures.sound.free
