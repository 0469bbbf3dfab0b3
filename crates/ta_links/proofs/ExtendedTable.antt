-- The dictionary of a longer system
use Rattle.ta_links.proofs.Common.{◌≡◌, ℕ, ◌+◌, ◌-◌, ◌<◌, ◌≤◌, List, ◌∷◌, [], ◌++◌, length, map, take, drop, get_or, arith, sym, ap, ◌∙◌, subst, get_or-take}
use Rattle.ta_links.proofs.Common.{names_long, range_with_len, Row, TableauRow, basic_of, slack_rows, raised, widened, extended, FirstLeaving, KeptPivot}
use Rattle.ta_links.proofs.Common.{kept_at, chosen_row, carried, StayInRange, FirstRefused, Cell, RowHead, LinkedCells, Inside, AreSound, value_in, Linked}
use Rattle.ta_links.proofs.Common.{table_rows, no_head, AreProperHeads, IsProperHead, linked_of, RowsShow, slack_heads, rows_from, IsRoom, raised_head}
use Rattle.ta_links.proofs.Common.{AllCarried, IsRefusal}
use Rattle.ta_linear.specs.declared.row.System.{System}
use Rattle.ta_links.proofs.LinkedFacts.{length-table_rows, table_row_at}
use Rattle.ta_links.proofs.ExtendedRows.{Lengthened, new_rows_begin, begun_room, extended_table}
use Rattle.ta_base.proofs.Lists.{taken_long}

-- the basic variable of a row
pub basic_is : (inside : Inside) (d : Linked) (i : ℕ) → linked_of inside ≡ d → i < length inside.rows.items
    → basic_of d.tableau i ≡ (get_or inside.rows.items i no_head).basic
basic_is inside d i view b = ap (λ (e : Linked). basic_of e.tableau i) (sym view)
    ∙ ap (λ (r : TableauRow). r.basic) (table_row_at inside.links.cells.items (length inside.non_basic.items) 0 inside.rows.items i b)

-- the heads and cells before the new rows are carried
pub lengthen : (u m first last : ℕ) (hs heads : List RowHead) (old : LinkedCells) (rows : List Row) (hs1 : List RowHead) (l1 : LinkedCells) → heads ≡ hs
    → first ≡ length hs → u ≤ m → first ≤ last → last ≡ length rows →
    hs1 ≡ (map (raised_head u (m - u)) heads ++ slack_heads (m + length heads) (drop (length heads) rows)) ++ no_head ∷ []
    → RowsShow first (value_in old.cells.items) rows (length rows) (value_in l1.cells.items) → Lengthened u (m - u) first (last - first) hs old rows hs1 l1
lengthen u m first last hs heads old rows hs1 l1 same long few low all is shows =
    let em : m ≡ u + (m - u) = omega arith in
    let ef : length heads ≡ first = ap (λ (xs : List RowHead). length xs) same ∙ sym long in
    record {
      heads = is ∙ ap (λ (xs : List RowHead). (map (raised_head u (m - u)) xs ++ slack_heads (m + length heads) (drop (length heads) rows)) ++ no_head ∷ [])
          same
          ∙ ap (λ (f : ℕ). (map (raised_head u (m - u)) hs ++ slack_heads (m + f) (drop f rows)) ++ no_head ∷ []) ef
          ∙ ap (λ (k : ℕ). (map (raised_head u (m - u)) hs ++ slack_heads (k + first) (drop first rows)) ++ no_head ∷ []) em;
      long = long;
      all = omega arith;
      shows = shows;
    }

pub room_for : {u first : ℕ} {hs : List RowHead} {old : LinkedCells} {rows : List Row} {hs1 : List RowHead} {l1 : LinkedCells} (m last : ℕ) → u ≤ m
    → Lengthened u (m - u) first (last - first) hs old rows hs1 l1 → AreProperHeads hs → AreSound l1 → length l1.row_heads.items ≡ length rows + 1
    → length l1.column_heads.items ≡ m →
    IsRoom m (first + (last - first)) hs1 l1
room_for {u} {first} {hs} {old} {rows} {hs1} {l1} m last few w proper sound rl cl =
    let em : u + (m - u) ≡ m = omega arith in
    subst (λ (k : ℕ). IsRoom k (first + (last - first)) hs1 l1) em
    (begun_room u (m - u) first (last - first) hs old rows hs1 l1 w proper sound rl (cl ∙ sym em))

-- the new rows
news : {u first : ℕ} {hs : List RowHead} {old : LinkedCells} {rows : List Row} {hs1 : List RowHead} {l1 : LinkedCells} (us : List ℕ) (m last : ℕ) → u ≤ m
    → Lengthened u (m - u) first (last - first) hs old rows hs1 l1 →
    rows_from hs1 l1 m first (last - first) ≡ slack_rows m (m + length (table_rows old.cells.items (length us) 0 hs))
    (drop (length (table_rows old.cells.items (length us) 0 hs)) rows)
news {u} {first} {hs} {old} {rows} {hs1} {l1} us m last few w =
    let em : u + (m - u) ≡ m = omega arith in
    let ef : first ≡ length (table_rows old.cells.items (length us) 0 hs) = w.long ∙ sym (length-table_rows old.cells.items (length us) 0 hs) in
    ap (λ (k : ℕ). rows_from hs1 l1 k first (last - first)) (sym em) ∙ new_rows_begin u (m - u) first (last - first) hs old rows hs1 l1 w
    ∙ ap (λ (k : ℕ). slack_rows k (k + first) (drop first rows)) em ∙ ap (λ (f : ℕ). slack_rows m (m + f) (drop f rows)) ef

pub extend_is : {u first : ℕ} {hs hs1 hs2 : List RowHead} {old l1 l2 : LinkedCells} (us nb : List ℕ) (hs3 : List RowHead) (cells : List Cell) (s : System)
    (ks : List KeptPivot) (last : ℕ) → u ≡ length us → u ≤ s.unknowns → first ≤ last → Lengthened u (s.unknowns - u) first (last - first) hs old s.rows hs1 l1
    → AreSound old → length old.column_heads.items ≡ u →
    AllCarried s.unknowns first (last - first) ks (length ks) hs1 l1 hs2 l2 → hs3 ≡ take last hs2 → cells ≡ l2.cells.items
    → nb ≡ map (raised u (s.unknowns - u)) us ++ range_with_len u (s.unknowns - u) →
    record { non_basic = nb; rows = table_rows cells (length nb) 0 hs3 } ≡ extended
    (record { non_basic = us; rows = table_rows old.cells.items (length us) 0 hs }) ks s
extend_is {u} {first} {hs} {hs1} {hs2} {old} {l1} {l2} us nb hs3 cells s ks last eu few low w sound cl a dropped same names =
    let em : u + (s.unknowns - u) ≡ s.unknowns = omega arith in
    let el : first + (last - first) ≡ last = omega arith in
    let wide : length nb ≡ u + (s.unknowns - u) = names_long us nb u s.unknowns few eu names ∙ sym em in
    let table = extended_table u (s.unknowns - u) first (last - first) hs old s.rows hs1 hs2 hs3 l1 l2 w sound cl a.kept a.room.long
    (dropped ∙ ap (λ (k : ℕ). take k hs2) (sym el)) in
    let more = ap (λ (k : ℕ). rows_from hs2 l2 k first (last - first)) em ∙ a.rows ∙ ap (carried s.unknowns ks (length ks)) (news us s.unknowns last few w) in
    let wider = map (widened u (s.unknowns - u)) (table_rows old.cells.items u 0 hs) in
    let rest = carried s.unknowns ks (length ks)
    (slack_rows s.unknowns (s.unknowns + length (table_rows old.cells.items (length us) 0 hs))
    (drop (length (table_rows old.cells.items (length us) 0 hs)) s.rows)) in
    let rows_ = ap (λ (xs : List Cell). table_rows xs (length nb) 0 hs3) same ∙ ap (λ (k : ℕ). table_rows l2.cells.items k 0 hs3) wide ∙ table
    ∙ ap (λ (xs : List TableauRow). wider ++ xs) more
    ∙ ap (λ (k : ℕ). map (widened k (s.unknowns - k)) (table_rows old.cells.items k 0 hs) ++ rest) eu in
    let names_ = names ∙ ap (λ (k : ℕ). map (raised k (s.unknowns - k)) us ++ range_with_len k (s.unknowns - k)) eu in
    let all = map (widened (length us) (s.unknowns - length us)) (table_rows old.cells.items (length us) 0 hs) ++ rest in
    ap (λ (rs : List TableauRow). record { non_basic = nb; rows = rs }) rows_ ∙ ap (λ (ns : List ℕ). record { non_basic = ns; rows = all }) names_

pub extend_within : {u first : ℕ} {hs hs1 hs2 : List RowHead} {old l1 l2 : LinkedCells} (us : List ℕ) (s : System) (ks : List KeptPivot) (last : ℕ)
    → u ≤ s.unknowns → Lengthened u (s.unknowns - u) first (last - first) hs old s.rows hs1 l1
    → AllCarried s.unknowns first (last - first) ks (length ks) hs1 l1 hs2 l2 →
    StayInRange s.unknowns ks (length ks)
    (slack_rows s.unknowns (s.unknowns + length (table_rows old.cells.items (length us) 0 hs))
    (drop (length (table_rows old.cells.items (length us) 0 hs)) s.rows))
extend_within us s ks last few w a = subst (StayInRange s.unknowns ks (length ks)) (news us s.unknowns last few w) a.within

pub extend_refused : {u first : ℕ} {hs hs1 : List RowHead} {old l1 : LinkedCells} (us : List ℕ) (s : System) (ks : List KeptPivot) (last pivot row : ℕ)
    → u ≤ s.unknowns → Lengthened u (s.unknowns - u) first (last - first) hs old s.rows hs1 l1 → pivot < length ks
    → IsRefusal s.unknowns first (last - first) ks hs1 l1 pivot row →
    FirstLeaving (record { non_basic = us; rows = table_rows old.cells.items (length us) 0 hs }) ks s pivot row
extend_refused {u} {first} {hs} {hs1} {old} {l1} us s ks last pivot row few w below r =
    let is = news us s.unknowns last few w in
    let rows_ = length-table_rows old.cells.items (length us) 0 hs in
    record {
      below = below;
      before = subst (StayInRange s.unknowns ks pivot) is r.before;
      new = row - first;
      number = omega arith;
      refused = subst (λ (xs : List TableauRow). FirstRefused (kept_at ks pivot).column (chosen_row s.unknowns (kept_at ks pivot))
          (carried s.unknowns ks pivot xs) (row - first)) is r.refused;
    }

pub taken_proper : (last : ℕ) (hs hs' : List RowHead) → hs' ≡ take last hs → length hs ≡ last + 1 → AreProperHeads hs → AreProperHeads hs'
taken_proper last hs hs' e long proper i b =
    let short = taken_long last hs hs' e long in
    subst IsProperHead (sym (ap (λ (xs : List RowHead). get_or xs i no_head) e ∙ get_or-take last hs i no_head (omega arith))) (proper i (omega arith))
