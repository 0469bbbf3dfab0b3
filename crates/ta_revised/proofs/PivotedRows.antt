-- the rows after a pivot, where they are written back
use Rattle.ta_revised.proofs.Common.{◌≡◌, ◌++◌, ℕ, List, length, take, ap, sym, subst, ◌∙◌, TableauRow, unknown_rows, UnknownRow}
use Rattle.std.proofs.Math.Seq.{take-append_seam}
use Rattle.ta_revised.specs.UnknownRows.{AreAfter}

-- the first items of two lists are the first list
first_items : (count : ℕ) (xs ys : List UnknownRow) → length xs ≡ count → take count (xs ++ ys) ≡ xs
first_items count xs ys e = subst (λ (n : ℕ). take n (xs ++ ys) ≡ xs) e (take-append_seam xs ys)

pub after_pivot : (n wide m column count : ℕ) (chosen : TableauRow) (whole : List TableauRow) (inside old new rest : List UnknownRow)
    → wide ≡ n → m ≡ n → unknown_rows n inside ≡ whole → old ≡ inside → length new ≡ count
    → AreAfter wide column chosen (unknown_rows wide old) (unknown_rows wide new)
    → AreAfter n column chosen whole (unknown_rows m (take count (new ++ rest)))
after_pivot n wide m column count chosen whole inside old new rest e f view is l after =
    let before : unknown_rows wide old ≡ whole = ap (unknown_rows wide) is ∙ ap (λ (k : ℕ). unknown_rows k inside) e ∙ view in
    let behind : unknown_rows wide new ≡ unknown_rows m (take count (new ++ rest)) = ap (λ (k : ℕ). unknown_rows k new) (e ∙ sym f)
    ∙ ap (unknown_rows m) (sym (first_items count new rest l)) in
    subst (λ (k : ℕ). AreAfter k column chosen whole (unknown_rows m (take count (new ++ rest)))) e
    (subst (λ (rs : List TableauRow). AreAfter wide column chosen whole rs) behind
    (subst (λ (rs : List TableauRow). AreAfter wide column chosen rs (unknown_rows wide new)) before after))
