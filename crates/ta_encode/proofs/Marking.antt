-- marks: one more, and fewer
use Rattle.ta_encode.proofs.Common.{◌≡◌, inl, inr, ℕ, ◌+◌, ◌<◌, ◌≤◌, List, [], ◌∷◌, ◌++◌, length, reverse, take, arith, refl, sym, ap, ◌∙◌, subst, take-length}
use Rattle.ta_encode.proofs.Common.{cases_lt, append-nil, length-take-le, get_or_append_left, get_or_push, get_or-take, take-append-le, Row, Automaton, Pattern}
use Rattle.ta_encode.proofs.Common.{Element, Meaning, IsDraftOf, IsBehind, AreMarks, IsPart, MarkHolds, SameRows, mark_at, no_mark, Mark, Origin, length-append}
use Rattle.ta_encode.proofs.Common.{take-take, fewer_alike}
use Rattle.ta_encode.specs.declared.growing.Part.{Part}

behind_take : {X : Type 0} (n : ℕ) (before after : List X) → IsBehind before after → n ≤ length before → take n after ≡ take n before
behind_take n before after b h = ap (take n) b.is ∙ take-append-le n before b.more h

behind_long : {X : Type 0} (before after : List X) → IsBehind before after → length before ≤ length after
behind_long {X = X} before after b = let l = ap (λ (xs : List X). length xs) b.is ∙ length-append before b.more in omega arith

-- what a mark says stays where more comes behind
holds_on : (a : Automaton) (p : Pattern) (start : ℕ) (elements : List Element) (ms ns : List Meaning) (rows qs : List Row) (i : ℕ) (mark : Mark)
    → IsBehind ms ns → IsBehind rows qs → MarkHolds a p start elements ms rows i mark → MarkHolds a p start elements ns qs i mark
holds_on a p start elements ms ns rows qs i mark b c h =
    let l = behind_long ms ns b in
    let k = behind_long rows qs c in
    let u = h.unknowns_within in
    let r = h.rows_within in
    record {
      unknowns_within = omega arith;
      rows_within = omega arith;
      drafted =
          subst (λ (xs : List Meaning). IsDraftOf a p start (reverse (take i elements)) xs (take mark.rows qs)) (sym (behind_take mark.unknowns ms ns b u))
          (subst (λ (xs : List Row). IsDraftOf a p start (reverse (take i elements)) (take mark.unknowns ms) xs) (sym (behind_take mark.rows rows qs c r))
          h.drafted);
    }

-- a mark at the end
holds_last : (a : Automaton) (p : Pattern) (start : ℕ) (elements : List Element) (ms : List Meaning) (rows : List Row) (i : ℕ) (mark : Mark)
    → mark.unknowns ≡ length ms → mark.rows ≡ length rows → IsDraftOf a p start (reverse (take i elements)) ms rows
    → MarkHolds a p start elements ms rows i mark
holds_last a p start elements ms rows i mark e f d = record {
  unknowns_within = omega arith;
  rows_within = omega arith;
  drafted =
      subst (λ (xs : List Meaning). IsDraftOf a p start (reverse (take i elements)) xs (take mark.rows rows))
      (sym (ap (λ (n : ℕ). take n ms) e ∙ take-length ms))
      (subst (λ (xs : List Row). IsDraftOf a p start (reverse (take i elements)) ms xs) (sym (ap (λ (n : ℕ). take n rows) f ∙ take-length rows)) d);
}

-- one mark more
pub marks_push : (a : Automaton) (p : Pattern) (start : ℕ) (elements : List Element) (ms ns : List Meaning) (rows qs : List Row) (marks more : List Mark)
    (mark : Mark) → AreMarks a p start elements ms rows marks →
    IsBehind ms ns → IsBehind rows qs → more ≡ marks ++ mark ∷ [] → mark.unknowns ≡ length ns → mark.rows ≡ length qs
    → IsDraftOf a p start (reverse (take (length marks) elements)) ns qs → AreMarks a p start elements ns qs more
marks_push a p start elements ms ns rows qs marks more mark are b c e f g d =
    subst (λ (all : List Mark). AreMarks a p start elements ns qs all) (sym e)
    (let l = length-append marks (mark ∷ []) in
    let last : mark_at (marks ++ mark ∷ []) (length marks) ≡ mark = get_or_push marks mark no_mark (length marks) refl in
    record {
      holds = λ i h. elim (cases_lt i (length marks)) [
        | inl old ↦ subst (λ (m : Mark). MarkHolds a p start elements ns qs i m) (sym (get_or_append_left marks (mark ∷ []) no_mark i old))
            (holds_on a p start elements ms ns rows qs i (mark_at marks i) b c (are.holds i old))
        | inr new ↦
            let same : i ≡ length marks = omega arith in
            subst (λ (j : ℕ). MarkHolds a p start elements ns qs j (mark_at (marks ++ mark ∷ []) j)) (sym same)
            (subst (λ (m : Mark). MarkHolds a p start elements ns qs (length marks) m) (sym last)
            (holds_last a p start elements ns qs (length marks) mark f g d))
      ];
      rise = λ i j low h. elim (cases_lt j (length marks)) [
        | inl old ↦
            subst (λ (m : Mark). (m.unknowns ≤ (mark_at (marks ++ mark ∷ []) j).unknowns) × (m.rows ≤ (mark_at (marks ++ mark ∷ []) j).rows))
            (sym (get_or_append_left marks (mark ∷ []) no_mark i (omega arith)))
            (subst (λ (m : Mark). ((mark_at marks i).unknowns ≤ m.unknowns) × ((mark_at marks i).rows ≤ m.rows))
            (sym (get_or_append_left marks (mark ∷ []) no_mark j old)) (are.rise i j low old))
        | inr new ↦
            let same : j ≡ length marks = omega arith in
            subst (λ (k : ℕ). ((mark_at (marks ++ mark ∷ []) i).unknowns ≤ (mark_at (marks ++ mark ∷ []) k).unknowns)
            × ((mark_at (marks ++ mark ∷ []) i).rows ≤ (mark_at (marks ++ mark ∷ []) k).rows)) (sym same)
            (subst (λ (m : Mark). ((mark_at (marks ++ mark ∷ []) i).unknowns ≤ m.unknowns) × ((mark_at (marks ++ mark ∷ []) i).rows ≤ m.rows)) (sym last)
            (elim (cases_lt i (length marks)) [
              | inl before ↦
                  let at = get_or_append_left marks (mark ∷ []) no_mark i before in
                  let u = (are.holds i before).unknowns_within in
                  let r = (are.holds i before).rows_within in
                  let x = behind_long ms ns b in
                  let y = behind_long rows qs c in
                  subst (λ (m : Mark). (m.unknowns ≤ mark.unknowns) × (m.rows ≤ mark.rows)) (sym at) (omega arith, omega arith)
              | inr here ↦
                  let is : i ≡ length marks = omega arith in
                  subst (λ (k : ℕ). ((mark_at (marks ++ mark ∷ []) k).unknowns ≤ mark.unknowns) × ((mark_at (marks ++ mark ∷ []) k).rows ≤ mark.rows)) (sym is)
                  (subst (λ (m : Mark). (m.unknowns ≤ mark.unknowns) × (m.rows ≤ mark.rows)) (sym last) (omega arith, omega arith))
            ]))
      ];
    })

-- fewer marks, and the unknowns and rows cut behind the last of them
holds_cut : (a : Automaton) (p : Pattern) (start : ℕ) (elements others : List Element) (ms : List Meaning) (rows : List Row) (i n r : ℕ) (mark : Mark)
    → take i elements ≡ take i others → mark.unknowns ≤ n → n ≤ length ms → mark.rows ≤ r → r ≤ length rows →
    MarkHolds a p start elements ms rows i mark → MarkHolds a p start others (take n ms) (take r rows) i mark
holds_cut a p start elements others ms rows i n r mark e h k x y holds =
    let l = length-take-le n ms k in
    let m = length-take-le r rows y in
    record {
      unknowns_within = omega arith;
      rows_within = omega arith;
      drafted =
          subst (λ (w : List Element). IsDraftOf a p start (reverse w) (take mark.unknowns (take n ms)) (take mark.rows (take r rows))) e
          (subst (λ (xs : List Meaning). IsDraftOf a p start (reverse (take i elements)) xs (take mark.rows (take r rows)))
          (sym (take-take mark.unknowns n ms h))
          (subst (λ (xs : List Row). IsDraftOf a p start (reverse (take i elements)) (take mark.unknowns ms) xs) (sym (take-take mark.rows r rows x))
          holds.drafted));
    }

pub marks_cut : (a : Automaton) (p : Pattern) (start : ℕ) (elements others : List Element) (ms : List Meaning) (rows : List Row) (marks : List Mark)
    (shared : ℕ) → AreMarks a p start elements ms rows marks → shared < length marks → take shared elements ≡ take shared others →
    AreMarks a p start others (take (mark_at marks shared).unknowns ms) (take (mark_at marks shared).rows rows) (take (shared + 1) marks)
    × IsDraftOf a p start (reverse (take shared others)) (take (mark_at marks shared).unknowns ms) (take (mark_at marks shared).rows rows)
marks_cut a p start elements others ms rows marks shared are h e =
    let last = mark_at marks shared in
    let here = are.holds shared h in
    let l = length-take-le (shared + 1) marks (omega arith) in
    let at : (i : ℕ) → i < shared + 1 → mark_at (take (shared + 1) marks) i ≡ mark_at marks i = λ i below. get_or-take (shared + 1) marks i no_mark below in (
      record {
        holds = λ i below.
            let rises = are.rise i shared (omega arith) h in
            subst (λ (m : Mark). MarkHolds a p start others (take last.unknowns ms) (take last.rows rows) i m) (sym (at i (omega arith)))
            (holds_cut a p start elements others ms rows i last.unknowns last.rows (mark_at marks i) (fewer_alike i shared elements others (omega arith) e)
            rises.0 here.unknowns_within rises.1 here.rows_within (are.holds i (omega arith)));
        rise = λ i j low below.
            subst (λ (m : Mark). (m.unknowns ≤ (mark_at (take (shared + 1) marks) j).unknowns) × (m.rows ≤ (mark_at (take (shared + 1) marks) j).rows))
            (sym (at i (omega arith)))
            (subst (λ (m : Mark). ((mark_at marks i).unknowns ≤ m.unknowns) × ((mark_at marks i).rows ≤ m.rows)) (sym (at j (omega arith)))
            (are.rise i j low (omega arith)));
      },
      subst (λ (w : List Element). IsDraftOf a p start (reverse w) (take last.unknowns ms) (take last.rows rows)) e here.drafted,
    )

behind_none : {X : Type 0} (xs : List X) → IsBehind xs xs
behind_none xs = record { more = []; is = sym (append-nil xs) }

-- the mark of the start alone
pub marks_first : (a : Automaton) (p : Pattern) (start : ℕ) (elements : List Element) (ms : List Meaning) (rows : List Row) (none marks : List Mark)
    (mark : Mark) → none ≡ [] → marks ≡ none ++ mark ∷ [] → mark.unknowns ≡ length ms → mark.rows ≡ length rows → IsDraftOf a p start [] ms rows →
    AreMarks a p start elements ms rows marks
marks_first a p start elements ms rows none marks mark empty e f g d =
    marks_push a p start elements ms ms rows rows [] marks mark record { holds = λ i h. absurd (omega arith); rise = λ i j low h. absurd (omega arith) }
    (behind_none ms) (behind_none rows) (e ∙ ap (λ (xs : List Mark). xs ++ mark ∷ []) empty) f g d

-- what stays of a word before
pub part_kept : (o : Origin) (drafted elements : List Element) (ms : List Meaning) (rows : List Row) (marks : List Mark) (part : Part)
    → AreMarks o.task.automaton.now o.task.pattern.now o.start_mask drafted ms rows marks → part.from < length marks → part.from ≤ length elements
    → take part.from drafted ≡ take part.from elements →
    part.draft.automaton.now ≡ o.task.automaton.now → part.marks.items ≡ take (part.from + 1) marks
    → part.draft.meanings.items ≡ take (mark_at marks part.from).unknowns ms → part.draft.rows.items ≡ take (mark_at marks part.from).rows rows
    → part.same ≡ length part.draft.rows.items → IsPart o elements rows part
part_kept o drafted elements ms rows marks part are h k e automaton marks_are ms_are rows_are same =
    let a = o.task.automaton.now in
    let p = o.task.pattern.now in
    let start = o.start_mask in
    let shared = part.from in
    let kept = part.draft in
    let cut = marks_cut a p start drafted elements ms rows marks shared are h e in
    let n = length-take-le (shared + 1) marks (omega arith) in
    let long = ap (λ (xs : List Mark). length xs) marks_are in
    let r = (mark_at marks shared).rows in
    let l = length-take-le r rows (are.holds shared h).rows_within in
    let lengths = ap (λ (xs : List Row). length xs) rows_are in
    let count : part.same ≡ r = omega arith in
    record {
      within = k;
      marked = omega arith;
      marks =
          subst (λ (xs : List Mark). AreMarks a p start elements kept.meanings.items kept.rows.items xs) (sym marks_are)
          (subst (λ (xs : List Meaning). AreMarks a p start elements xs kept.rows.items (take (shared + 1) marks)) (sym ms_are)
          (subst (λ (xs : List Row). AreMarks a p start elements (take (mark_at marks shared).unknowns ms) xs (take (shared + 1) marks)) (sym rows_are) cut.0));
      drafted = record {
        automaton_is = automaton;
        is =
            subst (λ (xs : List Meaning). IsDraftOf a p start (reverse (take shared elements)) xs kept.rows.items) (sym ms_are)
            (subst (λ (xs : List Row). IsDraftOf a p start (reverse (take shared elements)) (take (mark_at marks shared).unknowns ms) xs) (sym rows_are) cut.1);
      };
      same = omega arith;
      rows_are = ap (λ (i : ℕ). take i rows) count ∙ sym rows_are ∙ sym (ap (λ (i : ℕ). take i kept.rows.items) same ∙ take-length kept.rows.items);
    }

-- marks where more rows come behind
pub marks_on : (a : Automaton) (p : Pattern) (start : ℕ) (elements : List Element) (ms : List Meaning) (rows qs : List Row) (marks : List Mark)
    → IsBehind rows qs → AreMarks a p start elements ms rows marks → AreMarks a p start elements ms qs marks
marks_on a p start elements ms rows qs marks b are = record {
  holds = λ i h. holds_on a p start elements ms ms rows qs i (mark_at marks i) (behind_none ms) b (are.holds i h);
  rise = are.rise;
}

-- rows that are the same stay so where more come behind
pub same_on : (before rows after : List Row) (same : ℕ) → same ≤ length rows → take same before ≡ take same rows → IsBehind rows after
    → SameRows before same after
same_on before rows after same h e b =
    let l = behind_long rows after b in
    record { within = omega arith; rows_are = e ∙ sym (behind_take same rows after b h) }

pub same_on_part : (before rows after : List Row) (same other : ℕ) → other ≡ same → same ≤ length rows → take same before ≡ take same rows → IsBehind rows after
    → SameRows before other after
same_on_part before rows after same other e h f b = subst (λ (n : ℕ). SameRows before n after) (sym e) (same_on before rows after same h f b)
