-- A text is that of a template, or has a first error.
use Rattle.ta_search.proofs.Common.{ℕ, ◌+◌, ◌<◌, ◌≤◌, ◌≡◌, ◌⊎◌, ◌++◌, inl, inr, List, [], ◌∷◌, length, codes, Option, None, Some, refl, sym, ap, subst, ◌∙◌}
use Rattle.ta_search.proofs.Common.{append_assoc, arith, bytes_eq, cases_Bool, cases_eq, cases_lt, false≢true, bytes_eq-Decides, SplitAt, Avoids, avoids-append}
use Rattle.ta_search.proofs.Common.{Hole, AreHoles, AreTooMany, HoleInRange, IsSpelledHole, head_text, hole_line, is_among, unknown_place, vector_count}
use Rattle.ta_search.specs.declared.fault.TemplateFault.TheVariants as fault
use Rattle.ta_search.specs.Laws.{HasTemplate, HasTemplateFault}
use Rattle.ta_search.proofs.Heads.{Read, head_read, read_more, read_none, read_refused, read_unfinished}

-- holes with one more are too many, or not
many_or : (hs : List Hole) → AreTooMany hs ⊎ ((length hs ≤ 4) × (vector_count hs ≤ 10000))
many_or hs = elim (cases_lt 4 (length hs)) [
  | inl five ↦ inl (inl five)
  | inr few ↦ elim (cases_lt 10000 (vector_count hs)) [
    | inl many ↦ inl (inr many)
    | inr some ↦ inr (omega arith, omega arith)
  ]
]

-- a hole is in range, or not
range_or : (h : Hole) → ((h.high < h.low) ⊎ (1000000000 < h.high)) ⊎ HoleInRange h
range_or h = elim (cases_lt h.high h.low) [
  | inl less ↦ inl (inl less)
  | inr some ↦ elim (cases_lt 1000000000 h.high) [
    | inl large ↦ inl (inr large)
    | inr small ↦ inr (record { some = omega arith; small = omega arith })
  ]
]

module _ (bytes : List ℕ) (no_template : ¬ HasTemplate bytes) (no_fault : ¬ HasTemplateFault bytes) where
  body : (hs : List Hole) (behind : List ℕ) (o : Option ℕ) → AreHoles hs → bytes ≡ head_text hs ++ behind → unknown_place hs behind ≡ o → ⊥
  body hs behind None are text e = no_template (record { holes = hs; body = behind; legal = are; known = e }, sym text)
  body hs behind (Some place) are text e = no_fault
      (fault.UnknownHole (length (head_text hs) + place), record { hs = hs; body = behind; place = place; holes = are; text = text; first = e; at = refl })

  -- the line of a hole
  at_hole : (hs : List Hole) (rest line behind : List ℕ) (h : Hole) → Read bytes hs rest → SplitAt 10 rest line behind → (line ≡ codes "begin" → ⊥)
      → IsSpelledHole h → line ≡ hole_line h → ((g : Hole) → Read bytes (hs ++ g ∷ []) behind → ⊥) → ⊥
  at_hole hs rest line behind h read parted other spelled text next =
      elim (cases_Bool (is_among hs h.name)) [
        | inl before ↦ no_fault (
          fault.Repeated (length hs + 1),
          read_refused bytes rest line behind hs (length hs + 1) (fault.Repeated (length hs + 1)) read
              parted other refl (h, spelled, text, (refl, before)),
        )
        | inr fresh ↦ elim (range_or h) [
          | inl out ↦ no_fault (
            fault.Range (length hs + 1),
            read_refused bytes rest line behind hs (length hs + 1) (fault.Range (length hs + 1)) read parted
                other refl (h, spelled, text, (refl, fresh, out)),
          )
          | inr range ↦ elim (many_or (hs ++ h ∷ [])) [
            | inl many ↦ no_fault (
              fault.TooMany (length hs + 1),
              read_refused bytes rest line behind hs (length hs + 1) (fault.TooMany (length hs + 1)) read
                  parted other refl (h, spelled, text, (refl, fresh, range, many)),
            )
            | inr few ↦ next h (read_more bytes rest line behind hs h read parted
                (record { spelled = spelled; text = text; fresh = fresh; range = range; few = few.0; vectors = few.1 }))
          ]
        ]
      ]

  -- a line
  at_line : (hs : List Hole) (rest line behind : List ℕ) → Read bytes hs rest → SplitAt 10 rest line behind
      → ((g : Hole) → Read bytes (hs ++ g ∷ []) behind → ⊥) → ⊥
  at_line hs rest line behind read parted next =
      elim (cases_Bool (bytes_eq line (codes "begin"))) [
        | inl is ↦ body hs behind (unknown_place hs behind) read.holes
            (head_read bytes rest line behind hs read parted ((bytes_eq-Decides line (codes "begin")).0 is)) refl
        | inr e ↦ (
            let other : line ≡ codes "begin" → ⊥ = λ same. false≢true (sym e ∙ (bytes_eq-Decides line (codes "begin")).1 same) in
            no_fault (
              fault.Line (length hs + 1),
              read_refused bytes rest line behind hs (length hs + 1) (fault.Line (length hs + 1)) read parted other refl
                  (refl, λ h spelled text. at_hole hs rest line behind h read parted other spelled text next),
            ))
      ]

  -- behind the first bytes of a line
  going : (hs : List Hole) (line rest : List ℕ) → Read bytes hs (line ++ rest) → Avoids 10 line → ⊥
  going hs line [] read none = no_fault
      (fault.Line (length hs + 1), read_unfinished bytes (line ++ []) hs (length hs + 1) read (avoids-append 10 line [] none tt) refl)
  going hs line (b ∷ rest) read none =
      elim (cases_eq b 10) [
        | inl e ↦ at_line hs (line ++ (b ∷ rest)) line rest read (record { split = ap (λ x. line ++ (x ∷ rest)) e; first = none })
            (λ g next. going (hs ++ g ∷ []) [] rest next tt)
        | inr ne ↦ going hs (line ++ b ∷ []) rest (subst (λ xs. Read bytes hs xs) (sym (append_assoc line (b ∷ []) rest)) read)
            (avoids-append 10 line (b ∷ []) none (ne, tt))
      ]

  pub text_answers : ⊥
  text_answers = going [] [] bytes (read_none bytes) tt
