-- Reading lists that may be absent.
use Rattle.ta_syntax.proofs.Common.{◌≡◌, ℕ, ◌≤◌, List, [], ◌∷◌, ◌++◌, sym, subst, arith, listed, led, ended, Offsets, unplaced, Kind, Mark, Token, Production}
use Rattle.ta_syntax.proofs.Common.{TookSome, TookUpTo, BeginsWithKind, IsOther}
use Rattle.ta_syntax.proofs.Steps.{then, past, chosen, not_chosen, take_mark, stands_mark, other_mark, maybe_taken, maybe_skipped}
use Rattle.ta_syntax.specs.declared.tokens.Kind.TheVariants as kind
use Rattle.ta_syntax.specs.declared.tokens.Mark.TheVariants as mark
use Rattle.ta_syntax.specs.FileGrammar as grammar

module _ {A : Type 0} (g : Production) (spelled : A → List Kind) (stated : A → List Offsets) (limit : ℕ) (m : Mark) where
  abbrev Led : List A → List Token → List Token → Type 0
  Led items tokens rest = TookUpTo limit items (grammar.led m limit g) (led kind.Fixed m spelled items) (led unplaced m stated items) tokens rest

  pub led_absent : (tokens : List Token) (items : List A) → items ≡ [] → IsOther tokens m → Led items tokens tokens
  led_absent tokens items none other = subst (λ (z : List A). Led z tokens tokens) (sym none) (record { few = omega arith; took = maybe_skipped m other })

  pub took_led : (items : List A) (tokens inner rest : List Token) → BeginsWithKind tokens (kind.Fixed m) inner
      → TookSome limit items (grammar.items limit g) (listed kind.Fixed spelled items) (listed unplaced stated items) inner rest → Led items tokens rest
  took_led [] tokens inner rest b t = let some : 1 ≤ 0 = t.some in absurd (omega arith)
  took_led (x ∷ xs) tokens inner rest b t = record { few = t.few; took = then (maybe_taken m b) t.took }

  abbrev Ended : List A → List Token → List Token → Type 0
  Ended items tokens rest = TookUpTo limit items (grammar.ended m limit g) (ended kind.Fixed m spelled items) (ended unplaced m stated items) tokens rest

  abbrev End : List A → List Token → List Token → Type 0
  End items tokens rest = TookSome limit items (grammar.list_end limit g) (listed kind.Fixed spelled items ++ kind.Fixed mark.Semicolon ∷ [])
      (listed unplaced stated items ++ [] ∷ []) tokens rest

  pub ended_absent : (tokens : List Token) (items : List A) → items ≡ [] → IsOther tokens m → Ended items tokens tokens
  ended_absent tokens items none other = subst (λ (z : List A). Ended z tokens tokens) (sym none) (record { few = omega arith; took = maybe_skipped m other })

  pub took_ended : (items : List A) (tokens inner rest : List Token) → BeginsWithKind tokens (kind.Fixed m) inner → End items inner rest
      → Ended items tokens rest
  took_ended [] tokens inner rest b t = let some : 1 ≤ 0 = t.some in absurd (omega arith)
  took_ended (x ∷ xs) tokens inner rest b t = record { few = t.few; took = then (maybe_taken m b) t.took }

  abbrev Declared : List A → List Token → List Token → Type 0
  Declared items tokens rest = TookUpTo limit items (grammar.declared_list m limit g)
      (kind.Fixed m ∷ (listed kind.Fixed spelled items ++ kind.Fixed mark.Semicolon ∷ [])) ([] ∷ (listed unplaced stated items ++ [] ∷ [])) tokens rest

  pub declared_absent : (tokens inner rest : List Token) (items : List A) → items ≡ [] → BeginsWithKind tokens (kind.Fixed m) inner
      → BeginsWithKind inner (kind.Fixed mark.Semicolon) rest → Declared items tokens rest
  declared_absent tokens inner rest items none b d = subst (λ (z : List A). Declared z tokens rest) (sym none)
      (record { few = omega arith; took = then (past (take_mark m b)) (then (chosen (stands_mark mark.Semicolon d)) (take_mark mark.Semicolon d)) })

  pub took_declared : (items : List A) (tokens inner rest : List Token) → BeginsWithKind tokens (kind.Fixed m) inner → IsOther inner mark.Semicolon
      → End items inner rest → Declared items tokens rest
  took_declared items tokens inner rest b other t = record {
    few = t.few;
    took = then (past (take_mark m b)) (then (not_chosen (other_mark mark.Semicolon inner other)) t.took);
  }
